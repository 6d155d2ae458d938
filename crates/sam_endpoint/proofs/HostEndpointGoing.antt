-- Going on with what waits, step by step.
use Rattle.sam_endpoint.proofs.Common.{◌≡◌, ◌⊎◌, ◌<◌, ◌≤◌, take, drop, length, length-append, refl, sym, ap, subst, ◌∙◌, ℕ, List, [], ◌∷◌, ◌++◌, None, Ok, Err, inl, inr, append_assoc, append-nil, arith, All-append, All-cons, All-nil, FitsH, Tmesg, HFrame, host, stream_of, stream_of-append, PlainHost, answer, with_given, map, HostStop, EndpointFault, FitFrames, PlainHostEndpoint, Answers, GoesOn, Serves, writes_of, AnswersFirst, Writes}
use Rattle.std.proofs.Common.{All, length-take-le, take-append-drop}
use Rattle.std.proofs.lemmas.List.{map-append}
use Rattle.sam_host.specs.Marking.{mark_frames, marked}
use Rattle.sam_endpoint.specs.HostEndpoints.{Step, Answered, Joined, Marked}
use Rattle.sam_endpoint.specs.declared.fault.HostStop.TheVariants as stop
use Rattle.sam_endpoint.specs.declared.fault.EndpointFault.TheVariants as fault
use Rattle.std.proofs.lemmas.List.Elements.{All-head, All-tail}
use Rattle.sam_host.specs.Edits.{EditFile, EditsOrChecks, TakesAll}
use Rattle.sam_endpoint.specs.HostSteps.{Handles, TakesEdits, TakesSo, written}

-- ## Answers one after another

pub serves_more : (h : PlainHost) (xs : List Step) (first : List HFrame) (writes : List ℕ) (k : PlainHost) (ys : List Step) (rest : List HFrame) (more : List ℕ) (g : PlainHost)
    → Serves h xs first writes k → Serves k ys rest more g → Serves h (xs ++ ys) (first ++ rest) (writes ++ more) g
serves_more h [] first writes k ys rest more g p q = grind arith
serves_more h (Answered m ∷ xs) first writes k ys rest more g (middle, front, back, noted, answered, frames, notes, serves) q =
    grind (arith, append_assoc, (serves_more middle xs back noted k ys rest more g serves q))
serves_more h (Joined file ∷ xs) first writes k ys rest more g (may, p) q = (may, serves_more (with_given h file) xs first writes k ys rest more g p q)
serves_more h (Marked f ∷ xs) first writes k ys rest more g (back, may, frames, p) q = (
  back ++ rest,
  may,
  ap (λ (l : List HFrame). l ++ rest) frames ∙ append_assoc (mark_frames h f) back rest,
  serves_more (marked h f) xs back writes k ys rest more g p q,
)

bytes_more : (e k g : PlainHostEndpoint) (first rest : List HFrame) → k.pending_bytes ++ stream_of host k.unwritten ≡ e.pending_bytes ++ stream_of host (e.unwritten ++ first)
    → g.pending_bytes ++ stream_of host g.unwritten ≡ k.pending_bytes ++ stream_of host (k.unwritten ++ rest)
    → g.pending_bytes ++ stream_of host g.unwritten ≡ e.pending_bytes ++ stream_of host (e.unwritten ++ (first ++ rest))
bytes_more e k g first rest p q = grind (arith, stream_of-append, append_assoc)

answers_more : (e k g : PlainHostEndpoint) (ms ns : List Tmesg) → Answers e ms k → Answers k ns g → Answers e (ms ++ ns) g
answers_more e k g ms ns p q = record {
  frames = p.frames ++ q.frames;
  more = p.more ++ q.more;
  serves = subst (λ (steps : List Step). Serves e.host steps (p.frames ++ q.frames) (p.more ++ q.more) g.host) (sym (map-append Answered ms ns))
      (serves_more e.host (map Answered ms) p.frames p.more k.host (map Answered ns) q.frames q.more g.host p.serves q.serves);
  frames_fit = All-append (FitsH 2) p.frames q.frames p.frames_fit q.frames_fit;
  waiting = grind (arith, append_assoc);
  bytes = bytes_more e k g p.frames q.frames p.bytes q.bytes;
  writes = grind (arith, append_assoc);
  framer = q.framer ∙ p.framer;
  broken_by = q.broken_by ∙ p.broken_by;
}

-- the oldest message was answered and dropped
pub first_done : (e before g : PlainHostEndpoint) (m : Tmesg) (rest : List Tmesg) (h : PlainHost) (frames : List HFrame) (writes : List ℕ) → before ≡ e
    → g ≡ record before { host = h; waiting = rest; unwritten = frames; writes = writes } → before.waiting ≡ m ∷ rest → answer before.host m ≡ Ok (h, frames)
    → FitFrames frames → writes ≡ before.writes ++ writes_of before.host m → AnswersFirst e g
first_done e before g m rest h frames writes same after waited answered fit noted = grind arith

-- nothing is to be written
pub none_written : (e : PlainHostEndpoint) → e.unwritten ≡ [] → e ≡ written e
none_written e none = grind (arith, append-nil)

-- ## The loop

-- some messages were answered, and all their frames are written
pub record HasGone (e l : PlainHostEndpoint) : Type 0 where
  pub messages : List Tmesg
  pub answers : Answers e messages l
  pub written : l.unwritten ≡ []
  pub goes : l.stop ≡ None

-- an end that answers no message
answers_none : (e g : PlainHostEndpoint) → g ≡ record e { pending_bytes = g.pending_bytes; unwritten = g.unwritten }
    → g.pending_bytes ++ stream_of host g.unwritten ≡ e.pending_bytes ++ stream_of host e.unwritten → Answers e [] g
answers_none e g same bytes = record {
  frames = [];
  more = [];
  serves = (refl, refl, ap (λ (x : PlainHostEndpoint). x.host) same);
  frames_fit = All-nil (FitsH 2);
  waiting = sym (ap (λ (x : PlainHostEndpoint). x.waiting) same);
  bytes = bytes ∙ ap (λ (fs : List HFrame). e.pending_bytes ++ stream_of host fs) (sym (append-nil e.unwritten));
  writes = ap (λ (x : PlainHostEndpoint). x.writes) same ∙ sym (append-nil e.writes);
  framer = ap (λ (x : PlainHostEndpoint). x.framer) same;
  broken_by = ap (λ (x : PlainHostEndpoint). x.broken_by) same;
}

pub answers_nothing : (e : PlainHostEndpoint) → Answers e [] e
answers_nothing e = answers_none e e refl refl

pub answers_written : (e : PlainHostEndpoint) → Answers e [] (written e)
answers_written e = answers_none e (written e) refl (append-nil (e.pending_bytes ++ stream_of host e.unwritten))

then_written : (e k g : PlainHostEndpoint) (ms : List Tmesg) → Answers e ms k → k.stop ≡ None → g ≡ written k → HasGone e g
then_written e k g ms p goes is = subst (λ (x : PlainHostEndpoint). HasGone e x) (sym is)
    (record { messages = ms ++ []; answers = answers_more e k (written k) ms [] p (answers_written k); written = refl; goes = goes })

-- the oldest message was answered, where all frames are written
answers_first : (l k : PlainHostEndpoint) → l.unwritten ≡ [] → (first : AnswersFirst l k) → Answers l (first.message ∷ []) k
answers_first l k none first =
    let writes : List ℕ = writes_of l.host first.message in
    subst (λ (x : PlainHostEndpoint). Answers l (first.message ∷ []) x) (sym first.after) (record {
      frames = first.frames;
      more = writes;
      serves = (first.host, first.frames, [], [], first.answered, sym (append-nil first.frames), sym (append-nil writes), (refl, refl, refl));
      frames_fit = first.frames_fit;
      waiting = first.waited;
      bytes = ap (λ (fs : List HFrame). l.pending_bytes ++ stream_of host (fs ++ first.frames)) (sym none);
      writes = refl;
      framer = refl;
      broken_by = refl;
    })

first_gone : (e l k : PlainHostEndpoint) (gone : HasGone e l) (first : AnswersFirst l k) → Answers e (gone.messages ++ first.message ∷ []) k × (k.stop ≡ None)
first_gone e l k gone first =
    (answers_more e l k gone.messages (first.message ∷ []) gone.answers (answers_first l k gone.written first), ap (λ (x : PlainHostEndpoint). x.stop) first.after ∙ gone.goes)

pub starts : (e g : PlainHostEndpoint) → e.stop ≡ None → g ≡ written e → HasGone e g
starts e g goes is = then_written e e g [] (answers_nothing e) goes is

-- a message that edits, and a check, tell the host to write nothing
no_write : (h : PlainHost) (f : ℕ) (m : Tmesg) → EditsOrChecks f m → writes_of h m ≡ []
no_write h f m (inl edits) = grind arith
no_write h f m (inr (g, is)) = ap (writes_of h) is

-- to take such messages one after another is to answer them
serves_all : (h : PlainHost) (f : ℕ) (ms : List Tmesg) (frames : List HFrame) (g : PlainHost) → All (EditsOrChecks f) ms → TakesAll h ms frames g → Serves h (map Answered ms) frames [] g
serves_all h f [] frames g run (none, is) = (none, refl, is)
serves_all h f (m ∷ ms) frames g run (k, first, rest, answered, are, more) =
    (k, first, rest, [], answered, are, sym (ap (λ (x : List ℕ). x ++ []) (no_write h f m (All-head (EditsOrChecks f) m ms run))), serves_all k f ms rest g (All-tail (EditsOrChecks f) m ms run) more)

each_runs : (f : ℕ) (ms : List Tmesg) → EditFile f ms → All (EditsOrChecks f) ms
each_runs f [] one = All-nil (EditsOrChecks f)
each_runs f (m ∷ ms) one = All-cons (EditsOrChecks f) m ms (inl one.0) one.1

-- edits were taken, and the checks among them answered, where all frames are written
answers_taken : (l k : PlainHostEndpoint) → l.unwritten ≡ [] → (took : TakesEdits l k) → Answers l took.messages k
answers_taken l k none took =
    subst (λ (x : PlainHostEndpoint). Answers l took.messages x) (sym took.after) (record {
      frames = took.frames;
      more = [];
      serves = serves_all l.host took.file took.messages took.frames took.host (each_runs took.file took.messages took.one_file) took.taken;
      frames_fit = took.frames_fit;
      waiting = took.waited;
      bytes = ap (λ (fs : List HFrame). l.pending_bytes ++ stream_of host (fs ++ took.frames)) (sym none);
      writes = sym (append-nil l.writes);
      framer = refl;
      broken_by = refl;
    })

edits_gone : (e l k : PlainHostEndpoint) (gone : HasGone e l) (took : TakesEdits l k) → Answers e (gone.messages ++ took.messages) k × (k.stop ≡ None)
edits_gone e l k gone took =
    (answers_more e l k gone.messages took.messages gone.answers (answers_taken l k gone.written took), ap (λ (x : PlainHostEndpoint). x.stop) took.after ∙ gone.goes)

-- the host took no message
pub took_none : (h g : PlainHost) (n : ℕ) (ms : List Tmesg) (frames : List HFrame) → n ≡ 0 → TakesAll h (take n ms) frames g → g ≡ h
took_none h g n ms frames none taken = (subst (λ (x : ℕ). TakesAll h (take x ms) frames g) none taken).1

-- the host took the first n messages that waited
pub took_first : (e g : PlainHostEndpoint) (n : ℕ) (h : PlainHost) (frames : List HFrame) → 0 < n → n ≤ length e.waiting → TakesAll e.host (take n e.waiting) frames h
    → FitFrames frames → ((f : ℕ) × EditFile f (take n e.waiting))
    → g ≡ record e { host = h; waiting = drop n e.waiting; unwritten = frames } → TakesSo e n g
took_first e g n h frames some there taken fit (f, one) is =
    let count : length (take n e.waiting) ≡ n = length-take-le n e.waiting there in (
      record {
        messages = take n e.waiting;
        rest = drop n e.waiting;
        host = h;
        some = omega (arith, some, count);
        waited = sym (take-append-drop n e.waiting);
        frames = frames;
        taken = taken;
        frames_fit = fit;
        file = f;
        one_file = one;
        after = is;
      },
      count,
    )

-- what waited first was answered
next_gone : (e l k : PlainHostEndpoint) → HasGone e l → AnswersFirst l k ⊎ TakesEdits l k → (ms : List Tmesg) × Answers e ms k × (k.stop ≡ None)
next_gone e l k gone (inl first) = let g = first_gone e l k gone first in (gone.messages ++ first.message ∷ [], g.0, g.1)
next_gone e l k gone (inr took) = let g = edits_gone e l k gone took in (gone.messages ++ took.messages, g.0, g.1)

pub goes_further : (e l k g : PlainHostEndpoint) → HasGone e l → AnswersFirst l k ⊎ TakesEdits l k → g ≡ written k → HasGone e g
goes_further e l k g gone next is = let n = next_gone e l k gone next in then_written e k g n.0 n.1 n.2 is

-- ## Where it ends

pub not_written : (e l k g : PlainHostEndpoint) (why : EndpointFault HostStop) → HasGone e l → AnswersFirst l k ⊎ TakesEdits l k → Writes k (Err why) g → GoesOn e (Err why) g
not_written e l k g fault.Unfinished gone next (left, same) =
    let n = next_gone e l k gone next in
    subst (λ (x : PlainHostEndpoint). GoesOn e (Err fault.Unfinished) x) (sym same) (n.0, n.1, n.2, omega (arith, left))
not_written e l k g (fault.Stopped why) gone next writes = absurd writes
not_written e l k g fault.OutOfMemory gone next writes = absurd writes
not_written e l k g fault.CountFull gone next writes = absurd writes

-- the host refused the oldest message, or memory was refused
pub not_answered : (e l g : PlainHostEndpoint) (why : EndpointFault HostStop) → HasGone e l → Handles l (Err why) g → GoesOn e (Err why) g
not_answered e l g fault.Unfinished gone (left, same) = grind arith
not_answered e l g (fault.Stopped (stop.Refused why)) gone refused = grind arith
not_answered e l g (fault.Stopped (stop.Stream why)) gone refused = absurd refused
not_answered e l g fault.OutOfMemory gone refused = absurd refused
not_answered e l g fault.CountFull gone refused = absurd refused

-- fewer wait than before
pub fewer : (e g : PlainHostEndpoint) → AnswersFirst e g ⊎ TakesEdits e g → length g.waiting < length e.waiting
fewer e g (inl first) = grind arith
fewer e g (inr took) = grind (arith, length-append)

-- ## Single steps

pub answers_then : (e k g : PlainHostEndpoint) (ms ns : List Tmesg) → Answers e ms k → Answers k ns g → Answers e (ms ++ ns) g
answers_then e k g ms ns p q = answers_more e k g ms ns p q

-- what waited first was answered, where all frames are written
pub next_done : (e g : PlainHostEndpoint) → e.stop ≡ None → e.unwritten ≡ [] → AnswersFirst e g ⊎ TakesEdits e g → (ms : List Tmesg) × Answers e ms g × (g.stop ≡ None)
next_done e g goes none next = next_gone e e g (starts e e goes (none_written e none)) next

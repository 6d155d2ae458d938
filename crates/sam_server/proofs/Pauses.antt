-- What waits is handled in one way, and pauses in one place.
use Rattle.std.proofs.Common.{◌≡◌, ◌≢◌, ◌⊎◌, inl, inr, ℕ, zero, suc, ◌+◌, ◌<◌, length, length-append, List, [], ◌∷◌, ◌++◌, drop, take, map, Option, None, Some, Ok, Bool, true, false, refl, sym, ap, ◌∙◌, subst, append-nil, append_assoc, drop_at, take_at, arith}
use Rattle.std.proofs.lemmas.List.Elements.{All-head, All-tail}
use Rattle.std.specs.Prelude.{All, if◌then◌else◌, option_map}
use Rattle.sam_frame.specs.Direction.{host, terminal}
use Rattle.sam_frame.specs.Framing.{GaveUp, Held}
use Rattle.sam_frame.specs.Reading.{IsStream}
use Rattle.sam_frame.specs.Stream.{stream_of, version_after}
use Rattle.sam_frame.proofs.Unique.{one_reading}
use Rattle.sam_mesg.specs.declared.tmesg.Tmesg.{Tmesg}
use Rattle.sam_mesg.specs.declared.tmesg.Tmesg.TheVariants.{Tclose, Twrite}
use Rattle.sam_mesg.specs.declared.hmesg.HFrame.{HFrame}
use Rattle.sam_mesg.specs.declared.fault.MesgFault.{MesgFault}
use Rattle.sam_mesg.specs.declared.fault.MesgFault.TheVariants as wrong
use Rattle.sam_mesg.proofs.TerminalLaws as upwards
use Rattle.sam_host.specs.Edits.{EditFile, EditsOrChecks, edited_file}
use Rattle.sam_host.specs.Host.{PlainHost, answer, with_given}
use Rattle.sam_host.specs.Marking.{marked}
use Rattle.sam_endpoint.specs.HostEndpoints.{Answered, Answers, PlainHostEndpoint, Serves, Step, TakesIn, writes_of}
use Rattle.sam_endpoint.specs.HostEndpoints.{Joined as JoinedStep, Marked as MarkedStep}
use Rattle.sam_endpoint.specs.HostSteps.{AnswersFirst}
use Rattle.sam_endpoint.specs.HostStepping.{BringsIn, IsReady, Steps}
use Rattle.sam_endpoint.specs.Streams.{Gives, mesg_fault}
use Rattle.sam_endpoint.specs.declared.fault.StreamFault.{StreamFault}
use Rattle.sam_endpoint.specs.declared.fault.StreamFault.TheVariants.{BadKind, BadLength, BadText}
use Rattle.sam_endpoint.specs.declared.step.HostStep.{HostStep}
use Rattle.sam_endpoint.specs.declared.step.HostStep.TheVariants as steps
use Rattle.sam_endpoint.proofs.HostEndpointStepping.{Went, steps_on, went_nowhere}
use Rattle.sam_link.specs.Packets.{Packet}
use Rattle.sam_link.specs.Packets.{Packet as packet}
use Rattle.sam_server.specs.Servers.{Effect, HandsOn, Hear, Pauses, PausesBy, StepsOn, Work, effect_of, next_effect, step_effect}

-- ## A piece is read in one way

abbrev stream_fault : MesgFault → StreamFault
stream_fault wrong.BadKind = BadKind
stream_fault wrong.BadLength = BadLength
stream_fault wrong.BadText = BadText
stream_fault wrong.OutOfMemory = BadKind

there_and_back : (f : StreamFault) → stream_fault (mesg_fault f) ≡ f
there_and_back BadKind = refl
there_and_back BadLength = refl
there_and_back BadText = refl

both_back : (a : Option StreamFault) → option_map stream_fault (option_map mesg_fault a) ≡ a
both_back None = refl
both_back (Some f) = ap (λ (x : StreamFault). Some x) (there_and_back f)

one_fault : (a b : Option StreamFault) → option_map mesg_fault a ≡ option_map mesg_fault b → a ≡ b
one_fault a b same = sym (both_back a) ∙ ap (option_map stream_fault) same ∙ both_back b

abbrev is_fault : Option StreamFault → Bool
is_fault None = false
is_fault (Some f) = true

-- a piece that a framer took
record Read (h : Held) (piece : List ℕ) (ms : List Tmesg) (fault : Option StreamFault) (k : Held) : Type 0 where
  reads : IsStream terminal h.version (h.bytes ++ piece) ms k.bytes (option_map mesg_fault fault)
  version_is : k.version ≡ version_after terminal h.version ms
  offset_is : k.offset ≡ h.offset + length (stream_of terminal ms)
  failed_is : k.failed ≡ is_fault fault

read_shows : (f : StreamFault) (h k : Held) (piece : List ℕ) (ms : List Tmesg) (place : ℕ)
    → GaveUp terminal h piece ms place (mesg_fault f) k → Read h piece ms (Some f) k
read_shows f h k piece ms place x = record {
  reads = record {
    splits = x.gave.splits;
    ends = subst (λ v. Rattle.sam_frame.specs.Stream.Shows terminal v k.bytes (mesg_fault f)) x.gave.version_is x.shows;
  };
  version_is = x.gave.version_is;
  offset_is = x.gave.offset_is;
  failed_is = x.failed;
}

read : (h k : Held) (piece : List ℕ) (ms : List Tmesg) (fault : Option StreamFault) → Gives terminal h piece ms fault k
    → Read h piece ms fault k
read h k piece ms None x = record {
  reads = record {
    splits = x.gave.splits;
    ends = subst (λ v. Rattle.sam_frame.specs.Stream.IsOpen terminal v k.bytes) x.gave.version_is x.waits;
  };
  version_is = x.gave.version_is;
  offset_is = x.gave.offset_is;
  failed_is = x.sound;
}
read h k piece ms (Some f) (place, x) = read_shows f h k piece ms place x

gives_one : (h k j : Held) (piece : List ℕ) (ms ns : List Tmesg) (a b : Option StreamFault) → Read h piece ms a k → Read h piece ns b j
    → (ms ≡ ns) × (a ≡ b) × (k ≡ j)
gives_one h k j piece ms ns a b x y =
    let one = one_reading terminal (record { says = upwards.frame_says; one = upwards.one_frame }) h.version (h.bytes ++ piece) ms ns
    k.bytes
    j.bytes (option_map mesg_fault a) (option_map mesg_fault b) x.reads y.reads in
    let fault : a ≡ b = one_fault a b one.2 in
    let bytes : k.bytes ≡ j.bytes = one.1 in
    let version : k.version ≡ j.version =
    x.version_is ∙ ap (λ (l : List Tmesg). version_after terminal h.version l) one.0 ∙ sym y.version_is in
    let offset : k.offset ≡ j.offset =
    x.offset_is ∙ ap (λ (l : List Tmesg). h.offset + length (stream_of terminal l)) one.0 ∙ sym y.offset_is in
    let failed : k.failed ≡ j.failed = x.failed_is ∙ ap is_fault fault ∙ sym y.failed_is in
    (one.0, fault, λ i. record { bytes = bytes i; version = version i; offset = offset i; failed = failed i })

pub takes_in_one : (e k j : PlainHostEndpoint) (piece : List ℕ) → TakesIn e piece k → TakesIn e piece j → k ≡ j
takes_in_one e k j piece (ms, a, rest, gives, is) (ns, b, others, gives_too, is_too) =
    let one = gives_one e.framer rest others piece ms ns a b (read e.framer rest piece ms a gives) (read e.framer others piece ns b gives_too) in
    is ∙ (λ i. record e { framer = one.2 i; waiting = one.0 i; broken_by = one.1 i }) ∙ sym is_too

-- ## The endpoint answers in one way

pub one_service : (h : PlainHost) (steps : List Step) (a b : List HFrame) (v w : List ℕ) (g k : PlainHost) → Serves h steps a v g
    → Serves h steps b w k → (g ≡ k) × (a ≡ b) × (v ≡ w)
one_service h [] a b v w g k p q = (p.2 ∙ sym q.2, p.0 ∙ sym q.0, p.1 ∙ sym q.1)
one_service h (Answered m ∷ steps) a b v w g k (h1, a1, a2, v2, ans1, af, vf, p) (k1, b1, b2, w2, ans2, bf, wf, q) =
    grind (arith, (one_service k1 steps a2 b2 v2 w2 g k))
one_service h (MarkedStep f ∷ steps) a b v w g k (a2, may, af, p) (b2, also, bf, q) =
    grind (arith, (one_service (marked h f) steps a2 b2 v w g k))
one_service h (JoinedStep file ∷ steps) a b v w g k (may, p) (also, q) = one_service (with_given h file) steps a b v w g k p q

pending_now : (e g : PlainHostEndpoint) (ms : List Tmesg) (x : Answers e ms g) → g.unwritten ≡ []
    → g.pending_bytes ≡ e.pending_bytes ++ stream_of host (e.unwritten ++ x.frames)
pending_now e g ms x none =
    sym (append-nil g.pending_bytes) ∙ ap (λ (u : List HFrame). g.pending_bytes ++ stream_of host u) (sym none) ∙ x.bytes

pub after_same : (ms a b : List Tmesg) → ms ++ a ≡ ms ++ b → a ≡ b
after_same ms a b same = sym (drop_at ms a (length ms) refl) ∙ ap (drop (length ms)) same ∙ drop_at ms b (length ms) refl

-- an endpoint that answered these messages, and wrote the answers
pub one_after : (e a b : PlainHostEndpoint) (ms : List Tmesg) → Answers e ms a → Answers e ms b → a.unwritten ≡ [] → b.unwritten ≡ []
    → a.stop ≡ None → b.stop ≡ None → a ≡ b
one_after e a b ms x y written written_too goes goes_too =
    let same = one_service e.host (map Answered ms) x.frames y.frames x.more y.more a.host b.host x.serves y.serves in
    let framer : a.framer ≡ b.framer = x.framer ∙ sym y.framer in
    let waiting : a.waiting ≡ b.waiting = after_same ms a.waiting b.waiting (sym x.waiting ∙ y.waiting) in
    let broken_by : a.broken_by ≡ b.broken_by = x.broken_by ∙ sym y.broken_by in
    let unwritten : a.unwritten ≡ b.unwritten = written ∙ sym written_too in
    let pending : a.pending_bytes ≡ b.pending_bytes =
    pending_now e a ms x written ∙ ap (λ (f : List HFrame). e.pending_bytes ++ stream_of host (e.unwritten ++ f)) same.1
    ∙ sym (pending_now e b ms y written_too) in
    let writes : a.writes ≡ b.writes = x.writes ∙ ap (λ (f : List ℕ). e.writes ++ f) same.2 ∙ sym y.writes in
    let stops : a.stop ≡ b.stop = goes ∙ sym goes_too in
    λ i. record {
      framer = framer i;
      host = same.0 i;
      waiting = waiting i;
      broken_by = broken_by i;
      unwritten = unwritten i;
      pending_bytes = pending i;
      writes = writes i;
      stop = stops i;
    }

first_message : (l k g : PlainHostEndpoint) (a : AnswersFirst l k) (b : AnswersFirst l g) → (a.message ≡ b.message) × (a.rest ≡ b.rest)
first_message l k g a b = let same : a.message ∷ a.rest ≡ b.message ∷ b.rest = sym a.waited ∙ b.waited in (cc, ap (drop 1) same)

pub one_answer : (h g k : PlainHost) (m n : Tmesg) (a b : List HFrame) → m ≡ n → answer h m ≡ Ok (g, a) → answer h n ≡ Ok (k, b)
    → (g ≡ k) × (a ≡ b)
one_answer h g k m n a b same x y = grind arith

-- the oldest message is answered
first_one : (l k g : PlainHostEndpoint) → AnswersFirst l k → AnswersFirst l g → k ≡ g
first_one l k g a b =
    let same = first_message l k g a b in
    let one = one_answer l.host a.host b.host a.message b.message a.frames b.frames same.0 a.answered b.answered in
    a.after
    ∙ (λ i. record l {
      host = one.0 i;
      waiting = same.1 i;
      unwritten = one.1 i;
      writes = l.writes ++ writes_of l.host (same.0 i);
    })
    ∙ sym b.after

-- ## The program has something to do in one place

-- the answers to these messages have the program do nothing
abbrev pub Silent : PlainHost → List Tmesg → Type 0
Silent h [] = Unit {0}
Silent h (m ∷ ms) =
    (effect_of h m ≡ None) × ((k : PlainHost) (frames : List HFrame) → answer h m ≡ Ok (k, frames) → Silent k ms)

pub some_none : (f : Effect) → Some f ≡ None → ⊥
some_none f is = cc

none_written : (b : Bool) (f : ℕ) (x : Effect) → (if b then None else Some x) ≡ None → (if b then [] else f ∷ []) ≡ []
none_written true f x is = refl
none_written false f x is = absurd (some_none x is)

-- such a host writes nothing
pub silent_writes : (h : PlainHost) (m : Tmesg) → effect_of h m ≡ None → writes_of h m ≡ []
silent_writes h (Twrite f) is = none_written h.is_done f _ is
silent_writes h _ is = refl

pub none_rest : (a b : List ℕ) → [] ≡ a ++ b → b ≡ []
none_rest [] b is = sym is
none_rest (x ∷ a) b is = absurd (cc)

pub same_head : (x y : Tmesg) (xs ys : List Tmesg) → x ∷ xs ≡ y ∷ ys → x ≡ y
same_head x y xs ys same = cc

-- among silent messages each is
tells_none : (xs ms : List Tmesg) (m : Tmesg) (rest : List Tmesg) (h g : PlainHost) (fx : List HFrame) (writes : List ℕ)
    → ms ≡ xs ++ m ∷ rest → Serves h (map Answered xs) fx writes g → Silent h ms → effect_of g m ≡ None
tells_none [] [] m rest h g fx writes is x silent = absurd (cc)
tells_none [] (n ∷ ms) m rest h g fx writes is x silent =
    let head : n ≡ m = same_head n m ms rest is in
    ap (λ (p : PlainHost). effect_of p m) x.2 ∙ ap (effect_of h) (sym head) ∙ silent.0
tells_none (a ∷ xs) [] m rest h g fx writes is x silent = absurd (cc)
tells_none (a ∷ xs) (n ∷ ms) m rest h g fx writes is (k, first, others, more, answered, frames, wrote, serves) silent =
    let head : n ≡ a = same_head n a ms (xs ++ m ∷ rest) is in
    tells_none xs ms m rest k g others more (ap (drop 1) is) serves
    (silent.1 k first (ap (answer h) head ∙ answered))

-- the first of the messages that is not silent stands in one place
pub one_front : (xs ys : List Tmesg) (m n : Tmesg) (r s : List Tmesg) (h g k : PlainHost) (fx fy : List HFrame) (wx wy : List ℕ)
    → xs ++ m ∷ r ≡ ys ++ n ∷ s → Serves h (map Answered xs) fx wx g → Serves h (map Answered ys) fy wy k → Silent h xs → Silent h ys
    → (effect_of g m ≡ None → ⊥) → (effect_of k n ≡ None → ⊥) → xs ≡ ys
one_front [] [] m n r s h g k fx fy wx wy same x y quiet quiet_too some some_too = refl
one_front [] (b ∷ ys) m n r s h g k fx fy wx wy same x y quiet quiet_too some some_too =
    let head : m ≡ b = same_head m b r (ys ++ n ∷ s) same in
    absurd (some (ap (λ (p : PlainHost). effect_of p m) x.2 ∙ ap (effect_of h) head ∙ quiet_too.0))
one_front (a ∷ xs) [] m n r s h g k fx fy wx wy same x y quiet quiet_too some some_too =
    let head : a ≡ n = same_head a n (xs ++ m ∷ r) s same in
    absurd (some_too (ap (λ (p : PlainHost). effect_of p n) y.2 ∙ ap (effect_of h) (sym head) ∙ quiet.0))
one_front (a ∷ xs) (b ∷ ys) m n r s h g k fx fy wx wy same (j, f1, f2, more, answered, frames, writes, serves) (i, g1, g2, others, answered_too, frames_too, writes_too, serves_too) quiet quiet_too some some_too =
    let head : a ≡ b = same_head a b (xs ++ m ∷ r) (ys ++ n ∷ s) same in
    let one = one_answer h j i a b f1 g1 head answered answered_too in
    let rest : xs ≡ ys =
    one_front xs ys m n r s j g k f2 g2 more others (ap (drop 1) same) serves
    (subst (λ p. Serves p (map Answered ys) g2 others k) (sym one.0) serves_too) (quiet.1 j f1 answered)
    (quiet_too.1 j f1 (ap (answer h) (sym head) ∙ answered)) some some_too in
    λ t. head t ∷ rest t

-- silent messages behind others
silent_then : (xs ms : List Tmesg) (h g : PlainHost) (frames : List HFrame) (writes : List ℕ) → Serves h (map Answered xs) frames writes g
    → Silent h xs → Silent g ms → Silent h (xs ++ ms)
silent_then [] ms h g frames writes x quiet more = subst (λ (p : PlainHost). Silent p ms) x.2 more
silent_then (a ∷ xs) ms h g frames writes (k, first, others, rest, answered, is, wrote, serves) quiet more = (
  quiet.0,
  λ j f1 answered_too.
      subst (λ (p : PlainHost). Silent p (xs ++ ms)) (one_answer h k j a a first f1 refl answered answered_too).0
      (silent_then xs ms k g others rest serves (quiet.1 k first answered) more),
)

edit_silent : (f : ℕ) (h : PlainHost) (m : Tmesg) → edited_file m ≡ Some f → effect_of h m ≡ None
edit_silent f h (Twrite g) is = absurd (cc)
edit_silent f h (Tclose g) is = absurd (cc)
edit_silent f h _ is = refl

one_silent : (f : ℕ) (h : PlainHost) (m : Tmesg) → EditsOrChecks f m → effect_of h m ≡ None
one_silent f h m (inl is) = edit_silent f h m is
one_silent f h m (inr (g, is)) = ap (effect_of h) is

all_silent : (f : ℕ) (h : PlainHost) (ms : List Tmesg) → All (EditsOrChecks f) ms → Silent h ms
all_silent f h [] all = tt
all_silent f h (m ∷ ms) all =
    (one_silent f h m (All-head (EditsOrChecks f) m ms all), λ k frames answered. all_silent f k ms (All-tail (EditsOrChecks f) m ms all))

-- edits are silent
edits_silent : (f : ℕ) (h : PlainHost) (ms : List Tmesg) → EditFile f ms → Silent h ms
edits_silent f h [] edits = tt
edits_silent f h (m ∷ ms) edits = (edit_silent f h m edits.0, λ k frames answered. all_silent f k ms edits.1)

-- some messages were answered, and the program has nothing to do
pub record Quietly (e l : PlainHostEndpoint) : Type 0 where
  pub went : Went e l
  pub quiet : l.writes ≡ []
  pub silent : Silent e.host went.messages

none_told : (e l : PlainHostEndpoint) (q : Quietly e l) → q.went.answers.more ≡ []
none_told e l q = none_rest e.writes q.went.answers.more (sym q.quiet ∙ q.went.answers.writes)

pub serves_quietly : (e l : PlainHostEndpoint) (q : Quietly e l)
    → Serves e.host (map Answered q.went.messages) q.went.answers.frames [] l.host
serves_quietly e l q =
    subst (λ w. Serves e.host (map Answered q.went.messages) q.went.answers.frames w l.host) (none_told e l q) q.went.answers.serves

-- a step that writes frames has the program do nothing
wrote_nothing : (frames : List HFrame) (h : PlainHost) (ms : List Tmesg) → 0 < length frames → step_effect frames h ms ≡ None
wrote_nothing [] h ms some = absurd (omega (arith, some))
wrote_nothing (f ∷ fs) h ms some = refl

-- nor does one that takes edits
edited_nothing : (f : ℕ) (h : PlainHost) (ms rest : List Tmesg) → 0 < length ms → EditFile f ms → step_effect [] h (ms ++ rest) ≡ None
edited_nothing f h [] rest some edits = absurd (omega (arith, some))
edited_nothing f h (m ∷ ms) rest some edits = edit_silent f h m edits.0

-- one that answers has it do what its message says
pub answered_effect : (l k : PlainHostEndpoint) (first : AnswersFirst l k) → l.unwritten ≡ [] → next_effect l ≡ effect_of l.host first.message
answered_effect l k first written = λ i. step_effect (written i) l.host (first.waited i)

same_front : (a b c : List Tmesg) → a ++ c ≡ b ++ c → a ≡ b
same_front a b c same =
    let long : length b ≡ length a = omega (arith, ap length same, length-append a c, length-append b c) in
    sym (take_at a c (length a) refl) ∙ ap (take (length a)) same ∙ take_at b c (length a) long

-- what was answered behind a step
messages_on : (e l k : PlainHostEndpoint) (x : Went e l) (y : Went e k) (ms : List Tmesg) → l.waiting ≡ ms ++ k.waiting
    → x.messages ++ ms ≡ y.messages
messages_on e l k x y ms is =
    same_front (x.messages ++ ms) y.messages k.waiting
    (append_assoc x.messages ms k.waiting ∙ ap (λ (w : List Tmesg). x.messages ++ w) (sym is) ∙ sym x.answers.waiting ∙ y.answers.waiting)

quiet_by : (e l k : PlainHostEndpoint) (ms : List Tmesg) (y : Went e k) → Quietly e l → l.waiting ≡ ms ++ k.waiting → k.writes ≡ []
    → Silent l.host ms → Quietly e k
quiet_by e l k ms y q is quiet silent = record {
  went = y;
  quiet = quiet;
  silent =
      subst (λ (w : List Tmesg). Silent e.host w) (messages_on e l k q.went y ms is)
      (silent_then q.went.messages ms e.host l.host q.went.answers.frames q.went.answers.more q.went.answers.serves q.silent silent);
}

-- a step that has the program do nothing
pub quiet_on : (e l k : PlainHostEndpoint) (step : HostStep) → Quietly e l → Steps l (Ok step) k → next_effect l ≡ None → Quietly e k
quiet_on e l k steps.Idle q does none =
    quiet_by e l k [] (steps_on e l k steps.Idle q.went does) q (ap (λ (p : PlainHostEndpoint). p.waiting) (sym does.1))
    (ap (λ (p : PlainHostEndpoint). p.writes) does.1 ∙ q.quiet) tt
quiet_on e l k steps.Wrote q does none =
    quiet_by e l k [] (steps_on e l k steps.Wrote q.went does) q (ap (λ (p : PlainHostEndpoint). p.waiting) (sym does.2))
    (ap (λ (p : PlainHostEndpoint). p.writes) does.2 ∙ q.quiet) tt
quiet_on e l k (steps.Edited tag count) q does none =
    let took = does.1.edits in
    quiet_by e l k took.messages (steps_on e l k (steps.Edited tag count) q.went does) q
    (took.waited ∙ ap (λ (p : PlainHostEndpoint). took.messages ++ p.waiting) (sym took.after))
    (ap (λ (p : PlainHostEndpoint). p.writes) took.after ∙ q.quiet) (edits_silent tag l.host took.messages does.1.one_file)
quiet_on e l k (steps.Answered kind tag) q does none =
    let first = does.1.first in
    let silent : effect_of l.host first.message ≡ None = sym (answered_effect l k first does.0.1) ∙ none in
    quiet_by e l k (first.message ∷ []) (steps_on e l k (steps.Answered kind tag) q.went does) q
    (first.waited ∙ ap (λ (p : PlainHostEndpoint). first.message ∷ p.waiting) (sym first.after))
    (ap (λ (p : PlainHostEndpoint). p.writes) first.after
    ∙ ap (λ (w : List ℕ). w ++ writes_of l.host first.message) q.quiet ∙ silent_writes l.host first.message silent)
    (silent, λ j frames answered. tt)

-- then nothing is left
pub record Readied (e l : PlainHostEndpoint) : Type 0 where
  pub quietly : Quietly e l
  pub ready : IsReady l

-- then the answer to the oldest message has the program do this
pub record Told (e k : PlainHostEndpoint) (f : Effect) : Type 0 where
  pub middle : PlainHostEndpoint
  pub quietly : Quietly e middle
  pub written : middle.unwritten ≡ []
  pub first : AnswersFirst middle k
  pub tells : effect_of middle.host first.message ≡ Some f

pub all_answered : (e l : PlainHostEndpoint) (x : Readied e l) → e.waiting ≡ x.quietly.went.messages
all_answered e l x =
    x.quietly.went.answers.waiting ∙ ap (λ (rest : List Tmesg). x.quietly.went.messages ++ rest) x.ready.1.0.waiting
    ∙ append-nil x.quietly.went.messages

pub one_ready : (e l k : PlainHostEndpoint) → Readied e l → Readied e k → l ≡ k
one_ready e l k x y =
    let same : x.quietly.went.messages ≡ y.quietly.went.messages = sym (all_answered e l x) ∙ all_answered e k y in
    one_after e l k y.quietly.went.messages (subst (λ (ms : List Tmesg). Answers e ms l) same x.quietly.went.answers)
    y.quietly.went.answers x.ready.1.0.unwritten y.ready.1.0.unwritten x.ready.0 y.ready.0

pub told_by : (e k : PlainHostEndpoint) (f : Effect) (x : Told e k f) → effect_of x.middle.host x.first.message ≡ None → ⊥
told_by e k f x none = some_none f (sym x.tells ∙ none)

pub told_at : (e k : PlainHostEndpoint) (f : Effect) (x : Told e k f)
    → e.waiting ≡ x.quietly.went.messages ++ x.first.message ∷ x.first.rest
told_at e k f x =
    x.quietly.went.answers.waiting ∙ ap (λ (rest : List Tmesg). x.quietly.went.messages ++ rest) x.first.waited

same_effect : (f g : Effect) → Some f ≡ Some g → f ≡ g
same_effect f g is = cc

pub one_told : (e k j : PlainHostEndpoint) (f g : Effect) → Told e k f → Told e j g → (k ≡ j) × (f ≡ g)
one_told e k j f g x y =
    let waits = sym (told_at e k f x) ∙ told_at e j g y in
    let front : x.quietly.went.messages ≡ y.quietly.went.messages =
    one_front x.quietly.went.messages y.quietly.went.messages x.first.message y.first.message x.first.rest y.first.rest e.host
    x.middle.host y.middle.host x.quietly.went.answers.frames y.quietly.went.answers.frames [] [] waits
    (serves_quietly e x.middle x.quietly)
    (serves_quietly e y.middle y.quietly) x.quietly.silent y.quietly.silent (told_by e k f x) (told_by e j g y) in
    let middle : x.middle ≡ y.middle =
    one_after e x.middle y.middle y.quietly.went.messages
    (subst (λ (ms : List Tmesg). Answers e ms x.middle) front x.quietly.went.answers) y.quietly.went.answers x.written y.written
    x.quietly.went.goes y.quietly.went.goes in
    let message : x.first.message ≡ y.first.message =
    same_head x.first.message y.first.message x.first.rest y.first.rest
    (after_same y.quietly.went.messages (x.first.message ∷ x.first.rest) (y.first.message ∷ y.first.rest)
    (ap (λ (ms : List Tmesg). ms ++ x.first.message ∷ x.first.rest) (sym front) ∙ waits)) in (
      first_one y.middle k j (subst (λ (p : PlainHostEndpoint). AnswersFirst p k) middle x.first) y.first,
      same_effect f g (sym x.tells ∙ (λ i. effect_of (middle i).host (message i)) ∙ y.tells),
    )

pub not_both : (e l k : PlainHostEndpoint) (f : Effect) → Readied e l → Told e k f → ⊥
not_both e l k f x y =
    told_by e k f y (tells_none y.quietly.went.messages x.quietly.went.messages y.first.message y.first.rest e.host y.middle.host
    y.quietly.went.answers.frames []
    (sym (all_answered e l x) ∙ told_at e k f y)
    (serves_quietly e y.middle y.quietly) x.quietly.silent)

-- ## Where it pauses

abbrev pub at : List Packet → PlainHostEndpoint → Option Effect → Work
at ps e effect = record { packets = ps; host = e; effect = effect }

at_once : (n : ℕ) (ps : List Packet) (e : PlainHostEndpoint) (f : Effect) (v : Work) → PausesBy n (at ps e (Some f)) v
    → v ≡ at ps e (Some f)
at_once zero ps e f v x = x.1
at_once (suc n) ps e f v x = absurd (some_none f x.0)

-- with the packet that is next, if one is
abbrev pub After : List Packet → PlainHostEndpoint → Work → Type 0
After ps l v = ((ps ≡ []) × (v ≡ at ps l None)) ⊎ ((m : Work) × HandsOn (at ps l None) ps m × Pauses m v)

abbrev pub Phase : List Packet → PlainHostEndpoint → Work → Type 0
Phase ps e v =
    ((l : PlainHostEndpoint) × Readied e l × After ps l v)
    ⊎ ((k : PlainHostEndpoint) × (f : Effect) × Told e k f × (v ≡ at ps (record k { writes = [] }) (Some f)))

idle_not : (A : Type 0) (step : HostStep) → step ≢ steps.Idle → step ≡ steps.Idle → A
idle_not A step some is = absurd (some is)

nothing_else : (A : Type 0) (f : Effect) (x : Option Effect) → x ≡ Some f → x ≡ None → A
nothing_else A f x is none = absurd (some_none f (sym is ∙ none))

-- only an answer has the program do something
pub told_to : (e l k : PlainHostEndpoint) (step : HostStep) (f : Effect) → Quietly e l → step ≢ steps.Idle → Steps l (Ok step) k
    → next_effect l ≡ Some f → Told e k f
told_to e l k steps.Idle f q some does is = idle_not (Told e k f) steps.Idle some refl
told_to e l k steps.Wrote f q some does is =
    nothing_else (Told e k f) f (next_effect l) is (wrote_nothing l.unwritten l.host l.waiting does.1)
told_to e l k (steps.Edited tag count) f q some does is =
    let took = does.1.edits in
    nothing_else (Told e k f) f (next_effect l) is
    ((λ i. step_effect (does.0.1 i) l.host (took.waited i))
    ∙ edited_nothing tag l.host took.messages took.rest took.some does.1.one_file)
told_to e l k (steps.Answered kind tag) f q some does is = record {
  middle = l;
  quietly = q;
  written = does.0.1;
  first = does.1.first;
  tells = sym (answered_effect l k does.1.first does.0.1) ∙ is;
}

-- a step is made, and then it goes on or pauses
stepped_by : (effect : Option Effect) (n : ℕ) (ps : List Packet) (e l k : PlainHostEndpoint) (step : HostStep) (m v : Work)
    → next_effect l ≡ effect → Quietly e l → step ≢ steps.Idle → Steps l (Ok step) k → m ≡ at ps (record k { writes = [] }) effect
    → PausesBy n m v → ((q : Quietly e k) → PausesBy n (at ps k None) v → Phase ps e v) → Phase ps e v
stepped_by None n ps e l k step m v none q some does is pauses so =
    let still = quiet_on e l k step q does none in
    let here : m ≡ at ps k None = is ∙ ap (λ (w : List ℕ). at ps (record k { writes = w }) None) (sym still.quiet) in
    so still (subst (λ (x : Work). PausesBy n x v) here pauses)
stepped_by (Some f) n ps e l k step m v told q some does is pauses so =
    inr (
      k,
      f,
      told_to e l k step f q some does told,
      at_once n ps (record k { writes = [] }) f v (subst (λ (x : Work). PausesBy n x v) is pauses),
    )

phase : (n : ℕ) (ps : List Packet) (e l : PlainHostEndpoint) (v : Work) → Quietly e l → PausesBy n (at ps l None) v → Phase ps e v
phase zero ps e l v q (paused, is) = inl (l, record { quietly = q; ready = paused.0 }, inl (paused.1, is))
phase (suc n) ps e l v q (none, m, inl (step, k, some, does, is), more) =
    stepped_by (next_effect l) n ps e l k step m v refl q some does is more (λ still rest. phase n ps e k v still rest)
phase (suc n) [] e l v q (none, m, inr hands, more) = absurd hands
phase (suc n) (packet.Data bytes ∷ ps) e l v q (none, m, inr hands, more) =
    inl (l, record { quietly = q; ready = hands.1.0 }, inr (m, hands, (n, more)))
phase (suc n) (packet.Note bytes ∷ ps) e l v q (none, m, inr hands, more) =
    inl (l, record { quietly = q; ready = hands.0 }, inr (m, hands, (n, more)))
phase (suc n) (packet.Acknowledge count ∷ ps) e l v q (none, m, inr hands, more) = absurd hands
phase (suc n) (packet.Ask ∷ ps) e l v q (none, m, inr hands, more) = absurd hands

-- two phases end alike, if they go on alike
alike : (ps : List Packet) (e : PlainHostEndpoint) (a b : Work) → Phase ps e a → Phase ps e b
    → ((l : PlainHostEndpoint) → l.writes ≡ [] → After ps l a → After ps l b → a ≡ b) → a ≡ b
alike ps e a b (inl (l, x, rest)) (inl (k, y, rest_too)) so =
    so l x.quietly.quiet rest (subst (λ (p : PlainHostEndpoint). After ps p b) (sym (one_ready e l k x y)) rest_too)
alike ps e a b (inl (l, x, rest)) (inr (k, f, y, is)) so = absurd (not_both e l k f x y)
alike ps e a b (inr (k, f, x, is)) (inl (l, y, rest)) so = absurd (not_both e l k f y x)
alike ps e a b (inr (k, f, x, is)) (inr (j, g, y, is_too)) so =
    let one = one_told e k j f g x y in
    is ∙ (λ i. at ps (record (one.0 i) { writes = [] }) (Some (one.1 i))) ∙ sym is_too

some_packet : (p : Packet) (ps : List Packet) → p ∷ ps ≡ [] → ⊥
some_packet p ps is = cc

after_none : (l : PlainHostEndpoint) (a b : Work) → After [] l a → After [] l b → a ≡ b
after_none l a b (inl x) (inl y) = x.1 ∙ sym y.1
after_none l a b (inr x) y = absurd x.1
after_none l a b x (inr y) = absurd y.1

data_quiet : (l k : PlainHostEndpoint) (bytes : List ℕ) → l.writes ≡ [] → BringsIn l bytes (Ok tt) k → k.writes ≡ []
data_quiet l k bytes quiet (ready, (ms, fault, rest, gives, is)) = ap (λ (p : PlainHostEndpoint). p.writes) is ∙ quiet

after_data : (bytes : List ℕ) (ps : List Packet) (l : PlainHostEndpoint) (a b : Work) → l.writes ≡ []
    → ((k : PlainHostEndpoint) → k.writes ≡ [] → Pauses (at ps k None) a → Pauses (at ps k None) b → a ≡ b)
    → After (packet.Data bytes ∷ ps) l a → After (packet.Data bytes ∷ ps) l b → a ≡ b
after_data bytes ps l a b quiet so (inl x) y = absurd (some_packet (packet.Data bytes) ps x.0)
after_data bytes ps l a b quiet so x (inl y) = absurd (some_packet (packet.Data bytes) ps y.0)
after_data bytes ps l a b quiet so (inr (m, (k, brings, is), pauses)) (inr (n, (j, brings_too, is_too), pauses_too)) =
    let same : j ≡ k = takes_in_one l j k bytes brings_too.1 brings.1 in
    so k (data_quiet l k bytes quiet brings) (subst (λ (w : Work). Pauses w a) is pauses)
    (subst (λ (w : Work). Pauses w b) (is_too ∙ ap (λ (p : PlainHostEndpoint). at ps p None) same) pauses_too)

after_note : (bytes : List ℕ) (ps : List Packet) (l : PlainHostEndpoint) (a b : Work) → After (packet.Note bytes ∷ ps) l a
    → After (packet.Note bytes ∷ ps) l b → a ≡ b
after_note bytes ps l a b (inl x) y = absurd (some_packet (packet.Note bytes) ps x.0)
after_note bytes ps l a b x (inl y) = absurd (some_packet (packet.Note bytes) ps y.0)
after_note bytes ps l a b (inr (m, (ready, is), pauses)) (inr (n, (ready_too, is_too), pauses_too)) =
    at_once pauses.0 ps l (Hear bytes) a (subst (λ (w : Work). PausesBy pauses.0 w a) is pauses.1)
    ∙ sym (at_once pauses_too.0 ps l (Hear bytes) b (subst (λ (w : Work). PausesBy pauses_too.0 w b) is_too pauses_too.1))

pub stands : (e : PlainHostEndpoint) → e.stop ≡ None → e.writes ≡ [] → Quietly e e
stands e goes quiet =
    let went = went_nowhere e goes in
    let none : [] ≡ went.messages =
    same_front [] went.messages e.waiting went.answers.waiting in
    record { went = went; quiet = quiet; silent = subst (λ (ms : List Tmesg). Silent e.host ms) none tt }

after_acknowledge : (count : ℕ) (ps : List Packet) (l : PlainHostEndpoint) (a b : Work) → After (packet.Acknowledge count ∷ ps) l a
    → After (packet.Acknowledge count ∷ ps) l b → a ≡ b
after_acknowledge count ps l a b (inl x) y = absurd (some_packet (packet.Acknowledge count) ps x.0)
after_acknowledge count ps l a b (inr x) y = absurd x.1

after_ask : (ps : List Packet) (l : PlainHostEndpoint) (a b : Work) → After (packet.Ask ∷ ps) l a → After (packet.Ask ∷ ps) l b → a ≡ b
after_ask ps l a b (inl x) y = absurd (some_packet packet.Ask ps x.0)
after_ask ps l a b (inr x) y = absurd x.1

step_goes : (e k : PlainHostEndpoint) (step : HostStep) → Steps e (Ok step) k → e.stop ≡ None
step_goes e k steps.Idle does = does.0.0
step_goes e k steps.Wrote does = does.0
step_goes e k (steps.Edited tag count) does = does.0.0
step_goes e k (steps.Answered kind tag) does = does.0.0

pub goes_at : (n : ℕ) (ps : List Packet) (e : PlainHostEndpoint) (v : Work) → PausesBy n (at ps e None) v → e.stop ≡ None
goes_at zero ps e v (paused, is) = paused.0.0
goes_at (suc n) ps e v (none, m, inl (step, k, some, does, is), more) = step_goes e k step does
goes_at (suc n) [] e v (none, m, inr hands, more) = absurd hands
goes_at (suc n) (packet.Data bytes ∷ ps) e v (none, m, inr hands, more) = hands.1.0.0
goes_at (suc n) (packet.Note bytes ∷ ps) e v (none, m, inr hands, more) = hands.0.0
goes_at (suc n) (packet.Acknowledge count ∷ ps) e v (none, m, inr hands, more) = absurd hands
goes_at (suc n) (packet.Ask ∷ ps) e v (none, m, inr hands, more) = absurd hands

pub begun : (ps : List Packet) (e : PlainHostEndpoint) (v : Work) → e.writes ≡ [] → Pauses (at ps e None) v → Phase ps e v
begun ps e v quiet (n, x) = phase n ps e e v (stands e (goes_at n ps e v x) quiet) x

pauses_one : (ps : List Packet) (e : PlainHostEndpoint) (a b : Work) → e.writes ≡ [] → Pauses (at ps e None) a → Pauses (at ps e None) b
    → a ≡ b
pauses_one [] e a b quiet x y = alike [] e a b (begun [] e a quiet x) (begun [] e b quiet y) (λ l still u v. after_none l a b u v)
pauses_one (packet.Data bytes ∷ ps) e a b quiet x y =
    alike (packet.Data bytes ∷ ps) e a b (begun (packet.Data bytes ∷ ps) e a quiet x) (begun (packet.Data bytes ∷ ps) e b quiet y)
    (λ l still u v. after_data bytes ps l a b still (λ k quiet_too p q. pauses_one ps k a b quiet_too p q) u v)
pauses_one (packet.Note bytes ∷ ps) e a b quiet x y =
    alike (packet.Note bytes ∷ ps) e a b (begun (packet.Note bytes ∷ ps) e a quiet x) (begun (packet.Note bytes ∷ ps) e b quiet y)
    (λ l still u v. after_note bytes ps l a b u v)
pauses_one (packet.Acknowledge count ∷ ps) e a b quiet x y =
    alike (packet.Acknowledge count ∷ ps) e a b (begun (packet.Acknowledge count ∷ ps) e a quiet x)
    (begun (packet.Acknowledge count ∷ ps) e b quiet y)
    (λ l still u v. after_acknowledge count ps l a b u v)
pauses_one (packet.Ask ∷ ps) e a b quiet x y =
    alike (packet.Ask ∷ ps) e a b (begun (packet.Ask ∷ ps) e a quiet x) (begun (packet.Ask ∷ ps) e b quiet y)
    (λ l still u v. after_ask ps l a b u v)

-- work pauses in one way
pub one_pause : (effect : Option Effect) (ps : List Packet) (e : PlainHostEndpoint) (a b : Work) → e.writes ≡ []
    → Pauses (record { packets = ps; host = e; effect = effect }) a → Pauses (record { packets = ps; host = e; effect = effect }) b → a ≡ b
one_pause None ps e a b quiet x y = pauses_one ps e a b quiet x y
one_pause (Some f) ps e a b quiet (n, x) (m, y) = at_once n ps e f a x ∙ sym (at_once m ps e f b y)

-- ## Nothing that it is told to write is left at the endpoint

move_quiet : (ps : List Packet) (e : PlainHostEndpoint) (effect : Option Effect) (m : Work) → e.writes ≡ []
    → StepsOn (at ps e effect) m ⊎ HandsOn (at ps e effect) ps m → m.host.writes ≡ []
move_quiet ps e effect m quiet (inl (step, k, some, does, is)) = ap (λ (w : Work). w.host.writes) is
move_quiet [] e effect m quiet (inr hands) = absurd hands
move_quiet (packet.Data bytes ∷ ps) e effect m quiet (inr (k, brings, is)) =
    ap (λ (w : Work). w.host.writes) is ∙ data_quiet e k bytes quiet brings
move_quiet (packet.Note bytes ∷ ps) e effect m quiet (inr (ready, is)) = ap (λ (w : Work). w.host.writes) is ∙ quiet
move_quiet (packet.Acknowledge count ∷ ps) e effect m quiet (inr hands) = absurd hands
move_quiet (packet.Ask ∷ ps) e effect m quiet (inr hands) = absurd hands

pub pause_quiet : (n : ℕ) (w v : Work) → w.host.writes ≡ [] → PausesBy n w v → v.host.writes ≡ []
pause_quiet zero w v quiet (paused, is) = ap (λ (x : Work). x.host.writes) is ∙ quiet
pause_quiet (suc n) w v quiet (none, m, move, more) =
    pause_quiet n m v (move_quiet w.packets w.host w.effect m quiet move) more

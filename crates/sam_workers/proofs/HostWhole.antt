-- All that the host's worker takes.
use Rattle.sam_workers.proofs.Common.{flat_map-append, ◌≡◌, ◌∙◌, refl, sym, ap, subst, inl, inr, ℕ, ◌+◌, ◌≤◌, List, [], ◌∷◌, ◌++◌, length, All, Option, Some, None, Ok, append_assoc, append-nil, length-append, arith, option_map, Vec, FitsT, Tmesg, FitsH, HFrame, terminal, host, frame_of, stream_of, stream_of-append, PlainHost, answer, new_host, Entry, items_of, IsEnded, LineView, PostView, TakeView, TakesNext, new_post, closed_post, items_of-append, bytes_of, Each, sides, HostStopped, HostTold, Calls, Causes, Halts, IsQuiet, Serves, TakesPiece, Stop}
use Rattle.std.specs.Prelude.{flat_map}
use Rattle.std.proofs.lemmas.List.Elements.{All-head, All-tail}
use Rattle.sam_runes.specs.Texts.{most_files}
use Rattle.sam_frame.specs.Reading.{IsStream}
use Rattle.sam_endpoint.specs.Streams.{mesg_fault}
use Rattle.sam_endpoint.specs.HostEndpoints.{PlainHostEndpoint, Step, Answered, Joined, Marked, Serves as HostServes}
use Rattle.sam_endpoint.specs.HostRuns.{asides_after, begun_with, messages_in, went_out}
use Rattle.sam_endpoint.proofs.HostEndpointRuns.{kept_begun, kept_run}
use Rattle.sam_sides.specs.Given.{IsFile}
use Rattle.sam_sides.specs.RealSides.{unless_refused}
use Rattle.sam_sides.specs.Sides.{HostRuns}
use Rattle.sam_ends.specs.declared.ends.HostEnd.{HostEnd}
use Rattle.sam_ends.specs.declared.stop.Stop.TheVariants as stop
use Rattle.sam_workers.proofs.ApartTurns.{each_t, front_fits}
use Rattle.sam_workers.proofs.Passes.{bytes_taken}
use Rattle.sam_workers.proofs.HostSide.{calls_then, halts_after, halts_here}

-- ## Piece by piece

-- all that was taken is answered
pub record Going (e k : PlainHostEndpoint) (p q : PostView (Vec ℕ)) (taken : List (Entry (Vec ℕ))) : Type 0 where
  pub made : Calls e k p q (bytes_of (items_of 0 taken)) []
  pub quiet : IsQuiet k

pub going_item : (refuses : Type 0) (e k g : PlainHostEndpoint) (p q r : PostView (Vec ℕ)) (a b : TakeView (Vec ℕ)) (sender : ℕ) (piece : Vec ℕ) (fed : List ℕ)
    → a.line.senders ≡ 1 → TakesNext a (record { sender = sender; load = Some piece }) b → fed ≡ piece.items
    → Going e k p q a.taken → TakesPiece refuses k g q r fed (Ok tt) → Going e g p r b.taken
going_item refuses e k g p q r a b sender piece fed one takes is going (made, quiet) = record {
  made = subst (λ (x : List ℕ). Calls e g p r x []) (ap (λ (x : List ℕ). bytes_of (items_of 0 a.taken) ++ x) is ∙ sym (bytes_taken a b sender piece one takes))
      (calls_then e k g p q r (bytes_of (items_of 0 a.taken)) fed [] going.quiet.1 going.made made);
  quiet = quiet;
}

pub going_stops : (refuses : Type 0) (e k g : PlainHostEndpoint) (p q r : PostView (Vec ℕ)) (a b : TakeView (Vec ℕ)) (sender : ℕ) (piece : Vec ℕ) (fed : List ℕ) (why : Stop)
    → a.line.senders ≡ 1 → TakesNext a (record { sender = sender; load = Some piece }) b → fed ≡ piece.items
    → Going e k p q a.taken → Halts refuses k g q r fed why → Serves refuses e g p r b.taken (Some why)
going_stops refuses e k g p q r a b sender piece fed why one takes is going halts =
    subst (λ (x : List ℕ). Halts refuses e g p r x why) (ap (λ (x : List ℕ). bytes_of (items_of 0 a.taken) ++ x) is ∙ sym (bytes_taken a b sender piece one takes))
    (halts_after refuses e k g p q r (bytes_of (items_of 0 a.taken)) fed why going.quiet.1 going.made halts)

-- the gate did not let it begin
pub serves_nothing : (refuses : Type 0) (e : PlainHostEndpoint) (p : PostView (Vec ℕ)) (taken : List (Entry (Vec ℕ))) → IsQuiet e → taken ≡ [] → refuses
    → Serves refuses e e p p taken (Some stop.Gate)
serves_nothing refuses e p taken quiet none stops =
    subst (λ (x : List (Entry (Vec ℕ))). Serves refuses e e p p x (Some stop.Gate)) (sym none) (halts_here refuses e e p p [] stop.Gate quiet.1 refl refl stops)

pub gate_refuses : (refuses : Type 0) (e g : PlainHostEndpoint) (p q : PostView (Vec ℕ)) (taken : List (Entry (Vec ℕ))) (s : Option Stop) → Serves refuses e g p q taken s → s ≡ Some stop.Gate → refuses
gate_refuses refuses e g p q taken s serves is = grind arith

-- ## What a host did

-- where no file joined or was marked, it handled messages alone
serves_runs : (count : ℕ) (steps : List Step) (h k : PlainHost) (frames : List HFrame) (writes : List ℕ) → HostServes h steps frames writes k → asides_after count steps ≡ []
    → HostRuns sides h (messages_in steps) frames k
serves_runs count [] h k frames writes s none = (s.0, s.2)
serves_runs count (Answered m ∷ steps) h k frames writes (j, first, rest, more, answered, parts, noted, s) none =
    (j, first, rest, ap unless_refused answered, parts, serves_runs (count + 1) steps j k rest more s none)
serves_runs count (Joined file ∷ steps) h k frames writes (may, s) none = absurd (cc)
serves_runs count (Marked f ∷ steps) h k frames writes (rest, may, parts, s) none = absurd (cc)

each_fits : (frames : List HFrame) → All (FitsH 2) frames → Each (FitsH 2) frames
each_fits [] fit = tt
each_fits (f ∷ frames) fit = (All-head (FitsH 2) f frames fit, each_fits frames (All-tail (FitsH 2) f frames fit))

each_behind : {X : Type 0} (P : X → Type 0) (xs ys : List X) → Each P (xs ++ ys) → Each P ys
each_behind P [] ys a = a
each_behind P (x ∷ xs) ys a = each_behind P xs ys a.1

-- what the worker's calls come to
pub record Came (h : PlainHost) (e : PlainHostEndpoint) (put : List (Vec ℕ)) (came unput : List ℕ) : Type 0 where
  pub handled : List Tmesg
  pub answered : List HFrame
  pub runs : HostRuns sides h handled answered e.host
  pub answers_fit : Each (FitsH 2) answered
  pub reads : IsStream terminal 1 came (handled ++ e.waiting) e.framer.bytes (option_map mesg_fault e.broken_by)
  pub sent : bytes_of put ++ (unput ++ stream_of host e.unwritten) ≡ stream_of host answered
  pub place : e.framer.offset + length e.framer.bytes ≡ length came

sent_of : (put unput out pending unwritten all : List ℕ) → put ++ unput ≡ ([] ++ out) ++ pending → (([] ++ out) ++ pending) ++ unwritten ≡ all → put ++ (unput ++ unwritten) ≡ all
sent_of put unput out pending unwritten all first second = sym (append_assoc put unput unwritten) ∙ ap (λ (x : List ℕ). x ++ unwritten) first ∙ second

pub came_of : (h : PlainHost) (e : PlainHostEndpoint) (p q : PostView (Vec ℕ)) (came unput : List ℕ) → p.put ≡ [] → Calls (begun_with h) e p q came unput → Came h e q.put came unput
came_of h e p q came unput none c =
    let kept = kept_run h [] [] [] [] c.calls (begun_with h) e c.runs (kept_begun h) in
    let s = kept.served in
    let put : bytes_of q.put ++ unput ≡ ([] ++ flat_map went_out c.calls) ++ e.pending_bytes =
    c.put ∙ ap (λ (x : List (Vec ℕ)). (bytes_of x ++ flat_map went_out c.calls) ++ e.pending_bytes) none in
    record {
      handled = messages_in s.steps;
      answered = s.frames;
      runs = serves_runs h.taken s.steps h e.host s.frames s.writes s.serves (s.asides_are ∙ c.no_aside);
      answers_fit = each_fits s.frames s.frames_fit;
      reads = subst (λ (x : List ℕ). IsStream terminal 1 x (messages_in s.steps ++ e.waiting) e.framer.bytes (option_map mesg_fault e.broken_by)) c.came_is s.reads;
      sent = sent_of (bytes_of q.put) unput (flat_map went_out c.calls) e.pending_bytes (stream_of host e.unwritten) (stream_of host s.frames) put s.bytes;
      place = kept.place ∙ ap length c.came_is;
    }

-- ## The end

-- where all was answered
none_left : (end : HostEnd) (h : PlainHost) (e : PlainHostEndpoint) (put : List (Vec ℕ)) (came : List ℕ) (c : Came h e put came []) → IsQuiet e
    → HostStopped end c.handled ([] ++ stream_of host e.unwritten) (stream_of terminal e.waiting ++ e.framer.bytes) None
none_left end h e put came c quiet = grind (arith, append-nil)

-- where the worker stopped, and what came after it was dropped
stopped_so : (refuses : Type 0) (end : HostEnd) (h : PlainHost) (e : PlainHostEndpoint) (put : List (Vec ℕ)) (came rest more unput : List ℕ) (c : Came h e put came unput) (why : Stop)
    → end.host ≡ e.host → bytes_of (items_of 0 end.take.taken) ≡ (came ++ rest) ++ more → Causes refuses e rest why
    → HostStopped end c.handled (unput ++ stream_of host e.unwritten) ((stream_of terminal e.waiting ++ e.framer.bytes) ++ (rest ++ more)) (Some why)
stopped_so refuses end h e put came rest more unput c (stop.Frame n) is got (inl (seven, full)) =
    inl (seven, grind (arith, length-append))
stopped_so refuses end h e put came rest more unput c (stop.Frame n) is got (inr (why, (idle, broken_by), number)) =
    inr (e.framer.bytes, rest ++ more, mesg_fault why, grind arith, grind (arith, append-nil), number)
stopped_so refuses end h e put came rest more unput c (stop.Host n) is got (why, (m, others, waits, answered, written), number) =
    let after : List ℕ = rest ++ more in
    let others_are : List ℕ = stream_of terminal others in
    let fits = subst (λ (ms : List Tmesg). Each (FitsT 2) ms) waits (each_behind (FitsT 2) c.handled e.waiting (each_t 1 (c.handled ++ e.waiting) c.reads.splits.fit)) in (
      m,
      (others_are ++ e.framer.bytes) ++ after,
      why,
      fits.0,
      ap (λ (ms : List Tmesg). (stream_of terminal ms ++ e.framer.bytes) ++ after) waits
          ∙ ap (λ (x : List ℕ). x ++ after) (append_assoc (frame_of terminal m) others_are e.framer.bytes)
          ∙ append_assoc (frame_of terminal m) (others_are ++ e.framer.bytes) after,
      ap (λ (h : PlainHost). answer h m) is ∙ answered,
      number,
    )
stopped_so refuses end h e put came rest more unput c why is got cause = grind arith

told_so : (refuses : Type 0) (up down : LineView) (h : PlainHost) (p q : PostView (Vec ℕ)) (last : PlainHostEndpoint) (came rest more unput : List ℕ) (end : HostEnd)
    → p ≡ new_post down 0 → h ≡ new_host end.files.items → (length end.files.items ≤ most_files) × All IsFile end.files.items
    → (made : Calls (begun_with h) last p q came unput) → end.host ≡ last.host
    → end.post ≡ closed_post q → end.take.line ≡ up → bytes_of (items_of 0 end.take.taken) ≡ (came ++ rest) ++ more → IsEnded 1 end.take.taken
    → ((c : Came h last q.put came unput) → HostStopped end c.handled (unput ++ stream_of host last.unwritten) ((stream_of terminal last.waiting ++ last.framer.bytes) ++ (rest ++ more)) end.stop)
    → HostTold up down end
told_so refuses up down h p q last came rest more unput end first begins files made host_is closed line got ended stopped =
    let c = came_of h last p q came unput (ap (λ (x : PostView (Vec ℕ)). x.put) first) made in
    record {
      handled = c.handled;
      answered = c.answered;
      to_send = unput ++ stream_of host last.unwritten;
      rest = (stream_of terminal last.waiting ++ last.framer.bytes) ++ (rest ++ more);
      take_is = line;
      post_is = grind arith;
      number_is = grind arith;
      drained = ended;
      files = files;
      runs = grind arith;
      fit = front_fits terminal 1 c.handled last.waiting c.reads.splits.fit;
      got = grind (arith, append_assoc, stream_of-append);
      sent = grind arith;
      answers_fit = c.answers_fit;
      closed = grind arith;
      stopped = stopped c;
    }

-- what came after a stop was dropped
dropped_too : (e : HostEnd) (taken more : List (Entry (Vec ℕ))) → e.take.taken ≡ taken ++ more
    → bytes_of (items_of 0 e.take.taken) ≡ bytes_of (items_of 0 taken) ++ bytes_of (items_of 0 more)
dropped_too e taken more all =
    ap (λ (x : List (Entry (Vec ℕ))). bytes_of (items_of 0 x)) all ∙ ap bytes_of (items_of-append 0 taken more)
    ∙ flat_map-append (λ (v : Vec ℕ). v.items) (items_of 0 taken) (items_of 0 more)

told_of : (refuses : Type 0) (up down : LineView) (h : PlainHost) (g : PlainHostEndpoint) (p q : PostView (Vec ℕ)) (taken more : List (Entry (Vec ℕ))) (e : HostEnd) (s : Option Stop)
    → e.stop ≡ s → p ≡ new_post down 0 → h ≡ new_host e.files.items → (length e.files.items ≤ most_files) × All IsFile e.files.items
    → Serves refuses (begun_with h) g p q taken s → e.host ≡ g.host
    → e.post ≡ closed_post q → e.take.line ≡ up → e.take.taken ≡ taken ++ more → (s ≡ None → more ≡ [])
    → IsEnded 1 e.take.taken → HostTold up down e
told_of refuses up down h g p q taken more e None is first begins files (made, quiet, all_taken) host_is closed line all none ended =
    let bytes : List ℕ = bytes_of (items_of 0 taken) in
    let got : bytes_of (items_of 0 e.take.taken) ≡ (bytes ++ []) ++ [] =
    dropped_too e taken more all ∙ ap (λ (x : List (Entry (Vec ℕ))). bytes ++ bytes_of (items_of 0 x)) (none refl) ∙ sym (append-nil (bytes ++ [])) in
    told_so refuses up down h p q g bytes [] [] [] e first begins files made host_is closed line got ended
    (λ (c : Came h g q.put bytes []). grind (arith, append-nil, (none_left e h g q.put bytes c quiet)))
told_of refuses up down h g p q taken more e (Some why) is first begins files halts host_is closed line all none ended =
    let left : List ℕ = bytes_of (items_of 0 more) in
    let got : bytes_of (items_of 0 e.take.taken) ≡ (halts.came ++ halts.rest) ++ left = dropped_too e taken more all ∙ ap (λ (x : List ℕ). x ++ left) halts.whole in
    let same : e.host ≡ halts.last.host = host_is ∙ halts.host_is in
    told_so refuses up down h p q halts.last halts.came halts.rest left halts.unput e first begins files halts.made same closed line got ended
    (λ (c : Came h halts.last q.put halts.came halts.unput).
    subst (λ (x : Option Stop). HostStopped e c.handled (halts.unput ++ stream_of host halts.last.unwritten) ((stream_of terminal halts.last.waiting ++ halts.last.framer.bytes) ++ (halts.rest ++ left)) x) (sym is)
    (stopped_so refuses e h halts.last q.put halts.came halts.rest left halts.unput c why same got halts.cause))

pub told_from : (refuses : Type 0) (up down : LineView) (start : PlainHostEndpoint) (h : PlainHost) (g : PlainHostEndpoint) (p q : PostView (Vec ℕ)) (taken more : List (Entry (Vec ℕ))) (e : HostEnd)
    (s : Option Stop) → start ≡ begun_with h → e.stop ≡ s → p ≡ new_post down 0 → h ≡ new_host e.files.items → (length e.files.items ≤ most_files) × All IsFile e.files.items
    → Serves refuses start g p q taken s → e.host ≡ g.host
    → e.post ≡ closed_post q → e.take.line ≡ up → e.take.taken ≡ taken ++ more → (s ≡ None → more ≡ [])
    → IsEnded 1 e.take.taken → HostTold up down e
told_from refuses up down start h g p q taken more e s begun is first begins files serves host_is closed line all none ended =
    told_of refuses up down h g p q taken more e s is first begins files (subst (λ (x : PlainHostEndpoint). Serves refuses x g p q taken s) begun serves) host_is closed line all none ended

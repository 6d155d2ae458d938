-- What the runs of two endpoints come to, in the words of two sides that worked apart.
use Rattle.std.proofs.Common.{◌≡◌, refl, sym, ap, subst, ◌∙◌, ℕ, ◌+◌, true, List, [], ◌∷◌, ◌++◌, map, Some, Result, append_assoc, arith}
use Rattle.std.proofs.lemmas.List.{append_cancel_left}
use Rattle.sam_mesg.specs.declared.hmesg.HFrame.{HFrame}
use Rattle.sam_mesg.specs.declared.tmesg.Tmesg.{Tmesg}
use Rattle.sam_frame.proofs.Fronts.{stream_of-append}
use Rattle.sam_frame.specs.Direction.{Direction}
use Rattle.sam_frame.specs.Stream.{stream_of}
use Rattle.sam_host.specs.Host.{PlainHost, with_given}
use Rattle.sam_host.specs.declared.fault.HostFault.{HostFault}
use Rattle.sam_term.specs.Fitting.{composed_in}
use Rattle.sam_term.specs.Term.{Made, PlainTerminal}
use Rattle.sam_term.specs.declared.event.Acted.{Acted}
use Rattle.sam_term.specs.declared.event.Acted.TheVariants.{Idle, Locked, Done, Refused}
use Rattle.sam_term.specs.declared.event.UserEvent.{UserEvent}
use Rattle.sam_term.specs.declared.fault.TermFault.{TermFault}
use Rattle.sam_endpoint.specs.HostEndpoints.{Step as HostStep, Answered, Joined, Marked, MayJoin, MayMark, Serves}
use Rattle.sam_endpoint.specs.HostRuns.{asides_after, messages_in}
use Rattle.sam_endpoint.specs.TermRuns.{Step, Received, Held, Decided, Sent, Leads, events_in, frames_in}
use Rattle.sam_sides.specs.Logs.{logged_users}
use Rattle.sam_sides.specs.RealSides.{acted, composed_by, sides, unless_refused}
use Rattle.sam_sides.specs.Sides.{Each, TermRuns}
use Rattle.std.proofs.Common.{Option, not, is_some}
use Rattle.sam_host.specs.Marking.{marked}
use Rattle.sam_crossing.specs.Joining.{may_join}
use Rattle.sam_crossing.specs.World.{may_mark}
use Rattle.sam_apart.proofs.RealLaws.{counts}
use Rattle.sam_apart.specs.Apart.{Asides, HostRunsWith, aside_frames}
use Rattle.sam_sides.specs.declared.log.TermLog.{TermLog}
use Rattle.sam_sides.specs.declared.log.TermLog.TheVariants as log

-- ## What each side did

-- a message more, before all others
handled_first : (asides : Asides) (h j k : PlainHost) (m : Tmesg) (first : List HFrame) (ms : List Tmesg) (frames : List HFrame) → sides.handle h m ≡ Some (j, first)
    → HostRunsWith j asides ms frames k → HostRunsWith h asides (m ∷ ms) (first ++ frames) k
handled_first [] h j k m first ms frames handled r = (j, first, frames, handled, refl, r)
handled_first (x ∷ asides) h j k m first ms frames handled (before, after, front, rest, g, whole, parts, runs, count, may, more) = (
  m ∷ before,
  after,
  first ++ front,
  rest,
  g,
  ap (λ (l : List Tmesg). m ∷ l) whole,
  ap (λ (l : List HFrame). first ++ l) parts ∙ sym (append_assoc first front (aside_frames g x.1 ++ rest)),
  (j, first, front, handled, refl, runs),
  count,
  may,
  more,
)

may_there : (h : PlainHost) (file : List ℕ × List ℕ) → MayJoin h file → may_join h file.0 file.1 ≡ true
may_there h file may = grind (arith, may)

mark_there : (h : PlainHost) (f : ℕ) → MayMark h f → may_mark h f ≡ true
mark_there h f may = ap (λ (o : Option _). not (is_some o)) may

-- a host that serves handles its messages, and files join it or are marked
pub serves_runs : (steps : List HostStep) (h k : PlainHost) (frames : List HFrame) (writes : List ℕ) → Serves h steps frames writes k
    → HostRunsWith h (asides_after h.taken steps) (messages_in steps) frames k
serves_runs [] h k frames writes s = (s.0, s.2)
serves_runs (Answered m ∷ steps) h k frames writes (j, first, rest, more, answered, parts, noted, s) =
    let handled : sides.handle h m ≡ Some (j, first) = ap (λ (r : Result (PlainHost × List HFrame) HostFault). unless_refused r) answered in
    let others = subst (λ (n : ℕ). HostRunsWith j (asides_after n steps) (messages_in steps) rest k) (counts.taken h m j first handled) (serves_runs steps j k rest more s) in
    subst (λ (l : List HFrame). HostRunsWith h (asides_after (h.taken + 1) steps) (m ∷ messages_in steps) l k) (sym parts)
    (handled_first (asides_after (h.taken + 1) steps) h j k m first (messages_in steps) rest handled others)
serves_runs (Joined file ∷ steps) h k frames writes (may, s) =
    ([], messages_in steps, [], frames, h, refl, refl, (refl, refl), refl, may_there h file may, serves_runs steps (with_given h file) k frames writes s)
serves_runs (Marked f ∷ steps) h k frames writes (rest, may, parts, s) =
    ([], messages_in steps, [], rest, h, refl, parts, (refl, refl), refl, mark_there h f may, serves_runs steps (marked h f) k rest writes s)

-- the entry of a log for a step
abbrev pub entry_of : Step → TermLog
entry_of (Received frame) = log.Take frame.seen
entry_of (Held event) = log.User event
entry_of (Decided acted) = log.Act
entry_of Sent = log.Flush

same_composed : (a : Acted) → composed_by a ≡ composed_in a
same_composed Idle = refl
same_composed Locked = refl
same_composed (Done ms) = refl
same_composed (Refused why) = refl

-- a terminal that is led by steps goes through their log
pub leads_runs : (steps : List Step) (t u : PlainTerminal) (composed : List Tmesg) → Leads t steps composed u
    → TermRuns sides t (map entry_of steps) (frames_in steps) composed u
leads_runs [] t u composed l = (refl, l.0, l.1)
leads_runs (Received frame ∷ steps) t u composed l =
    (frame, frames_in steps, l.0, l.1, l.2, refl, refl, ap (λ (r : Result Made TermFault). unless_refused r) l.3, l.4, leads_runs steps l.0 u l.2 l.5)
leads_runs (Held event ∷ steps) t u composed l = leads_runs steps (record t { held = t.held ++ event ∷ [] }) u composed l
leads_runs (Decided a ∷ steps) t u composed l = (
  l.0,
  composed_by a,
  l.1,
  ap (λ (r : Result (PlainTerminal × Acted) TermFault). acted r) l.2,
  l.4 ∙ ap (λ (first : List Tmesg). first ++ l.1) (sym (same_composed a)),
  leads_runs steps l.0 u l.1 l.5,
)
leads_runs (Sent ∷ steps) t u composed l =
    (l.0, l.1, l.2, ap (λ (r : Result Made TermFault). unless_refused r) l.3, l.4, leads_runs steps l.0 u l.2 l.5)

-- the users of that log are the events that were held
pub users_logged : (steps : List Step) → logged_users (map entry_of steps) ≡ events_in steps
users_logged [] = refl
users_logged (Received frame ∷ steps) = users_logged steps
users_logged (Held event ∷ steps) = ap (λ (events : List UserEvent). event ∷ events) (users_logged steps)
users_logged (Decided a ∷ steps) = users_logged steps
users_logged (Sent ∷ steps) = users_logged steps

-- ## Lists

-- All bytes that one end wrote are those that the other read and handled, those that it read and keeps, those that it holds, those on their
-- way, and the last
pub parts_of : (all out came front kept half way last : List ℕ) → out ++ last ≡ all → out ≡ came ++ way → came ≡ (front ++ kept) ++ half
    → all ≡ front ++ (((kept ++ half) ++ way) ++ last)
parts_of all out came front kept half way last p q r = grind (arith, append_assoc)

pub read_of : (all out came read half way last : List ℕ) → out ++ last ≡ all → out ≡ came ++ way → came ≡ read ++ half
    → all ≡ (read ++ half) ++ (way ++ last)
read_of all out came read half way last p q r = grind (arith, append_assoc)

-- the rest of a stream
pub rest_of : {M : Type 0} (d : Direction M) (all front rest : List M) (way : List ℕ) → all ≡ front ++ rest
    → stream_of d all ≡ stream_of d front ++ way → stream_of d rest ≡ way
rest_of d all front rest way whole bytes =
    append_cancel_left (stream_of d front) (stream_of d rest) way (sym (stream_of-append d front rest) ∙ (sym (ap (stream_of d) whole) ∙ bytes))

-- each frame has bytes
pub none_written : {M : Type 0} (d : Direction M) (ms : List M) → stream_of d ms ≡ [] → ms ≡ []
none_written d [] none = refl
none_written d (m ∷ ms) none = absurd (cc)

-- a member behind others
pub behind : {X : Type 0} (P : X → Type 0) (xs ys : List X) (y : X) → Each P (xs ++ y ∷ ys) → P y
behind P [] ys y all = all.0
behind P (x ∷ xs) ys y all = behind P xs ys y all.1

-- The sides of a joined run with the messages that each has handled or composed so far: what was composed fits, each message at its place.
use Rattle.sam_apart.proofs.Common.{◌≡◌, ◌+◌, ◌==◌, true, length, with_given, new_host, new_terminal, run_of, Each, each_append, FitsUnder, fits, Asides, Aside, Joins, Marks, after_aside, aside_frames, may_do, HostRunsWith, asides_in, without_asides, ℕ, false, List, [], ◌∷◌, ◌++◌, Option, Some, None, Result, Ok, Err, refl, sym, ap, ◌∙◌, subst, append_assoc, arith, append-nil, same_Some, HFrame, after_t, Tmesg, terminal, version_after, version_after-append, PlainHost, answer, HostFault, PlainTerminal, act_of, flush_of, take_of, unsent_message, Event, TermLog, PlainWorld, after_answer, host_takes, step_of, merged, IsInOrder, mesgs, Steps, Counts, HostRuns, TermRuns, World, world, if_given, composed, answered, host_take, term_take, step, run, steps_in_order, version_at_its_place, settles, sides, unless_refused, acted}
use Rattle.sam_crossing.specs.Order.{InOrder, views}
use Rattle.sam_crossing.specs.StreamVersions.{version_behind}
use Rattle.std.proofs.Common.{if◌then◌else◌, zero, suc, Bool, not, is_some, unwrap_or, eqb-true}
use Rattle.sam_runes.specs.Checks.{first_of_checks}
use Rattle.sam_runes.specs.Slots.{slot}
use Rattle.sam_runes.proofs.SlotLaws.{slot-put_same, slot-put_other}
use Rattle.sam_text.specs.Files.{PlainFile, blank_file, file_at, has_file}
use Rattle.sam_host.specs.Host.{given_file, given_slots}
use Rattle.sam_host.specs.declared.fault.MarkFault.TheVariants as refusal
use Rattle.sam_crossing.specs.World.{may_mark}
use Rattle.sam_crossing.proofs.Starting.{IsShut, given_shut}
use Rattle.sam_crossing.proofs.Composing.{not_done_ahead}
use Rattle.sam_crossing.proofs.Streaming.{still_done}
use Rattle.sam_crossing.specs.declared.event.Event.TheVariants.{User, Add, Mark, Act, Flush, HostTake, TermTake}
use Rattle.sam_sides.specs.declared.log.TermLog.TheVariants as log
use Rattle.sam_apart.proofs.RealLaws.{counts, answered_as}
use Rattle.sam_apart.proofs.ApartKinds.{act_turn, flush_turn, take_turn, answered as answer_is}
use Rattle.sam_apart.proofs.ApartTurns.{InTurn, InTurn-append}
use Rattle.sam_apart.proofs.ApartJoins.{File, adds, at_count, arrived, behind_frames, world_then, Arrives, arrives, without-adds, asides-adds}

-- ## Sides with their messages

-- the host with what is done there later beside its messages, and the messages that it has handled
abbrev HostSide : Type 0
HostSide = PlainHost × (Asides × List Tmesg)

abbrev TermSide : Type 0
TermSide = PlainTerminal × List Tmesg

abbrev added : List Tmesg → Option (PlainTerminal × List Tmesg) → Option (TermSide × List Tmesg)
added l None = None
added l (Some p) = Some ((p.0, l ++ p.1), p.1)

abbrev joined_up : List Tmesg → List HFrame → Option (PlainHost × (List HFrame × Asides)) → Option (HostSide × List HFrame)
joined_up l frames None = None
joined_up l frames (Some p) = Some ((p.0, (p.1.1, l)), frames ++ p.1.0)

-- after the answer all is done that is done there
abbrev took : Asides → List Tmesg → Option (PlainHost × List HFrame) → Option (HostSide × List HFrame)
took asides l None = None
took asides l (Some p) = joined_up l p.1 (arrived p.0 asides)

abbrev listing : Steps HostSide TermSide Tmesg HFrame
listing = record {
  handle = λ h m. took h.1.0 (h.1.1 ++ m ∷ []) (sides.handle h.0 m);
  taken = λ h. h.0.taken;
  user = λ t e. (sides.user t.0 e, t.1);
  act = λ t. added t.1 (sides.act t.0);
  flush = λ t. added t.1 (sides.flush t.0);
  receive = λ t frame. added t.1 (sides.receive t.0 frame);
  sent = λ t. t.0.sent;
  seen = λ frame. frame.seen;
}

-- what a step of that host was
record Took (h : HostSide) (m : Tmesg) (k : HostSide) (fs : List HFrame) : Type 0 where
  host : PlainHost
  first : List HFrame
  more : List HFrame
  handled : sides.handle h.0 m ≡ Some (host, first)
  joined : arrived host h.1.0 ≡ Some (k.0, (more, k.1.0))
  frames : fs ≡ first ++ more
  list : k.1.1 ≡ h.1.1 ++ m ∷ []

took_is : (h : HostSide) (m : Tmesg) (k : HostSide) (fs : List HFrame) → listing.handle h m ≡ Some (k, fs) → Took h m k fs
took_is h m k fs e = by (sides.handle h.0 m) refl e
  where
    up : (p : PlainHost × List HFrame) (o : Option (PlainHost × (List HFrame × Asides))) → sides.handle h.0 m ≡ Some p → arrived p.0 h.1.0 ≡ o
        → joined_up (h.1.1 ++ m ∷ []) p.1 o ≡ Some (k, fs) → Took h m k fs
    up p None q a e = absurd (cc)
    up p (Some j) q a e =
        let is : ((j.0, (j.1.1, h.1.1 ++ m ∷ [])), p.1 ++ j.1.0) ≡ (k, fs) = same_Some _ _ e in
        record {
          host = p.0;
          first = p.1;
          more = j.1.0;
          handled = q;
          joined = a ∙ ap (λ (x : HostSide × List HFrame). Some (x.0.0, (j.1.0, x.0.1.0))) is;
          frames = ap (λ (x : HostSide × List HFrame). x.1) (sym is);
          list = ap (λ (x : HostSide × List HFrame). x.0.1.1) (sym is);
        }

    by : (o : Option (PlainHost × List HFrame)) → sides.handle h.0 m ≡ o → took h.1.0 (h.1.1 ++ m ∷ []) o ≡ Some (k, fs) → Took h m k fs
    by None q e = absurd (cc)
    by (Some p) q e = up p (arrived p.0 h.1.0) q refl e

-- files that join or are marked count for nothing
abbrev around : PlainHost → PlainWorld
around h = record { host = h; term = new_terminal; up = []; down = [] }

arrived-taken : (asides : Asides) (h : PlainHost) (p : PlainHost × (List HFrame × Asides)) → arrived h asides ≡ Some p → p.0.taken ≡ h.taken
arrived-taken asides h p e = (arrives asides (around h) p e).taken

-- and their frames carry the count
took_stamped : (h : HostSide) (m : Tmesg) (k : HostSide) (fs : List HFrame) → Took h m k fs → Each (λ (frame : HFrame). frame.seen ≡ k.0.taken) fs
took_stamped h m k fs t =
    let a = arrives h.1.0 (around t.host) (k.0, (t.more, k.1.0)) t.joined in
    subst (Each (λ (frame : HFrame). frame.seen ≡ k.0.taken)) (sym t.frames)
    (subst (λ (n : ℕ). Each (λ (frame : HFrame). frame.seen ≡ n) (t.first ++ t.more)) (sym a.taken)
    (each_append (λ (frame : HFrame). frame.seen ≡ t.host.taken) t.first t.more (counts.stamped h.0 m t.host t.first t.handled) a.stamps))

listing_counts : Counts listing
listing_counts = record {
  taken = λ h m k fs e. let t = took_is h m k fs e in arrived-taken h.1.0 t.host (k.0, (t.more, k.1.0)) t.joined ∙ counts.taken h.0 m t.host t.first t.handled;
  stamped = λ h m k fs e. took_stamped h m k fs (took_is h m k fs e);
  user = λ t e. refl;
  act = λ t u ms e. counts.act t.0 u.0 ms (grind arith);
  flush = λ t u ms e. counts.flush t.0 u.0 ms (grind arith);
  receive = λ t u frame ms e. counts.receive t.0 u.0 frame ms (grind arith);
  past = λ t u frame ms e. counts.past t.0 u.0 frame ms (grind arith);
}

-- ## The host's run

-- from where all is done that is done before the first message
record Lists (h : PlainHost) (asides : Asides) (ms : List Tmesg) (fs : List HFrame) (k : PlainHost) (l : List Tmesg) : Type 0 where
  start : PlainHost × (List HFrame × Asides)
  begins : arrived h asides ≡ Some start
  rest : List HFrame
  frames : fs ≡ start.1.0 ++ rest
  runs : HostRuns listing (start.0, (start.1.1, l)) ms rest (k, ([], l ++ ms))

host_counted : (ms : List Tmesg) (h k : PlainHost) (fs : List HFrame) → HostRuns sides h ms fs k → k.taken ≡ h.taken + length ms
host_counted [] h k fs r = grind arith
host_counted (m ∷ ms) h k fs r =
    let one = counts.taken h m r.0 r.1 r.3 in
    let others = host_counted ms r.0 k r.2 r.5 in
    omega (arith, one, others)

alone_lists : (ms : List Tmesg) (h k : PlainHost) (l : List Tmesg) (fs : List HFrame) → HostRuns sides h ms fs k → HostRuns listing (h, ([], l)) ms fs (k, ([], l ++ ms))
alone_lists [] h k l fs r = grind (arith, append-nil)
alone_lists (m ∷ ms) h k l fs r = (
  (r.0, ([], l ++ m ∷ [])),
  r.1,
  r.2,
  ap (took [] (l ++ m ∷ [])) r.3 ∙ ap (λ (y : List HFrame). Some ((r.0, ([], l ++ m ∷ [])), y)) (append-nil r.1),
  r.4,
  subst (λ (y : List Tmesg). HostRuns listing (r.0, ([], l ++ m ∷ [])) ms r.2 (k, ([], y))) (append_assoc l (m ∷ []) ms) (alone_lists ms r.0 k (l ++ m ∷ []) r.2 r.5),
)

host_lists : (asides : Asides) (h k : PlainHost) (ms : List Tmesg) (fs : List HFrame) (l : List Tmesg) → HostRunsWith h asides ms fs k → Lists h asides ms fs k l
host_lists [] h k ms fs l r = record { start = (h, ([], [])); begins = refl; rest = fs; frames = refl; runs = alone_lists ms h k l fs r }
host_lists (j ∷ asides) h k ms fs l (before, after, first, rest, g, whole, frames, runs, count, may, more) =
    subst (λ (x : List Tmesg). Lists h (j ∷ asides) x fs k l) (sym whole) (subst (λ (x : List HFrame). Lists h (j ∷ asides) (before ++ after) x k l) (sym frames)
    (part before h first l runs (λ l. host_lists asides (after_aside g j.1) k after rest l more)))
  where
    now : List HFrame
    now = aside_frames g j.1

    part : (before : List Tmesg) (h : PlainHost) (first : List HFrame) (l : List Tmesg) → HostRuns sides h before first g
        → ((l : List Tmesg) → Lists (after_aside g j.1) asides after rest k l)
        → Lists h (j ∷ asides) (before ++ after) (first ++ (now ++ rest)) k l
    part [] h first l r later =
        let x = later l in
        let same : g ≡ h = r.1 in
        let here : (j.0 == g.taken) ≡ true = grind arith in
        let begins : arrived g (j ∷ asides) ≡ Some (x.start.0, (now ++ x.start.1.0, x.start.1.1)) = rw (here, may, x.begins) refl in
        let there : Lists g (j ∷ asides) after (now ++ rest) k l = record {
          start = (x.start.0, (now ++ x.start.1.0, x.start.1.1));
          begins = begins;
          rest = x.rest;
          frames = ap (λ (fs : List HFrame). now ++ fs) x.frames ∙ sym (append_assoc now x.start.1.0 x.rest);
          runs = x.runs;
        } in
        rw r.0 (subst (λ (y : PlainHost). Lists y (j ∷ asides) after (now ++ rest) k l) same there)
    part (m ∷ ms) h first l r later =
        let x = part ms r.0 r.2 (l ++ m ∷ []) r.5 later in
        let one = counts.taken h m r.0 r.1 r.3 in
        let others = host_counted ms r.0 g r.2 r.5 in
        let past : (j.0 == h.taken) ≡ false = grind (arith, one, others, count) in
        let handles : listing.handle (h, (j ∷ asides, l)) m ≡ Some ((x.start.0, (x.start.1.1, l ++ m ∷ [])), r.1 ++ x.start.1.0) = rw (r.3, x.begins) refl in
        record {
          start = (h, ([], j ∷ asides));
          begins = rw past refl;
          rest = first ++ (now ++ rest);
          frames = refl;
          runs = (
            (x.start.0, (x.start.1.1, l ++ m ∷ [])),
            r.1 ++ x.start.1.0,
            x.rest,
            handles,
            ap (λ (y : List HFrame). y ++ (now ++ rest)) r.4 ∙ append_assoc r.1 r.2 (now ++ rest) ∙ ap (λ (y : List HFrame). r.1 ++ y) x.frames ∙ sym (append_assoc r.1 x.start.1.0 x.rest),
            subst (λ (y : List Tmesg). HostRuns listing (x.start.0, (x.start.1.1, l ++ m ∷ [])) (ms ++ after) x.rest (k, ([], y))) (append_assoc l (m ∷ []) (ms ++ after)) x.runs,
          );
        }

term_lists : (es : List TermLog) (t u : PlainTerminal) (l : List Tmesg) (fs : List HFrame) (ms : List Tmesg) → TermRuns sides t es fs ms u → TermRuns listing (t, l) es fs ms (u, l ++ ms)
term_lists [] t u l fs ms r = grind (arith, append-nil)
term_lists (log.User e ∷ es) t u l fs ms r = term_lists es (sides.user t e) u l fs ms r
term_lists (log.Act ∷ es) t u l fs ms r = grind (arith, append_assoc, (term_lists es r.0 u (l ++ r.1) fs r.2 r.5))
term_lists (log.Flush ∷ es) t u l fs ms r = grind (arith, append_assoc, (term_lists es r.0 u (l ++ r.1) fs r.2 r.5))
term_lists (log.Take n ∷ es) t u l fs ms r = grind (arith, append_assoc, (term_lists es r.2 u (l ++ r.3) r.1 r.4 r.9))

-- ## A host that is not done where the terminal may act

running : (h : PlainHost) (t : PlainTerminal) (up : List Tmesg) (down : List HFrame) → InOrder h t up (mesgs down) → t.command_lock ≡ false → t.has_exited ≡ false → h.is_done ≡ false
running h t up down o c e =
    let line = up ++ unsent_message t.unsent in
    grind (arith, (not_done_ahead h (views t) line (mesgs down) o.kept e c), (still_done line h (o.kept.ahead, o.kept.frames) o.kept.folds))

same_behind : (ms : List Tmesg) (v : ℕ) → version_after terminal v ms ≡ version_behind v ms
same_behind [] v = refl
same_behind (m ∷ ms) v = same_behind ms (after_t v m)

-- ## The walk

abbrev Listed : Type 0
Listed = World HostSide TermSide Tmesg HFrame

-- the world, without the lists
abbrev bare : Listed → PlainWorld
bare w = record { host = w.host.0; term = w.term.0; up = w.up; down = w.down }

-- what was composed is what was handled and what is under way, and fits in turn; the host has the version after what it handled
pub record Walked (w : Listed) : Type 0 where
  pub order : IsInOrder (bare w)
  pub whole : w.term.1 ≡ w.host.1.1 ++ w.up
  pub turn : InTurn terminal 1 w.term.1
  pub version : w.host.0.is_done ≡ false → version_after terminal 1 w.host.1.1 ≡ w.host.0.version

-- where the terminal may act, it has the version after all that was composed
place : (w : Listed) → Walked w → w.term.0.command_lock ≡ false → w.term.0.has_exited ≡ false → version_after terminal 1 w.term.1 ≡ w.term.0.version
place w j c e = grind (
  arith,
  (running w.host.0 w.term.0 w.up w.down j.order.ordered c e),
  (version_after-append terminal 1 w.host.1.1 w.up),
  (same_behind w.up w.host.0.version),
  (version_at_its_place (bare w) j.order c e),
)

-- ## A step

-- an event, after which files join or are marked, leads from one to the other
record Stepped (w next : Listed) (e : Event) : Type 0 where
  done_now : List Aside
  runs : (es : List Event) → run_of (bare w) (e ∷ (adds done_now ++ es)) ≡ run_of (bare next) es
  merges : (es : List Event) → without_asides (e ∷ (adds done_now ++ es)) ≡ e ∷ without_asides es
  counts_on : (es : List Event) → asides_in w.host.0.taken (e ∷ (adds done_now ++ es)) ≡ at_count next.host.0.taken done_now ++ asides_in next.host.0.taken es
  are : w.host.1.0 ≡ at_count next.host.0.taken done_now ++ next.host.1.0
  walked : Walked next

-- the event takes nothing at the host
abbrev IsTerminals : Event → Type 0
IsTerminals (User x) = Unit {0}
IsTerminals (Add name text) = ⊥
IsTerminals (Mark f) = ⊥
IsTerminals Act = Unit {0}
IsTerminals Flush = Unit {0}
IsTerminals HostTake = ⊥
IsTerminals TermTake = Unit {0}

merges_alone : (e : Event) → IsTerminals e → (es : List Event) → without_asides (e ∷ es) ≡ e ∷ without_asides es
merges_alone e t es = grind arith

counts_alone : (count : ℕ) (e : Event) → IsTerminals e → (es : List Event) → asides_in count (e ∷ es) ≡ asides_in count es
counts_alone count e t es = grind arith

-- a step of the terminal's
steps_alone : (w next : Listed) (e : Event) → IsTerminals e → step_of (bare w) e ≡ Some (bare next) → next.host ≡ w.host → Walked next → Stepped w next e
steps_alone w next e t s same walked = record {
  done_now = [];
  runs = λ es. rw s refl;
  merges = merges_alone e t;
  counts_on = λ es. counts_alone w.host.0.taken e t es ∙ ap (λ (h : HostSide). asides_in h.0.taken es) (sym same);
  are = ap (λ (h : HostSide). h.1.0) (sym same);
  walked = walked;
}

-- the terminal composed something more
more_composed : (w : Listed) (down : List HFrame) (t : PlainTerminal) (ms : List Tmesg) → Walked w → IsInOrder (record { host = w.host.0; term = t; up = w.up ++ ms; down = down })
    → InTurn terminal (version_after terminal 1 w.term.1) ms → Walked (world w.host (t, w.term.1 ++ ms) (w.up ++ ms) down)
more_composed w down t ms j order turn = grind (arith, append_assoc, InTurn-append)

-- a step at which the terminal composed something, with this left on the way down
composes : (w next : Listed) (o : Option (PlainTerminal × List Tmesg)) (down : List HFrame) (e : Event) → IsTerminals e → Walked w
    → composed (world w.host w.term w.up down) (added w.term.1 o) ≡ Some next
    → ((t : PlainTerminal) (ms : List Tmesg) → o ≡ Some (t, ms)
    → (step_of (bare w) e ≡ Some (record { host = w.host.0; term = t; up = w.up ++ ms; down = down })) × InTurn terminal (version_after terminal 1 w.term.1) ms)
    → Stepped w next e
composes w next None down e own j s made = absurd (cc)
composes w next (Some p) down e own j s made =
    let after : Listed = world w.host (p.0, w.term.1 ++ p.1) (w.up ++ p.1) down in
    let both = made p.0 p.1 refl in
    subst (λ (v : Listed). Stepped w v e) (same_Some after next s)
    (steps_alone w after e own both.0 refl (more_composed w down p.0 p.1 j (steps_in_order (bare w) (bare after) e j.order both.0) both.1))

term_step : (w next : Listed) (down : List HFrame) → w.down ≡ down → Walked w → term_take listing w down ≡ Some next → Stepped w next TermTake
term_step w next [] is j s = absurd (cc)
term_step w next (frame ∷ frames) is j s =
    composes w next (unless_refused (take_of w.term.0 frame)) frames TermTake tt j s
    (λ t ms a. (grind arith, take_turn w.term.0 frame (t, ms) (version_after terminal 1 w.term.1) (answered_as (take_of w.term.0 frame) (t, ms) a)))

-- the host answered, and then files joined it or were marked
answers_joined : (w mid : Listed) (p : PlainHost × (List HFrame × Asides)) → step_of (bare w) HostTake ≡ Some (bare mid) → mid.host.1.0 ≡ w.host.1.0 → mid.host.0.taken ≡ w.host.0.taken + 1
    → Walked mid → Arrives (bare mid) mid.host.1.0 p → Stepped w (world (p.0, (p.1.1, mid.host.1.1)) mid.term mid.up (mid.down ++ p.1.0)) HostTake
answers_joined w mid p s same count j a = record {
  done_now = a.done_now;
  runs = λ es. rw s (a.runs es);
  merges = λ es. ap (λ (l : List Event). HostTake ∷ l) (without-adds a.done_now es);
  counts_on = λ es. ap (λ (n : ℕ). asides_in n (adds a.done_now ++ es)) (sym (a.taken ∙ count)) ∙ asides-adds p.0.taken a.done_now es;
  are = sym same ∙ a.are ∙ ap (λ (n : ℕ). at_count n a.done_now ++ p.1.1) (sym a.taken);
  walked = record { order = a.order j.order; whole = j.whole; turn = j.turn; version = λ d. j.version (sym a.done ∙ d) ∙ sym a.version };
}

host_step : (w next : Listed) (up : List Tmesg) → w.up ≡ up → Walked w → host_take listing w up ≡ Some next → Stepped w next HostTake
host_step w next [] is j s = absurd (cc)
host_step w next (m ∷ ms) is j s = taken (answer w.host.0 m) refl s
  where
    list : List Tmesg
    list = w.host.1.1 ++ m ∷ []

    mid : PlainHost × List HFrame → Listed
    mid r = world (r.0, (w.host.1.0, list)) w.term ms (w.down ++ r.1)

    went : (r : PlainHost × List HFrame) → answer w.host.0 m ≡ Ok r → step_of (bare w) HostTake ≡ Some (bare (mid r))
    went r a = ap (host_takes (bare w)) is ∙ ap (after_answer (record (bare w) { up = ms })) a

    walked : (r : PlainHost × List HFrame) → answer w.host.0 m ≡ Ok r → Walked (mid r)
    walked r a =
        let now = answer_is w.host.0 m r a in record {
          order = steps_in_order (bare w) (bare (mid r)) HostTake j.order (went r a);
          whole = grind (arith, append_assoc);
          turn = j.turn;
          version = λ d. version_after-append terminal 1 w.host.1.1 (m ∷ []) ∙ (ap (λ (v : ℕ). after_t v m) (j.version (now.past d).0) ∙ (now.past d).1);
        }

    up : (r : PlainHost × List HFrame) (o : Option (PlainHost × (List HFrame × Asides))) → answer w.host.0 m ≡ Ok r → arrived r.0 w.host.1.0 ≡ o
        → answered w ms (joined_up list r.1 o) ≡ Some next → Stepped w next HostTake
    up r None a q e = absurd (cc)
    up r (Some p) a q e =
        let joined = arrives w.host.1.0 (bare (mid r)) p q in
        let count = counts.taken w.host.0 m r.0 r.1 (ap (λ (x : Result (PlainHost × List HFrame) HostFault). unless_refused x) a) in
        subst (λ (v : Listed). Stepped w v HostTake) (ap (λ (fs : List HFrame). world (p.0, (p.1.1, list)) w.term ms fs) (append_assoc w.down r.1 p.1.0) ∙ same_Some _ _ e)
        (answers_joined w (mid r) p (went r a) refl count (walked r a) joined)

    taken : (r : Result (PlainHost × List HFrame) HostFault) → answer w.host.0 m ≡ r → answered w ms (took w.host.1.0 list (unless_refused r)) ≡ Some next → Stepped w next HostTake
    taken (Err why) a q = absurd (cc)
    taken (Ok r) a q = up r (arrived r.0 w.host.1.0) a refl q

walked_step : (w next : Listed) (e : Event) → Walked w → step listing w e ≡ Some next → Stepped w next e
walked_step w next (User x) j s =
    let after : Listed = world w.host (sides.user w.term.0 x, w.term.1) w.up w.down in
    let went : step_of (bare w) (User x) ≡ Some (bare after) = refl in
    subst (λ (v : Listed). Stepped w v (User x)) (same_Some after next s)
    (steps_alone w after (User x) tt went refl (record { order = steps_in_order (bare w) (bare after) (User x) j.order went; whole = j.whole; turn = j.turn; version = j.version }))
walked_step w next (Add name text) j s = absurd (cc)
walked_step w next (Mark f) j s = absurd (cc)
walked_step w next Act j s = composes w next (acted (act_of w.term.0)) w.down Act tt j s (grind (arith, act_turn, place))
walked_step w next Flush j s =
    composes w next (unless_refused (flush_of w.term.0)) w.down Flush tt j s
    (λ t ms a. (grind arith, flush_turn w.term.0 (t, ms) (version_after terminal 1 w.term.1) (answered_as (flush_of w.term.0) (t, ms) a)))
walked_step w next HostTake j s = host_step w next w.up refl j s
walked_step w next TermTake j s = term_step w next w.down refl j s

-- ## The run

-- these events, among which files join or are marked, lead from one to the other
record Went (w last : Listed) (es : List Event) : Type 0 where
  events : List Event
  run : run_of (bare w) events ≡ Some (bare last)
  merges : without_asides events ≡ es
  are : w.host.1.0 ≡ asides_in w.host.0.taken events ++ last.host.1.0
  walked : Walked last

steps_on : (w next last : Listed) (e : Event) (es : List Event) → Stepped w next e → Went next last es → Went w last (e ∷ es)
steps_on w next last e es s r = record {
  events = e ∷ (adds s.done_now ++ r.events);
  run = s.runs r.events ∙ r.run;
  merges = s.merges r.events ∙ ap (λ (l : List Event). e ∷ l) r.merges;
  are =
      let first = at_count next.host.0.taken s.done_now in
      s.are ∙ ap (λ (l : Asides). first ++ l) r.are ∙ sym (append_assoc first (asides_in next.host.0.taken r.events) last.host.1.0)
      ∙ ap (λ (l : Asides). l ++ last.host.1.0) (sym (s.counts_on r.events));
  walked = r.walked;
}

walked_run : (w last : Listed) (es : List Event) → Walked w → run listing w es ≡ Some last → Went w last es
walked_run w last [] j s = subst (λ (v : Listed). Went w v []) (same_Some _ _ s) (record { events = []; run = refl; merges = refl; are = refl; walked = j })
walked_run w last (e ∷ es) j s = go (step listing w e) refl (λ next a q. steps_on w next last e es (walked_step w next e j a) (walked_run next last es (walked_step w next e j a).walked q)) s
  where
    go : (o : Option Listed) → step listing w e ≡ o → ((next : Listed) → step listing w e ≡ Some next → run listing next es ≡ Some last → Went w last (e ∷ es))
        → if_given o (λ v. run listing v es) ≡ Some last → Went w last (e ∷ es)
    go None u q y = absurd (cc)
    go (Some next) u q y = q next u y

-- ## Two sides that worked apart

-- the merged log, among which files join and are marked, is a run, and what was composed in it fits in turn
pub record Merged (asides : Asides) (entries : List TermLog) (g h : PlainHost) (u t : PlainTerminal) (composed left : List Tmesg) (below : List HFrame) : Type 0 where
  pub events : List Event
  pub run : run_of (record { host = g; term = u; up = []; down = [] }) events ≡ Some (record { host = h; term = t; up = left; down = below })
  pub merges : without_asides events ≡ merged entries h.taken
  pub are : asides ≡ asides_in g.taken events
  pub turn : InTurn terminal 1 composed
  pub fitting : FitsUnder entries h.taken

-- where no file is announced none can be marked, so no frame comes before the first message
pub none_announced : (given : List (List ℕ × List ℕ)) (f : ℕ) → (file_at (new_host given).files f).announced ≡ false
none_announced given zero = refl
none_announced given (suc f) = by (slot (given_slots given) f) (given_shut given f)
  where
    by : (s : Option PlainFile) → IsShut s → (unwrap_or s blank_file).announced ≡ false
    by None e = refl
    by (Some x) e = e.1

still_none : (h : PlainHost) (file : File) → ((f : ℕ) → (file_at h.files f).announced ≡ false) → (f : ℕ) → (file_at (with_given h file).files f).announced ≡ false
still_none h file none f = by (length h.files.slots == f) refl
  where
    by : (b : Bool) → (length h.files.slots == f) ≡ b → (file_at (with_given h file).files f).announced ≡ false
    by true q = subst (λ (k : ℕ). (file_at (with_given h file).files k).announced ≡ false) (eqb-true (length h.files.slots) f q)
        (ap (λ (s : Option PlainFile). (unwrap_or s blank_file).announced) (slot-put_same h.files.slots (length h.files.slots) (given_file file)))
    by false q =
        ap (λ (s : Option PlainFile). (unwrap_or s blank_file).announced) (slot-put_other h.files.slots (length h.files.slots) f (given_file file) (λ e. absurd (grind (arith, q, e)))) ∙ none f

barred_mark : (h : PlainHost) (f : ℕ) → (file_at h.files f).announced ≡ false → may_mark h f ≡ true → ⊥
barred_mark h f none may = by _ _ (file_at h.files f).announced refl refl refl may
  where
    by : (a b c : Bool) → has_file h.files f ≡ a → (f == 0) ≡ b → (file_at h.files f).announced ≡ c
        → not (is_some (first_of_checks ((not a, refusal.NoFile) ∷ (b, refusal.CommandFile) ∷ (not c, refusal.NotAnnounced) ∷ []))) ≡ true → ⊥
    by a b true p q r e = absurd (grind (arith, r, none))
    by a b false p q r e = grind (arith, e)

first_frames : (asides : Asides) (h : PlainHost) (p : PlainHost × (List HFrame × Asides)) → ((f : ℕ) → (file_at h.files f).announced ≡ false) → arrived h asides ≡ Some p → p.1.0 ≡ []
first_frames [] h p none e = ap (λ (x : PlainHost × (List HFrame × Asides)). x.1.0) (sym (same_Some _ _ e))
first_frames ((count, Joins file) ∷ asides) h p none e =
    by (count == h.taken) (may_do h (Joins file)) e (λ r. first_frames asides (with_given h file) r (still_none h file none))
  where
    behind : (o : Option (PlainHost × (List HFrame × Asides))) → arrived (with_given h file) asides ≡ o
        → ((r : PlainHost × (List HFrame × Asides)) → arrived (with_given h file) asides ≡ Some r → r.1.0 ≡ []) → behind_frames [] o ≡ Some p → p.1.0 ≡ []
    behind None q more e = absurd (cc)
    behind (Some r) q more e = ap (λ (x : PlainHost × (List HFrame × Asides)). x.1.0) (sym (same_Some _ _ e)) ∙ more r q

    by : (here may : Bool) → (if here then (if may then behind_frames [] (arrived (with_given h file) asides) else None) else Some (h, ([], (count, Joins file) ∷ asides))) ≡ Some p
        → ((r : PlainHost × (List HFrame × Asides)) → arrived (with_given h file) asides ≡ Some r → r.1.0 ≡ []) → p.1.0 ≡ []
    by false may e more = ap (λ (x : PlainHost × (List HFrame × Asides)). x.1.0) (sym (same_Some _ _ e))
    by true false e more = absurd (cc)
    by true true e more = behind (arrived (with_given h file) asides) refl more e
first_frames ((count, Marks f) ∷ asides) h p none e = by (count == h.taken) (may_mark h f) refl e
  where
    by : (here may : Bool) → may_mark h f ≡ may
        → (if here then (if may then behind_frames (aside_frames h (Marks f)) (arrived (after_aside h (Marks f)) asides) else None) else Some (h, ([], (count, Marks f) ∷ asides))) ≡ Some p
        → p.1.0 ≡ []
    by false may q e = ap (λ (x : PlainHost × (List HFrame × Asides)). x.1.0) (sym (same_Some _ _ e))
    by true false q e = absurd (cc)
    by true true q e = absurd (barred_mark h f (none f) q)

pub merges : (asides : Asides) (entries : List TermLog) (g h : PlainHost) (u t : PlainTerminal) (composed handled left : List Tmesg) (taken below : List HFrame)
    → g.taken ≡ 0 → u.sent ≡ 0 → g.version ≡ 1 → ((f : ℕ) → (file_at g.files f).announced ≡ false) → IsInOrder (record { host = g; term = u; up = []; down = [] })
    → HostRunsWith g asides handled (taken ++ below) h → TermRuns sides u entries taken composed t → composed ≡ handled ++ left
    → Merged asides entries g h u t composed left below
merges asides entries g h u t composed handled left taken below none nothing first shut order hr tr whole =
    let begin : PlainWorld = record { host = g; term = u; up = []; down = [] } in
    let lists = host_lists asides g h handled (taken ++ below) [] hr in
    let a = arrives asides begin lists.start lists.begins in
    let no_frames : lists.start.1.0 ≡ [] = first_frames asides g lists.start shut lists.begins in
    let frames : taken ++ below ≡ lists.rest = lists.frames ∙ ap (λ (fs : List HFrame). fs ++ lists.rest) no_frames in
    let runs = subst (λ (fs : List HFrame). HostRuns listing (lists.start.0, (lists.start.1.1, [])) handled fs (h, ([], handled))) (sym frames) lists.runs in
    let start : Listed = world (lists.start.0, (lists.start.1.1, [])) (u, []) [] [] in
    let is : world_then begin lists.start.0 lists.start.1.0 ≡ bare start = ap (λ (fs : List HFrame). record begin { host = lists.start.0; down = fs }) no_frames in
    let last : Listed = world (h, ([], handled)) (t, composed) left below in
    let terms : TermRuns listing (u, []) entries taken (handled ++ left) (t, composed) =
    subst (λ (ms : List Tmesg). TermRuns listing (u, []) entries taken ms (t, composed)) whole (term_lists entries u t [] taken composed tr) in
    let ran = settles listing listing_counts entries start.host (h, ([], handled)) (u, []) (t, composed) handled left taken below (a.taken ∙ none) nothing runs terms in
    let walked : Walked start = record { order = subst IsInOrder is (a.order order); whole = refl; turn = tt; version = λ d. sym (a.version ∙ first) } in
    let w = walked_run start last (merged entries h.taken) walked ran in
    let now = at_count g.taken a.done_now in record {
      events = adds a.done_now ++ w.events;
      run = a.runs w.events ∙ ap (λ (v : PlainWorld). run_of v w.events) is ∙ w.run;
      merges = without-adds a.done_now w.events ∙ w.merges;
      are = a.are ∙ ap (λ (l : Asides). now ++ l) (w.are ∙ append-nil (asides_in lists.start.0.taken w.events) ∙ ap (λ (n : ℕ). asides_in n w.events) a.taken)
          ∙ sym (asides-adds g.taken a.done_now w.events);
      turn = w.walked.turn;
      fitting = fits listing listing_counts entries start.host (h, ([], handled)) (u, []) (t, composed) handled (handled ++ left) taken below runs terms;
    }

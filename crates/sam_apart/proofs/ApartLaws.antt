-- Two sides that worked apart are one run of the world; each read the other's stream, and neither refused the other.
use Rattle.sam_apart.proofs.Common.{◌≡◌, ◌∙◌, ap, subst, user_events, HostRunsWith, Asides, ℕ, false, List, [], ◌∷◌, ◌++◌, Some, None, Err, refl, sym, append_assoc, arith, le-ltb, append-nil, or_from, append_cancel_left, MesgFault, FitsT, Tmesg, FitsH, HFrame, Direction, terminal, host, frame_of, FitInTurn, version_after, stream_of, IsOpen, Shows, stream_of-append, stream_of-one, PlainHost, answer, new_host, HostFault, starts_sound, PlainTerminal, new_terminal, take_of, TermFault, TermLog, PlainWorld, merged, is_bad_log, IsInOrder, Begins, each_append, users_merged_from, FitsUnder, starts_in_order, reached_in_order, host_never_refuses, terminal_never_refuses, Apart, Joined, Understood}
use Rattle.sam_frame.specs.Reading.{IsStream, IsSound}
use Rattle.sam_frame.proofs.Unique.{one_reading}
use Rattle.sam_frame.proofs.Cuttings.{Shows-longer}
use Rattle.sam_host.specs.declared.fault.HostFault.TheVariants as hostfault
use Rattle.sam_term.specs.declared.fault.TermFault.TheVariants as fault
use Rattle.sam_world.proofs.Carries.{begins_from_bytes}
use Rattle.sam_apart.proofs.RealLaws.{up_sound, down_sound, up_free, down_free}
use Rattle.sam_apart.proofs.ApartJoins.{none-without, users-without}
use Rattle.sam_apart.proofs.ApartKinds.{joining_turn}
use Rattle.sam_apart.proofs.ApartWalk.{Merged, merges, none_announced}
use Rattle.sam_apart.proofs.ApartTurns.{in_turn, each_t, each_h}

-- ## Small facts

good_log : (es : List TermLog) (n : ℕ) → FitsUnder es n → is_bad_log es n ≡ false
good_log [] n l = refl
good_log (e ∷ es) n l = grind (arith, le-ltb, or_from, (good_log es n))

-- a stream of messages that fit in turn is read as these messages
written : {M : Type 0} (d : Direction M) (ms : List M) → FitInTurn d 1 ms → IsStream d 1 (stream_of d ms) ms [] None
written d ms p = record { splits = record { whole = sym (append-nil (stream_of d ms)); fit = p }; ends = tt }

pub no_fault : {M : Type 0} (d : Direction M) → IsSound d → (whole front : List M) (shown more : List ℕ) (fault : MesgFault) → FitInTurn d 1 whole → FitInTurn d 1 front
    → stream_of d whole ≡ (stream_of d front ++ shown) ++ more → Shows d (version_after d 1 front) shown fault → ⊥
no_fault d sound whole front shown more fault p q e s = grind (
  arith,
  append_assoc,
  (written d whole p),
  (Shows-longer d (version_after d 1 front) shown more fault s),
  (one_reading d sound 1 (stream_of d whole) whole front [] (shown ++ more) None (Some fault)),
)

pub all_read : {M : Type 0} (d : Direction M) → IsSound d → (whole front : List M) (rest : List ℕ) → FitInTurn d 1 whole → FitInTurn d 1 front
    → stream_of d whole ≡ stream_of d front ++ rest → IsOpen d (version_after d 1 front) rest → front ≡ whole
all_read d sound whole front rest p q e s = grind (arith, (written d whole p), (one_reading d sound 1 (stream_of d whole) whole front [] rest None None))

-- ## What was handled and taken are first parts

module _ (given : List (List ℕ × List ℕ)) (joining : Asides) (entries : List TermLog) (h : PlainHost) (t : PlainTerminal)
    (composed handled : List Tmesg) (answered passed taken : List HFrame) (a : Apart given joining entries h t composed handled answered passed taken) where
  handled_begins : Begins handled composed
  handled_begins = begins_from_bytes (FitsT 2) (frame_of terminal) up_free handled composed a.up.0 (each_t 1 handled a.handled_fit) a.composed_fit (sym a.up.1)

  passed_begins : Begins passed answered
  passed_begins = begins_from_bytes (FitsH 2) (frame_of host) down_free passed answered a.down.0 (each_h 1 passed a.passed_fit) a.answers_fit (sym a.down.1)

  taken_begins : Begins taken answered
  taken_begins = grind (arith, (append_assoc taken a.passing.rest passed_begins.rest))

  host_runs : HostRunsWith (new_host given) joining handled (taken ++ taken_begins.rest) h
  host_runs = subst (λ (fs : List HFrame). HostRunsWith (new_host given) joining handled fs h) taken_begins.is a.host_runs

  abbrev last : PlainWorld
  last = record { host = h; term = t; up = handled_begins.rest; down = taken_begins.rest }

  one : Merged joining entries (new_host given) h new_terminal t composed handled_begins.rest taken_begins.rest
  one = merges joining entries (new_host given) h new_terminal t composed handled handled_begins.rest taken taken_begins.rest refl refl refl (none_announced given)
      (starts_in_order given a.given_fit) host_runs a.term_runs handled_begins.is

  in_order : IsInOrder last
  in_order = reached_in_order given last a.given_fit (one.events, one.run)

  -- ## Each stream fits in turn

  composed_in_turn : FitInTurn terminal 1 composed
  composed_in_turn = in_turn terminal 1 composed one.turn a.composed_fit

  answered_in_turn : FitInTurn host 1 answered
  answered_in_turn = in_turn host 1 answered (joining_turn joining handled (new_host given) h answered (starts_sound given a.given_fit) a.host_runs) a.answers_fit

  -- ## The law

  pub joins : Joined given joining entries h t composed handled answered taken
  joins = record {
    events = one.events;
    world = last;
    run = one.run;
    merges = one.merges;
    asides_are = sym one.are;
    users_are = sym (users-without one.events) ∙ ap user_events one.merges ∙ users_merged_from 0 entries h.taken;
    good = good_log entries h.taken one.fitting;
    host_is = refl;
    term_is = refl;
    upwards = handled_begins.is;
    downwards = taken_begins.is;
    composed_in_turn = composed_in_turn;
    answered_in_turn = answered_in_turn;
  }

  -- ## Neither side refused the other

  host_stops_for_a_count : (m : Tmesg) (more : List ℕ) (why : HostFault) → FitsT 2 m → stream_of terminal composed ≡ (stream_of terminal handled ++ frame_of terminal m) ++ more
      → answer h m ≡ Err why → why ≡ hostfault.CountFull
  host_stops_for_a_count m more why good stream refused =
      let whole : stream_of terminal (handled ++ m ∷ []) ++ more ≡ stream_of terminal composed = grind (arith, (stream_of-append terminal handled (m ∷ [])), (stream_of-one terminal m)) in
      let fit = each_append (FitsT 2) handled (m ∷ []) (each_t 1 handled a.handled_fit) (good, tt) in
      let b = begins_from_bytes (FitsT 2) (frame_of terminal) up_free (handled ++ m ∷ []) composed more fit a.composed_fit whole in
      let next : handled_begins.rest ≡ m ∷ b.rest = grind (arith, append_assoc, handled_begins, (append_cancel_left handled handled_begins.rest (m ∷ b.rest))) in
      (host_never_refuses last m b.rest why in_order next refused).0

  terminal_stops_for_a_count : (frame : HFrame) (why : TermFault) → Begins (taken ++ frame ∷ []) passed → take_of t frame ≡ Err why → why ≡ fault.CountFull
  terminal_stops_for_a_count frame why b refused =
      let behind : List HFrame = b.rest ++ passed_begins.rest in
      grind (arith, append_assoc, passed_begins, taken_begins, (append_cancel_left taken taken_begins.rest (frame ∷ behind)), (terminal_never_refuses last frame behind why in_order))

  -- ## Each stream is read as it was written

  pub understood : Understood h t composed handled answered passed taken
  understood = record {
    host_stops_for_a_count = host_stops_for_a_count;
    terminal_stops_for_a_count = terminal_stops_for_a_count;
    no_fault_upwards = λ shown more fault. no_fault terminal up_sound composed handled shown more fault composed_in_turn a.handled_fit;
    no_fault_downwards = λ shown more fault. no_fault host down_sound answered passed shown more fault answered_in_turn a.passed_fit;
    all_upwards = λ rest. all_read terminal up_sound composed handled rest composed_in_turn a.handled_fit;
    all_downwards = λ rest. all_read host down_sound answered passed rest answered_in_turn a.passed_fit;
  }

-- where no file joins or is marked, the schedule is the merged one
pub merges_alone : (given : List (List ℕ × List ℕ)) (entries : List TermLog) (h : PlainHost) (t : PlainTerminal)
    (composed handled : List Tmesg) (answered taken : List HFrame) (j : Joined given [] entries h t composed handled answered taken) → j.events ≡ merged entries h.taken
merges_alone given entries h t composed handled answered taken j = sym (none-without 0 j.events j.asides_are) ∙ j.merges

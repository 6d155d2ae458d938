-- Two endpoints that carry each other's bytes are one run, read no fault and stop for nothing but a full count.
use Rattle.std.proofs.Common.{◌≡◌, refl, sym, ap, subst, ◌∙◌, inl, inr, ℕ, List, [], ◌∷◌, ◌++◌, map, Option, Some, None, Err, option_map, append_assoc, arith}
use Rattle.sam_mesg.specs.HostKinds.{FitsH}
use Rattle.sam_mesg.specs.TerminalKinds.{FitsT}
use Rattle.sam_mesg.specs.declared.hmesg.HFrame.{HFrame}
use Rattle.sam_mesg.specs.declared.tmesg.Tmesg.{Tmesg}
use Rattle.sam_frame.proofs.Fronts.{stream_of-append}
use Rattle.sam_frame.specs.Direction.{host, terminal, frame_of}
use Rattle.sam_frame.specs.Splitting.{Ends}
use Rattle.sam_frame.specs.Stream.{stream_of, version_after}
use Rattle.sam_host.specs.Host.{answer, new_host}
use Rattle.sam_host.specs.declared.fault.HostFault.{HostFault}
use Rattle.sam_host.specs.declared.fault.HostFault.TheVariants as host_fault
use Rattle.sam_term.specs.Term.{new_terminal, take_of}
use Rattle.sam_term.specs.declared.event.UserEvent.{UserEvent}
use Rattle.sam_term.specs.declared.fault.TermFault.{TermFault}
use Rattle.sam_term.specs.declared.fault.TermFault.TheVariants as term_fault
use Rattle.sam_endpoint.specs.HostEndpoints.{PlainHostEndpoint}
use Rattle.sam_endpoint.specs.HostRuns.{HasStopped as HostHasStopped, messages_in}
use Rattle.sam_endpoint.specs.Streams.{mesg_fault}
use Rattle.sam_endpoint.specs.TermEndpoints.{PlainTermEndpoint}
use Rattle.sam_endpoint.specs.TermRuns.{HasStopped as TermHasStopped, frames_in}
use Rattle.sam_endpoint.specs.declared.fault.HostStop.{HostStop}
use Rattle.sam_endpoint.specs.declared.fault.HostStop.TheVariants as host_stop
use Rattle.sam_endpoint.specs.declared.fault.StreamFault.{StreamFault}
use Rattle.sam_endpoint.specs.declared.fault.TermStop.{TermStop}
use Rattle.sam_endpoint.specs.declared.fault.TermStop.TheVariants as term_stop
use Rattle.sam_sides.proofs.Refusing.{refused_act, refused_flush}
use Rattle.sam_sides.specs.Sides.{Each}
use Rattle.sam_sides.specs.declared.log.TermLog.{TermLog}
use Rattle.sam_world.specs.Prefixes.{Begins}
use Rattle.sam_apart.proofs.ApartLaws.{joins, understood, no_fault}
use Rattle.sam_apart.proofs.ApartTurns.{each_t, front_fits}
use Rattle.sam_apart.proofs.RealLaws.{each_of_all, up_sound, down_sound}
use Rattle.sam_apart.specs.Apart.{Apart, HostRunsWith, Joined, Asides, Understood}
use Rattle.sam_joined.specs.Joined.{AreCarried, AreOneRun, GoOn}
use Rattle.sam_joined.proofs.Words.{entry_of, serves_runs, leads_runs, users_logged, parts_of, read_of, rest_of, behind}

none_of : {A : Type 0} (o : Option A) → ((x : A) → o ≡ Some x → ⊥) → o ≡ None
none_of None is_none = refl
none_of (Some x) is_none = absurd (is_none x refl)

-- the bytes of the message that waits first come next
next_first : (all front waiting : List Tmesg) (m : Tmesg) (rest : List Tmesg) (half way last : List ℕ) → waiting ≡ m ∷ rest
    → stream_of terminal all ≡ stream_of terminal front ++ (((stream_of terminal waiting ++ half) ++ way) ++ last)
    → stream_of terminal all ≡ (stream_of terminal front ++ frame_of terminal m) ++ (((stream_of terminal rest ++ half) ++ way) ++ last)
next_first all front waiting m rest half way last first bytes = grind (arith, append_assoc)

module _ (given : List (List ℕ × List ℕ)) (late : Asides) (said : List UserEvent) (up down : List ℕ) (e : PlainHostEndpoint) (g : PlainTermEndpoint)
    (c : AreCarried given late said up down e g) where
  abbrev entries : List TermLog
  entries = map entry_of c.did.steps

  abbrev handled : List Tmesg
  handled = messages_in c.served.steps

  abbrev taken : List HFrame
  taken = frames_in c.did.steps

  abbrev passed : List HFrame
  passed = taken ++ g.waiting

  -- ## The bytes

  abbrev rest_up : List ℕ
  rest_up = ((stream_of terminal e.waiting ++ e.framer.bytes) ++ up) ++ stream_of terminal g.unwritten

  abbrev rest_down : List ℕ
  rest_down = ((stream_of host g.waiting ++ g.framer.bytes) ++ down) ++ stream_of host e.unwritten

  up_is : stream_of terminal c.did.composed ≡ stream_of terminal handled ++ rest_up
  up_is = parts_of _ (c.went_up ++ g.pending_bytes) c.came_up (stream_of terminal handled) (stream_of terminal e.waiting) e.framer.bytes up _ c.did.bytes c.upwards
      (c.served.reads.splits.whole ∙ ap (λ (s : List ℕ). s ++ e.framer.bytes) (stream_of-append terminal handled e.waiting))

  down_is : stream_of host c.served.frames ≡ stream_of host taken ++ rest_down
  down_is = parts_of _ (c.went_down ++ e.pending_bytes) c.came_down (stream_of host taken) (stream_of host g.waiting) g.framer.bytes down _ c.served.bytes c.downwards
      (c.did.reads.splits.whole ∙ ap (λ (s : List ℕ). s ++ g.framer.bytes) (stream_of-append host taken g.waiting))

  pub up_read : stream_of terminal c.did.composed ≡ (stream_of terminal (handled ++ e.waiting) ++ e.framer.bytes) ++ (up ++ stream_of terminal g.unwritten)
  up_read = read_of _ (c.went_up ++ g.pending_bytes) c.came_up (stream_of terminal (handled ++ e.waiting)) e.framer.bytes up _ c.did.bytes c.upwards c.served.reads.splits.whole

  pub down_read : stream_of host c.served.frames ≡ (stream_of host passed ++ g.framer.bytes) ++ (down ++ stream_of host e.unwritten)
  down_read = read_of _ (c.went_down ++ e.pending_bytes) c.came_down (stream_of host passed) g.framer.bytes down _ c.served.bytes c.downwards c.did.reads.splits.whole

  -- ## One run

  apart : Apart given late entries e.host g.term c.did.composed handled c.served.frames passed taken
  apart = record {
    given_fit = c.given_fit;
    host_runs = subst (λ (asides : Asides). HostRunsWith (new_host given) asides handled c.served.frames e.host) c.served.asides_are
        (serves_runs c.served.steps (new_host given) e.host c.served.frames c.served.writes c.served.serves);
    term_runs = leads_runs c.did.steps new_terminal g.term c.did.composed c.did.leads;
    composed_fit = each_of_all (FitsT 2) c.did.composed c.did.composed_fit;
    answers_fit = each_of_all (FitsH 2) c.served.frames c.served.frames_fit;
    handled_fit = front_fits terminal 1 handled e.waiting c.served.reads.splits.fit;
    passed_fit = c.did.reads.splits.fit;
    up = (rest_up, up_is);
    down = (g.framer.bytes ++ (down ++ stream_of host e.unwritten), down_read ∙ append_assoc (stream_of host passed) g.framer.bytes (down ++ stream_of host e.unwritten));
    passing = record { rest = g.waiting; is = refl };
  }

  pub joined : Joined given late entries e.host g.term c.did.composed handled c.served.frames taken
  joined = joins given late entries e.host g.term c.did.composed handled c.served.frames passed taken apart

  knows : Understood e.host g.term c.did.composed handled c.served.frames passed taken
  knows = understood given late entries e.host g.term c.did.composed handled c.served.frames passed taken apart

  pub one_run : AreOneRun given late said up down e g
  one_run = record {
    events = joined.events;
    world = joined.world;
    run = joined.run;
    users = joined.users_are ∙ (users_logged c.did.steps ∙ c.did.given);
    asides_are = joined.asides_are;
    host_is = joined.host_is;
    term_is = joined.term_is;
    upwards = rest_of terminal c.did.composed handled joined.world.up rest_up joined.upwards up_is;
    downwards = rest_of host c.served.frames taken joined.world.down rest_down joined.downwards down_is;
  }

  -- ## No fault

  no_fault_up : (why : StreamFault) → e.broken_by ≡ Some why → ⊥
  no_fault_up why is =
      no_fault terminal up_sound c.did.composed (handled ++ e.waiting) e.framer.bytes (up ++ stream_of terminal g.unwritten) (mesg_fault why)
      joined.composed_in_turn c.served.reads.splits.fit up_read
      (subst (λ (o : Option StreamFault). Ends terminal (version_after terminal 1 (handled ++ e.waiting)) e.framer.bytes (option_map mesg_fault o)) is c.served.reads.ends)

  no_fault_down : (why : StreamFault) → g.broken_by ≡ Some why → ⊥
  no_fault_down why is =
      no_fault host down_sound c.served.frames passed g.framer.bytes (down ++ stream_of host e.unwritten) (mesg_fault why)
      joined.answered_in_turn c.did.reads.splits.fit down_read
      (subst (λ (o : Option StreamFault). Ends host (version_after host 1 passed) g.framer.bytes (option_map mesg_fault o)) is c.did.reads.ends)

  pub host_reads : e.broken_by ≡ None
  host_reads = none_of e.broken_by no_fault_up

  pub term_reads : g.broken_by ≡ None
  term_reads = none_of g.broken_by no_fault_down

  -- ## No stop

  host_full : (m : Tmesg) (rest : List Tmesg) (why : HostFault) → e.waiting ≡ m ∷ rest → answer e.host m ≡ Err why → why ≡ host_fault.CountFull
  host_full m rest why first refused =
      let fit : Each (FitsT 2) (handled ++ m ∷ rest) =
      subst (λ (waiting : List Tmesg). Each (FitsT 2) (handled ++ waiting)) first (each_t 1 (handled ++ e.waiting) c.served.reads.splits.fit) in
      knows.host_stops_for_a_count m (((stream_of terminal rest ++ e.framer.bytes) ++ up) ++ stream_of terminal g.unwritten) why
      (behind (FitsT 2) handled rest m fit)
      (next_first c.did.composed handled e.waiting m rest e.framer.bytes up (stream_of terminal g.unwritten) first up_is)
      refused

  term_full : (frame : HFrame) (rest : List HFrame) (why : TermFault) → g.waiting ≡ frame ∷ rest → take_of g.term frame ≡ Err why → why ≡ term_fault.CountFull
  term_full frame rest why first refused =
      let begins : Begins (taken ++ frame ∷ []) passed =
      record { rest = rest; is = ap (λ (waiting : List HFrame). taken ++ waiting) first ∙ sym (append_assoc taken (frame ∷ []) rest) } in
      knows.terminal_stops_for_a_count frame why begins refused

  pub host_stops : (why : HostStop) → HostHasStopped e why → why ≡ host_stop.Refused host_fault.CountFull
  host_stops (host_stop.Stream why) (idle, is) = absurd (no_fault_up why is)
  host_stops (host_stop.Refused why) (m, rest, first, refused, none) = ap (λ (w : HostFault). host_stop.Refused w) (host_full m rest why first refused)

  pub term_stops : (why : TermStop) → TermHasStopped g why → why ≡ term_stop.Refused term_fault.CountFull
  term_stops (term_stop.Stream why) (idle, is) = absurd (no_fault_down why is)
  term_stops (term_stop.Refused why) (inl (frame, rest, first, refused, none)) = ap (λ (w : TermFault). term_stop.Refused w) (term_full frame rest why first refused)
  term_stops (term_stop.Refused why) (inr (done, inl refused)) = ap (λ (w : TermFault). term_stop.Refused w) (refused_act g.term why refused)
  term_stops (term_stop.Refused why) (inr (done, inr refused)) = ap (λ (w : TermFault). term_stop.Refused w) (refused_flush g.term why refused)

  pub go_on : GoOn e g
  go_on = record { host_reads = host_reads; term_reads = term_reads; host_stops = host_stops; term_stops = term_stops }

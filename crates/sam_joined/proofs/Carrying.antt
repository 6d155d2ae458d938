-- Where all bytes were carried both sides agree; at any moment it is as if there were no network; and nothing is stuck.
use Rattle.std.proofs.Common.{◌≡◌, sym, ap, subst, ◌∙◌, inl, inr, true≢false, ℕ, true, List, [], ◌++◌, map, Option, Some, None, append-nil, arith}
use Rattle.std.proofs.lemmas.List.{append_cancel_left}
use Rattle.std.proofs.lemmas.Option.{same_Some}
use Rattle.sam_rasp.specs.Rasp.{Agrees}
use Rattle.sam_text.specs.Files.{file_at}
use Rattle.sam_mesg.specs.declared.hmesg.HFrame.{HFrame}
use Rattle.sam_mesg.specs.declared.tmesg.Tmesg.{Tmesg}
use Rattle.sam_frame.specs.Direction.{host, terminal}
use Rattle.sam_frame.specs.Splitting.{Ends}
use Rattle.sam_frame.specs.Stream.{stream_of, version_after}
use Rattle.sam_term.specs.Term.{PlainTerminal, is_open, known_at, window_at}
unfoldable use Rattle.sam_term.specs.Term.{flush_of}
use Rattle.sam_term.specs.declared.event.UserEvent.{UserEvent}
use Rattle.sam_endpoint.specs.HostEndpoints.{PlainHostEndpoint}
use Rattle.sam_endpoint.specs.HostRuns.{messages_in}
use Rattle.sam_endpoint.specs.TermEndpoints.{PlainTermEndpoint, IsQuiet}
use Rattle.sam_endpoint.specs.TermRuns.{frames_in}
use Rattle.sam_endpoint.specs.Streams.{mesg_fault}
use Rattle.sam_endpoint.specs.declared.fault.StreamFault.{StreamFault}
use Rattle.std.proofs.Common.{option_map}
use Rattle.sam_crossing.proofs.OrderLaws.{reached_in_order, quiet_means_agreement}
use Rattle.sam_crossing.specs.RunOrder.{IsInOrder}
use Rattle.sam_crossing.specs.World.{PlainWorld, SidesAgree, WasReached, is_locked, is_quiet, marked_files, step_of}
use Rattle.sam_crossing.specs.declared.event.Event.TheVariants.{User, Add, Mark, Act, Flush, HostTake, TermTake}
use Rattle.sam_local.proofs.Runs.{runs_come_in_order}
use Rattle.sam_local.specs.Local.{PlainEditor, at_rest, carried_through, events_in}
use Rattle.sam_local.specs.Worlds.{ComesInOrder, IsWhereDone, ShowsFile, doings_of}
use Rattle.sam_rest.proofs.Done.{stuck_is_done}
use Rattle.sam_rest.proofs.Ends.{nothing-flushed}
use Rattle.sam_rest.specs.Rest.{HasRoom, IsDone, IsStuck}
use Rattle.sam_apart.proofs.ApartLaws.{all_read}
use Rattle.sam_apart.proofs.ApartJoins.{files-joined, files-marked}
use Rattle.sam_apart.proofs.RealLaws.{up_sound, down_sound}
use Rattle.sam_apart.specs.Apart.{Asides, Joined, joined_in, marked_in}
use Rattle.sam_joined.specs.Joined.{AreAgreed, AreAsIfLocal, AreCarried, AreOneRun, IsAllCarried, both}
use Rattle.sam_sides.specs.declared.log.TermLog.{TermLog}
use Rattle.sam_joined.proofs.Words.{entry_of, none_written}
use Rattle.sam_joined.proofs.Joining.{joined, one_run, up_read, down_read, host_reads, term_reads}

-- ## Lists

all_came : (whole read half way last : List ℕ) → whole ≡ (read ++ half) ++ (way ++ last) → way ≡ [] → last ≡ [] → whole ≡ read ++ half
all_came whole read half way last is p q = grind (arith, append-nil)

none_between : (all kept half way last : List ℕ) → all ≡ ((kept ++ half) ++ way) ++ last → kept ≡ [] → half ≡ [] → way ≡ [] → last ≡ [] → all ≡ []
none_between all kept half way last is p q r s = grind arith

-- ## Small facts

same_world : (w v : PlainWorld) → w.host ≡ v.host → w.term ≡ v.term → w.up ≡ v.up → w.down ≡ v.down → w ≡ v
same_world w v h t u d = λ i. record { host = h i; term = t i; up = u i; down = d i }

quiet_both : (e : PlainHostEndpoint) (g : PlainTermEndpoint) → g.term.unsent ≡ None → is_quiet (both e g) ≡ true
quiet_both e g none = grind arith

same_shown : (marked : List ℕ) (w v : PlainWorld) (editor : PlainEditor) (f : ℕ) → w.term ≡ v.term → ShowsFile marked w editor f → ShowsFile marked v editor f
same_shown marked w v editor f same s = record {
  opened = s.opened;
  runes = subst (λ (t : PlainTerminal). Agrees (window_at t f).rasp (file_at editor.host.files f).text) same s.runes;
  dot = ap (λ (t : PlainTerminal). (window_at t f).dot) (sym same) ∙ s.dot;
  view_start = ap (λ (t : PlainTerminal). (window_at t f).view_start) (sym same) ∙ s.view_start;
  view_length = ap (λ (t : PlainTerminal). (window_at t f).view_length) (sym same) ∙ s.view_length;
  name = ap (λ (t : PlainTerminal). (known_at t f).name) (sym same) ∙ s.name;
  dirty = λ off. ap (λ (t : PlainTerminal). (known_at t f).dirty) (sym same) ∙ s.dirty off;
  changed = ap (λ (t : PlainTerminal). (known_at t f).changed) (sym same) ∙ s.changed;
}

-- ## What the terminal can't do

act_keeps : (w next : PlainWorld) → IsQuiet w.term → step_of w Act ≡ Some next → next ≡ w
act_keeps w next (inl idle) s = grind (arith, append-nil, same_Some)
act_keeps w next (inr locked) s = grind (arith, append-nil, same_Some)

flush_keeps : (w next : PlainWorld) → w.term.unsent ≡ None → step_of w Flush ≡ Some next → next ≡ w
unfolding flush_of
flush_keeps w next none s = grind (arith, same_Some, (nothing-flushed w none))

stuck_both : (e : PlainHostEndpoint) (g : PlainTermEndpoint) → g.term.unsent ≡ None → IsQuiet g.term → IsStuck (both e g)
stuck_both e g none quiet (User event) next a = absurd (true≢false a.own)
stuck_both e g none quiet (Add name text) next a = absurd (true≢false a.own)
stuck_both e g none quiet (Mark f) next a = absurd (true≢false a.own)
stuck_both e g none quiet Act next a = a.changes (act_keeps (both e g) next quiet a.stepped)
stuck_both e g none quiet Flush next a = a.changes (flush_keeps (both e g) next none a.stepped)
stuck_both e g none quiet HostTake next a = absurd (grind (arith, a.stepped))
stuck_both e g none quiet TermTake next a = absurd (grind (arith, a.stepped))

module _ (given : List (List ℕ × List ℕ)) (late : Asides) (said : List UserEvent) (up down : List ℕ) (e : PlainHostEndpoint) (g : PlainTermEndpoint)
    (c : AreCarried given late said up down e g) where
  abbrev entries : List TermLog
  entries = map entry_of c.did.steps

  abbrev two : Joined given late entries e.host g.term c.did.composed (messages_in c.served.steps) c.served.frames (frames_in c.did.steps)
  two = joined given late said up down e g c

  -- ## All is carried

  module _ (all : IsAllCarried up down e g) where
    whole_up : stream_of terminal c.did.composed ≡ stream_of terminal (messages_in c.served.steps ++ e.waiting) ++ e.framer.bytes
    whole_up = all_came _ (stream_of terminal (messages_in c.served.steps ++ e.waiting)) e.framer.bytes up (stream_of terminal g.unwritten)
        (up_read given late said up down e g c) all.none_up (ap (λ (ms : List Tmesg). stream_of terminal ms) all.term_idle.unwritten)

    whole_down : stream_of host c.served.frames ≡ stream_of host (frames_in c.did.steps ++ g.waiting) ++ g.framer.bytes
    whole_down = all_came _ (stream_of host (frames_in c.did.steps ++ g.waiting)) g.framer.bytes down (stream_of host e.unwritten)
        (down_read given late said up down e g c) all.none_down (ap (λ (frames : List HFrame). stream_of host frames) all.host_idle.unwritten)

    read_up : messages_in c.served.steps ++ e.waiting ≡ c.did.composed
    read_up = all_read terminal up_sound c.did.composed (messages_in c.served.steps ++ e.waiting) e.framer.bytes two.composed_in_turn c.served.reads.splits.fit whole_up
        (subst (λ (o : Option StreamFault). Ends terminal (version_after terminal 1 (messages_in c.served.steps ++ e.waiting)) e.framer.bytes (option_map mesg_fault o))
        (host_reads given late said up down e g c) c.served.reads.ends)

    read_down : frames_in c.did.steps ++ g.waiting ≡ c.served.frames
    read_down = all_read host down_sound c.served.frames (frames_in c.did.steps ++ g.waiting) g.framer.bytes two.answered_in_turn c.did.reads.splits.fit whole_down
        (subst (λ (o : Option StreamFault). Ends host (version_after host 1 (frames_in c.did.steps ++ g.waiting)) g.framer.bytes (option_map mesg_fault o))
        (term_reads given late said up down e g c) c.did.reads.ends)

    half_up : e.framer.bytes ≡ []
    half_up = append_cancel_left (stream_of terminal c.did.composed) e.framer.bytes []
        (sym (whole_up ∙ ap (λ (ms : List Tmesg). stream_of terminal ms ++ e.framer.bytes) read_up) ∙ sym (append-nil (stream_of terminal c.did.composed)))

    half_down : g.framer.bytes ≡ []
    half_down = append_cancel_left (stream_of host c.served.frames) g.framer.bytes []
        (sym (whole_down ∙ ap (λ (frames : List HFrame). stream_of host frames ++ g.framer.bytes) read_down) ∙ sym (append-nil (stream_of host c.served.frames)))

  -- ## Whichever run led here

  module _ (run : AreOneRun given late said up down e g) where
    in_order : IsInOrder run.world
    in_order = reached_in_order given run.world c.given_fit (run.events, run.run)

    local : ComesInOrder given run.events run.world
    local = runs_come_in_order given run.events run.world (record { limits = c.given_fit; run = run.run })

    marked_there : marked_files run.events ≡ marked_in late
    marked_there = files-marked 0 run.events ∙ ap marked_in run.asides_are

    module _ (all : IsAllCarried up down e g) where
      world_is : run.world ≡ both e g
      world_is = same_world run.world (both e g) run.host_is run.term_is
          (none_written terminal run.world.up
          (none_between (stream_of terminal run.world.up) (stream_of terminal e.waiting) e.framer.bytes up (stream_of terminal g.unwritten) run.upwards
          (ap (λ (ms : List Tmesg). stream_of terminal ms) all.host_idle.waiting) (half_up all) all.none_up (ap (λ (ms : List Tmesg). stream_of terminal ms) all.term_idle.unwritten)))
          (none_written host run.world.down
          (none_between (stream_of host run.world.down) (stream_of host g.waiting) g.framer.bytes down (stream_of host e.unwritten) run.downwards
          (ap (λ (frames : List HFrame). stream_of host frames) all.term_idle.waiting) (half_down all) all.none_down
          (ap (λ (frames : List HFrame). stream_of host frames) all.host_idle.unwritten)))

      agree : SidesAgree (both e g)
      agree = quiet_means_agreement (both e g) (subst IsInOrder world_is in_order) (quiet_both e g all.none_unsent)

      rests : IsWhereDone given run.events (at_rest e.host g.term)
      rests = subst (λ (w : PlainWorld). is_quiet w ≡ true → IsWhereDone given run.events (at_rest w.host w.term)) world_is local.quiet (quiet_both e g all.none_unsent)

      was_reached : WasReached (both e g)
      was_reached = record { given = given; limits = c.given_fit; reached = (run.events, run.run ∙ ap (λ (w : PlainWorld). Some w) world_is) }

    pub as_if_local : AreAsIfLocal run
    as_if_local =
        let here = local in record {
          events = sym run.users ∙ here.events ∙ ap (λ (t : PlainTerminal). events_in (doings_of given run.events) ++ t.held) run.term_is;
          files = ap joined_in (sym run.asides_are) ∙ sym (files-joined 0 run.events) ∙ here.files;
          marked = sym marked_there;
          shows = λ f free opened.
              same_shown (marked_in late) run.world (both e g) (carried_through given (doings_of given run.events)) f run.term_is
              (subst (λ (marked : List ℕ). ShowsFile marked run.world (carried_through given (doings_of given run.events)) f) marked_there
              (here.shows f (ap (λ (t : PlainTerminal). is_locked t f) run.term_is ∙ free) (ap (λ (t : PlainTerminal). is_open t f) run.term_is ∙ opened)));
          carried = rests;
        }

  -- ## Where all is carried

  pub agrees : IsAllCarried up down e g → AreAgreed e g
  agrees all = record {
    agree = agree (one_run given late said up down e g c) all;
    none_half_up = half_up all;
    none_half_down = half_down all;
  }

  pub never_stuck : IsAllCarried up down e g → IsQuiet g.term → HasRoom (both e g) → IsDone (both e g)
  never_stuck all quiet room = stuck_is_done (both e g) (was_reached (one_run given late said up down e g c) all) room (stuck_both e g all.none_unsent quiet)

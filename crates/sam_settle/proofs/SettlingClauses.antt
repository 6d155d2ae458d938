-- What the five ends of a session and the audits of its lines come to.
use Rattle.sam_settle.proofs.Common.{◌≡◌, ◌⊎◌, inl, inr, refl, sym, ap, ◌∙◌, subst, ℕ, ◌+◌, ◌<◌, ◌≤◌, true, false, List, [], ◌∷◌, ◌++◌, map, take, Option, Some, None, Err, append_assoc, append-nil, arith, IsTrue, same_Some, append_cancel_left, map-append, MesgFault, FitsT, fits_t, Tmesg, FitsH, fits_h, HFrame, terminal, host, frame_of, version_after, stream_of, Shows, answer, AreGiven, HostFault, UserEvent, Entry, items_of, PostView, IsSoundWorld, Each, PlainWorld, new_world, run_of, merged, reached_in_order, quiet_means_agreement, each_append, each_front, Apart, Joined, bytes_of, frames_in, Told, HostStopped, ReaderStopped, TermStopped, RefusesFrame, IsForeign, IsFullUp, Headline, LinesGive, counts_left, as_list, stops_of, IsFull, count_gone, AreFull, HasStreams, HasUsers, IsDrained, IsWhole, MissesHost, Input, User, Ends, Host, Settled, AreEnds, Understood, ComesTo, IsScheduled, each_h, new_terminal}
use Rattle.std.proofs.lemmas.Grind.{flat_map-append}
use Rattle.std.proofs.lemmas.List.Elements.{All-nil}
use Rattle.sam_host.specs.declared.fault.HostFault.TheVariants as refusal
use Rattle.sam_world.specs.Given.{IsFile}
use Rattle.sam_crossing.specs.World.{is_quiet, user_events, joined_files, marked_files}
use Rattle.sam_crossing.specs.declared.event.Event.{Event}
use Rattle.sam_world.proofs.Runs.{files_then, marks_then}
use Rattle.sam_local.specs.Worlds.{IsAsIfLocal}
use Rattle.sam_local.proofs.Runs.{runs_are_as_if_local, rests}
use Rattle.sam_queue.proofs.Sorts.{items_of-append}
use Rattle.sam_term.specs.Faults.{term_fault_number}
use Rattle.sam_ends.specs.declared.stop.Stop.{Stop}
use Rattle.sam_ends.specs.declared.stop.Stop.TheVariants as stop
use Rattle.sam_apart.proofs.RealLaws.{each_of_all, works}
use Rattle.sam_settle.proofs.SettlingLists.{Parts, parts_of, senders_within, nothing_joined, split_map, frames_taken, all_before_mark, none_left, items_mine}
use Rattle.sam_apart.proofs.ApartJoins.{files-joined, files-marked}
use Rattle.sam_apart.specs.Apart.{joined_in, marked_in}
use Rattle.sam_apart.proofs.ApartLaws.{joins, merges_alone, understood}
use Rattle.std.proofs.lemmas.List.Sums.{sum_by-cons}

-- ## Plain facts

given_of_files : (files : List (List ℕ × List ℕ)) → Each IsFile files → AreGiven files
given_of_files [] a = tt
given_of_files (f ∷ fs) a = (a.0.1, a.0.2, given_of_files fs a.1)

-- where two lists one after the other are empty, the first is
first_none : {X : Type 0} (xs ys : List X) → xs ++ ys ≡ [] → xs ≡ []
first_none [] ys e = refl
first_none (x ∷ xs) ys e = absurd (grind (arith, e))

pub stop_none : (o : Option Stop) → as_list o ≡ [] → o ≡ None
stop_none o e = grind arith

nothing_stopped : (a b c d e : Option Stop) → as_list a ++ as_list b ++ as_list c ++ as_list d ++ as_list e ≡ [] → (a ≡ None) × (b ≡ None) × (c ≡ None) × (d ≡ None) × (e ≡ None)
nothing_stopped a b c d e is = grind (arith, nothing_joined, stop_none)

-- ## The stops of one worker

record IsFine (most : ℕ) (o : Option Stop) : Type 0 where
  full : Each IsFull (as_list o)
  gone : count_gone (as_list o) ≤ most

count_joined : (xs ys : List Stop) → count_gone (xs ++ ys) ≡ count_gone xs + count_gone ys
count_joined [] ys = omega arith
count_joined (x ∷ xs) ys = grind (arith, (count_joined xs ys))

-- ## The end of a session that nothing stopped

record IsAtItsEnd (w : PlainWorld) : Type 0 where
  exited : w.term.has_exited ≡ true
  held : w.term.held ≡ []
  quiet : is_quiet w ≡ true

-- ## All of one session

module _ (e : Ends) (ends : AreEnds e) (given : LinesGive e) where
  abbrev told : Told ends.0 ends.1 ends.2 e
  told = ends.3

  abbrev composed : List Tmesg
  composed = told.term.composed

  abbrev handled : List Tmesg
  handled = told.host.handled

  abbrev answered : List HFrame
  answered = told.host.answered

  abbrev passed : List HFrame
  passed = told.reader.passed

  abbrev frames : List HFrame
  frames = frames_in told.term.handled

  up_parts : Parts 0 e.host.take e.term.post
  up_parts = parts_of e.host.take (e.term.post ∷ []) given.up 0 e.term.post refl (omega arith) told.term.number_is

  down_parts : Parts 0 e.reader.take e.host.post
  down_parts = parts_of e.reader.take (e.host.post ∷ []) given.down 0 e.host.post refl (omega arith) told.host.number_is

  abbrev senders : List (PostView Input)
  senders = e.keyboard.post ∷ e.mouse.post ∷ e.reader.post ∷ []

  key_parts : Parts 0 e.term.take e.keyboard.post
  key_parts = parts_of e.term.take senders given.events 0 e.keyboard.post refl (omega arith) told.keyboard.number_is

  mouse_parts : Parts 1 e.term.take e.mouse.post
  mouse_parts = parts_of e.term.take senders given.events 1 e.mouse.post refl (omega arith) told.mouse.number_is

  frame_parts : Parts 2 e.term.take e.reader.post
  frame_parts = parts_of e.term.take senders given.events 2 e.reader.post refl (omega arith) told.reader.number_is

  -- ## The lines of bytes

  up_bytes : stream_of terminal composed ≡ stream_of terminal handled ++ (told.host.rest ++ (bytes_of up_parts.left ++ told.term.to_send))
  up_bytes = grind (arith, flat_map-append, append_assoc, up_parts)

  down_bytes : stream_of host answered ≡ stream_of host passed ++ (told.reader.rest ++ (bytes_of down_parts.left ++ told.host.to_send))
  down_bytes = grind (arith, flat_map-append, append_assoc, down_parts)

  -- ## What is left

  pub is_drained : (s : Settled) → s.left.items ≡ counts_left e → IsDrained e s
  is_drained s left = grind (arith, append-nil, up_parts, down_parts, key_parts, mouse_parts, frame_parts, none_left, sum_by-cons)

  -- ## The line of events

  keys_taken : (os : List UserEvent) × (items_of 0 e.term.take.taken ≡ map User os)
  keys_taken = grind (arith, (split_map User (items_of 0 e.term.take.taken) key_parts.left (take told.keyboard.many ends.0) (key_parts.items ∙ told.keyboard.put)))

  clicks_taken : (os : List UserEvent) × (items_of 1 e.term.take.taken ≡ map User os)
  clicks_taken = grind (arith, (split_map User (items_of 1 e.term.take.taken) mouse_parts.left (take told.mouse.many ends.1) (mouse_parts.items ∙ told.mouse.put)))

  within : Each (λ (x : Entry Input). x.sender < 3) e.term.take.taken
  within = let many : e.term.take.line.senders ≡ 3 = grind arith in rw many at (senders_within e.term.take senders given.events)

  -- what was handled and dropped of frames, and then more, is what was passed
  passing : (more : List HFrame) × (passed ≡ frames ++ (frames_in told.term.dropped ++ more))
  passing = grind (
    arith,
    append_assoc,
    flat_map-append,
    keys_taken,
    clicks_taken,
    within,
    (split_map Host (items_of 2 e.term.take.taken) frame_parts.left passed (frame_parts.items ∙ told.reader.put)),
    (frames_taken e.term.take.taken keys_taken.0 clicks_taken.0),
  )

  -- no file joins five threads
  apart : Apart e.host.files.items [] e.term.log.items e.host.host e.term.term composed handled answered passed frames
  apart = grind (
    arith,
    given_of_files,
    each_of_all,
    up_bytes,
    down_bytes,
    passing,
    (works e.term.log.items new_terminal e.term.term frames composed told.term.runs),
  )

  joined : Joined e.host.files.items [] e.term.log.items e.host.host e.term.term composed handled answered frames
  joined = joins e.host.files.items [] e.term.log.items e.host.host e.term.term composed handled answered passed frames apart

  -- so the schedule is the merged one
  schedule : joined.events ≡ merged e.term.log.items e.host.host.taken
  schedule = merges_alone e.host.files.items e.term.log.items e.host.host e.term.term composed handled answered frames joined

  runs : run_of (new_world e.host.files.items) (merged e.term.log.items e.host.host.taken) ≡ Some joined.world
  runs = ap (run_of (new_world e.host.files.items)) (sym schedule) ∙ joined.run

  read : Understood e.host.host e.term.term composed handled answered passed frames
  read = understood e.host.files.items [] e.term.log.items e.host.host e.term.term composed handled answered passed frames apart

  -- ## The schedule is a run

  abbrev last : PlainWorld
  last = joined.world

  pub always_replays : IsScheduled e.host.files.items e.term.log.items e.host.host.taken (stops_of e) None → ⊥
  always_replays r = grind (arith, joined, runs)

  -- ## The stops

  no_fault_up : (shown more : List ℕ) (why : MesgFault) → told.host.rest ≡ shown ++ more → Shows terminal (version_after terminal 1 handled) shown why → ⊥
  no_fault_up shown more why is s = grind (arith, append_assoc, up_bytes, (read.no_fault_upwards shown (more ++ (bytes_of up_parts.left ++ told.term.to_send)) why))

  no_fault_down : (shown more : List ℕ) (why : MesgFault) → told.reader.rest ≡ shown ++ more → Shows host (version_after host 1 passed) shown why → ⊥
  no_fault_down shown more why is s = grind (arith, append_assoc, down_bytes, (read.no_fault_downwards shown (more ++ (bytes_of down_parts.left ++ told.host.to_send)) why))

  host_counts : (m : Tmesg) (more : List ℕ) (why : HostFault) → FitsT 2 m → told.host.rest ≡ frame_of terminal m ++ more → answer e.host.host m ≡ Err why → why ≡ refusal.CountFull
  host_counts m more why fit is refused = grind (arith, append_assoc, up_bytes, (read.host_stops_for_a_count m (more ++ (bytes_of up_parts.left ++ told.term.to_send)) why))

  host_fine : (o : Option Stop) → HostStopped e.host handled told.host.to_send told.host.rest o → IsFine 0 o
  host_fine o s = grind (arith, no_fault_up, host_counts)

  reader_fine : (o : Option Stop) → ReaderStopped e.reader passed told.reader.rest o → IsFine 0 o
  reader_fine o s = grind (arith, no_fault_down)

  fits_there : (xs ys : List HFrame) (x : HFrame) → Each (FitsH 2) (xs ++ x ∷ ys) → FitsH 2 x
  fits_there [] ys x a = a.0
  fits_there (z ∷ xs) ys x a = fits_there xs ys x a.1

  -- what was handled of frames, and what was dropped of them
  frames_apart : (hs ds : List HFrame) × (items_of 2 told.term.handled ≡ map Host hs) × (items_of 2 told.term.dropped ≡ map Host ds)
  frames_apart = grind (
    arith,
    items_of-append,
    (split_map Host (items_of 2 e.term.take.taken) frame_parts.left passed (frame_parts.items ∙ told.reader.put)),
    (split_map Host (items_of 2 told.term.handled) (items_of 2 told.term.dropped)),
  )

  no_foreign : (n : ℕ) → IsForeign told.term.dropped n → ⊥
  no_foreign n (inl f) =
      let all : passed ≡ frames ++ (f.1 ∷ (frames_in f.2 ++ passing.0)) = passing.1 ∙ ap (λ l. frames ++ (frames_in l ++ passing.0)) f.3 in
      let fit = (fits_there frames (frames_in f.2 ++ passing.0) f.1 (subst (λ l. Each (FitsH 2) l) all (each_h 1 passed told.reader.fit))).fits in
      let wrong = f.4 in
      cc
  no_foreign n (inr f) = no_user f.0 (items_of 2 f.1) frames_apart.1 (sym (ap (items_of 2) f.2 ∙ items_mine 2 (record { sender = 2; load = Some (User f.0) }) f.1 refl) ∙ frames_apart.3)
    where
      no_user : (event : UserEvent) (more : List Input) (fs : List HFrame) → User event ∷ more ≡ map Host fs → ⊥
      no_user event more [] q = cc
      no_user event more (a ∷ fs) q = let h : User event ≡ Host a = cc in cc

  eight : (n : ℕ) → ((n ≡ 8) × IsFullUp e.term.term) ⊎ RefusesFrame e.term.term told.term.dropped n → n ≡ 8
  eight n (inl is) = is.0
  eight n (inr f) =
      let rest = frames_in f.2 ++ passing.0 in
      let begins : passed ≡ (frames ++ f.1 ∷ []) ++ rest = passing.1 ∙ (ap (λ l. frames ++ (frames_in l ++ passing.0)) f.4 ∙ sym (append_assoc frames (f.1 ∷ []) rest)) in
      f.6 ∙ ap term_fault_number (read.terminal_stops_for_a_count f.1 f.3 (record { rest = rest; is = begins }) f.5)

  term_fine : (o : Option Stop) → TermStopped e.term told.term.handled told.term.dropped told.term.to_send o → IsFine 1 o × (0 < count_gone (as_list o) → e.term.term.has_exited ≡ false)
  term_fine (Some (stop.Term n)) s = (record { full = (eight n s, tt); gone = omega arith }, λ l. absurd (omega arith))
  term_fine (Some (stop.Frame n)) s = absurd (no_foreign n s)
  term_fine o s = grind arith

  -- ## Where the sides were not stopped

  -- all that the host answered came through, where neither it nor its reader was stopped
  all_passed : e.host.stop ≡ None → e.reader.stop ≡ None → passed ≡ answered
  all_passed host_went reader_went = grind (arith, down_bytes, down_parts, append-nil, read)

  none_under_way_down : frames ≡ passed → passed ≡ answered → last.down ≡ []
  none_under_way_down handled_all passed_all = grind (arith, append-nil, joined, (append_cancel_left frames [] last.down))

  -- the frames that were handled, where these are all that the host reader put
  frames_handled : items_of 2 told.term.handled ≡ e.reader.post.put → frames ≡ passed
  frames_handled all =
      let handled_of : (k : ℕ) → items_of k told.term.handled ++ items_of k told.term.dropped ≡ items_of k e.term.take.taken = grind (arith, items_of-append) in
      let ks = split_map User (items_of 0 told.term.handled) (items_of 0 told.term.dropped) keys_taken.0 (handled_of 0 ∙ keys_taken.1) in
      let cs = split_map User (items_of 1 told.term.handled) (items_of 1 told.term.dropped) clicks_taken.0 (handled_of 1 ∙ clicks_taken.1) in
      let few = each_front (λ (x : Entry Input). x.sender < 3) told.term.handled told.term.dropped (subst (λ l. Each (λ (x : Entry Input). x.sender < 3) l) told.term.took within) in
      frames_taken told.term.handled ks.0 cs.0 passed few ks.2 cs.2 (all ∙ told.reader.put)

  -- ## A session that nothing stopped

  term_went : stops_of e ≡ [] → TermStopped e.term told.term.handled told.term.dropped told.term.to_send None
  term_went none = grind (arith, nothing_stopped)

  -- the terminal handled all that it took
  handled_all : stops_of e ≡ [] → told.term.handled ≡ e.term.take.taken
  handled_all none = grind (arith, append-nil, term_went)

  none_under_way : stops_of e ≡ [] → (last.up ≡ []) × (last.down ≡ [])
  none_under_way none = grind (
    arith,
    append-nil,
    nothing_stopped,
    term_went,
    handled_all,
    up_bytes,
    up_parts,
    read,
    joined,
    frame_parts,
    frames_handled,
    all_passed,
    none_under_way_down,
    (append_cancel_left handled [] last.up),
  )

  -- the two sides are the world where the merged schedule leads
  pub sides_lead : stops_of e ≡ []
      → run_of (new_world e.host.files.items) (merged e.term.log.items e.host.host.taken) ≡ Some (record { host = e.host.host; term = e.term.term; up = []; down = [] })
  sides_lead none = grind (arith, none_under_way, joined, runs)

  pub sides_kept : stops_of e ≡ [] → IsSoundWorld (record { host = e.host.host; term = e.term.term; up = []; down = [] })
  sides_kept none = record {
    reached = record { given = e.host.files.items; limits = apart.given_fit; reached = (merged e.term.log.items e.host.host.taken, sides_lead none) };
    up = All-nil (λ m. IsTrue (fits_t 2 m));
    down = All-nil (λ frame. IsTrue (fits_h 2 frame.msg));
  }

  -- ## The clauses of settling

  module _ (s : Settled) (c : ComesTo e s) where
    world_is : s.world ≡ last
    world_is = grind (arith, joined, runs, same_Some)

    pub states : (s.world.host ≡ e.host.host) × (s.world.term ≡ e.term.term)
    states = grind (arith, joined, world_is)

    -- no file joins in the schedule
    none_joins : joined_files s.schedule.items ≡ []
    none_joins = ap joined_files (c.schedule ∙ sym schedule) ∙ files-joined 0 joined.events ∙ ap joined_in joined.asides_are

    -- and none is marked
    none_marked : marked_files s.schedule.items ≡ []
    none_marked = ap marked_files (c.schedule ∙ sym schedule) ∙ files-marked 0 joined.events ∙ ap marked_in joined.asides_are

    unmarked_in : (done more : List Event) → s.schedule.items ≡ done ++ more → marked_files done ≡ []
    unmarked_in done more parts = first_none (marked_files done) (marked_files more) (sym (marks_then done more) ∙ ap marked_files (sym parts) ∙ none_marked)

    none_in : (done more : List Event) → s.schedule.items ≡ done ++ more → joined_files done ≡ []
    none_in done more parts = first_none (joined_files done) (joined_files more) (sym (files_then done more) ∙ ap joined_files (sym parts) ∙ none_joins)

    pub headline : Headline e s
    headline = record {
      up = given.up;
      down = given.down;
      events = given.events;
      run = grind arith;
      host = states.0;
      term = states.1;
      quiet = λ done more w parts reached. quiet_means_agreement w (reached_in_order e.host.files.items w apart.given_fit (done, reached));
      local = λ done more w parts reached. runs_are_as_if_local e.host.files.items done w
          (record { limits = apart.given_fit; run = reached }) (none_in done more parts) (unmarked_in done more parts);
    }

    pub has_streams : HasStreams e s
    has_streams = grind (arith, joined, apart, told.term.runs, passing, world_is, (map-append Host frames (frames_in told.term.dropped ++ passing.0)))

    pub has_users : HasUsers e s
    has_users = grind (arith, append_assoc, items_of-append, frames_apart, key_parts, mouse_parts, joined, schedule)

    pub are_full : AreFull s
    are_full = grind (arith, states, host_fine, reader_fine, term_fine, count_joined, each_append)

    pub misses_host : e.term.stop ≡ Some stop.PeerGone → MissesHost e s
    misses_host gone = grind (
      arith,
      (all_before_mark e.term.take senders given.events 2 e.reader.post refl told.term.handled told.term.dropped),
      told.term.runs,
      states,
      world_is,
      frames_handled,
      all_passed,
      none_under_way_down,
    )

    at_its_end : s.stops.items ≡ [] → IsAtItsEnd s.world
    at_its_end none = grind (arith, states, term_went, none_under_way, world_is)

    pub is_whole : s.stops.items ≡ [] → IsWhole e s
    is_whole none =
        let end = at_its_end none in
        let files = e.host.files.items in
        let local : IsAsIfLocal files (user_events s.schedule.items) s.world = runs_are_as_if_local files s.schedule.items s.world (record { limits = apart.given_fit; run = headline.run }) none_joins none_marked in
        record {
          events = grind (arith, joined, schedule, handled_all);
          exited = end.exited;
          held = end.held;
          quiet = end.quiet;
          local = rests files (user_events s.schedule.items) s.world local end.quiet end.held;
        }

-- What every run of a terminal end comes to.
use Rattle.sam_endpoint.proofs.Common.{◌≡◌, ◌⊎◌, refl, sym, ap, subst, ◌∙◌, inl, inr, ℕ, List, [], ◌∷◌, ◌++◌, flat_map, flat_map-append, Option, None, Some, Result, Ok, Err, append_assoc, append-nil, length-append, arith, All-append, All-nil, All-same, FitsT, FitMessages, option_map, Tmesg, HFrame, host, terminal, Splits, stream_of, version_after, Held, stream_of-append, version_after-append, Splits-then, PlainTerminal, Acted, flush_of, composed_in, UserEvent, TermStop, StreamFault, Gives, mesg_fault, PlainTermEndpoint, Acts, Calls, Moves}
use Rattle.sam_frame.specs.Reading.{IsStream}
use Rattle.sam_frame.proofs.Cuttings.{Splits-longer}
use Rattle.sam_term.specs.Term.{new_terminal}
use Rattle.sam_endpoint.specs.declared.fault.EndpointFault.{EndpointFault}
use Rattle.sam_endpoint.specs.declared.fault.EndpointFault.TheVariants as fault
use Rattle.sam_endpoint.specs.declared.step.BringFault.{BringFault}
use Rattle.sam_endpoint.specs.declared.step.BringFault.TheVariants as bring
use Rattle.sam_endpoint.specs.declared.step.TermStep.{TermStep}
use Rattle.sam_endpoint.specs.declared.step.TermStep.TheVariants as step
use Rattle.sam_endpoint.specs.Streams.{GoesOnAfter, if_taken}
use Rattle.sam_endpoint.specs.TermStepping.{BringsEvent, BringsIn, Steps}
use Rattle.sam_endpoint.proofs.TermEndpointStepping.{Went, steps_not, steps_on, went_nowhere}
use Rattle.sam_endpoint.specs.declared.fault.TermStop.TheVariants as stop
use Rattle.sam_endpoint.specs.TermSteps.{Answer}
use Rattle.sam_endpoint.specs.TermEndpoints.{Feeds, FeedsIdle, Flushes, FlushesIdle, GoesOn, IsDone, Puts, PutsIdle, Receives, TakesIn, composed_by, new_term_endpoint, oldest, refusals_from, with_event}
use Rattle.sam_endpoint.proofs.TermEndpointHeld.{act_held, flush_held, take_held}
use Rattle.std.specs.Prelude.{◌+◌, drop, length, option_to_list, slice_get}
use Rattle.sam_endpoint.specs.declared.changes.Kept as changes
use Rattle.sam_term.specs.declared.fault.Refusal.{Refusal}
use Rattle.sam_endpoint.specs.TermRuns.{Call, HasDone, HasStopped, Leads, Runs, Step, Stops, act_in, acts_in, came_in, event_in, events_in, frame_in, frames_in, handed_out, put_in, went_out}
use Rattle.sam_endpoint.specs.TermRuns as run

-- ## Steps one after another

leads_more : (t u v : PlainTerminal) (a b : List Step) (x y : List Tmesg) → Leads t a x u → Leads u b y v → Leads t (a ++ b) (x ++ y) v
leads_more t u v [] b x y p q = grind arith
leads_more t u v (run.Received frame ∷ a) b x y (w, first, rest, took, is, leads) q =
    (w, first, rest ++ y, took, ap (λ (z : List Tmesg). z ++ y) is ∙ append_assoc first rest y, leads_more w u v a b rest y leads q)
leads_more t u v (run.Held event ∷ a) b x y p q = leads_more (record t { held = t.held ++ event ∷ [] }) u v a b x y p q
leads_more t u v (run.Decided acted ∷ a) b x y (w, rest, took, is_decided, is, leads) q =
    (w, rest ++ y, took, is_decided, ap (λ (z : List Tmesg). z ++ y) is ∙ append_assoc (composed_in acted) rest y, leads_more w u v a b rest y leads q)
leads_more t u v (run.Sent ∷ a) b x y (w, first, rest, took, is, leads) q =
    (w, first, rest ++ y, took, ap (λ (z : List Tmesg). z ++ y) is ∙ append_assoc first rest y, leads_more w u v a b rest y leads q)

abbrev received : List HFrame → List Step
received [] = []
received (frame ∷ frames) = run.Received frame ∷ received frames

abbrev decided : List Acted → List Step
decided [] = []
decided (acted ∷ acts) = run.Decided acted ∷ decided acts

receives_leads : (t u : PlainTerminal) (frames : List HFrame) (composed : List Tmesg) → Receives t frames composed u → Leads t (received frames) composed u
receives_leads t u [] composed p = p
receives_leads t u (frame ∷ frames) composed (v, first, rest, took, is, receives) = (v, first, rest, took, is, receives_leads v u frames rest receives)

acts_lead : (t u : PlainTerminal) (acts : List Acted) → Acts t acts u → Leads t (decided acts) (composed_by acts) u
acts_lead t u [] p = (refl, p)
acts_lead t u (acted ∷ acts) (v, acts_as, is_decided, rest) = (v, composed_by acts, acts_as, is_decided, refl, acts_lead v u acts rest)

frames_received : (frames : List HFrame) → frames_in (received frames) ≡ frames
frames_received [] = refl
frames_received (frame ∷ frames) = ap (λ (x : List HFrame). frame ∷ x) (frames_received frames)

events_received : (frames : List HFrame) → events_in (received frames) ≡ []
events_received [] = refl
events_received (frame ∷ frames) = events_received frames

frames_decided : (acts : List Acted) → frames_in (decided acts) ≡ []
frames_decided [] = refl
frames_decided (acted ∷ acts) = frames_decided acts

events_decided : (acts : List Acted) → events_in (decided acts) ≡ []
events_decided [] = refl
events_decided (acted ∷ acts) = events_decided acts

acts_received : (frames : List HFrame) → acts_in (received frames) ≡ []
acts_received [] = refl
acts_received (frame ∷ frames) = acts_received frames

acts_decided : (acts : List Acted) → acts_in (decided acts) ≡ acts
acts_decided [] = refl
acts_decided (acted ∷ acts) = ap (λ (x : List Acted). acted ∷ x) (acts_decided acts)

all_acts : (steps : List Step) (frames : List HFrame) (acts : List Acted) → acts_in (steps ++ (received frames ++ decided acts)) ≡ acts_in steps ++ acts
all_acts steps frames acts =
    grind (
      arith,
      (flat_map-append act_in steps (received frames ++ decided acts)),
      (flat_map-append act_in (received frames) (decided acts)),
      (acts_received frames),
      (acts_decided acts),
    )

-- a frame leaves the held events, and an event that acts or is refused is held no longer
receives_held : (t u : PlainTerminal) (frames : List HFrame) (composed : List Tmesg) → Receives t frames composed u → u.held ≡ t.held
receives_held t u [] composed p = ap (λ (x : PlainTerminal). x.held) p.1
receives_held t u (frame ∷ frames) composed (v, first, rest, took, is, receives) = receives_held v u frames rest receives ∙ take_held t v frame first took

acts_held : (t u : PlainTerminal) (acts : List Acted) → Acts t acts u → length acts + length u.held ≡ length t.held
acts_held t u [] p = omega (arith, ap (λ (x : PlainTerminal). length x.held) p)
acts_held t u (acted ∷ acts) (v, acts_as, is_decided, rest) = omega (arith, acts_held v u acts rest, act_held t v acted acts_as is_decided)

-- refusals are numbered on
refusals_on : (n : ℕ) (first more : List Acted) → refusals_from n (first ++ more) ≡ refusals_from n first ++ refusals_from (n + length first) more
refusals_on n [] more = ap (λ k. refusals_from k more) (omega arith)
refusals_on n (acted ∷ first) more = grind (arith, (refusals_on (n + 1) first more))

-- ## What a run keeps: what it comes to, the version at this place of the stream, and how many events became something

record Kept (stream : List ℕ) (events : List UserEvent) (out : List ℕ) (told : List (ℕ × Refusal)) (e : PlainTermEndpoint) : Type 0 where
  pub done : HasDone stream events out told e
  pub version : e.framer.version ≡ version_after host 1 (frames_in done.steps ++ e.waiting)
  pub count : length (acts_in done.steps) + length e.term.held ≡ e.events

-- ## One step of a run

kept_moves : (stream : List ℕ) (events : List UserEvent) (out : List ℕ) (told : List (ℕ × Refusal)) (e g : PlainTermEndpoint) (frames : List HFrame) (acts : List Acted) → Moves e frames acts g
    → Kept stream events out told e → Kept stream events out told g
kept_moves stream events out told e g frames acts m kept =
    let d = kept.done in
    let steps : List Step = d.steps ++ (received frames ++ decided acts) in
    let frames_are : frames_in steps ++ g.waiting ≡ frames_in d.steps ++ e.waiting =
    all_frames d.steps frames acts e.waiting g.waiting m.waiting in
    record {
      done = record {
        steps = steps;
        composed = d.composed ++ (m.composed ++ composed_by acts);
        leads = leads_more new_terminal e.term g.term d.steps (received frames ++ decided acts) d.composed (m.composed ++ composed_by acts) d.leads
            (leads_more e.term m.middle g.term (received frames) (decided acts) m.composed (composed_by acts)
            (receives_leads e.term m.middle frames m.composed m.receives) (acts_lead m.middle g.term acts m.acted));
        composed_fit = All-append (FitsT 2) d.composed (m.composed ++ composed_by acts) d.composed_fit
            (All-append (FitsT 2) m.composed (composed_by acts) m.composed_fit m.acted_fit);
        reads = reads_as stream e g (frames_in d.steps ++ e.waiting) (frames_in steps ++ g.waiting) frames_are m.framer m.broken_by d.reads;
        given = all_events d.steps frames acts ∙ d.given;
        bytes = bytes_on out e g d.composed m.composed (composed_by acts) d.bytes m.bytes;
        refused =
            refused_on told e g (acts_in d.steps) acts kept.count m.refusals d.refused
            ∙ ap (refusals_from 1) (sym (all_acts d.steps frames acts));
      };
      version = ap (λ (x : Held). x.version) m.framer ∙ kept.version ∙ ap (λ (x : List HFrame). version_after host 1 x) (sym frames_are);
      count = count_on e g m.middle (acts_in d.steps) acts (acts_in steps) (all_acts d.steps frames acts)
          (receives_held e.term m.middle frames m.composed m.receives) (acts_held m.middle g.term acts m.acted) m.events kept.count;
    }
  where
    refused_on : (told : List (ℕ × Refusal)) (e g : PlainTermEndpoint) (before acts : List Acted) → length before + length e.term.held ≡ e.events
        → g.refusals ≡ e.refusals ++ refusals_from (oldest e) acts → told ++ e.refusals ≡ refusals_from 1 before
        → told ++ g.refusals ≡ refusals_from 1 (before ++ acts)
    refused_on told e g before acts count more is =
        let next : oldest e ≡ 1 + length before = omega (arith, count) in
        ap (λ (x : List (ℕ × Refusal)). told ++ x) more ∙ sym (append_assoc told e.refusals (refusals_from (oldest e) acts))
        ∙ ap (λ (x : List (ℕ × Refusal)). x ++ refusals_from (oldest e) acts) is
        ∙ ap (λ n. refusals_from 1 before ++ refusals_from n acts) next ∙ sym (refusals_on 1 before acts)

    count_on : (e g : PlainTermEndpoint) (middle : PlainTerminal) (before acts all : List Acted) → all ≡ before ++ acts → middle.held ≡ e.term.held
        → length acts + length g.term.held ≡ length middle.held → g.events ≡ e.events → length before + length e.term.held ≡ e.events
        → length all + length g.term.held ≡ g.events
    count_on e g middle before acts all is held fewer events count =
        omega (arith, ap length is, length-append before acts, ap length held, fewer, events, count)

    all_frames : (steps : List Step) (frames : List HFrame) (acts : List Acted) (before after : List HFrame) → before ≡ frames ++ after
        → frames_in (steps ++ (received frames ++ decided acts)) ++ after ≡ frames_in steps ++ before
    all_frames steps frames acts before after is =
        grind (
          arith,
          append_assoc,
          append-nil,
          (flat_map-append frame_in steps (received frames ++ decided acts)),
          (flat_map-append frame_in (received frames) (decided acts)),
          (frames_received frames),
          (frames_decided acts),
        )

    all_events : (steps : List Step) (frames : List HFrame) (acts : List Acted) → events_in (steps ++ (received frames ++ decided acts)) ≡ events_in steps
    all_events steps frames acts =
        grind (
          arith,
          append-nil,
          (flat_map-append event_in steps (received frames ++ decided acts)),
          (flat_map-append event_in (received frames) (decided acts)),
          (events_received frames),
          (events_decided acts),
        )

    reads_as : (stream : List ℕ) (e g : PlainTermEndpoint) (a b : List HFrame) → b ≡ a → g.framer ≡ e.framer → g.broken_by ≡ e.broken_by
        → IsStream host 1 stream a e.framer.bytes (option_map mesg_fault e.broken_by) → IsStream host 1 stream b g.framer.bytes (option_map mesg_fault g.broken_by)
    reads_as stream e g a b is framer broken_by reads = grind arith

    bytes_on : (out : List ℕ) (e g : PlainTermEndpoint) (composed first more : List Tmesg) → (out ++ e.pending_bytes) ++ stream_of terminal e.unwritten ≡ stream_of terminal composed
        → g.pending_bytes ++ stream_of terminal g.unwritten ≡ e.pending_bytes ++ stream_of terminal (e.unwritten ++ first ++ more)
        → (out ++ g.pending_bytes) ++ stream_of terminal g.unwritten ≡ stream_of terminal (composed ++ (first ++ more))
    bytes_on out e g composed first more p q = grind (arith, append_assoc, stream_of-append)

kept_goes_on : (stream : List ℕ) (events : List UserEvent) (out : List ℕ) (told : List (ℕ × Refusal)) (e g : PlainTermEndpoint) (result : Answer) → GoesOnAfter result → GoesOn e result g
    → Kept stream events out told e → Kept stream events out told g
kept_goes_on stream events out told e g (Ok done) goes on kept = kept_moves stream events out told e g e.waiting on.0 on.1 kept
kept_goes_on stream events out told e g (Err fault.Unfinished) goes on kept = kept_moves stream events out told e g on.0 on.1 on.2 kept
kept_goes_on stream events out told e g (Err fault.OutOfMemory) goes on kept = absurd on
kept_goes_on stream events out told e g (Err fault.CountFull) goes on kept = absurd on
kept_goes_on stream events out told e g (Err (fault.Stopped why)) goes on kept = absurd goes

-- ## Calls

-- a piece after a stream
reads_more : (h k : Held) (stream piece : List ℕ) (before ms : List HFrame) (broken_by : Option StreamFault) → Splits host 1 stream before h.bytes
    → h.version ≡ version_after host 1 before → Gives host h piece ms broken_by k
    → IsStream host 1 (stream ++ piece) (before ++ ms) k.bytes (option_map mesg_fault broken_by) × (k.version ≡ version_after host 1 (before ++ ms))
reads_more h k stream piece before ms broken_by splits version gives =
    grind (
      arith,
      (Splits-longer host 1 stream before h.bytes piece splits),
      (version_after-append host 1 before ms),
      (Splits-then host 1 (stream ++ piece) before (h.bytes ++ piece) ms k.bytes),
    )

kept_piece : (stream : List ℕ) (events : List UserEvent) (out : List ℕ) (told : List (ℕ × Refusal)) (piece : List ℕ) (e k : PlainTermEndpoint) → e.waiting ≡ [] → TakesIn e piece k
    → Kept stream events out told e → Kept (stream ++ piece) events out told k
kept_piece stream events out told piece e k none (frames, broken_by, rest, gives, is) kept =
    let d = kept.done in
    let all : frames_in d.steps ++ e.waiting ≡ frames_in d.steps = ap (λ (x : List HFrame). frames_in d.steps ++ x) none ∙ append-nil (frames_in d.steps) in
    let splits : Splits host 1 stream (frames_in d.steps) e.framer.bytes =
    subst (λ (x : List HFrame). Splits host 1 stream x e.framer.bytes) all d.reads.splits in
    let version : e.framer.version ≡ version_after host 1 (frames_in d.steps) = kept.version ∙ ap (λ (x : List HFrame). version_after host 1 x) all in
    let more = reads_more e.framer rest stream piece (frames_in d.steps) frames broken_by splits version gives in
    subst (λ (x : PlainTermEndpoint). Kept (stream ++ piece) events out told x) (sym is) (record {
      done = record { steps = d.steps; composed = d.composed; leads = d.leads; composed_fit = d.composed_fit; reads = more.0; given = d.given; bytes = d.bytes; refused = d.refused };
      version = more.1;
      count = kept.count;
    })

kept_same : (stream : List ℕ) (events : List UserEvent) (out : List ℕ) (told : List (ℕ × Refusal)) (e k : PlainTermEndpoint) → k ≡ e → Kept stream events out told e → Kept (stream ++ []) events out told k
kept_same stream events out told e k is kept = grind (arith, append-nil)

-- an event is held
kept_held : (stream : List ℕ) (events : List UserEvent) (out : List ℕ) (told : List (ℕ × Refusal)) (e : PlainTermEndpoint) (event : UserEvent) → Kept stream events out told e
    → Kept stream (events ++ event ∷ []) out told (with_event e event)
kept_held stream events out told e event kept =
    let d = kept.done in
    let frames : frames_in (d.steps ++ run.Held event ∷ []) ≡ frames_in d.steps =
    flat_map-append frame_in d.steps (run.Held event ∷ []) ∙ append-nil (frames_in d.steps) in
    let composed : d.composed ++ [] ≡ d.composed = append-nil d.composed in
    let acts : acts_in (d.steps ++ run.Held event ∷ []) ≡ acts_in d.steps =
    flat_map-append act_in d.steps (run.Held event ∷ []) ∙ append-nil (acts_in d.steps) in
    record {
      done = record {
        steps = d.steps ++ run.Held event ∷ [];
        composed = d.composed ++ [];
        leads = leads_more new_terminal e.term (with_event e event).term d.steps (run.Held event ∷ []) d.composed [] d.leads (refl, refl);
        composed_fit = All-same (FitsT 2) (d.composed ++ []) d.composed composed d.composed_fit;
        reads = subst (λ (x : List HFrame). IsStream host 1 stream (x ++ e.waiting) e.framer.bytes (option_map mesg_fault e.broken_by)) (sym frames) d.reads;
        given = flat_map-append event_in d.steps (run.Held event ∷ []) ∙ ap (λ (x : List UserEvent). x ++ event ∷ []) d.given;
        bytes = d.bytes ∙ ap (λ (x : List Tmesg). stream_of terminal x) (sym composed);
        refused = d.refused ∙ ap (refusals_from 1) (sym acts);
      };
      version = kept.version ∙ ap (λ (x : List HFrame). version_after host 1 (x ++ e.waiting)) (sym frames);
      count = omega (arith, ap length acts, length-append e.term.held (event ∷ []), kept.count);
    }

-- the unsent runes were composed
kept_sent : (stream : List ℕ) (events : List UserEvent) (out : List ℕ) (told : List (ℕ × Refusal)) (e : PlainTermEndpoint) (u : PlainTerminal) (composed : List Tmesg) → e.unwritten ≡ []
    → flush_of e.term ≡ Ok (u, composed) → FitMessages composed → Kept stream events out told e → Kept stream events out told (record e { term = u; unwritten = composed })
kept_sent stream events out told e u composed none flushes fit kept =
    let d = kept.done in
    let frames : frames_in (d.steps ++ run.Sent ∷ []) ≡ frames_in d.steps = flat_map-append frame_in d.steps (run.Sent ∷ []) ∙ append-nil (frames_in d.steps) in
    let acts : acts_in (d.steps ++ run.Sent ∷ []) ≡ acts_in d.steps = flat_map-append act_in d.steps (run.Sent ∷ []) ∙ append-nil (acts_in d.steps) in
    record {
      done = record {
        steps = d.steps ++ run.Sent ∷ [];
        composed = d.composed ++ composed;
        leads = leads_more new_terminal e.term u d.steps (run.Sent ∷ []) d.composed composed d.leads (u, composed, [], flushes, sym (append-nil composed), (refl, refl));
        composed_fit = All-append (FitsT 2) d.composed composed d.composed_fit fit;
        reads = subst (λ (x : List HFrame). IsStream host 1 stream (x ++ e.waiting) e.framer.bytes (option_map mesg_fault e.broken_by)) (sym frames) d.reads;
        given = flat_map-append event_in d.steps (run.Sent ∷ []) ∙ append-nil (events_in d.steps) ∙ d.given;
        bytes = bytes_on out e.pending_bytes e.unwritten d.composed composed none d.bytes;
        refused = d.refused ∙ ap (refusals_from 1) (sym acts);
      };
      version = kept.version ∙ ap (λ (x : List HFrame). version_after host 1 (x ++ e.waiting)) (sym frames);
      count = omega (arith, ap length acts, ap length (flush_held e.term u composed flushes), kept.count);
    }
  where
    bytes_on : (out pending : List ℕ) (unwritten composed more : List Tmesg) → unwritten ≡ [] → (out ++ pending) ++ stream_of terminal unwritten ≡ stream_of terminal composed
        → (out ++ pending) ++ stream_of terminal more ≡ stream_of terminal (composed ++ more)
    bytes_on out pending unwritten composed more none p = grind (arith, append-nil, stream_of-append)

stopped_not : (result : Answer) (why : TermStop) → result ≡ Err (fault.Stopped why) → GoesOnAfter result → ⊥
stopped_not result why is goes = subst (λ (x : Answer). GoesOnAfter x) is goes

as_it_was : {A : Type 0} (result : Answer) (given : List A) → (result ≡ Err fault.OutOfMemory) ⊎ (result ≡ Err fault.CountFull) → if_taken result given ≡ []
as_it_was result given (inl is) = ap (λ (x : Answer). if_taken x given) is
as_it_was result given (inr is) = ap (λ (x : Answer). if_taken x given) is

taken_on : (stream piece : List ℕ) (events : List UserEvent) (out : List ℕ) (told : List (ℕ × Refusal)) (k g : PlainTermEndpoint) (result : Answer) → GoesOnAfter result → GoesOn k result g
    → Kept (stream ++ piece) events out told k → Kept (stream ++ if_taken result piece) events out told g
taken_on stream piece events out told k g (Ok done) goes on kept = kept_goes_on (stream ++ piece) events out told k g (Ok done) goes on kept
taken_on stream piece events out told k g (Err fault.Unfinished) goes on kept = kept_goes_on (stream ++ piece) events out told k g (Err fault.Unfinished) goes on kept
taken_on stream piece events out told k g (Err fault.OutOfMemory) goes on kept = absurd on
taken_on stream piece events out told k g (Err fault.CountFull) goes on kept = absurd on
taken_on stream piece events out told k g (Err (fault.Stopped why)) goes on kept = absurd goes

held_on : (stream : List ℕ) (events more : List UserEvent) (out : List ℕ) (told : List (ℕ × Refusal)) (k g : PlainTermEndpoint) (result : Answer) → GoesOnAfter result → GoesOn k result g
    → Kept stream (events ++ more) out told k → Kept stream (events ++ if_taken result more) out told g
held_on stream events more out told k g (Ok done) goes on kept = kept_goes_on stream (events ++ more) out told k g (Ok done) goes on kept
held_on stream events more out told k g (Err fault.Unfinished) goes on kept = kept_goes_on stream (events ++ more) out told k g (Err fault.Unfinished) goes on kept
held_on stream events more out told k g (Err fault.OutOfMemory) goes on kept = absurd on
held_on stream events more out told k g (Err fault.CountFull) goes on kept = absurd on
held_on stream events more out told k g (Err (fault.Stopped why)) goes on kept = absurd goes

kept_fed : (stream : List ℕ) (events : List UserEvent) (out : List ℕ) (told : List (ℕ × Refusal)) (piece : List ℕ) (e g : PlainTermEndpoint) (result : Answer) → GoesOnAfter result → e.waiting ≡ []
    → FeedsIdle e piece result g → Kept stream events out told e → Kept (stream ++ if_taken result piece) events out told g
kept_fed stream events out told piece e g result goes none (inl (k, takes, on)) kept =
    taken_on stream piece events out told k g result goes on (kept_piece stream events out told piece e k none takes kept)
kept_fed stream events out told piece e g result goes none (inr (inl (is, room, same))) kept = grind (arith, append-nil, (as_it_was result piece (inl is)))
kept_fed stream events out told piece e g result goes none (inr (inr (is, full, same))) kept = grind (arith, append-nil, (as_it_was result piece (inr is)))

kept_put : (stream : List ℕ) (events : List UserEvent) (out : List ℕ) (told : List (ℕ × Refusal)) (event : UserEvent) (e g : PlainTermEndpoint) (result : Answer) → GoesOnAfter result
    → PutsIdle e event result g → Kept stream events out told e → Kept stream (events ++ if_taken result (event ∷ [])) out told g
kept_put stream events out told event e g result goes (inl on) kept =
    held_on stream events (event ∷ []) out told (with_event e event) g result goes on (kept_held stream events out told e event kept)
kept_put stream events out told event e g result goes (inr (inl (is, room, same))) kept = grind (arith, append-nil, (as_it_was result (event ∷ []) (inl is)))
kept_put stream events out told event e g result goes (inr (inr (is, full, same))) kept = grind (arith, append-nil, (as_it_was result (event ∷ []) (inr is)))

kept_flushed : (stream : List ℕ) (events : List UserEvent) (out : List ℕ) (told : List (ℕ × Refusal)) (e g : PlainTermEndpoint) (result : Answer) → GoesOnAfter result → e.unwritten ≡ []
    → FlushesIdle e result g → Kept stream events out told e → Kept stream events out told g
kept_flushed stream events out told e g result goes none (inl (u, composed, flushes, fit, on)) kept =
    kept_goes_on stream events out told (record e { term = u; unwritten = composed }) g result goes on (kept_sent stream events out told e u composed none flushes fit kept)
kept_flushed stream events out told e g result goes none (inr (inl (is, counted, same))) kept = subst (λ (x : PlainTermEndpoint). Kept stream events out told x) (sym same) kept
kept_flushed stream events out told e g result goes none (inr (inr (why, fails, is, same))) kept = absurd (stopped_not result _ is goes)

kept_feeds : (stream : List ℕ) (events : List UserEvent) (out : List ℕ) (told : List (ℕ × Refusal)) (piece : List ℕ) (e g : PlainTermEndpoint) (result : Answer) → GoesOnAfter result → Feeds e piece result g
    → Kept stream events out told e → Kept (stream ++ if_taken result piece) events out told g
kept_feeds stream events out told piece e g result goes (inl (why, stops, is, same)) kept = absurd (stopped_not result why is goes)
kept_feeds stream events out told piece e g result goes (inr (going, k, Ok done, on, fed)) kept =
    kept_fed stream events out told piece k g result goes on.2.waiting fed (kept_goes_on stream events out told e k (Ok done) tt on kept)
kept_feeds stream events out told piece e g result goes (inr (going, k, Err fault.Unfinished, on, (is, same))) kept =
    let still : Kept stream events out told k = kept_goes_on stream events out told e k (Err fault.Unfinished) tt on kept in
    grind (arith, append-nil, (as_it_was result piece (inl is)))
kept_feeds stream events out told piece e g result goes (inr (going, k, Err (fault.Stopped why), on, (is, same))) kept = absurd (stopped_not result why is goes)
kept_feeds stream events out told piece e g result goes (inr (going, k, Err fault.OutOfMemory, on, after)) kept = absurd on
kept_feeds stream events out told piece e g result goes (inr (going, k, Err fault.CountFull, on, after)) kept = absurd on

-- a piece was brought, or was not
kept_brought : (stream : List ℕ) (events : List UserEvent) (out : List ℕ) (told : List (ℕ × Refusal)) (piece : List ℕ) (e k : PlainTermEndpoint) (result : Result (Unit {0}) (BringFault TermStop))
    → BringsIn e piece result k → Kept stream events out told e → Kept (stream ++ came_in (run.Bring piece result)) events out told k
kept_brought stream events out told piece e k (Ok done) (ready, takes) kept = kept_piece stream events out told piece e k ready.1.0.waiting takes kept
kept_brought stream events out told piece e k (Err (bring.Stopped why)) (stops, same) kept = kept_same stream events out told e k same kept
kept_brought stream events out told piece e k (Err bring.Waiting) (goes, waits, same) kept = kept_same stream events out told e k same kept
kept_brought stream events out told piece e k (Err bring.CountFull) (ready, full, same) kept = kept_same stream events out told e k same kept
kept_brought stream events out told piece e k (Err bring.OutOfMemory) (ready, room, same) kept = kept_same stream events out told e k same kept

-- an event was brought, or was not
kept_as : (stream : List ℕ) (events : List UserEvent) (out : List ℕ) (told : List (ℕ × Refusal)) (e k : PlainTermEndpoint) → k ≡ e → Kept stream events out told e → Kept stream (events ++ []) out told k
kept_as stream events out told e k is kept = grind (arith, append-nil)

kept_asked : (stream : List ℕ) (events : List UserEvent) (out : List ℕ) (told : List (ℕ × Refusal)) (event : UserEvent) (e k : PlainTermEndpoint) (result : Result (Unit {0}) (BringFault TermStop))
    → BringsEvent e event result k → Kept stream events out told e → Kept stream (events ++ put_in (run.BringEvent event result)) out told k
kept_asked stream events out told event e k (Ok done) (goes, is) kept =
    subst (λ (x : PlainTermEndpoint). Kept stream (events ++ event ∷ []) out told x) (sym is) (kept_held stream events out told e event kept)
kept_asked stream events out told event e k (Err (bring.Stopped why)) (stops, same) kept = kept_as stream events out told e k same kept
kept_asked stream events out told event e k (Err bring.Waiting) brings kept = absurd brings
kept_asked stream events out told event e k (Err bring.CountFull) (goes, full, same) kept = kept_as stream events out told e k same kept
kept_asked stream events out told event e k (Err bring.OutOfMemory) (goes, counts, same) kept = kept_as stream events out told e k same kept

-- an end that makes a step goes on
step_goes : (e k : PlainTermEndpoint) (done : TermStep) → Steps e (Ok done) k → e.stop ≡ None
step_goes e k step.Idle steps = steps.0.0
step_goes e k step.Locked steps = steps.0.0
step_goes e k step.Wrote steps = steps.0
step_goes e k (step.Received kind tag change) steps = steps.0.0
step_goes e k (step.Acted number tag change) steps = steps.0.0
step_goes e k (step.Refused number why) steps = steps.0.0

went : (e k : PlainTermEndpoint) (done : TermStep) → Steps e (Ok done) k → Went e k
went e k done steps = steps_on e e k done (went_nowhere e (step_goes e k done steps)) steps

kept_stepped : (stream : List ℕ) (events : List UserEvent) (out : List ℕ) (told : List (ℕ × Refusal)) (e k : PlainTermEndpoint) (result : Result TermStep (EndpointFault TermStop))
    → GoesOnAfter result → Steps e result k → Kept stream events out told e → Kept stream events out told k
kept_stepped stream events out told e k (Ok done) goes steps kept =
    let w = went e k done steps in kept_moves stream events out told e k w.frames w.acts w.moves kept
kept_stepped stream events out told e k (Err fault.Unfinished) goes (going, waits, same) kept = subst (λ (x : PlainTermEndpoint). Kept stream events out told x) (sym same) kept
kept_stepped stream events out told e k (Err fault.OutOfMemory) goes steps kept = absurd steps
kept_stepped stream events out told e k (Err fault.CountFull) goes steps kept = absurd steps
kept_stepped stream events out told e k (Err (fault.Stopped why)) goes steps kept = absurd goes

kept_puts : (stream : List ℕ) (events : List UserEvent) (out : List ℕ) (told : List (ℕ × Refusal)) (event : UserEvent) (e g : PlainTermEndpoint) (result : Answer) → GoesOnAfter result
    → Puts e event result g → Kept stream events out told e → Kept stream (events ++ if_taken result (event ∷ [])) out told g
kept_puts stream events out told event e g result goes (inl (why, stops, is, same)) kept = absurd (stopped_not result why is goes)
kept_puts stream events out told event e g result goes (inr (going, k, Ok done, on, puts)) kept =
    kept_put stream events out told event k g result goes puts (kept_goes_on stream events out told e k (Ok done) tt on kept)
kept_puts stream events out told event e g result goes (inr (going, k, Err fault.Unfinished, on, (is, same))) kept =
    let still : Kept stream events out told k = kept_goes_on stream events out told e k (Err fault.Unfinished) tt on kept in
    grind (arith, append-nil, (as_it_was result (event ∷ []) (inl is)))
kept_puts stream events out told event e g result goes (inr (going, k, Err (fault.Stopped why), on, (is, same))) kept = absurd (stopped_not result why is goes)
kept_puts stream events out told event e g result goes (inr (going, k, Err fault.OutOfMemory, on, after)) kept = absurd on
kept_puts stream events out told event e g result goes (inr (going, k, Err fault.CountFull, on, after)) kept = absurd on

kept_flushes : (stream : List ℕ) (events : List UserEvent) (out : List ℕ) (told : List (ℕ × Refusal)) (e g : PlainTermEndpoint) (result : Answer) → GoesOnAfter result → Flushes e result g
    → Kept stream events out told e → Kept stream events out told g
kept_flushes stream events out told e g result goes (inl (why, stops, is, same)) kept = absurd (stopped_not result why is goes)
kept_flushes stream events out told e g result goes (inr (going, k, Ok done, on, flushes)) kept =
    kept_flushed stream events out told k g result goes on.2.unwritten flushes (kept_goes_on stream events out told e k (Ok done) tt on kept)
kept_flushes stream events out told e g result goes (inr (going, k, Err fault.Unfinished, on, (is, same))) kept =
    subst (λ (x : PlainTermEndpoint). Kept stream events out told x) (sym same) (kept_goes_on stream events out told e k (Err fault.Unfinished) tt on kept)
kept_flushes stream events out told e g result goes (inr (going, k, Err (fault.Stopped why), on, (is, same))) kept = absurd (stopped_not result why is goes)
kept_flushes stream events out told e g result goes (inr (going, k, Err fault.OutOfMemory, on, after)) kept = absurd on
kept_flushes stream events out told e g result goes (inr (going, k, Err fault.CountFull, on, after)) kept = absurd on

kept_out : (stream : List ℕ) (events : List UserEvent) (out : List ℕ) (told : List (ℕ × Refusal)) (bytes rest : List ℕ) (e : PlainTermEndpoint) → e.pending_bytes ≡ bytes ++ rest → Kept stream events out told e
    → Kept stream events (out ++ bytes) told (record e { pending_bytes = rest })
kept_out stream events out told bytes rest e is kept =
    let d = kept.done in
    record {
      done = record {
        steps = d.steps;
        composed = d.composed;
        leads = d.leads;
        composed_fit = d.composed_fit;
        reads = d.reads;
        given = d.given;
        bytes = ap (λ (x : List ℕ). x ++ stream_of terminal e.unwritten) (append_assoc out bytes rest ∙ ap (λ (x : List ℕ). out ++ x) (sym is)) ∙ d.bytes;
        refused = d.refused;
      };
      version = kept.version;
      count = kept.count;
    }

-- the oldest refusal is handed out, if there is one
first_told : (told waiting all : List (ℕ × Refusal)) → told ++ waiting ≡ all → (told ++ option_to_list (slice_get waiting 0)) ++ drop 1 waiting ≡ all
first_told told [] all is = grind (arith, append-nil)
first_told told (refusal ∷ waiting) all is = append_assoc told (refusal ∷ []) waiting ∙ is

kept_told : (stream : List ℕ) (events : List UserEvent) (out : List ℕ) (told : List (ℕ × Refusal)) (next : Option (ℕ × Refusal)) (e : PlainTermEndpoint) → next ≡ slice_get e.refusals 0
    → Kept stream events out told e → Kept stream events out (told ++ option_to_list next) (record e { refusals = drop 1 e.refusals })
kept_told stream events out told next e is kept =
    let d = kept.done in
    subst (λ (x : Option (ℕ × Refusal)). Kept stream events out (told ++ option_to_list x) (record e { refusals = drop 1 e.refusals })) (sym is) (record {
      done = record {
        steps = d.steps;
        composed = d.composed;
        leads = d.leads;
        composed_fit = d.composed_fit;
        reads = d.reads;
        given = d.given;
        bytes = d.bytes;
        refused = first_told told e.refusals (refusals_from 1 (acts_in d.steps)) d.refused;
      };
      version = kept.version;
      count = kept.count;
    })

-- what changed was asked for
kept_changed : (stream : List ℕ) (events : List UserEvent) (out : List ℕ) (told : List (ℕ × Refusal)) (e : PlainTermEndpoint) (now : List changes.Kept) → Kept stream events out told e
    → Kept stream events out told (record e { kept = now })
kept_changed stream events out told e now kept =
    let d = kept.done in
    record {
      done = record { steps = d.steps; composed = d.composed; leads = d.leads; composed_fit = d.composed_fit; reads = d.reads; given = d.given; bytes = d.bytes; refused = d.refused };
      version = kept.version;
      count = kept.count;
    }

-- ## Runs

kept_run : (stream : List ℕ) (events : List UserEvent) (out : List ℕ) (told : List (ℕ × Refusal)) (calls : List Call) (e g : PlainTermEndpoint) → Runs e calls g → Kept stream events out told e
    → Kept (stream ++ flat_map came_in calls) (events ++ flat_map put_in calls) (out ++ flat_map went_out calls) (told ++ flat_map handed_out calls) g
kept_run stream events out told [] e g is kept = grind (arith, append-nil)
kept_run stream events out told (run.Feed piece answer ∷ calls) e g (k, feeds, goes, runs) kept =
    subst (λ (x : List ℕ). Kept x (events ++ flat_map put_in calls) (out ++ flat_map went_out calls) (told ++ flat_map handed_out calls) g)
    (append_assoc stream (if_taken answer piece) (flat_map came_in calls))
    (kept_run (stream ++ if_taken answer piece) events out told calls k g runs (kept_feeds stream events out told piece e k answer goes feeds kept))
kept_run stream events out told (run.Bring piece result ∷ calls) e g (k, brings, runs) kept =
    subst (λ (x : List ℕ). Kept x (events ++ flat_map put_in calls) (out ++ flat_map went_out calls) (told ++ flat_map handed_out calls) g)
    (append_assoc stream (came_in (run.Bring piece result)) (flat_map came_in calls))
    (kept_run (stream ++ came_in (run.Bring piece result)) events out told calls k g runs (kept_brought stream events out told piece e k result brings kept))
kept_run stream events out told (run.BringEvent event result ∷ calls) e g (k, brings, runs) kept =
    subst (λ (x : List UserEvent). Kept (stream ++ flat_map came_in calls) x (out ++ flat_map went_out calls) (told ++ flat_map handed_out calls) g)
    (append_assoc events (put_in (run.BringEvent event result)) (flat_map put_in calls))
    (kept_run stream (events ++ put_in (run.BringEvent event result)) out told calls k g runs (kept_asked stream events out told event e k result brings kept))
kept_run stream events out told (run.MakeStep result ∷ calls) e g (k, steps, goes, runs) kept =
    kept_run stream events out told calls k g runs (kept_stepped stream events out told e k result goes steps kept)
kept_run stream events out told (run.Put event answer ∷ calls) e g (k, puts, goes, runs) kept =
    subst (λ (x : List UserEvent). Kept (stream ++ flat_map came_in calls) x (out ++ flat_map went_out calls) (told ++ flat_map handed_out calls) g)
    (append_assoc events (if_taken answer (event ∷ [])) (flat_map put_in calls))
    (kept_run stream (events ++ if_taken answer (event ∷ [])) out told calls k g runs (kept_puts stream events out told event e k answer goes puts kept))
kept_run stream events out told (run.Flush answer ∷ calls) e g (k, flushes, goes, runs) kept =
    kept_run stream events out told calls k g runs (kept_flushes stream events out told e k answer goes flushes kept)
kept_run stream events out told (run.TakeOut bytes ∷ calls) e g (rest, is, runs) kept =
    subst (λ (x : List ℕ). Kept (stream ++ flat_map came_in calls) (events ++ flat_map put_in calls) x (told ++ flat_map handed_out calls) g)
    (append_assoc out bytes (flat_map went_out calls))
    (kept_run stream events (out ++ bytes) told calls (record e { pending_bytes = rest }) g runs (kept_out stream events out told bytes rest e is kept))
kept_run stream events out told (run.NextRefusal next ∷ calls) e g (is, runs) kept =
    subst (λ (x : List (ℕ × Refusal)). Kept (stream ++ flat_map came_in calls) (events ++ flat_map put_in calls) (out ++ flat_map went_out calls) x g)
    (append_assoc told (option_to_list next) (flat_map handed_out calls))
    (kept_run stream events out (told ++ option_to_list next) calls (record e { refusals = drop 1 e.refusals }) g runs (kept_told stream events out told next e is kept))
kept_run stream events out told (run.Changed now ∷ calls) e g runs kept =
    kept_run stream events out told calls (record e { kept = now }) g runs (kept_changed stream events out told e now kept)

-- nothing was fed or put
kept_begun : Kept [] [] [] [] new_term_endpoint
kept_begun = record {
  done = record {
    steps = [];
    composed = [];
    leads = (refl, refl);
    composed_fit = All-nil (FitsT 2);
    reads = record { splits = record { whole = refl; fit = tt }; ends = tt };
    given = refl;
    bytes = refl;
    refused = refl;
  };
  version = refl;
  count = refl;
}

pub runs_lead : (calls : List Call) (g : PlainTermEndpoint) → Runs new_term_endpoint calls g
    → HasDone (flat_map came_in calls) (flat_map put_in calls) (flat_map went_out calls) (flat_map handed_out calls) g
runs_lead calls g runs = (kept_run [] [] [] [] calls new_term_endpoint g runs kept_begun).done

-- each event that was held has been decided since, or is held
leads_count : (t u : PlainTerminal) (steps : List Step) (composed : List Tmesg) → Leads t steps composed u
    → length (events_in steps) + length t.held ≡ length (acts_in steps) + length u.held
leads_count t u [] composed p = omega (arith, ap (λ (x : PlainTerminal). length x.held) (sym p.1))
leads_count t u (run.Received frame ∷ steps) composed (v, first, rest, took, is, leads) =
    omega (arith, leads_count v u steps rest leads, ap length (take_held t v frame first took))
leads_count t u (run.Held event ∷ steps) composed p =
    omega (arith, leads_count (record t { held = t.held ++ event ∷ [] }) u steps composed p, length-append t.held (event ∷ []))
leads_count t u (run.Decided acted ∷ steps) composed (v, rest, took, is_decided, is, leads) =
    omega (arith, leads_count v u steps rest leads, act_held t v acted took is_decided)
leads_count t u (run.Sent ∷ steps) composed (v, first, rest, took, is, leads) =
    omega (arith, leads_count v u steps rest leads, ap length (flush_held t v first took))

pub events_numbered : (calls : List Call) (g : PlainTermEndpoint) → Runs new_term_endpoint calls g → g.events ≡ length (flat_map put_in calls)
events_numbered calls g runs =
    let kept = kept_run [] [] [] [] calls new_term_endpoint g runs kept_begun in
    omega (arith, kept.count, leads_count new_terminal g.term kept.done.steps kept.done.composed kept.done.leads, ap length kept.done.given)

-- ## Stops

feed_goes : (e g : PlainTermEndpoint) (piece : List ℕ) (answer : Answer) → GoesOnAfter answer → Feeds e piece answer g → g.stop ≡ None
feed_goes e g piece answer goes feeds = grind arith

put_goes : (e g : PlainTermEndpoint) (event : UserEvent) (answer : Answer) → GoesOnAfter answer → Puts e event answer g → g.stop ≡ None
put_goes e g event answer goes puts = grind arith

flush_goes : (e g : PlainTermEndpoint) (answer : Answer) → GoesOnAfter answer → Flushes e answer g → g.stop ≡ None
flush_goes e g answer goes flushes = grind arith

bring_goes : (e k : PlainTermEndpoint) (piece : List ℕ) (result : Result (Unit {0}) (BringFault TermStop)) → e.stop ≡ None → BringsIn e piece result k → k.stop ≡ None
bring_goes e k piece (Ok done) goes (ready, (frames, broken_by, rest, gives, is)) = ap (λ (x : PlainTermEndpoint). x.stop) is ∙ goes
bring_goes e k piece (Err (bring.Stopped why)) goes (stops, same) = ap (λ (x : PlainTermEndpoint). x.stop) same ∙ goes
bring_goes e k piece (Err bring.Waiting) goes (going, waits, same) = ap (λ (x : PlainTermEndpoint). x.stop) same ∙ goes
bring_goes e k piece (Err bring.CountFull) goes (ready, full, same) = ap (λ (x : PlainTermEndpoint). x.stop) same ∙ goes
bring_goes e k piece (Err bring.OutOfMemory) goes (ready, room, same) = ap (λ (x : PlainTermEndpoint). x.stop) same ∙ goes

event_goes : (e k : PlainTermEndpoint) (event : UserEvent) (result : Result (Unit {0}) (BringFault TermStop)) → e.stop ≡ None → BringsEvent e event result k → k.stop ≡ None
event_goes e k event (Ok done) goes (going, is) = ap (λ (x : PlainTermEndpoint). x.stop) is ∙ goes
event_goes e k event (Err (bring.Stopped why)) goes (stops, same) = ap (λ (x : PlainTermEndpoint). x.stop) same ∙ goes
event_goes e k event (Err bring.Waiting) goes brings = absurd brings
event_goes e k event (Err bring.CountFull) goes (going, full, same) = ap (λ (x : PlainTermEndpoint). x.stop) same ∙ goes
event_goes e k event (Err bring.OutOfMemory) goes (going, counts, same) = ap (λ (x : PlainTermEndpoint). x.stop) same ∙ goes

stepped_goes : (e k : PlainTermEndpoint) (result : Result TermStep (EndpointFault TermStop)) → GoesOnAfter result → Steps e result k → k.stop ≡ None
stepped_goes e k (Ok done) goes steps = (went e k done steps).goes
stepped_goes e k (Err fault.Unfinished) goes (going, waits, same) = ap (λ (x : PlainTermEndpoint). x.stop) same ∙ going
stepped_goes e k (Err fault.OutOfMemory) goes steps = absurd steps
stepped_goes e k (Err fault.CountFull) goes steps = absurd steps
stepped_goes e k (Err (fault.Stopped why)) goes steps = absurd goes

run_goes : (e g : PlainTermEndpoint) (calls : List Call) → e.stop ≡ None → Runs e calls g → g.stop ≡ None
run_goes e g [] goes is = grind arith
run_goes e g (run.Feed piece answer ∷ calls) goes (k, feeds, goes_on, runs) = run_goes k g calls (feed_goes e k piece answer goes_on feeds) runs
run_goes e g (run.Bring piece result ∷ calls) goes (k, brings, runs) = run_goes k g calls (bring_goes e k piece result goes brings) runs
run_goes e g (run.BringEvent event result ∷ calls) goes (k, brings, runs) = run_goes k g calls (event_goes e k event result goes brings) runs
run_goes e g (run.MakeStep result ∷ calls) goes (k, steps, goes_on, runs) = run_goes k g calls (stepped_goes e k result goes_on steps) runs
run_goes e g (run.Put event answer ∷ calls) goes (k, puts, goes_on, runs) = run_goes k g calls (put_goes e k event answer goes_on puts) runs
run_goes e g (run.Flush answer ∷ calls) goes (k, flushes, goes_on, runs) = run_goes k g calls (flush_goes e k answer goes_on flushes) runs
run_goes e g (run.TakeOut bytes ∷ calls) goes (rest, is, runs) = run_goes (record e { pending_bytes = rest }) g calls goes runs
run_goes e g (run.NextRefusal next ∷ calls) goes (is, runs) = run_goes (record e { refusals = drop 1 e.refusals }) g calls goes runs
run_goes e g (run.Changed now ∷ calls) goes runs = run_goes (record e { kept = now }) g calls goes runs

-- what a run comes to that has stopped
record Ended (stream : List ℕ) (events : List UserEvent) (out : List ℕ) (told : List (ℕ × Refusal)) (why : TermStop) (g : PlainTermEndpoint) : Type 0 where
  pub done : HasDone stream events out told g
  pub stops : HasStopped g why
  pub says : g.stop ≡ Some why

went_on : (stream : List ℕ) (events : List UserEvent) (out : List ℕ) (told : List (ℕ × Refusal)) (e g : PlainTermEndpoint) (why : TermStop) → GoesOn e (Err (fault.Stopped why)) g
    → Kept stream events out told e → Ended stream events out told why g
went_on stream events out told e g (stop.Stream why) (m, idle, broken_by, says) kept =
    record { done = (kept_moves stream events out told e g e.waiting [] m kept).done; stops = (idle, m.broken_by ∙ broken_by); says = says }
went_on stream events out told e g (stop.Refused why) (inl (frames, frame, rest, m, waits, refuses, written, says)) kept =
    record { done = (kept_moves stream events out told e g frames [] m kept).done; stops = inl (frame, rest, waits, refuses, written); says = says }
went_on stream events out told e g (stop.Refused why) (inr (acts, m, idle, whole, refuses, says)) kept =
    record { done = (kept_moves stream events out told e g e.waiting acts m kept).done; stops = inr ((idle, m.broken_by ∙ whole), inl refuses); says = says }

-- the end had gone on with what waited, and then does what the call brings
record Ready (stream : List ℕ) (events : List UserEvent) (out : List ℕ) (told : List (ℕ × Refusal)) (Brings : PlainTermEndpoint → Type 0) : Type 0 where
  pub middle : PlainTermEndpoint
  pub kept : Kept stream events out told middle
  pub whole : IsDone middle
  pub brings : Brings middle

-- a call stops an end that went on: as what waited goes on, or as it does what the call brings
call_stops : (stream : List ℕ) (events : List UserEvent) (out : List ℕ) (told : List (ℕ × Refusal)) (e g : PlainTermEndpoint) (why : TermStop) (Brings : PlainTermEndpoint → Type 0) → e.stop ≡ None
    → Calls e (Err (fault.Stopped why)) g Brings → Kept stream events out told e → Ended stream events out told why g ⊎ Ready stream events out told Brings
call_stops stream events out told e g why Brings goes (inl (who, stops, is, same)) kept = absurd (cc)
call_stops stream events out told e g why Brings goes (inr (going, k, Ok done, on, brings)) kept =
    inr (record { middle = k; kept = kept_goes_on stream events out told e k (Ok done) tt on kept; whole = (on.2, on.1.broken_by ∙ on.4); brings = brings })
call_stops stream events out told e g why Brings goes (inr (going, k, Err fault.Unfinished, on, (is, same))) kept = absurd (cc)
call_stops stream events out told e g why Brings goes (inr (going, k, Err (fault.Stopped first), on, (is, same))) kept =
    let one : first ≡ why = cc in
    inl (subst (λ (x : PlainTermEndpoint). Ended stream events out told why x) (sym same)
    (subst (λ (w : TermStop). Ended stream events out told w k) one (went_on stream events out told e k first on kept)))
call_stops stream events out told e g why Brings goes (inr (going, k, Err fault.OutOfMemory, on, after)) kept = absurd on
call_stops stream events out told e g why Brings goes (inr (going, k, Err fault.CountFull, on, after)) kept = absurd on

fed_stops : (stream : List ℕ) (events : List UserEvent) (out : List ℕ) (told : List (ℕ × Refusal)) (piece : List ℕ) (e g : PlainTermEndpoint) (why : TermStop) → e.waiting ≡ []
    → FeedsIdle e piece (Err (fault.Stopped why)) g → Kept stream events out told e → Ended (stream ++ piece) events out told why g
fed_stops stream events out told piece e g why none (inl (k, takes, on)) kept =
    went_on (stream ++ piece) events out told k g why on (kept_piece stream events out told piece e k none takes kept)
fed_stops stream events out told piece e g why none (inr fed) kept = absurd (grind arith)

put_stops : (stream : List ℕ) (events : List UserEvent) (out : List ℕ) (told : List (ℕ × Refusal)) (event : UserEvent) (e g : PlainTermEndpoint) (why : TermStop)
    → PutsIdle e event (Err (fault.Stopped why)) g → Kept stream events out told e → Ended stream (events ++ event ∷ []) out told why g
put_stops stream events out told event e g why (inl on) kept =
    went_on stream (events ++ event ∷ []) out told (with_event e event) g why on (kept_held stream events out told e event kept)
put_stops stream events out told event e g why (inr puts) kept = absurd (grind arith)

flush_stops : (stream : List ℕ) (events : List UserEvent) (out : List ℕ) (told : List (ℕ × Refusal)) (e g : PlainTermEndpoint) (why : TermStop) → IsDone e
    → FlushesIdle e (Err (fault.Stopped why)) g → Kept stream events out told e → Ended stream events out told why g
flush_stops stream events out told e g why whole (inl (u, composed, flushes, fit, on)) kept =
    went_on stream events out told (record e { term = u; unwritten = composed }) g why on (kept_sent stream events out told e u composed whole.0.unwritten flushes fit kept)
flush_stops stream events out told e g why whole (inr (inl (is, counted, same))) kept = absurd (cc)
flush_stops stream events out told e g why whole (inr (inr (who, fails, is, same))) kept =
    let one : stop.Refused who ≡ why = cc in
    let d = kept.done in
    subst (λ (x : PlainTermEndpoint). Ended stream events out told why x) (sym same)
    (subst (λ (w : TermStop). Ended stream events out told w (record e { stop = Some (stop.Refused who) })) one (record {
      done = record { steps = d.steps; composed = d.composed; leads = d.leads; composed_fit = d.composed_fit; reads = d.reads; given = d.given; bytes = d.bytes; refused = d.refused };
      stops = inr ((record { waiting = whole.0.waiting; unwritten = whole.0.unwritten }, whole.1), inr fails);
      says = refl;
    }))

-- what came with the calls, and then with the last
last_brings : {A : Type 0} (brings : Call → List A) (calls : List Call) (last : Call) → flat_map brings (calls ++ last ∷ []) ≡ flat_map brings calls ++ brings last
last_brings brings calls last = flat_map-append brings calls (last ∷ []) ∙ ap (λ (x : List _). flat_map brings calls ++ x) (append-nil (brings last))

ended_as : (s r : List ℕ) (v w : List UserEvent) (o p : List ℕ) (m n : List (ℕ × Refusal)) (why : TermStop) (g : PlainTermEndpoint) → r ≡ s → w ≡ v → p ≡ o → n ≡ m
    → Ended s v o m why g → Ended r w p n why g
ended_as s r v w o p m n why g a b c d ended = grind arith

-- it was stopped before it took what the last call brought, or after
last_stops : (stream : List ℕ) (events : List UserEvent) (out : List ℕ) (told : List (ℕ × Refusal)) (last : Call) (e g : PlainTermEndpoint) (why : TermStop) → e.stop ≡ None → Stops e last why g
    → Kept stream events out told e
    → Ended stream events out told why g ⊎ Ended (stream ++ came_in last) (events ++ put_in last) (out ++ went_out last) (told ++ handed_out last) why g
last_stops stream events out told (run.Feed piece answer) e g why goes (feeds, is) kept =
    elim (call_stops stream events out told e g why (λ middle. FeedsIdle middle piece (Err (fault.Stopped why)) g) goes (subst (λ (x : Answer). Feeds e piece x g) is feeds) kept) [
      | inl ended ↦ inl ended
      | inr ready ↦ inr (ended_as (stream ++ piece) (stream ++ if_taken answer piece) events (events ++ []) out (out ++ []) told (told ++ []) why g
          (ap (λ (x : Answer). stream ++ if_taken x piece) is) (append-nil events) (append-nil out) (append-nil told)
          (fed_stops stream events out told piece ready.middle g why ready.whole.0.waiting ready.brings ready.kept))
    ]
last_stops stream events out told (run.Bring piece result) e g why goes stops kept = absurd stops
last_stops stream events out told (run.BringEvent event result) e g why goes stops kept = absurd stops
last_stops stream events out told (run.MakeStep result) e g why goes (steps, is) kept =
    let failed : Steps e (Err (fault.Stopped why)) g = subst (λ (x : Result TermStep (EndpointFault TermStop)). Steps e x g) is steps in
    inl (went_on stream events out told e g why (steps_not e e g (fault.Stopped why) (went_nowhere e goes) failed) kept)
last_stops stream events out told (run.Put event answer) e g why goes (puts, is) kept =
    elim (call_stops stream events out told e g why (λ middle. PutsIdle middle event (Err (fault.Stopped why)) g) goes (subst (λ (x : Answer). Puts e event x g) is puts) kept) [
      | inl ended ↦ inl ended
      | inr ready ↦ inr (ended_as stream (stream ++ []) (events ++ event ∷ []) (events ++ if_taken answer (event ∷ [])) out (out ++ []) told (told ++ []) why g
          (append-nil stream) (ap (λ (x : Answer). events ++ if_taken x (event ∷ [])) is) (append-nil out) (append-nil told)
          (put_stops stream events out told event ready.middle g why ready.brings ready.kept))
    ]
last_stops stream events out told (run.Flush answer) e g why goes (flushes, is) kept =
    elim (call_stops stream events out told e g why (λ middle. FlushesIdle middle (Err (fault.Stopped why)) g) goes (subst (λ (x : Answer). Flushes e x g) is flushes) kept) [
      | inl ended ↦ inl ended
      | inr ready ↦ inl (flush_stops stream events out told ready.middle g why ready.whole ready.brings ready.kept)
    ]
last_stops stream events out told (run.TakeOut bytes) e g why goes stops kept = absurd stops
last_stops stream events out told (run.NextRefusal next) e g why goes stops kept = absurd stops
last_stops stream events out told (run.Changed now) e g why goes stops kept = absurd stops

pub stops_lead : (calls : List Call) (last : Call) (e g : PlainTermEndpoint) (why : TermStop) → Runs new_term_endpoint calls e → Stops e last why g
    → (taken : List Call) × ((taken ≡ calls ++ last ∷ []) ⊎ (taken ≡ calls))
    × HasDone (flat_map came_in taken) (flat_map put_in taken) (flat_map went_out taken) (flat_map handed_out taken) g × HasStopped g why × (g.stop ≡ Some why)
stops_lead calls last e g why runs stops =
    elim (last_stops (flat_map came_in calls) (flat_map put_in calls) (flat_map went_out calls) (flat_map handed_out calls) last e g why (run_goes new_term_endpoint e calls refl runs) stops
    (kept_run [] [] [] [] calls new_term_endpoint e runs kept_begun)) [
      | inl ended ↦ (calls, inr refl, ended.done, ended.stops, ended.says)
      | inr ended ↦ let all = ended_as (flat_map came_in calls ++ came_in last) (flat_map came_in (calls ++ last ∷ [])) (flat_map put_in calls ++ put_in last)
          (flat_map put_in (calls ++ last ∷ [])) (flat_map went_out calls ++ went_out last) (flat_map went_out (calls ++ last ∷ []))
          (flat_map handed_out calls ++ handed_out last) (flat_map handed_out (calls ++ last ∷ [])) why g
          (last_brings came_in calls last) (last_brings put_in calls last) (last_brings went_out calls last) (last_brings handed_out calls last) ended in
          (calls ++ last ∷ [], inl refl, all.done, all.stops, all.says)
    ]

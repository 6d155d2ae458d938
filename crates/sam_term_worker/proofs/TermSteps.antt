-- Single steps of the terminal's end, as parts of its run.
use Rattle.sam_term_worker.proofs.Common.{Bool, ◌≡◌, ◌⊎◌, ◌<◌, ◌≤◌, ◌∙◌, sym, ap, subst, refl, inl, inr, ℕ, length, List, [], ◌∷◌, ◌++◌, drop, true, false, is_some, Option, Some, None, Result, Ok, Err, append-nil, append_assoc, arith, Vec, All, All-head, All-tail, FitsT, Tmesg, HFrame, terminal, stream_of, PlainTerminal, act_of, flush_of, take_of, UserEvent, TermLog, Each, PostView, with_item, PutSome, Stop, LoggedView, CanGoOn, Did, Handled, IsLocked, IsNextPiece, IsStill, Took, WasNotHandled, WentOn, bytes_left, of_bring_fault, of_end_fault}
use Rattle.sam_mesg.specs.HostKinds.{fits_h}
use Rattle.sam_term.specs.Fitting.{composed_in}
use Rattle.sam_term.specs.declared.event.Acted.{Acted}
use Rattle.sam_term.specs.declared.event.Acted.TheVariants.{Idle, Locked, Refused}
use Rattle.sam_term.specs.declared.fault.Refusal.{Refusal}
use Rattle.sam_term.specs.declared.fault.TermFault.{TermFault}
use Rattle.sam_term.specs.declared.fault.TermFault.TheVariants as refusal
use Rattle.sam_endpoint.specs.TermEndpoints.{PlainTermEndpoint}
use Rattle.sam_endpoint.specs.TermSteps.{ActsFirst, ReceivesFirst}
use Rattle.sam_endpoint.specs.TermStepping.{BringsEvent, BringsFrame, ComposesIn, Steps}
use Rattle.sam_endpoint.specs.declared.changes.Change.{Change}
use Rattle.sam_endpoint.specs.declared.fault.EndpointFault.{EndpointFault}
use Rattle.sam_endpoint.specs.declared.fault.EndpointFault.TheVariants as fault
use Rattle.sam_endpoint.specs.declared.fault.TermStop.{TermStop}
use Rattle.sam_endpoint.specs.declared.fault.TermStop.TheVariants as cause
use Rattle.sam_endpoint.specs.declared.step.BringFault.{BringFault}
use Rattle.sam_endpoint.specs.declared.step.BringFault.TheVariants as bring
use Rattle.sam_endpoint.specs.declared.step.TermStep.{TermStep}
use Rattle.sam_endpoint.specs.declared.step.TermStep.TheVariants as step
use Rattle.sam_ends.specs.declared.input.Input.TheVariants.{User, Host}
use Rattle.sam_ends.specs.declared.stop.Stop.TheVariants as stop
use Rattle.sam_ends.proofs.Cutting.{one_put}
use Rattle.sam_ends.specs.Numbers.{of_term_fault}
use Rattle.sam_ends.specs.WorkerEnds.{IsFullUp}
use Rattle.sam_sides.proofs.Refusing.{refused_act, refused_flush}
use Rattle.sam_sides.specs.declared.log.TermLog.TheVariants as log
use Rattle.sam_sides.specs.RealSides.{unless_refused, unless_still, worked}
use Rattle.sam_term_worker.specs.TermMoments.{IsRefusedWith}

-- ## Steps that do nothing

pub did_nothing : (a b : LoggedView) → IsStill a b → Did a b [] []
did_nothing a b still = record {
  entries = [];
  composed = [];
  log = still.log ∙ sym (append-nil a.log);
  users = refl;
  runs = (refl, refl, still.term);
  fit = tt;
  bytes = still.bytes ∙ sym (append-nil (bytes_left a));
}

still_same : (a b : LoggedView) → b ≡ a → IsStill a b
still_same a b same = record {
  term = ap (λ (v : LoggedView). v.end.term) same;
  log = ap (λ (v : LoggedView). v.log) same;
  bytes = ap (λ (v : LoggedView). bytes_left v) same;
}

goes_same : (e g : PlainTermEndpoint) → g ≡ e → CanGoOn e → CanGoOn g
goes_same e g same on = subst CanGoOn (sym same) on

-- the end is as it was, but for what doesn't show
still_end : (a : LoggedView) (g : PlainTermEndpoint) (entries : List TermLog) (n : ℕ) → g ≡ a.end → entries ≡ a.log → IsStill a (record { end = g; log = entries; most = n })
still_end a g entries n same logged = record {
  term = ap (λ (x : PlainTermEndpoint). x.term) same;
  log = logged;
  bytes = ap (λ (x : PlainTermEndpoint). x.pending_bytes ++ stream_of terminal x.unwritten) same;
}

still_stopped : (a : LoggedView) (g : PlainTermEndpoint) (entries : List TermLog) (n : ℕ) (why : TermStop) → g ≡ record a.end { stop = Some why } → entries ≡ a.log
    → IsStill a (record { end = g; log = entries; most = n })
still_stopped a g entries n why same logged = record {
  term = ap (λ (x : PlainTermEndpoint). x.term) same;
  log = logged;
  bytes = ap (λ (x : PlainTermEndpoint). x.pending_bytes ++ stream_of terminal x.unwritten) same;
}

-- ## What is composed fits

each_of_all : (ms : List Tmesg) → All (FitsT 2) ms → Each (FitsT 2) ms
each_of_all [] fit = tt
each_of_all (m ∷ ms) fit = (All-head (FitsT 2) m ms fit, each_of_all ms (All-tail (FitsT 2) m ms fit))

-- where nothing was left over, what is composed now is what is left over
bytes_more : (pending pending' : List ℕ) (unwritten unwritten' ms : List Tmesg) → unwritten ≡ [] → pending' ≡ pending → unwritten' ≡ ms
    → pending' ++ stream_of terminal unwritten' ≡ (pending ++ stream_of terminal unwritten) ++ stream_of terminal ms
bytes_more pending pending' unwritten unwritten' ms none same now = grind (arith, append-nil)

-- ## An event

pub did_user : (a : LoggedView) (g : PlainTermEndpoint) (entries : List TermLog) (n : ℕ) (event : UserEvent) → BringsEvent a.end event (Ok tt) g → entries ≡ a.log ++ log.User event ∷ []
    → Did a (record { end = g; log = entries; most = n }) (event ∷ []) []
did_user a g entries n event brought logged = record {
  entries = log.User event ∷ [];
  composed = [];
  log = logged;
  users = refl;
  runs = (refl, refl, ap (λ (x : PlainTermEndpoint). x.term) brought.1);
  fit = tt;
  bytes = ap (λ (x : PlainTermEndpoint). x.pending_bytes ++ stream_of terminal x.unwritten) brought.1 ∙ sym (append-nil (bytes_left a));
}

pub goes_user : (e g : PlainTermEndpoint) (event : UserEvent) → CanGoOn e → BringsEvent e event (Ok tt) g → CanGoOn g
goes_user e g event on brought = record {
  goes = ap (λ (x : PlainTermEndpoint). x.stop) brought.1 ∙ on.goes;
  none_waits = ap (λ (x : PlainTermEndpoint). x.waiting) brought.1 ∙ on.none_waits;
  reads = ap (λ (x : PlainTermEndpoint). x.broken_by) brought.1 ∙ on.reads;
}

pub event_still : (e g : PlainTermEndpoint) (event : UserEvent) (why : BringFault TermStop) → BringsEvent e event (Err why) g → g ≡ e
event_still e g event (bring.Stopped why) is = is.1
event_still e g event bring.Waiting u = absurd u
event_still e g event bring.CountFull is = is.2
event_still e g event bring.OutOfMemory is = is.2

-- what a logged rests on that holds an event
pub ruleset users_kept = (did_user, goes_user, event_still)

-- ## Contradictions

cons_not_nil : (frame : HFrame) (rest : List HFrame) → frame ∷ rest ≡ [] → ⊥
cons_not_nil frame rest is = grind arith

none_not_some : {A : Type 0} (o : Option A) (x : A) → o ≡ None → o ≡ Some x → ⊥
none_not_some o x none some = grind arith

not_empty : (ms : List Tmesg) → ms ≡ [] → 0 < length ms → ⊥
not_empty ms none some = grind arith

-- ## A frame

waits : (e k : PlainTermEndpoint) (frame : HFrame) → BringsFrame e frame (Ok tt) k → k.waiting ≡ frame ∷ []
waits e k frame brought = ap (λ (x : PlainTermEndpoint). x.waiting) brought.1

waits_none : (e k : PlainTermEndpoint) (frame : HFrame) → BringsFrame e frame (Ok tt) k → k.waiting ≡ [] → ⊥
waits_none e k frame brought none = cons_not_nil frame [] (sym (waits e k frame brought) ∙ none)

same_frame : (a b : HFrame) (xs ys : List HFrame) → a ∷ xs ≡ b ∷ ys → b ≡ a
same_frame a b xs ys is = grind arith

same_rest : (a b : HFrame) (xs ys : List HFrame) → a ∷ xs ≡ b ∷ ys → ys ≡ xs
same_rest a b xs ys is = grind arith

received : (a : LoggedView) (k g : PlainTermEndpoint) (entries : List TermLog) (n : ℕ) (frame : HFrame) → BringsFrame a.end frame (Ok tt) k → (first : ReceivesFirst k g)
    → k.stop ≡ None → entries ≡ a.log ++ log.Take frame.seen ∷ [] → Took a frame (Ok tt) (record { end = g; log = entries; most = n })
received a k g entries n frame brought first goes logged =
    let is : first.frame ≡ frame = same_frame frame first.frame [] first.rest (sym (waits a.end k frame brought) ∙ first.waited) in
    let none : first.rest ≡ [] = same_rest frame first.frame [] first.rest (sym (waits a.end k frame brought) ∙ first.waited) in
    let before : k.term ≡ a.end.term = ap (λ (x : PlainTermEndpoint). x.term) brought.1 in
    let taken : take_of a.end.term frame ≡ Ok (first.term, first.composed) = subst (λ (f : HFrame). take_of a.end.term f ≡ Ok (first.term, first.composed)) is
    (subst (λ (t : PlainTerminal). take_of t first.frame ≡ Ok (first.term, first.composed)) before first.taken) in (
      record {
        entries = log.Take frame.seen ∷ [];
        composed = first.composed;
        log = logged;
        users = refl;
        runs = (frame, [], first.term, first.composed, [], refl, refl, ap unless_refused taken, sym (append-nil first.composed), (refl, refl, ap (λ (x : PlainTermEndpoint). x.term) first.after));
        fit = each_of_all first.composed first.composed_fit;
        bytes = bytes_more a.end.pending_bytes g.pending_bytes a.end.unwritten g.unwritten first.composed brought.0.1.0.unwritten
            (ap (λ (x : PlainTermEndpoint). x.pending_bytes) first.after ∙ ap (λ (x : PlainTermEndpoint). x.pending_bytes) brought.1) (ap (λ (x : PlainTermEndpoint). x.unwritten) first.after);
      },
      record {
        goes = ap (λ (x : PlainTermEndpoint). x.stop) first.after ∙ goes;
        none_waits = ap (λ (x : PlainTermEndpoint). x.waiting) first.after ∙ none;
        reads = ap (λ (x : PlainTermEndpoint). x.broken_by) first.after ∙ (ap (λ (x : PlainTermEndpoint). x.broken_by) brought.1 ∙ brought.0.1.1);
      },
    )

pub took_frame : (a : LoggedView) (k g : PlainTermEndpoint) (entries : List TermLog) (n : ℕ) (frame : HFrame) (done : TermStep) → BringsFrame a.end frame (Ok tt) k → Steps k (Ok done) g
    → entries ≡ a.log ++ log.Take frame.seen ∷ [] → Took a frame (Ok tt) (record { end = g; log = entries; most = n })
took_frame a k g entries n frame step.Idle brought is logged = absurd (waits_none a.end k frame brought is.0.1.0.waiting)
took_frame a k g entries n frame step.Locked brought is logged = absurd (waits_none a.end k frame brought is.0.1.0.waiting)
took_frame a k g entries n frame step.Wrote brought is logged =
    absurd (not_empty k.unwritten (ap (λ (x : PlainTermEndpoint). x.unwritten) brought.1 ∙ brought.0.1.0.unwritten) is.1)
took_frame a k g entries n frame (step.Received kind tag change) brought is logged = received a k g entries n frame brought is.1.first is.0.0 logged
took_frame a k g entries n frame (step.Acted number tag change) brought is logged = absurd (waits_none a.end k frame brought is.0.1.0.waiting)
took_frame a k g entries n frame (step.Refused number why) brought is logged = absurd (waits_none a.end k frame brought is.0.1.0.waiting)

refused_with : (t : PlainTerminal) (frame : HFrame) (why : TermFault) → take_of t frame ≡ Err why → IsRefusedWith t frame (of_term_fault why)
refused_with t frame refusal.OutOfMemory is = inl refl
refused_with t frame why is = inr (why, is, refl)

-- the end is as it was, but for the frame that waits
still_waiting : (a : LoggedView) (k g : PlainTermEndpoint) (entries : List TermLog) (n : ℕ) (frame : HFrame) → BringsFrame a.end frame (Ok tt) k → g.term ≡ k.term
    → g.pending_bytes ≡ k.pending_bytes → g.unwritten ≡ k.unwritten → entries ≡ a.log → IsStill a (record { end = g; log = entries; most = n })
still_waiting a k g entries n frame brought term bytes unwritten logged = record {
  term = term ∙ ap (λ (x : PlainTermEndpoint). x.term) brought.1;
  log = logged;
  bytes = ap (λ (bs : List ℕ). bs ++ stream_of terminal g.unwritten) bytes ∙ (ap (λ (ms : List Tmesg). k.pending_bytes ++ stream_of terminal ms) unwritten
      ∙ ap (λ (x : PlainTermEndpoint). x.pending_bytes ++ stream_of terminal x.unwritten) brought.1);
}

took_not : (a : LoggedView) (k g : PlainTermEndpoint) (entries : List TermLog) (n : ℕ) (frame : HFrame) (why : EndpointFault TermStop) → BringsFrame a.end frame (Ok tt) k → Steps k (Err why) g
    → entries ≡ a.log → Took a frame (Err (of_end_fault why)) (record { end = g; log = entries; most = n })
took_not a k g entries n frame fault.Unfinished brought is logged = (
  still_waiting a k g entries n frame brought (ap (λ (x : PlainTermEndpoint). x.term) is.2) (ap (λ (x : PlainTermEndpoint). x.pending_bytes) is.2)
      (ap (λ (x : PlainTermEndpoint). x.unwritten) is.2) logged,
  inl refl,
)
took_not a k g entries n frame (fault.Stopped why) brought (inl (stops, same)) logged =
    absurd (none_not_some k.stop why (ap (λ (x : PlainTermEndpoint). x.stop) brought.1 ∙ brought.0.0) stops)
took_not a k g entries n frame (fault.Stopped (cause.Stream why)) brought (inr (written, by)) logged = absurd (waits_none a.end k frame brought by.0)
took_not a k g entries n frame (fault.Stopped (cause.Refused why)) brought (inr (written, inl (f, rest, waited, refused, same))) logged =
    let is : f ≡ frame = same_frame frame f [] rest (sym (waits a.end k frame brought) ∙ waited) in
    let before : k.term ≡ a.end.term = ap (λ (x : PlainTermEndpoint). x.term) brought.1 in
    let refuses : take_of a.end.term frame ≡ Err why =
    subst (λ (x : HFrame). take_of a.end.term x ≡ Err why) is (subst (λ (t : PlainTerminal). take_of t f ≡ Err why) before refused) in (
      still_waiting a k g entries n frame brought (ap (λ (x : PlainTermEndpoint). x.term) same) (ap (λ (x : PlainTermEndpoint). x.pending_bytes) same)
          (ap (λ (x : PlainTermEndpoint). x.unwritten) same) logged,
      refused_with a.end.term frame why refuses,
    )
took_not a k g entries n frame (fault.Stopped (cause.Refused why)) brought (inr (written, inr (done, refused, same))) logged =
    absurd (waits_none a.end k frame brought done.0.waiting)
took_not a k g entries n frame fault.OutOfMemory brought u logged = absurd u
took_not a k g entries n frame fault.CountFull brought u logged = absurd u

pub took_none : (a : LoggedView) (k g : PlainTermEndpoint) (entries : List TermLog) (n : ℕ) (frame : HFrame) (why : EndpointFault TermStop) (s : Stop) → BringsFrame a.end frame (Ok tt) k
    → Steps k (Err why) g → entries ≡ a.log → s ≡ of_end_fault why → Took a frame (Err s) (record { end = g; log = entries; most = n })
took_none a k g entries n frame why s brought is logged says =
    subst (λ (x : Stop). Took a frame (Err x) (record { end = g; log = entries; most = n })) (sym says) (took_not a k g entries n frame why brought is logged)

frame_still : (e g : PlainTermEndpoint) (frame : HFrame) (why : BringFault TermStop) → BringsFrame e frame (Err why) g → g ≡ e
frame_still e g frame (bring.Stopped why) is = is.1
frame_still e g frame bring.Waiting is = is.2
frame_still e g frame bring.CountFull u = absurd u
frame_still e g frame bring.OutOfMemory is = is.1

pub not_brought : (a : LoggedView) (g : PlainTermEndpoint) (entries : List TermLog) (n : ℕ) (frame : HFrame) (why : BringFault TermStop) → BringsFrame a.end frame (Err why) g → entries ≡ a.log
    → Took a frame (Err stop.Memory) (record { end = g; log = entries; most = n })
not_brought a g entries n frame why is logged = (still_end a g entries n (frame_still a.end g frame why is) logged, inl refl)

pub took_memory : (a b : LoggedView) (frame : HFrame) → b ≡ a → Took a frame (Err stop.Memory) b
took_memory a b frame same = (still_same a b same, inl refl)

-- what a logged rests on that takes a frame
pub ruleset takes_kept = (took_frame, took_none, not_brought, took_memory)

-- ## A step

-- what became of the oldest event
acted : (a : LoggedView) (g : PlainTermEndpoint) (entries : List TermLog) (n : ℕ) (ms : List Tmesg) → CanGoOn a.end → a.end.unwritten ≡ [] → (first : ActsFirst a.end g)
    → composed_in first.acted ≡ ms → unless_still first.term first.acted ≡ Some (first.term, ms) → entries ≡ a.log ++ log.Act ∷ []
    → Did a (record { end = g; log = entries; most = n }) [] [] × CanGoOn g
acted a g entries n ms on none first is works logged = (
  record {
    entries = log.Act ∷ [];
    composed = ms;
    log = logged;
    users = refl;
    runs = (first.term, ms, [], ap worked first.acts ∙ works, sym (append-nil ms), (refl, refl, ap (λ (x : PlainTermEndpoint). x.term) first.after));
    fit = each_of_all ms (subst (λ (x : List Tmesg). All (FitsT 2) x) is first.composed_fit);
    bytes = bytes_more a.end.pending_bytes g.pending_bytes a.end.unwritten g.unwritten ms none (ap (λ (x : PlainTermEndpoint). x.pending_bytes) first.after)
        (ap (λ (x : PlainTermEndpoint). x.unwritten) first.after ∙ is);
  },
  record {
    goes = ap (λ (x : PlainTermEndpoint). x.stop) first.after ∙ on.goes;
    none_waits = ap (λ (x : PlainTermEndpoint). x.waiting) first.after ∙ on.none_waits;
    reads = ap (λ (x : PlainTermEndpoint). x.broken_by) first.after ∙ on.reads;
  },
)

pub went_acted : (a : LoggedView) (g : PlainTermEndpoint) (entries : List TermLog) (n : ℕ) (number : ℕ) (tag : Option ℕ) (change : Change) → CanGoOn a.end
    → Steps a.end (Ok (step.Acted number tag change)) g → entries ≡ a.log ++ log.Act ∷ [] → WentOn a (Ok true) (record { end = g; log = entries; most = n })
went_acted a g entries n number tag change on is logged =
    acted a g entries n is.1.composed on is.0.1.0.unwritten is.1.first (ap composed_in is.1.acted) (ap (λ (x : Acted). unless_still is.1.first.term x) is.1.acted) logged

pub went_refused : (a : LoggedView) (g : PlainTermEndpoint) (entries : List TermLog) (n : ℕ) (number : ℕ) (why : Refusal) → CanGoOn a.end
    → Steps a.end (Ok (step.Refused number why)) g → entries ≡ a.log ++ log.Act ∷ [] → WentOn a (Ok true) (record { end = g; log = entries; most = n })
went_refused a g entries n number why on is logged =
    acted a g entries n [] on is.0.1.0.unwritten is.1.first (ap composed_in is.1.refused) (ap (λ (x : Acted). unless_still is.1.first.term x) is.1.refused) logged

pub went_wrote : (a : LoggedView) (g : PlainTermEndpoint) (entries : List TermLog) (n : ℕ) → CanGoOn a.end → Steps a.end (Ok step.Wrote) g → entries ≡ a.log
    → WentOn a (Ok true) (record { end = g; log = entries; most = n })
went_wrote a g entries n on is logged =
    let still : IsStill a (record { end = g; log = entries; most = n }) = record {
      term = ap (λ (x : PlainTermEndpoint). x.term) is.2;
      log = logged;
      bytes = ap (λ (x : PlainTermEndpoint). x.pending_bytes ++ stream_of terminal x.unwritten) is.2 ∙ append-nil (bytes_left a);
    } in (
      did_nothing a (record { end = g; log = entries; most = n }) still,
      record {
        goes = ap (λ (x : PlainTermEndpoint). x.stop) is.2 ∙ on.goes;
        none_waits = ap (λ (x : PlainTermEndpoint). x.waiting) is.2 ∙ on.none_waits;
        reads = ap (λ (x : PlainTermEndpoint). x.broken_by) is.2 ∙ on.reads;
      },
    )

went_nowhere : (a : LoggedView) (g : PlainTermEndpoint) (entries : List TermLog) (n : ℕ) → CanGoOn a.end → g ≡ a.end → entries ≡ a.log
    → WentOn a (Ok false) (record { end = g; log = entries; most = n })
went_nowhere a g entries n on same logged = (did_nothing a (record { end = g; log = entries; most = n }) (still_end a g entries n same logged), goes_same a.end g same on)

pub went_idle : (a : LoggedView) (g : PlainTermEndpoint) (entries : List TermLog) (n : ℕ) → CanGoOn a.end → Steps a.end (Ok step.Idle) g → entries ≡ a.log
    → WentOn a (Ok false) (record { end = g; log = entries; most = n })
went_idle a g entries n on is logged = went_nowhere a g entries n on is.2 logged

pub went_locked : (a : LoggedView) (g : PlainTermEndpoint) (entries : List TermLog) (n : ℕ) → CanGoOn a.end → Steps a.end (Ok step.Locked) g → entries ≡ a.log
    → WentOn a (Ok false) (record { end = g; log = entries; most = n })
went_locked a g entries n on is logged = went_nowhere a g entries n on is.2 logged

pub went_none : (a b : LoggedView) → CanGoOn a.end → b ≡ a → WentOn a (Ok false) b
went_none a b on same = (did_nothing a b (still_same a b same), goes_same a.end b.end (ap (λ (v : LoggedView). v.end) same) on)

-- an idle terminal holds no event
holds_none : (t : PlainTerminal) → act_of t ≡ Ok (t, Idle) → t.held ≡ []
unfolding act_of
holds_none t e = grind arith

pub idle_holds_none : (e g : PlainTermEndpoint) → Steps e (Ok step.Idle) g → g.term.held ≡ []
idle_holds_none e g is = ap (λ (x : PlainTermEndpoint). x.term.held) is.2 ∙ holds_none e.term is.1

-- a locked terminal stays locked
pub locked_stays : (e g : PlainTermEndpoint) → Steps e (Ok step.Locked) g → IsLocked g.term
locked_stays e g is = subst (λ (x : PlainTermEndpoint). IsLocked x.term) (sym is.2) is.1

-- no frame waits
pub none_received : (e g : PlainTermEndpoint) (kind : ℕ) (tag : Option ℕ) (change : Change) → CanGoOn e → Steps e (Ok (step.Received kind tag change)) g → ⊥
none_received e g kind tag change on is = cons_not_nil is.1.first.frame is.1.first.rest (sym is.1.first.waited ∙ on.none_waits)

-- memory was refused, or the count is full
full_count : (t : PlainTerminal) (why : TermFault) → why ≡ refusal.CountFull → IsFullUp t → (of_term_fault why ≡ stop.Memory) ⊎ ((of_term_fault why ≡ stop.Term 8) × IsFullUp t)
full_count t why is full = inr (ap of_term_fault is, full)

went_stopped : (A : Type 0) (a : LoggedView) (g : PlainTermEndpoint) (entries : List TermLog) (n : ℕ) (why : TermFault) → why ≡ refusal.CountFull
    → (act_of a.end.term ≡ Err why) ⊎ (flush_of a.end.term ≡ Err why) → g ≡ record a.end { stop = Some (cause.Refused why) } → entries ≡ a.log
    → WentOn {A = A} a (Err (of_term_fault why)) (record { end = g; log = entries; most = n })
went_stopped A a g entries n why full refused same logged = (still_stopped a g entries n (cause.Refused why) same logged, full_count g.term why full (grind arith))

went_not : (a : LoggedView) (g : PlainTermEndpoint) (entries : List TermLog) (n : ℕ) (why : EndpointFault TermStop) → CanGoOn a.end → Steps a.end (Err why) g → entries ≡ a.log
    → WentOn {A = Bool} a (Err (of_end_fault why)) (record { end = g; log = entries; most = n })
went_not a g entries n fault.Unfinished on is logged = (still_end a g entries n is.2 logged, inl refl)
went_not a g entries n (fault.Stopped why) on (inl (stops, same)) logged = absurd (none_not_some a.end.stop why on.goes stops)
went_not a g entries n (fault.Stopped (cause.Stream why)) on (inr (written, by)) logged = absurd (none_not_some a.end.broken_by why on.reads by.1)
went_not a g entries n (fault.Stopped (cause.Refused why)) on (inr (written, inl (frame, rest, waited, refused, same))) logged =
    absurd (cons_not_nil frame rest (sym waited ∙ on.none_waits))
went_not a g entries n (fault.Stopped (cause.Refused why)) on (inr (written, inr (done, refused, same))) logged =
    went_stopped Bool a g entries n why (refused_act a.end.term why refused) (inl refused) same logged
went_not a g entries n fault.OutOfMemory on u logged = absurd u
went_not a g entries n fault.CountFull on u logged = absurd u

pub went_fault : (a : LoggedView) (g : PlainTermEndpoint) (entries : List TermLog) (n : ℕ) (why : EndpointFault TermStop) (s : Stop) → CanGoOn a.end → Steps a.end (Err why) g → entries ≡ a.log
    → s ≡ of_end_fault why → WentOn {A = Bool} a (Err s) (record { end = g; log = entries; most = n })
went_fault a g entries n why s on is logged says =
    subst (λ (x : Stop). WentOn {A = Bool} a (Err x) (record { end = g; log = entries; most = n })) (sym says) (went_not a g entries n why on is logged)

pub went_memory : (A : Type 0) (a b : LoggedView) → b ≡ a → WentOn {A = A} a (Err stop.Memory) b
went_memory A a b same = (still_same a b same, inl refl)

-- what a logged rests on that makes a step
pub ruleset acts_kept = (went_acted, went_refused, went_wrote, went_idle, went_locked, went_none, went_fault, went_memory, idle_holds_none, locked_stays, none_received)

-- ## Unsent runes

pub went_composed : (a : LoggedView) (g : PlainTermEndpoint) (entries : List TermLog) (n : ℕ) → CanGoOn a.end → is_some a.end.term.unsent ≡ true → ComposesIn a.end (Ok tt) g
    → entries ≡ a.log ++ log.Flush ∷ [] → WentOn {A = Unit {0}} a (Ok tt) (record { end = g; log = entries; most = n })
went_composed a g entries n on unsent (ready, (term, composed, flushes, fit, after)) logged = (
  record {
    entries = log.Flush ∷ [];
    composed = composed;
    log = logged;
    users = refl;
    runs = (term, composed, [], grind arith, sym (append-nil composed), (refl, refl, ap (λ (x : PlainTermEndpoint). x.term) after));
    fit = each_of_all composed fit;
    bytes = bytes_more a.end.pending_bytes g.pending_bytes a.end.unwritten g.unwritten composed ready.1.0.unwritten (ap (λ (x : PlainTermEndpoint). x.pending_bytes) after)
        (ap (λ (x : PlainTermEndpoint). x.unwritten) after);
  },
  record {
    goes = ap (λ (x : PlainTermEndpoint). x.stop) after ∙ on.goes;
    none_waits = ap (λ (x : PlainTermEndpoint). x.waiting) after ∙ on.none_waits;
    reads = ap (λ (x : PlainTermEndpoint). x.broken_by) after ∙ on.reads;
  },
)

uncomposed : (a : LoggedView) (g : PlainTermEndpoint) (entries : List TermLog) (n : ℕ) (why : BringFault TermStop) → CanGoOn a.end → ComposesIn a.end (Err why) g → entries ≡ a.log
    → WentOn {A = Unit {0}} a (Err (of_bring_fault why)) (record { end = g; log = entries; most = n })
uncomposed a g entries n (bring.Stopped why) on (inl (stops, same)) logged = absurd (none_not_some a.end.stop why on.goes stops)
uncomposed a g entries n (bring.Stopped (cause.Refused why)) on (inr (ready, (refused, same))) logged =
    went_stopped (Unit {0}) a g entries n why (refused_flush a.end.term why refused) (inr refused) same logged
uncomposed a g entries n (bring.Stopped (cause.Stream why)) on (inr (ready, u)) logged = absurd u
uncomposed a g entries n bring.Waiting on is logged = (still_end a g entries n is.2 logged, inl refl)
uncomposed a g entries n bring.CountFull on u logged = absurd u
uncomposed a g entries n bring.OutOfMemory on is logged = (still_end a g entries n is.1.1 logged, inl refl)

pub went_uncomposed : (a : LoggedView) (g : PlainTermEndpoint) (entries : List TermLog) (n : ℕ) (why : BringFault TermStop) (s : Stop) → CanGoOn a.end → ComposesIn a.end (Err why) g
    → entries ≡ a.log → s ≡ of_bring_fault why → WentOn {A = Unit {0}} a (Err s) (record { end = g; log = entries; most = n })
went_uncomposed a g entries n why s on is logged says =
    subst (λ (x : Stop). WentOn {A = Unit {0}} a (Err x) (record { end = g; log = entries; most = n })) (sym says) (uncomposed a g entries n why on is logged)

-- what a logged rests on that composes
pub ruleset flushes_kept = (went_composed, went_uncomposed, went_memory)

-- ## An item

pub handled_user : (a b : LoggedView) (sender : ℕ) (event : UserEvent) (r : Result (Unit {0}) Stop) → sender < 2 → (r ≡ Ok tt → Did a b (event ∷ []) []) → (r ≡ Ok tt → CanGoOn b.end)
    → ((why : Stop) → r ≡ Err why → (why ≡ stop.Memory) × (b ≡ a)) → Handled a sender (User event) r b
handled_user a b sender event (Ok done) of_user did on not = (did refl, on refl, inr of_user)
handled_user a b sender event (Err why) of_user did on not =
    (still_same a b (not why refl).1, subst (λ (s : Stop). WasNotHandled a.end.term sender (User event) s) (sym (not why refl).0) tt)

not_handled : (t : PlainTerminal) (sender : ℕ) (frame : HFrame) (why : Stop) → IsRefusedWith t frame why → WasNotHandled t sender (Host frame) why
not_handled t sender frame why (inl memory) = subst (λ (s : Stop). WasNotHandled t sender (Host frame) s) (sym memory) tt
not_handled t sender frame why (inr (fault, refused, is)) =
    subst (λ (s : Stop). WasNotHandled t sender (Host frame) s) (sym is) (sender, frame, [], fault, refl, refused, refl)

pub handled_frame : (a b : LoggedView) (sender : ℕ) (frame : HFrame) (r : Result (Unit {0}) Stop) → Took a frame r b → Handled a sender (Host frame) r b
handled_frame a b sender frame (Ok done) is = (is.0, is.1, inl refl)
handled_frame a b sender frame (Err why) is = (is.0, not_handled a.end.term sender frame why is.1)

pub foreign_user : (a b : LoggedView) (sender : ℕ) (event : UserEvent) → sender < 3 → 2 ≤ sender → b ≡ a → Handled a sender (User event) (Err (stop.Frame 1)) b
foreign_user a b sender event below above same =
    let two : sender ≡ 2 = omega (arith, below, above) in
    (still_same a b same, subst (λ (n : ℕ). WasNotHandled a.end.term n (User event) (stop.Frame 1)) (sym two) (inr (event, [], refl, refl)))

pub foreign_frame : (a b : LoggedView) (sender : ℕ) (frame : HFrame) → fits_h 2 frame.msg ≡ false → b ≡ a → Handled a sender (Host frame) (Err (stop.Frame 2)) b
foreign_frame a b sender frame long same = (still_same a b same, inl (sender, frame, [], refl, long, refl))

-- what a logged rests on that handles an item
pub ruleset handles_kept = (handled_user, handled_frame, foreign_user, foreign_frame)

-- ## Pieces

pub piece_put : (a : LoggedView) (g : PlainTermEndpoint) (entries : List TermLog) (n : ℕ) (p q : PostView (Vec ℕ)) (piece : Vec ℕ) → IsNextPiece a (Some piece) → q ≡ with_item p piece
    → g ≡ record a.end { pending_bytes = drop (length piece.items) a.end.pending_bytes }
    → PutSome a.most p q (bytes_left a) (bytes_left (record { end = g; log = entries; most = n }))
piece_put a g entries n p q piece is put after =
    let rest = drop (length piece.items) a.end.pending_bytes in
    let left : bytes_left (record { end = g; log = entries; most = n }) ≡ rest ++ stream_of terminal a.end.unwritten = ap (λ (x : PlainTermEndpoint). x.pending_bytes ++ stream_of terminal x.unwritten) after in
    let front : bytes_left a ≡ piece.items ++ (rest ++ stream_of terminal a.end.unwritten) =
    ap (λ (bs : List ℕ). bs ++ stream_of terminal a.end.unwritten) is.1 ∙ append_assoc piece.items rest (stream_of terminal a.end.unwritten) in
    one_put a.most p q (bytes_left a) (bytes_left (record { end = g; log = entries; most = n })) piece put (front ∙ ap (λ (bs : List ℕ). piece.items ++ bs) (sym left)) is.0

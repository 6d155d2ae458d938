-- Edits of a client wait over open files alone.
use Rattle.std.proofs.Common.{◌≡◌, ◌≢◌, ◌⊎◌, inl, inr, ℕ, Bool, true, false, nat_eq, if◌then◌else◌, List, [], ◌∷◌, Option, Some, None, Result, Ok, Err, refl, sym, ap, subst, ◌∙◌, arith, true≢false}
use Rattle.std.proofs.lemmas.Bool.Decides.{eqb_tells}
use Rattle.sam_runes.specs.Checks.{first_of_checks}
use Rattle.sam_runes.specs.Slots.{Slots}
use Rattle.sam_pending.specs.Layers.{Layer}
use Rattle.sam_pending.specs.declared.fault.PendingFault.{PendingFault}
use Rattle.sam_pending.specs.declared.told.Dropped.{Dropped}
use Rattle.sam_term.specs.Term.{is_open, rasp_at}
use Rattle.sam_term.specs.declared.event.UserEvent.{UserEvent}
use Rattle.sam_endpoint.specs.TermEndpoints.{PlainTermEndpoint, with_event}
use Rattle.sam_endpoint.specs.TermStepping.{BringsIn, Steps}
use Rattle.sam_endpoint.specs.declared.fault.EndpointFault.{EndpointFault}
use Rattle.sam_endpoint.specs.declared.fault.TermStop.{TermStop}
use Rattle.sam_endpoint.specs.declared.step.BringFault.{BringFault}
use Rattle.sam_endpoint.specs.declared.step.BringFault.TheVariants as bring
use Rattle.sam_endpoint.specs.declared.step.TermStep.{TermStep}
use Rattle.sam_endpoint.specs.declared.step.TermStep.TheVariants as did
use Rattle.sam_link.specs.declared.hello.Id.{Id}
use Rattle.sam_overlay.specs.Calls.{Brings, CellsGo, DropsUpTo, IsFree, PlainOverlay, PutsUpTo, cells_at, new_overlay}
use Rattle.sam_overlay.specs.Effects.{Stays, cells_after}
use Rattle.sam_overlay.specs.Ordered.{ActsNext, ordered_checks}
use Rattle.sam_overlay.specs.Outcomes.{cells_in}
use Rattle.sam_overlay.specs.Overlays.{cells_of_file, edit_event, first_effect, is_received}
use Rattle.sam_overlay.specs.Requests.{put_limit}
use Rattle.sam_overlay.specs.declared.fault.AskFault.{AskFault}
use Rattle.sam_overlay.specs.declared.fault.PutFault.{PutFault}
use Rattle.sam_overlay.specs.declared.fault.PutFault.TheVariants as unput
use Rattle.sam_overlay.specs.declared.fault.ReplaceFault.{ReplaceFault}
use Rattle.sam_overlay.specs.declared.ordered.OrderedOverlay.{OrderedOverlay}
use Rattle.sam_overlay.specs.declared.shown_change.Asked.{Asked}
use Rattle.sam_overlay.specs.declared.shown_change.Asked.TheVariants as asked
use Rattle.sam_overlay.specs.declared.shown_change.OverlayStep.{OverlayStep}
use Rattle.sam_overlay.specs.declared.shown_change.Put.{Put as Became}
use Rattle.sam_overlay.specs.declared.shown_change.Put.TheVariants as became
use Rattle.sam_overlay.specs.declared.shown_change.Turn.{Turn}
use Rattle.sam_overlay.specs.declared.shown_change.Turn.TheVariants as turn
use Rattle.sam_overlay.proofs.StepLaws.{none-received}
use Rattle.sam_client.specs.Clients.{Act, Asks, Does, DoesAll, Edits, StepsOver, new_client}
use Rattle.sam_client.specs.Clients as act
use Rattle.sam_client.specs.declared.client.Client.{Client}
use Rattle.sam_attached.proofs.Opened.{Shuts, acts_keep_open, frames_shut, was_shut}

-- over a file that is not open there is nothing; a file whose edit was put is open, and no frame waits
pub record OverOpen (o : PlainOverlay) : Type 0 where
  pub closed : (f : ℕ) → f ≢ 0 → is_open o.end.term f ≡ false → cells_at o f ≡ []
  pub putting : (g : ℕ) → o.putting ≡ Some g → (is_open o.end.term g ≡ true) × (o.end.waiting ≡ [])

new_over : OverOpen new_overlay
new_over = record { closed = λ f other shut. refl; putting = λ g is. absurd cc }

-- ## Where the end or the cells stay

same_over : (o n : PlainOverlay) → n ≡ o → OverOpen o → OverOpen n
same_over o n same over = subst OverOpen (sym same) over

-- the terminal and its frames stay, and no cell comes over a file that is not open
term_over : (o n : PlainOverlay) → n.end.term.files ≡ o.end.term.files
    → ((f : ℕ) → is_open o.end.term f ≡ false → cells_at n f ≡ cells_at o f)
    → ((g : ℕ) → n.putting ≡ Some g → (is_open o.end.term g ≡ true) × (n.end.waiting ≡ [])) → OverOpen o → OverOpen n
term_over o n files cells putting over = record {
  closed = λ f other shut. let was : is_open o.end.term f ≡ false = sym (opened f) ∙ shut in cells f was ∙ over.closed f other was;
  putting = λ g is. (opened g ∙ (putting g is).0, (putting g is).1);
}
  where
    opened : (f : ℕ) → is_open n.end.term f ≡ is_open o.end.term f
    opened f = ap (λ fs. is_open (record o.end.term { files = fs }) f) files

-- an event is held besides
event_over : (o n : PlainOverlay) (event : UserEvent) → n.end ≡ with_event o.end event → n.layers ≡ o.layers
    → ((g : ℕ) → n.putting ≡ Some g → (is_open o.end.term g ≡ true) × (o.end.waiting ≡ [])) → OverOpen o → OverOpen n
event_over o n event end layers putting over =
    term_over o n (ap (λ (e : PlainTermEndpoint). e.term.files) end)
    (λ f shut. ap (λ (e : PlainTermEndpoint). cells_of_file e.term n.layers f) end ∙ ap (λ (ls : Slots Layer). cells_of_file o.end.term ls f) layers)
    (λ g is. ((putting g is).0, ap (λ (e : PlainTermEndpoint). e.waiting) end ∙ (putting g is).1))
    over

-- ## Steps

steps_shut : (e g : PlainTermEndpoint) (step : TermStep) (f : ℕ) → Steps e (Ok step) g → is_open g.term f ≡ false
    → (is_received step ≡ true → Shuts e.term (first_effect e.waiting f) f) × (is_received step ≡ false → is_open e.term f ≡ false)
steps_shut e g did.Idle f (ready, acts, same) shut = (λ no. absurd cc, λ no. ap (λ (x : PlainTermEndpoint). is_open x.term f) (sym same) ∙ shut)
steps_shut e g did.Locked f (ready, acts, same) shut = (λ no. absurd cc, λ no. ap (λ (x : PlainTermEndpoint). is_open x.term f) (sym same) ∙ shut)
steps_shut e g did.Wrote f (going, some, same) shut = (λ no. absurd cc, λ no. ap (λ (x : PlainTermEndpoint). is_open x.term f) (sym same) ∙ shut)
steps_shut e g (did.Received kind tag change) f (ready, r) shut =
    let x = r.first in (
      λ yes.
          subst (λ y. Shuts e.term y f) (sym (ap (λ frames. first_effect frames f) x.waited))
          (frames_shut e.term x.term x.frame x.composed f x.taken (ap (λ (y : PlainTermEndpoint). is_open y.term f) (sym x.after) ∙ shut)),
      λ no. absurd cc,
    )
steps_shut e g (did.Acted number tag change) f (ready, a) shut =
    let x = a.first in (
      λ no. absurd cc,
      λ no.
          was_shut e.term x.term f (acts_keep_open e.term x.term x.acted f x.acts) (ap (λ (y : PlainTermEndpoint). is_open y.term f) (sym x.after) ∙ shut),
    )
steps_shut e g (did.Refused number why) f (ready, a) shut =
    let x = a.first in (
      λ no. absurd cc,
      λ no.
          was_shut e.term x.term f (acts_keep_open e.term x.term x.acted f x.acts) (ap (λ (y : PlainTermEndpoint). is_open y.term f) (sym x.after) ∙ shut),
    )

stepped_over : (e : PlainTermEndpoint) (ls : Slots Layer) (putting limit : Option ℕ) (x : OverlayStep) (n : PlainOverlay)
    → Steps e (Ok x.step) n.end → CellsGo (record { end = e; layers = ls; putting = putting; limit = limit }) x n → n.putting ≡ None
    → OverOpen (record { end = e; layers = ls; putting = putting; limit = limit }) → OverOpen n
stepped_over e ls putting limit x n steps cells none over = record {
  closed = λ f other shut. at putting cells over f other shut (is_received x.step) refl;
  putting = λ g is. let wrong : None ≡ Some g = sym none ∙ is in absurd cc;
}
  where
    after : ℕ → Bool → Type 0
    after f b = cells_at n f ≡ cells_after (if b then first_effect e.waiting f else Stays) (cells_of_file e.term ls f)

    at : (p : Option ℕ) → CellsGo (record { end = e; layers = ls; putting = p; limit = limit }) x n
        → OverOpen (record { end = e; layers = ls; putting = p; limit = limit }) → (f : ℕ) → f ≢ 0 → is_open n.end.term f ≡ false
        → (b : Bool) → is_received x.step ≡ b → cells_at n f ≡ []
    at None go before f other shut true is =
        by ((steps_shut e n.end x.step f steps shut).0 is)
      where
        gone : after f true
        gone = subst (after f) is (go f (λ zero. absurd (other zero)))

        by : Shuts e.term (first_effect e.waiting f) f → cells_at n f ≡ []
        by (inl empties) = gone ∙ ap (λ y. cells_after y (cells_of_file e.term ls f)) empties
        by (inr (stays, was)) = gone ∙ ap (λ y. cells_after y (cells_of_file e.term ls f)) stays ∙ before.closed f other was
    at None go before f other shut false is =
        subst (after f) is (go f (λ zero. absurd (other zero))) ∙ before.closed f other ((steps_shut e n.end x.step f steps shut).1 is)
    at (Some g) (change, made, others) before f other shut b is = by (eqb_tells f g)
      where
        was : is_open e.term f ≡ false
        was = (steps_shut e n.end x.step f steps shut).1 (none-received e n.end x.step steps (before.putting g refl).1)

        by : ((nat_eq f g ≡ true) × (f ≡ g)) ⊎ ((nat_eq f g ≡ false) × (f ≢ g)) → cells_at n f ≡ []
        by (inl (b, here)) = absurd (true≢false (sym (before.putting g refl).0 ∙ subst (λ h. is_open e.term h ≡ false) here was))
        by (inr (b, apart)) = others f apart ∙ before.closed f other was

steps_over : (o n : PlainOverlay) (answer : Result OverlayStep (EndpointFault TermStop)) → StepsOver o answer n → OverOpen o → OverOpen n
steps_over o n (Ok x) (steps, cells, none, leads, texts) over =
    stepped_over o.end o.layers o.putting o.limit x n steps cells none over
steps_over o n (Err why) (steps, (layers, putting, limit), stops) over =
    term_over o n (ap (λ (e : PlainTermEndpoint). e.term.files) stops)
    (λ f shut. ap (λ (e : PlainTermEndpoint). cells_of_file e.term n.layers f) stops ∙ ap (λ (ls : Slots Layer). cells_of_file o.end.term ls f) layers)
    (λ g is.
    let was = over.putting g (sym putting ∙ is) in
    (was.0, ap (λ (e : PlainTermEndpoint). e.waiting) stops ∙ was.1))
    over

-- ## What the user does

is_open_checked : (o : OrderedOverlay) (f p q : ℕ) (s : List ℕ) → first_of_checks (ordered_checks o f p q s) ≡ None → is_open o.overlay.end.term f ≡ true
is_open_checked o f p q s free = grind (arith, free)

edits_over : (o n : OrderedOverlay) (f p q : ℕ) (s : List ℕ) (answer : Result (Unit {0}) ReplaceFault) → Edits o f p q s answer n
    → OverOpen o.overlay → OverOpen n.overlay
edits_over o n f p q s (Ok done) (tests, replaced, finds, others, end, putting, queue) over =
    term_over o.overlay n.overlay (ap (λ (e : PlainTermEndpoint). e.term.files) end) cells
    (λ g is.
    let was = over.putting g (sym putting ∙ is) in
    (was.0, ap (λ (e : PlainTermEndpoint). e.waiting) end ∙ was.1))
    over
  where
    cells : (g : ℕ) → is_open o.overlay.end.term g ≡ false → cells_at n.overlay g ≡ cells_at o.overlay g
    cells g shut = by (eqb_tells g f)
      where
        by : ((nat_eq g f ≡ true) × (g ≡ f)) ⊎ ((nat_eq g f ≡ false) × (g ≢ f)) → cells_at n.overlay g ≡ cells_at o.overlay g
        by (inl (b, here)) =
            absurd (true≢false (sym (is_open_checked o f p q s tests) ∙ subst (λ h. is_open o.overlay.end.term h ≡ false) here shut))
        by (inr (b, apart)) = others g apart
edits_over o n f p q s (Err why) (tests, same) over = same_over o.overlay n.overlay (ap (λ (x : OrderedOverlay). x.overlay) same) over

asks_over : (o n : OrderedOverlay) (event : UserEvent) (answer : Result Asked AskFault) → Asks o event answer n → OverOpen o.overlay
    → OverOpen n.overlay
asks_over o n event (Ok asked.New) asks over = same_over o.overlay n.overlay (ap (λ (x : OrderedOverlay). x.overlay) asks.asked.taken) over
asks_over o n event (Ok (asked.Shares place)) asks over =
    same_over o.overlay n.overlay (ap (λ (x : OrderedOverlay). x.overlay) asks.asked.same) over
asks_over o n event (Err why) asks over = same_over o.overlay n.overlay (ap (λ (x : OrderedOverlay). x.overlay) asks.err) over

acts_over : (o n : OrderedOverlay) (answer : Result Turn PutFault) → ActsNext o answer n → OverOpen o.overlay → OverOpen n.overlay
acts_over o n (Ok turn.Nothing) (none, same) over = same_over o.overlay n.overlay (ap (λ (x : OrderedOverlay). x.overlay) same) over
acts_over o n (Ok turn.NotYet) (yet, same) over = same_over o.overlay n.overlay (ap (λ (x : OrderedOverlay). x.overlay) same) over
acts_over o n (Ok turn.Request) acts over =
    event_over o.overlay n.overlay acts.request.event acts.brings.1 acts.keeps.0
    (λ g is. over.putting g (sym acts.keeps.1 ∙ is)) over
acts_over o n (Err (unput.Stopped why)) (stops, same) over = same_over o.overlay n.overlay (ap (λ (x : OrderedOverlay). x.overlay) same) over
acts_over o n (Err unput.TooLong) acts over = absurd acts
acts_over o n (Err unput.CountFull) (full, same) over = same_over o.overlay n.overlay (ap (λ (x : OrderedOverlay). x.overlay) same) over
acts_over o n (Err unput.OutOfMemory) same over = same_over o.overlay n.overlay (ap (λ (x : OrderedOverlay). x.overlay) same) over

is_open_free : (e : PlainTermEndpoint) (f : ℕ) → IsFree e f → is_open e.term f ≡ true
is_open_free e f free = grind (arith, free.free)

puts_over : (m : Option ℕ) (o n : PlainOverlay) (f : ℕ) (answer : Result Became PutFault) → PutsUpTo m o f answer n → OverOpen o → OverOpen n
puts_over m o n f (Ok became.Nothing) (rests, end, putting, none, cells) over =
    term_over o n (ap (λ (e : PlainTermEndpoint). e.term.files) end) (λ g shut. cells g)
    (λ g is.
    let was = over.putting g (sym putting ∙ is) in
    (was.0, ap (λ (e : PlainTermEndpoint). e.waiting) end ∙ was.1))
    over
puts_over m o n f (Ok became.NotFree) (same, not) over = same_over o n same over
puts_over m o n f (Ok became.Edit) (free, l, e, waits, next, brings, layers, putting) over =
    event_over o n (edit_event f e) brings.1 layers
    (λ g is.
    let same : f ≡ g = grind (arith, putting, is) in
    subst (λ h. (is_open o.end.term h ≡ true) × (o.end.waiting ≡ [])) same (is_open_free o.end f free, free.done.0.waiting))
    over
puts_over m o n f (Err (unput.Stopped why)) (stops, same) over = same_over o n same over
puts_over m o n f (Err unput.TooLong) (l, waits, full, same) over = same_over o n same over
puts_over m o n f (Err unput.CountFull) (full, same) over = same_over o n same over
puts_over m o n f (Err unput.OutOfMemory) same over = same_over o n same over

drops_over : (m : Option ℕ) (o n : PlainOverlay) (f : ℕ) (answer : Result (Option Dropped) PendingFault) → DropsUpTo m o f answer n
    → OverOpen o → OverOpen n
drops_over m o n f (Ok None) (same, not) over = same_over o n same over
drops_over m o n f (Ok (Some d)) (none, free, drops, others, end, puts) over =
    term_over o n (ap (λ (e : PlainTermEndpoint). e.term.files) end) cells
    (λ g is.
    let was = over.putting g (sym puts ∙ is) in
    (was.0, ap (λ (e : PlainTermEndpoint). e.waiting) end ∙ was.1))
    over
  where
    cells : (g : ℕ) → is_open o.end.term g ≡ false → cells_at n g ≡ cells_at o g
    cells g shut = by (eqb_tells g f)
      where
        by : ((nat_eq g f ≡ true) × (g ≡ f)) ⊎ ((nat_eq g f ≡ false) × (g ≢ f)) → cells_at n g ≡ cells_at o g
        by (inl (b, here)) =
            absurd (true≢false (sym (is_open_free o.end f free) ∙ subst (λ h. is_open o.end.term h ≡ false) here shut))
        by (inr (b, apart)) =
            ap (λ (e : PlainTermEndpoint). cells_of_file e.term n.layers g) end ∙ ap (λ l. cells_in (rasp_at o.end.term g) l) (others g apart)
drops_over m o n f (Err why) (memory, same) over = same_over o n same over

-- ## The host's stream

brings_over : (e : PlainTermEndpoint) (ls : Slots Layer) (putting limit : Option ℕ) (n : PlainOverlay) (bytes : List ℕ)
    (answer : Result (Unit {0}) (BringFault TermStop)) → Brings (record { end = e; layers = ls; putting = putting; limit = limit }) bytes answer n
    → OverOpen (record { end = e; layers = ls; putting = putting; limit = limit }) → OverOpen n
brings_over e ls None limit n bytes (Ok done) ((ready, (frames, broken_by, rest, gives, same)), (layers, putting, kept)) over =
    term_over (record { end = e; layers = ls; putting = None; limit = limit }) n (ap (λ (x : PlainTermEndpoint). x.term.files) same)
    (λ f shut. ap (λ (x : PlainTermEndpoint). cells_of_file x.term n.layers f) same ∙ ap (λ (l : Slots Layer). cells_of_file e.term l f) layers)
    (λ g is. let wrong : None ≡ Some g = sym putting ∙ is in absurd cc)
    over
brings_over e ls None limit n bytes (Err why) (brings, (layers, putting, kept)) over =
    term_over (record { end = e; layers = ls; putting = None; limit = limit }) n (ap (λ (x : PlainTermEndpoint). x.term.files) (stays why brings))
    (λ f shut.
    ap (λ (x : PlainTermEndpoint). cells_of_file x.term n.layers f) (stays why brings)
    ∙ ap (λ (l : Slots Layer). cells_of_file e.term l f) layers)
    (λ g is. let wrong : None ≡ Some g = sym putting ∙ is in absurd cc)
    over
  where
    stays : (why : BringFault TermStop) → BringsIn e bytes (Err why) n.end → n.end ≡ e
    stays (bring.Stopped why) b = b.1
    stays bring.Waiting b = b.2
    stays bring.CountFull b = b.2
    stays bring.OutOfMemory b = b.2
brings_over e ls (Some f) limit n bytes (Ok done) brings over = absurd brings
brings_over e ls (Some f) limit n bytes (Err why) (not, same) over =
    same_over (record { end = e; layers = ls; putting = Some f; limit = limit }) n same over

-- ## All acts

abbrev overlay_in : Client → PlainOverlay
overlay_in c = c.ordered.overlay

pub act_over : (c n : Client) (a : Act) → Does c a n → OverOpen c.ordered.overlay → OverOpen n.ordered.overlay
act_over c n (act.OfLine call) (alone, does, same) over = same_over (overlay_in c) (overlay_in n) (ap overlay_in same) over
act_over c n (act.Replace f p q s answer) (edits, same) over = edits_over c.ordered n.ordered f p q s answer edits over
act_over c n (act.Request event answer) (asks, same) over = asks_over c.ordered n.ordered event answer asks over
act_over c n (act.TakeBack f answer) ((drops, cells), same) over =
    drops_over (put_limit c.ordered.queue f) (overlay_in c) (overlay_in n) f answer drops over
act_over c n (act.TellRefusal oldest) (is, same) over =
    subst OverOpen (sym (ap overlay_in same)) (record { closed = over.closed; putting = over.putting })
act_over c n (act.Step answer) (steps, same) over = steps_over (overlay_in c) (overlay_in n) answer steps over
act_over c n (act.ActNext answer) (acts, same) over = acts_over c.ordered n.ordered answer acts over
act_over c n (act.PutEdit f answer) (puts, same) over =
    puts_over (put_limit c.ordered.queue f) (overlay_in c) (overlay_in n) f answer puts over
act_over c n (act.Send bytes now (Ok done)) (is, does, same) over =
    subst OverOpen (sym (ap overlay_in same)) (record { closed = over.closed; putting = over.putting })
act_over c n (act.Send bytes now (Err why)) (is, does, same) over = same_over (overlay_in c) (overlay_in n) (ap overlay_in same) over
act_over c n (act.SendNote bytes now answer) (none, does, same) over = same_over (overlay_in c) (overlay_in n) (ap overlay_in same) over
act_over c n (act.Fetch bytes) (got, is, same) over = same_over (overlay_in c) (overlay_in n) (ap overlay_in same) over
act_over c n (act.Bring bytes (Ok done)) (is, brings, same) over =
    brings_over c.ordered.overlay.end c.ordered.overlay.layers c.ordered.overlay.putting c.ordered.overlay.limit n.ordered.overlay bytes (Ok tt) brings over
act_over c n (act.Bring bytes (Err why)) (is, brings, same) over =
    brings_over c.ordered.overlay.end c.ordered.overlay.layers c.ordered.overlay.putting c.ordered.overlay.limit n.ordered.overlay bytes (Err why) brings over
act_over c n (act.FetchNote None) (got, none, same) over = same_over (overlay_in c) (overlay_in n) (ap overlay_in same) over
act_over c n (act.FetchNote (Some note)) (got, given, same) over = same_over (overlay_in c) (overlay_in n) (ap overlay_in same) over
act_over c n (act.AskHost now answer) (does, same) over = same_over (overlay_in c) (overlay_in n) (ap overlay_in same) over

acts_all_over : (c n : Client) (acts : List Act) → DoesAll c acts n → OverOpen c.ordered.overlay → OverOpen n.ordered.overlay
acts_all_over c n [] same over = same_over (overlay_in c) (overlay_in n) (ap overlay_in same) over
acts_all_over c n (a ∷ acts) (m, does, rest) over = acts_all_over m n acts rest (act_over c m a does over)

pub waits_over_open : (id : Id) (take_over : Bool) (now : ℕ) (acts : List Act) (n : Client) → DoesAll (new_client id take_over now) acts n
    → OverOpen n.ordered.overlay
waits_over_open id take_over now acts n does = acts_all_over (new_client id take_over now) n acts does new_over

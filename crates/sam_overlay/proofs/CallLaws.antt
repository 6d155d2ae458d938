-- What the calls of an overlay rest on.
use Rattle.std.proofs.Common.{Option, Result, ◌≡◌, ◌≢◌, refl, sym, ap, ◌∙◌, subst, ℕ, ◌+◌, ◌-◌, ◌≤◌, ◌<◌, ◌⊎◌, inl, inr, Bool, true, false, not, nat_eq, if◌then◌else◌, List, [], ◌∷◌, ◌++◌, length, map, take, drop, Some, None, Ok, Err, arith, option_map, is_some, length-take, length-take-le, length-drop, take-append-drop}
use Rattle.std.specs.Prelude.{All, MatchOption, OnOk, max, set, slice_index_or}
use Rattle.std.proofs.lemmas.Bool.Decides.{eqb_tells}
use Rattle.sam_runes.specs.Checks.{first_of_checks}
use Rattle.sam_runes.specs.Slots.{Slots, slot}
use Rattle.sam_runes.specs.Texts.{max_runes}
use Rattle.sam_runes.specs.declared.edit.Edit.{Edit}
use Rattle.sam_pending.specs.Cells.{PartialText, Cell, IsNewest, IsUpTo, IsTakenBack, in_rasp, rasp_of, replaced, resting, shown_of}
use Rattle.sam_pending.specs.Layers.{Layer, IsOver, cells_over, first_dropped, next_edit, next_made, rasp_length, runs_of, shown_length, shown_members}
use Rattle.sam_pending.specs.Runs.{cells_of, edit_at, held, runes_of, typed_by, first_due, is_due, made_first, made_run, next_deed, rests, room, rooms}
use Rattle.sam_pending.specs.declared.run.Deed.{Deed}
use Rattle.sam_pending.specs.declared.run.Run.{Run}
use Rattle.sam_pending.specs.declared.run.Run.TheVariants.{Held, Typed}
use Rattle.sam_pending.specs.declared.told.Dropped.{Dropped}
use Rattle.sam_pending.specs.declared.told.Shown.{Shown}
use Rattle.sam_pending.proofs.CellLaws.{members-append, rasp_resting, shown_resting, shown_replaced, rasp_replaced}
use Rattle.sam_pending.proofs.DueLaws.{made_texts}
use Rattle.sam_pending.proofs.FirstLaws.{flat_made}
use Rattle.sam_pending.proofs.LayerLaws.{all-rest}
use Rattle.sam_term.specs.Term.{PlainTerminal, event_checks, is_open, rasp_at, window_of}
use Rattle.sam_term.specs.declared.event.UserEvent.{UserEvent}
use Rattle.sam_term.specs.declared.records.Window.{Window}
use Rattle.sam_endpoint.specs.TermEndpoints.{PlainTermEndpoint, with_event}
use Rattle.sam_endpoint.specs.TermStepping.{BringsEvent}
use Rattle.sam_endpoint.specs.declared.fault.TermStop.{TermStop}
use Rattle.sam_endpoint.specs.declared.step.BringFault.{BringFault}
use Rattle.sam_endpoint.specs.declared.step.BringFault.TheVariants as bring
use Rattle.sam_endpoint.specs.declared.step.TermStep.{TermStep}
use Rattle.sam_overlay.specs.Calls.{HoldsOnly, IsFree, IsShownFrom, IsSound, PlainOverlay, PutsUpTo, RestsShow, is_free}
use Rattle.sam_overlay.specs.Outcomes.{IsOverRasp, LayerDrops, LayerReplaces, Leads, Replaces, ReplacesFrom, TypedShows, cells_in, has_edit}
use Rattle.sam_overlay.specs.Overlays.{AreOver, AreRequests, Brought, cells_of_file, edit_event, is_request, told_at}
use Rattle.sam_overlay.specs.Setting.{Sets}
use Rattle.sam_overlay.specs.declared.fault.PutFault.{PutFault}
use Rattle.sam_overlay.specs.declared.fault.PutFault.TheVariants as unput
use Rattle.sam_overlay.specs.declared.layers.Place.{Place}
use Rattle.sam_overlay.specs.declared.shown_change.OverlayStep.{OverlayStep}
use Rattle.sam_overlay.specs.declared.shown_change.Told.TheVariants as told
use Rattle.sam_overlay.proofs.SlotSteps.{slot-set_same}
use Rattle.sam_overlay.proofs.StepLaws.{told-nothing}

-- ## Edits of the user

newer : (g h : ℕ) (o : Option ℕ) → IsUpTo g o → IsUpTo (max g h) o
newer g h None is = tt
newer g h (Some b) is = omega (arith, is)

newer-cell : (g h : ℕ) (c : Cell) → IsNewest g c → IsNewest (max g h) c
newer-cell g h c is = (newer g h c.born is.0, newer g h c.died is.1)

pub newer-all : (g h : ℕ) (cs : List Cell) → All (IsNewest g) cs → All (IsNewest (max g h)) cs
newer-all g h cs all k c l = newer-cell g h (slice_index_or cs k c) (all k c l)

pub replaces_layer : (l k : Layer) (g n : ℕ) (e : Place) (s : List ℕ) → ((r : PartialText) → All (IsNewest g) (cells_over r l))
    → ((r : PartialText) → IsOver r l → cells_over r k ≡ replaced (max g e.group) e.p e.q s (cells_over r l)) → rasp_length k ≡ rasp_length l
    → LayerReplaces n (Some l) e s (Some k)
replaces_layer l k g n e s newest cells size r many over =
    (size ∙ over, record { group = max g e.group; from = omega arith; newest = newer-all g e.group (cells_over r l) (newest r); cells = cells r over })

pub new_replaces : (l k : Layer) (n : ℕ) (e : Place) (s : List ℕ) → rasp_length l ≡ n → ((r : PartialText) → IsOver r l → cells_over r l ≡ resting r)
    → ((m : ℕ) → LayerReplaces m (Some l) e s (Some k)) → LayerReplaces n None e s (Some k)
new_replaces l k n e s size rests made r many over =
    let over_l : IsOver r l = size ∙ sym many in
    let x = made n r many over_l in
    (x.0, subst (λ cs. ReplacesFrom e.group cs e.p e.q s (cells_over r k)) (rests r over_l) x.1)

pub any_replaces : {E : Type 0} (result : Result (Unit {0}) E) (g p q : ℕ) (s : List ℕ) (cs ds : List Cell) → OnOk result (ReplacesFrom g cs p q s ds) → OnOk result (Replaces cs p q s ds)
any_replaces (Ok done) g p q s cs ds h = record { group = h.group; newest = h.newest; cells = h.cells }
any_replaces (Err why) g p q s cs ds h = tt

-- ## Requests

more-requests : (es : List UserEvent) (x : UserEvent) → AreRequests es → is_request x ≡ true → AreRequests (es ++ x ∷ [])
more-requests [] x all is = (is, tt)
more-requests (e ∷ es) x all is = (all.0, more-requests es x all.1 is)

pub asked_sound : (e g : PlainTermEndpoint) (ls : Slots Layer) (p m : Option ℕ) (x : UserEvent) (result : Result (Unit {0}) (BringFault TermStop))
    → p ≡ None → slot ls 0 ≡ None → HoldsOnly e ls m p → AreOver e.term ls → is_request x ≡ true → BringsEvent e x result g
    → IsSound (record { end = g; layers = ls; putting = p; limit = m })
asked_sound e g ls p m x result none command holds over is brings =
    subst (λ o. IsSound (record { end = g; layers = ls; putting = o; limit = m })) (sym none) (go result brings)
  where
    all : AreRequests e.term.held
    all = subst (HoldsOnly e ls m) none holds

    as_before : g ≡ e → IsSound (record { end = g; layers = ls; putting = None; limit = m })
    as_before same =
        subst (λ (h : PlainTermEndpoint). IsSound (record { end = h; layers = ls; putting = None; limit = m })) (sym same) (record { over = over; command = command; holds = all })

    go : (result : Result (Unit {0}) (BringFault TermStop)) → BringsEvent e x result g → IsSound (record { end = g; layers = ls; putting = None; limit = m })
    go (Ok done) b =
        subst (λ (h : PlainTermEndpoint). IsSound (record { end = h; layers = ls; putting = None; limit = m })) (sym b.1)
        (record { over = over; command = command; holds = more-requests e.term.held x all is })
    go (Err (bring.Stopped why)) b = as_before b.1
    go (Err bring.Waiting) b = absurd b
    go (Err bring.CountFull) b = as_before b.2
    go (Err bring.OutOfMemory) b = as_before b.2

-- ## Steps of an edit

pub brought_told : (e g : PlainTermEndpoint) (ls ks : Slots Layer) (m : Option ℕ) (h : ℕ) (step : TermStep) (x : OverlayStep) (f : ℕ) → Brought e ls m h g ks
    → x ≡ record { step = step; tag = 0; told = told.Nothing }
    → Leads (told_at x f) (shown_of (cells_of_file e.term ls f)) (shown_of (cells_of_file g.term ks f))
brought_told e g ls ks m h step x f b is =
    subst (λ (y : OverlayStep). Leads (told_at y f) (shown_of (cells_of_file e.term ls f)) (shown_of (cells_of_file g.term ks f))) (sym is)
    (subst (λ y. Leads y (shown_of (cells_of_file e.term ls f)) (shown_of (cells_of_file g.term ks f))) (sym (told-nothing step 0 f)) (go (eqb_tells h f)))
  where
    go : ((nat_eq h f ≡ true) × (h ≡ f)) ⊎ ((nat_eq h f ≡ false) × (h ≢ f)) → shown_of (cells_of_file g.term ks f) ≡ shown_of (cells_of_file e.term ls f)
    go (inl (t, here)) =
        subst (λ k. shown_of (cells_of_file g.term ks k) ≡ shown_of (cells_of_file e.term ls k)) here (made_texts (cells_of_file e.term ls h) b.change (cells_of_file g.term ks h) b.made).0
    go (inr (t, other)) = ap shown_of (b.others f (λ q. other (sym q)))

-- ## Readers

pub open-rasp : (t : PlainTerminal) (f : ℕ) (r : PartialText) → Some r ≡ option_map (λ (w : Window). w.rasp) (window_of t f) → (is_open t f ≡ true) × (rasp_at t f ≡ r)
open-rasp t f r is = go (window_of t f) refl
  where
    go : (o : Option Window) → window_of t f ≡ o → (is_open t f ≡ true) × (rasp_at t f ≡ r)
    go None w =
        let wrong : Some r ≡ None = is ∙ ap (option_map (λ (x : Window). x.rasp)) w in
        absurd cc
    go (Some x) w =
        let same : Some r ≡ Some x.rasp = is ∙ ap (option_map (λ (y : Window). y.rasp)) w in
        grind (arith, w, same)

pub shown-resting : (r : PartialText) → length (shown_of (resting r)) ≡ length r
shown-resting r = ap length (shown_resting r)

pub ruleset shown_facts = (open-rasp, shown-resting)

-- ## The next edit

made-rooms : (w : Deed) (xs : List Run) (n : ℕ) (x : Run) (at : ℕ) → first_due w n xs ≡ Some (x, at)
    → (rooms (made_first w xs) + room x ≡ rooms xs + room (made_run x)) × (at + room x ≤ n + rooms xs)
made-rooms w [] n x at is = absurd cc
made-rooms w (y ∷ xs) n x at is = step (is_due w y) (made-rooms w xs (n + room y) x at) is
  where
    step : (b : Bool) → (first_due w (n + room y) xs ≡ Some (x, at) → (rooms (made_first w xs) + room x ≡ rooms xs + room (made_run x)) × (at + room x ≤ n + room y + rooms xs))
        → (if b then Some (y, n) else first_due w (n + room y) xs) ≡ Some (x, at)
        → (rooms (if b then made_run y ∷ xs else y ∷ made_first w xs) + room x ≡ room y + rooms xs + room (made_run x)) × (at + room x ≤ n + (room y + rooms xs))
    step true rest q =
        let same : (y ≡ x) × (n ≡ at) = grind (arith, q) in
        let rx : room y ≡ room x = ap room same.0 in
        let mx : room (made_run y) ≡ room (made_run x) = ap (λ z. room (made_run z)) same.0 in
        (omega (arith, rx, mx), omega (arith, rx, same.1))
    step false rest q =
        let r = rest q in
        (omega (arith, r.0), omega (arith, r.1))

-- an edit at a run, and the room that it makes or takes
edit-size : (t : List ℕ) (n : ℕ) (x : Run) → ((edit_at t n x).p ≤ (edit_at t n x).q) × ((edit_at t n x).q ≤ n + room x)
    × ((edit_at t n x).q - (edit_at t n x).p ≡ room x) × (length (edit_at t n x).text ≤ room (made_run x))
edit-size t n (Held k d) = (omega arith, omega arith, omega arith, omega arith)
edit-size t n (Typed s g d) = (omega arith, omega arith, omega arith, omega (arith, length-take s.count (drop s.start t)))

record Fits (m : Option ℕ) (l : Layer) (e : Edit) : Type 0 where
  up : e.p ≤ e.q
  within : e.q ≤ rasp_length l
  room : rasp_length l - (e.q - e.p) + length e.text ≤ rasp_length (next_made m l)

next-fits : (m : Option ℕ) (l : Layer) (e : Edit) → next_edit m l ≡ Some e → Fits m l e
next-fits m l e is = go (first_due (next_deed m (runs_of l)) 0 (runs_of l)) refl is
  where
    go : (o : Option (Run × ℕ)) → first_due (next_deed m (runs_of l)) 0 (runs_of l) ≡ o → option_map (λ x. edit_at l.text x.1 x.0) o ≡ Some e → Fits m l e
    go None due q = absurd cc
    go (Some x) due q =
        let same : edit_at l.text x.1 x.0 ≡ e = grind (arith, q) in
        let d = made-rooms (next_deed m (runs_of l)) (runs_of l) 0 x.0 x.1 due in
        let made : rasp_length (next_made m l) ≡ rooms (made_first (next_deed m (runs_of l)) (runs_of l)) = ap rooms (flat_made (next_deed m (runs_of l)) l.blocks) in
        let s = edit-size l.text x.1 x.0 in
        subst (Fits m l) same
        (record {
          up = s.0;
          within = omega (arith, s.1, d.1);
          room = omega (arith, s.2, s.3, d.0, d.1, made);
        })

-- a free file takes the next edit of what waits over it
free-takes : (t : PlainTerminal) (f : ℕ) (m : Option ℕ) (l : Layer) (x : Edit) → is_free t f ≡ true → IsOver (rasp_at t f) l → Fits m l x → rasp_length (next_made m l) ≤ max_runes
    → first_of_checks (event_checks t (edit_event f x)) ≡ None
free-takes t f m l x free over fits most =
    let up : x.p ≤ x.q = fits.up in
    let within : x.q ≤ length (rasp_at t f) = omega (arith, over, fits.within) in
    let size : length (rasp_at t f) - (x.q - x.p) + length x.text ≤ max_runes = omega (arith, over, fits.room, most) in
    grind (arith, free, up, within, size)

pub put_sound : (e g : PlainTermEndpoint) (ls : Slots Layer) (f : ℕ) (m : Option ℕ) (l : Layer) (x : Edit) → IsFree e f → slot ls 0 ≡ None → AreOver e.term ls → slot ls f ≡ Some l
    → next_edit m l ≡ Some x → rasp_length (next_made m l) ≤ max_runes → g ≡ with_event e (edit_event f x)
    → IsSound (record { end = g; layers = ls; putting = Some f; limit = m })
put_sound e g ls f m l x free command over waits next room is =
    subst (λ (h : PlainTermEndpoint). IsSound (record { end = h; layers = ls; putting = Some f; limit = m })) (sym is)
    (record {
      over = over;
      command = command;
      holds = record {
        layer = l;
        edit = x;
        waits = waits;
        next = next;
        room = room;
        held = ap (λ es. es ++ edit_event f x ∷ []) free.none_held;
        waiting = free.done.0.waiting;
        unwritten = free.done.0.unwritten;
        free = free-takes e.term f m l x free.free (subst (IsOverRasp (rasp_at e.term f)) waits (over f)) (next-fits m l x next) room;
      };
    })

-- ## The rasp of cells

rasp-held : (d : Option ℕ) (r : PartialText) → rasp_of (map (held d) r) ≡ r
rasp-held d [] = refl
rasp-held d (m ∷ r) = ap (λ rest. m ∷ rest) (rasp-held d r)

rasp-typed : (g : ℕ) (d : Option ℕ) (s : List ℕ) → rasp_of (map (typed_by g d) s) ≡ []
rasp-typed g d [] = refl
rasp-typed g d (c ∷ s) = rasp-typed g d s

pub rasp-runs : (t : List ℕ) (r : PartialText) (xs : List Run) → rooms xs ≡ length r → rasp_of (cells_of t r xs) ≡ r
rasp-runs t [] [] e = refl
rasp-runs t (m ∷ r) [] e = absurd (omega (arith, e))
rasp-runs t r (Held n d ∷ xs) e =
    members-append in_rasp (map (held d) (take n r)) (cells_of t (drop n r) xs)
    ∙ (ap (λ a. a ++ rasp_of (cells_of t (drop n r) xs)) (rasp-held d (take n r))
    ∙ (ap (λ a. take n r ++ a) (rasp-runs t (drop n r) xs (omega (arith, e, length-drop n r))) ∙ take-append-drop n r))
rasp-runs t r (Typed s g d ∷ xs) e =
    members-append in_rasp (map (typed_by g d) (runes_of t s)) (cells_of t r xs)
    ∙ (ap (λ a. a ++ rasp_of (cells_of t r xs)) (rasp-typed g d (runes_of t s)) ∙ rasp-runs t r xs (omega (arith, e)))

pub rasp_of_file : (t : PlainTerminal) (ls : Slots Layer) (f : ℕ) → AreOver t ls → rasp_of (cells_of_file t ls f) ≡ rasp_at t f
rasp_of_file t ls f over = go (slot ls f) (over f)
  where
    go : (o : Option Layer) → IsOverRasp (rasp_at t f) o → rasp_of (cells_in (rasp_at t f) o) ≡ rasp_at t f
    go None h = rasp_resting (rasp_at t f)
    go (Some l) h = rasp-runs l.text (rasp_at t f) (runs_of l) h

-- ## What is read

pub rasp_read : (r : PartialText) (p : ℕ) → p < length r → IsShownFrom p r (take (length r - p) (drop p r))
rasp_read r p l =
    let size : length (take (length r - p) (drop p r)) ≡ length r - p = omega (arith, length-take-le (length r - p) (drop p r) (omega (arith, length-drop p r))) in
    (omega (arith, size, l), ap (λ n. take n (drop p r)) size)

pub pending_read : (l : Layer) (p : ℕ) (x : Option Shown) → p < shown_length l
    → MatchOption x (shown_length l ≤ p) (λ y. (r : PartialText) → IsOver r l → IsShownFrom p (shown_of (cells_over r l)) (shown_members r y))
    → (r : PartialText) → IsOver r l → MatchOption x (length (shown_of (cells_over r l)) ≤ p) (λ y. IsShownFrom p (shown_of (cells_over r l)) (shown_members r y))
pending_read l p None before h r over = absurd (omega (arith, before, h))
pending_read l p (Some y) before h r over = h r over

pub read_over : (t : PlainTerminal) (ls : Slots Layer) (f p : ℕ) (l : Layer) (x : Option Shown) → slot ls f ≡ Some l → AreOver t ls
    → ((r : PartialText) → IsOver r l → MatchOption x (length (shown_of (cells_over r l)) ≤ p) (λ y. IsShownFrom p (shown_of (cells_over r l)) (shown_members r y)))
    → MatchOption x ((is_open t f ≡ false) ⊎ (length (shown_of (cells_of_file t ls f)) ≤ p)) (λ y. IsShownFrom p (shown_of (cells_of_file t ls f)) (shown_members (rasp_at t f) y))
read_over t ls f p l None is over h =
    let r : PartialText = rasp_at t f in
    inr (subst (λ o. length (shown_of (cells_in r o)) ≤ p) (sym is) (h r (subst (IsOverRasp r) is (over f))))
read_over t ls f p l (Some y) is over h =
    let r : PartialText = rasp_at t f in
    subst (λ o. IsShownFrom p (shown_of (cells_in r o)) (shown_members r y)) (sym is) (h r (subst (IsOverRasp r) is (over f)))

pub ruleset reading_facts = (open-rasp, shown_resting)

pub rests_show : RestsShow
rests_show o f none = ap (λ x. shown_of (cells_in (rasp_at o.end.term f) x)) none ∙ shown_resting (rasp_at o.end.term f)

pub typed_shows : TypedShows
typed_shows cs ds p q s up h =
    (ap shown_of h.cells ∙ shown_replaced cs h.group p q s up, ap rasp_of h.cells ∙ rasp_replaced cs h.group p q s up)

pub held_none : (es : List UserEvent) → length es ≡ 0 → es ≡ []
held_none [] is = refl
held_none (e ∷ es) is = absurd (omega (arith, is))

pub free_by : (t : PlainTerminal) (f : ℕ) → is_some (option_map (λ (w : Window). w.rasp) (window_of t f)) ≡ is_open t f
free_by t f = go (window_of t f)
  where
    go : (o : Option Window) → is_some (option_map (λ (w : Window). w.rasp) o) ≡ is_some o
    go None = refl
    go (Some w) = refl

pub replaced_at : {E : Type 0} (ss : Slots Layer) (f n : ℕ) (e : Place) (s : List ℕ) (o k : Option Layer) (result : Result (Unit {0}) E) → f < length ss → slot ss f ≡ o
    → OnOk result ((m : ℕ) → LayerReplaces m o e s k) → OnOk result (LayerReplaces n (slot ss f) e s (slot (set ss f k) f))
replaced_at ss f n e s o k (Ok done) l is h =
    subst (λ z. LayerReplaces n z e s (slot (set ss f k) f)) (sym is) (subst (λ z. LayerReplaces n o e s z) (sym (slot-set_same ss f k l)) (h n))
replaced_at ss f n e s o k (Err why) l is h = tt

pub command_rests : (t : PlainTerminal) (ls : Slots Layer) → slot ls 0 ≡ None → cells_of_file t ls 0 ≡ resting (rasp_at t 0)
command_rests t ls none = ap (cells_in (rasp_at t 0)) none

-- nothing waits over the command file as another file is set, or this one is freed
pub command_stays : (ls ks : Slots Layer) (f : ℕ) → slot ls 0 ≡ None → f ≢ 0 → ((g : ℕ) → g ≢ f → slot ks g ≡ slot ls g) → slot ks 0 ≡ None
command_stays ls ks f none other others = others 0 (λ is. other (sym is)) ∙ none

pub command_freed : (ls ks : Slots Layer) (f : ℕ) → slot ls 0 ≡ None → Sets ls f None ks → slot ks 0 ≡ None
command_freed ls ks f none sets = go (eqb_tells f 0)
  where
    go : ((nat_eq f 0 ≡ true) × (f ≡ 0)) ⊎ ((nat_eq f 0 ≡ false) × (f ≢ 0)) → slot ks 0 ≡ None
    go (inl (b, is)) = subst (λ g. slot ks g ≡ None) is sets.0
    go (inr (b, other)) = command_stays ls ks f none other sets.1

pub ruleset replace_facts = (open-rasp, command_stays)

pub ruleset refusal_facts = (open-rasp)

-- ## What waits

at-rest : (b : Bool) → not b ≡ false → b ≡ true
at-rest true is = refl
at-rest false is = absurd cc

pub rests_cells : (t : PlainTerminal) (ls : Slots Layer) (f : ℕ) → AreOver t ls → has_edit (slot ls f) ≡ false → cells_of_file t ls f ≡ resting (rasp_at t f)
rests_cells t ls f over none = go (slot ls f) (over f) none
  where
    go : (o : Option Layer) → IsOverRasp (rasp_at t f) o → has_edit o ≡ false → cells_in (rasp_at t f) o ≡ resting (rasp_at t f)
    go None h is = refl
    go (Some l) h is = all-rest (runs_of l) l.text (rasp_at t f) (at-rest (rests (runs_of l)) is) h

-- ## Runes that are taken back

pub dropped_sound : (e : PlainTermEndpoint) (ls ks : Slots Layer) (f : ℕ) (m u : Option ℕ) (d : Dropped) → HoldsOnly e ls m None → slot ls 0 ≡ None → AreOver e.term ls
    → LayerDrops u (slot ls f) (Ok (Some d)) (slot ks f) → ((g : ℕ) → g ≢ f → slot ks g ≡ slot ls g)
    → IsSound (record { end = e; layers = ks; putting = None; limit = m })
dropped_sound e ls ks f m u d holds command over drops others = record { over = over_all; command = first; holds = holds }
  where
    first : slot ks 0 ≡ None
    first = go (eqb_tells 0 f)
      where
        go : ((nat_eq 0 f ≡ true) × (0 ≡ f)) ⊎ ((nat_eq 0 f ≡ false) × (0 ≢ f)) → slot ks 0 ≡ None
        go (inl (b, is)) =
            let wrong : Some drops.1.0 ≡ None = sym drops.1.1 ∙ (ap (slot ls) (sym is) ∙ command) in
            absurd cc
        go (inr (b, other)) = others 0 other ∙ command

    r : PartialText
    r = rasp_at e.term f

    l : Layer
    l = drops.1.0

    there : IsOver r (first_dropped u l)
    there = drops.1.2.over r (subst (IsOverRasp r) drops.1.1 (over f))

    over_all : AreOver e.term ks
    over_all g = go (eqb_tells g f)
      where
        go : ((nat_eq g f ≡ true) × (g ≡ f)) ⊎ ((nat_eq g f ≡ false) × (g ≢ f)) → IsOverRasp (rasp_at e.term g) (slot ks g)
        go (inl (b, is)) =
            subst (λ h. IsOverRasp (rasp_at e.term h) (slot ks h)) (sym is) (subst (IsOverRasp r) (sym drops.1.3) there)
        go (inr (b, other)) = subst (IsOverRasp (rasp_at e.term g)) (sym (others g other)) (over g)

pub dropped_cells : (t : PlainTerminal) (ls ks : Slots Layer) (f : ℕ) (u : Option ℕ) (d : Dropped) → AreOver t ls → LayerDrops u (slot ls f) (Ok (Some d)) (slot ks f)
    → IsTakenBack (cells_of_file t ls f) d.place d.count d.text (cells_of_file t ks f)
dropped_cells t ls ks f u d over drops =
    let r : PartialText = rasp_at t f in
    let l : Layer = drops.1.0 in
    subst (λ o. IsTakenBack (cells_in r o) d.place d.count d.text (cells_of_file t ks f)) (sym drops.1.1)
    (subst (λ o. IsTakenBack (cells_over r l) d.place d.count d.text (cells_in r o)) (sym drops.1.3)
    (drops.1.2.cells r (subst (IsOverRasp r) drops.1.1 (over f))))

pub ruleset drop_facts = (dropped_sound, dropped_cells)

-- why the next edit isn't put
pub put_refused : (m : Option ℕ) (o : PlainOverlay) (f : ℕ) (l : Layer) (why : PutFault) → slot o.layers f ≡ Some l
    → ((why ≡ unput.TooLong) × (max_runes < rasp_length (next_made m l))) ⊎ (why ≡ unput.OutOfMemory) → PutsUpTo m o f (Err why) o
put_refused m o f l why is (inl t) = subst (λ w. PutsUpTo m o f (Err w) o) (sym t.0) (l, is, t.1, refl)
put_refused m o f l why is (inr t) = subst (λ w. PutsUpTo m o f (Err w) o) (sym t) refl

pub ruleset put_facts = (put_sound, command_freed)

pub ruleset fact_laws = (rasp_of_file, command_rests, rests_cells)

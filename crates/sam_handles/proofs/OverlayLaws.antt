-- What the calls of an overlay rest on.
use Rattle.core.specs.Option.{option_flatten}
use Rattle.std.proofs.Common.{◌≡◌, ◌∙◌, refl, sym, ap, ℕ, zero, suc, ◌<◌, ◌≤◌, ◌⊎◌, false, List, [], ◌∷◌, length, take, drop, map, Option, Some, None, slice_get, option_map, arith}
use Rattle.sam_mesg.proofs.Shapes.{entry_none}
use Rattle.sam_pending.specs.Cells.{PartialText}
use Rattle.sam_pending.specs.Layers.{shown_members}
use Rattle.sam_pending.specs.declared.told.Shown.TheVariants.{Rasp}
use Rattle.sam_term.specs.Term.{PlainTerminal, is_open, window_of}
use Rattle.sam_term.specs.declared.records.Window.{Window}
use Rattle.sam_overlay.specs.Calls.{IsShownFrom}
use Rattle.sam_overlay.proofs.CallLaws.{open-rasp}
use Rattle.sam_handles.specs.Events.{event_of, events}
use Rattle.sam_handles.specs.declared.event.SamEvent.{SamEvent}

-- ## Events

-- of another number there is none
pub no_event : (x : SamEvent) (text : List ℕ) → (x.kind < 1) ⊎ (25 ≤ x.kind) → None ≡ event_of x text
no_event x text outside = sym (entry_none 1 (events x text) x.kind outside)

-- ## What is shown

first-of : {X : Type 0} (xs : List X) (n : ℕ) → 0 < n → slice_get (take n xs) 0 ≡ slice_get xs 0
first-of [] zero more = refl
first-of [] (suc n) more = refl
first-of (x ∷ xs) zero more = absurd (omega (arith, more))
first-of (x ∷ xs) (suc n) more = refl

first-dropped : {X : Type 0} (xs : List X) (p : ℕ) → slice_get (drop p xs) 0 ≡ slice_get xs p
first-dropped xs zero = refl
first-dropped [] (suc p) = refl
first-dropped (x ∷ xs) (suc p) = first-dropped xs p

-- the first of what is shown from a place on stands at that place
first-shown : (place : ℕ) (text found : PartialText) → IsShownFrom place text found → slice_get text place ≡ slice_get found 0
first-shown place text found is =
    sym (first-dropped text place) ∙ sym (first-of (drop place text) (length found) is.0) ∙ ap (λ xs. slice_get xs 0) is.1

taken-some : {X : Type 0} (xs : List X) (n : ℕ) → 0 < length (take n xs) → 0 < n
taken-some xs zero more = grind arith
taken-some xs (suc n) more = omega arith

-- a member of the rasp
pub rasp_first : (place p n : ℕ) (text rasp : PartialText) → IsShownFrom place text (shown_members rasp (Rasp p n)) → slice_get rasp p ≡ slice_get text place
rasp_first place p n text rasp is =
    sym (first-shown place text (take n (drop p rasp)) is ∙ first-of (drop p rasp) n (taken-some (drop p rasp) n is.0) ∙ first-dropped rasp p)

-- a rune that waits
pub waiting_first : (place : ℕ) (text : PartialText) (s : List ℕ) (c : ℕ) → IsShownFrom place text (map Some s) → slice_get s 0 ≡ Some c
    → slice_get text place ≡ Some (Some c)
waiting_first place text [] c is e = grind (arith, e)
waiting_first place text (x ∷ s) c is e = first-shown place text (map Some (x ∷ s)) is ∙ ap (option_map Some) e

-- from the end on there is none
pub past_shown : (text : PartialText) (place : ℕ) → length text ≤ place → slice_get text place ≡ None
past_shown [] place past = refl
past_shown (x ∷ text) zero past = absurd (omega (arith, past))
past_shown (x ∷ text) (suc place) past = past_shown text place (omega (arith, past))

pub ruleset shown_facts = (rasp_first, waiting_first, past_shown)

-- before the end a member stands at each place
pub member_there : (cells : PartialText) (place : ℕ) (o : Option (Option ℕ)) → place < length cells → o ≡ slice_get cells place
    → slice_get cells place ≡ Some (option_flatten o)
member_there [] place o less is = absurd (omega (arith, less))
member_there (x ∷ cells) zero o less is = ap Some (sym (ap option_flatten is))
member_there (x ∷ cells) (suc place) o less is = member_there cells place o (omega (arith, less)) is

-- a file that has no rasp is not open
pub closed-rasp : (t : PlainTerminal) (f : ℕ) → None ≡ option_map (λ (w : Window). w.rasp) (window_of t f) → is_open t f ≡ false
closed-rasp t f is = go (window_of t f) is refl
  where
    go : (o : Option Window) → None ≡ option_map (λ (w : Window). w.rasp) o → window_of t f ≡ o → is_open t f ≡ false
    go None is w = grind (arith, w)
    go (Some x) is w = absurd cc

pub ruleset open_rasp = (open-rasp, closed-rasp)

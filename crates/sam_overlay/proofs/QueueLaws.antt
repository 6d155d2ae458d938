-- The queue of requests, and what stands before them.
use Rattle.std.proofs.Common.{◌≡◌, refl, sym, ap, ◌∙◌, subst, ℕ, zero, suc, ◌+◌, ◌<◌, ◌≤◌, ◌^◌, Bool, true, false, cond, nat_lt, nat_le, ◌||◌, List, [], ◌∷◌, ◌++◌, drop, length, Option, Some, None, is_some, option_map, arith}
use Rattle.std.specs.Prelude.{◌↔◌, ◌&&◌, All, IfSome, max, min, not, slice_get}
use Rattle.std.proofs.lemmas.Bool.Decides.{nat_tests}
use Rattle.std.proofs.lemmas.List.Elements.{All-map}
use Rattle.sam_runes.specs.Slots.{Slots, slot}
use Rattle.sam_runes.proofs.SlotLaws.{slot_past}
use Rattle.sam_pending.specs.Cells.{IsNewest, PartialText, arrived, resting, text_at}
use Rattle.sam_pending.specs.Groups.{IsPutUpTo, is_due_by}
use Rattle.sam_pending.specs.Layers.{Layer, runs_of}
use Rattle.sam_pending.proofs.GroupLaws.{text_shown}
use Rattle.sam_pending.proofs.LayerLaws.{newest_cells}
use Rattle.sam_term.specs.Term.{PlainTerminal, rasp_at, window_at}
use Rattle.sam_term.specs.declared.event.UserEvent.{UserEvent}
use Rattle.sam_term.specs.declared.event.UserEvent.TheVariants as event
use Rattle.sam_overlay.specs.Calls.{CanAct, IsIdle, IsReady, PlainOverlay, cells_at, shown_at}
use Rattle.sam_overlay.specs.Outcomes.{IsOverRasp, SaysLeft, cells_in, newest_in, newest_over}
use Rattle.sam_overlay.specs.Overlays.{is_request}
use Rattle.sam_overlay.specs.Requests.{AreAsked, concerns, put_limit, serves, shared_write, writes}
use Rattle.sam_overlay.specs.declared.request.Request.{Request}
use Rattle.sam_overlay.proofs.CallLaws.{newer-all}

pub more_asked : (rs : List Request) (r : Request) → AreAsked rs → is_request r.event ≡ true → r.group + 1 < 2 ^ 32 → AreAsked (rs ++ r ∷ [])
more_asked [] r all is few = ((is, few), tt)
more_asked (x ∷ rs) r all is few = (all.0, more_asked rs r all.1 is few)

pub fewer_asked : (rs : List Request) → AreAsked rs → AreAsked (drop 1 rs)
fewer_asked [] all = tt
fewer_asked (r ∷ rs) all = all.1

pub first_asked : (rs : List Request) (o : Option Request) → AreAsked rs → o ≡ slice_get rs 0 → IfSome o (λ r. is_request r.event ≡ true)
first_asked rs None all is = tt
first_asked [] (Some r) all is = absurd cc
first_asked (x ∷ rs) (Some r) all is =
    let same : r ≡ x = cc in
    subst (λ (y : Request). is_request y.event ≡ true) (sym same) all.0.0

pub no_first : (rs : List Request) → slice_get rs 0 ≡ None → rs ≡ []
no_first [] is = refl
no_first (r ∷ rs) is = absurd cc

pub first_is : (rs : List Request) (r : Request) → slice_get rs 0 ≡ Some r → rs ≡ r ∷ drop 1 rs
first_is [] r is = absurd cc
first_is (x ∷ rs) r is =
    let same : x ≡ r = cc in
    ap (λ y. y ∷ rs) same

-- ## Where nothing waits

resting-put : (g : ℕ) (r : PartialText) → IsPutUpTo g (resting r)
resting-put g r = All-map (λ c. is_due_by g c ≡ false) arrived r (λ j y i. refl)

pub none_left : (g : ℕ) → SaysLeft g None false
none_left g r over = (λ e. resting-put g r, λ p. refl)

pub newest_resting : (g : ℕ) (r : PartialText) → All (IsNewest g) (resting r)
newest_resting g r = All-map (IsNewest g) arrived r (λ j y i. (tt, tt))

-- ## The newest group of all files

newest-in : (r : PartialText) (o : Option Layer) → All (IsNewest (newest_in o)) (cells_in r o)
newest-in r None = newest_resting 0 r
newest-in r (Some l) = newest_cells (runs_of l) l.text r

max-turned : (a b : ℕ) → max a b ≡ max b a
max-turned a b = omega arith

-- no cell of any file is of a later group
pub newest_all : (ls : Slots Layer) (f : ℕ) (r : PartialText) → All (IsNewest (newest_over ls)) (cells_in r (slot ls f))
newest_all [] f r = newest_resting 0 r
newest_all (o ∷ ls) zero r = newer-all (newest_in o) (newest_over ls) (cells_in r o) (newest-in r o)
newest_all (o ∷ ls) (suc f) r =
    subst (λ g. All (IsNewest g) (cells_in r (slot ls f))) (max-turned (newest_over ls) (newest_in o))
    (newer-all (newest_over ls) (newest_in o) (cells_in r (slot ls f)) (newest_all ls f r))

-- ## What can act

pub ready_then : (o : PlainOverlay) (f g : ℕ) (left locked : Bool) → IsOverRasp (rasp_at o.end.term f) (slot o.layers f) → SaysLeft g (slot o.layers f) left
    → locked ≡ (o.end.term.command_lock || nat_lt 0 (window_at o.end.term f).locks) → left ≡ false → (not locked ≡ true) ↔ IsReady o f g
ready_then o f g left locked over says is none = (
  λ free. record { clear = (says (rasp_at o.end.term f) over).0 none; free = sym is ∙ turned locked free },
  λ h. ap not (is ∙ h.free),
)
  where
    turned : (b : Bool) → not b ≡ true → b ≡ false
    turned false e = refl
    turned true e = absurd cc

pub ready_else : (o : PlainOverlay) (f g : ℕ) (left : Bool) → IsOverRasp (rasp_at o.end.term f) (slot o.layers f) → SaysLeft g (slot o.layers f) left
    → left ≡ true → (not left ≡ true) ↔ IsReady o f g
ready_else o f g left over says some = (
  λ none. let wrong : false ≡ true = sym (ap not some) ∙ none in absurd cc,
  λ h. ap not ((says (rasp_at o.end.term f) over).1 h.clear),
)

-- no file is known and nothing waits behind the end of both lists
blank-locks : (t : PlainTerminal) (f : ℕ) → slot t.files f ≡ None → (window_at t f).locks ≡ 0
blank-locks t f none = grind (arith, none)

pub acts_all : (o : PlainOverlay) (e : UserEvent) (g i : ℕ) → IsIdle o → o.end.term.command_lock ≡ false
    → ((f : ℕ) → f < i → concerns e f ≡ true → IsReady o f g) → min (max (length o.end.term.files) (length o.layers)) 65536 ≤ i → CanAct o e g
acts_all o e g i idle unlocked before past = record { idle = idle; unlocked = unlocked; ready = all }
  where
    all : (f : ℕ) → f < 2 ^ 16 → concerns e f ≡ true → IsReady o f g
    all f few concerned = go (nat_lt f i) refl
      where
        go : (t : Bool) → nat_lt f i ≡ t → IsReady o f g
        go true is = before f (grind (arith, is, nat_tests)) concerned
        go false is =
            let behind : i ≤ f = grind (arith, is, nat_tests) in
            let files : length o.end.term.files ≤ f = omega (arith, behind, past, few) in
            let layers : length o.layers ≤ f = omega (arith, behind, past, few) in
            record {
              clear = subst (λ x. IsPutUpTo g (cells_in (rasp_at o.end.term f) x)) (sym (slot_past o.layers f layers)) (resting-put g (rasp_at o.end.term f));
              free = ap (λ b. b || nat_lt 0 (window_at o.end.term f).locks) unlocked ∙ ap (nat_lt 0) (blank-locks o.end.term f (slot_past o.end.term.files f files));
            }

-- ## Writes that are shared

-- the write that is found, where `found` was found among the requests before place n, and these stand from there on
abbrev pub found_in : Option ℕ → ℕ → List Request → ℕ → ℕ → Option ℕ
found_in found n rs f newest = cond (is_some (put_limit rs f)) (option_map (λ k. n + k) (shared_write rs f newest)) found

and-first : (a b : Bool) → (a && b) ≡ true → a ≡ true
and-first true b is = refl
and-first false b is = absurd cc

and-second : (a b : Bool) → (a && b) ≡ true → b ≡ true
and-second true b is = is
and-second false b is = absurd cc

writes-concerns : (e : UserEvent) (f : ℕ) → writes f e ≡ true → concerns e f ≡ true
writes-concerns (event.Write g) f is = is
writes-concerns e f is = absurd cc

-- where no request concerns the file no write of it is found
none-found : (rs : List Request) (f newest : ℕ) → is_some (put_limit rs f) ≡ false → shared_write rs f newest ≡ None
none-found [] f newest none = refl
none-found (r ∷ rs) f newest none =
    step (concerns r.event f) (serves f newest r) (put_limit rs f)
    (λ is. writes-concerns r.event f (and-first (writes f r.event) (nat_le newest r.group) is)) none
  where
    step : (c w : Bool) (l : Option ℕ) → (w ≡ true → c ≡ true) → is_some (cond c (Some r.group) l) ≡ false
        → cond (is_some l) (option_map suc (shared_write rs f newest)) (cond w (Some 0) None) ≡ None
    step true w l up none = absurd cc
    step false true l up none = let wrong : false ≡ true = up refl in absurd cc
    step false false l up none = rw none refl

zero-on : (o : Option ℕ) → option_map (λ k. 0 + k) o ≡ o
zero-on None = refl
zero-on (Some k) = ap Some (omega arith)

pub found_first : (rs : List Request) (f newest : ℕ) → found_in None 0 rs f newest ≡ shared_write rs f newest
found_first rs f newest = go (is_some (put_limit rs f)) refl
  where
    go : (t : Bool) → is_some (put_limit rs f) ≡ t → found_in None 0 rs f newest ≡ shared_write rs f newest
    go true is = rw is (zero-on (shared_write rs f newest))
    go false is = rw is (sym (none-found rs f newest is))

writes-is : (e : UserEvent) (f : ℕ) → writes f e ≡ true → e ≡ event.Write f
writes-is (event.Write g) f is = ap event.Write (grind (arith, is, nat_tests))
writes-is e f is = absurd cc

-- the write that is shared stands at its place, and no edit of the file was made behind it
pub shared_request : (rs : List Request) (f newest k : ℕ) → shared_write rs f newest ≡ Some k
    → (g : ℕ) × (slice_get rs k ≡ Some (record { event = event.Write f; group = g })) × (newest ≤ g)
shared_request [] f newest k is = absurd cc
shared_request (r ∷ rs) f newest k is =
    go (is_some (put_limit rs f)) (shared_write rs f newest) refl (serves f newest r) refl k is (shared_request rs f newest)
  where
    go : (t : Bool) (m : Option ℕ) → shared_write rs f newest ≡ m → (w : Bool) → serves f newest r ≡ w → (k : ℕ)
        → cond t (option_map suc m) (cond w (Some 0) None) ≡ Some k
        → ((j : ℕ) → shared_write rs f newest ≡ Some j → (g : ℕ) × (slice_get rs j ≡ Some (record { event = event.Write f; group = g })) × (newest ≤ g))
        → (g : ℕ) × (slice_get (r ∷ rs) k ≡ Some (record { event = event.Write f; group = g })) × (newest ≤ g)
    go true None has w serve k is next = absurd cc
    go true (Some j) has w serve k is next =
        let x = next j has in
        let behind : suc j ≡ k = cc in
        (x.0, subst (λ i. slice_get (r ∷ rs) i ≡ Some (record { event = event.Write f; group = x.0 })) behind x.1, x.2)
    go false m has true serve k is next =
        let first : 0 ≡ k = cc in
        let written : r.event ≡ event.Write f = writes-is r.event f (and-first (writes f r.event) (nat_le newest r.group) serve) in (
          r.group,
          subst (λ i. slice_get (r ∷ rs) i ≡ Some (record { event = event.Write f; group = r.group })) first
              (ap (λ e. Some (record { event = e; group = r.group })) written),
          grind (arith, (and-second (writes f r.event) (nat_le newest r.group) serve), nat_tests),
        )
    go false m has false serve k is next = absurd cc

max-above : (a b : ℕ) → a ≤ b → max a b ≡ b
max-above a b up = omega (arith, up)

-- while no edit of a later group waits over a file, what a request of the group comes to is shown
pub shared_finds : (o : PlainOverlay) (f g : ℕ) → newest_in (slot o.layers f) ≤ g → text_at g (cells_at o f) ≡ shown_at o f
shared_finds o f g up =
    text_shown g (cells_at o f)
    (subst (λ k. All (IsNewest k) (cells_at o f)) (max-above (newest_in (slot o.layers f)) g up)
    (newer-all (newest_in (slot o.layers f)) g (cells_at o f) (newest-in (rasp_at o.end.term f) (slot o.layers f))))

-- Where nothing moves any more and no lock is held, nothing waits.
use Rattle.std.proofs.Common.{◌≡◌, ◌⊎◌, inl, inr, ℕ, zero, suc, ◌<◌, ◌^◌, Bool, true, false, not, ◌&&◌, ◌||◌, nat_eq, nat_lt, List, [], ◌∷◌, Some, None, if◌then◌else◌, refl, sym, ap, subst, ◌∙◌, arith, ltb-false, true≢false}
use Rattle.std.specs.Prelude.{◌≢◌}
use Rattle.std.proofs.lemmas.Bool.{and_parts, not-true}
use Rattle.std.proofs.lemmas.Bool.Decides.{eqb_tells}
use Rattle.std.proofs.lemmas.List.Elements.{All-map}
use Rattle.sam_runes.specs.Slots.{Slots}
use Rattle.sam_runes.specs.Texts.{is_empty}
use Rattle.sam_pending.specs.Cells.{PartialText, arrived, resting}
use Rattle.sam_pending.specs.Groups.{IsPutUpTo, is_due_by}
use Rattle.sam_term.specs.Term.{is_any_locked, is_open, rasp_at, window_at}
use Rattle.sam_term.specs.Windows.{window_in}
use Rattle.sam_term.specs.declared.records.KnownFile.{KnownFile}
use Rattle.sam_overlay.specs.Calls.{IsFree, IsReady, cells_at}
use Rattle.sam_overlay.specs.Requests.{concerns, put_limit}
use Rattle.sam_overlay.specs.declared.ordered.OrderedOverlay.{OrderedOverlay}
use Rattle.sam_overlay.specs.declared.request.Request.{Request}
use Rattle.sam_joined.proofs.Carrying.{never_stuck}
use Rattle.sam_client.specs.Going.{AllPut, EndRests, IsAllPut, IsPut, IsPutToRequest, NoneActs}
use Rattle.sam_attached.specs.Resting.{CanTake, IsDone, RestingClientsAreDone}
use Rattle.sam_attached.proofs.Waiting.{OverOpen, waits_over_open}

-- ## No lock is held

no_locks : (ss : Slots KnownFile) (f : ℕ) → is_any_locked ss ≡ false → nat_lt 0 (window_in ss f).locks ≡ false
no_locks [] f none = refl
no_locks (None ∷ ss) zero none = refl
no_locks (None ∷ ss) (suc f) none = no_locks ss f none
no_locks (Some known ∷ ss) zero none = grind (arith, none)
no_locks (Some known ∷ ss) (suc f) none = no_locks ss f (grind (arith, none))

is_zero : (n : ℕ) → nat_lt 0 n ≡ false → nat_eq n 0 ≡ true
is_zero zero none = refl
is_zero (suc n) none = absurd (omega (arith, ltb-false 0 (suc n) none))

-- each part of what makes a file free
all_free : (exited locked opened command zero_locks : Bool) → exited ≡ false → locked ≡ false → opened ≡ true → command ≡ false → zero_locks ≡ true
    → (not exited && not locked && opened && not command && zero_locks) ≡ true
all_free exited locked opened command zero_locks a b c d e =
    ap (λ x. not x && not locked && opened && not command && zero_locks) a
    ∙ (ap (λ x. not false && not x && opened && not command && zero_locks) b
    ∙ (ap (λ x. not false && not false && x && not command && zero_locks) c
    ∙ (ap (λ x. not false && not false && true && not x && zero_locks) d ∙ ap (λ x. not false && not false && true && not false && x) e)))

empty : {A : Type 0} (xs : List A) → is_empty xs ≡ true → xs ≡ []
empty [] is = refl
empty (x ∷ xs) is = absurd (true≢false (sym is))

-- ## What is put

-- where all that waits over a file is put, nothing of any group is left to put
resting_put : (g : ℕ) (r : PartialText) → IsPutUpTo g (resting r)
resting_put g r = All-map (λ c. is_due_by g c ≡ false) arrived r (λ j y i. refl)

-- the end of a client that rests has nothing to do, and no lock holds the user out
pub record IsFreed (o : OrderedOverlay) : Type 0 where
  putting : o.overlay.putting ≡ None
  ends : EndRests o.overlay.end
  none_held : o.overlay.end.term.held ≡ []
  unlocked : o.overlay.end.term.command_lock ≡ false
  free : (f : ℕ) → nat_lt 0 (window_at o.overlay.end.term f).locks ≡ false

-- where a file is not open its rasp has no members, and neither do the cells over it
shut_put : (o : OrderedOverlay) (f : ℕ) → is_open o.overlay.end.term f ≡ false → cells_at o.overlay f ≡ [] → IsAllPut o.overlay f
shut_put o f shut none =
    let empty_rasp : rasp_at o.overlay.end.term f ≡ [] = grind (arith, shut) in
    none ∙ sym (ap resting empty_rasp)

module _ (o : OrderedOverlay) (freed : IsFreed o) (can : CanTake o) (put : AllPut o) (command : IsAllPut o.overlay 0) (over : OverOpen o.overlay) where
  is_free_there : (f : ℕ) → nat_eq f 0 ≡ false → is_open o.overlay.end.term f ≡ true → IsFree o.overlay.end f
  is_free_there f other opened = record {
    going = freed.ends.ready.0;
    done = freed.ends.ready.1;
    none_held = freed.none_held;
    free = all_free o.overlay.end.term.has_exited o.overlay.end.term.command_lock (is_open o.overlay.end.term f) (nat_eq f 0)
        (nat_eq (window_at o.overlay.end.term f).locks 0) can.going freed.unlocked opened other
        (is_zero (window_at o.overlay.end.term f).locks (freed.free f));
  }

  -- all is put, or all that stands before a request
  put_there : (f : ℕ) → f < 2 ^ 16 → IsAllPut o.overlay f ⊎ IsPutToRequest o f
  put_there f tag = by_tag (eqb_tells f 0)
    where
      by_put : IsPut o f → IsAllPut o.overlay f ⊎ IsPutToRequest o f
      by_put (inl all) = inl all
      by_put (inr (inl full)) = absurd (can.room f full)
      by_put (inr (inr behind)) = inr behind

      by_window : (b : Bool) → nat_eq f 0 ≡ false → f ≢ 0 → is_open o.overlay.end.term f ≡ b → IsAllPut o.overlay f ⊎ IsPutToRequest o f
      by_window true is other opened = by_put (put f tag (is_free_there f is opened))
      by_window false is other shut = inl (shut_put o f shut (over.closed f other shut))

      by_tag : ((nat_eq f 0 ≡ true) × (f ≡ 0)) ⊎ ((nat_eq f 0 ≡ false) × (f ≢ 0)) → IsAllPut o.overlay f ⊎ IsPutToRequest o f
      by_tag (inl (is, here)) = inl (subst (IsAllPut o.overlay) (sym here) command)
      by_tag (inr (is, other)) = by_window (is_open o.overlay.end.term f) is other refl

  -- the oldest request finds all edits before it put
  ready_for : (r : Request) (rest : List Request) → o.queue ≡ r ∷ rest → (f : ℕ) → f < 2 ^ 16 → concerns r.event f ≡ true → IsReady o.overlay f r.group
  ready_for r rest old f tag concerned = record {
    clear = by_put (put_there f tag);
    free = ap (λ b. b || nat_lt 0 (window_at o.overlay.end.term f).locks) freed.unlocked ∙ freed.free f;
  }
    where
      by_put : IsAllPut o.overlay f ⊎ IsPutToRequest o f → IsPutUpTo r.group (cells_at o.overlay f)
      by_put (inl all) = subst (IsPutUpTo r.group) (sym all) (resting_put r.group (rasp_at o.overlay.end.term f))
      by_put (inr (g, limit, done)) =
          let here : Some r.group ≡ Some g =
          sym (ap (λ b. if b then Some r.group else put_limit rest f) concerned) ∙ sym (ap (λ (q : List Request). put_limit q f) old) ∙ limit in
          let same : r.group ≡ g = grind (arith, here) in
          subst (λ h. IsPutUpTo h (cells_at o.overlay f)) (sym same) done

  none_asked : NoneActs o → o.queue ≡ []
  none_asked (inl none) = none
  none_asked (inr yet) = absurd (yet.not (record {
    idle = record {
      putting = freed.putting;
      going = freed.ends.ready.0;
      done = freed.ends.ready.1;
      none_held = freed.none_held;
    };
    unlocked = freed.unlocked;
    ready = ready_for yet.request yet.rest yet.old;
  }))

  done_there : NoneActs o → IsDone o
  done_there acts = record { asked = none_asked acts; put = λ f tag. by_put f (put_there f tag) }
    where
      by_put : (f : ℕ) → IsAllPut o.overlay f ⊎ IsPutToRequest o f → IsAllPut o.overlay f
      by_put f (inl all) = all
      by_put f (inr (g, limit, done)) =
          let wrong : None ≡ Some g = sym (ap (λ (q : List Request). put_limit q f) (none_asked acts)) ∙ limit in
          absurd cc

pub resting_clients_are_done : RestingClientsAreDone
resting_clients_are_done id take_over now acts c given asides said up down e does rests can carried all room =
    let g = c.ordered.overlay.end in
    let done = never_stuck given asides said up down e g carried all rests.end.quiet room in
    let free = and_parts (not g.term.command_lock) (not (is_any_locked g.term.files)) done.free in
    let held = empty g.term.held (and_parts _ (is_empty g.term.held) done.rests).1 in
    done_there c.ordered
    (record {
      putting = rests.putting;
      ends = rests.end;
      none_held = held;
      unlocked = not-true g.term.command_lock free.0;
      free = λ f. no_locks g.term.files f (not-true (is_any_locked g.term.files) free.1);
    })
    can rests.put rests.command (waits_over_open id take_over now acts c does) rests.acts

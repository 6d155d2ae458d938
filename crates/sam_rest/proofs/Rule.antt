-- A drain's rule without its limit: each event of it applies, and a number falls.
use Rattle.std.proofs.Common.{true≢false}
use Rattle.sam_rest.proofs.Common.{◌≡◌, ℕ, zero, suc, ◌+◌, ◌<◌, ◌≤◌, Bool, true, false, not, List, length, is_some, Option, Some, None, ◌⊎◌, inl, inr, same_Some, refl, sym, ap, ◌∙◌, subst, arith, is_empty, UserEvent, PlainWorld, step_of, next_event, IsInOrder}
use Rattle.std.proofs.Common.{if◌then◌else◌}
unfoldable use Rattle.sam_rest.proofs.Common.{act_of}
use Rattle.sam_term.specs.declared.records.Unsent.{Unsent}
use Rattle.sam_world.specs.Drain.{acts}
use Rattle.sam_crossing.specs.declared.event.Event.{Event}
use Rattle.sam_crossing.specs.declared.event.Event.TheVariants.{User, Add, Mark, Act, Flush, HostTake, TermTake}
use Rattle.sam_crossing.proofs.OrderLaws.{steps_in_order}
use Rattle.sam_rest.specs.Rest.{is_from_outside, Applies}
use Rattle.sam_rest.proofs.Taking.{Idles, Acts, host-takes, term-takes, flush-takes, act-takes}
use Rattle.sam_rest.proofs.Ends.{IsKept, IsLess, IsFewer, left_in, after-host, after-term, after-flush, after-act, keeps-step}

-- ## What the rule's next event does

-- the oldest event acts, and is held no longer; or there is less to do
abbrev pub Does : PlainWorld → Event → PlainWorld → Type 0
Does w Act v = IsFewer w v
Does w _ v = IsLess w v

-- what the rule looks at
pub record Rule (w : PlainWorld) (e : Event) : Type 0 where
  pub act : e ≡ Act → acts (act_of w.term) ≡ true
  pub flush : e ≡ Flush → is_some w.term.unsent ≡ true
  pub own : is_from_outside e ≡ false

pub rule-of : (w : PlainWorld) (e : Event) → next_event w ≡ Some e → Rule w e
rule-of w e n = by (is_empty w.up) (is_empty w.down) (acts (act_of w.term)) (is_some w.term.unsent) refl refl n
  where
    by : (a b c d : Bool) → acts (act_of w.term) ≡ c → is_some w.term.unsent ≡ d
        → (if not a then Some HostTake else if not b then Some TermTake else if c then Some Act else if d then Some Flush else None) ≡ Some e → Rule w e
    by false b c d p q n = subst (Rule w) (same_Some _ _ n) (record { act = λ x. absurd (grind arith); flush = λ x. absurd (grind arith); own = refl })
    by true false c d p q n = subst (Rule w) (same_Some _ _ n) (record { act = λ x. absurd (grind arith); flush = λ x. absurd (grind arith); own = refl })
    by true true true d p q n = subst (Rule w) (same_Some _ _ n) (record { act = λ x. p; flush = λ x. absurd (grind arith); own = refl })
    by true true false true p q n = subst (Rule w) (same_Some _ _ n) (record { act = λ x. absurd (grind arith); flush = λ x. q; own = refl })
    by true true false false p q n = absurd (grind arith)

-- an act that does or refuses something
acts-change : (w v : PlainWorld) → acts (act_of w.term) ≡ true → Idles w v ⊎ Acts w v → Acts w v
acts-change w v a (inl idle) = absurd (true≢false (sym a ∙ idle.idle))
acts-change w v a (inr done) = done

pub does : (w v : PlainWorld) (e : Event) → IsKept w → next_event w ≡ Some e → step_of w e ≡ Some v → Does w e v
does w v e k n s = by e refl
  where
    i : IsInOrder v
    i = steps_in_order w v e k.order s

    rule : Rule w e
    rule = rule-of w e n

    flush : (u : Option Unsent) → w.term.unsent ≡ u → is_some u ≡ true → step_of w Flush ≡ Some v → IsLess w v
    flush (Some u) q l t = after-flush w v u k q (flush-takes w v t)
    flush None q l t = absurd (true≢false (sym l))

    by : (x : Event) → e ≡ x → Does w e v
    by (User x) q = absurd (true≢false (ap is_from_outside (sym q) ∙ rule.own))
    by (Add name text) q = absurd (true≢false (ap is_from_outside (sym q) ∙ rule.own))
    by (Mark f) q = absurd (true≢false (ap is_from_outside (sym q) ∙ rule.own))
    by Act q = subst (λ (y : Event). Does w y v) (sym q) (after-act w v k i (acts-change w v (rule.act q) (act-takes w v (ap (step_of w) (sym q) ∙ s))))
    by Flush q =
        subst (λ (y : Event). Does w y v) (sym q)
        (flush w.term.unsent refl (rule.flush q) (ap (step_of w) (sym q) ∙ s))
    by HostTake q = subst (λ (y : Event). Does w y v) (sym q) (after-host w v k i (host-takes w v k.order (ap (step_of w) (sym q) ∙ s)))
    by TermTake q = subst (λ (y : Event). Does w y v) (sym q) (after-term w v k i (term-takes w v (ap (step_of w) (sym q) ∙ s)))

-- each event of the rule applies
pub rule-applies : (w v : PlainWorld) (e : Event) → IsKept w → next_event w ≡ Some e → step_of w e ≡ Some v → Applies w e v
rule-applies w v e k n s = record { own = (rule-of w e n).own; stepped = s; changes = by e (does w v e k n s) }
  where
    less : IsLess w v → v ≡ w → ⊥
    less l same = let e = ap left_in same in absurd (omega (arith, l.less, e))

    by : (x : Event) → Does w x v → v ≡ w → ⊥
    by Act d same = let e = ap (λ (u : PlainWorld). length u.term.held) same in absurd (omega (arith, d.one, e))
    by (User x) d same = less d same
    by (Add name text) d same = less d same
    by (Mark f) d same = less d same
    by Flush d same = less d same
    by HostTake d same = less d same
    by TermTake d same = less d same

-- ## How many events of the rule are left

abbrev led : (PlainWorld → ℕ) → Option PlainWorld → ℕ
led f None = 0
led f (Some v) = f v

-- one event, and those after it: `fewer` and `less` count them where it is an act, or not
abbrev count_one : (fewer less : PlainWorld → ℕ) → PlainWorld → Option Event → ℕ
count_one fewer less w None = 0
count_one fewer less w (Some Act) = 1 + led fewer (step_of w Act)
count_one fewer less w (Some (User x)) = 1 + led less (step_of w (User x))
count_one fewer less w (Some (Add name text)) = 1 + led less (step_of w (Add name text))
count_one fewer less w (Some (Mark f)) = 1 + led less (step_of w (Mark f))
count_one fewer less w (Some Flush) = 1 + led less (step_of w Flush)
count_one fewer less w (Some HostTake) = 1 + led less (step_of w HostTake)
count_one fewer less w (Some TermTake) = 1 + led less (step_of w TermTake)

abbrev nothing : PlainWorld → ℕ
nothing v = 0

-- where at most m is left to do before the next act
abbrev counts : (fewer : PlainWorld → ℕ) → ℕ → PlainWorld → ℕ
counts fewer zero w = count_one fewer nothing w (next_event w)
counts fewer (suc m) w = count_one fewer (counts fewer m) w (next_event w)

-- where k events are held
abbrev counts_held : ℕ → PlainWorld → ℕ
counts_held zero w = counts nothing (left_in w) w
counts_held (suc k) w = counts (counts_held k) (left_in w) w

-- how many events of the rule come before none applies
unfoldable pub steps_left : PlainWorld → ℕ
steps_left w = counts_held (length w.term.held) w

-- the same counts of what comes after are the same count
stable-one : (fewer f g : PlainWorld → ℕ) (w : PlainWorld) → IsKept w → ((v : PlainWorld) → IsKept v → left_in v < left_in w → f v ≡ g v) → (o : Option Event) → next_event w ≡ o
    → count_one fewer f w o ≡ count_one fewer g w o
stable-one fewer f g w k same None n = refl
stable-one fewer f g w k same (Some Act) n = refl
stable-one fewer f g w k same (Some (User x)) n = absurd (true≢false (rule-of w (User x) n).own)
stable-one fewer f g w k same (Some (Add name text)) n = absurd (true≢false (rule-of w (Add name text) n).own)
stable-one fewer f g w k same (Some (Mark file)) n = absurd (true≢false (rule-of w (Mark file) n).own)
stable-one fewer f g w k same (Some Flush) n = behind (step_of w Flush) refl
  where
    behind : (o : Option PlainWorld) → step_of w Flush ≡ o → 1 + led f o ≡ 1 + led g o
    behind None s = refl
    behind (Some v) s = ap (λ (j : ℕ). 1 + j) (same v (keeps-step w Flush v k s) (does w v Flush k n s).less)
stable-one fewer f g w k same (Some HostTake) n = behind (step_of w HostTake) refl
  where
    behind : (o : Option PlainWorld) → step_of w HostTake ≡ o → 1 + led f o ≡ 1 + led g o
    behind None s = refl
    behind (Some v) s = ap (λ (j : ℕ). 1 + j) (same v (keeps-step w HostTake v k s) (does w v HostTake k n s).less)
stable-one fewer f g w k same (Some TermTake) n = behind (step_of w TermTake) refl
  where
    behind : (o : Option PlainWorld) → step_of w TermTake ≡ o → 1 + led f o ≡ 1 + led g o
    behind None s = refl
    behind (Some v) s = ap (λ (j : ℕ). 1 + j) (same v (keeps-step w TermTake v k s) (does w v TermTake k n s).less)

-- more than what is left to do changes no count
counts-stable : (fewer : PlainWorld → ℕ) (m n : ℕ) (w : PlainWorld) → IsKept w → left_in w ≤ m → left_in w ≤ n → counts fewer m w ≡ counts fewer n w
counts-stable fewer zero zero w k l r = refl
counts-stable fewer zero (suc n) w k l r = stable-one fewer nothing (counts fewer n) w k (λ v kv less. absurd (omega (arith, less, l))) (next_event w) refl
counts-stable fewer (suc m) zero w k l r = stable-one fewer (counts fewer m) nothing w k (λ v kv less. absurd (omega (arith, less, r))) (next_event w) refl
counts-stable fewer (suc m) (suc n) w k l r =
    stable-one fewer (counts fewer m) (counts fewer n) w k (λ v kv less. counts-stable fewer m n v kv (omega (arith, less, l)) (omega (arith, less, r))) (next_event w) refl

-- ## It falls

abbrev held_fewer : ℕ → PlainWorld → ℕ
held_fewer zero = nothing
held_fewer (suc k) = counts_held k

held-count : (k : ℕ) (w : PlainWorld) → counts_held k w ≡ counts (held_fewer k) (left_in w) w
held-count zero w = refl
held-count (suc k) w = refl

act-count : (fewer : PlainWorld → ℕ) (m : ℕ) (w v : PlainWorld) → next_event w ≡ Some Act → step_of w Act ≡ Some v → counts fewer m w ≡ 1 + fewer v
act-count fewer zero w v n s = ap (count_one fewer nothing w) n ∙ ap (λ (o : Option PlainWorld). 1 + led fewer o) s
act-count fewer (suc m) w v n s = ap (count_one fewer (counts fewer m) w) n ∙ ap (λ (o : Option PlainWorld). 1 + led fewer o) s

-- an event that is no act
less-count : (fewer : PlainWorld → ℕ) (m : ℕ) (w v : PlainWorld) (e : Event) → IsKept v → next_event w ≡ Some e → step_of w e ≡ Some v → count_one fewer (counts fewer m) w (Some e) ≡ 1 + led (counts fewer m) (step_of w e)
    → left_in v < left_in w → left_in w ≡ suc m → counts fewer (left_in v) v < counts fewer (left_in w) w
less-count fewer m w v e k n s one less many =
    let now : counts fewer (left_in w) w ≡ 1 + counts fewer m v =
    ap (λ (j : ℕ). counts fewer j w) many ∙ ap (count_one fewer (counts fewer m) w) n ∙ one ∙ ap (λ (o : Option PlainWorld). 1 + led (counts fewer m) o) s in
    let same : counts fewer (left_in v) v ≡ counts fewer m v = counts-stable fewer (left_in v) m v k (omega arith) (omega (arith, less, many)) in
    omega (arith, now, same)

pub falls-by-rule : (w v : PlainWorld) (e : Event) → IsKept w → next_event w ≡ Some e → step_of w e ≡ Some v → steps_left v < steps_left w
unfolding steps_left
falls-by-rule w v e k n s = by e refl (does w v e k n s)
  where
    kv : IsKept v
    kv = keeps-step w e v k s

    act : next_event w ≡ Some Act → step_of w Act ≡ Some v → IsFewer w v → counts_held (length v.term.held) v < counts_held (length w.term.held) w
    act n s d =
        let now : counts_held (length w.term.held) w ≡ 1 + counts_held (length v.term.held) v =
        ap (λ (j : ℕ). counts_held j w) d.one ∙ act-count (counts_held (length v.term.held)) (left_in w) w v n s in
        omega (arith, now)

    less : (x : Event) → next_event w ≡ Some x → step_of w x ≡ Some v
        → ((fewer : PlainWorld → ℕ) (m : ℕ) → count_one fewer (counts fewer m) w (Some x) ≡ 1 + led (counts fewer m) (step_of w x)) → IsLess w v
        → counts_held (length v.term.held) v < counts_held (length w.term.held) w
    less x n s one d = from (left_in w) refl
      where
        j : ℕ
        j = length w.term.held

        from : (m : ℕ) → left_in w ≡ m → counts_held (length v.term.held) v < counts_held j w
        from zero q = absurd (omega (arith, d.less, q))
        from (suc m) q =
            let here : counts_held (length v.term.held) v ≡ counts (held_fewer j) (left_in v) v = ap (λ (es : List UserEvent). counts_held (length es) v) d.held ∙ held-count j v in
            omega (arith, here, held-count j w, less-count (held_fewer j) m w v x kv n s (one (held_fewer j) m) d.less q)

    by : (x : Event) → e ≡ x → Does w e v → counts_held (length v.term.held) v < counts_held (length w.term.held) w
    by (User x) q d = absurd (true≢false (ap is_from_outside (sym q) ∙ (rule-of w e n).own))
    by (Add name text) q d = absurd (true≢false (ap is_from_outside (sym q) ∙ (rule-of w e n).own))
    by (Mark f) q d = absurd (true≢false (ap is_from_outside (sym q) ∙ (rule-of w e n).own))
    by Act q d = act (n ∙ ap Some q) (ap (step_of w) (sym q) ∙ s) (subst (λ (y : Event). Does w y v) q d)
    by Flush q d = less Flush (n ∙ ap Some q) (ap (step_of w) (sym q) ∙ s) (λ fewer m. refl) (subst (λ (y : Event). Does w y v) q d)
    by HostTake q d = less HostTake (n ∙ ap Some q) (ap (step_of w) (sym q) ∙ s) (λ fewer m. refl) (subst (λ (y : Event). Does w y v) q d)
    by TermTake q d = less TermTake (n ∙ ap Some q) (ap (step_of w) (sym q) ∙ s) (λ fewer m. refl) (subst (λ (y : Event). Does w y v) q d)

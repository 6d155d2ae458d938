-- How long a history is: as long as the parts of its senders together.
use Rattle.sam_queue.proofs.Common.{◌≡◌, ℕ, zero, suc, ◌+◌, ◌<◌, ◌≤◌, List, [], ◌∷◌, length, All, sym, refl, ◌∙◌, arith, some, get_elem?, All-head, All-tail, Entry, Sent, loads, all_of}
use Rattle.sam_queue.proofs.Lists.{there}

module _ {T : Type 0} where
  total : ℕ → List (Entry T) → ℕ
  total zero h = 0
  total (suc n) h = total n h + length (loads n h)

  total_none : (n : ℕ) (h : List (Entry T)) → h ≡ [] → total n h ≡ 0
  unfolding total
  total_none zero h none = refl
  total_none (suc n) h none = grind (arith, (total_none n h none))

  total_past : (n : ℕ) (e : Entry T) (h : List (Entry T)) → n ≤ e.sender → total n (e ∷ h) ≡ total n h
  unfolding total
  total_past zero e h past = refl
  total_past (suc n) e h past = grind (arith, (total_past n e h))

  total_more : (n : ℕ) (e : Entry T) (h : List (Entry T)) → e.sender < n → total n (e ∷ h) ≡ suc (total n h)
  unfolding total
  total_more zero e h less = absurd (omega arith)
  total_more (suc n) e h less = grind (arith, total_past, (total_more n e h))

  length_total : (n : ℕ) (h : List (Entry T)) → All (λ e. e.sender < n) h → length h ≡ total n h
  length_total n [] all = sym (total_none n [] refl)
  length_total n (e ∷ h) all = search (arith, total_more, All-head, All-tail, (length_total n h))

  total_agree : (n : ℕ) (h k : List (Entry T)) → ((p : ℕ) → p < n → loads p h ≡ loads p k) → total n h ≡ total n k
  unfolding total
  total_agree zero h k same = refl
  total_agree (suc n) h k same = grind (arith, (total_agree n h k))

  -- two histories in which each sender has put what was gathered are equally long
  pub same_length : (n : ℕ) (all : List (Sent T)) (h k : List (Entry T)) → length all ≡ n
      → ((p : ℕ) (s : Sent T) → get_elem? all p ≡ some s → loads p h ≡ all_of s.put s.closed) → All (λ e. e.sender < n) h
      → ((p : ℕ) (s : Sent T) → get_elem? all p ≡ some s → loads p k ≡ all_of s.put s.closed) → All (λ e. e.sender < n) k
      → length h ≡ length k
  same_length n all h k many told within told_too within_too =
      let agree : (p : ℕ) → p < n → loads p h ≡ loads p k = λ p less. let t = there all p (omega arith) in told p t.0 t.1 ∙ sym (told_too p t.0 t.1) in
      let a = length_total n h within in
      let b = length_total n k within_too in
      let c = total_agree n h k agree in
      omega arith

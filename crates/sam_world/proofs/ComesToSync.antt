-- The merged schedule of two logs is a run that ends in the two sides' states.
use Rattle.sam_world.proofs.Common.{◌≡◌, ℕ, zero, suc, ◌+◌, ◌-◌, ◌<◌, ◌≤◌, max, List, [], ◌∷◌, ◌++◌, length, replicate, Some, ◌⊎◌, inl, inr, ap, subst, refl, arith, append_assoc, append-nil, length-append, nil_from_length, Event, merged_from, merged, Each, Steps, Counts, HostRuns, TermRuns, world, run}
use Rattle.std.specs.Prelude.{⊤}
pub use Rattle.sam_sides.proofs.Growing.{each_append}
use Rattle.sam_sides.specs.declared.log.TermLog.{TermLog}
use Rattle.sam_sides.specs.declared.log.TermLog.TheVariants as log
use Rattle.sam_crossing.specs.declared.event.Event.TheVariants as event
use Rattle.sam_world.specs.Logs.{takes, logged_users}
use Rattle.sam_crossing.specs.World.{user_events}

-- no Take is above n
abbrev pub EntryFits : TermLog → ℕ → Type 0
EntryFits (log.Take k) n = k ≤ n
EntryFits _ n = ⊤

abbrev pub FitsUnder : List TermLog → ℕ → Type 0
FitsUnder [] n = ⊤
FitsUnder (e ∷ es) n = EntryFits e n × FitsUnder es n

module _ {X : Type 0} where
  each_weaker : (P Q : X → Type 0) (xs : List X) → ((x : X) → P x → Q x) → Each P xs → Each Q xs
  each_weaker P Q [] f a = tt
  each_weaker P Q (x ∷ xs) f a = (f x a.0, each_weaker P Q xs f a.1)

  pub each_front : (P : X → Type 0) (xs ys : List X) → Each P (xs ++ ys) → Each P xs
  each_front P [] ys a = tt
  each_front P (x ∷ xs) ys a = (a.0, each_front P xs ys a.1)

  -- the first member of a joined list is that of its front, or the front is empty
  front : (xs ys : List X) (z : X) (zs : List X) → xs ++ ys ≡ z ∷ zs
      → ((xs ≡ []) × (ys ≡ z ∷ zs)) ⊎ ((rest : List X) × (xs ≡ z ∷ rest) × (rest ++ ys ≡ zs))
  front [] ys z zs e = inl (refl, e)
  front (x ∷ xs) ys z zs e = grind arith

users_takes : (n : ℕ) (es : List Event) → user_events (replicate n event.HostTake ++ es) ≡ user_events es
users_takes zero es = refl
users_takes (suc n) es = users_takes n es

-- the schedule has the log's user events, in order
pub users_merged_from : (done : ℕ) (es : List TermLog) (n : ℕ) → user_events (merged_from done es n) ≡ logged_users es
users_merged_from done [] n = grind (arith, (append-nil (replicate (n - done) event.HostTake)), (users_takes (n - done)))
users_merged_from done (e ∷ es) n = grind (arith, append_assoc, users_takes, (λ (k : ℕ). users_merged_from k es n))

module _ {H T M F : Type 0} (s : Steps H T M F) where
  -- where no stamp is above n, no Take is
  fits_from : (n : ℕ) (es : List TermLog) (t u : T) (fs : List F) (ms : List M)
      → Each (λ f. s.seen f ≤ n) fs → TermRuns s t es fs ms u → FitsUnder es n
  fits_from n [] t u fs ms low r = tt
  fits_from n (log.User e ∷ es) t u fs ms low r = (tt, fits_from n es (s.user t e) u fs ms low r)
  fits_from n (log.Act ∷ es) t u fs ms low r = (tt, fits_from n es r.0 u fs r.2 low r.5)
  fits_from n (log.Flush ∷ es) t u fs ms low r = (tt, fits_from n es r.0 u fs r.2 low r.5)
  fits_from n (log.Take k ∷ es) t u fs ms low r =
      let here = subst (λ (x : List F). Each (λ f. s.seen f ≤ n) x) r.5 low in
      grind (arith, (fits_from n es r.2 u r.1 r.4 here.1 r.9))

module _ {H T M F : Type 0} (s : Steps H T M F) (laws : Counts s) where
  counted : (h : H) (ms : List M) (fs : List F) (k : H) → HostRuns s h ms fs k → s.taken k ≡ s.taken h + length ms
  counted h [] fs k r = grind arith
  counted h (m ∷ ms) fs k r = grind (arith, (counted r.0 ms r.2 k r.5))

  -- what is still to be answered bears later stamps, and none above the last count
  stamps : (P : F → Type 0) (h : H) (ms : List M) (fs : List F) (k : H) → HostRuns s h ms fs k → ((f : F) → s.taken h < s.seen f → s.seen f ≤ s.taken k → P f) → Each P fs
  stamps P h [] fs k r p = rw r.0 tt
  stamps P h (m ∷ ms) fs k r p =
      let one = laws.taken h m r.0 r.1 r.3 in
      let count = counted r.0 ms r.2 k r.5 in
      let now : Each P r.1 = each_weaker (λ f. s.seen f ≡ s.taken r.0) P r.1 (λ f e. p f (omega arith) (omega arith)) (laws.stamped h m r.0 r.1 r.3) in
      rw r.4 (each_append P r.1 r.2 now (stamps P r.0 ms r.2 k r.5 (λ f a b. p f (omega arith) b)))

  -- the host handles j messages more
  advance : (j : ℕ) (h : H) (t : T) (up rest : List M) (down later : List F) (more left : List M) (k : H)
      → j ≤ length up → j ≤ length rest → up ++ more ≡ rest ++ left → HostRuns s h rest later k
      → (g : H) × (up' : List M) × (rest' : List M) × (now : List F) × (later' : List F)
      × ((es : List Event) → run s (world h t up down) (replicate j event.HostTake ++ es) ≡ run s (world g t up' (down ++ now)) es)
      × HostRuns s g rest' later' k × (later ≡ now ++ later') × (up' ++ more ≡ rest' ++ left) × (s.taken g ≡ s.taken h + j)
      × (length up ≡ j + length up') × (length rest ≡ j + length rest') × Each (λ f. s.seen f ≤ s.taken g) now
  advance (suc i) h t (m ∷ up) (n ∷ rest) down later more left k a b e r =
      let handled : s.handle h m ≡ Some (r.0, r.1) = cc in
      let one = laws.taken h n r.0 r.1 r.3 in
      let z = advance i r.0 t up rest (down ++ r.1) r.2 more left k (omega arith) (omega arith) (cc) r.5 in
      let first : Each (λ f. s.seen f ≤ s.taken z.0) r.1 = each_weaker (λ f. s.seen f ≡ s.taken r.0) (λ f. s.seen f ≤ s.taken z.0) r.1 (λ f x. omega arith) (laws.stamped h n r.0 r.1 r.3) in (
        z.0,
        z.1,
        z.2,
        r.1 ++ z.3,
        z.4,
        (λ es. rw (handled, ← append_assoc down r.1 z.3) (z.5 es)),
        z.6,
        cc (append_assoc r.1 z.3 z.4),
        z.8,
        omega arith,
        omega arith,
        omega arith,
        each_append (λ f. s.seen f ≤ s.taken z.0) r.1 z.3 first z.12,
      )
  advance j h t up rest down later more left k e u w q = grind (arith, append-nil)

  -- the rest of the log, from a world that the law's facts describe
  settles_from : (es : List TermLog) (h : H) (t : T) (up rest : List M) (down later : List F) (k : H)
      (frames : List F) (messages : List M) (u : T) (left : List M) (below : List F)
      → HostRuns s h rest later k
      → TermRuns s t es frames messages u
      → up ++ messages ≡ rest ++ left
      → down ++ later ≡ frames ++ below
      → s.sent t ≡ s.taken h + length up
      → Each (λ f. s.seen f ≤ s.taken h) down
      → run s (world h t up down) (merged_from (s.taken h) es (s.taken k)) ≡ Some (world k u left below)
  settles_from [] h t up rest down later k frames messages u left below hr tr ups downs sent old =
      let count = counted h rest later k hr in
      let whole : up ≡ rest ++ left = cc (append-nil up) in
      let z = advance (length rest) h t up rest down later messages left k (omega (arith, ap (λ (x : List M). length x) whole, length-append rest left)) (omega arith) ups hr in
      let done : z.2 ≡ [] = nil_from_length z.2 (omega arith) in
      let number : s.taken k - s.taken h ≡ length rest = omega arith in
      let end = rw done at z.6 in
      rw number (cc (z.5 [], append-nil (replicate (length rest) event.HostTake), append-nil z.1, append-nil z.3, end.0, end.1, rw done at z.8, rw tr.0 at downs))
  settles_from (log.User e ∷ es) h t up rest down later k frames messages u left below hr tr ups downs sent old =
      let kept = laws.user t e in
      settles_from es h (s.user t e) up rest down later k frames messages u left below hr tr ups downs (omega arith) old
  settles_from (log.Act ∷ es) h t up rest down later k frames messages u left below hr tr ups downs sent old =
      let counts = laws.act t tr.0 tr.1 tr.3 in
      rw tr.3 (settles_from es h tr.0 (up ++ tr.1) rest down later k frames tr.2 u left below hr tr.5 (cc (append_assoc up tr.1 tr.2)) downs (omega (arith, length-append up tr.1)) old)
  settles_from (log.Flush ∷ es) h t up rest down later k frames messages u left below hr tr ups downs sent old =
      let counts = laws.flush t tr.0 tr.1 tr.3 in
      rw tr.3 (settles_from es h tr.0 (up ++ tr.1) rest down later k frames tr.2 u left below hr tr.5 (cc (append_assoc up tr.1 tr.2)) downs (omega (arith, length-append up tr.1)) old)
  settles_from (log.Take q ∷ es) h t up rest down later k frames messages u left below hr tr ups downs sent old =
      let f = tr.0 in
      let count = counted h rest later k hr in
      let past = laws.past t tr.2 f tr.3 tr.7 in
      let counts = laws.receive t tr.2 f tr.3 tr.7 in
      let here : down ++ later ≡ f ∷ (tr.1 ++ below) = rw tr.5 at downs in
      let P : F → Type 0 = λ x. s.seen x ≤ s.taken k in
      let low : Each P (down ++ later) =
      each_append P down later (each_weaker (λ x. s.seen x ≤ s.taken h) P down (λ x e. omega arith) old) (stamps P h rest later k hr (λ x a b. b)) in
      let bound : s.seen f ≤ s.taken k = (subst (λ (x : List F). Each P x) here low).0 in
      let z = advance (q - s.taken h) h t up rest down later messages left k (omega arith) (omega arith) ups hr in
      let reached : s.taken z.0 ≡ max (s.taken h) q = omega arith in
      let joined : (down ++ z.3) ++ z.4 ≡ f ∷ (tr.1 ++ below) = cc (append_assoc down z.3 z.4) in
      let Q : F → Type 0 = λ x. s.seen x ≤ s.taken z.0 in
      let seen : Each Q (down ++ z.3) = each_append Q down z.3 (each_weaker (λ x. s.seen x ≤ s.taken h) Q down (λ x e. omega arith) old) z.12 in
      let Ahead : F → Type 0 = λ x. s.taken z.0 < s.seen x in
      let events : List Event = merged_from (max (s.taken h) q) es (s.taken k) in
      elim (front (down ++ z.3) z.4 f (tr.1 ++ below) joined) [
        | inl none ↦ absurd (let ahead : s.taken z.0 < s.seen f = (subst (λ (x : List F). Each Ahead x) none.1 (stamps Ahead z.0 z.2 z.4 k z.6 (λ x a b. a))).0 in omega arith)
        | inr some ↦
            rw (append_assoc (takes (q - s.taken h)) (event.TermTake ∷ []) events, z.5 (event.TermTake ∷ events), some.1, tr.7, ← reached)
            (settles_from es z.0 tr.2 (z.1 ++ tr.3) z.2 some.0 z.4 k tr.1 tr.4 u left below z.6 tr.9 (cc (append_assoc z.1 tr.3 tr.4)) some.2 (omega (arith, length-append z.1 tr.3))
            (subst (λ (x : List F). Each Q x) some.1 seen).1)
      ]

  -- from the start: what the host handled begins what the terminal composed, what the terminal took begins what the host answered
  pub settles : (es : List TermLog) (h k : H) (t u : T) (handled left : List M) (frames below : List F)
      → s.taken h ≡ 0 → s.sent t ≡ 0
      → HostRuns s h handled (frames ++ below) k
      → TermRuns s t es frames (handled ++ left) u
      → run s (world h t [] []) (merged es (s.taken k)) ≡ Some (world k u left below)
  settles es h k t u handled left frames below taken sent hr tr = grind (arith, settles_from)

  -- so the merge meets no Take above the host's count
  pub fits : (es : List TermLog) (h k : H) (t u : T) (handled ms : List M) (frames below : List F)
      → HostRuns s h handled (frames ++ below) k → TermRuns s t es frames ms u → FitsUnder es (s.taken k)
  fits es h k t u handled ms frames below hr tr =
      fits_from s (s.taken k) es t u frames ms (each_front (λ f. s.seen f ≤ s.taken k) frames below (stamps (λ f. s.seen f ≤ s.taken k) h handled (frames ++ below) k hr (λ f a b. b))) tr

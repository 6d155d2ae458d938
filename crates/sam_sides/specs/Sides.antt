-- Two sides that hand messages to each other, and what each did.
use Rattle.std.specs.Prelude.{◌≡◌, ℕ, List, [], ◌∷◌, ◌++◌, Option, Some}
use Rattle.sam_term.specs.declared.event.UserEvent.{UserEvent}
use Rattle.sam_sides.specs.declared.log.TermLog.{TermLog}
use Rattle.sam_sides.specs.declared.log.TermLog.TheVariants as log

-- P holds of each member
abbrev pub Each : {X : Type 0} → (X → Type 0) → List X → Type 0
Each P [] = Unit {0}
Each P (x ∷ xs) = P x × Each P xs

-- The steps of a host H and a terminal T over messages M and frames F. None is a refusal.
pub record Steps (H T M F : Type 0) : Type 0 where
  pub handle : H → M → Option (H × List F)
  pub taken : H → ℕ
  pub user : T → UserEvent → T
  pub act : T → Option (T × List M)
  pub flush : T → Option (T × List M)
  pub receive : T → F → Option (T × List M)
  pub sent : T → ℕ
  pub seen : F → ℕ

module _ {H T M F : Type 0} (s : Steps H T M F) where
  -- the host handles the messages in order, and answers the frames
  abbrev pub HostRuns : H → List M → List F → H → Type 0
  HostRuns h [] fs k = (fs ≡ []) × (k ≡ h)
  HostRuns h (m ∷ ms) fs k =
      (j : H) × (answer : List F) × (rest : List F) × (s.handle h m ≡ Some (j, answer)) × (fs ≡ answer ++ rest) × HostRuns j ms rest k

  -- the terminal goes through its log, takes the frames in order, each Take bearing its frame's stamp, and composes the messages
  abbrev pub TermRuns : T → List TermLog → List F → List M → T → Type 0
  TermRuns t [] fs ms u = (fs ≡ []) × (ms ≡ []) × (u ≡ t)
  TermRuns t (log.User e ∷ es) fs ms u = TermRuns (s.user t e) es fs ms u
  TermRuns t (log.Act ∷ es) fs ms u =
      (v : T) × (some : List M) × (rest : List M) × (s.act t ≡ Some (v, some)) × (ms ≡ some ++ rest) × TermRuns v es fs rest u
  TermRuns t (log.Flush ∷ es) fs ms u =
      (v : T) × (some : List M) × (rest : List M) × (s.flush t ≡ Some (v, some)) × (ms ≡ some ++ rest) × TermRuns v es fs rest u
  TermRuns t (log.Take k ∷ es) fs ms u =
      (f : F) × (gs : List F) × (v : T) × (some : List M) × (rest : List M)
      × (fs ≡ f ∷ gs) × (s.seen f ≡ k) × (s.receive t f ≡ Some (v, some)) × (ms ≡ some ++ rest) × TermRuns v es gs rest u

-- The first host, a new terminal and nothing under way are in order.
use Rattle.sam_crossing.proofs.Common.{◌≡◌, ℕ, suc, Bool, true, false, nat_lt, List, [], ◌∷◌, length, Option, Some, None, refl, sym, true≢false, arith, unwrap_or, Slots, slot, PlainFile, blank_file, PlainHost, new_host, given_slots, starts_sound, new_terminal, Unknown, Fits_slot, view, file_of_slot, IsSteady, AllComeToSync, views, InOrder}
use Rattle.sam_host.specs.Laws.{AreGiven}

-- neither open nor announced
abbrev pub IsShut : Option PlainFile → Type 0
IsShut None = Unit
IsShut (Some x) = (x.opened ≡ false) × (x.announced ≡ false)

pub given_shut : (given : List (List ℕ × List ℕ)) (g : ℕ) → IsShut (slot (given_slots given) g)
given_shut [] g = grind arith
given_shut (x ∷ more) g = grind (arith, (given_shut more))

all_shut : (given : List (List ℕ × List ℕ)) (g : ℕ) → IsShut (slot (new_host given).files.slots g)
all_shut given g = grind (arith, given_shut)

pub shut_fits : (b : Bool) (s : Option PlainFile) → IsShut s → Fits_slot Unknown (file_of_slot b s)
shut_fits b s e = grind arith

pub shut_announced : (s : Option PlainFile) → IsShut s → (unwrap_or s blank_file).opened ≡ true → (unwrap_or s blank_file).announced ≡ true
shut_announced s e u = grind arith

pub starts : (given : List (List ℕ × List ℕ)) → AreGiven given → InOrder (new_host given) new_terminal [] []
starts given fit = record { kept = kept; tidy = λ f. (omega arith, omega arith, omega arith); unsent = tt }
  where
    h : PlainHost
    h = new_host given

    ss : Slots PlainFile
    ss = h.files.slots

    none_works : (f : ℕ) → h.files.work ≡ Some f → ⊥
    none_works f e = cc

    steady : IsSteady h
    steady =
        let sound = starts_sound given fit in
        record { sound = grind (arith, none_works); announced = λ f. shut_announced (slot ss (suc f)) (all_shut given (suc f)); fit = sound.files }

    kept : AllComeToSync h (views new_terminal) [] []
    kept = record {
      ahead = h;
      frames = [];
      folds = refl;
      each = λ g. record {
        final = view g new_terminal;
        runs = refl;
        synced = (refl, refl, refl, shut_fits (nat_lt g (length ss)) (slot ss g) (all_shut given g));
        guarded = tt;
        closed = λ e. absurd (true≢false (sym e));
      };
      steady = steady;
      versions = tt;
    }

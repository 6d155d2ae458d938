-- A file that is free: no lock holds an event on it back.
use Rattle.std.proofs.Common.{◌≡◌, ◌≢◌, ℕ, false, ◌==◌, List, [], ◌∷◌, length, is_none, slice_get, Some, option_map, Ok, arith, refl}
use Rattle.sam_runes.specs.Texts.{is_empty}
use Rattle.sam_crossing.specs.World.{is_locked}
use Rattle.sam_term.specs.Events.{file_of, waits_for_all}
unfoldable use Rattle.sam_term.specs.Term.{act_of}
use Rattle.sam_term.specs.Term.{PlainTerminal}
use Rattle.sam_term.specs.declared.event.Acted.TheVariants.{Locked}
use Rattle.sam_term.specs.declared.event.UserEvent.{UserEvent}

-- none is held
pub none_held : {X : Type 0} (xs : List X) → (length xs == 0) ≡ is_empty xs
none_held [] = refl
none_held (x ∷ xs) = grind arith

-- none waits
pub none_next : {X Y : Type 0} (f : X → Y) (xs : List X) → is_none (option_map f (slice_get xs 0)) ≡ is_empty xs
none_next f [] = refl
none_next f (x ∷ xs) = grind arith

-- an event on a file waits neither for the command lock nor for a lock of the file where neither is held
pub decides : (t : PlainTerminal) (tag : ℕ) (event : UserEvent) → is_locked t tag ≡ false → file_of event ≡ Some tag → waits_for_all event ≡ false
    → act_of (record t { held = event ∷ [] }) ≢ Ok (record t { held = event ∷ [] }, Locked)
unfolding act_of
decides t tag event free of alone = λ same. grind (arith, free, of, alone, same)

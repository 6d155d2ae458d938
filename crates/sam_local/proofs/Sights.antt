-- What of the terminal is left once all is loaded: its files but for their runes and locks. Frames act on that by itself.
use Rattle.sam_crossing.proofs.Common.{◌≡◌, ℕ, zero, suc, false, List, [], ◌∷◌, Some, None, refl, sym, ap, ◌∙◌, ◌≢◌, arith, Slots, slot, put_slot, free_slot, slot-map, KnownFile, PlainFiles, PlainHost, PlainTerminal, known_at, put_known, file_at}
use Rattle.sam_runes.specs.Slots.{map_slots}
use Rattle.sam_local.specs.Local.{whole_file, whole_slots, at_rest}

-- ## Slots

pub map-put : {X Y : Type 0} (c : X → Y) (ss : Slots X) (f : ℕ) (x : X) → map_slots c (put_slot ss f x) ≡ put_slot (map_slots c ss) f (c x)
map-put c [] zero x = refl
map-put c [] (suc f) x = ap (λ rest. None ∷ rest) (map-put c [] f x)
map-put c (None ∷ ss) zero x = refl
map-put c (Some y ∷ ss) zero x = refl
map-put c (None ∷ ss) (suc f) x = ap (λ rest. None ∷ rest) (map-put c ss f x)
map-put c (Some y ∷ ss) (suc f) x = ap (λ rest. Some (c y) ∷ rest) (map-put c ss f x)

pub map-free : {X Y : Type 0} (c : X → Y) (ss : Slots X) (f : ℕ) → map_slots c (free_slot ss f) ≡ free_slot (map_slots c ss) f
map-free c [] f = refl
map-free c (None ∷ ss) zero = refl
map-free c (Some y ∷ ss) zero = refl
map-free c (None ∷ ss) (suc f) = ap (λ rest. None ∷ rest) (map-free c ss f)
map-free c (Some y ∷ ss) (suc f) = ap (λ rest. Some (c y) ∷ rest) (map-free c ss f)

-- a change after which another leaves no trace of it
pub map-twice : {X : Type 0} (c d : X → X) → ((x : X) → c (d x) ≡ c x) → (ss : Slots X) → map_slots c (map_slots d ss) ≡ map_slots c ss
map-twice c d e [] = refl
map-twice c d e (None ∷ ss) = ap (λ rest. None ∷ rest) (map-twice c d e ss)
map-twice c d e (Some x ∷ ss) = λ i. Some (e x i) ∷ map-twice c d e ss i

-- what was put in again changes nothing
pub put-again : {X : Type 0} (ss : Slots X) (f : ℕ) (x : X) → slot ss f ≡ Some x → put_slot ss f x ≡ ss
put-again [] f x e = grind arith
put-again (s ∷ ss) zero x e = ap (λ first. first ∷ ss) (sym e)
put-again (s ∷ ss) (suc f) x e = ap (λ rest. s ∷ rest) (put-again ss f x e)

-- two tags in either order
pub put-put : {X : Type 0} (ss : Slots X) (f g : ℕ) (x y : X) → f ≢ g → put_slot (put_slot ss f x) g y ≡ put_slot (put_slot ss g y) f x
put-put ss zero zero x y n = absurd (n refl)
put-put [] zero (suc g) x y n = refl
put-put [] (suc f) zero x y n = refl
put-put [] (suc f) (suc g) x y n = ap (λ rest. None ∷ rest) (put-put [] f g x y (λ e. n (ap suc e)))
put-put (s ∷ ss) zero (suc g) x y n = refl
put-put (s ∷ ss) (suc f) zero x y n = refl
put-put (s ∷ ss) (suc f) (suc g) x y n = ap (λ rest. s ∷ rest) (put-put ss f g x y (λ e. n (ap suc e)))

pub put-free : {X : Type 0} (ss : Slots X) (f g : ℕ) (x : X) → f ≢ g → free_slot (put_slot ss f x) g ≡ put_slot (free_slot ss g) f x
put-free ss zero zero x n = absurd (n refl)
put-free [] zero (suc g) x n = refl
put-free [] (suc f) zero x n = refl
put-free [] (suc f) (suc g) x n = ap (λ rest. None ∷ rest) (put-free [] f g x (λ e. n (ap suc e)))
put-free (s ∷ ss) zero (suc g) x n = refl
put-free (s ∷ ss) (suc f) zero x n = refl
put-free (s ∷ ss) (suc f) (suc g) x n = ap (λ rest. s ∷ rest) (put-free ss f g x (λ e. n (ap suc e)))

-- ## Sights

-- a file but for its runes and locks
abbrev pub bare : KnownFile → KnownFile
bare known = whole_file [] known

-- the terminal but for runes, locks, held events, unsent runes and counts
abbrev pub sight : PlainTerminal → PlainTerminal
sight t = record t { files = map_slots bare t.files; command_lock = false; unsent = None; held = []; sent = 0 }

pub bare-bare : (known : KnownFile) → bare (bare known) ≡ bare known
bare-bare known = grind arith

whole-bare : (text : List ℕ) (known : KnownFile) → whole_file text (bare known) ≡ whole_file text known
whole-bare text known = grind arith

pub sight-sight : (t : PlainTerminal) → sight (sight t) ≡ sight t
sight-sight t = λ i. record (sight t) { files = map-twice bare bare bare-bare t.files i }

-- at rest a sight is all that is left
whole-sight : (fs : PlainFiles) (f : ℕ) (ss : Slots KnownFile) → whole_slots fs f (map_slots bare ss) ≡ whole_slots fs f ss
whole-sight fs f [] = refl
whole-sight fs f (None ∷ ss) = ap (λ rest. None ∷ rest) (whole-sight fs (suc f) ss)
whole-sight fs f (Some known ∷ ss) = λ i. Some (whole-bare (file_at fs f).text known i) ∷ whole-sight fs (suc f) ss i

rest-sight : (h : PlainHost) (t : PlainTerminal) → at_rest h (sight t) ≡ at_rest h t
rest-sight h t = λ i. record (at_rest h t) { term = record (at_rest h t).term { files = whole-sight h.files 0 t.files i } }

pub rests : (h : PlainHost) (t u : PlainTerminal) → sight t ≡ sight u → at_rest h t ≡ at_rest h u
rests h t u e = sym (rest-sight h t) ∙ ap (at_rest h) e ∙ rest-sight h u

bare-whole : (text : List ℕ) (known : KnownFile) → bare (whole_file text known) ≡ bare known
bare-whole text known = grind arith

bare-slots : (fs : PlainFiles) (f : ℕ) (ss : Slots KnownFile) → map_slots bare (whole_slots fs f ss) ≡ map_slots bare ss
bare-slots fs f [] = refl
bare-slots fs f (None ∷ ss) = ap (λ rest. None ∷ rest) (bare-slots fs (suc f) ss)
bare-slots fs f (Some known ∷ ss) = λ i. Some (bare-whole (file_at fs f).text known i) ∷ bare-slots fs (suc f) ss i

pub sight-rest : (h : PlainHost) (t : PlainTerminal) → sight (at_rest h t).term ≡ sight t
sight-rest h t = λ i. record (sight t) { files = bare-slots h.files 0 t.files i }

-- ## Files of a sight

pub known-sight : (t : PlainTerminal) (f : ℕ) → known_at (sight t) f ≡ bare (known_at t f)
known-sight t f = grind (arith, slot-map)

pub sight-put : (t : PlainTerminal) (f : ℕ) (x : KnownFile) → sight (put_known t f x) ≡ put_known (sight t) f (bare x)
sight-put t f x = λ i. record (sight t) { files = map-put bare t.files f x i }

-- a change of one file of which the sight tells all
abbrev pub IsSeen : (KnownFile → KnownFile) → Type 0
IsSeen d = (known : KnownFile) → bare (d (bare known)) ≡ bare (d known)

abbrev pub turned : PlainTerminal → ℕ → (KnownFile → KnownFile) → PlainTerminal
turned t f d = put_known t f (d (known_at t f))

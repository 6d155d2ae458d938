-- The files of the host by slot, as the crossing sees them: what is there, and what becomes of all where one is put or dropped.
use Rattle.sam_crossing.proofs.Common.{◌≡◌, ℕ, ◌<◌, ◌≤◌, Bool, true, false, if◌then◌else◌, ◌==◌, List, length, Option, Some, None, is_some, ◌⊎◌, refl, sym, ap, ◌∙◌, subst, arith, eq-eqb, nat_lt, unwrap_or, le-ltb, length-append, Slots, slot, put_slot, free_slot, put_slot-push, slot-put_same, slot-put_other, slot-free_same, slot-free_other, slot_given, slot_past, length-put_slot, length-free_slot, PlainFile, PlainFiles, file_at, has_file, blank_file, HFile, Absent, Hidden, Named, Opened, Gone, IsOpened, IsCommandFile, file_of, file_of_slot, file_in, HasFiles}

-- the files with another one at f
abbrev pub put : (ℕ → HFile) → ℕ → HFile → ℕ → HFile
put m f x g = if g == f then x else m g

pub put_same : (m : ℕ → HFile) (f : ℕ) (x : HFile) → put m f x f ≡ x
put_same m f x = ap (λ (b : Bool). if b then x else m f) (eq-eqb f f refl)

pub put_again : (m : ℕ → HFile) (f : ℕ) (y : HFile) (g : ℕ) → m f ≡ y → m g ≡ put m f y g
put_again m f y g e = grind arith

-- ## One slot put, dropped or added

pub file_in-put : (ss : Slots PlainFile) (f : ℕ) (x : PlainFile) → f < length ss → (g : ℕ) → file_in (put_slot ss f x) g ≡ put (file_in ss) f (file_of x) g
file_in-put ss f x l g = grind (arith, slot-put_same, length-put_slot, slot-put_other)

pub file_in-free : (ss : Slots PlainFile) (f : ℕ) → f < length ss → (g : ℕ) → file_in (free_slot ss f) g ≡ put (file_in ss) f Gone g
file_in-free ss f l g = grind (arith, length-free_slot, slot-free_same, slot-free_other)

pub file_in-push : (ss : Slots PlainFile) (x : PlainFile) (g : ℕ) → file_in (put_slot ss (length ss) x) g ≡ put (file_in ss) (length ss) (file_of x) g
file_in-push ss x g = grind (arith, put_slot-push, length-append, slot-put_same, slot-put_other)

-- a slot past the last is a file that was not given yet
pub not_given : (ss : Slots PlainFile) (g : ℕ) → length ss ≤ g → file_in ss g ≡ Absent
not_given ss g l = λ i. file_of_slot (le-ltb g (length ss) l i) (slot_past ss g l i)

-- ## A file that is there

pub in_slots : (fs : PlainFiles) (f : ℕ) (x : PlainFile) → slot fs.slots f ≡ Some x → f < length fs.slots
in_slots fs f x e = slot_given fs.slots f (ap is_some e)

pub at_there : (fs : PlainFiles) (f : ℕ) (x : PlainFile) → slot fs.slots f ≡ Some x → file_at fs f ≡ x
at_there fs f x e = ap (λ (s : Option PlainFile). unwrap_or s blank_file) e

-- a file that is open, or closed with this mark
pub record IsThere (fs : PlainFiles) (f : ℕ) (announced : Bool) : Type 0 where
  pub file : PlainFile
  pub there : slot fs.slots f ≡ Some file
  pub kind : ((file_at fs f).opened ≡ true) ⊎ (((file_at fs f).opened ≡ false) × ((file_at fs f).announced ≡ announced))

pub is_there : (fs : PlainFiles) (f : ℕ) (a : Bool) (P : HFile → Type 0) → (P Absent → ⊥) → (P Gone → ⊥) → ((t : List ℕ) → P (if a then Hidden t else Named t) → ⊥) → P (file_in fs.slots f)
    → IsThere fs f a
is_there fs f a P none gone other p = go (slot fs.slots f) refl (nat_lt f (length fs.slots)) p
  where
    go : (s : Option PlainFile) → slot fs.slots f ≡ s → (b : Bool) → P (file_of_slot b s) → IsThere fs f a
    go None q b p = grind arith
    go (Some x) q b p = grind (arith, (at_there fs f x q), (other x.text))

-- the file there, as it is read by its tag
pub shown_at : (fs : PlainFiles) (f : ℕ) (x : PlainFile) → slot fs.slots f ≡ Some x → file_in fs.slots f ≡ file_of (file_at fs f)
shown_at fs f x e = grind arith

pub file_opened : (x : PlainFile) → x.opened ≡ true → file_of x ≡ Opened x.text
file_opened x e = ap (λ (b : Bool). if b then Opened x.text else if x.announced then Named x.text else Hidden x.text) e

pub file_hidden : (x : PlainFile) → x.opened ≡ false → x.announced ≡ false → file_of x ≡ Hidden x.text
file_hidden x e q = λ i. if e i then Opened x.text else if q i then Named x.text else Hidden x.text

pub file_named : (x : PlainFile) → x.opened ≡ false → x.announced ≡ true → file_of x ≡ Named x.text
file_named x e q = λ i. if e i then Opened x.text else if q i then Named x.text else Hidden x.text

-- the tag holds an open file
pub record Opens (fs : PlainFiles) (f : ℕ) : Type 0 where
  pub given : f < length fs.slots
  pub there : has_file fs f ≡ true
  pub opened : (file_at fs f).opened ≡ true
  pub shown : file_in fs.slots f ≡ Opened (file_at fs f).text

-- and this is its text
pub opens_at : (fs : PlainFiles) (f : ℕ) (t : List ℕ) → file_in fs.slots f ≡ Opened t → Opens fs f × ((file_at fs f).text ≡ t)
opens_at fs f t e = grind (arith, in_slots)

-- a file that was closed: its tag was given and holds nothing
pub gone_at : (ss : Slots PlainFile) (f : ℕ) → file_in ss f ≡ Gone → (f < length ss) × (slot ss f ≡ None)
gone_at ss f e = grind arith

-- the work file is open
pub work_opens : (fs : PlainFiles) (f : ℕ) → IsOpened (file_in fs.slots f) → Opens fs f
work_opens fs f o = grind (arith, opens_at)

-- an open file is put in its place
pub put_opened : (fs : PlainFiles) (f : ℕ) → f < length fs.slots → (x : PlainFile) → x.opened ≡ true → (g : ℕ) → file_in (put_slot fs.slots f x) g ≡ put (file_in fs.slots) f (Opened x.text) g
put_opened fs f l x e g = file_in-put fs.slots f x l g ∙ ap (λ (y : HFile). put (file_in fs.slots) f y g) (file_opened x e)

-- ## What lasts

-- no file that was closed comes back, none that is open is closed, and the command file stays
pub record Lasts (a b : ℕ → HFile) : Type 0 where
  pub gone : (g : ℕ) → a g ≡ Gone → b g ≡ Gone
  pub opened : (g : ℕ) → IsOpened (a g) → IsOpened (b g)
  pub commands : IsCommandFile (a 0) → IsCommandFile (b 0)

pub lasts_same : (a b : ℕ → HFile) → ((g : ℕ) → b g ≡ a g) → Lasts a b
lasts_same a b same = record { gone = λ g e. same g ∙ e; opened = λ g o. subst IsOpened (sym (same g)) o; commands = λ c. subst IsCommandFile (sym (same 0)) c }

pub lasts_then : (a b c : ℕ → HFile) → Lasts a b → Lasts b c → Lasts a c
lasts_then a b c x y = record { gone = λ g e. y.gone g (x.gone g e); opened = λ g o. y.opened g (x.opened g o); commands = λ k. y.commands (x.commands k) }

-- one file is another, which is open or what it was before
pub lasts_put : (a b : ℕ → HFile) (f : ℕ) (x : HFile) → (a f ≡ Gone → ⊥) → (IsOpened (a f) → IsOpened x) → (f ≡ 0 → IsCommandFile (a 0) → IsCommandFile x) → ((g : ℕ) → b g ≡ put a f x g) → Lasts a b
lasts_put a b f x there opened commands is = grind arith

-- an open file has another text
pub lasts_opened : (a b : ℕ → HFile) (f : ℕ) (t t2 : List ℕ) → a f ≡ Opened t → ((g : ℕ) → b g ≡ put a f (Opened t2) g) → Lasts a b
lasts_opened a b f t t2 e is = lasts_put a b f (Opened t2) (λ q. let y : Opened t ≡ Gone = sym e ∙ q in cc) (λ o. tt) (λ z c. tt) is

-- the host has its files still
pub still_has : (fs gs : PlainFiles) → HasFiles fs → gs.work ≡ fs.work → Lasts (file_in fs.slots) (file_in gs.slots) → HasFiles gs
still_has fs gs k w l = record { works = λ f e. (l.opened f (k.works f (sym w ∙ e)).0, (k.works f (sym w ∙ e)).1); commands = l.commands k.commands }

-- and a work file that is open
pub works_on : (fs gs : PlainFiles) (f : ℕ) → HasFiles fs → gs.work ≡ Some f → (f == 0) ≡ false → IsOpened (file_in gs.slots f) → Lasts (file_in fs.slots) (file_in gs.slots) → HasFiles gs
works_on fs gs f k w z o l = grind arith

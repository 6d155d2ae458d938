-- Frames act on the sight of a terminal, and a change of one file moves past the frames of others.
use Rattle.sam_crossing.proofs.Common.{◌≡◌, ℕ, Bool, true, false, not, ◌==◌, ◌||◌, List, [], ◌∷◌, ◌++◌, map, replicate, Option, Some, None, refl, sym, ap, ◌∙◌, ◌≢◌, true≢false, arith, cases_Bool, eqb-true, ◌⊎◌, inl, inr, ◌+◌, ◌-◌, option_map, unwrap_or, eq-eqb, Slots, free_slot, slot-put_same, slot-put_other, slot-free_other, put_slot-put_slot, Hmesg, Hversion, Hbindname, Hcurrent, Hnewname, Hmovname, Hgrow, Hcheck, Hunlock, Hdata, Horigin, Hunlockfile, Hsetdot, Hgrowdata, Hmoveto, Hclean, Hdirty, Hcut, Hsetpat, Hdelname, Hclose, Hack, Hexit, KnownFile, Window, PlainTerminal, known_at, window_at, window_after_ins, window_after_del, put_known, put_window, blank_known, blank_window, new_terminal, effect, took_bindname, took_data, took_grow, took_growdata, took_cut, took_unlockfile, took_close, took_exit}
use Rattle.sam_mesg.specs.declared.hmesg.Hmesg.TheVariants.{Hsetsnarf, Hsnarflen}
use Rattle.sam_runes.specs.Texts.{agreed}
use Rattle.sam_runes.specs.Slots.{map_slots}
use Rattle.sam_term.specs.Term.{freed_known}
use Rattle.sam_local.specs.Local.{whole_window, all_taken}
use Rattle.sam_local.proofs.Sights.{bare, bare-bare, sight, sight-sight, known-sight, sight-put, IsSeen, turned, map-twice, map-free, put-put, put-free}

-- ## A file that is turned into another

pub sight-turned : (t : PlainTerminal) (f : ℕ) (d : KnownFile → KnownFile) → IsSeen d → sight (turned (sight t) f d) ≡ sight (turned t f d)
sight-turned t f d e =
    sight-put (sight t) f (d (known_at (sight t) f)) ∙ (λ i. put_known (sight-sight t i) f (bare (d (known-sight t f i))))
    ∙ ap (λ (x : KnownFile). put_known (sight t) f x) (e (known_at t f)) ∙ sym (sight-put t f (d (known_at t f)))

-- a change of the window alone
abbrev pub in_window : (Window → Window) → KnownFile → KnownFile
in_window y known = record known { window = Some (y (unwrap_or known.window blank_window)) }

abbrev pub IsSeenWindow : (Window → Window) → Type 0
IsSeenWindow y = (w : Window) → whole_window [] (y (whole_window [] w)) ≡ whole_window [] (y w)

pub bare-window : (o : Option Window) → unwrap_or (option_map (whole_window []) o) blank_window ≡ whole_window [] (unwrap_or o blank_window)
bare-window None = refl
bare-window (Some w) = refl

pub seen-window : (y : Window → Window) → IsSeenWindow y → IsSeen (in_window y)
seen-window y e known =
    (λ i. record known { window = Some (whole_window [] (y (bare-window known.window i))) })
    ∙ (λ i. record known { window = Some (e (unwrap_or known.window blank_window) i) })

-- a window after an Hdata
unfoldable pub loaded_window : ℕ → List ℕ → Window → Window
unfolding took_data
loaded_window p s w = window_at (took_data (put_window new_terminal 0 w) 0 p s) 0

-- ## Frames act on the sight

pub bare-freed : (known : KnownFile) → bare (freed_known known) ≡ bare known
bare-freed known = grind arith

pub sight-effect : (t : PlainTerminal) (m : Hmesg) → sight (effect (sight t) m) ≡ sight (effect t m)
unfolding loaded_window took_bindname took_data took_grow took_growdata took_cut took_unlockfile took_close took_exit
sight-effect t (Hversion v) = ap (λ (x : PlainTerminal). record x { version = agreed t.version v }) (sight-sight t)
sight-effect t (Hbindname f) = sight-turned t f (λ known. record known { window = Some blank_window }) (λ known. refl)
sight-effect t (Hcurrent f) = ap (λ (x : PlainTerminal). record x { current = Some f }) (sight-sight t)
sight-effect t (Hnewname f) = sight-turned t f (λ known. blank_known) (λ known. refl)
sight-effect t (Hmovname f s) = sight-turned t f (λ known. record known { name = s }) (λ known i. record (bare-bare known i) { name = s })
sight-effect t (Hgrow f p n) =
    let y : Window → Window = λ w. window_after_ins w p (replicate n None) in sight-turned t f (in_window y) (seen-window y (λ w. refl))
sight-effect t (Hcheck f) = sight-sight t
sight-effect t Hunlock = sight-sight t
sight-effect t (Hdata f p s) =
    sight-turned t f (in_window (loaded_window p s)) (seen-window (loaded_window p s) (λ w. refl))
sight-effect t (Horigin f p) =
    let y : Window → Window = λ w. record w { view_start = p } in sight-turned t f (in_window y) (seen-window y (λ w. refl))
sight-effect t (Hunlockfile f) =
    let y : Window → Window = λ w. record w { locks = w.locks - 1 } in sight-turned t f (in_window y) (seen-window y (λ w. refl))
sight-effect t (Hsetdot f p q) =
    let y : Window → Window = λ w. record w { dot = (p, q) } in sight-turned t f (in_window y) (seen-window y (λ w. refl))
sight-effect t (Hgrowdata f p s) =
    let y : Window → Window = λ w. window_after_ins w p (map Some s) in sight-turned t f (in_window y) (seen-window y (λ w. refl))
sight-effect t (Hmoveto f p) =
    let y : Window → Window = λ w. record w { view_start = p } in sight-turned t f (in_window y) (seen-window y (λ w. refl))
sight-effect t (Hclean f) = sight-turned t f (λ known. record known { dirty = false; changed = false }) (λ known i. record (bare-bare known i) { dirty = false; changed = false })
sight-effect t (Hdirty f) = sight-turned t f (λ known. record known { dirty = true }) (λ known i. record (bare-bare known i) { dirty = true })
sight-effect t (Hcut f p n) =
    let y : Window → Window = λ w. window_after_del w p (p + n) in sight-turned t f (in_window y) (seen-window y (λ w. refl))
sight-effect t (Hsetpat s) = ap (λ (x : PlainTerminal). record x { pattern = s }) (sight-sight t)
sight-effect t (Hdelname f) =
    let twice = map-twice bare bare bare-bare t.files in
    λ i. record (sight t) { files = (map-free bare (map_slots bare t.files) f ∙ ap (λ (ss : Slots KnownFile). free_slot ss f) twice ∙ sym (map-free bare t.files f)) i }
sight-effect t (Hclose f) = sight-turned t f (λ known. record known { window = None }) (λ known. refl)
sight-effect t (Hsetsnarf s) = ap (λ (x : PlainTerminal). record x { snarf = s }) (sight-sight t)
sight-effect t (Hsnarflen n) = ap (λ (x : PlainTerminal). record x { snarf_length = n }) (sight-sight t)
sight-effect t Hack = sight-sight t
sight-effect t Hexit =
    let freed = map-twice bare freed_known bare-freed in
    λ i. record (sight t) { has_exited = true; files = (freed (map_slots bare t.files) ∙ map-twice bare bare bare-bare t.files ∙ sym (freed t.files)) i }

pub sight-taken : (ms : List Hmesg) (t u : PlainTerminal) → sight t ≡ sight u → sight (all_taken t ms) ≡ sight (all_taken u ms)
sight-taken [] t u e = e
sight-taken (m ∷ ms) t u e =
    sight-taken ms (effect t m) (effect u m) (sym (sight-effect t m) ∙ ap (λ (x : PlainTerminal). sight (effect x m)) e ∙ sight-effect u m)

pub taken-append : (xs ys : List Hmesg) (t : PlainTerminal) → all_taken t (xs ++ ys) ≡ all_taken (all_taken t xs) ys
taken-append [] ys t = refl
taken-append (m ∷ xs) ys t = taken-append xs ys (effect t m)

-- ## A turn of one file, past frames

pub known-put_other : (t : PlainTerminal) (f g : ℕ) (x : KnownFile) → f ≢ g → known_at (put_known t f x) g ≡ known_at t g
known-put_other t f g x n = ap (λ (s : Option KnownFile). unwrap_or s blank_known) (slot-put_other t.files f g x n)

pub known-put_same : (t : PlainTerminal) (f : ℕ) (x : KnownFile) → known_at (put_known t f x) f ≡ x
known-put_same t f x = ap (λ (s : Option KnownFile). unwrap_or s blank_known) (slot-put_same t.files f x)

-- turns of two files
apart : (t : PlainTerminal) (f g : ℕ) (c d : KnownFile → KnownFile) → f ≢ g → turned (turned t f c) g d ≡ turned (turned t g d) f c
apart t f g c d n =
    ap (λ (x : KnownFile). put_known (turned t f c) g (d x)) (known-put_other t f g (c (known_at t f)) n)
    ∙ (λ i. record t { files = put-put t.files f g (c (known_at t f)) (d (known_at t g)) n i })
    ∙ sym (ap (λ (x : KnownFile). put_known (turned t g d) f (c x)) (known-put_other t g f (d (known_at t g)) (λ e. n (sym e))))

-- two turns of one file
pub together : (t : PlainTerminal) (f : ℕ) (c d : KnownFile → KnownFile) → turned (turned t f c) f d ≡ turned t f (λ known. d (c known))
together t f c d =
    ap (λ (x : KnownFile). put_known (turned t f c) f (d x)) (known-put_same t f (c (known_at t f)))
    ∙ (λ i. record t { files = put_slot-put_slot t.files f (c (known_at t f)) (d (c (known_at t f))) i })

-- what the user changes of an open file: whether it is changed here, and its window
abbrev pub turn : (Window → Bool) → (Window → Window) → KnownFile → KnownFile
turn x y known = let w = unwrap_or known.window blank_window in record known { changed = x w || known.changed; window = Some (y w) }

-- the frame leaves dot, view and the mark of the user at f alone, and the file open or not as it is
abbrev pub is_gentle : ℕ → Hmesg → Bool
is_gentle f (Hbindname g) = not (f == g)
is_gentle f (Hnewname g) = not (f == g)
is_gentle f (Hgrow g p n) = not (f == g)
is_gentle f (Hdata g p s) = not (f == g)
is_gentle f (Horigin g p) = not (f == g)
is_gentle f (Hunlockfile g) = not (f == g)
is_gentle f (Hsetdot g p q) = not (f == g)
is_gentle f (Hgrowdata g p s) = not (f == g)
is_gentle f (Hmoveto g p) = not (f == g)
is_gentle f (Hclean g) = not (f == g)
is_gentle f (Hcut g p n) = not (f == g)
is_gentle f (Hdelname g) = not (f == g)
is_gentle f (Hclose g) = not (f == g)
is_gentle f Hexit = false
is_gentle f _ = true

-- the two are one, or not
pub cases : (f g : ℕ) → (f ≡ g) ⊎ (f ≢ g)
cases f g = elim (cases_Bool (f == g)) [ inl e ↦ inl (eqb-true f g e) | inr e ↦ inr (λ q. true≢false (sym (eq-eqb f g q) ∙ e)) ]

differ : (f g : ℕ) → not (f == g) ≡ true → f ≢ g
differ f g e n = grind (arith, (eq-eqb f g n))

pub past-frame : (t : PlainTerminal) (f : ℕ) (x : Window → Bool) (y : Window → Window) (m : Hmesg) → is_gentle f m ≡ true
    → sight (effect (turned t f (turn x y)) m) ≡ sight (turned (effect t m) f (turn x y))
unfolding loaded_window took_bindname took_data took_grow took_growdata took_cut took_unlockfile took_close took_exit
past-frame t f x y (Hbindname g) e = ap sight (apart t f g (turn x y) (λ known. record known { window = Some blank_window }) (differ f g e))
past-frame t f x y (Hnewname g) e = ap sight (apart t f g (turn x y) (λ known. blank_known) (differ f g e))
past-frame t f x y (Hmovname g s) e = by (cases f g)
  where
    d : KnownFile → KnownFile
    d known = record known { name = s }

    by : (f ≡ g) ⊎ (f ≢ g) → sight (turned (turned t f (turn x y)) g d) ≡ sight (turned (turned t g d) f (turn x y))
    by (inl q) = rw (← q) (ap sight (together t f (turn x y) d ∙ sym (together t f d (turn x y))))
    by (inr n) = ap sight (apart t f g (turn x y) d n)
past-frame t f x y (Hgrow g p n) e = ap sight (apart t f g (turn x y) (in_window (λ w. window_after_ins w p (replicate n None))) (differ f g e))
past-frame t f x y (Hdata g p s) e = ap sight (apart t f g (turn x y) (in_window (loaded_window p s)) (differ f g e))
past-frame t f x y (Horigin g p) e = ap sight (apart t f g (turn x y) (in_window (λ w. record w { view_start = p })) (differ f g e))
past-frame t f x y (Hunlockfile g) e = ap sight (apart t f g (turn x y) (in_window (λ w. record w { locks = w.locks - 1 })) (differ f g e))
past-frame t f x y (Hsetdot g p q) e = ap sight (apart t f g (turn x y) (in_window (λ w. record w { dot = (p, q) })) (differ f g e))
past-frame t f x y (Hgrowdata g p s) e = ap sight (apart t f g (turn x y) (in_window (λ w. window_after_ins w p (map Some s))) (differ f g e))
past-frame t f x y (Hmoveto g p) e = ap sight (apart t f g (turn x y) (in_window (λ w. record w { view_start = p })) (differ f g e))
past-frame t f x y (Hclean g) e = ap sight (apart t f g (turn x y) (λ known. record known { dirty = false; changed = false }) (differ f g e))
past-frame t f x y (Hdirty g) e = by (cases f g)
  where
    d : KnownFile → KnownFile
    d known = record known { dirty = true }

    by : (f ≡ g) ⊎ (f ≢ g) → sight (turned (turned t f (turn x y)) g d) ≡ sight (turned (turned t g d) f (turn x y))
    by (inl q) = rw (← q) (ap sight (together t f (turn x y) d ∙ sym (together t f d (turn x y))))
    by (inr n) = ap sight (apart t f g (turn x y) d n)
past-frame t f x y (Hcut g p n) e = ap sight (apart t f g (turn x y) (in_window (λ w. window_after_del w p (p + n))) (differ f g e))
past-frame t f x y (Hdelname g) e =
    let n = differ f g e in
    (λ i. record (sight t) { files = map_slots bare (put-free t.files f g (turn x y (known_at t f)) n i) })
    ∙ (λ i. sight (put_known (effect t (Hdelname g)) f (turn x y (unwrap_or (sym (slot-free_other t.files g f (λ q. n (sym q))) i) blank_known))))
past-frame t f x y (Hclose g) e = ap sight (apart t f g (turn x y) (λ known. record known { window = None }) (differ f g e))
past-frame t f x y Hexit e = absurd (true≢false (sym e))
past-frame t f x y m e = refl

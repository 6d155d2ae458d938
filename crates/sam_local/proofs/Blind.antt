-- Which files are dirty decides nothing at the terminal: frames and events do the same to one that has forgotten it.
use Rattle.sam_crossing.proofs.Common.{◌≡◌, ℕ, suc, ◌+◌, ◌-◌, Bool, true, false, not, ◌==◌, ◌&&◌, ◌||◌, if◌then◌else◌, List, [], ◌∷◌, ◌++◌, length, map, replicate, Option, Some, None, is_some, option_map, unwrap_or, refl, sym, ap, ◌∙◌, subst, arith, true≢false, eqb-true, nat_lt, max_runes, first_of_checks, Slots, slot, free_slot, slot-map, slot-free_same, slot-free_other, PlainFiles, file_at, Ttype, Tcut, Tpaste, Tsnarf, Tlook, Tsearch, Tsend, Tworkfile, Torigin, Hmesg, Hversion, Hbindname, Hcurrent, Hnewname, Hmovname, Hgrow, Hcheck, Hunlock, Hdata, Horigin, Hunlockfile, Hsetdot, Hgrowdata, Hmoveto, Hclean, Hdirty, Hcut, Hsetpat, Hdelname, Hclose, Hack, Hexit, KnownFile, Window, PlainHost, PlainTerminal, UserEvent, known_at, window_at, window_of, is_known, is_unknown, is_closed, is_file_locked, is_any_locked, has_bad_place, makes_too_long, event_checks, waits_for_all, window_after_ins, window_after_del, moved_unsent, place_after_ins, place_after_del, put_known, cut_message, blank_known, blank_window, effect, took_bindname, took_data, took_grow, took_growdata, took_cut, took_unlockfile, took_close, took_exit}
use Rattle.sam_mesg.specs.declared.hmesg.Hmesg.TheVariants.{Hsetsnarf, Hsnarflen}
use Rattle.sam_runes.specs.Texts.{agreed}
use Rattle.sam_runes.specs.Slots.{map_slots}
use Rattle.sam_term.specs.Events.{file_of, needs_open, is_bad_version, is_for_command_file}
use Rattle.sam_term.specs.Term.{freed_known, has_long_text}
use Rattle.sam_term.specs.declared.event.Verdict.TheVariants.{Waits, Refuses}
use Rattle.sam_term.specs.declared.event.UserEvent.TheVariants.{Typed, Select, Cut, Paste, Snarf, Look, Search, Send, Dclick, Scroll, View, Load, Edit, Work}
use Rattle.sam_term.specs.declared.fault.Refusal.TheVariants as refusal
use Rattle.sam_local.specs.Local.{at_rest, clean_known, whole_file, whole_slots}
use Rattle.sam_local.proofs.Sights.{map-put, map-free, map-twice, turned}
use Rattle.sam_local.proofs.Frames.{in_window, known-put_other, known-put_same, loaded_window, turn}
use Rattle.sam_local.proofs.Events.{Turning, altered_by, told}

-- ## The terminal but for its dirty marks

abbrev pub forget : PlainTerminal → PlainTerminal
forget t = record t { files = map_slots clean_known t.files }

clean-clean : (known : KnownFile) → clean_known (clean_known known) ≡ clean_known known
clean-clean known = refl

forget-forget : (t : PlainTerminal) → forget (forget t) ≡ forget t
forget-forget t = λ i. record t { files = map-twice clean_known clean_known clean-clean t.files i }

pub known-forget : (t : PlainTerminal) (f : ℕ) → known_at (forget t) f ≡ clean_known (known_at t f)
known-forget t f = grind (arith, slot-map)

pub window-forget : (t : PlainTerminal) (f : ℕ) → window_of (forget t) f ≡ window_of t f
window-forget t f = ap (λ (known : KnownFile). known.window) (known-forget t f)

pub forget-put : (t : PlainTerminal) (f : ℕ) (x : KnownFile) → forget (put_known t f x) ≡ put_known (forget t) f (clean_known x)
forget-put t f x = λ i. record (forget t) { files = map-put clean_known t.files f x i }

-- ## Frames

-- a change of one file that marks don't decide
abbrev IsBlind : (KnownFile → KnownFile) → Type 0
IsBlind d = (known : KnownFile) → clean_known (d (clean_known known)) ≡ clean_known (d known)

forget-turned : (t : PlainTerminal) (f : ℕ) (d : KnownFile → KnownFile) → IsBlind d → forget (turned (forget t) f d) ≡ forget (turned t f d)
forget-turned t f d e =
    forget-put (forget t) f (d (known_at (forget t) f)) ∙ (λ i. put_known (forget-forget t i) f (clean_known (d (known-forget t f i))))
    ∙ ap (λ (x : KnownFile). put_known (forget t) f x) (e (known_at t f)) ∙ sym (forget-put t f (d (known_at t f)))

-- and the unsent runes move
forget-moved : (t : PlainTerminal) (f g : ℕ) (d : KnownFile → KnownFile) (moved : ℕ → ℕ) → IsBlind d
    → forget (record (turned (forget t) f d) { unsent = moved_unsent g moved t.unsent }) ≡ forget (record (turned t f d) { unsent = moved_unsent g moved t.unsent })
forget-moved t f g d moved e = ap (λ (x : PlainTerminal). record x { unsent = moved_unsent g moved t.unsent }) (forget-turned t f d e)

forget-effect : (t : PlainTerminal) (m : Hmesg) → forget (effect (forget t) m) ≡ forget (effect t m)
unfolding loaded_window took_bindname took_data took_grow took_growdata took_cut took_unlockfile took_close took_exit
forget-effect t (Hversion v) = ap (λ (x : PlainTerminal). record x { version = agreed t.version v }) (forget-forget t)
forget-effect t (Hbindname f) = forget-turned t f (λ known. record known { window = Some blank_window }) (λ known. refl)
forget-effect t (Hcurrent f) = ap (λ (x : PlainTerminal). record x { current = Some f }) (forget-forget t)
forget-effect t (Hnewname f) = forget-turned t f (λ known. blank_known) (λ known. refl)
forget-effect t (Hmovname f s) = forget-turned t f (λ known. record known { name = s }) (λ known. refl)
forget-effect t (Hgrow f p n) =
    let cells : List (Option ℕ) = replicate n None in
    forget-moved t f f (in_window (λ (w : Window). window_after_ins w p cells)) (place_after_ins p (length cells)) (λ known. refl)
forget-effect t (Hcheck f) = forget-forget t
forget-effect t Hunlock = ap (λ (x : PlainTerminal). record x { command_lock = false }) (forget-forget t)
forget-effect t (Hdata f p s) = forget-turned t f (in_window (loaded_window p s)) (λ known. refl)
forget-effect t (Horigin f p) = forget-turned t f (in_window (λ (w : Window). record w { view_start = p })) (λ known. refl)
forget-effect t (Hunlockfile f) = forget-turned t f (in_window (λ (w : Window). record w { locks = w.locks - 1 })) (λ known. refl)
forget-effect t (Hsetdot f p q) = forget-turned t f (in_window (λ (w : Window). record w { dot = (p, q) })) (λ known. refl)
forget-effect t (Hgrowdata f p s) =
    let cells : List (Option ℕ) = map Some s in
    forget-moved t f f (in_window (λ (w : Window). window_after_ins w p cells)) (place_after_ins p (length cells)) (λ known. refl)
forget-effect t (Hmoveto f p) = forget-turned t f (in_window (λ (w : Window). record w { view_start = p })) (λ known. refl)
forget-effect t (Hclean f) = forget-turned t f (λ known. record known { dirty = false; changed = false }) (λ known. refl)
forget-effect t (Hdirty f) = forget-turned t f (λ known. record known { dirty = true }) (λ known. refl)
forget-effect t (Hcut f p n) = forget-moved t f f (in_window (λ (w : Window). window_after_del w p (p + n))) (place_after_del p (p + n)) (λ known. refl)
forget-effect t (Hsetpat s) = ap (λ (x : PlainTerminal). record x { pattern = s }) (forget-forget t)
forget-effect t (Hdelname f) =
    let twice = map-twice clean_known clean_known clean-clean t.files in
    λ i. record t { files = (map-free clean_known (map_slots clean_known t.files) f ∙ ap (λ (ss : Slots KnownFile). free_slot ss f) twice ∙ sym (map-free clean_known t.files f)) i }
forget-effect t (Hclose f) =
    ap (λ (x : PlainTerminal). record x { unsent = (effect t (Hclose f)).unsent }) (forget-turned t f (λ known. record known { window = None }) (λ known. refl))
forget-effect t (Hsetsnarf s) = ap (λ (x : PlainTerminal). record x { snarf = s }) (forget-forget t)
forget-effect t (Hsnarflen n) = ap (λ (x : PlainTerminal). record x { snarf_length = n }) (forget-forget t)
forget-effect t Hack = forget-forget t
forget-effect t Hexit =
    λ i. record t { has_exited = true; command_lock = false; files = freed t.files i }
  where
    freed : (ss : Slots KnownFile) → map_slots clean_known (map_slots freed_known (map_slots clean_known ss)) ≡ map_slots clean_known (map_slots freed_known ss)
    freed [] = refl
    freed (None ∷ ss) = ap (λ (rest : Slots KnownFile). None ∷ rest) (freed ss)
    freed (Some known ∷ ss) = ap (λ (rest : Slots KnownFile). Some (clean_known (freed_known known)) ∷ rest) (freed ss)

pub blind-effect : (t u : PlainTerminal) (m : Hmesg) → forget t ≡ forget u → forget (effect t m) ≡ forget (effect u m)
blind-effect t u m e = sym (forget-effect t m) ∙ ap (λ (x : PlainTerminal). forget (effect x m)) e ∙ forget-effect u m

-- ## Events

pub blind-altered : (o : Option Turning) (t u : PlainTerminal) → forget t ≡ forget u → forget (altered_by t o) ≡ forget (altered_by u o)
blind-altered None t u e = e
blind-altered (Some o) t u e =
    let d = turn o.mark o.window in
    sym (forget-turned t o.file d (λ known. refl)) ∙ ap (λ (x : PlainTerminal). forget (turned x o.file d)) e ∙ forget-turned u o.file d (λ known. refl)

-- what a window decides
by_window : {A : Type 0} (part : Window → A) (t : PlainTerminal) (f : ℕ) → part (window_at (forget t) f) ≡ part (window_at t f)
by_window part t f = ap (λ (w : Option Window). part (unwrap_or w blank_window)) (window-forget t f)

forget-told : (t : PlainTerminal) (e : UserEvent) → told (forget t) e ≡ told t e
forget-told t (Typed f []) = by_window (λ w. cut_message f w.dot) t f
forget-told t (Typed f (c ∷ s)) = by_window (λ w. cut_message f w.dot ++ Ttype f w.dot.0 (c ∷ s) ∷ []) t f
forget-told t (Cut f) = by_window (λ w. if w.dot.0 == w.dot.1 then [] else Tsnarf f w.dot.0 w.dot.1 ∷ Tcut f w.dot.0 w.dot.1 ∷ []) t f
forget-told t (Paste f) = by_window (λ w. cut_message f w.dot ++ Tpaste f w.dot.0 ∷ []) t f
forget-told t (Snarf f) = by_window (λ w. if w.dot.0 == w.dot.1 then [] else Tsnarf f w.dot.0 w.dot.1 ∷ []) t f
forget-told t (Look f) = by_window (λ w. Tlook f w.dot.0 w.dot.1 ∷ []) t f
forget-told t (Search f) = by_window (λ w. Tsearch f w.dot.0 w.dot.1 ∷ []) t f
forget-told t (Send f) = by_window (λ w. Tsend f w.dot.0 w.dot.1 ∷ []) t f
forget-told t (Work f) = by_window (λ w. Tworkfile f w.dot.0 w.dot.1 ∷ []) t f
forget-told t (Scroll f n) = by_window (λ w. Torigin f w.view_start n ∷ []) t f
forget-told t e = refl

pub blind-told : (t u : PlainTerminal) (e : UserEvent) → forget t ≡ forget u → told t e ≡ told u e
blind-told t u e same = sym (forget-told t e) ∙ ap (λ (x : PlainTerminal). told x e) same ∙ forget-told u e

-- ## What stands against an event

known-there : (t : PlainTerminal) (f : ℕ) → is_known (forget t) f ≡ is_known t f
known-there t f = grind (arith, slot-map)

unknown-there : (t : PlainTerminal) (f : Option ℕ) → is_unknown (forget t) f ≡ is_unknown t f
unknown-there t None = refl
unknown-there t (Some f) = ap not (known-there t f)

closed-there : (t : PlainTerminal) (f : Option ℕ) → is_closed (forget t) f ≡ is_closed t f
closed-there t None = refl
closed-there t (Some f) = ap (λ (w : Option Window). not (is_some w)) (window-forget t f)

locked-there : (t : PlainTerminal) (f : Option ℕ) → is_file_locked (forget t) f ≡ is_file_locked t f
locked-there t None = refl
locked-there t (Some f) = by_window (λ w. nat_lt 0 w.locks) t f

any-there : (ss : Slots KnownFile) → is_any_locked (map_slots clean_known ss) ≡ is_any_locked ss
any-there [] = refl
any-there (None ∷ ss) = any-there ss
any-there (Some known ∷ ss) = ap (λ (b : Bool). nat_lt 0 (unwrap_or known.window blank_window).locks || b) (any-there ss)

place-there : (t : PlainTerminal) (e : UserEvent) → has_bad_place (forget t) e ≡ has_bad_place t e
place-there t (Select f p q) = by_window (λ w. nat_lt q p || nat_lt (length w.rasp) q) t f
place-there t (Dclick f p) = by_window (λ w. nat_lt (length w.rasp) p) t f
place-there t (View f p n) = by_window (λ w. nat_lt (length w.rasp) p) t f
place-there t (Load f p n) = by_window (λ w. nat_lt (length w.rasp) p) t f
place-there t (Edit f p q s) = by_window (λ w. nat_lt q p || nat_lt (length w.rasp) q) t f
place-there t e = refl

long-there : (t : PlainTerminal) (e : UserEvent) → has_long_text (forget t) e ≡ has_long_text t e
long-there t e = refl

room-there : (t : PlainTerminal) (e : UserEvent) → makes_too_long (forget t) e ≡ makes_too_long t e
room-there t (Typed f s) = by_window (λ w. nat_lt max_runes (length w.rasp - (w.dot.1 - w.dot.0) + length s)) t f
room-there t (Edit f p q s) = by_window (λ w. nat_lt max_runes (length w.rasp - (q - p) + length s)) t f
room-there t e = refl

forget-verdict : (t : PlainTerminal) (e : UserEvent) → first_of_checks (event_checks (forget t) e) ≡ first_of_checks (event_checks t e)
forget-verdict t e =
    let f = file_of e in
    λ i. first_of_checks (
    (t.has_exited, Refuses refusal.Exited)
    ∷ (t.command_lock, Waits)
    ∷ (is_bad_version e, Refuses refusal.BadVersion)
    ∷ (unknown-there t f i, Refuses refusal.NoFile)
    ∷ (is_for_command_file e, Refuses refusal.CommandFile)
    ∷ (needs_open e && closed-there t f i, Refuses refusal.NotOpen)
    ∷ (locked-there t f i || (waits_for_all e && any-there t.files i), Waits)
    ∷ (place-there t e i, Refuses refusal.BadPosition)
    ∷ (long-there t e i, Refuses refusal.TextTooLong)
    ∷ (room-there t e i, Refuses refusal.TooLong)
    ∷ []
    )

pub blind-verdict : (t u : PlainTerminal) (e : UserEvent) → forget t ≡ forget u → first_of_checks (event_checks t e) ≡ first_of_checks (event_checks u e)
blind-verdict t u e same = sym (forget-verdict t e) ∙ ap (λ (x : PlainTerminal). first_of_checks (event_checks x e)) same ∙ forget-verdict u e

-- ## Which files are dirty

abbrev pub dirty_in : PlainTerminal → ℕ → Bool
dirty_in t f = (known_at t f).dirty

-- whether the frame leaves the file dirty, where it was dirty or not
abbrev pub dirty_after : ℕ → Hmesg → Bool → Bool
dirty_after f (Hdirty g) b = (f == g) || b
dirty_after f (Hclean g) b = not (f == g) && b
dirty_after f (Hnewname g) b = not (f == g) && b
dirty_after f (Hdelname g) b = not (f == g) && b
dirty_after f m b = b

dirty-put : (t : PlainTerminal) (g : ℕ) (x : KnownFile) (f : ℕ) → dirty_in (put_known t g x) f ≡ (if f == g then x.dirty else dirty_in t f)
dirty-put t g x f = by (f == g) refl
  where
    by : (b : Bool) → (f == g) ≡ b → dirty_in (put_known t g x) f ≡ (if b then x.dirty else dirty_in t f)
    by true q = subst (λ (k : ℕ). dirty_in (put_known t k x) f ≡ x.dirty) (eqb-true f g q) (ap (λ (k : KnownFile). k.dirty) (known-put_same t f x))
    by false q = ap (λ (k : KnownFile). k.dirty) (known-put_other t g f x (λ e. true≢false (sym (eq_there g f e) ∙ q)))
      where
        eq_there : (g f : ℕ) → g ≡ f → (f == g) ≡ true
        eq_there g f e = grind (arith, e)

-- a change of a file that leaves its mark
pub dirty-same : (t : PlainTerminal) (g : ℕ) (x : KnownFile) (f : ℕ) → x.dirty ≡ dirty_in t g → dirty_in (put_known t g x) f ≡ dirty_in t f
dirty-same t g x f e = dirty-put t g x f ∙ by (f == g) refl
  where
    by : (b : Bool) → (f == g) ≡ b → (if b then x.dirty else dirty_in t f) ≡ dirty_in t f
    by true q = e ∙ ap (dirty_in t) (sym (eqb-true f g q))
    by false q = refl

dirty-cleared : (t : PlainTerminal) (g : ℕ) (x : KnownFile) (f : ℕ) → x.dirty ≡ false → dirty_in (put_known t g x) f ≡ (not (f == g) && dirty_in t f)
dirty-cleared t g x f e = dirty-put t g x f ∙ by (f == g)
  where
    by : (b : Bool) → (if b then x.dirty else dirty_in t f) ≡ (not b && dirty_in t f)
    by true = e
    by false = refl

dirty-set : (t : PlainTerminal) (g : ℕ) (x : KnownFile) (f : ℕ) → x.dirty ≡ true → dirty_in (put_known t g x) f ≡ ((f == g) || dirty_in t f)
dirty-set t g x f e = dirty-put t g x f ∙ by (f == g)
  where
    by : (b : Bool) → (if b then x.dirty else dirty_in t f) ≡ (b || dirty_in t f)
    by true = e
    by false = refl

dirty-freed : (t : PlainTerminal) (g f : ℕ) → dirty_in (record t { files = free_slot t.files g }) f ≡ (not (f == g) && dirty_in t f)
dirty-freed t g f = by (f == g) refl
  where
    by : (b : Bool) → (f == g) ≡ b → dirty_in (record t { files = free_slot t.files g }) f ≡ (not b && dirty_in t f)
    by true q =
        subst (λ (k : ℕ). dirty_in (record t { files = free_slot t.files k }) f ≡ false) (eqb-true f g q)
        (ap (λ (s : Option KnownFile). (unwrap_or s blank_known).dirty) (slot-free_same t.files f))
    by false q = ap (λ (s : Option KnownFile). (unwrap_or s blank_known).dirty) (slot-free_other t.files g f (λ e. true≢false (sym (eq_there g f e) ∙ q)))
      where
        eq_there : (g f : ℕ) → g ≡ f → (f == g) ≡ true
        eq_there g f e = grind (arith, e)

dirty-exit : (t : PlainTerminal) (f : ℕ) → (unwrap_or (slot (map_slots freed_known t.files) f) blank_known).dirty ≡ dirty_in t f
dirty-exit t f = ap (λ (s : Option KnownFile). (unwrap_or s blank_known).dirty) (slot-map freed_known t.files f) ∙ by (slot t.files f)
  where
    by : (s : Option KnownFile) → (unwrap_or (option_map freed_known s) blank_known).dirty ≡ (unwrap_or s blank_known).dirty
    by None = refl
    by (Some known) = refl

pub dirty-effect : (t : PlainTerminal) (m : Hmesg) (f : ℕ) → dirty_in (effect t m) f ≡ dirty_after f m (dirty_in t f)
unfolding took_bindname took_data took_grow took_growdata took_cut took_unlockfile took_close took_exit
dirty-effect t (Hbindname g) f = dirty-same t g _ f refl
dirty-effect t (Hnewname g) f = dirty-cleared t g _ f refl
dirty-effect t (Hmovname g s) f = dirty-same t g _ f refl
dirty-effect t (Hgrow g p n) f = dirty-same t g _ f refl
dirty-effect t (Hdata g p s) f = dirty-same t g _ f refl
dirty-effect t (Horigin g p) f = dirty-same t g _ f refl
dirty-effect t (Hunlockfile g) f = dirty-same t g _ f refl
dirty-effect t (Hsetdot g p q) f = dirty-same t g _ f refl
dirty-effect t (Hgrowdata g p s) f = dirty-same t g _ f refl
dirty-effect t (Hmoveto g p) f = dirty-same t g _ f refl
dirty-effect t (Hclean g) f = dirty-cleared t g _ f refl
dirty-effect t (Hdirty g) f = dirty-set t g _ f refl
dirty-effect t (Hcut g p n) f = dirty-same t g _ f refl
dirty-effect t (Hdelname g) f = dirty-freed t g f
dirty-effect t (Hclose g) f = dirty-same t g _ f refl
dirty-effect t Hexit f = dirty-exit t f
dirty-effect t m f = refl

pub dirty-altered : (o : Option Turning) (t : PlainTerminal) (f : ℕ) → dirty_in (altered_by t o) f ≡ dirty_in t f
dirty-altered None t f = refl
dirty-altered (Some o) t f = dirty-same t o.file _ f refl

-- a dirty file is known
pub dirty-known : (t : PlainTerminal) (f : ℕ) → dirty_in t f ≡ true → slot t.files f ≡ Some (known_at t f)
dirty-known t f e = by (slot t.files f) e
  where
    by : (s : Option KnownFile) → (unwrap_or s blank_known).dirty ≡ true → s ≡ Some (unwrap_or s blank_known)
    by None e = absurd (true≢false (sym e))
    by (Some known) e = refl

-- ## At rest

rest-slots : (fs : PlainFiles) (f : ℕ) (ss : Slots KnownFile) → map_slots clean_known (whole_slots fs f ss) ≡ whole_slots fs f (map_slots clean_known ss)
rest-slots fs f [] = refl
rest-slots fs f (None ∷ ss) = ap (λ (rest : Slots KnownFile). None ∷ rest) (rest-slots fs (suc f) ss)
rest-slots fs f (Some known ∷ ss) = ap (λ (rest : Slots KnownFile). Some (clean_known (whole_file (file_at fs f).text known)) ∷ rest) (rest-slots fs (suc f) ss)

forget-rest : (h : PlainHost) (t : PlainTerminal) → forget (at_rest h t).term ≡ (at_rest h (forget t)).term
forget-rest h t = λ i. record (at_rest h t).term { files = rest-slots h.files 0 t.files i }

-- where the texts are the same
texts-same : (fs gs : PlainFiles) (f : ℕ) (ss : Slots KnownFile) → ((g : ℕ) → (file_at fs g).text ≡ (file_at gs g).text) → whole_slots fs f ss ≡ whole_slots gs f ss
texts-same fs gs f [] e = refl
texts-same fs gs f (s ∷ ss) e = λ i. option_map (whole_file (e f i)) s ∷ texts-same fs gs (suc f) ss e i

pub blind-rest : (h k : PlainHost) (t u : PlainTerminal) → ((g : ℕ) → (file_at h.files g).text ≡ (file_at k.files g).text) → forget t ≡ forget u
    → forget (at_rest h t).term ≡ forget (at_rest k u).term
blind-rest h k t u e same =
    forget-rest h t ∙ (λ i. record (at_rest h (forget t)).term { files = texts-same h.files k.files 0 (forget t).files e i })
    ∙ ap (λ (x : PlainTerminal). (at_rest k x).term) same ∙ sym (forget-rest k u)

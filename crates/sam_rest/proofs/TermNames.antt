-- The names that the terminal knows: frames change them, and events don't.
use Rattle.std.proofs.Common.{◌≡◌, ℕ, ◌+◌, Bool, true, false, if◌then◌else◌, ◌==◌, ◌&&◌, List, [], ◌∷◌, ◌++◌, Option, Some, None, refl, ap, ◌∙◌, subst, arith, option_map, unwrap_or, map}
use Rattle.sam_runes.proofs.SlotLaws.{slot-free_same, slot-free_other, slot-map}
use Rattle.sam_mesg.specs.declared.tmesg.Tmesg.{Tmesg}
use Rattle.sam_mesg.specs.declared.tmesg.Tmesg.TheVariants.{Trequest, Tcut, Tsnarf, Tpaste, Tsetsnarf, Tack}
use Rattle.sam_mesg.specs.declared.hmesg.Hmesg.{Hmesg}
use Rattle.sam_mesg.specs.declared.hmesg.Hmesg.TheVariants.{Hbindname, Hnewname, Hmovname, Hgrow, Hcheck, Hdata, Horigin, Hunlockfile, Hsetdot, Hgrowdata, Hmoveto, Hclean, Hdirty, Hcut, Hdelname, Hclose, Hack, Hexit}
use Rattle.sam_term.specs.declared.records.KnownFile.{KnownFile}
use Rattle.sam_term.specs.declared.records.Window.{Window}
use Rattle.sam_term.specs.declared.event.UserEvent.{UserEvent}
use Rattle.sam_term.specs.declared.event.UserEvent.TheVariants.{Typed, Select, Cut, Paste, Snarf, View, Load, Edit, SetSnarf, Flush}
use Rattle.sam_term.specs.declared.lock.Lock.{Lock}
use Rattle.sam_runes.specs.Texts.{is_empty}
use Rattle.sam_term.specs.declared.lock.Lock.TheVariants.{NoLock, CommandLock, FileLock}
use Rattle.sam_term.specs.Events.{message_of, lock_of, is_command_line}
use Rattle.sam_term.specs.Term.{PlainTerminal, Made, has_empty_dot, joins, joined as unsent_joined, unchanged, edit_messages, known_at, window_at, put_known, put_window, lock_taken, asked, composed, all_composed, unsent_message, sends, sends_if, sends_all, made_then, typed_rasp, cut_rasp, cuts_dot, types, kept_unsent, replaced, ins_rasp, del_rasp, edited, event_outcome, outcome_by, frame_outcome, freed_known, gaps_shown, requests_for, wanted}
unfoldable use Rattle.sam_term.specs.Term.{flushed, made_by_type, made_by_cut, made_by_edit, made_by_load, made_by_paste, made_by_snarf, made_by_view, requested, all_wanted, took_bindname, took_close, took_cut, took_data, took_exit, took_grow, took_growdata, took_unlockfile}
use Rattle.sam_runes.specs.Slots.{slot, free_slot}
use Rattle.sam_term.specs.Windows.{blank_known}
use Rattle.sam_term.proofs.TermLaws.{known-put}

abbrev pub name_of : PlainTerminal → ℕ → List ℕ
name_of t g = (known_at t g).name

-- what a frame makes of the name of the file g
abbrev pub named : ℕ → Hmesg → List ℕ → List ℕ
named g (Hnewname f) n = if f == g then [] else n
named g (Hmovname f s) n = if f == g then s else n
named g (Hdelname f) n = if f == g then [] else n
named g m n = n

-- what frames make of it, one after another
abbrev pub all_named : ℕ → List Hmesg → List ℕ → List ℕ
all_named g [] n = n
all_named g (m ∷ ms) n = all_named g ms (named g m n)

pub named-append : (g : ℕ) (xs ys : List Hmesg) (n : List ℕ) → all_named g (xs ++ ys) n ≡ all_named g ys (all_named g xs n)
named-append g [] ys n = refl
named-append g (m ∷ xs) ys n = named-append g xs ys (named g m n)

-- ## What keeps names

-- the same names are known
pub record Keeps (t u : PlainTerminal) : Type 0 where
  pub same : (g : ℕ) → name_of u g ≡ name_of t g

pub as_is : (t : PlainTerminal) → Keeps t t
as_is t = record { same = λ g. refl }

then_keeps : (t u v : PlainTerminal) → Keeps t u → Keeps u v → Keeps t v
then_keeps t u v a b = record { same = λ g. b.same g ∙ a.same g }

keeps_put : (t : PlainTerminal) (f : ℕ) (x : KnownFile) → x.name ≡ name_of t f → Keeps t (put_known t f x)
keeps_put t f x e = record { same = λ g. known-put (λ (k : KnownFile). k.name) t f x g ∙ here g (f == g) refl }
  where
    here : (g : ℕ) (b : Bool) → (f == g) ≡ b → (if b then x.name else name_of t g) ≡ name_of t g
    here g true q = grind (arith, q, e)
    here g false q = refl

keeps_window : (t : PlainTerminal) (f : ℕ) (w : Window) → Keeps t (put_window t f w)
keeps_window t f w = keeps_put t f (record (known_at t f) { window = Some w }) refl

keeps_lock : (l : Lock) (t : PlainTerminal) → Keeps t (lock_taken l t)
keeps_lock NoLock t = as_is t
keeps_lock CommandLock t = record { same = λ g. refl }
keeps_lock (FileLock f) t = keeps_window t f _

keeps_asked : (m : Tmesg) (t : PlainTerminal) → Keeps t (asked m t)
keeps_asked (Trequest f p n) t = keeps_window t f _
keeps_asked m t = as_is t

keeps_composed : (t : PlainTerminal) (m : Tmesg) → Keeps t (composed t m)
keeps_composed t m =
    let u : PlainTerminal = record t { sent = t.sent + 1 } in
    then_keeps t (lock_taken (lock_of m) u) (composed t m) (record { same = (keeps_lock (lock_of m) u).same }) (keeps_asked m (lock_taken (lock_of m) u))

keeps_all : (t : PlainTerminal) (ms : List Tmesg) → Keeps t (all_composed t ms)
keeps_all t [] = as_is t
keeps_all t (m ∷ ms) = then_keeps t (composed t m) (all_composed (composed t m) ms) (keeps_composed t m) (keeps_all (composed t m) ms)

pub keeps_flushed : (t : PlainTerminal) → Keeps t (flushed t).0
unfolding flushed
keeps_flushed t = record { same = (keeps_all (record t { unsent = None }) (unsent_message t.unsent)).same }

keeps_sends : (t : PlainTerminal) (change : PlainTerminal → PlainTerminal) (ms : List Tmesg) → ((u : PlainTerminal) → Keeps u (change u)) → Keeps t (sends t change ms).0
keeps_sends t change ms k =
    let u = (flushed t).0 in
    then_keeps t u (all_composed (change u) ms) (keeps_flushed t) (then_keeps u (change u) (all_composed (change u) ms) (k u) (keeps_all (change u) ms))

keeps_sends_if : (o : Option Tmesg) (t : PlainTerminal) → Keeps t (sends_if o t).0
keeps_sends_if None t = as_is t
keeps_sends_if (Some m) t = keeps_sends t (λ u. u) (m ∷ []) as_is

keeps_sends_all : (ms : List Tmesg) (t : PlainTerminal) → Keeps t (sends_all ms t).0
keeps_sends_all [] t = as_is t
keeps_sends_all (m ∷ ms) t = keeps_sends t (λ u. u) (m ∷ ms) as_is

keeps_requested : (t : PlainTerminal) (f : ℕ) → Keeps t (requested t f).0
unfolding requested
keeps_requested t f = keeps_sends_if (wanted t f) t

keeps_edited : (t : PlainTerminal) (f : ℕ) → Keeps t (edited t f)
keeps_edited t f = keeps_put t f (record (known_at t f) { changed = true }) refl

keeps_ins : (t : PlainTerminal) (f p : ℕ) (cells : _) → Keeps t (ins_rasp t f p cells)
keeps_ins t f p cells = record { same = (keeps_window t f _).same }

keeps_del : (t : PlainTerminal) (f p q : ℕ) → Keeps t (del_rasp t f p q)
keeps_del t f p q = record { same = (keeps_window t f _).same }

keeps_cut : (t : PlainTerminal) (f p q : ℕ) → Keeps t (cut_rasp t f p q)
keeps_cut t f p q = then_keeps t (edited t f) (cut_rasp t f p q) (keeps_edited t f) (keeps_del (edited t f) f p q)

keeps_typed : (t : PlainTerminal) (f p : ℕ) (s : List ℕ) → Keeps t (typed_rasp t f p s)
keeps_typed t f p s =
    let u = edited t f in
    let v = ins_rasp u f p (map Some s) in
    then_keeps t u (typed_rasp t f p s) (keeps_edited t f) (then_keeps u v (typed_rasp t f p s) (keeps_ins u f p (map Some s)) (keeps_window v f _))

keeps_replaced : (t : PlainTerminal) (f p q : ℕ) (s : List ℕ) → Keeps t (replaced t f p q s)
keeps_replaced t f p q s = then_keeps t (cut_rasp t f p q) (replaced t f p q s) (keeps_cut t f p q) (keeps_ins (cut_rasp t f p q) f p (map Some s))

keeps_if : (t : PlainTerminal) (b : Bool) (x y : Made) → Keeps t x.0 → Keeps t y.0 → Keeps t (if b then x else y).0
keeps_if t true x y p q = p
keeps_if t false x y p q = q

keeps_then : (t : PlainTerminal) (made : Made) (next : PlainTerminal → Made) → Keeps t made.0 → ((u : PlainTerminal) → Keeps u (next u).0) → Keeps t (made_then made next).0
keeps_then t made next p q = then_keeps t made.0 (next made.0).0 p (q made.0)

keeps_cuts_dot : (t : PlainTerminal) (f : ℕ) → Keeps t (cuts_dot t f).0
keeps_cuts_dot t f =
    let d = (window_at t f).dot in
    keeps_if t (has_empty_dot t f) (t, []) (sends t (λ u. cut_rasp u f d.0 d.1) (Tcut f d.0 d.1 ∷ [])) (as_is t)
    (keeps_sends t (λ u. cut_rasp u f d.0 d.1) (Tcut f d.0 d.1 ∷ []) (λ u. keeps_cut u f d.0 d.1))

keeps_unsent : (t : PlainTerminal) (f p : ℕ) (s : List ℕ) → Keeps t (kept_unsent t f p s).0
keeps_unsent t f p s =
    let next : PlainTerminal → Made = λ u. (record u { unsent = Some (unsent_joined None f p s) }, []) in
    keeps_if t (joins t.unsent f p s) (record t { unsent = Some (unsent_joined t.unsent f p s) }, []) (made_then (flushed t) next) (record { same = λ g. refl })
    (keeps_then t (flushed t) next (keeps_flushed t) (λ u. record { same = λ g. refl }))

keeps_types : (t : PlainTerminal) (f p : ℕ) (s : List ℕ) → Keeps t (types t f p s).0
keeps_types t f p s =
    let next : PlainTerminal → Made = λ u. let typed = typed_rasp u f p s in if is_command_line f s then flushed typed else (typed, []) in
    keeps_then t (kept_unsent t f p s) next (keeps_unsent t f p s)
    (λ u. keeps_if u (is_command_line f s) (flushed (typed_rasp u f p s)) (typed_rasp u f p s, [])
    (then_keeps u (typed_rasp u f p s) (flushed (typed_rasp u f p s)).0 (keeps_typed u f p s) (keeps_flushed (typed_rasp u f p s))) (keeps_typed u f p s))

-- an event
keeps_outcome : (o : Option Tmesg) (t : PlainTerminal) (e : UserEvent) → Keeps t (outcome_by o t e).0
unfolding made_by_type made_by_cut made_by_paste made_by_snarf made_by_view made_by_load made_by_edit requested all_wanted
keeps_outcome (Some m) t e = keeps_sends t (λ u. u) (m ∷ []) as_is
keeps_outcome None t (Typed f s) =
    let next : PlainTerminal → Made = λ u. if is_empty s then (u, []) else types u f (window_at t f).dot.0 s in
    keeps_then t (cuts_dot t f) next (keeps_cuts_dot t f)
    (λ u. keeps_if u (is_empty s) (u, []) (types u f (window_at t f).dot.0 s) (as_is u) (keeps_types u f (window_at t f).dot.0 s))
keeps_outcome None t (Select f p q) = keeps_window t f (record (window_at t f) { dot = (p, q) })
keeps_outcome None t (Cut f) =
    let d = (window_at t f).dot in
    let ms = Tsnarf f d.0 d.1 ∷ Tcut f d.0 d.1 ∷ [] in
    keeps_if t (has_empty_dot t f) (t, []) (sends t (λ u. cut_rasp u f d.0 d.1) ms) (as_is t) (keeps_sends t (λ u. cut_rasp u f d.0 d.1) ms (λ u. keeps_cut u f d.0 d.1))
keeps_outcome None t (Paste f) =
    let ms = Tpaste f (window_at t f).dot.0 ∷ [] in
    keeps_then t (cuts_dot t f) (λ u. sends u unchanged ms) (keeps_cuts_dot t f) (λ u. keeps_sends u unchanged ms as_is)
keeps_outcome None t (Snarf f) =
    let d = (window_at t f).dot in
    let ms = Tsnarf f d.0 d.1 ∷ [] in
    keeps_if t (has_empty_dot t f) (t, []) (sends t unchanged ms) (as_is t) (keeps_sends t unchanged ms as_is)
keeps_outcome None t (View f p n) =
    let u = put_window t f (record (window_at t f) { view_start = p; view_length = n }) in then_keeps t u _ (keeps_window t f _) (keeps_sends_if (wanted u f) u)
keeps_outcome None t (Load f p n) =
    let u = put_window t f (record (window_at t f) { view_start = p; view_length = n }) in
    then_keeps t u _ (keeps_window t f _) (keeps_sends_all (requests_for f (gaps_shown u f)) u)
keeps_outcome None t (Edit f p q s) =
    keeps_if t (p == q && is_empty s) (t, []) (sends t (λ u. replaced u f p q s) (edit_messages f p q s)) (as_is t)
    (keeps_sends t (λ u. replaced u f p q s) (edit_messages f p q s) (λ u. keeps_replaced u f p q s))
keeps_outcome None t (SetSnarf s) = keeps_sends t unchanged (Tsetsnarf s ∷ []) as_is
keeps_outcome None t Flush = keeps_flushed t
keeps_outcome None t e = as_is t

pub keeps_event : (t : PlainTerminal) (e : UserEvent) → Keeps t (event_outcome t e).0
keeps_event t e = keeps_outcome (message_of t.files e) t e

-- ## What a frame does

exit-name : (o : Option KnownFile) → (unwrap_or (option_map freed_known o) blank_known).name ≡ (unwrap_or o blank_known).name
exit-name None = refl
exit-name (Some x) = refl

free-name : (t : PlainTerminal) (f g : ℕ) → name_of (record t { files = free_slot t.files f }) g ≡ (if f == g then [] else name_of t g)
free-name t f g = by (f == g) refl
  where
    by : (b : Bool) → (f == g) ≡ b → name_of (record t { files = free_slot t.files f }) g ≡ (if b then [] else name_of t g)
    by true q = let same : f ≡ g = grind (arith, q) in ap (λ (o : Option KnownFile). (unwrap_or o blank_known).name) (subst (λ (k : ℕ). slot (free_slot t.files f) k ≡ None) same (slot-free_same t.files f))
    by false q = ap (λ (o : Option KnownFile). (unwrap_or o blank_known).name) (slot-free_other t.files f g (λ e. absurd (grind (arith, q, e))))

-- a frame changes names as that says
pub frame_names : (t : PlainTerminal) (m : Hmesg) (g : ℕ) → name_of (frame_outcome t m).0 g ≡ named g m (name_of t g)
unfolding requested took_bindname took_close took_cut took_data took_exit took_grow took_growdata took_unlockfile
frame_names t (Hnewname f) g = known-put (λ (k : KnownFile). k.name) t f blank_known g
frame_names t (Hmovname f s) g = known-put (λ (k : KnownFile). k.name) t f (record (known_at t f) { name = s }) g
frame_names t (Hdelname f) g = free-name t f g
frame_names t (Hcheck f) g = (keeps_requested t f).same g
frame_names t (Hunlockfile f) g =
    let u = took_unlockfile t f in (keeps_sends_if (wanted u f) u).same g ∙ (keeps_window t f _).same g
frame_names t Hack g = (keeps_if t t.has_exited (t, []) (sends t unchanged (Tack ∷ [])) (as_is t) (keeps_sends t unchanged (Tack ∷ []) as_is)).same g
frame_names t Hexit g = ap (λ (o : Option KnownFile). (unwrap_or o blank_known).name) (slot-map freed_known t.files g) ∙ exit-name (slot t.files g)
frame_names t (Hbindname f) g = (keeps_window t f _).same g
frame_names t (Hgrow f p n) g = (keeps_ins t f p _).same g
frame_names t (Hdata f p s) g = (keeps_window t f _).same g
frame_names t (Horigin f p) g = (keeps_window t f _).same g
frame_names t (Hsetdot f p q) g = (keeps_window t f _).same g
frame_names t (Hgrowdata f p s) g = (keeps_ins t f p _).same g
frame_names t (Hmoveto f p) g = (keeps_window t f _).same g
frame_names t (Hclean f) g = (keeps_put t f _ refl).same g
frame_names t (Hdirty f) g = (keeps_put t f _ refl).same g
frame_names t (Hcut f p n) g = (keeps_del t f p _).same g
frame_names t (Hclose f) g = (keeps_put t f (record (known_at t f) { window = None }) refl).same g
frame_names t m g = refl

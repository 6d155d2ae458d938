-- An event that acts, a flush and a frame leave the events that are held.
use Rattle.sam_crossing.proofs.Common.{◌≡◌, ℕ, Bool, true, false, List, [], ◌∷◌, Option, Some, None, if◌then◌else◌, refl, ◌∙◌, arith, Tmesg, Tversion, Tstartcmdfile, Tcheck, Torigin, Tstartfile, Tworkfile, Tcut, Tpaste, Tsnarf, Tstartnewfile, Twrite, Tclose, Tlook, Tsearch, Tsend, Tdclick, Tstartsnarf, Tsetsnarf, Tack, Texit, Hmesg, Hcheck, Hunlockfile, Hack, UserEvent, PlainTerminal, window_at, put_window, has_empty_dot, cut_rasp, cuts_dot, composed, all_composed, flushed, sends, unchanged, requested, joins, joined, typed_rasp, types, is_command_line, event_outcome, frame_outcome, made_by_type, made_by_cut, made_by_paste, made_by_snarf, made_by_view, made_by_load, made_by_edit, edit_messages, replaced, is_empty, ◌==◌, ◌&&◌, all_wanted, sends_all, took_bindname, took_data, took_grow, took_growdata, took_cut, took_unlockfile, took_close, took_exit}
use Rattle.sam_term.specs.declared.event.UserEvent.TheVariants.{Typed, Select, Cut, Paste, Snarf, Look, Search, Send, Dclick, Scroll, View, Load, Edit, Open, Close, Write, Work, OpenCmd, New, Exit, Check, GetSnarf, SetSnarf, Version, Flush}
use Rattle.sam_term.specs.Events.{about_dot}
use Rattle.sam_term.specs.Term.{made_then, kept_unsent, wanted, sends_if}
use Rattle.sam_term.proofs.Edits.{flushed-held}

composed-held : (t : PlainTerminal) (m : Tmesg) → (composed t m).held ≡ t.held
composed-held t m = grind arith

sent-held : (t : PlainTerminal) (m : Tmesg) → (sends t unchanged (m ∷ [])).0.held ≡ t.held
sent-held t m = composed-held (flushed t).0 m ∙ flushed-held t

cuts-held : (t : PlainTerminal) (f : ℕ) → (cuts_dot t f).0.held ≡ t.held
cuts-held t f = by (has_empty_dot t f)
  where
    by : (b : Bool) → (if b then (t, []) else sends t (λ u. cut_rasp u f (window_at t f).dot.0 (window_at t f).dot.1) (Tcut f (window_at t f).dot.0 (window_at t f).dot.1 ∷ [])).0.held ≡ t.held
    by true = refl
    by false = flushed-held t

types-held : (u : PlainTerminal) (f p : ℕ) (s : List ℕ) → (types u f p s).0.held ≡ u.held
types-held u f p s = line (is_command_line f s) ∙ kept (joins u.unsent f p s)
  where
    line : (b : Bool) → (if b then flushed (typed_rasp (kept_unsent u f p s).0 f p s) else (typed_rasp (kept_unsent u f p s).0 f p s, [])).0.held ≡ (kept_unsent u f p s).0.held
    line true = flushed-held (typed_rasp (kept_unsent u f p s).0 f p s)
    line false = refl

    kept : (b : Bool) → (if b then (record u { unsent = Some (joined u.unsent f p s) }, []) else made_then (flushed u) (λ x. (record x { unsent = Some (joined None f p s) }, []))).0.held ≡ u.held
    kept true = refl
    kept false = flushed-held u

asked-held : (o : Option Tmesg) (v : PlainTerminal) → (sends_if o v).0.held ≡ v.held
asked-held None v = refl
asked-held (Some m) v = composed-held (flushed v).0 m ∙ flushed-held v

composed-all-held : (t : PlainTerminal) (ms : List Tmesg) → (all_composed t ms).held ≡ t.held
composed-all-held t [] = refl
composed-all-held t (m ∷ ms) = composed-all-held (composed t m) ms ∙ composed-held t m

all-held : (ms : List Tmesg) (v : PlainTerminal) → (sends_all ms v).0.held ≡ v.held
all-held [] v = refl
all-held (m ∷ ms) v = composed-all-held (flushed v).0 (m ∷ ms) ∙ flushed-held v

pub event-held : (t : PlainTerminal) (e : UserEvent) → (event_outcome t e).0.held ≡ t.held
unfolding made_by_type made_by_cut made_by_paste made_by_snarf made_by_view made_by_load made_by_edit requested
event-held t (Typed f []) = cuts-held t f
event-held t (Typed f (c ∷ s)) = types-held (cuts_dot t f).0 f (window_at t f).dot.0 (c ∷ s) ∙ cuts-held t f
event-held t (Select f p q) = refl
event-held t (Cut f) = by (has_empty_dot t f)
  where
    by : (b : Bool)
        → (if b then (t, []) else sends t (λ u. cut_rasp u f (window_at t f).dot.0 (window_at t f).dot.1) (Tsnarf f (window_at t f).dot.0 (window_at t f).dot.1 ∷ Tcut f (window_at t f).dot.0 (window_at t f).dot.1 ∷ [])).0.held ≡ t.held
    by true = refl
    by false = flushed-held t
event-held t (Paste f) = sent-held (cuts_dot t f).0 (Tpaste f (window_at t f).dot.0) ∙ cuts-held t f
event-held t (Snarf f) = by (has_empty_dot t f)
  where
    by : (b : Bool) → (if b then (t, []) else sends t unchanged (Tsnarf f (window_at t f).dot.0 (window_at t f).dot.1 ∷ [])).0.held ≡ t.held
    by true = refl
    by false = flushed-held t
event-held t (View f a n) = let v = put_window t f (record (window_at t f) { view_start = a; view_length = n }) in asked-held (wanted v f) v
event-held t (Load f a n) = let v = put_window t f (record (window_at t f) { view_start = a; view_length = n }) in all-held (all_wanted v f) v
event-held t (Edit f p q s) = by (p == q && is_empty s)
  where
    by : (none : Bool) → (if none then (t, []) else sends t (λ u. replaced u f p q s) (edit_messages f p q s)).0.held ≡ t.held
    by true = refl
    by false = composed-all-held (replaced (flushed t).0 f p q s) (edit_messages f p q s) ∙ flushed-held t
event-held t Flush = flushed-held t
event-held t (SetSnarf s) = sent-held t (Tsetsnarf s)
event-held t (Look f) = sent-held t (about_dot t.files f Tlook)
event-held t (Search f) = sent-held t (about_dot t.files f Tsearch)
event-held t (Send f) = sent-held t (about_dot t.files f Tsend)
event-held t (Dclick f p) = sent-held t (Tdclick f p)
event-held t (Scroll f n) = sent-held t (Torigin f (window_at t f).view_start n)
event-held t (Open f) = sent-held t (Tstartfile f)
event-held t (Close f) = sent-held t (Tclose f)
event-held t (Write f) = sent-held t (Twrite f)
event-held t (Work f) = sent-held t (about_dot t.files f Tworkfile)
event-held t OpenCmd = sent-held t Tstartcmdfile
event-held t New = sent-held t Tstartnewfile
event-held t Exit = sent-held t Texit
event-held t (Check f) = sent-held t (Tcheck f)
event-held t GetSnarf = sent-held t Tstartsnarf
event-held t (Version v) = sent-held t (Tversion v)

pub frame-held : (t : PlainTerminal) (m : Hmesg) → (frame_outcome t m).0.held ≡ t.held
unfolding requested took_bindname took_data took_grow took_growdata took_cut took_unlockfile took_close took_exit
frame-held t (Hcheck f) = asked-held (wanted t f) t
frame-held t (Hunlockfile f) = asked-held (wanted (took_unlockfile t f) f) (took_unlockfile t f)
frame-held t Hack = by t.has_exited
  where
    by : (b : Bool) → (if b then (t, []) else sends t unchanged (Tack ∷ [])).0.held ≡ t.held
    by true = refl
    by false = sent-held t Tack
frame-held t m = refl

-- What a terminal does closes no file but by a frame, by which all that waits over it goes.
use Rattle.std.proofs.Common.{◌≡◌, ◌≢◌, ◌⊎◌, inl, inr, ℕ, ◌+◌, ◌-◌, Bool, true, false, nat_eq, if◌then◌else◌, List, [], ◌∷◌, Option, Some, None, Result, Ok, Err, refl, sym, ap, subst, ◌∙◌, arith, true≢false}
use Rattle.std.specs.Prelude.{◌==◌, ◌&&◌, ◌++◌, is_some, length, map}
use Rattle.std.proofs.lemmas.Bool.Decides.{eqb_tells}
use Rattle.sam_mesg.specs.declared.hmesg.HFrame.{HFrame}
use Rattle.sam_mesg.specs.declared.hmesg.Hmesg.{Hmesg}
use Rattle.sam_mesg.specs.declared.hmesg.Hmesg.TheVariants.{Hbindname, Hcheck, Hclean, Hclose, Hcut, Hdata, Hdelname, Hdirty, Hack, Hexit, Hgrow, Hgrowdata, Hmoveto, Hmovname, Hnewname, Horigin, Hsetdot, Hunlockfile}
use Rattle.sam_mesg.specs.declared.tmesg.Tmesg.{Tmesg}
use Rattle.sam_mesg.specs.declared.tmesg.Tmesg.TheVariants.{Tack, Tcut, Tpaste, Trequest, Tsetsnarf, Tsnarf}
use Rattle.sam_runes.specs.Checks.{first_of_checks}
use Rattle.sam_runes.specs.Slots.{free_slot}
use Rattle.sam_runes.specs.Texts.{is_empty}
use Rattle.sam_runes.proofs.SlotLaws.{slot-free_other, slot-map}
use Rattle.sam_term.specs.Events.{is_command_line, lock_of, message_of}
use Rattle.sam_term.specs.Term.{Made, PlainTerminal, act_on, all_composed, asked, composed, cut_rasp, cuts_dot, decided, edit_messages, edited, event_checks, event_outcome, frame_outcome, has_empty_dot, if_countable, ins_rasp, is_open, joined, joins, kept_unsent, known_at, lock_taken, outcome_by, put_known, put_window, replaced, sends, sends_all, sends_if, typed_rasp, types, unchanged, unsent_message, wanted, window_after_del, window_after_ins, window_at}
unfoldable use Rattle.sam_term.specs.Term.{act_of, all_wanted, flushed, made_by_cut, made_by_edit, made_by_load, made_by_paste, made_by_snarf, made_by_type, made_by_view, requested, take_of, took_bindname, took_close, took_cut, took_data, took_exit, took_grow, took_growdata, took_unlockfile}
use Rattle.sam_term.specs.Windows.{blank_known}
use Rattle.sam_term.specs.declared.event.Acted.{Acted}
use Rattle.sam_term.specs.declared.event.Acted.TheVariants as become
use Rattle.sam_term.specs.declared.event.UserEvent.{UserEvent}
use Rattle.sam_term.specs.declared.event.UserEvent.TheVariants as event
use Rattle.sam_term.specs.declared.event.Verdict.{Verdict}
use Rattle.sam_term.specs.declared.event.Verdict.TheVariants.{Refuses, Waits}
use Rattle.sam_term.specs.declared.fault.TermFault.{TermFault}
use Rattle.sam_term.specs.declared.lock.Lock.{Lock}
use Rattle.sam_term.specs.declared.lock.Lock.TheVariants.{CommandLock, FileLock, NoLock}
use Rattle.sam_term.specs.declared.records.KnownFile.{KnownFile}
use Rattle.sam_term.specs.declared.records.Window.{Window}
use Rattle.sam_term.proofs.TermLaws.{known-put}
use Rattle.sam_overlay.specs.Effects.{Effect, Empties, Stays, at_file, effect}

-- a file that is open stays open
abbrev pub Keeps : PlainTerminal → PlainTerminal → ℕ → Type 0
Keeps t u f = is_open t f ≡ true → is_open u f ≡ true

-- ## One file changes

known_kept : (t : PlainTerminal) (g : ℕ) (x : KnownFile) (f : ℕ) → (is_open t g ≡ true → is_some x.window ≡ true) → Keeps t (put_known t g x) f
known_kept t g x f keeps is = known-put (λ known. is_some known.window) t g x f ∙ go (eqb_tells g f)
  where
    go : ((nat_eq g f ≡ true) × (g ≡ f)) ⊎ ((nat_eq g f ≡ false) × (g ≢ f)) → (if g == f then is_some x.window else is_open t f) ≡ true
    go (inl (b, here)) = ap (λ y. if y then is_some x.window else is_open t f) b ∙ keeps (subst (λ h. is_open t h ≡ true) (sym here) is)
    go (inr (b, other)) = ap (λ y. if y then is_some x.window else is_open t f) b ∙ is

window_kept : (t : PlainTerminal) (g : ℕ) (w : Window) (f : ℕ) → Keeps t (put_window t g w) f
window_kept t g w f = known_kept t g (record (known_at t g) { window = Some w }) f (λ is. refl)

-- ## Messages are composed

lock_kept : (l : Lock) (t : PlainTerminal) (f : ℕ) → Keeps t (lock_taken l t) f
lock_kept NoLock t f is = is
lock_kept CommandLock t f is = is
lock_kept (FileLock g) t f is = window_kept t g (record (window_at t g) { locks = (window_at t g).locks + 1 }) f is

asked_kept : (m : Tmesg) (t : PlainTerminal) (f : ℕ) → Keeps t (asked m t) f
asked_kept (Trequest g p n) t f is = window_kept t g (record (window_at t g) { awaited = (window_at t g).awaited + 1 }) f is
asked_kept m t f is = is

composed_kept : (m : Tmesg) (t : PlainTerminal) (f : ℕ) → Keeps t (composed t m) f
composed_kept m t f is =
    let u : PlainTerminal = record t { sent = t.sent + 1 } in asked_kept m (lock_taken (lock_of m) u) f (lock_kept (lock_of m) u f is)

all_kept : (ms : List Tmesg) (t : PlainTerminal) (f : ℕ) → Keeps t (all_composed t ms) f
all_kept [] t f is = is
all_kept (m ∷ ms) t f is = all_kept ms (composed t m) f (composed_kept m t f is)

flushed_kept : (t : PlainTerminal) (f : ℕ) → Keeps t (flushed t).0 f
unfolding flushed
flushed_kept t f is = all_kept (unsent_message t.unsent) (record t { unsent = None }) f is

sends_kept : (t : PlainTerminal) (change : PlainTerminal → PlainTerminal) (ms : List Tmesg) (f : ℕ) → ((u : PlainTerminal) → Keeps u (change u) f)
    → Keeps t (sends t change ms).0 f
sends_kept t change ms f keeps is = all_kept ms (change (flushed t).0) f (keeps (flushed t).0 (flushed_kept t f is))

plain_kept : (t : PlainTerminal) (ms : List Tmesg) (f : ℕ) → Keeps t (sends t unchanged ms).0 f
plain_kept t ms f = sends_kept t unchanged ms f (λ u is. is)

one_kept : (m : Option Tmesg) (t : PlainTerminal) (f : ℕ) → Keeps t (sends_if m t).0 f
one_kept None t f is = is
one_kept (Some m) t f is = plain_kept t (m ∷ []) f is

each_kept : (ms : List Tmesg) (t : PlainTerminal) (f : ℕ) → Keeps t (sends_all ms t).0 f
each_kept [] t f is = is
each_kept (m ∷ ms) t f is = plain_kept t (m ∷ ms) f is

requested_kept : (t : PlainTerminal) (g f : ℕ) → Keeps t (requested t g).0 f
unfolding requested
requested_kept t g f = one_kept (wanted t g) t f

either_kept : (b : Bool) (t : PlainTerminal) (x y : Made) (f : ℕ) → Keeps t x.0 f → Keeps t y.0 f → Keeps t (if b then x else y).0 f
either_kept true t x y f first second = first
either_kept false t x y f first second = second

-- ## Events

edited_kept : (t : PlainTerminal) (g f : ℕ) → Keeps t (edited t g) f
edited_kept t g f = known_kept t g (record (known_at t g) { changed = true }) f (λ is. is)

cut_kept : (t : PlainTerminal) (g p q f : ℕ) → Keeps t (cut_rasp t g p q) f
cut_kept t g p q f is =
    let u : PlainTerminal = edited t g in window_kept u g (window_after_del (window_at u g) p q) f (edited_kept t g f is)

typed_kept : (t : PlainTerminal) (g p : ℕ) (s : List ℕ) (f : ℕ) → Keeps t (typed_rasp t g p s) f
typed_kept t g p s f is =
    let u : PlainTerminal = edited t g in
    let v : PlainTerminal = ins_rasp u g p (map Some s) in
    window_kept v g (record (window_at v g) { dot = (p + length s, p + length s) }) f
    (window_kept u g (window_after_ins (window_at u g) p (map Some s)) f (edited_kept t g f is))

unsent_kept : (t : PlainTerminal) (g p : ℕ) (s : List ℕ) (f : ℕ) → Keeps t (kept_unsent t g p s).0 f
unsent_kept t g p s f =
    let u : PlainTerminal = record t { unsent = Some (joined t.unsent g p s) } in
    let v : PlainTerminal = record (flushed t).0 { unsent = Some (joined None g p s) } in
    either_kept (joins t.unsent g p s) t (u, []) (v, (flushed t).1 ++ []) f (λ is. is) (λ is. flushed_kept t f is)

types_kept : (t : PlainTerminal) (g p : ℕ) (s : List ℕ) (f : ℕ) → Keeps t (types t g p s).0 f
types_kept t g p s f is =
    let u : PlainTerminal = (kept_unsent t g p s).0 in
    let v : PlainTerminal = typed_rasp u g p s in
    either_kept (is_command_line g s) v (flushed v) (v, []) f (flushed_kept v f) (λ is. is) (typed_kept u g p s f (unsent_kept t g p s f is))

dot_kept : (t : PlainTerminal) (g f : ℕ) → Keeps t (cuts_dot t g).0 f
dot_kept t g f =
    let d = (window_at t g).dot in
    let cut : PlainTerminal → PlainTerminal = λ u. cut_rasp u g d.0 d.1 in
    let ms : List Tmesg = Tcut g d.0 d.1 ∷ [] in
    either_kept (has_empty_dot t g) t (t, []) (sends t cut ms) f (λ is. is) (sends_kept t cut ms f (λ u. cut_kept u g d.0 d.1 f))

replaced_kept : (t : PlainTerminal) (g p q : ℕ) (s : List ℕ) (f : ℕ) → Keeps t (replaced t g p q s) f
replaced_kept t g p q s f is =
    let u : PlainTerminal = cut_rasp t g p q in window_kept u g (window_after_ins (window_at u g) p (map Some s)) f (cut_kept t g p q f is)

outcome_kept : (o : Option Tmesg) (t : PlainTerminal) (e : UserEvent) (f : ℕ) → Keeps t (outcome_by o t e).0 f
unfolding made_by_type made_by_cut made_by_paste made_by_snarf made_by_view made_by_load made_by_edit
outcome_kept (Some m) t e f is = plain_kept t (m ∷ []) f is
outcome_kept None t (event.Typed g s) f is =
    let u : PlainTerminal = (cuts_dot t g).0 in
    let p = (window_at t g).dot.0 in
    either_kept (is_empty s) u (u, []) (types u g p s) f (λ o. o) (types_kept u g p s f) (dot_kept t g f is)
outcome_kept None t (event.Select g p q) f is = window_kept t g (record (window_at t g) { dot = (p, q) }) f is
outcome_kept None t (event.Cut g) f is =
    let d = (window_at t g).dot in
    let cut : PlainTerminal → PlainTerminal = λ u. cut_rasp u g d.0 d.1 in
    let ms : List Tmesg = Tsnarf g d.0 d.1 ∷ Tcut g d.0 d.1 ∷ [] in
    either_kept (has_empty_dot t g) t (t, []) (sends t cut ms) f (λ o. o) (sends_kept t cut ms f (λ u. cut_kept u g d.0 d.1 f)) is
outcome_kept None t (event.Paste g) f is = plain_kept (cuts_dot t g).0 (Tpaste g (window_at t g).dot.0 ∷ []) f (dot_kept t g f is)
outcome_kept None t (event.Snarf g) f is =
    let d = (window_at t g).dot in
    let ms : List Tmesg = Tsnarf g d.0 d.1 ∷ [] in
    either_kept (has_empty_dot t g) t (t, []) (sends t unchanged ms) f (λ o. o) (plain_kept t ms f) is
outcome_kept None t (event.View g p n) f is =
    let w : Window = record (window_at t g) { view_start = p; view_length = n } in
    requested_kept (put_window t g w) g f (window_kept t g w f is)
outcome_kept None t (event.Load g p n) f is =
    let w : Window = record (window_at t g) { view_start = p; view_length = n } in
    let u : PlainTerminal = put_window t g w in
    each_kept (all_wanted u g) u f (window_kept t g w f is)
outcome_kept None t (event.Edit g p q s) f is =
    let put : PlainTerminal → PlainTerminal = λ u. replaced u g p q s in
    let ms : List Tmesg = edit_messages g p q s in
    either_kept (p == q && is_empty s) t (t, []) (sends t put ms) f (λ o. o) (sends_kept t put ms f (λ u. replaced_kept u g p q s f)) is
outcome_kept None t (event.SetSnarf s) f is = plain_kept t (Tsetsnarf s ∷ []) f is
outcome_kept None t event.Flush f is = flushed_kept t f is
outcome_kept None t e f is = is

unless_full : (n : ℕ) (made : Made) (u : PlainTerminal) (acted : Acted) → if_countable {A = PlainTerminal × Acted} n (made.0, become.Done made.1) ≡ Ok (u, acted)
    → u ≡ made.0
unless_full n made u acted e = grind arith

-- what is left of a result that is there
abbrev term_in : PlainTerminal → Result (PlainTerminal × Acted) TermFault → PlainTerminal
term_in t (Ok (u, acted)) = u
term_in t (Err why) = t

pub acts_keep_open : (t u : PlainTerminal) (acted : Acted) (f : ℕ) → act_of t ≡ Ok (u, acted) → Keeps t u f
unfolding act_of
acts_keep_open t u acted f act = go t.held act
  where
    decides : (e : UserEvent) (es : List UserEvent) (o : Option Verdict)
        → decided o t es (event_outcome (record t { held = es }) e) ≡ Ok (u, acted) → Keeps t u f
    decides e es None is opened =
        let after : PlainTerminal = record t { held = es } in
        let made : Made = event_outcome after e in
        let same : u ≡ made.0 = unless_full made.0.sent made u acted is in
        ap (λ (x : PlainTerminal). is_open x f) same ∙ outcome_kept (message_of after.files e) after e f opened
    decides e es (Some Waits) is opened = ap (λ (x : PlainTerminal). is_open x f) (sym (ap (term_in t) is)) ∙ opened
    decides e es (Some (Refuses r)) is opened = ap (λ (x : PlainTerminal). is_open x f) (sym (ap (term_in t) is)) ∙ opened

    go : (es : List UserEvent) → act_on t es ≡ Ok (u, acted) → Keeps t u f
    go [] is opened = ap (λ (x : PlainTerminal). is_open x f) (sym (ap (term_in t) is)) ∙ opened
    go (e ∷ es) is opened = decides e es (first_of_checks (event_checks t e)) is opened

-- ## Frames

-- the frame ends the text of the file, or does nothing to a file that was not open before
abbrev pub Shuts : PlainTerminal → Effect → ℕ → Type 0
Shuts t x f = (x ≡ Empties) ⊎ ((x ≡ Stays) × (is_open t f ≡ false))

pub was_shut : (t u : PlainTerminal) (f : ℕ) → Keeps t u f → is_open u f ≡ false → is_open t f ≡ false
was_shut t u f keeps shut = go (is_open t f) refl
  where
    go : (b : Bool) → is_open t f ≡ b → b ≡ false
    go false is = refl
    go true is = absurd (true≢false (sym (keeps is) ∙ shut))

-- where the window of g is put, f is another file
shut_beside : (t : PlainTerminal) (g : ℕ) (w : Window) (x : Effect) (f : ℕ) → is_open (put_window t g w) f ≡ false → Shuts t (at_file f g x) f
shut_beside t g w x f shut = go (eqb_tells g f)
  where
    there : (if g == f then true else is_open t f) ≡ false
    there = sym (known-put (λ known. is_some known.window) t g (record (known_at t g) { window = Some w }) f) ∙ shut

    go : ((nat_eq g f ≡ true) × (g ≡ f)) ⊎ ((nat_eq g f ≡ false) × (g ≢ f)) → Shuts t (at_file f g x) f
    go (inl (b, here)) = absurd (true≢false (sym (ap (λ y. if y then true else is_open t f) b) ∙ there))
    go (inr (b, other)) = inr (ap (λ y. if y then x else Stays) b, sym (ap (λ y. if y then true else is_open t f) b) ∙ there)

-- where g is shut, f is g or was not open
shut_here : (t : PlainTerminal) (g : ℕ) (known : KnownFile) (f : ℕ) → known.window ≡ None → is_open (put_known t g known) f ≡ false
    → Shuts t (at_file f g Empties) f
shut_here t g known f none shut = go (eqb_tells g f)
  where
    there : (if g == f then is_some known.window else is_open t f) ≡ false
    there = sym (known-put (λ x. is_some x.window) t g known f) ∙ shut

    go : ((nat_eq g f ≡ true) × (g ≡ f)) ⊎ ((nat_eq g f ≡ false) × (g ≢ f)) → Shuts t (at_file f g Empties) f
    go (inl (b, here)) = inl (ap (λ y. if y then Empties else Stays) b)
    go (inr (b, other)) =
        inr (ap (λ y. if y then Empties else Stays) b, sym (ap (λ y. if y then is_some known.window else is_open t f) b) ∙ there)

shut_removed : (t : PlainTerminal) (g f : ℕ) → is_open (record t { files = free_slot t.files g }) f ≡ false → Shuts t (at_file f g Empties) f
shut_removed t g f shut = go (eqb_tells g f)
  where
    go : ((nat_eq g f ≡ true) × (g ≡ f)) ⊎ ((nat_eq g f ≡ false) × (g ≢ f)) → Shuts t (at_file f g Empties) f
    go (inl (b, here)) = inl (ap (λ y. if y then Empties else Stays) b)
    go (inr (b, other)) = inr (ap (λ y. if y then Empties else Stays) b, grind (arith, shut, other, slot-free_other))

exit_shut : (t : PlainTerminal) (f : ℕ) → is_open (took_exit t) f ≡ false → is_open t f ≡ false
unfolding took_exit
exit_shut t f shut = grind (arith, shut, slot-map)

frame_shut : (t : PlainTerminal) (m : Hmesg) (f : ℕ) → is_open (frame_outcome t m).0 f ≡ false → Shuts t (effect f m) f
unfolding took_bindname took_data took_grow took_growdata took_cut took_unlockfile took_close
frame_shut t (Hdata g p s) f shut = shut_beside t g _ _ f shut
frame_shut t (Hgrow g p n) f shut = shut_beside t g _ _ f shut
frame_shut t (Hgrowdata g p s) f shut = shut_beside t g _ _ f shut
frame_shut t (Hcut g p n) f shut = shut_beside t g _ _ f shut
frame_shut t (Hbindname g) f shut = shut_beside t g _ _ f shut
frame_shut t (Hclose g) f shut = shut_here t g (record (known_at t g) { window = None }) f refl shut
frame_shut t (Hnewname g) f shut = shut_here t g blank_known f refl shut
frame_shut t (Hdelname g) f shut = shut_removed t g f shut
frame_shut t (Hmovname g s) f shut = inr (refl, was_shut t (frame_outcome t (Hmovname g s)).0 f (known_kept t g (record (known_at t g) { name = s }) f (λ is. is)) shut)
frame_shut t (Hcheck g) f shut = inr (refl, was_shut t (frame_outcome t (Hcheck g)).0 f (requested_kept t g f) shut)
frame_shut t (Horigin g p) f shut = inr (refl, was_shut t (frame_outcome t (Horigin g p)).0 f (window_kept t g (record (window_at t g) { view_start = p }) f) shut)
frame_shut t (Hunlockfile g) f shut =
    inr (refl, was_shut t (frame_outcome t (Hunlockfile g)).0 f (λ is. requested_kept (took_unlockfile t g) g f (window_kept t g (record (window_at t g) { locks = (window_at t g).locks - 1 }) f is)) shut)
frame_shut t (Hsetdot g p q) f shut = inr (refl, was_shut t (frame_outcome t (Hsetdot g p q)).0 f (window_kept t g (record (window_at t g) { dot = (p, q) }) f) shut)
frame_shut t (Hmoveto g p) f shut = inr (refl, was_shut t (frame_outcome t (Hmoveto g p)).0 f (window_kept t g (record (window_at t g) { view_start = p }) f) shut)
frame_shut t (Hclean g) f shut =
    inr (refl, was_shut t (frame_outcome t (Hclean g)).0 f (known_kept t g (record (known_at t g) { dirty = false; changed = false }) f (λ is. is)) shut)
frame_shut t (Hdirty g) f shut = inr (refl, was_shut t (frame_outcome t (Hdirty g)).0 f (known_kept t g (record (known_at t g) { dirty = true }) f (λ is. is)) shut)
frame_shut t Hack f shut = inr (refl, was_shut t (frame_outcome t Hack).0 f (either_kept t.has_exited t (t, []) (sends t unchanged (Tack ∷ [])) f (λ is. is) (plain_kept t (Tack ∷ []) f)) shut)
frame_shut t Hexit f shut = inr (refl, exit_shut t f shut)
frame_shut t m f shut = inr (refl, shut)

taken_is : (t u : PlainTerminal) (frame : HFrame) (ms : List Tmesg) → take_of t frame ≡ Ok (u, ms) → u ≡ (frame_outcome t frame.msg).0
unfolding take_of
taken_is t u frame ms e = grind arith

pub frames_shut : (t u : PlainTerminal) (frame : HFrame) (ms : List Tmesg) (f : ℕ) → take_of t frame ≡ Ok (u, ms) → is_open u f ≡ false
    → Shuts t (effect f frame.msg) f
frames_shut t u frame ms f taken shut =
    frame_shut t frame.msg f (ap (λ (x : PlainTerminal). is_open x f) (sym (taken_is t u frame ms taken)) ∙ shut)

-- Events that only look, and those that find nothing to do.
use Rattle.sam_crossing.proofs.Common.{◌≡◌, ℕ, true, false, ◌==◌, [], ◌∷◌, Option, Some, None, refl, ap, ◌∙◌, not-false, part, may_look, first_of_checks, file_at, Tcheck, Torigin, Tlook, Tsend, Tstartsnarf, Hunlock, Hunlockfile, PlainHost, Reply, reply_to, reply_look, reply_send, reply_origin, reply_check, reply_startsnarf, KnownFile, Window, UserEvent, PlainTerminal, known_at, window_at, is_open, put_window, effect, event_checks, event_outcome, InOrder}
use Rattle.sam_runes.specs.Texts.{lines_before, prefix_in_bytes, snarf_limit}
use Rattle.sam_term.specs.declared.event.UserEvent.TheVariants.{Cut, Snarf, Send, Look, Scroll, View, Load, Check, GetSnarf, Flush}
use Rattle.sam_term.specs.declared.event.Verdict.{Verdict}
use Rattle.sam_crossing.proofs.Passing.{passed}
use Rattle.sam_local.specs.Local.{PlainEditor, at_rest, all_taken, carried_unless, carried}
use Rattle.sam_local.specs.Editing.{text_in, dot_in, snarf_in, May, with_window, EmptyDotKeeps, LookKeeps, CheckAndFlushKeep, ViewShows, LoadShows, ScrollShows, GetSnarfFetches}
use Rattle.sam_local.proofs.Sights.{turned}
use Rattle.sam_local.proofs.Frames.{turn}
use Rattle.sam_local.proofs.Ahead.{opened-put}
use Rattle.sam_local.proofs.Uncounted.{rest}
use Rattle.sam_local.proofs.Events.{is_cut, cut_window, turn_nothing}
use Rattle.sam_local.proofs.Editors.{after-none, after-one}
use Rattle.sam_local.proofs.Whole.{sight-same, kept-all, kept-here, back, unlock-sight}
use Rattle.sam_local.proofs.Editing.{reached}

-- where nothing stands against an event, or it changes nothing anyway
pub keeps : (editor : PlainEditor) (e : UserEvent) → (May editor e → carried editor e ≡ editor) → carried editor e ≡ editor
keeps editor e same = by (first_of_checks (event_checks editor.term e)) refl
  where
    by : (v : Option Verdict) → first_of_checks (event_checks editor.term e) ≡ v → carried editor e ≡ editor
    by None q = same q
    by (Some why) q = ap (λ (v : Option Verdict). carried_unless v editor (event_outcome editor.term e)) q

module _ (h : PlainHost) (t : PlainTerminal) (o : InOrder (rest h) (at_rest h t).term [] []) where
  abbrev term : PlainTerminal
  term = (at_rest h t).term

  module _ (f : ℕ) where
    abbrev w : Window
    w = window_at (at_rest h t).term f

    abbrev known : KnownFile
    known = known_at (at_rest h t).term f

    look-plain : may_look (part (file_at h.files f).text w.dot.0 w.dot.1) ≡ false → reply_to (rest h) (Tlook f w.dot.0 w.dot.1) ≡ (rest h, Hunlockfile f ∷ [])
    unfolding reply_look
    look-plain e = rw e refl

    send-plain : (w.dot.0 == w.dot.1) ≡ true → reply_to (rest h) (Tsend f w.dot.0 w.dot.1) ≡ (rest h, Hunlock ∷ [])
    unfolding reply_send
    send-plain e = rw e refl

    cut-keeps : (w.dot.0 == w.dot.1) ≡ true → May (at_rest h t) (Cut f) → carried (at_rest h t) (Cut f) ≡ at_rest h t
    cut-keeps e may =
        after-none h t o (Cut f) may (rw e refl)
        ∙ back h t (turned term f (turn is_cut cut_window)) (turn_nothing term f (not-false (is_open term f) (passed term (Cut f) may).opened) (w.dot.0 == w.dot.1) e)

    snarf-keeps : (w.dot.0 == w.dot.1) ≡ true → May (at_rest h t) (Snarf f) → carried (at_rest h t) (Snarf f) ≡ at_rest h t
    snarf-keeps e may = after-none h t o (Snarf f) may (rw e refl) ∙ back h t term refl

    send-keeps : (w.dot.0 == w.dot.1) ≡ true → May (at_rest h t) (Send f) → carried (at_rest h t) (Send f) ≡ at_rest h t
    send-keeps e may =
        after-one h t o (Send f) (Tsend f w.dot.0 w.dot.1) may refl ∙ ap (λ (r : Reply). at_rest r.0 (all_taken term r.1)) (send-plain e) ∙ back h t (effect term Hunlock) refl

    look-keeps : may_look (part (file_at h.files f).text w.dot.0 w.dot.1) ≡ false → May (at_rest h t) (Look f) → carried (at_rest h t) (Look f) ≡ at_rest h t
    look-keeps e may =
        after-one h t o (Look f) (Tlook f w.dot.0 w.dot.1) may refl ∙ ap (λ (r : Reply). at_rest r.0 (all_taken term r.1)) (look-plain e)
        ∙ back h t (effect term (Hunlockfile f)) (unlock-sight term f (not-false (is_open term f) (passed term (Look f) may).opened))

    check-keeps : May (at_rest h t) (Check f) → carried (at_rest h t) (Check f) ≡ at_rest h t
    unfolding reply_check
    check-keeps may = after-one h t o (Check f) (Tcheck f) may refl ∙ back h t term refl

    -- the user is shown another part
    shown : (p n : ℕ) → let y : Window → Window = λ w. record w { view_start = p; view_length = n } in
        at_rest (rest h) (turned term f (turn (λ w. false) y)) ≡ with_window (at_rest h t) f (y w)
    shown p n =
        let y : Window → Window = λ w. record w { view_start = p; view_length = n } in
        kept-here h t (turned term f (turn (λ w. false) y)) f (record known { window = Some (y w) })
        (sight-same term f (turn (λ w. false) y known) (record known { window = Some (y w) }) refl)

    load-shows : (p n : ℕ) → May (at_rest h t) (Load f p n) → carried (at_rest h t) (Load f p n) ≡ with_window (at_rest h t) f (record w { view_start = p; view_length = n })
    load-shows p n may = after-none h t o (Load f p n) may refl ∙ shown p n

    view-shows : (p n : ℕ) → May (at_rest h t) (View f p n) → carried (at_rest h t) (View f p n) ≡ with_window (at_rest h t) f (record w { view_start = p; view_length = n })
    view-shows p n may = after-none h t o (View f p n) may refl ∙ shown p n

    scroll-shows : (n : ℕ) → May (at_rest h t) (Scroll f n)
        → carried (at_rest h t) (Scroll f n) ≡ with_window (at_rest h t) f (record w { view_start = lines_before (file_at h.files f).text w.view_start n })
    unfolding reply_origin
    scroll-shows n may =
        let v : Window = record w { view_start = lines_before (file_at h.files f).text w.view_start n } in
        let x = put_window term f v in
        after-one h t o (Scroll f n) (Torigin f w.view_start n) may refl
        ∙ kept-here h t (effect x (Hunlockfile f)) f (record known { window = Some v }) (unlock-sight x f (opened-put term f v))

  flush-keeps : May (at_rest h t) Flush → carried (at_rest h t) Flush ≡ at_rest h t
  flush-keeps may = after-none h t o Flush may refl ∙ back h t term refl

  snarf-fetched : May (at_rest h t) GetSnarf
      → carried (at_rest h t) GetSnarf ≡ record (at_rest h t) { term = record term { snarf = prefix_in_bytes h.files.snarf (snarf_limit h.version) } }
  unfolding reply_startsnarf
  snarf-fetched may =
      let x = record term { snarf = prefix_in_bytes h.files.snarf (snarf_limit h.version) } in
      after-one h t o GetSnarf Tstartsnarf may refl ∙ kept-all h t (rest h) x x refl (λ g. refl) refl

-- ## The laws

pub empty_dot_keeps : EmptyDotKeeps
empty_dot_keeps editor f r =
    reached (λ x. ((dot_in x f).0 == (dot_in x f).1) ≡ true → (carried x (Cut f) ≡ x) × (carried x (Snarf f) ≡ x) × (carried x (Send f) ≡ x))
    (λ h t o e. (keeps (at_rest h t) (Cut f) (cut-keeps h t o f e), keeps (at_rest h t) (Snarf f) (snarf-keeps h t o f e), keeps (at_rest h t) (Send f) (send-keeps h t o f e)))
    editor r

pub look_keeps : LookKeeps
look_keeps editor f r =
    reached (λ x. let d = dot_in x f in may_look (part (text_in x f) d.0 d.1) ≡ false → carried x (Look f) ≡ x)
    (λ h t o e. keeps (at_rest h t) (Look f) (look-keeps h t o f e)) editor r

pub check_and_flush_keep : CheckAndFlushKeep
check_and_flush_keep editor r =
    reached (λ x. ((f : ℕ) → carried x (Check f) ≡ x) × (carried x Flush ≡ x))
    (λ h t o. ((λ f. keeps (at_rest h t) (Check f) (check-keeps h t o f)), keeps (at_rest h t) Flush (flush-keeps h t o))) editor r

pub view_shows : ViewShows
view_shows editor f p n r =
    reached (λ x. May x (View f p n) → carried x (View f p n) ≡ with_window x f (record (window_at x.term f) { view_start = p; view_length = n }))
    (λ h t o. view-shows h t o f p n) editor r

pub load_shows : LoadShows
load_shows editor f p n r =
    reached (λ x. May x (Load f p n) → carried x (Load f p n) ≡ with_window x f (record (window_at x.term f) { view_start = p; view_length = n }))
    (λ h t o. load-shows h t o f p n) editor r

pub scroll_shows : ScrollShows
scroll_shows editor f n r =
    reached
    (λ x. May x (Scroll f n) → let w = window_at x.term f in
    carried x (Scroll f n) ≡ with_window x f (record w { view_start = lines_before (text_in x f) w.view_start n }))
    (λ h t o. scroll-shows h t o f n) editor r

pub get_snarf_fetches : GetSnarfFetches
get_snarf_fetches editor r =
    reached (λ x. May x GetSnarf → carried x GetSnarf ≡ record x { term = record x.term { snarf = prefix_in_bytes (snarf_in x) (snarf_limit x.host.version) } })
    snarf-fetched editor r

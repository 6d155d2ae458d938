-- What a request finds.
use Rattle.std.proofs.Common.{◌≡◌, ◌≢◌, ◌⊎◌, inl, inr, sym, ap, ◌∙◌, subst, ℕ, ◌≤◌, true, false, cond, nat_eq, List, Option, Some, None, is_none, arith}
use Rattle.std.specs.Prelude.{slice_index_or}
use Rattle.std.proofs.lemmas.Bool.Decides.{eqb_tells, nat_tests}
use Rattle.sam_runes.specs.Slots.{Slots}
use Rattle.sam_pending.specs.Cells.{Cell, Change, by, text_at}
use Rattle.sam_pending.specs.Groups.{IsMadeBy, is_due_by}
use Rattle.sam_pending.specs.Layers.{Layer}
use Rattle.sam_pending.proofs.UpToLaws.{edits_keep_text, put_is_text}
use Rattle.sam_endpoint.specs.TermEndpoints.{PlainTermEndpoint}
use Rattle.sam_term.specs.declared.event.UserEvent.{UserEvent}
use Rattle.sam_overlay.specs.Calls.{CanAct, FindsText, PlainOverlay, cells_at}
use Rattle.sam_overlay.specs.Overlays.{AreOver, Brought, cells_of_file}
use Rattle.sam_overlay.specs.Requests.{RequestsFindTheirText}
use Rattle.sam_overlay.proofs.CallLaws.{rasp_of_file}

pub requests_find_their_text : RequestsFindTheirText
requests_find_their_text t ls r f over clear few concerned =
    sym (rasp_of_file t ls f over) ∙ put_is_text r.group (cells_of_file t ls f) (clear f few concerned)

pub event_finds : (o : PlainOverlay) (event : UserEvent) (g : ℕ) → AreOver o.end.term o.layers → CanAct o event g → FindsText o event g
event_finds o event g over can f few concerned =
    sym (rasp_of_file o.end.term o.layers f over) ∙ put_is_text g (cells_at o f) (can.ready f few concerned).clear

-- ## Edits of a group are those of the groups up to a later one

by-later : (b h : ℕ) (o : Option ℕ) → b ≤ h → by b o ≡ true → by h o ≡ true
by-later b h None up is = absurd cc
by-later b h (Some g) up is = grind (arith, up, is, nat_tests)

due-later : (b h : ℕ) (c : Cell) → b ≤ h → is_due_by b c ≡ true → is_due_by h c ≡ true
due-later b h c up is = step c.born is
  where
    step : (o : Option ℕ) → cond (is_none o) (by b c.died) (by b o) ≡ true → cond (is_none o) (by h c.died) (by h o) ≡ true
    step None is = by-later b h c.died up is
    step (Some g) is = by-later b h (Some g) up is

made-later : (b h : ℕ) (cs ds : List Cell) (e : Change) → b ≤ h → IsMadeBy b cs e ds → IsMadeBy h cs e ds
made-later b h cs ds e up m = record {
  before = m.before;
  stretch = m.stretch;
  behind = m.behind;
  old = m.old;
  some = m.some;
  due = λ k d l. due-later b h (slice_index_or m.stretch k d) up (m.due k d l);
  made = m.made;
}

-- the edit that was put changes no text that a request behind it comes to
pub brought_texts : (e g : PlainTermEndpoint) (ls ks : Slots Layer) (m : Option ℕ) (f b h k : ℕ) → Brought e ls m f g ks → m ≡ Some b → b ≤ h
    → text_at h (cells_of_file g.term ks k) ≡ text_at h (cells_of_file e.term ls k)
brought_texts e g ls ks m f b h k made is up = go (eqb_tells k f)
  where
    go : ((nat_eq k f ≡ true) × (k ≡ f)) ⊎ ((nat_eq k f ≡ false) × (k ≢ f)) → text_at h (cells_of_file g.term ks k) ≡ text_at h (cells_of_file e.term ls k)
    go (inl (t, here)) =
        subst (λ j. text_at h (cells_of_file g.term ks j) ≡ text_at h (cells_of_file e.term ls j)) (sym here)
        (edits_keep_text h (cells_of_file e.term ls f) (cells_of_file g.term ks f) made.change
        (made-later b h (cells_of_file e.term ls f) (cells_of_file g.term ks f) made.change up (made.by b is)))
    go (inr (t, other)) = ap (text_at h) (made.others k other)

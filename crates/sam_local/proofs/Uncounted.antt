-- The host's count of messages decides nothing but itself.
use Rattle.sam_crossing.proofs.Common.{◌≡◌, ℕ, Bool, true, false, not, ◌==◌, ◌||◌, ◌&&◌, ◌+◌, if◌then◌else◌, List, [], ◌∷◌, length, Option, Some, None, refl, sym, ap, ◌∙◌, arith, same_Some, is_empty, ends_line, max_runes, nat_lt, nat_le, part, searched, may_look, searched_for, as_lines, has_room, Range, first_of_checks, file_at, Tmesg, Tstartcmdfile, Ttype, Tpaste, Tstartnewfile, Tlook, Tsearch, Tsend, Hmesg, Hsetpat, PlainHost, Reply, HostFault, counted, host_checks, reply_to, reply_found, with_files, answers, reply_of, replied_then, PlainTerminal}
unfoldable use Rattle.sam_host.proofs.EachFrame.{replies_opened}
use Rattle.sam_runes.specs.Texts.{all_tags}
use Rattle.sam_crossing.specs.Fold.{replied, after_frames}
use Rattle.sam_local.specs.Local.{answered_with}

abbrev pub rest : PlainHost → PlainHost
rest h = record h { taken = 0 }

abbrev pub rested : Option Reply → Option Reply
rested None = None
rested (Some r) = Some (rest r.0, r.1)

abbrev pub AreAlike : Reply → Reply → Type 0
AreAlike x y = (rest x.0 ≡ rest y.0) × (x.1 ≡ y.1)

alike-if : (b : Bool) (x y u v : Reply) → AreAlike x u → AreAlike y v → AreAlike (if b then x else y) (if b then u else v)
alike-if true x y u v a c = a
alike-if false x y u v a c = c

alike-found : (h : PlainHost) (f : ℕ) (d : Option Range) (frames : List Hmesg) → AreAlike (reply_found (rest h) f d frames) (reply_found h f d frames)
alike-found h f None frames = (refl, refl)
alike-found h f (Some d) frames = (refl, refl)

alike-reply : (h : PlainHost) (m : Tmesg) → AreAlike (reply_to (rest h) m) (reply_to h m)
unfolding replies_opened
alike-reply h Tstartcmdfile = alike-if (file_at h.files 0).opened _ _ _ _ (refl, refl) (refl, refl)
alike-reply h (Ttype f p s) = alike-if ((f == 0) && ends_line s) _ _ _ _ (refl, refl) (refl, refl)
alike-reply h (Tpaste f p) =
    alike-if (is_empty h.files.snarf || nat_lt max_runes (length (file_at h.files f).text + length h.files.snarf)) _ _ _ _ (refl, refl) (refl, refl)
alike-reply h Tstartnewfile = alike-if (nat_le all_tags (length h.files.slots)) _ _ _ _ (refl, refl) (refl, refl)
alike-reply h (Tlook f p q) =
    let lit = part (file_at h.files f).text p q in
    let sought = with_files h (record h.files { pattern = Some lit }) in
    alike-if (may_look lit) _ _ _ _ (alike-found sought f (searched (file_at h.files f).text lit q) (Hsetpat lit ∷ [])) (refl, refl)
alike-reply h (Tsearch f p q) = alike-found h f (searched_for h.files.pattern (file_at h.files f).text q) []
alike-reply h (Tsend f p q) =
    let s = as_lines (part (file_at h.files f).text p q) in
    alike-if ((p == q) || not (has_room h.files s)) _ _ _ _ (refl, refl) (refl, refl)
alike-reply h m = (refl, refl)

reply-rest : (h : PlainHost) (m : Tmesg) → rested (reply_of (rest h) m) ≡ rested (reply_of h m)
reply-rest h m = by h.is_done
  where
    a : AreAlike (reply_to (rest h) m) (reply_to h m)
    a = alike-reply h m

    checked : (o : Option HostFault) → rested (replied o (reply_to (rest h) m)) ≡ rested (replied o (reply_to h m))
    checked None = λ i. Some (a.0 i, a.1 i)
    checked (Some why) = refl

    by : (b : Bool) → rested (if b then Some (counted (rest h), []) else replied (first_of_checks (host_checks h m)) (reply_to (rest h) m))
        ≡ rested (if b then Some (counted h, []) else replied (first_of_checks (host_checks h m)) (reply_to h m))
    by true = refl
    by false = checked (first_of_checks (host_checks h m))

rested-after_frames : (frames : List Hmesg) (o : Option Reply) → rested (after_frames frames o) ≡ after_frames frames (rested o)
rested-after_frames frames None = refl
rested-after_frames frames (Some r) = refl

then-rested : (a b : Option Reply) (next : PlainHost → Option Reply) → ((h : PlainHost) → rested (next (rest h)) ≡ rested (next h)) → rested a ≡ rested b
    → rested (replied_then a next) ≡ rested (replied_then b next)
then-rested None None next n e = refl
then-rested None (Some y) next n e = grind arith
then-rested (Some x) None next n e = grind arith
then-rested (Some x) (Some y) next n e =
    let same = same_Some _ _ e in
    rested-after_frames x.1 (next x.0) ∙ ap (after_frames x.1) (sym (n x.0)) ∙ (λ i. after_frames (same i).1 (rested (next (same i).0))) ∙ ap (after_frames y.1) (n y.0)
    ∙ sym (rested-after_frames y.1 (next y.0))

answers-rest : (ms : List Tmesg) (h : PlainHost) → rested (answers (rest h) ms) ≡ rested (answers h ms)
answers-rest [] h = refl
answers-rest (m ∷ ms) h = then-rested (reply_of (rest h) m) (reply_of h m) (λ k. answers k ms) (answers-rest ms) (reply-rest h m)

pub answers-rested : (ms : List Tmesg) (h k : PlainHost) → rest h ≡ rest k → rested (answers h ms) ≡ rested (answers k ms)
answers-rested ms h k e = sym (answers-rest ms h) ∙ ap (λ (j : PlainHost). rested (answers j ms)) e ∙ answers-rest ms k

answered-rest : (h : PlainHost) (t : PlainTerminal) (down : List Hmesg) (o : Option Reply) → answered_with h t down o ≡ answered_with h t down (rested o)
answered-rest h t down None = refl
answered-rest h t down (Some r) = refl

-- answers that differ in counts alone come to the same
pub answered-rested : (h : PlainHost) (t : PlainTerminal) (down : List Hmesg) (a b : Option Reply) → rested a ≡ rested b
    → answered_with h t down a ≡ answered_with h t down b
answered-rested h t down a b e = answered-rest h t down a ∙ ap (answered_with h t down) e ∙ sym (answered-rest h t down b)

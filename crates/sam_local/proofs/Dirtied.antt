-- Both sides, and both sides in which some files are dirty that are clean there: the same answers lead the same way.
use Rattle.sam_crossing.proofs.Common.{◌≡◌, ℕ, zero, suc, ◌≤◌, Bool, true, false, not, ◌==◌, ◌&&◌, ◌||◌, if◌then◌else◌, List, [], ◌∷◌, ◌++◌, length, Option, Some, None, option_map, unwrap_or, refl, sym, ap, ◌∙◌, inl, inr, subst, arith, true≢false, same_Some, eqb-true, first_of_checks, Slots, slot, slot_given, slot-map, PlainFile, PlainFiles, file_at, blank_known, Tmesg, Twrite, Tclose, Hmesg, Hdirty, Hclean, Hunlockfile, Hclose, Hdelname, Hunlock, PlainHost, Reply, HostFault, counted, host_checks, reply_to, answers, reply_of, KnownFile, PlainTerminal, known_at, effect}
unfoldable use Rattle.sam_host.proofs.EachFrame.{replies_opened}
use Rattle.sam_host.specs.Marking.{marked}
use Rattle.sam_crossing.specs.Fold.{replied}
use Rattle.sam_crossing.proofs.DirtyFiles.{Fewer, IsDirt, dirty_files, dirty_slots, file-dirt, has-dirt, with_dirt}
use Rattle.sam_crossing.proofs.DirtyReplies.{marks_after}
use Rattle.sam_crossing.proofs.Dirt.{Replies, reply_of-dirt, replies-fewer}
use Rattle.sam_crossing.proofs.Folds.{Answered as After, answered}
use Rattle.sam_crossing.proofs.Known.{IsShown, NoLoss, loses, losses, never_lost, shown_kept, undoes}
use Rattle.sam_local.specs.Local.{PlainEditor, all_taken, at_rest, clean_known, whole_file}
use Rattle.sam_local.proofs.Blind.{blind-effect, blind-rest, dirty-effect, dirty-known, dirty_after, dirty_in, forget, forget-put}
use Rattle.sam_local.proofs.Checks.{rest-known}
use Rattle.sam_local.proofs.Frames.{taken-append}
use Rattle.sam_local.proofs.Sights.{put-again}
use Rattle.sam_local.proofs.Uncounted.{rest}

-- ## Alike

-- The host g is h, but that the files of d are dirty; the terminals differ in dirty marks alone, and not where d doesn't hold; where it
-- does, t says that the file is dirty. These are files that were announced, and not the command file
pub record AreAlike (d : ℕ → Bool) (g h : PlainHost) (t u : PlainTerminal) : Type 0 where
  pub host : g ≡ with_dirt d h
  pub shown : (f : ℕ) → d f ≡ true → ((f == 0) ≡ false) × IsShown h.files f
  pub term : forget t ≡ forget u
  pub same : (f : ℕ) → d f ≡ false → dirty_in t f ≡ dirty_in u f
  pub told : (f : ℕ) → d f ≡ true → dirty_in t f ≡ true

-- ## Frames

abbrev NoLosses : (ℕ → Bool) → List Hmesg → Type 0
NoLosses d ms = (f : ℕ) → d f ≡ true → NoLoss f ms

or-false : (a b : Bool) → (a || b) ≡ false → (a ≡ false) × (b ≡ false)
or-false true b e = absurd (true≢false e)
or-false false b e = (refl, e)

or-last : (b : Bool) → (b || true) ≡ true
or-last true = refl
or-last false = refl

first_kept : (f : ℕ) (m : Hmesg) (ms : List Hmesg) → NoLoss f (m ∷ ms) → (loses f m ≡ false) × NoLoss f ms
first_kept f m ms e = or-false (loses f m) (losses f ms) e

stays-dirty : (f : ℕ) (m : Hmesg) → loses f m ≡ false → dirty_after f m true ≡ true
stays-dirty f (Hdirty g) e = or-last (f == g)
stays-dirty f (Hclean g) e = ap (λ (b : Bool). not b && true) e
stays-dirty f m e = grind (arith, e)

frames-told : (f : ℕ) (ms : List Hmesg) (t : PlainTerminal) → NoLoss f ms → dirty_in t f ≡ true → dirty_in (all_taken t ms) f ≡ true
frames-told f [] t none e = e
frames-told f (m ∷ ms) t none e =
    let parts = first_kept f m ms none in
    frames-told f ms (effect t m) parts.1 (dirty-effect t m f ∙ ap (dirty_after f m) e ∙ stays-dirty f m parts.0)

-- a file that is known is made dirty
pub dirty-blind : (u : PlainTerminal) (f : ℕ) → slot u.files f ≡ Some (known_at u f) → forget (effect u (Hdirty f)) ≡ forget u
dirty-blind u f there =
    let k = known_at u f in
    forget-put u f (record k { dirty = true })
    ∙ (λ i. record (forget u) { files = put-again (forget u).files f (clean_known k) (slot-map clean_known u.files f ∙ ap (option_map clean_known) there) i })

known-both : (t u : PlainTerminal) (f : ℕ) → forget t ≡ forget u → dirty_in t f ≡ true → slot u.files f ≡ Some (known_at u f)
known-both t u f same e = by (slot u.files f) (sym (slot-map clean_known u.files f) ∙ sym (ap (λ (x : PlainTerminal). slot x.files f) same) ∙ slot-map clean_known t.files f ∙ ap (option_map clean_known) (dirty-known t f e))
  where
    by : (s : Option KnownFile) → option_map clean_known s ≡ Some (clean_known (known_at t f)) → s ≡ Some (unwrap_or s (record { name = []; dirty = false; changed = false; window = None }))
    by None q = absurd (grind (arith, q))
    by (Some known) q = refl

frames-term : (d : ℕ → Bool) (xs ys : List Hmesg) (t u : PlainTerminal) → Fewer d xs ys → NoLosses d ys → ((f : ℕ) → d f ≡ true → dirty_in t f ≡ true) → forget t ≡ forget u
    → forget (all_taken t ys) ≡ forget (all_taken u xs)
frames-term d [] ys t u a none on e = subst (λ (l : List Hmesg). forget (all_taken t l) ≡ forget u) (sym a) e
frames-term d (x ∷ xs) ys t u (inl (f, is, marked, a)) none on e =
    frames-term d xs ys t (effect u x) a none on
    (e ∙ sym (ap (λ (m : Hmesg). forget (effect u m)) is ∙ dirty-blind u f (known-both t u f e (on f marked))))
frames-term d (x ∷ xs) ys t u (inr (zs, is, a)) none on e =
    let left : NoLosses d (x ∷ zs) = λ f m. subst (NoLoss f) is (none f m) in
    subst (λ (l : List Hmesg). forget (all_taken t l) ≡ forget (all_taken u (x ∷ xs))) (sym is)
    (frames-term d xs zs (effect t x) (effect u x) a (λ f m. (first_kept f x zs (left f m)).1)
    (λ f m. dirty-effect t x f ∙ ap (dirty_after f x) (on f m) ∙ stays-dirty f x (first_kept f x zs (left f m)).0) (blind-effect t u x e))

frames-same : (d : ℕ → Bool) (f : ℕ) → d f ≡ false → (xs ys : List Hmesg) (t u : PlainTerminal) → Fewer d xs ys → dirty_in t f ≡ dirty_in u f
    → dirty_in (all_taken t ys) f ≡ dirty_in (all_taken u xs) f
frames-same d f off [] ys t u a e = subst (λ (l : List Hmesg). dirty_in (all_taken t l) f ≡ dirty_in u f) (sym a) e
frames-same d f off (x ∷ xs) ys t u (inl (g, is, marked, a)) e =
    frames-same d f off xs ys t (effect u x) a
    (e ∙ sym (dirty-effect u x f ∙ ap (λ (m : Hmesg). dirty_after f m (dirty_in u f)) is ∙ ap (λ (b : Bool). b || dirty_in u f) other))
  where
    other : (f == g) ≡ false
    other = by (f == g) refl
      where
        by : (b : Bool) → (f == g) ≡ b → (f == g) ≡ false
        by true q = absurd (true≢false (sym marked ∙ ap d (sym (eqb-true f g q)) ∙ off))
        by false q = q
frames-same d f off (x ∷ xs) ys t u (inr (zs, is, a)) e =
    subst (λ (l : List Hmesg). dirty_in (all_taken t l) f ≡ dirty_in (all_taken u (x ∷ xs)) f) (sym is)
    (frames-same d f off xs zs (effect t x) (effect u x) a (dirty-effect t x f ∙ ap (dirty_after f x) e ∙ sym (dirty-effect u x f)))

-- ## One answer

and-false : (a b : Bool) → (a && not b) ≡ false → a ≡ true → b ≡ true
and-false true true e q = refl
and-false true false e q = absurd (true≢false e)
and-false false b e q = absurd (true≢false (sym q))

-- a file that is written or closed is clean at the terminal then
undone-clean : (d : ℕ → Bool) (h : PlainHost) (m : Tmesg) (f : ℕ) (t : PlainTerminal) → d f ≡ true → marks_after m d f ≡ false → dirty_in (all_taken t (reply_to h m).1) f ≡ false
unfolding replies_opened
undone-clean d h (Twrite g) f t on off =
    let here = and-false (d f) (f == g) off on in
    dirty-effect (effect t (Hclean g)) (Hunlockfile g) f ∙ dirty-effect t (Hclean g) f ∙ ap (λ (b : Bool). not b && dirty_in t f) here
undone-clean d h (Tclose g) f t on off =
    let here = and-false (d f) (f == g) off on in
    let closed = effect t (Hclose g) in
    dirty-effect (effect closed (Hdelname g)) Hunlock f ∙ dirty-effect closed (Hdelname g) f ∙ ap (λ (b : Bool). not b && dirty_in closed f) here
undone-clean d h m f t on off = absurd (true≢false (sym on ∙ off))

-- a message that leaves a mark undoes it not
not-undone : (m : Tmesg) (d : ℕ → Bool) (f : ℕ) → marks_after m d f ≡ true → undoes f m ≡ false
not-undone (Twrite g) d f e = by (d f) (f == g) e
  where
    by : (a b : Bool) → (a && not b) ≡ true → b ≡ false
    by a false e = refl
    by true true e = absurd (true≢false (sym e))
    by false true e = absurd (true≢false (sym e))
not-undone (Tclose g) d f e = by (d f) (f == g) e
  where
    by : (a b : Bool) → (a && not b) ≡ true → b ≡ false
    by a false e = refl
    by true true e = absurd (true≢false (sym e))
    by false true e = absurd (true≢false (sym e))
not-undone m d f e = refl

shown-dirt : (d : ℕ → Bool) (fs : PlainFiles) (f : ℕ) → IsShown fs f → IsShown (dirty_files d fs) f
shown-dirt d fs f s = (has-dirt d fs f ∙ s.0, ap (λ (x : PlainFile). x.announced) (file-dirt d fs f) ∙ s.1)

pub shown-clean : (d : ℕ → Bool) (fs : PlainFiles) (f : ℕ) → IsShown (dirty_files d fs) f → IsShown fs f
shown-clean d fs f s = (sym (has-dirt d fs f) ∙ s.0, sym (ap (λ (x : PlainFile). x.announced) (file-dirt d fs f)) ∙ s.1)

shown-after : (f : ℕ) (h : PlainHost) (m : Tmesg) → (f == 0) ≡ false → undoes f m ≡ false → IsShown h.files f → IsShown (reply_to h m).0.files f
shown-after zero h m z u s = absurd (true≢false z)
shown-after (suc g) h m z u s = shown_kept g h m u s

lost-none : (f : ℕ) (h : PlainHost) (m : Tmesg) → (f == 0) ≡ false → undoes f m ≡ false → IsShown h.files f → NoLoss f (reply_to h m).1
lost-none zero h m z u s = absurd (true≢false z)
lost-none (suc g) h m z u s = never_lost g h m u s

pub dirt-is : (d : ℕ → Bool) (h : PlainHost) → ((f : ℕ) → d f ≡ true → ((f == 0) ≡ false) × IsShown h.files f) → IsDirt d h.files.slots
dirt-is d h shown = record { command = command (d 0) refl; past = λ f l. past f l (d f) refl }
  where
    command : (b : Bool) → d 0 ≡ b → d 0 ≡ false
    command true q = absurd (true≢false (shown 0 q).0)
    command false q = q

    past : (f : ℕ) → length h.files.slots ≤ f → (b : Bool) → d f ≡ b → d f ≡ false
    past f l true q = let k = slot_given h.files.slots f (shown f q).1.0 in absurd (omega (arith, k, l))
    past f l false q = q

-- the first of these messages writes or closes the file
abbrev pub first_undoes : ℕ → List Tmesg → Bool
first_undoes f [] = false
first_undoes f (m ∷ ms) = undoes f m

pub record Answered (d : ℕ → Bool) (g h : PlainHost) (t u : PlainTerminal) (line : List Tmesg) (o : Option Reply) (x : Reply) : Type 0 where
  pub reply : Reply
  pub now : o ≡ Some reply
  pub marks : ℕ → Bool
  pub left : (f : ℕ) → marks f ≡ true → h.is_done ≡ false → first_undoes f line ≡ false
  pub fewer : (f : ℕ) → marks f ≡ true → d f ≡ true
  pub alike : AreAlike marks reply.0 x.0 (all_taken t reply.1) (all_taken u x.1)

module _ (d : ℕ → Bool) (h : PlainHost) (t u : PlainTerminal) (m : Tmesg) (r : Reply) (a : AreAlike d (with_dirt d h) h t u) (e : reply_of h m ≡ Some r) where
  answer : Replies d h m r
  answer = reply_of-dirt d h m r (dirt-is d h a.shown) e

  -- where the host is done, and where it goes on
  record Facts (q : Reply) (marks : ℕ → Bool) : Type 0 where
    shown : (f : ℕ) → marks f ≡ true → IsShown r.0.files f
    none : NoLosses marks q.1
    clean : (f : ℕ) → d f ≡ true → marks f ≡ false → dirty_in (all_taken t q.1) f ≡ dirty_in (all_taken u r.1) f

  abbrev k : PlainHost
  k = with_dirt d h

  facts : Facts answer.reply answer.marks
  facts = by h.is_done refl e answer.now answer.are
    where
      silent : (counted h, []) ≡ r → (counted k, []) ≡ answer.reply → answer.marks ≡ d → Facts answer.reply answer.marks
      silent is now are = record {
        shown = λ f on. subst (λ (x : Reply). IsShown x.0.files f) is (a.shown f (sym (ap (λ (c : ℕ → Bool). c f) are) ∙ on)).1;
        none = λ f on. subst (λ (x : Reply). NoLoss f x.1) now refl;
        clean = λ f on off. absurd (true≢false (sym on ∙ sym (ap (λ (c : ℕ → Bool). c f) are) ∙ off));
      }

      told_it : (counted (reply_to h m).0, (reply_to h m).1) ≡ r → (counted (reply_to k m).0, (reply_to k m).1) ≡ answer.reply → answer.marks ≡ marks_after m d → Facts answer.reply answer.marks
      told_it is now are =
          let after = λ (f : ℕ) (on : answer.marks f ≡ true). not-undone m d f (sym (ap (λ (c : ℕ → Bool). c f) are) ∙ on) in
          record {
            shown = λ f on. let s = a.shown f (replies-fewer d h m r answer f on) in subst (λ (x : Reply). IsShown x.0.files f) is (shown-after f h m s.0 (after f on) s.1);
            none = λ f on. let s = a.shown f (replies-fewer d h m r answer f on) in subst (λ (x : Reply). NoLoss f x.1) now (lost-none f k m s.0 (after f on) (shown-dirt d h.files f s.1));
            clean = λ f on off.
                let gone = sym (ap (λ (c : ℕ → Bool). c f) are) ∙ off in
                ap (λ (x : Reply). dirty_in (all_taken t x.1) f) (sym now) ∙ undone-clean d k m f t on gone
                ∙ sym (ap (λ (x : Reply). dirty_in (all_taken u x.1) f) (sym is) ∙ undone-clean d h m f u on gone);
          }

      checked : (o p : Option HostFault) → replied o (reply_to h m) ≡ Some r → replied p (reply_to k m) ≡ Some answer.reply → answer.marks ≡ marks_after m d → Facts answer.reply answer.marks
      checked None None is now are = told_it (same_Some _ _ is) (same_Some _ _ now) are
      checked (Some why) p is now are = absurd (cc)
      checked None (Some why) is now are = absurd (cc)

      by : (b : Bool) → h.is_done ≡ b → (if b then Some (counted h, []) else replied (first_of_checks (host_checks h m)) (reply_to h m)) ≡ Some r
          → (if b then Some (counted k, []) else replied (first_of_checks (host_checks k m)) (reply_to k m)) ≡ Some answer.reply
          → answer.marks ≡ (if b then d else marks_after m d) → Facts answer.reply answer.marks
      by true q is now are = silent (same_Some _ _ is) (same_Some _ _ now) are
      by false q is now are = checked (first_of_checks (host_checks h m)) (first_of_checks (host_checks k m)) is now are

  one-answer : Answered d k h t u (m ∷ []) (reply_of k m) r
  one-answer = record {
    reply = answer.reply;
    now = answer.now;
    marks = answer.marks;
    left = λ f on going. not-undone m d f (sym (ap (λ (c : ℕ → Bool). c f) (answer.are ∙ ap (λ (b : Bool). if b then d else marks_after m d) going)) ∙ on);
    fewer = replies-fewer d h m r answer;
    alike = record {
      host = answer.alike.host;
      shown = λ f on. ((a.shown f (replies-fewer d h m r answer f on)).0, facts.shown f on);
      term = frames-term answer.marks r.1 answer.reply.1 t u answer.alike.frames facts.none (λ f on. a.told f (replies-fewer d h m r answer f on)) a.term;
      same = λ f off. same f off (d f) refl;
      told = λ f on. frames-told f answer.reply.1 t (facts.none f on) (a.told f (replies-fewer d h m r answer f on));
    };
  }
    where
      same : (f : ℕ) → answer.marks f ≡ false → (b : Bool) → d f ≡ b → dirty_in (all_taken t answer.reply.1) f ≡ dirty_in (all_taken u r.1) f
      same f off true on = facts.clean f on off
      same f off false none = frames-same answer.marks f off r.1 answer.reply.1 t u answer.alike.frames (a.same f none)

-- ## Answers to messages one after another

pub answered-alike : (d : ℕ → Bool) (g h : PlainHost) (t u : PlainTerminal) (line : List Tmesg) (x : Reply) → AreAlike d g h t u → answers h line ≡ Some x
    → Answered d g h t u line (answers g line) x
answered-alike d g h t u [] x a e =
    subst (Answered d g h t u [] (Some (g, []))) (same_Some _ _ e) (record { reply = (g, []); now = refl; marks = d; left = λ f on going. refl; fewer = λ f on. on; alike = a })
answered-alike d g h t u (m ∷ ms) x a e =
    subst (λ (k : PlainHost). Answered d k h t u (m ∷ ms) (answers k (m ∷ ms)) x) (sym a.host)
    (here (subst (λ (k : PlainHost). AreAlike d k h t u) a.host a) (λ c k z v y b q. answered-alike c k (answered h m ms x e).first.0 z v ms y b q))
  where
    s : After h m ms x
    s = answered h m ms x e

    here : AreAlike d (with_dirt d h) h t u
        → ((c : ℕ → Bool) (k : PlainHost) (z v : PlainTerminal) (y : Reply) → AreAlike c k s.first.0 z v → answers s.first.0 ms ≡ Some y → Answered c k s.first.0 z v ms (answers k ms) y)
        → Answered d (with_dirt d h) h t u (m ∷ ms) (answers (with_dirt d h) (m ∷ ms)) x
    here a later =
        let one = one-answer d h t u m s.first a s.now in
        let rest = later one.marks one.reply.0 (all_taken t one.reply.1) (all_taken u s.first.1) s.rest one.alike s.later in
        record {
          reply = (rest.reply.0, one.reply.1 ++ rest.reply.1);
          now = grind (arith, (one.now), (rest.now));
          marks = rest.marks;
          left = λ f on going. one.left f (rest.fewer f on) going;
          fewer = λ f on. one.fewer f (rest.fewer f on);
          alike =
              subst (λ (y : Reply). AreAlike rest.marks rest.reply.0 y.0 (all_taken t (one.reply.1 ++ rest.reply.1)) (all_taken u y.1)) (sym s.whole)
              (subst (λ (z : PlainTerminal). AreAlike rest.marks rest.reply.0 s.rest.0 z (all_taken u (s.first.1 ++ s.rest.1))) (sym (taken-append one.reply.1 rest.reply.1 t))
              (subst (λ (z : PlainTerminal). AreAlike rest.marks rest.reply.0 s.rest.0 (all_taken (all_taken t one.reply.1) rest.reply.1) z) (sym (taken-append s.first.1 s.rest.1 u)) rest.alike));
        }

-- ## At rest

abbrev pub EditorsAlike : (ℕ → Bool) → PlainEditor → PlainEditor → Type 0
EditorsAlike d x y = AreAlike d x.host y.host x.term y.term

dirty-rest : (h : PlainHost) (t : PlainTerminal) (f : ℕ) → dirty_in (at_rest h t).term f ≡ dirty_in t f
dirty-rest h t f = ap (λ (k : KnownFile). k.dirty) (rest-known h t f) ∙ by (slot t.files f)
  where
    by : (s : Option KnownFile) → (unwrap_or (option_map (whole_file (file_at h.files f).text) s) blank_known).dirty ≡ (unwrap_or s blank_known).dirty
    by None = refl
    by (Some known) = refl

pub rest-alike : (d : ℕ → Bool) (g h : PlainHost) (t u : PlainTerminal) → AreAlike d g h t u → EditorsAlike d (at_rest g t) (at_rest h u)
rest-alike d g h t u a = record {
  host = ap rest a.host;
  shown = a.shown;
  term = blind-rest g h t u (λ f. ap (λ (k : PlainHost). (file_at k.files f).text) a.host ∙ ap (λ (x : PlainFile). x.text) (file-dirt d h.files f)) a.term;
  same = λ f off. dirty-rest g t f ∙ a.same f off ∙ sym (dirty-rest h u f);
  told = λ f on. dirty-rest g t f ∙ a.told f on;
}

pub alike-none : (x : PlainEditor) → EditorsAlike (λ f. false) x x
alike-none x = record {
  host = none x.host;
  shown = λ f on. absurd (true≢false (sym on));
  term = refl;
  same = λ f off. refl;
  told = λ f on. absurd (true≢false (sym on));
}
  where
    slots : (ss : Slots PlainFile) → ss ≡ dirty_slots (λ f. false) ss
    slots [] = refl
    slots (None ∷ ss) = ap (λ (rest : Slots PlainFile). None ∷ rest) (slots ss)
    slots (Some x ∷ ss) = λ i. Some (record x { dirty = or_none x.dirty i }) ∷ slots ss i
      where
        or_none : (b : Bool) → b ≡ (b || false)
        or_none true = refl
        or_none false = refl

    none : (h : PlainHost) → h ≡ with_dirt (λ f. false) h
    none h = λ i. record h { files = record h.files { slots = slots h.files.slots i } }

-- An editor in which some files are dirty: events do the same to it, and files join it so; and what a mark makes of both sides.
use Rattle.sam_crossing.proofs.Common.{◌≡◌, ℕ, zero, suc, ◌≤◌, Bool, true, false, not, ◌==◌, ◌&&◌, ◌||◌, if◌then◌else◌, List, [], ◌∷◌, ◌++◌, length, map, Option, Some, None, is_some, option_map, unwrap_or, refl, sym, ap, ◌∙◌, subst, arith, true≢false, same_Some, eqb-true, append-nil, first_of_checks, Slots, slot, slot-map, PlainFile, PlainFiles, blank_file, file_at, has_file, given_slots, Tmesg, Hmesg, Hdirty, PlainHost, Reply, answers, KnownFile, PlainTerminal, UserEvent, known_at, is_known, event_checks, event_outcome, unsent_message, view, run, at_file, Action, Lens, lens, blank_known, drop, InOrder}
unfoldable use Rattle.sam_host.specs.Host.{when}
use Rattle.sam_runes.specs.Slots.{map_slots}
use Rattle.sam_text.specs.Files.{dirty_file}
use Rattle.sam_host.specs.Host.{told_dirty}
use Rattle.sam_host.specs.Marking.{marked}
use Rattle.sam_term.specs.Term.{is_changed}
use Rattle.sam_term.specs.declared.event.Verdict.{Verdict}
use Rattle.sam_crossing.specs.Joining.{with_more}
use Rattle.sam_crossing.specs.View.{slot_of}
use Rattle.sam_crossing.proofs.Guards.{at_file-append}
use Rattle.sam_crossing.proofs.MoreFiles.{split}
use Rattle.sam_crossing.proofs.DirtyFiles.{dirtied, dirty_slots, file-dirt, or-true, with_dirt}
use Rattle.sam_crossing.proofs.Known.{IsShown, is_unknown, known_then}
use Rattle.sam_crossing.proofs.Marking.{marked-is, only_at, shown-more}
use Rattle.sam_local.specs.Local.{AreMarkedAlike, IsButDirty, Joined, PlainEditor, all_taken, at_rest, carried, carried_unless, answered_with, clean_file, clean_known, come_to, done_on}
use Rattle.sam_local.proofs.Ahead.{come-to-is, views-taken}
use Rattle.sam_local.proofs.Blind.{blind-altered, blind-told, blind-verdict, dirty-altered, dirty-effect, dirty_in, known-forget}
use Rattle.sam_local.proofs.Dirtied.{AreAlike, EditorsAlike, alike-none, answered-alike, dirt-is, first_undoes, dirty-blind, rest-alike, shown-clean}
use Rattle.sam_local.specs.Worlds.{undoes}
use Rattle.sam_term.specs.declared.event.UserEvent.TheVariants.{Close, Write}
use Rattle.sam_local.proofs.Doings.{joined-all}
use Rattle.sam_local.proofs.Editors.{Stands, acted}
use Rattle.sam_local.proofs.Events.{altered, told, turn_of}
use Rattle.sam_local.proofs.Frames.{taken-append}
use Rattle.sam_local.proofs.Sights.{put-again}
use Rattle.sam_local.proofs.Uncounted.{rest}

-- ## Events

-- the editor x is y, but that files of d are dirty
pub record Differs (d : ℕ → Bool) (x y : PlainEditor) : Type 0 where
  pub marks : ℕ → Bool
  pub fewer : (f : ℕ) → marks f ≡ true → d f ≡ true
  pub alike : EditorsAlike marks x y

-- and the event of which this is said leaves no mark of a file that it writes or closes, if it acts
pub record Carried (d : ℕ → Bool) (x y : PlainEditor) (e : UserEvent) (u v : PlainEditor) : Type 0 where
  pub goes : Differs d u v
  pub left : (f : ℕ) → goes.marks f ≡ true → first_of_checks (event_checks x.term e) ≡ None → undoes f e ≡ false

left-event : (f : ℕ) (t : PlainTerminal) (e : UserEvent) → first_undoes f (told t e) ≡ false → undoes f e ≡ false
left-event f t (Write g) n = n
left-event f t (Close g) n = n
left-event f t e n = refl

altered-both : (d : ℕ → Bool) (x y : PlainEditor) (e : UserEvent) → EditorsAlike d x y → AreAlike d x.host y.host (altered x.term e) (altered y.term e)
altered-both d x y e a = record {
  host = a.host;
  shown = a.shown;
  term = blind-altered (turn_of e) x.term y.term a.term;
  same = λ f off. dirty-altered (turn_of e) x.term f ∙ a.same f off ∙ sym (dirty-altered (turn_of e) y.term f);
  told = λ f on. dirty-altered (turn_of e) x.term f ∙ a.told f on;
}

-- both are at rest
module _ (h k : PlainHost) (t u : PlainTerminal) (o : InOrder (rest h) (at_rest h t).term [] []) (p : InOrder (rest k) (at_rest k u).term [] []) (d : ℕ → Bool)
    (a : EditorsAlike d (at_rest h t) (at_rest k u)) (e : UserEvent) where
  abbrev Both : Type 0
  Both = Carried d (at_rest h t) (at_rest k u) e (carried (at_rest h t) e) (carried (at_rest k u) e)

  passes-both : first_of_checks (event_checks (at_rest h t).term e) ≡ None → Both
  passes-both q =
      let x = acted h t o e q in
      let y = acted k u p e (sym (blind-verdict (at_rest h t).term (at_rest k u).term e a.term) ∙ q) in
      let there = answered-alike d (rest h) (rest k) (altered (at_rest h t).term e) (altered (at_rest k u).term e) (told (at_rest k u).term e) y.reply (altered-both d (at_rest h t) (at_rest k u) e a) y.folds in
      let same : there.reply ≡ x.reply =
      same_Some _ _ (sym there.now ∙ sym (ap (answers (rest h)) (blind-told (at_rest h t).term (at_rest k u).term e a.term)) ∙ x.folds) in
      record {
        goes = record {
          marks = there.marks;
          fewer = there.fewer;
          alike =
              subst (λ (z : PlainEditor). EditorsAlike there.marks z (carried (at_rest k u) e)) (ap (λ (r : Reply). at_rest r.0 (all_taken (altered (at_rest h t).term e) r.1)) same ∙ sym x.is)
              (subst (λ (z : PlainEditor). EditorsAlike there.marks (at_rest there.reply.0 (all_taken (altered (at_rest h t).term e) there.reply.1)) z) (sym y.is)
              (rest-alike there.marks there.reply.0 y.reply.0 (all_taken (altered (at_rest h t).term e) there.reply.1) (all_taken (altered (at_rest k u).term e) y.reply.1) there.alike));
        };
        left = λ f on going. left-event f (at_rest k u).term e (there.left f on y.running);
      }

  carried-both : Both
  carried-both = by (first_of_checks (event_checks (at_rest h t).term e)) refl
    where
      by : (v : Option Verdict) → first_of_checks (event_checks (at_rest h t).term e) ≡ v → Both
      by None q = passes-both q
      by (Some why) q =
          let first = ap (λ (v : Option Verdict). carried_unless v (at_rest h t) (event_outcome (at_rest h t).term e)) q in
          let second = ap (λ (v : Option Verdict). carried_unless v (at_rest k u) (event_outcome (at_rest k u).term e)) (sym (blind-verdict (at_rest h t).term (at_rest k u).term e a.term) ∙ q) in
          record {
            goes = record {
              marks = d;
              fewer = λ f on. on;
              alike = subst (λ (z : PlainEditor). EditorsAlike d z (carried (at_rest k u) e)) (sym first) (subst (λ (z : PlainEditor). EditorsAlike d (at_rest h t) z) (sym second) a);
            };
            left = λ f on none. absurd (refused (sym none ∙ q));
          }
        where
          refused : {why : Verdict} → None ≡ Some why → ⊥
          refused e = grind (arith, e)

pub carried-alike : (d : ℕ → Bool) (x y : PlainEditor) (e : UserEvent) → Stands x → Stands y → EditorsAlike d x y → Carried d x y e (carried x e) (carried y e)
carried-alike d x y e s z a =
    subst (λ (v : PlainEditor). Carried d v y e (carried v e) (carried y e)) s.whole
    (subst (λ (v : PlainEditor). Carried d (at_rest x.host x.term) v e (carried (at_rest x.host x.term) e) (carried v e)) z.whole
    (carried-both x.host y.host x.term y.term (subst IsOrdered (sym s.whole) s.order) (subst IsOrdered (sym z.whole) z.order) d
    (subst (λ (v : PlainEditor). EditorsAlike d v (at_rest y.host y.term)) (sym s.whole) (subst (λ (v : PlainEditor). EditorsAlike d x v) (sym z.whole) a)) e))
  where
    IsOrdered : PlainEditor → Type 0
    IsOrdered v = InOrder v.host v.term [] []

-- ## Files that join

dirty-more : (d : ℕ → Bool) (ss us : Slots PlainFile) → ((f : ℕ) → length ss ≤ f → d f ≡ false) → dirty_slots d ss ++ us ≡ dirty_slots d (ss ++ us)
dirty-more d [] us none = sym (clean d us (λ f. none f (omega arith)))
  where
    or_none : (b c : Bool) → c ≡ false → (b || c) ≡ b
    or_none true c e = refl
    or_none false c e = e

    clean : (d : ℕ → Bool) (us : Slots PlainFile) → ((f : ℕ) → d f ≡ false) → dirty_slots d us ≡ us
    clean d [] none = refl
    clean d (None ∷ us) none = ap (λ (rest : Slots PlainFile). None ∷ rest) (clean (λ f. d (suc f)) us (λ f. none (suc f)))
    clean d (Some x ∷ us) none = λ i. Some (record x { dirty = or_none x.dirty (d 0) (none 0) i }) ∷ clean (λ f. d (suc f)) us (λ f. none (suc f)) i
dirty-more d (s ∷ ss) us none = ap (λ (rest : Slots PlainFile). option_map (dirtied (d 0)) s ∷ rest) (dirty-more (λ f. d (suc f)) ss us (λ f l. none (suc f) (omega (arith, l))))

pub joined-alike : (d : ℕ → Bool) (x y : PlainEditor) (more : List (List ℕ × List ℕ)) → EditorsAlike d x y → EditorsAlike d (done_on x (map Joined more)) (done_on y (map Joined more))
joined-alike d x y more a =
    let us = given_slots more in
    subst (λ (v : PlainEditor). EditorsAlike d v (done_on y (map Joined more))) (sym (joined-all more x))
    (subst (λ (v : PlainEditor). EditorsAlike d (record x { host = with_more x.host us }) v) (sym (joined-all more y))
    (record {
      host =
          ap (λ (h : PlainHost). with_more h us) a.host
          ∙ ap (λ (ss : Slots PlainFile). record y.host { files = record y.host.files { slots = ss } }) (dirty-more d y.host.files.slots us (dirt-is d y.host a.shown).past);
      shown = λ f on. ((a.shown f on).0, shown-more y.host f us (a.shown f on).1);
      term = a.term;
      same = a.same;
      told = a.told;
    }))

-- ## One after the other

abbrev both : (ℕ → Bool) → (ℕ → Bool) → ℕ → Bool
both d e f = d f || e f

dirtied-twice : (d e : ℕ → Bool) (ss : Slots PlainFile) → dirty_slots e (dirty_slots d ss) ≡ dirty_slots (both d e) ss
dirtied-twice d e [] = refl
dirtied-twice d e (None ∷ ss) = ap (λ (rest : Slots PlainFile). None ∷ rest) (dirtied-twice (λ f. d (suc f)) (λ f. e (suc f)) ss)
dirtied-twice d e (Some x ∷ ss) = λ i. Some (record x { dirty = or-assoc x.dirty (d 0) (e 0) i }) ∷ dirtied-twice (λ f. d (suc f)) (λ f. e (suc f)) ss i
  where
    or-assoc : (a b c : Bool) → ((a || b) || c) ≡ (a || (b || c))
    or-assoc true b c = refl
    or-assoc false b c = refl

pub alike-then : (d e : ℕ → Bool) (x y z : PlainEditor) → EditorsAlike e x y → EditorsAlike d y z → EditorsAlike (both d e) x z
alike-then d e x y z a b = record {
  host = a.host ∙ ap (with_dirt e) b.host ∙ ap (λ (ss : Slots PlainFile). record z.host { files = record z.host.files { slots = ss } }) (dirtied-twice d e z.host.files.slots);
  shown = λ f on. shown f (d f) refl on;
  term = a.term ∙ b.term;
  same = λ f off. let parts = neither (d f) (e f) off in a.same f parts.1 ∙ b.same f parts.0;
  told = λ f on. told f (e f) refl on;
}
  where
    neither : (a b : Bool) → (a || b) ≡ false → (a ≡ false) × (b ≡ false)
    neither true b q = absurd (true≢false q)
    neither false b q = (refl, q)

    last : (a : Bool) → (a || false) ≡ true → a ≡ true
    last true q = refl
    last false q = absurd (true≢false (sym q))

    shown : (f : ℕ) (b : Bool) → d f ≡ b → (d f || e f) ≡ true → ((f == 0) ≡ false) × IsShown z.host.files f
    shown f true q on = b.shown f q
    shown f false q on =
        let s = a.shown f (sym (ap (λ (c : Bool). c || e f) q) ∙ on) in
        (s.0, shown-clean d z.host.files f (subst (λ (h : PlainHost). IsShown h.files f) b.host s.1))

    told : (f : ℕ) (c : Bool) → e f ≡ c → (d f || e f) ≡ true → dirty_in x.term f ≡ true
    told f true q on = a.told f q
    told f false q on = a.same f q ∙ b.told f (last (d f) (sym (ap (λ (c : Bool). d f || c) q) ∙ on))

-- ## A mark

again : (h : PlainHost) (f : ℕ) → has_file h.files f ≡ true → (file_at h.files f).dirty ≡ true → marked h f ≡ h
again h f there dirty =
    ap (λ (ss : Slots PlainFile). record h { files = record h.files { slots = ss } })
    (put-again h.files.slots f (dirty_file (file_at h.files f)) (by (slot h.files.slots f) there dirty))
  where
    by : (s : Option PlainFile) → is_some s ≡ true → (unwrap_or s blank_file).dirty ≡ true → s ≡ Some (dirty_file (unwrap_or s blank_file))
    by None e q = absurd (true≢false (sym e))
    by (Some x) e q = λ i. Some (record x { dirty = q i })

told-none : (fs : PlainFiles) (f : ℕ) → (file_at fs f).dirty ≡ true → told_dirty fs f ≡ []
unfolding when
told-none fs f e = ap (λ (b : Bool). if not b && not (f == 0) then Hdirty f ∷ [] else []) e

told-once : (fs : PlainFiles) (f : ℕ) → (file_at fs f).dirty ≡ false → (f == 0) ≡ false → told_dirty fs f ≡ Hdirty f ∷ []
unfolding when
told-once fs f e z = λ i. if not (e i) && not (z i) then Hdirty f ∷ [] else []

known-slot : (t : PlainTerminal) (f : ℕ) → is_unknown (view f t) ≡ false → slot t.files f ≡ Some (known_at t f)
known-slot t f e = by (slot t.files f) e
  where
    by : (s : Option KnownFile) → is_unknown (lens t.command_lock t.has_exited t.version (slot_of s)) ≡ false → s ≡ Some (unwrap_or s blank_known)
    by None e = absurd (true≢false e)
    by (Some known) e = refl

module _ (h : PlainHost) (t : PlainTerminal) (up : List Tmesg) (down : List Hmesg) (f : ℕ) (tag : (f == 0) ≡ false) (shown : IsShown h.files f) (o : InOrder h t up down) where
  abbrev before : PlainEditor
  before = come_to h t up down

  abbrev after : PlainEditor
  after = come_to (marked h f) t up (down ++ told_dirty h.files f)

  abbrev line : List Tmesg
  line = up ++ unsent_message t.unsent

  first : (g : ℕ) → (v : Lens) × (run (at_file g down) (view g t) ≡ Some v)
  first g =
      let c = o.kept.each g in
      let parts = split (at_file g down) (at_file g o.kept.frames) (view g t) c.final (subst (λ (s : List Action). run s (view g t) ≡ Some c.final) (at_file-append g down o.kept.frames) c.runs) in
      (parts.mid, parts.first)

  -- the terminal that has taken what is under way knows the file
  there : slot (all_taken t down).files f ≡ Some (known_at (all_taken t down) f)
  there = known-slot (all_taken t down) f (known f tag shown)
    where
      known : (f : ℕ) → (f == 0) ≡ false → IsShown h.files f → is_unknown (view f (all_taken t down)) ≡ false
      known zero z s = absurd (true≢false z)
      known (suc g) z s = known_then h t up down g (view (suc g) (all_taken t down)) o s (views-taken down t first (suc g))

  marks-alike : (file_at h.files f).dirty ≡ false → AreAlike (only_at f) (marked h f) h (all_taken t (down ++ told_dirty h.files f)) (all_taken t down)
  marks-alike clean =
      let once = ap (λ (ms : List Hmesg). all_taken t (down ++ ms)) (told-once h.files f clean tag) ∙ taken-append down (Hdirty f ∷ []) t in
      subst (λ (z : PlainTerminal). AreAlike (only_at f) (marked h f) h z (all_taken t down)) (sym once)
      (record {
        host = marked-is h f shown.0;
        shown = λ g on. subst (λ (k : ℕ). ((k == 0) ≡ false) × IsShown h.files k) (sym (eqb-true g f on)) (tag, shown);
        term = dirty-blind (all_taken t down) f there;
        same = λ g off. dirty-effect (all_taken t down) (Hdirty f) g ∙ ap (λ (b : Bool). b || dirty_in (all_taken t down) g) off;
        told = λ g on. dirty-effect (all_taken t down) (Hdirty f) g ∙ ap (λ (b : Bool). b || dirty_in (all_taken t down) g) on;
      })

  marks-clean : (file_at h.files f).dirty ≡ false → Differs (only_at f) after before
  marks-clean clean =
      let a = answered-alike (only_at f) (marked h f) h (all_taken t (down ++ told_dirty h.files f)) (all_taken t down) line (o.kept.ahead, o.kept.frames) (marks-alike clean) o.kept.folds in
      let told = told_dirty h.files f in
      record {
        marks = a.marks;
        fewer = a.fewer;
        alike =
            subst (λ (z : PlainEditor). EditorsAlike a.marks z before)
            (ap (at_rest a.reply.0) (sym (taken-append (down ++ told) a.reply.1 t)) ∙ sym (ap (answered_with (marked h f) t (down ++ told)) a.now))
            (subst (λ (z : PlainEditor). EditorsAlike a.marks (at_rest a.reply.0 (all_taken (all_taken t (down ++ told)) a.reply.1)) z)
            (ap (at_rest o.kept.ahead) (sym (taken-append down o.kept.frames t)) ∙ sym (come-to-is h t up down o))
            (rest-alike a.marks a.reply.0 o.kept.ahead (all_taken (all_taken t (down ++ told)) a.reply.1) (all_taken (all_taken t down) o.kept.frames) a.alike));
      }

  pub marks-differ : Differs (only_at f) after before
  marks-differ = by (file_at h.files f).dirty refl
    where
      by : (b : Bool) → (file_at h.files f).dirty ≡ b → Differs (only_at f) after before
      by false clean = marks-clean clean
      by true dirty =
          let same : after ≡ before = (λ i. come_to (again h f shown.0 dirty i) t up (down ++ told-none h.files f dirty i)) ∙ ap (come_to h t up) (append-nil down) in
          record {
            marks = λ g. false;
            fewer = λ g on. absurd (true≢false (sym on));
            alike = subst (λ (z : PlainEditor). EditorsAlike (λ g. false) z before) (sym same) (alike-none before);
          }

-- ## What is said of it

clean-slots : (d : ℕ → Bool) (ss : Slots PlainFile) → map_slots clean_file (dirty_slots d ss) ≡ map_slots clean_file ss
clean-slots d [] = refl
clean-slots d (None ∷ ss) = ap (λ (rest : Slots PlainFile). None ∷ rest) (clean-slots (λ f. d (suc f)) ss)
clean-slots d (Some x ∷ ss) = ap (λ (rest : Slots PlainFile). Some (clean_file x) ∷ rest) (clean-slots (λ f. d (suc f)) ss)

or-none : (b : Bool) → (b || false) ≡ b
or-none true = refl
or-none false = refl

module _ (d : ℕ → Bool) (x y : PlainEditor) (a : EditorsAlike d x y) where
  -- of each file
  kept : (f : ℕ) → clean_known (known_at x.term f) ≡ clean_known (known_at y.term f)
  kept f = sym (known-forget x.term f) ∙ ap (λ (t : PlainTerminal). known_at t f) a.term ∙ known-forget y.term f

  host_dirty : (f : ℕ) → (file_at x.host.files f).dirty ≡ ((file_at y.host.files f).dirty || d f)
  host_dirty f =
      ap (λ (h : PlainHost). (file_at h.files f).dirty) a.host ∙ ap (λ (z : PlainFile). z.dirty) (file-dirt d y.host.files f)
      ∙ ap (λ (b : Bool). (file_at y.host.files f).dirty || b) (by (d f) refl)
    where
      by : (b : Bool) → d f ≡ b → (has_file y.host.files f && b) ≡ b
      by true q = ap (λ (c : Bool). c && true) (a.shown f q).1.0
      by false q = none (has_file y.host.files f)
        where
          none : (c : Bool) → (c && false) ≡ false
          none true = refl
          none false = refl

  term_dirty : (f : ℕ) → is_changed x.term f ≡ (is_changed y.term f || d f)
  term_dirty f = by (d f) refl
    where
      same : (known_at x.term f).changed ≡ (known_at y.term f).changed
      same = ap (λ (k : KnownFile). k.changed) (kept f)

      by : (b : Bool) → d f ≡ b → is_changed x.term f ≡ (is_changed y.term f || b)
      by true q =
          (λ i. not ((a.shown f q).0 i) && (a.told f q i || (known_at x.term f).changed)) ∙ sym (or-true (is_changed y.term f))
      by false q = (λ i. not (f == 0) && (a.same f q i || same i)) ∙ sym (or-none (is_changed y.term f))

  pub but-dirty : IsButDirty d x y
  but-dirty = record {
    same = λ i. record {
      host = ((ap (λ (h : PlainHost). record h { files = record h.files { slots = map_slots clean_file h.files.slots } }) a.host)
          ∙ ap (λ (ss : Slots PlainFile). record y.host { files = record y.host.files { slots = ss } }) (clean-slots d y.host.files.slots)) i;
      term = a.term i;
    };
    host = host_dirty;
    term = term_dirty;
    others = a.same;
  }

  -- both sides agree on names and marks where they agree there
  pub marked-alike : AreMarkedAlike y.host y.term → AreMarkedAlike x.host x.term
  marked-alike m = record {
    names = λ f known.
        ap (λ (k : KnownFile). k.name) (kept f) ∙ m.names f (sym (there f) ∙ known)
        ∙ sym (ap (λ (h : PlainHost). (file_at h.files f).name) a.host ∙ ap (λ (z : PlainFile). z.name) (file-dirt d y.host.files f));
    marks = λ f z. term_dirty f ∙ ap (λ (b : Bool). b || d f) (m.marks f z) ∙ sym (host_dirty f);
  }
    where
      some : (s : Option KnownFile) → is_some (option_map clean_known s) ≡ is_some s
      some None = refl
      some (Some known) = refl

      there : (f : ℕ) → is_known x.term f ≡ is_known y.term f
      there f =
          sym (ap is_some (slot-map clean_known x.term.files f) ∙ some (slot x.term.files f)) ∙ ap (λ (t : PlainTerminal). is_known t f) a.term
          ∙ ap is_some (slot-map clean_known y.term.files f) ∙ some (slot y.term.files f)

  -- where no file is dirty that is clean there, it is the same editor
  known-same : (k l : KnownFile) → clean_known k ≡ clean_known l → k.dirty ≡ l.dirty → k ≡ l
  known-same k l e q = λ i. record (e i) { dirty = q i }

  slots-same : (ss rr : Slots KnownFile) → map_slots clean_known ss ≡ map_slots clean_known rr
      → ((f : ℕ) → (unwrap_or (slot ss f) blank_known).dirty ≡ (unwrap_or (slot rr f) blank_known).dirty) → ss ≡ rr
  slots-same [] [] e q = refl
  slots-same [] (None ∷ rr) e q = absurd (grind (arith, e))
  slots-same [] (Some l ∷ rr) e q = absurd (grind (arith, e))
  slots-same (None ∷ ss) [] e q = absurd (grind (arith, e))
  slots-same (Some k ∷ ss) [] e q = absurd (grind (arith, e))
  slots-same (None ∷ ss) (None ∷ rr) e q = ap (λ (rest : Slots KnownFile). None ∷ rest) (slots-same ss rr (ap (drop 1) e) (λ f. q (suc f)))
  slots-same (None ∷ ss) (Some l ∷ rr) e q = absurd (grind (arith, e))
  slots-same (Some k ∷ ss) (None ∷ rr) e q = absurd (grind (arith, e))
  slots-same (Some k ∷ ss) (Some l ∷ rr) e q =
      let first : clean_known k ≡ clean_known l = same_Some _ _ (ap (λ (l : Slots KnownFile). slot l 0) e) in
      λ i. Some (known-same k l first (q 0) i) ∷ slots-same ss rr (ap (drop 1) e) (λ f. q (suc f)) i

  slots-clean : (c : ℕ → Bool) (ss : Slots PlainFile) → ((f : ℕ) → c f ≡ false) → dirty_slots c ss ≡ ss
  slots-clean c [] none = refl
  slots-clean c (None ∷ ss) none = ap (λ (rest : Slots PlainFile). None ∷ rest) (slots-clean (λ f. c (suc f)) ss (λ f. none (suc f)))
  slots-clean c (Some z ∷ ss) none =
      λ i. Some (record z { dirty = (ap (λ (b : Bool). z.dirty || b) (none 0) ∙ or-none z.dirty) i }) ∷ slots-clean (λ f. c (suc f)) ss (λ f. none (suc f)) i

  pub alike-same : ((f : ℕ) → d f ≡ false) → x ≡ y
  alike-same none =
      λ i. record {
        host = (a.host ∙ ap (λ (ss : Slots PlainFile). record y.host { files = record y.host.files { slots = ss } }) (slots-clean d y.host.files.slots none)) i;
        term = record (a.term i) { files = slots-same x.term.files y.term.files (ap (λ (t : PlainTerminal). t.files) a.term) (λ f. a.same f (none f)) i };
      }

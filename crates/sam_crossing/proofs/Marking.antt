-- Where the host marks a file as dirty, all that is under way leads where it led.
use Rattle.sam_crossing.proofs.Common.{◌≡◌, ℕ, zero, suc, Bool, true, false, not, ◌&&◌, ◌||◌, ◌==◌, List, [], ◌∷◌, ◌++◌, length, Option, Some, None, option_map, append-nil, is_some, inl, inr, refl, sym, ap, ◌∙◌, subst, arith, same_Some, true≢false, append_assoc, eqb-true, eq-eqb, nat_lt, unwrap_or, Slots, slot, put_slot, slot_given, length-put_slot, ◌<◌, PlainFile, PlainFiles, blank_file, file_at, has_file, Tmesg, Hmesg, Hdirty, PlainHost, Reply, with_file, PlainTerminal, unsent_message, Action, Needs_known, Lens, HFile, move, run, frees, closes, is_freeing, is_crossing, is_close, IsGuarded, ComesToSync, action, only, at_file, is_unlock, is_version, unlocks_command, VersionsGuarded, file_of_slot, file_in, IsOpened, IsCommandFile, IsSteady, OpenAnnounced, answers, AllComeToSync, InOrder, views}
unfoldable use Rattle.sam_crossing.proofs.Common.{when}
use Rattle.sam_text.specs.Files.{dirty_file, IsFit}
use Rattle.sam_host.specs.Host.{told_dirty}
use Rattle.sam_host.specs.Marking.{marked}
use Rattle.sam_crossing.specs.Lens.{moved_then}
use Rattle.sam_crossing.specs.Joining.{HasGiven, more_files, with_more}
use Rattle.sam_crossing.proofs.Joining.{file-more, files-put, slot-more}
use Rattle.sam_text.proofs.FitLaws.{fit-put}
use Rattle.sam_crossing.proofs.Runs.{stepped, run-append_some}
use Rattle.sam_crossing.proofs.Guards.{at_file-append}
use Rattle.sam_crossing.proofs.MoreFiles.{split}
use Rattle.sam_crossing.proofs.DirtyFiles.{clean-same, or-true, dirtied, dirty_slots, with_dirt, IsDirt, slot-dirt, length-dirt, file-dirt, Fewer, fewer-same, fewer-append}
use Rattle.sam_crossing.proofs.DirtyReplies.{apart-first, first-apart, apart-more}
use Rattle.sam_crossing.proofs.Dirt.{Answers, answers-dirt}
use Rattle.sam_crossing.proofs.Known.{IsShown, is_unknown, known_then}

abbrev pub only_at : ℕ → ℕ → Bool
only_at f g = g == f

-- ## Frames that say only that a file is dirty

idle_move : (g f : ℕ) (v w : Lens) → move (action g (Hdirty f)) v ≡ Some w → w ≡ v
idle_move g f v w e = by (g == f) e
  where
    by : (b : Bool) → move (only b Needs_known) v ≡ Some w → w ≡ v
    by true e = grind (arith, e)
    by false e = sym (same_Some _ _ e)

known_move : (g f : ℕ) (v : Lens) → ((g == f) ≡ true → is_unknown v ≡ false) → move (action g (Hdirty f)) v ≡ Some v
known_move g f v known = by (g == f) refl
  where
    by : (b : Bool) → (g == f) ≡ b → move (only b Needs_known) v ≡ Some v
    by true q = let k = known q in grind (arith, k)
    by false q = refl

idle : (g f : ℕ) (P : Action → Bool) → P Needs_known ≡ false → P (only false Needs_known) ≡ false → P (action g (Hdirty f)) ≡ false
idle g f P known skip = by (g == f)
  where
    by : (b : Bool) → P (only b Needs_known) ≡ false
    by true = known
    by false = skip

fewer_runs : (d : ℕ → Bool) (g : ℕ) (xs ys : List Hmesg) (v w : Lens) → Fewer d xs ys → run (at_file g xs) v ≡ Some w → run (at_file g ys) v ≡ Some w
fewer_runs d g [] ys v w a r = subst (λ (l : List Hmesg). run (at_file g l) v ≡ Some w) (sym a) r
fewer_runs d g (x ∷ xs) ys v w (inl (f, e, on, a)) r =
    let t = stepped (action g x) (at_file g xs) v w r in
    let same : t.mid ≡ v = idle_move g f v t.mid (ap (λ (m : Hmesg). move (action g m) v) (sym e) ∙ t.moves) in
    fewer_runs d g xs ys v w a (subst (λ (u : Lens). run (at_file g xs) u ≡ Some w) same t.on)
fewer_runs d g (x ∷ xs) ys v w (inr (zs, e, a)) r =
    let t = stepped (action g x) (at_file g xs) v w r in
    subst (λ (l : List Hmesg). run (at_file g l) v ≡ Some w) (sym e) (ap (λ (o : Option Lens). moved_then o (run (at_file g zs))) t.moves ∙ fewer_runs d g xs zs t.mid w a t.on)

fewer_frees : (d : ℕ → Bool) (g : ℕ) (xs ys : List Hmesg) → Fewer d xs ys → frees (at_file g ys) ≡ frees (at_file g xs)
fewer_frees d g [] ys a = ap (λ (l : List Hmesg). frees (at_file g l)) a
fewer_frees d g (x ∷ xs) ys (inl (f, e, on, a)) =
    fewer_frees d g xs ys a ∙ sym (ap (λ (b : Bool). b || frees (at_file g xs)) (ap (λ (m : Hmesg). is_freeing (action g m)) e ∙ idle g f is_freeing refl refl))
fewer_frees d g (x ∷ xs) ys (inr (zs, e, a)) = ap (λ (l : List Hmesg). frees (at_file g l)) e ∙ ap (λ (b : Bool). is_freeing (action g x) || b) (fewer_frees d g xs zs a)

fewer_closes : (d : ℕ → Bool) (g : ℕ) (xs ys : List Hmesg) → Fewer d xs ys → closes (at_file g ys) ≡ closes (at_file g xs)
fewer_closes d g [] ys a = ap (λ (l : List Hmesg). closes (at_file g l)) a
fewer_closes d g (x ∷ xs) ys (inl (f, e, on, a)) =
    fewer_closes d g xs ys a ∙ sym (ap (λ (b : Bool). b || closes (at_file g xs)) (ap (λ (m : Hmesg). is_close (action g m)) e ∙ idle g f is_close refl refl))
fewer_closes d g (x ∷ xs) ys (inr (zs, e, a)) = ap (λ (l : List Hmesg). closes (at_file g l)) e ∙ ap (λ (b : Bool). is_close (action g x) || b) (fewer_closes d g xs zs a)

fewer_guarded : (d : ℕ → Bool) (g : ℕ) (xs ys : List Hmesg) → Fewer d xs ys → IsGuarded (at_file g xs) → IsGuarded (at_file g ys)
fewer_guarded d g [] ys a k = subst (λ (l : List Hmesg). IsGuarded (at_file g l)) (sym a) tt
fewer_guarded d g (x ∷ xs) ys (inl (f, e, on, a)) k = fewer_guarded d g xs ys a k.1
fewer_guarded d g (x ∷ xs) ys (inr (zs, e, a)) k =
    subst (λ (l : List Hmesg). IsGuarded (at_file g l)) (sym e) ((λ c. fewer_frees d g xs zs a ∙ k.0 c), fewer_guarded d g xs zs a k.1)

more_guarded : (d : ℕ → Bool) (g : ℕ) (xs ys : List Hmesg) → Fewer d xs ys → IsGuarded (at_file g ys) → IsGuarded (at_file g xs)
more_guarded d g [] ys a k = tt
more_guarded d g (x ∷ xs) ys (inl (f, e, on, a)) k =
    ((λ c. absurd (true≢false (sym c ∙ ap (λ (m : Hmesg). is_crossing (action g m)) e ∙ idle g f is_crossing refl refl))), more_guarded d g xs ys a k)
more_guarded d g (x ∷ xs) ys (inr (zs, e, a)) k =
    let here = subst (λ (l : List Hmesg). IsGuarded (at_file g l)) e k in
    ((λ c. sym (fewer_frees d g xs zs a) ∙ here.0 c), more_guarded d g xs zs a here.1)

fewer_unlocks : (d : ℕ → Bool) (xs ys : List Hmesg) → Fewer d xs ys → unlocks_command ys ≡ unlocks_command xs
fewer_unlocks d [] ys a = ap unlocks_command a
fewer_unlocks d (x ∷ xs) ys (inl (f, e, on, a)) = fewer_unlocks d xs ys a ∙ sym (ap (λ (m : Hmesg). is_unlock m || unlocks_command xs) e)
fewer_unlocks d (x ∷ xs) ys (inr (zs, e, a)) = ap unlocks_command e ∙ ap (λ (b : Bool). is_unlock x || b) (fewer_unlocks d xs zs a)

fewer_versions : (d : ℕ → Bool) (xs ys : List Hmesg) → Fewer d xs ys → VersionsGuarded xs → VersionsGuarded ys
fewer_versions d [] ys a k = subst VersionsGuarded (sym a) tt
fewer_versions d (x ∷ xs) ys (inl (f, e, on, a)) k = fewer_versions d xs ys a k.1
fewer_versions d (x ∷ xs) ys (inr (zs, e, a)) k = subst VersionsGuarded (sym e) ((λ c. fewer_unlocks d xs zs a ∙ k.0 c), fewer_versions d xs zs a k.1)

more_versions : (d : ℕ → Bool) (xs ys : List Hmesg) → Fewer d xs ys → VersionsGuarded ys → VersionsGuarded xs
more_versions d [] ys a k = tt
more_versions d (x ∷ xs) ys (inl (f, e, on, a)) k = ((λ c. absurd (true≢false (sym c ∙ ap is_version e))), more_versions d xs ys a k)
more_versions d (x ∷ xs) ys (inr (zs, e, a)) k =
    let here = subst VersionsGuarded e k in ((λ c. sym (fewer_unlocks d xs zs a) ∙ here.0 c), more_versions d xs zs a here.1)

-- ## At one file

-- with fewer of them
fewer_sync : (marks : ℕ → Bool) (g : ℕ) (xs ys : List Hmesg) (v : Lens) (d : Bool) (n : ℕ) (file : HFile) → Fewer marks xs ys → ComesToSync (at_file g xs) v d n file → ComesToSync (at_file g ys) v d n file
fewer_sync marks g xs ys v d n file a c = record {
  final = c.final;
  runs = fewer_runs marks g xs ys v c.final a c.runs;
  synced = c.synced;
  guarded = fewer_guarded marks g xs ys a c.guarded;
  closed = λ e. c.closed (sym (fewer_closes marks g xs ys a) ∙ e);
}

-- with one more, where the file is known
one_less : (down frames : List Hmesg) (f : ℕ) → Fewer (only_at f) (down ++ Hdirty f ∷ frames) (down ++ frames)
one_less down frames f =
    let d = only_at f in fewer-append d down down (Hdirty f ∷ frames) frames (fewer-same d down) (inl (f, refl, eq-eqb f f refl, fewer-same d frames))

more_sync : (g f : ℕ) (down frames : List Hmesg) (v : Lens) (d : Bool) (n : ℕ) (file : HFile) → ((g == f) ≡ true → (mid : Lens) → run (at_file g down) v ≡ Some mid → is_unknown mid ≡ false)
    → ComesToSync (at_file g (down ++ frames)) v d n file → ComesToSync (at_file g (down ++ Hdirty f ∷ frames)) v d n file
more_sync g f down frames v d n file known c =
    let less = one_less down frames f in
    let s = split (at_file g down) (at_file g frames) v c.final (subst (λ (l : List Action). run l v ≡ Some c.final) (at_file-append g down frames) c.runs) in
    let here = known_move g f s.mid (λ q. known q s.mid s.first) in
    record {
      final = c.final;
      runs =
          ap (λ (l : List Action). run l v) (at_file-append g down (Hdirty f ∷ frames)) ∙ run-append_some (at_file g down) (at_file g (Hdirty f ∷ frames)) v s.mid s.first
          ∙ ap (λ (o : Option Lens). moved_then o (run (at_file g frames))) here ∙ s.last;
      synced = c.synced;
      guarded = more_guarded (only_at f) g _ _ less c.guarded;
      closed = λ e. c.closed (fewer_closes (only_at f) g _ _ less ∙ e);
    }

-- ## The host

pub file_in-dirt : (d : ℕ → Bool) (ss : Slots PlainFile) (g : ℕ) → file_in (dirty_slots d ss) g ≡ file_in ss g
file_in-dirt d ss g = (λ i. file_of_slot (nat_lt g (length-dirt d ss i)) (slot-dirt d ss g i)) ∙ by (slot ss g)
  where
    by : (s : Option PlainFile) → file_of_slot (nat_lt g (length ss)) (option_map (dirtied (d g)) s) ≡ file_of_slot (nat_lt g (length ss)) s
    by None = refl
    by (Some x) = refl

pub steady-dirt : (d : ℕ → Bool) (h : PlainHost) → IsSteady h → IsSteady (with_dirt d h)
steady-dirt d h k = record {
  sound = record {
    works = λ f e. (subst IsOpened (sym (file_in-dirt d h.files.slots f)) (k.sound.works f e).0, (k.sound.works f e).1);
    commands = subst IsCommandFile (sym (file_in-dirt d h.files.slots 0)) k.sound.commands;
  };
  announced = λ f. subst OpenAnnounced (sym (file-dirt d h.files (suc f))) (k.announced f);
  fit = λ f. subst IsFit (sym (file-dirt d h.files f)) (k.fit f);
}

-- one file that is marked
dirty-none : (d : ℕ → Bool) (ss : Slots PlainFile) → ((g : ℕ) → d g ≡ false) → dirty_slots d ss ≡ ss
dirty-none d [] none = refl
dirty-none d (None ∷ ss) none = ap (λ (rest : Slots PlainFile). None ∷ rest) (dirty-none (λ g. d (suc g)) ss (λ g. none (suc g)))
dirty-none d (Some x ∷ ss) none = λ i. Some (clean-same (d 0) x (none 0) i) ∷ dirty-none (λ g. d (suc g)) ss (λ g. none (suc g)) i

dirty-one : (d : ℕ → Bool) (ss : Slots PlainFile) (f : ℕ) → d f ≡ true → ((g : ℕ) → (g == f) ≡ false → d g ≡ false) → is_some (slot ss f) ≡ true
    → put_slot ss f (dirty_file (unwrap_or (slot ss f) blank_file)) ≡ dirty_slots d ss
dirty-one d [] f here other there = absurd (true≢false (sym there))
dirty-one d (None ∷ ss) zero here other there = absurd (true≢false (sym there))
dirty-one d (Some x ∷ ss) zero here other there =
    λ i. Some (record x { dirty = sym (ap (λ (b : Bool). x.dirty || b) here ∙ or-true x.dirty) i }) ∷ sym (dirty-none (λ g. d (suc g)) ss (λ g. other (suc g) (apart-first g))) i
dirty-one d (None ∷ ss) (suc f) here other there =
    ap (λ (rest : Slots PlainFile). None ∷ rest) (dirty-one (λ g. d (suc g)) ss f here (λ g q. other (suc g) (apart-more g f q)) there)
dirty-one d (Some x ∷ ss) (suc f) here other there =
    λ i. Some (sym (clean-same (d 0) x (other 0 (first-apart f))) i) ∷ dirty-one (λ g. d (suc g)) ss f here (λ g q. other (suc g) (apart-more g f q)) there i

pub marked-is : (h : PlainHost) (f : ℕ) → has_file h.files f ≡ true → marked h f ≡ with_dirt (only_at f) h
marked-is h f there =
    ap (λ (ss : Slots PlainFile). record h { files = record h.files { slots = ss } }) (dirty-one (only_at f) h.files.slots f (eq-eqb f f refl) (λ g q. q) there)

pub marks-given : (h : PlainHost) (f : ℕ) → has_file h.files (suc f) ≡ true → IsDirt (only_at (suc f)) h.files.slots
marks-given h f there = record { command = first-apart f; past = λ g l. let k = slot_given h.files.slots (suc f) there in grind (arith, l, k) }

-- ## All that is under way

-- the frames of a mark
told-mark : (P : List Hmesg → Type 0) (b : Bool) (f : ℕ) → P [] → P (Hdirty f ∷ []) → P (when b (Hdirty f ∷ []))
unfolding when
told-mark P true f none one = one
told-mark P false f none one = none

pub marks_kept : (h : PlainHost) (t : PlainTerminal) (up : List Tmesg) (down : List Hmesg) (f : ℕ) → IsShown h.files (suc f) → InOrder h t up down
    → InOrder (marked h (suc f)) t up (down ++ told_dirty h.files (suc f))
marks_kept h t up down f shown o = record { kept = kept; tidy = o.tidy; unsent = o.unsent }
  where
    line : List Tmesg
    line = up ++ unsent_message t.unsent

    a : Answers (only_at (suc f)) h line (o.kept.ahead, o.kept.frames)
    a = answers-dirt (only_at (suc f)) h line (o.kept.ahead, o.kept.frames) (marks-given h f shown.0) o.kept.folds

    fewer : Fewer (only_at (suc f)) (down ++ o.kept.frames) (down ++ a.reply.1)
    fewer = fewer-append (only_at (suc f)) down down o.kept.frames a.reply.1 (fewer-same (only_at (suc f)) down) a.frames

    less : Fewer (only_at (suc f)) (down ++ Hdirty (suc f) ∷ a.reply.1) (down ++ a.reply.1)
    less = one_less down a.reply.1 (suc f)

    each : (g : ℕ) → ComesToSync (at_file g (down ++ a.reply.1)) (views t g) a.reply.0.is_done a.reply.0.version (file_in a.reply.0.files.slots g)
    each g =
        subst (λ (k : PlainHost). ComesToSync (at_file g (down ++ a.reply.1)) (views t g) k.is_done k.version (file_in k.files.slots g)) (sym a.host)
        (subst (ComesToSync (at_file g (down ++ a.reply.1)) (views t g) o.kept.ahead.is_done o.kept.ahead.version) (sym (file_in-dirt a.marks o.kept.ahead.files.slots g))
        (fewer_sync (only_at (suc f)) g _ _ (views t g) o.kept.ahead.is_done o.kept.ahead.version (file_in o.kept.ahead.files.slots g) fewer (o.kept.each g)))

    known : (g : ℕ) → (g == suc f) ≡ true → (mid : Lens) → run (at_file g down) (views t g) ≡ Some mid → is_unknown mid ≡ false
    known g q mid r =
        known_then h t up down f mid o shown (subst (λ (k : ℕ). run (at_file k down) (views t k) ≡ Some mid) (eqb-true g (suc f) q) r)

    Then : List Hmesg → Type 0
    Then mark =
        ((g : ℕ) → ComesToSync (at_file g ((down ++ mark) ++ a.reply.1)) (views t g) a.reply.0.is_done a.reply.0.version (file_in a.reply.0.files.slots g))
        × VersionsGuarded ((down ++ mark) ++ a.reply.1)

    none : Then []
    none = (
      λ g. subst (λ (l : List Hmesg). ComesToSync (at_file g (l ++ a.reply.1)) (views t g) a.reply.0.is_done a.reply.0.version (file_in a.reply.0.files.slots g)) (sym (append-nil down)) (each g),
      subst (λ (l : List Hmesg). VersionsGuarded (l ++ a.reply.1)) (sym (append-nil down)) (fewer_versions (only_at (suc f)) _ _ fewer o.kept.versions),
    )

    one : Then (Hdirty (suc f) ∷ [])
    one = (
      λ g. subst (λ (l : List Hmesg). ComesToSync (at_file g l) (views t g) a.reply.0.is_done a.reply.0.version (file_in a.reply.0.files.slots g)) (sym (append_assoc down (Hdirty (suc f) ∷ []) a.reply.1))
          (more_sync g (suc f) down a.reply.1 (views t g) a.reply.0.is_done a.reply.0.version (file_in a.reply.0.files.slots g) (known g) (each g)),
      subst VersionsGuarded (sym (append_assoc down (Hdirty (suc f) ∷ []) a.reply.1)) (more_versions (only_at (suc f)) _ _ less (fewer_versions (only_at (suc f)) _ _ fewer o.kept.versions)),
    )

    then : Then (told_dirty h.files (suc f))
    then = told-mark Then (not (file_at h.files (suc f)).dirty && not (suc f == 0)) (suc f) none one

    kept : AllComeToSync (marked h (suc f)) (views t) line (down ++ told_dirty h.files (suc f))
    kept = record {
      ahead = a.reply.0;
      frames = a.reply.1;
      folds = ap (λ (k : PlainHost). answers k line) (marked-is h (suc f) shown.0) ∙ a.now;
      each = then.0;
      steady = subst IsSteady (sym a.host) (steady-dirt a.marks o.kept.ahead o.kept.steady);
      versions = then.1;
    }

-- so it is with any tag but that of the command file
marks_order : (h : PlainHost) (t : PlainTerminal) (up : List Tmesg) (down : List Hmesg) (f : ℕ) → (f == 0) ≡ false → IsShown h.files f → InOrder h t up down
    → InOrder (marked h f) t up (down ++ told_dirty h.files f)
marks_order h t up down zero z shown o = absurd (grind (arith, z))
marks_order h t up down (suc f) z shown o = marks_kept h t up down f shown o

-- and with more files
pub marked-more : (h : PlainHost) (f : ℕ) (more : Slots PlainFile) → f < length h.files.slots → marked (with_more h more) f ≡ with_more (marked h f) more
marked-more h f more l =
    ap (λ (x : PlainFile). with_file (with_more h more) f (dirty_file x)) (file-more h.files more f l)
    ∙ ap (λ (fs : PlainFiles). record h { files = fs }) (files-put h.files more f (dirty_file (file_at h.files f)) l)

pub told-more : (h : PlainHost) (f : ℕ) (more : Slots PlainFile) → f < length h.files.slots → told_dirty (more_files h.files more) f ≡ told_dirty h.files f
told-more h f more l = ap (λ (x : PlainFile). when (not x.dirty && not (f == 0)) (Hdirty f ∷ [])) (file-more h.files more f l)

pub shown-more : (h : PlainHost) (f : ℕ) (more : Slots PlainFile) → IsShown h.files f → IsShown (more_files h.files more) f
shown-more h f more shown =
    let l = slot_given h.files.slots f shown.0 in
    (ap is_some (slot-more h.files.slots more f l) ∙ shown.0, ap (λ (x : PlainFile). x.announced) (file-more h.files more f l) ∙ shown.1)

pub marks_more : (h : PlainHost) (t : PlainTerminal) (up : List Tmesg) (down : List Hmesg) (f : ℕ) (more : Slots PlainFile) → (f == 0) ≡ false → IsShown h.files f
    → InOrder (with_more h more) t up down → InOrder (with_more (marked h f) more) t up (down ++ told_dirty h.files f)
marks_more h t up down f more z shown o =
    let l = slot_given h.files.slots f shown.0 in
    subst (λ (k : PlainHost). InOrder k t up (down ++ told_dirty h.files f)) (marked-more h f more l)
    (subst (λ (ms : List Hmesg). InOrder (marked (with_more h more) f) t up (down ++ ms)) (told-more h f more l) (marks_order (with_more h more) t up down f z (shown-more h f more shown) o))

-- what was given stays so
pub given_marked : (h : PlainHost) (f : ℕ) → IsShown h.files f → HasGiven h.files → HasGiven (marked h f).files
given_marked h f shown g =
    let l = slot_given h.files.slots f shown.0 in
    let x = dirty_file (file_at h.files f) in record {
      command = omega (arith, length-put_slot h.files.slots f x l, g.command);
      work = rw (length-put_slot h.files.slots f x l) g.work;
      fit = fit-put h.files f x g.fit (g.fit f);
    }

-- ## What is answered after a mark

-- there is an answer to these messages then, with no other frames
pub record AnsweredFewer (h : PlainHost) (f : ℕ) (line : List Tmesg) (x : Reply) : Type 0 where
  pub reply : Reply
  pub now : answers (marked h f) line ≡ Some reply
  pub fewer : Fewer (only_at f) x.1 reply.1

pub marks_answers : (h : PlainHost) (f : ℕ) (line : List Tmesg) (x : Reply) → (f == 0) ≡ false → IsShown h.files f → answers h line ≡ Some x → AnsweredFewer h f line x
marks_answers h zero line x z shown e = absurd (grind (arith, z))
marks_answers h (suc f) line x z shown e =
    let a = answers-dirt (only_at (suc f)) h line x (marks-given h f shown.0) e in
    record { reply = a.reply; now = ap (λ (k : PlainHost). answers k line) (marked-is h (suc f) shown.0) ∙ a.now; fewer = a.frames }

-- the frames with that of the mark, and without it
pub mark_less : (h : PlainHost) (f : ℕ) (down frames : List Hmesg) → Fewer (only_at f) ((down ++ told_dirty h.files f) ++ frames) (down ++ frames)
mark_less h f down frames =
    told-mark (λ (mark : List Hmesg). Fewer (only_at f) ((down ++ mark) ++ frames) (down ++ frames)) (not (file_at h.files f).dirty && not (f == 0)) f
    (subst (λ (l : List Hmesg). Fewer (only_at f) (l ++ frames) (down ++ frames)) (sym (append-nil down)) (fewer-same (only_at f) (down ++ frames)))
    (subst (λ (l : List Hmesg). Fewer (only_at f) l (down ++ frames)) (sym (append_assoc down (Hdirty f ∷ []) frames)) (one_less down frames f))

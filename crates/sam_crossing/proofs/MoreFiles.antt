-- A world that is in order is so with more files at the host, and each step keeps it so.
use Rattle.sam_crossing.proofs.Common.{◌≡◌, ℕ, zero, suc, ◌<◌, ◌≤◌, Bool, true, false, not, ◌&&◌, ◌||◌, nat_lt, nat_le, if◌then◌else◌, List, [], ◌∷◌, ◌++◌, length, Option, Some, None, IfSome, ◌⊎◌, inl, inr, refl, sym, ap, ◌∙◌, subst, true≢false, arith, same_Some, append-nil, append_assoc, length-append, unwrap_or, max_runes, Slots, slot, put_slot, free_slot, put_slot-push, length-free_slot, length-map_slots, first_of_checks, PlainFile, PlainFiles, PlainOutcome, blank_file, command_name, file_at, put_file, put_outcome, after_print, announce_all, announced_file, new_file, is_printed, printed_file, common_version, with_files, Tmesg, Tversion, Tstartnewfile, Hmesg, Hack, Hunlock, Hversion, Hnewname, Hbindname, Hcurrent, PlainHost, Reply, HostFault, counted, given_slots, new_host, host_checks, reply_to, reply_of, reply_fits, answers, told_names, printed, PlainTerminal, unsent_message, Action, Lens, lens, HFile, Absent, Gone, IsOpened, IsCommandFile, Unknown, Known, Open, Fits_slot, IsSynced, ComesToSync, move, run, at_file, file_in, OpenAnnounced, IsSteady, InOrder, views}
unfoldable use Rattle.sam_crossing.proofs.Common.{reply_version, reply_startnewfile}
use Rattle.std.specs.Prelude.{drop}
use Rattle.sam_runes.specs.Texts.{all_tags}
use Rattle.sam_text.specs.Files.{IsFit, work_without, without_file}
use Rattle.sam_text.specs.Meaning.{meaning}
use Rattle.sam_text.proofs.FitLaws.{fit-put}
use Rattle.sam_host.specs.Host.{with_given, given_file, no_tag_left}
use Rattle.sam_host.specs.Laws.{AreGiven}
use Rattle.sam_host.proofs.Keeping.{IsKept, reply_keeps}
use Rattle.sam_crossing.specs.Fold.{replied, replied_then, after_frames}
use Rattle.sam_crossing.specs.Lens.{moved_then}
use Rattle.sam_crossing.specs.Joining.{with_more, HasGiven, hears, is_heard}
use Rattle.sam_crossing.proofs.Lenses.{command_of, frees_command, is_free_command}
use Rattle.sam_crossing.proofs.Runs.{Stepped, stepped, no_unlock}
use Rattle.sam_crossing.proofs.Guards.{at_file-append}
use Rattle.sam_crossing.proofs.HostFiles.{not_given}
use Rattle.sam_crossing.proofs.Folds.{answered}
use Rattle.sam_crossing.proofs.Ordered.{HostGoes, host_goes}
use Rattle.sam_crossing.proofs.Starting.{IsShut, given_shut, shut_fits, shut_announced}
use Rattle.sam_crossing.proofs.Joining.{slot-more, deaf_replies_alike, more_pass}

-- ## Files of names and texts

pub given-append : (given more : List (List ℕ × List ℕ)) → given_slots (given ++ more) ≡ given_slots given ++ given_slots more
given-append [] more = refl
given-append (x ∷ given) more = ap (λ (ss : Slots PlainFile). Some (given_file x) ∷ ss) (given-append given more)

pub given_both : (given more : List (List ℕ × List ℕ)) → AreGiven given → AreGiven more → AreGiven (given ++ more)
given_both [] more a b = b
given_both (x ∷ given) more a b = (a.0, a.1, given_both given more a.2 b)

-- a host that began with all of them
pub new_more : (given more : List (List ℕ × List ℕ)) → with_more (new_host given) (given_slots more) ≡ new_host (given ++ more)
new_more given more =
    let h = new_host [] in
    ap (λ (ss : Slots PlainFile). record h { files = record h.files { slots = Some (record blank_file { name = command_name }) ∷ ss } }) (sym (given-append given more))

pub nothing_more : (h : PlainHost) → with_more h [] ≡ h
nothing_more h = ap (λ (ss : Slots PlainFile). record h { files = record h.files { slots = ss } }) (append-nil h.files.slots)

-- one file, and then the others
pub one_more : (h : PlainHost) (x : List ℕ × List ℕ) (more : Slots PlainFile) → with_more (with_given h x) more ≡ with_more h (Some (given_file x) ∷ more)
one_more h x more =
    ap (λ (ss : Slots PlainFile). record h { files = record h.files { slots = ss ++ more } }) (put_slot-push h.files.slots (given_file x))
    ∙ ap (λ (ss : Slots PlainFile). record h { files = record h.files { slots = ss } }) (append_assoc h.files.slots (Some (given_file x) ∷ []) more)

given_fits : (more : List (List ℕ × List ℕ)) → AreGiven more → (f : ℕ) → IsFit (unwrap_or (slot (given_slots more) f) blank_file)
given_fits [] few f = (omega arith, omega arith, omega arith)
given_fits (x ∷ more) few zero = (omega arith, omega arith, few.1)
given_fits (x ∷ more) few (suc f) = given_fits more few.2 f

-- ## A slot among more

-- what holds of a slot that was given, and of each of those that join, holds of it then
more_at : (P : Option PlainFile → Type 0) (ss more : Slots PlainFile) (f : ℕ) → (f < length ss → P (slot ss f)) → ((g : ℕ) → P (slot more g)) → P (slot (ss ++ more) f)
more_at P [] more f a b = b f
more_at P (s ∷ ss) more zero a b = a (omega arith)
more_at P (s ∷ ss) more (suc f) a b = more_at P ss more f (λ l. a (omega (arith, l))) b

-- a file that was given is as it was
pub file_in-more : (ss more : Slots PlainFile) (g : ℕ) → g < length ss → file_in (ss ++ more) g ≡ file_in ss g
file_in-more ss more g l = grind (arith, slot-more, length-append)

there_more : (P : HFile → Type 0) (ss more : Slots PlainFile) (g : ℕ) → (P Absent → ⊥) → P (file_in ss g) → P (file_in (ss ++ more) g)
there_more P ss more g none p = by (nat_lt g (length ss)) refl
  where
    by : (b : Bool) → nat_lt g (length ss) ≡ b → P (file_in (ss ++ more) g)
    by true e = subst P (sym (file_in-more ss more g (grind (arith, e)))) p
    by false e = absurd (none (subst P (not_given ss g (grind (arith, e))) p))

-- files that join are shut
slot_past-more : (ss more : Slots PlainFile) (g : ℕ) → length ss ≤ g → ((f : ℕ) → IsShut (slot more f)) → IsShut (slot (ss ++ more) g)
slot_past-more ss more g l shut = more_at IsShut ss more g (λ k. absurd (omega (arith, l, k))) shut

-- ## What is in order

fits_more : (s : Lens) (d : Bool) (n : ℕ) (file : HFile) → (Fits_slot Unknown file) → IsSynced s d n Absent → IsSynced s d n file
fits_more (lens c e m Unknown) d n file fits s = (s.0, s.1, s.2, fits)
fits_more (lens c e m Known) d n file fits s = absurd s.3
fits_more (lens c e m (Open r k)) d n file fits s = absurd s.3

-- a file that joins is not announced, as one that was not given
sync_more : (actions : List Action) (v : Lens) (d : Bool) (n : ℕ) (ss more : Slots PlainFile) (g : ℕ) → ((f : ℕ) → IsShut (slot more f)) → ComesToSync actions v d n (file_in ss g)
    → ComesToSync actions v d n (file_in (ss ++ more) g)
sync_more actions v d n ss more g shut c = by (nat_lt g (length ss)) refl
  where
    gone : Absent ≡ Gone → ⊥
    gone e = grind (arith, e)

    by : (b : Bool) → nat_lt g (length ss) ≡ b → ComesToSync actions v d n (file_in (ss ++ more) g)
    by true e = subst (ComesToSync actions v d n) (sym (file_in-more ss more g (grind (arith, e)))) c
    by false e =
        let l : length ss ≤ g = grind (arith, e) in
        let none = not_given ss g l in record {
          final = c.final;
          runs = c.runs;
          synced = fits_more c.final d n (file_in (ss ++ more) g) (shut_fits (nat_lt g (length (ss ++ more))) (slot (ss ++ more) g) (slot_past-more ss more g l shut)) (subst (IsSynced c.final d n) none c.synced);
          guarded = c.guarded;
          closed = λ q. absurd (gone (sym none ∙ c.closed q));
        }

announced_more : (ss more : Slots PlainFile) (g : ℕ) → ((f : ℕ) → IsShut (slot more f)) → OpenAnnounced (unwrap_or (slot ss g) blank_file) → OpenAnnounced (unwrap_or (slot (ss ++ more) g) blank_file)
announced_more ss more g shut here = more_at (λ (s : Option PlainFile). OpenAnnounced (unwrap_or s blank_file)) ss more g (λ l. here) (λ f. shut_announced (slot more f) (shut f))

steady_more : (h : PlainHost) (more : List (List ℕ × List ℕ)) → AreGiven more → IsSteady h → IsSteady (with_more h (given_slots more))
steady_more h more few k =
    let ss = h.files.slots in
    let us = given_slots more in
    record {
      sound = record {
        works = λ f e. (there_more IsOpened ss us f (λ c. c) (k.sound.works f e).0, (k.sound.works f e).1);
        commands = there_more IsCommandFile ss us 0 (λ c. c) k.sound.commands;
      };
      announced = λ f. announced_more ss us (suc f) (given_shut more) (k.announced f);
      fit = λ f. more_at (λ (s : Option PlainFile). IsFit (unwrap_or s blank_file)) ss us f (λ l. k.fit f) (given_fits more few);
    }

-- where the answers to what is up are as without the files
pub order_more : (h : PlainHost) (t : PlainTerminal) (up : List Tmesg) (down : List Hmesg) (more : List (List ℕ × List ℕ)) → AreGiven more → (o : InOrder h t up down)
    → answers (with_more h (given_slots more)) (up ++ unsent_message t.unsent) ≡ Some (with_more o.kept.ahead (given_slots more), o.kept.frames)
    → InOrder (with_more h (given_slots more)) t up down
order_more h t up down more few o folds = record {
  kept = record {
    ahead = with_more o.kept.ahead (given_slots more);
    frames = o.kept.frames;
    folds = folds;
    each = λ g. sync_more (at_file g (down ++ o.kept.frames)) (views t g) o.kept.ahead.is_done o.kept.ahead.version o.kept.ahead.files.slots (given_slots more) g (given_shut more) (o.kept.each g);
    steady = steady_more o.kept.ahead more few o.kept.steady;
    versions = o.kept.versions;
  };
  tidy = o.tidy;
  unsent = o.unsent;
}

-- ## What was given stays so

record HasPlaces (fs : PlainFiles) : Type 0 where
  command : 0 < length fs.slots
  work : IfSome fs.work (λ f. f < length fs.slots)

pub put-longer : (ss : Slots PlainFile) (f : ℕ) (x : PlainFile) → length ss ≤ length (put_slot ss f x)
put-longer [] f x = omega arith
put-longer (s ∷ ss) zero x = omega arith
put-longer (s ∷ ss) (suc f) x = omega (arith, (put-longer ss f x))

put-there : (ss : Slots PlainFile) (f : ℕ) (x : PlainFile) → f < length (put_slot ss f x)
put-there [] zero x = omega arith
put-there [] (suc f) x = omega (arith, (put-there [] f x))
put-there (s ∷ ss) zero x = omega arith
put-there (s ∷ ss) (suc f) x = omega (arith, (put-there ss f x))

work-longer : (o : Option ℕ) (n k : ℕ) → n ≤ k → IfSome o (λ f. f < n) → IfSome o (λ f. f < k)
work-longer None n k l w = tt
work-longer (Some f) n k l w = omega (arith, l, w)

-- the same work file, and no fewer slots
places-longer : (fs gs : PlainFiles) → gs.work ≡ fs.work → length fs.slots ≤ length gs.slots → HasPlaces fs → HasPlaces gs
places-longer fs gs e l p = record { command = omega (arith, l, p.command); work = subst (λ (o : Option ℕ). IfSome o (λ f. f < length gs.slots)) (sym e) (work-longer fs.work (length fs.slots) (length gs.slots) l p.work) }

places-put : (fs : PlainFiles) (f : ℕ) (x : PlainFile) → HasPlaces fs → HasPlaces (put_file fs f x)
places-put fs f x p = places-longer fs (put_file fs f x) refl (put-longer fs.slots f x) p

-- the file that is put is the work file
places-work : (fs : PlainFiles) (f : ℕ) (x : PlainFile) → HasPlaces fs → HasPlaces (record (put_file fs f x) { work = Some f })
places-work fs f x p = record { command = omega (arith, (put-longer fs.slots f x), p.command); work = put-there fs.slots f x }

places-outcome : (file : Option ℕ) (fs : PlainFiles) (o : PlainOutcome) → HasPlaces fs → HasPlaces (put_outcome file fs o)
places-outcome None fs o p = p
places-outcome (Some f) fs o p = places-put fs f _ p

places_kept : IsKept HasPlaces
places_kept = record {
  announced = λ fs p. places-longer fs (record fs { slots = announce_all fs.slots }) refl (announced-length fs.slots) p;
  shown = λ fs p. places-put fs 0 _ p;
  selected = λ fs f a b o r p. places-work fs f _ p;
  typed = λ fs f a s l r p. places-put fs f _ p;
  cut = λ fs f a b r p. places-put fs f _ p;
  pasted = λ fs f a s l r p. places-put fs f _ p;
  snarfed = λ fs s p. record { command = p.command; work = p.work };
  created = λ fs p. places-work fs (length fs.slots) new_file p;
  written = λ fs f p. places-put fs f _ p;
  closed = λ fs f p. places-free fs f p;
  marked = λ fs f d r p. places-put fs f _ p;
  sought = λ fs lit p. record { command = p.command; work = p.work };
  printed = λ fs s p. places-print fs s (is_printed fs s) p;
  run = λ fs line p. let q = places-outcome (meaning fs line).file fs (meaning fs line) p in record { command = q.command; work = q.work };
}
  where
    announced-length : (ss : Slots PlainFile) → length ss ≤ length (announce_all ss)
    announced-length [] = omega arith
    announced-length (s ∷ ss) = omega (arith, (length-map_slots announced_file ss))

    work-free : (f : ℕ) (o : Option ℕ) (n : ℕ) → IfSome o (λ g. g < n) → IfSome (work_without f o) (λ g. g < n)
    work-free f None n w = tt
    work-free f (Some g) n w = grind arith

    places-free : (fs : PlainFiles) (f : ℕ) → HasPlaces fs → HasPlaces (without_file fs f)
    places-free fs f p =
        let same = length-free_slot fs.slots f in
        record {
          command = omega (arith, same, p.command);
          work = work-longer (work_without f fs.work) (length fs.slots) (length (free_slot fs.slots f)) (omega (arith, same)) (work-free f fs.work (length fs.slots) p.work);
        }

    places-print : (fs : PlainFiles) (s : List ℕ) (b : Bool) → HasPlaces fs → HasPlaces (if b then put_file fs 0 (printed_file (file_at fs 0) s) else fs)
    places-print fs s true p = places-put fs 0 _ p
    places-print fs s false p = p

given-reply : (h : PlainHost) (m : Tmesg) → first_of_checks (host_checks h m) ≡ None → HasGiven h.files → HasGiven (reply_to h m).0.files
given-reply h m e g =
    let p = reply_keeps HasPlaces places_kept h m e (λ f is. places-work h.files f _ (record { command = g.command; work = g.work })) (record { command = g.command; work = g.work }) in
    record { command = p.command; work = p.work; fit = reply_fits h m e g.fit }

-- each answer keeps what was given
pub given_kept : (h : PlainHost) (m : Tmesg) (r : Reply) → HasGiven h.files → reply_of h m ≡ Some r → HasGiven r.0.files
given_kept h m r g e = by h.is_done e
  where
    same : (x : Reply) → HasGiven x.0.files → Some x ≡ Some r → HasGiven r.0.files
    same x k q = subst (λ (y : Reply). HasGiven y.0.files) (same_Some _ _ q) k

    checked : (o : Option HostFault) → first_of_checks (host_checks h m) ≡ o → replied o (reply_to h m) ≡ Some r → HasGiven r.0.files
    checked None q e = same (counted (reply_to h m).0, (reply_to h m).1) (given-reply h m q g) e
    checked (Some why) q e = absurd (grind (arith, e))

    by : (b : Bool) → (if b then Some (counted h, []) else replied (first_of_checks (host_checks h m)) (reply_to h m)) ≡ Some r → HasGiven r.0.files
    by true e = same (counted h, []) g e
    by false e = checked (first_of_checks (host_checks h m)) refl e

-- so does a file that joins
pub given_joined : (h : PlainHost) (x : List ℕ × List ℕ) → length x.1 ≤ max_runes → HasGiven h.files → HasGiven (with_given h x).files
given_joined h x short g =
    let ss = h.files.slots in
    let p = places-put h.files (length ss) (given_file x) (record { command = g.command; work = g.work }) in
    record { command = p.command; work = p.work; fit = fit-put h.files (length ss) (given_file x) g.fit (omega arith, omega arith, short) }

-- ## A message that doesn't hear of files

pub deaf_reply : (h : PlainHost) (m : Tmesg) (more : Slots PlainFile) (r : Reply) → HasGiven h.files → ((h.is_done ≡ true) ⊎ (hears m ≡ false)) → reply_of h m ≡ Some r
    → reply_of (with_more h more) m ≡ Some (with_more r.0 more, r.1)
deaf_reply h m more r g deaf e = by h.is_done refl e deaf
  where
    wider : Reply → Option Reply
    wider x = Some (with_more x.0 more, x.1)

    checked : (o : Option HostFault) → first_of_checks (host_checks h m) ≡ o → replied o (reply_to h m) ≡ Some r → hears m ≡ false
        → replied (first_of_checks (host_checks (with_more h more) m)) (reply_to (with_more h more) m) ≡ wider r
    checked None q e k =
        ap (λ (o : Option HostFault). replied o (reply_to (with_more h more) m)) (more_pass h more m q)
        ∙ ap (λ (x : Reply). Some (counted x.0, x.1)) (deaf_replies_alike h more m k g q) ∙ ap wider (same_Some _ _ e)
    checked (Some why) q e k = absurd (grind (arith, e))

    by : (b : Bool) → h.is_done ≡ b → (if b then Some (counted h, []) else replied (first_of_checks (host_checks h m)) (reply_to h m)) ≡ Some r → ((b ≡ true) ⊎ (hears m ≡ false))
        → (if b then Some (counted (with_more h more), []) else replied (first_of_checks (host_checks (with_more h more) m)) (reply_to (with_more h more) m)) ≡ wider r
    by true d e k = ap wider (same_Some _ _ e)
    by false d e (inl k) = absurd (true≢false (sym k))
    by false d e (inr k) = checked (first_of_checks (host_checks h m)) refl e k

-- ## A message that does: after its answer none is up

pub frees-behind : (xs ys : List Hmesg) → frees_command (at_file 0 ys) ≡ true → frees_command (at_file 0 (xs ++ ys)) ≡ true
frees-behind [] ys e = e
frees-behind (x ∷ xs) ys e = grind (arith, (frees-behind xs ys e))

hearing_frees : (h : PlainHost) (m : Tmesg) → hears m ≡ true → frees_command (at_file 0 (reply_to h m).1) ≡ true
unfolding reply_version reply_startnewfile
hearing_frees h (Tversion v) e = frees-behind (Hversion (common_version v) ∷ told_names 1 (drop 1 h.files.slots)) (Hack ∷ Hunlock ∷ []) refl
hearing_frees h Tstartnewfile e = by (nat_le all_tags (length h.files.slots))
  where
    f : ℕ
    f = length h.files.slots

    replied_by : Bool → Reply
    replied_by b =
        if b then (with_files h (after_print h.files no_tag_left), printed h.files no_tag_left ++ Hunlock ∷ [])
        else (with_files h (record (put_file h.files f new_file) { work = Some f }), Hnewname f ∷ Hbindname f ∷ Hcurrent f ∷ Hunlock ∷ [])

    by : (b : Bool) → frees_command (at_file 0 (replied_by b).1) ≡ true
    by true = frees-behind (printed h.files no_tag_left) (Hunlock ∷ []) refl
    by false = frees-behind (Hnewname f ∷ Hbindname f ∷ Hcurrent f ∷ []) (Hunlock ∷ []) refl
hearing_frees h m e = absurd (grind (arith, e))

-- the command lock is free from then on
still_free : (a : Action) (v w : Lens) → move a v ≡ Some w → command_of v ≡ false → command_of w ≡ false
still_free a v w e c = grind arith

stays_free : (s : List Action) (v w : Lens) → run s v ≡ Some w → command_of v ≡ false → command_of w ≡ false
stays_free [] v w r c = subst (λ (x : Lens). command_of x ≡ false) (same_Some _ _ r) c
stays_free (a ∷ s) v w r c = let t = stepped a s v w r in stays_free s t.mid w t.on (still_free a v t.mid t.moves c)

freed_by : (a : Action) (v w : Lens) → move a v ≡ Some w → is_free_command a ≡ true → command_of w ≡ false
freed_by a v w e f = grind arith

freed : (s : List Action) (v w : Lens) → run s v ≡ Some w → frees_command s ≡ true → command_of w ≡ false
freed [] v w r f = absurd (true≢false (sym f))
freed (a ∷ s) v w r f = by (is_free_command a) refl f (freed s t.mid w t.on)
  where
    t : Stepped a s v w
    t = stepped a s v w r

    by : (b : Bool) → is_free_command a ≡ b → (b || frees_command s) ≡ true → (frees_command s ≡ true → command_of w ≡ false) → command_of w ≡ false
    by true e k later = stays_free s t.mid w t.on (freed_by a v t.mid t.moves e)
    by false e k later = later k

pub record Split (s u : List Action) (v w : Lens) : Type 0 where
  pub mid : Lens
  pub first : run s v ≡ Some mid
  pub last : run u mid ≡ Some w

pub split : (s u : List Action) (v w : Lens) → run (s ++ u) v ≡ Some w → Split s u v w
split [] u v w r = record { mid = v; first = refl; last = r }
split (a ∷ s) u v w r =
    let t = stepped a (s ++ u) v w r in
    let z = split s u t.mid w t.on in
    record { mid = z.mid; first = ap (λ (o : Option Lens). moved_then o (run s)) t.moves ∙ z.first; last = z.last }

-- a message that is answered from a free command lock doesn't hear
deaf_where_free : (h : PlainHost) (m : Tmesg) (r : Reply) (v w : Lens) → reply_of h m ≡ Some r → run (at_file 0 r.1) v ≡ Some w → command_of v ≡ false → (h.is_done ≡ true) ⊎ (hears m ≡ false)
deaf_where_free h m r v w e q c = by h.is_done refl e (hears m) refl
  where
    unlocks : hears m ≡ true → r ≡ (counted (reply_to h m).0, (reply_to h m).1) → ⊥
    unlocks k same =
        true≢false (sym (hearing_frees h m k) ∙ ap (λ (x : Reply). frees_command (at_file 0 x.1)) (sym same) ∙ no_unlock (at_file 0 r.1) v w q c)

    checked : (o : Option HostFault) → replied o (reply_to h m) ≡ Some r → hears m ≡ true → ⊥
    checked None e k = unlocks k (sym (same_Some _ _ e))
    checked (Some why) e k = absurd (grind (arith, e))

    by : (b : Bool) → h.is_done ≡ b → (if b then Some (counted h, []) else replied (first_of_checks (host_checks h m)) (reply_to h m)) ≡ Some r → (k : Bool) → hears m ≡ k
        → (h.is_done ≡ true) ⊎ (hears m ≡ false)
    by true d e k n = inl d
    by false d e false n = inr n
    by false d e true n = absurd (checked (first_of_checks (host_checks h m)) e n)

deaf_answers : (h : PlainHost) (line : List Tmesg) (x : Reply) (v w : Lens) (more : Slots PlainFile) → HasGiven h.files → answers h line ≡ Some x → run (at_file 0 x.1) v ≡ Some w → command_of v ≡ false
    → answers (with_more h more) line ≡ Some (with_more x.0 more, x.1)
deaf_answers h [] x v w more g e q c = ap (λ (y : Reply). Some (with_more y.0 more, y.1)) (same_Some _ _ e)
deaf_answers h (m ∷ ms) x v w more g e q c =
    let t = answered h m ms x e in
    let parts = split (at_file 0 t.first.1) (at_file 0 t.rest.1) v w (subst (λ (s : List Action). run s v ≡ Some w) (ap (λ (y : Reply). at_file 0 y.1) t.whole ∙ at_file-append 0 t.first.1 t.rest.1) q) in
    let now = deaf_reply h m more t.first g (deaf_where_free h m t.first v parts.mid t.now parts.first c) t.now in
    let later = deaf_answers t.first.0 ms t.rest parts.mid w more (given_kept h m t.first g t.now) t.later parts.last (stays_free (at_file 0 t.first.1) v parts.mid parts.first c) in
    ap (λ (o : Option Reply). replied_then o (λ k. answers k ms)) now ∙ ap (after_frames t.first.1) later ∙ ap (λ (y : Reply). Some (with_more y.0 more, y.1)) (sym t.whole)

-- what is up after such an answer doesn't hear
pub answers_after : (h : PlainHost) (line : List Tmesg) (down : List Hmesg) (x : Reply) (v w : Lens) (more : Slots PlainFile) → HasGiven h.files → frees_command (at_file 0 down) ≡ true → answers h line ≡ Some x
    → run (at_file 0 (down ++ x.1)) v ≡ Some w → answers (with_more h more) line ≡ Some (with_more x.0 more, x.1)
answers_after h line down x v w more g f e q =
    let parts = split (at_file 0 down) (at_file 0 x.1) v w (subst (λ (s : List Action). run s v ≡ Some w) (at_file-append 0 down x.1) q) in
    deaf_answers h line x parts.mid w more g e parts.last (freed (at_file 0 down) v parts.mid parts.first f)

pub answers_behind : (h : PlainHost) (t : PlainTerminal) (up : List Tmesg) (down : List Hmesg) (more : Slots PlainFile) (o : InOrder h t up down) → HasGiven h.files → frees_command (at_file 0 down) ≡ true
    → answers (with_more h more) (up ++ unsent_message t.unsent) ≡ Some (with_more o.kept.ahead more, o.kept.frames)
answers_behind h t up down more o g f =
    let x = o.kept.each 0 in answers_after h (up ++ unsent_message t.unsent) down (o.kept.ahead, o.kept.frames) (views t 0) x.final more g f o.kept.folds x.runs

-- ## The host takes a message

pub heard_frees : (h : PlainHost) (m : Tmesg) (r : Reply) → reply_of h m ≡ Some r → is_heard h m ≡ true → frees_command (at_file 0 r.1) ≡ true
heard_frees h m r e k = by h.is_done e k
  where
    checked : (o : Option HostFault) → replied o (reply_to h m) ≡ Some r → hears m ≡ true → frees_command (at_file 0 r.1) ≡ true
    checked None e n = subst (λ (x : Reply). frees_command (at_file 0 x.1) ≡ true) (same_Some _ _ e) (hearing_frees h m n)
    checked (Some why) e n = absurd (grind (arith, e))

    by : (b : Bool) → (if b then Some (counted h, []) else replied (first_of_checks (host_checks h m)) (reply_to h m)) ≡ Some r → (not b && hears m) ≡ true → frees_command (at_file 0 r.1) ≡ true
    by true e n = absurd (true≢false (sym n))
    by false e n = checked (first_of_checks (host_checks h m)) e n

pub unheard_is : (h : PlainHost) (m : Tmesg) → is_heard h m ≡ false → (h.is_done ≡ true) ⊎ (hears m ≡ false)
unheard_is h m e = by h.is_done refl e
  where
    by : (b : Bool) → h.is_done ≡ b → (not b && hears m) ≡ false → (h.is_done ≡ true) ⊎ (hears m ≡ false)
    by true d e = inl d
    by false d e = inr e

-- the answer is in order with more files, where the message was so
pub host_goes_more : (h : PlainHost) (t : PlainTerminal) (m : Tmesg) (up : List Tmesg) (down : List Hmesg) (goes : HostGoes h t m up down) (more : List (List ℕ × List ℕ)) → AreGiven more → HasGiven h.files
    → InOrder (with_more h (given_slots more)) t (m ∷ up) down → InOrder (with_more goes.reply.0 (given_slots more)) t up (down ++ goes.reply.1)
host_goes_more h t m up down goes more few g o = by (is_heard h m) refl
  where
    us : Slots PlainFile
    us = given_slots more

    r : Reply
    r = goes.reply

    by : (b : Bool) → is_heard h m ≡ b → InOrder (with_more r.0 us) t up (down ++ r.1)
    by true e =
        order_more r.0 t up (down ++ r.1) more few goes.next
        (answers_behind r.0 t up (down ++ r.1) us goes.next (given_kept h m r g goes.answers_it) (frees-behind down r.1 (heard_frees h m r goes.answers_it e)))
    by false e =
        let other = host_goes (with_more h us) t m up down o in
        let same : other.reply ≡ (with_more r.0 us, r.1) = same_Some _ _ (sym other.answers_it ∙ deaf_reply h m us r g (unheard_is h m e) goes.answers_it) in
        subst (λ (x : Reply). InOrder x.0 t up (down ++ x.1)) same other.next

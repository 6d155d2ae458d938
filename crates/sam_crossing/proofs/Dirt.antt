-- A host in which files are marked as dirty answers as one in which they are not, but that it tells of fewer files that they become dirty.
use Rattle.sam_host.proofs.Common.{◌≡◌, refl, sym, ap, ◌∙◌, subst, ℕ, suc, ◌≤◌, Bool, true, false, if◌then◌else◌, List, [], ◌∷◌, ◌++◌, length, Option, Some, None, arith, first_of_checks, Slots, put_slot, PlainFile, PlainFiles, PlainOutcome, file_at, put_file, announce_all, after_print, put_outcome, committed, meaning, Tmesg, Hmesg, PlainHost, Reply, host_checks, reply_to}
use Rattle.std.proofs.Common.{true≢false}
use Rattle.sam_text.specs.Files.{announced_file, file_after, new_file, printed_file, is_printed}
use Rattle.sam_host.specs.declared.fault.HostFault.{HostFault}
use Rattle.sam_host.specs.Host.{counted}
use Rattle.sam_host.proofs.Keeping.{IsKept, reply_keeps}
use Rattle.std.proofs.lemmas.Option.{same_Some}
use Rattle.sam_runes.proofs.SlotLaws.{length-free_slot, length-map_slots}
use Rattle.sam_crossing.specs.Fold.{after_frames, answers, replied, replied_then, reply_of}
use Rattle.sam_crossing.proofs.Folds.{answered}
use Rattle.sam_crossing.proofs.MoreFiles.{put-longer}
unfoldable use Rattle.sam_host.specs.Host.{printed}
use Rattle.sam_crossing.proofs.DirtyFiles.{with_dirt, IsDirt, Fewer, fewer-append, fewer-wide}
use Rattle.sam_crossing.proofs.DirtyReplies.{Alike, marks_after, marks-fewer, reply-dirt, checks-dirt}

-- ## Answers

-- no reply takes a slot away
longer_put : (n : ℕ) (ss : Slots PlainFile) (f : ℕ) (x : PlainFile) → n ≤ length ss → n ≤ length (put_slot ss f x)
longer_put n ss f x l = omega (arith, l, (put-longer ss f x))

longer_print : (n : ℕ) (fs : PlainFiles) (s : List ℕ) → n ≤ length fs.slots → n ≤ length (after_print fs s).slots
longer_print n fs s l = by (is_printed fs s)
  where
    by : (b : Bool) → n ≤ length (if b then put_file fs 0 (printed_file (file_at fs 0) s) else fs).slots
    by true = longer_put n fs.slots 0 (printed_file (file_at fs 0) s) l
    by false = l

longer_run : (n : ℕ) (fs : PlainFiles) (o : PlainOutcome) → n ≤ length fs.slots → n ≤ length (committed fs o).slots
longer_run n fs o l = by o.file
  where
    by : (x : Option ℕ) → n ≤ length (put_outcome x fs o).slots
    by None = l
    by (Some f) = longer_put n fs.slots f (file_after (file_at fs f) o) l

longer_announced : (ss : Slots PlainFile) → length (announce_all ss) ≡ length ss
longer_announced [] = refl
longer_announced (s ∷ ss) = ap suc (length-map_slots announced_file ss)

longer_kept : (n : ℕ) → IsKept (λ (fs : PlainFiles). n ≤ length fs.slots)
longer_kept n = record {
  announced = λ fs l. omega (arith, l, (longer_announced fs.slots));
  shown = λ fs l. longer_put n fs.slots 0 _ l;
  selected = λ fs f a b o r l. longer_put n fs.slots f _ l;
  typed = λ fs f a s p r l. longer_put n fs.slots f _ l;
  cut = λ fs f a b r l. longer_put n fs.slots f _ l;
  pasted = λ fs f a s p r l. longer_put n fs.slots f _ l;
  snarfed = λ fs s l. l;
  created = λ fs l. longer_put n fs.slots (length fs.slots) new_file l;
  written = λ fs f l. longer_put n fs.slots f _ l;
  closed = λ fs f l. omega (arith, l, (length-free_slot fs.slots f));
  marked = λ fs f d r l. longer_put n fs.slots f _ l;
  sought = λ fs lit l. l;
  printed = λ fs s l. longer_print n fs s l;
  run = λ fs line l. longer_run n fs (meaning fs line) l;
}

longer_reply : (h : PlainHost) (m : Tmesg) → first_of_checks (host_checks h m) ≡ None → length h.files.slots ≤ length (reply_to h m).0.files.slots
longer_reply h m e =
    let n = length h.files.slots in
    reply_keeps (λ (fs : PlainFiles). n ≤ length fs.slots) (longer_kept n) h m e (λ f is. longer_put n h.files.slots f _ (omega arith)) (omega arith)

-- no file is marked that was not
dirt-fewer : (d e : ℕ → Bool) (ss rr : Slots PlainFile) → ((f : ℕ) → e f ≡ true → d f ≡ true) → length ss ≤ length rr → IsDirt d ss → IsDirt e rr
dirt-fewer d e ss rr fewer l z = record { command = none 0 z.command; past = λ f m. none f (z.past f (omega (arith, l, m))) }
  where
    none : (f : ℕ) → d f ≡ false → e f ≡ false
    none f q = by (e f) refl
      where
        by : (b : Bool) → e f ≡ b → e f ≡ false
        by true k = absurd (true≢false (sym (fewer f k) ∙ q))
        by false k = k

-- the answer to a message
pub record Replies (d : ℕ → Bool) (h : PlainHost) (m : Tmesg) (r : Reply) : Type 0 where
  pub reply : Reply
  pub now : reply_of (with_dirt d h) m ≡ Some reply
  pub marks : ℕ → Bool
  pub are : marks ≡ (if h.is_done then d else marks_after m d)
  pub dirt : IsDirt marks r.0.files.slots
  pub alike : Alike marks r reply

pub reply_of-dirt : (d : ℕ → Bool) (h : PlainHost) (m : Tmesg) (r : Reply) → IsDirt d h.files.slots → reply_of h m ≡ Some r → Replies d h m r
reply_of-dirt d h m r z e = by h.is_done refl e
  where
    k : PlainHost
    k = with_dirt d h

    silent : h.is_done ≡ true → (counted h, []) ≡ r → Replies d h m r
    silent done is = subst (Replies d h m) is (record {
      reply = (counted k, []);
      now = ap (λ (b : Bool). if b then Some (counted k, []) else replied (first_of_checks (host_checks k m)) (reply_to k m)) done;
      marks = d;
      are = sym (ap (λ (b : Bool). if b then d else marks_after m d) done);
      dirt = record { command = z.command; past = z.past };
      alike = record { host = refl; frames = refl };
    })

    told : h.is_done ≡ false → first_of_checks (host_checks h m) ≡ None → (counted (reply_to h m).0, (reply_to h m).1) ≡ r → Replies d h m r
    told going passes is =
        let a = reply-dirt d h m z passes in
        subst (Replies d h m) is (record {
          reply = (counted (reply_to k m).0, (reply_to k m).1);
          now = ap (λ (b : Bool). if b then Some (counted k, []) else replied (first_of_checks (host_checks k m)) (reply_to k m)) going
              ∙ ap (λ (o : Option HostFault). replied o (reply_to k m)) (ap first_of_checks (checks-dirt d h m) ∙ passes);
          marks = marks_after m d;
          are = sym (ap (λ (b : Bool). if b then d else marks_after m d) going);
          dirt = dirt-fewer d (marks_after m d) h.files.slots (reply_to h m).0.files.slots (marks-fewer m d) (longer_reply h m passes) z;
          alike = record { host = ap counted a.host; frames = a.frames };
        })

    checked : (o : Option HostFault) → first_of_checks (host_checks h m) ≡ o → h.is_done ≡ false → replied o (reply_to h m) ≡ Some r → Replies d h m r
    checked None q going e = told going q (same_Some _ _ e)
    checked (Some why) q going e = absurd (cc)

    by : (b : Bool) → h.is_done ≡ b → (if b then Some (counted h, []) else replied (first_of_checks (host_checks h m)) (reply_to h m)) ≡ Some r → Replies d h m r
    by true q e = silent q (same_Some _ _ e)
    by false q e = checked (first_of_checks (host_checks h m)) refl q e

pub replies-fewer : (d : ℕ → Bool) (h : PlainHost) (m : Tmesg) (r : Reply) (a : Replies d h m r) (f : ℕ) → a.marks f ≡ true → d f ≡ true
replies-fewer d h m r a f e = by h.is_done (sym (ap (λ (c : ℕ → Bool). c f) a.are) ∙ e)
  where
    by : (b : Bool) → (if b then d else marks_after m d) f ≡ true → d f ≡ true
    by true q = q
    by false q = marks-fewer m d f q

-- the answers to messages one after another
pub record Answers (d : ℕ → Bool) (h : PlainHost) (line : List Tmesg) (x : Reply) : Type 0 where
  pub reply : Reply
  pub now : answers (with_dirt d h) line ≡ Some reply
  pub marks : ℕ → Bool
  pub host : reply.0 ≡ with_dirt marks x.0
  pub frames : Fewer d x.1 reply.1

pub answers-dirt : (d : ℕ → Bool) (h : PlainHost) (line : List Tmesg) (x : Reply) → IsDirt d h.files.slots → answers h line ≡ Some x → Answers d h line x
answers-dirt d h [] x z e =
    subst (Answers d h []) (same_Some _ _ e) (record { reply = (with_dirt d h, []); now = refl; marks = d; host = refl; frames = refl })
answers-dirt d h (m ∷ ms) x z e =
    let t = answered h m ms x e in
    let a = reply_of-dirt d h m t.first z t.now in
    let b = answers-dirt a.marks t.first.0 ms t.rest a.dirt t.later in
    let fewer = replies-fewer d h m t.first a in
    record {
      reply = (b.reply.0, a.reply.1 ++ b.reply.1);
      now = ap (λ (o : Option Reply). replied_then o (λ k. answers k ms)) a.now ∙ ap (λ (k : PlainHost). after_frames a.reply.1 (answers k ms)) a.alike.host
          ∙ ap (after_frames a.reply.1) b.now;
      marks = b.marks;
      host = b.host ∙ ap (λ (y : Reply). with_dirt b.marks y.0) (sym t.whole);
      frames = subst (λ (fs : List Hmesg). Fewer d fs (a.reply.1 ++ b.reply.1)) (ap (λ (y : Reply). y.1) (sym t.whole))
          (fewer-append d t.first.1 a.reply.1 t.rest.1 b.reply.1 (fewer-wide a.marks d t.first.1 a.reply.1 fewer a.alike.frames) (fewer-wide a.marks d t.rest.1 b.reply.1 fewer b.frames));
    }

-- A file that is not announced after an answer was there before it, and not announced.
use Rattle.std.proofs.Common.{◌≡◌, ℕ, suc, ◌+◌, ◌-◌, Bool, true, false, not, ◌&&◌, ◌||◌, if◌then◌else◌, ◌==◌, List, [], ◌∷◌, ◌++◌, length, Option, Some, None, refl, sym, ap, ◌∙◌, subst, arith, is_some, option_map, unwrap_or}
use Rattle.std.specs.Prelude.{nat_le, nat_lt}
use Rattle.sam_runes.specs.Slots.{Slots, slot}
use Rattle.sam_runes.specs.Texts.{Range, all_tags, as_lines, ends_line, is_empty, last_line, max_runes, part, searched, word_at}
use Rattle.sam_runes.specs.Checks.{Checks, first_of_checks}
use Rattle.sam_runes.proofs.SlotLaws.{slot-put_same, slot-put_other, slot-free_same, slot-free_other}
use Rattle.sam_text.specs.Files.{PlainFile, PlainFiles, blank_file, file_at, has_file, put_file, put_outcome, file_after, committed, after_print, printed_file, is_printed, typed_file, cut_file, pasted_file, opened_file, written_file, announced_file, announce_all, without_file, new_file, has_room, may_look, searched_for, command_name}
use Rattle.sam_text.specs.Files.{dirty_file}
use Rattle.sam_text.specs.Meaning.{meaning}
use Rattle.sam_host.specs.Marking.{marked}
use Rattle.sam_crossing.proofs.DirtyFiles.{work_there}
use Rattle.sam_mesg.specs.declared.tmesg.Tmesg.{Tmesg}
use Rattle.sam_mesg.specs.declared.tmesg.Tmesg.TheVariants.{Tversion, Tstartcmdfile, Tstartfile, Tworkfile, Ttype, Tcut, Tpaste, Tstartnewfile, Twrite, Tclose, Tlook, Tsearch, Tsend, Tdclick}
use Rattle.sam_host.specs.declared.fault.HostFault.{HostFault}
use Rattle.sam_host.specs.declared.fault.HostFault.TheVariants.{NoFile}
use Rattle.sam_mesg.specs.declared.hmesg.Hmesg.TheVariants.{Hbindname, Hcurrent, Hmovname, Hnewname, Hsetpat, Hunlock, Hunlockfile}
use Rattle.sam_host.specs.Host.{PlainHost, Reply, reply_line, told_paste, host_checks, line_to, no_tag_left, reply_found, reply_outcome, reply_to, is_command, no_range, no_room, not_opened, past_end, unknown, with_file, with_files}
unfoldable use Rattle.sam_host.specs.Host.{printed, told_length, reply_check, reply_close, reply_cut, reply_dclick, reply_exit, reply_look, reply_origin, reply_paste, reply_request, reply_search, reply_send, reply_setsnarf, reply_snarf, reply_startcmdfile, reply_startfile, reply_startnewfile, reply_startsnarf, reply_type, reply_version, reply_workfile, reply_write}
use Rattle.sam_rest.proofs.HostNames.{slot-announced}

pub record Stays (g : ℕ) (fs gs : PlainFiles) : Type 0 where
  pub stays : has_file gs g ≡ true → (file_at gs g).announced ≡ false → (has_file fs g ≡ true) × ((file_at fs g).announced ≡ false)

as_is : (g : ℕ) (fs : PlainFiles) → Stays g fs fs
as_is g fs = record { stays = λ some hidden. (some, hidden) }

stays_then : (g : ℕ) (fs gs hs : PlainFiles) → Stays g fs gs → Stays g gs hs → Stays g fs hs
stays_then g fs gs hs a b = record { stays = λ some hidden. let x = b.stays some hidden in a.stays x.0 x.1 }

same_slot : (g : ℕ) (fs gs : PlainFiles) → slot gs.slots g ≡ slot fs.slots g → Stays g fs gs
same_slot g fs gs e = record { stays = λ some hidden. (sym (ap is_some e) ∙ some, sym (ap (λ (o : Option PlainFile). (unwrap_or o blank_file).announced) e) ∙ hidden) }

put_other : (g : ℕ) (fs : PlainFiles) (f : ℕ) (x : PlainFile) → (f == g) ≡ false → Stays g fs (put_file fs f x)
put_other g fs f x n = same_slot g fs (put_file fs f x) (slot-put_other fs.slots f g x (λ e. absurd (grind (arith, n, e))))

put-here : (g : ℕ) (fs : PlainFiles) (f : ℕ) (x : PlainFile) → (f == g) ≡ true → file_at (put_file fs f x) g ≡ x
put-here g fs f x q = subst (λ (k : ℕ). file_at (put_file fs f x) k ≡ x) (grind (arith, q)) (ap (λ (o : Option PlainFile). unwrap_or o blank_file) (slot-put_same fs.slots f x))

stays_put : (g : ℕ) (fs : PlainFiles) (f : ℕ) (x : PlainFile) → has_file fs f ≡ true → x.announced ≡ (file_at fs f).announced → Stays g fs (put_file fs f x)
stays_put g fs f x there same = by (f == g) refl
  where
    by : (b : Bool) → (f == g) ≡ b → Stays g fs (put_file fs f x)
    by true q =
        let here : f ≡ g = grind (arith, q) in
        record {
          stays = λ some hidden. (
            subst (λ (k : ℕ). has_file fs k ≡ true) here there,
            ap (λ (k : ℕ). (file_at fs k).announced) (sym here) ∙ sym same ∙ sym (ap (λ (y : PlainFile). y.announced) (put-here g fs f x q)) ∙ hidden,
          );
        }
    by false q = put_other g fs f x q

-- a file that is announced at once
stays_new : (g : ℕ) (fs : PlainFiles) (f : ℕ) (x : PlainFile) → x.announced ≡ true → Stays g fs (put_file fs f x)
stays_new g fs f x told = by (f == g) refl
  where
    none : true ≡ false → ⊥
    none e = cc

    by : (b : Bool) → (f == g) ≡ b → Stays g fs (put_file fs f x)
    by true q = record { stays = λ some hidden. absurd (none (sym (ap (λ (y : PlainFile). y.announced) (put-here g fs f x q) ∙ told) ∙ hidden)) }
    by false q = put_other g fs f x q

first_apart : (g : ℕ) → (0 == suc g) ≡ false
first_apart g = grind arith

stays_print : (g : ℕ) (fs : PlainFiles) (s : List ℕ) → Stays (suc g) fs (after_print fs s)
stays_print g fs s = by (is_printed fs s)
  where
    by : (b : Bool) → Stays (suc g) fs (if b then put_file fs 0 (printed_file (file_at fs 0) s) else fs)
    by true = put_other (suc g) fs 0 (printed_file (file_at fs 0) s) (first_apart g)
    by false = as_is (suc g) fs

-- a mark announces nothing
pub mark_stays : (g : ℕ) (h : PlainHost) (f : ℕ) → has_file h.files f ≡ true → Stays (suc g) h.files (marked h f).files
mark_stays g h f there = stays_put (suc g) h.files f (dirty_file (file_at h.files f)) there refl

-- ## The line that is run

stays_line : (g : ℕ) (h : PlainHost) (line : List ℕ) → Stays (suc g) h.files (after_print (committed h.files (meaning h.files line)) (meaning h.files line).printed)
stays_line g h line =
    let o = meaning h.files line in
    stays_then (suc g) h.files (committed h.files o) (after_print (committed h.files o) o.printed) (record { stays = (by o.file refl).stays }) (stays_print g (committed h.files o) o.printed)
  where
    by : (file : Option ℕ) → (meaning h.files line).file ≡ file → Stays (suc g) h.files (put_outcome file h.files (meaning h.files line))
    by None e = as_is (suc g) h.files
    by (Some f) e = stays_put (suc g) h.files f (file_after (file_at h.files f) (meaning h.files line)) (work_there h.files line f e) refl

-- ## Every answer

-- a Version announces all files
pub announced_all : (ss : Slots PlainFile) (g : ℕ) → is_some (slot (announce_all ss) (suc g)) ≡ true → (unwrap_or (slot (announce_all ss) (suc g)) blank_file).announced ≡ true
announced_all ss g some = by (slot ss (suc g)) (slot-announced ss g)
  where
    none : false ≡ true → ⊥
    none e = cc

    by : (o : Option PlainFile) → slot (announce_all ss) (suc g) ≡ option_map announced_file o → (unwrap_or (slot (announce_all ss) (suc g)) blank_file).announced ≡ true
    by None q = absurd (none (sym (ap is_some q) ∙ some))
    by (Some x) q = ap (λ (o : Option PlainFile). (unwrap_or o blank_file).announced) q

there : (h : PlainHost) (f : ℕ) (more : Checks HostFault) → first_of_checks (unknown h f ∷ more) ≡ None → has_file h.files f ≡ true
there h f more e = by (has_file h.files f) e
  where
    by : (b : Bool) → first_of_checks ((not b, NoFile) ∷ more) ≡ None → b ≡ true
    by true e = refl
    by false e = absurd (cc)

found_stays : (g : ℕ) (h : PlainHost) (f : ℕ) (d : Option Range) (frames : _) → has_file h.files f ≡ true → Stays g h.files (reply_found h f d frames).0.files
found_stays g h f None frames some = as_is g h.files
found_stays g h f (Some d) frames some = stays_put g h.files f (record (file_at h.files f) { dot = d }) some refl

pub reply_stays : (g : ℕ) (h : PlainHost) (m : Tmesg) → first_of_checks (host_checks h m) ≡ None → Stays (suc g) h.files (reply_to h m).0.files
unfolding reply_check reply_close reply_cut reply_dclick reply_exit reply_look reply_origin reply_paste reply_request reply_search reply_send reply_setsnarf reply_snarf reply_startcmdfile reply_startfile reply_startnewfile reply_startsnarf reply_type reply_version reply_workfile reply_write
reply_stays g h (Tversion v) e = record { stays = λ some hidden. absurd (none (sym (announced_all h.files.slots g some) ∙ hidden)) }
  where
    none : true ≡ false → ⊥
    none e = cc
reply_stays g h Tstartcmdfile e = by (file_at h.files 0).opened
  where
    file : PlainFile
    file = file_at h.files 0

    by : (b : Bool) → let r : Reply = if b then (h, Hunlock ∷ []) else (with_file h 0 (opened_file file), Hnewname 0 ∷ Hmovname 0 command_name ∷ Hbindname 0 ∷ told_length 0 file ++ Hunlock ∷ []) in
        Stays (suc g) h.files r.0.files
    by true = as_is (suc g) h.files
    by false = put_other (suc g) h.files 0 (opened_file (file_at h.files 0)) (first_apart g)
reply_stays g h (Tstartfile f) e = record { stays = (stays_put (suc g) h.files f (opened_file (file_at h.files f)) (there h f (is_command f ∷ []) e) refl).stays }
reply_stays g h (Tworkfile f p q) e = record { stays = (stays_put (suc g) h.files f (record (file_at h.files f) { dot = (p, q) }) (there h f (is_command f ∷ not_opened h f ∷ no_range h f p q ∷ []) e) refl).stays }
reply_stays g h (Ttype f p s) e = by ((f == 0) && ends_line s)
  where
    typed : PlainHost
    typed = with_file h f (typed_file f (file_at h.files f) p s)

    first : Stays (suc g) h.files typed.files
    first = stays_put (suc g) h.files f (typed_file f (file_at h.files f) p s) (there h f (not_opened h f ∷ past_end h f p ∷ no_room h f s ∷ []) e) refl

    line : List ℕ
    line = line_to (file_at typed.files f).text (p + length s - 1)

    by : (b : Bool) → let r : Reply = if b then reply_outcome typed [] (meaning typed.files line) else (typed, []) in Stays (suc g) h.files r.0.files
    by true = stays_then (suc g) h.files typed.files (after_print (committed typed.files (meaning typed.files line)) (meaning typed.files line).printed) first (stays_line g typed line)
    by false = first
reply_stays g h (Tcut f p q) e = stays_put (suc g) h.files f (cut_file f (file_at h.files f) p q) (there h f (not_opened h f ∷ no_range h f p q ∷ []) e) refl
reply_stays g h (Tpaste f p) e = by (is_empty h.files.snarf || nat_lt max_runes (length (file_at h.files f).text + length h.files.snarf))
  where
    by : (b : Bool) → let r : Reply = if b then (h, Hunlockfile f ∷ []) else (with_file h f (pasted_file f (file_at h.files f) p h.files.snarf), told_paste h.files f p h.files.snarf) in
        Stays (suc g) h.files r.0.files
    by true = as_is (suc g) h.files
    by false = stays_put (suc g) h.files f (pasted_file f (file_at h.files f) p h.files.snarf) (there h f (not_opened h f ∷ past_end h f p ∷ []) e) refl
reply_stays g h Tstartnewfile e = by (nat_le all_tags (length h.files.slots))
  where
    f : ℕ
    f = length h.files.slots

    by : (b : Bool) → let r : Reply = if b then (with_files h (after_print h.files no_tag_left), printed h.files no_tag_left ++ Hunlock ∷ [])
        else (with_files h (record (put_file h.files f new_file) { work = Some f }), Hnewname f ∷ Hbindname f ∷ Hcurrent f ∷ Hunlock ∷ []) in Stays (suc g) h.files r.0.files
    by true = stays_print g h.files no_tag_left
    by false = record { stays = (stays_new (suc g) h.files (length h.files.slots) new_file refl).stays }
reply_stays g h (Twrite f) e = stays_put (suc g) h.files f (written_file (file_at h.files f)) (there h f (is_command f ∷ not_opened h f ∷ []) e) refl
reply_stays g h (Tclose f) e = by (f == suc g) refl
  where
    by : (b : Bool) → (f == suc g) ≡ b → Stays (suc g) h.files (without_file h.files f)
    by true q = record { stays = λ some hidden. absurd (gone (sym (ap is_some (subst (λ (k : ℕ). slot (without_file h.files f).slots k ≡ None) (grind (arith, q)) (slot-free_same h.files.slots f))) ∙ some)) }
      where
        gone : false ≡ true → ⊥
        gone e = cc
    by false q = same_slot (suc g) h.files (without_file h.files f) (slot-free_other h.files.slots f (suc g) (λ z. absurd (grind (arith, q, z))))
reply_stays g h (Tlook f p q) e = by (may_look lit)
  where
    lit : List ℕ
    lit = part (file_at h.files f).text p q

    k : PlainHost
    k = with_files h (record h.files { pattern = Some lit })

    by : (b : Bool) → let r : Reply = if b then reply_found k f (searched (file_at h.files f).text lit q) (Hsetpat lit ∷ []) else (h, Hunlockfile f ∷ []) in Stays (suc g) h.files r.0.files
    by true = record { stays = (found_stays (suc g) k f (searched (file_at h.files f).text lit q) (Hsetpat lit ∷ []) (there h f (not_opened h f ∷ no_range h f p q ∷ []) e)).stays }
    by false = as_is (suc g) h.files
reply_stays g h (Tsearch f p q) e = found_stays (suc g) h f (searched_for h.files.pattern (file_at h.files f).text q) [] (there h f (not_opened h f ∷ no_range h f p q ∷ []) e)
reply_stays g h (Tsend f p q) e = by ((p == q) || not (has_room h.files s))
  where
    s : List ℕ
    s = as_lines (part (file_at h.files f).text p q)

    k : PlainHost
    k = with_files h (after_print h.files s)

    by : (b : Bool) → let r : Reply = if b then (h, Hunlock ∷ []) else reply_line k (printed h.files s) (last_line s) in Stays (suc g) h.files r.0.files
    by true = as_is (suc g) h.files
    by false = stays_then (suc g) h.files k.files (after_print (committed k.files (meaning k.files (last_line s))) (meaning k.files (last_line s)).printed) (stays_print g h.files s) (stays_line g k (last_line s))
reply_stays g h (Tdclick f p) e = stays_put (suc g) h.files f (record (file_at h.files f) { dot = word_at (file_at h.files f).text p }) (there h f (not_opened h f ∷ past_end h f p ∷ []) e) refl
reply_stays g h m e = record { stays = λ some hidden. (some, hidden) }

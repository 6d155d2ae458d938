-- A host in which files are marked as dirty makes each reply as before, but that it tells of fewer files that they become dirty.
use Rattle.sam_host.proofs.Common.{◌≡◌, refl, sym, ap, ◌∙◌, subst, ℕ, zero, suc, ◌+◌, ◌-◌, Bool, true, false, not, ◌&&◌, ◌||◌, ◌==◌, if◌then◌else◌, List, [], ◌∷◌, ◌++◌, length, Option, Some, None, arith, option_map, first_of_checks, max_runes, ends_line, as_lines, last_line, part, searched, is_empty, min, nat_le, nat_lt, all_tags, most_in_message, Range, Slots, put_slot, PlainFile, PlainFiles, PlainOutcome, file_at, has_file, has_room, may_look, put_file, typed_file, cut_file, pasted_file, opened_file, written_file, without_file, after_print, committed, meaning, Tmesg, Tversion, Tstartcmdfile, Tcheck, Trequest, Torigin, Tstartfile, Tworkfile, Ttype, Tcut, Tpaste, Tsnarf, Tstartnewfile, Twrite, Tclose, Tlook, Tsearch, Tsend, Tdclick, Tstartsnarf, Tsetsnarf, Tack, Texit, Hmesg, Hbindname, Hcheck, Hclean, Hclose, Hcurrent, Hdata, Hdelname, Hexit, Hmovname, Hnewname, Horigin, Hsetdot, Hsetpat, Hsnarflen, Hack, Hversion, Hunlock, Hunlockfile, PlainHost, Reply, host_checks, reply_to, reply_line, reply_found, line_to, with_file, with_files, unknown, not_opened, past_end, no_range, no_room, searched_for, command_name, no_tag_left}
use Rattle.std.proofs.Common.{eq-eqb}
use Rattle.sam_runes.specs.Checks.{Checks}
use Rattle.sam_runes.specs.Slots.{free_slot}
use Rattle.sam_runes.specs.Texts.{common_version, lines_before, word_at}
use Rattle.sam_text.specs.Files.{is_changed, new_file}
use Rattle.sam_host.specs.declared.fault.HostFault.{HostFault}
use Rattle.sam_host.specs.declared.fault.HostFault.TheVariants.{NoFile}
use Rattle.sam_host.specs.Host.{is_command, reply_outcome, told_found, told_paste}
use Rattle.std.proofs.lemmas.Bool.{and_parts}
unfoldable use Rattle.sam_host.specs.Host.{when, printed, told_length, reply_version, reply_startcmdfile, reply_check, reply_request, reply_origin, reply_startfile, reply_workfile, reply_type, reply_cut, reply_paste, reply_snarf, reply_startnewfile, reply_write, reply_close, reply_look, reply_search, reply_send, reply_dclick, reply_startsnarf, reply_setsnarf, reply_exit}
use Rattle.sam_crossing.proofs.DirtyFiles.{dirtied, dirty_slots, dirty_files, with_dirt, IsDirt, clean-same, length-dirt, announce-dirt, names-behind, has-dirt, file-dirt, file-clean, put-there, put-clean, Fewer, fewer-same, fewer-is, fewer-append, grown-dirt, dirty-dirt, print-dirt, printed-dirt, has_room-dirt, meaning-dirt, line-there, committed-dirt, told-dirt}

-- ## Replies that are alike

-- the second reply is the first where these files are marked
pub record Alike (d : ℕ → Bool) (r q : Reply) : Type 0 where
  pub host : q.0 ≡ with_dirt d r.0
  pub frames : Fewer d r.1 q.1

-- the same frames
alike : (d : ℕ → Bool) (h k : PlainHost) (frames : List Hmesg) → k ≡ with_dirt d h → Alike d (h, frames) (k, frames)
alike d h k frames e = record { host = e; frames = fewer-same d frames }

if_alike : (d : ℕ → Bool) (b : Bool) (r s q u : Reply) → Alike d r q → Alike d s u → Alike d (if b then r else s) (if b then q else u)
if_alike d true r s q u x y = x
if_alike d false r s q u x y = y

line-dirt : (d : ℕ → Bool) (h : PlainHost) (before : List Hmesg) (line : List ℕ) → d 0 ≡ false → Alike d (reply_line h before line) (reply_line (with_dirt d h) before line)
line-dirt d h before line z = subst (λ (x : PlainOutcome). Alike d (reply_outcome h before o) (reply_outcome (with_dirt d h) before x)) (sym (meaning-dirt d h.files line)) now
  where
    o : PlainOutcome
    o = meaning h.files line

    same : committed (dirty_files d h.files) o ≡ dirty_files d (committed h.files o)
    same = committed-dirt d h.files o (line-there h.files line)

    now : Alike d (reply_outcome h before o) (reply_outcome (with_dirt d h) before o)
    now = record {
      host = ap (λ (gs : PlainFiles). record h { files = gs; is_done = o.quit }) (ap (λ (gs : PlainFiles). after_print gs o.printed) same ∙ print-dirt d (committed h.files o) o.printed z);
      frames =
          fewer-append d _ _ _ _ (fewer-append d _ _ _ _ (fewer-append d _ _ _ _ (fewer-same d before) (told-dirt d o.file h.files o))
          (fewer-is d _ _ (ap (λ (gs : PlainFiles). printed gs o.printed) same ∙ printed-dirt d (committed h.files o) o.printed z))) (fewer-same d ((if o.quit then Hexit else Hunlock) ∷ []));
    }

changed-same : (f : ℕ) (x : PlainFile) (b : Bool) → is_changed f (dirtied b x) ≡ (is_changed f x || b)
changed-same f x b = by (f == 0)
  where
    by : (z : Bool) → (if z then x.dirty || b else true) ≡ ((if z then x.dirty else true) || b)
    by true = refl
    by false = refl

-- a change of a file's text makes it dirty as before
edit-there : (d : ℕ → Bool) (fs : PlainFiles) (f : ℕ) (change : PlainFile → PlainFile) → has_file fs f ≡ true → ((b : Bool) (x : PlainFile) → change (dirtied b x) ≡ record (change x) { dirty = is_changed f (dirtied b x) })
    → ((x : PlainFile) → (change x).dirty ≡ is_changed f x)
    → put_file (dirty_files d fs) f (change (file_at (dirty_files d fs) f)) ≡ dirty_files d (put_file fs f (change (file_at fs f)))
edit-there d fs f change there other same =
    put-there d fs f change there (λ b x. other b x ∙ ap (λ (c : Bool). record (change x) { dirty = c }) (changed-same f x b ∙ ap (λ (c : Bool). c || b) (sym (same x))))

type-dirt : (d : ℕ → Bool) (h : PlainHost) (f p : ℕ) (s : List ℕ) → d 0 ≡ false → has_file h.files f ≡ true → Alike d (reply_type h f p s) (reply_type (with_dirt d h) f p s)
unfolding reply_type
type-dirt d h f p s z there =
    subst (λ (u : PlainHost). Alike d (run typed) (run u)) (sym (ap (λ (fs : PlainFiles). record h { files = fs }) (edit-there d h.files f (λ (x : PlainFile). typed_file f x p s) there (λ b x. refl) (λ x. refl))))
    (subst (λ (t : List ℕ). Alike d (run typed) (if is_line then reply_line (with_dirt d typed) [] (line_to t end) else (with_dirt d typed, [])))
    (sym (ap (λ (x : PlainFile). x.text) (file-dirt d typed.files f)))
    (if_alike d is_line _ _ _ _ (line-dirt d typed [] (line_to (file_at typed.files f).text end) z) (alike d typed (with_dirt d typed) [] refl)))
  where
    typed : PlainHost
    typed = with_file h f (typed_file f (file_at h.files f) p s)

    is_line : Bool
    is_line = (f == 0) && ends_line s

    end : ℕ
    end = p + length s - 1

    run : PlainHost → Reply
    run u = if is_line then reply_line u [] (line_to (file_at u.files f).text end) else (u, [])

send-dirt : (d : ℕ → Bool) (h : PlainHost) (f p q : ℕ) → d 0 ≡ false → Alike d (reply_send h f p q) (reply_send (with_dirt d h) f p q)
unfolding reply_send
send-dirt d h f p q z =
    subst (λ (t : List ℕ). Alike d (sent h (as_lines (part (file_at h.files f).text p q))) (sent (with_dirt d h) (as_lines (part t p q)))) (sym (ap (λ (x : PlainFile). x.text) (file-dirt d h.files f)))
    (go (as_lines (part (file_at h.files f).text p q)))
  where
    sent : PlainHost → List ℕ → Reply
    sent k s = if (p == q) || not (has_room k.files s) then (k, Hunlock ∷ []) else reply_line (with_files k (after_print k.files s)) (printed k.files s) (last_line s)

    go : (s : List ℕ) → Alike d (sent h s) (sent (with_dirt d h) s)
    go s =
        subst (λ (b : Bool). Alike d (sent h s) (if (p == q) || not b then (with_dirt d h, Hunlock ∷ []) else reply_line (with_files (with_dirt d h) (after_print (dirty_files d h.files) s)) (printed (dirty_files d h.files) s) (last_line s)))
        (sym (has_room-dirt d h.files s z))
        (if_alike d ((p == q) || not (has_room h.files s)) _ _ _ _ (alike d h (with_dirt d h) (Hunlock ∷ []) refl)
        (subst (λ (fs : PlainFiles). Alike d (reply_line shown (printed h.files s) (last_line s)) (reply_line (with_files h fs) (printed (dirty_files d h.files) s) (last_line s))) (sym (print-dirt d h.files s z))
        (subst (λ (ms : List Hmesg). Alike d (reply_line shown (printed h.files s) (last_line s)) (reply_line (with_dirt d shown) ms (last_line s))) (sym (printed-dirt d h.files s z))
        (line-dirt d shown (printed h.files s) (last_line s) z))))
      where
        shown : PlainHost
        shown = with_files h (after_print h.files s)

put-host : (d : ℕ → Bool) (h : PlainHost) (f : ℕ) (change : PlainFile → PlainFile) → has_file h.files f ≡ true → ((b : Bool) (x : PlainFile) → change (dirtied b x) ≡ dirtied b (change x))
    → with_file (with_dirt d h) f (change (file_at (dirty_files d h.files) f)) ≡ with_dirt d (with_file h f (change (file_at h.files f)))
put-host d h f change there same = ap (λ (fs : PlainFiles). record h { files = fs }) (put-there d h.files f change there same)

found-dirt : (d : ℕ → Bool) (h : PlainHost) (f : ℕ) (o : Option Range) (frames : List Hmesg) → has_file h.files f ≡ true → Alike d (reply_found h f o frames) (reply_found (with_dirt d h) f o frames)
found-dirt d h f None frames there = alike d h (with_dirt d h) (Hunlockfile f ∷ []) refl
found-dirt d h f (Some r) frames there =
    record { host = put-host d h f (λ (x : PlainFile). record x { dot = r }) there (λ b x. refl); frames = fewer-same d (frames ++ told_found f r) }

look-dirt : (d : ℕ → Bool) (h : PlainHost) (f p q : ℕ) → has_file h.files f ≡ true → Alike d (reply_look h f p q) (reply_look (with_dirt d h) f p q)
unfolding reply_look
look-dirt d h f p q there =
    subst (λ (u : List ℕ). Alike d (looked h t) (looked (with_dirt d h) u)) (sym (ap (λ (x : PlainFile). x.text) (file-dirt d h.files f)))
    (if_alike d (may_look lit) _ _ _ _ (found-dirt d (with_files h (record h.files { pattern = Some lit })) f (searched t lit q) (Hsetpat lit ∷ []) there) (alike d h (with_dirt d h) (Hunlockfile f ∷ []) refl))
  where
    t : List ℕ
    t = (file_at h.files f).text

    lit : List ℕ
    lit = part t p q

    looked : PlainHost → List ℕ → Reply
    looked k u =
        let lit = part u p q in
        if may_look lit then reply_found (with_files k (record k.files { pattern = Some lit })) f (searched u lit q) (Hsetpat lit ∷ []) else (k, Hunlockfile f ∷ [])

paste-dirt : (d : ℕ → Bool) (h : PlainHost) (f p : ℕ) → has_file h.files f ≡ true → Alike d (reply_paste h f p) (reply_paste (with_dirt d h) f p)
unfolding reply_paste
paste-dirt d h f p there =
    subst (λ (t : List ℕ). Alike d (reply_paste h f p) (if is_empty s || nat_lt max_runes (length t + length s) then (with_dirt d h, Hunlockfile f ∷ []) else pasted)) (sym (ap (λ (x : PlainFile). x.text) (file-dirt d h.files f)))
    (if_alike d (is_empty s || nat_lt max_runes (length (file_at h.files f).text + length s)) _ _ _ _ (alike d h (with_dirt d h) (Hunlockfile f ∷ []) refl)
    (record {
      host = ap (λ (fs : PlainFiles). record h { files = fs }) (edit-there d h.files f (λ (x : PlainFile). pasted_file f x p s) there (λ b x. refl) (λ x. refl));
      frames = fewer-append d _ _ _ _ (fewer-append d _ _ _ _ (fewer-is d _ _ (grown-dirt d h.files f p s)) (dirty-dirt d h.files f)) (fewer-same d (Hsetdot f p (p + length s) ∷ Hcheck f ∷ Hunlockfile f ∷ []));
    }))
  where
    s : List ℕ
    s = h.files.snarf

    pasted : Reply
    pasted = (with_file (with_dirt d h) f (pasted_file f (file_at (dirty_files d h.files) f) p s), told_paste (dirty_files d h.files) f p s)

-- ## A file that is written is marked no more

same-dirt : (d e : ℕ → Bool) (ss : Slots PlainFile) → ((f : ℕ) → d f ≡ e f) → dirty_slots d ss ≡ dirty_slots e ss
same-dirt d e [] same = refl
same-dirt d e (s ∷ ss) same = λ i. option_map (dirtied (same 0 i)) s ∷ same-dirt (λ f. d (suc f)) (λ f. e (suc f)) ss (λ f. same (suc f)) i

pub apart-first : (g : ℕ) → (suc g == 0) ≡ false
apart-first g = grind arith

pub first-apart : (g : ℕ) → (0 == suc g) ≡ false
first-apart g = grind arith

pub apart-more : (g f : ℕ) → (g == f) ≡ false → (suc g == suc f) ≡ false
apart-more g f e = grind (arith, e)

put-written : (d e : ℕ → Bool) (ss : Slots PlainFile) (f : ℕ) (x : PlainFile) → e f ≡ false → ((g : ℕ) → (g == f) ≡ false → d g ≡ e g) → put_slot (dirty_slots d ss) f x ≡ dirty_slots e (put_slot ss f x)
put-written d e [] zero x none same = ap (λ (y : PlainFile). Some y ∷ []) (sym (clean-same (e 0) x none))
put-written d e [] (suc f) x none same =
    ap (λ (rest : Slots PlainFile). None ∷ rest) (put-written (λ g. d (suc g)) (λ g. e (suc g)) [] f x none (λ g q. same (suc g) (apart-more g f q)))
put-written d e (s ∷ ss) zero x none same =
    λ i. Some (sym (clean-same (e 0) x none) i) ∷ same-dirt (λ g. d (suc g)) (λ g. e (suc g)) ss (λ g. same (suc g) (apart-first g)) i
put-written d e (s ∷ ss) (suc f) x none same =
    λ i. option_map (dirtied (same 0 (first-apart f) i)) s ∷ put-written (λ g. d (suc g)) (λ g. e (suc g)) ss f x none (λ g q. same (suc g) (apart-more g f q)) i

-- and of a file that is closed nothing is left
free-closed : (d e : ℕ → Bool) (ss : Slots PlainFile) (f : ℕ) → ((g : ℕ) → (g == f) ≡ false → d g ≡ e g) → free_slot (dirty_slots d ss) f ≡ dirty_slots e (free_slot ss f)
free-closed d e [] f same = refl
free-closed d e (s ∷ ss) zero same = ap (λ (rest : Slots PlainFile). None ∷ rest) (same-dirt (λ g. d (suc g)) (λ g. e (suc g)) ss (λ g. same (suc g) (apart-first g)))
free-closed d e (s ∷ ss) (suc f) same =
    λ i. option_map (dirtied (same 0 (first-apart f) i)) s ∷ free-closed (λ g. d (suc g)) (λ g. e (suc g)) ss f (λ g q. same (suc g) (apart-more g f q)) i

-- the file is marked no more
abbrev pub without : (ℕ → Bool) → ℕ → ℕ → Bool
without d f g = d g && not (g == f)

without-it : (d : ℕ → Bool) (f : ℕ) → without d f f ≡ false
without-it d f = by (d f) (f == f) (eq-eqb f f refl)
  where
    by : (a b : Bool) → b ≡ true → (a && not b) ≡ false
    by true b q = ap not q
    by false b q = refl

without-others : (d : ℕ → Bool) (f g : ℕ) → (g == f) ≡ false → d g ≡ without d f g
without-others d f g q = sym (keeps (d g) (g == f) q)
  where
    keeps : (a b : Bool) → b ≡ false → (a && not b) ≡ a
    keeps true b q = ap not q
    keeps false b q = refl

-- ## Each reply

-- the files that are marked once a host that goes on has taken the message: it writes one, or closes it
abbrev pub marks_after : Tmesg → (ℕ → Bool) → ℕ → Bool
marks_after (Twrite f) d = without d f
marks_after (Tclose f) d = without d f
marks_after m d = d

pub marks-fewer : (m : Tmesg) (d : ℕ → Bool) (f : ℕ) → marks_after m d f ≡ true → d f ≡ true
marks-fewer (Twrite g) d f e = (and_parts (d f) (not (f == g)) e).0
marks-fewer (Tclose g) d f e = (and_parts (d f) (not (f == g)) e).0
marks-fewer m d f e = e

write-dirt : (d : ℕ → Bool) (h : PlainHost) (f : ℕ) → Alike (without d f) (reply_write h f) (reply_write (with_dirt d h) f)
unfolding reply_write
write-dirt d h f =
    alike (without d f) (with_file h f (written_file (file_at h.files f))) (with_file (with_dirt d h) f (written_file (file_at (dirty_files d h.files) f))) (Hclean f ∷ Hunlockfile f ∷ [])
    (ap (λ (x : PlainFile). with_file (with_dirt d h) f (written_file x)) (file-dirt d h.files f)
    ∙ ap (λ (ss : Slots PlainFile). record h { files = record h.files { slots = ss } })
    (put-written d (without d f) h.files.slots f (written_file (file_at h.files f)) (without-it d f) (without-others d f)))

new-dirt : (d : ℕ → Bool) (h : PlainHost) → IsDirt d h.files.slots → Alike d (reply_startnewfile h) (reply_startnewfile (with_dirt d h))
unfolding reply_startnewfile
new-dirt d h z = subst (λ (n : ℕ). Alike d (made h f) (made (with_dirt d h) n)) (sym (length-dirt d h.files.slots)) (if_alike d (nat_le all_tags f) _ _ _ _ full new)
  where
    f : ℕ
    f = length h.files.slots

    made : PlainHost → ℕ → Reply
    made k n =
        if nat_le all_tags n then (with_files k (after_print k.files no_tag_left), printed k.files no_tag_left ++ Hunlock ∷ [])
        else (with_files k (record (put_file k.files n new_file) { work = Some n }), Hnewname n ∷ Hbindname n ∷ Hcurrent n ∷ Hunlock ∷ [])

    full : Alike d (with_files h (after_print h.files no_tag_left), printed h.files no_tag_left ++ Hunlock ∷ [])
        (with_files (with_dirt d h) (after_print (dirty_files d h.files) no_tag_left), printed (dirty_files d h.files) no_tag_left ++ Hunlock ∷ [])
    full = record {
      host = ap (λ (fs : PlainFiles). record h { files = fs }) (print-dirt d h.files no_tag_left z.command);
      frames = fewer-append d _ _ _ _ (fewer-is d _ _ (printed-dirt d h.files no_tag_left z.command)) (fewer-same d (Hunlock ∷ []));
    }

    new : Alike d (with_files h (record (put_file h.files f new_file) { work = Some f }), Hnewname f ∷ Hbindname f ∷ Hcurrent f ∷ Hunlock ∷ [])
        (with_files (with_dirt d h) (record (put_file (dirty_files d h.files) f new_file) { work = Some f }), Hnewname f ∷ Hbindname f ∷ Hcurrent f ∷ Hunlock ∷ [])
    new = alike d _ _ _ (ap (λ (fs : PlainFiles). record h { files = record fs { work = Some f } }) (put-clean d h.files f new_file (z.past f (omega arith))))

command-dirt : (d : ℕ → Bool) (h : PlainHost) → d 0 ≡ false → Alike d (reply_startcmdfile h) (reply_startcmdfile (with_dirt d h))
unfolding reply_startcmdfile
command-dirt d h z =
    subst (λ (x : PlainFile). Alike d (started h file) (started (with_dirt d h) x)) (sym (file-clean d h.files 0 z))
    (if_alike d file.opened _ _ _ _ (alike d h (with_dirt d h) (Hunlock ∷ []) refl) (alike d _ _ _ (ap (λ (fs : PlainFiles). record h { files = fs }) (put-clean d h.files 0 (opened_file file) z))))
  where
    file : PlainFile
    file = file_at h.files 0

    started : PlainHost → PlainFile → Reply
    started k x = if x.opened then (k, Hunlock ∷ []) else (with_file k 0 (opened_file x), Hnewname 0 ∷ Hmovname 0 command_name ∷ Hbindname 0 ∷ told_length 0 x ++ Hunlock ∷ [])

open-dirt : (d : ℕ → Bool) (h : PlainHost) (f : ℕ) → has_file h.files f ≡ true → Alike d (reply_startfile h f) (reply_startfile (with_dirt d h) f)
unfolding reply_startfile told_length
open-dirt d h f there = record {
  host = ap (λ (fs : PlainFiles). record h { files = record fs { work = Some f } }) (put-there d h.files f opened_file there (λ b x. refl));
  frames = fewer-is d _ _ (ap (λ (x : PlainFile). when (not x.opened) (Hbindname f ∷ told_length f x) ++ Hunlock ∷ []) (file-dirt d h.files f));
}

version-dirt : (d : ℕ → Bool) (h : PlainHost) (v : ℕ) → Alike d (reply_version h v) (reply_version (with_dirt d h) v)
unfolding reply_version
version-dirt d h v = record {
  host = ap (λ (ss : Slots PlainFile). record h { version = common_version v; files = record h.files { slots = ss } }) (announce-dirt d h.files.slots);
  frames = fewer-is d _ _ (ap (λ (ms : List Hmesg). (Hversion (common_version v) ∷ ms) ++ Hack ∷ Hunlock ∷ []) (names-behind d h.files.slots));
}

there : (h : PlainHost) (f : ℕ) (more : Checks HostFault) → first_of_checks (unknown h f ∷ more) ≡ None → has_file h.files f ≡ true
there h f more e = by (has_file h.files f) e
  where
    by : (b : Bool) → first_of_checks ((not b, NoFile) ∷ more) ≡ None → b ≡ true
    by true e = refl
    by false e = absurd (cc)

pub reply-dirt : (d : ℕ → Bool) (h : PlainHost) (m : Tmesg) → IsDirt d h.files.slots → first_of_checks (host_checks h m) ≡ None → Alike (marks_after m d) (reply_to h m) (reply_to (with_dirt d h) m)
unfolding reply_check reply_request reply_origin reply_workfile reply_cut reply_snarf reply_close reply_search reply_dclick reply_startsnarf reply_setsnarf reply_exit
reply-dirt d h (Tversion v) z e = version-dirt d h v
reply-dirt d h Tstartcmdfile z e = command-dirt d h z.command
reply-dirt d h (Tcheck f) z e = alike d h (with_dirt d h) (Hcheck f ∷ []) refl
reply-dirt d h (Trequest f p n) z e =
    record { host = refl; frames = fewer-is d _ _ (λ i. requested (has-dirt d h.files f i) (ap (λ (x : PlainFile). x.text) (file-dirt d h.files f) i)) }
  where
    requested : Bool → List ℕ → List Hmesg
    requested b t =
        let a = min p (length t) in
        let c = min (p + min n most_in_message) (length t) in
        when b (Hdata f a (part t a c) ∷ Hunlockfile f ∷ [])
reply-dirt d h (Torigin f p n) z e =
    record { host = refl; frames = fewer-is d _ _ (ap (λ (x : PlainFile). Horigin f (lines_before x.text p n) ∷ Hunlockfile f ∷ []) (file-dirt d h.files f)) }
reply-dirt d h (Tstartfile f) z e = open-dirt d h f (there h f (is_command f ∷ []) e)
reply-dirt d h (Tworkfile f p q) z e =
    alike d _ _ (Hcurrent f ∷ []) (ap (λ (fs : PlainFiles). record h { files = record fs { work = Some f } })
    (put-there d h.files f (λ (x : PlainFile). record x { dot = (p, q) }) (there h f (is_command f ∷ not_opened h f ∷ no_range h f p q ∷ []) e) (λ b x. refl)))
reply-dirt d h (Ttype f p s) z e = type-dirt d h f p s z.command (there h f (not_opened h f ∷ past_end h f p ∷ no_room h f s ∷ []) e)
reply-dirt d h (Tcut f p q) z e =
    alike d _ _ [] (ap (λ (fs : PlainFiles). record h { files = fs })
    (edit-there d h.files f (λ (x : PlainFile). cut_file f x p q) (there h f (not_opened h f ∷ no_range h f p q ∷ []) e) (λ b x. refl) (λ x. refl)))
reply-dirt d h (Tpaste f p) z e = paste-dirt d h f p (there h f (not_opened h f ∷ past_end h f p ∷ []) e)
reply-dirt d h (Tsnarf f p q) z e =
    alike d _ _ (Hsnarflen (q - p) ∷ []) (ap (λ (x : PlainFile). with_files (with_dirt d h) (record (dirty_files d h.files) { snarf = part x.text p q })) (file-dirt d h.files f))
reply-dirt d h Tstartnewfile z e = new-dirt d h z
reply-dirt d h (Twrite f) z e = write-dirt d h f
reply-dirt d h (Tclose f) z e =
    alike (without d f) _ _ (Hclose f ∷ Hdelname f ∷ Hunlock ∷ [])
    (ap (λ (ss : Slots PlainFile). record h { files = record (without_file h.files f) { slots = ss } }) (free-closed d (without d f) h.files.slots f (without-others d f)))
reply-dirt d h (Tlook f p q) z e = look-dirt d h f p q (there h f (not_opened h f ∷ no_range h f p q ∷ []) e)
reply-dirt d h (Tsearch f p q) z e =
    subst (λ (x : PlainFile). Alike d (reply_search h f p q) (reply_found (with_dirt d h) f (searched_for h.files.pattern x.text q) [])) (sym (file-dirt d h.files f))
    (found-dirt d h f (searched_for h.files.pattern (file_at h.files f).text q) [] (there h f (not_opened h f ∷ no_range h f p q ∷ []) e))
reply-dirt d h (Tsend f p q) z e = send-dirt d h f p q z.command
reply-dirt d h (Tdclick f p) z e =
    record {
      host = put-host d h f (λ (x : PlainFile). record x { dot = word_at x.text p }) (there h f (not_opened h f ∷ past_end h f p ∷ []) e) (λ b x. refl);
      frames = fewer-is d _ _ (ap (λ (x : PlainFile). let r = word_at x.text p in Hsetdot f r.0 r.1 ∷ Hunlockfile f ∷ []) (file-dirt d h.files f));
    }
reply-dirt d h Tstartsnarf z e = alike d h (with_dirt d h) _ refl
reply-dirt d h (Tsetsnarf s) z e = alike d _ _ (Hsnarflen (length s) ∷ []) refl
reply-dirt d h Tack z e = alike d h (with_dirt d h) [] refl
reply-dirt d h Texit z e = alike d _ _ (Hexit ∷ []) refl

-- the same stands against a message
pub checks-dirt : (d : ℕ → Bool) (h : PlainHost) (m : Tmesg) → host_checks (with_dirt d h) m ≡ host_checks h m
checks-dirt d h (Tversion v) = refl
checks-dirt d h Tstartcmdfile = refl
checks-dirt d h (Trequest f p n) = rw (length-dirt d h.files.slots, has-dirt d h.files f, file-dirt d h.files f) refl
checks-dirt d h (Tcheck f) = rw (has-dirt d h.files f, file-dirt d h.files f) refl
checks-dirt d h (Torigin f p n) = rw (has-dirt d h.files f, file-dirt d h.files f) refl
checks-dirt d h (Tstartfile f) = rw (has-dirt d h.files f) refl
checks-dirt d h (Tworkfile f p q) = rw (has-dirt d h.files f, file-dirt d h.files f) refl
checks-dirt d h (Ttype f p s) = rw (has-dirt d h.files f, file-dirt d h.files f) refl
checks-dirt d h (Tcut f p q) = rw (has-dirt d h.files f, file-dirt d h.files f) refl
checks-dirt d h (Tpaste f p) = rw (has-dirt d h.files f, file-dirt d h.files f) refl
checks-dirt d h (Tsnarf f p q) = rw (has-dirt d h.files f, file-dirt d h.files f) refl
checks-dirt d h Tstartnewfile = refl
checks-dirt d h (Twrite f) = rw (has-dirt d h.files f, file-dirt d h.files f) refl
checks-dirt d h (Tclose f) = rw (has-dirt d h.files f, file-dirt d h.files f) refl
checks-dirt d h (Tlook f p q) = rw (has-dirt d h.files f, file-dirt d h.files f) refl
checks-dirt d h (Tsearch f p q) = rw (has-dirt d h.files f, file-dirt d h.files f) refl
checks-dirt d h (Tsend f p q) = rw (has-dirt d h.files f, file-dirt d h.files f) refl
checks-dirt d h (Tdclick f p) = rw (has-dirt d h.files f, file-dirt d h.files f) refl
checks-dirt d h Tstartsnarf = refl
checks-dirt d h (Tsetsnarf s) = refl
checks-dirt d h Tack = refl
checks-dirt d h Texit = refl

-- Files that are opened or made, and names that are told.
use Rattle.sam_crossing.proofs.Common.{◌≡◌, ℕ, zero, suc, ◌+◌, Bool, true, false, not, ◌==◌, if◌then◌else◌, List, [], ◌∷◌, ◌++◌, length, drop, Option, Some, None, unwrap_or, refl, sym, ap, ◌∙◌, arith, not-false, nat_le, option_map, Slots, slot, put_slot, slot-map, is_empty, PlainFile, PlainFiles, blank_file, file_at, after_print, put_file, announce_all, announced_file, command_name, new_file, common_version, no_tag_left, Tversion, Tstartcmdfile, Tstartfile, Tstartnewfile, Hmesg, Hversion, Hbindname, Hcurrent, Hnewname, Hmovname, Hgrow, Hunlock, Hack, PlainHost, Reply, with_file, with_files, reply_version, reply_startcmdfile, reply_startfile, reply_startnewfile, told_length, told_names, printed, when, KnownFile, Window, PlainTerminal, known_at, is_known, is_open, put_known, blank_known, blank_window, effect, took_bindname, took_grow, window_after_ins, replicate, InOrder}
use Rattle.sam_runes.specs.Texts.{agreed, all_tags}
use Rattle.sam_text.specs.Files.{opened_file}
use Rattle.sam_host.specs.Host.{told_at}
use Rattle.sam_term.specs.declared.event.UserEvent.TheVariants.{Open, OpenCmd, New, Version}
use Rattle.sam_crossing.proofs.Passing.{passed}
use Rattle.sam_local.specs.Local.{PlainEditor, whole_slots, at_rest, all_taken, carried}
use Rattle.sam_local.specs.Editing.{May, with_host_file, with_known, with_window, with_names, with_printed, OpenOpens, CommandFileOpens, NewMakes, VersionAgrees}
use Rattle.sam_local.proofs.Sights.{sight, put-again, turned}
use Rattle.sam_local.proofs.Frames.{in_window, taken-append, together}
use Rattle.sam_local.proofs.Uncounted.{rest}
use Rattle.sam_local.proofs.Editors.{after-one, opened-same}
use Rattle.sam_local.proofs.Whole.{same-but, same-text, whole-put, SameBut, whole-again, kept-file, kept-all, back}
use Rattle.sam_local.proofs.Seen.{Seen, seen-alike, seen-effect, in_it}
use Rattle.sam_local.proofs.Lines.{prints-here}
use Rattle.sam_local.proofs.Editing.{reached}

-- ## New windows

-- the frames of a window that is new, on a text of any length
abbrev window_frames : ℕ → PlainFile → List Hmesg
window_frames f file = Hbindname f ∷ told_length f file ++ Hunlock ∷ []

seen-window : (z : PlainTerminal) (f : ℕ) (x : PlainTerminal) (known : KnownFile) (file : PlainFile) → Seen z f x known
    → sight (all_taken x (window_frames f file)) ≡ sight (put_known z f (in_it known blank_window))
unfolding took_bindname told_length when took_grow
seen-window z f x known file s = by (not (is_empty file.text))
  where
    first : Seen z f (effect x (Hbindname f)) (in_it known blank_window)
    first = seen-effect z f x known (Hbindname f) (λ known. in_it known blank_window) s refl

    y : Window → Window
    y w = window_after_ins w 0 (replicate (length file.text) None)

    grew : Seen z f (effect (effect x (Hbindname f)) (Hgrow f 0 (length file.text))) (in_it known (y blank_window))
    grew = seen-effect z f (effect x (Hbindname f)) (in_it known blank_window) (Hgrow f 0 (length file.text)) (in_window y) first refl

    by : (b : Bool) → sight (all_taken x (Hbindname f ∷ (if b then Hgrow f 0 (length file.text) ∷ [] else []) ++ Hunlock ∷ [])) ≡ sight (put_known z f (in_it known blank_window))
    by true = seen-alike z f (effect (effect x (Hbindname f)) (Hgrow f 0 (length file.text))) (in_it known (y blank_window)) (in_it known blank_window) grew refl
    by false = first

-- what is known, put in again
known-again : (t : PlainTerminal) (f : ℕ) → is_known t f ≡ true → sight (put_known t f (known_at t f)) ≡ sight t
known-again t f e = ap (λ (ss : Slots KnownFile). sight (record t { files = ss })) (put-again t.files f (known_at t f) (known-is t f e))
  where
    known-is : (t : PlainTerminal) (f : ℕ) → is_known t f ≡ true → slot t.files f ≡ Some (known_at t f)
    known-is t f e = grind (arith, e)

not-known : (t : PlainTerminal) (f : ℕ) → not (is_known t f) ≡ false → is_known t f ≡ true
not-known t f e = not-false (is_known t f) e

module _ (h : PlainHost) (t : PlainTerminal) (o : InOrder (rest h) (at_rest h t).term [] []) where
  abbrev editor : PlainEditor
  editor = at_rest h t

  abbrev term : PlainTerminal
  term = (at_rest h t).term

  -- the window of a file is new, at a host with this one
  opens-new : (k : PlainHost) (f : ℕ) (known : KnownFile) (x : PlainTerminal) (file : PlainFile) → Seen term f x known → SameBut f h.files k.files
      → at_rest k (all_taken x (window_frames f file)) ≡ with_known (record editor { host = rest k }) f (in_it known blank_window)
  opens-new k f known x file s same = kept-file h t k (all_taken x (window_frames f file)) term refl f (in_it known blank_window) same (seen-window term f x known file s)

  opens : (f : ℕ) → May editor (Open f) → let fs = h.files in
      let after = record editor { host = with_files editor.host (record (put_file fs f (opened_file (file_at fs f))) { work = Some f }) } in
      carried editor (Open f) ≡ (if is_open term f then after else with_window after f blank_window)
  unfolding reply_startfile when
  opens f may =
      after-one h t o (Open f) (Tstartfile f) may refl ∙ by (file_at h.files f).opened ∙ ap (λ (b : Bool). if b then after else with_window after f blank_window) (sym (opened-same h t o f))
    where
      file : PlainFile
      file = file_at h.files f

      k : PlainHost
      k = with_files (rest h) (record (put_file h.files f (opened_file file)) { work = Some f })

      after : PlainEditor
      after = record editor { host = k }

      known : KnownFile
      known = known_at term f

      -- a file that is not open, but known
      first : Seen term f term known
      first = sym (known-again term f (not-known term f (passed term (Open f) may).known))

      by : (b : Bool) → at_rest k (all_taken term ((if not b then Hbindname f ∷ told_length f file else []) ++ Hunlock ∷ [])) ≡ (if b then after else with_window after f blank_window)
      by true = kept-all h t k (effect term Hunlock) term refl (same-text h.files f (opened_file file) refl) refl
      by false = opens-new k f known term file first (same-but h.files f (opened_file file))

  command-opens : May editor OpenCmd
      → carried editor OpenCmd
      ≡ (if is_open term 0 then editor else with_known (with_host_file editor 0 (opened_file (file_at h.files 0))) 0 (record blank_known { name = command_name; window = Some blank_window }))
  unfolding reply_startcmdfile
  command-opens may =
      after-one h t o OpenCmd Tstartcmdfile may refl ∙ by (file_at h.files 0).opened ∙ ap (λ (b : Bool). if b then editor else after) (sym (opened-same h t o 0))
    where
      file : PlainFile
      file = file_at h.files 0

      k : PlainHost
      k = with_file (rest h) 0 (opened_file file)

      named : KnownFile
      named = record blank_known { name = command_name }

      after : PlainEditor
      after = with_known (with_host_file editor 0 (opened_file file)) 0 (record blank_known { name = command_name; window = Some blank_window })

      x : PlainTerminal
      x = effect (effect term (Hnewname 0)) (Hmovname 0 command_name)

      first : Seen term 0 x named
      first = ap sight (together term 0 (λ known. blank_known) (λ known. record known { name = command_name }))

      reply : Bool → Reply
      reply b = if b then (rest h, Hunlock ∷ []) else (k, Hnewname 0 ∷ Hmovname 0 command_name ∷ Hbindname 0 ∷ told_length 0 file ++ Hunlock ∷ [])

      by : (b : Bool) → at_rest (reply b).0 (all_taken term (reply b).1) ≡ (if b then editor else after)
      by true = back h t (effect term Hunlock) refl
      by false = opens-new k 0 named x file first (same-but h.files 0 (opened_file file))

  makes : May editor New → let fs = h.files in
      let f = length fs.slots in
      let after = record editor { host = with_files editor.host (record (put_file fs f new_file) { work = Some f }); term = record term { current = Some f } } in
      carried editor New ≡ (if nat_le all_tags f then with_printed editor no_tag_left else with_known after f (record blank_known { window = Some blank_window }))
  unfolding reply_startnewfile took_bindname
  makes may = after-one h t o New Tstartnewfile may refl ∙ by (nat_le all_tags f)
    where
      f : ℕ
      f = length h.files.slots

      k : PlainHost
      k = with_files (rest h) (record (put_file h.files f new_file) { work = Some f })

      at : PlainTerminal
      at = record term { current = Some f }

      after : PlainEditor
      after = record { host = k; term = at }

      reply : Bool → Reply
      reply b =
          if b
          then (with_files (rest h) (after_print h.files no_tag_left), printed h.files no_tag_left ++ Hunlock ∷ [])
          else (k, Hnewname f ∷ Hbindname f ∷ Hcurrent f ∷ Hunlock ∷ [])

      known : KnownFile
      known = record blank_known { window = Some blank_window }

      seen : sight (turned (turned at f (λ known. blank_known)) f (λ known. in_it known blank_window)) ≡ sight (put_known at f known)
      seen = ap sight (together at f (λ known. blank_known) (λ known. in_it known blank_window))

      by : (b : Bool) → at_rest (reply b).0 (all_taken term (reply b).1) ≡ (if b then with_printed editor no_tag_left else with_known after f known)
      by true = ap (at_rest (reply true).0) (taken-append (printed h.files no_tag_left) (Hunlock ∷ []) term) ∙ prints-here h t o no_tag_left
      by false = kept-file h t k (all_taken term (reply false).1) at refl f known (same-but h.files f new_file) seen

-- ## Names

-- the names of files that were not announced come to the terminal
names-taken : (ss : Slots PlainFile) (f : ℕ) (x : PlainTerminal) → all_taken x (told_names f ss) ≡ record x { files = with_names f ss x.files }
unfolding told_names when
names-taken [] f x = refl
names-taken (None ∷ ss) f x = names-taken ss (1 + f) x
names-taken (Some file ∷ ss) f x =
    taken-append (told_at f (Some file)) (told_names (1 + f) ss) x ∙ ap (λ (u : PlainTerminal). all_taken u (told_names (1 + f) ss)) (by file.announced)
    ∙ names-taken ss (1 + f) (record x { files = if file.announced then x.files else put_slot x.files f (record blank_known { name = file.name }) })
  where
    by : (b : Bool) → all_taken x (if not b then Hnewname f ∷ Hmovname f file.name ∷ [] else []) ≡ record x { files = if b then x.files else put_slot x.files f (record blank_known { name = file.name }) }
    by true = refl
    by false = together x f (λ known. blank_known) (λ known. record known { name = file.name })

-- a terminal at rest that hears of them is at rest
whole-names : (fs gs : PlainFiles) (ss : Slots PlainFile) (f : ℕ) (files : Slots KnownFile) → ((g : ℕ) → (file_at gs g).text ≡ (file_at fs g).text)
    → whole_slots gs 0 (with_names f ss (whole_slots fs 0 files)) ≡ with_names f ss (whole_slots fs 0 files)
whole-names fs gs [] f files same = whole-again fs gs 0 files (λ g l. same g)
whole-names fs gs (None ∷ ss) f files same = whole-names fs gs ss (1 + f) files same
whole-names fs gs (Some file ∷ ss) f files same = by (λ l. whole-names fs gs ss (1 + f) l same) file.announced
  where
    known : KnownFile
    known = record blank_known { name = file.name }

    -- a file that is not open is whole
    put : put_slot (whole_slots fs 0 files) f known ≡ whole_slots fs 0 (put_slot (whole_slots fs 0 files) f known)
    put = sym (whole-put fs fs files 0 f f known (omega arith) (λ g e. refl))

    by : ((l : Slots KnownFile) → whole_slots gs 0 (with_names (1 + f) ss (whole_slots fs 0 l)) ≡ with_names (1 + f) ss (whole_slots fs 0 l)) → (b : Bool)
        → whole_slots gs 0 (with_names (1 + f) ss (if b then whole_slots fs 0 files else put_slot (whole_slots fs 0 files) f known))
        ≡ with_names (1 + f) ss (if b then whole_slots fs 0 files else put_slot (whole_slots fs 0 files) f known)
    by later true = later files
    by later false =
        ap (λ (l : Slots KnownFile). whole_slots gs 0 (with_names (1 + f) ss l)) put ∙ later (put_slot (whole_slots fs 0 files) f known)
        ∙ ap (with_names (1 + f) ss) (sym put)

announced-text : (s : Option PlainFile) → (unwrap_or (option_map announced_file s) blank_file).text ≡ (unwrap_or s blank_file).text
announced-text None = refl
announced-text (Some file) = refl

announce-text : (ss : Slots PlainFile) (f : ℕ) → (unwrap_or (slot (announce_all ss) f) blank_file).text ≡ (unwrap_or (slot ss f) blank_file).text
announce-text [] f = refl
announce-text (s ∷ ss) zero = refl
announce-text (s ∷ ss) (suc f) = ap (λ (s : Option PlainFile). (unwrap_or s blank_file).text) (slot-map announced_file ss f) ∙ announced-text (slot ss f)

version-agreed : (v n : ℕ) → (v == 0) ≡ false → agreed n (common_version v) ≡ common_version v
version-agreed v n e = grind (arith, e)

module _ (h : PlainHost) (t : PlainTerminal) (o : InOrder (rest h) (at_rest h t).term [] []) where
  abbrev shown : PlainTerminal
  shown = (at_rest h t).term

  agrees : (v : ℕ) → May (at_rest h t) (Version v) → let slots = h.files.slots in
      carried (at_rest h t) (Version v)
      ≡ record (at_rest h t) {
        host = record (rest h) { version = common_version v; files = record h.files { slots = announce_all slots } };
        term = record shown { version = common_version v; files = with_names 1 (drop 1 slots) shown.files };
      }
  unfolding reply_version
  agrees v may =
      after-one h t o (Version v) (Tversion v) may refl
      ∙ ap (at_rest k) (taken-append names (Hack ∷ Hunlock ∷ []) x ∙ ap (λ (u : PlainTerminal). effect (effect u Hack) Hunlock) (names-taken slots 1 x))
      ∙ (λ i. record { host = k; term = record shown { version = version-agreed v shown.version (passed shown (Version v) may).version i; files = whole i } })
    where
      slots : Slots PlainFile
      slots = drop 1 h.files.slots

      k : PlainHost
      k = record (rest h) { version = common_version v; files = record h.files { slots = announce_all h.files.slots } }

      x : PlainTerminal
      x = effect shown (Hversion (common_version v))

      names : List Hmesg
      names = told_names 1 slots

      whole : whole_slots k.files 0 (with_names 1 slots shown.files) ≡ with_names 1 slots shown.files
      whole = whole-names h.files k.files slots 1 t.files (announce-text h.files.slots)

-- ## The laws

pub open_opens : OpenOpens
open_opens editor f r =
    reached
    (λ x. May x (Open f) → let fs = x.host.files in
    let after = record x { host = with_files x.host (record (put_file fs f (opened_file (file_at fs f))) { work = Some f }) } in
    carried x (Open f) ≡ (if is_open x.term f then after else with_window after f blank_window))
    (λ h t o. opens h t o f) editor r

pub command_file_opens : CommandFileOpens
command_file_opens editor r =
    reached
    (λ x. May x OpenCmd
    → carried x OpenCmd
    ≡ (if is_open x.term 0 then x else with_known (with_host_file x 0 (opened_file (file_at x.host.files 0))) 0 (record blank_known { name = command_name; window = Some blank_window })))
    command-opens editor r

pub new_makes : NewMakes
new_makes editor r =
    reached
    (λ x. May x New → let fs = x.host.files in
    let f = length fs.slots in
    let after = record x { host = with_files x.host (record (put_file fs f new_file) { work = Some f }); term = record x.term { current = Some f } } in
    carried x New ≡ (if nat_le all_tags f then with_printed x no_tag_left else with_known after f (record blank_known { window = Some blank_window })))
    makes editor r

pub version_agrees : VersionAgrees
version_agrees editor v r =
    reached
    (λ x. May x (Version v) → let slots = x.host.files.slots in
    carried x (Version v)
    ≡ record x {
      host = record x.host { version = common_version v; files = record x.host.files { slots = announce_all slots } };
      term = record x.term { version = common_version v; files = with_names 1 (drop 1 slots) x.term.files };
    })
    (λ h t o. agrees h t o v) editor r

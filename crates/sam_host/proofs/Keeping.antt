-- What the answers do to the files, kind by kind. So what each of these changes keeps, each answer keeps.
use Rattle.sam_host.proofs.Common.{◌≡◌, ℕ, ◌+◌, ◌≤◌, List, [], ◌∷◌, length, Bool, true, false, not, ◌&&◌, ◌||◌, ◌==◌, cond, Option, Some, None, refl, arith, IfSome, ◌-◌, ltb-false, Range, max_runes, last_line, as_lines, part, ends_line, first_of_checks, none_holds, InRange, searched_within, word_at_within, PlainFiles, file_at, put_file, typed_file, cut_file, pasted_file, opened_file, written_file, announce_all, with_work, without_file, has_room, after_print, committed, meaning, Tmesg, Tversion, Tstartcmdfile, Tstartfile, Tworkfile, Ttype, Tcut, Tpaste, Tsnarf, Tstartnewfile, Twrite, Tclose, Tlook, Tsearch, Tsend, Tdclick, Tsetsnarf, Hmesg, PlainHost, Reply, printed, host_checks, unknown, not_opened, past_end, no_range, no_room, with_file, with_files, reply_found, searched_for, reply_line, line_to, reply_to}
use Rattle.std.proofs.lemmas.Bool.{not-false}
use Rattle.sam_text.specs.Files.{new_file}
use Rattle.sam_host.proofs.EachFrame.{replies_opened}

-- each change that an answer makes to the files keeps P, where places and ranges are in their text and there is room
pub record IsKept (P : PlainFiles → Type 0) : Type 0 where
  pub announced : (fs : PlainFiles) → P fs → P (record fs { slots = announce_all fs.slots })
  pub shown : (fs : PlainFiles) → P fs → P (put_file fs 0 (opened_file (file_at fs 0)))
  pub selected : (fs : PlainFiles) (f p q : ℕ) → (file_at fs f).opened ≡ true → InRange (length (file_at fs f).text) (p, q) → P fs → P (with_work fs f p q)
  pub typed : (fs : PlainFiles) (f p : ℕ) (s : List ℕ) → p ≤ length (file_at fs f).text → length (file_at fs f).text + length s ≤ max_runes
      → P fs → P (put_file fs f (typed_file f (file_at fs f) p s))
  pub cut : (fs : PlainFiles) (f p q : ℕ) → InRange (length (file_at fs f).text) (p, q) → P fs → P (put_file fs f (cut_file f (file_at fs f) p q))
  pub pasted : (fs : PlainFiles) (f p : ℕ) (s : List ℕ) → p ≤ length (file_at fs f).text → length (file_at fs f).text + length s ≤ max_runes
      → P fs → P (put_file fs f (pasted_file f (file_at fs f) p s))
  pub snarfed : (fs : PlainFiles) (s : List ℕ) → P fs → P (record fs { snarf = s })
  pub created : (fs : PlainFiles) → P fs → P (record (put_file fs (length fs.slots) new_file) { work = Some (length fs.slots) })
  pub written : (fs : PlainFiles) (f : ℕ) → P fs → P (put_file fs f (written_file (file_at fs f)))
  pub closed : (fs : PlainFiles) (f : ℕ) → P fs → P (without_file fs f)
  pub marked : (fs : PlainFiles) (f : ℕ) (d : Range) → InRange (length (file_at fs f).text) d → P fs → P (put_file fs f (record (file_at fs f) { dot = d }))
  pub sought : (fs : PlainFiles) (lit : List ℕ) → P fs → P (record fs { pattern = Some lit })
  pub printed : (fs : PlainFiles) (s : List ℕ) → P fs → P (after_print fs s)
  pub run : (fs : PlainFiles) (line : List ℕ) → P fs → P (committed fs (meaning fs line))

-- ## What the checks leave

-- neither of two tests holds
neither : (a b : Bool) → (a || b) ≡ false → (a ≡ false) × (b ≡ false)
neither a b e = grind arith

range_allowed : (h : PlainHost) (f p q : ℕ) → first_of_checks (unknown h f ∷ not_opened h f ∷ no_range h f p q ∷ []) ≡ None → InRange (length (file_at h.files f).text) (p, q)
range_allowed h f p q e = grind arith

searched_for_within : (pattern : Option (List ℕ)) (t : List ℕ) (q : ℕ) → q ≤ length t → IfSome (searched_for pattern t q) (InRange (length t))
searched_for_within pattern t q e = grind (arith, searched_within)

-- ## Parts that several answers share

keeps-if : (P : PlainFiles → Type 0) (b : Bool) (x y : Reply) → (b ≡ true → P x.0.files) → (b ≡ false → P y.0.files) → P (cond b x y).0.files
keeps-if P b x y e u = grind arith

keeps-found : (P : PlainFiles → Type 0) → IsKept P → (h : PlainHost) (f : ℕ) (d : Option Range) (frames : List Hmesg)
    → IfSome d (InRange (length (file_at h.files f).text)) → P h.files → P (reply_found h f d frames).0.files
keeps-found P k h f None frames within all = all
keeps-found P k h f (Some d) frames within all = k.marked h.files f d within all

keeps-line : (P : PlainFiles → Type 0) → IsKept P → (h : PlainHost) (before : List Hmesg) (line : List ℕ) → P h.files → P (reply_line h before line).0.files
keeps-line P k h before line all =
    let o = meaning h.files line in
    k.printed (committed h.files o) o.printed (k.run h.files line all)

-- ## The whole

-- what each change keeps, each answer keeps. The host opens any file that it has, so the caller says what holds once this one is open
pub reply_keeps : (P : PlainFiles → Type 0) → IsKept P → (h : PlainHost) (m : Tmesg) → first_of_checks (host_checks h m) ≡ None
    → ((f : ℕ) → m ≡ Tstartfile f → P (record (put_file h.files f (opened_file (file_at h.files f))) { work = Some f }))
    → P h.files → P (reply_to h m).0.files
unfolding replies_opened
reply_keeps P k h (Tversion v) e started all = k.announced h.files all
reply_keeps P k h Tstartcmdfile e started all = grind (arith, keeps-if)
reply_keeps P k h (Tstartfile f) e started all = started f refl
reply_keeps P k h (Tworkfile f p q) e started all = grind (arith, none_holds, not-false)
reply_keeps P k h (Ttype f p s) e started all =
    let a = none_holds (unknown h f) (not_opened h f ∷ past_end h f p ∷ no_room h f s ∷ []) e in
    let b = none_holds (not_opened h f) (past_end h f p ∷ no_room h f s ∷ []) a.1 in
    let c = none_holds (past_end h f p) (no_room h f s ∷ []) b.1 in
    let d = none_holds (no_room h f s) [] c.1 in
    let typed = with_file h f (typed_file f (file_at h.files f) p s) in
    let there = k.typed h.files f p s (ltb-false (length (file_at h.files f).text) p c.0) (ltb-false max_runes _ d.0) all in
    let line = line_to (file_at typed.files f).text (p + length s - 1) in
    keeps-if P ((f == 0) && ends_line s) (reply_line typed [] line) (typed, []) (λ b. keeps-line P k typed [] line there) (λ b. there)
reply_keeps P k h (Tcut f p q) e started all = k.cut h.files f p q (range_allowed h f p q e) all
reply_keeps P k h (Tpaste f p) e started all = grind (arith, keeps-if, ltb-false, neither)
reply_keeps P k h (Tsnarf f p q) e started all = k.snarfed h.files (part (file_at h.files f).text p q) all
reply_keeps P k h Tstartnewfile e started all = grind (arith, keeps-if)
reply_keeps P k h (Twrite f) e started all = k.written h.files f all
reply_keeps P k h (Tclose f) e started all = k.closed h.files f all
reply_keeps P k h (Tlook f p q) e started all = grind (arith, keeps-if, keeps-found, searched_within, range_allowed)
reply_keeps P k h (Tsearch f p q) e started all = grind (arith, keeps-found, searched_for_within, range_allowed)
reply_keeps P k h (Tsend f p q) e started all =
    let s = as_lines (part (file_at h.files f).text p q) in
    let shown = with_files h (after_print h.files s) in
    keeps-if P ((p == q) || not (has_room h.files s)) (h, _) (reply_line shown (printed h.files s) (last_line s)) (λ b. all)
    (λ b. keeps-line P k shown (printed h.files s) (last_line s) (k.printed h.files s all))
reply_keeps P k h (Tdclick f p) e started all = grind (arith, word_at_within)
reply_keeps P k h (Tsetsnarf s) e started all = k.snarfed h.files s all
reply_keeps P k h _ e started all = all

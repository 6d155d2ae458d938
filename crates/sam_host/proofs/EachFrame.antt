-- Which frames the answers have, kind by kind, and which lock the last one frees. So what holds of each of these frames holds of each frame
-- of an answer.
use Rattle.sam_host.proofs.Common.{◌≡◌, ℕ, suc, ◌+◌, ◌-◌, ◌≤◌, List, [], ◌∷◌, ◌++◌, length, Bool, true, false, not, cond, Option, Some, None, refl, sym, subst, append_assoc, if◌then◌else◌, arith, ◌&&◌, ◌||◌, ◌==◌, min, nat_lt, nat_le, IfSome, flat_map, reverse, drop, unwrap_or, Edit, Range, part, is_empty, max_runes, most_in_message, most_in_pattern, searched, all_tags, ends_line, as_lines, last_line, most_in_name, Slots, slot, PlainFile, PlainFiles, PlainOutcome, blank_file, file_at, has_file, has_room, after_print, typed_file, IsPattern, may_look, work_file, HasShortParts, line_short, Tmesg, Tversion, Tstartcmdfile, Tcheck, Trequest, Torigin, Tstartfile, Tworkfile, Ttype, Tcut, Tpaste, Tsnarf, Tstartnewfile, Twrite, Tclose, Tlook, Tsearch, Tsend, Tdclick, Tstartsnarf, Tsetsnarf, Tack, Texit, Hmesg, Hversion, Hsetsnarf, Hbindname, Hcurrent, Hnewname, Hmovname, Hcheck, Hunlock, Hdata, Horigin, Hunlockfile, Hsetdot, Hgrowdata, Hmoveto, Hclean, Hdirty, Hsetpat, Hdelname, Hclose, Hsnarflen, Hack, Hexit, PlainHost, Reply, when, when_given, grown, told_dirty, told_length, printed, told_edit, told_outcome, told_names, command_name, no_tag_left, with_file, with_files, reply_found, searched_for, reply_line, reply_to, reply_version, reply_startcmdfile, reply_check, reply_request, reply_origin, reply_startfile, reply_workfile, reply_type, reply_cut, reply_paste, reply_snarf, reply_startnewfile, reply_write, reply_close, reply_look, reply_search, reply_send, reply_dclick, reply_startsnarf, reply_setsnarf, reply_exit}
use Rattle.sam_host.proofs.FileLaws.{part_length}

-- opens the answers to messages about a text
unfoldable pub text_replies_opened : ℕ
unfolding reply_check reply_request reply_origin reply_type reply_cut reply_paste reply_snarf reply_look reply_search reply_dclick reply_send
text_replies_opened = 0

-- opens the answer to each kind of message
unfoldable pub replies_opened : ℕ
unfolding text_replies_opened reply_version reply_startcmdfile reply_startfile reply_workfile reply_startnewfile reply_write reply_close reply_startsnarf reply_setsnarf reply_exit
replies_opened = 0

abbrev pub EachFrame : (Hmesg → Type 0) → List Hmesg → Type 0
EachFrame P [] = Unit {0}
EachFrame P (m ∷ ms) = P m × EachFrame P ms

-- a frame that stands before the one that frees a lock: texts are short, and Q holds of names. Hversion and Hsetsnarf are told of apart
abbrev pub IsTold : (List ℕ → Type 0) → Hmesg → Type 0
IsTold Q (Hversion v) = ⊥
IsTold Q (Hsetsnarf s) = ⊥
IsTold Q Hunlock = ⊥
IsTold Q (Hunlockfile f) = ⊥
IsTold Q Hexit = ⊥
IsTold Q (Hmovname f s) = Q s
IsTold Q (Hgrowdata f p s) = length s ≤ most_in_message
IsTold Q (Hdata f p s) = length s ≤ most_in_message
IsTold Q (Hsetpat s) = length s ≤ most_in_pattern
IsTold Q _ = Unit {0}

-- the lock that an answer frees
pub data Freed : Type 0 where
  Nothing : Freed
  Command : Freed
  File : (tag : ℕ) → Freed

-- the frame that frees it. A line that quits ends the session, which frees the command lock too
abbrev pub end_frames : Freed → Bool → List Hmesg
end_frames Nothing quits = []
end_frames Command quits = (if quits then Hexit else Hunlock) ∷ []
end_frames (File f) quits = Hunlockfile f ∷ []

-- this frame is the last one, if there is one, and all others stand before it
pub record Ends (Q : List ℕ → Type 0) (l : Freed) (frames : List Hmesg) : Type 0 where
  pub front : List Hmesg
  pub quits : Bool
  pub is : frames ≡ front ++ end_frames l quits
  pub told : EachFrame (IsTold Q) front

-- ## Parts of answers

pub each-both : (P : Hmesg → Type 0) (ms ns : List Hmesg) → EachFrame P ms → EachFrame P ns → EachFrame P (ms ++ ns)
each-both P [] ns h k = k
each-both P (m ∷ ms) ns h k = (h.0, each-both P ms ns h.1 k)

each-when : (P : Hmesg → Type 0) (b : Bool) (ms : List Hmesg) → EachFrame P ms → EachFrame P (when b ms)
unfolding when
each-when P b ms e = grind arith

each-given : {A : Type 0} (P : Hmesg → Type 0) (R : A → Type 0) (o : Option A) (frame : A → Hmesg) → ((x : A) → R x → P (frame x)) → IfSome o R
    → EachFrame P (when_given o frame)
unfolding when_given
each-given P R o frame e u = grind arith

each_grown : (Q : List ℕ → Type 0) (fs : PlainFiles) (f p : ℕ) (s : List ℕ) → EachFrame (IsTold Q) (grown fs f p s)
unfolding grown
each_grown Q fs f p s = grind (arith, each-when)

each_dirty : (Q : List ℕ → Type 0) (fs : PlainFiles) (f : ℕ) → EachFrame (IsTold Q) (told_dirty fs f)
each_dirty Q fs f = each-when (IsTold Q) (not (file_at fs f).dirty && not (f == 0)) (Hdirty f ∷ []) (tt, tt)

each_length : (Q : List ℕ → Type 0) (f : ℕ) (file : PlainFile) → EachFrame (IsTold Q) (told_length f file)
unfolding told_length
each_length Q f file = each-when (IsTold Q) (not (is_empty file.text)) _ (tt, tt)

each_printed : (Q : List ℕ → Type 0) (fs : PlainFiles) (s : List ℕ) → EachFrame (IsTold Q) (printed fs s)
unfolding printed
each_printed Q fs s = search (arith, each-when, each-both, each_grown)

each_edits : (Q : List ℕ → Type 0) (fs : PlainFiles) (f : ℕ) (es : List Edit) → EachFrame (IsTold Q) (flat_map (told_edit fs f) es)
unfolding told_edit
each_edits Q fs f [] = tt
each_edits Q fs f (e ∷ es) = search (arith, each-both, each-when, each_grown, (each_edits Q fs f es))

each_outcome : (Q : List ℕ → Type 0) → ((s : List ℕ) → length s ≤ most_in_name → Q s) → (x : Option ℕ) (fs : PlainFiles) (o : PlainOutcome) → HasShortParts o
    → EachFrame (IsTold Q) (told_outcome x fs o)
unfolding told_outcome when_given
each_outcome Q name None fs o h = each-given (IsTold Q) IsPattern o.pattern Hsetpat (λ s short. short.1) h.1
each_outcome Q name (Some f) fs o h =
    let P = IsTold Q in
    let edits = each_edits Q fs f (reverse o.edits) in
    let dirty = each-when P (not (is_empty o.edits) && not (file_at fs f).dirty) (Hdirty f ∷ []) (tt, tt) in
    let named = each-given P (λ (s : List ℕ). length s ≤ most_in_name) o.name (Hmovname f) (λ s short. name s short) h.0 in
    let pattern = each-given P IsPattern o.pattern Hsetpat (λ s short. short.1) h.1 in
    let check = each-when P (not (is_empty o.edits)) (Hcheck f ∷ []) (tt, tt) in
    each-both P _ _ (each-both P _ _ (each-both P _ _ (each-both P _ _ (each-both P _ _ edits dirty) named) pattern) (dot o.dot)) check
  where
    dot : (d : Option Range) → EachFrame (IsTold Q) (when_given d (λ d. Hsetdot f d.0 d.1))
    dot d = grind arith

each_names : (Q : List ℕ → Type 0) (f : ℕ) (ss : Slots PlainFile) → ((g : ℕ) → Q (unwrap_or (slot ss g) blank_file).name) → EachFrame (IsTold Q) (told_names f ss)
unfolding told_names
each_names Q f [] h = tt
each_names Q f (None ∷ ss) h = each_names Q (1 + f) ss (λ g. h (suc g))
each_names Q f (Some file ∷ ss) h =
    each-both (IsTold Q) _ (told_names (1 + f) ss) (each-when (IsTold Q) (not file.announced) (Hnewname f ∷ Hmovname f file.name ∷ []) (tt, (h 0, tt))) (each_names Q (1 + f) ss (λ g. h (suc g)))

behind-first : (Q : List ℕ → Type 0) (ss : Slots PlainFile) → ((g : ℕ) → Q (unwrap_or (slot ss g) blank_file).name) → (g : ℕ) → Q (unwrap_or (slot (drop 1 ss) g) blank_file).name
behind-first Q [] h g = h g
behind-first Q (s ∷ ss) h g = h (suc g)

-- ## How answers end

ends : (Q : List ℕ → Type 0) (l : Freed) (front : List Hmesg) → EachFrame (IsTold Q) front → Ends Q l (front ++ end_frames l false)
ends Q l front told = record { front = front; quits = false; is = refl; told = told }

behind : (Q : List ℕ → Type 0) (l : Freed) (xs ys : List Hmesg) → EachFrame (IsTold Q) xs → Ends Q l ys → Ends Q l (xs ++ ys)
behind Q l xs ys told k = grind (arith, append_assoc, each-both)

ends-if : (Q : List ℕ → Type 0) (l : Bool → Freed) (b : Bool) (x y : Reply) → (b ≡ true → Ends Q (l true) x.1) → Ends Q (l false) y.1 → Ends Q (l b) (cond b x y).1
ends-if Q l b x y e u = grind arith

ends-when : (Q : List ℕ → Type 0) (l : Freed) (b : Bool) (ms : List Hmesg) → Ends Q l ms → Ends Q (cond b l Nothing) (when b ms)
unfolding when
ends-when Q l true ms h = h
ends-when Q l false ms h = ends Q Nothing [] tt

ends-found : (Q : List ℕ → Type 0) (h : PlainHost) (f : ℕ) (d : Option Range) (frames : List Hmesg) → EachFrame (IsTold Q) frames → Ends Q (File f) (reply_found h f d frames).1
ends-found Q h f None frames before = ends Q (File f) [] tt
ends-found Q h f (Some d) frames before = behind Q (File f) frames _ before (ends Q (File f) (Hsetdot f d.0 d.1 ∷ Hmoveto f d.0 ∷ Hcheck f ∷ []) (tt, (tt, (tt, tt))))

ends-line : (Q : List ℕ → Type 0) → ((s : List ℕ) → length s ≤ most_in_name → Q s) → (h : PlainHost) (before : List Hmesg) (line : List ℕ) → EachFrame (IsTold Q) before
    → Ends Q Command (reply_line h before line).1
ends-line Q name h before line front = grind (arith, (each_outcome Q name), (line_short (work_file h.files) line), (each-both (IsTold Q)), (each_printed Q))

-- ## The kinds

-- what may be looked for is no longer than a pattern
look-short : (lit : List ℕ) → may_look lit ≡ true → length lit ≤ most_in_pattern
look-short lit e = grind arith

part-short : (t : List ℕ) (a b n : ℕ) → b ≤ a + n → length (part t a b) ≤ n
part-short t a b n h = omega (arith, part_length t a b)

-- which lock the answer to each kind frees
abbrev pub lock_freed : PlainHost → Tmesg → Freed
lock_freed h (Tversion v) = Command
lock_freed h Tstartcmdfile = Command
lock_freed h (Trequest f p n) = if has_file h.files f then File f else Nothing
lock_freed h (Torigin f p n) = File f
lock_freed h (Tstartfile f) = Command
lock_freed h (Ttype f p s) = if (f == 0) && ends_line s then Command else Nothing
lock_freed h (Tpaste f p) = File f
lock_freed h Tstartnewfile = Command
lock_freed h (Twrite f) = File f
lock_freed h (Tclose f) = Command
lock_freed h (Tlook f p q) = File f
lock_freed h (Tsearch f p q) = File f
lock_freed h (Tsend f p q) = Command
lock_freed h (Tdclick f p) = File f
lock_freed h Texit = Command
lock_freed h _ = Nothing

-- what is told of each kind: of Tversion after the version, and nothing of Tstartsnarf
abbrev pub EndsOf : (List ℕ → Type 0) → PlainHost → Tmesg → Type 0
EndsOf Q h (Tversion v) = Ends Q Command (told_names 1 (drop 1 h.files.slots) ++ Hack ∷ Hunlock ∷ [])
EndsOf Q h Tstartsnarf = Unit {0}
EndsOf Q h m = Ends Q (lock_freed h m) (reply_to h m).1

pub reply_ends : (Q : List ℕ → Type 0) → ((s : List ℕ) → length s ≤ most_in_name → Q s) → (h : PlainHost) (m : Tmesg) → ((f : ℕ) → Q (file_at h.files f).name) → EndsOf Q h m
unfolding replies_opened
reply_ends Q name h (Tversion v) names =
    behind Q Command (told_names 1 (drop 1 h.files.slots)) _ (each_names Q 1 (drop 1 h.files.slots) (behind-first Q h.files.slots names)) (ends Q Command (Hack ∷ []) (tt, tt))
reply_ends Q name h Tstartcmdfile names =
    let file = file_at h.files 0 in
    let named = Hnewname 0 ∷ Hmovname 0 command_name ∷ Hbindname 0 ∷ [] in
    ends-if Q (λ b. Command) file.opened (h, _) (with_file h 0 _, (named ++ told_length 0 file) ++ Hunlock ∷ []) (λ e. ends Q Command [] tt)
    (ends Q Command (named ++ told_length 0 file) (each-both (IsTold Q) named (told_length 0 file) (tt, (name command_name (omega arith), (tt, tt))) (each_length Q 0 file)))
reply_ends Q name h (Tcheck f) names = ends Q Nothing (Hcheck f ∷ []) (tt, tt)
reply_ends Q name h (Trequest f p n) names =
    let t = (file_at h.files f).text in
    let a = min p (length t) in
    let b = min (p + min n most_in_message) (length t) in
    ends-when Q (File f) (has_file h.files f) _ (ends Q (File f) (Hdata f a (part t a b) ∷ []) (part-short t a b most_in_message (omega arith), tt))
reply_ends Q name h (Torigin f p n) names = ends Q (File f) (Horigin f _ ∷ []) (tt, tt)
reply_ends Q name h (Tstartfile f) names =
    let file = file_at h.files f in
    let opening = Hbindname f ∷ told_length f file in
    ends Q Command (when (not file.opened) opening) (each-when (IsTold Q) (not file.opened) opening (tt, each_length Q f file))
reply_ends Q name h (Tworkfile f p q) names = ends Q Nothing (Hcurrent f ∷ []) (tt, tt)
reply_ends Q name h (Ttype f p s) names =
    ends-if Q (λ b. if b then Command else Nothing) ((f == 0) && ends_line s) _ _
    (λ e. ends-line Q name (with_file h f (typed_file f (file_at h.files f) p s)) [] _ tt) (ends Q Nothing [] tt)
reply_ends Q name h (Tcut f p q) names = ends Q Nothing [] tt
reply_ends Q name h (Tpaste f p) names =
    let s = h.files.snarf in
    ends-if Q (λ b. File f) (is_empty s || nat_lt max_runes (length (file_at h.files f).text + length s)) _ _ (λ e. ends Q (File f) [] tt)
    (behind Q (File f) _ _ (each-both (IsTold Q) _ _ (each_grown Q h.files f p s) (each_dirty Q h.files f)) (ends Q (File f) (Hsetdot f p (p + length s) ∷ Hcheck f ∷ []) (tt, (tt, tt))))
reply_ends Q name h (Tsnarf f p q) names = ends Q Nothing (Hsnarflen (q - p) ∷ []) (tt, tt)
reply_ends Q name h Tstartnewfile names =
    let f = length h.files.slots in
    ends-if Q (λ b. Command) (nat_le all_tags f) _ _ (λ e. ends Q Command (printed h.files no_tag_left) (each_printed Q h.files no_tag_left))
    (ends Q Command (Hnewname f ∷ Hbindname f ∷ Hcurrent f ∷ []) (tt, (tt, (tt, tt))))
reply_ends Q name h (Twrite f) names = ends Q (File f) (Hclean f ∷ []) (tt, tt)
reply_ends Q name h (Tclose f) names = ends Q Command (Hclose f ∷ Hdelname f ∷ []) (tt, (tt, tt))
reply_ends Q name h (Tlook f p q) names =
    let t = (file_at h.files f).text in
    let lit = part t p q in
    let sought = with_files h (record h.files { pattern = Some lit }) in
    ends-if Q (λ b. File f) (may_look lit) (reply_found sought f (searched t lit q) (Hsetpat lit ∷ [])) (h, Hunlockfile f ∷ [])
    (λ e. ends-found Q sought f (searched t lit q) (Hsetpat lit ∷ []) (look-short lit e, tt)) (ends Q (File f) [] tt)
reply_ends Q name h (Tsearch f p q) names = ends-found Q h f (searched_for h.files.pattern (file_at h.files f).text q) [] tt
reply_ends Q name h (Tsend f p q) names =
    let s = as_lines (part (file_at h.files f).text p q) in
    ends-if Q (λ b. Command) ((p == q) || not (has_room h.files s)) _ _ (λ e. ends Q Command [] tt)
    (ends-line Q name (with_files h (after_print h.files s)) (printed h.files s) (last_line s) (each_printed Q h.files s))
reply_ends Q name h (Tdclick f p) names = ends Q (File f) (Hsetdot f _ _ ∷ []) (tt, tt)
reply_ends Q name h Tstartsnarf names = tt
reply_ends Q name h (Tsetsnarf s) names = ends Q Nothing (Hsnarflen (length s) ∷ []) (tt, tt)
reply_ends Q name h Tack names = ends Q Nothing [] tt
reply_ends Q name h Texit names = record { front = []; quits = true; is = refl; told = tt }

-- ## What holds of all frames alike

-- P holds of every frame of an answer, but for Hversion and Hsetsnarf
pub record AreFrames (P : Hmesg → Type 0) (Q : List ℕ → Type 0) : Type 0 where
  pub name : (s : List ℕ) → length s ≤ most_in_name → Q s
  pub told : (m : Hmesg) → IsTold Q m → P m
  pub unlock : P Hunlock
  pub unlockfile : (f : ℕ) → P (Hunlockfile f)
  pub exit : P Hexit

each-ended : {P : Hmesg → Type 0} {Q : List ℕ → Type 0} → AreFrames P Q → (l : Freed) (ms : List Hmesg) → Ends Q l ms → EachFrame P ms
each-ended {P} {Q} k l ms e = subst (EachFrame P) (sym e.is) (each-both P e.front (end_frames l e.quits) (each e.front e.told) (end l e.quits))
  where
    each : (ms : List Hmesg) → EachFrame (IsTold Q) ms → EachFrame P ms
    each [] told = tt
    each (m ∷ ms) told = (k.told m told.0, each ms told.1)

    end : (l : Freed) (quits : Bool) → EachFrame P (end_frames l quits)
    end l quits = grind arith

abbrev pub EachOf : (Hmesg → Type 0) → PlainHost → Tmesg → Type 0
EachOf P h (Tversion v) = EachFrame P (told_names 1 (drop 1 h.files.slots) ++ Hack ∷ Hunlock ∷ [])
EachOf P h Tstartsnarf = Unit {0}
EachOf P h m = EachFrame P (reply_to h m).1

pub reply_each : {P : Hmesg → Type 0} {Q : List ℕ → Type 0} → AreFrames P Q → (h : PlainHost) (m : Tmesg) → ((f : ℕ) → Q (file_at h.files f).name) → EachOf P h m
reply_each {P} {Q} k h (Tversion v) names = each-ended k Command _ (reply_ends Q k.name h (Tversion v) names)
reply_each k h Tstartsnarf names = tt
reply_each {P} {Q} k h m names = each-ended k (lock_freed h m) (reply_to h m).1 (reply_ends Q k.name h m names)

-- A host with more files replies as without them, but for their names and its next tag.
use Rattle.sam_host.proofs.Common.{◌≡◌, refl, ap, ◌∙◌, subst, ℕ, zero, suc, ◌+◌, ◌-◌, ◌<◌, ◌≤◌, Bool, true, false, not, ◌&&◌, ◌||◌, ◌==◌, if◌then◌else◌, flat_map, reverse, List, [], ◌∷◌, ◌++◌, length, length-append, Option, Some, None, IfSome, arith, ltb-false, unwrap_or, option_map, option_and_then, either, first_of_checks, none_holds, max_runes, ends_line, as_lines, last_line, part, searched, Range, Slots, slot, put_slot, PlainFile, PlainFiles, PlainOutcome, blank_file, file_at, has_file, has_room, may_look, put_file, typed_file, without_file, after_print, put_outcome, committed, meaning, work_on, line_outcome, Edit, Tmesg, Tversion, Tstartcmdfile, Tcheck, Trequest, Torigin, Tstartfile, Tworkfile, Ttype, Tcut, Tpaste, Tsnarf, Tstartnewfile, Twrite, Tclose, Tlook, Tsearch, Tsend, Tdclick, Tstartsnarf, Tsetsnarf, Tack, Texit, Hmesg, Hexit, Hunlock, Hclose, Hdelname, Hsnarflen, Hsetpat, Hunlockfile, PlainHost, Reply, host_checks, reply_to, reply_line, reply_found, reply_type, reply_send, reply_look, line_to, with_file, with_files, unknown, not_opened, past_end, no_range, no_room, grown, printed, told_edit, told_outcome}
use Rattle.std.specs.Prelude.{is_some}
use Rattle.std.proofs.lemmas.Bool.{not-false}
use Rattle.sam_runes.specs.Checks.{Checks}
use Rattle.sam_host.specs.declared.fault.HostFault.{HostFault}
use Rattle.sam_host.specs.Host.{is_command, reply_outcome}
use Rattle.sam_text.specs.Files.{file_after}
use Rattle.sam_text.proofs.FitLaws.{fit-put, fit-typed, fit-print, fit-meaning}
use Rattle.sam_runes.specs.Slots.{free_slot}
use Rattle.sam_runes.proofs.SlotLaws.{slot_given, length-put_slot}
use Rattle.sam_host.proofs.EachFrame.{replies_opened}
use Rattle.sam_crossing.specs.Joining.{more_files, with_more, HasGiven, hears}

abbrev more_reply : Slots PlainFile → Reply → Reply
more_reply more r = (with_more r.0 more, r.1)

-- ## Slots

pub slot-more : {X : Type 0} (ss more : Slots X) (f : ℕ) → f < length ss → slot (ss ++ more) f ≡ slot ss f
slot-more (s ∷ ss) more zero l = refl
slot-more (s ∷ ss) more (suc f) l = slot-more ss more f (omega (arith, l))
slot-more [] more f l = absurd (omega (arith, l))

pub put-more : {X : Type 0} (ss more : Slots X) (f : ℕ) (x : X) → f < length ss → put_slot (ss ++ more) f x ≡ put_slot ss f x ++ more
put-more (s ∷ ss) more zero x l = refl
put-more (s ∷ ss) more (suc f) x l = ap (λ (rest : Slots _). s ∷ rest) (put-more ss more f x (omega (arith, l)))
put-more [] more f x l = absurd (omega (arith, l))

pub free-more : {X : Type 0} (ss more : Slots X) (f : ℕ) → f < length ss → free_slot (ss ++ more) f ≡ free_slot ss f ++ more
free-more (s ∷ ss) more zero l = refl
free-more (s ∷ ss) more (suc f) l = ap (λ (rest : Slots _). s ∷ rest) (free-more ss more f (omega (arith, l)))
free-more [] more f l = absurd (omega (arith, l))

-- ## Files

pub file-more : (fs : PlainFiles) (more : Slots PlainFile) (f : ℕ) → f < length fs.slots → file_at (more_files fs more) f ≡ file_at fs f
file-more fs more f l = ap (λ (s : Option PlainFile). unwrap_or s blank_file) (slot-more fs.slots more f l)

pub files-put : (fs : PlainFiles) (more : Slots PlainFile) (f : ℕ) (x : PlainFile) → f < length fs.slots
    → put_file (more_files fs more) f x ≡ more_files (put_file fs f x) more
files-put fs more f x l = ap (λ (ss : Slots PlainFile). record fs { slots = ss }) (put-more fs.slots more f x l)

grown-more : (fs : PlainFiles) (more : Slots PlainFile) (f p : ℕ) (s : List ℕ) → f < length fs.slots → grown (more_files fs more) f p s ≡ grown fs f p s
unfolding grown
grown-more fs more f p s l = rw (file-more fs more f l) refl

print-more : (fs : PlainFiles) (more : Slots PlainFile) (s : List ℕ) → 0 < length fs.slots → after_print (more_files fs more) s ≡ more_files (after_print fs s) more
print-more fs more s l = grind (arith, file-more, files-put)

printed-more : (fs : PlainFiles) (more : Slots PlainFile) (s : List ℕ) → 0 < length fs.slots → printed (more_files fs more) s ≡ printed fs s
unfolding printed
printed-more fs more s l = grind (arith, file-more, grown-more)

meaning-more : (fs : PlainFiles) (more : Slots PlainFile) (line : List ℕ) → IfSome fs.work (λ f. f < length fs.slots) → meaning (more_files fs more) line ≡ meaning fs line
meaning-more fs more line w = ap (λ x. line_outcome x line) (go fs.work w)
  where
    go : (o : Option ℕ) → IfSome o (λ f. f < length fs.slots)
        → option_and_then (λ f. option_map (work_on f) (slot (fs.slots ++ more) f)) o ≡ option_and_then (λ f. option_map (work_on f) (slot fs.slots f)) o
    go None k = refl
    go (Some f) k = ap (λ (s : Option PlainFile). option_map (work_on f) s) (slot-more fs.slots more f k)

-- ## Lines

abbrev Below : PlainFiles → Option ℕ → Type 0
Below fs x = IfSome x (λ f. f < length fs.slots)

-- the file that a line works on was given
line-given : (fs : PlainFiles) (line : List ℕ) → HasGiven fs → Below fs (meaning fs line).file
line-given fs line g = go (meaning fs line).file refl
  where
    go : (x : Option ℕ) → (meaning fs line).file ≡ x → Below fs x
    go None e = tt
    go (Some f) e = subst (λ (o : Option ℕ). Below fs o) (fit-meaning fs line f fs.work g.fit e).0 g.work

outcome-more : (x : Option ℕ) (fs : PlainFiles) (more : Slots PlainFile) (o : PlainOutcome) → Below fs x
    → put_outcome x (more_files fs more) o ≡ more_files (put_outcome x fs o) more
outcome-more None fs more o l = refl
outcome-more (Some f) fs more o l =
    ap (λ (y : PlainFile). put_file (more_files fs more) f (file_after y o)) (file-more fs more f l) ∙ files-put fs more f (file_after (file_at fs f) o) l

committed-more : (fs : PlainFiles) (more : Slots PlainFile) (o : PlainOutcome) → Below fs o.file → committed (more_files fs more) o ≡ more_files (committed fs o) more
committed-more fs more o l = ap (λ (gs : PlainFiles). record gs { pattern = either o.pattern fs.pattern }) (outcome-more o.file fs more o l)

edit-more : (fs : PlainFiles) (more : Slots PlainFile) (f : ℕ) (e : Edit) → f < length fs.slots → told_edit (more_files fs more) f e ≡ told_edit fs f e
unfolding told_edit
edit-more fs more f e l = grind (arith, grown-more)

edits-more : (fs : PlainFiles) (more : Slots PlainFile) (f : ℕ) (es : List Edit) → f < length fs.slots → flat_map (told_edit (more_files fs more) f) es ≡ flat_map (told_edit fs f) es
edits-more fs more f [] l = refl
edits-more fs more f (e ∷ es) l = λ i. edit-more fs more f e l i ++ edits-more fs more f es l i

told-more : (x : Option ℕ) (fs : PlainFiles) (more : Slots PlainFile) (o : PlainOutcome) → Below fs x → told_outcome x (more_files fs more) o ≡ told_outcome x fs o
unfolding told_outcome
told-more None fs more o l = refl
told-more (Some f) fs more o l = rw (edits-more fs more f (reverse o.edits) l, file-more fs more f l) refl

outcome-length : (x : Option ℕ) (fs : PlainFiles) (o : PlainOutcome) → Below fs x → length (put_outcome x fs o).slots ≡ length fs.slots
outcome-length None fs o l = refl
outcome-length (Some f) fs o l = length-put_slot fs.slots f (file_after (file_at fs f) o) l

line-more : (h : PlainHost) (more : Slots PlainFile) (before : List Hmesg) (line : List ℕ) → HasGiven h.files
    → reply_line (with_more h more) before line ≡ more_reply more (reply_line h before line)
line-more h more before line g =
    let fs = h.files in
    let o = meaning fs line in
    let l = line-given fs line g in
    let there : 0 < length (committed fs o).slots = omega (arith, outcome-length o.file fs o l, g.command) in
    let files = ap (λ (gs : PlainFiles). after_print gs o.printed) (committed-more fs more o l) ∙ print-more (committed fs o) more o.printed there in
    let out = ap (λ (gs : PlainFiles). printed gs o.printed) (committed-more fs more o l) ∙ printed-more (committed fs o) more o.printed there in
    let told = told-more o.file fs more o l in
    ap (λ (x : PlainOutcome). reply_outcome (with_more h more) before x) (meaning-more fs more line g.work)
    ∙ (λ i. (record h { files = files i; is_done = o.quit }, before ++ told i ++ out i ++ (if o.quit then Hexit else Hunlock) ∷ []))

-- ## The replies

-- a file that is named was given
named : (h : PlainHost) (f : ℕ) (rest : Checks HostFault) → first_of_checks (unknown h f ∷ rest) ≡ None → f < length h.files.slots
named h f rest e = slot_given h.files.slots f (not-false (has_file h.files f) (none_holds (unknown h f) rest e).0)

has-more : (fs : PlainFiles) (more : Slots PlainFile) (f : ℕ) → f < length fs.slots → has_file (more_files fs more) f ≡ has_file fs f
has-more fs more f l = ap is_some (slot-more fs.slots more f l)

with-put : (h : PlainHost) (more : Slots PlainFile) (f : ℕ) (x : PlainFile) → f < length h.files.slots → with_file (with_more h more) f x ≡ with_more (with_file h f x) more
with-put h more f x l = ap (λ (fs : PlainFiles). record h { files = fs }) (files-put h.files more f x l)

found-more : (h : PlainHost) (more : Slots PlainFile) (f : ℕ) (d : Option Range) (frames : List Hmesg) → f < length h.files.slots
    → reply_found (with_more h more) f d frames ≡ more_reply more (reply_found h f d frames)
found-more h more f None frames l = refl
found-more h more f (Some d) frames l = grind (arith, file-more, with-put)

has_room-more : (fs : PlainFiles) (more : Slots PlainFile) (s : List ℕ) → 0 < length fs.slots → has_room (more_files fs more) s ≡ has_room fs s
has_room-more fs more s l = grind (arith, file-more)

print-length : (fs : PlainFiles) (s : List ℕ) → 0 < length fs.slots → length (after_print fs s).slots ≡ length fs.slots
print-length fs s l = grind (arith, length-put_slot)

print-work : (fs : PlainFiles) (s : List ℕ) → (after_print fs s).work ≡ fs.work
print-work fs s = grind arith

print-given : (fs : PlainFiles) (s : List ℕ) → HasGiven fs → HasGiven (after_print fs s)
print-given fs s g = record {
  command = omega (arith, print-length fs s g.command, g.command);
  work = rw (print-work fs s, print-length fs s g.command) g.work;
  fit = fit-print fs s g.fit;
}

-- the reply to a text that is typed, once it stands there
typed-more : (k : PlainHost) (more : Slots PlainFile) (b : Bool) (t line : List ℕ) → HasGiven k.files
    → (if b then reply_line (with_more k more) [] line else (with_more k more, [])) ≡ more_reply more (if b then reply_line k [] line else (k, []))
typed-more k more true t line g = line-more k more [] line g
typed-more k more false t line g = refl

typed-given : (fs : PlainFiles) (f p : ℕ) (s : List ℕ) → f < length fs.slots → p ≤ length (file_at fs f).text → length (file_at fs f).text + length s ≤ max_runes → HasGiven fs
    → HasGiven (put_file fs f (typed_file f (file_at fs f) p s))
typed-given fs f p s l place room g = record {
  command = omega (arith, length-put_slot fs.slots f (typed_file f (file_at fs f) p s) l, g.command);
  work = rw (length-put_slot fs.slots f (typed_file f (file_at fs f) p s) l) g.work;
  fit = fit-put fs f (typed_file f (file_at fs f) p s) g.fit (fit-typed f (file_at fs f) p s place room);
}

type-more : (h : PlainHost) (more : Slots PlainFile) (f p : ℕ) (s : List ℕ) → HasGiven h.files → first_of_checks (host_checks h (Ttype f p s)) ≡ None
    → reply_type (with_more h more) f p s ≡ more_reply more (reply_type h f p s)
unfolding reply_type
type-more h more f p s g e =
    let l = named h f (not_opened h f ∷ past_end h f p ∷ no_room h f s ∷ []) e in
    let a = none_holds (unknown h f) (not_opened h f ∷ past_end h f p ∷ no_room h f s ∷ []) e in
    let b = none_holds (not_opened h f) (past_end h f p ∷ no_room h f s ∷ []) a.1 in
    let c = none_holds (past_end h f p) (no_room h f s ∷ []) b.1 in
    let d = none_holds (no_room h f s) [] c.1 in
    let x = typed_file f (file_at h.files f) p s in
    let typed = with_file h f x in
    let now : f < length typed.files.slots = omega (arith, length-put_slot h.files.slots f x l, l) in
    let given = typed-given h.files f p s l (ltb-false (length (file_at h.files f).text) p c.0) (ltb-false max_runes _ d.0) g in
    let place = p + length s - 1 in
    ap (λ (k : PlainHost). if (f == 0) && ends_line s then reply_line k [] (line_to (file_at k.files f).text place) else (k, []))
    (ap (λ (y : PlainFile). with_file (with_more h more) f (typed_file f y p s)) (file-more h.files more f l) ∙ with-put h more f x l)
    ∙ ap (λ (y : PlainFile). if (f == 0) && ends_line s then reply_line (with_more typed more) [] (line_to y.text place) else (with_more typed more, []))
    (file-more typed.files more f now)
    ∙ typed-more typed more ((f == 0) && ends_line s) [] (line_to (file_at typed.files f).text place) given

send-more : (h : PlainHost) (more : Slots PlainFile) (f p q : ℕ) → HasGiven h.files → f < length h.files.slots
    → reply_send (with_more h more) f p q ≡ more_reply more (reply_send h f p q)
unfolding reply_send
send-more h more f p q g l = ap (λ (y : PlainFile). sent (with_more h more) (as_lines (part y.text p q))) (file-more h.files more f l) ∙ go (as_lines (part (file_at h.files f).text p q))
  where
    sent : PlainHost → List ℕ → Reply
    sent k s = if (p == q) || not (has_room k.files s) then (k, Hunlock ∷ []) else reply_line (with_files k (after_print k.files s)) (printed k.files s) (last_line s)

    by : (b : Bool) (s : List ℕ)
        → (if b then (with_more h more, Hunlock ∷ []) else reply_line (with_files (with_more h more) (after_print (more_files h.files more) s)) (printed (more_files h.files more) s) (last_line s))
        ≡ more_reply more (if b then (h, Hunlock ∷ []) else reply_line (with_files h (after_print h.files s)) (printed h.files s) (last_line s))
    by true s = refl
    by false s =
        (λ i. reply_line (with_files (with_more h more) (print-more h.files more s g.command i)) (printed-more h.files more s g.command i) (last_line s))
        ∙ line-more (with_files h (after_print h.files s)) more (printed h.files s) (last_line s) (print-given h.files s g)

    go : (s : List ℕ) → sent (with_more h more) s ≡ more_reply more (sent h s)
    go s =
        ap (λ (r : Bool). if (p == q) || not r then (with_more h more, Hunlock ∷ []) else reply_line (with_files (with_more h more) (after_print (more_files h.files more) s)) (printed (more_files h.files more) s) (last_line s))
        (has_room-more h.files more s g.command)
        ∙ by ((p == q) || not (has_room h.files s)) s

look-more : (h : PlainHost) (more : Slots PlainFile) (f p q : ℕ) → f < length h.files.slots → reply_look (with_more h more) f p q ≡ more_reply more (reply_look h f p q)
unfolding reply_look
look-more h more f p q l = ap (λ (y : PlainFile). looked (with_more h more) y.text) (file-more h.files more f l) ∙ by (may_look (part t p q))
  where
    t : List ℕ
    t = (file_at h.files f).text

    looked : PlainHost → List ℕ → Reply
    looked k u =
        let lit = part u p q in
        if may_look lit then reply_found (with_files k (record k.files { pattern = Some lit })) f (searched u lit q) (Hsetpat lit ∷ []) else (k, Hunlockfile f ∷ [])

    by : (b : Bool)
        → (if b then reply_found (with_files (with_more h more) (record (more_files h.files more) { pattern = Some (part t p q) })) f (searched t (part t p q) q) (Hsetpat (part t p q) ∷ []) else (with_more h more, Hunlockfile f ∷ []))
        ≡ more_reply more (if b then reply_found (with_files h (record h.files { pattern = Some (part t p q) })) f (searched t (part t p q) q) (Hsetpat (part t p q) ∷ []) else (h, Hunlockfile f ∷ []))
    by true = found-more (with_files h (record h.files { pattern = Some (part t p q) })) more f (searched t (part t p q) q) (Hsetpat (part t p q) ∷ []) l
    by false = refl

-- the answer to any other message is as without them, and they stand in the host after it as before it
pub deaf_replies_alike : (h : PlainHost) (more : Slots PlainFile) (m : Tmesg) → hears m ≡ false → HasGiven h.files → first_of_checks (host_checks h m) ≡ None
    → reply_to (with_more h more) m ≡ more_reply more (reply_to h m)
unfolding replies_opened
deaf_replies_alike h more (Tversion v) d g e = absurd (grind arith)
deaf_replies_alike h more Tstartnewfile d g e = absurd (grind arith)
deaf_replies_alike h more Tstartcmdfile d g e = let l = g.command in grind (arith, file-more, with-put)
deaf_replies_alike h more (Tcheck f) d g e = refl
deaf_replies_alike h more (Trequest f p n) d g e =
    let l : f < length h.files.slots = grind (arith, none_holds) in
    grind (arith, file-more, has-more)
deaf_replies_alike h more (Torigin f p n) d g e = let l = named h f (not_opened h f ∷ past_end h f p ∷ []) e in grind (arith, file-more)
deaf_replies_alike h more (Tstartfile f) d g e = let l = named h f (is_command f ∷ []) e in grind (arith, file-more, files-put)
deaf_replies_alike h more (Tworkfile f p q) d g e = let l = named h f (is_command f ∷ not_opened h f ∷ no_range h f p q ∷ []) e in grind (arith, file-more, files-put)
deaf_replies_alike h more (Ttype f p s) d g e = type-more h more f p s g e
deaf_replies_alike h more (Tcut f p q) d g e = let l = named h f (not_opened h f ∷ no_range h f p q ∷ []) e in grind (arith, file-more, with-put)
deaf_replies_alike h more (Tpaste f p) d g e = let l = named h f (not_opened h f ∷ past_end h f p ∷ []) e in grind (arith, file-more, with-put, grown-more)
deaf_replies_alike h more (Tsnarf f p q) d g e =
    let l = named h f (not_opened h f ∷ no_range h f p q ∷ []) e in
    ap (λ (y : PlainFile). (with_files (with_more h more) (record (more_files h.files more) { snarf = part y.text p q }), Hsnarflen (q - p) ∷ [])) (file-more h.files more f l)
deaf_replies_alike h more (Twrite f) d g e = let l = named h f (is_command f ∷ not_opened h f ∷ []) e in grind (arith, file-more, with-put)
deaf_replies_alike h more (Tclose f) d g e =
    let l = named h f (is_command f ∷ not_opened h f ∷ []) e in
    ap (λ (ss : Slots PlainFile). (record h { files = record (without_file h.files f) { slots = ss } }, Hclose f ∷ Hdelname f ∷ Hunlock ∷ [])) (free-more h.files.slots more f l)
deaf_replies_alike h more (Tlook f p q) d g e = look-more h more f p q (named h f (not_opened h f ∷ no_range h f p q ∷ []) e)
deaf_replies_alike h more (Tsearch f p q) d g e = let l = named h f (not_opened h f ∷ no_range h f p q ∷ []) e in grind (arith, file-more, found-more)
deaf_replies_alike h more (Tsend f p q) d g e = send-more h more f p q g (named h f (not_opened h f ∷ no_range h f p q ∷ []) e)
deaf_replies_alike h more (Tdclick f p) d g e = let l = named h f (not_opened h f ∷ past_end h f p ∷ []) e in grind (arith, file-more, with-put)
deaf_replies_alike h more Tstartsnarf d g e = refl
deaf_replies_alike h more (Tsetsnarf s) d g e = refl
deaf_replies_alike h more Tack d g e = refl
deaf_replies_alike h more Texit d g e = refl

-- ## The checks

-- what nothing stands against, nothing stands against where there are more files
pub more_pass : (h : PlainHost) (more : Slots PlainFile) (m : Tmesg) → first_of_checks (host_checks h m) ≡ None → first_of_checks (host_checks (with_more h more) m) ≡ None
more_pass h more (Tversion v) e = e
more_pass h more Tstartcmdfile e = refl
more_pass h more (Tcheck f) e = let l = named h f (not_opened h f ∷ []) e in rw (has-more h.files more f l, file-more h.files more f l) e
more_pass h more (Trequest f p n) e =
    let l : f < length h.files.slots = grind (arith, none_holds) in
    grind (arith, file-more, has-more, length-append)
more_pass h more (Torigin f p n) e = let l = named h f (not_opened h f ∷ past_end h f p ∷ []) e in rw (has-more h.files more f l, file-more h.files more f l) e
more_pass h more (Tstartfile f) e = let l = named h f (is_command f ∷ []) e in rw (has-more h.files more f l) e
more_pass h more (Tworkfile f p q) e = let l = named h f (is_command f ∷ not_opened h f ∷ no_range h f p q ∷ []) e in rw (has-more h.files more f l, file-more h.files more f l) e
more_pass h more (Ttype f p s) e = let l = named h f (not_opened h f ∷ past_end h f p ∷ no_room h f s ∷ []) e in rw (has-more h.files more f l, file-more h.files more f l) e
more_pass h more (Tcut f p q) e = let l = named h f (not_opened h f ∷ no_range h f p q ∷ []) e in rw (has-more h.files more f l, file-more h.files more f l) e
more_pass h more (Tpaste f p) e = let l = named h f (not_opened h f ∷ past_end h f p ∷ []) e in rw (has-more h.files more f l, file-more h.files more f l) e
more_pass h more (Tsnarf f p q) e = let l = named h f (not_opened h f ∷ no_range h f p q ∷ []) e in rw (has-more h.files more f l, file-more h.files more f l) e
more_pass h more Tstartnewfile e = refl
more_pass h more (Twrite f) e = let l = named h f (is_command f ∷ not_opened h f ∷ []) e in rw (has-more h.files more f l, file-more h.files more f l) e
more_pass h more (Tclose f) e = let l = named h f (is_command f ∷ not_opened h f ∷ []) e in rw (has-more h.files more f l, file-more h.files more f l) e
more_pass h more (Tlook f p q) e = let l = named h f (not_opened h f ∷ no_range h f p q ∷ []) e in rw (has-more h.files more f l, file-more h.files more f l) e
more_pass h more (Tsearch f p q) e = let l = named h f (not_opened h f ∷ no_range h f p q ∷ []) e in rw (has-more h.files more f l, file-more h.files more f l) e
more_pass h more (Tsend f p q) e = let l = named h f (not_opened h f ∷ no_range h f p q ∷ []) e in rw (has-more h.files more f l, file-more h.files more f l) e
more_pass h more (Tdclick f p) e = let l = named h f (not_opened h f ∷ past_end h f p ∷ []) e in rw (has-more h.files more f l, file-more h.files more f l) e
more_pass h more Tstartsnarf e = refl
more_pass h more (Tsetsnarf s) e = refl
more_pass h more Tack e = refl
more_pass h more Texit e = refl

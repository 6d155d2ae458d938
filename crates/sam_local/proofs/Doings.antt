-- Files that join the editor without a network.
use Rattle.sam_crossing.proofs.Common.{◌≡◌, ℕ, suc, ◌+◌, ◌<◌, Bool, true, false, List, [], ◌∷◌, ◌++◌, length, map, Option, Some, None, is_some, option_map, nat_lt, refl, sym, ap, ◌∙◌, subst, arith, Slots, slot, PlainFile, PlainFiles, PlainHost, given_slots, put_slot-push, file_at, Tmesg, Hmesg, KnownFile, Window, UserEvent, PlainTerminal, is_open, unsent_message, answers, Absent, Fits_slot, InOrder, file_in}
use Rattle.std.specs.Prelude.{unwrap_or}
use Rattle.sam_host.specs.Host.{given_file}
use Rattle.sam_term.specs.Windows.{blank_known}
use Rattle.sam_crossing.specs.Joining.{more_files, with_more}
use Rattle.sam_crossing.specs.View.{slot_of}
use Rattle.sam_crossing.proofs.HostFiles.{not_given}
use Rattle.sam_crossing.proofs.Joining.{file-more}
use Rattle.sam_crossing.proofs.MoreFiles.{nothing_more, one_more}
use Rattle.sam_local.specs.Local.{PlainEditor, Doing, Did, Joined, whole_window, whole_file, whole_slots, at_rest, answered_with, come_to, joined, after_doing, done_on, events_in, files_in}
use Rattle.sam_local.specs.Editing.{FileJoins}
use Rattle.sam_local.proofs.Ahead.{term_ahead, synced-ahead, come-to-is}

-- ## Lists of doings

pub done-append : (xs ys : List Doing) (editor : PlainEditor) → done_on editor (xs ++ ys) ≡ done_on (done_on editor xs) ys
done-append [] ys editor = refl
done-append (d ∷ xs) ys editor = done-append xs ys (after_doing editor d)

pub events-append : (xs ys : List Doing) → events_in (xs ++ ys) ≡ events_in xs ++ events_in ys
events-append [] ys = refl
events-append (Did e ∷ xs) ys = ap (λ (l : List UserEvent). e ∷ l) (events-append xs ys)
events-append (Joined file ∷ xs) ys = events-append xs ys

pub files-append : (xs ys : List Doing) → files_in (xs ++ ys) ≡ files_in xs ++ files_in ys
files-append [] ys = refl
files-append (Did e ∷ xs) ys = files-append xs ys
files-append (Joined file ∷ xs) ys = ap (λ (l : List (List ℕ × List ℕ)). file ∷ l) (files-append xs ys)

pub events-did : (es : List UserEvent) → events_in (map Did es) ≡ es
events-did [] = refl
events-did (e ∷ es) = ap (λ (l : List UserEvent). e ∷ l) (events-did es)

pub files-did : (es : List UserEvent) → files_in (map Did es) ≡ []
files-did [] = refl
files-did (e ∷ es) = files-did es

-- ## Files that join, one after another

pub joined-all : (more : List (List ℕ × List ℕ)) (editor : PlainEditor) → done_on editor (map Joined more) ≡ record editor { host = with_more editor.host (given_slots more) }
joined-all [] editor = ap (λ (h : PlainHost). record editor { host = h }) (sym (nothing_more editor.host))
joined-all (x ∷ more) editor = joined-all more (joined editor x) ∙ ap (λ (h : PlainHost). record editor { host = h }) (one_more editor.host x (given_slots more))

-- a file that is open at the terminal has the text that it had
pub whole-more : (fs gs : PlainFiles) (n : ℕ) (ss : Slots KnownFile)
    → ((f : ℕ) → is_some (unwrap_or (slot ss f) blank_known).window ≡ true → file_at gs (n + f) ≡ file_at fs (n + f)) → whole_slots gs n ss ≡ whole_slots fs n ss
whole-more fs gs n [] same = refl
whole-more fs gs n (s ∷ ss) same = λ i. first s here i ∷ whole-more fs gs (suc n) ss (λ f e. subst (λ (k : ℕ). file_at gs k ≡ file_at fs k) (omega arith) (same (suc f) e)) i
  where
    here : is_some (unwrap_or s blank_known).window ≡ true → file_at gs n ≡ file_at fs n
    here e = subst (λ (k : ℕ). file_at gs k ≡ file_at fs k) (omega arith) (same 0 e)

    window : (known : KnownFile) (w : Option Window) → known.window ≡ w → (is_some w ≡ true → file_at gs n ≡ file_at fs n) → whole_file (file_at gs n).text known ≡ whole_file (file_at fs n).text known
    window known None e k = ap (λ (o : Option Window). record known { window = option_map (whole_window (file_at gs n).text) o }) e ∙ sym (ap (λ (o : Option Window). record known { window = option_map (whole_window (file_at fs n).text) o }) e)
    window known (Some w) e k = ap (λ (x : PlainFile). whole_file x.text known) (k refl)

    first : (s : Option KnownFile) → (is_some (unwrap_or s blank_known).window ≡ true → file_at gs n ≡ file_at fs n)
        → option_map (whole_file (file_at gs n).text) s ≡ option_map (whole_file (file_at fs n).text) s
    first None k = refl
    first (Some known) k = ap Some (window known known.window refl k)

-- where the terminal shows no file that the host was not given
pub rest-more : (h : PlainHost) (t : PlainTerminal) (more : Slots PlainFile) → ((f : ℕ) → is_open t f ≡ true → f < length h.files.slots)
    → at_rest (with_more h more) t ≡ record (at_rest h t) { host = with_more (at_rest h t).host more }
rest-more h t more given =
    ap (λ (ss : Slots KnownFile). record (at_rest h t) { host = with_more (at_rest h t).host more; term = record (at_rest h t).term { files = ss } })
    (whole-more h.files (more_files h.files more) 0 t.files (λ f e. subst (λ (k : ℕ). file_at (more_files h.files more) k ≡ file_at h.files k) (omega arith) (file-more h.files more f (given f e))))

-- an open file of a synced lens was given
pub opened_there : (fs : PlainFiles) (f : ℕ) (s : Option KnownFile) → is_some (unwrap_or s blank_known).window ≡ true → Fits_slot (slot_of s) (file_in fs.slots f) → f < length fs.slots
opened_there fs f s e fits = by (nat_lt f (length fs.slots)) refl
  where
    none : (s : Option KnownFile) → is_some (unwrap_or s blank_known).window ≡ true → Fits_slot (slot_of s) Absent → ⊥
    none s e fits = grind (arith, e, fits)

    by : (b : Bool) → nat_lt f (length fs.slots) ≡ b → f < length fs.slots
    by true q = grind (arith, q)
    by false q = absurd (none s e (subst (Fits_slot (slot_of s)) (not_given fs.slots f (grind (arith, q))) fits))

-- what both sides come to, with files that join, where the answers are as without them
pub come-to-more : (h : PlainHost) (t : PlainTerminal) (up : List Tmesg) (down : List Hmesg) (o : InOrder h t up down) (more : List (List ℕ × List ℕ))
    → answers (with_more h (given_slots more)) (up ++ unsent_message t.unsent) ≡ Some (with_more o.kept.ahead (given_slots more), o.kept.frames)
    → come_to (with_more h (given_slots more)) t up down ≡ done_on (come_to h t up down) (map Joined more)
come-to-more h t up down o more folds =
    let us = given_slots more in
    let z = term_ahead h t up down o in
    ap (answered_with (with_more h us) t down) folds
    ∙ rest-more o.kept.ahead z us (λ f e. opened_there o.kept.ahead.files f (slot z.files f) e (synced-ahead h t up down o f).3)
    ∙ sym (joined-all more (at_rest o.kept.ahead z)) ∙ ap (λ (editor : PlainEditor). done_on editor (map Joined more)) (sym (come-to-is h t up down o))

pub file_joins : FileJoins
file_joins editor name text =
    ap (λ (ss : Slots PlainFile). record editor { host = record editor.host { files = record editor.host.files { slots = ss } } }) (put_slot-push editor.host.files.slots (given_file (name, text)))

-- The messages that lock nothing: from synced to synced.
use Rattle.sam_crossing.proofs.Common.{PlainFile, true, ◌≡◌, ℕ, ◌+◌, ◌≤◌, false, ◌==◌, if◌then◌else◌, List, [], length, Option, None, refl, arith, rules, Agrees, agrees_typed, agrees_removed, max_runes, first_of_checks, file_at, cut_file, typed_file, Tcheck, Tworkfile, Ttype, Tcut, Tsnarf, Tstartsnarf, Tsetsnarf, Tack, is_command_line, PlainHost, host_checks, with_file, reply_check, reply_workfile, reply_cut, reply_snarf, reply_type, reply_startsnarf, reply_setsnarf, Open, Lens, lens, Opened, IsSynced, ComesToSync, file_in, HasFiles, PlainFile, Tmesg, reply_to}
use Rattle.sam_crossing.proofs.Changes.{typed_in, cut_out, change_by, changed}
use Rattle.sam_crossing.proofs.Accepting.{Synced, Accepted, Ready}
use Rattle.sam_crossing.proofs.HostFiles.{put, put_opened, Opens, lasts_opened, still_has}
use Rattle.sam_crossing.proofs.Tests.{open_tests, place_test, range_test, room_test}

-- an edit of f's rasp, made in the host's text too, and no frame
edit_case : (h k : PlainHost) (f : ℕ) (text : List ℕ) (e : Lens → Lens) → Opens h.files f → ((g : ℕ) → file_in k.files.slots g ≡ put (file_in h.files.slots) f (Opened text) g)
    → k.is_done ≡ h.is_done → k.version ≡ h.version
    → ((r : List (Option ℕ)) → Agrees r (file_at h.files f).text → IsSynced (e (lens false h.is_done h.version (Open r 0))) h.is_done h.version (Opened text))
    → (g : ℕ) (w : Lens) → IsSynced w h.is_done h.version (file_in h.files.slots g) → ComesToSync [] (if g == f then e w else w) k.is_done k.version (file_in k.files.slots g)
edit_case h k f text e o files done version keeps g w s = grind arith

-- a message that makes such an edit, and is answered by nothing
edited : (h : PlainHost) (m : Tmesg) (f : ℕ) (x : PlainFile) (e : Lens → Lens) → HasFiles h.files → Opens h.files f → x.opened ≡ true → first_of_checks (host_checks h m) ≡ None
    → reply_to h m ≡ (with_file h f x, []) → ((g : ℕ) (w : Lens) → changed (change_by m) g w ≡ (if g == f then e w else w))
    → ((r : List (Option ℕ)) → Agrees r (file_at h.files f).text → IsSynced (e (lens false h.is_done h.version (Open r 0))) h.is_done h.version (Opened x.text)) → Synced h m
edited h m f x e sound o opened passes reply change keeps =
    let files = put_opened h.files f o.given x opened in
    let lasts = lasts_opened (file_in h.files.slots) (file_in (with_file h f x).files.slots) f (file_at h.files f).text x.text o.shown files in
    let has = still_has h.files (with_file h f x).files sound refl lasts in
    let each = edit_case h (with_file h f x) f x.text e o files refl refl keeps in
    grind (arith, each, has, lasts, reply, change)

pub sync_cut : (h : PlainHost) → Ready h → (f p q : ℕ) → Accepted h (Tcut f p q) → Synced h (Tcut f p q)
unfolding reply_cut
sync_cut h r f p q a = edited h (Tcut f p q) f (cut_file f (file_at h.files f) p q) (cut_out p q) r.steady.sound a.0 a.0.opened (grind (arith, open_tests, range_test)) refl (λ g w. refl)
    (λ r y. (refl, refl, refl, (refl, agrees_removed r (file_at h.files f).text p q y)))

-- the tests of typing
pub type_passes : (h : PlainHost) (f p : ℕ) (s : List ℕ) → Opens h.files f → p ≤ length (file_at h.files f).text → length (file_at h.files f).text + length s ≤ max_runes
    → first_of_checks (host_checks h (Ttype f p s)) ≡ None
type_passes h f p s o l room = grind (arith, open_tests, place_test, room_test)

-- typing that ends no line of tag 0
pub sync_short : (h : PlainHost) (f p : ℕ) (s : List ℕ) → HasFiles h.files → Opens h.files f → p ≤ length (file_at h.files f).text → length (file_at h.files f).text + length s ≤ max_runes
    → is_command_line f s ≡ false → Synced h (Ttype f p s)
unfolding reply_type
sync_short h f p s sound o l room ends = edited h (Ttype f p s) f (typed_file f (file_at h.files f) p s) (typed_in p s) sound o o.opened (type_passes h f p s o l room) (grind arith) (grind arith)
    (λ r a. (refl, refl, refl, (refl, agrees_typed r (file_at h.files f).text s p a)))

pub sync_check : (h : PlainHost) → Ready h → (f : ℕ) → Accepted h (Tcheck f) → Synced h (Tcheck f)
unfolding reply_check
sync_check h r f a = grind arith

pub sync_work : (h : PlainHost) → Ready h → (f p q : ℕ) → Accepted h (Tworkfile f p q) → Synced h (Tworkfile f p q)
unfolding reply_workfile
sync_work h r f p q a = search (rules, put_opened)

pub sync_snarf : (h : PlainHost) → Ready h → (f p q : ℕ) → Accepted h (Tsnarf f p q) → Synced h (Tsnarf f p q)
unfolding reply_snarf
sync_snarf h r f p q a = grind arith

pub sync_get_snarf : (h : PlainHost) → Ready h → Accepted h Tstartsnarf → Synced h Tstartsnarf
unfolding reply_startsnarf
sync_get_snarf h r a = grind arith

pub sync_set_snarf : (h : PlainHost) → Ready h → (s : List ℕ) → Accepted h (Tsetsnarf s) → Synced h (Tsetsnarf s)
unfolding reply_setsnarf
sync_set_snarf h r s a = grind arith

pub sync_ack : (h : PlainHost) → Ready h → Accepted h Tack → Synced h Tack
sync_ack h r a = grind arith

pub ruleset edits = (sync_check, sync_work, sync_cut, sync_snarf, sync_get_snarf, sync_set_snarf, sync_ack)

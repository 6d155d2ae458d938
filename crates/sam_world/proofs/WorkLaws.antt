-- The host's work file is open at the start, and stays so with each file that is added and each answer.
use Rattle.sam_world.proofs.Common.{◌≡◌, refl, ap, ◌∙◌, ℕ, true, List, Option, None, arith, unwrap_or, first_of_checks, slot-put_same, slot-map, slot-free_other, opened_file, PlainFile, PlainFiles, PlainOutcome, blank_file, file_at, put_file, put_outcome, committed, answer_is, of_answer, PlainHost, host_checks, reply_to, Tmesg, HFrame, PlainWorld, new_world, WasReached, IsWorkOpen, AddedFilesKeepWorkOpen, AnswersKeepWorkOpen}
use Rattle.sam_text.specs.Files.{announce_all}
use Rattle.sam_host.specs.Marking.{marked}
use Rattle.sam_host.proofs.Keeping.{IsKept, reply_keeps}
use Rattle.sam_crossing.proofs.RunLaws.{run_keeps}
use Rattle.sam_world.proofs.TextLaws.{file_at-put, not-new, work-put}
use Rattle.sam_world.proofs.Within.{host_step}

-- the file that is put is open
open-there : (fs : PlainFiles) (g : ℕ) (x : PlainFile) → x.opened ≡ true → (file_at (put_file fs g x) g).opened ≡ true
open-there fs g x o = ap (λ s. (unwrap_or s blank_file).opened) (slot-put_same fs.slots g x) ∙ o

work-committed : (fs : PlainFiles) (o : PlainOutcome) → IsWorkOpen fs → IsWorkOpen (committed fs o)
work-committed fs o w = go o.file
  where
    go : (file : Option ℕ) → IsWorkOpen (put_outcome file fs o)
    go file = grind (arith, work-put)

-- ## Each change

work-announced : (fs : PlainFiles) → IsWorkOpen fs → IsWorkOpen (record fs { slots = announce_all fs.slots })
work-announced fs w = grind (arith, slot-map)

work_kept : IsKept IsWorkOpen
work_kept = grind (arith, work-announced, open-there, work-put, work-committed, slot-free_other)

reply_work : (h : PlainHost) (m : Tmesg) → first_of_checks (host_checks h m) ≡ None → IsWorkOpen h.files → IsWorkOpen (reply_to h m).0.files
reply_work h m checked w = reply_keeps IsWorkOpen work_kept h m checked (λ f is. open-there h.files f (opened_file (file_at h.files f)) refl) w

-- ## The laws

-- an open file is none under the next tag
pub added_files_keep_work_open : AddedFilesKeepWorkOpen
added_files_keep_work_open h given w = grind (arith, file_at-put, not-new)

pub answers_keep_work_open : AnswersKeepWorkOpen
answers_keep_work_open h g m frames e w =
    let P : PlainHost → List HFrame → Type 0 = λ g frames. IsWorkOpen g.files in
    of_answer P h g m frames e (answer_is P h m w (λ allowed. reply_work h m allowed w))

-- a mark opens and closes nothing
marked_keep_work_open : (h : PlainHost) (f : ℕ) → IsWorkOpen h.files → IsWorkOpen (marked h f).files
marked_keep_work_open h f w = grind (arith, work-put)

-- so it is open in every world
pub work_of : (w : PlainWorld) → WasReached w → IsWorkOpen w.host.files
work_of w r =
    run_keeps (λ v. IsWorkOpen v.host.files) (host_step (λ h. IsWorkOpen h.files) answers_keep_work_open (λ h name text short long w. added_files_keep_work_open h (name, text) w) (λ h f shown w. marked_keep_work_open h f w)) (new_world r.given) r.reached.0 w tt r.reached.1

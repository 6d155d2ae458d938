-- What a reply of the host frees and tells.
use Rattle.std.specs.Prelude.{◌≡◌, ℕ, Bool, true, if◌then◌else◌, ◌==◌, List, [], ◌∷◌, ◌++◌, None, Ok, MatchOption}
use Rattle.sam_runes.specs.Checks.{first_of_checks}
use Rattle.sam_runes.specs.Texts.{ins, del}
use Rattle.sam_text.specs.Files.{PlainFiles, AreFit, file_at, has_file}
use Rattle.sam_host.specs.Host.{PlainHost, Reply, answer, host_checks, new_host, reply_to, with_given}
use Rattle.sam_term.specs.declared.lock.Lock.{Lock}
use Rattle.sam_term.specs.declared.lock.Lock.TheVariants.{NoLock}
use Rattle.sam_term.specs.Events.{lock_of, freed_by, one_lock, all_freed}
use Rattle.sam_term.specs.Effect.{FramesRewrite}
use Rattle.sam_mesg.specs.declared.hmesg.Hmesg.{Hmesg}
use Rattle.sam_mesg.specs.declared.hmesg.HFrame.{HFrame}
use Rattle.sam_mesg.specs.declared.tmesg.Tmesg.{Tmesg}
use Rattle.sam_mesg.specs.declared.tmesg.Tmesg.TheVariants.{Tversion, Tstartcmdfile, Tcheck, Trequest, Torigin, Tstartfile, Tworkfile, Ttype, Tcut, Tpaste, Tsnarf, Tstartnewfile, Twrite, Tclose, Tlook, Tsearch, Tsend, Tdclick, Tstartsnarf, Tsetsnarf, Tack, Texit}

-- a request for a file that is gone gets no reply
abbrev pub has_reply : PlainHost → Tmesg → Bool
has_reply h (Tversion v) = true
has_reply h Tstartcmdfile = true
has_reply h (Tcheck g) = true
has_reply h (Trequest g p n) = has_file h.files g
has_reply h (Torigin g p n) = true
has_reply h (Tstartfile g) = true
has_reply h (Tworkfile g p q) = true
has_reply h (Ttype g p s) = true
has_reply h (Tcut g p q) = true
has_reply h (Tpaste g p) = true
has_reply h (Tsnarf g p q) = true
has_reply h Tstartnewfile = true
has_reply h (Twrite g) = true
has_reply h (Tclose g) = true
has_reply h (Tlook g p q) = true
has_reply h (Tsearch g p q) = true
has_reply h (Tsend g p q) = true
has_reply h (Tdclick g p) = true
has_reply h Tstartsnarf = true
has_reply h (Tsetsnarf s) = true
has_reply h Tack = true
has_reply h Texit = true

-- the text of f after a reply
abbrev pub text_in : Reply → ℕ → List ℕ
text_in reply f = (file_at reply.0.files f).text

-- what the terminal has changed itself before it sent the message
abbrev pub own_edit : Tmesg → ℕ → List ℕ → List ℕ
own_edit (Tversion v) f t = t
own_edit Tstartcmdfile f t = t
own_edit (Tcheck g) f t = t
own_edit (Trequest g p n) f t = t
own_edit (Torigin g p n) f t = t
own_edit (Tstartfile g) f t = t
own_edit (Tworkfile g p q) f t = t
own_edit (Ttype g p s) f t = if g == f then ins t p s else t
own_edit (Tcut g p q) f t = if g == f then del t p q else t
own_edit (Tpaste g p) f t = t
own_edit (Tsnarf g p q) f t = t
own_edit Tstartnewfile f t = t
own_edit (Twrite g) f t = t
own_edit (Tclose g) f t = t
own_edit (Tlook g p q) f t = t
own_edit (Tsearch g p q) f t = t
own_edit (Tsend g p q) f t = t
own_edit (Tdclick g p) f t = t
own_edit Tstartsnarf f t = t
own_edit (Tsetsnarf s) f t = t
own_edit Tack f t = t
own_edit Texit f t = t

-- the work file, where there is one, is open
abbrev pub IsWorkOpen : PlainFiles → Type 0
IsWorkOpen fs = MatchOption fs.work (Unit {0}) (λ g. (file_at fs g).opened ≡ true)

-- so it is at the start, and each file that is added and each answer keep it so
abbrev pub StartsWithWorkOpen : Type 0
StartsWithWorkOpen = (given : List (List ℕ × List ℕ)) → IsWorkOpen (new_host given).files

abbrev pub AddedFilesKeepWorkOpen : Type 0
AddedFilesKeepWorkOpen = (h : PlainHost) (given : List ℕ × List ℕ) → IsWorkOpen h.files → IsWorkOpen (with_given h given).files

abbrev pub AnswersKeepWorkOpen : Type 0
AnswersKeepWorkOpen =
    (h g : PlainHost) (m : Tmesg) (frames : List HFrame) → answer h m ≡ Ok (g, frames) → IsWorkOpen h.files → IsWorkOpen g.files

-- the frames of a reply free just the lock that composing its message took
abbrev pub RepliesFree : Type 0
RepliesFree = (h : PlainHost) (m : Tmesg) → has_reply h m ≡ true → all_freed (reply_to h m).1 ≡ one_lock (lock_of m)

-- the last frame frees this lock, and none before it frees any
pub record FreesLast (lock : Lock) (frames : List Hmesg) : Type 0 where
  pub front : List Hmesg
  pub last : Hmesg
  pub is : frames ≡ front ++ last ∷ []
  pub frees : freed_by last ≡ lock
  pub none : all_freed front ≡ []

-- where the message took a lock, the frame that frees it is the last of the reply: it comes after every frame that touches a rasp
abbrev pub RepliesFreeLast : Type 0
RepliesFreeLast = (h : PlainHost) (m : Tmesg) → has_reply h m ≡ true → (lock_of m ≡ NoLock → ⊥) → FreesLast (lock_of m) (reply_to h m).1

-- the frames of a reply tell how each open file's text changed: a partial text that agreed with the text as the terminal had
-- left it agrees, after the frames, with the host's new text
abbrev pub RepliesTell : Type 0
RepliesTell =
    (h : PlainHost) (m : Tmesg) (f : ℕ) → first_of_checks (host_checks h m) ≡ None → AreFit h.files → IsWorkOpen h.files
    → (file_at h.files f).opened ≡ true → (file_at (reply_to h m).0.files f).opened ≡ true
    → FramesRewrite f (reply_to h m).1 (own_edit m f (file_at h.files f).text) (text_in (reply_to h m) f)

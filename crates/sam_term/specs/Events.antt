-- What each kind of event, message and frame says by itself: the file that an event names, what it waits for and which message it
-- composes; the lock that a message takes; and the lock that a frame frees.
use Rattle.std.specs.Prelude.{[], ◌∷◌, ◌++◌, ℕ, Bool, true, false, ◌&&◌, if◌then◌else◌, ◌==◌, List, Option, Some, None}
use Rattle.sam_runes.specs.Texts.{ends_line}
use Rattle.sam_runes.specs.Slots.{Slots}
use Rattle.sam_mesg.specs.declared.tmesg.Tmesg.{Tmesg}
use Rattle.sam_mesg.specs.declared.tmesg.Tmesg.TheVariants.{Tversion, Tstartcmdfile, Tcheck, Trequest, Torigin, Tstartfile, Tworkfile, Ttype, Tcut, Tpaste, Tsnarf, Tstartnewfile, Twrite, Tclose, Tlook, Tsearch, Tsend, Tdclick, Tstartsnarf, Tsetsnarf, Tack, Texit}
use Rattle.sam_mesg.specs.declared.hmesg.Hmesg.{Hmesg}
use Rattle.sam_mesg.specs.declared.hmesg.Hmesg.TheVariants.{Hack, Hbindname, Hcheck, Hclean, Hclose, Hcurrent, Hcut, Hdata, Hdelname, Hdirty, Hexit, Hgrow, Hgrowdata, Hmoveto, Hmovname, Hnewname, Horigin, Hsetdot, Hsetpat, Hsetsnarf, Hsnarflen, Hunlock, Hunlockfile, Hversion}
use Rattle.sam_term.specs.declared.event.UserEvent.{UserEvent}
use Rattle.sam_term.specs.declared.event.UserEvent.TheVariants.{Check, Close, Cut, Dclick, Edit, Exit, Flush, GetSnarf, Load, Look, New, Open, OpenCmd, Paste, Scroll, Search, Select, Send, SetSnarf, Snarf, Typed, Version, View, Work, Write}
use Rattle.sam_term.specs.declared.lock.Lock.{Lock}
use Rattle.sam_term.specs.declared.lock.Lock.TheVariants.{NoLock, CommandLock, FileLock}
use Rattle.sam_term.specs.declared.records.KnownFile.{KnownFile}
use Rattle.sam_term.specs.Windows.{window_in}

-- ## Events

-- the file that an event names
abbrev pub file_of : UserEvent → Option ℕ
file_of (Typed f s) = Some f
file_of (Select f p q) = Some f
file_of (Cut f) = Some f
file_of (Paste f) = Some f
file_of (Snarf f) = Some f
file_of (Look f) = Some f
file_of (Search f) = Some f
file_of (Send f) = Some f
file_of (Dclick f p) = Some f
file_of (Scroll f n) = Some f
file_of (View f p n) = Some f
file_of (Load f p n) = Some f
file_of (Edit f p q s) = Some f
file_of (Open f) = Some f
file_of (Close f) = Some f
file_of (Write f) = Some f
file_of (Work f) = Some f
file_of OpenCmd = None
file_of New = None
file_of Exit = None
file_of (Check f) = Some f
file_of GetSnarf = None
file_of (SetSnarf s) = None
file_of (Version v) = None
file_of Flush = None

-- the text ends a line of the command file
abbrev pub is_command_line : ℕ → List ℕ → Bool
is_command_line f s = f == 0 && ends_line s

-- the event takes the command lock, so it waits until no lock at all is held
abbrev pub waits_for_all : UserEvent → Bool
waits_for_all (Typed f s) = is_command_line f s
waits_for_all (Send f) = true
waits_for_all (Open f) = true
waits_for_all (Close f) = true
waits_for_all OpenCmd = true
waits_for_all New = true
waits_for_all Exit = true
waits_for_all (Version v) = true
waits_for_all (Select f p q) = false
waits_for_all (Cut f) = false
waits_for_all (Paste f) = false
waits_for_all (Snarf f) = false
waits_for_all (Look f) = false
waits_for_all (Search f) = false
waits_for_all (Dclick f p) = false
waits_for_all (Scroll f n) = false
waits_for_all (View f p n) = false
waits_for_all (Load f p n) = false
waits_for_all (Edit f p q s) = false
waits_for_all (Write f) = false
waits_for_all (Work f) = false
waits_for_all (Check f) = false
waits_for_all GetSnarf = false
waits_for_all (SetSnarf s) = false
waits_for_all Flush = false

abbrev pub is_bad_version : UserEvent → Bool
is_bad_version (Version v) = v == 0
is_bad_version (Typed f s) = false
is_bad_version (Select f p q) = false
is_bad_version (Cut f) = false
is_bad_version (Paste f) = false
is_bad_version (Snarf f) = false
is_bad_version (Look f) = false
is_bad_version (Search f) = false
is_bad_version (Send f) = false
is_bad_version (Dclick f p) = false
is_bad_version (Scroll f n) = false
is_bad_version (View f p n) = false
is_bad_version (Load f p n) = false
is_bad_version (Edit f p q s) = false
is_bad_version (Open f) = false
is_bad_version (Close f) = false
is_bad_version (Write f) = false
is_bad_version (Work f) = false
is_bad_version OpenCmd = false
is_bad_version New = false
is_bad_version Exit = false
is_bad_version (Check f) = false
is_bad_version GetSnarf = false
is_bad_version (SetSnarf s) = false
is_bad_version Flush = false

-- the event names the command file, which takes none of its kind
abbrev pub is_for_command_file : UserEvent → Bool
is_for_command_file (Open f) = f == 0
is_for_command_file (Close f) = f == 0
is_for_command_file (Write f) = f == 0
is_for_command_file (Work f) = f == 0
is_for_command_file (Edit f p q s) = f == 0
is_for_command_file (Typed f s) = false
is_for_command_file (Select f p q) = false
is_for_command_file (Cut f) = false
is_for_command_file (Paste f) = false
is_for_command_file (Snarf f) = false
is_for_command_file (Look f) = false
is_for_command_file (Search f) = false
is_for_command_file (Send f) = false
is_for_command_file (Dclick f p) = false
is_for_command_file (Scroll f n) = false
is_for_command_file (View f p n) = false
is_for_command_file (Load f p n) = false
is_for_command_file OpenCmd = false
is_for_command_file New = false
is_for_command_file Exit = false
is_for_command_file (Check f) = false
is_for_command_file GetSnarf = false
is_for_command_file (SetSnarf s) = false
is_for_command_file (Version v) = false
is_for_command_file Flush = false

abbrev pub needs_open : UserEvent → Bool
needs_open (Open f) = false
needs_open (Typed f s) = true
needs_open (Select f p q) = true
needs_open (Cut f) = true
needs_open (Paste f) = true
needs_open (Snarf f) = true
needs_open (Look f) = true
needs_open (Search f) = true
needs_open (Send f) = true
needs_open (Dclick f p) = true
needs_open (Scroll f n) = true
needs_open (View f p n) = true
needs_open (Load f p n) = true
needs_open (Edit f p q s) = true
needs_open (Close f) = true
needs_open (Write f) = true
needs_open (Work f) = true
needs_open OpenCmd = true
needs_open New = true
needs_open Exit = true
needs_open (Check f) = true
needs_open GetSnarf = true
needs_open (SetSnarf s) = true
needs_open (Version v) = true
needs_open Flush = true

-- a message about the dot of f
abbrev pub about_dot : Slots KnownFile → ℕ → (ℕ → ℕ → ℕ → Tmesg) → Tmesg
about_dot files f message = let d = (window_in files f).dot in message f d.0 d.1

-- the message of an event that does nothing but compose it
abbrev pub message_of : Slots KnownFile → UserEvent → Option Tmesg
message_of files (Look f) = Some (about_dot files f Tlook)
message_of files (Search f) = Some (about_dot files f Tsearch)
message_of files (Send f) = Some (about_dot files f Tsend)
message_of files (Dclick f p) = Some (Tdclick f p)
message_of files (Scroll f n) = Some (Torigin f (window_in files f).view_start n)
message_of files (Open f) = Some (Tstartfile f)
message_of files (Close f) = Some (Tclose f)
message_of files (Write f) = Some (Twrite f)
message_of files (Work f) = Some (about_dot files f Tworkfile)
message_of files OpenCmd = Some Tstartcmdfile
message_of files New = Some Tstartnewfile
message_of files Exit = Some Texit
message_of files (Check f) = Some (Tcheck f)
message_of files GetSnarf = Some Tstartsnarf
message_of files (Version v) = Some (Tversion v)
message_of files (Typed f s) = None
message_of files (Select f p q) = None
message_of files (Cut f) = None
message_of files (Paste f) = None
message_of files (Snarf f) = None
message_of files (View f p n) = None
message_of files (Load f p n) = None
message_of files (Edit f p q s) = None
message_of files (SetSnarf s) = None
message_of files Flush = None

-- ## Locks

-- the lock that composing the message takes
abbrev pub lock_of : Tmesg → Lock
lock_of (Tversion v) = CommandLock
lock_of Tstartcmdfile = CommandLock
lock_of (Tcheck f) = NoLock
lock_of (Trequest f p n) = FileLock f
lock_of (Torigin f p n) = FileLock f
lock_of (Tstartfile f) = CommandLock
lock_of (Tworkfile f p q) = NoLock
lock_of (Ttype f p s) = if is_command_line f s then CommandLock else NoLock
lock_of (Tcut f p q) = NoLock
lock_of (Tpaste f p) = FileLock f
lock_of (Tsnarf f p q) = NoLock
lock_of Tstartnewfile = CommandLock
lock_of (Twrite f) = FileLock f
lock_of (Tclose f) = CommandLock
lock_of (Tlook f p q) = FileLock f
lock_of (Tsearch f p q) = FileLock f
lock_of (Tsend f p q) = CommandLock
lock_of (Tdclick f p) = FileLock f
lock_of Tstartsnarf = NoLock
lock_of (Tsetsnarf s) = NoLock
lock_of Tack = NoLock
lock_of Texit = CommandLock

-- the lock that a frame frees: one of a file, or the command lock; the end of the session frees that too
abbrev pub freed_by : Hmesg → Lock
freed_by Hunlock = CommandLock
freed_by (Hunlockfile f) = FileLock f
freed_by Hexit = CommandLock
freed_by (Hversion v) = NoLock
freed_by (Hbindname f) = NoLock
freed_by (Hcurrent f) = NoLock
freed_by (Hnewname f) = NoLock
freed_by (Hmovname f s) = NoLock
freed_by (Hgrow f p n) = NoLock
freed_by (Hcheck f) = NoLock
freed_by (Hdata f p s) = NoLock
freed_by (Horigin f p) = NoLock
freed_by (Hsetdot f p q) = NoLock
freed_by (Hgrowdata f p s) = NoLock
freed_by (Hmoveto f p) = NoLock
freed_by (Hclean f) = NoLock
freed_by (Hdirty f) = NoLock
freed_by (Hcut f p n) = NoLock
freed_by (Hsetpat s) = NoLock
freed_by (Hdelname f) = NoLock
freed_by (Hclose f) = NoLock
freed_by (Hsetsnarf s) = NoLock
freed_by (Hsnarflen n) = NoLock
freed_by Hack = NoLock

-- the lock, if it is one
abbrev pub one_lock : Lock → List Lock
one_lock NoLock = []
one_lock CommandLock = CommandLock ∷ []
one_lock (FileLock f) = FileLock f ∷ []

-- the locks that frames free, in order
unfoldable pub all_freed : List Hmesg → List Lock
all_freed [] = []
all_freed (m ∷ ms) = one_lock (freed_by m) ++ all_freed ms

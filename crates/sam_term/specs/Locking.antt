-- What composing a message does, by its lock.
use Rattle.std.specs.Prelude.{ℕ, Bool, true, false, ◌+◌, if◌then◌else◌}
use Rattle.sam_term.specs.declared.lock.Lock.{Lock}
use Rattle.sam_term.specs.declared.lock.Lock.TheVariants.{NoLock, CommandLock, FileLock}
use Rattle.sam_term.specs.Term.{PlainTerminal, is_open, window_at, put_window}
use Rattle.sam_mesg.specs.declared.tmesg.Tmesg.{Tmesg}
use Rattle.sam_mesg.specs.declared.tmesg.Tmesg.TheVariants.{Tversion, Tstartcmdfile, Tcheck, Trequest, Torigin, Tstartfile, Tworkfile, Ttype, Tcut, Tpaste, Tsnarf, Tstartnewfile, Twrite, Tclose, Tlook, Tsearch, Tsend, Tdclick, Tstartsnarf, Tsetsnarf, Tack, Texit}

-- the lock can be taken: a lock of a file needs the file open
abbrev pub is_lockable : PlainTerminal → Lock → Bool
is_lockable t NoLock = true
is_lockable t CommandLock = true
is_lockable t (FileLock f) = is_open t f

abbrev pub is_request : Tmesg → Bool
is_request (Trequest f p n) = true
is_request (Tversion v) = false
is_request Tstartcmdfile = false
is_request (Tcheck f) = false
is_request (Torigin f p n) = false
is_request (Tstartfile f) = false
is_request (Tworkfile f p q) = false
is_request (Ttype f p s) = false
is_request (Tcut f p q) = false
is_request (Tpaste f p) = false
is_request (Tsnarf f p q) = false
is_request Tstartnewfile = false
is_request (Twrite f) = false
is_request (Tclose f) = false
is_request (Tlook f p q) = false
is_request (Tsearch f p q) = false
is_request (Tsend f p q) = false
is_request (Tdclick f p) = false
is_request Tstartsnarf = false
is_request (Tsetsnarf s) = false
is_request Tack = false
is_request Texit = false

-- the count of awaited requests, after a message that may be one
abbrev pub awaited_with : Bool → ℕ → ℕ
awaited_with asks n = if asks then n + 1 else n

-- n requests of f are counted; each takes its lock, and awaits its data
abbrev pub awaiting : PlainTerminal → ℕ → ℕ → PlainTerminal
awaiting t f n =
    let w = window_at t f in
    record (put_window t f (record w { locks = w.locks + n; awaited = w.awaited + n })) { sent = t.sent + n }

-- a message is counted, and its lock taken
abbrev pub lock_added : Lock → Bool → PlainTerminal → PlainTerminal
lock_added NoLock asks t = record t { sent = t.sent + 1 }
lock_added CommandLock asks t = record t { sent = t.sent + 1; command_lock = true }
lock_added (FileLock f) asks t =
    let w = window_at t f in
    record (put_window t f (record w { locks = w.locks + 1; awaited = awaited_with asks w.awaited })) { sent = t.sent + 1 }

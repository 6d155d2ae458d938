-- Locks counted: what messages take as they are composed, and what a frame leaves.
use Rattle.std.specs.Prelude.{ℕ, ◌+◌, ◌-◌, Bool, true, false, ◌||◌, if◌then◌else◌, ◌==◌, List, [], ◌∷◌}
use Rattle.sam_term.specs.declared.lock.Lock.{Lock}
use Rattle.sam_term.specs.declared.lock.Lock.TheVariants.{NoLock, CommandLock, FileLock}
use Rattle.sam_term.specs.Events.{lock_of}
use Rattle.sam_mesg.specs.declared.tmesg.Tmesg.{Tmesg}
use Rattle.sam_mesg.specs.declared.tmesg.Tmesg.TheVariants.{Tversion, Tstartcmdfile, Tcheck, Trequest, Torigin, Tstartfile, Tworkfile, Ttype, Tcut, Tpaste, Tsnarf, Tstartnewfile, Twrite, Tclose, Tlook, Tsearch, Tsend, Tdclick, Tstartsnarf, Tsetsnarf, Tack, Texit}
use Rattle.sam_mesg.specs.declared.hmesg.Hmesg.{Hmesg}
use Rattle.sam_mesg.specs.declared.hmesg.Hmesg.TheVariants.{Hversion, Hbindname, Hcurrent, Hnewname, Hmovname, Hgrow, Hcheck, Hunlock, Hdata, Horigin, Hunlockfile, Hsetdot, Hgrowdata, Hmoveto, Hclean, Hdirty, Hcut, Hsetpat, Hdelname, Hclose, Hsetsnarf, Hsnarflen, Hack, Hexit}

-- ## What messages take

-- how many locks of f the lock is
abbrev pub locks_on : ℕ → Lock → ℕ
locks_on f NoLock = 0
locks_on f CommandLock = 0
locks_on f (FileLock g) = if g == f then 1 else 0

abbrev pub is_command_lock : Lock → Bool
is_command_lock NoLock = false
is_command_lock CommandLock = true
is_command_lock (FileLock g) = false

-- how many requests for data of f the message is
abbrev pub asks_for : ℕ → Tmesg → ℕ
asks_for f (Trequest g p n) = if g == f then 1 else 0
asks_for f (Tversion v) = 0
asks_for f Tstartcmdfile = 0
asks_for f (Tcheck g) = 0
asks_for f (Torigin g p n) = 0
asks_for f (Tstartfile g) = 0
asks_for f (Tworkfile g p q) = 0
asks_for f (Ttype g p s) = 0
asks_for f (Tcut g p q) = 0
asks_for f (Tpaste g p) = 0
asks_for f (Tsnarf g p q) = 0
asks_for f Tstartnewfile = 0
asks_for f (Twrite g) = 0
asks_for f (Tclose g) = 0
asks_for f (Tlook g p q) = 0
asks_for f (Tsearch g p q) = 0
asks_for f (Tsend g p q) = 0
asks_for f (Tdclick g p) = 0
asks_for f Tstartsnarf = 0
asks_for f (Tsetsnarf s) = 0
asks_for f Tack = 0
asks_for f Texit = 0

-- how many of the messages take a lock of f
abbrev pub locks_taken : ℕ → List Tmesg → ℕ
locks_taken f [] = 0
locks_taken f (m ∷ ms) = locks_on f (lock_of m) + locks_taken f ms

-- one of the messages takes the command lock
abbrev pub takes_command : List Tmesg → Bool
takes_command [] = false
takes_command (m ∷ ms) = is_command_lock (lock_of m) || takes_command ms

-- how many of the messages ask for data of f
abbrev pub requests : ℕ → List Tmesg → ℕ
requests f [] = 0
requests f (m ∷ ms) = asks_for f m + requests f ms

-- ## What a frame leaves

-- of n locks of f: none where f is opened, closed, made known or dropped, or where the session ends; one less, if there is one,
-- where one is freed
abbrev pub locks_left : Hmesg → ℕ → ℕ → ℕ
locks_left (Hbindname g) f n = if g == f then 0 else n
locks_left (Hnewname g) f n = if g == f then 0 else n
locks_left (Hunlockfile g) f n = if g == f then n - 1 else n
locks_left (Hdelname g) f n = if g == f then 0 else n
locks_left (Hclose g) f n = if g == f then 0 else n
locks_left Hexit f n = 0
locks_left (Hversion v) f n = n
locks_left (Hcurrent g) f n = n
locks_left (Hmovname g s) f n = n
locks_left (Hgrow g p k) f n = n
locks_left (Hcheck g) f n = n
locks_left Hunlock f n = n
locks_left (Hdata g p s) f n = n
locks_left (Horigin g p) f n = n
locks_left (Hsetdot g p q) f n = n
locks_left (Hgrowdata g p s) f n = n
locks_left (Hmoveto g p) f n = n
locks_left (Hclean g) f n = n
locks_left (Hdirty g) f n = n
locks_left (Hcut g p k) f n = n
locks_left (Hsetpat s) f n = n
locks_left (Hsetsnarf s) f n = n
locks_left (Hsnarflen k) f n = n
locks_left Hack f n = n

-- whether the command lock is held still
abbrev pub command_left : Hmesg → Bool → Bool
command_left Hunlock held = false
command_left Hexit held = false
command_left (Hversion v) held = held
command_left (Hbindname f) held = held
command_left (Hcurrent f) held = held
command_left (Hnewname f) held = held
command_left (Hmovname f s) held = held
command_left (Hgrow f p n) held = held
command_left (Hcheck f) held = held
command_left (Hdata f p s) held = held
command_left (Horigin f p) held = held
command_left (Hunlockfile f) held = held
command_left (Hsetdot f p q) held = held
command_left (Hgrowdata f p s) held = held
command_left (Hmoveto f p) held = held
command_left (Hclean f) held = held
command_left (Hdirty f) held = held
command_left (Hcut f p n) held = held
command_left (Hsetpat s) held = held
command_left (Hdelname f) held = held
command_left (Hclose f) held = held
command_left (Hsetsnarf s) held = held
command_left (Hsnarflen n) held = held
command_left Hack held = held

-- of n awaited requests for data of f: none where f is opened, closed, made known or dropped, or where the session ends; one less, if
-- there is one, where data come
abbrev pub awaited_left : Hmesg → ℕ → ℕ → ℕ
awaited_left (Hbindname g) f n = if g == f then 0 else n
awaited_left (Hnewname g) f n = if g == f then 0 else n
awaited_left (Hdata g p s) f n = if g == f then n - 1 else n
awaited_left (Hdelname g) f n = if g == f then 0 else n
awaited_left (Hclose g) f n = if g == f then 0 else n
awaited_left Hexit f n = 0
awaited_left (Hversion v) f n = n
awaited_left (Hcurrent g) f n = n
awaited_left (Hmovname g s) f n = n
awaited_left (Hgrow g p k) f n = n
awaited_left (Hcheck g) f n = n
awaited_left Hunlock f n = n
awaited_left (Horigin g p) f n = n
awaited_left (Hunlockfile g) f n = n
awaited_left (Hsetdot g p q) f n = n
awaited_left (Hgrowdata g p s) f n = n
awaited_left (Hmoveto g p) f n = n
awaited_left (Hclean g) f n = n
awaited_left (Hdirty g) f n = n
awaited_left (Hcut g p k) f n = n
awaited_left (Hsetpat s) f n = n
awaited_left (Hsetsnarf s) f n = n
awaited_left (Hsnarflen k) f n = n
awaited_left Hack f n = n

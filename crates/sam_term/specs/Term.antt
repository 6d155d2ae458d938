-- The plain terminal: what it composes for each event and frame, and its state after it.
use Rattle.std.specs.Prelude.{ℕ, zero, suc, ◌+◌, ◌-◌, min, Bool, true, false, not, ◌&&◌, ◌||◌, if◌then◌else◌, ◌==◌, nat_lt, nat_le, List, [], ◌∷◌, ◌++◌, length, map, replicate, take, drop, Option, Some, None, is_some, unwrap_or, option_map, Result, Ok, Err}
use Rattle.sam_runes.specs.Texts.{Range, is_empty, max_runes, most_count, most_in_message, snarf_limit, agreed, utf8_length}
use Rattle.sam_runes.specs.Slots.{Slots, slot, put_slot, free_slot, map_slots}
use Rattle.sam_runes.specs.Checks.{Checks, first_of_checks}
use Rattle.sam_rasp.specs.Rasp.{PartialText, ins_cells, del_cells, load_cells, hole_within, place_after_ins, place_after_del}
use Rattle.sam_term.specs.declared.lock.Lock.{Lock}
use Rattle.sam_term.specs.declared.lock.Lock.TheVariants.{NoLock, CommandLock, FileLock}
use Rattle.sam_term.specs.Windows.{blank_window, blank_known, known_in}
use Rattle.sam_term.specs.Events.{file_of, is_command_line, waits_for_all, is_bad_version, is_for_command_file, needs_open, message_of, lock_of}
use Rattle.sam_term.specs.declared.event.UserEvent.{UserEvent}
use Rattle.sam_term.specs.declared.event.UserEvent.TheVariants.{Check, Close, Cut, Dclick, Edit, Exit, Flush, GetSnarf, Load, Look, New, Open, OpenCmd, Paste, Scroll, Search, Select, Send, SetSnarf, Snarf, Typed, Version, View, Work, Write}
use Rattle.sam_mesg.specs.declared.tmesg.Tmesg.{Tmesg}
use Rattle.sam_mesg.specs.declared.tmesg.Tmesg.TheVariants.{Tack, Tcheck, Tclose, Tcut, Tdclick, Texit, Tlook, Torigin, Tpaste, Trequest, Tsearch, Tsend, Tsetsnarf, Tsnarf, Tstartcmdfile, Tstartfile, Tstartnewfile, Tstartsnarf, Ttype, Tversion, Tworkfile, Twrite}
use Rattle.sam_mesg.specs.declared.hmesg.Hmesg.{Hmesg}
use Rattle.sam_mesg.specs.declared.hmesg.Hmesg.TheVariants.{Hversion, Hbindname, Hcurrent, Hnewname, Hmovname, Hgrow, Hcheck, Hunlock, Hdata, Horigin, Hunlockfile, Hsetdot, Hgrowdata, Hmoveto, Hclean, Hdirty, Hcut, Hsetpat, Hdelname, Hclose, Hsetsnarf, Hsnarflen, Hack, Hexit}
use Rattle.sam_mesg.specs.declared.hmesg.HFrame.{HFrame}
use Rattle.sam_term.specs.declared.records.Window.{Window}
use Rattle.sam_term.specs.declared.records.KnownFile.{KnownFile}
use Rattle.sam_term.specs.declared.records.Unsent.{Unsent}
use Rattle.sam_term.specs.declared.event.Acted.{Acted}
use Rattle.sam_term.specs.declared.event.Acted.TheVariants.{Idle, Locked, Done, Refused}
use Rattle.sam_term.specs.declared.event.Verdict.{Verdict}
use Rattle.sam_term.specs.declared.event.Verdict.TheVariants.{Waits, Refuses}
use Rattle.sam_term.specs.declared.fault.Refusal.TheVariants as refusal
use Rattle.sam_term.specs.declared.fault.TermFault.{TermFault}
use Rattle.sam_term.specs.declared.fault.TermFault.TheVariants as fault

-- the terminal
pub record PlainTerminal : Type 0 where
  pub files : Slots KnownFile
  pub current : Option ℕ
  pub command_lock : Bool
  pub has_exited : Bool
  pub unsent : Option Unsent
  pub held : List UserEvent  -- the oldest first
  pub sent : ℕ  -- how many messages were composed
  pub version : ℕ
  pub pattern : List ℕ
  pub snarf : List ℕ
  pub snarf_length : ℕ

abbrev pub new_terminal : PlainTerminal
new_terminal =
    record {
      files = [];
      current = None;
      command_lock = false;
      has_exited = false;
      unsent = None;
      held = [];
      sent = 0;
      version = 1;
      pattern = [];
      snarf = [];
      snarf_length = 0;
    }

-- ## Files of the terminal

abbrev pub is_known : PlainTerminal → ℕ → Bool
is_known t f = is_some (slot t.files f)

abbrev pub known_at : PlainTerminal → ℕ → KnownFile
known_at t f = known_in t.files f

abbrev pub window_of : PlainTerminal → ℕ → Option Window
window_of t f = (known_at t f).window

abbrev pub is_open : PlainTerminal → ℕ → Bool
is_open t f = is_some (window_of t f)

-- the window of a file, a blank one where it is not open
abbrev pub window_at : PlainTerminal → ℕ → Window
window_at t f = unwrap_or (window_of t f) blank_window

abbrev pub put_known : PlainTerminal → ℕ → KnownFile → PlainTerminal
put_known t f known = record t { files = put_slot t.files f known }

abbrev pub put_window : PlainTerminal → ℕ → Window → PlainTerminal
put_window t f w = put_known t f (record (known_at t f) { window = Some w })

-- the file may differ from what was written last: the host's mark says so, or the user changed it here since; the command file, which is
-- never written, never does
abbrev pub is_changed : PlainTerminal → ℕ → Bool
is_changed t f = not (f == 0) && ((known_at t f).dirty || (known_at t f).changed)

-- ## Partial texts, and the places that move with them

-- the window after these members are put in at p
abbrev pub window_after_ins : Window → ℕ → PartialText → Window
window_after_ins w p cells =
    let moved = place_after_ins p (length cells) in
    record w { rasp = ins_cells w.rasp p cells; dot = (moved w.dot.0, moved w.dot.1); view_start = moved w.view_start }

-- the window after what stands from p to q is removed
abbrev pub window_after_del : Window → ℕ → ℕ → Window
window_after_del w p q =
    let moved = place_after_del p q in
    record w { rasp = del_cells w.rasp p q; dot = (moved w.dot.0, moved w.dot.1); view_start = moved w.view_start }

-- unsent runes of the file f move with its text
abbrev pub moved_unsent : ℕ → (ℕ → ℕ) → Option Unsent → Option Unsent
moved_unsent f moved None = None
moved_unsent f moved (Some u) = if u.file == f then Some (record u { place = moved u.place }) else Some u

abbrev pub ins_rasp : PlainTerminal → ℕ → ℕ → PartialText → PlainTerminal
ins_rasp t f p cells =
    record (put_window t f (window_after_ins (window_at t f) p cells)) {
      unsent = moved_unsent f (place_after_ins p (length cells)) t.unsent;
    }

abbrev pub del_rasp : PlainTerminal → ℕ → ℕ → ℕ → PlainTerminal
del_rasp t f p q =
    record (put_window t f (window_after_del (window_at t f) p q)) {
      unsent = moved_unsent f (place_after_del p q) t.unsent;
    }

abbrev pub set_dot_of : PlainTerminal → ℕ → Range → PlainTerminal
set_dot_of t f d = put_window t f (record (window_at t f) { dot = d })

abbrev pub set_view_start : PlainTerminal → ℕ → ℕ → PlainTerminal
set_view_start t f p = put_window t f (record (window_at t f) { view_start = p })

-- the user changed the text of f here
abbrev pub edited : PlainTerminal → ℕ → PlainTerminal
edited t f = put_known t f (record (known_at t f) { changed = true })

-- the user cuts what stands from p to q
abbrev pub cut_rasp : PlainTerminal → ℕ → ℕ → ℕ → PlainTerminal
cut_rasp t f p q = del_rasp (edited t f) f p q

abbrev pub has_empty_dot : PlainTerminal → ℕ → Bool
has_empty_dot t f = let d = (window_at t f).dot in d.0 == d.1

-- ## Locks

abbrev pub lock_taken : Lock → PlainTerminal → PlainTerminal
lock_taken NoLock t = t
lock_taken CommandLock t = record t { command_lock = true }
lock_taken (FileLock f) t = put_window t f (record (window_at t f) { locks = (window_at t f).locks + 1 })

-- some file is locked
abbrev pub is_any_locked : Slots KnownFile → Bool
is_any_locked [] = false
is_any_locked (None ∷ ss) = is_any_locked ss
is_any_locked (Some known ∷ ss) = nat_lt 0 (unwrap_or known.window blank_window).locks || is_any_locked ss

-- a window without locks, which awaits nothing
abbrev pub free_window : Option Window → Option Window
free_window None = None
free_window (Some w) = Some (record w { locks = 0; awaited = 0 })

-- ## Composing messages

-- the terminal, with messages that it composed
abbrev pub Made : Type 0
Made = PlainTerminal × List Tmesg

abbrev pub made_then : Made → (PlainTerminal → Made) → Made
made_then made next = ((next made.0).0, made.1 ++ (next made.0).1)

-- one more request awaits its data
abbrev pub asked : Tmesg → PlainTerminal → PlainTerminal
asked (Trequest f p n) t = put_window t f (record (window_at t f) { awaited = (window_at t f).awaited + 1 })
asked (Tversion v) t = t
asked Tstartcmdfile t = t
asked (Tcheck f) t = t
asked (Torigin f p n) t = t
asked (Tstartfile f) t = t
asked (Tworkfile f p q) t = t
asked (Ttype f p s) t = t
asked (Tcut f p q) t = t
asked (Tpaste f p) t = t
asked (Tsnarf f p q) t = t
asked Tstartnewfile t = t
asked (Twrite f) t = t
asked (Tclose f) t = t
asked (Tlook f p q) t = t
asked (Tsearch f p q) t = t
asked (Tsend f p q) t = t
asked (Tdclick f p) t = t
asked Tstartsnarf t = t
asked (Tsetsnarf s) t = t
asked Tack t = t
asked Texit t = t

-- one message is composed: it is counted, and takes its lock
abbrev pub composed : PlainTerminal → Tmesg → PlainTerminal
composed t m = asked m (lock_taken (lock_of m) (record t { sent = t.sent + 1 }))

abbrev pub all_composed : PlainTerminal → List Tmesg → PlainTerminal
all_composed t [] = t
all_composed t (m ∷ ms) = all_composed (composed t m) ms

-- the unsent runes as a message
abbrev pub unsent_message : Option Unsent → List Tmesg
unsent_message None = []
unsent_message (Some u) = Ttype u.file u.place u.runes ∷ []

-- unsent runes become a Ttype
unfoldable pub flushed : PlainTerminal → Made
flushed t = (all_composed (record t { unsent = None }) (unsent_message t.unsent), unsent_message t.unsent)

-- the unsent runes are sent, then the terminal changes, and these messages are composed
abbrev pub sends : PlainTerminal → (PlainTerminal → PlainTerminal) → List Tmesg → Made
sends t change ms = made_then (flushed t) (λ u. (all_composed (change u) ms, ms))

-- only a message that there is sends the unsent runes
abbrev pub sends_if : Option Tmesg → PlainTerminal → Made
sends_if None t = (t, [])
sends_if (Some m) t = sends t (λ u. u) (m ∷ [])

abbrev pub unchanged : PlainTerminal → PlainTerminal
unchanged t = t

-- where the view of a window ends
abbrev pub view_end : Window → ℕ
view_end w = min (w.view_start + w.view_length) (length w.rasp)

abbrev pub request_for : ℕ → Option (ℕ × ℕ) → Option Tmesg
request_for f None = None
request_for f (Some h) = Some (Trequest f h.0 (min (h.1 - h.0) most_in_message))

-- the request rule: the first gap inside the view of f is asked for, unless a request is awaited already
abbrev pub wanted : PlainTerminal → ℕ → Option Tmesg
wanted t f =
    let w = window_at t f in
    if is_open t f && not t.has_exited && w.awaited == 0
    then request_for f (hole_within w.rasp w.view_start (view_end w))
    else None

unfoldable pub requested : PlainTerminal → ℕ → Made
requested t f = sends_if (wanted t f) t

-- ## Asking for all gaps at once

-- the most requests that one event composes: as many as the longest text wants
abbrev pub most_requests : ℕ
most_requests = 1954

-- the front of a stretch, of which one message can ask, by its start and its length
abbrev pub front_of : ℕ × ℕ → ℕ × ℕ
front_of h = (h.0, min (h.1 - h.0) most_in_message)

-- the gaps from p to q, first to last, in such stretches: the first n of them, or all if they are fewer
unfoldable pub stretches : PartialText → ℕ → ℕ → ℕ → List (ℕ × ℕ)
stretches rasp p q zero = []
stretches rasp p q (suc n) =
    elim (option_map front_of (hole_within rasp p q)) [ None ↦ [] | Some s ↦ s ∷ stretches rasp (s.0 + s.1) q n ]

-- a request for each of these stretches
abbrev pub requests_for : ℕ → List (ℕ × ℕ) → List Tmesg
requests_for f = map (λ s. Trequest f s.0 s.1)

-- the stretches of gaps inside the view of f
abbrev pub gaps_shown : PlainTerminal → ℕ → List (ℕ × ℕ)
gaps_shown t f = let w = window_at t f in stretches w.rasp w.view_start (view_end w) most_requests

-- the requests for all of them
unfoldable pub all_wanted : PlainTerminal → ℕ → List Tmesg
all_wanted t f = requests_for f (gaps_shown t f)

-- only messages that there are send the unsent runes
abbrev pub sends_all : List Tmesg → PlainTerminal → Made
sends_all [] t = (t, [])
sends_all (m ∷ ms) t = sends t unchanged (m ∷ ms)

-- ## User events, a function for each kind

-- these runes follow the unsent ones directly, and all fit in one message
abbrev pub joins : Option Unsent → ℕ → ℕ → List ℕ → Bool
joins None f p s = false
joins (Some u) f p s = u.file == f && u.place + length u.runes == p && nat_le (length u.runes + length s) most_in_message

abbrev pub joined : Option Unsent → ℕ → ℕ → List ℕ → Unsent
joined None f p s = record { file = f; place = p; runes = s }
joined (Some u) f p s = record u { runes = u.runes ++ s }

-- s becomes unsent after the runes that it joins; others are sent first
abbrev pub kept_unsent : PlainTerminal → ℕ → ℕ → List ℕ → Made
kept_unsent t f p s =
    if joins t.unsent f p s
    then (record t { unsent = Some (joined t.unsent f p s) }, [])
    else made_then (flushed t) (λ u. (record u { unsent = Some (joined None f p s) }, []))

-- the user types s at p, with the dot after it
abbrev pub typed_rasp : PlainTerminal → ℕ → ℕ → List ℕ → PlainTerminal
typed_rasp t f p s = set_dot_of (ins_rasp (edited t f) f p (map Some s)) f (p + length s, p + length s)

-- s typed at p, where the cut dot began
abbrev pub types : PlainTerminal → ℕ → ℕ → List ℕ → Made
types t f p s =
    made_then (kept_unsent t f p s)
    (λ u. let typed = typed_rasp u f p s in if is_command_line f s then flushed typed else (typed, []))

-- the dot is cut, if it is not empty
abbrev pub cuts_dot : PlainTerminal → ℕ → Made
cuts_dot t f =
    let d = (window_at t f).dot in
    if has_empty_dot t f then (t, []) else sends t (λ u. cut_rasp u f d.0 d.1) (Tcut f d.0 d.1 ∷ [])

unfoldable pub made_by_type : PlainTerminal → ℕ → List ℕ → Made
made_by_type t f s =
    made_then (cuts_dot t f) (λ u. if is_empty s then (u, []) else types u f (window_at t f).dot.0 s)

unfoldable pub made_by_cut : PlainTerminal → ℕ → Made
made_by_cut t f =
    let d = (window_at t f).dot in
    if has_empty_dot t f
    then (t, [])
    else sends t (λ u. cut_rasp u f d.0 d.1) (Tsnarf f d.0 d.1 ∷ Tcut f d.0 d.1 ∷ [])

unfoldable pub made_by_paste : PlainTerminal → ℕ → Made
made_by_paste t f =
    made_then (cuts_dot t f) (λ u. sends u unchanged (Tpaste f (window_at t f).dot.0 ∷ []))

unfoldable pub made_by_snarf : PlainTerminal → ℕ → Made
made_by_snarf t f =
    let d = (window_at t f).dot in
    if has_empty_dot t f then (t, []) else sends t unchanged (Tsnarf f d.0 d.1 ∷ [])

unfoldable pub made_by_view : PlainTerminal → ℕ → ℕ → ℕ → Made
made_by_view t f p n = requested (put_window t f (record (window_at t f) { view_start = p; view_length = n })) f

-- as a view, but all gaps are asked for at once
unfoldable pub made_by_load : PlainTerminal → ℕ → ℕ → ℕ → Made
made_by_load t f p n =
    let u = put_window t f (record (window_at t f) { view_start = p; view_length = n }) in sends_all (all_wanted u f) u

-- the cut of a range as messages: one, or none where the range is empty
abbrev pub cut_message : ℕ → Range → List Tmesg
cut_message f d = if d.0 == d.1 then [] else Tcut f d.0 d.1 ∷ []

-- the text s in pieces that one message each can have, each with its place, the first at p; n pieces at most
unfoldable pub pieces : ℕ → ℕ → List ℕ → List (ℕ × List ℕ)
pieces zero p s = []
pieces (suc n) p s =
    if is_empty s then [] else (p, take most_in_message s) ∷ pieces n (p + most_in_message) (drop most_in_message s)

-- a message for each of these pieces
abbrev pub typed_pieces : ℕ → List (ℕ × List ℕ) → List Tmesg
typed_pieces f = map (λ piece. Ttype f piece.0 piece.1)

-- the messages by which s comes in the place of what stands from p to q: a text has no more pieces than runes
abbrev pub edit_messages : ℕ → ℕ → ℕ → List ℕ → List Tmesg
edit_messages f p q s = cut_message f (p, q) ++ typed_pieces f (pieces (length s) p s)

-- what stands from p to q gives way to s, and the dot moves as other places do
abbrev pub replaced : PlainTerminal → ℕ → ℕ → ℕ → List ℕ → PlainTerminal
replaced t f p q s = ins_rasp (cut_rasp t f p q) f p (map Some s)

-- nothing is done where nothing goes and nothing comes
unfoldable pub made_by_edit : PlainTerminal → ℕ → ℕ → ℕ → List ℕ → Made
made_by_edit t f p q s =
    if p == q && is_empty s then (t, []) else sends t (λ u. replaced u f p q s) (edit_messages f p q s)

-- what the event does, by that message
abbrev pub outcome_by : Option Tmesg → PlainTerminal → UserEvent → Made
outcome_by (Some m) t e = sends t unchanged (m ∷ [])
outcome_by None t (Typed f s) = made_by_type t f s
outcome_by None t (Select f p q) = (set_dot_of t f (p, q), [])
outcome_by None t (Cut f) = made_by_cut t f
outcome_by None t (Paste f) = made_by_paste t f
outcome_by None t (Snarf f) = made_by_snarf t f
outcome_by None t (View f p n) = made_by_view t f p n
outcome_by None t (Load f p n) = made_by_load t f p n
outcome_by None t (Edit f p q s) = made_by_edit t f p q s
outcome_by None t (SetSnarf s) = sends t unchanged (Tsetsnarf s ∷ [])
outcome_by None t Flush = flushed t
-- the others have a message
outcome_by None t (Look f) = (t, [])
outcome_by None t (Search f) = (t, [])
outcome_by None t (Send f) = (t, [])
outcome_by None t (Dclick f p) = (t, [])
outcome_by None t (Scroll f n) = (t, [])
outcome_by None t (Open f) = (t, [])
outcome_by None t (Close f) = (t, [])
outcome_by None t (Write f) = (t, [])
outcome_by None t (Work f) = (t, [])
outcome_by None t OpenCmd = (t, [])
outcome_by None t New = (t, [])
outcome_by None t Exit = (t, [])
outcome_by None t (Check f) = (t, [])
outcome_by None t GetSnarf = (t, [])
outcome_by None t (Version v) = (t, [])

-- what an event does that nothing stands against
abbrev pub event_outcome : PlainTerminal → UserEvent → Made
event_outcome t e = outcome_by (message_of t.files e) t e

-- ## What holds an event back

abbrev pub is_unknown : PlainTerminal → Option ℕ → Bool
is_unknown t None = false
is_unknown t (Some f) = not (is_known t f)

abbrev pub is_closed : PlainTerminal → Option ℕ → Bool
is_closed t None = false
is_closed t (Some f) = not (is_open t f)

abbrev pub is_file_locked : PlainTerminal → Option ℕ → Bool
is_file_locked t None = false
is_file_locked t (Some f) = nat_lt 0 (window_at t f).locks

abbrev pub has_bad_place : PlainTerminal → UserEvent → Bool
has_bad_place t (Select f p q) = nat_lt q p || nat_lt (length (window_at t f).rasp) q
has_bad_place t (Dclick f p) = nat_lt (length (window_at t f).rasp) p
has_bad_place t (View f p n) = nat_lt (length (window_at t f).rasp) p
has_bad_place t (Load f p n) = nat_lt (length (window_at t f).rasp) p
has_bad_place t (Edit f p q s) = nat_lt q p || nat_lt (length (window_at t f).rasp) q
has_bad_place t (Typed f s) = false
has_bad_place t (Cut f) = false
has_bad_place t (Paste f) = false
has_bad_place t (Snarf f) = false
has_bad_place t (Look f) = false
has_bad_place t (Search f) = false
has_bad_place t (Send f) = false
has_bad_place t (Scroll f n) = false
has_bad_place t (Open f) = false
has_bad_place t (Close f) = false
has_bad_place t (Write f) = false
has_bad_place t (Work f) = false
has_bad_place t OpenCmd = false
has_bad_place t New = false
has_bad_place t Exit = false
has_bad_place t (Check f) = false
has_bad_place t GetSnarf = false
has_bad_place t (SetSnarf s) = false
has_bad_place t (Version v) = false
has_bad_place t Flush = false

abbrev pub has_long_text : PlainTerminal → UserEvent → Bool
has_long_text t (Typed f s) = nat_lt most_in_message (length s)
has_long_text t (SetSnarf s) = nat_lt (snarf_limit t.version) (utf8_length s)
has_long_text t (Select f p q) = false
has_long_text t (Cut f) = false
has_long_text t (Paste f) = false
has_long_text t (Snarf f) = false
has_long_text t (Look f) = false
has_long_text t (Search f) = false
has_long_text t (Send f) = false
has_long_text t (Dclick f p) = false
has_long_text t (Scroll f n) = false
has_long_text t (View f p n) = false
has_long_text t (Load f p n) = false
has_long_text t (Edit f p q s) = false
has_long_text t (Open f) = false
has_long_text t (Close f) = false
has_long_text t (Write f) = false
has_long_text t (Work f) = false
has_long_text t OpenCmd = false
has_long_text t New = false
has_long_text t Exit = false
has_long_text t (Check f) = false
has_long_text t GetSnarf = false
has_long_text t (Version v) = false
has_long_text t Flush = false

-- what is left of the file's text beside the dot or the range, with the new runes, would be too long
abbrev pub makes_too_long : PlainTerminal → UserEvent → Bool
makes_too_long t (Typed f s) =
    let w = window_at t f in
    nat_lt max_runes (length w.rasp - (w.dot.1 - w.dot.0) + length s)
makes_too_long t (Edit f p q s) = nat_lt max_runes (length (window_at t f).rasp - (q - p) + length s)
makes_too_long t (Select f p q) = false
makes_too_long t (Cut f) = false
makes_too_long t (Paste f) = false
makes_too_long t (Snarf f) = false
makes_too_long t (Look f) = false
makes_too_long t (Search f) = false
makes_too_long t (Send f) = false
makes_too_long t (Dclick f p) = false
makes_too_long t (Scroll f n) = false
makes_too_long t (View f p n) = false
makes_too_long t (Load f p n) = false
makes_too_long t (Open f) = false
makes_too_long t (Close f) = false
makes_too_long t (Write f) = false
makes_too_long t (Work f) = false
makes_too_long t OpenCmd = false
makes_too_long t New = false
makes_too_long t Exit = false
makes_too_long t (Check f) = false
makes_too_long t GetSnarf = false
makes_too_long t (SetSnarf s) = false
makes_too_long t (Version v) = false
makes_too_long t Flush = false

-- what stands against an event, in its order
abbrev pub event_checks : PlainTerminal → UserEvent → Checks Verdict
event_checks t e =
    (t.has_exited, Refuses refusal.Exited)
    ∷ (t.command_lock, Waits)
    ∷ (is_bad_version e, Refuses refusal.BadVersion)
    ∷ (is_unknown t (file_of e), Refuses refusal.NoFile)
    ∷ (is_for_command_file e, Refuses refusal.CommandFile)
    ∷ (needs_open e && is_closed t (file_of e), Refuses refusal.NotOpen)
    ∷ (is_file_locked t (file_of e) || (waits_for_all e && is_any_locked t.files), Waits)
    ∷ (has_bad_place t e, Refuses refusal.BadPosition)
    ∷ (has_long_text t e, Refuses refusal.TextTooLong)
    ∷ (makes_too_long t e, Refuses refusal.TooLong)
    ∷ []

-- ## Act and flush

-- a result, unless the count of composed messages would be passed
abbrev pub if_countable : {A : Type 0} → ℕ → A → Result A TermFault
if_countable sent x = if nat_lt most_count sent then Err fault.CountFull else Ok x

abbrev pub decided : Option Verdict → PlainTerminal → List UserEvent → Made → Result (PlainTerminal × Acted) TermFault
decided (Some Waits) t es made = Ok (t, Locked)
decided (Some (Refuses r)) t es made = Ok (record t { held = es }, Refused r)
decided None t es made = if_countable made.0.sent (made.0, Done made.1)

abbrev pub act_on : PlainTerminal → List UserEvent → Result (PlainTerminal × Acted) TermFault
act_on t [] = Ok (t, Idle)
act_on t (e ∷ es) = decided (first_of_checks (event_checks t e)) t es (event_outcome (record t { held = es }) e)

-- the terminal tries the oldest held event
unfoldable pub act_of : PlainTerminal → Result (PlainTerminal × Acted) TermFault
act_of t = act_on t t.held

unfoldable pub flush_of : PlainTerminal → Result (PlainTerminal × List Tmesg) TermFault
flush_of t = if_countable (flushed t).0.sent (flushed t)

-- ## Frames of the host

abbrev pub unknown_file : PlainTerminal → ℕ → Bool × TermFault
unknown_file t f = (not (is_known t f), fault.NoFile)

abbrev pub not_opened : PlainTerminal → ℕ → Bool × TermFault
not_opened t f = (not (is_open t f), fault.NotOpen)

abbrev pub bound : PlainTerminal → ℕ → Bool × TermFault
bound t f = (is_open t f, fault.AlreadyBound)

abbrev pub past_end : PlainTerminal → ℕ → ℕ → Bool × TermFault
past_end t f p = (nat_lt (length (window_at t f).rasp) p, fault.BadPosition)

abbrev pub no_room : PlainTerminal → ℕ → ℕ → Bool × TermFault
no_room t f n = (nat_lt max_runes (length (window_at t f).rasp + n), fault.TooLong)

-- what stands against a frame, in its order
abbrev pub frame_checks : PlainTerminal → Hmesg → Checks TermFault
frame_checks t (Hversion v) = []
frame_checks t (Hbindname f) = unknown_file t f ∷ bound t f ∷ []
frame_checks t (Hcurrent f) = unknown_file t f ∷ []
frame_checks t (Hnewname f) = (is_known t f, fault.AlreadyBound) ∷ []
frame_checks t (Hmovname f s) = unknown_file t f ∷ []
frame_checks t (Hgrow f p n) = unknown_file t f ∷ not_opened t f ∷ past_end t f p ∷ no_room t f n ∷ []
frame_checks t (Hcheck f) = unknown_file t f ∷ not_opened t f ∷ []
frame_checks t Hunlock = (not t.command_lock, fault.LockNotHeld) ∷ []
frame_checks t (Hdata f p s) = unknown_file t f ∷ not_opened t f ∷ past_end t f (p + length s) ∷ []
frame_checks t (Horigin f p) = unknown_file t f ∷ not_opened t f ∷ past_end t f p ∷ []
frame_checks t (Hunlockfile f) = unknown_file t f ∷ not_opened t f ∷ ((window_at t f).locks == 0, fault.LockNotHeld) ∷ []
frame_checks t (Hsetdot f p q) = unknown_file t f ∷ not_opened t f ∷ (nat_lt q p, fault.BadPosition) ∷ past_end t f q ∷ []
frame_checks t (Hgrowdata f p s) = unknown_file t f ∷ not_opened t f ∷ past_end t f p ∷ no_room t f (length s) ∷ []
frame_checks t (Hmoveto f p) = unknown_file t f ∷ not_opened t f ∷ past_end t f p ∷ []
frame_checks t (Hclean f) = unknown_file t f ∷ []
frame_checks t (Hdirty f) = unknown_file t f ∷ []
frame_checks t (Hcut f p n) = unknown_file t f ∷ not_opened t f ∷ past_end t f (p + n) ∷ []
frame_checks t (Hsetpat s) = []
frame_checks t (Hdelname f) = unknown_file t f ∷ bound t f ∷ []
frame_checks t (Hclose f) = unknown_file t f ∷ not_opened t f ∷ []
frame_checks t (Hsetsnarf s) = []
frame_checks t (Hsnarflen n) = []
frame_checks t Hack = []
frame_checks t Hexit = []

-- unsent runes of the file f are dropped
abbrev pub unsent_without : ℕ → Option Unsent → Option Unsent
unsent_without f None = None
unsent_without f (Some u) = if u.file == f then None else Some u

unfoldable pub took_bindname : PlainTerminal → ℕ → PlainTerminal
took_bindname t f = put_window t f blank_window

-- the runes come into places that are there, and one request less is awaited
unfoldable pub took_data : PlainTerminal → ℕ → ℕ → List ℕ → PlainTerminal
took_data t f p s =
    let w = window_at t f in
    put_window t f (record w { rasp = load_cells w.rasp p s; awaited = w.awaited - 1 })

unfoldable pub took_grow : PlainTerminal → ℕ → ℕ → ℕ → PlainTerminal
took_grow t f p n = ins_rasp t f p (replicate n None)

-- the runes come in at the place
unfoldable pub took_growdata : PlainTerminal → ℕ → ℕ → List ℕ → PlainTerminal
took_growdata t f p s = ins_rasp t f p (map Some s)

unfoldable pub took_cut : PlainTerminal → ℕ → ℕ → ℕ → PlainTerminal
took_cut t f p n = del_rasp t f p (p + n)

unfoldable pub took_unlockfile : PlainTerminal → ℕ → PlainTerminal
took_unlockfile t f = put_window t f (record (window_at t f) { locks = (window_at t f).locks - 1 })

unfoldable pub took_close : PlainTerminal → ℕ → PlainTerminal
took_close t f =
    record (put_known t f (record (known_at t f) { window = None })) { unsent = unsent_without f t.unsent }

abbrev pub freed_known : KnownFile → KnownFile
freed_known known = record known { window = free_window known.window }

-- the session is over: every lock is free and nothing is awaited
unfoldable pub took_exit : PlainTerminal → PlainTerminal
took_exit t =
    record t {
      has_exited = true;
      command_lock = false;
      files = map_slots freed_known t.files;
    }

-- what a frame does that nothing stands against
abbrev pub frame_outcome : PlainTerminal → Hmesg → Made
frame_outcome t (Hversion v) = (record t { version = agreed t.version v }, [])
frame_outcome t (Hbindname f) = (took_bindname t f, [])
frame_outcome t (Hcurrent f) = (record t { current = Some f }, [])
frame_outcome t (Hnewname f) = (put_known t f blank_known, [])
frame_outcome t (Hmovname f s) = (put_known t f (record (known_at t f) { name = s }), [])
frame_outcome t (Hgrow f p n) = (took_grow t f p n, [])
frame_outcome t (Hcheck f) = requested t f
frame_outcome t Hunlock = (record t { command_lock = false }, [])
frame_outcome t (Hdata f p s) = (took_data t f p s, [])
frame_outcome t (Horigin f p) = (set_view_start t f p, [])
frame_outcome t (Hunlockfile f) = requested (took_unlockfile t f) f
frame_outcome t (Hsetdot f p q) = (set_dot_of t f (p, q), [])
frame_outcome t (Hgrowdata f p s) = (took_growdata t f p s, [])
frame_outcome t (Hmoveto f p) = (set_view_start t f p, [])
frame_outcome t (Hclean f) = (put_known t f (record (known_at t f) { dirty = false; changed = false }), [])
frame_outcome t (Hdirty f) = (put_known t f (record (known_at t f) { dirty = true }), [])
frame_outcome t (Hcut f p n) = (took_cut t f p n, [])
frame_outcome t (Hsetpat s) = (record t { pattern = s }, [])
frame_outcome t (Hdelname f) = (record t { files = free_slot t.files f }, [])
frame_outcome t (Hclose f) = (took_close t f, [])
frame_outcome t (Hsetsnarf s) = (record t { snarf = s }, [])
frame_outcome t (Hsnarflen n) = (record t { snarf_length = n }, [])
frame_outcome t Hack = if t.has_exited then (t, []) else sends t unchanged (Tack ∷ [])
frame_outcome t Hexit = (took_exit t, [])

abbrev pub made_unless : Option TermFault → Made → Result (PlainTerminal × List Tmesg) TermFault
made_unless (Some why) made = Err why
made_unless None made = if_countable made.0.sent made

-- the terminal takes a frame: one that saw more messages than were sent is refused first
unfoldable pub take_of : PlainTerminal → HFrame → Result (PlainTerminal × List Tmesg) TermFault
take_of t frame =
    made_unless (first_of_checks ((nat_lt t.sent frame.seen, fault.FromTheFuture) ∷ frame_checks t frame.msg))
    (frame_outcome t frame.msg)

-- the partial text of a file, empty where it is not open
abbrev pub rasp_at : PlainTerminal → ℕ → PartialText
rasp_at t f = (window_at t f).rasp

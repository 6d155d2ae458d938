-- What is read of a terminal at once.
use Rattle.std.specs.Prelude.{◌≡◌, ◌≢◌, ℕ, Bool, true, false, not, ◌&&◌, [], ◌∷◌, length, is_none, is_some, Option, Some, None, Ok}
use Rattle.sam_runes.specs.Slots.{slot}
use Rattle.sam_runes.specs.Texts.{is_empty}
use Rattle.sam_crossing.specs.World.{is_locked}
use Rattle.sam_term.specs.Sound.{unsent_length}
use Rattle.sam_term.specs.Events.{file_of, waits_for_all}
use Rattle.sam_term.specs.Term.{PlainTerminal, act_of, is_changed, is_open, view_end, window_of}
use Rattle.sam_term.specs.declared.event.Acted.TheVariants.{Locked}
use Rattle.sam_term.specs.declared.event.UserEvent.{UserEvent}
use Rattle.sam_term.specs.declared.records.KnownFile.{KnownFile}
use Rattle.sam_term.specs.declared.records.Window.{Window}
use Rattle.sam_endpoint.specs.TermEndpoints.{PlainTermEndpoint, decided, under_way}
use Rattle.sam_handles.specs.declared.snapshots.SamTermFile.{SamTermFile}
use Rattle.sam_handles.specs.declared.snapshots.SamTermState.{SamTermState}

-- what the terminal knows of a tag
abbrev pub known_of : PlainTermEndpoint → ℕ → Option KnownFile
known_of e tag = slot e.term.files tag

abbrev pub open_of : PlainTermEndpoint → ℕ → Option Window
open_of e tag = window_of e.term tag

-- each field is what the reader of that name hands out
abbrev pub term_state : PlainTermEndpoint → SamTermState
term_state e =
    record {
      events = e.events;
      decided = decided e;
      held = length e.term.held;
      sent = e.term.sent;
      under_way = under_way e;
      pending = length e.pending_bytes;
      tags = length e.term.files;
      unsent = unsent_length e.term.unsent;
      snarf_len = e.term.snarf_length;
      version = e.term.version;
      command_locked = e.term.command_lock;
      exited = e.term.has_exited;
    }

abbrev pub is_known_dirty : Option KnownFile → Bool
is_known_dirty None = false
is_known_dirty (Some file) = file.dirty

-- an edit of this open file would act at once: no frame waits and no event is held that would come before it, and it would wait for no lock
abbrev pub is_free : PlainTermEndpoint → ℕ → Bool
is_free e tag =
    is_none e.stop && is_empty e.waiting && is_empty e.term.held
    && not e.term.has_exited && is_open e.term tag && not (is_locked e.term tag)

-- an event on this file that waits for no other one is not held back by a lock
abbrev pub IsDecidedAtOnce : PlainTerminal → ℕ → Type 0
IsDecidedAtOnce t tag =
    (event : UserEvent) → file_of event ≡ Some tag → waits_for_all event ≡ false
    → act_of (record t { held = event ∷ [] }) ≢ Ok (record t { held = event ∷ [] }, Locked)

-- of a file that is not open there are no places
abbrev pub no_places : PlainTermEndpoint → ℕ → SamTermFile
no_places e tag =
    record {
      len = 0;
      dot_start = 0;
      dot_end = 0;
      view_start = 0;
      view_end = 0;
      is_known = is_some (known_of e tag);
      is_open = false;
      is_dirty = is_known_dirty (known_of e tag);
      is_changed = is_changed e.term tag;
      is_locked = is_locked e.term tag;
      is_free = is_free e tag;
    }

abbrev pub with_places : SamTermFile → Option Window → SamTermFile
with_places file None = file
with_places file (Some w) =
    record file {
      len = length w.rasp;
      dot_start = w.dot.0;
      dot_end = w.dot.1;
      view_start = w.view_start;
      view_end = view_end w;
      is_open = true;
    }

abbrev pub file_state : PlainTermEndpoint → ℕ → SamTermFile
file_state e tag = with_places (no_places e tag) (open_of e tag)

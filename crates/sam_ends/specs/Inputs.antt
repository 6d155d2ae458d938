-- What goes through the lines.
use Rattle.std.specs.Prelude.{ℕ, List, [], ◌∷◌, flat_map, Option, Some, None}
use Rattle.std.specs.Global.{Vec}
use Rattle.sam_mesg.specs.declared.hmesg.HFrame.{HFrame}
use Rattle.sam_term.specs.declared.event.UserEvent.{UserEvent}
use Rattle.sam_queue.specs.declared.rule.Entry.{Entry}
use Rattle.sam_ends.specs.declared.input.Input.{Input}
use Rattle.sam_ends.specs.declared.input.Input.TheVariants.{User, Host}

-- the bytes of pieces, joined
abbrev pub bytes_of : List (Vec ℕ) → List ℕ
bytes_of pieces = flat_map (λ piece. piece.items) pieces

abbrev pub frame_of_load : Option Input → List HFrame
frame_of_load (Some (Host frame)) = frame ∷ []
frame_of_load (Some (User event)) = []
frame_of_load None = []

abbrev pub user_of_load : Option Input → List UserEvent
user_of_load (Some (Host frame)) = []
user_of_load (Some (User event)) = event ∷ []
user_of_load None = []

-- the host's frames among what was taken, in order
abbrev pub frames_in : List (Entry Input) → List HFrame
frames_in entries = flat_map (λ entry. frame_of_load entry.load) entries

-- the user's events among what was taken, in order
abbrev pub users_in : List (Entry Input) → List UserEvent
users_in entries = flat_map (λ entry. user_of_load entry.load) entries

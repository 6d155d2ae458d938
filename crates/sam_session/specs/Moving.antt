-- Room for a script's events.
use Rattle.std.specs.Prelude.{◌≡◌, ◌≤◌, List, [], length, vec_capacity}
use Rattle.sam_script.specs.Script.{keys_of, mouse_of}
use Rattle.sam_script.specs.declared.line.Numbered.{Numbered}
use Rattle.sam_session.specs.declared.users.Users.{Users}

-- empty, with room for what the user does by the lines
pub record HasRoomFor (lines : List Numbered) (room : Users) : Type 0 where
  pub keys : (room.keys.items ≡ []) × (length (keys_of lines) ≤ vec_capacity room.keys)
  pub clicks : (room.clicks.items ≡ []) × (length (mouse_of lines) ≤ vec_capacity room.clicks)

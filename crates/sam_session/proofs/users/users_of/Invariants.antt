use Rattle.std.proofs.Common.{◌≡◌, ◌≤◌, ◌++◌, length, vec_capacity}
use Rattle.std.specs.Vec.Iter.{into_iter_items}
use Rattle.sam_script.specs.Script.{keys_of, mouse_of}
use Rattle.sam_session.proofs.users.users_of.Given as goal

-- what was moved, and then what the lines that are left say, in room for all of it
abbrev pub invariant-loop-numbered : goal.invariant-loop-numbered
invariant-loop-numbered l = record {
  keys : l.keys.items ++ keys_of (into_iter_items l.numbered-iterator) ≡ keys_of l.fn.lines.items;
  clicks : l.clicks.items ++ mouse_of (into_iter_items l.numbered-iterator) ≡ mouse_of l.fn.lines.items;
  room_for_keys : length (keys_of l.fn.lines.items) ≤ vec_capacity l.keys;
  room_for_clicks : length (mouse_of l.fn.lines.items) ≤ vec_capacity l.clicks;
}

use Rattle.sam_host.proofs.Common.{◌≡◌, ◌++◌, ◌∷◌, [], Some, length, reverse, blank_file, first_files, command_name, given_slots, AreNames, given_of}
use Rattle.sam_host.proofs.host.Host.new.Given as goal

abbrev pub invariant-loop-file : goal.invariant-loop-file
invariant-loop-file l =
    (l.files.plain.slots ++ given_slots (given_of (reverse l.left.items)) ≡ Some (record blank_file { name = command_name }) ∷ given_slots (given_of l.fn.given.items))
    × (record l.files.plain { slots = [] } ≡ record first_files { slots = [] })
    × AreNames (reverse l.left.items)

abbrev pub decreases-loop-file : goal.decreases-loop-file
decreases-loop-file l = length l.left.items

use Rattle.sam_modes.proofs.Common.{◌≡◌, ◌++◌, map, drop, false, string_bytes, attached_from}
use Rattle.sam_modes.proofs.words.with_text_attached.Given as goal

-- what was put, and what is left to put
abbrev pub invariant-loop-word : goal.invariant-loop-word
invariant-loop-word l =
    map string_bytes l.out.items ++ attached_from l.waits (map string_bytes (drop l.word-index l.arguments))
    ≡ map string_bytes l.initial.out.items ++ attached_from false (map string_bytes l.arguments)

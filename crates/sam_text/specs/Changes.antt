-- Changes of a text, one after another.
use Rattle.std.specs.Prelude.{ℕ, ◌+◌, ◌≤◌, not, ◌||◌, List, [], ◌∷◌, length, ⊤}
use Rattle.sam_runes.specs.Texts.{Range, ins, del, is_empty, max_runes}
use Rattle.sam_text.specs.Files.{PlainFile}
use Rattle.sam_text.specs.declared.text_change.TextChange.{TextChange}
use Rattle.sam_text.specs.declared.text_change.TextChange.TheVariants.{Insert, Delete}

-- the text has the place or the range, and is not too long afterwards
abbrev pub IsAllowed : TextChange → List ℕ → Type 0
IsAllowed (Insert p s) t = (p ≤ length t) × (length t + length s.now ≤ max_runes)
IsAllowed (Delete p q) t = (p ≤ q) × (q ≤ length t)

-- the text after a change
abbrev pub after_change : TextChange → List ℕ → List ℕ
after_change (Insert p s) t = ins t p s.now
after_change (Delete p q) t = del t p q

-- dot after a change
abbrev pub dot_after : TextChange → Range
dot_after (Insert p s) = (p + length s.now, p + length s.now)
dot_after (Delete p q) = (p, p)

-- each change is allowed of the text that those before it leave
abbrev pub AllowsAll : List TextChange → List ℕ → Type 0
AllowsAll [] t = ⊤
AllowsAll (c ∷ cs) t = IsAllowed c t × AllowsAll cs (after_change c t)

-- the text after all
abbrev pub after_changes : List TextChange → List ℕ → List ℕ
after_changes [] t = t
after_changes (c ∷ cs) t = after_changes cs (after_change c t)

-- dot after all
abbrev pub last_dot : List TextChange → Range → Range
last_dot [] dot = dot
last_dot (c ∷ cs) dot = last_dot cs (dot_after c)

-- a file after changes of its text, which make it dirty
abbrev pub changed_by : List TextChange → PlainFile → PlainFile
changed_by cs file =
    record file { text = after_changes cs file.text; dot = last_dot cs file.dot; dirty = file.dirty || not (is_empty cs) }

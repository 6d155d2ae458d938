-- The first 42 bytes each way of a connection.
use Rattle.std.specs.Prelude.{◌^◌, ◌≡◌, ◌≢◌, ℕ, ◌<◌, ◌≤◌, List, [], ◌∷◌, ◌++◌, length, take, slice_index, nat_lt, Option, None, Some, Result, Ok, Err, if◌then◌else◌}
use Rattle.sam_mesg.specs.Bounds.{entry}
use Rattle.sam_mesg.specs.Spelling.{eight}
use Rattle.sam_link.specs.declared.hello.Hello.{Hello}
use Rattle.sam_link.specs.declared.hello.What.{What}
use Rattle.sam_link.specs.declared.hello.What.TheVariants.{Begin, Resume, TakeOver, Welcome, Refused}
use Rattle.sam_link.specs.declared.hello.Refusal.{Refusal}
use Rattle.sam_link.specs.declared.hello.Refusal.TheVariants.{NotALink, OtherVersion, BadHello, NoSession, OtherSession, OldAttempt, WrongCount}

abbrev pub mark : List ℕ
mark = 137 ∷ 115 ∷ 97 ∷ 109 ∷ 108 ∷ 105 ∷ 110 ∷ 107 ∷ []

abbrev pub refusal_number : Refusal → ℕ
refusal_number NotALink = 17
refusal_number OtherVersion = 18
refusal_number BadHello = 19
refusal_number NoSession = 20
refusal_number OtherSession = 21
refusal_number OldAttempt = 22
refusal_number WrongCount = 23

abbrev pub what_number : What → ℕ
what_number Begin = 1
what_number Resume = 2
what_number TakeOver = 3
what_number Welcome = 4
what_number (Refused why) = refusal_number why

abbrev pub whats : List What
whats = Begin ∷ Resume ∷ TakeOver ∷ Welcome ∷ []

abbrev pub refusals : List What
refusals = Refused NotALink ∷ Refused OtherVersion ∷ Refused BadHello ∷ Refused NoSession ∷ Refused OtherSession ∷ Refused OldAttempt
    ∷ Refused WrongCount ∷ []

-- what a number says, if it says anything
abbrev pub what_of : ℕ → Option What
what_of number = if nat_lt number 17 then entry 1 whats number else entry 17 refusals number

abbrev pub spelled : Hello → List ℕ
spelled h = ((((mark ++ 1 ∷ what_number h.what ∷ []) ++ eight h.id.first) ++ eight h.id.last) ++ eight h.attempt) ++ eight h.received

-- its numbers have eight bytes each
abbrev pub IsHello : Hello → Type 0
IsHello h = (h.id.first < 2 ^ 64) × (h.id.last < 2 ^ 64) × (h.attempt < 2 ^ 64) × (h.received < 2 ^ 64)

-- so far the bytes are those of a hello: each of these is looked at as soon as it is there
abbrev pub HasMark : List ℕ → Type 0
HasMark bytes = take 8 bytes ≡ take (length bytes) mark

abbrev pub HasVersion : List ℕ → Type 0
HasVersion bytes = HasMark bytes × (8 < length bytes → slice_index bytes 8 ≡ 1)

abbrev pub Begins : List ℕ → Type 0
Begins bytes = HasVersion bytes × (9 < length bytes → what_of (slice_index bytes 9) ≢ None)

-- what reading a hello may answer
abbrev pub ReadsHello : List ℕ → Result (Option Hello) Refusal → Type 0
ReadsHello bytes (Ok (Some hello)) = IsHello hello × (42 ≤ length bytes) × (take 42 bytes ≡ spelled hello)
ReadsHello bytes (Ok None) = (length bytes < 42) × Begins bytes
ReadsHello bytes (Err NotALink) = HasMark bytes → ⊥
ReadsHello bytes (Err OtherVersion) = HasMark bytes × (8 < length bytes) × (slice_index bytes 8 ≢ 1)
ReadsHello bytes (Err BadHello) = HasVersion bytes × (9 < length bytes) × (what_of (slice_index bytes 9) ≡ None)
ReadsHello bytes (Err NoSession) = ⊥
ReadsHello bytes (Err OtherSession) = ⊥
ReadsHello bytes (Err OldAttempt) = ⊥
ReadsHello bytes (Err WrongCount) = ⊥

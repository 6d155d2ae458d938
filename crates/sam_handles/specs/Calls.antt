-- What a call does at a handle, over the end that the handle holds.
use Rattle.std.specs.Prelude.{◌≡◌, ◌⊎◌, ℕ, List, Option, Some, None, Result, Ok, Err}
use Rattle.std.specs.Str.{encode_utf8_all, IsUtf8}
use Rattle.sam_runes.specs.Reading.{AreRunes}
use Rattle.sam_endpoint.specs.Drawing.{Shows}
use Rattle.sam_handles.specs.Buffers.{Fills}
use Rattle.sam_handles.specs.Status.{ok, no_memory, no_handle, not_text, nothing}
use Rattle.sam_handles.specs.declared.utf8.Filled.{Filled}

-- an empty handle answers so and stays empty; one that holds an end holds it changed
abbrev pub AtHandle : {E : Type 0} → Option E → ℕ → Option E → (E → ℕ → E → Type 0) → Type 0
AtHandle None status after Does = (status ≡ no_handle) × (after ≡ None)
AtHandle {E} (Some e) status after Does = (g : E) × (after ≡ Some g) × Does e status g

-- the handle is empty now, and this says whether it was before
abbrev pub Freed : {E : Type 0} → Option E → ℕ → Option E → Type 0
Freed None status after = (status ≡ no_handle) × (after ≡ None)
Freed (Some e) status after = (status ≡ ok) × (after ≡ None)

-- what a reader hands out in the place of what stood there
abbrev pub Reports : {E X : Type 0} → Option E → ℕ → X → X → (E → X) → Type 0
Reports None status before after read = (status ≡ no_handle) × (after ≡ before)
Reports (Some e) status before after read = (status ≡ ok) × (after ≡ read e)

abbrev pub TellsOne : {X : Type 0} → Option X → ℕ → X → X → Type 0
TellsOne None status before after = (status ≡ nothing) × (after ≡ before)
TellsOne (Some x) status before after = (status ≡ ok) × (after ≡ x)

-- the same of what may not be there
abbrev pub ReportsSome : {E X : Type 0} → Option E → ℕ → X → X → (E → Option X) → Type 0
ReportsSome None status before after read = (status ≡ no_handle) × (after ≡ before)
ReportsSome (Some e) status before after read = TellsOne (read e) status before after

-- the buffer that a text goes into, and the counts of its bytes and runes
pub record Written : Type 0 where
  pub buffer : List ℕ
  pub bytes : ℕ
  pub runes : ℕ

abbrev pub written : List ℕ → ℕ → ℕ → Written
written buffer bytes runes = record { buffer = buffer; bytes = bytes; runes = runes }

abbrev pub Writes : Option (List ℕ) → ℕ → Written → Written → Type 0
Writes None status before after = (status ≡ nothing) × (after ≡ before)
Writes (Some runes) status before after =
    (filled : Filled) × (status ≡ ok) × Fills runes before.buffer after.buffer filled
    × (after.bytes ≡ filled.bytes) × (after.runes ≡ filled.runes)

-- a text that a reader puts into the buffer
abbrev pub ReportsText : {E : Type 0} → Option E → ℕ → Written → Written → (E → Option (List ℕ)) → Type 0
ReportsText None status before after read = (status ≡ no_handle) × (after ≡ before)
ReportsText (Some e) status before after read = Writes (read e) status before after

-- a name that a reader puts into the buffer, with the count of its bytes
abbrev pub WritesName : Option (List ℕ) → ℕ → List ℕ → List ℕ → ℕ → ℕ → Type 0
WritesName None status before after old_len new_len = (status ≡ nothing) × (after ≡ before) × (new_len ≡ old_len)
WritesName (Some name) status before after old_len new_len =
    (filled : Filled) × (status ≡ ok) × Fills name before after filled × (new_len ≡ filled.bytes)

abbrev pub ReportsName : {E : Type 0} → Option E → ℕ → List ℕ → List ℕ → ℕ → ℕ → (E → Option (List ℕ)) → Type 0
ReportsName None status before after old_len new_len read = (status ≡ no_handle) × (after ≡ before) × (new_len ≡ old_len)
ReportsName (Some e) status before after old_len new_len read = WritesName (read e) status before after old_len new_len

-- the members of a partial text that a reader puts into the buffer, from a place on
abbrev pub WritesCells : Option (List (Option ℕ)) → ℕ → ℕ → List ℕ → List ℕ → ℕ → ℕ → Type 0
WritesCells None place status before after old_count new_count = (status ≡ nothing) × (after ≡ before) × (new_count ≡ old_count)
WritesCells (Some cells) place status before after old_count new_count = (status ≡ ok) × Shows cells place before after new_count

abbrev pub ReportsCells : {E : Type 0} → Option E → ℕ → List ℕ → List ℕ → ℕ → ℕ → ℕ → (E → Option (List (Option ℕ))) → Type 0
ReportsCells None status before after old_count new_count place read = (status ≡ no_handle) × (after ≡ before) × (new_count ≡ old_count)
ReportsCells (Some e) status before after old_count new_count place read =
    WritesCells (read e) place status before after old_count new_count

-- a number that was handed out, or what stood there before
abbrev pub handed_or : {F : Type 0} → ℕ → Result ℕ F → ℕ
handed_or before (Ok number) = number
handed_or before (Err why) = before

-- the bytes spell these runes, and with them this is done; or they are not UTF-8, or memory for the runes was refused
abbrev pub WithText : {E : Type 0} → E → List ℕ → (List ℕ → ℕ → E → Type 0) → ℕ → E → Type 0
WithText e text Does status g =
    ((runes : List ℕ) × AreRunes runes × (encode_utf8_all runes ≡ text) × Does runes status g)
    ⊎ (((status ≡ not_text) × (IsUtf8 text → ⊥) × (g ≡ e)) ⊎ ((status ≡ no_memory) × IsUtf8 text × (g ≡ e)))

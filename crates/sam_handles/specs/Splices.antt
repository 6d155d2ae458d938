-- A change of what is shown, and runes for which the host left no room, as C gets them.
use Rattle.std.specs.Prelude.{◌≡◌, ◌*◌, ◌≤◌, ℕ, List, ◌++◌, drop, length, Option, Some, None, IfSome, Result, Ok, Err, IfOk}
use Rattle.std.specs.Str.{encode_utf8_all}
use Rattle.sam_pending.specs.declared.fault.PendingFault.{PendingFault}
use Rattle.sam_pending.specs.declared.told.Dropped.{Dropped}
use Rattle.sam_shown.specs.declared.splices.Splice.{Splice}
use Rattle.sam_shown.specs.declared.splices.SpliceKind.TheVariants as splice
use Rattle.sam_handles.specs.OverlayStatus.{splice_number}
use Rattle.sam_handles.specs.Status.{ok, no_memory, nothing}
use Rattle.sam_handles.specs.declared.splice.SamSplice.{SamSplice}

abbrev pub told_splice : Splice → SamSplice
told_splice x = record { kind = splice_number x.kind; place = x.place; count = x.count; tag = x.tag }

-- what the caller has of them: a splice, a buffer, and how many bytes of it are theirs
pub record Handed : Type 0 where
  pub splice : SamSplice
  pub buffer : List ℕ
  pub len : ℕ

abbrev pub handed : SamSplice → List ℕ → ℕ → Handed
handed splice buffer len = record { splice = splice; buffer = buffer; len = len }

-- the part of the shown text that went with them
abbrev pub gone_splice : ℕ → Dropped → SamSplice
gone_splice tag d = record { kind = splice_number splice.Went; place = d.place; count = d.count; tag = tag }

-- their splice, and their UTF-8 in the buffer, whole; behind it stands what stood there before
abbrev pub HandsWhole : ℕ → Dropped → Handed → Handed → Type 0
HandsWhole tag d old new =
    (new.splice ≡ gone_splice tag d) × (new.len ≡ length (encode_utf8_all d.text))
    × (new.buffer ≡ encode_utf8_all d.text ++ drop new.len old.buffer)

-- a buffer of so many bytes has room for them
abbrev pub FitsWhole : Result (Option Dropped) PendingFault → ℕ → Type 0
FitsWhole came room = IfOk came (λ taken. IfSome taken (λ d. 4 * length d.text ≤ room))

abbrev pub HandsBack : ℕ → Result (Option Dropped) PendingFault → Handed → ℕ → Handed → Type 0
HandsBack tag (Ok None) old status new = (status ≡ nothing) × (new ≡ old)
HandsBack tag (Ok (Some d)) old status new = (status ≡ ok) × HandsWhole tag d old new
HandsBack tag (Err why) old status new = (status ≡ no_memory) × (new ≡ old)

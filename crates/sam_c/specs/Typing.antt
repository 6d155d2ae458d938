-- What typing a text of any length does.
use Rattle.std.specs.Prelude.{◌≡◌, ◌⊎◌, ◌+◌, ◌*◌, ◌<◌, ◌≤◌, ℕ, zero, suc, List, [], ◌∷◌, length, take, drop, map, Option, Some, None, Result, Ok, Err}
use Rattle.std.specs.Str.{encode_utf8_all, IsUtf8}
use Rattle.sam_runes.specs.Reading.{AreRunes}
use Rattle.sam_term.specs.declared.event.UserEvent.TheVariants.{Typed}
use Rattle.sam_endpoint.specs.declared.fault.EndpointFault.{EndpointFault}
use Rattle.sam_endpoint.specs.declared.fault.EndpointFault.TheVariants as fault
use Rattle.sam_endpoint.specs.declared.fault.TermStop.{TermStop}
use Rattle.sam_endpoint.specs.TermEndpoints.{PlainTermEndpoint}
use Rattle.sam_endpoint.specs.TermRuns.{Call, Runs}
use Rattle.sam_endpoint.specs.TermRuns as call
use Rattle.sam_handles.specs.Status.{no_memory, no_handle, not_text, term_status}
use Rattle.sam_c.specs.declared.term_typing.TypedText.{TypedText}
unfoldable use Rattle.sam_c.specs.Terms.{TermDoes}

-- the first n pieces of a text, of 512 runes each
abbrev pub pieces : ℕ → List ℕ → List (List ℕ)
pieces zero runes = []
pieces (suc n) runes = take 512 runes ∷ pieces n (drop 512 runes)

-- these pieces are typed, and each call is answered well
abbrev pub typings : ℕ → List (List ℕ) → List Call
typings tag = map (λ piece. call.Put (Typed tag piece) (Ok tt))

-- a piece is typed, or memory for its runes was refused
abbrev pub TypesPiece : PlainTermEndpoint → ℕ → List ℕ → Result (Unit {0}) (EndpointFault TermStop) → PlainTermEndpoint → Type 0
TypesPiece e tag piece result g = TermDoes e (call.Put (Typed tag piece) result) g ⊎ ((result ≡ Err fault.OutOfMemory) × (g ≡ e))

-- how many of the runes of a piece count as taken: all, if the event was taken and the end goes on
abbrev pub taken_of : Result (Unit {0}) (EndpointFault TermStop) → ℕ → ℕ
taken_of (Ok done) n = n
taken_of (Err fault.Unfinished) n = n
taken_of (Err fault.OutOfMemory) n = 0
taken_of (Err fault.CountFull) n = 0
taken_of (Err (fault.Stopped why)) n = 0

-- Some whole pieces are typed, as one run of calls that are answered well. The piece behind them is typed, too: it is the last one, or the
-- first that is not answered well. So many runes have the pieces that were taken
pub record TypesText (e : PlainTermEndpoint) (tag : ℕ) (runes : List ℕ) (typed : TypedText) (g : PlainTermEndpoint) : Type 0 where
  pub n : ℕ
  pub middle : PlainTermEndpoint
  pub runs : Runs e (typings tag (pieces n runes)) middle
  pub more : (n ≡ 0) ⊎ (n * 512 < length runes)
  pub last : TypesPiece middle tag (take 512 (drop (n * 512) runes)) typed.result g
  pub is_last : typed.result ≡ Ok tt → length runes ≤ n * 512 + 512
  pub count : typed.runes ≡ n * 512 + taken_of typed.result (length (take 512 (drop (n * 512) runes)))

-- a text in UTF-8 is typed, and it is handed out how many of its bytes were taken; or it is not read, and none were
abbrev pub TypesBytes : PlainTermEndpoint → ℕ → List ℕ → ℕ → ℕ → PlainTermEndpoint → Type 0
TypesBytes e tag text status taken g =
    ((runes : List ℕ) × (typed : TypedText)
    × AreRunes runes × (encode_utf8_all runes ≡ text) × TypesText e tag runes typed g × (status ≡ term_status typed.result)
    × (taken ≡ length (encode_utf8_all (take typed.runes runes))))
    ⊎ ((taken ≡ 0) × (g ≡ e) × (((status ≡ not_text) × (IsUtf8 text → ⊥)) ⊎ ((status ≡ no_memory) × IsUtf8 text)))

abbrev pub TermTypedText : Option PlainTermEndpoint → ℕ → List ℕ → ℕ → ℕ → ℕ → Option PlainTermEndpoint → Type 0
TermTypedText None tag text old status new after = (status ≡ no_handle) × (new ≡ old) × (after ≡ None)
TermTypedText (Some e) tag text old status new after = (g : PlainTermEndpoint) × (after ≡ Some g) × TypesBytes e tag text status new g

-- What the calls of a link do.
use Rattle.std.specs.Prelude.{◌≡◌, ◌⊎◌, ℕ, List, ◌++◌, length, drop, Bool, true, false, nat_lt, Option, Some, None, Result, Ok, Err}
use Rattle.sam_mesg.specs.Bounds.{entry}
use Rattle.sam_link.specs.Calls.{Call, Does, DoesInto, DoesPlaces}
use Rattle.sam_link.specs.Calls as call
use Rattle.sam_link.specs.End.{End, fresh}
use Rattle.sam_link.specs.Feeding.{FeedsInto, FeedsPlaces}
use Rattle.sam_link.specs.Hellos.{ReadsHello, spelled, what_number}
use Rattle.sam_link.specs.Sessions.{IsId}
use Rattle.sam_link.specs.declared.fault.AnswerFault.{AnswerFault}
use Rattle.sam_link.specs.declared.fault.CallFault.{CallFault}
use Rattle.sam_link.specs.declared.fault.FeedFault.{FeedFault}
use Rattle.sam_link.specs.declared.fault.NotOpen.{NotOpen}
use Rattle.sam_link.specs.declared.fault.NoteFault.{NoteFault}
use Rattle.sam_link.specs.declared.fault.WelcomeFault.{WelcomeFault}
use Rattle.sam_link.specs.declared.hello.Hello.{Hello}
use Rattle.sam_link.specs.declared.hello.Id.{Id}
use Rattle.sam_link.specs.declared.hello.Refusal.{Refusal}
use Rattle.sam_link.specs.declared.hello.What.TheVariants.{Refused}
use Rattle.sam_link.specs.declared.inbox.Place.{Place}
use Rattle.sam_link.specs.declared.keeping.PutFault.{PutFault}
use Rattle.sam_link.specs.declared.phase.Role.{Role}
use Rattle.sam_handles.specs.Calls.{handed_or, AtHandle}
use Rattle.sam_handles.specs.LinkIds.{id_bytes}
use Rattle.sam_handles.specs.LinkStatus.{answer_status, call_status, feed_status, link_refusal, link_refusals, no_room, note_status, out_status, put_status, role_of, welcome_status, wrong_role}
use Rattle.sam_handles.specs.Status.{ok, no_memory, is_made, no_handle, nothing}

-- a new end of this side and with this id, or why there is none and the handle is as before
abbrev pub MakesLink : Option Role → List ℕ → ℕ → Option End → Type 0
MakesLink None bytes status after = (status ≡ wrong_role) × (after ≡ None)
MakesLink (Some role) bytes status after =
    ((id : Id) × IsId id × (id_bytes id ≡ bytes) × (status ≡ ok) × (after ≡ Some (fresh role id))) ⊎ ((status ≡ no_memory) × (after ≡ None))

abbrev pub LinkMade : Option End → ℕ → List ℕ → ℕ → Option End → Type 0
LinkMade None role bytes status after = MakesLink (role_of role) bytes status after
LinkMade (Some e) role bytes status after = (status ≡ is_made) × (after ≡ Some e)

-- ## Hellos without a handle

-- what is handed out of a hello: its word, its id and its connection
pub record Told : Type 0 where
  pub what : ℕ
  pub id : List ℕ
  pub attempt : ℕ

abbrev pub told : ℕ → List ℕ → ℕ → Told
told what id attempt = record { what = what; id = id; attempt = attempt }

abbrev pub TellsHello : Result (Option Hello) Refusal → ℕ → Told → Told → Type 0
TellsHello (Ok (Some h)) status before after = (status ≡ ok) × (after ≡ told (what_number h.what) (id_bytes h.id) h.attempt)
TellsHello (Ok None) status before after = (status ≡ nothing) × (after ≡ before)
TellsHello (Err why) status before after = (status ≡ link_refusal why) × (after ≡ before)

abbrev pub HelloTold : List ℕ → ℕ → Told → Told → Type 0
HelloTold bytes status before after = (read : Result (Option Hello) Refusal) × ReadsHello bytes read × TellsHello read status before after

abbrev pub no_id : Id
no_id = record { first = 0; last = 0 }

-- a refusal names the session and the connection of what was read
abbrev pub refusing : Refusal → Result (Option Hello) Refusal → Hello
refusing why (Ok (Some h)) = record { what = Refused why; id = h.id; attempt = h.attempt; received = 0 }
refusing why (Ok None) = record { what = Refused why; id = no_id; attempt = 0; received = 0 }
refusing why (Err fault) = record { what = Refused why; id = no_id; attempt = 0; received = 0 }

abbrev pub WritesRefusal : Option Refusal → List ℕ → ℕ → List ℕ → List ℕ → Type 0
WritesRefusal None bytes status before after = (status ≡ nothing) × (after ≡ before)
WritesRefusal (Some why) bytes status before after =
    (read : Result (Option Hello) Refusal) × ReadsHello bytes read × (status ≡ ok) × (after ≡ spelled (refusing why read))

abbrev pub RefusalWritten : ℕ → List ℕ → ℕ → List ℕ → List ℕ → Type 0
RefusalWritten why bytes status before after = WritesRefusal (entry 193 link_refusals why) bytes status before after

-- ## Connections

abbrev pub LinkCalled : Option End → Bool → ℕ → ℕ → ℕ → Option End → Type 0
LinkCalled None take_over old status new after = (status ≡ no_handle) × (new ≡ old) × (after ≡ None)
LinkCalled (Some e) take_over old status new after =
    (g : End) × (result : Result ℕ CallFault) × (after ≡ Some g) × Does e (call.Dial take_over result) g
    × (status ≡ call_status result) × (new ≡ handed_or old result)

-- what is done with the hello that was read, or why there is none and the end is as before
abbrev pub WithHello : {E : Type 0} → Result (Option Hello) Refusal → E → ℕ → E → (Hello → Type 0) → Type 0
WithHello (Ok (Some h)) e status g Does = Does h
WithHello (Ok None) e status g Does = (status ≡ nothing) × (g ≡ e)
WithHello (Err why) e status g Does = (status ≡ link_refusal why) × (g ≡ e)

abbrev pub TakesWelcome : End → List ℕ → ℕ → End → Type 0
TakesWelcome e bytes status g =
    (read : Result (Option Hello) Refusal) × ReadsHello bytes read × WithHello read e status g
    (λ h. (result : Result (Unit {0}) WelcomeFault) × Does e (call.Welcome h result) g × (status ≡ welcome_status result))

abbrev pub TakesAnswer : End → List ℕ → ℕ → End → Type 0
TakesAnswer e bytes status g =
    (read : Result (Option Hello) Refusal) × ReadsHello bytes read × WithHello read e status g
    (λ h. (result : Result (Unit {0}) AnswerFault) × Does e (call.Answer h result) g × (status ≡ answer_status result))

abbrev pub LinkWelcomed : Option End → List ℕ → ℕ → Option End → Type 0
LinkWelcomed before bytes status after = AtHandle before status after (λ e status g. TakesWelcome e bytes status g)

abbrev pub LinkAnswered : Option End → List ℕ → ℕ → Option End → Type 0
LinkAnswered before bytes status after = AtHandle before status after (λ e status g. TakesAnswer e bytes status g)

abbrev pub LinkBroken : Option End → ℕ → ℕ → Option End → Type 0
LinkBroken before attempt status after = AtHandle before status after (λ e status g. (status ≡ ok) × Does e (call.Break attempt) g)

-- ## What is put

-- a call that puts, all or nothing: bytes, or a question, or how many have come
abbrev pub LinkPut : Option End → (Result (Unit {0}) PutFault → Call) → ℕ → Option End → Type 0
LinkPut before made status after =
    AtHandle before status after
    (λ e status g. (result : Result (Unit {0}) PutFault) × Does e (made result) g × (status ≡ put_status result))

abbrev pub LinkNotePut : Option End → List ℕ → ℕ → Option End → Type 0
LinkNotePut before bytes status after =
    AtHandle before status after
    (λ e status g. (result : Result (Unit {0}) NoteFault) × Does e (call.PutNote bytes result) g × (status ≡ note_status result))

-- ## Bytes out and in

abbrev pub LinkTakenOut : Option End → ℕ → List ℕ → List ℕ → ℕ → ℕ → ℕ → Option End → Type 0
LinkTakenOut None attempt before after old status new g = (status ≡ no_handle) × (after ≡ before) × (new ≡ old) × (g ≡ None)
LinkTakenOut (Some e) attempt before after old status new g =
    (n : End) × (result : Result ℕ NotOpen) × (g ≡ Some n) × Does e (call.TakeOut attempt before result after) n
    × (status ≡ out_status result) × (new ≡ handed_or old result)

abbrev pub LinkFed : Option End → ℕ → List ℕ → ℕ → Option End → Type 0
LinkFed before attempt piece status after =
    AtHandle before status after
    (λ e status g. (result : Result (Unit {0}) FeedFault) × Does e (call.Feed attempt piece result) g × (status ≡ feed_status result))

-- as feeding alone reports it
abbrev pub into_status : Result ℕ FeedFault → ℕ
into_status (Ok count) = ok
into_status (Err why) = feed_status (Err why)

-- the piece is fed, and then bytes are taken in, call by call
abbrev pub FedInto : End → ℕ → List ℕ → List ℕ → List ℕ → ℕ → ℕ → ℕ → End → Type 0
FedInto e attempt piece before after old status new n =
    (result : Result ℕ FeedFault) × FeedsInto e attempt piece before result after n × DoesInto e attempt piece result after n
    × (status ≡ into_status result) × (new ≡ handed_or old result)

abbrev pub LinkFedInto : Option End → ℕ → List ℕ → List ℕ → List ℕ → ℕ → ℕ → ℕ → Option End → Type 0
LinkFedInto None attempt piece before after old status new g = (status ≡ no_handle) × (after ≡ before) × (new ≡ old) × (g ≡ None)
LinkFedInto (Some e) attempt piece before after old status new g =
    (n : End) × (g ≡ Some n) × FedInto e attempt piece before after old status new n

-- the piece is fed, and then bytes are taken in that stay where they lie
abbrev pub FedPlaces : End → ℕ → List ℕ → List Place → List Place → ℕ → ℕ → ℕ → End → Type 0
FedPlaces e attempt piece before after old status new n =
    (result : Result ℕ FeedFault) × FeedsPlaces e attempt piece before result after n × DoesPlaces e attempt piece result after n
    × (status ≡ into_status result) × (new ≡ handed_or old result)

abbrev pub LinkFedPlaces : Option End → ℕ → List ℕ → List Place → List Place → ℕ → ℕ → ℕ → Option End → Type 0
LinkFedPlaces None attempt piece before after old status new g = (status ≡ no_handle) × (after ≡ before) × (new ≡ old) × (g ≡ None)
LinkFedPlaces (Some e) attempt piece before after old status new g =
    (n : End) × (g ≡ Some n) × FedPlaces e attempt piece before after old status new n

abbrev pub LinkTakenIn : Option End → List ℕ → List ℕ → ℕ → ℕ → ℕ → Option End → Type 0
LinkTakenIn None before after old status new g = (status ≡ no_handle) × (after ≡ before) × (new ≡ old) × (g ≡ None)
LinkTakenIn (Some e) before after old status new g =
    (n : End) × (g ≡ Some n) × (status ≡ ok) × Does e (call.TakeIn before new after) n

-- the note that was next stands in the buffer: no note is longer than the room that the call wants
abbrev pub HandsNote : Option (List ℕ) → List ℕ → List ℕ → ℕ → ℕ → ℕ → Type 0
HandsNote None before after old status new = (status ≡ nothing) × (after ≡ before) × (new ≡ old)
HandsNote (Some note) before after old status new = (status ≡ ok) × (new ≡ length note) × (after ≡ note ++ drop (length note) before)

abbrev pub NextNote : End → Bool → List ℕ → List ℕ → ℕ → ℕ → ℕ → End → Type 0
NextNote e true before after old status new n = (status ≡ no_room) × (after ≡ before) × (new ≡ old) × (n ≡ e)
NextNote e false before after old status new n =
    (note : Option (List ℕ)) × Does e (call.NextNote note) n × HandsNote note before after old status new

abbrev pub LinkNextNote : Option End → List ℕ → List ℕ → ℕ → ℕ → ℕ → Option End → Type 0
LinkNextNote None before after old status new g = (status ≡ no_handle) × (after ≡ before) × (new ≡ old) × (g ≡ None)
LinkNextNote (Some e) before after old status new g =
    (n : End) × (g ≡ Some n) × NextNote e (nat_lt (length before) 4096) before after old status new n

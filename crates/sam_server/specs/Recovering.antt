-- What is made of the records of a journal, one by one, and the server that goes on from it.
use Rattle.std.specs.Prelude.{ℕ, List, [], Result, Ok, Err}
use Rattle.sam_link.specs.End.{ended}
use Rattle.sam_link.specs.declared.fault.FeedFault.{FeedFault}
use Rattle.sam_link.specs.declared.fault.FeedFault.TheVariants as feeds
use Rattle.sam_link.specs.declared.fault.NoteFault.{NoteFault}
use Rattle.sam_link.specs.declared.fault.NoteFault.TheVariants as notes
use Rattle.sam_link.specs.declared.keeping.PutFault.{PutFault}
use Rattle.sam_link.specs.declared.keeping.PutFault.TheVariants as puts
use Rattle.sam_host.specs.declared.fault.MarkFault.{MarkFault}
use Rattle.sam_host.specs.declared.fault.MarkFault.TheVariants as marks
use Rattle.sam_endpoint.specs.declared.fault.AddFault.{AddFault}
use Rattle.sam_endpoint.specs.declared.fault.AddFault.TheVariants as adds
use Rattle.sam_server.specs.DurableServers.{PlainDurableServer, mark_of, settled}
use Rattle.sam_server.specs.Records.{PlainRecord, Spells}
use Rattle.sam_server.specs.Servers.{Server, Takes, given}
use Rattle.sam_server.specs.Turns.{Finishes, IsResting, PlainTurn}
use Rattle.sam_server.specs.declared.recovery.RecoveryFault.{RecoveryFault}
use Rattle.sam_server.specs.declared.recovery.RecoveryFault.TheVariants as fault
use Rattle.sam_server.specs.declared.turn.TurnFault.{TurnFault}
use Rattle.sam_server.specs.declared.turn.TurnFault.TheVariants as turns

-- The record that the bytes spell is taken, as `Makes` has it; or there is none; or the server never takes it; or memory was refused
abbrev pub Retakes : Server → List ℕ → Result Server RecoveryFault → Type 0
Retakes s bytes (Ok n) = (r : PlainRecord) × Spells r bytes × Takes (given s) r n
Retakes s bytes (Err fault.NoRecord) = (r : PlainRecord) → Spells r bytes → ⊥
Retakes s bytes (Err fault.NotTaken) = (r : PlainRecord) × Spells r bytes × ((n : Server) → Takes (given s) r n → ⊥)
Retakes s bytes (Err fault.OutOfMemory) = (r : PlainRecord) × Spells r bytes

-- the server behind all these records: its connection is over, and they are durable, so an effect that waits is to be done now
abbrev pub recovered : Server → PlainDurableServer
recovered s =
    settled (record { server = record s { link = ended s.link }; held = [] }) (record { base = mark_of s.link; waiting = [] })

-- ## A turn takes a record again

-- the turn is done, and has taken the record; or it never takes it; or memory was refused
abbrev pub Retaken : PlainTurn → PlainRecord → Result (Unit {0}) RecoveryFault → PlainTurn → Type 0
Retaken t r (Ok done) u = Takes t.server r u.server × IsResting u
Retaken t r (Err fault.NotTaken) u = (z : Server) → Takes t.server r z → ⊥
Retaken t r (Err fault.OutOfMemory) u = Unit {0}
Retaken t r (Err fault.NoRecord) u = ⊥

-- the rest of a turn is done
abbrev pub Refinished : PlainTurn → Result (Unit {0}) RecoveryFault → PlainTurn → Type 0
Refinished t (Ok done) u = Finishes t u.server × IsResting u
Refinished t (Err fault.NotTaken) u = (z : Server) → Finishes t z → ⊥
Refinished t (Err fault.OutOfMemory) u = Unit {0}
Refinished t (Err fault.NoRecord) u = ⊥

-- what each refusal says of a record: but for memory, that it is never taken
abbrev pub told_of_turn : TurnFault → RecoveryFault
told_of_turn turns.OutOfMemory = fault.OutOfMemory
told_of_turn (turns.Stopped why) = fault.NotTaken

abbrev pub told_of_add : AddFault → RecoveryFault
told_of_add adds.OutOfMemory = fault.OutOfMemory
told_of_add adds.NotText = fault.NotTaken
told_of_add adds.TooLong = fault.NotTaken
told_of_add adds.NoTag = fault.NotTaken

abbrev pub told_of_mark : MarkFault → RecoveryFault
told_of_mark marks.OutOfMemory = fault.OutOfMemory
told_of_mark marks.NoFile = fault.NotTaken
told_of_mark marks.CommandFile = fault.NotTaken
told_of_mark marks.NotAnnounced = fault.NotTaken

abbrev pub told_of_feed : FeedFault → RecoveryFault
told_of_feed feeds.OutOfMemory = fault.OutOfMemory
told_of_feed feeds.NotOpen = fault.NotTaken
told_of_feed feeds.CountFull = fault.NotTaken
told_of_feed (feeds.Wrong why) = fault.NotTaken
told_of_feed feeds.AckAhead = fault.NotTaken

abbrev pub told_of_note : NoteFault → RecoveryFault
told_of_note notes.OutOfMemory = fault.OutOfMemory
told_of_note notes.TooLong = fault.NotTaken
told_of_note notes.CountFull = fault.NotTaken

abbrev pub told_of_put : PutFault → RecoveryFault
told_of_put puts.OutOfMemory = fault.OutOfMemory
told_of_put puts.CountFull = fault.NotTaken

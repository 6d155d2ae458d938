-- What settling comes to from each source of its schedule and world.
use Rattle.sam_settle.proofs.Common.{◌≡◌, List, Some, arith, Event, PlainWorld, new_world, run_of, merged, AreEnds, stops_of, LinesGive, IsReady, IsSource, schedule_from, world_from, Ends}
use Rattle.sam_settle.specs.declared.settling.Source.{Source}
use Rattle.sam_settle.specs.declared.settling.Source.TheVariants.{Sides, Run}
use Rattle.sam_settle.proofs.SettlingClauses.{sides_lead, sides_kept}

module _ (e : Ends) (ends : AreEnds e) (give : LinesGive e) where
  -- its schedule is the merged one, and leads to its world
  pub source_leads : (source : Source) (schedule : List Event) (world : PlainWorld)
      → IsSource e.host.files.items e.term.log.items e.host.host.taken (stops_of e) source
      → schedule ≡ schedule_from source e.term.log.items e.host.host.taken → world ≡ world_from source e.host.host e.term.term
      → (schedule ≡ merged e.term.log.items e.host.host.taken)
      × (run_of (new_world e.host.files.items) (merged e.term.log.items e.host.host.taken) ≡ Some world)
  source_leads source schedule world leads is_schedule is_world = grind (arith, (sides_lead e ends give))

  pub source_kept : (source : Source) → IsSource e.host.files.items e.term.log.items e.host.host.taken (stops_of e) source
      → IsReady e.host.host e.term.term e.term.log.items source
  source_kept (Sides room) is = (sides_kept e ends give is.0, is.1)
  source_kept (Run schedule world) is = tt

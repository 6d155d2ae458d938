use Rattle.sam_endpoint.proofs.ChangeLaws.{asking_begins, kept_tells_change, unasked_is_kept}
use Rattle.sam_endpoint.proofs.TermChanges.{acts_keep, flushes_keep, frames_keep}
use Rattle.sam_endpoint.proofs.laws.changes_hold.Goals as goal

pub returns : goal.returns
returns c = record {
  begins = asking_begins;
  unasked = unasked_is_kept;
  frames = frames_keep;
  acts = acts_keep;
  flushes = flushes_keep;
  change = kept_tells_change;
}

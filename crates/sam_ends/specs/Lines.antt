-- What contracts see of a session's lines.
use Rattle.sam_queue.specs.Views.{LineView}

pub record LinesView : Type 0 where
  pub up : LineView
  pub down : LineView
  pub events : LineView

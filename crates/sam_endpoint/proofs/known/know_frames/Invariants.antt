use Rattle.std.proofs.Common.{take}
use Rattle.sam_endpoint.specs.Streams.{FitFrames}
use Rattle.sam_endpoint.proofs.known.know_frames.Given as goal

abbrev pub invariant-loop-frame : goal.invariant-loop-frame
invariant-loop-frame l = FitFrames (take l.frame-index l.frames)

use Rattle.std.proofs.Common.{arith, ltb-false, rules}
use Rattle.sam_host.proofs.FrameLaws.{stamped_append}
use Rattle.sam_host.proofs.TypingLaws.{send_runs}
use Rattle.sam_host.proofs.host.Host.send.Goals as goal

pub returns : goal.returns
returns c = record {
  replied =
      record {
        allowed = search rules;
        host = grind (arith, ltb-false, send_runs);
        frames = grind (arith, ltb-false, send_runs, stamped_append);
        refused = search rules;
        count = search rules;
        unchanged = search rules;
      };
}

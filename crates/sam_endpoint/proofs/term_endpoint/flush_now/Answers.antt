use Rattle.sam_endpoint.proofs.Common.{◌∙◌, sym}
use Rattle.sam_endpoint.proofs.TermEndpointSteps.{flush_counted}
use Rattle.sam_endpoint.proofs.term_endpoint.flush_now.Goals as goal

pub returns-in-Err-clause-counted : goal.returns-in-Err-clause-counted
returns-in-Err-clause-counted c is = flush_counted c.args.term.now c.in-Err.why c.in-Err.ensures.memory (sym c.end_fault.ensures ∙ is)

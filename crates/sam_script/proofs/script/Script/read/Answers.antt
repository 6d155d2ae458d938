use Rattle.sam_script.proofs.Common.{◌≡◌, ◌≤◌, ◌+◌, ◌∙◌, length, sym, subst, arith, rules, tests, ◌==◌, YieldsList-turn, YieldsList-end, length_push, AddsNone, lines_of}
use Rattle.std.proofs.lemmas.Iterator.Splits.{YieldsList-from_slice_split}
use Rattle.sam_script.proofs.ScriptLaws.{read_more, read_wrong, read_all_lines, numbered}
use Rattle.sam_script.proofs.script.Script.read.Goals as goal

pub loop-line-preserved : goal.loop-line-preserved
loop-line-preserved c =
    let t = YieldsList-turn (YieldsList-from_slice_split _ (λ b. b == 10) c.args.bytes.now (cc) (cc) (cc) (λ x b q k. search (rules, tests)))
    c.loop-line.yielded _ c.loop-line.yielded_by _ _ c.in-Some.line c.in-Some.is c.next.ensures.steps in
    let more = length_push c.loop-line.yielded c.in-Some.line in
    let short : length c.loop-line.yielded ≤ length c.args.bytes.now = numbered c.args.bytes.now (length c.loop-line.yielded) t.0 in
    let one : c.saturating_add-number.result ≡ length c.loop-line.yielded + 1 = omega (arith, c.loop-line.invariant.0) in (
      one ∙ sym more,
      read_more (lines_of c.args.bytes.now) (length c.loop-line.yielded) _ c.saturating_add-number.result c.in-Some.line.now c.loop-line.script c.add.new.self
          t one more c.loop-line.invariant.1 c.in-Ok.ensures.ok,
    )

pub returns-in-Err-Wrong-clause-fault : goal.returns-in-Err-Wrong-clause-fault
returns-in-Err-Wrong-clause-fault c =
    let t = YieldsList-turn (YieldsList-from_slice_split _ (λ b. b == 10) c.args.bytes.now (cc) (cc) (cc) (λ x b q k. search (rules, tests)))
    c.loop-line.yielded _ c.loop-line.yielded_by _ _ c.in-Some.line c.in-Some.is c.next.ensures.steps in
    let short : length c.loop-line.yielded ≤ length c.args.bytes.now = numbered c.args.bytes.now (length c.loop-line.yielded) t.0 in
    let one : c.saturating_add-number.result ≡ length c.loop-line.yielded + 1 = omega (arith, c.loop-line.invariant.0) in
    read_wrong c.args.bytes.now (length c.loop-line.yielded) c.saturating_add-number.result c.in-Some.line.now c.loop-line.script t one c.loop-line.invariant.1
    (subst (AddsNone c.in-Some.line.now c.loop-line.script) c.in-Err-Wrong.field-0-is c.in-Err-Wrong.ensures.wrong)

pub returns-clause-ok : goal.returns-clause-ok
returns-clause-ok c =
    let t = YieldsList-end (YieldsList-from_slice_split _ (λ b. b == 10) c.args.bytes.now (cc) (cc) (cc) (λ x b q k. search (rules, tests)))
    c.loop-line.yielded _ c.loop-line.yielded_by _ _ c.in-None.is c.next.ensures.steps in
    read_all_lines (lines_of c.args.bytes.now) (length c.loop-line.yielded) c.loop-line.script t.1 c.loop-line.invariant.1

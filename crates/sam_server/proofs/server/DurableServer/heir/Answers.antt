use Rattle.std.proofs.Common.{rules, ℕ, ◌<◌, ◌≤◌, ap, ◌∙◌, subst}
use Rattle.sam_host.specs.Host.{PlainHost}
use Rattle.sam_server.proofs.Heirs.{all_kept, kept, ok_then}
use Rattle.sam_server.proofs.server.DurableServer.heir.Goals as goal

pub loop-tag-preserved : goal.loop-tag-preserved
loop-tag-preserved c =
    kept c.args.id c.args.self.now c.loop-tag.heir c.adopt_tag.new.self c.files-files.result.now.plain c.loop-tag.tag
    (c.files-files.ensures ∙ ap (λ (h : PlainHost). h.files) c.host.ensures)
    (subst (λ (n : ℕ). c.loop-tag.tag < n) c.tags.ensures.count c.loop-tag-test.true) c.loop-tag.invariant
    (ok_then c.adopt_tag.result c.is_err.result c.is_err.ensures.value c.if-is_err.false c.adopt_tag.ensures)

pub returns : goal.returns
returns c =
    let all =
    all_kept c.args.id c.args.self.now c.loop-tag.heir c.files-files.result.now.plain c.loop-tag.tag
    (c.files-files.ensures ∙ ap (λ (h : PlainHost). h.files) c.host.ensures)
    (subst (λ (n : ℕ). n ≤ c.loop-tag.tag) c.tags.ensures.count c.loop-tag-test.false) c.loop-tag.invariant in
    (search rules, all.0, all.1)

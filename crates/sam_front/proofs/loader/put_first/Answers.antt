use Rattle.std.proofs.Common.{◌≡◌, ◌∷◌, ◌∙◌, ap, rules}
use Rattle.std.proofs.lemmas.Fn.{filter_same}
use Rattle.sam_front.specs.Loader.{without}
use Rattle.sam_front.proofs.loader.put_first.Goals as goal

pub returns-clause-ok : goal.returns-clause-ok
returns-clause-ok c =
    let kept : c.retain.new.self.items ≡ without c.args.seen.tag c.reserve.new.self.items =
    filter_same _ _ _ (λ x b f' k. search rules) _ _ c.retain.ensures.filtered in
    c.in_ok-insert.ensures.items
    ∙ ap (λ rest. c.args.seen ∷ rest) (kept ∙ ap (without c.args.seen.tag) c.in_ok-reserve.ensures.items)

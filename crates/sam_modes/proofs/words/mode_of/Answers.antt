use Rattle.sam_modes.proofs.Common.{ap, ap₂, ◌≡◌, ◌∙◌, refl, true, map, string_bytes, subst, IfOk-weaker, is_simple, subcommand_of, subcommand_rows_of, HoldsMode, attached, program}
use Rattle.clap.proofs.OnLiterals.{clap_on_literals}
use Rattle.sam_modes.specs.declared.words.Mode.{Mode}
use Rattle.sam_modes.proofs.words.mode_of.Goals as goal

is_simple_program : is_simple program ≡ true
unfolding clap_on_literals
is_simple_program = refl

pub returns : goal.returns
returns c =
    let words_are : map string_bytes c.as_slice.result.now ≡ attached (map string_bytes c.args.words.items) =
    ap (map string_bytes) c.as_slice.ensures.value ∙ c.in_ok-words.ensures in
    let rows : subcommand_rows_of c.in_ok-matches.matches ≡ subcommand_of program (attached (map string_bytes c.args.words.items)) =
    (c.in_ok-matches.ensures.matches (ap is_simple c.in_ok-command.ensures ∙ is_simple_program)).1 ∙ ap₂ subcommand_of c.in_ok-command.ensures words_are in
    IfOk-weaker c.mode_in.result _ _ (λ (mode : Mode) h. subst (λ r. HoldsMode r mode) rows h) c.mode_in.ensures

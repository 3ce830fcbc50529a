use Rattle.std.proofs.Common.{◌++◌, sym, ap, ◌∙◌, append_assoc}
use Rattle.ssi_text.specs.Marks.{marks}
use Rattle.page_body.specs.Stages.{behind, undecided_marks}
use Rattle.page_body.proofs.Chains.{chain_ends}
use Rattle.page_body.proofs.parts.last_parts.Goals as goal

pub returns : goal.returns
returns c = λ facts.
    let was = marks c.args.out.now.items in
    let undecided = undecided_marks c.args.is_split c.args.split.now in
    c.in_ok-closing_part.ensures
    ∙ (ap (λ xs. xs ++ behind c.args.is_added) c.in_ok-undecided_part.ensures
    ∙ (append_assoc was undecided (behind c.args.is_added)
    ∙ ap (λ xs. was ++ xs) (sym (chain_ends facts c.args.is_split c.args.is_added c.args.split.now))))

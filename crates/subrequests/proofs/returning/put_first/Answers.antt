use Rattle.std.proofs.Common.{[], ◌++◌, ap, ◌∙◌}
use Rattle.node_line.specs.node_turn.declared.node.Place.{Place}
use Rattle.subrequests.specs.Families.{with_text}
use Rattle.subrequests.proofs.Joins as joining
use Rattle.subrequests.proofs.returning.put_first.Goals as goal

pub returns : goal.returns
returns c =
    let n = c.args.node.now in
    record {
      takes = c.in_ok-after.ensures.takes;
      is =
          ap (λ (p : Place). record n { place = p })
          (c.put_text.ensures ∙ ap (with_text c.in_ok-all.all) c.in_ok-after.ensures.place ∙ joining.text_twice [] c.in_ok-all.all n.place
          ∙ ap (λ t. with_text t n.place) (c.in_ok-all.ensures ∙ ap (λ t. c.args.text ++ t) c.in_ok-after.ensures.text));
    }

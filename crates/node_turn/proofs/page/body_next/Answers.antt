use Rattle.std.proofs.Common.{Some, refl, sym, ap, ◌∙◌, subst, unwrap_or}
use Rattle.page_body.specs.declared.page.Page.{Page}
use Rattle.node_turn.specs.Served.{NextPart}
use Rattle.node_turn.proofs.page.body_next.Goals as goal

pub returns-in_ok-next_part-in-Some : goal.returns-in_ok-next_part-in-Some
returns-in_ok-next_part-in-Some c = λ page is. (
  c.next_part.new.page,
  refl,
  refl,
  subst (λ (x : Page). NextPart c.args.scene.now c.args.vars.now x c.args.body.now.source c.next_part.new.page c.next_part.new.source c.in_ok-next_part-in-Some.field-0)
      (ap (λ o. unwrap_or o page) (sym c.in-Some.is ∙ is)) (c.in_ok-next_part-in-Some.ensures),
)

use Rattle.std.proofs.Common.{◌≡◌, Some, refl, sym, ap, ◌∙◌, subst, unwrap_or}
use Rattle.page_body.specs.Pages.{page_captured, page_rest, text_then}
use Rattle.page_body.specs.declared.page.Page.{Page}
use Rattle.node_turn.proofs.page.body_hears.Goals as goal

pub returns-in_ok-captures-in-Some : goal.returns-in_ok-captures-in-Some
returns-in_ok-captures-in-Some c = λ page is. (
  c.captures-2.new.page,
  refl,
  refl,
  refl,
  λ w answer bytes.
      subst (λ (x : Page). page_captured w answer c.args.scene.now x c.args.name.now c.args.text bytes ≡ text_then c.in_ok-captures-in-Some.field-0 (page_rest w answer c.args.scene.now c.captures-2.new.page bytes))
      (ap (λ o. unwrap_or o page) (sym c.in-Some.is ∙ is)) (c.in_ok-captures-in-Some.ensures w answer bytes),
)

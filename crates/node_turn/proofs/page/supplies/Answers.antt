use Rattle.std.proofs.Common.{sym, ap, ◌∙◌}
use Rattle.page_body.specs.Pages.{page_rest}
use Rattle.node_turn.proofs.Serving as serving
use Rattle.node_turn.proofs.page.supplies.Goals as goal

pub returns : goal.returns
returns c = λ scene w answer file members.
    let none = serving.spent c.args.source.now file (sym c.is_spent.ensures ∙ c.if-not-is_spent.false) in
    ap (page_rest w answer scene c.args.page.now) none
    ∙ (c.in_ok-finish.ensures.ends scene w answer members ∙ ap (page_rest w answer scene c.finish.new.self) (sym none))

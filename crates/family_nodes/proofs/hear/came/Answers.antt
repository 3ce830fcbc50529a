use Rattle.std.proofs.Common.{sym, ap, ◌∙◌}
use Rattle.node_line.specs.node_turn.declared.node.Body.{Body}
use Rattle.family_nodes.proofs.Hearing as hearing
use Rattle.family_nodes.proofs.hear.came.Goals as goal

pub returns-then-has_page : goal.returns-then-has_page
returns-then-has_page c = λ w patterns site p levels path text.
    let came = c.in_ok-body.ensures in
    hearing.more_came w site p levels text c.args.body.value c.in_ok-body.body.value c.args.bytes.now c.requires came.text came.left came.others.0 came.others.1

pub returns : goal.returns
returns c = λ w patterns site p levels path text.
    let came = c.in_ok-body.ensures in
    let is = c.placing.ensures in
    let none = ap (λ (x : Body). x.page) (sym c.deref.ensures) ∙ c.has_page.ensures c.if-has_page.false in
    hearing.more_came w site p levels text c.args.body.value c.in_ok-body.body.value c.args.bytes.now c.requires came.text came.left came.others.0 came.others.1
    ∙ hearing.places_text w site p levels text c.in_ok-body.body.value c.placing.result.value none is.hand is.text is.left is.others.0 is.others.1

use Rattle.std.proofs.Common.{◌+◌, ◌∙◌, length, sym, ap, refl, arith}
use Rattle.acts.specs.Vars.{Vars}
use Rattle.family_order.specs.family_meaning.Line.{Left}
use Rattle.subrequests.specs.family_rest.Still.{still, subs_still}
use Rattle.subrequests.specs.Moved.{files, meant}
use Rattle.page_response.specs.Pages.{step_weight}
use Rattle.page_response.proofs.Moving as moving
use Rattle.page_response.proofs.pages.Pages.hear.Goals as goal

pub returns-clause-same : goal.returns-clause-same
returns-clause-same c = λ w patterns site trees from reached.
    let f = c.args.self.now.family in
    let g = c.hear.new.self in
    let m = meant w patterns site (files trees f) f in
    let is = c.in_ok-hear.ensures in
    let keeps = is.keeps w patterns site trees from (c.reached_stays_well.ensures.well w m f.vars (reached (files trees f))) in
    let body =
    ap (λ (l : Left). l.body) keeps.still ∙ (ap (λ n. (still w (trees n) (meant w patterns site (files trees g) g) f.vars).body) (sym is.others.0)
    ∙ ap (λ (v : Vars). (still w (trees g.tree) (meant w patterns site (files trees g) g) v).body) (sym is.others.1)) in
    let subs =
    keeps.subs ∙ (ap (λ n. subs_still w (trees n) (meant w patterns site (files trees g) g) f.vars) (sym is.others.0)
    ∙ ap (λ (v : Vars). subs_still w (trees g.tree) (meant w patterns site (files trees g) g) v) (sym is.others.1)) in
    moving.same_left w patterns site trees c.args.self.now _ body refl refl
    (ap (λ k. length f.nodes + k) subs ∙ ap (λ k. k + subs_still w (trees g.tree) (meant w patterns site (files trees g) g) g.vars) (sym is.size))

pub returns-clause-reached : goal.returns-clause-reached
returns-clause-reached c = λ w patterns site reached texts.
    let f = c.args.self.now.family in
    let g = c.hear.new.self in
    let come = c.in_ok-hear.ensures.comes w patterns site texts in
    c.reached_stays_well.ensures.goes w come.tree (meant w patterns site come.before f) f.vars (meant w patterns site texts g) g.vars (reached come.before) come.goes

pub returns-clause-lowers : goal.returns-clause-lowers
unfolding step_weight
returns-clause-lowers c = omega (arith, c.if-self-eq0.false)

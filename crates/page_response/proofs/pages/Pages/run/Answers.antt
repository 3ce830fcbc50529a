use Rattle.std.proofs.Common.{◌≡◌, ◌+◌, ◌-◌, ◌∙◌, ◌++◌, length, sym, ap, refl, subst, arith}
use Rattle.file_tree.specs.Tree.{Nothing}
use Rattle.subrequests.specs.family_rest.Still.{still, subs_still}
use Rattle.request_meaning.specs.Laws.{shipped}
use Rattle.subrequests.specs.request_phases.Rounds.{world_in}
use Rattle.subrequests.specs.Moved.{files, meant}
use Rattle.subrequests.specs.Ran as ran
use Rattle.page_response.specs.Pages.{step_weight}
use Rattle.page_response.specs.declared.pages.Pages.{Pages}
use Rattle.page_response.proofs.Moving as moving
use Rattle.page_response.proofs.pages.Pages.run.Goals as goal

pub returns-in-TooMany-clause-ran : goal.returns-in-TooMany-clause-ran
returns-in-TooMany-clause-ran c = λ trees raceless reached.
    let ps = c.args.patterns.now in
    let g = c.args.ground.now in
    let w = world_in ps g shipped in
    let f = c.args.self.now.family in
    let tree = trees f.tree in
    let over = subst (ran.RunsTo ps g f c.run.new.self c.args.at) c.in-TooMany.is c.in_ok-run.ensures.ran in
    let o = over tree trees in
    let counted = c.steps_keep_still.ensures.counts_going w (c.shipped_are_fit.ensures w refl) raceless tree (meant w ps g.site.now (files trees f) f) f.vars o.after o.later (reached (files trees f)) o.opening.goes in
    let opens = o.opening.opens in
    let many = o.many in
    omega (arith, counted, opens, many)

pub returns-in-Rests-clause-ran : goal.returns-in-Rests-clause-ran
unfolding step_weight
returns-in-Rests-clause-ran c =
    let p = c.args.self.now in
    let ps = c.args.patterns.now in
    let g = c.args.ground.now in
    let site = g.site.now in
    let w = world_in ps g shipped in
    let f = p.family in
    let next = c.run.new.self in
    let rests = subst (ran.RunsTo ps g f next c.args.at) c.in-Rests.is c.in_ok-run.ensures.ran in
    let steps = rests.0.steps in
    let same = c.in_ok-run.ensures.tree in
    let mid : Pages = record p { family = next; steps = p.steps - 1 } in
    let few = c.pump.ensures.bounded c.requires.bounded in
    let left = c.pump.ensures.others.0 in
    record {
      same = λ trees raceless reached.
          let tree = trees f.tree in
          let m = meant w ps site (files trees f) f in
          let n = meant w ps site (files trees next) next in
          let opening = steps.by_files tree trees in
          let fit = c.shipped_are_fit.ensures w refl in
          let went = c.steps_keep_still.ensures.goes w fit raceless tree m f.vars n next.vars (reached (files trees f)) opening.goes in
          let counted = c.steps_keep_still.ensures.counts_going w fit raceless tree m f.vars n next.vars (reached (files trees f)) opening.goes
          ∙ ap (λ k. k + subs_still w tree n next.vars) opening.opens in
          let grows = steps.grows in
          let sum : length f.nodes + subs_still w tree m f.vars ≡ length next.nodes + subs_still w tree n next.vars = omega (arith, counted, grows) in
          let body = went.body ∙ (ap (λ b. b ++ (still w tree n next.vars).body) (sym went.output) ∙ ap (λ t. (still w (trees t) n next.vars).body) (sym same)) in
          moving.same_then w ps site trees p mid c.pump.new.self
          (moving.same_left w ps site trees p mid body refl refl (sum ∙ ap (λ t. length next.nodes + subs_still w (trees t) n next.vars) (sym same)))
          (c.pump.ensures.same w ps site trees);
      reached = λ reached.
          c.pump.ensures.reached w ps site
          (λ texts. c.reached_stays_well.ensures.goes w (λ path. Nothing) (meant w ps site texts f) f.vars (meant w ps site texts next) next.vars (reached texts) (steps.any (λ path. Nothing) texts).goes);
      whole = c.pump.ensures.whole rests.0.whole;
      bounded = few;
      lowers = omega (arith, left, few, c.if-self-eq0.false);
      status = c.pump.ensures.others.1;
    }

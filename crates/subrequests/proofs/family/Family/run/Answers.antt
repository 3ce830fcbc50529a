use Rattle.std.proofs.Common.{refl, sym, ◌∙◌, subst}
use Rattle.subrequests.specs.Moved.{OverrunsBy, Steps}
use Rattle.subrequests.specs.Ran.{StepsTo}
use Rattle.subrequests.specs.declared.family.Family.{Family}
use Rattle.subrequests.specs.declared.family.Stepped.TheVariants.{Rests as RestsNow}
use Rattle.subrequests.proofs.Numbers as numbers
use Rattle.subrequests.proofs.Wholes as wholes
use Rattle.subrequests.proofs.family.Family.run.Goals as goal

pub loop-init : goal.loop-init
loop-init c = record { moves = record { steps = wholes.no_steps c.args.patterns.now c.args.ground.now c.args.self.now; whole = c.requires.whole }; tree = refl; kept = refl }

pub returns-in-Rests-clause-ran : goal.returns-in-Rests-clause-ran
returns-in-Rests-clause-ran c =
    let ps = c.args.patterns.now in
    let g = c.args.ground.now in
    let new = c.rests.new.self in
    let i = c.loop.invariant in
    let s = subst (λ (f : Family). StepsTo c.loop.patterns g c.loop.self f c.args.at RestsNow) (sym c.rests.ensures) (subst (StepsTo c.loop.patterns g c.loop.self c.step.new.self c.args.at) c.in-Rests.is c.in_ok-step.ensures.stepped) in (
      record { steps = wholes.steps_then ps g c.args.self.now c.loop.self new i.moves.steps (subst (λ p. Steps p g c.loop.self new) i.kept s.0.steps); whole = s.0.whole },
      numbers.ready_is new.order new.nodes c.args.at ∙ s.1,
    )

pub returns-in-TooMany-clause-ran : goal.returns-in-TooMany-clause-ran
returns-in-TooMany-clause-ran c =
    let g = c.args.ground.now in
    let i = c.loop.invariant in
    let s = subst (StepsTo c.loop.patterns g c.loop.self c.step.new.self c.args.at) c.in-TooMany.is c.in_ok-step.ensures.stepped in
    wholes.then_overruns c.args.patterns.now g c.args.self.now c.loop.self i.moves.steps (subst (λ p. OverrunsBy p g c.loop.self) i.kept s)

pub loop-preserved : goal.loop-preserved
loop-preserved c =
    let ps = c.args.patterns.now in
    let g = c.args.ground.now in
    let new = c.step.new.self in
    let i = c.loop.invariant in
    let s = subst (StepsTo c.loop.patterns g c.loop.self new c.args.at) c.in-On.is c.in_ok-step.ensures.stepped in
    record {
      moves = record { steps = wholes.steps_then ps g c.args.self.now c.loop.self new i.moves.steps (subst (λ p. Steps p g c.loop.self new) i.kept s.steps); whole = s.whole };
      tree = c.in_ok-step.ensures.tree ∙ i.tree;
      kept = c.step.ensures.kept ∙ i.kept;
    }

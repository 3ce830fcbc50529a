use Rattle.std.proofs.Common.{ap, ◌∙◌, sym}
use Rattle.acts.specs.Act.{settled}
use Rattle.file_tree.specs.Tree.{known_text}
use Rattle.request_reply.specs.request_meaning.Laws.{shipped}
use Rattle.request_reply.specs.request_meaning.Phases.{rounds}
use Rattle.request_reply.specs.request_meaning.Serving.From.{Start}
use Rattle.request_reply.specs.request_phases.Rounds.{asked_from, phases_left, world_in}
use Rattle.request_reply.specs.request_phases.declared.state.Phases.{Phases}
use Rattle.node_turn.specs.Nodes.{after_phases, padded, path_or, served_as, stage_act}
use Rattle.node_turn.proofs.Phased as phased
use Rattle.node_turn.proofs.Turning.{turns_by, turns_on}
use Rattle.node_turn.proofs.phase.begins.Goals as goal

pub returns-clause-turns : goal.returns-clause-turns
returns-clause-turns c = λ path text.
    let g = c.args.footing.ground.now in
    let site = g.site.now in
    let ps = c.args.patterns.now in
    let w = world_in ps g shipped in
    let main = c.args.main.now in
    let old = c.args.vars.now in
    let new = c.begin.new.vars in
    let q = c.begin.new.phases in
    let step = c.in_ok-step.step in
    let turned = c.in_ok-turned.turned in
    let left = c.args.footing.left in
    let given = c.lend_to.new.phases in
    let bytes = padded 0 (known_text c.new-known.result text) in
    turns_by (ap (λ (p : Phases). settled (served_as w left c.args.ssi (rounds w p.changes (asked_from p Start))) old) (sym c.lend_to.ensures.phases)
    ∙ phased.in_turn (rounds w given.changes (asked_from given Start)) (phases_left w ps site bytes q step) (after_phases w left c.args.ssi) old new
    (c.in_ok-step.ensures.does bytes shipped))
    (turns_on (c.in_ok-turned.ensures.turns ps path text new)
    (ap (λ p. stage_act w ps site p left (path_or turned.path path) turned.stage text)
    (sym (phased.given_back main c.lend_to.new.main c.args.phases.now given q c.give_back.new.phases c.lend_to.ensures.phases c.in_ok-step.ensures.main c.give_back.ensures.phases))))

use Rattle.std.proofs.Common.{ap, ◌∙◌, sym}
use Rattle.acts.specs.Act.{settled}
use Rattle.file_tree.specs.Tree.{known_text, text_of}
use Rattle.request_reply.specs.request_meaning.Laws.{shipped}
use Rattle.request_reply.specs.request_phases.Rounds.{phases_left, phases_told, world_in}
use Rattle.node_turn.specs.Nodes.{after_phases, padded, path_or, served_as, stage_act, told_item}
use Rattle.node_turn.proofs.Phased as phased
use Rattle.node_turn.proofs.Turning.{turns_by, turns_on}
use Rattle.node_turn.proofs.phase.resumes.Goals as goal

pub returns-clause-turns : goal.returns-clause-turns
returns-clause-turns c = λ path text.
    let g = c.args.footing.ground.now in
    let site = g.site.now in
    let ps = c.args.patterns.now in
    let w = world_in ps g shipped in
    let main = c.args.main.now in
    let old = c.args.vars.now in
    let new = c.resume.new.vars in
    let file = c.args.told.file in
    let there = known_text file.text text in
    let item = told_item file.node there in
    let q = c.resume.new.phases in
    let step = c.in_ok-step.step in
    let turned = c.in_ok-turned.turned in
    let left = c.args.footing.left in
    turns_by (ap (λ p. settled (served_as w left c.args.told.ssi (phases_told w ps site p c.args.told.wait item)) old) (sym c.lend_to.ensures.phases)
    ∙ (phased.in_turn (phases_told w ps site c.lend_to.new.phases c.args.told.wait item) (phases_left w ps site (text_of item) q step) (after_phases w left c.args.told.ssi) old new
    (c.in_ok-step.ensures.does item (phased.told_node file.node there) shipped)
    ∙ ap (λ b. settled (served_as w left c.args.told.ssi (phases_left w ps site b q step)) new) (phased.told_text file.node there ∙ ap (λ n. padded n there) (sym c.len_of.ensures))))
    (turns_on (c.in_ok-turned.ensures.turns ps path text new)
    (ap (λ p. stage_act w ps site p left (path_or turned.path path) turned.stage text)
    (sym (phased.given_back main c.lend_to.new.main c.args.phases.now c.lend_to.new.phases q c.give_back.new.phases c.lend_to.ensures.phases c.in_ok-step.ensures.main c.give_back.ensures.phases))))

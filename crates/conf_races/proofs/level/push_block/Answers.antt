use Rattle.std.proofs.Common.{◌∙◌, ap, map}
use Rattle.conf_block.specs.Forest.{forest_of}
use Rattle.race_places.specs.Places.{origins_by}
use Rattle.conf_races.specs.Origins.{outer_by, origins_in}
use Rattle.conf_races.proofs.GrowLaws.{grows_none}
use Rattle.conf_races.proofs.LineLaws.{pushed}
use Rattle.conf_races.proofs.LevelLaws.{no_block, one_block}
use Rattle.conf_races.proofs.level.push_block.Goals as goal

pub returns-then-not-is_if-clause-grows : goal.returns-then-not-is_if-clause-grows
returns-then-not-is_if-clause-grows c = grows_none c.args.lists.now.items

pub returns-then-not-is_if-clause-lines : goal.returns-then-not-is_if-clause-lines
returns-then-not-is_if-clause-lines c = λ later g. no_block (outer_by later c.args.outer) c.args.is_if (forest_of c.args.block.now) (map (origins_by later) c.args.blocks.now.items) c.if-not-is_if.true

pub returns-clause-grows : goal.returns-clause-grows
returns-clause-grows c = c.in_ok-inner.ensures.grows

pub returns-clause-lines : goal.returns-clause-lines
returns-clause-lines c = λ later g.
    let block = forest_of c.args.block.now in
    one_block (outer_by later c.args.outer) c.args.is_if block (map (origins_by later) c.args.blocks.now.items) (map (origins_by later) c.push.new.self.items) c.if-not-is_if.false
    (pushed (origins_by later) c.args.blocks.now.items c.push.new.self.items c.level_lines.result _ c.in_ok-push.ensures.items
    (c.level_lines.ensures later ∙ ap (λ o. origins_in o block c.new.result.items) (c.in_ok-inner.ensures.lines later g) ∙ ap (origins_in _ block) c.new.ensures.items))

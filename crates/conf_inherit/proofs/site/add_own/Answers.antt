use Rattle.std.proofs.Common.{ap, ◌∙◌}
use Rattle.std.specs.List.{slice_get}
use Rattle.conf_values.specs.TextSet.{holds}
use Rattle.conf_block.specs.Forest.{forest_of}
use Rattle.conf_inherit.specs.declared.shelf.Shelf.{Shelf}
use Rattle.conf_inherit.proofs.SiteLaws.{all-then, all-same, keeps-appended, patterns-kept, fits-later}
use Rattle.conf_inherit.proofs.LevelLaws.{server-level-shown}
use Rattle.conf_inherit.proofs.site.add_own.Goals as goal

pub returns-clause-seen : goal.returns-clause-seen
returns-clause-seen g c = λ b h.
    server-level-shown (holds c.args.known.now.keys) b c.add_level.new.self.levels.items c.add_level.new.self.shelf c.args.values c.in_ok-number.number (forest_of c.args.block.now) c.in_ok-level_of.field-0 c.in_ok-program.program c.args.pool.now.shelf.patterns c.program_of.new.patterns
    h c.in_ok-number.ensures.there c.in_ok-level_of.ensures.values c.in_ok-level_of.ensures.tries
    (fits-later _ _ c.args.values (all-then _ _ _ (patterns-kept c.args.pool.now.shelf c.program_of.new.patterns (keeps-appended _ _ _ c.in_ok-program.ensures.patterns)) (all-same _ _ c.in_ok-number.ensures.shelf)) c.requires) c.in_ok-program.ensures.patterns
    (λ n x q. ap (λ (s : Shelf). slice_get s.patterns n) c.in_ok-number.ensures.shelf ∙ q)
    c.in_ok-program.ensures.program

pub returns-clause-shelf : goal.returns-clause-shelf
returns-clause-shelf g c = all-then _ _ _ (patterns-kept c.args.pool.now.shelf c.program_of.new.patterns (keeps-appended _ _ _ c.in_ok-program.ensures.patterns)) (all-same _ _ c.in_ok-number.ensures.shelf)

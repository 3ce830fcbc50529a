use Rattle.std.proofs.Common.{◌≡◌, map, ◌+◌, length, sym, ap, subst, ◌∙◌, rules}
use Rattle.std.specs.List.{slice_get}
use Rattle.conf_values.specs.TextSet.{holds}
use Rattle.conf_block.specs.Forest.{forest_of}
use Rattle.conf_inherit.specs.Programs.{AllAt, blocks_in}
use Rattle.conf_inherit.specs.Values.{values_within}
use Rattle.conf_inherit.specs.declared.shelf.Shelf.{Shelf}
use Rattle.conf_inherit.specs.Pools.{values_by, values_built}
use Rattle.conf_inherit.proofs.SiteLaws.{keeps-then, all-then, all-same, keeps-appended, patterns-kept, fits-later}
use Rattle.conf_inherit.proofs.LevelLaws.{location-level-shown}
use Rattle.conf_inherit.proofs.site.add_level.Goals as goal

pub add_blocks-requires : goal.add_blocks-requires
add_blocks-requires g c = fits-later _ _ c.args.values (all-then _ _ _ (patterns-kept c.args.pool.now.shelf c.program_of.new.patterns (keeps-appended _ _ _ c.in_ok-program.ensures.patterns)) (all-same _ _ c.in_ok-number.ensures.shelf)) c.requires

pub returns-clause-seen : goal.returns-clause-seen
returns-clause-seen g c = λ b h.
    let known = holds c.args.known.now.keys in
    let body = forest_of c.args.block.now in
    let kept = c.in_ok-add_blocks.ensures.shelf_kept in
    let len : c.len.result ≡ length c.args.pool.now.levels.items = search rules in
    location-level-shown known b c.add_blocks.new.pool.levels.items c.add_blocks.new.pool.shelf c.args.values c.in_ok-number.number body c.in_ok-level_of.field-0 c.in_ok-program.program c.args.pool.now.shelf.patterns c.program_of.new.patterns
    h (c.in_ok-add_blocks.ensures.levels_kept _ _ c.in_ok-number.ensures.there) c.in_ok-level_of.ensures.values c.in_ok-level_of.ensures.tries
    (fits-later _ _ c.args.values (all-then _ _ _ (all-then _ _ _ (patterns-kept c.args.pool.now.shelf c.program_of.new.patterns (keeps-appended _ _ _ c.in_ok-program.ensures.patterns)) (all-same _ _ c.in_ok-number.ensures.shelf)) kept) c.requires) c.in_ok-program.ensures.patterns
    (λ n x q. kept.patterns n x (ap (λ (s : Shelf). slice_get s.patterns n) c.in_ok-number.ensures.shelf ∙ q))
    c.in_ok-first.first c.in_ok-program.ensures.program
    (subst (λ n. AllAt (values_built b) n (map (values_within (values_by c.args.values)) (blocks_in known body))) (c.in_ok-number.ensures.count ∙ ap (λ n. n + 1) (sym len) ∙ sym c.in_ok-first.ensures) (c.in_ok-add_blocks.ensures.same b h))

pub returns-clause-levels : goal.returns-clause-levels
returns-clause-levels g c = keeps-then _ _ _ c.in_ok-number.ensures.levels c.in_ok-add_blocks.ensures.levels_kept

pub returns-clause-shelf : goal.returns-clause-shelf
returns-clause-shelf g c = all-then _ _ _ (all-then _ _ _ (patterns-kept c.args.pool.now.shelf c.program_of.new.patterns (keeps-appended _ _ _ c.in_ok-program.ensures.patterns)) (all-same _ _ c.in_ok-number.ensures.shelf)) c.in_ok-add_blocks.ensures.shelf_kept

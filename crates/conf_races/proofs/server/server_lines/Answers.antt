use Rattle.std.proofs.Common.{[], ◌++◌, ◌∷◌, ap, ◌∙◌, map, subst}
use Rattle.conf_values.specs.TextSet.{holds}
use Rattle.conf_block.specs.Forest.{forest_of}
use Rattle.race_places.specs.Places.{level_by}
use Rattle.conf_races.specs.Origins.{Grows, outer_by, outer_over}
use Rattle.conf_races.proofs.GrowLaws.{grows_none, grows_both, levels_added}
use Rattle.conf_races.proofs.server.server_lines.Goals as goal

pub returns : goal.returns
returns c = λ whole means.
    let known = holds c.args.known.now.keys in
    let block = forest_of c.args.block.now in
    let one = c.outer_over.new.lists.items in
    let two = c.push_locations.new.lists.items in
    let last = c.push_named.new.lists.items in
    let named = c.in_ok-push_named.ensures.grows in
    let behind = grows_both one two last c.in_ok-push_locations.ensures.grows named in
    let all : Grows c.args.around.now last = subst (λ l. Grows l last) c.in_ok-lists.ensures (grows_both c.in_ok-lists.lists.items one last c.in_ok-inner.ensures.grows behind) in
    levels_added known (outer_over block whole) (outer_by last c.in_ok-inner.inner) block _ (map (level_by last) c.push_locations.new.levels.items) (map (level_by last) c.push_named.new.levels.items)
    (ap (map (level_by last)) (c.in_ok-push.ensures.items ∙ ap (λ l. l ++ c.in_ok-server_level.field-0 ∷ []) c.new-levels.ensures.items) ∙ ap (λ l. l ∷ []) (c.in_ok-server_level.ensures last))
    (c.in_ok-push_locations.ensures.lines last named)
    (c.in_ok-push_named.ensures.lines last (grows_none last))
    (c.in_ok-inner.ensures.lines last behind ∙ ap (outer_over block) (means last all))

use Rattle.std.proofs.Common.{map, ap, ◌∙◌}
use Rattle.site_whole.specs.Whole.{level_whole}
use Rattle.race_places.specs.Index.{at}
use Rattle.race_places.specs.Places.{level_by, levels_by, all_sets}
use Rattle.race_places.proofs.Placing.{server_placed}
use Rattle.race_places.proofs.told.placed.Goals as goal

pub returns : goal.returns
returns c = λ files patterns.
    let lines = c.args.lines.now in
    let lists = lines.lists.items in
    server_placed files patterns c.args.site.now c.args.server.now (levels_by lines) c.args.number c.args.named.now (c.requires patterns)
    c.as_slice.result.now (c.as_slice.ensures.value ∙ c.in_ok-numbers.ensures) c.as_slice-3.result.now (c.as_slice-3.ensures.value ∙ c.in_ok-numbers.ensures)
    (at c.in_ok-sets.sets) (at c.in_ok-reads.reads)
    (λ name. c.in_ok-sets.ensures lists patterns name ∙ ap (λ x. all_sets name (map (level_whole patterns c.args.site.now) c.as_slice.result.now) (map (level_by lists) x)) c.as_slice-2.ensures.value)
    (c.in_ok-reads.ensures patterns)
    c.push_placed.new.conflicts.items c.new-conflicts.result.items c.new-conflicts.ensures.items c.in_ok-push_placed.ensures

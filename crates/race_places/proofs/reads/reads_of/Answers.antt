use Rattle.std.proofs.Common.{◌||◌, ap, ◌∙◌, map}
use Rattle.site_whole.specs.Whole.{level_whole}
use Rattle.race_places.specs.Index.{is_among}
use Rattle.race_places.specs.Places.{level_by, all_reads}
use Rattle.race_places.proofs.Among.{there_none}
use Rattle.race_places.proofs.reads.reads_of.Goals as goal

pub add_levels-requires : goal.add_levels-requires
add_levels-requires c = there_none c.args.site.now c.as_slice-lists.result.now c.in_ok-no_marks.field-0.items c.new.result c.in_ok-no_marks.ensures

pub returns : goal.returns
returns c = λ patterns name line.
    let site = c.args.site.now in
    let numbers = c.args.numbers.now in
    c.in_ok-add_levels.ensures patterns name line
    ∙ ap (λ x. is_among line x || is_among line (all_reads name (map (level_whole patterns site) numbers) (map (level_by c.as_slice-lists.result.now) c.as_slice.result.now))) (c.new.ensures name)
    ∙ ap (λ x. is_among line (all_reads name (map (level_whole patterns site) numbers) (map (level_by c.as_slice-lists.result.now) x))) c.as_slice.ensures.value
    ∙ ap (λ x. is_among line (all_reads name (map (level_whole patterns site) numbers) (map (level_by x) c.args.lines.now.levels.items))) c.as_slice-lists.ensures.value

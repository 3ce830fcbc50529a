use Rattle.std.proofs.Common.{ap, ◌∙◌}
use Rattle.conf_inherit.specs.Values.{own_or, has_items}
use Rattle.race_places.specs.Places.{list_at}
use Rattle.conf_races.proofs.GrowLaws.{grows_both, outer_same}
use Rattle.conf_races.proofs.outer.outer_over.Goals as goal

pub returns-clause-grows : goal.returns-clause-grows
returns-clause-grows c =
    let start = c.args.lists.now.items in
    let one = c.own_or.new.lists.items in
    let two = c.own_or-2.new.lists.items in
    let last = c.own_or-3.new.lists.items in
    grows_both start two last (grows_both start one two c.in_ok-index.ensures.grows c.in_ok-pages.ensures.grows) c.in_ok-auth_sets.ensures.grows

pub returns-clause-lines : goal.returns-clause-lines
returns-clause-lines c = λ later g.
    let one = c.own_or.new.lists.items in
    let two = c.own_or-2.new.lists.items in
    let last = c.own_or-3.new.lists.items in
    let outer = c.args.outer in
    let behind = grows_both two last later c.in_ok-auth_sets.ensures.grows g in
    outer_same _ _ _ _ _ _ _ _ c.place_over.ensures
    (c.in_ok-index.ensures.lines later (grows_both one two later c.in_ok-pages.ensures.grows behind) ∙ ap (λ x. own_or has_items x (list_at later outer.index)) c.in_ok-names.ensures)
    (c.in_ok-pages.ensures.lines later behind ∙ ap (λ x. own_or has_items x (list_at later outer.pages)) c.in_ok-rules.ensures)
    (c.in_ok-auth_sets.ensures.lines later g ∙ ap (λ x. own_or has_items x (list_at later outer.auth_sets)) c.in_ok-sets.ensures)

use Rattle.std.proofs.Common.{[], ◌∷◌, ◌++◌, map, sym, ◌∙◌, ap}
use Rattle.std.specs.List.{position}
use Rattle.std.proofs.lemmas.List.{map-append}
use Rattle.acts.specs.Vars.{set}
use Rattle.ssi_values.proofs.Entries as entries
use Rattle.ssi_values.proofs.table.Table.put.Goals as goal

pub returns-in-Some-clause-ok : goal.returns-in-Some-clause-ok
returns-in-Some-clause-ok c =
    let name = c.args.name.now in
    let xs = c.self.inside.entries.items in
    let there = entries.found_at name xs c.in-Some.at (sym c.in-Some.is ∙ (c.position_of.ensures ∙ ap (λ l. position (entries.is_of name) l) c.as_slice.ensures.value)) in
    entries.set_at name c.args.value xs c.in-Some.at c.index_mut.result.now there.0 there.1 c.index_mut.ensures.value
    ∙ ap (λ t. set name c.args.value t) c.self.view_is

pub returns-in_ok-push-in-None-clause-ok : goal.returns-in_ok-push-in-None-clause-ok
returns-in_ok-push-in-None-clause-ok c =
    let name = c.args.name.now in
    let xs = c.self.inside.entries.items in
    let nowhere = entries.not_found name xs (sym c.in-None.is ∙ (c.position_of.ensures ∙ ap (λ l. position (entries.is_of name) l) c.as_slice.ensures.value)) in
    ap (λ l. map entries.pair l) c.in_ok-push-in-None.ensures.items
    ∙ (map-append entries.pair xs _
    ∙ (ap (λ n. map entries.pair xs ++ (n, c.args.value) ∷ []) c.in_ok-name-in-None.ensures
    ∙ (entries.set_last name c.args.value xs nowhere ∙ ap (λ t. set name c.args.value t) c.self.view_is)))

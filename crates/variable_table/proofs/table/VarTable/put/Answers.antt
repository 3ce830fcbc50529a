use Rattle.std.proofs.Common.{[], ◌∷◌, ◌++◌, set as put_at, sym, ◌∙◌, ap}
use Rattle.std.specs.List.{position}
use Rattle.acts.specs.Vars.{set}
use Rattle.variable_table.proofs.Settings as settings
use Rattle.variable_table.proofs.table.VarTable.put.Goals as goal

pub returns-in_ok-value-in-Some-clause-ok : goal.returns-in_ok-value-in-Some-clause-ok
returns-in_ok-value-in-Some-clause-ok c =
    let name = c.args.name.now in
    let xs = c.self.inside.settings.items in
    let there = settings.found_at name xs c.in-Some.at (sym c.in-Some.is ∙ (c.position_of.ensures ∙ ap (λ l. position (settings.is_of name) l) c.as_slice.ensures.value)) in
    ap (λ e. put_at xs c.in-Some.at e) (c.put.ensures ∙ ap (λ value. (c.index_mut.result.now.0, value)) c.in_ok-value-in-Some.ensures)
    ∙ (settings.set_at name c.args.value.now xs c.in-Some.at c.index_mut.result.now there.0 there.1 c.index_mut.ensures.value
    ∙ ap (λ t. set name c.args.value.now t) c.self.view_is)

pub returns-in_ok-push-in-None-clause-ok : goal.returns-in_ok-push-in-None-clause-ok
returns-in_ok-push-in-None-clause-ok c =
    let name = c.args.name.now in
    let xs = c.self.inside.settings.items in
    let nowhere = settings.not_found name xs (sym c.in-None.is ∙ (c.position_of.ensures ∙ ap (λ l. position (settings.is_of name) l) c.as_slice.ensures.value)) in
    c.in_ok-push-in-None.ensures.items
    ∙ (ap (λ items. items ++ c.in_ok-setting-in-None.setting ∷ []) c.make_room.ensures
    ∙ (ap (λ e. xs ++ e ∷ []) c.in_ok-setting-in-None.ensures
    ∙ (settings.set_last name c.args.value.now xs nowhere ∙ ap (λ t. set name c.args.value.now t) c.self.view_is)))

use Rattle.std.proofs.Common.{not, map, ◌∙◌, ap, rules}
use Rattle.std.proofs.lemmas.Fn.{filter_same}
use Rattle.ssi_values.specs.Tables.{without_name}
use Rattle.ssi_values.proofs.Entries as entries
use Rattle.ssi_values.proofs.table.Table.remove.Goals as goal

pub returns : goal.returns
returns c =
    let name = c.args.name.now in
    let xs = c.self.inside.entries.items in
    ap (λ l. map entries.pair l) (filter_same _ (λ e. not (entries.is_of name e)) _ (λ x b f' k. search rules) xs c.retain.new.self.items c.retain.ensures.filtered)
    ∙ (entries.stay name xs ∙ ap (λ t. without_name name t) c.self.view_is)

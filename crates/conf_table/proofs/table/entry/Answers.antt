use Rattle.std.proofs.Common.{sym, ◌∙◌}
use Rattle.conf_table.proofs.TableLaws.{table-searchable, entry-found, entry-missing, entry-family}
use Rattle.conf_table.proofs.table.entry.Goals as goal

pub search-requires : goal.search-requires
search-requires c = table-searchable c.table-rows.result.now c.args.name.now c.table-rows.ensures

pub returns-in-Some : goal.returns-in-Some
returns-in-Some c = entry-found c.table-rows.result.now c.args.name.now c.in-Some.at _ c.table-rows.ensures c.in-Some.ensures.bound c.in-Some.ensures.found

pub returns-then-is_in_family : goal.returns-then-is_in_family
returns-then-is_in_family c = entry-family c.table-rows.result.now c.args.name.now c.table-rows.ensures c.in-None.ensures.missing (sym c.is_in_family.ensures ∙ c.if-is_in_family.true)

pub returns-else-is_in_family : goal.returns-else-is_in_family
returns-else-is_in_family c = entry-missing c.table-rows.result.now c.args.name.now c.table-rows.ensures c.in-None.ensures.missing (sym c.is_in_family.ensures ∙ c.if-is_in_family.false)

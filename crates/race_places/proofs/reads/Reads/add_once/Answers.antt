use Rattle.std.proofs.Common.{◌++◌, Some, refl, ap, subst, sym, ◌∙◌}
use Rattle.race_places.specs.Index.{at}
use Rattle.race_places.specs.Marks.{is_gone, list_reads, AreThere}
use Rattle.race_places.specs.Places.{list_at}
use Rattle.race_places.proofs.Among.{gains_by, gains_there, there_more}
use Rattle.race_places.proofs.reads.Reads.add_once.Goals as goal

pub returns-then-is_gone-clause-gains : goal.returns-then-is_gone-clause-gains
returns-then-is_gone-clause-gains c =
    gains_there c.args.self.now.index (λ name. list_reads c.args.site.now c.args.kind name (Some c.args.values) (list_at c.args.lists.now (Some c.args.lines)))
    (c.requires c.args.lines c.args.kind c.args.values (ap (λ m. is_gone m c.args.lines c.args.kind c.args.values) (sym c.as_slice.ensures.value) ∙ sym c.is_gone.ensures ∙ c.if-is_gone.true))

pub returns-clause-gains : goal.returns-clause-gains
returns-clause-gains c =
    let kind = c.args.kind in
    gains_by c.args.self.now.index c.add_list.new.index (λ name. list_reads c.args.site.now kind name (Some c.args.values) (list_at c.args.lists.now (Some c.args.lines)))
    (λ name. c.in_ok-add_list.ensures name ∙ ap (λ x. at c.args.self.now.index name ++ list_reads c.args.site.now kind name (Some c.args.values) x) c.list_of.ensures)

pub returns-clause-there : goal.returns-clause-there
returns-clause-there c =
    let kind = c.args.kind in
    subst (λ m. AreThere c.args.site.now c.args.lists.now m c.add_list.new.index) (sym c.mark_gone.ensures)
    (there_more c.args.site.now c.args.lists.now c.args.self.now.marks.items c.args.self.now.index c.add_list.new.index c.args.lines kind c.args.values (record { kind = kind; values = c.args.values }) refl refl
    (gains_by c.args.self.now.index c.add_list.new.index (λ name. list_reads c.args.site.now kind name (Some c.args.values) (list_at c.args.lists.now (Some c.args.lines)))
    (λ name. c.in_ok-add_list.ensures name ∙ ap (λ x. at c.args.self.now.index name ++ list_reads c.args.site.now kind name (Some c.args.values) x) c.list_of.ensures))
    c.requires)

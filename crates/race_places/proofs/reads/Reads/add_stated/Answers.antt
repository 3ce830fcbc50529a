use Rattle.std.proofs.Common.{Some, ap, ◌∙◌}
use Rattle.race_places.specs.Marks.{list_reads}
use Rattle.race_places.specs.Places.{list_at}
use Rattle.race_places.proofs.Among.{gains_none, no_values}
use Rattle.race_places.proofs.reads.Reads.add_stated.Goals as goal

pub returns-in-None-clause-gains : goal.returns-in-None-clause-gains
returns-in-None-clause-gains c =
    let lines = list_at c.args.lists.now (Some c.args.lines) in
    gains_none c.args.self.now.index (λ name. list_reads c.args.site.now c.args.kind name c.args.values lines)
    (λ name. ap (λ v. list_reads c.args.site.now c.args.kind name v lines) c.in-None.is ∙ no_values c.args.site.now c.args.kind name lines)

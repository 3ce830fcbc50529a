use Rattle.std.proofs.Common.{ap, ◌∙◌}
use Rattle.race_places.specs.Marks.{list_reads}
use Rattle.race_places.specs.Places.{list_at}
use Rattle.race_places.proofs.Among.{gains_none, no_lines}
use Rattle.race_places.proofs.reads.Reads.add_held.Goals as goal

pub returns-in-None-clause-gains : goal.returns-in-None-clause-gains
returns-in-None-clause-gains c =
    gains_none c.args.self.now.index (λ name. list_reads c.args.site.now c.args.kind name c.args.values (list_at c.args.lists.now c.args.lines))
    (λ name. ap (λ l. list_reads c.args.site.now c.args.kind name c.args.values (list_at c.args.lists.now l)) c.in-None.is ∙ no_lines c.args.site.now c.args.kind name c.args.values)

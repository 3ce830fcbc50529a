use Rattle.std.proofs.Common.{List, ℕ, sym, subst}
use Rattle.conf_include.specs.Asked.{IsAskedAt}
use Rattle.conf_include.specs.Steps.{tally_of}
use Rattle.conf_include.proofs.MainLaws.{expansion_ok, expansion_err, told_newest}
use Rattle.conf_include.proofs.main_file.expand.Goals as goal

pub returns-in-Ok-clause-exact : goal.returns-in-Ok-clause-exact
returns-in-Ok-clause-exact g c tells newest names naming =
    let tree = (g.F.Files.seen c.args.files.now).trees (g.F.Files.seen c.args.files.now).newest in
    let told = told_newest c.version-tree.result (g.F.Files.seen c.args.files.now) (g.F.Files.seen c.version-tree.new.self) (g.F.Files.seen c.read_main-outcome.new.files) c.version-tree.ensures.number c.version-tree.ensures.newest c.version-tree.ensures.same c.version-tree.ensures.tells c.in-Ok.ensures.later tells newest in
    expansion_ok tree names c.args.path.now c.new.result c.read_main-outcome.new.reading.lines (tally_of c.read_main-outcome.new.reading) c.new.ensures (c.in-Ok.ensures.exact tree names told naming)

pub returns-in-Err-Fault-clause-exact : goal.returns-in-Err-Fault-clause-exact
returns-in-Err-Fault-clause-exact g c tells newest names naming =
    let tree = (g.F.Files.seen c.args.files.now).trees (g.F.Files.seen c.args.files.now).newest in
    let told = told_newest c.version-tree.result (g.F.Files.seen c.args.files.now) (g.F.Files.seen c.version-tree.new.self) (g.F.Files.seen c.read_main-outcome.new.files) c.version-tree.ensures.number c.version-tree.ensures.newest c.version-tree.ensures.same c.version-tree.ensures.tells c.in-Err-Fault.ensures.later tells newest in
    expansion_err tree names c.args.path.now c.new.result c.in-Err-Fault.fault c.read_main-outcome.new.reading.paths c.path_at-path.result c.new.ensures c.path_at-path.ensures
    ((rw c.in-Err-Fault.field-0-is at c.in-Err-Fault.ensures.exact) tree names told naming)

pub returns-in-Err-Failed-clause-exact : goal.returns-in-Err-Failed-clause-exact
returns-in-Err-Failed-clause-exact g c tells newest names naming =
    let tree = (g.F.Files.seen c.args.files.now).trees (g.F.Files.seen c.args.files.now).newest in
    let told = told_newest c.version-tree.result (g.F.Files.seen c.args.files.now) (g.F.Files.seen c.version-tree.new.self) (g.F.Files.seen c.read_main-outcome.new.files) c.version-tree.ensures.number c.version-tree.ensures.newest c.version-tree.ensures.same c.version-tree.ensures.tells c.in-Err-Failed.ensures.later tells newest in
    subst (λ (at : List ℕ). IsAskedAt tree names c.args.path.now c.in-Err-Failed.fault at) (sym c.path_at-path-in-Err-Failed.ensures)
    ((rw c.in-Err-Failed.field-0-is at c.in-Err-Failed.ensures.place) tree names told naming)

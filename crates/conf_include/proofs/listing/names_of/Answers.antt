use Rattle.std.proofs.Common.{List, ℕ, ap, subst, ◌∙◌}
use Rattle.conf_include.specs.Steps.{FindsNames}
use Rattle.conf_include.proofs.ToldLaws.{later_call, told_before}
use Rattle.conf_include.proofs.ListingLaws.{found_done}
use Rattle.conf_include.proofs.listing.names_of.Goals as goal

pub returns-in-Ok-Done-clause-names : goal.returns-in-Ok-Done-clause-names
returns-in-Ok-Done-clause-names g c of tree within told =
    let before = told_before of tree (g.F.Files.seen c.args.files.now) (g.F.Files.seen c.list.new.self) (later_call (g.F.Files.seen c.args.files.now) (g.F.Files.seen c.list.new.self) c.list.ensures.tells c.list.ensures.versions c.list.ensures.grow c.list.ensures.cause.later) within told in
    let same = λ (path : List ℕ). ap (λ n. (g.F.Files.seen c.args.files.now).trees n path) before.newest ∙ before.same path in
    subst (λ folder. FindsNames tree folder c.list.new.out) c.folder_of.ensures
    (found_done (g.F.Files.seen c.args.files.now).tells ((g.F.Files.seen c.args.files.now).trees (g.F.Files.seen c.args.files.now).newest) tree c.folder_of.result.now c.new-names.result c.list.new.out c.new-names.ensures before.tells same (rw c.in-Ok-Done.field-0-is at c.in-Ok-Done.ensures.names))

use Rattle.std.proofs.Common.{◌≡◌, ◌+◌, ◌≤◌, ◌<◌, arith, sym, ap, ◌∙◌, Err}
use Rattle.file_tree.specs.declared.job.Node.TheVariants.{File}
use Rattle.file_tree.specs.Tree.{node_of}
use Rattle.conf_include.specs.Expansion.{spot, tally}
use Rattle.conf_include.proofs.ToldLaws.{later_call, told_before}
use Rattle.conf_include.proofs.FileLaws.{len_fits, len_exceeds}
use Rattle.conf_include.proofs.open.len_of.Goals as goal

pub returns-in_ok-fault_about-in-Ok-File-clause-len : goal.returns-in_ok-fault_about-in-Ok-File-clause-len
returns-in_ok-fault_about-in-Ok-File-clause-len g c tree paths told =
    let before = told_before c.args.of tree (g.F.Files.seen c.args.files.now) (g.F.Files.seen c.stat.new.self) (later_call (g.F.Files.seen c.args.files.now) (g.F.Files.seen c.stat.new.self) c.stat.ensures.tells c.stat.ensures.versions c.stat.ensures.grow c.stat.ensures.cause.later) c.requires told in
    let path = c.args.path.now in
    let at = spot c.args.at.file c.args.at.line in
    let is : File c.in-Ok-File.len c.in-Ok-File.field-0-1 ≡ node_of (tree path) = (rw c.in-Ok-File.field-0-is at c.in-Ok-File.ensures.node) before.tells ∙ ap node_of (before.same path) in
    let beyond : 1048576 < c.args.size + c.in-Ok-File.len = omega (arith, c.saturating_add.ensures, c.if-saturating_add-gt-MOST_BYTES.true) in
    len_exceeds (tree path) c.in-Ok-File.len c.in-Ok-File.field-0-1 at path (tally paths c.args.size) is beyond
    ∙ ap (λ f. Err (f, paths)) (sym c.in_ok-fault_about-in-Ok-File.ensures)

pub returns-else-saturating_add-gt-MOST_BYTES-clause-len : goal.returns-else-saturating_add-gt-MOST_BYTES-clause-len
returns-else-saturating_add-gt-MOST_BYTES-clause-len g c tree paths told =
    let before = told_before c.args.of tree (g.F.Files.seen c.args.files.now) (g.F.Files.seen c.stat.new.self) (later_call (g.F.Files.seen c.args.files.now) (g.F.Files.seen c.stat.new.self) c.stat.ensures.tells c.stat.ensures.versions c.stat.ensures.grow c.stat.ensures.cause.later) c.requires told in
    let path = c.args.path.now in
    let at = spot c.args.at.file c.args.at.line in
    let is : File c.in-Ok-File.len c.in-Ok-File.field-0-1 ≡ node_of (tree path) = (rw c.in-Ok-File.field-0-is at c.in-Ok-File.ensures.node) before.tells ∙ ap node_of (before.same path) in
    let within : c.args.size + c.in-Ok-File.len ≤ 1048576 = omega (arith, c.saturating_add.ensures, c.if-saturating_add-gt-MOST_BYTES.false) in
    len_fits (tree path) c.in-Ok-File.len c.in-Ok-File.field-0-1 at path (tally paths c.args.size) is within

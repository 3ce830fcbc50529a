use Rattle.std.proofs.Common.{◌∙◌, sym, ap}
use Rattle.file_tree.specs.declared.job.JobAnswer.TheVariants as answers
use Rattle.family_nodes.proofs.Hearing as hearing
use Rattle.family_nodes.proofs.hear.hears.Goals as goal

pub returns-in_ok-file-in-Asks-Stat-clause-acts : goal.returns-in_ok-file-in-Asks-Stat-clause-acts
returns-in_ok-file-in-Asks-Stat-clause-acts c = λ w patterns site main.
    let at = c.in-Asks-Stat in
    let found = c.in_ok-file-in-Asks-Stat in
    hearing.learned w patterns site main c.args.node.now c.args.answer c.put_told.new.node at.wait found.file at.text at.ssi (sym c.take-stage.ensures.taken ∙ at.is-0) c.put_told.ensures
    (at.is-1 ∙ ap (λ n. answers.Stat n at.text) (sym found.ensures.node)) found.ensures.text c.requires

pub returns-in_ok-put_block-in-Reads-Read-clause-acts : goal.returns-in_ok-put_block-in-Reads-Read-clause-acts
returns-in_ok-put_block-in-Reads-Read-clause-acts c = λ w patterns site main.
    let at = c.in-Reads-Read in
    let is = c.in_ok-put_block-in-Reads-Read.ensures in
    hearing.block_came w patterns site main c.args.node.now c.args.answer c.put_block.new.node at.body at.bytes (sym c.take-stage.ensures.taken ∙ at.is-0) (λ text. is.acts w patterns site main text) at.is-1 is.file

use Rattle.std.proofs.Common.{◌≡◌, ◌∙◌, ◌-◌, ℕ, true, List, length, None, Some, refl, sym, ap, subst}
use Rattle.file_tree.specs.Tree.{IsFrom}
use Rattle.file_tree.specs.declared.job.JobAnswer.TheVariants.{Read as BlockRead}
use Rattle.ngx_outside.specs.Stepped.{IsReading}
use Rattle.request_flow.specs.Flows.{count_asked, one_rest, stage_fits}
use Rattle.request_flow.specs.Rests.{Follows}
use Rattle.request_flow.specs.declared.flow.Flow.{Flow}
use Rattle.request_flow.specs.declared.flow.Stage.{Stage}
use Rattle.request_flow.specs.declared.flow.Stage.TheVariants.{Came}
use Rattle.request_flow.proofs.Pieces.{fits_block, reading_follows}
use Rattle.request_flow.proofs.run.came.Goals as goal

pub returns-clause-goes : goal.returns-clause-goes
returns-clause-goes c = λ w patterns site trees closing block from to long is many told.
    let flow = c.deref_mut-flow.result.now in
    let h = c.in-Reading in
    let same = c.deref_mut-flow.ensures.value in
    let count = c.count_of.ensures ∙ (ap (λ (f : Flow). count_asked f.ask) same ∙ sym many) in
    subst (λ (f : Flow). Follows site (one_rest w patterns site f trees) (one_rest w patterns site (record { ask = flow.ask; stage = c.put.new.slot }) trees) from to closing closing None None) same
    (subst (λ (s : Stage). Follows site (one_rest w patterns site flow trees) (one_rest w patterns site (record { ask = flow.ask; stage = s }) trees) from to closing closing None None)
    (sym (c.put.ensures ∙ ap (λ (n : ℕ). Came h.sending (h.left - n) c.args.placed) count))
    (reading_follows w patterns site trees flow.ask flow.stage h.sending h.left c.args.placed _ block (BlockRead block) from to closing
    h.is refl is
    (subst (λ (f : Flow). stage_fits f.ask f.stage c.args.placed ≡ true) (sym same) c.requires.fits)
    (fits_block flow.ask block (subst (λ (f : Flow). IsReading (Some f.ask)) (sym same) c.requires.reads) (many ∙ ap (λ (f : Flow). count_asked f.ask) (sym same)))
    (subst (λ (f : Flow). IsFrom trees f.ask (BlockRead block)) (sym same) told)))

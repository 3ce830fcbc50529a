use Rattle.std.proofs.Common.{◌≡◌, true, length, None, sym, ap, ◌∙◌, subst}
use Rattle.file_tree.specs.Tree.{IsFrom, is_fitting}
use Rattle.file_tree.specs.declared.job.JobAnswer.TheVariants as answer
use Rattle.reply_out.specs.request_phases.Rounds.{phases_told}
use Rattle.request_flow.specs.Flows.{one_rest, stage_fits, told_text_item}
use Rattle.request_flow.specs.Reached.{StageReached, path_asked}
use Rattle.request_flow.specs.Rests.{Follows}
use Rattle.request_flow.specs.declared.flow.Flow.{Flow}
use Rattle.request_flow.specs.declared.flow.Stage.{Stage}
use Rattle.request_flow.proofs.Pieces.{asked_follows, reading_follows}
use Rattle.request_flow.proofs.Reaching.{learns}
use Rattle.request_flow.proofs.run.answered.Goals as goal

pub returns-in_ok-found-in-Asked-Stat-clause-goes : goal.returns-in_ok-found-in-Asked-Stat-clause-goes
returns-in_ok-found-in-Asked-Stat-clause-goes c = λ w patterns site trees closing from.
    let flow = c.deref_mut-flow.result.now in
    let out = c.args.out.now in
    let h = c.in-Asked-Stat in
    let found = c.in_ok-found-in-Asked-Stat in
    let is = c.deref_mut-flow.ensures.value in
    subst (λ (f : Flow). Follows site (one_rest w patterns site f trees) (one_rest w patterns site (record { ask = flow.ask; stage = c.put.new.slot }) trees) out out closing closing None None) is
    (subst (λ (s : Stage). Follows site (one_rest w patterns site flow trees) (one_rest w patterns site (record { ask = flow.ask; stage = s }) trees) out out closing closing None None) (sym c.put.ensures)
    (asked_follows w patterns site trees flow.ask flow.stage h.request h.wait found.found h.text c.args.answer out closing (sym c.take_stage.ensures ∙ h.is-0) (h.is-1 ∙ ap (λ n. answer.Stat n h.text) (sym found.ensures.node)) found.ensures.text
    (subst (λ (f : Flow). IsFrom trees f.ask c.args.answer) (sym is) from)))

pub returns-in_ok-append-in-Reading-Read-clause-goes : goal.returns-in_ok-append-in-Reading-Read-clause-goes
returns-in_ok-append-in-Reading-Read-clause-goes c = λ w patterns site trees closing from.
    let flow = c.deref_mut-flow.result.now in
    let out = c.args.out.now in
    let new = c.append.new.self in
    let h = c.in-Reading-Read in
    let is = c.deref_mut-flow.ensures.value in
    subst (λ (f : Flow). Follows site (one_rest w patterns site f trees) (one_rest w patterns site (record { ask = flow.ask; stage = c.put-in-Reading-Read.new.slot }) trees) out new closing closing None None) is
    (subst (λ (s : Stage). Follows site (one_rest w patterns site flow trees) (one_rest w patterns site (record { ask = flow.ask; stage = s }) trees) out new closing closing None None) (sym c.put-in-Reading-Read.ensures)
    (reading_follows w patterns site trees flow.ask flow.stage h.sending h.left c.len-placed.result _ h.bytes c.args.answer out new closing
    (sym c.take_stage.ensures ∙ h.is-0) h.is-1 c.in_ok-append-in-Reading-Read.ensures.ok
    (subst (λ (f : Flow). stage_fits f.ask f.stage (length out) ≡ true) (sym is) c.requires.fits)
    (subst (λ (f : Flow). is_fitting f.ask c.args.answer ≡ true) (sym is) c.requires.fitting)
    (subst (λ (f : Flow). IsFrom trees f.ask c.args.answer) (sym is) from)))

pub returns-in_ok-found-in-Asked-Stat-clause-reached : goal.returns-in_ok-found-in-Asked-Stat-clause-reached
returns-in_ok-found-in-Asked-Stat-clause-reached c = λ w patterns site r.
    let h = c.in-Asked-Stat in
    let request = h.request in
    let flow = c.deref_mut-flow.result.now in
    let path = path_asked flow.ask in
    let reached = subst (λ (f : Flow). StageReached w patterns site (path_asked f.ask) f.stage) (sym c.deref_mut-flow.ensures.value) r in
    subst (StageReached w patterns site path) (sym c.put.ensures)
    (λ text. learns w path (λ item. phases_told w patterns site request.value.phases h.wait item) request.value.vars
    (subst (StageReached w patterns site path) (sym c.take_stage.ensures ∙ h.is-0) reached) (told_text_item c.in_ok-found-in-Asked-Stat.found.node text))

use Rattle.std.proofs.Common.{sym, subst}
use Rattle.request_meaning.specs.Laws.{shipped}
use Rattle.reply_out.specs.request_phases.Rounds.{world_in}
use Rattle.request_flow.specs.Flows.{HasOpened, IsServedBy, flow_rest, one_rest, stage_length, stage_opened, stage_server}
use Rattle.request_flow.specs.Pages.{GoesTo}
use Rattle.request_flow.specs.Reached.{FlowReached}
use Rattle.request_flow.specs.Rests.{Follows}
use Rattle.request_flow.specs.declared.flow.Flow.{Flow}
use Rattle.request_flow.specs.declared.flow.Onward.{Onward}
use Rattle.request_flow.specs.declared.flow.Stage.{Stage}
use Rattle.request_flow.proofs.run.run_on.Goals as goal

pub returns-then-is_sending-clause-goes : goal.returns-then-is_sending-clause-goes
returns-then-is_sending-clause-goes c = λ trees.
    let site = c.args.ground.now.site.now in
    let patterns = c.args.space.now.patterns in
    let w = world_in patterns c.args.ground.now shipped in
    let out = c.args.out.now in
    subst (λ (o : Onward). Follows site (one_rest w patterns site c.args.flow.value trees) (flow_rest w patterns site o.flow trees) out out c.args.closing o.closing o.log o.level) (sym c.sent_on.ensures)
    (c.sends_on-log.ensures.goes w patterns site trees out c.args.closing)

pub returns-then-is_sending-clause-by : goal.returns-then-is_sending-clause-by
returns-then-is_sending-clause-by c =
    let s = c.args.flow.value.stage in
    subst (λ (o : Onward). IsServedBy (stage_server s) (stage_length s) o.flow) (sym c.sent_on.ensures) (c.sends_on-log.ensures.by (stage_server s) (stage_length s))

pub returns-then-is_sending-clause-opened : goal.returns-then-is_sending-clause-opened
returns-then-is_sending-clause-opened c =
    let s = c.args.flow.value.stage in
    subst (λ (o : Onward). HasOpened (stage_opened s) o.flow) (sym c.sent_on.ensures) (c.sends_on-log.ensures.opened (stage_opened s))

pub returns-then-is_sending-clause-reached : goal.returns-then-is_sending-clause-reached
returns-then-is_sending-clause-reached c = λ h.
    let site = c.args.ground.now.site.now in
    let patterns = c.args.space.now.patterns in
    let w = world_in patterns c.args.ground.now shipped in
    subst (λ (o : Onward). FlowReached w patterns site o.flow) (sym c.sent_on.ensures) (c.sends_on-log.ensures.reached w patterns site)

pub returns-clause-goes : goal.returns-clause-goes
returns-clause-goes c = λ trees.
    let site = c.args.ground.now.site.now in
    let patterns = c.args.space.now.patterns in
    let w = world_in patterns c.args.ground.now shipped in
    let f = c.empty-flow.result.flow in
    let went = c.in_ok-run_told-in-Told.field-0 in
    subst (λ (f : Flow). GoesTo w patterns site trees (one_rest w patterns site f trees) c.args.out.now c.run_told.new.out c.args.closing went) c.empty-flow.ensures
    (subst (λ (s : Stage). GoesTo w patterns site trees (one_rest w patterns site (record { ask = f.ask; stage = s }) trees) c.args.out.now c.run_told.new.out c.args.closing went) (sym c.in-Told.is)
    (c.in_ok-run_told-in-Told.ensures.goes trees))

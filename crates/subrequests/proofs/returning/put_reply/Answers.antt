use Rattle.std.proofs.Common.{refl, sym, ap, ◌∙◌}
use Rattle.node_line.specs.node_turn.Nodes.{asked_path, lent, stage_act, stage_heard}
use Rattle.node_line.specs.node_turn.Stages.{is_capturing}
use Rattle.subrequests.specs.Families.HasReply.{Hears}
use Rattle.subrequests.proofs.returning.put_reply.Goals as goal

pub returns-in-Captures : goal.returns-in-Captures
returns-in-Captures c =
    let n = c.args.node.now in
    let was = sym c.take.ensures.taken ∙ c.in-Captures.is in
    Hears (ap is_capturing was) (record { parent = refl; left = refl; children = refl; over = refl; asks = refl; before = refl }) refl (refl, refl)
    (λ w patterns site main text.
    ap (λ s. stage_act w patterns site (lent main n.phases) n.left (asked_path n.ask) s text) c.fill.ensures.put
    ∙ ap (λ s. stage_heard w patterns site (lent main n.phases) n.left (asked_path n.ask) s text c.args.body) (sym was))

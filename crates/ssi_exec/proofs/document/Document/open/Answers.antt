use Rattle.std.proofs.Common.{Some, false, sym, ap, ◌∙◌}
use Rattle.acts.specs.Act.{Done}
use Rattle.request_meaning.specs.Documents.Branch.{InIf}
use Rattle.request_meaning.specs.Commands.{in_branch, opens}
use Rattle.ssi_values.specs.Known.{truth_seen}
use Rattle.ssi_exec.specs.Scenes.{doc_seen, written}
use Rattle.ssi_exec.proofs.document.Document.open.Goals as goal

pub returns-in-Is : goal.returns-in-Is
unfolding opens
returns-in-Is c =
    ap (λ t. opens (doc_seen c.args.scene.now c.args.self.now) (truth_seen t)) c.in-Is.is ∙ ap (λ d. Done d) (sym (c.enter.ensures c.args.scene.now))

pub returns-in_ok-text-in-Unread : goal.returns-in_ok-text-in-Unread
unfolding opens
returns-in_ok-text-in-Unread c =
    ap (λ t. opens (doc_seen c.args.scene.now c.args.self.now) (truth_seen t)) c.in-Unread.is ∙ c.in_ok-text-in-Unread.ensures

pub returns-in_ok-text-in-Pattern : goal.returns-in_ok-text-in-Pattern
unfolding opens
returns-in_ok-text-in-Pattern c =
    let doc = doc_seen c.args.scene.now c.args.self.now in
    ap (λ t. opens doc (truth_seen t)) c.in-Pattern.is
    ∙ (ap (λ t. written (Some t) (in_branch doc (InIf false false false))) (sym c.in_ok-text-in-Pattern.ensures)
    ∙ ap (λ d. written (Some c.in_ok-text-in-Pattern.text) d) (sym (c.enter-in-Pattern.ensures c.args.scene.now)))

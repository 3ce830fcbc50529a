use Rattle.std.proofs.Common.{codes, ◌∙◌, ap}
use Rattle.request_meaning.specs.Commands.{is_waited, param, stub_of}
use Rattle.ssi_exec.specs.Scenes.{doc_seen}
use Rattle.ssi_exec.specs.Includes.{stub_in}
use Rattle.ssi_exec.proofs.Acts as acts
use Rattle.ssi_exec.proofs.document.Document.child_of.Goals as goal

pub returns : goal.returns
returns c = λ scene ps says.
    let d = c.args.self.now in
    acts.child_by scene.main.now c.args.target.path c.args.target.args c.in_ok-ssi.ssi d.ssi c.in_ok-stub.stub (stub_of (doc_seen scene d) (param (codes "stub") ps)) c.args.asked.waited (is_waited ps)
    c.in_ok-ssi.ensures (c.in_ok-stub.ensures ∙ (ap (λ o. stub_in (doc_seen scene d).blocks o) says.stub ∙ acts.stub_same (doc_seen scene d) (param (codes "stub") ps))) says.waited

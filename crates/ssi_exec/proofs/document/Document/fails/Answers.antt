use Rattle.std.proofs.Common.{Some, ap, sym}
use Rattle.request_meaning.specs.Documents.{oops}
use Rattle.ssi_exec.specs.Scenes.{doc_seen, written}
use Rattle.ssi_exec.proofs.document.Document.fails.Goals as goal

pub returns : goal.returns
unfolding oops
returns c = λ part. ap (λ t. written (Some t) (doc_seen c.args.scene.now c.args.self.now)) (sym c.in_ok-text.ensures)

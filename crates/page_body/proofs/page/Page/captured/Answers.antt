use Rattle.family_meaning.specs.request_meaning.Commands.{captured}
use Rattle.family_meaning.specs.request_meaning.Bodies.{machines}
use Rattle.ssi_text.specs.Marks.{marks}
use Rattle.family_meaning.specs.Suspended.{document_rest}
use Rattle.ssi_exec.specs.Scenes.{doc_seen}
use Rattle.page_body.specs.Pages.{page_captured, page_rest, stages_of, waiting}
use Rattle.page_body.proofs.Bodies.{captured_is}
use Rattle.page_body.proofs.page.Page.captured.Goals as goal

pub returns-clause-goes_on : goal.returns-clause-goes_on
unfolding page_captured page_rest
returns-clause-goes_on c = λ w answer bytes.
    let scene = c.args.scene.now in
    let page = c.args.self.now in
    captured_is (captured (doc_seen scene page.document) c.args.name.now c.args.body) c.in_ok-text.text (doc_seen scene c.captured.new.self)
    (λ doc. document_rest w answer doc (marks (waiting page)) (machines w page.facts) (stages_of page) bytes) c.in_ok-text.ensures

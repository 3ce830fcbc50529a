use Rattle.std.proofs.Common.{◌++◌, ap, map, sym, ◌∙◌}
use Rattle.ssi_text.specs.Marks.{Byte}
use Rattle.family_meaning.specs.request_meaning.Bodies.{body}
use Rattle.ssi_exec.specs.Scenes.{bytes_then, doc_seen}
use Rattle.page_body.specs.Pages.{captured_then, marks_rest}
use Rattle.page_body.proofs.Bodies.{text_does}
use Rattle.page_body.proofs.doing.text_done.Goals as goal

pub returns-clause-does : goal.returns-clause-does
returns-clause-does c = λ scene vars w answer rest h.
    let old = doc_seen scene c.args.document.now in
    let new = doc_seen scene c.text-2.new.self in
    let live = c.in_ok-live.live in
    let text = c.args.text in
    let captures = captured_then new (λ doc. marks_rest w answer doc rest) in
    text_does w answer scene.main.now vars c.shown.result live text old new rest captures
    (ap (λ t. body w old (map Byte t ++ rest)) (sym c.as_slice.ensures) ∙ (c.in_ok-live.ensures.marks scene w rest ∙ ap (λ t. bytes_then live t (body w new rest)) c.as_slice.ensures))
    (λ act. c.shown.ensures.does scene.main.now vars act captures)

use Rattle.std.proofs.Common.{◌≡◌, [], ◌∷◌, reverse, subst, sym, ap, ◌∙◌}
use Rattle.acts.specs.Act.{Write}
use Rattle.addition_filter.specs.Machine.{is_added}
use Rattle.ssi_filter.specs.Machine.{is_split}
use Rattle.ssi_text.specs.Marks.{marks}
use Rattle.family_meaning.specs.request_meaning.Bodies.{machines}
use Rattle.family_meaning.specs.request_meaning.Documents.{begun}
use Rattle.family_meaning.specs.Suspended.{document_rest}
use Rattle.ssi_exec.specs.Scenes.{doc_seen}
use Rattle.page_body.specs.Stages.{added_stage, ahead, split_stage}
use Rattle.page_body.specs.Pages.{filtered_rest, page_rest}
use Rattle.page_body.proofs.Pages.{page_begins}
use Rattle.page_body.proofs.page.Page.new.Goals as goal

pub returns-clause-begins : goal.returns-clause-begins
unfolding page_rest
returns-clause-begins c = λ scene w answer bytes of members.
    let facts = c.args.facts.now in
    let doc = doc_seen scene c.new.result in
    let items = c.in_ok-parts.parts.items in
    let same : begun answer.main answer.request answer.values scene.left c.args.ssi ≡ doc =
    ap (λ m. begun m answer.request answer.values scene.left c.args.ssi) of.main
    ∙ (ap (λ r. begun scene.main.now r answer.values scene.left c.args.ssi) of.request
    ∙ (ap (λ v. begun scene.main.now scene.request.now v scene.left c.args.ssi) of.values ∙ sym (c.new.ensures scene))) in
    subst (λ undecided. filtered_rest w scene.left c.args.ssi answer facts bytes
    ≡ Write [] (document_rest w answer doc (marks (reverse items)) (machines w facts) (split_stage (is_split facts) undecided ∷ added_stage (is_added facts) ∷ []) bytes)) (sym c.new-2.ensures)
    (page_begins w answer doc facts scene.left c.args.ssi items bytes members same (c.in_ok-parts.ensures ∙ ap ahead c.is_added.ensures))

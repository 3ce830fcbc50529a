use Rattle.std.proofs.Common.{◌≡◌, [], ◌∷◌, ◌++◌, subst}
use Rattle.filter_api.specs.Chains.{still}
use Rattle.ssi_text.specs.Marks.{marks}
use Rattle.ssi_exec.specs.Scenes.{doc_seen}
use Rattle.page_body.specs.Stages.{added_stage, shipped_machines, split_stage}
use Rattle.page_body.specs.Pages.{adds, page_rest, splits}
use Rattle.page_body.proofs.Pages.{file_ends, none_waits}
use Rattle.page_body.proofs.page.Page.finish.Goals as goal

pub returns-clause-ends : goal.returns-clause-ends
unfolding page_rest
returns-clause-ends c = λ scene w answer members.
    let page = c.args.self.now in
    file_ends w answer (doc_seen scene page.document) page.facts (splits page) (adds page) page.split c.last_parts.new.split page.parts.items c.last_parts.new.out.items c.reverse.new.self.items
    members (none_waits page.parts.items c.requires) c.reverse.ensures.items
    (subst (λ on. marks c.last_parts.new.out.items ≡ marks page.parts.items ++ still (shipped_machines page.facts) (split_stage on page.split ∷ added_stage (adds page) ∷ []) []) c.splits-is_split.ensures
    (subst (λ on. marks c.last_parts.new.out.items ≡ marks page.parts.items ++ still (shipped_machines page.facts) (split_stage c.splits-is_split.result page.split ∷ added_stage on ∷ []) []) c.adds-is_added.ensures (c.in_ok-last_parts.ensures page.facts)))

use Rattle.std.proofs.Common.{◌≡◌, ◌+◌, length, sym, ap, ◌∙◌, subst}
use Rattle.file_tree.specs.Tree.{Trees}
use Rattle.subrequests.specs.Moved.{BeginsWith, IsWhole, files}
use Rattle.subrequests.specs.declared.family.Family.{Family}
use Rattle.page_response.specs.declared.pages.Pages.{Pages}
use Rattle.request_flow.specs.reply_out.declared.terms.InPhases.{InPhases}
use Rattle.response_flow.specs.Opens.{Opens, bytes_known, file_text}
use Rattle.response_flow.proofs.Begins as begins
use Rattle.response_flow.proofs.open.opened.Goals as goal

pub returns-clause-opens : goal.returns-clause-opens
returns-clause-opens c = λ patterns.
    let g = c.args.ground.now in
    let start = c.args.start in
    let p = c.in_ok-pages.pages in
    let made = c.in_ok-pages.ensures in
    let family = c.in_ok-family.family in
    let f = c.in_ok-family.ensures in
    let is : p.family ≡ family = made.family in
    let begun = subst (λ (x : Family). BeginsWith g start.request.value.phases start.request.value.vars start.page.outcome (bytes_known start.page.known) x) (sym is)
    (subst (λ known. BeginsWith g start.request.value.phases start.request.value.vars start.page.outcome known family) c.source_of-ask.ensures.known
    (subst (λ (r : InPhases). BeginsWith g r.phases r.vars start.page.outcome c.source_of-ask.result.known family) c.into_inner-phases.ensures f.begins)) in
    let text : (trees : Trees) → files trees p.family 0 ≡ file_text start.page.known trees = λ trees. ap (λ (x : Family). files trees x 0) is ∙ (f.files trees ∙ c.source_of-ask.ensures.text trees) in
    let tree = ap (λ (x : Family). x.tree) is ∙ (f.tree ∙ c.source_of-ask.ensures.tree) in
    let many = subst (λ (r : InPhases). length p.family.nodes ≡ 1 + r.opened) c.into_inner-phases.ensures (ap (λ (x : Family). length x.nodes) is ∙ f.nodes) in
    let laws = c.reached_stays_well.ensures in
    let keep = c.steps_keep_still.ensures in
    let fit = c.shipped_are_fit.ensures in
    subst (λ x. Opens patterns g start x) (sym c.in_ok-new.ensures.ok)
    (record {
      same = λ trees raceless h. begins.same laws keep fit patterns g start p c.requires.told begun text tree many trees raceless h (made.outgoing.0 ∙ c.as_slice.ensures) made.outgoing.1 made.log.0 made.log.1;
      reached = begins.reached laws keep fit patterns g start p c.requires.told begun text tree many;
      whole = subst IsWhole (sym is) f.whole;
      bounded = made.bounded;
      few = begins.few p made.steps made.bounded;
      tree = tree;
    })

pub returns-clause-kind : goal.returns-clause-kind
returns-clause-kind c = ap (λ (x : Pages). x.outgoing.block) c.in_ok-new.ensures.ok ∙ c.in_ok-pages.ensures.outgoing.1

use Rattle.std.proofs.Common.{◌≡◌, ◌++◌, map, subst}
use Rattle.filter_api.specs.Chains.{stage_feeds}
use Rattle.ssi_filter.specs.Machine.{ssi_machine}
use Rattle.ssi_text.specs.Marks.{Byte, marks}
use Rattle.ssi_exec.specs.Scenes.{doc_seen}
use Rattle.page_body.specs.Stages.{split_stage}
use Rattle.page_body.specs.Pages.{adds, page_rest, splits}
use Rattle.page_body.proofs.Pages.{block_comes, none_waits}
use Rattle.page_body.proofs.page.Page.feed.Goals as goal

pub returns-clause-comes : goal.returns-clause-comes
unfolding page_rest
returns-clause-comes c = λ scene w answer more members.
    let page = c.args.self.now in
    block_comes w answer (doc_seen scene page.document) page.facts (splits page) (adds page) page.split c.block_parts.new.split page.parts.items c.block_parts.new.out.items c.reverse.new.self.items
    c.args.block more members (none_waits page.parts.items c.requires) c.reverse.ensures.items
    (subst (λ on. split_stage on c.block_parts.new.split ≡ (stage_feeds (ssi_machine page.facts) (split_stage on page.split) (map Byte c.args.block)).0) c.splits-is_split.ensures (c.in_ok-block_parts.ensures.undecided page.facts))
    (subst (λ on. marks c.block_parts.new.out.items ≡ marks page.parts.items ++ (stage_feeds (ssi_machine page.facts) (split_stage on page.split) (map Byte c.args.block)).1) c.splits-is_split.ensures (c.in_ok-block_parts.ensures.out page.facts))

use Rattle.site_whole.specs.Whole.{index_seen}
use Rattle.conf_lists.proofs.WordLaws.{pushed}
use Rattle.conf_lists.proofs.words.push_index_name.Goals as goal

pub returns : goal.returns
returns c = pushed index_seen _ _ _ _ c.in_ok-push.ensures.items c.in_ok-index_name.ensures

use Rattle.site_whole.specs.Whole.{auth_set_seen}
use Rattle.conf_lists.proofs.WordLaws.{pushed-one}
use Rattle.conf_lists.proofs.stated.push_set.Goals as goal

pub returns-in_ok-push-in-Some : goal.returns-in_ok-push-in-Some
returns-in_ok-push-in-Some c =
    pushed-one auth_set_seen _ _ _ _ c.in-Some.is c.in_ok-push-in-Some.ensures.items

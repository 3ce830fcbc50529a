use Rattle.std.proofs.Common.{true, cond, ap, ◌∙◌}
use Rattle.std.specs.BTreeMap.{is_at}
use Rattle.std.specs.BTreeSet.{contains}
use Rattle.conf_check.specs.Ends.{key_of, key_cmp}
use Rattle.conf_check.proofs.EndsLaws.{end-added}
use Rattle.conf_check.proofs.ends.Ends.add.Goals as goal

pub returns : goal.returns
returns c = λ q.
    end-added _ _ c.args.addr q
    (c.in_ok-_new.ensures.updates.0 (key_of q) ∙ ap (λ k. cond (is_at (key_cmp k) (key_of q)) true (contains key_cmp c.args.self.now.keys (key_of q))) c.key_of.ensures)

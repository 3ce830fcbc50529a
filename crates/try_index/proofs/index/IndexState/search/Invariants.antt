use Rattle.std.proofs.Common.{◌≡◌, ◌-◌, length, drop, map}
use Rattle.acts.specs.Act.{settled}
use Rattle.site_whole.specs.Whole.{index_seen}
use Rattle.target_text.specs.request_meaning.Serving.{Standing}
use Rattle.target_text.specs.request_meaning.Contents.{indexed}
use Rattle.try_index.specs.Searches.{IsAt}
use Rattle.try_index.proofs.index.IndexState.search.Given as goal

abbrev pub invariant-loop-self : goal.invariant-loop-self
invariant-loop-self l = (s : Standing) → IsAt l.request l.place s →
    settled (indexed l.main s (drop l.fn.self.passed (map index_seen l.names))) l.vars ≡ settled (indexed l.main s (drop l.self.passed (map index_seen l.names))) l.vars

abbrev pub decreases-loop-self : goal.decreases-loop-self
decreases-loop-self l = length l.names - l.self.passed

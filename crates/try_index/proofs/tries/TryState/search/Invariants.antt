use Rattle.std.proofs.Common.{◌≡◌, ◌-◌, length, drop}
use Rattle.acts.specs.Act.{settled}
use Rattle.site_whole.specs.Whole.{last_seen}
use Rattle.target_text.specs.request_meaning.Serving.{Standing}
use Rattle.target_text.specs.request_meaning.Contents.{tried}
use Rattle.try_index.specs.Searches.{IsAt}
use Rattle.try_index.proofs.tries.TryState.search.Given as goal

abbrev pub invariant-loop-self : goal.invariant-loop-self
invariant-loop-self l = (s : Standing) → IsAt l.request l.place s →
    settled (tried l.main s (drop l.fn.self.passed l.tries.names.items) (last_seen l.tries.last)) l.vars ≡ settled (tried l.main s (drop l.self.passed l.tries.names.items) (last_seen l.tries.last)) l.vars

abbrev pub decreases-loop-self : goal.decreases-loop-self
decreases-loop-self l = length l.names - l.self.passed

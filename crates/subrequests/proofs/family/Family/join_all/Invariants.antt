use Rattle.std.proofs.Common.{◌≡◌, take}
use Rattle.node_seats.specs.Joining.{Joins}
use Rattle.subrequests.specs.Moved.{IsWhole}
use Rattle.subrequests.proofs.family.Family.join_all.Given as goal

abbrev pub invariant-loop-id : goal.invariant-loop-id
invariant-loop-id l =
    Joins l.at (take l.id-index l.numbers) l.initial.self.order l.initial.self.nodes l.self.order l.self.nodes × (IsWhole l.initial.self → IsWhole l.self)
    × (l.self.main ≡ l.initial.self.main) × (l.self.vars ≡ l.initial.self.vars) × (l.self.tree ≡ l.initial.self.tree)

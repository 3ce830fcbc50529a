use Rattle.std.proofs.Common.{◌≡◌, ℕ, false}
use Rattle.race_check.specs.declared.listed.ListKind.{ListKind}
use Rattle.race_places.specs.Marks.{is_gone}
use Rattle.race_places.proofs.marks.no_marks.Given as goal

abbrev pub invariant-loop-list : goal.invariant-loop-list
invariant-loop-list l = (lines : ℕ) (kind : ListKind) (values : ℕ) → is_gone l.marks.items lines kind values ≡ false

use Rattle.std_outside.proofs.Grown.{Longer}
use Rattle.std_outside.proofs.files.list_folder.Given as goal

abbrev pub invariant-loop-entry : goal.invariant-loop-entry
invariant-loop-entry g l =
    (goal.iterator-loop-entry g).can_next l.entry-iterator ×
    (goal.iterator-loop-entry g).is_finite l.entry-iterator ×
    Longer l.initial.out l.out

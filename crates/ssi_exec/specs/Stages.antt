-- How far an `if` of a document has come.
use Rattle.std.specs.Prelude.{Bool, true, false}
use Rattle.request_meaning.specs.Documents.{Branch}
use Rattle.request_meaning.specs.Documents.Branch.{NoIf, InIf}
use Rattle.ssi_exec.specs.declared.branches.Stage.{Stage}
use Rattle.ssi_exec.specs.declared.branches.Stage.TheVariants.{Outside, BehindElse, Taken, Untaken}

abbrev pub is_outside : Branch → Bool
is_outside NoIf = true
is_outside (InIf live taken last) = false

abbrev pub stage_of : Branch → Stage
stage_of NoIf = Outside
stage_of (InIf live taken true) = BehindElse
stage_of (InIf live true false) = Taken
stage_of (InIf live false false) = Untaken

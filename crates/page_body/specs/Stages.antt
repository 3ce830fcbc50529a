-- The filters that a server has, and what a page keeps of them.
use Rattle.std.specs.Prelude.{ℕ, Bool, List, [], ◌∷◌, map, if◌then◌else◌}
use Rattle.ssi_text.specs.declared.part.Part.TheVariants.{Before, After}
use Rattle.ssi_text.specs.Marks.{Mark, Byte, Other}
use Rattle.filter_api.specs.declared.facts.Facts.{Facts}
use Rattle.filter_api.specs.declared.stage.Stage.{Stage}
use Rattle.filter_api.specs.Members.{Machine}
use Rattle.addition_filter.specs.Machine.{addition_machine}
use Rattle.ssi_filter.specs.Machine.{ssi_machine}

-- The stage of server side includes with the bytes that it holds, and the one of additions, whose `Before` is always out.
abbrev pub split_stage : Bool → List ℕ → Stage
split_stage on undecided = record { on = on; state = record { undecided = undecided; count = 0 } }

abbrev pub added_stage : Bool → Stage
added_stage on = record { on = on; state = record { undecided = []; count = 1 } }

-- the machines of the filters that a server has
abbrev pub shipped_machines : Facts → List Machine
shipped_machines facts = ssi_machine facts ∷ addition_machine facts ∷ []

-- what comes before and after all, and what is undecided at the end
abbrev pub ahead : Bool → List Mark
ahead on = if on then Other Before ∷ [] else []

abbrev pub behind : Bool → List Mark
behind on = if on then Other After ∷ [] else []

abbrev pub undecided_marks : Bool → List ℕ → List Mark
undecided_marks on undecided = if on then map Byte undecided else []

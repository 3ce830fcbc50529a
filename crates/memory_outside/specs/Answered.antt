-- What files in memory tell of their answers.
use Rattle.std.specs.Prelude.{ℕ, Bool, true, false, List, map, Option, None, Some}
use Rattle.ngx_outside.specs.Records.{FileAnswer, Stat, Bytes, Failed}
use Rattle.memory_outside.specs.declared.answers.Answers.{Answers}
use Rattle.memory_outside.specs.declared.answers.FileTold.{FileTold}
use Rattle.memory_outside.specs.declared.answers.FileTold.TheVariants as file

abbrev pub file_answer : FileTold → FileAnswer
file_answer (file.Stat node) = Stat node
file_answer (file.Bytes bytes) = Bytes bytes
file_answer file.Failed = Failed

-- the answers that were kept, where all were
abbrev pub told_by : {A B : Type 0} → (A → B) → Bool → List A → Option (List B)
told_by f true kept = Some (map f kept)
told_by f false kept = None

abbrev pub files_told : Answers FileTold → Option (List FileAnswer)
files_told a = told_by file_answer a.whole a.kept.items

-- numbers that were told, where all were kept
abbrev pub numbers_told : Answers ℕ → Option (List ℕ)
numbers_told a = told_by (λ n. n) a.whole a.kept.items

-- Sets of names.
use Rattle.std.specs.Prelude.{◌≡◌, ℕ, ◌&&◌, ◌||◌, Bool, true, false, not, List, bytes_eq}
use Rattle.std.specs.HashSet.{contains_by}
use Rattle.site_model.specs.declared.program.Test.{Test}
use Rattle.site_model.specs.declared.program.Test.TheVariants.{IsSet, Equals, Matches, OnFile}
use Rattle.race_check.specs.declared.names.NameSet.{NameSet}

unfoldable pub has : NameSet → List ℕ → Bool
has names name = contains_by (λ key. bytes_eq name key.items) names.names

-- the set has grown by the names of which this is so and that aren't settled
abbrev pub Notes : (settled old new : NameSet) → (List ℕ → Bool) → Type 0
Notes settled old new reads =
    (name : List ℕ) → has new name ≡ ((reads name && not (has settled name)) || has old name)

abbrev pub is_file_test : Test → Bool
is_file_test (IsSet variable) = false
is_file_test (Equals variable text) = false
is_file_test (Matches variable pattern) = false
is_file_test (OnFile test path) = true

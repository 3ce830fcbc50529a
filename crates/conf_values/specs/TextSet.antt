-- The keys of an ordered set of texts.
use Rattle.std.specs.Prelude.{ℕ, List, Bool}
use Rattle.std.specs.declared.vec.Vec.{Vec}
use Rattle.std.specs.Ordering.{nat_cmp}
use Rattle.std.specs.Cmp.Lexicographic.{slice_cmp}
use Rattle.std.specs.BTreeSet.{BTreeSet, contains_by}

-- the text is among the keys
unfoldable pub holds : {A : Type 0} → BTreeSet (Vec ℕ A) → List ℕ → Bool
holds keys text = contains_by (λ key. slice_cmp nat_cmp text key.items) keys

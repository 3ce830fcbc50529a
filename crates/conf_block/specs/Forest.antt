-- Directives with their blocks.
use Rattle.std.specs.Prelude.{◌≡◌, ℕ, nat_lt, List, [], ◌∷◌, ◌++◌, if◌then◌else◌}
use Rattle.conf_text.specs.declared.directive.Directive.{Directive}
use Rattle.conf_text.specs.Blocks.{block_of}

-- The directives of a level in text order, each with those in its block, which are a level too.
pub data Forest : Type 0 where
  End : Forest
  Branch : Directive → (block : Forest) → (beside : Forest) → Forest

-- of what comes after a directive of this depth: the directives in its block, up to the first that is no deeper
unfoldable pub inside : (depth : ℕ) → Forest → Forest
inside depth End = End
inside depth (Branch d block beside) = if nat_lt depth d.depth then Branch d block (inside depth beside) else End

-- and those after its block
unfoldable pub outside : (depth : ℕ) → Forest → Forest
outside depth End = End
outside depth (Branch d block beside) = if nat_lt depth d.depth then outside depth beside else Branch d block beside

-- directives in text order, by their depths
unfoldable pub forest_of : List Directive → Forest
forest_of [] = End
forest_of (d ∷ ds) = Branch d (inside d.depth (forest_of ds)) (outside d.depth (forest_of ds))

-- the directives of a level without their blocks
unfoldable pub roots : Forest → List Directive
roots End = []
roots (Branch d block beside) = d ∷ roots beside

-- a first directive has the block that comes after it in the text, and what comes after the block is beside it
abbrev pub HasItsBlock : Type 0
HasItsBlock = (d : Directive) (rest behind : List Directive) → rest ≡ block_of d.depth rest ++ behind
    → forest_of (d ∷ rest) ≡ Branch d (forest_of (block_of d.depth rest)) (forest_of behind)

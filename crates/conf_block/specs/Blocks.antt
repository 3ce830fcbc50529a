-- The directives of a name in a level, with their blocks.
use Rattle.std.specs.Prelude.{ℕ, Bool, List, [], ◌∷◌, codes, Option, None, Some, bytes_eq, if◌then◌else◌}
use Rattle.conf_text.specs.declared.directive.Directive.{Directive}
use Rattle.conf_block.specs.Forest.{Forest, End, Branch}

-- a directive with its block
pub record Block : Type 0 where
  pub head : Directive
  pub body : Forest

abbrev pub block_with : Directive → Forest → Block
block_with d block = record { head = d; body = block }

-- in front of others, if it has the name
abbrev pub if_named : List ℕ → Block → List Block → List Block
if_named name b blocks = if bytes_eq b.head.name name then b ∷ blocks else blocks

-- the directives of this name in a level
unfoldable pub blocks_of : List ℕ → Forest → List Block
blocks_of name End = []
blocks_of name (Branch d block beside) = if_named name (block_with d block) (blocks_of name beside)

-- the directives of a level from the first on that passes a test
unfoldable pub from_first : (Directive → Bool) → Forest → Forest
from_first test End = End
from_first test (Branch d block beside) = if test d then Branch d block beside else from_first test beside

abbrev pub first_of : {A : Type 0} → List A → Option A
first_of [] = None
first_of (a ∷ others) = Some a

-- the first directive of this name in a level
abbrev pub block_of : List ℕ → Forest → Option Block
block_of name level = first_of (blocks_of name level)

-- the directives in `http`, if there is one
abbrev pub body_in : Option Block → Forest
body_in None = End
body_in (Some b) = b.body

abbrev pub http_in : Forest → Forest
http_in top = body_in (block_of (codes "http") top)

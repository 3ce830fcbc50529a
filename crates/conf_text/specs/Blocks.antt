-- The block of a directive.
use Rattle.std.specs.Prelude.{ℕ, nat_lt, List, take_while}
use Rattle.conf_text.specs.declared.directive.Directive.{Directive}

-- of what comes after a directive of this depth, the directives in its block: those up to the first that is no deeper
abbrev pub block_of : (depth : ℕ) → List Directive → List Directive
block_of depth rest = take_while (λ d. nat_lt depth d.depth) rest

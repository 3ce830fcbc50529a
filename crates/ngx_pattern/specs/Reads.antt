-- What a compiled program has to do with the text of a pattern.
use Rattle.std.specs.Prelude.{◌≡◌, ℕ, Bool, List, Some}
use Rattle.regex.specs.Patterns.{Re, SameCaptures}
use Rattle.regex_meta.specs.Programs.{pattern_of as re_of}
use Rattle.regex_meta.specs.declared.program.Program.{Program}
use Rattle.ngx_pattern.specs.Pattern.{as_pattern, expression_of}

-- the program finds what the expression finds that the grammar reads in the text
pub record IsReadAs (text : List ℕ) (nocase : Bool) (program : Program) : Type 0 where
  pub expression : Re
  pub read : expression_of (as_pattern text nocase) ≡ Some expression
  pub same : SameCaptures (re_of program) expression

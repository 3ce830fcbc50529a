-- Directives of a program, with the numbers of their patterns.
use Rattle.std.specs.Prelude.{ℕ, Bool, not, List, [], ◌∷◌, Option, is_some}
use Rattle.ngx_pattern.specs.Pattern.{Pattern, as_pattern, expression_of}
use Rattle.site_model.specs.declared.program.RewriteStep.{RewriteStep}
use Rattle.site_model.specs.declared.program.RewriteStep.TheVariants as steps
use Rattle.site_model.specs.declared.program.Test.{Test}
use Rattle.site_model.specs.declared.program.Test.TheVariants as tests
use Rattle.rewrite_compile.specs.declared.raw.RawPattern.{RawPattern}
use Rattle.rewrite_compile.specs.declared.raw.RawTest.{RawTest}
use Rattle.rewrite_compile.specs.declared.raw.RawTest.TheVariants.{IsSet, Equals, Matches, OnFile}
use Rattle.rewrite_compile.specs.declared.raw.RawStep.{RawStep}
use Rattle.rewrite_compile.specs.declared.raw.RawStep.TheVariants.{Set, If, Rewrite, Return, Stop}

abbrev pub pattern_in : RawPattern → Pattern
pattern_in p = as_pattern p.text p.nocase

-- it has no expression
abbrev pub is_bad : Pattern → Bool
is_bad p = not (is_some (expression_of p))

abbrev pub patterns_in_test : RawTest → List Pattern
patterns_in_test (IsSet variable) = []
patterns_in_test (Equals variable text) = []
patterns_in_test (Matches variable pattern) = pattern_in pattern ∷ []
patterns_in_test (OnFile test path) = []

-- the pattern that a directive has, if it has one
abbrev pub patterns_in : RawStep → List Pattern
patterns_in (Set name text) = []
patterns_in (If condition) = patterns_in_test condition.test
patterns_in (Rewrite pattern to is_url flag) = pattern_in pattern ∷ []
patterns_in (Return code text) = []
patterns_in Stop = []

abbrev pub test_at : (number : ℕ) → RawTest → Test
test_at number (IsSet variable) = tests.IsSet variable
test_at number (Equals variable text) = tests.Equals variable text
test_at number (Matches variable pattern) = tests.Matches variable number
test_at number (OnFile test path) = tests.OnFile test path

-- the directive whose pattern has this number
abbrev pub step_at : (number block : ℕ) → (level : Option ℕ) → RawStep → RewriteStep
step_at number block level (Set name text) = steps.Set name text
step_at number block level (If condition) = steps.If (test_at number condition.test) condition.negated block level
step_at number block level (Rewrite pattern to is_url flag) = steps.Rewrite number to is_url flag
step_at number block level (Return code text) = steps.Return code text
step_at number block level Stop = steps.Stop

-- The rewrite program of a level, as its meaning sees it (https://nginx.org/en/docs/http/ngx_http_rewrite_module.html).
use Rattle.std.specs.Prelude.{◌≡◌, ℕ, suc, Bool, false, List, [], ◌∷◌, ◌++◌, Option, None, Some, if◌then◌else◌}
use Rattle.site_views.specs.Pattern.{Pattern}
use Rattle.site_views.specs.Values.{Values}
use Rattle.site_views.specs.Rewrites.{Test, Directive, Program}
use Rattle.site_views.specs.Rewrites.Test.{IsSet, Equals, Matches, OnFile}
use Rattle.site_views.specs.Rewrites.Directive.{Set, If, Rewrite, Return, Stop}
use Rattle.site_whole.specs.Whole.{file_test_seen, flag_seen}
use Rattle.conf_block.specs.Forest.{Forest, End, Branch}
use Rattle.rewrite_compile.specs.declared.raw.RawPattern.{RawPattern}
use Rattle.rewrite_compile.specs.declared.raw.RawTest.{RawTest}
use Rattle.rewrite_compile.specs.declared.raw.RawTest.TheVariants as tests
use Rattle.rewrite_compile.specs.declared.raw.RawStep.{RawStep}
use Rattle.rewrite_compile.specs.declared.raw.RawStep.TheVariants as steps
use Rattle.rewrite_compile.specs.declared.raw.Reading.{Reading}
use Rattle.rewrite_compile.specs.declared.raw.Reading.TheVariants.{Step, Wrong}
use Rattle.rewrite_compile.specs.declared.part.Part.{Part}
use Rattle.rewrite_compile.specs.Readings.{reading_by}
use Rattle.rewrite_compile.specs.Programs.{has_block}

-- ---- what is read of a directive, with patterns by their texts

abbrev pub pattern_shown : RawPattern → Pattern
pattern_shown p = record { text = p.text; nocase = p.nocase }

abbrev pub test_shown : RawTest → Test
test_shown (tests.IsSet variable) = IsSet variable
test_shown (tests.Equals variable text) = Equals variable text
test_shown (tests.Matches variable pattern) = Matches variable (pattern_shown pattern)
test_shown (tests.OnFile test path) = OnFile (file_test_seen test) path

-- a directive, with the number of those in its block, and the values that hold in its block where that is a level
abbrev pub step_shown : (block : ℕ) → Option Values → RawStep → Directive
step_shown block values (steps.Set name text) = Set name text
step_shown block values (steps.If condition) =
    If (test_shown condition.test) condition.negated block values
step_shown block values (steps.Rewrite pattern to is_url flag) =
    Rewrite (pattern_shown pattern) to is_url (flag_seen flag)
step_shown block values (steps.Return code text) = Return code text
step_shown block values steps.Stop = Stop

abbrev pub reading_shown : (block : ℕ) → Option Values → Reading → Program
reading_shown block values (Wrong kind) = []
reading_shown block values (Step raw) = step_shown block values raw ∷ []

-- ---- a program

-- the values of the next block, where blocks are levels, and those of the blocks after it
abbrev pub first_values : Option (List Values) → Option Values
first_values None = None
first_values (Some []) = None
first_values (Some (v ∷ vs)) = Some v

abbrev pub later_values : Option (List Values) → Option (List Values)
later_values None = None
later_values (Some []) = Some []
later_values (Some (v ∷ vs)) = Some vs

abbrev pub values_behind : Option (List Values) → Reading → Option (List Values)
values_behind values reading = if has_block reading then later_values values else values

-- The directives of a program in the order of the text, those of a block right after its `if`; the values that hold in the
-- blocks, where these are levels, in the same order.
unfoldable pub program_of : Option (List Values) → List Part → Program
program_of values [] = []
program_of values (part ∷ parts) =
    reading_shown part.block (first_values values) part.reading
    ++ program_of (values_behind values part.reading) parts

-- ---- the blocks of its `if`s

-- a directive has a block with a part in it
abbrev pub leads : Option Reading → Bool
leads None = false
leads (Some reading) = has_block reading

abbrev pub own_blocks : (leads : Bool) → (block : Forest) → (inner : List Forest) → List Forest
own_blocks leads block inner = if leads then block ∷ inner else []

unfoldable pub blocks_in : (known : List ℕ → Bool) → Forest → List Forest
blocks_in known End = []
blocks_in known (Branch d block beside) =
    own_blocks (leads (reading_by known d.name d.args)) block (blocks_in known block)
    ++ blocks_in known beside

-- numbers, from this one on, mean these
unfoldable pub AllAt : {A : Type 0} → (at : ℕ → A) → ℕ → List A → Type 0
AllAt at n [] = Unit {0}
AllAt at n (x ∷ xs) = (at n ≡ x) × AllAt at (suc n) xs

-- The program of a level, by its directives (https://nginx.org/en/docs/http/ngx_http_rewrite_module.html).
use Rattle.std.specs.Prelude.{ℕ, suc, ◌+◌, Bool, true, false, List, [], ◌∷◌, ◌++◌, length, map, Option, None, Some, option_map, is_some, if◌then◌else◌}
use Rattle.std.specs.List.{list_any}
use Rattle.conf_text.specs.declared.directive.Directive.{Directive}
use Rattle.conf_text.specs.declared.fault.FaultKind.{FaultKind}
use Rattle.conf_text.specs.declared.fault.FaultKind.TheVariants as kinds
use Rattle.conf_text.specs.declared.fault.ConfFault.{ConfFault}
use Rattle.conf_block.specs.Forest.{Forest, End, Branch}
use Rattle.ngx_pattern.specs.Pattern.{Pattern}
use Rattle.site_model.specs.declared.program.RewriteStep.{RewriteStep}
use Rattle.rewrite_compile.specs.declared.raw.RawStep.{RawStep}
use Rattle.rewrite_compile.specs.declared.raw.RawStep.TheVariants.{Set, If, Rewrite, Return, Stop}
use Rattle.rewrite_compile.specs.declared.raw.Reading.{Reading}
use Rattle.rewrite_compile.specs.declared.raw.Reading.TheVariants.{Step, Wrong}
use Rattle.rewrite_compile.specs.declared.part.Spot.{Spot}
use Rattle.rewrite_compile.specs.declared.part.Part.{Part}
use Rattle.source_lines.specs.declared.line.Line.{Line}
use Rattle.rewrite_compile.specs.Readings.{reading_by}
use Rattle.rewrite_compile.specs.Numbered.{patterns_in, step_at, is_bad}

-- ---- the directives that have a part in it

-- an `if` has a block; no other directive of a program does
abbrev pub is_if : RawStep → Bool
is_if (Set name text) = false
is_if (If condition) = true
is_if (Rewrite pattern to is_url flag) = false
is_if (Return code text) = false
is_if Stop = false

abbrev pub has_block : Reading → Bool
has_block (Wrong kind) = false
has_block (Step raw) = is_if raw

abbrev pub in_block : Option Reading → List Part → List Part
in_block None parts = []
in_block (Some reading) parts = if has_block reading then parts else []

abbrev pub spot_of : Directive → Spot
spot_of d = record { file = d.file; line = d.line; name = d.name }

-- a directive with the number of those in its block, and then these
abbrev pub led_by : Directive → Option Reading → (block : List Part) → List Part
led_by d None block = []
led_by d (Some reading) block = record { spot = spot_of d; reading = reading; block = length block } ∷ block

-- The directives of a level that have a part in its program, in the order of the text. Those in the block of an `if` come
-- right after it, and it has their number; the blocks of other directives are no part of the level.
unfoldable pub parts_of : (known : List ℕ → Bool) → Forest → List Part
parts_of known End = []
parts_of known (Branch d block beside) =
    led_by d (reading_by known d.name d.args) (in_block (reading_by known d.name d.args) (parts_of known block)) ++ parts_of known beside

-- ---- the first fault

abbrev pub fault_at : Spot → FaultKind → ConfFault
fault_at spot kind = record { kind = kind; file = spot.file; line = spot.line; word = Some spot.name }

abbrev pub patterns_by : Reading → List Pattern
patterns_by (Wrong kind) = []
patterns_by (Step raw) = patterns_in raw

-- what is wrong with its words comes before what is wrong with its pattern
abbrev pub kind_by : Reading → Option FaultKind
kind_by (Wrong kind) = Some kind
kind_by (Step raw) = if list_any is_bad (patterns_in raw) then Some kinds.Pattern else None

abbrev pub own_fault : Part → Option ConfFault
own_fault part = option_map (fault_at part.spot) (kind_by part.reading)

abbrev pub or_later : Option ConfFault → Option ConfFault → Option ConfFault
or_later None later = later
or_later (Some fault) later = Some fault

-- in the order of the text
unfoldable pub first_fault : List Part → Option ConfFault
first_fault [] = None
first_fault (part ∷ parts) = or_later (own_fault part) (first_fault parts)

-- Where the maker refuses patterns: a fault of a directive that has one, up to the first that has a fault of its own.
abbrev pub refused_at : Part → List ConfFault
refused_at part = map (λ p. fault_at part.spot kinds.PatternTooBig) (patterns_by part.reading)

unfoldable pub refusals : List Part → List ConfFault
refusals [] = []
refusals (part ∷ parts) = refused_at part ++ (if is_some (kind_by part.reading) then [] else refusals parts)

-- ---- what they make

-- in a location the block of an `if` is a level of its own, which has the next number
abbrev pub level_after : (level : Option ℕ) → Reading → Option ℕ
level_after level reading = if has_block reading then option_map suc level else level

abbrev pub step_by : (number : ℕ) → (level : Option ℕ) → (block : ℕ) → Reading → List RewriteStep
step_by number level block (Wrong kind) = []
step_by number level block (Step raw) = step_at number block level raw ∷ []

-- The directives of a program of which the first pattern and the first level of a block have these numbers.
unfoldable pub steps_from : (number : ℕ) → (level : Option ℕ) → List Part → List RewriteStep
steps_from number level [] = []
steps_from number level (part ∷ parts) =
    step_by number level part.block part.reading
    ++ steps_from (number + length (patterns_by part.reading)) (level_after level part.reading) parts

abbrev pub patterns_at : Part → List Pattern
patterns_at part = patterns_by part.reading

abbrev pub line_at : Part → Line
line_at part = record { file = part.spot.file; line = part.spot.line }

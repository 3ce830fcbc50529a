-- The levels of a server by their numbers.
use Rattle.std.specs.Prelude.{ℕ, List, [], ◌∷◌, ◌++◌, map, flat_map, Option, None, Some}
use Rattle.site_model.specs.declared.program.RewriteStep.{RewriteStep}
use Rattle.site_model.specs.declared.program.RewriteStep.TheVariants as steps
use Rattle.site_model.specs.declared.site.Location.{Location}
use Rattle.site_model.specs.declared.site.NamedLocation.{NamedLocation}
use Rattle.site_model.specs.declared.site.Server.{Server}
use Rattle.site_model.specs.declared.site.Site.{Site}
use Rattle.site_model.specs.Levels.{raw_level}

-- its own, those of its locations, and those of its locations `@name`
abbrev pub level_numbers : Server → List ℕ
level_numbers s =
    s.level ∷ (map (λ (l : Location). l.level) s.locations.items
    ++ map (λ (n : NamedLocation). n.level) s.named.items)

-- the level of the block of an `if`
abbrev pub number_of : Option ℕ → List ℕ
number_of None = []
number_of (Some number) = number ∷ []

abbrev pub block_number : RewriteStep → List ℕ
block_number (steps.If test negated block level) = number_of level
block_number (steps.Set name text) = []
block_number (steps.Rewrite pattern to is_url flag) = []
block_number (steps.Return code text) = []
block_number steps.Stop = []

-- a level, and those of the blocks in its program
abbrev pub numbers_in : Site → ℕ → List ℕ
numbers_in site number = number ∷ flat_map block_number (raw_level site number).program

abbrev pub value_numbers : Site → List ℕ → List ℕ
value_numbers site numbers = flat_map (numbers_in site) numbers

-- the variable that a directive sets
abbrev pub set_name : RewriteStep → Option (List ℕ)
set_name (steps.Set name text) = Some name
set_name (steps.If test negated block level) = None
set_name (steps.Rewrite pattern to is_url flag) = None
set_name (steps.Return code text) = None
set_name steps.Stop = None

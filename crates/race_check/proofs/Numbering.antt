-- The levels of a server by their numbers are those that its meaning sees.
use Rattle.std.proofs.Common.{◌≡◌, ℕ, nat_lt, Bool, true, false, List, [], ◌∷◌, ◌++◌, map, flat_map, None, Some, refl, ap, sym, ◌∙◌, if◌then◌else◌}
use Rattle.std.proofs.lemmas.List.{append_assoc, map-append}
use Rattle.site_model.specs.Levels.{raw_level}
use Rattle.site_model.specs.declared.program.RewriteStep.{RewriteStep}
use Rattle.site_model.specs.declared.program.RewriteStep.TheVariants as steps
use Rattle.site_model.specs.declared.site.Location.{Location as CodeLocation}
use Rattle.site_model.specs.declared.site.NamedLocation.{NamedLocation}
use Rattle.site_model.specs.declared.site.Server.{Server}
use Rattle.site_model.specs.declared.site.Site.{Site}
use Rattle.site_views.specs.Pattern.{Pattern}
use Rattle.site_views.specs.Values.{Values}
use Rattle.site_views.specs.Views.{LevelView, NamedView}
use Rattle.site_whole.specs.Whole.{values_seen, step_seen, level_whole, Nested, inside, outside, nested, locations_whole, named_whole, server_whole}
use Rattle.site_whole.specs.Whole.Nested.{NoneLeft, Nest}
use Rattle.race_meaning.specs.Levels.{location_levels, inner_levels, levels, block_values, level_values, all_values}
use Rattle.race_check.specs.Numbers.{level_numbers, block_number, numbers_in, value_numbers}

module _ (patterns : List Pattern) (site : Site) where
  abbrev seen_at : ℕ → LevelView
  seen_at number = level_whole patterns site number

  abbrev level_of : CodeLocation → LevelView
  level_of l = seen_at l.level

  -- the levels of nested locations, in the order of the text
  abbrev flat : Nested → List LevelView
  flat n = location_levels (locations_whole patterns site n)

  flat_none : flat NoneLeft ≡ []
  unfolding locations_whole location_levels
  flat_none = refl

  flat_nest : (l : CodeLocation) (inner later : Nested) → flat (Nest l inner later) ≡ level_of l ∷ (flat inner ++ flat later)
  unfolding locations_whole location_levels
  flat_nest l inner later = refl

  divided_by : (d : ℕ) (l : CodeLocation) (inner later : Nested) (deeper : Bool) → flat (inside d later) ++ flat (outside d later) ≡ flat later →
      flat (if deeper then Nest l inner (inside d later) else NoneLeft) ++ flat (if deeper then outside d later else Nest l inner later) ≡ flat (Nest l inner later)
  divided_by d l inner later true e =
      ap (λ x. x ++ flat (outside d later)) (flat_nest l inner (inside d later))
      ∙ ap (λ x. level_of l ∷ x) (append_assoc (flat inner) (flat (inside d later)) (flat (outside d later)) ∙ ap (λ x. flat inner ++ x) e)
      ∙ sym (flat_nest l inner later)
  divided_by d l inner later false e = ap (λ x. x ++ flat (Nest l inner later)) flat_none

  divided : (d : ℕ) (n : Nested) → flat (inside d n) ++ flat (outside d n) ≡ flat n
  unfolding inside outside
  divided d NoneLeft = ap (λ x. x ++ flat NoneLeft) flat_none
  divided d (Nest l inner later) = divided_by d l inner later (nat_lt d l.depth) (divided d later)

  flat_nested : (ls : List CodeLocation) → flat (nested ls) ≡ map level_of ls
  unfolding nested
  flat_nested [] = flat_none
  flat_nested (l ∷ ls) =
      flat_nest l (inside l.depth (nested ls)) (outside l.depth (nested ls))
      ∙ ap (λ x. level_of l ∷ x) (divided l.depth (nested ls) ∙ flat_nested ls)

  named_levels : (ns : List NamedLocation) → map (λ (n : NamedView). n.level) (map (named_whole patterns site) ns) ≡ map (λ (n : NamedLocation). seen_at n.level) ns
  named_levels [] = refl
  named_levels (n ∷ ns) = ap (λ x. seen_at n.level ∷ x) (named_levels ns)

  map_twice : {X : Type 0} (f : X → ℕ) (xs : List X) → map seen_at (map f xs) ≡ map (λ x. seen_at (f x)) xs
  map_twice f [] = refl
  map_twice f (x ∷ xs) = ap (λ l. seen_at (f x) ∷ l) (map_twice f xs)

  pub levels_seen : (s : Server) → map (level_whole patterns site) (level_numbers s) ≡ levels (server_whole patterns site s)
  unfolding levels inner_levels server_whole
  levels_seen s =
      ap (λ x. seen_at s.level ∷ x)
      (map-append seen_at (map (λ (l : CodeLocation). l.level) s.locations.items) (map (λ (n : NamedLocation). n.level) s.named.items)
      ∙ ap (λ x. x ++ map seen_at (map (λ (n : NamedLocation). n.level) s.named.items)) (map_twice (λ (l : CodeLocation). l.level) s.locations.items ∙ sym (flat_nested s.locations.items))
      ∙ ap (λ x. flat (nested s.locations.items) ++ x) (map_twice (λ (n : NamedLocation). n.level) s.named.items ∙ sym (named_levels s.named.items)))

  -- ---- values

  abbrev pub values_at : ℕ → Values
  values_at number = values_seen site (raw_level site number)

  block_seen : (step : RewriteStep) → map values_at (block_number step) ≡ block_values (step_seen patterns site step)
  block_seen (steps.Set name text) = refl
  block_seen (steps.If test negated block None) = refl
  block_seen (steps.If test negated block (Some number)) = refl
  block_seen (steps.Rewrite pattern to is_url flag) = refl
  block_seen (steps.Return code text) = refl
  block_seen steps.Stop = refl

  pub blocks_seen : (ss : List RewriteStep) → map values_at (flat_map block_number ss) ≡ flat_map block_values (map (step_seen patterns site) ss)
  blocks_seen [] = refl
  blocks_seen (s ∷ ss) =
      map-append values_at (block_number s) (flat_map block_number ss)
      ∙ ap (λ x. x ++ map values_at (flat_map block_number ss)) (block_seen s)
      ∙ ap (λ x. block_values (step_seen patterns site s) ++ x) (blocks_seen ss)

  values_in : (number : ℕ) → map values_at (numbers_in site number) ≡ level_values (level_whole patterns site number)
  unfolding level_values level_whole
  values_in number =
      ap (λ x. values_at number ∷ x) (blocks_seen (raw_level site number).program)

  values_of_all : (numbers : List ℕ) → map values_at (value_numbers site numbers) ≡ flat_map level_values (map (level_whole patterns site) numbers)
  values_of_all [] = refl
  values_of_all (n ∷ ns) =
      map-append values_at (numbers_in site n) (value_numbers site ns)
      ∙ ap (λ x. x ++ map values_at (value_numbers site ns)) (values_in n)
      ∙ ap (λ x. level_values (level_whole patterns site n) ++ x) (values_of_all ns)

  pub values_seen_all : (s : Server) → map values_at (value_numbers site (level_numbers s)) ≡ all_values (server_whole patterns site s)
  unfolding all_values
  values_seen_all s = values_of_all (level_numbers s) ∙ ap (flat_map level_values) (levels_seen s)

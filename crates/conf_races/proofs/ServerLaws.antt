-- The levels of a server, one after another.
use Rattle.std.proofs.Common.{◌≡◌, ℕ, Bool, true, false, cond, List, [], ◌∷◌, ◌++◌, refl, sym, ap, ◌∙◌}
use Rattle.conf_text.specs.declared.directive.Directive.{Directive}
use Rattle.conf_block.specs.Forest.{Forest, End, Branch}
use Rattle.conf_block.specs.Locations.{is_found}
use Rattle.conf_block.specs.Blocks.{from_first}
use Rattle.conf_races.specs.Origins.{Outer, outer_over, location_level, locations_in, named_in}

module _ (known : List ℕ → Bool) (outer : Outer) where
  locations_branch : (d : Directive) (block beside : Forest) → locations_in known outer (Branch d block beside)
      ≡ cond (is_found false d) (location_level known (outer_over block outer) block ∷ (locations_in known (outer_over block outer) block ++ locations_in known outer beside)) (locations_in known outer beside)
  unfolding locations_in
  locations_branch d block beside = refl

  no_locations : locations_in known outer End ≡ []
  unfolding locations_in
  no_locations = refl

  locations_first : (f : Forest) → locations_in known outer f ≡ locations_in known outer (from_first (is_found false) f)
  unfolding from_first
  locations_first End = refl
  locations_first (Branch d block beside) =
      let here = location_level known (outer_over block outer) block ∷ (locations_in known (outer_over block outer) block ++ locations_in known outer beside) in
      locations_branch d block beside
      ∙ elim (is_found false d) as (λ t. is_found false d ≡ t → cond t here (locations_in known outer beside) ≡ locations_in known outer (cond t (Branch d block beside) (from_first (is_found false) beside))) [
        | true ↦ λ e. sym (locations_branch d block beside ∙ ap (λ t. cond t here (locations_in known outer beside)) e)
        | false ↦ λ e. locations_first beside
      ] refl

  pub locations_none : (f : Forest) → from_first (is_found false) f ≡ End → locations_in known outer f ≡ []
  locations_none f e = locations_first f ∙ ap (locations_in known outer) e ∙ no_locations

  pub locations_here : (f : Forest) (d : Directive) (block beside : Forest) (o : Outer) → from_first (is_found false) f ≡ Branch d block beside → is_found false d ≡ true → o ≡ outer_over block outer
      → locations_in known outer f ≡ (location_level known o block ∷ locations_in known o block) ++ locations_in known outer beside
  locations_here f d block beside o e t i =
      locations_first f ∙ ap (locations_in known outer) e ∙ locations_branch d block beside
      ∙ ap (λ t. cond t (location_level known (outer_over block outer) block ∷ (locations_in known (outer_over block outer) block ++ locations_in known outer beside)) (locations_in known outer beside)) t
      ∙ ap (λ o. location_level known o block ∷ (locations_in known o block ++ locations_in known outer beside)) (sym i)

  named_branch : (d : Directive) (block beside : Forest) → named_in known outer (Branch d block beside)
      ≡ cond (is_found true d) (location_level known (outer_over block outer) block ∷ named_in known outer beside) (named_in known outer beside)
  unfolding named_in
  named_branch d block beside = refl

  no_named : named_in known outer End ≡ []
  unfolding named_in
  no_named = refl

  named_first : (f : Forest) → named_in known outer f ≡ named_in known outer (from_first (is_found true) f)
  unfolding from_first
  named_first End = refl
  named_first (Branch d block beside) =
      let here = location_level known (outer_over block outer) block ∷ named_in known outer beside in
      named_branch d block beside
      ∙ elim (is_found true d) as (λ t. is_found true d ≡ t → cond t here (named_in known outer beside) ≡ named_in known outer (cond t (Branch d block beside) (from_first (is_found true) beside))) [
        | true ↦ λ e. sym (named_branch d block beside ∙ ap (λ t. cond t here (named_in known outer beside)) e)
        | false ↦ λ e. named_first beside
      ] refl

  pub named_none : (f : Forest) → from_first (is_found true) f ≡ End → named_in known outer f ≡ []
  named_none f e = named_first f ∙ ap (named_in known outer) e ∙ no_named

  pub named_here : (f : Forest) (d : Directive) (block beside : Forest) (o : Outer) → from_first (is_found true) f ≡ Branch d block beside → is_found true d ≡ true → o ≡ outer_over block outer
      → named_in known outer f ≡ (location_level known o block ∷ []) ++ named_in known outer beside
  named_here f d block beside o e t i =
      named_first f ∙ ap (named_in known outer) e ∙ named_branch d block beside
      ∙ ap (λ t. cond t (location_level known (outer_over block outer) block ∷ named_in known outer beside) (named_in known outer beside)) t
      ∙ ap (λ o. location_level known o block ∷ named_in known outer beside) (sym i)

-- The lines of a level's program, and of the blocks in it.
use Rattle.std.proofs.Common.{◌≡◌, ℕ, Bool, true, false, cond, List, [], ◌∷◌, ◌++◌, map, Option, None, Some, is_some, refl, sym, ap, ◌∙◌, append-nil}
use Rattle.std.proofs.lemmas.List.{map-append}
use Rattle.conf_text.specs.declared.directive.Directive.{Directive}
use Rattle.conf_block.specs.Forest.{Forest, End, Branch}
use Rattle.rewrite_compile.specs.declared.raw.Reading.{Reading}
use Rattle.rewrite_compile.specs.declared.part.Part.{Part}
use Rattle.rewrite_compile.specs.Readings.{reading_by}
use Rattle.rewrite_compile.specs.Programs.{in_block, led_by, line_at, parts_of}
use Rattle.conf_inherit.specs.Programs.{leads, own_blocks, blocks_in}
use Rattle.race_places.specs.Places.{Origins}
use Rattle.conf_races.specs.Origins.{Outer, block_origins, led_lines, program_lines}

led_seen : (d : Directive) (r : Option Reading) (inner : List Part) → map line_at (led_by d r (in_block r inner)) ≡ led_lines d (is_some r) ++ map line_at (cond (leads r) inner [])
led_seen d None inner = refl
led_seen d (Some reading) inner = refl

parts_branch : (known : List ℕ → Bool) (d : Directive) (block beside : Forest)
    → parts_of known (Branch d block beside) ≡ led_by d (reading_by known d.name d.args) (in_block (reading_by known d.name d.args) (parts_of known block)) ++ parts_of known beside
unfolding parts_of
parts_branch known d block beside = refl

pub program_branch : (known : List ℕ → Bool) (f : Forest) (d : Directive) (block beside : Forest) (has is_if : Bool) (inside : List Part) → f ≡ Branch d block beside
    → has ≡ is_some (reading_by known d.name d.args) → is_if ≡ leads (reading_by known d.name d.args) → inside ≡ cond is_if (parts_of known block) []
    → program_lines known f ≡ (led_lines d has ++ map line_at inside) ++ program_lines known beside
program_branch known f d block beside has is_if inside e h i n =
    let q = reading_by known d.name d.args in
    ap (program_lines known) e
    ∙ ap (map line_at) (parts_branch known d block beside)
    ∙ map-append line_at (led_by d q (in_block q (parts_of known block))) (parts_of known beside)
    ∙ ap (λ l. l ++ program_lines known beside)
    (led_seen d q (parts_of known block)
    ∙ ap (λ t. led_lines d (is_some q) ++ map line_at (cond t (parts_of known block) [])) (sym i)
    ∙ ap (λ t. led_lines d t ++ map line_at (cond is_if (parts_of known block) [])) (sym h)
    ∙ ap (λ ps. led_lines d has ++ map line_at ps) (sym n))

pub program_end : (known : List ℕ → Bool) (f : Forest) → f ≡ End → program_lines known f ≡ []
unfolding parts_of
program_end known f e = ap (program_lines known) e

-- ---- blocks

blocks_branch : (known : List ℕ → Bool) (d : Directive) (block beside : Forest)
    → blocks_in known (Branch d block beside) ≡ own_blocks (leads (reading_by known d.name d.args)) block (blocks_in known block) ++ blocks_in known beside
unfolding blocks_in
blocks_branch known d block beside = refl

module _ (o : Outer) where
  own_seen : (is_if : Bool) (block : Forest) (inner : List Forest) → map (block_origins o) (own_blocks is_if block inner) ≡ map (block_origins o) (cond is_if (block ∷ []) []) ++ map (block_origins o) (cond is_if inner [])
  own_seen true block inner = refl
  own_seen false block inner = refl

  pub origins_branch : (known : List ℕ → Bool) (f : Forest) (d : Directive) (block beside : Forest) (is_if : Bool) (inside : List Forest) → f ≡ Branch d block beside
      → is_if ≡ leads (reading_by known d.name d.args) → inside ≡ cond is_if (blocks_in known block) []
      → map (block_origins o) (blocks_in known f) ≡ (map (block_origins o) (cond is_if (block ∷ []) []) ++ map (block_origins o) inside) ++ map (block_origins o) (blocks_in known beside)
  origins_branch known f d block beside is_if inside e i n =
      ap (λ g. map (block_origins o) (blocks_in known g)) e
      ∙ ap (map (block_origins o)) (blocks_branch known d block beside)
      ∙ map-append (block_origins o) (own_blocks (leads (reading_by known d.name d.args)) block (blocks_in known block)) (blocks_in known beside)
      ∙ ap (λ l. l ++ map (block_origins o) (blocks_in known beside))
      (ap (λ t. map (block_origins o) (own_blocks t block (blocks_in known block))) (sym i)
      ∙ own_seen is_if block (blocks_in known block)
      ∙ ap (λ bs. map (block_origins o) (cond is_if (block ∷ []) []) ++ map (block_origins o) bs) (sym n))

  pub origins_end : (known : List ℕ → Bool) (f : Forest) → f ≡ End → map (block_origins o) (blocks_in known f) ≡ []
  unfolding blocks_in
  origins_end known f e = ap (λ g. map (block_origins o) (blocks_in known g)) e

  pub no_block : (is_if : Bool) (block : Forest) (old : List Origins) → is_if ≡ false → old ≡ old ++ map (block_origins o) (cond is_if (block ∷ []) [])
  no_block is_if block old e = sym (append-nil old) ∙ ap (λ t. old ++ map (block_origins o) (cond t (block ∷ []) [])) (sym e)

  pub one_block : (is_if : Bool) (block : Forest) (old new : List Origins) → is_if ≡ true → new ≡ old ++ block_origins o block ∷ [] → new ≡ old ++ map (block_origins o) (cond is_if (block ∷ []) [])
  one_block is_if block old new e n = n ∙ ap (λ t. old ++ map (block_origins o) (cond t (block ∷ []) [])) (sym e)

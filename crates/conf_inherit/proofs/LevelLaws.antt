-- Levels with their programs, and the levels of the blocks in these.
use Rattle.std.proofs.Common.{◌≡◌, ℕ, ◌+◌, Bool, true, false, cond, List, [], ◌∷◌, ◌++◌, length, map, flat_map, Some, None, option_map, refl, sym, ap, subst, ◌∙◌, append_assoc, append-nil, arith}
use Rattle.std.proofs.lemmas.List.{map-append}
use Rattle.std.specs.List.{slice_get}
use Rattle.ngx_pattern.specs.Pattern.{Pattern as SetPattern}
use Rattle.site_model.specs.declared.site.Level.{Level}
use Rattle.site_model.specs.declared.program.RewriteStep.{RewriteStep}
use Rattle.site_whole.specs.Whole.{tries_seen}
use Rattle.conf_text.specs.declared.directive.Directive.{Directive}
use Rattle.conf_block.specs.Forest.{Forest, End, Branch}
use Rattle.rewrite_compile.specs.Readings.{reading_by}
use Rattle.rewrite_compile.specs.Programs.{parts_of, patterns_at, steps_from}
use Rattle.conf_inherit.specs.declared.site.Built.{Built}
use Rattle.conf_inherit.specs.declared.level.Inherited.{Inherited}
use Rattle.conf_inherit.specs.declared.shelf.Shelf.{Shelf}
use Rattle.conf_inherit.specs.Programs.{program_of, leads, own_blocks, blocks_in, AllAt}
use Rattle.conf_inherit.specs.Values.{Values, stated, over, values_in, values_within, server_level, level_of, tries_in}
use Rattle.conf_inherit.specs.Pools.{Keeps, KeepsAll, Holds, Fits, BlocksAdded, values_by, level_by, patterns_in, level_built, values_built}
use Rattle.conf_inherit.proofs.SiteLaws.{keeps-then, all-here, all-then, holds-before, level-shown, values-shown}
use Rattle.conf_inherit.proofs.ProgramLaws.{at-append, at-none, at-one, length-append, length-map, patterns-there, blocks-count, steps-shown}

module _ (known : List ℕ → Bool) (b : Built) (levels : List Level) (shelf : Shelf) (v : Inherited) (n : ℕ) (body : Forest) (level : Level) (program : List RewriteStep) (old patterns : List SetPattern)
    (h : Holds levels shelf b) (l : slice_get levels n ≡ Some level) (e : level ≡ level_by (values_by v) v.types v.lists level.tries program)
    (r : option_map tries_seen level.tries ≡ tries_in body) (f : Fits shelf v) (ps : patterns ≡ old ++ flat_map patterns_at (parts_of known body)) (k : Keeps patterns shelf.patterns) where
  kept : Keeps (old ++ flat_map patterns_at (parts_of known body)) b.patterns
  kept = keeps-then _ _ _ (subst (λ xs. Keeps xs shelf.patterns) ps k) h.1.patterns

  pub server-level-shown : program ≡ steps_from (length old) None (parts_of known body) → level_built b n ≡ server_level known (values_by v) body
  server-level-shown p =
      level-shown b levels shelf v n body level program h l e r f (program_of None (parts_of known body))
      (ap (map _) p ∙ steps-shown (patterns_in b) b.site (length old) None None (parts_of known body) (patterns-there old (flat_map patterns_at (parts_of known body)) b.patterns kept) tt)

  pub location-level-shown : (first : ℕ) → program ≡ steps_from (length old) (Some first) (parts_of known body)
      → AllAt (values_built b) first (map (values_within (values_by v)) (blocks_in known body)) → level_built b n ≡ level_of known (values_by v) body
  location-level-shown first p blocks =
      let values = map (values_within (values_by v)) (blocks_in known body) in
      level-shown b levels shelf v n body level program h l e r f (program_of (Some values) (parts_of known body))
      (ap (map _) p ∙ steps-shown (patterns_in b) b.site (length old) (Some first) (Some values) (parts_of known body) (patterns-there old (flat_map patterns_at (parts_of known body)) b.patterns kept)
      (blocks, blocks-count known body ∙ sym (length-map (values_within (values_by v)) (blocks_in known body))))

-- ---- levels of blocks

pub blocks-none : (v : Values) (levels : List Level) (shelf : Shelf) → BlocksAdded v levels levels shelf shelf []
blocks-none v levels shelf = record {
  levels_kept = λ n x h. h;
  shelf_kept = all-here shelf;
  count = omega arith;
  same = λ b h. at-none (values_built b) (length levels);
}

pub blocks-then : (v : Values) (a b c : List Level) (sa sb sc : Shelf) (xs ys : List Forest) → BlocksAdded v a b sa sb xs → BlocksAdded v b c sb sc ys → BlocksAdded v a c sa sc (xs ++ ys)
blocks-then v a b c sa sb sc xs ys f g = record {
  levels_kept = keeps-then a b c f.levels_kept g.levels_kept;
  shelf_kept = all-then sa sb sc f.shelf_kept g.shelf_kept;
  count = g.count ∙ ap (λ m. m + length ys) f.count ∙ sum;
  same = λ w h.
      subst (AllAt (values_built w) (length a)) (sym (map-append (values_within v) xs ys))
      (at-append (values_built w) (length a) (map (values_within v) xs) (map (values_within v) ys)
      (f.same w (holds-before b c sb sc w g.levels_kept g.shelf_kept h))
      (subst (λ m. AllAt (values_built w) m (map (values_within v) ys)) (f.count ∙ ap (λ m. length a + m) (sym (length-map (values_within v) xs))) (g.same w h)));
}
  where
    sum : (length a + length xs) + length ys ≡ length a + length (xs ++ ys)
    sum = omega (arith, length-append xs ys)

-- the level of one block
pub block-added : (v : Values) (inner : Inherited) (old levels new : List Level) (old_shelf shelf new_shelf : Shelf) (n : ℕ) (body : Forest) (level : Level)
    → values_by inner ≡ over (stated (Some []) body) v → levels ≡ old → KeepsAll old_shelf shelf → Fits shelf inner
    → level ≡ level_by (values_by inner) inner.types inner.lists level.tries [] → option_map tries_seen level.tries ≡ tries_in body
    → slice_get new n ≡ Some level → Keeps levels new → n ≡ length levels → length new ≡ length levels + 1 → new_shelf ≡ shelf → Fits new_shelf inner
    → BlocksAdded v old new old_shelf new_shelf (body ∷ [])
block-added v inner old levels new old_shelf shelf new_shelf n body level is same kept fits made tries there k number count shelved fitted = record {
  levels_kept = subst (λ ls. Keeps ls new) same k;
  shelf_kept = subst (KeepsAll old_shelf) (sym shelved) kept;
  count = count ∙ ap (λ (ls : List Level). length ls + 1) same;
  same = λ b h.
      at-one (values_built b) (length old) (values_within v body)
      (ap (values_built b) (sym (number ∙ ap length same)) ∙ values-shown b new new_shelf inner n body level [] h there made tries fitted ∙ ap (λ w. values_in w body) is);
}

pub blocks-if : (v : Values) (a b : List Level) (sa sb : Shelf) (is_if : Bool) (body : Forest) → is_if ≡ true → BlocksAdded v a b sa sb (body ∷ []) → BlocksAdded v a b sa sb (cond is_if (body ∷ []) [])
blocks-if v a b sa sb is_if body e h = subst (λ t. BlocksAdded v a b sa sb (cond t (body ∷ []) [])) (sym e) h

pub blocks-if-not : (v : Values) (a : List Level) (sa : Shelf) (is_if : Bool) (body : Forest) → is_if ≡ false → BlocksAdded v a a sa sa (cond is_if (body ∷ []) [])
blocks-if-not v a sa is_if body e = subst (λ t. BlocksAdded v a a sa sa (cond t (body ∷ []) [])) (sym e) (blocks-none v a sa)

-- the blocks so far, and those that are left
pub record BlocksSoFar (v : Values) (first levels : List Level) (first_shelf shelf : Shelf) (left all : List Forest) : Type 0 where
  pub done : List Forest
  pub is : done ++ left ≡ all
  pub added : BlocksAdded v first levels first_shelf shelf done

pub blocks-begin : (v : Values) (levels : List Level) (shelf : Shelf) (all : List Forest) → BlocksSoFar v levels levels shelf shelf all all
blocks-begin v levels shelf all = record { done = []; is = refl; added = blocks-none v levels shelf }

own-parts : (is_if : Bool) (body : Forest) (inner more : List Forest) → (cond is_if (body ∷ []) [] ++ cond is_if inner []) ++ more ≡ own_blocks is_if body inner ++ more
own-parts true body inner more = refl
own-parts false body inner more = refl

blocks-branch : (known : List ℕ → Bool) (f : Forest) (d : Directive) (block beside : Forest) → f ≡ Branch d block beside
    → blocks_in known f ≡ own_blocks (leads (reading_by known d.name d.args)) block (blocks_in known block) ++ blocks_in known beside
unfolding blocks_in
blocks-branch known f d block beside e = ap (blocks_in known) e

blocks-end : (known : List ℕ → Bool) (f : Forest) → f ≡ End → blocks_in known f ≡ []
unfolding blocks_in
blocks-end known f e = ap (blocks_in known) e

pub blocks-more : (known : List ℕ → Bool) (v : Values) (first levels one more : List Level) (first_shelf shelf one_shelf more_shelf : Shelf) (f : Forest) (d : Directive) (block beside : Forest) (all : List Forest) (is_if : Bool) (inside : List Forest)
    → BlocksSoFar v first levels first_shelf shelf (blocks_in known f) all → f ≡ Branch d block beside → is_if ≡ leads (reading_by known d.name d.args)
    → BlocksAdded v levels one shelf one_shelf (cond is_if (block ∷ []) []) → inside ≡ cond is_if (blocks_in known block) [] → BlocksAdded v one more one_shelf more_shelf inside
    → BlocksSoFar v first more first_shelf more_shelf (blocks_in known beside) all
blocks-more known v first levels one more first_shelf shelf one_shelf more_shelf f d block beside all is_if inside s e i a w c =
    let own = cond is_if (block ∷ []) [] in
    let inner = cond is_if (blocks_in known block) [] in
    let c' : BlocksAdded v one more one_shelf more_shelf inner = subst (BlocksAdded v one more one_shelf more_shelf) w c in record {
      done = s.done ++ (own ++ inner);
      is = append_assoc s.done (own ++ inner) (blocks_in known beside) ∙ ap (λ xs. s.done ++ xs) (own-parts is_if block (blocks_in known block) (blocks_in known beside)
          ∙ ap (λ t. own_blocks t block (blocks_in known block) ++ blocks_in known beside) i ∙ sym (blocks-branch known f d block beside e)) ∙ s.is;
      added = blocks-then v first levels more first_shelf shelf more_shelf s.done (own ++ inner) s.added (blocks-then v levels one more shelf one_shelf more_shelf own inner a c');
    }

pub blocks-over : (known : List ℕ → Bool) (v : Values) (first levels : List Level) (first_shelf shelf : Shelf) (f : Forest) (all : List Forest)
    → BlocksSoFar v first levels first_shelf shelf (blocks_in known f) all → f ≡ End → BlocksAdded v first levels first_shelf shelf all
blocks-over known v first levels first_shelf shelf f all s e =
    subst (BlocksAdded v first levels first_shelf shelf) (sym (append-nil s.done) ∙ ap (λ xs. s.done ++ xs) (sym (blocks-end known f e)) ∙ s.is) s.added

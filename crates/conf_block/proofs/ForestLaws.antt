-- Blocks of a text as blocks of a forest.
use Rattle.std.proofs.Common.{◌≡◌, ℕ, nat_lt, true, false, cond, List, [], ◌∷◌, ◌++◌, refl, sym, ap, ◌∙◌, length, arith}
use Rattle.std.proofs.lemmas.Bool.Decides.{nat_tests}
use Rattle.std.proofs.lemmas.List.Sums.{take_while-cons}
use Rattle.conf_text.specs.declared.directive.Directive.{Directive}
use Rattle.conf_text.specs.Blocks.{block_of}
use Rattle.conf_block.specs.Forest.{Forest, End, Branch, inside, outside, forest_of}

deeper : (n m k : ℕ) → nat_lt n m ≡ true → nat_lt m k ≡ true → nat_lt n k ≡ true
deeper n m k p q = grind (arith, nat_tests)

inside-inside : (n m : ℕ) → nat_lt n m ≡ true → (f : Forest) → inside m (inside n f) ≡ inside m f
unfolding inside
inside-inside n m lt End = refl
inside-inside n m lt (Branch d block beside) =
    elim (nat_lt m d.depth) as (λ t. nat_lt m d.depth ≡ t → inside m (inside n (Branch d block beside)) ≡ inside m (Branch d block beside)) [
      | true ↦ λ t. let u = deeper n m d.depth lt t in rw (u, t) (ap (Branch d block) (inside-inside n m lt beside))
      | false ↦ λ t. elim (nat_lt n d.depth) as (λ u. nat_lt n d.depth ≡ u → inside m (inside n (Branch d block beside)) ≡ inside m (Branch d block beside)) [
        | true ↦ λ u. rw (u, t) refl
        | false ↦ λ u. rw (u, t) refl
      ] refl
    ] refl

outside-inside : (n m : ℕ) → nat_lt n m ≡ true → (f : Forest) → outside m (inside n f) ≡ inside n (outside m f)
unfolding inside outside
outside-inside n m lt End = refl
outside-inside n m lt (Branch d block beside) =
    elim (nat_lt m d.depth) as (λ t. nat_lt m d.depth ≡ t → outside m (inside n (Branch d block beside)) ≡ inside n (outside m (Branch d block beside))) [
      | true ↦ λ t. let u = deeper n m d.depth lt t in rw (u, t) (outside-inside n m lt beside)
      | false ↦ λ t. elim (nat_lt n d.depth) as (λ u. nat_lt n d.depth ≡ u → outside m (inside n (Branch d block beside)) ≡ inside n (outside m (Branch d block beside))) [
        | true ↦ λ u. rw (u, t, u) refl
        | false ↦ λ u. rw (u, t, u) refl
      ] refl
    ] refl

outside-outside : (n m : ℕ) → nat_lt n m ≡ true → (f : Forest) → outside n (outside m f) ≡ outside n f
unfolding outside
outside-outside n m lt End = refl
outside-outside n m lt (Branch d block beside) =
    elim (nat_lt m d.depth) as (λ t. nat_lt m d.depth ≡ t → outside n (outside m (Branch d block beside)) ≡ outside n (Branch d block beside)) [
      | true ↦ λ t. let u = deeper n m d.depth lt t in rw (t, u) (outside-outside n m lt beside)
      | false ↦ λ t. rw t refl
    ] refl

block-cons : (n : ℕ) (d : Directive) (ds : List Directive) → block_of n (d ∷ ds) ≡ cond (nat_lt n d.depth) (d ∷ block_of n ds) []
block-cons n d ds = take_while-cons (λ d. nat_lt n d.depth) d ds

forest-block : (n : ℕ) (ds : List Directive) → forest_of (block_of n ds) ≡ inside n (forest_of ds)
unfolding inside forest_of
forest-block n [] = refl
forest-block n (d ∷ ds) =
    elim (nat_lt n d.depth) as (λ t. nat_lt n d.depth ≡ t → forest_of (block_of n (d ∷ ds)) ≡ inside n (forest_of (d ∷ ds))) [
      | true ↦ λ t. let b : block_of n (d ∷ ds) ≡ d ∷ block_of n ds = block-cons n d ds ∙ ap (λ t. cond t (d ∷ block_of n ds) []) t in
          ap forest_of b
          ∙ ap (λ f. Branch d (inside d.depth f) (outside d.depth f)) (forest-block n ds)
          ∙ ap (λ f. Branch d f (outside d.depth (inside n (forest_of ds)))) (inside-inside n d.depth t (forest_of ds))
          ∙ ap (λ f. Branch d (inside d.depth (forest_of ds)) f) (outside-inside n d.depth t (forest_of ds))
          ∙ ap (λ t. cond t (Branch d (inside d.depth (forest_of ds)) (inside n (outside d.depth (forest_of ds)))) End) (sym t)
      | false ↦ λ t. let b : block_of n (d ∷ ds) ≡ [] = block-cons n d ds ∙ ap (λ t. cond t (d ∷ block_of n ds) []) t in
          ap forest_of b ∙ ap (λ t. cond t (Branch d (inside d.depth (forest_of ds)) (inside n (outside d.depth (forest_of ds)))) End) (sym t)
    ] refl

tail_is : (d : Directive) (ds es : List Directive) → d ∷ ds ≡ d ∷ es → ds ≡ es
tail_is d ds es e = cc

forest-behind : (n : ℕ) (ds behind : List Directive) → ds ≡ block_of n ds ++ behind → forest_of behind ≡ outside n (forest_of ds)
unfolding outside forest_of
forest-behind n [] behind e = ap forest_of (sym e)
forest-behind n (d ∷ ds) behind e =
    elim (nat_lt n d.depth) as (λ t. nat_lt n d.depth ≡ t → forest_of behind ≡ outside n (forest_of (d ∷ ds))) [
      | true ↦ λ t. let b : block_of n (d ∷ ds) ≡ d ∷ block_of n ds = block-cons n d ds ∙ ap (λ t. cond t (d ∷ block_of n ds) []) t in
          forest-behind n ds behind (tail_is d ds (block_of n ds ++ behind) (e ∙ ap (λ b. b ++ behind) b))
          ∙ sym (outside-outside n d.depth t (forest_of ds))
          ∙ ap (λ t. cond t (outside n (outside d.depth (forest_of ds))) (forest_of (d ∷ ds))) (sym t)
      | false ↦ λ t. let b : block_of n (d ∷ ds) ≡ [] = block-cons n d ds ∙ ap (λ t. cond t (d ∷ block_of n ds) []) t in
          ap forest_of (sym (e ∙ ap (λ b. b ++ behind) b))
          ∙ ap (λ t. cond t (outside n (outside d.depth (forest_of ds))) (forest_of (d ∷ ds))) (sym t)
    ] refl

pub first-forest : (d : Directive) (rest behind : List Directive) → rest ≡ block_of d.depth rest ++ behind
    → forest_of (d ∷ rest) ≡ Branch d (forest_of (block_of d.depth rest)) (forest_of behind)
unfolding forest_of
first-forest d rest behind e =
    ap (λ f. Branch d f (outside d.depth (forest_of rest))) (sym (forest-block d.depth rest))
    ∙ ap (λ f. Branch d (forest_of (block_of d.depth rest)) f) (sym (forest-behind d.depth rest behind e))

pub forest-none : forest_of [] ≡ End
unfolding forest_of
forest-none = refl

pub level-branch : (d : Directive) (level rest block behind : List Directive) → level ≡ d ∷ rest → block ≡ block_of d.depth rest → rest ≡ block ++ behind
    → forest_of level ≡ Branch d (forest_of block) (forest_of behind)
level-branch d level rest block behind e b w =
    ap forest_of e ∙ first-forest d rest behind (w ∙ ap (λ b. b ++ behind) b) ∙ ap (λ b. Branch d (forest_of b) (forest_of behind)) (sym b)

pub level-none : (level : List Directive) → length level ≡ 0 → forest_of level ≡ End
level-none [] e = forest-none
level-none (d ∷ ds) e = absurd (omega arith)

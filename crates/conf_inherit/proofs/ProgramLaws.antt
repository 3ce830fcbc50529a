-- Programs that are kept by numbers are seen as they are read.
use Rattle.std.proofs.Common.{◌≡◌, ℕ, zero, suc, ◌+◌, Bool, true, false, cond, List, [], ◌∷◌, ◌++◌, length, map, flat_map, Option, Some, None, option_map, unwrap_or, refl, sym, ap, ap₂, subst, ◌∙◌, append_assoc, arith}
use Rattle.std.proofs.lemmas.List.{map-append}
use Rattle.std.specs.List.{slice_get}
use Rattle.ngx_pattern.specs.Pattern.{Pattern as SetPattern}
use Rattle.pattern_search.specs.Found.{pattern_seen, patterns_seen}
use Rattle.site_model.specs.declared.site.Site.{Site}
use Rattle.site_model.specs.Levels.{raw_level}
use Rattle.site_views.specs.Pattern.{Pattern}
use Rattle.site_views.specs.Values.{Values as AllValues}
use Rattle.site_views.specs.Rewrites.Test.{Matches}
use Rattle.site_views.specs.Rewrites.Directive.{If, Rewrite}
use Rattle.site_whole.specs.Whole.{pattern_at, no_pattern, test_seen, flag_seen, step_seen, values_seen}
use Rattle.conf_text.specs.declared.directive.Directive.{Directive}
use Rattle.conf_block.specs.Forest.{Forest, End, Branch}
use Rattle.rewrite_compile.specs.declared.raw.RawTest.{RawTest}
use Rattle.rewrite_compile.specs.declared.raw.RawTest.TheVariants as tests
use Rattle.rewrite_compile.specs.declared.raw.RawStep.{RawStep}
use Rattle.rewrite_compile.specs.declared.raw.RawStep.TheVariants as steps
use Rattle.rewrite_compile.specs.declared.raw.Reading.{Reading}
use Rattle.rewrite_compile.specs.declared.raw.Reading.TheVariants.{Step, Wrong}
use Rattle.rewrite_compile.specs.declared.part.Part.{Part}
use Rattle.rewrite_compile.specs.Readings.{reading_by}
use Rattle.rewrite_compile.specs.Numbered.{patterns_in_test, patterns_in, test_at, step_at}
use Rattle.rewrite_compile.specs.Programs.{is_if, has_block, in_block, led_by, parts_of, patterns_by, patterns_at, level_after, step_by, steps_from}
use Rattle.conf_inherit.specs.Programs.{pattern_shown, test_shown, step_shown, reading_shown, first_values, later_values, values_behind, program_of, leads, own_blocks, blocks_in, AllAt}
use Rattle.conf_inherit.specs.Pools.{Keeps}

-- ---- numbers that stand for these

module _ {A : Type 0} (at : ℕ → A) where
  same-at : (n m : ℕ) (xs : List A) → n ≡ m → AllAt at n xs → AllAt at m xs
  same-at n m xs e h = subst (λ k. AllAt at k xs) e h

  pub at-append : (n : ℕ) (xs ys : List A) → AllAt at n xs → AllAt at (n + length xs) ys → AllAt at n (xs ++ ys)
  unfolding AllAt
  at-append n [] ys h k = same-at (n + 0) n ys (omega arith) k
  at-append n (x ∷ xs) ys h k = (h.0, at-append (suc n) xs ys h.1 (same-at (n + suc (length xs)) (suc n + length xs) ys (omega arith) k))

  pub at-first : (n : ℕ) (xs ys : List A) → AllAt at n (xs ++ ys) → AllAt at n xs
  unfolding AllAt
  at-first n [] ys h = tt
  at-first n (x ∷ xs) ys h = (h.0, at-first (suc n) xs ys h.1)

  pub at-later : (n : ℕ) (xs ys : List A) → AllAt at n (xs ++ ys) → AllAt at (n + length xs) ys
  unfolding AllAt
  at-later n [] ys h = same-at n (n + 0) ys (omega arith) h
  at-later n (x ∷ xs) ys h = same-at (suc n + length xs) (n + suc (length xs)) ys (omega arith) (at-later (suc n) xs ys h.1)

  pub at-none : (n : ℕ) → AllAt at n []
  unfolding AllAt
  at-none n = tt

  pub at-one : (n : ℕ) (x : A) → at n ≡ x → AllAt at n (x ∷ [])
  unfolding AllAt
  at-one n x e = (e, tt)

  the-first : (n : ℕ) (x : A) (xs : List A) → AllAt at n (x ∷ xs) → at n ≡ x
  unfolding AllAt
  the-first n x xs h = h.0

  the-others : (n : ℕ) (x : A) (xs : List A) → AllAt at n (x ∷ xs) → AllAt at (suc n) xs
  unfolding AllAt
  the-others n x xs h = h.1

-- ---- patterns in a set

get-map : {A B : Type 0} (f : A → B) (xs : List A) (n : ℕ) → slice_get (map f xs) n ≡ option_map f (slice_get xs n)
get-map f [] n = refl
get-map f (x ∷ xs) zero = refl
get-map f (x ∷ xs) (suc n) = get-map f xs n

get-middle : {A : Type 0} (xs : List A) (y : A) (ys : List A) → slice_get (xs ++ y ∷ ys) (length xs) ≡ Some y
get-middle [] y ys = refl
get-middle (x ∷ xs) y ys = get-middle xs y ys

length-pushed : {A : Type 0} (xs : List A) (y : A) → length (xs ++ y ∷ []) ≡ suc (length xs)
length-pushed [] y = refl
length-pushed (x ∷ xs) y = ap suc (length-pushed xs y)

pub pattern-there : (all : List SetPattern) (n : ℕ) (p : SetPattern) → slice_get all n ≡ Some p → pattern_at (patterns_seen all) n ≡ pattern_seen p
pattern-there all n p h = ap (λ o. unwrap_or o no_pattern) (get-map pattern_seen all n ∙ ap (option_map pattern_seen) h)

-- those after some of a set have the numbers after theirs
pub patterns-there : (old more all : List SetPattern) → Keeps (old ++ more) all → AllAt (pattern_at (patterns_seen all)) (length old) (map pattern_seen more)
unfolding AllAt
patterns-there old [] all k = tt
patterns-there old (p ∷ more) all k = (
  pattern-there all (length old) p (k (length old) p (get-middle old p more)),
  subst (λ n. AllAt (pattern_at (patterns_seen all)) n (map pattern_seen more)) (length-pushed old p)
      (patterns-there (old ++ p ∷ []) more all (λ n x h. k n x (ap (λ xs. slice_get xs n) (sym (append_assoc old (p ∷ []) more)) ∙ h))),
)

-- ---- the blocks of a program

unfoldable pub blocks_count : List Part → ℕ
blocks_count [] = 0
blocks_count (part ∷ parts) = cond (has_block part.reading) (suc (blocks_count parts)) (blocks_count parts)

suc-out : (m n : ℕ) → suc (m + n) ≡ suc m + n
suc-out m n = omega arith

count-append : (xs ys : List Part) → blocks_count (xs ++ ys) ≡ blocks_count xs + blocks_count ys
unfolding blocks_count
count-append [] ys = omega arith
count-append (x ∷ xs) ys =
    elim (has_block x.reading) as (λ t. cond t (suc (blocks_count (xs ++ ys))) (blocks_count (xs ++ ys)) ≡ cond t (suc (blocks_count xs)) (blocks_count xs) + blocks_count ys)
    [ true ↦ ap suc (count-append xs ys) ∙ suc-out (blocks_count xs) (blocks_count ys) | false ↦ count-append xs ys ]

pub length-append : {A : Type 0} (xs ys : List A) → length (xs ++ ys) ≡ length xs + length ys
length-append [] ys = omega arith
length-append (x ∷ xs) ys = ap suc (length-append xs ys) ∙ suc-out (length xs) (length ys)

own-count : (d : Directive) (r : Option Reading) (block : Forest) (inner : List Forest) (parts : List Part) → blocks_count parts ≡ length inner
    → blocks_count (led_by d r (in_block r parts)) ≡ length (own_blocks (leads r) block inner)
unfolding blocks_count
own-count d None block inner parts e = refl
own-count d (Some reading) block inner parts e =
    elim (has_block reading) as (λ t. cond t (suc (blocks_count (cond t parts []))) (blocks_count (cond t parts [])) ≡ length (cond t (block ∷ inner) []))
    [ true ↦ ap suc e | false ↦ refl ]

pub blocks-count : (known : List ℕ → Bool) (f : Forest) → blocks_count (parts_of known f) ≡ length (blocks_in known f)
unfolding parts_of blocks_in blocks_count
blocks-count known End = refl
blocks-count known (Branch d block beside) =
    let r = reading_by known d.name d.args in
    count-append (led_by d r (in_block r (parts_of known block))) (parts_of known beside)
    ∙ ap₂ (λ m n. m + n) (own-count d r block (blocks_in known block) (parts_of known block) (blocks-count known block)) (blocks-count known beside)
    ∙ sym (length-append (own_blocks (leads r) block (blocks_in known block)) (blocks_in known beside))

-- ---- programs

pub length-map : {A B : Type 0} (f : A → B) (xs : List A) → length (map f xs) ≡ length xs
length-map f [] = refl
length-map f (x ∷ xs) = ap suc (length-map f xs)

no-suc : {A : Type 0} (n : ℕ) → suc n ≡ 0 → A
no-suc n e = absurd (omega (arith, e))

module _ (patterns : List Pattern) (site : Site) where
  abbrev pub V : ℕ → AllValues
  V n = values_seen site (raw_level site n)

  abbrev pub P : ℕ → Pattern
  P n = pattern_at patterns n

  -- the blocks that are left have the numbers from this one on, where they are levels
  abbrev pub Blocks : Option ℕ → Option (List AllValues) → ℕ → Type 0
  Blocks None None count = Unit {0}
  Blocks None (Some vs) count = ⊥
  Blocks (Some n) None count = ⊥
  Blocks (Some n) (Some vs) count = AllAt V n vs × (count ≡ length vs)

  the-block : (level : Option ℕ) (values : Option (List AllValues)) (count : ℕ) → Blocks level values (suc count) → option_map V level ≡ first_values values
  the-block None None count h = refl
  the-block None (Some vs) count h = absurd h
  the-block (Some n) None count h = absurd h
  the-block (Some n) (Some []) count h = no-suc count h.1
  the-block (Some n) (Some (v ∷ vs)) count h = ap Some (the-first V n v vs h.0)

  suc-same : (m n : ℕ) → suc m ≡ suc n → m ≡ n
  suc-same m n e = omega (arith, e)

  one-later : (level : Option ℕ) (values : Option (List AllValues)) (count : ℕ) → Blocks level values (suc count) → Blocks (option_map suc level) (later_values values) count
  one-later None None count h = tt
  one-later None (Some vs) count h = absurd h
  one-later (Some n) None count h = absurd h
  one-later (Some n) (Some []) count h = no-suc count h.1
  one-later (Some n) (Some (v ∷ vs)) count h = (the-others V n v vs h.0, suc-same count (length vs) h.1)

  blocks-later : (level : Option ℕ) (values : Option (List AllValues)) (reading : Reading) (count : ℕ) → Blocks level values (cond (has_block reading) (suc count) count)
      → Blocks (level_after level reading) (values_behind values reading) count
  blocks-later level values reading count =
      elim (has_block reading) as (λ t. Blocks level values (cond t (suc count) count) → Blocks (cond t (option_map suc level) level) (cond t (later_values values) values) count) [
        | true ↦ λ h. one-later level values count h
        | false ↦ λ h. h
      ]

  test-shown : (number : ℕ) (test : RawTest) → AllAt P number (map pattern_seen (patterns_in_test test)) → test_seen patterns (test_at number test) ≡ test_shown test
  test-shown number (tests.IsSet variable) h = refl
  test-shown number (tests.Equals variable text) h = refl
  test-shown number (tests.Matches variable pattern) h = ap (Matches variable) (the-first P number (pattern_shown pattern) [] h)
  test-shown number (tests.OnFile test path) h = refl

  step-shown : (number block count : ℕ) (level : Option ℕ) (values : Option (List AllValues)) (raw : RawStep) → AllAt P number (map pattern_seen (patterns_in raw))
      → Blocks level values (cond (is_if raw) (suc count) count) → step_seen patterns site (step_at number block level raw) ≡ step_shown block (first_values values) raw
  step-shown number block count level values (steps.Set name text) h k = refl
  step-shown number block count level values (steps.If condition) h k =
      ap₂ (λ t v. If t condition.negated block v) (test-shown number condition.test h) (the-block level values count k)
  step-shown number block count level values (steps.Rewrite pattern to is_url flag) h k =
      ap (λ p. Rewrite p to is_url (flag_seen flag)) (the-first P number (pattern_shown pattern) [] h)
  step-shown number block count level values (steps.Return code text) h k = refl
  step-shown number block count level values steps.Stop h k = refl

  reading-shown : (number block count : ℕ) (level : Option ℕ) (values : Option (List AllValues)) (reading : Reading) → AllAt P number (map pattern_seen (patterns_by reading))
      → Blocks level values (cond (has_block reading) (suc count) count) → map (step_seen patterns site) (step_by number level block reading) ≡ reading_shown block (first_values values) reading
  reading-shown number block count level values (Wrong kind) h k = refl
  reading-shown number block count level values (Step raw) h k = ap (λ s. s ∷ []) (step-shown number block count level values raw h k)

  pub steps-shown : (number : ℕ) (level : Option ℕ) (values : Option (List AllValues)) (parts : List Part) → AllAt P number (map pattern_seen (flat_map patterns_at parts))
      → Blocks level values (blocks_count parts) → map (step_seen patterns site) (steps_from number level parts) ≡ program_of values parts
  unfolding steps_from program_of blocks_count
  steps-shown number level values [] h k = refl
  steps-shown number level values (part ∷ parts) h k =
      let r = part.reading in
      let split : AllAt P number (map pattern_seen (patterns_by r) ++ map pattern_seen (flat_map patterns_at parts)) =
      subst (AllAt P number) (map-append pattern_seen (patterns_by r) (flat_map patterns_at parts)) h in
      let later : AllAt P (number + length (patterns_by r)) (map pattern_seen (flat_map patterns_at parts)) =
      subst (λ n. AllAt P (number + n) (map pattern_seen (flat_map patterns_at parts))) (length-map pattern_seen (patterns_by r)) (at-later P number (map pattern_seen (patterns_by r)) (map pattern_seen (flat_map patterns_at parts)) split) in
      map-append (step_seen patterns site) (step_by number level part.block r) (steps_from (number + length (patterns_by r)) (level_after level r) parts)
      ∙ ap₂ (λ xs ys. xs ++ ys)
      (reading-shown number part.block (blocks_count parts) level values r (at-first P number (map pattern_seen (patterns_by r)) (map pattern_seen (flat_map patterns_at parts)) split) k)
      (steps-shown (number + length (patterns_by r)) (level_after level r) (values_behind values r) parts later (blocks-later level values r (blocks_count parts) k))

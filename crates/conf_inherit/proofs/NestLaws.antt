-- Locations in a list, each with its depth, as those that are in others.
use Rattle.std.proofs.Common.{◌≡◌, ℕ, ◌+◌, ◌≤◌, nat_lt, true, false, List, [], ◌∷◌, ◌++◌, cond, refl, ap, ◌∙◌, arith}
use Rattle.std.proofs.lemmas.Bool.Decides.{nat_tests}
use Rattle.site_model.specs.declared.site.Location.{Location as CodeLocation}
use Rattle.conf_inherit.specs.declared.site.Built.{Built}
use Rattle.site_views.specs.Views.{LocationView, Locations}
use Rattle.site_views.specs.Views.Locations.{NoMore, Location}
use Rattle.site_whole.specs.Whole.{Nested, inside, outside, nested, locations_whole}
use Rattle.site_whole.specs.Whole.Nested.{NoneLeft, Nest}
use Rattle.conf_inherit.specs.Pools.{follow, list_seen, AreDeep, patterns_in, location_built}

-- ---- one list after another

unfoldable after : Nested → Nested → Nested
after NoneLeft g = g
after (Nest l inner later) g = Nest l inner (after later g)

-- the first is no deeper
abbrev BeginsAt : ℕ → Nested → Type 0
BeginsAt d NoneLeft = Unit {0}
BeginsAt d (Nest l inner later) = nat_lt d l.depth ≡ false

inside-begin : (d : ℕ) (g : Nested) → BeginsAt d g → inside d g ≡ NoneLeft
unfolding inside
inside-begin d NoneLeft h = refl
inside-begin d (Nest l inner later) h = ap (λ t. cond t (Nest l inner (inside d later)) NoneLeft) h

outside-begin : (d : ℕ) (g : Nested) → BeginsAt d g → outside d g ≡ g
unfolding outside
outside-begin d NoneLeft h = refl
outside-begin d (Nest l inner later) h = ap (λ t. cond t (outside d later) (Nest l inner later)) h

inside-after : (d : ℕ) (f g : Nested) → BeginsAt d g → inside d (after f g) ≡ inside d f
unfolding inside after
inside-after d NoneLeft g h = inside-begin d g h
inside-after d (Nest l inner later) g h = ap (λ f. cond (nat_lt d l.depth) (Nest l inner f) NoneLeft) (inside-after d later g h)

outside-after : (d : ℕ) (f g : Nested) → BeginsAt d g → outside d (after f g) ≡ after (outside d f) g
unfolding outside after
outside-after d NoneLeft g h = outside-begin d g h
outside-after d (Nest l inner later) g h =
    elim (nat_lt d l.depth) as (λ t. cond t (outside d (after later g)) (Nest l inner (after later g)) ≡ after (cond t (outside d later) (Nest l inner later)) g) [
      | true ↦ outside-after d later g h
      | false ↦ refl
    ]

no-deeper : (d e k : ℕ) → k ≤ d → d ≤ e → nat_lt e k ≡ false
no-deeper d e k p q = grind (arith, nat_tests)

nested-after : (d : ℕ) (xs : List CodeLocation) (l : CodeLocation) (ys : List CodeLocation) → AreDeep d xs → l.depth ≤ d → nested (xs ++ l ∷ ys) ≡ after (nested xs) (nested (l ∷ ys))
unfolding nested after
nested-after d [] l ys h e = refl
nested-after d (x ∷ xs) l ys h e =
    let begins : BeginsAt x.depth (nested (l ∷ ys)) = no-deeper d x.depth l.depth e h.0 in
    ap (λ f. Nest x (inside x.depth f) (outside x.depth f)) (nested-after d xs l ys h.1 e)
    ∙ ap (λ f. Nest x f (outside x.depth (after (nested xs) (nested (l ∷ ys))))) (inside-after x.depth (nested xs) (nested (l ∷ ys)) begins)
    ∙ ap (λ f. Nest x (inside x.depth (nested xs)) f) (outside-after x.depth (nested xs) (nested (l ∷ ys)) begins)

-- ---- one with those in it

abbrev Deeper : ℕ → Nested → Type 0
Deeper d NoneLeft = Unit {0}
Deeper d (Nest l inner later) = (nat_lt d l.depth ≡ true) × Deeper d later

all-inside : (d : ℕ) (f : Nested) → Deeper d f → inside d f ≡ f
unfolding inside
all-inside d NoneLeft h = refl
all-inside d (Nest l inner later) h = ap (λ t. cond t (Nest l inner (inside d later)) NoneLeft) h.0 ∙ ap (Nest l inner) (all-inside d later h.1)

none-outside : (d : ℕ) (f : Nested) → Deeper d f → outside d f ≡ NoneLeft
unfolding outside
none-outside d NoneLeft h = refl
none-outside d (Nest l inner later) h = ap (λ t. cond t (outside d later) (Nest l inner later)) h.0 ∙ none-outside d later h.1

deeper-outside : (d e : ℕ) (f : Nested) → Deeper d f → Deeper d (outside e f)
unfolding outside
deeper-outside d e NoneLeft h = tt
deeper-outside d e (Nest l inner later) h =
    elim (nat_lt e l.depth) as (λ t. Deeper d (cond t (outside e later) (Nest l inner later))) [
      | true ↦ deeper-outside d e later h.1
      | false ↦ h
    ]

is-deeper : (d k : ℕ) → d + 1 ≤ k → nat_lt d k ≡ true
is-deeper d k h = grind (arith, nat_tests)

deeper-nested : (d : ℕ) (xs : List CodeLocation) → AreDeep (d + 1) xs → Deeper d (nested xs)
unfolding nested
deeper-nested d [] h = tt
deeper-nested d (x ∷ xs) h = (is-deeper d x.depth h.0, deeper-outside d x.depth (nested xs) (deeper-nested d xs h.1))

nested-with : (l : CodeLocation) (inner : List CodeLocation) → AreDeep (l.depth + 1) inner → nested (l ∷ inner) ≡ Nest l (nested inner) NoneLeft
unfolding nested
nested-with l inner h =
    let deeper = deeper-nested l.depth inner h in
    ap (λ f. Nest l f (outside l.depth (nested inner))) (all-inside l.depth (nested inner) deeper) ∙ ap (Nest l (nested inner)) (none-outside l.depth (nested inner) deeper)

-- ---- what they are seen as

whole-after : (b : Built) (f g : Nested) → locations_whole (patterns_in b) b.site (after f g) ≡ follow (locations_whole (patterns_in b) b.site f) (locations_whole (patterns_in b) b.site g)
unfolding locations_whole after follow
whole-after b NoneLeft g = refl
whole-after b (Nest l inner later) g = ap (Location (location_built b l) (locations_whole (patterns_in b) b.site inner)) (whole-after b later g)

whole-nest : (b : Built) (l : CodeLocation) (f : Nested) → locations_whole (patterns_in b) b.site (Nest l f NoneLeft) ≡ Location (location_built b l) (locations_whole (patterns_in b) b.site f) NoMore
unfolding locations_whole
whole-nest b l f = refl

pub seen-none : (b : Built) → list_seen b [] ≡ NoMore
unfolding locations_whole nested
seen-none b = refl

pub seen-more : (b : Built) (d : ℕ) (xs : List CodeLocation) (l : CodeLocation) (inner : List CodeLocation) → AreDeep d xs → l.depth ≡ d → AreDeep (d + 1) inner
    → list_seen b (xs ++ l ∷ inner) ≡ follow (list_seen b xs) (Location (location_built b l) (list_seen b inner) NoMore)
seen-more b d xs l inner h e k =
    let within : AreDeep (l.depth + 1) inner = rw e k in
    ap (locations_whole (patterns_in b) b.site) (nested-after d xs l inner h (omega (arith, e)) ∙ ap (after (nested xs)) (nested-with l inner within))
    ∙ whole-after b (nested xs) (Nest l (nested inner) NoneLeft) ∙ ap (follow (list_seen b xs)) (whole-nest b l (nested inner))

pub follow-none : (a : Locations) → follow a NoMore ≡ a
unfolding follow
follow-none NoMore = refl
follow-none (Location here inner later) = ap (Location here inner) (follow-none later)

pub follow-first : (others : Locations) → follow NoMore others ≡ others
unfolding follow
follow-first others = refl

follow-then : (a b c : Locations) → follow (follow a b) c ≡ follow a (follow b c)
unfolding follow
follow-then NoMore b c = refl
follow-then (Location here inner later) b c = ap (Location here inner) (follow-then later b c)

follow-one : (a inner others : Locations) (here : LocationView) → follow (follow a (Location here inner NoMore)) others ≡ follow a (Location here inner others)
unfolding follow
follow-one a inner others here = follow-then a (Location here inner NoMore) others

pub seen-one : (b : Built) (d : ℕ) (xs : List CodeLocation) (l : CodeLocation) (inner : List CodeLocation) (others : Locations) → AreDeep d xs → l.depth ≡ d → AreDeep (d + 1) inner
    → follow (list_seen b (xs ++ l ∷ inner)) others ≡ follow (list_seen b xs) (Location (location_built b l) (list_seen b inner) others)
seen-one b d xs l inner others h e k =
    ap (λ a. follow a others) (seen-more b d xs l inner h e k) ∙ follow-one (list_seen b xs) (list_seen b inner) others (location_built b l)

-- ---- depths

pub deep-append : (d : ℕ) (xs ys : List CodeLocation) → AreDeep d xs → AreDeep d ys → AreDeep d (xs ++ ys)
deep-append d [] ys h k = k
deep-append d (x ∷ xs) ys h k = (h.0, deep-append d xs ys h.1 k)

pub deep-weaker : (d : ℕ) (xs : List CodeLocation) → AreDeep (d + 1) xs → AreDeep d xs
deep-weaker d [] h = tt
deep-weaker d (x ∷ xs) h = (omega (arith, h.0), deep-weaker d xs h.1)

pub deep-one : (d : ℕ) (l : CodeLocation) (inner : List CodeLocation) → l.depth ≡ d → AreDeep (d + 1) inner → AreDeep d (l ∷ inner)
deep-one d l inner e h = (omega (arith, e), deep-weaker d inner h)

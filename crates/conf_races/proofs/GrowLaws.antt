-- Lists that others are added to, and the numbers that stand for lines in them.
use Rattle.std.proofs.Common.{◌≡◌, ℕ, eqb, Bool, true, false, List, [], ◌∷◌, ◌++◌, length, Option, Some, unwrap_or, slice_get, refl, sym, ap, ◌∙◌, append_assoc, append-nil, arith}
use Rattle.std.proofs.lemmas.Bool.{eqb-true, false≢true}
use Rattle.source_lines.specs.declared.line.Line.{Line}
use Rattle.conf_inherit.specs.Values.{own_or, has_items}
use Rattle.conf_block.specs.Forest.{Forest}
use Rattle.race_places.specs.Places.{Origins, LevelOrigins, list_at}
use Rattle.conf_races.specs.Origins.{Outer, Grows, server_level, locations_in, named_in}

pub grows_none : (l : List (List Line)) → Grows l l
grows_none l = ([], sym (append-nil l))

pub grows_both : (a b c : List (List Line)) → Grows a b → Grows b c → Grows a c
grows_both a b c p q = (p.0 ++ q.0, q.1 ∙ ap (λ x. x ++ q.0) p.1 ∙ append_assoc a p.0 q.0)

pub grows_one : (old new : List (List Line)) (x : List Line) → new ≡ old ++ x ∷ [] → Grows old new
grows_one old new x e = (x ∷ [], e)

-- ---- the list that is added last

last_at : (old : List (List Line)) (x : List Line) (more : List (List Line)) → slice_get ((old ++ x ∷ []) ++ more) (length old) ≡ Some x
last_at [] x more = refl
last_at (y ∷ ys) x more = last_at ys x more

pub own_there : (old new later : List (List Line)) (own x : List Line) (outer : Option ℕ) (number n : ℕ) → number ≡ length old → new ≡ old ++ x ∷ [] → x ≡ own → length own ≡ n → eqb n 0 ≡ false → Grows new later
    → list_at later (Some number) ≡ own_or has_items own (list_at later outer)
own_there old new later own x outer number n is e same long some grows =
    ap (λ l. unwrap_or (slice_get l number) []) (grows.1 ∙ ap (λ l. l ++ grows.0) e)
    ∙ ap (λ k. unwrap_or (slice_get ((old ++ x ∷ []) ++ grows.0) k) []) is
    ∙ ap (λ o. unwrap_or o []) (last_at old x grows.0)
    ∙ same
    ∙ by own (ap (λ k. eqb k 0) long ∙ some)
  where
    by : (own : List Line) → eqb (length own) 0 ≡ false → own ≡ own_or has_items own (list_at later outer)
    by [] e = absurd (false≢true (sym e))
    by (x ∷ xs) e = refl

pub outer_there : (own lines : List Line) (n : ℕ) → length own ≡ n → eqb n 0 ≡ true → lines ≡ own_or has_items own lines
outer_there [] lines n long none = refl
outer_there (x ∷ xs) lines n long none = let zero : n ≡ 0 = eqb-true n 0 none in absurd (omega (arith, long, zero))

pub outer_same : (p q : Option Line) (i j g h u v : List Line) → p ≡ q → i ≡ j → g ≡ h → u ≡ v →
    let a : Outer = record { place = p; index = i; pages = g; auth_sets = u } in
    let b : Outer = record { place = q; index = j; pages = h; auth_sets = v } in
    a ≡ b
outer_same p q i j g h u v a b c d = λ k. record { place = a k; index = b k; pages = c k; auth_sets = d k }

pub level_same : (a b : Origins) (x y : List Origins) → a ≡ b → x ≡ y →
    let l : LevelOrigins = record { own = a; blocks = x } in
    let m : LevelOrigins = record { own = b; blocks = y } in
    l ≡ m
level_same a b x y e f = λ k. record { own = e k; blocks = f k }

-- a server's own level, then those of its locations, then those of its locations `@name`
pub levels_added : (known : List ℕ → Bool) (o inner : Outer) (block : Forest) (one two last : List LevelOrigins) → one ≡ server_level known inner block ∷ [] → two ≡ one ++ locations_in known inner block → last ≡ two ++ named_in known inner block → inner ≡ o
    → last ≡ server_level known o block ∷ (locations_in known o block ++ named_in known o block)
levels_added known o inner block one two last a b c is =
    c ∙ ap (λ l. l ++ named_in known inner block) (b ∙ ap (λ l. l ++ locations_in known inner block) a)
    ∙ ap (λ o. server_level known o block ∷ (locations_in known o block ++ named_in known o block)) is

-- A path begins with its root.
use Rattle.std.proofs.Common.{◌≡◌, ℕ, suc, ◌-◌, Bool, true, false, not, ◌&&◌, cond, List, [], ◌∷◌, ◌++◌, length, take, slice_get, eqb, refl, sym, ◌∙◌, ap, subst, append_assoc, append-nil, arith}
use Rattle.std.proofs.lemmas.Bool.{cond-true, cond-false, false≢true}
use Rattle.ngx_variables.specs.declared.request.FileRoot.{FileRoot}
use Rattle.ngx_variables.specs.declared.request.FileRoot.TheVariants.{Root, Rest, Whole}
use Rattle.ngx_variables.specs.Grammar.{begins_with}
use Rattle.ngx_variables.specs.Paths.{is_slash, without_last_slash, merged, start, without_prefix, joined}
use Rattle.ngx_variables.specs.Texts.{is_too_long}
use Rattle.std.specs.Str.{is_utf8}
use Rattle.file_path.specs.Located.{Located, has_dots, has_nul, can_stand, at_path, located}
use Rattle.file_path.specs.Located.Located.{TooLong, NotThere, At}
use Rattle.file_path.specs.Laws.{given, added, root_of, StaysIn, PathsStayInRoot}

-- a list goes on after its front
record IsFront (front whole : List ℕ) : Type 0 where
  rest : List ℕ
  behind : whole ≡ front ++ rest

cond_cons : (t : Bool) (b : ℕ) (xs ys : List ℕ) → cond t (b ∷ xs) (b ∷ ys) ≡ b ∷ cond t xs ys
cond_cons true b xs ys = refl
cond_cons false b xs ys = refl

-- what comes before a text of some bytes doesn't matter for its last slash
last_behind : (b d : ℕ) (xs : List ℕ) → without_last_slash (b ∷ d ∷ xs) ≡ b ∷ without_last_slash (d ∷ xs)
unfolding without_last_slash
last_behind b d xs =
    let outer : length (b ∷ d ∷ xs) - 1 ≡ suc (length xs) = omega arith in
    let inner : length (d ∷ xs) - 1 ≡ length xs = omega arith in
    rw outer (rw inner (cond_cons (is_slash (slice_get (d ∷ xs) (length xs))) b (take (length xs) (d ∷ xs)) (d ∷ xs)))

-- some byte stays
record Some_byte (xs : List ℕ) : Type 0 where
  first : ℕ
  others : List ℕ
  is : xs ≡ first ∷ others

merged_some : (b : ℕ) (bs : List ℕ) → Some_byte (merged (b ∷ bs))
unfolding merged
merged_some b [] = elim (eqb b 47) as (λ t. Some_byte (cond (t && false) [] (b ∷ []))) [
  | true ↦ record { first = b; others = []; is = refl }
  | false ↦ record { first = b; others = []; is = refl }
]
merged_some b (c ∷ bs) = elim (eqb b 47 && eqb c 47) as (λ t. Some_byte (cond t (merged (c ∷ bs)) (b ∷ merged (c ∷ bs)))) [
  | true ↦ merged_some c bs
  | false ↦ record { first = b; others = merged (c ∷ bs); is = refl }
]

last_behind_some : (b : ℕ) (xs : List ℕ) → Some_byte xs → without_last_slash (b ∷ xs) ≡ b ∷ without_last_slash xs
last_behind_some b xs some = rw some.is (last_behind b some.first some.others)

-- one byte more before a front of some bytes and its whole
front_behind : (b : ℕ) (xs ys : List ℕ) → Some_byte xs → Some_byte ys → IsFront (without_last_slash xs) (without_last_slash ys) → IsFront (without_last_slash (b ∷ xs)) (without_last_slash (b ∷ ys))
front_behind b xs ys x y f = record {
  rest = f.rest;
  behind = last_behind_some b ys y ∙ (ap (λ t. b ∷ t) f.behind ∙ ap (λ t. t ++ f.rest) (sym (last_behind_some b xs x)));
}

-- a byte alone that is no slash, before a text
alone : (b : ℕ) → eqb b 47 ≡ false → without_last_slash (b ∷ []) ≡ b ∷ []
unfolding without_last_slash
alone b h = cond-false _ _ _ h

front_of_byte : (b : ℕ) (xs : List ℕ) → eqb b 47 ≡ false → IsFront (without_last_slash (b ∷ [])) (without_last_slash (b ∷ xs))
front_of_byte b [] h = record { rest = []; behind = sym (append-nil (without_last_slash (b ∷ []))) }
front_of_byte b (d ∷ xs) h = record { rest = without_last_slash (d ∷ xs); behind = last_behind b d xs ∙ ap (λ t. t ++ without_last_slash (d ∷ xs)) (sym (alone b h)) }

-- nothing is a front of all
front_of_none : (front whole : List ℕ) → front ≡ [] → IsFront front whole
front_of_none front whole e = record { rest = whole; behind = ap (λ t. t ++ whole) (sym e) }

none_of_none : without_last_slash [] ≡ []
unfolding without_last_slash
none_of_none = refl

none_of_slash : (b : ℕ) → eqb b 47 ≡ true → without_last_slash (b ∷ []) ≡ []
unfolding without_last_slash
none_of_slash b h = cond-true _ _ _ h

merged_alone : (b : ℕ) → merged (b ∷ []) ≡ b ∷ []
unfolding merged
merged_alone b = elim (eqb b 47) as (λ t. cond (t && false) [] (b ∷ []) ≡ b ∷ []) [ true ↦ refl | false ↦ refl ]

merged_byte : (b : ℕ) (bs : List ℕ) → eqb b 47 ≡ false → merged (b ∷ bs) ≡ b ∷ merged bs
unfolding merged
merged_byte b bs h = ap (λ t. cond (t && begins_with 47 bs) (merged bs) (b ∷ merged bs)) h

front_of_first : (b : ℕ) (bs : List ℕ) → IsFront (without_last_slash (merged (b ∷ []))) (without_last_slash (merged (b ∷ bs)))
front_of_first b bs =
    elim (eqb b 47) as (λ t. eqb b 47 ≡ t → IsFront (without_last_slash (merged (b ∷ []))) (without_last_slash (merged (b ∷ bs)))) [
      | true ↦ λ h. front_of_none _ _ (ap without_last_slash (merged_alone b) ∙ none_of_slash b h)
      | false ↦ λ h. rw (merged_alone b) (rw (merged_byte b bs h) (front_of_byte b (merged bs) h))
    ] refl

merged_front : (front rest : List ℕ) → IsFront (without_last_slash (merged front)) (without_last_slash (merged (front ++ rest)))
unfolding merged
merged_front [] rest = front_of_none _ _ none_of_none
merged_front (b ∷ []) rest = front_of_first b rest
merged_front (b ∷ c ∷ bs) rest = elim (eqb b 47 && eqb c 47) as (λ t. IsFront (without_last_slash (cond t (merged (c ∷ bs)) (b ∷ merged (c ∷ bs)))) (without_last_slash (cond t (merged (c ∷ (bs ++ rest))) (b ∷ merged (c ∷ (bs ++ rest)))))) [
  | true ↦ merged_front (c ∷ bs) rest
  | false ↦ front_behind b (merged (c ∷ bs)) (merged (c ∷ (bs ++ rest))) (merged_some c bs) (merged_some c (bs ++ rest)) (merged_front (c ∷ bs) rest)
]

-- the joined path is the root with what the URI adds
joined_is : (place : FileRoot) (text uri folder : List ℕ) → joined place text uri folder ≡ without_last_slash (merged (given place text folder ++ added place uri))
unfolding joined
joined_is (Root value) text uri folder = ap (λ t. without_last_slash (merged t)) (sym (append_assoc (start folder text) (without_last_slash text) uri))
joined_is (Rest value prefix) text uri folder = ap (λ t. without_last_slash (merged t)) (sym (append_assoc (start folder text) text (without_prefix prefix uri)))
joined_is (Whole value) text uri folder = ap (λ t. without_last_slash (merged t)) (sym (append-nil (start folder text ++ text)))

-- what a path at which a file can be lacks
no_dots : (path : List ℕ) → can_stand path ≡ true → has_dots path ≡ false
unfolding can_stand
no_dots path h = elim (has_dots path) as (λ t. (not t && (not (has_nul path) && is_utf8 path)) ≡ true → t ≡ false) [
  | true ↦ λ e. absurd (false≢true e)
  | false ↦ λ e. refl
] h

no_nul : (path : List ℕ) → can_stand path ≡ true → has_nul path ≡ false
unfolding can_stand
no_nul path h = elim (has_dots path) as (λ t. (not t && (not (has_nul path) && is_utf8 path)) ≡ true → has_nul path ≡ false) [
  | true ↦ λ e. absurd (false≢true e)
  | false ↦ λ e. elim (has_nul path) as (λ t. (not t && is_utf8 path) ≡ true → t ≡ false) [
    | true ↦ λ e. absurd (false≢true e)
    | false ↦ λ e. refl
  ] e
] h

stays_in : (place : FileRoot) (text uri folder : List ℕ) → can_stand (joined place text uri folder) ≡ true → StaysIn (root_of place text folder) (joined place text uri folder)
unfolding root_of
stays_in place text uri folder h =
    let front = merged_front (given place text folder) (added place uri) in record {
      rest = front.rest;
      behind = joined_is place text uri folder ∙ front.behind;
      no_dots = no_dots (joined place text uri folder) h;
      no_nul = no_nul (joined place text uri folder) h;
    }

-- the path that is found
path_in : Located → List ℕ
path_in TooLong = []
path_in NotThere = []
path_in (At path) = path

is_at : Located → Bool
is_at TooLong = false
is_at NotThere = false
is_at (At path) = true

at_joined : (p path : List ℕ) → at_path p ≡ At path → (can_stand p ≡ true) × (p ≡ path)
unfolding path_in is_at
at_joined p path h = elim (can_stand p) as (λ t. cond t (At p) NotThere ≡ At path → (t ≡ true) × (p ≡ path)) [
  | true ↦ λ e. (refl, ap path_in e)
  | false ↦ λ e. absurd (false≢true (ap is_at e))
] h

found_at : (place : FileRoot) (text uri folder path : List ℕ) → located place text uri folder ≡ At path → (can_stand (joined place text uri folder) ≡ true) × (joined place text uri folder ≡ path)
unfolding located is_at
found_at place text uri folder path h = elim (is_too_long text) as (λ t. cond t TooLong (at_path (joined place text uri folder)) ≡ At path → (can_stand (joined place text uri folder) ≡ true) × (joined place text uri folder ≡ path)) [
  | true ↦ λ e. absurd (false≢true (ap is_at e))
  | false ↦ λ e. at_joined (joined place text uri folder) path e
] h

pub paths_stay_in_root : PathsStayInRoot
paths_stay_in_root place text uri folder path e =
    let found = found_at place text uri folder path e in
    subst (StaysIn (root_of place text folder)) found.1 (stays_in place text uri folder found.0)

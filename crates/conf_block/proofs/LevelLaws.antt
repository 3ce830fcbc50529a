-- What is looked for in a level, directive by directive.
use Rattle.std.proofs.Common.{◌≡◌, ℕ, Bool, true, false, List, [], ◌∷◌, ◌++◌, Option, None, Some, is_some, MatchOption, cond, bytes_eq, refl, sym, ap, ◌∙◌, append_assoc, append-nil}
use Rattle.std.specs.Prelude.{codes}
use Rattle.conf_text.specs.declared.directive.Directive.{Directive}
use Rattle.http_types.specs.declared.words.Addr.{Addr}
use Rattle.conf_block.specs.Forest.{Forest, End, Branch, roots, forest_of}
use Rattle.conf_block.specs.Blocks.{Block, block_with, blocks_of, from_first, first_of, body_in, http_in}
use Rattle.conf_block.specs.Roles.{role_of}
use Rattle.conf_block.specs.Listening.{in_front, address_by, listens_of}
use Rattle.conf_block.proofs.ForestLaws.{forest-none}

-- the blocks of a name

pub blocks-none : (name : List ℕ) (f : Forest) → f ≡ End → blocks_of name f ≡ []
unfolding blocks_of
blocks-none name f e = ap (blocks_of name) e

blocks-branch : (name : List ℕ) (d : Directive) (block beside : Forest) → blocks_of name (Branch d block beside) ≡ cond (bytes_eq d.name name) (block_with d block ∷ blocks_of name beside) (blocks_of name beside)
unfolding blocks_of
blocks-branch name d block beside = refl

pub blocks-here : (name : List ℕ) (d : Directive) (f block beside : Forest) → f ≡ Branch d block beside → bytes_eq d.name name ≡ true → blocks_of name f ≡ block_with d block ∷ blocks_of name beside
blocks-here name d f block beside e t =
    ap (blocks_of name) e ∙ blocks-branch name d block beside ∙ ap (λ t. cond t (block_with d block ∷ blocks_of name beside) (blocks_of name beside)) t

pub blocks-beside : (name : List ℕ) (d : Directive) (f block beside : Forest) → f ≡ Branch d block beside → bytes_eq d.name name ≡ false → blocks_of name f ≡ blocks_of name beside
blocks-beside name d f block beside e t =
    ap (blocks_of name) e ∙ blocks-branch name d block beside ∙ ap (λ t. cond t (block_with d block ∷ blocks_of name beside) (blocks_of name beside)) t

-- from the first on that passes a test

pub first-none : (test : Directive → Bool) (f : Forest) → f ≡ End → from_first test f ≡ End
unfolding from_first
first-none test f e = ap (from_first test) e

from-branch : (test : Directive → Bool) (d : Directive) (block beside : Forest) → from_first test (Branch d block beside) ≡ cond (test d) (Branch d block beside) (from_first test beside)
unfolding from_first
from-branch test d block beside = refl

pub first-here : (test : Directive → Bool) (d : Directive) (f block beside : Forest) → f ≡ Branch d block beside → test d ≡ true → from_first test f ≡ Branch d block beside
first-here test d f block beside e t =
    ap (from_first test) e ∙ from-branch test d block beside ∙ ap (λ t. cond t (Branch d block beside) (from_first test beside)) t

pub first-beside : (test : Directive → Bool) (d : Directive) (f block beside : Forest) → f ≡ Branch d block beside → test d ≡ false → from_first test f ≡ from_first test beside
first-beside test d f block beside e t =
    ap (from_first test) e ∙ from-branch test d block beside ∙ ap (λ t. cond t (Branch d block beside) (from_first test beside)) t

-- the directives of a level

pub roots-none : (f : Forest) → f ≡ End → roots f ≡ []
unfolding roots
roots-none f e = ap roots e

pub roots-branch : (d : Directive) (f block beside : Forest) → f ≡ Branch d block beside → roots f ≡ d ∷ roots beside
unfolding roots
roots-branch d f block beside e = ap roots e

-- the addresses of a level

in_front-append : (addr : Option Addr) (xs ys : List Addr) → in_front addr (xs ++ ys) ≡ in_front addr xs ++ ys
in_front-append None xs ys = refl
in_front-append (Some addr) xs ys = refl

pub listens-branch : (d : Directive) (now then : List Addr) (addr : Option Addr) (f block beside : Forest) → f ≡ Branch d block beside → addr ≡ address_by (role_of d.name) d
    → then ≡ now ++ in_front addr [] → then ++ listens_of (roots beside) ≡ now ++ listens_of (roots f)
listens-branch d now then addr f block beside e a n =
    ap (λ xs. xs ++ listens_of (roots beside)) n ∙ append_assoc now (in_front addr []) (listens_of (roots beside))
    ∙ ap (λ xs. now ++ xs) (sym (in_front-append addr [] (listens_of (roots beside))) ∙ ap (λ o. in_front o (listens_of (roots beside))) a ∙ sym (ap listens_of (roots-branch d f block beside e)))

pub listens-none : (now : List Addr) (f : Forest) → f ≡ End → now ++ listens_of (roots f) ≡ now
listens-none now f e = ap (λ ds. now ++ listens_of ds) (roots-none f e) ∙ append-nil now

-- the first of some

pub some-by : {A B : Type 0} (r : Option A) (bs : List B) (first : A → B) (more : A → List B) → MatchOption r (bs ≡ []) (λ a. bs ≡ first a ∷ more a) → is_some r ≡ is_some (first_of bs)
some-by None bs first more h = ap (λ bs. is_some (first_of bs)) (sym h)
some-by (Some a) bs first more h = ap (λ bs. is_some (first_of bs)) (sym h)

-- what is in `http`

pub http-none : (top : Forest) → blocks_of (codes "http") top ≡ [] → forest_of [] ≡ http_in top
http-none top e = forest-none ∙ ap (λ bs. body_in (first_of bs)) (sym e)

pub http-some : (top : Forest) (d : Directive) (body : Forest) (more : List Block) → blocks_of (codes "http") top ≡ block_with d body ∷ more → body ≡ http_in top
http-some top d body more e = ap (λ bs. body_in (first_of bs)) (sym e)

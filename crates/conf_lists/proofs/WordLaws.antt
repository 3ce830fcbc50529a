-- Lists of words, and what is pushed after others.
use Rattle.std.proofs.Common.{◌≡◌, ℕ, List, [], ◌∷◌, ◌++◌, map, Option, None, Some, option_map, length, refl, sym, ap, ◌∙◌}
use Rattle.std.proofs.lemmas.List.{map_push}
use Rattle.conf_text.specs.declared.directive.Directive.{Directive}
use Rattle.conf_block.specs.Forest.{Forest, End, Branch, roots}
use Rattle.conf_block.specs.Roles.{role_of}
use Rattle.conf_lists.specs.Words.{front_of, last_of, one}
use Rattle.conf_lists.specs.Lists.{Lists, with_role, lists_in}
use Rattle.conf_lists.proofs.HostLaws.{roots-none, roots-branch}

-- ---- the last word

front-push : (words : List (List ℕ)) (word : List ℕ) → front_of (words ++ word ∷ []) ≡ words
unfolding front_of
front-push [] word = refl
front-push (a ∷ []) word = refl
front-push (a ∷ b ∷ words) word = ap (λ ws. a ∷ ws) (front-push (b ∷ words) word)

last-push : (words : List (List ℕ)) (word : List ℕ) → last_of (words ++ word ∷ []) ≡ Some word
unfolding last_of
last-push [] word = refl
last-push (a ∷ []) word = refl
last-push (a ∷ b ∷ words) word = last-push (b ∷ words) word

pub last-is : (all words : List (List ℕ)) (word : List ℕ) → all ≡ words ++ word ∷ [] → last_of all ≡ Some word
last-is all words word e = ap last_of e ∙ last-push words word

pub front-is : (all words : List (List ℕ)) (word : List ℕ) → all ≡ words ++ word ∷ [] → front_of all ≡ words
front-is all words word e = ap front_of e ∙ front-push words word

pub last-none : (all : List (List ℕ)) → length all ≡ 0 → last_of all ≡ None
unfolding last_of
last-none [] e = refl
last-none (a ∷ all) e = cc

-- ---- one more

pub pushed : {A C : Type 0} (seen : A → C) (items now : List A) (x : A) (c : C) → now ≡ items ++ x ∷ [] → seen x ≡ c → map seen now ≡ map seen items ++ c ∷ []
pushed seen items now x c e s = ap (map seen) e ∙ map_push seen items x ∙ ap (λ c. map seen items ++ c ∷ []) s

pub pushed-one : {A C : Type 0} (seen : A → C) (items now : List A) (o : Option A) (x : A) → o ≡ Some x → now ≡ items ++ x ∷ [] → map seen now ≡ map seen items ++ one (option_map seen o)
pushed-one seen items now o x e n = pushed seen items now x (seen x) n refl ∙ ap (λ o. map seen items ++ one (option_map seen o)) (sym e)

-- ---- the lists of a level, directive by directive

pub lists-none : (f : Forest) (l : Lists) → f ≡ End → lists_in (roots f) l ≡ l
unfolding lists_in
lists-none f l e = ap (λ ds. lists_in ds l) (roots-none f e)

lists-step : (d : Directive) (ds : List Directive) (l : Lists) → lists_in (d ∷ ds) l ≡ lists_in ds (with_role (role_of d.name) d l)
unfolding lists_in
lists-step d ds l = refl

pub lists-branch : (f : Forest) (d : Directive) (block beside : Forest) (l now : Lists) → f ≡ Branch d block beside → now ≡ with_role (role_of d.name) d l → lists_in (roots beside) now ≡ lists_in (roots f) l
lists-branch f d block beside l now e n = ap (lists_in (roots beside)) n ∙ sym (lists-step d (roots beside) l) ∙ ap (λ ds. lists_in ds l) (sym (roots-branch d f block beside e))

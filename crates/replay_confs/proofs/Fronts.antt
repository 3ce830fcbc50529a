-- Fronts of texts, and paths below folders.
use Rattle.std.proofs.Common.{◌≡◌, ◌≢◌, ℕ, Bool, true, false, cond, eqb, List, [], ◌∷◌, ◌++◌, Option, None, Some, refl, sym, ap, ◌∙◌, arith, Bor}
use Rattle.std.proofs.lemmas.Bool.Decides.{nat_tests}
use Rattle.std.specs.Prelude.{MatchOption, option_map}
use Rattle.replay_confs.specs.Paths.{behind, front_of, below}

same_byte : {A : Type 0} (b : ℕ) (x y : A) → cond (eqb b b) x y ≡ x
same_byte b x y = let t : eqb b b ≡ true = grind (arith, nat_tests) in ap (λ c. cond c x y) t

-- a text begins with each of its fronts
pub behind_front : (front rest : List ℕ) → behind front (front ++ rest) ≡ Some rest
behind_front [] rest = refl
behind_front (b ∷ front) rest = same_byte b (behind front (front ++ rest)) None ∙ behind_front front rest

pub behind_is : (front text rest : List ℕ) → behind front text ≡ Some rest → text ≡ front ++ rest
behind_is [] text rest e = cc
behind_is (b ∷ front) [] rest e = cc
behind_is (b ∷ front) (c ∷ text) rest e = go (eqb b c) refl e (behind_is front text rest)
  where
    go : (t : Bool) → eqb b c ≡ t → cond t (behind front text) None ≡ Some rest → (behind front text ≡ Some rest → text ≡ front ++ rest) → c ∷ text ≡ b ∷ (front ++ rest)
    go true is f more = let same : b ≡ c = grind (arith, nat_tests) in let later = more f in cc
    go false is f more = cc

pub behind_none : (front text : List ℕ) → ((rest : List ℕ) → text ≢ front ++ rest) → behind front text ≡ None
behind_none front text none = go (behind front text) refl
  where
    go : (r : Option (List ℕ)) → behind front text ≡ r → r ≡ None
    go None e = refl
    go (Some rest) e = absurd (none rest (behind_is front text rest e))

-- what a search for a front answers
pub behind_found : (front text : List ℕ) (r : Option (Bor (List ℕ))) → MatchOption r ((rest : List ℕ) → text ≢ front ++ rest) (λ x. text ≡ front ++ x.now) → option_map {T = Bor (List ℕ)} (λ x. x.now) r ≡ behind front text
behind_found front text None m = sym (behind_none front text m)
behind_found front text (Some x) m = sym (ap (behind front) m ∙ behind_front front x.now)

-- one front after another
abbrev pub behind_then : Option (List ℕ) → List ℕ → Option (List ℕ)
behind_then None next = None
behind_then (Some rest) next = behind next rest

pub behind_both : (front next text : List ℕ) → behind (front ++ next) text ≡ behind_then (behind front text) next
behind_both [] next text = refl
behind_both (b ∷ front) next [] = refl
behind_both (b ∷ front) next (c ∷ text) = go (eqb b c) (behind_both front next text)
  where
    go : (t : Bool) → behind (front ++ next) text ≡ behind_then (behind front text) next → cond t (behind (front ++ next) text) None ≡ behind_then (cond t (behind front text) None) next
    go true more = more
    go false more = refl

-- a path below a folder, or not
is_below : (folder path : List ℕ) (r : Option (List ℕ)) → behind (front_of folder) path ≡ r → below folder path ≡ behind_then r (47 ∷ [])
is_below folder path r e = behind_both (front_of folder) (47 ∷ []) path ∙ ap (λ x. behind_then x (47 ∷ [])) e

pub below_none : (folder path front : List ℕ) (r : Option (Bor (List ℕ))) → front ≡ front_of folder → option_map {T = Bor (List ℕ)} (λ x. x.now) r ≡ behind front path → r ≡ None → None ≡ below folder path
below_none folder path front r f e none =
    sym (is_below folder path None (ap (λ x. behind x path) (sym f) ∙ sym e ∙ ap (option_map {T = Bor (List ℕ)} (λ x. x.now)) none))

pub below_some : (folder path front slash : List ℕ) (r : Option (Bor (List ℕ))) (rest : Bor (List ℕ)) (s : Option (Bor (List ℕ))) → front ≡ front_of folder → option_map {T = Bor (List ℕ)} (λ x. x.now) r ≡ behind front path → r ≡ Some rest → slash ≡ 47 ∷ [] →
    option_map {T = Bor (List ℕ)} (λ x. x.now) s ≡ behind slash rest.now → option_map {T = Bor (List ℕ)} (λ x. x.now) s ≡ below folder path
below_some folder path front slash r rest s f e some is next =
    next ∙ ap (λ x. behind x rest.now) is ∙ sym (is_below folder path (Some rest.now) (ap (λ x. behind x path) (sym f) ∙ sym e ∙ ap (option_map {T = Bor (List ℕ)} (λ x. x.now)) some))

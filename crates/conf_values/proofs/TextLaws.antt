-- A text more in a set.
use Rattle.std.proofs.Common.{◌≡◌, ℕ, Bool, true, false, ◌||◌, List, [], ◌∷◌, bytes_eq, refl, sym, ap, ◌∙◌}
use Rattle.std.specs.declared.vec.Vec.{Vec}
use Rattle.std.specs.declared.cmp.Ordering.{Ordering}
use Rattle.std.specs.declared.cmp.Ordering.TheVariants.{Less, Equal, Greater}
use Rattle.std.specs.Ordering.{nat_cmp, is_eq, match_ordering}
use Rattle.std.specs.Cmp.Lexicographic.{slice_cmp}
use Rattle.std.specs.List.{list_any}
use Rattle.std.specs.BTreeSet.{BTreeSet, insert_key}
use Rattle.std.proofs.lemmas.Map.Text.{is_eq-slice_cmp}
use Rattle.std.proofs.lemmas.Slice.Eq.{bytes_eq-Decides}
use Rattle.conf_values.specs.TextSet.{holds}

true_twice : (p q : Bool) → p ≡ q → (r : Bool) → (q || r) ≡ (p || (q || r))
true_twice true q e r = ap (λ q. q || r) (sym e)
true_twice false q e r = refl

swapped : (p q r : Bool) → (q || (p || r)) ≡ (p || (q || r))
swapped true true r = refl
swapped true false r = refl
swapped false true r = refl
swapped false false r = refl

any-insert_at : {K : Type 0} (cmp : K → K → Ordering) (P : K → Bool) (k x : K) (xs : List K) (o : Ordering) → cmp k x ≡ o → (o ≡ Equal → P k ≡ P x)
    → list_any P (insert_key cmp xs k) ≡ (P k || list_any P xs)
    → list_any P (match_ordering o (k ∷ x ∷ xs) (x ∷ xs) (x ∷ insert_key cmp xs k)) ≡ (P k || (P x || list_any P xs))
any-insert_at cmp P k x xs Less e same more = refl
any-insert_at cmp P k x xs Equal e same more = true_twice (P k) (P x) (same refl) (list_any P xs)
any-insert_at cmp P k x xs Greater e same more = ap (λ r. P x || r) more ∙ swapped (P k) (P x) (list_any P xs)

any-insert : {K : Type 0} (cmp : K → K → Ordering) (P : K → Bool) (k : K) → ((x : K) → cmp k x ≡ Equal → P k ≡ P x) → (xs : List K)
    → list_any P (insert_key cmp xs k) ≡ (P k || list_any P xs)
any-insert cmp P k same [] = refl
any-insert cmp P k same (x ∷ xs) = any-insert_at cmp P k x xs (cmp k x) refl (same x) (any-insert cmp P k same xs)

same_items : (a b : List ℕ) → slice_cmp nat_cmp a b ≡ Equal → a ≡ b
same_items a b e = (bytes_eq-Decides a b).0 (sym (is_eq-slice_cmp a b) ∙ ap is_eq e)

pub text-added : {A : Type 0} (old new : BTreeSet (Vec ℕ A)) (key : Vec ℕ A) (text : List ℕ)
    → new.keys ≡ insert_key (λ a b. slice_cmp nat_cmp a.items b.items) old.keys key → key.items ≡ text → (t : List ℕ) → holds new t ≡ (bytes_eq t text || holds old t)
unfolding holds
text-added {A} old new key text e k t =
    let P : Vec ℕ A → Bool = λ key. is_eq (slice_cmp nat_cmp t key.items) in
    ap (list_any P) e ∙ any-insert (λ (a b : Vec ℕ A). slice_cmp nat_cmp a.items b.items) P key (λ x o. ap (λ items. is_eq (slice_cmp nat_cmp t items)) (same_items key.items x.items o)) old.keys
    ∙ ap (λ b. b || list_any P old.keys) (is_eq-slice_cmp t key.items ∙ ap (bytes_eq t) k)

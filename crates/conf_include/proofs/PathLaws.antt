-- Where a path's last slash is.
use Rattle.std.proofs.Common.{◌≡◌, ℕ, suc, ◌+◌, ◌<◌, Bool, true, false, cond, eqb, List, [], ◌∷◌, ◌++◌, length, get_or, take, refl, ap, sym, ◌∙◌, arith, add-one}
use Rattle.std.proofs.lemmas.List.{take_more, length-take-le}
use Rattle.conf_include.specs.Paths.{end_behind, slash_end}

by_test : (c n m : ℕ) (t : Bool) → end_behind c (cond t (n + 1) m) ≡ cond t (suc n + 1) (end_behind c m)
by_test c n m true = rw (add-one, add-one) refl
by_test c n m false = refl

slash_end-push : (bs : List ℕ) (b : ℕ) → slash_end (bs ++ b ∷ []) ≡ cond (eqb b 47) (length bs + 1) (slash_end bs)
unfolding slash_end
slash_end-push [] b = refl
slash_end-push (c ∷ bs) b = ap (end_behind c) (slash_end-push bs b) ∙ by_test c (length bs) (slash_end bs) (eqb b 47)

pub end_none : slash_end [] ≡ 0
unfolding slash_end
end_none = refl

-- one byte more
pub end_more : (path : List ℕ) (i d was now : ℕ) → i < length path → was ≡ slash_end (take i path) → now ≡ cond (eqb (get_or path i d) 47) (i + 1) was → now ≡ slash_end (take (i + 1) path)
end_more path i d was now inside so_far is =
    is
    ∙ ap (λ w. cond (eqb (get_or path i d) 47) (i + 1) w) so_far
    ∙ ap (λ n. cond (eqb (get_or path i d) 47) (n + 1) (slash_end (take i path))) (sym (length-take-le i path (omega arith)))
    ∙ sym (ap slash_end (take_more path i d inside) ∙ slash_end-push (take i path) (get_or path i d))

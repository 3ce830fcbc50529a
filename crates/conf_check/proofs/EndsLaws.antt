-- Addresses as keys of a set.
use Rattle.std.proofs.Common.{◌≡◌, ℕ, nat_lt, ◌==◌, Bool, true, false, cond, ◌&&◌, ◌||◌, refl, ap, ◌∙◌, arith}
use Rattle.std.specs.declared.cmp.Ordering.{Ordering}
use Rattle.std.specs.declared.cmp.Ordering.TheVariants.{Less, Equal, Greater}
use Rattle.std.specs.Ordering.{nat_cmp, is_eq, ordering_then}
use Rattle.std.specs.BTreeMap.{is_at}
use Rattle.std.specs.BTreeSet.{BTreeSet, contains}
use Rattle.std.proofs.lemmas.Bool.Decides.{nat_tests}
use Rattle.http_types.specs.declared.words.Addr.{Addr}
use Rattle.conf_check.specs.Ends.{family_of, bits_of, same_addr}
use Rattle.conf_check.specs.Ends.{Key, key_of, key_cmp, has_end}

below_is_other : (x y : ℕ) → nat_lt x y ≡ true → false ≡ (x == y)
below_is_other x y t = grind (arith, nat_tests)

equal_or_more : (t : Bool) → is_eq (cond t Equal Greater) ≡ t
equal_or_more true = refl
equal_or_more false = refl

tied : (x y : ℕ) → is_eq (nat_cmp x y) ≡ (x == y)
tied x y =
    elim (nat_lt x y) as (λ t. nat_lt x y ≡ t → is_eq (nat_cmp x y) ≡ (x == y)) [
      | true ↦ λ t. ap (λ t. is_eq (cond t Less (cond (x == y) Equal Greater))) t ∙ below_is_other x y t
      | false ↦ λ t. ap (λ t. is_eq (cond t Less (cond (x == y) Equal Greater))) t ∙ equal_or_more (x == y)
    ] refl

tied-then : (o p : Ordering) → is_eq (ordering_then o p) ≡ (is_eq o && is_eq p)
tied-then Less p = refl
tied-then Equal p = refl
tied-then Greater p = refl

pub tied-keys : (a b : Addr) → is_at (key_cmp (key_of a)) (key_of b) ≡ same_addr a b
tied-keys a b =
    tied-then (ordering_then (nat_cmp (family_of a.ip) (family_of b.ip)) (nat_cmp a.port b.port)) (nat_cmp (bits_of a.ip) (bits_of b.ip))
    ∙ ap (λ t. t && is_eq (nat_cmp (bits_of a.ip) (bits_of b.ip))) (tied-then (nat_cmp (family_of a.ip) (family_of b.ip)) (nat_cmp a.port b.port))
    ∙ ap (λ t. (t && is_eq (nat_cmp a.port b.port)) && is_eq (nat_cmp (bits_of a.ip) (bits_of b.ip))) (tied (family_of a.ip) (family_of b.ip))
    ∙ ap (λ t. (family_of a.ip == family_of b.ip && t) && is_eq (nat_cmp (bits_of a.ip) (bits_of b.ip))) (tied a.port b.port)
    ∙ ap (λ t. (family_of a.ip == family_of b.ip && a.port == b.port) && t) (tied (bits_of a.ip) (bits_of b.ip))

true_or : (t b : Bool) → cond t true b ≡ (t || b)
true_or true b = refl
true_or false b = refl

pub end-added : (old new : BTreeSet Key) (addr q : Addr) → contains key_cmp new (key_of q) ≡ cond (is_at (key_cmp (key_of addr)) (key_of q)) true (contains key_cmp old (key_of q))
    → has_end new q ≡ (same_addr addr q || has_end old q)
unfolding has_end
end-added old new addr q e =
    e ∙ ap (λ t. cond t true (contains key_cmp old (key_of q))) (tied-keys addr q) ∙ true_or (same_addr addr q) (contains key_cmp old (key_of q))

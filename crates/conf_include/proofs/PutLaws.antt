-- Directives that are put one after another.
use Rattle.std.proofs.Common.{◌≡◌, ℕ, ◌+◌, zero-add, List, [], ◌∷◌, ◌++◌, Ok, Err, refl, ap, sym, ◌∙◌, append_assoc, append-nil, add_assoc}
use Rattle.conf_text.specs.declared.directive.Directive.{Directive}
use Rattle.conf_text.specs.declared.fault.ConfFault.{ConfFault}
use Rattle.conf_include.specs.Expansion.{Tally, Expansion, ◌>>=◌, deepened, deeper, put_all}
use Rattle.conf_include.specs.Steps.{onto}

deeper-append : (depth : ℕ) (xs ys : List Directive) → deeper depth (xs ++ ys) ≡ deeper depth xs ++ deeper depth ys
deeper-append depth [] ys = refl
deeper-append depth (x ∷ xs) ys = ap (λ l. deepened depth x ∷ l) (deeper-append depth xs ys)

pub deeper-deeper : (a b : ℕ) (xs : List Directive) → deeper a (deeper b xs) ≡ deeper (a + b) xs
deeper-deeper a b [] = refl
deeper-deeper a b (x ∷ xs) = rw (deeper-deeper a b xs, add_assoc a b x.depth) refl

pub deeper_none : (xs : List Directive) → deeper 0 xs ≡ xs
deeper_none [] = refl
deeper_none (x ∷ xs) = rw (deeper_none xs, zero-add x.depth) refl

-- what follows the first, after its directives
abbrev rest_of : {A : Type 0} → (A → Tally → Expansion) → List A → List Directive × Tally → Expansion
rest_of put xs first = put_all put xs first.1 >>= λ rest. Ok (first.0 ++ rest.0, rest.1)

pub all_cons : {A : Type 0} (put : A → Tally → Expansion) (x : A) (xs : List A) (t : Tally) → put_all put (x ∷ xs) t ≡ (put x t >>= rest_of put xs)
unfolding put_all
all_cons put x xs t = refl

pub all_nil : {A : Type 0} (put : A → Tally → Expansion) (t : Tally) → put_all put [] t ≡ Ok ([], t)
unfolding put_all
all_nil put t = refl

onto_rest : (lines first : List Directive) (depth : ℕ) (o : Expansion) → onto lines depth (o >>= λ rest. Ok (first ++ rest.0, rest.1)) ≡ onto (lines ++ deeper depth first) depth o
onto_rest lines first depth (Ok x) =
    ap (λ l. Ok (l, x.1)) (ap (λ l. lines ++ l) (deeper-append depth first x.0) ∙ sym (append_assoc lines (deeper depth first) (deeper depth x.0)))
onto_rest lines first depth (Err e) = refl

value_same : (o : Expansion) (a b : List Directive × Tally) → o ≡ Ok a → o ≡ Ok b → a ≡ b
value_same o a b h k = cc

no_both : (o : Expansion) (a : List Directive × Tally) (e : ConfFault × List (List ℕ)) → o ≡ Ok a → o ≡ Err e → ⊥
no_both o a e h k = cc

go_by : {A : Type 0} (put : A → Tally → Expansion) (xs : List A) (lines now : List Directive) (depth : ℕ) (u : Tally) (o : Expansion) → onto lines depth o ≡ Ok (now, u) → onto lines depth (o >>= rest_of put xs) ≡ onto now depth (put_all put xs u)
go_by put xs lines now depth u (Ok first) is =
    let parts : (lines ++ deeper depth first.0, first.1) ≡ (now, u) = value_same (onto lines depth (Ok first)) (lines ++ deeper depth first.0, first.1) (now, u) refl is in
    onto_rest lines first.0 depth (put_all put xs first.1) ∙ ap (λ (p : List Directive × Tally). onto p.0 depth (put_all put xs p.1)) parts
go_by put xs lines now depth u (Err e) is = absurd (no_both (Err e) (now, u) e is refl)

-- one item was put: the others are left
pub all_go : {A : Type 0} (put : A → Tally → Expansion) (x : A) (xs : List A) (lines now : List Directive) (depth : ℕ) (t u : Tally) → onto lines depth (put x t) ≡ Ok (now, u) → onto lines depth (put_all put (x ∷ xs) t) ≡ onto now depth (put_all put xs u)
all_go put x xs lines now depth t u is = ap (onto lines depth) (all_cons put x xs t) ∙ go_by put xs lines now depth u (put x t) is

stop_by : {A : Type 0} (put : A → Tally → Expansion) (xs : List A) (lines : List Directive) (depth : ℕ) (o : Expansion) (e : ConfFault × List (List ℕ)) → onto lines depth o ≡ Err e → onto lines depth (o >>= rest_of put xs) ≡ Err e
stop_by put xs lines depth (Ok first) e is = absurd (no_both (onto lines depth (Ok first)) (lines ++ deeper depth first.0, first.1) e refl is)
stop_by put xs lines depth (Err f) e is = is

-- one item stopped: so do all
pub all_stop : {A : Type 0} (put : A → Tally → Expansion) (x : A) (xs : List A) (lines : List Directive) (depth : ℕ) (t : Tally) (e : ConfFault × List (List ℕ)) → onto lines depth (put x t) ≡ Err e → onto lines depth (put_all put (x ∷ xs) t) ≡ Err e
all_stop put x xs lines depth t e is = ap (onto lines depth) (all_cons put x xs t) ∙ stop_by put xs lines depth (put x t) e is

-- nothing is left
pub all_done : {A : Type 0} (put : A → Tally → Expansion) (lines : List Directive) (depth : ℕ) (t : Tally) → onto lines depth (put_all put [] t) ≡ Ok (lines, t)
all_done put lines depth t = ap (onto lines depth) (all_nil put t) ∙ ap (λ l. Ok (l, t)) (append-nil lines)

-- files within the blocks of their include
pub onto_deeper : (lines : List Directive) (a b : ℕ) (o : Expansion) → onto lines a (o >>= λ x. Ok (deeper b x.0, x.1)) ≡ onto lines (a + b) o
onto_deeper lines a b (Ok x) = ap (λ l. Ok (lines ++ l, x.1)) (deeper-deeper a b x.0)
onto_deeper lines a b (Err e) = refl

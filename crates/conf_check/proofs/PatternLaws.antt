-- The patterns of the names of a server, one after another.
use Rattle.std.proofs.Common.{◌≡◌, ℕ, suc, ◌+◌, ◌<◌, ◌≤◌, ◌||◌, Bool, true, false, List, [], ◌∷◌, ◌++◌, length, drop, get_or, Option, Some, None, is_some, Result, Ok, refl, sym, ap, subst, ◌∙◌, add-one, drop-cons, if◌then◌else◌}
use Rattle.std.proofs.Math.ListN.{drop_of_length-le}
use Rattle.std.specs.List.{list_any}
use Rattle.ngx_pattern.specs.Pattern.{Pattern}
use Rattle.ngx_pattern.specs.Makers.{Rose}
use Rattle.rewrite_compile.specs.Numbered.{is_bad}
use Rattle.conf_check.specs.declared.patterns.Flaw.{Flaw}
use Rattle.conf_check.specs.declared.patterns.Flaw.TheVariants.{Bad, TooBig}
use Rattle.conf_text.specs.declared.directive.Directive.{Directive}
use Rattle.conf_table.specs.declared.role.Role.{Role}
use Rattle.conf_block.specs.declared.role.Content.{Content}
use Rattle.conf_block.specs.Roles.{role_of, are_directives}
use Rattle.conf_check.specs.declared.error.ReadError.{ReadError}
use Rattle.conf_check.specs.Gives.{faulty}
use Rattle.conf_check.specs.Patterns.{name_pattern, patterns_of_name, name_patterns, patterns_with, bad_among, pattern_fault, Flawed, IsFlaw}

abbrev bad : List Pattern → Bool
bad patterns = list_any is_bad patterns

any-append : (xs ys : List Pattern) → bad (xs ++ ys) ≡ (bad xs || bad ys)
any-append [] ys = refl
any-append (x ∷ xs) ys = ap (λ t. is_bad x || t) (any-append xs ys) ∙ turned (is_bad x) (bad xs) (bad ys)
  where
    turned : (a b c : Bool) → (a || (b || c)) ≡ ((a || b) || c)
    turned true b c = refl
    turned false b c = refl

names-step : (word : List ℕ) (words : List (List ℕ)) → bad (name_patterns (word ∷ words)) ≡ (bad (patterns_of_name (name_pattern word)) || bad (name_patterns words))
unfolding name_patterns
names-step word words = any-append (patterns_of_name (name_pattern word)) (name_patterns words)

-- a name has a flaw: so have all
pub names-flawed : (before now after : ℕ) (left all words : List (List ℕ)) (word : List ℕ) (flaw : Option Flaw) → is_some flaw ≡ true → now ≡ before → bad (name_patterns left) ≡ bad (name_patterns all)
    → left ≡ word ∷ words → Flawed now after (patterns_of_name (name_pattern word)) flaw → Flawed before after (name_patterns all) flaw
names-flawed before now after left all words word None some same e at h = cc
names-flawed before now after left all words word (Some Bad) some same e at h =
    sym e ∙ ap (λ l. bad (name_patterns l)) at ∙ names-step word words ∙ ap (λ t. t || bad (name_patterns words)) h
names-flawed before now after left all words word (Some TooBig) some same e at h = subst (λ n. Rose n after) same h

-- it has none: those that are left decide
pub names-fine : (before now after : ℕ) (left all words : List (List ℕ)) (word : List ℕ) (flaw : Option Flaw) → is_some flaw ≡ false → now ≡ before → bad (name_patterns left) ≡ bad (name_patterns all)
    → left ≡ word ∷ words → Flawed now after (patterns_of_name (name_pattern word)) flaw → (bad (name_patterns words) ≡ bad (name_patterns all)) × (after ≡ before)
names-fine before now after left all words word None none same e at h =
    (sym (ap (λ t. t || bad (name_patterns words)) h.0) ∙ sym (names-step word words) ∙ ap (λ l. bad (name_patterns l)) (sym at) ∙ e, h.1 ∙ same)
names-fine before now after left all words word (Some flaw) none same e at h = cc

pub names-over : (left all : List (List ℕ)) → bad (name_patterns left) ≡ bad (name_patterns all) → left ≡ [] → bad (name_patterns all) ≡ false
unfolding name_patterns
names-over left all e at = sym e ∙ ap (λ l. bad (name_patterns l)) at

-- words by their places

pub next-word : {A : Type 0} (xs : List A) (i : ℕ) (x : A) → i < length xs → x ≡ get_or xs i x → drop i xs ≡ x ∷ drop (i + 1) xs
next-word xs i x h e = drop-cons xs i x h ∙ ap (λ y. y ∷ drop (suc i) xs) (sym e) ∙ ap (λ n. x ∷ drop n xs) (sym (add-one i))

pub no-words : {A : Type 0} (xs : List A) (i : ℕ) → length xs ≤ i → drop i xs ≡ []
no-words xs i h = drop_of_length-le xs h

-- a directive that is among lines, and one that is among directives

pub flaw-elsewhere : (known : List ℕ → Bool) (here : Content) (d : Directive) (before : ℕ) → are_directives here ≡ false → IsFlaw before before (faulty d (pattern_fault known here d)) (Ok tt)
unfolding pattern_fault faulty
flaw-elsewhere known here d before e = (ap (λ t. faulty d (if t then bad_among (patterns_with known (role_of d.name) d) else None)) e, refl)

pub flaw-here : (known : List ℕ → Bool) (here : Content) (d : Directive) (role : Role) (before after : ℕ) (result : Result (Unit {0}) ReadError) → are_directives here ≡ true → role ≡ role_of d.name
    → IsFlaw before after (faulty d (bad_among (patterns_with known role d))) result → IsFlaw before after (faulty d (pattern_fault known here d)) result
unfolding pattern_fault
flaw-here known here d role before after result e r h =
    subst (λ m. IsFlaw before after m result)
    (ap (λ r. faulty d (bad_among (patterns_with known r d))) r ∙ sym (ap (λ t. faulty d (if t then bad_among (patterns_with known (role_of d.name) d) else None)) e)) h

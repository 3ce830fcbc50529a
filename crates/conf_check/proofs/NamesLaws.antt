-- The variables that directives set, directive by directive.
use Rattle.std.proofs.Common.{◌≡◌, ℕ, Bool, true, false, ◌||◌, List, Option, refl, sym, ap, ◌∙◌}
use Rattle.conf_text.specs.declared.directive.Directive.{Directive}
use Rattle.conf_block.specs.declared.role.Content.{Content}
use Rattle.conf_block.specs.Forest.{Forest, End, Branch}
use Rattle.conf_block.specs.Roles.{content_inside}
use Rattle.conf_check.specs.Names.{set_by, is_it, is_set_in}

set-none : (here : Content) (q : List ℕ) → is_set_in here End q ≡ false
unfolding is_set_in
set-none here q = refl

set-branch : (here : Content) (d : Directive) (block beside : Forest) (q : List ℕ)
    → is_set_in here (Branch d block beside) q ≡ (is_it (set_by here d) q || (is_set_in (content_inside here d) block q || is_set_in here beside q))
unfolding is_set_in
set-branch here d block beside q = refl

-- the names so far with those of the directives that are left are the names before with those of the level
abbrev pub StillSet : (first now : List ℕ → Bool) (here : Content) (rest level : Forest) → Type 0
StillSet first now here rest level = (q : List ℕ) → (is_set_in here rest q || now q) ≡ (is_set_in here level q || first q)

moved : (own inner beside now : Bool) → (beside || (inner || (own || now))) ≡ ((own || (inner || beside)) || now)
moved true true true now = refl
moved true true false now = refl
moved true false true now = refl
moved true false false now = refl
moved false true true now = refl
moved false true false now = refl
moved false false true now = refl
moved false false false now = refl

pub set-more : (first now then after : List ℕ → Bool) (here content : Content) (d : Directive) (name : Option (List ℕ)) (rest block beside level : Forest) → rest ≡ Branch d block beside
    → StillSet first now here rest level → name ≡ set_by here d → content ≡ content_inside here d → ((q : List ℕ) → then q ≡ (is_it name q || now q))
    → ((q : List ℕ) → after q ≡ (is_set_in content block q || then q)) → StillSet first after here beside level
set-more first now then after here content d name rest block beside level e same n w t a q =
    ap (λ b. is_set_in here beside q || b) (a q ∙ ap (λ b. is_set_in content block q || b) (t q ∙ ap (λ o. is_it o q || now q) n) ∙ ap (λ w. is_set_in w block q || (is_it (set_by here d) q || now q)) w)
    ∙ moved (is_it (set_by here d) q) (is_set_in (content_inside here d) block q) (is_set_in here beside q) (now q)
    ∙ ap (λ b. b || now q) (sym (set-branch here d block beside q) ∙ ap (λ f. is_set_in here f q) (sym e)) ∙ same q

pub set-end : (first now : List ℕ → Bool) (here : Content) (rest level : Forest) → rest ≡ End → StillSet first now here rest level → (q : List ℕ) → now q ≡ (is_set_in here level q || first q)
set-end first now here rest level e same q = ap (λ b. b || now q) (sym (set-none here q) ∙ ap (λ f. is_set_in here f q) (sym e)) ∙ same q

or-false : (b : Bool) → (b || false) ≡ b
or-false true = refl
or-false false = refl

pub set-all : (names old : List ℕ → Bool) (here : Content) (level : Forest) → ((q : List ℕ) → names q ≡ (is_set_in here level q || old q)) → ((q : List ℕ) → old q ≡ false) → names ≡ is_set_in here level
set-all names old here level h none = λ i q. (h q ∙ ap (λ b. is_set_in here level q || b) (none q) ∙ or-false (is_set_in here level q)) i

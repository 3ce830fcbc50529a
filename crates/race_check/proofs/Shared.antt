-- Lists that levels share, each looked at once.
use Rattle.std.proofs.Common.{◌≡◌, ℕ, zero, suc, ◌<◌, ◌||◌, Bool, true, false, List, [], ◌∷◌, length, get_or, Option, None, Some, option_map, Contains, ◌↔◌, bytes_eq, refl, ap, sym, ◌∙◌, ⊎_elim, arith}
use Rattle.std.specs.List.{list_any}
use Rattle.std.proofs.lemmas.Bool.{cases_Bool, false≢true}
use Rattle.std.proofs.lemmas.List.Folds.{list_any-append}
use Rattle.ngx_variables.specs.Paths.{text_of}
use Rattle.site_model.specs.Levels.{raw_level}
use Rattle.site_model.specs.declared.site.Site.{Site}
use Rattle.site_views.specs.Values.{IndexName, PageRule, Text}
use Rattle.site_whole.specs.Whole.{index_at, pages_at, auth_sets_at, tries_seen, default_index, values_seen}
use Rattle.race_meaning.specs.Reads.{in_text, in_tries, in_target, in_values}
use Rattle.race_meaning.specs.Named.{auth_sets_it}
use Rattle.race_check.specs.declared.listed.ListKind.{ListKind}
use Rattle.race_check.specs.declared.listed.ListKind.TheVariants as kinds
use Rattle.race_check.specs.Lists.{list_number, lists_of, in_list, in_own, sets_by_auth}
use Rattle.race_check.specs.Numbers.{number_of}
use Rattle.race_check.proofs.Lists.{or_false}
use Rattle.race_check.proofs.Deciding.{any_alike}

-- ---- of the same things in another order, each once

pub any_at : {X : Type 0} (p : X → Bool) (xs : List X) (x : X) (k : ℕ) → k < length xs → get_or xs k x ≡ x → p x ≡ true → list_any p xs ≡ true
any_at p [] x k h g e = absurd (omega arith)
any_at p (y ∷ ys) x zero h g e = ap (λ z. p z || list_any p ys) g ∙ ap (λ b. b || list_any p ys) e
any_at p (y ∷ ys) x (suc k) h g e = ap (λ b. p y || b) (any_at p ys x k (omega arith) g e) ∙ or_true (p y)
  where
    or_true : (b : Bool) → (b || true) ≡ true
    or_true true = refl
    or_true false = refl

pub any_from : {X : Type 0} (p : X → Bool) (xs : List X) → list_any p xs ≡ true → (x : X) × Contains xs x × (p x ≡ true)
any_from p [] e = absurd (false≢true e)
any_from p (y ∷ ys) e = ⊎_elim
    (λ (hit : p y ≡ true). (y, (0, omega arith, refl), hit))
    (λ (miss : p y ≡ false).
    let r = any_from p ys (ap (λ b. b || list_any p ys) (sym miss) ∙ e) in
    (r.0, (suc r.1.0, omega (arith, r.1.1), r.1.2), r.2))
    (cases_Bool (p y))

by_both : (a b : Bool) → (a ≡ true → b ≡ true) → (b ≡ true → a ≡ true) → a ≡ b
by_both true b f g = sym (f refl)
by_both false true f g = g refl
by_both false false f g = refl

any_kept : {X : Type 0} (p : X → Bool) (xs ys : List X) → ((x : X) → Contains xs x → Contains ys x) → list_any p xs ≡ true → list_any p ys ≡ true
any_kept p xs ys c e =
    let r = any_from p xs e in
    let there = c r.0 r.1 in
    any_at p ys r.0 there.0 there.1 there.2 r.2

pub any_both : {X : Type 0} (p : X → Bool) (xs ys : List X) → ((x : X) → Contains xs x ↔ Contains ys x) → list_any p xs ≡ list_any p ys
any_both p xs ys c = by_both (list_any p xs) (list_any p ys) (any_kept p xs ys (λ x. (c x).0)) (any_kept p ys xs (λ x. (c x).1))

-- ---- of two things

any_or : {X : Type 0} (f g : X → Bool) (xs : List X) → list_any (λ x. f x || g x) xs ≡ (list_any f xs || list_any g xs)
any_or f g [] = refl
any_or f g (x ∷ xs) = ap (λ b. (f x || g x) || b) (any_or f g xs) ∙ mixed (f x) (g x) (list_any f xs) (list_any g xs)
  where
    mixed : (a b c d : Bool) → ((a || b) || (c || d)) ≡ ((a || c) || (b || d))
    mixed true b c d = refl
    mixed false true true d = refl
    mixed false true false d = refl
    mixed false false c d = refl

-- the tries before the index names
moved : (p i t g u : Bool) → ((((p || i) || t) || g) || u) ≡ ((((p || t) || i) || g) || u)
moved true i t g u = refl
moved false true true g u = refl
moved false true false g u = refl
moved false false true g u = refl
moved false false false g u = refl

-- ---- of levels, by the numbers of their lists

module _ (site : Site) where
  any_listed : (kind : ListKind) (f g : ℕ → Bool) → ((n : ℕ) → f n ≡ list_any g (number_of (list_number kind (raw_level site n)))) → (levels : List ℕ) → list_any f levels ≡ list_any g (lists_of site kind levels)
  any_listed kind f g e [] = refl
  any_listed kind f g e (n ∷ ns) =
      let here = number_of (list_number kind (raw_level site n)) in
      ap (λ b. b || list_any f ns) (e n) ∙ ap (λ b. list_any g here || b) (any_listed kind f g e ns) ∙ sym (list_any-append g here (lists_of site kind ns))

  module _ (name : List ℕ) where
    index_by : (o : Option ℕ) → list_any (λ (i : IndexName). in_text name i.text) (index_at site o) ≡ list_any (in_list site kinds.Index name) (number_of o)
    unfolding default_index in_text
    index_by None = refl
    index_by (Some n) = sym (or_false (in_list site kinds.Index name n))

    pages_by : (o : Option ℕ) → list_any (λ (r : PageRule). in_target name r.target) (pages_at site o) ≡ list_any (in_list site kinds.Pages name) (number_of o)
    pages_by None = refl
    pages_by (Some n) = sym (or_false (in_list site kinds.Pages name n))

    texts_by : (o : Option ℕ) → list_any (λ (s : List ℕ × Text). in_text name s.1) (auth_sets_at site o) ≡ list_any (in_list site kinds.AuthSets name) (number_of o)
    texts_by None = refl
    texts_by (Some n) = sym (or_false (in_list site kinds.AuthSets name n))

    sets_by : (o : Option ℕ) → list_any (λ (s : List ℕ × Text). bytes_eq s.0 name) (auth_sets_at site o) ≡ list_any (sets_by_auth site name) (number_of o)
    sets_by None = refl
    sets_by (Some n) = sym (or_false (sets_by_auth site name n))

    abbrev own : ℕ → Bool
    own n = in_own name (raw_level site n)

    abbrev listed : ListKind → ℕ → Bool
    listed kind n = list_any (in_list site kind name) (number_of (list_number kind (raw_level site n)))

    values_by : (n : ℕ) → in_values name (values_seen site (raw_level site n)) ≡ (((own n || listed kinds.Index n) || listed kinds.Pages n) || listed kinds.AuthSets n)
    unfolding in_values values_seen
    values_by n =
        let l = raw_level site n in
        let place = in_text name (text_of l.place) in
        let tries = in_tries name (option_map tries_seen l.tries) in
        let pages = list_any (λ (r : PageRule). in_target name r.target) (pages_at site l.pages) in
        let texts = list_any (λ (s : List ℕ × Text). in_text name s.1) (auth_sets_at site l.auth_sets) in
        ap (λ b. (((place || b) || tries) || pages) || texts) (index_by l.index)
        ∙ ap (λ b. (((place || listed kinds.Index n) || tries) || b) || texts) (pages_by l.pages)
        ∙ ap (λ b. (((place || listed kinds.Index n) || tries) || listed kinds.Pages n) || b) (texts_by l.auth_sets)
        ∙ moved place (listed kinds.Index n) tries (listed kinds.Pages n) (listed kinds.AuthSets n)

    abbrev of_kind : ListKind → List ℕ → Bool
    of_kind kind levels = list_any (in_list site kind name) (lists_of site kind levels)

    kind_of : (kind : ListKind) (levels : List ℕ) → list_any (listed kind) levels ≡ of_kind kind levels
    kind_of kind levels = any_listed kind (listed kind) (in_list site kind name) (λ n. refl) levels

    pub read_once : (levels : List ℕ) → list_any (λ n. in_values name (values_seen site (raw_level site n))) levels
        ≡ (((list_any own levels || of_kind kinds.Index levels) || of_kind kinds.Pages levels) || of_kind kinds.AuthSets levels)
    read_once levels =
        any_alike (λ n. in_values name (values_seen site (raw_level site n))) (λ n. ((own n || listed kinds.Index n) || listed kinds.Pages n) || listed kinds.AuthSets n) values_by levels
        ∙ any_or (λ n. (own n || listed kinds.Index n) || listed kinds.Pages n) (listed kinds.AuthSets) levels
        ∙ ap (λ b. b || list_any (listed kinds.AuthSets) levels)
        (any_or (λ n. own n || listed kinds.Index n) (listed kinds.Pages) levels
        ∙ ap (λ b. b || list_any (listed kinds.Pages) levels) (any_or own (listed kinds.Index) levels ∙ ap (λ b. list_any own levels || b) (kind_of kinds.Index levels))
        ∙ ap (λ b. (list_any own levels || of_kind kinds.Index levels) || b) (kind_of kinds.Pages levels))
        ∙ ap (λ b. ((list_any own levels || of_kind kinds.Index levels) || of_kind kinds.Pages levels) || b) (kind_of kinds.AuthSets levels)

    set_seen : (n : ℕ) → auth_sets_it name (values_seen site (raw_level site n)) ≡ list_any (sets_by_auth site name) (number_of (list_number kinds.AuthSets (raw_level site n)))
    unfolding values_seen
    set_seen n = sets_by (raw_level site n).auth_sets

    pub set_once : (levels : List ℕ) → list_any (λ n. auth_sets_it name (values_seen site (raw_level site n))) levels ≡ list_any (sets_by_auth site name) (lists_of site kinds.AuthSets levels)
    set_once levels = any_listed kinds.AuthSets (λ n. auth_sets_it name (values_seen site (raw_level site n))) (sets_by_auth site name) set_seen levels

-- Names of a server, one after another.
use Rattle.std.proofs.Math.ListN.{drop_of_length-le}
use Rattle.std.proofs.Common.{◌≡◌, ◌<◌, ◌+◌, ◌≤◌, ℕ, suc, add-one, drop-cons, Bool, true, false, cond, List, [], ◌∷◌, ◌++◌, length, drop, map, Option, Some, None, unwrap_or, get_or, refl, sym, ap, ◌∙◌, append_assoc, append-nil}
use Rattle.std.proofs.lemmas.List.{map_push}
use Rattle.std.specs.List.{slice_get}
use Rattle.ngx_variables.specs.Grammar.{lowercase}
use Rattle.ngx_pattern.specs.Pattern.{Pattern as SetPattern, as_pattern}
use Rattle.pattern_search.specs.Found.{patterns_seen}
use Rattle.site_model.specs.declared.site.ServerName.{ServerName as CodeName}
use Rattle.site_views.specs.Views.{ServerName}
use Rattle.site_views.specs.Views.ServerName.{Like}
use Rattle.site_views.specs.Pattern.{Pattern}
use Rattle.site_views.specs.Views.Matching.{Regex}
use Rattle.site_model.specs.declared.site.LocationKind.{LocationKind}
use Rattle.site_model.specs.declared.site.LocationKind.TheVariants as kinds
use Rattle.site_whole.specs.Whole.{pattern_at, name_seen, matching_by}
use Rattle.std.specs.Prelude.{bytes_eq, codes}
use Rattle.conf_block.specs.Locations.{text_in}
use Rattle.conf_values.specs.Words.{begins_with}
use Rattle.conf_check.specs.Patterns.{name_pattern, regex_case}
use Rattle.conf_inherit.specs.Built.{plain_kind, matching_with, matching_of}
use Rattle.conf_lists.specs.Hosts.{plain_name, name_of}
use Rattle.conf_inherit.specs.Pools.{Keeps, AreNamed}
use Rattle.conf_inherit.proofs.SiteLaws.{keeps-then}
use Rattle.conf_inherit.proofs.ProgramLaws.{pattern-there}

none-some : {A : Type 0} {x : A} → ◌≡◌ {A = Option A} None (Some x) → ⊥
none-some h = cc

-- a pattern, or another name

pub name-like : (word text : List ℕ) (all : List SetPattern) (number : ℕ) → name_pattern word ≡ Some text → slice_get all number ≡ Some (as_pattern text true) → Like (pattern_at (patterns_seen all) number) ≡ name_of word
unfolding name_of
name-like word text all number e h =
    elim (begins_with 126 word) as (λ t. cond t (Some (drop 1 word)) None ≡ Some text → Like (pattern_at (patterns_seen all) number) ≡ cond t (Like (record { text = drop 1 word; nocase = true })) (plain_name (lowercase word))) [
      | true ↦ λ k. ap Like (pattern-there all number (as_pattern text true) h ∙ ap (λ o. record { text = unwrap_or o []; nocase = true }) (sym k))
      | false ↦ λ k. absurd (none-some k)
    ] e

some-none : {A : Type 0} {x : A} → ◌≡◌ {A = Option A} (Some x) None → ⊥
some-none h = cc

pub name-plain : (word : List ℕ) (name : ServerName) → name_pattern word ≡ None → name ≡ plain_name (lowercase word) → name ≡ name_of word
unfolding name_of
name-plain word name e h =
    elim (begins_with 126 word) as (λ t. cond t (Some (drop 1 word)) None ≡ None → name ≡ cond t (Like (record { text = drop 1 word; nocase = true })) (plain_name (lowercase word))) [
      | true ↦ λ k. absurd (some-none k)
      | false ↦ λ k. h
    ] e

-- the names so far, and those that are left

pub record NamesSoFar (old new : List SetPattern) (before after : List CodeName) (left names : List ServerName) : Type 0 where
  pub kept : Keeps old new
  pub seen : (all : List SetPattern) → Keeps new all → map (name_seen (patterns_seen all)) after ++ left ≡ map (name_seen (patterns_seen all)) before ++ names

pub names-begin : (patterns : List SetPattern) (names : List CodeName) (all : List ServerName) → NamesSoFar patterns patterns names names all all
names-begin patterns names all = record { kept = λ n x h. h; seen = λ set k. refl }

pub names-empty : (patterns : List SetPattern) (names : List CodeName) (all : List ServerName) → names ≡ [] → NamesSoFar patterns patterns [] names all all
names-empty patterns names all e = record { kept = λ n x h. h; seen = λ set k. ap (λ xs. map (name_seen (patterns_seen set)) xs ++ all) e }

pub names-one : (old new then : List SetPattern) (before after pushed : List CodeName) (x : CodeName) (name : ServerName) (left more names : List ServerName) → NamesSoFar old new before after left names
    → Keeps new then → pushed ≡ after ++ x ∷ [] → left ≡ name ∷ more → ((all : List SetPattern) → Keeps then all → name_seen (patterns_seen all) x ≡ name) → NamesSoFar old then before pushed more names
names-one old new then before after pushed x name left more names s k p l e = record {
  kept = keeps-then old new then s.kept k;
  seen = λ all h.
      let view = map (name_seen (patterns_seen all)) in
      ap (λ xs. view xs ++ more) p ∙ ap (λ xs. xs ++ more) (map_push (name_seen (patterns_seen all)) after x)
      ∙ append_assoc (view after) (name_seen (patterns_seen all) x ∷ []) more
      ∙ ap (λ y. view after ++ y ∷ more) (e all h) ∙ ap (λ ys. view after ++ ys) (sym l) ∙ s.seen all (keeps-then new then all k h);
}

pub names-some : (old new then : List SetPattern) (before after later : List CodeName) (some left more names : List ServerName) → NamesSoFar old new before after left names
    → AreNamed new then after later some → left ≡ some ++ more → NamesSoFar old then before later more names
names-some old new then before after later some left more names s a l = record {
  kept = keeps-then old new then s.kept a.kept;
  seen = λ all h.
      let view = map (name_seen (patterns_seen all)) in
      ap (λ xs. xs ++ more) (a.seen all h) ∙ append_assoc (view after) some more ∙ ap (λ ys. view after ++ ys) (sym l) ∙ s.seen all (keeps-then new then all a.kept h);
}

pub names-over : (old new : List SetPattern) (before after : List CodeName) (left names : List ServerName) → NamesSoFar old new before after left names → left ≡ [] → AreNamed old new before after names
names-over old new before after left names s e = record {
  kept = s.kept;
  seen = λ all h. sym (append-nil (map (name_seen (patterns_seen all)) after)) ∙ ap (λ ys. map (name_seen (patterns_seen all)) after ++ ys) (sym e) ∙ s.seen all h;
}

-- words by their places

pub next-word : {A : Type 0} (xs : List A) (i : ℕ) (x : A) → i < length xs → x ≡ get_or xs i x → drop i xs ≡ x ∷ drop (i + 1) xs
next-word xs i x h e = drop-cons xs i x h ∙ ap (λ y. y ∷ drop (suc i) xs) (sym e) ∙ ap (λ n. x ∷ drop n xs) (sym (add-one i))

pub no-words : {A : Type 0} (xs : List A) (i : ℕ) → length xs ≤ i → drop i xs ≡ []
no-words xs i h = drop_of_length-le xs h

-- how a location is matched: by a pattern, or by its text

pub location-like : (words : List (List ℕ)) (text : List ℕ) (nocase : Bool) (all : List SetPattern) (number : ℕ) → Some nocase ≡ regex_case words → text ≡ text_in words
    → slice_get all number ≡ Some (as_pattern text nocase) → Regex (pattern_at (patterns_seen all) number) ≡ matching_of words
location-like words text nocase all number e t h =
    ap Regex (pattern-there all number (as_pattern text nocase) h) ∙ ap (λ x. Regex (record { text = x; nocase = nocase })) t ∙ ap (λ o. matching_with o words) e

same-plain : (words : List (List ℕ)) (text : List ℕ) (patterns : List Pattern) → matching_by patterns text (plain_kind words) ≡ matching_by [] text (plain_kind words)
unfolding plain_kind
same-plain [] text patterns = refl
same-plain (word ∷ []) text patterns = refl
same-plain (modifier ∷ word ∷ words) text patterns =
    elim (bytes_eq modifier (codes "=")) as (λ t. matching_by patterns text (cond t kinds.Exactly (cond (bytes_eq modifier (codes "^~")) kinds.FirmPrefix kinds.Prefix)) ≡ matching_by [] text (cond t kinds.Exactly (cond (bytes_eq modifier (codes "^~")) kinds.FirmPrefix kinds.Prefix))) [
      | true ↦ refl
      | false ↦ elim (bytes_eq modifier (codes "^~")) as (λ t. matching_by patterns text (cond t kinds.FirmPrefix kinds.Prefix) ≡ matching_by [] text (cond t kinds.FirmPrefix kinds.Prefix)) [ true ↦ refl | false ↦ refl ]
    ]

pub location-plain : (words : List (List ℕ)) (kind : LocationKind) (patterns : List Pattern) → None ≡ regex_case words → kind ≡ plain_kind words → matching_by patterns (text_in words) kind ≡ matching_of words
location-plain words kind patterns e k =
    ap (matching_by patterns (text_in words)) k ∙ same-plain words (text_in words) patterns ∙ ap (λ o. matching_with o words) e

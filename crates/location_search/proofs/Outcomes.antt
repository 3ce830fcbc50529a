-- What a search of a list comes to, by what its look-ups find.
use Rattle.std.proofs.Common.{◌≡◌, ℕ, ◌<◌, nat_lt, Bool, true, false, not, List, Option, Some, None, option_map, cond, refl, sym, ap, ◌∙◌, arith}
use mathlib.Core.Bool.{true≢false}
use Rattle.std.proofs.lemmas.Bool.Decides.{nat_tests}
use Rattle.ngx_pattern.specs.Pattern.{Pattern as SetPattern}
use Rattle.pattern_search.specs.site_model.declared.site.Site.{Site}
use Rattle.pattern_search.specs.site_views.Pattern.{Span, groups_in}
use Rattle.pattern_search.specs.site_views.Views.{LevelView}
use Rattle.pattern_search.specs.site_views.Search.{Found, Sought, LongestPrefix, Candidates, plain, matched, decided, by_prefix, by_regex}
use Rattle.pattern_search.specs.Found.{patterns_seen}
use Rattle.location_search.specs.Found.{found_seen, found_of, sought_seen, below, remembering, goes_on, with_groups}
use Rattle.location_search.specs.declared.node.Node.{Node}
use Rattle.location_search.specs.declared.search.Sought.{Sought as CodeSought}
use Rattle.location_search.specs.declared.search.Sought.TheVariants.{Ends, Remembers}
use Rattle.location_search.proofs.Seeks.{level}

-- a number below the bound stays
pub below-is : (bound number : ℕ) → number < bound → below bound (Some number) ≡ Some number
below-is bound number lt =
    let yes : nat_lt number bound ≡ true = grind (arith, nat_tests) in
    ap (λ b. cond b (Some number) None) yes

module _ (ps : List SetPattern) (site : Site) (path : List ℕ) (nodes : List Node) where
  abbrev pub view : List Span → CodeSought → Sought
  view spans s = sought_seen (patterns_seen ps) site path spans s

  abbrev pub lev : ℕ → LevelView
  lev n = level ps site path nodes n

  -- what is found in the end
  pub found-is : (spans : List Span) (s : CodeSought) → option_map (found_seen (patterns_seen ps) site path spans) (found_of s) ≡ (view spans s).found
  found-is spans (Ends f) = refl
  found-is spans (Remembers None) = refl
  found-is spans (Remembers (Some n)) = refl

  -- an exact location ends the search
  pub exact-ends : (c : Candidates) (o : Option ℕ) (own : ℕ) (spans : List Span) → c.exact ≡ option_map (λ n. plain (lev n)) o → o ≡ Some own →
      view spans (Ends (record { level = own; matched = false })) ≡ decided c
  exact-ends c o own spans e is =
      sym (ap (λ x. elim x [ Some found ↦ record { ends = true; found = Some found } | None ↦ by_prefix c.prefix c.regex ]) (e ∙ ap (option_map (λ n. plain (lev n))) is))

  pub no-exact : (c : Candidates) (o : Option ℕ) → c.exact ≡ option_map (λ n. plain (lev n)) o → o ≡ None → decided c ≡ by_prefix c.prefix c.regex
  no-exact c o e is =
      ap (λ x. elim x [ Some found ↦ record { ends = true; found = Some found } | None ↦ by_prefix c.prefix c.regex ]) (e ∙ ap (option_map (λ n. plain (lev n))) is)

  -- what is remembered, as the meaning has it
  abbrev pub kept_of : CodeSought → Option Found
  kept_of (Ends f) = None
  kept_of (Remembers level) = option_map (λ n. plain (lev n)) level

  -- a longest prefix, by what its inner list comes to
  module _ (p : LongestPrefix) (own : ℕ) (spans : List Span) (regex : Option Found) where
    abbrev of_prefix : Sought → Sought
    of_prefix inner = by_prefix (Some (record { size = p.size; firm = p.firm; level = lev own; inner = inner })) regex

    pub prefix-ends : (inner : CodeSought) → goes_on (remembering (Some own) inner) p.firm ≡ false →
        view spans (remembering (Some own) inner) ≡ of_prefix (view spans inner)
    prefix-ends (Ends f) h = refl
    prefix-ends (Remembers None) h =
        elim p.firm as (λ b. not b ≡ false → view spans (Remembers (Some own))
        ≡ cond b (record { ends = false; found = Some (plain (lev own)) }) (by_regex regex (Some (plain (lev own)))))
        [ true ↦ λ e. refl | false ↦ λ e. absurd (true≢false e) ] h
    prefix-ends (Remembers (Some n)) h =
        elim p.firm as (λ b. not b ≡ false → view spans (Remembers (Some n))
        ≡ cond b (record { ends = false; found = Some (plain (lev n)) }) (by_regex regex (Some (plain (lev n)))))
        [ true ↦ λ e. refl | false ↦ λ e. absurd (true≢false e) ] h

    pub prefix-goes-on : (inner : CodeSought) → goes_on (remembering (Some own) inner) p.firm ≡ true →
        by_regex regex (kept_of (remembering (Some own) inner)) ≡ of_prefix (view spans inner)
    prefix-goes-on (Ends f) h = absurd (true≢false (sym h))
    prefix-goes-on (Remembers None) h =
        elim p.firm as (λ b. not b ≡ true → by_regex regex (Some (plain (lev own)))
        ≡ cond b (record { ends = false; found = Some (plain (lev own)) }) (by_regex regex (Some (plain (lev own)))))
        [ true ↦ λ e. absurd (true≢false (sym e)) | false ↦ λ e. refl ] h
    prefix-goes-on (Remembers (Some n)) h =
        elim p.firm as (λ b. not b ≡ true → by_regex regex (Some (plain (lev n)))
        ≡ cond b (record { ends = false; found = Some (plain (lev n)) }) (by_regex regex (Some (plain (lev n)))))
        [ true ↦ λ e. absurd (true≢false (sym e)) | false ↦ λ e. refl ] h

  -- no regular expression matches: what is remembered stays
  pub no-regex : (s : CodeSought) (firm : Bool) (spans : List Span) → goes_on s firm ≡ true → view spans s ≡ by_regex None (kept_of s)
  no-regex (Ends f) firm spans h = absurd (true≢false (sym h))
  no-regex (Remembers level) firm spans h = refl

  -- one matches
  pub regex-ends : (own : ℕ) (inner : CodeSought) (spans inner_spans : List Span) (other : Option Found) →
      view (with_groups own inner spans inner_spans).1 (Ends (with_groups own inner spans inner_spans).0)
      ≡ by_regex (Some (matched (lev own) (groups_in path spans) (view inner_spans inner).found)) other
  regex-ends own (Remembers None) spans inner_spans other = refl
  regex-ends own (Remembers (Some n)) spans inner_spans other = refl
  regex-ends own (Ends f) spans inner_spans other =
      elim f.matched as (λ b. view (cond b inner_spans spans) (Ends (record { level = f.level; matched = true }))
      ≡ by_regex (Some (matched (lev own) (groups_in path spans) (Some (record { level = lev f.level; groups = cond b (Some (groups_in path inner_spans)) None })))) other)
      [ true ↦ refl | false ↦ refl ]

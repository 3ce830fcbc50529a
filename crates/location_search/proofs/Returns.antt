-- Each way in which the search of a list comes to its end.
use Rattle.std.proofs.Common.{◌≡◌, ℕ, Bool, true, false, List, length, find, Option, Some, None, is_some, option_map, option_and_then, slice_get, ⊎_elim, refl, sym, ap, ◌∙◌, subst, IfSome, arith}
use Rattle.ngx_pattern.specs.Pattern.{Pattern as SetPattern}
use Rattle.pattern_search.specs.site_model.declared.site.Site.{Site}
use Rattle.pattern_search.specs.site_views.Pattern.{Span, groups_in}
use Rattle.pattern_search.specs.site_views.Views.{Locations as LocationsView}
use Rattle.pattern_search.specs.site_views.Search.{Found, Sought, LongestPrefix, Candidates, plain, matched, decided, by_prefix, by_regex, candidates, search}
use Rattle.pattern_search.specs.Found.{found, found_at}
use Rattle.location_match.specs.Prefixes.{fits}
use Rattle.location_match.specs.Numbers.{number_of, IsLongestOf}
use Rattle.location_search.specs.Lists.{Numbered, members, patterns_in}
use Rattle.location_search.specs.Lists.Numbered.{NoneLeft}
use Rattle.location_search.specs.Nodes.{HasList, IsListAt, IsTreeAt}
use Rattle.location_search.specs.Found.{IsFirstMatch, locations_in, level_at, is_firm_at, below, remembering, goes_on, with_groups}
use Rattle.location_search.specs.declared.node.Node.{Node}
use Rattle.location_search.specs.declared.node.PatternLocation.{PatternLocation}
use Rattle.location_search.specs.declared.search.Sought.{Sought as CodeSought}
use Rattle.location_search.specs.declared.search.Sought.TheVariants.{Ends, Remembers}
use Rattle.location_search.proofs.Seeks.{level, searched, exact_of, exact-is, prefix_number, IsPrefix, HasNone, prefix-is, none-longest, some-longest, IsPattern, pattern-is}
use Rattle.location_search.proofs.Outcomes.{view, lev, kept_of, below-is, exact-ends, no-exact, prefix-ends, prefix-goes-on, no-regex, regex-ends}

no_some : {A : Type 0} {a : A} → Some a ≡ None → ⊥
no_some e = grind (arith, e)

same_some : {A : Type 0} (a b : A) (o : Option A) → o ≡ Some a → o ≡ Some b → a ≡ b
same_some a b o h g = inj (sym h ∙ g)
  where
    inj : Some a ≡ Some b → a ≡ b
    inj e = grind (arith, e)

longest-as : (fits : List ℕ → Bool) (f g : List ℕ → Option ℕ) → ((text : List ℕ) → f text ≡ g text) → (r : Option ℕ) → IsLongestOf fits f r → IsLongestOf fits g r
longest-as fits f g same None h = λ text begins. sym (same text) ∙ h text begins
longest-as fits f g same (Some n) h = record {
  text = h.text;
  text_fits = h.text_fits;
  has = sym (same h.text) ∙ h.has;
  longest = λ other begins more. sym (same other) ∙ h.longest other begins more;
}

module _ (ps : List SetPattern) (site : Site) (path : List ℕ) (nodes : List Node) where
  -- where there are no locations, none is found
  pub nowhere : (spans : List Span) (tree : Numbered) → IsTreeAt nodes None tree → view ps site path nodes spans (Remembers None) ≡ decided (searched ps site path nodes tree)
  unfolding candidates locations_in
  nowhere spans tree at = sym (ap (λ t. decided (searched ps site path nodes t)) at)

  module _ (number : ℕ) (tree : Numbered) (at : IsListAt nodes number tree) where
    -- the number has a node
    pub has-node : slice_get nodes number ≡ None → ⊥
    has-node h = no_some (sym at.is ∙ h)

    abbrev c : Candidates
    c = searched ps site path nodes tree

    module _ (node : Node) (is : slice_get nodes number ≡ Some node) where
      list-is : HasList node.list (members tree)
      list-is = subst (λ (n : Node). HasList n.list (members tree)) (same_some at.node node (slice_get nodes number) at.is is) at.list

      -- ---- an exact location

      abbrev exact_level : Option ℕ
      exact_level = option_and_then (level_at nodes) (number_of node.list.exact path)

      exact-found : c.exact ≡ option_map (λ n. plain (lev ps site path nodes n)) exact_level
      exact-found = exact-is ps site path nodes number tree at.inner ∙ ap (exact_of ps site path nodes) (sym (list-is.exact path))

      pub exact-returns : (own : ℕ) (spans : List Span) → exact_level ≡ Some own →
          view ps site path nodes spans (Ends (record { level = own; matched = false })) ≡ decided c
      exact-returns own spans e = exact-ends ps site path nodes c exact_level own spans exact-found e

      pub exact-rests : exact_level ≡ None → by_prefix c.prefix c.regex ≡ decided c
      exact-rests e = sym (no-exact ps site path nodes c exact_level exact-found e)

      -- ---- the longest prefix

      abbrev IsSoughtAt : Option ℕ → List Span → CodeSought → Type 0
      IsSoughtAt n spans s = (t : Numbered) → IsTreeAt nodes n t → view ps site path nodes spans s ≡ decided (searched ps site path nodes t)

      module _ (longest prefix : Option ℕ) (is_longest : IsLongestOf (λ text. fits path text) (number_of node.list.prefixes) longest)
          (prefix_is : prefix ≡ below number longest) (spans : List Span) (inner : CodeSought) (inner_is : IsSoughtAt prefix spans inner)
          (s : CodeSought) (s_is : s ≡ remembering (option_and_then (level_at nodes) prefix) inner) where
        in_tree : IsLongestOf (λ text. fits path text) (prefix_number ps site path nodes tree) longest
        in_tree = longest-as (λ text. fits path text) (number_of node.list.prefixes) (prefix_number ps site path nodes tree) list-is.prefixes longest is_longest

        -- no prefix fits
        module _ (none : HasNone ps site path nodes (prefix_number ps site path nodes tree) c) where
          no-prefix : prefix ≡ None
          no-prefix = prefix_is ∙ ap (below number) (none-longest ps site path nodes (prefix_number ps site path nodes tree) c longest none in_tree)

          nothing-inside : (i : CodeSought) → view ps site path nodes spans i ≡ record { ends = false; found = None } → i ≡ Remembers None
          nothing-inside (Ends f) h = absurd (grind (arith, h))
          nothing-inside (Remembers None) h = refl
          nothing-inside (Remembers (Some n)) h = absurd (no_some (ap (λ (x : Sought). x.found) h))

          empty : decided (searched ps site path nodes NoneLeft) ≡ record { ends = false; found = None }
          unfolding candidates locations_in
          empty = refl

          nothing-kept : s ≡ Remembers None
          nothing-kept = s_is ∙ ap (λ p. remembering (option_and_then (level_at nodes) p) inner) no-prefix
              ∙ ap (remembering None) (nothing-inside inner (inner_is NoneLeft (subst (λ p. IsTreeAt nodes p NoneLeft) (sym no-prefix) refl) ∙ empty))

          none-goes-on : goes_on s (is_firm_at nodes prefix) ≡ true
          none-goes-on = ap (λ p. goes_on s (is_firm_at nodes p)) no-prefix ∙ ap (λ x. goes_on x false) nothing-kept

          none-rests : by_regex c.regex (kept_of ps site path nodes s) ≡ by_prefix c.prefix c.regex
          none-rests = ap (λ x. by_regex c.regex (kept_of ps site path nodes x)) nothing-kept ∙ ap (λ p. by_prefix p c.regex) (sym none.0)

        -- one does
        module _ (q : IsPrefix ps site path nodes number (prefix_number ps site path nodes tree) c) where
          the-prefix : prefix ≡ Some q.number
          the-prefix = prefix_is ∙ ap (below number) (some-longest ps site path nodes number (prefix_number ps site path nodes tree) c longest q in_tree)
              ∙ below-is number q.number q.less

          abbrev one : LongestPrefix
          one = record { size = length q.text; firm = is_firm_at nodes (Some q.number); level = level ps site path nodes q.own; inner = decided (searched ps site path nodes q.inner) }

          some-kept : s ≡ remembering (Some q.own) inner
          some-kept = s_is ∙ ap (λ p. remembering (option_and_then (level_at nodes) p) inner) the-prefix ∙ ap (λ l. remembering l inner) q.level_is

          inner-view : view ps site path nodes spans inner ≡ decided (searched ps site path nodes q.inner)
          inner-view = inner_is q.inner (subst (λ p. IsTreeAt nodes p q.inner) (sym the-prefix) q.at)

          with-inner : by_prefix (Some (record { size = one.size; firm = one.firm; level = one.level; inner = view ps site path nodes spans inner })) c.regex ≡ by_prefix c.prefix c.regex
          with-inner = ap (λ i. by_prefix (Some (record { size = one.size; firm = one.firm; level = one.level; inner = i })) c.regex) inner-view
              ∙ ap (λ p. by_prefix p c.regex) (sym q.prefix)

          firm-is : (b : Bool) → goes_on s (is_firm_at nodes prefix) ≡ b → goes_on (remembering (Some q.own) inner) one.firm ≡ b
          firm-is b h = ap (λ x. goes_on x one.firm) (sym some-kept) ∙ ap (λ p. goes_on s (is_firm_at nodes p)) (sym the-prefix) ∙ h

          some-returns : goes_on s (is_firm_at nodes prefix) ≡ false → view ps site path nodes spans s ≡ by_prefix c.prefix c.regex
          some-returns h = ap (view ps site path nodes spans) some-kept ∙ prefix-ends ps site path nodes one q.own spans c.regex inner (firm-is false h) ∙ with-inner

          some-rests : goes_on s (is_firm_at nodes prefix) ≡ true → by_regex c.regex (kept_of ps site path nodes s) ≡ by_prefix c.prefix c.regex
          some-rests h = ap (λ x. by_regex c.regex (kept_of ps site path nodes x)) some-kept
              ∙ prefix-goes-on ps site path nodes one q.own spans c.regex inner (firm-is true h) ∙ with-inner

        pub prefix-returns : goes_on s (is_firm_at nodes prefix) ≡ false → view ps site path nodes spans s ≡ by_prefix c.prefix c.regex
        prefix-returns h = ⊎_elim
            (λ (none : HasNone ps site path nodes (prefix_number ps site path nodes tree) c). absurd (grind (arith, sym (none-goes-on none) ∙ h)))
            (λ (q : IsPrefix ps site path nodes number (prefix_number ps site path nodes tree) c). some-returns q h)
            (prefix-is ps site path nodes number tree at.inner)

        pub prefix-rests : goes_on s (is_firm_at nodes prefix) ≡ true → by_regex c.regex (kept_of ps site path nodes s) ≡ by_prefix c.prefix c.regex
        prefix-rests h = ⊎_elim
            (λ (none : HasNone ps site path nodes (prefix_number ps site path nodes tree) c). none-rests none)
            (λ (q : IsPrefix ps site path nodes number (prefix_number ps site path nodes tree) c). some-rests q h)
            (prefix-is ps site path nodes number tree at.inner)

      -- ---- the first regular expression

      module _ (matching : Option ℕ) (spans : List Span) (first : IsFirstMatch ps path number node.list.patterns.items matching spans) where
        first-is : first.first ≡ find (λ (l : PatternLocation). is_some (found_at ps l.pattern path)) (patterns_in (members tree))
        first-is = first.is ∙ ap (find (λ (l : PatternLocation). is_some (found_at ps l.pattern path))) list-is.patterns

        the-match : (q : IsPattern ps site path nodes number (patterns_in (members tree)) c) → matching ≡ Some q.location.number
        the-match q = first.number_is ∙ ap (λ o. below number (option_map (λ (l : PatternLocation). l.number) o)) (first-is ∙ q.is)
            ∙ below-is number q.location.number q.less

        no-match : (find (λ (l : PatternLocation). is_some (found_at ps l.pattern path)) (patterns_in (members tree)) ≡ None) × (c.regex ≡ None) → matching ≡ None
        no-match none = first.number_is ∙ ap (λ o. below number (option_map (λ (l : PatternLocation). l.number) o)) (first-is ∙ none.0)

        pub regex-rests : (s : CodeSought) (firm : Bool) → goes_on s firm ≡ true → option_and_then (level_at nodes) matching ≡ None →
            view ps site path nodes spans s ≡ by_regex c.regex (kept_of ps site path nodes s)
        regex-rests s firm h missing = ⊎_elim
            (λ (none : (find (λ (l : PatternLocation). is_some (found_at ps l.pattern path)) (patterns_in (members tree)) ≡ None) × (c.regex ≡ None)).
            no-regex ps site path nodes s firm spans h ∙ ap (λ r. by_regex r (kept_of ps site path nodes s)) (sym none.1))
            (λ (q : IsPattern ps site path nodes number (patterns_in (members tree)) c).
            absurd (no_some (sym q.level_is ∙ ap (option_and_then (level_at nodes)) (sym (the-match q)) ∙ missing)))
            (pattern-is ps site path nodes number tree at.inner)

        found-spans : (q : IsPattern ps site path nodes number (patterns_in (members tree)) c) → q.spans ≡ spans
        found-spans q = same_some q.spans spans (found_at ps q.location.pattern path) q.finds
            (subst (λ o. IfSome o (λ (l : PatternLocation). found_at ps l.pattern path ≡ Some spans)) (first-is ∙ q.is) first.finds)

        pub regex-returns : (own : ℕ) → option_and_then (level_at nodes) matching ≡ Some own → (inner_spans : List Span) (inner : CodeSought) →
            IsSoughtAt matching inner_spans inner → (other : Option Found) →
            view ps site path nodes (with_groups own inner spans inner_spans).1 (Ends (with_groups own inner spans inner_spans).0) ≡ by_regex c.regex other
        regex-returns own level_is inner_spans inner inner_is other = ⊎_elim
            (λ (none : (find (λ (l : PatternLocation). is_some (found_at ps l.pattern path)) (patterns_in (members tree)) ≡ None) × (c.regex ≡ None)).
            absurd (no_some (sym level_is ∙ ap (option_and_then (level_at nodes)) (no-match none))))
            (λ (q : IsPattern ps site path nodes number (patterns_in (members tree)) c).
            let same : q.own ≡ own = same_some q.own own (level_at nodes q.location.number) q.level_is
            (ap (option_and_then (level_at nodes)) (sym (the-match q)) ∙ level_is) in
            let inside : view ps site path nodes inner_spans inner ≡ decided (searched ps site path nodes q.inner)
            = inner_is q.inner (subst (λ p. IsTreeAt nodes p q.inner) (sym (the-match q)) q.at) in
            regex-ends ps site path nodes own inner spans inner_spans other
            ∙ ap (λ r. by_regex r other) (
            ap (λ (i : Sought). Some (matched (lev ps site path nodes own) (groups_in path spans) i.found)) inside
            ∙ ap (λ n. Some (matched (lev ps site path nodes n) (groups_in path spans) (decided (searched ps site path nodes q.inner)).found)) (sym same)
            ∙ ap (λ g. Some (matched (lev ps site path nodes q.own) (groups_in path g) (decided (searched ps site path nodes q.inner)).found)) (sym (found-spans q))
            ∙ sym q.regex
            ))
            (pattern-is ps site path nodes number tree at.inner)

pub search-is : (ps : List SetPattern) (path : List ℕ) (locations : LocationsView) → search found locations path ≡ (decided (candidates found path locations)).found
unfolding search
search-is ps path locations = refl

-- What the lists of locations are searched for, and what the meaning makes of them.
use Rattle.std.proofs.Common.{◌≡◌, ℕ, ◌<◌, ◌≤◌, nat_eq, nat_le, Bool, true, false, List, [], ◌∷◌, ◌++◌, length, take, find, Option, Some, None, is_some, option_map, option_and_then, bytes_eq, cond, ◌⊎◌, inl, inr, ⊎_elim, refl, sym, ap, ◌∙◌, arith}
use mathlib.Core.Bool.{true≢false}
use Rattle.std.specs.List.{starts_with}
use Rattle.std.proofs.lemmas.Bool.{cases_lt, cases_Bool}
use Rattle.std.proofs.lemmas.Bool.Decides.{nat_tests}
use Rattle.std.proofs.lemmas.Slice.Eq.{bytes_eq-Decides}
use Rattle.ngx_pattern.specs.Pattern.{Pattern as SetPattern}
use Rattle.pattern_search.specs.site_model.declared.site.Site.{Site}
use Rattle.pattern_search.specs.site_model.declared.site.Location.{Location as CodeLocation}
use Rattle.pattern_search.specs.site_model.declared.site.LocationKind.{LocationKind}
use Rattle.pattern_search.specs.site_model.declared.site.LocationKind.TheVariants as kinds
use Rattle.pattern_search.specs.site_views.Pattern.{Span, groups_in}
use Rattle.pattern_search.specs.site_views.Views.{LevelView}
use Rattle.pattern_search.specs.site_views.Search.{Found, Sought, LongestPrefix, Candidates, plain, matched, decided, candidates, with_location, with_prefix, with_regex, longer}
use Rattle.pattern_search.specs.site_whole.Whole.{level_whole, matching_by, pattern_at}
use Rattle.pattern_search.specs.Found.{patterns_seen, found, found_at}
use Rattle.location_match.specs.Prefixes.{fits}
use Rattle.location_match.specs.Numbers.{number_in, IsLongestOf}
use Rattle.location_search.specs.Lists.{Member, Numbered, members, is_exactly, is_prefix, is_firm, texts_in, patterns_in, pattern_in}
use Rattle.location_search.specs.Lists.Numbered.{NoneLeft, Nest}
use Rattle.location_search.specs.Nodes.{IsNodeOf, HaveNodes, IsListAt}
use Rattle.location_search.specs.Found.{locations_in, level_at, is_firm_at, firm_of}
use Rattle.location_match.specs.declared.texts.NumberedText.{NumberedText}
use Rattle.location_search.specs.declared.node.Node.{Node}
use Rattle.location_search.specs.declared.node.PatternLocation.{PatternLocation}

fits-same : (path a b : List ℕ) → fits path a ≡ true → fits path b ≡ true → length a ≡ length b → a ≡ b
fits-same path a b h g e =
    (bytes_eq-Decides a (take (length a) path)).0 h ∙ ap (λ n. take n path) e ∙ sym ((bytes_eq-Decides b (take (length b) path)).0 g)

not_both : {A : Type 0} (b : Bool) → b ≡ true → b ≡ false → A
not_both b hit miss = absurd (true≢false (sym hit ∙ miss))

bytes-apart : (a b : List ℕ) → length a < length b → bytes_eq a b ≡ false
bytes-apart a b lt = ⊎_elim
    (λ (h : bytes_eq a b ≡ true). absurd (omega (arith, lt, ap length ((bytes_eq-Decides a b).0 h))))
    (λ h. h)
    (cases_Bool (bytes_eq a b))

module _ (ps : List SetPattern) (site : Site) (path : List ℕ) (nodes : List Node) where
  abbrev pub level : ℕ → LevelView
  level n = level_whole (patterns_seen ps) site n

  abbrev pub searched : Numbered → Candidates
  searched t = candidates found path (locations_in (patterns_seen ps) site t)

  -- ---- the one that is exact

  abbrev pub exact_of : Option ℕ → Option Found
  exact_of number = option_map (λ n. plain (level n)) (option_and_then (level_at nodes) number)

  exact-step : (k : LocationKind) (text : List ℕ) (n own : ℕ) (inner : Sought) (c : Candidates) (rest : List NumberedText) →
      level_at nodes n ≡ Some own → c.exact ≡ exact_of (number_in rest path) →
      (with_location found path (level own) (matching_by (patterns_seen ps) text k) inner c).exact
      ≡ exact_of (number_in (cond (is_exactly k) (record { text = text; number = n } ∷ []) [] ++ rest) path)
  exact-step kinds.Exactly text n own inner c rest is e =
      elim (bytes_eq text path) as (λ b. (cond b (record c { exact = Some (plain (level own)) }) c).exact
      ≡ exact_of (option_map (λ (t : NumberedText). t.number) (cond b (Some (record { text = text; number = n })) (find (λ (t : NumberedText). bytes_eq t.text path) rest))))
      [ true ↦ sym (ap (option_map (λ n. plain (level n))) is) | false ↦ e ]
  exact-step kinds.Prefix text n own inner c rest is e =
      elim (starts_with nat_eq path text) as (λ b. (cond b (record c { prefix = Some (longer (record { size = length text; firm = false; level = level own; inner = inner }) c.prefix) }) c).exact ≡ exact_of (number_in rest path))
      [ true ↦ e | false ↦ e ]
  exact-step kinds.FirmPrefix text n own inner c rest is e =
      elim (starts_with nat_eq path text) as (λ b. (cond b (record c { prefix = Some (longer (record { size = length text; firm = true; level = level own; inner = inner }) c.prefix) }) c).exact ≡ exact_of (number_in rest path))
      [ true ↦ e | false ↦ e ]
  exact-step (kinds.Regex p) text n own inner c rest is e =
      elim (found (pattern_at (patterns_seen ps) p) path) as (λ o. (with_regex path (level own) inner.found o c).exact ≡ exact_of (number_in rest path))
      [ None ↦ e | Some spans ↦ e ]

  node-level : (n : ℕ) (h : (l : CodeLocation) × (inner : List Member) × IsNodeOf nodes n l inner) → level_at nodes n ≡ Some h.0.level
  node-level n h = ap (option_map (λ (x : Node). x.level)) h.2.is ∙ ap Some h.2.level

  pub exact-is : (b : ℕ) (t : Numbered) → HaveNodes nodes b t → (searched t).exact ≡ exact_of (number_in (texts_in is_exactly (members t)) path)
  unfolding candidates locations_in members HaveNodes
  exact-is b NoneLeft h = refl
  exact-is b (Nest n l inner later) h =
      exact-step l.kind l.text n l.level (decided (searched inner)) (searched later) (texts_in is_exactly (members later)) (node-level n (l, members inner, h.1)) (exact-is b later h.3)

  -- ---- the longest prefix

  abbrev pub prefix_number : Numbered → List ℕ → Option ℕ
  prefix_number t = number_in (texts_in is_prefix (members t))

  -- of the texts that lead to numbers no longer one fits than this
  pub record IsPrefix (b : ℕ) (numbers : List ℕ → Option ℕ) (c : Candidates) : Type 0 where
    pub number : ℕ
    pub text : List ℕ
    pub begins : fits path text ≡ true
    pub has : numbers text ≡ Some number
    pub longest : (other : List ℕ) → fits path other ≡ true → length text < length other → numbers other ≡ None
    pub inner : Numbered
    pub own : ℕ
    pub less : number < b
    pub at : IsListAt nodes number inner
    pub level_is : level_at nodes number ≡ Some own
    pub prefix : c.prefix ≡ Some (record { size = length text; firm = is_firm_at nodes (Some number); level = level own; inner = decided (searched inner) })

  abbrev pub HasNone : (List ℕ → Option ℕ) → Candidates → Type 0
  HasNone numbers c = (c.prefix ≡ None) × ((text : List ℕ) → fits path text ≡ true → numbers text ≡ None)

  abbrev pub PrefixIs : ℕ → (List ℕ → Option ℕ) → Candidates → Type 0
  PrefixIs b numbers c = HasNone numbers c ⊎ IsPrefix b numbers c

  -- another way to the same numbers and the same prefix
  prefix-as : (b : ℕ) (f g : List ℕ → Option ℕ) (c d : Candidates) → ((text : List ℕ) → fits path text ≡ true → g text ≡ f text) → d.prefix ≡ c.prefix →
      PrefixIs b f c → PrefixIs b g d
  prefix-as b f g c d same e = ⊎_elim
      (λ (none : HasNone f c). inl (e ∙ none.0, λ text h. same text h ∙ none.1 text h))
      (λ (p : IsPrefix b f c). inr (record {
        number = p.number;
        text = p.text;
        begins = p.begins;
        has = same p.text p.begins ∙ p.has;
        longest = λ other h lt. same other h ∙ p.longest other h lt;
        inner = p.inner;
        own = p.own;
        less = p.less;
        at = p.at;
        level_is = p.level_is;
        prefix = e ∙ p.prefix;
      }))

  module _ (text : List ℕ) (n : ℕ) (rest : List NumberedText) where
    abbrev entry : NumberedText
    entry = record { text = text; number = n }

    number-here : number_in (entry ∷ rest) text ≡ Some n
    number-here = ap (λ b. option_map (λ (t : NumberedText). t.number) (cond b (Some entry) (find (λ (t : NumberedText). bytes_eq t.text text) rest)))
        ((bytes_eq-Decides text text).1 refl)

    number-other : (other : List ℕ) → bytes_eq text other ≡ false → number_in (entry ∷ rest) other ≡ number_in rest other
    number-other other h = ap (λ b. option_map (λ (t : NumberedText). t.number) (cond b (Some entry) (find (λ (t : NumberedText). bytes_eq t.text other) rest))) h

  module _ (b n own : ℕ) (text : List ℕ) (firm : Bool) (inner : Numbered) (rest : List NumberedText) (less : n < b) (at : IsListAt nodes n inner)
      (level_is : level_at nodes n ≡ Some own) (firm_is : is_firm_at nodes (Some n) ≡ firm) where
    abbrev one : LongestPrefix
    one = record { size = length text; firm = firm; level = level own; inner = decided (searched inner) }

    here : (d : Candidates) → fits path text ≡ true → d.prefix ≡ Some one →
        ((other : List ℕ) → fits path other ≡ true → length text < length other → number_in rest other ≡ None) →
        IsPrefix b (number_in (record { text = text; number = n } ∷ rest)) d
    here d hit e none = record {
      number = n;
      text = text;
      begins = hit;
      has = number-here text n rest;
      longest = λ other h lt. number-other text n rest other (bytes-apart text other lt) ∙ none other h lt;
      inner = inner;
      own = own;
      less = less;
      at = at;
      level_is = level_is;
      prefix = e ∙ ap (λ f. Some (record { size = length text; firm = f; level = level own; inner = decided (searched inner) })) (sym firm_is);
    }

    beside : (c d : Candidates) → (q : IsPrefix b (number_in rest) c) → length text < length q.text → d.prefix ≡ c.prefix →
        IsPrefix b (number_in (record { text = text; number = n } ∷ rest)) d
    beside c d q lt e = record {
      number = q.number;
      text = q.text;
      begins = q.begins;
      has = number-other text n rest q.text (bytes-apart text q.text lt) ∙ q.has;
      longest = λ other h more. number-other text n rest other (bytes-apart text other (omega (arith, lt, more))) ∙ q.longest other h more;
      inner = q.inner;
      own = q.own;
      less = q.less;
      at = q.at;
      level_is = q.level_is;
      prefix = e ∙ q.prefix;
    }

    prefix-hit : (c d : Candidates) → fits path text ≡ true → d.prefix ≡ Some (longer one c.prefix) → PrefixIs b (number_in rest) c →
        PrefixIs b (number_in (record { text = text; number = n } ∷ rest)) d
    prefix-hit c d hit e = ⊎_elim
        (λ (none : HasNone (number_in rest) c). inr (here d hit (e ∙ ap (λ o. Some (longer one o)) none.0) (λ other h lt. none.1 other h)))
        (λ (q : IsPrefix b (number_in rest) c).
        let both : d.prefix ≡ Some (longer one (Some (record { size = length q.text; firm = is_firm_at nodes (Some q.number); level = level q.own; inner = decided (searched q.inner) })))
        = e ∙ ap (λ o. Some (longer one o)) q.prefix in
        ⊎_elim
        (λ (lt : length text < length q.text).
        let no : nat_le (length q.text) (length text) ≡ false = grind (arith, nat_tests) in
        inr (beside c d q lt (both ∙ ap (λ u. Some (cond u one (record { size = length q.text; firm = is_firm_at nodes (Some q.number); level = level q.own; inner = decided (searched q.inner) }))) no ∙ sym q.prefix)))
        (λ (ge : length q.text ≤ length text).
        let yes : nat_le (length q.text) (length text) ≡ true = grind (arith, nat_tests) in
        inr (here d hit (both ∙ ap (λ u. Some (cond u one (record { size = length q.text; firm = is_firm_at nodes (Some q.number); level = level q.own; inner = decided (searched q.inner) }))) yes)
        (λ other h more. q.longest other h (omega (arith, ge, more)))))
        (cases_lt (length text) (length q.text)))

    prefix-one : (c : Candidates) → PrefixIs b (number_in rest) c →
        PrefixIs b (number_in (record { text = text; number = n } ∷ rest)) (with_prefix path text one c)
    prefix-one c old = ⊎_elim
        (λ (hit : fits path text ≡ true).
        prefix-hit c (with_prefix path text one c) hit (ap (λ u. (cond u (record c { prefix = Some (longer one c.prefix) }) c).prefix) hit) old)
        (λ (miss : fits path text ≡ false).
        prefix-as b (number_in rest) (number_in (record { text = text; number = n } ∷ rest)) c (with_prefix path text one c)
        (λ other h. number-other text n rest other (⊎_elim
        (λ (same : bytes_eq text other ≡ true). not_both _ h (ap (fits path) (sym ((bytes_eq-Decides text other).0 same)) ∙ miss))
        (λ apart. apart)
        (cases_Bool (bytes_eq text other))))
        (ap (λ u. (cond u (record c { prefix = Some (longer one c.prefix) }) c).prefix) miss) old)
        (cases_Bool (fits path text))

  prefix-step : (b n own : ℕ) (text : List ℕ) (k : LocationKind) (inner : Numbered) (rest : List NumberedText) → n < b → IsListAt nodes n inner →
      level_at nodes n ≡ Some own → is_firm_at nodes (Some n) ≡ is_firm k → (c : Candidates) → PrefixIs b (number_in rest) c →
      PrefixIs b (number_in (cond (is_prefix k) (record { text = text; number = n } ∷ []) [] ++ rest))
      (with_location found path (level own) (matching_by (patterns_seen ps) text k) (decided (searched inner)) c)
  prefix-step b n own text kinds.Exactly inner rest less at level_is firm_is c old =
      prefix-as b (number_in rest) (number_in rest) c (with_location found path (level own) (matching_by (patterns_seen ps) text kinds.Exactly) (decided (searched inner)) c)
      (λ other h. refl)
      (elim (bytes_eq text path) as (λ u. (cond u (record c { exact = Some (plain (level own)) }) c).prefix ≡ c.prefix) [ true ↦ refl | false ↦ refl ]) old
  prefix-step b n own text kinds.Prefix inner rest less at level_is firm_is c old = prefix-one b n own text false inner rest less at level_is firm_is c old
  prefix-step b n own text kinds.FirmPrefix inner rest less at level_is firm_is c old = prefix-one b n own text true inner rest less at level_is firm_is c old
  prefix-step b n own text (kinds.Regex p) inner rest less at level_is firm_is c old =
      prefix-as b (number_in rest) (number_in rest) c (with_location found path (level own) (matching_by (patterns_seen ps) text (kinds.Regex p)) (decided (searched inner)) c)
      (λ other h. refl)
      (elim (found (pattern_at (patterns_seen ps) p) path) as (λ o. (with_regex path (level own) (decided (searched inner)).found o c).prefix ≡ c.prefix) [ None ↦ refl | Some spans ↦ refl ]) old

  node-at : (n : ℕ) (inner : Numbered) (h : (l : CodeLocation) × IsNodeOf nodes n l (members inner)) → HaveNodes nodes n inner → IsListAt nodes n inner
  node-at n inner h have = record { node = h.1.node; is = h.1.is; list = h.1.list; inner = have }

  node-firm : (n : ℕ) (inner : List Member) (h : (l : CodeLocation) × IsNodeOf nodes n l inner) → is_firm_at nodes (Some n) ≡ is_firm h.0.kind
  node-firm n inner h = ap firm_of h.1.is ∙ h.1.firm

  pub prefix-is : (b : ℕ) (t : Numbered) → HaveNodes nodes b t → PrefixIs b (prefix_number t) (searched t)
  unfolding candidates locations_in members HaveNodes
  prefix-is b NoneLeft h = inl (refl, λ text e. refl)
  prefix-is b (Nest n l inner later) h =
      prefix-step b n l.level l.text l.kind inner (texts_in is_prefix (members later)) h.0 (node-at n inner (l, h.1) h.2)
      (node-level n (l, members inner, h.1)) (node-firm n (members inner) (l, h.1)) (searched later) (prefix-is b later h.3)

  -- what a look-up finds, by these numbers
  pub none-longest : (numbers : List ℕ → Option ℕ) (c : Candidates) (result : Option ℕ) → HasNone numbers c → IsLongestOf (λ text. fits path text) numbers result → result ≡ None
  none-longest numbers c None none h = refl
  none-longest numbers c (Some number) none h = absurd (no_some (sym h.has ∙ none.1 h.text h.text_fits))
    where
      no_some : Some number ≡ None → ⊥
      no_some e = grind (arith, e)

  pub some-longest : (b : ℕ) (numbers : List ℕ → Option ℕ) (c : Candidates) (result : Option ℕ) (p : IsPrefix b numbers c) →
      IsLongestOf (λ text. fits path text) numbers result → result ≡ Some p.number
  some-longest b numbers c None p h = sym (h p.text p.begins) ∙ p.has
  some-longest b numbers c (Some number) p h =
      let same : h.text ≡ p.text = fits-same path h.text p.text h.text_fits p.begins (⊎_elim
      (λ (lt : length h.text < length p.text). absurd (no_some p.number (sym p.has ∙ h.longest p.text p.begins lt)))
      (λ (ge : length p.text ≤ length h.text). ⊎_elim
      (λ (lt : length p.text < length h.text). absurd (no_some number (sym h.has ∙ p.longest h.text h.text_fits lt)))
      (λ (le : length h.text ≤ length p.text). omega (arith, ge, le))
      (cases_lt (length p.text) (length h.text)))
      (cases_lt (length h.text) (length p.text))) in
      sym h.has ∙ ap numbers same ∙ p.has
    where
      no_some : (m : ℕ) → Some m ≡ None → ⊥
      no_some m e = grind (arith, e)

  -- ---- the first regular expression

  abbrev pub is_hit : PatternLocation → Bool
  is_hit l = is_some (found_at ps l.pattern path)

  pub record IsPattern (b : ℕ) (list : List PatternLocation) (c : Candidates) : Type 0 where
    pub location : PatternLocation
    pub is : find is_hit list ≡ Some location
    pub spans : List Span
    pub finds : found_at ps location.pattern path ≡ Some spans
    pub inner : Numbered
    pub own : ℕ
    pub less : location.number < b
    pub at : IsListAt nodes location.number inner
    pub level_is : level_at nodes location.number ≡ Some own
    pub regex : c.regex ≡ Some (matched (level own) (groups_in path spans) (decided (searched inner)).found)

  abbrev pub PatternIs : ℕ → List PatternLocation → Candidates → Type 0
  PatternIs b list c = ((find is_hit list ≡ None) × (c.regex ≡ None)) ⊎ IsPattern b list c

  pattern-as : (b : ℕ) (list : List PatternLocation) (c d : Candidates) → d.regex ≡ c.regex → PatternIs b list c → PatternIs b list d
  pattern-as b list c d e = ⊎_elim
      (λ (none : (find is_hit list ≡ None) × (c.regex ≡ None)). inl (none.0, e ∙ none.1))
      (λ (p : IsPattern b list c). inr (record {
        location = p.location;
        is = p.is;
        spans = p.spans;
        finds = p.finds;
        inner = p.inner;
        own = p.own;
        less = p.less;
        at = p.at;
        level_is = p.level_is;
        regex = e ∙ p.regex;
      }))

  module _ (b n own p : ℕ) (inner : Numbered) (rest : List PatternLocation) (less : n < b) (at : IsListAt nodes n inner) (level_is : level_at nodes n ≡ Some own)
      (c : Candidates) (old : PatternIs b rest c) where
    abbrev tried : PatternLocation
    tried = record { pattern = p; number = n }

    abbrev with_found : Option (List Span) → Candidates
    with_found o = with_regex path (level own) (decided (searched inner)).found o c

    tried-by : (o : Option (List Span)) → found_at ps p path ≡ o → PatternIs b (tried ∷ rest) (with_found (found_at ps p path))
    tried-by None e =
        let miss : is_hit tried ≡ false = ap is_some e in
        let same : (with_found (found_at ps p path)).regex ≡ c.regex = ap (λ o. (with_found o).regex) e in
        ⊎_elim
        (λ (h : (find is_hit rest ≡ None) × (c.regex ≡ None)). inl (ap (λ u. cond u (Some tried) (find is_hit rest)) miss ∙ h.0, same ∙ h.1))
        (λ (h : IsPattern b rest c).
        inr (record {
          location = h.location;
          is = ap (λ u. cond u (Some tried) (find is_hit rest)) miss ∙ h.is;
          spans = h.spans;
          finds = h.finds;
          inner = h.inner;
          own = h.own;
          less = h.less;
          at = h.at;
          level_is = h.level_is;
          regex = same ∙ h.regex;
        }))
        old
    tried-by (Some spans) e =
        let hit : is_hit tried ≡ true = ap is_some e in
        inr (record {
          location = tried;
          is = ap (λ u. cond u (Some tried) (find is_hit rest)) hit;
          spans = spans;
          finds = e;
          inner = inner;
          own = own;
          less = less;
          at = at;
          level_is = level_is;
          regex = ap (λ o. (with_found o).regex) e;
        })

  pattern-step : (b n own : ℕ) (text : List ℕ) (k : LocationKind) (inner : Numbered) (rest : List PatternLocation) → n < b → IsListAt nodes n inner →
      level_at nodes n ≡ Some own → (c : Candidates) → PatternIs b rest c →
      PatternIs b (pattern_in k n ++ rest) (with_location found path (level own) (matching_by (patterns_seen ps) text k) (decided (searched inner)) c)
  pattern-step b n own text kinds.Exactly inner rest less at level_is c old =
      pattern-as b rest c (with_location found path (level own) (matching_by (patterns_seen ps) text kinds.Exactly) (decided (searched inner)) c)
      (elim (bytes_eq text path) as (λ u. (cond u (record c { exact = Some (plain (level own)) }) c).regex ≡ c.regex) [ true ↦ refl | false ↦ refl ]) old
  pattern-step b n own text kinds.Prefix inner rest less at level_is c old =
      let one : LongestPrefix = record { size = length text; firm = false; level = level own; inner = decided (searched inner) } in
      pattern-as b rest c (with_prefix path text one c)
      (elim (starts_with nat_eq path text) as (λ u. (cond u (record c { prefix = Some (longer one c.prefix) }) c).regex ≡ c.regex) [ true ↦ refl | false ↦ refl ]) old
  pattern-step b n own text kinds.FirmPrefix inner rest less at level_is c old =
      let one : LongestPrefix = record { size = length text; firm = true; level = level own; inner = decided (searched inner) } in
      pattern-as b rest c (with_prefix path text one c)
      (elim (starts_with nat_eq path text) as (λ u. (cond u (record c { prefix = Some (longer one c.prefix) }) c).regex ≡ c.regex) [ true ↦ refl | false ↦ refl ]) old
  pattern-step b n own text (kinds.Regex p) inner rest less at level_is c old =
      tried-by b n own p inner rest less at level_is c old (found_at ps p path) refl

  pub pattern-is : (b : ℕ) (t : Numbered) → HaveNodes nodes b t → PatternIs b (patterns_in (members t)) (searched t)
  unfolding candidates locations_in members HaveNodes
  pattern-is b NoneLeft h = inl (refl, refl)
  pattern-is b (Nest n l inner later) h =
      pattern-step b n l.level l.text l.kind inner (patterns_in (members later)) h.0 (node-at n inner (l, h.1) h.2)
      (node-level n (l, members inner, h.1)) (searched later) (pattern-is b later h.3)

-- The lists of locations, and the nodes that are made of them.
use Rattle.std.proofs.Common.{◌≡◌, ℕ, zero, suc, ◌+◌, ◌-◌, ◌≤◌, nat_lt, true, false, List, [], ◌∷◌, ◌++◌, map, length, take, drop, flat_map, Option, Some, None, slice_get, cond, refl, sym, ap, ap₂, ◌∙◌, subst, arith}
use Rattle.std.proofs.lemmas.List.{append-nil, append_assoc, reverse-append, length-append, take_more, drop_all}
use Rattle.std.proofs.lemmas.Option.{slice_get-get_or, get_or_from_slice_get}
use Rattle.pattern_search.specs.site_model.declared.site.Location.{Location as CodeLocation}
use Rattle.location_match.specs.Numbers.{number_in}
use Rattle.location_search.specs.Lists.{Member, Numbered, inside, outside, numbered, members, is_exactly, is_prefix, is_firm, texts_in, text_of, patterns_in, pattern_of}
use Rattle.location_search.specs.Lists.Numbered.{NoneLeft, Nest}
use Rattle.location_search.specs.Nodes.{HasList, HaveNodes, IsTreeOf}
use Rattle.location_search.specs.Building.{listed, all_listed, is_inside, taken, left, HasNoneInside, Gathers, GathersAll, HasTexts, IsBuilt}
use Rattle.location_search.specs.declared.node.Node.{Node}
use Rattle.location_search.specs.declared.node.LocationList.{LocationList}
use Rattle.location_search.specs.declared.node.Tree.{Tree}
use Rattle.location_search.specs.declared.build.Open.{Open}
use Rattle.location_search.specs.declared.build.Gathered.{Gathered}

members-inside : (d : ℕ) (t : Numbered) → members (inside d t) ≡ taken (Some d) (members t)
unfolding members inside taken
members-inside d NoneLeft = refl
members-inside d (Nest n l inner later) =
    elim (nat_lt d l.depth) as (λ b. members (cond b (Nest n l inner (inside d later)) NoneLeft) ≡ cond b (record { number = n; here = l } ∷ taken (Some d) (members later)) [])
    [ true ↦ ap (λ ms. record { number = n; here = l } ∷ ms) (members-inside d later) | false ↦ refl ]

members-outside : (d : ℕ) (t : Numbered) → members (outside d t) ≡ left (Some d) (members t)
unfolding members outside left
members-outside d NoneLeft = refl
members-outside d (Nest n l inner later) =
    elim (nat_lt d l.depth) as (λ b. members (cond b (outside d later) (Nest n l inner later)) ≡ cond b (left (Some d) (members later)) (record { number = n; here = l } ∷ members later))
    [ true ↦ members-outside d later | false ↦ refl ]

taken-all : (ms : List Member) → taken None ms ≡ ms
unfolding taken
taken-all [] = refl
taken-all (m ∷ ms) = ap (λ l. m ∷ l) (taken-all ms)

-- ---- one waiting location more, and one less

pub listed-more : (waiting : List Open) (o : Open) → all_listed (waiting ++ o ∷ []) ≡ listed o ∷ all_listed waiting
listed-more waiting o = ap (map listed) (reverse-append waiting (o ∷ []))

pub taken-step : (depth : Option ℕ) (m : Member) (ms : List Member) → is_inside depth m.here ≡ true → taken depth (m ∷ ms) ≡ m ∷ taken depth ms
unfolding taken
taken-step depth m ms h = ap (λ b. cond b (m ∷ taken depth ms) []) h

pub left-step : (depth : Option ℕ) (m : Member) (ms : List Member) → is_inside depth m.here ≡ true → left depth (m ∷ ms) ≡ left depth ms
unfolding left
left-step depth m ms h = ap (λ b. cond b (left depth ms) (m ∷ ms)) h

pub taken-stop : (depth : Option ℕ) (m : Member) (ms : List Member) → is_inside depth m.here ≡ false → taken depth (m ∷ ms) ≡ []
unfolding taken
taken-stop depth m ms h = ap (λ b. cond b (m ∷ taken depth ms) []) h

pub left-stop : (depth : Option ℕ) (m : Member) (ms : List Member) → is_inside depth m.here ≡ false → left depth (m ∷ ms) ≡ m ∷ ms
unfolding left
left-stop depth m ms h = ap (λ b. cond b (left depth ms) (m ∷ ms)) h

pub taken-none : (depth : Option ℕ) → taken depth [] ≡ []
unfolding taken
taken-none depth = refl

pub left-none : (depth : Option ℕ) → left depth [] ≡ []
unfolding left
left-none depth = refl

-- what is gathered, and what is still to come, are what was to come at the start
pub record Gathering (depth : Option ℕ) (start now : List Open) (g : Gathered) : Type 0 where
  pub exact : g.exact.items ++ texts_in is_exactly (taken depth (all_listed now)) ≡ texts_in is_exactly (taken depth (all_listed start))
  pub prefixes : g.prefixes.items ++ texts_in is_prefix (taken depth (all_listed now)) ≡ texts_in is_prefix (taken depth (all_listed start))
  pub patterns : g.patterns.items ++ patterns_in (taken depth (all_listed now)) ≡ patterns_in (taken depth (all_listed start))
  pub others : left depth (all_listed now) ≡ left depth (all_listed start)

pub gathering-start : (depth : Option ℕ) (start : List Open) (g : Gathered) → g.exact.items ≡ [] → g.prefixes.items ≡ [] → g.patterns.items ≡ [] → Gathering depth start start g
gathering-start depth start g e p r = record {
  exact = ap (λ xs. xs ++ texts_in is_exactly (taken depth (all_listed start))) e;
  prefixes = ap (λ xs. xs ++ texts_in is_prefix (taken depth (all_listed start))) p;
  patterns = ap (λ xs. xs ++ patterns_in (taken depth (all_listed start))) r;
  others = refl;
}

one_more : {A : Type 0} (f : Member → List A) (depth : Option ℕ) (m : Member) (ms : List Member) (old new : List A) → is_inside depth m.here ≡ true →
    new ≡ old ++ f m → new ++ flat_map f (taken depth ms) ≡ old ++ flat_map f (taken depth (m ∷ ms))
one_more f depth m ms old new h e =
    ap (λ xs. xs ++ flat_map f (taken depth ms)) e ∙ append_assoc old (f m) (flat_map f (taken depth ms)) ∙ ap (λ l. old ++ flat_map f l) (sym (taken-step depth m ms h))

pub gathering-step : (depth : Option ℕ) (start before after : List Open) (o : Open) (g h : Gathered) → before ≡ after ++ o ∷ [] →
    is_inside depth (listed o).here ≡ true →
    h.exact.items ≡ g.exact.items ++ text_of is_exactly (listed o) → h.prefixes.items ≡ g.prefixes.items ++ text_of is_prefix (listed o) →
    h.patterns.items ≡ g.patterns.items ++ pattern_of (listed o) → Gathering depth start before g → Gathering depth start after h
gathering-step depth start before after o g h is hit e p r old =
    let split : all_listed before ≡ listed o ∷ all_listed after = ap all_listed is ∙ listed-more after o in
    record {
      exact = one_more (text_of is_exactly) depth (listed o) (all_listed after) g.exact.items h.exact.items hit e
          ∙ ap (λ l. g.exact.items ++ texts_in is_exactly (taken depth l)) (sym split) ∙ old.exact;
      prefixes = one_more (text_of is_prefix) depth (listed o) (all_listed after) g.prefixes.items h.prefixes.items hit p
          ∙ ap (λ l. g.prefixes.items ++ texts_in is_prefix (taken depth l)) (sym split) ∙ old.prefixes;
      patterns = one_more pattern_of depth (listed o) (all_listed after) g.patterns.items h.patterns.items hit r
          ∙ ap (λ l. g.patterns.items ++ patterns_in (taken depth l)) (sym split) ∙ old.patterns;
      others = sym (left-step depth (listed o) (all_listed after) hit) ∙ ap (left depth) (sym split) ∙ old.others;
    }

pub gathered-end : (depth : Option ℕ) (start now after : List Open) (g : Gathered) → HasNoneInside depth now → after ≡ now →
    Gathering depth start now g → GathersAll g depth start after
gathered-end depth start now after g none is old = record {
  gathers = record {
    exact = sym (append-nil g.exact.items) ∙ ap (λ l. g.exact.items ++ texts_in is_exactly l) (sym none.0) ∙ old.exact;
    prefixes = sym (append-nil g.prefixes.items) ∙ ap (λ l. g.prefixes.items ++ texts_in is_prefix l) (sym none.0) ∙ old.prefixes;
    patterns = sym (append-nil g.patterns.items) ∙ ap (λ l. g.patterns.items ++ patterns_in l) (sym none.0) ∙ old.patterns;
  };
  others = ap all_listed is ∙ sym none.1 ∙ old.others;
}

pub none-inside : (depth : Option ℕ) (waiting before : List Open) (o : Open) → waiting ≡ before ++ o ∷ [] → is_inside depth (listed o).here ≡ false →
    HasNoneInside depth waiting
none-inside depth waiting before o is miss =
    let split : all_listed waiting ≡ listed o ∷ all_listed before = ap all_listed is ∙ listed-more before o in (
      ap (taken depth) split ∙ taken-stop depth (listed o) (all_listed before) miss,
      ap (left depth) split ∙ left-stop depth (listed o) (all_listed before) miss ∙ sym split,
    )

none-last : (waiting : List Open) → None ≡ slice_get waiting (length waiting - 1) → waiting ≡ []
none-last [] e = refl
none-last (x ∷ xs) e = absurd (grind (arith, e ∙ slice_get-get_or (x ∷ xs) (length (x ∷ xs) - 1) x (omega arith)))

some-last : (waiting : List Open) (x : Open) → Some x ≡ slice_get waiting (length waiting - 1) → waiting ≡ take (length waiting - 1) waiting ++ x ∷ []
some-last [] x e = absurd (grind (arith, e))
some-last (y ∷ ys) x e =
    let more = take_more (y ∷ ys) (length (y ∷ ys) - 1) y (omega arith) in
    let last = get_or_from_slice_get (y ∷ ys) (length (y ∷ ys) - 1) x y (sym e) in
    let one : length (y ∷ ys) ≡ (length (y ∷ ys) - 1) + 1 = omega arith in
    sym (take-whole (y ∷ ys)) ∙ ap (λ n. take n (y ∷ ys)) one ∙ more ∙ ap (λ z. take (length (y ∷ ys) - 1) (y ∷ ys) ++ z ∷ []) last
  where
    take-whole : (xs : List Open) → take (length xs) xs ≡ xs
    take-whole [] = refl
    take-whole (x ∷ xs) = ap (λ l. x ∷ l) (take-whole xs)

-- the last that waits isn't in it, or none waits
pub last-outside : (depth : Option ℕ) (waiting : List Open) (o : Open) → Some o ≡ slice_get waiting (length waiting - 1) → is_inside depth (listed o).here ≡ false →
    HasNoneInside depth waiting
last-outside depth waiting o e miss = none-inside depth waiting (take (length waiting - 1) waiting) o (some-last waiting o e) miss

pub none-waits : (depth : Option ℕ) (waiting : List Open) → None ≡ slice_get waiting (length waiting - 1) → HasNoneInside depth waiting
none-waits depth waiting last =
    let empty : all_listed waiting ≡ [] = ap all_listed (none-last waiting last) in
    (ap (taken depth) empty ∙ taken-none depth, ap (left depth) empty ∙ left-none depth ∙ sym empty)

-- ---- the nodes

has-list : (list : LocationList) (g : Gathered) (ms : List Member) → Gathers g ms → HasTexts list g → HasList list ms
has-list list g ms gathers has = record {
  exact = λ text. has.exact text ∙ ap (λ ts. number_in ts text) gathers.exact;
  prefixes = λ text. has.prefixes text ∙ ap (λ ts. number_in ts text) gathers.prefixes;
  patterns = has.patterns ∙ gathers.patterns;
}

get-more : (nodes : List Node) (x node : Node) (n : ℕ) → slice_get nodes n ≡ Some node → slice_get (nodes ++ x ∷ []) n ≡ Some node
get-more [] x node n h = absurd (grind arith)
get-more (y ∷ ys) x node zero h = h
get-more (y ∷ ys) x node (suc n) h = get-more ys x node n h

get-last : (nodes : List Node) (x : Node) → slice_get (nodes ++ x ∷ []) (length nodes) ≡ Some x
get-last [] x = refl
get-last (y ∷ ys) x = get-last ys x

have-inside : (nodes : List Node) (b d : ℕ) (t : Numbered) → HaveNodes nodes b t → HaveNodes nodes b (inside d t)
unfolding inside HaveNodes
have-inside nodes b d NoneLeft h = tt
have-inside nodes b d (Nest n l inner later) h =
    elim (nat_lt d l.depth) as (λ u. HaveNodes nodes b (cond u (Nest n l inner (inside d later)) NoneLeft))
    [ true ↦ (h.0, h.1, h.2, have-inside nodes b d later h.3) | false ↦ tt ]

have-outside : (nodes : List Node) (b d : ℕ) (t : Numbered) → HaveNodes nodes b t → HaveNodes nodes b (outside d t)
unfolding outside HaveNodes
have-outside nodes b d NoneLeft h = tt
have-outside nodes b d (Nest n l inner later) h =
    elim (nat_lt d l.depth) as (λ u. HaveNodes nodes b (cond u (outside d later) (Nest n l inner later)))
    [ true ↦ have-outside nodes b d later h.3 | false ↦ h ]

have-more : (nodes : List Node) (x : Node) (b c : ℕ) (t : Numbered) → b ≤ c → HaveNodes nodes b t → HaveNodes (nodes ++ x ∷ []) c t
unfolding HaveNodes
have-more nodes x b c NoneLeft le h = tt
have-more nodes x b c (Nest n l inner later) le h =
    let node = h.1 in (
      omega (arith, h.0, le),
      record { node = node.node; is = get-more nodes x node.node n node.is; level = node.level; firm = node.firm; list = node.list },
      have-more nodes x n n inner (omega arith) h.2,
      have-more nodes x b c later le h.3,
    )

pub built-none : IsBuilt [] [] []
unfolding members numbered HaveNodes
built-none = record { count = refl; others = refl; have = tt }

pub built-start : (nodes : List Node) (waiting : List Open) (ls : List CodeLocation) → nodes ≡ [] → waiting ≡ [] → IsBuilt nodes waiting (drop (length ls) ls)
built-start nodes waiting ls n w =
    subst (λ ns. IsBuilt ns waiting (drop (length ls) ls)) (sym n)
    (subst (λ ws. IsBuilt [] ws (drop (length ls) ls)) (sym w) (subst (IsBuilt [] []) (sym (drop_all (length ls) ls (omega arith))) built-none))

module _ (nodes : List Node) (waiting after : List Open) (g : Gathered) (list : LocationList) (has : HasTexts list g) where
  pub built-more : (later : List CodeLocation) (l : CodeLocation) (node : Node) (o : Open) → IsBuilt nodes waiting later → GathersAll g (Some l.depth) waiting after →
      node.level ≡ l.level → node.firm ≡ is_firm l.kind → node.list ≡ list → o.number ≡ length nodes → o.location.now ≡ l →
      IsBuilt (nodes ++ node ∷ []) (after ++ o ∷ []) (l ∷ later)
  unfolding numbered members HaveNodes
  built-more later l node o built all level firm is number here =
      let tree = numbered later in
      let within : HasList list (members (inside l.depth tree)) = subst (HasList list) (ap (taken (Some l.depth)) built.others ∙ sym (members-inside l.depth tree))
      (has-list list g _ all.gathers has) in
      let rest : all_listed after ≡ members (outside l.depth tree) = all.others ∙ ap (left (Some l.depth)) built.others ∙ sym (members-outside l.depth tree) in
      let same : listed o ≡ record { number = length later; here = l } = cc (number, built.count, here) in
      record {
        count = omega (arith, length-append nodes (node ∷ []), built.count);
        others = listed-more after o ∙ ap₂ (λ m ms. m ∷ ms) same rest;
        have = (
          omega arith,
          record {
            node = node;
            is = ap (slice_get (nodes ++ node ∷ [])) (sym built.count) ∙ get-last nodes node;
            level = level;
            firm = firm;
            list = subst (λ x. HasList x (members (inside l.depth tree))) (sym is) within;
          },
          have-more nodes node (length later) (length later) (inside l.depth tree) (omega arith) (have-inside nodes (length later) l.depth tree built.have),
          have-more nodes node (length later) (length (l ∷ later)) (outside l.depth tree) (omega arith) (have-outside nodes (length later) l.depth tree built.have),
        );
      }

  pub built-all : (locations : List CodeLocation) (node : Node) (tree : Tree) → IsBuilt nodes waiting locations → GathersAll g None waiting after →
      node.list ≡ list → tree.nodes.items ≡ nodes ++ node ∷ [] → tree.own ≡ length nodes → IsTreeOf tree locations
  built-all locations node tree built all is here own =
      let at : slice_get tree.nodes.items tree.own ≡ Some node = ap₂ slice_get here own ∙ get-last nodes node in
      let bound : tree.own ≡ length locations = own ∙ built.count in
      record {
        node = node;
        is = at;
        list = subst (λ x. HasList x (members (numbered locations))) (sym is)
            (subst (HasList list) (taken-all (all_listed waiting) ∙ built.others) (has-list list g _ all.gathers has));
        inner = subst (λ ns. HaveNodes ns tree.own (numbered locations)) (sym here)
            (have-more nodes node (length locations) tree.own (numbered locations) (omega (arith, bound)) built.have);
      }

-- The lines of the named variables are those that their server's meaning tells.
use Rattle.std.proofs.Common.{◌≡◌, ℕ, zero, suc, ◌<◌, ◌==◌, nat_lt, Bool, true, false, List, [], ◌∷◌, ◌++◌, length, map, flat_map, get_or, Contains, AllPairs, ◌↔◌, refl, ap, sym, ◌∙◌, subst, arith, if◌then◌else◌}
use Rattle.std.specs.declared.cmp.Ordering.{Ordering}
use Rattle.std.specs.declared.cmp.Ordering.TheVariants.{Less}
use Rattle.std.specs.List.Sorted.{IsStrictlySortedBy}
use Rattle.std.specs.Ordering.{nat_cmp, ordering_then, is_lt}
use Rattle.std.specs.Cmp.Lexicographic.{slice_cmp, nat_list_eq_equiv}
use Rattle.std.proofs.lemmas.Bool.Decides.{nat_tests}
use Rattle.std.proofs.lemmas.Bool.{false≢true}
use Rattle.std.proofs.lemmas.List.{append_assoc, map-append, append-nil, length-map, get_or-map}
use Rattle.std.proofs.lemmas.List.Concat.{flat_map-append}
use Rattle.std.proofs.lemmas.Map.Keys.{Less-from_sorted}
use Rattle.std.proofs.lemmas.Map.Views.{Contains-from_any, list_any-from_Contains}
use Rattle.std.proofs.lemmas.Slice.Eq.{bytes_eq-Decides}
use Rattle.ngx_variables.specs.Paths.{text_of}
use Rattle.source_lines.specs.declared.line.Line.{Line}
use Rattle.source_lines.specs.Lines as raw
use Rattle.site_model.specs.declared.site.Server.{Server}
use Rattle.site_model.specs.declared.site.Site.{Site}
use Rattle.site_views.specs.Pattern.{Pattern}
use Rattle.site_views.specs.Values.{Values, Text, IndexName, PageRule}
use Rattle.site_views.specs.Rewrites.{Program}
use Rattle.site_views.specs.Views.{LevelView, ServerView}
use Rattle.site_whole.specs.Whole.{level_whole, server_whole}
use Rattle.race_meaning.specs.Levels.{levels, block_values}
use Rattle.race_meaning.specs.Reads.{in_text, in_tries, in_target, in_directive}
use Rattle.race_meaning.specs.Named.{is_shown}
use Rattle.race_meaning.specs.Conflicts as meaning
use Rattle.race_meaning.specs.Conflicts.{Source, LevelSources, lines_where, if_so, reads_in, sets_in, sets_it, is_before, AreLines, name_before, AreConflicts}
use Rattle.race_check.specs.Numbers.{level_numbers}
use Rattle.race_check.specs.Told.{AreNamed, named_at, HasNamed}
use Rattle.race_check.proofs.Numbering.{levels_seen}
use Rattle.race_places.specs.Index.{is_among}
use Rattle.race_places.specs.Places.{Origins, LevelOrigins, over_both, source_at, line_list, seen, sources_by, block_sources, level_sources, server_sources, lines_of, keep_if, value_reads, level_reads, level_sets, all_reads, all_sets, AreInOrder, IsPlaced, ArePlaced, conflict_seen}
use Rattle.race_check.specs.declared.conflict.Named.{Named}
use Rattle.race_places.specs.declared.told.Conflict.{Conflict}
use Rattle.race_places.proofs.Among.{same_lines}

-- ---- lists

from_place : {X Y : Type 0} (f : X → Y) (xs : List X) (y : Y) (k : ℕ) → k < length (map f xs) → get_or (map f xs) k y ≡ y → (x : X) × Contains xs x × (f x ≡ y)
from_place f [] y k h e = absurd (omega arith)
from_place f (x ∷ xs) y zero h e = (x, (0, omega arith, refl), e)
from_place f (x ∷ xs) y (suc k) h e =
    let r = from_place f xs y k (omega arith) e in
    (r.0, (suc r.1.0, omega (arith, r.1.1), r.1.2), r.2)

from_map : {X Y : Type 0} (f : X → Y) (xs : List X) (y : Y) → Contains (map f xs) y → (x : X) × Contains xs x × (f x ≡ y)
from_map f xs y h = from_place f xs y h.0 h.1 h.2

to_place : {X Y : Type 0} (f : X → Y) (xs : List X) (x : X) (k : ℕ) → k < length xs → get_or xs k x ≡ x → (k < length (map f xs)) × (get_or (map f xs) k (f x) ≡ f x)
to_place f [] x k h e = absurd (omega arith)
to_place f (y ∷ ys) x zero h e = (omega arith, ap f e)
to_place f (y ∷ ys) x (suc k) h e =
    let r = to_place f ys x k (omega arith) e in
    (omega (arith, r.0), r.1)

to_map : {X Y : Type 0} (f : X → Y) (xs : List X) (x : X) → Contains xs x → Contains (map f xs) (f x)
to_map f xs x h =
    let r = to_place f xs x h.0 h.1 h.2 in
    (h.0, r.0, r.1)

both_ways : {X Y : Type 0} (f : X → Y) (xs ys : List X) → ((x : X) → Contains xs x → Contains ys x) → (y : Y) → Contains (map f xs) y → Contains (map f ys) y
both_ways f xs ys c y h =
    let r = from_map f xs y h in
    subst (Contains (map f ys)) r.2 (to_map f ys r.0 (c r.0 r.1))

no_lines : {A : Type 0} (test : A → Bool) (items : List A) → lines_where test items [] ≡ []
no_lines test [] = refl
no_lines test (a ∷ items) = refl

none_so : (b : Bool) → if_so b [] ≡ []
none_so true = refl
none_so false = refl

-- values without lines read nothing
empty_first : (name : List ℕ) (v : Values) (tail : List Source) →
    if_so (in_text name (text_of v.place)) []
    ++ lines_where (λ (i : IndexName). in_text name i.text) v.index []
    ++ if_so (in_tries name v.tries) []
    ++ lines_where (λ (r : PageRule). in_target name r.target) v.pages []
    ++ lines_where (λ (s : List ℕ × Text). in_text name s.1) v.auth_sets []
    ++ tail ≡ tail
empty_first name v tail =
    let names : IndexName → Bool = λ i. in_text name i.text in
    let rules : PageRule → Bool = λ r. in_target name r.target in
    let sets : (List ℕ × Text) → Bool = λ s. in_text name s.1 in
    ap (λ x. x ++ lines_where names v.index [] ++ if_so (in_tries name v.tries) [] ++ lines_where rules v.pages [] ++ lines_where sets v.auth_sets [] ++ tail) (none_so (in_text name (text_of v.place)))
    ∙ ap (λ x. x ++ if_so (in_tries name v.tries) [] ++ lines_where rules v.pages [] ++ lines_where sets v.auth_sets [] ++ tail) (no_lines names v.index)
    ∙ ap (λ x. x ++ lines_where rules v.pages [] ++ lines_where sets v.auth_sets [] ++ tail) (none_so (in_tries name v.tries))
    ∙ ap (λ x. x ++ lines_where sets v.auth_sets [] ++ tail) (no_lines rules v.pages)
    ∙ ap (λ x. x ++ tail) (no_lines sets v.auth_sets)

-- ---- lines with their files

module _ (files : ℕ → List ℕ) where
  lines_seen : {A : Type 0} (test : A → Bool) (items : List A) (ls : List Line) → seen files (lines_of test items ls) ≡ lines_where test items (seen files ls)
  lines_seen test [] ls = refl
  lines_seen test (a ∷ items) [] = refl
  lines_seen test (a ∷ items) (l ∷ ls) = elim (test a) as (λ b. seen files (if b then l ∷ lines_of test items ls else lines_of test items ls) ≡ (if b then source_at files l ∷ lines_where test items (seen files ls) else lines_where test items (seen files ls))) [
    | true ↦ ap (λ x. source_at files l ∷ x) (lines_seen test items ls)
    | false ↦ lines_seen test items ls
  ]

  kept_seen : (b : Bool) (ls : List Line) → seen files (keep_if b ls) ≡ if_so b (seen files ls)
  kept_seen true ls = refl
  kept_seen false ls = refl

  cut : (items bs : List Line) (us vs : List Source) → seen files items ≡ us → seen files bs ≡ vs → seen files (items ++ bs) ≡ us ++ vs
  cut items bs us vs a b = map-append (source_at files) items bs ∙ ap (λ x. x ++ seen files bs) a ∙ ap (λ x. us ++ x) b

  -- what values read, and a program after them
  level_read : (name : List ℕ) (v : Values) (program : Program) (o : Origins) → seen files (value_reads name v o ++ lines_of (in_directive name) program o.program) ≡ reads_in name (sources_by files v program o)
  unfolding reads_in
  level_read name v program o =
      let place = if_so (in_text name (text_of v.place)) (seen files (line_list o.place)) in
      let index = lines_where (λ (i : IndexName). in_text name i.text) v.index (seen files o.index) in
      let tries = if_so (in_tries name v.tries) (seen files (line_list o.tries)) in
      let pages = lines_where (λ (r : PageRule). in_target name r.target) v.pages (seen files o.pages) in
      let auth = lines_where (λ (s : List ℕ × Text). in_text name s.1) v.auth_sets (seen files o.auth_sets) in
      let own = lines_where (in_directive name) program (seen files o.program) in
      cut _ _ ((((place ++ index) ++ tries) ++ pages) ++ auth) own
      (cut _ _ (((place ++ index) ++ tries) ++ pages) auth
      (cut _ _ ((place ++ index) ++ tries) pages
      (cut _ _ (place ++ index) tries
      (cut _ _ place index (kept_seen (in_text name (text_of v.place)) (line_list o.place)) (lines_seen (λ (i : IndexName). in_text name i.text) v.index o.index))
      (kept_seen (in_tries name v.tries) (line_list o.tries)))
      (lines_seen (λ (r : PageRule). in_target name r.target) v.pages o.pages))
      (lines_seen (λ (s : List ℕ × Text). in_text name s.1) v.auth_sets o.auth_sets))
      (lines_seen (in_directive name) program o.program)

  block_read : (name : List ℕ) (v : Values) (o : Origins) → seen files (value_reads name v o) ≡ flat_map (reads_in name) (block_sources files v o)
  unfolding reads_in
  block_read name v o =
      let place = if_so (in_text name (text_of v.place)) (seen files (line_list o.place)) in
      let index = lines_where (λ (i : IndexName). in_text name i.text) v.index (seen files o.index) in
      let tries = if_so (in_tries name v.tries) (seen files (line_list o.tries)) in
      let pages = lines_where (λ (r : PageRule). in_target name r.target) v.pages (seen files o.pages) in
      let auth = lines_where (λ (s : List ℕ × Text). in_text name s.1) v.auth_sets (seen files o.auth_sets) in
      let all = (((place ++ index) ++ tries) ++ pages) ++ auth in
      cut _ _ (((place ++ index) ++ tries) ++ pages) auth
      (cut _ _ ((place ++ index) ++ tries) pages
      (cut _ _ (place ++ index) tries
      (cut _ _ place index (kept_seen (in_text name (text_of v.place)) (line_list o.place)) (lines_seen (λ (i : IndexName). in_text name i.text) v.index o.index))
      (kept_seen (in_tries name v.tries) (line_list o.tries)))
      (lines_seen (λ (r : PageRule). in_target name r.target) v.pages o.pages))
      (lines_seen (λ (s : List ℕ × Text). in_text name s.1) v.auth_sets o.auth_sets)
      ∙ sym (append-nil (all ++ []) ∙ append-nil all)

  -- pair by pair
  module _ {A B : Type 0} (f : A → B → List Line) (g : LevelSources → List Source) (h : A → B → List LevelSources) (same : (a : A) (b : B) → seen files (f a b) ≡ flat_map g (h a b)) where
    both_seen : (xs : List A) (ys : List B) → seen files (over_both f xs ys) ≡ flat_map g (over_both h xs ys)
    unfolding over_both
    both_seen [] ys = refl
    both_seen (x ∷ xs) [] = refl
    both_seen (x ∷ xs) (y ∷ ys) =
        cut (f x y) (over_both f xs ys) (flat_map g (h x y)) (flat_map g (over_both h xs ys)) (same x y) (both_seen xs ys)
        ∙ sym (flat_map-append g (h x y) (over_both h xs ys))

  level_all : (name : List ℕ) (v : LevelView) (l : LevelOrigins) → seen files (level_reads name v l) ≡ flat_map (reads_in name) (level_sources files v l)
  level_all name v l =
      cut (value_reads name v.values l.own ++ lines_of (in_directive name) v.program l.own.program) (over_both (value_reads name) (flat_map block_values v.program) l.blocks) _ _
      (level_read name v.values v.program l.own)
      (both_seen (value_reads name) (reads_in name) (block_sources files) (block_read name) (flat_map block_values v.program) l.blocks)

  nothing_set : (name : List ℕ) (vs : List Values) (os : List Origins) → flat_map (sets_in name) (over_both (block_sources files) vs os) ≡ []
  unfolding over_both sets_in
  nothing_set name [] os = refl
  nothing_set name (v ∷ vs) [] = refl
  nothing_set name (v ∷ vs) (o ∷ os) = nothing_set name vs os

  level_set : (name : List ℕ) (v : LevelView) (l : LevelOrigins) → seen files (level_sets name v l) ≡ flat_map (sets_in name) (level_sources files v l)
  unfolding sets_in
  level_set name v l =
      lines_seen (sets_it name) v.program l.own.program ∙ sym (append-nil (lines_where (sets_it name) v.program (seen files l.own.program)))
      ∙ ap (λ x. lines_where (sets_it name) v.program (seen files l.own.program) ++ x) (sym (nothing_set name (flat_map block_values v.program) l.blocks))

  pub reads_seen : (name : List ℕ) (views : List LevelView) (ls : List LevelOrigins) → seen files (all_reads name views ls) ≡ flat_map (reads_in name) (over_both (level_sources files) views ls)
  reads_seen name views ls = both_seen (level_reads name) (reads_in name) (level_sources files) (level_all name) views ls

  pub sets_seen : (name : List ℕ) (views : List LevelView) (ls : List LevelOrigins) → seen files (all_sets name views ls) ≡ flat_map (sets_in name) (over_both (level_sources files) views ls)
  sets_seen name views ls = both_seen (level_sets name) (sets_in name) (level_sources files) (level_set name) views ls

  pub lines_are : (all told : List Line) (whole : List Source) → seen files all ≡ whole → AreInOrder all told → AreLines whole (seen files told)
  lines_are all told whole e o =
      record {
        same = λ s. (
          λ h. both_ways (source_at files) all told (λ l. (o.same l).0) s (subst (λ x. Contains x s) (sym e) h),
          λ h. subst (λ x. Contains x s) e (both_ways (source_at files) told all (λ l. (o.same l).1) s h),
        );
        rising = rising_seen told o.rising;
      }
    where
      rising_seen : (told : List Line) → AllPairs (λ a b. raw.is_before a b ≡ true) told → AllPairs (λ a b. is_before a b ≡ true) (seen files told)
      rising_seen [] r = λ i j d h k. absurd (omega (arith, k))
      rising_seen (t ∷ ts) r = λ i j d h k.
          let long : length (seen files (t ∷ ts)) ≡ length (t ∷ ts) = length-map (t ∷ ts) (source_at files) in
          subst (λ (a : Source). is_before a (get_or (seen files (t ∷ ts)) j d) ≡ true) (sym (get_or-map (source_at files) (t ∷ ts) i t d (omega (arith, long, h, k))))
          (subst (λ (b : Source). is_before (source_at files (get_or (t ∷ ts) i t)) b ≡ true) (sym (get_or-map (source_at files) (t ∷ ts) j t d (omega (arith, long, k))))
          (r i j t h (omega (arith, long, k))))

-- ---- what is told of a server

less_by : (a b : ℕ) (o : Ordering) (rest : Bool) → (o ≡ Less → rest ≡ true) → ordering_then (nat_cmp a b) o ≡ Less → (if a == b then rest else nat_lt a b) ≡ true
less_by a b o rest r e = grind (arith, nat_tests, e, r)

name_less : (a b : List ℕ) → slice_cmp nat_cmp a b ≡ Less → name_before a b ≡ true
unfolding name_before
name_less [] [] e = absurd (false≢true (ap is_lt e))
name_less [] (b ∷ t) e = refl
name_less (a ∷ s) [] e = absurd (false≢true (ap is_lt e))
name_less (a ∷ s) (b ∷ t) e = less_by a b (slice_cmp nat_cmp s t) (name_before s t) (name_less s t) e

module _ (files : ℕ → List ℕ) (server : ServerView) (lines : List LevelOrigins) (number : ℕ) where
  abbrev sources : List LevelSources
  sources = server_sources files server lines

  abbrev pub sets : List ℕ → List Line
  sets name = all_sets name (levels server) lines

  abbrev pub reads : List ℕ → List Line
  reads name = all_reads name (levels server) lines

  abbrev given : List Conflict → List meaning.Conflict
  given cs = map (conflict_seen files) cs

  abbrev name_of : meaning.Conflict → List ℕ
  name_of c = c.name

  -- it tells of the variable of this name
  abbrev IsOf : List ℕ → meaning.Conflict → Type 0
  IsOf name c =
      (c.server ≡ number) × (c.name ≡ name) × AreLines (flat_map (sets_in name) sources) c.sets
      × AreLines (flat_map (reads_in name) sources) c.reads × (c.documents ≡ is_shown server name)

  is_of : (name : List ℕ) (c : Conflict) → IsPlaced sets reads (named_at number server name) c → IsOf name (conflict_seen files c)
  is_of name c p = (
    p.server,
    p.name,
    lines_are files (sets name) c.sets.items _ (sets_seen files name (levels server) lines) p.set_at,
    lines_are files (reads name) c.reads.items _ (reads_seen files name (levels server) lines) p.read_at,
    p.documents,
  )

  names_of : (names : List (List ℕ)) (cs : List Conflict) → ArePlaced sets reads (map (named_at number server) names) cs → map name_of (given cs) ≡ names
  unfolding ArePlaced
  names_of [] [] p = refl
  names_of [] (c ∷ cs) p = absurd p
  names_of (n ∷ ns) [] p = absurd p
  names_of (n ∷ ns) (c ∷ cs) p = ap (λ x. x ∷ map name_of (given cs)) p.0.name ∙ ap (λ x. n ∷ x) (names_of ns cs p.1)

  all_of : (names : List (List ℕ)) (cs : List Conflict) → ArePlaced sets reads (map (named_at number server) names) cs
      → (c : meaning.Conflict) (k : ℕ) → k < length (given cs) → get_or (given cs) k c ≡ c → IsOf c.name c
  unfolding ArePlaced
  all_of [] [] p c k h e = absurd (omega (arith, h))
  all_of [] (d ∷ ds) p c k h e = absurd p
  all_of (n ∷ ns) [] p c k h e = absurd p
  all_of (n ∷ ns) (d ∷ ds) p c zero h e =
      let o : IsOf n c = subst (IsOf n) e (is_of n d p.0) in
      subst (λ m. IsOf m c) (sym o.1) o
  all_of (n ∷ ns) (d ∷ ds) p c (suc k) h e = all_of ns ds p.1 c k (omega (arith, h)) e

  pub are_conflicts : (names : List (List ℕ)) → AreNamed server names → (cs : List Conflict) → ArePlaced sets reads (map (named_at number server) names) cs
      → AreConflicts number server sources (given cs)
  are_conflicts names are cs p =
      let same : map name_of (given cs) ≡ names = names_of names cs p in
      record {
        told = λ c h.
            let o = all_of names cs p c h.0 h.1 h.2 in
            let there : Contains names c.name = subst (λ l. Contains l c.name) same (to_map name_of (given cs) c h) in (
              o.0,
              record {
                named = sym (are.exact c.name) ∙ list_any-from_Contains nat_list_eq_equiv c.name names there;
                sets = o.2;
                reads = o.3;
                documents = o.4;
              },
            );
        all = λ name e. subst (λ l. Contains l name) (sym same) (Contains-from_any (λ x y. (bytes_eq-Decides x y).0) name names (are.exact name ∙ e));
        rising = λ i j d h k.
            let long : length (map name_of (given cs)) ≡ length (given cs) = length-map (given cs) name_of in
            let less = Less-from_sorted (slice_cmp nat_cmp) (map name_of (given cs)) i j (name_of d) (subst (IsStrictlySortedBy (slice_cmp nat_cmp)) (sym same) are.rising) h (omega (arith, long, k)) in
            name_less (name_of (get_or (given cs) i d)) (name_of (get_or (given cs) j d))
            (subst (λ a. slice_cmp nat_cmp a (name_of (get_or (given cs) j d)) ≡ Less) (get_or-map name_of (given cs) i d (name_of d) (omega (arith, h, k)))
            (subst (λ b. slice_cmp nat_cmp (get_or (map name_of (given cs)) i (name_of d)) b ≡ Less) (get_or-map name_of (given cs) j d (name_of d) k) less));
      }

-- ---- one more

module _ (sets reads : List ℕ → List Line) (all : List Named) (first : List Conflict) where
  abbrev Comes : List Conflict → List Conflict → Type 0
  Comes out later = (here : List Conflict) × ArePlaced sets reads all here × (out ++ later ≡ first ++ here)

  pub placed_more : (n : Named) (rest whole : List Named) (c : Conflict) (old new : List Conflict) → whole ≡ n ∷ rest → IsPlaced sets reads n c → new ≡ old ++ c ∷ []
      → ((later : List Conflict) → ArePlaced sets reads whole later → Comes old later)
      → (later : List Conflict) → ArePlaced sets reads rest later → Comes new later
  unfolding ArePlaced
  placed_more n rest whole c old new at p is before later h =
      let r = before (c ∷ later) (subst (λ l. ArePlaced sets reads l (c ∷ later)) (sym at) (p, h)) in
      (r.0, r.1, ap (λ l. l ++ later) is ∙ append_assoc old (c ∷ []) later ∙ r.2)

  pub placed_over : (rest : List Named) (out : List Conflict) → rest ≡ [] → ((later : List Conflict) → ArePlaced sets reads rest later → Comes out later)
      → (here : List Conflict) × ArePlaced sets reads all here × (out ≡ first ++ here)
  unfolding ArePlaced
  placed_over rest out over before =
      let r = before [] (subst (λ l. ArePlaced sets reads l []) (sym over) tt) in
      (r.0, r.1, sym (append-nil out) ∙ r.2)

-- ---- a server

-- by lines that are the same for each name, or the same ones in another order
placed_by : (f g sets reads : List ℕ → List Line) → ((name : List ℕ) → f name ≡ sets name) → ((name : List ℕ) (l : Line) → Contains (g name) l ↔ Contains (reads name) l) → (named : List Named) (here : List Conflict) → ArePlaced f g named here → ArePlaced sets reads named here
unfolding ArePlaced
placed_by f g sets reads s r [] [] p = p
placed_by f g sets reads s r [] (c ∷ cs) p = absurd p
placed_by f g sets reads s r (n ∷ ns) [] p = absurd p
placed_by f g sets reads s r (n ∷ ns) (c ∷ cs) p = (
  record {
    server = p.0.server;
    name = p.0.name;
    documents = p.0.documents;
    set_at = subst (λ l. AreInOrder l c.sets.items) (s n.name) p.0.set_at;
    read_at = record {
      same = λ l. (λ h. (p.0.read_at.same l).0 ((r n.name l).1 h), λ h. (r n.name l).0 ((p.0.read_at.same l).1 h));
      rising = p.0.read_at.rising;
    };
  },
  placed_by f g sets reads s r ns cs p.1,
)

pub server_placed : (files : ℕ → List ℕ) (patterns : List Pattern) (site : Site) (s : Server) (lines : List LevelOrigins) (number : ℕ) (named : List Named)
    → HasNamed number (server_whole patterns site s) [] named
    → (numbers : List ℕ) → numbers ≡ level_numbers s → (numbers' : List ℕ) → numbers' ≡ level_numbers s
    → (set_at read_at : List ℕ → List Line)
    → ((name : List ℕ) → set_at name ≡ all_sets name (map (level_whole patterns site) numbers) lines)
    → ((name : List ℕ) (line : Line) → is_among line (read_at name) ≡ is_among line (all_reads name (map (level_whole patterns site) numbers') lines))
    → (conflicts old : List Conflict) → old ≡ []
    → (here : List Conflict) × ArePlaced set_at read_at named here × (conflicts ≡ old ++ here)
    → AreConflicts number (server_whole patterns site s) (server_sources files (server_whole patterns site s) lines) (map (conflict_seen files) conflicts)
server_placed files patterns site s lines number named h numbers l numbers' l' set_at read_at is_set is_read conflicts old none p =
    let server : ServerView = server_whole patterns site s in
    let views : (ns : List ℕ) → ns ≡ level_numbers s → map (level_whole patterns site) ns ≡ levels server = λ ns e. ap (map (level_whole patterns site)) e ∙ levels_seen patterns site s in
    let these = placed_by set_at read_at (sets files server lines number) (reads files server lines number)
    (λ name. is_set name ∙ ap (λ v. all_sets name v lines) (views numbers l))
    (λ name. same_lines (read_at name) (reads files server lines number name) (λ l. is_read name l ∙ ap (λ v. is_among l (all_reads name v lines)) (views numbers' l'))) named p.0 p.1 in
    let whole = subst (λ ns. ArePlaced (sets files server lines number) (reads files server lines number) ns p.0) h.2 these in
    subst (λ cs. AreConflicts number server (server_sources files server lines) (map (conflict_seen files) cs)) (sym (p.2 ∙ ap (λ o. o ++ p.0) none)) (are_conflicts files server lines number h.0 h.1 p.0 whole)

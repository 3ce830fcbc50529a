-- The turn of a name in the acts of the meaning.
use Rattle.std.proofs.Common.{◌≡◌, ℕ, ◌+◌, ◌-◌, ◌<◌, ◌≤◌, nat_eq, arith, zero, suc, slice_get, option_map, Bool, true, false, cond, List, [], ◌∷◌, ◌++◌, length, get_or, drop, drop-cons, add-one, map, Option, None, Some, inl, inr, unwrap_or, MatchOption, refl, sym, ◌∙◌, ap, subst}
use Rattle.std.proofs.Math.ListN.{drop_of_length-le}
use Rattle.std.proofs.lemmas.List.{drop-map}
use Rattle.std.proofs.lemmas.Option.{slice_get-get_or}
use Rattle.std.proofs.lemmas.Bool.{cond-true, cond-false}
use Rattle.acts.specs.Vars.{Vars}
use Rattle.acts.specs.Act.{Done, Stat, ◌>>=◌, settled, settled_then}
use Rattle.acts.proofs.ActLaws.{settles_in_turn}
use Rattle.file_tree.specs.Tree.{Item, AFile, AFolder, ALocked, Nothing, node_of}
use Rattle.file_tree.specs.declared.job.Node.{Node}
use Rattle.target_text.specs.ngx_variables.declared.request.Main.{Main}
use Rattle.target_text.specs.ngx_variables.declared.request.FileRoot.{FileRoot}
use Rattle.target_text.specs.ngx_variables.declared.request.Request.{Request}
use Rattle.target_text.specs.ngx_variables.Texts.{value_text, is_too_long}
use Rattle.target_text.specs.file_path.Located.{Located, located_at}
use Rattle.target_text.specs.file_path.Located.Located.{TooLong, NotThere, At}
use Rattle.site_whole.specs.site_model.declared.values.IndexName.{IndexName as CodeName}
use Rattle.site_whole.specs.Whole.{index_seen}
use Rattle.site_whole.specs.site_views.Values.{Text, IndexName, LastTry, Tries}
use Rattle.site_whole.specs.site_views.Values.LastTry.{ToPath, ToLocation, ToCode}
use Rattle.site_whole.specs.site_views.Rewrites.FileTest.{IsFile, IsFolder}
use Rattle.target_text.specs.request_meaning.Rewriting.{passes}
use Rattle.target_text.specs.request_meaning.Serving.{Serving, Standing}
use Rattle.target_text.specs.request_meaning.Cuts.{Target, fit_value, target, or_none}
use Rattle.target_text.specs.request_meaning.Errors.{Decided, decided}
use Rattle.target_text.specs.request_meaning.Errors.Outcome.{Fails, GoesTo, GoesToNamed}
use Rattle.target_text.specs.request_meaning.Contents.{item, item_at, with_item, with_text, tried, try_name, try_at, last_try, is_found, ends_in_slash, indexed, index_name, index_at, no_index, goes_to, content, with_path, last_code}
use Rattle.target_text.specs.Settled.{fit, target_text, FitValueSettles, TargetSettles, ItemSettles}
use Rattle.try_index.specs.declared.probe.Turn.{Turn}
use Rattle.try_index.specs.declared.tries.TryState.{TryState}
use Rattle.try_index.specs.declared.index.IndexState.{IndexState}
use Rattle.try_index.specs.Searches as searches
use Rattle.try_index.specs.Searches.{IsAt, IsNotThere, IsThere, IsUnfit}

-- an act that settles as a value, and what follows
then_does : {A B : Type 0} (m : Serving A) (k : A → Serving B) (vars : Vars) (a : A) → settled m vars ≡ (Done a, vars) → settled (m >>= k) vars ≡ settled (k a) vars
unfolding settled_then
then_does m k vars a e = settles_in_turn m k vars ∙ ap (λ s. settled_then s.0 s.1 k) e

-- an answer as its node
pub found_node : (name : List ℕ) (i : Item) → searches.is_found name (node_of i) ≡ is_found name i
found_node name (AFile bytes date) = refl
found_node name AFolder = refl
found_node name ALocked = refl
found_node name Nothing = refl

pub file_node : (i : Item) → searches.is_file (node_of i) ≡ passes IsFile i
file_node (AFile bytes date) = refl
file_node AFolder = refl
file_node ALocked = refl
file_node Nothing = refl

never : (name : List ℕ) → is_found name Nothing ≡ false
never name = elim (ends_in_slash name) as (λ b. cond b (passes IsFolder Nothing) (passes IsFile Nothing) ≡ false) [ true ↦ refl | false ↦ refl ]

module _ (fits : FitValueSettles) (items : ItemSettles) (main : Main) (vars : Vars) (s : Standing) where
  -- what follows a text, by whether it fits
  behind_fit : (text : Text) (k : Option (List ℕ) → Serving Decided) (o : Option (List ℕ)) → fit (value_text main s.request vars text) ≡ o →
      settled (fit_value main s.request text >>= k) vars ≡ settled (k o) vars
  behind_fit text k o e = then_does (fit_value main s.request text) k vars o (fits main s.request vars text ∙ ap (λ o. (Done o, vars)) e)

  -- what follows where a file may be
  behind_item : (uri : List ℕ) (k : Option Item → Serving Decided) (l : Located) → located_at main s.request vars s.values.place uri ≡ l →
      settled (item main s uri >>= k) vars ≡ settled_then (item_at l) vars k
  behind_item uri k l e =
      settles_in_turn (item main s uri) k vars
      ∙ ap (λ m. settled_then m.0 m.1 k) (items main s vars uri ∙ ap (λ l. (item_at l, vars)) e)

  -- a name of which no file can be there is passed over
  pub item_nowhere : (uri : List ℕ) (k : Item → Serving Decided) → located_at main s.request vars s.values.place uri ≡ NotThere →
      settled (item main s uri >>= λ i. with_item s i k) vars ≡ settled (k Nothing) vars
  unfolding settled_then
  item_nowhere uri k e = behind_item uri (λ i. with_item s i k) NotThere e

  pub item_unfit : (uri : List ℕ) (k : Item → Serving Decided) → located_at main s.request vars s.values.place uri ≡ TooLong →
      settled (item main s uri >>= λ i. with_item s i k) vars ≡ (Done (decided s (Fails 500)), vars)
  unfolding settled_then settled
  item_unfit uri k e = behind_item uri (λ i. with_item s i k) TooLong e

  pub item_there : (uri path : List ℕ) (k : Item → Serving Decided) → located_at main s.request vars s.values.place uri ≡ At path →
      settled (item main s uri >>= λ i. with_item s i k) vars ≡ settled (Stat path k) vars
  unfolding settled_then settled ◌>>=◌
  item_there uri path k e = behind_item uri (λ i. with_item s i k) (At path) e

  text_fits : (text : Text) → is_too_long (value_text main s.request vars text) ≡ false → fit (value_text main s.request vars text) ≡ Some (value_text main s.request vars text)
  text_fits text e = cond-false _ _ _ e

  text_unfit : (text : Text) → is_too_long (value_text main s.request vars text) ≡ true → fit (value_text main s.request vars text) ≡ None
  text_unfit text e = cond-true _ _ _ e

  module _ (n : Text) (names : List Text) (last : LastTry) where
    abbrev others : Serving Decided
    others = tried main s names last

    name_is : (o : Option (List ℕ)) → fit (value_text main s.request vars n) ≡ o →
        settled (tried main s (n ∷ names) last) vars ≡ settled (with_text s o (λ name. try_name main s name others)) vars
    unfolding tried
    name_is o e = behind_fit n (λ o. with_text s o (λ name. try_name main s name (tried main s names last))) o e

    name_fits : (name : List ℕ) → fit (value_text main s.request vars n) ≡ Some name →
        settled (tried main s (n ∷ names) last) vars ≡ settled (item main s name >>= λ i. with_item s i (λ i. try_at main s name i others)) vars
    unfolding try_name
    name_fits name e = name_is (Some name) e

    tried_unfit : is_too_long (value_text main s.request vars n) ≡ true → settled (tried main s (n ∷ names) last) vars ≡ (Done (decided s (Fails 500)), vars)
    unfolding settled
    tried_unfit e = name_is None (text_unfit n e)

    -- the name's turn, by where its file may be
    tried_nowhere : IsNotThere main s.request vars s.values.place [] n → settled (tried main s (n ∷ names) last) vars ≡ settled others vars
    tried_nowhere h =
        let name = value_text main s.request vars n in
        name_fits name (text_fits n h.fits)
        ∙ item_nowhere name (λ i. try_at main s name i others) h.nowhere
        ∙ ap (λ m. settled m vars) (cond-false (is_found name Nothing) _ _ (never name))

    tried_there : (turn : Turn) → IsThere main s.request vars s.values.place [] n turn →
        settled (tried main s (n ∷ names) last) vars ≡ settled (Stat turn.path (λ i. try_at main s turn.uri i others)) vars
    tried_there turn h =
        let name = value_text main s.request vars n in
        name_fits name (text_fits n h.fits)
        ∙ item_there name turn.path (λ i. try_at main s name i others) h.at
        ∙ ap (λ (name : List ℕ). settled (Stat turn.path (λ i. try_at main s name i others)) vars) (sym h.named)

    tried_unfit_at : IsUnfit main s.request vars s.values.place [] n → settled (tried main s (n ∷ names) last) vars ≡ (Done (decided s (Fails 500)), vars)
    tried_unfit_at (inl e) = tried_unfit e
    tried_unfit_at (inr e) =
        let name = value_text main s.request vars n in
        name_fits name (text_fits n e.0) ∙ item_unfit name (λ i. try_at main s name i others) e.1

  module _ (n : IndexName) (names : List IndexName) where
    abbrev more : Serving Decided
    more = indexed main s names

    index_is : (o : Option (List ℕ)) → fit (value_text main s.request vars n.text) ≡ o →
        settled (indexed main s (n ∷ names)) vars ≡ settled (with_text s o (λ name. index_name main s n.is_path name more)) vars
    unfolding indexed
    index_is o e = behind_fit n.text (λ o. with_text s o (λ name. index_name main s n.is_path name (indexed main s names))) o e

    indexed_path : (name : List ℕ) → n.is_path ≡ true → fit (value_text main s.request vars n.text) ≡ Some name →
        settled (indexed main s (n ∷ names)) vars ≡ settled (goes_to s name) vars
    unfolding index_name
    indexed_path name p e = index_is (Some name) e ∙ ap (λ m. settled m vars) (cond-true n.is_path _ _ p)

    indexed_name : (name : List ℕ) → n.is_path ≡ false → fit (value_text main s.request vars n.text) ≡ Some name →
        settled (indexed main s (n ∷ names)) vars ≡ settled (item main s (s.request.path ++ name) >>= λ i. with_item s i (λ i. index_at s (s.request.path ++ name) i more)) vars
    unfolding index_name
    indexed_name name p e = index_is (Some name) e ∙ ap (λ m. settled m vars) (cond-false n.is_path _ _ p)

    indexed_unfit : fit (value_text main s.request vars n.text) ≡ None → settled (indexed main s (n ∷ names)) vars ≡ (Done (decided s (Fails 500)), vars)
    unfolding settled
    indexed_unfit e = index_is None e

    indexed_nowhere : n.is_path ≡ false → IsNotThere main s.request vars s.values.place s.request.path n.text → settled (indexed main s (n ∷ names)) vars ≡ settled more vars
    indexed_nowhere p h =
        let name = value_text main s.request vars n.text in
        indexed_name name p (text_fits n.text h.fits)
        ∙ item_nowhere (s.request.path ++ name) (λ i. index_at s (s.request.path ++ name) i more) h.nowhere

    indexed_there : n.is_path ≡ false → (turn : Turn) → IsThere main s.request vars s.values.place s.request.path n.text turn →
        settled (indexed main s (n ∷ names)) vars ≡ settled (Stat turn.path (λ i. index_at s turn.uri i more)) vars
    indexed_there p turn h =
        let name = value_text main s.request vars n.text in
        indexed_name name p (text_fits n.text h.fits)
        ∙ item_there (s.request.path ++ name) turn.path (λ i. index_at s (s.request.path ++ name) i more) h.at
        ∙ ap (λ (uri : List ℕ). settled (Stat turn.path (λ i. index_at s uri i more)) vars) (sym h.named)

    indexed_unfit_at : n.is_path ≡ false → IsUnfit main s.request vars s.values.place s.request.path n.text → settled (indexed main s (n ∷ names)) vars ≡ (Done (decided s (Fails 500)), vars)
    indexed_unfit_at p (inl e) = indexed_unfit (text_unfit n.text e)
    indexed_unfit_at p (inr e) =
        let name = value_text main s.request vars n.text in
        indexed_name name p (text_fits n.text e.0) ∙ item_unfit (s.request.path ++ name) (λ i. index_at s (s.request.path ++ name) i more) e.1

-- what holds of this request and place holds where the request is in such a level
moved : (P : Request → FileRoot → Type 0) (request : Request) (place : FileRoot) (s : Standing) → IsAt request place s → P request place → P s.request s.values.place
moved P request place s h x = subst (λ r. P r s.values.place) (sym h.of_request) (subst (λ p. P request p) (sym h.at_place) x)

module _ (fits : FitValueSettles) (items : ItemSettles) (main : Main) (vars : Vars) (request : Request) (place : FileRoot) (s : Standing) (h : IsAt request place s) where
  pub try_nowhere : (n : Text) (names : List Text) (last : LastTry) → IsNotThere main request vars place [] n → settled (tried main s (n ∷ names) last) vars ≡ settled (tried main s names last) vars
  try_nowhere n names last e = tried_nowhere fits items main vars s n names last (moved (λ r p. IsNotThere main r vars p [] n) request place s h e)

  pub try_there : (n : Text) (names : List Text) (last : LastTry) (turn : Turn) → IsThere main request vars place [] n turn →
      settled (tried main s (n ∷ names) last) vars ≡ settled (Stat turn.path (λ i. try_at main s turn.uri i (tried main s names last))) vars
  try_there n names last turn e = tried_there fits items main vars s n names last turn (moved (λ r p. IsThere main r vars p [] n turn) request place s h e)

  pub try_unfit : (n : Text) (names : List Text) (last : LastTry) → IsUnfit main request vars place [] n → settled (tried main s (n ∷ names) last) vars ≡ (Done (decided s (Fails 500)), vars)
  try_unfit n names last e = tried_unfit_at fits items main vars s n names last (moved (λ r p. IsUnfit main r vars p [] n) request place s h e)

  pub name_path : (n : IndexName) (names : List IndexName) (name : List ℕ) → n.is_path ≡ true → fit (value_text main request vars n.text) ≡ Some name →
      settled (indexed main s (n ∷ names)) vars ≡ settled (goes_to s name) vars
  name_path n names name p e = indexed_path fits items main vars s n names name p (moved (λ r p. fit (value_text main r vars n.text) ≡ Some name) request place s h e)

  pub name_unfit : (n : IndexName) (names : List IndexName) → fit (value_text main request vars n.text) ≡ None →
      settled (indexed main s (n ∷ names)) vars ≡ (Done (decided s (Fails 500)), vars)
  name_unfit n names e = indexed_unfit fits items main vars s n names (moved (λ r p. fit (value_text main r vars n.text) ≡ None) request place s h e)

  pub name_nowhere : (n : IndexName) (names : List IndexName) → n.is_path ≡ false → IsNotThere main request vars place request.path n.text →
      settled (indexed main s (n ∷ names)) vars ≡ settled (indexed main s names) vars
  name_nowhere n names p e = indexed_nowhere fits items main vars s n names p (moved (λ r p. IsNotThere main r vars p r.path n.text) request place s h e)

  pub name_there : (n : IndexName) (names : List IndexName) → n.is_path ≡ false → (turn : Turn) → IsThere main request vars place request.path n.text turn →
      settled (indexed main s (n ∷ names)) vars ≡ settled (Stat turn.path (λ i. index_at s turn.uri i (indexed main s names))) vars
  name_there n names p turn e = indexed_there fits items main vars s n names p turn (moved (λ r p. IsThere main r vars p r.path n.text turn) request place s h e)

  pub name_unfit_at : (n : IndexName) (names : List IndexName) → n.is_path ≡ false → IsUnfit main request vars place request.path n.text →
      settled (indexed main s (n ∷ names)) vars ≡ (Done (decided s (Fails 500)), vars)
  name_unfit_at n names p e = indexed_unfit_at fits items main vars s n names p (moved (λ r p. IsUnfit main r vars p r.path n.text) request place s h e)

-- the last word's path
module _ (targets : TargetSettles) (main : Main) (vars : Vars) (s : Standing) (text : Text) where
  goes_by : (o : Option Target) → target_text main s.request vars text ≡ o →
      settled (last_try main s (ToPath text)) vars ≡ settled (with_text s o (λ (t : Target). Done (decided s (GoesTo t.path (or_none t.args))))) vars
  unfolding last_try
  goes_by o e = then_does (target main s.request text) (λ o. with_text s o (λ (t : Target). Done (decided s (GoesTo t.path (or_none t.args))))) vars o (targets main s.request vars text ∙ ap (λ o. (Done o, vars)) e)

  pub last_goes : (request : Request) → s.request ≡ request → (t : Target) → target_text main request vars text ≡ Some t →
      settled (last_try main s (ToPath text)) vars ≡ settled (Done (decided s (GoesTo t.path (or_none t.args)))) vars
  last_goes request same t e = goes_by (Some t) (ap (λ r. target_text main r vars text) same ∙ e)

  pub last_unfit : (request : Request) → s.request ≡ request → target_text main request vars text ≡ None →
      settled (last_try main s (ToPath text)) vars ≡ (Done (decided s (Fails 500)), vars)
  unfolding settled
  last_unfit request same e = goes_by None (ap (λ r. target_text main r vars text) same ∙ e)

-- ---- steps of a search

next_at : {X : Type 0} (xs : List X) (j : ℕ) (x : X) → j < length xs → x ≡ get_or xs j x → drop j xs ≡ x ∷ drop (j + 1) xs
next_at xs j x h e = drop-cons xs j x h ∙ ap (λ y. y ∷ drop (suc j) xs) (sym e) ∙ ap (λ n. x ∷ drop n xs) (sym (add-one j))

next_seen : (xs : List CodeName) (j : ℕ) (x : CodeName) → j < length xs → x ≡ get_or xs j x → drop j (map index_seen xs) ≡ index_seen x ∷ drop (j + 1) (map index_seen xs)
next_seen xs j x h e =
    drop-map index_seen j xs ∙ ap (map index_seen) (next_at xs j x h e) ∙ ap (λ l. index_seen x ∷ l) (sym (drop-map index_seen (j + 1) xs))

pub got_at : {X : Type 0} (xs : List X) (j : ℕ) (x : X) → j < length xs → x ≡ get_or xs j x → slice_get xs j ≡ Some x
got_at xs j x h e = slice_get-get_or xs j x h ∙ ap (λ y. Some y) (sym e)

got_map : (xs : List CodeName) (j : ℕ) → slice_get (map index_seen xs) j ≡ option_map index_seen (slice_get xs j)
got_map [] j = refl
got_map (x ∷ xs) zero = refl
got_map (x ∷ xs) (suc j) = got_map xs j

pub got_seen : (xs : List CodeName) (j : ℕ) (x : CodeName) → j < length xs → x ≡ get_or xs j x → slice_get (map index_seen xs) j ≡ Some (index_seen x)
got_seen xs j x h e = got_map xs j ∙ ap (option_map index_seen) (got_at xs j x h e)

module _ (main : Main) (vars : Vars) (s : Standing) where
  pub tried_done : (names : List Text) (last : LastTry) (at : ℕ) → length names ≤ at → settled (tried main s (drop at names) last) vars ≡ settled (last_try main s last) vars
  unfolding tried
  tried_done names last at h = ap (λ names. settled (tried main s names last) vars) (drop_of_length-le names h)

  pub indexed_done : (names : List CodeName) (at : ℕ) → length names ≤ at → settled (indexed main s (drop at (map index_seen names))) vars ≡ settled (no_index main s) vars
  unfolding indexed
  indexed_done names at h = ap (λ names. settled (indexed main s names) vars) (drop-map index_seen at names ∙ ap (map index_seen) (drop_of_length-le names h))

module _ (fits : FitValueSettles) (items : ItemSettles) (main : Main) (vars : Vars) (request : Request) (place : FileRoot) (s : Standing) (h : IsAt request place s) where
  module _ (names : List Text) (last : LastTry) (at : ℕ) (n : Text) (inside : at < length names) (here : n ≡ get_or names at n) where
    first_of_them : settled (tried main s (drop at names) last) vars ≡ settled (tried main s (n ∷ drop (at + 1) names) last) vars
    first_of_them = ap (λ names. settled (tried main s names last) vars) (next_at names at n inside here)

    pub step_nowhere : IsNotThere main request vars place [] n → settled (tried main s (drop at names) last) vars ≡ settled (tried main s (drop (at + 1) names) last) vars
    step_nowhere e = first_of_them ∙ try_nowhere fits items main vars request place s h n (drop (at + 1) names) last e

    pub step_there : (turn : Turn) → IsThere main request vars place [] n turn →
        settled (tried main s (drop at names) last) vars ≡ settled (Stat turn.path (λ i. try_at main s turn.uri i (tried main s (drop (at + 1) names) last))) vars
    step_there turn e = first_of_them ∙ try_there fits items main vars request place s h n (drop (at + 1) names) last turn e

    pub step_unfit : IsUnfit main request vars place [] n → settled (tried main s (drop at names) last) vars ≡ (Done (decided s (Fails 500)), vars)
    step_unfit e = first_of_them ∙ try_unfit fits items main vars request place s h n (drop (at + 1) names) last e

  module _ (names : List CodeName) (at : ℕ) (n : CodeName) (inside : at < length names) (here : n ≡ get_or names at n) where
    abbrev later : List IndexName
    later = drop (at + 1) (map index_seen names)

    first_name : settled (indexed main s (drop at (map index_seen names))) vars ≡ settled (indexed main s (index_seen n ∷ later)) vars
    first_name = ap (λ names. settled (indexed main s names) vars) (next_seen names at n inside here)

    pub index_path : (name : List ℕ) → n.is_path ≡ true → fit (value_text main request vars n.text) ≡ Some name →
        settled (indexed main s (drop at (map index_seen names))) vars ≡ settled (goes_to s name) vars
    index_path name p e = first_name ∙ name_path fits items main vars request place s h (index_seen n) later name p e

    pub index_unfit : fit (value_text main request vars n.text) ≡ None → settled (indexed main s (drop at (map index_seen names))) vars ≡ (Done (decided s (Fails 500)), vars)
    index_unfit e = first_name ∙ name_unfit fits items main vars request place s h (index_seen n) later e

    pub index_nowhere : n.is_path ≡ false → IsNotThere main request vars place request.path n.text →
        settled (indexed main s (drop at (map index_seen names))) vars ≡ settled (indexed main s later) vars
    index_nowhere p e = first_name ∙ name_nowhere fits items main vars request place s h (index_seen n) later p e

    pub index_there : n.is_path ≡ false → (turn : Turn) → IsThere main request vars place request.path n.text turn →
        settled (indexed main s (drop at (map index_seen names))) vars ≡ settled (Stat turn.path (λ i. index_at s turn.uri i (indexed main s later))) vars
    index_there p turn e = first_name ∙ name_there fits items main vars request place s h (index_seen n) later p turn e

    pub index_unfit_at : n.is_path ≡ false → IsUnfit main request vars place request.path n.text →
        settled (indexed main s (drop at (map index_seen names))) vars ≡ (Done (decided s (Fails 500)), vars)
    index_unfit_at p e = first_name ∙ name_unfit_at fits items main vars request place s h (index_seen n) later p e

-- ---- what a state still does

pub or_empty : (o : Option (List ℕ)) (e : List ℕ) → e ≡ [] → unwrap_or o e ≡ or_none o
or_empty None e h = h
or_empty (Some a) e h = refl

module _ (main : Main) (vars : Vars) (s : Standing) where
  pub goes_to_named : (name : List ℕ) → last_try main s (ToLocation name) ≡ Done (decided s (GoesToNamed name))
  unfolding last_try
  goes_to_named name = refl

  pub goes_by_code : (code : ℕ) → last_try main s (ToCode code) ≡ Done (decided s (last_code code))
  unfolding last_try
  goes_by_code code = refl

  module _ (t : Tries) (state : TryState) (item : Item) where
    abbrev rest : Serving Decided
    rest = tried main s (drop state.passed t.names) t.last

    abbrev told_by : Option (List ℕ) → Serving Decided
    told_by asked = elim asked [
      | None ↦ rest
      | Some name ↦ try_at main s name item rest
    ]

    pub told_first : state.asked ≡ None → settled (searches.try_told main s t state item) vars ≡ settled rest vars
    told_first e = ap (λ a. settled (told_by a) vars) e

    module _ (name : List ℕ) (node : Node) (e : state.asked ≡ Some name) (is : node_of item ≡ node) where
      node_is : (b : Bool) → searches.is_found name node ≡ b → is_found name item ≡ b
      node_is b f = sym (found_node name item) ∙ ap (searches.is_found name) is ∙ f

      pub told_found : searches.is_found name node ≡ true → settled (searches.try_told main s t state item) vars ≡ settled (content main (with_path name s)) vars
      told_found f = ap (λ a. settled (told_by a) vars) e ∙ ap (λ m. settled m vars) (cond-true (is_found name item) _ _ (node_is true f))

      pub told_not : searches.is_found name node ≡ false → settled (searches.try_told main s t state item) vars ≡ settled rest vars
      told_not f = ap (λ a. settled (told_by a) vars) e ∙ ap (λ m. settled m vars) (cond-false (is_found name item) _ _ (node_is false f))

  module _ (names : List IndexName) (state : IndexState) (item : Item) where
    abbrev names_left : Serving Decided
    names_left = indexed main s (drop state.passed names)

    abbrev index_by : Option (List ℕ) → Serving Decided
    index_by asked = elim asked [
      | None ↦ names_left
      | Some path ↦ index_at s path item names_left
    ]

    pub index_first : state.asked ≡ None → settled (searches.index_told main s names state item) vars ≡ settled names_left vars
    index_first e = ap (λ a. settled (index_by a) vars) e

    module _ (path : List ℕ) (node : Node) (e : state.asked ≡ Some path) (is : node_of item ≡ node) where
      file_is : (b : Bool) → searches.is_file node ≡ b → passes IsFile item ≡ b
      file_is b f = sym (file_node item) ∙ ap searches.is_file is ∙ f

      pub index_found : searches.is_file node ≡ true → settled (searches.index_told main s names state item) vars ≡ settled (goes_to s path) vars
      index_found f = ap (λ a. settled (index_by a) vars) e ∙ ap (λ m. settled m vars) (cond-true (passes IsFile item) _ _ (file_is true f))

      pub index_not : searches.is_file node ≡ false → settled (searches.index_told main s names state item) vars ≡ settled names_left vars
      index_not f = ap (λ a. settled (index_by a) vars) e ∙ ap (λ m. settled m vars) (cond-false (passes IsFile item) _ _ (file_is false f))

pub fits : (text : List ℕ) → is_too_long text ≡ false → fit text ≡ Some text
fits text e = cond-false (is_too_long text) None (Some text) e

pub unfit : (text : List ℕ) → is_too_long text ≡ true → fit text ≡ None
unfit text e = cond-true (is_too_long text) None (Some text) e

-- ---- the turn by its answer

pub there_of : (o : Option Turn) (A : Type 0) (B : Turn → Type 0) (t : Turn) → o ≡ Some t → MatchOption o A B → B t
there_of o A B t e m = let P : Option Turn → Type 0 = λ o. MatchOption o A B in subst P e m

pub nowhere_of : (o : Option Turn) (A : Type 0) (B : Turn → Type 0) → o ≡ None → MatchOption o A B → A
nowhere_of o A B e m = let P : Option Turn → Type 0 = λ o. MatchOption o A B in subst P e m

pub last_slash : (name : List ℕ) → 0 < length name → nat_eq (get_or name (length name - 1) 0) 47 ≡ ends_in_slash name
last_slash [] h = absurd (omega (arith, h))
last_slash (b ∷ []) h = refl
last_slash (b ∷ c ∷ name) h =
    let e : length (b ∷ c ∷ name) - 1 ≡ suc (length (c ∷ name) - 1) = omega arith in
    ap (λ k. nat_eq (get_or (b ∷ c ∷ name) k 0) 47) e ∙ last_slash (c ∷ name) (omega arith)

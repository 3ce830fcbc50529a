-- The variables that are named of each server in turn.
use Rattle.std.proofs.Common.{◌≡◌, ℕ, zero, suc, ◌+◌, ◌<◌, Bool, true, false, eqb, List, [], ◌∷◌, ◌++◌, map, length, get_or, refl, sym, ap, subst, ◌∙◌, append_assoc, append-nil, arith}
use Rattle.std.specs.Prelude.{Contains}
use Rattle.std.specs.List.{list_any}
use Rattle.std.proofs.lemmas.Bool.{eqb-true, false≢true}
use Rattle.site_views.specs.Views.{ServerView}
use Rattle.std.specs.Prelude.{codes}
use Rattle.conf_text.specs.declared.directive.Directive.{Directive}
use Rattle.conf_block.specs.Forest.{Forest, forest_of}
use Rattle.conf_block.specs.Blocks.{Block, blocks_of, http_in}
use Rattle.conf_inherit.specs.Built.{set_in}
use Rattle.site_model.specs.declared.site.Site.{Site}
use Rattle.site_views.specs.Pattern.{Pattern}
use Rattle.site_whole.specs.Whole.{server_whole, whole}
use Rattle.race_meaning.specs.Named.{is_named, IsRaceless}
use Rattle.race_meaning.specs.Conflicts.{Conflict, LevelSources, AreConflicts}
use Rattle.race_check.specs.Told.{AreNamed, named_at, HasNamed}
use Rattle.race_check.specs.declared.conflict.Named.{Named}
use Rattle.race_places.specs.Places.{server_sources}
use Rattle.conf_races.specs.Origins.{Outer, nowhere, outer_over, server_origins}
use Rattle.conf_races.specs.Races.{first_body, behind, AreRaces, RacesIn, RacesBy}

no_items : {A : Type 0} (x : A) → Contains [] x → ⊥
no_items x h = let within : h.0 < 0 = h.1 in omega arith

-- ---- none is named

pub no_length : {A : Type 0} (xs : List A) (n : ℕ) → length xs ≡ n → eqb n 0 ≡ true → xs ≡ []
no_length [] n is e = refl
no_length (x ∷ xs) n is e = let none : n ≡ 0 = eqb-true n 0 e in absurd (omega (arith, is, none))

from_none : {A B : Type 0} (f : A → B) (xs : List A) → [] ≡ map f xs → xs ≡ []
from_none f [] e = refl
from_none f (x ∷ xs) e = cc

none_in : (server : ServerView) (names : List (List ℕ)) → AreNamed server names → names ≡ [] → IsRaceless server
none_in server names are e name = sym (are.exact name) ∙ ap (list_any _) e

pub raceless_by : (number : ℕ) (server : ServerView) (named : List Named) → HasNamed number server [] named → named ≡ [] → IsRaceless server
raceless_by number server named h e = none_in server h.0 h.1 (from_none (named_at number server) h.0 (sym e ∙ h.2))

pub no_conflicts : (number : ℕ) (server : ServerView) (levels : List LevelSources) → IsRaceless server → AreConflicts number server levels []
no_conflicts number server levels none = record {
  told = λ c h. absurd (no_items c h);
  all = λ name e. absurd (false≢true (sym (none name) ∙ e));
  rising = λ i j d h k. absurd (omega (arith, h, k));
}

-- ---- server by server

module _ (files : ℕ → List ℕ) (known : List ℕ → Bool) (outer : Outer) where
  abbrev Told : ℕ → List ServerView → List Block → List Conflict → Type 0
  Told number servers blocks conflicts = AreRaces files known outer number servers blocks conflicts

  pub races_more : (number : ℕ) (s : ServerView) (rest whole : List ServerView) (blocks beside : List Block) (all : List ServerView) (every : List Block) (old new here : List Conflict) → whole ≡ s ∷ rest
      → AreConflicts number s (server_sources files s (server_origins known outer (first_body blocks))) here → behind blocks ≡ beside → new ≡ old ++ here
      → ((later : List Conflict) → Told number whole blocks later → Told 1 all every (old ++ later))
      → (later : List Conflict) → Told (number + 1) rest beside later → Told 1 all every (new ++ later)
  unfolding AreRaces
  races_more number s rest whole blocks beside all every old new here at are b is before later h =
      let these : Told number whole blocks (here ++ later) =
      subst (λ l. Told number l blocks (here ++ later)) (sym at) (here, later, are, subst (λ bs. Told (number + 1) rest bs later) (sym b) h, refl) in
      subst (Told 1 all every) (sym (ap (λ l. l ++ later) is ∙ append_assoc old here later)) (before (here ++ later) these)

  pub races_over : (number : ℕ) (rest all : List ServerView) (blocks every : List Block) (out : List Conflict) → rest ≡ []
      → ((later : List Conflict) → Told number rest blocks later → Told 1 all every (out ++ later)) → Told 1 all every out
  unfolding AreRaces
  races_over number rest all blocks every out over before =
      subst (Told 1 all every) (append-nil out) (before [] (subst (λ l. Told number l blocks []) (sym over) refl))

  -- where no variable is told of servers, none is named of them
  nothing : {A : Type 0} (xs ys : List A) → [] ≡ xs ++ ys → xs ≡ []
  nothing [] ys e = refl
  nothing (x ∷ xs) ys e = cc

  nothing_behind : {A : Type 0} (xs ys : List A) → [] ≡ xs ++ ys → ys ≡ []
  nothing_behind [] ys e = sym e
  nothing_behind (x ∷ xs) ys e = cc

  none_told : (number : ℕ) (s : ServerView) (levels : List LevelSources) (cs : List Conflict) → AreConflicts number s levels cs → cs ≡ [] → IsRaceless s
  none_told number s levels cs are e name =
      elim (is_named s name) as (λ b. is_named s name ≡ b → b ≡ false) [
        | true ↦ λ n. absurd (no_items name (subst (λ l. Contains (map (λ (c : Conflict). c.name) l) name) e (are.all name n)))
        | false ↦ λ n. refl
      ] refl

  at_place : (P : ServerView → Type 0) (s : ServerView) (ss : List ServerView) (t : ServerView) (k : ℕ) → P s → ((t : ServerView) → Contains ss t → P t) → k < length (s ∷ ss) → get_or (s ∷ ss) k t ≡ t → P t
  at_place P s ss t zero here later h e = subst P e here
  at_place P s ss t (suc k) here later h e = later t (k, omega (arith, h), e)

  pub none_races : (number : ℕ) (servers : List ServerView) (blocks : List Block) (cs : List Conflict) → Told number servers blocks cs → cs ≡ [] → (s : ServerView) → Contains servers s → IsRaceless s
  unfolding AreRaces
  none_races number [] blocks cs t e s h = absurd (no_items s h)
  none_races number (a ∷ servers) blocks cs t e s h =
      let here : t.0 ≡ [] = nothing t.0 t.1 (sym e ∙ t.4) in
      let later : t.1 ≡ [] = nothing_behind t.0 t.1 (sym e ∙ t.4) in
      at_place IsRaceless a servers s h.0 (none_told number a _ t.0 t.2 here) (none_races (number + 1) servers (behind blocks) t.1 t.3 later) h.1 h.2

-- ---- of a configuration

abbrev views_of : List Pattern → Site → List ServerView
views_of patterns site = map (server_whole patterns site) site.servers.items

pub races_seen : (files : ℕ → List ℕ) (patterns : List Pattern) (site : Site) (ds : List Directive) (known : List ℕ → Bool) (http : Forest) (cs : List Conflict) → known ≡ set_in ds → http ≡ http_in (forest_of ds)
    → AreRaces files known (outer_over http nowhere) 1 (views_of patterns site) (blocks_of (codes "server") http) cs → RacesBy files ds (whole patterns site).servers cs
unfolding whole
races_seen files patterns site ds known http cs k h t =
    let by_names = subst (λ k. AreRaces files k (outer_over http nowhere) 1 (views_of patterns site) (blocks_of (codes "server") http) cs) k t in
    subst (λ f. RacesIn files ds f (views_of patterns site) cs) h by_names

pub none_seen : (files : ℕ → List ℕ) (patterns : List Pattern) (site : Site) (known : List ℕ → Bool) (outer : Outer) (blocks : List Block) (cs : List Conflict) → AreRaces files known outer 1 (views_of patterns site) blocks cs → cs ≡ []
    → (s : ServerView) → Contains (whole patterns site).servers s → IsRaceless s
unfolding whole
none_seen files patterns site known outer blocks cs t e s h = none_races files known outer 1 (views_of patterns site) blocks cs t e s h

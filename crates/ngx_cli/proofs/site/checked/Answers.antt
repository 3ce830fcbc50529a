use Rattle.std.proofs.Common.{◌≡◌, List, [], ◌∷◌, map, refl, subst}
use Rattle.conf_text.specs.declared.directive.Directive.{Directive}
use Rattle.conf_inherit.specs.Pools.{patterns_in, site_built}
use Rattle.conf_races.specs.race_places.Places.{conflict_seen}
use Rattle.conf_races.specs.Runs.{run_path}
use Rattle.conf_races.specs.Races.{RacesOf, conflicts_seen}
use Rattle.ngx_cli.specs.Sites.{path_in}
use Rattle.ngx_cli.proofs.site.checked.Goals as goal

none_by : {A B : Type 0} (f : A → B) (xs : List A) → map f xs ≡ [] → xs ≡ []
none_by f [] e = refl
none_by f (x ∷ xs) e = cc

pub returns-in-Ok-clause-races : goal.returns-in-Ok-clause-races
returns-in-Ok-clause-races c =
    let paths = path_in c.args.read.paths in
    subst (λ (ds : List Directive). RacesOf paths ds (site_built c.args.built).servers (conflicts_seen paths c.in-Ok.races)) c.into_vec.ensures
    (c.in-Ok.ensures.told paths (patterns_in c.args.built))

pub returns-in-Ok-clause-none : goal.returns-in-Ok-clause-none
returns-in-Ok-clause-none c = λ e server h.
    c.in-Ok.ensures.none (none_by (conflict_seen (run_path (path_in c.args.read.paths) c.in-Ok.races.files.items)) c.in-Ok.races.conflicts.items e) (patterns_in c.args.built) server h

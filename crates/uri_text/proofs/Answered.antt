-- What `normal` answers is normal.
use Rattle.std.proofs.Common.{◌≡◌, ℕ, Bool, true, List, Option, None, Some, Result, Ok, Err, ap}
use Rattle.uri_text.specs.declared.fault.UriFault.{UriFault}
use Rattle.uri_text.specs.Target.{path_and_query, path_of, with_args, normal_behind, behind_root, normal_of}
use Rattle.uri_text.specs.Laws.{is_normal}
use Rattle.uri_text.proofs.NormalPaths.{IsNormalPath, path_of-is_normal}

with_args-normal : (merge : Bool) (found path query args : List ℕ) → is_normal merge found ≡ true → ◌≡◌ {A = Result (List ℕ × List ℕ) UriFault} (Ok (found, query)) (Ok (path, args)) → is_normal merge path ≡ true
with_args-normal merge found path query args normal is =
    let pair : ◌≡◌ {A = List ℕ × List ℕ} (found, query) (path, args) = cc in
    let same : found ≡ path = ap (λ (p : List ℕ × List ℕ). p.0) pair in
    rw same at normal

of-path : (merge : Bool) (query path args : List ℕ) (r : Result (List ℕ) UriFault) → IsNormalPath merge r → with_args query r ≡ Ok (path, args) → is_normal merge path ≡ true
of-path merge query path args (Ok found) normal is = with_args-normal merge found path query args normal is
of-path merge query path args (Err fault) normal is = cc

of-behind : (merge : Bool) (path args : List ℕ) (behind : Option (List ℕ)) → normal_behind merge behind ≡ Ok (path, args) → is_normal merge path ≡ true
of-behind merge path args None is = cc
of-behind merge path args (Some text) is = of-path merge (path_and_query text).1 path args (path_of merge (path_and_query text).0) (path_of-is_normal merge (path_and_query text).0) is

pub answered-normal : (raw path args : List ℕ) (merge : Bool) → normal_of raw merge ≡ Ok (path, args) → is_normal merge path ≡ true
unfolding normal_of
answered-normal raw path args merge is = of-behind merge path args (behind_root raw) is

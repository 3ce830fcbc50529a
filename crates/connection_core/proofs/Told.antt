-- What a site says of itself.
use Rattle.std.proofs.Common.{◌≡◌, ℕ, ◌<◌, true, List, [], ◌∷◌, length, get_or, map, refl, sym, ap, ◌∙◌, subst, arith, suc, zero}
use Rattle.std.specs.Prelude.{Contains, slice_get, unwrap_or}
use Rattle.ngx_pattern.specs.Pattern.{Pattern as SetPattern}
use Rattle.pattern_search.specs.Found.{patterns_seen}
use Rattle.site_whole.specs.Whole.{whole, server_whole}
use Rattle.http_connection.specs.served_site.declared.served.ServedSite.{ServedSite}
use Rattle.http_connection.specs.served_site.Served.{raw_server}
use Rattle.http_connection.specs.declared.conn.Conn.{Conn}
use Rattle.http_connection.specs.Rests.{TellsRaceless}
use Rattle.connection_core.specs.Table.{serves_with, AllReached}
use Rattle.connection_core.specs.Core.{IsRacelessSite}

-- the same site with the same patterns
same_serves : (patterns patterns' : List SetPattern) (served served' : ServedSite) → patterns' ≡ patterns → served' ≡ served → serves_with patterns served ≡ serves_with patterns' served'
same_serves patterns patterns' served served' e f = ap (λ p. serves_with p served) (sym e) ∙ ap (λ s. serves_with patterns' s) (sym f)

pub told_still : (patterns patterns' : List SetPattern) (served served' : ServedSite) → patterns' ≡ patterns → served' ≡ served → TellsRaceless (serves_with patterns served) → TellsRaceless (serves_with patterns' served')
told_still patterns patterns' served served' e f told = subst TellsRaceless (same_serves patterns patterns' served served' e f) told

pub reached_still : (patterns patterns' : List SetPattern) (served served' : ServedSite) (conns : List Conn) → patterns' ≡ patterns → served' ≡ served → AllReached (serves_with patterns served) conns → AllReached (serves_with patterns' served') conns
reached_still patterns patterns' served served' conns e f led = subst (λ x. AllReached x conns) (same_serves patterns patterns' served served' e f) led

mapped_at : {A B : Type 0} (f : A → B) (xs : List A) (a : A) (b : B) (n : ℕ) → n < length xs → (n < length (map f xs)) × (get_or (map f xs) n b ≡ f (unwrap_or (slice_get xs n) a))
mapped_at f [] a b n h = absurd (omega (arith, h))
mapped_at f (x ∷ xs) a b zero h = (omega arith, refl)
mapped_at f (x ∷ xs) a b (suc n) h =
    let r = mapped_at f xs a b n (omega (arith, h)) in
    (omega (arith, r.0), r.1)

-- the element with a number is among those
contains_at : {A B : Type 0} (f : A → B) (xs : List A) (a : A) (n : ℕ) → n < length xs → Contains (map f xs) (f (unwrap_or (slice_get xs n) a))
contains_at f xs a n h =
    let r = mapped_at f xs a (f (unwrap_or (slice_get xs n) a)) n h in
    (n, r.0, r.1)

-- where none of the site's servers has a variable that is named, each server with a number has none
pub told_of : (patterns : List SetPattern) (served : ServedSite) → (served.raceless ≡ true → IsRacelessSite patterns served.site) → TellsRaceless (serves_with patterns served)
unfolding whole
told_of patterns served quiet told number h =
    quiet told (server_whole (patterns_seen patterns) served.site (raw_server served number)) (contains_at (server_whole (patterns_seen patterns) served.site) served.site.servers.items served.spare number h)

-- The first bytes of a response in flight go.
use Rattle.std.proofs.Common.{◌≡◌, ◌≤◌, ℕ, zero, suc, List, [], ◌∷◌, length, Option, None, Some, refl, sym, ap, subst, take, arith}
use Rattle.std.proofs.lemmas.List.{length-take}
use Rattle.std.proofs.Math.Logic.{∥∥₁_map}
use Rattle.std.specs.Prelude.{is_some}
use Rattle.file_tree.specs.Tree.{Trees}
use Rattle.ngx_pattern.specs.Pattern.{Pattern as SetPattern}
use Rattle.site_model.specs.declared.site.Site.{Site}
use Rattle.request_meaning.specs.Serving.{World}
use Rattle.response_flow.specs.declared.flight.Flight.{Flight}
use Rattle.response_flow.specs.Flights.{FlightReached, FlightServedBy, flight_length, flight_rest, flight_server, pending_of, shown_kept, unsent_of}
use Rattle.response_flow.specs.Writes.{Writes}
use Rattle.http_connection.specs.Rests.{IsReachedIn, ReachedIn, Serves, rest_in, world_at, world_of}
use Rattle.http_connection.proofs.Opens.{own_served, reached_by, rest_by}

-- what is still to come of it
rest_kept : (x : Serves) (was is : Option Flight) (out out' : List ℕ) (count : ℕ) (trees : Trees) → ((server length : ℕ) → FlightServedBy server length was → FlightServedBy server length is) →
    ((w : World) (patterns : List SetPattern) (site : Site) (trees : Trees) → Writes (flight_rest w patterns site was trees) (flight_rest w patterns site is trees) out out' (take count (unsent_of was out))) →
    Writes (rest_in x was trees) (rest_in x is trees) out out' (take count (unsent_of was out))
rest_kept x None is out out' count trees by writes =
    subst (λ r. Writes (rest_in x None trees) r out out' (take count (unsent_of None out))) (sym (rest_by x 0 0 is trees (by 0 0 tt))) (writes (world_at x 0 0) x.patterns x.served.site trees)
rest_kept x (Some flight) is out out' count trees by writes =
    subst (λ r. Writes (rest_in x (Some flight) trees) r out out' (take count (unsent_of (Some flight) out))) (sym (rest_by x (flight_server flight) (flight_length flight) is trees (by (flight_server flight) (flight_length flight) (own_served flight))))
    (writes (world_of x flight) x.patterns x.served.site trees)

-- what is shown is the first of what is unsent
shown_first : (n count : ℕ) (out : List ℕ) → count ≤ length (take n out) → take count out ≡ take count (take n out)
shown_first n zero out h = refl
shown_first zero (suc count) out h = absurd (omega (arith, h))
shown_first (suc n) (suc count) [] h = absurd (omega (arith, h))
shown_first (suc n) (suc count) (b ∷ out) h = ap (λ r. b ∷ r) (shown_first n count out (omega (arith, h)))

shown_bytes : (flight : Option Flight) (out : List ℕ) (tail count : ℕ) → count ≤ length (pending_of flight out tail) → take count (unsent_of flight out) ≡ take count (pending_of flight out tail)
shown_bytes None out tail count h = shown_first (shown_kept tail (length out)) count out h
shown_bytes (Some flight) out tail count h = refl

pub shown_within : (flight : Option Flight) (out : List ℕ) (tail : ℕ) → length (pending_of flight out tail) ≤ length (unsent_of flight out)
shown_within None out tail = let e = length-take (shown_kept tail (length out)) out in omega (arith, e)
shown_within (Some flight) out tail = omega arith

pub wrote_rest : (x : Serves) (old new is was : Option Flight) (out out' : List ℕ) (tail count : ℕ) (trees : Trees) → count ≤ length (pending_of old out tail) → was ≡ old → is ≡ new → ((server length : ℕ) → FlightServedBy server length was → FlightServedBy server length is) →
    ((w : World) (patterns : List SetPattern) (site : Site) (trees : Trees) → Writes (flight_rest w patterns site was trees) (flight_rest w patterns site is trees) out out' (take count (unsent_of was out))) →
    Writes (rest_in x old trees) (rest_in x new trees) out out' (take count (pending_of old out tail))
wrote_rest x old new is was out out' tail count trees within eo en by writes =
    subst (λ bytes. Writes (rest_in x old trees) (rest_in x new trees) out out' bytes) (shown_bytes old out tail count within)
    (subst (λ f. Writes (rest_in x f trees) (rest_in x new trees) out out' (take count (unsent_of f out))) eo
    (subst (λ f. Writes (rest_in x was trees) (rest_in x f trees) out out' (take count (unsent_of was out))) en (rest_kept x was is out out' count trees by writes)))

-- and what has led to it
reached_kept : (x : Serves) (was is : Option Flight) → ((server length : ℕ) → FlightServedBy server length was → FlightServedBy server length is) →
    ((w : World) (patterns : List SetPattern) (site : Site) → FlightReached w patterns site was → FlightReached w patterns site is) → is_some is ≡ is_some was → ReachedIn x was → ReachedIn x is
reached_kept x None None by kept kind led = tt
reached_kept x None (Some flight) by kept kind led = cc
reached_kept x (Some flight) is by kept kind led =
    reached_by x (flight_server flight) (flight_length flight) is (by (flight_server flight) (flight_length flight) (own_served flight)) led.1 (kept (world_of x flight) x.patterns x.served.site led.0)

pub wrote_reached : (x : Serves) (old new is was : Option Flight) → was ≡ old → is ≡ new → ((server length : ℕ) → FlightServedBy server length was → FlightServedBy server length is) →
    ((w : World) (patterns : List SetPattern) (site : Site) → FlightReached w patterns site was → FlightReached w patterns site is) → is_some is ≡ is_some was → IsReachedIn x old → IsReachedIn x new
wrote_reached x old new is was eo en by kept kind led =
    ∥∥₁_map led (λ (r : ReachedIn x old). subst (ReachedIn x) en (reached_kept x was is by kept kind (subst (ReachedIn x) (sym eo) r)))

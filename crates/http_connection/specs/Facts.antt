-- Facts of a connection that are true in one way at most: how far a response in flight is, and in what the bytes end that are kept.
use Rattle.std.specs.Prelude.{ℕ, List, [], ◌∷◌, Option, None, Some}
use Rattle.std.proofs.Math.Logic.{∥∥₁_prop}
use Rattle.std.proofs.Props.{props}
use Rattle.postpone_filter.specs.Row.{Piece}
use Rattle.postpone_filter.specs.Buffers.{IsLawful}
use Rattle.response_flow.specs.Flights.{FlightFits}
use Rattle.response_flow.specs.declared.flight.Flight.{Flight}
use Rattle.response_flow.specs.declared.flight.Flight.TheVariants.{Alone, Asking, Page}
use Rattle.http_connection.specs.Tails.{KeepsTail}

lawful_prop : (nodes : ℕ) (pieces : List Piece) → IsProp (IsLawful nodes pieces)
unfolding IsLawful
lawful_prop nodes [] = hlevel props
lawful_prop nodes (p ∷ pieces) =
    let rest : IsProp (IsLawful nodes pieces) = lawful_prop nodes pieces in
    hlevel (rest, props)

pub fits_prop : (flight : Option Flight) (size : ℕ) → IsProp (FlightFits flight size)
fits_prop None size = hlevel props
fits_prop (Some (Alone flow)) size = hlevel props
fits_prop (Some (Asking f)) size = hlevel props
fits_prop (Some (Page p)) size = hlevel (lawful_prop, props)

pub tail_prop : (flight : Option Flight) (tail : ℕ) (out : List ℕ) → IsProp (KeepsTail flight tail out)
tail_prop None tail out = ∥∥₁_prop
tail_prop (Some flight) tail out = hlevel props

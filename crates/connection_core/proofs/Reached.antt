-- Steps have led to each response in flight.
use Rattle.std.proofs.Common.{◌≡◌, ◌⊎◌, inl, inr, ℕ, List, [], ◌∷◌, ◌++◌, Option, None, sym, ◌∙◌, subst}
use Rattle.std.specs.List.{insert, remove}
use Rattle.ngx_outside.specs.Views.{Start}
use Rattle.ngx_outside.specs.declared.event.Event.{Event}
use Rattle.ngx_outside.specs.declared.event.StepAnswer.{StepAnswer}
use Rattle.http_connection.specs.response_flow.declared.flight.Flight.{Flight}
use Rattle.http_connection.specs.declared.conn.Conn.{Conn}
use Rattle.http_connection.specs.Conn.{StepsConn}
use Rattle.http_connection.specs.Rests.{Serves, IsReachedIn}
use Rattle.connection_core.specs.Table.{AllReached, AllTicked, Placed, Replaced}
use Rattle.connection_core.proofs.Held.{Seat}
use Rattle.connection_core.proofs.Ends.{Gap, conns_put, conns_cut}

-- no response is in flight
none_led : (x : Serves) (flight : Option Flight) → flight ≡ None → IsReachedIn x flight
none_led x flight e = subst (IsReachedIn x) (sym e) ∣ tt ∣₁

led_of_two : (x : Serves) (front back : List Conn) → AllReached x front → AllReached x back → AllReached x (front ++ back)
led_of_two x [] back a b = b
led_of_two x (conn ∷ front) back a b = (a.0, led_of_two x front back a.1 b)

led_front : (x : Serves) (front back : List Conn) → AllReached x (front ++ back) → AllReached x front
led_front x [] back a = tt
led_front x (conn ∷ front) back a = (a.0, led_front x front back a.1)

led_back : (x : Serves) (front back : List Conn) → AllReached x (front ++ back) → AllReached x back
led_back x [] back a = a
led_back x (conn ∷ front) back a = led_back x front back a.1

-- that of the connection at a place
pub led_at : (x : Serves) (c at : ℕ) (ids : List ℕ) (conns : List Conn) (s : Seat c at ids conns) → AllReached x conns → IsReachedIn x s.placed.here.flight
led_at x c at ids conns s led =
    let p = s.placed in
    (led_back x p.front (p.here ∷ p.back) (subst (AllReached x) p.whole led)).0

-- one has an event of its own
pub own_reached : (x : Serves) (at : ℕ) (conns conns' : List Conn) (now : Start) (e : Event) (a : StepAnswer) (p : Placed at conns) →
    Replaced at conns (λ old new. StepsConn x now e a old new) p conns' → AllReached x conns → AllReached x conns'
own_reached x at conns conns' now e a p r led =
    let all = subst (AllReached x) p.whole led in
    let back = led_back x p.front (p.here ∷ p.back) all in
    subst (AllReached x) (sym r.whole) (led_of_two x p.front (r.there ∷ p.back) (led_front x p.front (p.here ∷ p.back) all) (r.does.reached back.0, back.1))

-- one is held more
pub put_reached : (x : Serves) (c at : ℕ) (ids : List ℕ) (conns conns' : List Conn) (conn : Conn) (g : Gap c at ids conns) → conns' ≡ insert conns at conn → conn.flight ≡ None → AllReached x conns → AllReached x conns'
put_reached x c at ids conns conns' conn g e none led =
    let all = subst (AllReached x) g.whole led in
    subst (AllReached x) (sym (e ∙ conns_put c at ids conns conn g)) (led_of_two x g.front (conn ∷ g.back) (led_front x g.front g.back all) (none_led x conn.flight none, led_back x g.front g.back all))

-- one is held no more
pub cut_reached : (x : Serves) (c at : ℕ) (ids : List ℕ) (conns conns' : List Conn) (s : Seat c at ids conns) → conns' ≡ remove conns at → AllReached x conns → AllReached x conns'
cut_reached x c at ids conns conns' s e led =
    let p = s.placed in
    let all = subst (AllReached x) p.whole led in
    subst (AllReached x) (sym (e ∙ conns_cut c at ids conns s)) (led_of_two x p.front p.back (led_front x p.front (p.here ∷ p.back) all) (led_back x p.front (p.here ∷ p.back) all).1)

-- the clock tells a moment
one_ticked : (x : Serves) (old new : Option Flight) → (new ≡ old) ⊎ (new ≡ None) → IsReachedIn x old → IsReachedIn x new
one_ticked x old new (inl e) led = subst (IsReachedIn x) (sym e) led
one_ticked x old new (inr e) led = none_led x new e

pub ticked_reached : (x : Serves) (now : ℕ) (conns conns' : List Conn) → AllTicked now conns conns' → AllReached x conns → AllReached x conns'
ticked_reached x now [] [] a led = tt
ticked_reached x now [] (new ∷ conns') a led = absurd a
ticked_reached x now (old ∷ conns) [] a led = absurd a
ticked_reached x now (old ∷ conns) (new ∷ conns') a led = (one_ticked x old.flight new.flight a.0.flight led.0, ticked_reached x now conns conns' a.1 led.1)

-- What a connection keeps to, from one step to the next.
use Rattle.std.proofs.Common.{◌≡◌, ℕ, ◌-◌, ◌<◌, ◌≤◌, ◌+◌, Bool, true, false, cond, List, [], ◌++◌, length, length-append, Option, None, Some, refl, sym, subst, ap, ◌∙◌, ◌^◌, arith}
use Rattle.std.specs.Prelude.{is_some, nat_le}
use Rattle.std.proofs.lemmas.Bool.Decides.{nat_tests}
use Rattle.body_frame.specs.declared.state.BodyState.{BodyState}
use Rattle.response_flow.specs.request_flow.Flows.{asking_most, flow_most}
use Rattle.response_flow.specs.declared.flight.Flight.{Flight}
use Rattle.response_flow.specs.Flights.{FlightFits, most_kept, page_most}
use Rattle.http_connection.specs.Conn.{room_at}

pub never : {A : Type 0} (b : Bool) → b ≡ false → b ≡ true → A
never true e f = cc
never false e f = cc

-- nothing is buffered after a body that isn't ended
pub buffered_drained : (body body' : Option BodyState) (buffered buffered' bytes kept : List ℕ) (broken : Bool) → (is_some body ≡ true → buffered ≡ []) → (body ≡ None → (body' ≡ None) × (broken ≡ false) × (kept ≡ bytes)) → (is_some body' ≡ true → kept ≡ []) → buffered' ≡ buffered ++ kept →
    is_some body' ≡ true → buffered' ≡ []
buffered_drained None body' buffered buffered' bytes kept broken drained still empty e h = never (is_some body') (ap is_some (still refl).0) h
buffered_drained (Some state) body' buffered buffered' bytes kept broken drained still empty e h = e ∙ ap (λ l. l ++ kept) (drained refl) ∙ empty h

room_size : (t : Bool) (n room : ℕ) → nat_le 8192 n ≡ t → cond t None (Some (8192 - n)) ≡ Some room → n + room ≤ 8192
room_size true n room e h = cc
room_size false n room e h =
    let lt : n < 8192 = grind (arith, nat_tests) in
    let r : 8192 - n ≡ room = cc in
    omega arith

room_left : (stopped closing ended : Bool) (buffered : List ℕ) (room : ℕ) → room_at stopped closing ended buffered ≡ Some room → length buffered + room ≤ 8192
room_left false false false buffered room h = room_size (nat_le 8192 (length buffered)) (length buffered) room refl h
room_left false false true buffered room h = cc
room_left false true ended buffered room h = cc
room_left true closing ended buffered room h = cc

-- no more is buffered than there is room for
pub buffered_few : (stopped closing ended : Bool) (buffered buffered' kept : List ℕ) (room n : ℕ) → room_at stopped closing ended buffered ≡ Some room → buffered' ≡ buffered ++ kept → length kept ≤ n → n ≤ room → length buffered' ≤ 8192
buffered_few stopped closing ended buffered buffered' kept room n h e few within =
    let r = room_left stopped closing ended buffered room h in
    let s = ap length e ∙ length-append buffered kept in
    omega (arith, r, s, few, within)

-- one that was stopped keeps no bytes
pub none_fits : (flight : Option Flight) (out : List ℕ) → flight ≡ None → out ≡ [] → FlightFits flight (length out)
unfolding most_kept
none_fits flight out f e =
    let few : length out ≤ 2 ^ 26 = (let s = ap length e in omega (arith, s)) in
    subst (λ g. FlightFits g (length out)) (sym f) few

pub none_buffered : (buffered : List ℕ) → buffered ≡ [] → length buffered ≤ 8192
none_buffered buffered e = let s = ap length e in omega (arith, s)

-- a page that is put fits
pub few_fits : (out old : List ℕ) → old ≡ [] → length out ≤ length old + 65536 → FlightFits None (length out)
unfolding most_kept
few_fits out old e h = let s = ap length e in omega (arith, h, s)

pub few_lower : (out old : List ℕ) → old ≡ [] → length out ≤ length old + 65536 → length out + 0 < page_most + asking_most
unfolding page_most asking_most flow_most
few_lower out old e h = let s = ap length e in omega (arith, h, s)

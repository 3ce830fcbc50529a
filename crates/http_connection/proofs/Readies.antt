-- The nodes of a connection that can run.
use Rattle.std.proofs.Common.{◌≡◌, ℕ, suc, zero, Bool, true, false, cond, List, [], ◌∷◌, Option, None, Some, refl, ap, subst, arith, sym, ◌∙◌}
use Rattle.std.specs.Prelude.{◌==◌, is_some}
use Rattle.std.specs.List.{Contains}
use Rattle.std.proofs.lemmas.Bool.Decides.{nat_tests}
use Rattle.body_frame.specs.declared.state.BodyState.{BodyState}
use Rattle.req_head.specs.declared.head.HeadStep.{HeadStep}
use Rattle.response_flow.specs.subrequests.Wants.{first_of, is_among}
use Rattle.response_flow.specs.declared.flight.Flight.{Flight}
use Rattle.response_flow.specs.Flights.{ready_of}
use Rattle.http_connection.specs.Conn.{ready_at, starts_at}

later : (m : ℕ) (ready : List ℕ) (node : ℕ) → Contains ready node → Contains (m ∷ ready) node
later m ready node c = (suc c.0, omega (arith, c.1), c.2)

pub ready_contains : (ready : List ℕ) (node : ℕ) → is_among node ready ≡ true → Contains ready node
unfolding is_among
ready_contains [] node e = cc
ready_contains (m ∷ ready) node e = by (m == node) refl e (ready_contains ready node)
  where
    by : (t : Bool) → (m == node) ≡ t → cond t true (is_among node ready) ≡ true → (is_among node ready ≡ true → Contains ready node) → Contains (m ∷ ready) node
    by true h e more = (zero, omega arith, (let s : m ≡ node = grind (arith, nat_tests) in s))
    by false h e more = later m ready node (more e)

pub contains_ready : (ready : List ℕ) (node : ℕ) → Contains ready node → is_among node ready ≡ true
unfolding is_among
contains_ready [] node c = absurd (omega (arith, c.1))
contains_ready (m ∷ ready) node (zero, within, is) = ap (λ t. cond t true (is_among node ready)) (let s : m ≡ node = is in let h : (m == node) ≡ true = grind (arith, nat_tests) in h)
contains_ready (m ∷ ready) node (suc n, within, is) = by (m == node) (contains_ready ready node (n, omega (arith, within), is))
  where
    by : (t : Bool) → is_among node ready ≡ true → cond t true (is_among node ready) ≡ true
    by true e = refl
    by false e = e

-- those of the response in flight
pub ready_flying : (stopped : Bool) (flight : Option Flight) (f : Flight) (closing : Bool) (out : List ℕ) (body : Option BodyState) (next : HeadStep) (node : ℕ) → flight ≡ Some f →
    is_among node (ready_at stopped flight closing out body next) ≡ true → is_among node (ready_of (Some f)) ≡ true
unfolding is_among
ready_flying true flight f closing out body next node is e = absurd (let g : is_among node (ready_at true (Some f) closing out body next) ≡ true = subst (λ h. is_among node (ready_at true h closing out body next) ≡ true) is e in let k : false ≡ true = g in cc)
ready_flying false flight f closing out body next node is e = subst (λ h. is_among node (ready_at false h closing out body next) ≡ true) is e

-- or that with which a further one starts
one_ready : (t : Bool) (node : ℕ) → is_among node (cond t (0 ∷ []) []) ≡ true → (t ≡ true) × (0 ≡ node)
unfolding is_among
one_ready true node e = (refl, by (0 == node) refl e)
  where
    by : (b : Bool) → (0 == node) ≡ b → cond b true false ≡ true → 0 ≡ node
    by true h e = grind (arith, nat_tests)
    by false h e = cc
one_ready false node e = cc

pub starts_ready : (stopped : Bool) (flight : Option Flight) (closing : Bool) (out : List ℕ) (body : Option BodyState) (next : HeadStep) (node : ℕ) → flight ≡ None →
    is_among node (ready_at stopped flight closing out body next) ≡ true → (starts_at stopped closing out body next ≡ true) × (0 ≡ node)
starts_ready stopped flight closing out body next node is e = one_ready (starts_at stopped closing out body next) node (subst (λ f. is_among node (ready_at stopped f closing out body next) ≡ true) is e)

pub is_none_of : (flight : Option Flight) → is_some flight ≡ false → flight ≡ None
is_none_of None e = refl
is_none_of (Some f) e = cc

pub flying_ready : (stopped : Bool) (flight : Option Flight) (closing : Bool) (out : List ℕ) (body : Option BodyState) (next : HeadStep) → is_some flight ≡ true → (stopped ≡ true → flight ≡ None) →
    ready_of flight ≡ ready_at stopped flight closing out body next
flying_ready stopped None closing out body next is quit = cc
flying_ready true (Some f) closing out body next is quit = absurd (let e : Some f ≡ None = quit refl in cc)
flying_ready false (Some f) closing out body next is quit = refl

pub resting_ready : (stopped : Bool) (flight : Option Flight) (closing : Bool) (out : List ℕ) (body : Option BodyState) (next : HeadStep) → is_some flight ≡ false →
    cond (starts_at stopped closing out body next) (0 ∷ []) [] ≡ ready_at stopped flight closing out body next
resting_ready stopped None closing out body next is = refl
resting_ready stopped (Some f) closing out body next is = cc

pub first_starts : (t : Bool) → t ≡ true → Some 0 ≡ first_of (cond t (0 ∷ []) [])
first_starts true e = refl
first_starts false e = cc

pub none_starts : (t : Bool) → t ≡ false → None ≡ first_of (cond t (0 ∷ []) [])
none_starts true e = cc
none_starts false e = refl

pub is_started : (t : Bool) (node : ℕ) → 0 ≡ node → t ≡ is_among node (cond t (0 ∷ []) [])
unfolding is_among
is_started true node e = sym (ap (λ b. cond b true false) (let h : (0 == node) ≡ true = grind (arith, nat_tests) in h))
is_started false node e = refl

pub isnt_started : (t : Bool) (node : ℕ) → (0 ≡ node → ⊥) → (0 == node) ≡ is_among node (cond t (0 ∷ []) [])
unfolding is_among
isnt_started true node ne =
    let h : (0 == node) ≡ false = grind (arith, nat_tests) in
    h ∙ sym (ap (λ b. cond b true false) h)
isnt_started false node ne = (let h : (0 == node) ≡ false = grind (arith, nat_tests) in h)

-- Connections that are given up by the clock.
use Rattle.std.proofs.Common.{◌≡◌, inl, ℕ, ◌+◌, ◌<◌, ◌≤◌, true, false, cond, eqb, List, [], ◌∷◌, ◌++◌, length, get_or, set, Option, None, Some, refl, sym, ap, ◌∙◌, subst, append_assoc, length-append, arith}
use Rattle.std.proofs.lemmas.List.{append-nil}
use Rattle.std.proofs.lemmas.List.Sums.{sum_by-cons}
use Rattle.std.specs.List.{insert, remove}
use Rattle.ngx_outside.specs.Views.{Ticked, Waits, nobody}
use Rattle.http_connection.specs.declared.conn.Conn.{Conn}
use Rattle.http_connection.specs.Conn.{view_of, left_of, due_at}
use Rattle.http_connection.specs.Rests.{Serves}
use Rattle.http_connection.specs.Times.{soonest}
use Rattle.connection_core.specs.Table.{view_in, left_in, AllKnown, AllLater, AllTicked, TickedOne}
use Rattle.connection_core.proofs.Held.{Seat}
use Rattle.connection_core.proofs.Ends.{Gap, conns_put, conns_cut}

-- no moment of its own is before the first one
before_due : (now soon : ℕ) (o : Option ℕ) (due : ℕ) → now < soon → soon ≤ soonest o → o ≡ Some due → now < due
before_due now soon None due lt le e = cc
before_due now soon (Some d) due lt le e =
    let same : d ≡ due = cc in
    omega (arith, lt, le, same)

waits_one : (now soon : ℕ) (x : Conn) → now < soon → soon ≤ soonest (due_at x) → TickedOne now x x
waits_one now soon x lt le = record {
  ticked = λ serves. Waits (λ due e. before_due now soon (due_at x) due lt le e) refl;
  left = omega arith;
  asked = omega arith;
  ended = refl;
  flight = inl refl;
  keeps = refl;
}

-- none is given up before the first moment of one
pub all_wait : (now soon : ℕ) (conns : List Conn) → now < soon → AllLater soon conns → AllTicked now conns conns
all_wait now soon [] lt a = tt
all_wait now soon (x ∷ conns) lt a = (waits_one now soon x lt a.0, all_wait now soon conns lt a.1)

-- no deadline is before the first moment of one
after_first : (soon : ℕ) (o : Option ℕ) (due : ℕ) → soon ≤ soonest o → o ≡ Some due → soon ≤ due
after_first soon None due le e = cc
after_first soon (Some d) due le e =
    let same : d ≡ due = cc in
    omega (arith, le, same)

pub quiet_in : (serves : Serves) (ids : List ℕ) (conns : List Conn) (soon : ℕ) → AllLater soon conns → (q due : ℕ) → (view_in serves ids conns q).deadline ≡ Some due → soon ≤ due
quiet_in serves [] conns soon a q due e = cc
quiet_in serves (id ∷ ids) [] soon a q due e = cc
quiet_in serves (id ∷ ids) (x ∷ conns) soon a q due e =
    (elim (eqb id q) as (λ t. (cond t (view_of serves x) (view_in serves ids conns q)).deadline ≡ Some due → soon ≤ due) [ true ↦ after_first soon (due_at x) due a.0 | false ↦ quiet_in serves ids conns soon a.1 q due ]) e

nobody_waits : (now : ℕ) → Ticked now nobody nobody
nobody_waits now = Waits (λ due h. cc) refl

-- what each number shows
pub ticked_in : (serves : Serves) (ids : List ℕ) (conns conns' : List Conn) (now : ℕ) → AllTicked now conns conns' → (q : ℕ) → Ticked now (view_in serves ids conns q) (view_in serves ids conns' q)
ticked_in serves [] conns conns' now a q = nobody_waits now
ticked_in serves (id ∷ ids) [] [] now a q = nobody_waits now
ticked_in serves (id ∷ ids) [] (y ∷ conns') now a q = absurd a
ticked_in serves (id ∷ ids) (x ∷ conns) [] now a q = absurd a
ticked_in serves (id ∷ ids) (x ∷ conns) (y ∷ conns') now a q =
    elim (eqb id q) as (λ t. Ticked now (cond t (view_of serves x) (view_in serves ids conns q)) (cond t (view_of serves y) (view_in serves ids conns' q))) [ true ↦ a.0.ticked serves | false ↦ ticked_in serves ids conns conns' now a.1 q ]

pub ticked_ended : (serves : Serves) (ids : List ℕ) (conns conns' : List Conn) (now : ℕ) → AllTicked now conns conns' → (q : ℕ) → (view_in serves ids conns' q).ended ≡ (view_in serves ids conns q).ended
ticked_ended serves [] conns conns' now a q = refl
ticked_ended serves (id ∷ ids) [] [] now a q = refl
ticked_ended serves (id ∷ ids) [] (y ∷ conns') now a q = absurd a
ticked_ended serves (id ∷ ids) (x ∷ conns) [] now a q = absurd a
ticked_ended serves (id ∷ ids) (x ∷ conns) (y ∷ conns') now a q =
    elim (eqb id q) as (λ t. (cond t (view_of serves y) (view_in serves ids conns' q)).ended ≡ (cond t (view_of serves x) (view_in serves ids conns q)).ended) [ true ↦ a.0.ended | false ↦ ticked_ended serves ids conns conns' now a.1 q ]

-- nothing more is left to do, and no job asks of another tree
pub ticked_left : (now : ℕ) (conns conns' : List Conn) → AllTicked now conns conns' → left_in conns' ≤ left_in conns
ticked_left now [] [] a = omega arith
ticked_left now [] (y ∷ conns') a = absurd a
ticked_left now (x ∷ conns) [] a = absurd a
ticked_left now (x ∷ conns) (y ∷ conns') a =
    let one = a.0.left in
    let more = ticked_left now conns conns' a.1 in
    let was = sum_by-cons (λ conn. 1 + left_of conn) x conns in
    let is = sum_by-cons (λ conn. 1 + left_of conn) y conns' in
    omega (arith, one, more, was, is)

pub ticked_known : (tree now : ℕ) (conns conns' : List Conn) → AllTicked now conns conns' → AllKnown tree conns → AllKnown tree conns'
ticked_known tree now [] [] a k = tt
ticked_known tree now [] (y ∷ conns') a k = absurd a
ticked_known tree now (x ∷ conns) [] a k = absurd a
ticked_known tree now (x ∷ conns) (y ∷ conns') a k =
    let one = a.0.asked in
    let was = k.0 in
    (omega (arith, one, was), ticked_known tree now conns conns' a.1 k.1)

-- ---- the first moment of one

pub later_before : (soon soon' : ℕ) (conns : List Conn) → soon' ≤ soon → AllLater soon conns → AllLater soon' conns
later_before soon soon' [] h a = tt
later_before soon soon' (x ∷ conns) h a = (let b = a.0 in omega (arith, h, b), later_before soon soon' conns h a.1)

pub later_of_two : (soon : ℕ) (front back : List Conn) → AllLater soon front → AllLater soon back → AllLater soon (front ++ back)
later_of_two soon [] back a b = b
later_of_two soon (x ∷ front) back a b = (a.0, later_of_two soon front back a.1 b)

later_front : (soon : ℕ) (front back : List Conn) → AllLater soon (front ++ back) → AllLater soon front
later_front soon [] back a = tt
later_front soon (x ∷ front) back a = (a.0, later_front soon front back a.1)

later_back : (soon : ℕ) (front back : List Conn) → AllLater soon (front ++ back) → AllLater soon back
later_back soon [] back a = a
later_back soon (x ∷ front) back a = later_back soon front back a.1

-- one is held more
pub put_later : (soon soon' c at : ℕ) (ids : List ℕ) (conns conns' : List Conn) (x : Conn) (g : Gap c at ids conns) → conns' ≡ insert conns at x → soon' ≤ soon → soon' ≤ soonest (due_at x) → AllLater soon conns → AllLater soon' conns'
put_later soon soon' c at ids conns conns' x g e h hx a =
    let all = later_before soon soon' (g.front ++ g.back) h (subst (AllLater soon) g.whole a) in
    subst (AllLater soon') (sym (e ∙ conns_put c at ids conns x g)) (later_of_two soon' g.front (x ∷ g.back) (later_front soon' g.front g.back all) (hx, later_back soon' g.front g.back all))

-- one is held no more
pub cut_later : (soon c at : ℕ) (ids : List ℕ) (conns conns' : List Conn) (s : Seat c at ids conns) → conns' ≡ remove conns at → AllLater soon conns → AllLater soon conns'
cut_later soon c at ids conns conns' s e a =
    let p = s.placed in
    let all = subst (AllLater soon) p.whole a in
    subst (AllLater soon) (sym (e ∙ conns_cut c at ids conns s)) (later_of_two soon p.front p.back (later_front soon p.front (p.here ∷ p.back) all) (later_back soon p.front (p.here ∷ p.back) all).1)

-- one changes
pub set_later : (soon soon' : ℕ) (front back : List Conn) (here there : Conn) (conns conns' : List Conn) → conns ≡ front ++ here ∷ back → conns' ≡ front ++ there ∷ back → soon' ≤ soon → soon' ≤ soonest (due_at there) → AllLater soon conns → AllLater soon' conns'
set_later soon soon' front back here there conns conns' w w' h ht a =
    let all = later_before soon soon' (front ++ here ∷ back) h (subst (AllLater soon) w a) in
    subst (AllLater soon') (sym w') (later_of_two soon' front (there ∷ back) (later_front soon' front (here ∷ back) all) (ht, (later_back soon' front (here ∷ back) all).1))

-- ---- all of them, one after another

-- of these the first ones were told the moment, and none of those is given up before this one
pub record PartTicked (now soon at : ℕ) (olds conns : List Conn) : Type 0 where
  pub front : List Conn
  pub done : List Conn
  pub back : List Conn
  pub old : olds ≡ front ++ back
  pub new : conns ≡ done ++ back
  pub size : length done ≡ at
  pub ticked : AllTicked now front done
  pub later : AllLater soon done

pub part_begins : (now soon : ℕ) (conns : List Conn) → PartTicked now soon 0 conns conns
part_begins now soon conns = record { front = []; done = []; back = conns; old = refl; new = refl; size = refl; ticked = tt; later = tt }

ticked_of_two : (now : ℕ) (front done back back' : List Conn) → AllTicked now front done → AllTicked now back back' → AllTicked now (front ++ back) (done ++ back')
ticked_of_two now [] [] back back' a b = b
ticked_of_two now [] (y ∷ done) back back' a b = absurd a
ticked_of_two now (x ∷ front) [] back back' a b = absurd a
ticked_of_two now (x ∷ front) (y ∷ done) back back' a b = (a.0, ticked_of_two now front done back back' a.1 b)

-- the next one is told it
get_next : (done back : List Conn) (at : ℕ) (x d : Conn) → length done ≡ at → get_or (done ++ x ∷ back) at d ≡ x
get_next done back at x d size = ap (λ k. get_or (done ++ x ∷ back) k d) (sym size) ∙ there done
  where
    there : (done : List Conn) → get_or (done ++ x ∷ back) (length done) d ≡ x
    there [] = refl
    there (y ∷ done) = there done

set_next : (done back : List Conn) (at : ℕ) (x y : Conn) → length done ≡ at → set (done ++ x ∷ back) at y ≡ done ++ y ∷ back
set_next done back at x y size = ap (λ k. set (done ++ x ∷ back) k y) (sym size) ∙ there done
  where
    there : (done : List Conn) → set (done ++ x ∷ back) (length done) y ≡ done ++ y ∷ back
    there [] = refl
    there (z ∷ done) = ap (λ r. z ∷ r) (there done)

regroup : (done back : List Conn) (y : Conn) → done ++ y ∷ back ≡ (done ++ y ∷ []) ++ back
regroup done back y = sym (append_assoc done (y ∷ []) back)

pub part_goes : (now soon soon' at : ℕ) (olds conns : List Conn) (here there default : Conn) → PartTicked now soon at olds conns → at < length conns → here ≡ get_or conns at default → TickedOne now here there → soon' ≤ soon → soon' ≤ soonest (due_at there) →
    PartTicked now soon' (at + 1) olds (set conns at there)
part_goes now soon soon' at olds conns here there default p lt is one le due = by p.front p.done p.back p.old p.new p.size p.ticked p.later
  where
    by : (front done back : List Conn) → olds ≡ front ++ back → conns ≡ done ++ back → length done ≡ at → AllTicked now front done → AllLater soon done → PartTicked now soon' (at + 1) olds (set conns at there)
    by front done [] old new size ticked later = absurd (let e = ap length new in let f = length-append {A = Conn} done [] in omega (arith, e, f, size, lt))
    by front done (x ∷ back) old new size ticked later =
        let same : here ≡ x = is ∙ ap (λ l. get_or l at default) new ∙ get_next done back at x default size in
        record {
          front = front ++ x ∷ [];
          done = done ++ there ∷ [];
          back = back;
          old = old ∙ regroup front back x;
          new = ap (λ l. set l at there) new ∙ set_next done back at x there size ∙ regroup done back there;
          size = (let e = length-append done (there ∷ []) in omega (arith, e, size));
          ticked = ticked_of_two now front done (x ∷ []) (there ∷ []) ticked (subst (λ h. TickedOne now h there) same one, tt);
          later = later_of_two soon' done (there ∷ []) (later_before soon soon' done le later) (due, tt);
        }

nothing_left : (at : ℕ) (done back : List Conn) → length done ≡ at → length (done ++ back) ≤ at → back ≡ []
nothing_left at done [] size h = refl
nothing_left at done (x ∷ back) size h = absurd (let e = length-append done (x ∷ back) in omega (arith, e, h, size))

pub part_ends : (now soon at : ℕ) (olds conns : List Conn) → PartTicked now soon at olds conns → length conns ≤ at → AllTicked now olds conns × AllLater soon conns
part_ends now soon at olds conns p h =
    let none : p.back ≡ [] = nothing_left at p.done p.back p.size (subst (λ l. length l ≤ at) p.new h) in
    let old : olds ≡ p.front = p.old ∙ ap (λ b. p.front ++ b) none ∙ append-nil p.front in
    let new : conns ≡ p.done = p.new ∙ ap (λ b. p.done ++ b) none ∙ append-nil p.done in
    (subst (λ l. AllTicked now l conns) (sym old) (subst (AllTicked now p.front) (sym new) p.ticked), subst (AllLater soon) (sym new) p.later)

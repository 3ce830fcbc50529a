-- What an event of one connection does to all.
use Rattle.std.proofs.Common.{◌≡◌, ◌≢◌, ℕ, ◌+◌, ◌*◌, ◌<◌, ◌≤◌, true, false, cond, eqb, List, [], ◌∷◌, ◌++◌, length, set, get_or, refl, sym, ap, ◌∙◌, subst, arith, length-append}
use Rattle.std.specs.List.{AllByRecursion}
use Rattle.std.proofs.Math.Nat.{mul-le-mul_right}
use Rattle.std.proofs.lemmas.List.Sums.{sum_by-append, sum_by-cons}
use Rattle.std.proofs.lemmas.Bool.Decides.{nat_tests}
use Rattle.ngx_outside.specs.Views.{ConnView, Course, Start, StepsOwn, OneSteps, LeftBy, nobody}
use Rattle.ngx_outside.specs.declared.event.Event.{Event}
use Rattle.ngx_outside.specs.declared.event.Event.TheVariants as ev
use Rattle.ngx_outside.specs.declared.event.StepAnswer.{StepAnswer}
use Rattle.ngx_outside.specs.declared.event.StepAnswer.TheVariants.{Done, Skipped, OutOfMemory}
use Rattle.http_connection.specs.declared.conn.Conn.{Conn}
use Rattle.http_connection.specs.Conn.{view_of, left_of, price, ended_by, StepsConn}
use Rattle.http_connection.specs.Rests.{Serves, IsReachedIn, TellsRaceless}
use Rattle.connection_core.specs.Table.{view_in, journal_in, left_in, is_own, price_each, Below, StandsAt, BelongsAt, Placed, Replaced}
use Rattle.connection_core.proofs.Tables.{there, elsewhere, nowhere, none_of_two}
use Rattle.connection_core.proofs.Rows.{Parted, parted_at}

-- a connection at its place, among its numbers
pub record Seat (c at : ℕ) (ids : List ℕ) (conns : List Conn) : Type 0 where
  pub stands : StandsAt c ids at
  pub placed : Placed at conns
  pub even : length placed.front ≡ length stands.front

stands_within : (c at : ℕ) (ids : List ℕ) (conns : List Conn) → StandsAt c ids at → length conns ≡ length ids → at < length conns
stands_within c at ids conns s paired =
    let e = ap length s.whole in
    let f = length-append s.front (c ∷ s.back) in
    let g = s.size in
    omega (arith, e, f, g, paired)

seat_of : (c at : ℕ) (ids : List ℕ) (conns : List Conn) → StandsAt c ids at → Parted conns at → Seat c at ids conns
seat_of c at ids conns s p = record {
  stands = s;
  placed = record { front = p.front; here = p.here; back = p.back; whole = p.whole; size = p.size };
  even = p.size ∙ sym s.size;
}

pub seat_at : (c at : ℕ) (ids : List ℕ) (conns : List Conn) → StandsAt c ids at → length conns ≡ length ids → Seat c at ids conns
seat_at c at ids conns s paired = seat_of c at ids conns s (parted_at conns at (stands_within c at ids conns s paired))

set_there : {X : Type 0} (front : List X) (here new : X) (back : List X) → set (front ++ here ∷ back) (length front) new ≡ front ++ new ∷ back
set_there [] here new back = refl
set_there (x ∷ front) here new back = ap (λ r. x ∷ r) (set_there front here new back)

get_there : {X : Type 0} (front : List X) (here : X) (back : List X) (d : X) → get_or (front ++ here ∷ back) (length front) d ≡ here
get_there [] here back d = refl
get_there (x ∷ front) here back d = get_there front here back d

found_at : (at : ℕ) (conns : List Conn) (p : Placed at conns) (d : Conn) → get_or conns at d ≡ p.here
found_at at conns p d =
    ap (λ l. get_or l at d) p.whole ∙ ap (λ k. get_or (p.front ++ p.here ∷ p.back) k d) (sym p.size) ∙ get_there p.front p.here p.back d

-- the connection at the place
pub here_is : (at : ℕ) (conns : List Conn) (p : Placed at conns) (here : Conn) → here ≡ get_or conns at here → here ≡ p.here
here_is at conns p here e = e ∙ found_at at conns p here

-- there is one alone
pub one_here : (at : ℕ) (conns : List Conn) (p q : Placed at conns) → p.here ≡ q.here
one_here at conns p q = sym (found_at at conns p p.here) ∙ found_at at conns q p.here

-- another is put in its place
pub set_at : (at : ℕ) (conns : List Conn) (p : Placed at conns) (new : Conn) → set conns at new ≡ p.front ++ new ∷ p.back
set_at at conns p new =
    ap (λ l. set l at new) p.whole ∙ ap (λ k. set (p.front ++ p.here ∷ p.back) k new) (sym p.size) ∙ set_there p.front p.here new p.back

-- another is in its place
pub replaced_at : (at : ℕ) (conns : List Conn) (Does : Conn → Conn → Type 0) (p : Placed at conns) (here new : Conn) → here ≡ get_or conns at here → Does here new →
    Replaced at conns Does p (set conns at new)
replaced_at at conns Does p here new e d = record {
  there = new;
  does = subst (λ x. Does x new) (here_is at conns p here e) d;
  whole = set_at at conns p new;
}

-- the same is in its place
pub unchanged_at : (at : ℕ) (conns : List Conn) (p : Placed at conns) (here new : Conn) → here ≡ get_or conns at here → new ≡ here → set conns at new ≡ conns
unchanged_at at conns p here new e same =
    set_at at conns p new ∙ ap (λ n. p.front ++ n ∷ p.back) (same ∙ here_is at conns p here e) ∙ sym p.whole

-- what the connection under the number shows
pub seen : (serves : Serves) (c at : ℕ) (ids : List ℕ) (conns : List Conn) (s : Seat c at ids conns) → view_in serves ids conns c ≡ view_of serves s.placed.here
seen serves c at ids conns s =
    let p = s.placed in
    let t = s.stands in
    ap (λ l. view_in serves l conns c) t.whole ∙ ap (λ l. view_in serves (t.front ++ c ∷ t.back) l c) p.whole ∙ there serves t.front p.front c p.here t.back p.back s.even t.below

-- what it shows when it has changed
pub changed : (serves : Serves) (c at : ℕ) (ids : List ℕ) (conns conns' : List Conn) (Does : Conn → Conn → Type 0) (s : Seat c at ids conns) →
    (r : Replaced at conns Does s.placed conns') → view_in serves ids conns' c ≡ view_of serves r.there
changed serves c at ids conns conns' Does s r =
    let p = s.placed in
    let t = s.stands in
    ap (λ l. view_in serves l conns' c) t.whole ∙ ap (λ l. view_in serves (t.front ++ c ∷ t.back) l c) r.whole ∙ there serves t.front p.front c r.there t.back p.back s.even t.below

-- other numbers see nothing of it
beside : (serves : Serves) (c at : ℕ) (ids : List ℕ) (conns conns' : List Conn) (Does : Conn → Conn → Type 0) (s : Seat c at ids conns) →
    Replaced at conns Does s.placed conns' → (q : ℕ) → q ≢ c → view_in serves ids conns' q ≡ view_in serves ids conns q
beside serves c at ids conns conns' Does s r q ne =
    let p = s.placed in
    let t = s.stands in
    ap (λ l. view_in serves l conns' q) t.whole ∙ ap (λ l. view_in serves (t.front ++ c ∷ t.back) l q) r.whole ∙ elsewhere serves t.front p.front c r.there t.back p.back q s.even ne
    ∙ sym (ap (λ l. view_in serves l conns q) t.whole ∙ ap (λ l. view_in serves (t.front ++ c ∷ t.back) l q) p.whole ∙ elsewhere serves t.front p.front c p.here t.back p.back q s.even ne)

-- one connection has changed
pub one_steps : (serves : Serves) (c at : ℕ) (ids : List ℕ) (conns conns' : List Conn) (now : Start) (e : Event) (a : StepAnswer) (s : Seat c at ids conns) →
    Replaced at conns (λ old new. StepsConn serves now e a old new) s.placed conns' → TellsRaceless serves → IsReachedIn serves s.placed.here.flight → (course : Course) → OneSteps c (StepsOwn course now e a) (view_in serves ids conns) (view_in serves ids conns')
one_steps serves c at ids conns conns' now e a s r told led course = record {
  own =
      subst (λ v. StepsOwn course now e a v (view_in serves ids conns' c)) (sym (seen serves c at ids conns s))
      (subst (λ v. StepsOwn course now e a (view_of serves s.placed.here) v) (sym (changed serves c at ids conns conns' (λ old new. StepsConn serves now e a old new) s r)) (r.does.own told led course));
  others = beside serves c at ids conns conns' (λ old new. StepsConn serves now e a old new) s r;
}

-- its input ended as its event says
pub one_ended : (serves : Serves) (c at : ℕ) (ids : List ℕ) (conns conns' : List Conn) (now : Start) (e : Event) (a : StepAnswer) (s : Seat c at ids conns) →
    Replaced at conns (λ old new. StepsConn serves now e a old new) s.placed conns' → (view_in serves ids conns' c).ended ≡ ended_by e a (view_in serves ids conns c).ended
one_ended serves c at ids conns conns' now e a s r =
    ap (λ (v : ConnView). v.ended) (changed serves c at ids conns conns' (λ old new. StepsConn serves now e a old new) s r) ∙ r.does.ended
    ∙ sym (ap (λ (v : ConnView). ended_by e a v.ended) (seen serves c at ids conns s))

pub left_split : (front back : List Conn) (conn : Conn) → left_in (front ++ conn ∷ back) ≡ left_in front + ((1 + left_of conn) + left_in back)
left_split front back conn =
    sum_by-append (λ conn. 1 + left_of conn) front (conn ∷ back) ∙ ap (λ n. left_in front + n) (sum_by-cons (λ conn. 1 + left_of conn) conn back)

-- the work that is left changes as that of the connection does
left_more : (e : Event) (a : StepAnswer) (k m n x y : ℕ) → is_own e ≡ true → m ≡ k + x → n ≡ k + y → LeftBy price e a x y → LeftBy price_each e a m n
left_more (ev.Opened conn local peer) a k m n x y o f g h = cc
left_more (ev.Arrived conn bytes) (Done taken) k m n x y o f g h =
    let p : price * taken ≤ price_each * taken = mul-le-mul_right taken (omega arith) in
    omega (arith, p, f, g, h)
left_more (ev.Arrived conn bytes) Skipped k m n x y o f g h = omega (arith, f, g, h)
left_more (ev.Arrived conn bytes) OutOfMemory k m n x y o f g h = omega (arith, f, g, h)
left_more (ev.Ended conn) (Done taken) k m n x y o f g h = omega (arith, f, g, h)
left_more (ev.Ended conn) Skipped k m n x y o f g h = omega (arith, f, g, h)
left_more (ev.Ended conn) OutOfMemory k m n x y o f g h = omega (arith, f, g, h)
left_more (ev.Wrote conn count) (Done taken) k m n x y o f g h = omega (arith, f, g, h)
left_more (ev.Wrote conn count) Skipped k m n x y o f g h = omega (arith, f, g, h)
left_more (ev.Wrote conn count) OutOfMemory k m n x y o f g h = omega (arith, f, g, h)
left_more (ev.LinkFailed conn) (Done taken) k m n x y o f g h = omega (arith, f, g, h)
left_more (ev.LinkFailed conn) Skipped k m n x y o f g h = omega (arith, f, g, h)
left_more (ev.LinkFailed conn) OutOfMemory k m n x y o f g h = omega (arith, f, g, h)
left_more (ev.FileDone conn node answer) (Done taken) k m n x y o f g h = omega (arith, f, g, h)
left_more (ev.FileDone conn node answer) Skipped k m n x y o f g h = omega (arith, f, g, h)
left_more (ev.FileDone conn node answer) OutOfMemory k m n x y o f g h = omega (arith, f, g, h)
left_more (ev.JobFailed conn node) (Done taken) k m n x y o f g h = omega (arith, f, g, h)
left_more (ev.JobFailed conn node) Skipped k m n x y o f g h = omega (arith, f, g, h)
left_more (ev.JobFailed conn node) OutOfMemory k m n x y o f g h = omega (arith, f, g, h)
left_more (ev.Run conn node) (Done taken) k m n x y o f g h = omega (arith, f, g, h)
left_more (ev.Run conn node) Skipped k m n x y o f g h = omega (arith, f, g, h)
left_more (ev.Run conn node) OutOfMemory k m n x y o f g h = omega (arith, f, g, h)
left_more (ev.Tick moment) a k m n x y o f g h = cc
left_more (ev.Tree to) a k m n x y o f g h = cc
left_more (ev.Gone conn) a k m n x y o f g h = cc

pub left_after : (serves : Serves) (c at : ℕ) (ids : List ℕ) (conns conns' : List Conn) (now : Start) (e : Event) (a : StepAnswer) (s : Seat c at ids conns) → is_own e ≡ true →
    Replaced at conns (λ old new. StepsConn serves now e a old new) s.placed conns' → LeftBy price_each e a (left_in conns) (left_in conns')
left_after serves c at ids conns conns' now e a s o r =
    let p = s.placed in
    let was = ap left_in p.whole ∙ left_split p.front p.back p.here in
    let is = ap left_in r.whole ∙ left_split p.front p.back r.there in
    left_more e a (left_in p.front + (1 + left_in p.back)) (left_in conns) (left_in conns') (left_of p.here) (left_of r.there) o (omega (arith, was)) (omega (arith, is)) r.does.left

-- an event of a connection that isn't held is skipped
pub skips_nobody : (course : Course) (now : Start) (e : Event) → is_own e ≡ true → StepsOwn course now e Skipped nobody nobody
skips_nobody course now (ev.Opened conn local peer) o = cc
skips_nobody course now (ev.Arrived conn bytes) o = record { same = refl; cause = λ room h. cc }
skips_nobody course now (ev.Ended conn) o = record { same = refl; cause = refl }
skips_nobody course now (ev.Wrote conn count) o = record { same = refl; cause = λ h. h }
skips_nobody course now (ev.LinkFailed conn) o = record { same = refl; cause = refl }
skips_nobody course now (ev.FileDone conn node answer) o = record { same = refl; cause = λ ask h. cc }
skips_nobody course now (ev.JobFailed conn node) o = record { same = refl; cause = refl }
skips_nobody course now (ev.Run conn node) o = record { same = refl; cause = λ h. absurd (omega (arith, h.1)) }
skips_nobody course now (ev.Tick moment) o = cc
skips_nobody course now (ev.Tree to) o = cc
skips_nobody course now (ev.Gone conn) o = cc

pub unseen : (serves : Serves) (c at : ℕ) (ids : List ℕ) (conns : List Conn) → BelongsAt c ids at → view_in serves ids conns c ≡ nobody
unseen serves c at ids conns b = nowhere serves ids conns c (subst (λ l. AllByRecursion (λ id. id ≢ c) l) (sym b.whole) (none_of_two b.front b.back c b.below b.above))

pub none_steps : (serves : Serves) (c at : ℕ) (ids : List ℕ) (conns : List Conn) (now : Start) (e : Event) (course : Course) → is_own e ≡ true → BelongsAt c ids at →
    OneSteps c (StepsOwn course now e Skipped) (view_in serves ids conns) (view_in serves ids conns)
none_steps serves c at ids conns now e course o b = record {
  own = subst (λ v. StepsOwn course now e Skipped v v) (sym (unseen serves c at ids conns b)) (skips_nobody course now e o);
  others = λ q ne. refl;
}

pub left_same : (e : Event) (n : ℕ) → LeftBy price_each e Skipped n n
left_same (ev.Opened conn local peer) n = refl
left_same (ev.Arrived conn bytes) n = refl
left_same (ev.Ended conn) n = refl
left_same (ev.Wrote conn count) n = refl
left_same (ev.LinkFailed conn) n = refl
left_same (ev.FileDone conn node answer) n = refl
left_same (ev.JobFailed conn node) n = refl
left_same (ev.Run conn node) n = refl
left_same (ev.Tick moment) n = refl
left_same (ev.Tree to) n = refl
left_same (ev.Gone conn) n = refl

-- the requests that were started on it
journal_there : (front : List ℕ) (before : List Conn) (c : ℕ) (conn : Conn) (back : List ℕ) (after : List Conn) → length before ≡ length front → Below c front →
    journal_in (front ++ c ∷ back) (before ++ conn ∷ after) c ≡ conn.journal.past.entries
journal_there [] [] c conn back after e b = ap (λ t. cond t conn.journal.past.entries (journal_in back after c)) (let h : eqb c c ≡ true = grind (arith, nat_tests) in h)
journal_there [] (x ∷ before) c conn back after e b = absurd (omega (arith, e))
journal_there (f ∷ front) [] c conn back after e b = absurd (omega (arith, e))
journal_there (f ∷ front) (x ∷ before) c conn back after e b =
    let n = b.0 in
    let h : eqb f c ≡ false = grind (arith, nat_tests) in
    ap (λ t. cond t x.journal.past.entries (journal_in (front ++ c ∷ back) (before ++ conn ∷ after) c)) h ∙ journal_there front before c conn back after (omega (arith, e)) b.1

journal_nowhere : (ids : List ℕ) (conns : List Conn) (c : ℕ) → AllByRecursion (λ id. id ≢ c) ids → journal_in ids conns c ≡ []
journal_nowhere [] conns c a = refl
journal_nowhere (id ∷ ids) [] c a = refl
journal_nowhere (id ∷ ids) (conn ∷ conns) c a =
    let n = a.0 in
    let h : eqb id c ≡ false = grind (arith, nat_tests) in
    ap (λ t. cond t conn.journal.past.entries (journal_in ids conns c)) h ∙ journal_nowhere ids conns c a.1

pub journal_seen : (c at : ℕ) (ids : List ℕ) (conns : List Conn) (s : Seat c at ids conns) → journal_in ids conns c ≡ s.placed.here.journal.past.entries
journal_seen c at ids conns s =
    let p = s.placed in
    let t = s.stands in
    ap (λ l. journal_in l conns c) t.whole ∙ ap (λ l. journal_in (t.front ++ c ∷ t.back) l c) p.whole ∙ journal_there t.front p.front c p.here t.back p.back s.even t.below

pub journal_unseen : (c at : ℕ) (ids : List ℕ) (conns : List Conn) → BelongsAt c ids at → journal_in ids conns c ≡ []
journal_unseen c at ids conns b = journal_nowhere ids conns c (subst (λ l. AllByRecursion (λ id. id ≢ c) l) (sym b.whole) (none_of_two b.front b.back c b.below b.above))

-- a place that was found in what the numbers are lent as
pub stands_in : (c at : ℕ) (lent ids : List ℕ) → lent ≡ ids → StandsAt c lent at → StandsAt c ids at
stands_in c at lent ids e s = subst (λ l. StandsAt c l at) e s

pub belongs_in : (c at : ℕ) (lent ids : List ℕ) → lent ≡ ids → BelongsAt c lent at → BelongsAt c ids at
belongs_in c at lent ids e b = subst (λ l. BelongsAt c l at) e b

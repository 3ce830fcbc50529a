-- A connection is held, or let go.
use Rattle.std.proofs.Common.{◌≡◌, ◌≢◌, inl, inr, ℕ, ◌+◌, ◌<◌, ◌≤◌, Bool, true, false, cond, eqb, not, ◌&&◌, ◌||◌, List, [], ◌∷◌, ◌++◌, length, get_or, refl, sym, ap, ◌∙◌, subst, arith, length-append, suc, zero}
use Rattle.std.specs.Prelude.{nat_lt, ◌↔◌, ◌⊎◌, None}
use Rattle.std.specs.List.{AllByRecursion, Contains, insert, remove}
use Rattle.std.specs.List.Sorted.{IsStrictlyIncreasing}
use Rattle.std.proofs.lemmas.Bool.Decides.{nat_tests}
use Rattle.std.proofs.lemmas.List.Sums.{sum_by-append}
use Rattle.ngx_outside.specs.Views.{ConnView, Start, StepsOwn, OneSteps, OpensIf, Fresh, nobody}
use Rattle.ngx_outside.specs.Wants.{wants_at, first_doable}
use Rattle.http_types.specs.declared.words.Addr.{Addr}
use Rattle.ngx_outside.specs.declared.event.Event.{Event}
use Rattle.ngx_outside.specs.declared.event.StepAnswer.{StepAnswer}
use Rattle.ngx_outside.specs.declared.event.Event.TheVariants as ev
use Rattle.ngx_outside.specs.declared.event.StepAnswer.TheVariants.{Done, Skipped, OutOfMemory}
use Rattle.http_connection.specs.declared.conn.Conn.{Conn}
use Rattle.ngx_pattern.specs.Pattern.{Pattern as SetPattern}
use Rattle.site_model.specs.declared.site.Site.{Site}
use Rattle.http_connection.specs.Conn.{view_of, left_of, asked_of, price, weight, fresh_course, StepsConn}
use Rattle.http_connection.specs.Rests.{Serves}
use Rattle.connection_core.specs.Table.{view_in, left_in, price_each, most_held, opens_in, listens_there, is_among, AllKnown, StandsAt, BelongsAt, Placed, Replaced}
use Rattle.connection_core.proofs.Tables.{there, elsewhere, nowhere, none_of_two}
use Rattle.connection_core.proofs.Rows.{parted_between, inserted, removed, put_rises, cut_rises, among_here, among_none}
use Rattle.connection_core.proofs.Held.{Seat, left_split, seen}

-- a place between those that are held
pub record Gap (c at : ℕ) (ids : List ℕ) (conns : List Conn) : Type 0 where
  pub belongs : BelongsAt c ids at
  pub front : List Conn
  pub back : List Conn
  pub whole : conns ≡ front ++ back
  pub size : length front ≡ at
  pub even : length front ≡ length belongs.front

belongs_within : (c at : ℕ) (ids : List ℕ) (conns : List Conn) → BelongsAt c ids at → length conns ≡ length ids → at ≤ length conns
belongs_within c at ids conns b paired =
    let e = ap length b.whole in
    let f = length-append b.front b.back in
    let g = b.size in
    omega (arith, e, f, g, paired)

gap_of : (c at : ℕ) (ids : List ℕ) (conns : List Conn) → (b : BelongsAt c ids at) → (front : List Conn) × (back : List Conn) × (conns ≡ front ++ back) × (length front ≡ at) → Gap c at ids conns
gap_of c at ids conns b p = record {
  belongs = b;
  front = p.0;
  back = p.1;
  whole = p.2;
  size = p.3;
  even = p.3 ∙ sym b.size;
}

pub gap_at : (c at : ℕ) (ids : List ℕ) (conns : List Conn) → BelongsAt c ids at → length conns ≡ length ids → Gap c at ids conns
gap_at c at ids conns b paired = gap_of c at ids conns b (parted_between conns at (belongs_within c at ids conns b paired))

ids_put : (c at : ℕ) (ids : List ℕ) (conns : List Conn) (g : Gap c at ids conns) → insert ids at c ≡ g.belongs.front ++ c ∷ g.belongs.back
ids_put c at ids conns g = inserted ids g.belongs.front g.belongs.back c at g.belongs.whole g.belongs.size

pub conns_put : (c at : ℕ) (ids : List ℕ) (conns : List Conn) (x : Conn) (g : Gap c at ids conns) → insert conns at x ≡ g.front ++ x ∷ g.back
conns_put c at ids conns x g = inserted conns g.front g.back x at g.whole g.size

pub put_rising : (c at : ℕ) (ids ids' : List ℕ) → BelongsAt c ids at → ids' ≡ insert ids at c → IsStrictlyIncreasing ids → IsStrictlyIncreasing ids'
put_rising c at ids ids' b e s =
    subst (λ l. IsStrictlyIncreasing l) (sym (e ∙ inserted ids b.front b.back c at b.whole b.size)) (put_rises b.front b.back c (subst (λ l. IsStrictlyIncreasing l) b.whole s) b.below b.above)

put_before : (serves : Serves) (c at : ℕ) (ids : List ℕ) (conns : List Conn) (b : BelongsAt c ids at) → view_in serves ids conns c ≡ nobody
put_before serves c at ids conns b = nowhere serves ids conns c (subst (λ l. AllByRecursion (λ id. id ≢ c) l) (sym b.whole) (none_of_two b.front b.back c b.below b.above))

pub put_after : (serves : Serves) (c at : ℕ) (ids ids' : List ℕ) (conns conns' : List Conn) (x : Conn) (g : Gap c at ids conns) → ids' ≡ insert ids at c → conns' ≡ insert conns at x → view_in serves ids' conns' c ≡ view_of serves x
put_after serves c at ids ids' conns conns' x g e f =
    let b = g.belongs in
    ap (λ l. view_in serves l conns' c) (e ∙ ids_put c at ids conns g) ∙ ap (λ l. view_in serves (b.front ++ c ∷ b.back) l c) (f ∙ conns_put c at ids conns x g) ∙ there serves b.front g.front c x b.back g.back g.even b.below

put_beside : (serves : Serves) (c at : ℕ) (ids ids' : List ℕ) (conns conns' : List Conn) (x : Conn) (g : Gap c at ids conns) → ids' ≡ insert ids at c → conns' ≡ insert conns at x → (q : ℕ) → q ≢ c →
    view_in serves ids' conns' q ≡ view_in serves ids conns q
put_beside serves c at ids ids' conns conns' x g e f q ne =
    let b = g.belongs in
    ap (λ l. view_in serves l conns' q) (e ∙ ids_put c at ids conns g) ∙ ap (λ l. view_in serves (b.front ++ c ∷ b.back) l q) (f ∙ conns_put c at ids conns x g) ∙ elsewhere serves b.front g.front c x b.back g.back q g.even ne
    ∙ sym (ap (λ l. view_in serves l conns q) b.whole ∙ ap (λ l. view_in serves (b.front ++ b.back) l q) g.whole)

pub put_steps : (serves : Serves) (c at : ℕ) (ids ids' : List ℕ) (conns conns' : List Conn) (x : Conn) (g : Gap c at ids conns) → ids' ≡ insert ids at c → conns' ≡ insert conns at x → (local peer : Addr) → Fresh (fresh_course serves.served.raceless serves.patterns serves.served.site local peer) (view_of serves x) →
    (now : Start) (taken : ℕ) → OneSteps c (StepsOwn (fresh_course serves.served.raceless serves.patterns serves.served.site local peer) now (ev.Opened c local peer) (Done taken)) (view_in serves ids conns) (view_in serves ids' conns')
put_steps serves c at ids ids' conns conns' x g e f local peer fresh now taken = record {
  own = (ap (λ (v : ConnView). v.held) (put_before serves c at ids conns g.belongs), subst (λ v. Fresh (fresh_course serves.served.raceless serves.patterns serves.served.site local peer) v) (sym (put_after serves c at ids ids' conns conns' x g e f)) fresh);
  others = put_beside serves c at ids ids' conns conns' x g e f;
}

left_joined : (front back : List Conn) → left_in (front ++ back) ≡ left_in front + left_in back
left_joined front back = sum_by-append (λ conn. 1 + left_of conn) front back

pub put_left : (c at : ℕ) (ids : List ℕ) (conns conns' : List Conn) (x : Conn) (g : Gap c at ids conns) → conns' ≡ insert conns at x → left_of x ≡ 1 + weight → left_in conns' ≤ left_in conns + price_each
unfolding price weight
put_left c at ids conns conns' x g f h =
    let was = ap left_in g.whole ∙ left_joined g.front g.back in
    let is = ap left_in (f ∙ conns_put c at ids conns x g) ∙ left_split g.front g.back x in
    omega (arith, was, is, h)

-- whether one can be opened
pub opens_full : (patterns : List SetPattern) (site : Site) (ids : List ℕ) (c : ℕ) (local : Addr) → 512 ≤ length ids → opens_in patterns site ids c local ≡ false
unfolding most_held
opens_full patterns site ids c local h =
    let e : nat_lt (length ids) 512 ≡ false = grind (arith, nat_tests) in
    ap (λ t. not (is_among c ids) && (t && listens_there patterns site local)) e ∙ never (not (is_among c ids))
  where
    never : (t : Bool) → (t && false) ≡ false
    never true = refl
    never false = refl

pub opens_deaf : (patterns : List SetPattern) (site : Site) (ids : List ℕ) (c : ℕ) (local : Addr) → listens_there patterns site local ≡ false → opens_in patterns site ids c local ≡ false
opens_deaf patterns site ids c local h =
    ap (λ t. not (is_among c ids) && (nat_lt (length ids) most_held && t)) h ∙ never (not (is_among c ids)) (nat_lt (length ids) most_held)
  where
    never : (s t : Bool) → (s && (t && false)) ≡ false
    never true true = refl
    never true false = refl
    never false t = refl

pub opens_held : (patterns : List SetPattern) (site : Site) (ids : List ℕ) (c at : ℕ) (local : Addr) → StandsAt c ids at → opens_in patterns site ids c local ≡ false
opens_held patterns site ids c at local s =
    ap (λ t. not t && (nat_lt (length ids) most_held && listens_there patterns site local)) (ap (is_among c) s.whole ∙ among_here s.front s.back c)

pub opens_free : (patterns : List SetPattern) (site : Site) (ids : List ℕ) (c at : ℕ) (local : Addr) → BelongsAt c ids at → length ids < 512 → listens_there patterns site local ≡ true → opens_in patterns site ids c local ≡ true
unfolding most_held
opens_free patterns site ids c at local b h l =
    let e : nat_lt (length ids) 512 ≡ true = grind (arith, nat_tests) in
    ap (λ t. not t && (nat_lt (length ids) 512 && listens_there patterns site local)) (among_none ids c (subst (λ l. AllByRecursion (λ id. id ≢ c) l) (sym b.whole) (none_of_two b.front b.back c b.below b.above)))
    ∙ ap (λ t. t && listens_there patterns site local) e ∙ l

-- a connection is let go
pub cut_rising : (c at : ℕ) (ids ids' : List ℕ) → StandsAt c ids at → ids' ≡ remove ids at → IsStrictlyIncreasing ids → IsStrictlyIncreasing ids'
cut_rising c at ids ids' b e s =
    subst (λ l. IsStrictlyIncreasing l) (sym (e ∙ removed ids b.front b.back c at b.whole b.size)) (cut_rises b.front b.back c (subst (λ l. IsStrictlyIncreasing l) b.whole s))

ids_cut : (c at : ℕ) (ids : List ℕ) (conns : List Conn) (s : Seat c at ids conns) → remove ids at ≡ s.stands.front ++ s.stands.back
ids_cut c at ids conns s = removed ids s.stands.front s.stands.back c at s.stands.whole s.stands.size

pub conns_cut : (c at : ℕ) (ids : List ℕ) (conns : List Conn) (s : Seat c at ids conns) → remove conns at ≡ s.placed.front ++ s.placed.back
conns_cut c at ids conns s = removed conns s.placed.front s.placed.back s.placed.here at s.placed.whole s.placed.size

pub cut_after : (serves : Serves) (c at : ℕ) (ids ids' : List ℕ) (conns conns' : List Conn) (s : Seat c at ids conns) → ids' ≡ remove ids at → view_in serves ids' conns' c ≡ nobody
cut_after serves c at ids ids' conns conns' s e =
    let t = s.stands in
    nowhere serves ids' conns' c (subst (λ l. AllByRecursion (λ id. id ≢ c) l) (sym (e ∙ ids_cut c at ids conns s)) (none_of_two t.front t.back c t.below t.above))

cut_beside : (serves : Serves) (c at : ℕ) (ids ids' : List ℕ) (conns conns' : List Conn) (s : Seat c at ids conns) → ids' ≡ remove ids at → conns' ≡ remove conns at → (q : ℕ) → q ≢ c →
    view_in serves ids' conns' q ≡ view_in serves ids conns q
cut_beside serves c at ids ids' conns conns' s e f q ne =
    let t = s.stands in
    let p = s.placed in
    ap (λ l. view_in serves l conns' q) (e ∙ ids_cut c at ids conns s) ∙ ap (λ l. view_in serves (t.front ++ t.back) l q) (f ∙ conns_cut c at ids conns s)
    ∙ sym (ap (λ l. view_in serves l conns q) t.whole ∙ ap (λ l. view_in serves (t.front ++ c ∷ t.back) l q) p.whole ∙ elsewhere serves t.front p.front c p.here t.back p.back q s.even ne)

pub cut_steps : (serves : Serves) (c at : ℕ) (ids ids' : List ℕ) (conns conns' : List Conn) (s : Seat c at ids conns) → ids' ≡ remove ids at → conns' ≡ remove conns at → (view_of serves s.placed.here).shut ≡ true →
    (now : Start) (taken : ℕ) → OneSteps c (StepsOwn nobody.course now (ev.Gone c) (Done taken)) (view_in serves ids conns) (view_in serves ids' conns')
cut_steps serves c at ids ids' conns conns' s e f shut now taken = record {
  own = (ap (λ (v : ConnView). v.shut) (seen serves c at ids conns s) ∙ shut, cut_after serves c at ids ids' conns conns' s e);
  others = cut_beside serves c at ids ids' conns conns' s e f;
}

pub cut_left : (c at : ℕ) (ids : List ℕ) (conns conns' : List Conn) (s : Seat c at ids conns) → conns' ≡ remove conns at → left_in conns' < left_in conns
cut_left c at ids conns conns' s f =
    let was = ap left_in s.placed.whole ∙ left_split s.placed.front s.placed.back s.placed.here in
    let is = ap left_in (f ∙ conns_cut c at ids conns s) ∙ left_joined s.placed.front s.placed.back in
    omega (arith, was, is)

-- the connections that are held
test_is : (a b : ℕ) → a ≡ b → eqb a b ≡ true
test_is a b e = grind (arith, nat_tests)

test_means : (a b : ℕ) → eqb a b ≡ true → a ≡ b
test_means a b e = grind (arith, nat_tests)

shows : (serves : Serves) (ids : List ℕ) (conns : List Conn) (c k : ℕ) → length conns ≡ length ids → k < length ids → get_or ids k c ≡ c → (view_in serves ids conns c).held ≡ true
shows serves [] conns c k e h g = absurd (omega (arith, h))
shows serves (id ∷ ids) [] c k e h g = absurd (omega (arith, e))
shows serves (id ∷ ids) (conn ∷ conns) c zero e h g = ap (λ t. (cond t (view_of serves conn) (view_in serves ids conns c)).held) (test_is id c g)
shows serves (id ∷ ids) (conn ∷ conns) c (suc k) e h g = either (eqb id c) (shows serves ids conns c k (omega (arith, e)) (omega (arith, h)) g)
  where
    either : (t : Bool) → (view_in serves ids conns c).held ≡ true → (cond t (view_of serves conn) (view_in serves ids conns c)).held ≡ true
    either true s = refl
    either false s = s

stands_if : (serves : Serves) (id : ℕ) (ids : List ℕ) (conn : Conn) (conns : List Conn) (c : ℕ) → ((view_in serves ids conns c).held ≡ true → Contains ids c) → (t : Bool) → eqb id c ≡ t →
    (cond t (view_of serves conn) (view_in serves ids conns c)).held ≡ true → Contains (id ∷ ids) c
stands_if serves id ids conn conns c more true e s = (0, omega arith, test_means id c e)
stands_if serves id ids conn conns c more false e s = let r = more s in (suc r.0, (let lt = r.1 in omega (arith, lt)), r.2)

stands : (serves : Serves) (ids : List ℕ) (conns : List Conn) (c : ℕ) → (view_in serves ids conns c).held ≡ true → Contains ids c
stands serves [] conns c h = cc
stands serves (id ∷ ids) [] c h = cc
stands serves (id ∷ ids) (conn ∷ conns) c h = stands_if serves id ids conn conns c (stands serves ids conns c) (eqb id c) refl h

pub held_as : (serves : Serves) (ids : List ℕ) (conns : List Conn) → length conns ≡ length ids → (c : ℕ) → Contains ids c ↔ ((view_in serves ids conns c).held ≡ true)
held_as serves ids conns e c = (λ h. shows serves ids conns c h.0 e h.1 h.2, stands serves ids conns c)

-- a number is among those that are held where its connection is
among_held : (serves : Serves) (ids : List ℕ) (conns : List Conn) (c : ℕ) → length conns ≡ length ids → is_among c ids ≡ (view_in serves ids conns c).held
among_held serves [] conns c e = refl
among_held serves (id ∷ ids) [] c e = cc
among_held serves (id ∷ ids) (conn ∷ conns) c e =
    let rest : length conns ≡ length ids = omega (arith, e) in
    elim (eqb id c) as (λ t. (t || is_among c ids) ≡ (cond t (view_of serves conn) (view_in serves ids conns c)).held) [ true ↦ refl | false ↦ among_held serves ids conns c rest ]

-- a number can be taken where its connection isn't held
pub opens_as : (serves : Serves) (ids : List ℕ) (conns : List Conn) → length conns ≡ length ids → (c : ℕ) (local peer : Addr) (a : StepAnswer) → OpensIf (opens_in serves.patterns serves.served.site ids) (ev.Opened c local peer) a →
    OpensIf (λ q end. not (view_in serves ids conns q).held && (nat_lt (length ids) most_held && listens_there serves.patterns serves.served.site end)) (ev.Opened c local peer) a
opens_as serves ids conns even c local peer a h = by_answer a h
  where
    same : (not (view_in serves ids conns c).held && (nat_lt (length ids) most_held && listens_there serves.patterns serves.served.site local)) ≡ opens_in serves.patterns serves.served.site ids c local
    same = ap (λ t. not t && (nat_lt (length ids) most_held && listens_there serves.patterns serves.served.site local)) (sym (among_held serves ids conns c even))

    by_answer : (a : StepAnswer) → OpensIf (opens_in serves.patterns serves.served.site ids) (ev.Opened c local peer) a →
        OpensIf (λ q end. not (view_in serves ids conns q).held && (nat_lt (length ids) most_held && listens_there serves.patterns serves.served.site end)) (ev.Opened c local peer) a
    by_answer Skipped h = same ∙ h
    by_answer (Done taken) h = same ∙ h
    by_answer OutOfMemory h = same ∙ h

-- no job asks of a newer tree
pub known_of_two : (tree : ℕ) (front back : List Conn) → AllKnown tree front → AllKnown tree back → AllKnown tree (front ++ back)
known_of_two tree [] back a b = b
known_of_two tree (x ∷ front) back a b = (a.0, known_of_two tree front back a.1 b)

known_front : (tree : ℕ) (front back : List Conn) → AllKnown tree (front ++ back) → AllKnown tree front
known_front tree [] back a = tt
known_front tree (x ∷ front) back a = (a.0, known_front tree front back a.1)

known_back : (tree : ℕ) (front back : List Conn) → AllKnown tree (front ++ back) → AllKnown tree back
known_back tree [] back a = a
known_back tree (x ∷ front) back a = known_back tree front back a.1

either_known : (asked was tree : ℕ) → (asked ≤ was) ⊎ (asked ≤ tree) → was ≤ tree → asked ≤ tree
either_known asked was tree (inl e) h = omega (arith, e, h)
either_known asked was tree (inr e) h = e

pub own_known : (serves : Serves) (c at : ℕ) (conns conns' : List Conn) (now : Start) (e : Event) (a : StepAnswer) (p : Placed at conns) →
    Replaced at conns (λ old new. StepsConn serves now e a old new) p conns' → AllKnown now.tree conns → AllKnown now.tree conns'
own_known serves c at conns conns' now e a p r known =
    let all = subst (AllKnown now.tree) p.whole known in
    let back = known_back now.tree p.front (p.here ∷ p.back) all in
    subst (AllKnown now.tree) (sym r.whole) (known_of_two now.tree p.front (r.there ∷ p.back) (known_front now.tree p.front (p.here ∷ p.back) all) (either_known (asked_of r.there) (asked_of p.here) now.tree r.does.asked back.0, back.1))

pub put_known : (tree c at : ℕ) (ids : List ℕ) (conns conns' : List Conn) (x : Conn) (g : Gap c at ids conns) → conns' ≡ insert conns at x → asked_of x ≡ 0 → AllKnown tree conns → AllKnown tree conns'
put_known tree c at ids conns conns' x g e fresh known =
    let all = subst (AllKnown tree) g.whole known in
    subst (AllKnown tree) (sym (e ∙ conns_put c at ids conns x g)) (known_of_two tree g.front (x ∷ g.back) (known_front tree g.front g.back all) (omega (arith, fresh), known_back tree g.front g.back all))

pub cut_known : (tree c at : ℕ) (ids : List ℕ) (conns conns' : List Conn) (s : Seat c at ids conns) → conns' ≡ remove conns at → AllKnown tree conns → AllKnown tree conns'
cut_known tree c at ids conns conns' s e known =
    let p = s.placed in
    let all = subst (AllKnown tree) p.whole known in
    subst (AllKnown tree) (sym (e ∙ conns_cut c at ids conns s)) (known_of_two tree p.front p.back (known_front tree p.front (p.here ∷ p.back) all) (known_back tree p.front (p.here ∷ p.back) all).1)

pub known_at : (tree c at : ℕ) (ids : List ℕ) (conns : List Conn) (s : Seat c at ids conns) → AllKnown tree conns → asked_of s.placed.here ≤ tree
known_at tree c at ids conns s known =
    let p = s.placed in
    (known_back tree p.front (p.here ∷ p.back) (subst (AllKnown tree) p.whole known)).0

pub known_later : (tree later : ℕ) (conns : List Conn) → tree ≤ later → AllKnown tree conns → AllKnown later conns
known_later tree later [] h a = tt
known_later tree later (x ∷ conns) h a = (let b = a.0 in omega (arith, h, b), known_later tree later conns h a.1)

-- nobody wants anything
pub no_wants : (c : ℕ) (due full : Bool) → first_doable due full (wants_at c nobody) ≡ None
unfolding wants_at first_doable
no_wants c due full = refl

-- one that isn't to be closed stays
pub keeps_open : (serves : Serves) (c : ℕ) (ids : List ℕ) (conns : List Conn) (now : Start) → (view_in serves ids conns c).shut ≡ false → OneSteps c (StepsOwn nobody.course now (ev.Gone c) Skipped) (view_in serves ids conns) (view_in serves ids conns)
keeps_open serves c ids conns now h = record { own = record { same = refl; cause = h }; others = λ q ne. refl }

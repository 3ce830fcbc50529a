-- Finding a lane, changing it, and adding one.
use Rattle.std.proofs.Common.{◌≡◌, ◌≢◌, ℕ, ◌+◌, ◌<◌, Bool, true, false, cond, eqb, ◌||◌, List, [], ◌∷◌, ◌++◌, length, take, drop, set, get_or, sum_by, refl, sym, ap, ◌∙◌, arith, subst, length-append}
use Rattle.std.proofs.lemmas.List.{take_more, take-append-drop, at_drop_more}
use Rattle.std.proofs.lemmas.List.Sums.{sum_by-set}
use Rattle.std.proofs.lemmas.Grind.{common_steps}
use Rattle.std.proofs.lemmas.Bool.Decides.{nat_tests}
use Rattle.replay_run.specs.declared.lane.Lane.{Lane as LaneOf}
use Rattle.replay_run.specs.Scene.{Lane, shown_lane, empty_lane, lane_in, has_lane, LaneAt, SameLanes, OnLane}

has-append : (c : ℕ) (xs ys : List LaneOf) → has_lane c (xs ++ ys) ≡ (has_lane c xs || has_lane c ys)
has-append c [] ys = refl
has-append c (x ∷ xs) ys = ap (λ r. eqb x.conn c || r) (has-append c xs ys) ∙ assoc (eqb x.conn c) (has_lane c xs) (has_lane c ys)
  where
    assoc : (a b d : Bool) → (a || (b || d)) ≡ ((a || b) || d)
    assoc true b d = refl
    assoc false b d = refl

-- none up to here
pub none_more : (c : ℕ) (xs : List LaneOf) (i : ℕ) (x : LaneOf) → i < length xs → has_lane c (take i xs) ≡ false → x ≡ get_or xs i x → x.conn ≢ c → has_lane c (take (i + 1) xs) ≡ false
none_more c xs i x h none e ne =
    let f : eqb x.conn c ≡ false = grind (arith, nat_tests) in
    ap (has_lane c) (take_more xs i x h ∙ ap (λ y. take i xs ++ y ∷ []) (sym e)) ∙ has-append c (take i xs) (x ∷ []) ∙ ap (λ r. r || (eqb x.conn c || false)) none ∙ ap (λ t. t || false) f

-- the first is here
pub at_place : (c : ℕ) (xs : List LaneOf) (i : ℕ) (x : LaneOf) → i < length xs → has_lane c (take i xs) ≡ false → x ≡ get_or xs i x → x.conn ≡ c → LaneAt c xs i
at_place c xs i x h none e n = record {
  front = take i xs;
  here = x;
  back = drop (i + 1) xs;
  whole = sym (take-append-drop i xs) ∙ ap (λ r. take i xs ++ r) (at_drop_more (λ r. r) xs i x h) ∙ ap (λ y. take i xs ++ y ∷ drop (i + 1) xs) (sym e);
  size = grind (arith, common_steps);
  number = n;
  before = none;
}

-- what comes after a front without the connection
lane-append : (c : ℕ) (xs ys : List LaneOf) → has_lane c xs ≡ false → lane_in (xs ++ ys) c ≡ lane_in ys c
lane-append c [] ys h = refl
lane-append c (x ∷ xs) ys h = case (eqb x.conn c) (has_lane c xs) h (lane-append c xs ys)
  where
    case : (t r : Bool) → (t || r) ≡ false → (r ≡ false → lane_in (xs ++ ys) c ≡ lane_in ys c) → cond t (shown_lane x) (lane_in (xs ++ ys) c) ≡ lane_in ys c
    case true r h f = cc
    case false r h f = f h

-- another lane's change isn't seen
lane-other : (c : ℕ) (front : List LaneOf) (here new : LaneOf) (back : List LaneOf) → eqb here.conn c ≡ false → eqb new.conn c ≡ false → lane_in (front ++ new ∷ back) c ≡ lane_in (front ++ here ∷ back) c
lane-other c [] here new back h n = ap (λ t. cond t (shown_lane new) (lane_in back c)) n ∙ sym (ap (λ t. cond t (shown_lane here) (lane_in back c)) h)
lane-other c (x ∷ front) here new back h n = ap (λ r. cond (eqb x.conn c) (shown_lane x) r) (lane-other c front here new back h n)

lane_there : (c : ℕ) (front : List LaneOf) (here : LaneOf) (back : List LaneOf) → has_lane c front ≡ false → here.conn ≡ c → lane_in (front ++ here ∷ back) c ≡ shown_lane here
lane_there c front here back none n =
    let t : eqb here.conn c ≡ true = grind (arith, nat_tests) in
    lane-append c front (here ∷ back) none ∙ ap (λ b. cond b (shown_lane here) (lane_in back c)) t

set_there : (front : List LaneOf) (here new : LaneOf) (back : List LaneOf) → set (front ++ here ∷ back) (length front) new ≡ front ++ new ∷ back
set_there [] here new back = refl
set_there (x ∷ front) here new back = ap (λ r. x ∷ r) (set_there front here new back)

get_there : (front : List LaneOf) (here : LaneOf) (back : List LaneOf) (d : LaneOf) → get_or (front ++ here ∷ back) (length front) d ≡ here
get_there [] here back d = refl
get_there (x ∷ front) here back d = get_there front here back d

same_there : (c : ℕ) (lanes : List LaneOf) (i : ℕ) (here : LaneOf) (at : LaneAt c lanes i) → here ≡ get_or lanes i here → here ≡ at.here
same_there c lanes i here at is = is ∙ ap (λ xs. get_or xs i here) at.whole ∙ ap (λ k. get_or (at.front ++ at.here ∷ at.back) k here) (sym at.size) ∙ get_there at.front at.here at.back here

pub within : (c : ℕ) (lanes : List LaneOf) (i : ℕ) → LaneAt c lanes i → i < length lanes
within c lanes i at =
    let e = ap length at.whole ∙ length-append at.front (at.here ∷ at.back) in
    let f = at.size in
    omega arith

-- a lane that changes in its place
pub on_lane : (c : ℕ) (Does : Lane → Lane → Type 0) (lanes : List LaneOf) (i : ℕ) (here new : LaneOf) → LaneAt c lanes i → here ≡ get_or lanes i here → new.conn ≡ here.conn → Does (shown_lane here) (shown_lane new) → OnLane c Does (lane_in lanes) (lane_in (set lanes i new))
on_lane c Does lanes i here new at is n d = record {
  last = shown_lane new;
  does = subst (λ l. Does l (shown_lane new)) (sym old) d;
  lanes = record {
    own = ap (λ xs. lane_in xs c) placed ∙ lane_there c at.front new at.back at.before number;
    others = λ q ne. ap (λ xs. lane_in xs q) placed ∙ lane-other q at.front at.here new at.back (apart at.here.conn q at.number ne) (apart new.conn q number ne) ∙ sym (ap (λ xs. lane_in xs q) at.whole);
  };
}
  where
    same : here ≡ at.here
    same = same_there c lanes i here at is

    number : new.conn ≡ c
    number = n ∙ ap (λ (l : LaneOf). l.conn) same ∙ at.number

    placed : set lanes i new ≡ at.front ++ new ∷ at.back
    placed = ap (λ xs. set xs i new) at.whole ∙ ap (λ k. set (at.front ++ at.here ∷ at.back) k new) (sym at.size) ∙ set_there at.front at.here new at.back

    old : lane_in lanes c ≡ shown_lane here
    old = ap (λ xs. lane_in xs c) at.whole ∙ lane_there c at.front at.here at.back at.before at.number ∙ ap shown_lane (sym same)

    apart : (n q : ℕ) → n ≡ c → q ≢ c → eqb n q ≡ false
    apart n q e ne = grind (arith, nat_tests)

-- what the lane of a connection shows
pub lane_at : (c : ℕ) (lanes : List LaneOf) (i : ℕ) (here : LaneOf) → LaneAt c lanes i → here ≡ get_or lanes i here → lane_in lanes c ≡ shown_lane here
lane_at c lanes i here at is =
    ap (λ xs. lane_in xs c) at.whole ∙ lane_there c at.front at.here at.back at.before at.number ∙ ap shown_lane (sym (same_there c lanes i here at is))

pub conn_at : (c : ℕ) (lanes : List LaneOf) (i : ℕ) (here : LaneOf) → LaneAt c lanes i → here ≡ get_or lanes i here → here.conn ≡ c
conn_at c lanes i here at is = ap (λ (l : LaneOf). l.conn) (same_there c lanes i here at is) ∙ at.number

-- the sum changes as the lane does
pub sum_at : (f : LaneOf → ℕ) (c : ℕ) (lanes : List LaneOf) (i : ℕ) (here new : LaneOf) → LaneAt c lanes i → here ≡ get_or lanes i here → sum_by f (set lanes i new) + f here ≡ sum_by f lanes + f new
sum_at f c lanes i here new at is = ap (λ x. sum_by f (set lanes i new) + f x) is ∙ sum_by-set f lanes i new here (within c lanes i at)

-- an empty lane after the others changes nothing
pub same_added : (c : ℕ) (lanes new : List LaneOf) (l : LaneOf) → new ≡ lanes ++ l ∷ [] → shown_lane l ≡ empty_lane → (q : ℕ) → lane_in new q ≡ lane_in lanes q
same_added c lanes new l e empty q = ap (λ xs. lane_in xs q) e ∙ go lanes
  where
    last : (t : Bool) → cond t (shown_lane l) empty_lane ≡ empty_lane
    last true = empty
    last false = refl

    go : (xs : List LaneOf) → lane_in (xs ++ l ∷ []) q ≡ lane_in xs q
    go [] = last (eqb l.conn q)
    go (x ∷ xs) = ap (λ r. cond (eqb x.conn q) (shown_lane x) r) (go xs)

pub at_added : (c : ℕ) (lanes new : List LaneOf) (l : LaneOf) (i : ℕ) → new ≡ lanes ++ l ∷ [] → l.conn ≡ c → has_lane c lanes ≡ false → i ≡ length lanes → LaneAt c new i
at_added c lanes new l i e n none size = record { front = lanes; here = l; back = []; whole = e; size = sym size; number = n; before = none }

-- from before a lane was added
pub on_lane_from : (c : ℕ) (Does : Lane → Lane → Type 0) (old mid new : ℕ → Lane) → SameLanes old mid → OnLane c Does mid new → OnLane c Does old new
on_lane_from c Does old mid new same on = record {
  last = on.last;
  does = subst (λ l. Does l on.last) (same c) on.does;
  lanes = record { own = on.lanes.own; others = λ d ne. on.lanes.others d ne ∙ same d };
}

-- a lane that was sought, maybe added, and then changes in its place
pub placed : (c : ℕ) (Does : Lane → Lane → Type 0) (old : ℕ → Lane) (mid : List LaneOf) (i : ℕ) (here new : LaneOf) → SameLanes old (lane_in mid) → LaneAt c mid i → here ≡ get_or mid i here → new.conn ≡ here.conn → Does (shown_lane here) (shown_lane new) → OnLane c Does old (lane_in (set mid i new))
placed c Does old mid i here new same at is n d = on_lane_from c Does old (lane_in mid) (lane_in (set mid i new)) same (on_lane c Does mid i here new at is n d)

-- the work that is left falls as that of the lane does
pub falls : (f : LaneOf → ℕ) (left left' : ℕ) (c : ℕ) (old mid : List LaneOf) (i : ℕ) (here new : LaneOf) → sum_by f mid ≡ sum_by f old → LaneAt c mid i → here ≡ get_or mid i here → left' + f new < left + f here → left' + sum_by f (set mid i new) < left + sum_by f old
falls f left left' c old mid i here new e at is h =
    let s = sum_at f c mid i here new at is in
    omega arith

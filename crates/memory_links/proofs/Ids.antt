-- Links by their ids, as one of them changes or another comes.
use Rattle.std.proofs.Common.{◌≡◌, ◌≢◌, ℕ, zero, suc, ◌+◌, ◌-◌, ◌<◌, ◌≤◌, Bool, true, false, List, [], ◌∷◌, ◌++◌, length, take, drop, get_or, set, eqb, cond, length-set, get_or-set_same, refl, sym, ap, subst, ◌∙◌, arith, inl, inr}
use Rattle.std.specs.Prelude.{◌⊎◌, nat_lt}
use Rattle.std.proofs.Math.Seq.{take-add}
use Rattle.std.proofs.lemmas.Bool.Decides.{nat_tests}
use Rattle.http_types.specs.declared.words.Addr.{Addr}
use Rattle.ngx_outside.specs.Causes.{Rose}
use Rattle.ngx_outside.specs.Linked.{LinkView, Updated, Marked, Same, Unchanged, HasRead, HasWritten, PutsNothing, CrowdCloses, begun}
use Rattle.ngx_outside.specs.declared.links.Notice.TheVariants as notice
use Rattle.ngx_outside.specs.declared.links.Input.{Input}
use Rattle.ngx_outside.specs.declared.links.Input.TheVariants as input
use Rattle.ngx_outside.specs.declared.links.Output.{Output}
use Rattle.ngx_outside.specs.declared.links.Output.TheVariants as output
use Rattle.memory_links.specs.declared.peer.Peer.{Peer}
use Rattle.memory_links.specs.Peers.{view_of, after_read, after_write, at_id, unopened, links_in, used_in, held_in, faults_in, crowd_in, tally, Changes, IsAbsent, IsAt, Reports}

-- what was read is a longer front of the input
pub taken_more : (input slice rest : List ℕ) (start count : ℕ) (buf : List ℕ) → slice ≡ input → rest ≡ drop start slice → take count buf ≡ take count rest →
    take (start + count) input ≡ take start input ++ take count buf
taken_more input slice rest start count buf s r e =
    take-add start count input ∙ ap (λ x. take start input ++ take count (drop start x)) (sym s) ∙ ap (λ x. take start input ++ take count x) (sym r)
    ∙ ap (λ x. take start input ++ x) (sym e)

test_yes : (a b : ℕ) → a ≡ b → eqb a b ≡ true
test_yes a b e = grind (arith, nat_tests)

test_no : (a b : ℕ) → a ≢ b → eqb a b ≡ false
test_no a b e = grind (arith, nat_tests)

-- the link of its id
pub at_own : {A : Type 0} (f : Peer → A) (none : A) (peers : List Peer) (i : ℕ) (d : Peer) (id : ℕ) → i < length peers → id ≡ i + 1 →
    at_id f none peers id ≡ f (get_or peers i d)
unfolding at_id
at_own f none [] i d id h e = absurd (omega arith)
at_own {A} f none (p ∷ peers) zero d id h e = ap (λ b. cond b (f p) (at_id f none peers (id - 1))) (test_yes id 1 (omega arith))
at_own {A} f none (p ∷ peers) (suc i) d id h e =
    ap (λ b. cond b (f p) (at_id f none peers (id - 1))) (test_no id 1 (λ n. omega arith))
    ∙ at_own f none peers i d (id - 1) (omega arith) (omega arith)

-- no link has an id past the last
pub at_past : {A : Type 0} (f : Peer → A) (none : A) (peers : List Peer) (id : ℕ) → length peers < id → at_id f none peers id ≡ none
unfolding at_id
at_past f none [] id h = refl
at_past {A} f none (p ∷ peers) id h =
    ap (λ b. cond b (f p) (at_id f none peers (id - 1))) (test_no id 1 (λ n. omega arith)) ∙ at_past f none peers (id - 1) (omega arith)

-- another link's change
pub at_other : {A : Type 0} (f : Peer → A) (none : A) (peers : List Peer) (i : ℕ) (p : Peer) (id : ℕ) → id ≢ i + 1 →
    at_id f none (set peers i p) id ≡ at_id f none peers id
unfolding at_id
at_other f none [] i p id h = refl
at_other {A} f none (q ∷ peers) zero p id h =
    let no : eqb id 1 ≡ false = test_no id 1 (λ n. h (omega arith)) in
    ap (λ b. cond b (f p) (at_id f none peers (id - 1))) no ∙ sym (ap (λ b. cond b (f q) (at_id f none peers (id - 1))) no)
at_other {A} f none (q ∷ peers) (suc i) p id h =
    elim (eqb id 1) as (λ b. eqb id 1 ≡ b → cond b (f q) (at_id f none (set peers i p) (id - 1)) ≡ cond b (f q) (at_id f none peers (id - 1))) [
      | true ↦ (λ e. refl)
      | false ↦ (λ e. at_other f none peers i p (id - 1) (λ n. h (apart e n)))
    ] refl
  where
    apart : eqb id 1 ≡ false → id - 1 ≡ i + 1 → id ≡ suc i + 1
    apart e n = omega arith

pub set_own : {A : Type 0} (f : Peer → A) (none : A) (peers : List Peer) (i : ℕ) (p : Peer) (id : ℕ) → i < length peers → id ≡ i + 1 →
    at_id f none (set peers i p) id ≡ f p
set_own f none peers i p id h e =
    at_own f none (set peers i p) i p id (omega (arith, length-set peers i p)) e ∙ ap f (get_or-set_same peers i p p h)

same_or_apart : (a b : ℕ) → (a ≡ b) ⊎ (a ≢ b)
same_or_apart a b =
    elim (eqb a b) as (λ t. eqb a b ≡ t → (a ≡ b) ⊎ (a ≢ b)) [
      | true ↦ (λ e. let is : a ≡ b = grind (arith, nat_tests) in inl is)
      | false ↦ (λ e. inr (λ is. let yes : eqb a b ≡ true = test_yes a b is in cc))
    ] refl

-- one link changes, and no other
pub updated_set : (peers : List Peer) (i : ℕ) (p d : Peer) (id : ℕ) (F : LinkView → LinkView) → i < length peers → id ≡ i + 1 →
    view_of p ≡ F (view_of (get_or peers i d)) → Updated id F (links_in peers) (links_in (set peers i p))
updated_set peers i p d id F h e is = record {
  own = set_own view_of unopened peers i p id h e ∙ is ∙ ap F (sym (at_own view_of unopened peers i d id h e));
  others = λ c ne. at_other view_of unopened peers i p c (λ n. ne (n ∙ sym e));
}

-- what a change of a link keeps
pub same_set : {A : Type 0} (f : Peer → A) (none : A) (peers : List Peer) (i : ℕ) (p d : Peer) → i < length peers → f p ≡ f (get_or peers i d) →
    (id : ℕ) → at_id f none (set peers i p) id ≡ at_id f none peers id
same_set {A} f none peers i p d h is id = pick (same_or_apart id (i + 1))
  where
    pick : (id ≡ i + 1) ⊎ (id ≢ i + 1) → at_id f none (set peers i p) id ≡ at_id f none peers id
    pick (inl e) = set_own f none peers i p id h e ∙ is ∙ sym (at_own f none peers i d id h e)
    pick (inr n) = at_other f none peers i p id n

-- a count that doesn't fall at one link
pub later_set : (peers : List Peer) (i : ℕ) (p d : Peer) → i < length peers → (get_or peers i d).faults ≤ p.faults → (id : ℕ) →
    faults_in peers id ≤ faults_in (set peers i p) id
later_set peers i p d h le id = pick (same_or_apart id (i + 1))
  where
    f : Peer → ℕ
    f q = q.faults

    pick : (id ≡ i + 1) ⊎ (id ≢ i + 1) → faults_in peers id ≤ faults_in (set peers i p) id
    pick (inl e) =
        let new : faults_in (set peers i p) id ≡ p.faults = set_own (λ q. q.faults) 0 peers i p id h e in
        let old : faults_in peers id ≡ (get_or peers i d).faults = at_own (λ q. q.faults) 0 peers i d id h e in
        omega arith
    pick (inr n) =
        let same : faults_in (set peers i p) id ≡ faults_in peers id = at_other (λ q. q.faults) 0 peers i p id n in
        omega arith

-- how many are open where one link changes
pub crowd_set : (peers : List Peer) (i : ℕ) (p d : Peer) → i < length peers → crowd_in (set peers i p) + tally (get_or peers i d).held ≡ crowd_in peers + tally p.held
unfolding crowd_in
crowd_set [] i p d h = absurd (omega arith)
crowd_set (q ∷ peers) zero p d h = let a = tally p.held in let b = crowd_in peers in let c = tally q.held in omega arith
crowd_set (q ∷ peers) (suc i) p d h =
    let rest : crowd_in (set peers i p) + tally (get_or peers i d).held ≡ crowd_in peers + tally p.held = crowd_set peers i p d (omega arith) in
    omega (arith, rest)

pub crowd_none : (peers : List Peer) → peers ≡ [] → crowd_in peers ≡ 0
unfolding crowd_in
crowd_none peers e = ap crowd_in e

crowd_same : (peers : List Peer) (i : ℕ) (p d : Peer) → i < length peers → p.held ≡ (get_or peers i d).held → crowd_in (set peers i p) ≡ crowd_in peers
crowd_same peers i p d h e =
    let a = crowd_set peers i p d h in
    let b : tally p.held ≡ tally (get_or peers i d).held = ap tally e in
    omega (arith, a, b)

pub crowd_closes : (peers : List Peer) (i : ℕ) (p d : Peer) → i < length peers → p.held ≡ false → CrowdCloses (held_in peers (i + 1)) (crowd_in peers) (crowd_in (set peers i p))
crowd_closes peers i p d h e =
    subst (λ (b : Bool). CrowdCloses b (crowd_in peers) (crowd_in (set peers i p))) (sym (at_own (λ q. q.held) false peers i d (i + 1) h refl))
    (by_held (get_or peers i d).held (crowd_set peers i p d h ∙ ap (λ b. crowd_in peers + tally b) e))
  where
    by_held : (b : Bool) → crowd_in (set peers i p) + tally b ≡ crowd_in peers + 0 → CrowdCloses b (crowd_in peers) (crowd_in (set peers i p))
    by_held true c = omega (arith, c)
    by_held false c = omega (arith, c)

crowd_push : (peers : List Peer) (p : Peer) → crowd_in (peers ++ p ∷ []) ≡ crowd_in peers + tally p.held
unfolding crowd_in
crowd_push [] p = omega arith
crowd_push (q ∷ peers) p = let rest = crowd_push peers p in omega (arith, rest)

-- one link changes, is held as before, and its count doesn't fall
pub changes_set : (peers : List Peer) (i : ℕ) (p d : Peer) (F : LinkView → LinkView) → i < length peers →
    view_of p ≡ F (view_of (get_or peers i d)) → p.held ≡ (get_or peers i d).held → (get_or peers i d).faults ≤ p.faults → Changes (i + 1) F peers (set peers i p)
changes_set peers i p d F h v held le = record {
  told = updated_set peers i p d (i + 1) F h refl v;
  used = same_set (λ q. true) false peers i p d h refl;
  held = same_set (λ q. q.held) false peers i p d h held;
  crowd = crowd_same peers i p d h held;
  later = later_set peers i p d h le;
}

-- a count that rose at one link
pub rose_set : (peers : List Peer) (i : ℕ) (p d : Peer) (id : ℕ) → i < length peers → id ≡ i + 1 → Rose (get_or peers i d).faults p.faults →
    Rose (faults_in peers id) (faults_in (set peers i p) id)
rose_set peers i p d id h e r =
    subst (λ (x : ℕ). Rose x (faults_in (set peers i p) id)) (sym (at_own (λ q. q.faults) 0 peers i d id h e))
    (subst (λ (x : ℕ). Rose (get_or peers i d).faults x) (sym (set_own (λ q. q.faults) 0 peers i p id h e)) r)

-- a link that is closed
pub marked_set : (peers : List Peer) (i : ℕ) (p : Peer) (id : ℕ) → i < length peers → id ≡ i + 1 → p.held ≡ false →
    Marked id false (held_in peers) (held_in (set peers i p))
marked_set peers i p id h e is = record {
  own = set_own (λ q. q.held) false peers i p id h e ∙ is;
  others = λ c ne. at_other (λ q. q.held) false peers i p c (λ n. ne (n ∙ sym e));
}

-- a link more
pub push_own : {A : Type 0} (f : Peer → A) (none : A) (peers : List Peer) (p : Peer) (id : ℕ) → id ≡ length peers + 1 → at_id f none (peers ++ p ∷ []) id ≡ f p
unfolding at_id
push_own {A} f none [] p id e = ap (λ b. cond b (f p) none) (test_yes id 1 (omega arith))
push_own {A} f none (q ∷ peers) p id e =
    ap (λ b. cond b (f q) (at_id f none (peers ++ p ∷ []) (id - 1))) (test_no id 1 (λ n. omega arith)) ∙ push_own f none peers p (id - 1) (omega arith)

pub push_other : {A : Type 0} (f : Peer → A) (none : A) (peers : List Peer) (p : Peer) (id : ℕ) → id ≢ length peers + 1 →
    at_id f none (peers ++ p ∷ []) id ≡ at_id f none peers id
unfolding at_id
push_other {A} f none [] p id h = ap (λ b. cond b (f p) none) (test_no id 1 (λ n. h (omega arith)))
push_other {A} f none (q ∷ peers) p id h =
    elim (eqb id 1) as (λ b. eqb id 1 ≡ b → cond b (f q) (at_id f none (peers ++ p ∷ []) (id - 1)) ≡ cond b (f q) (at_id f none peers (id - 1))) [
      | true ↦ (λ e. refl)
      | false ↦ (λ e. push_other f none peers p (id - 1) (λ n. h (apart e n)))
    ] refl
  where
    apart : eqb id 1 ≡ false → id - 1 ≡ length peers + 1 → id ≡ length (q ∷ peers) + 1
    apart e n = omega arith

-- an id that is reported
pub begun_push : (peers : List Peer) (p : Peer) (id : ℕ) (local peer : Addr) (among : ℕ) → id ≡ length peers + 1 → view_of p ≡ begun local peer among unopened →
    Updated id (begun local peer among) (links_in peers) (links_in (peers ++ p ∷ []))
begun_push peers p id local peer among e is = record {
  own = push_own view_of unopened peers p id e ∙ is;
  others = λ c ne. push_other view_of unopened peers p c (λ n. ne (n ∙ sym e));
}

pub marked_push : (f : Peer → Bool) (peers : List Peer) (p : Peer) (id : ℕ) → id ≡ length peers + 1 → f p ≡ true →
    (at_id f false peers id ≡ false) × Marked id true (at_id f false peers) (at_id f false (peers ++ p ∷ []))
marked_push f peers p id e is = (
  at_past f false peers id (omega arith),
  record {
    own = push_own f false peers p id e ∙ is;
    others = λ c ne. push_other f false peers p c (λ n. ne (n ∙ sym e));
  },
)

pub later_push : (peers : List Peer) (p : Peer) → (id : ℕ) → faults_in peers id ≤ faults_in (peers ++ p ∷ []) id
later_push peers p id = pick (same_or_apart id (length peers + 1))
  where
    pick : (id ≡ length peers + 1) ⊎ (id ≢ length peers + 1) → faults_in peers id ≤ faults_in (peers ++ p ∷ []) id
    pick (inl e) = let none : faults_in peers id ≡ 0 = at_past (λ q. q.faults) 0 peers id (omega arith) in omega arith
    pick (inr n) = let same : faults_in (peers ++ p ∷ []) id ≡ faults_in peers id = push_other (λ q. q.faults) 0 peers p id n in omega arith

-- what a read and a write make of the links
pub has_read : (id : ℕ) (r : Input) (buf : List ℕ) (old new : ℕ → LinkView) → Updated id (after_read r buf) old new → HasRead id r buf old new
has_read id (input.Got count) buf old new u = u
has_read id input.NotYet buf old new u = u
has_read id input.End buf old new u = u
has_read id input.Failed buf old new u = u

pub has_written : (id : ℕ) (r : Output) (bytes : List ℕ) (old new : ℕ → LinkView) → Updated id (after_write r bytes) old new → HasWritten id r bytes old new
has_written id (output.Put count) bytes old new u = u
has_written id output.NotYet bytes old new u = u
has_written id output.Failed bytes old new u = λ c. pick c (same_or_apart c id)
  where
    pick : (c : ℕ) → (c ≡ id) ⊎ (c ≢ id) → new c ≡ old c
    pick c (inl e) = ap new e ∙ u.own ∙ ap old (sym e)
    pick c (inr n) = u.others c n

pub rose_at : (peers : List Peer) (i : ℕ) (p d : Peer) → i < length peers → Rose (get_or peers i d).faults p.faults →
    Rose (faults_in peers (i + 1)) (faults_in (set peers i p) (i + 1))
rose_at peers i p d h r = rose_set peers i p d (i + 1) h refl r

pub puts_at : (peers : List Peer) (i : ℕ) (p d : Peer) (r : Output) (bytes : List ℕ) → i < length peers →
    PutsNothing r bytes (get_or peers i d).faults p.faults → PutsNothing r bytes (faults_in peers (i + 1)) (faults_in (set peers i p) (i + 1))
puts_at peers i p d (output.Put count) bytes h r = λ e some. rose_at peers i p d h (r e some)
puts_at peers i p d output.NotYet bytes h r = tt
puts_at peers i p d output.Failed bytes h r = tt

-- the link of a place is closed
pub record Closes (i : ℕ) (old new : List Peer) : Type 0 where
  pub told : Unchanged (links_in old) (links_in new)
  pub used : Same (used_in old) (used_in new)
  pub held : Marked (i + 1) false (held_in old) (held_in new)
  pub later : (c : ℕ) → faults_in old c ≤ faults_in new c

pub closes_at : (peers : List Peer) (i : ℕ) (p d : Peer) → i < length peers → view_of p ≡ view_of (get_or peers i d) → p.held ≡ false →
    p.faults ≡ (get_or peers i d).faults → Closes i peers (set peers i p)
closes_at peers i p d h v held f = record {
  told = same_set view_of unopened peers i p d h v;
  used = same_set (λ q. true) false peers i p d h refl;
  held = marked_set peers i p (i + 1) h refl held;
  later = later_set peers i p d h (omega (arith, f));
}

at_zero : {A : Type 0} (f : Peer → A) (none : A) (peers : List Peer) → at_id f none peers 0 ≡ none
unfolding at_id
at_zero f none [] = refl
at_zero f none (p ∷ peers) = at_zero f none peers

pub absent_zero : (peers : List Peer) (id : ℕ) → id ≡ 0 → IsAbsent peers id
absent_zero peers id e = record {
  view = ap (links_in peers) e ∙ at_zero view_of unopened peers;
  used = ap (used_in peers) e ∙ at_zero (λ q. true) false peers;
  held = ap (held_in peers) e ∙ at_zero (λ q. q.held) false peers;
  faults = ap (faults_in peers) e ∙ at_zero (λ q. q.faults) 0 peers;
}

pub absent_past : (peers : List Peer) (id : ℕ) → length peers < id → IsAbsent peers id
absent_past peers id h = record {
  view = at_past view_of unopened peers id h;
  used = at_past (λ q. true) false peers id h;
  held = at_past (λ q. q.held) false peers id h;
  faults = at_past (λ q. q.faults) 0 peers id h;
}

-- an id is 0, or past the last, where it isn't within
pub absent_else : (peers : List Peer) (id : ℕ) → ¬ ((0 < id) × (id ≤ length peers)) → IsAbsent peers id
absent_else peers zero h = absent_zero peers zero refl
absent_else peers (suc id) h =
    elim (nat_lt (length peers) (suc id)) as (λ t. nat_lt (length peers) (suc id) ≡ t → IsAbsent peers (suc id)) [
      | true ↦ (λ e. let past : length peers < suc id = grind (arith, nat_tests) in absent_past peers (suc id) past)
      | false ↦ (λ e. absurd (let within : suc id ≤ length peers = grind (arith, nat_tests) in h (omega arith, within)))
    ] refl

pub is_at_own : (peers : List Peer) (id at : ℕ) (d : Peer) → id ≡ at + 1 → at < length peers → IsAt peers id (get_or peers at d)
is_at_own peers id at d e h = record {
  view = at_own view_of unopened peers at d id h e;
  used = at_own (λ q. true) false peers at d id h e;
  held = at_own (λ q. q.held) false peers at d id h e;
  faults = at_own (λ q. q.faults) 0 peers at d id h e;
}

absent_empty : (id : ℕ) → IsAbsent [] id
unfolding at_id
absent_empty id = record { view = refl; used = refl; held = refl; faults = refl }

pub absent_none : (peers : List Peer) (id : ℕ) → peers ≡ [] → IsAbsent peers id
absent_none peers id e = subst (λ (xs : List Peer). IsAbsent xs id) (sym e) (absent_empty id)

-- a peer that connects
pub reports_push : (peers new : List Peer) (p : Peer) (id faults : ℕ) → id ≡ length peers + 1 → new ≡ peers ++ p ∷ [] →
    view_of p ≡ begun p.local p.peer p.among unopened → p.among ≡ crowd_in peers → p.held ≡ true → Reports (notice.Opened id p.local p.peer) peers new faults faults
reports_push peers new p id faults e is v among held =
    subst (λ (xs : List Peer). Reports (notice.Opened id p.local p.peer) peers xs faults faults) (sym is) record {
      told = subst (λ (n : ℕ). Updated id (begun p.local p.peer n) (links_in peers) (links_in (peers ++ p ∷ []))) among (begun_push peers p id p.local p.peer p.among e v);
      crowd = crowd_push peers p ∙ ap (λ b. crowd_in peers + tally b) held;
      ids = (used.0, used.1, opens.0, opens.1);
      link_faults = later_push peers p;
      later = omega arith;
      cause = λ h. cc;
    }
  where
    used : (used_in peers id ≡ false) × Marked id true (used_in peers) (used_in (peers ++ p ∷ []))
    used = marked_push (λ q. true) peers p id e refl

    opens : (held_in peers id ≡ false) × Marked id true (held_in peers) (held_in (peers ++ p ∷ []))
    opens = marked_push (λ q. q.held) peers p id e held

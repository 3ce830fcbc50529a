-- Bytes that leave a family.
use Rattle.std.proofs.Common.{◌≡◌, ℕ, zero, suc, ◌+◌, ◌≤◌, ◌&&◌, ◌==◌, Bool, true, false, cond, List, [], ◌∷◌, ◌++◌, length, take, drop, refl, sym, ap, ◌∙◌, append_assoc, take-append-drop, arith}
use Rattle.std.proofs.lemmas.Bool.Decides.{nat_tests}
use Rattle.acts.specs.Vars.{Vars}
use Rattle.file_tree.specs.Tree.{Tree, Trees}
use Rattle.ngx_pattern.specs.Pattern.{Pattern as SetPattern}
use Rattle.site_model.specs.declared.site.Site.{Site}
use Rattle.request_meaning.specs.Serving.{World}
use Rattle.family_order.specs.family_meaning.Line.{Left, before}
use Rattle.family_order.specs.Items.{Family as Meant, leaving}
use Rattle.subrequests.specs.family_rest.Laws.{RowTellsStill}
use Rattle.subrequests.specs.family_rest.Reached.{forgetting}
use Rattle.subrequests.specs.family_rest.Still.{still, subs_still}
use Rattle.outgoing.specs.Leaving.{Leaving, framed_as, to_come}
use Rattle.postpone_filter.specs.Row.{FirstGives, Piece, front_of, is_open}
use Rattle.postpone_filter.specs.Runs.{filled, giving}
use Rattle.page_response.specs.Pages.{AreClosed, IsSame, left_in, nodes_asked}
use Rattle.page_response.specs.declared.pages.Pages.{Pages}

-- ---- texts

pub same_after : (xs a b : List ℕ) → xs ++ a ≡ xs ++ b → a ≡ b
same_after [] a b e = e
same_after (x ∷ xs) a b e = same_after xs a b (ap (drop 1) e)

pub taken_length : (n : ℕ) (xs : List ℕ) → n ≤ length xs → length (take n xs) ≡ n
taken_length zero xs h = refl
taken_length (suc n) [] h = absurd (omega (arith, h))
taken_length (suc n) (x ∷ xs) h = ap suc (taken_length n xs (omega (arith, h)))

pub take_whole : (xs : List ℕ) → take (length xs) xs ≡ xs
take_whole [] = refl
take_whole (x ∷ xs) = ap (λ ys. x ∷ ys) (take_whole xs)

pub both_lengths : (xs ys : List ℕ) → length (xs ++ ys) ≡ length xs + length ys
both_lengths [] ys = omega arith
both_lengths (x ∷ xs) ys = ap suc (both_lengths xs ys) ∙ (let e : suc (length xs + length ys) ≡ suc (length xs) + length ys = omega arith in e)

-- ---- the same is still to come

pub no_change : (w : World) (patterns : List SetPattern) (site : Site) (trees : Trees) (p : Pages) → IsSame w patterns site trees p p
no_change w patterns site trees p = record { bytes = refl; whole = refl; nodes = refl }

pub same_then : (w : World) (patterns : List SetPattern) (site : Site) (trees : Trees) (p q r : Pages) → IsSame w patterns site trees p q → IsSame w patterns site trees q r → IsSame w patterns site trees p r
same_then w patterns site trees p q r a b = record { bytes = a.bytes ∙ b.bytes; whole = a.whole ∙ b.whole; nodes = a.nodes ∙ b.nodes }

-- what is still to come of a family is the same
pub same_left : (w : World) (patterns : List SetPattern) (site : Site) (trees : Trees) (p q : Pages) → (left_in w patterns site trees p).body ≡ (left_in w patterns site trees q).body →
    q.outgoing ≡ p.outgoing → q.sent ≡ p.sent → nodes_asked w patterns site trees p ≡ nodes_asked w patterns site trees q → IsSame w patterns site trees p q
same_left w patterns site trees p q e out sent nodes = record {
  nodes = nodes;
  bytes = ap (to_come p.outgoing) e ∙ ap (λ (o : Leaving). to_come o (left_in w patterns site trees q).body) (sym out);
  whole = ap (λ b. p.sent + length b) e ∙ ap (λ n. n + length (left_in w patterns site trees q).body) (sym sent);
}

-- ---- bytes are moved from the front

module _ (tells : RowTellsStill) (w : World) (tree : Tree) (f : Meant) (vars : Vars) (n : ℕ) (within : n ≤ length (front_of f.row.pieces)) where
  abbrev front : List ℕ
  front = front_of f.row.pieces

  abbrev gone : Meant
  gone = forgetting (leaving n f)

  leaves : still w tree f vars ≡ before (take n front) (still w tree gone vars)
  leaves = tells.leaves w tree n f vars ∙ ap (before (take n front)) (tells.forgets w tree (leaving n f) vars)

  pub body_leaves : (still w tree f vars).body ≡ take n front ++ (still w tree gone vars).body
  body_leaves = ap (λ (l : Left). l.body) leaves

  abbrev later : List ℕ
  later = (tells.front w tree f vars).0

  begins : (still w tree f vars).body ≡ front ++ later
  begins = (tells.front w tree f vars).1

  after : (still w tree gone vars).body ≡ drop n front ++ later
  after =
      same_after (take n front) (still w tree gone vars).body (drop n front ++ later)
      (sym body_leaves ∙ begins ∙ ap (λ xs. xs ++ later) (sym (take-append-drop n front)) ∙ append_assoc (take n front) (drop n front) later)

  pub moved : (old new : Leaving) → ((more : List ℕ) → to_come new (drop n front ++ more) ≡ to_come old (front ++ more)) → to_come old (still w tree f vars).body ≡ to_come new (still w tree gone vars).body
  moved old new exact = ap (to_come old) begins ∙ sym (exact later) ∙ ap (to_come new) (sym after)

  pub counted : (sent : ℕ) → sent + length (still w tree f vars).body ≡ (sent + n) + length (still w tree gone vars).body
  counted sent =
      let a = ap length body_leaves in
      let b = both_lengths (take n front) (still w tree gone vars).body in
      let c = taken_length n front within in
      omega (arith, a, b, c)

  pub asks : subs_still w tree f vars ≡ subs_still w tree gone vars
  asks = tells.counts_leaving w tree n f vars ∙ tells.counts_forgotten w tree (leaving n f) vars

-- ---- an order in which no node goes on

pub none_left : (ps : List Piece) → length (front_of ps) ≡ 0 → FirstGives ps → AreClosed ps → filled (λ _. []) ps ≡ []
unfolding front_of FirstGives is_open filled
none_left [] e gives closed = refl
none_left (p ∷ ps) e gives closed = absurd (no (sym (closed p.node) ∙ ap (λ b. cond b true (is_open p.node ps)) here))
  where
    self : (n : ℕ) → (n == n) ≡ true
    self n = grind (arith, nat_tests)

    here : (p.grows && (p.node == p.node)) ≡ true
    here = ap (λ b. b && (p.node == p.node)) (gives e) ∙ self p.node

    no : false ≡ true → ⊥
    no h = cc

pub none_given : (id : ℕ) (ps : List Piece) → filled (giving id (λ _. []) (λ _. [])) ps ≡ filled (λ _. []) ps
unfolding filled
none_given id [] = refl
none_given id (p ∷ ps) =
    ap (λ r. p.bytes ++ (cond p.grows (giving id (λ _. []) (λ _. []) p.node) [] ++ r)) (none_given id ps)
    ∙ ap (λ g. p.bytes ++ (cond p.grows g [] ++ filled (λ _. []) ps)) (same (p.node == id) [])
  where
    same : (b : Bool) (xs : List ℕ) → cond b xs xs ≡ xs
    same true xs = refl
    same false xs = refl

-- no node goes on after the one that did alone
pub closed_then : (ps : List Piece) → ((n : ℕ) → is_open n ps ≡ true → n ≡ 0) → (j : ℕ) → cond (j == 0) false (is_open j ps) ≡ false
closed_then ps alone j = by (is_open j ps) refl (j == 0) refl
  where
    self : (n : ℕ) → n ≡ 0 → (n == 0) ≡ true
    self n e = grind (arith, nat_tests)

    by : (o : Bool) → is_open j ps ≡ o → (b : Bool) → (j == 0) ≡ b → cond (j == 0) false o ≡ false
    by true e b f = ap (λ x. cond x false true) (self j (alone j e))
    by false e true f = ap (λ x. cond x false false) f
    by false e false f = ap (λ x. cond x false false) f

-- what is written is what was pending first
pub used_first : (old new : Leaving) (n : ℕ) → new.pending ≡ drop n old.pending → new.block ≡ old.block → (body : List ℕ) → to_come old body ≡ take n old.pending ++ to_come new body
used_first old new n pending block body =
    ap (λ xs. xs ++ framed_as old.block body) (sym (take-append-drop n old.pending)) ∙ append_assoc (take n old.pending) (drop n old.pending) (framed_as old.block body)
    ∙ ap (λ xs. take n old.pending ++ (xs ++ framed_as old.block body)) (sym pending) ∙ ap (λ b. take n old.pending ++ (new.pending ++ framed_as b body)) (sym block)

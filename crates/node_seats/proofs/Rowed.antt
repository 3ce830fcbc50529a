-- The row and the nodes after some have joined it one after another.
use Rattle.std.proofs.Common.{◌≡◌, ℕ, zero, suc, ◌==◌, Bool, true, false, cond, List, [], ◌∷◌, ◌++◌, None, Some, set, slice_get, map, refl, sym, ap, ◌∙◌, subst, append_assoc, append-nil, if◌then◌else◌}
use Rattle.std.proofs.lemmas.Bool.{eqb-true, ne_eqb}
use Rattle.postpone_filter.specs.Row.{Row as Order, ended, reopened}
use Rattle.postpone_filter.specs.Buffers.{IsLawful}
use Rattle.family_order.specs.Items.{Stance, Item, stance_items, with_stance}
use Rattle.family_order.specs.Items.Item.{Byte}
use Rattle.family_order.specs.Items.Stance.{Hidden}
use Rattle.family_order.proofs.Rows.{row_items-alike}
use Rattle.node_line.specs.node_turn.declared.node.Node.{Node}
use Rattle.node_line.specs.node_turn.declared.node.Place.{Place}
use Rattle.node_line.specs.node_turn.declared.node.Place.TheVariants.{Row, Stub, Gathers, Captured}
use Rattle.node_line.proofs.Holes.{Hole, items_ahead, items_behind, reseated}
use Rattle.node_seats.specs.Seats.{is_captured}
use Rattle.node_seats.specs.Joining.{Joins, JoinsOne, joined_place}
use Rattle.node_seats.specs.Joining.Joins.{None_more, One_more}
use Rattle.node_seats.proofs.Above.{eq_self, false_true, some_same}
use Rattle.node_seats.proofs.Joined.{stances_items}
use Rattle.node_seats.proofs.Listed.{among}

-- ---- the nodes

pub set_at : (nodes : List Node) (i : ℕ) (x y : Node) → slice_get nodes i ≡ Some y → slice_get (set nodes i x) i ≡ Some x
set_at [] i x y e = cc
set_at (n ∷ nodes) zero x y e = refl
set_at (n ∷ nodes) (suc i) x y e = set_at nodes i x y e

pub set_other : (nodes : List Node) (i j : ℕ) (x : Node) → (i ≡ j → ⊥) → slice_get (set nodes i x) j ≡ slice_get nodes j
set_other [] i j x h = refl
set_other (n ∷ nodes) zero zero x h = absurd (h refl)
set_other (n ∷ nodes) zero (suc j) x h = refl
set_other (n ∷ nodes) (suc i) zero x h = refl
set_other (n ∷ nodes) (suc i) (suc j) x h = set_other nodes i j x (λ e. h (ap suc e))

-- its bytes come to no other then
pub joined_free : (p : Place) → is_captured p ≡ true → is_captured (joined_place p) ≡ false
joined_free Row e = cc
joined_free (Stub stub text) e = cc
joined_free (Gathers stub text) e = cc
joined_free (Captured None text) e = refl
joined_free (Captured (Some stub) text) e = refl

among_cons : (c j : ℕ) (js : List ℕ) → among c (j ∷ js) ≡ (if j == c then true else among c js)
unfolding among
among_cons c j js = refl

among_none : (c : ℕ) → among c [] ≡ false
unfolding among
among_none c = refl

module _ (at : ℕ) where
  one_at : (j : ℕ) (row row' : Order) (nodes nodes' : List Node) (o : JoinsOne at j row nodes row' nodes') → slice_get nodes' j ≡ Some (record o.node { place = joined_place o.node.place })
  one_at j row row' nodes nodes' o = ap (λ ns. slice_get ns j) o.nodes_are ∙ set_at nodes j (record o.node { place = joined_place o.node.place }) o.node o.there

  one_other : (j : ℕ) (row row' : Order) (nodes nodes' : List Node) (o : JoinsOne at j row nodes row' nodes') (c : ℕ) → (j ≡ c → ⊥) → slice_get nodes' c ≡ slice_get nodes c
  one_other j row row' nodes nodes' o c h = ap (λ ns. slice_get ns c) o.nodes_are ∙ set_other nodes j c (record o.node { place = joined_place o.node.place }) h

  apart : (j c : ℕ) → (j == c) ≡ false → j ≡ c → ⊥
  apart j c e f = false_true (sym e ∙ ap (λ i. j == i) (sym f) ∙ eq_self j)

  -- one whose bytes come to no parent doesn't join
  pub not_twice : (js : List ℕ) (row row' : Order) (nodes nodes' : List Node) → Joins at js row nodes row' nodes' → (c : ℕ) (m : Node) → slice_get nodes c ≡ Some m → is_captured m.place ≡ false → among c js ≡ false
  not_twice _ row _ nodes _ None_more c m there free = among_none c
  not_twice _ row row'' nodes nodes'' (One_more {number} {numbers} {row'} {nodes'} one more) c m there free =
      among_cons c number numbers ∙ by (λ here. not_twice numbers row' row'' nodes' nodes'' more c m here free) (number == c) refl
    where
      by : (slice_get nodes' c ≡ Some m → among c numbers ≡ false) → (b : Bool) → (number == c) ≡ b → (if b then true else among c numbers) ≡ false
      by ih true e =
          let same : one.node ≡ m = some_same one.node m (sym one.there ∙ ap (slice_get nodes) (eqb-true number c e) ∙ there) in
          absurd (false_true (sym free ∙ ap (λ (x : Node). is_captured x.place) (sym same) ∙ one.captured))
      by ih false e = ih (one_other number row row' nodes nodes' one c (apart number c e) ∙ there)

  -- the others stay
  pub others_stay : (js : List ℕ) (row row' : Order) (nodes nodes' : List Node) → Joins at js row nodes row' nodes' → (c : ℕ) → among c js ≡ false → slice_get nodes c ≡ slice_get nodes' c
  others_stay _ row _ nodes _ None_more c e = refl
  others_stay _ row row'' nodes nodes'' (One_more {number} {numbers} {row'} {nodes'} one more) c e = by (others_stay numbers row' row'' nodes' nodes'' more c) (number == c) refl (sym (among_cons c number numbers) ∙ e)
    where
      by : (among c numbers ≡ false → slice_get nodes' c ≡ slice_get nodes'' c) → (b : Bool) → (number == c) ≡ b → (if number == c then true else among c numbers) ≡ false → slice_get nodes c ≡ slice_get nodes'' c
      by ih true f h = absurd (false_true (sym h ∙ ap (λ b. if b then true else among c numbers) f))
      by ih false f h =
          sym (one_other number row row' nodes nodes' one c (apart number c f))
          ∙ ih (sym (ap (λ b. if b then true else among c numbers) f) ∙ h)

  -- those that join are there, and are in the row then, or apart
  pub record Moved (nodes nodes' : List Node) (c : ℕ) : Type 0 where
    pub node : Node
    pub there : slice_get nodes c ≡ Some node
    pub captured : is_captured node.place ≡ true
    pub later : slice_get nodes' c ≡ Some (record node { place = joined_place node.place })

  pub moved : (js : List ℕ) (row row' : Order) (nodes nodes' : List Node) → Joins at js row nodes row' nodes' → (c : ℕ) → among c js ≡ true → Moved nodes nodes' c
  moved _ row _ nodes _ None_more c e = absurd (false_true (sym (among_none c) ∙ e))
  moved _ row row'' nodes nodes'' (One_more {number} {numbers} {row'} {nodes'} one more) c e = by (moved numbers row' row'' nodes' nodes'' more c) (number == c) refl (sym (among_cons c number numbers) ∙ e)
    where
      lift : (number ≡ c → ⊥) → Moved nodes' nodes'' c → Moved nodes nodes'' c
      lift h m = record { node = m.node; there = sym (one_other number row row' nodes nodes' one c h) ∙ m.there; captured = m.captured; later = m.later }

      here : number ≡ c → Moved nodes nodes'' c
      here f =
          let now : slice_get nodes' c ≡ Some (record one.node { place = joined_place one.node.place }) = ap (slice_get nodes') (sym f) ∙ one_at number row row' nodes nodes' one in
          record {
            node = one.node;
            there = ap (slice_get nodes) (sym f) ∙ one.there;
            captured = one.captured;
            later = sym (others_stay numbers row' row'' nodes' nodes'' more c
                (not_twice numbers row' row'' nodes' nodes'' more c (record one.node { place = joined_place one.node.place }) now (joined_free one.node.place one.captured))) ∙ now;
          }

      by : (among c numbers ≡ true → Moved nodes' nodes'' c) → (b : Bool) → (number == c) ≡ b → (if number == c then true else among c numbers) ≡ true → Moved nodes nodes'' c
      by ih true f h = here (eqb-true number c f)
      by ih false f h = lift (apart number c f) (ih (sym (ap (λ b. if b then true else among c numbers) f) ∙ h))

  -- ---- the row

  -- what is said of the nodes before and after
  pub record Agree (js : List ℕ) (was is : ℕ → Stance) : Type 0 where
    pub others : (j : ℕ) → among j js ≡ false → was j ≡ is j
    pub hidden : (j : ℕ) → among j js ≡ true → was j ≡ Hidden

  pub record Rowed (js : List ℕ) (row row' : Order) (h : Hole at row.pieces) : Type 0 where
    pub now : Hole at row'.pieces
    pub ahead : (was is : ℕ → Stance) → Agree js was is → items_ahead is now ≡ items_ahead was h ++ stances_items is js
    pub behind : (was is : ℕ → Stance) → Agree js was is → items_behind is now ≡ items_behind was h

  -- one of them goes on right before the place
  record Reseats (j : ℕ) (row : Order) (h : Hole at row.pieces) (mid : Order) : Type 0 where
    pub now : Hole at mid.pieces
    pub ahead : (s : Stance) (stance : ℕ → Stance) → stance j ≡ Hidden → items_ahead (with_stance j s stance) now ≡ items_ahead stance h ++ stance_items j s
    pub behind : (s : Stance) (stance : ℕ → Stance) → stance j ≡ Hidden → items_behind (with_stance j s stance) now ≡ items_behind stance h

  reseats : (j : ℕ) (row mid : Order) (h : Hole at row.pieces) → mid ≡ reopened at j (ended j row) → IsLawful row.nodes row.pieces → (j ≡ at → ⊥) → Reseats j row h mid
  reseats j row mid h e lawful not_it =
      let r = reseated at j row h lawful not_it in
      subst (Reseats j row h) (sym e) (record { now = r.now; ahead = r.ahead; behind = r.behind })

  no_stances : (said : ℕ → Stance) (xs : List Item) → xs ++ stances_items said [] ≡ xs
  unfolding stances_items
  no_stances said xs = append-nil xs

  one_stance : (said : ℕ → Stance) (j : ℕ) (js : List ℕ) → stances_items said (j ∷ js) ≡ stance_items j (said j) ++ stances_items said js
  unfolding stances_items
  one_stance said j js = refl

  pub rowed : (js : List ℕ) (row row' : Order) (nodes nodes' : List Node) → Joins at js row nodes row' nodes' → ((n : Node) → slice_get nodes at ≡ Some n → is_captured n.place ≡ false) → IsLawful row.nodes row.pieces → (h : Hole at row.pieces) → Rowed js row row' h
  rowed _ row _ nodes _ None_more free lawful h = record {
    now = h;
    ahead = λ was is agree.
        ap (λ z. z ++ map Byte h.here.bytes) (sym (row_items-alike is was h.ahead (λ n o. agree.others n (among_none n))))
        ∙ sym (no_stances is (items_ahead was h));
    behind = λ was is agree. sym (row_items-alike is was h.behind (λ n o. agree.others n (among_none n)));
  }
  rowed _ row row'' nodes nodes'' (One_more {number} {numbers} {row'} {nodes'} one more) free lawful h =
      let r = reseats number row row' h one.row_is lawful not_it in
      let ih = rowed numbers row' row'' nodes' nodes'' more free_then one.lawful r.now in
      record {
        now = ih.now;
        ahead = λ was is agree.
            ih.ahead (with_stance number (is number) was) is (agree_then was is agree)
            ∙ ap (λ z. z ++ stances_items is numbers) (r.ahead (is number) was (hidden_it was is agree))
            ∙ append_assoc (items_ahead was h) (stance_items number (is number)) (stances_items is numbers)
            ∙ ap (λ z. items_ahead was h ++ z) (sym (one_stance is number numbers));
        behind = λ was is agree. ih.behind (with_stance number (is number) was) is (agree_then was is agree) ∙ r.behind (is number) was (hidden_it was is agree);
      }
    where
      not_it : number ≡ at → ⊥
      not_it e = false_true (sym (free one.node (ap (slice_get nodes) (sym e) ∙ one.there)) ∙ one.captured)

      free_then : (n : Node) → slice_get nodes' at ≡ Some n → is_captured n.place ≡ false
      free_then n there = free n (sym (one_other number row row' nodes nodes' one at not_it) ∙ there)

      once : among number numbers ≡ false
      once = not_twice numbers row' row'' nodes' nodes'' more number (record one.node { place = joined_place one.node.place }) (one_at number row row' nodes nodes' one) (joined_free one.node.place one.captured)

      agree_then : (was is : ℕ → Stance) → Agree (number ∷ numbers) was is → Agree numbers (with_stance number (is number) was) is
      agree_then was is agree = record { others = λ j e. others j e (j == number) refl; hidden = λ j e. hidden j e (j == number) refl }
        where
          differs : (j : ℕ) → (j == number) ≡ false → (number == j) ≡ false
          differs j e = ne_eqb number j (λ f. apart j number e (sym f))

          others : (j : ℕ) → among j numbers ≡ false → (b : Bool) → (j == number) ≡ b → cond b (is number) (was j) ≡ is j
          others j e true f = ap is (sym (eqb-true j number f))
          others j e false f = agree.others j (among_cons j number numbers ∙ ap (λ b. if b then true else among j numbers) (differs j f) ∙ e)

          hidden : (j : ℕ) → among j numbers ≡ true → (b : Bool) → (j == number) ≡ b → cond b (is number) (was j) ≡ Hidden
          hidden j e true f = absurd (false_true (sym once ∙ ap (λ i. among i numbers) (sym (eqb-true j number f)) ∙ e))
          hidden j e false f = agree.hidden j (among_cons j number numbers ∙ ap (λ b. if b then true else among j numbers) (differs j f) ∙ e)

      hidden_it : (was is : ℕ → Stance) → Agree (number ∷ numbers) was is → was number ≡ Hidden
      hidden_it was is agree = agree.hidden number (among_cons number number numbers ∙ ap (λ b. if b then true else among number numbers) (eq_self number))

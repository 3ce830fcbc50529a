-- One level of those to which the bytes of a node come, up to one that has a stub.
use Rattle.std.proofs.Common.{◌≡◌, ◌≢◌, ◌<◌, ◌≤◌, ℕ, suc, ◌+◌, ◌-◌, nat_lt, is_some, true, false, List, [], Option, None, Some, slice_get, refl, sym, ap, ◌∙◌, subst, arith}
use Rattle.std.proofs.lemmas.Bool.Decides.{nat_tests}
use Rattle.node_line.specs.node_turn.declared.node.Node.{Node}
use Rattle.node_line.specs.node_turn.declared.node.Place.TheVariants.{Gathers, Captured}
use Rattle.node_line.specs.Stubs.{gives_bytes}
use Rattle.node_seats.specs.Joining.{IsCertain, IsComing, IsShownAt, ends_well, gives_at, waits_well}
use Rattle.node_seats.specs.Seats.{inner_in, inner_of_its, most_levels, most_nodes, stub_in, takes_up}
use Rattle.node_seats.proofs.Above.{false_true, some_same}
use Rattle.node_seats.proofs.Certain.{certain_above, certain_bytes, coming_bare, coming_ended, coming_well, is_shown, shown_at}

few_levels : (at : ℕ) → at < 1001 → nat_lt at most_nodes ≡ true
unfolding most_nodes
few_levels at h = grind (arith, nat_tests, h)

all_levels : 0 + 1001 ≤ most_levels
unfolding most_levels
all_levels = omega arith

pub none_in : {A : Type 0} (o : Option A) → is_some o ≡ false → o ≡ None
none_in None e = refl
none_in (Some a) e = cc

module _ (nodes : List Node) where
  -- a node gathers bytes that are certain
  pub gathers_shown : (at levels depth : ℕ) (n m : Node) (stub text : List ℕ) → slice_get nodes at ≡ Some m → m.place ≡ Gathers stub text → text ≡ [] → waits_well m ≡ true → ends_well nodes at m ≡ true →
      slice_get nodes at ≡ Some n → depth + levels ≤ most_levels → (takes_up n.place ≡ true → IsCertain nodes depth at n) → IsShownAt nodes at
  gathers_shown at levels depth n m stub text here place none waits ends there deep certain =
      let same : n ≡ m = some_same n m (sym there ∙ here) in
      let is : m.place ≡ Gathers stub [] = place ∙ ap (Gathers stub) none in
      let takes : takes_up n.place ≡ true = ap (λ (x : Node). takes_up x.place) same ∙ ap takes_up is in
      shown_at nodes at m here (is_shown nodes depth at m stub is waits ends (omega (arith, deep)) (subst (IsCertain nodes depth at) same (certain takes)))

  -- they come to its parent
  abbrev pub Comes : (at : ℕ) → Node → Type 0
  Comes at m = (depth : ℕ) → IsCertain nodes depth at m → IsComing nodes depth at m

  pub well_comes : (at : ℕ) (m : Node) → ends_well nodes at m ≡ true → Comes at m
  well_comes at m e depth certain = coming_well nodes depth at m e certain

  pub bare_comes : (at : ℕ) (m : Node) (stub : Option (List ℕ)) (text : List ℕ) → m.place ≡ Captured stub text → stub ≡ None → Comes at m
  bare_comes at m stub text place none depth certain = coming_bare nodes depth at m (ap stub_in place ∙ none) certain

  pub captured_shown : (at levels root : ℕ) (m : Node) (stub : Option (List ℕ)) (text : List ℕ) → slice_get nodes at ≡ Some m → m.place ≡ Captured stub text → Comes at m →
      ((n : Node) (depth : ℕ) → slice_get nodes at ≡ Some n → n.parent ≡ m.parent → depth + levels ≤ most_levels → IsComing nodes depth at n → IsShownAt nodes root) →
      (n : Node) (depth : ℕ) → slice_get nodes at ≡ Some n → depth + levels ≤ most_levels → (takes_up n.place ≡ true → IsCertain nodes depth at n) → IsShownAt nodes root
  captured_shown at levels root m stub text here place comes above n depth there deep certain =
      let same : n ≡ m = some_same n m (sym there ∙ here) in
      let takes : takes_up n.place ≡ true = ap (λ (x : Node). takes_up x.place) same ∙ ap takes_up place in
      above m depth here refl deep (comes depth (subst (IsCertain nodes depth at) same (certain takes)))

  -- so bytes of that one are certain
  pub above_shown : (at parent levels root : ℕ) → levels ≢ 0 → at < 1001 → inner_of_its nodes at (slice_get nodes at) ≡ true →
      ((p : Node) (depth : ℕ) → slice_get nodes parent ≡ Some p → depth + (levels - 1) ≤ most_levels → (takes_up p.place ≡ true → IsCertain nodes depth parent p) → IsShownAt nodes root) →
      (n : Node) (depth : ℕ) → slice_get nodes at ≡ Some n → n.parent ≡ parent → depth + levels ≤ most_levels → IsComing nodes depth at n → IsShownAt nodes root
  above_shown at parent levels root some few inner higher n depth there its deep coming =
      by (slice_get nodes n.parent) refl (sym (ap (inner_of_its nodes at) there) ∙ inner)
    where
      less : suc depth + (levels - 1) ≤ most_levels
      less = omega (arith, deep, some)

      by : (o : Option Node) → slice_get nodes n.parent ≡ o → inner_in n.parent o at (Some n) ≡ true → IsShownAt nodes root
      by None f h = absurd (false_true h)
      by (Some p) f h =
          higher p (suc depth) (ap (slice_get nodes) (sym its) ∙ f) less
          (λ takes. subst (λ q. IsCertain nodes (suc depth) q p) its (certain_above nodes depth at n p there (few_levels at few) h coming takes))

  -- a node has bytes that are placed next, or is over with some that come to its parent
  pub bytes_shown : (at root : ℕ) (m : Node) → slice_get nodes at ≡ Some m → m.asks ≡ None → gives_bytes m.stage ≡ true →
      ((n : Node) (depth : ℕ) → slice_get nodes at ≡ Some n → depth + 1001 ≤ most_levels → (takes_up n.place ≡ true → IsCertain nodes depth at n) → IsShownAt nodes root) → IsShownAt nodes root
  bytes_shown at root m here free gives from = from m 0 here all_levels (λ takes. certain_bytes nodes at m gives free)

  pub ended_shown : (at root : ℕ) (m : Node) → slice_get nodes at ≡ Some m → m.asks ≡ None → gives_at m.stage m.place ≡ true →
      ((n : Node) (depth : ℕ) → slice_get nodes at ≡ Some n → n.parent ≡ m.parent → depth + 1001 ≤ most_levels → IsComing nodes depth at n → IsShownAt nodes root) → IsShownAt nodes root
  ended_shown at root m here free gives above = above m 0 here refl all_levels (coming_ended nodes at m gives free)

-- The lines of the subrequests whose bytes come to a node, one after another.
use Rattle.std.proofs.Common.{◌≡◌, ◌<◌, ◌≤◌, ℕ, zero, suc, ◌+◌, ◌-◌, ◌==◌, ◌&&◌, nat_lt, Bool, true, false, cond, List, [], ◌∷◌, Option, None, Some, slice_get, refl, sym, ap, ◌∙◌, arith}
use Rattle.std.proofs.lemmas.Bool.Decides.{nat_tests}
use Rattle.family_meaning.specs.Line.{Line, joined}
use Rattle.family_meaning.specs.Line.Line.{Nil, Bytes, Gives, Waits}
use Rattle.node_line.specs.node_turn.Stages.{is_capturing}
use Rattle.node_line.specs.node_turn.declared.node.Node.{Node}
use Rattle.node_line.specs.node_turn.declared.node.Place.{Place}
use Rattle.node_line.specs.node_turn.declared.node.Place.TheVariants.{Row, Stub, Gathers, Captured}
use Rattle.node_line.specs.Stances.{under}
use Rattle.node_seats.specs.Seats.{Doing, ahead_line, asking_line, inner_line, inner_lines, is_captured, is_inner, line_from, most_nodes, put_by, stub_in, waited_line, withheld_text}

-- ---- a line before another

pub under_joined : (bytes : List ℕ) (line other : Line) → joined (under bytes line) other ≡ under bytes (joined line other)
unfolding under joined
under_joined [] line other = refl
under_joined (b ∷ bytes) line other = ap (Bytes (b ∷ [])) (under_joined bytes line other)

module _ (d : Doing) (nodes : List Node) where
  -- what comes after a line below is only ever after it
  abbrev pub Ends : (ℕ → Node → Line → Line) → Type 0
  Ends below = (j : ℕ) (n : Node) (rest other : Line) → below j n (joined rest other) ≡ joined (below j n rest) other

  pub put_joined : (below : ℕ → Node → Line → Line) → Ends below → (s : Option (List ℕ)) (c : ℕ) (m : Node) (rest other : Line) → put_by s (below c m) (joined rest other) ≡ joined (put_by s (below c m) rest) other
  unfolding joined
  put_joined below ends None c m rest other = ends c m rest other
  put_joined below ends (Some stub) c m rest other = refl

  pub waited_joined : (below : ℕ → Node → Line → Line) → Ends below → (x c : ℕ) (o : Option Node) (rest other : Line) → waited_line below x c o (joined rest other) ≡ joined (waited_line below x c o rest) other
  waited_joined below ends x c None rest other = refl
  waited_joined below ends x c (Some m) rest other = by (is_captured m.place && (m.parent == x))
    where
      by : (b : Bool) → cond b (put_by (stub_in m.place) (below c m) (joined rest other)) (joined rest other) ≡ joined (cond b (put_by (stub_in m.place) (below c m) rest) rest) other
      by true = put_joined below ends (stub_in m.place) c m rest other
      by false = refl

  pub asking_joined : (below : ℕ → Node → Line → Line) → Ends below → (x : ℕ) (n : Node) (asks : Option ℕ) (rest other : Line) → asking_line d nodes below x n asks (joined rest other) ≡ joined (asking_line d nodes below x n asks rest) other
  unfolding joined
  asking_joined below ends x n None rest other = refl
  asking_joined below ends x n (Some c) rest other = by (is_capturing n.stage)
    where
      by : (b : Bool) → cond b (Waits x (waited_line below x c (slice_get nodes c) Nil) n.left (d.heard x n) (joined rest other)) (waited_line below x c (slice_get nodes c) (Gives x n.left (d.act x n) (joined rest other)))
          ≡ joined (cond b (Waits x (waited_line below x c (slice_get nodes c) Nil) n.left (d.heard x n) rest) (waited_line below x c (slice_get nodes c) (Gives x n.left (d.act x n) rest))) other
      by true = refl
      by false = waited_joined below ends x c (slice_get nodes c) (Gives x n.left (d.act x n) rest) other

  pub inner_joined : (below : ℕ → Node → Line → Line) → Ends below → (x : ℕ) (n : Node) (c : ℕ) (o : Option Node) (rest other : Line) → inner_line below x n c o (joined rest other) ≡ joined (inner_line below x n c o rest) other
  inner_joined below ends x n c None rest other = refl
  inner_joined below ends x n c (Some m) rest other = by (is_inner x n c m)
    where
      by : (b : Bool) → cond b (under m.before (put_by (stub_in m.place) (below c m) (joined rest other))) (joined rest other) ≡ joined (cond b (under m.before (put_by (stub_in m.place) (below c m) rest)) rest) other
      by true = ap (under m.before) (put_joined below ends (stub_in m.place) c m rest other) ∙ sym (under_joined m.before (put_by (stub_in m.place) (below c m) rest) other)
      by false = refl

  pub inners_joined : (below : ℕ → Node → Line → Line) → Ends below → (x : ℕ) (n : Node) (count : ℕ) (rest other : Line) → inner_lines below nodes x n count (joined rest other) ≡ joined (inner_lines below nodes x n count rest) other
  unfolding inner_lines
  inners_joined below ends x n zero rest other = refl
  inners_joined below ends x n (suc count) rest other =
      ap (inner_lines below nodes x n count) (inner_joined below ends x n count (slice_get nodes count) rest other) ∙ inners_joined below ends x n count (inner_line below x n count (slice_get nodes count) rest) other

  ahead_ends : (p : Place) (inner : Line → Line) → ((rest other : Line) → inner (joined rest other) ≡ joined (inner rest) other) → (rest other : Line) → ahead_line p inner (joined rest other) ≡ joined (ahead_line p inner rest) other
  ahead_ends Row inner ends rest other = refl
  ahead_ends (Stub stub text) inner ends rest other = refl
  ahead_ends (Gathers stub text) inner ends rest other = ends rest other
  ahead_ends (Captured stub text) inner ends rest other = ends rest other

  pub line_joined : (levels : ℕ) → Ends (line_from d nodes levels)
  unfolding line_from joined
  line_joined zero j n rest other = sym (under_joined (withheld_text n.place) (Gives j n.left (d.act j n) rest) other)
  line_joined (suc levels) j n rest other =
      let below = line_from d nodes levels in
      let ends = line_joined levels in
      let inner = inner_lines below nodes j n most_nodes in
      ap (λ l. ahead_line n.place inner (under (withheld_text n.place) l)) (asking_joined below ends j n n.asks rest other)
      ∙ ap (ahead_line n.place inner) (sym (under_joined (withheld_text n.place) (asking_line d nodes below j n n.asks rest) other))
      ∙ ahead_ends n.place inner (inners_joined below ends j n most_nodes) (under (withheld_text n.place) (asking_line d nodes below j n n.asks rest)) other

  -- the lines of subrequests, and then more
  pub inners_first : (levels x : ℕ) (n : Node) (count : ℕ) (rest : Line) → inner_lines (line_from d nodes levels) nodes x n count rest ≡ joined (inner_lines (line_from d nodes levels) nodes x n count Nil) rest
  unfolding joined
  inners_first levels x n count rest = inners_joined (line_from d nodes levels) (line_joined levels) x n count Nil rest

  pub ahead_first : (levels x : ℕ) (n : Node) (rest : Line) →
      ahead_line n.place (inner_lines (line_from d nodes levels) nodes x n most_nodes) rest ≡ joined (ahead_line n.place (inner_lines (line_from d nodes levels) nodes x n most_nodes) Nil) rest
  unfolding joined
  ahead_first levels x n rest = ahead_ends n.place (inner_lines (line_from d nodes levels) nodes x n most_nodes) (inners_joined (line_from d nodes levels) (line_joined levels) x n most_nodes) Nil rest

-- ---- one of them, those before it, and those after it

pub ahead_same : (p : Place) (inner inner' : Line → Line) → ((rest : Line) → inner rest ≡ inner' rest) → (rest : Line) → ahead_line p inner rest ≡ ahead_line p inner' rest
ahead_same Row inner inner' same rest = refl
ahead_same (Stub stub text) inner inner' same rest = refl
ahead_same (Gathers stub text) inner inner' same rest = same rest
ahead_same (Captured stub text) inner inner' same rest = same rest

-- those from a number on, as many as `more`
unfoldable pub later_lines : (below : ℕ → Node → Line → Line) → List Node → (node : ℕ) → Node → (from more : ℕ) → (rest : Line) → Line
later_lines below nodes node n from zero rest = rest
later_lines below nodes node n from (suc more) rest = later_lines below nodes node n from more (inner_line below node n (from + more) (slice_get nodes (from + more)) rest)

one_more : (a b : ℕ) → a + suc b ≡ suc (a + b)
one_more a b = omega arith

two_ways : (a b : ℕ) → a + suc b ≡ suc a + b
two_ways a b = omega arith

no_more : (a : ℕ) → a + zero ≡ a
no_more a = omega arith

below_next : (k : ℕ) → k < suc k
below_next k = omega arith

below_more : (c k : ℕ) → c < k → c < suc k
below_more c k h = omega (arith, h)

pub split_at : (below : ℕ → Node → Line → Line) (nodes : List Node) (node : ℕ) (n : Node) (at more : ℕ) (rest : Line) →
    inner_lines below nodes node n (at + suc more) rest ≡ inner_lines below nodes node n at (inner_line below node n at (slice_get nodes at) (later_lines below nodes node n (suc at) more rest))
unfolding inner_lines later_lines
split_at below nodes node n at zero rest =
    ap (λ k. inner_lines below nodes node n k rest) (one_more at zero ∙ ap suc (no_more at))
split_at below nodes node n at (suc more) rest =
    ap (λ k. inner_lines below nodes node n k rest) (one_more at (suc more))
    ∙ split_at below nodes node n at more (inner_line below node n (at + suc more) (slice_get nodes (at + suc more)) rest)
    ∙ ap (λ k. inner_lines below nodes node n at (inner_line below node n at (slice_get nodes at) (later_lines below nodes node n (suc at) more (inner_line below node n k (slice_get nodes k) rest)))) (two_ways at more)

pub less : (a b : ℕ) → nat_lt a b ≡ true → a < b
less a b e = grind (arith, nat_tests)

pub as_sum : (a b : ℕ) → nat_lt a b ≡ true → b ≡ a + suc (b - suc a)
as_sum a b e = let h = less a b e in omega (arith, h)

pub later_split : (below : ℕ → Node → Line → Line) (nodes : List Node) (node : ℕ) (n : Node) (from k more : ℕ) (rest : Line) →
    later_lines below nodes node n from (k + suc more) rest ≡ later_lines below nodes node n from k (inner_line below node n (from + k) (slice_get nodes (from + k)) (later_lines below nodes node n (suc (from + k)) more rest))
unfolding later_lines
later_split below nodes node n from k zero rest =
    ap (λ i. later_lines below nodes node n from i rest) (one_more k zero ∙ ap suc (no_more k))
later_split below nodes node n from k (suc more) rest =
    ap (λ i. later_lines below nodes node n from i rest) (one_more k (suc more))
    ∙ later_split below nodes node n from k more (inner_line below node n (from + (k + suc more)) (slice_get nodes (from + (k + suc more))) rest)
    ∙ ap (λ i. later_lines below nodes node n from k (inner_line below node n (from + k) (slice_get nodes (from + k)) (later_lines below nodes node n (suc (from + k)) more (inner_line below node n i (slice_get nodes i) rest)))) (in_turn from k more)
  where
    in_turn : (a b c : ℕ) → a + (b + suc c) ≡ suc (a + b) + c
    in_turn a b c = omega arith

pub later_joined : (d : Doing) (nodes : List Node) (below : ℕ → Node → Line → Line) → Ends d nodes below → (x : ℕ) (n : Node) (from more : ℕ) (rest other : Line) →
    later_lines below nodes x n from more (joined rest other) ≡ joined (later_lines below nodes x n from more rest) other
unfolding later_lines
later_joined d nodes below ends x n from zero rest other = refl
later_joined d nodes below ends x n from (suc more) rest other =
    ap (later_lines below nodes x n from more) (inner_joined d nodes below ends x n (from + more) (slice_get nodes (from + more)) rest other)
    ∙ later_joined d nodes below ends x n from more (inner_line below x n (from + more) (slice_get nodes (from + more)) rest) other

-- the same where each is
pub inners_same : (below : ℕ → Node → Line → Line) (nodes : List Node) (x : ℕ) (n : Node) (below' : ℕ → Node → Line → Line) (nodes' : List Node) (n' : Node) (count : ℕ) →
    ((c : ℕ) → c < count → (rest : Line) → inner_line below x n c (slice_get nodes c) rest ≡ inner_line below' x n' c (slice_get nodes' c) rest) → (rest : Line) →
    inner_lines below nodes x n count rest ≡ inner_lines below' nodes' x n' count rest
unfolding inner_lines
inners_same below nodes x n below' nodes' n' zero same rest = refl
inners_same below nodes x n below' nodes' n' (suc count) same rest =
    ap (inner_lines below nodes x n count) (same count (below_next count) rest)
    ∙ inners_same below nodes x n below' nodes' n' count (λ c h. same c (below_more c count h)) (inner_line below' x n' count (slice_get nodes' count) rest)

from_on : (a b : ℕ) → a ≤ a + b
from_on a b = omega arith

pub later_same : (below : ℕ → Node → Line → Line) (nodes : List Node) (x : ℕ) (n : Node) (below' : ℕ → Node → Line → Line) (nodes' : List Node) (n' : Node) (from more : ℕ) →
    ((c : ℕ) → from ≤ c → (rest : Line) → inner_line below x n c (slice_get nodes c) rest ≡ inner_line below' x n' c (slice_get nodes' c) rest) → (rest : Line) →
    later_lines below nodes x n from more rest ≡ later_lines below' nodes' x n' from more rest
unfolding later_lines
later_same below nodes x n below' nodes' n' from zero same rest = refl
later_same below nodes x n below' nodes' n' from (suc more) same rest =
    ap (later_lines below nodes x n from more) (same (from + more) (from_on from more) rest)
    ∙ later_same below nodes x n below' nodes' n' from more same (inner_line below' x n' (from + more) (slice_get nodes' (from + more)) rest)

within : (a b : ℕ) → a + b < a + suc b
within a b = omega arith

wider : (c a b : ℕ) → c < a + b → c < a + suc b
wider c a b h = omega (arith, h)

-- nothing where none is
pub inners_none : (below : ℕ → Node → Line → Line) (nodes : List Node) (x : ℕ) (n : Node) (count : ℕ) → ((c : ℕ) → c < count → (rest : Line) → inner_line below x n c (slice_get nodes c) rest ≡ rest) → (rest : Line) →
    inner_lines below nodes x n count rest ≡ rest
unfolding inner_lines
inners_none below nodes x n zero none rest = refl
inners_none below nodes x n (suc count) none rest = ap (inner_lines below nodes x n count) (none count (below_next count) rest) ∙ inners_none below nodes x n count (λ c h. none c (below_more c count h)) rest

pub later_none : (below : ℕ → Node → Line → Line) (nodes : List Node) (x : ℕ) (n : Node) (from more : ℕ) → ((c : ℕ) → from ≤ c → c < from + more → (rest : Line) → inner_line below x n c (slice_get nodes c) rest ≡ rest) → (rest : Line) →
    later_lines below nodes x n from more rest ≡ rest
unfolding later_lines
later_none below nodes x n from zero none rest = refl
later_none below nodes x n from (suc more) none rest = ap (later_lines below nodes x n from more) (none (from + more) (from_on from more) (within from more) rest) ∙ later_none below nodes x n from more (λ c h k. none c h (wider c from more k)) rest

-- ---- one of them

pub no_inner : (below : ℕ → Node → Line → Line) (x : ℕ) (n : Node) (c : ℕ) (m : Node) (rest : Line) → is_inner x n c m ≡ false → inner_line below x n c (Some m) rest ≡ rest
no_inner below x n c m rest e = ap (λ b. cond b (under m.before (put_by (stub_in m.place) (below c m) rest)) rest) e

pub inner_so : (below : ℕ → Node → Line → Line) (x : ℕ) (n : Node) (c : ℕ) (m : Node) (rest : Line) → is_inner x n c m ≡ true → inner_line below x n c (Some m) rest ≡ under m.before (put_by (stub_in m.place) (below c m) rest)
inner_so below x n c m rest e = ap (λ b. cond b (under m.before (put_by (stub_in m.place) (below c m) rest)) rest) e

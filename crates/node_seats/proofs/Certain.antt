-- When the body of a node with a stub is shown in any case.
use Rattle.std.proofs.Common.{◌≡◌, ◌≢◌, ◌≤◌, ℕ, zero, suc, ◌-◌, ◌==◌, ◌&&◌, ◌||◌, nat_lt, Bool, true, false, cond, List, [], ◌∷◌, Option, None, Some, slice_get, refl, sym, ap, ◌∙◌, subst, arith}
use Rattle.std.proofs.lemmas.Bool.{eqb-true}
use Rattle.file_tree.specs.Tree.{Tree}
use Rattle.ngx_pattern.specs.Pattern.{Pattern as SetPattern}
use Rattle.ngx_variables.specs.declared.request.Main.{Main}
use Rattle.site_model.specs.declared.site.Site.{Site}
use Rattle.request_meaning.specs.Serving.{World}
use Rattle.family_meaning.specs.Line.{Line, joined}
use Rattle.family_meaning.specs.Line.Line.{Nil, Gives, Waits, Stubs}
use Rattle.family_meaning.specs.Moves.{KeepsBody, SomeBody}
use Rattle.node_line.specs.node_turn.Stages.{is_capturing, node_act}
use Rattle.node_line.specs.node_turn.declared.node.Node.{Node}
use Rattle.node_line.specs.node_turn.declared.node.Place.{Place}
use Rattle.node_line.specs.node_turn.declared.node.Place.TheVariants.{Row, Stub, Gathers, Captured}
use Rattle.node_line.specs.node_turn.declared.node.Stage.{Stage}
use Rattle.node_line.specs.node_turn.declared.node.Stage.TheVariants as stages
use Rattle.node_line.specs.Stances.{under}
use Rattle.node_line.specs.Stubs.{gives_bytes, good}
use Rattle.node_line.proofs.Certain.{Answers, EndsWell, answers_gives, answers_last, answers_stub, answers_under, answers_waits, some_first, some_kept, some_last, some_stub, some_text, some_under, some_written, well_gives, well_kept, well_last, well_under, well_waits}
use Rattle.node_line.proofs.Shows.{act_good, heard_good, node_writes}
use Rattle.node_seats.specs.Seats.{Doing, ahead_line, asking_line, doing_by, inner_line, inner_lines, is_captured, is_inner, line_from, most_levels, most_nodes, put_by, stub_in, takes_up, waited_line, withheld_text}
use Rattle.node_seats.specs.Joining.{IsCertain, IsComing, IsShown, IsShownAt, answers_asked, ends_well, gives_at, has_some, is_answered, waits_well}
use Rattle.node_seats.proofs.Above.{false_true, left_true, right_true, some_same}
use Rattle.node_seats.proofs.Inners.{ahead_first, as_sum, inner_so, inners_first, later_lines, line_joined, put_joined, split_at, waited_joined}
use Rattle.node_seats.proofs.Located.{waited_is}

none_answered : (nodes : List Node) (at : ℕ) (n : Node) → is_answered zero nodes at n ≡ true → ⊥
unfolding is_answered
none_answered nodes at n e = cc

-- one that waits for none
free_answered : (k : ℕ) (nodes : List Node) (at : ℕ) (n : Node) → n.asks ≡ None → is_answered (suc k) nodes at n ≡ true
unfolding is_answered
free_answered k nodes at n e = ap (answers_asked (is_answered k nodes) nodes at) e

all_answered : (nodes : List Node) (at : ℕ) (n : Node) → n.asks ≡ None → is_answered most_levels nodes at n ≡ true
unfolding most_levels
all_answered nodes at n e = free_answered 1000 nodes at n e

module _ (w : World) (patterns : List SetPattern) (site : Site) (main : Main) (texts : ℕ → List ℕ) (tree : Tree) (nodes : List Node) where
  abbrev d : Doing
  d = doing_by w patterns site main texts

  -- the line of the one for whose body a node waits
  abbrev asked : (levels at c : ℕ) → Line → Line
  asked levels at c rest = waited_line (line_from (doing_by w patterns site main texts) nodes levels) at c (slice_get nodes c) rest

  -- a node with all that comes to it, and what is last in its line
  abbrev last_of : (levels at : ℕ) → Node → Line
  last_of levels at n = asking_line (doing_by w patterns site main texts) nodes (line_from (doing_by w patterns site main texts) nodes levels) at n n.asks Nil

  line_is : (levels at : ℕ) (n : Node) → line_from (doing_by w patterns site main texts) nodes (suc levels) at n Nil
      ≡ joined (ahead_line n.place (inner_lines (line_from (doing_by w patterns site main texts) nodes levels) nodes at n most_nodes) Nil) (under (withheld_text n.place) (last_of levels at n))
  unfolding line_from
  line_is levels at n = ahead_first (doing_by w patterns site main texts) nodes levels at n (under (withheld_text n.place) (last_of levels at n))

  -- ---- answers

  waited_answers : (levels at c : ℕ) (m : Node) → slice_get nodes c ≡ Some m → is_captured m.place ≡ true → m.parent ≡ at → Answers w tree (line_from (doing_by w patterns site main texts) nodes levels c m Nil) → Answers w tree (asked levels at c Nil)
  waited_answers levels at c m there captured parent h =
      subst (Answers w tree) (sym (waited_is (line_from (doing_by w patterns site main texts) nodes levels) at c (slice_get nodes c) m Nil there captured parent)) (by (stub_in m.place))
    where
      by : (s : Option (List ℕ)) → Answers w tree (put_by s (line_from (doing_by w patterns site main texts) nodes levels c m) Nil)
      by None = h
      by (Some stub) = answers_stub w tree (line_from (doing_by w patterns site main texts) nodes levels c m Nil) stub h

  -- what is last of a node that waits, or doesn't
  asking_answers : (levels at : ℕ) (n : Node) (asks : Option ℕ) → ((c : ℕ) → asks ≡ Some c → Answers w tree (asked levels at c Nil)) →
      Answers w tree (asking_line (doing_by w patterns site main texts) nodes (line_from (doing_by w patterns site main texts) nodes levels) at n asks Nil)
  unfolding joined
  asking_answers levels at n None h = answers_gives w tree at n.left (node_act w patterns site main n (texts at))
  asking_answers levels at n (Some c) h = by (is_capturing n.stage)
    where
      by : (b : Bool) → Answers w tree (cond b (Waits at (asked levels at c Nil) n.left ((doing_by w patterns site main texts).heard at n) Nil) (asked levels at c (Gives at n.left (node_act w patterns site main n (texts at)) Nil)))
      by true = answers_waits w tree at n.left (asked levels at c Nil) ((doing_by w patterns site main texts).heard at n) (h c refl)
      by false =
          subst (Answers w tree)
          (sym (waited_joined (doing_by w patterns site main texts) nodes (line_from (doing_by w patterns site main texts) nodes levels) (line_joined (doing_by w patterns site main texts) nodes levels) at c (slice_get nodes c) Nil (Gives at n.left (node_act w patterns site main n (texts at)) Nil)))
          (answers_last w tree (asked levels at c Nil) (Gives at n.left (node_act w patterns site main n (texts at)) Nil) (answers_gives w tree at n.left (node_act w patterns site main n (texts at))))

  -- the one for which a node waits, where each that is waited for is there
  asked_there : (k levels at : ℕ) (n : Node) → ((c : ℕ) (m : Node) → is_answered k nodes c m ≡ true → Answers w tree (line_from (doing_by w patterns site main texts) nodes levels c m Nil)) →
      is_answered (suc k) nodes at n ≡ true → (c : ℕ) → n.asks ≡ Some c → Answers w tree (asked levels at c Nil)
  unfolding is_answered
  asked_there k levels at n higher e c asks = by (slice_get nodes c) refl (sym (ap (answers_asked (is_answered k nodes) nodes at) asks) ∙ e)
    where
      by : (o : Option Node) → slice_get nodes c ≡ o → elim o [ None ↦ false | Some m ↦ is_captured m.place && ((m.parent == at) && is_answered k nodes c m) ] ≡ true → Answers w tree (asked levels at c Nil)
      by None f h = absurd (false_true h)
      by (Some m) f h =
          let rest = right_true (is_captured m.place) ((m.parent == at) && is_answered k nodes c m) h in
          waited_answers levels at c m f (left_true (is_captured m.place) ((m.parent == at) && is_answered k nodes c m) h)
          (eqb-true m.parent at (left_true (m.parent == at) (is_answered k nodes c m) rest))
          (higher c m (right_true (m.parent == at) (is_answered k nodes c m) rest))

  answers_line : (k levels at : ℕ) (n : Node) → is_answered k nodes at n ≡ true → Answers w tree (line_from (doing_by w patterns site main texts) nodes levels at n Nil)
  unfolding line_from
  answers_line k zero at n e = answers_under w tree (withheld_text n.place) (Gives at n.left (node_act w patterns site main n (texts at)) Nil) (answers_gives w tree at n.left (node_act w patterns site main n (texts at)))
  answers_line zero (suc levels) at n e = absurd (none_answered nodes at n e)
  answers_line (suc k) (suc levels) at n e =
      subst (Answers w tree) (sym (line_is levels at n))
      (answers_last w tree (ahead_line n.place (inner_lines (line_from (doing_by w patterns site main texts) nodes levels) nodes at n most_nodes) Nil) (under (withheld_text n.place) (last_of levels at n))
      (answers_under w tree (withheld_text n.place) (last_of levels at n)
      (asking_answers levels at n n.asks (asked_there k levels at n (λ c m f. answers_line k levels c m f) e))))

  -- ---- good answers

  asking_well : (levels at : ℕ) (n : Node) (asks : Option ℕ) → good n.stage ≡ true → ((c : ℕ) → asks ≡ Some c → Answers w tree (asked levels at c Nil)) →
      EndsWell w tree (asking_line (doing_by w patterns site main texts) nodes (line_from (doing_by w patterns site main texts) nodes levels) at n asks Nil)
  unfolding joined
  asking_well levels at n None g h = well_gives w tree at n.left (node_act w patterns site main n (texts at)) (act_good w patterns site main n (texts at) g)
  asking_well levels at n (Some c) g h = by (is_capturing n.stage)
    where
      by : (b : Bool) → EndsWell w tree (cond b (Waits at (asked levels at c Nil) n.left ((doing_by w patterns site main texts).heard at n) Nil) (asked levels at c (Gives at n.left (node_act w patterns site main n (texts at)) Nil)))
      by true = well_waits w tree at n.left (asked levels at c Nil) ((doing_by w patterns site main texts).heard at n) (h c refl) (λ r. heard_good w patterns site main n (texts at) r.body g)
      by false =
          subst (EndsWell w tree)
          (sym (waited_joined (doing_by w patterns site main texts) nodes (line_from (doing_by w patterns site main texts) nodes levels) (line_joined (doing_by w patterns site main texts) nodes levels) at c (slice_get nodes c) Nil (Gives at n.left (node_act w patterns site main n (texts at)) Nil)))
          (well_last w tree (asked levels at c Nil) (Gives at n.left (node_act w patterns site main n (texts at)) Nil) (well_gives w tree at n.left (node_act w patterns site main n (texts at)) (act_good w patterns site main n (texts at) g)))

  well_line : (k levels at : ℕ) (n : Node) → good n.stage ≡ true → is_answered k nodes at n ≡ true → EndsWell w tree (line_from (doing_by w patterns site main texts) nodes levels at n Nil)
  unfolding line_from
  well_line k zero at n g e =
      well_under w tree (withheld_text n.place) (Gives at n.left (node_act w patterns site main n (texts at)) Nil) (well_gives w tree at n.left (node_act w patterns site main n (texts at)) (act_good w patterns site main n (texts at) g))
  well_line zero (suc levels) at n g e = absurd (none_answered nodes at n e)
  well_line (suc k) (suc levels) at n g e =
      subst (EndsWell w tree) (sym (line_is levels at n))
      (well_last w tree (ahead_line n.place (inner_lines (line_from (doing_by w patterns site main texts) nodes levels) nodes at n most_nodes) Nil) (under (withheld_text n.place) (last_of levels at n))
      (well_under w tree (withheld_text n.place) (last_of levels at n)
      (asking_well levels at n n.asks g (asked_there k levels at n (λ c m f. answers_line k levels c m f) e))))

  pub keeps_line : (levels at : ℕ) (n : Node) → ends_well nodes at n ≡ true → KeepsBody w tree (line_from (doing_by w patterns site main texts) nodes levels at n Nil)
  keeps_line levels at n e =
      well_kept w tree (line_from (doing_by w patterns site main texts) nodes levels at n Nil)
      (well_line most_levels levels at n (left_true (good n.stage) (is_answered most_levels nodes at n) e) (right_true (good n.stage) (is_answered most_levels nodes at n) e))

  -- ---- some bytes

  -- what is last in the line of a node that waits for none
  last_some : (levels at : ℕ) (n : Node) → SomeBody w tree (under (withheld_text n.place) (Gives at n.left (node_act w patterns site main n (texts at)) Nil)) → n.asks ≡ None →
      SomeBody w tree (line_from (doing_by w patterns site main texts) nodes levels at n Nil)
  unfolding line_from
  last_some zero at n h free = h
  last_some (suc levels) at n h free =
      subst (SomeBody w tree) (sym (line_is levels at n))
      (some_last w tree (ahead_line n.place (inner_lines (line_from (doing_by w patterns site main texts) nodes levels) nodes at n most_nodes) Nil) (under (withheld_text n.place) (last_of levels at n))
      (subst (λ asks. SomeBody w tree (under (withheld_text n.place) (asking_line (doing_by w patterns site main texts) nodes (line_from (doing_by w patterns site main texts) nodes levels) at n asks Nil))) (sym free) h))

  placed_some : (levels at : ℕ) (n : Node) → gives_bytes n.stage ≡ true → n.asks ≡ None → SomeBody w tree (line_from (doing_by w patterns site main texts) nodes levels at n Nil)
  placed_some levels at n e free =
      let p = node_writes w patterns site main n (texts at) e in
      last_some levels at n
      (some_under w tree (withheld_text n.place) (Gives at n.left (node_act w patterns site main n (texts at)) Nil)
      (subst (λ m. SomeBody w tree (Gives at n.left m Nil)) (sym p.3) (some_written w tree at n.left p.0 p.1 Nil p.2))) free

  withheld_some : (levels at : ℕ) (n : Node) → withheld_text n.place ≢ [] → n.asks ≡ None → SomeBody w tree (line_from (doing_by w patterns site main texts) nodes levels at n Nil)
  withheld_some levels at n h free = last_some levels at n (some_text w tree (withheld_text n.place) (Gives at n.left (node_act w patterns site main n (texts at)) Nil) h) free

  -- ---- a level further up

  -- the line of a node to which those of another come
  above_some : (levels at : ℕ) (n p : Node) → slice_get nodes at ≡ Some n → nat_lt at most_nodes ≡ true → takes_up p.place ≡ true → is_inner n.parent p at n ≡ true →
      SomeBody w tree (put_by (stub_in n.place) (line_from (doing_by w patterns site main texts) nodes levels at n) Nil) →
      SomeBody w tree (line_from (doing_by w patterns site main texts) nodes (suc levels) n.parent p Nil)
  unfolding line_from joined
  above_some levels at n p there few takes inner h =
      let below = line_from (doing_by w patterns site main texts) nodes levels in
      let own = under (withheld_text p.place) (last_of levels n.parent p) in
      let later = later_lines below nodes n.parent p (suc at) (most_nodes - suc at) own in
      subst (SomeBody w tree)
      (sym (taken p.place (inner_lines below nodes n.parent p most_nodes) own takes
      ∙ ap (λ k. inner_lines below nodes n.parent p k own) (as_sum at most_nodes few)
      ∙ split_at below nodes n.parent p at (most_nodes - suc at) own
      ∙ ap (inner_lines below nodes n.parent p at) (ap (λ o. inner_line below n.parent p at o later) there ∙ inner_so below n.parent p at n later inner)
      ∙ inners_first (doing_by w patterns site main texts) nodes levels n.parent p at (under n.before (put_by (stub_in n.place) (below at n) later))))
      (some_last w tree (inner_lines below nodes n.parent p at Nil) (under n.before (put_by (stub_in n.place) (below at n) later))
      (some_under w tree n.before (put_by (stub_in n.place) (below at n) later)
      (subst (SomeBody w tree) (sym (put_joined (doing_by w patterns site main texts) nodes below (line_joined (doing_by w patterns site main texts) nodes levels) (stub_in n.place) at n Nil later))
      (some_first w tree (put_by (stub_in n.place) (below at n) Nil) later h))))
    where
      taken : (q : Place) (f : Line → Line) (line : Line) → takes_up q ≡ true → ahead_line q f line ≡ f line
      taken Row f line e = cc
      taken (Stub stub text) f line e = cc
      taken (Gathers stub text) f line e = refl
      taken (Captured stub text) f line e = refl

-- ---- without what is said of the nodes

module _ (nodes : List Node) where
  pub certain_bytes : (at : ℕ) (n : Node) → gives_bytes n.stage ≡ true → n.asks ≡ None → IsCertain nodes 0 at n
  certain_bytes at n e free = λ w patterns site main texts tree levels deep. placed_some w patterns site main texts tree nodes levels at n e free

  some_of : (text : List ℕ) → has_some text ≡ true → text ≢ []
  some_of [] e = cc
  some_of (b ∷ text) e = λ z. cc

  -- a body or a stub comes of a node that has come to its answer
  pub coming_ended : (at : ℕ) (n : Node) → gives_at n.stage n.place ≡ true → n.asks ≡ None → IsComing nodes 0 at n
  coming_ended at n e free = λ w patterns site main texts tree levels deep. by w patterns site main texts tree levels n.stage refl n.place refl e
    where
      either : (a b : Bool) (A : Type 0) → (a || b) ≡ true → (a ≡ true → A) → (b ≡ true → A) → A
      either true b A e f g = f refl
      either false b A e f g = g e

      by : (w : World) (patterns : List SetPattern) (site : Site) (main : Main) (texts : ℕ → List ℕ) (tree : Tree) (levels : ℕ) (s : Stage) → n.stage ≡ s → (p : Place) → n.place ≡ p → gives_at s p ≡ true →
          SomeBody w tree (put_by (stub_in n.place) (line_from (doing_by w patterns site main texts) nodes levels at n) Nil)
      by w patterns site main texts tree levels (stages.Begins ssi) f p g h = cc
      by w patterns site main texts tree levels (stages.Asks wait ssi) f p g h = cc
      by w patterns site main texts tree levels (stages.Told wait file ssi) f p g h = cc
      by w patterns site main texts tree levels (stages.Places b) f p g h = cc
      by w patterns site main texts tree levels (stages.Serves b) f p g h = cc
      by w patterns site main texts tree levels (stages.Reads b) f p g h = cc
      by w patterns site main texts tree levels (stages.Captures c) f p g h = cc
      by w patterns site main texts tree levels (stages.Ends b) f Row g h = cc
      by w patterns site main texts tree levels (stages.Ends b) f (Stub stub text) g h = cc
      by w patterns site main texts tree levels (stages.Ends b) f (Gathers stub text) g h = cc
      by w patterns site main texts tree levels (stages.Ends b) f (Captured None text) g h =
          subst (λ s. SomeBody w tree (put_by s (line_from (doing_by w patterns site main texts) nodes levels at n) Nil)) (sym (ap stub_in g))
          (withheld_some w patterns site main texts tree nodes levels at n (λ z. some_of text h (sym (ap withheld_text g) ∙ z)) free)
      by w patterns site main texts tree levels (stages.Ends b) f (Captured (Some stub) text) g h =
          let line = line_from (doing_by w patterns site main texts) nodes levels at n Nil in
          subst (λ s. SomeBody w tree (put_by s (line_from (doing_by w patterns site main texts) nodes levels at n) Nil)) (sym (ap stub_in g))
          (either (has_some stub) (has_some text && nat_lt b.value.answered.status 400) (SomeBody w tree (Stubs line stub Nil)) h
          (λ k. some_stub w tree line stub Nil (some_of stub k))
          (λ k. some_kept w tree line stub Nil
          (keeps_line w patterns site main texts tree nodes levels at n (both (ap good f ∙ right_true (has_some text) (nat_lt b.value.answered.status 400) k) (all_answered nodes at n free)))
          (withheld_some w patterns site main texts tree nodes levels at n (λ z. some_of text (left_true (has_some text) (nat_lt b.value.answered.status 400) k) (sym (ap withheld_text g) ∙ z)) free)))
        where
          both : {a b : Bool} → a ≡ true → b ≡ true → (a && b) ≡ true
          both {a} {b} e f = ap (λ x. x && b) e ∙ f

  -- of a node whose bytes come to its parent: it has no stub, or it ends well
  pub coming_bare : (depth at : ℕ) (n : Node) → stub_in n.place ≡ None → IsCertain nodes depth at n → IsComing nodes depth at n
  coming_bare depth at n e h = λ w patterns site main texts tree levels deep.
      subst (λ s. SomeBody w tree (put_by s (line_from (doing_by w patterns site main texts) nodes levels at n) Nil)) (sym e) (h w patterns site main texts tree levels deep)

  pub coming_well : (depth at : ℕ) (n : Node) → ends_well nodes at n ≡ true → IsCertain nodes depth at n → IsComing nodes depth at n
  coming_well depth at n e h = λ w patterns site main texts tree levels deep. by w patterns site main texts tree levels (h w patterns site main texts tree levels deep) (stub_in n.place)
    where
      by : (w : World) (patterns : List SetPattern) (site : Site) (main : Main) (texts : ℕ → List ℕ) (tree : Tree) (levels : ℕ) → SomeBody w tree (line_from (doing_by w patterns site main texts) nodes levels at n Nil) →
          (s : Option (List ℕ)) → SomeBody w tree (put_by s (line_from (doing_by w patterns site main texts) nodes levels at n) Nil)
      by w patterns site main texts tree levels some None = some
      by w patterns site main texts tree levels some (Some stub) =
          some_kept w tree (line_from (doing_by w patterns site main texts) nodes levels at n Nil) stub Nil (keeps_line w patterns site main texts tree nodes levels at n e) some

  -- so the line of its parent has some
  pub certain_above : (depth at : ℕ) (n p : Node) → slice_get nodes at ≡ Some n → nat_lt at most_nodes ≡ true → is_inner n.parent p at n ≡ true → IsComing nodes depth at n → takes_up p.place ≡ true → IsCertain nodes (suc depth) n.parent p
  certain_above depth at n p there few inner h takes = λ w patterns site main texts tree levels deep. by w patterns site main texts tree levels deep
    where
      by : (w : World) (patterns : List SetPattern) (site : Site) (main : Main) (texts : ℕ → List ℕ) (tree : Tree) (levels : ℕ) → suc depth ≤ levels → SomeBody w tree (line_from (doing_by w patterns site main texts) nodes levels n.parent p Nil)
      by w patterns site main texts tree zero deep = absurd (omega (arith, deep))
      by w patterns site main texts tree (suc levels) deep = above_some w patterns site main texts tree nodes levels at n p there few takes inner (h w patterns site main texts tree levels (omega (arith, deep)))

  -- it is shown
  pub is_shown : (depth at : ℕ) (n : Node) (stub : List ℕ) → n.place ≡ Gathers stub [] → waits_well n ≡ true → ends_well nodes at n ≡ true → depth ≤ most_levels → IsCertain nodes depth at n → IsShown nodes at n
  is_shown depth at n stub place waits e deep h = record {
    stub = stub;
    place = place;
    waits = waits;
    keeps = λ w patterns site main texts tree. keeps_line w patterns site main texts tree nodes (suc most_levels) at n e;
    some = λ w patterns site main texts tree. h w patterns site main texts tree (suc most_levels) (omega (arith, deep));
  }

  pub shown_at : (at : ℕ) (n : Node) → slice_get nodes at ≡ Some n → IsShown nodes at n → IsShownAt nodes at
  shown_at at n there h = λ m here. subst (IsShown nodes at) (some_same n m (sym there ∙ here)) h

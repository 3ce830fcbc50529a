-- A node of a family of nodes, and another in its place.
use Rattle.std.proofs.Common.{◌≡◌, ◌≢◌, ◌≤◌, ◌<◌, ℕ, zero, suc, ◌==◌, ◌&&◌, ◌||◌, is_none, nat_lt, Bool, true, false, cond, not, List, [], ◌∷◌, ◌++◌, length, drop, set, slice_get, Option, None, Some, refl, sym, ap, ◌∙◌, subst, unwrap_or, arith}
use Rattle.std.proofs.lemmas.Bool.{eqb-true}
use Rattle.std.proofs.lemmas.Bool.Decides.{nat_tests}
use Rattle.acts.specs.Vars.{Vars}
use Rattle.acts.specs.Act.{Done, Inner}
use Rattle.file_tree.specs.Tree.{Tree, Trees, text_of}
use Rattle.ngx_pattern.specs.Pattern.{Pattern as SetPattern}
use Rattle.ngx_variables.specs.declared.request.Main.{Main}
use Rattle.site_model.specs.declared.site.Site.{Site}
use Rattle.postpone_filter.specs.Row.{Row, is_open, appended, with_child, ended}
use Rattle.request_meaning.specs.Serving.{World, Serving, Answer, Child, Reply}
use Rattle.family_order.specs.family_meaning.Line.Line.{Nil, Gives}
use Rattle.request_meaning.specs.Replies.{script}
use Rattle.node_line.specs.request_phases.declared.state.Phases.{Phases}
use Rattle.family_order.specs.Items.{Stance, stance_by, Family, IsWell, IsWellRow, IsAlike, is_shown, doing, placing, opening, ending}
use Rattle.family_order.specs.Items.Stance.{Going, Apart}
use Rattle.family_order.specs.Laws.{ShowsTheSame}
use Rattle.family_order.proofs.Wells.{step-well}
use Rattle.postpone_filter.specs.Runs.Call.{Append, AddChild, End}
use Rattle.node_line.specs.node_turn.Stages.{IsSameNode, hand_at, withheld_more, node_act, node_heard, text_in, item_asked, is_asking}
use Rattle.subrequests.specs.Families.{IsSound, captured_at, goes_on_at, reads_text, rises_at, with_text, text_at, texts_of}
use Rattle.node_seats.specs.Seats.{Doing, NoInner, doing_by, inner_in, is_asked, is_inner, most_nodes, withheld_text, is_captured, is_heard, is_seated, most_levels, place_stance, row_stance, seen, stance_in, stance_of, stub_in, takes_up}
use Rattle.node_seats.proofs.Besides.{Beside, IsAsMuch, as_much, is_free, same_stance, still_stance}
use Rattle.node_seats.proofs.Besides.Beside.{Neither, Both, Free}
use Rattle.node_seats.proofs.Framing as framing
use Rattle.node_seats.proofs.Located.{StandsAs}
use Rattle.node_seats.proofs.Seated.{IsBare, Replaced, Seated, in_row_is, line_alone, seated}
use Rattle.node_seats.proofs.Stepping as stepping
use Rattle.subrequests.specs.Moved.{SameTexts}
use Rattle.node_line.specs.Stances.{Opening, place_by, stance_at, under}
use Rattle.node_line.specs.node_turn.Nodes.{asked_path, lent, stage_act, stage_heard}
use Rattle.node_line.specs.node_turn.Turns.{TurnsTo, Works, PlacesAs}
use Rattle.node_line.specs.node_turn.declared.node.Node.{Node}
use Rattle.node_line.specs.node_turn.declared.node.Stage.{Stage}
use Rattle.node_line.specs.node_turn.declared.node.Stage.TheVariants as at_stage
use Rattle.family_nodes.proofs.Sets.{get_before, get_kept, get_last, get_none, get_set_same, get_set_other, length_set, length_snoc}
use Rattle.node_line.proofs.Steps as steps
use Rattle.node_line.specs.Stubs.{CameAs, DecidedAs}
use Rattle.node_line.specs.Stubs.CameAs.{Withheld, Joined}
use Rattle.node_line.specs.node_turn.Stages.{is_in_row}
use Rattle.node_line.specs.node_turn.declared.node.Place.{Place}
use Rattle.node_line.specs.node_turn.declared.node.Place.TheVariants.{Row as InRow, Stub, Gathers, Captured}

-- ---- numbers

pub eq_self : (n : ℕ) → (n == n) ≡ true
eq_self n = steps.eq_self n

pub same_number : (j at : ℕ) → (j == at) ≡ true → j ≡ at
same_number j at e = eqb-true j at e

false_true : false ≡ true → ⊥
false_true e = cc

pub other_number : (j at : ℕ) → (j == at) ≡ false → j ≢ at
other_number j at e same = false_true (sym e ∙ ap (λ n. n == at) same ∙ eq_self at)

pub apart_number : (j at : ℕ) → j ≢ at → (j == at) ≡ false
apart_number j at d = by (j == at) refl
  where
    by : (b : Bool) → (j == at) ≡ b → b ≡ false
    by true e = absurd (d (same_number j at e))
    by false e = refl

pub turned_number : (j at : ℕ) → (j == at) ≡ false → (at == j) ≡ false
turned_number j at e = apart_number at j (λ same. other_number j at e (sym same))

pub left_true : (a b : Bool) → (a && b) ≡ true → a ≡ true
left_true true b e = refl
left_true false b e = cc

pub right_true : (a b : Bool) → (a && b) ≡ true → b ≡ true
right_true true b e = e
right_true false b e = cc

-- ---- the text of a node's file

-- what reads no file is the same whatever it has
pub same_heard : (w : World) (patterns : List SetPattern) (site : Site) (p : Phases) (left : ℕ) (path : List ℕ) (s : Stage) (t u : List ℕ) → (reads_text s ≡ true → t ≡ u) →
    (stage_act w patterns site p left path s t ≡ stage_act w patterns site p left path s u) × (stage_heard w patterns site p left path s t ≡ stage_heard w patterns site p left path s u)
same_heard w patterns site p left path (at_stage.Begins ssi) t u e = (refl, refl)
same_heard w patterns site p left path (at_stage.Asks wait ssi) t u e = (refl, refl)
same_heard w patterns site p left path (at_stage.Told wait file ssi) t u e = (ap (stage_act w patterns site p left path (at_stage.Told wait file ssi)) (e refl), ap (stage_heard w patterns site p left path (at_stage.Told wait file ssi)) (e refl))
same_heard w patterns site p left path (at_stage.Places b) t u e = (ap (stage_act w patterns site p left path (at_stage.Places b)) (e refl), ap (stage_heard w patterns site p left path (at_stage.Places b)) (e refl))
same_heard w patterns site p left path (at_stage.Serves b) t u e = (ap (stage_act w patterns site p left path (at_stage.Serves b)) (e refl), ap (stage_heard w patterns site p left path (at_stage.Serves b)) (e refl))
same_heard w patterns site p left path (at_stage.Reads b) t u e = (ap (stage_act w patterns site p left path (at_stage.Reads b)) (e refl), ap (stage_heard w patterns site p left path (at_stage.Reads b)) (e refl))
same_heard w patterns site p left path (at_stage.Captures c) t u e = (ap (stage_act w patterns site p left path (at_stage.Captures c)) (e refl), ap (stage_heard w patterns site p left path (at_stage.Captures c)) (e refl))
same_heard w patterns site p left path (at_stage.Ends a) t u e = (refl, refl)

pub same_text : (trees : Trees) (old new : Node) → (new.ask ≡ old.ask) × (new.start ≡ old.start) → text_in trees old ≡ text_in trees new
same_text trees old new e = ap (λ ask. drop old.start (text_of (item_asked trees ask))) (sym e.0) ∙ ap (λ n. drop n (text_of (item_asked trees new.ask))) (sym e.1)

-- what reads a text doesn't ask for a path
not_asking : (s : Stage) → reads_text s ≡ true → is_asking s ≡ false
not_asking (at_stage.Begins ssi) e = refl
not_asking (at_stage.Asks wait ssi) e = cc
not_asking (at_stage.Told wait file ssi) e = refl
not_asking (at_stage.Places b) e = refl
not_asking (at_stage.Serves b) e = refl
not_asking (at_stage.Reads b) e = refl
not_asking (at_stage.Captures c) e = refl
not_asking (at_stage.Ends a) e = refl

pub kept_text : (trees : Trees) (old new : Node) → (is_asking new.stage ≡ false → (new.ask ≡ old.ask) × (new.start ≡ old.start)) → reads_text new.stage ≡ true → text_in trees old ≡ text_in trees new
kept_text trees old new keeps e = same_text trees old new (keeps (not_asking new.stage e))

-- ---- another node in the place of one

pub replaced : (w : World) (patterns : List SetPattern) (site : Site) (main : Main) (texts texts' : ℕ → List ℕ) (nodes : List Node) (at : ℕ) (old new : Node) → slice_get nodes at ≡ Some old → old.asks ≡ None → new.asks ≡ None →
    ((j : ℕ) → (j == at) ≡ false → texts j ≡ texts' j) → Replaced (doing_by w patterns site main texts) nodes (doing_by w patterns site main texts') (set nodes at new) at old new
replaced w patterns site main texts texts' nodes at old new there none free agree = record {
  there = there;
  then = get_set_same nodes at new old there;
  free = none;
  free_then = free;
  others = λ j e. sym (get_set_other nodes at j new (other_number j at e));
  acts = λ j n e. ap (node_act w patterns site main n) (agree j e);
  heard = λ j n e. ap (λ t reply. node_heard w patterns site main n t reply.body) (agree j e);
}

-- other bytes that are withheld leave a node where it is
pub text_kept : (text : List ℕ) (p : Place) → is_captured (with_text text p) ≡ is_captured p
text_kept text InRow = refl
text_kept text (Stub stub t) = refl
text_kept text (Gathers stub t) = refl
text_kept text (Captured stub t) = refl

pub text_stub : (text : List ℕ) (p : Place) → stub_in (with_text text p) ≡ stub_in p
text_stub text InRow = refl
text_stub text (Stub stub t) = refl
text_stub text (Gathers stub t) = refl
text_stub text (Captured stub t) = refl

pub text_row : (text : List ℕ) (p : Place) → is_in_row (with_text text p) ≡ is_in_row p
text_row text InRow = refl
text_row text (Stub stub t) = refl
text_row text (Gathers stub t) = refl
text_row text (Captured stub t) = refl

pub text_takes : (text : List ℕ) (p : Place) → takes_up (with_text text p) ≡ takes_up p
text_takes text InRow = refl
text_takes text (Stub stub t) = refl
text_takes text (Gathers stub t) = refl
text_takes text (Captured stub t) = refl

-- what takes up bytes isn't in the row
pub takes_apart : (p : Place) → takes_up p ≡ true → is_in_row p ≡ false
takes_apart InRow e = cc
takes_apart (Stub stub t) e = refl
takes_apart (Gathers stub t) e = refl
takes_apart (Captured stub t) e = refl

pub text_then : (text : List ℕ) (p : Place) → takes_up p ≡ true → withheld_text (with_text text p) ≡ text
text_then text InRow e = cc
text_then text (Stub stub t) e = cc
text_then text (Gathers stub t) e = refl
text_then text (Captured stub t) e = refl

pub stands_as : (old new : Node) → new.parent ≡ old.parent → new.place ≡ old.place → new.before ≡ old.before → new.over ≡ old.over → StandsAs old new
stands_as old new parent place before over = record { parent = parent; captured = ap is_captured place; stub = ap stub_in place; row = ap is_in_row place; takes = ap takes_up place; before = before; over = over }

-- where more bytes of it are withheld
pub holds_as : (old new : Node) (bytes : List ℕ) → new.parent ≡ old.parent → new.place ≡ withheld_more bytes old.place → new.before ≡ old.before → new.over ≡ old.over → StandsAs old new
holds_as old new bytes parent place before over =
    let is = by old.place in
    record { parent = parent; captured = ap is_captured place ∙ is.0; stub = ap stub_in place ∙ is.1; row = ap is_in_row place ∙ is.2; takes = ap takes_up place ∙ is.3; before = before; over = over }
  where
    by : (p : Place) → (is_captured (withheld_more bytes p) ≡ is_captured p) × (stub_in (withheld_more bytes p) ≡ stub_in p) × (is_in_row (withheld_more bytes p) ≡ is_in_row p) × (takes_up (withheld_more bytes p) ≡ takes_up p)
    by InRow = (refl, refl, refl, refl)
    by (Stub stub text) = (refl, refl, refl, refl)
    by (Gathers stub text) = (refl, refl, refl, refl)
    by (Captured stub text) = (refl, refl, refl, refl)

pub others_kept : (nodes : List Node) (at : ℕ) (new : Node) (j : ℕ) → (j == at) ≡ false → slice_get nodes j ≡ slice_get (set nodes at new) j
others_kept nodes at new j e = sym (get_set_other nodes at j new (other_number j at e))

pub free_then : (nodes : List Node) (at : ℕ) (old new : Node) → slice_get nodes at ≡ Some old → is_captured new.place ≡ false → is_free (slice_get (set nodes at new) at) ≡ true
free_then nodes at old new there free = ap is_free (get_set_same nodes at new old there) ∙ ap not free

-- ---- a node that may go on

levels_are : (nodes : List Node) (at : ℕ) (n : Node) → is_heard most_levels nodes at n ≡ true → is_heard most_levels nodes at n ≡ true
unfolding most_levels
levels_are nodes at n e = e

-- a node that may go on waits for no reply
pub asks_none : (nodes : List Node) (at : ℕ) (old : Node) → slice_get nodes at ≡ Some old → is_seated nodes at (slice_get nodes at) ≡ true → old.asks ≡ None
asks_none nodes at old there e = none_of old.asks (left_true (is_none old.asks) (is_heard most_levels nodes at old) (sym (ap (is_seated nodes at) there) ∙ e))
  where
    none_of : (o : Option ℕ) → is_none o ≡ true → o ≡ None
    none_of None f = refl
    none_of (Some c) f = cc

-- and where its bytes come to another, that waits for them
pub heard_above : (nodes : List Node) (at : ℕ) (old : Node) → slice_get nodes at ≡ Some old → is_seated nodes at (slice_get nodes at) ≡ true → is_heard most_levels nodes at old ≡ true
heard_above nodes at old there e = levels_are nodes at old (right_true (is_none old.asks) (is_heard most_levels nodes at old) (sym (ap (is_seated nodes at) there) ∙ e))

pub not_over : (row : Row) (nodes : List Node) (at : ℕ) (old : Node) → slice_get nodes at ≡ Some old → IsSound row nodes → is_open at row.pieces ≡ true → old.over ≡ false
not_over row nodes at old there sound goes_on = by old.over (ap goes_on_at (sym there) ∙ sym (sound.going at) ∙ goes_on)
  where
    by : (b : Bool) → not b ≡ true → b ≡ false
    by true e = cc
    by false e = refl

-- the node of another number that goes on has a place in the row
pub open_there : (row : Row) (nodes : List Node) (h : ℕ) (host : Node) → slice_get nodes h ≡ Some host → host.over ≡ false → IsSound row nodes → is_open h row.pieces ≡ true
open_there row nodes h host there goes_on sound = sound.going h ∙ ap goes_on_at there ∙ ap not goes_on

-- the next number is of no node that is there
pub next_number : (row : Row) (nodes : List Node) (h : ℕ) (host : Node) → slice_get nodes h ≡ Some host → IsSound row nodes → (row.nodes == h) ≡ false
next_number row nodes h host there sound = by (row.nodes == h) refl
  where
    none_some : (x : Node) → None ≡ Some x → ⊥
    none_some x e = cc

    by : (b : Bool) → (row.nodes == h) ≡ b → b ≡ false
    by true e = absurd (none_some host (sym (get_none nodes) ∙ ap (slice_get nodes) (sym sound.count ∙ same_number row.nodes h e) ∙ there))
    by false e = refl

-- the seat of a node that may go on
pub its_seat : (w : World) (patterns : List SetPattern) (site : Site) (main : Main) (row : Row) (nodes : List Node) (texts : ℕ → List ℕ) (at : ℕ) (old : Node) → slice_get nodes at ≡ Some old →
    IsSound row nodes → is_open at row.pieces ≡ true → is_seated nodes at (slice_get nodes at) ≡ true → Seated most_levels (doing_by w patterns site main texts) nodes at old
its_seat w patterns site main row nodes texts at old there sound goes_on e =
    seated most_levels (doing_by w patterns site main texts) nodes at old there (asks_none nodes at old there e) (not_over row nodes at old there sound goes_on) (heard_above nodes at old there e)

pub seat_open : (w : World) (patterns : List SetPattern) (site : Site) (main : Main) (row : Row) (nodes : List Node) (texts : ℕ → List ℕ) (at : ℕ) (old : Node) → IsSound row nodes →
    (s : Seated most_levels (doing_by w patterns site main texts) nodes at old) → is_open s.h row.pieces ≡ true
seat_open w patterns site main row nodes texts at old sound s = open_there row nodes s.h s.host s.there s.goes_on sound

pub seat_and_open : (w : World) (patterns : List SetPattern) (site : Site) (main : Main) (row : Row) (nodes : List Node) (texts : ℕ → List ℕ) (at : ℕ) (old : Node) → slice_get nodes at ≡ Some old →
    IsSound row nodes → is_open at row.pieces ≡ true → is_seated nodes at (slice_get nodes at) ≡ true → (s : Seated most_levels (doing_by w patterns site main texts) nodes at old) × (is_open s.h row.pieces ≡ true)
seat_and_open w patterns site main row nodes texts at old there sound goes_on e =
    let s = its_seat w patterns site main row nodes texts at old there sound goes_on e in
    (s, seat_open w patterns site main row nodes texts at old sound s)

-- ---- subrequests whose bytes come to a node

none_some_node : (x : Node) → None ≡ Some x → ⊥
none_some_node x e = cc

pub less_of : (a b : ℕ) → nat_lt a b ≡ true → a < b
less_of a b e = grind (arith, nat_tests, e)

pub past_end : (nodes : List Node) (c : ℕ) → length nodes ≤ c → slice_get nodes c ≡ None
past_end [] c h = refl
past_end (n ∷ nodes) zero h = absurd (omega (arith, h))
past_end (n ∷ nodes) (suc c) h = past_end nodes c (omega (arith, h))

pub in_most : (number : ℕ) → number < 1001 → nat_lt number most_nodes ≡ true
unfolding most_nodes
in_most number few = grind (arith, nat_tests, few)

-- the last node has none
pub bare_last : (nodes : List Node) (number : ℕ) (n : Node) → length nodes ≡ suc number → IsBare nodes number n
bare_last nodes number n size c m there = by (nat_lt number c) refl
  where
    none : (a b : Bool) → (a && (b && false)) ≡ false
    none false b = refl
    none true false = refl
    none true true = refl

    by : (b : Bool) → nat_lt number c ≡ b → is_inner number n c m ≡ false
    by true e = let h = less_of number c e in absurd (none_some_node m (sym (past_end nodes c (omega (arith, h, size))) ∙ there))
    by false e = ap (λ b. is_captured m.place && ((m.parent == number) && (b && (not m.over && not (is_asked c n.asks))))) e ∙ none (is_captured m.place) (m.parent == number)

-- so it is of one that was found to have none
pub bare_found : (nodes : List Node) (at : ℕ) (n : Node) → slice_get nodes at ≡ Some n → length nodes ≤ 1001 → NoInner nodes at 0 most_nodes → IsBare nodes at n
unfolding most_nodes
bare_found nodes at n here few none c m there = by (nat_lt c 1001) refl
  where
    least : (k : ℕ) → 0 ≤ k
    least k = omega arith

    more : nat_lt c 1001 ≡ false → 1001 ≤ c
    more e = grind (arith, nat_tests, e)

    by : (b : Bool) → nat_lt c 1001 ≡ b → is_inner at n c m ≡ false
    by true e = sym (ap (λ o. inner_in at o c (slice_get nodes c)) here ∙ ap (inner_in at (Some n) c) there) ∙ none c (least c) (less_of c 1001 e)
    by false e = let h = more e in absurd (none_some_node m (sym (past_end nodes c (omega (arith, h, few))) ∙ there))

-- ---- steps of a node in its seat

module _ (laws : ShowsTheSame) (w : World) (patterns : List SetPattern) (site : Site) (main : Main) (row : Row) (nodes : List Node) (texts : ℕ → List ℕ) (at : ℕ) (old : Node)
    (there : slice_get nodes at ≡ Some old) (sound : IsSound row nodes) (goes_on : is_open at row.pieces ≡ true) (seat : is_seated nodes at (slice_get nodes at) ≡ true) (tree : Tree) (vars : Vars) where
  abbrev before : Family
  before = seen w patterns site main row nodes texts

  abbrev pub act : Node → Serving Answer
  act n = node_act w patterns site main n (texts at)

  s : Seated most_levels (doing_by w patterns site main texts) nodes at old
  s = its_seat w patterns site main row nodes texts at old there sound goes_on seat

  h_open : is_open (its_seat w patterns site main row nodes texts at old there sound goes_on seat).h row.pieces ≡ true
  h_open = seat_open w patterns site main row nodes texts at old sound (its_seat w patterns site main row nodes texts at old there sound goes_on seat)

  put : (new : Node) → new.asks ≡ old.asks → Replaced (doing_by w patterns site main texts) nodes (doing_by w patterns site main texts) (set nodes at new) at old new
  put new asks = replaced w patterns site main texts texts nodes at old new there (asks_none nodes at old there seat) (asks ∙ asks_none nodes at old there seat) (λ j e. refl)

  pub turned : (vars' : Vars) (new : Node) → IsSameNode old new → new.place ≡ old.place → TurnsTo vars vars' (act old) (act new) →
      Opening w tree 0 before vars (seen w patterns site main row (set nodes at new) texts) vars'
  turned vars' new same place acts =
      stepping.turned laws w patterns site main row nodes texts at old (its_seat w patterns site main row nodes texts at old there sound goes_on seat)
      tree vars h_open (set nodes at new) new (put new same.asks) (stands_as old new same.parent place same.before same.over) same.left place vars' acts

  pub worked : (new : Node) → IsSameNode old new → new.place ≡ old.place → Works vars (act old) (act new) →
      Opening w tree 0 before vars (seen w patterns site main row (set nodes at new) texts) vars
  worked new same place acts =
      stepping.worked laws w patterns site main row nodes texts at old (its_seat w patterns site main row nodes texts at old there sound goes_on seat)
      tree vars h_open (set nodes at new) new (put new same.asks) (stands_as old new same.parent place same.before same.over) same.left place acts

  -- what is said of the others where neither it nor the other come to another
  pub others_same : (nodes' : List Node) → is_captured old.place ≡ false → ((j : ℕ) → (j == at) ≡ false → slice_get nodes j ≡ slice_get nodes' j) → is_free (slice_get nodes' at) ≡ true →
      (j : ℕ) → (j == at) ≡ false → (before).stance j ≡ stance_in (doing_by w patterns site main texts) nodes' most_levels j
  others_same nodes' free others free_then j e =
      still_stance (doing_by w patterns site main texts) nodes (doing_by w patterns site main texts) nodes' (λ i. by i (i == at) refl) most_levels j (others j e)
      (λ n f. as_much (doing_by w patterns site main texts) (doing_by w patterns site main texts) j n refl refl)
    where
      either : (i : ℕ) (o : Option Node) → slice_get nodes i ≡ o → slice_get nodes' i ≡ o → Beside (doing_by w patterns site main texts) (doing_by w patterns site main texts) i (slice_get nodes i) (slice_get nodes' i)
      either i None f g = Neither f g
      either i (Some n) f g = Both n n f g (as_much (doing_by w patterns site main texts) (doing_by w patterns site main texts) i n refl refl)

      by : (i : ℕ) (b : Bool) → (i == at) ≡ b → Beside (doing_by w patterns site main texts) (doing_by w patterns site main texts) i (slice_get nodes i) (slice_get nodes' i)
      by i true f = Free (ap (λ k. is_free (slice_get nodes k)) (same_number i at f) ∙ ap is_free there ∙ ap not free) (ap (λ k. is_free (slice_get nodes' k)) (same_number i at f) ∙ free_then)
      by i false f = either i (slice_get nodes i) refl (sym (others i f))

  -- bytes of it come that aren't placed at once
  pub came : (row' : Row) (new : Node) → IsSameNode old new → is_in_row old.place ≡ false → ((j : ℕ) → is_open j row'.pieces ≡ is_open j row.pieces) → IsWell before →
      CameAs at row row' old new → Opening w tree 0 before vars (seen w patterns site main row' (set nodes at new) texts) vars
  came row' new same apart opened well (Withheld rows place acts) =
      subst (λ (r : Row). Opening w tree 0 before vars (seen w patterns site main r (set nodes at new) texts) vars) (sym rows)
      (stepping.withheld laws w patterns site main row nodes texts at old (its_seat w patterns site main row nodes texts at old there sound goes_on seat)
      tree vars h_open (set nodes at new) new (put new same.asks) (holds_as old new (hand_at old.stage) same.parent place same.before same.over) same.left apart place (acts w patterns site main (texts at)))
  came row' new same apart opened well (Joined stub some any was place rows acts good) =
      let f = placing at some before in
      let after = stance_in (doing_by w patterns site main texts) (set nodes at new) most_levels in
      let free = ap is_captured was in
      let end : Stance = Going old.left (act new) in
      steps.alike (framing.begins laws w patterns site main row nodes texts at (Apart (under [] (Gives at old.left (act old) Nil)) stub) begun)
      (steps.then (steps.joins_row w tree laws at old.left before goes_on stub some (act old) (act new) vars (acts w patterns site main (texts at)) any (good w patterns site main (texts at)) well
      (ap (λ (r : Row). is_open at r.pieces) (sym rows) ∙ opened at ∙ goes_on))
      (subst (λ (r : Row). Opening w tree 0 (doing at (Going old.left (act new)) (placing at some before)) vars (seen w patterns site main r (set nodes at new) texts) vars) (sym rows)
      (steps.alike (laws.others (doing at end f) after (λ j e. by j (j == at) refl)) steps.stays)))
    where
      begun : stance_in (doing_by w patterns site main texts) nodes most_levels at ≡ Apart (under [] (Gives at old.left (node_act w patterns site main old (texts at)) Nil)) stub
      begun =
          ap (stance_of (doing_by w patterns site main texts) nodes most_levels at) there
          ∙ ap (place_stance (doing_by w patterns site main texts) nodes most_levels at old) was
          ∙ ap (λ line. Apart line stub) (line_alone (doing_by w patterns site main texts) nodes (suc most_levels) at old Nil (asks_none nodes at old there seat) (ap takes_up was)
          ∙ ap (λ p. under (withheld_text p) (Gives at old.left (node_act w patterns site main old (texts at)) Nil)) was)

      by : (j : ℕ) (b : Bool) → (j == at) ≡ b → cond b (Going old.left (node_act w patterns site main new (texts at))) (stance_in (doing_by w patterns site main texts) nodes most_levels j)
          ≡ stance_in (doing_by w patterns site main texts) (set nodes at new) most_levels j
      by j true e =
          ap (λ l. Going l (node_act w patterns site main new (texts at))) (sym same.left)
          ∙ sym (ap (stance_in (doing_by w patterns site main texts) (set nodes at new) most_levels) (same_number j at e)
          ∙ in_row_is (doing_by w patterns site main texts) (set nodes at new) most_levels at new (get_set_same nodes at new old there) place (same.asks ∙ asks_none nodes at old there seat))
      by j false e =
          others_same (set nodes at new) (ap is_captured was) (others_kept nodes at new) (free_then nodes at old new there (ap is_captured place)) j e

  -- ---- a node in the row that opens a subrequest, or is over

  pub row_begins : old.place ≡ InRow → IsAlike before (doing at (Going old.left (act old)) before)
  row_begins here = framing.begins laws w patterns site main row nodes texts at (Going old.left (act old)) (in_row_is (doing_by w patterns site main texts) nodes most_levels at old there here (asks_none nodes at old there seat))

  -- bytes of it are placed
  pub placed : (some : List ℕ) (new : Node) → IsSameNode old new → old.place ≡ InRow → new.place ≡ old.place → is_open at (appended at some row).pieces ≡ true →
      PlacesAs some (act old) (act new) → Opening w tree 0 before vars (seen w patterns site main (appended at some row) (set nodes at new) texts) vars
  placed some new same here place goes_on' acts =
      let f = placing at some before in
      let end : Stance = Going old.left (act new) in
      steps.alike (row_begins here)
      (steps.then (steps.places w tree laws at old.left before goes_on some (act old) (act new) vars acts goes_on')
      (steps.alike (laws.others (doing at end f) (stance_in (doing_by w patterns site main texts) (set nodes at new) most_levels) (λ j e. by j (j == at) refl)) steps.stays))
    where
      by : (j : ℕ) (b : Bool) → (j == at) ≡ b → cond b (Going old.left (node_act w patterns site main new (texts at))) (stance_in (doing_by w patterns site main texts) nodes most_levels j)
          ≡ stance_in (doing_by w patterns site main texts) (set nodes at new) most_levels j
      by j true e =
          ap (λ l. Going l (node_act w patterns site main new (texts at))) (sym same.left)
          ∙ sym (ap (stance_in (doing_by w patterns site main texts) (set nodes at new) most_levels) (same_number j at e)
          ∙ in_row_is (doing_by w patterns site main texts) (set nodes at new) most_levels at new (get_set_same nodes at new old there) (place ∙ here) (same.asks ∙ asks_none nodes at old there seat))
      by j false e =
          others_same (set nodes at new) (ap is_captured here) (others_kept nodes at new) (free_then nodes at old new there (ap is_captured (place ∙ here))) j e

  -- it is over
  pub over : (answer : Answer) (nodes' : List Node) → old.place ≡ InRow → act old ≡ Done answer → at ≢ 0 →
      ((j : ℕ) → (j == at) ≡ false → (before).stance j ≡ stance_in (doing_by w patterns site main texts) nodes' most_levels j) →
      ((j : ℕ) → is_open j (ended at row).pieces ≡ cond (j == at) false (is_open j row.pieces)) →
      Opening w tree 0 before vars (seen w patterns site main (ended at row) nodes' texts) vars
  over answer nodes' here done child others closed =
      let after = seen w patterns site main (ended at row) nodes' texts in
      steps.alike (row_begins here)
      (subst (λ m. Opening w tree 0 (doing at (Going old.left m) before) vars after vars) (sym done)
      (steps.over w tree laws at old.left before goes_on answer vars after child
      (laws.others (ending at (doing at (Going old.left (Done answer)) before)) after.stance (λ j e. by j (j == at) refl (sym (closed j) ∙ e)))))
    where
      by : (j : ℕ) (b : Bool) → (j == at) ≡ b → cond b false (is_open j row.pieces) ≡ true →
          cond b (Going old.left (Done answer)) (stance_in (doing_by w patterns site main texts) nodes most_levels j) ≡ stance_in (doing_by w patterns site main texts) nodes' most_levels j
      by j true e f = absurd (false_true f)
      by j false e f = others j e

  -- so too where its stub is in its place
  pub decided : (answer : Answer) (row' : Row) (nodes' : List Node) (new : Node) → DecidedAs at row row' old new → act old ≡ Done answer → at ≢ 0 →
      ((j : ℕ) → (j == at) ≡ false → (before).stance j ≡ stance_in (doing_by w patterns site main texts) nodes' most_levels j) →
      ((j : ℕ) → is_open j row'.pieces ≡ cond (j == at) false (is_open j row.pieces)) →
      Opening w tree 0 before vars (seen w patterns site main row' nodes' texts) vars
  decided answer row' nodes' new d done child others closed =
      let after = seen w patterns site main row' nodes' texts in
      let stub = d.stub in
      let text = d.is.text in
      let stance : Stance = Apart (under text (Gives at old.left (Done answer) Nil)) stub in
      let f = ending at (placing at stub (doing at stance before)) in
      steps.alike (framing.begins laws w patterns site main row nodes texts at stance begun)
      (steps.decided w tree laws at old.left before goes_on stub text answer vars after (d.is.chosen w patterns site main (texts at) answer done) child
      (subst (λ (r : Row). IsAlike f (record { row = r; output = []; stance = after.stance; root = 0 })) (sym d.row)
      (laws.others f after.stance (λ j e. by j (j == at) refl (sym (closed j) ∙ ap (λ (r : Row). is_open j r.pieces) d.row ∙ e)))))
    where
      begun : stance_in (doing_by w patterns site main texts) nodes most_levels at ≡ Apart (under d.is.text (Gives at old.left (Done answer) Nil)) d.stub
      begun =
          ap (stance_of (doing_by w patterns site main texts) nodes most_levels at) there
          ∙ ap (place_stance (doing_by w patterns site main texts) nodes most_levels at old) d.is.place
          ∙ ap (λ line. Apart line d.stub) (line_alone (doing_by w patterns site main texts) nodes (suc most_levels) at old Nil (asks_none nodes at old there seat) (ap takes_up d.is.place)
          ∙ ap (λ p. under (withheld_text p) (Gives at old.left (node_act w patterns site main old (texts at)) Nil)) d.is.place
          ∙ ap (λ m. under d.is.text (Gives at old.left m Nil)) done)

      by : (j : ℕ) (b : Bool) → (j == at) ≡ b → cond b false (is_open j row.pieces) ≡ true →
          cond b (Apart (under d.is.text (Gives at old.left (Done answer) Nil)) d.stub) (stance_in (doing_by w patterns site main texts) nodes most_levels j) ≡ stance_in (doing_by w patterns site main texts) nodes' most_levels j
      by j true e f = absurd (false_true f)
      by j false e f = others j e

-- ---- a subrequest in the row opens

module _ (laws : ShowsTheSame) (w : World) (patterns : List SetPattern) (site : Site) (main : Main) (row : Row) (nodes : List Node) (texts : ℕ → List ℕ) (at : ℕ) (old : Node)
    (there : slice_get nodes at ≡ Some old) (none : old.asks ≡ None) (tree : Tree) (vars : Vars) (goes_on : is_open at row.pieces ≡ true) where
  abbrev family : Family
  family = seen w patterns site main row nodes texts

  abbrev does_so : Node → Serving Answer
  does_so n = node_act w patterns site main n (texts at)

  abbrev does : Doing
  does = doing_by w patterns site main texts

  -- the others are told of as before where one more is after them
  others_more : (new member : Node) → is_captured old.place ≡ false → is_captured new.place ≡ false → is_captured member.place ≡ false → (j : ℕ) → (j == at) ≡ false → (j == length nodes) ≡ false →
      family.stance j ≡ stance_in (doing_by w patterns site main texts) (set nodes at new ++ member ∷ []) most_levels j
  others_more new member was is more j e f =
      still_stance (doing_by w patterns site main texts) nodes (doing_by w patterns site main texts) (set nodes at new ++ member ∷ []) (λ i. by i (i == at) (i == length nodes) refl refl) most_levels j (same j e f)
      (λ n g. as_much (doing_by w patterns site main texts) (doing_by w patterns site main texts) j n refl refl)
    where
      same : (i : ℕ) → (i == at) ≡ false → (i == length nodes) ≡ false → slice_get nodes i ≡ slice_get (set nodes at new ++ member ∷ []) i
      same i g h =
          sym (get_set_other nodes at i new (other_number i at g))
          ∙ sym (get_before (set nodes at new) member i (other_number i (length (set nodes at new)) (ap (λ n. i == n) (length_set nodes at new) ∙ h)))

      either : (i : ℕ) (o : Option Node) → slice_get nodes i ≡ o → slice_get (set nodes at new ++ member ∷ []) i ≡ o →
          Beside (doing_by w patterns site main texts) (doing_by w patterns site main texts) i (slice_get nodes i) (slice_get (set nodes at new ++ member ∷ []) i)
      either i None g h = Neither g h
      either i (Some n) g h = Both n n g h (as_much (doing_by w patterns site main texts) (doing_by w patterns site main texts) i n refl refl)

      by : (i : ℕ) (a b : Bool) → (i == at) ≡ a → (i == length nodes) ≡ b →
          Beside (doing_by w patterns site main texts) (doing_by w patterns site main texts) i (slice_get nodes i) (slice_get (set nodes at new ++ member ∷ []) i)
      by i true b g h =
          Free (ap (λ k. is_free (slice_get nodes k)) (same_number i at g) ∙ ap is_free there ∙ ap not was)
          (ap (λ k. is_free (slice_get (set nodes at new ++ member ∷ []) k)) (same_number i at g) ∙ ap is_free (get_kept (set nodes at new) (member ∷ []) at new (get_set_same nodes at new old there)) ∙ ap not is)
      by i false true g h =
          Free (ap (λ k. is_free (slice_get nodes k)) (same_number i (length nodes) h) ∙ ap is_free (get_none nodes))
          (ap (λ k. is_free (slice_get (set nodes at new ++ member ∷ []) k)) (same_number i (length nodes) h ∙ sym (length_set nodes at new)) ∙ ap is_free (get_last (set nodes at new) member) ∙ ap not more)
      by i false false g h = either i (slice_get nodes i) refl (sym (same i g h))

  -- what is said of the new one
  member_is : (nodes' : List Node) (number : ℕ) (stub : Option (List ℕ)) (member : Node) (l : ℕ) (m : Serving Answer) → slice_get nodes' number ≡ Some member → member.left ≡ l → member.place ≡ place_by stub → member.asks ≡ None →
      node_act w patterns site main member (texts number) ≡ m → stance_at number (place_by stub) l m ≡ stance_in (doing_by w patterns site main texts) nodes' most_levels number
  member_is nodes' number stub member l m here left place alone act =
      sym (ap (stance_of (doing_by w patterns site main texts) nodes' most_levels number) here ∙ ap (place_stance (doing_by w patterns site main texts) nodes' most_levels number member) place ∙ by stub
      ∙ ap (λ n. stance_at number (place_by stub) n (node_act w patterns site main member (texts number))) left ∙ ap (stance_at number (place_by stub) l) act)
    where
      by : (s : Option (List ℕ)) → place_stance (doing_by w patterns site main texts) nodes' most_levels number member (place_by s) ≡ stance_at number (place_by s) member.left (node_act w patterns site main member (texts number))
      by None = ap (row_stance (doing_by w patterns site main texts) nodes' most_levels number member) alone
      by (Some text) =
          ap (λ line. Apart line text) (line_alone (doing_by w patterns site main texts) nodes' (suc most_levels) number member Nil alone (ap takes_up place ∙ free_place stub)
          ∙ ap (λ t. under t (Gives number member.left (node_act w patterns site main member (texts number)) Nil)) (withheld place))
        where
          free_place : (o : Option (List ℕ)) → takes_up (place_by o) ≡ false
          free_place None = refl
          free_place (Some t) = refl

          withheld : member.place ≡ place_by stub → withheld_text member.place ≡ []
          withheld e = ap withheld_text e ∙ none_withheld stub
            where
              none_withheld : (o : Option (List ℕ)) → withheld_text (place_by o) ≡ []
              none_withheld None = refl
              none_withheld (Some t) = refl

  -- a subrequest opens; the node and the new one are told by what they do
  pub opened : (child : Child) (l : ℕ) (new member : Node) → old.left ≡ suc l → old.place ≡ InRow → new.place ≡ InRow → new.asks ≡ None → new.left ≡ old.left →
      does_so new ≡ does_so old → member.left ≡ l → member.place ≡ place_by child.stub → member.asks ≡ None → ((text : List ℕ) → node_act w patterns site main member text ≡ script w l child) →
      row.nodes ≡ length nodes →
      Opening w tree 1 (doing at (Going old.left (Inner child (does_so old))) family) vars
      (seen w patterns site main (with_child at row) (set nodes at new ++ member ∷ []) texts) vars
  opened child l new member deep was here free same acts left place alone script_is count =
      let m = does_so old in
      let after = seen w patterns site main (with_child at row) (set nodes at new ++ member ∷ []) texts in
      subst (λ n. Opening w tree 1 (doing at (Going n (Inner child m)) family) vars after vars) (sym deep)
      (steps.opens w tree laws at l family goes_on child m vars after
      (laws.others (doing at (Going (suc l) m) (opening at (stance_by child.stub w row.nodes l child) (doing at (Going (suc l) (Inner child m)) family))) after.stance (λ j e. by j (j == at) (j == row.nodes) refl refl)))
    where
      not_captured : (s : Option (List ℕ)) → is_captured (place_by s) ≡ false
      not_captured None = refl
      not_captured (Some stub) = refl

      nodes' : List Node
      nodes' = set nodes at new ++ member ∷ []

      by : (j : ℕ) (b c : Bool) → (j == at) ≡ b → (j == row.nodes) ≡ c →
          cond b (Going (suc l) (does_so old)) (cond c (stance_by child.stub w row.nodes l child) (cond b (Going (suc l) (Inner child (does_so old))) (family.stance j)))
          ≡ stance_in (doing_by w patterns site main texts) (set nodes at new ++ member ∷ []) most_levels j
      by j true c e f =
          ap (λ n. Going n (does_so old)) (sym (same ∙ deep)) ∙ ap (λ x. Going new.left x) (sym acts)
          ∙ sym (ap (stance_in (doing_by w patterns site main texts) (set nodes at new ++ member ∷ []) most_levels) (same_number j at e)
          ∙ in_row_is (doing_by w patterns site main texts) (set nodes at new ++ member ∷ []) most_levels at new (get_kept (set nodes at new) (member ∷ []) at new (get_set_same nodes at new old there)) here free)
      by j false true e f =
          steps.begun_so w tree laws at l family goes_on row.nodes child
          ∙ member_is (set nodes at new ++ member ∷ []) row.nodes child.stub member l (script w l child) (ap (slice_get (set nodes at new ++ member ∷ [])) (count ∙ sym (length_set nodes at new)) ∙ get_last (set nodes at new) member) left place alone (script_is (texts row.nodes))
          ∙ ap (stance_in (doing_by w patterns site main texts) (set nodes at new ++ member ∷ []) most_levels) (sym (same_number j row.nodes f))
      by j false false e f =
          others_more new member (ap is_captured was) (ap is_captured here) (ap is_captured place ∙ not_captured child.stub) j e (ap (λ n. j == n) (sym count) ∙ f)

-- ---- rows

pub appended_well : (row row' : Row) (at : ℕ) (some : List ℕ) → IsWellRow 0 row → row' ≡ appended at some row → IsWellRow 0 row'
appended_well row row' at some well e = subst (IsWellRow 0) (sym e) (step-well 0 (Append at some) row well tt)

pub child_well : (row row' : Row) (at : ℕ) → IsWellRow 0 row → row' ≡ with_child at row → IsWellRow 0 row'
child_well row row' at well e = subst (IsWellRow 0) (sym e) (step-well 0 (AddChild at) row well tt)

pub ended_well : (row row' : Row) (at : ℕ) → IsWellRow 0 row → at ≢ 0 → row' ≡ ended at row → IsWellRow 0 row'
ended_well row row' at well child e = subst (IsWellRow 0) (sym e) (step-well 0 (End at) row well child)

pub came_well : (row row' : Row) (at : ℕ) (old new : Node) → IsWellRow 0 row → CameAs at row row' old new → IsWellRow 0 row'
came_well row row' at old new well (Withheld rows place acts) = subst (IsWellRow 0) (sym rows) well
came_well row row' at old new well (Joined stub some any was is rows acts good) = appended_well row row' at some well rows

pub came_nodes : (row row' : Row) (at : ℕ) (old new : Node) → CameAs at row row' old new → row'.nodes ≡ row.nodes
came_nodes row row' at old new (Withheld rows place acts) = ap (λ (r : Row). r.nodes) rows
came_nodes row row' at old new (Joined stub some any was is rows acts good) = ap (λ (r : Row). r.nodes) rows

pub came_kept : (row row' : Row) (at : ℕ) (old new : Node) → CameAs at row row' old new → is_captured new.place ≡ is_captured old.place
came_kept row row' at old new (Withheld rows place acts) = ap is_captured place ∙ by old.place
  where
    by : (p : Place) → is_captured (withheld_more (hand_at old.stage) p) ≡ is_captured p
    by InRow = refl
    by (Stub stub text) = refl
    by (Gathers stub text) = refl
    by (Captured stub text) = refl
came_kept row row' at old new (Joined stub some any was is rows acts good) = ap is_captured is ∙ sym (ap is_captured was)

pub decided_well : (row row' : Row) (at : ℕ) (old new : Node) → IsWellRow 0 row → at ≢ 0 → DecidedAs at row row' old new → IsWellRow 0 row'
decided_well row row' at old new well child d = ended_well (appended at d.stub row) row' at (appended_well row (appended at d.stub row) at d.stub well refl) child d.row

-- the bytes of the first node come to no other
pub first_free : (nodes : List Node) → rises_at 0 (slice_get nodes 0) ≡ true → captured_at (slice_get nodes 0) ≡ false
first_free [] e = refl
first_free (n ∷ nodes) e = by (is_captured n.place) refl
  where
    less_none : (a : ℕ) → nat_lt a 0 ≡ false
    less_none a = grind (arith, nat_tests)

    by : (b : Bool) → is_captured n.place ≡ b → b ≡ false
    by false f = refl
    by true f = absurd (false_true (sym (ap (λ b. not b || nat_lt n.parent 0) f ∙ less_none n.parent) ∙ e))

-- a family whose main request goes on is well
pub seen_well : (w : World) (patterns : List SetPattern) (site : Site) (main : Main) (row : Row) (nodes : List Node) (texts : ℕ → List ℕ) → IsSound row nodes → IsWell (seen w patterns site main row nodes texts)
seen_well w patterns site main row nodes texts s = record { row_is = s.well; root_is_shown = by nodes (first_free nodes (s.rises 0)) (sym (s.going 0) ∙ s.well.root_goes_on) }
  where
    in_row : (ns : List Node) (n : Node) (asks : Option ℕ) → is_shown (row_stance (doing_by w patterns site main texts) ns most_levels 0 n asks) ≡ true
    in_row ns n None = refl
    in_row ns n (Some c) = refl

    shown : (ns : List Node) (n : Node) (place : Place) → is_captured place ≡ false → is_shown (place_stance (doing_by w patterns site main texts) ns most_levels 0 n place) ≡ true
    shown ns n InRow e = in_row ns n n.asks
    shown ns n (Stub stub text) e = refl
    shown ns n (Gathers stub text) e = refl
    shown ns n (Captured stub text) e = cc

    by : (ns : List Node) → captured_at (slice_get ns 0) ≡ false → goes_on_at (slice_get ns 0) ≡ true → is_shown (stance_in (doing_by w patterns site main texts) ns most_levels 0) ≡ true
    by [] e f = cc
    by (n ∷ ns) e f = shown (n ∷ ns) n n.place e

-- ---- a node that is told of an end

-- A node that has other subrequests, or waits for the end of another, says the same.
pub told_same : (w : World) (patterns : List SetPattern) (site : Site) (main : Main) (nodes : List Node) (texts : ℕ → List ℕ) (at : ℕ) (old : Node) (children : ℕ) (waits : Option ℕ) (j : ℕ) → slice_get nodes at ≡ Some old →
    stance_in (doing_by w patterns site main texts) nodes most_levels j ≡ stance_in (doing_by w patterns site main texts) (set nodes at (record old { children = children; waits = waits })) most_levels j
told_same w patterns site main nodes texts at old children waits j there = stance (j == at) refl
  where
    new : Node
    new = record old { children = children; waits = waits }

    nodes' : List Node
    nodes' = set nodes at (record old { children = children; waits = waits })

    does : Doing
    does = doing_by w patterns site main texts

    much : (i : ℕ) → IsAsMuch (doing_by w patterns site main texts) (doing_by w patterns site main texts) i old (record old { children = children; waits = waits })
    much i = record { place = refl; parent = refl; left = refl; asks = refl; before = refl; over = refl; capturing = refl; act = refl; heard = refl }

    here : (i : ℕ) → (i == at) ≡ true → slice_get nodes i ≡ Some old
    here i e = ap (slice_get nodes) (same_number i at e) ∙ there

    then : (i : ℕ) → (i == at) ≡ true → slice_get (set nodes at (record old { children = children; waits = waits })) i ≡ Some (record old { children = children; waits = waits })
    then i e = ap (slice_get (set nodes at (record old { children = children; waits = waits }))) (same_number i at e) ∙ get_set_same nodes at (record old { children = children; waits = waits }) old there

    other : (i : ℕ) → (i == at) ≡ false → slice_get nodes i ≡ slice_get (set nodes at (record old { children = children; waits = waits })) i
    other i e = sym (get_set_other nodes at i (record old { children = children; waits = waits }) (other_number i at e))

    either : (i : ℕ) (o : Option Node) → slice_get nodes i ≡ o → slice_get (set nodes at (record old { children = children; waits = waits })) i ≡ o →
        Beside (doing_by w patterns site main texts) (doing_by w patterns site main texts) i (slice_get nodes i) (slice_get (set nodes at (record old { children = children; waits = waits })) i)
    either i None f g = Neither f g
    either i (Some n) f g = Both n n f g (as_much (doing_by w patterns site main texts) (doing_by w patterns site main texts) i n refl refl)

    beside : (i : ℕ) (b : Bool) → (i == at) ≡ b → Beside (doing_by w patterns site main texts) (doing_by w patterns site main texts) i (slice_get nodes i) (slice_get (set nodes at (record old { children = children; waits = waits })) i)
    beside i true e = Both old (record old { children = children; waits = waits }) (here i e) (then i e) (much i)
    beside i false e = either i (slice_get nodes i) refl (sym (other i e))

    stance : (b : Bool) → (j == at) ≡ b → stance_in (doing_by w patterns site main texts) nodes most_levels j ≡ stance_in (doing_by w patterns site main texts) (set nodes at (record old { children = children; waits = waits })) most_levels j
    stance true e =
        same_stance (doing_by w patterns site main texts) nodes (doing_by w patterns site main texts) (set nodes at (record old { children = children; waits = waits })) (λ i. beside i (i == at) refl) most_levels j
        old (record old { children = children; waits = waits }) (here j e) (then j e) (much j)
    stance false e =
        still_stance (doing_by w patterns site main texts) nodes (doing_by w patterns site main texts) (set nodes at (record old { children = children; waits = waits })) (λ i. beside i (i == at) refl) most_levels j
        (other j e) (λ n f. as_much (doing_by w patterns site main texts) (doing_by w patterns site main texts) j n refl refl)

-- ---- files

-- where each node reads the same
pub same_files : (laws : ShowsTheSame) (w : World) (patterns : List SetPattern) (site : Site) (main : Main) (row : Row) (nodes : List Node) (texts texts' : ℕ → List ℕ) → SameTexts nodes texts texts' →
    IsAlike (seen w patterns site main row nodes texts) (seen w patterns site main row nodes texts')
same_files laws w patterns site main row nodes texts texts' same =
    laws.others (seen w patterns site main row nodes texts) (stance_in (doing_by w patterns site main texts') nodes most_levels)
    (λ j e. still_stance (doing_by w patterns site main texts) nodes (doing_by w patterns site main texts') nodes (λ i. beside i (slice_get nodes i) refl) most_levels j refl (λ n f. much j n f))
  where
    much : (j : ℕ) (n : Node) → slice_get nodes j ≡ Some n → IsAsMuch (doing_by w patterns site main texts) (doing_by w patterns site main texts') j n n
    much j n e =
        let is = same_heard w patterns site (lent main n.phases) n.left (asked_path n.ask) n.stage (texts j) (texts' j) (same j n e) in
        let pass : (List ℕ → Serving Answer) → Reply → Serving Answer = λ k reply. k reply.body in
        as_much (doing_by w patterns site main texts) (doing_by w patterns site main texts') j n is.0 (ap pass is.1)

    beside : (j : ℕ) (o : Option Node) → slice_get nodes j ≡ o → Beside (doing_by w patterns site main texts) (doing_by w patterns site main texts') j (slice_get nodes j) (slice_get nodes j)
    beside j None e = Neither e e
    beside j (Some n) e = Both n n e e (much j n e)

some_is : {A : Type 0} (x y : A) → Some x ≡ Some y → x ≡ y
some_is x y f = ap (λ o. unwrap_or o x) f

-- where another node is in the place of one
pub set_files : (trees : Trees) (nodes : List Node) (at : ℕ) (old new : Node) → slice_get nodes at ≡ Some old → (reads_text new.stage ≡ true → text_in trees old ≡ text_in trees new) →
    SameTexts (set nodes at new) (texts_of trees nodes) (texts_of trees (set nodes at new))
set_files trees nodes at old new there keeps j n e reads = by (j == at) refl
  where
    by : (b : Bool) → (j == at) ≡ b → texts_of trees nodes j ≡ texts_of trees (set nodes at new) j
    by true f =
        let here : slice_get (set nodes at new) j ≡ Some new = ap (λ i. slice_get (set nodes at new) i) (same_number j at f) ∙ get_set_same nodes at new old there in
        let is : n ≡ new = some_is n new (sym e ∙ here) in
        ap (text_at trees) (ap (λ i. slice_get nodes i) (same_number j at f) ∙ there) ∙ (keeps (ap (λ (m : Node). reads_text m.stage) (sym is) ∙ reads) ∙ ap (text_at trees) (sym here))
    by false f = ap (text_at trees) (sym (get_set_other nodes at j new (other_number j at f)))

-- and so their texts, where its own is the same
pub set_texts : (trees : Trees) (nodes : List Node) (at : ℕ) (old new : Node) → slice_get nodes at ≡ Some old → text_in trees old ≡ text_in trees new → (j : ℕ) → texts_of trees nodes j ≡ texts_of trees (set nodes at new) j
set_texts trees nodes at old new there same j = by (j == at) refl
  where
    by : (b : Bool) → (j == at) ≡ b → texts_of trees nodes j ≡ texts_of trees (set nodes at new) j
    by true f =
        ap (λ i. text_at trees (slice_get nodes i)) (same_number j at f) ∙ (ap (text_at trees) there ∙ (same ∙ (ap (text_at trees) (sym (get_set_same nodes at new old there))
        ∙ ap (λ i. text_at trees (slice_get (set nodes at new) i)) (sym (same_number j at f)))))
    by false f = ap (text_at trees) (sym (get_set_other nodes at j new (other_number j at f)))

-- where one is more, which reads none
pub more_files : (trees : Trees) (nodes : List Node) (member : Node) → reads_text member.stage ≡ false → SameTexts (nodes ++ member ∷ []) (texts_of trees nodes) (texts_of trees (nodes ++ member ∷ []))
more_files trees nodes member fresh j n e reads = by (j == length nodes) refl
  where
    by : (b : Bool) → (j == length nodes) ≡ b → texts_of trees nodes j ≡ texts_of trees (nodes ++ member ∷ []) j
    by true f =
        let here : slice_get (nodes ++ member ∷ []) j ≡ Some member = ap (λ i. slice_get (nodes ++ member ∷ []) i) (same_number j (length nodes) f) ∙ get_last nodes member in
        absurd (false_true (sym fresh ∙ ap (λ (m : Node). reads_text m.stage) (some_is member n (sym here ∙ e)) ∙ reads))
    by false f = ap (text_at trees) (sym (get_before nodes member j (other_number j (length nodes) f)))

-- ---- sound rows

-- another node in the place of one, of the same parent
set_rises : (nodes : List Node) (at : ℕ) (old new : Node) → slice_get nodes at ≡ Some old → is_captured new.place ≡ is_captured old.place → new.parent ≡ old.parent → ((j : ℕ) → rises_at j (slice_get nodes j) ≡ true) →
    (j : ℕ) → rises_at j (slice_get (set nodes at new) j) ≡ true
set_rises nodes at old new there kept parent rises j = by (j == at) refl
  where
    by : (b : Bool) → (j == at) ≡ b → rises_at j (slice_get (set nodes at new) j) ≡ true
    by true e =
        ap (λ i. rises_at j (slice_get (set nodes at new) i)) (same_number j at e) ∙ ap (rises_at j) (get_set_same nodes at new old there)
        ∙ ap (λ b. not b || nat_lt new.parent j) kept ∙ ap (λ i. not (is_captured old.place) || nat_lt i j) parent
        ∙ sym (ap (rises_at j) there) ∙ ap (λ i. rises_at j (slice_get nodes i)) (sym (same_number j at e)) ∙ rises j
    by false e = ap (rises_at j) (get_set_other nodes at j new (other_number j at e)) ∙ rises j

-- one more
more_rises : (nodes : List Node) (member : Node) → (is_captured member.place ≡ true → member.parent < length nodes) → ((j : ℕ) → rises_at j (slice_get nodes j) ≡ true) → (j : ℕ) → rises_at j (slice_get (nodes ++ member ∷ []) j) ≡ true
more_rises nodes member lower rises j = by (j == length nodes) refl
  where
    less_so : (a b : ℕ) → a < b → nat_lt a b ≡ true
    less_so a b h = grind (arith, nat_tests, h)

    last : (b : Bool) → is_captured member.place ≡ b → (not b || nat_lt member.parent (length nodes)) ≡ true
    last false f = refl
    last true f = less_so member.parent (length nodes) (lower f)

    by : (b : Bool) → (j == length nodes) ≡ b → rises_at j (slice_get (nodes ++ member ∷ []) j) ≡ true
    by true e =
        ap (λ i. rises_at i (slice_get (nodes ++ member ∷ []) i)) (same_number j (length nodes) e) ∙ ap (rises_at (length nodes)) (get_last nodes member)
        ∙ last (is_captured member.place) refl
    by false e = ap (rises_at j) (get_before nodes member j (other_number j (length nodes) e)) ∙ rises j

pub there_less : (nodes : List Node) (at : ℕ) (n : Node) → slice_get nodes at ≡ Some n → at < length nodes
there_less [] at n e = cc
there_less (x ∷ nodes) zero n e = omega arith
there_less (x ∷ nodes) (suc at) n e = let h = there_less nodes at n e in omega (arith, h)

pub set_sound : (row row' : Row) (nodes : List Node) (at : ℕ) (old new : Node) → slice_get nodes at ≡ Some old → IsSound row nodes → IsWellRow 0 row' → row'.nodes ≡ row.nodes →
    ((j : ℕ) → is_open j row'.pieces ≡ is_open j row.pieces) → new.over ≡ old.over → is_captured new.place ≡ is_captured old.place → new.parent ≡ old.parent → IsSound row' (set nodes at new)
set_sound row row' nodes at old new there s well numbers same over kept parent = record {
  well = well;
  few = subst (λ n. n ≤ 1001) (sym (length_set nodes at new)) s.few;
  count = numbers ∙ s.count ∙ sym (length_set nodes at new);
  going = λ j. same j ∙ s.going j ∙ by j (j == at) refl;
  rises = set_rises nodes at old new there kept parent s.rises;
}
  where
    by : (j : ℕ) (b : Bool) → (j == at) ≡ b → goes_on_at (slice_get nodes j) ≡ goes_on_at (slice_get (set nodes at new) j)
    by j true e =
        ap (λ i. goes_on_at (slice_get nodes i)) (same_number j at e) ∙ ap goes_on_at there ∙ ap not (sym over) ∙ ap goes_on_at (sym (get_set_same nodes at new old there))
        ∙ ap (λ i. goes_on_at (slice_get (set nodes at new) i)) (sym (same_number j at e))
    by j false e = ap goes_on_at (sym (get_set_other nodes at j new (other_number j at e)))

pub open_sound : (row row' : Row) (nodes : List Node) (member : Node) → IsSound row nodes → IsWellRow 0 row' → row'.nodes ≡ suc row.nodes →
    ((j : ℕ) → is_open j row'.pieces ≡ cond (j == row.nodes) true (is_open j row.pieces)) → member.over ≡ false → length nodes < 1001 → (is_captured member.place ≡ true → member.parent < length nodes) → IsSound row' (nodes ++ member ∷ [])
open_sound row row' nodes member s well numbers opened over few lower = record {
  well = well;
  few = subst (λ n. n ≤ 1001) (sym (length_snoc nodes member)) few;
  count = numbers ∙ ap suc s.count ∙ sym (length_snoc nodes member);
  going = λ j. opened j ∙ by j (j == row.nodes) refl;
  rises = more_rises nodes member lower s.rises;
}
  where
    by : (j : ℕ) (b : Bool) → (j == row.nodes) ≡ b → cond b true (is_open j row.pieces) ≡ goes_on_at (slice_get (nodes ++ member ∷ []) j)
    by j true e =
        ap not (sym over) ∙ ap goes_on_at (sym (get_last nodes member)) ∙ ap (λ i. goes_on_at (slice_get (nodes ++ member ∷ []) i)) (sym s.count ∙ sym (same_number j row.nodes e))
    by j false e = s.going j ∙ ap goes_on_at (sym (get_before nodes member j (λ g. other_number j row.nodes e (g ∙ sym s.count))))

pub over_sound : (row row' : Row) (nodes : List Node) (at : ℕ) (old new : Node) → slice_get nodes at ≡ Some old → IsSound row nodes → IsWellRow 0 row' → row'.nodes ≡ row.nodes →
    ((j : ℕ) → is_open j row'.pieces ≡ cond (j == at) false (is_open j row.pieces)) → new.over ≡ true → is_captured new.place ≡ is_captured old.place → new.parent ≡ old.parent → IsSound row' (set nodes at new)
over_sound row row' nodes at old new there s well numbers closed over kept parent = record {
  well = well;
  few = subst (λ n. n ≤ 1001) (sym (length_set nodes at new)) s.few;
  count = numbers ∙ s.count ∙ sym (length_set nodes at new);
  going = λ j. closed j ∙ by j (j == at) refl;
  rises = set_rises nodes at old new there kept parent s.rises;
}
  where
    by : (j : ℕ) (b : Bool) → (j == at) ≡ b → cond b false (is_open j row.pieces) ≡ goes_on_at (slice_get (set nodes at new) j)
    by j true e = ap not (sym over) ∙ ap goes_on_at (sym (get_set_same nodes at new old there)) ∙ ap (λ i. goes_on_at (slice_get (set nodes at new) i)) (sym (same_number j at e))
    by j false e = s.going j ∙ ap goes_on_at (sym (get_set_other nodes at j new (other_number j at e)))

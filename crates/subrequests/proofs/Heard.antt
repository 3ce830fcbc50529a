-- A node is told what it asked for: its family keeps what is still to come.
use Rattle.std.proofs.Common.{◌≡◌, ℕ, ◌+◌, ◌==◌, Bool, true, false, cond, List, ◌++◌, set, slice_get, None, Some, refl, sym, ap, ◌∙◌, arith}
use Rattle.acts.specs.Vars.{Vars}
use Rattle.acts.specs.Act.{Stat}
use Rattle.file_tree.specs.Tree.{IsFrom, Item, Nothing, Tree, Trees, tree_of}
use Rattle.file_tree.specs.declared.job.Ask.{Ask}
use Rattle.file_tree.specs.declared.job.JobAnswer.{JobAnswer}
use Rattle.ngx_pattern.specs.Pattern.{Pattern as SetPattern}
use Rattle.ngx_variables.specs.declared.request.Main.{Main}
use Rattle.site_model.specs.declared.site.Site.{Site}
use Rattle.postpone_filter.specs.Row.{Row, is_open}
use Rattle.request_meaning.specs.Serving.{World, Serving, Answer}
use Rattle.family_order.specs.Acts.{Goes}
use Rattle.family_order.specs.Acts.Goes.{Stays, Acting, Alike}
use Rattle.family_order.specs.Items.{Stance, Family, IsAlike, IsWell, with_stance, doing}
use Rattle.family_order.specs.Laws.{ShowsTheSame}
use Rattle.node_line.specs.family_rest.Laws.{QuietIsExact, RowTellsStill}
use Rattle.node_line.specs.family_rest.Still.{subs_still}
use Rattle.node_line.specs.node_turn.Stages.{IsSameNode, node_act, text_in}
use Rattle.subrequests.specs.Families.{text_at, texts_of}
use Rattle.node_seats.specs.Seats.{doing_by, most_levels, seen, stance_in}
use Rattle.node_seats.proofs.Located.{StandsAs}
use Rattle.node_seats.proofs.Seated.{Replaced, Seated}
use Rattle.subrequests.specs.Moved.{Keeps}
use Rattle.family_nodes.specs.Told.{Hears}
use Rattle.family_nodes.specs.Told.Hears.{Learned, Came}
use Rattle.node_line.specs.node_turn.declared.node.Node.{Node}
use Rattle.subrequests.proofs.Members as members
use Rattle.subrequests.proofs.Members.{eq_self, same_number, other_number}
use Rattle.family_nodes.proofs.Sets.{get_set_same, get_set_other}
use Rattle.node_line.specs.Stances.{stance_so}
use Rattle.node_line.proofs.Steps as steps

none_more : (n : ℕ) → 0 + n ≡ n
none_more n = omega arith

-- another text for one file
abbrev pub with_text : ℕ → List ℕ → (ℕ → List ℕ) → ℕ → List ℕ
with_text at text texts j = cond (j == at) text (texts j)

module _ (laws : ShowsTheSame) (w : World) (patterns : List SetPattern) (site : Site) (main : Main) (row : Row) (nodes : List Node) (at : ℕ) (old new : Node) (there : slice_get nodes at ≡ Some old)
    (none : old.asks ≡ None) (same : IsSameNode old new) (same_place : new.place ≡ old.place) where
  abbrev act : Node → List ℕ → Serving Answer
  act n text = node_act w patterns site main n text

  abbrev after : (ℕ → List ℕ) → Family
  after texts = seen w patterns site main row (set nodes at new) texts

  -- what is said there, by texts
  abbrev said : (ℕ → List ℕ) → List Node → ℕ → Stance
  said texts ns = stance_in (doing_by w patterns site main texts) ns most_levels

  put : (texts texts' : ℕ → List ℕ) → ((j : ℕ) → (j == at) ≡ false → texts j ≡ texts' j) → Replaced (doing_by w patterns site main texts) nodes (doing_by w patterns site main texts') (set nodes at new) at old new
  put texts texts' agree = members.replaced w patterns site main texts texts' nodes at old new there none (same.asks ∙ none) agree

  stands_so : StandsAs old new
  stands_so = members.stands_as old new same.parent same_place same.before same.over

  abbrev Agree : (texts texts' : ℕ → List ℕ) → Type 0
  Agree texts texts' = (j : ℕ) → (j == at) ≡ false → texts j ≡ texts' j

  -- where it is told of, if its file has this text
  module _ (texts : ℕ → List ℕ) (s : Seated most_levels (doing_by w patterns site main texts) nodes at old) (h_open : is_open s.h row.pieces ≡ true) where
    abbrev before : Family
    before = seen w patterns site main row nodes texts

    -- what it does where it does this
    abbrev so : Serving Answer → Stance
    so m = stance_so (s.seat old.place) at old.left m

    -- so does the other node
    so_new : (m : Serving Answer) → so m ≡ stance_so (s.seat new.place) at new.left m
    so_new m = ap (λ n. stance_so (s.seat old.place) at n m) (sym same.left) ∙ ap (λ p. stance_so (s.seat p) at new.left m) (sym same_place)

    -- The node does something, and then what it does is another's, and other texts are still to come.
    likes : (texts' : ℕ → List ℕ) (m : Serving Answer) → Agree texts texts' → m ≡ act new (texts' at) → IsAlike (doing s.h (so m) before) (after texts')
    likes texts' m agree is = laws.others (doing s.h (so m) before) (said texts' (set nodes at new)) (λ j e. by j (j == s.h) refl)
      where
        by : (j : ℕ) (b : Bool) → (j == s.h) ≡ b → cond b (so m) (said texts nodes j) ≡ said texts' (set nodes at new) j
        by j true e =
            so_new m ∙ ap (stance_so (s.seat new.place) at new.left) is ∙ sym (s.next (doing_by w patterns site main texts') (set nodes at new) new (put texts texts' agree) stands_so) ∙ ap (λ i. said texts' (set nodes at new) i) (sym (same_number j s.h e))
        by j false e = s.same (doing_by w patterns site main texts') (set nodes at new) new (put texts texts' agree) stands_so.captured stands_so.parent j e

    begins : (m : Serving Answer) → act old (texts at) ≡ m → IsAlike before (doing s.h (so m) before)
    begins m is = laws.others before (with_stance s.h (so m) (said texts nodes)) (λ j e. by j (j == s.h) refl)
      where
        by : (j : ℕ) (b : Bool) → (j == s.h) ≡ b → said texts nodes j ≡ cond b (so m) (said texts nodes j)
        by j true e = ap (λ i. said texts nodes i) (same_number j s.h e) ∙ s.is ∙ ap so is
        by j false e = refl

    -- its question is answered by a tree
    learns : (tree : Tree) (vars : Vars) (texts' : ℕ → List ℕ) (path : List ℕ) (k : Item → Serving Answer) → act old (texts at) ≡ Stat path k → Agree texts texts' → k (tree path) ≡ act new (texts' at) →
        Goes w tree before vars (after texts') vars
    learns tree vars texts' path k asks agree told =
        Alike (begins (Stat path k) asks)
        (Acting (steps.learning w tree laws s.h at old.left before h_open (s.seat old.place) path k vars).act
        (Alike (steps.again w tree laws s.h before h_open (so (k (tree path))) (so (Stat path k)))
        (Alike (likes texts' (k (tree path)) agree told) Stays)))

    still_learns : (exact : QuietIsExact) (tells : RowTellsStill) (tree : Tree) (vars : Vars) (texts' : ℕ → List ℕ) (path : List ℕ) (k : Item → Serving Answer) → IsWell before →
        act old (texts at) ≡ Stat path k → Agree texts texts' → k (tree path) ≡ act new (texts' at) → Keeps w tree before (after texts') vars
    still_learns exact tells tree vars texts' path k well asks agree told =
        let f = before in
        let begun = begins (Stat path k) asks in
        let ask = doing s.h (so (Stat path k)) f in
        let told_so = doing s.h (so (k (tree path))) ask in
        let over = steps.again w tree laws s.h f h_open (so (k (tree path))) (so (Stat path k)) in
        let ends = likes texts' (k (tree path)) agree told in
        let learns_so = steps.learning w tree laws s.h at old.left f h_open (s.seat old.place) path k vars in
        let well_then = begun.well well in
        record {
          goes = learns tree vars texts' path k asks agree told;
          still =
              tells.alike w tree f ask vars begun ∙ exact.quiet w tree ask vars told_so vars well_then learns_so.act learns_so.quiet
              ∙ tells.alike w tree told_so (doing s.h (so (k (tree path))) f) vars over ∙ tells.alike w tree (doing s.h (so (k (tree path))) f) (after texts') vars ends;
          subs =
              tells.counts_alike w tree f ask vars begun ∙ (exact.counts w tree ask vars told_so vars well_then learns_so.act learns_so.quiet ∙ ap (λ n. n + subs_still w tree told_so vars) learns_so.none ∙ none_more (subs_still w tree told_so vars))
              ∙ tells.counts_alike w tree told_so (doing s.h (so (k (tree path))) f) vars over ∙ tells.counts_alike w tree (doing s.h (so (k (tree path))) f) (after texts') vars ends;
        }

    -- a block of its file came
    came : (texts' : ℕ → List ℕ) → Agree texts texts' → act old (texts at) ≡ act new (texts' at) → IsAlike before (after texts')
    came texts' agree is = laws.others before (said texts' (set nodes at new)) (λ j e. by j (j == s.h) refl)
      where
        by : (j : ℕ) (b : Bool) → (j == s.h) ≡ b → said texts nodes j ≡ said texts' (set nodes at new) j
        by j true e =
            ap (λ i. said texts nodes i) (same_number j s.h e) ∙ s.is ∙ ap so is ∙ so_new (act new (texts' at))
            ∙ sym (s.next (doing_by w patterns site main texts') (set nodes at new) new (put texts texts' agree) stands_so) ∙ ap (λ i. said texts' (set nodes at new) i) (sym (same_number j s.h e))
        by j false e = s.same (doing_by w patterns site main texts') (set nodes at new) new (put texts texts' agree) stands_so.captured stands_so.parent j e

    still_came : (tells : RowTellsStill) (tree : Tree) (vars : Vars) (texts' : ℕ → List ℕ) → Agree texts texts' → act old (texts at) ≡ act new (texts' at) → Keeps w tree before (after texts') vars
    still_came tells tree vars texts' agree is =
        let alike = came texts' agree is in
        record {
          goes = Alike alike Stays;
          still = tells.alike w tree before (after texts') vars alike;
          subs = tells.counts_alike w tree before (after texts') vars alike;
        }

  -- ---- by what it is told

  module _ (ask : Ask) (answer : JobAnswer) (hears : Hears ask answer (λ trees. text_in trees old) (λ trees. text_in trees new) (act old) (act new)) where
    -- in any trees, the other files are the same
    same_files : (trees : Trees) (j : ℕ) → (j == at) ≡ false → texts_of trees nodes j ≡ texts_of trees (set nodes at new) j
    same_files trees j e = ap (text_at trees) (sym (get_set_other nodes at j new (other_number j at e)))

    old_text : (trees : Trees) → texts_of trees nodes at ≡ text_in trees old
    old_text trees = ap (text_at trees) there

    new_text : (trees : Trees) → texts_of trees (set nodes at new) at ≡ text_in trees new
    new_text trees = ap (text_at trees) (get_set_same nodes at new old there)

    pub keeps : (exact : QuietIsExact) (tells : RowTellsStill) (trees : Trees) (vars : Vars) → (s : Seated most_levels (doing_by w patterns site main (texts_of trees nodes)) nodes at old) → is_open s.h row.pieces ≡ true →
        IsWell (seen w patterns site main row nodes (texts_of trees nodes)) → IsFrom trees ask answer →
        Keeps w (trees (tree_of ask)) (seen w patterns site main row nodes (texts_of trees nodes)) (after (texts_of trees (set nodes at new))) vars
    keeps exact tells trees vars s h_open well from = by hears
      where
        by : Hears ask answer (λ trees. text_in trees old) (λ trees. text_in trees new) (act old) (act new) →
            Keeps w (trees (tree_of ask)) (seen w patterns site main row nodes (texts_of trees nodes)) (after (texts_of trees (set nodes at new))) vars
        by (Learned path k item asks news told) =
            still_learns (texts_of trees nodes) s h_open exact tells (trees (tree_of ask)) vars (texts_of trees (set nodes at new)) path k well (asks (texts_of trees nodes at)) (same_files trees)
            (ap k (sym (told trees from)) ∙ ap (λ t. k (item t)) (sym (new_text trees)) ∙ sym (news (texts_of trees (set nodes at new) at)))
        by (Came bytes acts files) =
            still_came (texts_of trees nodes) s h_open tells (trees (tree_of ask)) vars (texts_of trees (set nodes at new)) (same_files trees)
            (ap (act old) (old_text trees ∙ sym (files trees from)) ∙ acts (text_in trees new) ∙ ap (act new) (sym (new_text trees)))

    -- whatever is still to come of the files
    pub comes : (vars : Vars) (texts : ℕ → List ℕ) → ((texts : ℕ → List ℕ) → (s : Seated most_levels (doing_by w patterns site main texts) nodes at old) × (is_open s.h row.pieces ≡ true)) →
        (tree : Tree) × (before : ℕ → List ℕ) × Goes w tree (seen w patterns site main row nodes before) vars (after texts) vars
    comes vars texts seats = by hears
      where
        other : (bytes : List ℕ) (j : ℕ) → (j == at) ≡ false → with_text at bytes texts j ≡ texts j
        other bytes j e = ap (λ b. cond b bytes (texts j)) e

        by : Hears ask answer (λ trees. text_in trees old) (λ trees. text_in trees new) (act old) (act new) →
            (tree : Tree) × (before : ℕ → List ℕ) × Goes w tree (seen w patterns site main row nodes before) vars (after texts) vars
        by (Learned path k item asks news told) =
            ((λ p. item (texts at)), texts, learns texts (seats texts).0 (seats texts).1 (λ p. item (texts at)) vars texts path k (asks (texts at)) (λ j e. refl) (sym (news (texts at))))
        by (Came bytes acts files) =
            let earlier = with_text at (bytes ++ texts at) texts in
            let here : earlier at ≡ bytes ++ texts at = ap (λ b. cond b (bytes ++ texts at) (texts at)) (eq_self at) in
            ((λ p. Nothing), earlier, Alike (came earlier (seats earlier).0 (seats earlier).1 texts (other (bytes ++ texts at)) (ap (act old) here ∙ acts (texts at))) Stays)

-- A node takes up the next part of its page, and waits for the bytes of a subrequest then.
use Rattle.std.proofs.Common.{◌≡◌, ◌<◌, ◌≤◌, ℕ, suc, ◌+◌, true, List, [], ◌∷◌, ◌++◌, length, set, slice_get, Option, Some, refl, sym, ap, ◌∙◌, subst, arith}
use Rattle.acts.specs.Act.{Call, Inner}
use Rattle.file_tree.specs.Tree.{Tree, Trees}
use Rattle.ngx_pattern.specs.Pattern.{Pattern as SetPattern}
use Rattle.ngx_variables.specs.declared.request.Main.{Main}
use Rattle.site_model.specs.declared.site.Site.{Site}
use Rattle.postpone_filter.specs.Row.{Row, is_open, with_child}
use Rattle.request_meaning.specs.Serving.{World}
use Rattle.request_meaning.specs.Replies.{script}
use Rattle.family_order.specs.Laws.{ShowsTheSame}
use Rattle.node_line.specs.ssi_exec.Scenes.{child_seen}
use Rattle.node_line.specs.ssi_exec.declared.document.Child.{Child}
use Rattle.node_line.specs.Stances.{Opening}
use Rattle.node_line.specs.node_turn.Stages.{IsSameNode, is_capturing, main_of, node_act, node_heard, text_in}
use Rattle.node_line.specs.node_turn.Turns.{Works}
use Rattle.node_line.specs.node_turn.declared.node.Node.{Node}
use Rattle.node_seats.specs.Seats.{is_seated, seen}
use Rattle.subrequests.specs.Families.{IsSound, texts_of}
use Rattle.subrequests.specs.Moved.{IsAsking, IsInner, SameTexts}
use Rattle.subrequests.specs.declared.family.Family.{Family}
use Rattle.subrequests.proofs.Members as members
use Rattle.family_nodes.proofs.Sets.{get_set_same, length_set, length_snoc}
use Rattle.subrequests.proofs.Taking as taking

module _ (f between end : Family) (at : ℕ) (old mid : Node) (child : Child) (there : slice_get f.nodes at ≡ Some old) (same : IsSameNode old mid) (place : mid.place ≡ old.place) (nodes : between.nodes ≡ set f.nodes at mid)
    (rows : between.order ≡ f.order) (a : IsAsking at child between end mid) where
  -- the node that waits
  abbrev asking : ℕ → Option ℕ → Node
  asking children asks = record mid { children = children; asks = asks }

  kept_left : a.asking.left ≡ mid.left
  kept_left = ap (λ (n : Node). n.left) a.asks

  pub deep : old.left ≡ suc a.pushed.member.left
  deep =
      let below = a.pushed.left in
      let kept = kept_left in
      let some = a.deep in
      let left = same.left in
      omega (arith, below, kept, some, left)

  set_mid : slice_get (set f.nodes at mid) at ≡ Some mid
  set_mid = get_set_same f.nodes at mid old there

  items : end.nodes ≡ set (set f.nodes at mid) at a.asking ++ a.pushed.member ∷ []
  items = a.pushed.items ∙ ap (λ ns. set ns at a.asking ++ a.pushed.member ∷ []) nodes

  pub grows : length end.nodes ≡ length f.nodes + 1
  grows =
      let more = ap length items ∙ length_snoc (set (set f.nodes at mid) at a.asking) a.pushed.member in
      let size = length_set (set f.nodes at mid) at a.asking ∙ length_set f.nodes at mid in
      omega (arith, more, size)

  -- the files that are read are the same
  pub same_texts : ((trees : Trees) → text_in trees old ≡ text_in trees mid) → (trees : Trees) → SameTexts end.nodes (texts_of trees f.nodes) (texts_of trees end.nodes)
  same_texts file trees j n e reads =
      members.set_texts trees f.nodes at old mid there (file trees) j
      ∙ (members.set_texts trees (set f.nodes at mid) at mid a.asking set_mid (members.same_text trees mid a.asking (ap (λ (x : Node). x.ask) a.asks, ap (λ (x : Node). x.start) a.asks)) j
      ∙ (members.more_files trees (set (set f.nodes at mid) at a.asking) a.pushed.member a.pushed.fresh j n (subst (λ ns. slice_get ns j ≡ Some n) items e) reads
      ∙ ap (λ ns. texts_of trees ns j) (sym items)))

  module _ (laws : ShowsTheSame) (w : World) (patterns : List SetPattern) (site : Site) (sound : IsSound f.order f.nodes) (goes_on : is_open at f.order.pieces ≡ true) (seat : is_seated f.nodes at (slice_get f.nodes at) ≡ true)
      (tree : Tree) (texts : ℕ → List ℕ) (same_main : end.main ≡ f.main) (same_vars : end.vars ≡ f.vars) (method : main_of f.main mid ≡ main_of f.main old) where
    abbrev Goal : Type 0
    Goal = Opening w tree 1 (seen w patterns site f.main f.order f.nodes texts) f.vars (seen w patterns site end.main end.order end.nodes texts) end.vars

    -- as the lists and the row are
    ends_so : Opening w tree 1 (seen w patterns site f.main f.order f.nodes texts) f.vars
        (seen w patterns site f.main (with_child at f.order) (set (set f.nodes at mid) at (record mid { children = a.asking.children; asks = Some f.order.nodes }) ++ a.pushed.member ∷ []) texts) f.vars →
        Opening w tree 1 (seen w patterns site f.main f.order f.nodes texts) f.vars (seen w patterns site end.main end.order end.nodes texts) end.vars
    ends_so o =
        let before = seen w patterns site f.main f.order f.nodes texts in
        subst (λ v. Opening w tree 1 before f.vars (seen w patterns site end.main end.order end.nodes texts) v) (sym same_vars)
        (subst (λ m. Opening w tree 1 before f.vars (seen w patterns site m end.order end.nodes texts) f.vars) (sym same_main)
        (subst (λ r. Opening w tree 1 before f.vars (seen w patterns site f.main r end.nodes texts) f.vars) (sym (a.row ∙ ap (with_child at) rows))
        (subst (λ ns. Opening w tree 1 before f.vars (seen w patterns site f.main (with_child at f.order) ns texts) f.vars) (sym items)
        (subst (λ (n : Node). Opening w tree 1 before f.vars (seen w patterns site f.main (with_child at f.order) (set (set f.nodes at mid) at n ++ a.pushed.member ∷ []) texts) f.vars) (sym is_so) o))))
      where
        is_so : a.asking ≡ record mid { children = a.asking.children; asks = Some f.order.nodes }
        is_so = a.asks ∙ ap (λ (r : Row). asking a.asking.children (Some r.nodes)) rows

    begun : node_act w patterns site f.main a.pushed.member (texts f.order.nodes) ≡ script w a.pushed.member.left (child_seen (main_of f.main old) child)
    begun =
        a.pushed.acts w patterns site f.main (texts f.order.nodes)
        ∙ ap (λ (m : Main). script w a.pushed.member.left (child_seen m child)) (ap (λ (n : Node). main_of f.main n) a.asks ∙ method)

    pub asked : is_capturing mid.stage ≡ true →
        Works f.vars (node_act w patterns site f.main old (texts at)) (Call (child_seen (main_of f.main old) child) (λ reply. node_heard w patterns site f.main mid (texts at) reply.body)) →
        Opening w tree 1 (seen w patterns site f.main f.order f.nodes texts) f.vars (seen w patterns site end.main end.order end.nodes texts) end.vars
    asked e acts =
        ends_so (taking.asked laws w patterns site f.main f.order f.nodes texts at old there sound goes_on seat tree f.vars mid same place f.order.nodes a.asking.children a.pushed.member refl
        (child_seen (main_of f.main old) child) a.pushed.member.left deep refl a.pushed.goes a.pushed.parent a.pushed.asks begun e acts)

-- ---- it takes up its bytes where it has come to, and goes on

module _ (f between end : Family) (at : ℕ) (old mid : Node) (child : Child) (there : slice_get f.nodes at ≡ Some old) (same : IsSameNode old mid) (place : mid.place ≡ old.place) (nodes : between.nodes ≡ set f.nodes at mid)
    (rows : between.order ≡ f.order) (a : IsInner at child between end mid) where
  kept : a.opening.left ≡ mid.left
  kept = ap (λ (n : Node). n.left) a.opens.is

  pub deep_enough : old.left ≡ suc a.pushed.member.left
  deep_enough =
      let below = a.pushed.left in
      let is = kept in
      let some = a.deep in
      let left = same.left in
      omega (arith, below, is, some, left)

  mid_there : slice_get (set f.nodes at mid) at ≡ Some mid
  mid_there = get_set_same f.nodes at mid old there

  all_items : end.nodes ≡ set (set f.nodes at mid) at a.opening ++ a.pushed.member ∷ []
  all_items = a.pushed.items ∙ ap (λ ns. set ns at a.opening ++ a.pushed.member ∷ []) nodes

  pub inner_grows : length end.nodes ≡ length f.nodes + 1
  inner_grows =
      let more = ap length all_items ∙ length_snoc (set (set f.nodes at mid) at a.opening) a.pushed.member in
      let size = length_set (set f.nodes at mid) at a.opening ∙ length_set f.nodes at mid in
      omega (arith, more, size)

  pub inner_texts : ((trees : Trees) → text_in trees old ≡ text_in trees mid) → (trees : Trees) → SameTexts end.nodes (texts_of trees f.nodes) (texts_of trees end.nodes)
  inner_texts file trees j n e reads =
      members.set_texts trees f.nodes at old mid there (file trees) j
      ∙ (members.set_texts trees (set f.nodes at mid) at mid a.opening mid_there (members.same_text trees mid a.opening (ap (λ (x : Node). x.ask) a.opens.is, ap (λ (x : Node). x.start) a.opens.is)) j
      ∙ (members.more_files trees (set (set f.nodes at mid) at a.opening) a.pushed.member a.pushed.fresh j n (subst (λ ns. slice_get ns j ≡ Some n) all_items e) reads
      ∙ ap (λ ns. texts_of trees ns j) (sym all_items)))

  module _ (laws : ShowsTheSame) (w : World) (patterns : List SetPattern) (site : Site) (sound : IsSound f.order f.nodes) (goes_on : is_open at f.order.pieces ≡ true) (seat : is_seated f.nodes at (slice_get f.nodes at) ≡ true)
      (tree : Tree) (texts : ℕ → List ℕ) (same_main : end.main ≡ f.main) (same_vars : end.vars ≡ f.vars) (method : main_of f.main mid ≡ main_of f.main old) (few : length end.nodes ≤ 1001) where
    script_then : node_act w patterns site f.main a.pushed.member (texts f.order.nodes) ≡ script w a.pushed.member.left (child_seen (main_of f.main old) child)
    script_then =
        a.pushed.acts w patterns site f.main (texts f.order.nodes)
        ∙ ap (λ (m : Main). script w a.pushed.member.left (child_seen m child)) (ap (λ (n : Node). main_of f.main n) a.opens.is ∙ method)

    few_nodes : f.order.nodes < 1001
    few_nodes = let size = inner_grows in let count = sound.count in omega (arith, size, count, few)

    pub inner : Works f.vars (node_act w patterns site f.main old (texts at)) (Inner (child_seen (main_of f.main old) child) (node_act w patterns site f.main mid (texts at))) →
        Opening w tree 1 (seen w patterns site f.main f.order f.nodes texts) f.vars (seen w patterns site end.main end.order end.nodes texts) end.vars
    inner acts =
        let before = seen w patterns site f.main f.order f.nodes texts in
        let o = taking.inner laws w patterns site f.main f.order f.nodes texts at old there sound goes_on seat tree f.vars mid same place f.order.nodes a.opening a.before a.opens a.pushed.member refl few_nodes
        (child_seen (main_of f.main old) child) a.pushed.member.left deep_enough refl a.pushed.goes a.pushed.before a.pushed.parent a.pushed.asks a.pushed.over script_then acts in
        subst (λ v. Opening w tree 1 before f.vars (seen w patterns site end.main end.order end.nodes texts) v) (sym same_vars)
        (subst (λ m. Opening w tree 1 before f.vars (seen w patterns site m end.order end.nodes texts) f.vars) (sym same_main)
        (subst (λ r. Opening w tree 1 before f.vars (seen w patterns site f.main r end.nodes texts) f.vars) (sym (a.row ∙ ap (with_child at) rows))
        (subst (λ ns. Opening w tree 1 before f.vars (seen w patterns site f.main (with_child at f.order) ns texts) f.vars) (sym all_items) o)))

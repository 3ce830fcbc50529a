-- Answers to the jobs of a node.
use Rattle.std.proofs.Common.{◌≡◌, ◌≢◌, ℕ, zero, suc, ◌+◌, ◌-◌, ◌≤◌, true, List, [], ◌∷◌, ◌++◌, length, take, drop, Option, None, refl, sym, ap, ◌∙◌, subst, append_assoc, take-append-drop, drop-drop, length-drop, arith}
use Rattle.std.proofs.lemmas.Bool.{eqb-true}
use Rattle.std.specs.Borrow.{Bor}
use Rattle.acts.specs.Act.{Done, Write, ◌>>=◌}
use Rattle.acts.specs.Vars.{Vars}
use Rattle.file_tree.specs.Tree.{Item, AFile, AFolder, ALocked, Nothing, Trees, HoldsBytes, IsFrom, IsTextOf, is_fitting, known_text, node_of, text_of, tree_of}
use Rattle.file_tree.specs.declared.job.Ask.{Ask}
use Rattle.file_tree.specs.declared.job.Ask.TheVariants as asks
use Rattle.file_tree.specs.declared.job.JobAnswer.TheVariants as answers
use Rattle.file_tree.specs.declared.job.Found.{Found}
use Rattle.file_tree.specs.declared.job.Node.{Node as FileNode}
use Rattle.site_model.specs.declared.site.Site.{Site}
use Rattle.ngx_pattern.specs.Pattern.{Pattern as SetPattern}
use Rattle.ngx_variables.specs.declared.request.Main.{Main}
use Rattle.node_line.specs.request_meaning.Serving.{World, Serving, Answer}
use Rattle.node_line.specs.request_phases.Rounds.{phases_told}
use Rattle.node_line.specs.request_phases.declared.state.Wait.{Wait}
use Rattle.file_tree.specs.declared.job.JobAnswer.{JobAnswer}
use Rattle.node_line.specs.request_phases.declared.state.Phases.{Phases}
use Rattle.std.specs.Global.{Box}
use Rattle.node_line.specs.page_body.declared.page.Page.{Page}
use Rattle.node_line.specs.node_turn.Stages.{asks_from, item_asked, node_act, text_in}
use Rattle.node_line.specs.node_turn.Nodes.{answer_seen, asked_path, hand, later, lent, padded, placed_act, served_act, served_as, stage_act, found_item, told_item}
use Rattle.node_line.specs.node_turn.declared.answered.Answered.{Answered}
use Rattle.family_nodes.specs.Told.{Hears}
use Rattle.family_nodes.specs.Told.Hears.{Learned, Came}
use Rattle.node_line.specs.node_turn.declared.node.Body.{Body}
use Rattle.node_line.specs.node_turn.declared.node.Node.{Node}
use Rattle.node_line.specs.node_turn.declared.node.Stage.TheVariants as stages

-- ---- a block

-- bytes that come first, as long as they aren't too many
pub padded_front : (n : ℕ) (bytes text : List ℕ) → length bytes ≤ n → padded n (bytes ++ text) ≡ bytes ++ padded (n - length bytes) text
unfolding padded
padded_front n [] text h = ap (λ m. padded m text) (let e : n ≡ n - 0 = omega arith in e)
padded_front zero (b ∷ bytes) text h = absurd (omega (arith, h))
padded_front (suc n) (b ∷ bytes) text h = ap (λ t. b ∷ t) (padded_front n bytes text (omega (arith, h)) ∙ ap (λ m. bytes ++ padded m text) (let e : n - length bytes ≡ suc n - suc (length bytes) = omega arith in e))

module _ (before bytes : List ℕ) (n : ℕ) (text : List ℕ) (few : length bytes ≤ n) where
  moved : before ++ padded n (bytes ++ text) ≡ (before ++ bytes) ++ padded (n - length bytes) text
  moved = ap (λ t. before ++ t) (padded_front n bytes text few) ∙ sym (append_assoc before bytes (padded (n - length bytes) text))

module _ (w : World) (site : Site) (p : Phases) (left : ℕ) (text : List ℕ) where
  -- a body to which bytes came goes on as it did before they came
  pub more_came : (a b : Body) (bytes : List ℕ) → length bytes ≤ a.source.left → b.source.text ≡ a.source.text ++ bytes →
      b.source.left + length bytes ≡ a.source.left → b.answered ≡ a.answered → b.page ≡ a.page →
      served_act w site p left (answer_seen site p a.answered) a.page (later a (bytes ++ text)) ≡ served_act w site p left (answer_seen site p b.answered) b.page (later b text)
  more_came a b bytes few t n an pg =
      let act = λ (x : Answered) (y : Option Page) (z : List ℕ). served_act w site p left (answer_seen site p x) y z in
      ap (act a.answered a.page) (moved a.source.text bytes a.source.left text few)
      ∙ (ap (λ z. act a.answered a.page (z ++ padded (a.source.left - length bytes) text)) (sym t)
      ∙ (ap (λ m. act a.answered a.page (b.source.text ++ padded m text)) (let e : a.source.left - length bytes ≡ b.source.left = omega (arith, n, few) in e)
      ∙ (ap (λ y. act a.answered y (later b text)) (sym pg)
      ∙ ap (λ x. act x b.page (later b text)) (sym an))))

  -- one without a page places the text of its source next
  pub places_text : (b c : Body) → b.page ≡ None → hand c ≡ b.source.text → c.source.text ≡ [] → c.source.left ≡ b.source.left → c.answered ≡ b.answered → c.page ≡ b.page →
      served_act w site p left (answer_seen site p b.answered) b.page (later b text) ≡ placed_act w site p left (answer_seen site p c.answered) c.page (hand c) (later c text)
  places_text b c none h t n an pg =
      let answer = answer_seen site p b.answered in
      ap (λ y. served_act w site p left answer y (later b text)) none
      ∙ (ap (λ z. Write (z ++ padded b.source.left text) (Done answer)) (sym h)
      ∙ (ap (λ m. Write (hand c ++ padded m text) (Done answer)) (sym n)
      ∙ (ap (λ z. Write (hand c ++ (z ++ padded c.source.left text)) (Done answer)) (sym t)
      ∙ (ap (λ (x : Answered). Write (hand c ++ later c text) (Done (answer_seen site p x))) (sym an)
      ∙ ap (λ y. placed_act w site p left (answer_seen site p c.answered) y (hand c) (later c text)) (sym (pg ∙ none))))))

-- it is a part of its file
withheld : (file bytes : List ℕ) (start count : ℕ) → start + count ≤ length file → bytes ≡ take count (drop start file) → bytes ++ drop (start + length bytes) file ≡ drop start file
withheld file bytes start count there is =
    let d : length (drop start file) ≡ length file - start = length-drop start file in
    let n : length bytes ≡ count = ap length is ∙ taken count (drop start file) (omega (arith, d, there)) in
    ap (λ m. bytes ++ drop (start + m) file) n ∙ ap (λ b. b ++ drop (start + count) file) is
    ∙ ap (λ t. take count (drop start file) ++ t) (sym (drop-drop count start file)) ∙ take-append-drop count (drop start file)
  where
    taken : (k : ℕ) (xs : List ℕ) → k ≤ length xs → length (take k xs) ≡ k
    taken zero xs h = refl
    taken (suc k) [] h = absurd (omega (arith, h))
    taken (suc k) (x ∷ xs) h = ap suc (taken k xs (omega (arith, h)))

item_withheld : (item : Item) (bytes : List ℕ) (start count : ℕ) → HoldsBytes item start count bytes → bytes ++ drop (start + length bytes) (text_of item) ≡ drop start (text_of item)
item_withheld (AFile file date) bytes start count h = withheld file bytes start count h.0 h.1
item_withheld AFolder bytes start count h = absurd h
item_withheld ALocked bytes start count h = absurd h
item_withheld Nothing bytes start count h = absurd h

pub block_withheld : (trees : Trees) (ask : Ask) (start : ℕ) (bytes : Bor (List ℕ)) → asks_from ask start ≡ true → IsFrom trees ask (answers.Read bytes) →
    bytes.now ++ drop (start + length bytes.now) (text_of (item_asked trees ask)) ≡ drop start (text_of (item_asked trees ask))
block_withheld trees (asks.Stat path of) start bytes e from = absurd from
block_withheld trees (asks.Read path begin count of) start bytes e from =
    let same : begin ≡ start = eqb-true begin start e in
    subst (λ n. bytes.now ++ drop (n + length bytes.now) (text_of (trees of path)) ≡ drop n (text_of (trees of path))) same (item_withheld (trees of path) bytes.now begin count from)

-- ---- what is at a path

padded_whole : (xs : List ℕ) → padded (length xs) xs ≡ xs
unfolding padded
padded_whole [] = refl
padded_whole (x ∷ xs) = ap (λ r. x ∷ r) (padded_whole xs)

pub told_same : (item : Item) (file : FileNode) → file ≡ node_of item → told_item file (text_of item) ≡ item
told_same (AFile bytes date) file e = ap (λ n. told_item n bytes) e ∙ ap (λ b. AFile b date) (padded_whole bytes)
told_same AFolder file e = ap (λ n. told_item n []) e
told_same ALocked file e = ap (λ n. told_item n []) e
told_same Nothing file e = ap (λ n. told_item n []) e

known_same : (known text : List ℕ) → (known ≢ [] → text ≡ known) → known_text known text ≡ text
known_same [] text h = refl
known_same (b ∷ known) text h = sym (h (λ e. never e))
  where
    never : b ∷ known ≡ [] → ⊥
    never e = cc

-- an item of which this was found is as it was found
found_same : (item : Item) (found : Found) → found.node ≡ node_of item → IsTextOf item found.text → found_item found (text_of item) ≡ item
found_same item found n t = ap (told_item found.node) (known_same found.text (text_of item) t) ∙ told_same item found.node n

found_at : (trees : Trees) (ask : Ask) (found : Found) (text : Bor (List ℕ)) → found.text ≡ text.now → is_fitting ask (answers.Stat found.node text) ≡ true → IsFrom trees ask (answers.Stat found.node text) →
    found_item found (drop 0 (text_of (item_asked trees ask))) ≡ trees (tree_of ask) (asked_path ask)
found_at trees (asks.Stat path of) found text same fits from = found_same (trees of path) found from.0 (subst (IsTextOf (trees of path)) (sym same) from.1)
found_at trees (asks.Read path start count of) found text same fits from = absurd from

module _ (w : World) (patterns : List SetPattern) (site : Site) (main : Main) (n : Node) (answer : JobAnswer) where
  pub learned : (new : Node) (wait : Wait) (file : Found) (text : Bor (List ℕ)) (ssi : Vars) → n.stage ≡ stages.Asks wait ssi → new ≡ record n { stage = stages.Told wait file ssi; start = 0 } →
      answer ≡ answers.Stat file.node text → file.text ≡ text.now → is_fitting n.ask answer ≡ true →
      Hears n.ask answer (λ trees. text_in trees n) (λ trees. text_in trees new) (node_act w patterns site main n) (node_act w patterns site main new)
  unfolding ◌>>=◌
  learned new wait file text ssi es en ea same fits =
      let p = lent main n.phases in
      let then : Item → Serving Answer = λ item. served_as w n.left ssi (phases_told w patterns site p wait item) in
      let told : Node = record n { stage = stages.Told wait file ssi; start = 0 } in
      subst (λ (m : Node). Hears n.ask answer (λ trees. text_in trees n) (λ trees. text_in trees m) (node_act w patterns site main n) (node_act w patterns site main m)) (sym en)
      (subst (λ a. Hears n.ask a (λ trees. text_in trees n) (λ trees. text_in trees told) (node_act w patterns site main n) (node_act w patterns site main told)) (sym ea)
      (Learned (asked_path n.ask) then (found_item file) (λ text. ap (λ s. stage_act w patterns site p n.left (asked_path n.ask) s text) es) (λ text. refl)
      (λ trees from. found_at trees n.ask file text same (subst (λ a. is_fitting n.ask a ≡ true) ea fits) from)))

  pub block_came : (new : Node) (body : Box Body) (bytes : Bor (List ℕ)) → n.stage ≡ stages.Reads body →
      ((text : List ℕ) → stage_act w patterns site (lent main n.phases) n.left (asked_path n.ask) (stages.Reads body) (bytes.now ++ text) ≡ node_act w patterns site main new text) →
      answer ≡ answers.Read bytes → ((trees : Trees) → IsFrom trees n.ask (answers.Read bytes) → bytes.now ++ text_in trees new ≡ text_in trees n) →
      Hears n.ask answer (λ trees. text_in trees n) (λ trees. text_in trees new) (node_act w patterns site main n) (node_act w patterns site main new)
  block_came new body bytes es acts ea files =
      Came bytes.now (λ text. ap (λ s. stage_act w patterns site (lent main n.phases) n.left (asked_path n.ask) s (bytes.now ++ text)) es ∙ acts text)
      (λ trees from. files trees (subst (λ a. IsFrom trees n.ask a) ea from))

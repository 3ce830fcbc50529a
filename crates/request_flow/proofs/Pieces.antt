-- Jobs are answered, and the blocks of a file are placed.
use Rattle.std.proofs.Common.{◌≡◌, ◌≢◌, ℕ, ◌+◌, ◌-◌, ◌≤◌, min, Bool, true, false, ◌&&◌, eqb, List, [], ◌∷◌, ◌++◌, length, take, drop, None, Some, refl, sym, ap, ◌∙◌, subst, append_assoc, length-drop, arith, Bor}
use Rattle.std.specs.Prelude.{nat_le}
use Rattle.std.proofs.lemmas.List.{drop-drop}
use Rattle.std.proofs.lemmas.Bool.Decides.{nat_tests}
use Rattle.file_tree.specs.Tree.{Item, AFile, AFolder, ALocked, Nothing, Trees, HoldsBytes, IsFrom, IsTextOf, is_fitting, known_text, node_of, text_of}
use Rattle.file_tree.specs.declared.job.Found.{Found}
use Rattle.file_tree.specs.declared.job.Node.{Node}
use Rattle.file_tree.specs.declared.job.Node.TheVariants as node
use Rattle.file_tree.specs.declared.job.Ask.{Ask}
use Rattle.file_tree.specs.declared.job.Ask.TheVariants as ask
use Rattle.file_tree.specs.declared.job.JobAnswer.{JobAnswer}
use Rattle.file_tree.specs.declared.job.JobAnswer.TheVariants as answer
use Rattle.ngx_pattern.specs.Pattern.{Pattern as SetPattern}
use Rattle.site_model.specs.declared.site.Site.{Site}
use Rattle.request_meaning.specs.Serving.{World}
use Rattle.reply_out.specs.request_phases.declared.state.Wait.{Wait}
use Rattle.request_flow.specs.declared.blocks.Sending.{Sending}
use Rattle.request_flow.specs.declared.flow.Stage.{Stage}
use Rattle.request_flow.specs.declared.flow.Stage.TheVariants.{Asked, Told, Reading, Came}
use Rattle.request_flow.specs.declared.flow.Flow.{Flow}
use Rattle.request_flow.specs.Padded.{padded}
use Rattle.request_flow.specs.Rests.{Rest, no_rest, closes_after, Follows}
use Rattle.ngx_outside.specs.Stepped.{IsReading}
use Rattle.request_flow.specs.Flows.{count_asked, told_item, told_text_item, file_rest, told_rest, one_rest, item_asked, stage_fits, is_block, placed_most, block_most, file_length}
use Rattle.request_flow.proofs.Padding.{padded_length, padded_split, padded_within, padded_whole, padded_none}

abbrev flow_at : Ask → Stage → Flow
flow_at job stage = record { ask = job; stage = stage }

-- the same is still to come
pub same_follows : (site : Site) (before after : Rest) (out : List ℕ) (closing : Bool) → after ≡ before → Follows site before after out out closing closing None None
same_follows site before after out closing e = record {
  bytes = ap (λ r. out ++ r.bytes) e;
  closes = ap (λ r. closes_after r closing) e;
  logged = ap (λ r. r.logs) e;
  level = ap (λ r. r.values) e;
  subs = ap (λ r. r.subs) e;
}

-- what was told of an item changes nothing of it
pub told_same : (item : Item) (node : Node) → node ≡ node_of item → told_item node item ≡ item
told_same (AFile bytes date) node e = ap (λ n. told_item n (AFile bytes date)) e ∙ ap (λ b. AFile b date) (padded_whole bytes)
told_same AFolder node e = ap (λ n. told_item n AFolder) e
told_same ALocked node e = ap (λ n. told_item n ALocked) e
told_same Nothing node e = ap (λ n. told_item n Nothing) e

known_same : (known text : List ℕ) → (known ≢ [] → text ≡ known) → known_text known text ≡ text
known_same [] text h = refl
known_same (b ∷ known) text h = sym (h (λ e. never e))
  where
    never : b ∷ known ≡ [] → ⊥
    never e = cc

-- what is told of an item says nothing of it but its text
told_by_text : (node : Node) (item : Item) → told_text_item node (text_of item) ≡ told_item node item
told_by_text (node.File len date) item = refl
told_by_text node.Folder item = refl
told_by_text node.Locked item = refl
told_by_text node.Missing item = refl

-- what was found of it changes nothing of it
pub found_same : (item : Item) (node : Node) (known text : List ℕ) → known ≡ text → (node ≡ node_of item) × IsTextOf item text → told_text_item node (known_text known (text_of item)) ≡ item
found_same item node known text same from =
    ap (told_text_item node) (known_same known (text_of item) (subst (IsTextOf item) (sym same) from.1)) ∙ (told_by_text node item ∙ told_same item node from.0)

-- what is told of an item is there
pub told_node : (node : Node) (item : Item) → node_of (told_item node item) ≡ node
told_node (node.File len date) item = ap (λ n. node.File n date) (padded_length len (text_of item))
told_node node.Folder item = refl
told_node node.Locked item = refl
told_node node.Missing item = refl

pub told_text : (node : Node) (item : Item) → text_of (told_item node item) ≡ padded (file_length node) (text_of item)
told_text (node.File len date) item = refl
told_text node.Folder item = sym (padded_none (text_of item))
told_text node.Locked item = sym (padded_none (text_of item))
told_text node.Missing item = sym (padded_none (text_of item))

module _ (w : World) (patterns : List SetPattern) (site : Site) (trees : Trees) where
  pub asked_follows : (job : Ask) (stage : Stage) (request : _) (wait : Wait) (found : Found) (text : Bor (List ℕ)) (given : JobAnswer) (out : List ℕ) (closing : Bool) →
      stage ≡ Asked request wait → given ≡ answer.Stat found.node text → found.text ≡ text.now → IsFrom trees job given →
      Follows site (one_rest w patterns site (flow_at job stage) trees) (one_rest w patterns site (flow_at job (Told request wait found)) trees) out out closing closing None None
  asked_follows (ask.Stat path of) stage request wait found text given out closing es eg et from =
      let same = found_same (trees of path) found.node found.text text.now et (subst (λ a. IsFrom trees (ask.Stat path of) a) eg from) in
      same_follows site _ _ out closing
      (ap (told_rest w patterns site (trees of) request.value wait) same ∙ sym (ap (λ s. one_rest w patterns site (flow_at (ask.Stat path of) s) trees) es))
  asked_follows (ask.Read path start count of) stage request wait found text given out closing es eg et from =
      absurd (subst (λ a. IsFrom trees (ask.Read path start count of) a) eg from)

  -- the next block is asked, or what came isn't all placed
  pub block_follows : (job job' : Ask) (sending : Sending) (left placed : ℕ) (out : List ℕ) (closing : Bool) → item_asked trees job' ≡ item_asked trees job →
      Follows site (one_rest w patterns site (flow_at job (Came sending left placed)) trees) (one_rest w patterns site (flow_at job' (Reading sending left)) trees) out out closing closing None None
  block_follows job job' sending left placed out closing e = same_follows site _ _ out closing (ap (file_rest sending left) e)

  pub placed_follows : (job : Ask) (sending : Sending) (left placed placed' : ℕ) (out : List ℕ) (closing : Bool) →
      Follows site (one_rest w patterns site (flow_at job (Came sending left placed)) trees) (one_rest w patterns site (flow_at job (Came sending left placed')) trees) out out closing closing None None
  placed_follows job sending left placed placed' out closing = same_follows site _ _ out closing refl

  -- all of a file is placed
  pub sent_follows : (job : Ask) (sending : Sending) (left placed : ℕ) (out : List ℕ) (closing : Bool) → left ≡ 0 →
      Follows site (one_rest w patterns site (flow_at job (Came sending left placed)) trees) no_rest out out closing closing (Some (sending.status, sending.len)) None
  sent_follows job sending left placed out closing e = record {
    bytes =
        ap (λ x. out ++ x) (sym (ap (λ n. padded n (drop (sending.len - n) (text_of (item_asked trees job)))) e
        ∙ padded_none (drop (sending.len - 0) (text_of (item_asked trees job)))));
    closes = refl;
    logged = refl;
    level = refl;
    subs = refl;
  }

-- a block that is a part of a file, and what is left after it
block_rest : (file : List ℕ) (len left start count : ℕ) → left ≤ len → start ≡ len - left → count ≤ left → start + count ≤ length file →
    take count (drop start file) ++ padded (left - count) (drop (len - (left - count)) file) ≡ padded left (drop (len - left) file)
block_rest file len left start count within at few there =
    let whole : count + (left - count) ≡ left = omega (arith, few) in
    let after : len - (left - count) ≡ start + count = omega (arith, within, at, few) in
    let d : length (drop start file) ≡ length file - start = length-drop start file in
    sym (
    ap (λ n. padded left (drop n file)) (sym at) ∙ ap (λ n. padded n (drop start file)) (sym whole) ∙ padded_split count (left - count) (drop start file)
    ∙ ap (λ b. b ++ padded (left - count) (drop count (drop start file))) (padded_within count (drop start file) (omega (arith, d, there)))
    ∙ ap (λ b. take count (drop start file) ++ padded (left - count) b) (drop-drop count start file)
    ∙ ap (λ n. take count (drop start file) ++ padded (left - count) (drop n file)) (sym after)
    )

and_left : (a b : Bool) → (a && b) ≡ true → a ≡ true
and_left true b e = refl
and_left false b e = cc

and_right : (a b : Bool) → (a && b) ≡ true → b ≡ true
and_right true b e = e
and_right false b e = cc

same_number : (a b : ℕ) → eqb a b ≡ true → a ≡ b
same_number a b e = grind (arith, nat_tests)

within_number : (a b : ℕ) → nat_le a b ≡ true → a ≤ b
within_number a b e = grind (arith, nat_tests)

-- what a job for a block says of it
pub record Block (len left start count : ℕ) : Type 0 where
  pub within : left ≤ len
  pub at : start ≡ len - left
  pub few : count ≤ left

pub block_of : (sending : Sending) (left size start count of : ℕ) (path : List ℕ) → stage_fits (ask.Read path start count of) (Reading sending left) size ≡ true → Block sending.len left start count
block_of sending left size start count of path e =
    let len = sending.len in
    let a = and_left (nat_le left len && is_block len left (ask.Read path start count of)) (nat_le size placed_most) e in
    let b = and_right (nat_le left len) (is_block len left (ask.Read path start count of)) a in
    let n = same_number count (min left block_most) (and_right (eqb start (len - left)) (eqb count (min left block_most)) b) in
    record {
      within = within_number left len (and_left (nat_le left len) (is_block len left (ask.Read path start count of)) a);
      at = same_number start (len - left) (and_left (eqb start (len - left)) (eqb count (min left block_most)) b);
      few = omega (arith, n);
    }

-- a block of an item came
came_rest : (item : Item) (len left start count : ℕ) (bytes : List ℕ) → Block len left start count → length bytes ≡ count → HoldsBytes item start count bytes →
    bytes ++ padded (left - length bytes) (drop (len - (left - length bytes)) (text_of item)) ≡ padded left (drop (len - left) (text_of item))
came_rest (AFile file date) len left start count bytes b n h =
    ap (λ k. bytes ++ padded (left - k) (drop (len - (left - k)) file)) n
    ∙ ap (λ x. x ++ padded (left - count) (drop (len - (left - count)) file)) h.1
    ∙ block_rest file len left start count b.within b.at b.few h.0
came_rest AFolder len left start count bytes b n h = absurd h
came_rest ALocked len left start count bytes b n h = absurd h
came_rest Nothing len left start count bytes b n h = absurd h

pub reading_follows : (w : World) (patterns : List SetPattern) (site : Site) (trees : Trees) (job : Ask) (stage : Stage) (sending : Sending) (left placed size : ℕ) (bytes : Bor (List ℕ)) (given : JobAnswer) (out out' : List ℕ) (closing : Bool) →
    stage ≡ Reading sending left → given ≡ answer.Read bytes → out' ≡ out ++ bytes.now → stage_fits job stage size ≡ true → is_fitting job given ≡ true → IsFrom trees job given →
    Follows site (one_rest w patterns site (flow_at job stage) trees) (one_rest w patterns site (flow_at job (Came sending (left - length bytes.now) placed)) trees) out out' closing closing None None
reading_follows w patterns site trees (ask.Read path start count of) stage sending left placed size bytes given out out' closing es eg eo fits fitting from =
    let job : Ask = ask.Read path start count of in
    let item = trees of path in
    let len = sending.len in
    let b = block_of sending left size start count of path (subst (λ s. stage_fits job s size ≡ true) es fits) in
    let n = same_number (length bytes.now) count (subst (λ a. is_fitting job a ≡ true) eg fitting) in
    subst (λ s. Follows site (one_rest w patterns site (flow_at job s) trees) (one_rest w patterns site (flow_at job (Came sending (left - length bytes.now) placed)) trees) out out' closing closing None None) (sym es)
    (record {
      bytes =
          ap (λ o. o ++ padded (left - length bytes.now) (drop (len - (left - length bytes.now)) (text_of item))) eo
          ∙ append_assoc out bytes.now (padded (left - length bytes.now) (drop (len - (left - length bytes.now)) (text_of item)))
          ∙ ap (λ x. out ++ x) (came_rest item len left start count bytes.now b n (subst (λ a. IsFrom trees job a) eg from));
      closes = refl;
      logged = refl;
      level = refl;
      subs = refl;
    })
reading_follows w patterns site trees (ask.Stat path of) stage sending left placed size bytes given out out' closing es eg eo fits fitting from = absurd (subst (λ a. IsFrom trees (ask.Stat path of) a) eg from)

-- a block of as many bytes as are asked fits
pub fits_block : (job : Ask) (block : Bor (List ℕ)) → IsReading (Some job) → length block.now ≡ count_asked job → is_fitting job (answer.Read block) ≡ true
fits_block (ask.Stat path of) block reads long = absurd reads
fits_block (ask.Read path start count of) block reads long = grind (arith, nat_tests, long)

-- A page begins.
use Rattle.std.proofs.Common.{◌≡◌, ℕ, zero, suc, ◌+◌, ◌-◌, ◌≤◌, Bool, true, false, cond, List, [], ◌∷◌, ◌++◌, length, Option, None, Some, refl, sym, ap, ◌∙◌, arith}
use Rattle.std.proofs.lemmas.List.{append-nil}
use Rattle.acts.specs.Act.{Done, ◌>>=◌, settled}
use Rattle.acts.specs.Vars.{Vars}
use Rattle.file_tree.specs.Tree.{Nothing, Tree, Trees, known_text}
use Rattle.ngx_pattern.specs.Pattern.{Pattern as SetPattern}
use Rattle.site_model.specs.declared.site.Site.{Site}
use Rattle.outgoing.specs.Leaving.{framed_as, most}
use Rattle.request_flow.specs.race_meaning.Laws.{ShippedAreFit}
use Rattle.request_flow.specs.race_meaning.Named.{IsRaceless}
use Rattle.request_meaning.specs.Laws.{shipped}
use Rattle.request_meaning.specs.Replies.{Came, most_depth, reply, run}
use Rattle.request_meaning.specs.Serving.{World, Serving, Answer, Asked, Prepared, Standing}
use Rattle.family_meaning.proofs.Exacts.{settled_run}
use Rattle.family_meaning.specs.Left.{act_subs, subs_left}
use Rattle.family_meaning.specs.Line.{rest}
use Rattle.subrequests.specs.family_order.Items.{alone, row_items}
use Rattle.subrequests.specs.family_order.Items.Stance.{Going}
use Rattle.request_flow.specs.family_rest.Laws.{ReachedStaysWell, StepsKeepStill}
use Rattle.request_flow.specs.family_rest.Still.{line_of, still, subs_still}
use Rattle.request_flow.specs.request_phases.Rounds.{asked_in, prepared_as, world_in}
use Rattle.request_flow.specs.request_phases.declared.ground.Ground.{Ground}
use Rattle.request_flow.specs.request_phases.declared.state.Conclusion.{Conclusion}
use Rattle.request_flow.specs.request_phases.declared.state.Conclusion.TheVariants as outcomes
use Rattle.request_flow.specs.rewrite_code.Places.{standing_seen}
use Rattle.access_flow.specs.node_turn.Nodes as nodes
use Rattle.access_flow.specs.node_turn.Nodes.{after_phases, bytes_for}
use Rattle.subrequests.specs.Moved.{BeginsWith, files, meant}
use Rattle.page_response.specs.Pages.{IsReached, left_in, pages_left, step_weight}
use Rattle.page_response.specs.declared.pages.Pages.{Pages}
use Rattle.request_flow.proofs.Turns.{subs_settled}
use Rattle.request_flow.specs.Padded as flow
use Rattle.request_flow.specs.Pages.{IsTold, framed_if, page_act, page_by, start_rest}
use Rattle.request_flow.specs.Reached.{PageReached}
use Rattle.request_flow.specs.Rests.{Rest, finished}
use Rattle.request_flow.specs.Sents.{known_bytes, known_len, known_tree, with_length}
use Rattle.request_flow.specs.declared.page.PageHead.{PageHead}
use Rattle.request_flow.specs.declared.page.PageStart.{PageStart}
use Rattle.request_flow.specs.declared.steps.Known.{Known}
use Rattle.request_flow.specs.declared.steps.Known.TheVariants as knowns
use Rattle.response_flow.specs.Flights.{most_kept, page_left, page_most, with_opened}
use Rattle.response_flow.specs.Opens.{bytes_known, file_text}

-- ---- the bytes of the file

same_padded : (n : ℕ) (text : List ℕ) → flow.padded n text ≡ nodes.padded n text
unfolding flow.padded nodes.padded
same_padded zero text = refl
same_padded (suc n) [] = ap (λ r. 0 ∷ r) (same_padded n [])
same_padded (suc n) (b ∷ text) = ap (λ r. b ∷ r) (same_padded n text)

file_len : Conclusion → ℕ
file_len (outcomes.Text code text) = 0
file_len (outcomes.File len date) = len
file_len (outcomes.Page code) = 0
file_len (outcomes.Redirect code to) = 0
file_len outcomes.Close = 0

told_bytes : (w : World) (a : Asked) (s : Standing) (len : ℕ) (text : List ℕ) (o : Conclusion) → with_length len o ≡ o →
    prepared_as w a s (flow.padded len text) o ≡ prepared_as w a s (bytes_for o text) o
told_bytes w a s len text (outcomes.Text code t) e = refl
told_bytes w a s len text (outcomes.File told date) e =
    ap (λ b. prepared_as w a s b (outcomes.File told date)) (ap (λ n. flow.padded n text) (same_len e) ∙ same_padded told text)
  where
    same_len : outcomes.File len date ≡ outcomes.File told date → len ≡ told
    same_len h = cc
told_bytes w a s len text (outcomes.Page code) e = refl
told_bytes w a s len text (outcomes.Redirect code to) e = refl
told_bytes w a s len text outcomes.Close e = refl

known_is : (known : Known) (trees : Trees) → known_bytes known trees ≡ flow.padded (known_len known) (known_text (bytes_known known) (file_text known trees))
unfolding flow.padded
known_is (knowns.Nothing of) trees = refl
known_is (knowns.Told f) trees = refl

finished_is : (w : World) (x : Prepared) → finished w (Done x) ≡ after_phases w most_depth [] x
unfolding finished ◌>>=◌
finished_is w x = refl

no_files : Tree
no_files path = Nothing

-- ---- one node alone

still_alone : (w : World) (tree : Tree) (m : Serving Answer) (vars : Vars) → (still w tree (alone 0 1 (Going most_depth m)) vars).body ≡ (run tree (reply w tree most_depth) m vars).body
unfolding still line_of row_items rest
still_alone w tree m vars = append-nil (run tree (reply w tree most_depth) m vars).body

subs_alone : (w : World) (tree : Tree) (m : Serving Answer) (vars : Vars) → subs_still w tree (alone 0 1 (Going most_depth m)) vars ≡ act_subs w tree most_depth m vars
unfolding subs_still line_of row_items subs_left
subs_alone w tree m vars = plus_none (act_subs w tree most_depth m vars)
  where
    plus_none : (n : ℕ) → n + 0 ≡ n
    plus_none n = omega arith

-- acts that settle as others come to the same
came_same : (w : World) (tree : Tree) (m n : Serving Answer) (old new : Vars) → settled m old ≡ settled n new → run tree (reply w tree most_depth) m old ≡ run tree (reply w tree most_depth) n new
came_same w tree m n old new e =
    settled_run tree (reply w tree most_depth) m old
    ∙ (ap (λ s. run tree (reply w tree most_depth) s.0 s.1) e
    ∙ sym (settled_run tree (reply w tree most_depth) n new))

subs_same : (w : World) (tree : Tree) (m n : Serving Answer) (old new : Vars) → settled m old ≡ settled n new → act_subs w tree most_depth m old ≡ act_subs w tree most_depth n new
subs_same w tree m n old new e =
    subs_settled tree _ _ m old
    ∙ (ap (λ s. act_subs w tree most_depth s.0 s.1) e
    ∙ sym (subs_settled tree _ _ n new))

-- ---- what is put together

abbrev left_by : (pending : List ℕ) → Option (List ℕ) → (status sent : ℕ) → (body : List ℕ) → (subs : ℕ) → Rest
left_by pending block status sent body subs = record { bytes = pending ++ framed_as block body; stays = true; logs = (status, sent + length body) ∷ []; values = None; subs = subs }

none_more : (n : ℕ) → 0 + n ≡ n
none_more n = omega arith

framed_cases : (chunked : Bool) (body : List ℕ) → framed_as (cond chunked (Some []) None) body ≡ framed_if chunked body
framed_cases true body = refl
framed_cases false body = refl

put_together : (page : PageHead) (came : Came Answer) (subs : ℕ) (pending : List ℕ) (block : Option (List ℕ)) (status sent : ℕ) (body : List ℕ) (asked : ℕ) →
    pending ≡ page.head → block ≡ cond page.chunked (Some []) None → status ≡ page.status → sent ≡ 0 → body ≡ came.body → asked ≡ subs →
    left_by pending block status sent body asked ≡ page_by page came subs
put_together page came subs pending block status sent body asked ep eb es en ec ea =
    ap (λ x. left_by x block status sent body asked) ep
    ∙ (ap (λ x. left_by page.head x status sent body asked) eb
    ∙ (ap (λ x. left_by page.head (cond page.chunked (Some []) None) x sent body asked) es
    ∙ (ap (λ x. left_by page.head (cond page.chunked (Some []) None) page.status x body asked) en
    ∙ (ap (λ x. left_by page.head (cond page.chunked (Some []) None) page.status 0 x asked) ec
    ∙ (ap (λ x. left_by page.head (cond page.chunked (Some []) None) page.status 0 came.body x) ea
    ∙ (ap (λ n. record { bytes = page.head ++ framed_as (cond page.chunked (Some []) None) came.body; stays = true; logs = (page.status, n) ∷ []; values = None; subs = subs }) (none_more (length came.body))
    ∙ ap (λ b. record { bytes = page.head ++ b; stays = true; logs = (page.status, length came.body) ∷ []; values = None; subs = subs }) (framed_cases page.chunked came.body)))))))

module _ (laws : ReachedStaysWell) (keep : StepsKeepStill) (fit : ShippedAreFit) (patterns : List SetPattern) (g : Ground) (start : PageStart) (p : Pages)
    (told : IsTold start.page) (begins : BeginsWith g start.request.value.phases start.request.value.vars start.page.outcome (bytes_known start.page.known) p.family)
    (text : (trees : Trees) → files trees p.family 0 ≡ file_text start.page.known trees) (tree_is : p.family.tree ≡ known_tree start.page.known)
    (many : length p.family.nodes ≡ 1 + start.request.value.opened) where
  abbrev w : World
  w = world_in patterns g shipped

  abbrev site : Site
  site = g.site.now

  abbrev vars : Vars
  vars = start.request.value.vars

  abbrev len : ℕ
  len = known_len start.page.known

  abbrev known : List ℕ
  known = bytes_known start.page.known

  abbrev made : List ℕ → Serving Answer
  made t = after_phases w most_depth [] (prepared_as w (asked_in start.request.value.phases) (standing_seen site start.request.value.phases.at) (bytes_for start.page.outcome t) start.page.outcome)

  act_is : (t : List ℕ) → page_act w patterns site start.request.value start.page (flow.padded len t) ≡ made t
  act_is t =
      let a = asked_in start.request.value.phases in
      let s = standing_seen site start.request.value.phases.at in
      finished_is w (prepared_as w a s (flow.padded len t) start.page.outcome) ∙ ap (after_phases w most_depth []) (told_bytes w a s len t start.page.outcome told)

  pub reached : PageReached w patterns site start → IsReached w patterns site p
  reached h = λ texts.
      let t = known_text known (texts 0) in
      let s = h t in
      laws.goes w no_files (alone 0 1 (Going most_depth s.first)) s.table (meant w patterns site texts p.family) p.family.vars s.reached
      (begins patterns no_files texts s.first s.table (s.same ∙ ap (λ a. settled a vars) (act_is t))).goes

  pub same : (trees : Trees) → IsRaceless w.server → PageReached w patterns site start → p.outgoing.pending ≡ start.page.head → p.outgoing.block ≡ cond start.page.chunked (Some []) None →
      p.status ≡ start.page.status → p.sent ≡ 0 → page_left w patterns site trees p ≡ with_opened start.request.value.opened (start_rest w patterns site trees start)
  same trees raceless h ep eb es en =
      let f = p.family in
      let tree = trees f.tree in
      let t = known_text known (file_text start.page.known trees) in
      let texts = files trees f in
      let s = h t in
      let act = page_act w patterns site start.request.value start.page in
      let o = begins patterns tree texts s.first s.table (s.same ∙ ap (λ a. settled a vars) (act_is t ∙ ap (λ x. made (known_text known x)) (sym (text trees)))) in
      let went = keep.goes w (fit w refl) raceless tree (alone 0 1 (Going most_depth s.first)) s.table (meant w patterns site texts f) f.vars s.reached o.goes in
      let body : (left_in w patterns site trees p).body ≡ (run tree (reply w tree most_depth) (act (flow.padded len t)) vars).body =
      sym (went.body ∙ ap (λ b. b ++ (left_in w patterns site trees p).body) (sym went.output))
      ∙ (still_alone w tree s.first s.table ∙ ap (λ (r : Came Answer). r.body) (came_same w tree s.first (act (flow.padded len t)) s.table vars s.same)) in
      let subs : subs_still w tree (meant w patterns site texts f) f.vars ≡ act_subs w tree most_depth (act (flow.padded len t)) vars =
      sym (keep.counts_going w (fit w refl) raceless tree (alone 0 1 (Going most_depth s.first)) s.table (meant w patterns site texts f) f.vars s.reached o.goes
      ∙ (ap (λ n. n + subs_still w tree (meant w patterns site texts f) f.vars) o.opens ∙ none_more (subs_still w tree (meant w patterns site texts f) f.vars)))
      ∙ (subs_alone w tree s.first s.table ∙ subs_same w tree s.first (act (flow.padded len t)) s.table vars s.same) in
      let opened = start.request.value.opened in
      put_together start.page (run tree (reply w tree most_depth) (act (flow.padded len t)) vars) (act_subs w tree most_depth (act (flow.padded len t)) vars + opened)
      p.outgoing.pending p.outgoing.block p.status p.sent (left_in w patterns site trees p).body _ ep eb es en body
      (less (length f.nodes) (subs_still w tree (meant w patterns site texts f) f.vars) _ opened many subs)
      ∙ (ap (λ k. with_opened opened (page_by start.page (run (trees k) (reply w (trees k) most_depth) (act (flow.padded len t)) vars) (act_subs w (trees k) most_depth (act (flow.padded len t)) vars))) tree_is
      ∙ ap (λ b. with_opened opened (page_by start.page (run (trees (known_tree start.page.known)) (reply w (trees (known_tree start.page.known)) most_depth) (act b) vars) (act_subs w (trees (known_tree start.page.known)) most_depth (act b) vars)))
      (sym (known_is start.page.known trees)))
    where
      less : (nodes asked subs opened : ℕ) → nodes ≡ 1 + opened → asked ≡ subs → nodes + asked - 1 ≡ subs + opened
      less nodes asked subs opened e f = omega (arith, e, f)

-- ---- how much is left to do

pub few : (p : Pages) → p.steps ≡ 18446744073709551615 → length p.outgoing.pending ≤ most → most_kept + pages_left p ≤ page_most
unfolding most_kept page_most step_weight
few p e h = omega (arith, e, h)

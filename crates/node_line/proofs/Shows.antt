-- A body that is shown in any case.
use Rattle.std.proofs.Common.{◌≡◌, ◌++◌, ◌≢◌, ℕ, zero, suc, ◌<◌, ◌&&◌, Bool, true, false, nat_le, nat_lt, List, [], ◌∷◌, length, take, drop, Option, None, Some, refl, sym, ap, subst, length-drop, arith}
use Rattle.std.proofs.lemmas.Bool.{eqb-true}
use Rattle.std.proofs.lemmas.Bool.Decides.{nat_tests}
use Rattle.std.proofs.lemmas.List.{nil_from_length}
use Rattle.acts.specs.Act.{Done, Write}
use Rattle.ngx_pattern.specs.Pattern.{Pattern as SetPattern}
use Rattle.family_meaning.specs.ngx_variables.declared.request.Main.{Main}
use Rattle.node_turn.specs.site_model.declared.site.Site.{Site}
use Rattle.family_meaning.specs.request_meaning.Serving.{World, Serving, Answer}
use Rattle.node_turn.specs.request_phases.declared.state.Phases.{Phases}
use Rattle.family_meaning.specs.Moves.{AllEnd, IsGood}
use Rattle.family_meaning.specs.Suspended.{document_rest}
use Rattle.filter_api.specs.Members.{Machine}
use Rattle.filter_api.specs.declared.stage.Stage.{Stage as Filter}
use Rattle.ssi_text.specs.Marks.{Mark, marks}
use Rattle.family_meaning.specs.request_meaning.Bodies.{machines}
use Rattle.family_meaning.specs.request_meaning.Documents.{Doc}
use Rattle.node_turn.specs.page_body.Pages.{waiting, stages_of}
use Rattle.node_turn.specs.page_body.declared.page.Page.{Page}
use Rattle.node_turn.specs.Nodes.{answer_seen, asked_path, captured_act, captured_at, later, hand, lent, page_at, placed_act, served_act, stage_act, stage_heard}
use Rattle.node_turn.specs.Stages.{hand_at, node_act, node_heard}
use Rattle.node_turn.specs.declared.node.Body.{Body}
use Rattle.node_turn.specs.declared.node.Node.{Node}
use Rattle.node_turn.specs.declared.node.Place.{Place}
use Rattle.node_turn.specs.declared.node.Place.TheVariants.{Row, Stub, Gathers, Captured}
use Rattle.node_turn.specs.declared.node.Stage.{Stage}
use Rattle.node_turn.specs.declared.node.Stage.TheVariants as stages
use Rattle.node_line.specs.Stubs.{gives_bytes, good, joins_at, shows}
use Rattle.node_line.proofs.Keeping.{all_then}

left_of : (a b : Bool) → (a && b) ≡ true → a ≡ true
left_of true b e = refl
left_of false b e = cc

right_of : (a b : Bool) → (a && b) ≡ true → b ≡ true
right_of true b e = e
right_of false b e = cc

-- no byte is withheld
pub fresh : (place : Place) → joins_at place ≡ true → (stub : List ℕ) × (place ≡ Stub stub [])
fresh Row e = cc
fresh (Stub stub text) e = (stub, ap (Stub stub) (nil_from_length text (eqb-true (length text) 0 e)))
fresh (Gathers stub text) e = cc
fresh (Captured stub text) e = cc

-- some bytes are at hand
some_in : (xs : List ℕ) (count : ℕ) → count ≢ 0 → 0 < length xs → take count xs ≢ []
some_in [] count k h = λ e. absurd (omega (arith, h))
some_in (x ∷ xs) zero k h = λ e. k refl
some_in (x ∷ xs) (suc count) k h = λ e. cc

less : (a b : ℕ) → nat_lt a b ≡ true → a < b
less a b e = grind (arith, nat_tests)

low : (status : ℕ) → nat_lt status 400 ≡ true → nat_le 400 status ≡ false
low status e = grind (arith, nat_tests)

pub some_taken : (s : Stage) (count : ℕ) → shows s ≡ true → (count ≡ 0 → ⊥) → take count (hand_at s) ≢ []
some_taken (stages.Begins ssi) count e k = cc
some_taken (stages.Asks wait ssi) count e k = cc
some_taken (stages.Told wait file ssi) count e k = cc
some_taken (stages.Places b) count e k =
    let body = b.value in
    let within = less body.from (length body.bytes) (right_of (nat_lt body.answered.status 400) (nat_lt body.from (length body.bytes)) e) in
    let size : length (drop body.from body.bytes) ≡ _ = length-drop body.from body.bytes in
    some_in (drop body.from body.bytes) count k (omega (arith, within, size))
some_taken (stages.Serves b) count e k = cc
some_taken (stages.Reads b) count e k = cc
some_taken (stages.Captures c) count e k = cc
some_taken (stages.Ends a) count e k = cc

-- it comes to an answer below 400
page_good : (w : World) (site : Site) (p : Phases) (left : ℕ) (answer : Answer) (page : Page) (bytes : List ℕ) → IsGood answer → AllEnd IsGood (page_at w site p left answer page bytes)
unfolding page_at document_rest
page_good w site p left answer page bytes h = all_then IsGood _ (λ u. Done answer) (λ u. h)

placed_good : (w : World) (site : Site) (p : Phases) (left : ℕ) (answer : Answer) (page : Option Page) (bytes more : List ℕ) → IsGood answer → AllEnd IsGood (placed_act w site p left answer page bytes more)
placed_good w site p left answer None bytes more h = h
placed_good w site p left answer (Some page) bytes more h = page_good w site p left answer page more h

stage_good : (w : World) (patterns : List SetPattern) (site : Site) (p : Phases) (left : ℕ) (path : List ℕ) (s : Stage) (text : List ℕ) → shows s ≡ true → AllEnd IsGood (stage_act w patterns site p left path s text)
stage_good w patterns site p left path (stages.Begins ssi) text e = cc
stage_good w patterns site p left path (stages.Asks wait ssi) text e = cc
stage_good w patterns site p left path (stages.Told wait file ssi) text e = cc
stage_good w patterns site p left path (stages.Places b) text e =
    placed_good w site p left (answer_seen site p b.value.answered) b.value.page (hand b.value) (later b.value text)
    (low b.value.answered.status (left_of (nat_lt b.value.answered.status 400) (nat_lt b.value.from (length b.value.bytes)) e))
stage_good w patterns site p left path (stages.Serves b) text e = cc
stage_good w patterns site p left path (stages.Reads b) text e = cc
stage_good w patterns site p left path (stages.Captures c) text e = cc
stage_good w patterns site p left path (stages.Ends a) text e = cc

-- further on too
served_good : (w : World) (site : Site) (p : Phases) (left : ℕ) (answer : Answer) (page : Option Page) (text : List ℕ) → IsGood answer → AllEnd IsGood (served_act w site p left answer page text)
served_good w site p left answer None text h = h
served_good w site p left answer (Some page) text h = page_good w site p left answer page text h

document_good : (w : World) (answer : Answer) (doc : Doc) (parts : List Mark) (machines : List Machine) (stages : List Filter) (bytes : List ℕ) → IsGood answer → AllEnd IsGood (document_rest w answer doc parts machines stages bytes)
unfolding document_rest
document_good w answer doc parts machines stages bytes h = all_then IsGood _ (λ u. Done answer) (λ u. h)

heard_page : (w : World) (site : Site) (p : Phases) (left : ℕ) (answer : Answer) (page : Page) (bytes name text : List ℕ) → IsGood answer → AllEnd IsGood (captured_at w site p left answer page bytes name text)
unfolding captured_at
heard_page w site p left answer page bytes name text h =
    all_then IsGood _ (λ doc. document_rest w answer doc (marks (waiting page)) (machines w page.facts) (stages_of page) bytes)
    (λ doc. document_good w answer doc (marks (waiting page)) (machines w page.facts) (stages_of page) bytes h)

captured_good : (w : World) (site : Site) (p : Phases) (left : ℕ) (answer : Answer) (page : Option Page) (more name text : List ℕ) → IsGood answer → AllEnd IsGood (captured_act w site p left answer page more name text)
captured_good w site p left answer None more name text h = h
captured_good w site p left answer (Some page) more name text h = heard_page w site p left answer page more name text h

module _ (w : World) (patterns : List SetPattern) (site : Site) (p : Phases) (left : ℕ) (path text : List ℕ) where
  pub stage_ends : (s : Stage) → good s ≡ true → AllEnd IsGood (stage_act w patterns site p left path s text)
  stage_ends (stages.Begins ssi) e = cc
  stage_ends (stages.Asks wait ssi) e = cc
  stage_ends (stages.Told wait file ssi) e = cc
  stage_ends (stages.Places b) e = placed_good w site p left (answer_seen site p b.value.answered) b.value.page (hand b.value) (later b.value text) (low b.value.answered.status e)
  stage_ends (stages.Serves b) e = served_good w site p left (answer_seen site p b.value.answered) b.value.page (later b.value text) (low b.value.answered.status e)
  stage_ends (stages.Reads b) e = served_good w site p left (answer_seen site p b.value.answered) b.value.page (later b.value text) (low b.value.answered.status e)
  stage_ends (stages.Captures c) e =
      captured_good w site p left (answer_seen site p c.body.value.answered) c.body.value.page (later c.body.value text) c.name c.text (low c.body.value.answered.status e)
  stage_ends (stages.Ends b) e = low b.value.answered.status e

  pub heard_ends : (s : Stage) (body : List ℕ) → good s ≡ true → AllEnd IsGood (stage_heard w patterns site p left path s text body)
  heard_ends (stages.Begins ssi) body e = cc
  heard_ends (stages.Asks wait ssi) body e = cc
  heard_ends (stages.Told wait file ssi) body e = cc
  heard_ends (stages.Places b) body e = stage_ends (stages.Places b) e
  heard_ends (stages.Serves b) body e = stage_ends (stages.Serves b) e
  heard_ends (stages.Reads b) body e = stage_ends (stages.Reads b) e
  heard_ends (stages.Captures c) body e =
      captured_good w site p left (answer_seen site p c.body.value.answered) c.body.value.page (later c.body.value text) c.name body (low c.body.value.answered.status e)
  heard_ends (stages.Ends b) body e = stage_ends (stages.Ends b) e

-- some bytes are written next
pub writes : (w : World) (patterns : List SetPattern) (site : Site) (p : Phases) (left : ℕ) (path text : List ℕ) (s : Stage) → gives_bytes s ≡ true →
    (bytes : List ℕ) × (m : Serving Answer) × (bytes ≢ []) × (stage_act w patterns site p left path s text ≡ Write bytes m)
writes w patterns site p left path text (stages.Begins ssi) e = cc
writes w patterns site p left path text (stages.Asks wait ssi) e = cc
writes w patterns site p left path text (stages.Told wait file ssi) e = cc
writes w patterns site p left path text (stages.Places b) e =
    by b.value.page (some_left b.value.from b.value.bytes (less b.value.from (length b.value.bytes) e))
  where
    some_left : (from : ℕ) (xs : List ℕ) → from < length xs → drop from xs ≢ []
    some_left from [] h = λ z. absurd (omega (arith, h))
    some_left zero (x ∷ xs) h = λ z. cc
    some_left (suc from) (x ∷ xs) h = some_left from xs (omega (arith, h))

    more : (xs ys : List ℕ) → xs ≢ [] → xs ++ ys ≢ []
    more [] ys h = λ z. h refl
    more (x ∷ xs) ys h = λ z. cc

    by : (page : Option Page) → hand b.value ≢ [] →
        (bytes : List ℕ) × (m : Serving Answer) × (bytes ≢ []) × (placed_act w site p left (answer_seen site p b.value.answered) page (hand b.value) (later b.value text) ≡ Write bytes m)
    by None h = (hand b.value ++ later b.value text, Done (answer_seen site p b.value.answered), more (hand b.value) (later b.value text) h, refl)
    by (Some page) h = (hand b.value, page_at w site p left (answer_seen site p b.value.answered) page (later b.value text), h, refl)
writes w patterns site p left path text (stages.Serves b) e = cc
writes w patterns site p left path text (stages.Reads b) e = cc
writes w patterns site p left path text (stages.Captures c) e = cc
writes w patterns site p left path text (stages.Ends a) e = cc

pub ends_good : (w : World) (patterns : List SetPattern) (site : Site) (main : Main) (n : Node) (text : List ℕ) → shows n.stage ≡ true → AllEnd IsGood (node_act w patterns site main n text)
ends_good w patterns site main n text e = stage_good w patterns site (lent main n.phases) n.left (asked_path n.ask) n.stage text e

-- what a node comes to whose answer is good, by itself and once it hears a reply
pub act_good : (w : World) (patterns : List SetPattern) (site : Site) (main : Main) (n : Node) (text : List ℕ) → good n.stage ≡ true → AllEnd IsGood (node_act w patterns site main n text)
act_good w patterns site main n text e = stage_ends w patterns site (lent main n.phases) n.left (asked_path n.ask) text n.stage e

pub heard_good : (w : World) (patterns : List SetPattern) (site : Site) (main : Main) (n : Node) (text body : List ℕ) → good n.stage ≡ true → AllEnd IsGood (node_heard w patterns site main n text body)
heard_good w patterns site main n text body e = heard_ends w patterns site (lent main n.phases) n.left (asked_path n.ask) text n.stage body e

pub node_writes : (w : World) (patterns : List SetPattern) (site : Site) (main : Main) (n : Node) (text : List ℕ) → gives_bytes n.stage ≡ true →
    (bytes : List ℕ) × (m : Serving Answer) × (bytes ≢ []) × (node_act w patterns site main n text ≡ Write bytes m)
node_writes w patterns site main n text e = writes w patterns site (lent main n.phases) n.left (asked_path n.ask) text n.stage e

-- Quiet steps, of any nodes in any order.
use Rattle.std.proofs.Common.{◌≡◌, ℕ, List, [], Option, None, Some, refl, sym, ap, ◌∙◌}
use Rattle.file_tree.specs.Tree.{Tree}
use Rattle.acts.specs.Vars.{Vars}
use Rattle.acts.specs.Act.{Write}
use Rattle.request_meaning.specs.Serving.{World, Serving, Reply, Answer}
use Rattle.request_meaning.specs.Replies
use Rattle.request_meaning.specs.Replies.{run, or_stub}
use Rattle.family_meaning.specs.Line.{Line, Left, rest, before, reply_of, status_of}
use Rattle.family_meaning.specs.Line.Line.{Gives}
use Rattle.family_meaning.specs.Moves.{Quiet, Quiets}
use Rattle.family_meaning.specs.Moves.Quiet.{Learns, Places, Placed, Merges, Opens, Asks, Hears, Leaves, Keeps, Decides, Chooses, Parts, Gone, PastBytes, PastNode, PastWait, Within, PastStub, WithinStub}
use Rattle.family_meaning.specs.Moves.Quiets.{Rests, Goes}
use Rattle.family_meaning.specs.Exact.{Same, OrderIsNoMatter}
use Rattle.family_meaning.proofs.Exacts.{learns, places, merges, opens, asks, hears, leaves, keeps, decides, chooses, parts, gone}

placed : (w : World) (tree : Tree) (node left : ℕ) (m : Serving Answer) (line : Line) (vars : Vars) → Same w tree (Gives node left (Write [] m) line) vars (Gives node left m line) vars
unfolding rest run
placed w tree node left m line vars last = refl

-- a step past a node that waits: the rest of the line is the same whatever comes of the reply
past_wait : (w : World) (tree : Tree) (left : ℕ) (k : Reply → Serving Answer) (line line' : Line) → ((vars : Vars) → Same w tree line vars line' vars) →
    (answer : Option Answer) (body : List ℕ) (vars : Vars) →
    ◌≡◌ {A = Left} (elim answer [
      | None ↦ rest w tree line None vars
      | Some answer ↦ let q = run tree (Replies.reply w tree left) (k (reply_of answer body)) vars in
          before q.body (rest w tree line (Some q.result) q.vars)
    ]) (elim answer [
      | None ↦ rest w tree line' None vars
      | Some answer ↦ let q = run tree (Replies.reply w tree left) (k (reply_of answer body)) vars in
          before q.body (rest w tree line' (Some q.result) q.vars)
    ])
past_wait w tree left k line line' same None body vars = same vars None
past_wait w tree left k line line' same (Some answer) body vars =
    let q = run tree (Replies.reply w tree left) (k (reply_of answer body)) vars in
    ap (before q.body) (same q.vars (Some q.result))

pub quiet_same : (w : World) (tree : Tree) (line line' : Line) → Quiet w tree line line' → (vars : Vars) → Same w tree line vars line' vars
unfolding rest
quiet_same w tree _ _ (Learns {node} {left} {path} {k} {line}) vars last = learns w tree node left path k line vars last
quiet_same w tree _ _ (Places {node} {left} {some} {more} {m} {line}) vars last = places w tree node left some more m line vars last
quiet_same w tree _ _ (Placed {node} {left} {m} {line}) vars last = placed w tree node left m line vars last
quiet_same w tree _ _ (Merges {node} {left} {first} {second} {m} {line}) vars last = merges w tree node left first second m line vars last
quiet_same w tree _ _ (Opens {node} {left} {child} {m} {line} number) vars last = opens w tree node left number child m line vars last
quiet_same w tree _ _ (Asks {node} {left} {child} {k} {line} number) vars last = asks w tree node left number child k line vars last
quiet_same w tree _ _ (Hears {node} {left} {own} {line} {k} said e) vars last = hears w tree node left own k line vars said e last
quiet_same w tree _ _ (Leaves {node} {left} {answer} {line} h) vars last = leaves w tree node left answer line vars h last
quiet_same w tree _ _ (Keeps {own} {line} {stub} s h) vars last = keeps w tree own stub line vars s h last
quiet_same w tree _ _ (Decides {own} {line} {stub} said e h) vars last = decides w tree own stub line vars said e h last
quiet_same w tree _ _ (Chooses {own} {line} {stub} node left said e) vars last = chooses w tree own stub node left line vars said e last
quiet_same w tree _ _ (Parts {some} {more} {line}) vars last = parts w tree some more line vars last
quiet_same w tree _ _ (Gone {line}) vars last = gone w tree line vars last
quiet_same w tree _ _ (PastBytes {bytes} {line} {line'} q) vars last = ap (before bytes) (quiet_same w tree line line' q vars last)
quiet_same w tree _ _ (PastNode {node} {left} {m} {line} {line'} q) vars last =
    let r = run tree (Replies.reply w tree left) m vars in
    ap (before r.body) (quiet_same w tree line line' q r.vars (Some r.result))
quiet_same w tree _ _ (PastWait {node} {left} {own} {line} {line'} {k} q) vars last =
    let r = rest w tree own None vars in
    past_wait w tree left k line line' (λ vars'. quiet_same w tree line line' q vars') r.answer r.body r.vars
quiet_same w tree _ _ (Within {node} {left} {own} {own'} {line} {k} q) vars last =
    ap (λ (r : Left). elim r.answer [
      | None ↦ rest w tree line None r.vars
      | Some answer ↦ let q = run tree (Replies.reply w tree left) (k (reply_of answer r.body)) r.vars in
          before q.body (rest w tree line (Some q.result) q.vars)
    ]) (quiet_same w tree own own' q vars None)
quiet_same w tree _ _ (PastStub {own} {line} {line'} {stub} q) vars last =
    let r = rest w tree own None vars in
    ap (before (or_stub (Some stub) (status_of r.answer) r.body)) (quiet_same w tree line line' q r.vars r.answer)
quiet_same w tree _ _ (WithinStub {own} {own'} {line} {stub} q) vars last =
    ap (λ (r : Left). before (or_stub (Some stub) (status_of r.answer) r.body) (rest w tree line r.answer r.vars)) (quiet_same w tree own own' q vars None)

quiets_same : (w : World) (tree : Tree) (line line' : Line) → Quiets w tree line line' → (vars : Vars) → Same w tree line vars line' vars
quiets_same w tree _ _ (Rests {line}) vars last = refl
quiets_same w tree _ _ (Goes {first} {next} {last = end} q more) vars last = quiet_same w tree first next q vars last ∙ quiets_same w tree next end more vars last

orders_same : (w : World) (tree : Tree) (line a b : Line) → Quiets w tree line a → Quiets w tree line b → (vars : Vars) → Same w tree a vars b vars
orders_same w tree line a b to_a to_b vars last = sym (quiets_same w tree line a to_a vars last) ∙ quiets_same w tree line b to_b vars last

pub no_matter : OrderIsNoMatter
no_matter = record { step = quiet_same; steps = quiets_same; orders = orders_same }

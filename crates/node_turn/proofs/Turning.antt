-- A node whose phases go on, and then it by itself.
use Rattle.std.proofs.Common.{◌≡◌, ℕ, List, [], ◌++◌, refl, sym, ap, ◌∙◌, subst}
use Rattle.acts.specs.Vars.{Vars}
use Rattle.acts.specs.Act.{Done, Write, settled}
use Rattle.filter_api.specs.declared.facts.Facts.{Facts}
use Rattle.request_reply.specs.request_meaning.Laws.{shipped}
use Rattle.request_reply.specs.request_meaning.Serving.{World, Serving, Answer}
use Rattle.request_reply.specs.request_meaning.Serving.Body.{Filtered}
use Rattle.page_body.specs.Pages.{filtered_rest}
use Rattle.page_body.specs.Reading.{IsWritten}
use Rattle.node_turn.specs.Nodes.{body_then}
use Rattle.node_turn.specs.Turns.{TurnsTo, Works}
use Rattle.node_turn.specs.Turns.Works.{Rests, Placed}
use Rattle.node_turn.proofs.Phased as phased
use Rattle.node_turn.proofs.Serving.{written_work}

-- where nothing more is done by itself
pub at_once : {before after : Vars} {m n : Serving Answer} → settled m before ≡ (n, after) → TurnsTo before after m n
at_once {after} {n} e = record { turned = n; settles = e; works = Rests }

-- by what settles as this does
pub turns_by : {before mid after : Vars} {m k n : Serving Answer} → settled m before ≡ settled k mid → TurnsTo mid after k n → TurnsTo before after m n
turns_by e t = record { turned = t.turned; settles = e ∙ t.settles; works = t.works }

pub turns_on : {before after : Vars} {m n k : Serving Answer} → TurnsTo before after m n → n ≡ k → TurnsTo before after m k
turns_on {before} {after} {m} t e = subst (TurnsTo before after m) e t

-- a body of which filters change nothing
pub unfiltered : (w : World) (left : ℕ) (ssi : Vars) (answer : Answer) (facts : Facts) (text : List ℕ) (vars : Vars) → IsWritten text (filtered_rest w left ssi answer facts text) answer →
    TurnsTo vars vars (body_then w left ssi answer (Filtered facts text)) (Write text (Done answer))
unfiltered w left ssi answer facts text vars q =
    record {
      turned = filtered_rest w left ssi answer facts text;
      settles = phased.paged_so w left ssi answer facts text vars;
      works = subst (λ m. Works vars m (Write text (Done answer))) (sym q.begins) (Placed (written_work text q.rest (Done answer) q.writes));
    }

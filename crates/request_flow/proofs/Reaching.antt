-- Steps lead to a main request in its phases.
use Rattle.std.proofs.Common.{◌≡◌, ℕ, List, [], refl, ◌∙◌, subst}
use Rattle.acts.specs.Vars.{Vars}
use Rattle.acts.specs.Act.{Stat, ◌>>=◌, settled}
use Rattle.file_tree.specs.Tree.{Item, Nothing, Tree}
use Rattle.ngx_variables.specs.declared.request.Main.{Main}
use Rattle.ngx_variables.specs.declared.request.Request.{Request}
use Rattle.postpone_filter.specs.Row.{is_open}
use Rattle.request_meaning.specs.Phases.{rounds}
use Rattle.request_meaning.specs.Replies.{main_script, most_changes, most_depth, outside, served}
use Rattle.request_meaning.specs.Serving.{World, Serving, Answer, Prepared}
use Rattle.family_rest.specs.family_order.Acts.{Does}
use Rattle.family_rest.specs.family_order.Acts.Acts.{Learns, Thinks}
use Rattle.family_rest.specs.family_order.Items.{IsAlike, alone, doing, row_items}
use Rattle.family_rest.specs.family_order.Items.Stance.{Going}
use Rattle.family_rest.specs.Reached.{Reached}
use Rattle.family_rest.specs.Reached.Reached.{Acted, Likened, Starts}
use Rattle.request_flow.specs.Reached.{IsReachedAt, Settles}
use Rattle.request_flow.specs.Rests.{finished}
use Rattle.request_flow.proofs.Turns.{finished_settles}

-- one node that does something else now
alike : (m n : Serving Answer) → IsAlike (doing 0 (Going most_depth m) (alone 0 1 (Going most_depth n))) (alone 0 1 (Going most_depth m))
unfolding row_items
alike m n = record {
  items_are = refl;
  output_is = refl;
  well = λ h. record { row_is = h.row_is; root_is_shown = refl };
}

does : (s : _) → Does (alone 0 1 s) 0 s
unfolding is_open
does s = record { goes_on = refl; stands = refl }

no_files : Tree
no_files path = Nothing

-- it settles
thinks : (w : World) (first act : Serving Answer) (table vars : Vars) → IsReachedAt w first table → settled first table ≡ (act, vars) → IsReachedAt w act vars
thinks w first act table vars r e =
    subst (λ s. Reached w (alone 0 1 (Going most_depth s.0)) s.1) e
    (Likened (alike (settled first table).0 first) (Acted no_files r (Thinks 0 (does (Going most_depth first)))))

-- its question is answered
pub learns : (w : World) (path : List ℕ) (k : Item → Serving Prepared) (vars : Vars) → IsReachedAt w (finished w (Stat path k)) vars → (item : Item) → IsReachedAt w (finished w (k item)) vars
unfolding finished ◌>>=◌
learns w path k vars r item =
    Likened (alike (finished w (k item)) (finished w (Stat path k))) (Acted (λ path. item) r (Learns 0 (does (Going most_depth (finished w (Stat path k))))))

stays : (w : World) (path : List ℕ) (k : Item → Serving Prepared) (vars : Vars) → settled (finished w (Stat path k)) vars ≡ (finished w (Stat path k), vars)
unfolding finished ◌>>=◌ settled
stays w path k vars = refl

-- it asks a question
pub asks : (w : World) (path : List ℕ) (k : Item → Serving Prepared) (vars : Vars) → Settles w (finished w (Stat path k)) vars → IsReachedAt w (finished w (Stat path k)) vars
asks w path k vars s = thinks w s.first (finished w (Stat path k)) s.table vars s.reached (s.same ∙ stays w path k vars)

-- phases settle
pub goes_on : (w : World) (m n : Serving Prepared) (old new : Vars) → IsReachedAt w (finished w m) old → settled m old ≡ (n, new) → Settles w (finished w n) new
goes_on w m n old new r e = record { first = finished w m; table = old; reached = r; same = finished_settles w m n old new e }

-- a main request starts
pub starts : (w : World) (main : Main) (request : Request) → IsReachedAt w (finished w (rounds w most_changes (outside main request))) []
unfolding finished main_script served
starts w main request = Starts main request

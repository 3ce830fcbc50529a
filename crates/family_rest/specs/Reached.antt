-- The families that steps lead to from a main request's.
use Rattle.std.specs.Prelude.{ℕ, []}
use Rattle.file_tree.specs.Tree.{Tree}
use Rattle.acts.specs.Vars.{Vars}
use Rattle.race_meaning.specs.ngx_variables.declared.request.Main.{Main}
use Rattle.race_meaning.specs.ngx_variables.declared.request.Request.{Request}
use Rattle.family_meaning.specs.request_meaning.Serving.{World}
use Rattle.family_order.specs.Items.{Family, IsAlike, begun, leaving}
use Rattle.family_order.specs.Acts.{Acts}

-- the bytes that have left are forgotten
abbrev pub forgetting : Family → Family
forgetting f = record { row = f.row; output = []; stance = f.stance; root = f.root }

-- A family, with the table as it is then, that steps have led to. What is known of the files may differ from step to step: a
-- question may be answered by another tree than the one before it.
pub data Reached (w : World) : Family → Vars → Type 0 where
  Starts : (main : Main) (request : Request) → Reached w (begun w main request) []
  Acted : {f g : Family} {vars vars' : Vars} (tree : Tree) → Reached w f vars → Acts w tree f vars g vars' → Reached w g vars'
  Left : {f : Family} {vars : Vars} (count : ℕ) → Reached w f vars → Reached w (leaving count f) vars
  -- what shows the same is as good
  Likened : {f g : Family} {vars : Vars} → IsAlike f g → Reached w f vars → Reached w g vars
  Forgot : {f : Family} {vars : Vars} → Reached w f vars → Reached w (forgetting f) vars

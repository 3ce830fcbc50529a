use Rattle.std.proofs.Common.{◌≡◌, ℕ, List, true, None, Some, sym, ap, ◌∙◌, subst, unwrap_or}
use Rattle.request_reply.specs.request_meaning.Serving.{Answer, Serving, World}
use Rattle.page_body.specs.Pages.{Does, page_captured, page_rest, stop_of}
use Rattle.page_body.specs.declared.doing.Doing.{Doing}
use Rattle.node_turn.specs.Nodes.{from_source}
use Rattle.node_turn.proofs.Serving as serving
use Rattle.node_turn.proofs.page.next_part.Goals as goal

same : (x y : Doing) → Some x ≡ Some y → x ≡ y
same x y e = ap (λ o. unwrap_or o x) e

pub returns : goal.returns
returns c =
    let scene = c.args.scene.now in
    let vars = c.args.vars.now in
    let after = c.supplies.new.source in
    let mid = c.supplies.new.page in
    let now = c.next.new.self in
    let found = c.in_ok-doing.doing in
    record {
      wants = λ e. cc;
      does = λ doing e w answer file members at.
          let bytes = from_source after file in
          let captures : List ℕ → List ℕ → Serving Answer = λ name text. page_captured w answer scene now name text bytes in
          subst (λ (d : Doing). Does scene.main.now vars d (page_rest w answer scene c.args.page.now (from_source c.args.source.now file)) (page_rest w answer scene now bytes) captures) (same found doing e)
          (subst (λ (o : Serving Answer). Does scene.main.now vars found o (page_rest w answer scene now bytes) captures) (sym (c.in_ok-supplies.ensures scene w answer file members))
          (c.in_ok-doing.ensures.does w answer bytes at));
      over = λ doing e stop spent w answer file members.
          c.in_ok-supplies.ensures scene w answer file members
          ∙ (ap (page_rest w answer scene mid) (serving.spent after file spent)
          ∙ c.in_ok-doing.ensures.over (ap stop_of (same found doing e) ∙ stop) w answer members);
    }

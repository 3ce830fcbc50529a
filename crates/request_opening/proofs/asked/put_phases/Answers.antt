use Rattle.std.proofs.Common.{ap, ◌∙◌}
use Rattle.ngx_variables.specs.declared.request.Main.{Main}
use Rattle.request_opening.specs.Openings.{main_at, phases_at, main_with}
use Rattle.request_opening.proofs.asked.put_phases.Goals as goal

pub returns : goal.returns
unfolding main_at
returns c = λ patterns site.
    let level = c.args.ground.now.server.now.level in
    let opening = c.args.opening in
    c.put_start.ensures
    ∙ (ap (λ (m : Main). phases_at level m c.put_request-made.new.request) (c.put_opening.ensures ∙ ap (main_with opening) c.in_ok-told.ensures)
    ∙ ap (phases_at level (main_at c.args.ground.now opening)) (c.in_ok-made.ensures patterns site))

use Rattle.std.proofs.Common.{[], ◌∷◌, take, refl, sym, subst}
use Rattle.server_choice.specs.Listening.{HasMore}
use Rattle.server_choice.proofs.Adding.{taken-is, more-none, more-then}
use Rattle.server_choice.proofs.servers.add_names.Goals as goal

pub loop-name-init : goal.loop-name-init
loop-name-init c = more-none c.args.names.now c.args.names.now c.args.server refl

pub loop-name-preserved : goal.loop-name-preserved
loop-name-preserved c =
    let own = c.args.own.now in
    let i = c.loop-name.name-index in
    let x = c.name-item.result in
    subst (λ ns. HasMore c.args.names.now c.add_name.new.names ns c.args.server) (sym (taken-is own i x c.loop-name-test.true c.name-item.is))
    (more-then c.args.names.now c.loop-name.names c.add_name.new.names (take i own) (x ∷ []) c.args.server c.loop-name.invariant c.in_ok-add_name.ensures)

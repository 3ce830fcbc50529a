use Rattle.std.proofs.Common.{[], ◌∷◌, sym, subst}
use Rattle.ngx_pattern.specs.Makers.{Rose}
use Rattle.rewrite_compile.specs.declared.program.CompileError.TheVariants.{Fault}
use Rattle.rewrite_compile.specs.Failing.{Says}
use Rattle.rewrite_compile.proofs.Compiling.{wrong_says, pattern_says}
use Rattle.rewrite_compile.proofs.program.step_of.Goals as goal

pub returns-in-Wrong-clause-fault : goal.returns-in-Wrong-clause-fault
returns-in-Wrong-clause-fault g c =
    let refused = Rose (g.M.PatternMaker.refusals c.args.maker.now) (g.M.PatternMaker.refusals c.args.maker.now) in
    subst (λ f. Says refused (c.args.part ∷ []) (Fault f)) (sym c.fault_at.ensures) (wrong_says refused c.args.part c.in-Wrong.kind c.in-Wrong.is)

pub returns-in-Err-clause-fault : goal.returns-in-Err-clause-fault
returns-in-Err-clause-fault g c =
    let refused = Rose (g.M.PatternMaker.refusals c.args.maker.now) (g.M.PatternMaker.refusals c.step_in.new.maker) in
    subst (λ e. Says refused (c.args.part ∷ []) e) (sym c.error_by.ensures)
    (pattern_says refused c.args.part c.in-Step.raw c.in-Err.fault c.in-Step.is c.in-Err.ensures.patterned c.in-Err.ensures.bad c.in-Err.ensures.too_big)

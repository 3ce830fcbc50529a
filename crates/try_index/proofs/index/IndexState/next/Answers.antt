use Rattle.std.proofs.Common.{◌≡◌, true, false, Err, map, sym, ◌∙◌, rules}
use Rattle.target_text.specs.ngx_variables.declared.fault.EvalFault.TheVariants.{TooLong}
use Rattle.site_whole.specs.Whole.{index_seen}
use Rattle.try_index.specs.Searches.{is_file}
use Rattle.try_index.proofs.Turns as turns
use Rattle.try_index.proofs.index.IndexState.next.Goals as goal

pub returns-then-is_file-clause-step : goal.returns-then-is_file-clause-step
returns-then-is_file-clause-step c = λ s item at node.
    let found : is_file c.unwrap_or.result ≡ true = search rules in
    turns.index_found c.args.scene.now.main.now c.args.scene.now.vars.now s (map index_seen c.args.names.now) c.args.self.now item c.in-Some.path c.unwrap_or.result (sym c.in-Some.ensures.value) (node ∙ sym c.unwrap_or.ensures) found

pub returns-in_ok-step-in-Some-clause-step : goal.returns-in_ok-step-in-Some-clause-step
returns-in_ok-step-in-Some-clause-step c = λ s item at node.
    let missing : is_file c.unwrap_or.result ≡ false = search rules in
    turns.index_not c.args.scene.now.main.now c.args.scene.now.vars.now s (map index_seen c.args.names.now) c.args.self.now item c.in-Some.path c.unwrap_or.result (sym c.in-Some.ensures.value) (node ∙ sym c.unwrap_or.ensures) missing
    ∙ c.in_ok-step-in-Some.ensures.step s at

pub returns-in_err-step-in-Some-clause-too_long : goal.returns-in_err-step-in-Some-clause-too_long
returns-in_err-step-in-Some-clause-too_long c = λ e s item at node.
    let missing : is_file c.unwrap_or.result ≡ false = search rules in
    let refused : c.search.result ≡ Err TooLong = search rules in
    turns.index_not c.args.scene.now.main.now c.args.scene.now.vars.now s (map index_seen c.args.names.now) c.args.self.now item c.in-Some.path c.unwrap_or.result (sym c.in-Some.ensures.value) (node ∙ sym c.unwrap_or.ensures) missing
    ∙ c.search.ensures.too_long refused s at

pub returns-in_ok-step-in-None-clause-step : goal.returns-in_ok-step-in-None-clause-step
returns-in_ok-step-in-None-clause-step c = λ s item at node.
    turns.index_first c.args.scene.now.main.now c.args.scene.now.vars.now s (map index_seen c.args.names.now) c.args.self.now item (sym c.in-None.ensures.value)
    ∙ c.in_ok-step-in-None.ensures.step s at

pub returns-in_err-step-in-None-clause-too_long : goal.returns-in_err-step-in-None-clause-too_long
returns-in_err-step-in-None-clause-too_long c = λ e s item at node.
    let refused : c.search-in-None.result ≡ Err TooLong = search rules in
    turns.index_first c.args.scene.now.main.now c.args.scene.now.vars.now s (map index_seen c.args.names.now) c.args.self.now item (sym c.in-None.ensures.value)
    ∙ c.search-in-None.ensures.too_long refused s at

pub returns-in_err-step-in-Some-clause-unfit : goal.returns-in_err-step-in-Some-clause-unfit
returns-in_err-step-in-Some-clause-unfit c = λ e.
    let refused : c.search.result ≡ Err TooLong = search rules in
    c.search.ensures.unfit refused

pub returns-in_err-step-in-None-clause-unfit : goal.returns-in_err-step-in-None-clause-unfit
returns-in_err-step-in-None-clause-unfit c = λ e.
    let refused : c.search-in-None.result ≡ Err TooLong = search rules in
    c.search-in-None.ensures.unfit refused

use Rattle.std.proofs.Common.{◌≡◌, ◌<◌, ◌≤◌, Err, [], length, get_or, ap, ◌∙◌, refl, inl, inr, arith, rules}
use Rattle.target_text.specs.ngx_variables.declared.fault.EvalFault.TheVariants.{TooLong}
use Rattle.site_whole.specs.Whole.{last_seen, tries_seen}
use Rattle.try_index.specs.Searches.{IsNotThere, IsThere}
use Rattle.try_index.proofs.Turns as turns
use Rattle.try_index.proofs.tries.TryState.search.Goals as goal

pub loop-self-preserved : goal.loop-self-preserved
loop-self-preserved c = λ s at.
    let names = c.args.tries.now.names.items in
    let place = c.loop-self.self.passed in
    let name = c.index-names-at.result in
    let inside : place < length names = omega (arith, c.loop-self-test.true, ap length c.as_slice-names.ensures.value) in
    let here : name ≡ get_or names place name = c.index-names-at.is ∙ ap (λ l. get_or l place name) c.as_slice-names.ensures.value in
    c.loop-self.invariant s at
    ∙ turns.step_nowhere c.fit_value_settles.ensures c.item_settles.ensures c.args.main.now c.args.vars.now c.args.request.now c.args.place.now s at names (last_seen c.args.tries.now.last) place name inside here (turns.nowhere_of c.in_ok-found.found (IsNotThere c.args.main.now c.args.request.now c.args.vars.now c.args.place.now [] name) (IsThere c.args.main.now c.args.request.now c.args.vars.now c.args.place.now [] name) c.in-None.is c.in_ok-found.ensures.ok)

pub returns-in-Some-clause-step : goal.returns-in-Some-clause-step
returns-in-Some-clause-step c = λ s at.
    let names = c.args.tries.now.names.items in
    let place = c.loop-self.self.passed in
    let name = c.index-names-at.result in
    let inside : place < length names = omega (arith, c.loop-self-test.true, ap length c.as_slice-names.ensures.value) in
    let here : name ≡ get_or names place name = c.index-names-at.is ∙ ap (λ l. get_or l place name) c.as_slice-names.ensures.value in
    c.loop-self.invariant s at
    ∙ turns.step_there c.fit_value_settles.ensures c.item_settles.ensures c.args.main.now c.args.vars.now c.args.request.now c.args.place.now s at names (last_seen c.args.tries.now.last) place name inside here c.in-Some.turn (turns.there_of c.in_ok-found.found (IsNotThere c.args.main.now c.args.request.now c.args.vars.now c.args.place.now [] name) (IsThere c.args.main.now c.args.request.now c.args.vars.now c.args.place.now [] name) c.in-Some.turn c.in-Some.is c.in_ok-found.ensures.ok)

pub returns-in_err-found-clause-too_long : goal.returns-in_err-found-clause-too_long
returns-in_err-found-clause-too_long c = λ e s at.
    let names = c.args.tries.now.names.items in
    let place = c.loop-self.self.passed in
    let name = c.index-names-at.result in
    let inside : place < length names = omega (arith, c.loop-self-test.true, ap length c.as_slice-names.ensures.value) in
    let here : name ≡ get_or names place name = c.index-names-at.is ∙ ap (λ l. get_or l place name) c.as_slice-names.ensures.value in
    let refused : c.turn_of.result ≡ Err TooLong = search rules in
    c.loop-self.invariant s at
    ∙ turns.step_unfit c.fit_value_settles.ensures c.item_settles.ensures c.args.main.now c.args.vars.now c.args.request.now c.args.place.now s at names (last_seen c.args.tries.now.last) place name inside here (c.turn_of.ensures.too_long refused)

pub returns-clause-step : goal.returns-clause-step
returns-clause-step c = λ s at.
    let names = c.args.tries.now.names.items in
    let over : length names ≤ c.loop-self.self.passed = omega (arith, c.loop-self-test.false, ap length c.as_slice-names.ensures.value) in
    c.loop-self.invariant s at
    ∙ (turns.tried_done c.args.main.now c.args.vars.now s names (last_seen c.args.tries.now.last) c.loop-self.self.passed over
    ∙ c.in_ok-step.ensures.step s (tries_seen c.args.tries.now) c.loop-self.self at.of_request)

pub returns-in_err-step-clause-too_long : goal.returns-in_err-step-clause-too_long
returns-in_err-step-clause-too_long c = λ e s at.
    let names = c.args.tries.now.names.items in
    let over : length names ≤ c.loop-self.self.passed = omega (arith, c.loop-self-test.false, ap length c.as_slice-names.ensures.value) in
    let refused : c.last_step.result ≡ Err TooLong = search rules in
    c.loop-self.invariant s at
    ∙ (turns.tried_done c.args.main.now c.args.vars.now s names (last_seen c.args.tries.now.last) c.loop-self.self.passed over
    ∙ c.last_step.ensures.too_long refused s at.of_request)

pub returns-in_err-found-clause-unfit : goal.returns-in_err-found-clause-unfit
returns-in_err-found-clause-unfit c = λ e.
    let names = c.args.tries.now.names.items in
    let place = c.loop-self.self.passed in
    let name = c.index-names-at.result in
    let inside : place < length names = omega (arith, c.loop-self-test.true, ap length c.as_slice-names.ensures.value) in
    let here : name ≡ get_or names place name = c.index-names-at.is ∙ ap (λ l. get_or l place name) c.as_slice-names.ensures.value in
    let refused : c.turn_of.result ≡ Err TooLong = search rules in
    inl (place, name, refl, turns.got_at names place name inside here, c.turn_of.ensures.too_long refused)

pub returns-in_err-step-clause-unfit : goal.returns-in_err-step-clause-unfit
returns-in_err-step-clause-unfit c = λ e.
    let names = c.args.tries.now.names.items in
    let over : length names ≤ c.loop-self.self.passed = omega (arith, c.loop-self-test.false, ap length c.as_slice-names.ensures.value) in
    let refused : c.last_step.result ≡ Err TooLong = search rules in
    inr (over, c.last_step.ensures.unfit refused)

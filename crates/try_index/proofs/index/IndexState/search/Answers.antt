use Rattle.std.proofs.Common.{◌≡◌, ◌≤◌, Err, true, false, length, subst, ◌∙◌, refl, inl, inr, arith, rules}
use Rattle.target_text.specs.ngx_variables.declared.fault.EvalFault.TheVariants.{TooLong}
use Rattle.try_index.specs.Searches.{IsNotThere, IsThere, IsUnfit}
use Rattle.site_whole.specs.Whole.{index_seen}
use Rattle.try_index.proofs.Turns as turns
use Rattle.try_index.proofs.index.IndexState.search.Goals as goal

pub loop-self-preserved : goal.loop-self-preserved
loop-self-preserved c = λ s at.
    let name = c.index-names-at.result in
    let other : name.is_path ≡ false = search rules in
    c.loop-self.invariant s at
    ∙ turns.index_nowhere c.fit_value_settles.ensures c.item_settles.ensures c.args.main.now c.args.vars.now c.args.request.now c.args.place.now s at c.args.names.now c.loop-self.self.passed name (omega (arith, c.loop-self-test.true)) c.index-names-at.is other (subst (λ front. IsNotThere c.args.main.now c.args.request.now c.args.vars.now c.args.place.now front name.text) c.as_slice-front.ensures (turns.nowhere_of c.in_ok-found.found (IsNotThere c.args.main.now c.args.request.now c.args.vars.now c.args.place.now c.as_slice-front.result.now name.text) (IsThere c.args.main.now c.args.request.now c.args.vars.now c.args.place.now c.as_slice-front.result.now name.text) c.in-None.is c.in_ok-found.ensures.ok))

pub returns-in-Some-clause-step : goal.returns-in-Some-clause-step
returns-in-Some-clause-step c = λ s at.
    let name = c.index-names-at.result in
    let other : name.is_path ≡ false = search rules in
    c.loop-self.invariant s at
    ∙ turns.index_there c.fit_value_settles.ensures c.item_settles.ensures c.args.main.now c.args.vars.now c.args.request.now c.args.place.now s at c.args.names.now c.loop-self.self.passed name (omega (arith, c.loop-self-test.true)) c.index-names-at.is other c.in-Some.turn (subst (λ front. IsThere c.args.main.now c.args.request.now c.args.vars.now c.args.place.now front name.text c.in-Some.turn) c.as_slice-front.ensures (turns.there_of c.in_ok-found.found (IsNotThere c.args.main.now c.args.request.now c.args.vars.now c.args.place.now c.as_slice-front.result.now name.text) (IsThere c.args.main.now c.args.request.now c.args.vars.now c.args.place.now c.as_slice-front.result.now name.text) c.in-Some.turn c.in-Some.is c.in_ok-found.ensures.ok))

pub returns-in_err-found-clause-too_long : goal.returns-in_err-found-clause-too_long
returns-in_err-found-clause-too_long c = λ e s at.
    let name = c.index-names-at.result in
    let other : name.is_path ≡ false = search rules in
    let refused : c.turn_of.result ≡ Err TooLong = search rules in
    c.loop-self.invariant s at
    ∙ turns.index_unfit_at c.fit_value_settles.ensures c.item_settles.ensures c.args.main.now c.args.vars.now c.args.request.now c.args.place.now s at c.args.names.now c.loop-self.self.passed name (omega (arith, c.loop-self-test.true)) c.index-names-at.is other (subst (λ front. IsUnfit c.args.main.now c.args.request.now c.args.vars.now c.args.place.now front name.text) c.as_slice-front.ensures (c.turn_of.ensures.too_long refused))

pub returns-clause-step : goal.returns-clause-step
returns-clause-step c = λ s at.
    let over : length c.args.names.now ≤ c.loop-self.self.passed = omega (arith, c.loop-self-test.false) in
    c.loop-self.invariant s at ∙ turns.indexed_done c.args.main.now c.args.vars.now s c.args.names.now c.loop-self.self.passed over

pub returns-then-name-clause-step : goal.returns-then-name-clause-step
returns-then-name-clause-step c = λ s at.
    let name = c.index-names-at.result in
    let path : name.is_path ≡ true = search rules in
    c.loop-self.invariant s at
    ∙ turns.index_path c.fit_value_settles.ensures c.item_settles.ensures c.args.main.now c.args.vars.now c.args.request.now c.args.place.now s at c.args.names.now c.loop-self.self.passed name (omega (arith, c.loop-self-test.true)) c.index-names-at.is c.in_ok-path.path path c.in_ok-path.ensures.ok

pub returns-in_err-path-clause-too_long : goal.returns-in_err-path-clause-too_long
returns-in_err-path-clause-too_long c = λ e s at.
    let name = c.index-names-at.result in
    let refused : c.evaluated.result ≡ Err TooLong = search rules in
    c.loop-self.invariant s at
    ∙ turns.index_unfit c.fit_value_settles.ensures c.item_settles.ensures c.args.main.now c.args.vars.now c.args.request.now c.args.place.now s at c.args.names.now c.loop-self.self.passed name (omega (arith, c.loop-self-test.true)) c.index-names-at.is (c.evaluated.ensures.too_long refused)

pub returns-in_err-found-clause-unfit : goal.returns-in_err-found-clause-unfit
returns-in_err-found-clause-unfit c = λ e.
    let name = c.index-names-at.result in
    let other : name.is_path ≡ false = search rules in
    let refused : c.turn_of.result ≡ Err TooLong = search rules in (
      c.loop-self.self.passed,
      index_seen name,
      refl,
      turns.got_seen c.args.names.now c.loop-self.self.passed name (omega (arith, c.loop-self-test.true)) c.index-names-at.is,
      inr (other, subst (λ front. IsUnfit c.args.main.now c.args.request.now c.args.vars.now c.args.place.now front name.text) c.as_slice-front.ensures (c.turn_of.ensures.too_long refused)),
    )

pub returns-in_err-path-clause-unfit : goal.returns-in_err-path-clause-unfit
returns-in_err-path-clause-unfit c = λ e.
    let name = c.index-names-at.result in
    let path : name.is_path ≡ true = search rules in
    let refused : c.evaluated.result ≡ Err TooLong = search rules in (
      c.loop-self.self.passed,
      index_seen name,
      refl,
      turns.got_seen c.args.names.now c.loop-self.self.passed name (omega (arith, c.loop-self-test.true)) c.index-names-at.is,
      inl (path, c.evaluated.ensures.too_long refused),
    )

use Rattle.std.proofs.Common.{◌≡◌, true, false, Ok, Err, inl, inr, ◌++◌, ap, sym, ◌∙◌, rules}
use Rattle.target_text.specs.ngx_variables.declared.fault.EvalFault.TheVariants.{TooLong}
use Rattle.target_text.specs.ngx_variables.Texts.{value_text}
use Rattle.target_text.specs.file_path.Located.{located_at}
use Rattle.target_text.specs.file_path.Located.Located.{At}
use Rattle.try_index.proofs.probe.turn_of.Goals as goal

pub returns-then-not-there-clause-ok : goal.returns-then-not-there-clause-ok
returns-then-not-there-clause-ok c =
    let value = value_text c.args.main.now c.args.request.now c.args.vars.now c.args.name.now in
    let whole : c.eval.new.out ≡ c.args.front.now ++ value = c.in_ok-eval.ensures.ok ∙ ap (λ u. u ++ value) c.in_ok-uri.ensures in
    let missing : c.in_ok-there.there ≡ false = search rules in
    let nowhere = c.in_ok-there.ensures.not_there (ap Ok missing) in
    record {
      fits = c.in_ok-eval.ensures.fits;
      nowhere = ap (located_at c.args.main.now c.args.request.now c.args.vars.now c.args.place.now) (sym (c.as_slice.ensures ∙ whole)) ∙ nowhere.0;
    }

pub returns-clause-ok : goal.returns-clause-ok
returns-clause-ok c =
    let value = value_text c.args.main.now c.args.request.now c.args.vars.now c.args.name.now in
    let whole : c.eval.new.out ≡ c.args.front.now ++ value = c.in_ok-eval.ensures.ok ∙ ap (λ u. u ++ value) c.in_ok-uri.ensures in
    let there : c.in_ok-there.there ≡ true = search rules in
    let found = c.in_ok-there.ensures.there (ap Ok there) in
    record {
      fits = c.in_ok-eval.ensures.fits;
      named = whole;
      at =
          ap (located_at c.args.main.now c.args.request.now c.args.vars.now c.args.place.now) (sym (c.as_slice.ensures ∙ whole))
          ∙ (found.1 ∙ ap At (sym (found.2 ∙ ap (λ p. p ++ found.0) c.new-path.ensures)));
    }

pub returns-in_err-eval-clause-too_long : goal.returns-in_err-eval-clause-too_long
returns-in_err-eval-clause-too_long c = λ e.
    let refused : c.eval.result ≡ Err TooLong = search rules in
    inl (c.eval.ensures.too_long refused)

pub returns-in_err-there-clause-too_long : goal.returns-in_err-there-clause-too_long
returns-in_err-there-clause-too_long c = λ e.
    let value = value_text c.args.main.now c.args.request.now c.args.vars.now c.args.name.now in
    let whole : c.eval.new.out ≡ c.args.front.now ++ value = c.in_ok-eval.ensures.ok ∙ ap (λ u. u ++ value) c.in_ok-uri.ensures in
    let refused : c.path_of.result ≡ Err TooLong = search rules in
    inr (
      c.in_ok-eval.ensures.fits,
      ap (located_at c.args.main.now c.args.request.now c.args.vars.now c.args.place.now) (sym (c.as_slice.ensures ∙ whole)) ∙ (c.path_of.ensures.too_long refused).0,
    )

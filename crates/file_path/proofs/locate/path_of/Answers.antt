use Rattle.std.proofs.Common.{◌≡◌, ◌++◌, Err, refl, sym, ◌∙◌, ap, rules}
use Rattle.ngx_variables.specs.declared.fault.EvalFault.TheVariants.{TooLong}
use Rattle.ngx_variables.specs.Texts.{value_text}
use Rattle.file_path.proofs.Found.{located_by, too_long_at}
use Rattle.file_path.proofs.locate.path_of.Goals as goal

pub returns-in-Some-clause-there : goal.returns-in-Some-clause-there
returns-in-Some-clause-there c = λ e.
    let text = c.in-Some.ensures.text c.args.main.now c.args.request.now c.args.vars.now in
    let same = located_by c.args.main.now c.args.request.now c.args.vars.now c.args.place.now _ _ _ c.args.uri.now c.text.ensures text c.as_slice-folder.ensures in
    let there = c.path_under.ensures.there e in
    (there.0, same ∙ there.1, there.2)

pub returns-in-Some-clause-not_there : goal.returns-in-Some-clause-not_there
returns-in-Some-clause-not_there c = λ e.
    let text = c.in-Some.ensures.text c.args.main.now c.args.request.now c.args.vars.now in
    let same = located_by c.args.main.now c.args.request.now c.args.vars.now c.args.place.now _ _ _ c.args.uri.now c.text.ensures text c.as_slice-folder.ensures in
    let found = c.path_under.ensures.not_there e in
    (same ∙ found.0, found.1)

pub returns-in-Some-clause-too_long : goal.returns-in-Some-clause-too_long
returns-in-Some-clause-too_long c = λ e.
    let text = c.in-Some.ensures.text c.args.main.now c.args.request.now c.args.vars.now in
    let same = located_by c.args.main.now c.args.request.now c.args.vars.now c.args.place.now _ _ _ c.args.uri.now c.text.ensures text c.as_slice-folder.ensures in
    let found = c.path_under.ensures.too_long e in
    (same ∙ found.0, found.1)

pub returns-in_err-eval-clause-too_long : goal.returns-in_err-eval-clause-too_long
returns-in_err-eval-clause-too_long c = λ e.
    let refused : c.eval.result ≡ Err TooLong = search rules in
    (too_long_at c.args.main.now c.args.request.now c.args.vars.now c.args.place.now _ c.args.uri.now c.text-2.ensures (c.eval.ensures.too_long refused), refl)

pub returns-clause-there : goal.returns-clause-there
returns-clause-there c = λ e.
    let value = value_text c.args.main.now c.args.request.now c.args.vars.now c.text-2.result.now in
    let text = sym (c.as_slice.ensures ∙ (c.in_ok-eval.ensures.ok ∙ ap (λ t. t ++ value) c.new-text.ensures)) in
    let same = located_by c.args.main.now c.args.request.now c.args.vars.now c.args.place.now _ _ _ c.args.uri.now c.text-2.ensures text c.as_slice-folder.ensures in
    let found = c.path_under-2.ensures.there e in
    (found.0, same ∙ found.1, found.2)

pub returns-clause-not_there : goal.returns-clause-not_there
returns-clause-not_there c = λ e.
    let value = value_text c.args.main.now c.args.request.now c.args.vars.now c.text-2.result.now in
    let text = sym (c.as_slice.ensures ∙ (c.in_ok-eval.ensures.ok ∙ ap (λ t. t ++ value) c.new-text.ensures)) in
    let same = located_by c.args.main.now c.args.request.now c.args.vars.now c.args.place.now _ _ _ c.args.uri.now c.text-2.ensures text c.as_slice-folder.ensures in
    let found = c.path_under-2.ensures.not_there e in
    (same ∙ found.0, found.1)

pub returns-clause-too_long : goal.returns-clause-too_long
returns-clause-too_long c = λ e.
    let value = value_text c.args.main.now c.args.request.now c.args.vars.now c.text-2.result.now in
    let text = sym (c.as_slice.ensures ∙ (c.in_ok-eval.ensures.ok ∙ ap (λ t. t ++ value) c.new-text.ensures)) in
    let same = located_by c.args.main.now c.args.request.now c.args.vars.now c.args.place.now _ _ _ c.args.uri.now c.text-2.ensures text c.as_slice-folder.ensures in
    let found = c.path_under-2.ensures.too_long e in
    (same ∙ found.0, found.1)

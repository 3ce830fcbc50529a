use Rattle.std.proofs.Common.{◌∙◌}
use Rattle.std.proofs.lemmas.Result.{err_from_is_err_and}
use Rattle.uri_text.specs.Target.{kind_of, entered}
use Rattle.uri_text.proofs.Finishing.{path_from-dots, path_with-spells, path_with-above, path_from-name}
use Rattle.uri_text.proofs.path.finish.Goals as goal

pub returns-in_err-enter-in-Dot-clause-err : goal.returns-in_err-enter-in-Dot-clause-err
returns-in_err-enter-in-Dot-clause-err c = λ kept segment s.
    let p = err_from_is_err_and c.from_residual.result c.from_residual.ensures.1 in
    rw (p.1, p.2) (λ other. path_from-dots c.args.merge kept segment c.args.path.now c.args.start c.kind_of_bytes.result s (cc) c.in-Dot.is
    ∙ path_with-above (entered c.args.merge (kind_of segment) segment kept) _ (c.in_err-enter-in-Dot.ensures.err kept segment s other))

pub returns-in_ok-enter-in-Dot-clause-ok : goal.returns-in_ok-enter-in-Dot-clause-ok
returns-in_ok-enter-in-Dot-clause-ok c = λ kept segment s.
    path_from-dots c.args.merge kept segment c.args.path.now c.args.start c.kind_of_bytes.result s (cc) c.in-Dot.is
    ∙ path_with-spells (entered c.args.merge (kind_of segment) segment kept) c.enter.new.path _ (c.in_ok-enter-in-Dot.ensures.ok kept segment s)

pub returns-in-Empty-clause-ok : goal.returns-in-Empty-clause-ok
returns-in-Empty-clause-ok c = λ kept segment s. path_from-name c.args.merge kept segment c.args.path.now c.args.start c.kind_of_bytes.result s (cc) c.in-Empty.is

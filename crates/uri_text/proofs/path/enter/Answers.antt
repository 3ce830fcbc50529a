use Rattle.std.proofs.Common.{◌≡◌, ◌∷◌, [], ◌++◌, length, refl, ap, ◌∙◌, take}
use Rattle.std.proofs.lemmas.Result.{IfOk-weaker}
use Rattle.uri_text.specs.Target.{kind_of, entered}
use Rattle.uri_text.specs.Steps.{SpellsAll}
use Rattle.uri_text.proofs.Entering.{enter-above, enter-up, enter-merged, enter-name, enter-empty}
use Rattle.uri_text.proofs.path.enter.Goals as goal

pub returns-then-start-le1-clause-err : goal.returns-then-start-le1-clause-err
returns-then-start-le1-clause-err c = λ kept segment s _. (refl, enter-above c.args.merge kept segment c.args.path.now c.args.start s (cc) c.if-start-le1.true)

pub returns-else-start-le1-clause-ok : goal.returns-else-start-le1-clause-ok
returns-else-start-le1-clause-ok c = λ kept segment s.
    rw c.truncate-in-Dots.ensures (enter-up c.args.merge kept segment c.args.path.now c.args.start c.last_start-up.result s (cc) c.if-start-le1.false
    (λ f kept' free is. c.last_start-up.ensures.start f kept' free (ap (take c.args.start) c.as_slice-in-Dots.ensures ∙ is)))

pub returns-in-Empty-clause-ok : goal.returns-in-Empty-clause-ok
returns-in-Empty-clause-ok c = λ kept segment s. enter-merged c.args.merge kept segment c.args.path.now c.args.start s (cc) c.if-merge.true

pub returns-in-Empty-2-clause-ok : goal.returns-in-Empty-2-clause-ok
returns-in-Empty-2-clause-ok c = λ kept segment s.
    IfOk-weaker c.end_folder.result (λ at. (c.end_folder.new.path ≡ c.args.path.now ++ 47 ∷ []) × (at ≡ length c.end_folder.new.path))
    (λ at. SpellsAll (entered c.args.merge (kind_of segment) segment kept) c.end_folder.new.path at)
    (λ at e. enter-empty c.args.merge kept segment c.args.path.now c.end_folder.new.path c.args.start at s (cc) c.if-merge.false e.0 e.1) c.end_folder.ensures.ok

pub returns-in-Name-clause-ok : goal.returns-in-Name-clause-ok
returns-in-Name-clause-ok c = λ kept segment s.
    IfOk-weaker c.end_folder-in-Name.result (λ at. (c.end_folder-in-Name.new.path ≡ c.args.path.now ++ 47 ∷ []) × (at ≡ length c.end_folder-in-Name.new.path))
    (λ at. SpellsAll (entered c.args.merge (kind_of segment) segment kept) c.end_folder-in-Name.new.path at)
    (λ at e. enter-name c.args.merge kept segment c.args.path.now c.end_folder-in-Name.new.path c.args.start at s (cc) e.0 e.1) c.end_folder-in-Name.ensures.ok

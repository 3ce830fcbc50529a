use Rattle.std.proofs.Common.{ap, sym, ◌∙◌}
use Rattle.std.specs.List.{list_any}
use Rattle.race_check.proofs.listed.kind_lists.Goals as goal

pub returns : goal.returns
returns c = λ test.
    sym (c.in_ok-numbers.ensures test) ∙ ap (list_any test) (sym c.as_slice.ensures.value) ∙ c.in_ok-lists.ensures test

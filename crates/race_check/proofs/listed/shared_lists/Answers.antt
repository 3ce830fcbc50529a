use Rattle.std.proofs.Common.{ap, sym, ◌∙◌}
use Rattle.std.specs.List.{list_any}
use Rattle.race_check.proofs.Shared.{any_both}
use Rattle.race_check.proofs.listed.shared_lists.Goals as goal

pub returns : goal.returns
returns c = λ test.
    sym (any_both test c.in_ok-numbers.numbers.items c.each_once.result.items c.each_once.ensures) ∙ ap (list_any test) c.in_ok-numbers.ensures

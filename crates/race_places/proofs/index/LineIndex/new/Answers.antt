use Rattle.std.proofs.Common.{ap, option_map}
use Rattle.std.specs.Map.{lookup}
use Rattle.std.specs.BTreeMap.{is_at}
use Rattle.std.specs.Ordering.{nat_cmp}
use Rattle.std.specs.Cmp.Lexicographic.{slice_cmp}
use Rattle.race_places.specs.Index.{at, lines_in}
use Rattle.race_places.proofs.index.LineIndex.new.Goals as goal

pub returns : goal.returns
unfolding at
returns c = λ name. ap (λ es. lines_in (option_map (λ lines. lines.items) (lookup (is_at (λ key. slice_cmp nat_cmp name key.items)) es))) c.new.ensures.empty

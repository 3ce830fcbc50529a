use Rattle.std.proofs.Common.{length, ◌∙◌, ap}
use Rattle.ngx_pattern.specs.Pattern as of_set
use Rattle.pattern_search.specs.Found.{found_at}
use Rattle.pattern_search.proofs.Finds.{spans_same, ten}
use Rattle.pattern_search.proofs.search.find_spans.Goals as goal

pub returns-clause-found : goal.returns-clause-found
returns-clause-found c =
    spans_same c.args.patterns.now c.from_number-id.result c.args.bytes.now c.matches.result c.matches.new.spans c.matches.ensures.found c.matches.ensures.spans
    ∙ ap (λ n. found_at c.args.patterns.now n c.args.bytes.now) c.from_number-id.ensures

pub returns-clause-ten : goal.returns-clause-ten
returns-clause-ten c = ap length c.matches.ensures.spans ∙ ten (of_set.match_of (of_set.pattern_at c.args.patterns.now c.from_number-id.result) c.args.bytes.now)

use Rattle.std.proofs.Common.{◌≡◌, drop, map, find}
use Rattle.site_whole.specs.Whole.{page_seen}
use Rattle.error_pages.specs.Pages.{names_code}
use Rattle.error_pages.proofs.rule.first_naming.Given as goal

abbrev pub invariant-loop-rule : goal.invariant-loop-rule
invariant-loop-rule l = find (names_code l.code) (map page_seen (drop l.rule-index l.rules)) ≡ find (names_code l.code) (map page_seen l.rules)

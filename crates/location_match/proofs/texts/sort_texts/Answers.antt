use Rattle.std.proofs.Common.{◌+◌, slice_index_or, rules, arith}
use Rattle.std.proofs.lemmas.List.Sorted.{ranks_by, answers_always}
use Rattle.std.specs.Cmp.Lexicographic.{nat_list_cmp_total}
use Rattle.location_match.specs.declared.texts.NumberedText.{NumberedText}
use Rattle.location_match.proofs.Sorted.{is_below, at_most-of, same-numbers}
use Rattle.location_match.proofs.texts.sort_texts.Goals as goal

pub returns-clause-sorted : goal.returns-clause-sorted
returns-clause-sorted c = λ k d lt.
    at_most-of (slice_index_or c.sort_by.new.self.items k d) (slice_index_or c.sort_by.new.self.items (k + 1) d) (c.in_ok-sort_by.ensures.sorted is_below (ranks_by nat_list_cmp_total (λ (t : NumberedText). t.text)) (answers_always _ _ _ (λ f a r g h. search rules)) k d (omega arith) lt)

pub returns-clause-same : goal.returns-clause-same
returns-clause-same c =
    same-numbers c.args.texts.now.items c.sort_by.new.self.items
    (c.sort_by.ensures.stable is_below (ranks_by nat_list_cmp_total (λ (t : NumberedText). t.text)) (answers_always _ _ _ (λ f a r g h. search rules)))

use Rattle.std.proofs.Common.{rules, [], ◌∙◌, subst, sym}
use Rattle.std.proofs.lemmas.Iterator.Consumers.{YieldsList-so_far, YieldsList-turn}
use Rattle.std.proofs.lemmas.Iterator.Adapters.{YieldsList-from_vec}
use Rattle.location_match.specs.Prefixes.{PrefixList}
use Rattle.location_match.proofs.Sorted.{Filling, filling-none, filling-turn}
use Rattle.location_match.proofs.list.Prefixes.of.Goals as goal

pub loop-text-init : goal.loop-text-init
loop-text-init c = subst (λ (p : PrefixList). Filling p []) (sym c.new-prefixes.ensures) filling-none

pub loop-text-preserved : goal.loop-text-preserved
loop-text-preserved c =
    let begins = c.into_iter-text-iterator.ensures.into_iter_gives in
    let road = YieldsList-from_vec {s = c.into_iter-text-iterator.result} c.sort_texts.new.texts.items begins.0 (begins.1 ∙ c.sort_texts.new.texts.ok.0) in
    filling-turn c.loop-text.prefixes c.add.new.self c.sort_texts.new.texts.items c.loop-text.yielded c.in-Some.field-0
    c.in_ok-sort_texts.ensures.sorted
    (YieldsList-so_far road c.loop-text.yielded c.loop-text.text-iterator c.loop-text.yielded_by)
    (YieldsList-turn road c.loop-text.yielded c.loop-text.text-iterator c.loop-text.yielded_by c.next.result c.next.new.self c.in-Some.field-0 c.in-Some.is c.next.ensures.steps)
    c.loop-text.invariant c.in_ok-add.field-0 (search rules) c.in_ok-add.ensures.refused c.in_ok-add.ensures.below

use Rattle.std.proofs.Common.{◌-◌, length, slice_get, refl, sym, ap, ◌∙◌}
use Rattle.location_search.proofs.Trees.{last-outside, none-waits}
use Rattle.location_search.proofs.build.take_inside.Goals as goal

pub returns-in_default-clause-none : goal.returns-in_default-clause-none
returns-in_default-clause-none c =
    (none-waits c.args.depth c.args.waiting.now.items (c.in_default.ensures.value ∙ ap (λ l. slice_get l (length l - 1)) c.deref.ensures.value), refl)

pub returns-then-not-is_inside-clause-none : goal.returns-then-not-is_inside-clause-none
returns-then-not-is_inside-clause-none c = (
  last-outside c.args.depth c.args.waiting.now.items c.in-Some.last.now
      (c.in-Some.ensures.value ∙ ap (λ l. slice_get l (length l - 1)) c.deref.ensures.value)
      (sym c.is_inside.ensures ∙ c.if-not-is_inside.true),
  refl,
)

use Rattle.std.proofs.Common.{◌≡◌, true, sym, subst, ap, ◌∙◌, List, [], ◌∷◌, ◌++◌}
use Rattle.std.specs.Prelude.{ℕ}
use Rattle.memory_outside.specs.Stored.{item_in}
use Rattle.memory_outside.specs.Names.{AddsName}
use Rattle.memory_outside.proofs.Children.{adds_absent, adds_again, adds_one}
use Rattle.memory_outside.proofs.names.add_name.Goals as goal

pub returns-then-not-is_there : goal.returns-then-not-is_there
returns-then-not-is_there c =
    adds_absent (item_in c.args.items.now c.args.of) c.args.folder.now c.args.entry.now.path c.args.start c.args.out.now
    (λ there. let yes : c.is_there.result ≡ true = c.is_there.ensures.1 (λ e. there (ap (λ p. item_in c.args.items.now c.args.of p) (sym c.as_slice-2.ensures) ∙ e)) in cc)

pub returns-then-is_among : goal.returns-then-is_among
returns-then-is_among c =
    adds_again (item_in c.args.items.now c.args.of) c.args.folder.now c.args.entry.now.path c.args.start c.args.out.now c.in-Some.name.now
    (sym c.as_slice.ensures ∙ c.in-Some.ensures.1)
    (rw (c.rest_of.ensures, c.as_slice-3.ensures) at (c.is_among.ensures c.if-is_among.true))

pub returns : goal.returns
returns c =
    let tree = item_in c.args.items.now c.args.of in
    subst (λ (out : List (List ℕ)). AddsName tree c.args.folder.now c.args.entry.now.path c.args.start c.args.out.now out)
    (sym (c.in_ok-push.ensures.ok ∙ ap (λ n. c.args.out.now ++ n ∷ []) c.in_ok-copy.ensures))
    (adds_one tree c.args.folder.now c.args.entry.now.path c.args.start c.args.out.now c.in-Some.name.now c.in-Some.ensures.0 (sym c.as_slice.ensures ∙ c.in-Some.ensures.1)
    (λ e. c.is_there.ensures.0 c.if-not-is_there.false (ap tree c.as_slice-2.ensures ∙ e)))

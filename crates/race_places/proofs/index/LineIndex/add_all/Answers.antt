use Rattle.std.proofs.Common.{◌≡◌, ◌∙◌, ◌++◌, ◌∷◌, [], ap, sym, subst, bytes_eq, rules}
use Rattle.std.proofs.lemmas.List.{append-nil}
use Rattle.std.specs.List.{IsDistinct}
use Rattle.race_check.specs.Names.{has}
use Rattle.race_places.specs.Index.{at}
use Rattle.race_places.specs.Places.{keep_if}
use Rattle.race_places.proofs.Indexing.{has_key, AreApart, key_step}
use Rattle.race_places.proofs.index.LineIndex.add_all.Goals as goal

pub loop-name-init : goal.loop-name-init
unfolding has
loop-name-init c =
    let given = c.into_iter-name-iterator.ensures.into_iter_gives in (
      subst (AreApart (λ k. k.items)) (sym given.0) given.3,
      λ name. ap (λ ks. at c.args.self.now name ++ keep_if (has_key (λ k. k.items) name ks) (c.args.line ∷ [])) given.0,
    )

pub loop-name-preserved : goal.loop-name-preserved
unfolding IsDistinct
loop-name-preserved c =
    let ks = c.next.new.self in
    let k = c.in-Some.name.now in
    let first : c.loop-name.name-iterator ≡ k ∷ ks = search rules in
    let apart : AreApart (λ k. k.items) (k ∷ ks) = subst (AreApart (λ k. k.items)) first c.loop-name.invariant.0 in (
      apart.1,
      λ name. key_step (λ k. k.items) name c.args.line (at c.loop-name.self name) (at c.add.new.self name) _ k ks apart
          (c.in_ok-add.ensures name ∙ ap (λ n. at c.loop-name.self name ++ keep_if (bytes_eq n name) (c.args.line ∷ [])) c.as_slice.ensures.value)
          (subst (λ l. at c.loop-name.self name ++ keep_if (has_key (λ k. k.items) name l) (c.args.line ∷ []) ≡ at c.args.self.now name ++ keep_if (has c.args.names.now name) (c.args.line ∷ [])) first (c.loop-name.invariant.1 name)),
    )

pub returns : goal.returns
returns c = λ name.
    let over : c.loop-name.name-iterator ≡ [] = search rules in
    sym (append-nil (at c.loop-name.self name))
    ∙ ap (λ l. at c.loop-name.self name ++ keep_if (has_key (λ k. k.items) name l) (c.args.line ∷ [])) (sym over)
    ∙ c.loop-name.invariant.1 name

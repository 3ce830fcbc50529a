use Rattle.std.proofs.Common.{◌≡◌, Some, ap, ◌∙◌, subst, rules}
use Rattle.std.specs.Map.{KeepsOthers}
use Rattle.std.specs.Ordering.{nat_cmp, is_eq, eq_by_cmp}
use Rattle.std.specs.Cmp.Lexicographic.{slice_cmp}
use Rattle.race_check.specs.declared.texts.SetTexts.{SetTexts}
use Rattle.race_check.specs.Texts.{known, with_text}
use Rattle.race_check.proofs.Telling.{kept_by, put_by, others_kept, next_none, next_some}
use Rattle.race_check.proofs.texts.SetTexts.add.Goals as goal

pub returns-in-None : goal.returns-in-None
returns-in-None c = λ other.
    kept_by (known c.args.self.now) c.args.name.now c.args.text.now
    (next_none c.in_ok-next.field-0 _ (λ t. t ≡ with_text (known c.args.self.now c.args.name.now) c.args.text.now) c.in-None.is c.in_ok-next.ensures) other

pub returns-in_ok-insert-in-Some : goal.returns-in_ok-insert-in-Some
unfolding known
returns-in_ok-insert-in-Some c =
    let name = c.args.name.now in
    let new : SetTexts = record { texts = c.insert.new.self; alloc = c.args.self.now.alloc } in
    let same : c.in_ok-key-in-Some.key.items ≡ name = search rules in
    let told : c.in-Some.texts ≡ with_text (known c.args.self.now name) c.args.text.now =
    next_some c.in_ok-next.field-0 (known c.args.self.now name ≡ Some (with_text (known c.args.self.now name) c.args.text.now)) (λ t. t ≡ with_text (known c.args.self.now name) c.args.text.now) c.in-Some.texts c.in-Some.is c.in_ok-next.ensures in
    let updates = c.in_ok-insert-in-Some.ensures.updates in
    λ other. put_by (known c.args.self.now) (known new) name c.args.text.now
    (subst (λ t. known new t ≡ Some c.in-Some.texts) same updates.1 ∙ ap (λ t. Some t) told)
    (others_kept (λ k. k.items) c.args.self.now.texts.entries c.insert.new.self.entries name
    (subst (λ t. KeepsOthers (eq_by_cmp (λ x y. slice_cmp nat_cmp x.items y.items)) (λ k. is_eq (slice_cmp nat_cmp t k.items)) c.args.self.now.texts.entries c.insert.new.self.entries) same updates.3))
    other

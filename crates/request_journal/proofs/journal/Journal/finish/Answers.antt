use Rattle.std.proofs.Common.{◌≡◌, ◌∙◌, ℕ, List, [], ◌∷◌, Option, None, Some, length, suc, refl, sym, ap, true, false}
use Rattle.ngx_outside.specs.declared.event.Entry.{Entry}
use Rattle.request_journal.specs.Noted.{logged_if}
use Rattle.request_journal.proofs.journal.Journal.finish.Goals as goal

-- how many they are stays
as_many : (entries : List Entry) (log : Option (ℕ × ℕ)) → length (logged_if entries log) ≡ length entries
as_many entries None = refl
as_many [] (Some log) = refl
as_many (x ∷ []) (Some log) = refl
as_many (x ∷ y ∷ entries) (Some log) = ap suc (as_many (y ∷ entries) (Some log))

never : (A : Type 0) → false ≡ true → A
never A e = cc

pub invariant_of-self-clause-counted : goal.invariant_of-self-clause-counted
invariant_of-self-clause-counted c = c.args.self.now.counted ∙ sym (ap length c.then-self.ensures ∙ as_many c.args.self.now.past.entries c.args.log)

pub invariant_of-self-clause-whole : goal.invariant_of-self-clause-whole
invariant_of-self-clause-whole c = λ keeps. c.log_last.ensures ∙ ap (λ entries. logged_if entries c.args.log) (c.args.self.now.whole keeps) ∙ sym c.then-self.ensures

pub invariant_of-self-else-self-clause-counted : goal.invariant_of-self-else-self-clause-counted
invariant_of-self-else-self-clause-counted c = c.args.self.now.counted ∙ sym (ap length c.then-self.ensures ∙ as_many c.args.self.now.past.entries c.args.log)

pub invariant_of-self-else-self-clause-whole : goal.invariant_of-self-else-self-clause-whole
invariant_of-self-else-self-clause-whole c = λ keeps. never _ (sym c.if-self.false ∙ keeps)

use Rattle.std.proofs.Common.{◌≡◌, ◌-◌, ◌∙◌, ℕ, List, [], ◌∷◌, Option, None, Some, length, get_or, set, refl, ap, arith, true}
use Rattle.std.specs.Prelude.{is_some, not}
use Rattle.ngx_outside.specs.declared.event.Entry.{Entry}
use Rattle.request_journal.specs.Noted.{last_logged, logged_if}
use Rattle.request_journal.proofs.journal.log_last.Goals as goal

-- the last one is set
last_set : (x : Entry) (xs : List Entry) (entry : Entry) (log : ℕ × ℕ) → entry ≡ get_or (x ∷ xs) (length xs) entry →
    set (x ∷ xs) (length xs) (record { moment = entry.moment; tree = entry.tree; log = Some log }) ≡ last_logged (x ∷ xs) log
last_set x [] entry log e = ap (λ (s : Entry). record { moment = s.moment; tree = s.tree; log = Some log } ∷ []) e
last_set x (y ∷ xs) entry log e = ap (λ r. x ∷ r) (last_set y xs entry log e)

logged : (entries : List Entry) (n : ℕ) (entry : Entry) (log : Option (ℕ × ℕ)) → n ≡ length entries - 1 → is_some log ≡ true → entry ≡ get_or entries n entry →
    set entries n (record { moment = entry.moment; tree = entry.tree; log = log }) ≡ logged_if entries log
logged entries n entry None e some g = cc
logged [] n entry (Some log) e some g = refl
logged (x ∷ xs) n entry (Some log) e some g =
    let last : n ≡ length xs = omega (arith, e) in
    ap (λ k. set (x ∷ xs) k (record { moment = entry.moment; tree = entry.tree; log = Some log })) last ∙ last_set x xs entry log (g ∙ ap (λ k. get_or (x ∷ xs) k entry) last)

pub returns : goal.returns
returns c =
    let entries = c.args.kept.now.items in
    let last : c.len-last.result - 1 ≡ length entries - 1 = omega (arith, c.len-last.ensures) in
    logged entries (c.len-last.result - 1) c.index-entry.result.now c.args.log last (c.is_none.ensures ∙ ap not c.if-is_none.false) c.index-entry.ensures

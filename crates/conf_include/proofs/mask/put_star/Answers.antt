use Rattle.std.proofs.Common.{◌≡◌, ◌≢◌, ℕ, List, ◌+◌, ◌-◌, ◌<◌, ◌≤◌, ◌||◌, Bool, true, false, set, length, arith, sym, ap, ◌∙◌, ⊎_elim, get_or-set_other, get_or-set_same, ltb, refl}
use Rattle.std.proofs.lemmas.Bool.{cases_Bool, ltb-true, ltb-false}
use Rattle.conf_include.proofs.MaskLaws.{flag, some_from, some_more, star_row}
use Rattle.conf_include.proofs.mask.put_star.Goals as goal
use Rattle.conf_include.proofs.mask.put_star.Goals.{then-row-at, else-row-at}

-- some flag from the place before on
some_in : (old row : List Bool) (i : ℕ) (some now : Bool) → i < length old → some ≡ some_from old (i + 1) → flag row i ≡ flag old i → now ≡ (flag row i || some) → now ≡ some_from old i
some_in old row i some now inside so_far kept is =
    is ∙ ap (λ t. t || some) kept ∙ ap (λ t. flag old i || t) so_far ∙ sym (some_more old i inside)

behind_in : (old row : List Bool) (i : ℕ) (now : Bool) → i < length old → length row ≡ length old → now ≡ some_from old i
    → ((k : ℕ) → i + 1 ≤ k → k < length old → flag row k ≡ some_from old k)
    → (k : ℕ) → i ≤ k → k < length old → flag (set row i now) k ≡ some_from old k
behind_in old row i now inside len here behind k from below =
    let place : i < length row = omega arith in
    ⊎_elim
    (λ e. let more = ltb-true i k e in let apart : k ≢ i = omega arith in rw get_or-set_other (behind k (omega arith) below))
    (λ e. let at : k ≡ i = omega (arith, from, ltb-false i k e) in ap (flag (set row i now)) at ∙ get_or-set_same row i now false place ∙ here ∙ ap (some_from old) (sym at))
    (cases_Bool (ltb i k))

before_in : (old row : List Bool) (i : ℕ) (now : Bool) → ((k : ℕ) → k < i + 1 → flag row k ≡ flag old k) → (k : ℕ) → k < i → flag (set row i now) k ≡ flag old k
before_in old row i now before k below = let apart : k ≢ i = omega arith in rw get_or-set_other (before k (omega arith))

or_of : (a b now : Bool) → a ≡ true → now ≡ a → now ≡ (a || b)
or_of a b now h k = k ∙ rw h refl

or_else : (a b now : Bool) → a ≡ false → now ≡ b → now ≡ (a || b)
or_else a b now h k = rw (k, h) refl

pub loop-at-preserved : goal.loop-at-preserved
loop-at-preserved c =
    let old = c.args.row.now in
    let row = c.loop-at.row in
    let i = c.loop-at.at - 1 in
    let now = c.if-row-at.some in
    let is = c.loop-at.invariant in
    let len = c.loop-at.auto.row in
    let up : c.loop-at.at ≡ i + 1 = omega (arith, c.loop-at-test.true) in
    let inside : i < length old = omega (arith, c.loop-at-test.true, is.0) in
    let kept : flag row i ≡ flag old i = is.2 i (omega (arith, c.loop-at-test.true)) in
    let sum : now ≡ (flag row i || c.loop-at.some) =
    elim c.if-row-at.branch [
      | then-row-at w ↦ or_of (flag row i) c.loop-at.some now w.if-row-at.true w.some-is
      | else-row-at w ↦ or_else (flag row i) c.loop-at.some now w.if-row-at.false w.some-is
    ] in
    let here = some_in old row i c.loop-at.some now inside (is.1 ∙ ap (some_from old) up) kept sum in (
      omega (arith, is.0),
      here,
      before_in old row i now (λ k below. is.2 k (omega (arith, below, up))),
      behind_in old row i now inside len here (λ k from below. is.3 k (omega (arith, from, up)) below),
    )

pub returns : goal.returns
returns c mask name row =
    star_row mask name c.args.row.now c.loop-at.row row c.loop-at.auto.row (λ k inside. c.loop-at.invariant.3 k (omega (arith, c.loop-at-test.false)) inside)

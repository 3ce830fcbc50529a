use Rattle.std.proofs.Common.{◌≡◌, ◌≢◌, ℕ, List, Bool, true, false, ◌+◌, ◌-◌, ◌<◌, ◌≤◌, get_or, set, drop, length, arith, sym, ap, subst, ◌∙◌, get_or-set_other, get_or-set_same, length-set, replicate, refl, ◌∷◌}
use Rattle.std.proofs.lemmas.List.{get_or-replicate}
use Rattle.std.proofs.lemmas.List.{drop_all, drop_more}
use Rattle.conf_include.specs.Steps.{IsRow}
use Rattle.conf_include.proofs.MaskLaws.{empty_row}
use Rattle.conf_include.proofs.mask.matches.Goals as goal

pub loop-at-init : goal.loop-at-init
loop-at-init c =
    let name = c.args.name.now in
    let n = length name in
    let row = c.as_mut_slice-row.result.now in
    let flags : row ≡ replicate (n + 1) false = c.as_mut_slice-row.ensures.value ∙ c.in_ok-flags.ensures.items_if_clones_equal (λ y h. h) in
    let len : length row ≡ n + 1 = c.as_mut_slice-row.ensures.len ∙ c.in_ok-flags.ensures.len in
    let below : (k : ℕ) → k < n → get_or row k false ≡ false = λ k inside. ap (λ (l : List Bool). get_or l k false) flags ∙ get_or-replicate (n + 1) k false false (omega arith) in
    let last : n < length row = omega arith in (
      omega arith,
      subst (λ (m : List ℕ). IsRow m name (set row n true)) (sym (drop_all (length c.args.mask.now) c.args.mask.now (omega arith)))
          (empty_row name (set row n true) (length-set row n true ∙ len)
          (λ k inside. let apart : k ≢ n = omega arith in rw get_or-set_other (below k inside))
          (get_or-set_same row n true false last)),
    )

-- the mask from the byte before on
before_at : (mask name : List ℕ) (row : List Bool) (at b : ℕ) → 0 < at → at ≤ length mask → b ≡ get_or mask (at - 1) 0 → IsRow (b ∷ drop at mask) name row → IsRow (drop (at - 1) mask) name row
before_at mask name row at b some within is h =
    let down : (at - 1) + 1 ≡ at = omega arith in
    let e : drop (at - 1) mask ≡ b ∷ drop at mask =
    drop_more mask (at - 1) 0 (omega arith) ∙ ap (λ n. get_or mask (at - 1) 0 ∷ drop n mask) down ∙ ap (λ n. n ∷ drop at mask) (sym is) in
    subst (λ m. IsRow m name row) (sym e) h

pub loop-at-preserved-then-mask-at-eq42 : goal.loop-at-preserved-then-mask-at-eq42
loop-at-preserved-then-mask-at-eq42 c =
    let is = c.loop-at.invariant in (
      omega (arith, is.0),
      before_at c.args.mask.now c.args.name.now c.put_star.new.row c.loop-at.at 42 c.loop-at-test.true is.0 (sym c.if-mask-at-eq42.true)
          (c.put_star.ensures (drop c.loop-at.at c.args.mask.now) c.args.name.now is.1),
    )

pub loop-at-preserved : goal.loop-at-preserved
loop-at-preserved c =
    let is = c.loop-at.invariant in (
      omega (arith, is.0),
      before_at c.args.mask.now c.args.name.now c.put_byte.new.row c.loop-at.at (get_or c.args.mask.now (c.loop-at.at - 1) 0) c.loop-at-test.true is.0 refl
          (c.put_byte.ensures (drop c.loop-at.at c.args.mask.now) is.1 c.if-mask-at-eq42.false),
    )

pub returns : goal.returns
returns c =
    let none : c.loop-at.at ≡ 0 = omega (arith, c.loop-at-test.false) in
    let row = subst (λ n. IsRow (drop n c.args.mask.now) c.args.name.now c.loop-at.row) none c.loop-at.invariant.1 in
    row.told 0 (omega arith)

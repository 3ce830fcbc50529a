-- What bytes say is said by as many of them as it takes.
use Rattle.std.proofs.Common.{◌≡◌, ℕ, zero, suc, ◌+◌, ◌-◌, ◌<◌, ◌≤◌, Bool, true, false, ◌&&◌, ◌==◌, List, [], ◌∷◌, Option, None, Some, length, take, drop, refl, sym, ap, ◌∙◌, arith, if◌then◌else◌}
use Rattle.std.proofs.lemmas.List.{take-take, drop-take}
use Rattle.std.specs.List.{prefix_len}
use Rattle.ssi_text.specs.declared.part.Param.{Param}
use Rattle.ssi_text.specs.Commands.{is_quote, is_word, one_more, quoted, unescaped, lowercase, assigned, param_at}
use Rattle.ssi_text.proofs.Insides.{valued, param-none, param-is}

nothing : (n : ℕ) → n ≤ 0 → 0 ≡ n
nothing n h = omega arith

pub prefix-take : (f : ℕ → Bool) (bs : List ℕ) (m : ℕ) → prefix_len f bs ≤ m → prefix_len f (take m bs) ≡ prefix_len f bs
prefix-take f [] zero h = refl
prefix-take f [] (suc m) h = refl
prefix-take f (b ∷ bs) zero h = nothing (prefix_len f (b ∷ bs)) h
prefix-take f (b ∷ bs) (suc m) h =
    elim (f b) as (λ t. (if t then 1 + prefix_len f bs else 0) ≤ suc m → (if t then 1 + prefix_len f (take m bs) else 0) ≡ (if t then 1 + prefix_len f bs else 0)) [
      | true ↦ λ g. ap (λ k. 1 + k) (prefix-take f bs m (omega arith))
      | false ↦ λ g. refl
    ] h

pub cut : (i m : ℕ) (bs : List ℕ) → i ≤ m → drop i (take m bs) ≡ take (m - i) (drop i bs)
cut i m bs h = ap (λ n. drop i (take n bs)) (let n : m ≡ i + (m - i) = omega arith in n) ∙ drop-take i (m - i) bs

-- a value in quotes

least_more : (o : Option ℕ) (k : ℕ) → one_more o ≡ Some k → 1 ≤ k
least_more None k e = cc
least_more (Some n) k e = let g : suc n ≡ k = cc in omega arith

two_more : (o : Option ℕ) (k : ℕ) → ((j : ℕ) → o ≡ Some j → 1 ≤ j) → one_more o ≡ Some k → 2 ≤ k
two_more None k f e = cc
two_more (Some n) k f e = let g : suc n ≡ k = cc in omega (arith, f n refl)

quoted_least : (q : ℕ) (bs : List ℕ) (k : ℕ) → quoted q bs ≡ Some k → 1 ≤ k
unfolding quoted
quoted_least q [] k e = cc
quoted_least q (b ∷ []) k e = elim (b == q) as (λ t. (if t then Some 1 else None) ≡ Some k → 1 ≤ k) [ true ↦ λ h. let g : 1 ≡ k = cc in omega arith | false ↦ λ h. cc ] e
quoted_least q (b ∷ (c ∷ bs)) k e =
    elim (b == q) as (λ t. (if t then Some 1 else (if b == 92 then one_more (one_more (quoted q bs)) else one_more (quoted q (c ∷ bs)))) ≡ Some k → 1 ≤ k) [
      | true ↦ λ h. let g : 1 ≡ k = cc in omega arith
      | false ↦ λ h.
          elim (b == 92) as (λ t. (if t then one_more (one_more (quoted q bs)) else one_more (quoted q (c ∷ bs))) ≡ Some k → 1 ≤ k) [
            | true ↦ λ g. least_more (one_more (quoted q bs)) k g
            | false ↦ λ g. least_more (quoted q (c ∷ bs)) k g
          ] h
    ] e

more_take : (o p : Option ℕ) (k m : ℕ) → ((j : ℕ) → o ≡ Some j → j ≤ m → p ≡ Some j) → one_more o ≡ Some k → k ≤ suc m → one_more p ≡ Some k
more_take None p k m f e h = cc
more_take (Some j) p k m f e h = let g : suc j ≡ k = cc in ap one_more (f j refl (omega arith)) ∙ e

pub quoted-take : (q : ℕ) (bs : List ℕ) (m k : ℕ) → quoted q bs ≡ Some k → k ≤ m → quoted q (take m bs) ≡ Some k
unfolding quoted
quoted-take q [] m k e h = cc
quoted-take q (b ∷ bs) zero k e h = absurd (omega (arith, quoted_least q (b ∷ bs) k e))
quoted-take q (b ∷ []) (suc zero) k e h = e
quoted-take q (b ∷ []) (suc (suc m)) k e h = e
quoted-take q (b ∷ (c ∷ bs)) (suc zero) k e h =
    elim (b == q) as (λ t. (if t then Some 1 else (if b == 92 then one_more (one_more (quoted q bs)) else one_more (quoted q (c ∷ bs)))) ≡ Some k → (if t then Some 1 else None) ≡ Some k) [
      | true ↦ λ g. g
      | false ↦ λ g.
          let long : 2 ≤ k = elim (b == 92) as (λ t. (if t then one_more (one_more (quoted q bs)) else one_more (quoted q (c ∷ bs))) ≡ Some k → 2 ≤ k) [
            | true ↦ λ f. two_more (one_more (quoted q bs)) k (λ j i. least_more (quoted q bs) j i) f
            | false ↦ λ f. two_more (quoted q (c ∷ bs)) k (λ j i. quoted_least q (c ∷ bs) j i) f
          ] g in absurd (omega (arith, long, h))
    ] e
quoted-take q (b ∷ (c ∷ bs)) (suc (suc m)) k e h =
    elim (b == q) as (λ t. (if t then Some 1 else (if b == 92 then one_more (one_more (quoted q bs)) else one_more (quoted q (c ∷ bs)))) ≡ Some k → (if t then Some 1 else (if b == 92 then one_more (one_more (quoted q (take m bs))) else one_more (quoted q (c ∷ take m bs)))) ≡ Some k) [
      | true ↦ λ g. g
      | false ↦ λ g.
          elim (b == 92) as (λ t. (if t then one_more (one_more (quoted q bs)) else one_more (quoted q (c ∷ bs))) ≡ Some k → (if t then one_more (one_more (quoted q (take m bs))) else one_more (quoted q (c ∷ take m bs))) ≡ Some k) [
            | true ↦ λ f. more_take (one_more (quoted q bs)) (one_more (quoted q (take m bs))) k (suc m) (λ j i l. more_take (quoted q bs) (quoted q (take m bs)) j m (λ n u v. quoted-take q bs m n u v) i l) f h
            | false ↦ λ f. more_take (quoted q (c ∷ bs)) (quoted q (c ∷ take m bs)) k (suc m) (λ j i l. quoted-take q (c ∷ bs) (suc m) j i l) f h
          ] g
    ] e

-- a parameter

abbrev pub used_of : Option (Param × ℕ) → ℕ
used_of None = 0
used_of (Some p) = p.1

abbrev with_value : List ℕ → ℕ → ℕ → List ℕ → Option (Param × ℕ)
with_value name n k raw = Some (record { name = lowercase name; value = unescaped raw }, n + (2 + k))

valued_least : (name : List ℕ) (n : ℕ) (bs : List ℕ) (o : Option ℕ) (p : Param) (used : ℕ) → Some (p, used) ≡ valued name n bs o → n + 2 ≤ used
valued_least name n bs None p used e = cc
valued_least name n bs (Some k) p used e = let g : used ≡ n + (2 + k) = ap used_of e in omega arith

pub assigned-least : (name : List ℕ) (n : ℕ) (bs : List ℕ) (p : Param) (used : ℕ) → Some (p, used) ≡ assigned name n bs → n + 2 ≤ used
unfolding assigned
assigned-least name n [] p used e = cc
assigned-least name n (a ∷ []) p used e = cc
assigned-least name n (a ∷ (q ∷ bs)) p used e =
    elim ((a == 61) && is_quote q) as (λ t. Some (p, used) ≡ (if t then valued name n bs (quoted q bs) else None) → n + 2 ≤ used) [
      | true ↦ λ g. valued_least name n bs (quoted q bs) p used g
      | false ↦ λ g. cc
    ] e

valued_take : (name : List ℕ) (n q : ℕ) (bs : List ℕ) (m : ℕ) (o : Option ℕ) (p : Param) (used : ℕ) → o ≡ quoted q bs → Some (p, used) ≡ valued name n bs o → used ≤ n + suc (suc m) → Some (p, used) ≡ valued name n (take m bs) (quoted q (take m bs))
valued_take name n q bs m None p used is e h = cc
valued_take name n q bs m (Some k) p used is e h =
    let g : used ≡ n + (2 + k) = ap used_of e in
    e ∙ ap (with_value name n k) (sym (take-take (k - 1) m bs (omega arith))) ∙ ap (valued name n (take m bs)) (sym (quoted-take q bs m k (sym is) (omega arith)))

pub assigned-take : (name : List ℕ) (n : ℕ) (bs : List ℕ) (m : ℕ) (p : Param) (used : ℕ) → Some (p, used) ≡ assigned name n bs → used ≤ n + m → Some (p, used) ≡ assigned name n (take m bs)
unfolding assigned
assigned-take name n [] m p used e h = cc
assigned-take name n (a ∷ []) m p used e h = cc
assigned-take name n (a ∷ (q ∷ bs)) zero p used e h = absurd (omega (arith, assigned-least name n (a ∷ (q ∷ bs)) p used e))
assigned-take name n (a ∷ (q ∷ bs)) (suc zero) p used e h = absurd (omega (arith, assigned-least name n (a ∷ (q ∷ bs)) p used e))
assigned-take name n (a ∷ (q ∷ bs)) (suc (suc m)) p used e h =
    elim ((a == 61) && is_quote q) as (λ t. Some (p, used) ≡ (if t then valued name n bs (quoted q bs) else None) → Some (p, used) ≡ (if t then valued name n (take m bs) (quoted q (take m bs)) else None)) [
      | true ↦ λ g. valued_take name n q bs m (quoted q bs) p used refl g h
      | false ↦ λ g. cc
    ] e

param_take : (n : ℕ) (bs : List ℕ) (m : ℕ) (p : Param) (used : ℕ) → n ≡ prefix_len is_word bs → Some (p, used) ≡ param_at bs → used ≤ m → (n + 1 ≤ used) × (Some (p, used) ≡ param_at (take m bs))
unfolding param_at
param_take zero bs m p used w e h = let bad : None ≡ Some (p, used) = param-none zero bs w refl ∙ sym e in cc
param_take (suc n) bs m p used w e h =
    let k = suc n in
    let some : k ≡ 0 → ⊥ = λ z. absurd (omega arith) in
    let is : Some (p, used) ≡ assigned (take k bs) k (drop k bs) = e ∙ sym (param-is k bs w some) in
    let low : k + 2 ≤ used = assigned-least (take k bs) k (drop k bs) p used is in
    let same : k ≡ prefix_len is_word (take m bs) = w ∙ sym (prefix-take is_word bs m (omega (arith, w, low, h))) in (
      omega (arith, low),
      assigned-take (take k bs) k (drop k bs) (m - k) p used is (omega (arith, low, h))
          ∙ ap (assigned (take k bs) k) (sym (cut k m bs (omega (arith, low, h))))
          ∙ ap (λ z. assigned z k (drop k (take m bs))) (sym (take-take k m bs (omega (arith, low, h))))
          ∙ param-is k (take m bs) same some,
    )

pub param-take : (bs : List ℕ) (m : ℕ) (p : Param) (used : ℕ) → Some (p, used) ≡ param_at bs → used ≤ m → Some (p, used) ≡ param_at (take m bs)
param-take bs m p used e h = (param_take (prefix_len is_word bs) bs m p used refl e h).1

pub param-least : (bs : List ℕ) (p : Param) (used : ℕ) → Some (p, used) ≡ param_at bs → 1 ≤ used
param-least bs p used e = omega (arith, (param_take (prefix_len is_word bs) bs used p used refl e (omega arith)).0)

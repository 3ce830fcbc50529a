-- What the front of bytes decides stays decided, and so pieces make no difference.
use Rattle.std.proofs.Common.{◌≡◌, ℕ, zero, suc, ◌+◌, ◌-◌, ◌<◌, ◌≤◌, nat_le, true, false, ◌==◌, List, [], ◌∷◌, ◌++◌, Option, None, Some, length, take, drop, refl, sym, ap, ◌∙◌, arith, length-append, length-drop, length-take, if◌then◌else◌, subst}
use Rattle.std.proofs.lemmas.List.{take-append-le, take_all, drop-append-le}
use Rattle.std.proofs.lemmas.Bool.{leb-true, leb-false, le-leb}
use Rattle.ssi_text.specs.declared.part.Part.{Part}
use Rattle.ssi_text.specs.declared.part.Part.TheVariants.{Bad}
use Rattle.ssi_text.specs.declared.place.Begun.{Begun}
use Rattle.ssi_text.specs.declared.place.Begun.TheVariants.{Yes, No, Maybe}
use Rattle.ssi_text.specs.declared.part.Front.{Front}
use Rattle.ssi_text.specs.declared.part.Front.TheVariants.{Open, Plain, Whole}
use Rattle.ssi_text.specs.Marks.{Mark, Byte, Other}
use Rattle.ssi_text.specs.Split as split
use Rattle.ssi_text.specs.Split.{begins, limit, begun, front, opening, parts}
use Rattle.ssi_text.specs.Commands.{Quoting, Outside, Within, Escaped, behind, ends, closes, one_more, size, made}

pub begins-yes : (word bs more : List ℕ) → begins word bs ≡ Yes → begins word (bs ++ more) ≡ Yes
unfolding begins
begins-yes [] bs more e = refl
begins-yes (a ∷ word) [] more e = cc
begins-yes (a ∷ word) (b ∷ bs) more e =
    elim (a == b) as (λ t. (if t then begins word bs else No) ≡ Yes → (if t then begins word (bs ++ more) else No) ≡ Yes) [
      | true ↦ λ h. begins-yes word bs more h
      | false ↦ λ h. h
    ] e

pub begins-no : (word bs more : List ℕ) → begins word bs ≡ No → begins word (bs ++ more) ≡ No
unfolding begins
begins-no [] bs more e = cc
begins-no (a ∷ word) [] more e = cc
begins-no (a ∷ word) (b ∷ bs) more e =
    elim (a == b) as (λ t. (if t then begins word bs else No) ≡ No → (if t then begins word (bs ++ more) else No) ≡ No) [
      | true ↦ λ h. begins-no word bs more h
      | false ↦ λ h. h
    ] e

one_more-some : (o p : Option ℕ) (k : ℕ) → ((j : ℕ) → o ≡ Some j → p ≡ Some j) → one_more o ≡ Some k → one_more p ≡ Some k
one_more-some None p k f e = cc
one_more-some (Some j) p k f e = ap one_more (f j refl) ∙ e

one_more-within : (o : Option ℕ) (k n : ℕ) → ((j : ℕ) → o ≡ Some j → (3 ≤ j) × (j ≤ n)) → one_more o ≡ Some k → (3 ≤ k) × (k ≤ suc n)
one_more-within None k n f e = cc
one_more-within (Some j) k n f e =
    let g : (3 ≤ j) × (j ≤ n) = f j refl in
    let h : suc j ≡ k = cc in (omega (arith, g.0), omega (arith, g.1))

closes-more : (bs more : List ℕ) → 3 ≤ length bs → closes (bs ++ more) ≡ closes bs
closes-more [] more h = absurd (omega arith)
closes-more (a ∷ []) more h = absurd (omega arith)
closes-more (a ∷ (b ∷ [])) more h = absurd (omega arith)
closes-more (a ∷ (b ∷ (c ∷ bs))) more h = refl

closes-long : (bs : List ℕ) → closes bs ≡ true → 3 ≤ length bs
closes-long [] e = cc
closes-long (a ∷ []) e = cc
closes-long (a ∷ (b ∷ [])) e = cc
closes-long (a ∷ (b ∷ (c ∷ bs))) e = omega arith

ends-more : (place : Quoting) (bs more : List ℕ) → 3 ≤ length bs → ends place (bs ++ more) ≡ ends place bs
ends-more Outside bs more h = closes-more bs more h
ends-more (Within q) bs more h = refl
ends-more (Escaped q) bs more h = refl

pub ends-long : (place : Quoting) (bs : List ℕ) → ends place bs ≡ true → 3 ≤ length bs
ends-long Outside bs e = closes-long bs e
ends-long (Within q) bs e = cc
ends-long (Escaped q) bs e = cc

pub size-within : (place : Quoting) (bs : List ℕ) (k : ℕ) → size place bs ≡ Some k → (3 ≤ k) × (k ≤ length bs)
unfolding size
size-within place [] k e = cc
size-within place (b ∷ bs) k e =
    elim (ends place (b ∷ bs)) as (λ t. ends place (b ∷ bs) ≡ t → (if t then Some 3 else one_more (size (behind place b) bs)) ≡ Some k → (3 ≤ k) × (k ≤ suc (length bs))) [
      | true ↦ λ t h. let g : 3 ≡ k = cc in let long : 3 ≤ length (b ∷ bs) = ends-long place (b ∷ bs) t in (omega arith, omega arith)
      | false ↦ λ t h. one_more-within (size (behind place b) bs) k (length bs) (λ j g. size-within (behind place b) bs j g) h
    ] refl e

pub size-more : (place : Quoting) (bs more : List ℕ) (k : ℕ) → size place bs ≡ Some k → size place (bs ++ more) ≡ Some k
unfolding size
size-more place [] more k e = cc
size-more place (b ∷ bs) more k e =
    let w : (3 ≤ k) × (k ≤ length (b ∷ bs)) = size-within place (b ∷ bs) k e in
    ap (λ t. if t then Some 3 else one_more (size (behind place b) (bs ++ more))) (ends-more place (b ∷ bs) more (omega (arith, w.0, w.1)))
    ∙ elim (ends place (b ∷ bs)) as (λ t. (if t then Some 3 else one_more (size (behind place b) bs)) ≡ Some k → (if t then Some 3 else one_more (size (behind place b) (bs ++ more))) ≡ Some k) [
      | true ↦ λ h. h
      | false ↦ λ h. one_more-some (size (behind place b) bs) (size (behind place b) (bs ++ more)) k (λ j g. size-more (behind place b) bs more j g) h
    ] e

pub limit-is : limit ≡ 8192
unfolding limit
limit-is = refl

abbrev pub IsDecided : Front → Type 0
IsDecided Open = ⊥
IsDecided Plain = Unit {0}
IsDecided (Whole part n) = Unit {0}

begun-within : (bs : List ℕ) (o : Option ℕ) (part : Part) (n : ℕ) → ((k : ℕ) → o ≡ Some k → (0 < k) × (k ≤ length bs - 5)) → begun bs o ≡ Whole part n → (0 < n) × (n ≤ length bs)
unfolding begun
begun-within bs (Some k) part n f e =
    let h : (0 < k) × (k ≤ length bs - 5) = f k refl in
    let g : 5 + k ≡ n = cc in (omega arith, omega arith)
begun-within bs None part n f e =
    elim (nat_le limit (length bs)) as (λ t. nat_le limit (length bs) ≡ t → (if t then Whole Bad limit else Open) ≡ Whole part n → (0 < n) × (n ≤ length bs)) [
      | true ↦ λ t h. let g : limit ≡ n = cc in let le : limit ≤ length bs = leb-true limit (length bs) t in (omega (arith, limit-is), omega arith)
      | false ↦ λ t h. cc
    ] refl e

size_at : List ℕ → Option ℕ
size_at bs = size Outside (drop 5 (take limit bs))

size_at-within : (bs : List ℕ) (k : ℕ) → size_at bs ≡ Some k → (0 < k) × (k ≤ length bs - 5)
unfolding size_at
size_at-within bs k e =
    let h : (3 ≤ k) × (k ≤ length (drop 5 (take limit bs))) = size-within Outside (drop 5 (take limit bs)) k e in
    (omega (arith, h.0), omega (arith, h.1, length-drop 5 (take limit bs), length-take limit bs))

pub take_beyond : {A : Type 0} (n : ℕ) (xs ys : List A) → length xs ≤ n → take n (xs ++ ys) ≡ xs ++ take (n - length xs) ys
take_beyond n [] ys h = ap (λ m. take m ys) (omega arith)
take_beyond zero (x ∷ xs) ys h = absurd (omega arith)
take_beyond (suc n) (x ∷ xs) ys h = ap (λ z. x ∷ z) (take_beyond n xs ys (omega arith) ∙ ap (λ m. xs ++ take m ys) (omega arith))

size_at-more : (bs more : List ℕ) (k : ℕ) → size_at bs ≡ Some k → size_at (bs ++ more) ≡ Some k
unfolding size_at
size_at-more bs more k e =
    let within : (0 < k) × (k ≤ length bs - 5) = size_at-within bs k e in
    elim (nat_le limit (length bs)) as (λ t. nat_le limit (length bs) ≡ t → size Outside (drop 5 (take limit (bs ++ more))) ≡ Some k) [
      | true ↦ λ t. ap (λ z. size Outside (drop 5 z)) (take-append-le limit bs more (leb-true limit (length bs) t)) ∙ e
      | false ↦ λ t. let under : length bs < limit = leb-false limit (length bs) t in let short : length bs ≤ limit = omega arith in
          ap (λ z. size Outside (drop 5 z)) (take_beyond limit bs more short)
          ∙ ap (λ z. size Outside z) (drop-append-le 5 bs (take (limit - length bs) more) (omega arith))
          ∙ size-more Outside (drop 5 bs) (take (limit - length bs) more) k (ap (λ z. size Outside (drop 5 z)) (sym (take_all limit bs short)) ∙ e)
    ] refl

begun-more : (bs more : List ℕ) (o q : Option ℕ) (f : Front) → ((k : ℕ) → o ≡ Some k → (q ≡ Some k) × ((0 < k) × (k ≤ length bs - 5))) → (limit ≤ length bs → q ≡ o) → IsDecided f → begun bs o ≡ f → begun (bs ++ more) q ≡ f
unfolding begun
begun-more bs more (Some k) q f some none d e =
    let h : (q ≡ Some k) × ((0 < k) × (k ≤ length bs - 5)) = some k refl in
    ap (λ z. begun (bs ++ more) z) h.0
    ∙ ap (λ z. Whole (made z) (5 + k)) (
    ap (λ z. take (k - 3) z) (drop-append-le 5 bs more (omega (arith, h.1.0, h.1.1)))
    ∙ take-append-le (k - 3) (drop 5 bs) more (omega (arith, h.1.0, h.1.1, length-drop 5 bs)))
    ∙ e
begun-more bs more None q f some none d e =
    elim (nat_le limit (length bs)) as (λ t. nat_le limit (length bs) ≡ t → (if t then Whole Bad limit else Open) ≡ f → begun (bs ++ more) q ≡ f) [
      | true ↦ λ t h.
          let long : limit ≤ length bs = leb-true limit (length bs) t in
          ap (λ z. begun (bs ++ more) z) (none long)
          ∙ ap (λ z. if z then Whole Bad limit else Open) (le-leb limit (length (bs ++ more)) (omega (arith, length-append bs more)))
          ∙ h
      | false ↦ λ t h. absurd (subst IsDecided (sym h) d)
    ] refl e

pub front-within : (bs : List ℕ) (part : Part) (n : ℕ) → front bs ≡ Whole part n → (0 < n) × (n ≤ length bs)
unfolding front size_at
front-within bs part n e =
    elim (begins opening bs) as (λ (s : Begun). (elim s [ Yes ↦ begun bs (size Outside (drop 5 (take limit bs))) | No ↦ Plain | Maybe ↦ Open ]) ≡ Whole part n → (0 < n) × (n ≤ length bs)) [
      | Yes ↦ λ h. begun-within bs (size_at bs) part n (λ k g. size_at-within bs k g) h
      | No ↦ λ h. cc
      | Maybe ↦ λ h. cc
    ] e

pub front-more : (bs more : List ℕ) (f : Front) → IsDecided f → front bs ≡ f → front (bs ++ more) ≡ f
unfolding front size_at
front-more bs more f d e =
    let at : List ℕ → Begun → Front = λ z s. elim s [ Yes ↦ begun z (size Outside (drop 5 (take limit z))) | No ↦ Plain | Maybe ↦ Open ] in
    elim (begins opening bs) as (λ (s : Begun). begins opening bs ≡ s → at bs s ≡ f → front (bs ++ more) ≡ f) [
      | Yes ↦ λ s h. ap (λ z. at (bs ++ more) z) (begins-yes opening bs more s)
          ∙ begun-more bs more (size_at bs) (size_at (bs ++ more)) f (λ k g. (size_at-more bs more k g, size_at-within bs k g)) (λ long. ap (λ z. size Outside (drop 5 z)) (take-append-le limit bs more long)) d h
      | No ↦ λ s h. ap (λ z. at (bs ++ more) z) (begins-no opening bs more s) ∙ h
      | Maybe ↦ λ s h. absurd (subst IsDecided (sym h) d)
    ] refl e

pub split-skip : (n : ℕ) (bs : List ℕ) → split.split n bs ≡ split.split 0 (drop n bs)
unfolding split.split
split-skip zero bs = refl
split-skip (suc n) [] = refl
split-skip (suc n) (b ∷ bs) = split-skip n bs

-- the split of what goes on: what is open with what comes
abbrev pub joined : List Mark × List ℕ → List ℕ → List Mark × List ℕ
joined before more = (before.0 ++ (split.split 0 (before.1 ++ more)).0, (split.split 0 (before.1 ++ more)).1)

abbrev at_front : ℕ → List ℕ → Front → List Mark × List ℕ
at_front b bs f = elim f [
  | Open ↦ ([], b ∷ bs)
  | Plain ↦ (Byte b ∷ (split.split 0 bs).0, (split.split 0 bs).1)
  | Whole part n ↦ (Other part ∷ (split.split (n - 1) bs).0, (split.split (n - 1) bs).1)
]

pub split-append : (n : ℕ) (bs more : List ℕ) → n ≤ length bs → split.split n (bs ++ more) ≡ joined (split.split n bs) more
unfolding split.split
split-append zero [] more h = refl
split-append (suc n) [] more h = absurd (omega arith)
split-append (suc n) (b ∷ bs) more h = split-append n bs more (omega arith)
split-append zero (b ∷ bs) more h =
    elim (front (b ∷ bs)) as (λ (f : Front). front (b ∷ bs) ≡ f → split.split 0 (b ∷ (bs ++ more)) ≡ joined (at_front b bs f) more) [
      | Open ↦ λ e. refl
      | Plain ↦ λ e. ap (at_front b (bs ++ more)) (front-more (b ∷ bs) more Plain tt e) ∙ ap (λ z. (Byte b ∷ z.0, z.1)) (split-append 0 bs more (omega arith))
      | Whole part k ↦ λ e.
          let w : (0 < k) × (k ≤ length (b ∷ bs)) = front-within (b ∷ bs) part k e in
          ap (at_front b (bs ++ more)) (front-more (b ∷ bs) more (Whole part k) tt e) ∙ ap (λ z. (Other part ∷ z.0, z.1)) (split-append (k - 1) bs more (omega arith))
    ] refl

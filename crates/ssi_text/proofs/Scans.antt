-- One step of the scans.
use Rattle.std.proofs.Common.{◌≡◌, ℕ, zero, suc, ◌+◌, ◌<◌, ◌≤◌, Bool, ◌||◌, ◌&&◌, not, true, false, ◌==◌, List, [], ◌∷◌, Option, None, Some, length, get_or, drop, refl, sym, ap, ◌∙◌, arith, length-drop, if◌then◌else◌}
use Rattle.std.proofs.lemmas.List.{drop_more, drop_all, drop-drop}
use Rattle.std.proofs.lemmas.Bool.{eqb-true, eq-eqb, ne_eqb}
use Rattle.ssi_text.specs.declared.place.Begun.TheVariants.{Yes, No, Maybe}
use Rattle.ssi_text.specs.Split.{begins}
use Rattle.std.specs.List.{prefix_len}
use Rattle.ssi_text.specs.Commands.{Quoting, Outside, Within, Escaped, behind, closes, ends, is_plain, is_quote, size, one_more, quoted, taken}
use Rattle.ssi_text.proofs.Decided.{ends-long}

begins-cons : (a b : ℕ) (word bs : List ℕ) → begins (a ∷ word) (b ∷ bs) ≡ (if a == b then begins word bs else No)
unfolding begins
begins-cons a b word bs = refl

begins-end : (a : ℕ) (word : List ℕ) → begins (a ∷ word) [] ≡ Maybe
unfolding begins
begins-end a word = refl

begins-none : (bs : List ℕ) → begins [] bs ≡ Yes
unfolding begins
begins-none bs = refl

begins-at : (word bs : List ℕ) (i : ℕ) → i < length word → i < length bs → begins (drop i word) (drop i bs) ≡ (if get_or word i 0 == get_or bs i 0 then begins (drop (i + 1) word) (drop (i + 1) bs) else No)
begins-at word bs i h g =
    ap (λ z. begins z (drop i bs)) (drop_more word i 0 h) ∙ ap (λ z. begins (get_or word i 0 ∷ drop (i + 1) word) z) (drop_more bs i 0 g)
    ∙ begins-cons (get_or word i 0) (get_or bs i 0) (drop (i + 1) word) (drop (i + 1) bs)

pub begins-same : (word bs : List ℕ) (i : ℕ) → i < length word → i < length bs → get_or word i 0 ≡ get_or bs i 0 → begins (drop (i + 1) word) (drop (i + 1) bs) ≡ begins (drop i word) (drop i bs)
begins-same word bs i h g e = sym (begins-at word bs i h g ∙ ap (λ t. if t then begins (drop (i + 1) word) (drop (i + 1) bs) else No) (eq-eqb _ _ e))

pub begins-other : (word bs : List ℕ) (i : ℕ) → i < length word → i < length bs → (get_or word i 0 ≡ get_or bs i 0 → ⊥) → No ≡ begins (drop i word) (drop i bs)
begins-other word bs i h g e = sym (begins-at word bs i h g ∙ ap (λ t. if t then begins (drop (i + 1) word) (drop (i + 1) bs) else No) (ne_eqb _ _ e))

pub begins-short : (word bs : List ℕ) (i : ℕ) → i < length word → length bs ≤ i → Maybe ≡ begins (drop i word) (drop i bs)
begins-short word bs i h g = sym (ap (λ z. begins z (drop i bs)) (drop_more word i 0 h) ∙ ap (λ z. begins (get_or word i 0 ∷ drop (i + 1) word) z) (drop_all i bs g) ∙ begins-end (get_or word i 0) (drop (i + 1) word))

pub begins-all : (word bs : List ℕ) (i : ℕ) → length word ≤ i → Yes ≡ begins (drop i word) (drop i bs)
begins-all word bs i h = sym (ap (λ z. begins z (drop i bs)) (drop_all i word h) ∙ begins-none (drop i bs))

abbrev pub add : ℕ → Option ℕ → Option ℕ
add i None = None
add i (Some n) = Some (i + n)

size-cons : (place : Quoting) (b : ℕ) (bs : List ℕ) → size place (b ∷ bs) ≡ (if ends place (b ∷ bs) then Some 3 else one_more (size (behind place b) bs))
unfolding size
size-cons place b bs = refl

size-none : (place : Quoting) → size place [] ≡ None
unfolding size
size-none place = refl

size-at : (place : Quoting) (bs : List ℕ) (i : ℕ) → i < length bs → size place (drop i bs) ≡ (if ends place (drop i bs) then Some 3 else one_more (size (behind place (get_or bs i 0)) (drop (i + 1) bs)))
size-at place bs i h = ap (size place) (drop_more bs i 0 h) ∙ size-cons place (get_or bs i 0) (drop (i + 1) bs) ∙ ap (λ z. if ends place z then Some 3 else one_more (size (behind place (get_or bs i 0)) (drop (i + 1) bs))) (sym (drop_more bs i 0 h))

add-one_more : (i : ℕ) (o : Option ℕ) → add i (one_more o) ≡ add (i + 1) o
add-one_more i None = refl
add-one_more i (Some n) = ap Some (omega arith)

pub size-ends : (place : Quoting) (bs : List ℕ) (i : ℕ) → i < length bs → ends place (drop i bs) ≡ true → Some (i + 3) ≡ add i (size place (drop i bs))
size-ends place bs i h e = sym (ap (add i) (size-at place bs i h ∙ ap (λ t. if t then Some 3 else one_more (size (behind place (get_or bs i 0)) (drop (i + 1) bs))) e))

pub size-on : (place : Quoting) (bs : List ℕ) (i : ℕ) → i < length bs → ends place (drop i bs) ≡ false → add (i + 1) (size (behind place (get_or bs i 0)) (drop (i + 1) bs)) ≡ add i (size place (drop i bs))
size-on place bs i h e = sym (ap (add i) (size-at place bs i h ∙ ap (λ t. if t then Some 3 else one_more (size (behind place (get_or bs i 0)) (drop (i + 1) bs))) e) ∙ add-one_more i _)

pub size-past : (place : Quoting) (bs : List ℕ) (i : ℕ) → length bs ≤ i → None ≡ add i (size place (drop i bs))
size-past place bs i h = sym (ap (add i) (ap (size place) (drop_all i bs h) ∙ size-none place))

pub end-within : (place : Quoting) (bs : List ℕ) (i : ℕ) → ends place (drop i bs) ≡ true → i + 3 ≤ length bs
end-within place bs i e = omega (arith, ends-long place (drop i bs) e, length-drop i bs)

-- a run of plain bytes

pub none_of : (x y : Bool) → not (x || y) ≡ true → (x ≡ false) × (y ≡ false)
none_of true y e = cc
none_of false true e = cc
none_of false false e = (refl, refl)

closes-dash : (b : ℕ) (bs : List ℕ) → (b == 45) ≡ false → closes (b ∷ bs) ≡ false
closes-dash b [] e = refl
closes-dash b (c ∷ []) e = refl
closes-dash b (c ∷ (d ∷ bs)) e = ap (λ t. t && ((c == 45) && (d == 62))) e

size-plain : (b : ℕ) (bs : List ℕ) → is_plain b ≡ true → size Outside (b ∷ bs) ≡ one_more (size Outside bs)
size-plain b bs e =
    let parts : ((b == 45) ≡ false) × (is_quote b ≡ false) = none_of (b == 45) (is_quote b) e in
    size-cons Outside b bs
    ∙ ap (λ t. if t then Some 3 else one_more (size (behind Outside b) bs)) (closes-dash b bs parts.0)
    ∙ ap (λ t. one_more (size (if t then Within b else Outside) bs)) parts.1

one_more-add : (n : ℕ) (o : Option ℕ) → one_more (add n o) ≡ add (suc n) o
one_more-add n None = refl
one_more-add n (Some k) = ap Some (omega arith)

add-none : (o : Option ℕ) → add 0 o ≡ o
add-none None = refl
add-none (Some k) = ap Some (omega arith)

add-add : (i k : ℕ) (o : Option ℕ) → add i (add k o) ≡ add (i + k) o
add-add i k None = refl
add-add i k (Some n) = ap Some (omega arith)

past_plain : (bs : List ℕ) → add (prefix_len is_plain bs) (size Outside (drop (prefix_len is_plain bs) bs)) ≡ size Outside bs
past_plain [] = add-none (size Outside [])
past_plain (b ∷ bs) =
    let n = prefix_len is_plain bs in
    elim (is_plain b) as (λ t. is_plain b ≡ t → add (if t then 1 + n else 0) (size Outside (drop (if t then 1 + n else 0) (b ∷ bs))) ≡ size Outside (b ∷ bs)) [
      | true ↦ λ e. ap (λ m. add m (size Outside (drop m (b ∷ bs)))) (let one : 1 + n ≡ suc n = omega arith in one) ∙ sym (one_more-add n (size Outside (drop n bs))) ∙ ap one_more (past_plain bs) ∙ sym (size-plain b bs e)
      | false ↦ λ e. add-none (size Outside (b ∷ bs))
    ] refl

-- the same from a place on
pub size-past_plain : (bs rest : List ℕ) (i n : ℕ) → rest ≡ drop i bs → n ≡ prefix_len is_plain rest → add (i + n) (size Outside (drop (i + n) bs)) ≡ add i (size Outside (drop i bs))
size-past_plain bs rest i n r e =
    let run : n ≡ prefix_len is_plain (drop i bs) = e ∙ ap (prefix_len is_plain) r in
    ap (λ z. add (i + n) (size Outside z)) (sym (drop-drop n i bs))
    ∙ sym (add-add i n (size Outside (drop n (drop i bs))))
    ∙ ap (λ k. add i (add k (size Outside (drop k (drop i bs))))) run
    ∙ ap (add i) (past_plain (drop i bs))

-- a byte that isn't plain

abbrev after : List ℕ → Option ℕ → Option ℕ
after bs None = None
after bs (Some n) = add n (size Outside (drop n bs))

after-more : (b : ℕ) (bs : List ℕ) (o : Option ℕ) → one_more (after bs o) ≡ after (b ∷ bs) (one_more o)
after-more b bs None = refl
after-more b bs (Some n) = one_more-add n (size Outside (drop n bs))

-- from within a quote a command goes on after the closing one
size-quoted : (q : ℕ) (bs : List ℕ) → size (Within q) bs ≡ after bs (quoted q bs)
unfolding size quoted
size-quoted q [] = refl
size-quoted q (b ∷ []) = elim (b == q) as (λ t. None ≡ after (b ∷ []) (if t then Some 1 else None)) [ true ↦ refl | false ↦ refl ]
size-quoted q (b ∷ (c ∷ bs)) =
    elim (b == q) as (λ t. one_more (size (if t then Outside else (if b == 92 then Escaped q else Within q)) (c ∷ bs)) ≡ after (b ∷ (c ∷ bs)) (if t then Some 1 else (if b == 92 then one_more (one_more (quoted q bs)) else one_more (quoted q (c ∷ bs))))) [
      | true ↦ ap one_more (sym (add-none (size Outside (c ∷ bs)))) ∙ one_more-add 0 (size Outside (c ∷ bs))
      | false ↦
          elim (b == 92) as (λ t. one_more (size (if t then Escaped q else Within q) (c ∷ bs)) ≡ after (b ∷ (c ∷ bs)) (if t then one_more (one_more (quoted q bs)) else one_more (quoted q (c ∷ bs)))) [
            | true ↦ ap (λ o. one_more (one_more o)) (size-quoted q bs) ∙ ap one_more (after-more c bs (quoted q bs)) ∙ after-more b (c ∷ bs) (one_more (quoted q bs))
            | false ↦ ap one_more (size-quoted q (c ∷ bs)) ∙ after-more b (c ∷ bs) (quoted q (c ∷ bs))
          ]
    ]

abbrev pub from_here : List ℕ → ℕ → Option ℕ → Option ℕ
from_here bs i None = None
from_here bs i (Some n) = add (i + n) (size Outside (drop (i + n) bs))

from_here-after : (bs : List ℕ) (i : ℕ) (o : Option ℕ) → from_here bs i (one_more o) ≡ add (i + 1) (after (drop (i + 1) bs) o)
from_here-after bs i None = refl
from_here-after bs i (Some k) =
    let n : i + suc k ≡ (i + 1) + k = omega arith in
    ap (λ m. add m (size Outside (drop m bs))) n
    ∙ ap (λ z. add ((i + 1) + k) (size Outside z)) (sym (drop-drop k (i + 1) bs))
    ∙ sym (add-add (i + 1) k (size Outside (drop k (drop (i + 1) bs))))

pub size-taken : (bs : List ℕ) (i : ℕ) (o : Option ℕ) → i < length bs → closes (drop i bs) ≡ false → o ≡ taken (get_or bs i 0) (drop (i + 1) bs) → from_here bs i o ≡ add i (size Outside (drop i bs))
size-taken bs i o h e is =
    let b = get_or bs i 0 in
    let rest = drop (i + 1) bs in
    ap (from_here bs i) is
    ∙ elim (is_quote b) as (λ t. from_here bs i (if t then one_more (quoted b rest) else Some 1) ≡ add (i + 1) (size (if t then Within b else Outside) rest)) [
      | true ↦ from_here-after bs i (quoted b rest) ∙ ap (add (i + 1)) (sym (size-quoted b rest))
      | false ↦ refl
    ]
    ∙ size-on Outside bs i h e

-- as many plain bytes as one likes
pub size-skip : (n : ℕ) (bs : List ℕ) → n ≤ prefix_len is_plain bs → add n (size Outside (drop n bs)) ≡ size Outside bs
size-skip zero bs h = add-none (size Outside bs)
size-skip (suc n) [] h = let none : suc n ≤ 0 = h in absurd (omega arith)
size-skip (suc n) (b ∷ bs) h =
    elim (is_plain b) as (λ t. is_plain b ≡ t → suc n ≤ (if t then 1 + prefix_len is_plain bs else 0) → add (suc n) (size Outside (drop n bs)) ≡ size Outside (b ∷ bs)) [
      | true ↦ λ e g. sym (one_more-add n (size Outside (drop n bs))) ∙ ap one_more (size-skip n bs (omega arith)) ∙ sym (size-plain b bs e)
      | false ↦ λ e g. absurd (omega arith)
    ] refl h

pub size-three : (bs : List ℕ) → closes bs ≡ true → size Outside bs ≡ Some 3
size-three [] e = cc
size-three (b ∷ bs) e = size-cons Outside b bs ∙ ap (λ t. if t then Some 3 else one_more (size (behind Outside b) bs)) e

quote_dash : (q : ℕ) → is_quote q ≡ true → (q == 45) ≡ false
quote_dash q e =
    elim (q == 34) as (λ t. (q == 34) ≡ t → (t || (q == 39)) ≡ true → (q == 45) ≡ false) [
      | true ↦ λ t _. ap (λ z. z == 45) (eqb-true q 34 t)
      | false ↦ λ _ h. ap (λ z. z == 45) (eqb-true q 39 h)
    ] refl e

-- `=` and a value in quotes
pub size-assigned : (a q : ℕ) (bs : List ℕ) (k : ℕ) → (a == 61) ≡ true → is_quote q ≡ true → Some k ≡ quoted q bs → size Outside (a ∷ (q ∷ bs)) ≡ add (2 + k) (size Outside (drop (2 + k) (a ∷ (q ∷ bs))))
size-assigned a q bs k ea eq ek =
    let o = size Outside (drop k bs) in
    size-plain a (q ∷ bs) (ap is_plain (eqb-true a 61 ea))
    ∙ ap one_more (size-cons Outside q bs ∙ ap (λ t. if t then Some 3 else one_more (size (behind Outside q) bs)) (closes-dash q bs (quote_dash q eq)))
    ∙ ap (λ t. one_more (one_more (size (if t then Within q else Outside) bs))) eq
    ∙ ap (λ z. one_more (one_more z)) (size-quoted q bs ∙ ap (after bs) (sym ek))
    ∙ ap one_more (one_more-add k o) ∙ one_more-add (suc k) o
    ∙ ap (λ m. add m (size Outside (drop m (a ∷ (q ∷ bs))))) (let two : suc (suc k) ≡ 2 + k = omega arith in two)

-- A command that is read with no search for its end.
use Rattle.std.proofs.Common.{◌≡◌, ℕ, zero, suc, ◌+◌, ◌-◌, ◌<◌, ◌≤◌, Bool, true, false, not, ◌&&◌, ◌||◌, ◌==◌, List, [], ◌∷◌, ◌++◌, Option, None, Some, length, get_or, take, drop, refl, sym, ap, ◌∙◌, arith, length-drop, length-take, subst, IfSome, if◌then◌else◌}
use Rattle.std.proofs.lemmas.List.{take-take, drop-take, drop-drop, length-take-le}
use Rattle.std.proofs.lemmas.Bool.{eqb-true}
use Rattle.std.specs.List.{prefix_len}
use Rattle.ssi_text.specs.declared.part.Param.{Param}
use Rattle.ssi_text.specs.declared.part.Part.{Part}
use Rattle.ssi_text.specs.declared.part.Part.TheVariants.{Command}
use Rattle.ssi_text.specs.declared.part.Front.TheVariants.{Whole}
use Rattle.ssi_text.specs.Split.{limit, begun}
use Rattle.ssi_text.specs.Commands.{Outside, size, closes, is_plain, is_quote, is_space, is_word, quoted, lowercase, assigned, param_at, params, made}
use Rattle.ssi_text.specs.Reads.{ReadParam, ReadParams, ReadCommand}
use Rattle.ssi_text.proofs.Decided.{limit-is}
use Rattle.ssi_text.proofs.Scans.{add, none_of, size-skip, size-three, size-assigned, end-within}
use Rattle.ssi_text.proofs.Steps.{begun-some}
use Rattle.ssi_text.proofs.Insides.{no_more, valued, with_all, param-is, made-is, all-more, all-end}
use Rattle.ssi_text.proofs.Shorter.{prefix-take, cut, used_of, param-take, param-least}

-- runs of bytes

abbrev pub is_letter : ℕ → Bool
is_letter b = is_word b && is_plain b

weaker : (f g : ℕ → Bool) → ((b : ℕ) → f b ≡ true → g b ≡ true) → (bs : List ℕ) → prefix_len f bs ≤ prefix_len g bs
weaker f g h [] = omega arith
weaker f g h (b ∷ bs) =
    let rest : prefix_len f bs ≤ prefix_len g bs = weaker f g h bs in
    let one : 1 + prefix_len f bs ≤ 1 + prefix_len g bs = omega arith in
    elim (f b) as (λ t. f b ≡ t → (if t then 1 + prefix_len f bs else 0) ≤ prefix_len g (b ∷ bs)) [
      | true ↦ λ e. subst (λ t. 1 + prefix_len f bs ≤ (if t then 1 + prefix_len g bs else 0)) (sym (h b e)) one
      | false ↦ λ e. omega arith
    ] refl

space_plain : (b : ℕ) → is_space b ≡ true → is_plain b ≡ true
space_plain b e =
    elim (b == 32) as (λ t. (b == 32) ≡ t → (t || ((b == 9) || ((b == 10) || (b == 13)))) ≡ true → is_plain b ≡ true) [
      | true ↦ λ t _. ap is_plain (eqb-true b 32 t)
      | false ↦ λ _ f.
          elim (b == 9) as (λ t. (b == 9) ≡ t → (t || ((b == 10) || (b == 13))) ≡ true → is_plain b ≡ true) [
            | true ↦ λ t _. ap is_plain (eqb-true b 9 t)
            | false ↦ λ _ g.
                elim (b == 10) as (λ t. (b == 10) ≡ t → (t || (b == 13)) ≡ true → is_plain b ≡ true) [
                  | true ↦ λ t _. ap is_plain (eqb-true b 10 t)
                  | false ↦ λ _ k. ap is_plain (eqb-true b 13 k)
                ] refl g
          ] refl f
    ] refl e

letter_plain : (b : ℕ) → is_letter b ≡ true → is_plain b ≡ true
letter_plain b e = elim (is_word b) as (λ t. (t && is_plain b) ≡ true → is_plain b ≡ true) [ true ↦ λ h. h | false ↦ λ h. cc ] e

dash_only : (b : ℕ) → is_word b ≡ true → is_plain b ≡ false → (b == 45) ≡ false → ⊥
dash_only b w p d =
    let quote : is_quote b ≡ false = (no_more (b == 61) (is_quote b) (none_of (is_space b) ((b == 61) || is_quote b) w).1).1 in
    let plain : is_plain b ≡ true = ap (λ t. not (t || is_quote b)) d ∙ ap (λ t. not t) quote in
    let bad : true ≡ false = sym plain ∙ p in cc

letters_word : (bs : List ℕ) → (get_or (drop (prefix_len is_letter bs) bs) 0 0 == 45) ≡ false → prefix_len is_letter bs ≡ prefix_len is_word bs
letters_word [] e = refl
letters_word (b ∷ bs) e =
    let n = prefix_len is_letter bs in
    elim (is_word b) as (λ t. is_word b ≡ t → (get_or (drop (if t && is_plain b then 1 + n else 0) (b ∷ bs)) 0 0 == 45) ≡ false → (if t && is_plain b then 1 + n else 0) ≡ (if t then 1 + prefix_len is_word bs else 0)) [
      | true ↦ λ w.
          elim (is_plain b) as (λ s. is_plain b ≡ s → (get_or (drop (if s then 1 + n else 0) (b ∷ bs)) 0 0 == 45) ≡ false → (if s then 1 + n else 0) ≡ 1 + prefix_len is_word bs) [
            | true ↦ λ p h. ap (λ k. 1 + k) (letters_word bs (ap (λ k. get_or (drop k (b ∷ bs)) 0 0 == 45) (let one : suc n ≡ 1 + n = omega arith in one) ∙ h))
            | false ↦ λ p h. absurd (dash_only b w p h)
          ] refl
      | false ↦ λ w h. refl
    ] refl e

pub name-word : (n : ℕ) (bs rest : List ℕ) (t : Bool) → n ≡ prefix_len is_letter bs → rest ≡ drop n bs → t ≡ (get_or rest 0 0 == 45) → t ≡ false → n ≡ prefix_len is_word bs
name-word n bs rest t e r is f = e ∙ letters_word bs (ap (λ k. get_or (drop k bs) 0 0 == 45) (sym e) ∙ ap (λ z. get_or z 0 0 == 45) (sym r) ∙ sym is ∙ f)

pub name-plain : (n : ℕ) (bs : List ℕ) → n ≡ prefix_len is_letter bs → n ≤ prefix_len is_plain bs
name-plain n bs e = omega (arith, e, weaker is_letter is_plain letter_plain bs)

gap_plain : (n : ℕ) (bs : List ℕ) → n ≡ prefix_len is_space bs → n ≤ prefix_len is_plain bs
gap_plain n bs e = omega (arith, e, weaker is_space is_plain space_plain bs)

-- a parameter

both : (x y : Bool) → (x && y) ≡ true → (x ≡ true) × (y ≡ true)
both true y e = (refl, e)
both false y e = cc

abbrev GoesOver : ℕ → ℕ → List ℕ → Type 0
GoesOver used n bs = (k : ℕ) × ((used ≡ n + k) × (size Outside bs ≡ add k (size Outside (drop k bs))))

valued_size : (name : List ℕ) (n a q : ℕ) (bs : List ℕ) (o : Option ℕ) (p : Param) (used : ℕ) → ((a == 61) && is_quote q) ≡ true → o ≡ quoted q bs → Some (p, used) ≡ valued name n bs o → GoesOver used n (a ∷ (q ∷ bs))
valued_size name n a q bs None p used t is e = cc
valued_size name n a q bs (Some k) p used t is e = (2 + k, (ap used_of e, size-assigned a q bs k (both (a == 61) (is_quote q) t).0 (both (a == 61) (is_quote q) t).1 is))

assigned_size : (name : List ℕ) (n : ℕ) (bs : List ℕ) (p : Param) (used : ℕ) → Some (p, used) ≡ assigned name n bs → GoesOver used n bs
unfolding assigned
assigned_size name n [] p used e = cc
assigned_size name n (a ∷ []) p used e = cc
assigned_size name n (a ∷ (q ∷ bs)) p used e =
    elim ((a == 61) && is_quote q) as (λ t. ((a == 61) && is_quote q) ≡ t → Some (p, used) ≡ (if t then valued name n bs (quoted q bs) else None) → GoesOver used n (a ∷ (q ∷ bs))) [
      | true ↦ λ t g. valued_size name n a q bs (quoted q bs) p used t refl g
      | false ↦ λ t g. cc
    ] refl e

read-param : (n : ℕ) (bs name rest : List ℕ) (p : Param) (used : ℕ) → n ≡ prefix_len is_word bs → n ≤ prefix_len is_plain bs → (n ≡ 0 → ⊥) → n ≤ length bs → name ≡ take n bs → rest ≡ drop n bs → Some (p, used) ≡ assigned name (length name) rest → used ≤ length name + length rest → ReadParam p used bs
read-param n bs name rest p used w plain some low nm r e within =
    let long : length name ≡ n = ap length nm ∙ length-take-le n bs low in
    let is : Some (p, used) ≡ assigned (take n bs) n (drop n bs) = e ∙ ap (λ z. assigned z (length name) rest) nm ∙ ap (λ k. assigned (take n bs) k rest) long ∙ ap (assigned (take n bs) n) r in
    let s : GoesOver used n (drop n bs) = assigned_size (take n bs) n (drop n bs) p used is in
    record {
      within = omega (arith, within, long, ap length r, length-drop n bs, low);
      value = is ∙ param-is n bs w some;
      goes_on = λ m g.
          sym (size-skip n bs plain) ∙ ap (add n) s.1.1
          ∙ ap (λ z. add n (add s.0 (size Outside z))) (drop-drop s.0 n bs ∙ ap (λ i. drop i bs) (sym s.1.0))
          ∙ ap (λ o. add n (add s.0 o)) g ∙ ap Some (let sum : n + (s.0 + m) ≡ used + m = omega (arith, s.1.0) in sum);
    }

pub read-found : (n : ℕ) (bs name rest : List ℕ) (o : Option (Param × ℕ)) → n ≡ prefix_len is_word bs → n ≤ prefix_len is_plain bs → (n ≡ 0 → ⊥) → n ≤ length bs → name ≡ take n bs → rest ≡ drop n bs → o ≡ assigned name (length name) rest → IfSome o (λ q. q.1 ≤ length name + length rest) → IfSome o (λ q. ReadParam q.0 q.1 bs)
read-found n bs name rest None w plain some low nm r e h = h
read-found n bs name rest (Some q) w plain some low nm r e h = read-param n bs name rest q.0 q.1 w plain some low nm r e h

pub some-param : (o : Option (Param × ℕ)) (p : Param) (used : ℕ) (rest bs : List ℕ) → IfSome o (λ q. ReadParam q.0 q.1 rest) → o ≡ Some (p, used) → rest ≡ bs → ReadParam p used bs
some-param o p used rest bs h e r = subst (λ (z : List ℕ). ReadParam p used z) r (subst (λ (z : Option (Param × ℕ)). IfSome z (λ q. ReadParam q.0 q.1 rest)) e h)

-- all parameters

abbrev pub Reading : List Param → ℕ → List ℕ → Type 0
Reading found at bs = ((n : ℕ) → size Outside (drop at bs) ≡ Some n → size Outside bs ≡ Some (at + n)) × ((m : ℕ) → at ≤ m → m ≤ length bs → with_all found (params (drop at (take m bs))) ≡ params (take m bs))

with_none : (o : Option (List Param)) → with_all [] o ≡ o
with_none None = refl
with_none (Some ps) = refl

pub reading-start : (bs : List ℕ) → Reading [] 0 bs
reading-start bs = (λ n e. e ∙ ap Some (let same : n ≡ 0 + n = omega arith in same), λ m h l. with_none (params (take m bs)))

over_gap : (bs : List ℕ) (at gap n : ℕ) → gap ≡ prefix_len is_space (drop at bs) → size Outside (drop (at + gap) bs) ≡ Some n → size Outside (drop at bs) ≡ Some (gap + n)
over_gap bs at gap n g e = sym (size-skip gap (drop at bs) (gap_plain gap (drop at bs) g)) ∙ ap (λ z. add gap (size Outside z)) (drop-drop gap at bs) ∙ ap (add gap) e

gap_take : (bs : List ℕ) (at gap m : ℕ) → gap ≡ prefix_len is_space (drop at bs) → at + gap ≤ m → gap ≡ prefix_len is_space (drop at (take m bs))
gap_take bs at gap m g h = g ∙ sym (ap (prefix_len is_space) (cut at m bs (omega arith)) ∙ prefix-take is_space (drop at bs) (m - at) (omega (arith, g)))

pub reading-more : (found now : List Param) (bs : List ℕ) (at gap used : ℕ) (p : Param) → gap ≡ prefix_len is_space (drop at bs) → (gap ≡ 0 → ⊥) → ReadParam p used (drop (at + gap) bs) → now ≡ found ++ p ∷ [] → Reading found at bs → Reading now (at + gap + used) bs
reading-more found now bs at gap used p g some r is old = (
  λ n e.
      old.0 (gap + (used + n)) (over_gap bs at gap (used + n) g (r.goes_on n (ap (size Outside) (drop-drop used (at + gap) bs) ∙ e)))
      ∙ ap Some (let sum : at + (gap + (used + n)) ≡ (at + gap + used) + n = omega arith in sum),
  λ m h l.
      let least : 1 ≤ used = param-least (drop (at + gap) bs) p used r.value in
      all-more found now (take m bs) (drop at (take m bs)) (drop (at + gap) (take m bs)) at gap used (Some (p, used)) p refl (gap_take bs at gap m g (omega arith)) (λ z. absurd (omega (arith, z, least, h, length-take-le m bs l))) some refl
      (param-take (drop (at + gap) bs) (m - (at + gap)) p used r.value (omega arith) ∙ ap param_at (sym (cut (at + gap) m bs (omega arith)))) refl is
      ∙ old.1 m (omega arith) l,
)

pub reading-ends : (found : List Param) (bs rest : List ℕ) (at gap : ℕ) → gap ≡ prefix_len is_space (drop at bs) → rest ≡ drop (at + gap) bs → true ≡ closes rest → Reading found at bs → ReadParams found (at + gap) bs
reading-ends found bs rest at gap g r e old =
    let closed : closes (drop (at + gap) bs) ≡ true = ap closes (sym r) ∙ sym e in
    let low : at + gap + 3 ≤ length bs = end-within Outside bs (at + gap) closed in
    let long : length (take (at + gap) bs) ≡ at + gap = length-take-le (at + gap) bs (omega (arith, low)) in
    record {
      ends = old.0 (gap + 3) (over_gap bs at gap 3 g (size-three (drop (at + gap) bs) closed)) ∙ ap Some (let sum : at + (gap + 3) ≡ (at + gap) + 3 = omega arith in sum);
      value = all-end found (take (at + gap) bs) (drop at (take (at + gap) bs)) at gap refl (gap_take bs at gap (at + gap) g (omega arith)) (omega (arith, long)) ∙ old.1 (at + gap) (omega arith) (omega (arith, low));
      within = low;
    }

pub some-params : (o : Option (List Param × ℕ)) (ps : List Param) (used : ℕ) (bs : List ℕ) → IfSome o (λ q. ReadParams q.0 q.1 bs) → o ≡ Some (ps, used) → ReadParams ps used bs
some-params o ps used bs h e = subst (λ (z : Option (List Param × ℕ)). IfSome z (λ q. ReadParams q.0 q.1 bs)) e h

-- a whole command

pub some-command : (o : Option (Part × ℕ)) (part : Part) (n : ℕ) (bs : List ℕ) → IfSome o (λ q. ReadCommand q.0 q.1 bs) → o ≡ Some (part, n) → ReadCommand part n bs
some-command o part n bs h e = subst (λ (z : Option (Part × ℕ)). IfSome z (λ q. ReadCommand q.0 q.1 bs)) e h

pub read-command : (bs named rest name : List ℕ) (before len used : ℕ) (ps : List Param) → name ≡ lowercase (take len named) → before ≡ prefix_len is_space bs → named ≡ drop before bs → len ≡ prefix_len is_word named → len ≤ prefix_len is_plain named → (len ≡ 0 → ⊥) → rest ≡ drop len named → ReadParams ps used rest → ReadCommand (Command name ps) (before + len + used + 3) bs
read-command bs named rest name before len used ps is b nm w plain some r read =
    let m = before + len + used in
    let of_named : size Outside named ≡ Some (len + (used + 3)) = sym (size-skip len named plain) ∙ ap (λ z. add len (size Outside z)) (sym r) ∙ ap (add len) read.ends in
    let of_all : size Outside bs ≡ Some (before + (len + (used + 3))) = sym (size-skip before bs (gap_plain before bs b)) ∙ ap (λ z. add before (size Outside z)) (sym nm) ∙ ap (add before) of_named in
    let space : prefix_len is_space (take m bs) ≡ before = prefix-take is_space bs m (omega (arith, b)) ∙ sym b in
    let bytes : take (len + used) named ≡ drop (prefix_len is_space (take m bs)) (take m bs) =
    sym (ap (λ k. drop k (take m bs)) space ∙ cut before m bs (omega arith) ∙ ap (λ k. take k (drop before bs)) (let k : m - before ≡ len + used = omega arith in k) ∙ ap (take (len + used)) (sym nm)) in
    record {
      ends = of_all ∙ ap Some (let sum : before + (len + (used + 3)) ≡ before + len + used + 3 = omega arith in sum);
      value =
          ap (λ z. Command z ps) is ∙ ap (λ z. Command (lowercase z) ps) (sym (take-take len (len + used) named (omega arith)))
          ∙ made-is (take m bs) (take (len + used) named) len (Some ps) bytes (w ∙ sym (prefix-take is_word named (len + used) (omega (arith, w)))) some (read.value ∙ ap params (ap (take used) r ∙ sym (drop-take len used named)))
          ∙ ap (λ k. made (take k bs)) (let k : m ≡ before + len + used + 3 - 3 = omega arith in k);
      within = omega (arith, read.within, ap length r, length-drop len named, ap length nm, length-drop before bs);
    }

pub begun-read : (bs near : List ℕ) (part : Part) (n : ℕ) → near ≡ drop 5 (take limit bs) → ReadCommand part n near → Whole part (5 + n) ≡ begun bs (size Outside (drop 5 (take limit bs)))
begun-read bs near part n e read =
    let inside : take (n - 3) near ≡ take (n - 3) (drop 5 bs) =
    ap (take (n - 3)) (e ∙ cut 5 limit bs (omega (arith, limit-is)))
    ∙ take-take (n - 3) (limit - 5) (drop 5 bs) (omega (arith, read.within, ap length e, length-drop 5 (take limit bs), length-take limit bs, limit-is)) in
    ap (λ p. Whole p (5 + n)) (read.value ∙ ap made inside)
    ∙ begun-some bs n
    ∙ ap (begun bs) (sym (ap (size Outside) (sym e) ∙ read.ends))

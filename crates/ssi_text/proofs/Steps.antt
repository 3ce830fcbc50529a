-- One step of the split, by what is at the front.
use Rattle.std.proofs.Common.{◌≡◌, ℕ, zero, suc, ◌+◌, ◌-◌, ◌<◌, ◌≤◌, nat_le, true, false, ◌==◌, List, [], ◌∷◌, ◌++◌, Option, None, Some, map, length, get_or, drop, take, refl, sym, ap, ◌∙◌, arith, append_assoc, append-nil, length-drop, length-take, if◌then◌else◌, subst}
use Rattle.std.proofs.lemmas.List.{take_all, drop_all, drop-drop, get_or-drop}
use Rattle.std.proofs.lemmas.Bool.{eqb-true, eq-eqb, le-leb, lt-leb}
use Rattle.memchr.specs.Find.{OccursAt, Nowhere, Passes, is_byte}
use Rattle.ssi_text.specs.declared.part.Part.{Part}
use Rattle.ssi_text.specs.declared.part.Part.TheVariants.{Text, Command, Bad, Before, After}
use Rattle.ssi_text.specs.declared.place.Begun.{Begun}
use Rattle.ssi_text.specs.declared.place.Begun.TheVariants.{Yes, No, Maybe}
use Rattle.ssi_text.specs.declared.part.Param.{Param}
use Rattle.ssi_text.specs.declared.part.Front.{Front}
use Rattle.ssi_text.specs.declared.part.Front.TheVariants.{Open, Plain, Whole}
use Rattle.ssi_text.specs.Marks.{Mark, Byte, Other, part_marks, marks}
use Rattle.ssi_text.specs.Moves.{Moved}
use Rattle.ssi_text.specs.Split.{split, with_text, begins, opening, front, begun, limit}
use Rattle.ssi_text.specs.Commands.{Outside, size, made, command, params, is_space, is_word}
use Rattle.std.specs.List.{prefix_len}
use Rattle.ssi_text.proofs.Decided.{front-within, split-skip}

abbrev pub at_front : ℕ → List ℕ → Front → List Mark × List ℕ
at_front b bs f = elim f [
  | Open ↦ ([], b ∷ bs)
  | Plain ↦ (Byte b ∷ (split 0 bs).0, (split 0 bs).1)
  | Whole part n ↦ (Other part ∷ (split (n - 1) bs).0, (split (n - 1) bs).1)
]

pub split-front : (b : ℕ) (bs : List ℕ) → split 0 (b ∷ bs) ≡ at_front b bs (front (b ∷ bs))
unfolding split
split-front b bs = refl

split-plain : (b : ℕ) (bs : List ℕ) → front (b ∷ bs) ≡ Plain → split 0 (b ∷ bs) ≡ (Byte b ∷ (split 0 bs).0, (split 0 bs).1)
split-plain b bs e = split-front b bs ∙ ap (at_front b bs) e

pub split-open : (bs : List ℕ) → 0 < length bs → Open ≡ front bs → split 0 bs ≡ ([], bs)
split-open [] h e = absurd (omega arith)
split-open (b ∷ bs) h e = split-front b bs ∙ ap (at_front b bs) (sym e)

pub split-whole : (bs : List ℕ) (part : Part) (n : ℕ) → 0 < length bs → Whole part n ≡ front bs → split 0 bs ≡ (Other part ∷ (split 0 (drop n bs)).0, (split 0 (drop n bs)).1)
split-whole [] part n h e = absurd (omega arith)
split-whole (b ∷ bs) part zero h e = absurd (let w : (0 < 0) × (0 ≤ length (b ∷ bs)) = front-within (b ∷ bs) part 0 (sym e) in omega (arith, w.0))
split-whole (b ∷ bs) part (suc n) h e = split-front b bs ∙ ap (at_front b bs) (sym e) ∙ ap (λ m. (Other part ∷ (split m bs).0, (split m bs).1)) (let one : suc n - 1 ≡ n = omega arith in one) ∙ ap (λ z. (Other part ∷ z.0, z.1)) (split-skip n bs)

pub text-run : (n : ℕ) (bs : List ℕ) → ((k : ℕ) → k < n → front (drop k bs) ≡ Plain) → n ≤ length bs → split 0 bs ≡ with_text (take n bs) (split 0 (drop n bs))
text-run zero bs f h = refl
text-run (suc n) [] f h = absurd (omega arith)
text-run (suc n) (b ∷ bs) f h = split-plain b bs (f 0 (omega arith)) ∙ ap (λ z. (Byte b ∷ z.0, z.1)) (text-run n bs (λ k g. f (suc k) (omega arith)) (omega arith))

begins-reads : (word zs : List ℕ) → begins word zs ≡ Yes → (length word ≤ length zs) × ((k : ℕ) → k < length word → get_or zs k 0 ≡ get_or word k 0)
unfolding begins
begins-reads [] zs e = (omega arith, λ k h. absurd (omega arith))
begins-reads (a ∷ word) [] e = cc
begins-reads (a ∷ word) (b ∷ zs) e =
    elim (a == b) as (λ t. (a == b) ≡ t → (if t then begins word zs else No) ≡ Yes → (suc (length word) ≤ suc (length zs)) × ((k : ℕ) → k < suc (length word) → get_or (b ∷ zs) k 0 ≡ get_or (a ∷ word) k 0)) [
      | true ↦ λ t h.
          let more : (length word ≤ length zs) × ((k : ℕ) → k < length word → get_or zs k 0 ≡ get_or word k 0) = begins-reads word zs h in
          (omega (arith, more.0), λ k g. elim k as (λ i. i < suc (length word) → get_or (b ∷ zs) i 0 ≡ get_or (a ∷ word) i 0) [ zero ↦ λ _. sym (eqb-true a b t) | suc i ↦ λ w. more.1 i (omega arith) ] g)
      | false ↦ λ t h. cc
    ] refl e

pub begins-maybe : (word zs : List ℕ) → begins word zs ≡ Maybe → length zs < length word
unfolding begins
begins-maybe [] zs e = cc
begins-maybe (a ∷ word) [] e = omega arith
begins-maybe (a ∷ word) (b ∷ zs) e =
    elim (a == b) as (λ t. (if t then begins word zs else No) ≡ Maybe → suc (length zs) < suc (length word)) [
      | true ↦ λ h. let less : length zs < length word = begins-maybe word zs h in omega arith
      | false ↦ λ h. cc
    ] e

pub begins-length : (word zs : List ℕ) → begins word zs ≡ Yes → length word ≤ length zs
begins-length word zs e = (begins-reads word zs e).0

occurs : (bs : List ℕ) (k : ℕ) → begins opening (drop k bs) ≡ Yes → OccursAt bs opening k
occurs bs k e =
    let r : (5 ≤ length (drop k bs)) × ((j : ℕ) → j < 5 → get_or (drop k bs) j 0 ≡ get_or opening j 0) = begins-reads opening (drop k bs) e in
    record { fits = omega (arith, r.0, length-drop k bs); reads = λ j h. sym (get_or-drop k bs j 0) ∙ r.1 j h }

front-no : (bs : List ℕ) → begins opening bs ≡ No → front bs ≡ Plain
unfolding front
front-no bs e = ap (λ (s : Begun). elim s [ Yes ↦ begun bs (size Outside (drop 5 (take limit bs))) | No ↦ Plain | Maybe ↦ Open ]) e

pub front-is-plain : (bs : List ℕ) → No ≡ begins opening bs → Plain ≡ front bs
front-is-plain bs e = sym (front-no bs (sym e))

pub front-is-open : (bs : List ℕ) → Maybe ≡ begins opening bs → Open ≡ front bs
unfolding front
front-is-open bs e = ap (λ (s : Begun). elim s [ Yes ↦ begun bs (size Outside (drop 5 (take limit bs))) | No ↦ Plain | Maybe ↦ Open ]) e

pub front-is-begun : (bs : List ℕ) → Yes ≡ begins opening bs → begun bs (size Outside (drop 5 (take limit bs))) ≡ front bs
unfolding front
front-is-begun bs e = ap (λ (s : Begun). elim s [ Yes ↦ begun bs (size Outside (drop 5 (take limit bs))) | No ↦ Plain | Maybe ↦ Open ]) e

-- where the word isn't there and would fit, there is text
pub front-elsewhere : (bs : List ℕ) (k : ℕ) → k + 5 ≤ length bs → (OccursAt bs opening k → ⊥) → front (drop k bs) ≡ Plain
front-elsewhere bs k h not =
    elim (begins opening (drop k bs)) as (λ (s : Begun). begins opening (drop k bs) ≡ s → front (drop k bs) ≡ Plain) [
      | Yes ↦ λ e. absurd (not (occurs bs k e))
      | No ↦ λ e. front-no (drop k bs) e
      | Maybe ↦ λ e. absurd (let less : length (drop k bs) < 5 = begins-maybe opening (drop k bs) e in omega (arith, length-drop k bs))
    ] refl

-- where there is no `#` before place n, there is text up to four bytes before it
pub front-no_hash : (bs : List ℕ) (n : ℕ) → Nowhere (Passes (is_byte 35) bs) 0 n → (k : ℕ) → k + 4 < n → k + 5 ≤ length bs → front (drop k bs) ≡ Plain
front-no_hash bs n none k h g = front-elsewhere bs k g (λ o. none (k + 4) (omega arith) h (eq-eqb (get_or bs (k + 4) 0) 35 (o.reads 4 (omega arith))))

pub moved-text : (was now : List Mark) (bs : List ℕ) (n : ℕ) → now ≡ was ++ map Byte (take n bs) → split 0 bs ≡ with_text (take n bs) (split 0 (drop n bs)) → Moved was now bs (drop n bs)
moved-text was now bs n e t = record {
  out = ap (λ z. z ++ (split 0 (drop n bs)).0) e ∙ append_assoc was (map Byte (take n bs)) (split 0 (drop n bs)).0 ∙ ap (λ z. was ++ z.0) (sym t);
  undecided = ap (λ z. z.1) (sym t);
}

pub moved-whole : (was now : List Mark) (bs : List ℕ) (part : Part) (n : ℕ) → 0 < length bs → Whole part n ≡ front bs → now ≡ was ++ Other part ∷ [] → Moved was now bs (drop n bs)
moved-whole was now bs part n h f e =
    let t : split 0 bs ≡ (Other part ∷ (split 0 (drop n bs)).0, (split 0 (drop n bs)).1) = split-whole bs part n h f in
    record {
      out = ap (λ z. z ++ (split 0 (drop n bs)).0) e ∙ append_assoc was (Other part ∷ []) (split 0 (drop n bs)).0 ∙ ap (λ z. was ++ z.0) (sym t);
      undecided = ap (λ z. z.1) (sym t);
    }

pub moved-plain : (was now : List Mark) (bs : List ℕ) → 0 < length bs → Plain ≡ front bs → now ≡ was ++ map Byte (take 1 bs) → Moved was now bs (drop 1 bs)
moved-plain was now bs h f e = moved-text was now bs 1 e (text-run 1 bs (λ k g. ap (λ i. front (drop i bs)) (let z : k ≡ 0 = omega arith in z) ∙ sym f) (omega arith))

pub moved-on : (a b c : List Mark) (bs mid : List ℕ) (at n m : ℕ) → m ≡ at + n → mid ≡ drop at bs → Moved a b bs (drop at bs) → Moved b c mid (drop n mid) → Moved a c bs (drop m bs)
moved-on a b c bs mid at n m e w p q =
    let q2 : Moved b c (drop at bs) (drop n (drop at bs)) = subst (λ z. Moved b c z (drop n z)) w q in
    let d : drop n (drop at bs) ≡ drop m bs = drop-drop n at bs ∙ ap (λ i. drop i bs) (sym e) in
    subst (Moved a c bs) d (record { out = q2.out ∙ p.out; undecided = q2.undecided ∙ p.undecided })

-- the end of a split: nothing is left that is decided
pub moved-end : (a b : List Mark) (bs rest : List ℕ) → Moved a b bs rest → split 0 rest ≡ ([], rest) → (b ≡ a ++ (split 0 bs).0) × (rest ≡ (split 0 bs).1)
moved-end a b bs rest p e = (sym (ap (λ z. b ++ z.0) e ∙ append-nil b) ∙ p.out, sym (ap (λ z. z.1) e) ∙ p.undecided)

pub split-past : (bs : List ℕ) (at : ℕ) → length bs ≤ at → split 0 (drop at bs) ≡ ([], drop at bs)
unfolding split
split-past bs at h = let e : drop at bs ≡ [] = drop_all at bs h in ap (split 0) e ∙ ap (λ z. ([], z)) (sym e)

-- all of it is text
pub all-text : (bs : List ℕ) (n : ℕ) → length bs ≤ n → split 0 bs ≡ with_text (take n bs) (split 0 (drop n bs)) → split 0 bs ≡ (map Byte bs, [])
all-text bs n h is =
    is ∙ (ap (with_text (take n bs)) (split-past bs n h ∙ ap (λ z. ([], z)) (drop_all n bs h))
    ∙ (ap (λ t. (map Byte t ++ [], [])) (take_all n bs h) ∙ ap (λ z. (z, [])) (append-nil (map Byte bs))))

pub marks-append : (xs ys : List Part) → marks (xs ++ ys) ≡ marks xs ++ marks ys
marks-append [] ys = refl
marks-append (x ∷ xs) ys = ap (λ z. part_marks x ++ z) (marks-append xs ys) ∙ sym (append_assoc (part_marks x) (marks xs) (marks ys))

pub marks-push : (xs : List Part) (p : Part) → marks (xs ++ p ∷ []) ≡ marks xs ++ part_marks p
marks-push xs p = marks-append xs (p ∷ []) ∙ ap (λ z. marks xs ++ z) (append-nil (part_marks p))

command-no_text : (name : List ℕ) (o : Option (List Param)) (t : List ℕ) → command name o ≡ Text t → ⊥
command-no_text name None t e = cc
command-no_text name (Some ps) t e = cc

made-no_text : (inside t : List ℕ) → made inside ≡ Text t → ⊥
unfolding made
made-no_text inside t e =
    let bytes = drop (prefix_len is_space inside) inside in
    let n = prefix_len is_word bytes in
    elim (n == 0) as (λ u. (if u then Bad else command (take n bytes) (params (drop n bytes))) ≡ Text t → ⊥) [ true ↦ λ h. cc | false ↦ λ h. command-no_text (take n bytes) (params (drop n bytes)) t h ] e

whole-part : (p q : Part) (n m : ℕ) → Whole p n ≡ Whole q m → p ≡ q
whole-part p q n m e = cc

begun-no_text : (bs : List ℕ) (o : Option ℕ) (t : List ℕ) (n : ℕ) → begun bs o ≡ Whole (Text t) n → ⊥
unfolding begun
begun-no_text bs (Some k) t n e = made-no_text _ t (whole-part _ _ (5 + k) n e)
begun-no_text bs None t n e =
    elim (nat_le limit (length bs)) as (λ u. (if u then Whole Bad limit else Open) ≡ Whole (Text t) n → ⊥) [ true ↦ λ h. cc | false ↦ λ h. cc ] e

front-no_text : (bs : List ℕ) (t : List ℕ) (n : ℕ) → front bs ≡ Whole (Text t) n → ⊥
unfolding front
front-no_text bs t n e =
    elim (begins opening bs) as (λ (s : Begun). (elim s [ Yes ↦ begun bs (size Outside (drop 5 (take limit bs))) | No ↦ Plain | Maybe ↦ Open ]) ≡ Whole (Text t) n → ⊥) [
      | Yes ↦ λ h. begun-no_text bs (size Outside (drop 5 (take limit bs))) t n h
      | No ↦ λ h. cc
      | Maybe ↦ λ h. cc
    ] e

pub part_is-other : (bs : List ℕ) (part : Part) (n : ℕ) → Whole part n ≡ front bs → part_marks part ≡ Other part ∷ []
part_is-other bs part n e = elim part as (λ (p : Part). Whole p n ≡ front bs → part_marks p ≡ Other p ∷ []) [
  | Text t ↦ λ h. absurd (front-no_text bs t n (sym h))
  | Command name ps ↦ λ _. refl
  | Bad ↦ λ _. refl
  | Before ↦ λ _. refl
  | After ↦ λ _. refl
] e

pub begun-bad : (bs : List ℕ) → 8192 ≤ length bs → Whole Bad 8192 ≡ begun bs None
unfolding begun limit
begun-bad bs h = ap (λ t. if t then Whole Bad 8192 else Open) (sym (le-leb 8192 (length bs) h))

pub begun-open : (bs : List ℕ) → length bs < 8192 → Open ≡ begun bs None
unfolding begun limit
begun-open bs h = ap (λ t. if t then Whole Bad 8192 else Open) (sym (lt-leb 8192 (length bs) h))

pub begun-some : (bs : List ℕ) (n : ℕ) → Whole (made (take (n - 3) (drop 5 bs))) (5 + n) ≡ begun bs (Some n)
unfolding begun
begun-some bs n = refl

pub first-length : (n : ℕ) (bs : List ℕ) → 5 ≤ n → (5 ≤ length bs → 5 ≤ length (take n bs)) × (length (take n bs) ≤ length bs)
first-length n bs h = (λ g. omega (arith, length-take n bs), omega (arith, length-take n bs))

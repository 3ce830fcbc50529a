-- What is undecided is open.
use Rattle.std.proofs.Common.{◌≡◌, ℕ, zero, suc, ◌-◌, ◌<◌, ◌≤◌, ◌⊎◌, inl, inr, nat_le, Bool, true, false, ◌&&◌, ◌==◌, List, [], ◌∷◌, ◌++◌, Option, None, Some, length, take, drop, map, replicate, refl, sym, ap, ◌∙◌, arith, subst, length-append, if◌then◌else◌}
use Rattle.std.proofs.lemmas.List.{take_all, drop-append-le, take-replicate, length-replicate}
use Rattle.std.proofs.lemmas.Bool.{eqb-true, leb-false, le-leb}
use Rattle.ssi_text.specs.declared.part.Part.TheVariants.{Bad}
use Rattle.ssi_text.specs.declared.place.Begun.{Begun}
use Rattle.ssi_text.specs.declared.place.Begun.TheVariants.{Yes, No, Maybe}
use Rattle.ssi_text.specs.declared.part.Front.{Front}
use Rattle.ssi_text.specs.declared.part.Front.TheVariants.{Open, Plain, Whole}
use Rattle.ssi_text.specs.Marks.{Mark, Byte, Other}
use Rattle.ssi_text.specs.Commands.{Quoting, Outside, Within, Escaped, closes, ends, behind, one_more, size}
use Rattle.ssi_text.specs.Split.{split, parts, begins, opening, front, begun, limit}
use Rattle.ssi_text.specs.Laws.{UndecidedIsOpen}
use Rattle.ssi_text.proofs.Decided.{begins-yes, limit-is, take_beyond}
use Rattle.ssi_text.proofs.Steps.{at_front, split-front, split-whole, begins-maybe, begins-length, front-is-begun}
use Rattle.ssi_text.proofs.Feeds.{split-again}

-- bytes that stand for nothing but themselves
abbrev run : ℕ → List ℕ
run n = replicate n 120

closes_run : (n : ℕ) → closes (run n) ≡ false
closes_run zero = refl
closes_run (suc zero) = refl
closes_run (suc (suc zero)) = refl
closes_run (suc (suc (suc n))) = refl

no_end : (b : Bool) → (b && false) ≡ false
no_end true = refl
no_end false = refl

closes_more : (bs : List ℕ) (n : ℕ) → closes bs ≡ false → closes (bs ++ run n) ≡ false
closes_more [] n e = closes_run n
closes_more (a ∷ []) zero e = refl
closes_more (a ∷ []) (suc zero) e = refl
closes_more (a ∷ []) (suc (suc n)) e = no_end (a == 45)
closes_more (a ∷ (b ∷ [])) zero e = refl
closes_more (a ∷ (b ∷ [])) (suc n) e = ap (λ t. (a == 45) && t) (no_end (b == 45)) ∙ no_end (a == 45)
closes_more (a ∷ (b ∷ (c ∷ bs))) n e = e

ends_more : (place : Quoting) (bs : List ℕ) (n : ℕ) → ends place bs ≡ false → ends place (bs ++ run n) ≡ false
ends_more Outside bs n e = closes_more bs n e
ends_more (Within q) bs n e = refl
ends_more (Escaped q) bs n e = refl

ends_none : (place : Quoting) → ends place [] ≡ false
ends_none Outside = refl
ends_none (Within q) = refl
ends_none (Escaped q) = refl

size_run : (n : ℕ) (place : Quoting) → size place (run n) ≡ None
unfolding size
size_run zero place = refl
size_run (suc n) place =
    ap (λ t. if t then Some 3 else one_more (size (behind place 120) (run n))) (ends_more place [] (suc n) (ends_none place))
    ∙ ap one_more (size_run n (behind place 120))

one_more_none : (o : Option ℕ) → one_more o ≡ None → o ≡ None
one_more_none None e = refl
one_more_none (Some n) e = cc

size_more : (place : Quoting) (bs : List ℕ) (n : ℕ) → size place bs ≡ None → size place (bs ++ run n) ≡ None
unfolding size
size_more place [] n e = size_run n place
size_more place (b ∷ bs) n e =
    elim (ends place (b ∷ bs)) as (λ t. ends place (b ∷ bs) ≡ t → (if t then Some 3 else one_more (size (behind place b) bs)) ≡ None → (if ends place (b ∷ (bs ++ run n)) then Some 3 else one_more (size (behind place b) (bs ++ run n))) ≡ None) [
      | true ↦ λ t h. cc
      | false ↦ λ t h.
          ap (λ u. if u then Some 3 else one_more (size (behind place b) (bs ++ run n))) (ends_more place (b ∷ bs) n t)
          ∙ ap one_more (size_more (behind place b) bs n (one_more_none (size (behind place b) bs) h))
    ] refl e

-- bytes that begin a command which never ends
bad_at : (bs : List ℕ) → begins opening bs ≡ Yes → size Outside (drop 5 (take limit bs)) ≡ None → limit ≤ length bs → (rest : List Mark) × (parts bs ≡ Other Bad ∷ rest)
unfolding parts begun
bad_at bs e s h =
    let is : Whole Bad limit ≡ front bs =
    sym (ap (λ t. if t then Whole Bad limit else Open) (le-leb limit (length bs) h)) ∙ ap (begun bs) (sym s) ∙ front-is-begun bs (sym e) in
    let some : 0 < length bs = omega (arith, h, limit-is) in
    let after = split 0 (drop limit bs) in
    (after.0 ++ map Byte after.1, ap (λ z. z.0 ++ map Byte z.1) (split-whole bs Bad limit some is))

bad_run : (bs : List ℕ) → begins opening bs ≡ Yes → size Outside (drop 5 (take limit bs)) ≡ None → length bs < limit → (rest : List Mark) × (parts (bs ++ run limit) ≡ Other Bad ∷ rest)
bad_run bs e s h =
    let five : 5 ≤ length bs = begins-length opening bs e in
    let short : length bs ≤ limit = omega arith in
    let cut : drop 5 (take limit (bs ++ run limit)) ≡ drop 5 bs ++ run (limit - length bs) =
    ap (drop 5) (take_beyond limit bs (run limit) short) ∙ ap (λ z. drop 5 (bs ++ z)) (take-replicate (limit - length bs) limit 120 (omega arith)) ∙ drop-append-le 5 bs (run (limit - length bs)) five in
    let first : size Outside (drop 5 bs) ≡ None = ap (λ z. size Outside (drop 5 z)) (sym (take_all limit bs short)) ∙ s in
    bad_at (bs ++ run limit) (begins-yes opening bs (run limit) e) (ap (size Outside) cut ∙ size_more Outside (drop 5 bs) (limit - length bs) first) (omega (arith, length-append bs (run limit), length-replicate {A = ℕ} limit 120))

completed : (word bs rest : List ℕ) → begins word bs ≡ Maybe → bs ++ (drop (length bs) word ++ rest) ≡ word ++ rest
unfolding begins
completed [] bs rest e = cc
completed (a ∷ word) [] rest e = refl
completed (a ∷ word) (b ∷ bs) rest e =
    elim (a == b) as (λ t. (a == b) ≡ t → (if t then begins word bs else No) ≡ Maybe → b ∷ (bs ++ (drop (length bs) word ++ rest)) ≡ a ∷ (word ++ rest)) [
      | true ↦ λ t h. ap (λ z. z ∷ (bs ++ (drop (length bs) word ++ rest))) (sym (eqb-true a b t)) ∙ ap (λ z. a ∷ z) (completed word bs rest h)
      | false ↦ λ t h. cc
    ] refl e

-- open bytes are the beginning of `<!--#`, or a command that hasn't ended
abbrev IsOpen : List ℕ → Type 0
IsOpen bs = (begins opening bs ≡ Maybe) ⊎ ((begins opening bs ≡ Yes) × ((size Outside (drop 5 (take limit bs)) ≡ None) × (length bs < limit)))

begun_open : (bs : List ℕ) (o : Option ℕ) → begun bs o ≡ Open → (o ≡ None) × (length bs < limit)
unfolding begun
begun_open bs (Some n) e = cc
begun_open bs None e = elim (nat_le limit (length bs)) as (λ t. nat_le limit (length bs) ≡ t → (if t then Whole Bad limit else Open) ≡ Open → (◌≡◌ {A = Option ℕ} None None) × (length bs < limit)) [ true ↦ λ t h. cc | false ↦ λ t h. (refl, leb-false limit (length bs) t) ] refl e

front_open : (bs : List ℕ) → front bs ≡ Open → IsOpen bs
unfolding front
front_open bs e =
    let at : Begun → Front = λ s. elim s [ Yes ↦ begun bs (size Outside (drop 5 (take limit bs))) | No ↦ Plain | Maybe ↦ Open ] in
    elim (begins opening bs) as (λ (s : Begun). begins opening bs ≡ s → at s ≡ Open → IsOpen bs) [
      | Yes ↦ λ s h. let o : (size Outside (drop 5 (take limit bs)) ≡ None) × (length bs < limit) = begun_open bs (size Outside (drop 5 (take limit bs))) h in inr (s, (o.0, o.1))
      | No ↦ λ s h. cc
      | Maybe ↦ λ s h. inl s
    ] refl e

abbrev some_marks : List Mark → Type 0
some_marks [] = ⊥
some_marks (m ∷ ms) = Unit {0}

alone_open : (b : ℕ) (bs : List ℕ) → split 0 (b ∷ bs) ≡ ([], b ∷ bs) → front (b ∷ bs) ≡ Open
alone_open b bs e =
    elim (front (b ∷ bs)) as (λ (f : Front). (at_front b bs f).0 ≡ [] → f ≡ Open) [
      | Open ↦ λ _. refl
      | Plain ↦ λ h. absurd (subst some_marks h tt)
      | Whole part n ↦ λ h. absurd (subst some_marks h tt)
    ] (ap (λ z. z.0) (sym (split-front b bs) ∙ e))

undecided_open : (document undecided : List ℕ) → undecided ≡ (split 0 document).1 → 0 < length undecided → IsOpen undecided
undecided_open document [] e h = absurd (omega arith)
undecided_open document (b ∷ bs) e h = front_open (b ∷ bs) (alone_open b bs (ap (split 0) e ∙ split-again 0 document ∙ ap (λ z. ([], z)) (sym e)))

opening_begins : begins opening opening ≡ Yes
unfolding begins
opening_begins = refl

may_be_bad : (undecided : List ℕ) → IsOpen undecided → (more : List ℕ) × (rest : List Mark) × (parts (undecided ++ more) ≡ Other Bad ∷ rest)
may_be_bad undecided (inl e) =
    let five : length opening < limit = omega (arith, limit-is) in
    let bad : (rest : List Mark) × (parts (opening ++ run limit) ≡ Other Bad ∷ rest) = bad_run opening opening_begins (ap (λ z. size Outside (drop 5 z)) (take_all limit opening (omega arith)) ∙ size_run 0 Outside) five in
    (drop (length undecided) opening ++ run limit, bad.0, ap parts (completed opening undecided (run limit) e) ∙ bad.1)
may_be_bad undecided (inr w) = let bad : (rest : List Mark) × (parts (undecided ++ run limit) ≡ Other Bad ∷ rest) = bad_run undecided w.0 w.1.0 w.1.1 in (run limit, bad.0, bad.1)

open_short : (undecided : List ℕ) → IsOpen undecided → length undecided < limit
open_short undecided (inl e) = omega (arith, begins-maybe opening undecided e, limit-is)
open_short undecided (inr w) = w.1.1

undecided_short : (document undecided : List ℕ) → undecided ≡ (split 0 document).1 → length undecided < 8192
undecided_short document [] e = omega arith
undecided_short document (b ∷ bs) e = omega (arith, open_short (b ∷ bs) (undecided_open document (b ∷ bs) e (omega arith)), limit-is)

undecided_text : (document : List ℕ) → parts (split 0 document).1 ≡ map Byte (split 0 document).1
unfolding parts
undecided_text document = ap (λ z. z.0 ++ map Byte z.1) (split-again 0 document)

pub undecided-is-open : UndecidedIsOpen
undecided-is-open = record {
  bounded = λ document. undecided_short document (split 0 document).1 refl;
  text = undecided_text;
  part = λ document h. may_be_bad (split 0 document).1 (undecided_open document (split 0 document).1 refl h);
}

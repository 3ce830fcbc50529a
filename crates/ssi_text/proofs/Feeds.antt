-- A feed.
use Rattle.std.proofs.Common.{◌≡◌, ℕ, zero, suc, ◌+◌, ◌-◌, List, [], ◌∷◌, ◌++◌, map, drop, take, refl, sym, ap, ◌∙◌, arith, append_assoc, append-nil, subst}
use Rattle.std.proofs.lemmas.List.{drop-drop, take-append-drop}
use Rattle.ssi_text.specs.declared.part.Front.{Front}
use Rattle.ssi_text.specs.declared.part.Front.TheVariants.{Open, Plain, Whole}
use Rattle.ssi_text.specs.Marks.{Mark, Byte}
use Rattle.ssi_text.specs.Moves.{Moved}
use Rattle.ssi_text.specs.Split.{split, front, parts}
use Rattle.ssi_text.specs.Laws.{PiecesMakeNoDifference}
use Rattle.ssi_text.proofs.Decided.{split-append}
use Rattle.ssi_text.proofs.Steps.{at_front, split-open, moved-end}

-- what is open stays open by itself
pub split-again : (n : ℕ) (bs : List ℕ) → split 0 (split n bs).1 ≡ ([], (split n bs).1)
unfolding split
split-again zero [] = refl
split-again (suc n) [] = refl
split-again (suc n) (b ∷ bs) = split-again n bs
split-again zero (b ∷ bs) =
    elim (front (b ∷ bs)) as (λ (f : Front). front (b ∷ bs) ≡ f → split 0 (at_front b bs f).1 ≡ ([], (at_front b bs f).1)) [
      | Open ↦ λ e. split-open (b ∷ bs) (omega arith) (sym e)
      | Plain ↦ λ e. split-again 0 bs
      | Whole part n ↦ λ e. split-again (n - 1) bs
    ] refl

pub fed-step : (a b c : List Mark) (whole undecided near rest joined undecided2 : List ℕ) → Moved a b whole (undecided ++ (near ++ rest)) → joined ≡ undecided ++ near → c ≡ b ++ (split 0 joined).0 → undecided2 ≡ (split 0 joined).1 → Moved a c whole (undecided2 ++ rest)
fed-step a b c whole undecided near rest joined undecided2 p j o h =
    let same : undecided ++ (near ++ rest) ≡ joined ++ rest = sym (append_assoc undecided near rest) ∙ ap (λ z. z ++ rest) (sym j) in
    let law : split 0 (joined ++ rest) ≡ ((split 0 joined).0 ++ (split 0 ((split 0 joined).1 ++ rest)).0, (split 0 ((split 0 joined).1 ++ rest)).1) = split-append 0 joined rest (omega arith) in
    let again : split 0 (undecided2 ++ rest) ≡ split 0 ((split 0 joined).1 ++ rest) = ap (λ z. split 0 (z ++ rest)) h in
    record {
      out = ap (λ z. c ++ z.0) again ∙ ap (λ z. z ++ (split 0 ((split 0 joined).1 ++ rest)).0) o ∙ append_assoc b (split 0 joined).0 _ ∙ ap (λ z. b ++ z.0) (sym law) ∙ ap (λ z. b ++ (split 0 z).0) (sym same) ∙ p.out;
      undecided = ap (λ z. z.1) again ∙ ap (λ z. z.1) (sym law) ∙ ap (λ z. (split 0 z).1) (sym same) ∙ p.undecided;
    }

-- the same of a piece from a place on
pub fed-piece : (a b c : List Mark) (whole undecided near joined undecided2 piece : List ℕ) (at n : ℕ) → Moved a b whole (undecided ++ drop at piece) → near ≡ take n (drop at piece) → joined ≡ undecided ++ near → c ≡ b ++ (split 0 joined).0 → undecided2 ≡ (split 0 joined).1 → Moved a c whole (undecided2 ++ drop (at + n) piece)
fed-piece a b c whole undecided near joined undecided2 piece at n p w j o h =
    let cut : near ++ drop (at + n) piece ≡ drop at piece = ap (λ z. z ++ drop (at + n) piece) w ∙ ap (λ z. take n (drop at piece) ++ z) (sym (drop-drop n at piece)) ∙ take-append-drop n (drop at piece) in
    fed-step a b c whole undecided near (drop (at + n) piece) joined undecided2 (subst (λ z. Moved a b whole (undecided ++ z)) (sym cut) p) j o h

pub fed-end : (a c : List Mark) (whole undecided2 joined rest : List ℕ) → Moved a c whole (undecided2 ++ rest) → rest ≡ [] → undecided2 ≡ (split 0 joined).1 → (c ≡ a ++ (split 0 whole).0) × (undecided2 ≡ (split 0 whole).1)
fed-end a c whole undecided2 joined rest p r h =
    let q : Moved a c whole undecided2 = subst (Moved a c whole) (ap (λ z. undecided2 ++ z) r ∙ append-nil undecided2) p in
    moved-end a c whole undecided2 q (ap (split 0) h ∙ split-again 0 joined ∙ ap (λ z. ([], z)) (sym h))

-- with nothing undecided
pub fed-free : (a b c : List Mark) (whole undecided rest undecided2 : List ℕ) → Moved a b whole (undecided ++ rest) → undecided ≡ [] → c ≡ b ++ (split 0 rest).0 → undecided2 ≡ (split 0 rest).1 → (c ≡ a ++ (split 0 whole).0) × (undecided2 ≡ (split 0 whole).1)
fed-free a b c whole undecided rest undecided2 p e o h =
    let q : Moved a b whole rest = subst (λ z. Moved a b whole (z ++ rest)) e p in (o ∙ q.out, h ∙ q.undecided)

pub parts-pieces : (piece rest : List ℕ) → parts (piece ++ rest) ≡ (split 0 piece).0 ++ parts ((split 0 piece).1 ++ rest)
unfolding parts
parts-pieces piece rest =
    let r = split 0 ((split 0 piece).1 ++ rest) in
    ap (λ z. z.0 ++ map Byte z.1) (split-append 0 piece rest (omega arith)) ∙ append_assoc (split 0 piece).0 r.0 (map Byte r.1)

pub moved-none : (a : List Mark) (whole : List ℕ) → Moved a a whole whole
moved-none a whole = record { out = refl; undecided = refl }

pub pieces-make-no-difference : PiecesMakeNoDifference
pieces-make-no-difference = record {
  goes_on = λ piece more. split-append 0 piece more (omega arith);
  pieces = parts-pieces;
  undecided = split-again 0;
}

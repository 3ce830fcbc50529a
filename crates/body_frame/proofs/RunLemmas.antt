-- How the outcome of a text splits over the pieces of the text.
use Rattle.std.proofs.Common.{◌≡◌, ℕ, suc, zero, ◌+◌, ◌-◌, ◌<◌, ◌≤◌, List, [], ◌∷◌, ◌++◌, length, get_or, drop, sym, refl, ap, ◌∙◌, subst, arith, cond}
use Rattle.std.specs.Prelude.{⊤}
use Rattle.std.proofs.lemmas.List.{drop-drop}
use Rattle.std.proofs.lemmas.Bool.{ne_eqb}
use Rattle.body_frame.specs.Outcome.{BodyOutcome, Whole, Short, Broken, behind}
use Rattle.body_frame.specs.declared.place.Position.{Position}
use Rattle.body_frame.specs.declared.place.Position.TheVariants.{Plain, SizeStart, Size, Blanks, Extension, SizeLineFeed, Data, DataLineFeed, Trailers, Trailer, TrailerLineFeed, LastLineFeed, Failed}
use Rattle.body_frame.specs.Position.{expected, place_after, stops_at, goes_on, rest_at, Skips}

pub behind-zero : (o : BodyOutcome) → behind 0 o ≡ o
behind-zero (Whole n) = ap Whole (omega arith)
behind-zero Short = refl
behind-zero Broken = refl

pub behind-behind : (m n : ℕ) (o : BodyOutcome) → behind m (behind n o) ≡ behind (m + n) o
behind-behind m n (Whole k) = ap Whole (omega arith)
behind-behind m n Short = refl
behind-behind m n Broken = refl

pub rest_at-nil : (p : Position) → rest_at p [] ≡ stops_at p
unfolding rest_at
rest_at-nil p = refl

pub rest_at-cons : (p : Position) (b : ℕ) (text : List ℕ) → rest_at p (b ∷ text) ≡ goes_on (stops_at p) (rest_at (place_after p b) text)
unfolding rest_at
rest_at-cons p b text = refl

-- one byte, where the body goes on
pub rest_at-one : (p : Position) (b : ℕ) (text : List ℕ) → stops_at p ≡ Short → rest_at p (b ∷ text) ≡ behind 1 (rest_at (place_after p b) text)
rest_at-one p b text e = rest_at-cons p b text ∙ ap (λ o. goes_on o (rest_at (place_after p b) text)) e

-- where the body is ended or has failed, nothing more matters
pub rest_at_whole : (p : Position) (text : List ℕ) (n : ℕ) → stops_at p ≡ Whole n → rest_at p text ≡ Whole n
rest_at_whole p [] n e = rest_at-nil p ∙ e
rest_at_whole p (b ∷ text) n e = rest_at-cons p b text ∙ ap (λ o. goes_on o (rest_at (place_after p b) text)) e

pub rest_at_broken : (p : Position) (text : List ℕ) → stops_at p ≡ Broken → rest_at p text ≡ Broken
rest_at_broken p [] e = rest_at-nil p ∙ e
rest_at_broken p (b ∷ text) e = rest_at-cons p b text ∙ ap (λ o. goes_on o (rest_at (place_after p b) text)) e

-- what an outcome says of the outcome of more bytes
abbrev pub Kept : BodyOutcome → BodyOutcome → Type 0
Kept (Whole n) o = o ≡ Whole n
Kept Short o = ⊤
Kept Broken o = o ≡ Broken

kept_stop : (o later : BodyOutcome) → Kept o (goes_on o later)
kept_stop (Whole n) later = refl
kept_stop Short later = tt
kept_stop Broken later = refl

kept_self : (o : BodyOutcome) → Kept o o
kept_self (Whole n) = refl
kept_self Short = tt
kept_self Broken = refl

kept_behind : (l m : BodyOutcome) → Kept l m → Kept (behind 1 l) (behind 1 m)
kept_behind (Whole n) m h = ap (behind 1) h
kept_behind Short m h = tt
kept_behind Broken m h = ap (behind 1) h

kept_on : (o l m : BodyOutcome) → Kept l m → Kept (goes_on o l) (goes_on o m)
kept_on (Whole n) l m h = refl
kept_on Short l m h = kept_behind l m h
kept_on Broken l m h = refl

pub kept : (p : Position) (text more : List ℕ) → Kept (rest_at p text) (rest_at p (text ++ more))
unfolding rest_at
kept p [] [] = kept_self (stops_at p)
kept p [] (b ∷ more) = kept_stop (stops_at p) (rest_at (place_after p b) more)
kept p (b ∷ text) more = kept_on (stops_at p) _ _ (kept (place_after p b) text more)

-- an outcome that is whole is within its text
abbrev Within : BodyOutcome → ℕ → Type 0
Within (Whole n) m = n ≤ m
Within Short m = ⊤
Within Broken m = ⊤

-- a body of a known length goes on before its last byte
pub stops_plain : (left : ℕ) → stops_at (Plain (suc left)) ≡ Short
stops_plain left = ap (λ t. cond t (Whole 0) Short) (ne_eqb (suc left) 0 (omega arith))

within_stop : (p : Position) → Within (stops_at p) 0
within_stop (Plain zero) = omega arith
within_stop (Plain (suc n)) = subst (λ o. Within o 0) (sym (stops_plain n)) tt
within_stop SizeStart = tt
within_stop (Size s l) = tt
within_stop (Blanks s l) = tt
within_stop (Extension s l) = tt
within_stop (SizeLineFeed s) = tt
within_stop (Data n) = tt
within_stop DataLineFeed = tt
within_stop (Trailers n) = tt
within_stop (Trailer n) = tt
within_stop (TrailerLineFeed n) = tt
within_stop LastLineFeed = tt
within_stop Failed = tt

within_behind : (l : BodyOutcome) (m : ℕ) → Within l m → Within (behind 1 l) (suc m)
within_behind (Whole n) m h = omega arith
within_behind Short m h = tt
within_behind Broken m h = tt

within_on : (o l : BodyOutcome) (m : ℕ) → Within o 0 → Within l m → Within (goes_on o l) (suc m)
within_on (Whole n) l m g h = omega arith
within_on Short l m g h = within_behind l m h
within_on Broken l m g h = tt

within_all : (p : Position) (text : List ℕ) → Within (rest_at p text) (length text)
unfolding rest_at
within_all p [] = within_stop p
within_all p (b ∷ text) = within_on (stops_at p) _ _ (within_stop p) (within_all (place_after p b) text)

pub whole_within : (p : Position) (text : List ℕ) (n : ℕ) → rest_at p text ≡ Whole n → n ≤ length text
whole_within p text n e = subst (λ o. Within o (length text)) e (within_all p text)

pub whole_stays : (p : Position) (text more : List ℕ) (n : ℕ) → rest_at p text ≡ Whole n → rest_at p (text ++ more) ≡ Whole n
whole_stays p text more n e = subst (λ o. Kept o (rest_at p (text ++ more))) e (kept p text more)

pub broken_stays : (p : Position) (text more : List ℕ) → rest_at p text ≡ Broken → rest_at p (text ++ more) ≡ Broken
broken_stays p text more e = subst (λ o. Kept o (rest_at p (text ++ more))) e (kept p text more)

-- the place after a text
unfoldable pub place_behind : Position → List ℕ → Position
place_behind p [] = p
place_behind p (b ∷ text) = place_behind (place_after p b) text

-- what a short text leaves
pub record GoesOn (p : Position) (text : List ℕ) : Type 0 where
  pub stops : stops_at (place_behind p text) ≡ Short
  pub rest : (more : List ℕ) → rest_at p (text ++ more) ≡ behind (length text) (rest_at (place_behind p text) more)

short_parts : (o l : BodyOutcome) → goes_on o l ≡ Short → (o ≡ Short) × (l ≡ Short)
short_parts (Whole n) l e = cc
short_parts Short (Whole n) e = cc
short_parts Short Short e = (refl, refl)
short_parts Short Broken e = cc
short_parts Broken l e = cc

pub short_goes_on : (p : Position) (text : List ℕ) → rest_at p text ≡ Short → GoesOn p text
unfolding rest_at place_behind
short_goes_on p [] e = record { stops = e; rest = λ more. sym (behind-zero (rest_at p more)) }
short_goes_on p (b ∷ text) e =
    let parts = short_parts (stops_at p) (rest_at (place_after p b) text) e in
    let later = short_goes_on (place_after p b) text parts.1 in
    let count : 1 + length text ≡ suc (length text) = omega arith in
    record {
      stops = later.stops;
      rest = λ more. rest_at-one p b (text ++ more) parts.0 ∙ ap (behind 1) (later.rest more) ∙ behind-behind 1 (length text) _ ∙ ap (λ n. behind n (rest_at (place_behind (place_after p b) text) more)) count;
    }

-- one byte leads on
pub skips_one : (p : Position) (bytes : List ℕ) → 0 < length bytes → stops_at p ≡ Short → Skips p bytes 1 (place_after p (get_or bytes 0 0))
skips_one p [] some e = absurd (omega arith)
skips_one p (b ∷ bytes) some e = λ more. rest_at-one p b (bytes ++ more) e

pub after_data : (left b : ℕ) → place_after (Data (suc left)) b ≡ Data left
after_data left b =
    let same : suc left - 1 ≡ left = omega arith in
    ap (λ t. cond t (expected b 13 DataLineFeed) (Data (suc left - 1))) (ne_eqb (suc left) 0 (omega arith)) ∙ ap Data same

pub after_plain : (left b : ℕ) → place_after (Plain (suc left)) b ≡ Plain left
after_plain left b =
    let same : suc left - 1 ≡ left = omega arith in
    ap Plain same

-- bytes of a chunk lead on at once
pub skips_data : (n left : ℕ) (bytes : List ℕ) → n ≤ left → n ≤ length bytes → Skips (Data left) bytes n (Data (left - n))
skips_data zero left bytes low within = λ more.
    let same : left ≡ left - 0 = omega arith in
    ap (λ k. rest_at (Data k) (bytes ++ more)) same ∙ sym (behind-zero _)
skips_data (suc n) zero bytes low within = absurd (omega arith)
skips_data (suc n) (suc left) [] low within = absurd (omega arith)
skips_data (suc n) (suc left) (b ∷ bytes) low within = λ more.
    let same : left - n ≡ suc left - suc n = omega arith in
    let count : 1 + n ≡ suc n = omega arith in
    rest_at-one (Data (suc left)) b (bytes ++ more) refl
    ∙ ap (λ p. behind 1 (rest_at p (bytes ++ more))) (after_data left b)
    ∙ ap (behind 1) (skips_data n left bytes (omega arith) (omega arith) more)
    ∙ behind-behind 1 n _
    ∙ (λ i. behind (count i) (rest_at (Data (same i)) (drop n bytes ++ more)))

-- and so do those of a body whose length is known
pub skips_plain : (n left : ℕ) (bytes : List ℕ) → n ≤ left → n ≤ length bytes → Skips (Plain left) bytes n (Plain (left - n))
skips_plain zero left bytes low within = λ more.
    let same : left ≡ left - 0 = omega arith in
    ap (λ k. rest_at (Plain k) (bytes ++ more)) same ∙ sym (behind-zero _)
skips_plain (suc n) zero bytes low within = absurd (omega arith)
skips_plain (suc n) (suc left) [] low within = absurd (omega arith)
skips_plain (suc n) (suc left) (b ∷ bytes) low within = λ more.
    let same : left - n ≡ suc left - suc n = omega arith in
    let count : 1 + n ≡ suc n = omega arith in
    rest_at-one (Plain (suc left)) b (bytes ++ more) (stops_plain left)
    ∙ ap (λ p. behind 1 (rest_at p (bytes ++ more))) (after_plain left b)
    ∙ ap (behind 1) (skips_plain n left bytes (omega arith) (omega arith) more)
    ∙ behind-behind 1 n _
    ∙ (λ i. behind (count i) (rest_at (Plain (same i)) (drop n bytes ++ more)))

-- one run of bytes after another
pub skips_more : (p q r : Position) (bytes : List ℕ) (m n : ℕ) → Skips p bytes m q → Skips q (drop m bytes) n r → Skips p bytes (m + n) r
skips_more p q r bytes m n first second = λ more.
    first more ∙ ap (behind m) (second more) ∙ behind-behind m n _ ∙ ap (λ t. behind (m + n) (rest_at r (t ++ more))) (drop-drop n m bytes)

-- the same at equal places
pub skips_from : (p q r : Position) (bytes : List ℕ) (n : ℕ) → p ≡ q → Skips q bytes n r → Skips p bytes n r
skips_from p q r bytes n e h = subst (λ x. Skips x bytes n r) (sym e) h

pub skips_to : (p q r : Position) (bytes : List ℕ) (n : ℕ) → r ≡ q → Skips p bytes n q → Skips p bytes n r
skips_to p q r bytes n e h = subst (λ x. Skips p bytes n x) (sym e) h

-- all places but the ends go on
pub stops_short : (p : Position) → ((n : ℕ) → p ≡ Plain n → ⊥) → (p ≡ Failed → ⊥) → stops_at p ≡ Short
stops_short (Plain n) a b = absurd (a n refl)
stops_short SizeStart a b = refl
stops_short (Size s l) a b = refl
stops_short (Blanks s l) a b = refl
stops_short (Extension s l) a b = refl
stops_short (SizeLineFeed s) a b = refl
stops_short (Data n) a b = refl
stops_short DataLineFeed a b = refl
stops_short (Trailers n) a b = refl
stops_short (Trailer n) a b = refl
stops_short (TrailerLineFeed n) a b = refl
stops_short LastLineFeed a b = refl
stops_short Failed a b = absurd (b refl)

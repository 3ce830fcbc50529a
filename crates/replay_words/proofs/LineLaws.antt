-- Cuts of a text at a byte give its first piece, and the others.
use Rattle.std.proofs.Common.{◌≡◌, ℕ, suc, ◌+◌, ◌<◌, Bool, true, false, cond, eqb, not, List, [], ◌∷◌, length, take, drop, refl, ap, sym, ◌∙◌, arith, add-one, subst}
use Rattle.std.specs.List.{position_or_len}
use Rattle.replay_words.specs.Lines.{begun, lines_of, pieces_of}

-- how many bytes come before the byte
abbrev before : ℕ → List ℕ → ℕ
before c bs = position_or_len (λ b. eqb b c) bs

-- how the pieces of a text that has a byte come from those of the text after it
abbrev pub Cuts : ℕ → (List ℕ → List (List ℕ)) → Type 0
Cuts c F = (b : ℕ) (bs : List ℕ) → F (b ∷ bs) ≡ cond (eqb b c) ([] ∷ F bs) (begun b (F bs))

cut_by : (F : List ℕ → List (List ℕ)) (c b : ℕ) (bs : List ℕ) (t : Bool) → cond (not t) (1 + before c bs) 0 < suc (length bs) → (before c bs < length bs → F bs ≡ take (before c bs) bs ∷ F (drop (suc (before c bs)) bs)) → cond t ([] ∷ F bs) (begun b (F bs)) ≡ take (cond (not t) (1 + before c bs) 0) (b ∷ bs) ∷ F (drop (suc (cond (not t) (1 + before c bs) 0)) (b ∷ bs))
cut_by F c b bs true h ih = refl
cut_by F c b bs false h ih =
    let e : 1 + before c bs ≡ suc (before c bs) = omega arith in
    rw e (ap (begun b) (ih (omega arith)))

-- up to the byte is the first piece, and after it are the others
pub pieces_cut : (F : List ℕ → List (List ℕ)) (c : ℕ) → Cuts c F → (bs : List ℕ) → before c bs < length bs → F bs ≡ take (before c bs) bs ∷ F (drop (suc (before c bs)) bs)
pieces_cut F c step [] h = absurd (omega arith)
pieces_cut F c step (b ∷ bs) h = step b bs ∙ cut_by F c b bs (eqb b c) h (pieces_cut F c step bs)

whole_by : (F : List ℕ → List (List ℕ)) (c b : ℕ) (bs : List ℕ) (t : Bool) → cond (not t) (1 + before c bs) 0 ≡ suc (length bs) → (before c bs ≡ length bs → begun b (F bs) ≡ (b ∷ bs) ∷ []) → cond t ([] ∷ F bs) (begun b (F bs)) ≡ (b ∷ bs) ∷ []
whole_by F c b bs true e ih = absurd (omega arith)
whole_by F c b bs false e ih = ih (omega arith)

-- a text without the byte is one piece
pub begun_whole : (F : List ℕ → List (List ℕ)) (c : ℕ) → Cuts c F → ((b : ℕ) → begun b (F []) ≡ (b ∷ []) ∷ []) → (b : ℕ) (bs : List ℕ) → before c bs ≡ length bs → begun b (F bs) ≡ (b ∷ bs) ∷ []
begun_whole F c step none b [] e = none b
begun_whole F c step none b (d ∷ bs) e =
    ap (begun b) (step d bs ∙ whole_by F c d bs (eqb d c) e (begun_whole F c step none d bs))

lines_step : Cuts 10 lines_of
unfolding lines_of
lines_step b bs = refl

lines_none : (b : ℕ) → begun b (lines_of []) ≡ (b ∷ []) ∷ []
unfolding lines_of
lines_none b = refl

pieces_step : Cuts 32 pieces_of
unfolding pieces_of
pieces_step b bs = refl

pieces_none : (b : ℕ) → begun b (pieces_of []) ≡ (b ∷ []) ∷ []
unfolding pieces_of
pieces_none b = refl

pub lines_empty : lines_of [] ≡ []
unfolding lines_of
lines_empty = refl

pieces_empty : pieces_of [] ≡ [] ∷ []
unfolding pieces_of
pieces_empty = refl

-- the lines of a text, up to its first line feed and after it
pub lines_cut : (bs : List ℕ) (at : ℕ) → at ≡ before 10 bs → at < length bs → lines_of bs ≡ take at bs ∷ lines_of (drop (at + 1) bs)
lines_cut bs at e h =
    let P : ℕ → Type 0 = λ n. n < length bs → lines_of bs ≡ take n bs ∷ lines_of (drop (n + 1) bs) in
    subst P (sym e) (λ k. rw add-one (pieces_cut lines_of 10 lines_step bs k)) h

pub lines_whole : (bs : List ℕ) → before 10 bs ≡ length bs → 0 < length bs → lines_of bs ≡ bs ∷ []
lines_whole [] e h = absurd (omega arith)
lines_whole (b ∷ bs) e h = lines_step b bs ∙ whole_by lines_of 10 b bs (eqb b 10) e (begun_whole lines_of 10 lines_step lines_none b bs)

pub pieces_cut_at : (bs : List ℕ) (at : ℕ) → at ≡ before 32 bs → at < length bs → pieces_of bs ≡ take at bs ∷ pieces_of (drop (at + 1) bs)
pieces_cut_at bs at e h =
    let P : ℕ → Type 0 = λ n. n < length bs → pieces_of bs ≡ take n bs ∷ pieces_of (drop (n + 1) bs) in
    subst P (sym e) (λ k. rw add-one (pieces_cut pieces_of 32 pieces_step bs k)) h

-- the pieces of a line, up to its first space and after it
pub pieces_whole : (bs : List ℕ) → before 32 bs ≡ length bs → pieces_of bs ≡ bs ∷ []
pieces_whole [] e = pieces_empty
pieces_whole (b ∷ bs) e = pieces_step b bs ∙ whole_by pieces_of 32 b bs (eqb b 32) e (begun_whole pieces_of 32 pieces_step pieces_none b bs)

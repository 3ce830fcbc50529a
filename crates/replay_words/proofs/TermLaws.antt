-- Terms of a sum, one after the other, as a loop reads them.
use Rattle.std.proofs.Common.{◌≡◌, ℕ, ◌<◌, Bool, true, false, cond, List, [], ◌∷◌, ◌++◌, length, Option, Some, None, Result, Ok, Err, refl, sym, ap, ◌∙◌, append_assoc, arith, subst}
use Rattle.replay_words.specs.declared.faults.FaultKind.{FaultKind}
use Rattle.replay_words.specs.declared.faults.FaultKind.TheVariants.{Word}
use Rattle.replay_words.specs.declared.faults.LineError.{LineError}
use Rattle.replay_words.specs.declared.faults.LineError.TheVariants as lines
use Rattle.replay_words.specs.Faults.{◌>>=◌, LineFails}
use Rattle.replay_words.specs.Words.{is_plus, is_times}
use Rattle.replay_words.specs.Sums.{Term, terms_of, behind_times, with_term}
use Rattle.replay_words.specs.Steps.{times_at, term_at, with_terms}

-- a term, and the terms in the words after it
abbrev more : Term × Option (List (List ℕ)) → Result (List Term) FaultKind
more (t, None) = Ok (t ∷ [])
more (t, Some words) = with_term t (terms_of words)

plus_by : (t : Term) (p : Bool) (words : List (List ℕ)) → with_term t (cond p (terms_of words) (Err Word)) ≡ ((cond p (Ok (Some words)) (Err Word) >>= λ behind. Ok (t, behind)) >>= more)
plus_by t true words = refl
plus_by t false words = refl

times_step : (word : List ℕ) (words : List (List ℕ)) → behind_times word words ≡ (times_at word words >>= more)
unfolding terms_of
times_step word [] = refl
times_step word (n ∷ []) = refl
times_step word (n ∷ p ∷ words) = plus_by (record { word = word; times = Some n }) (is_plus p) words

word_by : (word : List ℕ) (words : List (List ℕ)) (t p : Bool) → cond t (behind_times word words) (cond p (with_term (record { word = word; times = None }) (terms_of words)) (Err Word)) ≡ (cond t (times_at word words) (cond p (Ok (record { word = word; times = None }, Some words)) (Err Word)) >>= more)
word_by word words true p = times_step word words
word_by word words false true = refl
word_by word words false false = refl

terms_step : (words : List (List ℕ)) → terms_of words ≡ (term_at words >>= more)
unfolding terms_of
terms_step [] = refl
terms_step (word ∷ []) = refl
terms_step (word ∷ w ∷ words) = word_by word words (is_times w) (is_plus w)

regroup : (front : List Term) (t : Term) (r : Result (List Term) FaultKind) → with_terms front (with_term t r) ≡ with_terms (front ++ t ∷ []) r
regroup front t (Ok ts) = ap Ok (sym (append_assoc front (t ∷ []) ts))
regroup front t (Err kind) = refl

pub terms_go_on : (front : List Term) (words behind : List (List ℕ)) (t : Term) (total : Result (List Term) FaultKind) → term_at words ≡ Ok (t, Some behind) → with_terms front (terms_of words) ≡ total → with_terms (front ++ t ∷ []) (terms_of behind) ≡ total
terms_go_on front words behind t total h so_far =
    sym (regroup front t (terms_of behind)) ∙ sym (ap (with_terms front) (terms_step words ∙ ap (λ r. r >>= more) h)) ∙ so_far

pub terms_end : (front : List Term) (words : List (List ℕ)) (t : Term) (total : Result (List Term) FaultKind) → term_at words ≡ Ok (t, None) → with_terms front (terms_of words) ≡ total → total ≡ Ok (front ++ t ∷ [])
terms_end front words t total h so_far =
    sym so_far ∙ ap (with_terms front) (terms_step words ∙ ap (λ r. r >>= more) h)

pub terms_fail : (e : LineError) (front : List Term) (words : List (List ℕ)) (total : Result (List Term) FaultKind) → LineFails e (term_at words) → with_terms front (terms_of words) ≡ total → LineFails e total
terms_fail lines.OutOfMemory front words total h so_far = tt
terms_fail (lines.Fault kind) front words total h so_far =
    sym so_far ∙ ap (with_terms front) (terms_step words ∙ ap (λ r. r >>= more) h)

-- the words after a term are fewer
Fewer : ℕ → Result (Term × Option (List (List ℕ))) FaultKind → Type 0
Fewer n (Ok (t, Some words)) = length words < n
Fewer n (Ok (t, None)) = Unit {0}
Fewer n (Err kind) = Unit {0}

plus_fewer : (n : ℕ) (t : Term) (p : Bool) (words : List (List ℕ)) → length words < n → Fewer n (cond p (Ok (Some words)) (Err Word) >>= λ behind. Ok (t, behind))
unfolding Fewer
plus_fewer n t true words h = h
plus_fewer n t false words h = tt

times_fewer : (n : ℕ) (word : List ℕ) (words : List (List ℕ)) → length words < n → Fewer n (times_at word words)
unfolding Fewer
times_fewer n word [] h = tt
times_fewer n word (m ∷ []) h = tt
times_fewer n word (m ∷ p ∷ words) h = plus_fewer n (record { word = word; times = Some m }) (is_plus p) words (omega arith)

word_fewer : (n : ℕ) (word : List ℕ) (words : List (List ℕ)) (t p : Bool) → length words < n → Fewer n (cond t (times_at word words) (cond p (Ok (record { word = word; times = None }, Some words)) (Err Word)))
unfolding Fewer
word_fewer n word words true p h = times_fewer n word words h
word_fewer n word words false true h = h
word_fewer n word words false false h = tt

term_fewer : (words : List (List ℕ)) → Fewer (length words) (term_at words)
unfolding Fewer
term_fewer [] = tt
term_fewer (word ∷ []) = tt
term_fewer (word ∷ w ∷ words) = word_fewer _ word words (is_times w) (is_plus w) (omega arith)

pub terms_fewer : (words behind : List (List ℕ)) (t : Term) → term_at words ≡ Ok (t, Some behind) → length behind < length words
unfolding Fewer
terms_fewer words behind t h = subst (Fewer (length words)) h (term_fewer words)

pub terms_begin : (front : List Term) (r : Result (List Term) FaultKind) → front ≡ [] → with_terms front r ≡ r
terms_begin front (Ok ts) h = ap (λ fs. Ok (fs ++ ts)) h
terms_begin front (Err kind) h = refl

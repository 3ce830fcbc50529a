-- Lines without line feeds are the lines of their text.
use Rattle.std.proofs.Common.{◌≡◌, ℕ, Bool, true, false, cond, eqb, not, List, [], ◌∷◌, ◌++◌, map, get_or, drop, length, ◌<◌, ◌≤◌, ◌+◌, refl, ap, sym, ◌∙◌, append_assoc, append-nil}
use Rattle.std.specs.List.{list_all}
use Rattle.std.proofs.lemmas.Bool.{and_parts}
use Rattle.std.proofs.lemmas.List.{drop_more, drop_all}
use Rattle.std.proofs.lemmas.Grind.{flat_map-append}
use Rattle.replay_words.specs.Lines.{begun, lines_of}
use Rattle.report_text.specs.Lines.{ended, lines_text}
use Rattle.report_text.specs.Report.{Report, conn_line, log_line, sent_line, conn_lines, conn_text}

-- holds no line feed
abbrev pub no_feed : ℕ → Bool
no_feed b = not (eqb b 10)

abbrev pub is_line : List ℕ → Bool
is_line line = list_all no_feed line

false_true : false ≡ true → ⊥
false_true h = cc

cut_by : (b : ℕ) (line rest : List ℕ) (t : Bool) → not t ≡ true → lines_of (line ++ 10 ∷ rest) ≡ line ∷ lines_of rest → cond t ([] ∷ lines_of (line ++ 10 ∷ rest)) (begun b (lines_of (line ++ 10 ∷ rest))) ≡ (b ∷ line) ∷ lines_of rest
cut_by b line rest true h ih = absurd (false_true h)
cut_by b line rest false h ih = ap (begun b) ih

cut_at : (line rest : List ℕ) → is_line line ≡ true → lines_of (line ++ 10 ∷ rest) ≡ line ∷ lines_of rest
unfolding lines_of
cut_at [] rest h = refl
cut_at (b ∷ line) rest h =
    let k = and_parts (no_feed b) (list_all no_feed line) h in
    cut_by b line rest (eqb b 10) k.0 (cut_at line rest k.1)

lines_of_none : lines_of [] ≡ []
unfolding lines_of
lines_of_none = refl

pub text_none : lines_text [] ≡ []
unfolding lines_text
text_none = refl

pub text_cons : (line : List ℕ) (lines : List (List ℕ)) → lines_text (line ∷ lines) ≡ ended line ++ lines_text lines
unfolding lines_text
text_cons line lines = refl

pub text_append : (xs ys : List (List ℕ)) → lines_text (xs ++ ys) ≡ lines_text xs ++ lines_text ys
unfolding lines_text
text_append xs ys = flat_map-append ended xs ys

text_behind : (line : List ℕ) (lines : List (List ℕ)) → lines_text (line ∷ lines) ≡ line ++ 10 ∷ lines_text lines
unfolding lines_text ended
text_behind line lines = append_assoc line (10 ∷ []) (lines_text lines)

pub lines_of-lines_text : (lines : List (List ℕ)) → list_all is_line lines ≡ true → lines_of (lines_text lines) ≡ lines
lines_of-lines_text [] h = ap lines_of text_none ∙ lines_of_none
lines_of-lines_text (line ∷ lines) h =
    let k = and_parts (is_line line) (list_all is_line lines) h in
    ap lines_of (text_behind line lines) ∙ cut_at line (lines_text lines) k.0 ∙ ap (λ ls. line ∷ ls) (lines_of-lines_text lines k.1)

-- appending line after line

pub line_more : {A : Type 0} (f : A → List ℕ) (xs : List A) (out next : List ℕ) (i : ℕ) (d : A) → i < length xs → next ≡ out ++ ended (f (get_or xs i d)) → next ++ lines_text (map f (drop (i + 1) xs)) ≡ out ++ lines_text (map f (drop i xs))
line_more f xs out next i d inside e =
    rw (e, drop_more xs i d inside, text_cons) (append_assoc out (ended (f (get_or xs i d))) (lines_text (map f (drop (i + 1) xs))))

pub line_done : {A : Type 0} (f : A → List ℕ) (xs : List A) (out : List ℕ) (i : ℕ) → length xs ≤ i → out ≡ out ++ lines_text (map f (drop i xs))
line_done f xs out i h = rw (drop_all i xs h, text_none) (sym (append-nil out))

-- the lines of a connection

text_one : (line : List ℕ) → lines_text (line ∷ []) ≡ ended line
text_one line = text_cons line [] ∙ ap (λ t. ended line ++ t) text_none ∙ append-nil (ended line)

conn_text_parts : (r : Report) → conn_text r ≡ ended (conn_line r) ++ (lines_text (map log_line r.journal) ++ ended (sent_line r.sent))
unfolding conn_text conn_lines
conn_text_parts r =
    text_cons (conn_line r) (map log_line r.journal ++ sent_line r.sent ∷ [])
    ∙ ap (λ t. ended (conn_line r) ++ t) (text_append (map log_line r.journal) (sent_line r.sent ∷ []) ∙ ap (λ t. lines_text (map log_line r.journal) ++ t) (text_one (sent_line r.sent)))

pub whole_conn : (r : Report) (out a b c : List ℕ) → a ≡ out ++ ended (conn_line r) → b ≡ a ++ lines_text (map log_line r.journal) → c ≡ b ++ ended (sent_line r.sent) → c ≡ out ++ conn_text r
whole_conn r out a b c ha hb hc = rw (hc, hb, ha, conn_text_parts r) (simp append_assoc)

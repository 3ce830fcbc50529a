-- A run's text is one of lines, of which those that begin with `sent ` tell what was sent.
use Rattle.std.proofs.Common.{◌≡◌, ◌≢◌, ℕ, zero, suc, ◌/◌, ◌%◌, ◌<◌, Bool, true, false, cond, eqb, List, [], ◌∷◌, ◌++◌, map, flat_map, codes, decimal, Option, Some, None, Ok, refl, ap, sym, ◌∙◌, arith, append-nil}
use Rattle.std.specs.Fmt.{digit_glyph, digits, digits_onto}
use Rattle.std.specs.List.{list_all, filter_map, AllByRecursion}
use Rattle.std.proofs.lemmas.Bool.{and_parts, and_from, cond_both}
use Rattle.std.proofs.lemmas.Bool.Decides.{nat_tests}
use Rattle.std.proofs.lemmas.List.Elements.{filter_map-append}
use Rattle.std.proofs.lemmas.List.Folds.{list_all-append}
use Rattle.ngx_outside.specs.declared.event.Entry.{Entry}
use Rattle.ngx_outside.specs.declared.event.StopCause.{StopCause}
use Rattle.ngx_outside.specs.declared.event.StopCause.TheVariants.{LinkFault, FileFault, Memory, SubLimit, Deadline}
use Rattle.replay_words.specs.Escapes.{unescaped, AreBytes}
use Rattle.replay_words.specs.Lines.{lines_of}
use Rattle.replay_words.specs.Words.{is_dash}
use Rattle.report_text.specs.declared.report.ConnState.{ConnState}
use Rattle.report_text.specs.declared.report.ConnState.TheVariants.{Stopped, Idle, Busy}
use Rattle.report_text.specs.Escapes.{escaped}
use Rattle.report_text.specs.Lines.{ended, lines_text}
use Rattle.report_text.specs.Report.{Report, spaced, state_word, next_word, cause_text, cause_or_dash, conn_line, logged, log_line, sent_word, sent_line, conn_lines, conn_text, refused_words, end_line, end_text, run_text}
use Rattle.report_text.specs.Laws.{is_printable, behind_sent, bytes_of, sent_in, IsTold}
use Rattle.report_text.proofs.EscapeLaws.{escaped_printable, unescaped-escaped}
use Rattle.report_text.proofs.LineLaws.{no_feed, is_line, text_none, text_cons, text_append, lines_of-lines_text}

-- lines

line_append : (a b : List ℕ) → is_line a ≡ true → is_line b ≡ true → is_line (a ++ b) ≡ true
line_append a b h k = list_all-append no_feed a b ∙ and_from _ _ h k

no_feed_printable : (b : ℕ) → is_printable b ≡ true → no_feed b ≡ true
no_feed_printable b h = grind (arith, nat_tests)

line_printable : (bs : List ℕ) → list_all is_printable bs ≡ true → is_line bs ≡ true
line_printable [] h = refl
line_printable (b ∷ bs) h =
    let k = and_parts (is_printable b) (list_all is_printable bs) h in
    and_from _ _ (no_feed_printable b k.0) (line_printable bs k.1)

glyph_no_feed : (d : ℕ) → d < 10 → no_feed (digit_glyph false d) ≡ true
glyph_no_feed d h = grind (arith, nat_tests)

digits_line : (k n : ℕ) (acc : List ℕ) → is_line acc ≡ true → is_line (digits_onto k 10 false n acc) ≡ true
digits_line zero n acc h = h
digits_line (suc k) n acc h =
    let more : is_line (digit_glyph false (n % 10) ∷ acc) ≡ true = and_from _ _ (glyph_no_feed (n % 10) (omega arith)) h in
    cond_both (eqb (n / 10) 0) (digit_glyph false (n % 10) ∷ acc) (digits_onto k 10 false (n / 10) (digit_glyph false (n % 10) ∷ acc)) (λ t. is_line t ≡ true)
    (λ e. more) (λ e. digits_line k (n / 10) (digit_glyph false (n % 10) ∷ acc) more)

decimal_line : (n : ℕ) → is_line (decimal n) ≡ true
unfolding digits
decimal_line n = digits_line 64 n [] refl

spaced_line : (word : List ℕ) → is_line word ≡ true → is_line (spaced word) ≡ true
unfolding spaced
spaced_line word h = and_from _ _ refl h

number_line : (n : ℕ) → is_line (spaced (decimal n)) ≡ true
number_line n = spaced_line (decimal n) (decimal_line n)

state_line : (s : ConnState) → is_line (state_word s) ≡ true
unfolding state_word
state_line Stopped = refl
state_line Idle = refl
state_line Busy = refl

next_line : (closes : Bool) → is_line (next_word closes) ≡ true
unfolding next_word
next_line true = refl
next_line false = refl

cause_line : (c : StopCause) → is_line (cause_text c) ≡ true
unfolding cause_text
cause_line LinkFault = spaced_line (codes "LinkFault") refl
cause_line FileFault = spaced_line (codes "FileFault") refl
cause_line Memory = spaced_line (codes "Memory") refl
cause_line (SubLimit started) =
    line_append (spaced (codes "SubLimit")) (spaced (decimal started)) (spaced_line (codes "SubLimit") refl) (number_line started)
cause_line (Deadline due now) =
    let word = spaced (codes "Deadline") in
    line_append (word ++ spaced (decimal due)) (spaced (decimal now))
    (line_append word (spaced (decimal due)) (spaced_line (codes "Deadline") refl) (number_line due)) (number_line now)

dash_line : (c : Option StopCause) → is_line (cause_or_dash c) ≡ true
unfolding cause_or_dash
dash_line None = spaced_line (codes "-") refl
dash_line (Some c) = cause_line c

conn_is_line : (r : Report) → is_line (conn_line r) ≡ true
unfolding conn_line
conn_is_line r =
    let conn = spaced (decimal r.conn) in
    let state = spaced (state_word r.state) in
    let next = spaced (next_word r.closes) in
    line_append (codes "conn" ++ conn ++ state ++ next) (cause_or_dash r.cause)
    (line_append (codes "conn" ++ conn ++ state) next
    (line_append (codes "conn" ++ conn) state (line_append (codes "conn") conn refl (number_line r.conn)) (spaced_line (state_word r.state) (state_line r.state)))
    (spaced_line (next_word r.closes) (next_line r.closes))) (dash_line r.cause)

logged_line : (log : Option (ℕ × ℕ)) → is_line (logged log) ≡ true
unfolding logged
logged_line None = refl
logged_line (Some log) = line_append (spaced (decimal log.0)) (spaced (decimal log.1)) (number_line log.0) (number_line log.1)

log_is_line : (e : Entry) → is_line (log_line e) ≡ true
unfolding log_line
log_is_line e =
    let moment = spaced (decimal e.moment) in
    let tree = spaced (decimal e.tree) in
    line_append (codes "log" ++ moment ++ tree) (logged e.log)
    (line_append (codes "log" ++ moment) tree (line_append (codes "log") moment refl (number_line e.moment)) (number_line e.tree)) (logged_line e.log)

sent_word_line : (bytes : List ℕ) → is_line (sent_word bytes) ≡ true
unfolding sent_word
sent_word_line [] = refl
sent_word_line (b ∷ bytes) = line_printable (escaped (b ∷ bytes)) (escaped_printable (b ∷ bytes))

sent_is_line : (bytes : List ℕ) → is_line (sent_line bytes) ≡ true
unfolding sent_line
sent_is_line bytes = line_append (codes "sent ") (sent_word bytes) refl (sent_word_line bytes)

refused_by : (n : ℕ) (t : Bool) → is_line (cond t [] (codes " refused" ++ spaced (decimal n))) ≡ true
refused_by n true = refl
refused_by n false = line_append (codes " refused") (spaced (decimal n)) refl (number_line n)

refused_line : (n : ℕ) → is_line (refused_words n) ≡ true
unfolding refused_words
refused_line n = refused_by n (eqb n 0)

end_is_line : (skipped refused : ℕ) → is_line (end_line skipped refused) ≡ true
unfolding end_line
end_is_line skipped refused =
    let number = spaced (decimal skipped) in
    line_append (codes "skipped" ++ number) (refused_words refused)
    (line_append (codes "skipped") number refl (number_line skipped)) (refused_line refused)

logs_are_lines : (js : List Entry) → list_all is_line (map log_line js) ≡ true
logs_are_lines [] = refl
logs_are_lines (j ∷ js) = and_from _ _ (log_is_line j) (logs_are_lines js)

lines_append : (xs ys : List (List ℕ)) → list_all is_line xs ≡ true → list_all is_line ys ≡ true → list_all is_line (xs ++ ys) ≡ true
lines_append xs ys h k = list_all-append is_line xs ys ∙ and_from _ _ h k

conn_lines_are : (r : Report) → list_all is_line (conn_lines r) ≡ true
unfolding conn_lines
conn_lines_are r =
    and_from _ _ (conn_is_line r) (lines_append (map log_line r.journal) (sent_line r.sent ∷ []) (logs_are_lines r.journal) (and_from _ _ (sent_is_line r.sent) refl))

conns_lines_are : (rs : List Report) → list_all is_line (flat_map conn_lines rs) ≡ true
conns_lines_are [] = refl
conns_lines_are (r ∷ rs) = lines_append (conn_lines r) (flat_map conn_lines rs) (conn_lines_are r) (conns_lines_are rs)

-- the text of a run is that of its lines

abbrev run_lines : List Report → ℕ → ℕ → List (List ℕ)
run_lines rs skipped refused = flat_map conn_lines rs ++ end_line skipped refused ∷ []

run_lines_are : (rs : List Report) (skipped refused : ℕ) → list_all is_line (run_lines rs skipped refused) ≡ true
run_lines_are rs skipped refused =
    lines_append (flat_map conn_lines rs) (end_line skipped refused ∷ []) (conns_lines_are rs) (and_from _ _ (end_is_line skipped refused) refl)

conn_text_lines : (r : Report) → conn_text r ≡ lines_text (conn_lines r)
unfolding conn_text
conn_text_lines r = refl

conns_text : (rs : List Report) → flat_map conn_text rs ≡ lines_text (flat_map conn_lines rs)
conns_text [] = sym text_none
conns_text (r ∷ rs) = rw (conn_text_lines r, conns_text rs) (sym (text_append (conn_lines r) (flat_map conn_lines rs)))

end_text_lines : (skipped refused : ℕ) → end_text skipped refused ≡ lines_text (end_line skipped refused ∷ [])
unfolding end_text
end_text_lines skipped refused =
    sym (text_cons (end_line skipped refused) [] ∙ ap (λ t. ended (end_line skipped refused) ++ t) text_none ∙ append-nil (ended (end_line skipped refused)))

run_text_lines : (rs : List Report) (skipped refused : ℕ) → run_text rs skipped refused ≡ lines_text (run_lines rs skipped refused)
unfolding run_text
run_text_lines rs skipped refused =
    rw (conns_text rs, end_text_lines skipped refused) (sym (text_append (flat_map conn_lines rs) (end_line skipped refused ∷ [])))

-- the lines that begin with `sent `

conn_not_sent : (r : Report) → behind_sent (conn_line r) ≡ None
unfolding behind_sent conn_line
conn_not_sent r = refl

log_not_sent : (e : Entry) → behind_sent (log_line e) ≡ None
unfolding behind_sent log_line
log_not_sent e = refl

end_not_sent : (skipped refused : ℕ) → behind_sent (end_line skipped refused) ≡ None
unfolding behind_sent end_line
end_not_sent skipped refused = refl

sent_is_sent : (bytes : List ℕ) → behind_sent (sent_line bytes) ≡ Some (sent_word bytes)
unfolding behind_sent sent_line
sent_is_sent bytes = refl

logs_not_sent : (js : List Entry) → filter_map behind_sent (map log_line js) ≡ []
logs_not_sent [] = refl
logs_not_sent (j ∷ js) = rw (log_not_sent j) (logs_not_sent js)

conn_sent : (r : Report) → filter_map behind_sent (conn_lines r) ≡ sent_word r.sent ∷ []
unfolding conn_lines
conn_sent r =
    rw (conn_not_sent r, filter_map-append behind_sent (map log_line r.journal) (sent_line r.sent ∷ []), logs_not_sent r.journal, sent_is_sent r.sent) refl

conns_sent : (rs : List Report) → filter_map behind_sent (flat_map conn_lines rs) ≡ map (λ r. sent_word r.sent) rs
conns_sent [] = refl
conns_sent (r ∷ rs) =
    filter_map-append behind_sent (conn_lines r) (flat_map conn_lines rs) ∙ rw (conn_sent r, conns_sent rs) refl

run_sent : (rs : List Report) (skipped refused : ℕ) → filter_map behind_sent (run_lines rs skipped refused) ≡ map (λ r. sent_word r.sent) rs
run_sent rs skipped refused =
    filter_map-append behind_sent (flat_map conn_lines rs) (end_line skipped refused ∷ []) ∙ rw (conns_sent rs, end_not_sent skipped refused) (append-nil _)

-- what their words stand for

dash_means : (w : List ℕ) → is_dash w ≡ true → w ≡ 45 ∷ []
unfolding is_dash
dash_means [] h = cc
dash_means (b ∷ []) h = grind (arith, nat_tests)
dash_means (b ∷ c ∷ w) h = let k = and_parts (eqb b 45) false h in cc

dash_stands : unescaped (45 ∷ []) ≡ Ok (45 ∷ [])
unfolding unescaped
dash_stands = refl

bytes_of_nil : bytes_of (sent_word []) ≡ Ok []
unfolding bytes_of sent_word is_dash
bytes_of_nil = refl

bytes_by : (w bytes : List ℕ) (t : Bool) → (t ≡ true → w ≡ 45 ∷ []) → unescaped w ≡ Ok bytes → bytes ≢ 45 ∷ [] → cond t (Ok []) (unescaped w) ≡ Ok bytes
bytes_by w bytes true dash stands other =
    let e : Ok bytes ≡ Ok (45 ∷ []) = sym stands ∙ ap unescaped (dash refl) ∙ dash_stands in
    absurd (other cc)
bytes_by w bytes false dash stands other = stands

bytes_of_some : (b : ℕ) (bytes : List ℕ) → AreBytes (b ∷ bytes) → (b ∷ bytes ≢ 45 ∷ []) → bytes_of (sent_word (b ∷ bytes)) ≡ Ok (b ∷ bytes)
unfolding bytes_of sent_word
bytes_of_some b bytes h other =
    bytes_by (escaped (b ∷ bytes)) (b ∷ bytes) (is_dash (escaped (b ∷ bytes))) (dash_means (escaped (b ∷ bytes))) (unescaped-escaped (b ∷ bytes) h) other

bytes_of-sent_word : (bytes : List ℕ) → AreBytes bytes → (bytes ≢ 45 ∷ []) → bytes_of (sent_word bytes) ≡ Ok bytes
bytes_of-sent_word [] h other = bytes_of_nil
bytes_of-sent_word (b ∷ bytes) h other = bytes_of_some b bytes h other

words_stand : (rs : List Report) → AllByRecursion IsTold rs → map bytes_of (map (λ r. sent_word r.sent) rs) ≡ map (λ r. Ok r.sent) rs
words_stand [] h = refl
words_stand (r ∷ rs) h = rw (bytes_of-sent_word r.sent h.0.0 h.0.1, words_stand rs h.1) refl

pub sent_in-run_text : (rs : List Report) (skipped refused : ℕ) → AllByRecursion IsTold rs → sent_in (run_text rs skipped refused) ≡ map (λ r. Ok r.sent) rs
unfolding sent_in
sent_in-run_text rs skipped refused h =
    ap (λ t. map bytes_of (filter_map behind_sent (lines_of t))) (run_text_lines rs skipped refused)
    ∙ ap (λ ls. map bytes_of (filter_map behind_sent ls)) (lines_of-lines_text (run_lines rs skipped refused) (run_lines_are rs skipped refused))
    ∙ ap (map bytes_of) (run_sent rs skipped refused) ∙ words_stand rs h

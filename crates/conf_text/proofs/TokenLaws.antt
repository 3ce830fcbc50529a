-- Tokens under way.
use Rattle.std.proofs.Common.{◌≡◌, ℕ, zero, suc, ◌+◌, ◌-◌, ◌<◌, ◌≤◌, nat_le, Bool, true, false, ◌==◌, List, [], ◌∷◌, length, refl, sym, ap, ◌∙◌, arith, subst, Option, None, Some, if◌then◌else◌}
use Rattle.std.proofs.lemmas.Bool.{eqb-true, eq-eqb, ne_eqb, or_from, and_left}
use Rattle.conf_text.specs.declared.fault.FaultKind.{FaultKind}
use Rattle.conf_text.specs.declared.fault.FaultKind.TheVariants.{TokenTooLong}
use Rattle.conf_text.specs.declared.token.Token.{Token}
use Rattle.conf_text.specs.declared.token.Token.TheVariants as token
use Rattle.conf_text.specs.declared.token.Sign.TheVariants.{Semicolon, Open, Close, End, Wrong}
use Rattle.conf_text.specs.Words.{Word, Whole, Faulty, Byte, pieces, plain, quoted, in_front, fitted, is_space, ends, line_behind}
use Rattle.conf_text.specs.Tokens.{tokens, comment, is_quote, word_at}
use Rattle.conf_text.specs.Places.{Passed, ReadsWord, ReadsToken, Nearer}
use Rattle.conf_text.proofs.PlaceLaws.{passed-step, passed-none, line_behind-same, tokens-step}
use Rattle.conf_text.proofs.WordLaws.{pieces-byte}

-- what was read of a comment

pub comment-none : (line : ℕ) (rest : List ℕ) → rest ≡ [] → tokens (comment rest) line rest ≡ tokens 0 line rest
unfolding comment
comment-none line rest e = ap (λ r. tokens (comment r) line r) e ∙ ap (λ r. tokens 0 line r) (sym e)

pub comment-ends : (line : ℕ) (rest : List ℕ) (b : ℕ) (after : List ℕ) → rest ≡ b ∷ after → b ≡ 10 → tokens (comment rest) line rest ≡ tokens 0 line rest
unfolding comment
comment-ends line rest b after e f =
    ap (λ n. tokens n line rest) (ap comment e ∙ ap (λ t. if t then 0 else suc (comment after)) (eq-eqb b 10 f))

pub comment-on : (line : ℕ) (rest : List ℕ) (b : ℕ) (after : List ℕ) → rest ≡ b ∷ after → (b ≡ 10 → ⊥) → tokens (comment rest) line rest ≡ tokens (comment after) line after
unfolding comment
comment-on line rest b after e f =
    let n : comment rest ≡ suc (comment after) = ap comment e ∙ ap (λ t. if t then 0 else suc (comment after)) (ne_eqb b 10 f) in
    ap (λ k. tokens k line rest) n ∙ ap (λ r. tokens (suc (comment after)) line r) e ∙ tokens-step (comment after) line b after
    ∙ ap (λ l. tokens (comment after) l after) (line_behind-same line b (ne_eqb b 10 f))

-- the first token, by the first byte

-- the tokens by the tests of the first byte, one after the other
by_tests : (space hash semicolon opens closes : Bool) → (line b : ℕ) (bs : List ℕ) (w : Word) → List Token
by_tests space hash semicolon opens closes line b bs w =
    if space then tokens zero (line_behind line b) bs
    else if hash then tokens (comment bs) line bs
    else if semicolon then token.Mark line Semicolon ∷ tokens zero line bs
    else if opens then token.Mark line Open ∷ tokens zero line bs
    else if closes then token.Mark line Close ∷ tokens zero line bs
    else elim w [
      | Whole text size ↦ token.Word line text ∷ tokens (size - 1) (line_behind line b) bs
      | Faulty kind at ↦ token.Mark at (Wrong kind) ∷ []
    ]

tokens-first : (line : ℕ) (rest : List ℕ) (b : ℕ) (bs : List ℕ) → rest ≡ b ∷ bs → tokens 0 line rest ≡ by_tests (is_space b) (b == 35) (b == 59) (b == 123) (b == 125) line b bs (word_at line b bs)
unfolding tokens by_tests
tokens-first line rest b bs e = ap (tokens 0 line) e

pub tokens-end : (line : ℕ) (rest : List ℕ) → rest ≡ [] → tokens 0 line rest ≡ token.Mark line End ∷ []
unfolding tokens
tokens-end line rest e = ap (tokens 0 line) e

pub tokens-space : (line : ℕ) (rest : List ℕ) (b : ℕ) (bs : List ℕ) → rest ≡ b ∷ bs → is_space b ≡ true → tokens 0 line rest ≡ tokens 0 (line_behind line b) bs
unfolding by_tests
tokens-space line rest b bs e f = tokens-first line rest b bs e ∙ ap (λ t. by_tests t (b == 35) (b == 59) (b == 123) (b == 125) line b bs (word_at line b bs)) f

-- the tests that come before the one that decides are false
tests : (line b : ℕ) (bs : List ℕ) (s h m o c : Bool) → is_space b ≡ s → (b == 35) ≡ h → (b == 59) ≡ m → (b == 123) ≡ o → (b == 125) ≡ c
    → by_tests (is_space b) (b == 35) (b == 59) (b == 123) (b == 125) line b bs (word_at line b bs) ≡ by_tests s h m o c line b bs (word_at line b bs)
tests line b bs s h m o c e1 e2 e3 e4 e5 = cc

pub tokens-comment : (line : ℕ) (rest : List ℕ) (b : ℕ) (bs : List ℕ) → rest ≡ b ∷ bs → is_space b ≡ false → b ≡ 35 → tokens 0 line rest ≡ tokens (comment bs) line bs
unfolding by_tests
tokens-comment line rest b bs e f h =
    tokens-first line rest b bs e ∙ tests line b bs false true (b == 59) (b == 123) (b == 125) f (eq-eqb b 35 h) refl refl refl

pub tokens-semicolon : (line : ℕ) (rest : List ℕ) (b : ℕ) (bs : List ℕ) → rest ≡ b ∷ bs → is_space b ≡ false → (b ≡ 35 → ⊥) → b ≡ 59 → tokens 0 line rest ≡ token.Mark line Semicolon ∷ tokens 0 line bs
unfolding by_tests
tokens-semicolon line rest b bs e f h m =
    tokens-first line rest b bs e ∙ tests line b bs false false true (b == 123) (b == 125) f (ne_eqb b 35 h) (eq-eqb b 59 m) refl refl

pub tokens-open : (line : ℕ) (rest : List ℕ) (b : ℕ) (bs : List ℕ) → rest ≡ b ∷ bs → is_space b ≡ false → (b ≡ 35 → ⊥) → (b ≡ 59 → ⊥) → b ≡ 123 → tokens 0 line rest ≡ token.Mark line Open ∷ tokens 0 line bs
unfolding by_tests
tokens-open line rest b bs e f h m o =
    tokens-first line rest b bs e ∙ tests line b bs false false false true (b == 125) f (ne_eqb b 35 h) (ne_eqb b 59 m) (eq-eqb b 123 o) refl

pub tokens-close : (line : ℕ) (rest : List ℕ) (b : ℕ) (bs : List ℕ) → rest ≡ b ∷ bs → is_space b ≡ false → (b ≡ 35 → ⊥) → (b ≡ 59 → ⊥) → (b ≡ 123 → ⊥) → b ≡ 125 → tokens 0 line rest ≡ token.Mark line Close ∷ tokens 0 line bs
unfolding by_tests
tokens-close line rest b bs e f h m o c =
    tokens-first line rest b bs e ∙ tests line b bs false false false false true f (ne_eqb b 35 h) (ne_eqb b 59 m) (ne_eqb b 123 o) (eq-eqb b 125 c)

-- a byte with which a word begins
pub record BeginsWord (b : ℕ) : Type 0 where
  pub no_space : is_space b ≡ false
  pub no_hash : b ≡ 35 → ⊥
  pub no_semicolon : b ≡ 59 → ⊥
  pub no_open : b ≡ 123 → ⊥
  pub no_close : b ≡ 125 → ⊥

tokens-at_word : (line : ℕ) (rest : List ℕ) (b : ℕ) (bs : List ℕ) (w : Word) → rest ≡ b ∷ bs → BeginsWord b → word_at line b bs ≡ w → tokens 0 line rest ≡ by_tests false false false false false line b bs w
tokens-at_word line rest b bs w e n h =
    tokens-first line rest b bs e ∙ tests line b bs false false false false false n.no_space (ne_eqb b 35 n.no_hash) (ne_eqb b 59 n.no_semicolon) (ne_eqb b 123 n.no_open) (ne_eqb b 125 n.no_close)
    ∙ ap (by_tests false false false false false line b bs) h

tokens-faulty : (line : ℕ) (rest : List ℕ) (b : ℕ) (bs : List ℕ) (kind : FaultKind) (at : ℕ) → rest ≡ b ∷ bs → BeginsWord b → word_at line b bs ≡ Faulty kind at → tokens 0 line rest ≡ token.Mark at (Wrong kind) ∷ []
unfolding by_tests
tokens-faulty line rest b bs kind at e n h = tokens-at_word line rest b bs (Faulty kind at) e n h

tokens-whole : (line : ℕ) (rest : List ℕ) (b : ℕ) (bs : List ℕ) (text : List ℕ) (size : ℕ) → rest ≡ b ∷ bs → BeginsWord b → word_at line b bs ≡ Whole text size
    → tokens 0 line rest ≡ token.Word line text ∷ tokens (size - 1) (line_behind line b) bs
unfolding by_tests
tokens-whole line rest b bs text size e n h = tokens-at_word line rest b bs (Whole text size) e n h

-- a word takes at least its first byte

in_front-size : (bytes : List ℕ) (n : ℕ) (w : Word) (text : List ℕ) (size : ℕ) → in_front bytes n w ≡ Whole text size → n ≤ size
in_front-size bytes n (Whole more k) text size e = let h : n + k ≡ size = cc in omega arith
in_front-size bytes n (Faulty kind line) text size e = cc

fitted-size : (room line : ℕ) (bytes : List ℕ) (n : ℕ) (w : Word) (text : List ℕ) (size : ℕ) → fitted room line bytes n w ≡ Whole text size → n ≤ size
fitted-size room line bytes n w text size e =
    elim (nat_le (length bytes) room) as (λ t. (if t then in_front bytes n w else Faulty TokenTooLong line) ≡ Whole text size → n ≤ size) [
      | true ↦ λ h. in_front-size bytes n w text size h
      | false ↦ λ h. cc
    ] e

pair-size : (room line : ℕ) (bs : List ℕ) (text : List ℕ) (size : ℕ) → plain false room line (pieces (92 ∷ bs)) ≡ Whole text size → 1 ≤ size
unfolding plain pieces
pair-size room line [] text size e = cc
pair-size room line (c ∷ cs) text size e = let h : 2 ≤ size = fitted-size _ _ _ _ _ _ _ e in omega arith

byte-size : (room line b : ℕ) (bs : List ℕ) (text : List ℕ) (size : ℕ) → ends false b ≡ false → plain false room line (Byte b ∷ pieces bs) ≡ Whole text size → 1 ≤ size
unfolding plain
byte-size room line b bs text size no_end e =
    fitted-size room line (b ∷ []) 1 (plain (b == 36) (room - 1) line (pieces bs)) text size (sym (ap (λ t. if t then Whole [] 0 else fitted room line (b ∷ []) 1 (plain (b == 36) (room - 1) line (pieces bs))) no_end) ∙ e)

begins-no_end : (b : ℕ) → BeginsWord b → ends false b ≡ false
begins-no_end b n = or_from (is_space b) _ n.no_space (or_from (b == 59) _ (ne_eqb b 59 n.no_semicolon) (and_left (b == 123) true (ne_eqb b 123 n.no_open)))

plain-size : (room line b : ℕ) (bs : List ℕ) (text : List ℕ) (size : ℕ) → BeginsWord b → plain false room line (pieces (b ∷ bs)) ≡ Whole text size → 1 ≤ size
plain-size room line b bs text size n e =
    elim (b == 92) as (λ t. (b == 92) ≡ t → 1 ≤ size) [
      | true ↦ λ h. pair-size room line bs text size (subst (λ x. plain false room line (pieces (x ∷ bs)) ≡ Whole text size) (eqb-true b 92 h) e)
      | false ↦ λ h. byte-size room line b bs text size (begins-no_end b n) (ap (plain false room line) (sym (pieces-byte b bs h)) ∙ e)
    ] refl

word_at-size : (line b : ℕ) (bs : List ℕ) (text : List ℕ) (size : ℕ) → BeginsWord b → word_at line b bs ≡ Whole text size → 1 ≤ size
unfolding word_at
word_at-size line b bs text size n e =
    elim (is_quote b) as (λ t. (if t then in_front [] 1 (quoted b 4096 line (pieces bs)) else plain false 4096 line (pieces (b ∷ bs))) ≡ Whole text size → 1 ≤ size) [
      | true ↦ λ h. in_front-size [] 1 _ text size h
      | false ↦ λ h. plain-size 4096 line b bs text size n h
    ] e

passed-trans : (line : ℕ) (rest : List ℕ) (line' : ℕ) (rest' : List ℕ) (line'' : ℕ) (rest'' : List ℕ) → Passed line rest line' rest' → Passed line' rest' line'' rest'' → Passed line rest line'' rest''
passed-trans line rest line' rest' line'' rest'' p q =
    let a : length rest' ≤ length rest = p.within in
    let b : length rest'' ≤ length rest' = q.within in
    let c : line' + length rest' ≤ line + length rest = p.lines in
    let d : line'' + length rest'' ≤ line' + length rest' = q.lines in
    record {
      within = omega arith;
      lines = omega arith;
      tokens_there = λ more.
          let e : (length rest - length rest'') + more ≡ (length rest - length rest') + ((length rest' - length rest'') + more) = omega arith in
          ap (λ n. tokens n line rest) e ∙ p.tokens_there ((length rest' - length rest'') + more) ∙ q.tokens_there more;
    }

pub quote-no_feed : (b : ℕ) → is_quote b ≡ true → b ≡ 10 → ⊥
quote-no_feed b e f = let h : is_quote b ≡ false = ap is_quote f in cc

pub reads-quoted : (line : ℕ) (rest : List ℕ) (b : ℕ) (after : List ℕ) (fault : Option FaultKind) (text : List ℕ) (line' : ℕ) (rest' : List ℕ)
    → rest ≡ b ∷ after → is_quote b ≡ true → ReadsWord (quoted b 4096 line (pieces after)) fault text line after line' rest' → ReadsWord (word_at line b after) fault text line rest line' rest'
unfolding word_at
reads-quoted line rest b after None text line' rest' e q r =
    let n : length rest ≡ suc (length after) = ap length e in
    let within : length rest' ≤ length after = r.1.within in
    let near : Passed line rest line after
    = subst (λ z. Passed line z line after) (sym e) (subst (λ l. Passed line (b ∷ after) l after) (line_behind-same line b (ne_eqb b 10 (quote-no_feed b q))) (passed-step line (b ∷ after) line b after (passed-none line (b ∷ after)))) in (
      ap (λ t. if t then in_front [] 1 (quoted b 4096 line (pieces after)) else plain false 4096 line (pieces (b ∷ after))) q ∙ ap (in_front [] 1) r.0 ∙ ap (Whole text) (omega arith),
      passed-trans line rest line after line' rest' near r.1,
    )
reads-quoted line rest b after (Some kind) text line' rest' e q r =
    ap (λ t. if t then in_front [] 1 (quoted b 4096 line (pieces after)) else plain false 4096 line (pieces (b ∷ after))) q ∙ ap (in_front [] 1) r

pub word_at-plain : (line : ℕ) (rest : List ℕ) (b : ℕ) (after : List ℕ) → rest ≡ b ∷ after → is_quote b ≡ false → plain false 4096 line (pieces rest) ≡ word_at line b after
unfolding word_at
word_at-plain line rest b after e q =
    ap (λ r. plain false 4096 line (pieces r)) e ∙ sym (ap (λ t. if t then in_front [] 1 (quoted b 4096 line (pieces after)) else plain false 4096 line (pieces (b ∷ after))) q)

pub reads-plain : (line : ℕ) (rest : List ℕ) (b : ℕ) (after : List ℕ) (fault : Option FaultKind) (text : List ℕ) (line' : ℕ) (rest' : List ℕ)
    → rest ≡ b ∷ after → is_quote b ≡ false → ReadsWord (plain false 4096 line (pieces rest)) fault text line rest line' rest' → ReadsWord (word_at line b after) fault text line rest line' rest'
reads-plain line rest b after fault text line' rest' e q r =
    subst (λ (w : Word). ReadsWord w fault text line rest line' rest') (word_at-plain line rest b after e q) r

-- a word that was read whole is the next token
pub token-whole : (line : ℕ) (rest : List ℕ) (b : ℕ) (bs : List ℕ) (text : List ℕ) (line' : ℕ) (rest' : List ℕ)
    → rest ≡ b ∷ bs → BeginsWord b → ReadsWord (word_at line b bs) None text line rest line' rest'
    → (tokens 0 line rest ≡ token.Word line text ∷ tokens 0 line' rest') × Nearer line rest line' rest'
token-whole line rest b bs text line' rest' e n r =
    let size : 1 ≤ length rest - length rest' = word_at-size line b bs text (length rest - length rest') n r.0 in
    let count : (length rest - length rest') + 0 ≡ suc ((length rest - length rest') - 1) = omega arith in
    let there : tokens ((length rest - length rest') - 1) (line_behind line b) bs ≡ tokens 0 line' rest'
    = sym (tokens-step ((length rest - length rest') - 1) line b bs) ∙ ap (λ z. tokens (suc ((length rest - length rest') - 1)) line z) (sym e) ∙ ap (λ k. tokens k line rest) (sym count) ∙ r.1.tokens_there 0 in (
      tokens-whole line rest b bs text (length rest - length rest') e n r.0 ∙ ap (λ ts. token.Word line text ∷ ts) there,
      record { shorter = omega arith; lines = r.1.lines },
    )

pub token-faulty : (line : ℕ) (rest : List ℕ) (b : ℕ) (bs : List ℕ) (text : List ℕ) (kind : FaultKind) (line' : ℕ) (rest' : List ℕ)
    → rest ≡ b ∷ bs → BeginsWord b → ReadsWord (word_at line b bs) (Some kind) text line rest line' rest' → tokens 0 line rest ≡ token.Mark line' (Wrong kind) ∷ []
token-faulty line rest b bs text kind line' rest' e n r = tokens-faulty line rest b bs kind line' e n r

pub token-read_whole : (line : ℕ) (rest : List ℕ) (b : ℕ) (bs : List ℕ) (fault : Option FaultKind) (word text : List ℕ) (line' : ℕ) (rest' : List ℕ)
    → rest ≡ b ∷ bs → BeginsWord b → fault ≡ None → text ≡ word → ReadsWord (word_at line b bs) fault word line rest line' rest'
    → (tokens 0 line rest ≡ token.Word line text ∷ tokens 0 line' rest') × Nearer line rest line' rest'
token-read_whole line rest b bs fault word text line' rest' e n f t r =
    let none : ReadsWord (word_at line b bs) None word line rest line' rest' = subst (λ z. ReadsWord (word_at line b bs) z word line rest line' rest') f r in
    token-whole line rest b bs text line' rest' e n (subst (λ z. ReadsWord (word_at line b bs) None z line rest line' rest') (sym t) none)

pub token-read_faulty : (line : ℕ) (rest : List ℕ) (b : ℕ) (bs : List ℕ) (fault : Option FaultKind) (word : List ℕ) (kind : FaultKind) (line' : ℕ) (rest' : List ℕ)
    → rest ≡ b ∷ bs → BeginsWord b → fault ≡ Some kind → ReadsWord (word_at line b bs) fault word line rest line' rest' → tokens 0 line rest ≡ token.Mark line' (Wrong kind) ∷ []
token-read_faulty line rest b bs fault word kind line' rest' e n f r =
    token-faulty line rest b bs word kind line' rest' e n (subst (λ z. ReadsWord (word_at line b bs) z word line rest line' rest') f r)

-- white space and comments were passed, up to the second place
pub record Skipped (line : ℕ) (rest : List ℕ) (line' : ℕ) (rest' : List ℕ) : Type 0 where
  pub same : tokens 0 line rest ≡ tokens 0 line' rest'
  pub within : length rest' ≤ length rest
  pub lines : line' + length rest' ≤ line + length rest

pub skipped-on : (line : ℕ) (rest : List ℕ) (line' : ℕ) (rest' : List ℕ) (line'' : ℕ) (rest'' : List ℕ)
    → Skipped line rest line' rest' → tokens 0 line' rest' ≡ tokens 0 line'' rest'' → length rest'' < length rest' → line'' + length rest'' ≤ line' + length rest' → Skipped line rest line'' rest''
skipped-on line rest line' rest' line'' rest'' s e n l =
    let a : length rest' ≤ length rest = s.within in
    let c : line' + length rest' ≤ line + length rest = s.lines in
    record { same = s.same ∙ e; within = omega arith; lines = omega arith }

pub skipped-sign : (line : ℕ) (rest : List ℕ) (line' : ℕ) (rest' : List ℕ) (b : ℕ) (after : List ℕ) (t : Token)
    → Skipped line rest line' rest' → rest' ≡ b ∷ after → tokens 0 line' rest' ≡ t ∷ tokens 0 line' after → (tokens 0 line rest ≡ t ∷ tokens 0 line' after) × Nearer line rest line' after
skipped-sign line rest line' rest' b after t s e r =
    let n : length rest' ≡ suc (length after) = ap length e in
    let a : length rest' ≤ length rest = s.within in
    let c : line' + length rest' ≤ line + length rest = s.lines in
    (s.same ∙ r, record { shorter = omega arith; lines = omega arith })

skipped-nearer : (line : ℕ) (rest : List ℕ) (line' : ℕ) (rest' : List ℕ) (line'' : ℕ) (rest'' : List ℕ) (ts : List Token)
    → Skipped line rest line' rest' → (tokens 0 line' rest' ≡ ts) × Nearer line' rest' line'' rest'' → (tokens 0 line rest ≡ ts) × Nearer line rest line'' rest''
skipped-nearer line rest line' rest' line'' rest'' ts s r =
    let a : length rest' ≤ length rest = s.within in
    let c : line' + length rest' ≤ line + length rest = s.lines in
    let n : length rest'' < length rest' = r.1.shorter in
    let l : line'' + length rest'' ≤ line' + length rest' = r.1.lines in
    (s.same ∙ r.0, record { shorter = omega arith; lines = omega arith })

pub skipped-token : (line : ℕ) (rest : List ℕ) (line' : ℕ) (rest' : List ℕ) (line'' : ℕ) (rest'' : List ℕ) (t : Token)
    → Skipped line rest line' rest' → ReadsToken t line' rest' line'' rest'' → ReadsToken t line rest line'' rest''
skipped-token line rest line' rest' line'' rest'' (token.Word at text) s r = skipped-nearer line rest line' rest' line'' rest'' _ s r
skipped-token line rest line' rest' line'' rest'' (token.Mark at Semicolon) s r = skipped-nearer line rest line' rest' line'' rest'' _ s r
skipped-token line rest line' rest' line'' rest'' (token.Mark at Open) s r = skipped-nearer line rest line' rest' line'' rest'' _ s r
skipped-token line rest line' rest' line'' rest'' (token.Mark at Close) s r = skipped-nearer line rest line' rest' line'' rest'' _ s r
skipped-token line rest line' rest' line'' rest'' (token.Mark at End) s r = s.same ∙ r
skipped-token line rest line' rest' line'' rest'' (token.Mark at (Wrong kind)) s r = s.same ∙ r

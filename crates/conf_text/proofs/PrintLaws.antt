-- What is printed is read.
use Rattle.std.proofs.Common.{◌≡◌, ℕ, zero, suc, ◌+◌, ◌-◌, ◌≤◌, Bool, true, false, ◌||◌, ◌==◌, List, [], ◌∷◌, ◌++◌, Result, Ok, inl, inr, map, length, refl, sym, ap, ◌∙◌, arith, subst, append_assoc, length-append, if◌then◌else◌}
use Rattle.std.proofs.lemmas.Bool.{eqb-true, eqb-false, le-leb, or_parts, or_cases}
use Rattle.conf_text.specs.declared.fault.ConfFault.{ConfFault}
use Rattle.conf_text.specs.declared.token.Token.{Token}
use Rattle.conf_text.specs.declared.token.Token.TheVariants as token
use Rattle.conf_text.specs.declared.token.Sign.{Sign}
use Rattle.conf_text.specs.declared.token.Sign.TheVariants.{Semicolon, Open, Close, Wrong}
use Rattle.conf_text.specs.declared.statement.Statement.{Statement}
use Rattle.conf_text.specs.declared.statement.Statement.TheVariants.{Bare, Led}
use Rattle.conf_text.specs.declared.directive.Directive.{Directive}
use Rattle.conf_text.specs.Words.{Word, Whole, Faulty, pieces, escape, quoted, fitted, in_front, may_follow, line_behind}
use Rattle.conf_text.specs.Tokens.{tokens, word_at}
use Rattle.conf_text.specs.Statements.{led, statements}
use Rattle.conf_text.specs.Reading.{directives, reading, with_first, depth_behind, IsNested}
use Rattle.conf_text.specs.Printing.{escaped_text, print_word, print_words, print_ends, mark_of, print, WordsFit, AllFit, without_place, PrintedIsRead}
use Rattle.conf_text.proofs.WordLaws.{quoted-pair, quoted-byte, quoted-closes, closed-right, fitted-fits}
use Rattle.conf_text.proofs.StepLaws.{led-semicolon, led-open}

-- a word in quotes

escape-of : (b : ℕ) → ((b == 34) || (b == 92)) ≡ true → escape b ≡ b ∷ []
unfolding escape
escape-of b e = elim (or_cases (b == 34) (b == 92) e) [
  | inl h ↦ ap (λ x. if (x == 34) || ((x == 39) || (x == 92)) then x ∷ [] else if x == 116 then 9 ∷ [] else if x == 114 then 13 ∷ [] else if x == 110 then 10 ∷ [] else 92 ∷ x ∷ []) (eqb-true b 34 h) ∙ ap (λ x. x ∷ []) (sym (eqb-true b 34 h))
  | inr h ↦ ap (λ x. if (x == 34) || ((x == 39) || (x == 92)) then x ∷ [] else if x == 116 then 9 ∷ [] else if x == 114 then 13 ∷ [] else if x == 110 then 10 ∷ [] else 92 ∷ x ∷ []) (eqb-true b 92 h) ∙ ap (λ x. x ∷ []) (sym (eqb-true b 92 h))
]

pub quoted-printed : (word : List ℕ) (room line : ℕ) (rest : List ℕ) (f : ℕ) (more : List ℕ) → length word ≤ room → rest ≡ f ∷ more → may_follow f ≡ true
    → quoted 34 room line (pieces (escaped_text word ++ 34 ∷ rest)) ≡ Whole word (length (escaped_text word) + 1)
unfolding escaped_text
quoted-printed [] room line rest f more h e m =
    quoted-closes 34 room line (34 ∷ rest) 34 rest refl (eqb-false 34 92 refl) refl ∙ closed-right line rest f more e m
quoted-printed (b ∷ bs) room line rest f more h e m =
    elim ((b == 34) || (b == 92)) as (λ t. ((b == 34) || (b == 92)) ≡ t → quoted 34 room line (pieces (((if t then 92 ∷ b ∷ [] else b ∷ []) ++ escaped_text bs) ++ 34 ∷ rest)) ≡ Whole (b ∷ bs) (length ((if t then 92 ∷ b ∷ [] else b ∷ []) ++ escaped_text bs) + 1)) [
      | true ↦ λ t.
          let given : escape b ≡ b ∷ [] = escape-of b t in
          quoted-pair 34 room line (92 ∷ b ∷ (escaped_text bs ++ 34 ∷ rest)) 92 (b ∷ (escaped_text bs ++ 34 ∷ rest)) b (escaped_text bs ++ 34 ∷ rest) refl refl refl
          ∙ ap (λ z. fitted room (line_behind line b) z 2 (quoted 34 (room - length z) (line_behind line b) (pieces (escaped_text bs ++ 34 ∷ rest)))) given
          ∙ fitted-fits room (line_behind line b) (b ∷ []) 2 _ (le-leb 1 room (omega arith))
          ∙ ap (in_front (b ∷ []) 2) (quoted-printed bs (room - 1) (line_behind line b) rest f more (omega arith) e m)
          ∙ ap (Whole (b ∷ bs)) (omega arith)
      | false ↦ λ t.
          quoted-byte 34 room line (b ∷ (escaped_text bs ++ 34 ∷ rest)) b (escaped_text bs ++ 34 ∷ rest) refl (eqb-false b 92 ((or_parts (b == 34) (b == 92) t).1)) (eqb-false b 34 ((or_parts (b == 34) (b == 92) t).0))
          ∙ fitted-fits room (line_behind line b) (b ∷ []) 1 _ (le-leb 1 room (omega arith))
          ∙ ap (in_front (b ∷ []) 1) (quoted-printed bs (room - 1) (line_behind line b) rest f more (omega arith) e m)
          ∙ ap (Whole (b ∷ bs)) (omega arith)
    ] refl

-- the line after bytes
pub lines_behind : ℕ → List ℕ → ℕ
lines_behind line [] = line
lines_behind line (b ∷ bs) = lines_behind (line_behind line b) bs

tokens-passed : (xs : List ℕ) (line : ℕ) (rest : List ℕ) → tokens (length xs) line (xs ++ rest) ≡ tokens 0 (lines_behind line xs) rest
unfolding tokens lines_behind
tokens-passed [] line rest = refl
tokens-passed (b ∷ bs) line rest = tokens-passed bs (line_behind line b) rest

tokens-quote : (line : ℕ) (bs : List ℕ) (text : List ℕ) (size : ℕ) → word_at line 34 bs ≡ Whole text size → tokens 0 line (34 ∷ bs) ≡ token.Word line text ∷ tokens (size - 1) (line_behind line 34) bs
unfolding tokens
tokens-quote line bs text size e = ap (λ (w : Word). elim w [
  | Whole text size ↦ token.Word line text ∷ tokens (size - 1) (line_behind line 34) bs
  | Faulty kind at ↦ token.Mark at (Wrong kind) ∷ []
]) e

-- a printed word is the next token
pub tokens-printed : (word : List ℕ) (line : ℕ) (rest : List ℕ) (f : ℕ) (more : List ℕ) → length word ≤ 4096 → rest ≡ f ∷ more → may_follow f ≡ true
    → tokens 0 line (print_word word rest) ≡ token.Word line word ∷ tokens 0 (lines_behind line (escaped_text word ++ 34 ∷ [])) rest
unfolding word_at
tokens-printed word line rest f more h e m =
    let size : 1 + (length (escaped_text word) + 1) - 1 ≡ length (escaped_text word ++ 34 ∷ []) = omega (arith, length-append (escaped_text word) (34 ∷ [])) in
    let text : escaped_text word ++ 34 ∷ rest ≡ (escaped_text word ++ 34 ∷ []) ++ rest = sym (append_assoc (escaped_text word) (34 ∷ []) rest) in
    tokens-quote line (escaped_text word ++ 34 ∷ rest) word (1 + (length (escaped_text word) + 1)) (ap (in_front [] 1) (quoted-printed word 4096 line rest f more h e m))
    ∙ ap (λ ts. token.Word line word ∷ ts) (ap (λ n. tokens n line (escaped_text word ++ 34 ∷ rest)) size ∙ ap (tokens (length (escaped_text word ++ 34 ∷ [])) line) text ∙ tokens-passed (escaped_text word ++ 34 ∷ []) line rest)

-- what comes before a sign

tokens-space : (line : ℕ) (bs : List ℕ) → tokens 0 line (32 ∷ bs) ≡ tokens 0 line bs
unfolding tokens
tokens-space line bs = refl

tokens-feed : (line : ℕ) (bs : List ℕ) → tokens 0 line (10 ∷ bs) ≡ tokens 0 (line + 1) bs
unfolding tokens
tokens-feed line bs = refl

-- the sign of a directive's end
sign_by : Bool → Sign
sign_by true = Open
sign_by false = Semicolon

tokens-mark : (block : Bool) (line : ℕ) (bs : List ℕ) → tokens 0 line (mark_of block ∷ bs) ≡ token.Mark line (sign_by block) ∷ tokens 0 line bs
unfolding tokens sign_by
tokens-mark true line bs = refl
tokens-mark false line bs = refl

mark-follows : (block : Bool) → may_follow (mark_of block) ≡ true
mark-follows true = refl
mark-follows false = refl

-- words and a sign, the first on this line, as a statement
stated : (line : ℕ) → List (List ℕ) → Sign → (at : ℕ) → Statement
stated line [] sign at = Bare sign at
stated line (word ∷ words) sign at = Led line word words sign at

led-stated : (line : ℕ) (name : List ℕ) (other : ℕ) (words : List (List ℕ)) (sign : Sign) (at : ℕ) (more : List Statement) → led line name [] (stated other words sign at ∷ more) ≡ Led line name words sign at ∷ more
unfolding led stated
led-stated line name other [] sign at more = refl
led-stated line name other (word ∷ words) sign at more = refl

-- where words and their sign are read: a line, the sign's line, and the line after it
record Placed (words : List (List ℕ)) (block : Bool) (all : List Statement) (rest : List ℕ) : Type 0 where
  head : ℕ
  at : ℕ
  behind : ℕ
  same : all ≡ stated head words (sign_by block) at ∷ statements (tokens 0 behind rest)

-- a byte that comes right after a word in a list of words
words-first : (words : List (List ℕ)) (block : Bool) (rest : List ℕ) → (f : ℕ) × (more : List ℕ) × (print_words words (mark_of block ∷ rest) ≡ f ∷ more) × (may_follow f ≡ true)
unfolding print_words
words-first [] block rest = (mark_of block, rest, refl, mark-follows block)
words-first (word ∷ words) block rest = (32, print_word word (print_words words (mark_of block ∷ rest)), refl, refl)

statements-printed_word : (line : ℕ) (text : List ℕ) (ts : List Token) → statements (token.Word line text ∷ ts) ≡ led line text [] (statements ts)
unfolding statements
statements-printed_word line text ts = refl

statements-printed_mark : (line : ℕ) (sign : Sign) (ts : List Token) → statements (token.Mark line sign ∷ ts) ≡ Bare sign line ∷ statements ts
unfolding statements
statements-printed_mark line sign ts = refl

placed-words : (words : List (List ℕ)) (block : Bool) (line : ℕ) (rest : List ℕ) → WordsFit words → Placed words block (statements (tokens 0 line (print_words words (mark_of block ∷ rest)))) rest
unfolding print_words stated
placed-words [] block line rest h = record {
  head = line;
  at = line;
  behind = line;
  same = ap statements (tokens-mark block line rest) ∙ statements-printed_mark line (sign_by block) (tokens 0 line rest);
}
placed-words (word ∷ words) block line rest h =
    let first : (f : ℕ) × (more : List ℕ) × (print_words words (mark_of block ∷ rest) ≡ f ∷ more) × (may_follow f ≡ true) = words-first words block rest in
    let next : ℕ = lines_behind line (escaped_text word ++ 34 ∷ []) in
    let more : Placed words block (statements (tokens 0 next (print_words words (mark_of block ∷ rest)))) rest = placed-words words block next rest h.1 in
    record {
      head = line;
      at = more.at;
      behind = more.behind;
      same = ap statements (tokens-space line (print_word word (print_words words (mark_of block ∷ rest))) ∙ tokens-printed word line (print_words words (mark_of block ∷ rest)) first.0 first.1 h.0 first.2 first.3)
          ∙ statements-printed_word line word (tokens 0 next (print_words words (mark_of block ∷ rest)))
          ∙ ap (led line word []) more.same
          ∙ led-stated line word more.head words (sign_by block) more.at (statements (tokens 0 more.behind rest));
    }

-- the words of a printed directive are a statement
placed-directive : (name : List ℕ) (words : List (List ℕ)) (block : Bool) (line : ℕ) (rest : List ℕ) → length name ≤ 4096 → WordsFit words
    → Placed (name ∷ words) block (statements (tokens 0 line (print_word name (print_words words (mark_of block ∷ 10 ∷ rest))))) (10 ∷ rest)
unfolding stated
placed-directive name words block line rest h w =
    let first : (f : ℕ) × (more : List ℕ) × (print_words words (mark_of block ∷ 10 ∷ rest) ≡ f ∷ more) × (may_follow f ≡ true) = words-first words block (10 ∷ rest) in
    let next : ℕ = lines_behind line (escaped_text name ++ 34 ∷ []) in
    let more : Placed words block (statements (tokens 0 next (print_words words (mark_of block ∷ 10 ∷ rest)))) (10 ∷ rest) = placed-words words block next (10 ∷ rest) w in
    record {
      head = line;
      at = more.at;
      behind = more.behind;
      same = ap statements (tokens-printed name line (print_words words (mark_of block ∷ 10 ∷ rest)) first.0 first.1 h first.2 first.3)
          ∙ statements-printed_word line name (tokens 0 next (print_words words (mark_of block ∷ 10 ∷ rest)))
          ∙ ap (led line name []) more.same
          ∙ led-stated line name more.head words (sign_by block) more.at (statements (tokens 0 more.behind (10 ∷ rest)));
    }

-- the ends of blocks

tokens-end_mark : (line : ℕ) (bs : List ℕ) → tokens 0 line (125 ∷ 10 ∷ bs) ≡ token.Mark line Close ∷ tokens 0 (line + 1) bs
unfolding tokens
tokens-end_mark line bs = refl

directives-end : (file depth line : ℕ) (ss : List Statement) → directives file (suc depth) (Bare Close line ∷ ss) ≡ directives file depth ss
unfolding directives
directives-end file depth line ss = refl

directives-ends : (file n depth line : ℕ) (rest : List ℕ) → directives file (n + depth) (statements (tokens 0 line (print_ends n rest))) ≡ directives file depth (statements (tokens 0 (line + n) rest))
unfolding print_ends
directives-ends file zero depth line rest = ap (λ d. directives file d (statements (tokens 0 line rest))) (omega arith) ∙ ap (λ l. directives file depth (statements (tokens 0 l rest))) (omega arith)
directives-ends file (suc n) depth line rest =
    let more : suc n + depth ≡ suc (n + depth) = omega arith in
    ap (λ d. directives file d (statements (tokens 0 line (125 ∷ 10 ∷ print_ends n rest)))) more
    ∙ ap (λ ts. directives file (suc (n + depth)) (statements ts)) (tokens-end_mark line (print_ends n rest))
    ∙ ap (directives file (suc (n + depth))) (statements-printed_mark line Close (tokens 0 (line + 1) (print_ends n rest)))
    ∙ directives-end file (n + depth) line (statements (tokens 0 (line + 1) (print_ends n rest)))
    ∙ directives-ends file n depth (line + 1) rest
    ∙ ap (λ l. directives file depth (statements (tokens 0 l rest))) (omega arith)

directives-nothing : (file line : ℕ) → directives file 0 (statements (tokens 0 line [])) ≡ Ok []
unfolding directives statements tokens
directives-nothing file line = refl

-- the same apart from places
record Same (read : Result (List Directive) ConfFault) (ds : List Directive) : Type 0 where
  found : List Directive
  is_read : read ≡ Ok found
  plain_same : map without_place found ≡ map without_place ds

same-first : (file line : ℕ) (d : Directive) (r : Result (List Directive) ConfFault) (more : List Directive) (block : Bool) → block ≡ d.block → Same r more
    → Same (with_first (record { name = d.name; args = d.args; file = file; line = line; depth = d.depth; block = block }) r) (d ∷ more)
same-first file line d r more block e s = record {
  found = record { name = d.name; args = d.args; file = file; line = line; depth = d.depth; block = block } ∷ s.found;
  is_read = ap (with_first (record { name = d.name; args = d.args; file = file; line = line; depth = d.depth; block = block })) s.is_read;
  plain_same = ap (λ b. record { name = d.name; args = d.args; file = 0; line = 0; depth = d.depth; block = b } ∷ map without_place s.found) e ∙ ap (λ z. without_place d ∷ z) s.plain_same;
}

led-by : (file depth line : ℕ) (name : List ℕ) (args : List (List ℕ)) (block : Bool) (at : ℕ) (ss : List Statement) → (if block then depth + 1 else depth) ≤ 32
    → directives file depth (Led line name args (sign_by block) at ∷ ss)
    ≡ with_first (record { name = name; args = args; file = file; line = line; depth = depth; block = block }) (directives file (if block then depth + 1 else depth) ss)
unfolding sign_by
led-by file depth line name args true at ss h = led-open file depth line name args at (Led line name args Open at ∷ ss) ss (omega arith) refl
led-by file depth line name args false at ss h = led-semicolon file depth line name args at (Led line name args Semicolon at ∷ ss) ss refl

-- a statement of a printed directive, in front of what is read after it
same-led : (file : ℕ) (d : Directive) (line at : ℕ) (ss : List Statement) (more : List Directive) → depth_behind d ≤ 32 → Same (directives file (depth_behind d) ss) more
    → Same (directives file d.depth (Led line d.name d.args (sign_by d.block) at ∷ ss)) (d ∷ more)
same-led file d line at ss more h s =
    subst (λ r. Same r (d ∷ more)) (sym (led-by file d.depth line d.name d.args d.block at ss h)) (same-first file line d (directives file (depth_behind d) ss) more d.block refl s)

stated-words : (line : ℕ) (name : List ℕ) (words : List (List ℕ)) (sign : Sign) (at : ℕ) → stated line (name ∷ words) sign at ≡ Led line name words sign at
unfolding stated
stated-words line name words sign at = refl

same-print : (file depth line : ℕ) (ds : List Directive) → IsNested depth ds → AllFit ds → Same (directives file depth (statements (tokens 0 line (print depth ds)))) ds
unfolding print
same-print file depth line [] n f =
    let all : depth + 0 ≡ depth = omega arith in
    record {
      found = [];
      is_read = ap (λ k. directives file k (statements (tokens 0 line (print_ends depth [])))) (sym all) ∙ directives-ends file depth 0 line [] ∙ directives-nothing file (line + depth);
      plain_same = refl;
    }
same-print file depth line (d ∷ more) n f =
    let before : ℕ = depth - d.depth in
    let behind : List ℕ = print (depth_behind d) more in
    let text : List ℕ = print_word d.name (print_words d.args (mark_of d.block ∷ 10 ∷ behind)) in
    let within : d.depth ≤ depth = n.0 in
    let all : before + d.depth ≡ depth = omega arith in
    let placed : Placed (d.name ∷ d.args) d.block (statements (tokens 0 (line + before) text)) (10 ∷ behind) = placed-directive d.name d.args d.block (line + before) behind f.0 f.1 in
    let rest : Same (directives file (depth_behind d) (statements (tokens 0 (placed.behind + 1) behind))) more = same-print file (depth_behind d) (placed.behind + 1) more n.2 f.2 in
    let first : Same (directives file d.depth (Led placed.head d.name d.args (sign_by d.block) placed.at ∷ statements (tokens 0 (placed.behind + 1) behind))) (d ∷ more)
    = same-led file d placed.head placed.at (statements (tokens 0 (placed.behind + 1) behind)) more n.1 rest in
    let same : directives file depth (statements (tokens 0 line (print_ends before text))) ≡ directives file d.depth (Led placed.head d.name d.args (sign_by d.block) placed.at ∷ statements (tokens 0 (placed.behind + 1) behind))
    = ap (λ k. directives file k (statements (tokens 0 line (print_ends before text)))) (sym all)
    ∙ directives-ends file before d.depth line text
    ∙ ap (directives file d.depth) (placed.same
    ∙ ap (λ s. s ∷ statements (tokens 0 placed.behind (10 ∷ behind))) (stated-words placed.head d.name d.args (sign_by d.block) placed.at)
    ∙ ap (λ ts. Led placed.head d.name d.args (sign_by d.block) placed.at ∷ statements ts) (tokens-feed placed.behind behind)) in
    subst (λ r. Same r (d ∷ more)) (sym same) first

pub printed-is_read : PrintedIsRead
unfolding reading
printed-is_read file ds n f =
    let s : Same (directives file 0 (statements (tokens 0 1 (print 0 ds)))) ds = same-print file 0 1 ds n f in
    (s.found, s.is_read, s.plain_same)

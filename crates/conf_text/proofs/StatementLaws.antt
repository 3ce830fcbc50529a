-- Statements under way.
use Rattle.std.proofs.Common.{◌≡◌, ℕ, ◌+◌, ◌<◌, ◌≤◌, List, [], ◌∷◌, ◌++◌, length, refl, sym, ap, ◌∙◌, arith, append_assoc, subst}
use Rattle.conf_text.specs.declared.token.Token.{Token}
use Rattle.conf_text.specs.declared.token.Token.TheVariants as token
use Rattle.conf_text.specs.declared.token.Sign.{Sign}
use Rattle.conf_text.specs.declared.token.Sign.TheVariants.{Semicolon, Open, Close, End, Wrong}
use Rattle.conf_text.specs.declared.statement.Statement.{Statement}
use Rattle.conf_text.specs.declared.statement.Statement.TheVariants.{Bare, Led}
use Rattle.conf_text.specs.Tokens.{tokens}
use Rattle.conf_text.specs.Places.{BySign, Nearer, ReadsToken}
use Rattle.conf_text.specs.Statements.{led, statements, sign_of, ReadsStatement}

pub by_sign : (s : Sign) {P Q R S : Type 0} → (P → R) → (Q → S) → BySign s P Q → BySign s R S
by_sign Semicolon f g h = f h
by_sign Open f g h = f h
by_sign Close f g h = f h
by_sign End f g h = g h
by_sign (Wrong kind) f g h = g h

pub nearer-trans : (line : ℕ) (rest : List ℕ) (line' : ℕ) (rest' : List ℕ) (line'' : ℕ) (rest'' : List ℕ) → Nearer line rest line' rest' → Nearer line' rest' line'' rest'' → Nearer line rest line'' rest''
nearer-trans line rest line' rest' line'' rest'' p q =
    let a : length rest' < length rest = p.shorter in
    let b : length rest'' < length rest' = q.shorter in
    let c : line' + length rest' ≤ line + length rest = p.lines in
    let d : line'' + length rest'' ≤ line' + length rest' = q.lines in
    record { shorter = omega arith; lines = omega arith }

led-led : (line : ℕ) (name : List ℕ) (args : List (List ℕ)) (at : ℕ) (text : List ℕ) (ss : List Statement) → led line name args (led at text [] ss) ≡ led line name (args ++ text ∷ []) ss
unfolding led
led-led line name args at text [] = refl
led-led line name args at text (Bare sign place ∷ more) = refl
led-led line name args at text (Led other next last sign place ∷ more) = ap (λ z. Led line name z sign place ∷ more) (sym (append_assoc args (text ∷ []) (next ∷ last)))

statements-word : (at : ℕ) (text : List ℕ) (ts : List Token) → statements (token.Word at text ∷ ts) ≡ led at text [] (statements ts)
unfolding statements
statements-word at text ts = refl

statements-mark : (at : ℕ) (sign : Sign) (ts : List Token) → statements (token.Mark at sign ∷ ts) ≡ Bare sign at ∷ statements ts
unfolding statements
statements-mark at sign ts = refl

statements-last : (at : ℕ) (sign : Sign) → statements (token.Mark at sign ∷ []) ≡ Bare sign at ∷ []
unfolding statements
statements-last at sign = refl

led-bare : (line : ℕ) (name : List ℕ) (args : List (List ℕ)) (sign : Sign) (at : ℕ) (more : List Statement) → led line name args (Bare sign at ∷ more) ≡ Led line name args sign at ∷ more
unfolding led
led-bare line name args sign at more = refl

-- a first word and some more were read, up to the second place
pub record Gathered (head : ℕ) (name : List ℕ) (args : List (List ℕ)) (line : ℕ) (rest : List ℕ) (line' : ℕ) (rest' : List ℕ) : Type 0 where
  pub same : led head name [] (statements (tokens 0 line rest)) ≡ led head name args (statements (tokens 0 line' rest'))
  pub within : length rest' ≤ length rest
  pub lines : line' + length rest' ≤ line + length rest

pub gathered-none : (head : ℕ) (name : List ℕ) (line : ℕ) (rest : List ℕ) → Gathered head name [] line rest line rest
gathered-none head name line rest = record { same = refl; within = omega arith; lines = omega arith }

pub gathered-word : (head : ℕ) (name : List ℕ) (args args' : List (List ℕ)) (line : ℕ) (rest : List ℕ) (line' : ℕ) (rest' : List ℕ) (at : ℕ) (text : List ℕ) (line'' : ℕ) (rest'' : List ℕ)
    → Gathered head name args line rest line' rest' → args' ≡ args ++ text ∷ [] → ReadsToken (token.Word at text) line' rest' line'' rest'' → Gathered head name args' line rest line'' rest''
gathered-word head name args args' line rest line' rest' at text line'' rest'' g e r =
    let a : length rest' ≤ length rest = g.within in
    let c : line' + length rest' ≤ line + length rest = g.lines in
    let n : length rest'' < length rest' = r.1.shorter in
    let l : line'' + length rest'' ≤ line' + length rest' = r.1.lines in
    record {
      same = g.same ∙ ap (λ ts. led head name args (statements ts)) r.0 ∙ ap (led head name args) (statements-word at text (tokens 0 line'' rest''))
          ∙ led-led head name args at text (statements (tokens 0 line'' rest'')) ∙ ap (λ z. led head name z (statements (tokens 0 line'' rest''))) (sym e);
      within = omega arith;
      lines = omega arith;
    }

pub gathered-mark : (head : ℕ) (name : List ℕ) (args : List (List ℕ)) (line : ℕ) (rest : List ℕ) (line' : ℕ) (rest' : List ℕ) (at : ℕ) (sign : Sign) (line'' : ℕ) (rest'' : List ℕ)
    → Gathered head name args line rest line' rest' → ReadsToken (token.Mark at sign) line' rest' line'' rest''
    → ReadsStatement (Led head name args sign at) (led head name [] (statements (tokens 0 line rest))) line rest line'' rest''
gathered-mark head name args line rest line' rest' at sign line'' rest'' g r =
    let a : length rest' ≤ length rest = g.within in
    let c : line' + length rest' ≤ line + length rest = g.lines in
    by_sign sign
    (λ (p : (tokens 0 line' rest' ≡ token.Mark at sign ∷ tokens 0 line'' rest'') × Nearer line' rest' line'' rest'').
    let n : length rest'' < length rest' = p.1.shorter in
    let l : line'' + length rest'' ≤ line' + length rest' = p.1.lines in
    let near : Nearer line rest line'' rest'' = record { shorter = omega arith; lines = omega arith } in
    (g.same ∙ ap (λ ts. led head name args (statements ts)) p.0 ∙ ap (led head name args) (statements-mark at sign (tokens 0 line'' rest'')) ∙ led-bare head name args sign at _, near))
    (λ (p : tokens 0 line' rest' ≡ token.Mark at sign ∷ []).
    g.same ∙ ap (λ ts. led head name args (statements ts)) p ∙ ap (led head name args) (statements-last at sign) ∙ led-bare head name args sign at [])
    r

pub statement-bare : (line : ℕ) (rest : List ℕ) (at : ℕ) (sign : Sign) (line' : ℕ) (rest' : List ℕ)
    → ReadsToken (token.Mark at sign) line rest line' rest' → ReadsStatement (Bare sign at) (statements (tokens 0 line rest)) line rest line' rest'
statement-bare line rest at sign line' rest' r =
    by_sign sign
    (λ (p : (tokens 0 line rest ≡ token.Mark at sign ∷ tokens 0 line' rest') × Nearer line rest line' rest'). (ap statements p.0 ∙ statements-mark at sign (tokens 0 line' rest'), p.1))
    (λ (p : tokens 0 line rest ≡ token.Mark at sign ∷ []). ap statements p ∙ statements-last at sign)
    r

pub statement-led : (line : ℕ) (rest : List ℕ) (at : ℕ) (text : List ℕ) (line' : ℕ) (rest' : List ℕ) (s : Statement) (line'' : ℕ) (rest'' : List ℕ)
    → ReadsToken (token.Word at text) line rest line' rest' → ReadsStatement s (led at text [] (statements (tokens 0 line' rest'))) line' rest' line'' rest''
    → ReadsStatement s (statements (tokens 0 line rest)) line rest line'' rest''
statement-led line rest at text line' rest' s line'' rest'' t r =
    let all : statements (tokens 0 line rest) ≡ led at text [] (statements (tokens 0 line' rest')) = ap statements t.0 ∙ statements-word at text (tokens 0 line' rest') in
    by_sign (sign_of s)
    (λ (p : (led at text [] (statements (tokens 0 line' rest')) ≡ s ∷ statements (tokens 0 line'' rest'')) × Nearer line' rest' line'' rest''). (all ∙ p.0, nearer-trans line rest line' rest' line'' rest'' t.1 p.1))
    (λ (p : led at text [] (statements (tokens 0 line' rest')) ≡ s ∷ []). all ∙ p)
    r

-- the same for a first word that is kept under another name
pub gathered-mark_kept : (head : ℕ) (name kept : List ℕ) (args : List (List ℕ)) (line : ℕ) (rest : List ℕ) (line' : ℕ) (rest' : List ℕ) (at : ℕ) (sign : Sign) (line'' : ℕ) (rest'' : List ℕ) (t : Token)
    → kept ≡ name → Gathered head name args line rest line' rest' → t ≡ token.Mark at sign → ReadsToken t line' rest' line'' rest''
    → ReadsStatement (Led head kept args sign at) (led head name [] (statements (tokens 0 line rest))) line rest line'' rest''
gathered-mark_kept head name kept args line rest line' rest' at sign line'' rest'' t k g e r =
    subst (λ z. ReadsStatement (Led head z args sign at) (led head name [] (statements (tokens 0 line rest))) line rest line'' rest'') (sym k)
    (gathered-mark head name args line rest line' rest' at sign line'' rest'' g (subst (λ z. ReadsToken z line' rest' line'' rest'') e r))

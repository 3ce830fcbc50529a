-- What each statement does, and the directives read so far.
use Rattle.std.proofs.Common.{◌≡◌, ℕ, zero, suc, ◌+◌, ◌-◌, ◌<◌, ◌≤◌, nat_lt, true, false, List, [], ◌∷◌, ◌++◌, Result, Ok, Err, length, refl, sym, ap, ◌∙◌, arith, subst, append-nil, append_assoc, if◌then◌else◌}
use Rattle.std.proofs.lemmas.Bool.{lt-ltb, le-ltb, ltb-true}
use Rattle.conf_text.specs.declared.fault.FaultKind.{FaultKind}
use Rattle.conf_text.specs.declared.fault.FaultKind.TheVariants.{UnexpectedEnd, UnexpectedBrace, UnexpectedSemicolon, TooNested}
use Rattle.conf_text.specs.declared.fault.ConfFault.{ConfFault}
use Rattle.conf_text.specs.declared.token.Sign.{Sign}
use Rattle.conf_text.specs.declared.token.Sign.TheVariants.{Semicolon, Open, Close, End, Wrong}
use Rattle.conf_text.specs.declared.statement.Statement.{Statement}
use Rattle.conf_text.specs.declared.statement.Statement.TheVariants.{Bare, Led}
use Rattle.conf_text.specs.declared.directive.Directive.{Directive}
use Rattle.conf_text.specs.Tokens.{tokens}
use Rattle.conf_text.specs.Places.{Nearer}
use Rattle.conf_text.specs.Statements.{statements, ReadsStatement}
use Rattle.conf_text.specs.Reading.{directives, reading, with_first, fault_at, depth_behind, IsNested}

-- what a statement with this sign is, where it is read as `s`
pub reads-bare : (s : Statement) (sign sign' : Sign) (at : ℕ) (all : List Statement) (line : ℕ) (rest : List ℕ) (line' : ℕ) (rest' : List ℕ)
    → s ≡ Bare sign at → sign ≡ sign' → ReadsStatement s all line rest line' rest' → ReadsStatement (Bare sign' at) all line rest line' rest'
reads-bare s sign sign' at all line rest line' rest' e f r =
    subst (λ z. ReadsStatement z all line rest line' rest') (e ∙ ap (λ z. Bare z at) f) r

pub reads-led : (s : Statement) (head : ℕ) (name : List ℕ) (args : List (List ℕ)) (sign sign' : Sign) (at : ℕ) (all : List Statement) (line : ℕ) (rest : List ℕ) (line' : ℕ) (rest' : List ℕ)
    → s ≡ Led head name args sign at → sign ≡ sign' → ReadsStatement s all line rest line' rest' → ReadsStatement (Led head name args sign' at) all line rest line' rest'
reads-led s head name args sign sign' at all line rest line' rest' e f r =
    subst (λ z. ReadsStatement z all line rest line' rest') (e ∙ ap (λ z. Led head name args z at) f) r

pub bare-semicolon : (file depth at : ℕ) (all more : List Statement) → all ≡ Bare Semicolon at ∷ more → directives file depth all ≡ Err (fault_at file at UnexpectedSemicolon)
unfolding directives
bare-semicolon file depth at all more e = ap (directives file depth) e

pub bare-open : (file depth at : ℕ) (all more : List Statement) → all ≡ Bare Open at ∷ more → directives file depth all ≡ Err (fault_at file at UnexpectedBrace)
unfolding directives
bare-open file depth at all more e = ap (directives file depth) e

pub bare-close_top : (file depth at : ℕ) (all more : List Statement) → depth ≡ 0 → all ≡ Bare Close at ∷ more → directives file depth all ≡ Err (fault_at file at UnexpectedBrace)
unfolding directives
bare-close_top file depth at all more d e = ap (λ n. directives file n all) d ∙ ap (directives file 0) e

pub bare-close : (file depth at : ℕ) (all more : List Statement) → (depth ≡ 0 → ⊥) → all ≡ Bare Close at ∷ more → directives file depth all ≡ directives file (depth - 1) more
unfolding directives
bare-close file zero at all more d e = absurd (d refl)
bare-close file (suc depth) at all more d e = ap (directives file (suc depth)) e ∙ ap (λ n. directives file n more) (omega arith)

pub bare-end_top : (file depth at : ℕ) (all more : List Statement) → depth ≡ 0 → all ≡ Bare End at ∷ more → directives file depth all ≡ Ok []
unfolding directives
bare-end_top file depth at all more d e = ap (λ n. directives file n all) d ∙ ap (directives file 0) e

pub bare-end : (file depth at : ℕ) (all more : List Statement) → (depth ≡ 0 → ⊥) → all ≡ Bare End at ∷ more → directives file depth all ≡ Err (fault_at file at UnexpectedEnd)
unfolding directives
bare-end file zero at all more d e = absurd (d refl)
bare-end file (suc depth) at all more d e = ap (directives file (suc depth)) e

pub bare-wrong : (file depth at : ℕ) (kind : FaultKind) (all more : List Statement) → all ≡ Bare (Wrong kind) at ∷ more → directives file depth all ≡ Err (fault_at file at kind)
unfolding directives
bare-wrong file zero at kind all more e = ap (directives file 0) e
bare-wrong file (suc depth) at kind all more e = ap (directives file (suc depth)) e

pub led-semicolon : (file depth line : ℕ) (name : List ℕ) (args : List (List ℕ)) (at : ℕ) (all more : List Statement) → all ≡ Led line name args Semicolon at ∷ more
    → directives file depth all ≡ with_first (record { name = name; args = args; file = file; line = line; depth = depth; block = false }) (directives file depth more)
unfolding directives
led-semicolon file depth line name args at all more e = ap (directives file depth) e

pub led-open : (file depth line : ℕ) (name : List ℕ) (args : List (List ℕ)) (at : ℕ) (all more : List Statement) → depth < 32 → all ≡ Led line name args Open at ∷ more
    → directives file depth all ≡ with_first (record { name = name; args = args; file = file; line = line; depth = depth; block = true }) (directives file (depth + 1) more)
unfolding directives
led-open file depth line name args at all more d e =
    ap (directives file depth) e
    ∙ ap (λ t. if t then with_first (record { name = name; args = args; file = file; line = line; depth = depth; block = true }) (directives file (depth + 1) more) else Err (fault_at file at TooNested)) (lt-ltb depth 32 d)

pub led-open_deep : (file depth line : ℕ) (name : List ℕ) (args : List (List ℕ)) (at : ℕ) (all more : List Statement) → 32 ≤ depth → all ≡ Led line name args Open at ∷ more
    → directives file depth all ≡ Err (fault_at file at TooNested)
unfolding directives
led-open_deep file depth line name args at all more d e =
    ap (directives file depth) e
    ∙ ap (λ t. if t then with_first (record { name = name; args = args; file = file; line = line; depth = depth; block = true }) (directives file (depth + 1) more) else Err (fault_at file at TooNested)) (le-ltb depth 32 d)

pub led-close : (file depth line : ℕ) (name : List ℕ) (args : List (List ℕ)) (at : ℕ) (all more : List Statement) → all ≡ Led line name args Close at ∷ more → directives file depth all ≡ Err (fault_at file at UnexpectedBrace)
unfolding directives
led-close file depth line name args at all more e = ap (directives file depth) e

pub led-end : (file depth line : ℕ) (name : List ℕ) (args : List (List ℕ)) (at : ℕ) (all more : List Statement) → all ≡ Led line name args End at ∷ more → directives file depth all ≡ Err (fault_at file at UnexpectedEnd)
unfolding directives
led-end file depth line name args at all more e = ap (directives file depth) e

pub led-wrong : (file depth line : ℕ) (name : List ℕ) (args : List (List ℕ)) (at : ℕ) (kind : FaultKind) (all more : List Statement) → all ≡ Led line name args (Wrong kind) at ∷ more → directives file depth all ≡ Err (fault_at file at kind)
unfolding directives
led-wrong file depth line name args at kind all more e = ap (directives file depth) e

-- directives in front of those after them
abbrev pub with_all : List Directive → Result (List Directive) ConfFault → Result (List Directive) ConfFault
with_all ds (Ok more) = Ok (ds ++ more)
with_all ds (Err fault) = Err fault

with_all-with_first : (ds : List Directive) (d : Directive) (r : Result (List Directive) ConfFault) → with_all ds (with_first d r) ≡ with_all (ds ++ d ∷ []) r
with_all-with_first ds d (Ok more) = ap Ok (sym (append_assoc ds (d ∷ []) more))
with_all-with_first ds d (Err fault) = refl

-- these directives were read, up to this place within this many blocks
pub record Parsed (file : ℕ) (text : List ℕ) (ds : List Directive) (depth line : ℕ) (rest : List ℕ) : Type 0 where
  pub same : reading file text ≡ with_all ds (directives file depth (statements (tokens 0 line rest)))
  pub deep : depth ≤ 32
  pub lines : line + length rest ≤ 1 + length text

pub parsed-none : (file : ℕ) (text : List ℕ) → Parsed file text [] 0 1 text
unfolding reading
parsed-none file text = record { same = all_of (directives file 0 (statements (tokens 0 1 text))); deep = omega arith; lines = omega arith } where
  all_of : (r : Result (List Directive) ConfFault) → r ≡ with_all [] r
  all_of (Ok more) = refl
  all_of (Err fault) = refl

pub parsed-keep : (file : ℕ) (text : List ℕ) (ds ds' : List Directive) (d : Directive) (depth depth' line : ℕ) (rest : List ℕ) (line' : ℕ) (rest' : List ℕ)
    → Parsed file text ds depth line rest
    → directives file depth (statements (tokens 0 line rest)) ≡ with_first d (directives file depth' (statements (tokens 0 line' rest')))
    → Nearer line rest line' rest' → depth' ≤ 32 → ds' ≡ ds ++ d ∷ [] → Parsed file text ds' depth' line' rest'
parsed-keep file text ds ds' d depth depth' line rest line' rest' p e n l f =
    let a : line + length rest ≤ 1 + length text = p.lines in
    let b : line' + length rest' ≤ line + length rest = n.lines in
    record {
      same = p.same ∙ ap (with_all ds) e ∙ with_all-with_first ds d _ ∙ ap (λ z. with_all z (directives file depth' (statements (tokens 0 line' rest')))) (sym f);
      deep = l;
      lines = omega arith;
    }

pub parsed-leave : (file : ℕ) (text : List ℕ) (ds : List Directive) (depth line : ℕ) (rest : List ℕ) (line' : ℕ) (rest' : List ℕ)
    → Parsed file text ds depth line rest
    → directives file depth (statements (tokens 0 line rest)) ≡ directives file (depth - 1) (statements (tokens 0 line' rest'))
    → Nearer line rest line' rest' → Parsed file text ds (depth - 1) line' rest'
parsed-leave file text ds depth line rest line' rest' p e n =
    let a : line + length rest ≤ 1 + length text = p.lines in
    let b : line' + length rest' ≤ line + length rest = n.lines in
    let c : depth ≤ 32 = p.deep in
    record { same = p.same ∙ ap (with_all ds) e; deep = omega arith; lines = omega arith }

pub parsed-done : (file : ℕ) (text : List ℕ) (ds : List Directive) (depth line : ℕ) (rest : List ℕ)
    → Parsed file text ds depth line rest → directives file depth (statements (tokens 0 line rest)) ≡ Ok [] → reading file text ≡ Ok ds
parsed-done file text ds depth line rest p e = p.same ∙ ap (with_all ds) e ∙ ap Ok (append-nil ds)

pub parsed-stop : (file : ℕ) (text : List ℕ) (ds : List Directive) (depth line : ℕ) (rest : List ℕ) (fault : ConfFault)
    → Parsed file text ds depth line rest → directives file depth (statements (tokens 0 line rest)) ≡ Err fault → reading file text ≡ Err fault
parsed-stop file text ds depth line rest fault p e = p.same ∙ ap (with_all ds) e

-- the depths of directives that were read are those of blocks

nested-within : (n m : ℕ) (ds : List Directive) → n ≤ m → IsNested n ds → IsNested m ds
nested-within n m [] l h = h
nested-within n m (d ∷ ds) l h = let a : d.depth ≤ n = h.0 in (omega arith, h.1, h.2)

with_first-ok : (d : Directive) (r : Result (List Directive) ConfFault) (ds : List Directive) → with_first d r ≡ Ok ds → (more : List Directive) × (r ≡ Ok more) × (ds ≡ d ∷ more)
with_first-ok d (Ok more) ds e = (more, refl, cc)
with_first-ok d (Err fault) ds e = cc

nested-first : (n : ℕ) (d : Directive) (r : Result (List Directive) ConfFault) (ds : List Directive)
    → ((more : List Directive) → r ≡ Ok more → IsNested (depth_behind d) more) → d.depth ≤ n → depth_behind d ≤ 32 → with_first d r ≡ Ok ds → IsNested n ds
nested-first n d r ds f a b e =
    let w : (more : List Directive) × (r ≡ Ok more) × (ds ≡ d ∷ more) = with_first-ok d r ds e in
    subst (IsNested n) (sym w.2) (a, b, f w.0 w.1)

pub nested-directives : (file depth : ℕ) (ss : List Statement) (ds : List Directive) → depth ≤ 32 → directives file depth ss ≡ Ok ds → IsNested depth ds
unfolding directives
nested-directives file depth [] ds l e = subst (IsNested depth) (let h : [] ≡ ds = cc in h) tt
nested-directives file depth (Led line name args Semicolon at ∷ more) ds l e =
    nested-first depth _ (directives file depth more) ds (λ rest h. nested-directives file depth more rest l h) (omega arith) l e
nested-directives file depth (Led line name args Open at ∷ more) ds l e =
    elim (nat_lt depth 32) as (λ t. nat_lt depth 32 ≡ t → (if t then with_first (record { name = name; args = args; file = file; line = line; depth = depth; block = true }) (directives file (depth + 1) more) else Err (fault_at file at TooNested)) ≡ Ok ds → IsNested depth ds) [
      | true ↦ λ t h. let near : depth < 32 = ltb-true depth 32 t in
          nested-first depth (record { name = name; args = args; file = file; line = line; depth = depth; block = true }) (directives file (depth + 1) more) ds
          (λ rest h. nested-directives file (depth + 1) more rest (omega arith) h) (omega arith) (omega arith) h
      | false ↦ λ t h. cc
    ] refl e
nested-directives file depth (Led line name args Close at ∷ more) ds l e = cc
nested-directives file depth (Led line name args End at ∷ more) ds l e = cc
nested-directives file depth (Led line name args (Wrong kind) at ∷ more) ds l e = cc
nested-directives file depth (Bare Semicolon at ∷ more) ds l e = cc
nested-directives file depth (Bare Open at ∷ more) ds l e = cc
nested-directives file zero (Bare Close at ∷ more) ds l e = cc
nested-directives file (suc depth) (Bare Close at ∷ more) ds l e = nested-within depth (suc depth) ds (omega arith) (nested-directives file depth more ds (omega arith) e)
nested-directives file zero (Bare End at ∷ more) ds l e = subst (IsNested 0) (let h : [] ≡ ds = cc in h) tt
nested-directives file (suc depth) (Bare End at ∷ more) ds l e = cc
nested-directives file zero (Bare (Wrong kind) at ∷ more) ds l e = cc
nested-directives file (suc depth) (Bare (Wrong kind) at ∷ more) ds l e = cc

pub nested-reading : (file : ℕ) (text : List ℕ) (ds : List Directive) → reading file text ≡ Ok ds → IsNested 0 ds
unfolding reading
nested-reading file text ds e = nested-directives file 0 (statements (tokens 0 1 text)) ds (omega arith) e

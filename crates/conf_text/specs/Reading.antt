-- A text of configuration as its directives.
use Rattle.std.specs.Prelude.{ℕ, zero, suc, ◌+◌, ◌≤◌, nat_lt, ⊤, true, false, List, [], ◌∷◌, None, Result, Ok, Err, if◌then◌else◌}
use Rattle.conf_text.specs.declared.fault.FaultKind.{FaultKind}
use Rattle.conf_text.specs.declared.fault.FaultKind.TheVariants.{UnexpectedEnd, UnexpectedBrace, UnexpectedSemicolon, TooNested}
use Rattle.conf_text.specs.declared.fault.ConfFault.{ConfFault}
use Rattle.conf_text.specs.declared.fault.ConfError.{ConfError}
use Rattle.conf_text.specs.declared.fault.ConfError.TheVariants as error
use Rattle.conf_text.specs.declared.token.Sign.TheVariants.{Semicolon, Open, Close, End, Wrong}
use Rattle.conf_text.specs.declared.statement.Statement.{Statement}
use Rattle.conf_text.specs.declared.statement.Statement.TheVariants.{Bare, Led}
use Rattle.conf_text.specs.declared.directive.Directive.{Directive}
use Rattle.conf_text.specs.Tokens.{tokens}
use Rattle.conf_text.specs.Statements.{statements}

-- a fault of the text itself, which is about no word
abbrev pub fault_at : (file line : ℕ) → FaultKind → ConfFault
fault_at file line kind = record { kind = kind; file = file; line = line; word = None }

-- a directive in front of those that come after it
abbrev pub with_first : Directive → Result (List Directive) ConfFault → Result (List Directive) ConfFault
with_first d (Ok more) = Ok (d ∷ more)
with_first d (Err fault) = Err fault

-- The directives of statements within `depth` blocks, or the first fault. Words and `;` are a directive; words and `{`
-- are one whose block holds what comes up to its `}`. Blocks nest at most 32 deep.
unfoldable pub directives : (file depth : ℕ) → List Statement → Result (List Directive) ConfFault
directives file depth [] = Ok []
directives file depth (Led line name args Semicolon at ∷ more) =
    with_first (record { name = name; args = args; file = file; line = line; depth = depth; block = false }) (directives file depth more)
directives file depth (Led line name args Open at ∷ more) =
    if nat_lt depth 32
    then with_first (record { name = name; args = args; file = file; line = line; depth = depth; block = true }) (directives file (depth + 1) more)
    else Err (fault_at file at TooNested)
directives file depth (Led line name args Close at ∷ more) = Err (fault_at file at UnexpectedBrace)
directives file depth (Led line name args End at ∷ more) = Err (fault_at file at UnexpectedEnd)
directives file depth (Led line name args (Wrong kind) at ∷ more) = Err (fault_at file at kind)
directives file depth (Bare Semicolon at ∷ more) = Err (fault_at file at UnexpectedSemicolon)
directives file depth (Bare Open at ∷ more) = Err (fault_at file at UnexpectedBrace)
directives file zero (Bare Close at ∷ more) = Err (fault_at file at UnexpectedBrace)
directives file (suc depth) (Bare Close at ∷ more) = directives file depth more
directives file zero (Bare End at ∷ more) = Ok []
directives file (suc depth) (Bare End at ∷ more) = Err (fault_at file at UnexpectedEnd)
directives file depth (Bare (Wrong kind) at ∷ more) = Err (fault_at file at kind)

-- what a text is read as: its directives, or its first fault
unfoldable pub reading : (file : ℕ) → List ℕ → Result (List Directive) ConfFault
reading file text = directives file 0 (statements (tokens 0 1 text))

-- the fact for a fault, and none for want of memory
abbrev pub OnFault : ConfError → (ConfFault → Type 0) → Type 0
OnFault (error.Fault fault) P = P fault
OnFault error.OutOfMemory P = ⊤

-- how many blocks enclose what comes right after a directive, or right after the `{` that it ends with
abbrev pub depth_behind : Directive → ℕ
depth_behind d = if d.block then d.depth + 1 else d.depth

-- directives whose depths are those of blocks, the first at most this deep: each is in the block before it, beside it,
-- or further out
abbrev pub IsNested : ℕ → List Directive → Type 0
IsNested depth [] = ⊤
IsNested depth (d ∷ more) = (d.depth ≤ depth) × (depth_behind d ≤ 32) × IsNested (depth_behind d) more

-- What a statement does to the directives read so far.
use Rattle.std.specs.Prelude.{◌≡◌, ℕ, ◌+◌, ◌-◌, ◌<◌, ◌≤◌, List, [], Ok, Err, if◌then◌else◌}
use Rattle.conf_text.specs.declared.reader.Step.{Step}
use Rattle.conf_text.specs.declared.reader.Step.TheVariants.{Keep, Leave, Done, Stop}
use Rattle.conf_text.specs.declared.directive.Directive.{Directive}
use Rattle.conf_text.specs.declared.statement.Statement.{Statement}
use Rattle.conf_text.specs.Tokens.{tokens}
use Rattle.conf_text.specs.Places.{Nearer}
use Rattle.conf_text.specs.Statements.{statements}
use Rattle.conf_text.specs.Reading.{directives, with_first, fault_at}

-- how many blocks enclose what comes after a directive
abbrev pub depth_after : Directive → ℕ → ℕ
depth_after d depth = if d.block then depth + 1 else depth

-- the first of the statements makes this step, and the others come after the second place
abbrev pub Steps : Step → (file depth : ℕ) → List Statement → (line : ℕ) (rest : List ℕ) (line' : ℕ) (rest' : List ℕ) → Type 0
Steps (Keep d) file depth all line rest line' rest' =
    (directives file depth all ≡ with_first d (directives file (depth_after d depth) (statements (tokens 0 line' rest'))))
    × (Nearer line rest line' rest' × (depth_after d depth ≤ 32))
Steps Leave file depth all line rest line' rest' =
    (directives file depth all ≡ directives file (depth - 1) (statements (tokens 0 line' rest'))) × (Nearer line rest line' rest' × (0 < depth))
Steps Done file depth all line rest line' rest' = directives file depth all ≡ Ok []
Steps (Stop kind at) file depth all line rest line' rest' = directives file depth all ≡ Err (fault_at file at kind)

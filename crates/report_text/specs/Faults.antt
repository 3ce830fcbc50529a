-- What is printed of a fault.
use Rattle.std.specs.Prelude.{ℕ, List, ◌++◌, codes, decimal, Option, Some, None}
use Rattle.replay_text.specs.declared.faults.ScriptFault.{ScriptFault}
use Rattle.conf_text.specs.declared.fault.ConfFault.{ConfFault}
use Rattle.report_text.specs.Escapes.{escaped}
use Rattle.report_text.specs.Report.{spaced}
use Rattle.report_text.specs.Kinds.{script_kind_text, conf_kind_text}

-- `script 2 Word 7`
unfoldable pub script_fault_line : ScriptFault → List ℕ
script_fault_line f = codes "script" ++ spaced (script_kind_text f.kind) ++ spaced (decimal f.line)

-- the file's path and the line
unfoldable pub place_text : List ℕ → ℕ → List ℕ
place_text path line = spaced (escaped path) ++ codes ":" ++ decimal line

-- the word that the fault is about, or `-`
unfoldable pub subject_text : Option (List ℕ) → List ℕ
subject_text None = spaced (codes "-")
subject_text (Some word) = spaced (escaped word)

-- `fault 11 Unknown /c:1 serve`
unfoldable pub conf_fault_line : List ℕ → ConfFault → List ℕ
conf_fault_line path f = codes "fault" ++ spaced (conf_kind_text f.kind) ++ place_text path f.line ++ subject_text f.word

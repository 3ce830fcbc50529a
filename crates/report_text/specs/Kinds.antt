-- The kinds of faults, each by its number and its name.
use Rattle.std.specs.Prelude.{ℕ, List, codes}
use Rattle.replay_words.specs.declared.faults.FaultKind.{FaultKind}
use Rattle.replay_words.specs.declared.faults.FaultKind.TheVariants as script
use Rattle.conf_text.specs.declared.fault.FaultKind.{FaultKind as ConfKind}
use Rattle.conf_text.specs.declared.fault.FaultKind.TheVariants as conf

unfoldable pub script_kind_text : FaultKind → List ℕ
script_kind_text script.Section = codes "1 Section"
script_kind_text script.Word = codes "2 Word"
script_kind_text script.Number = codes "3 Number"
script_kind_text script.Escape = codes "4 Escape"

unfoldable pub conf_kind_text : ConfKind → List ℕ
conf_kind_text conf.UnexpectedEnd = codes "1 UnexpectedEnd"
conf_kind_text conf.UnexpectedBrace = codes "2 UnexpectedBrace"
conf_kind_text conf.UnexpectedSemicolon = codes "3 UnexpectedSemicolon"
conf_kind_text conf.TokenTooLong = codes "4 TokenTooLong"
conf_kind_text conf.BadQuote = codes "5 BadQuote"
conf_kind_text conf.NotThere = codes "6 NotThere"
conf_kind_text conf.TooDeep = codes "7 TooDeep"
conf_kind_text conf.TooMany = codes "8 TooMany"
conf_kind_text conf.TooLarge = codes "9 TooLarge"
conf_kind_text conf.ReadFault = codes "10 ReadFault"
conf_kind_text conf.Unknown = codes "11 Unknown"
conf_kind_text conf.NotHere = codes "12 NotHere"
conf_kind_text conf.Count = codes "13 Count"
conf_kind_text conf.Duplicate = codes "14 Duplicate"
conf_kind_text conf.BadValue = codes "15 BadValue"
conf_kind_text conf.Pattern = codes "16 Pattern"
conf_kind_text conf.NoServer = codes "17 NoServer"
conf_kind_text conf.BuiltinSet = codes "18 BuiltinSet"
conf_kind_text conf.TooNested = codes "19 TooNested"
conf_kind_text conf.PatternTooBig = codes "20 PatternTooBig"

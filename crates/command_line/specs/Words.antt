-- What the program's words ask for.
use Rattle.std.specs.Prelude.{ℕ, ◌-◌, ◌^◌, nat_le, Bool, true, false, ◌&&◌, ◌||◌, List, [], ◌∷◌, Option, None, Some, codes, bytes_eq, if◌then◌else◌}
use Rattle.std.specs.List.{list_all}
use Rattle.text_words.specs.Digits.{is_decimal, value_behind}
use Rattle.command_line.specs.declared.help.Topic.{Topic}
use Rattle.command_line.specs.declared.help.Topic.TheVariants as topics
use Rattle.command_line.specs.declared.words.Command.{Command}
use Rattle.command_line.specs.declared.words.Command.TheVariants as command

-- the most turns that can be asked for, and as many as are taken where none are said
unfoldable pub most_turns : ℕ
most_turns = 1000000000

unfoldable pub all_turns : ℕ
all_turns = 2 ^ 64 - 1

-- how many turns a word of decimal digits asks for: from 1 to the most
unfoldable pub turns_of : List ℕ → Option ℕ
turns_of word =
    if list_all is_decimal word && (nat_le 1 (value_behind 0 word) && nat_le (value_behind 0 word) most_turns) then Some (value_behind 0 word) else None

-- what the words ask for: what the program says of itself or of a command, its version, a configuration that is to be read, a script that is to be
-- run, or a configuration that is to be served, each of the last two if need be though the site shows in which order
-- subrequests run
pub data Request : Type 0 where
  Help : (topic : Topic) → Request
  Version : Request
  Check : (path : List ℕ) → Request
  Replay : (path : List ℕ) → (racy : Bool) → Request
  Serve : (path : List ℕ) → (turns : ℕ) → (racy : Bool) → Request

abbrev pub serve_after : List ℕ → (racy : Bool) → Option ℕ → Option Request
serve_after path racy None = None
serve_after path racy (Some turns) = Some (Serve path turns racy)

-- a command as the code gives it
abbrev pub request_of : Command → Request
request_of (command.Help topic) = Help topic
request_of command.Version = Version
request_of (command.Check conf) = Check conf.now
request_of (command.Replay script racy) = Replay script.now racy
request_of (command.Serve conf turns racy) = Serve conf.now turns racy

abbrev pub is_help : List ℕ → Bool
is_help word = bytes_eq word (codes "--help") || bytes_eq word (codes "-h")

abbrev pub is_version : List ℕ → Bool
is_version word = bytes_eq word (codes "--version") || bytes_eq word (codes "-V")

-- `--help` or `--version`
abbrev pub option_for : List ℕ → Option Request
option_for word = if is_help word then Some (Help topics.Program) else (if is_version word then Some Version else None)

-- the help of `check`, `replay` or `serve`
abbrev pub help_for : (command : List ℕ) → Option Request
help_for command =
    if bytes_eq command (codes "check") then Some (Help topics.Check)
    else (if bytes_eq command (codes "replay") then Some (Help topics.Replay)
    else (if bytes_eq command (codes "serve") then Some (Help topics.Serve) else None))

-- `check PATH`, `replay PATH` or `serve PATH`
abbrev pub command_for : (command path : List ℕ) → Option Request
command_for command path =
    if bytes_eq command (codes "check") then Some (Check path)
    else (if bytes_eq command (codes "replay") then Some (Replay path false)
    else (if bytes_eq command (codes "serve") then Some (Serve path all_turns false) else None))

-- `replay PATH --racy` or `serve PATH --racy`
abbrev pub racy_for : (command path option : List ℕ) → Option Request
racy_for command path option =
    if bytes_eq option (codes "--racy") then (if bytes_eq command (codes "replay") then Some (Replay path true)
    else (if bytes_eq command (codes "serve") then Some (Serve path all_turns true) else None)) else None

-- `serve PATH --turns N`
abbrev pub turns_for_path : (command path option turns : List ℕ) → Option Request
turns_for_path command path option turns =
    if bytes_eq command (codes "serve") && bytes_eq option (codes "--turns") then serve_after path false (turns_of turns) else None

-- `serve PATH --turns N --racy`, in either order of the options
abbrev pub both_for : (command path first second third : List ℕ) → Option Request
both_for command path first second third =
    if bytes_eq command (codes "serve") then (if bytes_eq first (codes "--turns") && bytes_eq third (codes "--racy") then serve_after path true (turns_of second)
    else (if bytes_eq first (codes "--racy") && bytes_eq second (codes "--turns") then serve_after path true (turns_of third) else None)) else None

-- a command with a path, in whose place, or after which, the help can be asked for; or a command with a path and options
abbrev pub with_options : (command path : List ℕ) → (options : List (List ℕ)) → Option Request
with_options command path [] = if is_help path then help_for command else command_for command path
with_options command path (option ∷ []) = if is_help option then help_for command else racy_for command path option
with_options command path (option ∷ turns ∷ []) = turns_for_path command path option turns
with_options command path (first ∷ second ∷ third ∷ []) = both_for command path first second third
with_options command path others = None

-- the program's name and one of these
abbrev pub request_in : List (List ℕ) → Option Request
request_in (program ∷ word ∷ []) = option_for word
request_in (program ∷ command ∷ path ∷ options) = with_options command path options
request_in words = None

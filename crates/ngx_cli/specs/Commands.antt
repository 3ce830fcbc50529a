-- What the program ends with, and when.
use Rattle.std.specs.Prelude.{◌≡◌, ◌⊎◌, ℕ, Bool, true, false, not, List, [], ◌++◌, Option, None, Some, Result, Ok, Err}
use Rattle.file_tree.specs.Tree.{text_of}
use Rattle.ngx_outside.specs.Causes.{Rose}
use Rattle.ngx_outside.specs.Seen.{FilesSeen, SinkSeen}
use Rattle.ready_loop.specs.declared.service.Ending.{Ending}
use Rattle.ready_loop.specs.declared.service.Ending.TheVariants as ending
use Rattle.replay_text.specs.declared.faults.ScriptFault.{ScriptFault}
use Rattle.conf_text.specs.declared.fault.ConfFault.{ConfFault}
use Rattle.conf_text.specs.declared.fault.FaultKind.TheVariants.{ReadFault, PatternTooBig}
use Rattle.conf_include.specs.Listings.{Names, IsNaming}
use Rattle.conf_include.specs.Asked.{IsAskedAt}
use Rattle.conf_include.specs.declared.main_file.PlacedFault.{PlacedFault}
use Rattle.conf_inherit.specs.Values.{has_items}
use Rattle.report_text.specs.Lines.{ended}
use Rattle.report_text.specs.Faults.{conf_fault_line}
use Rattle.ngx_cli.specs.declared.script.ScriptOutcome.{ScriptOutcome}
use Rattle.ngx_cli.specs.declared.script.ScriptOutcome.TheVariants as outcome
use Rattle.ngx_cli.specs.declared.site.ReadSite.{ReadSite}
use Rattle.ngx_cli.specs.declared.site.SiteError.{SiteError}
use Rattle.ngx_cli.specs.declared.site.SiteError.TheVariants as error
use Rattle.ngx_cli.specs.declared.status.Status.{Status}
use Rattle.ngx_cli.specs.declared.status.Status.TheVariants as status
use Rattle.ngx_cli.specs.Running.{Replays}
use Rattle.ngx_cli.specs.Checks.{check_text}
use Rattle.ngx_cli.specs.Sites.{Describes as IsDescribed, AreRaceless, conflicts_of, site_at, Reading}
use Rattle.site_service.specs.Serving.{Outside, Serving}
use Rattle.command_line.specs.Help.{help_text, version_text}
use Rattle.command_line.specs.Words.{Request, Help, Version, Check, Replay, Serve}

-- the status that the program ends with
abbrev pub code_of : Status → ℕ
code_of status.Done = 0
code_of status.ConfFault = 1
code_of status.Usage = 2
code_of status.Racy = 3
code_of status.FilesFault = 4
code_of status.SinkFault = 5
code_of status.LinksFault = 6
code_of status.OutOfMemory = 7
code_of status.ScriptFault = 8
code_of status.TurnsUsed = 9
code_of status.PatternFault = 10

-- the status of what a script came to, and of how serving ended
abbrev pub status_of : ScriptOutcome → Status
status_of outcome.Done = status.Done
status_of outcome.ConfFault = status.ConfFault
status_of outcome.Racy = status.Racy
status_of outcome.PatternFault = status.PatternFault
status_of (outcome.ScriptFault fault) = status.ScriptFault

abbrev pub served_status : Ending → Status
served_status ending.Ended = status.Done
served_status ending.TurnsUsed = status.TurnsUsed
served_status ending.ListenFault = status.LinksFault
served_status ending.NextFault = status.LinksFault

-- the output before a call and after it
pub record Output : Type 0 where
  pub before : SinkSeen
  pub after : SinkSeen

-- how many patterns the maker had refused before a call and after it
pub record Made : Type 0 where
  pub before : ℕ
  pub after : ℕ

-- this was printed
abbrev pub Printed : Output → List ℕ → Type 0
Printed out text = out.before.tells ≡ true → out.after.written ≡ out.before.written ++ text

-- a front of this was printed
abbrev pub PrintedFront : Output → List ℕ → Type 0
PrintedFront out text =
    out.before.tells ≡ true → (part : List ℕ) × (rest : List ℕ) × (text ≡ part ++ rest) ×
    (out.after.written ≡ out.before.written ++ part)

-- The output failed while a text was printed that was due: a front of it is there.
pub record CutShort (IsDue : List ℕ → Type 0) (out : Output) : Type 0 where
  pub rose : Rose out.before.faults out.after.faults
  pub text : List ℕ
  pub due : IsDue text
  pub front : PrintedFront out text

-- The script at a path comes to this, of which this text is to be printed. A pattern is told as one that the maker refused
-- only where its count of refusals rose.
pub record ComesTo (files : FilesSeen) (made : Made) (path : List ℕ) (racy : Bool) (o : ScriptOutcome)
    (text : List ℕ) : Type 0 where
  pub bytes : List ℕ
  pub read : files.tells ≡ true → bytes ≡ text_of (files.trees files.newest path)
  pub replays : Replays racy bytes o text
  pub refused : o ≡ outcome.PatternFault → Rose made.before made.after

-- and was printed
pub record Played (files : FilesSeen) (made : Made) (out : Output) (path : List ℕ) (racy : Bool)
    (o : ScriptOutcome) : Type 0 where
  pub text : List ℕ
  pub comes : ComesTo files made path racy o text
  pub printed : Printed out text

-- When each status of a replay comes. A run, and a fault of the script or of its configuration, are
-- what the script's bytes come to, and their text is printed whole, or a front of it where the
-- output failed; a fault of the files, of the maker or of the output is counted by these; want of memory alone
-- has no cause.
abbrev pub ReplayEnds : (files files' : FilesSeen) → Made → Output → (path : List ℕ) →
    (racy : Bool) → Status → Type 0
ReplayEnds files files' made out path racy status.Done = Played files made out path racy outcome.Done
ReplayEnds files files' made out path racy status.Racy = Played files made out path racy outcome.Racy
ReplayEnds files files' made out path racy status.ConfFault =
    Played files made out path racy outcome.ConfFault
ReplayEnds files files' made out path racy status.PatternFault =
    Played files made out path racy outcome.PatternFault
ReplayEnds files files' made out path racy status.ScriptFault = (fault : ScriptFault) ×
    Played files made out path racy (outcome.ScriptFault fault)
ReplayEnds files files' made out path racy status.FilesFault = Rose files.faults files'.faults ×
    Printed out []
ReplayEnds files files' made out path racy status.SinkFault = CutShort
    (λ text. (o : ScriptOutcome) × ComesTo files made path racy o text) out
ReplayEnds files files' made out path racy status.OutOfMemory = Printed out []
ReplayEnds files files' made out path racy s = ⊥

-- The configuration at a path comes to this, as far as the files tell and their newest tree stays while
-- it is read; where they failed, they were asked where that is told.
pub record Describes (files reading : FilesSeen) (path : List ℕ)
    (outcome : Result ReadSite SiteError) : Type 0 where
  pub reads : Reading files reading
  pub is : files.tells ≡ true → reading.newest ≡ files.newest → (names : Names) →
      IsNaming (files.trees files.newest) names →
      IsDescribed (IsAskedAt (files.trees files.newest) names path) outcome
      (site_at (files.trees files.newest) names path)

-- and its site with its named variables was found
pub record Finds (files reading : FilesSeen) (path : List ℕ)
    (found : ReadSite) : Type 0 where
  pub described : Describes files reading path (Ok found)
  pub raceless : conflicts_of found ≡ [] → AreRaceless found.built

-- what is to be printed of a configuration that wasn't read: its first fault, with the path of
-- its file; or that a file couldn't be read, with the path of the file that names it; or a pattern that the maker refused
pub data IsFaultLine (files files' : FilesSeen) (made : Made)
    (path text : List ℕ) : Type 0 where
  OfFirst : (placed : PlacedFault) →
      Describes files files' path (Err (error.Fault placed)) →
      text ≡ ended (conf_fault_line placed.path placed.fault) →
      IsFaultLine files files' made path text
  OfFiles : (placed : PlacedFault) → placed.fault.kind ≡ ReadFault →
      Rose files.faults files'.faults →
      Describes files files' path (Err (error.Failed placed)) →
      text ≡ ended (conf_fault_line placed.path placed.fault) →
      IsFaultLine files files' made path text
  OfMaker : (fault : ConfFault) (at : List ℕ) → fault.kind ≡ PatternTooBig →
      Rose made.before made.after → text ≡ ended (conf_fault_line at fault) →
      IsFaultLine files files' made path text

-- the configuration at a path has this first fault, which was printed with the path of its file
pub record Faulty (files files' : FilesSeen) (out : Output)
    (path : List ℕ) : Type 0 where
  pub placed : PlacedFault
  pub described : Describes files files' path (Err (error.Fault placed))
  pub printed : Printed out (ended (conf_fault_line placed.path placed.fault))

-- a file of the configuration at a path couldn't be read, which was printed, with the path of the file that names it
pub record Unread (files files' : FilesSeen) (out : Output)
    (path : List ℕ) : Type 0 where
  pub placed : PlacedFault
  pub described : Describes files files' path (Err (error.Failed placed))
  pub kind : placed.fault.kind ≡ ReadFault
  pub rose : Rose files.faults files'.faults
  pub printed : Printed out (ended (conf_fault_line placed.path placed.fault))

-- the maker refused a pattern, which was printed, with the path of its file
pub record Unmade (made : Made) (out : Output) : Type 0 where
  pub rose : Rose made.before made.after
  pub fault : ConfFault
  pub at : List ℕ
  pub kind : fault.kind ≡ PatternTooBig
  pub printed : Printed out (ended (conf_fault_line at fault))

-- The configuration at a path describes a site, of which its counts were printed, and each of its variables that is named;
-- whether some are is said.
pub record Checked (files files' : FilesSeen) (out : Output) (path : List ℕ)
    (racy : Bool) : Type 0 where
  pub found : ReadSite
  pub described : Finds files files' path found
  pub names : has_items (conflicts_of found) ≡ racy
  pub printed : Printed out (check_text found)

-- what is to be printed of a check
pub data IsCheckLine (files files' : FilesSeen) (made : Made) (path text : List ℕ) : Type 0 where
  OfSite : (found : ReadSite) → Finds files files' path found →
      text ≡ check_text found → IsCheckLine files files' made path text
  OfNoSite : IsFaultLine files files' made path text →
      IsCheckLine files files' made path text

-- When each status of a check comes.
abbrev pub CheckEnds : (files files' : FilesSeen) → Made → Output → (path : List ℕ) → Status →
    Type 0
CheckEnds files files' made out path status.Done = Checked files files' out path false
CheckEnds files files' made out path status.Racy = Checked files files' out path true
CheckEnds files files' made out path status.ConfFault =
    Faulty files files' out path
CheckEnds files files' made out path status.FilesFault =
    Unread files files' out path
CheckEnds files files' made out path status.PatternFault = Unmade made out
CheckEnds files files' made out path status.SinkFault =
    CutShort (IsCheckLine files files' made path) out
CheckEnds files files' made out path status.OutOfMemory = Printed out []
CheckEnds files files' made out path s = ⊥

-- The site of the configuration at a path was served from then on, as the files were once it was
-- read, whatever they tell later. Unless it was asked for although variables are named, none is: then what is so where none is
-- named is so of what was served. Nothing was printed.
pub record Served (o : Outside) (out : Output) (path : List ℕ) (turns : ℕ) (racy : Bool)
    (e : Ending) : Type 0 where
  pub found : ReadSite
  pub reading : FilesSeen
  pub described : Finds o.files reading path found
  pub names : racy ≡ false → has_items (conflicts_of found) ≡ false
  pub raceless : racy ≡ false → AreRaceless found.built
  pub serving : Serving (not (has_items (conflicts_of found))) found.built.patterns
      found.built.site turns e (record o { files = reading })
  pub printed : Printed out []

-- Variables are named of the configuration at a path, which were printed as its check prints them. Nothing was asked of the
-- links and the clock.
pub record Unserved (o : Outside) (out : Output) (path : List ℕ) : Type 0 where
  pub found : ReadSite
  pub described : Finds o.files o.files' path found
  pub names : has_items (conflicts_of found) ≡ true
  pub links : o.links' ≡ o.links
  pub clock : o.clock' ≡ o.clock
  pub printed : Printed out (check_text found)

-- what is to be printed where a site isn't served
pub data IsRefusal (files files' : FilesSeen) (made : Made) (path text : List ℕ) : Type 0 where
  OfRaces : (found : ReadSite) → Finds files files' path found →
      text ≡ check_text found → IsRefusal files files' made path text
  OfFault : IsFaultLine files files' made path text →
      IsRefusal files files' made path text

-- What a site that was found came to, from here on: served, or refused.
pub record ServedFound (found : ReadSite) (racy : Bool) (o : Outside) (out : Output) (turns : ℕ)
    (e : Ending) : Type 0 where
  pub names : racy ≡ false → has_items (conflicts_of found) ≡ false
  pub serving : Serving (not (has_items (conflicts_of found))) found.built.patterns
      found.built.site turns e o
  pub printed : Printed out []

pub record RefusedFound (found : ReadSite) (o : Outside) (out : Output) : Type 0 where
  pub names : has_items (conflicts_of found) ≡ true
  pub files : o.files' ≡ o.files
  pub links : o.links' ≡ o.links
  pub clock : o.clock' ≡ o.clock
  pub printed : Printed out (check_text found)

abbrev pub FoundEnds : ReadSite → (racy : Bool) → Outside → Output → (turns : ℕ) → Status → Type 0
FoundEnds found racy o out turns status.Done = (o.links'.over ≡ true) ×
    ServedFound found racy o out turns ending.Ended
FoundEnds found racy o out turns status.TurnsUsed =
    ServedFound found racy o out turns ending.TurnsUsed
FoundEnds found racy o out turns status.Racy = (racy ≡ false) × RefusedFound found o out
FoundEnds found racy o out turns status.LinksFault =
    Rose o.links.faults o.links'.faults ×
    (ServedFound found racy o out turns ending.ListenFault ⊎
    ServedFound found racy o out turns ending.NextFault)
FoundEnds found racy o out turns status.SinkFault =
    (o.files' ≡ o.files) × CutShort (λ text. text ≡ check_text found) out
FoundEnds found racy o out turns status.OutOfMemory = Printed out []
FoundEnds found racy o out turns s = ⊥

-- When each status of serving comes: at 0 no notice will come any more; at 9 all turns were taken;
-- a fault of the files while the configuration was read, of the maker, of the links themselves, or of the output
-- is counted by these.
abbrev pub ServeEnds : Outside → Made → Output → (path : List ℕ) → (turns : ℕ) → (racy : Bool) →
    Status → Type 0
ServeEnds o made out path turns racy status.Done = (o.links'.over ≡ true) ×
    Served o out path turns racy ending.Ended
ServeEnds o made out path turns racy status.TurnsUsed =
    Served o out path turns racy ending.TurnsUsed
ServeEnds o made out path turns racy status.Racy =
    (racy ≡ false) × Unserved o out path
ServeEnds o made out path turns racy status.ConfFault =
    Faulty o.files o.files' out path
ServeEnds o made out path turns racy status.FilesFault =
    Unread o.files o.files' out path
ServeEnds o made out path turns racy status.PatternFault = Unmade made out
ServeEnds o made out path turns racy status.LinksFault =
    Rose o.links.faults o.links'.faults ×
    (Served o out path turns racy ending.ListenFault ⊎
    Served o out path turns racy ending.NextFault)
ServeEnds o made out path turns racy status.SinkFault =
    CutShort (IsRefusal o.files o.files' made path) out
ServeEnds o made out path turns racy status.OutOfMemory = Printed out []
ServeEnds o made out path turns racy s = ⊥

-- When each status of a text of the program's own comes.
abbrev pub TextEnds : Output → (text : List ℕ) → Status → Type 0
TextEnds out text status.Done = Printed out text
TextEnds out text status.SinkFault = Rose out.before.faults out.after.faults × PrintedFront out text
TextEnds out text s = ⊥

-- Nothing was asked of the files, the links and the clock.
pub record Untouched (o : Outside) : Type 0 where
  pub files : o.files' ≡ o.files
  pub links : o.links' ≡ o.links
  pub clock : o.clock' ≡ o.clock

-- When each status comes, by what the words ask for. Words that are no command print nothing.
abbrev pub Ends : Option Request → Outside → Made → Output → Status → Type 0
Ends None o made out s = (s ≡ status.Usage) × Printed out [] × Untouched o
Ends (Some (Help topic)) o made out s = TextEnds out (help_text topic) s × Untouched o
Ends (Some Version) o made out s = TextEnds out version_text s × Untouched o
Ends (Some (Check path)) o made out s = CheckEnds o.files o.files' made out path s
Ends (Some (Replay path racy)) o made out s =
    ReplayEnds o.files o.files' made out path racy s
Ends (Some (Serve path turns racy)) o made out s = ServeEnds o made out path turns racy s

-- the program ends with a status that has its cause
abbrev pub EndsWith : Option Request → Outside → Made → Output → ℕ → Type 0
EndsWith request o made out code = (s : Status) × (code ≡ code_of s) × Ends request o made out s

-- a text was printed, or a front of it where the output failed, or memory ran out
abbrev pub PutsText : Output → (text : List ℕ) → Result (Unit {0}) Status → Type 0
PutsText out text (Ok u) = Printed out text
PutsText out text (Err status.SinkFault) = Rose out.before.faults out.after.faults ×
    PrintedFront out text
PutsText out text (Err status.OutOfMemory) = Printed out []
PutsText out text (Err s) = ⊥

-- A run of a script, from its bytes to what is printed of it.
use Rattle.std.specs.Prelude.{◌≡◌, ◌≢◌, ℕ, Bool, true, false, not, ◌||◌, is_some, List, [], ◌∷◌, ◌++◌, map, Contains, None, Some, Result, Ok, Err, if◌then◌else◌}
use Rattle.file_tree.specs.Tree.{Trees}
use Rattle.ngx_outside.specs.Views.{ConnView, Start, Logged, start_of, log_of, is_idle, nobody}
use Rattle.ngx_outside.specs.Runs.{IsPrefixOf, Agree}
use Rattle.ngx_outside.specs.declared.event.Entry.{Entry}
use Rattle.replay_text.specs.Grammar.{script_of}
use Rattle.replay_text.specs.declared.parts.Conf.{Conf}
use Rattle.replay_text.specs.declared.parts.EventLine.{EventLine}
use Rattle.replay_text.specs.declared.parts.EventLine.TheVariants as line
use Rattle.replay_text.specs.declared.parts.TreeLine.{TreeLine}
use Rattle.replay_text.specs.declared.parts.Script.{Script}
use Rattle.replay_run.specs.Told.{Told, told_first, told_in}
use Rattle.replay_run.specs.Scene.{Stage, Lane, AreHeld, empty_lane}
use Rattle.replay_run.specs.Standing.{is_given}
use Rattle.replay_run.specs.Plays.{Plays, sent_in}
use Rattle.replay_run.specs.declared.lane.LinkEnds.{LinkEnds}
use Rattle.conf_text.specs.declared.directive.Directive.{Directive}
use Rattle.conf_text.specs.declared.fault.ConfFault.{ConfFault}
use Rattle.conf_text.specs.declared.fault.FaultKind.TheVariants.{PatternTooBig}
use Rattle.replay_confs.specs.Confs.{conf_tree}
use Rattle.conf_inherit.specs.Values.{has_items}
use Rattle.conf_inherit.specs.declared.site.Built.{Built}
use Rattle.answers_meaning.specs.Answers.{responses, logs_in, close_in, answers}
use Rattle.site_service.specs.request_opening.Openings.{service_of}
use Rattle.site_service.specs.connection_core.Core.{site_terms}
use Rattle.report_text.specs.declared.report.ConnState.{ConnState}
use Rattle.report_text.specs.declared.report.ConnState.TheVariants.{Stopped, Idle, Busy}
use Rattle.report_text.specs.Report.{Report, run_text}
use Rattle.report_text.specs.Lines.{ended}
use Rattle.report_text.specs.Faults.{script_fault_line, conf_fault_line}
use Rattle.ngx_cli.specs.Naming.{conf_names}
use Rattle.ngx_cli.specs.Checks.{check_text}
use Rattle.ngx_cli.specs.Sites.{Configuration, configuration_of, conflicts_of, AreRaceless, AreRacesOf, site_at}
use Rattle.ngx_cli.specs.declared.site.ReadSite.{ReadSite}
use Rattle.ngx_cli.specs.declared.script.ScriptOutcome.{ScriptOutcome}
use Rattle.ngx_cli.specs.declared.script.ScriptOutcome.TheVariants as outcome

-- the path of a script's main configuration: the first one
abbrev pub main_path : List Conf → List ℕ
main_path [] = []
main_path (conf ∷ confs) = conf.path

-- The configurations of a script come to this: the site of the main one, which is to be served, with each include replaced
-- by those that it names, or the first fault, with the path of its configuration.
abbrev pub Describe : List Conf → Result Configuration (ConfFault × List ℕ) → Type 0
Describe confs outcome =
    site_at (conf_tree confs) (conf_names confs) (main_path confs) ≡ outcome

-- They were read, and these are the variables that are named of them.
pub record AreFound (confs : List Conf) (found : ReadSite) : Type 0 where
  pub directives : List Directive
  pub described : Describe confs (Ok (configuration_of found directives))
  pub races : AreRacesOf found directives
  pub raceless : conflicts_of found ≡ [] → AreRaceless found.built

-- before a run nothing is held and nothing waits, at moment 0 and with the first tree
pub record IsNew (s : Stage) : Type 0 where
  pub view : (c : ℕ) → s.view c ≡ nobody
  pub now : s.now ≡ record { moment = 0; tree = 0 }
  pub lanes : (c : ℕ) → s.lanes c ≡ empty_lane

-- what a connection is at the end
abbrev pub state_of : ConnView → ConnState
state_of v = if is_some v.cause then Stopped else (if is_idle v then Idle else Busy)

-- what is reported of a connection
abbrev pub report_in : Stage → (ℕ → List Entry) → ℕ → Report
report_in s journals c = record {
  conn = c;
  state = state_of (s.view c);
  closes = (s.view c).shut;
  cause = (s.view c).cause;
  journal = journals c;
  sent = (s.lanes c).went;
}

-- A connection was opened last at these ends, and some of the bytes that were sent on it came. Where
-- the race check names no variable of the site, for all trees that agree with what the script's
-- files told: what was emitted is the beginning of the
-- answers that the site gives to these bytes at these ends, by the requests that were started;
-- while no cause stops the connection, what was emitted and what is still to come are the answers,
-- however it goes on; where it is idle, all has been emitted; and where it is to be closed before
-- the core was told that its input has ended, that is so whatever else would come. What is logged
-- of its requests are the statuses and the lengths of bodies of these answers, of each but at most
-- the last; where it is idle, of each. And it is no more and no less than what is left: where it is
-- busy, with a further request some of the answers are still to be emitted or logged; one that is
-- to be closed is idle, and one that is idle is to be closed exactly where the core was told that
-- its input has ended, or where the answers close it. Whether variables are named or not, one that is
-- to be closed is idle.
pub record Answered (raceless : Bool) (site : Built) (told : Told) (v : ConnView) (lane : Lane)
    (sent : List ℕ) : Type 0 where
  pub ends : LinkEnds
  pub opened : lane.ends ≡ Some ends
  pub came : List ℕ
  pub arrived : sent ≡ came ++ lane.queue
  pub front : raceless ≡ true → (trees : Trees) → Agree told.trees told.newest trees →
      IsPrefixOf lane.went (answers (service_of site.patterns site.site ends.local ends.peer) 0 trees came v.starts)
  pub on : raceless ≡ true → v.cause ≡ None → (trees : Trees) →
      Agree told.trees told.newest trees →
      (more : List ℕ) (later : List Start) →
      answers (service_of site.patterns site.site ends.local ends.peer) 0 trees (came ++ more)
      (v.starts ++ later) ≡ lane.went ++ v.course.bytes trees more later
  pub whole : raceless ≡ true → is_idle v ≡ true → (trees : Trees) →
      Agree told.trees told.newest trees →
      (later : List Start) →
      answers (service_of site.patterns site.site ends.local ends.peer) 0 trees came (v.starts ++ later) ≡ lane.went
  pub closes : raceless ≡ true → v.cause ≡ None → v.shut ≡ true → is_given lane.tail ≡ false →
      (trees : Trees) → Agree told.trees told.newest trees → (more : List ℕ) (later : List Start) →
      answers (service_of site.patterns site.site ends.local ends.peer) 0 trees (came ++ more)
      (v.starts ++ later) ≡ lane.went
  pub logged : raceless ≡ true → (trees : Trees) → Agree told.trees told.newest trees →
      Logged v.logs
      (logs_in (responses (service_of site.patterns site.site ends.local ends.peer) 0 trees came v.starts))
  pub all_logged : raceless ≡ true → is_idle v ≡ true → (trees : Trees) →
      Agree told.trees told.newest trees →
      (later : List Start) →
      v.logs ≡ map (λ l. Some l)
      (logs_in (responses (service_of site.patterns site.site ends.local ends.peer) 0 trees came
      (v.starts ++ later)))
  pub busy : raceless ≡ true → v.cause ≡ None → is_idle v ≡ false → (trees : Trees) →
      Agree told.trees told.newest trees → (start : Start) (later : List Start) →
      answers (service_of site.patterns site.site ends.local ends.peer) 0 trees came
      (v.starts ++ start ∷ later) ≡ lane.went →
      v.logs ≢ map (λ l. Some l)
      (logs_in (responses (service_of site.patterns site.site ends.local ends.peer) 0 trees came
      (v.starts ++ start ∷ later)))
  pub rests : v.cause ≡ None → v.shut ≡ true → is_idle v ≡ true
  pub shuts : raceless ≡ true → is_idle v ≡ true → (trees : Trees) →
      Agree told.trees told.newest trees →
      (later : List Start) →
      v.shut ≡ (is_given lane.tail || close_in
      (responses (service_of site.patterns site.site ends.local ends.peer) 0 trees came (v.starts ++ later)))

-- A run of a script's lines, over its tree, on a new core of a site, of which the race check names no
-- variable, or some, and the text that is printed
-- of it: a report on each connection, by number, and the counts of the lines that were skipped and
-- refused. The ends of each connection are those of a line that opens it.
pub record Ran (raceless : Bool) (site : Built) (tree : List TreeLine) (events : List EventLine)
    (text : List ℕ) : Type 0 where
  pub first : Stage
  pub last : Stage
  pub skipped : ℕ
  pub refused : ℕ
  pub begins : IsNew first
  pub plays : Plays (site_terms raceless true site.patterns site.site) events (told_first tree) first 0 0
      last skipped refused
  pub conns : List ℕ
  pub held : AreHeld conns last.view
  pub journals : ℕ → List Entry
  pub started : (c : ℕ) → map start_of (journals c) ≡ (last.view c).starts
  pub logged : (c : ℕ) → map log_of (journals c) ≡ (last.view c).logs
  pub opened : (c : ℕ) (ends : LinkEnds) → (last.lanes c).ends ≡ Some ends →
      Contains events (line.Open c ends.local ends.peer)
  pub printed : text ≡ run_text (map (report_in last journals) conns) skipped refused
  pub answered : (c : ℕ) → Contains conns c →
      Answered raceless site (told_in events (told_first tree)) (last.view c) (last.lanes c)
      (sent_in events c)

-- A run on the site that a script's configurations describe. Unless it was asked for although variables are named, none is:
-- then what is so where none is named is so of the run.
pub record RanOn (racy : Bool) (script : Script) (text : List ℕ) : Type 0 where
  pub found : ReadSite
  pub are : AreFound script.confs found
  pub names : racy ≡ false → has_items (conflicts_of found) ≡ false
  pub raceless : racy ≡ false → AreRaceless found.built
  pub ran : Ran (not (has_items (conflicts_of found))) found.built script.tree script.events text

-- Variables are named of a script's configurations.
pub record IsRacy (confs : List Conf) (text : List ℕ) : Type 0 where
  pub found : ReadSite
  pub are : AreFound confs found
  pub names : has_items (conflicts_of found) ≡ true
  pub told : text ≡ check_text found

-- what a script whose configurations were read comes to
abbrev pub RunsOn : (racy : Bool) → Script → ScriptOutcome → List ℕ → Type 0
RunsOn racy script outcome.Done text = RanOn racy script text
RunsOn racy script outcome.Racy text = (racy ≡ false) × IsRacy script.confs text
RunsOn racy script o text = ⊥

-- What a script's bytes come to, and what is printed: the first fault of the script; the first fault of its configurations; a
-- pattern of these that the maker refused; the variables that are named of them, unless a run was asked for all the same; or
-- a run.
abbrev pub Replays : (racy : Bool) → List ℕ → ScriptOutcome → List ℕ → Type 0
Replays racy bytes outcome.Done text = (script : Script) × (script_of bytes ≡ Ok script) ×
    RanOn racy script text
Replays racy bytes outcome.Racy text = (script : Script) × (script_of bytes ≡ Ok script) ×
    (racy ≡ false) × IsRacy script.confs text
Replays racy bytes (outcome.ScriptFault fault) text = (script_of bytes ≡ Err fault) ×
    (text ≡ ended (script_fault_line fault))
Replays racy bytes outcome.ConfFault text =
    (script : Script) × (fault : ConfFault) × (at : List ℕ) × (script_of bytes ≡ Ok script) ×
    Describe script.confs (Err (fault, at)) × (text ≡ ended (conf_fault_line at fault))
Replays racy bytes outcome.PatternFault text =
    (script : Script) × (fault : ConfFault) × (at : List ℕ) × (script_of bytes ≡ Ok script) ×
    (fault.kind ≡ PatternTooBig) × (text ≡ ended (conf_fault_line at fault))

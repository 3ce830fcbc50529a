-- What is printed of a run: each of its connections, and its end.
use Rattle.std.specs.Prelude.{ℕ, Bool, List, [], ◌∷◌, ◌++◌, ◌==◌, map, flat_map, codes, decimal, Option, Some, None, if◌then◌else◌}
use Rattle.ngx_outside.specs.declared.event.Entry.{Entry}
use Rattle.ngx_outside.specs.declared.event.StopCause.{StopCause}
use Rattle.ngx_outside.specs.declared.event.StopCause.TheVariants.{LinkFault, FileFault, Memory, SubLimit, Deadline}
use Rattle.report_text.specs.declared.report.ConnState.{ConnState}
use Rattle.report_text.specs.declared.report.ConnState.TheVariants.{Stopped, Idle, Busy}
use Rattle.report_text.specs.declared.report.ConnReport.{ConnReport}
use Rattle.report_text.specs.Escapes.{escaped}
use Rattle.report_text.specs.Lines.{ended, lines_text}

-- what is told of a connection, wherever its bytes are in memory
pub record Report : Type 0 where
  pub conn : ℕ
  pub state : ConnState
  pub closes : Bool
  pub cause : Option StopCause
  pub journal : List Entry
  pub sent : List ℕ

abbrev pub report_of : ConnReport → Report
report_of r = record {
  conn = r.conn;
  state = r.state;
  closes = r.closes;
  cause = r.cause;
  journal = r.journal.now;
  sent = r.sent.now;
}

-- a space and a word
unfoldable pub spaced : List ℕ → List ℕ
spaced word = 32 ∷ word

unfoldable pub state_word : ConnState → List ℕ
state_word Stopped = codes "stopped"
state_word Idle = codes "idle"
state_word Busy = codes "busy"

-- whether the link is to be closed
unfoldable pub next_word : Bool → List ℕ
next_word closes = if closes then codes "close" else codes "keep"

unfoldable pub cause_text : StopCause → List ℕ
cause_text LinkFault = spaced (codes "LinkFault")
cause_text FileFault = spaced (codes "FileFault")
cause_text Memory = spaced (codes "Memory")
cause_text (SubLimit started) = spaced (codes "SubLimit") ++ spaced (decimal started)
cause_text (Deadline due now) = spaced (codes "Deadline") ++ spaced (decimal due) ++ spaced (decimal now)

unfoldable pub cause_or_dash : Option StopCause → List ℕ
cause_or_dash None = spaced (codes "-")
cause_or_dash (Some cause) = cause_text cause

-- `conn 1 idle keep -`
unfoldable pub conn_line : Report → List ℕ
conn_line r =
    codes "conn" ++ spaced (decimal r.conn) ++ spaced (state_word r.state) ++ spaced (next_word r.closes)
    ++ cause_or_dash r.cause

-- the status and the length of a response that is over
unfoldable pub logged : Option (ℕ × ℕ) → List ℕ
logged None = codes " - -"
logged (Some log) = spaced (decimal log.0) ++ spaced (decimal log.1)

-- `log 0 0 200 2`
unfoldable pub log_line : Entry → List ℕ
log_line e = codes "log" ++ spaced (decimal e.moment) ++ spaced (decimal e.tree) ++ logged e.log

-- the bytes, or `-` where there are none
unfoldable pub sent_word : List ℕ → List ℕ
sent_word [] = codes "-"
sent_word (b ∷ bytes) = escaped (b ∷ bytes)

-- `sent hello`
unfoldable pub sent_line : List ℕ → List ℕ
sent_line bytes = codes "sent " ++ sent_word bytes

-- the lines of a connection
unfoldable pub conn_lines : Report → List (List ℕ)
conn_lines r = conn_line r ∷ (map log_line r.journal ++ sent_line r.sent ∷ [])

unfoldable pub conn_text : Report → List ℕ
conn_text r = lines_text (conn_lines r)

-- where lines were refused, how many
unfoldable pub refused_words : ℕ → List ℕ
refused_words refused = if refused == 0 then [] else codes " refused" ++ spaced (decimal refused)

-- `skipped 0`
unfoldable pub end_line : ℕ → ℕ → List ℕ
end_line skipped refused = codes "skipped" ++ spaced (decimal skipped) ++ refused_words refused

unfoldable pub end_text : ℕ → ℕ → List ℕ
end_text skipped refused = ended (end_line skipped refused)

-- the whole text of a run
unfoldable pub run_text : List Report → ℕ → ℕ → List ℕ
run_text reports skipped refused = flat_map conn_text reports ++ end_text skipped refused

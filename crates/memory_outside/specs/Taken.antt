-- What a sink in memory has taken, and how often a put has failed.
use Rattle.std.specs.Prelude.{ℕ, ◌==◌, Bool, true, List}
use Rattle.std.specs.List.{list_any}
use Rattle.ngx_outside.specs.Seen.{SinkSeen}
use Rattle.memory_outside.specs.declared.sink.MemorySink.{MemorySink}

abbrev pub taken_of : MemorySink → List ℕ
taken_of s = s.taken

abbrev pub put_faults_of : MemorySink → ℕ
put_faults_of s = s.faults

-- the puts that are to fail, by number, and how many puts there were
abbrev pub put_failing_of : MemorySink → List ℕ
put_failing_of s = s.failing.items

abbrev pub puts_of : MemorySink → ℕ
puts_of s = s.calls

-- the next put is one that is to fail
abbrev pub is_next_failing : MemorySink → Bool
is_next_failing s = list_any (λ n. n == puts_of s) (put_failing_of s)

-- all that it shows
abbrev pub sink_shown : MemorySink → SinkSeen
sink_shown s = record { tells = true; written = taken_of s; faults = put_faults_of s }

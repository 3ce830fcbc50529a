-- What links in memory tell, by id.
use Rattle.std.specs.Prelude.{ℕ, nat_le, Bool, true, false, ◌||◌, List, [], ◌∷◌, Option, length}
use Rattle.http_types.specs.declared.words.Addr.{Addr}
use Rattle.ngx_outside.specs.Linked.{LinkView}
use Rattle.ngx_outside.specs.Seen.{LinksSeen}
use Rattle.memory_links.specs.declared.links.MemoryLinks.{MemoryLinks}
use Rattle.memory_links.specs.declared.links.ScriptedNotice.{ScriptedNotice}
use Rattle.memory_links.specs.declared.links.LinkCall.{LinkCall}
use Rattle.ngx_outside.specs.Records.{LinkAnswer}
use Rattle.memory_links.specs.Answered.{links_told}
use Rattle.memory_links.specs.Peers.{Sends, sends_in, links_in, used_in, held_in, faults_in, crowd_in}

abbrev pub links_of : MemoryLinks → ℕ → LinkView
links_of s = links_in s.peers.items

abbrev pub used_of : MemoryLinks → ℕ → Bool
used_of s = used_in s.peers.items

abbrev pub open_of : MemoryLinks → ℕ → Bool
open_of s = held_in s.peers.items

abbrev pub listening_of : MemoryLinks → List Addr
listening_of s = s.listening.items

abbrev pub no_notices : List ScriptedNotice → Bool
no_notices [] = true
no_notices (n ∷ notices) = false

abbrev pub sends_told : MemoryLinks → ℕ → Sends
sends_told s = sends_in s.peers.items

-- what was answered, as far as it is told
abbrev pub answers_of : MemoryLinks → Option (List LinkAnswer)
answers_of s = links_told s.answers

-- no notice is left, or no id
abbrev pub over_of : MemoryLinks → Bool
over_of s = no_notices s.script.items || nat_le 4294967295 (length s.peers.items)

-- the calls that are to fail
abbrev pub failing_calls_of : MemoryLinks → List LinkCall
failing_calls_of s = s.failing.items

abbrev pub next_faults_of : MemoryLinks → ℕ
next_faults_of s = s.faults

abbrev pub link_faults_of : MemoryLinks → ℕ → ℕ
link_faults_of s = faults_in s.peers.items

-- how many are open, how many notices were told, and how many events the core refused, as it was
-- told last
abbrev pub crowd_of : MemoryLinks → ℕ
crowd_of s = crowd_in s.peers.items

abbrev pub notices_of : MemoryLinks → ℕ
notices_of s = s.notices

abbrev pub refused_of : MemoryLinks → ℕ
refused_of s = s.refused

-- all that they show
abbrev pub links_shown : MemoryLinks → LinksSeen
links_shown s =
    record {
      tells = true;
      link = links_of s;
      used = used_of s;
      is_open = open_of s;
      listening = listening_of s;
      crowd = crowd_of s;
      over = over_of s;
      notices = notices_of s;
      answers = answers_of s;
      faults = next_faults_of s;
      link_faults = link_faults_of s;
      refused = refused_of s;
    }

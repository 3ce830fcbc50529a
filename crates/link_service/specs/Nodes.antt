-- What it comes to that nodes of a connection run, and that their jobs are answered.
use Rattle.std.specs.Prelude.{◌≡◌, ℕ, ◌≤◌, List, Option}
use Rattle.ngx_outside.specs.Records.{LinkAnswer}
use Rattle.ngx_outside.specs.Seen.{CoreSeen, LinksSeen, FilesSeen}
use Rattle.link_service.specs.Seen.{Elsewhere}
use Rattle.link_service.specs.Standing.{Keeps}
use Rattle.link_service.specs.Tellings.{StandBeside}

-- What it leaves as it was, whether memory sufficed or not: the other connections, what the core
-- keeps to and was told last, and what the files tell; only their newest tree may be a later one.
pub record Spares (conn : ℕ) (core core' : CoreSeen) (files files' : FilesSeen) : Type 0 where
  pub views : Elsewhere conn core.view core'.view
  pub terms : core'.terms ≡ core.terms
  pub now : core'.now ≡ core.now
  pub grown : files.newest ≤ files'.newest
  pub versions : files'.versions ≡ files.versions
  pub tells : files'.tells ≡ files.tells

-- What holds where memory sufficed, whatever the links and the clock are: what came and went on
-- each connection stays accounted for, and the core was given what the files answered.
pub record Served (core core' : CoreSeen) (files files' : FilesSeen) : Type 0 where
  pub kept : (links : LinksSeen) → Keeps core core' links links files files'
  pub beside : (links : Option (List LinkAnswer)) (clock : Option (List ℕ)) →
      StandBeside core.events core'.events links links files.answers files'.answers clock clock

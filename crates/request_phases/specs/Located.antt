-- Where the file of a path was sought, and what the last word of `try_files` says where it is a code.
use Rattle.std.specs.Prelude.{ℕ, None, if◌then◌else◌}
use Rattle.request_meaning.specs.Rewriting.{is_redirect}
use Rattle.request_phases.specs.declared.state.Decision.{Decision}
use Rattle.request_phases.specs.declared.state.Decision.TheVariants.{Error, Redirect}
use Rattle.request_meaning.specs.file_path.Located.{Located}
use Rattle.request_meaning.specs.file_path.Located.Located.{TooLong, NotThere, At}
use Rattle.request_phases.specs.declared.content.Sought.{Sought}
use Rattle.request_phases.specs.declared.content.Sought.TheVariants as sought

abbrev pub sought_seen : Sought → Located
sought_seen sought.TooLong = TooLong
sought_seen sought.Nowhere = NotThere
sought_seen (sought.At path) = At path

abbrev pub last_word : ℕ → Decision
last_word code = if is_redirect code then Redirect code None else Error code

use Rattle.uri_text.proofs.ReadingBack.{normal_of-escape_of}
use Rattle.uri_text.proofs.laws.escaped_paths_are_read_back.Goals as goal

pub returns : goal.returns
returns c = normal_of-escape_of

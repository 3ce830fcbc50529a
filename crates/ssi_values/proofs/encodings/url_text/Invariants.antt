use Rattle.std.proofs.Common.{◌≡◌, ◌++◌, drop}
use Rattle.std.specs.List.{flat_map}
use Rattle.request_meaning.specs.Documents.{url_byte}
use Rattle.ssi_values.proofs.encodings.url_text.Given as goal

abbrev pub invariant-loop-byte : goal.invariant-loop-byte
invariant-loop-byte l = l.out ++ flat_map url_byte (drop l.byte-index l.text) ≡ flat_map url_byte l.text

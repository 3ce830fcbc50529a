use Rattle.std.proofs.Common.{arith}
use Rattle.uri_text.proofs.Decoding.{split_one}
use Rattle.uri_text.proofs.Targets.{strip_slash-is, strip_slash-not}
use Rattle.uri_text.proofs.target.without_slash.Goals as goal

pub returns-then-first-eq47 : goal.returns-then-first-eq47
returns-then-first-eq47 c = strip_slash-is _ _ _ (split_one c.args.text.now (omega arith)) c.if-first-eq47.true

pub returns-else-first-eq47 : goal.returns-else-first-eq47
returns-else-first-eq47 c = strip_slash-not _ _ _ (split_one c.args.text.now (omega arith)) c.if-first-eq47.false

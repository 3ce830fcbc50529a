use Rattle.std.proofs.Common.{◌≡◌, ap, arith}
use Rattle.body_frame.specs.Outcome.{Short}
use Rattle.body_frame.specs.Position.{stops_at}
use Rattle.body_frame.proofs.RunLemmas.{skips_one, skips_data, skips_plain, skips_from, skips_to, stops_short}
use Rattle.body_frame.proofs.place.Position.skip.Goals.{in_default-via-in-Data+else-left-gt0, in_default-via-in_default}
use Rattle.body_frame.proofs.place.Position.skip.Goals as goal

pub returns-in-Plain-clause-skips : goal.returns-in-Plain-clause-skips
returns-in-Plain-clause-skips c = skips_from _ _ _ _ _ c.in-Plain.is (skips_plain _ _ c.args.bytes.now (omega arith) (omega arith))

pub returns-in-Data-clause-skips : goal.returns-in-Data-clause-skips
returns-in-Data-clause-skips c = skips_from _ _ _ _ _ c.in-Data.is (skips_data _ _ c.args.bytes.now (omega arith) (omega arith))

pub returns-in-len1-up-clause-skips : goal.returns-in-len1-up-clause-skips
returns-in-len1-up-clause-skips c =
    let short : stops_at c.args.self.now ≡ Short = elim c.in_default.branch [
      | in_default-via-in-Data+else-left-gt0 w ↦ ap stops_at w.in-Data.is
      | in_default-via-in_default w ↦ stops_short c.args.self.now w.in_default.not-Plain w.in_default.not-Failed
    ] in
    skips_to _ _ _ _ 1 c.after.ensures (skips_one _ c.args.bytes.now (omega arith) short)

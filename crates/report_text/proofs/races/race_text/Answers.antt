use Rattle.report_text.specs.Races.{race_of}
use Rattle.report_text.proofs.PlaceLaws.{whole_race}
use Rattle.report_text.proofs.races.race_text.Goals as goal

pub returns : goal.returns
returns c =
    whole_race (race_of c.args.files.now c.args.paths.now c.args.report.now) c.args.out.now c.extend.new.self c.put_number.new.out c.extend-2.new.self c.put_escaped.new.out c.extend-3.new.self c.put_places.new.out c.extend-4.new.self c.put_places-2.new.out c.put_documents.new.out c.push.new.self
    c.in_ok-extend.ensures.ok c.in_ok-put_number.ensures c.in_ok-extend-2.ensures.ok c.in_ok-put_escaped.ensures c.in_ok-extend-3.ensures.ok c.in_ok-put_places.ensures c.in_ok-extend-4.ensures.ok c.in_ok-put_places-2.ensures c.in_ok-put_documents.ensures c.in_ok-push.ensures.ok

-- Where a request is in its programs, as the recursive meaning sees it, and what its programs come to.
use Rattle.std.specs.Prelude.{ℕ, Bool, List, Option}
use Rattle.site_whole.specs.site_model.Levels.{raw_level}
use Rattle.site_whole.specs.site_model.declared.site.Site.{Site}
use Rattle.site_whole.specs.Whole.{values_seen}
use Rattle.request_meaning.specs.Serving.{Standing}
use Rattle.request_meaning.specs.Rewriting.{Passed, Ran}
use Rattle.request_meaning.specs.Rewriting.Ran.{Ends, Returns, Redirects, Drops, Breaks}
use Rattle.rewrite_code.specs.declared.place.Progress.{Progress}
use Rattle.rewrite_code.specs.declared.place.Ending.{Ending}
use Rattle.rewrite_code.specs.declared.place.Ending.TheVariants.{End, Status, Redirect, Close, Failed}

abbrev pub standing_seen : Site → Progress → Standing
standing_seen site p = record { request = p.request; values = values_seen site (raw_level site p.level); inside = p.inside }

abbrev pub progress_seen : Site → Progress → Passed
progress_seen site p = record { at = standing_seen site p; seeks = p.seeks }

-- what a program came to
abbrev pub ran_of : Site → Progress → Ending → Ran
ran_of site p End = Ends (progress_seen site p)
ran_of site p (Status code text) = Returns (standing_seen site p) code text
ran_of site p (Redirect code to) = Redirects (standing_seen site p) code to
ran_of site p Close = Drops (standing_seen site p)
ran_of site p (Failed leading) = Breaks (standing_seen site p) leading

-- The definitions compute: to unfold these words is enough at written-out seconds.
use Rattle.std.proofs.Common.{◌≡◌, codes, refl}
use Rattle.std.specs.Bool.{⊤}
use Rattle.http_moment.specs.Moment.{unit_of, year_of, month_of, calendar, shown_at, date_of}

-- what an answer unfolds to compute the text of a second
unfoldable pub date_on_literals : ⊤
unfolding unit_of year_of month_of calendar shown_at date_of
date_on_literals = tt

pub examples : date_of 784111777 ≡ codes "Sun, 06 Nov 1994 08:49:37 GMT"
unfolding date_on_literals
examples = refl

pub last : date_of 253402300800 ≡ codes "Fri, 31 Dec 9999 23:59:59 GMT"
unfolding date_on_literals
last = refl

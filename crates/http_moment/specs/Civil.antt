-- What a `Civil` means.
use Rattle.httpdate.specs.declared.parts.Parts.{Parts}
use Rattle.http_moment.specs.declared.calendar.Civil.{Civil}

-- the numbers of the date
abbrev pub parts_of : Civil → Parts
parts_of d = record {
  year = d.year;
  mon = d.month;
  day = d.day;
  hour = d.hour;
  min = d.minute;
  sec = d.second;
  wday = d.weekday;
}

-- Worlds whose patterns find what regular expressions mean.
use Rattle.pattern_search.specs.Found.{found}
use Rattle.request_meaning.specs.Serving.{World}

-- a world whose patterns find this
abbrev pub finding : World → World
finding w = record w { finds = found }

-- What looking for a head in whole lines answers.
use Rattle.std.specs.Prelude.{◌≡◌, ℕ, List}
use Rattle.httparse.specs.Grammar.{RequestHead}
use Rattle.httparse.specs.Spans.{IsRequestAt, IsRequestWithin, RequestExceeds, RequestOverflows}
use Rattle.httparse.specs.declared.spans.HeaderSpan.{HeaderSpan}
use Rattle.req_head.specs.Lines.{lines}
use Rattle.req_head.specs.Reading as reading
use Rattle.req_head.specs.declared.find.Scan.{Scan}
use Rattle.req_head.specs.declared.find.Scan.TheVariants.{Short, Wrong, Whole, NoRoom}

abbrev pub IsScan : List ℕ → ℕ → List HeaderSpan → Scan → Type 0
IsScan text room slots Short = reading.read_request (lines text) ≡ reading.Short
IsScan text room slots Wrong = reading.read_request (lines text) ≡ reading.Wrong
IsScan text room slots (Whole s) =
    IsRequestWithin text slots s × ((h : RequestHead) × IsRequestAt text slots s h × (reading.read_request (lines text) ≡ reading.Whole h))
IsScan text room slots NoRoom = RequestOverflows room text × RequestExceeds room text

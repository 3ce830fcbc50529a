-- What a journal has.
use Rattle.std.specs.Prelude.{◌≡◌, ◌<◌, ◌-◌, ◌^◌, true, vec_len, vec_capacity}
use Rattle.request_journal.specs.declared.journal.Journal.{Journal}

-- one request more can be entered
pub record HasRoom (journal : Journal) : Type 0 where
  pub countable : journal.count < 2 ^ 64 - 1
  pub room : journal.keeps ≡ true → vec_len journal.kept < vec_capacity journal.kept

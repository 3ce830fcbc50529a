-- What scripted links report.
use Rattle.std.specs.Prelude.{◌≡◌, ℕ, Bool, List, ◌∷◌, reverse, if◌then◌else◌, ◌⊎◌}
use Rattle.http_types.specs.declared.words.Addr.{Addr}
use Rattle.ngx_outside.specs.declared.links.Notice.{Notice}
use Rattle.ngx_outside.specs.declared.links.Notice.TheVariants as notice
use Rattle.memory_links.specs.Peers.{Sends, SendSame, OneBegins}
use Rattle.memory_links.specs.declared.links.MemoryLinks.{MemoryLinks}
use Rattle.memory_links.specs.declared.links.ScriptedNotice.{ScriptedNotice}
use Rattle.memory_links.specs.declared.links.ScriptedNotice.TheVariants as scripted

-- the notices that are left, the next one first
abbrev pub scripted_of : MemoryLinks → List ScriptedNotice
scripted_of s = reverse s.script.items

-- a peer is reported with its ends, or there is no memory for its link
abbrev pub IsOpened : (local peer : Addr) → Notice → Type 0
IsOpened local peer (notice.Opened id l p) = (l ≡ local) × (p ≡ peer)
IsOpened local peer (notice.Readable id) = ⊥
IsOpened local peer (notice.Writable id) = ⊥
IsOpened local peer notice.Nothing = ⊥
IsOpened local peer notice.Ended = ⊥
IsOpened local peer notice.Failed = Unit {0}

-- and begins to send this
abbrev pub SendsFrom : Sends → Notice → (old new : ℕ → Sends) → Type 0
SendsFrom s (notice.Opened id l p) old new = OneBegins id s old new
SendsFrom s (notice.Readable id) old new = SendSame old new
SendsFrom s (notice.Writable id) old new = SendSame old new
SendsFrom s notice.Nothing old new = SendSame old new
SendsFrom s notice.Ended old new = SendSame old new
SendsFrom s notice.Failed old new = SendSame old new

-- what a notice of the script is answered as, by which links are open: one of a link that isn't
-- open is nothing
abbrev pub IsReportOf : (ℕ → Bool) → ScriptedNotice → Notice → Type 0
IsReportOf is_open (scripted.Opened local peer input ends window) n = IsOpened local peer n
IsReportOf is_open (scripted.Readable id) n =
    n ≡ (if is_open id then notice.Readable id else notice.Nothing)
IsReportOf is_open (scripted.Writable id more) n =
    n ≡ (if is_open id then notice.Writable id else notice.Nothing)
IsReportOf is_open scripted.Nothing n = n ≡ notice.Nothing

-- a peer that is reported begins to send what the script says, and all others still send the same
abbrev pub Sending : ScriptedNotice → Notice → (old new : ℕ → Sends) → Type 0
Sending (scripted.Opened local peer input ends window) n old new = SendsFrom
    (record { coming = input; ends = ends }) n old new
Sending (scripted.Readable id) n old new = SendSame old new
Sending (scripted.Writable id more) n old new = SendSame old new
Sending scripted.Nothing n old new = SendSame old new

-- the next notice of the script is answered
pub record Reported (is_open : ℕ → Bool) (n : Notice) (old new : List ScriptedNotice)
    (sends sends' : ℕ → Sends) : Type 0 where
  pub scripted : ScriptedNotice
  pub next : old ≡ scripted ∷ new
  pub report : IsReportOf is_open scripted n
  pub sending : Sending scripted n sends sends'

-- the script and what the peers send stay as they are
abbrev pub Keeps : (old new : List ScriptedNotice) (sends sends' : ℕ → Sends) → Type 0
Keeps old new sends sends' = (new ≡ old) × SendSame sends sends'

-- What a call makes of the script: at the end and where the call is to fail it stays, and else its
-- next notice is answered.
abbrev pub Plays : (ℕ → Bool) → Notice →
    (old new : List ScriptedNotice) (sends sends' : ℕ → Sends) → Type 0
Plays is_open notice.Ended old new sends sends' = Keeps old new sends sends'
Plays is_open notice.Failed old new sends sends' = Keeps old new sends sends' ⊎ Reported is_open
    notice.Failed old new sends sends'
Plays is_open (notice.Opened id local peer) old new sends sends' = Reported is_open
    (notice.Opened id local peer) old new sends sends'
Plays is_open (notice.Readable id) old new sends sends' = Reported is_open
    (notice.Readable id) old new sends sends'
Plays is_open (notice.Writable id) old new sends sends' = Reported is_open
    (notice.Writable id) old new sends sends'
Plays is_open notice.Nothing old new sends sends' = Reported is_open notice.Nothing old new sends
    sends'

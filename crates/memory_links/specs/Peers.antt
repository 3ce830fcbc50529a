-- What links in memory tell.
use Rattle.std.specs.Prelude.{◌≡◌, ◌≢◌, ℕ, ◌+◌, ◌-◌, ◌==◌, ◌≤◌, Bool, true, false, List, [], ◌∷◌, ◌++◌, take, drop, if◌then◌else◌, ◌⊎◌}
use Rattle.std.specs.declared.net.ip_addr.IpAddr.TheVariants.{V4}
use Rattle.http_types.specs.declared.words.Addr.{Addr}
use Rattle.ngx_outside.specs.Causes.{Rose}
use Rattle.ngx_outside.specs.declared.links.Notice.{Notice}
use Rattle.ngx_outside.specs.declared.links.Notice.TheVariants as notice
use Rattle.ngx_outside.specs.Linked.{LinkView, Updated, Same, Noticed, Opens, crowd_after, got, put, set_due, set_full, set_ended}
use Rattle.ngx_outside.specs.declared.links.Input.{Input}
use Rattle.ngx_outside.specs.declared.links.Input.TheVariants as input
use Rattle.ngx_outside.specs.declared.links.Output.{Output}
use Rattle.ngx_outside.specs.declared.links.Output.TheVariants as output
use Rattle.memory_links.specs.declared.peer.Peer.{Peer}

-- what a link shows
abbrev pub view_of : Peer → LinkView
view_of p = record {
  local = p.local;
  peer = p.peer;
  among = p.among;
  taken = take p.start p.input;
  sent = p.sent;
  due = p.due;
  full = p.full;
  ended = p.ended;
}

-- what a read makes of a link
abbrev pub after_read : Input → List ℕ → LinkView → LinkView
after_read (input.Got count) buf v = got (take count buf) v
after_read input.NotYet buf v = set_due false v
after_read input.End buf v = set_ended v
after_read input.Failed buf v = set_due false v

-- and a write
abbrev pub after_write : Output → List ℕ → LinkView → LinkView
after_write (output.Put count) bytes v = put (take count bytes) v
after_write output.NotYet bytes v = set_full true v
after_write output.Failed bytes v = v

-- of bytes some are put, or none where there are none
abbrev pub PutsSome : Output → List ℕ → Type 0
PutsSome (output.Put count) bytes = count ≡ 0 → bytes ≡ []
PutsSome output.NotYet bytes = Unit {0}
PutsSome output.Failed bytes = Unit {0}

-- the ends of no link
abbrev pub nowhere : Addr
nowhere = record { ip = V4 (record { octets = 0 ∷ 0 ∷ 0 ∷ 0 ∷ [] }); port = 0 }

abbrev pub unopened : LinkView
unopened = record {
  local = nowhere;
  peer = nowhere;
  among = 0;
  taken = [];
  sent = [];
  due = false;
  full = false;
  ended = false;
}

-- what is so of the link of an id; the first link has the id 1
unfoldable pub at_id : {A : Type 0} → (Peer → A) → A → List Peer → ℕ → A
at_id f none [] id = none
at_id f none (p ∷ peers) id = if id == 1 then f p else at_id f none peers (id - 1)

abbrev pub links_in : List Peer → ℕ → LinkView
links_in = at_id view_of unopened

abbrev pub used_in : List Peer → ℕ → Bool
used_in = at_id (λ p. true) false

abbrev pub held_in : List Peer → ℕ → Bool
held_in = at_id (λ p. p.held) false

abbrev pub faults_in : List Peer → ℕ → ℕ
faults_in = at_id (λ p. p.faults) 0

-- one where a test holds
abbrev pub tally : Bool → ℕ
tally true = 1
tally false = 0

-- how many links are open
unfoldable pub crowd_in : List Peer → ℕ
crowd_in [] = 0
crowd_in (p ∷ peers) = tally p.held + crowd_in peers

-- what a peer still sends, and whether it then ends
pub record Sends : Type 0 where
  pub coming : List ℕ
  pub ends : Bool

abbrev pub sends_of : Peer → Sends
sends_of p = record { coming = drop p.start p.input; ends = p.ends }

abbrev pub silent : Sends
silent = record { coming = []; ends = false }

abbrev pub sends_in : List Peer → ℕ → Sends
sends_in = at_id sends_of silent

-- all still send the same
abbrev pub SendSame : (ℕ → Sends) → (ℕ → Sends) → Type 0
SendSame old new = (c : ℕ) → new c ≡ old c

-- What a read takes of what a peer sends. It answers the end only after all of it, and that there is nothing yet only
-- there or where the buffer is empty.
abbrev pub Gives : Input → List ℕ → Sends → Sends → Type 0
Gives (input.Got count) buf old new = (old.coming ≡ take count buf ++ new.coming) ×
    (new.ends ≡ old.ends)
Gives input.NotYet buf old new = (new ≡ old) ×
    ((buf ≡ []) ⊎ ((old.coming ≡ []) × (old.ends ≡ false)))
Gives input.End buf old new = (new ≡ old) × (old.coming ≡ []) × (old.ends ≡ true)
Gives input.Failed buf old new = new ≡ old

-- one peer is read
pub record OneGives (id : ℕ) (r : Input) (buf : List ℕ) (old new : ℕ → Sends) : Type 0 where
  pub own : Gives r buf (old id) (new id)
  pub others : (c : ℕ) → c ≢ id → new c ≡ old c

-- one peer begins to send
pub record OneBegins (id : ℕ) (s : Sends) (old new : ℕ → Sends) : Type 0 where
  pub own : new id ≡ s
  pub others : (c : ℕ) → c ≢ id → new c ≡ old c

-- no link has this id
pub record IsAbsent (peers : List Peer) (id : ℕ) : Type 0 where
  pub view : links_in peers id ≡ unopened
  pub used : used_in peers id ≡ false
  pub held : held_in peers id ≡ false
  pub faults : faults_in peers id ≡ 0

-- this link has this id
pub record IsAt (peers : List Peer) (id : ℕ) (p : Peer) : Type 0 where
  pub view : links_in peers id ≡ view_of p
  pub used : used_in peers id ≡ true
  pub held : held_in peers id ≡ p.held
  pub faults : faults_in peers id ≡ p.faults

-- the link of this id changes so, and no other; none is opened or closed, and no count falls
pub record Changes (id : ℕ) (f : LinkView → LinkView) (old new : List Peer) : Type 0 where
  pub told : Updated id f (links_in old) (links_in new)
  pub used : Same (used_in old) (used_in new)
  pub held : Same (held_in old) (held_in new)
  pub crowd : crowd_in new ≡ crowd_in old
  pub later : (c : ℕ) → faults_in old c ≤ faults_in new c

-- what a notice of the script makes of the links, and of the count of faults
pub record Reports (n : Notice) (old new : List Peer) (faults faults' : ℕ) : Type 0 where
  pub told : Noticed n (crowd_in old) (links_in old) (links_in new)
  pub crowd : crowd_in new ≡ crowd_after n (crowd_in old)
  pub ids : Opens n (used_in old) (used_in new) (held_in old) (held_in new)
  pub link_faults : (c : ℕ) → faults_in old c ≤ faults_in new c
  pub later : faults ≤ faults'
  pub cause : n ≡ notice.Failed → Rose faults faults'

-- a notice of an open link, or of nothing
abbrev pub is_of_links : Notice → Bool
is_of_links (notice.Opened id local peer) = false
is_of_links (notice.Readable id) = true
is_of_links (notice.Writable id) = true
is_of_links notice.Nothing = true
is_of_links notice.Ended = false
is_of_links notice.Failed = false

-- the same of such a notice
pub record Heard (n : Notice) (old new : List Peer) : Type 0 where
  pub told : Noticed n (crowd_in old) (links_in old) (links_in new)
  pub crowd : crowd_in new ≡ crowd_after n (crowd_in old)
  pub ids : Opens n (used_in old) (used_in new) (held_in old) (held_in new)
  pub link_faults : (c : ℕ) → faults_in old c ≤ faults_in new c
  pub on : is_of_links n ≡ true

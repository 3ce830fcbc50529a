-- Laws of what the bytes at the front of a connection's input decide.
use Rattle.std.specs.Prelude.{◌≡◌, ◌≢◌, ℕ, Bool, ◌<◌, ◌≤◌, ◌⊎◌, List, [], ◌++◌, length, Some, None}
use Rattle.httparse.specs.Grammar.{RequestHead, print_request, ReadsRequest, HasNoRequest, NeverHasRequest}
use Rattle.httparse.specs.Spans.{RequestOverflows}
use Rattle.req_head.specs.Lines.{whole_lines}
use Rattle.req_head.specs.FirstLine.{asks_head}
use Rattle.req_head.specs.Heads.{head_of, fault_in}
use Rattle.req_head.specs.Step.{looked, head_step}
use Rattle.req_head.specs.declared.head.HeadStep.{HeadStep}
use Rattle.req_head.specs.declared.head.Head.{Head as HeadParts}
use Rattle.req_head.specs.declared.head.HeadStep.TheVariants.{More, Head, Bad}

-- before the first byte, more are waited for
abbrev pub AwaitsFirst : Type 0
AwaitsFirst = head_step [] ≡ More

-- a head stays, whatever follows
abbrev pub HeadStays : Type 0
HeadStays = (bytes more : List ℕ) (head : HeadParts) (size : ℕ) → head_step bytes ≡ Head head size → head_step (bytes ++ more) ≡ Head head size

-- a refusal stays, whatever follows
abbrev pub RefusalStays : Type 0
RefusalStays = (bytes more : List ℕ) (code : ℕ) (no_body : Bool) → head_step bytes ≡ Bad code no_body → head_step (bytes ++ more) ≡ Bad code no_body

-- a head has at least one byte, and no more than there are and than are looked at
abbrev pub SizeFits : Type 0
SizeFits = (bytes : List ℕ) (head : HeadParts) (size : ℕ) → head_step bytes ≡ Head head size → (0 < size) × (size ≤ length bytes) × (size ≤ 8192)

-- 8192 bytes decide
abbrev pub FullDecides : Type 0
FullDecides = (bytes : List ℕ) → 8192 ≤ length bytes → head_step bytes ≢ More

-- a head is one of the grammar, with at most 64 fields, and passes the tests
pub record IsWhole (bytes : List ℕ) (head : HeadParts) (size : ℕ) : Type 0 where
  pub h : RequestHead
  pub rest : List ℕ
  pub reads : ReadsRequest bytes h rest
  pub few : length h.fields ≤ 64
  pub passes : fault_in h ≡ None
  pub head_is : head ≡ head_of h
  pub size_is : size ≡ length (print_request h)

-- a whole head of more than 64 fields; a whole head that fails a test; no head can begin with the bytes up to the last LF;
-- 8192 bytes have no whole head; or there is none, and each that can begin with the bytes up to the last LF has more than 64
-- fields
abbrev pub IsRefused : List ℕ → ℕ → Type 0
IsRefused bytes code =
    ((h : RequestHead) × (rest : List ℕ) × ReadsRequest bytes h rest × (64 < length h.fields) × (code ≡ 400))
    ⊎ ((h : RequestHead) × (rest : List ℕ) × ReadsRequest bytes h rest × (length h.fields ≤ 64) × (fault_in h ≡ Some code))
    ⊎ (HasNoRequest bytes × NeverHasRequest (whole_lines bytes) × (code ≡ 400))
    ⊎ (HasNoRequest bytes × (8192 ≤ length bytes) × (code ≡ 400))
    ⊎ (HasNoRequest bytes × RequestOverflows 64 (whole_lines bytes) × (code ≡ 400))

-- what a step says of the bytes that are looked at, by the grammar of request heads. More are awaited where a head of at most 64
-- fields can begin with them
abbrev pub Says : List ℕ → HeadStep → Type 0
Says bytes (Head head size) = IsWhole bytes head size
Says bytes (Bad code no_body) = IsRefused bytes code × (no_body ≡ asks_head bytes)
Says bytes More = HasNoRequest bytes × (¬ (RequestOverflows 64 (whole_lines bytes))) × (length bytes < 8192)

-- what bytes decide is what the grammar says
abbrev pub GrammarDecides : Type 0
GrammarDecides = (bytes : List ℕ) → Says (looked bytes) (head_step bytes)

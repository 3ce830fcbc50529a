-- What holds of each head.
use Rattle.std.specs.Prelude.{◌≡◌, ℕ, ◌^◌, ◌<◌, ◌≤◌, Bool, true, not, ◌&&◌, ◌==◌, nat_lt, List, [], ◌∷◌, ◌++◌, length, map, decimal, Some, IfSome}
use Rattle.std.specs.List.{flat_map, list_all}
use Rattle.httparse.specs.Grammar.{Field, ResponseHead, ReadsResponse, status_code}
use Rattle.httparse.specs.Grammar.{crlf as crlf_end}
use Rattle.resp_head.specs.declared.head.ReplyHead.{ReplyHead}
use Rattle.resp_head.specs.Phrases.{phrase_of}
use Rattle.resp_head.specs.Head.{HeadField, crlf, fields_of, head_of}

-- the numbers fit the types that they have in code
pub record FitsTypes (r : ReplyHead) : Type 0 where
  pub status : r.status < 2 ^ 16
  pub length : IfSome r.length (λ n. n < 2 ^ 64)

-- neither CR nor LF
abbrev pub is_line_byte : ℕ → Bool
is_line_byte b = not (b == 13) && not (b == 10)

-- a line that isn't empty and holds no line end
abbrev pub is_line : List ℕ → Bool
is_line line = nat_lt 0 (length line) && list_all is_line_byte line

-- The bytes are such lines, each ended by CR LF, and then the empty line: they have no CR or LF elsewhere, and one head
-- is one head to every reader.
abbrev pub IsWholeHead : List ℕ → Type 0
IsWholeHead bytes =
    (lines : List (List ℕ)) × (list_all is_line lines ≡ true)
    × (bytes ≡ flat_map (λ line. line ++ crlf) lines ++ crlf)

-- no bytes of a `ReplyHead` split its response (CWE-113)
abbrev pub HeadIsWhole : Type 0
HeadIsWhole = (r : ReplyHead) → FitsTypes r → IsWholeHead (head_of r)

-- a field as the grammar of httparse has it, with a space before its value
unfoldable pub read_field : HeadField → Field
read_field f = record { name = f.0; raw = 32 ∷ f.1; end = crlf_end }

-- a head as that grammar has it
unfoldable pub response_of : ReplyHead → ResponseHead
response_of r = record {
  blank = [];
  minor = 1;
  digits = decimal r.status;
  reason = Some (phrase_of r.status);
  line_end = crlf_end;
  fields = map read_field (fields_of r);
  last = crlf_end;
}

-- a client reads the head of a status of three digits as that status and those fields, whatever follows it
abbrev pub HeadReadsBack : Type 0
HeadReadsBack =
    (r : ReplyHead) → FitsTypes r → 100 ≤ r.status → r.status < 1000
    → ((rest : List ℕ) → ReadsResponse (head_of r ++ rest) (response_of r) rest)
    × (status_code (response_of r) ≡ r.status)

-- What is known of a head's fields while they are read.
use Rattle.std.specs.Prelude.{◌≡◌, ℕ, List, [], ◌∷◌, codes, if◌then◌else◌}
use Rattle.http_header.specs.FieldValue.{FieldValue}
use Rattle.http_header.specs.HeaderMap.{Entries, get_all}
use Rattle.req_head.specs.Options.{same_word, has_option, has_value}
use Rattle.req_head.specs.declared.known.Values.{Values}
use Rattle.req_head.specs.declared.known.Values.TheVariants.{Nothing, One, Many}
use Rattle.req_head.specs.declared.known.Known.{Known}
use Rattle.req_head.specs.declared.known.Kind.{Kind}
use Rattle.req_head.specs.declared.known.Kind.TheVariants.{Host, Connection, Length, Coding, Expect, Other}

-- which field the name is of, in any case
unfoldable pub kind_of : List ℕ → Kind
kind_of name =
    if same_word (codes "host") name then Host
    else if same_word (codes "connection") name then Connection
    else if same_word (codes "content-length") name then Length
    else if same_word (codes "transfer-encoding") name then Coding
    else if same_word (codes "expect") name then Expect
    else Other

-- no value, one, or more, with the first
abbrev pub AreValues : List FieldValue → Values → Type 0
AreValues values Nothing = values ≡ []
AreValues values (One first) = (v : FieldValue) × (values ≡ v ∷ []) × (first.now ≡ v.bytes)
AreValues values (Many first) = (v : FieldValue) × (w : FieldValue) × (vs : List FieldValue) × (values ≡ v ∷ w ∷ vs) × (first.now ≡ v.bytes)

-- the bytes of the first, or no bytes
abbrev pub first_of : Values → List ℕ
first_of Nothing = []
first_of (One first) = first.now
first_of (Many first) = first.now

-- it is so of these fields
pub record IsKnown (fields : Entries FieldValue) (known : Known) : Type 0 where
  pub host : AreValues (get_all fields (codes "host")) known.host
  pub coding : AreValues (get_all fields (codes "transfer-encoding")) known.coding
  pub length : AreValues (get_all fields (codes "content-length")) known.length
  pub closes : known.closes ≡ has_option (codes "close") (get_all fields (codes "connection"))
  pub keeps_alive : known.keeps_alive ≡ has_option (codes "keep-alive") (get_all fields (codes "connection"))
  pub continues : known.continues ≡ has_value (codes "100-continue") (get_all fields (codes "expect"))

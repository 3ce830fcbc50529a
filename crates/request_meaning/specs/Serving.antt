-- The words of the meaning: what serving a request asks, and what it comes to.
use Rattle.std.specs.Prelude.{ℕ, Bool, true, false, List, Option}
use Rattle.acts.specs.Vars.{Vars}
use Rattle.acts.specs.Act.{Act, Done, Put, Call, Write, Inner}
use Rattle.addition_filter.specs.filter_api.declared.facts.Facts.{Facts}
use Rattle.addition_filter.specs.filter_api.Members.{Member}
use Rattle.file_path.specs.ngx_variables.declared.request.Main.{Main}
use Rattle.file_path.specs.ngx_variables.declared.request.Request.{Request}
use Rattle.file_path.specs.ngx_variables.declared.request.Role.{Role}
use Rattle.file_path.specs.ngx_variables.declared.request.Role.TheVariants as role
use Rattle.http_types.specs.declared.words.Method.{Method}
use Rattle.http_types.specs.declared.words.Method.TheVariants as methods
use Rattle.site_views.specs.Pattern.{Finds}
use Rattle.site_views.specs.Values.{Values, Shown}
use Rattle.site_views.specs.Views.{ServerView}

-- what stays the same while a main request is served: its server, what patterns find, the body filters in their order, and
-- the length that its head states of its own body (0 where it states none)
pub record World : Type 0 where
  pub server : ServerView
  pub finds : Finds
  pub members : List Member
  pub length : ℕ

-- What a subrequest is asked with: the main request as it is now, what it is to it, its path and arguments, the variables
-- with which its document begins, the text that takes its place where it fails or is empty, and whether its parent waits for
-- its end (https://nginx.org/en/docs/dev/development_guide.html#http_subrequests).
pub record Child : Type 0 where
  pub main : Main
  pub role : Role
  pub path : List ℕ
  pub args : List ℕ
  pub ssi : Vars
  pub stub : Option (List ℕ)
  pub waited : Bool

-- What is sent as the body: nothing, these bytes, or what the body filters make of these.
pub data Body : Type 0 where
  NoBody : Body
  Plain : (bytes : List ℕ) → Body
  Filtered : (facts : Facts) → (bytes : List ℕ) → Body

-- What a request answers beside its body: its status; the main request and the request as they are then, and the values of the
-- level that answers; the media type, the length where it is known, the date of the file, the target of a redirect; whether the
-- connection is closed after it, or at once without a head; and how many bytes of a file are read for it.
pub record Answer : Type 0 where
  pub status : ℕ
  pub main : Main
  pub request : Request
  pub values : Values
  pub kind : Option (List ℕ)
  pub length : Option ℕ
  pub known : Bool
  pub modified : Option ℕ
  pub location : Option (List ℕ)
  pub closes : Bool
  pub gone : Bool
  pub read : Option ℕ

-- an answer, and what is sent as its body
pub record Prepared : Type 0 where
  pub answer : Answer
  pub body : Body

-- the same with its whole body, which has the bodies of subrequests in their places
pub record Reply : Type 0 where
  pub answer : Answer
  pub body : List ℕ

abbrev pub Serving : Type 0 → Type 0
Serving A = Act Child Reply A

abbrev pub puts : List ℕ → List ℕ → Serving (Unit {0})
puts name value = Put name value (Done tt)

abbrev pub writes : List ℕ → Serving (Unit {0})
writes bytes = Write bytes (Done tt)

abbrev pub asks : Child → Serving Reply
asks child = Call child (λ reply. Done reply)

abbrev pub inner : Child → Serving (Unit {0})
inner child = Inner child (Done tt)

-- Where the phases begin: at the server's program; at the search of a location; or at a location `@name`, asked from a level
-- with these values.
pub data From : Type 0 where
  Start : From
  Find : From
  Named : (values : Values) → (name : List ℕ) → From

-- What a round of phases is asked: the main request and the request as they are now; where to begin; whether it is asked
-- from inside; the error that was handled last, and with which status its page is shown; and whether an error closes the
-- connection.
pub record Asked : Type 0 where
  pub main : Main
  pub request : Request
  pub from : From
  pub inside : Bool
  pub error : Option (ℕ × Shown)
  pub closes : Bool

-- where a request is within its phases: as it is now, the values of the level that holds, and whether it is inside
pub record Standing : Type 0 where
  pub request : Request
  pub values : Values
  pub inside : Bool

abbrev pub is_main_role : Role → Bool
is_main_role role.Main = true
is_main_role role.Content = false
is_main_role role.Auth = false

abbrev pub is_main : Request → Bool
is_main request = is_main_role request.role

abbrev pub is_auth : Request → Bool
is_auth request = elim request.role [
  | role.Main ↦ false
  | role.Content ↦ false
  | role.Auth ↦ true
]

abbrev pub is_head : Method → Bool
is_head methods.Get = false
is_head methods.Head = true
is_head methods.Post = false
is_head (methods.Other name) = false

-- The answers of a connection: the responses to its requests, one after another.
use Rattle.std.specs.Prelude.{ℕ, ◌+◌, nat_lt, Bool, true, false, List, [], ◌∷◌, ◌++◌, length, drop, codes, Option, None, Some, if◌then◌else◌}
use Rattle.std.specs.List.{list_any}
use Rattle.file_tree.specs.Tree.{Tree, Trees}
use Rattle.http_types.specs.declared.words.BodyKind.{BodyKind}
use Rattle.body_frame.specs.Outcome.{BodyOutcome, Whole, Short, Broken}
use Rattle.body_frame.specs.State.{body_of}
use Rattle.ngx_outside.specs.Views.{Start, Log}
use Rattle.req_head.specs.declared.head.Head.{Head as RequestHead}
use Rattle.req_head.specs.declared.head.HeadStep.{HeadStep}
use Rattle.req_head.specs.declared.head.HeadStep.TheVariants.{More, Head, Bad}
use Rattle.req_head.specs.Step.{head_step}
use Rattle.resp_head.specs.declared.head.ReplyHead.{ReplyHead}
use Rattle.resp_head.specs.Head.{head_of}
use Rattle.error_page.specs.Page.{page_of}
use Rattle.family_meaning.specs.site_views.Views.{ServerView}
use Rattle.family_meaning.specs.request_meaning.Serving.{Reply, is_head}
use Rattle.family_meaning.specs.request_meaning.Replies.{main_reply}
use Rattle.family_meaning.specs.request_meaning.Counts.{subs, most_subs}
use Rattle.family_meaning.specs.request_meaning.Responses.{response, keeps, log_of}
use Rattle.family_meaning.specs.Flight.{Terms}
use Rattle.answers_meaning.specs.Asking.{Service, main_of, request_of, world_of, server_for}

-- A response as it goes out: its bytes, what is logged of it, whether the connection stays open after it, and how many
-- subrequests were asked for it.
pub record Response : Type 0 where
  pub bytes : List ℕ
  pub log : Log
  pub stays : Bool
  pub subs : ℕ

-- what a response is asked with
unfoldable pub terms_of : (before : ℕ) → Start → RequestHead → Terms
terms_of before start head =
    record { moment = start.moment; version = head.version; no_body = is_head head.method; before = before; head_keeps = head.keep }

unfoldable pub reply_in : Service → Tree → Start → RequestHead → ServerView → Reply
reply_in service tree start head server =
    main_reply (world_of service server head) tree (main_of service start server head) (request_of server head)

abbrev pub response_with : Terms → (subs : ℕ) → Reply → Response
response_with t subs r =
    record {
      bytes = response r t.moment t.version t.no_body (keeps t.before t.head_keeps t.version r.answer);
      log = log_of r t.no_body;
      stays = keeps t.before t.head_keeps t.version r.answer;
      subs = subs;
    }

-- the head of a built-in page outside of any configuration, which closes
unfoldable pub refusal_head : (code : ℕ) → Start → ReplyHead
refusal_head code start =
    record {
      status = code;
      moment = start.moment;
      kind = Some (codes "text/html");
      length = Some (length (page_of code));
      modified = None;
      location = None;
      chunked = false;
      keep = false;
    }

abbrev pub content_of : (no_body : Bool) → List ℕ → List ℕ
content_of no_body page = if no_body then [] else page

-- the response to what is no head, or is refused
unfoldable pub refusal : (code : ℕ) → Start → (no_body : Bool) → Response
refusal code start no_body =
    record {
      bytes = head_of (refusal_head code start) ++ content_of no_body (page_of code);
      log = (code, length (content_of no_body (page_of code)));
      stays = false;
      subs = 0;
    }

unfoldable pub response_in : Service → Tree → (before : ℕ) → Start → RequestHead → Option ServerView → Response
response_in service tree before start head None = refusal 404 start (is_head head.method)
response_in service tree before start head (Some server) =
    response_with (terms_of before start head)
    (subs (world_of service server head) tree (main_of service start server head) (request_of server head))
    (reply_in service tree start head server)

-- the response to a head, from the tree of the request's start
unfoldable pub response_at : Service → Trees → (before : ℕ) → Start → RequestHead → Response
response_at service trees before start head = response_in service (trees start.tree) before start head (server_for service head)

-- What a connection does to answer its requests: it sends a response, or it closes (RFC 9112, 9.6).
pub data Answer : Type 0 where
  Sends : (response : Response) → Answer
  Closes : Answer

-- it closes, and nothing is answered after that
abbrev pub then_closes : List Answer
then_closes = Closes ∷ []

-- the answers to the bytes after a request's body (RFC 9112, section 6): none yet where it isn't whole, and after one that is
-- broken the connection closes
abbrev pub after_body : BodyOutcome → (ℕ → List Answer) → List Answer
after_body (Whole count) following = following count
after_body Short following = []
after_body Broken following = then_closes

-- a response, and the answers after it, unless it closes the connection
abbrev pub after_response : Response → List Answer → List Answer
after_response r following = Sends r ∷ (if r.stays then following else then_closes)

-- the response to the first head, and the answers to the bytes after it and its body
abbrev pub first_response : Service → Trees → (before : ℕ) → Start → HeadStep → (ℕ → BodyKind → List Answer) → List Answer
first_response service trees before start (Head head size) following =
    after_response (response_at service trees before start head) (following size head.body)
first_response service trees before start (Bad code no_body) following = Sends (refusal code start no_body) ∷ then_closes
first_response service trees before start More following = []

-- The answers to the requests of the input, which this many came before, each from the tree of its start. A request starts for
-- each of these entries, as far as the input has heads and whole bodies after them.
unfoldable pub responses : Service → (before : ℕ) → Trees → List ℕ → List Start → List Answer
responses service before trees input [] = []
responses service before trees input (start ∷ later) =
    first_response service trees before start (head_step input)
    (λ size kind. after_body (body_of kind (drop size input)) (λ count. responses service (before + 1) trees (drop count (drop size input)) later))

-- the bytes that are sent, what is logged, and whether the connection closes
abbrev pub bytes_in : List Answer → List ℕ
bytes_in [] = []
bytes_in (Sends r ∷ answers) = r.bytes ++ bytes_in answers
bytes_in (Closes ∷ answers) = bytes_in answers

abbrev pub logs_in : List Answer → List Log
logs_in [] = []
logs_in (Sends r ∷ answers) = r.log ∷ logs_in answers
logs_in (Closes ∷ answers) = logs_in answers

abbrev pub close_in : List Answer → Bool
close_in [] = false
close_in (Sends r ∷ answers) = close_in answers
close_in (Closes ∷ answers) = true

-- this asks for more subrequests than this many
abbrev pub is_over : (most : ℕ) → Answer → Bool
is_over most (Sends r) = nat_lt most r.subs
is_over most Closes = false

-- some request asks for more subrequests than this many; than are started for one
unfoldable pub any_over : (most : ℕ) → List Answer → Bool
any_over most answers = list_any (is_over most) answers

abbrev pub heavy_in : List Answer → Bool
heavy_in answers = any_over most_subs answers

-- the answers to the input: the bytes of the responses, one after another
abbrev pub answers : Service → (before : ℕ) → Trees → List ℕ → List Start → List ℕ
answers service before trees input later = bytes_in (responses service before trees input later)

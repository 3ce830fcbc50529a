-- A reply, as the recursive meaning prepares it.
use Rattle.std.specs.Prelude.{◌≡◌, ℕ, ◌||◌, Bool, true, false, List, length, Option, None, Some, is_some, option_map, if◌then◌else◌}
use Rattle.request_meaning.specs.addition_filter.Machine.{is_added}
use Rattle.error_page.specs.Page.{page_of}
use Rattle.filter_api.specs.declared.facts.Facts.{Facts}
use Rattle.request_meaning.specs.Serving as meaning
use Rattle.request_meaning.specs.Serving.{Prepared}
use Rattle.request_phases.specs.site_model.declared.site.Level.{Level}
use Rattle.request_meaning.specs.ssi_filter.Machine.{is_split}
use Rattle.request_meaning.specs.Answering.{is_unmodified}
use Rattle.request_phases.specs.declared.state.Phases.{Phases}
use Rattle.request_phases.specs.declared.state.Conclusion.{Conclusion}
use Rattle.request_phases.specs.declared.state.Conclusion.TheVariants as outcomes
use Rattle.request_reply.specs.declared.reply.Body.{Body}
use Rattle.request_reply.specs.declared.reply.Body.TheVariants.{Nothing, Page, Text, File}
use Rattle.request_reply.specs.declared.reply.Reply.{Reply}

-- bytes as they are sent, or as the filters make them that are told this
abbrev pub sent_as : Option Facts → List ℕ → meaning.Body
sent_as None bytes = meaning.Body.Plain bytes
sent_as (Some facts) bytes = meaning.Body.Filtered facts bytes

-- what is sent as the body, where these are the bytes of the file
abbrev pub body_seen : List ℕ → Option Facts → Body → meaning.Body
body_seen bytes facts Nothing = meaning.Body.NoBody
body_seen bytes facts (Page code) = meaning.Body.Plain (page_of code)
body_seen bytes facts (Text text) = sent_as facts text
body_seen bytes facts File = sent_as facts bytes

-- a text or a file
abbrev pub is_sent : Body → Bool
is_sent Nothing = false
is_sent (Page code) = false
is_sent (Text text) = true
is_sent File = true

-- server side includes or additions are named at a level
abbrev pub names_filters : Level → Bool
names_filters l = l.ssi || is_some l.before || is_some l.after

-- one of the filters that a server has acts on a body of which these facts hold
abbrev pub acts_on : Facts → Bool
acts_on facts = is_split facts || is_added facts

-- the file has the length that was told
abbrev pub FitsFile : Conclusion → List ℕ → Type 0
FitsFile (outcomes.File len date) bytes = length bytes ≡ len
FitsFile (outcomes.Text code text) bytes = Unit {0}
FitsFile (outcomes.Page code) bytes = Unit {0}
FitsFile (outcomes.Redirect code to) bytes = Unit {0}
FitsFile outcomes.Close bytes = Unit {0}

-- the status that is shown, or 304 where a file was not modified
abbrev pub status_in : Phases → (shown : ℕ) → (filtered : Bool) → (date : Option ℕ) → ℕ
status_in p shown filtered date = if is_unmodified p.main p.at.request shown filtered date then 304 else shown

-- a reply says what was prepared
pub record IsReply (reply : Reply) (bytes : List ℕ) (p : Prepared) : Type 0 where
  pub status : reply.status ≡ p.answer.status
  pub kind : option_map (λ k. k.now) reply.kind ≡ p.answer.kind
  pub len : reply.length ≡ p.answer.length
  pub known : reply.known ≡ p.answer.known
  pub modified : reply.modified ≡ p.answer.modified
  pub location : reply.location ≡ p.answer.location
  pub closes : reply.closes ≡ p.answer.closes
  pub gone : reply.gone ≡ p.answer.gone
  pub read : reply.read ≡ p.answer.read
  pub body : body_seen bytes reply.facts reply.body ≡ p.body

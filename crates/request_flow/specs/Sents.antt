-- What is sent for a reply.
use Rattle.std.specs.Prelude.{ℕ, ◌&&◌, ◌||◌, Bool, true, false, not, List, [], Option, None, Some, is_none, if◌then◌else◌}
use Rattle.acts.specs.Vars.{Vars}
use Rattle.file_tree.specs.Tree.{Tree, Trees, known_text, text_of, tree_of}
use Rattle.ngx_pattern.specs.Pattern.{Pattern as SetPattern}
use Rattle.site_model.specs.declared.site.Site.{Site}
use Rattle.request_meaning.specs.Serving.{World, Answer, Prepared, Body as MeantBody}
use Rattle.request_meaning.specs.Serving.Body.{NoBody, Plain, Filtered}
use Rattle.request_meaning.specs.Replies.{Came}
use Rattle.family_meaning.specs.Flight.{Terms}
use Rattle.reply_out.specs.request_phases.Rounds.{phases_left}
use Rattle.reply_out.specs.request_phases.declared.state.Conclusion.{Conclusion}
use Rattle.reply_out.specs.request_phases.declared.state.Conclusion.TheVariants as outcomes
use Rattle.reply_out.specs.request_phases.declared.state.Step.{Step}
use Rattle.reply_out.specs.request_reply.declared.reply.Body.{Body}
use Rattle.reply_out.specs.request_reply.declared.reply.Body.TheVariants as bodies
use Rattle.reply_out.specs.request_reply.declared.reply.Reply.{Reply}
use Rattle.reply_out.specs.declared.terms.InPhases.{InPhases}
use Rattle.reply_out.specs.declared.terms.Terms.{Terms as CodeTerms}
use Rattle.request_flow.specs.declared.steps.FileAt.{FileAt}
use Rattle.request_flow.specs.declared.steps.Known.{Known}
use Rattle.request_flow.specs.declared.steps.Known.TheVariants.{Nothing, Told}
use Rattle.request_flow.specs.Flows.{item_asked}
use Rattle.request_flow.specs.Terms.{terms_seen}
use Rattle.request_flow.specs.Padded.{padded}
use Rattle.request_flow.specs.Rests.{Rest, came_rest, act_rest}

-- no filter acts on the body of a reply, and its length is known, or it isn't sent
abbrev pub is_plain : CodeTerms → Reply → Bool
is_plain t reply = (reply.known || t.no_body) && is_none reply.facts

-- ---- what is known of the files

-- the bytes of the file that was told last
abbrev pub known_bytes : Known → Trees → List ℕ
known_bytes (Nothing of) trees = []
known_bytes (Told f) trees = padded f.len (known_text f.text (text_of (item_asked trees f.ask)))

abbrev pub known_tree : Known → ℕ
known_tree (Nothing of) = of
known_tree (Told f) = tree_of f.ask

abbrev pub known_len : Known → ℕ
known_len (Nothing of) = 0
known_len (Told f) = f.len

-- a body is sent, which is a file
abbrev pub is_file : Body → Bool
is_file bodies.Nothing = false
is_file (bodies.Page code) = false
is_file (bodies.Text text) = false
is_file bodies.File = true

abbrev pub sends_file : CodeTerms → Reply → Bool
sends_file t r = is_file r.body && not t.no_body && not r.gone

-- the file that is sent, if one is
abbrev pub file_known : (sends : Bool) → Known → Option FileAt
file_known sends (Nothing of) = None
file_known sends (Told f) = if sends then Some f else None

-- an answer with the file that was told, of this length
abbrev pub with_length : ℕ → Conclusion → Conclusion
with_length len (outcomes.Text code text) = outcomes.Text code text
with_length len (outcomes.File told date) = outcomes.File len date
with_length len (outcomes.Page code) = outcomes.Page code
with_length len (outcomes.Redirect code to) = outcomes.Redirect code to
with_length len outcomes.Close = outcomes.Close

-- ---- what is still to come

abbrev pub plain_bytes : MeantBody → List ℕ
plain_bytes NoBody = []
plain_bytes (Plain bytes) = bytes
plain_bytes (Filtered facts bytes) = []

abbrev pub came_as : Prepared → Vars → Came Answer
came_as p vars = record { result = p.answer; body = plain_bytes p.body; vars = vars }

-- where all of this is to be sent, on whose body no filter acts
abbrev pub prepared_rest : Terms → Prepared → Vars → Rest
prepared_rest t p vars = came_rest t (came_as p vars) 0

-- where a request in its phases made this step, and these are the bytes of the file
abbrev pub step_rest : World → List SetPattern → Site → Tree → InPhases → Step → List ℕ → Rest
step_rest w patterns site tree request step bytes =
    act_rest w tree (terms_seen request.terms)
    (phases_left w patterns site bytes request.phases step) request.vars

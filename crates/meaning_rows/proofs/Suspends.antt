-- Rows of suspended requests: what a request that begins comes to at its first question is what it still does there.
use Rattle.std.specs.Prelude.{◌≡◌, true, false, [], ◌∷◌, codes, refl, Some, None}
use Rattle.acts.specs.Act.{settled}
use Rattle.http_types.specs.declared.words.Method.TheVariants.{Get}
use Rattle.ngx_variables.specs.declared.request.Main.{Main}
use Rattle.ngx_variables.specs.declared.request.Request.{Request}
use Rattle.ngx_variables.specs.declared.value.Piece.TheVariants.{Builtin, Literal}
use Rattle.ngx_variables.specs.declared.variable.Variable.TheVariants.{Uri}
use Rattle.meaning_rows.proofs.Opened.{opened}
use Rattle.meaning_rows.proofs.Samples.{plain, level, server, world, lit, main_with, request_with}
use Rattle.meaning_rows.proofs.Phases.{testing}
use Rattle.request_meaning.specs.Serving.{World, Standing}
use Rattle.request_meaning.specs.Replies.{main_script, outside, most_changes, most_depth}
use Rattle.request_meaning.specs.Rewriting.{begins_at}
use Rattle.request_meaning.specs.Phases.{standing}
use Rattle.family_meaning.specs.Suspended.{rest_of}
use Rattle.family_meaning.specs.Suspended.Wait.{AtTest, AtAuth, AtTry, AtFile}
use Rattle.family_meaning.specs.Suspended.Suspended.{InPhases}
use Rattle.site_views.specs.Values.LastTry.{ToCode}
use Rattle.site_views.specs.Rewrites.Directive.{Return}
use Rattle.site_views.specs.Rewrites.FileTest.{IsFile}
use Rattle.site_views.specs.Views.Locations.{NoMore}

abbrev pub main : Main
main = main_with Get (codes "/x") []

abbrev pub request : Request
request = request_with Get (codes "/x") []

abbrev pub here : World → Standing
here w = standing (outside main request) w.server.level.values

abbrev pub site : World
site = world (server (level plain []) NoMore)

row_file : (settled (main_script site main request) []).0 ≡ rest_of site (InPhases most_changes most_depth [] (outside main request) (AtFile (codes "/w/x") (here site)))
unfolding opened
row_file = refl

row_test : (settled (main_script testing main request) []).0 ≡ rest_of testing (InPhases most_changes most_depth [] (outside main request) (AtTest (codes "/w/up") IsFile false 1 None (Return 503 None ∷ Return 200 (Some (lit "on")) ∷ []) (begins_at (here testing)) true))
unfolding opened
row_test = refl

abbrev pub trying : World
trying = world (server (level (record plain { tries = Some (record { names = (Builtin Uri ∷ []) ∷ (Literal (codes "/y") ∷ []) ∷ []; last = ToCode 404 }) }) []) NoMore)

row_try : (settled (main_script trying main request) []).0 ≡ rest_of trying (InPhases most_changes most_depth [] (outside main request) (AtTry (codes "/w/x") (codes "/x") ((Literal (codes "/y") ∷ []) ∷ []) (ToCode 404) (here trying)))
unfolding opened
row_try = refl

abbrev pub auth : World
auth = world (server (level (record plain { auth = Some (codes "/q"); auth_sets = (codes "u", Builtin Uri ∷ []) ∷ [] }) []) NoMore)

row_auth : (settled (main_script auth main request) []).0 ≡ rest_of auth (InPhases most_changes most_depth [] (outside main request) (AtAuth (codes "/q") (here auth)))
unfolding opened
row_auth = refl

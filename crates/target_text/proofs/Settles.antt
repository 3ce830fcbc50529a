-- What the meaning's acts of evaluating texts, and of looking for a file, come to.
use Rattle.std.proofs.Common.{◌≡◌, Option, Some, None, option_map, refl, ◌∙◌}
use Rattle.acts.specs.Vars.{Vars}
use Rattle.acts.specs.Act.{Done, ◌>>=◌, settled}
use Rattle.ngx_variables.specs.declared.request.Main.{Main}
use Rattle.ngx_variables.specs.declared.request.Request.{Request}
use Rattle.ngx_variables.specs.Texts.{value_text}
use Rattle.ngx_variables.specs.Acts.{value}
use Rattle.ngx_variables.proofs.Settles.{then_does, value_settles}
use Rattle.file_path.specs.Located.{Located, located_at}
use Rattle.file_path.specs.Located.Located.{TooLong, NotThere, At}
use Rattle.file_path.specs.Acts.{located_act}
use Rattle.file_path.proofs.Settles.{located_settles}
use Rattle.request_meaning.specs.site_views.Values.{Text}
use Rattle.request_meaning.specs.Serving.{Child, Reply}
use Rattle.request_meaning.specs.Cuts.{cut, fitting, some_value, target, fit_value}
use Rattle.request_meaning.specs.Contents.{item, item_at}
use Rattle.target_text.specs.Settled.{fit, target_text, FitValueSettles, TargetSettles, ItemSettles}

module _ (main : Main) (request : Request) (vars : Vars) where
  fit_settles : (text : Text) → settled (fit_value main request text) vars ≡ (Done (fit (value_text main request vars text)), vars)
  unfolding settled fit_value
  fit_settles text = then_does vars (value main request text) (λ bytes. Done (fit bytes)) (value_text main request vars text) (value_settles main request vars text)

  some_settles : (text : Option Text) → settled (some_value main request text) vars ≡ (Done (option_map (value_text main request vars) text), vars)
  unfolding settled some_value
  some_settles None = refl
  some_settles (Some text) = then_does vars (value main request text) (λ bytes. Done (Some bytes)) (value_text main request vars text) (value_settles main request vars text)

  target_settles_here : (text : Text) → settled (target main request text) vars ≡ (Done (target_text main request vars text), vars)
  unfolding settled target target_text
  target_settles_here text =
      then_does vars (value main request (cut text).path) (λ path. some_value main request (cut text).args >>= λ args. Done (fitting path args)) (value_text main request vars (cut text).path) (value_settles main request vars (cut text).path)
      ∙ then_does vars (some_value main request (cut text).args) (λ args. Done (fitting (value_text main request vars (cut text).path) args)) (option_map (value_text main request vars) (cut text).args) (some_settles (cut text).args)

  item_at_settles : (l : Located) → settled (item_at l) vars ≡ (item_at l, vars)
  unfolding settled
  item_at_settles TooLong = refl
  item_at_settles NotThere = refl
  item_at_settles (At path) = refl

pub fit_value_settles : FitValueSettles
fit_value_settles main request vars text = fit_settles main request vars text

pub target_settles : TargetSettles
target_settles main request vars text = target_settles_here main request vars text

pub item_settles : ItemSettles
unfolding item
item_settles main s vars uri =
    then_does vars (located_act {C = Child} {R = Reply} main s.request s.values.place uri) item_at (located_at main s.request vars s.values.place uri) (located_settles value_settles main s.request vars s.values.place uri)
    ∙ item_at_settles main s.request vars (located_at main s.request vars s.values.place uri)

-- What the calls of phases say of acts.
use Rattle.std.specs.Prelude.{◌≡◌, ℕ, List}
use Rattle.acts.specs.Vars.{Vars}
use Rattle.acts.specs.Act.{settled}
use Rattle.filter_api.specs.Members.{Member}
use Rattle.ngx_pattern.specs.Pattern.{Pattern as SetPattern}
use Rattle.ngx_variables.specs.declared.request.Main.{Main}
use Rattle.request_meaning.specs.Serving.{World, Serving, Asked, From, Prepared}
use Rattle.request_meaning.specs.Phases.{phases_from}
use Rattle.request_meaning.specs.Errors.{Decided}
use Rattle.rewrite_code.specs.declared.place.Progress.{Progress}
use Rattle.request_phases.specs.Rounds.{world_in, reached_in, phases_left}
use Rattle.request_phases.specs.declared.ground.Ground.{Ground}
use Rattle.request_phases.specs.declared.state.Phases.{Phases}
use Rattle.request_phases.specs.declared.state.Reached.{Reached}
use Rattle.request_phases.specs.declared.state.Step.{Step}

-- An act of a round, begun with these variables, settles as what the round came to, with those, where the bytes of the
-- file are these: whatever filters there are, and with whatever the round was asked for this main request.
abbrev pub Reaches : List SetPattern → Ground → Main → (World → Asked → Serving Decided) → Vars → List ℕ → Progress → Reached → Vars → Type 0
Reaches patterns g main act old bytes at reached new = (members : List Member) (a : Asked) →
    let w = world_in patterns g members in
    let b : Asked = record a { main = main } in
    settled (act w b) old ≡ (reached_in w patterns g.site.now b bytes at reached, new)

-- A round that begins where the request is settles as what it came to.
abbrev pub Begins : List SetPattern → Ground → Main → From → Vars → List ℕ → (start at : Progress) → Reached → Vars → Type 0
Begins patterns g main from old bytes start at reached new = (members : List Member) (a : Asked) →
    let w = world_in patterns g members in
    let b : Asked = record a { main = main; request = start.request; inside = start.inside } in
    settled (phases_from w b from) old ≡ (reached_in w patterns g.site.now b bytes at reached, new)

-- the same of all rounds
abbrev pub Steps : List SetPattern → Ground → (World → Serving Prepared) → Vars → List ℕ → Phases → Step → Vars → Type 0
Steps patterns g act old bytes p step new = (members : List Member) →
    let w = world_in patterns g members in
    settled (act w) old ≡ (phases_left w patterns g.site.now bytes p step, new)

-- Which variables a program reads before it sets them, directive by directive.
use Rattle.std.proofs.Common.{◌≡◌, ℕ, ◌||◌, ◌&&◌, Bool, true, false, not, List, [], ◌∷◌, map, bytes_eq, None, Some, refl, ap, sym, ◌∙◌}
use Rattle.site_model.specs.declared.site.Site.{Site}
use Rattle.site_model.specs.declared.program.RewriteStep.{RewriteStep}
use Rattle.site_model.specs.declared.program.RewriteStep.TheVariants as steps
use Rattle.site_views.specs.Pattern.{Pattern}
use Rattle.site_views.specs.Rewrites.{Directive, Program}
use Rattle.site_whole.specs.Whole.{step_seen}
use Rattle.race_meaning.specs.Reads.{in_directive, is_private_in, settled_after, block_after}
use Rattle.race_meaning.specs.Named.{begins_with_set}
use Rattle.race_check.specs.Numbers.{set_name}

-- what is read of a program whose first directive this is
noted_first : (s d r o : Bool) → (not r || ((d && not s) || o)) ≡ (not ((s || not d) && r) || o)
noted_first true true true o = refl
noted_first true true false o = refl
noted_first true false true o = refl
noted_first true false false o = refl
noted_first false true true o = refl
noted_first false true false o = refl
noted_first false false true o = refl
noted_first false false false o = refl

pub private_step : (name : List ℕ) (settled settled' : Bool) (block block' : ℕ) (d : Directive) (rest whole : Program) (o n : Bool) → whole ≡ d ∷ rest →
    n ≡ ((in_directive name d && not settled) || o) → settled' ≡ settled_after name settled block d → block' ≡ block_after block d →
    (not (is_private_in name settled' block' rest) || n) ≡ (not (is_private_in name settled block whole) || o)
unfolding is_private_in
private_step name settled settled' block block' d rest whole o n at noted settles blocks =
    ap (λ b. not (is_private_in name settled' block' rest) || b) noted
    ∙ ap (λ t. not (is_private_in name t block' rest) || ((in_directive name d && not settled) || o)) settles
    ∙ ap (λ k. not (is_private_in name (settled_after name settled block d) k rest) || ((in_directive name d && not settled) || o)) blocks
    ∙ noted_first settled (in_directive name d) (is_private_in name (settled_after name settled block d) (block_after block d) rest) o
    ∙ ap (λ l. not (is_private_in name settled block l) || o) (sym at)

pub private_over : (name : List ℕ) (settled : Bool) (block : ℕ) (rest : Program) → rest ≡ [] → (o : Bool) → (not (is_private_in name settled block rest) || o) ≡ o
unfolding is_private_in
private_over name settled block rest over o = ap (λ l. not (is_private_in name settled block l) || o) over

-- ---- the `set`s at the beginning

module _ (patterns : List Pattern) (site : Site) (name : List ℕ) where
  abbrev pub begins : List RewriteStep → Bool
  begins steps = begins_with_set name (map (step_seen patterns site) steps)

  begins_more : (step : RewriteStep) (set : List ℕ) (rest : List RewriteStep) → set_name step ≡ Some set → begins (step ∷ rest) ≡ (bytes_eq set name || begins rest)
  unfolding begins_with_set
  begins_more (steps.Set other text) set rest e = let same : other ≡ set = cc in ap (λ s. bytes_eq s name || begins rest) same
  begins_more (steps.If test negated block level) set rest e = cc
  begins_more (steps.Rewrite pattern to is_url flag) set rest e = cc
  begins_more (steps.Return code text) set rest e = cc
  begins_more steps.Stop set rest e = cc

  begins_no_more : (step : RewriteStep) (rest : List RewriteStep) → set_name step ≡ None → begins (step ∷ rest) ≡ false
  unfolding begins_with_set
  begins_no_more (steps.Set other text) rest e = cc
  begins_no_more (steps.If test negated block level) rest e = refl
  begins_no_more (steps.Rewrite pattern to is_url flag) rest e = refl
  begins_no_more (steps.Return code text) rest e = refl
  begins_no_more steps.Stop rest e = refl

  turned : (r p o : Bool) → (r || (p || o)) ≡ ((p || r) || o)
  turned true true o = refl
  turned true false o = refl
  turned false true o = refl
  turned false false o = refl

  pub first_more : (step : RewriteStep) (set : List ℕ) (rest whole : List RewriteStep) (o n : Bool) → whole ≡ step ∷ rest → set_name step ≡ Some set → n ≡ (bytes_eq set name || o) →
      (begins rest || n) ≡ (begins whole || o)
  first_more step set rest whole o n at is noted =
      ap (λ b. begins rest || b) noted ∙ turned (begins rest) (bytes_eq set name) o
      ∙ ap (λ b. b || o) (sym (begins_more step set rest is)) ∙ ap (λ l. begins l || o) (sym at)

  pub first_ends : (step : RewriteStep) (rest whole : List RewriteStep) (o : Bool) → whole ≡ step ∷ rest → set_name step ≡ None → o ≡ (begins whole || o)
  first_ends step rest whole o at is = ap (λ b. b || o) (sym (begins_no_more step rest is)) ∙ ap (λ l. begins l || o) (sym at)

  pub first_over : (rest : List RewriteStep) (o : Bool) → rest ≡ [] → o ≡ (begins rest || o)
  unfolding begins_with_set
  first_over rest o over = ap (λ l. begins l || o) (sym over)

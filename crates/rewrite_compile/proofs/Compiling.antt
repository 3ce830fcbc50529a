-- Directives taken up one after another.
use Rattle.std.proofs.Common.{◌≡◌, ℕ, suc, ◌+◌, Bool, true, false, List, [], ◌∷◌, ◌++◌, length, map, flat_map, Option, None, Some, option_map, is_some, Err, Contains, refl, sym, ap, ◌∙◌, subst, append_assoc, length-append, arith, if◌then◌else◌}
use Rattle.std.proofs.lemmas.Bool.{false≢true}
use Rattle.std.proofs.lemmas.List.{append-nil}
use Rattle.std.proofs.lemmas.List.Elements.{Contains-append_left, Contains-append_right}
use Rattle.conf_text.specs.declared.directive.Directive.{Directive}
use Rattle.std.specs.List.{list_any}
use Rattle.std.specs.Result.{IsErrOf}
use Rattle.conf_text.specs.declared.fault.FaultKind.{FaultKind}
use Rattle.conf_text.specs.declared.fault.FaultKind.TheVariants as kinds
use Rattle.conf_text.specs.declared.fault.ConfFault.{ConfFault}
use Rattle.conf_block.specs.Forest.{Forest, End, Branch}
use Rattle.ngx_pattern.specs.Pattern.{Pattern}
use Rattle.ngx_pattern.specs.declared.set.PatternFault.{PatternFault}
use Rattle.site_model.specs.declared.program.RewriteStep.{RewriteStep}
use Rattle.rewrite_compile.specs.declared.raw.RawStep.{RawStep}
use Rattle.rewrite_compile.specs.declared.raw.Reading.{Reading}
use Rattle.rewrite_compile.specs.declared.raw.Reading.TheVariants.{Step, Wrong}
use Rattle.rewrite_compile.specs.declared.part.Part.{Part}
use Rattle.source_lines.specs.declared.line.Line.{Line}
use Rattle.rewrite_compile.specs.declared.program.CompileError.{CompileError}
use Rattle.rewrite_compile.specs.declared.program.CompileError.TheVariants.{Fault, TooBig, OutOfMemory}
use Rattle.rewrite_compile.specs.Readings.{reading_by}
use Rattle.rewrite_compile.specs.Programs.{in_block, led_by, parts_of, fault_at, patterns_by, patterns_at, kind_by, own_fault, or_later, first_fault, refused_at, refusals, level_after, step_by, steps_from, line_at}
use Rattle.rewrite_compile.specs.Numbered.{patterns_in, is_bad}
use Rattle.rewrite_compile.specs.Failing.{Says, error_by}

-- ---- a level

pub led_more : (known : List ℕ → Bool) (d : Directive) (reading : Option Reading) (old new inner whole : List Part) (forest block beside : Forest)
    → forest ≡ Branch d block beside → reading ≡ reading_by known d.name d.args
    → inner ≡ in_block reading (parts_of known block)
    → new ≡ old ++ led_by d reading inner
    → old ++ parts_of known forest ≡ whole → new ++ parts_of known beside ≡ whole
unfolding parts_of
led_more known d reading old new inner whole forest block beside f r i n w =
    ap (λ l. l ++ parts_of known beside) n
    ∙ append_assoc old (led_by d reading inner) (parts_of known beside)
    ∙ ap (λ l. old ++ (led_by d reading l ++ parts_of known beside)) i
    ∙ ap (λ r. old ++ (led_by d r (in_block r (parts_of known block)) ++ parts_of known beside)) r
    ∙ ap (λ f. old ++ parts_of known f) (sym f)
    ∙ w

pub led_end : (known : List ℕ → Bool) (parts whole : List Part) (forest : Forest) → forest ≡ End → parts ++ parts_of known forest ≡ whole → parts ≡ whole
unfolding parts_of
led_end known parts whole forest e w = sym (append-nil parts) ∙ ap (λ f. parts ++ parts_of known f) (sym e) ∙ w

-- ---- what parts make, one more

either_way : (b : Bool) (faults : List ConfFault) → (if b then faults else faults) ≡ faults
either_way true faults = refl
either_way false faults = refl

module _ (part : Part) (rest items : List Part) (at : items ≡ part ∷ rest) where
  pub steps_more : (old new : List RewriteStep) (step : RewriteStep) (ps qs : List Pattern) (level next : Option ℕ) (whole : List RewriteStep)
      → step_by (length ps) level part.block part.reading ≡ step ∷ [] → new ≡ old ++ step ∷ []
      → qs ≡ ps ++ patterns_by part.reading → next ≡ level_after level part.reading
      → old ++ steps_from (length ps) level items ≡ whole → new ++ steps_from (length qs) next rest ≡ whole
  unfolding steps_from
  steps_more old new step ps qs level next whole s n q l w =
      ap (λ x. x ++ steps_from (length qs) next rest) n
      ∙ append_assoc old (step ∷ []) (steps_from (length qs) next rest)
      ∙ ap (λ x. old ++ (x ++ steps_from (length qs) next rest)) (sym s)
      ∙ ap (λ x. old ++ (step_by (length ps) level part.block part.reading ++ steps_from x next rest)) (ap length q ∙ length-append ps (patterns_by part.reading))
      ∙ ap (λ x. old ++ (step_by (length ps) level part.block part.reading ++ steps_from (length ps + length (patterns_by part.reading)) x rest)) l
      ∙ ap (λ x. old ++ steps_from (length ps) level x) (sym at)
      ∙ w

  pub lines_more : (old new : List Line) (line : Line) (whole : List Line) → new ≡ old ++ line ∷ [] → line ≡ line_at part
      → old ++ map line_at items ≡ whole → new ++ map line_at rest ≡ whole
  lines_more old new line whole n l w =
      ap (λ x. x ++ map line_at rest) n
      ∙ append_assoc old (line ∷ []) (map line_at rest)
      ∙ ap (λ x. old ++ (x ∷ map line_at rest)) l
      ∙ ap (λ x. old ++ map line_at x) (sym at)
      ∙ w

  pub patterns_more : (old new whole : List Pattern) → new ≡ old ++ patterns_by part.reading
      → old ++ flat_map patterns_at items ≡ whole → new ++ flat_map patterns_at rest ≡ whole
  patterns_more old new whole n w =
      ap (λ x. x ++ flat_map patterns_at rest) n
      ∙ append_assoc old (patterns_by part.reading) (flat_map patterns_at rest)
      ∙ ap (λ x. old ++ flat_map patterns_at x) (sym at)
      ∙ w

  pub fault_more : (whole : Option ConfFault) → kind_by part.reading ≡ None → first_fault items ≡ whole → first_fault rest ≡ whole
  unfolding first_fault
  fault_more whole fine w =
      sym (ap (λ k. or_later (option_map (fault_at part.spot) k) (first_fault rest)) fine) ∙ ap first_fault (sym at) ∙ w

  pub refusals_more : (fault : ConfFault) → kind_by part.reading ≡ None → Contains (refusals rest) fault → Contains (refusals items) fault
  unfolding refusals
  refusals_more fault fine there =
      subst (λ x. Contains (refusals x) fault) (sym at)
      (Contains-append_right (refused_at part) _ fault
      (subst (λ k. Contains (if is_some k then [] else refusals rest) fault) (sym fine) there))

  -- the fault of the next is that of all
  pub says_here : (refused : Type 0) (e : CompileError) → Says refused (part ∷ []) e → Says refused items e
  unfolding first_fault refusals
  says_here refused (Fault fault) s = ap first_fault at ∙ stays (own_fault part) (first_fault rest) fault s
    where
      stays : (own later : Option ConfFault) (fault : ConfFault) → or_later own None ≡ Some fault → or_later own later ≡ Some fault
      stays None later fault e = absurd (false≢true (ap is_some e))
      stays (Some own) later fault e = e
  says_here refused (TooBig fault) s = (
    s.0,
    subst (λ x. Contains (refusals x) fault) (sym at) (Contains-append_left (refused_at part) _ fault
        (subst (λ x. Contains x fault) (ap (λ x. refused_at part ++ x) (either_way (is_some (kind_by part.reading)) []) ∙ append-nil (refused_at part)) s.1)),
  )
  says_here refused OutOfMemory s = tt

pub says_later : (before now : Type 0) (items whole : List Part) (e : CompileError) → (before → now) → first_fault items ≡ first_fault whole
    → ((f : ConfFault) → Contains (refusals items) f → Contains (refusals whole) f) → Says before items e → Says now whole e
says_later before now items whole (Fault fault) r f c s = sym f ∙ s
says_later before now items whole (TooBig fault) r f c s = (r s.0, c fault s.1)
says_later before now items whole OutOfMemory r f c s = tt

-- ---- none more

pub nothing_left : (items : List Part) → length items ≡ 0 → items ≡ []
nothing_left [] e = refl
nothing_left (part ∷ parts) e = absurd (omega (arith, e))

module _ (items : List Part) (over : items ≡ []) where
  pub steps_over : (made : List RewriteStep) (number : ℕ) (level : Option ℕ) (whole : List RewriteStep) → made ++ steps_from number level items ≡ whole → made ≡ whole
  unfolding steps_from
  steps_over made number level whole w = sym (append-nil made) ∙ ap (λ x. made ++ steps_from number level x) (sym over) ∙ w

  pub lines_over : (made whole : List Line) → made ++ map line_at items ≡ whole → made ≡ whole
  lines_over made whole w = sym (append-nil made) ∙ ap (λ x. made ++ map line_at x) (sym over) ∙ w

  pub patterns_over : (made whole : List Pattern) → made ++ flat_map patterns_at items ≡ whole → made ≡ whole
  patterns_over made whole w = sym (append-nil made) ∙ ap (λ x. made ++ flat_map patterns_at x) (sym over) ∙ w

  pub fault_over : (whole : Option ConfFault) → first_fault items ≡ whole → whole ≡ None
  unfolding first_fault
  fault_over whole w = sym w ∙ ap first_fault over

-- ---- the error of a directive alone

pub wrong_says : (refused : Type 0) (part : Part) (kind : FaultKind) → part.reading ≡ Wrong kind → Says refused (part ∷ []) (Fault (fault_at part.spot kind))
unfolding first_fault
wrong_says refused part kind e = ap (λ k. or_later (option_map (fault_at part.spot) (kind_by k)) None) e

one_of : (ps : List Pattern) (fault : ConfFault) (more : List ConfFault) → length ps ≡ 1 → Contains (map (λ p. fault) ps ++ more) fault
one_of [] fault more e = absurd (omega (arith, e))
one_of (p ∷ ps) fault more e = (0, omega arith, refl)

pub pattern_says : (refused : Type 0) (part : Part) (raw : RawStep) (fault : PatternFault) → part.reading ≡ Step raw → length (patterns_in raw) ≡ 1
    → (IsErrOf {T = RewriteStep} (Err fault) PatternFault.Bad → list_any is_bad (patterns_in raw) ≡ true) → (IsErrOf {T = RewriteStep} (Err fault) PatternFault.TooBig → refused)
    → Says refused (part ∷ []) (error_by part.spot fault)
unfolding first_fault refusals
pattern_says refused part raw PatternFault.Bad e one bad big =
    ap (λ k. or_later (option_map (fault_at part.spot) (kind_by k)) None) e
    ∙ ap (λ b. or_later (option_map (fault_at part.spot) (if b then Some kinds.Pattern else None)) None) (bad refl)
pattern_says refused part raw PatternFault.TooBig e one bad big = (
  big refl,
  subst (λ k. Contains (map (λ p. fault_at part.spot kinds.PatternTooBig) (patterns_by k) ++ (if is_some (kind_by k) then [] else [])) (fault_at part.spot kinds.PatternTooBig)) (sym e)
      (one_of (patterns_in raw) (fault_at part.spot kinds.PatternTooBig) _ one),
)
pattern_says refused part raw PatternFault.OutOfMemory e one bad big = tt

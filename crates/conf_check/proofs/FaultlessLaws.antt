-- A configuration has no fault, or its first one is told.
use Rattle.std.proofs.Common.{◌≡◌, ℕ, Bool, false, List, [], Result, Ok, Err, refl, sym, ap, ◌∙◌, subst}
use Rattle.conf_text.specs.declared.directive.Directive.{Directive}
use Rattle.conf_text.specs.declared.fault.ConfFault.{ConfFault}
use Rattle.conf_check.specs.declared.error.ReadError.{ReadError}
use Rattle.conf_check.specs.declared.error.ReadError.TheVariants as reads
use Rattle.http_types.specs.declared.words.Addr.{Addr}
use Rattle.conf_table.specs.declared.rule.Context.TheVariants as places
use Rattle.conf_block.specs.declared.role.Content.TheVariants.{Directives}
use Rattle.conf_block.specs.Forest.{Forest, forest_of}
use Rattle.conf_block.specs.Blocks.{http_in}
use Rattle.conf_check.specs.Gives.{◌>>◌, sound, FailsBy, Reads}
use Rattle.conf_check.specs.Names.{is_set_in}
use Rattle.conf_check.specs.Checked.{checked}
use Rattle.conf_check.specs.Faultless.{some_server, no_fault, only, faultless}
use Rattle.conf_check.proofs.CheckLaws.{then-ok, reads-then, reads-same, same_ends}

-- what a part gives alone
pub only-gives : {A : Type 0} (R : Type 0) (view : Unit {0} → A) (r : Result (Unit {0}) ReadError) (meant : Result A ConfFault) → Reads R view r meant → Reads R (λ x. x) r (only meant)
only-gives R view (Ok x) meant h = ap only h
only-gives R view (Err (reads.Fault f)) meant h = ap only h
only-gives R view (Err (reads.TooBig f)) meant h = h
only-gives R view (Err reads.OutOfMemory) meant h = tt

pub no_fault-gives : (R : Type 0) (known : List ℕ → Bool) (marked : Addr → Bool) (view : Unit {0} → (Addr → Bool)) (r : Result (Unit {0}) ReadError) (top : Forest)
    → known ≡ is_set_in (Directives places.Top) top → ((q : Addr) → marked q ≡ false) → Reads R view r (checked known marked (Directives places.Top) [] top) → Reads R (λ x. x) r (no_fault top)
unfolding no_fault
no_fault-gives R known marked view r top k m h =
    only-gives R view r (checked (is_set_in (Directives places.Top) top) (λ addr. false) (Directives places.Top) [] top)
    (subst (Reads R view r) (λ i. checked (k i) (same_ends marked (λ addr. false) m i) (Directives places.Top) [] top) h)

-- the parts, one after another

faultless-step : (ds : List Directive) → faultless ds ≡ (no_fault (forest_of ds) >> some_server (http_in (forest_of ds)))
unfolding faultless
faultless-step ds = refl

pub faultless-faulty : (R : Type 0) (e : ReadError) (ds : List Directive) → FailsBy R e (no_fault (forest_of ds)) → FailsBy R e (faultless ds)
faultless-faulty R e ds h =
    reads-same R e (no_fault (forest_of ds) >> some_server (http_in (forest_of ds))) (faultless ds) (sym (faultless-step ds))
    (reads-then R e (no_fault (forest_of ds)) (some_server (http_in (forest_of ds))) h)

after-faults : (ds : List Directive) → no_fault (forest_of ds) ≡ sound → faultless ds ≡ some_server (http_in (forest_of ds))
after-faults ds c = faultless-step ds ∙ then-ok (no_fault (forest_of ds)) tt (some_server (http_in (forest_of ds))) c

pub faultless-serverless : (R : Type 0) (e : ReadError) (ds http : List Directive) → no_fault (forest_of ds) ≡ sound → forest_of http ≡ http_in (forest_of ds)
    → FailsBy R e (some_server (forest_of http)) → FailsBy R e (faultless ds)
faultless-serverless R e ds http c i h = reads-same R e (some_server (forest_of http)) (faultless ds) (ap some_server i ∙ sym (after-faults ds c)) h

pub faultless-sound : (ds http : List Directive) → no_fault (forest_of ds) ≡ sound → forest_of http ≡ http_in (forest_of ds) → some_server (forest_of http) ≡ sound → faultless ds ≡ sound
faultless-sound ds http c i s = after-faults ds c ∙ ap some_server (sym i) ∙ s

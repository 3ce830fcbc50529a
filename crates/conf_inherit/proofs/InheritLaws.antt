-- Laws of what holds in a level.
use Rattle.std.proofs.Common.{◌≡◌, Bool, true, false, cond, ◌||◌, List, [], ◌∷◌, ◌++◌, Option, Some, unwrap_or, refl, ap, ◌∙◌}
use Rattle.conf_text.specs.declared.directive.Directive.{Directive}
use Rattle.conf_values.specs.declared.settings.Settings.{Settings}
use Rattle.conf_block.specs.Forest.{Forest, End, Branch, roots}
use Rattle.conf_inherit.specs.Values.{Stated, Values, own_or, has_items, has_types, either, over, with_directive, settings_in}
use Rattle.conf_inherit.specs.Laws.{StatedHolds, nothing}

stated-first : {A : Type 0} (o : Option A) (a d : A) → o ≡ Some a → unwrap_or o d ≡ a
stated-first o a d e = ap (λ o. unwrap_or o d) e

-- with no value of its own what is around it holds, and else its own
pub own-none : {A : Type 0} (has : A → Bool) (own outer : A) → has own ≡ false → own_or has own outer ≡ outer
own-none has own outer e = ap (λ t. cond t own outer) e

pub own-some : {A : Type 0} (has : A → Bool) (own outer : A) → has own ≡ true → own_or has own outer ≡ own
own-some has own outer e = ap (λ t. cond t own outer) e

pub stated-holds : (own : Stated) (outer : Values) → StatedHolds own outer
stated-holds own outer = record {
  place = λ place e. stated-first own.place place outer.place e;
  entries = λ entries e. stated-first own.entries entries outer.types.entries e;
  default_type = λ kind e. stated-first own.default_type kind outer.types.default_type e;
  lists = record {
    index = λ e. own-some has_items own.lists.index outer.lists.index e;
    pages = λ e. own-some has_items own.lists.pages outer.lists.pages e;
    rules = λ e. own-some has_items own.lists.rules outer.lists.rules e;
    auth_sets = λ e. own-some has_items own.lists.auth_sets outer.lists.auth_sets e;
    ssi_types = λ e. own-some has_types own.lists.ssi_types outer.lists.ssi_types e;
    addition_types = λ e. own-some has_types own.lists.addition_types outer.lists.addition_types e;
  };
  auth = λ path e. stated-first own.auth path outer.auth e;
  before = λ path e. stated-first own.before path outer.before e;
  after = λ path e. stated-first own.after path outer.after e;
  visible = λ names e. ap (λ o. either o outer.visible) e;
  internal = λ e. ap (λ t. t || outer.internal) e;
}

pub last-holds : (ds : List Directive) (d : Directive) (s : Settings) → settings_in (ds ++ d ∷ []) s ≡ with_directive d (settings_in ds s)
unfolding settings_in
last-holds [] d s = refl
last-holds (e ∷ ds) d s = last-holds ds d (with_directive e s)

pub outer-holds : (outer : Values) → over nothing outer ≡ outer
outer-holds outer = refl

-- the settings of a level, directive by directive

pub settings-none : (f : Forest) (s : Settings) → f ≡ End → settings_in (roots f) s ≡ s
unfolding settings_in roots
settings-none f s e = ap (λ f. settings_in (roots f) s) e

settings-step : (d : Directive) (block beside : Forest) (s : Settings) → settings_in (roots (Branch d block beside)) s ≡ settings_in (roots beside) (with_directive d s)
unfolding settings_in roots
settings-step d block beside s = refl

pub settings-branch : (f : Forest) (d : Directive) (block beside : Forest) (s : Settings) → f ≡ Branch d block beside → settings_in (roots f) s ≡ settings_in (roots beside) (with_directive d s)
settings-branch f d block beside s e = ap (λ f. settings_in (roots f) s) e ∙ settings-step d block beside s

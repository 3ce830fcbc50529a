use Rattle.std.proofs.Common.{◌≡◌, List, ℕ, Result, Ok, Err, refl, ap, ◌∙◌, subst}
use Rattle.replay_text.specs.declared.parts.Conf.{Conf}
use Rattle.conf_text.specs.declared.fault.ConfFault.{ConfFault}
use Rattle.conf_include.specs.Listings.{Names, IsNaming}
use Rattle.conf_include.specs.Asked.{IsAskedAt}
use Rattle.ngx_cli.specs.declared.site.ReadSite.{ReadSite}
use Rattle.ngx_cli.specs.declared.site.SiteError.{SiteError}
use Rattle.ngx_cli.specs.declared.site.SiteError.TheVariants as error
use Rattle.replay_confs.specs.Confs.{conf_tree}
use Rattle.ngx_cli.specs.Naming.{conf_names}
use Rattle.ngx_cli.specs.Running.{main_path}
use Rattle.ngx_cli.specs.Sites.{Configuration, Describes, OnFault, OnRefused, FailsIf, site_at}
use Rattle.ngx_cli.proofs.NamingLaws.{folders_have_their_names}
use Rattle.ngx_cli.proofs.script.site_of.Goals as goal

-- what was answered is said of the configurations, their names and the main one's path
found : (confs confs' : List Conf) (path path' : List ℕ) (result : Result ReadSite SiteError) → confs' ≡ confs → path' ≡ path →
    ((names : Names) → IsNaming (conf_tree confs') names → Describes (IsAskedAt (conf_tree confs') names path') result (site_at (conf_tree confs') names path')) →
    Describes (IsAskedAt (conf_tree confs) (conf_names confs) path) result (site_at (conf_tree confs) (conf_names confs) path)
found confs confs' path path' result c p h =
    subst (λ (q : List ℕ). Describes (IsAskedAt (conf_tree confs) (conf_names confs) q) result (site_at (conf_tree confs) (conf_names confs) q)) p
    (subst (λ (cs : List Conf). (names : Names) → IsNaming (conf_tree cs) names → Describes (IsAskedAt (conf_tree cs) names path') result (site_at (conf_tree cs) names path')) c h (conf_names confs) (folders_have_their_names confs).0)

fault_of : (asked : ConfFault → List ℕ → Type 0) (e : SiteError) (outcome : Result Configuration (ConfFault × List ℕ)) → Describes asked (Err e) outcome → OnFault e (λ fault at. outcome ≡ Err (fault, at))
fault_of asked (error.Fault placed) outcome d = d
fault_of asked (error.Failed placed) outcome d = tt
fault_of asked (error.TooBig placed) outcome d = tt
fault_of asked error.OutOfMemory outcome d = tt

refused_by : (e : SiteError) (before now made made' : ℕ) → FailsIf {A = ReadSite} (Err e) before now made made' → OnRefused e made made'
refused_by (error.Fault placed) before now made made' f = tt
refused_by (error.Failed placed) before now made made' f = tt
refused_by (error.TooBig placed) before now made made' f = f
refused_by error.OutOfMemory before now made made' f = tt

pub returns-in-Ok-clause-ok : goal.returns-in-Ok-clause-ok
returns-in-Ok-clause-ok g c =
    let d = found c.args.confs.now c.new-files.result.confs.now (main_path c.args.confs.now) c.main_path.result.now (Ok c.in-Ok.found)
    (c.new-files.ensures.confs ∙ c.as_slice.ensures) (c.main_path.ensures ∙ ap main_path c.as_slice-2.ensures) (c.in-Ok.ensures.exact refl refl) in
    record { directives = d.0; described = d.1; races = d.2; raceless = c.in-Ok.ensures.none }

pub returns-in-Err-clause-refused : goal.returns-in-Err-clause-refused
returns-in-Err-clause-refused g c = refused_by c.in-Err.error _ _ _ _ c.in-Err.ensures.cause

pub returns-in-Err-clause-fault : goal.returns-in-Err-clause-fault
returns-in-Err-clause-fault g c =
    fault_of _ c.in-Err.error (site_at (conf_tree c.args.confs.now) (conf_names c.args.confs.now) (main_path c.args.confs.now))
    (found c.args.confs.now c.new-files.result.confs.now (main_path c.args.confs.now) c.main_path.result.now (Err c.in-Err.error)
    (c.new-files.ensures.confs ∙ c.as_slice.ensures) (c.main_path.ensures ∙ ap main_path c.as_slice-2.ensures) (c.in-Err.ensures.exact refl refl))

-- A site is read, or the first fault.
use Rattle.std.proofs.Common.{◌≡◌, ℕ, Bool, List, [], map, Some, Result, Ok, Err, refl, sym, ap, ◌∙◌}
use Rattle.std.specs.Prelude.{codes}
use Rattle.conf_text.specs.declared.directive.Directive.{Directive}
use Rattle.conf_text.specs.declared.fault.ConfFault.{ConfFault}
use Rattle.conf_check.specs.declared.error.ReadError.{ReadError}
use Rattle.conf_check.specs.declared.error.ReadError.TheVariants as reads
use Rattle.site_model.specs.declared.site.Server.{Server}
use Rattle.conf_inherit.specs.declared.site.Built.{Built}
use Rattle.site_views.specs.Views.{SiteView}
use Rattle.site_whole.specs.Whole.{name_seen, listen_seen, server_whole, whole}
use Rattle.conf_block.specs.Forest.{Forest, forest_of, roots}
use Rattle.conf_block.specs.Listening.{listens_of, or_default}
use Rattle.conf_block.specs.Blocks.{blocks_of, http_in}
use Rattle.conf_check.specs.Gives.{◌>>◌, sound, FailsBy}
use Rattle.conf_check.specs.Faultless.{faultless}
use Rattle.conf_lists.specs.Hosts.{names_in, or_empty, first_shown, marked_in}
use Rattle.conf_inherit.specs.Values.{Values, word_in, stated, over, defaults, server_level}
use Rattle.conf_inherit.specs.Pools.{list_seen, patterns_in, level_built, named_built, server_built, site_built}
use Rattle.conf_inherit.specs.Built.{locations_in, named_in, server_with, server_in, site_of, set_in, built}

built-step : (folder : List ℕ) (ds : List Directive) → built folder ds ≡ (faultless ds >> Ok (site_of (set_in ds) folder (http_in (forest_of ds))))
unfolding built
built-step folder ds = refl

after : {A : Type 0} (r : Result (Unit {0}) ConfFault) (next : Result A ConfFault) → r ≡ sound → (r >> next) ≡ next
unfolding ◌>>◌
after r next e = ap (λ r. r >> next) e

faulty : {A : Type 0} (r : Result (Unit {0}) ConfFault) (next : Result A ConfFault) (fault : ConfFault) → r ≡ Err fault → (r >> next) ≡ Err fault
unfolding ◌>>◌
faulty r next fault e = ap (λ r. r >> next) e

pub built-faulty : (R : Type 0) (e : ReadError) (folder : List ℕ) (ds : List Directive) → FailsBy R e (faultless ds) → FailsBy R e (built folder ds)
built-faulty R (reads.Fault f) folder ds h = built-step folder ds ∙ faulty (faultless ds) (Ok (site_of (set_in ds) folder (http_in (forest_of ds)))) f h
built-faulty R (reads.TooBig f) folder ds h = h
built-faulty R reads.OutOfMemory folder ds h = tt

pub built-ok : (folder : List ℕ) (ds http : List Directive) (known : List ℕ → Bool) (site : SiteView) → faultless ds ≡ sound
    → known ≡ set_in ds → forest_of http ≡ http_in (forest_of ds) → site ≡ site_of known folder (forest_of http) → built folder ds ≡ Ok site
built-ok folder ds http known site a k i e =
    let meant : Result SiteView ConfFault = Ok (site_of (set_in ds) folder (http_in (forest_of ds))) in
    built-step folder ds ∙ after (faultless ds) meant a
    ∙ ap (λ k. Ok (site_of k folder (http_in (forest_of ds)))) (sym k) ∙ ap (λ f. Ok (site_of known folder f)) (sym i) ∙ ap Ok (sym e)

pub server-shown : (known : List ℕ → Bool) (b : Built) (s : Server) (body : Forest) (v : Values) → s.listens ≡ or_default (listens_of (roots body)) → s.defaults ≡ marked_in (roots body)
    → map (name_seen (patterns_in b)) s.names.items ≡ or_empty (names_in (blocks_of (codes "server_name") body)) → s.first_name ≡ first_shown (word_in (codes "server_name") body)
    → level_built b s.level ≡ server_level known v body → list_seen b s.locations.items ≡ locations_in known v body → map (named_built b) s.named.items ≡ named_in known v body
    → s.merge ≡ v.settings.merge → s.visible ≡ v.visible → server_built b s ≡ server_with known v body
unfolding server_whole
server-shown known b s body v a d n f l ls ns m x = λ i. record {
  listens = map (listen_seen (d i)) (a i);
  names = n i;
  first_name = f i;
  level = l i;
  locations = ls i;
  named = ns i;
  merge = m i;
  visible = x i;
}

pub site-shown : (known : List ℕ → Bool) (b : Built) (folder : List ℕ) (http : Forest) (v : Values) → b.site.folder ≡ folder → v ≡ over (stated (Some []) http) defaults
    → map (server_built b) b.site.servers.items ≡ map (server_in known v) (blocks_of (codes "server") http) → site_built b ≡ site_of known folder http
unfolding site_of whole
site-shown known b folder http v f e s = λ i. record { folder = f i; servers = (s ∙ ap (λ v. map (server_in known v) (blocks_of (codes "server") http)) e) i }

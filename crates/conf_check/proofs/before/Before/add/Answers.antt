use Rattle.std.proofs.Common.{◌≡◌, [], ◌||◌, ap, ◌∙◌, option_map}
use Rattle.std.specs.List.{list_any}
use Rattle.conf_block.specs.Roles.{role_of}
use Rattle.conf_check.specs.Ends.{with_end}
use Rattle.conf_block.specs.Listening.{address_by}
use Rattle.conf_check.specs.Keys.{key_by, in_front_key, same_key}
use Rattle.conf_check.specs.LocationSet.{has_location}
use Rattle.conf_check.specs.Ends.{has_end}
use Rattle.conf_check.proofs.BeforeLaws.{remembers-add}
use Rattle.conf_check.proofs.before.Before.add.Goals as goal

pub returns : goal.returns
returns c = λ earlier r.
    let role = c.role_of-role.ensures ∙ ap role_of c.as_slice-name.ensures in
    let named : c.address_by.result ≡ address_by (role_of c.args.directive.now.name) c.args.directive.now = c.address_by.ensures ∙ ap (λ r. address_by r c.args.directive.now) role in
    let keyed : option_map (λ k. (k.kind, k.text.now)) c.key_by.result ≡ key_by (role_of c.args.directive.now.name) c.args.directive.now = c.key_by.ensures ∙ ap (λ r. key_by r c.args.directive.now) role in
    remembers-add _ _ _ _ _ _ c.args.directive.now earlier
    (rw c.as_slice-name.ensures at c.in_ok-add_name.ensures)
    (λ q. c.in_ok-add_any.ensures q ∙ ap (λ o. with_end o (has_end c.args.self.now.addrs.keys) q) named)
    (λ kind text. c.in_ok-add_location.ensures kind text ∙ ap (λ o. list_any (same_key kind text) (in_front_key o []) || has_location c.args.self.now.locations kind text) keyed) r

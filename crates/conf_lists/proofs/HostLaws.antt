-- Names and addresses, directive by directive.
use Rattle.std.proofs.Common.{◌≡◌, List, [], ◌∷◌, ◌++◌, map, Option, None, Some, refl, sym, ap, ◌∙◌, append_assoc, append-nil}
use Rattle.http_types.specs.declared.words.Addr.{Addr}
use Rattle.site_views.specs.Views.{ServerName}
use Rattle.conf_text.specs.declared.directive.Directive.{Directive}
use Rattle.conf_block.specs.Forest.{Forest, End, Branch, roots}
use Rattle.conf_block.specs.Blocks.{Block}
use Rattle.conf_block.specs.Roles.{role_of}
use Rattle.conf_block.specs.Listening.{in_front}
use Rattle.conf_lists.specs.Hosts.{name_of, names_in, marked_by, marked_in}

pub roots-none : (f : Forest) → f ≡ End → roots f ≡ []
unfolding roots
roots-none f e = ap roots e

pub roots-branch : (d : Directive) (f block beside : Forest) → f ≡ Branch d block beside → roots f ≡ d ∷ roots beside
unfolding roots
roots-branch d f block beside e = ap roots e

pub names-more : (now then : List ServerName) (b : Block) (bs more : List Block) → bs ≡ b ∷ more → then ≡ now ++ map name_of b.head.args → then ++ names_in more ≡ now ++ names_in bs
names-more now then b bs more e n =
    ap (λ xs. xs ++ names_in more) n ∙ append_assoc now (map name_of b.head.args) (names_in more) ∙ ap (λ bs. now ++ names_in bs) (sym e)

pub names-end : (now : List ServerName) (bs : List Block) → bs ≡ [] → now ++ names_in bs ≡ now
names-end now bs e = ap (λ bs. now ++ names_in bs) e ∙ append-nil now

in_front-append : (addr : Option Addr) (xs ys : List Addr) → in_front addr (xs ++ ys) ≡ in_front addr xs ++ ys
in_front-append None xs ys = refl
in_front-append (Some addr) xs ys = refl

pub marked-branch : (d : Directive) (now then : List Addr) (addr : Option Addr) (f block beside : Forest) → f ≡ Branch d block beside → addr ≡ marked_by (role_of d.name) d
    → then ≡ now ++ in_front addr [] → then ++ marked_in (roots beside) ≡ now ++ marked_in (roots f)
marked-branch d now then addr f block beside e a n =
    ap (λ xs. xs ++ marked_in (roots beside)) n ∙ append_assoc now (in_front addr []) (marked_in (roots beside))
    ∙ ap (λ xs. now ++ xs) (sym (in_front-append addr [] (marked_in (roots beside))) ∙ ap (λ o. in_front o (marked_in (roots beside))) a ∙ sym (ap marked_in (roots-branch d f block beside e)))

pub marked-none : (now : List Addr) (f : Forest) → f ≡ End → now ++ marked_in (roots f) ≡ now
marked-none now f e = ap (λ ds. now ++ marked_in ds) (roots-none f e) ∙ append-nil now

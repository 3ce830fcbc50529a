-- The lines of `types` blocks, line by line.
use Rattle.std.proofs.Common.{◌≡◌, List, [], ◌∷◌, ◌++◌, sym, ap, ◌∙◌, append_assoc, append-nil}
use Rattle.file_type.specs.declared.types.TypeEntry.{TypeEntry}
use Rattle.conf_text.specs.declared.directive.Directive.{Directive}
use Rattle.conf_block.specs.Forest.{Forest, End, Branch, roots}
use Rattle.conf_block.specs.Blocks.{Block}
use Rattle.conf_inherit.specs.Values.{line_entries, lines_entries, all_entries}

roots-none : (f : Forest) → f ≡ End → roots f ≡ []
unfolding roots
roots-none f e = ap roots e

roots-branch : (d : Directive) (f block beside : Forest) → f ≡ Branch d block beside → roots f ≡ d ∷ roots beside
unfolding roots
roots-branch d f block beside e = ap roots e

pub lines-more : (now then : List TypeEntry) (d : Directive) (f block beside : Forest) → f ≡ Branch d block beside → then ≡ now ++ line_entries d
    → then ++ lines_entries (roots beside) ≡ now ++ lines_entries (roots f)
lines-more now then d f block beside e n =
    ap (λ xs. xs ++ lines_entries (roots beside)) n ∙ append_assoc now (line_entries d) (lines_entries (roots beside))
    ∙ ap (λ ds. now ++ lines_entries ds) (sym (roots-branch d f block beside e))

pub lines-end : (now : List TypeEntry) (f : Forest) → f ≡ End → now ++ lines_entries (roots f) ≡ now
lines-end now f e = ap (λ ds. now ++ lines_entries ds) (roots-none f e) ∙ append-nil now

pub blocks-more : (now then : List TypeEntry) (b : Block) (bs more : List Block) → bs ≡ b ∷ more → then ≡ now ++ lines_entries (roots b.body) → then ++ all_entries more ≡ now ++ all_entries bs
blocks-more now then b bs more e n =
    ap (λ xs. xs ++ all_entries more) n ∙ append_assoc now (lines_entries (roots b.body)) (all_entries more) ∙ ap (λ bs. now ++ all_entries bs) (sym e)

pub blocks-end : (now : List TypeEntry) (bs : List Block) → bs ≡ [] → now ++ all_entries bs ≡ now
blocks-end now bs e = ap (λ bs. now ++ all_entries bs) e ∙ append-nil now

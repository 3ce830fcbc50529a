use Rattle.std.proofs.Common.{◌≡◌, ◌+◌, ◌*◌, length}
use Rattle.std.specs.List.{AllByRecursion}
use Rattle.std.specs.Vec.Iter.{into_iter_items, into_iter_len}
use Rattle.file_tree.specs.Tree.{Tree}
use Rattle.conf_include.specs.Listings.{Names, IsNaming}
use Rattle.conf_include.specs.Expansion.{spot, put_all, put_file, put_line, named_by}
use Rattle.conf_include.specs.Told.{Later, IsTold}
use Rattle.conf_include.specs.Steps.{AreShallow, WhereTold, IsRead, IsNamed, IsLonger, onto, tally_of}
use Rattle.conf_include.proofs.include.Reading.+include.Given as goal

abbrev pub decreases-put_file : goal.decreases-put_file
decreases-put_file g l = 4 * l.left

abbrev pub decreases-put_files : goal.decreases-put_files
decreases-put_files g l = 4 * l.left + 1

abbrev pub decreases-put_line : goal.decreases-put_line
decreases-put_line g l = 4 * l.left + 2

abbrev pub decreases-put_lines : goal.decreases-put_lines
decreases-put_lines g l = 4 * l.left + 3

-- the files that are left, after what was put, are all files after what was there
abbrev pub invariant-put_files-loop-path : goal.invariant-put_files-loop-path
invariant-put_files-loop-path g l = record {
  listed : into_iter_len l.path-iterator ≡ length (into_iter_items l.path-iterator);
  later : Later (g.F.Files.seen l.initial.files)
      (g.F.Files.seen l.files);
  grows : IsLonger l.initial.self.paths l.self.paths;
  named : WhereTold l.setting.tree (g.F.Files.seen l.files)
      (λ tree names. AllByRecursion (IsNamed tree names l.setting.main.now l.self.paths (spot l.at.file l.at.line)) (into_iter_items l.path-iterator));
  left : (tree : Tree) (names : Names)
      → IsTold l.setting.tree tree (g.F.Files.seen l.files) → IsNaming tree names
      → onto l.self.lines l.depth (put_all (put_file tree names l.setting.main.now l.left (spot l.at.file l.at.line)) (into_iter_items l.path-iterator) (tally_of l.self))
      ≡ onto l.initial.self.lines l.depth (put_all (put_file tree names l.setting.main.now l.left (spot l.at.file l.at.line)) (into_iter_items l.initial.path-iterator) (tally_of l.initial.self));
}

-- the same of directives
abbrev pub invariant-put_lines-loop-line : goal.invariant-put_lines-loop-line
invariant-put_lines-loop-line g l = record {
  listed : into_iter_len l.line-iterator ≡ length (into_iter_items l.line-iterator);
  shallow : AreShallow (into_iter_items l.line-iterator);
  later : Later (g.F.Files.seen l.initial.files)
      (g.F.Files.seen l.files);
  grows : IsLonger l.initial.self.paths l.self.paths;
  read : WhereTold l.setting.tree (g.F.Files.seen l.files)
      (λ tree names. AllByRecursion (IsRead tree names l.setting.main.now l.self.paths) (into_iter_items l.line-iterator));
  left : (tree : Tree) (names : Names)
      → IsTold l.setting.tree tree (g.F.Files.seen l.files) → IsNaming tree names
      → onto l.self.lines l.depth (put_all (put_line (put_file tree names l.setting.main.now l.left) (named_by names l.setting.main.now)) (into_iter_items l.line-iterator) (tally_of l.self))
      ≡ onto l.initial.self.lines l.depth (put_all (put_line (put_file tree names l.setting.main.now l.left) (named_by names l.setting.main.now)) (into_iter_items l.initial.line-iterator) (tally_of l.initial.self));
}

use Rattle.std.proofs.Common.{◌≤◌, ◌<◌, ◌+◌, ◌*◌, ◌^◌, rules, ℕ, List, length, arith, ap, sym, ◌∙◌}
use Rattle.std.specs.Vec.Iter.{into_iter_items}
use Rattle.std.proofs.lemmas.Result.{err_from_is_err_and}
use Rattle.conf_include.specs.Paths.{path_of}
use Rattle.conf_include.specs.Expansion.{spot, paths_named, named_by, put_all, put_file, put_line, put_lines}
use Rattle.conf_include.specs.Steps.{onto, tally_of}
use Rattle.conf_include.proofs.ToldLaws.{later_then, told_before}
use Rattle.conf_include.proofs.AnswerLaws.{stop_same, run_stop, run_go, run_done, nothing_left}
use Rattle.conf_include.proofs.IncludeLaws.{file_stop_left, file_stop_open, file_opened, line_plain, line_include}
use Rattle.conf_include.proofs.AskedLaws.{all_map, longer_then, read_longer, named_longer, all_named, opened_read, failed_file, failed_folder}
use Rattle.conf_include.proofs.include.Reading.+include.Goals as goal

pub put_file-returns-in_err-left-clause-exact : goal.put_file-returns-in_err-left-clause-exact
put_file-returns-in_err-left-clause-exact g t c tree names told naming =
    let p = err_from_is_err_and c.from_residual.result c.from_residual.ensures.1 in
    let self = c.args.self.now in
    rw (p.1, p.2)
    (file_stop_left tree names c.args.setting.now.main.now c.args.left (spot c.args.at.file c.args.at.line) c.args.path (tally_of self) c.in_err-left.field-0.0 self.lines c.args.depth
    (rw c.as_slice.ensures at (c.in_err-left.ensures.left self.paths)))

pub put_file-returns-in_err-lines-clause-exact : goal.put_file-returns-in_err-lines-clause-exact
put_file-returns-in_err-lines-clause-exact g t c tree names told naming =
    let p = err_from_is_err_and c.from_residual-in_err-lines.result c.from_residual-in_err-lines.ensures.1 in
    let self = c.args.self.now in
    rw (p.1, p.2)
    (file_stop_open tree names c.args.setting.now.main.now c.args.left c.in_ok-left.left (spot c.args.at.file c.args.at.line) c.args.path (tally_of self) c.in_err-lines.field-0.0 self.lines c.args.depth c.open.new.self.paths
    (rw c.as_slice.ensures at (c.in_ok-left.ensures.left self.paths)) (c.in_err-lines.ensures.opens tree told))

pub put_file-returns-in_err-put_lines-clause-exact : goal.put_file-returns-in_err-put_lines-clause-exact
put_file-returns-in_err-put_lines-clause-exact g t c tree names told naming =
    let p = err_from_is_err_and c.from_residual-in_err-put_lines.result c.from_residual-in_err-put_lines.ensures.1 in
    let self = c.args.self.now in
    let main = c.args.setting.now.main.now in
    let below = c.in_ok-left.left in
    let e = c.in_err-put_lines.field-0.0 in
    let within : c.args.setting.now.tree ≤ (g.F.Files.seen c.open.new.files).newest = omega (arith, c.requires.known, c.in_ok-lines.ensures.later.newest) in
    let before = told_before c.args.setting.now.tree tree _ _ c.in_err-put_lines.ensures.later within told in
    let opened = file_opened tree names main c.args.left below (spot c.args.at.file c.args.at.line) c.args.path (tally_of self) (tally_of c.open.new.self) c.in_ok-lines.lines self.lines c.args.depth
    (rw c.as_slice.ensures at (c.in_ok-left.ensures.left self.paths)) (c.in_ok-lines.ensures.opens tree before) in
    rw (p.1, p.2)
    (stop_same e _ _ c.put_lines.new.self.paths
    (opened ∙ ap (λ l. onto l c.args.depth (put_lines tree names main below c.in_ok-lines.lines (tally_of c.open.new.self))) (sym c.in_ok-lines.ensures.lines))
    (c.in_err-put_lines.ensures.exact tree names told naming))

pub put_file-returns-clause-exact : goal.put_file-returns-clause-exact
put_file-returns-clause-exact g t c tree names told naming =
    let self = c.args.self.now in
    let main = c.args.setting.now.main.now in
    let below = c.in_ok-left.left in
    let within : c.args.setting.now.tree ≤ (g.F.Files.seen c.open.new.files).newest = omega (arith, c.requires.known, c.in_ok-lines.ensures.later.newest) in
    let before = told_before c.args.setting.now.tree tree _ _ c.in_ok-put_lines.ensures.later within told in
    let opened = file_opened tree names main c.args.left below (spot c.args.at.file c.args.at.line) c.args.path (tally_of self) (tally_of c.open.new.self) c.in_ok-lines.lines self.lines c.args.depth
    (rw c.as_slice.ensures at (c.in_ok-left.ensures.left self.paths)) (c.in_ok-lines.ensures.opens tree before) in
    opened
    ∙ ap (λ l. onto l c.args.depth (put_lines tree names main below c.in_ok-lines.lines (tally_of c.open.new.self))) (sym c.in_ok-lines.ensures.lines)
    ∙ c.in_ok-put_lines.ensures.exact tree names told naming

pub put_line-returns-in_err-put_files-in-Some-clause-exact : goal.put_line-returns-in_err-put_files-in-Some-clause-exact
put_line-returns-in_err-put_files-in-Some-clause-exact g t c tree names told naming =
    let p = err_from_is_err_and c.from_residual-in_err-put_files-in-Some.result c.from_residual-in_err-put_files-in-Some.ensures.1 in
    let self = c.args.self.now in
    let main = c.args.setting.now.main.now in
    let line = c.args.line in
    let within : c.args.setting.now.tree ≤ (g.F.Files.seen c.paths_named.new.files).newest = omega (arith, c.requires.known, c.in_ok-paths-in-Some.ensures.later.newest) in
    let before = told_before c.args.setting.now.tree tree _ _ c.in_err-put_files-in-Some.ensures.later within told in
    let path = c.in_ok-path-in-Some.ensures ∙ ap (path_of main) c.as_slice.ensures in
    let paths = c.in_ok-paths-in-Some.ensures.paths c.args.setting.now.tree tree names c.requires.known before naming ∙ ap (paths_named names) path in
    rw (p.1, p.2)
    (stop_same c.in_err-put_files-in-Some.field-0.0 _ _ c.put_files.new.self.paths
    (line_include (put_file tree names main c.args.left) (named_by names main) line c.in-Some.word.now (tally_of self) self.lines c.args.depth (sym c.in-Some.ensures)
    ∙ ap (λ (ps : List (List ℕ)). onto self.lines (c.args.depth + line.depth) (put_all (put_file tree names main c.args.left (spot line.file line.line)) ps (tally_of self))) (sym paths))
    (c.in_err-put_files-in-Some.ensures.exact tree names told naming))

pub put_line-returns-in_ok-push-in-None-clause-exact : goal.put_line-returns-in_ok-push-in-None-clause-exact
put_line-returns-in_ok-push-in-None-clause-exact g t c tree names told naming =
    line_plain (put_file tree names c.args.setting.now.main.now c.args.left) (named_by names c.args.setting.now.main.now) c.args.line (tally_of c.args.self.now) c.args.self.now.lines c.push.new.self c.args.depth
    (sym c.in-None.ensures) c.in_ok-push-in-None.ensures.ok

pub put_line-returns-in_ok-put_files-in-Some-clause-exact : goal.put_line-returns-in_ok-put_files-in-Some-clause-exact
put_line-returns-in_ok-put_files-in-Some-clause-exact g t c tree names told naming =
    let self = c.args.self.now in
    let main = c.args.setting.now.main.now in
    let line = c.args.line in
    let within : c.args.setting.now.tree ≤ (g.F.Files.seen c.paths_named.new.files).newest = omega (arith, c.requires.known, c.in_ok-paths-in-Some.ensures.later.newest) in
    let before = told_before c.args.setting.now.tree tree _ _ c.in_ok-put_files-in-Some.ensures.later within told in
    let path = c.in_ok-path-in-Some.ensures ∙ ap (path_of main) c.as_slice.ensures in
    let paths = c.in_ok-paths-in-Some.ensures.paths c.args.setting.now.tree tree names c.requires.known before naming ∙ ap (paths_named names) path in
    line_include (put_file tree names main c.args.left) (named_by names main) line c.in-Some.word.now (tally_of self) self.lines c.args.depth (sym c.in-Some.ensures)
    ∙ ap (λ (ps : List (List ℕ)). onto self.lines (c.args.depth + line.depth) (put_all (put_file tree names main c.args.left (spot line.file line.line)) ps (tally_of self))) (sym paths)
    ∙ c.in_ok-put_files-in-Some.ensures.exact tree names told naming

pub put_files-returns-in_err-put_file-clause-exact : goal.put_files-returns-in_err-put_file-clause-exact
put_files-returns-in_err-put_file-clause-exact g t c tree names told naming =
    let p = err_from_is_err_and c.from_residual.result c.from_residual.ensures.1 in
    let at = c.loop-path in
    let within : c.args.setting.now.tree ≤ (g.F.Files.seen at.files).newest = omega (arith, c.requires.known, at.invariant.later.newest) in
    let before = told_before c.args.setting.now.tree tree _ _ c.in_err-put_file.ensures.later within told in
    rw (p.1, p.2)
    (run_stop (put_file tree names c.args.setting.now.main.now c.args.left (spot c.args.at.file c.args.at.line)) c.args.paths (into_iter_items c.into_iter-path-iterator.result) (into_iter_items at.path-iterator) (into_iter_items c.next.new.self) c.in-Some.path c.in_err-put_file.field-0.0
    c.args.self.now.lines at.self.lines c.args.depth (tally_of c.args.self.now) (tally_of at.self) c.put_file.new.self.paths
    c.in-Some.ensures.steps.0 (at.invariant.left tree names before naming) (c.into_iter-path-iterator.ensures.into_iter_gives.0 ∙ c.into_vec-path-items.ensures)
    (c.in_err-put_file.ensures.exact tree names told naming))

pub put_files-loop-path-preserved : goal.put_files-loop-path-preserved
put_files-loop-path-preserved g t c =
    let at = c.loop-path in
    let within : c.args.setting.now.tree ≤ (g.F.Files.seen at.files).newest = omega (arith, c.requires.known, at.invariant.later.newest) in
    record {
      listed = (let was = at.invariant.listed in let gone = c.in-Some.ensures.steps.1 in let short = ap length c.in-Some.ensures.steps.0 in omega arith);
      later = later_then _ _ _ at.invariant.later c.in_ok-put_file.ensures.later;
      grows = longer_then _ _ _ at.invariant.grows c.in_ok-put_file.ensures.grows;
      named = λ tree names told naming.
          let before = told_before c.args.setting.now.tree tree _ _ c.in_ok-put_file.ensures.later within told in
          let here = spot c.args.at.file c.args.at.line in
          all_map _ _ (into_iter_items c.next.new.self) (λ path. named_longer tree names c.args.setting.now.main.now at.self.paths c.put_file.new.self.paths here path c.in_ok-put_file.ensures.grows)
          (rw c.in-Some.ensures.steps.0 at (at.invariant.named tree names before naming)).1;
      left = λ tree names told naming.
          run_go (put_file tree names c.args.setting.now.main.now c.args.left (spot c.args.at.file c.args.at.line)) (into_iter_items at.path-iterator) (into_iter_items c.next.new.self) c.in-Some.path
          at.self.lines c.put_file.new.self.lines c.args.depth (tally_of at.self) (tally_of c.put_file.new.self) _ c.in-Some.ensures.steps.0
          (at.invariant.left tree names (told_before c.args.setting.now.tree tree _ _ c.in_ok-put_file.ensures.later within told) naming) (c.in_ok-put_file.ensures.exact tree names told naming);
    }

pub put_files-returns-clause-exact : goal.put_files-returns-clause-exact
put_files-returns-clause-exact g t c tree names told naming =
    let at = c.loop-path in
    let none = c.in-None.ensures.steps in
    run_done (put_file tree names c.args.setting.now.main.now c.args.left (spot c.args.at.file c.args.at.line)) c.args.paths (into_iter_items c.into_iter-path-iterator.result) (into_iter_items at.path-iterator)
    c.args.self.now.lines at.self.lines c.args.depth (tally_of c.args.self.now) (tally_of at.self)
    (nothing_left (into_iter_items at.path-iterator) (sym at.invariant.listed ∙ none.0)) (at.invariant.left tree names told naming) (c.into_iter-path-iterator.ensures.into_iter_gives.0 ∙ c.into_vec-path-items.ensures)

pub put_lines-returns-in_err-put_line-clause-exact : goal.put_lines-returns-in_err-put_line-clause-exact
put_lines-returns-in_err-put_line-clause-exact g t c tree names told naming =
    let p = err_from_is_err_and c.from_residual.result c.from_residual.ensures.1 in
    let at = c.loop-line in
    let main = c.args.setting.now.main.now in
    let within : c.args.setting.now.tree ≤ (g.F.Files.seen at.files).newest = omega (arith, c.requires.known, at.invariant.later.newest) in
    let before = told_before c.args.setting.now.tree tree _ _ c.in_err-put_line.ensures.later within told in
    rw (p.1, p.2)
    (run_stop (put_line (put_file tree names main c.args.left) (named_by names main)) c.args.lines (into_iter_items c.into_iter-line-iterator.result) (into_iter_items at.line-iterator) (into_iter_items c.next.new.self) c.in-Some.line c.in_err-put_line.field-0.0
    c.args.self.now.lines at.self.lines c.args.depth (tally_of c.args.self.now) (tally_of at.self) c.put_line.new.self.paths
    c.in-Some.ensures.steps.0 (at.invariant.left tree names before naming) (c.into_iter-line-iterator.ensures.into_iter_gives.0 ∙ c.into_vec-line-items.ensures)
    (c.in_err-put_line.ensures.exact tree names told naming))

pub put_lines-loop-line-preserved : goal.put_lines-loop-line-preserved
put_lines-loop-line-preserved g t c =
    let at = c.loop-line in
    let main = c.args.setting.now.main.now in
    let within : c.args.setting.now.tree ≤ (g.F.Files.seen at.files).newest = omega (arith, c.requires.known, at.invariant.later.newest) in
    record {
      listed = (let was = at.invariant.listed in let gone = c.in-Some.ensures.steps.1 in let short = ap length c.in-Some.ensures.steps.0 in omega arith);
      shallow = (rw c.in-Some.ensures.steps.0 at at.invariant.shallow).1;
      later = later_then _ _ _ at.invariant.later c.in_ok-put_line.ensures.later;
      grows = longer_then _ _ _ at.invariant.grows c.in_ok-put_line.ensures.grows;
      read = λ tree names told naming.
          let before = told_before c.args.setting.now.tree tree _ _ c.in_ok-put_line.ensures.later within told in
          all_map _ _ (into_iter_items c.next.new.self) (λ line. read_longer tree names main at.self.paths c.put_line.new.self.paths line c.in_ok-put_line.ensures.grows)
          (rw c.in-Some.ensures.steps.0 at (at.invariant.read tree names before naming)).1;
      left = λ tree names told naming.
          run_go (put_line (put_file tree names main c.args.left) (named_by names main)) (into_iter_items at.line-iterator) (into_iter_items c.next.new.self) c.in-Some.line
          at.self.lines c.put_line.new.self.lines c.args.depth (tally_of at.self) (tally_of c.put_line.new.self) _ c.in-Some.ensures.steps.0
          (at.invariant.left tree names (told_before c.args.setting.now.tree tree _ _ c.in_ok-put_line.ensures.later within told) naming) (c.in_ok-put_line.ensures.exact tree names told naming);
    }

pub put_lines-returns-clause-exact : goal.put_lines-returns-clause-exact
put_lines-returns-clause-exact g t c tree names told naming =
    let at = c.loop-line in
    let main = c.args.setting.now.main.now in
    let none = c.in-None.ensures.steps in
    run_done (put_line (put_file tree names main c.args.left) (named_by names main)) c.args.lines (into_iter_items c.into_iter-line-iterator.result) (into_iter_items at.line-iterator)
    c.args.self.now.lines at.self.lines c.args.depth (tally_of c.args.self.now) (tally_of at.self)
    (nothing_left (into_iter_items at.line-iterator) (sym at.invariant.listed ∙ none.0)) (at.invariant.left tree names told naming) (c.into_iter-line-iterator.ensures.into_iter_gives.0 ∙ c.into_vec-line-items.ensures)

-- where the files fail, what is told is where they were asked

pub put_file-returns-in_err-lines-clause-place : goal.put_file-returns-in_err-lines-clause-place
put_file-returns-in_err-lines-clause-place g t c =
    let p = err_from_is_err_and c.from_residual-in_err-lines.result c.from_residual-in_err-lines.ensures.1 in
    let self = c.args.self.now in
    rw (p.1, p.2)
    (failed_file c.args.setting.now.tree c.args.setting.now.main.now (g.F.Files.seen c.args.files.now) (g.F.Files.seen c.open.new.files) self.paths c.open.new.self.paths (spot c.args.at.file c.args.at.line) c.args.path c.in_err-lines.field-0.0
    c.in_err-lines.ensures.later c.requires.known c.requires.named c.in_err-lines.ensures.paths c.in_err-lines.ensures.place)

pub put_file-put_lines-requires : goal.put_file-put_lines-requires
put_file-put_lines-requires g t c = λ κs lives.
    let self = c.args.self.now in
    let main = c.args.setting.now.main.now in
    let here = spot c.args.at.file c.args.at.line in
    let known : c.args.setting.now.tree ≤ (g.F.Files.seen c.open.new.files).newest = omega (arith, c.requires.known, c.in_ok-lines.ensures.later.newest) in
    let room : c.args.depth + 32 + 33 * c.in_ok-left.left < 2 ^ 32 = omega (arith, c.requires.room, c.in_ok-left.ensures.less) in (
      omega (arith, c.decreases, c.in_ok-left.ensures.less),
      (
        search,
        (
          known,
          (
            room,
            (
              c.in_ok-lines.ensures.shallow,
              λ tree names told naming.
                  let before = told_before c.args.setting.now.tree tree _ _ c.in_ok-lines.ensures.later c.requires.known told in
                  opened_read tree names main here c.args.path (tally_of self) (tally_of c.open.new.self) c.in_ok-lines.lines (c.requires.named tree names before naming) (c.in_ok-lines.ensures.opens tree told),
            ),
          ),
        ),
      ),
    )

pub put_line-returns-in_err-paths-in-Some-clause-place : goal.put_line-returns-in_err-paths-in-Some-clause-place
put_line-returns-in_err-paths-in-Some-clause-place g t c =
    let p = err_from_is_err_and c.from_residual-in_err-paths-in-Some.result c.from_residual-in_err-paths-in-Some.ensures.1 in
    let self = c.args.self.now in
    let main = c.args.setting.now.main.now in
    let path = c.in_ok-path-in-Some.ensures ∙ ap (path_of main) c.as_slice.ensures in
    rw (p.1, p.2)
    (failed_folder c.args.setting.now.tree main (g.F.Files.seen c.args.files.now) (g.F.Files.seen c.paths_named.new.files) self.paths c.args.line c.in-Some.word.now c.in_ok-path-in-Some.path c.in_err-paths-in-Some.field-0.0
    c.in_err-paths-in-Some.ensures.later c.requires.known c.requires.read (sym c.in-Some.ensures) path c.in_err-paths-in-Some.ensures.mask c.in_err-paths-in-Some.ensures.place)

pub put_line-put_files-requires : goal.put_line-put_files-requires
put_line-put_files-requires g t c = λ κs lives.
    let self = c.args.self.now in
    let main = c.args.setting.now.main.now in
    let path = c.in_ok-path-in-Some.ensures ∙ ap (path_of main) c.as_slice.ensures in (
      search rules,
      (
        search,
        (
          omega (arith, c.requires.known, c.in_ok-paths-in-Some.ensures.later.newest),
          (
            omega (arith, c.requires.room, c.requires.shallow),
            λ tree names told naming.
                let before = told_before c.args.setting.now.tree tree _ _ c.in_ok-paths-in-Some.ensures.later c.requires.known told in
                let paths = c.in_ok-paths-in-Some.ensures.paths c.args.setting.now.tree tree names c.requires.known told naming ∙ ap (paths_named names) path in
                all_named tree names main self.paths c.args.line c.in-Some.word.now c.in_ok-paths-in-Some.paths (c.requires.read tree names before naming) (sym c.in-Some.ensures) paths,
          ),
        ),
      ),
    )

pub put_lines-put_line-requires : goal.put_lines-put_line-requires
put_lines-put_line-requires g t c = λ κs lives.
    let at = c.loop-line in
    let shallow = rw c.in-Some.ensures.steps.0 at at.invariant.shallow in (
      search rules,
      (
        search,
        (
          omega (arith, c.requires.known, at.invariant.later.newest),
          (
            c.requires.room,
            (
              shallow.0,
              λ tree names told naming. (rw c.in-Some.ensures.steps.0 at (at.invariant.read tree names told naming)).0,
            ),
          ),
        ),
      ),
    )

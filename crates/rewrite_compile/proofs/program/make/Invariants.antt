use Rattle.std.proofs.Common.{◌≡◌, ◌++◌, length, map, flat_map, Contains}
use Rattle.std.specs.Vec.Iter.{into_iter_items, into_iter_len}
use Rattle.conf_text.specs.declared.fault.ConfFault.{ConfFault}
use Rattle.rewrite_compile.specs.Programs.{patterns_at, first_fault, refusals, steps_from, line_at}
use Rattle.rewrite_compile.proofs.program.make.Given as goal

-- what is left makes the rest
abbrev pub invariant-loop-part : goal.invariant-loop-part
invariant-loop-part g l = record {
  listed : into_iter_len l.part-iterator ≡ length (into_iter_items l.part-iterator);
  program : l.made.program ++ steps_from (length l.patterns) l.level (into_iter_items l.part-iterator)
      ≡ steps_from (length l.initial.patterns) l.fn.first_block (into_iter_items l.initial.part-iterator);
  lines : l.made.lines.items ++ map line_at (into_iter_items l.part-iterator) ≡ map line_at (into_iter_items l.initial.part-iterator);
  patterns : l.patterns ++ flat_map patterns_at (into_iter_items l.part-iterator)
      ≡ l.initial.patterns ++ flat_map patterns_at (into_iter_items l.initial.part-iterator);
  fault : first_fault (into_iter_items l.part-iterator) ≡ first_fault (into_iter_items l.initial.part-iterator);
  refused : (f : ConfFault) → Contains (refusals (into_iter_items l.part-iterator)) f → Contains (refusals (into_iter_items l.initial.part-iterator)) f;
  spared : g.M.PatternMaker.refusals l.maker ≡ g.M.PatternMaker.refusals l.initial.maker;
}

use Rattle.std.proofs.Common.{◌≡◌, ◌+◌, ◌-◌, ◌++◌, drop, map}
use Rattle.pascal_tree.specs.SeenProgram.{seen_routine, seen_program}
use Rattle.pascal_mean.specs.Declarations.{declared_headings, routines_after, all_declared}
use Rattle.pascal_evaluate.specs.SeenNames.{seen_items, seen_declared}
use Rattle.pascal_evaluate.proofs.table.all_declared.Given as goal

abbrev pub invariant-loop-place : goal.invariant-loop-place
invariant-loop-place l =
    let before = seen_items (drop (l.count - l.place) l.items) in
    let rest = map seen_routine (drop l.place l.program.routines.items) in
    record {
      names : declared_headings (l.place + 1) rest before ≡ seen_items l.items;
      all : map seen_declared l.all.items ++ routines_after (l.place + 1) before rest ≡ all_declared (seen_program l.program);
    }

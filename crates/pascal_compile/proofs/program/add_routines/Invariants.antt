use Rattle.std.proofs.Common.{◌≡◌, ◌++◌, drop, length}
use Rattle.pascal_tree.specs.SeenProgram.{seen_program}
use Rattle.pascal_mean.specs.Declarations.{global_items}
use Rattle.pascal_code.specs.Frames.{plain_frame}
use Rattle.pascal_code.specs.Senses.{framed_after, all_framed}
use Rattle.pascal_code.specs.Code.{calling_infos, instrs_from, infos_from}
use Rattle.pascal_compile.specs.Holds.{HoldsFrame, known_at}
use Rattle.pascal_compile.specs.Infos.{without_heights}
use Rattle.pascal_compile.proofs.program.add_routines.Given as goal

abbrev pub invariant-loop-place : goal.invariant-loop-place
invariant-loop-place l =
    let p = seen_program l.program in
    let all = framed_after 1 (global_items p) p.routines in
    let calling = calling_infos (all_framed p) in
    record {
      held : HoldsFrame l.known (plain_frame (known_at p l.place));
      code : l.drafts ++ instrs_from (drop l.place all) (length l.drafts) ≡ l.fn.drafts ++ instrs_from all (length l.fn.drafts);
      infos : l.infos.items ++ without_heights (infos_from calling (drop l.place all) (length l.drafts))
          ≡ l.fn.infos.items ++ without_heights (infos_from calling all (length l.fn.drafts));
    }

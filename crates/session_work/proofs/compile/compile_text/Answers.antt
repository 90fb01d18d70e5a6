use Rattle.std.proofs.Common.{sym, subst, ◌∙◌}
use Rattle.disk_layout.specs.Files.{files as file_map}
use Rattle.file_commands.specs.Settling.{IsAnsweredSo}
use Rattle.session_work.proofs.Compiling.{stores-code, answered-if}
use Rattle.solo_task.specs.Compiles.{stores_program, compiling_text}
use Rattle.session_work.proofs.compile.compile_text.Goals as goal

pub returns-in-Ok-clause-told : goal.returns-in-Ok-clause-told
returns-in-Ok-clause-told g c = λ pages told solo new.
    subst (λ doing. IsAnsweredSo doing pages c.store_program.result (g.A.Area.pages c.store_program.new.files.area))
    (sym (stores-code c.args.text.now c.args.to.now (file_map pages) c.in-Ok.code c.in-Ok.ensures.code)) (c.store_program.ensures.told pages told solo new)

pub returns-in-Err-clause-told : goal.returns-in-Err-clause-told
returns-in-Err-clause-told g c = λ pages told solo new.
    answered-if (stores_program (file_map pages) c.args.to.now (compiling_text c.args.text.now)) pages c.refused.result (g.A.Area.pages c.args.files.now.area)
    (c.refused.ensures.says (file_map pages) c.args.to.now (compiling_text c.args.text.now) c.in-Err.ensures.fault) c.refused.ensures.lacks told

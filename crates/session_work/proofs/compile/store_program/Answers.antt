use Rattle.std.proofs.Common.{◌≡◌, ◌+◌, ◌-◌, ◌/◌, length, arith}
use Rattle.disk_layout.specs.Files.{files as file_map, free_count}
use Rattle.disk_layout.specs.Deleting.{pages_held}
use Rattle.disk_contents.specs.Contents.{code_file}
use Rattle.disk_system.proofs.Stored.{length-cut}
use Rattle.stack_code.specs.CodeFile.{code_bytes}
use Rattle.program_task.specs.OpenFiles.{pages_free}
use Rattle.solo_task.specs.Compiles.{compiler}
use Rattle.session_work.proofs.StoreLines.{store-settles}
use Rattle.session_work.proofs.compile.store_program.Goals as goal

pub returns-clause-told : goal.returns-clause-told
returns-clause-told g c = λ pages told solo new.
    let free : free_count pages ≡ pages_free (file_map pages) = omega
    (arith, c.free_pages-free.ensures.count pages told, c.free_pages-free.ensures.files pages told) in
    let bytes = code_bytes c.args.code.now in
    rw c.stored.ensures (store-settles compiler pages c.args.to.now (code_file c.args.code.now) (length bytes / 512)
    (free_count pages - pages_held (length bytes / 512)) c.store_code.result (g.A.Area.pages c.store_code.new.files.area) solo free
    (length-cut bytes (length bytes / 512)) new (c.store_code.ensures.answer pages told) (c.store_code.ensures.stored pages told)
    (c.store_code.ensures.refused pages told))

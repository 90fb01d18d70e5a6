use Rattle.std.proofs.Common.{◌≡◌, ◌-◌, ◌/◌, ℕ, List, length, false, ap, sym, subst, ◌∙◌, arith}
use Rattle.std.specs.Prelude.{OnOk}
use Rattle.std.specs.FinMap as fin
use Rattle.disk_layout.specs.declared.kind.FileKind.TheVariants.{Ascii}
use Rattle.disk_layout.specs.Files.{files as file_map, free_count}
use Rattle.disk_layout.specs.Deleting.{pages_held}
use Rattle.disk_files.specs.Answers.{Holds}
use Rattle.disk_contents.specs.Contents.{in_pages, text_bytes, text_file}
use Rattle.disk_system.proofs.Stored.{length-cut}
use Rattle.program_task.specs.OpenFiles.{pages_free}
use Rattle.solo_task.specs.Copying.{copier}
use Rattle.file_commands.proofs.Rooms.{change-settles}
use Rattle.file_commands.proofs.copying.store_new_text.Goals as goal

pub returns-in-Ok-clause-told : goal.returns-in-Ok-clause-told
returns-in-Ok-clause-told g c = λ pages told solo new.
    let free : free_count pages ≡ pages_free (file_map pages) = omega
    (arith, c.free_pages-free.ensures.count pages told, c.free_pages-free.ensures.files pages told) in
    let bytes = c.deref.result.now in
    let is : bytes ≡ text_bytes c.args.text.items = c.deref.ensures.value ∙ c.in-Ok.ensures in
    let after = g.A.Area.pages c.store.new.files.area in
    rw c.answered.ensures (change-settles copier pages c.args.to.now (text_file c.args.text.items) (length bytes / 512)
    (free_count pages - pages_held (length bytes / 512)) c.store.result after solo free
    (ap (λ (b : List ℕ). length (in_pages b)) (sym is) ∙ length-cut bytes (length bytes / 512)) new (c.store.ensures.answer pages told)
    (subst (λ (b : List ℕ). OnOk c.store.result (Holds after
    (fin.insert (file_map pages) c.args.to.now (record { kind = Ascii; protected = false; pages = in_pages b }))
    (free_count pages - pages_held (length bytes / 512))))
    is (c.store.ensures.stored pages told)) (c.store.ensures.refused pages told))

use Rattle.std.proofs.Common.{◌≡◌, ◌+◌, ◌-◌, ◌/◌, length, sym, ◌∙◌, ap, false, subst, arith, ℕ, List}
use Rattle.disk_layout.specs.Files.{File, files as file_map, free_count, with_protection}
use Rattle.disk_layout.specs.Deleting.{pages_held}
use Rattle.disk_files.specs.declared.fault.FileInfo.{FileInfo}
use Rattle.program_task.specs.OpenFiles.{pages_free}
use Rattle.solo_task.specs.Copying.{copier}
use Rattle.file_commands.specs.Stores.{IsPagesOf}
use Rattle.file_commands.proofs.Rooms.{change-settles}
use Rattle.file_commands.proofs.Copies.{pages-again, as-many-pages}
use Rattle.file_commands.proofs.copying.store_copy.Goals as goal

pub returns-in-Ok-clause-told : goal.returns-in-Ok-clause-told
returns-in-Ok-clause-told g c = λ pages file told solo here is new.
    let free : free_count pages ≡ pages_free (file_map pages) = omega
    (arith, c.free_pages-free.ensures.count pages told, c.free_pages-free.ensures.files pages told) in
    let bytes = c.deref.result.now in
    let whole = subst (λ b. IsPagesOf b file.pages) (sym c.deref.ensures.value) (c.in-Ok.ensures.bytes pages file told here
    (ap (λ (i : FileInfo). i.pages) is)) in
    let now = c.whole_pages.ensures.left ∙ told in
    let kind = ap (λ (i : FileInfo). i.kind) is in
    let again = pages-again bytes file.pages whole in
    rw c.answered.ensures (change-settles copier pages c.args.to.now (with_protection file false) (length bytes / 512)
    (free_count pages - pages_held (length bytes / 512)) c.store.result (g.A.Area.pages c.store.new.files.area) solo free
    (as-many-pages bytes file.pages whole) new (c.store.ensures.answer pages now)
    (rw (sym kind, sym again) (c.store.ensures.stored pages now)) (c.store.ensures.refused pages now))

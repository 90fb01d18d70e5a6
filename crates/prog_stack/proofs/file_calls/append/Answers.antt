use Rattle.std.proofs.Common.{◌≡◌, ◌-◌, length, arith}
use Rattle.disk_layout.specs.Files.{files as file_map, free_count}
use Rattle.disk_files.specs.Answers.{pages_needed}
use Rattle.program_task.specs.OpenFiles.{pages_free}
use Rattle.prog_stack.proofs.FileRows.{appended, refused_so}
use Rattle.prog_stack.proofs.file_calls.append.Goals as goal

pub returns-clause-put : goal.returns-clause-put
returns-clause-put g c = λ pages file told here.
    let free : free_count pages ≡ pages_free (file_map pages) = omega
    (arith, c.free_pages-free.ensures.count pages told, c.free_pages-free.ensures.files pages told) in
    let before = g.A.Area.pages c.args.files.now.area in
    let after = g.A.Area.pages c.append.new.self.area in
    appended (file_map pages) c.args.name.now file c.args.page.now.0 (free_count pages) (free_count pages - pages_needed
    (length file.pages)) before after c.append.result free here
    (c.append.ensures.answer pages told) (c.append.ensures.file pages file told here)
    (refused_so c.append.result before after (c.append.new.self.taken ≡ c.args.files.now.taken) c.append.ensures.refused)

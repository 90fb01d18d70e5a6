use Rattle.std.proofs.Common.{◌+◌, length, sym, ◌∙◌, ap}
use Rattle.std.proofs.lemmas.Bool.{ne_eqb}
use Rattle.disk_layout.specs.Files.{files as file_map, free_count}
use Rattle.prog_stack.proofs.FileRows.{replaced}
use Rattle.prog_stack.proofs.file_calls.put_numbered.Goals as goal

pub returns-clause-put : goal.returns-clause-put
returns-clause-put g c = λ pages file told here same.
    replaced (file_map pages) c.args.name.now file c.args.n c.args.page.now.0 (free_count pages) (g.A.Area.pages c.args.files.now.area)
    (g.A.Area.pages c.replace.new.self.area) c.replace.result
    (ne_eqb c.args.n (length file.pages + 1) (λ e. c.if-n-count.false (e ∙ ap (λ k. k + 1) (sym same)))) here
    (c.replace.ensures.answer pages told) (c.replace.ensures.file pages file told here) c.replace.ensures.refused

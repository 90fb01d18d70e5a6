use Rattle.std.proofs.Common.{◌≡◌, ◌==◌, Ok, refl, ap, inr, ◌∙◌, arith}
use Rattle.disk_layout.specs.Disk.{number_of}
use Rattle.disk_layout.specs.Files.{kind_of}
use Rattle.disk_layout.proofs.Written.{number_read}
use Rattle.disk_files.proofs.file_area.info.Goals as goal

pub returns-clause-answer : goal.returns-clause-answer
returns-clause-answer g c = λ pages told short.
    let e : c.number.result
    ≡ number_of pages c.args.entry.now.address 0 = number_read pages _ _ _ 0 0 _ c.number.ensures refl (c.in_ok-read.ensures.page pages told) refl in
    let all : c.min.result ≡ number_of pages c.args.entry.now.address 0 = omega (arith, e, short, c.min.ensures) in
    inr (ap (λ k. Ok record { kind = k; protected = c.args.entry.now.protection == 1; pages = c.min.result }) c.of.ensures
    ∙ ap (λ n. Ok record { kind = kind_of c.args.entry.now.kind; protected = c.args.entry.now.protection == 1; pages = n }) all)

use Rattle.std.proofs.Common.{◌≡◌, ◌<◌, ◌+◌, ◌-◌, ◌/◌, ◌%◌, refl, sym, subst, ◌∙◌, inl, inr, arith}
use Rattle.disk_layout.specs.Disk.{number_of}
use Rattle.disk_layout.specs.Format.{IsAddress}
use Rattle.disk_files.proofs.Numbers.{range_refused, range_given}
use Rattle.disk_layout.proofs.Written.{number_read}
use Rattle.disk_files.proofs.file_page.find_page.Goals as goal
use Rattle.disk_files.proofs.file_page.find_page.Goals.{then-n-eq0-via-then-n-eq0, then-n-eq0-via-else-n-eq0+then-length-n}

pub returns-then-n-eq0-clause-answer : goal.returns-then-n-eq0-clause-answer
returns-then-n-eq0-clause-answer g c = λ pages told has.
    let e : c.number.result
    ≡ number_of pages c.args.index 0 = number_read pages _ _ _ 0 0 _ c.number.ensures refl (c.in_ok-read.ensures.page pages told) refl in
    inr (
      refl,
      range_refused (number_of pages c.args.index 0) c.args.n (elim c.then-n-eq0.branch [
        | then-n-eq0-via-then-n-eq0 w ↦ inl w.if-n-eq0.true
        | then-n-eq0-via-else-n-eq0+then-length-n w ↦ inr (omega (arith, w.if-length-n.true, c.min-length.ensures, e, has.length))
      ]),
    )

pub returns-clause-answer : goal.returns-clause-answer
returns-clause-answer g c = λ pages told has.
    let e : c.number.result
    ≡ number_of pages c.args.index 0 = number_read pages _ _ _ 0 0 _ c.number.ensures refl (c.in_ok-read.ensures.page pages told) refl in
    let within : c.args.n - 1 < number_of pages c.args.index 0 = omega (arith, c.if-length-n.false, c.min-length.ensures, e, has.length, c.if-n-eq0.false) in
    let part : c.file_page-part.result ≡ number_of pages c.args.index ((c.args.n - 1) / 250 + 1) =
    (let is : c.number-2.result
    ≡ number_of pages c.args.index ((c.args.n - 1) / 250 + 1) =
    number_read pages _ _ _ _ _ _ c.number-2.ensures refl (c.in_ok-read.ensures.page pages told) refl in
    c.file_page-part.ensures.same (subst IsAddress (sym is) (has.parts ((c.args.n - 1) / 250) (omega (arith, within)))) ∙ is) in
    let told_2 = c.read.ensures.left ∙ told in
    let page : c.file_page.result ≡ number_of pages (number_of pages c.args.index ((c.args.n - 1) / 250 + 1)) ((c.args.n - 1) % 250) =
    (let is : c.number-3.result
    ≡ number_of pages (number_of pages c.args.index ((c.args.n - 1) / 250 + 1)) ((c.args.n - 1) % 250) =
    number_read pages _ _ _ _ _ _ c.number-3.ensures refl (c.in_ok-read-2.ensures.page pages told_2) part in
    c.file_page.ensures.same (subst IsAddress (sym is) (has.pages (c.args.n - 1) within)) ∙ is) in (
      range_given (number_of pages c.args.index 0) c.args.n (c.if-n-eq0.false) (omega (arith, c.if-length-n.false, c.min-length.ensures, e, has.length)),
      within,
      page,
    )

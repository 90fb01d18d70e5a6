use Rattle.std.proofs.Common.{◌≡◌, ◌-◌, ◌∙◌, refl, ap, sym, subst, inr, arith}
use Rattle.std.specs.FinSet as set
use Rattle.disk_layout.specs.Disk.{number_of, page_at}
use Rattle.disk_files.specs.Answers.{pages_needed}
use Rattle.disk_layout.specs.Appending.{Appends}
use Rattle.disk_files.proofs.Numbers.{on_ok, append_full, append_no_room, append_done, answers_ok}
use Rattle.disk_layout.proofs.Written.{number_read}
use Rattle.disk_files.proofs.append.append_page.Goals as goal

pub returns-then-count-ge4000-clause-answer : goal.returns-then-count-ge4000-clause-answer
returns-then-count-ge4000-clause-answer g c = λ pages told grow.
    let e : c.number-count.result
    ≡ number_of pages c.args.i 0 = number_read pages _ _ _ 0 0 _ c.number-count.ensures refl (c.in_ok-read.ensures.page pages told) refl in
    inr (sym (append_full (number_of pages c.args.i 0) _ (omega (arith, e, c.if-count-ge4000.true))))

pub returns-then-free-pages_needed-clause-answer : goal.returns-then-free-pages_needed-clause-answer
returns-then-free-pages_needed-clause-answer g c = λ pages told grow.
    let e : c.number-count.result
    ≡ number_of pages c.args.i 0 = number_read pages _ _ _ 0 0 _ c.number-count.ensures refl (c.in_ok-read.ensures.page pages told) refl in
    let needed : c.pages_needed.result ≡ pages_needed (number_of pages c.args.i 0) = c.pages_needed.ensures ∙ ap pages_needed e in
    inr (sym (append_no_room (number_of pages c.args.i 0) (4288 - set.len c.args.map.now) (omega (arith, e, c.if-count-ge4000.false))
    (omega (arith, needed, c.free.ensures, c.if-free-pages_needed.true))))

pub returns-then-count-eq0-clause-answer : goal.returns-then-count-eq0-clause-answer
returns-then-count-eq0-clause-answer g c = λ pages told grow.
    let e : c.number-count.result
    ≡ number_of pages c.args.i 0 = number_read pages _ _ _ 0 0 _ c.number-count.ensures refl (c.in_ok-read.ensures.page pages told) refl in
    let needed : c.pages_needed.result ≡ pages_needed (number_of pages c.args.i 0) = c.pages_needed.ensures ∙ ap pages_needed e in
    answers_ok _ _ c.append_part.ensures.fault
    (append_done (number_of pages c.args.i 0) (4288 - set.len c.args.map.now) (omega (arith, e, c.if-count-ge4000.false))
    (omega (arith, needed, c.free.ensures, c.if-free-pages_needed.false)))

pub returns-else-count-eq0-clause-answer : goal.returns-else-count-eq0-clause-answer
returns-else-count-eq0-clause-answer g c = λ pages told grow.
    let e : c.number-count.result
    ≡ number_of pages c.args.i 0 = number_read pages _ _ _ 0 0 _ c.number-count.ensures refl (c.in_ok-read.ensures.page pages told) refl in
    let needed : c.pages_needed.result ≡ pages_needed (number_of pages c.args.i 0) = c.pages_needed.ensures ∙ ap pages_needed e in
    answers_ok _ _ c.append_in.ensures.fault
    (append_done (number_of pages c.args.i 0) (4288 - set.len c.args.map.now) (omega (arith, e, c.if-count-ge4000.false))
    (omega (arith, needed, c.free.ensures, c.if-free-pages_needed.false)))

pub returns-then-count-eq0-clause-wrote : goal.returns-then-count-eq0-clause-wrote
returns-then-count-eq0-clause-wrote g c = λ pages told grow.
    let read = c.in_ok-read.ensures.page pages told in
    let e : c.number-count.result ≡ number_of pages c.args.i 0 = number_read pages _ _ _ 0 0 _ c.number-count.ensures refl read refl in
    on_ok c.append_part.result _ _
    (λ w. (
      omega (arith, e, c.if-count-ge4000.false),
      (
        w.0,
        w.1,
        subst (λ n. Appends pages w.0 c.args.map.now c.append_part.new.map c.args.i n (page_at pages c.args.i) c.args.page.now.0) e
            (subst (λ b. Appends pages w.0 c.args.map.now c.append_part.new.map c.args.i c.number-count.result b c.args.page.now.0) read w.2),
      ),
    ))
    (c.append_part.ensures.wrote pages (c.in_ok-read.ensures.left ∙ told) grow.as_many grow.index_taken)

pub returns-else-count-eq0-clause-wrote : goal.returns-else-count-eq0-clause-wrote
returns-else-count-eq0-clause-wrote g c = λ pages told grow.
    let read = c.in_ok-read.ensures.page pages told in
    let e : c.number-count.result ≡ number_of pages c.args.i 0 = number_read pages _ _ _ 0 0 _ c.number-count.ensures refl read refl in
    on_ok c.append_in.result _ _
    (λ w. (
      omega (arith, e, c.if-count-ge4000.false),
      (
        w.0,
        w.1,
        subst (λ n. Appends pages w.0 c.args.map.now c.append_in.new.map c.args.i n (page_at pages c.args.i) c.args.page.now.0) e
            (subst (λ b. Appends pages w.0 c.args.map.now c.append_in.new.map c.args.i c.number-count.result b c.args.page.now.0) read w.2),
      ),
    ))
    (c.append_in.ensures.wrote pages (c.in_ok-read.ensures.left ∙ told) grow read e)

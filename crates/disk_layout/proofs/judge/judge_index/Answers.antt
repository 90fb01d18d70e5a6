use Rattle.std.proofs.Common.{◌≡◌, ◌+◌, ◌<◌, ap, sym, subst, ◌∙◌, inl, inr, arith}
use Rattle.disk_layout.specs.Format.{file_length, part_count, count_in_part}
use Rattle.disk_layout.specs.Judging.{Roles}
use Rattle.std.proofs.lemmas.Bool.{false≢true}
use Rattle.disk_layout.proofs.Judged.{one_more, page_over, all_right, RightSoFar}
use Rattle.disk_layout.proofs.judge.judge_index.Goals as goal
use Rattle.disk_layout.proofs.judge.judge_index.Goals.{then-right, else-right}

pub loop-k-preserved : goal.loop-k-preserved
loop-k-preserved c = λ d i x numbers begun.
    let first = numbers 0 (omega arith) in
    let length : file_length d i ≡ c.min-count.result = omega (arith, first, c.number-length.ensures, c.min-count.ensures) in
    let below : c.loop-k.k < part_count (file_length d i) = omega (arith, length, c.loop-k-test.true) in
    one_more d i x c.loop-k.k below c.loop-k.roles c.loop-k.right (c.loop-k.invariant d i x numbers begun)
    _ (numbers (c.loop-k.k + 1) (omega (arith, below, c.min-count.ensures, length)) ∙ sym c.number.ensures)
    c.in_part.result (c.in_part.ensures.count ∙ ap (λ n. count_in_part n c.loop-k.k) (sym length)) c.in_part.ensures.some c.in_part.ensures.few
    c.note_part-noted.result c.note_part-noted.new.roles c.if-right.right c.note_part-noted.ensures.new c.note_part-noted.ensures.not
    (λ e. elim c.if-right.branch [
      | then-right w ↦ (w.if-right.true, sym w.right-is ∙ e)
      | else-right w ↦ absurd (false≢true (sym w.if-right.false ∙ sym w.right-is ∙ e))
    ])
    (λ e. elim c.if-right.branch [
      | then-right w ↦ inr (sym w.right-is ∙ e)
      | else-right w ↦ inl w.if-right.false
    ])

pub returns-then-right-2-clause-noted : goal.returns-then-right-2-clause-noted
returns-then-right-2-clause-noted c = λ d i x numbers begun.
    let first = numbers 0 (omega arith) in
    let length : file_length d i ≡ c.min-count.result = omega (arith, first, c.number-length.ensures, c.min-count.ensures) in
    let last : c.loop-k.k ≡ part_count (file_length d i) = omega (arith, length, c.loop-k-test.false, c.loop-k.auto.k-end) in
    page_over d i _ (subst (λ k. Roles d i k c.loop-k.roles) last (c.loop-k.invariant d i x numbers begun).roles)

pub returns-else-right-2-clause-noted : goal.returns-else-right-2-clause-noted
returns-else-right-2-clause-noted c = λ d i x numbers begun.
    let first = numbers 0 (omega arith) in
    let length : file_length d i ≡ c.min-count.result = omega (arith, first, c.number-length.ensures, c.min-count.ensures) in
    let last : c.loop-k.k ≡ part_count (file_length d i) = omega (arith, length, c.loop-k-test.false, c.loop-k.auto.k-end) in
    page_over d i _ (subst (λ k. Roles d i k c.loop-k.roles) last (c.loop-k.invariant d i x numbers begun).roles)

pub returns-then-right-2-clause-right : goal.returns-then-right-2-clause-right
returns-then-right-2-clause-right c = λ d i x numbers begun rest.
    let first = numbers 0 (omega arith) in
    let length : file_length d i ≡ c.min-count.result = omega (arith, first, c.number-length.ensures, c.min-count.ensures) in
    let last : c.loop-k.k ≡ part_count (file_length d i) = omega (arith, length, c.loop-k-test.false, c.loop-k.auto.k-end) in
    all_right d i x (subst (RightSoFar d i) last ((c.loop-k.invariant d i x numbers begun).right c.if-right-2.true))
    (λ k late within. numbers k within ∙ c.ends_in_zeros-rest.ensures.zeros rest k (omega (arith, late, length)) within)

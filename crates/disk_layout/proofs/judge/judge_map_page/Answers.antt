use Rattle.std.proofs.Common.{◌≡◌, ◌+◌, ◌<◌, sym, subst, ◌∙◌, inl, inr, arith}
use Rattle.disk_layout.specs.Judging.{MapRoles}
use Rattle.std.proofs.lemmas.Bool.{false≢true}
use Rattle.disk_layout.proofs.JudgedMaps.{MapRight, map_length, map_more, map_over, map_right}
use Rattle.disk_layout.proofs.judge.judge_map_page.Goals as goal
use Rattle.disk_layout.proofs.judge.judge_map_page.Goals.{then-right, else-right}

pub loop-j-preserved : goal.loop-j-preserved
loop-j-preserved c = λ d i x numbers begun.
    let first = numbers 0 (omega arith) in
    let length : map_length d i ≡ c.min-count.result = omega (arith, first, c.number-length.ensures, c.min-count.ensures) in
    let below : c.loop-j.j < map_length d i = omega (arith, length, c.loop-j-test.true) in
    map_more d i x c.loop-j.j below c.loop-j.roles c.loop-j.right (c.loop-j.invariant d i x numbers begun)
    _ (numbers (c.loop-j.j + 1) (omega (arith, below, c.min-count.ensures, length)) ∙ sym c.number.ensures)
    c.note_part-noted.result c.note_part-noted.new.roles c.if-right.right c.note_part-noted.ensures.new c.note_part-noted.ensures.not
    (λ e. elim c.if-right.branch [
      | then-right w ↦ (w.if-right.true, sym w.right-is ∙ e)
      | else-right w ↦ absurd (false≢true (sym w.if-right.false ∙ sym w.right-is ∙ e))
    ])
    (λ e. elim c.if-right.branch [
      | then-right w ↦ inr (sym w.right-is ∙ e)
      | else-right w ↦ inl w.if-right.false
    ])

pub returns-then-right-2-clause-noted : goal.returns-then-right-2-clause-noted
returns-then-right-2-clause-noted c = λ d i x numbers begun.
    let first = numbers 0 (omega arith) in
    let length : map_length d i ≡ c.min-count.result = omega (arith, first, c.number-length.ensures, c.min-count.ensures) in
    let last : c.loop-j.j ≡ map_length d i = omega (arith, length, c.loop-j-test.false, c.loop-j.auto.j-end) in
    map_over d i _ (subst (λ k. MapRoles d i k c.loop-j.roles) last (c.loop-j.invariant d i x numbers begun).roles)

pub returns-else-right-2-clause-noted : goal.returns-else-right-2-clause-noted
returns-else-right-2-clause-noted c = λ d i x numbers begun.
    let first = numbers 0 (omega arith) in
    let length : map_length d i ≡ c.min-count.result = omega (arith, first, c.number-length.ensures, c.min-count.ensures) in
    let last : c.loop-j.j ≡ map_length d i = omega (arith, length, c.loop-j-test.false, c.loop-j.auto.j-end) in
    map_over d i _ (subst (λ k. MapRoles d i k c.loop-j.roles) last (c.loop-j.invariant d i x numbers begun).roles)

pub returns-then-right-2-clause-right : goal.returns-then-right-2-clause-right
returns-then-right-2-clause-right c = λ d i x numbers begun rest.
    let first = numbers 0 (omega arith) in
    let length : map_length d i ≡ c.min-count.result = omega (arith, first, c.number-length.ensures, c.min-count.ensures) in
    let last : c.loop-j.j ≡ map_length d i = omega (arith, length, c.loop-j-test.false, c.loop-j.auto.j-end) in
    map_right d i x (subst (MapRight d i) last ((c.loop-j.invariant d i x numbers begun).right c.if-right-2.true))
    (λ k late within. numbers k within ∙ c.ends_in_zeros-rest.ensures.zeros rest k (omega (arith, late, length)) within)

use Rattle.std.proofs.Common.{◌≡◌, sym, subst, ◌∙◌, inl, inr, arith}
use Rattle.disk_layout.specs.Judging.{FileRoles}
use Rattle.std.proofs.lemmas.Bool.{false≢true}
use Rattle.disk_layout.proofs.JudgedParts.{one_page_more, part_all_right, PartSoFar}
use Rattle.disk_layout.proofs.judge.judge_part.Goals as goal
use Rattle.disk_layout.proofs.judge.judge_part.Goals.{then-right, else-right}

pub loop-j-preserved : goal.loop-j-preserved
loop-j-preserved c = λ d q by place x first count_is numbers begun.
    one_page_more d q by place x first c.args.count c.loop-j.j count_is c.loop-j-test.true c.loop-j.roles c.loop-j.right
    (c.loop-j.invariant d q by place x first count_is numbers begun)
    _ (numbers c.loop-j.j (omega (arith, c.loop-j-test.true, c.requires.few)) ∙ sym c.number.ensures)
    c.note_part-noted.result c.note_part-noted.new.roles c.if-right.right c.note_part-noted.ensures.new c.note_part-noted.ensures.not
    (λ e. elim c.if-right.branch [
      | then-right w ↦ (w.if-right.true, sym w.right-is ∙ e)
      | else-right w ↦ absurd (false≢true (sym w.if-right.false ∙ sym w.right-is ∙ e))
    ])
    (λ e. elim c.if-right.branch [
      | then-right w ↦ inr (sym w.right-is ∙ e)
      | else-right w ↦ inl w.if-right.false
    ])

pub returns-then-right-2-clause-noted : goal.returns-then-right-2-clause-noted
returns-then-right-2-clause-noted c = λ d q by place x first count_is numbers begun.
    let last : c.loop-j.j ≡ c.args.count = omega (arith, c.loop-j-test.false, c.loop-j.auto.j-end) in
    subst (λ k. FileRoles d q k c.loop-j.roles) last (c.loop-j.invariant d q by place x first count_is numbers begun).roles

pub returns-else-right-2-clause-noted : goal.returns-else-right-2-clause-noted
returns-else-right-2-clause-noted c = λ d q by place x first count_is numbers begun.
    let last : c.loop-j.j ≡ c.args.count = omega (arith, c.loop-j-test.false, c.loop-j.auto.j-end) in
    subst (λ k. FileRoles d q k c.loop-j.roles) last (c.loop-j.invariant d q by place x first count_is numbers begun).roles

pub returns-then-right-2-clause-right : goal.returns-then-right-2-clause-right
returns-then-right-2-clause-right c = λ d q by place x first count_is numbers begun rest.
    let last : c.loop-j.j ≡ c.args.count = omega (arith, c.loop-j-test.false, c.loop-j.auto.j-end) in
    part_all_right d q by place x first c.args.count count_is
    (subst (PartSoFar d q) last ((c.loop-j.invariant d q by place x first count_is numbers begun).right c.if-right-2.true))
    (λ j late within. numbers j within ∙ c.ends_in_zeros-rest.ensures.zeros rest j late within)

pub returns-else-right-2-clause-wrong : goal.returns-else-right-2-clause-wrong
returns-else-right-2-clause-wrong c =
    λ d q by place x first count_is numbers begun wrong right. (c.loop-j.invariant d q by place x first count_is numbers begun).wrong c.if-right-2.false right

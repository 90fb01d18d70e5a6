use Rattle.std.proofs.Common.{◌+◌, ◌∙◌, sym, subst, arith}
use Rattle.disk_layout.specs.Format.{MarkIsRight}
use Rattle.disk_layout.specs.Format1.{Mark1IsRight}
use Rattle.disk_layout.specs.Judging.{JudgedBelow}
use Rattle.disk_layout.proofs.LeastBad.{judged_over}
use Rattle.disk_layout.proofs.JudgedFiles.{bit_judged}
use Rattle.disk_layout.proofs.JudgedMaps.{map_bit_judged}
use Rattle.disk_layout.proofs.map_judge.judge_bits.Goals as goal

pub loop-n-preserved : goal.loop-n-preserved
loop-n-preserved c = record {
  newer = λ d marks roles.
      let its = bit_judged d c.args.roles.now roles c.loop-n.n c.is_marked.result (marks c.loop-n.n c.loop-n-test.true ∙ sym c.is_marked.ensures) in
      subst (JudgedBelow (MarkIsRight d) (c.loop-n.n + 1)) (sym c.note_bad.ensures)
      (judged_over (MarkIsRight d) c.loop-n.n c.loop-n.bad c.agree-right.result
      (λ _ e. its.0 (c.agree-right.ensures.yes e ∙ c.is_in_use.ensures))
      (λ _ e. its.1 (λ same. c.agree-right.ensures.not e (same ∙ sym c.is_in_use.ensures)))
      (c.loop-n.invariant.newer d marks roles));
  older = λ d marks roles.
      let its = map_bit_judged d c.args.roles.now roles c.loop-n.n c.is_marked.result (marks c.loop-n.n c.loop-n-test.true ∙ sym c.is_marked.ensures) in
      subst (JudgedBelow (Mark1IsRight d) (c.loop-n.n + 1)) (sym c.note_bad.ensures)
      (judged_over (Mark1IsRight d) c.loop-n.n c.loop-n.bad c.agree-right.result
      (λ _ e. its.0 (c.agree-right.ensures.yes e ∙ c.is_in_use.ensures))
      (λ _ e. its.1 (λ same. c.agree-right.ensures.not e (same ∙ sym c.is_in_use.ensures)))
      (c.loop-n.invariant.older d marks roles));
}

pub returns-clause-newer : goal.returns-clause-newer
returns-clause-newer c =
    λ d marks roles. subst (λ n. JudgedBelow (MarkIsRight d) n c.loop-n.bad) (omega (arith, c.loop-n-test.false, c.loop-n.auto.n-end))
    (c.loop-n.invariant.newer d marks roles)

pub returns-clause-older : goal.returns-clause-older
returns-clause-older c =
    λ d marks roles. subst (λ n. JudgedBelow (Mark1IsRight d) n c.loop-n.bad) (omega (arith, c.loop-n-test.false, c.loop-n.auto.n-end))
    (c.loop-n.invariant.older d marks roles)

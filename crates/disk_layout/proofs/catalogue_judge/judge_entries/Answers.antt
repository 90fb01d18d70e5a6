use Rattle.std.proofs.Common.{◌≡◌, ◌+◌, ◌*◌, ◌∙◌, subst, arith}
use Rattle.disk_layout.specs.Judging.{EntriesRead, EntryStands, JudgedBelow, KeptBelow}
use Rattle.disk_layout.proofs.catalogue_judge.judge_entries.Goals as goal

pub loop-k-preserved : goal.loop-k-preserved
loop-k-preserved c =
    let next : 16 * c.args.n + c.loop-k.k + 1 ≡ 16 * c.args.n + (c.loop-k.k + 1) = omega arith in
    record {
      size = c.judge_entry.auto.entries ∙ c.loop-k.invariant.size;
      judged = λ d has read j.
          let before = c.loop-k.invariant.judged d has read j in
          subst (λ p. EntriesRead d p c.judge_entry.new.entries × JudgedBelow (EntryStands d) p c.judge_entry.new.bad) next
          (c.judge_entry.ensures.judged d (has c.loop-k.k c.loop-k-test.true) before.0 before.1);
      kept = λ kept. subst (λ p. KeptBelow p c.judge_entry.new.entries c.judge_entry.new.bad) next (c.judge_entry.ensures.kept (c.loop-k.invariant.kept kept));
    }

pub returns-clause-judged : goal.returns-clause-judged
returns-clause-judged c = λ d has read j.
    let last : c.loop-k.k ≡ 16 = omega (arith, c.loop-k-test.false, c.loop-k.auto.k-end) in
    subst (λ k. EntriesRead d (16 * c.args.n + k) c.loop-k.entries
    × JudgedBelow (EntryStands d) (16 * c.args.n + k) c.loop-k.bad) last (c.loop-k.invariant.judged d has read j)

pub returns-clause-kept : goal.returns-clause-kept
returns-clause-kept c = λ kept.
    let last : c.loop-k.k ≡ 16 = omega (arith, c.loop-k-test.false, c.loop-k.auto.k-end) in
    subst (λ k. KeptBelow (16 * c.args.n + k) c.loop-k.entries c.loop-k.bad) last (c.loop-k.invariant.kept kept)

use Rattle.std.proofs.Common.{cond, ℕ, get_or, ap, sym, ◌∙◌, arith}
use Rattle.disk_layout.specs.Layout.{blank_entry}
use Rattle.disk_layout.specs.Judging.{uses_key}
use Rattle.disk_layout.proofs.JudgedEntries.{count_none, count_next}
use Rattle.disk_layout.proofs.catalogue_judge.count_key.Goals as goal
use Rattle.disk_layout.proofs.catalogue_judge.count_key.Goals.{then-uses_key, else-uses_key}

pub loop-entry-init : goal.loop-entry-init
loop-entry-init c = record { counted = sym (count_none (λ k. uses_key c.args.key (get_or c.args.entries.now k blank_entry))); few = omega arith }

pub loop-entry-preserved : goal.loop-entry-preserved
loop-entry-preserved c =
    let before = c.loop-entry.invariant.counted in
    let next = count_next (λ k. uses_key c.args.key (get_or c.args.entries.now k blank_entry)) c.loop-entry.entry-index in
    elim c.if-uses_key.branch [
      | then-uses_key w ↦
          let one = ap {B = ℕ} (λ b. cond b 1 0) (sym c.uses_key.ensures ∙ w.if-uses_key.true) in
          record { counted = omega (arith, w.count-is, before, next, one); few = omega (arith, w.count-is, c.loop-entry.invariant.few) }
      | else-uses_key w ↦
          let none = ap {B = ℕ} (λ b. cond b 1 0) (sym c.uses_key.ensures ∙ w.if-uses_key.false) in
          record { counted = omega (arith, w.count-is, before, next, none); few = omega (arith, w.count-is, c.loop-entry.invariant.few) }
    ]

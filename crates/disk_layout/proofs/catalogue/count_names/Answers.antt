use Rattle.std.proofs.Common.{◌==◌, not, cond, ℕ, get_or, ap, sym, ◌∙◌, arith}
use Rattle.disk_layout.specs.Layout.{blank_entry}
use Rattle.disk_layout.proofs.JudgedEntries.{count_none, count_next}
use Rattle.disk_layout.proofs.catalogue.count_names.Goals as goal
use Rattle.disk_layout.proofs.catalogue.count_names.Goals.{then-is_used, else-is_used}

pub loop-entry-init : goal.loop-entry-init
loop-entry-init c = record { counted = sym (count_none (λ k. not ((get_or c.args.entries.now k blank_entry).kind == 0))); few = omega arith }

pub loop-entry-preserved : goal.loop-entry-preserved
loop-entry-preserved c =
    let before = c.loop-entry.invariant.counted in
    let next = count_next (λ k. not ((get_or c.args.entries.now k blank_entry).kind == 0)) c.loop-entry.entry-index in
    elim c.if-is_used.branch [
      | then-is_used w ↦
          let one = ap {B = ℕ} (λ b. cond b 1 0) (sym c.is_used.ensures ∙ w.if-is_used.true) in
          record { counted = omega (arith, w.count-is, before, next, one); few = omega (arith, w.count-is, c.loop-entry.invariant.few) }
      | else-is_used w ↦
          let none = ap {B = ℕ} (λ b. cond b 1 0) (sym c.is_used.ensures ∙ w.if-is_used.false) in
          record { counted = omega (arith, w.count-is, before, next, none); few = omega (arith, w.count-is, c.loop-entry.invariant.few) }
    ]

use Rattle.std.proofs.Common.{◌≡◌, ◌<◌, ◌+◌, sym, subst, arith}
use Rattle.disk_layout.proofs.NotedIndexes.{IndexesNoted, none_noted, passed_entry, noted_entry, roles_begin, kept_free}
use Rattle.disk_layout.proofs.catalogue_judge.note_indexes.Goals as goal
use Rattle.disk_layout.proofs.catalogue_judge.note_indexes.Goals.{then-entry-ne0, else-entry-ne0}

pub returns : goal.returns
returns c =
    let last : c.loop-entry.entry-index ≡ 240 = omega (arith, c.loop-entry-test.false, c.loop-entry.auto.entry-index-end, c.requires.places) in
    roles_begin c.args.entries.now c.loop-entry.roles c.requires.kept
    (subst (λ n. IndexesNoted c.args.entries.now n c.loop-entry.roles) last c.loop-entry.invariant)

pub loop-entry-preserved : goal.loop-entry-preserved
loop-entry-preserved c =
    let below : c.loop-entry.entry-index < 240 = omega (arith, c.loop-entry-test.true, c.requires.places) in
    elim c.if-entry-ne0.branch [
      | then-entry-ne0 w ↦
          subst (IndexesNoted c.args.entries.now (c.loop-entry.entry-index + 1)) (sym w.roles-is)
          (noted_entry c.args.entries.now c.loop-entry.entry-index c.loop-entry.roles w.if-entry-ne0.true
          (kept_free _ (c.requires.kept c.loop-entry.entry-index below) w.if-entry-ne0.true) c.loop-entry.invariant)
      | else-entry-ne0 w ↦
          subst (IndexesNoted c.args.entries.now (c.loop-entry.entry-index + 1)) (sym w.roles-is)
          (passed_entry c.args.entries.now c.loop-entry.entry-index c.loop-entry.roles w.if-entry-ne0.false c.loop-entry.invariant)
    ]

pub loop-entry-init : goal.loop-entry-init
loop-entry-init c = none_noted c.args.entries.now c.args.roles.now c.requires.room c.requires.blank

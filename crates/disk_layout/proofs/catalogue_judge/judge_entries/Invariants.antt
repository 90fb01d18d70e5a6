use Rattle.std.proofs.Common.{◌≡◌, ◌+◌, ◌*◌, ◌<◌, ℕ, length}
use Rattle.disk_layout.specs.Disk.{Disk}
use Rattle.disk_layout.specs.Judging.{EntriesRead, EntryStands, HasEntry, JudgedBelow, KeptBelow}
use Rattle.disk_layout.proofs.catalogue_judge.judge_entries.Given as goal

abbrev pub invariant-loop-k : goal.invariant-loop-k
invariant-loop-k l = record {
  size : length l.entries ≡ 240;
  judged : (d : Disk) → ((k : ℕ) → k < 16 → HasEntry d (16 * l.n + k) l.page.0 (32 * k)) → EntriesRead d (16 * l.n) l.initial.entries
      → JudgedBelow (EntryStands d) (16 * l.n) l.initial.bad
      → EntriesRead d (16 * l.n + l.k) l.entries × JudgedBelow (EntryStands d) (16 * l.n + l.k) l.bad;
  kept : KeptBelow (16 * l.n) l.initial.entries l.initial.bad → KeptBelow (16 * l.n + l.k) l.entries l.bad;
}

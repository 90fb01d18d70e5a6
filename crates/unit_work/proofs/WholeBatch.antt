-- The law of the twin network, of a batch: what its jobs print, and how long it can take.
use Rattle.std.proofs.Common.{◌≡◌, ℕ, ◌+◌, ◌*◌, ◌≤◌, List, length, Some, ap, subst, arith}
use Rattle.solo_base.specs.declared.item.Item.{Item}
use Rattle.solo_base.specs.Text.{text}
use Rattle.solo_devices.specs.PrinterUnit.{Gains}
use Rattle.network_run.specs.Law.{AreEnabled}
use Rattle.deck_format.specs.Jobs.{jobs}
use Rattle.deck_units.specs.Units.{units}
use Rattle.disk_contents.specs.declared.loading.Loaded.{Loaded}
use Rattle.batch_job.specs.Report.{Loads}
use Rattle.batch_job.specs.OneThread.{one_thread_lines}
use Rattle.batch_procs.specs.Jobs.{one_thread}
use Rattle.deck_work.specs.DeckJobs.{deck_jobs}
use Rattle.deck_work.specs.DeckLaws.{deck_are_jobs}
use Rattle.deck_work.proofs.OneThread.{one_thread_is}
use Rattle.twin_law.specs.Twin.{TwinState, TwinEvent}
use Rattle.twin_law.specs.Opening.{AreTold, Opening}
use Rattle.twin_law.specs.Outcomes.{AllDone}
use Rattle.twin_law.specs.TheLaw.{the_law, first_state, IsReached}
use Rattle.twin_law.proofs.Reached.{holds}
use Rattle.twin_law.proofs.Bounded.{no-run_longer}
use Rattle.unit_work.specs.TwinBatch.{BatchPrints, longest_batch}
use Rattle.unit_work.proofs.ByUnits.{by-units, few-units}

pub batch-prints : (o : Opening deck_jobs) (s : TwinState Loaded) → IsReached o s → BatchPrints o s
batch-prints o s reached told items found deck_is files_are =
    subst (λ lines. Gains o.paper s.devices.paper (text lines) (AllDone s)) (one_thread_is items found)
    ((holds deck_are_jobs o s reached).prints by-units told items found deck_is files_are)

-- ---- the bound
by-jobs : (events cards lines printed us js : ℕ) → lines ≡ printed → us ≤ js → events ≤ 40 * (cards + lines + 4) + 40 * us
    → events ≤ 40 * (cards + printed + 4) + 50 * js
by-jobs events cards lines printed us js same few most = omega (arith, same, few, most)

pub batch-bound : (o : Opening deck_jobs) (items : List Item) (found : Loads) (events : List (TwinEvent Loaded)) → AreTold o.spools → o.deck ≡ Some items
    → o.files ≡ Some found → AreEnabled (the_law deck_jobs) (first_state o) events → length events ≤ longest_batch found items
batch-bound o items found events told deck_is files_are enabled =
    by-jobs (length events) (length items) (length (one_thread deck_jobs items found)) (length (one_thread_lines found items)) (length (units items))
    (length (jobs items)) (ap length (one_thread_is items found)) (few-units items)
    (no-run_longer deck_are_jobs o items found events by-units told deck_is files_are enabled)

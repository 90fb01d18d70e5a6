use Rattle.std.proofs.Common.{subst}
use Rattle.solo_base.specs.Text.{text}
use Rattle.solo_devices.specs.PrinterUnit.{Gains}
use Rattle.deck_work.specs.DeckLaws.{deck_are_jobs}
use Rattle.deck_work.proofs.OneThread.{one_thread_is}
use Rattle.core_law.specs.Ends.{AllDone}
use Rattle.core_law.proofs.Reached.{reached-holds}
use Rattle.unit_work.proofs.laws.batch_of_one_worker.Goals as goal

pub returns : goal.returns
returns c = λ o s reached told items found deck_is are_found.
    subst (λ lines. Gains o.paper s.devices.paper (text lines) (AllDone s)) (one_thread_is items found)
    ((reached-holds deck_are_jobs o s reached).prints told items found deck_is are_found)

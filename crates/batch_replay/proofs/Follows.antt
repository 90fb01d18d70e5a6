-- What the paper gained, from the law of the core.
use Rattle.std.proofs.Common.{◌≡◌, ℕ, List, Option, Some, refl, ◌∙◌, ap, sym}
use Rattle.solo_base.specs.declared.item.Item.{Item}
use Rattle.solo_base.specs.declared.outcome.Outcome.TheVariants as outcome
use Rattle.solo_base.specs.Text.{text}
use Rattle.solo_devices.specs.PrinterUnit.{Gains}
use Rattle.batch_procs.specs.Jobs.{Jobs, AreJobs, FilesAs, one_thread}
use Rattle.batch_procs.specs.declared.actions.Action.TheVariants as act
use Rattle.batch_procs.specs.History.{newest}
use Rattle.core_law.specs.Ends.{IsProcess, AllDone}
use Rattle.core_law.specs.Holds.{AreTold, AreFound}
use Rattle.core_law.specs.Opening.{Opening}
use Rattle.batch_ends.specs.declared.ends.Ran.{Ran}
use Rattle.batch_ends.specs.declared.units.Units.{Units}
use Rattle.batch_ends.specs.Ended.{all_done, outcome_at}
use Rattle.batch_sides.specs.Files.{FileTells}
use Rattle.batch_replay.specs.FiveRan.{BatchRan}
use Rattle.batch_replay.proofs.Ending.{each-process}
use Rattle.batch_replay.specs.Told.{IsARun}

module _ {L : Type 0} {J : Jobs L} (jobs : AreJobs J) {S K F A B : Type 0} {left : S → Option (List ℕ)} {taken_from source_faults : S → ℕ}
    {given : K → Option (List ℕ)} {sink_faults : K → ℕ} {loader : FileTells L F} {from_size : A → ℕ} {input_told : A → Option (List (List ℕ))}
    {input_faults : A → ℕ} {to_size : B → ℕ} {output_told : B → Option (List (List ℕ))} {output_faults : B → ℕ} {units : Units S K F A B} {ran : Ran S K F A B}
    {did : BatchRan J left taken_from source_faults given sink_faults loader from_size input_told input_faults to_size output_told output_faults units ran}
    {opening : Opening J} (run : IsARun J left taken_from source_faults given sink_faults loader from_size input_told input_faults to_size output_told
    output_faults
    units ran did opening) where
  done-at : (p : ℕ) → IsProcess p → outcome_at all_done p ≡ outcome.Done
  done-at p one = each-process jobs (λ p. outcome_at all_done p ≡ outcome.Done) p one refl refl refl refl refl

  all-done : ran.outcomes ≡ all_done → AllDone run.state
  all-done e p one =
      ap newest (run.same p one) ∙ (did.ends p one).ended
      ∙ ap (λ how. Some (act.Ended how)) (ap (λ o. outcome_at o p) e ∙ done-at p one)

  pub prints : AreTold opening.spools → (items : List Item) (found : FilesAs L) → opening.deck ≡ Some items → AreFound J opening.files found items
      → Gains opening.paper (given ran.units.paper.sink) (text (one_thread J items found)) (ran.outcomes ≡ all_done)
  prints told items found deck are =
      let gains = run.holds.prints told items found deck are in
      record {
        told = λ before e.
            (let of = gains.told before e in record {
              part = of.part;
              now_is = sym run.paper
                  ∙ of.now_is;
              prefix = of.prefix;
              all_is = λ done. of.all_is (all-done done);
            });
        untold = λ none. sym run.paper ∙ gains.untold none;
      }

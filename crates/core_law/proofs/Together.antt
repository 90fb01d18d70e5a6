-- How the five end together, in every reached state.
use Rattle.std.proofs.Common.{◌≡◌, ℕ, true, false, Option, None, Some, refl, sym, ◌∙◌}
use Rattle.solo_base.specs.declared.outcome.Side.{Side}
use Rattle.solo_base.specs.declared.outcome.Side.TheVariants.{Sender, Receiver}
use Rattle.solo_base.specs.declared.outcome.Outcome.TheVariants as outcome
use Rattle.solo_base.specs.declared.outcome.Cause.{Cause}
use Rattle.queue_var.specs.declared.stops.Stops.{Stops}
use Rattle.queue_var.specs.declared.stops.Stops.TheVariants.{Neither, One, Both}
use Rattle.queue_var.specs.Sides.{stopped_by, first_of, is_among}
use Rattle.batch_procs.specs.Process.{Process, Follows}
use Rattle.network_law.specs.Kept.{Stands}
use Rattle.core_law.specs.Core.{core, CoreState}
use Rattle.core_law.specs.Ends.{IsProcess, HasEndedSo, HasEnded, WasTold, EndsTogether}
use Rattle.core_law.proofs.Row.{IsRow}
use Rattle.core_law.proofs.Acting.{follows-of}
use Rattle.core_law.proofs.NeverStuck.{mark-is}
use Rattle.core_law.proofs.Told.{was-told}
use Rattle.core_law.proofs.Stopping.{AreFirst, WasToldBy, done-none, none-done, stopped-by}
use Rattle.batch_procs.specs.Jobs.{Jobs, AreJobs}

module _ {L : Type 0} {J : Jobs L} (jobs : AreJobs J) where
  none-among : (stops : Stops) (side : Side) → first_of stops ≡ None → is_among side stops ≡ false
  none-among Neither side e = refl
  none-among (One by) side e = absurd cc
  none-among (Both by) side e = absurd cc

  first-among : (stops : Stops) (side : Side) → first_of stops ≡ Some side → is_among side stops ≡ true
  first-among Neither side e = absurd cc
  first-among (One Sender) Sender e = refl
  first-among (One Sender) Receiver e = absurd cc
  first-among (One Receiver) Sender e = absurd cc
  first-among (One Receiver) Receiver e = refl
  first-among (Both by) side e = refl

  module _ {row : ℕ → Process L} (laws : IsRow jobs row) (opening s : CoreState L) (st : Stands (core J row) opening s) where
    abbrev first : ℕ → Option Side
    first b = stopped_by (s.buffers b).sides

    follows : (p : ℕ) → Follows J (row p) (s.histories p)
    follows p = follows-of jobs row p (s.histories p) (st.follows p)

    told-by : (p : ℕ) → WasTold s p → WasToldBy first p
    told-by p told = record { buffer = told.buffer; side = told.side; is_buffer = told.is_buffer; seated = told.seated; by = told.by }

    are-first : AreFirst jobs s.histories first
    are-first = record {
      neither = λ b is e side. sym (mark-is jobs laws opening s st b side) ∙ none-among (s.buffers b).sides.stops side e;
      did = λ b is side e. sym (mark-is jobs laws opening s st b side) ∙ first-among (s.buffers b).sides.stops side e;
      told = λ p one e. told-by p (was-told jobs laws opening s st p one e);
    }

    told-ends : ((p : ℕ) → IsProcess p → HasEnded s p) → (p : ℕ) → IsProcess p → HasEndedSo s outcome.Stopped p
        → WasTold s p × ((q : ℕ) × (cause : Cause) × IsProcess q × HasEndedSo s (outcome.Fault cause) q)
    told-ends all p one e =
        let (told, fault) = stopped-by jobs laws s.histories follows first are-first all p one e in (
          record { buffer = told.buffer; side = told.side; is_buffer = told.is_buffer; seated = told.seated; by = told.by },
          (fault.process, fault.cause, fault.one, fault.ended),
        )

    pub ends-together : EndsTogether s
    ends-together = record {
      done = done-none jobs laws s.histories follows first are-first;
      unstopped = none-done jobs laws s.histories follows first are-first;
      stopped = told-ends;
    }

-- What the five did side by side is a run of the core.
use Rattle.std.proofs.Common.{◌≡◌, Bool, Option, refl, ap, sym, ◌∙◌, lit≤}
use Rattle.solo_base.specs.declared.outcome.Side.{Side}
use Rattle.queue_var.specs.BetweenTwo.{WhoStopped}
use Rattle.batch_procs.specs.Jobs.{Jobs, AreJobs}
use Rattle.batch_procs.specs.Table.{process}
use Rattle.network_law.specs.Acts.{made_stop, was_told}
use Rattle.network_law.specs.Network.{acts}
use Rattle.replay_law.proofs.Schedule.{one-run}
use Rattle.core_law.specs.Core.{core, seat}
use Rattle.core_law.specs.TheLaw.{the_openings}
use Rattle.core_law.proofs.Ends.{the-five}
use Rattle.core_law.proofs.Stopping.{seat-one}
use Rattle.core_replay.specs.Owned.{rank}
use Rattle.core_replay.specs.Five.{FiveAreARun}
use Rattle.core_replay.proofs.Replayable.{replayable, ranked}

-- who stopped, by what is the same of both sides
same-stops : (has has_then told told_then : Side → Bool) (by : Option Side) → ((side : Side) → has_then side ≡ has side)
    → ((side : Side) → told_then side ≡ told side) → WhoStopped has told by → WhoStopped has_then told_then by
same-stops has has_then told told_then by stops tells who = record {
  neither = λ none side. stops side ∙ who.neither none side;
  did = λ side first. stops side ∙ who.did side first;
  told = λ side is. who.told side (sym (tells side) ∙ is);
}

module _ {L : Type 0} {J : Jobs L} (jobs : AreJobs J) where
  pub five-are-a-run : FiveAreARun J
  five-are-a-run opening deeds by beside =
      let r = one-run (replayable jobs (the-five jobs)) beside (the_openings J) rank (ranked jobs (the-five jobs)) in
      record {
        state = r.state;
        reached = r.reached;
        histories = r.histories;
        stopped = λ b at. same-stops _ _ _ _ (by b)
            (λ side. ap (λ h. made_stop b side (acts (core J (process J)) (seat b side) h)) (r.histories (seat b side) (seat-one b side at)))
            (λ side. ap (λ h. was_told b side (acts (core J (process J)) (seat b side) h)) (r.histories (seat b side) (seat-one b side at)))
            (beside.met b at).stopped;
        deck = (r.owns 1 (lit≤ tt, lit≤ tt)).deck refl;
        paper = (r.owns 5 (lit≤ tt, lit≤ tt)).paper refl;
      }

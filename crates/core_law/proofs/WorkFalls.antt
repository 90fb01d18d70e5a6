-- Each event of the core lowers the work that is left.
use Rattle.std.proofs.Common.{◌≡◌, ℕ, ◌+◌, ◌*◌, ◌-◌, ◌≤◌, ◌<◌, false, refl, subst, arith}
use Rattle.batch_procs.specs.declared.actions.Action.{Action}
use Rattle.batch_procs.specs.Parcels.{Parcel}
use Rattle.batch_procs.specs.History.{Entry, Does, LacksMemory, Delays}
use Rattle.batch_procs.specs.Table.{process}
use Rattle.network_law.specs.Acts.{is_delayed}
use Rattle.network_law.specs.Network.{IsEnabled, happens}
use Rattle.network_law.specs.Kept.{Stands}
use Rattle.core_law.specs.Core.{call, core, went, CoreState, CoreEvent}
use Rattle.core_law.specs.Opening.{Opening, first_state}
use Rattle.core_law.specs.TheLaw.{IsReached}
use Rattle.core_law.specs.Work.{calls_left, sleepers, events_left, LeavesFewer}
use Rattle.core_law.proofs.Acting.{follows-of, answered}
use Rattle.core_law.proofs.CallsFall.{cost, st-next, calls-fall}
use Rattle.core_law.proofs.DeskRoom.{desk-room}
use Rattle.core_law.proofs.Ends.{the-five}
use Rattle.core_law.proofs.Places.{call-buffer}
use Rattle.core_law.proofs.Reached.{reached-centre}
use Rattle.core_law.proofs.Sleeping.{Slept, wakes, wakes-most, call-slept, few-sleep}
use Rattle.batch_procs.specs.Jobs.{Jobs, AreJobs}

module _ {L : Type 0} {J : Jobs L} (jobs : AreJobs J) where
  -- ---- who sleeps behind an event
  module _ (opening s : CoreState L) (event : CoreEvent L) (st : Stands (core J (process J)) opening s) (enabled : IsEnabled (core J (process J)) s event) where
    pub slept : Slept jobs (is_delayed (went event.entry)) (wakes jobs (call event.process (Rattle.batch_procs.specs.History.action_of event.entry))
        (went event.entry))
        (sleepers s) (sleepers (happens (core J (process J)) s event))
    slept =
        call-slept jobs s event.process (call event.process (Rattle.batch_procs.specs.History.action_of event.entry)) (went event.entry)
        (λ b side visit e. call-buffer jobs (the-five jobs) event.process (s.histories event.process) enabled.one
        (follows-of jobs (process J) event.process (s.histories event.process) (st.follows event.process)) _ b side visit enabled.next e)
        enabled.may enabled.fits

    pub few : sleepers (happens (core J (process J)) s event) ≤ 12
    few = few-sleep jobs (happens (core J (process J)) s event) (desk-room jobs opening (happens (core J (process J)) s event)
        (st-next jobs opening s event st enabled))

  -- ---- all that is left
  lower : (c left s now n : ℕ) → left + 1 ≤ c → s ≤ now + n → n ≤ 1 → 2 * left + (12 - now) < 2 * c + (12 - s)
  lower c left s now n less slept one = omega (arith, less, slept, one)

  fall : (entry : Entry L) (c left s now n : ℕ) → left + cost jobs entry ≤ c → Slept jobs (is_delayed (went entry)) n s now → n ≤ 1 → now ≤ 12
      → 2 * left + (12 - now) < 2 * c + (12 - s)
  fall (Does a r) c left s now n less slept one most = lower c left s now n less
      (subst (λ d. Slept jobs d n s now) (answered jobs (Does a r) (λ b e. cc)) slept) one
  fall (LacksMemory a r) c left s now n less slept one most =
      lower c left s now n less (subst (λ d. Slept jobs d n s now) (answered jobs (LacksMemory a r) (λ b e. cc)) slept) one
  fall (Delays a) c left s now n less slept one most = omega (arith, less, slept, most)

  -- each event of a state that stands as every event keeps it
  pub work-lower : (opening s : CoreState L) (event : CoreEvent L) (cards left : ℕ) → Stands (core J (process J)) opening s
      → IsEnabled (core J (process J)) s event
      → LeavesFewer event.entry cards left → events_left J left (happens (core J (process J)) s event) < events_left J cards s
  work-lower opening s event cards left st enabled leaves =
      fall event.entry (calls_left J cards s) (calls_left J left (happens (core J (process J)) s event)) (sleepers s)
      (sleepers (happens (core J (process J)) s event)) _
      (calls-fall jobs opening s st event cards left leaves enabled) (slept opening s event st enabled) (wakes-most jobs _ _) (few opening s event st enabled)

  -- and so of a reached one
  pub work-falls : (o : Opening J) (s : CoreState L) (event : CoreEvent L) (cards left : ℕ) → IsReached o s → IsEnabled (core J (process J)) s event
      → LeavesFewer event.entry cards left → events_left J left (happens (core J (process J)) s event) < events_left J cards s
  work-falls o s event cards left reached = work-lower (first_state o) s event cards left (reached-centre jobs o s reached).stands

-- The job process where its work is next, and behind the work.
use Rattle.std.proofs.Common.{◌≡◌, ℕ, List, None, Some, refl, sym, ◌∙◌, ap, subst}
use Rattle.place_law.specs.Process.{Entry, place, caused, next_action}
use Rattle.place_law.proofs.Nexts.{next-shape, AtPlace, Stopping, Ending}
use Rattle.solo_law.specs.Work.{Work, Plan}
use Rattle.solo_law.specs.Actions.{Action, Reply}
use Rattle.solo_law.specs.Actions as act
use Rattle.solo_law.specs.JobPlaces.{JobPlace, job, job_does, Toils}
use Rattle.solo_law.specs.Replies.{view}
use Rattle.solo_law.specs.Solo.{table}
use Rattle.solo_law.proofs.Placed.{placed, is-2}
use Rattle.solo_procs.specs.declared.actions.SoloReply.{SoloReply}
use Rattle.solo_procs.specs.declared.commands.Given.{Given}
use Rattle.solo_procs.specs.declared.commands.Need.{Need}
use Rattle.solo_procs.specs.declared.job_proc.JobAt.{JobAt}
use Rattle.solo_procs.specs.declared.job_proc.JobAt.TheVariants as here
use Rattle.solo_procs.specs.declared.job_proc.JobProc.{JobProc}
use Rattle.solo_procs.specs.declared.machine.Machine.{Machine}
use Rattle.solo_procs.specs.Commands.{Kind, given_of, kind_given, Comes}
use Rattle.solo_procs.specs.Machine.{StandsFor}
use Rattle.solo_procs.specs.Job.{IsPlace, job_at, JobStands, HasCome, WorkedSo, HasWorked}

abbrev IsWork : Action → Type 0
IsWork (act.Works work) = Unit {0}
IsWork action = ⊥

toils : (a : JobPlace) (work : Work) → job_does a ≡ act.Works work → a ≡ Toils work
toils (Toils other) work e = cc
toils other work e = absurd cc

at-work : (h : List (Entry Action Reply)) (work : Work) → next_action view job h ≡ Some (act.Works work)
    → (caused view job h ≡ None) × (place job h ≡ Toils work)
at-work h work next =
    elim (next-shape table placed 2 h (act.Works work) is-2 next) as (λ _. (caused view job h ≡ None) × (place job h ≡ Toils work)) [
      | AtPlace free same ↦ (free, toils (place job h) work (sym same))
      | Stopping b stop ↦ absurd (subst IsWork stop.is tt)
      | Ending end ↦ absurd (subst IsWork end.is tt)
    ]

place-toils : (place : JobAt) (work : Work) → IsPlace place (Toils work) → place ≡ here.Toils
place-toils here.Toils work is = refl
place-toils other work is = absurd is

-- What the commands came to, from what the process gave them, is what the work came to.
pub has-come : {C : Type 0} (awaits : C → ℕ → Kind → Type 0) (j : JobProc C) (work : Work) → JobStands awaits j (Toils work)
    → (given left : Given) → given ≡ j.given → (commands : C) (need : Need) (old_plans new_plans : Plan → Type 0)
    → ((pages : ℕ) → awaits j.commands pages (kind_given (given_of given)) → Comes pages (given_of given) (awaits commands) old_plans new_plans need)
    → HasCome awaits old_plans new_plans (record j { given = left; commands = commands; met = Some need }) work
has-come awaits j work stands given left is commands need old_plans new_plans comes =
    let same : given_of given ≡ work.given = ap given_of is ∙ stands.holds.0 in
    let came : Comes work.pages work.given (awaits commands) old_plans new_plans need =
    subst (λ given. Comes work.pages given (awaits commands) old_plans new_plans need) same
    (comes work.pages (subst (λ given. awaits j.commands work.pages (kind_given given)) (sym same) stands.awaited)) in
    record {
      needed = came.needed;
      came = record {
        place = place-toils j.place work stands.place;
        need = need;
        met = refl;
        is = came.is;
        prints = stands.holds.1;
        taken = stands.taken;
        awaited = came.awaited;
      };
      fits = came.fits;
      planned = came.planned;
    }

module _ {C : Type 0} (awaits : C → ℕ → Kind → Type 0) (m : Machine (JobProc C)) (h : List (Entry Action Reply)) (work : Work)
    (st : StandsFor job job_at (JobStands awaits) m h) (next : next_action view job h ≡ Some (act.Works work)) where
  pub stands-there : JobStands awaits m.process (Toils work)
  stands-there = (let at = at-work h work next in subst (JobStands awaits m.process) at.1 (st.ready_there at.0))

  pub given-same : (given : Given) → given ≡ m.process.given → given_of given ≡ work.given
  given-same given is = ap given_of is ∙ stands-there.holds.0

  pub has-worked : (old_plans new_plans : Plan → Type 0) (now : JobProc C) (reply : SoloReply) → now.place ≡ m.process.place
      → (JobStands awaits m.process (Toils work) → WorkedSo awaits old_plans new_plans now work reply)
      → HasWorked awaits old_plans new_plans (record m { process = now }) h work reply
  has-worked old_plans new_plans now reply same worked = record {
    tracks = record {
      follows = st.tracks.follows;
      cause = st.tracks.cause;
      ended = st.tracks.ended;
      stops = st.tracks.stops;
      at_place = λ free. subst (λ here. IsPlace here (place job h)) (sym same) (st.tracks.at_place free);
    };
    worked = worked stands-there;
  }

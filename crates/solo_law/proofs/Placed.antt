-- Solo's table of places is one, so its network is lawful.
use Rattle.std.proofs.Common.{◌≡◌, inl, inr, ℕ, ◌==◌, Bool, true, false, if◌then◌else◌, [], Option, None, Some, refl, sym, ap, subst, arith, lit≤}
use Rattle.std.specs.List.{AllByRecursion}
use Rattle.std.proofs.lemmas.Bool.Decides.{eqb_tells}
use Rattle.solo_base.specs.declared.outcome.Side.{Side}
use Rattle.solo_base.specs.declared.outcome.Side.TheVariants.{Sender, Receiver}
use Rattle.solo_base.specs.declared.outcome.Outcome.{Outcome}
use Rattle.solo_base.specs.declared.outcome.Outcome.TheVariants as outcome
use Rattle.solo_base.specs.declared.outcome.Cause.{Cause}
use Rattle.network_law.specs.Acts.{Alone, At, Stops, Delayed}
use Rattle.network_law.specs.Processes.{IsLawful}
use Rattle.place_law.specs.Process.{fault_in, or_new, given_cause}
use Rattle.place_law.specs.Table.{PassesHere, StopsOwn, IsToldAt, MovesNothing, IsPlaced}
use Rattle.place_law.proofs.Lawful.{lawful}
use Rattle.solo_law.specs.Actions.{Action, Reply}
use Rattle.solo_law.specs.Actions as act
use Rattle.solo_law.specs.Buffers.{seat, call, went_by}
use Rattle.solo_law.specs.Replies.{Fits, MayLack, fault_read, reply_cause, ends_so, view}
use Rattle.solo_law.specs.InputPlaces.{InputPlace, input_does, input_behind, input}
use Rattle.solo_law.specs.InputPlaces as input_at
use Rattle.solo_law.specs.OutputPlaces.{OutputPlace, output_does, output_behind, output_finds, output}
use Rattle.solo_law.specs.OutputPlaces as output_at
use Rattle.solo_law.specs.JobPlaces.{JobPlace, job_does, job_behind, job_finds, job}
use Rattle.solo_law.specs.JobPlaces as at
use Rattle.solo_law.specs.Solo.{process, table, solo, IsProcess}

-- ---- what holds of one of the three
pub each-process : (P : ℕ → Type 0) (p : ℕ) → IsProcess p → P 1 → P 2 → P 3 → P p
each-process P p is one two three =
    elim (eqb_tells p 1) as (λ _. P p) [
      | inl a ↦ subst P (sym a.1) one
      | inr a ↦ elim (eqb_tells p 2) as (λ _. P p) [
        | inl c ↦ subst P (sym c.1) two
        | inr c ↦ (let last : p ≡ 3 = (let a = a.1 in let c = c.1 in let low = is.0 in let high = is.1 in omega (arith, a, c, low, high)) in
            subst P (sym last) three)
      ]
    ]

pub is-1 : IsProcess 1
is-1 = (lit≤ tt, lit≤ tt)

pub is-2 : IsProcess 2
is-2 = (lit≤ tt, lit≤ tt)

pub is-3 : IsProcess 3
is-3 = (lit≤ tt, lit≤ tt)

-- ---- one of the three sits at each side of each buffer
one-if : (t : Bool) (x y : ℕ) → IsProcess x → IsProcess y → IsProcess (if t then x else y)
one-if true x y one other = one
one-if false x y one other = other

pub seats : (b : ℕ) (side : Side) → IsProcess (seat b side)
seats b Sender =
    one-if (b == 1) 2 _ is-2 (one-if (b == 2) 1 _ is-1 (one-if (b == 3) 1 _ is-1 (one-if (b == 4) 2 _ is-2 (one-if (b == 5) 2 3 is-2 is-3))))
seats b Receiver =
    one-if (b == 1) 1 _ is-1 (one-if (b == 2) 2 _ is-2 (one-if (b == 3) 2 _ is-2 (one-if (b == 4) 3 _ is-3 (one-if (b == 5) 3 2 is-3 is-2))))

-- ---- at each place it passes at a side where it sits, or makes no call
input-passes : (a : InputPlace) → PassesHere seat 1 (call 1 (input_does a))
input-passes input_at.AwaitsOrder = refl
input-passes (input_at.Reads pages hand sound) = tt
input-passes (input_at.PutsFull page pages hand) = refl
input-passes (input_at.PutsLast page sound) = refl
input-passes (input_at.Reports sound) = refl
input-passes input_at.IsOver = tt

output-passes : (a : OutputPlace) → PassesHere seat 3 (call 3 (output_does a))
output-passes output_at.AwaitsPrinting = refl
output-passes (output_at.TakesPage pages) = refl
output-passes (output_at.PrintsLine line later last pages) = tt
output-passes output_at.ReportsPrinted = refl
output-passes output_at.IsDone = tt

job-passes : (a : JobPlace) → PassesHere seat 2 (call 2 (job_does a))
job-passes at.Listens = tt
job-passes (at.Toils work) = tt
job-passes (at.OrdersCards pages) = refl
job-passes (at.TakesCards taken items pages) = refl
job-passes (at.TakesReport items pages) = refl
job-passes (at.Accepts pages) = tt
job-passes (at.Displays line pages) = tt
job-passes (at.OrdersPrinter page behind) = refl
job-passes (at.PutsPage page behind pages) = refl
job-passes (at.TakesPrinted lines) = refl
job-passes (at.AnswersLine line later) = tt
job-passes at.DismissesInput = refl
job-passes at.DismissesOutput = refl
job-passes at.HasLeft = tt

-- ---- stops and ends
abbrev AreStops : ℕ → Type 0
AreStops p = AllByRecursion (StopsOwn seat p (process p).calls view.stop) (process p).buffers

sender-stops : (p b : ℕ) → seat b Sender ≡ p → call p (act.Stop b) ≡ At b Sender Stops → StopsOwn seat p (call p) view.stop b
sender-stops p b seated is = record { side = Sender; seated = seated; is = is }

receiver-stops : (p b : ℕ) → seat b Receiver ≡ p → call p (act.Stop b) ≡ At b Receiver Stops → StopsOwn seat p (call p) view.stop b
receiver-stops p b seated is = record { side = Receiver; seated = seated; is = is }

pub are-stops : (p : ℕ) → IsProcess p → AreStops p
are-stops p one =
    each-process AreStops p one (receiver-stops 1 1 refl refl, (sender-stops 1 2 refl refl, (sender-stops 1 3 refl refl, tt))) (
      sender-stops 2 1 refl refl,
      (
        receiver-stops 2 2 refl refl,
        (
          receiver-stops 2 3 refl refl,
          (sender-stops 2 4 refl refl, (sender-stops 2 5 refl refl, (receiver-stops 2 6 refl refl, tt))),
        ),
      ),
    )
    (receiver-stops 3 4 refl refl, (receiver-stops 3 5 refl refl, (sender-stops 3 6 refl refl, tt)))

process-ends : (p : ℕ) (how : Outcome) → IsProcess p → (process p).calls (act.Ended how) ≡ Alone
process-ends p how one = each-process (λ p. (process p).calls (act.Ended how) ≡ Alone) p one refl refl refl

some-buffers : (p : ℕ) → IsProcess p → (process p).buffers ≡ [] → ⊥
some-buffers p one = each-process (λ p. (process p).buffers ≡ [] → ⊥) p one (λ e. cc) (λ e. cc) (λ e. cc)

-- ---- the last place, from which there is no way
same-done : (how : Outcome) → Some outcome.Done ≡ Some how → how ≡ outcome.Done
same-done how e = cc

input-last : (a : InputPlace) (how : Outcome) → ends_so (input_does a) ≡ Some how → how ≡ outcome.Done
input-last input_at.IsOver how e = same-done how e
input-last other how e = absurd cc

output-last : (a : OutputPlace) (how : Outcome) → ends_so (output_does a) ≡ Some how → how ≡ outcome.Done
output-last output_at.IsDone how e = same-done how e
output-last other how e = absurd cc

job-last : (a : JobPlace) (how : Outcome) → ends_so (job_does a) ≡ Some how → how ≡ outcome.Done
job-last at.HasLeft how e = same-done how e
job-last other how e = absurd cc

input-stays : (a : InputPlace) (reply : Reply) (how : Outcome) → ends_so (input_does a) ≡ Some how → ends_so (input_does (input_behind a reply)) ≡ Some how
input-stays input_at.IsOver reply how e = e
input-stays other reply how e = absurd cc

output-stays : (a : OutputPlace) (reply : Reply) (how : Outcome) → ends_so (output_does a) ≡ Some how
    → ends_so (output_does (output_behind a reply)) ≡ Some how
output-stays output_at.IsDone reply how e = e
output-stays other reply how e = absurd cc

job-stays : (a : JobPlace) (reply : Reply) (how : Outcome) → ends_so (job_does a) ≡ Some how → ends_so (job_does (job_behind a reply)) ≡ Some how
job-stays at.HasLeft reply how e = e
job-stays other reply how e = absurd cc

-- ---- causes
output-quiet : (a : OutputPlace) → output_finds a act.Done ≡ None
output-quiet (output_at.TakesPage pages) = refl
output-quiet other = refl

job-quiet : (a : JobPlace) → job_finds a act.Done ≡ None
job-quiet (at.TakesCards taken items pages) = refl
job-quiet other = refl

finds-none : (p : ℕ) → IsProcess p → (a : (process p).Place) → (process p).finds a act.Done ≡ None
finds-none p one = each-process (λ p. (a : (process p).Place) → (process p).finds a act.Done ≡ None) p one (λ a. refl) job-quiet output-quiet

end-quiet : (p : ℕ) → IsProcess p → (a : (process p).Place) (action : Action) (reply : Reply) (how : Outcome) → Fits action reply
    → ends_so action ≡ Some how → given_cause view (process p) a action reply ≡ None
end-quiet p one a (act.Ended why) act.Done how fits e = ap fault_in (finds-none p one a)
end-quiet p one a (act.Ended why) reply how fits e = absurd fits
end-quiet p one a action reply how fits e = absurd cc

fault-not_done : (c : Option Cause) → fault_in c ≡ Some outcome.Done → ⊥
fault-not_done None e = cc
fault-not_done (Some c) e = cc

fault-not_stopped : (c : Option Cause) → fault_in c ≡ Some outcome.Stopped → ⊥
fault-not_stopped None e = cc
fault-not_stopped (Some c) e = cc

either-not : (old new : Option Outcome) (how : Outcome) → (old ≡ Some how → ⊥) → (new ≡ Some how → ⊥) → or_new old new ≡ Some how → ⊥
either-not None new how a b e = b e
either-not (Some why) new how a b e = a e

reply-not_done : (action : Action) (reply : Reply) → reply_cause action reply ≡ Some outcome.Done → ⊥
reply-not_done action act.Stopped e = cc
reply-not_done action act.Failed e = cc
reply-not_done action act.NoMemory e = cc
reply-not_done action (act.OfCard answer) e = fault-not_done (fault_read answer) e
reply-not_done action reply e = cc

not-done : (p : ℕ) (a : (process p).Place) (action : Action) (reply : Reply) → given_cause view (process p) a action reply ≡ Some outcome.Done → ⊥
not-done p a action reply =
    either-not (reply_cause action reply) (fault_in ((process p).finds a reply)) outcome.Done (reply-not_done action reply)
    (fault-not_done ((process p).finds a reply))

-- only the reply Stopped is the cause Stopped
reply-stopped : (action : Action) (reply : Reply) → reply_cause action reply ≡ Some outcome.Stopped → reply ≡ act.Stopped
reply-stopped action act.Stopped e = refl
reply-stopped action act.Failed e = absurd cc
reply-stopped action act.NoMemory e = absurd cc
reply-stopped action (act.OfCard answer) e = absurd (fault-not_stopped (fault_read answer) e)
reply-stopped action reply e = absurd cc

new-stopped : (old : Option Outcome) (c : Option Cause) → or_new old (fault_in c) ≡ Some outcome.Stopped → old ≡ Some outcome.Stopped
new-stopped None c e = absurd (fault-not_stopped c e)
new-stopped (Some how) c e = e

told-at : (p : ℕ) (action : Action) → Fits action act.Stopped → IsToldAt (call p action) (went_by action act.Stopped)
told-at p (act.PutArg b a) fits = tt
told-at p (act.TakeArg b) fits = tt
told-at p (act.PutPage b page) fits = tt
told-at p (act.TakePage b) fits = tt
told-at p action fits = absurd fits

abbrev CallsSo : ℕ → Type 0
CallsSo p = (action : Action) → (process p).calls action ≡ call p action

pub calls-so : (p : ℕ) → IsProcess p → CallsSo p
calls-so p one = each-process CallsSo p one (λ action. refl) (λ action. refl) (λ action. refl)

told : (p : ℕ) → IsProcess p → (a : (process p).Place) (action : Action) (reply : Reply) → Fits action reply
    → given_cause view (process p) a action reply ≡ Some outcome.Stopped → IsToldAt ((process p).calls action) (went_by action reply)
told p one a action reply fits e =
    let is = reply-stopped action reply (new-stopped (reply_cause action reply) ((process p).finds a reply) e) in
    subst (λ c. IsToldAt c (went_by action reply)) (sym (calls-so p one action))
    (subst (λ reply. IsToldAt (call p action) (went_by action reply)) (sym is) (told-at p action (subst (Fits action) is fits)))

answered : (action : Action) (reply : Reply) → went_by action reply ≡ Delayed → ⊥
answered (act.PutArg b a) act.Done e = cc
answered (act.PutPage b page) act.Done e = cc
answered (act.TakeArg b) (act.OfArg a) e = cc
answered (act.TakePage b) (act.OfPage page) e = cc
answered action act.Stopped e = cc
answered action reply e = cc

lack-fits : (action : Action) (reply : Reply) → MayLack action reply → Fits action reply
lack-fits (act.TakePage b) (act.OfPage page) may = tt
lack-fits action reply may = absurd may

stop-moves_not : (b : ℕ) (reply : Reply) → MovesNothing (went_by (act.Stop b) reply)
stop-moves_not b act.Stopped = tt
stop-moves_not b reply = tt

-- ---- the table
pub placed : IsPlaced table
placed = record {
  passes = λ p one. each-process (λ p. (a : (process p).Place) → PassesHere seat p ((process p).calls ((process p).does a))) p one input-passes job-passes
      output-passes;
  stops = are-stops;
  some = some-buffers;
  ends = process-ends;
  ends_so = λ how. refl;
  goes_on = λ b. refl;
  stop_kept = λ b reply may. may;
  stop_prompt = λ b may. may;
  stop_moves_not = stop-moves_not;
  last = λ p one. each-process (λ p. (a : (process p).Place) (how : Outcome) → ends_so ((process p).does a) ≡ Some how → how ≡ outcome.Done) p one
      input-last job-last output-last;
  stays = λ p one. each-process (λ p. (a : (process p).Place) (reply : Reply) (how : Outcome) → ends_so ((process p).does a) ≡ Some how
      → ends_so ((process p).does ((process p).behind a reply)) ≡ Some how) p one input-stays job-stays output-stays;
  quiet = end-quiet;
  not_done = λ p one. not-done p;
  told = told;
  answered = answered;
  lack_fits = lack-fits;
}

pub solo-lawful : IsLawful solo
solo-lawful = lawful table placed

-- At which buffers a process calls, which devices it uses, and that it uses one only without a cause.
use Rattle.std.proofs.Common.{◌≡◌, ℕ, Bool, true, false, if◌then◌else◌, List, [], ◌∷◌, Option, None, Some, inl, inr, refl, subst, lit≤}
use Rattle.std.specs.List.{AllByRecursion}
use Rattle.solo_base.specs.declared.outcome.Outcome.{Outcome}
use Rattle.place_law.specs.Process.{Process, caused, has_stopped, how_ended, stops_next, next_by, place, next_action}
use Rattle.place_law.proofs.Nexts.{unless-some, next-is, next-shape, AtPlace, Stopping, Ending}
use Rattle.solo_law.specs.Actions.{Action, Reply}
use Rattle.solo_law.specs.Actions as act
use Rattle.solo_law.specs.Replies.{view}
use Rattle.solo_law.specs.InputPlaces.{InputPlace, input_does}
use Rattle.solo_law.specs.InputPlaces as input_at
use Rattle.solo_law.specs.OutputPlaces.{OutputPlace, output_does}
use Rattle.solo_law.specs.OutputPlaces as output_at
use Rattle.solo_law.specs.JobPlaces.{JobPlace, job_does}
use Rattle.solo_law.specs.JobPlaces as at
use Rattle.solo_law.specs.Solo.{process, table, SoloEntry, IsProcess}
use Rattle.solo_law.specs.Holds.{IsBuffer}
use Rattle.solo_law.proofs.Placed.{each-process, placed}
use Rattle.solo_net.specs.Actions.{SoloHasPlace}

-- ---- the buffers of calls
input-place : (a : InputPlace) → SoloHasPlace (input_does a)
input-place input_at.AwaitsOrder = inl refl
input-place (input_at.PutsFull page pages hand) = inl refl
input-place (input_at.PutsLast page sound) = inl refl
input-place (input_at.Reports sound) = inr (inl refl)
input-place other = tt

output-place : (a : OutputPlace) → SoloHasPlace (output_does a)
output-place output_at.AwaitsPrinting = inr (inr (inl refl))
output-place (output_at.TakesPage pages) = inr refl
output-place output_at.ReportsPrinted = inr (inr (inr refl))
output-place other = tt

job-place : (a : JobPlace) → SoloHasPlace (job_does a)
job-place (at.OrdersCards pages) = inl refl
job-place (at.TakesCards taken items pages) = inl refl
job-place (at.TakesReport items pages) = inr (inl refl)
job-place (at.OrdersPrinter page behind) = inr (inr (inl refl))
job-place (at.PutsPage page behind pages) = inr refl
job-place (at.TakesPrinted lines) = inr (inr (inr refl))
job-place at.DismissesInput = inl refl
job-place at.DismissesOutput = inr (inr (inl refl))
job-place other = tt

stop-place : (p : Process Action Reply) (h : List SoloEntry) (how : Outcome) (buffers : List ℕ) → AllByRecursion IsBuffer buffers
    → SoloHasPlace (stops_next view p buffers how h)
stop-place p h how [] all = tt
stop-place p h how (b ∷ later) all =
    let P : Bool → Type 0 = λ t. SoloHasPlace (if t then stops_next view p later how h else act.Stop b) in
    elim (has_stopped p b h) as P [
      | true ↦ stop-place p h how later all.1
      | false ↦ all.0
    ]

all-buffers : (p : ℕ) → IsProcess p → AllByRecursion IsBuffer (process p).buffers
all-buffers p one =
    each-process (λ p. AllByRecursion IsBuffer (process p).buffers) p one
    ((lit≤ tt, lit≤ tt), ((lit≤ tt, lit≤ tt), ((lit≤ tt, lit≤ tt), tt)))
    ((lit≤ tt, lit≤ tt), ((lit≤ tt, lit≤ tt), ((lit≤ tt, lit≤ tt), ((lit≤ tt, lit≤ tt), ((lit≤ tt, lit≤ tt), ((lit≤ tt, lit≤ tt), tt))))))
    ((lit≤ tt, lit≤ tt), ((lit≤ tt, lit≤ tt), ((lit≤ tt, lit≤ tt), tt)))

place-by : (p : ℕ) (h : List SoloEntry) → IsProcess p → (cause : Option Outcome) → SoloHasPlace (next_by view (process p) cause h)
place-by p h one None =
    each-process (λ p. (a : (process p).Place) → SoloHasPlace ((process p).does a)) p one input-place job-place output-place (place (process p) h)
place-by p h one (Some how) = stop-place (process p) h how (process p).buffers (all-buffers p one)

pub next-place : (p : ℕ) (h : List SoloEntry) (a : Action) → IsProcess p → next_action view (process p) h ≡ Some a → SoloHasPlace a
next-place p h a one next =
    subst SoloHasPlace (unless-some (how_ended view h) (next_by view (process p) (caused view (process p) h) h) a next).1
    (place-by p h one (caused view (process p) h))

-- ---- whose devices they are
abbrev pub Owned : ℕ → Action → Type 0
Owned p act.ReadCard = p ≡ 1
Owned p act.Accept = p ≡ 2
Owned p (act.Display line) = p ≡ 2
Owned p (act.Works work) = p ≡ 2
Owned p (act.Print line) = p ≡ 3
Owned p action = Unit {0}

input-owned : (a : InputPlace) → Owned 1 (input_does a)
input-owned (input_at.Reads pages hand sound) = refl
input-owned other = tt

output-owned : (a : OutputPlace) → Owned 3 (output_does a)
output-owned (output_at.PrintsLine line later last pages) = refl
output-owned other = tt

job-owned : (a : JobPlace) → Owned 2 (job_does a)
job-owned at.Listens = refl
job-owned (at.Toils work) = refl
job-owned (at.Accepts pages) = refl
job-owned (at.Displays line pages) = refl
job-owned (at.AnswersLine line later) = refl
job-owned other = tt

pub next-owned : (p : ℕ) (h : List SoloEntry) (a : Action) → IsProcess p → next_action view (process p) h ≡ Some a → Owned p a
next-owned p h a one next =
    next-is table placed (Owned p) p h a one
    (each-process (λ p. (a : (process p).Place) → Owned p ((process p).does a)) p one input-owned job-owned output-owned) (λ b. tt) (λ how. tt) next

-- ---- without a cause
-- neither a stop nor the end
abbrev pub IsOpen : Action → Type 0
IsOpen (act.Stop b) = ⊥
IsOpen (act.Ended how) = ⊥
IsOpen action = Unit {0}

pub free-next : (p : ℕ) (h : List SoloEntry) (a : Action) → IsProcess p → next_action view (process p) h ≡ Some a → IsOpen a
    → caused view (process p) h ≡ None
free-next p h a one next open_so =
    elim (next-shape table placed p h a one next) as (λ _. caused view (process p) h ≡ None) [
      | AtPlace free same ↦ free
      | Stopping b stop ↦ absurd (subst IsOpen stop.is open_so)
      | Ending end ↦ absurd (subst IsOpen end.is open_so)
    ]

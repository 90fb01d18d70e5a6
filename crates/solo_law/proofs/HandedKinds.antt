-- Buffers 2 and 5 hand over pages, the others arguments.
use Rattle.std.proofs.Common.{◌≡◌, ℕ, ◌==◌, ◌&&◌, ◌||◌, Bool, true, false, List, [], ◌∷◌, ◌++◌, Some, refl, sym, subst}
use Rattle.std.specs.List.{AllByRecursion}
use Rattle.std.proofs.lemmas.Bool.{eqb-true}
use Rattle.solo_base.specs.declared.outcome.Side.{Side}
use Rattle.solo_base.specs.declared.outcome.Side.TheVariants.{Sender, Receiver}
use Rattle.queue_var.specs.Sides.{same_side}
use Rattle.network_law.specs.Acts.{Call, moved, moved_by, if_at, is_same}
use Rattle.network_law.specs.Network.{acts, Follows}
use Rattle.exchange_law.specs.Parcels.{Parcel, OfArg, OfPage}
use Rattle.exchange_law.proofs.Counted.{none-delayed}
use Rattle.place_law.specs.Process.{Does, LacksMemory, Delays, next_action}
use Rattle.place_law.proofs.Nexts.{next-is}
use Rattle.solo_law.specs.Actions.{Action, Reply}
use Rattle.solo_law.specs.Actions as act
use Rattle.solo_law.specs.Buffers.{call, went_by}
use Rattle.solo_law.specs.Replies.{view}
use Rattle.solo_law.specs.InputPlaces.{InputPlace, input_does}
use Rattle.solo_law.specs.InputPlaces as input_at
use Rattle.solo_law.specs.OutputPlaces.{OutputPlace, output_does}
use Rattle.solo_law.specs.OutputPlaces as output_at
use Rattle.solo_law.specs.JobPlaces.{JobPlace, job_does}
use Rattle.solo_law.specs.JobPlaces as at
use Rattle.solo_law.specs.Solo.{process, table, solo, SoloEntry, IsProcess}
use Rattle.solo_law.proofs.Placed.{each-process, calls-so, placed}

abbrev pub hands_pages : ℕ → Bool
hands_pages b = (b == 2) || (b == 5)

abbrev pub KindAt : ℕ → Parcel → Type 0
KindAt b (OfArg x) = hands_pages b ≡ false
KindAt b (OfPage page) = hands_pages b ≡ true

abbrev pub KindFits : Action → Type 0
KindFits (act.PutArg b x) = hands_pages b ≡ false
KindFits (act.TakeArg b) = hands_pages b ≡ false
KindFits (act.PutPage b page) = hands_pages b ≡ true
KindFits (act.TakePage b) = hands_pages b ≡ true
KindFits other = Unit {0}

input-kind : (a : InputPlace) → KindFits (input_does a)
input-kind input_at.AwaitsOrder = refl
input-kind (input_at.PutsFull page pages hand) = refl
input-kind (input_at.PutsLast page sound) = refl
input-kind (input_at.Reports sound) = refl
input-kind other = tt

output-kind : (a : OutputPlace) → KindFits (output_does a)
output-kind output_at.AwaitsPrinting = refl
output-kind (output_at.TakesPage pages) = refl
output-kind output_at.ReportsPrinted = refl
output-kind other = tt

job-kind : (a : JobPlace) → KindFits (job_does a)
job-kind (at.OrdersCards pages) = refl
job-kind (at.TakesCards taken items pages) = refl
job-kind (at.TakesReport items pages) = refl
job-kind (at.OrdersPrinter page behind) = refl
job-kind (at.PutsPage page behind pages) = refl
job-kind (at.TakesPrinted lines) = refl
job-kind at.DismissesInput = refl
job-kind at.DismissesOutput = refl
job-kind other = tt

abbrev PlacesFit : ℕ → Type 0
PlacesFit p = (a : (process p).Place) → KindFits ((process p).does a)

pub next-kind : (p : ℕ) (h : List SoloEntry) (a : Action) → IsProcess p → next_action view (process p) h ≡ Some a → KindFits a
next-kind p h a one next =
    next-is table placed KindFits p h a one (each-process PlacesFit p one input-kind job-kind output-kind) (λ b. tt) (λ how. tt) next

-- ---- what was moved
and-left : (t u : Bool) → (t && u) ≡ true → t ≡ true
and-left true u e = refl
and-left false u e = absurd cc

here : (b c : ℕ) (side of : Side) (x : Parcel) → KindAt c x → AllByRecursion (KindAt b) (if_at (is_same b side c of) x)
here b c side of x kind =
    let P : Bool → Type 0 = λ t. is_same b side c of ≡ t → AllByRecursion (KindAt b) (if_at t x) in
    elim (is_same b side c of) as P [
      | true ↦ (λ e. (subst (λ c. KindAt c x) (sym (eqb-true b c (and-left (b == c) (same_side side of) e))) kind, tt))
      | false ↦ (λ e. tt)
    ] refl

moved-kind : (p b : ℕ) (side : Side) (a : Action) (r : Reply) → KindFits a → AllByRecursion (KindAt b) (moved_by b side (call p a) (went_by a r))
moved-kind p b side (act.PutArg c x) act.Done is = here b c side Sender (OfArg x) is
moved-kind p b side (act.PutPage c page) act.Done is = here b c side Sender (OfPage page) is
moved-kind p b side (act.TakeArg c) (act.OfArg x) is = here b c side Receiver (OfArg x) is
moved-kind p b side (act.TakePage c) (act.OfPage page) is = here b c side Receiver (OfPage page) is
moved-kind p b side a act.Stopped is = tt
moved-kind p b side a r is = tt

all-both : (b : ℕ) (xs ys : List Parcel) → AllByRecursion (KindAt b) xs → AllByRecursion (KindAt b) ys → AllByRecursion (KindAt b) (xs ++ ys)
all-both b [] ys some more = more
all-both b (x ∷ xs) ys some more = (some.0, all-both b xs ys some.1 more)

abbrev MovedKind : ℕ → ℕ → Side → Action → Reply → Call → Type 0
MovedKind p b side a r c = AllByRecursion (KindAt b) (moved_by b side c (went_by a r))

next-moved : (p b : ℕ) (side : Side) (h : List SoloEntry) (a : Action) (r : Reply) → IsProcess p → next_action view (process p) h ≡ Some a
    → MovedKind p b side a r ((process p).calls a)
next-moved p b side h a r one next =
    subst (MovedKind p b side a r) (sym (calls-so p one a)) (moved-kind p b side a r (next-kind p h a one next))

pub all-kind : (p b : ℕ) (side : Side) (h : List SoloEntry) → IsProcess p → Follows solo p h → AllByRecursion (KindAt b) (moved b side (acts solo p h))
all-kind p b side [] one follows = tt
all-kind p b side (Does a r ∷ h) one follows =
    all-both b _ _ (all-kind p b side h one follows.2) (next-moved p b side h a r one follows.0)
all-kind p b side (LacksMemory a r ∷ h) one follows =
    all-both b _ _ (all-kind p b side h one follows.2) (next-moved p b side h a r one follows.0)
all-kind p b side (Delays a ∷ h) one follows =
    all-both b _ _ (all-kind p b side h one follows.2)
    (subst (AllByRecursion (KindAt b)) (sym (none-delayed b side ((process p).calls a))) tt)

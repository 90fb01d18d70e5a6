-- Which faults a process may end with, and what gives them.
use Rattle.std.specs.Prelude.{◌≡◌, ◌⊎◌, List, ◌∷◌, ◌++◌, Option, None, Some}
use Rattle.solo_base.specs.declared.outcome.Outcome.{Outcome}
use Rattle.solo_base.specs.declared.outcome.Outcome.TheVariants as outcome
use Rattle.solo_base.specs.declared.outcome.Cause.{Cause}
use Rattle.solo_base.specs.declared.outcome.Cause.TheVariants as cause
use Rattle.batch_procs.specs.Jobs.{Jobs}
use Rattle.batch_procs.specs.History.{Entry, Does, LacksMemory, Delays}
use Rattle.batch_procs.specs.Causes.{given_cause, caused}
use Rattle.batch_procs.specs.Process.{Process, Follows}
use Rattle.batch_procs.specs.Table.{card, input, job, output, printer}

-- the cause that one entry gives, behind these
abbrev pub cause_by : {L : Type 0} → Entry L → List (Entry L) → Option Outcome
cause_by (Does action reply) before = given_cause action reply before
cause_by (LacksMemory action reply) before = Some (outcome.Fault cause.NoMemory)
cause_by (Delays action) before = None

-- the entry that gave the cause, behind entries that gave none
pub record GivenBy {L : Type 0} (h : List (Entry L)) (how : Outcome) : Type 0 where
  pub later : List (Entry L)
  pub entry : Entry L
  pub before : List (Entry L)
  pub is : h ≡ later ++ entry ∷ before
  pub none : caused before ≡ None
  pub gives : cause_by entry before ≡ Some how

-- Each cause has such an entry.
abbrev pub EachCauseIsGiven : Type 0 → Type 0
EachCauseIsGiven L = (h : List (Entry L)) (how : Outcome) → caused h ≡ Some how → GivenBy h how

-- a page that isn't the one that was expected
abbrev pub IsDamaged : Cause → Type 0
IsDamaged (cause.Damaged expected found at) = Unit {0}
IsDamaged other = ⊥

-- every fault of a process is one of these
abbrev pub FaultsOf : {L : Type 0} → Jobs L → Process L → (Cause → Type 0) → Type 0
FaultsOf {L} J p Fault =
    (h : List (Entry L)) (c : Cause) → Follows J p h → caused h ≡ Some (outcome.Fault c) → Fault c

-- The card process may meet a deck that can't be read or is too long, the printer one a printer that fails or
-- memory that is refused; those that move pages a disk that fails, those that take pages a damaged one, and
-- the job process memory that is refused.
pub record FaultsOfTheFive {L : Type 0} (J : Jobs L) : Type 0 where
  pub card : FaultsOf J card (λ c. (c ≡ cause.ReadFault) ⊎ (c ≡ cause.DeckLimit))
  pub input : FaultsOf J input (λ c. c ≡ cause.DiskFault)
  pub job : FaultsOf J (job J) (λ c. (c ≡ cause.DiskFault) ⊎ (IsDamaged c ⊎ (c ≡ cause.NoMemory)))
  pub output : FaultsOf J output (λ c. (c ≡ cause.DiskFault) ⊎ IsDamaged c)
  pub printer : FaultsOf J printer (λ c. (c ≡ cause.PrintFault) ⊎ (c ≡ cause.NoMemory))

-- What a network is to who steps it: its states, its events, and what a step of one of its processes is.
use Rattle.std.specs.Prelude.{◌≡◌, ◌≤◌, ℕ, List, [], ◌∷◌, Option}
use Rattle.network_run.specs.declared.stepped.Stepped.{Stepped}

pub record Law : Type 1 where
  pub Opening : Type 0
  pub State : Type 0
  pub Event : Type 0
  -- the processes have the numbers from 1 to this one
  pub size : ℕ
  pub opened : Opening → State
  pub happens : State → Event → State
  pub IsEnabled : State → Event → Type 0
  -- a process has a next action, and is at its turn
  pub MayGo : State → ℕ → Type 0
  pub HasEnded : State → ℕ → Type 0
  -- whose event it is, and how it goes
  pub process : Event → ℕ
  pub went : State → Event → Stepped
  -- the process that has what is requested and granted, and how many requests an event grants
  pub holder : State → Option ℕ
  pub grants : State → Event → ℕ
  -- what is inside the devices of an opening is told; in an event no device fails and no memory is refused
  pub IsTold : Opening → Type 0
  pub IsSmooth : Event → Type 0

abbrev pub IsOne : Law → ℕ → Type 0
IsOne law p = (1 ≤ p) × (p ≤ law.size)

-- ---- lists of events
abbrev pub run : (law : Law) → law.State → List law.Event → law.State
run law s [] = s
run law s (event ∷ events) = run law (law.happens s event) events

abbrev pub AreEnabled : (law : Law) → law.State → List law.Event → Type 0
AreEnabled law s [] = Unit {0}
AreEnabled law s (event ∷ events) = law.IsEnabled s event × AreEnabled law (law.happens s event) events

-- some list of enabled events leads from one state to another
pub record IsReached (law : Law) (start s : law.State) : Type 0 where
  pub events : List law.Event
  pub enabled : AreEnabled law start events
  pub leads : run law start events ≡ s

-- a reached state where a network stands
pub record Placed (law : Law) (Stands : law.State → Type 0) : Type 0 where
  pub opening : law.Opening
  pub state : law.State
  pub reached : IsReached law (law.opened opening) state
  pub stands : Stands state

-- ---- who may go on
abbrev pub AllEnded : (law : Law) → law.State → Type 0
AllEnded law s = (p : ℕ) → IsOne law p → law.HasEnded s p

abbrev pub NoneGoes : (law : Law) → law.State → Type 0
NoneGoes law s = (p : ℕ) → IsOne law p → law.MayGo s p → ⊥

-- ---- one step
-- The network stands for a place where the process may go on.
pub record MayStep (law : Law) (Stands : law.State → Type 0) (p : ℕ) : Type 0 where
  pub at : Placed law Stands
  pub may : law.MayGo at.state p

-- One enabled event of the process: the answer says how it went, and the network stands for the state behind
-- it.
pub record Steps {N : Type 0} (law : Law) (Stands : N → law.State → Type 0)
    (Moves : N → law.Event → N → Type 0) (old new : N) (s : law.State) (p : ℕ) (result : Stepped)
    : Type 0 where
  pub event : law.Event
  pub process_is : law.process event ≡ p
  pub told : result ≡ law.went s event
  pub enabled : law.IsEnabled s event
  pub stands : Stands new (law.happens s event)
  pub moves : Moves old event new

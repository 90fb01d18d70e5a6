-- The law of the twin network as a driver steps it, and its reached states.
use Rattle.std.specs.Prelude.{◌≡◌, ℕ, true}
use Rattle.network_run.specs.Law as run
use Rattle.network_law.specs.Network.{IsEnabled, opening}
use Rattle.network_law.specs.Stepping.{Openings, law_of}
use Rattle.batch_procs.specs.Jobs.{Jobs}
use Rattle.twin_law.specs.Process.{Entry, has_ended}
use Rattle.twin_law.specs.Twin.{Devices, twin, TwinState, TwinEvent, IsProcess}
use Rattle.twin_law.specs.Opening.{size_of, told_of, Opening, devices_at, IsSmooth}

-- No opening is taken to tell all: that nothing is open but who steps next isn't claimed.
abbrev pub the_openings : {L : Type 0} → Jobs L → Openings (Devices L) (Entry L)
the_openings J = record {
  Opening = Opening J;
  devices = λ o. devices_at o;
  sizes = λ o. size_of o.spools;
  told = λ o. told_of o.spools;
  IsTold = λ o. ⊥;
  IsSmooth = λ entry. IsSmooth entry;
}

abbrev pub the_law : {L : Type 0} → Jobs L → run.Law
the_law J = law_of (twin J) (the_openings J)

abbrev pub first_state : {L : Type 0} {J : Jobs L} → Opening J → TwinState L
first_state o = opening (devices_at o) (size_of o.spools) (told_of o.spools)

-- A state of the six that some list of enabled events leads to from an opening.
abbrev pub IsReached : {L : Type 0} {J : Jobs L} → Opening J → TwinState L → Type 0
IsReached {L} {J} o s = run.IsReached (the_law J) (first_state o) s

-- ---- never stuck
abbrev pub HasEnded : {L : Type 0} → TwinState L → ℕ → Type 0
HasEnded s p = has_ended (s.histories p) ≡ true

-- Some process has not ended, and no event may happen in which no device fails and no memory is refused.
pub record IsStuck {L : Type 0} (J : Jobs L) (s : TwinState L) : Type 0 where
  pub not_ended : ((p : ℕ) → IsProcess p → HasEnded s p) → ⊥
  pub none_enabled : (event : TwinEvent L) → IsEnabled (twin J) s event → IsSmooth event.entry → ⊥

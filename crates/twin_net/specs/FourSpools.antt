-- The four spools, each found by the number of its buffer.
use Rattle.std.specs.Prelude.{◌≡◌, ◌≤◌, ◌==◌, ℕ, if◌then◌else◌, List, Option, Some}
use Rattle.solo_base.specs.declared.outcome.Side.{Side}
use Rattle.solo_devices.specs.Count.{Rose}
use Rattle.disk_spool.specs.Spool.{Spool}
use Rattle.batch_procs.specs.declared.actions.Reply.{Reply}
use Rattle.batch_procs.specs.declared.actions.Reply.TheVariants as reply
use Rattle.batch_procs.specs.Jobs.{Jobs}
use Rattle.batch_procs.specs.Parcels.{Parcel, is_last}
use Rattle.network_law.specs.Acts.{Visit}
use Rattle.network_law.specs.Buffer.{Buffer, VisitFits, after_visit}
use Rattle.network_law.specs.Network.{set}
use Rattle.net_core.specs.Shared.{Choice}
use Rattle.net_core.specs.Spools.{SpoolStands}
use Rattle.twin_law.specs.Process.{Action}
use Rattle.twin_law.specs.Twin.{went}
use Rattle.twin_ends.specs.TwinCalls.{entry_for, ReplySuits}
use Rattle.twin_net.specs.declared.spools.TwinSpools.{TwinSpools}

-- A spool has this number, and this holds of it.
abbrev pub AtSpool : {A : Type 0} → TwinSpools A → ℕ → (Spool A → Type 0) → Type 0
AtSpool spools b Holds =
    Choice (b == 2) (Holds spools.to_a)
    (Choice (b == 3) (Holds spools.to_b)
    (Choice (b == 4) (Holds spools.from_a) (Choice (b == 5) (Holds spools.from_b) ⊥)))

-- the one of the four with a number
abbrev pub of_four : {A : Type 0} → A → A → A → A → ℕ → A
of_four to_a to_b from_a from_b b =
    if b == 2 then to_a else if b == 3 then to_b else if b == 4 then from_a else from_b

-- the area of the spool of a number
abbrev pub area_of : {A : Type 0} → TwinSpools A → ℕ → A
area_of spools b = of_four spools.to_a.area spools.to_b.area spools.from_a.area spools.from_b.area b

-- They stand for the buffers 2 to 5 of the law.
pub record SpoolsStand {L A : Type 0} (told_by : A → Option (List (List ℕ))) (spools : TwinSpools A)
    (buffers : ℕ → Buffer (Parcel L)) : Type 0 where
  pub to_a : SpoolStands told_by spools.to_a (buffers 2)
  pub to_b : SpoolStands told_by spools.to_b (buffers 3)
  pub from_a : SpoolStands told_by spools.from_a (buffers 4)
  pub from_b : SpoolStands told_by spools.from_b (buffers 5)

-- A call at a side of the spool of a number goes as the law allows, and the spools stand for the buffers
-- behind it. Where it fails, this spool's area counted it.
pub record SpoolVisited {L A : Type 0} (J : Jobs L) (told_by : A → Option (List (List ℕ))) (faults : A → ℕ)
    (old new : TwinSpools A) (side : Side) (visit : Visit) (p b : ℕ) (action : Action)
    (result : Option (Reply L)) : Type 0 where
  pub number : (2 ≤ b) × (b ≤ 5)
  pub suits : ReplySuits J action result
  pub fits : (buffers : ℕ → Buffer (Parcel L)) → SpoolsStand told_by old buffers
      → VisitFits is_last side (buffers b) visit (went (entry_for action result))
  pub after : (buffers : ℕ → Buffer (Parcel L)) → SpoolsStand told_by old buffers
      → SpoolsStand told_by new
      (set buffers b (after_visit is_last visit side p (went (entry_for action result)) (buffers b)))
  pub failed : result ≡ Some reply.Failed → Rose (faults (area_of old b)) (faults (area_of new b))
  pub counts : (n : ℕ) → faults (area_of old n) ≤ faults (area_of new n)

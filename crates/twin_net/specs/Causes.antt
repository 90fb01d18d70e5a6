-- Where a failure comes from: which device counted it.
use Rattle.std.specs.Prelude.{◌≡◌, ◌≢◌, ◌≤◌, ◌<◌, ◌⊎◌, ℕ, false, Option, Some}
use Rattle.solo_devices.specs.Count.{Rose}
use Rattle.solo_devices.specs.CardUnit.{byte_limit}
use Rattle.solo_devices.specs.declared.card_read.CardRead.TheVariants as card_read
use Rattle.batch_procs.specs.declared.actions.Reply.{Reply}
use Rattle.batch_procs.specs.declared.actions.Reply.TheVariants as reply
use Rattle.twin_law.specs.Process.{Action, ReadCard, PutPage, TakePage, Load, Print}
use Rattle.twin_ends.specs.declared.units.TwinUnits.{TwinUnits}
use Rattle.twin_ends.specs.TwinTells.{TwinCounts}
use Rattle.twin_net.specs.declared.shared.TwinShared.{TwinShared}
use Rattle.twin_net.specs.FourSpools.{of_four}
use Rattle.twin_net.specs.TwinStands.{shared_units}

-- how many failures were counted at the area of the spool of a number
abbrev pub spool_faults : {S K F A : Type 0} → TwinCounts S K F A → TwinUnits S K F A → ℕ → ℕ
spool_faults counts units b =
    counts.page_faults (of_four units.to_a units.to_b units.from_a units.from_b b)

-- the same of what the six share
abbrev pub shared_faults : {X S K F A : Type 0} → TwinCounts S K F A → TwinShared X S K F A → ℕ → ℕ
shared_faults counts shared b = spool_faults counts (shared_units shared) b

-- The failure of a call was counted by its own device: no other call fails. Behind a load that failed each
-- other fails too, and the files aren't asked.
abbrev pub FailureCounted : {X S K F A : Type 0} → TwinCounts S K F A → TwinShared X S K F A
    → TwinShared X S K F A → Action → Type 0
FailureCounted counts old new (PutPage b page) =
    Rose (shared_faults counts old b) (shared_faults counts new b)
FailureCounted counts old new (TakePage b) =
    Rose (shared_faults counts old b) (shared_faults counts new b)
FailureCounted counts old new (Load file) =
    (old.sound ≡ false) ⊎ Rose (counts.file_faults old.files) (counts.file_faults new.files)
FailureCounted counts old new (Print line) =
    Rose (counts.print_faults old.paper.sink) (counts.print_faults new.paper.sink)
FailureCounted counts old new action = ⊥

-- Each failure was counted, and the limit is told where too many bytes were taken. No count falls, and the
-- deck changes by a read alone.
pub record TwinCauses {L X S K F A : Type 0} (counts : TwinCounts S K F A) (old new : TwinShared X S K F A)
    (action : Action) (result : Option (Reply L)) : Type 0 where
  pub failed : result ≡ Some reply.Failed → FailureCounted counts old new action
  pub read : result ≡ Some (reply.Card card_read.Failed)
      → Rose (counts.read_faults old.deck.source) (counts.read_faults new.deck.source)
  pub limit : result ≡ Some (reply.Card card_read.Limit) → byte_limit < counts.taken new.deck.source
  pub limit_told : action ≡ ReadCard → byte_limit < counts.taken new.deck.source
      → result ≡ Some (reply.Card card_read.Limit)
  -- the files are asked no more only where a load failed
  pub unsound : new.sound ≡ false
      → (old.sound ≡ false) ⊎ Rose (counts.file_faults old.files) (counts.file_faults new.files)
  pub read_on : counts.read_faults old.deck.source ≤ counts.read_faults new.deck.source
  pub print_on : counts.print_faults old.paper.sink ≤ counts.print_faults new.paper.sink
  pub files_on : counts.file_faults old.files ≤ counts.file_faults new.files
  pub spools_on : (b : ℕ) → shared_faults counts old b ≤ shared_faults counts new b
  pub deck_stays : action ≢ ReadCard → new.deck ≡ old.deck

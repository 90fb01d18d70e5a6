-- What an event changes of the network beside its state, and what every run keeps.
use Rattle.std.specs.Prelude.{◌≡◌}
use Rattle.batch_procs.specs.History.{action_of}
use Rattle.batch_procs.specs.Jobs.{Jobs}
use Rattle.core_law.specs.Core.{CoreEvent}
use Rattle.core_law.specs.Work.{LeavesFewer}
use Rattle.batch_ends.specs.declared.units.Units.{Units}
use Rattle.batch_ends.specs.Causes.{Counts}
use Rattle.batch_ends.specs.Devices.{cards_left}
use Rattle.batch_ends.specs.Tells.{Tells}
use Rattle.net_core.specs.declared.net.Net.{Net}
use Rattle.net_core.specs.Causes.{HasCauses}
use Rattle.net_core.specs.Faults.{CausesAreCounted}
use Rattle.net_core.specs.Net.{Keeps}
use Rattle.net_core.specs.Shared.{deck_total}
use Rattle.net_core.specs.Steps.{reply_of}

-- The faults that were counted so far are, the deck has as many bytes in all, and no file changes.
pub record KeepsAll {L X S K F A B : Type 0} (J : Jobs L) (keeps : Keeps L X) (tells : Tells L S K F A B)
    (counts : Counts S K F A B) (old new : Net X S K F A B) : Type 0 where
  pub counted : (before : Units S K F A B) → CausesAreCounted J keeps tells counts before old
      → CausesAreCounted J keeps tells counts before new
  pub total : deck_total tells new.shared.deck ≡ deck_total tells old.shared.deck
  pub files : tells.pages new.shared.files ≡ tells.pages old.shared.files

-- A failure comes from its own device, and the deck has fewer cards to give where it gave one.
pub record MovesBy {L X S K F A B : Type 0} (J : Jobs L) (keeps : Keeps L X) (tells : Tells L S K F A B)
    (counts : Counts S K F A B) (old : Net X S K F A B) (event : CoreEvent L) (new : Net X S K F A B)
    : Type 0 where
  pub causes : HasCauses tells counts old.shared new.shared event.process (action_of event.entry)
      (reply_of event.entry)
  pub deck : LeavesFewer event.entry (cards_left tells.taken old.shared.deck)
      (cards_left tells.taken new.shared.deck)
  pub all : KeepsAll J keeps tells counts old new

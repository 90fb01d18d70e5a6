-- What a step of a process is to the law.
use Rattle.std.specs.Prelude.{◌≡◌, ℕ, Bool, true, false, List, ◌∷◌, Option, None, Some}
use Rattle.batch_procs.specs.declared.actions.Action.{Action}
use Rattle.batch_procs.specs.declared.actions.Action.TheVariants as act
use Rattle.batch_procs.specs.declared.actions.Reply.{Reply}
use Rattle.batch_procs.specs.Parcels.{is_last}
use Rattle.batch_procs.specs.History.{Entry, Does, LacksMemory, Delays, action_of}
use Rattle.batch_procs.specs.Process.{Process, next_action}
use Rattle.network_run.specs.declared.stepped.Stepped.{Stepped}
use Rattle.network_law.specs.Acts.{is_delayed}
use Rattle.network_law.specs.Stepping.{stepped_so, is_again}
use Rattle.network_law.specs.Network.{Fits, buffers_after, desk_after}
use Rattle.core_law.specs.Core.{Allows, given, call, went, CoreState}
use Rattle.core_law.specs.Work.{LeavesFewer}
use Rattle.net_core.specs.declared.shared.Shared.{Shared}
use Rattle.batch_ends.specs.Causes.{Counts}
use Rattle.batch_ends.specs.Devices.{cards_left}
use Rattle.batch_ends.specs.Tells.{Tells}
use Rattle.net_core.specs.Causes.{HasCauses}
use Rattle.net_core.specs.Shared.{SharedStands, MayPerform, deck_total}
use Rattle.net_core.specs.Turns.{HasPlace}

-- An entry of a process goes as the law allows in each state that is stood for, and what is shared stands for
-- the state behind it.
pub record Enters {L X S K F A B : Type 0} (tells : Tells L S K F A B) (old new : Shared X S K F A B) (p : ℕ)
    (action : Action) (entry : Entry L) : Type 0 where
  pub gained : List ℕ
  pub deck : LeavesFewer entry (cards_left tells.taken old.deck) (cards_left tells.taken new.deck)
  pub total : deck_total tells new.deck ≡ deck_total tells old.deck
  pub files : tells.pages new.files ≡ tells.pages old.files
  pub fits : (s : CoreState L) → SharedStands tells old s → Fits is_last s (call p action) (went entry)
  pub allowed : (s : CoreState L) → SharedStands tells old s → Allows s.devices entry gained
  pub after : (s : CoreState L) (histories : ℕ → List (Entry L)) → SharedStands tells old s
      → SharedStands tells new record {
        devices = given s.devices entry gained;
        histories = histories;
        buffers = buffers_after is_last (call p action) p (went entry) s.buffers;
        desk = desk_after (call p action) p (went entry) s.desk;
      }

-- A machine of this process stands for a history after which it does this, and that may be performed.
pub record MayStep {L X S K F A B : Type 0} (tells : Tells L S K F A B) (process : Process L)
    (Stands : List (Entry L) → Type 0) (shared : Shared X S K F A B) (p : ℕ) : Type 0 where
  pub history : List (Entry L)
  pub action : Action
  pub stands : Stands history
  pub next : next_action process history ≡ Some action
  pub may : MayPerform tells shared p action

abbrev pub is_end : Action → Bool
is_end (act.Ended how) = true
is_end action = false

-- the reply of an entry
abbrev pub reply_of : {L : Type 0} → Entry L → Option (Reply L)
reply_of (Does action r) = Some r
reply_of (LacksMemory action r) = Some r
reply_of (Delays action) = None

-- Behind a history after which it does this, the machine stands for one entry more, and the answer says how
-- that went.
pub record Steps {L X S K F A B : Type 0} (Stands : List (Entry L) → Type 0) (tells : Tells L S K F A B)
    (counts : Counts S K F A B) (old new : Shared X S K F A B) (p : ℕ) (action : Action)
    (history : List (Entry L)) (result : Stepped) : Type 0 where
  pub entry : Entry L
  pub told : (s : CoreState L) → SharedStands tells old s → HasPlace s p action
      → result ≡ stepped_so (is_delayed (went entry)) (is_end action) (is_again s (call p action))
  pub action_is : action_of entry ≡ action
  pub stands : Stands (entry ∷ history)
  pub enters : Enters tells old new p action entry
  pub causes : HasCauses tells counts old new p action (reply_of entry)

-- What a step of a process is to the law.
use Rattle.std.specs.Prelude.{◌≡◌, ◌≢◌, ℕ, true, List, ◌∷◌, Option, None, Some}
use Rattle.solo_devices.specs.declared.card_read.CardRead.TheVariants as read
use Rattle.batch_procs.specs.declared.actions.Reply.{Reply}
use Rattle.batch_procs.specs.declared.actions.Reply.TheVariants as reply
use Rattle.batch_procs.specs.Jobs.{Jobs}
use Rattle.batch_procs.specs.Parcels.{is_last}
use Rattle.batch_ends.specs.Devices.{cards_left}
use Rattle.place_law.specs.Process.{Does, LacksMemory, Delays, action_of}
use Rattle.network_run.specs.declared.stepped.Stepped.{Stepped}
use Rattle.network_law.specs.Acts.{is_delayed}
use Rattle.network_law.specs.Network.{Fits, buffers_after, desk_after}
use Rattle.network_law.specs.Stepping.{stepped_so, is_again}
use Rattle.twin_law.specs.Left.{DrawsFrom}
use Rattle.twin_law.specs.Process.{Action, Entry, Process, is_end, next_action}
use Rattle.twin_law.specs.Twin.{call, went, Suits, Allows, given, TwinState}
use Rattle.twin_ends.specs.TwinTells.{TwinTells, TwinCounts}
use Rattle.twin_procs.specs.Said.{said}
use Rattle.twin_net.specs.declared.shared.TwinShared.{TwinShared}
use Rattle.twin_net.specs.TwinStands.{TwinStands, cards_total}
use Rattle.twin_net.specs.Causes.{TwinCauses}
use Rattle.twin_net.specs.Doing.{MayLoad, MayDo, IsPrint}
use Rattle.twin_net.specs.Turns.{TwinHasPlace}

-- the reply of an entry
abbrev pub twin_reply_of : {L : Type 0} → Entry L → Option (Reply L)
twin_reply_of (Does action r) = Some r
twin_reply_of (LacksMemory action r) = Some r
twin_reply_of (Delays action) = None

-- An entry of a process goes as the law allows in each state that is stood for, and what is shared stands for
-- the state behind it. A device may be used again unless it failed.
pub record TwinEnters {L X S K F A : Type 0} (tells : TwinTells L S K F A) (old new : TwinShared X S K F A)
    (p : ℕ) (action : Action) (entry : Entry L) : Type 0 where
  pub gained : List ℕ
  pub deck : DrawsFrom entry (cards_left tells.taken old.deck) (cards_left tells.taken new.deck)
  pub total : cards_total tells new.deck ≡ cards_total tells old.deck
  pub files : tells.file_pages new.files ≡ tells.file_pages old.files
  pub sound : MayLoad tells old → MayLoad tells new
  pub deck_live : old.deck.live ≡ true → twin_reply_of entry ≢ Some (reply.Card read.Failed)
      → twin_reply_of entry ≢ Some (reply.Card read.Limit) → new.deck.live ≡ true
  pub paper_live : old.paper.live ≡ true → (IsPrint action → twin_reply_of entry ≡ Some reply.Done)
      → new.paper.live ≡ true
  pub fits : (s : TwinState L) → TwinStands tells old s → Fits is_last s (call p action) (went entry)
  pub allowed : (s : TwinState L) → TwinStands tells old s → Allows s.devices entry gained
  pub after : (s : TwinState L) (histories : ℕ → List (Entry L)) → TwinStands tells old s
      → TwinStands tells new record {
        devices = given s.devices entry gained;
        histories = histories;
        buffers = buffers_after is_last (call p action) p (went entry) s.buffers;
        desk = desk_after (call p action) p (went entry) s.desk;
      }

-- A machine of this process stands for a history after which it does this, and that may be done.
pub record TwinMayStep {L X S K F A : Type 0} (tells : TwinTells L S K F A) (process : Process L)
    (Stands : List (Entry L) → Type 0) (shared : TwinShared X S K F A) (p : ℕ) : Type 0 where
  pub history : List (Entry L)
  pub action : Action
  pub stands : Stands history
  pub next : next_action process history ≡ Some action
  pub may : MayDo tells shared p (said action)

-- Behind a history after which it does this, the machine stands for one entry more, which suits the process,
-- and the answer says how that went.
pub record TwinSteps {L X S K F A : Type 0} (J : Jobs L) (process : Process L)
    (Stands : List (Entry L) → Type 0) (tells : TwinTells L S K F A) (counts : TwinCounts S K F A)
    (old new : TwinShared X S K F A) (p : ℕ) (action : Action) (history : List (Entry L)) (result : Stepped)
    : Type 0 where
  pub entry : Entry L
  pub told : (s : TwinState L) → TwinStands tells old s → TwinHasPlace s p action
      → result ≡ stepped_so (is_delayed (went entry)) (is_end action) (is_again s (call p action))
  pub action_is : action_of entry ≡ action
  pub suits : Suits J process entry
  pub stands : Stands (entry ∷ history)
  pub causes : TwinCauses counts old new action (twin_reply_of entry)
  pub enters : TwinEnters tells old new p action entry

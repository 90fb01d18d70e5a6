-- Where a failure comes from, and which devices may still be used.
use Rattle.std.specs.Prelude.{◌≡◌, ◌≢◌, ◌≤◌, ◌<◌, ℕ, true, Option, Some}
use Rattle.solo_devices.specs.Count.{Rose}
use Rattle.solo_devices.specs.CardUnit.{byte_limit}
use Rattle.solo_devices.specs.declared.card_read.CardRead.TheVariants as card_read
use Rattle.batch_procs.specs.declared.actions.Action.{Action}
use Rattle.batch_procs.specs.declared.actions.Action.TheVariants as act
use Rattle.batch_procs.specs.declared.actions.Reply.{Reply}
use Rattle.batch_procs.specs.declared.actions.Reply.TheVariants as reply
use Rattle.batch_ends.specs.Causes.{Counts}
use Rattle.batch_ends.specs.Tells.{Tells}
use Rattle.net_core.specs.declared.shared.Shared.{Shared}

-- a move of a page at the input spool: put by the input process, taken by the job process
abbrev pub MovesInput : ℕ → Action → Type 0
MovesInput p (act.PutPage page) = p ≡ 2
MovesInput p act.TakePage = p ≡ 3
MovesInput p action = ⊥

-- and at the output spool
abbrev pub MovesOutput : ℕ → Action → Type 0
MovesOutput p (act.PutPage page) = p ≡ 3
MovesOutput p act.TakePage = p ≡ 4
MovesOutput p action = ⊥

abbrev pub IsPrint : Action → Type 0
IsPrint (act.Print line) = Unit {0}
IsPrint action = ⊥

abbrev pub IsLoad : Action → Type 0
IsLoad (act.Load file) = Unit {0}
IsLoad action = ⊥

-- Each failure was counted by its own device, and the limit is told where too many bytes were taken.
pub record HasCauses {L X S K F A B : Type 0} (tells : Tells L S K F A B) (counts : Counts S K F A B)
    (old new : Shared X S K F A B) (p : ℕ)
    (action : Action) (result : Option (Reply L)) : Type 0 where
  pub read : result ≡ Some (reply.Card card_read.Failed)
      → Rose (counts.read_faults old.deck.source) (counts.read_faults new.deck.source)
  pub limit : result ≡ Some (reply.Card card_read.Limit) → byte_limit < counts.taken new.deck.source
  pub limit_told : action ≡ act.ReadCard → byte_limit < counts.taken new.deck.source
      → result ≡ Some (reply.Card card_read.Limit)
  pub print : IsPrint action → result ≡ Some reply.Failed
      → Rose (counts.print_faults old.paper.sink) (counts.print_faults new.paper.sink)
  pub input : MovesInput p action → result ≡ Some reply.Failed
      → Rose (counts.input_faults old.input.area) (counts.input_faults new.input.area)
  pub output : MovesOutput p action → result ≡ Some reply.Failed
      → Rose (counts.output_faults old.output.area) (counts.output_faults new.output.area)
  pub load : IsLoad action → result ≡ Some reply.Failed
      → Rose (counts.file_faults old.files) (counts.file_faults new.files)
  -- no count falls
  pub read_on : counts.read_faults old.deck.source ≤ counts.read_faults new.deck.source
  pub print_on : counts.print_faults old.paper.sink ≤ counts.print_faults new.paper.sink
  pub input_on : counts.input_faults old.input.area ≤ counts.input_faults new.input.area
  pub output_on : counts.output_faults old.output.area ≤ counts.output_faults new.output.area
  pub files_on : counts.file_faults old.files ≤ counts.file_faults new.files
  -- a device may be used again unless it failed
  pub deck_live : old.deck.live ≡ true → result ≢ Some (reply.Card card_read.Failed)
      → result ≢ Some (reply.Card card_read.Limit) → new.deck.live ≡ true
  pub paper_live : old.paper.live ≡ true → (IsPrint action → result ≡ Some reply.Done) → new.paper.live ≡ true
  pub files_sound : tells.sound old.files → (IsLoad action → result ≢ Some reply.Failed)
      → tells.sound new.files
  -- the deck changes by a read alone
  pub deck_stays : action ≢ act.ReadCard → new.deck ≡ old.deck

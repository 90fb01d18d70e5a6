-- The steps of the card and the printer process.
use Rattle.std.proofs.Common.{◌≡◌, Option, None, refl}
use Rattle.solo_base.specs.declared.item.Feed.{Feed}
use Rattle.solo_base.specs.declared.outcome.Outcome.{Outcome}
use Rattle.solo_devices.specs.declared.card_read.CardRead.{CardRead}
use Rattle.batch_procs.specs.declared.actions.Reply.{Reply}
use Rattle.batch_procs.specs.declared.actions.Reply.TheVariants as reply
use Rattle.batch_procs.specs.Causes.{fault_read}
use Rattle.twin_law.specs.Ends.{CardPlace, ReadsCard, PutsCard, PutsEnd, HasPut, card, card_aims, behind_read, PrinterPlace, TakesLine, PrintsLine, HasPrinted, printer, printer_aims, behind_line}
use Rattle.twin_procs.specs.declared.card_proc.CardAt.{CardAt}
use Rattle.twin_procs.specs.declared.printer_proc.PrinterAt.{PrinterAt}
use Rattle.twin_procs.specs.Machine.{IsHanded, Takes}
use Rattle.twin_procs.specs.Standing.{CardStands, PrinterStands}

-- ---- card
module _ (L : Type 0) (place : CardAt) where
  pub card-takes : (now : CardAt) (r : Reply L) (answer : CardRead) (given : Option Outcome) → r ≡ reply.Card answer → given ≡ fault_read answer
      → (given ≡ None → CardStands now (behind_read answer)) → (at : CardPlace) → CardStands place at → IsHanded (card_aims at) r
      → Takes card (CardStands now) at r given
  card-takes now r answer given is gives goes ReadsCard kept handed = rw is (gives, goes)
  card-takes now r answer given is gives goes (PutsCard item) kept handed = absurd handed
  card-takes now r answer given is gives goes PutsEnd kept handed = absurd handed
  card-takes now r answer given is gives goes HasPut kept handed = absurd handed

pub no-card : {L : Type 0} (r : Reply L) → ((answer : CardRead) → r ≡ reply.Card answer → ⊥) → (at : CardPlace) → IsHanded (card_aims at) r → ⊥
no-card (reply.Card answer) not ReadsCard handed = not answer refl
no-card r not ReadsCard handed = handed
no-card r not (PutsCard item) handed = handed
no-card r not PutsEnd handed = handed
no-card r not HasPut handed = handed

-- ---- printer
pub printer-takes : (L : Type 0) (place now : PrinterAt) (r : Reply L) (f : Feed) → r ≡ reply.Feed f
    → (PrinterStands place TakesLine → PrinterStands now (behind_line f)) → (at : PrinterPlace) → PrinterStands place at → IsHanded (printer_aims at) r
    → Takes printer (PrinterStands now) at r None
printer-takes L place now r f is goes TakesLine kept handed = rw is (refl, λ none. goes kept)
printer-takes L place now r f is goes (PrintsLine line) kept handed = absurd handed
printer-takes L place now r f is goes HasPrinted kept handed = absurd handed

pub no-line : {L : Type 0} (r : Reply L) → ((f : Feed) → r ≡ reply.Feed f → ⊥) → (at : PrinterPlace) → IsHanded (printer_aims at) r → ⊥
no-line (reply.Feed f) not TakesLine handed = not f refl
no-line r not TakesLine handed = handed
no-line r not (PrintsLine line) handed = handed
no-line r not HasPrinted handed = handed

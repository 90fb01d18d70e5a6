-- What a judgement of a deck does, and why it ended so.
use Rattle.std.specs.Prelude.{◌≡◌, ◌<◌, Option, Some, IfSome}
use Rattle.solo_base.specs.declared.outcome.Cause.TheVariants as cause
use Rattle.solo_devices.specs.Count.{Rose}
use Rattle.solo_devices.specs.CardUnit.{byte_limit, bytes_total}
use Rattle.run_report.specs.Told.{SinkTold, SourceTold}
use Rattle.solo_cli.specs.declared.refusal.Refusal.{Refusal}
use Rattle.solo_cli.specs.declared.refusal.Refusal.TheVariants.{Fault}
use Rattle.solo_cli.specs.declared.words.Command.TheVariants.{Check}
use Rattle.solo_cli.specs.Causes.{MayBeRefused}
use Rattle.solo_cli.specs.Does.{Checks}

pub record Judges {S K : Type 0} (deck deck_then : SourceTold S) (paper paper_then : SinkTold K)
    (answer : Option Refusal) : Type 0 where
  pub checks : Checks deck deck_then paper paper_then answer
  pub known : IfSome answer (MayBeRefused (Some Check))
  pub read : answer ≡ Some (Fault cause.ReadFault) → Rose deck.faults deck_then.faults
  pub print : answer ≡ Some (Fault cause.PrintFault) → Rose paper.faults paper_then.faults
  pub limit : answer ≡ Some (Fault cause.DeckLimit) → byte_limit < deck_then.taken
  pub beyond : byte_limit < deck_then.taken → answer ≡ Some (Fault cause.DeckLimit)
  pub total : bytes_total deck_then.taken deck_then.left ≡ bytes_total deck.taken deck.left

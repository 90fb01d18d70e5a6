-- Why a command ended as it did, told by its devices.
use Rattle.std.specs.Prelude.{◌≡◌, ◌≢◌, ◌<◌, ◌⊎◌, Bool, true, false, Option, Some, IfSome, IsSome}
use Rattle.solo_base.specs.declared.outcome.Cause.TheVariants as cause
use Rattle.solo_devices.specs.Count.{Rose, Stayed}
use Rattle.solo_devices.specs.CardUnit.{byte_limit, bytes_total}
use Rattle.solo_cli.specs.declared.refusal.Refusal.{Refusal}
use Rattle.solo_cli.specs.declared.refusal.Refusal.TheVariants.{Fault}
use Rattle.solo_cli.specs.declared.words.Command.{Command}
use Rattle.solo_cli.specs.Devices.{Kit}
use Rattle.solo_cli.specs.FileCommands.{CanUse}
use Rattle.solo_cli.specs.Reading.{StaysWithin}
use Rattle.solo_cli.specs.Refusals.{TellsPlace}
use Rattle.solo_cli.specs.Status.{status_of}
use Rattle.solo_cli.specs.Uses.{DevicesUsed, Kept, IfUsed, OfEachRead, OfSomeRead, uses}

-- The limit is the cause, or what comes before it: a fault of the disk or the paper.
abbrev pub IsByLimit : Option Refusal → Type 0
IsByLimit answer = (answer ≡ Some (Fault cause.DiskFault)) ⊎ (answer ≡ Some (Fault cause.PrintFault))
    ⊎ (answer ≡ Some (Fault cause.DeckLimit))

-- Where both keys and deck are read, a fault of the other one or of the console comes before it, too.
abbrev pub EndsByLimit : Bool → Bool → Option Refusal → Type 0
EndsByLimit false deck answer = IsByLimit answer
EndsByLimit true false answer = IsByLimit answer
EndsByLimit true true answer =
    (answer ≡ Some (Fault cause.ReadFault)) ⊎ ((answer ≡ Some (Fault cause.ConsoleFault)) ⊎ IsByLimit answer)

-- Why a command ended so that uses these devices and may have these causes.
pub record Answers {S Y K T F I O : Type 0} (used : DevicesUsed) (MayBe : Refusal → Type 0)
    (before after : Kit S Y K T F I O) (answer : Option Refusal) : Type 0 where
  pub known : IfSome answer MayBe
  -- Each fault was counted by its own device since.
  pub read : answer ≡ Some (Fault cause.ReadFault)
      → OfSomeRead used (Rose before.deck.faults after.deck.faults)
      (Rose before.keys.faults after.keys.faults)
  pub disk : answer ≡ Some (Fault cause.DiskFault) → Rose before.input.faults after.input.faults
      ⊎ Rose before.output.faults after.output.faults ⊎ Rose before.files.faults after.files.faults
  pub print : answer ≡ Some (Fault cause.PrintFault) → Rose before.paper.faults after.paper.faults
  pub shown : answer ≡ Some (Fault cause.ConsoleFault) → Rose before.console.faults after.console.faults
  -- The limit came where too many bytes were taken; then only a lower number comes first.
  pub limit : answer ≡ Some (Fault cause.DeckLimit)
      → OfSomeRead used (byte_limit < after.deck.taken) (byte_limit < after.keys.taken)
  pub beyond : OfSomeRead used (byte_limit < after.deck.taken) (byte_limit < after.keys.taken)
      → EndsByLimit used.keys used.deck answer
  -- No page is damaged over spools that tell their pages.
  pub undamaged : IsSome before.input.pages → IsSome before.output.pages → status_of answer ≢ 8
  -- The numbers of a damaged page agree: the one found differs from the one expected exactly where byte 0 is
  -- the first that is wrong.
  pub numbers : IfSome answer TellsPlace
  -- No byte of what is read is lost, and no device changes that isn't used.
  pub total : OfEachRead used
      (bytes_total after.deck.taken after.deck.left ≡ bytes_total before.deck.taken before.deck.left)
      (bytes_total after.keys.taken after.keys.left ≡ bytes_total before.keys.taken before.keys.left)
  pub kept : Kept used before after
  pub size : after.files.size ≡ before.files.size

-- What a command is asked for can be done: what it reads stays within the limit, its spools tell their pages,
-- its files are those that it wants, and no device was counted to fail.
pub record NothingFails {S Y K T F I O : Type 0} (asked : Option Command) (before after : Kit S Y K T F I O)
    : Type 0 where
  pub deck_within : IfUsed (uses asked).deck (StaysWithin before.deck after.deck)
  pub keys_within : IfUsed (uses asked).keys (StaysWithin before.keys after.keys)
  pub usable : CanUse asked before.files.pages
  pub input_told : IsSome before.input.pages
  pub output_told : IsSome before.output.pages
  pub deck : Stayed before.deck.faults after.deck.faults
  pub keys : IfUsed (uses asked).keys (Stayed before.keys.faults after.keys.faults)
  pub paper : Stayed before.paper.faults after.paper.faults
  pub console : IfUsed (uses asked).console (Stayed before.console.faults after.console.faults)
  pub files : Stayed before.files.faults after.files.faults
  pub input : Stayed before.input.faults after.input.faults
  pub output : Stayed before.output.faults after.output.faults

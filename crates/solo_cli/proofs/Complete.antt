-- Where nothing fails the whole work is done; and which words end with status 1.
use Rattle.std.proofs.Common.{◌≡◌, ◌≢◌, ◌⊎◌, inl, inr, ◌<◌, ℕ, Bool, true, false, Option, Some, None, refl, arith}
use Rattle.solo_base.specs.declared.outcome.Cause.TheVariants as cause
use Rattle.solo_devices.specs.Count.{Rose, Stayed}
use Rattle.solo_devices.specs.CardUnit.{byte_limit, bytes_total}
use Rattle.solo_cli.specs.declared.refusal.Refusal.{Refusal}
use Rattle.solo_cli.specs.declared.refusal.Refusal.TheVariants.{Fault, NoRoom}
use Rattle.solo_cli.specs.declared.words.Command.{Command}
use Rattle.solo_cli.specs.declared.words.Command.TheVariants as command
use Rattle.solo_cli.specs.Reasons.{Answers, NothingFails}
use Rattle.solo_cli.specs.Causes.{MayBeRefused}
use Rattle.solo_cli.specs.Devices.{Kit}
use Rattle.solo_cli.specs.Does.{DoesItsWork}
use Rattle.solo_cli.specs.Ready.{MayBeGiven}
use Rattle.solo_cli.specs.Status.{status_of}
use Rattle.solo_cli.specs.Uses.{IfUsed, OfEachRead, OfSomeRead, of_some, uses}
use Rattle.solo_cli.proofs.Migrations.{none-named}
use Rattle.solo_cli.proofs.ReadToEnd.{none-beyond}
use Rattle.solo_cli.proofs.Tables.{untrue}

-- words that are no command, by the cause
pub usage-is : (asked : Option Command) → MayBeRefused asked (Fault cause.Usage) → asked ≡ None
usage-is None known = refl
usage-is (Some command.Batch) known = absurd (untrue known)
usage-is (Some (command.Core schedule)) known = absurd (untrue known)
usage-is (Some (command.Make number)) known = absurd (untrue known)
usage-is (Some command.Format) known = absurd (untrue known)
usage-is (Some command.Migrate) known = absurd (untrue known)
usage-is (Some command.Check) known = absurd (untrue known)
usage-is (Some (command.Times schedule)) known = absurd (untrue known)
usage-is (Some command.Solo) known = absurd (untrue known)

-- want of room is a migration's
room-is : (asked : Option Command) (needed free : ℕ) → MayBeRefused asked (NoRoom needed free) → asked ≡ Some command.Migrate
room-is None needed free is = absurd (untrue is)
room-is (Some command.Batch) needed free is = absurd (untrue is)
room-is (Some (command.Core schedule)) needed free is = absurd (untrue is)
room-is (Some (command.Make number)) needed free is = absurd (untrue is)
room-is (Some command.Format) needed free is = absurd (untrue is)
room-is (Some command.Migrate) needed free is = refl
room-is (Some command.Check) needed free is = absurd (untrue is)
room-is (Some (command.Times schedule)) needed free is = absurd (untrue is)
room-is (Some command.Solo) needed free is = absurd (untrue is)

module _ {S Y K T F I O : Type 0} (before after : Kit S Y K T F I O) where
  -- ---- no device was counted to fail
  no-read : (keys deck : Bool) → of_some keys deck (Rose before.deck.faults after.deck.faults) (Rose before.keys.faults after.keys.faults)
      → Stayed before.deck.faults after.deck.faults → IfUsed keys (Stayed before.keys.faults after.keys.faults) → ⊥
  no-read false deck rose stayed typed = omega (arith, rose, stayed)
  no-read true false rose stayed typed = omega (arith, rose, typed)
  no-read true true (inl rose) stayed typed = omega (arith, rose, stayed)
  no-read true true (inr rose) stayed typed = omega (arith, rose, typed)

  no-disk : (asked : Option Command) → NothingFails asked before after
      → Rose before.input.faults after.input.faults ⊎ Rose before.output.faults after.output.faults ⊎ Rose before.files.faults after.files.faults → ⊥
  no-disk asked n (inl rose) = (let stayed = n.input in omega (arith, rose, stayed))
  no-disk asked n (inr (inl rose)) = (let stayed = n.output in omega (arith, rose, stayed))
  no-disk asked n (inr (inr rose)) = (let stayed = n.files in omega (arith, rose, stayed))

  no-show : (asked : Option Command) → NothingFails asked before after → MayBeRefused asked (Fault cause.ConsoleFault)
      → Rose before.console.faults after.console.faults → ⊥
  no-show None n known rose = absurd (untrue known)
  no-show (Some command.Batch) n known rose = absurd (untrue known)
  no-show (Some (command.Core schedule)) n known rose = absurd (untrue known)
  no-show (Some (command.Make number)) n known rose = absurd (untrue known)
  no-show (Some command.Format) n known rose = absurd (untrue known)
  no-show (Some command.Migrate) n known rose = absurd (untrue known)
  no-show (Some command.Check) n known rose = absurd (untrue known)
  no-show (Some (command.Times schedule)) n known rose = (let stayed = n.console in omega (arith, rose, stayed))
  no-show (Some command.Solo) n known rose = (let stayed = n.console in omega (arith, rose, stayed))

  -- ---- what is read is within the limit
  no-limit : (asked : Option Command) → NothingFails asked before after → MayBeGiven before → MayBeRefused asked (Fault cause.DeckLimit)
      → OfEachRead (uses asked) (bytes_total after.deck.taken after.deck.left ≡ bytes_total before.deck.taken before.deck.left)
      (bytes_total after.keys.taken after.keys.left ≡ bytes_total before.keys.taken before.keys.left)
      → OfSomeRead (uses asked) (byte_limit < after.deck.taken) (byte_limit < after.keys.taken) → ⊥
  no-limit None n ready known total more = absurd (untrue known)
  no-limit (Some command.Batch) n ready known total more =
      none-beyond before.deck after.deck n.deck_within ready.deck total more
  no-limit (Some (command.Core schedule)) n ready known total more =
      none-beyond before.deck after.deck n.deck_within ready.deck total more
  no-limit (Some (command.Make number)) n ready known total more = absurd (untrue known)
  no-limit (Some command.Format) n ready known total more = absurd (untrue known)
  no-limit (Some command.Migrate) n ready known total more = absurd (untrue known)
  no-limit (Some command.Check) n ready known total more =
      none-beyond before.deck after.deck n.deck_within ready.deck total more
  no-limit (Some (command.Times schedule)) n ready known total more =
      none-beyond before.keys after.keys n.keys_within ready.keys total more
  no-limit (Some command.Solo) n ready known total (inl more) =
      none-beyond before.deck after.deck n.deck_within ready.deck total.0 more
  no-limit (Some command.Solo) n ready known total (inr more) =
      none-beyond before.keys after.keys n.keys_within ready.keys total.1 more

  -- ---- all of it
  pub completes : (asked : Option Command) (answer : Option Refusal) → asked ≢ None → NothingFails asked before after → MayBeGiven before
      → DoesItsWork asked before after answer → Answers (uses asked) (MayBeRefused asked) before after answer
      → (status_of answer ≡ 0) ⊎ ((status_of answer ≡ 9) ⊎ ((status_of answer ≡ 10) × (asked ≡ Some command.Migrate)))
  completes asked None some n ready does a = inl refl
  completes asked (Some (NoRoom needed free)) some n ready does a = inr (inr (refl, room-is asked needed free a.known))
  completes asked (Some (Fault cause.Usage)) some n ready does a = absurd (some (usage-is asked a.known))
  completes asked (Some (Fault cause.ReadFault)) some n ready does a = absurd (no-read (uses asked).keys (uses asked).deck (a.read refl) n.deck n.keys)
  completes asked (Some (Fault cause.DiskFault)) some n ready does a = absurd (no-disk asked n (a.disk refl))
  completes asked (Some (Fault cause.PrintFault)) some n ready does a = absurd (let rose = a.print refl in let stayed = n.paper in omega (arith, rose, stayed))
  completes asked (Some (Fault cause.ConsoleFault)) some n ready does a = absurd (no-show asked n a.known (a.shown refl))
  completes asked (Some (Fault cause.DeckLimit)) some n ready does a = absurd (no-limit asked n ready a.known a.total (a.limit refl))
  completes asked (Some (Fault (cause.NotSolo page))) some n ready does a = absurd (none-named before after asked page n.usable a.known does)
  completes asked (Some (Fault (cause.Damaged expected found at))) some n ready does a =
      absurd (a.undamaged n.input_told n.output_told refl)
  completes asked (Some (Fault cause.NoMemory)) some n ready does a = inr (inl refl)

-- What a status says of the cause.
use Rattle.std.proofs.Common.{◌≡◌, Option, Some, None, refl}
use Rattle.solo_base.specs.declared.outcome.Cause.{Cause}
use Rattle.solo_base.specs.declared.outcome.Cause.TheVariants.{Usage, ReadFault, DiskFault, PrintFault, ConsoleFault, DeckLimit, NotSolo, Damaged, NoMemory}
use Rattle.batch_procs.specs.Faults.{IsDamaged}
use Rattle.run_report.specs.Status.{number_of}
use Rattle.solo_cli.specs.declared.refusal.Refusal.{Refusal}
use Rattle.solo_cli.specs.declared.refusal.Refusal.TheVariants.{Fault, NoRoom}
use Rattle.solo_cli.specs.Status.{status_of}

no-number : (why : Cause) → number_of why ≡ 0 → ⊥
no-number Usage zero = cc
no-number ReadFault zero = cc
no-number DiskFault zero = cc
no-number PrintFault zero = cc
no-number ConsoleFault zero = cc
no-number DeckLimit zero = cc
no-number (NotSolo page) zero = cc
no-number (Damaged expected found at) zero = cc
no-number NoMemory zero = cc

pub no_cause : (answer : Option Refusal) → status_of answer ≡ 0 → answer ≡ None
no_cause None zero = refl
no_cause (Some (Fault why)) zero = absurd (no-number why zero)
no_cause (Some (NoRoom needed free)) zero = cc

-- status 8 tells its cause
pub eight-is : (why : Cause) → number_of why ≡ 8 → IsDamaged why
eight-is Usage is = cc
eight-is ReadFault is = cc
eight-is DiskFault is = cc
eight-is PrintFault is = cc
eight-is ConsoleFault is = cc
eight-is DeckLimit is = cc
eight-is (NotSolo page) is = cc
eight-is (Damaged expected found at) is = tt
eight-is NoMemory is = cc

pub is-eight : (why : Cause) → IsDamaged why → number_of why ≡ 8
is-eight Usage is = absurd is
is-eight ReadFault is = absurd is
is-eight DiskFault is = absurd is
is-eight PrintFault is = absurd is
is-eight ConsoleFault is = absurd is
is-eight DeckLimit is = absurd is
is-eight (NotSolo page) is = absurd is
is-eight (Damaged expected found at) is = refl
is-eight NoMemory is = absurd is

-- Why a run ended as it did, told by its devices.
use Rattle.std.specs.Prelude.{◌≡◌, ◌≢◌, ◌<◌, ◌≤◌, ◌⊎◌, ◌++◌, ℕ, List, [], ◌∷◌, length, Option, Some, None, IfSome, IsSome}
use Rattle.solo_base.specs.declared.outcome.Cause.{Cause}
use Rattle.solo_base.specs.declared.outcome.Cause.TheVariants as cause
use Rattle.solo_base.specs.Text.{text}
use Rattle.solo_devices.specs.Count.{Rose, Stayed}
use Rattle.solo_devices.specs.CardUnit.{byte_limit, bytes_total}
use Rattle.solo_devices.specs.PrinterUnit.{Gains}
use Rattle.network_run.specs.declared.counts.Counts.{Counts}
use Rattle.disk_layout.specs.Format.{IsSoloDisk}
use Rattle.disk_files.specs.Answers.{Told}
use Rattle.batch_ends.specs.Ended.{TellsWhere}
use Rattle.run_report.specs.Status.{status_of}
use Rattle.twin_top.specs.Kit.{FourTell, TwinKit}
use Rattle.twin_top.specs.Mounting.{FilesComeFirst}
use Rattle.twin_top.specs.Runs.{NothingRan, SixRan, counts_as_line}

-- what may end a run whose words ask for one: no console is there
abbrev pub IsTwinCause : Cause → Type 0
IsTwinCause cause.ReadFault = Unit {0}
IsTwinCause cause.DiskFault = Unit {0}
IsTwinCause cause.PrintFault = Unit {0}
IsTwinCause cause.DeckLimit = Unit {0}
IsTwinCause (cause.NotSolo page) = Unit {0}
IsTwinCause (cause.Damaged expected found at) = Unit {0}
IsTwinCause cause.NoMemory = Unit {0}
IsTwinCause cause.Usage = ⊥
IsTwinCause cause.ConsoleFault = ⊥

-- one of the five areas counted a fault
abbrev pub AreaRose : {S K F A : Type 0} → TwinKit S K F A → TwinKit S K F A → Type 0
AreaRose before after =
    Rose before.files.faults after.files.faults ⊎ (Rose before.input_a.faults after.input_a.faults
    ⊎ (Rose before.input_b.faults after.input_b.faults ⊎ (Rose before.output_a.faults after.output_a.faults
    ⊎ Rose before.output_b.faults after.output_b.faults)))

-- The limit is the cause, or what comes before it: a fault of the disk or the paper.
abbrev pub EndsByTheLimit : Option Cause → Type 0
EndsByTheLimit answer = (answer ≡ Some cause.DiskFault) ⊎ ((answer ≡ Some cause.PrintFault)
    ⊎ (answer ≡ Some cause.DeckLimit))

pub record HasReasons {S K F A : Type 0} (before after : TwinKit S K F A) (answer : Option Cause) : Type 0
  where
    pub known : IfSome answer IsTwinCause
    -- Each fault was counted by its own device since.
    pub read : answer ≡ Some cause.ReadFault → Rose before.deck.faults after.deck.faults
    pub disk : answer ≡ Some cause.DiskFault → AreaRose before after
    pub print : answer ≡ Some cause.PrintFault → Rose before.paper.faults after.paper.faults
    -- The limit came where too many bytes were taken; then only a lower number comes first.
    pub limit : answer ≡ Some cause.DeckLimit → byte_limit < after.deck.taken
    pub beyond : byte_limit < after.deck.taken → EndsByTheLimit answer
    -- No page is damaged over spools that tell their pages, and of a damaged one the number that was found
    -- differs from the one that was expected exactly where byte 0 is the first that is wrong.
    pub undamaged : FourTell before → status_of answer ≢ 8
    pub numbers : IfSome answer TellsWhere
    -- No byte of the deck is lost, and no file changes.
    pub total : bytes_total after.deck.taken after.deck.left ≡ bytes_total before.deck.taken before.deck.left
    pub pages : after.files.pages ≡ before.files.pages
    pub size : after.files.size ≡ before.files.size

-- The paper gains these lines and behind them a line of counts, or a prefix of both; and both whole where
-- this holds.
pub record GainsAndCounts (before after : Option (List ℕ)) (lines : List (List ℕ)) (whole : Type 0) : Type 0
  where
    pub counts : Counts
    pub gains : Gains before after (text (lines ++ counts_as_line counts ∷ [])) whole

-- What is asked for: a run under the schedule of a number, or nothing, where the words are of no form. Where
-- nothing ran there is a cause.
pub record RunsDeck {S K F A : Type 0} (schedule : ℕ) (before after : TwinKit S K F A) (answer : Option Cause)
    : Type 0 where
  pub runs : SixRan schedule before after answer ⊎ (NothingRan before after × IsSome answer)
  pub mounts : FilesComeFirst before after answer
  pub reasons : HasReasons before after answer

abbrev pub DoesAsAsked : {S K F A : Type 0} → Option ℕ → TwinKit S K F A → TwinKit S K F A → Option Cause
    → Type 0
DoesAsAsked None before after answer = (answer ≡ Some cause.Usage) × (after ≡ before)
DoesAsAsked (Some schedule) before after answer = RunsDeck schedule before after answer

-- a deck that tells its bytes, no more than the limit allows
abbrev pub IsWithinTheLimit : Option (List ℕ) → Type 0
IsWithinTheLimit None = ⊥
IsWithinTheLimit (Some bytes) = length bytes ≤ byte_limit

-- What is asked for can be done: the deck tells bytes within the limit, the spools tell their pages, the
-- files are those of a Solo disk, and no device was counted to fail.
pub record NothingFailed {S K F A : Type 0} (before after : TwinKit S K F A) : Type 0 where
  pub deck_within : IsWithinTheLimit before.deck.left
  pub solo : Told before.files.pages IsSoloDisk
  pub told : FourTell before
  pub deck : Stayed before.deck.faults after.deck.faults
  pub paper : Stayed before.paper.faults after.paper.faults
  pub files : Stayed before.files.faults after.files.faults
  pub input_a : Stayed before.input_a.faults after.input_a.faults
  pub input_b : Stayed before.input_b.faults after.input_b.faults
  pub output_a : Stayed before.output_a.faults after.output_a.faults
  pub output_b : Stayed before.output_b.faults after.output_b.faults

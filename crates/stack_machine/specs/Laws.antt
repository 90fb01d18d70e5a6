-- A run is determined by the code, the limit and the replies; and what a write to a frame changes.
use Rattle.std.specs.Prelude.{◌≡◌, ◌≢◌, ℕ, ◌≤◌, List, length, ℤ}
use Rattle.solo_base.specs.declared.system_call.SysReply.{SysReply}
use Rattle.stack_code.specs.CodeLists.{CodeLists, IsCode}
use Rattle.stack_code.specs.Rules.{IsGood}
use Rattle.stack_machine.specs.States.{State}
use Rattle.stack_machine.specs.State.{words_at, with_words_at}
use Rattle.stack_machine.specs.Machine.{start_state}
use Rattle.solo_base.specs.RunOutcome.{RunOutcome}
use Rattle.stack_machine.specs.Run.{Runs, AreFitting}

-- good code has a run for every limit and every list of fitting replies
abbrev pub SomeRun : Type 0
SomeRun =
    (c : CodeLists) (limit : ℕ) (replies : List SysReply) → IsCode c → IsGood c
    → AreFitting c limit (start_state c) replies → (outcome : RunOutcome) × Runs c limit replies outcome

-- and no two of them
abbrev pub OneRun : Type 0
OneRun =
    (c : CodeLists) (limit : ℕ) (replies : List SysReply) (outcome other : RunOutcome)
    → Runs c limit replies outcome → Runs c limit replies other → outcome ≡ other

-- Words that are written to the frame of an open activation are read from it, and those of every other one
-- stay. The current activation's number is that of those that wait.
pub record WordsAreKept (s : State) (number : ℕ) (words : List ℤ) : Type 0 where
  pub written : number ≤ length s.below → words_at (with_words_at s number words) number ≡ words
  pub others : (other : ℕ) → other ≢ number → words_at (with_words_at s number words) other ≡ words_at s other
  pub own : words_at s (length s.below) ≡ s.current.words
  pub own_written : with_words_at s (length s.below) words
      ≡ record s { current = record s.current { words = words } }

abbrev pub AnyWordsAreKept : Type 0
AnyWordsAreKept = (s : State) (number : ℕ) (words : List ℤ) → WordsAreKept s number words

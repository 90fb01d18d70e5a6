-- Runs of a network: by a list of processes, and by a rule.
use Rattle.std.specs.Prelude.{◌≡◌, ◌≤◌, ◌<◌, ◌↔◌, ℕ, suc, Bool, IsTrue, List, [], ◌∷◌, length, take, map, slice_get, Some}
use Rattle.network_run.specs.declared.counts.Counts.{Counts}
use Rattle.network_run.specs.declared.rules.Rule.{Rule}
use Rattle.network_run.specs.Counting.{counted_by, delays_by, counts_of}
use Rattle.network_run.specs.Law.{Law, Placed, AreEnabled, AllEnded, run}
use Rattle.network_run.specs.Rules.{numbers_from, pick, behind}

-- ---- by a list of processes
-- Each process of the first part of the list takes its turn, and the one behind them may not go on.
pub record RunsAlong (law : Law) (Stands : law.State → Type 0) (list : List ℕ) (s : law.State) (taken : ℕ)
    : Type 0 where
  pub events : List law.Event
  pub enabled : AreEnabled law s events
  pub listed : map law.process events ≡ take taken list
  pub many : taken ≡ length events
  pub stands : Stands (run law s events)
  pub halts : (p : ℕ) → slice_get list taken ≡ Some p → law.MayGo (run law s events) p → ⊥

-- ---- by a rule
-- Each flag of a row says whether a process may go on, the first one the process of this number.
abbrev pub AreGoing : (law : Law) → law.State → ℕ → List Bool → Type 0
AreGoing law s p [] = Unit {0}
AreGoing law s p (may ∷ row) = (IsTrue may ↔ law.MayGo s p) × AreGoing law s (suc p) row

-- those that may go on, in order of their numbers
pub record AreGoers (law : Law) (s : law.State) (goers : List ℕ) : Type 0 where
  pub row : List Bool
  pub all : length row ≡ law.size
  pub going : AreGoing law s 1 row
  pub are : goers ≡ numbers_from 1 row

-- The rule picks this process.
pub record IsPicked (law : Law) (rule : Rule) (s : law.State) (p : ℕ) : Type 0 where
  pub goers : List ℕ
  pub are : AreGoers law s goers
  pub is : pick rule goers ≡ Some p

-- Each event is one of the process that the rule picks, from where the event before left it.
abbrev pub AreByRule : (law : Law) → Rule → law.State → List law.Event → Type 0
AreByRule law rule s [] = Unit {0}
AreByRule law rule s (event ∷ events) = IsPicked law rule s (law.process event)
    × AreByRule law (behind rule (Some (law.process event))) (law.happens s event) events

-- Enabled events by the rule, which come to these counts, and the network stands for the state behind them.
pub record RunsBy (law : Law) (Stands : law.State → Type 0) (rule : Rule) (s : law.State) (counts : Counts)
    : Type 0 where
  pub events : List law.Event
  pub enabled : AreEnabled law s events
  pub by_rule : AreByRule law rule s events
  pub counts_are : counts ≡ counts_of law s events
  pub stands : Stands (run law s events)

-- ---- every run comes to its end
-- no network has more
abbrev pub most_events : ℕ
most_events = 200000000000000000000000000000

-- One enabled event of the process, which is counted; it leaves fewer, and the network stands for the state
-- behind it.
pub record TurnTaken {N : Type 0} (law : Law) (Stands : N → law.State → Type 0) (left : N → law.State → ℕ)
    (old new : N) (s : law.State) (p : ℕ) (before after : Counts) : Type 0 where
  pub event : law.Event
  pub process_is : law.process event ≡ p
  pub enabled : law.IsEnabled s event
  pub stands : Stands new (law.happens s event)
  pub falls : left new (law.happens s event) < left old s
  pub counted : after ≡ counted_by before (delays_by (law.went s event)) (law.grants s event)

-- A run by a rule, to its end: from each place where the network stood, it ran so. It stands at a place where
-- all have ended, and kept what every run keeps. No run counts more than might happen.
pub record WholeRun {N : Type 0} (law : Law) (Stands : N → law.State → Type 0) (Keeps : N → N → Type 0)
    (left : N → law.State → ℕ) (rule : Rule) (old new : N) (counts : Counts) : Type 0 where
  pub runs : (at : Placed law (Stands old)) → RunsBy law (Stands new) rule at.state counts
  pub after : Placed law (Stands new)
  pub ended : (at : Placed law (Stands new)) → AllEnded law at.state
  pub keeps : Keeps old new
  pub few : (at : Placed law (Stands old)) → counts.events ≤ left old at.state

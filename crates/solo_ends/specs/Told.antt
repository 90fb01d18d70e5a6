-- What a run of Solo begins with, and what it tells over told cards, typed lines and files.
use Rattle.std.specs.Prelude.{◌≡◌, ℕ, List, [], Option, None, Some}
use Rattle.solo_base.specs.declared.item.Item.{Item}
use Rattle.solo_base.specs.declared.outcome.Outcome.{Outcome}
use Rattle.solo_base.specs.declared.outcome.Outcome.TheVariants as outcome
use Rattle.solo_base.specs.Text.{text}
use Rattle.solo_devices.specs.CardUnit.{items_ahead}
use Rattle.solo_devices.specs.PrinterUnit.{Gains}
use Rattle.solo_needs.specs.Needs.{Given, Need}
use Rattle.solo_needs.specs.Handing.{Ahead, hands, no_command, HandsOn}
use Rattle.solo_law.specs.Work.{Plan, PlanFits}
use Rattle.solo_law.specs.Told.{needs_of, on_console, on_paper, lines_of_all}
use Rattle.solo_ends.specs.declared.units.SoloRan.{SoloRan}
use Rattle.solo_ends.specs.Ends.{outcome_at}

-- A told plan is one that the files open with, and its needs fit.
abbrev pub IsOpenedBy : (Plan → Type 0) → Option Plan → Type 0
IsOpenedBy opens told = (plan : Plan) → told ≡ Some plan → opens plan × PlanFits plan

abbrev pub JobDone : List Outcome → Type 0
JobDone outcomes = outcome_at outcomes 2 ≡ outcome.Done

abbrev pub BothDone : List Outcome → Type 0
BothDone outcomes = JobDone outcomes × (outcome_at outcomes 3 ≡ outcome.Done)

-- Over told cards, typed lines and files: each piece of work began with what the cards and the lines hand on,
-- and came to what the plan makes of it. The console, which had shown this, gained what these needs show or a
-- part of it, and all of it where the job process is done; and the paper, with this on it, what they print,
-- all of it where the output process is done too. Where the job process is done nothing is handed on any
-- more, and no typed line is left.
pub record TellsPlan {S Y K T F : Type 0} (keys_left : Y → Option (List ℕ))
    (console_given : T → Option (List ℕ)) (paper_given : K → Option (List ℕ)) (cards keys : List Item)
    (plan : Plan) (shown printed : Option (List ℕ)) (ran : SoloRan S Y K T F) : Type 0 where
  pub givens : List Given
  pub last : Need
  pub ahead : Ahead
  pub handed : HandsOn no_command (record { cards = cards; keys = keys }) givens (needs_of plan givens) last
      ahead
  pub console : Gains shown (console_given ran.units.typewriter.console.sink)
      (text (lines_of_all on_console (needs_of plan givens))) (JobDone ran.outcomes)
  pub paper : Gains printed (paper_given ran.units.paper.sink)
      (text (lines_of_all on_paper (needs_of plan givens))) (BothDone ran.outcomes)
  pub all_handed : JobDone ran.outcomes → hands last ahead ≡ None
  pub none_left : JobDone ran.outcomes
      → items_ahead (keys_left ran.units.typewriter.keys.source) ran.units.typewriter.keys.pending ≡ Some []

-- How far the jobs and cards of a deck are counted.
use Rattle.std.specs.Prelude.{◌≡◌, ◌+◌, ◌≤◌, List, [], ◌∷◌, ◌++◌, length, flat_map, Option, Some, None, if◌then◌else◌}
use Rattle.std.specs.Option.{is_some}
use Rattle.solo_base.specs.declared.item.Item.{Item}
use Rattle.deck_format.specs.declared.job.Job.{Job}
use Rattle.deck_format.specs.Jobs.{opener_of, is_end, counts, cut, after_end, stretch, group_jobs, jobs}
use Rattle.solo_cli.specs.declared.deck_numbers.Role.{Role}
use Rattle.solo_cli.specs.declared.deck_numbers.Role.TheVariants.{Opens, Ends, Counts, Blank}
use Rattle.solo_cli.specs.declared.deck_numbers.Spot.{Spot}
use Rattle.solo_cli.specs.declared.deck_numbers.Spot.TheVariants.{Fresh, Skipping, InGroup}
use Rattle.solo_cli.specs.declared.deck_numbers.Tally.{Tally}

-- what a card is to the jobs of its deck
abbrev pub role_of : Item → Role
role_of item =
    if is_some (opener_of item) then Opens
    else (if is_end item then Ends else (if counts item then Counts else Blank))

-- of the cards before the next opener: the job of those that stand outside groups, unless it
-- was begun before them
abbrev pub stretch_begun : Spot → List Item → List Job
stretch_begun Fresh front = stretch front
stretch_begun Skipping front = []
stretch_begun InGroup front = stretch (after_end front)

-- the jobs that begin with these items, and not before them
abbrev pub jobs_begun : Spot → List Item → List Job
jobs_begun spot items = stretch_begun spot (cut items).front ++ flat_map group_jobs (cut items).groups

-- Of these items all were counted but those that are left, and of their jobs all but those that begin
-- with one of these.
pub record CountsOn (items left : List Item) (tally : Tally) : Type 0 where
  pub cards_are : tally.numbers.cards + length left ≡ length items
  pub jobs_are : tally.numbers.jobs + length (jobs_begun tally.spot left) ≡ length (jobs items)
  pub jobs_few : tally.numbers.jobs ≤ tally.numbers.cards

-- an answer is what the first of the items is, and the others are left; there is none where nothing is left
abbrev pub IsNextOf : Option Role → List Item → Option (List Item) → Type 0
IsNextOf None items left = items ≡ []
IsNextOf (Some role) items left =
    (item : Item) × (rest : List Item) × (items ≡ item ∷ rest) × (role ≡ role_of item) × (left ≡ Some rest)

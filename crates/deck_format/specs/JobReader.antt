-- What a reader of jobs still gives, from where it stands, for each list of items to come.
use Rattle.std.specs.Prelude.{◌≡◌, ℕ, ◌+◌, Bool, true, false, ◌&&◌, ◌||◌, not, List, [], ◌∷◌, ◌++◌, count_by, flat_map, Option, Some, None, if◌then◌else◌}
use Rattle.solo_base.specs.declared.item.Item.{Item}
use Rattle.solo_base.specs.declared.item.Item.TheVariants.{Line, Spoiled}
use Rattle.deck_format.specs.declared.control.Opener.{Opener}
use Rattle.deck_format.specs.declared.control.Opener.TheVariants as opener
use Rattle.deck_format.specs.declared.control.Control.{Control}
use Rattle.deck_format.specs.Control.{control_of}
use Rattle.deck_format.specs.declared.job.Job.{Job}
use Rattle.deck_format.specs.declared.job.CardFault.{CardFault}
use Rattle.deck_format.specs.declared.group.Group.{Group}
use Rattle.deck_format.specs.declared.group.Kept.{Kept}
use Rattle.deck_format.specs.declared.place.Place.{Place}
use Rattle.deck_format.specs.declared.place.Place.TheVariants.{Outside, InGroup}
use Rattle.deck_format.specs.Jobs.{cut, before_end, after_end, card_count, counts, skipped, stretch, listing, input, program, followed_by, spoiled_at, control_at, data_in, job_with, group_jobs, jobs}

-- what is kept of the items to come where no fault came yet: a group whose plain cards are input, or one of
-- another kind before its input
abbrev pub kept_from : Opener → Bool → ℕ → List Item → Kept
kept_from o true number items = input number items
kept_from (opener.List name) false number items = listing number items
kept_from (opener.Job name limit) false number items = program number items
kept_from (opener.Run name file) false number items = listing number items

-- a group goes on with these items
abbrev pub group_on : Group → List Item → Job
group_on group items =
    job_with group.opener (followed_by group.kept (kept_from group.opener group.in_input group.number items))

-- the job in hand, once the stretch up to the next opener is these items
abbrev pub in_hand : Place → List Item → List Job
in_hand (Outside count) items = skipped (card_count (count + count_by counts items))
in_hand (InGroup group) items = group_on group (before_end items) ∷ stretch (after_end items)

-- the jobs that the items to come complete
abbrev pub jobs_from : Place → List Item → List Job
jobs_from place items = in_hand place (cut items).front ++ flat_map group_jobs (cut items).groups

-- a job that was given, or none
abbrev pub given : Option Job → List Job
given None = []
given (Some job) = job ∷ []

-- the reader stands for these items, of which it gave these jobs: whatever comes, they and what it still gives are the jobs
pub record StandsFor (place : Place) (items : List Item) (given_so_far : List Job) : Type 0 where
  pub jobs_are : (more : List Item) → jobs (items ++ more) ≡ given_so_far ++ jobs_from place more

-- the job in hand where nothing more comes to it
abbrev pub closed : Place → List Job
closed (Outside count) = skipped (card_count count)
closed (InGroup group) = job_with group.opener group.kept ∷ []

abbrev pub nothing_kept : Kept
nothing_kept = record { cards = []; input = []; fault = None }

abbrev pub is_run : Opener → Bool
is_run (opener.List name) = false
is_run (opener.Job name limit) = false
is_run (opener.Run name file) = true

-- the group behind an opener: all cards of a `#RUN` group are input
abbrev pub opened : Opener → Group
opened o = record { opener = o; kept = nothing_kept; in_input = is_run o; number = 1 }

-- whether the control card parts a program from its input
abbrev pub is_job : Opener → Bool
is_job (opener.List name) = false
is_job (opener.Job name limit) = true
is_job (opener.Run name file) = false

abbrev pub parts_at : Opener → Bool → Option Control → Bool
parts_at o in_input control = not in_input && is_job o && data_in control

-- what is kept of one item
abbrev pub card_kept : Bool → List ℕ → Kept
card_kept true card = record { cards = []; input = card ∷ []; fault = None }
card_kept false card = record { cards = card ∷ []; input = []; fault = None }

abbrev pub fault_kept : CardFault → Kept
fault_kept fault = record { cards = []; input = []; fault = Some fault }

abbrev pub control_kept : Bool → Bool → ℕ → Kept
control_kept true in_input number = nothing_kept
control_kept false in_input number = fault_kept (control_at in_input number)

abbrev pub item_kept : Opener → Bool → ℕ → Item → Option Control → Kept
item_kept o in_input number Spoiled control = fault_kept (spoiled_at in_input number)
item_kept o in_input number (Line card) None = card_kept in_input card
item_kept o in_input number (Line card) (Some control) =
    control_kept (parts_at o in_input (Some control)) in_input number

-- whether the cards behind an item are input
abbrev pub input_behind : Opener → Bool → Item → Option Control → Bool
input_behind o in_input Spoiled control = in_input
input_behind o in_input (Line card) control = in_input || parts_at o in_input control

-- a group with one more item, where it has no fault, and where it has one
abbrev pub added_by : Option CardFault → Group → Item → Option Control → Group
added_by (Some fault) group item control = group
added_by None group item control =
    record {
      opener =
          group.opener;
      kept = followed_by group.kept (item_kept group.opener group.in_input group.number item control);
      in_input = input_behind group.opener group.in_input item control;
      number = card_count (group.number + 1);
    }

abbrev pub added : Group → Item → Option Control → Group
added group item control = added_by group.kept.fault group item control

-- where an item leads that neither opens nor ends a group
abbrev pub behind : Place → Item → Option Control → Place
behind (Outside count) item control = Outside (if counts item then card_count (count + 1) else count)
behind (InGroup group) item control = InGroup (added group item control)

-- whether a group is open
abbrev pub is_in_group : Place → Bool
is_in_group (Outside count) = false
is_in_group (InGroup group) = true

-- the control card that an item is
abbrev pub control_in : Item → Option Control
control_in (Line card) = control_of card
control_in Spoiled = None

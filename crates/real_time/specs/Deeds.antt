-- What the operator does with a typed line, in order.
use Rattle.std.specs.Prelude.{ℕ, zero, suc, ◌+◌, Bool, List, [], ◌∷◌, ◌++◌, map, codes, if◌then◌else◌, Option, None, Some, slice_get}
use Rattle.std.specs.Fmt.{decimal}
use Rattle.solo_base.specs.declared.item.Item.{Item}
use Rattle.real_time.specs.Typed.{Typed, Blank, Names, Plans, Stops, Passes, Bad, typed}
use Rattle.real_time.specs.Starts.{Script, Change, answer, behind_line, is_due, next_second, opening, plan_of, start_line, within_clock}

pub data Deed : Type 0 where
  -- the entry of a TASK, a START or a STOP
  Enters : Typed → Deed
  -- a line is displayed
  Shows : List ℕ → Deed
  -- the task at a place is woken in a second, where it is due
  Wakes : ℕ → ℕ → Bool → Deed
  -- it goes on in the wake in which it waited
  Returns : Deed

abbrev pub shows_start : Bool → ℕ → List ℕ → List Deed
shows_start due second name = if due then Shows (start_line second name) ∷ [] else []

-- in one second: the tasks from a place on
abbrev pub wakes_of : List Change → ℕ → ℕ → List (List ℕ) → List Deed
wakes_of accepted second place [] = []
wakes_of accepted second place (name ∷ names) =
    Wakes place second (is_due (plan_of name accepted) second)
    ∷ shows_start (is_due (plan_of name accepted) second) second name
    ++ wakes_of accepted second (suc place) names

abbrev pub deeds_of_seconds : ℕ → Script → List Deed
deeds_of_seconds zero s = []
deeds_of_seconds (suc seconds) s =
    wakes_of s.accepted (s.now + 1) 0 s.tasks ++ deeds_of_seconds seconds (next_second s)

abbrev pub deeds_of : Script → Typed → List Deed
deeds_of s Blank = []
deeds_of s (Names name) = Enters (Names name) ∷ map Shows (answer s (Names name))
deeds_of s (Plans name time period) =
    Enters (Plans name time period) ∷ map Shows (answer s (Plans name time period))
deeds_of s (Stops name) = Enters (Stops name) ∷ map Shows (answer s (Stops name))
deeds_of s (Passes seconds) =
    if within_clock s seconds
    then deeds_of_seconds seconds s ++ Shows (codes "TIME " ++ decimal (s.now + seconds)) ∷ []
    else Shows (codes "TICK: CLOCK LIMIT") ∷ []
deeds_of s Bad = Shows (codes "BAD COMMAND") ∷ []

-- ---- the seconds in which the task at a place starts
abbrev pub starts_named : Option (List ℕ) → List Change → ℕ → List ℕ
starts_named None accepted second = []
starts_named (Some name) accepted second = if is_due (plan_of name accepted) second then second ∷ [] else []

abbrev pub starts_in_second : ℕ → Script → ℕ → List ℕ
starts_in_second place s second = starts_named (slice_get s.tasks place) s.accepted second

abbrev pub starts_of_seconds : ℕ → ℕ → Script → List ℕ
starts_of_seconds place zero s = []
starts_of_seconds place (suc seconds) s =
    starts_in_second place s (s.now + 1) ++ starts_of_seconds place seconds (next_second s)

abbrev pub starts_of_line : ℕ → Script → Typed → List ℕ
starts_of_line place s Blank = []
starts_of_line place s (Names name) = []
starts_of_line place s (Plans name time period) = []
starts_of_line place s (Stops name) = []
starts_of_line place s (Passes seconds) =
    if within_clock s seconds then starts_of_seconds place seconds s else []
starts_of_line place s Bad = []

abbrev pub starts_from : ℕ → Script → List Item → List ℕ
starts_from place s [] = []
starts_from place s (item ∷ items) =
    starts_of_line place s (typed item) ++ starts_from place (behind_line s (typed item)) items

-- of a whole script
abbrev pub starts : ℕ → List Item → List ℕ
starts place items = starts_from place opening items

-- The job process's own work, on its files and programs: what a piece of it begins with, and what it comes
-- to.
use Rattle.std.specs.Prelude.{ℕ, true, false, List}
use Rattle.exchange_law.specs.Pages.{ArePage}
pub use Rattle.solo_needs.specs.Needs.{Given, OfLine, OfCards, OfTyped, OfNothing}
pub use Rattle.solo_needs.specs.Needs.{Need, CardsNeeded, LineNeeded, DisplayNeeded, PageNeeded, EndNeeded}

-- A piece of work begins so, and its command has put so many pages.
pub record Work : Type 0 where
  pub given : Given
  pub pages : ℕ

-- The lines of a page fill it, and those at the end fit into one.
abbrev pub NeedFits : Need → Type 0
NeedFits (PageNeeded lines) = ArePage false lines
NeedFits (EndNeeded lines answers) = ArePage true lines
NeedFits other = Unit {0}

-- What told files make of all work: what a piece comes to, by what the pieces before it began with, the
-- first of all first, and by what it begins with itself.
abbrev pub Plan : Type 0
Plan = List Given → Given → Need

abbrev pub PlanFits : Plan → Type 0
PlanFits plan = (before : List Given) (given : Given) → NeedFits (plan before given)

-- What the commands of Solo are to the job process.
use Rattle.std.specs.Prelude.{◌≡◌, ℕ, suc, false, List, [], Result, Ok, Err}
use Rattle.solo_base.specs.declared.page.Page.{Page}
use Rattle.exchange_law.specs.Pages.{page_with, last_page}
use Rattle.solo_law.specs.Work.{Plan, NeedFits}
use Rattle.solo_law.specs.Work as law
use Rattle.solo_law.specs.Devices.{plan_behind}
use Rattle.solo_procs.specs.declared.commands.Given.{Given}
use Rattle.solo_procs.specs.declared.commands.Given.TheVariants as gives
use Rattle.solo_procs.specs.declared.commands.Need.{Need}
use Rattle.solo_procs.specs.declared.commands.Need.TheVariants as needs
use Rattle.solo_procs.specs.declared.commands.WorkFault.{WorkFault}
use Rattle.solo_procs.specs.declared.commands.WorkFault.TheVariants.{Failed, NoMemory}

-- ---- what a piece of work begins with
abbrev pub given_of : Given → law.Given
given_of (gives.Line item) = law.OfLine item
given_of (gives.Cards cards spoiled) = law.OfCards cards spoiled
given_of (gives.Typed typed) = law.OfTyped typed
given_of gives.Nothing = law.OfNothing

pub data Kind : Type 0 where
  AtLine : Kind
  AtCards : Kind
  AtTyped : Kind
  AtNothing : Kind

abbrev pub kind_given : law.Given → Kind
kind_given (law.OfLine item) = AtLine
kind_given (law.OfCards cards spoiled) = AtCards
kind_given (law.OfTyped typed) = AtTyped
kind_given law.OfNothing = AtNothing

-- ---- and what it comes to
-- which kind comes behind a need, and how many pages its command has put by then
abbrev pub kind_behind : law.Need → Kind
kind_behind law.CardsNeeded = AtCards
kind_behind law.LineNeeded = AtTyped
kind_behind (law.DisplayNeeded line) = AtNothing
kind_behind (law.PageNeeded lines) = AtNothing
kind_behind (law.EndNeeded lines answers) = AtLine

abbrev pub pages_behind : law.Need → ℕ → ℕ
pages_behind (law.PageNeeded lines) pages = suc pages
pages_behind (law.EndNeeded lines answers) pages = 0
pages_behind other pages = pages

-- The code's need is the law's: its pages are made of the lines.
abbrev pub IsNeed : ℕ → Need → law.Need → Type 0
IsNeed pages needs.Cards law.CardsNeeded = Unit {0}
IsNeed pages needs.Line law.LineNeeded = Unit {0}
IsNeed pages (needs.Display line) (law.DisplayNeeded needed) = line ≡ needed
IsNeed pages (needs.Page page) (law.PageNeeded lines) = page ≡ page_with pages false lines
IsNeed pages (needs.End last answers) (law.EndNeeded lines needed) =
    (last ≡ last_page pages lines) × (answers ≡ needed)
IsNeed pages need other = ⊥

-- The work came to a need that fits: over told files to what these make of it.
pub record Comes (pages : ℕ) (given : law.Given) (awaits : ℕ → Kind → Type 0) (old_plans new_plans : Plan
    → Type 0)
    (came_to : Need) : Type 0 where
  pub needed : law.Need
  pub is : IsNeed pages came_to needed
  pub fits : NeedFits needed
  pub awaited : awaits (pages_behind needed pages) (kind_behind needed)
  pub planned : (plan : Plan) → old_plans plan
      → (needed ≡ plan [] given) × new_plans (plan_behind given plan)

-- ---- and to which files
-- Work that is done leads on. Where memory was refused, it has come to some of its files by then; where the
-- files failed, nothing is said.
abbrev pub LeadsSo : Result Need WorkFault → Type 0 → Type 0 → Type 0
LeadsSo (Ok need) Follows Passes = Follows × Passes
LeadsSo (Err Failed) Follows Passes = Unit {0}
LeadsSo (Err NoMemory) Follows Passes = Passes

-- At the beginning the commands stand for what all work on any files comes to, and they led to no others.
pub record StartFresh {C Files : Type 0} (opens : Files → Plan → Type 0) (plans : C → Files → Plan → Type 0)
    (follows : C → Files → List law.Given → Files → Type 0) (passes : Files → List law.Given → Files → Type 0)
    (commands : C) : Type 0 where
  pub planned : (files : Files) (plan : Plan) → opens files plan → plans commands files plan
  pub followed : (files : Files) → follows commands files [] files
  pub passed : (files : Files) → passes files [] files

-- What commands that need no programs are to the job process.
use Rattle.std.specs.Prelude.{ℕ, List}
use Rattle.solo_law.specs.Work.{Need as NeedOf, NeedFits}
use Rattle.solo_procs.specs.declared.commands.Need.{Need}
use Rattle.solo_procs.specs.Commands.{IsNeed, pages_behind}
use Rattle.solo_work.specs.declared.paper.Paper.{Paper}
use Rattle.solo_work.specs.Paper.{IsHand}

-- so many pages were put, and some lines are in hand
abbrev pub HasHand : Paper → ℕ → Type 0
HasHand paper pages = (hand : List (List ℕ)) × IsHand paper pages hand

-- the work came to a need that fits
pub record ComesTo (pages : ℕ) (need : Need) (now : Paper) : Type 0 where
  pub needed : NeedOf
  pub is : IsNeed pages need needed
  pub fits : NeedFits needed
  pub hand : HasHand now (pages_behind needed pages)

-- Where a session's command pauses.
use Rattle.std.specs.Prelude.{◌≡◌, ℕ, List, None, Option}
use Rattle.std.specs.FinMap as fin
use Rattle.solo_base.specs.Text.{text}
use Rattle.disk_layout.specs.Files.{Files}
use Rattle.disk_contents.specs.Contents.{text_file}
use Rattle.solo_task.specs.Answers.{Doing, stores}
use Rattle.solo_task.specs.Copying.{copier, with_cards, prints_text}
use Rattle.solo_task.specs.Needs.{Pause, Idle, WantsCards, GoesOn}
use Rattle.solo_procs.specs.Commands.{Kind, AtLine, AtCards, AtTyped, AtNothing}
use Rattle.solo_work.specs.Paper.{IsHand}
use Rattle.solo_work.specs.Printing.{prints_then}
use Rattle.program_run.specs.Sight.{MayTake, StandsFor}
use Rattle.session_work.specs.declared.session.Session.{Session}
use Rattle.session_work.specs.declared.session.UnderWay.{UnderWay}
use Rattle.session_work.specs.declared.session.UnderWay.TheVariants as under_way

-- what the next piece of work begins with
abbrev pub kind_of : UnderWay → Kind
kind_of under_way.Idle = AtLine
kind_of under_way.PrintsCards = AtCards
kind_of (under_way.StoresCards to) = AtCards
kind_of (under_way.Prints printing) = AtNothing
kind_of (under_way.ReadsCards program) = AtCards
kind_of (under_way.AcceptsLine program) = AtTyped
kind_of (under_way.GoesOn program) = AtNothing

-- a program may take what comes next
abbrev pub MayGoOn : UnderWay → Type 0
MayGoOn (under_way.ReadsCards program) = MayTake AtCards program
MayGoOn (under_way.AcceptsLine program) = MayTake AtTyped program
MayGoOn (under_way.GoesOn program) = MayTake AtNothing program
MayGoOn other = Unit {0}

-- what a copy makes of the cards that it awaits
abbrev pub prints_cards : List (List ℕ) → Doing
prints_cards cards = prints_text (text cards)

abbrev pub stores_these : Files → List ℕ → List (List ℕ) → Doing
stores_these all to cards = stores copier all to (text_file (text cards))

-- over these files and with these lines in hand it pauses there
abbrev pub PausesAt : UnderWay → List (List ℕ) → Files → Pause → Type 0
PausesAt under_way.Idle hand all pause = pause ≡ Idle
PausesAt under_way.PrintsCards hand all pause = pause ≡ WantsCards hand (with_cards prints_cards)
PausesAt (under_way.StoresCards to) hand all pause =
    (fin.get all to ≡ None) × (pause ≡ WantsCards hand (with_cards (stores_these all to)))
PausesAt (under_way.Prints printing) hand all pause =
    pause ≡ GoesOn hand (prints_then printing.lines printing.next printing.answers)
PausesAt (under_way.ReadsCards program) hand all pause = StandsFor AtCards program hand all pause
PausesAt (under_way.AcceptsLine program) hand all pause = StandsFor AtTyped program hand all pause
PausesAt (under_way.GoesOn program) hand all pause = StandsFor AtNothing program hand all pause

pub record StandsAt (s : Session) (all : Files) (pause : Pause) : Type 0 where
  pub pages : ℕ
  pub hand : List (List ℕ)
  pub hand_is : IsHand s.paper pages hand
  pub pauses : PausesAt s.under_way hand all pause

-- of its command so many pages were put, and the next piece of work begins with one of this kind
pub record Awaits (s : Session) (pages : ℕ) (kind : Kind) : Type 0 where
  pub is : kind ≡ kind_of s.under_way
  pub begins : kind ≡ AtLine → pages ≡ 0
  pub hand : List (List ℕ)
  pub hand_is : IsHand s.paper pages hand

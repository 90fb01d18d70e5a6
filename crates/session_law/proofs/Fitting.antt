-- The needs of a session fit on pages, whatever the work begins with.
use Rattle.std.proofs.Common.{◌≡◌, ℕ, Bool, true, false, List, [], ◌∷◌, ◌++◌, refl}
use Rattle.solo_base.specs.Line.{IsLine}
use Rattle.solo_base.specs.declared.item.Feed.{Feed}
use Rattle.disk_layout.specs.Files.{Files}
use Rattle.exchange_law.proofs.Lines.{HandFits, empty-fits, one-fits, more-fits, full-page, last-page}
use Rattle.program_task.specs.Task.{CardFile, Gives, ReadsCards, Accepts, Displays, Prints, Changes}
use Rattle.solo_needs.specs.Needs.{Given, OfLine, OfCards, OfTyped, OfNothing, PageNeeded}
use Rattle.solo_task.specs.Answers.{Doing}
use Rattle.solo_task.specs.Doing.{line_does}
use Rattle.solo_task.specs.Needs.{Pause, Idle, WantsCards, WantsLine, GoesOn, Paused, needs, either, fits_behind, comes_to, or_idle, resumes}
use Rattle.solo_task.specs.Laws.{MakesLines, Any}
use Rattle.solo_task.proofs.CommandLines.{line-lines}
use Rattle.solo_law.specs.Work.{NeedFits}
use Rattle.session_law.specs.Plans.{FilesAndPause, at_rest, behind, behind_pieces, PlansFit}

-- the lines in hand fit on a page, and what follows makes lines
abbrev FitsOn : Pause → Type 0
FitsOn Idle = Unit {0}
FitsOn (WantsCards hand more) = HandFits hand × ((file : CardFile) → MakesLines Any (more file))
FitsOn (WantsLine hand more) = HandFits hand × ((typed : Feed) → MakesLines Any (more typed))
FitsOn (GoesOn hand later) = HandFits hand × MakesLines Any later

record PausesSo (c : Paused) : Type 0 where
  need : NeedFits c.need
  pause : FitsOn c.pause

room-fits : (room : Bool) (hand : List (List ℕ)) (line : List ℕ) (files : Files) (later : Doing) → fits_behind hand line ≡ room → HandFits hand → IsLine line
    → MakesLines Any later → (fits_behind hand line ≡ true → PausesSo (comes_to (hand ++ line ∷ []) files later))
    → PausesSo (either room (comes_to (hand ++ line ∷ []) files later) (needs (PageNeeded hand) files (GoesOn (line ∷ []) later)))
room-fits true hand line files later e fits valid makes rest = rest e
room-fits false hand line files later e fits valid makes rest =
    record { need = full-page hand line fits valid e; pause = (one-fits line valid, makes) }

comes-fit : (hand : List (List ℕ)) (files : Files) (doing : Doing) → HandFits hand → MakesLines Any doing → PausesSo (comes_to hand files doing)
comes-fit hand files (Gives lines) fits makes = record { need = last-page hand fits; pause = tt }
comes-fit hand files (ReadsCards more) fits makes = record { need = tt; pause = (fits, makes) }
comes-fit hand files (Accepts more) fits makes = record { need = tt; pause = (fits, makes) }
comes-fit hand files (Displays line later) fits makes = record { need = tt; pause = (fits, makes.1) }
comes-fit hand files (Prints line later) fits makes =
    room-fits (fits_behind hand line) hand line files later refl fits makes.0 makes.1
    (λ room. comes-fit (hand ++ line ∷ []) files later (more-fits hand line fits makes.0 room) makes.1)
comes-fit hand files (Changes now later) fits makes =
    (let is = comes-fit hand now later fits makes in record { need = is.need; pause = is.pause })

resumes-fit : (given : Given) (files : Files) (pause : Pause) → FitsOn pause → PausesSo (resumes given files pause)
resumes-fit (OfLine item) files pause on = comes-fit [] files (or_idle (line_does item files)) empty-fits (line-lines item files)
resumes-fit (OfCards cards spoiled) files (WantsCards hand more) on =
    comes-fit hand files (more (record { cards = cards; spoiled = spoiled })) on.0 (on.1 (record { cards = cards; spoiled = spoiled }))
resumes-fit (OfTyped typed) files (WantsLine hand more) on = comes-fit hand files (more typed) on.0 (on.1 typed)
resumes-fit OfNothing files (GoesOn hand later) on = comes-fit hand files later on.0 on.1
resumes-fit given files pause on = record { need = last-page [] empty-fits; pause = tt }

behind-fits : (before : List Given) (s : FilesAndPause) → FitsOn s.pause → FitsOn (behind_pieces before s).pause
behind-fits [] s on = on
behind-fits (given ∷ rest) s on = behind-fits rest (behind given s) (resumes-fit given s.files s.pause on).pause

pub plans-fit : PlansFit
plans-fit files before given =
    let s = behind_pieces before (at_rest files) in (resumes-fit given s.files s.pause (behind-fits before (at_rest files) tt)).need

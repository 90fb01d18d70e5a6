-- Which place of the law the output process stands at.
use Rattle.std.specs.Prelude.{◌≡◌, ◌||◌, not, ℕ, ◌%◌, ◌^◌, Bool, true, false, List}
use Rattle.solo_base.specs.declared.item.Item.{Item}
use Rattle.page_codec.specs.Reading.{items_left}
use Rattle.batch_procs.specs.Sends.{lines_of}
use Rattle.twin_law.specs.Sides.{other}
use Rattle.twin_law.specs.Output.{Turn, OutputPlace, TakesLines, PutsLine, PutsOver, HasGathered, is_some, puts_line}
use Rattle.twin_procs.specs.declared.output_proc.OutputAt.TheVariants as here
use Rattle.twin_procs.specs.declared.output_proc.OutputProc.{OutputProc}
use Rattle.twin_procs.specs.Said.{twin}

pub record IsInTurn (j : OutputProc) (t : Turn) : Type 0 where
  pub side_is : twin j.side ≡ t.side
  pub pages_are : j.pages ≡ t.pages % 2 ^ 16
  pub some_is : j.some ≡ t.some
  pub ended_is : j.ended ≡ t.ended

-- These lines are left of the page in hand, before the turn goes on, or before the end.
pub record IsLeft (j : OutputProc) (later : List (List ℕ)) (t : Turn) (over : Bool) : Type 0 where
  pub lines : lines_of (items_left j.items) ≡ later
  pub over_is : j.over ≡ over
  pub turn : IsInTurn j t

abbrev pub OutputStands : OutputProc → OutputPlace → Type 0
OutputStands j (TakesLines t) = (j.place ≡ here.TakesLines) × IsInTurn j t
OutputStands j (PutsLine line later t over) = (j.place ≡ here.PutsLine line) × IsLeft j later t over
OutputStands j PutsOver = j.place ≡ here.PutsOver
OutputStands j HasGathered = j.place ≡ here.HasGathered

-- ---- in the middle of a step
-- It goes on with the lines that are left.
abbrev pub GoesOn : OutputProc → OutputProc → Type 0
GoesOn old new = (later : List (List ℕ)) (t : Turn) (over : Bool) → IsLeft old later t over
    → OutputStands new (puts_line later t over)

-- A page with these items was taken, which isn't the last of its stream.
pub record StaysInTurn (old new : OutputProc) (items : List Item) : Type 0 where
  pub side : new.side ≡ old.side
  pub some : new.some ≡ (old.some || is_some items)
  pub ended : new.ended ≡ old.ended
  pub over : new.over ≡ false

-- It is the last.
pub record TurnsOver (old new : OutputProc) (items : List Item) : Type 0 where
  pub side : twin new.side ≡ other (twin old.side)
  pub some : new.some ≡ false
  pub ended : new.ended ≡ (old.ended || not (old.some || is_some items))
  pub over : new.over ≡ old.ended

pub record Turns (old new : OutputProc) (items : List Item) (last : Bool) : Type 0 where
  pub pages : new.pages ≡ old.pages
  pub stays : last ≡ false → StaysInTurn old new items
  pub turns : last ≡ true → TurnsOver old new items

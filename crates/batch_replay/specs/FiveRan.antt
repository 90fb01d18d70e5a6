-- What the five did, by five histories: each did what its history asks for, their calls at the buffers have
-- met, and the devices have become what they are by these.
use Rattle.std.specs.Prelude.{◌≡◌, ◌==◌, ℕ, if◌then◌else◌, List, [], ◌∷◌, Option, Some}
use Rattle.std.specs.List.{AllByRecursion}
use Rattle.solo_base.specs.declared.item.Feed.{Feed}
use Rattle.solo_base.specs.declared.outcome.Outcome.{Outcome}
use Rattle.solo_base.specs.declared.outcome.Outcome.TheVariants as outcome
use Rattle.solo_base.specs.declared.outcome.Side.{Side}
use Rattle.solo_base.specs.declared.outcome.Side.TheVariants.{Sender, Receiver}
use Rattle.solo_base.specs.Prefixes.{IsPrefixOf}
use Rattle.queue_var.specs.BetweenTwo.{by_side}
use Rattle.slot_buffer.specs.Ends as lines
use Rattle.disk_spool.specs.Ends as spools
use Rattle.batch_procs.specs.declared.actions.Action.TheVariants as act
use Rattle.batch_procs.specs.History.{Entry, newest, sent, taken}
use Rattle.batch_procs.specs.Jobs.{Jobs}
use Rattle.batch_procs.specs.Process.{Process, Follows}
use Rattle.batch_procs.specs.Table.{card, input, job, output, printer, process}
use Rattle.core_law.specs.Ends.{IsProcess}
use Rattle.batch_ends.specs.declared.ends.Ran.{Ran}
use Rattle.batch_ends.specs.declared.units.Units.{Units}
use Rattle.batch_ends.specs.Ended.{outcome_at, stopped_at}
use Rattle.batch_sides.specs.Calls.{line_calls, spool_calls}
use Rattle.batch_sides.specs.Cards.{DeckRan}
use Rattle.batch_sides.specs.Files.{FileTells, FilesRan}
use Rattle.batch_sides.specs.Lines.{PaperRan}
use Rattle.batch_sides.specs.Running.{IsPrompt}

-- Each history follows its process. At each buffer the calls of both sides have met: what was taken and what
-- is left inside is what was put, and it is known which side stopped first.
pub record FiveRan {L A B : Type 0} (J : Jobs L) (input_told : A → Option (List (List ℕ)))
    (input_faults : A → ℕ) (output_told : B → Option (List (List ℕ))) (output_faults : B → ℕ)
    (input_opening input_area : A) (output_opening output_area : B)
    (first : ℕ → Option Side) : Type 0 where
  pub card_history : List (Entry L)
  pub input_history : List (Entry L)
  pub job_history : List (Entry L)
  pub output_history : List (Entry L)
  pub printer_history : List (Entry L)
  pub card_follows : Follows J card card_history
  pub input_follows : Follows J input input_history
  pub job_follows : Follows J (job J) job_history
  pub output_follows : Follows J output output_history
  pub printer_follows : Follows J printer printer_history
  pub cards_rest : Option Feed
  pub cards : lines.Meets (by_side (line_calls Sender 1 card_history) (line_calls Receiver 1 input_history))
      cards_rest (first 1)
  pub input_left : ℕ
  pub input_meets : spools.Meets input_told input_faults input_opening input_area
      (by_side (spool_calls Sender 2 input_history) (spool_calls Receiver 2 job_history)) input_left (first 2)
  pub output_left : ℕ
  pub output_meets : spools.Meets output_told output_faults output_opening output_area
      (by_side (spool_calls Sender 3 job_history) (spool_calls Receiver 3 output_history)) output_left
      (first 3)
  pub lines_rest : Option Feed
  pub lines : lines.Meets
      (by_side (line_calls Sender 4 output_history) (line_calls Receiver 4 printer_history))
      lines_rest (first 4)

module _ {L A B : Type 0} {J : Jobs L} {input_told : A → Option (List (List ℕ))} {input_faults : A → ℕ}
    {output_told : B → Option (List (List ℕ))} {output_faults : B → ℕ} {input_opening input_area : A}
    {output_opening output_area : B} {first : ℕ → Option Side} (ran : FiveRan J input_told input_faults
    output_told output_faults input_opening input_area output_opening output_area first) where
  -- the history of a process, by its number
  abbrev pub histories : ℕ → List (Entry L)
  histories p =
      if p == 1 then ran.card_history
      else if p == 2 then ran.input_history
      else if p == 3 then ran.job_history
      else if p == 4 then ran.output_history
      else if p == 5 then ran.printer_history
      else []

-- A process ended so, none of its calls waited, and what it sent is a first part of its list function of what
-- it took, and all of it where it is done.
pub record EndedSo {L : Type 0} (p : Process L) (h : List (Entry L)) (how : Outcome) : Type 0 where
  pub ended : newest h ≡ Some (act.Ended how)
  pub prompt : AllByRecursion IsPrompt h
  pub sends : IsPrefixOf (sent h) (p.sends (taken h))
  pub all : how ≡ outcome.Done → sent h ≡ p.sends (taken h)

-- How a batch ran over these units.
pub record BatchRan {L S K F A B : Type 0} (J : Jobs L) (left : S → Option (List ℕ))
    (taken source_faults : S → ℕ)
    (given : K → Option (List ℕ)) (sink_faults : K → ℕ) (loader : FileTells L F)
    (from_size : A → ℕ) (input_told : A → Option (List (List ℕ))) (input_faults : A → ℕ)
    (to_size : B → ℕ) (output_told : B → Option (List (List ℕ))) (output_faults : B → ℕ)
    (units : Units S K F A B) (ran : Ran S K F A B) : Type 0 where
  pub five : FiveRan J input_told input_faults output_told output_faults units.input ran.units.input
      units.output ran.units.output (stopped_at ran.stopped_by)
  -- no more rests in a spool than its area has pages, room was found only where it was, and a page only where
  -- one was put
  pub input_room : spools.MeetsRoom (from_size units.input)
      (by_side (spool_calls Sender 2 five.input_history)
      (spool_calls Receiver 2 five.job_history)) five.input_left
  pub output_room : spools.MeetsRoom (to_size units.output)
      (by_side (spool_calls Sender 3 five.job_history) (spool_calls Receiver 3 five.output_history))
      five.output_left
  -- each outcome is that of its history, and the four sides are those that stopped the four buffers first
  pub ends : (p : ℕ) → IsProcess p → EndedSo (process J p) (histories five p) (outcome_at ran.outcomes p)
  pub four : ran.stopped_by ≡ stopped_at ran.stopped_by 1 ∷ stopped_at ran.stopped_by 2
      ∷ stopped_at ran.stopped_by 3 ∷ stopped_at ran.stopped_by 4 ∷ []
  -- the devices, by the histories of those who use them
  pub deck : DeckRan left taken source_faults units.deck ran.units.deck five.card_history
  pub paper : PaperRan given sink_faults units.paper ran.units.paper five.printer_history
  pub files : FilesRan loader units.files ran.units.files five.job_history

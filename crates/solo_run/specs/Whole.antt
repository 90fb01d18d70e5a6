-- The three processes once all have ended and both ends of each buffer have met.
use Rattle.std.specs.Prelude.{ℕ, ◌==◌, if◌then◌else◌, List, Option}
use Rattle.solo_base.specs.declared.page.Page.{Page}
use Rattle.solo_base.specs.declared.system_call.Arg.{Arg}
use Rattle.solo_base.specs.declared.outcome.Side.{Side}
use Rattle.queue_var.specs.BetweenTwo.{by_side}
use Rattle.slot_buffer.specs.Ends.{Meets}
use Rattle.solo_law.specs.Devices.{Devices}
use Rattle.solo_run.specs.declared.row.Row.{Row}
use Rattle.solo_run.specs.declared.row.RowEnded.{RowEnded}
use Rattle.solo_run.specs.Input.{InputTold}
use Rattle.solo_run.specs.Job.{JobWorld, JobTold}
use Rattle.solo_run.specs.Output.{OutputTold}

-- what is told of all devices
pub record RowTold {S Y T F K : Type 0} (left : S → Option (List ℕ)) (w : JobWorld Y T F)
    (given : K → Option (List ℕ)) (row : Row S Y K T F) (d : Devices) : Type 0 where
  pub input : InputTold left row.input d
  pub job : JobTold w.left w.given (Unit {0}) (w.opens row.job.files) row.job d
  pub output : OutputTold given row.output d

-- The ends of each buffer have met, and it was first stopped by this side.
pub record AllMeet {S Y T F K : Type 0} (ended : RowEnded S Y K T F) (by : ℕ → Option Side) : Type 0 where
  pub card_orders_rest : Option Arg
  pub card_orders : Meets (by_side ended.job.0.card_orders.end.calls ended.input.0.orders.end.calls)
      card_orders_rest (by 1)
  pub cards_rest : Option Page
  pub cards : Meets (by_side ended.input.0.pages.end.calls ended.job.0.cards.end.calls) cards_rest (by 2)
  pub card_reports_rest : Option Arg
  pub card_reports : Meets (by_side ended.input.0.reports.end.calls ended.job.0.card_reports.end.calls)
      card_reports_rest (by 3)
  pub print_orders_rest : Option Arg
  pub print_orders : Meets (by_side ended.job.0.print_orders.end.calls ended.output.0.orders.end.calls)
      print_orders_rest (by 4)
  pub pages_rest : Option Page
  pub pages : Meets (by_side ended.job.0.pages.end.calls ended.output.0.pages.end.calls) pages_rest (by 5)
  pub print_reports_rest : Option Arg
  pub print_reports : Meets (by_side ended.output.0.reports.end.calls ended.job.0.print_reports.end.calls)
      print_reports_rest (by 6)

-- the deeds of the three, and how they ended, by their numbers
abbrev pub by_number : {X : Type 0} → X → X → X → ℕ → X
by_number input job output p = if p == 1 then input else if p == 2 then job else output

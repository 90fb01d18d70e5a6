-- The gates of an exchange and their ends: before any call, and once the ends of each have met.
use Rattle.std.specs.Prelude.{◌≡◌, [], Option}
use Rattle.solo_base.specs.declared.page.Page.{Page}
use Rattle.solo_base.specs.declared.system_call.Arg.{Arg}
use Rattle.solo_base.specs.declared.outcome.Side.{Side}
use Rattle.monitor_gate.specs.Ends.{TableId}
use Rattle.monitor_gate.specs.Calls.{End}
use Rattle.queue_var.specs.BetweenTwo.{by_side}
use Rattle.slot_buffer.specs.declared.call.SlotCall.{SlotCall}
use Rattle.slot_buffer.specs.Ends.{Meets}
use Rattle.solo_run.specs.declared.gates.Gates.{Gates}
use Rattle.solo_run.specs.declared.gates.Ends.{Ends}

-- ---- before any call
-- a gate and its two ends
abbrev pub IsFresh : {T : Type 0} → TableId × End TableId (SlotCall T) × End TableId (SlotCall T) → Type 0
IsFresh made =
    (made.1 ≡ record { gate = made.0; calls = [] }) × (made.2 ≡ record { gate = made.0; calls = [] })

pub record AreFresh (gates : Gates) (ends : Ends) : Type 0 where
  pub orders_sender : ends.orders.0 ≡ record { gate = gates.orders; calls = [] }
  pub orders_receiver : ends.orders.1 ≡ record { gate = gates.orders; calls = [] }
  pub pages_sender : ends.pages.0 ≡ record { gate = gates.pages; calls = [] }
  pub pages_receiver : ends.pages.1 ≡ record { gate = gates.pages; calls = [] }
  pub reports_sender : ends.reports.0 ≡ record { gate = gates.reports; calls = [] }
  pub reports_receiver : ends.reports.1 ≡ record { gate = gates.reports; calls = [] }

-- ---- once all have ended
-- Each end is one of its gate.
pub record AreEndsOf (gates : Gates) (ends : Ends) : Type 0 where
  pub orders_sender : ends.orders.0.gate ≡ gates.orders
  pub orders_receiver : ends.orders.1.gate ≡ gates.orders
  pub pages_sender : ends.pages.0.gate ≡ gates.pages
  pub pages_receiver : ends.pages.1.gate ≡ gates.pages
  pub reports_sender : ends.reports.0.gate ≡ gates.reports
  pub reports_receiver : ends.reports.1.gate ≡ gates.reports

-- The ends of each have met, and this side stopped it first.
pub record GatesMeet (ends : Ends) (met : Option Side × Option Side × Option Side) : Type 0 where
  pub orders_rest : Option Arg
  pub orders : Meets (by_side ends.orders.0.calls ends.orders.1.calls) orders_rest met.0
  pub pages_rest : Option Page
  pub pages : Meets (by_side ends.pages.0.calls ends.pages.1.calls) pages_rest met.1
  pub reports_rest : Option Arg
  pub reports : Meets (by_side ends.reports.0.calls ends.reports.1.calls) reports_rest met.2

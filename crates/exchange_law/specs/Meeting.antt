-- Where two neighbours stand in their exchange: what is inside the three buffers between them, who waits,
-- and who was told of a stop.
use Rattle.std.specs.Prelude.{◌≡◌, ◌≤◌, ℕ, ◌+◌, Bool, true, false, List, ◌++◌, length}
use Rattle.exchange_law.specs.Phases.{Phase, Idle, Moving, Reporting, Left, PhaseIs}

-- the marks that were taken and those inside are those that were put, over a buffer of one slot
pub record PassesOne (sent taken inside : List Bool) : Type 0 where
  pub in_order : taken ++ inside ≡ sent
  pub within : length inside ≤ 1

-- so many orders, dismissals, last pages and reports one side moved
pub record Tally : Type 0 where
  pub orders : ℕ
  pub dismissals : ℕ
  pub lasts : ℕ
  pub reports : ℕ

abbrev pub InPhase : Phase → Tally → Type 0
InPhase phase c = PhaseIs phase c.orders c.dismissals c.lasts c.reports

-- The counts of who orders and of who serves, and what is inside: orders and dismissals, pages and last
-- ones among them, reports.
pub record Between (asks serves : Tally) (orders dismissals pages lasts reports : ℕ) : Type 0 where
  pub orders_pass : serves.orders + orders ≡ asks.orders
  pub dismissals_pass : serves.dismissals + dismissals ≡ asks.dismissals
  pub one_order : orders + dismissals ≤ 1
  pub lasts_are_pages : lasts ≤ pages
  pub one_page : pages ≤ 1
  pub reports_pass : asks.reports + reports ≡ serves.reports
  pub one_report : reports ≤ 1

-- who orders takes the pages, or puts them
abbrev pub PagesTaken : Tally → Tally → ℕ → Type 0
PagesTaken asks serves lasts = asks.lasts + lasts ≡ serves.lasts

abbrev pub PagesPut : Tally → Tally → ℕ → Type 0
PagesPut asks serves lasts = serves.lasts + lasts ≡ asks.lasts

-- ---- who waits
-- who orders waits with an order, at the pages, or for a report; `wanting` is how many pages are inside
-- where it waits for them: none where it takes them, one where it puts them
abbrev pub AsksWaits : Phase → (orders dismissals pages reports wanting : ℕ) → Type 0
AsksWaits Idle orders dismissals pages reports wanting = orders + dismissals ≡ 1
AsksWaits Moving orders dismissals pages reports wanting = pages ≡ wanting
AsksWaits Reporting orders dismissals pages reports wanting = reports ≡ 0
AsksWaits Left orders dismissals pages reports wanting = ⊥

-- who serves waits for an order, at the pages, or with a report; or it has left
abbrev pub ServesWaits : Phase → (orders dismissals pages reports wanting : ℕ) → Type 0
ServesWaits Idle orders dismissals pages reports wanting = orders + dismissals ≡ 0
ServesWaits Moving orders dismissals pages reports wanting = pages ≡ wanting
ServesWaits Reporting orders dismissals pages reports wanting = reports ≡ 1
ServesWaits Left orders dismissals pages reports wanting = Unit {0}

-- ---- who was told of a stop: a receiver only where nothing was inside
abbrev pub AsksTold : Phase → (orders dismissals lasts reports : ℕ) → Bool → Type 0
AsksTold Idle orders dismissals lasts reports takes = Unit {0}
AsksTold Moving orders dismissals lasts reports true = lasts ≡ 0
AsksTold Moving orders dismissals lasts reports false = Unit {0}
AsksTold Reporting orders dismissals lasts reports takes = reports ≡ 0
AsksTold Left orders dismissals lasts reports takes = ⊥

abbrev pub ServesTold : Phase → (orders dismissals lasts reports : ℕ) → Bool → Type 0
ServesTold Idle orders dismissals lasts reports takes = orders + dismissals ≡ 0
ServesTold Moving orders dismissals lasts reports true = Unit {0}
ServesTold Moving orders dismissals lasts reports false = lasts ≡ 0
ServesTold Reporting orders dismissals lasts reports takes = Unit {0}
ServesTold Left orders dismissals lasts reports takes = ⊥

-- Who orders never waits for good, whatever the other is at; and where it has left, the other has left too. All of it is
-- arithmetic over the counts of the two and what is inside the three buffers between them.
use Rattle.std.proofs.Common.{◌≡◌, ℕ, ◌+◌, ◌≤◌, refl, arith}
use Rattle.exchange_law.specs.Phases.{Phase, Idle, Moving, Reporting, Left, PhaseIs}
use Rattle.exchange_law.specs.Meeting.{AsksWaits, ServesWaits, Tally, InPhase, Between, PagesTaken, PagesPut}

-- `a` are the counts of who orders, `s` of who serves, and last what is inside
module _ (ao ad al an so sd sl sn f t p pt r : ℕ) (e1 : so + f ≡ ao) (e2 : sd + t ≡ ad) (e3 : f + t ≤ 1) (e4 : pt ≤ p) (e5 : p ≤ 1) (e6 : an + r ≡ sn)
    (e7 : r ≤ 1) where
  -- ---- who orders taking the pages
  asks-taking : (x y : Phase) → al + pt ≡ sl → PhaseIs x ao ad al an → PhaseIs y so sd sl sn → AsksWaits x f t p r 0 → ServesWaits y f t p r 1 → ⊥
  asks-taking Idle Idle pages (i1, i2, i3) (j1, j2, j3) w v = omega (arith, e1, e2, e3, e4, e5, e6, e7, i1, i2, i3, j1, j2, j3, pages, w, v)
  asks-taking Idle Moving pages (i1, i2, i3) (j1, j2, j3) w v = omega (arith, e1, e2, e3, e4, e5, e6, e7, i1, i2, i3, j1, j2, j3, pages, w, v)
  asks-taking Idle Reporting pages (i1, i2, i3) (j1, j2, j3) w v = omega (arith, e1, e2, e3, e4, e5, e6, e7, i1, i2, i3, j1, j2, j3, pages, w, v)
  asks-taking Idle Left pages (i1, i2, i3) (j1, j2, j3) w v = omega (arith, e1, e2, e3, e4, e5, e6, e7, i1, i2, i3, j1, j2, j3, pages, w)
  asks-taking Moving Idle pages (i1, i2, i3) (j1, j2, j3) w v = omega (arith, e1, e2, e3, e4, e5, e6, e7, i1, i2, i3, j1, j2, j3, pages, w, v)
  asks-taking Moving Moving pages (i1, i2, i3) (j1, j2, j3) w v = omega (arith, e1, e2, e3, e4, e5, e6, e7, i1, i2, i3, j1, j2, j3, pages, w, v)
  asks-taking Moving Reporting pages (i1, i2, i3) (j1, j2, j3) w v = omega (arith, e1, e2, e3, e4, e5, e6, e7, i1, i2, i3, j1, j2, j3, pages, w, v)
  asks-taking Moving Left pages (i1, i2, i3) (j1, j2, j3) w v = omega (arith, e1, e2, e3, e4, e5, e6, e7, i1, i2, i3, j1, j2, j3, pages, w)
  asks-taking Reporting Idle pages (i1, i2, i3) (j1, j2, j3) w v = omega (arith, e1, e2, e3, e4, e5, e6, e7, i1, i2, i3, j1, j2, j3, pages, w, v)
  asks-taking Reporting Moving pages (i1, i2, i3) (j1, j2, j3) w v = omega (arith, e1, e2, e3, e4, e5, e6, e7, i1, i2, i3, j1, j2, j3, pages, w, v)
  asks-taking Reporting Reporting pages (i1, i2, i3) (j1, j2, j3) w v = omega (arith, e1, e2, e3, e4, e5, e6, e7, i1, i2, i3, j1, j2, j3, pages, w, v)
  asks-taking Reporting Left pages (i1, i2, i3) (j1, j2, j3) w v = omega (arith, e1, e2, e3, e4, e5, e6, e7, i1, i2, i3, j1, j2, j3, pages, w)
  asks-taking Left y pages is at w v = w

  left-taking : (y : Phase) → al + pt ≡ sl → PhaseIs Left ao ad al an → PhaseIs y so sd sl sn → ServesWaits y f t p r 1 → (y ≡ Left → ⊥) → ⊥
  left-taking Idle pages (i1, i2, i3) (j1, j2, j3) v not = omega (arith, e1, e2, e3, e4, e5, e6, e7, i1, i2, i3, j1, j2, j3, pages, v)
  left-taking Moving pages (i1, i2, i3) (j1, j2, j3) v not = omega (arith, e1, e2, e3, e4, e5, e6, e7, i1, i2, i3, j1, j2, j3, pages, v)
  left-taking Reporting pages (i1, i2, i3) (j1, j2, j3) v not = omega (arith, e1, e2, e3, e4, e5, e6, e7, i1, i2, i3, j1, j2, j3, pages, v)
  left-taking Left pages is at v not = not refl

  -- ---- who orders putting the pages
  asks-putting : (x y : Phase) → sl + pt ≡ al → PhaseIs x ao ad al an → PhaseIs y so sd sl sn → AsksWaits x f t p r 1 → ServesWaits y f t p r 0 → ⊥
  asks-putting Idle Idle pages (i1, i2, i3) (j1, j2, j3) w v = omega (arith, e1, e2, e3, e4, e5, e6, e7, i1, i2, i3, j1, j2, j3, pages, w, v)
  asks-putting Idle Moving pages (i1, i2, i3) (j1, j2, j3) w v = omega (arith, e1, e2, e3, e4, e5, e6, e7, i1, i2, i3, j1, j2, j3, pages, w, v)
  asks-putting Idle Reporting pages (i1, i2, i3) (j1, j2, j3) w v = omega (arith, e1, e2, e3, e4, e5, e6, e7, i1, i2, i3, j1, j2, j3, pages, w, v)
  asks-putting Idle Left pages (i1, i2, i3) (j1, j2, j3) w v = omega (arith, e1, e2, e3, e4, e5, e6, e7, i1, i2, i3, j1, j2, j3, pages, w)
  asks-putting Moving Idle pages (i1, i2, i3) (j1, j2, j3) w v = omega (arith, e1, e2, e3, e4, e5, e6, e7, i1, i2, i3, j1, j2, j3, pages, w, v)
  asks-putting Moving Moving pages (i1, i2, i3) (j1, j2, j3) w v = omega (arith, e1, e2, e3, e4, e5, e6, e7, i1, i2, i3, j1, j2, j3, pages, w, v)
  asks-putting Moving Reporting pages (i1, i2, i3) (j1, j2, j3) w v = omega (arith, e1, e2, e3, e4, e5, e6, e7, i1, i2, i3, j1, j2, j3, pages, w, v)
  asks-putting Moving Left pages (i1, i2, i3) (j1, j2, j3) w v = omega (arith, e1, e2, e3, e4, e5, e6, e7, i1, i2, i3, j1, j2, j3, pages, w)
  asks-putting Reporting Idle pages (i1, i2, i3) (j1, j2, j3) w v = omega (arith, e1, e2, e3, e4, e5, e6, e7, i1, i2, i3, j1, j2, j3, pages, w, v)
  asks-putting Reporting Moving pages (i1, i2, i3) (j1, j2, j3) w v = omega (arith, e1, e2, e3, e4, e5, e6, e7, i1, i2, i3, j1, j2, j3, pages, w, v)
  asks-putting Reporting Reporting pages (i1, i2, i3) (j1, j2, j3) w v = omega (arith, e1, e2, e3, e4, e5, e6, e7, i1, i2, i3, j1, j2, j3, pages, w, v)
  asks-putting Reporting Left pages (i1, i2, i3) (j1, j2, j3) w v = omega (arith, e1, e2, e3, e4, e5, e6, e7, i1, i2, i3, j1, j2, j3, pages, w)
  asks-putting Left y pages is at w v = w

  left-putting : (y : Phase) → sl + pt ≡ al → PhaseIs Left ao ad al an → PhaseIs y so sd sl sn → ServesWaits y f t p r 0 → (y ≡ Left → ⊥) → ⊥
  left-putting Idle pages (i1, i2, i3) (j1, j2, j3) v not = omega (arith, e1, e2, e3, e4, e5, e6, e7, i1, i2, i3, j1, j2, j3, pages, v)
  left-putting Moving pages (i1, i2, i3) (j1, j2, j3) v not = omega (arith, e1, e2, e3, e4, e5, e6, e7, i1, i2, i3, j1, j2, j3, pages, v)
  left-putting Reporting pages (i1, i2, i3) (j1, j2, j3) v not = omega (arith, e1, e2, e3, e4, e5, e6, e7, i1, i2, i3, j1, j2, j3, pages, v)
  left-putting Left pages is at v not = not refl

-- ---- the same, of two sides of an exchange
module _ (a s : Tally) (f t p pt r : ℕ) (b : Between a s f t p pt r) where
  pub who-asks_taking : (x y : Phase) → PagesTaken a s pt → InPhase x a → InPhase y s → AsksWaits x f t p r 0 → ServesWaits y f t p r 1 → ⊥
  who-asks_taking =
      asks-taking a.orders a.dismissals a.lasts a.reports s.orders s.dismissals s.lasts s.reports f t p pt r
      b.orders_pass b.dismissals_pass b.one_order b.lasts_are_pages b.one_page b.reports_pass b.one_report

  pub who-left_taking : (y : Phase) → PagesTaken a s pt → InPhase Left a → InPhase y s → ServesWaits y f t p r 1 → (y ≡ Left → ⊥) → ⊥
  who-left_taking =
      left-taking a.orders a.dismissals a.lasts a.reports s.orders s.dismissals s.lasts s.reports f t p pt r
      b.orders_pass b.dismissals_pass b.one_order b.lasts_are_pages b.one_page b.reports_pass b.one_report

  pub who-asks_putting : (x y : Phase) → PagesPut a s pt → InPhase x a → InPhase y s → AsksWaits x f t p r 1 → ServesWaits y f t p r 0 → ⊥
  who-asks_putting =
      asks-putting a.orders a.dismissals a.lasts a.reports s.orders s.dismissals s.lasts s.reports f t p pt r
      b.orders_pass b.dismissals_pass b.one_order b.lasts_are_pages b.one_page b.reports_pass b.one_report

  pub who-left_putting : (y : Phase) → PagesPut a s pt → InPhase Left a → InPhase y s → ServesWaits y f t p r 0 → (y ≡ Left → ⊥) → ⊥
  who-left_putting =
      left-putting a.orders a.dismissals a.lasts a.reports s.orders s.dismissals s.lasts s.reports f t p pt r
      b.orders_pass b.dismissals_pass b.one_order b.lasts_are_pages b.one_page b.reports_pass b.one_report

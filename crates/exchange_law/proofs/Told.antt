-- No two are told of a stop by each other: each phase calls at one buffer, so two that were told by each other are in
-- different phases, and the counts forbid it. Neither order nor threads play a part in this: after a cause nothing is moved.
use Rattle.std.proofs.Common.{◌≡◌, ℕ, ◌+◌, ◌≤◌, true, false, refl, arith}
use Rattle.exchange_law.specs.Phases.{Phase, Idle, Moving, Reporting, Left, PhaseIs}
use Rattle.exchange_law.specs.Meeting.{AsksTold, ServesTold, Tally, InPhase, Between, PagesTaken, PagesPut}

module _ (ao ad al an so sd sl sn f t p pt r : ℕ) (e1 : so + f ≡ ao) (e2 : sd + t ≡ ad) (e3 : f + t ≤ 1) (e4 : pt ≤ p) (e5 : p ≤ 1) (e6 : an + r ≡ sn)
    (e7 : r ≤ 1) where
  told-taking : (x y : Phase) → (x ≡ y → ⊥) → al + pt ≡ sl → PhaseIs x ao ad al an → PhaseIs y so sd sl sn → AsksTold x f t pt r true
      → ServesTold y f t pt r true → ⊥
  told-taking Idle Idle differ pages is at w v = differ refl
  told-taking Idle Moving differ pages (i1, i2, i3) (j1, j2, j3) w v = omega (arith, e1, e2, e3, e4, e5, e6, e7, i1, i2, i3, j1, j2, j3, pages)
  told-taking Idle Reporting differ pages (i1, i2, i3) (j1, j2, j3) w v = omega (arith, e1, e2, e3, e4, e5, e6, e7, i1, i2, i3, j1, j2, j3, pages)
  told-taking Moving Idle differ pages (i1, i2, i3) (j1, j2, j3) w v = omega (arith, e1, e2, e3, e4, e5, e6, e7, i1, i2, i3, j1, j2, j3, pages, w, v)
  told-taking Moving Moving differ pages is at w v = differ refl
  told-taking Moving Reporting differ pages (i1, i2, i3) (j1, j2, j3) w v = omega (arith, e1, e2, e3, e4, e5, e6, e7, i1, i2, i3, j1, j2, j3, pages, w)
  told-taking Reporting Idle differ pages (i1, i2, i3) (j1, j2, j3) w v = omega (arith, e1, e2, e3, e4, e5, e6, e7, i1, i2, i3, j1, j2, j3, pages, w, v)
  told-taking Reporting Moving differ pages (i1, i2, i3) (j1, j2, j3) w v = omega (arith, e1, e2, e3, e4, e5, e6, e7, i1, i2, i3, j1, j2, j3, pages, w)
  told-taking Reporting Reporting differ pages is at w v = differ refl
  told-taking Left y differ pages is at w v = w
  told-taking Idle Left differ pages is at w v = v
  told-taking Moving Left differ pages is at w v = v
  told-taking Reporting Left differ pages is at w v = v

  told-putting : (x y : Phase) → (x ≡ y → ⊥) → sl + pt ≡ al → PhaseIs x ao ad al an → PhaseIs y so sd sl sn → AsksTold x f t pt r false
      → ServesTold y f t pt r false → ⊥
  told-putting Idle Idle differ pages is at w v = differ refl
  told-putting Idle Moving differ pages (i1, i2, i3) (j1, j2, j3) w v = omega (arith, e1, e2, e3, e4, e5, e6, e7, i1, i2, i3, j1, j2, j3, pages, v)
  told-putting Idle Reporting differ pages (i1, i2, i3) (j1, j2, j3) w v = omega (arith, e1, e2, e3, e4, e5, e6, e7, i1, i2, i3, j1, j2, j3, pages)
  told-putting Moving Idle differ pages (i1, i2, i3) (j1, j2, j3) w v = omega (arith, e1, e2, e3, e4, e5, e6, e7, i1, i2, i3, j1, j2, j3, pages, v)
  told-putting Moving Moving differ pages is at w v = differ refl
  told-putting Moving Reporting differ pages (i1, i2, i3) (j1, j2, j3) w v = omega (arith, e1, e2, e3, e4, e5, e6, e7, i1, i2, i3, j1, j2, j3, pages)
  told-putting Reporting Idle differ pages (i1, i2, i3) (j1, j2, j3) w v = omega (arith, e1, e2, e3, e4, e5, e6, e7, i1, i2, i3, j1, j2, j3, pages, w, v)
  told-putting Reporting Moving differ pages (i1, i2, i3) (j1, j2, j3) w v = omega (arith, e1, e2, e3, e4, e5, e6, e7, i1, i2, i3, j1, j2, j3, pages, w, v)
  told-putting Reporting Reporting differ pages is at w v = differ refl
  told-putting Left y differ pages is at w v = w
  told-putting Idle Left differ pages is at w v = v
  told-putting Moving Left differ pages is at w v = v
  told-putting Reporting Left differ pages is at w v = v

-- ---- the same, of two sides of an exchange
module _ (a s : Tally) (f t p pt r : ℕ) (b : Between a s f t p pt r) where
  pub not-told_taking : (x y : Phase) → (x ≡ y → ⊥) → PagesTaken a s pt → InPhase x a → InPhase y s → AsksTold x f t pt r true → ServesTold y f t pt r true → ⊥
  not-told_taking =
      told-taking a.orders a.dismissals a.lasts a.reports s.orders s.dismissals s.lasts s.reports f t p pt r
      b.orders_pass b.dismissals_pass b.one_order b.lasts_are_pages b.one_page b.reports_pass b.one_report

  pub not-told_putting : (x y : Phase) → (x ≡ y → ⊥) → PagesPut a s pt → InPhase x a → InPhase y s → AsksTold x f t pt r false → ServesTold y f t pt r false → ⊥
  not-told_putting =
      told-putting a.orders a.dismissals a.lasts a.reports s.orders s.dismissals s.lasts s.reports f t p pt r
      b.orders_pass b.dismissals_pass b.one_order b.lasts_are_pages b.one_page b.reports_pass b.one_report

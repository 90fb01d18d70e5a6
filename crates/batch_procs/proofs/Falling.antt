-- Each action of a process lowers what it may still do.
use Rattle.std.proofs.Common.{◌≡◌, ◌≤◌, ℕ, ◌+◌, ◌*◌, ◌-◌, Bool, true, false, ◌||◌, ◌==◌, if◌then◌else◌, List, [], ◌∷◌, length, Option, None, Some, refl, sym, ◌∙◌, ap, subst, arith}
use Rattle.std.proofs.lemmas.Bool.{eq-eqb}
use Rattle.solo_base.specs.declared.outcome.Outcome.{Outcome}
use Rattle.batch_procs.specs.Jobs.{Jobs}
use Rattle.batch_procs.specs.declared.actions.Action.{Action}
use Rattle.batch_procs.specs.declared.actions.Action.TheVariants as act
use Rattle.batch_procs.specs.declared.actions.Reply.{Reply}
use Rattle.batch_procs.specs.Ahead.{moves_ahead, one_if, unstopped}
use Rattle.batch_procs.specs.History.{Entry, Does, has_stopped}
use Rattle.batch_procs.specs.Process.{working, begins, stops_next}
use Rattle.batch_procs.specs.Machine.{step_after, held_at}
use Rattle.batch_procs.specs.Parts.{some-same}
use Rattle.batch_procs.proofs.Held.{IsAim, IsFree}
use Rattle.batch_procs.proofs.Holding.{begins-no_release}

-- ---- numbers
-- a put, a take, and their terms
times-more : (c x m : ℕ) → c * (x + m) ≡ c * x + c * m
times-more c x m = grind arith

-- ---- the step before an action
pub free-step : (newest : Option Action) (aim a : Action) → working newest aim ≡ Some a → IsFree a → held_at (step_after newest) ≡ false
    → moves_ahead (step_after newest) ≡ 2
free-step None aim a e free off = refl
free-step (Some act.AwaitRoom) aim a e free off = absurd (subst IsFree (sym (some-same act.Request a e)) free)
free-step (Some act.AwaitItem) aim a e free off = absurd (subst IsFree (sym (some-same act.Request a e)) free)
free-step (Some act.Request) aim a e free off = absurd cc
free-step (Some (act.PutPage page)) aim a e free off = absurd cc
free-step (Some act.TakePage) aim a e free off = absurd cc
free-step (Some (act.Load file)) aim a e free off = absurd cc
free-step (Some (act.Ended how)) aim a e free off = absurd cc
free-step (Some other) aim a e free off = refl

pub request-step : (newest : Option Action) (aim : Action) → IsAim aim → working newest aim ≡ Some act.Request → 1 ≤ moves_ahead (step_after newest)
request-step None aim is e = omega arith
request-step (Some act.AwaitRoom) aim is e = omega arith
request-step (Some act.AwaitItem) aim is e = omega arith
request-step (Some act.Request) aim is e = absurd (subst IsAim (some-same aim act.Request e) is)
request-step (Some (act.PutPage page)) aim is e = absurd cc
request-step (Some act.TakePage) aim is e = absurd cc
request-step (Some (act.Load file)) aim is e = absurd cc
request-step (Some (act.Ended how)) aim is e = absurd cc
request-step (Some other) aim is e = omega arith

pub release-step : (newest : Option Action) (aim : Action) → IsAim aim → working newest aim ≡ Some act.Release → moves_ahead (step_after newest) ≡ 3
release-step None aim is e = absurd (begins-no_release aim (some-same (begins aim) act.Release e) is)
release-step (Some act.AwaitRoom) aim is e = absurd cc
release-step (Some act.AwaitItem) aim is e = absurd cc
release-step (Some act.Request) aim is e = absurd (subst IsAim (some-same aim act.Release e) is)
release-step (Some (act.PutPage page)) aim is e = refl
release-step (Some act.TakePage) aim is e = refl
release-step (Some (act.Load file)) aim is e = refl
release-step (Some (act.Ended how)) aim is e = absurd cc
release-step (Some other) aim is e = absurd (begins-no_release aim (some-same (begins aim) act.Release e) is)

or-true : (t : Bool) → (t || true) ≡ true
or-true true = refl
or-true false = refl

stop-same : (c b : ℕ) → act.Stop c ≡ act.Stop b → c ≡ b
stop-same c b e = cc

-- ---- numbers of a put and of a take
pub one-most : (t : Bool) → one_if t ≤ 1
one-most true = omega arith
one-most false = omega arith

pub after-take : (c most t s : ℕ) → s ≤ most * t + 1 → c * (most * (t + 1) + 1 - s) ≡ c * (most * t + 1 - s) + c * most
after-take c most t s within =
    let longer : most * (t + 1) ≡ most * t + most = times-more most t 1 ∙ omega arith in
    let more : most * t + most + 1 - s ≡ (most * t + 1 - s) + most = omega (arith, within) in
    ap (λ n. c * (n + 1 - s)) longer ∙ ap (λ n. c * n) more ∙ times-more c (most * t + 1 - s) most

pub after-put : (c most t s : ℕ) → s + 1 ≤ most * t + 1 → c * (most * t + 1 - s) ≡ c * (most * t + 1 - (s + 1)) + c
after-put c most t s within =
    let less : most * t + 1 - s ≡ (most * t + 1 - (s + 1)) + 1 = omega (arith, within) in
    ap (λ n. c * n) less ∙ times-more c (most * t + 1 - (s + 1)) 1 ∙ omega arith

module _ {L : Type 0} (J : Jobs L) where
  -- ---- the stops
  pub unstopped-most : (buffers : List ℕ) (h : List (Entry L)) → unstopped buffers h ≤ length buffers
  unstopped-most [] h = omega arith
  unstopped-most (b ∷ later) h =
      let rest = unstopped-most later h in
      let P : Bool → Type 0 = λ t. (if t then 0 else 1) + unstopped later h ≤ length (b ∷ later) in
      elim (has_stopped b h) as P [ true ↦ omega (arith, rest) | false ↦ omega (arith, rest) ]

  -- a stop leaves no more unstopped
  unstopped-less : (buffers : List ℕ) (b : ℕ) (r : Reply L) (h : List (Entry L)) → unstopped buffers (Does (act.Stop b) r ∷ h) ≤ unstopped buffers h
  unstopped-less [] b r h = omega arith
  unstopped-less (c ∷ later) b r h =
      let rest = unstopped-less later b r h in
      let P : Bool → Bool → Type 0 = λ t u. (if (t || u) then 0 else 1) + unstopped later (Does (act.Stop b) r ∷ h) ≤ (if u then 0 else 1) + unstopped later h
      in
      both (c == b) (has_stopped c h) rest
    where
      both : (t u : Bool) → unstopped later (Does (act.Stop b) r ∷ h) ≤ unstopped later h
          → (if (t || u) then 0 else 1) + unstopped later (Does (act.Stop b) r ∷ h) ≤ (if u then 0 else 1) + unstopped later h
      both true true rest = omega (arith, rest)
      both true false rest = omega (arith, rest)
      both false true rest = omega (arith, rest)
      both false false rest = omega (arith, rest)

  pub stop-falls : (buffers : List ℕ) (how : Outcome) (b : ℕ) (r : Reply L) (h : List (Entry L)) → stops_next buffers how h ≡ act.Stop b
      → unstopped buffers (Does (act.Stop b) r ∷ h) + 1 ≤ unstopped buffers h
  stop-falls [] how b r h e = absurd cc
  stop-falls (c ∷ later) how b r h e = by (λ next. stop-falls later how b r h next) (has_stopped c h) refl
    where
      by : (stops_next later how h ≡ act.Stop b → unstopped later (Does (act.Stop b) r ∷ h) + 1 ≤ unstopped later h) → (t : Bool) → has_stopped c h ≡ t
          → unstopped (c ∷ later) (Does (act.Stop b) r ∷ h) + 1 ≤ unstopped (c ∷ later) h
      by falls true is =
          let rest = falls (rw is at e) in
          rw (is, or-true (c == b)) (omega (arith, rest))
      by falls false is =
          let same : c ≡ b = stop-same c b (rw is at e) in
          let rest = unstopped-less later b r h in
          rw (is, eq-eqb c b same) (omega (arith, rest))

  pub unstopped-same : (buffers : List ℕ) (h now : List (Entry L)) → ((b : ℕ) → has_stopped b now ≡ has_stopped b h)
      → unstopped buffers now ≡ unstopped buffers h
  unstopped-same [] h now same = refl
  unstopped-same (b ∷ later) h now same = rw (same b, unstopped-same later h now same) refl

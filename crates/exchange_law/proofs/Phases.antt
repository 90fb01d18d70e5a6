-- What an order, a dismissal, a page and a report make of a phase.
use Rattle.std.proofs.Common.{◌≡◌, ℕ, ◌+◌, Bool, true, false, [], ◌∷◌, sym, subst, arith}
use Rattle.exchange_law.specs.Phases.{trues, Phase, Idle, Moving, Reporting, Left, PhaseIs, phase_behind}

plus-none : (a : ℕ) → a + 0 ≡ a
plus-none a = omega arith

pub stays : (phase : Phase) (o d l n : ℕ) → PhaseIs phase o d l n → PhaseIs phase (o + 0) (d + 0) (l + 0) (n + 0)
stays phase o d l n is =
    subst (λ x. PhaseIs phase x (d + 0) (l + 0) (n + 0)) (sym (plus-none o))
    (subst (λ x. PhaseIs phase o x (l + 0) (n + 0)) (sym (plus-none d))
    (subst (λ x. PhaseIs phase o d x (n + 0)) (sym (plus-none l)) (subst (λ x. PhaseIs phase o d l x) (sym (plus-none n)) is)))

pub orders : (o d l n : ℕ) → PhaseIs Idle o d l n → PhaseIs Moving (o + 1) (d + 0) (l + 0) (n + 0)
orders o d l n (a, b, c) = (omega (arith, a), omega (arith, b), omega (arith, c))

pub dismisses : (o d l n : ℕ) → PhaseIs Idle o d l n → PhaseIs Left (o + 0) (d + 1) (l + 0) (n + 0)
dismisses o d l n (a, b, c) = (omega (arith, a), omega (arith, b), omega (arith, c))

pub ends_pages : (o d l n : ℕ) → PhaseIs Moving o d l n → PhaseIs Reporting (o + 0) (d + 0) (l + 1) (n + 0)
ends_pages o d l n (a, b, c) = (omega (arith, a), omega (arith, b), omega (arith, c))

pub reports : (o d l n : ℕ) → PhaseIs Reporting o d l n → PhaseIs Idle (o + 0) (d + 0) (l + 0) (n + 1)
reports o d l n (a, b, c) = (omega (arith, a), omega (arith, b), omega (arith, c))

pub moves : (last : Bool) (o d l n : ℕ) → PhaseIs Moving o d l n → PhaseIs (phase_behind last) (o + 0) (d + 0) (l + trues (last ∷ [])) (n + 0)
moves true o d l n is = ends_pages o d l n is
moves false o d l n is = stays Moving o d l n is

-- where the phase is another spelling of this one
pub as_phase : (x y : Phase) (o d l n : ℕ) → x ≡ y → PhaseIs x o d l n → PhaseIs y o d l n
as_phase x y o d l n e is = subst (λ phase. PhaseIs phase o d l n) e is

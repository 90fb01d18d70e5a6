-- The next start of a plan, and the one behind it.
use Rattle.std.proofs.Common.{◌≡◌, ◌≢◌, ◌⊎◌, inl, inr, ℕ, ◌+◌, ◌-◌, ◌*◌, ◌/◌, ◌%◌, ◌<◌, ◌≤◌, Bool, true, false, Some, None, refl, sym, ◌∙◌, ap, subst, arith}
use Rattle.std.specs.Prelude.{nat_lt, if◌then◌else◌, ◌==◌, ◌&&◌, ◌||◌, not}
use Rattle.std.proofs.lemmas.Bool.{ltb-true, lt-ltb}
use Rattle.std.proofs.lemmas.Bool.Decides.{eqb_tells}
use Rattle.std.proofs.Math.Nat.{div-add-mod, mul-mod_right}
use Rattle.real_time.specs.declared.plan.Plan.{Plan}
use Rattle.real_time.specs.declared.plan.Plan.TheVariants.{Never, First}
use Rattle.real_time.specs.Starts.{is_due}
use Rattle.real_time.specs.Awaiting.{Row, Awaits, Passed, next_behind}

-- ---- a plan's starts are its first one, and so many periods behind it
tests : (a b c d : Bool) → (a || (b && not c && d)) ≡ true → (a ≡ true) ⊎ ((b ≡ true) × (c ≡ false) × (d ≡ true))
tests true b c d e = inl refl
tests false true false true e = inr (refl, refl, refl)
tests false true false false e = absurd cc
tests false true true d e = absurd cc
tests false false c d e = absurd cc

same : (a b : ℕ) → (a == b) ≡ true → a ≡ b
same a b e = elim (eqb_tells a b) as (λ _. a ≡ b) [ inl is ↦ is.1 | inr other ↦ absurd (let no = other.0 in cc) ]

differ : (a b : ℕ) → (a == b) ≡ false → a ≢ b
differ a b e = elim (eqb_tells a b) as (λ _. a ≢ b) [ inl is ↦ absurd (let yes = is.0 in cc) | inr other ↦ other.1 ]

apart : (a b : ℕ) → a ≢ b → (a == b) ≡ false
apart a b not_same = elim (eqb_tells a b) as (λ _. (a == b) ≡ false) [ inl is ↦ absurd (not_same is.1) | inr other ↦ other.0 ]

pub periods : (start period second : ℕ) → is_due (First start period) second ≡ true → (k : ℕ) × (second ≡ start + period * k)
periods start period second due =
    elim (tests (second == start) (nat_lt start second) (period == 0) ((second - start) % period == 0) due) as (λ _. (k : ℕ) × (second ≡ start + period * k)) [
      | inl first ↦ (0, (let at = same second start first in omega (arith, at)))
      | inr later ↦
          (let past = ltb-true start second later.0 in
          let whole = same ((second - start) % period) 0 later.2 in
          let parts = div-add-mod (second - start) period in
          ((second - start) / period, sums second start ((second - start) % period) (period * ((second - start) / period)) past whole parts))
    ]
  where
    sums : (second start rest whole : ℕ) → start < second → rest ≡ 0 → whole + rest ≡ second - start → second ≡ start + whole
    sums second start rest whole past none parts = omega (arith, past, none, parts)

no-periods : (period k : ℕ) → period ≡ 0 → period * k ≡ 0
no-periods period k none = rw none (omega arith)

pub due-at : (start period second k : ℕ) → second ≡ start + period * k → is_due (First start period) second ≡ true
due-at start period second k at = by (second == start) refl
  where
    by : (t : Bool) → (second == start) ≡ t → is_due (First start period) second ≡ true
    by true e = rw e refl
    by false e =
        let other = differ second start e in
        let past : start < second = omega (arith, at, other) in
        let some = apart period 0 (λ none. (let nothing = no-periods period k none in omega (arith, at, past, nothing))) in
        let many : second - start ≡ period * k = omega (arith, at) in
        let whole : (second - start) % period ≡ 0 = ap (λ n. n % period) many ∙ mul-mod_right period k in
        rw (e, lt-ltb start second past, some, whole) refl

-- ---- one period more
times-add : (p j d : ℕ) → p * (j + d) ≡ p * j + p * d
times-add p j d = grind arith

one-more : (p k : ℕ) → p * (k + 1) ≡ p * k + p
one-more p k = grind arith

next-times : (p k j : ℕ) → p * k < p * j → p * k + p ≤ p * j
next-times p k j below = by (nat_lt k j) refl
  where
    by : (t : Bool) → nat_lt k j ≡ t → p * k + p ≤ p * j
    by true e =
        let less = ltb-true k j e in
        let parts : j ≡ (k + 1) + (j - (k + 1)) = omega (arith, less) in
        let all : p * j ≡ p * ((k + 1) + (j - (k + 1))) = ap (λ n. p * n) parts in
        let sum = times-add p (k + 1) (j - (k + 1)) in
        let more = one-more p k in
        omega (arith, all, sum, more)
    by false e =
        elim (eqb_tells (k - j + j) k) as (λ _. p * k + p ≤ p * j) [
          | inl is ↦
              (let parts : k ≡ j + (k - j) = (let at = is.1 in omega (arith, at)) in
              let all : p * k ≡ p * (j + (k - j)) = ap (λ n. p * n) parts in
              let sum = times-add p j (k - j) in
              absurd (omega (arith, all, sum, below)))
          | inr other ↦ (let no = other.1 in let yes = lt-ltb k j (omega (arith, no)) in absurd cc)
        ]

-- ---- a second passes
module _ (plan : Plan) (now second : ℕ) (row : Row) (at : second ≡ now + 1) (w : Awaits plan now row) where
  pub passes-not : row.next ≢ Some second → Passed plan second row row false
  passes-not other = record {
    starts_are = by (is_due plan second) refl;
    awaits = record {
      next = record {
        behind = λ n is. (let low = w.next.behind n is in let no = not-now n is in omega (arith, low, no, at));
        due = w.next.due;
        least = λ t below due. w.next.least t (omega (arith, below, at)) due;
      };
      period = w.period;
    };
  }
    where
      not-now : (n : ℕ) → row.next ≡ Some n → n ≢ second
      not-now n is same = other (is ∙ ap Some same)

      by : (t : Bool) → is_due plan second ≡ t → false ≡ t
      by false e = refl
      by true e =
          let (first, is, most) = w.next.least second (omega (arith, at)) e in
          let low = w.next.behind first is in
          absurd (not-now first is (omega (arith, low, most, at)))

  pub passes-once : (new : Row) → row.next ≡ Some second → row.period ≡ 0 → new ≡ record row { next = None } → Passed plan second row new true
  passes-once new is none new_is = record {
    starts_are = sym (w.next.due second is);
    awaits = subst (Awaits plan second) (sym new_is) record {
      next = record { behind = λ n e. absurd cc; due = λ n e. absurd cc; least = λ t below due. absurd (never t below due) };
      period = λ n e. absurd cc;
    };
  }
    where
      never : (t : ℕ) → second < t → is_due plan t ≡ true → ⊥
      never t below due =
          let (start, plan_is) = w.period second is in
          let (k, t_is) = periods start row.period t (subst (λ p. is_due p t ≡ true) plan_is due) in
          let (j, second_is) = periods start row.period second (subst (λ p. is_due p second ≡ true) plan_is (w.next.due second is)) in
          let no = no-periods row.period k none in
          let nor = no-periods row.period j none in
          omega (arith, below, t_is, second_is, no, nor)

  pub passes-again : (new : Row) → row.next ≡ Some second → row.period ≢ 0 → new ≡ record row { next = Some (second + row.period) }
      → Passed plan second row new true
  passes-again new is some new_is =
      let (start, plan_is) = w.period second is in
      let (j, second_is) = periods start row.period second (subst (λ p. is_due p second ≡ true) plan_is (w.next.due second is)) in
      let more = one-more row.period j in
      let after : second + row.period ≡ start + row.period * (j + 1) = omega (arith, second_is, more) in
      record {
        starts_are = sym (w.next.due second is);
        awaits = subst (Awaits plan second) (sym new_is) record {
          next = record {
            behind = λ n e. (let same = the-same n e in omega (arith, same, some));
            due = λ n e. subst (λ n. is_due plan n ≡ true) (the-same n e)
                (subst (λ p. is_due p (second + row.period) ≡ true) (sym plan_is) (due-at start row.period (second + row.period) (j + 1) after));
            least = λ t below due.
                let (k, t_is) = periods start row.period t (subst (λ p. is_due p t ≡ true) plan_is due) in
                let less : row.period * j < row.period * k = omega (arith, below, t_is, second_is) in
                let most = next-times row.period j k less in
                (second + row.period, refl, omega (arith, most, t_is, second_is));
          };
          period = λ n e. (start, plan_is);
        };
      }
    where
      the-same : (n : ℕ) → (Some (second + row.period)) ≡ Some n → second + row.period ≡ n
      the-same n e = cc

  pub passes-due : (new : Row) → row.next ≡ Some second → new ≡ record row { next = next_behind second row.period } → Passed plan second row new true
  passes-due new is new_is = by (row.period == 0) refl
    where
      by : (t : Bool) → (row.period == 0) ≡ t → Passed plan second row new true
      by true e = passes-once new is (same row.period 0 e) (new_is ∙ ap (λ b. record row { next = if b then None else Some (second + row.period) }) e)
      by false e =
          passes-again new is (differ row.period 0 e) (new_is ∙ ap (λ b. record row { next = if b then None else Some (second + row.period) }) e)

-- ---- a plan is made
pub never-waits : (now : ℕ) (row : Row) → row.next ≡ None → Awaits Never now row
never-waits now row none = record {
  next = record { behind = λ n e. absurd cc; due = λ n e. absurd cc; least = λ t below due. absurd cc };
  period = λ n e. absurd cc;
}

pub waits-first : (time period now : ℕ) (row : Row) → now < time → row.next ≡ Some time → row.period ≡ period → Awaits (First time period) now row
waits-first time period now row below is period_is = record {
  next = record {
    behind = λ n e. subst (λ n. now < n) (the-same n e) below;
    due = λ n e. subst (λ n. is_due (First time period) n ≡ true) (the-same n e) (due-at time period time 0 (omega arith));
    least = λ t low due. (let (k, t_is) = periods time period t due in (time, is, omega (arith, t_is)));
  };
  period = λ n e. (time, ap (First time) (sym period_is));
}
  where
    the-same : (n : ℕ) → row.next ≡ Some n → time ≡ n
    the-same n e = cc

-- A run by a rule with one turn more.
use Rattle.std.proofs.Common.{◌≤◌, ◌≡◌, ◌<◌, ℕ, ◌+◌, ◌-◌, min, List, [], ◌∷◌, ◌++◌, length, length-append, Option, Some, refl, sym, ◌∙◌, ap, subst, arith}
use Rattle.network_run.specs.declared.counts.Counts.{Counts}
use Rattle.network_run.specs.declared.rules.Rule.{Rule}
use Rattle.network_run.specs.declared.stepped.Stepped.{Stepped}
use Rattle.network_run.specs.Counting.{raised, no_counts, delays_by, grants_by, delays_of, grants_of, counts_of, counted_by}
use Rattle.network_run.specs.Law.{Law, Placed, run, Steps}
use Rattle.network_run.specs.Rules.{behind}
use Rattle.network_run.specs.Runs.{IsPicked, AreByRule, RunsBy, TurnTaken, most_events}
use Rattle.network_run.proofs.Along.{one-more, run-more, place-behind}

-- ---- counts that stand still at their last value
twice-least : (last n k : ℕ) → min (min (0 + n) last + k) last ≡ min (0 + (n + k)) last
twice-least last n k = omega arith

raised-more : (n k : ℕ) → raised (raised 0 n) k ≡ raised 0 (n + k)
raised-more n k = twice-least 18446744073709551615 n k

pub raised-few : (n : ℕ) → raised 0 n ≤ n
raised-few n = least-few 18446744073709551615 n
  where
    least-few : (last n : ℕ) → min (0 + n) last ≤ n
    least-few last n = omega arith

abbrev counts : ℕ → ℕ → ℕ → Counts
counts events delays grants = record { events = events; delays = delays; grants = grants }

same-counts : (a b c x y z : ℕ) → a ≡ x → b ≡ y → c ≡ z → counts a b c ≡ counts x y z
same-counts a b c x y z e d g = rw (e, d, g) refl

module _ (law : Law) where
  -- ---- the rule behind these events
  abbrev pub rule_behind : Rule → List law.Event → Rule
  rule_behind rule [] = rule
  rule_behind rule (event ∷ events) = rule_behind (behind rule (Some (law.process event))) events

  behind-more : (rule : Rule) (events : List law.Event) (event : law.Event)
      → rule_behind rule (events ++ event ∷ []) ≡ behind (rule_behind rule events) (Some (law.process event))
  behind-more rule [] event = refl
  behind-more rule (first ∷ events) event = behind-more (behind rule (Some (law.process first))) events event

  by-rule-more : (rule : Rule) (s : law.State) (events : List law.Event) (event : law.Event) → AreByRule law rule s events
      → IsPicked law (rule_behind rule events) (run law s events) (law.process event) → AreByRule law rule s (events ++ event ∷ [])
  by-rule-more rule s [] event all last = (last, tt)
  by-rule-more rule s (first ∷ events) event all last =
      (all.0, by-rule-more (behind rule (Some (law.process first))) (law.happens s first) events event all.1 last)

  -- ---- the counts
  delays-more : (s : law.State) (events : List law.Event) (event : law.Event)
      → delays_of law s (events ++ event ∷ []) ≡ delays_of law s events + delays_by (law.went (run law s events) event)
  delays-more s [] event = omega arith
  delays-more s (first ∷ events) event = (let rest = delays-more (law.happens s first) events event in omega (arith, rest))

  grants-more : (s : law.State) (events : List law.Event) (event : law.Event)
      → grants_of law s (events ++ event ∷ []) ≡ grants_of law s events + law.grants (run law s events) event
  grants-more s [] event = omega arith
  grants-more s (first ∷ events) event = (let rest = grants-more (law.happens s first) events event in omega (arith, rest))

  counts-more : (before after : Counts) (s : law.State) (events : List law.Event) (event : law.Event) → before ≡ counts_of law s events
      → after ≡ counted_by before (delays_by (law.went (run law s events) event)) (law.grants (run law s events) event)
      → after ≡ counts_of law s (events ++ event ∷ [])
  counts-more before after s events event was counted =
      counted
      ∙ ap (λ (c : Counts). counted_by c (delays_by (law.went (run law s events) event)) (law.grants (run law s events) event)) was
      ∙ same-counts _ _ _ _ _ _
      (raised-more (length events) 1 ∙ ap (raised 0) (sym (length-append events (event ∷ []))))
      (raised-more (delays_of law s events) (delays_by (law.went (run law s events) event)) ∙ ap (raised 0) (sym (delays-more s events event)))
      (raised-more (grants_of law s events) (law.grants (run law s events) event) ∙ ap (raised 0) (sym (grants-more s events event)))

  -- ---- a run so far
  -- where the rule stands behind it, how many events it took, and that no more are left
  pub record RunsSoFar (Stands : law.State → Type 0) (left : law.State → ℕ) (rule now : Rule) (s : law.State) (first taken : ℕ) (counts : Counts) : Type 0 where
    pub ran : RunsBy law Stands rule s counts
    pub now_is : now ≡ rule_behind rule ran.events
    pub many : taken ≡ length ran.events
    pub fewer : left (run law s ran.events) + taken ≤ first

  pub no-turn : (Stands : law.State → Type 0) (left : law.State → ℕ) (rule : Rule) (s : law.State) (counts : Counts)
      → counts ≡ no_counts → Stands s → RunsSoFar Stands left rule rule s (left s) 0 counts
  no-turn Stands left rule s counts none stands = record {
    ran = record { events = []; enabled = tt; by_rule = tt; counts_are = none; stands = stands };
    now_is = refl;
    many = refl;
    fewer = omega arith;
  }

  -- it counts no more than it took
  pub counts-few : (Stands : law.State → Type 0) (left : law.State → ℕ) (rule now : Rule) (s : law.State) (first taken : ℕ) (counts : Counts)
      → RunsSoFar Stands left rule now s first taken counts → counts.events ≤ first
  counts-few Stands left rule now s first taken counts so_far =
      let are = ap (λ (c : Counts). c.events) so_far.ran.counts_are in
      let most = raised-few (length so_far.ran.events) in
      let many = so_far.many in
      let fewer = so_far.fewer in
      below-first counts.events (raised 0 (length so_far.ran.events)) _ _ taken first are most many fewer
    where
      below-first : (n raised long left taken first : ℕ) → n ≡ raised → raised ≤ long → taken ≡ long → left + taken ≤ first → n ≤ first
      below-first n raised long left taken first a b c d = omega (arith, a, b, c, d)

  -- the place that it came to
  abbrev pub place-ran : (Stands New : law.State → Type 0) (left : law.State → ℕ)
      (rule now : Rule) (first taken : ℕ) (counts : Counts) (at : Placed law Stands)
      → RunsSoFar New left rule now at.state first taken counts → Placed law New
  place-ran Stands New left rule now first taken counts at so_far = place-behind law Stands New at so_far.ran.events so_far.ran.enabled so_far.ran.stands

  module _ {N : Type 0} (Stands : N → law.State → Type 0) (left : N → law.State → ℕ) where
    pub runs-more : (rule now next : Rule) (old new : N) (p first taken : ℕ) (before after : Counts) (Begun : law.State → Type 0) (at : Placed law Begun)
        → ((at : Placed law (Stands old)) → IsPicked law now at.state p × law.MayGo at.state p)
        → ((at : Placed law (Stands old)) → law.MayGo at.state p → TurnTaken law Stands left old new at.state p before after)
        → next ≡ behind now (Some p) → RunsSoFar (Stands old) (left old) rule now at.state first taken before
        → RunsSoFar (Stands new) (left new) rule next at.state first (taken + 1) after
    runs-more rule now next old new p first taken before after Begun at picks turns next_is so_far =
        let s = at.state in
        let ran = so_far.ran in
        let here = place-ran Begun (Stands old) (left old) rule now first taken before at so_far in
        let picked = picks here in
        let turn = turns here picked.1 in
        let last : IsPicked law (rule_behind rule ran.events) (run law s ran.events) (law.process turn.event)
        = subst (λ p. IsPicked law (rule_behind rule ran.events) (run law s ran.events) p) (sym turn.process_is)
        (subst (λ r. IsPicked law r (run law s ran.events) p) so_far.now_is picked.0) in
        let state : run law s (ran.events ++ turn.event ∷ []) ≡ law.happens (run law s ran.events) turn.event = run-more law s ran.events turn.event in
        let lower : left new (law.happens (run law s ran.events) turn.event) < left old (run law s ran.events) = turn.falls in
        let was : left old (run law s ran.events) + taken ≤ first = so_far.fewer in
        let less : left new (law.happens (run law s ran.events) turn.event) + (taken + 1) ≤ first = omega (arith, lower, was) in
        record {
          ran = record {
            events = ran.events ++ turn.event ∷ [];
            enabled = one-more law s ran.events turn.event ran.enabled turn.enabled;
            by_rule = by-rule-more rule s ran.events turn.event ran.by_rule last;
            counts_are = counts-more before after s ran.events turn.event ran.counts_are turn.counted;
            stands = subst (λ s. Stands new s) (sym state) turn.stands;
          };
          now_is = next_is ∙ ap (λ r. behind r (Some p)) so_far.now_is ∙ ap (λ p. behind (rule_behind rule ran.events) (Some p)) (sym turn.process_is)
              ∙ sym (behind-more rule ran.events turn.event);
          many = ap (λ n. n + 1) so_far.many ∙ sym (length-append ran.events (turn.event ∷ []));
          fewer = subst (λ s. left new s + (taken + 1) ≤ first) (sym state) less;
        }

    -- A step that is counted is a turn.
    pub turn-taken : (Moves : N → law.Event → N → Type 0) (old new : N) (at : Placed law (Stands old)) (p : ℕ) (stepped : Stepped) (before after : Counts)
        (was is : Option ℕ) → (steps : Steps law Stands Moves old new at.state p stepped)
        → left new (law.happens at.state steps.event) < left old at.state
        → law.grants at.state steps.event ≡ grants_by (law.holder at.state) (law.holder (law.happens at.state steps.event))
        → was ≡ law.holder at.state → is ≡ law.holder (law.happens at.state steps.event)
        → after ≡ counted_by before (delays_by stepped) (grants_by was is) → TurnTaken law Stands left old new at.state p before after
    turn-taken Moves old new at p stepped before after was is steps falls grants was_is is_is counted = record {
      event = steps.event;
      process_is = steps.process_is;
      enabled = steps.enabled;
      stands = steps.stands;
      falls = falls;
      counted =
          counted
          ∙ ap (λ went. counted_by before (delays_by went) (grants_by was is)) steps.told
          ∙ ap (λ n. counted_by before (delays_by (law.went at.state steps.event)) n)
          (ap (λ h. grants_by h is) was_is ∙ ap (λ h. grants_by (law.holder at.state) h) is_is ∙ sym grants);
    }

-- each turn has an event more, of those that may happen
pub events-few : (left_now left_then taken first : ℕ) (most : ℕ) → left_then < left_now → left_now + taken ≤ first → first ≤ most
    → most - (taken + 1) < most - taken
events-few left_now left_then taken first most falls so_far few = omega (arith, falls, so_far, few)

pub taken-fits : (left_now left_then taken first : ℕ) → left_then < left_now → left_now + taken ≤ first → first ≤ most_events
    → taken + 1 < 340282366920938463463374607431768211456
taken-fits left_now left_then taken first falls so_far few =
    within taken most_events _ (below left_now left_then taken first most_events falls so_far few) (omega arith)
  where
    below : (left_now left_then taken first most : ℕ) → left_then < left_now → left_now + taken ≤ first → first ≤ most → taken < most
    below left_now left_then taken first most falls so_far few = omega (arith, falls, so_far, few)

    within : (taken most last : ℕ) → taken < most → most < last → taken + 1 < last
    within taken most last a b = omega (arith, a, b)

-- Under a rule there is at most one run in which no device fails and no memory is refused.
use Rattle.std.proofs.Common.{◌≡◌, ◌<◌, ◌+◌, inl, inr, ℕ, zero, suc, Bool, List, [], ◌∷◌, length, length-append, Option, Some, refl, sym, ◌∙◌, ap, subst, arith}
use Rattle.std.specs.List.{AllByRecursion}
use Rattle.std.proofs.lemmas.Bool.Decides.{same_from_decides}
use Rattle.network_run.specs.declared.counts.Counts.{Counts}
use Rattle.network_run.specs.declared.rules.Rule.{Rule}
use Rattle.network_run.specs.Counting.{counts_of}
use Rattle.network_run.specs.Law.{Law, IsReached, AllEnded, run}
use Rattle.network_run.specs.Rules.{numbers_from, pick, behind}
use Rattle.network_run.specs.Runs.{AreGoing, IsPicked, RunsBy}
use Rattle.network_run.specs.OneRun.{IsUndisturbed, TheRun, AreItsCounts}
use Rattle.network_run.specs.Sound.{IsSoundLaw, IsSureLaw}
use Rattle.network_run.proofs.Along.{reached-more}
use Rattle.network_run.proofs.Picking.{chosen}

module _ (law : Law) where
  -- ---- a rule picks one process
  same-row : (s : law.State) (n : ℕ) (some others : List Bool) → AreGoing law s n some → AreGoing law s n others → length some ≡ length others → some ≡ others
  same-row s n [] [] first second long = refl
  same-row s n [] (b ∷ others) first second long = absurd cc
  same-row s n (a ∷ some) [] first second long = absurd cc
  same-row s n (a ∷ some) (b ∷ others) first second long =
      let flags = same_from_decides a b first.0 second.0 in
      let rest : length some ≡ length others = cc in
      let rows = same-row s (suc n) some others first.1 second.1 rest in
      cc

  same-number : (p q : ℕ) (picked : Option ℕ) → picked ≡ Some p → picked ≡ Some q → p ≡ q
  same-number p q picked first second = cc

  same-picked : (r : Rule) (s : law.State) (p q : ℕ) → IsPicked law r s p → IsPicked law r s q → p ≡ q
  same-picked r s p q first second =
      let rows = same-row s 1 first.are.row second.are.row first.are.going second.are.going (first.are.all ∙ sym second.are.all) in
      let goers : second.goers ≡ first.goers = second.are.are ∙ ap (numbers_from 1) (sym rows) ∙ sym first.are.are in
      same-number p q (pick r first.goers) first.is (ap (pick r) (sym goers) ∙ second.is)

  later : (r : Rule) (s : law.State) (event : law.Event) (events : List law.Event) → IsUndisturbed law r s (event ∷ events)
      → IsUndisturbed law (behind r (Some (law.process event))) (law.happens s event) events
  later r s event events is = record { enabled = is.enabled.1; by_rule = is.by_rule.1; smooth = is.smooth.1; ends = is.ends }

  -- behind the end there is no event
  ended-not : IsSoundLaw law → (s : law.State) (event : law.Event) → AllEnded law s → law.IsEnabled s event → ⊥
  ended-not sound s event ended is =
      let may = sound.goers s (law.process event) (sound.enabled_go s event is) in
      may.1 (ended (law.process event) may.0)

  -- ---- the one run
  module _ (sound : IsSoundLaw law) (sure : IsSureLaw law) (opening : law.Opening) (told : law.IsTold opening) where
    pub one-run : (r : Rule) (s : law.State) (events others : List law.Event) → IsReached law (law.opened opening) s → IsUndisturbed law r s events
        → IsUndisturbed law r s others → others ≡ events
    one-run r s [] [] c first second = refl
    one-run r s [] (other ∷ others) c first second = absurd (ended-not sound s other first.ends second.enabled.0)
    one-run r s (event ∷ events) [] c first second = absurd (ended-not sound s event second.ends first.enabled.0)
    one-run r s (event ∷ events) (other ∷ others) c first second =
        let picked = same-picked r s (law.process other) (law.process event) second.by_rule.0 first.by_rule.0 in
        let same = sure.one_event opening s event other c told first.enabled.0 second.enabled.0 first.smooth.0 second.smooth.0 picked in
        let too = subst (λ e. IsUndisturbed law r s (e ∷ others)) same second in
        let rest = one-run (behind r (Some (law.process event))) (law.happens s event) events others
        (reached-more law (law.opened opening) s event c first.enabled.0) (later r s event events first) (later r s event others too) in
        ap (λ e. e ∷ others) same ∙ ap (λ all. event ∷ all) rest

    abbrev the-run : (r : Rule) (s : law.State) (events : List law.Event) → IsReached law (law.opened opening) s → IsUndisturbed law r s events → TheRun law r s
    the-run r s events reached is = record { events = events; is = is; only = λ others too. one-run r s events others reached is too }

    pub its-counts : (Stands : law.State → Type 0) (r : Rule) (s : law.State) (counts : Counts) (ran : RunsBy law Stands r s counts)
        → IsReached law (law.opened opening) s → AllByRecursion law.IsSmooth ran.events → AllEnded law (run law s ran.events) → AreItsCounts law r s counts
    its-counts Stands r s counts ran reached smooth ends =
        let is : IsUndisturbed law r s ran.events = record { enabled = ran.enabled; by_rule = ran.by_rule; smooth = smooth; ends = ends } in
        record { the_run = the-run r s ran.events reached is; counts_are = ran.counts_are }

    -- ---- there is one: it takes a turn more, up to where none may
    some-events : (fuel : ℕ) (r : Rule) (s : law.State) (reached : IsReached law (law.opened opening) s)
        → (sure.no_longer opening told).0 < length reached.events + fuel → (events : List law.Event) × IsUndisturbed law r s events
    some-events zero r s reached few =
        (let most = (sure.no_longer opening told).1 reached.events reached.enabled in absurd (omega (arith, most, few)))
    some-events (suc fuel) r s reached few =
        elim (chosen law sure.may_tell r s) as (λ _. (events : List law.Event) × IsUndisturbed law r s events) [
          | inr none ↦ ([], record { enabled = tt; by_rule = tt; smooth = tt; ends = sound.never_stuck opening s reached none })
          | inl (p, picked, may) ↦
              (let (event, enabled, is, smooth) = sure.some_event opening s p reached told may in
              let more = length-append reached.events (event ∷ []) in
              let (events, rest) = some-events fuel (behind r (Some (law.process event))) (law.happens s event)
              (reached-more law (law.opened opening) s event reached enabled) (omega (arith, few, more)) in (
                event ∷ events,
                record {
                  enabled = (enabled, rest.enabled);
                  by_rule = (subst (λ q. IsPicked law r s q) (sym is) picked, rest.by_rule);
                  smooth = (smooth, rest.smooth);
                  ends = rest.ends;
                },
              ))
        ]

    pub some-run : (r : Rule) (s : law.State) → IsReached law (law.opened opening) s → TheRun law r s
    some-run r s reached =
        let (events, is) = some-events (suc (sure.no_longer opening told).0) r s reached (omega arith) in
        the-run r s events reached is

  pub same-counts : (r : Rule) (s : law.State) (some others : Counts) → AreItsCounts law r s some → AreItsCounts law r s others → others ≡ some
  same-counts r s some others first second =
      second.counts_are ∙ ap (counts_of law s) (first.the_run.only second.the_run.events second.the_run.is) ∙ sym first.counts_are

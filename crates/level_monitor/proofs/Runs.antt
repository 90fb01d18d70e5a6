-- What many changes come to: as many up as down.
use Rattle.std.proofs.Common.{◌≡◌, ℕ, zero, suc, ◌*◌, List, [], ◌∷◌, ◌++◌, length, replicate, Some, sym, ap, ◌∙◌, subst, arith, suc-mul, length-append}
use Rattle.monitor_gate.specs.Views.{fresh, entries_of}
use Rattle.monitor_gate.specs.Ends.{TableId, PassView, left, joined, new_passes, lists_of}
use Rattle.level_monitor.specs.declared.level.Change.{Change}
use Rattle.level_monitor.specs.declared.level.Change.TheVariants.{Raise, Lower}
use Rattle.level_monitor.specs.declared.level.Level.{Level}
use Rattle.level_monitor.specs.Level.{raised_by, lowered_by, sum_of, IsTied}
use Rattle.level_monitor.specs.Run.{after}

pub sum_of-replicate : (f : Change → ℕ) (n : ℕ) (e : Change) → sum_of f (replicate n e) ≡ n * f e
sum_of-replicate f zero e = omega arith
sum_of-replicate f (suc n) e = let rest = sum_of-replicate f n e in omega (arith, suc-mul n (f e))

abbrev pass_of : TableId → Level → ℕ → PassView Level Change
pass_of gate start n = record { gate = gate; view = fresh (Some start) n }

module _ {A : Type 0} where
  last_two : (p q a b : A) (none : List A) → p ∷ q ∷ [] ≡ none ++ a ∷ b ∷ [] → (a ≡ p) × (b ≡ q)
  last_two p q a b [] e = (cc, cc)
  last_two p q a b (x ∷ xs) e = let l = ap length e in absurd (omega (arith, length-append xs (a ∷ b ∷ [])))

  last_four : (p q r s a b c d : A) (none : List A) → p ∷ q ∷ r ∷ s ∷ [] ≡ (none ++ a ∷ b ∷ []) ++ c ∷ d ∷ [] → (a ≡ p) × (b ≡ q) × (c ≡ r) × (d ≡ s)
  last_four p q r s a b c d [] e = (cc, cc, cc, cc)
  last_four p q r s a b c d (x ∷ xs) e = let l = ap length e in absurd (omega (arith, length-append (xs ++ a ∷ b ∷ []) (c ∷ d ∷ []), length-append xs (a ∷ b ∷ [])))

module _ (opening state start : Level) (gate : TableId) (times : ℕ) (is : opening ≡ start) (zero_is : start.level ≡ 0) where
  none_left : opening.level ≡ 0
  none_left = ap (λ (s : Level). s.level) is ∙ zero_is

  abbrev done : ℕ → PassView Level Change
  done n = after (pass_of gate start n) times

  two_at : IsTied opening state (entries_of (lists_of (joined (done 1) (done 2)))) → state.level ≡ 0
  two_at tied =
      let up = sum_of-replicate raised_by times Raise in
      let down = sum_of-replicate lowered_by times Lower in
      let up_none = sum_of-replicate raised_by times Lower in
      let down_none = sum_of-replicate lowered_by times Raise in
      let level = tied.level in
      let zero = none_left in
      omega arith

  four_at : IsTied opening state (entries_of (lists_of (joined (joined (joined (done 1) (done 2)) (done 3)) (done 4)))) → state.level ≡ 0
  four_at tied =
      let up = sum_of-replicate raised_by times Raise in
      let down = sum_of-replicate lowered_by times Lower in
      let up_none = sum_of-replicate raised_by times Lower in
      let down_none = sum_of-replicate lowered_by times Raise in
      let level = tied.level in
      let zero = none_left in
      omega arith

  -- the passes are raised and lowered as often
  pub level_of_two : (all none : List (PassView Level Change)) (first second last : PassView Level Change) → all ≡ new_passes gate start 2 → all ≡ none ++ first ∷ second ∷ []
      → last ≡ joined (after first times) (after second times) → IsTied opening state (entries_of (lists_of last)) → state.level ≡ 0
  level_of_two all none first second last dealt taken last_is tied =
      let e = last_two (pass_of gate start 1) (pass_of gate start 2) first second none (sym dealt ∙ taken) in
      two_at (subst (λ (p : PassView Level Change). IsTied opening state (entries_of (lists_of p))) (last_is ∙ (λ i. joined (after (e.0 i) times) (after (e.1 i) times))) tied)

  pub level_of_four : (all some none : List (PassView Level Change)) (first second third fourth last : PassView Level Change) → all ≡ new_passes gate start 4
      → all ≡ some ++ third ∷ fourth ∷ [] → some ≡ none ++ first ∷ second ∷ []
      → last ≡ joined (joined (joined (after first times) (after second times)) (after third times)) (after fourth times) → IsTied opening state (entries_of (lists_of last)) → state.level ≡ 0
  level_of_four all some none first second third fourth last dealt taken left last_is tied =
      let e = last_four (pass_of gate start 1) (pass_of gate start 2) (pass_of gate start 3) (pass_of gate start 4) first second third fourth none (sym dealt ∙ (taken ∙ ap (λ l. l ++ third ∷ fourth ∷ []) left)) in
      four_at (subst (λ (p : PassView Level Change). IsTied opening state (entries_of (lists_of p)))
      (last_is ∙ (λ i. joined (joined (joined (after (e.0 i) times) (after (e.1 i) times)) (after (e.2 i) times)) (after (e.3 i) times))) tied)

-- What many uses come to: nobody is inside.
use Rattle.std.proofs.Common.{◌≡◌, ℕ, zero, suc, ◌≤◌, Bool, true, false, List, [], ◌∷◌, ◌++◌, length, Some, refl, sym, ap, ◌∙◌, subst, arith, length-append, append_assoc, add-one, ◌+◌}
use Rattle.monitor_gate.specs.Views.{fresh, entries_of}
use Rattle.monitor_gate.specs.declared.view.Stage.TheVariants.{Outside}
use Rattle.monitor_gate.specs.Ends.{TableId, GateView, PassView, left, joined, new_passes, lists_of}
use Rattle.monitor_gate.specs.Steps.{Found}
use Rattle.readers_writers.specs.declared.room.Use.{Use}
use Rattle.readers_writers.specs.declared.room.Use.TheVariants.{Begin, End}
use Rattle.readers_writers.specs.declared.room.Room.{Room}
use Rattle.readers_writers.specs.Room.{inside_behind, is_inside, IsTied}
use Rattle.readers_writers.specs.Laws.{last_says}
use Rattle.readers_writers.specs.Run.{MayRun, uses, used}

out_behind : (is : Bool) (done : List Use) → inside_behind is (done ++ Begin ∷ End ∷ []) ≡ false
out_behind is [] = refl
out_behind is (Begin ∷ later) = out_behind true later
out_behind is (End ∷ later) = out_behind false later

pub uses_out : (times : ℕ) → inside_behind false (uses times) ≡ false
uses_out zero = refl
uses_out (suc times) = out_behind false (uses times)

-- ---- one use more
pub may_more : (gate : GateView Room) (start pass : PassView Room Use) (n : ℕ) (one : PassView Room Use) → MayRun gate start → pass ≡ used start n → one ≡ left pass Begin → MayRun gate one
may_more gate start pass n one may is begun =
    rw (begun ∙ ap (λ p. left p Begin) is) (record { name = may.0.name; opening = may.0.opening }, refl, may.2, may.3, may.4)

pub began : (start pass : PassView Room Use) (n : ℕ) (one : PassView Room Use) → pass ≡ used start n → one ≡ left pass Begin → inside_behind false one.view.entries ≡ true
began start pass n one is begun = rw (begun ∙ ap (λ p. left p Begin) is) (last_says false (start.view.entries ++ uses n) Begin)

pub one_more : (start pass : PassView Room Use) (n : ℕ) (one two : PassView Room Use) → pass ≡ used start n → one ≡ left pass Begin → two ≡ left one End → two ≡ used start (n + 1)
one_more start pass n one two is begun ended =
    let entries = start.view.entries in
    let same : ((entries ++ uses n) ++ Begin ∷ []) ++ End ∷ [] ≡ entries ++ (uses n ++ Begin ∷ End ∷ []) = append_assoc (entries ++ uses n) (Begin ∷ []) (End ∷ []) ∙ append_assoc entries (uses n) (Begin ∷ End ∷ []) in
    rw add-one (ended ∙ ap (λ p. left p End) (begun ∙ ap (λ p. left p Begin) is)
    ∙ ap (λ es. record { gate = start.gate; view = record { number = start.view.number; opening = start.view.opening; stage = Outside; entries = es; joined = start.view.joined } }) same)

-- whose last entry is a begin is inside
pub is_in : (opening : Room) (number : ℕ) (entries : List Use) (state : Room) → Found (λ opening. IsTied) opening number entries state → 1 ≤ number → number ≤ 4
    → inside_behind false entries ≡ true → is_inside number state ≡ true
is_in opening number entries state found low high is = found.tied.inside number low high ∙ ap (inside_behind false) found.mine ∙ is

-- ---- four processes
abbrev pass_of : TableId → Room → ℕ → PassView Room Use
pass_of gate start n = record { gate = gate; view = fresh (Some start) n }

module _ {A : Type 0} where
  last_two : (p q a b : A) (none : List A) → p ∷ q ∷ [] ≡ none ++ a ∷ b ∷ [] → (a ≡ p) × (b ≡ q)
  last_two p q a b [] e = (cc, cc)
  last_two p q a b (x ∷ xs) e = let l = ap length e in absurd (omega (arith, length-append xs (a ∷ b ∷ [])))

  last_four : (p q r s a b c d : A) (none : List A) → p ∷ q ∷ r ∷ s ∷ [] ≡ (none ++ a ∷ b ∷ []) ++ c ∷ d ∷ [] → (a ≡ p) × (b ≡ q) × (c ≡ r) × (d ≡ s)
  last_four p q r s a b c d [] e = (cc, cc, cc, cc)
  last_four p q r s a b c d (x ∷ xs) e = let l = ap length e in absurd (omega (arith, length-append (xs ++ a ∷ b ∷ []) (c ∷ d ∷ []), length-append xs (a ∷ b ∷ [])))

each_of : (P : ℕ → Type 0) → P 1 → P 2 → P 3 → P 4 → (p : ℕ) → 1 ≤ p → p ≤ 4 → P p
each_of P one two three four zero low high = absurd (omega arith)
each_of P one two three four (suc zero) low high = one
each_of P one two three four (suc (suc zero)) low high = two
each_of P one two three four (suc (suc (suc zero))) low high = three
each_of P one two three four (suc (suc (suc (suc zero)))) low high = four
each_of P one two three four (suc (suc (suc (suc (suc p))))) low high = absurd (omega arith)

module _ (state start : Room) (gate : TableId) (times : ℕ) where
  abbrev done : ℕ → PassView Room Use
  done n = used (pass_of gate start n) times

  four_out : IsTied state (entries_of (lists_of (joined (joined (joined (done 1) (done 2)) (done 3)) (done 4)))) → (p : ℕ) → 1 ≤ p → p ≤ 4 → is_inside p state ≡ false
  four_out tied = let out = uses_out times in each_of (λ p. is_inside p state ≡ false)
      (tied.inside 1 (omega arith) (omega arith) ∙ out) (tied.inside 2 (omega arith) (omega arith) ∙ out)
      (tied.inside 3 (omega arith) (omega arith) ∙ out) (tied.inside 4 (omega arith) (omega arith) ∙ out)

  pub out_of_four : (all some none : List (PassView Room Use)) (first second third fourth last : PassView Room Use) → all ≡ new_passes gate start 4
      → all ≡ some ++ third ∷ fourth ∷ [] → some ≡ none ++ first ∷ second ∷ []
      → last ≡ joined (joined (joined (used first times) (used second times)) (used third times)) (used fourth times) → IsTied state (entries_of (lists_of last))
      → (p : ℕ) → 1 ≤ p → p ≤ 4 → is_inside p state ≡ false
  out_of_four all some none first second third fourth last dealt taken left last_is tied =
      let e = last_four (pass_of gate start 1) (pass_of gate start 2) (pass_of gate start 3) (pass_of gate start 4) first second third fourth none (sym dealt ∙ (taken ∙ ap (λ l. l ++ third ∷ fourth ∷ []) left)) in
      four_out (subst (λ (p : PassView Room Use). IsTied state (entries_of (lists_of p)))
      (last_is ∙ (λ i. joined (joined (joined (used (e.0 i) times) (used (e.1 i) times)) (used (e.2 i) times)) (used (e.3 i) times))) tied)

-- What the rule says of the seats that a step doesn't concern stays so.
use Rattle.std.proofs.Common.{◌≡◌, ℕ, ◌≢◌, Bool, List, ◌∷◌, Option, Some, refl, sym, ap, ◌∙◌, subst}
use Rattle.monitor_gate.specs.declared.view.Line.{Line}
use Rattle.monitor_gate.specs.declared.view.Stage.{Stage}
use Rattle.monitor_gate.specs.declared.view.Stage.TheVariants.{Spent, Making, Outside, Inside, Delayed}
use Rattle.monitor_gate.specs.declared.view.View.{View}
use Rattle.monitor_gate.specs.Views.{Each, AreApart, lines, lines_at, own_line}
use Rattle.monitor_gate.specs.Rule.{IsWithin, Agrees, Stands, IsLineOf, Fits}
use Rattle.monitor_gate.proofs.Lists.{each_map}

-- the stages of a pass that was not joined into another
abbrev pub IsActive : {S : Type 0} → Stage S → Type 0
IsActive Spent = ⊥
IsActive (Making count) = ⊥
IsActive _ = Unit {0}

module _ {S : Type 0} where
  pub active_agrees : (opening : S) (st : Stage S) (known : Option S) → IsActive st → Agrees opening st known → known ≡ Some opening
  active_agrees opening Spent known a k = absurd a
  active_agrees opening (Making count) known a k = absurd a
  active_agrees opening Outside known a k = k
  active_agrees opening (Inside x) known a k = k
  active_agrees opening Delayed known a k = k

  pub within_active : (st : Stage S) → IsWithin st → IsActive st
  within_active Spent w = absurd w
  within_active (Making count) w = absurd w
  within_active Outside w = absurd w
  within_active (Inside x) w = tt
  within_active Delayed w = tt

module _ {S E : Type 0} where
  pub active_lines : (st : Stage S) (ls : List (Line E)) → IsActive st → lines_at st ls ≡ ls
  active_lines Spent ls a = absurd a
  active_lines (Making count) ls a = absurd a
  active_lines Outside ls a = refl
  active_lines (Inside x) ls a = refl
  active_lines Delayed ls a = refl

  module _ (waits : ℕ → S → Bool) (opening now : S) (lists : ℕ → List E) (owner : ℕ → ℕ) (made turn inside seat : ℕ) (v : View S E) (f : Fits waits opening now lists owner made turn inside seat v) where
    -- an active pass has its own line and those that it joined
    pub active_listed : IsActive v.stage → Each (IsLineOf lists owner made seat) (own_line v ∷ v.joined)
    active_listed a = subst (λ (ls : List (Line E)). Each (IsLineOf lists owner made seat) ls) (active_lines v.stage (own_line v ∷ v.joined) a) f.listed

    pub active_own : IsActive v.stage → IsLineOf lists owner made seat (own_line v)
    active_own a = (active_listed a).0

    stands_stay : (now' : S) (turn' inside' : ℕ) → (st : Stage S) → (IsActive st → waits v.number now' ≡ waits v.number now) → (turn ≡ 1 → seat ≡ inside → ⊥)
        → Stands waits now made turn inside seat v.number st → Stands waits now' made turn' inside' seat v.number st
    stands_stay now' turn' inside' Spent quiet apart k = tt
    stands_stay now' turn' inside' (Making count) quiet apart k = k
    stands_stay now' turn' inside' Outside quiet apart k = quiet tt ∙ k
    stands_stay now' turn' inside' (Inside x) quiet apart k = absurd (apart k.1 k.2)
    stands_stay now' turn' inside' Delayed quiet apart k = quiet tt ∙ k

    pub active_apart : IsActive v.stage → AreApart (own_line v ∷ v.joined)
    active_apart a = subst (λ (ls : List (Line E)). AreApart ls) (active_lines v.stage (own_line v ∷ v.joined) a) f.apart

    -- the view of another seat, where process p of seat `id` makes a step
    pub other_fits : (now' : S) (lists' : ℕ → List E) (turn' inside' id p : ℕ) → owner p ≡ id → seat ≢ id → ((q : ℕ) → q ≢ p → waits q now' ≡ waits q now) → ((q : ℕ) → q ≢ p → lists' q ≡ lists q)
        → (turn ≡ 1 → id ≡ inside) → Fits waits opening now' lists' owner made turn' inside' seat v
    other_fits now' lists' turn' inside' id p owns other quiet listed alone = record {
      agrees = f.agrees;
      stands = stands_stay now' turn' inside' v.stage (λ a. quiet v.number (λ e. other (sym (active_own a).owned ∙ (ap owner e ∙ owns)))) (λ one is. other (is ∙ sym (alone one))) f.stands;
      listed = each_map (IsLineOf lists owner made seat) (IsLineOf lists' owner made seat)
          (λ l k. record { has = listed l.number (λ e. other (sym k.owned ∙ (ap owner e ∙ owns))) ∙ k.has; owned = k.owned; low = k.low; high = k.high }) (lines v) f.listed;
      apart = f.apart;
    }

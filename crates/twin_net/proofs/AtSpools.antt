-- A call at one of the four spools is one at the four, and moves only its own.
use Rattle.std.proofs.Common.{◌≡◌, ℕ, List, Option, sym, subst, arith, ◌==◌, Bool, true, false, refl}
use Rattle.std.proofs.lemmas.Bool.{eqb-true}
use Rattle.solo_base.specs.declared.outcome.Side.{Side}
use Rattle.disk_spool.specs.Spool.{Spool}
use Rattle.batch_procs.specs.declared.actions.Reply.{Reply}
use Rattle.batch_procs.specs.Jobs.{Jobs}
use Rattle.net_core.specs.Shared.{Choice}
use Rattle.net_core.specs.Spools.{SpoolStands}
use Rattle.network_law.specs.Acts.{Visit}
use Rattle.twin_law.specs.Process.{Action}
use Rattle.twin_ends.specs.TwinCalls.{ReplySuits, TwinVisited}
use Rattle.twin_net.specs.declared.spools.TwinSpools.{TwinSpools}
use Rattle.twin_net.specs.FourSpools.{AtSpool, SpoolVisited}
use Rattle.twin_net.proofs.Failing.{same-least, four-on, AreaCounts}

-- ---- choices by a number
refused : (t : Bool) (X Y : Type 0) → t ≡ false → Choice t X Y → Y
refused false X Y e is = is
refused true X Y e is = absurd cc

differ : (t : Bool) (p m : ℕ) → (p == m) ≡ t → (p ≡ m → ⊥) → t ≡ false
differ true p m e never = absurd (never (eqb-true p m e))
differ false p m e never = refl

pub choice-rest : (p m : ℕ) (X Y : Type 0) → Choice (p == m) X Y → (p ≡ m → ⊥) → Y
choice-rest p m X Y is never = refused (p == m) X Y (differ (p == m) p m refl never) is

pub record IsLast (p m : ℕ) (X : Type 0) : Type 0 where
  pub is : X
  pub number : p ≡ m

last-by : (t : Bool) (p m : ℕ) (X : Type 0) → (p == m) ≡ t → Choice t X ⊥ → IsLast p m X
last-by true p m X e is = record { is = is; number = eqb-true p m e }
last-by false p m X e is = absurd is

pub choice-last : (p m : ℕ) (X : Type 0) → Choice (p == m) X ⊥ → IsLast p m X
choice-last p m X is = last-by (p == m) p m X refl is

-- the last of them has the number 5
pub last-number : {A : Type 0} (s : TwinSpools A) (b : ℕ) (Holds : Spool A → Type 0) → AtSpool s b Holds → (b ≡ 2 → ⊥) → (b ≡ 3 → ⊥) → (b ≡ 4 → ⊥)
    → IsLast b 5 (Holds s.from_b)
last-number s b Holds is two three four =
    choice-last b 5 (Holds s.from_b) (choice-rest b 4 (Holds s.from_a) _
    (choice-rest b 3 (Holds s.to_b) _ (choice-rest b 2 (Holds s.to_a) _ is two) three) four)

module _ {L A : Type 0} (J : Jobs L) (told_by : A → Option (List (List ℕ))) (faults : A → ℕ) (old : TwinSpools A) (new : Spool A) (side : Side)
    (visit : Visit) (p b : ℕ) (action : Action) (result : Option (Reply L)) where
  abbrev Visits : Spool A → Type 0
  Visits before = TwinVisited J (SpoolStands told_by) before new side visit p action result

  abbrev Counts : Spool A → Type 0
  Counts before = ReplySuits J action result → AreaCounts J faults before.area new.area result

  pub at-to_a : b ≡ 2 → Visits old.to_a → Counts old.to_a → SpoolVisited J told_by faults old (record old { to_a = new }) side visit p b action result
  at-to_a e v counts = subst (λ b. SpoolVisited J told_by faults old (record old { to_a = new }) side visit p b action result) (sym e) record {
    number = (omega arith, omega arith);
    suits = v.suits;
    fits = λ buffers st. v.fits (buffers 2) st.to_a;
    after = λ buffers st. record { to_a = v.after (buffers 2) st.to_a; to_b = st.to_b; from_a = st.from_a; from_b = st.from_b };
    failed = (counts v.suits).failed;
    counts = four-on faults old.to_a.area old.to_b.area old.from_a.area old.from_b.area new.area old.to_b.area old.from_a.area old.from_b.area
        ((counts v.suits).on) (same-least _) (same-least _) (same-least _);
  }

  pub at-to_b : b ≡ 3 → Visits old.to_b → Counts old.to_b → SpoolVisited J told_by faults old (record old { to_b = new }) side visit p b action result
  at-to_b e v counts = subst (λ b. SpoolVisited J told_by faults old (record old { to_b = new }) side visit p b action result) (sym e) record {
    number = (omega arith, omega arith);
    suits = v.suits;
    fits = λ buffers st. v.fits (buffers 3) st.to_b;
    after = λ buffers st. record { to_a = st.to_a; to_b = v.after (buffers 3) st.to_b; from_a = st.from_a; from_b = st.from_b };
    failed = (counts v.suits).failed;
    counts = four-on faults old.to_a.area old.to_b.area old.from_a.area old.from_b.area old.to_a.area new.area old.from_a.area old.from_b.area
        (same-least _) ((counts v.suits).on) (same-least _) (same-least _);
  }

  pub at-from_a : b ≡ 4 → Visits old.from_a → Counts old.from_a → SpoolVisited J told_by faults old (record old { from_a = new }) side visit p b action result
  at-from_a e v counts = subst (λ b. SpoolVisited J told_by faults old (record old { from_a = new }) side visit p b action result) (sym e) record {
    number = (omega arith, omega arith);
    suits = v.suits;
    fits = λ buffers st. v.fits (buffers 4) st.from_a;
    after = λ buffers st. record { to_a = st.to_a; to_b = st.to_b; from_a = v.after (buffers 4) st.from_a; from_b = st.from_b };
    failed = (counts v.suits).failed;
    counts = four-on faults old.to_a.area old.to_b.area old.from_a.area old.from_b.area old.to_a.area old.to_b.area new.area old.from_b.area
        (same-least _) (same-least _) ((counts v.suits).on) (same-least _);
  }

  pub at-from_b : b ≡ 5 → Visits old.from_b → Counts old.from_b → SpoolVisited J told_by faults old (record old { from_b = new }) side visit p b action result
  at-from_b e v counts = subst (λ b. SpoolVisited J told_by faults old (record old { from_b = new }) side visit p b action result) (sym e) record {
    number = (omega arith, omega arith);
    suits = v.suits;
    fits = λ buffers st. v.fits (buffers 5) st.from_b;
    after = λ buffers st. record { to_a = st.to_a; to_b = st.to_b; from_a = st.from_a; from_b = v.after (buffers 5) st.from_b };
    failed = (counts v.suits).failed;
    counts = four-on faults old.to_a.area old.to_b.area old.from_a.area old.from_b.area old.to_a.area old.to_b.area old.from_a.area new.area
        (same-least _) (same-least _) (same-least _) ((counts v.suits).on);
  }

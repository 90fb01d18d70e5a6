-- Of a network that is made no fault has to be counted.
use Rattle.std.proofs.Common.{◌≡◌, ◌≤◌, ◌<◌, ℕ, true, Option, None, refl, sym, ◌∙◌, ap, arith}
use Rattle.solo_base.specs.declared.outcome.Outcome.{Outcome}
use Rattle.solo_base.specs.declared.outcome.Outcome.TheVariants as outcome
use Rattle.solo_base.specs.declared.outcome.Cause.{Cause}
use Rattle.solo_devices.specs.Count.{raised}
use Rattle.batch_procs.specs.Jobs.{Jobs}
use Rattle.place_law.specs.Ending.{outcome_by}
use Rattle.twin_law.specs.Twin.{IsProcess}
use Rattle.twin_law.proofs.Lawful.{each-process}
use Rattle.twin_ends.specs.declared.units.TwinUnits.{TwinUnits}
use Rattle.twin_ends.specs.TwinTells.{TwinCounts}
use Rattle.twin_net.specs.declared.net.TwinNet.{TwinNet}
use Rattle.twin_net.specs.FourSpools.{of_four}
use Rattle.twin_net.specs.TwinStands.{shared_units}
use Rattle.twin_net.specs.Counted.{outcomes_now, CountedSoFar}
use Rattle.twin_net.specs.Ended.{twin_outcome_at, twin_all_done}
use Rattle.twin_net.proofs.Failing.{no-less}

pub free-done : (a b c d e f : Option Outcome) → a ≡ None → b ≡ None → c ≡ None → d ≡ None → e ≡ None → f ≡ None
    → record { card = outcome_by a; input = outcome_by b; job_a = outcome_by c; job_b = outcome_by d; output = outcome_by e; printer = outcome_by f }
    ≡ twin_all_done
free-done a b c d e f i j k l m n = rw (i, j, k, l, m, n) refl

module _ {L X S K F P : Type 0} (J : Jobs L) (counts : TwinCounts S K F P) (net : TwinNet X S K F P) (units : TwinUnits S K F P)
    (same : shared_units net.shared ≡ units) (sound : net.shared.sound ≡ true) (done : outcomes_now net ≡ twin_all_done) where
  on : (count : TwinUnits S K F P → ℕ) → count units ≤ count (shared_units net.shared)
  on count = no-less (count units) (count (shared_units net.shared)) (ap count same)

  no-fault : (p : ℕ) (c : Cause) → IsProcess p → twin_outcome_at (outcomes_now net) p ≡ outcome.Fault c → ⊥
  no-fault p c one e =
      let is : outcome.Done ≡ twin_outcome_at (outcomes_now net) p =
      sym (each-process J (λ p. twin_outcome_at twin_all_done p ≡ outcome.Done) p one refl refl refl refl refl refl)
      ∙ ap (λ outcomes. twin_outcome_at outcomes p) (sym done) in
      let both = is ∙ e in
      cc

  raised-none : (a b : ℕ) → a ≤ b → raised a 0 ≤ b
  raised-none a b on = omega (arith, on)

  both-ways : (before now limit : ℕ) → now ≡ before → before ≤ limit → limit < now → ⊥
  both-ways before now limit e few over = omega (arith, e, few, over)

  pub counted-first : CountedSoFar counts units net
  counted-first = record {
    faults = record {
      read = λ e. absurd (no-fault 1 _ (omega arith, omega arith) e);
      limit = λ e. absurd (no-fault 1 _ (omega arith, omega arith) e);
      longer = λ few over. absurd (both-ways _ _ _ (ap (λ (u : TwinUnits S K F P). counts.taken u.deck.source) same) few over);
      disk = record {
        met = λ p. None;
        own = λ p one e. absurd (no-fault p _ one e);
        spools = λ b is. raised-none _ _ (on (λ u. counts.page_faults (of_four u.to_a u.to_b u.from_a u.from_b b)));
        files = λ p e. absurd cc;
      };
      print = λ e. absurd (no-fault 6 _ (omega arith, omega arith) e);
      read_on = on (λ u. counts.read_faults u.deck.source);
      print_on = on (λ u. counts.print_faults u.paper.sink);
      files_on = on (λ u. counts.file_faults u.files);
      spools_on = λ b. on (λ u. counts.page_faults (of_four u.to_a u.to_b u.from_a u.from_b b));
    };
    unsound = λ unsound. absurd (let never = sym sound ∙ unsound in cc);
  }

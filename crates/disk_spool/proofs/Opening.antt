-- A spool at its opening is tied to no calls.
use Rattle.std.proofs.Common.{◌≡◌, ℕ, false, List, [], Option, Some, refl, subst, sym, arith}
use Rattle.solo_base.specs.declared.outcome.Side.{Side}
use Rattle.solo_base.specs.declared.outcome.Side.TheVariants.{Sender, Receiver}
use Rattle.queue_var.specs.Sides.{nobody, queue}
use Rattle.queue_var.specs.BetweenTwo.{process_at}
use Rattle.disk_spool.specs.declared.call.SpoolCall.{SpoolCall}
use Rattle.disk_spool.specs.Spool.{Spool, StandsFor, empty_spool}
use Rattle.disk_spool.specs.Calls.{IsTied}

module _ {A : Type 0} (told_by : A → Option (List (List ℕ))) (faults : A → ℕ) where
  empty-tied : (area : A) (size : ℕ) → StandsFor told_by [] [] [] (empty_spool area size) → IsTied told_by faults size area (λ side. []) (empty_spool area size)
  empty-tied area size stands = record {
    stops = [];
    stands = stands;
    sides = record {
      between = record { in_place = nobody-at; running = λ side p e. absurd (nobody-waits side p e) };
      stopped = λ side. refl;
      told = λ side e. absurd cc;
    };
    nothing_left = λ e. absurd cc;
    area = record { later = omega arith; failed = λ side e. absurd cc; untouched = λ none. refl };
    tells = λ told. told;
    ready = λ side e. absurd cc;
    capacity = refl;
    found = record { rooms = tt; finds = tt };
  } where
    nobody-waits : (side : Side) (p : ℕ) → queue nobody side ≡ Some p → ⊥
    nobody-waits Sender p e = cc
    nobody-waits Receiver p e = cc

    nobody-at : (side : Side) (p : ℕ) → queue nobody side ≡ Some p → p ≡ process_at side
    nobody-at side p e = absurd (nobody-waits side p e)

  pub opening-tied : (spool : Spool A) (area : A) (size : ℕ) → spool ≡ empty_spool area size → StandsFor told_by [] [] [] spool
      → IsTied told_by faults spool.ring.capacity spool.area (λ side. []) spool
  opening-tied spool area size e stands =
      subst (λ spool. IsTied told_by faults spool.ring.capacity spool.area (λ side. []) spool) (sym e)
      (empty-tied area size (subst (StandsFor told_by [] [] []) e stands))

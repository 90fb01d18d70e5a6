-- Where a process of Solo waits, and what it then lacks.
use Rattle.std.proofs.Common.{◌≡◌, ◌⊎◌, inl, inr, ℕ, ◌+◌, Bool, List, [], length, sym, ◌∙◌, ap, subst}
use Rattle.solo_base.specs.declared.outcome.Side.{Side}
use Rattle.solo_base.specs.declared.outcome.Side.TheVariants.{Sender, Receiver}
use Rattle.queue_var.specs.HandsOver.{Lacks}
use Rattle.network_law.specs.Acts.{At, Visit, Passes}
use Rattle.network_law.proofs.KeepsQueues.{at-number, at-side}
use Rattle.exchange_law.specs.Phases.{trues, falses, Phase, Idle, Moving, Reporting, Left}
use Rattle.exchange_law.specs.Meeting.{AsksWaits, ServesWaits}
use Rattle.exchange_law.proofs.Marks.{split-length}
use Rattle.solo_law.specs.Buffers.{call}
use Rattle.solo_law.specs.InputPlaces.{InputPlace, input_does}
use Rattle.solo_law.specs.InputPlaces as input_at
use Rattle.solo_law.specs.OutputPlaces.{OutputPlace, output_does}
use Rattle.solo_law.specs.OutputPlaces as output_at
use Rattle.solo_law.specs.JobPlaces.{JobPlace, job_does}
use Rattle.solo_law.specs.JobPlaces as at
use Rattle.solo_law.proofs.InputPhases.{input_phase}
use Rattle.solo_law.proofs.OutputPhases.{output_phase}
use Rattle.solo_law.proofs.JobPhases.{in_phase, out_phase}

-- the marks inside the buffers, by their numbers
abbrev pub LacksAt : (ℕ → List Bool) → ℕ → Side → Type 0
LacksAt marks b side = Lacks 1 (marks b) side

lacks-at : (marks : ℕ → List Bool) (b c : ℕ) (side of : Side) (visit : Visit) → At b side Passes ≡ At c of visit → LacksAt marks c of → LacksAt marks b side
lacks-at marks b c side of visit e lacks =
    subst (λ b. LacksAt marks b side) (sym (at-number b c side of Passes visit e))
    (subst (λ side. LacksAt marks c side) (sym (at-side b c side of Passes visit e)) lacks)

-- ---- what is lacking, as numbers
full : (ms : List Bool) → length ms ≡ 1 → falses ms + trues ms ≡ 1
full ms e = sym (split-length ms) ∙ e

none-in : (ms : List Bool) → ms ≡ [] → falses ms + trues ms ≡ 0
none-in ms e = ap (λ ms. falses ms + trues ms) e

-- ---- the buffers of an exchange
abbrev pub IsOf : ℕ → ℕ → ℕ → ℕ → Type 0
IsOf a q r b = (b ≡ a) ⊎ ((b ≡ q) ⊎ (b ≡ r))

-- who orders waits there, at one of these buffers
pub record AsksAt (marks : ℕ → List Bool) (a q r empty : ℕ) (phase : Phase) (b : ℕ) : Type 0 where
  pub of : IsOf a q r b
  pub waits : AsksWaits phase (falses (marks a)) (trues (marks a)) (length (marks q)) (length (marks r)) empty

pub record ServesAt (marks : ℕ → List Bool) (a q r full : ℕ) (phase : Phase) (b : ℕ) : Type 0 where
  pub of : IsOf a q r b
  pub waits : ServesWaits phase (falses (marks a)) (trues (marks a)) (length (marks q)) (length (marks r)) full
  pub not_left : phase ≡ Left → ⊥

idle-left : Idle ≡ Left → ⊥
idle-left e = cc

moving-left : Moving ≡ Left → ⊥
moving-left e = cc

reporting-left : Reporting ≡ Left → ⊥
reporting-left e = cc

module _ (marks : ℕ → List Bool) (b : ℕ) (side : Side) (visit : Visit) (lacks : LacksAt marks b side) where
  -- it waits at this buffer, and what it lacks is lacking there
  found : (n : ℕ) (of : Side) → At n of Passes ≡ At b side visit → (b ≡ n) × LacksAt marks n of
  found n of e = (sym (at-number n b of side Passes visit e), lacks-at marks n b of side visit e lacks)

  pub input-waits : (a : InputPlace) → call 1 (input_does a) ≡ At b side visit → ServesAt marks 1 2 3 1 (input_phase a) b
  input-waits input_at.AwaitsOrder e =
      record { of = inl (found 1 Receiver e).0; waits = none-in (marks 1) (found 1 Receiver e).1; not_left = idle-left }
  input-waits (input_at.Reads pages hand sound) e = absurd cc
  input-waits (input_at.PutsFull page pages hand) e = record { of = inr (inl (found 2 Sender e).0); waits = (found 2 Sender e).1; not_left = moving-left }
  input-waits (input_at.PutsLast page sound) e = record { of = inr (inl (found 2 Sender e).0); waits = (found 2 Sender e).1; not_left = moving-left }
  input-waits (input_at.Reports sound) e = record { of = inr (inr (found 3 Sender e).0); waits = (found 3 Sender e).1; not_left = reporting-left }
  input-waits input_at.IsOver e = absurd cc

  pub output-waits : (a : OutputPlace) → call 3 (output_does a) ≡ At b side visit → ServesAt marks 4 5 6 0 (output_phase a) b
  output-waits output_at.AwaitsPrinting e =
      record { of = inl (found 4 Receiver e).0; waits = none-in (marks 4) (found 4 Receiver e).1; not_left = idle-left }
  output-waits (output_at.TakesPage pages) e =
      record { of = inr (inl (found 5 Receiver e).0); waits = ap length (found 5 Receiver e).1; not_left = moving-left }
  output-waits (output_at.PrintsLine line later last pages) e = absurd cc
  output-waits output_at.ReportsPrinted e = record { of = inr (inr (found 6 Sender e).0); waits = (found 6 Sender e).1; not_left = reporting-left }
  output-waits output_at.IsDone e = absurd cc

  -- the job process waits for the input process, or for the output process
  abbrev pub JobWaits : JobPlace → Type 0
  JobWaits a = AsksAt marks 1 2 3 0 (in_phase a) b ⊎ AsksAt marks 4 5 6 1 (out_phase a) b

  pub job-waits : (a : JobPlace) → call 2 (job_does a) ≡ At b side visit → JobWaits a
  job-waits at.Listens e = absurd cc
  job-waits (at.Toils work) e = absurd cc
  job-waits (at.OrdersCards pages) e = inl record {
    of = inl (found 1 Sender e).0;
    waits = full (marks 1) (found 1 Sender e).1;
  }
  job-waits (at.TakesCards taken items pages) e = inl record {
    of = inr (inl (found 2 Receiver e).0);
    waits = ap length (found 2 Receiver e).1;
  }
  job-waits (at.TakesReport items pages) e = inl record {
    of = inr (inr (found 3 Receiver e).0);
    waits = ap length (found 3 Receiver e).1;
  }
  job-waits (at.Accepts pages) e = absurd cc
  job-waits (at.Displays line pages) e = absurd cc
  job-waits (at.OrdersPrinter page behind) e = inr record {
    of = inl (found 4 Sender e).0;
    waits = full (marks 4) (found 4 Sender e).1;
  }
  job-waits (at.PutsPage page behind pages) e = inr record {
    of = inr (inl (found 5 Sender e).0);
    waits = (found 5 Sender e).1;
  }
  job-waits (at.TakesPrinted lines) e = inr record {
    of = inr (inr (found 6 Receiver e).0);
    waits = ap length (found 6 Receiver e).1;
  }
  job-waits (at.AnswersLine line later) e = absurd cc
  job-waits at.DismissesInput e = inl record {
    of = inl (found 1 Sender e).0;
    waits = full (marks 1) (found 1 Sender e).1;
  }
  job-waits at.DismissesOutput e = inr record {
    of = inl (found 4 Sender e).0;
    waits = full (marks 4) (found 4 Sender e).1;
  }
  job-waits at.HasLeft e = absurd cc

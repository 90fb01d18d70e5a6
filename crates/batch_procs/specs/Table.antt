-- The five processes and their buffers, by their numbers.
use Rattle.std.specs.Prelude.{ℕ, ◌==◌, true, false, if◌then◌else◌, List, [], ◌∷◌}
use Rattle.batch_procs.specs.declared.actions.Action.TheVariants as act
use Rattle.batch_procs.specs.Jobs.{Jobs}
use Rattle.batch_procs.specs.Parcels.{Parcel}
use Rattle.batch_procs.specs.Process.{Process}
use Rattle.batch_procs.specs.Sends.{card_sends, input_sends, job_sends, job_wants, output_sends, printer_sends}

-- no file is wanted
abbrev pub no_wants : {L : Type 0} → List (Parcel L) → List (List ℕ)
no_wants taken = []

-- cards of the deck to the line buffer 1
abbrev pub card : {L : Type 0} → Process L
card = record {
  takes = act.ReadCard;
  sends = card_sends;
  works = false;
  wants = no_wants;
  buffers = 1 ∷ [];
}

-- the line buffer 1 to pages of the spool 2
abbrev pub input : {L : Type 0} → Process L
input = record {
  takes = act.TakeFeed;
  sends = input_sends;
  works = false;
  wants = no_wants;
  buffers = 1 ∷ 2 ∷ [];
}

-- pages of the spool 2 to pages of the spool 3; it works on each page that it took, once the files of its
-- jobs are loaded
abbrev pub job : {L : Type 0} → Jobs L → Process L
job J = record {
  takes = act.TakePage;
  sends = job_sends J;
  works = true;
  wants = job_wants J;
  buffers = 2 ∷ 3 ∷ [];
}

-- pages of the spool 3 to the line buffer 4
abbrev pub output : {L : Type 0} → Process L
output = record {
  takes = act.TakePage;
  sends = output_sends;
  works = false;
  wants = no_wants;
  buffers = 3 ∷ 4 ∷ [];
}

-- the line buffer 4 to the paper
abbrev pub printer : {L : Type 0} → Process L
printer = record {
  takes = act.TakeFeed;
  sends = printer_sends;
  works = false;
  wants = no_wants;
  buffers = 4 ∷ [];
}

-- no process has another number
abbrev pub nobody : {L : Type 0} → Process L
nobody = record {
  takes = act.TakePage;
  sends = λ taken. [];
  works = false;
  wants = no_wants;
  buffers = [];
}

-- the process of a number
abbrev pub process : {L : Type 0} → Jobs L → ℕ → Process L
process J p =
    if p == 1 then card
    else if p == 2 then input
    else if p == 3 then job J
    else if p == 4 then output
    else if p == 5 then printer
    else nobody

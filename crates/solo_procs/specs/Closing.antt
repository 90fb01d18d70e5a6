-- A law.
-- How each of the three closes down.
use Rattle.std.proofs.Common.{lit<, ◌≡◌, ℕ, false, None, refl}
use Rattle.solo_law.specs.Actions.{Reply}
use Rattle.solo_law.specs.Actions as act
use Rattle.solo_law.specs.Buffers.{call}
use Rattle.place_law.specs.Process.{stops_by}
use Rattle.solo_law.specs.InputPlaces.{input, InputPlace, input_does, AwaitsOrder, Reads, PutsFull, PutsLast, Reports, IsOver}
use Rattle.solo_law.specs.OutputPlaces.{output, OutputPlace, output_does, output_finds, AwaitsPrinting, TakesPage, PrintsLine, ReportsPrinted, IsDone}
use Rattle.solo_law.specs.JobPlaces.{job, JobPlace, job_does, job_finds, Listens, Toils, OrdersCards, TakesCards, TakesReport, Accepts, Displays, OrdersPrinter, PutsPage, TakesPrinted, AnswersLine, DismissesInput, DismissesOutput, HasLeft}
use Rattle.solo_procs.specs.Machine.{ClosesDown, IsNoPage}

input-goes_on : (b : ℕ) (at : InputPlace) → stops_by b (call 1 (input_does at)) ≡ false
input-goes_on b AwaitsOrder = refl
input-goes_on b (Reads pages hand sound) = refl
input-goes_on b (PutsFull page pages hand) = refl
input-goes_on b (PutsLast page sound) = refl
input-goes_on b (Reports sound) = refl
input-goes_on b IsOver = refl

pub input-closes : ClosesDown input
input-closes = record {
  ascending = ((lit< tt, (lit< tt, tt)), ((lit< tt, tt), (tt, tt)));
  few = lit< tt;
  stops = λ b c. refl;
  goes_on = input-goes_on;
  ends = λ b how. refl;
  in_pages = λ at answer not. refl;
}

output-goes_on : (b : ℕ) (at : OutputPlace) → stops_by b (call 3 (output_does at)) ≡ false
output-goes_on b AwaitsPrinting = refl
output-goes_on b (TakesPage pages) = refl
output-goes_on b (PrintsLine line later last pages) = refl
output-goes_on b ReportsPrinted = refl
output-goes_on b IsDone = refl

output-in_pages : (at : OutputPlace) (answer : Reply) → IsNoPage answer → output_finds at answer ≡ None
output-in_pages (TakesPage pages) (act.OfPage page) not = absurd not
output-in_pages (TakesPage pages) other not = refl
output-in_pages other answer not = refl

pub output-closes : ClosesDown output
output-closes = record {
  ascending = ((lit< tt, (lit< tt, tt)), ((lit< tt, tt), (tt, tt)));
  few = lit< tt;
  stops = λ b c. refl;
  goes_on = output-goes_on;
  ends = λ b how. refl;
  in_pages = output-in_pages;
}

job-goes_on : (b : ℕ) (at : JobPlace) → stops_by b (call 2 (job_does at)) ≡ false
job-goes_on b Listens = refl
job-goes_on b (Toils work) = refl
job-goes_on b (OrdersCards pages) = refl
job-goes_on b (TakesCards taken items pages) = refl
job-goes_on b (TakesReport items pages) = refl
job-goes_on b (Accepts pages) = refl
job-goes_on b (Displays line pages) = refl
job-goes_on b (OrdersPrinter page behind) = refl
job-goes_on b (PutsPage page behind pages) = refl
job-goes_on b (TakesPrinted lines) = refl
job-goes_on b (AnswersLine line later) = refl
job-goes_on b DismissesInput = refl
job-goes_on b DismissesOutput = refl
job-goes_on b HasLeft = refl

job-in_pages : (at : JobPlace) (answer : Reply) → IsNoPage answer → job_finds at answer ≡ None
job-in_pages (TakesCards taken items pages) (act.OfPage page) not = absurd not
job-in_pages (TakesCards taken items pages) other not = refl
job-in_pages other answer not = refl

pub job-closes : ClosesDown job
job-closes = record {
  ascending = (
    (lit< tt, (lit< tt, (lit< tt, (lit< tt, (lit< tt, tt))))),
    (
      (lit< tt, (lit< tt, (lit< tt, (lit< tt, tt)))),
      ((lit< tt, (lit< tt, (lit< tt, tt))), ((lit< tt, (lit< tt, tt)), ((lit< tt, tt), (tt, tt)))),
    ),
  );
  few = lit< tt;
  stops = λ b c. refl;
  goes_on = job-goes_on;
  ends = λ b how. refl;
  in_pages = job-in_pages;
}

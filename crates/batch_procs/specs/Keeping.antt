-- What the work of each process keeps, of what was taken and put and of whether there is work to do.
use Rattle.std.specs.Prelude.{Bool, List, option_to_list}
use Rattle.batch_procs.specs.declared.card_proc.CardWork.{CardWork}
use Rattle.batch_procs.specs.declared.input_proc.InputWork.{InputWork}
use Rattle.batch_procs.specs.declared.job_proc.JobProcWork.{JobProcWork}
use Rattle.batch_procs.specs.declared.output_proc.OutputWork.{OutputWork}
use Rattle.batch_procs.specs.declared.printer_proc.PrinterWork.{PrinterWork}
use Rattle.page_codec.specs.Reading.{items_left}
use Rattle.batch_procs.specs.Jobs.{Jobs}
use Rattle.batch_procs.specs.JobTold.{JobTold}
use Rattle.batch_procs.specs.Parcels.{Parcel}
use Rattle.batch_procs.specs.Sends.{as_parcels, as_lines, marked}
use Rattle.batch_procs.specs.Table.{card, printer}
use Rattle.batch_procs.specs.Due.{KeepsDue, KeepsInput}
use Rattle.batch_procs.specs.Pages.{lines_left, KeepsOutput}
use Rattle.batch_procs.specs.KeepsJob.{KeepsJob}

abbrev pub card_keeps : {L : Type 0} → CardWork → List (Parcel L) → List (Parcel L) → Bool → Type 0
card_keeps work = KeepsDue card (as_parcels (option_to_list work.due)) work.ended

abbrev pub input_keeps : {L : Type 0} → InputWork → List (Parcel L) → List (Parcel L) → Bool → Type 0
input_keeps work = KeepsInput (marked work.ended (option_to_list work.due)) work.ended work.packer

-- by what its work on jobs keeps
abbrev pub job_keeps : {L X : Type 0} → Jobs L → (X → JobTold L → Type 0) → JobProcWork X
    → List (Parcel L) → List (Parcel L) → Bool → Type 0
job_keeps J keeps work = KeepsJob J (keeps work.jobs) work.pages work.packer work.due work.unworked

abbrev pub output_keeps : {L : Type 0} → OutputWork → List (Parcel L) → List (Parcel L) → Bool → Type 0
output_keeps work = KeepsOutput work.pages work.due (lines_left (items_left work.items) work.ending)

abbrev pub printer_keeps : {L : Type 0} → PrinterWork → List (Parcel L) → List (Parcel L) → Bool → Type 0
printer_keeps work = KeepsDue printer (as_lines (option_to_list work.due)) work.ended

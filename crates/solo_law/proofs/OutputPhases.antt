-- How far the output process is in its exchange with the job process, by its place.
use Rattle.std.proofs.Common.{◌≡◌, ℕ, ◌+◌, Bool, true, false, List, [], ◌∷◌, length, None, refl}
use Rattle.solo_base.specs.declared.outcome.Side.TheVariants.{Sender, Receiver}
use Rattle.solo_base.specs.declared.system_call.Arg.TheVariants as arg
use Rattle.network_law.specs.Network.{Follows, acts}
use Rattle.exchange_law.specs.Pages.{is_last, page_gives, items_read, lines_of}
use Rattle.exchange_law.specs.Parcels.{mark}
use Rattle.exchange_law.specs.Phases.{trues, falses, Phase, Idle, Moving, Reporting, Left, PhaseIs, phase_behind}
use Rattle.exchange_law.proofs.Counted.{marks_at, marks_by}
use Rattle.solo_law.proofs.Counted.{counted}
use Rattle.exchange_law.proofs.Phases.{stays, orders, dismisses, reports, moves, as_phase}
use Rattle.place_law.specs.Process.{place, caused, given_cause}
use Rattle.solo_law.specs.Actions.{Reply}
use Rattle.solo_law.specs.Actions as act
use Rattle.solo_law.specs.Buffers.{call, went_by}
use Rattle.solo_law.specs.Replies.{Fits, view}
use Rattle.solo_law.specs.OutputPlaces.{OutputPlace, output_does, output_behind, prints, output}
use Rattle.solo_law.specs.OutputPlaces as at
use Rattle.solo_law.specs.Solo.{table, solo, SoloEntry}
use Rattle.solo_law.proofs.Nones.{no-some}

abbrev pub output_phase : OutputPlace → Phase
output_phase at.AwaitsPrinting = Idle
output_phase (at.TakesPage pages) = Moving
output_phase (at.PrintsLine line later last pages) = phase_behind last
output_phase at.ReportsPrinted = Reporting
output_phase at.IsDone = Left

abbrev pub OutputIs : OutputPlace → ℕ → ℕ → ℕ → ℕ → Type 0
OutputIs a o d l n = PhaseIs (output_phase a) o d l n

prints-phase : (lines : List (List ℕ)) (last : Bool) (pages : ℕ) → phase_behind last ≡ output_phase (prints lines last pages)
prints-phase [] true pages = refl
prints-phase [] false pages = refl
prints-phase (line ∷ later) last pages = refl

output-step : (a : OutputPlace) (reply : Reply) (o d l n : ℕ) → Fits (output_does a) reply → given_cause view output a (output_does a) reply ≡ None
    → OutputIs a o d l n → OutputIs (output_behind a reply) (o + falses (marks_by mark 4 Receiver (call 3 (output_does a)) (went_by (output_does a) reply)))
    (d + trues (marks_by mark 4 Receiver (call 3 (output_does a)) (went_by (output_does a) reply)))
    (l + trues (marks_by mark 5 Receiver (call 3 (output_does a)) (went_by (output_does a) reply)))
    (n + length (marks_by mark 6 Sender (call 3 (output_does a)) (went_by (output_does a) reply)))
output-step at.AwaitsPrinting (act.OfArg arg.Nil) o d l n fits free is = dismisses o d l n is
output-step at.AwaitsPrinting (act.OfArg other) o d l n fits free is = orders o d l n is
output-step at.AwaitsPrinting act.Stopped o d l n fits free is = absurd (no-some free)
output-step (at.TakesPage pages) (act.OfPage page) o d l n fits free is =
    as_phase (phase_behind (is_last page)) (output_phase (prints (lines_of (items_read (page_gives pages page))) (is_last page) (pages + 1))) (o + 0) (d + 0)
    (l + trues (is_last page ∷ [])) (n + 0) (prints-phase (lines_of (items_read (page_gives pages page))) (is_last page) (pages + 1))
    (moves (is_last page) o d l n is)
output-step (at.TakesPage pages) act.Stopped o d l n fits free is = absurd (no-some free)
output-step (at.PrintsLine line later last pages) act.Done o d l n fits free is =
    as_phase (phase_behind last) (output_phase (prints later last pages)) (o + 0) (d + 0) (l + 0) (n + 0) (prints-phase later last pages)
    (stays (phase_behind last) o d l n is)
output-step (at.PrintsLine line later last pages) act.Failed o d l n fits free is = absurd (no-some free)
output-step (at.PrintsLine line later last pages) act.NoMemory o d l n fits free is = absurd (no-some free)
output-step at.ReportsPrinted act.Done o d l n fits free is = reports o d l n is
output-step at.ReportsPrinted act.Stopped o d l n fits free is = absurd (no-some free)
output-step at.IsDone act.Done o d l n fits free is = stays Left o d l n is
output-step a reply o d l n fits free is = absurd fits

pub output-stands : (h : List SoloEntry) → Follows solo 3 h → caused view output h ≡ None
    → OutputIs (place output h) (falses (marks_at mark 4 Receiver (acts solo 3 h))) (trues (marks_at mark 4 Receiver (acts solo 3 h)))
    (trues (marks_at mark 5 Receiver (acts solo 3 h))) (length (marks_at mark 6 Sender (acts solo 3 h)))
output-stands h follows none = counted table 3 4 5 6 Receiver Receiver Sender OutputIs (refl, refl, refl) output-step h follows none

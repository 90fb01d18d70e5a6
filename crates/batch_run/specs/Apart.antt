-- How the five ended, apart from the gates that they were at.
use Rattle.std.specs.Prelude.{◌≡◌}
use Rattle.batch_sides.specs.declared.row.RowEnded.{RowEnded}
use Rattle.batch_run.specs.declared.batch.Parted.{Parted}

-- These are the outcomes, the ends and the devices of the five.
pub record IsParted {S K F A B : Type 0} (ended : RowEnded S K F A B)
    (parted : Parted S K F A B) : Type 0 where
  pub card : parted.outcomes.card ≡ ended.cards.1
  pub input : parted.outcomes.input ≡ ended.pages.1
  pub job : parted.outcomes.job ≡ ended.jobs.1
  pub output : parted.outcomes.output ≡ ended.lines.1
  pub printer : parted.outcomes.printer ≡ ended.paper.1
  pub deck : parted.deck ≡ ended.cards.0.deck
  pub paper : parted.paper ≡ ended.paper.0.paper
  pub files : parted.files ≡ ended.jobs.0.files
  pub cards_sender : parted.ends.cards.0 ≡ ended.cards.0.lines
  pub cards_receiver : parted.ends.cards.1 ≡ ended.pages.0.cards
  pub input_sender : parted.ends.input.0 ≡ ended.pages.0.pages
  pub input_receiver : parted.ends.input.1 ≡ ended.jobs.0.cards
  pub output_sender : parted.ends.output.0 ≡ ended.jobs.0.pages
  pub output_receiver : parted.ends.output.1 ≡ ended.lines.0.pages
  pub lines_sender : parted.ends.lines.0 ≡ ended.lines.0.lines
  pub lines_receiver : parted.ends.lines.1 ≡ ended.paper.0.lines
  pub input_seat : parted.ends.seats.input ≡ ended.pages.0.seat
  pub job_seat : parted.ends.seats.job ≡ ended.jobs.0.seat
  pub output_seat : parted.ends.seats.output ≡ ended.lines.0.seat

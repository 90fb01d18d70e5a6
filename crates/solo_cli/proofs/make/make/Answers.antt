use Rattle.std.proofs.Common.{◌≡◌, drop, length, Err, Some, inl, inr, refl, sym, ◌∙◌, ap, subst}
use Rattle.solo_base.specs.Card.{cards}
use Rattle.solo_base.specs.Text.{text}
use Rattle.solo_devices.specs.Count.{raised}
use Rattle.deck_format.specs.Jobs.{jobs}
use Rattle.batch_job.specs.OneThread.{one_thread_output}
use Rattle.batch_job.proofs.ReportLines.{report-lines}
use Rattle.made_deck.specs.MadeDeck.{made_deck}
use Rattle.page_codec.proofs.CardItems.{card-items}
use Rattle.run_report.specs.Told.{area_told, sink_told, source_told}
use Rattle.solo_cli.specs.DeckNumbers.{characters_of, deck_lines, five_lines}
use Rattle.solo_cli.specs.Printing.{PrintsBytes}
use Rattle.solo_cli.proofs.MadeRuns.{made-ran, never-rose, within-limit}
use Rattle.solo_cli.proofs.Mounted.{IsMounted, core-on}
use Rattle.solo_cli.proofs.Unmounted.{not-mounted, unbegun-make}
use Rattle.solo_cli.proofs.make.make.Goals as goal

pub mount-requires : goal.mount-requires
mount-requires g c = c.requires.ready.files

pub run_numbered-ran-requires-clause-ready : goal.run_numbered-ran-requires-clause-ready
run_numbered-ran-requires-clause-ready g c = record {
  deck = c.new-source.ensures.taken;
  files = c.in-Ok.ensures.size ∙ c.requires.ready.files;
  input = c.requires.ready.input;
  output = c.requires.ready.output;
}

pub returns-in-Ok-deck_of : goal.returns-in-Ok-deck_of
returns-in-Ok-deck_of g c =
    let m = c.in-Ok.ensures in
    let made = c.in-Ok-deck_of.ensures in
    let p = c.print_numbers-cause.ensures in
    let a = c.args in
    let ran = c.run_numbered-ran.result.0 in
    let counts = c.run_numbered-ran.result.1 in
    let source = c.new-source.result in
    let now = ran.1 in
    let mounted : IsMounted (area_told g.F.Area a.files) (area_told g.F.Area c.in-Ok.files.area)
    = record { left = m.left; size = m.size; later = m.cause.later; solo = m.judged } in
    let r = core-on mounted c.run_numbered-ran.ensures in
    made-ran a.number mounted (source_told g.S.Source a.deck)
    (sink_told g.K.Sink a.paper) record {
      left = c.new-source.ensures.left ∙ ap Some made.deck;
      clean = c.new-sink.ensures.given;
      read = never-rose;
      limit = within-limit (raised now.taken 0) (raised source.taken 0) (drop now.taken now.bytes) (drop source.taken source.bytes)
          c.in-Ok-deck_of.made.items r.ran.total c.new-source.ensures.taken c.new-source.ensures.left made.short;
      print = never-rose;
    } c.requires.ready (sink_told g.K.Sink c.print_numbers-cause.result.1) ran.0 r p.fault p.known p.failed
    (λ none found printed.
    let lines = one_thread_output found (made_deck a.number) in
    let same : five_lines c.in-Ok-deck_of.numbers.jobs c.in-Ok-deck_of.numbers.cards (length lines) (characters_of lines) counts
    ≡ deck_lines found (made_deck a.number) counts
    = rw (made.jobs ∙ ap (λ deck. length (jobs (cards deck))) made.deck, made.cards ∙ ap (λ deck. length (cards deck)) made.deck) refl in
    subst (λ lines. PrintsBytes (sink_told g.K.Sink a.paper) (sink_told g.K.Sink c.print_numbers-cause.result.1) (text lines)
    c.print_numbers-cause.result.0) same
    (p.prints none lines (report-lines found (cards (made_deck a.number)) (card-items (made_deck a.number))) printed))

pub returns-in-Err-deck_of : goal.returns-in-Err-deck_of
returns-in-Err-deck_of g c =
    unbegun-make record {
      untouched = record { deck = refl; paper = refl; input = refl; output = refl };
      left = ap g.F.Area.pages c.into_inner.ensures.area ∙ c.in-Ok.ensures.left;
      size = c.into_inner.ensures.size ∙ sym c.requires.ready.files;
      why = inr (inl refl);
    } c.args.number c.requires.ready

pub returns-in-Err : goal.returns-in-Err
returns-in-Err g c =
    let e = c.in-Err.ensures in
    unbegun-make (not-mounted c.in-Err.fault c.of_mount.ensures e.refusals e.judged e.left e.size (λ is. e.cause.cause (ap Err is))) c.args.number c.requires.ready

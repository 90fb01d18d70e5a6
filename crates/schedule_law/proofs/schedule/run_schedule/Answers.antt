use Rattle.solo_devices.specs.CardUnit.{items_ahead}
use Rattle.core_law.specs.Opening.{Opening}
use Rattle.core_law.proofs.Law.{opening-reached}
use Rattle.batch_ends.specs.Openings.{spools_over}
use Rattle.batch_ends.proofs.ToldCards.{told-cards}
use Rattle.schedule_law.proofs.TheCounts.{where-done, where-none_counted}
use Rattle.schedule_law.proofs.schedule.run_schedule.Goals as goal

pub returns : goal.returns
returns g c =
    let o : Opening g.J.HasJobs.jobs
    = record {
      spools = spools_over (g.A.Area.size c.args.units.input) (g.A.Area.pages c.args.units.input)
          (g.B.Area.size c.args.units.output) (g.B.Area.pages c.args.units.output);
      deck = items_ahead (g.S.Source.left c.args.units.deck.source) c.args.units.deck.pending;
      paper = g.K.Sink.given c.args.units.paper.sink;
      files = g.F.Loader.found c.args.units.files;
      bounds = record {
        input_some = c.requires.input.0;
        input_most = c.requires.input.1;
        output_some = c.requires.output.0;
        output_most = c.requires.output.1;
      };
      cards = told-cards (g.S.Source.left c.args.units.deck.source) c.args.units.deck.pending;
      good = g.met.F.Loader.are_loads c.args.units.files;
    } in
    record {
      runs = c.run_core.ensures.runs;
      done = λ items is known told.
          where-done g.J.HasJobs.are_jobs o _ (opening-reached g.J.HasJobs.are_jobs o)
          record { spools = told; items = items; deck = is; files = known } c.run_core.ensures.runs;
      uncounted = λ items is known told.
          where-none_counted g.J.HasJobs.are_jobs o _ (opening-reached g.J.HasJobs.are_jobs o)
          record { spools = told; items = items; deck = is; files = known } c.run_core.ensures.runs c.run_core.ensures.counted;
    }

use Rattle.std.proofs.Common.{◌≤◌, refl, sym, subst, ◌∙◌, ap}
use Rattle.solo_devices.specs.CardUnit.{items_ahead}
use Rattle.batch_ends.specs.Openings.{spools_over}
use Rattle.batch_ends.specs.Devices.{cards_left}
use Rattle.batch_ends.specs.declared.units.Units.{Units}
use Rattle.batch_ends.proofs.ToldCards.{told-cards}
use Rattle.net_core.proofs.FaultsCounted.{made-counted}
use Rattle.net_core.proofs.Within.{opening-within, fresh-few}
use Rattle.net_core.proofs.net.Net.make.Goals as goal

pub make-requires : goal.make-requires
make-requires g c = record {
  deck = c.requires.deck.0;
  paper = c.requires.paper;
  input = c.requires.input;
  output = c.requires.output;
}

pub returns-clause-opens : goal.returns-clause-opens
returns-clause-opens g c = record {
  bounds = record {
    input_some = c.requires.input.0;
    input_most = c.requires.input.1;
    output_some = c.requires.output.0;
    output_most = c.requires.output.1;
  };
  cards = told-cards (g.S.Source.left c.args.units.deck.source) c.args.units.deck.pending;
  good = g.met.F.Loader.are_loads c.args.units.files;
  stands = record {
    is = record {
      card = c.new.ensures;
      input = c.new-2.ensures;
      job = c.new-3.ensures;
      output = c.new-4.ensures;
      printer = c.new-5.ensures;
      shared = c.make.ensures.stands;
      deck_live = λ free. ap (λ (u : Units _ _ _ _ _). u.deck.live) c.make.ensures.units ∙ c.requires.deck.0;
      paper_live = λ free. ap (λ (u : Units _ _ _ _ _). u.paper.live) c.make.ensures.units ∙ c.requires.paper;
      files_sound = λ free. subst (λ (u : Units _ _ _ _ _). g.F.Loader.sound u.files) (sym c.make.ensures.units) c.requires.sound;
    };
    within = opening-within g.J.HasJobs.are_jobs (cards_left g.S.Source.taken c.make.result.deck)
        (spools_over (g.A.Area.size c.args.units.input) (g.A.Area.pages c.args.units.input)
        (g.B.Area.size c.args.units.output) (g.B.Area.pages c.args.units.output))
        (items_ahead (g.S.Source.left c.args.units.deck.source) c.args.units.deck.pending)
        (g.K.Sink.given c.args.units.paper.sink) (g.F.Loader.found c.args.units.files)
        (subst (λ (u : Units _ _ _ _ _). cards_left g.S.Source.taken u.deck ≤ 33555457) (sym c.make.ensures.units)
        (fresh-few g.S.Source.taken c.args.units.deck c.requires.unread c.requires.deck.1));
  };
}

pub returns-clause-counted : goal.returns-clause-counted
returns-clause-counted g c =
    made-counted g.J.HasJobs.are_jobs _ _ _ _ c.args.units _ (returns-clause-opens g c).stands.is c.make.ensures.units refl

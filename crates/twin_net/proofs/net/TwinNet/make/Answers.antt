use Rattle.std.proofs.Common.{◌≤◌, sym, subst, ◌∙◌, ap}
use Rattle.batch_ends.specs.Devices.{cards_left}
use Rattle.batch_ends.proofs.ToldCards.{told-cards}
use Rattle.twin_ends.specs.declared.units.TwinUnits.{TwinUnits}
use Rattle.twin_net.proofs.Opened.{opens-over, fresh-few}
use Rattle.twin_net.proofs.FirstCounted.{free-done, counted-first}
use Rattle.twin_net.proofs.net.TwinNet.make.Goals as goal

pub make-requires : goal.make-requires
make-requires g c = record {
  deck = c.requires.deck.0;
  paper = c.requires.paper;
  to_a = c.requires.to_a;
  to_b = c.requires.to_b;
  from_a = c.requires.from_a;
  from_b = c.requires.from_b;
}

pub returns-clause-opens : goal.returns-clause-opens
returns-clause-opens g c =
    opens-over g.J.HasJobs.are_jobs g.J.JobWork.keeps _ c.args.units _ record {
      to_a = record { some = c.requires.to_a.0; most = c.requires.to_a.1 };
      to_b = record { some = c.requires.to_b.0; most = c.requires.to_b.1 };
      from_a = record { some = c.requires.from_a.0; most = c.requires.from_a.1 };
      from_b = record { some = c.requires.from_b.0; most = c.requires.from_b.1 };
    } (told-cards (g.S.Source.left c.args.units.deck.source) c.args.units.deck.pending) (g.met.F.Loader.are_loads c.args.units.files)
    (subst (λ (u : TwinUnits _ _ _ _). cards_left g.S.Source.taken u.deck ≤ 33555457) (sym c.make.ensures.units)
    (fresh-few g.S.Source.taken c.args.units.deck c.requires.unread c.requires.deck.1))
    record {
      card = c.new.ensures;
      input = c.new-2.ensures;
      job_a = c.new-3.ensures;
      job_b = c.new-4.ensures;
      output = c.new-5.ensures;
      printer = c.new-6.ensures;
      shared = c.make.ensures.stands;
      deck_live = λ free. ap (λ (u : TwinUnits _ _ _ _). u.deck.live) c.make.ensures.units ∙ c.requires.deck.0;
      paper_live = λ free. ap (λ (u : TwinUnits _ _ _ _). u.paper.live) c.make.ensures.units ∙ c.requires.paper;
      sound = λ sound. subst (λ (u : TwinUnits _ _ _ _). g.F.Loader.sound u.files) (sym c.make.ensures.units) c.requires.sound;
    }

pub returns-clause-counted : goal.returns-clause-counted
returns-clause-counted g c =
    counted-first g.J.HasJobs.jobs _ _ c.args.units c.make.ensures.units c.make.ensures.sound
    (free-done _ _ _ _ _ _ c.new.ensures.cause c.new-2.ensures.cause c.new-3.ensures.cause c.new-4.ensures.cause c.new-5.ensures.cause
    c.new-6.ensures.cause)

use Rattle.std.proofs.Common.{[], refl, sym, subst}
use Rattle.solo_net.specs.Telling.{solo_telling}
use Rattle.solo_net.proofs.Opened.{opening-sound}
use Rattle.solo_net.specs.Net.{solo_told_by}
use Rattle.solo_net.proofs.net.SoloNet.make.Goals as goal

pub returns-clause-opens : goal.returns-clause-opens
returns-clause-opens g c = λ plan is.
    let begins = c.new-2.ensures.fresh in
    let tells = solo_telling g.S.Source.left g.S.Source.taken g.S.Source.faults g.Y.Source.left g.Y.Source.taken g.Y.Source.faults g.K.Sink.given
    g.K.Sink.faults g.T.Sink.given g.T.Sink.faults in
    record {
      sound = opening-sound tells c.args.units (g.C.Commands.opens c.args.units.files) plan is;
      stands = record {
        input = c.new.ensures.stands;
        job = c.new-2.ensures.stands;
        output = c.new-3.ensures.stands;
        shared = record {
          units = record { cards = refl; keys = refl; paper = refl; console = refl };
          six = c.new-4.ensures (solo_told_by tells c.args.units plan);
        };
        cards_live = λ free. c.requires.cards;
        keys_live = λ free. c.requires.keys;
        console_live = λ free. c.requires.console;
        paper_live = λ free. c.requires.paper;
        files_sound = λ free. c.requires.sound;
        works = λ free told e. begins.planned c.args.units.files told (is told e).0;
        led = λ free.
            subst (λ first. g.C.Commands.follows c.new-2.result.process.commands first [] c.args.units.files) (sym c.of-first_files.ensures)
            (begins.followed c.args.units.files);
        files =
            subst (λ first. g.C.Commands.passes first [] c.args.units.files) (sym c.of-first_files.ensures) (begins.passed c.args.units.files);
      };
    }

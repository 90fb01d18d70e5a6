use Rattle.std.proofs.Common.{subst}
use Rattle.network_run.specs.declared.rules.Rule.TheVariants.{Numbered}
use Rattle.solo_cli.proofs.Runs.{CoreFacts, on-core}
use Rattle.solo_cli.proofs.core_run.run_numbered.Goals as goal

pub returns : goal.returns
returns g c =
    let e = c.run_core-ran.ensures in
    let ran = c.run_core-ran.result.0 in
    let counts = c.run_core-ran.result.1 in
    let a = c.args in
    rw c.came_to.ensures.ended
    (on-core g.S.Source g.K.Sink g.F.Area g.I.Area g.O.Area (λ loader. loader.files.area) a.deck a.paper (record { files = a.files }) a.input a.output ran
    c.requires.ready c.came_to.ensures.size (Numbered a.number) counts
    (subst (λ units. CoreFacts g.S.Source g.K.Sink g.F.Area g.I.Area g.O.Area (λ loader. loader.files.area) (Numbered a.number) units ran counts)
    c.units_of-units.ensures record {
      facts = record {
        together = e.together;
        faults = e.faults;
        counted = e.counted;
        prints = e.prints;
        all_taken = e.all_taken;
        files = e.files;
        undamaged = e.undamaged;
        total = e.total;
      };
      own = e.own;
      devices = _;
      runs = e.runs;
    }))

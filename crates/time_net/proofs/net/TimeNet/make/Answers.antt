use Rattle.std.proofs.Common.{◌≤◌, ◌+◌, ◌*◌, sym, subst, refl, ap}
use Rattle.solo_devices.specs.CardUnit.{Held, items_ahead, work_ahead}
use Rattle.solo_devices.specs.PrinterUnit.{Printing}
use Rattle.time_net.proofs.Opened.{few-first, fresh-tasks}
use Rattle.time_net.proofs.net.TimeNet.make.Goals as goal

pub returns : goal.returns
returns g c = record {
  stands = record {
    is = record {
      keys = ap (λ (k : Held _). items_ahead (g.Y.Source.left k.source) k.pending) (sym c.new.ensures.keys);
      console = ap (λ (p : Printing _). g.T.Sink.given p.sink) (sym c.new.ensures.console);
      keys_live = λ none. ap (λ (k : Held _). k.live) c.new.ensures.keys;
      console_live = λ none. ap (λ (p : Printing _). p.live) c.new.ensures.console;
      table = c.new-2.ensures;
      held = refl;
      operator = c.new-3.ensures;
      tasks = fresh-tasks _ _ _ (rw c.new-4.ensures refl);
      read_out = tt;
    };
    within = subst (λ (k : Held _). 87 + 90000000 * work_ahead (g.Y.Source.taken k.source) k.pending k.ended ≤ 200000000000000000000000000000)
        (sym c.new.ensures.keys) (few-first (g.Y.Source.taken c.args.source) c.requires);
  };
  devices = (ap (λ (k : Held _). k.source) c.new.ensures.keys, ap (λ (p : Printing _). p.sink) c.new.ensures.console);
  well = c.new-3.ensures.fault_is;
}

use Rattle.std.proofs.Common.{false, refl, ap, slice_set}
use Rattle.readers_writers.proofs.room.Room.end.Goals as goal

pub returns : goal.returns
returns c = record {
  does = (
    refl,
    record {
      process = c.requires.process;
      inside = ap (λ n. slice_set c.args.self.now.inside n false) c.from-2.ensures;
      waiting = ap (λ n. slice_set c.args.self.now.waiting n false) c.from.ensures;
      woken = λ q is. let h = c.first_waiting-self.ensures q is in (h.0, record { no_writer = h.1.no_writer; no_reader = h.1.no_reader });
    },
  );
}

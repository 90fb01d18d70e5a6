use Rattle.std.proofs.Common.{refl}
use Rattle.std.proofs.Math.Facts.{Fits-of_lt}
use Rattle.network_run.proofs.RunMore.{no-turn, place-ran, runs-more, counts-few, events-few, taken-fits}
use Rattle.network_run.proofs.running.Falling.run_by.Goals as goal

pub running-init : goal.running-init
running-init g c = (
  λ at. no-turn g.Self.Network.law _ _ c.args.rule at.state c.none-counts.result c.none-counts.ensures at.stands,
  g.met.Self.Network.keeps_itself c.args.self.now,
)

pub next_by-requires : goal.next_by-requires
next_by-requires g c =
    let at = c.requires.before in
    record { some = place-ran g.Self.Network.law _ _ _ _ _ _ _ _ at (c.running.invariant.0 at) }

pub take_turn-requires : goal.take_turn-requires
take_turn-requires g c =
    let at = c.requires.before in
    let here = place-ran g.Self.Network.law _ _ _ _ _ _ _ _ at (c.running.invariant.0 at) in
    record { may = record { at = here; may = (c.in-Some.ensures.picks here).1 } }

pub overflow_add-taken : goal.overflow_add-taken
overflow_add-taken g c =
    let at = c.requires.before in
    let so_far = c.running.invariant.0 at in
    let here = place-ran g.Self.Network.law _ _ _ _ _ _ _ _ at so_far in
    let turn = c.take_turn.ensures.turn here (c.in-Some.ensures.picks here).1 in
    Fits-of_lt (taken-fits _ _ _ _ turn.falls so_far.fewer (g.met.Self.Falling.few c.args.self.now at))

pub running-smaller : goal.running-smaller
running-smaller g c =
    let at = c.requires.before in
    let so_far = c.running.invariant.0 at in
    let here = place-ran g.Self.Network.law _ _ _ _ _ _ _ _ at so_far in
    let turn = c.take_turn.ensures.turn here (c.in-Some.ensures.picks here).1 in
    events-few _ _ _ _ _ turn.falls so_far.fewer (g.met.Self.Falling.few c.args.self.now at)

pub running-preserved : goal.running-preserved
running-preserved g c = (
  λ at.
      runs-more g.Self.Network.law g.Self.Network.Stands g.Self.Network.left c.args.rule c.running.now c.next_by.new.rule c.running.self c.take_turn.new.net
      c.in-Some.p (g.Self.Network.left c.args.self.now at.state) c.running.taken c.running.counts c.take_turn.new.counts _ at
      (λ here. c.in-Some.ensures.picks here) (λ here may. c.take_turn.ensures.turn here may) c.in-Some.ensures.goes_on (c.running.invariant.0 at),
  c.take_turn.ensures.keeps c.args.self.now c.running.invariant.1,
)

pub returns : goal.returns
returns g c =
    let at = c.requires.before in record {
      runs = λ at. (c.running.invariant.0 at).ran;
      after = place-ran g.Self.Network.law _ _ _ _ _ _ _ _ at (c.running.invariant.0 at);
      ended = λ at. c.in_default.ensures.ended at refl;
      keeps = c.running.invariant.1;
      few = λ at. counts-few g.Self.Network.law _ _ _ _ _ _ _ _ (c.running.invariant.0 at);
    }

use Rattle.std.proofs.Common.{rules, ◌≡◌, ◌++◌, [], length, drop, Some, refl, sym, ◌∙◌, ap, subst, arith}
use Rattle.solo_base.specs.Card.{cards}
use Rattle.solo_cli.specs.Tallies.{CountsOn, jobs_begun}
use Rattle.solo_cli.specs.declared.deck_numbers.Spot.{Spot}
use Rattle.solo_cli.specs.declared.deck_numbers.Spot.TheVariants.{Fresh, Skipping, InGroup}
use Rattle.solo_cli.proofs.FewCards.{few-cards}
use Rattle.solo_cli.proofs.deck_numbers.numbers_of.Goals as goal

same_Some : {A : Type 0} {a b : A} → Some a ≡ Some b → a ≡ b
same_Some same = cc

-- nothing begins where nothing is left
nothing_left : (spot : Spot) → length (jobs_begun spot []) ≡ 0
nothing_left Fresh = refl
nothing_left Skipping = refl
nothing_left InGroup = refl

pub loop-role-init : goal.loop-role-init
loop-role-init c =
    let whole : c.in_ok-to_vec.field-0.items ≡ c.args.deck.now = search rules in
    let left : drop c.new.result.taken c.new.result.bytes ≡ c.args.deck.now = same_Some c.new.ensures.left ∙ whole in
    let long : length (drop c.new.result.taken c.new.result.bytes) ≡ length c.args.deck.now = ap length left in
    rw c.new-unit.ensures (
      refl,
      omega (arith, c.new.ensures.taken, long, c.requires),
      subst (λ bytes. CountsOn (cards c.args.deck.now) (cards bytes) c.new-tally.result) (sym left) (c.new-tally.ensures (cards c.args.deck.now)),
    )

pub add-requires-clause-few : goal.add-requires-clause-few
add-requires-clause-few c =
    let counted = c.loop-role.invariant.2.cards_are in
    omega (arith, counted, few-cards c.args.deck.now, c.requires)

pub loop-role-preserved : goal.loop-role-preserved
loop-role-preserved c =
    let before = c.loop-role.invariant in
    let unit = c.loop-role.unit in
    let first = c.in-Some.ensures.next (cards (unit.pending ++ drop unit.source.taken unit.source.bytes)) refl in
    let all = same_Some c.in-Some.ensures.total in (
      c.in-Some.ensures.live refl,
      omega (arith, all, before.1),
      subst (λ left. CountsOn (cards c.args.deck.now) left c.add.new.self) (sym (same_Some first.4))
          (c.add.ensures (cards c.args.deck.now) first.1 first.0 first.3
          (subst (λ left. CountsOn (cards c.args.deck.now) left c.loop-role.tally) first.2 before.2)),
    )

pub returns-clause-jobs : goal.returns-clause-jobs
returns-clause-jobs c =
    let unit = c.loop-role.unit in
    let tally = c.loop-role.tally in
    let none : cards (unit.pending ++ drop unit.source.taken unit.source.bytes) ≡ []
    = c.in_default.ensures.next (cards (unit.pending ++ drop unit.source.taken unit.source.bytes)) refl in
    let ahead : length (jobs_begun tally.spot (cards (unit.pending ++ drop unit.source.taken unit.source.bytes))) ≡ 0 =
    ap (λ items. length (jobs_begun tally.spot items)) none ∙ nothing_left tally.spot in
    omega (arith, ahead, c.loop-role.invariant.2.jobs_are)

pub returns-clause-cards : goal.returns-clause-cards
returns-clause-cards c =
    let unit = c.loop-role.unit in
    let none : cards (unit.pending ++ drop unit.source.taken unit.source.bytes) ≡ []
    = c.in_default.ensures.next (cards (unit.pending ++ drop unit.source.taken unit.source.bytes)) refl in
    let ahead : length (cards (unit.pending ++ drop unit.source.taken unit.source.bytes)) ≡ 0 = ap length none in
    omega (arith, ahead, c.loop-role.invariant.2.cards_are)

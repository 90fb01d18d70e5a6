-- No run from an opening has more events than a count holds.
use Rattle.std.proofs.Common.{Bool, true, false, if◌then◌else◌, ◌≡◌, ◌≤◌, ℕ, ◌+◌, ◌*◌, ◌-◌, List, [], length, Option, refl, sym, ap, subst, arith}
use Rattle.solo_base.specs.declared.item.Item.{Item}
use Rattle.solo_devices.specs.CardUnit.{Held}
use Rattle.batch_procs.specs.Jobs.{Jobs, AreJobs, FilesAs}
use Rattle.core_law.specs.Core.{CoreState}
use Rattle.core_law.specs.Opening.{Spools, opened}
use Rattle.core_law.specs.Work.{weight, process_left, calls_left, events_left}
use Rattle.network_run.specs.Runs.{most_events}
use Rattle.batch_ends.specs.Devices.{cards_left}

-- ---- numbers
parts : (m d c e : ℕ) → (m + d) * (c + e) ≡ m * c + (m * e + d * c + d * e)
parts m d c e = grind arith

-- a product is no more than that of what is no less
most-product : (m c more others : ℕ) → m ≤ more → c ≤ others → m * c ≤ more * others
most-product m c more others few less =
    let d = more - m in
    let e = others - c in
    let a : m + d ≡ more = omega (arith, few) in
    let b : c + e ≡ others = omega (arith, less) in
    let all : more * others ≡ m * c + (m * e + d * c + d * e) = subst (λ n. n * others ≡ m * c + (m * e + d * c + d * e)) a
    (subst (λ k. (m + d) * k ≡ m * c + (m * e + d * c + d * e)) b (parts m d c e)) in
    omega (arith, all)

-- of the weight of a card by how many cards there are, and of what the five begin with
in-all : (w product cards n : ℕ) → w ≡ 5919225 * n + 33 → product ≡ n * (cards + 1) → w * (cards + 1) ≡ 5919225 * product + 33 * (cards + 1)
in-all w product cards n a b = subst (λ w. w * (cards + 1) ≡ 5919225 * product + 33 * (cards + 1)) (sym a)
    (subst (λ product. (5919225 * n + 33) * (cards + 1) ≡ 5919225 * product + 33 * (cards + 1)) (sym b) (spread n (cards + 1)))
  where
    spread : (n k : ℕ) → (5919225 * n + 33) * k ≡ 5919225 * (n * k) + 33 * k
    spread n k = grind arith

bounded : (deck product cards n others : ℕ) → deck ≡ 5919225 * product + 33 * (cards + 1) → product ≤ 404000000000000 * 33555458 → cards ≤ 33555457
    → n ≤ 404000000000000 → others ≤ 11838450 * n + 11762 → 2 * (deck + others) + 12 ≤ 200000000000000000000000000000
bounded deck product cards n others a b c d e = omega (arith, a, b, c, d, e)

one-more : (cards : ℕ) → cards ≤ 33555457 → cards + 1 ≤ 33555458
one-more cards few = omega (arith, few)

summed : (a b c d e named n : ℕ) → a ≡ 5919225 * n + 30 → b ≡ 5919225 * n + 17 → c ≡ 11678 + 4 * named → d ≡ 26 → e ≡ 11 → named ≡ 0
    → a + b + c + d + e ≤ 11838450 * n + 11762
summed a b c d e named n one two three four five none = omega (arith, one, two, three, four, five, none)

at-most : (deck others calls : ℕ) → calls ≡ deck + others → 2 * (deck + others) + 12 ≤ most_events → 2 * calls + 12 ≤ most_events
at-most deck others calls e few = subst (λ n. 2 * n + 12 ≤ most_events) (sym e) few

module _ {L : Type 0} {J : Jobs L} (jobs : AreJobs J) where
  named-none : length (J.named []) ≡ 0
  named-none = let few = jobs.few_named [] in omega (arith, few)

  card-weight : weight J 0 ≡ 5919225 * J.most + 33
  card-weight = omega arith

  module _ (cards : ℕ) (spools : Spools) (deck : Option (List Item)) (paper : Option (List ℕ)) (files : Option (FilesAs L)) where
    first-card : process_left J (opened spools deck paper files) 1 ≡ 5919225 * J.most + 30
    first-card = omega arith

    first-input : process_left J (opened spools deck paper files) 2 ≡ 5919225 * J.most + 17
    first-input = omega arith

    first-job : process_left J (opened spools deck paper files) 3 ≡ 11678 + 4 * length (J.named [])
    first-job = omega arith

    first-output : process_left J (opened spools deck paper files) 4 ≡ 26
    first-output = omega arith

    first-printer : process_left J (opened spools deck paper files) 5 ≡ 11
    first-printer = omega arith

    abbrev first : CoreState L
    first = opened spools deck paper files

    abbrev five : ℕ
    five = process_left J first 1 + process_left J first 2 + process_left J first 3 + process_left J first 4 + process_left J first 5

    few-five : five ≤ 11838450 * J.most + 11762
    few-five = summed _ _ _ _ _ (length (J.named [])) J.most first-card first-input first-job first-output first-printer named-none

    -- of a deck of which nothing was read
    pub opening-within : cards ≤ 33555457 → events_left J cards first ≤ most_events
    opening-within few =
        let deck_is = in-all (weight J 0) (J.most * (cards + 1)) cards J.most card-weight refl in
        let product = most-product J.most (cards + 1) 404000000000000 33555458 jobs.countable (one-more cards few) in
        at-most (weight J 0 * (cards + 1)) five (calls_left J cards first) calls
        (bounded (weight J 0 * (cards + 1)) (J.most * (cards + 1)) cards J.most five deck_is product few jobs.countable few-five)
      where
        calls : calls_left J cards first ≡ weight J 0 * (cards + 1) + five
        calls = omega arith

pub fresh-few : {S : Type 0} (taken : S → ℕ) (deck : Held S) → taken deck.source ≡ 0 → deck.pending ≡ [] → cards_left taken deck ≤ 33555457
fresh-few taken deck unread none = few (taken deck.source) (length deck.pending) unread (ap length none) deck.ended
  where
    few : (taken pending : ℕ) → taken ≡ 0 → pending ≡ 0 → (ended : Bool) → 2 * (16777216 + 512 - taken) + pending + (if ended then 0 else 1) ≤ 33555457
    few taken pending a b true = omega (arith, a, b)
    few taken pending a b false = omega (arith, a, b)

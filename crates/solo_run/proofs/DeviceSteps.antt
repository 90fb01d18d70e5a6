-- One entry more at a device: a card that was read, a line that was given, or neither.
use Rattle.std.proofs.Common.{◌≡◌, ◌≢◌, ◌≤◌, ◌<◌, inl, inr, ℕ, List, [], ◌∷◌, ◌++◌, length, drop, Option, None, Some, refl, sym, ◌∙◌, ap, arith}
use Rattle.solo_base.specs.Prefixes.{IsPrefixOf}
use Rattle.solo_base.specs.declared.item.Item.{Item}
use Rattle.solo_base.specs.declared.outcome.Outcome.{Outcome}
use Rattle.solo_base.specs.declared.outcome.Outcome.TheVariants as outcome
use Rattle.solo_base.specs.declared.outcome.Cause.{Cause}
use Rattle.solo_base.specs.declared.outcome.Cause.TheVariants as cause
use Rattle.solo_devices.specs.Count.{Rose}
use Rattle.solo_devices.specs.declared.card_read.CardRead.{CardRead}
use Rattle.solo_devices.specs.declared.card_read.CardRead.TheVariants as read
use Rattle.solo_devices.specs.CardUnit.{Held, GivesNext, item_of, byte_limit}
use Rattle.solo_devices.specs.PrinterUnit.{Printing, Gains}
use Rattle.place_law.specs.Process.{or_new}
use Rattle.place_law.proofs.Nexts.{or-none}
use Rattle.place_law.proofs.Given.{or-either}
use Rattle.solo_law.specs.Devices.{Reads, read_off, gains}
use Rattle.solo_procs.specs.declared.actions.SoloReply.{SoloReply}
use Rattle.solo_procs.specs.declared.actions.SoloReply.TheVariants as hear
use Rattle.solo_run.specs.Devices.{ReadsOne, GivesLine, ReadsRan, LinesRan}

rose-more : (a b c : ℕ) → a ≤ b → Rose b c → Rose a c
rose-more a b c less rose = omega (arith, less, rose)

through≤ : (a b c : ℕ) → a ≤ b → b ≤ c → a ≤ c
through≤ a b c one two = omega (arith, one, two)

-- ---- what a told deck gives
drop-item : (answer : CardRead) (rest : List Item) → drop (length (item_of answer)) (item_of answer ++ rest) ≡ rest
drop-item (read.Card line) rest = refl
drop-item read.Spoiled rest = refl
drop-item read.End rest = refl
drop-item read.Failed rest = refl
drop-item read.Limit rest = refl

read-off : (before now : Option (List Item)) (answer : CardRead) → GivesNext before now answer → read_off answer before ≡ now
read-off None now answer next = sym (next.untold refl)
read-off (Some items) now answer next =
    let t = next.told items refl in
    ap Some (ap (drop (length (item_of answer))) t.items_are ∙ drop-item answer t.rest) ∙ sym t.now_are

pub reads-so : (deck before now : Option (List Item)) (answer : CardRead) → deck ≡ before → GivesNext before now answer
    → Reads deck answer × (read_off answer deck ≡ now)
reads-so deck before now answer e next = (
  record {
    item = λ items is. (let t = next.told items (sym e ∙ is) in (t.rest, t.items_are));
    end = λ items is ends. (let t = next.told items (sym e ∙ is) in t.end ends);
  },
  ap (read_off answer) e ∙ read-off before now answer next,
)

-- ---- the cause that an answer of the deck is
abbrev pub by_read : CardRead → Option Outcome
by_read read.Failed = Some (outcome.Fault cause.ReadFault)
by_read read.Limit = Some (outcome.Fault cause.DeckLimit)
by_read other = None

live-by : {L : Type 0} (answer : CardRead) → (answer ≢ read.Failed → answer ≢ read.Limit → L) → by_read answer ≡ None → L
live-by (read.Card line) live e = live (λ e. cc) (λ e. cc)
live-by read.Spoiled live e = live (λ e. cc) (λ e. cc)
live-by read.End live e = live (λ e. cc) (λ e. cc)
live-by read.Failed live e = absurd cc
live-by read.Limit live e = absurd cc

failed-by : (answer : CardRead) → by_read answer ≡ Some (outcome.Fault cause.ReadFault) → answer ≡ read.Failed
failed-by read.Failed e = refl
failed-by read.Limit e = absurd cc
failed-by other e = absurd cc

limit-by : (answer : CardRead) → by_read answer ≡ Some (outcome.Fault cause.DeckLimit) → answer ≡ read.Limit
limit-by read.Limit e = refl
limit-by read.Failed e = absurd cc
limit-by other e = absurd cc

module _ {S : Type 0} (left : S → Option (List ℕ)) (taken faults : S → ℕ) where
  pub reads-read : (start old new : Held S) (answer : CardRead) → ReadsRan left taken faults start old None → ReadsOne left taken faults old new answer
      → ReadsRan left taken faults start new (by_read answer)
  reads-read start old new answer ran one = record {
    live = live-by answer one.live;
    failed = λ e. rose-more (faults start.source) (faults old.source) (faults new.source) ran.counts (one.failed (failed-by answer e));
    counts = through≤ (faults start.source) (faults old.source) (faults new.source) ran.counts one.counts;
    limit = λ e. one.limit.0 (limit-by answer e);
    longer = λ few over. ap by_read (one.limit.1 over);
    total = one.total ∙ ran.total;
  }

  pub reads-still : (start now : Held S) (why extra : Option Outcome) → (extra ≡ Some (outcome.Fault cause.ReadFault) → ⊥)
      → (extra ≡ Some (outcome.Fault cause.DeckLimit) → ⊥) → ReadsRan left taken faults start now why → ReadsRan left taken faults start now (or_new why extra)
  reads-still start now why extra not also ran = record {
    live = λ e. ran.live (or-none why extra e);
    failed = λ e. elim (or-either why extra (outcome.Fault cause.ReadFault) e) as (λ _. Rose (faults start.source) (faults now.source)) [
      | inl new ↦ absurd (not new.1)
      | inr old ↦ ran.failed old
    ];
    counts = ran.counts;
    limit = λ e. elim (or-either why extra (outcome.Fault cause.DeckLimit) e) as (λ _. byte_limit < taken now.source) [
      | inl new ↦ absurd (also new.1)
      | inr old ↦ ran.limit old
    ];
    longer = λ few over. ap (λ why. or_new why extra) (ran.longer few over);
    total = ran.total;
  }

-- ---- lines
-- what a line gained: where the sink doesn't tell it, the whole line
pub record GainedOf (before now : Option (List ℕ)) (whole : List ℕ) (all : Type 0) : Type 0 where
  pub gained : List ℕ
  pub prefix : IsPrefixOf gained whole
  pub all_is : all → gained ≡ whole
  pub now_is : gains gained before ≡ now

end-none : (xs : List ℕ) → xs ++ [] ≡ xs
end-none [] = refl
end-none (x ∷ xs) = ap (λ l. x ∷ l) (end-none xs)

pub gained-of : (before now : Option (List ℕ)) (whole : List ℕ) (all : Type 0) → Gains before now whole all → GainedOf before now whole all
gained-of None now whole all gains = record {
  gained = whole;
  prefix = ([], end-none whole);
  all_is = λ done. refl;
  now_is = sym (gains.untold refl);
}
gained-of (Some given) now whole all gains =
    let t = gains.told given refl in
    record {
      gained = t.part;
      prefix = (t.prefix.rest, t.prefix.whole_is);
      all_is = t.all_is;
      now_is = sym t.now_is;
    }

module _ {K : Type 0} (given : K → Option (List ℕ)) (faults : K → ℕ) (fault : Cause) where
  pub lines-still : (start now : Printing K) (why extra : Option Outcome) → (extra ≡ Some (outcome.Fault fault) → ⊥) → LinesRan faults fault start now why
      → LinesRan faults fault start now (or_new why extra)
  lines-still start now why extra not ran = record {
    live = λ e. ran.live (or-none why extra e);
    failed = λ e. elim (or-either why extra (outcome.Fault fault) e) as (λ _. Rose (faults start.sink) (faults now.sink)) [
      | inl new ↦ absurd (not new.1)
      | inr old ↦ ran.failed old
    ];
    counts = ran.counts;
  }

  pub lines-given : (start old new : Printing K) (line : List ℕ) (reply : SoloReply) (why : Option Outcome) → (why ≡ None → reply ≡ hear.Done)
      → (why ≡ Some (outcome.Fault fault) → reply ≡ hear.Failed) → LinesRan faults fault start old None → GivesLine given faults old new line reply
      → LinesRan faults fault start new why
  lines-given start old new line reply why done failed ran one = record {
    live = λ e. one.live (done e);
    failed = λ e. rose-more (faults start.sink) (faults old.sink) (faults new.sink) ran.counts (one.failed (failed e));
    counts = through≤ (faults start.sink) (faults old.sink) (faults new.sink) ran.counts one.counts;
  }

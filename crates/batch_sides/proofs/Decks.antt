-- What a deck that is read once more has become.
use Rattle.std.proofs.Common.{◌≡◌, ◌≢◌, ◌≤◌, ◌<◌, ◌↔◌, ℕ, true, List, [], ◌∷◌, ◌++◌, Option, None, Some, sym, ◌∙◌, ap, append_assoc, arith}
use Rattle.solo_base.specs.declared.item.Item.{Item}
use Rattle.solo_devices.specs.Count.{Rose}
use Rattle.solo_devices.specs.declared.card_read.CardRead.{CardRead}
use Rattle.solo_devices.specs.declared.card_read.CardRead.TheVariants as read
use Rattle.solo_devices.specs.CardUnit.{Held, GivesNext, items_ahead, item_of, byte_limit, bytes_total, IsAllTaken}
use Rattle.batch_procs.specs.declared.actions.Action.TheVariants as act
use Rattle.batch_procs.specs.declared.actions.Reply.TheVariants as reply
use Rattle.batch_procs.specs.History.{Entry, Does}
use Rattle.batch_procs.specs.Causes.{caused, or_new, fault_read}
use Rattle.batch_procs.specs.Parts.{some-same}
use Rattle.solo_base.specs.declared.outcome.Outcome.{Outcome}
use Rattle.batch_sides.specs.Cards.{DeckRan, cards_read}
use Rattle.batch_procs.specs.Jobs.{Jobs, AreJobs}

pub rose-later : (start old new : ℕ) → start ≤ old → Rose old new → Rose start new
rose-later start old new later rose = omega (arith, later, rose)

pub new-none : (cause new : Option Outcome) → or_new cause new ≡ None → new ≡ None
new-none None new e = e
new-none (Some how) new e = absurd cc

not-failed : (answer : CardRead) → fault_read answer ≡ None → (answer ≢ read.Failed) × (answer ≢ read.Limit)
not-failed (read.Card line) e = (λ is. cc, λ is. cc)
not-failed read.Spoiled e = (λ is. cc, λ is. cc)
not-failed read.End e = (λ is. cc, λ is. cc)
not-failed read.Failed e = absurd cc
not-failed read.Limit e = absurd cc

no-item : (answer : CardRead) (items rest : List Item) → items ≡ item_of answer ++ rest → items ≡ [] → rest ≡ []
no-item (read.Card line) items rest parts none = absurd cc
no-item read.Spoiled items rest parts none = absurd cc
no-item read.End items rest parts none = sym parts ∙ none
no-item read.Failed items rest parts none = sym parts ∙ none
no-item read.Limit items rest parts none = sym parts ∙ none

module _ {L : Type 0} {J : Jobs L} (jobs : AreJobs J) where
  module _ {S : Type 0} {left : S → Option (List ℕ)} {taken faults : S → ℕ} (start old new : Held S) (h : List (Entry L)) (answer : CardRead) where
    pub deck-read : DeckRan left taken faults start old h
        → GivesNext (items_ahead (left old.source) old.pending) (items_ahead (left new.source) new.pending) answer
        → (answer ≡ read.End → IsAllTaken (left new.source)) → faults old.source ≤ faults new.source
        → (answer ≡ read.Failed → Rose (faults old.source) (faults new.source)) → ((answer ≡ read.Limit) ↔ (byte_limit < taken new.source))
        → (answer ≢ read.Failed → answer ≢ read.Limit → new.live ≡ true)
        → bytes_total (taken new.source) (left new.source) ≡ bytes_total (taken old.source) (left old.source)
        → DeckRan left taken faults start new (Does act.ReadCard (reply.Card answer) ∷ h)
    deck-read ran next all counts failed limit live total = record {
      reads = λ items told.
          let (rest, ahead, parts, end) = ran.reads items told in
          let takes = next.told rest ahead in (
            takes.rest,
            takes.now_are,
            parts ∙ ap (λ rest. cards_read h ++ rest) takes.items_are ∙ sym (append_assoc (cards_read h) (item_of answer) takes.rest),
            (λ is. no-item answer rest takes.rest takes.items_are (takes.end (some-same answer read.End is))),
          );
      all = λ is. all (some-same answer read.End is);
      counts = let later = ran.counts in omega (arith, later, counts);
      failed = λ is. rose-later (faults start.source) (faults old.source) (faults new.source) ran.counts (failed (some-same answer read.Failed is));
      limit = λ is. limit.0 (some-same answer read.Limit is);
      longer = λ few over. ap Some (limit.1 over);
      total = total ∙ ran.total;
      live = λ none. (let not = not-failed answer (new-none (caused h) (fault_read answer) none) in live not.0 not.1);
    }

-- Only the card process reads the deck, and only the printer process prints.
use Rattle.std.proofs.Common.{◌≡◌, ◌≢◌, ℕ, List, ◌∷◌, Option, None, Some, refl, sym, ◌∙◌, ap, subst}
use Rattle.solo_base.specs.declared.outcome.Outcome.{Outcome}
use Rattle.solo_devices.specs.declared.card_read.CardRead.{CardRead}
use Rattle.solo_devices.specs.declared.card_read.CardRead.TheVariants as read
use Rattle.batch_procs.specs.declared.actions.Reply.{Reply}
use Rattle.batch_procs.specs.declared.actions.Reply.TheVariants as reply
use Rattle.batch_procs.specs.Jobs.{Jobs}
use Rattle.network_law.specs.Network.{IsOne}
use Rattle.place_law.specs.Process.{Does, LacksMemory, Delays, action_of, or_new}
use Rattle.twin_law.specs.Process.{Action, ReadCard, TakePage, Print, Entry, Process, place, given_cause, caused, next_action}
use Rattle.twin_law.specs.Table.{process}
use Rattle.twin_law.specs.Twin.{Fits, MayLack, Suits, twin}
use Rattle.twin_law.proofs.Lawful.{or-none}
use Rattle.twin_law.proofs.Open.{reads-first, prints-last}
use Rattle.twin_net.specs.Doing.{IsPrint}
use Rattle.twin_net.specs.Steps.{twin_reply_of}

abbrev IsRead : Action → Type 0
IsRead ReadCard = Unit {0}
IsRead a = ⊥

read-is : (a : Action) → IsRead a → a ≡ ReadCard
read-is ReadCard is = refl
read-is a is = absurd is

print-is : (a : Action) → IsPrint a → (line : List ℕ) × (a ≡ Print line)
print-is (Print line) is = (line, refl)
print-is a is = absurd is

module _ {L : Type 0} (J : Jobs L) where
  -- another than the first reads nothing, and another than the last prints nothing
  module _ (p : ℕ) (one : IsOne (twin J) p) (h : List (Entry L)) (a : Action) (next : next_action (process J p) h ≡ Some a) where
    reads-not : (p ≡ 1 → ⊥) → IsRead a → ⊥
    reads-not not is = not (reads-first J p h one (next ∙ ap Some (read-is a is)))

    pub prints-not : (p ≡ 6 → ⊥) → IsPrint a → ⊥
    prints-not not is = (let (line, same) = print-is a is in not (prints-last J p h line one (next ∙ ap Some same)))

  -- ---- what an entry tells of the deck and the paper
  some-reply : (r s : Reply L) → Some r ≡ Some s → r ≡ s
  some-reply r s e = cc

  fits-card : (a : Action) (answer : CardRead) → Fits {L = L} a (reply.Card answer) → IsRead a
  fits-card ReadCard answer fits = tt
  fits-card a answer fits = absurd fits

  lacks-card : (a : Action) (answer : CardRead) → MayLack {L = L} a (reply.Card answer) → ⊥
  lacks-card (TakePage b) answer lacks = lacks
  lacks-card a answer lacks = lacks

  no-card : (p : Process L) (entry : Entry L) (answer : CardRead) → Suits J p entry → (IsRead (action_of entry) → ⊥)
      → twin_reply_of entry ≡ Some (reply.Card answer)
      → ⊥
  no-card p (Does a r) answer suits not e = not (fits-card a answer (subst (Fits a) (some-reply r (reply.Card answer) e) suits.0))
  no-card p (LacksMemory a r) answer suits not e = lacks-card a answer (subst (MayLack a) (some-reply r (reply.Card answer) e) suits.1)
  no-card p (Delays a) answer suits not e = cc

  pub reads-nothing : (p : ℕ) (one : IsOne (twin J) p) (h : List (Entry L)) (entry : Entry L) (answer : CardRead)
      → next_action (process J p) h ≡ Some (action_of entry) → Suits J (process J p) entry → (p ≡ 1 → ⊥) → twin_reply_of entry ≢ Some (reply.Card answer)
  reads-nothing p one h entry answer next suits not e = no-card (process J p) entry answer suits (reads-not p one h (action_of entry) next not) e

  some-not_none : (old : Option Outcome) (how : Outcome) → or_new old (Some how) ≡ None → ⊥
  some-not_none None how e = cc
  some-not_none (Some why) how e = cc

  -- one without a cause behind it had none before, and read no failed card
  pub free-before : (p : Process L) (entry : Entry L) (h : List (Entry L)) → caused p (entry ∷ h) ≡ None → caused p h ≡ None
  free-before p (Does a r) h none = or-none (caused p h) (given_cause p (place p h) a r) none
  free-before p (LacksMemory a r) h none = absurd (some-not_none (caused p h) _ none)
  free-before p (Delays a) h none = none

  pub no-failed : (p : Process L) (entry : Entry L) (h : List (Entry L)) → caused p (entry ∷ h) ≡ None → twin_reply_of entry ≢ Some (reply.Card read.Failed)
  no-failed p (Does a r) h none e =
      some-not_none (caused p h) _ (sym (ap (λ r. or_new (caused p h) (given_cause p (place p h) a r)) (some-reply r (reply.Card read.Failed) e)) ∙ none)
  no-failed p (LacksMemory a r) h none e = some-not_none (caused p h) _ none
  no-failed p (Delays a) h none e = cc

  pub no-limit : (p : Process L) (entry : Entry L) (h : List (Entry L)) → caused p (entry ∷ h) ≡ None → twin_reply_of entry ≢ Some (reply.Card read.Limit)
  no-limit p (Does a r) h none e =
      some-not_none (caused p h) _ (sym (ap (λ r. or_new (caused p h) (given_cause p (place p h) a r)) (some-reply r (reply.Card read.Limit) e)) ∙ none)
  no-limit p (LacksMemory a r) h none e = some-not_none (caused p h) _ none
  no-limit p (Delays a) h none e = cc

  -- a print without a cause is done
  pub print-done : (p : Process L) (entry : Entry L) (h : List (Entry L)) → Suits J p entry → caused p (entry ∷ h) ≡ None → IsPrint (action_of entry)
      → twin_reply_of entry ≡ Some reply.Done
  print-done p (Does (Print line) reply.Done) h suits none is = refl
  print-done p (Does (Print line) reply.Failed) h suits none is = absurd (some-not_none (caused p h) _ none)
  print-done p (Does (Print line) reply.NoMemory) h suits none is = absurd (some-not_none (caused p h) _ none)
  print-done p (Does (Print line) r) h suits none is = absurd suits.0
  print-done p (Does a r) h suits none is = absurd is
  print-done p (LacksMemory a r) h suits none is = absurd (some-not_none (caused p h) _ none)
  print-done p (Delays (Print line)) h suits none is = absurd suits
  print-done p (Delays a) h suits none is = absurd is

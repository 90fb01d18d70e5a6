-- Each event of the card process leaves it fewer cards to read.
use Rattle.std.proofs.Common.{◌≡◌, ℕ, ◌+◌, ◌≤◌, ◌<◌, Bool, true, false, ◌||◌, List, [], ◌∷◌, ◌++◌, length, Option, None, Some, refl, sym, ◌∙◌, ap, arith, lit≤}
use Rattle.std.proofs.lemmas.List.{append-nil}
use Rattle.solo_base.specs.declared.item.Feed.TheVariants as feed
use Rattle.solo_base.specs.declared.outcome.Outcome.{Outcome}
use Rattle.solo_devices.specs.declared.card_read.CardRead.TheVariants as read
use Rattle.batch_procs.specs.declared.actions.Action.{Action}
use Rattle.batch_procs.specs.declared.actions.Action.TheVariants as act
use Rattle.batch_procs.specs.declared.actions.Reply.{Reply}
use Rattle.batch_procs.specs.declared.actions.Reply.TheVariants as reply
use Rattle.batch_procs.specs.Parcels.{Parcel, OfFeed, is_last, is_ended, handed}
use Rattle.batch_procs.specs.History.{Entry, Does, LacksMemory, Delays, taken, taken_by, took}
use Rattle.batch_procs.specs.Fits.{Fits}
use Rattle.batch_procs.specs.Causes.{caused, or_new, given_cause}
use Rattle.batch_procs.specs.Process.{Follows, next_action}
use Rattle.batch_procs.specs.Laws.{IsTake}
use Rattle.batch_procs.specs.Table.{process, card}
use Rattle.batch_procs.proofs.Relay.{open-next}
use Rattle.core_law.specs.Core.{items_by}
use Rattle.core_law.specs.Work.{reads_left, LeavesFewer}
use Rattle.core_law.proofs.Ends.{takes-nothing}
use Rattle.core_law.proofs.HandedLists.{handed-append, ended-handed}
use Rattle.core_law.proofs.Taking.{next-take}
use Rattle.batch_procs.specs.Jobs.{Jobs, AreJobs}

module _ {L : Type 0} {J : Jobs L} (jobs : AreJobs J) where
  -- ---- the deck
  reads-most : (cause : Option Outcome) (ended : Bool) (cards : ℕ) → reads_left cause ended cards ≤ cards + 1
  reads-most None false cards = omega arith
  reads-most None true cards = omega arith
  reads-most (Some how) ended cards = omega arith

  reads-cause : (cause new : Option Outcome) (ended : Bool) (cards : ℕ) → reads_left (or_new cause new) ended cards ≤ reads_left cause ended cards
  reads-cause None None ended cards = omega arith
  reads-cause None (Some how) ended cards = omega arith
  reads-cause (Some how) new ended cards = omega arith

  reads-ended : (cause : Option Outcome) (cards : ℕ) → reads_left cause true cards ≡ 0
  reads-ended None cards = refl
  reads-ended (Some how) cards = refl

  end-ended : (all : List (Parcel L)) → is_ended (all ++ OfFeed feed.End ∷ []) ≡ true
  end-ended [] = refl
  end-ended (parcel ∷ all) = or-end (is_last parcel) (end-ended all)
    where
      or-end : (t : Bool) {u : Bool} → u ≡ true → (t || u) ≡ true
      or-end true e = refl
      or-end false e = e

  abbrev Reads : List (Entry L) → Entry L → ℕ → ℕ → Type 0
  Reads h entry cards left =
      reads_left (caused (entry ∷ h)) (is_ended (taken (entry ∷ h))) left + length (handed (took entry)) ≤ reads_left (caused h) (is_ended (taken h)) cards

  module _ (h : List (Entry L)) (cards left : ℕ) where
    by-card : (r : Reply L) → Fits J act.ReadCard r → caused h ≡ None → is_ended (taken h) ≡ false → (0 < length (items_by r) → left < cards)
        → Reads h (Does act.ReadCard r) cards left
    by-card (reply.Card (read.Card line)) fits none on fewer =
        let most = reads-most (caused (Does act.ReadCard (reply.Card (read.Card line)) ∷ h)) (is_ended (taken (Does act.ReadCard (reply.Card
        (read.Card line)) ∷ h))) left in
        let less = fewer (lit≤ tt) in
        let all : reads_left (caused h) (is_ended (taken h)) cards ≡ cards + 1 = rw (none, on) refl in
        omega (arith, most, less, all)
    by-card (reply.Card read.Spoiled) fits none on fewer =
        let most = reads-most (caused (Does act.ReadCard (reply.Card read.Spoiled) ∷ h)) (is_ended (taken (Does act.ReadCard
        (reply.Card read.Spoiled) ∷ h))) left in
        let less = fewer (lit≤ tt) in
        let all : reads_left (caused h) (is_ended (taken h)) cards ≡ cards + 1 = rw (none, on) refl in
        omega (arith, most, less, all)
    by-card (reply.Card read.End) fits none on fewer =
        let done : reads_left (caused (Does act.ReadCard (reply.Card read.End) ∷ h)) (is_ended (taken (Does act.ReadCard (reply.Card read.End) ∷ h))) left ≡ 0
        = ap (λ t. reads_left (caused (Does act.ReadCard (reply.Card read.End) ∷ h)) t left) (end-ended (taken h)) ∙ reads-ended _ left in
        let all : reads_left (caused h) (is_ended (taken h)) cards ≡ cards + 1 = rw (none, on) refl in
        omega (arith, done, all)
    by-card (reply.Card read.Failed) fits none on fewer = rw none (omega arith)
    by-card (reply.Card read.Limit) fits none on fewer = rw none (omega arith)
    by-card r fits none on fewer = absurd fits

    by-other : (a : Action) (r : Reply L) → handed (taken_by r) ≡ [] → left ≡ cards → Reads h (Does a r) cards left
    by-other a r none same =
        let ended : is_ended (taken h ++ taken_by r) ≡ is_ended (taken h) =
        sym (ended-handed jobs (taken h ++ taken_by r)) ∙ ap is_ended (handed-append jobs (taken h) (taken_by r))
        ∙ ap (λ more. is_ended (handed (taken h) ++ more)) none ∙ ap is_ended (append-nil (handed (taken h))) ∙ ended-handed jobs (taken h) in
        let few = reads-cause (caused h) (given_cause a r h) (is_ended (taken h)) cards in
        let now : reads_left (caused (Does a r ∷ h)) (is_ended (taken (Does a r ∷ h))) left ≡ reads_left (or_new (caused h) (given_cause a r h)) (is_ended
        (taken h)) cards
        = ap (λ t. reads_left (or_new (caused h) (given_cause a r h)) t left) ended
        ∙ ap (λ n. reads_left (or_new (caused h) (given_cause a r h)) (is_ended (taken h)) n) same in
        let took_none : length (handed (taken_by r)) ≡ 0 = ap length none in
        omega (arith, few, now, took_none)

    takes-cards : (a : Action) → next_action card h ≡ Some a → IsTake a → act.ReadCard ≡ a
    takes-cards a next take = (next-take jobs card h a next take).same

    by-action : (a : Action) (r : Reply L) → next_action card h ≡ Some a → Fits J a r → LeavesFewer (Does a r) cards left → Reads h (Does a r) cards left
    by-action act.ReadCard r next fits leaves =
        by-card r fits (open-next J card h act.ReadCard next tt) (next-take jobs card h act.ReadCard next tt).goes_on leaves
    by-action act.TakeFeed r next fits leaves = absurd (let no = takes-cards act.TakeFeed next tt in cc)
    by-action act.TakePage r next fits leaves = absurd (let no = takes-cards act.TakePage next tt in cc)
    by-action (act.PutFeed f) r next fits leaves = by-other (act.PutFeed f) r (takes-nothing jobs (act.PutFeed f) r fits (λ t. t)) leaves
    by-action act.AwaitRoom r next fits leaves = by-other act.AwaitRoom r (takes-nothing jobs act.AwaitRoom r fits (λ t. t)) leaves
    by-action act.AwaitItem r next fits leaves = by-other act.AwaitItem r (takes-nothing jobs act.AwaitItem r fits (λ t. t)) leaves
    by-action act.Request r next fits leaves = by-other act.Request r (takes-nothing jobs act.Request r fits (λ t. t)) leaves
    by-action (act.PutPage page) r next fits leaves = by-other (act.PutPage page) r (takes-nothing jobs (act.PutPage page) r fits (λ t. t)) leaves
    by-action act.Release r next fits leaves = by-other act.Release r (takes-nothing jobs act.Release r fits (λ t. t)) leaves
    by-action (act.Load file) r next fits leaves = by-other (act.Load file) r (takes-nothing jobs (act.Load file) r fits (λ t. t)) leaves
    by-action act.Local r next fits leaves = by-other act.Local r (takes-nothing jobs act.Local r fits (λ t. t)) leaves
    by-action (act.Print line) r next fits leaves = by-other (act.Print line) r (takes-nothing jobs (act.Print line) r fits (λ t. t)) leaves
    by-action (act.Stop b) r next fits leaves = by-other (act.Stop b) r (takes-nothing jobs (act.Stop b) r fits (λ t. t)) leaves
    by-action (act.Ended how) r next fits leaves = by-other (act.Ended how) r (takes-nothing jobs (act.Ended how) r fits (λ t. t)) leaves

    pub deck-falls : (entry : Entry L) → Follows J card (entry ∷ h) → LeavesFewer entry cards left → Reads h entry cards left
    deck-falls (Does a r) follows leaves = by-action a r follows.0 follows.1 leaves
    deck-falls (LacksMemory a r) follows leaves = absurd (let no = follows.1.0 in cc)
    deck-falls (Delays a) follows leaves = (let same = ap (reads_left (caused h) (is_ended (taken h))) leaves in omega (arith, same))

  -- another process reads no card
  pub reads-not : (p : ℕ) (h : List (Entry L)) (a : Action) → ((process J p).takes ≡ act.ReadCard → ⊥) → next_action (process J p) h ≡ Some a
      → a ≡ act.ReadCard → ⊥
  reads-not p h a not next e =
      not ((next-take jobs (process J p) h act.ReadCard (next ∙ ap Some e) tt).same)

  pub leaves-same : (entry : Entry L) (cards left : ℕ) → (Rattle.batch_procs.specs.History.action_of entry ≡ act.ReadCard → ⊥) → LeavesFewer entry cards left
      → left ≡ cards
  leaves-same (Does act.ReadCard r) cards left not leaves = absurd (not refl)
  leaves-same (Does a r) cards left not leaves = leaves
  leaves-same (LacksMemory a r) cards left not leaves = leaves
  leaves-same (Delays a) cards left not leaves = leaves

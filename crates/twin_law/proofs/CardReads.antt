-- What the card process put is what it read of the deck, and the end behind it.
use Rattle.std.proofs.Common.{◌≡◌, inl, inr, ◌||◌, Bool, true, false, List, [], ◌∷◌, ◌++◌, refl, sym, ◌∙◌, ap, subst, arith}
use Rattle.std.proofs.lemmas.List.{append_assoc, append-nil}
use Rattle.network_law.specs.Acts.{Delayed, moved, moved_by}
use Rattle.network_law.specs.Network.{IsOne, acts}
use Rattle.network_law.specs.Network as law
use Rattle.solo_base.specs.declared.item.Item.{Item}
use Rattle.solo_base.specs.declared.item.Item.TheVariants.{Line, Spoiled}
use Rattle.solo_base.specs.declared.outcome.Side.TheVariants.{Sender}
use Rattle.solo_base.specs.Prefixes.{IsPrefixOf}
use Rattle.page_codec.specs.Packing.{fits}
use Rattle.batch_procs.specs.declared.actions.Reply.{Reply}
use Rattle.batch_procs.specs.Jobs.{Jobs}
use Rattle.batch_procs.specs.Parcels.{Parcel, OfFeed}
use Rattle.place_law.specs.Process.{Does, LacksMemory, Delays}
use Rattle.solo_base.specs.declared.item.Feed.TheVariants as feed
use Rattle.solo_devices.specs.declared.card_read.CardRead.TheVariants as read
use Rattle.batch_procs.specs.declared.actions.Reply.TheVariants as reply
use Rattle.twin_law.specs.Process.{Action, AwaitRoom, AwaitItem, Request, Release, Stop, Ended, Entry, stands_behind, place}
use Rattle.twin_law.specs.Ends.{CardPlace, ReadsCard, PutsCard, PutsEnd, HasPut, card_aims, card}
use Rattle.twin_law.specs.Twin.{call, went_by, Fits, read_off, twin}
use Rattle.twin_law.specs.Told.{read_all, reads_end, end_read}
use Rattle.twin_law.proofs.Marks.{makes, IsAround, made, none-delayed}
use Rattle.twin_law.proofs.InputAlone.{deck_feeds}

abbrev as_feeds : (L : Type 0) → List Item → List (Parcel L)
as_feeds L [] = []
as_feeds L (item ∷ rest) = OfFeed (feed.Item item) ∷ as_feeds L rest

feeds-append : (L : Type 0) (some more : List Item) → as_feeds L (some ++ more) ≡ as_feeds L some ++ as_feeds L more
feeds-append L [] more = refl
feeds-append L (item ∷ some) more = ap (λ rest. OfFeed (feed.Item item) ∷ rest) (feeds-append L some more)

deck-append : (L : Type 0) (some more : List Item) → deck_feeds {L = L} (some ++ more) ≡ as_feeds L some ++ deck_feeds more
deck-append L [] more = refl
deck-append L (item ∷ some) more = ap (λ rest. OfFeed (feed.Item item) ∷ rest) (deck-append L some more)

module _ {L : Type 0} where
  -- what it put and read, and whether it read the end, at each place
  abbrev pub CardIs : CardPlace → List (Parcel L) → List Item → Bool → Type 0
  CardIs ReadsCard put items ended = (put ≡ as_feeds L items) × (ended ≡ false)
  CardIs (PutsCard item) put items ended = (put ++ OfFeed (feed.Item item) ∷ [] ≡ as_feeds L items) × (ended ≡ false)
  CardIs PutsEnd put items ended = (put ≡ as_feeds L items) × (ended ≡ true)
  CardIs HasPut put items ended = (put ≡ as_feeds L items ++ OfFeed feed.End ∷ []) × (ended ≡ true)

  same-is : (x : CardPlace) (put : List (Parcel L)) (items : List Item) (ended : Bool) → CardIs x put items ended → CardIs x (put ++ []) (items ++ []) ended
  same-is x put items ended is = subst (λ (ps : List (Parcel L)). CardIs x ps (items ++ []) ended) (sym (append-nil put)) (subst (λ (all : List Item). CardIs x put all ended) (sym (append-nil items)) is)

  one-read : (put : List (Parcel L)) (items : List Item) (item : Item) → put ≡ as_feeds L items → (put ++ []) ++ OfFeed (feed.Item item) ∷ [] ≡ as_feeds L (items ++ item ∷ [])
  one-read put items item e = ap (λ ps. ps ++ OfFeed (feed.Item item) ∷ []) (append-nil put ∙ e) ∙ sym (feeds-append L items (item ∷ []))

  card-step : (x : CardPlace) (r : Reply L) (put : List (Parcel L)) (items : List Item) (ended : Bool) → Fits (makes (card_aims x)) r → CardIs x put items ended
      → CardIs (stands_behind card x (makes (card_aims x)) r) (put ++ moved_by 1 Sender (call 1 (makes (card_aims x))) (went_by (makes (card_aims x)) r))
      (items ++ read_off (Does (makes (card_aims x)) r)) (reads_end (Does (makes (card_aims x)) r) || ended)
  card-step ReadsCard (reply.Card (read.Card line)) put items ended fits is = (one-read put items (Line line) is.0, is.1)
  card-step ReadsCard (reply.Card read.Spoiled) put items ended fits is = (one-read put items Spoiled is.0, is.1)
  card-step ReadsCard (reply.Card read.End) put items ended fits is = (append-nil put ∙ is.0 ∙ ap (as_feeds L) (sym (append-nil items)), refl)
  card-step ReadsCard (reply.Card read.Failed) put items ended fits is = same-is ReadsCard put items ended is
  card-step ReadsCard (reply.Card read.Limit) put items ended fits is = same-is ReadsCard put items ended is
  card-step (PutsCard item) reply.Done put items ended fits is = (is.0 ∙ ap (as_feeds L) (sym (append-nil items)), is.1)
  card-step (PutsCard item) reply.Stopped put items ended fits is = same-is (PutsCard item) put items ended is
  card-step PutsEnd reply.Done put items ended fits is =
      (ap (λ ps. ps ++ OfFeed feed.End ∷ []) (is.0 ∙ ap (as_feeds L) (sym (append-nil items))), is.1)
  card-step PutsEnd reply.Stopped put items ended fits is = same-is PutsEnd put items ended is
  card-step HasPut reply.Done put items ended fits is = same-is HasPut put items ended is
  card-step x r put items ended fits is = absurd fits

  around-still : (x : CardPlace) (a : Action) (r : Reply L) (put : List (Parcel L)) (items : List Item) (ended : Bool) → IsAround a → Fits a r → CardIs x put items ended
      → CardIs (stands_behind card x a r) (put ++ moved_by 1 Sender (call 1 a) (went_by a r)) (items ++ read_off (Does a r)) (reads_end (Does a r) || ended)
  around-still x (AwaitRoom b) reply.Done put items ended around fits is = same-is x put items ended is
  around-still x (AwaitRoom b) reply.Stopped put items ended around fits is = same-is x put items ended is
  around-still x (AwaitItem b) reply.Done put items ended around fits is = same-is x put items ended is
  around-still x (AwaitItem b) reply.Stopped put items ended around fits is = same-is x put items ended is
  around-still x Request reply.Done put items ended around fits is = same-is x put items ended is
  around-still x Release reply.Done put items ended around fits is = same-is x put items ended is
  around-still x (Stop b) reply.Done put items ended around fits is = same-is x put items ended is
  around-still x (Ended how) reply.Done put items ended around fits is = same-is x put items ended is
  around-still x (AwaitRoom b) r put items ended around fits is = absurd fits
  around-still x (AwaitItem b) r put items ended around fits is = absurd fits
  around-still x Request r put items ended around fits is = absurd fits
  around-still x Release r put items ended around fits is = absurd fits
  around-still x (Stop b) r put items ended around fits is = absurd fits
  around-still x (Ended how) r put items ended around fits is = absurd fits
  around-still x a r put items ended around fits is = absurd around

  delay-still : (x : CardPlace) (a : Action) (put : List (Parcel L)) (items : List Item) (ended : Bool) → CardIs x put items ended
      → CardIs x (put ++ moved_by 1 Sender (call 1 a) Delayed) (items ++ []) ended
  delay-still x a put items ended is =
      subst (λ (ps : List (Parcel L)). CardIs x (put ++ ps) (items ++ []) ended) (sym (none-delayed 1 Sender (call 1 a))) (same-is x put items ended is)

  module _ (J : Jobs L) where
    one : IsOne (twin J) 1
    one = (omega arith, omega arith)

    pub card-is : (h : List (Entry L)) → law.Follows (twin J) 1 h → CardIs (place card h) (moved 1 Sender (acts (twin J) 1 h)) (read_all h) (end_read h)
    card-is [] follows = (refl, refl)
    card-is (Does a r ∷ h) follows =
        let was = card-is h follows.2 in
        let x = place (card {L = L}) h in
        let put = moved 1 Sender (acts (twin J) 1 h) in
        elim (made J 1 h a one follows.0) as (λ _. CardIs (stands_behind card x a r) (put ++ moved_by 1 Sender (call 1 a) (went_by a r)) (read_all h ++ read_off (Does a r))
        (reads_end (Does a r) || end_read h)) [
          | inl around ↦ around-still x a r put (read_all h) (end_read h) around follows.1.0 was
          | inr same ↦ (subst (λ a. Fits a r → CardIs (stands_behind card x a r) (put ++ moved_by 1 Sender (call 1 a) (went_by a r)) (read_all h ++ read_off (Does a r))
              (reads_end (Does a r) || end_read h)) same (λ fits. card-step x r put (read_all h) (end_read h) fits was)) follows.1.0
        ]
    card-is (LacksMemory a r ∷ h) follows = absurd (let never = follows.1.0 in cc)
    card-is (Delays a ∷ h) follows = delay-still (place (card {L = L}) h) a (moved 1 Sender (acts (twin J) 1 h)) (read_all h) (end_read h) (card-is h follows.2)

  -- so what it put is the first of what is read of the whole deck
  first-feeds : (x : CardPlace) (put : List (Parcel L)) (items left : List Item) (ended : Bool) → CardIs x put items ended → (ended ≡ true → left ≡ [])
      → IsPrefixOf put (deck_feeds (items ++ left))
  first-feeds ReadsCard put items left ended is none = (deck_feeds left, ap (λ ps. ps ++ deck_feeds left) is.0 ∙ sym (deck-append L items left))
  first-feeds (PutsCard item) put items left ended is none =
      (OfFeed (feed.Item item) ∷ deck_feeds left, sym (append_assoc put (OfFeed (feed.Item item) ∷ []) (deck_feeds left)) ∙ ap (λ ps. ps ++ deck_feeds left) is.0 ∙ sym (deck-append L items left))
  first-feeds PutsEnd put items left ended is none = (deck_feeds left, ap (λ ps. ps ++ deck_feeds left) is.0 ∙ sym (deck-append L items left))
  first-feeds HasPut put items left ended is none =
      ([], append-nil put ∙ is.0 ∙ sym (ap (λ left. as_feeds L items ++ deck_feeds left) (none is.1)) ∙ sym (deck-append L items left))

  pub put-first : (J : Jobs L) (h : List (Entry L)) (items left : List Item) → law.Follows (twin J) 1 h → items ≡ read_all h ++ left → (end_read h ≡ true → left ≡ [])
      → IsPrefixOf (moved 1 Sender (acts (twin J) 1 h)) (deck_feeds items)
  put-first J h items left follows parts none =
      subst (λ (items : List Item). IsPrefixOf (moved 1 Sender (acts (twin J) 1 h)) (deck_feeds items)) (sym parts)
      (first-feeds (place (card {L = L}) h) (moved 1 Sender (acts (twin J) 1 h)) (read_all h) left (end_read h) (card-is J h follows) none)

  -- where it put the end, it read the end
  pub end-put : (J : Jobs L) (h : List (Entry L)) → law.Follows (twin J) 1 h → place (card {L = L}) h ≡ HasPut → end_read h ≡ true
  end-put J h follows at =
      (subst (λ x. CardIs x (moved 1 Sender (acts (twin J) 1 h)) (read_all h) (end_read h)) at (card-is J h follows)).1

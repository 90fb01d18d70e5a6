-- What the deck and the paper became, as the law of the five histories wants it.
use Rattle.std.proofs.Common.{◌≡◌, ℕ, Bool, true, false, List, [], ◌∷◌, ◌++◌, Option, None, Some, refl, sym, ◌∙◌, ap, subst}
use Rattle.std.proofs.lemmas.List.{append-nil}
use Rattle.solo_base.specs.declared.item.Item.{Item}
use Rattle.solo_base.specs.declared.item.Item.TheVariants.{Line, Spoiled}
use Rattle.solo_base.specs.declared.item.Feed.TheVariants as feed
use Rattle.solo_base.specs.Text.{line_text}
use Rattle.solo_devices.specs.declared.card_read.CardRead.{CardRead}
use Rattle.solo_devices.specs.declared.card_read.CardRead.TheVariants as read
use Rattle.solo_devices.specs.CardUnit.{item_of}
use Rattle.solo_base.specs.Prefixes.{IsPrefixOf}
use Rattle.batch_procs.specs.declared.actions.Action.{Action}
use Rattle.batch_procs.specs.declared.actions.Action.TheVariants as act
use Rattle.batch_procs.specs.declared.actions.Reply.{Reply}
use Rattle.batch_procs.specs.declared.actions.Reply.TheVariants as reply
use Rattle.batch_procs.specs.Parcels.{Parcel, OfFeed, OfLine, is_ended}
use Rattle.batch_procs.specs.Fits.{Fits}
use Rattle.batch_procs.specs.History.{Entry, Does, LacksMemory, Delays, card_taken, taken, taken_by, put_by, sent}
use Rattle.batch_procs.specs.Causes.{caused, given_cause}
use Rattle.batch_procs.specs.Process.{Process, Follows, next_action}
use Rattle.batch_procs.specs.Laws.{IsRelay}
use Rattle.batch_procs.specs.Relays.{card-relay}
use Rattle.batch_procs.specs.Table.{card}
use Rattle.batch_procs.proofs.Closing.{or-none}
use Rattle.batch_procs.proofs.Holding.{some-not_none}
use Rattle.batch_procs.proofs.Relay.{open-next, sent-is-part}
use Rattle.core_law.proofs.Loading.{plain-reply, wants-none}
use Rattle.core_law.proofs.Taking.{next-take}
use Rattle.core_law.proofs.Passed.{IsNoPrint}
use Rattle.core_law.proofs.KeepsDevices.{ended-more, entry-no_text, text-more, text-part, prefix-longer}
use Rattle.core_law.proofs.Streams.{deck_parcels, text_of, ReadsOf, Gained}
use Rattle.batch_sides.specs.Cards.{cards_read, newest_read}
use Rattle.batch_sides.specs.Lines.{text_tried}
use Rattle.batch_sides.proofs.Decks.{new-none}
use Rattle.batch_procs.specs.Jobs.{Jobs, AreJobs}

true-false : (t : Bool) → t ≡ true → t ≡ false → ⊥
true-false t a b = cc

module _ {L : Type 0} {J : Jobs L} (jobs : AreJobs J) where
  -- ---- the deck
  -- items as they are taken, without an end
  abbrev item_parcels : List Item → List (Parcel L)
  item_parcels [] = []
  item_parcels (item ∷ rest) = OfFeed (feed.Item item) ∷ item_parcels rest

  items-append : (some more : List Item) → item_parcels (some ++ more) ≡ item_parcels some ++ item_parcels more
  items-append [] more = refl
  items-append (item ∷ some) more = ap (λ rest. OfFeed (feed.Item item) ∷ rest) (items-append some more)

  deck-append : (some rest : List Item) → item_parcels some ++ deck_parcels jobs rest ≡ deck_parcels jobs (some ++ rest)
  deck-append [] rest = refl
  deck-append (item ∷ some) rest = ap (λ more. OfFeed (feed.Item item) ∷ more) (deck-append some rest)

  -- before the end: the items that were read; behind it: they and the end
  pub record CardsTaken (h : List (Entry L)) : Type 0 where
    pub goes_on : is_ended (taken h) ≡ false → taken h ≡ item_parcels (cards_read h)
    pub ended : is_ended (taken h) ≡ true → (taken h ≡ item_parcels (cards_read h) ++ OfFeed feed.End ∷ []) × (newest_read h ≡ Some read.End)

  nothing-more : (h : List (Entry L)) (more : List (Parcel L)) → more ≡ [] → taken h ++ more ≡ taken h
  nothing-more h more none = ap (λ more. taken h ++ more) none ∙ append-nil (taken h)

  same-taken : (h : List (Entry L)) (entry : Entry L) → taken (entry ∷ h) ≡ taken h → cards_read (entry ∷ h) ≡ cards_read h
      → newest_read (entry ∷ h) ≡ newest_read h → CardsTaken h → CardsTaken (entry ∷ h)
  same-taken h entry took cards newest before = record {
    goes_on = λ e. took ∙ before.goes_on (ap is_ended (sym took) ∙ e) ∙ ap item_parcels (sym cards);
    ended = λ e. (let all = before.ended (ap is_ended (sym took) ∙ e) in
        (took ∙ all.0 ∙ ap (λ cards. item_parcels cards ++ OfFeed feed.End ∷ []) (sym cards), newest ∙ all.1));
  }

  one-item : (h : List (Entry L)) (answer : CardRead) (item : Item) → card_taken {L = L} answer ≡ OfFeed (feed.Item item) ∷ [] → item_of answer ≡ item ∷ []
      → is_ended (taken h) ≡ false → CardsTaken h → CardsTaken (Does act.ReadCard (reply.Card answer) ∷ h)
  one-item h answer item took gave goes_on before =
      let now : taken h ++ card_taken answer ≡ item_parcels (cards_read h ++ item_of answer) =
      ap (λ front. front ++ card_taken answer) (before.goes_on goes_on) ∙ ap (λ more. item_parcels (cards_read h) ++ more) took
      ∙ sym (items-append (cards_read h) (item ∷ [])) ∙ ap (λ more. item_parcels (cards_read h ++ more)) (sym gave) in
      let open_still : is_ended (taken h ++ card_taken answer) ≡ false =
      ended-more jobs (taken h) (card_taken answer) ∙ rw (goes_on, took) refl in
      record {
        goes_on = λ e. now;
        ended = λ e. absurd (true-false (is_ended (taken h ++ card_taken answer)) e open_still);
      }

  card-taken : (h : List (Entry L)) (answer : CardRead) → is_ended (taken h) ≡ false → CardsTaken h → CardsTaken (Does act.ReadCard (reply.Card answer) ∷ h)
  card-taken h (read.Card line) goes_on before = one-item h (read.Card line) (Line line) refl refl goes_on before
  card-taken h read.Spoiled goes_on before = one-item h read.Spoiled Spoiled refl refl goes_on before
  card-taken h read.End goes_on before =
      let none = append-nil (cards_read h) in
      let now : is_ended (taken h ++ OfFeed feed.End ∷ []) ≡ true = ended-more jobs (taken h) (OfFeed feed.End ∷ []) ∙ rw goes_on refl in
      record {
        goes_on = λ e. absurd (true-false (is_ended (taken h ++ OfFeed feed.End ∷ [])) now e);
        ended = λ e. (ap (λ front. front ++ OfFeed feed.End ∷ []) (before.goes_on goes_on ∙ ap item_parcels (sym none)), refl);
      }
  card-taken h read.Failed goes_on before =
      let same = append-nil (taken h) in
      let none = append-nil (cards_read h) in
      record {
        goes_on = λ e. same ∙ before.goes_on goes_on ∙ ap item_parcels (sym none);
        ended = λ e. absurd (true-false (is_ended (taken h)) (ap is_ended (sym same) ∙ e) goes_on);
      }
  card-taken h read.Limit goes_on before =
      let same = append-nil (taken h) in
      let none = append-nil (cards_read h) in
      record {
        goes_on = λ e. same ∙ before.goes_on goes_on ∙ ap item_parcels (sym none);
        ended = λ e. absurd (true-false (is_ended (taken h)) (ap is_ended (sym same) ∙ e) goes_on);
      }

  card-other : (h : List (Entry L)) (a : Action) (r : Reply L) → Follows J card h → next_action card h ≡ Some a → Fits J a r
      → CardsTaken h → CardsTaken (Does a r ∷ h)
  card-other h act.ReadCard (reply.Card answer) follows next fits before = card-taken h answer
      (next-take jobs card h act.ReadCard next tt).goes_on before
  card-other h act.ReadCard r follows next fits before = absurd fits
  card-other h act.TakeFeed r follows next fits before = absurd (let e = (next-take jobs card h act.TakeFeed next tt).same in cc)
  card-other h act.TakePage r follows next fits before = absurd (let e = (next-take jobs card h act.TakePage next tt).same in cc)
  card-other h (act.Load file) r follows next fits before = absurd (wants-none jobs card h file (card-relay L) follows (λ all. refl) next)
  card-other h a r follows next fits before = same-taken h (Does a r) (nothing-more h (taken_by r) (plain-reply jobs a r fits tt)) refl refl before

  pub cards-taken : (h : List (Entry L)) → Follows J card h → CardsTaken h
  cards-taken [] follows = record { goes_on = λ e. refl; ended = λ e. absurd cc }
  cards-taken (Does a r ∷ h) follows = card-other h a r follows.2 follows.0 follows.1 (cards-taken h follows.2)
  cards-taken (LacksMemory a r ∷ h) follows = absurd (let no = follows.1.0 in cc)
  cards-taken (Delays a ∷ h) follows =
      (let before = cards-taken h follows.2 in record { goes_on = before.goes_on; ended = before.ended })

  pub deck-reads : (h : List (Entry L)) (items rest : List Item) (deck : Option (List Item)) → Follows J card h → deck ≡ Some rest
      → items ≡ cards_read h ++ rest
      → (newest_read h ≡ Some read.End → rest ≡ []) → ReadsOf jobs items deck (taken h)
  deck-reads h items rest deck follows now parts last =
      let all = cards-taken h follows in
      let whole : item_parcels (cards_read h) ++ deck_parcels jobs rest ≡ deck_parcels jobs items = deck-append (cards_read h) rest
      ∙ ap (deck_parcels jobs) (sym parts) in
      record {
        left = rest;
        left_is = now;
        parts = λ e. ap (λ front. front ++ deck_parcels jobs rest) (all.goes_on e) ∙ whole;
        whole = λ e. (let ended = all.ended e in let none = last ended.1 in
            (ended.0 ∙ ap (λ left. item_parcels (cards_read h) ++ deck_parcels jobs left) (sym none) ∙ whole, none));
      }

  -- ---- the paper
  one-line : (line : List ℕ) (st : List (Parcel L)) → text_of jobs (st ++ OfLine line ∷ []) ≡ text_of jobs st ++ line_text line
  one-line line st = text-more jobs st (OfLine line ∷ []) ∙ ap (λ last. text_of jobs st ++ last) (append-nil (line_text line))

  print-done : (line : List ℕ) (r : Reply L) (h : List (Entry L)) → Fits J (act.Print line) r → given_cause (act.Print line) r h ≡ None
      → r ≡ reply.Done
  print-done line reply.Done h fits none = refl
  print-done line reply.Failed h fits none = absurd cc
  print-done line reply.NoMemory h fits none = absurd cc
  print-done line r h fits none = absurd fits

  module _ (p : Process L) (relay : IsRelay p) where
    -- without a cause all that was tried was printed
    tried-other : (a : Action) (r : Reply L) (h : List (Entry L)) → IsNoPrint a → text_tried h ≡ text_of jobs (sent h)
        → text_tried h ≡ text_of jobs (sent h ++ put_by a r)
    tried-other a r h is before =
        before ∙ sym (text-more jobs (sent h) (put_by a r) ∙ ap (λ more. text_of jobs (sent h) ++ more)
        (entry-no_text jobs (Does a r) is) ∙ append-nil (text_of jobs (sent h)))

    pub tried-sent : (h : List (Entry L)) → Follows J p h → caused h ≡ None → text_tried h ≡ text_of jobs (sent h)
    tried-sent [] follows none = refl
    tried-sent (Does (act.Print line) r ∷ h) follows none =
        let done = print-done line r h follows.1 (new-none (caused h) (given_cause (act.Print line) r h) none) in
        ap (λ front. front ++ line_text line) (tried-sent h follows.2 (or-none (caused h) (given_cause (act.Print line) r h) none))
        ∙ sym (one-line line (sent h)) ∙ ap (λ r. text_of jobs (sent h ++ put_by (act.Print line) r)) (sym done)
    tried-sent (Does a r ∷ h) follows none = tried-other a r h tt (tried-sent h follows.2 (or-none (caused h) (given_cause a r h) none))
    tried-sent (LacksMemory a r ∷ h) follows none = absurd (some-not_none (caused h) _ none)
    tried-sent (Delays a ∷ h) follows none = tried-sent h follows.2 none

    -- and what was tried is a part of what is due
    still-part : (h : List (Entry L)) (more : List (Parcel L)) → IsPrefixOf (text_tried h) (text_of jobs (p.sends (taken h)))
        → IsPrefixOf (text_tried h) (text_of jobs (p.sends (taken h ++ more)))
    still-part h more part = prefix-longer _ _ _ part (text-part jobs _ _ (relay.monotone (taken h) more))

    line-part : (line : List ℕ) (r : Reply L) (h : List (Entry L)) → Follows J p h → next_action p h ≡ Some (act.Print line)
        → IsPrefixOf (text_tried h ++ line_text line) (text_of jobs (p.sends (taken h ++ taken_by r)))
    line-part line r h follows next =
        let before = tried-sent h follows (open-next J p h (act.Print line) next tt) in
        let now : text_tried h ++ line_text line ≡ text_of jobs (sent h ++ OfLine line ∷ []) =
        ap (λ front. front ++ line_text line) before ∙ sym (one-line line (sent h)) in
        let whole = text-part jobs (sent h ++ OfLine line ∷ []) (p.sends (taken h ++ []))
        (sent-is-part J p (Does (act.Print line) reply.Done ∷ h) relay (next, tt, follows)) in
        subst (λ text. IsPrefixOf text (text_of jobs (p.sends (taken h ++ taken_by r)))) (sym now)
        (prefix-longer _ _ _ (subst (λ all. IsPrefixOf (text_of jobs (sent h ++ OfLine line ∷ [])) (text_of jobs (p.sends all)))
        (append-nil (taken h)) whole)
        (text-part jobs _ _ (relay.monotone (taken h) (taken_by r))))

    pub tried-part : (h : List (Entry L)) → Follows J p h → IsPrefixOf (text_tried h) (text_of jobs (p.sends (taken h)))
    tried-part [] follows = (text_of jobs (p.sends []), refl)
    tried-part (Does (act.Print line) r ∷ h) follows = line-part line r h follows.2 follows.0
    tried-part (Does a r ∷ h) follows = still-part h (taken_by r) (tried-part h follows.2)
    tried-part (LacksMemory a r ∷ h) follows = still-part h (taken_by r) (tried-part h follows.2)
    tried-part (Delays a ∷ h) follows = tried-part h follows.2

    pub paper-gained : (h : List (Entry L)) (given gained : List ℕ) (paper : Option (List ℕ)) → Follows J p h → paper ≡ Some (given ++ gained)
        → IsPrefixOf gained (text_tried h) → (caused h ≡ None → gained ≡ text_tried h) → Gained jobs given paper p.sends h
    paper-gained h given gained paper follows now part all = record {
      gained = gained;
      paper_is = now;
      printed = λ none. all none ∙ tried-sent h follows none;
      part = prefix-longer _ _ _ part (tried-part h follows);
    }

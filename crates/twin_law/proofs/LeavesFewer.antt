-- Each event leaves fewer, whatever the devices are; and from an opening there are no more than can be counted.
use Rattle.std.proofs.Common.{◌≡◌, inl, inr, ℕ, ◌+◌, ◌*◌, ◌-◌, ◌≤◌, ◌<◌, List, [], ◌∷◌, length, length-append, Option, None, Some, refl, sym, ◌∙◌, ap, subst, arith}
use Rattle.std.proofs.lemmas.List.{append-nil}
use Rattle.std.proofs.lemmas.Bool.Decides.{eqb_tells}
use Rattle.network_run.specs.Runs.{most_events}
use Rattle.network_run.proofs.Along.{reached-more}
use Rattle.network_law.specs.Network.{IsEnabled, IsOne, happens}
use Rattle.network_law.proofs.Numbers.{set-same, set-other}
use Rattle.solo_base.specs.declared.outcome.Outcome.{Outcome}
use Rattle.page_codec.specs.Packing.{fits}
use Rattle.batch_procs.specs.declared.actions.Reply.{Reply}
use Rattle.batch_procs.specs.Jobs.{Jobs, AreJobs}
use Rattle.place_law.specs.Process.{Does, LacksMemory, Delays, action_of, or_new}
use Rattle.solo_devices.specs.declared.card_read.CardRead.TheVariants as read
use Rattle.batch_procs.specs.declared.actions.Reply.TheVariants as reply
use Rattle.twin_law.specs.Process.{Action, ReadCard, PutFeed, TakeFeed, AwaitRoom, AwaitItem, Request, PutPage, TakePage, Load, Release, Local, Print, Stop, Ended, Entry, stands_behind, place, aim, given_cause, caused, closing, closing_by, next_action}
use Rattle.twin_law.specs.Ends.{CardPlace, ReadsCard, PutsCard, PutsEnd, HasPut, card_aims, card}
use Rattle.twin_law.specs.Table.{process}
use Rattle.twin_law.specs.Twin.{Fits, Suits, read_off, twin, TwinState, TwinEvent}
use Rattle.twin_law.specs.Opening.{Opening}
use Rattle.twin_law.specs.TheLaw.{the_law, first_state, IsReached}
use Rattle.twin_law.specs.Told.{read_all}
use Rattle.twin_law.specs.Left.{still_read, cards_in_all, events_so_far, line_pages, most_with, events_left, DrawsFrom}
use Rattle.twin_law.proofs.Lawful.{Shape, SeatedAt, next-shape}
use Rattle.twin_law.proofs.Marks.{makes, IsAround, made, made-closes}
use Rattle.twin_law.proofs.Open.{reads-first}
use Rattle.twin_law.proofs.AllEvents.{times-less, one-entry, few-events}

-- ---- the cards in all never rise
still-less : (new cause : Option Outcome) (x : CardPlace) (c d : ℕ) → d ≡ c → still_read (or_new cause new) x d ≤ still_read cause x c
still-less new (Some how) x c d e = omega arith
still-less None None x c d e = subst (λ d. still_read None x d ≤ still_read None x c) (sym e) (omega arith)
still-less (Some how) None x c d e = omega arith

no-more : (n w w' : ℕ) → w' ≤ w → n ≡ 0 → n + w' ≤ w
no-more n w w' less none = omega (arith, less, none)

module _ {L : Type 0} where
  -- one answer of the card process
  abbrev Fewer : Option Outcome → CardPlace → Action → Reply L → ℕ → ℕ → Type 0
  Fewer cause x a r c d = length (read_off (Does a r)) + still_read (or_new cause (given_cause (card {L = L}) x a r))
      (stands_behind (card {L = L}) x a r) d ≤ still_read cause x c

  fewer-around : (cause : Option Outcome) (x : CardPlace) (a : Action) (r : Reply L) (c d : ℕ) → IsAround a → DrawsFrom (Does a r) c d → Fewer cause x a r c d
  fewer-around cause x (AwaitRoom b) r c d around e = no-more 0 _ _ (still-less (given_cause (card {L = L}) x (AwaitRoom b) r) cause x c d e) refl
  fewer-around cause x (AwaitItem b) r c d around e = no-more 0 _ _ (still-less (given_cause (card {L = L}) x (AwaitItem b) r) cause x c d e) refl
  fewer-around cause x Request r c d around e = no-more 0 _ _ (still-less (given_cause (card {L = L}) x Request r) cause x c d e) refl
  fewer-around cause x Release r c d around e = no-more 0 _ _ (still-less (given_cause (card {L = L}) x Release r) cause x c d e) refl
  fewer-around cause x (Stop b) r c d around e = no-more 0 _ _ (still-less (given_cause (card {L = L}) x (Stop b) r) cause x c d e) refl
  fewer-around cause x (Ended how) r c d around e = no-more 0 _ _ (still-less (given_cause (card {L = L}) x (Ended how) r) cause x c d e) refl
  fewer-around cause x a r c d around e = absurd around

  fewer-step : (x : CardPlace) (r : Reply L) (c d : ℕ) → Fits (makes (card_aims x)) r → DrawsFrom (Does (makes (card_aims x)) r) c d
      → Fewer None x (makes (card_aims x)) r c d
  fewer-step ReadsCard (reply.Card (read.Card line)) c d fits draws = (let less = draws (omega arith) in omega (arith, less))
  fewer-step ReadsCard (reply.Card read.Spoiled) c d fits draws = (let less = draws (omega arith) in omega (arith, less))
  fewer-step ReadsCard (reply.Card read.End) c d fits draws = omega arith
  fewer-step ReadsCard (reply.Card read.Failed) c d fits draws = omega arith
  fewer-step ReadsCard (reply.Card read.Limit) c d fits draws = omega arith
  fewer-step (PutsCard item) reply.Done c d fits draws = omega (arith, draws)
  fewer-step (PutsCard item) reply.Stopped c d fits draws = omega arith
  fewer-step PutsEnd reply.Done c d fits draws = omega arith
  fewer-step PutsEnd reply.Stopped c d fits draws = omega arith
  fewer-step HasPut reply.Done c d fits draws = omega arith
  fewer-step x r c d fits draws = absurd fits

  -- an entry that isn't a read draws none
  draws-same : (entry : Entry L) (c d : ℕ) → (action_of entry ≡ ReadCard → ⊥) → DrawsFrom entry c d → d ≡ c
  draws-same (Does ReadCard r) c d never draws = absurd (never refl)
  draws-same (Does (PutFeed b f) r) c d never draws = draws
  draws-same (Does (TakeFeed b) r) c d never draws = draws
  draws-same (Does (AwaitRoom b) r) c d never draws = draws
  draws-same (Does (AwaitItem b) r) c d never draws = draws
  draws-same (Does Request r) c d never draws = draws
  draws-same (Does (PutPage b page) r) c d never draws = draws
  draws-same (Does (TakePage b) r) c d never draws = draws
  draws-same (Does (Load file) r) c d never draws = draws
  draws-same (Does Release r) c d never draws = draws
  draws-same (Does Local r) c d never draws = draws
  draws-same (Does (Print line) r) c d never draws = draws
  draws-same (Does (Stop b) r) c d never draws = draws
  draws-same (Does (Ended how) r) c d never draws = draws
  draws-same (LacksMemory a r) c d never draws = draws
  draws-same (Delays a) c d never draws = draws

  abbrev in_all : List (Entry L) → ℕ → ℕ
  in_all h cards = length (read_all h) + still_read (caused (card {L = L}) h) (place (card {L = L}) h) cards

  module _ (J : Jobs L) where
    one : IsOne (twin J) 1
    one = (omega arith, omega arith)

    closing-of : (h : List (Entry L)) (how : Outcome) → caused (card {L = L}) h ≡ Some how
        → closing (card {L = L}) h ≡ Some record { stops = 1 ∷ []; how = how }
    closing-of h how e = ap (λ cause. closing_by (card {L = L}) cause (aim (card {L = L}) h)) e

    one-fewer : (h : List (Entry L)) (a : Action) (r : Reply L) (c d : ℕ) (cause : Option Outcome) → caused (card {L = L}) h ≡ cause
        → next_action (process J 1) h ≡ Some a → Fits a r
        → DrawsFrom (Does a r) c d → Fewer cause (place (card {L = L}) h) a r c d
    one-fewer h a r c d None e next fits draws =
        elim (made J 1 h a one next) as (λ _. Fewer None (place (card {L = L}) h) a r c d) [
          | inl around ↦ fewer-around None (place (card {L = L}) h) a r c d around draws
          | inr same ↦ (subst (λ a. Fits a r → DrawsFrom (Does a r) c d → Fewer None (place (card {L = L}) h) a r c d) same
              (λ fits draws. fewer-step (place (card {L = L}) h) r c d fits draws)) fits draws
        ]
    one-fewer h a r c d (Some how) e next fits draws =
        let shape = subst (λ c. Shape J 1 h c a) (closing-of h how e) (next-shape J 1 h a one next) in
        fewer-around (Some how) (place (card {L = L}) h) a r c d (made-closes (SeatedAt J 1) h a shape) draws

    card-fewer : (h : List (Entry L)) (entry : Entry L) (c d : ℕ) → next_action (process J 1) h ≡ Some (action_of entry) → Suits J (process J 1) entry
        → DrawsFrom entry c d
        → in_all (entry ∷ h) d ≤ in_all h c
    card-fewer h (Does a r) c d next suits draws =
        let x = place (card {L = L}) h in
        let now = subst (λ cause. length (read_off (Does a r)) + still_read (or_new cause (given_cause (card {L = L}) x a r))
        (stands_behind (card {L = L}) x a r) d ≤ still_read cause x c)
        refl (one-fewer h a r c d (caused (card {L = L}) h) refl next suits.0 draws) in
        let both = length-append (read_all h) (read_off (Does a r)) in
        omega (arith, now, both)
    card-fewer h (LacksMemory a r) c d next suits draws = absurd (let never = suits.0 in cc)
    card-fewer h (Delays a) c d next suits draws =
        let same : in_all (Delays a ∷ h) d ≡ in_all h d = ap (λ (all : List _). length all + still_read (caused (card {L = L}) h) (place (card {L = L}) h) d)
        (append-nil (read_all h)) in
        subst (λ n. n ≤ in_all h c) (sym same) (subst (λ d. in_all h d ≤ in_all h c) (sym draws) (omega arith))

    all-fewer : (s : TwinState L) (event : TwinEvent L) (c d : ℕ) → IsEnabled (twin J) s event → DrawsFrom event.entry c d
        → cards_in_all d (happens (twin J) s event) ≤ cards_in_all c s
    all-fewer s event c d is draws =
        let p = event.process in
        let own = event.entry ∷ s.histories p in
        let after = happens (twin J) s event in
        elim (eqb_tells p 1) as (λ _. in_all (after.histories 1) d ≤ in_all (s.histories 1) c) [
          | inl e ↦
              subst (λ h. in_all h d ≤ in_all (s.histories 1) c)
              (sym (subst (λ q. after.histories q ≡ event.entry ∷ s.histories q) e.1 (set-same s.histories p own)))
              (card-fewer (s.histories 1) event.entry c d (subst (λ q. next_action (process J q) (s.histories q) ≡ Some (action_of event.entry)) e.1 is.next)
              (subst (λ q. Suits J (process J q) event.entry) e.1 is.suits) draws)
          | inr differ ↦
              let same = draws-same event.entry c d (λ e. differ.1 (reads-first J p (s.histories p) is.one (is.next ∙ ap Some e))) draws in
              subst (λ h. in_all h d ≤ in_all (s.histories 1) c) (sym (set-other s.histories p own 1 (λ e. differ.1 (sym e))))
              (subst (λ d. in_all (s.histories 1) d ≤ in_all (s.histories 1) c) (sym same) (omega arith))
        ]

-- ---- numbers that can be counted
swap : (m n : ℕ) → m * n ≡ n * m
swap m n = grind arith

most-product : (m c more others : ℕ) → m ≤ more → c ≤ others → m * c ≤ more * others
most-product m c more others few less =
    let a = times-less m c others less in
    let b = times-less others m more few in
    let x = swap m others in
    let y = swap more others in
    omega (arith, a, b, x, y)

whole : (k n : ℕ) → (7647 * k + 7744) * n ≡ 7647 * (k * n) + 7744 * n
whole k n = grind arith

lines-too : (k n : ℕ) → (506 * k + 2) * n ≡ 506 * (k * n) + 2 * n
lines-too k n = grind arith

bounded : (all kn mn n : ℕ) → all ≡ 7647 * kn + 7744 * n → kn ≡ 506 * mn + 2 * n → mn ≤ 404000000000000 * 33555458 → n ≤ 33555458
    → all ≤ 200000000000000000000000000000
bounded all kn mn n a b c d = omega (arith, a, b, c, d)

one-more : (cards : ℕ) → cards ≤ 33555457 → cards + 1 ≤ 33555458
one-more cards few = omega (arith, few)

from-none : (all cards : ℕ) (most : ℕ → ℕ) → cards ≡ all → most all ≤ 200000000000000000000000000000 → most cards - 0 ≤ 200000000000000000000000000000
from-none all cards most e few = subst (λ n. most n - 0 ≤ 200000000000000000000000000000) (sym e) (less-none (most all) _ few) where
  less-none : (n bound : ℕ) → n ≤ bound → n - 0 ≤ bound
  less-none n bound few = omega (arith, few)

-- ---- each event leaves fewer
fewer-left : (all all' past : ℕ) → all' ≤ all → past + 1 ≤ all' → all' - (past + 1) < all - past
fewer-left all all' past less some = omega (arith, less, some)

module _ {L : Type 0} {J : Jobs L} (jobs : AreJobs J) where
  most-less : (a b : ℕ) → a ≤ b → most_with J a ≤ most_with J b
  most-less a b less = times-less (7647 * line_pages J + 7744) (a + 1) (b + 1) (omega (arith, less))

  pub leaves-fewer : (o : Opening J) (s : TwinState L) (event : TwinEvent L) (cards left : ℕ) → IsReached o s → IsEnabled (twin J) s event
      → DrawsFrom event.entry cards left
      → events_left J left (happens (twin J) s event) < events_left J cards s
  leaves-fewer o s event cards left reached is draws =
      let after = happens (twin J) s event in
      let fewer = all-fewer J s event cards left is draws in
      let few = few-events jobs o after (reached-more (the_law J) (first_state o) s event reached is) in
      let within = most-less (length (read_all (after.histories 1))) (cards_in_all left after) (omega arith) in
      let one = one-entry J s event is.one in
      subst (λ n. most_with J (cards_in_all left after) - n < events_left J cards s) (sym one)
      (fewer-left (most_with J (cards_in_all cards s)) (most_with J (cards_in_all left after)) (events_so_far s)
      (most-less (cards_in_all left after) (cards_in_all cards s) fewer)
      (let a : events_so_far s + 1 ≤ most_with J (length (read_all (after.histories 1))) = subst
      (λ n. n ≤ most_with J (length (read_all (after.histories 1)))) one few in omega (arith, a, within)))

  pub opening-within : (o : Opening J) (cards : ℕ) → cards ≤ 33555457 → events_left J cards (first_state o) ≤ most_events
  opening-within o cards few =
      let n = cards + 1 in
      from-none cards (cards_in_all cards (first_state o)) (most_with J) (omega arith)
      (bounded (most_with J cards) (line_pages J * n) (J.most * n) n (whole (line_pages J) n) (lines-too J.most n)
      (most-product J.most n 404000000000000 33555458 jobs.countable (one-more cards few)) (one-more cards few))

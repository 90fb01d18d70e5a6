-- Where the last was taken and nothing was damaged, each of the five puts its last.
use Rattle.std.proofs.Common.{◌≡◌, ℕ, ◌+◌, ◌%◌, ◌^◌, ◌<◌, Bool, true, false, List, [], ◌∷◌, ◌++◌, length, map, Option, None, Some, Result, Ok, Err, refl, sym, ◌∙◌, ap, subst, arith, lit≤}
use Rattle.std.specs.Prelude.{option_to_list}
use Rattle.std.proofs.lemmas.List.{append-nil}
use Rattle.std.specs.List.{AllByRecursion}
use Rattle.solo_base.specs.declared.item.Item.{Item}
use Rattle.solo_base.specs.declared.item.Item.TheVariants.{Line}
use Rattle.solo_base.specs.declared.item.Feed.{Feed}
use Rattle.solo_base.specs.declared.item.Feed.TheVariants as feed
use Rattle.solo_base.specs.declared.outcome.Outcome.{Outcome}
use Rattle.solo_base.specs.declared.page.Page.{Page}
use Rattle.solo_devices.specs.declared.card_read.CardRead.{CardRead}
use Rattle.solo_devices.specs.declared.card_read.CardRead.TheVariants as read
use Rattle.page_codec.specs.declared.judge.BadPage.{BadPage}
use Rattle.page_codec.specs.Packing.{PageInHand, first_page, page_given, hand_after}
use Rattle.page_codec.specs.Reading.{PageContent, page_read}
use Rattle.batch_procs.specs.declared.actions.Action.{Action}
use Rattle.batch_procs.specs.declared.actions.Action.TheVariants as act
use Rattle.batch_procs.specs.declared.actions.Reply.{Reply}
use Rattle.batch_procs.specs.declared.actions.Reply.TheVariants as reply
use Rattle.batch_procs.specs.Parcels.{Parcel, OfFeed, OfPage, OfLine, OfLoad, is_ended, pages, loads, handed, IsAFeed}
use Rattle.batch_procs.specs.History.{Entry, Does, LacksMemory, Delays, card_taken, taken, taken_by}
use Rattle.batch_procs.specs.Fits.{Fits, MayLack}
use Rattle.batch_procs.specs.Causes.{caused, or_new, given_cause, damage, place}
use Rattle.batch_procs.specs.Process.{Process, Follows, unworked, next_action}
use Rattle.batch_procs.specs.Laws.{IsTake}
use Rattle.batch_procs.specs.Sends.{feeds, as_parcels, marked, packed, items_then, unpacked, items, has_end, stream, job_lines, lines_of}
use Rattle.batch_procs.specs.Table.{card, input, job, output, process}
use Rattle.batch_procs.proofs.Closing.{or-none}
use Rattle.batch_procs.proofs.Holding.{some-not_none}
use Rattle.batch_procs.specs.Relays.{relays}
use Rattle.core_law.specs.Core.{IsBuffer}
use Rattle.core_law.proofs.HandedLists.{handed-append, ended-handed, feeds-handed}
use Rattle.core_law.proofs.Loading.{job-worked, none-named}
use Rattle.core_law.proofs.Taking.{next-take}
use Rattle.core_law.proofs.Row.{IsRow, by-number, not-none, prints-law, reads-law, bounds-law, beside-law, loads-law, lines-are, row-laws}
use Rattle.batch_procs.specs.Jobs.{Jobs, AreJobs}

module _ {L : Type 0} {J : Jobs L} (jobs : AreJobs J) where
  -- ---- what was taken, by kind
  all-more : (Is : Parcel L → Type 0) (some more : List (Parcel L)) → AllByRecursion Is some → AllByRecursion Is more → AllByRecursion Is (some ++ more)
  all-more Is [] more a b = b
  all-more Is (x ∷ some) more a b = (a.0, all-more Is some more a.1 b)

  no-page : (p : Process L) (h : List (Entry L)) → (p.takes ≡ act.TakePage → ⊥) → next_action p h ≡ Some act.TakePage → ⊥
  no-page p h not next = not (next-take jobs p h act.TakePage next tt).same

  card-feeds : (answer : CardRead) → AllByRecursion IsAFeed (handed (card_taken {L = L} answer))
  card-feeds (read.Card line) = (tt, tt)
  card-feeds read.Spoiled = (tt, tt)
  card-feeds read.End = (tt, tt)
  card-feeds read.Failed = tt
  card-feeds read.Limit = tt

  -- ---- what a reply that fits gave
  -- of a buffer or the deck nothing, if it is no take
  pub takes-nothing : (a : Action) (r : Reply L) → Fits J a r → (IsTake a → ⊥) → handed (taken_by r) ≡ []
  takes-nothing a reply.Done fits not = refl
  takes-nothing a reply.Stopped fits not = refl
  takes-nothing a reply.Failed fits not = refl
  takes-nothing a reply.NoMemory fits not = refl
  takes-nothing act.ReadCard (reply.Card answer) fits not = absurd (not tt)
  takes-nothing act.TakeFeed (reply.Feed f) fits not = absurd (not tt)
  takes-nothing act.TakePage (reply.Page page last) fits not = absurd (not tt)
  takes-nothing (act.Load file) (reply.Loaded load) fits not = refl
  takes-nothing a r fits not = absurd fits

  feed-reply : (r : Reply L) → Fits J act.TakeFeed r → AllByRecursion IsAFeed (handed (taken_by r))
  feed-reply (reply.Feed f) fits = (tt, tt)
  feed-reply reply.Stopped fits = tt
  feed-reply r fits = absurd fits

  read-reply : (r : Reply L) → Fits J act.ReadCard r → AllByRecursion IsAFeed (handed (taken_by r))
  read-reply (reply.Card answer) fits = card-feeds answer
  read-reply r fits = absurd fits

  feeds-more : (some more : List (Parcel L)) → AllByRecursion IsAFeed (handed some) → AllByRecursion IsAFeed (handed more)
      → AllByRecursion IsAFeed (handed (some ++ more))
  feeds-more some more a b = rw (handed-append jobs some more) (all-more IsAFeed (handed some) (handed more) a b)

  feeds-same : (some more : List (Parcel L)) → handed more ≡ [] → AllByRecursion IsAFeed (handed some) → AllByRecursion IsAFeed (handed (some ++ more))
  feeds-same some more none all = feeds-more some more all (rw none tt)

  feeds-after : (p : Process L) (h : List (Entry L)) (a : Action) (r : Reply L) → (p.takes ≡ act.TakePage → ⊥) → next_action p h ≡ Some a → Fits J a r
      → AllByRecursion IsAFeed (handed (taken h)) → AllByRecursion IsAFeed (handed (taken h ++ taken_by r))
  feeds-after p h act.ReadCard r not next fits all = feeds-more (taken h) (taken_by r) all (read-reply r fits)
  feeds-after p h act.TakeFeed r not next fits all = feeds-more (taken h) (taken_by r) all (feed-reply r fits)
  feeds-after p h act.TakePage r not next fits all = absurd (no-page p h not next)
  feeds-after p h a r not next fits all = feeds-same (taken h) (taken_by r) (takes-nothing a r fits (λ is. is)) all

  lacks-nothing : (p : Process L) (h : List (Entry L)) (a : Action) (r : Reply L) → (p.takes ≡ act.TakePage → ⊥) → next_action p h ≡ Some a → MayLack a r
      → AllByRecursion IsAFeed (handed (taken h)) → AllByRecursion IsAFeed (handed (taken h ++ taken_by r))
  lacks-nothing p h act.TakePage r not next lack all = absurd (no-page p h not next)
  lacks-nothing p h act.Local reply.Done not next lack all = rw (append-nil (taken h)) all
  lacks-nothing p h a r not next lack all = absurd lack

  feeds-taken : (p : Process L) (h : List (Entry L)) → (p.takes ≡ act.TakePage → ⊥) → Follows J p h → AllByRecursion IsAFeed (handed (taken h))
  feeds-taken p [] not follows = tt
  feeds-taken p (Does a r ∷ h) not follows = feeds-after p h a r not follows.0 follows.1 (feeds-taken p h not follows.2)
  feeds-taken p (LacksMemory a r ∷ h) not follows = lacks-nothing p h a r not follows.0 follows.1.1 (feeds-taken p h not follows.2)
  feeds-taken p (Delays a ∷ h) not follows = feeds-taken p h not follows.2

  feeds-end : (all : List (Parcel L)) → AllByRecursion IsAFeed all → is_ended all ≡ true → has_end (feeds all) ≡ true
  feeds-end [] are e = absurd cc
  feeds-end (OfFeed (feed.Item item) ∷ rest) are e = feeds-end rest are.1 e
  feeds-end (OfFeed feed.End ∷ rest) are e = refl
  feeds-end (OfPage page last ∷ rest) are e = absurd are.0
  feeds-end (OfLine line ∷ rest) are e = absurd are.0
  feeds-end (OfLoad load ∷ rest) are e = absurd are.0

  taken-end : (p : Process L) (h : List (Entry L)) → (p.takes ≡ act.TakePage → ⊥) → Follows J p h → is_ended (taken h) ≡ true → has_end (feeds (taken h)) ≡ true
  taken-end p h not follows e =
      ap has_end (sym (feeds-handed jobs (taken h))) ∙ feeds-end (handed (taken h)) (feeds-taken p h not follows) (ended-handed jobs (taken h) ∙ e)

  -- ---- pages that were read without damage, from a place on; loads are passed over
  abbrev pub IsSound : ℕ → List (Parcel L) → Type 0
  IsSound at [] = Unit {0}
  IsSound at (OfPage page last ∷ rest) = ((content : PageContent) × (page_read at last page ≡ Ok content)) × IsSound ((at + 1) % 2 ^ 16) rest
  IsSound at (OfFeed f ∷ rest) = ⊥
  IsSound at (OfLine line ∷ rest) = ⊥
  IsSound at (OfLoad load ∷ rest) = IsSound at rest

  sound-more : (all : List (Parcel L)) (at : ℕ) (page : Page) (last : Bool) → at < 2 ^ 16 → IsSound at all
      → (content : PageContent) × (page_read ((at + length (pages all)) % 2 ^ 16) last page ≡ Ok content) → IsSound at (all ++ OfPage page last ∷ [])
  sound-more [] at page last small sound (content, e) = ((content, subst (λ n. page_read n last page ≡ Ok content) (omega (arith, small)) e), tt)
  sound-more (OfPage first mark ∷ rest) at page last small sound (content, e) =
      (sound.0, sound-more rest ((at + 1) % 2 ^ 16) page last (omega arith) sound.1 (content, subst (λ n. page_read n last page ≡ Ok content) (omega arith) e))
  sound-more (OfFeed f ∷ rest) at page last small sound is = absurd sound
  sound-more (OfLine line ∷ rest) at page last small sound is = absurd sound
  sound-more (OfLoad load ∷ rest) at page last small sound is = sound-more rest at page last small sound is

  -- what is no page leaves it sound
  no-pages : (more : List (Parcel L)) (at : ℕ) → handed more ≡ [] → IsSound at more
  no-pages [] at none = tt
  no-pages (OfLoad load ∷ rest) at none = no-pages rest at none
  no-pages (OfPage page last ∷ rest) at none = absurd cc
  no-pages (OfFeed f ∷ rest) at none = absurd cc
  no-pages (OfLine line ∷ rest) at none = absurd cc

  sound-same : (all more : List (Parcel L)) (at : ℕ) → handed more ≡ [] → IsSound at all → IsSound at (all ++ more)
  sound-same [] more at none is = no-pages more at none
  sound-same (OfPage page last ∷ all) more at none is = (is.0, sound-same all more ((at + 1) % 2 ^ 16) none is.1)
  sound-same (OfLoad load ∷ all) more at none is = sound-same all more at none is
  sound-same (OfFeed f ∷ all) more at none is = absurd is
  sound-same (OfLine line ∷ all) more at none is = absurd is

  damage-none : (read : Result PageContent BadPage) → damage read ≡ None → (content : PageContent) × (read ≡ Ok content)
  damage-none (Ok content) e = (content, refl)
  damage-none (Err bad) e = absurd cc

  or-second : (old new : Option Outcome) → or_new old new ≡ None → new ≡ None
  or-second None new e = e
  or-second (Some how) new e = absurd cc

  no-feed : (p : Process L) (h : List (Entry L)) (a : Action) → p.takes ≡ act.TakePage → next_action p h ≡ Some a → IsTake a → act.TakePage ≡ a
  no-feed p h a is next take = sym is ∙ (next-take jobs p h a next take).same

  page-sound : (h : List (Entry L)) (r : Reply L) → Fits J act.TakePage r → or_new (caused h) (given_cause act.TakePage r h) ≡ None → IsSound 0 (taken h)
      → IsSound 0 (taken h ++ taken_by r)
  page-sound h (reply.Page page last) fits none is = sound-more (taken h) 0 page last (lit≤ tt) is
      (subst (λ n. (content : PageContent) × (page_read n last page ≡ Ok content)) (omega arith)
      (damage-none (page_read (place h) last page) (or-second (caused h) (damage (page_read (place h) last page)) none)))
  page-sound h reply.Failed fits none is = sound-same (taken h) [] 0 refl is
  page-sound h r fits none is = absurd fits

  sound-after : (p : Process L) (h : List (Entry L)) (a : Action) (r : Reply L) → p.takes ≡ act.TakePage → next_action p h ≡ Some a → Fits J a r
      → or_new (caused h) (given_cause a r h) ≡ None → IsSound 0 (taken h) → IsSound 0 (taken h ++ taken_by r)
  sound-after p h act.TakePage r takes next fits none is = page-sound h r fits none is
  sound-after p h act.ReadCard r takes next fits none is = absurd (let e = no-feed p h act.ReadCard takes next tt in cc)
  sound-after p h act.TakeFeed r takes next fits none is = absurd (let e = no-feed p h act.TakeFeed takes next tt in cc)
  sound-after p h a r takes next fits none is = sound-same (taken h) (taken_by r) 0 (takes-nothing a r fits (λ is. is)) is

  sound-taken : (p : Process L) (h : List (Entry L)) → p.takes ≡ act.TakePage → Follows J p h → caused h ≡ None → IsSound 0 (taken h)
  sound-taken p [] takes follows none = tt
  sound-taken p (Does a r ∷ h) takes follows none =
      sound-after p h a r takes follows.0 follows.1 none (sound-taken p h takes follows.2 (or-none (caused h) (given_cause a r h) none))
  sound-taken p (LacksMemory a r ∷ h) takes follows none = absurd (some-not_none (caused h) _ none)
  sound-taken p (Delays a ∷ h) takes follows none = sound-taken p h takes follows.2 none

  items-end : (front : List Item) (rest : List Feed) → has_end (items_then front rest) ≡ has_end rest
  items-end [] rest = refl
  items-end (item ∷ front) rest = items-end front rest

  unpacked-end : (all : List (Parcel L)) (at : ℕ) → IsSound at all → is_ended all ≡ true → has_end (unpacked at all) ≡ true
  unpacked-end [] at sound e = absurd cc
  unpacked-end (OfPage page true ∷ rest) at sound e = rw sound.0.1 (items-end sound.0.0.items (feed.End ∷ []))
  unpacked-end (OfPage page false ∷ rest) at sound e = rw sound.0.1 (items-end sound.0.0.items (unpacked ((at + 1) % 2 ^ 16) rest)
      ∙ unpacked-end rest ((at + 1) % 2 ^ 16) sound.1 e)
  unpacked-end (OfFeed f ∷ rest) at sound e = absurd sound
  unpacked-end (OfLine line ∷ rest) at sound e = absurd sound
  unpacked-end (OfLoad load ∷ rest) at sound e = unpacked-end rest at sound e

  -- ---- what is put
  stream-end : (front : List Item) (ended : Bool) → ended ≡ true → is_ended (as_parcels {L = L} (stream front ended)) ≡ true
  stream-end [] ended e = rw e refl
  stream-end (item ∷ rest) ended e = stream-end rest ended e

  has_end-stream : (front : List Item) (ended : Bool) → ended ≡ true → has_end (stream front ended) ≡ true
  has_end-stream [] ended e = rw e refl
  has_end-stream (item ∷ rest) ended e = has_end-stream rest ended e

  given-end : (given : Option Page) (rest : List (Parcel L)) → is_ended (marked false (option_to_list given) ++ rest) ≡ is_ended rest
  given-end None rest = refl
  given-end (Some page) rest = refl

  packed-end : (hand : PageInHand) (all : List Feed) → has_end all ≡ true → is_ended (packed {L = L} hand all) ≡ true
  packed-end hand [] e = absurd cc
  packed-end hand (feed.Item item ∷ rest) e = given-end (page_given hand item) (packed (hand_after hand item) rest) ∙ packed-end (hand_after hand item) rest e
  packed-end hand (feed.End ∷ rest) e = refl

  -- ---- the five
  abbrev EndsLaw : Process L → Type 0
  EndsLaw q =
      (h : List (Entry L)) → Follows J q h → caused h ≡ None → unworked q h ≡ false → is_ended (taken h) ≡ true → is_ended (q.sends (taken h)) ≡ true

  card-ends : EndsLaw card
  card-ends h follows none worked e = stream-end (items (feeds (taken h))) (has_end (feeds (taken h))) (taken-end card h (λ e. cc) follows e)

  input-ends : EndsLaw input
  input-ends h follows none worked e = packed-end first_page (feeds (taken h)) (taken-end input h (λ e. cc) follows e)

  abbrev all_of : List (Entry L) → List Feed
  all_of h = unpacked 0 (taken h)

  job-ends : EndsLaw (job J)
  job-ends h follows none worked e =
      let named = items (all_of h) in
      let found = loads (taken h) in
      let end = has_end (all_of h) in
      let loaded = jobs.all_loaded named found end (none-named jobs h (job-worked jobs h follows none worked)) in
      packed-end first_page (job_lines J (all_of h) found) (has_end-stream (map Line (J.lines named found end)) (J.whole named found end)
      (loaded ∙ unpacked-end (taken h) 0 (sound-taken (job J) h refl follows none) e))

  output-ends : EndsLaw output
  output-ends h follows none worked e = stream-end (map Line (lines_of (items (all_of h)))) (has_end (all_of h))
      (unpacked-end (taken h) 0 (sound-taken output h refl follows none) e)

  ends-law : (p : ℕ) → IsBuffer p → EndsLaw (process J p)
  ends-law p is =
      by-number jobs EndsLaw p (λ e. card-ends) (λ e. input-ends) (λ e. job-ends) (λ e. output-ends)
      (λ e. (let below = is.1 in absurd (omega (arith, e, below))))
      (λ none. absurd (not-none p none is))

  -- The five of the table are a row.
  pub the-five : IsRow jobs (process J)
  the-five = record {
    relays = relays jobs;
    reads = reads-law jobs;
    first = refl;
    prints = prints-law jobs;
    prints_only = λ all. lines-are jobs (lines_of (items (feeds all)));
    feeds = (row-laws jobs).feeds;
    pages = (row-laws jobs).pages;
    bounds = bounds-law jobs;
    both = (row-laws jobs).both;
    beside = beside-law jobs;
    ends = ends-law;
    loads = loads-law jobs;
  }

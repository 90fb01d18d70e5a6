-- Over told devices a run is no longer than its cards and lines allow.
use Rattle.std.proofs.Common.{◌≡◌, ℕ, suc, ◌+◌, ◌*◌, ◌≤◌, Bool, true, false, List, [], ◌∷◌, ◌++◌, map, length, length-append, Option, None, Some, refl, sym, ◌∙◌, ap, subst, arith}
use Rattle.std.specs.Prelude.{option_to_list}
use Rattle.std.proofs.lemmas.List.{length-map}
use Rattle.solo_base.specs.declared.item.Item.{Item}
use Rattle.solo_base.specs.declared.item.Item.TheVariants.{Line}
use Rattle.solo_base.specs.declared.item.Feed.{Feed}
use Rattle.solo_base.specs.declared.item.Feed.TheVariants as feed
use Rattle.solo_base.specs.declared.page.Page.{Page}
use Rattle.page_codec.specs.Items.{AreItems}
use Rattle.page_codec.specs.Packing.{PageInHand, first_page, page_given, hand_after}
use Rattle.solo_base.specs.Prefixes.{IsPrefixOf}
use Rattle.batch_procs.specs.declared.actions.Action.{Action}
use Rattle.batch_procs.specs.declared.actions.Action.TheVariants as act
use Rattle.batch_procs.specs.declared.actions.Reply.{Reply}
use Rattle.batch_procs.specs.declared.actions.Reply.TheVariants as reply
use Rattle.batch_procs.specs.Ahead.{one_if}
use Rattle.batch_procs.specs.Parcels.{Parcel, loads, handed}
use Rattle.batch_procs.specs.History.{Entry, Does, LacksMemory, Delays, action_of, taken, sent, holds}
use Rattle.batch_procs.specs.Fits.{Fits, MayLack}
use Rattle.batch_procs.specs.Laws.{IsRelay, IsHeld}
use Rattle.batch_procs.specs.Process.{Process, IsFitting, Follows, aim}
use Rattle.batch_procs.specs.Sends.{as_parcels, as_lines, marked, packed, card_sends, input_sends, output_sends}
use Rattle.batch_procs.specs.Table.{process}
use Rattle.batch_procs.proofs.Bounds.{parcels-length, packed-length}
use Rattle.batch_procs.proofs.Falling.{one-most}
use Rattle.batch_procs.proofs.Held.{IsFree}
use Rattle.batch_procs.proofs.Machines.{not-held}
use Rattle.network_law.specs.Acts.{is_delayed}
use Rattle.network_run.specs.Law.{AreEnabled, run}
use Rattle.network_law.specs.Network.{happens}
use Rattle.network_law.specs.Kept.{Stands}
use Rattle.network_law.proofs.Reached.{stands-event}
use Rattle.core_law.specs.Bound.{longest_run}
use Rattle.core_law.specs.Core.{call, core, went, CoreState, CoreEvent, IsBuffer}
use Rattle.core_law.specs.Ends.{IsProcess}
use Rattle.core_law.specs.Holds.{AreTold, AreFound}
use Rattle.core_law.specs.Opening.{Opening, first_state}
use Rattle.core_law.specs.TheLaw.{the_law, IsReached}
use Rattle.core_law.specs.Work.{sleepers}
use Rattle.core_law.proofs.Acting.{follows-of, answered}
use Rattle.core_law.proofs.CallsCaused.{HasSlack, made-most}
use Rattle.core_law.proofs.CallsMade.{counts, counts_by, made, put_sum, sum-append, free-left}
use Rattle.core_law.proofs.Ends.{the-five}
use Rattle.core_law.proofs.FewSleep.{IsPlain, plain-next, card-aims, printer-aims, seven-sleep}
use Rattle.core_law.proofs.KeepsDevices.{prefix-longer}
use Rattle.core_law.proofs.Lawful.{lawful}
use Rattle.core_law.proofs.HandedLists.{loads-handed, job_puts}
use Rattle.core_law.proofs.Passing.{HandOver, AreFoundBy, all-taken, loads-part, loaded-part, sent-part, part-of, took-1, took-2, took-3, put-3, took-4, took-5}
use Rattle.core_law.proofs.Reached.{centre-run, opening-centre, told-is, all-told, all-sized, hands-over, found-by}
use Rattle.core_law.proofs.Row.{each-process}
use Rattle.core_law.proofs.RoundTrip.{whole, card-gives, input-gives, job-gives, output-gives, output-is, as-named}
use Rattle.core_law.proofs.Sleeping.{Slept, wakes}
use Rattle.core_law.proofs.Streams.{deck_parcels, loads_of, output_of, ReadsOf, DevicesStand}
use Rattle.core_law.proofs.WorkFalls.{slept}
use Rattle.batch_procs.specs.Jobs.{Jobs, AreJobs, FilesAs, one_thread}

module _ {L : Type 0} {J : Jobs L} (jobs : AreJobs J) where
  -- ---- an event counts itself and what it wakes
  wakes-does : (p : ℕ) (a : Action) (r : Reply L) → Fits J a r → 1 + wakes jobs (call p a) (went (Does a r)) ≤ counts_by jobs a r
  wakes-does p act.ReadCard (reply.Card answer) fits = omega arith
  wakes-does p (act.PutFeed f) reply.Done fits = omega arith
  wakes-does p (act.PutFeed f) reply.Stopped fits = omega arith
  wakes-does p act.TakeFeed (reply.Feed f) fits = omega arith
  wakes-does p act.TakeFeed reply.Stopped fits = omega arith
  wakes-does p act.AwaitRoom reply.Done fits = omega arith
  wakes-does p act.AwaitRoom reply.Stopped fits = omega arith
  wakes-does p act.AwaitItem reply.Done fits = omega arith
  wakes-does p act.AwaitItem reply.Stopped fits = omega arith
  wakes-does p act.Request reply.Done fits = omega arith
  wakes-does p (act.PutPage page) reply.Done fits = omega arith
  wakes-does p (act.PutPage page) reply.Failed fits = omega arith
  wakes-does p act.TakePage (reply.Page page last) fits = omega arith
  wakes-does p act.TakePage reply.Failed fits = omega arith
  wakes-does p act.Release reply.Done fits = omega arith
  wakes-does p (act.Load file) (reply.Loaded load) fits = omega arith
  wakes-does p (act.Load file) reply.Failed fits = omega arith
  wakes-does p (act.Load file) reply.NoMemory fits = omega arith
  wakes-does p act.Local reply.Done fits = omega arith
  wakes-does p (act.Print line) reply.Done fits = omega arith
  wakes-does p (act.Print line) reply.Failed fits = omega arith
  wakes-does p (act.Print line) reply.NoMemory fits = omega arith
  wakes-does p (act.Stop b) reply.Done fits = omega arith
  wakes-does p (act.Ended how) reply.Done fits = omega arith
  wakes-does p a r fits = absurd fits

  wakes-lacks : (p : ℕ) (a : Action) (r : Reply L) → MayLack a r → 1 + wakes jobs (call p a) (went (LacksMemory a r)) ≤ counts_by jobs a r
  wakes-lacks p act.TakePage (reply.Page page last) may = omega arith
  wakes-lacks p act.Local reply.Done may = omega arith
  wakes-lacks p a r may = absurd may

  more-or-sleeps : (q : Process L) (p : ℕ) (entry : Entry L) (s now : ℕ) → IsFitting J q entry
      → Slept jobs (is_delayed (went entry)) (wakes jobs (call p (action_of entry)) (went entry)) s now → s + 1 ≤ counts jobs entry + now
  more-or-sleeps q p (Does a r) s now fits sleep =
      let wakes_few = wakes-does p a r fits in
      let rest : s ≤ now + wakes jobs (call p a) (went (Does a r)) = subst (λ d. Slept jobs d (wakes jobs (call p a) (went (Does a r))) s now)
      (answered jobs (Does a r)
      (λ b e. cc)) sleep in
      omega (arith, wakes_few, rest)
  more-or-sleeps q p (LacksMemory a r) s now fits sleep =
      let wakes_few = wakes-lacks p a r fits.1 in
      let rest : s ≤ now + wakes jobs (call p a) (went (LacksMemory a r))
      = subst (λ d. Slept jobs d (wakes jobs (call p a) (went (LacksMemory a r))) s now) (answered jobs (LacksMemory a r) (λ b e. cc)) sleep in
      omega (arith, wakes_few, rest)
  more-or-sleeps q p (Delays a) s now fits sleep = omega (arith, sleep)

  -- ---- all that was made
  abbrev all_made : CoreState L → ℕ
  all_made s = made jobs (s.histories 1) + made jobs (s.histories 2) + made jobs (s.histories 3) + made jobs (s.histories 4) + made jobs (s.histories 5)

  sum-1 : (c a b d e f : ℕ) → c + a + b + d + e + f ≡ a + b + d + e + f + c
  sum-1 c a b d e f = omega arith

  sum-2 : (c a b d e f : ℕ) → a + (c + b) + d + e + f ≡ a + b + d + e + f + c
  sum-2 c a b d e f = omega arith

  sum-3 : (c a b d e f : ℕ) → a + b + (c + d) + e + f ≡ a + b + d + e + f + c
  sum-3 c a b d e f = omega arith

  sum-4 : (c a b d e f : ℕ) → a + b + d + (c + e) + f ≡ a + b + d + e + f + c
  sum-4 c a b d e f = omega arith

  sum-5 : (c a b d e f : ℕ) → a + b + d + e + (c + f) ≡ a + b + d + e + f + c
  sum-5 c a b d e f = omega arith

  module _ (s : CoreState L) (entry : Entry L) (gained : List ℕ) where
    made-at : (p : ℕ) → IsProcess p → all_made (happens (core J (process J)) s record { process = p; entry = entry; gained = gained })
        ≡ all_made s + counts jobs entry
    made-at p one =
        each-process (λ p. all_made (happens (core J (process J)) s record { process = p; entry = entry; gained = gained })
        ≡ all_made s + counts jobs entry) p one
        (sum-1 (counts jobs entry) (made jobs (s.histories 1)) (made jobs (s.histories 2)) (made jobs (s.histories 3)) (made jobs (s.histories 4))
        (made jobs (s.histories 5)))
        (sum-2 (counts jobs entry) (made jobs (s.histories 1)) (made jobs (s.histories 2)) (made jobs (s.histories 3)) (made jobs (s.histories 4))
        (made jobs (s.histories 5)))
        (sum-3 (counts jobs entry) (made jobs (s.histories 1)) (made jobs (s.histories 2)) (made jobs (s.histories 3)) (made jobs (s.histories 4))
        (made jobs (s.histories 5)))
        (sum-4 (counts jobs entry) (made jobs (s.histories 1)) (made jobs (s.histories 2)) (made jobs (s.histories 3)) (made jobs (s.histories 4))
        (made jobs (s.histories 5)))
        (sum-5 (counts jobs entry) (made jobs (s.histories 1)) (made jobs (s.histories 2)) (made jobs (s.histories 3)) (made jobs (s.histories 4))
        (made jobs (s.histories 5)))

  add-up : (n k m c s now all sl : ℕ) → k ≡ m + c → s + 1 ≤ c + now → n + k + now ≤ all + sl → suc n + m + s ≤ all + sl
  add-up n k m c s now all sl is more rest = omega (arith, is, more, rest)

  -- Each event of a list is counted, or sleeps.
  events-counted : (opening s : CoreState L) (events : List (CoreEvent L)) → AreEnabled (the_law J) s events → Stands (core J (process J)) opening s
      → length events + all_made s + sleepers s ≤ all_made (run (the_law J) s events) + sleepers (run (the_law J) s events)
  events-counted opening s [] are st = omega arith
  events-counted opening s (event ∷ events) are st =
      let enabled = are.0 in
      let next = happens (core J (process J)) s event in
      add-up (length events) (all_made next) (all_made s) (counts jobs event.entry) (sleepers s) (sleepers next) _ _
      (made-at s event.entry event.gained event.process enabled.one)
      (more-or-sleeps (process J event.process) event.process event.entry (sleepers s) (sleepers next) enabled.suits (slept jobs opening s event st enabled))
      (events-counted opening next events are.1 (stands-event (lawful jobs (the-five jobs)) opening s event st enabled))

  -- ---- what closing down has left
  plain-is_free : (a : Action) → IsPlain a → IsFree a
  plain-is_free act.Request is = absurd is
  plain-is_free act.Release is = absurd is
  plain-is_free (act.PutPage page) is = absurd is
  plain-is_free act.TakePage is = absurd is
  plain-is_free (act.Load file) is = absurd is
  plain-is_free other is = tt

  plain-not_held : (a : Action) → IsPlain a → IsHeld a → ⊥
  plain-not_held (act.PutPage page) is held = is
  plain-not_held act.TakePage is held = is
  plain-not_held act.Release is held = is
  plain-not_held (act.Load file) is held = is
  plain-not_held other is held = held

  plain-slack : (p : Process L) → IsRelay p → ((h : List (Entry L)) → IsPlain (aim p h)) → length p.buffers ≡ 1 → HasSlack jobs p 2
  plain-slack p relay aims one h a follows none next =
      let is = plain-next jobs p relay aims h a follows next in
      let two = free-left jobs p h a relay follows next none (plain-is_free a is) (plain-not_held a is) in
      let off : one_if (holds h) ≡ 0 = ap one_if (not-held J p h a relay follows next (plain-not_held a is)) in
      omega (arith, two, off, one)

  pages-slack : (p : Process L) → length p.buffers ≡ 2 → HasSlack jobs p 8
  pages-slack p two h a follows none next = (let most = one-most (holds h) in omega (arith, two, most))

  -- ---- sums over whole lists
  part-length : {X : Type 0} (part all : List X) → IsPrefixOf part all → length part ≤ length all
  part-length part all (rest, e) = (let same = sym (length-append part rest) ∙ ap length e in omega (arith, same))

  part-sum : (works : Bool) (part all : List (Parcel L)) → IsPrefixOf part all → put_sum jobs works part ≤ put_sum jobs works all
  part-sum works part all (rest, e) = (let same = sym (sum-append jobs works part rest) ∙ ap (put_sum jobs works) e in omega (arith, same))

  sum-feeds : (fs : List Feed) → put_sum jobs false (as_parcels fs) ≡ 2 * length fs
  sum-feeds [] = refl
  sum-feeds (f ∷ rest) = (let more = sum-feeds rest in omega (arith, more))

  sum-lines : (lines : List (List ℕ)) → put_sum jobs false (as_lines lines) ≡ length lines
  sum-lines [] = refl
  sum-lines (line ∷ rest) = (let more = sum-lines rest in omega (arith, more))

  given-sum : (works : Bool) (given : Option Page) → put_sum jobs works (marked false (option_to_list given)) ≤ 6 + one_if works
  given-sum works None = omega arith
  given-sum works (Some page) = omega arith

  packed-six : (hand : PageInHand) (fs : List Feed) → put_sum jobs false (packed hand fs) ≤ 6 * length fs
  packed-six hand [] = omega arith
  packed-six hand (feed.Item item ∷ rest) =
      let one = given-sum false (page_given hand item) in
      let more = packed-six (hand_after hand item) rest in
      let both = sum-append jobs false (marked false (option_to_list (page_given hand item))) (packed (hand_after hand item) rest) in
      omega (arith, one, more, both)
  packed-six hand (feed.End ∷ rest) = omega arith

  packed-seven : (hand : PageInHand) (fs : List Feed) → put_sum jobs true (packed hand fs) ≤ 7 * length fs
  packed-seven hand [] = omega arith
  packed-seven hand (feed.Item item ∷ rest) =
      let one = given-sum true (page_given hand item) in
      let more = packed-seven (hand_after hand item) rest in
      let both = sum-append jobs true (marked false (option_to_list (page_given hand item))) (packed (hand_after hand item) rest) in
      omega (arith, one, more, both)
  packed-seven hand (feed.End ∷ rest) = omega arith

  deck-length : (items : List Item) → length (deck_parcels jobs items) ≡ length items + 1
  deck-length [] = refl
  deck-length (item ∷ rest) = (let more = deck-length rest in omega (arith, more))

  whole-length : (items : List Item) → length (whole items) ≡ length items + 1
  whole-length [] = refl
  whole-length (item ∷ rest) = (let more = whole-length rest in omega (arith, more))

  -- ---- a reached state over told devices
  all-in-all : (c l t1 n1 p1 t2 n2 p2 t3 n3 p3 t4 n4 p4 t5 n5 p5 m1 m2 m3 m4 m5 : ℕ) → m1 ≤ 2 + (1 * t1 + 5 * n1 + p1) + 2
      → m2 ≤ 2 + (2 * t2 + 5 * n2 + p2) + 8 → m3 ≤ 2 + (7 * t3 + 5 * n3 + p3) + 8 → m4 ≤ 2 + (6 * t4 + 5 * n4 + p4) + 8
      → m5 ≤ 2 + (2 * t5 + 5 * n5 + p5) + 2 → n1 ≡ 0 → n2 ≡ 0 → n3 ≤ c → n4 ≡ 0 → n5 ≡ 0
      → t1 ≤ c + 1 → p1 ≤ 2 * (c + 1) → t2 ≤ c + 1 → p2 ≤ 6 * (c + 1) → t3 ≤ c + 1
      → p3 ≤ 7 * (l + 1) → t4 ≤ l + 1 → p4 ≤ 2 * (l + 1) → t5 ≤ l + 1 → p5 ≤ l → m1 + m2 + m3 + m4 + m5 ≤ 23 * c + 18 * l + 73
  all-in-all c l t1 n1 p1 t2 n2 p2 t3 n3 p3 t4 n4 p4 t5 n5 p5 m1 m2 m3 m4 m5 a b d e f v w x y z g h i j k n o q r u =
      omega (arith, a, b, d, e, f, v, w, x, y, z, g, h, i, j, k, n, o, q, r, u)

  module _ (opening s : CoreState L) (st : Stands (core J (process J)) opening s) (d : DevicesStand jobs (process J) opening s)
      (hand_over : HandOver jobs s.histories) (items : List Item) (deck : opening.devices.deck ≡ Some items) (are : AreItems items)
      (found : FilesAs L) (known : AreFoundBy jobs found items (s.histories 3)) where
    follows : (p : ℕ) → Follows J (process J p) (s.histories p)
    follows p = follows-of jobs (process J) p (s.histories p) (st.follows p)

    read : ReadsOf jobs items s.devices.deck (taken (s.histories 1))
    read = d.read items deck

    abbrev all : List L
    all = loads_of jobs found items

    abbrev lines : List (List ℕ)
    lines = J.lines items (loads_of jobs found items) true

    enough : length (J.named items) ≤ length (loads_of jobs found items)
    enough = as-named jobs found items

    loaded : IsPrefixOf (loads (taken (s.histories 3))) (loads_of jobs found items)
    loaded = loads-part jobs found items (s.histories 3) (follows 3) (loaded-part jobs s.histories follows hand_over items s.devices.deck read are) known

    no-load : (p : ℕ) → (p ≡ 3 → ⊥) → length (loads (taken (s.histories p))) ≡ 0
    no-load p not = ap (λ ps. length (loads ps)) (sym (all-taken jobs (the-five jobs) s.histories follows p not))
        ∙ ap length (loads-handed jobs (taken (s.histories p)))

    first : IsPrefixOf (handed (taken (s.histories 1))) (deck_parcels jobs items)
    first = took-1 jobs s.histories follows hand_over items s.devices.deck read

    second : IsPrefixOf (handed (taken (s.histories 2))) (card_sends (deck_parcels jobs items))
    second = took-2 jobs s.histories follows hand_over items s.devices.deck read

    third : IsPrefixOf (handed (taken (s.histories 3))) (input_sends (card_sends (deck_parcels jobs items)))
    third = took-3 jobs s.histories follows hand_over items s.devices.deck read

    fourth : IsPrefixOf (handed (taken (s.histories 4))) (job_puts jobs all (input_sends (card_sends (deck_parcels jobs items))))
    fourth = took-4 jobs s.histories follows hand_over items s.devices.deck read are all loaded

    fifth : IsPrefixOf (handed (taken (s.histories 5))) (output_sends (job_puts jobs all (input_sends (card_sends (deck_parcels jobs items)))))
    fifth = took-5 jobs s.histories follows hand_over items s.devices.deck read are all loaded

    put-of : (p : ℕ) (ps : List (Parcel L)) → (p ≡ 3 → ⊥) → IsPrefixOf (handed (taken (s.histories p))) ps → IsPrefixOf (sent (s.histories p))
        ((process J p).sends ps)
    put-of p ps not part =
        prefix-longer _ _ _ (sent-part jobs s.histories follows hand_over items s.devices.deck read p)
        (part-of jobs (process J p) (taken (s.histories p)) ps ((the-five jobs).relays p)
        (subst (λ tk. IsPrefixOf tk ps) (all-taken jobs (the-five jobs) s.histories follows p not) part))

    line-count : length (whole (map Line lines)) ≡ length lines + 1
    line-count = whole-length (map Line lines) ∙ ap (λ n. n + 1) (length-map lines Line)

    pub made-few : all_made s ≤ 23 * length items + 18 * length (J.lines items (loads_of jobs found items) true) + 73
    made-few =
        let c = length items in
        let few : length (loads (taken (s.histories 3))) ≤ c =
        (let a = part-length _ _ loaded in let b = length-map (J.named items) found in let d = jobs.few_named items in omega (arith, a, b, d)) in
        let n1 = deck-length items in
        let n2 : length (card_sends (deck_parcels jobs items)) ≡ c + 1 = ap length (card-gives jobs items are) ∙ parcels-length J (whole items)
        ∙ whole-length items in
        let n3 = packed-length J first_page (whole items) in
        let n3_is = ap length (input-gives jobs items are) in
        let w = whole-length items in
        let n4 = packed-length J first_page (whole (map Line lines)) in
        let n4_is = ap length (job-gives jobs items are all enough) in
        let n5 : length (output_sends (job_puts jobs all (input_sends (card_sends (deck_parcels jobs items))))) ≡ length lines + 1
        = ap length (output-gives jobs items are all enough) ∙ parcels-length J (whole (map Line lines)) ∙ line-count in
        let t1 = part-length _ _ first in
        let t2 = part-length _ _ second in
        let t3 = part-length _ _ third in
        let t4 = part-length _ _ fourth in
        let t5 = part-length _ _ fifth in
        let p1 = part-sum false _ _ (put-of 1 _ (λ e. omega (arith, e)) first) in
        let p1_is : put_sum jobs false (card_sends (deck_parcels jobs items)) ≡ 2 * length (whole items) = ap (put_sum jobs false) (card-gives jobs items are)
        ∙ sum-feeds (whole items) in
        let p2 = part-sum false _ _ (put-of 2 _ (λ e. omega (arith, e)) second) in
        let p2_is = ap (put_sum jobs false) (input-gives jobs items are) in
        let p2_most = packed-six first_page (whole items) in
        let p3 = part-sum true _ _ (put-3 jobs s.histories follows hand_over items s.devices.deck read are all loaded) in
        let p3_is = ap (put_sum jobs true) (job-gives jobs items are all enough) in
        let p3_most = packed-seven first_page (whole (map Line lines)) in
        let p4 = part-sum false _ _ (put-of 4 _ (λ e. omega (arith, e)) fourth) in
        let p4_is : put_sum jobs false (output_sends (job_puts jobs all (input_sends (card_sends (deck_parcels jobs items))))) ≡ 2 * length
        (whole (map Line lines))
        = ap (put_sum jobs false) (output-gives jobs items are all enough) ∙ sum-feeds (whole (map Line lines)) in
        let p5 = part-sum false _ _ (put-of 5 _ (λ e. omega (arith, e)) fifth) in
        let p5_is : put_sum jobs false (output_of jobs all (deck_parcels jobs items)) ≡ length lines = ap (put_sum jobs false)
        (output-is jobs items are all enough) ∙ sum-lines lines in
        let l = line-count in
        all-in-all c (length lines) (length (handed (taken (s.histories 1)))) (length (loads (taken (s.histories 1))))
        (put_sum jobs false (sent (s.histories 1)))
        (length (handed (taken (s.histories 2)))) (length (loads (taken (s.histories 2)))) (put_sum jobs false (sent (s.histories 2)))
        (length (handed (taken (s.histories 3)))) (length (loads (taken (s.histories 3)))) (put_sum jobs true (sent (s.histories 3)))
        (length (handed (taken (s.histories 4)))) (length (loads (taken (s.histories 4)))) (put_sum jobs false (sent (s.histories 4)))
        (length (handed (taken (s.histories 5)))) (length (loads (taken (s.histories 5)))) (put_sum jobs false (sent (s.histories 5))) _ _ _ _ _
        (made-most jobs (process J 1) 2 ((the-five jobs).relays 1) (plain-slack (process J 1) ((the-five jobs).relays 1) (card-aims jobs) refl)
        (s.histories 1) (follows 1))
        (made-most jobs (process J 2) 8 ((the-five jobs).relays 2) (pages-slack (process J 2) refl) (s.histories 2) (follows 2))
        (made-most jobs (process J 3) 8 ((the-five jobs).relays 3) (pages-slack (process J 3) refl) (s.histories 3) (follows 3))
        (made-most jobs (process J 4) 8 ((the-five jobs).relays 4) (pages-slack (process J 4) refl) (s.histories 4) (follows 4))
        (made-most jobs (process J 5) 2 ((the-five jobs).relays 5) (plain-slack (process J 5) ((the-five jobs).relays 5) (printer-aims jobs) refl)
        (s.histories 5) (follows 5))
        (no-load 1 (λ e. omega (arith, e))) (no-load 2 (λ e. omega (arith, e))) few (no-load 4 (λ e. omega (arith, e))) (no-load 5 (λ e. omega (arith, e)))
        (omega (arith, t1, n1)) (omega (arith, p1, p1_is, w)) (omega (arith, t2, n2)) (omega (arith, p2, p2_is, p2_most, w)) (omega (arith, t3, n3, n3_is, w))
        (omega (arith, p3, p3_is, p3_most, l)) (omega (arith, t4, n4, n4_is, l)) (omega (arith, p4, p4_is, l)) (omega (arith, t5, n5))
        (omega (arith, p5, p5_is))

  -- No list of events from an opening over told devices is longer.
  pub no-longer : (o : Opening J) (items : List Item) (found : FilesAs L) (events : List (CoreEvent L)) → AreTold o.spools → o.deck ≡ Some items
      → AreFound J o.files found items → AreEnabled (the_law J) (first_state o) events → length events ≤ longest_run J found items
  no-longer o items found events are_told deck_is known enabled =
      let opening = first_state o in
      let first = opening-centre jobs o.spools o.deck o.paper o.files in
      let end = run (the_law J) opening events in
      let last = centre-run jobs opening opening events enabled first in
      let told = λ (b : ℕ) (at : IsBuffer b). told-is jobs o.spools b (all-told jobs o.spools are_told b at) in
      let counted = events-counted opening opening events enabled first.stands in
      let few = made-few opening end last.stands last.devices (hands-over jobs opening end last.stands told) items deck_is (o.cards items deck_is) found
      (found-by jobs o.files opening end found items refl last.devices known) in
      let asleep = seven-sleep jobs opening end last.stands (all-sized jobs o.spools o.bounds) in
      let same : length (J.lines items (loads_of jobs found items) true) ≡ length (one_thread J items found) = refl in
      omega (arith, counted, few, asleep, same)

  enabled-more : (s : CoreState L) (some more : List (CoreEvent L)) → AreEnabled (the_law J) s some → AreEnabled (the_law J) (run (the_law J) s some) more
      → AreEnabled (the_law J) s (some ++ more)
  enabled-more s [] more are rest = rest
  enabled-more s (event ∷ some) more are rest = (are.0, enabled-more (happens (core J (process J)) s event) some more are.1 rest)

  -- Nor one from a reached state.
  pub no-run_longer : (o : Opening J) (s : CoreState L) (items : List Item) (found : FilesAs L) (events : List (CoreEvent L)) → IsReached o s → AreTold o.spools
      → o.deck ≡ Some items → AreFound J o.files found items → AreEnabled (the_law J) s events → length events ≤ longest_run J found items
  no-run_longer o s items found events r are_told deck_is known enabled =
      let before = r.events in
      let here = subst (λ s. AreEnabled (the_law J) s events) (sym r.leads) enabled in
      let all = no-longer o items found (before ++ events) are_told deck_is known (enabled-more (first_state o) before events r.enabled here) in
      let both = length-append before events in
      omega (arith, all, both)

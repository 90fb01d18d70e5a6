-- Over told devices no run is longer than its cards, its lines and its units allow.
use Rattle.std.proofs.Common.{◌≡◌, ℕ, ◌+◌, ◌*◌, ◌≤◌, List, [], ◌∷◌, ◌++◌, length, length-append, map, Some, refl, sym, ◌∙◌, ap, arith}
use Rattle.std.specs.Prelude.{flat_map}
use Rattle.std.specs.List.{AllByRecursion}
use Rattle.std.proofs.lemmas.List.{length-map}
use Rattle.deck_units.proofs.UnitJobs.{lengths, few-items}
use Rattle.network_run.specs.Law.{AreEnabled, run}
use Rattle.network_law.specs.Kept.{IsTold, Stands, passed}
use Rattle.solo_base.specs.declared.item.Item.{Item}
use Rattle.solo_base.specs.declared.item.Item.TheVariants.{Line}
use Rattle.solo_base.specs.declared.outcome.Side.TheVariants.{Sender, Receiver}
use Rattle.solo_base.specs.Prefixes.{IsPrefixOf}
use Rattle.page_codec.specs.Items.{AreItems}
use Rattle.batch_procs.specs.Jobs.{Jobs, AreJobs, FilesAs, one_thread}
use Rattle.deck_units.specs.Units.{units}
use Rattle.twin_law.specs.Process.{Entry, place}
use Rattle.twin_law.specs.Sides.{A, B, dealt}
use Rattle.twin_law.specs.Ends.{printer}
use Rattle.twin_law.specs.Twin.{read_off, twin, TwinState, TwinEvent}
use Rattle.twin_law.specs.Opening.{AreTold, Opening}
use Rattle.twin_law.specs.TheLaw.{the_law, first_state, IsReached}
use Rattle.twin_law.specs.Alone.{AreLoadedSo}
use Rattle.twin_law.specs.UnitWork.{AreByUnits}
use Rattle.twin_law.specs.Told.{read_all, printed_by, printed}
use Rattle.twin_law.specs.Bound.{longest_run}
use Rattle.twin_law.proofs.Strips.{all_pages, IsStrip, parcels}
use Rattle.twin_law.proofs.InputAlone.{unit_pages, deck_feeds}
use Rattle.twin_law.proofs.Kahn.{AllWithin}
use Rattle.twin_law.proofs.Whole.{unit_strip, report_strip, whole, within, unit-strips, both, line_feeds, lines-all}
use Rattle.twin_law.proofs.CardReads.{put-first}
use Rattle.twin_law.proofs.Paper.{due_at}
use Rattle.twin_law.proofs.PrinterAlone.{printed-first}
use Rattle.twin_law.proofs.Devices.{Centre, reached-centre}
use Rattle.twin_law.proofs.CallsMade.{made, made-most}
use Rattle.twin_law.proofs.Todo.{Any, card_todo, none_todo, card-has, input-has, output-has, printer-has, JobOwes, job_todo, job-has}
use Rattle.twin_law.proofs.Pays.{spot, items_sum, sum_of, reads_one, prints_one, nothing, paid-most, card-pays, input-pays, job-a-pays, job-b-pays, output-pays, printer-pays}
use Rattle.twin_law.proofs.Lengths.{sum, dealt-sum, deck-length, lines-length, all-length, unit-length, page_number, parcels-length, item_number, parcels-items, part-length, part-items, flat-length, map-sum, sum-plus}
use Rattle.twin_law.proofs.Counted.{all_made, sleepers, events-counted, few-sleep}
use Rattle.twin_law.proofs.Reached.{told-now, taken}

-- ---- plain numbers
few-calls : (c l u pa pb ra rb ia ib rd pr s1 r1 s2 r2 s3 r3 s4 r4 s5 r5 s6 r6 i2 i3 m1 m2 m3 m4 m5 m6 : ℕ)
    → m1 ≤ 2 * (s1 + 0) + 7 * 0 + 5 * 0 + rd + (8 + 2 * 1) → m2 ≤ 2 * (r1 + 0) + 7 * (s2 + (s3 + 0)) + 5 * 0 + 0 + (8 + 2 * 3)
    → m3 ≤ 2 * 0 + 7 * (r2 + (s4 + 0)) + 5 * (i2 + 0) + 0 + (8 + 2 * 2) → m4 ≤ 2 * 0 + 7 * (r3 + (s5 + 0)) + 5 * (i3 + 0) + 0 + (8 + 2 * 2)
    → m5 ≤ 2 * (s6 + 0) + 7 * (r4 + (r5 + 0)) + 5 * 0 + 0 + (8 + 2 * 3) → m6 ≤ 2 * (r6 + 0) + 7 * 0 + 5 * 0 + pr + (8 + 2 * 1)
    → s1 ≤ c + 1 → r1 ≤ s1 → s2 ≤ pa + 1 → r2 ≤ s2 → s3 ≤ pb + 1 → r3 ≤ s3 → s4 ≤ ra + 1 → r4 ≤ s4 → s5 ≤ rb + 1 → r5 ≤ s5 → s6 ≤ l + 1 → r6 ≤ s6
    → i2 ≤ ia → i3 ≤ ib → rd ≤ c → pr ≤ l → pa + pb ≤ c + u → ra + rb ≤ l + u → ia + ib ≤ c
    → m1 + m2 + m3 + m4 + m5 + m6 ≤ 24 * c + 19 * l + 28 * u + 136
few-calls c l u pa pb ra rb ia ib rd pr s1 r1 s2 r2 s3 r3 s4 r4 s5 r5 s6 r6 i2 i3 m1 m2 m3 m4 m5 m6 a1 a2 a3 a4 a5 a6 b1 b2 b3 b4 b5 b6 b7 b8 b9 b10 b11 b12 d1 d2 d3 d4 d5 d6 d7 =
    omega (arith, a1, a2, a3, a4, a5, a6, b1, b2, b3, b4, b5, b6, b7, b8, b9, b10, b11, b12, d1, d2, d3, d4, d5, d6, d7)

in-all : (c l u e made sleep : ℕ) → made ≤ 24 * c + 19 * l + 28 * u + 136 → sleep ≤ 18 → e ≤ made + sleep → e ≤ 40 * (c + l + 4) + 40 * u
in-all c l u e made sleep a b d = omega (arith, a, b, d)

behind-other : (a b c d : ℕ) → a ≤ b + c → b ≤ d → a ≤ d + c
behind-other a b c d e f = omega (arith, e, f)

same-lengths : (us : List (List Item)) → sum (λ unit. length unit) us ≡ lengths us
same-lengths [] = refl
same-lengths (unit ∷ us) = ap (λ n. length unit + n) (same-lengths us)

read-length : {L : Type 0} (h : List (Entry L)) → sum_of reads_one h ≡ length (read_all h)
read-length [] = refl
read-length (entry ∷ h) = (let rest = read-length h in let both = length-append (read_all h) (read_off entry) in omega (arith, rest, both))

print-length : {L : Type 0} (h : List (Entry L)) → sum_of prints_one h ≡ length (printed h)
print-length [] = refl
print-length (entry ∷ h) = (let rest = print-length h in let both = length-append (printed h) (printed_by entry) in omega (arith, rest, both))

none-length : {L : Type 0} (h : List (Entry L)) → sum_of {L = L} nothing h ≡ 0
none-length [] = refl
none-length (entry ∷ h) = (let rest = none-length h in omega (arith, rest))

module _ {L : Type 0} {J : Jobs L} (jobs : AreJobs J) (by : AreByUnits J) (o : Opening J) (told : AreTold o.spools) (items : List Item) (found : FilesAs L)
    (deck_is : o.deck ≡ Some items) (files_are : o.files ≡ Some found) (s : TwinState L) (reached : IsReached o s) where
  abbrev are : AreItems items
  are = o.cards items deck_is

  abbrev centre : Centre J (first_state o) s
  centre = reached-centre J o s reached

  abbrev st : Stands (twin J) (first_state o) s
  st = centre.stands

  abbrev lines : List (List ℕ)
  lines = one_thread J items found

  abbrev us : List (List Item)
  us = units items

  so : (p : ℕ) → AreLoadedSo found (s.histories p)
  so = centre.devices.loaded found files_are

  tells : (b : ℕ) → IsTold (s.buffers b)
  tells = told-now jobs o s reached told

  first : IsPrefixOf (passed (twin J) s 1 Sender) (deck_feeds items)
  first = (let d = centre.devices.deck items deck_is in put-first J (s.histories 1) items d.left (st.follows 1) d.parts d.ended)

  all : AllWithin J (first_state o) s st tells found so (whole jobs by found items are)
  all = within jobs by found items are (first_state o) s st tells so first

  abbrev sent : ℕ → ℕ
  sent b = length (passed (twin J) s b Sender)

  abbrev got : ℕ → ℕ
  got b = length (passed (twin J) s b Receiver)

  less-got : (b : ℕ) → got b ≤ sent b
  less-got b =
      let (inside, is) = tells b in
      part-length (passed (twin J) s b Receiver) (passed (twin J) s b Sender) (inside, (st.buffers.hand_over b).parcels inside is)

  less-items : (b : ℕ) → items_sum (passed (twin J) s b Receiver) ≤ items_sum (passed (twin J) s b Sender)
  less-items b =
      let (inside, is) = tells b in
      part-items (passed (twin J) s b Receiver) (passed (twin J) s b Sender) (inside, (st.buffers.hand_over b).parcels inside is)

  -- ---- what was put is no more than there is
  abbrev unit_count : List Item → ℕ
  unit_count unit = length (unit_pages unit)

  abbrev report_count : List Item → ℕ
  report_count unit = length (all_pages (map Line (one_thread J unit found)))

  unit-parcels : (some : List (List Item)) → length (parcels {L = L} (map unit_strip some)) ≡ sum unit_count some + 1
  unit-parcels some = parcels-length L (map unit_strip some) ∙ ap (λ n. n + 1) (map-sum page_number unit_strip some)

  report-parcels : (some : List (List Item)) → length (parcels {L = L} (map (report_strip jobs by found) some)) ≡ sum report_count some + 1
  report-parcels some = parcels-length L (map (report_strip jobs by found) some) ∙ ap (λ n. n + 1) (map-sum page_number (report_strip jobs by found) some)

  sent-2 : sent 2 ≤ sum unit_count (dealt us).a + 1
  sent-2 = (let a = part-length (passed (twin J) s 2 Sender) _ all.to_a in let b = unit-parcels (dealt us).a in omega (arith, a, b))

  sent-3 : sent 3 ≤ sum unit_count (dealt us).b + 1
  sent-3 = (let a = part-length (passed (twin J) s 3 Sender) _ all.to_b in let b = unit-parcels (dealt us).b in omega (arith, a, b))

  sent-4 : sent 4 ≤ sum report_count (dealt us).a + 1
  sent-4 = (let a = part-length (passed (twin J) s 4 Sender) _ all.from_a in let b = report-parcels (dealt us).a in omega (arith, a, b))

  sent-5 : sent 5 ≤ sum report_count (dealt us).b + 1
  sent-5 = (let a = part-length (passed (twin J) s 5 Sender) _ all.from_b in let b = report-parcels (dealt us).b in omega (arith, a, b))

  lines-length_is : length (flat_map (λ unit. one_thread J unit found) us) ≡ length lines
  lines-length_is = sym (ap length (by.lines_are items found))

  sent-6 : sent 6 ≤ length lines + 1
  sent-6 =
      let a = part-length (passed (twin J) s 6 Sender) _ all.lines in
      let b = lines-length L (flat_map (λ unit. one_thread J unit found) us) in
      let c = ap (λ lines. length (line_feeds {L = L} lines)) (lines-all jobs by found us) in
      let d = lines-length_is in
      omega (arith, a, b, c, d)

  sent-1 : sent 1 ≤ length items + 1
  sent-1 = (let a = part-length (passed (twin J) s 1 Sender) (deck_feeds items) first in let b = deck-length L items in omega (arith, a, b))

  unit-items : (some : List (List Item)) → AllByRecursion IsStrip (map unit_strip some) → items_sum (parcels {L = L} (map unit_strip some)) ≡ sum (λ unit. length unit) some
  unit-items some strips = parcels-items L (map unit_strip some) strips ∙ map-sum item_number unit_strip some

  items-2 : items_sum (passed (twin J) s 2 Receiver) ≤ sum (λ unit. length unit) (dealt us).a
  items-2 =
      let strips = unit-strips jobs by found items are (dealt us).a (both jobs by found items are).a in
      let a = part-items (passed (twin J) s 2 Sender) _ all.to_a in
      let b = unit-items (dealt us).a strips in
      let c = less-items 2 in
      omega (arith, a, b, c)

  items-3 : items_sum (passed (twin J) s 3 Receiver) ≤ sum (λ unit. length unit) (dealt us).b
  items-3 =
      let strips = unit-strips jobs by found items are (dealt us).b (both jobs by found items are).b in
      let a = part-items (passed (twin J) s 3 Sender) _ all.to_b in
      let b = unit-items (dealt us).b strips in
      let c = less-items 3 in
      omega (arith, a, b, c)

  -- ---- sums over both sides
  unit-sums : sum unit_count (dealt us).a + sum unit_count (dealt us).b ≤ length items + length us
  unit-sums =
      let a = dealt-sum unit_count us in
      let b = sum-plus unit_count (λ unit. length unit) us unit-length in
      let c = same-lengths us in
      let d = few-items items in
      omega (arith, a, b, c, d)

  report-most : (unit : List Item) → report_count unit ≤ length (one_thread J unit found) + 1
  report-most unit = (let a = all-length (map Line (one_thread J unit found)) in let b = length-map (one_thread J unit found) Line in omega (arith, a, b))

  report-sums : sum report_count (dealt us).a + sum report_count (dealt us).b ≤ length lines + length us
  report-sums =
      let a = dealt-sum report_count us in
      let b = sum-plus report_count (λ unit. length (one_thread J unit found)) us report-most in
      let c = flat-length (λ unit. one_thread J unit found) us in
      let d = lines-length_is in
      omega (arith, a, b, c, d)

  item-sums : sum (λ unit. length unit) (dealt us).a + sum (λ unit. length unit) (dealt us).b ≤ length items
  item-sums = (let a = dealt-sum (λ unit. length unit) us in let b = same-lengths us in let c = few-items items in omega (arith, a, b, c))

  -- ---- what was read and printed
  reads-few : sum_of reads_one (s.histories 1) ≤ length items
  reads-few =
      let d = centre.devices.deck items deck_is in
      let a = read-length (s.histories 1) in
      let b = ap length d.parts ∙ length-append (read_all (s.histories 1)) d.left in
      omega (arith, a, b)

  prints-few : sum_of prints_one (s.histories 6) ≤ length lines
  prints-few =
      let a = print-length (s.histories 6) in
      let b = part-length (printed (s.histories 6) ++ due_at (place (printer {L = L}) (s.histories 6))) lines
      (printed-first found J (omega arith, omega arith) (s.histories 6) (st.follows 6) (so 6) lines (taken jobs o s reached by told items found deck_is files_are)) in
      let c = length-append (printed (s.histories 6)) (due_at (place (printer {L = L}) (s.histories 6))) in
      omega (arith, a, b, c)

  -- ---- the calls of the six
  made-1 : made (s.histories 1) ≤ 2 * (sent 1 + 0) + 7 * 0 + 5 * 0 + sum_of reads_one (s.histories 1) + (8 + 2 * 1)
  made-1 = behind-other _ _ _ _ (made-most J 1 (omega arith, omega arith) Any card_todo (card-has L) (s.histories 1) 1 (st.follows 1) (omega arith) (omega arith))
      (paid-most J 1 (omega arith, omega arith) (spot 1 Sender ∷ []) [] [] reads_one (card-pays J) (s.histories 1) (st.follows 1))

  made-2 : made (s.histories 2) ≤ 2 * (got 1 + 0) + 7 * (sent 2 + (sent 3 + 0)) + 5 * 0 + sum_of {L = L} nothing (s.histories 2) + (8 + 2 * 3)
  made-2 = behind-other _ _ _ _ (made-most J 2 (omega arith, omega arith) Any none_todo (input-has L) (s.histories 2) 3 (st.follows 2) (omega arith) (omega arith))
      (paid-most J 2 (omega arith, omega arith) (spot 1 Receiver ∷ []) (spot 2 Sender ∷ spot 3 Sender ∷ []) [] nothing (input-pays J) (s.histories 2) (st.follows 2))

  made-3 : made (s.histories 3) ≤ 2 * 0 + 7 * (got 2 + (sent 4 + 0)) + 5 * (items_sum (passed (twin J) s 2 Receiver) + 0) + sum_of {L = L} nothing (s.histories 3) + (8 + 2 * 2)
  made-3 = behind-other _ _ _ _ (made-most J 3 (omega arith, omega arith) (JobOwes jobs) (job_todo jobs) (job-has jobs A) (s.histories 3) 2 (st.follows 3) (omega arith) (omega arith))
      (paid-most J 3 (omega arith, omega arith) [] (spot 2 Receiver ∷ spot 4 Sender ∷ []) (spot 2 Receiver ∷ []) nothing (job-a-pays J) (s.histories 3) (st.follows 3))

  made-4 : made (s.histories 4) ≤ 2 * 0 + 7 * (got 3 + (sent 5 + 0)) + 5 * (items_sum (passed (twin J) s 3 Receiver) + 0) + sum_of {L = L} nothing (s.histories 4) + (8 + 2 * 2)
  made-4 = behind-other _ _ _ _ (made-most J 4 (omega arith, omega arith) (JobOwes jobs) (job_todo jobs) (job-has jobs B) (s.histories 4) 2 (st.follows 4) (omega arith) (omega arith))
      (paid-most J 4 (omega arith, omega arith) [] (spot 3 Receiver ∷ spot 5 Sender ∷ []) (spot 3 Receiver ∷ []) nothing (job-b-pays J) (s.histories 4) (st.follows 4))

  made-5 : made (s.histories 5) ≤ 2 * (sent 6 + 0) + 7 * (got 4 + (got 5 + 0)) + 5 * 0 + sum_of {L = L} nothing (s.histories 5) + (8 + 2 * 3)
  made-5 = behind-other _ _ _ _ (made-most J 5 (omega arith, omega arith) Any none_todo (output-has L) (s.histories 5) 3 (st.follows 5) (omega arith) (omega arith))
      (paid-most J 5 (omega arith, omega arith) (spot 6 Sender ∷ []) (spot 4 Receiver ∷ spot 5 Receiver ∷ []) [] nothing (output-pays J) (s.histories 5) (st.follows 5))

  made-6 : made (s.histories 6) ≤ 2 * (got 6 + 0) + 7 * 0 + 5 * 0 + sum_of prints_one (s.histories 6) + (8 + 2 * 1)
  made-6 = behind-other _ _ _ _ (made-most J 6 (omega arith, omega arith) Any none_todo (printer-has L) (s.histories 6) 1 (st.follows 6) (omega arith) (omega arith))
      (paid-most J 6 (omega arith, omega arith) (spot 6 Receiver ∷ []) [] [] prints_one (printer-pays J) (s.histories 6) (st.follows 6))

  plain : (m a b : ℕ) → m ≤ a → b ≡ 0 → (d : ℕ) → a ≡ d + b → m ≤ d + 0
  plain m a b few none d e = omega (arith, few, none, e)

  few-made : all_made s ≤ 24 * length items + 19 * length lines + 28 * length us + 136
  few-made =
      let n2 = none-length (s.histories 2) in
      let n3 = none-length (s.histories 3) in
      let n4 = none-length (s.histories 4) in
      let n5 = none-length (s.histories 5) in
      let m2 = made-2 in let m3 = made-3 in let m4 = made-4 in let m5 = made-5 in
      few-calls (length items) (length lines) (length us) (sum unit_count (dealt us).a) (sum unit_count (dealt us).b) (sum report_count (dealt us).a) (sum report_count (dealt us).b)
      (sum (λ unit. length unit) (dealt us).a) (sum (λ unit. length unit) (dealt us).b) (sum_of reads_one (s.histories 1)) (sum_of prints_one (s.histories 6))
      (sent 1) (got 1) (sent 2) (got 2) (sent 3) (got 3) (sent 4) (got 4) (sent 5) (got 5) (sent 6) (got 6)
      (items_sum (passed (twin J) s 2 Receiver)) (items_sum (passed (twin J) s 3 Receiver))
      (made (s.histories 1)) (made (s.histories 2)) (made (s.histories 3)) (made (s.histories 4)) (made (s.histories 5)) (made (s.histories 6))
      made-1 (omega (arith, m2, n2)) (omega (arith, m3, n3)) (omega (arith, m4, n4)) (omega (arith, m5, n5)) made-6
      sent-1 (less-got 1) sent-2 (less-got 2) sent-3 (less-got 3) sent-4 (less-got 4) sent-5 (less-got 5) sent-6 (less-got 6)
      items-2 items-3 reads-few prints-few unit-sums report-sums item-sums

module _ {L : Type 0} {J : Jobs L} (jobs : AreJobs J) where
  pub no-run_longer : (o : Opening J) (items : List Item) (found : FilesAs L) (events : List (TwinEvent L)) → AreByUnits J → AreTold o.spools → o.deck ≡ Some items
      → o.files ≡ Some found → AreEnabled (the_law J) (first_state o) events → length events ≤ longest_run J found items
  no-run_longer o items found events by told deck_is files_are enabled =
      let s = run (the_law J) (first_state o) events in
      let reached : IsReached o s = record { events = events; enabled = enabled; leads = refl } in
      let start = reached-centre J o (first_state o) record { events = []; enabled = tt; leads = refl } in
      let few = few-made jobs by o told items found deck_is files_are s reached in
      let asleep = few-sleep J (first_state o) s (reached-centre J o s reached).stands in
      let all = events-counted J (first_state o) (first_state o) events enabled start.stands in
      in-all (length items) (length (one_thread J items found)) (length (units items)) (length events) (all_made s) (sleepers s) few asleep (omega (arith, all))

-- What paid for the calls of a process: the parcels that it moved, the cards that it read, the lines that it printed.
use Rattle.std.proofs.Common.{◌≡◌, inl, inr, ℕ, ◌+◌, ◌*◌, ◌≤◌, Bool, List, [], ◌∷◌, ◌++◌, length, length-append, Some, refl, subst, arith}
use Rattle.network_law.specs.Acts.{Call, Went, Delayed, Act, moved, moved_by}
use Rattle.network_law.specs.Network.{IsOne, acts}
use Rattle.network_law.specs.Network as law
use Rattle.solo_base.specs.declared.page.Page.{Page}
use Rattle.solo_base.specs.declared.outcome.Side.{Side}
use Rattle.solo_base.specs.declared.outcome.Side.TheVariants.{Sender, Receiver}
use Rattle.page_codec.specs.Packing.{fits}
use Rattle.batch_procs.specs.declared.actions.Reply.{Reply}
use Rattle.batch_procs.specs.Jobs.{Jobs}
use Rattle.batch_procs.specs.Parcels.{Parcel, OfPage}
use Rattle.place_law.specs.Process.{Does, LacksMemory, Delays}
use Rattle.batch_procs.specs.declared.actions.Reply.TheVariants as reply
use Rattle.twin_law.specs.Process.{Action, AwaitRoom, AwaitItem, Request, TakePage, Release, Stop, Ended, Entry, place, next_action}
use Rattle.twin_law.specs.Sides.{Twin, A, B, from_job}
use Rattle.twin_law.specs.Ends.{ReadsCard, PutsCard, PutsEnd, HasPut, TakesLine, PrintsLine, HasPrinted}
use Rattle.twin_law.specs.Input.{Takes, PutsFull, PutsLast, PutsEmptyA, PutsEmptyB, HasDealt}
use Rattle.twin_law.specs.Job.{TakesItems, LoadsFile, Toils, PutsLines, PutsLastLines, HasWorked}
use Rattle.twin_law.specs.Output.{TakesLines, PutsLine, PutsOver, HasGathered}
use Rattle.twin_law.specs.Table.{process}
use Rattle.twin_law.specs.Twin.{call, went_by, Fits, read_off, twin}
use Rattle.twin_law.specs.Told.{printed_by}
use Rattle.twin_law.proofs.Marks.{makes, IsAround, made}
use Rattle.twin_law.proofs.CallsMade.{item_count, pays, paid}

-- a side of a buffer
pub record Spot : Type 0 where
  pub buffer : ℕ
  pub side : Side

abbrev pub spot : ℕ → Side → Spot
spot b side = record { buffer = b; side = side }

module _ {L : Type 0} where
  abbrev pub items_on : Parcel L → ℕ
  items_on (OfPage page last) = item_count page
  items_on x = 0

  abbrev pub items_sum : List (Parcel L) → ℕ
  items_sum [] = 0
  items_sum (x ∷ rest) = items_on x + items_sum rest

  pub items-append : (some more : List (Parcel L)) → items_sum (some ++ more) ≡ items_sum some + items_sum more
  items-append [] more = omega arith
  items-append (x ∷ some) more = (let rest = items-append some more in omega (arith, rest))

  -- how many parcels were moved at some sides, and how many items these had
  abbrev pub many : List Spot → List (Act (Parcel L)) → ℕ
  many [] ac = 0
  many (s ∷ rest) ac = length (moved s.buffer s.side ac) + many rest ac

  abbrev pub many_by : List Spot → Call → Went (Parcel L) → ℕ
  many_by [] c w = 0
  many_by (s ∷ rest) c w = length (moved_by s.buffer s.side c w) + many_by rest c w

  abbrev pub items_at : List Spot → List (Act (Parcel L)) → ℕ
  items_at [] ac = 0
  items_at (s ∷ rest) ac = items_sum (moved s.buffer s.side ac) + items_at rest ac

  abbrev pub items_by_spots : List Spot → Call → Went (Parcel L) → ℕ
  items_by_spots [] c w = 0
  items_by_spots (s ∷ rest) c w = items_sum (moved_by s.buffer s.side c w) + items_by_spots rest c w

  pub many-more : (spots : List Spot) (c : Call) (w : Went (Parcel L)) (ac : List (Act (Parcel L))) → many spots (record { call = c; went = w } ∷ ac) ≡ many spots ac + many_by spots c w
  many-more [] c w ac = refl
  many-more (s ∷ rest) c w ac =
      (let one = length-append (moved s.buffer s.side ac) (moved_by s.buffer s.side c w) in let more = many-more rest c w ac in omega (arith, one, more))

  pub items-more : (spots : List Spot) (c : Call) (w : Went (Parcel L)) (ac : List (Act (Parcel L))) → items_at spots (record { call = c; went = w } ∷ ac) ≡ items_at spots ac + items_by_spots spots c w
  items-more [] c w ac = refl
  items-more (s ∷ rest) c w ac =
      (let one = items-append (moved s.buffer s.side ac) (moved_by s.buffer s.side c w) in let more = items-more rest c w ac in omega (arith, one, more))

  around-pays : (works : Bool) (a : Action) (r : Reply L) → IsAround a → pays works a r ≡ 0
  around-pays works (AwaitRoom b) r is = refl
  around-pays works (AwaitItem b) r is = refl
  around-pays works Request r is = refl
  around-pays works Release r is = refl
  around-pays works (Stop b) r is = refl
  around-pays works (Ended how) r is = refl
  around-pays works a r is = absurd is

  abbrev pub sum_of : (Entry L → ℕ) → List (Entry L) → ℕ
  sum_of extra [] = 0
  sum_of extra (entry ∷ h) = extra entry + sum_of extra h

  module _ (J : Jobs L) (p : ℕ) (one : IsOne (twin J) p) (feeds pages counted : List Spot) (extra : Entry L → ℕ) where
    abbrev pub PaidSo : Bool → Action → Reply L → Type 0
    PaidSo works a r =
        pays works a r ≤ 2 * many_by feeds (call p a) (went_by a r) + 7 * many_by pages (call p a) (went_by a r) + 5 * items_by_spots counted (call p a) (went_by a r) + extra (Does a r)

    abbrev total : List (Entry L) → ℕ
    total h = 2 * many feeds (acts (twin J) p h) + 7 * many pages (acts (twin J) p h) + 5 * items_at counted (acts (twin J) p h) + sum_of extra h

    module _ (at : (x : (process J p).Place) (r : Reply L) → Fits (makes ((process J p).aims x)) r → PaidSo (process J p).works (makes ((process J p).aims x)) r) where
      one-paid : (h : List (Entry L)) (a : Action) (r : Reply L) → next_action (process J p) h ≡ Some a → Fits a r → PaidSo (process J p).works a r
      one-paid h a r next fits =
          elim (made J p h a one next) as (λ _. PaidSo (process J p).works a r) [
            | inl around ↦ (let none = around-pays (process J p).works a r around in omega (arith, none))
            | inr same ↦ (subst (λ a. Fits a r → PaidSo (process J p).works a r) same (λ fits. at (place (process J p) h) r fits)) fits
          ]

      -- so its calls were paid by these
      pub paid-most : (h : List (Entry L)) → law.Follows (twin J) p h → paid (process J p).works h ≤ total h
      paid-most [] follows = omega arith
      paid-most (Does a r ∷ h) follows =
          let rest = paid-most h follows.2 in
          let now = one-paid h a r follows.0 follows.1.0 in
          let x = many-more feeds (call p a) (went_by a r) (acts (twin J) p h) in
          let y = many-more pages (call p a) (went_by a r) (acts (twin J) p h) in
          let z = items-more counted (call p a) (went_by a r) (acts (twin J) p h) in
          omega (arith, rest, now, x, y, z)
      paid-most (LacksMemory a r ∷ h) follows =
          let rest = paid-most h follows.2 in
          let x = many-more feeds (call p a) (went_by a r) (acts (twin J) p h) in
          let y = many-more pages (call p a) (went_by a r) (acts (twin J) p h) in
          let z = items-more counted (call p a) (went_by a r) (acts (twin J) p h) in
          omega (arith, rest, x, y, z)
      paid-most (Delays a ∷ h) follows =
          let rest = paid-most h follows.2 in
          let x = many-more feeds (call p a) Delayed (acts (twin J) p h) in
          let y = many-more pages (call p a) Delayed (acts (twin J) p h) in
          let z = items-more counted (call p a) Delayed (acts (twin J) p h) in
          omega (arith, rest, x, y, z)

-- ---- the six
module _ {L : Type 0} where
  abbrev pub reads_one : Entry L → ℕ
  reads_one entry = length (read_off entry)

  abbrev pub prints_one : Entry L → ℕ
  prints_one entry = length (printed_by entry)

  abbrev pub nothing : Entry L → ℕ
  nothing entry = 0

  abbrev At : Jobs L → ℕ → List Spot → List Spot → List Spot → (Entry L → ℕ) → Type 0
  At J p feeds pages counted extra =
      (x : (process J p).Place) (r : Reply L) → Fits (makes ((process J p).aims x)) r → pays (process J p).works (makes ((process J p).aims x)) r
      ≤ 2 * many_by feeds (call p (makes ((process J p).aims x))) (went_by (makes ((process J p).aims x)) r)
      + 7 * many_by pages (call p (makes ((process J p).aims x))) (went_by (makes ((process J p).aims x)) r)
      + 5 * items_by_spots counted (call p (makes ((process J p).aims x))) (went_by (makes ((process J p).aims x)) r)
      + extra (Does (makes ((process J p).aims x)) r)

  pub card-pays : (J : Jobs L) → At J 1 (spot 1 Sender ∷ []) [] [] reads_one
  card-pays J ReadsCard (reply.Card answer) fits = omega arith
  card-pays J (PutsCard item) reply.Done fits = omega arith
  card-pays J (PutsCard item) reply.Stopped fits = omega arith
  card-pays J PutsEnd reply.Done fits = omega arith
  card-pays J PutsEnd reply.Stopped fits = omega arith
  card-pays J HasPut reply.Done fits = omega arith
  card-pays J x r fits = absurd fits

  pub input-pays : (J : Jobs L) → At J 2 (spot 1 Receiver ∷ []) (spot 2 Sender ∷ spot 3 Sender ∷ []) [] nothing
  input-pays J (Takes side inside hand) (reply.Feed f) fits = omega arith
  input-pays J (Takes side inside hand) reply.Stopped fits = omega arith
  input-pays J (PutsFull A inside page hand) reply.Done fits = omega arith
  input-pays J (PutsFull B inside page hand) reply.Done fits = omega arith
  input-pays J (PutsFull side inside page hand) reply.Failed fits = omega arith
  input-pays J (PutsLast A page opener) reply.Done fits = omega arith
  input-pays J (PutsLast B page opener) reply.Done fits = omega arith
  input-pays J (PutsLast side page opener) reply.Failed fits = omega arith
  input-pays J (PutsEmptyA side) reply.Done fits = omega arith
  input-pays J (PutsEmptyA side) reply.Failed fits = omega arith
  input-pays J (PutsEmptyB side) reply.Done fits = omega arith
  input-pays J (PutsEmptyB side) reply.Failed fits = omega arith
  input-pays J HasDealt reply.Done fits = omega arith
  input-pays J x r fits = absurd fits

  pub job-a-pays : (J : Jobs L) → At J 3 [] (spot 2 Receiver ∷ spot 4 Sender ∷ []) (spot 2 Receiver ∷ []) nothing
  job-a-pays J (TakesItems s) (reply.Page page last) fits = omega arith
  job-a-pays J (TakesItems s) reply.Failed fits = omega arith
  job-a-pays J (LoadsFile file s last) r fits = omega arith
  job-a-pays J (Toils s last) r fits = omega arith
  job-a-pays J (PutsLines page s last) reply.Done fits = omega arith
  job-a-pays J (PutsLines page s last) reply.Failed fits = omega arith
  job-a-pays J (PutsLastLines page some) reply.Done fits = omega arith
  job-a-pays J (PutsLastLines page some) reply.Failed fits = omega arith
  job-a-pays J HasWorked r fits = omega arith
  job-a-pays J x r fits = absurd fits

  pub job-b-pays : (J : Jobs L) → At J 4 [] (spot 3 Receiver ∷ spot 5 Sender ∷ []) (spot 3 Receiver ∷ []) nothing
  job-b-pays J (TakesItems s) (reply.Page page last) fits = omega arith
  job-b-pays J (TakesItems s) reply.Failed fits = omega arith
  job-b-pays J (LoadsFile file s last) r fits = omega arith
  job-b-pays J (Toils s last) r fits = omega arith
  job-b-pays J (PutsLines page s last) reply.Done fits = omega arith
  job-b-pays J (PutsLines page s last) reply.Failed fits = omega arith
  job-b-pays J (PutsLastLines page some) reply.Done fits = omega arith
  job-b-pays J (PutsLastLines page some) reply.Failed fits = omega arith
  job-b-pays J HasWorked r fits = omega arith
  job-b-pays J x r fits = absurd fits

  turn-pays : (J : Jobs L) (side : Twin) (page : Page) (last : Bool)
      → 7 ≤ 2 * 0 + 7 * many_by (spot 4 Receiver ∷ spot 5 Receiver ∷ []) (call 5 (TakePage (from_job side))) (went_by {L = L} (TakePage (from_job side)) (reply.Page page last)) + 5 * 0 + 0
  turn-pays J A page last = omega arith
  turn-pays J B page last = omega arith

  pub output-pays : (J : Jobs L) → At J 5 (spot 6 Sender ∷ []) (spot 4 Receiver ∷ spot 5 Receiver ∷ []) [] nothing
  output-pays J (TakesLines t) (reply.Page page last) fits = (let some = turn-pays J t.side page last in omega (arith, some))
  output-pays J (TakesLines t) reply.Failed fits = omega arith
  output-pays J (PutsLine line later t over) reply.Done fits = omega arith
  output-pays J (PutsLine line later t over) reply.Stopped fits = omega arith
  output-pays J PutsOver reply.Done fits = omega arith
  output-pays J PutsOver reply.Stopped fits = omega arith
  output-pays J HasGathered r fits = omega arith
  output-pays J x r fits = absurd fits

  pub printer-pays : (J : Jobs L) → At J 6 (spot 6 Receiver ∷ []) [] [] prints_one
  printer-pays J TakesLine (reply.Feed f) fits = omega arith
  printer-pays J TakesLine reply.Stopped fits = omega arith
  printer-pays J (PrintsLine line) reply.Done fits = omega arith
  printer-pays J (PrintsLine line) reply.Failed fits = omega arith
  printer-pays J (PrintsLine line) reply.NoMemory fits = omega arith
  printer-pays J HasPrinted reply.Done fits = omega arith
  printer-pays J x r fits = absurd fits

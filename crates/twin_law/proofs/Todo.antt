-- What each of the six has still to do of what it was paid for.
use Rattle.std.proofs.Common.{◌≡◌, ℕ, suc, ◌+◌, ◌*◌, ◌-◌, ◌≤◌, ◌%◌, ◌^◌, Bool, true, false, List, [], ◌∷◌, ◌++◌, length, length-append, length-drop, Option, None, Some, refl, ◌∙◌, ap, arith}
use Rattle.std.specs.Prelude.{Result, Ok, Err}
use Rattle.page_codec.specs.Places.{content_of}
use Rattle.solo_base.specs.declared.item.Item.{Item}
use Rattle.solo_base.specs.declared.page.Page.{Page}
use Rattle.page_codec.specs.declared.judge.BadPage.{BadPage}
use Rattle.page_codec.specs.Packing.{fits}
use Rattle.page_codec.specs.Reading.{PageContent, page_read, bad_place, content_or_bad, items_after}
use Rattle.batch_procs.specs.declared.actions.Reply.{Reply}
use Rattle.batch_procs.specs.Jobs.{Jobs, AreJobs}
use Rattle.place_law.specs.Process.{fault_in}
use Rattle.solo_devices.specs.declared.card_read.CardRead.TheVariants as read
use Rattle.batch_procs.specs.declared.actions.Reply.TheVariants as reply
use Rattle.twin_law.specs.Process.{stands_behind, given_cause}
use Rattle.twin_law.specs.Sides.{Twin}
use Rattle.twin_law.specs.Ends.{CardPlace, ReadsCard, PutsCard, PutsEnd, HasPut, card_aims, card, PrinterPlace, TakesLine, PrintsLine, HasPrinted, printer_aims, printer}
use Rattle.twin_law.specs.Input.{InputPlace, Takes, PutsFull, PutsLast, PutsEmptyA, PutsEmptyB, HasDealt, input_aims, input}
use Rattle.twin_law.specs.Job.{Stream, JobPlace, TakesItems, LoadsFile, Toils, PutsLines, PutsLastLines, HasWorked, job_aims, wanted, toils, behind_items, with_page, behind_page, page_taken, with_load, behind_load, packs_lines, with_packed, rests, behind_packed, lines_ahead, next_stream, damage, job}
use Rattle.twin_law.specs.Output.{OutputPlace, TakesLines, PutsLine, PutsOver, HasGathered, output_aims, output}
use Rattle.twin_law.specs.Twin.{Fits}
use Rattle.twin_law.proofs.Marks.{makes}
use Rattle.twin_law.proofs.CallsMade.{item_count, local_cost, earns, HasTodo}

abbrev pub Any : {P : Type 0} → P → Type 0
Any x = Unit {0}

-- ---- 1 card: it still reads the end
abbrev pub card_todo : CardPlace → ℕ
card_todo ReadsCard = 1
card_todo (PutsCard item) = 1
card_todo PutsEnd = 0
card_todo HasPut = 0

abbrev pub none_todo : {P : Type 0} → P → ℕ
none_todo x = 0

module _ (L : Type 0) where
  card-step : (x : CardPlace) (r : Reply L) → Fits (makes (card_aims x)) r → given_cause card x (makes (card_aims x)) r ≡ None
      → card_todo (stands_behind card x (makes (card_aims x)) r) + local_cost (card_aims x) r ≤ card_todo x + earns false (card_aims x) r
  card-step ReadsCard (reply.Card (read.Card line)) fits none = omega arith
  card-step ReadsCard (reply.Card read.Spoiled) fits none = omega arith
  card-step ReadsCard (reply.Card read.End) fits none = omega arith
  card-step ReadsCard (reply.Card read.Failed) fits none = absurd cc
  card-step ReadsCard (reply.Card read.Limit) fits none = absurd cc
  card-step (PutsCard item) reply.Done fits none = omega arith
  card-step (PutsCard item) reply.Stopped fits none = absurd cc
  card-step PutsEnd reply.Done fits none = omega arith
  card-step PutsEnd reply.Stopped fits none = absurd cc
  card-step HasPut reply.Done fits none = omega arith
  card-step x r fits none = absurd fits

  pub card-has : HasTodo (card {L = L}) Any card_todo
  card-has = record { first_is = tt; first = omega arith; keeps = λ x r fits none is. tt; step = λ x r fits none is. card-step x r fits none }

  -- ---- 2 input, 5 output, 6 printer
  input-step : (x : InputPlace) (r : Reply L) → Fits (makes (input_aims x)) r → 0 + local_cost (input_aims x) r ≤ 0 + earns false (input_aims x) r
  input-step (Takes side inside hand) r fits = omega arith
  input-step (PutsFull side inside page hand) reply.Done fits = omega arith
  input-step (PutsFull side inside page hand) reply.Failed fits = omega arith
  input-step (PutsLast side page opener) reply.Done fits = omega arith
  input-step (PutsLast side page opener) reply.Failed fits = omega arith
  input-step (PutsEmptyA side) reply.Done fits = omega arith
  input-step (PutsEmptyA side) reply.Failed fits = omega arith
  input-step (PutsEmptyB side) reply.Done fits = omega arith
  input-step (PutsEmptyB side) reply.Failed fits = omega arith
  input-step HasDealt r fits = omega arith
  input-step x r fits = absurd fits

  pub input-has : HasTodo (input {L = L}) Any none_todo
  input-has = record { first_is = tt; first = omega arith; keeps = λ x r fits none is. tt; step = λ x r fits none is. input-step x r fits }

  output-step : (x : OutputPlace) (r : Reply L) → Fits (makes (output_aims x)) r → 0 + local_cost (output_aims x) r ≤ 0 + earns false (output_aims x) r
  output-step (TakesLines t) (reply.Page page last) fits = omega arith
  output-step (TakesLines t) reply.Failed fits = omega arith
  output-step (PutsLine line later t over) r fits = omega arith
  output-step PutsOver r fits = omega arith
  output-step HasGathered r fits = omega arith
  output-step x r fits = absurd fits

  pub output-has : HasTodo (output {L = L}) Any none_todo
  output-has = record { first_is = tt; first = omega arith; keeps = λ x r fits none is. tt; step = λ x r fits none is. output-step x r fits }

  printer-step : (x : PrinterPlace) (r : Reply L) → 0 + local_cost (printer_aims x) r ≤ 0 + earns false (printer_aims x) r
  printer-step TakesLine r = omega arith
  printer-step (PrintsLine line) r = omega arith
  printer-step HasPrinted r = omega arith

  pub printer-has : HasTodo (printer {L = L}) Any none_todo
  printer-has = record { first_is = tt; first = omega arith; keeps = λ x r fits none is. tt; step = λ x r fits none is. printer-step x r }

-- ---- 3 and 4 job: the work on a page, and the loads before it
read-known : (P : Result PageContent BadPage → Type 0) (n : ℕ) (last : Bool) (page : Page)
    → P (Ok (record { items = items_after 0 (content_of page.0); last = last })) → ((bad : BadPage) → P (Err bad)) → P (page_read n last page)
read-known P n last page good bad =
    elim (bad_place n last page.0) as (λ at. P (content_or_bad n last page.0 at)) [
      | None ↦ good
      | Some at ↦ bad _
    ]

module _ {L : Type 0} {J : Jobs L} (jobs : AreJobs J) where
  abbrev AllLoaded : Stream L → Type 0
  AllLoaded s = length (J.named s.items) ≤ length s.loads

  abbrev pub JobOwes : JobPlace L → Type 0
  JobOwes (TakesItems s) = AllLoaded s
  JobOwes (LoadsFile file s last) = 1 ≤ length (wanted J s)
  JobOwes (Toils s last) = AllLoaded s
  JobOwes (PutsLines page s last) = AllLoaded s
  JobOwes (PutsLastLines page some) = Unit {0}
  JobOwes HasWorked = Unit {0}

  abbrev pub job_todo : JobPlace L → ℕ
  job_todo (TakesItems s) = 0
  job_todo (LoadsFile file s last) = 1 + 5 * length (wanted J s)
  job_todo (Toils s last) = 1
  job_todo (PutsLines page s last) = 0
  job_todo (PutsLastLines page some) = 0
  job_todo HasWorked = 0

  record Next (x : JobPlace L) (n : ℕ) : Type 0 where
    is : JobOwes x
    few : job_todo x ≤ n

  wanted-length : (s : Stream L) → length (wanted J s) ≡ length (J.named s.items) - length s.loads
  wanted-length s = length-drop (length s.loads) (J.named s.items)

  toils-next : (files : List (List ℕ)) (s : Stream L) (last : Bool) → wanted J s ≡ files → Next (toils files s last) (1 + 5 * length (wanted J s))
  toils-next [] s last e = (let none : length (wanted J s) ≡ 0 = ap length e in let n = wanted-length s in record { is = omega (arith, none, n); few = omega arith })
  toils-next (file ∷ later) s last e =
      (let some : length (wanted J s) ≡ suc (length later) = ap length e in record { is = omega (arith, some); few = omega arith })

  more-next : {x : JobPlace L} {n m : ℕ} → n ≤ m → Next x n → Next x m
  more-next less next = (let few = next.few in record { is = next.is; few = omega (arith, less, few) })

  items-next : (items : List Item) (s : Stream L) (last : Bool) → Next (behind_items J items s last) (1 + 5 * length (wanted J s))
  items-next [] s true = record { is = tt; few = omega arith }
  items-next [] s false = toils-next (wanted J s) s false refl
  items-next (item ∷ rest) s true = toils-next (wanted J s) s true refl
  items-next (item ∷ rest) s false = toils-next (wanted J s) s false refl

  page-wanted : (s : Stream L) (items : List Item) → AllLoaded s → length (wanted J (with_page s items)) ≤ length items
  page-wanted s items all =
      let n = wanted-length (with_page s items) in
      let whole : length (J.named (s.items ++ items)) ≡ length (J.named s.items) + length (J.named items) =
      ap length (jobs.named_add s.items items) ∙ length-append (J.named s.items) (J.named items) in
      let few = jobs.few_named items in
      omega (arith, n, whole, few, all)

  page-next : (s : Stream L) (page : Page) (last : Bool) → AllLoaded s → fault_in (damage (page_taken s page last)) ≡ None
      → Next (behind_page J s (page_taken s page last)) (1 + 5 * item_count page)
  page-next s page last all =
      read-known (λ result. fault_in (damage result) ≡ None → Next (behind_page J s result) (1 + 5 * item_count page)) (s.pages % 2 ^ 16) last page
      (λ none.
      (let items = items_after 0 (content_of page.0) in
      let few = page-wanted s items all in
      more-next (omega (arith, few)) (items-next (s.items ++ items) (with_page s items) last)))
      (λ bad none. absurd cc)

  load-next : (s : Stream L) (load : L) (last : Bool) → 1 ≤ length (wanted J s) → Next (behind_load J (with_load s load) last) (5 * length (wanted J s) - 4)
  load-next s load last some =
      let now = with_load s load in
      let n = wanted-length s in
      let m = wanted-length now in
      let one : length now.loads ≡ length s.loads + 1 = length-append s.loads (load ∷ []) in
      more-next (omega (arith, some, n, m, one)) (toils-next (wanted J now) now last refl)

  rests-next : (s : Stream L) (last : Bool) → AllLoaded s → Next (rests s last) 0
  rests-next s true all = record { is = tt; few = omega arith }
  rests-next s false all = record { is = all; few = omega arith }

  packed-next : (s : Stream L) (last : Bool) (page : Option Page) → AllLoaded s → Next (behind_packed s last page) 0
  packed-next s last None all = rests-next s last all
  packed-next s last (Some page) all = record { is = all; few = omega arith }

  stream-next : (some : Bool) → Next (next_stream some) 0
  stream-next true = (let none = jobs.few_named [] in record { is = none; few = omega arith })
  stream-next false = record { is = tt; few = omega arith }

  record Both (side : Twin) (x : JobPlace L) (r : Reply L) : Type 0 where
    is : JobOwes (stands_behind (job J side) x (makes (job_aims side x)) r)
    step : job_todo (stands_behind (job J side) x (makes (job_aims side x)) r) + local_cost (job_aims side x) r ≤ job_todo x + earns true (job_aims side x) r

  job-both : (side : Twin) (x : JobPlace L) (r : Reply L) → Fits (makes (job_aims side x)) r → given_cause (job J side) x (makes (job_aims side x)) r ≡ None → JobOwes x → Both side x r
  job-both side (TakesItems s) (reply.Page page last) fits none is = (let next = page-next s page last is none in let few = next.few in record { is = next.is; step = omega (arith, few) })
  job-both side (TakesItems s) reply.Failed fits none is = absurd cc
  job-both side (LoadsFile file s last) (reply.Loaded load) fits none is =
      (let next = load-next s load last is in let few = next.few in record { is = next.is; step = omega (arith, few, is) })
  job-both side (LoadsFile file s last) reply.Failed fits none is = absurd cc
  job-both side (LoadsFile file s last) reply.NoMemory fits none is = absurd cc
  job-both side (Toils s last) reply.Done fits none is =
      let p = packs_lines s.hand s.packed (lines_ahead J s last) in
      (let next = packed-next (with_packed s p.packed p.hand) last p.page is in let few = next.few in record { is = next.is; step = omega (arith, few) })
  job-both side (PutsLines page s last) reply.Done fits none is = record { is = is; step = omega arith }
  job-both side (PutsLines page s last) reply.Failed fits none is = absurd cc
  job-both side (PutsLastLines page some) reply.Done fits none is = (let next = stream-next some in let few = next.few in record { is = next.is; step = omega (arith, few) })
  job-both side (PutsLastLines page some) reply.Failed fits none is = absurd cc
  job-both side HasWorked reply.Done fits none is = record { is = tt; step = omega arith }
  job-both side x r fits none is = absurd fits

  pub job-has : (side : Twin) → HasTodo (job J side) JobOwes job_todo
  job-has side = record {
    first_is = jobs.few_named [];
    first = omega arith;
    keeps = λ x r fits none is. (job-both side x r fits none is).is;
    step = λ x r fits none is. (job-both side x r fits none is).step;
  }

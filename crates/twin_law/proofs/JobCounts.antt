-- How many whole streams a job process took and put, and still owes, at each of its places.
use Rattle.std.proofs.Common.{◌≡◌, ℕ, ◌+◌, if◌then◌else◌, Bool, true, false, List, [], ◌∷◌, ◌++◌, Option, None, Some, refl, ap, arith}
use Rattle.network_law.specs.Network.{IsOne, acts}
use Rattle.network_law.specs.Network as law
use Rattle.std.specs.Prelude.{◌%◌, ◌^◌}
use Rattle.page_codec.specs.Packing as pack
use Rattle.batch_procs.specs.Relays.{mark-of}
use Rattle.solo_base.specs.declared.item.Item.{Item}
use Rattle.solo_base.specs.declared.item.Item.TheVariants.{Line}
use Rattle.solo_base.specs.declared.page.Page.{Page}
use Rattle.solo_base.specs.declared.outcome.Side.TheVariants.{Sender, Receiver}
use Rattle.page_codec.specs.Form.{page_of}
use Rattle.page_codec.specs.Packing.{PageInHand, page_given, hand_after, fits}
use Rattle.batch_procs.specs.declared.actions.Reply.{Reply}
use Rattle.batch_procs.specs.Jobs.{Jobs}
use Rattle.batch_procs.specs.Parcels.{mark}
use Rattle.place_law.specs.Process.{fault_in}
use Rattle.batch_procs.specs.declared.actions.Reply.TheVariants as reply
use Rattle.twin_law.specs.Process.{Entry, stands_behind, place, given_cause, caused}
use Rattle.twin_law.specs.Sides.{A, B}
use Rattle.twin_law.specs.Job.{Stream, JobPlace, TakesItems, LoadsFile, Toils, PutsLines, PutsLastLines, HasWorked, job_aims, wanted, toils, behind_items, with_page, behind_page, page_taken, with_load, Packed, packed_on, packs_lines, with_packed, rests, behind_packed, lines_ahead, next_stream, damage, job}
use Rattle.twin_law.specs.Twin.{call, went_by, Fits, twin}
use Rattle.twin_law.proofs.PagesRead.{read-either}
use Rattle.twin_law.proofs.Marks.{trues, bit, trues-append, trues-one, makes, marks_by, marks_at, stands}

-- ---- 3 and 4 job: whole streams taken, and still owed
abbrev pub owed : {L : Type 0} → JobPlace L → ℕ
owed (TakesItems s) = 0
owed (LoadsFile file s last) = bit last
owed (Toils s last) = bit last
owed (PutsLines page s last) = bit last
owed (PutsLastLines page some) = 1
owed HasWorked = 0

-- the mark of the page in hand
abbrev pub MarkedSo : {L : Type 0} → JobPlace L → Type 0
MarkedSo (PutsLines page s last) = mark page ≡ false
MarkedSo (PutsLastLines page some) = mark page ≡ true
MarkedSo x = Unit {0}

abbrev pub JobIs : {L : Type 0} → JobPlace L → List Bool → List Bool → Type 0
JobIs x us vs = (trues us ≡ trues vs + owed x) × MarkedSo x

-- a place that owes so much
abbrev Owes : {L : Type 0} → JobPlace L → ℕ → Type 0
Owes x n = (owed x ≡ n) × MarkedSo x

owed-toils : {L : Type 0} (files : List (List ℕ)) (s : Stream L) (last : Bool) → Owes (toils files s last) (bit last)
owed-toils [] s last = (refl, tt)
owed-toils (file ∷ later) s last = (refl, tt)

owed-next : (L : Type 0) (some : Bool) → Owes (next_stream {L = L} some) 0
owed-next L true = (refl, tt)
owed-next L false = (refl, tt)

owed-items : {L : Type 0} (J : Jobs L) (items : List Item) (s : Stream L) (last : Bool) → Owes (behind_items J items s last) (bit last)
owed-items J [] s true = (refl, mark-of 0 true [])
owed-items J [] s false = owed-toils (wanted J s) s false
owed-items J (item ∷ rest) s true = owed-toils (wanted J s) s true
owed-items J (item ∷ rest) s false = owed-toils (wanted J s) s false

-- a page that was taken and isn't damaged
owed-page : {L : Type 0} (J : Jobs L) (s : Stream L) (page : Page) (last : Bool) → fault_in (damage (page_taken s page last)) ≡ None
    → Owes (behind_page J s (page_taken s page last)) (bit last)
owed-page J s page last =
    read-either (λ result. fault_in (damage result) ≡ None → Owes (behind_page J s result) (bit last)) (s.pages % 2 ^ 16) last page
    (λ items none. owed-items J (s.items ++ items) (with_page s items) last) (λ bad none. absurd cc)

owed-rests : {L : Type 0} (s : Stream L) (last : Bool) → Owes (rests s last) (bit last)
owed-rests s true = (refl, mark-of s.hand.place true s.hand.content)
owed-rests s false = (refl, tt)

-- a page of lines that is given isn't the last
abbrev NoLast : Option Page → Type 0
NoLast None = Unit {0}
NoLast (Some page) = mark page ≡ false

no-last_given : (hand : PageInHand) (item : Item) → NoLast (page_given hand item)
no-last_given hand item =
    elim (pack.fits hand item) as (λ t. NoLast (if t then None else Some (page_of hand.place false hand.content))) [
      | true ↦ tt
      | false ↦ mark-of hand.place false hand.content
    ]

no-last_on : (given : Option Page) (hand : PageInHand) (n : ℕ) (behind : Packed) → NoLast given → NoLast behind.page → NoLast (packed_on given hand n behind).page
no-last_on None hand n behind first next = next
no-last_on (Some page) hand n behind first next = first

no-last : (hand : PageInHand) (n : ℕ) (lines : List (List ℕ)) → NoLast (packs_lines hand n lines).page
no-last hand n [] = tt
no-last hand n (line ∷ rest) =
    no-last_on (page_given hand (Line line)) (hand_after hand (Line line)) (n + 1) (packs_lines (hand_after hand (Line line)) (n + 1) rest)
    (no-last_given hand (Line line)) (no-last (hand_after hand (Line line)) (n + 1) rest)

owed-packed : {L : Type 0} (s : Stream L) (last : Bool) (page : Option Page) → NoLast page → Owes (behind_packed s last page) (bit last)
owed-packed s last None is = owed-rests s last
owed-packed s last (Some page) is = (refl, is)

-- a page was taken; nothing was moved; a page was put
owes-more : {L : Type 0} (t : Bool) (us vs : List Bool) (x : JobPlace L) → trues us ≡ trues vs + 0 → Owes x (bit t) → JobIs x (us ++ t ∷ []) (vs ++ [])
owes-more t us vs x is o = ((let a = trues-append us (t ∷ []) in let b = trues-append vs [] in let c = trues-one t in let e = o.0 in omega (arith, is, e, a, b, c)), o.1)

owes-same : {L : Type 0} (us vs : List Bool) (n : ℕ) (x : JobPlace L) → trues us ≡ trues vs + n → Owes x n → JobIs x (us ++ []) (vs ++ [])
owes-same us vs n x is o = ((let a = trues-append us [] in let b = trues-append vs [] in let e = o.0 in omega (arith, is, e, a, b)), o.1)

owes-less : {L : Type 0} (t : Bool) (us vs : List Bool) (n m : ℕ) (x : JobPlace L) → trues us ≡ trues vs + n → n ≡ bit t + m → Owes x m → JobIs x (us ++ []) (vs ++ t ∷ [])
owes-less t us vs n m x is less o =
    ((let a = trues-append us [] in let b = trues-append vs (t ∷ []) in let c = trues-one t in let e = o.0 in omega (arith, is, less, e, a, b, c)), o.1)

put-full : (page : Page) (n : ℕ) → mark page ≡ false → n ≡ bit (mark page) + n
put-full page n e = (let b : bit (mark page) ≡ 0 = ap bit e in omega (arith, b))

put-last : (page : Page) → mark page ≡ true → 1 ≡ bit (mark page) + 0
put-last page e = (let b : bit (mark page) ≡ 1 = ap bit e in omega (arith, b))

module _ {L : Type 0} (J : Jobs L) where
  job-step-a : (x : JobPlace L) (r : Reply L) (us vs : List Bool) → Fits (makes (job_aims A x)) r → given_cause (job J A) x (makes (job_aims A x)) r ≡ None → JobIs x us vs
      → JobIs (stands_behind (job J A) x (makes (job_aims A x)) r) (us ++ marks_by 2 Receiver (call 3 (makes (job_aims A x))) (went_by (makes (job_aims A x)) r))
      (vs ++ marks_by 4 Sender (call 3 (makes (job_aims A x))) (went_by (makes (job_aims A x)) r))
  job-step-a (TakesItems s) (reply.Page page last) us vs fits none is = owes-more last us vs _ is.0 (owed-page J s page last none)
  job-step-a (TakesItems s) reply.Failed us vs fits none is = absurd cc
  job-step-a (LoadsFile file s last) (reply.Loaded load) us vs fits none is =
      owes-same us vs (bit last) _ is.0 (owed-toils (wanted J (with_load s load)) (with_load s load) last)
  job-step-a (LoadsFile file s last) reply.Failed us vs fits none is = absurd cc
  job-step-a (LoadsFile file s last) reply.NoMemory us vs fits none is = absurd cc
  job-step-a (Toils s last) reply.Done us vs fits none is =
      let p = packs_lines s.hand s.packed (lines_ahead J s last) in
      owes-same us vs (bit last) _ is.0 (owed-packed (with_packed s p.packed p.hand) last p.page (no-last s.hand s.packed (lines_ahead J s last)))
  job-step-a (PutsLines page s last) reply.Done us vs fits none is =
      owes-less (mark page) us vs (bit last) (bit last) (Toils s last) is.0 (put-full page (bit last) is.1) (refl, tt)
  job-step-a (PutsLines page s last) reply.Failed us vs fits none is = absurd cc
  job-step-a (PutsLastLines page some) reply.Done us vs fits none is =
      owes-less {L = L} (mark page) us vs 1 0 (next_stream some) is.0 (put-last page is.1) (owed-next L some)
  job-step-a (PutsLastLines page some) reply.Failed us vs fits none is = absurd cc
  job-step-a HasWorked reply.Done us vs fits none is = owes-same {L = L} us vs 0 HasWorked is.0 (refl, tt)
  job-step-a x r us vs fits none is = absurd fits

  job-step-b : (x : JobPlace L) (r : Reply L) (us vs : List Bool) → Fits (makes (job_aims B x)) r → given_cause (job J B) x (makes (job_aims B x)) r ≡ None → JobIs x us vs
      → JobIs (stands_behind (job J B) x (makes (job_aims B x)) r) (us ++ marks_by 3 Receiver (call 4 (makes (job_aims B x))) (went_by (makes (job_aims B x)) r))
      (vs ++ marks_by 5 Sender (call 4 (makes (job_aims B x))) (went_by (makes (job_aims B x)) r))
  job-step-b (TakesItems s) (reply.Page page last) us vs fits none is = owes-more last us vs _ is.0 (owed-page J s page last none)
  job-step-b (TakesItems s) reply.Failed us vs fits none is = absurd cc
  job-step-b (LoadsFile file s last) (reply.Loaded load) us vs fits none is =
      owes-same us vs (bit last) _ is.0 (owed-toils (wanted J (with_load s load)) (with_load s load) last)
  job-step-b (LoadsFile file s last) reply.Failed us vs fits none is = absurd cc
  job-step-b (LoadsFile file s last) reply.NoMemory us vs fits none is = absurd cc
  job-step-b (Toils s last) reply.Done us vs fits none is =
      let p = packs_lines s.hand s.packed (lines_ahead J s last) in
      owes-same us vs (bit last) _ is.0 (owed-packed (with_packed s p.packed p.hand) last p.page (no-last s.hand s.packed (lines_ahead J s last)))
  job-step-b (PutsLines page s last) reply.Done us vs fits none is =
      owes-less (mark page) us vs (bit last) (bit last) (Toils s last) is.0 (put-full page (bit last) is.1) (refl, tt)
  job-step-b (PutsLines page s last) reply.Failed us vs fits none is = absurd cc
  job-step-b (PutsLastLines page some) reply.Done us vs fits none is =
      owes-less {L = L} (mark page) us vs 1 0 (next_stream some) is.0 (put-last page is.1) (owed-next L some)
  job-step-b (PutsLastLines page some) reply.Failed us vs fits none is = absurd cc
  job-step-b HasWorked reply.Done us vs fits none is = owes-same {L = L} us vs 0 HasWorked is.0 (refl, tt)
  job-step-b x r us vs fits none is = absurd fits

  pub job-a-stands : (h : List (Entry L)) → law.Follows (twin J) 3 h → caused (job J A) h ≡ None
      → JobIs (place (job J A) h) (marks_at J 3 2 Receiver h) (marks_at J 3 4 Sender h)
  job-a-stands h follows none = stands J 3 (omega arith, omega arith) 2 4 Receiver Sender JobIs (refl, tt) job-step-a h follows none

  pub job-b-stands : (h : List (Entry L)) → law.Follows (twin J) 4 h → caused (job J B) h ≡ None
      → JobIs (place (job J B) h) (marks_at J 4 3 Receiver h) (marks_at J 4 5 Sender h)
  job-b-stands h follows none = stands J 4 (omega arith, omega arith) 3 5 Receiver Sender JobIs (refl, tt) job-step-b h follows none

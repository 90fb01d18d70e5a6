-- How many calls a job process makes, whatever pages it is given: only a page that is read makes it load files.
use Rattle.std.proofs.Common.{◌≡◌, inl, inr, ℕ, ◌+◌, ◌*◌, ◌≤◌, ◌%◌, ◌^◌, List, [], ◌∷◌, length, Option, None, Some, refl, sym, ap, subst, arith}
use Rattle.network_law.specs.Acts.{Call, Went, Delayed, moved_by}
use Rattle.network_law.specs.Network.{IsOne, acts}
use Rattle.network_law.specs.Network as law
use Rattle.solo_base.specs.declared.outcome.Outcome.{Outcome}
use Rattle.solo_base.specs.declared.outcome.Side.TheVariants.{Sender, Receiver}
use Rattle.page_codec.specs.Packing.{fits}
use Rattle.batch_procs.specs.declared.actions.Reply.{Reply}
use Rattle.batch_procs.specs.Jobs.{Jobs, AreJobs}
use Rattle.batch_procs.specs.Parcels.{Parcel}
use Rattle.place_law.specs.Process.{Does, LacksMemory, Delays}
use Rattle.batch_procs.specs.declared.actions.Reply.TheVariants as reply
use Rattle.twin_law.specs.Process.{Action, Entry, place, aim, given_cause, caused, closing, closing_by, next_action}
use Rattle.twin_law.specs.Sides.{A, B}
use Rattle.twin_law.specs.Job.{JobPlace, TakesItems, LoadsFile, Toils, PutsLines, PutsLastLines, HasWorked, job_aims, job}
use Rattle.twin_law.specs.Table.{process}
use Rattle.twin_law.specs.Twin.{call, went_by, Fits, twin}
use Rattle.twin_law.proofs.Lawful.{or-none, or-new_none, not-lacking}
use Rattle.twin_law.proofs.Marks.{makes, IsAround, made}
use Rattle.twin_law.proofs.CallsMade.{counts_by, counts-most, made as calls, HasTodo, IsClosingCall, closes-call, no-lack, no-wait, end_left, end-most, closes-less, next-closes, made-most}
use Rattle.twin_law.proofs.Pays.{Spot, spot, items_sum, many, many_by, items_at, items_by_spots, many-more, items-more, nothing, sum_of, paid-most, job-a-pays, job-b-pays, PaidSo}
use Rattle.twin_law.proofs.Todo.{JobOwes, job_todo, job-has}
use Rattle.twin_law.proofs.GoodPages.{good-count}
use Rattle.twin_law.proofs.Credits.{around-still, still-many}

-- ---- plain numbers
few-then : (all few items now more : ℕ) → items ≤ 506 * all → now ≤ 506 * more → few ≡ all + more → items + now ≤ 506 * few
few-then all few items now more a b e = omega (arith, a, b, e)

in-calls : (made paid pages items none taken : ℕ) → made ≤ paid + (8 + 2 * 2) → paid ≤ 2 * 0 + 7 * pages + 5 * items + none → none ≡ 0 → items ≤ 506 * taken
    → made ≤ 7 * pages + 2530 * taken + 12
in-calls made paid pages items none taken a b c d = omega (arith, a, b, c, d)

one-more : (made one pages taken pages' taken' closing stops : ℕ) → made ≤ 7 * pages + 2530 * taken + 12 → one ≤ 2 → pages ≤ pages' → taken ≤ taken'
    → closing ≤ 3 + 2 * stops → stops ≤ 2
    → one + made + closing ≤ 7 * pages' + 2530 * taken' + 21
one-more made one pages taken pages' taken' closing stops a b c d e f = omega (arith, a, b, c, d, e, f)

still-less : (made one pages taken pages' taken' before after : ℕ) → made + before ≤ 7 * pages + 2530 * taken + 21 → one + after ≤ before → pages ≤ pages'
    → taken ≤ taken'
    → one + made + after ≤ 7 * pages' + 2530 * taken' + 21
still-less made one pages taken pages' taken' before after a b c d = omega (arith, a, b, c, d)

none-by : (L : Type 0) (spots : List Spot) → items_at {L = L} spots [] ≡ 0
none-by L [] = refl
none-by L (s ∷ rest) = (let none = none-by L rest in omega (arith, none))

pub no-sum : {L : Type 0} (h : List (Entry L)) → sum_of {L = L} nothing h ≡ 0
no-sum [] = refl
no-sum (entry ∷ h) = (let rest = no-sum h in omega (arith, rest))

module _ {L : Type 0} where
  sum-none : (ps : List (Parcel L)) → length ps ≡ 0 → items_sum ps ≡ 0
  sum-none [] e = refl
  sum-none (x ∷ ps) e = absurd (omega (arith, e))

  -- what moved nothing has no items
  items-none : (spots : List Spot) (c : Call) (w : Went (Parcel L)) → many_by spots c w ≡ 0 → items_by_spots spots c w ≡ 0
  items-none [] c w none = refl
  items-none (s ∷ rest) c w none =
      let one = sum-none (moved_by s.buffer s.side c w) (omega (arith, none)) in
      let more = items-none rest c w (omega (arith, none)) in
      omega (arith, one, more)

-- ---- a process with two buffers, at one of which it takes pages
module _ {L : Type 0} {J : Jobs L} (jobs : AreJobs J) (p : ℕ) (one : IsOne (twin J) p) (pages taken : List Spot) (Is : (process J p).Place → Type 0)
    (todo : (process J p).Place → ℕ)
    (has : HasTodo (process J p) Is todo)
    (pays : (x : (process J p).Place) (r : Reply L) → Fits (makes ((process J p).aims x)) r
    → PaidSo J p one [] pages taken nothing (process J p).works (makes ((process J p).aims x)) r)
    (two : length (process J p).buffers ≤ 2) (two_spools : length (process J p).spools ≤ 2)
    (few : (x : (process J p).Place) (r : Reply L) → Fits (makes ((process J p).aims x)) r → given_cause (process J p) x (makes ((process J p).aims x)) r ≡ None
    → items_by_spots taken (call p (makes ((process J p).aims x))) (went_by (makes ((process J p).aims x)) r) ≤ 506 * many_by taken
    (call p (makes ((process J p).aims x))) (went_by (makes ((process J p).aims x)) r)) where
  abbrev Few : Action → Reply L → Type 0
  Few a r = items_by_spots taken (call p a) (went_by a r) ≤ 506 * many_by taken (call p a) (went_by a r)

  around-few : (a : Action) (r : Reply L) → IsAround a → Fits a r → Few a r
  around-few a r around fits =
      let none = items-none taken (call p a) (went_by a r) (still-many taken (call p a) (went_by a r) (around-still a r around fits)) in
      omega (arith, none)

  one-few : (h : List (Entry L)) (a : Action) (r : Reply L) → next_action (process J p) h ≡ Some a → Fits a r
      → given_cause (process J p) (place (process J p) h) a r ≡ None → Few a r
  one-few h a r next fits none =
      elim (made J p h a one next) as (λ _. Few a r) [
        | inl around ↦ around-few a r around fits
        | inr same ↦ (subst (λ a. Fits a r → given_cause (process J p) (place (process J p) h) a r ≡ None → Few a r) same
            (λ fits none. few (place (process J p) h) r fits none)) fits none
      ]

  -- without a cause each page that it took was read
  few-items : (h : List (Entry L)) → law.Follows (twin J) p h → caused (process J p) h ≡ None
      → items_at taken (acts (twin J) p h) ≤ 506 * many taken (acts (twin J) p h)
  few-items [] follows none = (let zero = none-by L taken in omega (arith, zero))
  few-items (Does a r ∷ h) follows none =
      let before = or-none (caused (process J p) h) _ none in
      let now = or-new_none (caused (process J p) h) _ none in
      let was = few-items h follows.2 before in
      let here = one-few h a r follows.0 follows.1.0 now in
      let ac = acts (twin J) p h in
      let items = items-more taken (call p a) (went_by a r) ac in
      subst (λ n. n ≤ 506 * many taken (acts (twin J) p (Does a r ∷ h))) (sym items)
      (few-then (many taken ac) (many taken (acts (twin J) p (Does a r ∷ h))) (items_at taken ac) (items_by_spots taken (call p a) (went_by a r))
      (many_by taken (call p a) (went_by a r)) was here
      (many-more taken (call p a) (went_by a r) ac))
  few-items (LacksMemory a r ∷ h) follows none = absurd (not-lacking (caused (process J p) h) _ none)
  few-items (Delays a ∷ h) follows none =
      let was = few-items h follows.2 none in
      let ac = acts (twin J) p h in
      let still = still-many {L = L} taken (call p a) Delayed tt in
      let items = items-more taken (call p a) Delayed ac in
      let zero = items-none taken (call p a) Delayed still in
      let more = many-more taken (call p a) Delayed ac in
      omega (arith, was, items, zero, more, still)

  abbrev moves-of : List (Entry L) → ℕ
  moves-of h = many pages (acts (twin J) p h)

  abbrev takes-of : List (Entry L) → ℕ
  takes-of h = many taken (acts (twin J) p h)

  free-calls : (h : List (Entry L)) → law.Follows (twin J) p h → caused (process J p) h ≡ None → calls h ≤ 7 * moves-of h + 2530 * takes-of h + 12
  free-calls h follows none =
      in-calls _ _ _ _ _ _ (made-most J p one Is todo has h 2 follows two two_spools) (paid-most J p one [] pages taken nothing pays h follows) (no-sum h)
      (few-items h follows none)

  more-spots : (spots : List Spot) (c : Call) (w : Went (Parcel L)) (h : List (Entry L))
      → many spots (acts (twin J) p h) ≤ many spots (record { call = c; went = w } ∷ acts (twin J) p h)
  more-spots spots c w h = (let more = many-more spots c w (acts (twin J) p h) in omega (arith, more))

  abbrev Closes : List (Entry L) → Type 0
  Closes h = calls h + end_left (process J p).buffers h ≤ 7 * moves-of h + 2530 * takes-of h + 21

  closing-of : (h : List (Entry L)) (how : Outcome) → caused (process J p) h ≡ Some how
      → closing (process J p) h ≡ Some record { stops = (process J p).buffers; how = how }
  closing-of h how e = ap (λ cause. closing_by (process J p) cause (aim (process J p) h)) e

  -- with a cause it only closes down
  caused-calls : (h : List (Entry L)) (how : Outcome) → law.Follows (twin J) p h → caused (process J p) h ≡ Some how → Closes h
  caused-calls [] how follows e = absurd cc
  caused-calls (Does a r ∷ h) how follows e = by (λ was some. caused-calls h was follows.2 some) (caused (process J p) h) refl where
    by : ((was : Outcome) → caused (process J p) h ≡ Some was → Closes h) → (before : Option Outcome) → caused (process J p) h ≡ before → Closes (Does a r ∷ h)
    by closed None none =
        one-more (calls h) (counts_by a r) (moves-of h) (takes-of h) _ _ _ (length (process J p).buffers) (free-calls h follows.2 none) (counts-most a r)
        (more-spots pages (call p a) (went_by a r) h) (more-spots taken (call p a) (went_by a r) h) (end-most (process J p).buffers (Does a r ∷ h)) two
    by closed (Some was) some =
        let next = next-closes J p one Is todo has h a (record { stops = (process J p).buffers; how = was }) (closing-of h was some) follows.0 in
        let less = subst (λ a. counts_by a r + end_left (process J p).buffers (Does a r ∷ h) ≤ end_left (process J p).buffers h) next.1
        (closes-less (process J p).buffers was h r next.0) in
        still-less (calls h) (counts_by a r) (moves-of h) (takes-of h) _ _ (end_left (process J p).buffers h) (end_left (process J p).buffers (Does a r ∷ h))
        (closed was some) less
        (more-spots pages (call p a) (went_by a r) h) (more-spots taken (call p a) (went_by a r) h)
  caused-calls (LacksMemory a r ∷ h) how follows e = by (caused (process J p) h) refl where
    by : (before : Option Outcome) → caused (process J p) h ≡ before → Closes (LacksMemory a r ∷ h)
    by None none =
        one-more (calls h) (counts_by a r) (moves-of h) (takes-of h) _ _ _ (length (process J p).buffers) (free-calls h follows.2 none) (counts-most a r)
        (more-spots pages (call p a) (went_by a r) h) (more-spots taken (call p a) (went_by a r) h) (end-most (process J p).buffers (LacksMemory a r ∷ h)) two
    by (Some was) some =
        absurd (let next = next-closes J p one Is todo has h a (record { stops = (process J p).buffers; how = was }) (closing-of h was some) follows.0 in
        no-lack a r (subst IsClosingCall next.1 (closes-call (process J p).buffers was h)) follows.1.1)
  caused-calls (Delays a ∷ h) how follows e =
      absurd (let next = next-closes J p one Is todo has h a (record { stops = (process J p).buffers; how = how }) (closing-of h how e) follows.0 in
      no-wait a (subst IsClosingCall next.1 (closes-call (process J p).buffers how h)) follows.1)

  pub few-calls : (h : List (Entry L)) → law.Follows (twin J) p h → calls h ≤ 7 * moves-of h + 2530 * takes-of h + 21
  few-calls h follows = by (caused (process J p) h) refl where
    by : (cause : Option Outcome) → caused (process J p) h ≡ cause → calls h ≤ 7 * moves-of h + 2530 * takes-of h + 21
    by None none = (let few = free-calls h follows none in omega (arith, few))
    by (Some how) e = (let few = caused-calls h how follows e in omega (arith, few))

-- ---- the two
module _ {L : Type 0} {J : Jobs L} (jobs : AreJobs J) where
  few-a : (x : JobPlace L) (r : Reply L) → Fits (makes (job_aims A x)) r → given_cause (job J A) x (makes (job_aims A x)) r ≡ None
      → items_by_spots (spot 2 Receiver ∷ []) (call 3 (makes (job_aims A x))) (went_by (makes (job_aims A x)) r)
      ≤ 506 * many_by (spot 2 Receiver ∷ []) (call 3 (makes (job_aims A x))) (went_by (makes (job_aims A x)) r)
  few-a (TakesItems s) (reply.Page page last) fits none = (let few = good-count (s.pages % 2 ^ 16) last page none in omega (arith, few))
  few-a (TakesItems s) reply.Failed fits none = omega arith
  few-a (LoadsFile file s last) r fits none = omega arith
  few-a (Toils s last) r fits none = omega arith
  few-a (PutsLines page s last) reply.Done fits none = omega arith
  few-a (PutsLines page s last) reply.Failed fits none = omega arith
  few-a (PutsLastLines page some) reply.Done fits none = omega arith
  few-a (PutsLastLines page some) reply.Failed fits none = omega arith
  few-a HasWorked r fits none = omega arith
  few-a x r fits none = absurd fits

  few-b : (x : JobPlace L) (r : Reply L) → Fits (makes (job_aims B x)) r → given_cause (job J B) x (makes (job_aims B x)) r ≡ None
      → items_by_spots (spot 3 Receiver ∷ []) (call 4 (makes (job_aims B x))) (went_by (makes (job_aims B x)) r)
      ≤ 506 * many_by (spot 3 Receiver ∷ []) (call 4 (makes (job_aims B x))) (went_by (makes (job_aims B x)) r)
  few-b (TakesItems s) (reply.Page page last) fits none = (let few = good-count (s.pages % 2 ^ 16) last page none in omega (arith, few))
  few-b (TakesItems s) reply.Failed fits none = omega arith
  few-b (LoadsFile file s last) r fits none = omega arith
  few-b (Toils s last) r fits none = omega arith
  few-b (PutsLines page s last) reply.Done fits none = omega arith
  few-b (PutsLines page s last) reply.Failed fits none = omega arith
  few-b (PutsLastLines page some) reply.Done fits none = omega arith
  few-b (PutsLastLines page some) reply.Failed fits none = omega arith
  few-b HasWorked r fits none = omega arith
  few-b x r fits none = absurd fits

  pub calls-a : (h : List (Entry L)) → law.Follows (twin J) 3 h
      → calls h ≤ 7 * many (spot 2 Receiver ∷ spot 4 Sender ∷ []) (acts (twin J) 3 h) + 2530 * many (spot 2 Receiver ∷ []) (acts (twin J) 3 h) + 21
  calls-a = few-calls jobs 3 (omega arith, omega arith) (spot 2 Receiver ∷ spot 4 Sender ∷ []) (spot 2 Receiver ∷ []) (JobOwes jobs) (job_todo jobs)
      (job-has jobs A) (job-a-pays J) (omega arith) (omega arith) few-a

  pub calls-b : (h : List (Entry L)) → law.Follows (twin J) 4 h
      → calls h ≤ 7 * many (spot 3 Receiver ∷ spot 5 Sender ∷ []) (acts (twin J) 4 h) + 2530 * many (spot 3 Receiver ∷ []) (acts (twin J) 4 h) + 21
  calls-b = few-calls jobs 4 (omega arith, omega arith) (spot 3 Receiver ∷ spot 5 Sender ∷ []) (spot 3 Receiver ∷ []) (JobOwes jobs) (job_todo jobs)
      (job-has jobs B) (job-b-pays J) (omega arith) (omega arith) few-b

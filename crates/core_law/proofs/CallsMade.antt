-- What a process has done, by what it took and put: each entry, and one more where it may wake another process.
use Rattle.std.proofs.Common.{◌≡◌, ℕ, ◌+◌, ◌*◌, ◌≤◌, Bool, true, false, ◌&&◌, not, List, [], ◌∷◌, ◌++◌, length, length-append, Option, None, Some, refl, sym, ◌∙◌, ap, arith}
use Rattle.solo_base.specs.declared.outcome.Outcome.{Outcome}
use Rattle.solo_devices.specs.declared.card_read.CardRead.TheVariants as read
use Rattle.batch_procs.specs.declared.actions.Action.{Action}
use Rattle.batch_procs.specs.declared.actions.Action.TheVariants as act
use Rattle.batch_procs.specs.declared.actions.Reply.{Reply}
use Rattle.batch_procs.specs.declared.actions.Reply.TheVariants as reply
use Rattle.batch_procs.specs.declared.round.Step.{Step}
use Rattle.batch_procs.specs.declared.round.Step.TheVariants as step
use Rattle.batch_procs.specs.Parcels.{Parcel, OfFeed, OfPage, OfLine, OfLoad, loads, handed, is_ended}
use Rattle.batch_procs.specs.History.{Entry, Does, LacksMemory, Delays, taken_by, taken, put_by, sent, holds, newest}
use Rattle.batch_procs.specs.Causes.{given_cause, caused}
use Rattle.batch_procs.specs.Fits.{Fits}
use Rattle.batch_procs.specs.Process.{Process, unworked, due, aim, working, closing, next_action, Follows}
use Rattle.batch_procs.specs.Laws.{IsTake, IsHeld, IsRelay}
use Rattle.batch_procs.specs.Machine.{step_of, step_after}
use Rattle.batch_procs.specs.Ahead.{moves_ahead, one_if, unstopped, ahead_at}
use Rattle.batch_procs.specs.Relays.{loads-append}
use Rattle.batch_procs.proofs.Closing.{works-next, working-no_stop, aimed-no_stop}
use Rattle.batch_procs.proofs.Held.{IsFree, aim-is}
use Rattle.batch_procs.proofs.Nexts.{next-local}
use Rattle.batch_procs.proofs.Machines.{held-by, not-held}
use Rattle.batch_procs.proofs.Falling.{free-step, request-step, release-step, one-most}
use Rattle.core_law.proofs.HandedLists.{handed-append}
use Rattle.core_law.proofs.Taking.{next-take}
use Rattle.batch_procs.specs.Jobs.{Jobs, AreJobs}

-- ---- what a take and a put come to, with the calls around a move of a page, and the work where it is done
abbrev pub take_cost : Action → ℕ
take_cost act.ReadCard = 1
take_cost act.TakeFeed = 2
take_cost act.TakePage = 6
take_cost other = 0

-- what is left of a move of a page
abbrev pub left : Step → ℕ
left step.Free = 2
left step.Awaited = 1
left step.Granted = 0
left step.Moved = 4
left step.Ended = 0

pub at-most : (s : Step) (n : ℕ) → ahead_at s n ≤ n
at-most step.Free n = omega arith
at-most step.Awaited n = omega arith
at-most step.Granted n = omega arith
at-most step.Moved n = omega arith
at-most step.Ended n = omega arith

-- what a take of this kind costs
pub cost-is : (takes a : Action) → takes ≡ a → take_cost takes ≡ take_cost a
cost-is takes a e = ap take_cost e

pub and-nothing : (t : Bool) → (t && false) ≡ false
and-nothing true = refl
and-nothing false = refl

module _ {L : Type 0} {J : Jobs L} (jobs : AreJobs J) where
  -- ---- what an entry counts
  abbrev pub counts_by : Action → Reply L → ℕ
  counts_by (act.PutFeed f) reply.Done = 2
  counts_by act.TakeFeed (reply.Feed f) = 2
  counts_by (act.PutPage page) reply.Done = 2
  counts_by act.TakePage (reply.Page page last) = 2
  counts_by act.Release r = 2
  counts_by (act.Stop b) r = 2
  counts_by action r = 1

  abbrev pub counts : Entry L → ℕ
  counts (Does a r) = counts_by a r
  counts (LacksMemory a r) = counts_by a r
  counts (Delays a) = 0

  abbrev pub made : List (Entry L) → ℕ
  made [] = 0
  made (entry ∷ h) = counts entry + made h

  abbrev pub put_cost : Parcel L → ℕ
  put_cost (OfFeed f) = 2
  put_cost (OfPage page last) = 6
  put_cost (OfLine line) = 1
  put_cost (OfLoad load) = 0

  abbrev pub put_sum : Bool → List (Parcel L) → ℕ
  put_sum works [] = 0
  put_sum works (parcel ∷ rest) = put_cost parcel + one_if works + put_sum works rest

  pub sum-append : (works : Bool) (xs ys : List (Parcel L)) → put_sum works (xs ++ ys) ≡ put_sum works xs + put_sum works ys
  sum-append works [] ys = omega arith
  sum-append works (x ∷ xs) ys = (let rest = sum-append works xs ys in omega (arith, rest))

  -- what was taken, and a load with its two calls
  abbrev pub taken_cost : Process L → List (Parcel L) → ℕ
  taken_cost p tk = (take_cost p.takes + one_if p.works) * length (handed tk) + 5 * length (loads tk)

  abbrev pub spent : Process L → List (Entry L) → ℕ
  spent p h = taken_cost p (taken h) + put_sum p.works (sent h)

  -- a parcel that was handed over
  pub one-costs : (p : Process L) (tk : List (Parcel L)) → length (handed tk) ≡ 1 → loads tk ≡ [] → taken_cost p tk ≡ take_cost p.takes + one_if p.works
  one-costs p tk one none =
      let c = take_cost p.takes + one_if p.works in
      let once : c * 1 ≡ c = omega arith in
      ap (λ n. c * n + 5 * length (loads tk)) one ∙ ap (λ ls. c * 1 + 5 * length ls) none ∙ ap (λ m. m + 0) once ∙ omega arith

  pub none-costs : (p : Process L) → taken_cost p [] ≡ 0
  none-costs p = omega arith

  pub cost-append : (p : Process L) (some more : List (Parcel L)) → taken_cost p (some ++ more) ≡ taken_cost p some + taken_cost p more
  cost-append p some more =
      let c = take_cost p.takes + one_if p.works in
      let hd : length (handed (some ++ more)) ≡ length (handed some) + length (handed more) =
      ap length (handed-append jobs some more) ∙ length-append (handed some) (handed more) in
      let ld : length (loads (some ++ more)) ≡ length (loads some) + length (loads more) =
      ap length (loads-append some more) ∙ length-append (loads some) (loads more) in
      let times : c * (length (handed some) + length (handed more)) ≡ c * length (handed some) + c * length (handed more) = grind arith in
      ap (λ n. c * n + 5 * length (loads (some ++ more))) hd ∙ ap (λ n. c * (length (handed some) + length (handed more)) + 5 * n) ld
      ∙ ap (λ n. n + 5 * (length (loads some) + length (loads more))) times ∙ omega arith

  abbrev pub closing_left : Process L → List (Entry L) → ℕ
  closing_left p h = ahead_at (step_after (newest h)) (2 * one_if (holds h) + 2 * unstopped p.buffers h + 1)

  abbrev pub Within : Process L → ℕ → Option Outcome → List (Entry L) → Type 0
  Within p slack None h = made h + ahead_at (step_after (newest h)) (left (step_after (newest h)) + one_if (unworked p h)) ≤ 2 + spent p h
  Within p slack (Some how) h = made h + closing_left p h ≤ 2 + spent p h + slack

  -- ---- steps
  left-free : (s : Step) → moves_ahead s ≡ 2 → left s ≡ 2
  left-free step.Free e = refl
  left-free step.Awaited e = absurd cc
  left-free step.Granted e = absurd cc
  left-free step.Moved e = absurd cc
  left-free step.Ended e = absurd cc

  left-some : (s : Step) → 1 ≤ moves_ahead s → 1 ≤ left s
  left-some step.Free some = omega arith
  left-some step.Awaited some = omega arith
  left-some step.Granted some = some
  left-some step.Moved some = omega arith
  left-some step.Ended some = some

  left-moved : (s : Step) → moves_ahead s ≡ 3 → left s ≡ 4
  left-moved step.Free e = absurd cc
  left-moved step.Awaited e = absurd cc
  left-moved step.Granted e = absurd cc
  left-moved step.Moved e = refl
  left-moved step.Ended e = absurd cc

  pub working-counts : (newest : Option Action) (aim a : Action) (n : ℕ) → working newest aim ≡ Some a → ahead_at (step_after newest) n ≡ n
  working-counts None aim a n e = refl
  working-counts (Some act.AwaitRoom) aim a n e = refl
  working-counts (Some act.AwaitItem) aim a n e = refl
  working-counts (Some act.Request) aim a n e = refl
  working-counts (Some (act.PutPage page)) aim a n e = refl
  working-counts (Some act.TakePage) aim a n e = refl
  working-counts (Some (act.Load file)) aim a n e = refl
  working-counts (Some (act.Ended how)) aim a n e = absurd cc
  working-counts (Some other) aim a n e = refl

  pub closing-counts : (newest : Option Action) (next a : Action) (n : ℕ) → closing newest next ≡ Some a → ahead_at (step_after newest) n ≡ n
  closing-counts None next a n e = refl
  closing-counts (Some (act.Ended how)) next a n e = absurd cc
  closing-counts (Some act.AwaitRoom) next a n e = refl
  closing-counts (Some act.AwaitItem) next a n e = refl
  closing-counts (Some act.Request) next a n e = refl
  closing-counts (Some (act.PutPage page)) next a n e = refl
  closing-counts (Some act.TakePage) next a n e = refl
  closing-counts (Some (act.Load file)) next a n e = refl
  closing-counts (Some other) next a n e = refl

  pub free-left : (p : Process L) (h : List (Entry L)) (a : Action) → IsRelay p → Follows J p h → next_action p h ≡ Some a → caused h ≡ None → IsFree a
      → (IsHeld a → ⊥)
      → left (step_after (newest h)) ≡ 2
  free-left p h a relay follows next none free apart =
      left-free (step_after (newest h)) (free-step (newest h) (aim p h) a (works-next J p h a next none) free
      (sym (held-by J p h relay follows) ∙ not-held J p h a relay follows next apart))

  and-most : (t u : Bool) → one_if (t && u) ≤ one_if t
  and-most true u = one-most u
  and-most false u = omega arith

  -- ---- one that has no cause, and is given none
  -- what is spent behind an entry whose take costs so much, and that put these
  pub spent-more : (p : Process L) (h : List (Entry L)) (a : Action) (r : Reply L) (n : ℕ) (ps : List (Parcel L)) → taken_cost p (taken_by r) ≡ n
      → put_by a r ≡ ps
      → spent p (Does a r ∷ h) ≡ spent p h + n + put_sum p.works ps
  spent-more p h a r n ps takes puts_are =
      let tk : taken_cost p (taken h ++ taken_by r) ≡ taken_cost p (taken h) + n =
      cost-append p (taken h) (taken_by r) ∙ ap (λ m. taken_cost p (taken h) + m) takes in
      let st : put_sum p.works (sent h ++ put_by a r) ≡ put_sum p.works (sent h) + put_sum p.works ps
      = sum-append p.works (sent h) (put_by a r) ∙ ap (λ ps. put_sum p.works (sent h) + put_sum p.works ps) puts_are in
      ap (λ m. m + put_sum p.works (sent h ++ put_by a r)) tk ∙ ap (λ m. taken_cost p (taken h) + n + m) st ∙ omega arith

  sum-up : (m l u s e l' u' s' more g : ℕ) → m + (l + u) ≤ 2 + s → s' ≡ s + more → e + l' + u' ≤ l + u + more → g ≤ l' + u' → e + m + g ≤ 2 + s'
  sum-up m l u s e l' u' s' more g was is less most = omega (arith, was, is, less, most)

  module _ (p : Process L) (h : List (Entry L)) (a : Action) (r : Reply L) (relay : IsRelay p) (follows : Follows J p (Does a r ∷ h)) (none : caused h ≡ None)
      (was : made h + (left (step_after (newest h)) + one_if (unworked p h)) ≤ 2 + spent p h) where
    -- of the cost of what was taken, and a list that was put
    steps : (n : ℕ) (ps : List (Parcel L)) → taken_cost p (taken_by r) ≡ n → put_by a r ≡ ps
        → counts_by a r + left (step_of a) + one_if (unworked p (Does a r ∷ h))
        ≤ left (step_after (newest h)) + one_if (unworked p h) + (n + put_sum p.works ps)
        → Within p 0 None (Does a r ∷ h)
    steps n ps takes puts_are less =
        sum-up (made h) _ _ (spent p h) (counts_by a r) _ _ _ _ _ was (spent-more p h a r n ps takes puts_are ∙ omega arith) less (at-most (step_of a) _)

  take-one : (a : Action) (r : Reply L) (h : List (Entry L)) → IsTake a → Fits J a r → given_cause a r h ≡ None
      → (length (handed (taken_by r)) ≡ 1) × (loads (taken_by r) ≡ [])
  take-one act.ReadCard (reply.Card (read.Card line)) h take fits none = (refl, refl)
  take-one act.ReadCard (reply.Card read.Spoiled) h take fits none = (refl, refl)
  take-one act.ReadCard (reply.Card read.End) h take fits none = (refl, refl)
  take-one act.ReadCard (reply.Card read.Failed) h take fits none = absurd cc
  take-one act.ReadCard (reply.Card read.Limit) h take fits none = absurd cc
  take-one act.ReadCard other h take fits none = absurd fits
  take-one act.TakeFeed (reply.Feed f) h take fits none = (refl, refl)
  take-one act.TakeFeed reply.Stopped h take fits none = absurd cc
  take-one act.TakeFeed other h take fits none = absurd fits
  take-one act.TakePage (reply.Page page last) h take fits none = (refl, refl)
  take-one act.TakePage reply.Failed h take fits none = absurd cc
  take-one act.TakePage other h take fits none = absurd fits
  take-one other r h take fits none = absurd take

  take-costs : (p : Process L) (a : Action) (r : Reply L) (h : List (Entry L)) → IsTake a → Fits J a r → given_cause a r h ≡ None
      → taken_cost p (taken_by r) ≡ take_cost p.takes + one_if p.works
  take-costs p a r h take fits none = (let one = take-one a r h take fits none in one-costs p (taken_by r) one.0 one.1)

  counts-most : (a : Action) (r : Reply L) → counts_by a r ≤ 2
  counts-most (act.PutFeed f) reply.Done = omega arith
  counts-most act.TakeFeed (reply.Feed f) = omega arith
  counts-most (act.PutPage page) reply.Done = omega arith
  counts-most act.TakePage (reply.Page page last) = omega arith
  counts-most act.Release r = omega arith
  counts-most (act.Stop b) r = omega arith
  counts-most action r = omega arith

  take-less : (e l' u' l u c w : ℕ) → e + l' ≤ l + c → u' ≤ w → e + l' + u' ≤ l + u + (c + w + 0)
  take-less e l' u' l u c w less work = omega (arith, less, work)

  put-less : (e l' u' l u c w : ℕ) → e + l' ≤ l + c → u' ≤ w → e + l' + u' ≤ l + u + (0 + (c + w + 0))
  put-less e l' u' l u c w less work = omega (arith, less, work)

  -- a load, whose release is to come
  load-costs : (p : Process L) (load : L) → taken_cost p (OfLoad load ∷ []) ≡ 5
  load-costs p load = omega arith

  load-less : (e l' u' l u : ℕ) → e + l' ≤ 5 → u' ≤ u → e + l' + u' ≤ l + u + (5 + 0)
  load-less e l' u' l u few work = omega (arith, few, work)

  still-less : (e l' u' l u : ℕ) → e + l' + u' ≤ l + u → e + l' + u' ≤ l + u + (0 + 0)
  still-less e l' u' l u less = omega (arith, less)

  local-less : (l : ℕ) (u now : Bool) → l ≡ 2 → u ≡ true → now ≡ false → 1 + 2 + one_if now ≤ l + one_if u
  local-less l true false is on off = omega (arith, is)
  local-less l true true is on off = absurd cc
  local-less l false now is on off = absurd cc

  pub works-within : (p : Process L) (h : List (Entry L)) (a : Action) (r : Reply L) → IsRelay p → Follows J p (Does a r ∷ h) → caused h ≡ None
      → given_cause a r h ≡ None
      → made h + (left (step_after (newest h)) + one_if (unworked p h)) ≤ 2 + spent p h → Within p 0 None (Does a r ∷ h)
  works-within p h act.ReadCard r relay follows none given was =
      let cost = cost-is p.takes act.ReadCard (next-take jobs p h act.ReadCard follows.0 tt).same in
      let free = free-left p h act.ReadCard relay follows.2 follows.0 none tt (λ is. is) in
      steps p h act.ReadCard r relay follows none was (take_cost p.takes + one_if p.works) [] (take-costs p act.ReadCard r h tt follows.1 given) refl
      (take-less 1 2 _ _ _ (take_cost p.takes) (one_if p.works) (omega (arith, cost, free)) (and-most p.works true))
  works-within p h act.TakeFeed r relay follows none given was =
      let cost = cost-is p.takes act.TakeFeed (next-take jobs p h act.TakeFeed follows.0 tt).same in
      let free = free-left p h act.TakeFeed relay follows.2 follows.0 none tt (λ is. is) in
      let most = counts-most act.TakeFeed r in
      steps p h act.TakeFeed r relay follows none was (take_cost p.takes + one_if p.works) [] (take-costs p act.TakeFeed r h tt follows.1 given) refl
      (take-less (counts_by act.TakeFeed r) 2 _ _ _ (take_cost p.takes) (one_if p.works) (omega (arith, cost, free, most)) (and-most p.works true))
  works-within p h act.TakePage r relay follows none given was =
      let cost = cost-is p.takes act.TakePage (next-take jobs p h act.TakePage follows.0 tt).same in
      let most = counts-most act.TakePage r in
      steps p h act.TakePage r relay follows none was (take_cost p.takes + one_if p.works) [] (take-costs p act.TakePage r h tt follows.1 given) refl
      (take-less (counts_by act.TakePage r) 4 _ _ _ (take_cost p.takes) (one_if p.works) (omega (arith, cost, most)) (and-most p.works true))
  works-within p h (act.PutFeed f) reply.Done relay follows none given was =
      let free = free-left p h (act.PutFeed f) relay follows.2 follows.0 none tt (λ is. is) in
      steps p h (act.PutFeed f) reply.Done relay follows none was 0 (OfFeed f ∷ []) (none-costs p) refl
      (put-less 2 2 _ _ _ 2 (one_if p.works) (omega (arith, free)) (and-most p.works _))
  works-within p h (act.PutFeed f) reply.Stopped relay follows none given was = absurd cc
  works-within p h (act.PutFeed f) other relay follows none given was = absurd follows.1
  works-within p h (act.PutPage page) reply.Done relay follows none given was =
      steps p h (act.PutPage page) reply.Done relay follows none was 0 (OfPage page (Rattle.batch_procs.specs.Parcels.mark page) ∷ []) (none-costs p) refl
      (put-less 2 4 _ _ _ 6 (one_if p.works) (omega arith) (and-most p.works (not (Rattle.batch_procs.specs.Parcels.mark page))))
  works-within p h (act.PutPage page) reply.Failed relay follows none given was = absurd cc
  works-within p h (act.PutPage page) other relay follows none given was = absurd follows.1
  works-within p h (act.Print line) reply.Done relay follows none given was =
      let free = free-left p h (act.Print line) relay follows.2 follows.0 none tt (λ is. is) in
      steps p h (act.Print line) reply.Done relay follows none was 0 (OfLine line ∷ []) (none-costs p) refl
      (put-less 1 2 _ _ _ 1 (one_if p.works) (omega (arith, free)) (and-most p.works _))
  works-within p h (act.Print line) reply.Failed relay follows none given was = absurd cc
  works-within p h (act.Print line) reply.NoMemory relay follows none given was = absurd cc
  works-within p h (act.Print line) other relay follows none given was = absurd follows.1
  works-within p h (act.Load file) (reply.Loaded load) relay follows none given was =
      steps p h (act.Load file) (reply.Loaded load) relay follows none was 5 [] (load-costs p load) refl
      (load-less 1 4 (one_if (unworked p h)) (left (step_after (newest h))) (one_if (unworked p h)) (omega arith) (omega arith))
  works-within p h (act.Load file) reply.Failed relay follows none given was = absurd cc
  works-within p h (act.Load file) reply.NoMemory relay follows none given was = absurd cc
  works-within p h (act.Load file) other relay follows none given was = absurd follows.1
  works-within p h act.AwaitRoom reply.Done relay follows none given was =
      let free = free-left p h act.AwaitRoom relay follows.2 follows.0 none tt (λ is. is) in
      steps p h act.AwaitRoom reply.Done relay follows none was 0 [] (none-costs p) refl (still-less 1 1 _ _ _ (omega (arith, free)))
  works-within p h act.AwaitRoom reply.Stopped relay follows none given was = absurd cc
  works-within p h act.AwaitRoom other relay follows none given was = absurd follows.1
  works-within p h act.AwaitItem reply.Done relay follows none given was =
      let free = free-left p h act.AwaitItem relay follows.2 follows.0 none tt (λ is. is) in
      steps p h act.AwaitItem reply.Done relay follows none was 0 [] (none-costs p) refl (still-less 1 1 _ _ _ (omega (arith, free)))
  works-within p h act.AwaitItem reply.Stopped relay follows none given was = absurd cc
  works-within p h act.AwaitItem other relay follows none given was = absurd follows.1
  works-within p h act.Request reply.Done relay follows none given was =
      let one = left-some (step_after (newest h)) (request-step (newest h) (aim p h) (aim-is J p h relay) (works-next J p h act.Request follows.0 none)) in
      steps p h act.Request reply.Done relay follows none was 0 [] (none-costs p) refl (still-less 1 0 _ _ _ (omega (arith, one)))
  works-within p h act.Request other relay follows none given was = absurd follows.1
  works-within p h act.Release reply.Done relay follows none given was =
      let moved = left-moved (step_after (newest h)) (release-step (newest h) (aim p h) (aim-is J p h relay) (works-next J p h act.Release follows.0 none)) in
      steps p h act.Release reply.Done relay follows none was 0 [] (none-costs p) refl (still-less 2 2 _ _ _ (omega (arith, moved)))
  works-within p h act.Release other relay follows none given was = absurd follows.1
  works-within p h act.Local reply.Done relay follows none given was =
      let free = free-left p h act.Local relay follows.2 follows.0 none tt (λ is. is) in
      steps p h act.Local reply.Done relay follows none was 0 [] (none-costs p) refl
      (still-less 1 2 _ _ _ (local-less _ (unworked p h) (p.works && false) free (next-local J p h relay follows.2 follows.0).0 (and-nothing p.works)))
  works-within p h act.Local other relay follows none given was = absurd follows.1
  works-within p h (act.Ended how) reply.Done relay follows none given was =
      let free = free-left p h (act.Ended how) relay follows.2 follows.0 none tt (λ is. is) in
      let same = spent-more p h (act.Ended how) reply.Done 0 [] (none-costs p) refl in
      omega (arith, was, free, same)
  works-within p h (act.Ended how) other relay follows none given was = absurd follows.1
  works-within p h (act.Stop b) r relay follows none given was =
      absurd (working-no_stop (newest h) (aim p h) (act.Stop b)
      (aimed-no_stop J p.takes (p.wants (taken h)) (due p h) (is_ended (taken h)) (unworked p h) relay.takes)
      (works-next J p h (act.Stop b) follows.0 none))

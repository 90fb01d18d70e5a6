-- What a process has done, where it is given a cause and closes down; and so in every history.
use Rattle.std.proofs.Common.{◌≡◌, ◌⊎◌, inl, inr, ℕ, ◌+◌, ◌*◌, ◌≤◌, Bool, true, false, ◌&&◌, if◌then◌else◌, List, [], ◌∷◌, ◌++◌, length, Option, None, Some, refl, sym, ◌∙◌, ap, subst, arith}
use Rattle.std.proofs.lemmas.List.{append-nil}
use Rattle.solo_base.specs.declared.outcome.Outcome.{Outcome}
use Rattle.solo_devices.specs.declared.card_read.CardRead.TheVariants as read
use Rattle.batch_procs.specs.declared.actions.Action.{Action}
use Rattle.batch_procs.specs.declared.actions.Action.TheVariants as act
use Rattle.batch_procs.specs.declared.actions.Reply.{Reply}
use Rattle.batch_procs.specs.declared.actions.Reply.TheVariants as reply
use Rattle.batch_procs.specs.Parcels.{Parcel, OfPage}
use Rattle.batch_procs.specs.History.{Entry, Does, LacksMemory, Delays, taken_by, taken, put_by, sent, holds, holds_after, has_stopped, newest}
use Rattle.batch_procs.specs.Causes.{given_cause, or_new, caused}
use Rattle.batch_procs.specs.Fits.{Fits, MayLack}
use Rattle.batch_procs.specs.Process.{Process, unworked, aim, stops_next, closes, closing, next_by, next_action, Follows}
use Rattle.batch_procs.specs.Laws.{IsOpen, IsRelay}
use Rattle.batch_procs.specs.Machine.{step_of, step_after}
use Rattle.batch_procs.specs.Ahead.{one_if, unstopped, ahead_at}
use Rattle.batch_procs.proofs.Relay.{closing-next, open-next}
use Rattle.batch_procs.proofs.Closing.{works-next}
use Rattle.batch_procs.proofs.Falling.{unstopped-most, unstopped-same, stop-falls}
use Rattle.core_law.proofs.Taking.{next-take}
use Rattle.core_law.proofs.CallsMade.{counts_by, counts, made, take_cost, put_sum, left, taken_cost, one-costs, none-costs, cost-append, spent, closing_left, Within, at-most, working-counts, closing-counts, spent-more, cost-is, works-within, and-nothing}
use Rattle.batch_procs.specs.Jobs.{Jobs, AreJobs}

module _ {L : Type 0} {J : Jobs L} (jobs : AreJobs J) where
  -- ---- one that is given a cause
  -- What is left of closing down, where a process that is given a cause finds this step.
  abbrev pub HasSlack : Process L → ℕ → Type 0
  HasSlack p slack =
      (h : List (Entry L)) (a : Action) → Follows J p h → caused h ≡ None → next_action p h ≡ Some a
      → 2 * one_if (holds h) + 2 * length p.buffers + 2 ≤ left (step_after (newest h)) + slack

  cause-sum : (m l u s e c more g slack held n b : ℕ) → m + (l + u) ≤ 2 + s → c ≤ 2 * held + 2 * n + 1 → n ≤ b → 2 * held + 2 * b + 2 ≤ l + slack → e ≤ 1 + more
      → g ≡ s + more → e + m + c ≤ 2 + g + slack
  cause-sum m l u s e c more g slack held n b was most stops has few spent_is = omega (arith, was, most, stops, has, few, spent_is)

  module _ (p : Process L) (slack : ℕ) (h : List (Entry L)) (relay : IsRelay p) (none : caused h ≡ None)
      (was : made jobs h + (left (step_after (newest h)) + one_if (unworked p h)) ≤ 2 + spent jobs p h)
      (has : 2 * one_if (holds h) + 2 * length p.buffers + 2 ≤ left (step_after (newest h)) + slack) where
    -- by what was taken
    given-by : (entry : Entry L) (more : ℕ) → holds (entry ∷ h) ≡ holds h → counts jobs entry ≤ 1 + more → spent jobs p (entry ∷ h) ≡ spent jobs p h + more
        → made jobs (entry ∷ h) + closing_left jobs p (entry ∷ h) ≤ 2 + spent jobs p (entry ∷ h) + slack
    given-by entry more held few spent_is =
        cause-sum (made jobs h) _ _ (spent jobs p h) (counts jobs entry) _ more _ slack (one_if (holds h)) (unstopped p.buffers (entry ∷ h))
        (length p.buffers) was
        (subst (λ t. closing_left jobs p (entry ∷ h) ≤ 2 * one_if t + 2 * unstopped p.buffers (entry ∷ h) + 1) held
        (at-most (step_after (newest (entry ∷ h))) (2 * one_if (holds (entry ∷ h)) + 2 * unstopped p.buffers (entry ∷ h) + 1)))
        (unstopped-most J p.buffers (entry ∷ h)) has few spent_is

  -- a reply that gives a cause
  record CauseOf (p : Process L) (h : List (Entry L)) (entry : Entry L) : Type 0 where
    more : ℕ
    held : holds (entry ∷ h) ≡ holds h
    few : counts jobs entry ≤ 1 + more
    spent_is : spent jobs p (entry ∷ h) ≡ spent jobs p h + more

  spent-none : (p : Process L) (h : List (Entry L)) (a : Action) (r : Reply L) → taken_by r ≡ [] → put_by a r ≡ []
      → spent jobs p (Does a r ∷ h) ≡ spent jobs p h + 0
  spent-none p h a r takes puts_are =
      let same = spent-more jobs p h a r 0 [] (ap (taken_cost jobs p) takes ∙ none-costs jobs p) puts_are in
      omega (arith, same)

  -- A page that is taken costs more than its entry counts.
  page-cost : (c w n k : ℕ) → c ≡ 6 → k ≡ n + (c + w) + 0 → k ≡ n + (6 + w)
  page-cost c w n k e is = omega (arith, e, is)

  causes : (p : Process L) (h : List (Entry L)) (a : Action) (r : Reply L) (how : Outcome) → Follows J p (Does a r ∷ h) → given_cause a r h ≡ Some how
      → CauseOf p h (Does a r)
  causes p h act.ReadCard (reply.Card answer) how follows given = by answer given
    where
      by : (answer : Rattle.solo_devices.specs.declared.card_read.CardRead.CardRead) → given_cause act.ReadCard (reply.Card answer) h ≡ Some how
          → CauseOf p h (Does act.ReadCard (reply.Card answer))
      by (read.Card line) given = absurd cc
      by read.Spoiled given = absurd cc
      by read.End given = absurd cc
      by read.Failed given = record { more = 0; held = refl; few = omega arith; spent_is = spent-none p h act.ReadCard (reply.Card read.Failed) refl refl }
      by read.Limit given = record { more = 0; held = refl; few = omega arith; spent_is = spent-none p h act.ReadCard (reply.Card read.Limit) refl refl }
  causes p h act.ReadCard other how follows given = absurd follows.1
  causes p h (act.PutFeed f) reply.Stopped how follows given =
      record { more = 0; held = refl; few = omega arith; spent_is = spent-none p h (act.PutFeed f) reply.Stopped refl refl }
  causes p h (act.PutFeed f) reply.Done how follows given = absurd cc
  causes p h (act.PutFeed f) other how follows given = absurd follows.1
  causes p h act.TakeFeed reply.Stopped how follows given =
      record { more = 0; held = refl; few = omega arith; spent_is = spent-none p h act.TakeFeed reply.Stopped refl refl }
  causes p h act.TakeFeed (reply.Feed f) how follows given = absurd cc
  causes p h act.TakeFeed other how follows given = absurd follows.1
  causes p h act.AwaitRoom reply.Stopped how follows given =
      record { more = 0; held = refl; few = omega arith; spent_is = spent-none p h act.AwaitRoom reply.Stopped refl refl }
  causes p h act.AwaitRoom reply.Done how follows given = absurd cc
  causes p h act.AwaitRoom other how follows given = absurd follows.1
  causes p h act.AwaitItem reply.Stopped how follows given =
      record { more = 0; held = refl; few = omega arith; spent_is = spent-none p h act.AwaitItem reply.Stopped refl refl }
  causes p h act.AwaitItem reply.Done how follows given = absurd cc
  causes p h act.AwaitItem other how follows given = absurd follows.1
  causes p h act.Request reply.Done how follows given = absurd cc
  causes p h act.Request other how follows given = absurd follows.1
  causes p h (act.PutPage page) reply.Failed how follows given =
      record { more = 0; held = refl; few = omega arith; spent_is = spent-none p h (act.PutPage page) reply.Failed refl refl }
  causes p h (act.PutPage page) reply.Done how follows given = absurd cc
  causes p h (act.PutPage page) other how follows given = absurd follows.1
  causes p h act.TakePage reply.Failed how follows given =
      record { more = 0; held = refl; few = omega arith; spent_is = spent-none p h act.TakePage reply.Failed refl refl }
  causes p h act.TakePage (reply.Page page last) how follows given =
      let cost = cost-is p.takes act.TakePage (next-take jobs p h act.TakePage follows.0 tt).same in
      record {
        more = 6 + one_if p.works;
        held = refl;
        few = omega arith;
        spent_is = page-cost _ _ _ _ cost
            (spent-more jobs p h act.TakePage (reply.Page page last) (take_cost p.takes + one_if p.works) []
            (one-costs jobs p (OfPage page last ∷ []) refl refl) refl);
      }
  causes p h act.TakePage other how follows given = absurd follows.1
  causes p h act.Release reply.Done how follows given = absurd cc
  causes p h act.Release other how follows given = absurd follows.1
  causes p h (act.Load file) reply.Failed how follows given =
      record { more = 0; held = refl; few = omega arith; spent_is = spent-none p h (act.Load file) reply.Failed refl refl }
  causes p h (act.Load file) reply.NoMemory how follows given =
      record { more = 0; held = refl; few = omega arith; spent_is = spent-none p h (act.Load file) reply.NoMemory refl refl }
  causes p h (act.Load file) (reply.Loaded load) how follows given = absurd cc
  causes p h (act.Load file) other how follows given = absurd follows.1
  causes p h act.Local reply.Done how follows given = absurd cc
  causes p h act.Local other how follows given = absurd follows.1
  causes p h (act.Print line) reply.Done how follows given = absurd cc
  causes p h (act.Print line) reply.Failed how follows given =
      record { more = 0; held = refl; few = omega arith; spent_is = spent-none p h (act.Print line) reply.Failed refl refl }
  causes p h (act.Print line) reply.NoMemory how follows given =
      record { more = 0; held = refl; few = omega arith; spent_is = spent-none p h (act.Print line) reply.NoMemory refl refl }
  causes p h (act.Print line) other how follows given = absurd follows.1
  causes p h (act.Stop b) reply.Done how follows given = absurd cc
  causes p h (act.Stop b) other how follows given = absurd follows.1
  causes p h (act.Ended e) reply.Done how follows given = absurd cc
  causes p h (act.Ended e) other how follows given = absurd follows.1

  lacks : (p : Process L) (h : List (Entry L)) (a : Action) (r : Reply L) → next_action p h ≡ Some a → MayLack a r → CauseOf p h (LacksMemory a r)
  lacks p h act.TakePage (reply.Page page last) next may =
      let cost = cost-is p.takes act.TakePage (next-take jobs p h act.TakePage next tt).same in
      record {
        more = 6 + one_if p.works;
        held = refl;
        few = omega arith;
        spent_is = lack-cost (taken_cost jobs p (taken h)) (put_sum jobs p.works (sent h)) _ _ _ cost
            (cost-append jobs p (taken h) (OfPage page last ∷ []) ∙ ap (λ n. taken_cost jobs p (taken h) + n)
            (one-costs jobs p (OfPage page last ∷ []) refl refl));
      }
    where
      lack-cost : (t k c w m : ℕ) → c ≡ 6 → m ≡ t + (c + w) → m + k ≡ t + k + (6 + w)
      lack-cost t k c w m e is = omega (arith, e, is)
  lacks p h act.Local reply.Done next may =
      record { more = 0; held = refl; few = omega arith; spent_is = lack-same (taken h) (put_sum jobs p.works (sent h)) }
    where
      lack-same : (ps : List (Parcel L)) (k : ℕ) → taken_cost jobs p (ps ++ []) + k ≡ taken_cost jobs p ps + k + 0
      lack-same ps k = ap (λ ps. taken_cost jobs p ps + k) (append-nil ps) ∙ omega arith
  lacks p h a r next may = absurd may

  -- ---- one that closes down
  stops-kind : (buffers : List ℕ) (how : Outcome) (h : List (Entry L))
      → ((b : ℕ) × (stops_next buffers how h ≡ act.Stop b)) ⊎ (stops_next buffers how h ≡ act.Ended how)
  stops-kind [] how h = inr refl
  stops-kind (b ∷ later) how h =
      let P : Bool → Type 0 = λ t. ((c : ℕ) × ((if t then stops_next later how h else act.Stop b) ≡ act.Stop c))
      ⊎ ((if t then stops_next later how h else act.Stop b) ≡ act.Ended how) in
      elim (has_stopped b h) as P [ true ↦ stops-kind later how h | false ↦ inl (b, refl) ]

  abbrev Closes : Process L → ℕ → Bool → List (Entry L) → Action → Reply L → Type 0
  Closes p slack held h a r =
      made jobs h + (2 * one_if held + 2 * unstopped p.buffers h + 1) ≤ 2 + spent jobs p h + slack
      → counts_by jobs a r + made jobs h + ahead_at (step_of a) (2 * one_if (holds_after held a) + 2 * unstopped p.buffers (Does a r ∷ h) + 1)
      ≤ 2 + spent jobs p (Does a r ∷ h) + slack

  release-closes : (p : Process L) (slack : ℕ) (h : List (Entry L)) (r : Reply L) → Fits J act.Release r → Closes p slack true h act.Release r
  release-closes p slack h reply.Done fits was =
      let same = unstopped-same J p.buffers h (Does act.Release reply.Done ∷ h) (λ b. refl) in
      let cost = spent-none p h act.Release reply.Done refl refl in
      omega (arith, same, cost, was)
  release-closes p slack h other fits was = absurd fits

  stop-closes : (p : Process L) (slack : ℕ) (how : Outcome) (h : List (Entry L)) (b : ℕ) (r : Reply L) → stops_next p.buffers how h ≡ act.Stop b
      → Fits J (act.Stop b) r
      → Closes p slack false h (act.Stop b) r
  stop-closes p slack how h b reply.Done e fits was =
      let less = stop-falls J p.buffers how b reply.Done h e in
      let cost = spent-none p h (act.Stop b) reply.Done refl refl in
      omega (arith, less, cost, was)
  stop-closes p slack how h b other e fits was = absurd fits

  end-closes : (p : Process L) (slack : ℕ) (how : Outcome) (h : List (Entry L)) (r : Reply L) → Fits J (act.Ended how) r → Closes p slack false h
      (act.Ended how) r
  end-closes p slack how h reply.Done fits was =
      let cost = spent-none p h (act.Ended how) reply.Done refl refl in
      omega (arith, cost, was)
  end-closes p slack how h other fits was = absurd fits

  closes-by : (p : Process L) (slack : ℕ) (how : Outcome) (h : List (Entry L)) (a : Action) (r : Reply L) (held : Bool)
      → (if held then act.Release else stops_next p.buffers how h) ≡ a → Fits J a r → Closes p slack held h a r
  closes-by p slack how h a r true e fits =
      subst (λ a. Closes p slack true h a r) e (release-closes p slack h r (subst (λ a. Fits J a r) (sym e) fits))
  closes-by p slack how h a r false e fits =
      elim (stops-kind p.buffers how h) as (λ _. Closes p slack false h a r) [
        | inl (b, is) ↦ subst (λ a. Closes p slack false h a r) (sym is ∙ e) (stop-closes p slack how h b r is (subst (λ a. Fits J a r) (sym e ∙ is) fits))
        | inr is ↦ subst (λ a. Closes p slack false h a r) (sym is ∙ e) (end-closes p slack how h r (subst (λ a. Fits J a r) (sym e ∙ is) fits))
      ]

  -- ---- every history
  zero-more : (m c s : ℕ) → m + c ≤ s → 0 + m + c ≤ s
  zero-more m c s was = omega (arith, was)

  lack-open : (a : Action) (r : Reply L) → MayLack a r → IsOpen a
  lack-open act.TakePage r may = tt
  lack-open act.Local r may = tt
  lack-open other r may = absurd may

  nothing-made : (n x : ℕ) → x ≡ 0 → 0 + (2 + x) ≤ 2 + n
  nothing-made n x e = omega (arith, e)

  module _ (p : Process L) (slack : ℕ) (relay : IsRelay p) (has : HasSlack p slack) where
    no-ahead : (h : List (Entry L)) (a : Action) → next_action p h ≡ Some a → caused h ≡ None → Within jobs p slack None h
        → made jobs h + (left (step_after (newest h)) + one_if (unworked p h)) ≤ 2 + spent jobs p h
    no-ahead h a next none was =
        subst (λ n. made jobs h + n ≤ 2 + spent jobs p h) (working-counts jobs (newest h) (aim p h) a _ (works-next J p h a next none)) was

    delay-within : (h : List (Entry L)) (a : Action) (cause : Option Outcome) → Within jobs p slack cause h → Within jobs p slack cause (Delays a ∷ h)
    delay-within h a None was = zero-more (made jobs h) _ _ was
    delay-within h a (Some how) was =
        let same = unstopped-same J p.buffers h (Delays a ∷ h) (λ b. refl) in
        zero-more (made jobs h) _ _
        (subst (λ n. made jobs h + ahead_at (step_after (newest h)) (2 * one_if (holds h) + 2 * n + 1) ≤ 2 + spent jobs p h + slack) (sym same) was)

    done-within : (h : List (Entry L)) (a : Action) (r : Reply L) (old new : Option Outcome) → Follows J p (Does a r ∷ h) → caused h ≡ old
        → given_cause a r h ≡ new
        → Within jobs p slack old h → Within jobs p slack (or_new old new) (Does a r ∷ h)
    done-within h a r None None follows none given was =
        works-within jobs p h a r relay follows none given (no-ahead h a follows.0 none was)
    done-within h a r None (Some how) follows none given was =
        let is = causes p h a r how follows given in
        given-by p slack h relay none (no-ahead h a follows.0 none was) (has h a follows.2 none follows.0) (Does a r) is.more is.held is.few is.spent_is
    done-within h a r (Some how) new follows caused_is given was =
        let next : closing (newest h) (closes p.buffers how h) ≡ Some a = sym (ap (λ c. next_by p c h) caused_is) ∙ follows.0 in
        closes-by p slack how h a r (holds h) (closing-next (newest h) (closes p.buffers how h) a next) follows.1
        (subst (λ n. made jobs h + n ≤ 2 + spent jobs p h + slack) (closing-counts jobs (newest h) (closes p.buffers how h) a _ next) was)

    lack-within : (h : List (Entry L)) (a : Action) (r : Reply L) (old : Option Outcome) (how : Outcome) → Follows J p (LacksMemory a r ∷ h) → caused h ≡ old
        → Within jobs p slack old h → Within jobs p slack (or_new old (Some how)) (LacksMemory a r ∷ h)
    lack-within h a r None how follows none was =
        let is = lacks p h a r follows.0 follows.1.1 in
        given-by p slack h relay none (no-ahead h a follows.0 none was) (has h a follows.2 none follows.0) (LacksMemory a r) is.more is.held is.few is.spent_is
    lack-within h a r (Some c) how follows caused_is was =
        absurd (let none = open-next J p h a follows.0 (lack-open a r follows.1.1) in cc)

    within : (h : List (Entry L)) → Follows J p h → Within jobs p slack (caused h) h
    within [] follows = nothing-made (spent jobs p []) (one_if (p.works && false)) (ap one_if (and-nothing p.works))
    within (Does a r ∷ h) follows = done-within h a r (caused h) (given_cause a r h) follows refl refl (within h follows.2)
    within (LacksMemory a r ∷ h) follows = lack-within h a r (caused h) _ follows refl (within h follows.2)
    within (Delays a ∷ h) follows = delay-within h a (caused h) (within h follows.2)

    most-by : (h : List (Entry L)) (cause : Option Outcome) → Within jobs p slack cause h → made jobs h ≤ 2 + spent jobs p h + slack
    most-by h None was = omega (arith, was)
    most-by h (Some how) was = omega (arith, was)

    -- No history counts more than what it took and put come to.
    pub made-most : (h : List (Entry L)) → Follows J p h → made jobs h ≤ 2 + spent jobs p h + slack
    made-most h follows = most-by h (caused h) (within h follows)

-- What a process may still do falls with each action.
use Rattle.std.proofs.Common.{◌≡◌, ◌≤◌, ◌⊎◌, inl, inr, ℕ, ◌+◌, ◌*◌, ◌-◌, Bool, true, false, ◌&&◌, if◌then◌else◌, List, [], ◌∷◌, ◌++◌, length, length-append, Option, None, Some, refl, sym, ◌∙◌, ap, subst, arith}
use Rattle.std.proofs.lemmas.List.{append-nil}
use Rattle.std.specs.List.{AllByRecursion}
use Rattle.solo_base.specs.declared.outcome.Outcome.{Outcome}
use Rattle.solo_devices.specs.declared.card_read.CardRead.TheVariants as read
use Rattle.batch_procs.specs.Jobs.{Jobs}
use Rattle.batch_procs.specs.declared.actions.Action.{Action}
use Rattle.batch_procs.specs.declared.actions.Action.TheVariants as act
use Rattle.batch_procs.specs.declared.actions.Reply.{Reply}
use Rattle.batch_procs.specs.declared.actions.Reply.TheVariants as reply
use Rattle.batch_procs.specs.declared.round.Step.{Step}
use Rattle.batch_procs.specs.declared.round.Step.TheVariants as step
use Rattle.batch_procs.specs.Parcels.{Parcel, OfFeed, OfPage, OfLine, OfLoad, loads, handed, is_ended}
use Rattle.batch_procs.specs.History.{Entry, Does, LacksMemory, Delays, taken_by, taken, put_by, sent, holds, holds_after, has_stopped, newest}
use Rattle.batch_procs.specs.Causes.{given_cause, or_new, caused}
use Rattle.batch_procs.specs.Fits.{Fits, MayLack}
use Rattle.batch_procs.specs.Process.{Process, unworked, due, aim, working, stops_next, closes, closing, next_by, next_action, Follows}
use Rattle.batch_procs.specs.Laws.{IsTake, IsOpen, IsRelay}
use Rattle.batch_procs.specs.Machine.{step_of, step_after}
use Rattle.batch_procs.specs.Ahead.{AreLoadsGood, GivesAtMost, moves_ahead, one_if, unstopped, ahead_by, ahead_at, ahead, AheadFalls}
use Rattle.batch_procs.proofs.Relay.{closing-next, open-next, sent-is-part}
use Rattle.batch_procs.proofs.Closing.{works-next, working-no_stop, aimed-no_stop}
use Rattle.batch_procs.proofs.Held.{IsFree, aim-is}
use Rattle.batch_procs.specs.Relays.{loads-append}
use Rattle.batch_procs.proofs.Nexts.{next-local, next-load}
use Rattle.batch_procs.proofs.Machines.{held-by, not-held}
use Rattle.batch_procs.proofs.Falling.{free-step, request-step, release-step, unstopped-most, unstopped-same, stop-falls, one-most, after-take, after-put}

-- ---- an end counts nothing, and no other step
at-most : (s : Step) (n : ℕ) → ahead_at s n ≤ n
at-most step.Free n = omega arith
at-most step.Awaited n = omega arith
at-most step.Granted n = omega arith
at-most step.Moved n = omega arith
at-most step.Ended n = omega arith

working-counts : (newest : Option Action) (aim a : Action) (n : ℕ) → working newest aim ≡ Some a → ahead_at (step_after newest) n ≡ n
working-counts None aim a n e = refl
working-counts (Some act.AwaitRoom) aim a n e = refl
working-counts (Some act.AwaitItem) aim a n e = refl
working-counts (Some act.Request) aim a n e = refl
working-counts (Some (act.PutPage page)) aim a n e = refl
working-counts (Some act.TakePage) aim a n e = refl
working-counts (Some (act.Load file)) aim a n e = refl
working-counts (Some (act.Ended how)) aim a n e = absurd cc
working-counts (Some other) aim a n e = refl

steps-count : (a : Action) (n : ℕ) → ((how : Outcome) → a ≡ act.Ended how → ⊥) → ahead_at (step_of a) n ≡ n
steps-count (act.Ended how) n not = absurd (not how refl)
steps-count act.AwaitRoom n not = refl
steps-count act.AwaitItem n not = refl
steps-count act.Request n not = refl
steps-count (act.PutPage page) n not = refl
steps-count act.TakePage n not = refl
steps-count (act.Load file) n not = refl
steps-count other n not = refl

closing-counts : (newest : Option Action) (next a : Action) (n : ℕ) → closing newest next ≡ Some a → ahead_at (step_after newest) n ≡ n
closing-counts None next a n e = refl
closing-counts (Some (act.Ended how)) next a n e = absurd cc
closing-counts (Some act.AwaitRoom) next a n e = refl
closing-counts (Some act.AwaitItem) next a n e = refl
closing-counts (Some act.Request) next a n e = refl
closing-counts (Some (act.PutPage page)) next a n e = refl
closing-counts (Some act.TakePage) next a n e = refl
closing-counts (Some (act.Load file)) next a n e = refl
closing-counts (Some other) next a n e = refl

moves-most : (s : Step) → moves_ahead s ≤ 3
moves-most step.Free = omega arith
moves-most step.Awaited = omega arith
moves-most step.Granted = omega arith
moves-most step.Moved = omega arith
moves-most step.Ended = omega arith

-- ---- sums
take-sum : (n a' w' a w b f m u m0 u0 l wz d : ℕ) → n ≤ a' + w' + m + u + l + 3 → a' ≡ a + b → w' ≤ w + f → m ≤ 3 → u ≤ 1 → wz ≡ 0 → d ≡ b + f + 5
    → n + wz + 1 ≤ a + w + m0 + u0 + l + 3 + d
take-sum n a' w' a w b f m u m0 u0 l wz d most is names moves work none more = omega (arith, most, is, names, moves, work, none, more)

put-sum : (n a' w' a w v m u m0 u0 l wz d : ℕ) → n ≤ a' + w' + m + u + l + 3 → a ≡ a' + (v + 5) → w' ≡ w → m ≤ 3 → u ≤ 1 → wz ≡ v
    → n + wz + 1 ≤ a + w + m0 + u0 + l + 3 + d
put-sum n a' w' a w v m u m0 u0 l wz d most is same moves work one = omega (arith, most, is, same, moves, work, one)

still-sum : (n a' w' a w m u m0 u0 l wz d : ℕ) → n ≤ a' + w' + m + u + l + 3 → a' ≡ a → w' ≡ w → wz ≡ 0 → m + u + 1 ≤ m0 + u0
    → n + wz + 1 ≤ a + w + m0 + u0 + l + 3 + d
still-sum n a' w' a w m u m0 u0 l wz d most is same none less = omega (arith, most, is, same, none, less)

load-sum : (n a' w' a w m u m0 l wz d : ℕ) → n ≤ a' + w' + m + u + l + 3 → a' ≡ a → w ≡ w' + 4 → wz ≡ 0 → m ≤ 3
    → n + wz + 1 ≤ a + w + m0 + u + l + 3 + d
load-sum n a' w' a w m u m0 l wz d most is less none moves = omega (arith, most, is, less, none, moves)

cause-sum : (n o s a w m0 u0 l wz d : ℕ) → n ≤ o + s + 1 → o ≤ 1 → s ≤ l → wz ≡ 0 → n + wz + 1 ≤ a + w + m0 + u0 + l + 3 + d
cause-sum n o s a w m0 u0 l wz d most holds stops none = omega (arith, most, holds, stops, none)

four-more : (w' w most : ℕ) → w' ≤ w + most → 4 * w' ≤ 4 * w + 4 * most
four-more w' w most few = omega (arith, few)

nine : (weight most : ℕ) → (weight + 9) * most ≡ (weight + 5) * most + 4 * most
nine weight most = grind arith

-- ---- by the action
and-nothing : (t : Bool) → (t && false) ≡ false
and-nothing true = refl
and-nothing false = refl

step-less : (m u : ℕ) → m ≡ 2 → 1 + u + 1 ≤ m + u
step-less m u is = omega (arith, is)

request-less : (m u : ℕ) → 1 ≤ m → 0 + u + 1 ≤ m + u
request-less m u is = omega (arith, is)

release-less : (m u : ℕ) → m ≡ 3 → 2 + u + 1 ≤ m + u
release-less m u is = omega (arith, is)

local-less : (m : ℕ) (u now : Bool) → m ≡ 2 → u ≡ true → now ≡ false → 2 + one_if now + 1 ≤ m + one_if u
local-less m true false is on off = omega (arith, is)
local-less m true true is on off = absurd cc
local-less m false now is on off = absurd cc

ended-falls : (n w b v m u l d : ℕ) → w ≡ 0 → 0 + w + 1 ≤ b + v + m + u + l + 3 + d
ended-falls n w b v m u l d none = omega (arith, none)

module _ {L : Type 0} (J : Jobs L) where
  -- ---- what a reply takes and puts
  -- one parcel, which a buffer or the deck handed over
  record TakesOne (r : Reply L) : Type 0 where
    pub parcel : Parcel L
    pub is : taken_by r ≡ parcel ∷ []
    pub one : handed (parcel ∷ []) ≡ parcel ∷ []

  take-one : (a : Action) (r : Reply L) (h : List (Entry L)) → IsTake a → Fits J a r → given_cause a r h ≡ None → TakesOne r
  take-one act.ReadCard (reply.Card (read.Card line)) h take fits none = record { parcel = _; is = refl; one = refl }
  take-one act.ReadCard (reply.Card read.Spoiled) h take fits none = record { parcel = _; is = refl; one = refl }
  take-one act.ReadCard (reply.Card read.End) h take fits none = record { parcel = _; is = refl; one = refl }
  take-one act.ReadCard (reply.Card read.Failed) h take fits none = absurd cc
  take-one act.ReadCard (reply.Card read.Limit) h take fits none = absurd cc
  take-one act.ReadCard other h take fits none = absurd fits
  take-one act.TakeFeed (reply.Feed f) h take fits none = record { parcel = OfFeed f; is = refl; one = refl }
  take-one act.TakeFeed reply.Stopped h take fits none = absurd cc
  take-one act.TakeFeed other h take fits none = absurd fits
  take-one act.TakePage (reply.Page page last) h take fits none = record { parcel = OfPage page last; is = refl; one = refl }
  take-one act.TakePage reply.Failed h take fits none = absurd cc
  take-one act.TakePage other h take fits none = absurd fits
  take-one other r h take fits none = absurd take

  handed-append : (some more : List (Parcel L)) → handed (some ++ more) ≡ handed some ++ handed more
  handed-append [] more = refl
  handed-append (OfLoad load ∷ some) more = handed-append some more
  handed-append (OfFeed f ∷ some) more = ap (λ ps. OfFeed f ∷ ps) (handed-append some more)
  handed-append (OfPage page last ∷ some) more = ap (λ ps. OfPage page last ∷ ps) (handed-append some more)
  handed-append (OfLine line ∷ some) more = ap (λ ps. OfLine line ∷ ps) (handed-append some more)

  -- ---- each load keeps the rules of code
  loaded-both : (some more : List L) → AllByRecursion J.IsLoad some → AllByRecursion J.IsLoad more → AllByRecursion J.IsLoad (some ++ more)
  loaded-both [] more are also = also
  loaded-both (load ∷ some) more are also = (are.0, loaded-both some more are.1 also)

  load-fits : (a : Action) (load : L) → Fits J a (reply.Loaded load) → J.IsLoad load
  load-fits (act.Load file) load fits = fits
  load-fits other load fits = absurd fits

  reply-good : (a : Action) (r : Reply L) → Fits J a r → AllByRecursion J.IsLoad (loads (taken_by r))
  reply-good a (reply.Loaded load) fits = (load-fits a load fits, tt)
  reply-good a (reply.Page page last) fits = tt
  reply-good a (reply.Feed f) fits = tt
  reply-good a (reply.Card (read.Card line)) fits = tt
  reply-good a (reply.Card read.Spoiled) fits = tt
  reply-good a (reply.Card read.End) fits = tt
  reply-good a (reply.Card read.Failed) fits = tt
  reply-good a (reply.Card read.Limit) fits = tt
  reply-good a reply.Done fits = tt
  reply-good a reply.Stopped fits = tt
  reply-good a reply.Failed fits = tt
  reply-good a reply.NoMemory fits = tt

  lack-good : (a : Action) (r : Reply L) → MayLack a r → AllByRecursion J.IsLoad (loads (taken_by r))
  lack-good act.TakePage (reply.Page page last) lacks = tt
  lack-good act.Local reply.Done lacks = tt
  lack-good act.TakePage other lacks = absurd lacks
  lack-good act.Local other lacks = absurd lacks
  lack-good other r lacks = absurd lacks

  good-more : (taken more : List (Parcel L)) → AreLoadsGood J taken → AllByRecursion J.IsLoad (loads more) → AreLoadsGood J (taken ++ more)
  good-more taken more are also = subst (AllByRecursion J.IsLoad) (sym (loads-append taken more)) (loaded-both (loads taken) (loads more) are also)

  loads-good : (p : Process L) (h : List (Entry L)) → Follows J p h → AreLoadsGood J (taken h)
  loads-good p [] follows = tt
  loads-good p (Does a r ∷ h) follows = good-more (taken h) (taken_by r) (loads-good p h follows.2) (reply-good a r follows.1)
  loads-good p (LacksMemory a r ∷ h) follows = good-more (taken h) (taken_by r) (loads-good p h follows.2) (lack-good a r follows.1.1)
  loads-good p (Delays a ∷ h) follows = loads-good p h follows.2

  put-nothing : (a : Action) (r : Reply L) (h : List (Entry L)) (how : Outcome) → given_cause a r h ≡ Some how → put_by a r ≡ []
  put-nothing a reply.Done h how e = absurd cc
  put-nothing (act.PutFeed f) other h how e = refl
  put-nothing (act.PutPage page) other h how e = refl
  put-nothing (act.Print line) other h how e = refl
  put-nothing other r h how e = refl

  -- ---- counts
  counted : (p : Process L) (most : ℕ) (h : List (Entry L)) → IsRelay p → GivesAtMost J most p → Follows J p h
      → length (sent h) ≤ most * length (handed (taken h)) + 1
  counted p most h relay bound follows =
      let (rest, e) = sent-is-part J p h relay follows in
      let whole = bound.gives (taken h) (loads-good p h follows) in
      let part : length (sent h) + length rest ≡ length (p.sends (taken h)) = sym (length-append (sent h) rest) ∙ ap length e in
      omega (arith, whole, part)

  nothing : (w : ℕ) (ps : List (Parcel L)) → ps ≡ [] → w * length ps ≡ 0
  nothing w ps none = ap (λ ps. w * length ps) none ∙ omega arith

  just-one : (w : ℕ) (ps : List (Parcel L)) → length ps ≡ 1 → w * length ps ≡ w
  just-one w ps one = ap (λ n. w * n) one ∙ omega arith

  -- ---- one that has no cause, and is given none
  module _ (weight most : ℕ) (p : Process L) (h : List (Entry L)) (a : Action) (r : Reply L) where
    abbrev Falls : Type 0
    Falls = ahead_at (step_of a) (ahead_by weight most p None (Does a r ∷ h)) + weight * length (put_by a r) + 1
        ≤ ahead_by weight most p None h + ((weight + 9) * most + 5) * length (handed (taken_by r))

    falls-take : GivesAtMost J most p → length (sent h) ≤ most * length (handed (taken h)) + 1 → put_by a r ≡ [] → TakesOne r → Falls
    falls-take bound within none one =
        let ps : handed (taken_by r) ≡ one.parcel ∷ [] = ap handed one.is ∙ one.one in
        let tk : length (handed (taken h ++ taken_by r)) ≡ length (handed (taken h)) + 1 =
        ap length (handed-append (taken h) (taken_by r)) ∙ length-append (handed (taken h)) (handed (taken_by r))
        ∙ ap (λ x. length (handed (taken h)) + length x) ps in
        let st : length (sent h ++ put_by a r) ≡ length (sent h) = ap (λ ps. length (sent h ++ ps)) none ∙ ap length (append-nil (sent h)) in
        let few : length (p.wants (taken h ++ taken_by r)) ≤ length (p.wants (taken h)) + most =
        subst (λ x. length (p.wants (taken h ++ x)) ≤ length (p.wants (taken h)) + most) (sym one.is)
        (let names = bound.names (taken h) one.parcel in let single = ap (λ x. most * length x) one.one in omega (arith, names, single)) in
        take-sum _ ((weight + 5) * (most * length (handed (taken h ++ taken_by r)) + 1 - length (sent h ++ put_by a r)))
        (4 * length (p.wants (taken h ++ taken_by r))) _ (4 * length (p.wants (taken h))) ((weight + 5) * most) (4 * most) _ _ _ _ _ _ _
        (at-most (step_of a) _)
        (ap (λ n. (weight + 5) * (most * n + 1 - length (sent h ++ put_by a r))) tk
        ∙ ap (λ n. (weight + 5) * (most * (length (handed (taken h)) + 1) + 1 - n)) st
        ∙ after-take (weight + 5) most (length (handed (taken h))) (length (sent h)) within)
        (four-more (length (p.wants (taken h ++ taken_by r))) (length (p.wants (taken h))) most few)
        (moves-most (step_of a)) (one-most (unworked p (Does a r ∷ h))) (nothing weight (put_by a r) none)
        (just-one ((weight + 9) * most + 5) (handed (taken_by r)) (ap length ps) ∙ ap (λ n. n + 5) (nine weight most))

    falls-put : length (sent h) + 1 ≤ most * length (handed (taken h)) + 1 → length (put_by a r) ≡ 1 → taken_by r ≡ [] → Falls
    falls-put within one none =
        let all : taken h ++ taken_by r ≡ taken h = ap (λ ps. taken h ++ ps) none ∙ append-nil (taken h) in
        let tk : length (handed (taken h ++ taken_by r)) ≡ length (handed (taken h)) = ap (λ ps. length (handed ps)) all in
        let st : length (sent h ++ put_by a r) ≡ length (sent h) + 1 = length-append (sent h) (put_by a r) ∙ ap (λ n. length (sent h) + n) one in
        put-sum _ ((weight + 5) * (most * length (handed (taken h ++ taken_by r)) + 1 - length (sent h ++ put_by a r)))
        (4 * length (p.wants (taken h ++ taken_by r))) _ (4 * length (p.wants (taken h))) weight _ _ _ _ _ _ _ (at-most (step_of a) _)
        (after-put (weight + 5) most (length (handed (taken h))) (length (sent h)) within
        ∙ ap (λ n. (weight + 5) * (most * length (handed (taken h)) + 1 - n) + (weight + 5)) (sym st)
        ∙ ap (λ n. (weight + 5) * (most * n + 1 - length (sent h ++ put_by a r)) + (weight + 5)) (sym tk))
        (ap (λ ps. 4 * length (p.wants ps)) all)
        (moves-most (step_of a)) (one-most (unworked p (Does a r ∷ h))) (just-one weight (put_by a r) one)

    falls-still : put_by a r ≡ [] → taken_by r ≡ []
        → moves_ahead (step_of a) + one_if (unworked p (Does a r ∷ h)) + 1 ≤ moves_ahead (step_after (newest h)) + one_if (unworked p h) → Falls
    falls-still no-put no-take less =
        let all : taken h ++ taken_by r ≡ taken h = ap (λ ps. taken h ++ ps) no-take ∙ append-nil (taken h) in
        let tk : length (handed (taken h ++ taken_by r)) ≡ length (handed (taken h)) = ap (λ ps. length (handed ps)) all in
        let st : length (sent h ++ put_by a r) ≡ length (sent h) = ap (λ ps. length (sent h ++ ps)) no-put ∙ ap length (append-nil (sent h)) in
        still-sum _ ((weight + 5) * (most * length (handed (taken h ++ taken_by r)) + 1 - length (sent h ++ put_by a r)))
        (4 * length (p.wants (taken h ++ taken_by r))) _ (4 * length (p.wants (taken h))) _ _ _ _ _ _ _ (at-most (step_of a) _)
        (ap (λ n. (weight + 5) * (most * n + 1 - length (sent h ++ put_by a r))) tk ∙ ap (λ n. (weight + 5) * (most * length (handed (taken h)) + 1 - n)) st)
        (ap (λ ps. 4 * length (p.wants ps)) all)
        (nothing weight (put_by a r) no-put) less

    -- a load hands nothing over, and one file fewer is wanted
    falls-load : put_by a r ≡ [] → handed (taken_by r) ≡ [] → length (p.wants (taken h)) ≡ length (p.wants (taken h ++ taken_by r)) + 1
        → unworked p (Does a r ∷ h) ≡ unworked p h → Falls
    falls-load no-put no-take fewer same =
        let tk : length (handed (taken h ++ taken_by r)) ≡ length (handed (taken h)) =
        ap length (handed-append (taken h) (taken_by r) ∙ ap (λ ps. handed (taken h) ++ ps) no-take ∙ append-nil (handed (taken h))) in
        let st : length (sent h ++ put_by a r) ≡ length (sent h) = ap (λ ps. length (sent h ++ ps)) no-put ∙ ap length (append-nil (sent h)) in
        let four : 4 * length (p.wants (taken h)) ≡ 4 * length (p.wants (taken h ++ taken_by r)) + 4 = omega (arith, fewer) in
        subst (λ t. ahead_at (step_of a) (ahead_by weight most p None (Does a r ∷ h)) + weight * length (put_by a r) + 1
        ≤ (weight + 5) * (most * length (handed (taken h)) + 1 - length (sent h)) + 4 * length (p.wants (taken h)) + moves_ahead (step_after (newest h))
        + one_if t + length p.buffers + 3 + ((weight + 9) * most + 5) * length (handed (taken_by r))) same
        (load-sum _ ((weight + 5) * (most * length (handed (taken h ++ taken_by r)) + 1 - length (sent h ++ put_by a r)))
        (4 * length (p.wants (taken h ++ taken_by r))) _ (4 * length (p.wants (taken h))) _ _ _ _ _ _ (at-most (step_of a) _)
        (ap (λ n. (weight + 5) * (most * n + 1 - length (sent h ++ put_by a r))) tk ∙ ap (λ n. (weight + 5) * (most * length (handed (taken h)) + 1 - n)) st)
        four (nothing weight (put_by a r) no-put) (moves-most (step_of a)))

  -- how a free action finds the step
  free-moves : (p : Process L) (h : List (Entry L)) (a : Action) → IsRelay p → Follows J p h → next_action p h ≡ Some a → caused h ≡ None → IsFree a
      → (Rattle.batch_procs.specs.Laws.IsHeld a → ⊥) → moves_ahead (step_after (newest h)) ≡ 2
  free-moves p h a relay follows next none free apart =
      free-step (newest h) (aim p h) a (works-next J p h a next none) free (sym (held-by J p h relay follows) ∙ not-held J p h a relay follows next apart)

  put-within : (p : Process L) (most : ℕ) (h : List (Entry L)) (a : Action) → length (put_by {L = L} a reply.Done) ≡ 1
      → length (sent h ++ put_by a reply.Done) ≤ most * length (handed (taken h ++ [])) + 1
      → length (sent h) + 1 ≤ most * length (handed (taken h)) + 1
  put-within p most h a one bound =
      let st : length (sent h ++ put_by a reply.Done) ≡ length (sent h) + 1 = length-append (sent h) (put_by a reply.Done) ∙ ap (λ n. length (sent h) + n) one
      in
      let tk : most * length (handed (taken h ++ [])) ≡ most * length (handed (taken h)) = ap (λ ps. most * length (handed ps)) (append-nil (taken h)) in
      omega (arith, st, tk, bound)

  works-falls : (weight most : ℕ) (p : Process L) (h : List (Entry L)) (a : Action) (r : Reply L) → IsRelay p → GivesAtMost J most p
      → Follows J p (Does a r ∷ h)
      → caused h ≡ None → given_cause a r h ≡ None → Falls weight most p h a r
  works-falls weight most p h act.ReadCard r relay bound follows none given =
      falls-take weight most p h act.ReadCard r bound (counted p most h relay bound follows.2) refl (take-one act.ReadCard r h tt follows.1 given)
  works-falls weight most p h act.TakeFeed r relay bound follows none given =
      falls-take weight most p h act.TakeFeed r bound (counted p most h relay bound follows.2) refl (take-one act.TakeFeed r h tt follows.1 given)
  works-falls weight most p h act.TakePage r relay bound follows none given =
      falls-take weight most p h act.TakePage r bound (counted p most h relay bound follows.2) refl (take-one act.TakePage r h tt follows.1 given)
  works-falls weight most p h (act.PutFeed f) reply.Done relay bound follows none given =
      falls-put weight most p h (act.PutFeed f) reply.Done (put-within p most h (act.PutFeed f) refl (counted p most (Does (act.PutFeed f) reply.Done
      ∷ h) relay bound follows)) refl refl
  works-falls weight most p h (act.PutFeed f) reply.Stopped relay bound follows none given = absurd cc
  works-falls weight most p h (act.PutFeed f) other relay bound follows none given = absurd follows.1
  works-falls weight most p h (act.PutPage page) reply.Done relay bound follows none given =
      falls-put weight most p h (act.PutPage page) reply.Done (put-within p most h (act.PutPage page) refl (counted p most (Does (act.PutPage page) reply.Done
      ∷ h) relay bound follows)) refl refl
  works-falls weight most p h (act.PutPage page) reply.Failed relay bound follows none given = absurd cc
  works-falls weight most p h (act.PutPage page) other relay bound follows none given = absurd follows.1
  works-falls weight most p h (act.Print line) reply.Done relay bound follows none given =
      falls-put weight most p h (act.Print line) reply.Done (put-within p most h (act.Print line) refl (counted p most (Does (act.Print line) reply.Done
      ∷ h) relay bound follows)) refl refl
  works-falls weight most p h (act.Print line) reply.Failed relay bound follows none given = absurd cc
  works-falls weight most p h (act.Print line) reply.NoMemory relay bound follows none given = absurd cc
  works-falls weight most p h (act.Print line) other relay bound follows none given = absurd follows.1
  works-falls weight most p h act.AwaitRoom reply.Done relay bound follows none given =
      falls-still weight most p h act.AwaitRoom reply.Done refl refl (step-less _ _ (free-moves p h act.AwaitRoom relay follows.2 follows.0 none tt (λ is. is)))
  works-falls weight most p h act.AwaitRoom reply.Stopped relay bound follows none given = absurd cc
  works-falls weight most p h act.AwaitRoom other relay bound follows none given = absurd follows.1
  works-falls weight most p h act.AwaitItem reply.Done relay bound follows none given =
      falls-still weight most p h act.AwaitItem reply.Done refl refl (step-less _ _ (free-moves p h act.AwaitItem relay follows.2 follows.0 none tt (λ is. is)))
  works-falls weight most p h act.AwaitItem reply.Stopped relay bound follows none given = absurd cc
  works-falls weight most p h act.AwaitItem other relay bound follows none given = absurd follows.1
  works-falls weight most p h act.Request reply.Done relay bound follows none given =
      falls-still weight most p h act.Request reply.Done refl refl
      (request-less _ _ (request-step (newest h) (aim p h) (aim-is J p h relay) (works-next J p h act.Request follows.0 none)))
  works-falls weight most p h act.Request other relay bound follows none given = absurd follows.1
  works-falls weight most p h act.Release reply.Done relay bound follows none given =
      falls-still weight most p h act.Release reply.Done refl refl
      (release-less _ _ (release-step (newest h) (aim p h) (aim-is J p h relay) (works-next J p h act.Release follows.0 none)))
  works-falls weight most p h act.Release other relay bound follows none given = absurd follows.1
  works-falls weight most p h act.Local reply.Done relay bound follows none given =
      falls-still weight most p h act.Local reply.Done refl refl
      (local-less _ (unworked p h) (p.works
      && false) (free-moves p h act.Local relay follows.2 follows.0 none tt (λ is. is))
      (next-local J p h relay follows.2 follows.0).0 (and-nothing p.works))
  works-falls weight most p h act.Local other relay bound follows none given = absurd follows.1
  works-falls weight most p h (act.Load file) (reply.Loaded load) relay bound follows none given =
      let wants = next-load J p h file relay follows.2 follows.0 in
      let left = ap length (relay.loads (taken h) load file wants.later wants.first) in
      let first = ap length wants.first in
      falls-load weight most p h (act.Load file) (reply.Loaded load) refl refl (omega (arith, first, left)) refl
  works-falls weight most p h (act.Load file) reply.Failed relay bound follows none given = absurd cc
  works-falls weight most p h (act.Load file) reply.NoMemory relay bound follows none given = absurd cc
  works-falls weight most p h (act.Load file) other relay bound follows none given = absurd follows.1
  works-falls weight most p h (act.Ended how) reply.Done relay bound follows none given = ended-falls 0 _ _ _ _ _ _ _ (nothing weight [] refl)
  works-falls weight most p h (act.Ended how) other relay bound follows none given = absurd follows.1
  works-falls weight most p h (act.Stop b) r relay bound follows none given =
      absurd (working-no_stop (newest h) (aim p h) (act.Stop b) (aimed-no_stop J p.takes (p.wants (taken h)) (due p h) (is_ended (taken h))
      (unworked p h) relay.takes)
      (works-next J p h (act.Stop b) follows.0 none))

  -- ---- one that is given a cause
  caused-falls : (weight most : ℕ) (p : Process L) (h : List (Entry L)) (entry : Entry L) (s : Step) (held : Bool) (ps : List (Parcel L)) (d : ℕ) → ps ≡ [] →
      ahead_at s (one_if held + unstopped p.buffers (entry ∷ h) + 1) + weight * length ps + 1 ≤ ahead_by weight most p None h + d
  caused-falls weight most p h entry s held ps d none =
      cause-sum _ (one_if held) (unstopped p.buffers (entry ∷ h)) _ _ _ _ _ _ _ (at-most s _) (one-most held) (unstopped-most J p.buffers (entry
      ∷ h)) (nothing weight ps none)

  -- ---- one that closes down
  stops-kind : (buffers : List ℕ) (how : Outcome) (h : List (Entry L))
      → ((b : ℕ) × (stops_next buffers how h ≡ act.Stop b)) ⊎ (stops_next buffers how h ≡ act.Ended how)
  stops-kind [] how h = inr refl
  stops-kind (b ∷ later) how h =
      let P : Bool
      → Type 0 =
      λ t. ((c : ℕ) × ((if t then stops_next later how h else act.Stop b) ≡ act.Stop c))
      ⊎ ((if t then stops_next later how h else act.Stop b) ≡ act.Ended how) in
      elim (has_stopped b h) as P [ true ↦ stops-kind later how h | false ↦ inl (b, refl) ]

  abbrev ClosesFalls : ℕ → ℕ → Process L → Bool → List (Entry L) → Action → Reply L → Type 0
  ClosesFalls weight d p held h a r =
      ahead_at (step_of a) (one_if (holds_after held a) + unstopped p.buffers (Does a r ∷ h) + 1) + weight * length (put_by a r) + 1
      ≤ one_if held + unstopped p.buffers h + 1 + d * length (handed (taken_by r))

  release-falls : (weight d : ℕ) (p : Process L) (h : List (Entry L)) (r : Reply L) → Fits J act.Release r → ClosesFalls weight d p true h act.Release r
  release-falls weight d p h reply.Done fits =
      let same = unstopped-same J p.buffers h (Does act.Release reply.Done ∷ h) (λ b. refl) in
      let none = nothing weight [] refl in
      omega (arith, same, none)
  release-falls weight d p h other fits = absurd fits

  stop-lowers : (weight d : ℕ) (p : Process L) (how : Outcome) (h : List (Entry L)) (b : ℕ) (r : Reply L) → stops_next p.buffers how h ≡ act.Stop b
      → Fits J (act.Stop b)
      r
      → ClosesFalls weight d p false h (act.Stop b) r
  stop-lowers weight d p how h b reply.Done e fits =
      let less = stop-falls J p.buffers how b reply.Done h e in
      let none = nothing weight [] refl in
      omega (arith, less, none)
  stop-lowers weight d p how h b other e fits = absurd fits

  end-lowers : (weight d : ℕ) (p : Process L) (how : Outcome) (h : List (Entry L)) (r : Reply L) → Fits J (act.Ended how) r
      → ClosesFalls weight d p false h (act.Ended how) r
  end-lowers weight d p how h reply.Done fits = let none = nothing weight [] refl in omega (arith, none)
  end-lowers weight d p how h other fits = absurd fits

  closes-falls : (weight d : ℕ) (p : Process L) (how : Outcome) (h : List (Entry L)) (a : Action) (r : Reply L) (held : Bool)
      → (if held then act.Release else stops_next p.buffers how h) ≡ a → Fits J a r → ClosesFalls weight d p held h a r
  closes-falls weight d p how h a r true e fits =
      subst (λ a. ClosesFalls weight d p true h a r) e (release-falls weight d p h r (subst (λ a. Fits J a r) (sym e) fits))
  closes-falls weight d p how h a r false e fits =
      elim (stops-kind p.buffers how h) as (λ _. ClosesFalls weight d p false h a r) [
        | inl (b, is) ↦ subst (λ a. ClosesFalls weight d p false h a r) (sym is
            ∙ e) (stop-lowers weight d p how h b r is (subst (λ a. Fits J a r) (sym e ∙ is) fits))
        | inr is ↦ subst (λ a. ClosesFalls weight d p false h a r) (sym is ∙ e) (end-lowers weight d p how h r (subst (λ a. Fits J a r) (sym e ∙ is) fits))
      ]

  -- ---- any answered action
  done-falls : (weight most : ℕ) (p : Process L) (h : List (Entry L)) (a : Action) (r : Reply L) (old new : Option Outcome) → IsRelay p → GivesAtMost J most p
      → Follows J p (Does a r ∷ h) → caused h ≡ old → given_cause a r h ≡ new →
      ahead_at (step_of a) (ahead_by weight most p (or_new old new) (Does a r ∷ h)) + weight * length (put_by a r) + 1
      ≤ ahead_at (step_after (newest h)) (ahead_by weight most p old h) + ((weight + 9) * most + 5) * length (handed (taken_by r))
  done-falls weight most p h a r None None relay bound follows none given =
      rw (working-counts (newest h) (aim p h) a (ahead_by weight most p None h) (works-next J p h a follows.0 none))
      (works-falls weight most p h a r relay bound follows none given)
  done-falls weight most p h a r None (Some how) relay bound follows none given =
      rw (working-counts (newest h) (aim p h) a (ahead_by weight most p None h) (works-next J p h a follows.0 none))
      (caused-falls weight most p h (Does a r) (step_of a) (holds_after (holds h) a) (put_by a r) _ (put-nothing a r h how given))
  done-falls weight most p h a r (Some how) new relay bound follows was given =
      let next : closing (newest h) (closes p.buffers how h) ≡ Some a = sym (ap (λ c. next_by p c h) was) ∙ follows.0 in
      rw (closing-counts (newest h) (closes p.buffers how h) a (ahead_by weight most p (Some how) h) next)
      (closes-falls weight ((weight + 9) * most + 5) p how h a r (holds h) (closing-next (newest h) (closes p.buffers how h) a next) follows.1)

  lack-open : (a : Action) (r : Reply L) → MayLack a r → IsOpen a
  lack-open act.TakePage r lacks = tt
  lack-open act.Local r lacks = tt
  lack-open other r lacks = absurd lacks

  lacks-falls : (weight most : ℕ) (p : Process L) (h : List (Entry L)) (a : Action) (r : Reply L) → Follows J p (LacksMemory a r ∷ h) →
      ahead weight most p (LacksMemory a r
      ∷ h) + weight * length (let none : List (Parcel L) = [] in none) + 1 ≤ ahead weight most p h + ((weight + 9) * most + 5) * length (handed (taken_by r))
  lacks-falls weight most p h a r follows =
      let none = open-next J p h a follows.0 (lack-open a r follows.1.1) in
      rw (none, working-counts (newest h) (aim p h) a (ahead_by weight most p None h) (works-next J p h a follows.0 none))
      (caused-falls weight most p h (LacksMemory a r) (step_of a) (holds h) [] _ refl)

  pub ahead_falls : AheadFalls J
  ahead_falls weight most p h (Does a r) relay bound follows answered =
      done-falls weight most p h a r (caused h) (given_cause a r h) relay bound follows refl refl
  ahead_falls weight most p h (LacksMemory a r) relay bound follows answered = lacks-falls weight most p h a r follows
  ahead_falls weight most p h (Delays a) relay bound follows answered = absurd answered

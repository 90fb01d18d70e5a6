-- The calls of the five are at their four buffers.
use Rattle.std.proofs.Common.{◌≡◌, inl, inr, ℕ, zero, suc, Bool, true, false, List, [], ◌∷◌, ◌++◌, Some, refl, sym, ◌∙◌, subst, arith}
use Rattle.std.proofs.lemmas.Bool.Decides.{eqb_tells}
use Rattle.std.specs.List.{AllByRecursion}
use Rattle.solo_base.specs.declared.outcome.Side.{Side}
use Rattle.solo_base.specs.declared.outcome.Side.TheVariants.{Sender, Receiver}
use Rattle.batch_procs.specs.declared.actions.Action.{Action}
use Rattle.batch_procs.specs.declared.actions.Action.TheVariants as act
use Rattle.batch_procs.specs.Parcels.{Parcel, OfFeed, OfPage, OfLine, OfLoad, is_ended, IsALine, NothingBehind}
use Rattle.batch_procs.specs.History.{Entry, taken, sent, newest}
use Rattle.batch_procs.specs.Causes.{caused}
use Rattle.batch_procs.specs.Process.{Process, Follows, next_action, aim, aimed, due, puts, unworked}
use Rattle.batch_procs.specs.Laws.{IsRelay, IsTake}
use Rattle.batch_procs.proofs.Relay.{IsDue, open-next, next-put, aimed-put, due-rest, sent-is-part}
use Rattle.batch_procs.proofs.Closing.{works-next}
use Rattle.batch_procs.proofs.Holding.{IsPagePut, IsPageTake, aim-is, awaits-room, awaits-item}
use Rattle.batch_procs.proofs.Ended.{nothing-left}
use Rattle.network_law.specs.Acts.{At, Visit, Awaits, Passes, Moves, Stops}
use Rattle.network_law.proofs.KeepsQueues.{at-number}
use Rattle.core_law.specs.Core.{upstream, side_at, call, IsBuffer}
use Rattle.core_law.specs.Ends.{IsProcess}
use Rattle.core_law.proofs.Row.{IsRow}
use Rattle.core_law.proofs.Taking.{next-take, aimed-take}
use Rattle.core_law.proofs.Lawful.{stops-among}
use Rattle.batch_procs.specs.Jobs.{Jobs, AreJobs}

-- ---- a process that only prints puts into no buffer
abbrev pub IsBufferPut : Action → Type 0
IsBufferPut (act.PutFeed f) = Unit {0}
IsBufferPut (act.PutPage page) = Unit {0}
IsBufferPut other = ⊥

module _ {L : Type 0} {J : Jobs L} (jobs : AreJobs J) where
  -- ---- who waits by its sender's side has something due; by its receiver's, hasn't taken the last
  pub page-due : (takes : Action) (wanted : List (List ℕ)) (due : List (Parcel L)) (ended unworked : Bool) (a : Action) → IsTake takes
      → aimed takes wanted due ended unworked ≡ a → IsPagePut a → IsDue J due a
  page-due takes wanted due ended unworked (act.PutPage page) take e is = aimed-put J takes wanted due ended unworked (act.PutPage page) take e tt
  page-due takes wanted due ended unworked other take e is = absurd is

  pub put-due : (p : Process L) (h : List (Entry L)) (f : Rattle.solo_base.specs.declared.item.Feed.Feed) → IsRelay p → next_action p h ≡ Some (act.PutFeed f)
      → IsDue J (due p h) (act.PutFeed f)
  put-due p h f relay next = aimed-put J p.takes (p.wants (taken h)) (due p h) (is_ended (taken h)) (unworked p h)
      (act.PutFeed f) relay.takes (next-put J p (caused h) h (act.PutFeed f) next tt).1 tt

  pub move-due : (p : Process L) (h : List (Entry L)) (page : Rattle.solo_base.specs.declared.page.Page.Page) → IsRelay p → next_action p h ≡ Some
      (act.PutPage page)
      → IsDue J (due p h) (act.PutPage page)
  move-due p h page relay next = aimed-put J p.takes (p.wants (taken h)) (due p h) (is_ended (taken h)) (unworked p h)
      (act.PutPage page) relay.takes (next-put J p (caused h) h (act.PutPage page) next tt).1 tt

  pub room-put : (p : Process L) (h : List (Entry L)) → IsRelay p → next_action p h ≡ Some act.AwaitRoom → IsPagePut (aim p h)
  room-put p h relay next = awaits-room (newest h) (aim p h) (works-next J p h act.AwaitRoom next (open-next J p h act.AwaitRoom next tt)) (aim-is J p h relay)

  pub room-due : (p : Process L) (h : List (Entry L)) → IsRelay p → next_action p h ≡ Some act.AwaitRoom → IsDue J (due p h) (aim p h)
  room-due p h relay next =
      page-due p.takes (p.wants (taken h)) (due p h) (is_ended (taken h)) (unworked p h) (aim p h) relay.takes refl (room-put p h relay next)

  pub sender-due : (p : Process L) (h : List (Entry L)) (k b : ℕ) (visit : Visit) (a : Action) → IsRelay p → next_action p h ≡ Some a
      → call k a ≡ At b Sender visit
      → (visit ≡ Stops → ⊥) → (first : Parcel L) × (more : List (Parcel L)) × (due p h ≡ first ∷ more)
  sender-due p h k b visit (act.PutFeed f) relay next is not = let d = put-due p h f relay next in (d.first, d.more, d.due_is)
  sender-due p h k b visit (act.PutPage page) relay next is not = let d = move-due p h page relay next in (d.first, d.more, d.due_is)
  sender-due p h k b visit act.AwaitRoom relay next is not = let d = room-due p h relay next in (d.first, d.more, d.due_is)
  sender-due p h k b visit (act.Stop c) relay next is not = absurd (not (sym (stop-visit c b (side_at k c) Sender visit is)))
    where
      stop-visit : (c b : ℕ) (x of : Side) (visit : Visit) → At c x Stops ≡ At b of visit → Stops ≡ visit
      stop-visit c b x of visit e = cc
  sender-due p h k b visit other relay next is not = absurd cc

  page-taking : (takes : Action) (wanted : List (List ℕ)) (due : List (Parcel L)) (ended unworked : Bool) (a : Action) → aimed takes wanted due ended unworked
      ≡ a
      → IsPageTake a → (ended ≡ false) × (takes ≡ act.TakePage)
  page-taking takes wanted due ended unworked act.TakePage e is = let t = aimed-take jobs takes act.TakePage wanted due ended unworked e tt in
      (t.goes_on, t.same)
  page-taking takes wanted due ended unworked other e is = absurd is

  pub item-taking : (p : Process L) (h : List (Entry L)) → IsRelay p → next_action p h ≡ Some act.AwaitItem → (is_ended (taken h) ≡ false) ×
      (p.takes ≡ act.TakePage)
  item-taking p h relay next =
      let item = awaits-item (newest h) (aim p h) (works-next J p h act.AwaitItem next (open-next J p h act.AwaitItem next tt)) (aim-is J p h relay) in
      page-taking p.takes (p.wants (taken h)) (due p h) (is_ended (taken h)) (unworked p h) (aim p h) refl item

  pub receiver-unended : (p : Process L) (h : List (Entry L)) (k b : ℕ) (visit : Visit) (a : Action) → IsRelay p → next_action p h ≡ Some a
      → call k a ≡ At b Receiver visit → (visit ≡ Stops → ⊥) → is_ended (taken h) ≡ false
  receiver-unended p h k b visit act.TakeFeed relay next is not = (next-take jobs p h act.TakeFeed next tt).goes_on
  receiver-unended p h k b visit act.TakePage relay next is not = (next-take jobs p h act.TakePage next tt).goes_on
  receiver-unended p h k b visit act.AwaitItem relay next is not = (item-taking p h relay next).0
  receiver-unended p h k b visit (act.Stop c) relay next is not = absurd (not (sym (stop-visit c b (side_at k c) Receiver visit is)))
    where
      stop-visit : (c b : ℕ) (x of : Side) (visit : Visit) → At c x Stops ≡ At b of visit → Stops ≡ visit
      stop-visit c b x of visit e = cc
  receiver-unended p h k b visit other relay next is not = absurd cc

  -- nothing is due behind the last
  pub none-due : (p : Process L) (h : List (Entry L)) (first : Parcel L) (more : List (Parcel L)) → IsRelay p → Follows J p h → due p h ≡ first ∷ more
      → is_ended (sent h) ≡ true → ⊥
  none-due p h first more relay follows is ended =
      let (rest, whole) = sent-is-part J p h relay follows in
      let none = nothing-left J (sent h) rest (subst NothingBehind (sym whole) (relay.stream (taken h))) ended in
      let (left, rest-is) = due-rest J p h first more rest relay whole is in
      let no : first ∷ left ≡ [] = sym rest-is ∙ none in
      cc

  puts-no_line : (parcel : Parcel L) (a : Action) → puts parcel ≡ a → IsBufferPut a → IsALine parcel → ⊥
  puts-no_line (OfFeed f) a e put line = line
  puts-no_line (OfPage page last) a e put line = line
  puts-no_line (OfLine text) a e put line = subst IsBufferPut (sym e) put
  puts-no_line (OfLoad load) a e put line = line

  lines-behind : (part rest : List (Parcel L)) → AllByRecursion IsALine (part ++ rest) → AllByRecursion IsALine rest
  lines-behind [] rest all = all
  lines-behind (x ∷ part) rest all = lines-behind part rest all.1

  due-no_put : (p : Process L) (h : List (Entry L)) (a : Action) → IsRelay p → Follows J p h → AllByRecursion IsALine (p.sends (taken h)) → IsDue J (due p h) a
      → IsBufferPut a → ⊥
  due-no_put p h a relay follows all is put =
      let (rest, whole) = sent-is-part J p h relay follows in
      let (left, rest-is) = due-rest J p h is.first is.more rest relay whole is.due_is in
      let behind = lines-behind (sent h) rest (subst (λ ps. AllByRecursion IsALine ps) (sym whole) all) in
      puts-no_line is.first a is.puts_it put (subst (λ ps. AllByRecursion IsALine ps) rest-is behind).0

  page-put : (a : Action) → IsPagePut a → IsBufferPut a
  page-put (act.PutPage page) is = tt
  page-put other is = absurd is

  -- who doesn't read the deck takes from a buffer
  later-buffer : (k : ℕ) → IsProcess (suc k) → (k ≡ 0 → ⊥) → IsBuffer k
  later-buffer k one later = ((let low = later in omega (arith, low)), (let below = one.1 in omega (arith, below)))

  taken-buffer : {row : ℕ → Process L} → IsRow jobs row → (p : ℕ) → IsProcess p → ((row p).takes ≡ act.ReadCard → ⊥) → IsBuffer (upstream p)
  taken-buffer laws zero one not = (let low = one.0 in absurd (omega (arith, low)))
  taken-buffer {row} laws (suc k) one not = later-buffer k one (λ first. not (subst (λ k. (row (suc k)).takes ≡ act.ReadCard) (sym first) laws.first))

  -- ---- by the process's number
  module _ {row : ℕ → Process L} (laws : IsRow jobs row) (p : ℕ) (h : List (Entry L)) (one : IsProcess p) (follows : Follows J (row p) h) where
    put-buffer : (a : Action) → IsDue J (due (row p) h) a → IsBufferPut a → IsBuffer p
    put-buffer a is put =
        elim (eqb_tells p 5) as (λ _. IsBuffer p) [
          | inl same ↦ absurd (due-no_put (row p) h a (laws.relays p) follows
              (subst (λ p. AllByRecursion IsALine ((row p).sends (taken h))) (sym same.1) (laws.prints_only (taken h))) is put)
          | inr differ ↦ (one.0, (let not = differ.1 in let below = one.1 in omega (arith, not, below)))
        ]

    take-buffer : ((row p).takes ≡ act.ReadCard → ⊥) → IsBuffer (upstream p)
    take-buffer not = taken-buffer laws p one not

    at-buffer : (n b : ℕ) (x of : Side) (v w : Visit) → At n x v ≡ At b of w → IsBuffer n → IsBuffer b
    at-buffer n b x of v w e is = subst IsBuffer (at-number n b x of v w e) is

    pub call-buffer : (a : Action) (b : ℕ) (side : Side) (visit : Visit) → next_action (row p) h ≡ Some a → call p a ≡ At b side visit → IsBuffer b
    call-buffer (act.PutFeed f) b side visit next e = at-buffer p b Sender side Passes visit e
        (put-buffer (act.PutFeed f) (put-due (row p) h f (laws.relays p) next) tt)
    call-buffer (act.PutPage page) b side visit next e = at-buffer p b Sender side Moves visit e
        (put-buffer (act.PutPage page) (move-due (row p) h page (laws.relays p) next) tt)
    call-buffer act.AwaitRoom b side visit next e =
        at-buffer p b Sender side Awaits visit e (put-buffer (aim (row p) h) (room-due (row p) h (laws.relays p) next)
        (page-put (aim (row p) h) (room-put (row p) h (laws.relays p) next)))
    call-buffer act.TakeFeed b side visit next e = at-buffer (upstream p) b Receiver side Passes visit e
        (take-buffer (λ reads. (let same = (next-take jobs (row p) h act.TakeFeed next tt).same in cc)))
    call-buffer act.TakePage b side visit next e = at-buffer (upstream p) b Receiver side Moves visit e
        (take-buffer (λ reads. (let same = (next-take jobs (row p) h act.TakePage next tt).same in cc)))
    call-buffer act.AwaitItem b side visit next e = at-buffer (upstream p) b Receiver side Awaits visit e
        (take-buffer (λ reads. (let same = (item-taking (row p) h (laws.relays p) next).1 in cc)))
    call-buffer (act.Stop c) b side visit next e = at-buffer c b (side_at p c) side Stops visit e
        (stops-among jobs (row p) IsBuffer h c (laws.relays p) (laws.bounds p) next).is
    call-buffer act.ReadCard b side visit next e = absurd cc
    call-buffer act.Request b side visit next e = absurd cc
    call-buffer act.Release b side visit next e = absurd cc
    call-buffer (act.Load file) b side visit next e = absurd cc
    call-buffer act.Local b side visit next e = absurd cc
    call-buffer (act.Print line) b side visit next e = absurd cc
    call-buffer (act.Ended how) b side visit next e = absurd cc

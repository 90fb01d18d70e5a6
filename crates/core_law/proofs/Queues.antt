-- Who stands in which queue is told by what each process does next.
use Rattle.std.proofs.Common.{◌≡◌, inl, inr, ℕ, true, List, [], ◌∷◌, Some, refl, sym, ◌∙◌, ap, subst}
use Rattle.std.specs.List.{AllByRecursion}
use Rattle.solo_base.specs.declared.outcome.Side.{Side}
use Rattle.solo_base.specs.declared.outcome.Side.TheVariants.{Sender, Receiver}
use Rattle.batch_procs.specs.declared.actions.Action.{Action}
use Rattle.batch_procs.specs.declared.actions.Action.TheVariants as act
use Rattle.batch_procs.specs.History.{Entry, Does, LacksMemory, Delays, waits}
use Rattle.batch_procs.specs.Fits.{MayWait}
use Rattle.batch_procs.specs.Parts.{some-same}
use Rattle.batch_procs.specs.Process.{Process, Follows, next_action}
use Rattle.batch_procs.specs.Table.{process}
use Rattle.network_law.specs.Acts as acts
use Rattle.network_law.specs.Acts.{At, Asks, Visit, Awaits, Passes, Moves, Stops}
use Rattle.network_law.specs.Network as law
use Rattle.network_law.specs.Kept.{CanWait, IsAmong, StandsInQueue, StandsAtDesk, Stands}
use Rattle.core_law.specs.Core.{upstream, call, core, CoreState}
use Rattle.core_law.specs.Queues.{Queue, Beside, AtDesk, IsQueuedIn, queue_of, WaitsIn, QueuesHold}
use Rattle.core_law.proofs.Acting.{follows-of, answered}
use Rattle.core_law.proofs.Lawful.{next-again}
use Rattle.batch_procs.specs.Jobs.{Jobs, AreJobs}

-- ---- calls and their queues
beside : (n b : ℕ) (of side : Side) (one two : Visit) → At n of one ≡ At b side two → Some (Beside n of) ≡ Some (Beside b side)
beside n b of side one two e = cc

not-there : (n b : ℕ) (of side : Side) (one two : Visit) → At n of one ≡ At b side two → (CanWait one → ⊥) → CanWait two → ⊥
not-there n b of side one two e cannot can = cannot (subst CanWait (visit-same n b of side one two e) can)
  where
    visit-same : (n b : ℕ) (of side : Side) (one two : Visit) → At n of one ≡ At b side two → two ≡ one
    visit-same n b of side one two e = cc

pub call-queue : (p : ℕ) (a : Action) (b : ℕ) (side : Side) (visit : Visit) → CanWait visit → call p a ≡ At b side visit → queue_of p a ≡ Some (Beside b side)
call-queue p (act.PutFeed f) b side visit can e = beside p b Sender side Passes visit e
call-queue p act.AwaitRoom b side visit can e = beside p b Sender side Awaits visit e
call-queue p act.TakeFeed b side visit can e = beside (upstream p) b Receiver side Passes visit e
call-queue p act.AwaitItem b side visit can e = beside (upstream p) b Receiver side Awaits visit e
call-queue p (act.PutPage page) b side visit can e = absurd (not-there p b Sender side Moves visit e (λ no. no) can)
call-queue p act.TakePage b side visit can e = absurd (not-there (upstream p) b Receiver side Moves visit e (λ no. no) can)
call-queue p (act.Stop c) b side visit can e = absurd (not-there c b _ side Stops visit e (λ no. no) can)
call-queue p act.ReadCard b side visit can e = absurd cc
call-queue p act.Request b side visit can e = absurd cc
call-queue p act.Release b side visit can e = absurd cc
call-queue p (act.Load file) b side visit can e = absurd cc
call-queue p act.Local b side visit can e = absurd cc
call-queue p (act.Print line) b side visit can e = absurd cc
call-queue p (act.Ended how) b side visit can e = absurd cc

pub asks-queue : (p : ℕ) (a : Action) → call p a ≡ Asks → queue_of p a ≡ Some AtDesk
asks-queue p act.Request e = refl
asks-queue p (act.PutFeed f) e = absurd cc
asks-queue p act.AwaitRoom e = absurd cc
asks-queue p act.TakeFeed e = absurd cc
asks-queue p act.AwaitItem e = absurd cc
asks-queue p (act.PutPage page) e = absurd cc
asks-queue p act.TakePage e = absurd cc
asks-queue p (act.Stop c) e = absurd cc
asks-queue p act.ReadCard e = absurd cc
asks-queue p act.Release e = absurd cc
asks-queue p (act.Load file) e = absurd cc
asks-queue p act.Local e = absurd cc
asks-queue p (act.Print line) e = absurd cc
asks-queue p (act.Ended how) e = absurd cc

module _ {L : Type 0} {J : Jobs L} (jobs : AreJobs J) where
  among-all : (P : ℕ → Type 0) (qs : List ℕ) (q : ℕ) → AllByRecursion P qs → IsAmong qs q → P q
  among-all P [] q all is = absurd is
  among-all P (first ∷ later) q all (inl e) = subst P e all.0
  among-all P (first ∷ later) q all (inr is) = among-all P later q all.1 is

  -- ---- a history that waits
  pub waits-are : (row : ℕ → Process L) (p : ℕ) (h : List (Entry L)) → acts.waits (law.acts (core J row) p h) ≡ waits h
  waits-are row p [] = refl
  waits-are row p (Does a r ∷ h) = answered jobs (Does a r) (λ b e. cc)
  waits-are row p (LacksMemory a r ∷ h) = answered jobs (LacksMemory a r) (λ b e. cc)
  waits-are row p (Delays a ∷ h) = refl

  record WaitsFor (p : Process L) (h : List (Entry L)) : Type 0 where
    action : Action
    may : MayWait action
    next : next_action p h ≡ Some action

  waits-for : (p : Process L) (h : List (Entry L)) → Follows J p h → waits h ≡ true → WaitsFor p h
  waits-for p [] follows e = absurd cc
  waits-for p (Does a r ∷ h) follows e = absurd cc
  waits-for p (LacksMemory a r ∷ h) follows e = absurd cc
  waits-for p (Delays a ∷ h) follows e = record { action = a; may = follows.1; next = next-again jobs p (Delays a) a h refl ∙ follows.0 }

  -- ---- in a state
  module _ (opening s : CoreState L) (st : Stands (core J (process J)) opening s) where
    in-queue : (b : ℕ) (side : Side) (p : ℕ) → StandsInQueue (core J (process J)) s b side p → WaitsIn J s (Beside b side) p
    in-queue b side p is = record {
      is_delayed = sym (waits-are (process J) p (s.histories p)) ∙ is.waits_now;
      action = is.calls.action;
      next = is.calls.next;
      here = call-queue p is.calls.action b side is.visit is.can_wait is.calls.call;
    }

    at-desk : (p : ℕ) → StandsAtDesk (core J (process J)) s p → WaitsIn J s AtDesk p
    at-desk p is = record {
      is_delayed = sym (waits-are (process J) p (s.histories p)) ∙ is.waits_now;
      action = is.calls.action;
      next = is.calls.next;
      here = asks-queue p is.calls.action is.calls.call;
    }

    stands-waits : (q : Queue) (p : ℕ) → IsQueuedIn s q p → WaitsIn J s q p
    stands-waits (Beside b side) p is = in-queue b side p (st.queues.queued b side p is)
    stands-waits AtDesk p (inl is) = at-desk p (among-all (StandsAtDesk (core J (process J)) s) s.desk.claims.waiting p st.desk.waiting is)
    stands-waits AtDesk p (inr is) = at-desk p (st.desk.handed p is)

    delayed-by : (p : ℕ) (a : Action) → MayWait a → next_action (process J p) (s.histories p) ≡ Some a → acts.waits (law.acts (core J (process J)) p
        (s.histories p)) ≡ true → (q : Queue) × IsQueuedIn s q p
    delayed-by p (act.PutFeed f) may next e =
        (Beside p Sender, st.queues.delayed p Sender Passes p e record { action = act.PutFeed f; next = next; call = refl })
    delayed-by p act.AwaitRoom may next e = (Beside p Sender, st.queues.delayed p Sender Awaits p e record { action = act.AwaitRoom; next = next; call = refl })
    delayed-by p act.TakeFeed may next e =
        (Beside (upstream p) Receiver, st.queues.delayed (upstream p) Receiver Passes p e record { action = act.TakeFeed; next = next; call = refl })
    delayed-by p act.AwaitItem may next e =
        (Beside (upstream p) Receiver, st.queues.delayed (upstream p) Receiver Awaits p e record { action = act.AwaitItem; next = next; call = refl })
    delayed-by p act.Request may next e = (AtDesk, st.desk.delayed p e record { action = act.Request; next = next; call = refl })
    delayed-by p a may next e = absurd may

    stands-delayed : (p : ℕ) → waits (s.histories p) ≡ true → (q : Queue) × IsQueuedIn s q p
    stands-delayed p e =
        let is = waits-for (process J p) (s.histories p) (follows-of jobs (process J) p (s.histories p) (st.follows p)) e in
        delayed-by p is.action is.may is.next (waits-are (process J) p (s.histories p) ∙ e)

    stands-once : (q r : Queue) (p : ℕ) → IsQueuedIn s q p → IsQueuedIn s r p → q ≡ r
    stands-once q r p a b =
        let one = stands-waits q p a in
        let two = stands-waits r p b in
        let same = some-same one.action two.action (sym one.next ∙ two.next) in
        some-same q r (sym one.here ∙ ap (queue_of p) same ∙ two.here)

    pub queues-hold : QueuesHold J s
    queues-hold = record {
      stands = stands-waits;
      delayed = stands-delayed;
      in_one = stands-once;
      handed = λ b side turn. (st.buffers.hand_over b).marks.waits.named side turn;
      ready = λ b side found. st.buffers.ready b side found;
    }

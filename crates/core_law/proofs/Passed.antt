-- What went through the sides of a buffer of the row is what its sender sent and what its receiver took.
use Rattle.std.proofs.Common.{◌≡◌, ℕ, ◌==◌, Bool, true, false, ◌&&◌, List, [], ◌∷◌, ◌++◌, Some, refl, sym, ◌∙◌, ap, subst}
use Rattle.std.proofs.lemmas.List.{append-nil}
use Rattle.std.specs.List.{AllByRecursion}
use Rattle.solo_base.specs.declared.outcome.Side.{Side}
use Rattle.solo_base.specs.declared.outcome.Side.TheVariants.{Sender, Receiver}
use Rattle.batch_procs.specs.declared.actions.Action.{Action}
use Rattle.batch_procs.specs.declared.actions.Action.TheVariants as act
use Rattle.batch_procs.specs.declared.actions.Reply.{Reply}
use Rattle.batch_procs.specs.declared.actions.Reply.TheVariants as reply
use Rattle.batch_procs.specs.Parcels.{Parcel, OfFeed, OfPage, OfLine, OfLoad, is_ended, handed}
use Rattle.batch_procs.specs.History.{Entry, Does, LacksMemory, Delays, taken, taken_by, sent, put_by}
use Rattle.batch_procs.specs.Fits.{Fits, MayLack, MayWait}
use Rattle.batch_procs.specs.Causes.{caused}
use Rattle.batch_procs.specs.Process.{Process, Follows, next_action, due, puts, unworked}
use Rattle.batch_procs.specs.Laws.{IsRelay}
use Rattle.batch_procs.proofs.Relay.{next-put, aimed-put, due-rest, sent-is-part}
use Rattle.network_law.specs.Acts.{is_same, if_at, moved_by, moved}
use Rattle.network_law.specs.Network as law
use Rattle.core_law.specs.Core.{upstream, call, went_by, went, core, IsBuffer}
use Rattle.core_law.proofs.Row.{IsNoLine, IsRow}
use Rattle.core_law.proofs.Taking.{next-take}
use Rattle.core_law.proofs.Acting.{same-here}
use Rattle.core_law.proofs.HandedLists.{handed-append}
use Rattle.batch_procs.specs.Jobs.{Jobs, AreJobs}

abbrev pub IsNoPrint : Action → Type 0
IsNoPrint (act.Print line) = ⊥
IsNoPrint a = Unit {0}

abbrev pub IsNoRead : Action → Type 0
IsNoRead act.ReadCard = ⊥
IsNoRead a = Unit {0}

pub no-print : (action : Action) → ((line : List ℕ) → action ≡ act.Print line → ⊥) → IsNoPrint action
no-print (act.Print line) not = not line refl
no-print other not = tt

pub no-read : (action : Action) → (action ≡ act.ReadCard → ⊥) → IsNoRead action
no-read act.ReadCard not = not refl
no-read other not = tt

module _ {L : Type 0} {J : Jobs L} (jobs : AreJobs J) where
  -- ---- who prints and who reads
  no_line-behind : (part rest : List (Parcel L)) → AllByRecursion (IsNoLine jobs) (part ++ rest) → AllByRecursion (IsNoLine jobs) rest
  no_line-behind [] rest all = all
  no_line-behind (x ∷ part) rest all = no_line-behind part rest all.1

  line-not : (parcel : Parcel L) (line : List ℕ) → puts parcel ≡ act.Print line → IsNoLine jobs parcel → ⊥
  line-not (OfFeed f) line e is = cc
  line-not (OfPage page last) line e is = cc
  line-not (OfLine text) line e is = is
  line-not (OfLoad load) line e is = cc

  pub prints-line : (p : Process L) (h : List (Entry L)) (line : List ℕ) → IsRelay p → Follows J p h → next_action p h ≡ Some (act.Print line)
      → AllByRecursion (IsNoLine jobs) (p.sends (taken h)) → ⊥
  prints-line p h line relay follows next all =
      let is = aimed-put J p.takes (p.wants (taken h)) (due p h) (is_ended (taken h)) (unworked p h)
      (act.Print line) relay.takes (next-put J p (caused h) h (act.Print line) next tt).1 tt in
      let (rest, whole) = sent-is-part J p h relay follows in
      let (left, rest-is) = due-rest J p h is.first is.more rest relay whole is.due_is in
      let behind : AllByRecursion (IsNoLine jobs) rest = no_line-behind (sent h) rest (subst (λ ps. AllByRecursion (IsNoLine jobs) ps) (sym whole) all) in
      line-not is.first line is.puts_it (subst (λ ps. AllByRecursion (IsNoLine jobs) ps) rest-is behind).0

  and-false : (t : Bool) → (t && false) ≡ false
  and-false true = refl
  and-false false = refl

  -- a take moves nothing through the sender's side, a put nothing through the receiver's
  across : (b c : ℕ) (parcel : Parcel L) → (if_at (is_same b Sender c Receiver) parcel ≡ []) × (if_at (is_same b Receiver c Sender) parcel ≡ [])
  across b c parcel = (ap (λ t. if_at t parcel) (and-false (b == c)), ap (λ t. if_at t parcel) (and-false (b == c)))

  at-own : (b : ℕ) (side : Side) (parcel : Parcel L) → if_at (is_same b side b side) parcel ≡ parcel ∷ []
  at-own b side parcel = ap (λ t. if_at t parcel) (same-here b side)

  -- ---- by the action
  sent-does : (p : ℕ) (a : Action) (r : Reply L) → Fits J a r → IsNoPrint a → moved_by p Sender (call p a) (went_by a r) ≡ put_by a r
  sent-does p act.ReadCard r fits not = refl
  sent-does p (act.PutFeed f) reply.Done fits not = at-own p Sender (OfFeed f)
  sent-does p (act.PutFeed f) reply.Stopped fits not = refl
  sent-does p act.TakeFeed (reply.Feed f) fits not = (across p (upstream p) (OfFeed f)).0
  sent-does p act.TakeFeed reply.Stopped fits not = refl
  sent-does p act.AwaitRoom reply.Done fits not = refl
  sent-does p act.AwaitRoom reply.Stopped fits not = refl
  sent-does p act.AwaitItem reply.Done fits not = refl
  sent-does p act.AwaitItem reply.Stopped fits not = refl
  sent-does p act.Request r fits not = refl
  sent-does p (act.PutPage page) reply.Done fits not = at-own p Sender _
  sent-does p (act.PutPage page) reply.Failed fits not = refl
  sent-does p act.TakePage (reply.Page page last) fits not = (across p (upstream p) (OfPage page last)).0
  sent-does p act.TakePage reply.Failed fits not = refl
  sent-does p act.Release r fits not = refl
  sent-does p (act.Load file) r fits not = refl
  sent-does p act.Local r fits not = refl
  sent-does p (act.Print line) r fits not = absurd not
  sent-does p (act.Stop b) reply.Done fits not = refl
  sent-does p (act.Ended how) r fits not = refl
  sent-does p a r fits not = absurd fits

  taken-does : (p : ℕ) (a : Action) (r : Reply L) → Fits J a r → IsNoRead a → moved_by (upstream p) Receiver (call p a) (went_by a r) ≡ handed (taken_by r)
  taken-does p act.ReadCard r fits not = absurd not
  taken-does p (act.PutFeed f) reply.Done fits not = (across (upstream p) p (OfFeed f)).1
  taken-does p (act.PutFeed f) reply.Stopped fits not = refl
  taken-does p act.TakeFeed (reply.Feed f) fits not = at-own (upstream p) Receiver (OfFeed f)
  taken-does p act.TakeFeed reply.Stopped fits not = refl
  taken-does p act.AwaitRoom reply.Done fits not = refl
  taken-does p act.AwaitRoom reply.Stopped fits not = refl
  taken-does p act.AwaitItem reply.Done fits not = refl
  taken-does p act.AwaitItem reply.Stopped fits not = refl
  taken-does p act.Request reply.Done fits not = refl
  taken-does p (act.PutPage page) reply.Done fits not = (across (upstream p) p (OfPage page _)).1
  taken-does p (act.PutPage page) reply.Failed fits not = refl
  taken-does p act.TakePage (reply.Page page last) fits not = at-own (upstream p) Receiver (OfPage page last)
  taken-does p act.TakePage reply.Failed fits not = refl
  taken-does p act.Release reply.Done fits not = refl
  taken-does p (act.Load file) (reply.Loaded load) fits not = refl
  taken-does p (act.Load file) reply.Failed fits not = refl
  taken-does p (act.Load file) reply.NoMemory fits not = refl
  taken-does p act.Local reply.Done fits not = refl
  taken-does p (act.Print line) reply.Done fits not = refl
  taken-does p (act.Print line) reply.Failed fits not = refl
  taken-does p (act.Print line) reply.NoMemory fits not = refl
  taken-does p (act.Stop b) reply.Done fits not = refl
  taken-does p (act.Ended how) reply.Done fits not = refl
  taken-does p a r fits not = absurd fits

  sent-lacks : (p : ℕ) (a : Action) (r : Reply L) → MayLack a r → moved_by p Sender (call p a) (went_by a r) ≡ []
  sent-lacks p act.TakePage (reply.Page page last) may = (across p (upstream p) (OfPage page last)).0
  sent-lacks p act.Local reply.Done may = refl
  sent-lacks p a r may = absurd may

  taken-lacks : (p : ℕ) (a : Action) (r : Reply L) → MayLack a r → moved_by (upstream p) Receiver (call p a) (went_by a r) ≡ handed (taken_by r)
  taken-lacks p act.TakePage (reply.Page page last) may = at-own (upstream p) Receiver (OfPage page last)
  taken-lacks p act.Local reply.Done may = refl
  taken-lacks p a r may = absurd may

  delay-moves : (b p : ℕ) (side : Side) (a : Action) → MayWait a → moved_by b side (call p a) (went {L = L} (Delays a)) ≡ []
  delay-moves b p side (act.PutFeed f) may = refl
  delay-moves b p side act.TakeFeed may = refl
  delay-moves b p side act.AwaitRoom may = refl
  delay-moves b p side act.AwaitItem may = refl
  delay-moves b p side act.Request may = refl
  delay-moves b p side a may = absurd may

  module _ {row : ℕ → Process L} (laws : IsRow jobs row) (p : ℕ) where
    pub passed-sent : IsBuffer p → (h : List (Entry L)) → Follows J (row p) h → moved p Sender (law.acts (core J row) p h) ≡ sent h
    passed-sent is [] follows = refl
    passed-sent is (Does a r ∷ h) follows =
        ap (λ before. before ++ moved_by p Sender (call p a) (went_by a r)) (passed-sent is h follows.2)
        ∙ ap (λ more. sent h ++ more) (sent-does p a r follows.1 (no-print a
        (λ line e. prints-line (row p) h line (laws.relays p) follows.2 (follows.0 ∙ ap Some e) (laws.prints p is (taken h)))))
    passed-sent is (LacksMemory a r ∷ h) follows =
        ap (λ before. before ++ moved_by p Sender (call p a) (went_by a r)) (passed-sent is h follows.2)
        ∙ ap (λ more. sent h ++ more) (sent-lacks p a r follows.1.1) ∙ append-nil (sent h)
    passed-sent is (Delays a ∷ h) follows =
        ap (λ before. before ++ moved_by p Sender (call p a) (went {L = L} (Delays a))) (passed-sent is h follows.2)
        ∙ ap (λ more. sent h ++ more) (delay-moves p p Sender a follows.1) ∙ append-nil (sent h)

    pub passed-taken : (p ≡ 1 → ⊥) → (h : List (Entry L)) → Follows J (row p) h → moved (upstream p) Receiver (law.acts (core J row) p h) ≡ handed (taken h)
    passed-taken not [] follows = refl
    passed-taken not (Does a r ∷ h) follows =
        ap (λ before. before ++ moved_by (upstream p) Receiver (call p a) (went_by a r)) (passed-taken not h follows.2)
        ∙ ap (λ more. handed (taken h) ++ more) (taken-does p a r follows.1 (no-read a
        (λ e. not (laws.reads p (next-take jobs (row p) h act.ReadCard (follows.0 ∙ ap Some e) tt).same))))
        ∙ sym (handed-append jobs (taken h) (taken_by r))
    passed-taken not (LacksMemory a r ∷ h) follows =
        ap (λ before. before ++ moved_by (upstream p) Receiver (call p a) (went_by a r)) (passed-taken not h follows.2)
        ∙ ap (λ more. handed (taken h) ++ more) (taken-lacks p a r follows.1.1) ∙ sym (handed-append jobs (taken h) (taken_by r))
    passed-taken not (Delays a ∷ h) follows =
        ap (λ before. before ++ moved_by (upstream p) Receiver (call p a) (went {L = L} (Delays a))) (passed-taken not h follows.2)
        ∙ ap (λ more. handed (taken h) ++ more) (delay-moves (upstream p) p Receiver a follows.1) ∙ append-nil (handed (taken h))

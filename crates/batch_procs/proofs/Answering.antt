-- What a reply does to the work of a process.
use Rattle.std.proofs.Common.{◌≡◌, ℕ, ◌⊎◌, inl, inr, Bool, true, false, ◌&&◌, not, List, [], ◌∷◌, ◌++◌, length, drop, Option, None, Some, Result, Ok, Err, refl, sym, ◌∙◌, ap, subst}
use Rattle.std.specs.Prelude.{IfOk, OnErr}
use Rattle.std.proofs.lemmas.List.{append-nil}
use Rattle.solo_base.specs.declared.item.Feed.{Feed}
use Rattle.solo_base.specs.declared.page.Page.{Page}
use Rattle.solo_base.specs.declared.line.Line.{Line}
use Rattle.solo_base.specs.declared.no_memory.NoMemory.{NoMemory}
use Rattle.solo_base.specs.declared.outcome.Outcome.{Outcome}
use Rattle.batch_procs.specs.Jobs.{Jobs}
use Rattle.batch_procs.specs.declared.actions.Action.{Action}
use Rattle.batch_procs.specs.declared.actions.Action.TheVariants as act
use Rattle.batch_procs.specs.declared.actions.Reply.{Reply}
use Rattle.batch_procs.specs.declared.actions.Reply.TheVariants as reply
use Rattle.batch_procs.specs.Parcels.{Parcel, OfLoad, is_last}
use Rattle.batch_procs.specs.History.{Entry, Does, taken, sent, put_by, is_unworked}
use Rattle.batch_procs.specs.Causes.{given_cause}
use Rattle.batch_procs.specs.Fits.{Fits, MayLack}
use Rattle.batch_procs.specs.Process.{Process, unworked, next_action, Follows}
use Rattle.batch_procs.specs.Laws.{IsTake, IsRelay}
use Rattle.batch_procs.specs.Work.{cause_of, IsHanded, MayTake, Takes}
use Rattle.batch_procs.specs.declared.machine.Done.TheVariants as done
use Rattle.batch_procs.specs.Machine.{Uses, Answers, done_by}
use Rattle.batch_procs.proofs.Relay.{IsPut, put-of}
use Rattle.batch_procs.proofs.Nexts.{next-take, next-putting, put-unworked, next-local, next-load}

-- ---- a put
pub is-put : (a : Action) → done.Put ≡ done_by a → IsPut a
is-put (act.PutFeed f) e = tt
is-put (act.PutPage page) e = tt
is-put (act.Print line) e = tt
is-put act.Local e = absurd cc
is-put other e = absurd cc

pub is-local : (a : Action) → done.Work ≡ done_by a → a ≡ act.Local
is-local act.Local e = refl
is-local (act.PutFeed f) e = absurd cc
is-local (act.PutPage page) e = absurd cc
is-local (act.Print line) e = absurd cc
is-local other e = absurd cc

if-ok : (result : Result (Option Outcome) NoMemory) (P Q : Option Outcome → Type 0) → ((cause : Option Outcome) → P cause → Q cause) → IfOk result P
    → IfOk result Q
if-ok (Ok cause) P Q on is = on cause is
if-ok (Err refused) P Q on is = is

module _ {L : Type 0} (J : Jobs L) where
  pub uses-put : (p : Process L) (old now : List (Parcel L) → List (Parcel L) → Bool → Type 0) (a : Action) (h : List (Entry L)) → IsRelay p →
      ((taken sent more : List (Parcel L)) (first : Parcel L) → old taken sent false → drop (length sent) (p.sends taken) ≡ first ∷ more
      → now taken (sent ++ first ∷ []) (p.works && not (is_last first))) →
      Follows J p h → next_action p h ≡ Some a → IsPut a → old (taken h) (sent h) (unworked p h) → Uses p now a reply.Done None h
  uses-put p old now a h relay law follows next put keeps =
      let is = next-putting J p h a relay follows next put in
      let after = law (taken h) (sent h) is.more is.first (subst (λ t. old (taken h) (sent h) t) is.worked keeps) is.left in
      let put-is : put_by a reply.Done ≡ is.first ∷ [] = ap (λ a. put_by a reply.Done) (sym is.puts_it) ∙ put-of J is.first reply.Done is.marked in
      let work-is : is_unworked (Does a reply.Done ∷ h) ≡ not (is_last is.first) = ap (λ a. is_unworked (Does a reply.Done ∷ h)) (sym is.puts_it)
      ∙ put-unworked J is.first reply.Done h is.marked in
      record {
        cause_is = refl;
        keeps = λ none. rw (append-nil (taken h), put-is, work-is) after;
      }

  -- ---- a take
  -- a reply that hands something over
  abbrev pub IsTaken : Reply L → Type 0
  IsTaken (reply.Card answer) = Unit {0}
  IsTaken (reply.Feed f) = Unit {0}
  IsTaken (reply.Page page last) = Unit {0}
  IsTaken other = ⊥

  take-of : (a : Action) (r : Reply L) → Fits J a r → IsTaken r → IsTake a
  take-of act.ReadCard r fits is = tt
  take-of act.TakeFeed r fits is = tt
  take-of act.TakePage r fits is = tt
  take-of (act.PutFeed f) reply.Done fits is = absurd is
  take-of (act.PutFeed f) reply.Stopped fits is = absurd is
  take-of (act.PutFeed f) other fits is = absurd fits
  take-of act.AwaitRoom reply.Done fits is = absurd is
  take-of act.AwaitRoom reply.Stopped fits is = absurd is
  take-of act.AwaitRoom other fits is = absurd fits
  take-of act.AwaitItem reply.Done fits is = absurd is
  take-of act.AwaitItem reply.Stopped fits is = absurd is
  take-of act.AwaitItem other fits is = absurd fits
  take-of act.Request reply.Done fits is = absurd is
  take-of act.Request other fits is = absurd fits
  take-of (act.PutPage page) reply.Done fits is = absurd is
  take-of (act.PutPage page) reply.Failed fits is = absurd is
  take-of (act.PutPage page) other fits is = absurd fits
  take-of act.Release reply.Done fits is = absurd is
  take-of act.Release other fits is = absurd fits
  take-of (act.Load file) (reply.Loaded load) fits is = absurd is
  take-of (act.Load file) reply.Failed fits is = absurd is
  take-of (act.Load file) reply.NoMemory fits is = absurd is
  take-of (act.Load file) other fits is = absurd fits
  take-of act.Local reply.Done fits is = absurd is
  take-of act.Local other fits is = absurd fits
  take-of (act.Print line) reply.Done fits is = absurd is
  take-of (act.Print line) reply.Failed fits is = absurd is
  take-of (act.Print line) reply.NoMemory fits is = absurd is
  take-of (act.Print line) other fits is = absurd fits
  take-of (act.Stop b) reply.Done fits is = absurd is
  take-of (act.Stop b) other fits is = absurd fits
  take-of (act.Ended how) reply.Done fits is = absurd is
  take-of (act.Ended how) other fits is = absurd fits

  pub handed : (r : Reply L) → (r ≡ reply.Done → ⊥) → (r ≡ reply.Stopped → ⊥) → (r ≡ reply.Failed → ⊥) → (r ≡ reply.NoMemory → ⊥)
      → ((load : L) → r ≡ reply.Loaded load → ⊥) → IsTaken r
  handed reply.Done done stopped failed none loaded = absurd (done refl)
  handed reply.Stopped done stopped failed none loaded = absurd (stopped refl)
  handed reply.Failed done stopped failed none loaded = absurd (failed refl)
  handed reply.NoMemory done stopped failed none loaded = absurd (none refl)
  handed (reply.Card answer) done stopped failed none loaded = tt
  handed (reply.Feed f) done stopped failed none loaded = tt
  handed (reply.Page page last) done stopped failed none loaded = tt
  handed (reply.Loaded load) done stopped failed none loaded = absurd (loaded load refl)

  same-cause : (a : Action) (r : Reply L) (h : List (Entry L)) → IsTaken r → cause_of r (taken h) ≡ given_cause a r h
  same-cause a (reply.Card answer) h is = refl
  same-cause a (reply.Feed f) h is = refl
  same-cause a (reply.Page page last) h is = refl
  same-cause a other h is = absurd is

  take-works : (t : Bool) (a : Action) (r : Reply L) (h : List (Entry L)) → IsTake a → (t && is_unworked (Does a r ∷ h)) ≡ t
  take-works true act.ReadCard r h take = refl
  take-works true act.TakeFeed r h take = refl
  take-works true act.TakePage r h take = refl
  take-works false a r h take = refl
  take-works true other r h take = absurd take

  take-puts : (a : Action) (r : Reply L) → IsTake a → put_by a r ≡ []
  take-puts act.ReadCard r take = refl
  take-puts act.TakeFeed r take = refl
  take-puts act.TakePage r take = refl
  take-puts other r take = absurd take

  nothing-due : (t : Bool) (st all : List (Parcel L)) → t ≡ false → drop (length st) (Rattle.std.specs.Prelude.if◌then◌else◌ t st all) ≡ []
      → drop (length st) all ≡ []
  nothing-due true st all e none = absurd cc
  nothing-due false st all e none = none

  hands-over : (a : Action) (r : Reply L) → IsTake a → Fits J a r → IsTaken r → IsHanded a r
  hands-over act.ReadCard (reply.Card answer) take fits is = tt
  hands-over act.ReadCard other take fits is = absurd fits
  hands-over act.TakeFeed (reply.Feed f) take fits is = tt
  hands-over act.TakeFeed reply.Stopped take fits is = absurd is
  hands-over act.TakeFeed other take fits is = absurd fits
  hands-over act.TakePage (reply.Page page last) take fits is = tt
  hands-over act.TakePage reply.Failed take fits is = absurd is
  hands-over act.TakePage other take fits is = absurd fits
  hands-over other r take fits is = absurd take

  lacks-page : (a : Action) (r : Reply L) → IsTake a → Fits J a r → MayLack act.TakePage r → MayLack a r
  lacks-page act.TakePage r take fits may = may
  lacks-page act.ReadCard (reply.Page page last) take fits may = absurd fits
  lacks-page act.ReadCard other take fits may = absurd may
  lacks-page act.TakeFeed (reply.Page page last) take fits may = absurd fits
  lacks-page act.TakeFeed other take fits may = absurd may
  lacks-page other r take fits may = absurd take

  pub answers-take : {W : Type 0} (p : Process L) (keeps : W → List (Parcel L) → List (Parcel L) → Bool
      → Type 0) (old new : W) (a : Action) (r : Reply L) (result : Result (Option Outcome) NoMemory) → IsTaken r →
      ((taken sent : List (Parcel L)) → keeps old taken sent false → MayTake p taken sent r → IfOk result (λ cause. Takes p (keeps new) taken sent r cause)) →
      OnErr result ((p.works ≡ true) × MayLack act.TakePage r) → Answers J p keeps old a r result new
  answers-take p keeps old new a r result is law lacks = record {
    uses = λ h follows none next fits kept.
        let take = take-of a r fits is in
        let taking = next-take J p h a next take in
        let may : MayTake p (taken h) (sent h) r = record {
          nothing_due = nothing-due (unworked p h) (sent h) (p.sends (taken h)) taking.worked taking.nothing;
          goes_on = taking.goes_on;
          is_handed = subst (λ a. IsHanded a r) (sym taking.same) (hands-over a r take fits is);
        } in
        if-ok result (λ cause. Takes p (keeps new) (taken h) (sent h) r cause) (λ cause. Uses p (keeps new) a r cause h)
        (λ cause (same, on). record {
          cause_is = same ∙ same-cause a r h is;
          keeps = λ none. rw (take-puts a r take, append-nil (sent h), take-works p.works a r h take) (on none);
        })
        (law (taken h) (sent h) (subst (λ t. keeps old (taken h) (sent h) t) taking.worked kept) may);
    lacks = on-err result lacks;
  }
    where
      on-err : (result : Result (Option Outcome) NoMemory) → OnErr result ((p.works ≡ true) × MayLack act.TakePage r)
          → OnErr result ((p.works ≡ true) × (Fits J a r → MayLack a r))
      on-err (Ok cause) l = l
      on-err (Err refused) l = (l.0, λ fits. lacks-page a r (take-of a r fits is) fits l.1)

  -- ---- a load
  load-of : (a : Action) (load : L) → Fits J a (reply.Loaded load) → (file : List ℕ) × (a ≡ act.Load file)
  load-of (act.Load file) load fits = (file, refl)
  load-of other load fits = absurd fits

  pub answers-load : {W : Type 0} (p : Process L) (keeps : W → List (Parcel L) → List (Parcel L) → Bool → Type 0) (old new : W) (a : Action) (r : Reply L)
      (load : L)
      → IsRelay p → r ≡ reply.Loaded load
      → ((taken sent : List (Parcel L)) (file : List ℕ) (later : List (List ℕ)) → keeps old taken sent true → p.wants taken ≡ file ∷ later
      → keeps new (taken ++ OfLoad load ∷ []) sent true) → Answers J p keeps old a r (Ok None) new
  answers-load p keeps old new a r load relay is law = record {
    uses = λ h follows none next fits kept.
        let (file, same) = load-of a load (subst (λ r. Fits J a r) is fits) in
        let wants = next-load J p h file relay follows (next ∙ ap Some same) in
        let now = law (taken h) (sent h) file wants.later (subst (λ t. keeps old (taken h) (sent h) t) wants.works kept) wants.first in
        subst (λ a. Uses p (keeps new) a r None h) (sym same) (subst (λ r. Uses p (keeps new) (act.Load file) r None h) (sym is) record {
          cause_is = refl;
          keeps = λ clear. rw (append-nil (sent h), wants.works) now;
        });
    lacks = tt;
  }

  -- ---- the work
  pub uses-work : (p : Process L) (old now : List (Parcel L) → List (Parcel L) → Bool → Type 0) (a : Action) (h : List (Entry L)) → IsRelay p → a ≡ act.Local
      → ((taken sent : List (Parcel L)) → old taken sent true → p.wants taken ≡ [] → now taken sent false)
      → Follows J p h → next_action p h ≡ Some a → old (taken h) (sent h) (unworked p h) → Uses p now a reply.Done None h
  uses-work p old now a h relay is law follows next kept =
      let (works, none) = next-local J p h relay follows (next ∙ ap Some is) in
      let after = law (taken h) (sent h) (subst (λ t. old (taken h) (sent h) t) works kept) none in
      subst (λ a. Uses p now a reply.Done None h) (sym is) record {
        cause_is = refl;
        keeps = λ clear. rw (append-nil (taken h), append-nil (sent h), and-nothing p.works) after;
      }
    where
      and-nothing : (t : Bool) → (t && false) ≡ false
      and-nothing true = refl
      and-nothing false = refl

  -- ---- a reply that gives its cause whatever came before
  pub answers-cause : {W : Type 0} (p : Process L) (keeps : W → List (Parcel L) → List (Parcel L) → Bool → Type 0) (old new : W) (a : Action) (r x : Reply L)
      (how : Outcome)
      → r ≡ x → ((h : List (Entry L)) → given_cause a x h ≡ Some how) → Answers J p keeps old a r (Ok (Some how)) new
  answers-cause p keeps old new a r x how is gives = record {
    uses = λ h follows none next fits kept. record {
      cause_is = sym (ap (λ r. given_cause a r h) is ∙ gives h);
      keeps = λ clear. absurd cc;
    };
    lacks = tt;
  }

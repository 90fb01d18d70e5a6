-- Of each buffer at most one side sleeps, and neither the card process nor the printer asks for the disk: so at most seven sleep.
use Rattle.std.proofs.Common.{◌≡◌, ◌⊎◌, inl, inr, ℕ, zero, suc, ◌+◌, ◌≤◌, Bool, true, false, if◌then◌else◌, List, [], ◌∷◌, ◌++◌, drop, length, Option, None, Some, refl, sym, ◌∙◌, ap, subst, arith, lit≤}
use Rattle.std.specs.Prelude.{option_to_list}
use Rattle.std.specs.List.{AllByRecursion}
use Rattle.solo_base.specs.declared.outcome.Side.{Side}
use Rattle.solo_base.specs.declared.outcome.Side.TheVariants.{Sender, Receiver}
use Rattle.solo_base.specs.declared.outcome.Outcome.{Outcome}
use Rattle.queue_var.specs.declared.turn.Turn.{Turn}
use Rattle.queue_var.specs.declared.turn.Turn.TheVariants.{Free, Handed}
use Rattle.queue_var.specs.Sides.{Sides}
use Rattle.queue_var.specs.HandsOver.{Lacks, WaitsWithCause}
use Rattle.resource_mon.specs.Claims.{EachOnce}
use Rattle.batch_procs.specs.declared.actions.Action.{Action}
use Rattle.batch_procs.specs.declared.actions.Action.TheVariants as act
use Rattle.batch_procs.specs.Parcels.{Parcel, OfFeed, OfPage, OfLine, OfLoad, IsAFeed, IsALine, is_ended}
use Rattle.batch_procs.specs.History.{Entry, Does, LacksMemory, Delays, taken, sent, holds, has_stopped, newest}
use Rattle.batch_procs.specs.Causes.{caused}
use Rattle.batch_procs.specs.Process.{Process, unworked, due, aim, aimed, working, begins, stops_next, closes, closing, next_by, next_action, Follows}
use Rattle.batch_procs.specs.Laws.{IsRelay}
use Rattle.batch_procs.specs.Machine.{step_after, held_at}
use Rattle.batch_procs.specs.Table.{process}
use Rattle.batch_procs.specs.Parts.{some-same}
use Rattle.batch_procs.proofs.Relay.{closing-next}
use Rattle.batch_procs.proofs.Closing.{works-next}
use Rattle.batch_procs.proofs.Machines.{held-by}
use Rattle.network_law.specs.Acts as acts
use Rattle.network_law.specs.Acts.{Asks}
use Rattle.network_law.specs.Network as law
use Rattle.network_law.specs.Kept.{StandsAtDesk, Stands}
use Rattle.core_law.specs.Core.{call, core, CoreState, IsBuffer}
use Rattle.core_law.specs.Ends.{IsProcess}
use Rattle.core_law.specs.Work.{sleeps, sleepers_at, sleepers}
use Rattle.core_law.proofs.Acting.{follows-of, holds-are}
use Rattle.core_law.proofs.DeskRoom.{AreUpTo, at-most, waits-one, holds-one}
use Rattle.core_law.proofs.Ends.{the-five}
use Rattle.core_law.proofs.Sleeping.{sleeps-most}
use Rattle.batch_procs.specs.Jobs.{Jobs, AreJobs}

-- ---- a process that moves no page
abbrev pub IsPlain : Action → Type 0
IsPlain act.AwaitRoom = ⊥
IsPlain act.AwaitItem = ⊥
IsPlain act.Request = ⊥
IsPlain (act.PutPage page) = ⊥
IsPlain act.TakePage = ⊥
IsPlain act.Release = ⊥
IsPlain (act.Load file) = ⊥
IsPlain other = Unit {0}

module _ {L : Type 0} {J : Jobs L} (jobs : AreJobs J) where
  abbrev NewestPlain : Option Action → Type 0
  NewestPlain None = Unit {0}
  NewestPlain (Some a) = IsPlain a

  plain-begins : (aim : Action) → IsPlain aim → IsPlain (begins aim)
  plain-begins (act.PutPage page) is = absurd is
  plain-begins act.TakePage is = absurd is
  plain-begins (act.Load file) is = absurd is
  plain-begins other is = is

  plain-working : (newest : Option Action) (aim a : Action) → NewestPlain newest → IsPlain aim → working newest aim ≡ Some a → IsPlain a
  plain-working None aim a was is e = subst IsPlain (some-same (begins aim) a e) (plain-begins aim is)
  plain-working (Some act.AwaitRoom) aim a was is e = absurd was
  plain-working (Some act.AwaitItem) aim a was is e = absurd was
  plain-working (Some act.Request) aim a was is e = absurd was
  plain-working (Some (act.PutPage page)) aim a was is e = absurd was
  plain-working (Some act.TakePage) aim a was is e = absurd was
  plain-working (Some act.Release) aim a was is e = absurd was
  plain-working (Some (act.Load file)) aim a was is e = absurd was
  plain-working (Some (act.Ended how)) aim a was is e = absurd cc
  plain-working (Some other) aim a was is e = subst IsPlain (some-same (begins aim) a e) (plain-begins aim is)

  plain-free : (newest : Option Action) → NewestPlain newest → held_at (step_after newest) ≡ false
  plain-free None was = refl
  plain-free (Some act.AwaitRoom) was = absurd was
  plain-free (Some act.AwaitItem) was = absurd was
  plain-free (Some act.Request) was = absurd was
  plain-free (Some (act.PutPage page)) was = absurd was
  plain-free (Some act.TakePage) was = absurd was
  plain-free (Some act.Release) was = absurd was
  plain-free (Some (act.Load file)) was = absurd was
  plain-free (Some (act.Ended how)) was = refl
  plain-free (Some other) was = refl

  plain-stops : (buffers : List ℕ) (how : Outcome) (h : List (Entry L)) → IsPlain (stops_next buffers how h)
  plain-stops [] how h = tt
  plain-stops (b ∷ later) how h =
      let P : Bool → Type 0 = λ t. IsPlain (if t then stops_next later how h else act.Stop b) in
      elim (has_stopped b h) as P [ true ↦ plain-stops later how h | false ↦ tt ]

  module _ (p : Process L) (relay : IsRelay p) (aims : (h : List (Entry L)) → IsPlain (aim p h)) where
    plain-now : (h : List (Entry L)) (a : Action) (cause : Option Outcome) → Follows J p h → NewestPlain (newest h) → caused h ≡ cause
        → next_action p h ≡ Some a
        → IsPlain a
    plain-now h a None follows was cause next = plain-working (newest h) (aim p h) a was (aims h) (works-next J p h a next cause)
    plain-now h a (Some how) follows was cause next =
        let closing_is : closing (newest h) (closes p.buffers how h) ≡ Some a = sym (ap (λ c. next_by p c h) cause) ∙ next in
        let is = closing-next (newest h) (closes p.buffers how h) a closing_is in
        let free : holds h ≡ false = held-by J p h relay follows ∙ plain-free (newest h) was in
        subst IsPlain (sym (ap (λ t. if t then act.Release else stops_next p.buffers how h) free) ∙ is) (plain-stops p.buffers how h)

    newest-plain : (h : List (Entry L)) → Follows J p h → NewestPlain (newest h)
    newest-plain [] follows = tt
    newest-plain (Does a r ∷ h) follows = plain-now h a (caused h) follows.2 (newest-plain h follows.2) refl follows.0
    newest-plain (LacksMemory a r ∷ h) follows = plain-now h a (caused h) follows.2 (newest-plain h follows.2) refl follows.0
    newest-plain (Delays a ∷ h) follows = newest-plain h follows.2

    -- What it does next is plain, and it never has the disk.
    pub plain-next : (h : List (Entry L)) (a : Action) → Follows J p h → next_action p h ≡ Some a → IsPlain a
    plain-next h a follows next = plain-now h a (caused h) follows (newest-plain h follows) refl next

    pub plain-holds : (h : List (Entry L)) → Follows J p h → holds h ≡ false
    plain-holds h follows = held-by J p h relay follows ∙ plain-free (newest h) (newest-plain h follows)

  -- ---- the card process and the printer
  abbrev IsNoPage : Parcel L → Type 0
  IsNoPage (OfFeed f) = Unit {0}
  IsNoPage (OfPage page last) = ⊥
  IsNoPage (OfLine line) = Unit {0}
  IsNoPage (OfLoad load) = Unit {0}

  feeds-no_page : (ps : List (Parcel L)) → AllByRecursion IsAFeed ps → AllByRecursion IsNoPage ps
  feeds-no_page [] are = tt
  feeds-no_page (OfFeed f ∷ rest) are = (tt, feeds-no_page rest are.1)
  feeds-no_page (OfPage page last ∷ rest) are = absurd are.0
  feeds-no_page (OfLine line ∷ rest) are = absurd are.0
  feeds-no_page (OfLoad load ∷ rest) are = absurd are.0

  lines-no_page : (ps : List (Parcel L)) → AllByRecursion IsALine ps → AllByRecursion IsNoPage ps
  lines-no_page [] are = tt
  lines-no_page (OfLine line ∷ rest) are = (tt, lines-no_page rest are.1)
  lines-no_page (OfPage page last ∷ rest) are = absurd are.0
  lines-no_page (OfFeed f ∷ rest) are = absurd are.0
  lines-no_page (OfLoad load ∷ rest) are = absurd are.0

  all-drop : (n : ℕ) (ps : List (Parcel L)) → AllByRecursion IsNoPage ps → AllByRecursion IsNoPage (drop n ps)
  all-drop zero ps are = are
  all-drop (suc n) [] are = are
  all-drop (suc n) (x ∷ ps) are = all-drop n ps are.1

  -- it wants no file
  aimed-plain : (takes : Action) (due : List (Parcel L)) (ended work : Bool) → IsPlain takes → AllByRecursion IsNoPage due
      → IsPlain (aimed takes [] due ended work)
  aimed-plain takes [] true false is are = tt
  aimed-plain takes [] true true is are = tt
  aimed-plain takes [] false true is are = tt
  aimed-plain takes [] false false is are = is
  aimed-plain takes (OfFeed f ∷ more) ended work is are = tt
  aimed-plain takes (OfPage page last ∷ more) ended work is are = absurd are.0
  aimed-plain takes (OfLine line ∷ more) ended work is are = tt
  aimed-plain takes (OfLoad load ∷ more) ended work is are = tt

  pub card-aims : (h : List (Entry L)) → IsPlain (aim (process J 1) h)
  card-aims h =
      aimed-plain act.ReadCard (due (process J 1) h) (is_ended (taken h)) (unworked (process J 1) h) tt
      (all-drop (length (sent h)) _ (feeds-no_page _ ((the-five jobs).feeds 1 (lit≤ tt, lit≤ tt) refl (taken h))))

  pub printer-aims : (h : List (Entry L)) → IsPlain (aim (process J 5) h)
  printer-aims h =
      aimed-plain act.TakeFeed (due (process J 5) h) (is_ended (taken h)) (unworked (process J 5) h) tt
      (all-drop (length (sent h)) _ (lines-no_page _ ((the-five jobs).prints_only (taken h))))

  -- ---- at the desk
  module _ (opening s : CoreState L) (st : Stands (core J (process J)) opening s) where
    follows : (p : ℕ) → Follows J (process J p) (s.histories p)
    follows p = follows-of jobs (process J) p (s.histories p) (st.follows p)

    not-asks : (a : Action) → IsPlain a → (p : ℕ) → call p a ≡ Asks → ⊥
    not-asks act.Request is p e = is
    not-asks a is p e = cc

    upto : (q : ℕ) → IsProcess q → (q ≡ 5 → ⊥) → (1 ≤ q) × (q ≤ 4)
    upto q one not = (one.0, (let high = one.1 in omega (arith, high, not)))

    printer-waits_not : (q : ℕ) → StandsAtDesk (core J (process J)) s q → q ≡ 5 → ⊥
    printer-waits_not q at e =
        let here = subst (StandsAtDesk (core J (process J)) s) e at in
        not-asks here.calls.action
        (plain-next (process J 5) ((the-five jobs).relays 5) printer-aims (s.histories 5) here.calls.action (follows 5) here.calls.next) 5 here.calls.call

    printer-holds_not : (q : ℕ) → acts.holds (law.acts (core J (process J)) q (s.histories q)) ≡ true → q ≡ 5 → ⊥
    printer-holds_not q on e =
        let here : acts.holds (law.acts (core J (process J)) 5 (s.histories 5)) ≡ true
        = subst (λ q. acts.holds (law.acts (core J (process J)) q (s.histories q)) ≡ true) e on in
        let off = holds-are jobs (process J) 5 (s.histories 5) (follows 5) ∙ plain-holds (process J 5) ((the-five jobs).relays 5) printer-aims (s.histories 5)
        (follows 5) in
        cc

    waits-four : (q : ℕ) → StandsAtDesk (core J (process J)) s q → (1 ≤ q) × (q ≤ 4)
    waits-four q at = upto q (waits-one jobs opening s st q at) (printer-waits_not q at)

    are-four : (qs : List ℕ) → AllByRecursion (StandsAtDesk (core J (process J)) s) qs → AreUpTo 4 qs
    are-four [] at = tt
    are-four (q ∷ qs) at = (waits-four q at.0, are-four qs at.1)

    holder-four : (q : ℕ) → s.desk.claims.holder ≡ Some q → (1 ≤ q) × (q ≤ 4)
    holder-four q held =
        elim (st.desk.holder q held) as (λ _. (1 ≤ q) × (q ≤ 4)) [
          | inl handed ↦ waits-four q (st.desk.handed q handed)
          | inr on ↦ upto q (holds-one jobs opening s st q on) (printer-holds_not q on)
        ]

    few-by : (holder : Option ℕ) → s.desk.claims.holder ≡ holder → EachOnce (option_to_list holder ++ s.desk.claims.waiting) → length s.desk.claims.waiting ≤ 3
    few-by None none once = (let empty : length s.desk.claims.waiting ≡ 0 = ap length (st.desk.one_holder.idle none) in omega (arith, empty))
    few-by (Some q) held once =
        (let all = at-most 4 (q ∷ s.desk.claims.waiting) once (holder-four q held, are-four s.desk.claims.waiting st.desk.waiting) in omega (arith, all))

    -- ---- at a buffer
    two-wait : (turn : Turn Side) (x y : Option ℕ) (capacity : ℕ) (marks : List Bool) → 1 ≤ capacity
        → ((q : ℕ) → x ≡ Some q → (length marks ≡ capacity) ⊎ (turn ≡ Handed Sender)) → ((q : ℕ) → y ≡ Some q → (marks ≡ []) ⊎ (turn ≡ Handed Receiver))
        → sleeps Sender turn x + sleeps Receiver turn y ≤ 1
    two-wait turn None y capacity marks some a b = (let one = sleeps-most Receiver turn y in omega (arith, one))
    two-wait turn (Some p) None capacity marks some a b = (let one = sleeps-most Sender turn (Some p) in omega (arith, one))
    two-wait (Handed Sender) (Some p) (Some q) capacity marks some a b = omega arith
    two-wait (Handed Receiver) (Some p) (Some q) capacity marks some a b = omega arith
    two-wait Free (Some p) (Some q) capacity marks some a b =
        elim (a p refl) as (λ _. sleeps Sender Free (Some p) + sleeps Receiver Free (Some q) ≤ 1) [
          | inl full ↦ elim (b q refl) as (λ _. sleeps Sender Free (Some p) + sleeps Receiver Free (Some q) ≤ 1) [
            | inl empty ↦ (let none : length marks ≡ 0 = ap length empty in absurd (omega (arith, some, full, none)))
            | inr handed ↦ absurd cc
          ]
          | inr handed ↦ absurd cc
        ]

    first-of : (capacity : ℕ) (marks : List Bool) (sides : Sides) → WaitsWithCause (Lacks capacity marks) sides → 1 ≤ capacity → sleepers_at sides ≤ 1
    first-of capacity marks sides w some =
        two-wait sides.turn sides.sender sides.receiver capacity marks some
        (λ q e. elim (w.cause Sender q e) as (λ _. (length marks ≡ capacity) ⊎
        (sides.turn ≡ Handed Sender)) [ inl lacks ↦ inl lacks.0 | inr handed ↦ inr handed ])
        (λ q e. elim (w.cause Receiver q e) as (λ _. (marks ≡ []) ⊎ (sides.turn ≡ Handed Receiver)) [ inl lacks ↦ inl lacks.0 | inr handed ↦ inr handed ])

    module _ (sizes : (b : ℕ) → IsBuffer b → 1 ≤ (opening.buffers b).capacity) where
      one-at : (b : ℕ) → IsBuffer b → sleepers_at (s.buffers b).sides ≤ 1
      one-at b is =
          let size = sizes b is in
          let same = st.capacity b in
          first-of (s.buffers b).capacity (s.buffers b).marks (s.buffers b).sides (st.buffers.hand_over b).marks.waits (omega (arith, size, same))

      pub seven-sleep : sleepers s ≤ 7
      seven-sleep =
          let a = one-at 1 (lit≤ tt, lit≤ tt) in
          let b = one-at 2 (lit≤ tt, lit≤ tt) in
          let c = one-at 3 (lit≤ tt, lit≤ tt) in
          let d = one-at 4 (lit≤ tt, lit≤ tt) in
          let few = few-by s.desk.claims.holder refl st.desk.one_holder.each_once in
          omega (arith, a, b, c, d, few)

-- What follows for every process from its history alone: what it put is a part of its list function.
use Rattle.std.proofs.Common.{◌≡◌, ◌⊎◌, inl, inr, ℕ, Bool, true, false, if◌then◌else◌, List, [], ◌∷◌, ◌++◌, length, drop, Option, None, Some, refl, sym, ◌∙◌, ap, subst, append_assoc}
use Rattle.std.proofs.lemmas.List.{append-nil}
use Rattle.std.specs.List.{AllByRecursion}
use Rattle.solo_base.specs.declared.outcome.Outcome.{Outcome}
use Rattle.batch_procs.specs.Jobs.{Jobs}
use Rattle.batch_procs.specs.declared.actions.Action.{Action}
use Rattle.batch_procs.specs.declared.actions.Action.TheVariants as act
use Rattle.batch_procs.specs.declared.actions.Reply.{Reply}
use Rattle.batch_procs.specs.declared.actions.Reply.TheVariants as reply
use Rattle.solo_base.specs.Prefixes.{IsPrefixOf}
use Rattle.batch_procs.specs.Parcels.{Parcel, OfFeed, OfPage, OfLine, OfLoad, is_ended, IsMarked}
use Rattle.batch_procs.specs.History.{Entry, Does, LacksMemory, Delays, taken, taken_by, sent, put_by, if_done, put, holds, has_stopped, newest}
use Rattle.batch_procs.specs.Causes.{caused}
use Rattle.batch_procs.specs.Process.{Process, unworked, so_far, due, puts, works_on, aimed, aim, begins, working, stops_next, closes, closing, next_by, next_action, Follows}
use Rattle.batch_procs.specs.Laws.{IsTake, IsOpen, IsRelay}
use Rattle.batch_procs.specs.Parts.{some-same, part-same, drop-part, drop-longer}

abbrev pub IsPut : Action → Type 0
IsPut (act.PutFeed f) = Unit {0}
IsPut (act.PutPage page) = Unit {0}
IsPut (act.Print line) = Unit {0}
IsPut other = ⊥

-- ---- a put is what the process aims at
pub begins-put : (aim a : Action) → begins aim ≡ a → IsPut a → aim ≡ a
begins-put (act.PutPage page) a e put = absurd (subst IsPut (sym e) put)
begins-put act.TakePage a e put = absurd (subst IsPut (sym e) put)
begins-put (act.Load file) a e put = absurd (subst IsPut (sym e) put)
begins-put other a e put = e

working-put : (newest : Option Action) (aim a : Action) → working newest aim ≡ Some a → IsPut a → aim ≡ a
working-put None aim a e put = begins-put aim a (some-same (begins aim) a e) put
working-put (Some act.AwaitRoom) aim a e put = absurd (subst IsPut (sym (some-same act.Request a e)) put)
working-put (Some act.AwaitItem) aim a e put = absurd (subst IsPut (sym (some-same act.Request a e)) put)
working-put (Some act.Request) aim a e put = some-same aim a e
working-put (Some (act.PutPage page)) aim a e put = absurd (subst IsPut (sym (some-same act.Release a e)) put)
working-put (Some act.TakePage) aim a e put = absurd (subst IsPut (sym (some-same act.Release a e)) put)
working-put (Some (act.Load file)) aim a e put = absurd (subst IsPut (sym (some-same act.Release a e)) put)
working-put (Some (act.Ended how)) aim a e put = absurd cc
working-put (Some other) aim a e put = begins-put aim a (some-same (begins aim) a e) put

pub closing-next : (newest : Option Action) (next a : Action) → closing newest next ≡ Some a → next ≡ a
closing-next (Some (act.Ended how)) next a e = absurd cc
closing-next other next a e = some-same next a e

takes-no_put : (takes a : Action) → IsTake takes → takes ≡ a → IsPut a → ⊥
takes-no_put act.ReadCard a take e put = subst IsPut (sym e) put
takes-no_put act.TakeFeed a take e put = subst IsPut (sym e) put
takes-no_put act.TakePage a take e put = subst IsPut (sym e) put
takes-no_put other a take e put = absurd take

works-no_put : (wanted : List (List ℕ)) (a : Action) → works_on wanted ≡ a → IsPut a → ⊥
works-no_put [] a e put = subst IsPut (sym e) put
works-no_put (file ∷ later) a e put = subst IsPut (sym e) put

module _ {L : Type 0} (J : Jobs L) where
  -- who closes puts nothing
  stops-no_put : (buffers : List ℕ) (how : Outcome) (h : List (Entry L)) → IsPut (stops_next buffers how h) → ⊥
  stops-no_put [] how h put = put
  stops-no_put (b ∷ later) how h put =
      let P : Bool → Type 0 = λ t. IsPut (if t then stops_next later how h else act.Stop b) → ⊥ in
      elim (has_stopped b h) as P [ true ↦ stops-no_put later how h | false ↦ (λ none. none) ] put

  closes-no_put : (buffers : List ℕ) (how : Outcome) (h : List (Entry L)) → IsPut (closes buffers how h) → ⊥
  closes-no_put buffers how h put =
      let P : Bool → Type 0 = λ t. IsPut (if t then act.Release else stops_next buffers how h) → ⊥ in
      elim (holds h) as P [ true ↦ (λ none. none) | false ↦ stops-no_put buffers how h ] put

  pub next-put : (p : Process L) (cause : Option Outcome) (h : List (Entry L)) (a : Action) → next_by p cause h ≡ Some a → IsPut a
      → (cause ≡ None) × (aim p h ≡ a)
  next-put p None h a e put = (refl, working-put (newest h) (aim p h) a e put)
  next-put p (Some how) h a e put =
      absurd (closes-no_put p.buffers how h (subst IsPut (sym (closing-next (newest h) (closes p.buffers how h) a e)) put))

  -- ---- and that is due
  pub record IsDue (due : List (Parcel L)) (a : Action) : Type 0 where
    pub first : Parcel L
    pub more : List (Parcel L)
    pub due_is : due ≡ first ∷ more
    pub puts_it : puts first ≡ a

  pub aimed-put : (takes : Action) (wanted : List (List ℕ)) (due : List (Parcel L)) (ended unworked : Bool) (a : Action) → IsTake takes
      → aimed takes wanted due ended unworked ≡ a → IsPut a → IsDue due a
  aimed-put takes wanted [] true false a take e put = absurd (subst IsPut (sym e) put)
  aimed-put takes wanted [] true true a take e put = absurd (works-no_put wanted a e put)
  aimed-put takes wanted [] false true a take e put = absurd (works-no_put wanted a e put)
  aimed-put takes wanted [] false false a take e put = absurd (takes-no_put takes a take e put)
  aimed-put takes wanted (parcel ∷ more) ended unworked a take e put = record { first = parcel; more = more; due_is = refl; puts_it = e }

  pub put-of : (parcel : Parcel L) (r : Reply L) → IsMarked parcel → put_by (puts parcel) r ≡ if_done r parcel
  put-of (OfFeed f) r marked = refl
  put-of (OfPage page last) r marked = ap (λ m. if_done r (OfPage page m)) marked
  put-of (OfLine line) r marked = refl
  put-of (OfLoad load) r marked = absurd marked

  put-none : (a : Action) (r : Reply L) → ((parcel : Parcel L) → if_done r parcel ≡ []) → put_by a r ≡ []
  put-none (act.PutFeed f) r none = none _
  put-none (act.PutPage page) r none = none _
  put-none (act.Print line) r none = none _
  put-none other r none = refl

  put-or_not : (a : Action) (r : Reply L) → IsPut a ⊎ (put_by a r ≡ [])
  put-or_not (act.PutFeed f) r = inl tt
  put-or_not (act.PutPage page) r = inl tt
  put-or_not (act.Print line) r = inl tt
  put-or_not other r = inr refl

  pub all-behind : (part rest : List (Parcel L)) → AllByRecursion IsMarked (part ++ rest) → AllByRecursion IsMarked rest
  all-behind [] rest all = all
  all-behind (x ∷ part) rest all = all-behind part rest all.1

  -- What its work gave so far is a part of its list function, and all of it where there is no work left.
  pub so_far-part : (p : Process L) (h : List (Entry L)) → IsPrefixOf (sent h) (p.sends (taken h)) → IsPrefixOf (so_far p h) (p.sends (taken h))
  so_far-part p h part =
      let P : Bool → Type 0 = λ t. IsPrefixOf (if t then sent h else p.sends (taken h)) (p.sends (taken h)) in
      elim (unworked p h) as P [ true ↦ part | false ↦ part-same (p.sends (taken h)) ]

  pub so_far-whole : (p : Process L) (h : List (Entry L)) → unworked p h ≡ false → so_far p h ≡ p.sends (taken h)
  so_far-whole p h none = rw none refl

  -- what is due is the first that is left
  pub due-rest : (p : Process L) (h : List (Entry L)) (first : Parcel L) (more rest : List (Parcel L)) → IsRelay p → sent h ++ rest ≡ p.sends (taken h)
      → due p h ≡ first ∷ more → (behind : List (Parcel L)) × (rest ≡ first ∷ behind)
  due-rest p h first more rest relay whole is =
      let (extra, e) = so_far-part p h (rest, whole) in (
        more ++ extra,
        sym (drop-part (sent h) rest) ∙ ap (drop (length (sent h))) (whole ∙ sym e)
            ∙ drop-longer (length (sent h)) (so_far p h) extra first more is,
      )

  put-more : (p : Process L) (h : List (Entry L)) (a : Action) → IsRelay p → IsPrefixOf (sent h) (p.sends (taken h)) → IsDue (due p h) a
      → IsPrefixOf (sent h ++ put_by a reply.Done) (p.sends (taken h))
  put-more p h a relay (rest, whole) is =
      let (more, rest-is) = due-rest p h is.first is.more rest relay whole is.due_is in
      let marked = all-behind (sent h) rest (rw whole (relay.marked (taken h))) in
      let first-marked : IsMarked is.first = (rw rest-is at marked).0 in
      let put-is : put_by a reply.Done ≡ is.first ∷ [] = ap (λ a. put_by a reply.Done) (sym is.puts_it) ∙ put-of is.first reply.Done first-marked in
      (more, ap (λ ps. (sent h ++ ps) ++ more) put-is ∙ append_assoc (sent h) (is.first ∷ []) more ∙ ap (λ r. sent h ++ r) (sym rest-is) ∙ whole)

  part-more : (p : Process L) (part all more : List (Parcel L)) → IsRelay p → IsPrefixOf part (p.sends all) → IsPrefixOf part (p.sends (all ++ more))
  part-more p part all more relay (rest, whole) =
      let (new, e) = relay.monotone all more in
      (rest ++ new, sym (append_assoc part rest new) ∙ ap (λ xs. xs ++ new) whole ∙ e)

  same-sent : (p : Process L) (h : List (Entry L)) (a : Action) (r : Reply L) → put_by a r ≡ [] → IsPrefixOf (sent h) (p.sends (taken h ++ taken_by r))
      → IsPrefixOf (sent h ++ put_by a r) (p.sends (taken h ++ taken_by r))
  same-sent p h a r none part = rw (none, append-nil (sent h)) part

  sent-done : (p : Process L) (h : List (Entry L)) (a : Action) → IsRelay p → next_action p h ≡ Some a → IsPrefixOf (sent h) (p.sends (taken h))
      → IsPrefixOf (sent h ++ put_by a reply.Done) (p.sends (taken h))
  sent-done p h a relay next part =
      elim (put-or_not a reply.Done) as (λ _. IsPrefixOf (sent h ++ put_by a reply.Done) (p.sends (taken h))) [
        | inl put ↦ put-more p h a relay part (aimed-put p.takes (p.wants (taken h)) (due p h) (is_ended (taken h)) (unworked p h) a relay.takes
            (next-put p (caused h) h a next put).1 put)
        | inr none ↦ rw (none, append-nil (sent h)) part
      ]

  sent-after : (p : Process L) (h : List (Entry L)) (a : Action) (r : Reply L) → IsRelay p → next_action p h ≡ Some a → IsPrefixOf (sent h) (p.sends (taken h))
      → IsPrefixOf (sent h ++ put_by a r) (p.sends (taken h ++ taken_by r))
  sent-after p h a reply.Done relay next part = rw (append-nil (taken h)) (sent-done p h a relay next part)
  sent-after p h a other relay next part =
      same-sent p h a other (put-none a other (λ parcel. refl)) (part-more p (sent h) (taken h) (taken_by other) relay part)

  -- What a process sent is a part of its list function of what it took.
  pub sent-is-part : (p : Process L) (h : List (Entry L)) → IsRelay p → Follows J p h → IsPrefixOf (sent h) (p.sends (taken h))
  sent-is-part p [] relay follows = (p.sends [], refl)
  sent-is-part p (Does a r ∷ h) relay follows = sent-after p h a r relay follows.0 (sent-is-part p h relay follows.2)
  sent-is-part p (LacksMemory a r ∷ h) relay follows = part-more p (sent h) (taken h) (taken_by r) relay (sent-is-part p h relay follows.2)
  sent-is-part p (Delays a ∷ h) relay follows = sent-is-part p h relay follows.2

  -- ---- one that has a cause only releases, stops and ends
  stops-closed : (buffers : List ℕ) (how : Outcome) (h : List (Entry L)) → IsOpen (stops_next buffers how h) → ⊥
  stops-closed [] how h is = is
  stops-closed (b ∷ later) how h is =
      let P : Bool → Type 0 = λ t. IsOpen (if t then stops_next later how h else act.Stop b) → ⊥ in
      elim (has_stopped b h) as P [ true ↦ stops-closed later how h | false ↦ (λ none. none) ] is

  closes-closed : (buffers : List ℕ) (how : Outcome) (h : List (Entry L)) → IsOpen (closes buffers how h) → ⊥
  closes-closed buffers how h is =
      let P : Bool → Type 0 = λ t. IsOpen (if t then act.Release else stops_next buffers how h) → ⊥ in
      elim (holds h) as P [ true ↦ (λ none. none) | false ↦ stops-closed buffers how h ] is

  open-by : (p : Process L) (cause : Option Outcome) (h : List (Entry L)) (a : Action) → next_by p cause h ≡ Some a → IsOpen a → cause ≡ None
  open-by p None h a e is = refl
  open-by p (Some how) h a e is =
      absurd (closes-closed p.buffers how h (subst IsOpen (sym (closing-next (newest h) (closes p.buffers how h) a e)) is))

  pub open-next : (p : Process L) (h : List (Entry L)) (a : Action) → next_action p h ≡ Some a → IsOpen a → caused h ≡ None
  open-next p h a e is = open-by p (caused h) h a e is

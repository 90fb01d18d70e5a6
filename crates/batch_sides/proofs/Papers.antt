-- What a paper that is printed on once more has become.
use Rattle.std.proofs.Common.{◌≡◌, ◌≤◌, ℕ, true, List, [], ◌∷◌, ◌++◌, Option, None, Some, refl, sym, ◌∙◌, ap, subst, append_assoc, arith}
use Rattle.std.specs.Option.{option_map}
use Rattle.solo_base.specs.Text.{line_text}
use Rattle.solo_devices.specs.Count.{Rose}
use Rattle.solo_devices.specs.PrinterUnit.{Printing}
use Rattle.solo_base.specs.Prefixes.{IsPrefixOf}
use Rattle.batch_procs.specs.declared.actions.Action.{Action}
use Rattle.batch_procs.specs.declared.actions.Action.TheVariants as act
use Rattle.batch_procs.specs.declared.actions.Reply.{Reply}
use Rattle.batch_procs.specs.declared.actions.Reply.TheVariants as reply
use Rattle.batch_procs.specs.Fits.{Fits}
use Rattle.batch_procs.specs.History.{Entry, Does, LacksMemory, Delays}
use Rattle.batch_procs.specs.Causes.{caused, given_cause}
use Rattle.batch_procs.specs.Process.{Process, Follows}
use Rattle.batch_procs.proofs.Closing.{or-none}
use Rattle.batch_procs.proofs.Holding.{some-not_none}
use Rattle.batch_procs.specs.Parts.{some-same, part-same, part-front}
use Rattle.core_law.specs.Core.{Devices, Allows}
use Rattle.batch_ends.specs.Devices.{PrintsLine}
use Rattle.batch_sides.specs.Lines.{PaperRan, text_tried, gained_by, gained_in_all, IsPartOf, ArePartsOf}
use Rattle.batch_sides.proofs.Decks.{new-none, rose-later}
use Rattle.batch_procs.specs.Jobs.{Jobs, AreJobs}

module _ {L : Type 0} {J : Jobs L} (jobs : AreJobs J) where
  -- a print gives a part of its line, and all of it where it gives no cause
  part-printed : (line gained : List ℕ) (h : List (Entry L)) (devices : Devices L) (r : Reply L) → Fits J (act.Print line) r
      → Allows devices (Does (act.Print line) r) gained
      → IsPrefixOf gained (line_text line) × (given_cause (act.Print line) r h ≡ None → gained ≡ line_text line)
  part-printed line gained h devices reply.Done fits allowed = (subst (λ whole. IsPrefixOf gained whole) allowed (part-same gained), λ none. allowed)
  part-printed line gained h devices reply.Failed fits allowed = (allowed, λ none. absurd cc)
  part-printed line gained h devices reply.NoMemory fits allowed = (allowed, λ none. absurd cc)
  part-printed line gained h devices r fits allowed = absurd fits

  done-of : (line : List ℕ) (h : List (Entry L)) (r : Reply L) → Fits J (act.Print line) r → given_cause (act.Print line) r h ≡ None
      → r ≡ reply.Done
  done-of line h reply.Done fits none = refl
  done-of line h reply.Failed fits none = absurd cc
  done-of line h reply.NoMemory fits none = absurd cc
  done-of line h r fits none = absurd fits

  -- while nothing failed the part is of no line
  done-only : (line : List ℕ) (h : List (Entry L)) (r : Reply L) → Fits J (act.Print line) r → given_cause (act.Print line) r h ≡ None → (p q : List ℕ)
      → IsPartOf p (Does (act.Print line) r) × (gained_by p (Does (act.Print line) r) ≡ gained_by q (Does (act.Print line) r))
  done-only line h reply.Done fits none p q = (tt, refl)
  done-only line h reply.Failed fits none p q = absurd cc
  done-only line h reply.NoMemory fits none p q = absurd cc
  done-only line h r fits none p q = absurd fits

  abbrev AnyPart : Action → Reply L → Type 0
  AnyPart a r = (p q : List ℕ) → IsPartOf p (Does a r) × (gained_by p (Does a r) ≡ gained_by q (Does a r))

  free-does : (h : List (Entry L)) (a : Action) (r : Reply L) → Fits J a r → given_cause a r h ≡ None → AnyPart a r
  free-does h (act.Print line) r fits none = done-only line h r fits none
  free-does h act.ReadCard r fits none = λ p q. (tt, refl)
  free-does h (act.Load file) r fits none = λ p q. (tt, refl)
  free-does h (act.PutFeed f) r fits none = λ p q. (tt, refl)
  free-does h act.TakeFeed r fits none = λ p q. (tt, refl)
  free-does h act.AwaitRoom r fits none = λ p q. (tt, refl)
  free-does h act.AwaitItem r fits none = λ p q. (tt, refl)
  free-does h act.Request r fits none = λ p q. (tt, refl)
  free-does h (act.PutPage page) r fits none = λ p q. (tt, refl)
  free-does h act.TakePage r fits none = λ p q. (tt, refl)
  free-does h act.Release r fits none = λ p q. (tt, refl)
  free-does h act.Local r fits none = λ p q. (tt, refl)
  free-does h (act.Stop b) r fits none = λ p q. (tt, refl)
  free-does h (act.Ended how) r fits none = λ p q. (tt, refl)

  any-part : (process : Process L) (h : List (Entry L)) → Follows J process h → caused h ≡ None → (p q : List ℕ)
      → ArePartsOf p h × (gained_in_all p h ≡ gained_in_all q h)
  any-part process [] follows none p q = (tt, refl)
  any-part process (Does a r ∷ h) follows none p q =
      let now = free-does h a r follows.1 (new-none (caused h) (given_cause a r h) none) p q in
      let before = any-part process h follows.2 (or-none (caused h) (given_cause a r h) none) p q in
      ((now.0, before.0), ap (λ front. front ++ gained_by p (Does a r)) before.1 ∙ ap (λ more. gained_in_all q h ++ more) now.1)
  any-part process (LacksMemory a r ∷ h) follows none p q = absurd (some-not_none (caused h) _ none)
  any-part process (Delays a ∷ h) follows none p q =
      (let before = any-part process h follows.2 none p q in ((tt, before.0), ap (λ front. front ++ []) before.1))

  gained-more : (old new : Option (List ℕ)) (before gained more : List ℕ) → old ≡ Some (before ++ gained) → option_map (λ given. given ++ more) old ≡ new
      → new ≡ Some (before ++ (gained ++ more))
  gained-more old new before gained more was after =
      sym after ∙ ap (λ old. option_map (λ given. given ++ more) old) was ∙ ap Some (append_assoc before gained more)

  -- what one print more gave
  gave-more : {K : Type 0} (given : K → Option (List ℕ)) (start old new : K) (process : Process L) (h : List (Entry L)) (line gained : List ℕ) (r : Reply L)
      → Follows J process h → caused h ≡ None → Fits J (act.Print line) r
      → ((devices : Devices L) → Allows devices (Does (act.Print line) r) gained)
      → (part : List ℕ) × ArePartsOf part h × ((before : List ℕ) → given start ≡ Some before → given old ≡ Some (before ++ gained_in_all part h))
      → option_map (λ before. before ++ gained) (given old) ≡ given new
      → (part : List ℕ) × ArePartsOf part (Does (act.Print line) r ∷ h)
      × ((before : List ℕ) → given start ≡ Some before → given new ≡ Some (before ++ gained_in_all part (Does (act.Print line) r ∷ h)))
  gave-more given start old new process h line gained r follows none fits allowed was after =
      let any = any-part process h follows none gained was.0 in
      let own = own-part line gained r fits allowed in (
        gained,
        (own.0, any.0),
        λ before told.
            gained-more (given old) (given new) before (gained_in_all was.0 h) gained (was.2 before told) after
            ∙ ap (λ front. Some (before ++ (front ++ gained))) (sym any.1)
            ∙ ap (λ more. Some (before ++ (gained_in_all gained h ++ more))) own.1,
      ) where
        own-part : (line gained : List ℕ) (r : Reply L) → Fits J (act.Print line) r
            → ((devices : Devices L) → Allows devices (Does (act.Print line) r) gained)
            → IsPartOf gained (Does (act.Print line) r) × (gained ≡ gained_by gained (Does (act.Print line) r))
        own-part line gained reply.Done fits allowed = (tt, allowed (record { deck = None; paper = None; files = None }))
        own-part line gained reply.Failed fits allowed = (allowed (record { deck = None; paper = None; files = None }), refl)
        own-part line gained reply.NoMemory fits allowed = (allowed (record { deck = None; paper = None; files = None }), refl)
        own-part line gained r fits allowed = absurd fits

  module _ {K : Type 0} {given : K → Option (List ℕ)} {faults : K → ℕ} (start old new : Printing K) (h : List (Entry L)) (line : List ℕ)
      (r : Reply L) where
    pub paper-printed : (process : Process L) → Follows J process h → PaperRan given faults start old h → caused h ≡ None
        → PrintsLine J (given old.sink) (given new.sink) line r
        → (r ≡ reply.Failed → Rose (faults old.sink) (faults new.sink)) → faults old.sink ≤ faults new.sink → (r ≡ reply.Done → new.live ≡ true)
        → PaperRan given faults start new (Does (act.Print line) r ∷ h)
    paper-printed process follows ran free print failed counts live =
        let devices : Devices L = record { deck = None; paper = None; files = None } in
        let part = part-printed line print.gained h devices r print.suits (print.allowed devices) in
        record {
          prints = λ before told.
              let (gained, now_is, prefix, all) = ran.prints before told in (
                gained ++ print.gained,
                gained-more (given old.sink) (given new.sink) before gained print.gained now_is print.after,
                subst (λ front. IsPrefixOf (gained ++ print.gained) (front
                    ++ line_text line)) (all free) (part-front gained print.gained (line_text line) part.0),
                (λ none. ap (λ front. front ++ print.gained) (all free)
                    ∙ ap (λ more. text_tried h ++ more) (part.1 (new-none (caused h) (given_cause (act.Print line) r h) none))),
              );
          gave = gave-more given start.sink old.sink new.sink process h line print.gained r follows free print.suits print.allowed ran.gave print.after;
          untold = λ none. sym print.after ∙ ap (option_map (λ before. before ++ print.gained)) (ran.untold none);
          counts = let later = ran.counts in omega (arith, later, counts);
          failed = λ is. rose-later (faults start.sink) (faults old.sink) (faults new.sink) ran.counts (failed (some-same r reply.Failed is));
          live = λ none. live (done-of line h r print.suits (new-none (caused h) (given_cause (act.Print line) r h) none));
        }

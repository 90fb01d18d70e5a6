-- The numbers that a cause of damage tells.
use Rattle.std.proofs.Common.{◌≡◌, ◌≢◌, ◌<◌, ◌↔◌, ℕ, zero, suc, Bool, List, Option, None, Some, refl, sym, subst, arith}
use Rattle.solo_base.specs.PageBytes.{number_at}
use Rattle.solo_base.specs.declared.outcome.Outcome.TheVariants as outcome
use Rattle.solo_base.specs.declared.outcome.Cause.{Cause}
use Rattle.solo_base.specs.declared.outcome.Cause.TheVariants as cause
use Rattle.solo_devices.specs.declared.card_read.CardRead.TheVariants as read
use Rattle.page_codec.specs.Places.{IsWrong, IsLeastWrong, other_number, other_mark, not_zero, too_long, not_full, bad_item, not_blank}
use Rattle.page_codec.specs.Reading.{bad_place, content_or_bad}
use Rattle.page_codec.proofs.Judged.{least_wrong}
use Rattle.batch_procs.specs.declared.actions.Action.{Action}
use Rattle.batch_procs.specs.declared.actions.Action.TheVariants as act
use Rattle.batch_procs.specs.declared.actions.Reply.{Reply}
use Rattle.batch_procs.specs.declared.actions.Reply.TheVariants as reply
use Rattle.batch_procs.specs.Causes.{caused, damage, fault_at, given_cause, place}
use Rattle.batch_procs.specs.Faults.{cause_by}
use Rattle.batch_procs.specs.History.{Entry, Does, LacksMemory, Delays}
use Rattle.batch_procs.specs.Jobs.{Jobs}
use Rattle.batch_procs.proofs.Faulty.{each_cause_is_given}
use Rattle.batch_ends.specs.Ended.{TellsWhere}

fault-same : (c d : Cause) → Some (outcome.Fault c) ≡ Some (outcome.Fault d) → c ≡ d
fault-same c d e = cc

-- ---- the page
module _ (expected : ℕ) (last : Bool) (bytes : List ℕ) where
  first-wrong : (at : ℕ) → IsWrong expected last bytes at → at ≡ 0 → number_at bytes 0 ≢ expected
  first-wrong at (other_number place other) e = other
  first-wrong at (other_mark place other) e = absurd (omega (arith, place, e))
  first-wrong at (not_zero place other) e = absurd (omega (arith, place, e))
  first-wrong at (too_long place long) e = absurd (omega (arith, place, e))
  first-wrong at (not_full place first few) e = absurd (omega (arith, place, e))
  first-wrong at (bad_item bad) e = absurd (let place = bad.place in omega (arith, place, e))
  first-wrong at (not_blank behind within other) e = absurd (omega (arith, behind, e))

  least-first : (at : ℕ) → IsLeastWrong expected last bytes at → number_at bytes 0 ≢ expected → at ≡ 0
  least-first zero least other = refl
  least-first (suc at) least other = absurd (least.least 0 (omega arith) (other_number refl other))

  page-tells : (found : Option ℕ) (c : Cause) → ((at : ℕ) → found ≡ Some at → IsLeastWrong expected last bytes at)
      → damage (content_or_bad expected last bytes found) ≡ Some (outcome.Fault c) → TellsWhere c
  page-tells None c least e = absurd cc
  page-tells (Some at) c least e =
      let wrong = least at refl in
      subst TellsWhere (fault-same (cause.Damaged expected (number_at bytes 0) at) c e) (least-first at wrong, first-wrong at wrong.wrong)

-- ---- the cause
module _ (c : Cause) where
  other-fault : (d : Cause) → TellsWhere d → Some (outcome.Fault d) ≡ Some (outcome.Fault c) → TellsWhere c
  other-fault d tells e = subst TellsWhere (fault-same d c e) tells

  device-fault : (a : Action) → TellsWhere (fault_at a)
  device-fault (act.Print line) = tt
  device-fault other = tt

module _ {L : Type 0} (c : Cause) where
  given-tells : (a : Action) (r : Reply L) (before : List (Entry L)) → given_cause a r before ≡ Some (outcome.Fault c) → TellsWhere c
  given-tells a reply.Done before e = absurd cc
  given-tells a reply.Stopped before e = absurd cc
  given-tells a reply.Failed before e = other-fault c (fault_at a) (device-fault c a) e
  given-tells a reply.NoMemory before e = other-fault c cause.NoMemory tt e
  given-tells a (reply.Card (read.Card line)) before e = absurd cc
  given-tells a (reply.Card read.Spoiled) before e = absurd cc
  given-tells a (reply.Card read.End) before e = absurd cc
  given-tells a (reply.Card read.Failed) before e = other-fault c cause.ReadFault tt e
  given-tells a (reply.Card read.Limit) before e = other-fault c cause.DeckLimit tt e
  given-tells a (reply.Feed f) before e = absurd cc
  given-tells a (reply.Page page last) before e =
      page-tells (place before) last page.0 (bad_place (place before) last page.0) c (least_wrong (place before) last page.0) e
  given-tells a (reply.Loaded load) before e = absurd cc

  entry-tells : (entry : Entry L) (before : List (Entry L)) → cause_by entry before ≡ Some (outcome.Fault c) → TellsWhere c
  entry-tells (Does a r) before e = given-tells a r before e
  entry-tells (LacksMemory a r) before e = other-fault c cause.NoMemory tt e
  entry-tells (Delays a) before e = absurd cc

  pub tells-where : (J : Jobs L) (h : List (Entry L)) → caused h ≡ Some (outcome.Fault c) → TellsWhere c
  tells-where J h e = (let g = each_cause_is_given J h (outcome.Fault c) e in entry-tells g.entry g.before g.gives)

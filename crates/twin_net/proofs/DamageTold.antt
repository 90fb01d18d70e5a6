-- The numbers that a cause of damage tells agree.
use Rattle.std.proofs.Common.{◌≡◌, ◌≢◌, ◌%◌, ◌^◌, inl, inr, ℕ, zero, suc, Bool, List, [], ◌∷◌, Option, None, Some, refl, subst, arith}
use Rattle.solo_base.specs.PageBytes.{number_at}
use Rattle.solo_base.specs.declared.page.Page.{Page}
use Rattle.solo_base.specs.declared.outcome.Outcome.TheVariants as outcome
use Rattle.solo_base.specs.declared.outcome.Cause.{Cause}
use Rattle.solo_base.specs.declared.outcome.Cause.TheVariants as cause
use Rattle.solo_devices.specs.declared.card_read.CardRead.TheVariants as read
use Rattle.page_codec.specs.Places.{IsWrong, IsLeastWrong, other_number, other_mark, not_zero, too_long, not_full, bad_item, not_blank}
use Rattle.page_codec.specs.Reading.{bad_place, content_or_bad}
use Rattle.page_codec.proofs.Judged.{least_wrong}
use Rattle.batch_procs.specs.declared.actions.Reply.TheVariants as reply
use Rattle.batch_procs.specs.Jobs.{Jobs}
use Rattle.batch_ends.specs.Ended.{TellsWhere}
use Rattle.place_law.specs.Process.{Does, LacksMemory, Delays, fault_in}
use Rattle.network_law.specs.Network.{IsOne}
use Rattle.twin_law.specs.Process.{Action, Print, Entry, place, fault_at, caused}
use Rattle.twin_law.specs.Sides.{A}
use Rattle.twin_law.specs.Job.{JobPlace, TakesItems, damage, job}
use Rattle.twin_law.specs.Output.{OutputPlace, TakesLines, output}
use Rattle.twin_law.specs.Table.{process}
use Rattle.twin_law.specs.Twin.{twin}
use Rattle.twin_law.proofs.Lawful.{each-process}
use Rattle.twin_net.proofs.EntryCauses.{same-fault, cause_in, entry-gave}

-- ---- the page
module _ (expected : ℕ) (last : Bool) (bytes : List ℕ) where
  first-wrong : (at : ℕ) → IsWrong expected last bytes at → at ≡ 0 → number_at bytes 0 ≢ expected
  first-wrong at (other_number place other) e = other
  first-wrong at (other_mark place other) e = absurd (omega (arith, place, e))
  first-wrong at (not_zero place other) e = absurd (omega (arith, place, e))
  first-wrong at (too_long place long) e = absurd (omega (arith, place, e))
  first-wrong at (not_full place first few) e = absurd (omega (arith, place, e))
  first-wrong at (bad_item bad) e = absurd (let place = bad.place in omega (arith, place, e))
  first-wrong at (not_blank behind within other) e = absurd (omega (arith, behind, e))

  least-first : (at : ℕ) → IsLeastWrong expected last bytes at → number_at bytes 0 ≢ expected → at ≡ 0
  least-first zero least other = refl
  least-first (suc at) least other = absurd (least.least 0 (omega arith) (other_number refl other))

  page-tells : (found : Option ℕ) (c : Cause) → ((at : ℕ) → found ≡ Some at → IsLeastWrong expected last bytes at)
      → fault_in (damage (content_or_bad expected last bytes found)) ≡ Some (outcome.Fault c) → TellsWhere c
  page-tells None c least e = absurd cc
  page-tells (Some at) c least e =
      let wrong = least at refl in
      subst TellsWhere (same-fault (cause.Damaged expected (number_at bytes 0) at) c e) (least-first at wrong, first-wrong at wrong.wrong)

-- ---- the cause
other-fault : (c d : Cause) → TellsWhere d → Some (outcome.Fault d) ≡ Some (outcome.Fault c) → TellsWhere c
other-fault c d tells e = subst TellsWhere (same-fault d c e) tells

device-fault : (a : Action) → TellsWhere (fault_at a)
device-fault (Print line) = tt
device-fault other = tt

module _ {L : Type 0} (J : Jobs L) where
  abbrev FindsWhere : ℕ → Type 0
  FindsWhere p = (at : (process J p).Place) (page : Page) (last : Bool) (c : Cause)
      → fault_in ((process J p).finds at (reply.Page page last)) ≡ Some (outcome.Fault c) → TellsWhere c

  job-where : (at : JobPlace L) (page : Page) (last : Bool) (c : Cause) → fault_in ((job J A).finds at (reply.Page page last)) ≡ Some (outcome.Fault c)
      → TellsWhere c
  job-where (TakesItems s) page last c e =
      page-tells (s.pages % 2 ^ 16) last page.0 (bad_place (s.pages % 2 ^ 16) last page.0) c (least_wrong (s.pages % 2 ^ 16) last page.0) e
  job-where at page last c e = absurd cc

  output-where : (at : OutputPlace) (page : Page) (last : Bool) (c : Cause)
      → fault_in ((output {L = L}).finds at (reply.Page page last)) ≡ Some (outcome.Fault c) → TellsWhere c
  output-where (TakesLines t) page last c e =
      page-tells (t.pages % 2 ^ 16) last page.0 (bad_place (t.pages % 2 ^ 16) last page.0) c (least_wrong (t.pages % 2 ^ 16) last page.0) e
  output-where at page last c e = absurd cc

  finds-where : (p : ℕ) → IsOne (twin J) p → FindsWhere p
  finds-where p one =
      each-process J FindsWhere p one (λ at page last c e. absurd cc) (λ at page last c e. absurd cc) job-where job-where output-where
      (λ at page last c e. absurd cc)

  module _ (p : ℕ) (one : IsOne (twin J) p) (c : Cause) where
    entry-tells : (entry : Entry L) (h : List (Entry L)) → cause_in (process J p) entry h ≡ Some (outcome.Fault c) → TellsWhere c
    entry-tells (Does a reply.Done) h e = absurd cc
    entry-tells (Does a reply.Stopped) h e = absurd cc
    entry-tells (Does a reply.Failed) h e = other-fault c (fault_at a) (device-fault a) e
    entry-tells (Does a reply.NoMemory) h e = other-fault c cause.NoMemory tt e
    entry-tells (Does a (reply.Card (read.Card line))) h e = absurd cc
    entry-tells (Does a (reply.Card read.Spoiled)) h e = absurd cc
    entry-tells (Does a (reply.Card read.End)) h e = absurd cc
    entry-tells (Does a (reply.Card read.Failed)) h e = other-fault c cause.ReadFault tt e
    entry-tells (Does a (reply.Card read.Limit)) h e = other-fault c cause.DeckLimit tt e
    entry-tells (Does a (reply.Feed f)) h e = absurd cc
    entry-tells (Does a (reply.Page page last)) h e = finds-where p one (place (process J p) h) page last c e
    entry-tells (Does a (reply.Loaded load)) h e = absurd cc
    entry-tells (LacksMemory a r) h e = other-fault c cause.NoMemory tt e
    entry-tells (Delays a) h e = absurd cc

    pub tells-where : (h : List (Entry L)) → caused (process J p) h ≡ Some (outcome.Fault c) → TellsWhere c
    tells-where [] e = absurd cc
    tells-where (entry ∷ h) e =
        elim (entry-gave (process J p) entry h (outcome.Fault c) e) as (λ _. TellsWhere c) [
          | inl had ↦ tells-where h had
          | inr gave ↦ entry-tells entry h gave
        ]

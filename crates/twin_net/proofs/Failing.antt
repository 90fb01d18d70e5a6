-- Which calls can fail, and what the areas of the spools count.
use Rattle.std.proofs.Common.{not, ◌≡◌, ◌≢◌, ◌≤◌, ◌==◌, inl, ℕ, Bool, true, false, if◌then◌else◌, Option, Some, refl, sym, ◌∙◌, ap, subst, arith}
use Rattle.solo_base.specs.declared.outcome.Side.{Side}
use Rattle.solo_devices.specs.Count.{Rose}
use Rattle.solo_devices.specs.declared.card_read.CardRead.{CardRead}
use Rattle.batch_procs.specs.declared.actions.Reply.{Reply}
use Rattle.batch_procs.specs.declared.actions.Reply.TheVariants as reply
use Rattle.batch_procs.specs.Jobs.{Jobs}
use Rattle.network_law.specs.Acts.{Visit, At}
use Rattle.twin_law.specs.Process.{Action, ReadCard, PutPage, TakePage, Load, Print}
use Rattle.twin_law.specs.Twin.{call}
use Rattle.twin_ends.specs.declared.units.TwinUnits.{TwinUnits}
use Rattle.twin_ends.specs.TwinTells.{TwinCounts}
use Rattle.twin_ends.specs.TwinCalls.{ReplySuits}
use Rattle.twin_net.specs.declared.shared.TwinShared.{TwinShared}
use Rattle.twin_net.specs.FourSpools.{of_four}
use Rattle.twin_net.specs.TwinStands.{shared_units}
use Rattle.twin_net.specs.Doing.{is_failure}
use Rattle.twin_net.specs.Causes.{shared_faults, FailureCounted, TwinCauses}

pub same-least : (n : ℕ) → n ≤ n
same-least n = omega arith

pub no-less : (m n : ℕ) → n ≡ m → m ≤ n
no-less m n e = omega (arith, e)

pub same-reply : {L : Type 0} (r s : Reply L) → Some r ≡ Some s → r ≡ s
same-reply r s e = cc

-- ---- the four areas
pub four-on : {A : Type 0} (faults : A → ℕ) (a b c d x y z w : A) → faults a ≤ faults x → faults b ≤ faults y → faults c ≤ faults z → faults d ≤ faults w
    → (n : ℕ) → faults (of_four a b c d n) ≤ faults (of_four x y z w n)
four-on faults a b c d x y z w p q r s n =
    let P : Bool → Bool → Bool → Type 0 = λ t u v. faults (if t then a else if u then b else if v then c else d)
    ≤ faults (if t then x else if u then y else if v then z else w) in
    elim (n == 2) as (λ t. P t (n == 3) (n == 4)) [
      | true ↦ p
      | false ↦ elim (n == 3) as (λ u. P false u (n == 4)) [ true ↦ q | false ↦ elim (n == 4) as (λ v. P false false v) [ true ↦ r | false ↦ s ] ]
    ]

-- ---- which calls can fail
-- a call of no device
abbrev pub NeverFails : Action → Type 0
NeverFails ReadCard = ⊥
NeverFails (PutPage b page) = ⊥
NeverFails (TakePage b) = ⊥
NeverFails (Load file) = ⊥
NeverFails (Print line) = ⊥
NeverFails action = Unit {0}

module _ {L : Type 0} (J : Jobs L) where
  pub unfailing : (action : Action) → NeverFails action → ReplySuits J action (Some reply.Failed) → ⊥
  unfailing ReadCard never suits = never
  unfailing (PutPage b page) never suits = never
  unfailing (TakePage b) never suits = never
  unfailing (Load file) never suits = never
  unfailing (Print line) never suits = never
  unfailing action never suits = suits.0

  not-failed : (action : Action) (result : Option (Reply L)) → NeverFails action → ReplySuits J action result → result ≡ Some reply.Failed → ⊥
  not-failed action result never suits e = unfailing action never (subst (ReplySuits J action) e suits)

  pub no-card : (action : Action) (answer : CardRead) → action ≢ ReadCard → ReplySuits J action (Some (reply.Card answer)) → ⊥
  no-card ReadCard answer not suits = not refl
  no-card action answer not suits = suits.0

  -- what a call counts at one area
  pub record AreaCounts {A : Type 0} (faults : A → ℕ) (old new : A) (result : Option (Reply L)) : Type 0 where
    pub failed : result ≡ Some reply.Failed → Rose (faults old) (faults new)
    pub on : faults old ≤ faults new

  pub page-counts : {A : Type 0} (faults : A → ℕ) (old new : A) (r : Reply L) → (r ≡ reply.Failed → Rose (faults old) (faults new))
      → faults old ≤ faults new → AreaCounts faults old new (Some r)
  page-counts faults old new r failed on = record { failed = λ e. failed (same-reply r reply.Failed e); on = on }

  pub same-counts : {A : Type 0} (faults : A → ℕ) (old new : A) (action : Action) (result : Option (Reply L)) → NeverFails action → new ≡ old
      → ReplySuits J action result → AreaCounts faults old new result
  same-counts faults old new action result never same suits = record {
    failed = λ e. absurd (not-failed action result never suits e);
    on = no-less (faults old) (faults new) (ap faults same);
  }

  -- ---- at all that is shared
  module _ {X S K F A : Type 0} (counts : TwinCounts S K F A) (old new : TwinShared X S K F A) (action : Action) (result : Option (Reply L))
      (suits : ReplySuits J action result) where
    -- no device hears of it
    pub quiet-causes : NeverFails action → shared_units new ≡ shared_units old → new.sound ≡ old.sound → TwinCauses counts old new action result
    quiet-causes never same sound =
        let reads : action ≢ ReadCard = λ e. subst NeverFails e never in
        let on : (count : TwinUnits S K F A → ℕ) → count (shared_units old) ≤ count (shared_units new)
        = λ count. no-less (count (shared_units old)) (count (shared_units new)) (ap count same) in
        record {
          failed = λ e. absurd (not-failed action result never suits e);
          read = λ e. absurd (no-card action _ reads (subst (ReplySuits J action) e suits));
          limit = λ e. absurd (no-card action _ reads (subst (ReplySuits J action) e suits));
          limit_told = λ e. absurd (reads e);
          unsound = λ e. inl (sym sound ∙ e);
          read_on = on (λ u. counts.read_faults u.deck.source);
          print_on = on (λ u. counts.print_faults u.paper.sink);
          files_on = on (λ u. counts.file_faults u.files);
          spools_on = λ b. on (λ u. counts.page_faults (of_four u.to_a u.to_b u.from_a u.from_b b));
          deck_stays = λ not. ap (λ (u : TwinUnits S K F A). u.deck) same;
        }

    pub page-failed : (b : ℕ) (side : Side) (visit : Visit) (p : ℕ) (action : Action) → call p action ≡ At b side visit
        → ReplySuits J action (Some reply.Failed) → Rose (shared_faults counts old b) (shared_faults counts new b) → FailureCounted counts old new action
    page-failed b side visit p (PutPage c page) e fits rose =
        let same : b ≡ c = cc in
        subst (λ c. Rose (shared_faults counts old c) (shared_faults counts new c)) same rose
    page-failed b side visit p (TakePage c) e fits rose =
        let same : b ≡ c = cc in
        subst (λ c. Rose (shared_faults counts old c) (shared_faults counts new c)) same rose
    page-failed b side visit p (Load file) e fits rose = absurd cc
    page-failed b side visit p (Print line) e fits rose = absurd cc
    page-failed b side visit p other e fits rose = absurd fits.0

-- ---- a reply that says no failure
pub no-failure : {L : Type 0} (r : Reply L) (t : Bool) → t ≡ is_failure r → not t ≡ true → r ≡ reply.Failed → ⊥
no-failure r true e no_more same = cc
no-failure r false e no_more same = (let never : is_failure r ≡ true = ap is_failure same in cc)

pub was-failure : {L : Type 0} (r : Reply L) (t : Bool) → t ≡ is_failure r → not t ≡ false → r ≡ reply.Failed
was-failure r true e no_more = failing r (sym e)
  where
    failing : {L : Type 0} (r : Reply L) → is_failure r ≡ true → r ≡ reply.Failed
    failing reply.Failed is = refl
    failing r is = absurd cc
was-failure r false e no_more = absurd cc

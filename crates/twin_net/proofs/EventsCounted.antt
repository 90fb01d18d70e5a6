-- Each event keeps that the faults so far were counted by their devices.
use Rattle.std.proofs.Common.{◌≡◌, ◌≤◌, ◌<◌, ◌⊎◌, inl, inr, ◌+◌, ℕ, ◌==◌, if◌then◌else◌, Bool, false, ◌∷◌, Option, None, Some, refl, sym, ◌∙◌, ap, subst, arith, lit≤}
use Rattle.std.proofs.lemmas.Bool.Decides.{eqb_tells}
use Rattle.solo_base.specs.declared.outcome.Outcome.{Outcome}
use Rattle.solo_base.specs.declared.outcome.Outcome.TheVariants as outcome
use Rattle.solo_base.specs.declared.outcome.Cause.{Cause}
use Rattle.solo_base.specs.declared.outcome.Cause.TheVariants as cause
use Rattle.solo_devices.specs.Count.{raised, Rose}
use Rattle.solo_devices.specs.CardUnit.{Held, byte_limit}
use Rattle.batch_procs.specs.declared.actions.Reply.{Reply}
use Rattle.batch_procs.specs.declared.actions.Reply.TheVariants as reply
use Rattle.batch_procs.specs.Jobs.{Jobs}
use Rattle.batch_procs.specs.JobTold.{JobTold}
use Rattle.place_law.specs.Ending.{outcome_by}
use Rattle.place_law.specs.Process.{action_of}
use Rattle.network_law.specs.Network.{IsOne, IsEnabled, set}
use Rattle.twin_law.specs.Process.{Action, ReadCard, PutPage, TakePage, Load, Print, caused, next_action}
use Rattle.twin_law.specs.Table.{process}
use Rattle.twin_law.specs.Twin.{twin, TwinState, TwinEvent, IsProcess}
use Rattle.twin_law.proofs.Lawful.{each-process}
use Rattle.twin_law.proofs.Open.{made-free, reads-first}
use Rattle.twin_ends.specs.declared.units.TwinUnits.{TwinUnits}
use Rattle.twin_ends.specs.TwinTells.{TwinTells, TwinCounts}
use Rattle.twin_net.specs.declared.net.TwinNet.{TwinNet}
use Rattle.twin_net.specs.declared.shared.TwinShared.{TwinShared}
use Rattle.twin_net.specs.TwinStands.{shared_units}
use Rattle.twin_net.specs.Causes.{shared_faults, FailureCounted, TwinCauses}
use Rattle.twin_net.specs.Counted.{DiskPlace, AtSpool, AtFiles, IsOwnPlace, met_here, met_at, DiskFaultsAreOwn, TwinFaultsAreCounted, outcomes_now, CountedSoFar}
use Rattle.twin_net.specs.Doing.{IsPrint}
use Rattle.twin_net.specs.Ended.{twin_outcome_at}
use Rattle.twin_net.specs.Net.{TwinNetStands}
use Rattle.twin_net.specs.Steps.{twin_reply_of}
use Rattle.twin_net.proofs.OwnPlaces.{place_of, calls-own}
use Rattle.twin_net.proofs.EntryCauses.{fault-of, IsOther, Told, failing, reads-or-not, limit-gives, told-so, behind, event-gave, event-keeps, event-own}

-- ---- counts that rise
rose-then : (a b c : ℕ) → Rose a b → b ≤ c → Rose a c
rose-then a b c rose on = omega (arith, rose, on)

then-rose : (a b c : ℕ) → a ≤ b → Rose b c → Rose a c
then-rose a b c on rose = omega (arith, on, rose)

on-then : (a b c : ℕ) → a ≤ b → b ≤ c → a ≤ c
on-then a b c x y = omega (arith, x, y)

raised-none : (a b : ℕ) → a ≤ b → raised a 0 ≤ b
raised-none a b on = omega (arith, on)

met-more : (before m n k old new : ℕ) → raised before m ≤ old → n ≤ m + k → raised old k ≤ new → raised before n ≤ new
met-more before m n k old new had few rose = omega (arith, had, few, rose)

in-first : (k a b c d : ℕ) → k + b + c + d ≤ (a + b + c + d) + k
in-first k a b c d = omega arith

in-second : (k a b c d : ℕ) → a + k + c + d ≤ (a + b + c + d) + k
in-second k a b c d = omega arith

in-third : (k a b c d : ℕ) → a + b + k + d ≤ (a + b + c + d) + k
in-third k a b c d = omega arith

in-fourth : (k a b c d : ℕ) → a + b + c + k ≤ (a + b + c + d) + k
in-fourth k a b c d = omega arith

in-none : (k n : ℕ) → n ≤ n + k
in-none k n = omega arith

same-place : (a b : DiskPlace) → Some a ≡ Some b → a ≡ b
same-place a b e = cc

module _ {X S K F P : Type 0} (counts : TwinCounts S K F P) (old new : TwinShared X S K F P) where
  -- ---- a failure at a place
  abbrev RoseAt : DiskPlace → Type 0
  RoseAt (AtSpool b) = Rose (shared_faults counts old b) (shared_faults counts new b)
  RoseAt AtFiles = (old.sound ≡ false) ⊎ Rose (counts.file_faults old.files) (counts.file_faults new.files)

  rose-at : (a : Action) (x : DiskPlace) → place_of a ≡ Some x → FailureCounted counts old new a → RoseAt x
  rose-at (PutPage b page) x e rose = subst RoseAt (same-place (AtSpool b) x e) rose
  rose-at (TakePage b) x e rose = subst RoseAt (same-place (AtSpool b) x e) rose
  rose-at (Load file) x e rose = subst RoseAt (same-place AtFiles x e) rose
  rose-at a x e rose = absurd cc

  failed-somewhere : (a : Action) → FailureCounted counts old new a → IsOther a → place_of a ≡ None → ⊥
  failed-somewhere (PutPage b page) rose is e = cc
  failed-somewhere (TakePage b) rose is e = cc
  failed-somewhere (Load file) rose is e = cc
  failed-somewhere (Print line) rose is e = is
  failed-somewhere a rose is e = rose

  rose-here : ((b : ℕ) → shared_faults counts old b ≤ shared_faults counts new b) → (x : DiskPlace) → RoseAt x → (b : ℕ)
      → raised (shared_faults counts old b) (met_here b (Some x)) ≤ shared_faults counts new b
  rose-here on AtFiles rose b = raised-none _ _ (on b)
  rose-here on (AtSpool n) rose b =
      let P : Bool → Type 0 = λ t. raised (shared_faults counts old b) (if t then 1 else 0) ≤ shared_faults counts new b in
      elim (eqb_tells b n) as (λ _. P (b == n)) [
        | inl is ↦ subst P (sym is.0) (subst (λ n. Rose (shared_faults counts old n) (shared_faults counts new n)) (sym is.1) rose)
        | inr not ↦ subst P (sym not.0) (raised-none _ _ (on b))
      ]

-- one more met there at the most
module _ {L : Type 0} (J : Jobs L) (met : ℕ → Option DiskPlace) (x : DiskPlace) (b : ℕ) where
  abbrev OneMore : ℕ → Type 0
  OneMore q = met_at b (set met q (Some x)) ≤ met_at b met + met_here b (Some x)

  one-more : (q : ℕ) → IsOne (twin J) q → OneMore q
  one-more q one =
      each-process J OneMore q one (in-none _ _) (in-first _ _ _ _ _) (in-second _ _ _ _ _) (in-third _ _ _ _ _) (in-fourth _ _ _ _ _) (in-none _ _)

-- ---- one event
module _ {L X S K F P : Type 0} (J : Jobs L) (keeps : X → JobTold L → Type 0) (tells : TwinTells L S K F P) (counts : TwinCounts S K F P)
    (old new : TwinNet X S K F P)
    (s : TwinState L) (event : TwinEvent L) (stood : TwinNetStands J keeps tells old s) (stands : TwinNetStands J keeps tells new (behind J s event))
    (enabled : IsEnabled (twin J) s event)
    (causes : TwinCauses counts old.shared new.shared (action_of event.entry) (twin_reply_of event.entry)) where
  abbrev q : ℕ
  q = event.process

  abbrev made : Action
  made = action_of event.entry

  abbrev told : Option (Reply L)
  told = twin_reply_of event.entry

  abbrev IsBefore : ℕ → Type 0
  IsBefore p = twin_outcome_at (outcomes_now old) p ≡ outcome_by (caused (process J p) (s.histories p))

  is-before : (p : ℕ) → IsProcess p → IsBefore p
  is-before p one =
      each-process J IsBefore p one (ap outcome_by stood.card.cause) (ap outcome_by stood.input.cause) (ap outcome_by stood.job_a.cause)
      (ap outcome_by stood.job_b.cause) (ap outcome_by stood.output.cause) (ap outcome_by stood.printer.cause)

  abbrev IsNow : ℕ → Type 0
  IsNow p = twin_outcome_at (outcomes_now new) p ≡ outcome_by (caused (process J p) ((behind J s event).histories p))

  is-now : (p : ℕ) → IsProcess p → IsNow p
  is-now p one =
      each-process J IsNow p one (ap outcome_by stands.card.cause) (ap outcome_by stands.input.cause) (ap outcome_by stands.job_a.cause)
      (ap outcome_by stands.job_b.cause) (ap outcome_by stands.output.cause) (ap outcome_by stands.printer.cause)

  -- a fault was one before, or the event is its process's own and gave it
  now-or-before : (p : ℕ) → IsProcess p → (c : Cause) → twin_outcome_at (outcomes_now new) p ≡ outcome.Fault c
      → (twin_outcome_at (outcomes_now old) p ≡ outcome.Fault c) ⊎ ((q ≡ p) × Told c made told)
  now-or-before p one c is =
      elim (event-gave J s event p (outcome.Fault c) (fault-of (caused (process J p) ((behind J s event).histories p)) c (sym (is-now p one) ∙ is)))
      as (λ _. (twin_outcome_at (outcomes_now old) p ≡ outcome.Fault c) ⊎ ((q ≡ p) × Told c made told)) [
        | inl had ↦ inl (is-before p one ∙ ap outcome_by had)
        | inr gave ↦ inr (gave.0, told-so J p one event.entry (s.histories p) c gave.1)
      ]

  -- who reads the deck has no cause
  reads-open : made ≡ ReadCard → (q ≡ 1) × (caused (process J 1) (s.histories 1) ≡ None)
  reads-open reads =
      let asked : next_action (process J q) (s.histories q) ≡ Some ReadCard = enabled.next ∙ ap Some reads in
      let first : q ≡ 1 = reads-first J q (s.histories q) enabled.one asked in
      elim (made-free J q (s.histories q) ReadCard enabled.one asked) as (λ _. (q ≡ 1) × (caused (process J 1) (s.histories 1) ≡ None)) [
        | inl around ↦ absurd around
        | inr is ↦ (first, subst (λ p. caused (process J p) (s.histories p) ≡ None) first is.0)
      ]

  deck-same : (how : Outcome) → caused (process J 1) (s.histories 1) ≡ Some how → new.shared.deck ≡ old.shared.deck
  deck-same how is = causes.deck_stays (λ reads. (let none = (reads-open reads).1 in let both = sym none ∙ is in cc))

  module _ (before : TwinUnits S K F P) (so_far : CountedSoFar counts before old) where
    abbrev was : TwinFaultsAreCounted counts before (shared_units old.shared) (outcomes_now old)
    was = so_far.faults

    abbrev FilesRose : Type 0
    FilesRose = Rose (counts.file_faults before.files) (counts.file_faults new.shared.files)

    files-rose : (old.shared.sound ≡ false) ⊎ Rose (counts.file_faults old.shared.files) (counts.file_faults new.shared.files) → FilesRose
    files-rose (inl unsound) = rose-then _ _ _ (so_far.unsound unsound) causes.files_on
    files-rose (inr rose) = then-rose _ _ _ was.files_on rose

    read-counted : twin_outcome_at (outcomes_now new) 1 ≡ outcome.Fault cause.ReadFault
        → Rose (counts.read_faults before.deck.source) (counts.read_faults new.shared.deck.source)
    read-counted is =
        elim (now-or-before 1 (lit≤ tt, lit≤ tt) cause.ReadFault is)
        as (λ _. Rose (counts.read_faults before.deck.source) (counts.read_faults new.shared.deck.source)) [
          | inl had ↦ rose-then _ _ _ (was.read had) causes.read_on
          | inr gave ↦ then-rose _ _ _ was.read_on (causes.read gave.1)
        ]

    limit-counted : twin_outcome_at (outcomes_now new) 1 ≡ outcome.Fault cause.DeckLimit → byte_limit < counts.taken new.shared.deck.source
    limit-counted is =
        elim (now-or-before 1 (lit≤ tt, lit≤ tt) cause.DeckLimit is) as (λ _. byte_limit < counts.taken new.shared.deck.source) [
          | inl had ↦ subst (λ (d : Held S). byte_limit < counts.taken d.source)
              (sym (deck-same (outcome.Fault cause.DeckLimit) (fault-of (caused (process J 1) (s.histories 1)) cause.DeckLimit
              (sym (is-before 1 (lit≤ tt, lit≤ tt)) ∙ had)))) (was.limit had)
          | inr gave ↦ causes.limit gave.1
        ]

    longer : counts.taken before.deck.source ≤ byte_limit → byte_limit < counts.taken new.shared.deck.source
        → twin_outcome_at (outcomes_now new) 1 ≡ outcome.Fault cause.DeckLimit
    longer few over =
        is-now 1 (lit≤ tt, lit≤ tt)
        ∙ ap outcome_by (elim (reads-or-not made) as (λ _. caused (process J 1) ((behind J s event).histories 1) ≡ Some (outcome.Fault cause.DeckLimit)) [
          | inl reads ↦
              let open_now = reads-open reads in
              event-own J s event 1 (outcome.Fault cause.DeckLimit) open_now.0
              (subst (λ n. caused (process J n) (event.entry ∷ s.histories q) ≡ Some (outcome.Fault cause.DeckLimit)) open_now.0
              (limit-gives J (process J q) event.entry (s.histories q) enabled.suits (causes.limit_told reads over)
              (subst (λ n. caused (process J n) (s.histories n) ≡ None) (sym open_now.0) open_now.1)))
          | inr not ↦
              event-keeps J s event 1 (outcome.Fault cause.DeckLimit) (fault-of (caused (process J 1) (s.histories 1)) cause.DeckLimit
              (sym (is-before 1 (lit≤ tt, lit≤ tt))
              ∙ was.longer few (subst (λ (d : Held S). byte_limit < counts.taken d.source) (causes.deck_stays not) over)))
        ])

    print-counted : twin_outcome_at (outcomes_now new) 6 ≡ outcome.Fault cause.PrintFault
        → Rose (counts.print_faults before.paper.sink) (counts.print_faults new.shared.paper.sink)
    print-counted is =
        elim (now-or-before 6 (lit≤ tt, lit≤ tt) cause.PrintFault is)
        as (λ _. Rose (counts.print_faults before.paper.sink) (counts.print_faults new.shared.paper.sink)) [
          | inl had ↦ rose-then _ _ _ (was.print had) causes.print_on
          | inr gave ↦ then-rose _ _ _ was.print_on (printed made gave.1.0 (causes.failed gave.1.1))
        ]
      where
        printed : (a : Action) → IsPrint a → FailureCounted counts old.shared new.shared a
            → Rose (counts.print_faults old.shared.paper.sink) (counts.print_faults new.shared.paper.sink)
        printed (Print line) print rose = rose
        printed a print rose = absurd print

    -- ---- the disk
    abbrev Own : Type 0
    Own = DiskFaultsAreOwn counts before (shared_units new.shared) (outcomes_now new)

    none-met : (Told cause.DiskFault made told → ⊥) → Own
    none-met never = record {
      met = was.disk.met;
      own = λ p one is. elim (now-or-before p one cause.DiskFault is)
          as (λ _. (place : DiskPlace) × (was.disk.met p ≡ Some place) × IsOwnPlace p place) [
            | inl had ↦ was.disk.own p one had
            | inr gave ↦ absurd (never gave.1)
          ];
      spools = λ b is. on-then _ _ _ (was.disk.spools b is) (causes.spools_on b);
      files = λ p is. rose-then _ _ _ (was.disk.files p is) causes.files_on;
    }

    module _ (failed : told ≡ Some reply.Failed) (x : DiskPlace) (there : place_of made ≡ Some x) where
      rose : RoseAt counts old.shared new.shared x
      rose = rose-at counts old.shared new.shared made x there (causes.failed failed)

      own-now : (p : ℕ) → IsProcess p → twin_outcome_at (outcomes_now new) p ≡ outcome.Fault cause.DiskFault
          → (place : DiskPlace) × (set was.disk.met q (Some x) p ≡ Some place) × IsOwnPlace p place
      own-now p one is =
          let G : Bool → Type 0 = λ t. (place : DiskPlace) × ((if t then Some x else was.disk.met p) ≡ Some place) × IsOwnPlace p place in
          elim (eqb_tells p q) as (λ _. G (p == q)) [
            | inl same ↦ subst G (sym same.0)
                (x, refl, subst (λ n. IsOwnPlace n x) (sym same.1) (calls-own J q (s.histories q) made x enabled.one enabled.next there))
            | inr not ↦ subst G (sym not.0) (elim (now-or-before p one cause.DiskFault is)
                as (λ _. (place : DiskPlace) × (was.disk.met p ≡ Some place) × IsOwnPlace p place) [
                  | inl had ↦ was.disk.own p one had
                  | inr gave ↦ absurd (not.1 (sym gave.0))
                ])
          ]

      files-now : (p : ℕ) → set was.disk.met q (Some x) p ≡ Some AtFiles → FilesRose
      files-now p =
          let G : Bool → Type 0 = λ t. (if t then Some x else was.disk.met p) ≡ Some AtFiles → FilesRose in
          elim (eqb_tells p q) as (λ _. G (p == q)) [
            | inl same ↦ subst G (sym same.0) (λ e. files-rose (subst (RoseAt counts old.shared new.shared) (same-place x AtFiles e) rose))
            | inr not ↦ subst G (sym not.0) (λ e. rose-then _ _ _ (was.disk.files p e) causes.files_on)
          ]

      one-met : Own
      one-met = record {
        met = set was.disk.met q (Some x);
        own = own-now;
        spools = λ b is. met-more _ _ _ _ _ _ (was.disk.spools b is) (one-more J was.disk.met x b q enabled.one)
            (rose-here counts old.shared new.shared causes.spools_on x rose b);
        files = files-now;
      }

    own : Own
    own =
        elim (failing told) as (λ _. Own) [
          | inl failed ↦ elim (place_of made) as (λ o. place_of made ≡ o → Own) [
            | None ↦ (λ e. none-met (λ gave. failed-somewhere counts old.shared new.shared made (causes.failed failed) gave.0 e))
            | Some x ↦ (λ e. one-met failed x e)
          ] refl
          | inr not ↦ none-met (λ gave. not gave.1)
        ]

    pub event-counted : CountedSoFar counts before new
    event-counted = record {
      faults = record {
        read = read-counted;
        limit = limit-counted;
        longer = longer;
        disk = own;
        print = print-counted;
        read_on = on-then _ _ _ was.read_on causes.read_on;
        print_on = on-then _ _ _ was.print_on causes.print_on;
        files_on = on-then _ _ _ was.files_on causes.files_on;
        spools_on = λ b. on-then _ _ _ (was.spools_on b) (causes.spools_on b);
      };
      unsound = λ unsound. files-rose (causes.unsound unsound);
    }

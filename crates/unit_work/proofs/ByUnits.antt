-- The jobs of a batch can be worked on unit by unit; no deck has more units than jobs.
use Rattle.std.proofs.Common.{◌≡◌, suc, ◌≤◌, true, List, [], ◌∷◌, ◌++◌, length, length-append, refl, sym, ◌∙◌, ap, subst, arith}
use Rattle.std.specs.Prelude.{flat_map}
use Rattle.std.specs.List.{AllByRecursion}
use Rattle.std.proofs.lemmas.Grind.{flat_map-append}
use Rattle.solo_base.specs.declared.item.Item.{Item}
use Rattle.deck_format.specs.declared.job.Job.{Job}
use Rattle.deck_format.specs.declared.job.Job.TheVariants as job
use Rattle.deck_format.specs.Jobs.{jobs}
use Rattle.deck_units.specs.Units.{units}
use Rattle.deck_units.specs.Laws.{IsUnit}
use Rattle.deck_units.proofs.UnitJobs.{are-units}
use Rattle.batch_job.specs.Report.{Loads, report}
use Rattle.batch_job.specs.OneThread.{one_thread_lines}
use Rattle.batch_procs.specs.Jobs.{one_thread}
use Rattle.deck_work.specs.DeckJobs.{deck_jobs}
use Rattle.deck_work.proofs.OneThread.{one_thread_is}
use Rattle.twin_law.specs.Output.{is_some}
use Rattle.twin_law.specs.UnitWork.{AreByUnits}

-- ---- lists of lists
flat-flat : {A B C : Type 0} (f : A → List B) (g : B → List C) (xs : List A) → flat_map g (flat_map f xs) ≡ flat_map (λ x. flat_map g (f x)) xs
flat-flat f g [] = refl
flat-flat f g (x ∷ xs) = flat_map-append g (f x) (flat_map f xs) ∙ ap (λ more. flat_map g (f x) ++ more) (flat-flat f g xs)

flat-same : {A B : Type 0} (f g : A → List B) → ((x : A) → f x ≡ g x) → (xs : List A) → flat_map f xs ≡ flat_map g xs
flat-same f g same [] = refl
flat-same f g same (x ∷ xs) = ap (λ some. some ++ flat_map f xs) (same x) ∙ ap (λ more. g x ++ more) (flat-same f g same xs)

all-so : {A : Type 0} (Is So : A → Type 0) → ((x : A) → Is x → So x) → (xs : List A) → AllByRecursion Is xs → AllByRecursion So xs
all-so Is So so [] all = tt
all-so Is So so (x ∷ xs) all = (so x all.0, all-so Is So so xs all.1)

some-first : {A : Type 0} (some more : List A) → is_some some ≡ true → is_some (some ++ more) ≡ true
some-first [] more e = absurd cc
some-first (x ∷ some) more e = refl

-- ---- each report has a line
report-some : (found : Loads) (j : Job) → is_some (report found j) ≡ true
report-some found (job.List name cards fault) = refl
report-some found (job.Pascal name limit program input fault) = refl
report-some found (job.Run name file input fault) = refl
report-some found (job.Skipped count) = refl

-- ---- what one thread prints for a unit, and for all of them
unit-some : (found : Loads) (unit : List Item) → IsUnit unit → is_some (one_thread deck_jobs unit found) ≡ true
unit-some found unit is =
    ap is_some (one_thread_is unit found ∙ ap (flat_map (report found)) is.jobs_are)
    ∙ some-first (report found is.job) (flat_map (report found) is.more) (report-some found is.job)

unit-lines : (found : Loads) (items : List Item) → one_thread deck_jobs items found ≡ flat_map (λ unit. one_thread deck_jobs unit found) (units items)
unit-lines found items =
    one_thread_is items found
    ∙ ap (flat_map (report found)) (are-units items).jobs_are
    ∙ flat-flat jobs (report found) (units items)
    ∙ flat-same (λ unit. one_thread_lines found unit) (λ unit. one_thread deck_jobs unit found) (λ unit. sym (one_thread_is unit found)) (units items)

pub by-units : AreByUnits deck_jobs
by-units = record {
  lines_are = λ items found. unit-lines found items;
  some = λ items found.
      all-so IsUnit (λ unit. is_some (one_thread deck_jobs unit found) ≡ true) (unit-some found) (units items) (are-units items).each;
}

-- ---- each unit has a job
few-of : (us : List (List Item)) → AllByRecursion IsUnit us → length us ≤ length (flat_map jobs us)
few-of [] all = omega arith
few-of (unit ∷ us) all =
    let is = all.0 in
    let few = few-of us all.1 in
    let both = length-append (jobs unit) (flat_map jobs us) in
    let one : length (jobs unit) ≡ suc (length is.more) = ap length is.jobs_are in
    omega (arith, few, both, one)

pub few-units : (items : List Item) → length (units items) ≤ length (jobs items)
few-units items = subst (λ all. length (units items) ≤ length all) (sym (are-units items).jobs_are) (few-of (units items) (are-units items).each)

-- What a run of a deck says over mounted files it says of their area; and why files aren't mounted.
use Rattle.std.proofs.Common.{◌≡◌, ◌⊎◌, inl, inr, ◌≤◌, ℕ, List, [], Option, Some, sym, ◌∙◌, ap, subst, arith}
use Rattle.solo_base.specs.Card.{cards}
use Rattle.solo_base.specs.declared.outcome.Cause.TheVariants as cause
use Rattle.solo_devices.specs.Count.{Rose}
use Rattle.solo_devices.specs.CardUnit.{items_ahead}
use Rattle.disk_layout.specs.Format.{IsBad, IsSoloDisk}
use Rattle.disk_files.specs.Answers.{MayRefuseMount, RefusesMount}
use Rattle.disk_files.specs.declared.fault.FileFault.{FileFault}
use Rattle.disk_files.specs.declared.fault.FileFault.TheVariants as files
use Rattle.core_law.specs.Opening.{opened}
use Rattle.net_core.specs.WholeRuns.{RunsToEnd}
use Rattle.deck_work.specs.DeckJobs.{deck_jobs, AreFound, files_found}
use Rattle.network_run.specs.declared.counts.Counts.{Counts}
use Rattle.network_run.specs.declared.rules.Rule.{Rule}
use Rattle.run_report.specs.Told.{AreaTold}
use Rattle.solo_cli.specs.declared.refusal.Refusal.{Refusal}
use Rattle.solo_cli.specs.declared.refusal.Refusal.TheVariants.{Fault}
use Rattle.solo_cli.specs.DeckRan.{RanCore, RanFive}
use Rattle.solo_cli.specs.DeckRuns.{spools_told}
use Rattle.solo_cli.specs.Devices.{DeckKit}
use Rattle.solo_cli.specs.Mounting.{MountsFiles}
use Rattle.solo_cli.specs.Refusals.{mount_cause}

-- The files are mounted: the area tells what it told, and its count didn't fall.
pub record IsMounted {F : Type 0} (before now : AreaTold F) : Type 0 where
  pub left : now.pages ≡ before.pages
  pub size : now.size ≡ before.size
  pub later : before.faults ≤ now.faults
  pub solo : (pages : List (List ℕ)) → before.pages ≡ Some pages → IsSoloDisk pages

pub no-solo : (pages : List (List ℕ)) (n : ℕ) → IsSoloDisk pages → IsBad pages n → ⊥
no-solo pages n solo bad = bad.breaks (solo n)

pub disk-on : {A B : Type 0} (was mid now : ℕ) → was ≤ mid → A ⊎ B ⊎ Rose mid now → A ⊎ B ⊎ Rose was now
disk-on was mid now later (inl rose) = inl rose
disk-on was mid now later (inr (inl rose)) = inr (inl rose)
disk-on was mid now later (inr (inr rose)) = inr (inr (omega (arith, later, rose)))

module _ {S K F I O : Type 0} {before after : DeckKit S K F I O} {files : AreaTold F} (m : IsMounted before.files files) where
  module _ {answer : Option Refusal} where
    abbrev pub on-area : RanFive (record before { files = files }) after answer → RanFive before after answer
    on-area r = record {
      ends = record {
        five = r.ends.five;
        counted = record {
          read = r.ends.counted.read;
          limit = r.ends.counted.limit;
          longer = r.ends.counted.longer;
          input = r.ends.counted.input;
          job = λ is. disk-on before.files.faults files.faults after.files.faults m.later (r.ends.counted.job is);
          output = r.ends.counted.output;
          print = r.ends.counted.print;
        };
      };
      prints = λ bytes found told named spools.
          r.prints bytes found told (subst (λ pages. AreFound (files_found pages) found (cards bytes)) (sym m.left) named)
          record { input = spools.input; output = spools.output };
      all_taken = r.all_taken;
      undamaged = r.undamaged;
      total = r.total;
      print_on = r.print_on;
      left = r.left ∙ m.left;
      size = r.size ∙ m.size;
    }

    abbrev pub core-on : {rule : Rule} {counts : Counts} → RanCore rule (record before { files = files }) after answer counts
        → RanCore rule before after answer counts
    core-on {rule = rule} {counts = counts} r = record {
      ran = on-area r.ran;
      own = λ is. disk-on before.files.faults files.faults after.files.faults m.later (r.own is);
      devices = r.devices;
      runs = subst (λ pages. RunsToEnd deck_jobs rule
          (opened (spools_told before) (items_ahead before.deck.left []) before.paper.given (files_found pages)) counts
          r.ran.ends.five.outcomes r.ran.ends.five.stopped_by r.devices) m.left r.runs;
    }

    pub mounts-files : after.files.pages ≡ before.files.pages → ((page : ℕ) → answer ≡ Some (Fault (cause.NotSolo page)) → ⊥)
        → MountsFiles before after answer
    mounts-files left none = record {
      left = left;
      broken = λ pages told page bad. absurd (no-solo pages page (m.solo pages told) bad);
      not_solo = λ page is. absurd (none page is);
    }

-- ---- the area failed, and this was counted, or memory was refused, or this page is the least that breaks the format
abbrev pub IsWhy : {F : Type 0} → AreaTold F → AreaTold F → Option Refusal → Type 0
IsWhy before after answer =
    ((answer ≡ Some (Fault cause.DiskFault)) × Rose before.faults after.faults)
    ⊎ ((answer ≡ Some (Fault cause.NoMemory)) ⊎ ((page : ℕ) × (answer ≡ Some (Fault (cause.NotSolo page)))
    × ((pages : List (List ℕ)) → before.pages ≡ Some pages → IsBad pages page)))

bad-of : (fault : FileFault) (pages : List (List ℕ)) (page : ℕ) → fault ≡ files.NotSolo page → RefusesMount pages fault → IsBad pages page
bad-of fault pages page is (inl other) = absurd (let no : files.NotSolo page ≡ files.DiskFault = sym is ∙ other in cc)
bad-of fault pages page is (inr (inl other)) = absurd (let no : files.NotSolo page ≡ files.NoMemory = sym is ∙ other in cc)
bad-of fault pages page is (inr (inr (n, other, bad))) =
    let both : files.NotSolo n ≡ files.NotSolo page = sym other ∙ is in
    let same : n ≡ page = cc in
    subst (IsBad pages) same bad

pub why-not : {F : Type 0} (before after : AreaTold F) (fault : FileFault) → MayRefuseMount fault
    → ((pages : List (List ℕ)) → before.pages ≡ Some pages → RefusesMount pages fault)
    → (fault ≡ files.DiskFault → Rose before.faults after.faults) → IsWhy before after (Some (Fault (mount_cause fault)))
why-not before after fault (inl is) judged rose = inl (ap (λ fault. Some (Fault (mount_cause fault))) is, rose is)
why-not before after fault (inr (inl is)) judged rose = inr (inl (ap (λ fault. Some (Fault (mount_cause fault))) is))
why-not before after fault (inr (inr (page, is))) judged rose =
    inr (inr (page, ap (λ fault. Some (Fault (mount_cause fault))) is, λ pages told. bad-of fault pages page is (judged pages told)))

-- What is done with mounted files is done with their area; and where they can't be mounted nothing is done.
use Rattle.std.proofs.Common.{◌≡◌, ◌≢◌, ◌⊎◌, inl, inr, ◌≤◌, ◌<◌, ℕ, List, [], Option, Some, None, refl, sym, ◌∙◌, ap, subst, arith}
use Rattle.std.specs.Prelude.{IfSome, IsSome}
use Rattle.solo_base.specs.declared.outcome.Cause.{Cause}
use Rattle.solo_base.specs.declared.outcome.Cause.TheVariants as cause
use Rattle.solo_devices.specs.Count.{Rose}
use Rattle.solo_devices.specs.CardUnit.{bytes_total, items_ahead}
use Rattle.disk_layout.specs.Format.{IsBad, IsSoloDisk}
use Rattle.network_law.specs.Network.{opening}
use Rattle.network_run.specs.declared.rules.Rule.TheVariants.{Numbered}
use Rattle.batch_ends.specs.Ended.{TellsWhere}
use Rattle.batch_job.specs.Report.{Loads}
use Rattle.deck_work.specs.DeckJobs.{deck_jobs, files_found}
use Rattle.twin_law.specs.Opening.{size_of, told_of}
use Rattle.twin_net.specs.TwinRuns.{TwinRunsToEnd}
use Rattle.run_report.specs.Status.{status_of}
use Rattle.twin_top.specs.Answers.{AreaRose, HasReasons, IsTwinCause, RunsDeck}
use Rattle.twin_top.specs.Kit.{MayRun, TwinKit, four_spools}
use Rattle.twin_top.specs.Mounting.{HasMounted, HasNotMounted, FilesComeFirst, RefusesThem, WhyNotMounted}
use Rattle.twin_top.specs.Runs.{AreGiven, NothingRan, SixRan}

no-solo : (pages : List (List ℕ)) (n : ℕ) → IsSoloDisk pages → IsBad pages n → ⊥
no-solo pages n solo bad = bad.breaks (solo n)

-- the devices with the area that was mounted
abbrev moved : {S K F A : Type 0} → TwinKit S K F A → TwinKit S K F A → TwinKit S K F A
moved before mid = record before { files = mid.files }

area-on : {S K F A : Type 0} (before mid after : TwinKit S K F A) → before.files.faults ≤ mid.files.faults → AreaRose (moved before mid) after
    → AreaRose before after
area-on before mid after later (inl rose) = inl (omega (arith, later, rose))
area-on before mid after later (inr rose) = inr rose

given-so : {S K F A : Type 0} (before mid : TwinKit S K F A) (bytes : List ℕ) (found : Loads) → mid.files.pages ≡ before.files.pages
    → AreGiven before bytes found → AreGiven (moved before mid) bytes found
given-so before mid bytes found left given = record {
  deck = given.deck;
  files = subst (λ pages. files_found pages ≡ Some found) (sym left) given.files;
  spools = record {
    input_a = given.spools.input_a;
    input_b = given.spools.input_b;
    output_a = given.spools.output_a;
    output_b = given.spools.output_b;
  };
}

module _ {S K F A : Type 0} {before mid : TwinKit S K F A} (m : HasMounted before mid) where
  pub mounted-ready : MayRun before → MayRun mid
  mounted-ready ready = subst MayRun (sym m.stays) record {
    deck = ready.deck;
    files = m.size ∙ ready.files;
    input_a = ready.input_a;
    input_b = ready.input_b;
    output_a = ready.output_a;
    output_b = ready.output_b;
  }

module _ {S K F A : Type 0} {before mid after : TwinKit S K F A} {answer : Option Cause} (m : HasMounted before mid) where
  of-ran : (n : ℕ) → SixRan n (moved before mid) after answer → SixRan n before after answer
  of-ran n ran = record {
    outcomes = ran.outcomes;
    stopped_by = ran.stopped_by;
    counts = ran.counts;
    devices = ran.devices;
    runs = subst (λ pages. TwinRunsToEnd deck_jobs (Numbered n)
        (opening record { deck = items_ahead before.deck.left []; paper = before.paper.given; files = files_found pages }
        (size_of (four_spools before)) (told_of (four_spools before))) ran.counts ran.outcomes ran.stopped_by ran.devices) m.left ran.runs;
    faults = ran.faults;
    lowest = ran.lowest;
    unprinted = ran.unprinted;
    printed = ran.printed;
    done = λ bytes found given. ran.done bytes found (given-so before mid bytes found m.left given);
    reports = λ bytes found given. ran.reports bytes found (given-so before mid bytes found m.left given);
    prints = λ bytes found given. ran.prints bytes found (given-so before mid bytes found m.left given);
    reads = ran.reads;
    empties = λ bytes found given. ran.empties bytes found (given-so before mid bytes found m.left given);
  }

  of-reasons : HasReasons (moved before mid) after answer → HasReasons before after answer
  of-reasons r = record {
    known = r.known;
    read = r.read;
    disk = λ is. area-on before mid after m.later (r.disk is);
    print = r.print;
    limit = r.limit;
    beyond = r.beyond;
    undamaged = λ told. r.undamaged record {
      input_a = told.input_a;
      input_b = told.input_b;
      output_a = told.output_a;
      output_b = told.output_b;
    };
    numbers = r.numbers;
    total = r.total;
    pages = r.pages ∙ m.left;
    size = r.size ∙ m.size;
  }

  pub mounted-runs : (n : ℕ) → SixRan n mid after answer → HasReasons mid after answer → ((page : ℕ) → answer ≡ Some (cause.NotSolo page) → ⊥)
      → RunsDeck n before after answer
  mounted-runs n ran reasons never = record {
    runs = inl (of-ran n (subst (λ told. SixRan n told after answer) m.stays ran));
    mounts = record {
      broken = λ pages told page bad. absurd (no-solo pages page (m.solo pages told) bad);
      not_solo = λ page is. absurd (never page is);
    };
    reasons = of-reasons (subst (λ told. HasReasons told after answer) m.stays reasons);
  }

-- ---- what a mount is refused for
abbrev MountCause : Cause → Type 0
MountCause why = (why ≡ cause.DiskFault) ⊎ ((why ≡ cause.NoMemory) ⊎ ((page : ℕ) × (why ≡ cause.NotSolo page)))

mount-numbers : (why : Cause) → MountCause why → TellsWhere why
mount-numbers why (inl is) = subst TellsWhere (sym is) tt
mount-numbers why (inr (inl is)) = subst TellsWhere (sym is) tt
mount-numbers why (inr (inr (page, is))) = subst TellsWhere (sym is) tt

mount-known : (why : Cause) → MountCause why → IsTwinCause why
mount-known why (inl is) = subst IsTwinCause (sym is) tt
mount-known why (inr (inl is)) = subst IsTwinCause (sym is) tt
mount-known why (inr (inr (page, is))) = subst IsTwinCause (sym is) tt

module _ {S K F A : Type 0} {before after : TwinKit S K F A} {answer : Option Cause} (u : HasNotMounted before after answer) where
  some-cause : WhyNotMounted before.files after.files answer → (why : Cause) × (answer ≡ Some why) × MountCause why
  some-cause (inl is) = (cause.DiskFault, is.0, inl refl)
  some-cause (inr (inl is)) = (cause.NoMemory, is, inr (inl refl))
  some-cause (inr (inr (page, is, bad))) = (cause.NotSolo page, is, inr (inr (page, refl)))

  other-than : (c : Cause) → (MountCause c → ⊥) → answer ≡ Some c → ⊥
  other-than c other is =
      let some = some-cause u.why in
      let both : Some some.0 ≡ Some c = sym some.1 ∙ is in
      let same : some.0 ≡ c = cc in
      other (subst MountCause same some.2)

  nothing-ran : NothingRan before after
  nothing-ran = record {
    deck = ap (λ (t : TwinKit S K F A). t.deck) u.stays;
    paper = ap (λ (t : TwinKit S K F A). t.paper) u.stays;
    input_a = ap (λ (t : TwinKit S K F A). t.input_a) u.stays;
    input_b = ap (λ (t : TwinKit S K F A). t.input_b) u.stays;
    output_a = ap (λ (t : TwinKit S K F A). t.output_a) u.stays;
    output_b = ap (λ (t : TwinKit S K F A). t.output_b) u.stays;
  }

  refuses : (pages : List (List ℕ)) → before.files.pages ≡ Some pages → WhyNotMounted before.files after.files answer
      → RefusesThem before.files after.files pages answer
  refuses pages told (inl is) = inr (inl is)
  refuses pages told (inr (inl is)) = inr (inr is)
  refuses pages told (inr (inr (page, is, bad))) = inl (page, is, bad pages told)

  named : (page : ℕ) → answer ≡ Some (cause.NotSolo page) → WhyNotMounted before.files after.files answer
      → (pages : List (List ℕ)) → before.files.pages ≡ Some pages → IsBad pages page
  named page at (inl is) = absurd (let no : Some cause.DiskFault ≡ Some (cause.NotSolo page) = sym is.0 ∙ at in cc)
  named page at (inr (inl is)) = absurd (let no : Some cause.NoMemory ≡ Some (cause.NotSolo page) = sym is ∙ at in cc)
  named page at (inr (inr (n, is, bad))) = λ pages told.
      let both : Some (cause.NotSolo n) ≡ Some (cause.NotSolo page) = sym is ∙ at in
      let same : n ≡ page = cc in
      subst (IsBad pages) same (bad pages told)

  disk-rose : answer ≡ Some cause.DiskFault → WhyNotMounted before.files after.files answer → Rose before.files.faults after.files.faults
  disk-rose at (inl is) = is.1
  disk-rose at (inr (inl is)) = absurd (let no : Some cause.NoMemory ≡ Some cause.DiskFault = sym is ∙ at in cc)
  disk-rose at (inr (inr (n, is, bad))) = absurd (let no : Some (cause.NotSolo n) ≡ Some cause.DiskFault = sym is ∙ at in cc)

  not-eight : WhyNotMounted before.files after.files answer → status_of answer ≢ 8
  not-eight (inl is) eight = (let three : status_of answer ≡ 3 = ap status_of is.0 in omega (arith, three, eight))
  not-eight (inr (inl is)) eight = (let nine : status_of answer ≡ 9 = ap status_of is in omega (arith, nine, eight))
  not-eight (inr (inr (n, is, bad))) eight = (let seven : status_of answer ≡ 7 = ap status_of is in omega (arith, seven, eight))

  is-some : IsSome answer
  is-some = (let some = some-cause u.why in subst IsSome (sym some.1) refl)

  pub not-mounted-runs : (n : ℕ) → MayRun before → RunsDeck n before after answer
  not-mounted-runs n ready = record {
    runs = inr (nothing-ran, is-some);
    mounts = record {
      broken = λ pages told page bad. (refuses pages told u.why, nothing-ran);
      not_solo = λ page is. (named page is u.why, nothing-ran);
    };
    reasons = record {
      known = (let some = some-cause u.why in subst (λ answer. IfSome answer IsTwinCause) (sym some.1) (mount-known some.0 some.2));
      read = λ is. absurd (other-than cause.ReadFault no-read is);
      disk = λ is. inl (disk-rose is u.why);
      print = λ is. absurd (other-than cause.PrintFault no-print is);
      limit = λ is. absurd (other-than cause.DeckLimit no-limit is);
      beyond = λ more. absurd (let none : after.deck.taken ≡ 0 = ap (λ (t : TwinKit S K F A). t.deck.taken) u.stays ∙ ready.deck in omega (arith, none, more));
      undamaged = λ told. not-eight u.why;
      numbers = (let some = some-cause u.why in subst (λ answer. IfSome answer TellsWhere) (sym some.1) (mount-numbers some.0 some.2));
      total = ap (λ (t : TwinKit S K F A). bytes_total t.deck.taken t.deck.left) u.stays;
      pages = u.left;
      size = u.size;
    };
  } where
    no-read : MountCause cause.ReadFault → ⊥
    no-read (inl is) = cc
    no-read (inr (inl is)) = cc
    no-read (inr (inr (n, is))) = cc

    no-print : MountCause cause.PrintFault → ⊥
    no-print (inl is) = cc
    no-print (inr (inl is)) = cc
    no-print (inr (inr (n, is))) = cc

    no-limit : MountCause cause.DeckLimit → ⊥
    no-limit (inl is) = cc
    no-limit (inr (inl is)) = cc
    no-limit (inr (inr (n, is))) = cc

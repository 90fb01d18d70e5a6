-- Where nothing is begun: the files can't be mounted, or memory was refused.
use Rattle.std.proofs.Common.{◌≡◌, inl, inr, ℕ, Bool, true, false, List, [], ◌∷◌, Option, Some, None, refl, sym, ◌∙◌, ap, subst, arith}
use Rattle.std.specs.Prelude.{IfSome}
use Rattle.solo_base.specs.Card.{cards}
use Rattle.solo_base.specs.Text.{text}
use Rattle.solo_base.specs.declared.outcome.Cause.TheVariants as cause
use Rattle.solo_devices.specs.Count.{Rose}
use Rattle.solo_devices.specs.CardUnit.{bytes_total}
use Rattle.solo_devices.specs.PrinterUnit.{Gains}
use Rattle.disk_layout.specs.Format.{IsBad}
use Rattle.disk_files.specs.Answers.{MayRefuseMount, RefusesMount}
use Rattle.disk_files.specs.declared.fault.FileFault.{FileFault}
use Rattle.disk_files.specs.declared.fault.FileFault.TheVariants.{DiskFault}
use Rattle.batch_job.specs.OneThread.{one_thread_output}
use Rattle.core_law.specs.Holds.{AreTold}
use Rattle.core_law.specs.Opening.{AreInBounds}
use Rattle.deck_work.specs.DeckJobs.{files_found}
use Rattle.deck_work.specs.DeckLaws.{found_are_loads}
use Rattle.made_deck.specs.MadeDeck.{made_deck}
use Rattle.network_run.specs.declared.rules.Rule.TheVariants.{Numbered}
use Rattle.run_report.specs.Told.{AreaTold}
use Rattle.run_report.proofs.Adding.{nothing}
use Rattle.solo_cli.specs.declared.refusal.Refusal.{Refusal}
use Rattle.solo_cli.specs.declared.refusal.Refusal.TheVariants.{Fault}
use Rattle.solo_cli.specs.Causes.{EndsBy, make_statuses, run_statuses}
use Rattle.solo_cli.specs.DeckRan.{DeckReasons, RanDeck}
use Rattle.solo_cli.specs.DeckRuns.{RunsBatch, RunsCore, SpoolsTell, core_over, spools_told}
use Rattle.solo_cli.specs.Devices.{DeckKit}
use Rattle.solo_cli.specs.FileCommands.{RefusesFiles}
use Rattle.solo_cli.specs.MakesDeck.{GainsNumbers, MakesDeck}
use Rattle.solo_cli.specs.Refusals.{mount_cause}
use Rattle.solo_cli.specs.Mounting.{MountsFiles, Untouched}
use Rattle.solo_cli.specs.Ready.{MayRunDeck}
use Rattle.solo_cli.specs.Reading.{ReadsToEnd}
use Rattle.solo_cli.specs.Uses.{UnlessUsed}
use Rattle.solo_cli.proofs.Mounted.{IsWhy, why-not}
use Rattle.solo_cli.proofs.NoFiles.{no-files}
use Rattle.solo_cli.proofs.Tables.{never, tells-place, whole, wider}
use Rattle.solo_cli.proofs.Uncounted.{no-numbers, uncounted}

-- spools that may be given to a command, and that tell
pub in-bounds : {S K F I O : Type 0} {told : DeckKit S K F I O} → MayRunDeck told → AreInBounds (spools_told told)
in-bounds ready = record {
  input_some = (let some = ready.input.0 in omega (arith, some));
  input_most = ready.input.1;
  output_some = (let some = ready.output.0 in omega (arith, some));
  output_most = ready.output.1;
}

pub both-tell : {S K F I O : Type 0} {told : DeckKit S K F I O} → SpoolsTell told → AreTold (spools_told told)
both-tell spools = record { input = spools.input; output = spools.output }

unless : (used : Bool) {Holds : Type 0} → Holds → UnlessUsed used Holds
unless true holds = tt
unless false holds = holds

-- what a mount is refused for
abbrev pub mount_statuses : List ℕ
mount_statuses = 3 ∷ 7 ∷ 9 ∷ []

-- ---- why nothing is begun
module _ {F : Type 0} (before after : AreaTold F) {answer : Option Refusal} where
  pub known-why : IsWhy before after answer → IfSome answer (EndsBy mount_statuses)
  known-why (inl is) = subst (λ answer. IfSome answer (EndsBy mount_statuses)) (sym is.0) refl
  known-why (inr (inl is)) = subst (λ answer. IfSome answer (EndsBy mount_statuses)) (sym is) refl
  known-why (inr (inr (page, is, bad))) = subst (λ answer. IfSome answer (EndsBy mount_statuses)) (sym is) refl

  pub some-why : IsWhy before after answer → answer ≡ None → ⊥
  some-why (inl is) none = (let no : Some (Fault cause.DiskFault) ≡ None = sym is.0 ∙ none in cc)
  some-why (inr (inl is)) none = (let no : Some (Fault cause.NoMemory) ≡ None = sym is ∙ none in cc)
  some-why (inr (inr (page, is, bad))) none = (let no : Some (Fault (cause.NotSolo page)) ≡ None = sym is ∙ none in cc)

  pub disk-rose : IsWhy before after answer → answer ≡ Some (Fault cause.DiskFault) → Rose before.faults after.faults
  disk-rose (inl is) at = is.1
  disk-rose (inr (inl is)) at = absurd (let no : Some (Fault cause.NoMemory) ≡ Some (Fault cause.DiskFault) = sym is ∙ at in cc)
  disk-rose (inr (inr (n, is, bad))) at = absurd (let no : Some (Fault (cause.NotSolo n)) ≡ Some (Fault cause.DiskFault) = sym is ∙ at in cc)

  pub refuses : (pages : List (List ℕ)) → before.pages ≡ Some pages → IsWhy before after answer
      → RefusesFiles pages before.faults after.faults answer
  refuses pages told (inl is) = inr (inl is)
  refuses pages told (inr (inl is)) = inr (inr is)
  refuses pages told (inr (inr (page, is, bad))) = inl (page, is, bad pages told)

  pub named : (page : ℕ) → answer ≡ Some (Fault (cause.NotSolo page)) → IsWhy before after answer
      → (pages : List (List ℕ)) → before.pages ≡ Some pages → IsBad pages page
  named page at (inl is) = absurd (let no : Some (Fault cause.DiskFault) ≡ Some (Fault (cause.NotSolo page)) = sym is.0 ∙ at in cc)
  named page at (inr (inl is)) = absurd (let no : Some (Fault cause.NoMemory) ≡ Some (Fault (cause.NotSolo page)) = sym is ∙ at in cc)
  named page at (inr (inr (n, is, bad))) = λ pages told.
      let both : Some (Fault (cause.NotSolo n)) ≡ Some (Fault (cause.NotSolo page)) = sym is ∙ at in
      let same : n ≡ page = cc in
      subst (IsBad pages) same (bad pages told)

-- Nothing was begun.
pub record IsUnbegun {S K F I O : Type 0} (before after : DeckKit S K F I O) (answer : Option Refusal) : Type 0 where
  pub untouched : Untouched before after
  pub left : after.files.pages ≡ before.files.pages
  pub size : after.files.size ≡ before.files.size
  pub why : IsWhy before.files after.files answer

-- the files couldn't be mounted, and all else is as it came
pub not-mounted : {S K F I O : Type 0} {before : DeckKit S K F I O} {files : AreaTold F} {cause : Refusal} (fault : FileFault)
    → cause ≡ Fault (mount_cause fault) → MayRefuseMount fault → ((pages : List (List ℕ)) → before.files.pages ≡ Some pages → RefusesMount pages fault)
    → files.pages ≡ before.files.pages → files.size ≡ before.files.size → (fault ≡ DiskFault → Rose before.files.faults files.faults)
    → IsUnbegun before (record before { files = files }) (Some cause)
not-mounted {before = before} {files = files} fault is may judged left size rose = record {
  untouched = record { deck = refl; paper = refl; input = refl; output = refl };
  left = left;
  size = size;
  why = subst (λ cause. IsWhy before.files files (Some cause)) (sym is) (why-not before.files files fault may judged rose);
}

module _ {S K F I O : Type 0} {before after : DeckKit S K F I O} {answer : Option Refusal} (u : IsUnbegun before after answer) where
  refused : answer ≡ None → ⊥
  refused = some-why before.files after.files u.why

  nothing-gained : (lines : List ℕ) → Gains before.paper.given after.paper.given lines (answer ≡ None)
  nothing-gained lines =
      subst (λ now. Gains before.paper.given now lines (answer ≡ None)) (sym (ap (λ t. t.given) u.untouched.paper))
      (nothing before.paper.given lines (answer ≡ None) refused)

  reads : ReadsToEnd before.deck after.deck (answer ≡ None)
  reads = record { emptied = λ bytes told none. absurd (refused none); longer = λ bytes told more none. refused none }

  mounts : MountsFiles before after answer
  mounts = record {
    left = u.left;
    broken = λ pages told page bad. (refuses before.files after.files pages told u.why, u.untouched);
    not_solo = λ page is. (named before.files after.files page is u.why, u.untouched);
  }

  known : IfSome answer (EndsBy mount_statuses)
  known = known-why before.files after.files u.why

  reasons : (deck : Bool) (all : List ℕ) → IfSome answer (EndsBy all) → MayRunDeck before → DeckReasons deck all before after answer
  reasons deck all may ready = record {
    known = may;
    read = λ is. absurd (never mount_statuses answer known cause.ReadFault refl is);
    disk = λ is. inr (inr (disk-rose before.files after.files u.why is));
    print = λ is. absurd (never mount_statuses answer known cause.PrintFault refl is);
    limit = λ is. absurd (never mount_statuses answer known cause.DeckLimit refl is);
    beyond = λ more. absurd (let none : after.deck.taken ≡ 0 = ap (λ t. t.taken) u.untouched.deck ∙ ready.deck in omega (arith, none, more));
    undamaged = λ input output. whole mount_statuses answer refl known;
    numbers = tells-place mount_statuses answer refl known;
    total = ap (λ t. bytes_total t.taken t.left) u.untouched.deck;
    unread = unless deck u.untouched.deck;
    size = u.size;
  }

  -- ---- each command
  pub unbegun-batch : MayRunDeck before → RanDeck RunsBatch true (7 ∷ run_statuses) before after answer
  unbegun-batch ready = record {
    runs = record {
      prints = λ bytes found told files spools. nothing-gained (text (one_thread_output found bytes));
      reads = reads;
      ends = inr u.untouched;
    };
    mounts = mounts;
    reasons = reasons true (7 ∷ run_statuses) (wider mount_statuses (7 ∷ run_statuses) answer refl known) ready;
  }

  pub unbegun-core : (n : ℕ) → MayRunDeck before → RanDeck (RunsCore n) true (7 ∷ run_statuses) before after answer
  unbegun-core n ready = record {
    runs = record {
      prints = λ bytes found told files spools.
          uncounted (Numbered n) (spools_told before) (files_found before.files.pages) found bytes before.paper.given after.paper.given (answer ≡ None)
          (found_are_loads before.files.pages) files (in-bounds ready) (both-tell spools) refused (nothing-gained (text (one_thread_output found bytes)));
      reads = reads;
      ends = inr u.untouched;
    };
    mounts = mounts;
    reasons = reasons true (7 ∷ run_statuses) (wider mount_statuses (7 ∷ run_statuses) answer refl known) ready;
  }

  pub unbegun-make : (n : ℕ) → MayRunDeck before → RanDeck (MakesDeck n) false (7 ∷ make_statuses) before after answer
  unbegun-make n ready = record {
    runs = record {
      prints = λ spools.
          subst (λ now. GainsNumbers (Numbered n) (core_over before (Some (cards (made_deck n))) (Some [])) (made_deck n) before.paper.given now
          (answer ≡ None)) (sym (ap (λ t. t.given) u.untouched.paper))
          (no-numbers (Numbered n) (spools_told before) (files_found before.files.pages) (made_deck n) before.paper.given (answer ≡ None)
          (found_are_loads before.files.pages) (no-files n) (in-bounds ready) (both-tell spools) refused);
      unprinted = λ _. u.untouched.paper;
      ends = inr u.untouched;
    };
    mounts = mounts;
    reasons = reasons false (7 ∷ make_statuses) (wider mount_statuses (7 ∷ make_statuses) answer refl known) ready;
  }

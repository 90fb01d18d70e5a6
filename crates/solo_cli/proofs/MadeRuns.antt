-- What a run in memory and the printing of its numbers come to.
use Rattle.std.proofs.Common.{◌≡◌, ◌⊎◌, inl, inr, ◌≤◌, ◌<◌, ℕ, false, true, List, [], ◌∷◌, length, ◌+◌, Option, Some, None, refl, sym, ◌∙◌, ap, subst, arith}
use Rattle.std.specs.Prelude.{IfSome}
use Rattle.solo_base.specs.Card.{cards}
use Rattle.solo_base.specs.Text.{text}
use Rattle.solo_base.specs.declared.outcome.Cause.{Cause}
use Rattle.solo_base.specs.declared.outcome.Cause.TheVariants as cause
use Rattle.solo_base.specs.declared.outcome.Cause.TheVariants.{PrintFault}
use Rattle.solo_base.specs.declared.outcome.Outcome.TheVariants as outcome
use Rattle.solo_devices.specs.Count.{Rose}
use Rattle.solo_devices.specs.CardUnit.{byte_limit, bytes_total, items_ahead}
use Rattle.batch_ends.specs.declared.ends.Outcomes.{Outcomes}
use Rattle.batch_ends.specs.Ended.{FaultsAre}
use Rattle.batch_job.specs.OneThread.{one_thread_output}
use Rattle.batch_job.specs.Report.{Loads, no_files}
use Rattle.deck_work.specs.DeckJobs.{deck_jobs, files_found}
use Rattle.deck_work.specs.DeckLaws.{found_are_loads}
use Rattle.made_deck.specs.MadeDeck.{made_deck}
use Rattle.net_core.specs.WholeRuns.{RunsToEnd}
use Rattle.network_run.specs.declared.counts.Counts.{Counts}
use Rattle.network_run.specs.declared.rules.Rule.TheVariants.{Numbered}
use Rattle.page_codec.proofs.CardItems.{card-items}
use Rattle.run_report.specs.Told.{AreaTold, SinkTold, SourceTold}
use Rattle.solo_cli.specs.declared.refusal.Refusal.{Refusal}
use Rattle.solo_cli.specs.declared.refusal.Refusal.TheVariants.{Fault, NoRoom}
use Rattle.solo_cli.specs.Causes.{EndsBy, is_listed, make_statuses, print_statuses, run_statuses}
use Rattle.solo_cli.specs.DeckNumbers.{deck_lines}
use Rattle.solo_cli.specs.DeckRan.{RanCore, RanDeck}
use Rattle.solo_cli.specs.DeckRuns.{SpoolsTell, core_over, spools_told}
use Rattle.solo_cli.specs.Decides.{LineBehind}
use Rattle.solo_cli.specs.Devices.{DeckKit}
use Rattle.solo_cli.specs.MakesDeck.{AreasCounted, MakesDeck}
use Rattle.solo_cli.specs.Printing.{PrintsBytes}
use Rattle.solo_cli.specs.Ready.{MayRunDeck}
use Rattle.solo_cli.specs.Status.{status_of}
use Rattle.solo_cli.proofs.Counted.{counted-whole}
use Rattle.solo_cli.proofs.DeckAnswers.{deck-known, deck-reasons, later-line}
use Rattle.solo_cli.proofs.LowestCause.{comes-behind, met}
use Rattle.solo_cli.proofs.Mounted.{IsMounted, mounts-files}
use Rattle.solo_cli.proofs.NoFiles.{no-files}
use Rattle.solo_cli.proofs.Tables.{never, tells-place, whole, wider}
use Rattle.solo_cli.proofs.Uncounted.{no-numbers}
use Rattle.solo_cli.proofs.Unmounted.{both-tell, in-bounds}

-- a count that is always 0 never rose
pub never-rose : Rose 0 0 → ⊥
never-rose rose = omega (arith, rose)

-- no more is taken than there is
pub within-limit : (taken place : ℕ) (left before bytes : List ℕ) → bytes_total taken (Some left) ≡ bytes_total place (Some before)
    → place ≡ 0 → Some before ≡ Some bytes → length bytes ≤ byte_limit → byte_limit < taken → ⊥
within-limit taken place left before bytes total zero is few more =
    let all : taken + length left ≡ place + length before = same total in
    let long : length before ≡ length bytes = ap length (same is) in
    omega (arith, all, zero, long, few, more)
  where
    same : {A : Type 0} {a b : A} → Some a ≡ Some b → a ≡ b
    same e = cc

-- a line that isn't printed ends with neither
not-printed : (n : ℕ) → is_listed print_statuses n ≡ false → (answer : Option Refusal) → (n ≡ 0 → ⊥) → IfSome answer (EndsBy print_statuses)
    → status_of answer ≡ n → ⊥
not-printed n out None some known is = some (sym is)
not-printed n out (Some why) some known is =
    let no : true ≡ false = sym (subst (λ n. is_listed print_statuses n ≡ true) is known) ∙ out in cc

three-or-eight : (answer : Option Refusal) → IfSome answer (EndsBy print_statuses) → (status_of answer ≡ 3) ⊎ (status_of answer ≡ 8) → ⊥
three-or-eight answer known (inl three) = not-printed 3 refl answer (λ zero. cc) known three
three-or-eight answer known (inr eight) = not-printed 8 refl answer (λ zero. cc) known eight

-- what may end a run where nothing is read
made-by : (why : Refusal) → EndsBy run_statuses why → (why ≡ Fault cause.ReadFault → ⊥) → (why ≡ Fault cause.DeckLimit → ⊥) → EndsBy make_statuses why
made-by (NoRoom needed free) one read limit = one
made-by (Fault cause.Usage) one read limit = one
made-by (Fault cause.ReadFault) one read limit = absurd (read refl)
made-by (Fault cause.DiskFault) one read limit = refl
made-by (Fault cause.PrintFault) one read limit = refl
made-by (Fault cause.ConsoleFault) one read limit = one
made-by (Fault cause.DeckLimit) one read limit = absurd (limit refl)
made-by (Fault (cause.NotSolo page)) one read limit = one
made-by (Fault (cause.Damaged expected found at)) one read limit = refl
made-by (Fault cause.NoMemory) one read limit = refl

-- a deck in memory gives each card
no-card : (outcomes : Outcomes) → FaultsAre outcomes → (outcomes.card ≡ outcome.Fault cause.ReadFault → ⊥)
    → (outcomes.card ≡ outcome.Fault cause.DeckLimit → ⊥) → (why : Cause) → outcomes.card ≡ outcome.Fault why → ⊥
no-card outcomes faults read limit why at = elim (faults.card why at) [
  | inl is ↦ read (at ∙ ap outcome.Fault is)
  | inr is ↦ limit (at ∙ ap outcome.Fault is)
]

-- what is known of the deck and of the paper in memory
pub record AreInMemory {M N F I O : Type 0} (n : ℕ) (told mid : DeckKit M N F I O) : Type 0 where
  pub left : told.deck.left ≡ Some (made_deck n)
  pub clean : told.paper.given ≡ Some []
  pub read : Rose told.deck.faults mid.deck.faults → ⊥
  pub limit : byte_limit < mid.deck.taken → ⊥
  pub print : Rose told.paper.faults mid.paper.faults → ⊥

-- what the paper in memory has then
printed-is : {M N F I O : Type 0} (n : ℕ) {told mid : DeckKit M N F I O} {counts : Counts} (cause : Option Refusal) → AreInMemory n told mid
    → RanCore (Numbered n) told mid cause counts → cause ≡ None → SpoolsTell told → (found : Loads)
    → mid.paper.given ≡ Some (text (one_thread_output found (made_deck n)))
printed-is n cause memory r none spools found =
    let gained = (r.ran.prints (made_deck n) found memory.left (inr (no-files n)) spools).told [] memory.clean in
    gained.now_is ∙ ap Some (gained.all_is none)

-- the devices of the command, with the areas of a run in memory
abbrev pub around : {M N S K F I O : Type 0} → SourceTold S → SinkTold K → DeckKit M N F I O → DeckKit S K F I O
around deck paper told = record { deck = deck; paper = paper; files = told.files; input = told.input; output = told.output }

module _ {M N S K F I O : Type 0} (n : ℕ) {told mid : DeckKit M N F I O} {files : AreaTold F} (m : IsMounted told.files files) (deck : SourceTold S)
    (blank : SinkTold K) {counts : Counts} (memory : AreInMemory n told mid) (ready : MayRunDeck (around deck blank told)) where
  counted : {cause : Option Refusal} (r : RanCore (Numbered n) told mid cause counts) (paper : SinkTold K)
      → AreasCounted (around deck blank told) (around deck paper mid) r.ran.ends.five.outcomes
  counted r paper = record {
    card = no-card r.ran.ends.five.outcomes r.ran.ends.five.faults (λ at. memory.read (r.ran.ends.counted.read at))
        (λ at. memory.limit (r.ran.ends.counted.limit at));
    input = r.ran.ends.counted.input;
    job = r.ran.ends.counted.job;
    output = r.ran.ends.counted.output;
    printer = λ at. memory.print (r.ran.ends.counted.print at);
  }

  runs : {cause : Option Refusal} (r : RanCore (Numbered n) told mid cause counts)
      → RunsToEnd deck_jobs (Numbered n) (core_over (around deck blank told) (Some (cards (made_deck n))) (Some [])) counts
      r.ran.ends.five.outcomes r.ran.ends.five.stopped_by r.devices
  runs r = subst (λ paper. RunsToEnd deck_jobs (Numbered n) (core_over (around deck blank told) (Some (cards (made_deck n))) paper) counts
      r.ran.ends.five.outcomes r.ran.ends.five.stopped_by r.devices) memory.clean
      (subst (λ left. RunsToEnd deck_jobs (Numbered n) (core_over (around deck blank told) (items_ahead left []) told.paper.given) counts
      r.ran.ends.five.outcomes r.ran.ends.five.stopped_by r.devices) memory.left r.runs)

  -- a run that met a fault
  made-failed : (why : Refusal) → RanCore (Numbered n) told mid (Some why) counts
      → RanDeck (MakesDeck n) false (7 ∷ make_statuses) (around deck blank told) (around deck blank mid) (Some why)
  made-failed why r =
      let base = deck-reasons r.ran.ends (λ why none. absurd none) r.ran.undamaged r.ran.total r.ran.size in
      let known = made-by why (deck-known r.ran.ends (λ why none. absurd none)) (λ is. memory.read (base.read (ap Some is))) (λ is. memory.limit (base.limit (ap Some is))) in
      record {
        runs = record {
          prints = λ spools. no-numbers (Numbered n) (spools_told told) (files_found told.files.pages) (made_deck n) blank.given (Some why ≡ None)
              (found_are_loads told.files.pages) (no-files n) (in-bounds ready) (both-tell spools) (λ none. cc);
          unprinted = λ _. refl;
          ends = inl record {
            five = met (LineBehind (around deck blank told) (around deck blank mid)) (Some why) r.ran.ends.five;
            counted = counted r blank;
            own = r.own;
            counts = counts;
            devices = r.devices;
            runs = runs r;
          };
        };
        mounts = mounts-files m r.ran.left (λ page. never make_statuses (Some why) known (cause.NotSolo page) refl);
        reasons = record {
          known = wider make_statuses (7 ∷ make_statuses) (Some why) refl known;
          read = λ is. absurd (memory.read (base.read is));
          disk = base.disk;
          print = λ is. absurd (memory.print (base.print is));
          limit = λ is. absurd (memory.limit (base.limit is));
          beyond = λ more. absurd (let zero = ready.deck in omega (arith, zero, more));
          undamaged = base.undamaged;
          numbers = base.numbers;
          total = refl;
          unread = refl;
          size = r.ran.size;
        };
      }

  module _ {answer : Option Refusal} (paper : SinkTold K) where
    -- one that is done, and its numbers
    made-done : RanCore (Numbered n) told mid None counts → IfSome answer (EndsBy print_statuses)
        → (answer ≡ Some (Fault cause.PrintFault) → Rose blank.faults paper.faults)
        → (SpoolsTell told → (found : Loads) → PrintsBytes blank paper (text (deck_lines found (made_deck n) counts)) answer)
        → RanDeck (MakesDeck n) false (7 ∷ make_statuses) (around deck blank told) (around deck paper mid) answer
    made-done r known failed prints = record {
      runs = record {
        prints = λ spools. record {
          counts = counts;
          counted = counted-whole (spools_told told) (cards (made_deck n)) no_files (found_are_loads told.files.pages) (in-bounds ready)
              (card-items (made_deck n)) (inr (no-files n)) (runs r) (both-tell spools) (r.ran.ends.five.done refl);
          gains = λ found. (prints record { input = spools.input; output = spools.output } found).gains;
        };
        unprinted = λ at. absurd (three-or-eight answer known at);
        ends = inl record {
          five = comes-behind (LineBehind (around deck blank told) (around deck paper mid)) answer r.ran.ends.five
              (later-line (around deck blank told) (around deck paper mid) answer known failed);
          counted = counted r paper;
          own = r.own;
          counts = counts;
          devices = r.devices;
          runs = runs r;
        };
      };
      mounts = mounts-files m r.ran.left (λ page. never print_statuses answer known (cause.NotSolo page) refl);
      reasons = record {
        known = wider print_statuses (7 ∷ make_statuses) answer refl known;
        read = λ is. absurd (never print_statuses answer known cause.ReadFault refl is);
        disk = λ is. absurd (never print_statuses answer known cause.DiskFault refl is);
        print = failed;
        limit = λ is. absurd (never print_statuses answer known cause.DeckLimit refl is);
        beyond = λ more. absurd (let zero = ready.deck in omega (arith, zero, more));
        undamaged = λ input output. whole print_statuses answer refl known;
        numbers = tells-place print_statuses answer refl known;
        total = refl;
        unread = refl;
        size = r.ran.size;
      };
    }

    -- both
    pub made-ran : (cause : Option Refusal) → RanCore (Numbered n) told mid cause counts
        → IfSome cause (λ why. (answer ≡ Some why) × (paper ≡ blank)) → (cause ≡ None → IfSome answer (EndsBy print_statuses))
        → (cause ≡ None → answer ≡ Some (Fault PrintFault) → Rose blank.faults paper.faults)
        → (cause ≡ None → (found : Loads) → mid.paper.given ≡ Some (text (one_thread_output found (made_deck n)))
        → PrintsBytes blank paper (text (deck_lines found (made_deck n) counts)) answer)
        → RanDeck (MakesDeck n) false (7 ∷ make_statuses) (around deck blank told) (around deck paper mid) answer
    made-ran None r fault known failed prints =
        made-done r (known refl) (failed refl) (λ spools found. prints refl found (printed-is n None memory r refl spools found))
    made-ran (Some why) r fault known failed prints =
        subst (λ paper. RanDeck (MakesDeck n) false (7 ∷ make_statuses) (around deck blank told) (around deck paper mid) answer) (sym fault.1)
        (subst (λ answer. RanDeck (MakesDeck n) false (7 ∷ make_statuses) (around deck blank told) (around deck blank mid) answer) (sym fault.0)
        (made-failed why r))

-- What a session does over mounted files it does with their area.
use Rattle.std.proofs.Common.{◌⊎◌, inl, inr, ◌≤◌, ℕ, ◌∷◌, Option, Some, refl, ◌∙◌, arith}
use Rattle.std.specs.Prelude.{IfSome}
use Rattle.solo_base.specs.declared.outcome.Cause.TheVariants as cause
use Rattle.solo_devices.specs.Count.{Stayed}
use Rattle.run_report.specs.Told.{AreaTold}
use Rattle.solo_cli.specs.declared.refusal.Refusal.{Refusal}
use Rattle.solo_cli.specs.declared.words.Command.TheVariants.{Solo}
use Rattle.solo_cli.specs.Causes.{EndsBy, session_statuses}
use Rattle.solo_cli.specs.Devices.{Kit}
use Rattle.solo_cli.specs.Does.{Finishes}
use Rattle.solo_cli.specs.Reasons.{Answers}
use Rattle.solo_cli.specs.Ready.{MayBeGiven}
use Rattle.solo_cli.specs.Sessions.{MountsFirst, NothingBegun, RunsSession, SessionEnds}
use Rattle.solo_cli.specs.Uses.{session_used}
use Rattle.solo_cli.proofs.Mounted.{IsMounted, disk-on, no-solo}
use Rattle.solo_cli.proofs.SessionTold.{AsSession}
use Rattle.solo_cli.proofs.Tables.{never, wider}

stayed-on : (before mid after : ℕ) → before ≤ mid → Stayed before after → Stayed mid after
stayed-on before mid after later stayed = omega (arith, later, stayed)

module _ {S Y K T F I O : Type 0} {before after : Kit S Y K T F I O} {files : AreaTold F} {answer : Option Refusal} (m : IsMounted before.files files) where
  ends-on : SessionEnds (record before { files = files }) after answer → SessionEnds before after answer
  ends-on e = record {
    outcomes = e.outcomes;
    stopped_by = e.stopped_by;
    together = e.together;
    faults = e.faults;
    counted = record {
      read = e.counted.read;
      limit = e.counted.limit;
      longer = e.counted.longer;
      typed = e.counted.typed;
      typed_limit = e.counted.typed_limit;
      typed_longer = e.counted.typed_longer;
      show = e.counted.show;
      disk = λ at. let rose = e.counted.disk at in let later = m.later in omega (arith, later, rose);
      print = e.counted.print;
      read_on = e.counted.read_on;
      typed_on = e.counted.typed_on;
      print_on = e.counted.print_on;
      show_on = e.counted.show_on;
      files_on = (let on = e.counted.files_on in let later = m.later in omega (arith, later, on));
    };
    one_of = e.one_of;
    none_lower = e.none_lower;
    done = e.done;
  }

  or-nothing : SessionEnds (record before { files = files }) after answer ⊎ NothingBegun (record before { files = files }) after
      → SessionEnds before after answer ⊎ NothingBegun before after
  or-nothing (inl e) = inl (ends-on e)
  or-nothing (inr none) = inr record {
    untouched = record { deck = none.untouched.deck; paper = none.untouched.paper; input = none.untouched.input; output = none.untouched.output };
    keys = none.keys;
    console = none.console;
    files = none.files ∙ m.left;
  }

  of-session : RunsSession (record before { files = files }) after answer → RunsSession before after answer
  of-session ran = record {
    tells = λ deck typed pages deck_told keys_told files_told solo.
        let t = ran.tells deck typed pages deck_told keys_told (m.left ∙ files_told) solo in
        record {
          console = t.console;
          paper = t.paper;
          keys = t.keys;
          last_files = t.last_files;
          files = λ stayed. t.files (stayed-on before.files.faults files.faults after.files.faults m.later stayed);
        };
    ends = or-nothing ran.ends;
  }

  -- ---- the answers
  of-solo : Answers session_used (EndsBy session_statuses) (record before { files = files }) after answer → Answers session_used (EndsBy (7 ∷ session_statuses)) before after answer
  of-solo a = record {
    known = wider session_statuses (7 ∷ session_statuses) answer refl a.known;
    read = a.read;
    disk = λ is. disk-on before.files.faults files.faults after.files.faults m.later (a.disk is);
    print = a.print;
    shown = a.shown;
    limit = a.limit;
    beyond = a.beyond;
    undamaged = a.undamaged;
    numbers = a.numbers;
    total = a.total;
    kept = record { deck = tt; keys = tt; paper = tt; console = tt; files = tt; input = a.kept.input; output = a.kept.output };
    size = a.size ∙ m.size;
  }

  -- ---- the mount
  mounts-first : IfSome answer (EndsBy session_statuses) → MountsFirst before after answer
  mounts-first known = record {
    broken = λ pages told page bad. absurd (no-solo pages page (m.solo pages told) bad);
    not_solo = λ page is. absurd (never session_statuses answer known (cause.NotSolo page) refl is);
  }

  pub session-finishes : AsSession (record before { files = files }) after answer → Finishes (Some Solo) before after answer
  session-finishes ran = record { does = (of-session ran.0, mounts-first ran.1.known); answers = of-solo ran.1 }

-- devices that are ready are so with their files mounted
pub session-ready : {S Y K T F I O : Type 0} {before : Kit S Y K T F I O} {files : AreaTold F} → IsMounted before.files files → MayBeGiven before
    → MayBeGiven (record before { files = files })
session-ready m ready =
    record { deck = ready.deck; keys = ready.keys; files = m.size ∙ ready.files; input = ready.input; output = ready.output }

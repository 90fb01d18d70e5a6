-- Where no session is begun: its files can't be mounted, or memory was refused for all of it.
use Rattle.std.proofs.Common.{◌≡◌, ◌⊎◌, inl, inr, ◌<◌, ℕ, List, ◌∷◌, Option, Some, None, refl, sym, ◌∙◌, ap, subst, arith}
use Rattle.std.specs.Prelude.{IfSome}
use Rattle.solo_base.specs.Card.{cards}
use Rattle.solo_base.specs.Text.{text}
use Rattle.solo_base.specs.declared.outcome.Cause.TheVariants as cause
use Rattle.solo_devices.specs.CardUnit.{byte_limit, bytes_total}
use Rattle.solo_devices.specs.PrinterUnit.{Gains}
use Rattle.disk_layout.specs.Files.{files}
use Rattle.solo_task.specs.Session.{session}
use Rattle.run_report.proofs.Adding.{nothing}
use Rattle.solo_cli.specs.declared.refusal.Refusal.{Refusal}
use Rattle.solo_cli.specs.declared.words.Command.TheVariants.{Solo}
use Rattle.solo_cli.specs.Causes.{EndsBy, session_statuses}
use Rattle.solo_cli.specs.Devices.{Kit}
use Rattle.solo_cli.specs.Does.{Finishes}
use Rattle.solo_cli.specs.Ready.{MayBeGiven}
use Rattle.solo_cli.specs.Sessions.{NothingBegun}
use Rattle.solo_cli.proofs.Mounted.{IsWhy}
use Rattle.solo_cli.proofs.Tables.{never, tells-place, whole, wider}
use Rattle.solo_cli.proofs.Unmounted.{disk-rose, known-why, mount_statuses, named, refuses, some-why}

module _ {S Y K T F I O : Type 0} {before after : Kit S Y K T F I O} {answer : Option Refusal} (begun : NothingBegun before after)
    (why : IsWhy before.files after.files answer) (size : after.files.size ≡ before.files.size) (ready : MayBeGiven before) where
  some : answer ≡ None → ⊥
  some = some-why before.files after.files why

  known : IfSome answer (EndsBy mount_statuses)
  known = known-why before.files after.files why

  -- nothing is told, and the files are as they were
  silent : (given now : Option (List ℕ)) (told : List ℕ) → now ≡ given → Gains given now told (answer ≡ None)
  silent given now told same =
      subst (λ now. Gains given now told (answer ≡ None)) (sym same) (nothing given told (answer ≡ None) some)

  over : (byte_limit < after.deck.taken) ⊎ (byte_limit < after.keys.taken) → ⊥
  over (inl more) = (let zero : after.deck.taken ≡ 0 = ap (λ d. d.taken) begun.untouched.deck ∙ ready.deck in omega (arith, zero, more))
  over (inr more) = (let zero : after.keys.taken ≡ 0 = ap (λ d. d.taken) begun.keys ∙ ready.keys in omega (arith, zero, more))

  pub unbegun-session : Finishes (Some Solo) before after answer
  unbegun-session = record {
    does = (
      record {
        tells = λ deck typed pages deck_told keys_told files_told solo.
            let told = session (cards typed) (cards deck) (files pages) in
            record {
              console = silent before.console.given after.console.given (text told.console) (ap (λ t. t.given) begun.console);
              paper = silent before.paper.given after.paper.given (text told.paper) (ap (λ t. t.given) begun.untouched.paper);
              keys = record { emptied = λ bytes told none. absurd (some none); longer = λ bytes told more none. some none };
              last_files = λ none. absurd (some none);
              files = λ stayed. (files pages, (0, omega arith, refl), (pages, begun.files ∙ files_told, (solo, refl)));
            };
        ends = inr begun;
      },
      record {
        broken = λ pages told page bad. (refuses before.files after.files pages told why, begun);
        not_solo = λ page is. (named before.files after.files page is why, begun);
      },
    );
    answers = record {
      known = wider mount_statuses (7 ∷ session_statuses) answer refl known;
      read = λ is. absurd (never mount_statuses answer known cause.ReadFault refl is);
      disk = λ is. inr (inr (disk-rose before.files after.files why is));
      print = λ is. absurd (never mount_statuses answer known cause.PrintFault refl is);
      shown = λ is. absurd (never mount_statuses answer known cause.ConsoleFault refl is);
      limit = λ is. absurd (never mount_statuses answer known cause.DeckLimit refl is);
      beyond = λ more. absurd (over more);
      undamaged = λ input output. whole mount_statuses answer refl known;
      numbers = tells-place mount_statuses answer refl known;
      total = (ap (λ d. bytes_total d.taken d.left) begun.untouched.deck, ap (λ d. bytes_total d.taken d.left) begun.keys);
      kept = record { deck = tt; keys = tt; paper = tt; console = tt; files = tt; input = begun.untouched.input; output = begun.untouched.output };
      size = size;
    };
  }

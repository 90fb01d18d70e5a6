-- The causes of what is performed.
use Rattle.std.proofs.Common.{◌≡◌, ◌≢◌, ◌≤◌, ◌<◌, ◌↔◌, ℕ, List, true, Option, Some, refl, sym, ◌∙◌, ap, subst, arith}
use Rattle.solo_devices.specs.Count.{Rose}
use Rattle.solo_devices.specs.CardUnit.{Held, byte_limit}
use Rattle.solo_devices.specs.PrinterUnit.{Printing}
use Rattle.solo_devices.specs.declared.card_read.CardRead.TheVariants as card_read
use Rattle.batch_procs.specs.declared.actions.Action.{Action}
use Rattle.batch_procs.specs.declared.actions.Action.TheVariants as act
use Rattle.batch_procs.specs.declared.actions.Reply.{Reply}
use Rattle.batch_procs.specs.declared.actions.Reply.TheVariants as reply
use Rattle.net_core.specs.declared.shared.Shared.{Shared}
use Rattle.core_law.specs.Replies.{ReplyFits}
use Rattle.net_core.specs.Causes.{MovesInput, MovesOutput, IsPrint, IsLoad, HasCauses}
use Rattle.batch_procs.specs.Jobs.{Jobs, AreJobs}
use Rattle.batch_ends.specs.Causes.{Counts}
use Rattle.batch_ends.specs.Tells.{Tells}

-- an action that no device hears of
abbrev pub IsQuiet : Action → Type 0
IsQuiet act.ReadCard = ⊥
IsQuiet (act.PutPage page) = ⊥
IsQuiet act.TakePage = ⊥
IsQuiet (act.Load file) = ⊥
IsQuiet (act.Print line) = ⊥
IsQuiet action = Unit {0}

quiet-reads : (action : Action) → IsQuiet action → action ≡ act.ReadCard → ⊥
quiet-reads action is e = subst IsQuiet e is

quiet-prints : (action : Action) → IsQuiet action → IsPrint action → ⊥
quiet-prints (act.Print line) is print = is
quiet-prints action is print = print

quiet-loads : (action : Action) → IsQuiet action → IsLoad action → ⊥
quiet-loads (act.Load file) is load = is
quiet-loads action is load = load

quiet-input : (p : ℕ) (action : Action) → IsQuiet action → MovesInput p action → ⊥
quiet-input p (act.PutPage page) is moves = is
quiet-input p act.TakePage is moves = is
quiet-input p action is moves = moves

quiet-output : (p : ℕ) (action : Action) → IsQuiet action → MovesOutput p action → ⊥
quiet-output p (act.PutPage page) is moves = is
quiet-output p act.TakePage is moves = is
quiet-output p action is moves = moves

same-count : (a b : ℕ) → b ≡ a → a ≤ b
same-count a b e = omega (arith, e)

module _ {L : Type 0} {J : Jobs L} (jobs : AreJobs J) where
  no-card : (action : Action) (answer : Rattle.solo_devices.specs.declared.card_read.CardRead.CardRead) → (action ≡ act.ReadCard → ⊥)
      → ReplyFits J action (Some (reply.Card answer)) → ⊥
  no-card act.ReadCard answer not fits = not refl
  no-card action answer not fits = fits

  module _ {X S K F A B : Type 0} (tells : Tells L S K F A B) (counts : Counts S K F A B) (old new : Shared X S K F A B) (p : ℕ) where
    -- ---- what stays as it was
    pub record AreSame : Type 0 where
      pub deck : new.deck ≡ old.deck
      pub paper : new.paper ≡ old.paper
      pub input : new.input.area ≡ old.input.area
      pub output : new.output.area ≡ old.output.area
      pub files : new.files ≡ old.files

    fits-at : (action : Action) (result other : Option (Reply L)) → result ≡ other → ReplyFits J action result → ReplyFits J action other
    fits-at action result other e fits = subst (ReplyFits J action) e fits

    pub quiet-causes : (action : Action) (result : Option (Reply L)) → IsQuiet action → ReplyFits J action result → AreSame
        → HasCauses tells counts old new p action result
    quiet-causes action result quiet fits same = record {
      read = λ e. absurd (no-card action card_read.Failed (quiet-reads action quiet) (fits-at action result (Some (reply.Card card_read.Failed)) e fits));
      limit = λ e. absurd (no-card action card_read.Limit (quiet-reads action quiet) (fits-at action result (Some (reply.Card card_read.Limit)) e fits));
      limit_told = λ e. absurd (quiet-reads action quiet e);
      print = λ is. absurd (quiet-prints action quiet is);
      input = λ is. absurd (quiet-input p action quiet is);
      output = λ is. absurd (quiet-output p action quiet is);
      load = λ is. absurd (quiet-loads action quiet is);
      read_on = same-count _ _ (ap (λ (d : Held S). counts.read_faults d.source) same.deck);
      print_on = same-count _ _ (ap (λ (d : Printing K). counts.print_faults d.sink) same.paper);
      input_on = same-count _ _ (ap counts.input_faults same.input);
      output_on = same-count _ _ (ap counts.output_faults same.output);
      files_on = same-count _ _ (ap counts.file_faults same.files);
      deck_live = λ live not_failed not_limit. ap (λ (d : Held S). d.live) same.deck ∙ live;
      paper_live = λ live done. ap (λ (d : Printing K). d.live) same.paper ∙ live;
      files_sound = λ was done. subst tells.sound (sym same.files) was;
      deck_stays = λ not. same.deck;
    }

    -- ---- a move of a page
    abbrev pub IsMove : Action → Type 0
    IsMove (act.PutPage page) = Unit {0}
    IsMove act.TakePage = Unit {0}
    IsMove action = ⊥

    move-reads : (action : Action) → IsMove action → action ≡ act.ReadCard → ⊥
    move-reads action is e = subst IsMove e is

    move-prints : (action : Action) → IsMove action → IsPrint action → ⊥
    move-prints (act.Print line) is print = is
    move-prints action is print = print

    move-loads : (action : Action) → IsMove action → IsLoad action → ⊥
    move-loads (act.Load file) is load = is
    move-loads action is load = load

    pub input-causes : (action : Action) (r : Reply L) → IsMove action → ReplyFits J action (Some r) → (MovesOutput p action → ⊥)
        → new.deck ≡ old.deck
        → new.paper ≡ old.paper → new.output.area ≡ old.output.area → new.files ≡ old.files
        → (r ≡ reply.Failed → Rose (counts.input_faults old.input.area) (counts.input_faults new.input.area))
        → counts.input_faults old.input.area ≤ counts.input_faults new.input.area → HasCauses tells counts old new p action (Some r)
    input-causes action r move fits not deck paper output files failed later = record {
      read = λ e. absurd (no-card action card_read.Failed (move-reads action move) (fits-at action (Some r) (Some (reply.Card card_read.Failed)) e fits));
      limit = λ e. absurd (no-card action card_read.Limit (move-reads action move) (fits-at action (Some r) (Some (reply.Card card_read.Limit)) e fits));
      limit_told = λ e. absurd (move-reads action move e);
      print = λ is. absurd (move-prints action move is);
      input = λ is e. failed cc;
      output = λ is. absurd (not is);
      load = λ is. absurd (move-loads action move is);
      read_on = same-count _ _ (ap (λ (d : Held S). counts.read_faults d.source) deck);
      print_on = same-count _ _ (ap (λ (d : Printing K). counts.print_faults d.sink) paper);
      input_on = later;
      output_on = same-count _ _ (ap counts.output_faults output);
      files_on = same-count _ _ (ap counts.file_faults files);
      deck_live = λ live not_failed not_limit. ap (λ (d : Held S). d.live) deck ∙ live;
      paper_live = λ live done. ap (λ (d : Printing K). d.live) paper ∙ live;
      files_sound = λ was done. subst tells.sound (sym files) was;
      deck_stays = λ not. deck;
    }

    pub output-causes : (action : Action) (r : Reply L) → IsMove action → ReplyFits J action (Some r) → (MovesInput p action → ⊥)
        → new.deck ≡ old.deck
        → new.paper ≡ old.paper → new.input.area ≡ old.input.area → new.files ≡ old.files
        → (r ≡ reply.Failed → Rose (counts.output_faults old.output.area) (counts.output_faults new.output.area))
        → counts.output_faults old.output.area ≤ counts.output_faults new.output.area → HasCauses tells counts old new p action (Some r)
    output-causes action r move fits not deck paper input files failed later = record {
      read = λ e. absurd (no-card action card_read.Failed (move-reads action move) (fits-at action (Some r) (Some (reply.Card card_read.Failed)) e fits));
      limit = λ e. absurd (no-card action card_read.Limit (move-reads action move) (fits-at action (Some r) (Some (reply.Card card_read.Limit)) e fits));
      limit_told = λ e. absurd (move-reads action move e);
      print = λ is. absurd (move-prints action move is);
      input = λ is. absurd (not is);
      output = λ is e. failed cc;
      load = λ is. absurd (move-loads action move is);
      read_on = same-count _ _ (ap (λ (d : Held S). counts.read_faults d.source) deck);
      print_on = same-count _ _ (ap (λ (d : Printing K). counts.print_faults d.sink) paper);
      input_on = same-count _ _ (ap counts.input_faults input);
      output_on = later;
      files_on = same-count _ _ (ap counts.file_faults files);
      deck_live = λ live not_failed not_limit. ap (λ (d : Held S). d.live) deck ∙ live;
      paper_live = λ live done. ap (λ (d : Printing K). d.live) paper ∙ live;
      files_sound = λ was done. subst tells.sound (sym files) was;
      deck_stays = λ not. deck;
    }

    -- ---- a card and a line
    pub read-causes : (r : Reply L) → new.paper ≡ old.paper → new.input.area ≡ old.input.area → new.output.area ≡ old.output.area → new.files ≡ old.files
        → (r ≡ reply.Card card_read.Failed → Rose (counts.read_faults old.deck.source) (counts.read_faults new.deck.source))
        → counts.read_faults old.deck.source ≤ counts.read_faults new.deck.source
        → ((r ≡ reply.Card card_read.Limit) ↔ (byte_limit < counts.taken new.deck.source))
        → (r ≢ reply.Card card_read.Failed → r ≢ reply.Card card_read.Limit → new.deck.live ≡ true) → HasCauses tells counts old new p act.ReadCard (Some r)
    read-causes r paper input output files failed later limit live = record {
      read = λ e. failed cc;
      limit = λ e. limit.0 cc;
      limit_told = λ e is. ap Some (limit.1 is);
      print = λ is. absurd is;
      input = λ is. absurd is;
      output = λ is. absurd is;
      load = λ is. absurd is;
      read_on = later;
      print_on = same-count _ _ (ap (λ (d : Printing K). counts.print_faults d.sink) paper);
      input_on = same-count _ _ (ap counts.input_faults input);
      output_on = same-count _ _ (ap counts.output_faults output);
      files_on = same-count _ _ (ap counts.file_faults files);
      deck_live = λ was not_failed not_limit. live (λ e. not_failed (ap Some e)) (λ e. not_limit (ap Some e));
      paper_live = λ was done. ap (λ (d : Printing K). d.live) paper ∙ was;
      files_sound = λ was done. subst tells.sound (sym files) was;
      deck_stays = λ not. absurd (not refl);
    }

    pub print-causes : (line : List ℕ) (r : Reply L) → ReplyFits J (act.Print line) (Some r) → new.deck ≡ old.deck → new.input.area ≡ old.input.area
        → new.output.area ≡ old.output.area → new.files ≡ old.files
        → (r ≡ reply.Failed → Rose (counts.print_faults old.paper.sink) (counts.print_faults new.paper.sink))
        → counts.print_faults old.paper.sink ≤ counts.print_faults new.paper.sink
        → (r ≡ reply.Done → new.paper.live ≡ true) → HasCauses tells counts old new p (act.Print line) (Some r)
    print-causes line r fits deck input output files failed later live = record {
      read = λ e. absurd (no-card (act.Print line) card_read.Failed (λ e. cc) (fits-at (act.Print line) (Some r) (Some (reply.Card card_read.Failed)) e fits));
      limit = λ e. absurd (no-card (act.Print line) card_read.Limit (λ e. cc) (fits-at (act.Print line) (Some r) (Some (reply.Card card_read.Limit)) e fits));
      limit_told = λ e. absurd cc;
      print = λ is e. failed cc;
      input = λ is. absurd is;
      output = λ is. absurd is;
      load = λ is. absurd is;
      read_on = same-count _ _ (ap (λ (d : Held S). counts.read_faults d.source) deck);
      print_on = later;
      input_on = same-count _ _ (ap counts.input_faults input);
      output_on = same-count _ _ (ap counts.output_faults output);
      files_on = same-count _ _ (ap counts.file_faults files);
      deck_live = λ was not_failed not_limit. ap (λ (d : Held S). d.live) deck ∙ was;
      paper_live = λ was done. live (let e = done tt in cc);
      files_sound = λ was done. subst tells.sound (sym files) was;
      deck_stays = λ not. deck;
    }

    -- ---- a load
    pub load-causes : (file : List ℕ) (r : Reply L) → ReplyFits J (act.Load file) (Some r) → new.deck ≡ old.deck → new.paper ≡ old.paper
        → new.input.area ≡ old.input.area → new.output.area ≡ old.output.area
        → (r ≡ reply.Failed → Rose (counts.file_faults old.files) (counts.file_faults new.files))
        → counts.file_faults old.files ≤ counts.file_faults new.files
        → (r ≢ reply.Failed → tells.sound new.files) → HasCauses tells counts old new p (act.Load file) (Some r)
    load-causes file r fits deck paper input output failed later sound = record {
      read = λ e. absurd (no-card (act.Load file) card_read.Failed (λ e. cc) (fits-at (act.Load file) (Some r) (Some (reply.Card card_read.Failed)) e fits));
      limit = λ e. absurd (no-card (act.Load file) card_read.Limit (λ e. cc) (fits-at (act.Load file) (Some r) (Some (reply.Card card_read.Limit)) e fits));
      limit_told = λ e. absurd cc;
      print = λ is. absurd is;
      input = λ is. absurd is;
      output = λ is. absurd is;
      load = λ is e. failed cc;
      read_on = same-count _ _ (ap (λ (d : Held S). counts.read_faults d.source) deck);
      print_on = same-count _ _ (ap (λ (d : Printing K). counts.print_faults d.sink) paper);
      input_on = same-count _ _ (ap counts.input_faults input);
      output_on = same-count _ _ (ap counts.output_faults output);
      files_on = later;
      deck_live = λ was not_failed not_limit. ap (λ (d : Held S). d.live) deck ∙ was;
      paper_live = λ was done. ap (λ (d : Printing K). d.live) paper ∙ was;
      files_sound = λ was done. sound (λ e. done tt (ap Some e));
      deck_stays = λ not. deck;
    }

  -- ---- by what the action is
  pub at-causes : {X S K F A B : Type 0} (tells : Tells L S K F A B) (counts : Counts S K F A B) (old new : Shared X S K F A B) (p : ℕ) (a b : Action)
      (result : Option (Reply L)) → a ≡ b → HasCauses tells counts old new p b result → HasCauses tells counts old new p a result
  at-causes tells counts old new p a b result e is = subst (λ a. HasCauses tells counts old new p a result) (sym e) is

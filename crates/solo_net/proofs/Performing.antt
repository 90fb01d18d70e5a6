-- What a call on the buffers or on a device is to all that is shared.
use Rattle.std.proofs.Common.{◌≡◌, ◌≢◌, ◌≤◌, ◌<◌, ◌↔◌, ℕ, true, List, [], Option, None, Some, Result, Ok, Err, refl, sym, ◌∙◌, ap, subst}
use Rattle.std.specs.Prelude.{IsOk, IsErrOf, OnOk}
use Rattle.solo_base.specs.declared.outcome.Outcome.{Outcome}
use Rattle.solo_base.specs.Text.{line_text}
use Rattle.solo_devices.specs.Count.{Rose}
use Rattle.solo_devices.specs.CardUnit.{Held, GivesNext, IsAllTaken, byte_limit, items_ahead}
use Rattle.solo_devices.specs.PrinterUnit.{Printing, Gains}
use Rattle.solo_devices.specs.Typewriter.{Typing}
use Rattle.solo_devices.specs.declared.card_read.CardRead.{CardRead}
use Rattle.solo_devices.specs.declared.card_read.CardRead.TheVariants as read
use Rattle.solo_devices.specs.declared.printer_unit.PrintFault.{PrintFault}
use Rattle.network_law.specs.Acts.{Done}
use Rattle.solo_law.specs.Actions.{Action, Reply}
use Rattle.solo_law.specs.Actions as act
use Rattle.solo_law.specs.Buffers.{went_by}
use Rattle.solo_law.specs.Replies.{IsLineRead}
use Rattle.solo_law.specs.Devices.{Devices, Allows, given, read_off}
use Rattle.solo_procs.specs.declared.actions.SoloReply.{SoloReply}
use Rattle.solo_procs.specs.declared.actions.SoloReply.TheVariants as hear
use Rattle.solo_procs.specs.Said.{heard}
use Rattle.solo_ends.specs.declared.units.SoloUnits.{SoloUnits}
use Rattle.solo_net.specs.declared.buffers.Buffers.{Buffers}
use Rattle.solo_net.specs.declared.shared.Shared.{Shared}
use Rattle.solo_net.specs.Replies.{print_said, entry_of, SoloReplyFits, solo_reply_of}
use Rattle.solo_net.specs.SixBuffers.{SoloVisited}
use Rattle.solo_net.specs.Telling.{SourceTells, SinkTells, Tells, total_of, ReadSo, PrintedSo, Displays, SoloPrints, SoloHasCauses}
use Rattle.solo_net.specs.Sharing.{UnitsStand, Performs}
use Rattle.solo_net.proofs.DeviceCalls.{reads-next, GaveBy, gave-line}

-- ---- at the buffers, of which no device hears
abbrev pub Silent : Action → Type 0
Silent (act.PutArg b a) = Unit {0}
Silent (act.TakeArg b) = Unit {0}
Silent (act.PutPage b page) = Unit {0}
Silent (act.TakePage b) = Unit {0}
Silent (act.Stop b) = Unit {0}
Silent (act.Ended how) = Unit {0}
Silent action = ⊥

silent-allows : (action : Action) (result : Option SoloReply) → Silent action → (devices : Devices) → Allows devices (entry_of action result) []
silent-allows act.Accept result is devices = absurd is
silent-allows (act.Display line) result is devices = absurd is
silent-allows act.ReadCard result is devices = absurd is
silent-allows (act.Print line) result is devices = absurd is
silent-allows (act.Works work) result is devices = absurd is
silent-allows action None is devices = refl
silent-allows action (Some r) is devices = refl

silent-given : (action : Action) (result : Option SoloReply) → Silent action → (devices : Devices) → given devices (entry_of action result) [] ≡ devices
silent-given act.Accept result is devices = absurd is
silent-given (act.Display line) result is devices = absurd is
silent-given act.ReadCard result is devices = absurd is
silent-given (act.Print line) result is devices = absurd is
silent-given (act.Works work) result is devices = absurd is
silent-given action None is devices = refl
silent-given action (Some r) is devices = refl

silent-displays : (action : Action) → Silent action → Displays action → ⊥
silent-displays (act.Display line) is shows = is
silent-displays action is shows = shows

silent-prints : (action : Action) → Silent action → SoloPrints action → ⊥
silent-prints (act.Print line) is prints = is
silent-prints action is prints = prints

quiet-causes : {S Y K T F : Type 0} (tells : Tells S Y K T) (units : SoloUnits S Y K T F) (action : Action) (reply : Option Reply) → Silent action
    → SoloHasCauses tells units units action reply
quiet-causes tells units action reply is = record {
  reads = λ e. absurd (subst Silent e is);
  accepts = λ e. absurd (subst Silent e is);
  displays = λ shows. absurd (silent-displays action is shows);
  prints = λ prints. absurd (silent-prints action is prints);
  cards_stay = λ not. refl;
  keys_stay = λ not. refl;
  console_stays = λ not. refl;
  paper_stays = λ not. refl;
}

module _ {S Y K T F : Type 0} (tells : Tells S Y K T) (old : Shared S Y K T F) (p : ℕ) where
  pub at-six : (action : Action) (result : Option SoloReply) (new : Buffers) → Silent action → SoloVisited old.buffers new p action result
      → Performs tells old (record old { buffers = new }) p action result
  at-six action result new is v = record {
    suits = v.suits;
    enters = record {
      gained = [];
      fits = λ s st. v.fits s st.six;
      allowed = λ devices buffers st. silent-allows action result is devices;
      after = λ devices buffers st. record {
        units = subst (UnitsStand tells old.units) (sym (silent-given action result is devices)) st.units;
        six = v.after buffers st.six;
      };
      work = λ devices. ap (λ (d : Devices). d.work) (silent-given action result is devices);
      causes = quiet-causes tells old.units action (solo_reply_of (entry_of action result)) is;
      files = refl;
    };
  }

  pub at-end : (how : Outcome) → Performs tells old old p (act.Ended how) (Some hear.Done)
  at-end how = record {
    suits = tt;
    enters = record {
      gained = [];
      fits = λ s st. refl;
      allowed = λ devices buffers st. refl;
      after = λ devices buffers st. st;
      work = λ devices. refl;
      causes = quiet-causes tells old.units (act.Ended how) (Some act.Done) tt;
      files = refl;
    };
  }

-- ---- a card and a typed line
some-read : (a b : CardRead) → Some (act.OfCard a) ≡ Some (act.OfCard b) → a ≡ b
some-read a b e = cc

pub read-so : {S : Type 0} (tells : SourceTells S) (old new : Held S) (answer : CardRead)
    → (answer ≡ read.Failed → Rose (tells.faults old.source) (tells.faults new.source)) → tells.faults old.source ≤ tells.faults new.source
    → ((answer ≡ read.Limit) ↔ (byte_limit < tells.taken new.source)) → total_of tells new ≡ total_of tells old
    → (answer ≡ read.End → IsAllTaken (tells.left new.source)) → (answer ≢ read.Failed → answer ≢ read.Limit → new.live ≡ true)
    → ReadSo tells old new (Some (act.OfCard answer))
read-so tells old new answer failed counts limit total all_taken live = record {
  failed = λ e. failed (some-read answer read.Failed e);
  counts = counts;
  limit = (λ e. limit.0 (some-read answer read.Limit e), λ over. ap (λ r. Some (act.OfCard r)) (limit.1 over));
  total = total;
  all_taken = λ e. all_taken (some-read answer read.End e);
  live = λ not_failed not_limit. live (λ e. not_failed (ap (λ r. Some (act.OfCard r)) e)) (λ e. not_limit (ap (λ r. Some (act.OfCard r)) e));
}

module _ {S Y K T F : Type 0} (tells : Tells S Y K T) (old : Shared S Y K T F) (p : ℕ) (answer : CardRead) (line : IsLineRead answer) where
  pub at-cards : (new : Held S)
      → GivesNext (items_ahead (tells.cards.left old.units.cards.source) old.units.cards.pending) (items_ahead (tells.cards.left new.source) new.pending) answer
      → ReadSo tells.cards old.units.cards new (Some (act.OfCard answer))
      → Performs tells old (record old { units = record old.units { cards = new } }) p act.ReadCard (Some (hear.Card answer))
  at-cards new gives causes =
      let next = reads-next _ _ answer gives in
      record {
        suits = line;
        enters = record {
          gained = [];
          fits = λ s st. refl;
          allowed = λ devices buffers st. (next.allowed devices.cards st.units.cards, refl);
          after = λ devices buffers st. record {
            units = record {
              cards = ap (read_off answer) st.units.cards ∙ next.after;
              keys = st.units.keys;
              paper = st.units.paper;
              console = st.units.console;
            };
            six = st.six;
          };
          work = λ devices. refl;
          causes = record {
            reads = λ e. causes;
            accepts = λ e. absurd cc;
            displays = λ shows. absurd shows;
            prints = λ prints. absurd prints;
            cards_stay = λ not. absurd (not refl);
            keys_stay = λ not. refl;
            console_stays = λ not. refl;
            paper_stays = λ not. refl;
          };
          files = refl;
        };
      }

  pub at-keys : (new : Typing Y T) → new.console ≡ old.units.typewriter.console
      → GivesNext (items_ahead (tells.keys.left old.units.typewriter.keys.source) old.units.typewriter.keys.pending)
      (items_ahead (tells.keys.left new.keys.source) new.keys.pending) answer
      → ReadSo tells.keys old.units.typewriter.keys new.keys (Some (act.OfCard answer))
      → Performs tells old (record old { units = record old.units { typewriter = new } }) p act.Accept (Some (hear.Card answer))
  at-keys new same gives causes =
      let next = reads-next _ _ answer gives in
      record {
        suits = line;
        enters = record {
          gained = [];
          fits = λ s st. refl;
          allowed = λ devices buffers st. (next.allowed devices.keys st.units.keys, refl);
          after = λ devices buffers st. record {
            units = record {
              cards = st.units.cards;
              keys = ap (read_off answer) st.units.keys ∙ next.after;
              paper = st.units.paper;
              console = st.units.console ∙ ap (λ (c : Printing T). tells.console.given c.sink) (sym same);
            };
            six = st.six;
          };
          work = λ devices. refl;
          causes = record {
            reads = λ e. absurd cc;
            accepts = λ e. causes;
            displays = λ shows. absurd shows;
            prints = λ prints. absurd prints;
            cards_stay = λ not. refl;
            keys_stay = λ not. absurd (not refl);
            console_stays = λ not. same;
            paper_stays = λ not. refl;
          };
          files = refl;
        };
      }

-- ---- a line
print-suits : {X : Type 0} (line : List ℕ) (answer : Result X PrintFault) → SoloReplyFits (act.Print line) (Some (print_said answer))
print-suits line (Ok done) = tt
print-suits line (Err PrintFault.Failed) = tt
print-suits line (Err PrintFault.NoMemory) = tt

display-suits : {X : Type 0} (line : List ℕ) (answer : Result X PrintFault) → SoloReplyFits (act.Display line) (Some (print_said answer))
display-suits line (Ok done) = tt
display-suits line (Err PrintFault.Failed) = tt
display-suits line (Err PrintFault.NoMemory) = tt

print-went : {X : Type 0} (line : List ℕ) (answer : Result X PrintFault) → went_by (act.Print line) (heard (print_said answer)) ≡ Done
print-went line (Ok done) = refl
print-went line (Err PrintFault.Failed) = refl
print-went line (Err PrintFault.NoMemory) = refl

display-went : {X : Type 0} (line : List ℕ) (answer : Result X PrintFault) → went_by (act.Display line) (heard (print_said answer)) ≡ Done
display-went line (Ok done) = refl
display-went line (Err PrintFault.Failed) = refl
display-went line (Err PrintFault.NoMemory) = refl

print-allows : {X : Type 0} (line gained : List ℕ) (answer : Result X PrintFault) (devices : Devices) → GaveBy (heard (print_said answer)) gained line
    → Allows devices (entry_of (act.Print line) (Some (print_said answer))) gained
print-allows line gained (Ok done) devices gave = gave
print-allows line gained (Err PrintFault.Failed) devices gave = gave
print-allows line gained (Err PrintFault.NoMemory) devices gave = gave

display-allows : {X : Type 0} (line gained : List ℕ) (answer : Result X PrintFault) (devices : Devices) → GaveBy (heard (print_said answer)) gained line
    → Allows devices (entry_of (act.Display line) (Some (print_said answer))) gained
display-allows line gained (Ok done) devices gave = gave
display-allows line gained (Err PrintFault.Failed) devices gave = gave
display-allows line gained (Err PrintFault.NoMemory) devices gave = gave

pub printed-so : {K X : Type 0} (tells : SinkTells K) (old new : Printing K) (answer : Result X PrintFault)
    → (IsErrOf answer PrintFault.Failed → Rose (tells.faults old.sink) (tells.faults new.sink)) → tells.faults old.sink ≤ tells.faults new.sink
    → OnOk answer (new.live ≡ true) → PrintedSo tells old new (Some (heard (print_said answer)))
printed-so tells old new (Ok done) failed counts live = record { failed = λ e. absurd cc; counts = counts; live = λ e. live }
printed-so tells old new (Err PrintFault.Failed) failed counts live = record { failed = λ e. failed refl; counts = counts; live = λ e. absurd cc }
printed-so tells old new (Err PrintFault.NoMemory) failed counts live = record { failed = λ e. absurd cc; counts = counts; live = λ e. absurd cc }

module _ {S Y K T F X : Type 0} (tells : Tells S Y K T) (old : Shared S Y K T F) (p : ℕ) (line : List ℕ) (answer : Result X PrintFault) where
  pub at-console : (new : Typing Y T) → new.keys ≡ old.units.typewriter.keys
      → Gains (tells.console.given old.units.typewriter.console.sink) (tells.console.given new.console.sink) (line_text line) (IsOk answer)
      → PrintedSo tells.console old.units.typewriter.console new.console (Some (heard (print_said answer)))
      → Performs tells old (record old { units = record old.units { typewriter = new } }) p (act.Display line) (Some (print_said answer))
  at-console new same gains causes =
      let gave = gave-line _ _ line answer gains in
      record {
        suits = display-suits line answer;
        enters = record {
          gained = gave.gained;
          fits = λ s st. display-went line answer;
          allowed = λ devices buffers st. display-allows line gave.gained answer devices gave.gave;
          after = λ devices buffers st. record {
            units = record {
              cards = st.units.cards;
              keys = st.units.keys ∙ ap (λ (h : Held Y). items_ahead (tells.keys.left h.source) h.pending) (sym same);
              paper = st.units.paper;
              console = ap (Rattle.solo_law.specs.Devices.gains gave.gained) st.units.console ∙ gave.after;
            };
            six = st.six;
          };
          work = λ devices. refl;
          causes = record {
            reads = λ e. absurd cc;
            accepts = λ e. absurd cc;
            displays = λ shows. causes;
            prints = λ prints. absurd prints;
            cards_stay = λ not. refl;
            keys_stay = λ not. same;
            console_stays = λ not. absurd (not tt);
            paper_stays = λ not. refl;
          };
          files = refl;
        };
      }

  pub at-paper : (new : Printing K)
      → Gains (tells.paper.given old.units.paper.sink) (tells.paper.given new.sink) (line_text line) (IsOk answer)
      → PrintedSo tells.paper old.units.paper new (Some (heard (print_said answer)))
      → Performs tells old (record old { units = record old.units { paper = new } }) p (act.Print line) (Some (print_said answer))
  at-paper new gains causes =
      let gave = gave-line _ _ line answer gains in
      record {
        suits = print-suits line answer;
        enters = record {
          gained = gave.gained;
          fits = λ s st. print-went line answer;
          allowed = λ devices buffers st. print-allows line gave.gained answer devices gave.gave;
          after = λ devices buffers st. record {
            units = record {
              cards = st.units.cards;
              keys = st.units.keys;
              paper = ap (Rattle.solo_law.specs.Devices.gains gave.gained) st.units.paper ∙ gave.after;
              console = st.units.console;
            };
            six = st.six;
          };
          work = λ devices. refl;
          causes = record {
            reads = λ e. absurd cc;
            accepts = λ e. absurd cc;
            displays = λ shows. absurd shows;
            prints = λ prints. causes;
            cards_stay = λ not. refl;
            keys_stay = λ not. refl;
            console_stays = λ not. refl;
            paper_stays = λ not. absurd (not tt);
          };
          files = refl;
        };
      }

module _ {S Y K T F X : Type 0} (tells : Tells S Y K T) (old : Shared S Y K T F) (p : ℕ) (line : List ℕ) (answer : Result X PrintFault) (r : SoloReply)
    (said : r ≡ print_said answer) where
  pub console-said : (new : Typing Y T) → new.keys ≡ old.units.typewriter.keys
      → Gains (tells.console.given old.units.typewriter.console.sink) (tells.console.given new.console.sink) (line_text line) (IsOk answer)
      → PrintedSo tells.console old.units.typewriter.console new.console (Some (heard (print_said answer)))
      → Performs tells old (record old { units = record old.units { typewriter = new } }) p (act.Display line) (Some r)
  console-said new same gains causes =
      subst (λ r. Performs tells old (record old { units = record old.units { typewriter = new } }) p (act.Display line) (Some r)) (sym said)
      (at-console tells old p line answer new same gains causes)

  pub paper-said : (new : Printing K)
      → Gains (tells.paper.given old.units.paper.sink) (tells.paper.given new.sink) (line_text line) (IsOk answer)
      → PrintedSo tells.paper old.units.paper new (Some (heard (print_said answer)))
      → Performs tells old (record old { units = record old.units { paper = new } }) p (act.Print line) (Some r)
  paper-said new gains causes =
      subst (λ r. Performs tells old (record old { units = record old.units { paper = new } }) p (act.Print line) (Some r)) (sym said)
      (at-paper tells old p line answer new gains causes)

-- ---- by what the action is
pub at-action : {S Y K T F : Type 0} (tells : Tells S Y K T) (old new : Shared S Y K T F) (p : ℕ) (a b : Action) (result : Option SoloReply) → a ≡ b
    → Performs tells old new p b result → Performs tells old new p a result
at-action tells old new p a b result e is = subst (λ a. Performs tells old new p a result) (sym e) is

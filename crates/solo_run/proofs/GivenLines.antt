-- A line that a unit gave, or didn't, is answered so.
use Rattle.std.proofs.Common.{◌≡◌, ◌≤◌, ℕ, true, List, Option, Result, Ok, Err, refl, sym, subst}
use Rattle.std.specs.Prelude.{IsOk, IsErrOf, OnOk}
use Rattle.solo_base.specs.Text.{line_text}
use Rattle.solo_devices.specs.Count.{Rose}
use Rattle.solo_devices.specs.PrinterUnit.{Printing, Gains}
use Rattle.solo_devices.specs.declared.printer_unit.PrintFault.{PrintFault}
use Rattle.solo_devices.specs.declared.printer_unit.PrintFault.TheVariants as fault
use Rattle.solo_procs.specs.declared.actions.SoloReply.{SoloReply}
use Rattle.solo_procs.specs.declared.actions.SoloReply.TheVariants as hear
use Rattle.solo_run.specs.Devices.{answered, GivesLine}

gains-by : (before now : Option (List ℕ)) (whole : List ℕ) (all other : Type 0) → (other → all) → Gains before now whole all → Gains before now whole other
gains-by before now whole all other by gains = record {
  told = λ given e. (let t = gains.told given e in record { part = t.part; now_is = t.now_is; prefix = t.prefix; all_is = λ is. t.all_is (by is) });
  untold = gains.untold;
}

module _ {K : Type 0} (given : K → Option (List ℕ)) (faults : K → ℕ) (old new : Printing K) (line : List ℕ) where
  abbrev GivenSo : Result (Unit {0}) PrintFault → SoloReply → Type 0
  GivenSo r reply = Gains (given old.sink) (given new.sink) (line_text line) (IsOk r) → faults old.sink ≤ faults new.sink
      → (IsErrOf r fault.Failed → Rose (faults old.sink) (faults new.sink)) → OnOk r (new.live ≡ true) → GivesLine given faults old new line reply

  line-by : (r : Result (Unit {0}) PrintFault) → GivenSo r (answered r)
  line-by (Ok done) gains counts failed live = record {
    replies = tt;
    gains = gains-by (given old.sink) (given new.sink) (line_text line) (IsOk {T = Unit {0}} {E = PrintFault} (Ok done)) (hear.Done ≡ hear.Done) (λ e. refl) gains;
    failed = λ e. absurd cc;
    counts = counts;
    live = λ e. live;
  }
  line-by (Err fault.Failed) gains counts failed live = record {
    replies = tt;
    gains = gains-by (given old.sink) (given new.sink) (line_text line) (IsOk {T = Unit {0}} {E = PrintFault} (Err fault.Failed)) (hear.Failed ≡ hear.Done) (λ e. absurd cc) gains;
    failed = λ e. failed refl;
    counts = counts;
    live = λ e. absurd cc;
  }
  line-by (Err fault.NoMemory) gains counts failed live = record {
    replies = tt;
    gains = gains-by (given old.sink) (given new.sink) (line_text line) (IsOk {T = Unit {0}} {E = PrintFault} (Err fault.NoMemory)) (hear.NoMemory ≡ hear.Done) (λ e. absurd cc) gains;
    failed = λ e. absurd cc;
    counts = counts;
    live = λ e. absurd cc;
  }

  pub gives-line : (r : Result (Unit {0}) PrintFault) (reply : SoloReply) → reply ≡ answered r → GivenSo r reply
  gives-line r reply e = subst (GivenSo r) (sym e) (line-by r)

-- One entry more at an end: it is a call there, or it is elsewhere.
use Rattle.std.proofs.Common.{◌≡◌, ℕ, false, List, [], ◌∷◌}
use Rattle.solo_base.specs.declared.outcome.Side.{Side}
use Rattle.solo_base.specs.declared.outcome.Side.TheVariants.{Sender, Receiver}
use Rattle.slot_buffer.specs.declared.call.SlotCall.{SlotCall}
use Rattle.network_law.specs.Acts.{Act, moved_by, stops_at, told_at}
use Rattle.network_law.specs.Network.{acts, call_of}
use Rattle.exchange_law.specs.Parcels.{Parcel}
use Rattle.solo_law.specs.Solo.{solo, SoloEntry}
use Rattle.solo_run.specs.declared.ends.Sending.{Sending}
use Rattle.solo_run.specs.declared.ends.Taking.{Taking}
use Rattle.solo_run.specs.Ends.{sent, took, HasSent, HasTaken}
use Rattle.solo_run.proofs.EndCalls.{IsCall, calls-more, calls-same}

-- what an entry of a process is to the monitors
abbrev pub act_of : ℕ → SoloEntry → Act Parcel
act_of p entry = record { call = call_of solo p entry; went = solo.went entry }

pub record Elsewhere (b : ℕ) (side : Side) (act : Act Parcel) : Type 0 where
  pub moves : moved_by b side act.call act.went ≡ []
  pub stops : stops_at b side act.call ≡ false
  pub told : told_at b side act.call act.went ≡ false

module _ {T : Type 0} (wrap : T → Parcel) (p b : ℕ) where
  pub sent-call : (start now : Sending T) (h : List SoloEntry) (entry : SoloEntry) (call : SlotCall T) → IsCall wrap b Sender (act_of p entry) call
      → HasSent wrap p b start now h → HasSent wrap p b start (sent now call) (entry ∷ h)
  sent-call start now h entry call is has = record {
    gate = has.gate;
    at = has.at;
    calls = calls-more wrap b Sender (act_of p entry) (acts solo p h) now.end.calls call is has.calls;
  }

  pub sent-still : (start now : Sending T) (h : List SoloEntry) (entry : SoloEntry) → Elsewhere b Sender (act_of p entry)
      → HasSent wrap p b start now h → HasSent wrap p b start now (entry ∷ h)
  sent-still start now h entry is has = record {
    gate = has.gate;
    at = has.at;
    calls = calls-same wrap b Sender (act_of p entry) (acts solo p h) now.end.calls is.moves is.stops is.told has.calls;
  }

  pub took-call : (start now : Taking T) (h : List SoloEntry) (entry : SoloEntry) (call : SlotCall T) → IsCall wrap b Receiver (act_of p entry) call
      → HasTaken wrap p b start now h → HasTaken wrap p b start (took now call) (entry ∷ h)
  took-call start now h entry call is has = record {
    gate = has.gate;
    at = has.at;
    calls = calls-more wrap b Receiver (act_of p entry) (acts solo p h) now.end.calls call is has.calls;
  }

  pub took-still : (start now : Taking T) (h : List SoloEntry) (entry : SoloEntry) → Elsewhere b Receiver (act_of p entry)
      → HasTaken wrap p b start now h → HasTaken wrap p b start now (entry ∷ h)
  took-still start now h entry is has = record {
    gate = has.gate;
    at = has.at;
    calls = calls-same wrap b Receiver (act_of p entry) (acts solo p h) now.end.calls is.moves is.stops is.told has.calls;
  }

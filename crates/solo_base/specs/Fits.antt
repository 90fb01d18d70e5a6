-- Which replies fit a call.
use Rattle.std.specs.Prelude.{◌≡◌, ◌<◌, ◌≤◌, ℕ, List, length, FitsSigned}
use Rattle.std.specs.Int.{w16}
use Rattle.std.specs.List.{All}
use Rattle.solo_base.specs.declared.ident.TheConstants.{IDENT_LENGTH}
use Rattle.solo_base.specs.declared.page.TheConstants.{PAGE_LENGTH}
use Rattle.solo_base.specs.declared.system_call.SysCall.{SysCall}
use Rattle.solo_base.specs.declared.system_call.SysCall.TheVariants as calls
use Rattle.solo_base.specs.declared.system_call.SysReply.{SysReply}
use Rattle.solo_base.specs.declared.system_call.SysReply.TheVariants as replies

-- so many bytes
pub record AreBytes (count : ℕ) (bytes : List ℕ) : Type 0 where
  pub as_many : length bytes ≡ count
  pub each : All (λ byte. byte < 256) bytes

-- A reply fits a call where it is CallError, or has a value for each variable and array that the call
-- sets. Each number lies within 16 bits, and a called program took at most the ticks that were left.
abbrev pub Fits : SysCall → SysReply → Type 0
Fits call replies.CallError = Unit {0}
Fits calls.Read (replies.Char byte) = byte < 256
Fits calls.Accept (replies.Char byte) = byte < 256
Fits (calls.Write byte) replies.Done = Unit {0}
Fits (calls.WriteInt number) replies.Done = Unit {0}
Fits (calls.Display byte) replies.Done = Unit {0}
Fits (calls.Close f) replies.Done = Unit {0}
Fits (calls.Put f p page) replies.Done = Unit {0}
Fits (calls.WriteArg tag number name) replies.Done = Unit {0}
Fits (calls.Open f name) (replies.Opened found) = Unit {0}
Fits (calls.Get f p) (replies.Page page) = AreBytes PAGE_LENGTH page.0
Fits (calls.Length f) (replies.Length pages) = FitsSigned w16 pages
Fits (calls.Lookup name) (replies.Found kind found) = FitsSigned w16 kind
Fits calls.ReadArg (replies.Argument tag number name) =
    AreBytes IDENT_LENGTH name × FitsSigned w16 tag × FitsSigned w16 number
Fits (calls.Run name left) (replies.Ran line number ticks) =
    (ticks ≤ left) × FitsSigned w16 line × FitsSigned w16 number
Fits call other = ⊥

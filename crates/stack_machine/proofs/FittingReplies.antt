-- What a procedure asks for, and what a reply that fits gives for it.
use Rattle.std.proofs.Common.{◌≡◌, ℕ, ◌≤◌, Option, Some, None, List, ◌∷◌, length, ℤ, refl, arith}
use Rattle.std.proofs.lemmas.Bool.{cond_both}
use Rattle.std.proofs.lemmas.List.{length-map}
use Rattle.solo_base.specs.declared.system_call.SysCall.{SysCall}
use Rattle.solo_base.specs.declared.system_call.SysCall.TheVariants as calls
use Rattle.solo_base.specs.declared.system_call.SysReply.{SysReply}
use Rattle.solo_base.specs.declared.system_call.SysReply.TheVariants as replies
use Rattle.solo_base.specs.declared.interface.Procedure.{Procedure}
use Rattle.solo_base.specs.declared.interface.Procedure.TheVariants as row
use Rattle.solo_base.specs.declared.interface.CallRow.{CallRow}
use Rattle.solo_base.specs.Interface.{call_row_of}
use Rattle.solo_base.specs.Arithmetic.{byte_of, are_bytes}
use Rattle.solo_base.specs.Replies.{results_in, array_in, ticks_in}
use Rattle.stack_machine.specs.Calls.{Request, Makes, OutOfRange, LacksValue, write_of, request}
use Rattle.solo_base.specs.Fits.{Fits}

-- ---- Replies that fit

-- a reply gives the words that the row says, and no more ticks than were left
pub record Completes (r : CallRow) (left : ℕ) (reply : SysReply) : Type 0 where
  pub results : length (results_in reply) ≡ r.results
  pub array : length (array_in reply) ≤ r.array
  pub ticks : ticks_in reply ≤ left

-- the same, but for the reply that ends the program
abbrev pub CompletesOrFails : CallRow → ℕ → SysReply → Type 0
CompletesOrFails r left replies.CallError = Unit {0}
CompletesOrFails r left other = Completes r left other

-- the procedure that a call comes from
abbrev pub procedure_of : SysCall → Procedure
procedure_of calls.Read = row.Read
procedure_of (calls.Write byte) = row.Write
procedure_of (calls.WriteInt number) = row.WriteInt
procedure_of calls.Accept = row.Accept
procedure_of (calls.Display byte) = row.Display
procedure_of (calls.Open f name) = row.Open
procedure_of (calls.Close f) = row.Close
procedure_of (calls.Get f p) = row.Get
procedure_of (calls.Put f p page) = row.Put
procedure_of (calls.Length f) = row.Length
procedure_of (calls.Lookup name) = row.Lookup
procedure_of calls.ReadArg = row.ReadArg
procedure_of (calls.WriteArg tag number name) = row.WriteArg
procedure_of (calls.Run name left) = row.Run

-- the ticks that a call lets a program take
abbrev pub left_in : SysCall → ℕ
left_in (calls.Run name left) = left
left_in other = 0

pub completes : (call : SysCall) (reply : SysReply) → Fits call reply → CompletesOrFails (call_row_of (procedure_of call)) (left_in call) reply
completes call replies.CallError fits = tt
completes calls.Read (replies.Char byte) fits = record { results = refl; array = omega arith; ticks = omega arith }
completes calls.Accept (replies.Char byte) fits = record { results = refl; array = omega arith; ticks = omega arith }
completes (calls.Write byte) replies.Done fits = record { results = refl; array = omega arith; ticks = omega arith }
completes (calls.WriteInt number) replies.Done fits = record { results = refl; array = omega arith; ticks = omega arith }
completes (calls.Display byte) replies.Done fits = record { results = refl; array = omega arith; ticks = omega arith }
completes (calls.Close f) replies.Done fits = record { results = refl; array = omega arith; ticks = omega arith }
completes (calls.Put f p page) replies.Done fits = record { results = refl; array = omega arith; ticks = omega arith }
completes (calls.WriteArg tag number name) replies.Done fits = record { results = refl; array = omega arith; ticks = omega arith }
completes (calls.Open f name) (replies.Opened found) fits = record { results = refl; array = omega arith; ticks = omega arith }
completes (calls.Get f p) (replies.Page page) fits = record { results = refl; array = omega (arith, length-map {A = ℕ} {B = ℤ}, fits.as_many); ticks = omega arith }
completes (calls.Length f) (replies.Length pages) fits = record { results = refl; array = omega arith; ticks = omega arith }
completes (calls.Lookup name) (replies.Found kind found) fits = record { results = refl; array = omega arith; ticks = omega arith }
completes calls.ReadArg (replies.Argument tag number name) fits = record { results = refl; array = omega (arith, length-map {A = ℕ} {B = ℤ}, fits.0.as_many); ticks = omega arith }
completes (calls.Run name left) (replies.Ran line number ticks) fits = record { results = refl; array = omega arith; ticks = omega (arith, fits.0) }
completes call other fits = absurd fits

-- ---- Requests

-- a request is made for this procedure and lets a program take no more ticks than are left, or a value is out of range
abbrev pub IsFor : Procedure → ℕ → Request → Type 0
IsFor p left (Makes call) = (procedure_of call ≡ p) × (left_in call ≤ left)
IsFor p left OutOfRange = Unit {0}
IsFor p left LacksValue = ⊥

written : (p : Procedure) (left : ℕ) (makes : ℕ → SysCall) (byte : Option ℕ) → ((b : ℕ) → (procedure_of (makes b) ≡ p) × (left_in (makes b) ≤ left)) → IsFor p left (write_of makes byte)
written p left makes (Some byte) each = each byte
written p left makes None each = tt

pub requested : (p : Procedure) (operands array : List ℤ) (left : ℕ) → (call_row_of p).values ≤ length operands → IsFor p left (request p operands array left)
requested row.Read operands array left values = (refl, omega arith)
requested row.Write (v ∷ rest) array left values = written row.Write left (λ b. calls.Write b) (byte_of v) (λ b. (refl, omega arith))
requested row.WriteInt (v ∷ rest) array left values = (refl, omega arith)
requested row.Accept operands array left values = (refl, omega arith)
requested row.Display (v ∷ rest) array left values = written row.Display left (λ b. calls.Display b) (byte_of v) (λ b. (refl, omega arith))
requested row.Open (f ∷ rest) array left values = (refl, omega arith)
requested row.Close (f ∷ rest) array left values = (refl, omega arith)
requested row.Get (p ∷ f ∷ rest) array left values = (refl, omega arith)
requested row.Put (p ∷ f ∷ rest) array left values = cond_both (are_bytes array) (Makes _) OutOfRange (IsFor row.Put left) (λ bytes. (refl, omega arith)) (λ other. tt)
requested row.Length (f ∷ rest) array left values = (refl, omega arith)
requested row.Lookup operands array left values = (refl, omega arith)
requested row.ReadArg operands array left values = (refl, omega arith)
requested row.WriteArg (n ∷ tag ∷ rest) array left values = (refl, omega arith)
requested row.Run operands array left values = (refl, omega arith)
requested other operands array left values = absurd (omega arith)

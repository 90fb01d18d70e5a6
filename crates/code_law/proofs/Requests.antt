-- What a row asks for, by the values of its arguments, and what fits it.
use Rattle.std.proofs.Common.{◌≡◌, ℕ, ◌≤◌, Bool, true, false, Option, Some, None, List, [], ◌∷◌, length, map, ℤ, pos, refl, sym, ◌∙◌, ap, arith}
use Rattle.std.specs.Prelude.{if◌then◌else◌, option_map, unsigned_abs}
use Rattle.std.proofs.lemmas.Option.{none-some, same_Some}
use Rattle.std.proofs.lemmas.List.{length-map}
use Rattle.solo_base.specs.declared.interface.Procedure.{Procedure}
use Rattle.solo_base.specs.declared.interface.Procedure.TheVariants as row
use Rattle.solo_base.specs.declared.system_call.SysCall.{SysCall}
use Rattle.solo_base.specs.declared.system_call.SysCall.TheVariants as calls
use Rattle.solo_base.specs.declared.system_call.SysReply.{SysReply}
use Rattle.solo_base.specs.declared.system_call.SysReply.TheVariants as replies
use Rattle.solo_base.specs.Arithmetic.{byte_of, are_bytes}
use Rattle.solo_base.specs.Fits.{Fits}
use Rattle.solo_base.specs.Interface.{procedure_at, call_row_of}
use Rattle.solo_base.specs.Replies.{results_in, array_in}
use Rattle.stack_machine.specs.Calls.{Request, Makes, OutOfRange, write_of, request}
use Rattle.pascal_mean.specs.Calls.{call_for}
use Rattle.pascal_code.specs.Calls.{row_number}
use Rattle.code_law.proofs.Opening.{on_top}

pub row_is : (p : Procedure) → procedure_at (row_number p) ≡ Some p
row_is row.Read = refl
row_is row.Write = refl
row_is row.WriteInt = refl
row_is row.Accept = refl
row_is row.Display = refl
row_is row.Open = refl
row_is row.Close = refl
row_is row.Get = refl
row_is row.Put = refl
row_is row.Length = refl
row_is row.Lookup = refl
row_is row.ReadArg = refl
row_is row.WriteArg = refl
row_is row.Run = refl

-- ---- The call

abbrev pub requested : Option SysCall → Request
requested None = OutOfRange
requested (Some call) = Makes call

written_is : (made : ℕ → SysCall) (byte : Option ℕ) → write_of made byte ≡ requested (option_map made byte)
written_is made None = refl
written_is made (Some byte) = refl

put_is : (b : Bool) (call : SysCall) → (if b then Makes call else OutOfRange) ≡ requested (if b then Some call else None)
put_is true call = refl
put_is false call = refl

-- with as many values as the row takes it is the meaning's
pub request_is : (p : Procedure) (values rest array : List ℤ) (left : ℕ) → length values ≡ (call_row_of p).values
    → request p (on_top values rest) array left ≡ requested (call_for p values array left)
request_is row.Read values rest array left count = refl
request_is row.Accept values rest array left count = refl
request_is row.Lookup values rest array left count = refl
request_is row.ReadArg values rest array left count = refl
request_is row.Run values rest array left count = refl
request_is row.Write [] rest array left count = absurd (omega (arith, count))
request_is row.Write (v ∷ []) rest array left count = written_is (λ b. calls.Write b) (byte_of v)
request_is row.Write (v ∷ w ∷ more) rest array left count = absurd (omega (arith, count))
request_is row.Display [] rest array left count = absurd (omega (arith, count))
request_is row.Display (v ∷ []) rest array left count = written_is (λ b. calls.Display b) (byte_of v)
request_is row.Display (v ∷ w ∷ more) rest array left count = absurd (omega (arith, count))
request_is row.WriteInt [] rest array left count = absurd (omega (arith, count))
request_is row.WriteInt (v ∷ []) rest array left count = refl
request_is row.WriteInt (v ∷ w ∷ more) rest array left count = absurd (omega (arith, count))
request_is row.Open [] rest array left count = absurd (omega (arith, count))
request_is row.Open (v ∷ []) rest array left count = refl
request_is row.Open (v ∷ w ∷ more) rest array left count = absurd (omega (arith, count))
request_is row.Close [] rest array left count = absurd (omega (arith, count))
request_is row.Close (v ∷ []) rest array left count = refl
request_is row.Close (v ∷ w ∷ more) rest array left count = absurd (omega (arith, count))
request_is row.Length [] rest array left count = absurd (omega (arith, count))
request_is row.Length (v ∷ []) rest array left count = refl
request_is row.Length (v ∷ w ∷ more) rest array left count = absurd (omega (arith, count))
request_is row.Get [] rest array left count = absurd (omega (arith, count))
request_is row.Get (v ∷ []) rest array left count = absurd (omega (arith, count))
request_is row.Get (v ∷ w ∷ []) rest array left count = refl
request_is row.Get (v ∷ w ∷ u ∷ more) rest array left count = absurd (omega (arith, count))
request_is row.Put [] rest array left count = absurd (omega (arith, count))
request_is row.Put (v ∷ []) rest array left count = absurd (omega (arith, count))
request_is row.Put (v ∷ w ∷ []) rest array left count = put_is (are_bytes array) (calls.Put v w (record { 0 = map unsigned_abs array }))
request_is row.Put (v ∷ w ∷ u ∷ more) rest array left count = absurd (omega (arith, count))
request_is row.WriteArg [] rest array left count = absurd (omega (arith, count))
request_is row.WriteArg (v ∷ []) rest array left count = absurd (omega (arith, count))
request_is row.WriteArg (v ∷ w ∷ []) rest array left count = refl
request_is row.WriteArg (v ∷ w ∷ u ∷ more) rest array left count = absurd (omega (arith, count))

-- ---- What fits

abbrev pub row_of : SysCall → Procedure
row_of calls.Read = row.Read
row_of (calls.Write byte) = row.Write
row_of (calls.WriteInt number) = row.WriteInt
row_of calls.Accept = row.Accept
row_of (calls.Display byte) = row.Display
row_of (calls.Open f name) = row.Open
row_of (calls.Close f) = row.Close
row_of (calls.Get f p) = row.Get
row_of (calls.Put f p page) = row.Put
row_of (calls.Length f) = row.Length
row_of (calls.Lookup name) = row.Lookup
row_of calls.ReadArg = row.ReadArg
row_of (calls.WriteArg tag number name) = row.WriteArg
row_of (calls.Run name left) = row.Run

of_byte : (p : Procedure) (made : ℕ → SysCall) → ((b : ℕ) → row_of (made b) ≡ p) → (byte : Option ℕ) (call : SysCall) → option_map made byte ≡ Some call
    → row_of call ≡ p
of_byte p made is None call e = absurd (none-some call e)
of_byte p made is (Some b) call e = ap row_of (sym (same_Some (made b) call e)) ∙ is b

of_put : (b : Bool) (made call : SysCall) → (if b then Some made else None) ≡ Some call → row_of call ≡ row_of made
of_put true made call e = ap row_of (sym (same_Some made call e))
of_put false made call e = absurd (none-some call e)

pub its_row : (p : Procedure) (values array : List ℤ) (left : ℕ) (call : SysCall) → call_for p values array left ≡ Some call → row_of call ≡ p
its_row row.Read values array left call e = ap row_of (sym (same_Some _ call e))
its_row row.Write values array left call e = of_byte row.Write (λ b. calls.Write b) (λ b. refl) _ call e
its_row row.WriteInt values array left call e = ap row_of (sym (same_Some _ call e))
its_row row.Accept values array left call e = ap row_of (sym (same_Some _ call e))
its_row row.Display values array left call e = of_byte row.Display (λ b. calls.Display b) (λ b. refl) _ call e
its_row row.Open values array left call e = ap row_of (sym (same_Some _ call e))
its_row row.Close values array left call e = ap row_of (sym (same_Some _ call e))
its_row row.Get values array left call e = ap row_of (sym (same_Some _ call e))
its_row row.Put values array left call e = of_put (are_bytes array) _ call e
its_row row.Length values array left call e = ap row_of (sym (same_Some _ call e))
its_row row.Lookup values array left call e = ap row_of (sym (same_Some _ call e))
its_row row.ReadArg values array left call e = ap row_of (sym (same_Some _ call e))
its_row row.WriteArg values array left call e = ap row_of (sym (same_Some _ call e))
its_row row.Run values array left call e = ap row_of (sym (same_Some _ call e))

abbrev pub IsAnswer : SysReply → Type 0
IsAnswer replies.CallError = ⊥
IsAnswer other = Unit {0}

-- a reply to a row sets no more words of its array than it has, and as many results as it gives
pub record SetsRow (p : Procedure) (reply : SysReply) : Type 0 where
  pub array : length (array_in reply) ≤ (call_row_of p).array
  pub results : length (results_in reply) ≡ (call_row_of p).results

pub sets_row : (call : SysCall) (reply : SysReply) → Fits call reply → IsAnswer reply → SetsRow (row_of call) reply
sets_row call replies.CallError fits answer = absurd answer
sets_row calls.Read (replies.Char b) fits answer = record { array = omega arith; results = refl }
sets_row calls.Read other fits answer = absurd fits
sets_row calls.Accept (replies.Char b) fits answer = record { array = omega arith; results = refl }
sets_row calls.Accept other fits answer = absurd fits
sets_row (calls.Write b) replies.Done fits answer = record { array = omega arith; results = refl }
sets_row (calls.Write b) other fits answer = absurd fits
sets_row (calls.WriteInt n) replies.Done fits answer = record { array = omega arith; results = refl }
sets_row (calls.WriteInt n) other fits answer = absurd fits
sets_row (calls.Display b) replies.Done fits answer = record { array = omega arith; results = refl }
sets_row (calls.Display b) other fits answer = absurd fits
sets_row (calls.Close f) replies.Done fits answer = record { array = omega arith; results = refl }
sets_row (calls.Close f) other fits answer = absurd fits
sets_row (calls.Put f p page) replies.Done fits answer = record { array = omega arith; results = refl }
sets_row (calls.Put f p page) other fits answer = absurd fits
sets_row (calls.WriteArg tag number name) replies.Done fits answer = record { array = omega arith; results = refl }
sets_row (calls.WriteArg tag number name) other fits answer = absurd fits
sets_row (calls.Open f name) (replies.Opened found) fits answer = record { array = omega arith; results = refl }
sets_row (calls.Open f name) other fits answer = absurd fits
sets_row (calls.Get f p) (replies.Page page) fits answer = record { array = omega (arith, fits.as_many, length-map page.0 pos); results = refl }
sets_row (calls.Get f p) other fits answer = absurd fits
sets_row (calls.Length f) (replies.Length pages) fits answer = record { array = omega arith; results = refl }
sets_row (calls.Length f) other fits answer = absurd fits
sets_row (calls.Lookup name) (replies.Found kind found) fits answer = record { array = omega arith; results = refl }
sets_row (calls.Lookup name) other fits answer = absurd fits
sets_row calls.ReadArg (replies.Argument tag number name) fits answer = record { array = omega (arith, fits.0.as_many, length-map name pos); results = refl }
sets_row calls.ReadArg other fits answer = absurd fits
sets_row (calls.Run name left) (replies.Ran line number ticks) fits answer = record { array = omega arith; results = refl }
sets_row (calls.Run name left) other fits answer = absurd fits

-- The characters of cards are bytes, and so each reply fits its call.
use Rattle.std.proofs.Common.{◌≡◌, ℕ, zero, suc, ◌<◌, true, List, [], ◌∷◌, ◌++◌, refl, sym, ap, subst, arith}
use Rattle.std.specs.Prelude.{All}
use Rattle.std.specs.List.{list_all}
use Rattle.std.proofs.lemmas.Bool.{leb-true, and_parts}
use Rattle.solo_base.specs.declared.system_call.SysCall.{SysCall}
use Rattle.solo_base.specs.declared.system_call.SysCall.TheVariants as calls
use Rattle.solo_base.specs.Fits.{Fits}
use Rattle.solo_base.specs.Line.{is_printable, IsLine}
use Rattle.solo_base.specs.LineList.{AreLines}
use Rattle.solo_base.specs.Text.{line_text, text}
use Rattle.pascal_mean.specs.Batch.{next_character, batch_reply, but_the_first, input_after}
use Rattle.batch_program.specs.Input.{input_behind}

abbrev pub AreCodes : List ℕ → Type 0
AreCodes codes = All (λ code. code < 256) codes

next_is_a_byte : (input : List ℕ) → AreCodes input → next_character input < 256
next_is_a_byte [] all = omega arith
next_is_a_byte (code ∷ rest) all = all 0 0 (omega arith)

pub fits_bytes : (input : List ℕ) (call : SysCall) → AreCodes input → Fits call (batch_reply input call)
fits_bytes input calls.Read all = next_is_a_byte input all
fits_bytes input (calls.Write byte) all = tt
fits_bytes input (calls.WriteInt number) all = tt
fits_bytes input calls.Accept all = tt
fits_bytes input (calls.Display byte) all = tt
fits_bytes input (calls.Open f name) all = tt
fits_bytes input (calls.Close f) all = tt
fits_bytes input (calls.Get f p) all = tt
fits_bytes input (calls.Put f p page) all = tt
fits_bytes input (calls.Length f) all = tt
fits_bytes input (calls.Lookup name) all = tt
fits_bytes input calls.ReadArg all = tt
fits_bytes input (calls.WriteArg tag number name) all = tt
fits_bytes input (calls.Run name left) all = tt

rest_is_bytes : (input : List ℕ) → AreCodes input → AreCodes (but_the_first input)
rest_is_bytes [] all = all
rest_is_bytes (code ∷ rest) all = λ k d few. all (suc k) d (omega (arith, few))

pub after_is_bytes : (input : List ℕ) (call : SysCall) → AreCodes input → AreCodes (input_after input call)
after_is_bytes input calls.Read all = rest_is_bytes input all
after_is_bytes input other all = all

pub behind_is_bytes : (input : List ℕ) (made : List SysCall) → AreCodes input → AreCodes (input_behind input made)
behind_is_bytes input [] all = all
behind_is_bytes input (call ∷ made) all = behind_is_bytes (input_after input call) made (after_is_bytes input call all)

-- ---- Of lines

one_byte_more : (code : ℕ) (codes : List ℕ) → code < 256 → AreCodes codes → AreCodes (code ∷ codes)
one_byte_more code codes small all zero d few = small
one_byte_more code codes small all (suc k) d few = all k d (omega (arith, few))

prints_is_byte : (code : ℕ) → is_printable code ≡ true → code < 256
prints_is_byte code prints = omega (arith, leb-true code 126 (and_parts _ _ prints).1)

line_before : (line more : List ℕ) → list_all is_printable line ≡ true → AreCodes more → AreCodes (line ++ 10 ∷ more)
line_before [] more print all = one_byte_more 10 more (omega arith) all
line_before (code ∷ line) more print all =
    let both = and_parts (is_printable code) (list_all is_printable line) print in
    one_byte_more code (line ++ 10 ∷ more) (prints_is_byte code both.0) (line_before line more both.1 all)

pub text_is_bytes : (cards : List (List ℕ)) → AreLines cards → AreCodes (text cards)
text_is_bytes [] lines = λ k d few. absurd (omega (arith, few))
text_is_bytes (card ∷ cards) lines =
    subst AreCodes (sym (append_line card (text cards))) (line_before card (text cards) lines.0.printable (text_is_bytes cards lines.1))
  where
    append_line : (line more : List ℕ) → line_text line ++ more ≡ line ++ 10 ∷ more
    append_line [] more = refl
    append_line (code ∷ line) more = ap (λ (l : List ℕ). code ∷ l) (append_line line more)

pub lines_more : (cards : List (List ℕ)) (card : List ℕ) → AreLines cards → IsLine card → AreLines (cards ++ card ∷ [])
lines_more [] card lines is = (is, tt)
lines_more (first ∷ cards) card lines is = (lines.0, lines_more cards card lines.1 is)

-- One bit of a byte, and of a list of bytes.
use Rattle.std.proofs.Common.{◌≡◌, ◌≢◌, ℕ, ◌*◌, ◌/◌, ◌%◌, ◌<◌, Bool, ◌==◌, List, length, get_or, set, ap, sym, inl, inr, ◌∙◌, arith, get_or-set_same, get_or-set_other}
use Rattle.std.specs.Int.{bit_at}
use Rattle.std.proofs.lemmas.Bool.{cases_eq}
use Rattle.disk_pages.specs.Bits.{SetsBit}

-- a byte with another bit n mod 8, put into the place of byte n / 8
pub sets_bit : (n : ℕ) (on : Bool) (bytes : List ℕ) (byte : ℕ) → n < 8 * length bytes → (bit_at byte (n % 8) == 1) ≡ on
    → ((j : ℕ) → j < 8 → j ≢ n % 8 → bit_at byte j ≡ bit_at (get_or bytes (n / 8) 0) j) → SetsBit n on bytes (set bytes (n / 8) byte)
sets_bit n on bytes byte within bit others =
    let here : n / 8 < length bytes = omega arith in
    record {
      bit = ap (λ b. bit_at b (n % 8) == 1) (get_or-set_same bytes (n / 8) byte 0 here) ∙ bit;
      others = λ m apart. elim (cases_eq (m / 8) (n / 8)) [
        | inl same ↦ ap (λ b. bit_at (get_or (set bytes (n / 8) byte) b 0) (m % 8) == 1) same ∙ ap (λ b. bit_at b (m % 8) == 1) (get_or-set_same bytes (n / 8) byte 0 here) ∙ ap (λ b. b == 1) (others (m % 8) (omega arith) (λ e. apart (omega arith))) ∙ ap (λ b. bit_at (get_or bytes b 0) (m % 8) == 1) (sym same)
        | inr other ↦ ap (λ b. bit_at b (m % 8) == 1) (get_or-set_other bytes (n / 8) (m / 8) byte 0 other)
      ];
      bytes = λ k apart. get_or-set_other bytes (n / 8) k byte 0 apart;
    }

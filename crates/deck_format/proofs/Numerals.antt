-- Ten digits stay below ten thousand million.
use Rattle.std.proofs.Common.{◌≡◌, ℕ, zero, suc, ◌+◌, ◌-◌, ◌*◌, ◌^◌, ◌<◌, ◌≤◌, List, [], ◌∷◌, length, take, drop, get_or, true, false, Bool, arith, refl}
use Rattle.std.specs.Prelude.{◌&&◌}
use Rattle.std.specs.List.{list_all}
use Rattle.std.proofs.Math.Nat.{mul-le-mul_left, mul-le-mul_right, pow-succ', pow-le-pow_right}
use Rattle.std.proofs.lemmas.List.{take_all}
use Rattle.std.proofs.lemmas.Bool.Decides.{nat_tests}
use Rattle.solo_base.specs.Ident.{is_digit}

one_at_least : (n : ℕ) → 1 ≤ 10 ^ n
one_at_least zero = omega arith
one_at_least (suc n) = let tens : 10 ^ suc n ≡ 10 * 10 ^ n = pow-succ' 10 n in omega (arith, one_at_least n)

pub first_small : (n digits : ℕ) → n ≤ digits → digits ≤ 10 → (0 + 1) * 10 ^ n ≤ 10 ^ 10
first_small n digits few within =
    let ten : zero < 10 = omega arith in
    let at_most : n ≤ 10 = omega (arith, few, within) in
    let all : 10 ^ n ≤ 10 ^ 10 = pow-le-pow_right ten at_most in omega (arith, all)

-- what a number and the digits behind it keep
pub record OneMore (number : ℕ) (digits : List ℕ) : Type 0 where
  pub small : number < 10 ^ 9
  pub low : 48 ≤ get_or digits 0 0
  pub high : get_or digits 0 0 ≤ 57
  pub rest_digits : list_all is_digit (take (length digits - 1) (drop 1 digits)) ≡ true
  pub rest_small : (10 * number + (get_or digits 0 0 - 48) + 1) * 10 ^ length (take (length digits - 1) (drop 1 digits)) ≤ 10 ^ 10

both : (a b : Bool) → a && b ≡ true → (a ≡ true) × (b ≡ true)
both true b is = (refl, is)
both false b is = cc

digit_low : (x : ℕ) → is_digit x ≡ true → 48 ≤ x
digit_low x is = grind (arith, nat_tests)

digit_high : (x : ℕ) → is_digit x ≡ true → x ≤ 57
digit_high x is = grind (arith, nat_tests)

pub one_more : (number : ℕ) (digits : List ℕ) → 1 ≤ length digits → list_all is_digit digits ≡ true → (number + 1) * 10 ^ length digits ≤ 10 ^ 10 → OneMore number digits
one_more number [] some are small = absurd (omega arith)
one_more number (x ∷ xs) some are small =
    let parts : (is_digit x ≡ true) × (list_all is_digit xs ≡ true) = both (is_digit x) (list_all is_digit xs) are in
    let rest : take (length (x ∷ xs) - 1) xs ≡ xs = take_all (length (x ∷ xs) - 1) xs (omega arith) in
    let tens : 10 ^ suc (length xs) ≡ 10 * 10 ^ length xs = pow-succ' 10 (length xs) in
    let room : (number + 1) * (10 * 10 ^ length xs) ≤ 10 ^ 10 = rw (← tens) small in
    let ten : (number + 1) * (10 * 1) ≤ (number + 1) * (10 * 10 ^ length xs) = mul-le-mul_left (number + 1) (mul-le-mul_left 10 (one_at_least (length xs))) in
    let more : (10 * number + (x - 48) + 1) * 10 ^ length xs ≤ (10 * number + 10) * 10 ^ length xs =
    mul-le-mul_right (10 ^ length xs) (omega (arith, digit_high x parts.0)) in
    record {
      small = omega (arith, ten, room);
      low = digit_low x parts.0;
      high = digit_high x parts.0;
      rest_digits = rw rest parts.1;
      rest_small = rw rest (omega (arith, more, room));
    }

-- Counts of marks add up.
use Rattle.std.proofs.Common.{◌≡◌, ℕ, suc, ◌+◌, ◌≤◌, Bool, true, false, List, [], ◌∷◌, ◌++◌, length, refl, sym, ◌∙◌, ap, arith}
use Rattle.exchange_law.specs.Phases.{trues, falses}
use Rattle.exchange_law.specs.Meeting.{PassesOne}

more-behind : (a b c : ℕ) → a ≡ b + c → a + 1 ≡ (b + 1) + c
more-behind a b c e = omega (arith, e)

suc-behind : (a b c : ℕ) → a ≡ b + c → suc a ≡ suc b + c
suc-behind a b c e = omega (arith, e)

one-true : (a b c : ℕ) → a ≡ b + c → suc a ≡ b + (c + 1)
one-true a b c e = omega (arith, e)

one-false : (a b c : ℕ) → a ≡ b + c → suc a ≡ (b + 1) + c
one-false a b c e = omega (arith, e)

pub trues-append : (some more : List Bool) → trues (some ++ more) ≡ trues some + trues more
trues-append [] more = omega arith
trues-append (true ∷ some) more = more-behind _ _ _ (trues-append some more)
trues-append (false ∷ some) more = trues-append some more

pub falses-append : (some more : List Bool) → falses (some ++ more) ≡ falses some + falses more
falses-append [] more = omega arith
falses-append (true ∷ some) more = falses-append some more
falses-append (false ∷ some) more = more-behind _ _ _ (falses-append some more)

pub length-append : (some more : List Bool) → length (some ++ more) ≡ length some + length more
length-append [] more = omega arith
length-append (mark ∷ some) more = suc-behind _ _ _ (length-append some more)

pub split-length : (marks : List Bool) → length marks ≡ falses marks + trues marks
split-length [] = refl
split-length (true ∷ marks) = one-true _ _ _ (split-length marks)
split-length (false ∷ marks) = one-false _ _ _ (split-length marks)

pub few : (marks : List Bool) → length marks ≤ 1 → falses marks + trues marks ≤ 1
few marks e = (let s = split-length marks in omega (arith, e, s))

pub last-few : (marks : List Bool) → trues marks ≤ length marks
last-few marks = (let s = split-length marks in omega (arith, s))

-- ---- what passed a buffer
pub falses-sent : (sent taken inside : List Bool) → PassesOne sent taken inside → falses taken + falses inside ≡ falses sent
falses-sent sent taken inside is = sym (falses-append taken inside) ∙ ap falses is.in_order

pub trues-sent : (sent taken inside : List Bool) → PassesOne sent taken inside → trues taken + trues inside ≡ trues sent
trues-sent sent taken inside is = sym (trues-append taken inside) ∙ ap trues is.in_order

pub length-sent : (sent taken inside : List Bool) → PassesOne sent taken inside → length taken + length inside ≡ length sent
length-sent sent taken inside is = sym (length-append taken inside) ∙ ap length is.in_order

-- What a test of a word tells of it, with what is made in either case.
use Rattle.std.proofs.Common.{◌≡◌, ℕ, ◌≤◌, Bool, true, false, Option, Some, None, refl, sym, subst, leb, nat_le, if◌then◌else◌, cond, arith, rules}
use denote.Enum.Bare.{sameb, same_true}
use Rattle.std.proofs.lemmas.Bool.Decides.{leb_tells}
use Rattle.pascal_tree.specs.Word.{Spot, NameAt, NumberAt, CharacterAt}
use Rattle.pascal_tree.specs.SpellExpression.{reserved_at, symbol_at, name_at, number_at, character_at, relation_symbol, sign_symbol, adding_word, multiplying_word}
use Rattle.pascal_tree.specs.declared.token.Word.{Word}
use Rattle.pascal_tree.specs.declared.token.Word.TheVariants as word
use Rattle.pascal_tree.specs.declared.token.Reserved.{Reserved}
use Rattle.pascal_tree.specs.declared.token.Reserved.TheVariants as reserved
use Rattle.pascal_tree.specs.declared.token.Symbol.{Symbol}
use Rattle.pascal_tree.specs.declared.token.Symbol.TheVariants as symbol
use Rattle.pascal_tree.specs.contracts.token.Reserved as reserved_type
use Rattle.pascal_tree.specs.contracts.token.Symbol as symbol_type
use Rattle.pascal_tree.specs.declared.expression.Relation.{Relation}
use Rattle.pascal_tree.specs.declared.expression.Relation.TheVariants as relations
use Rattle.pascal_tree.specs.declared.expression.Sign.{Sign}
use Rattle.pascal_tree.specs.declared.expression.Sign.TheVariants as signs
use Rattle.pascal_tree.specs.declared.expression.Adding.{Adding}
use Rattle.pascal_tree.specs.declared.expression.Adding.TheVariants as addings
use Rattle.pascal_tree.specs.declared.expression.Multiplying.{Multiplying}
use Rattle.pascal_tree.specs.declared.expression.Multiplying.TheVariants as multiplyings
use Rattle.pascal_read.specs.ParseFirst.{end_at, word_at}
use Rattle.pascal_read.specs.ParseWants.{is_reserved, is_symbol, is_name, is_number, is_character, is_end, relation_of, sign_of, adding_of, multiplying_of}
use Rattle.pascal_reading.specs.Making.{when_test, when_name, when_number, when_character}

-- ---- What holds of a word and of the test

symbol_found : (R : Spot → Bool → Type 0) (found s : Symbol) (line : ℕ) (test : Bool) → sameb symbol_type.the_type found s ≡ test
    → R (symbol_at s line) true → R (symbol_at found line) false → R (symbol_at found line) test
symbol_found R found s line true e p q = subst (λ u. R (symbol_at u line) true) (sym (same_true symbol_type.the_type (search rules) found s e)) p
symbol_found R found s line false e p q = q

symbol_case : (R : Spot → Bool → Type 0) (w : Word) (line : ℕ) (s : Symbol)
    → R (symbol_at s line) true → R (word_at w line) false → R (word_at w line) (is_symbol w s)
symbol_case R (word.Symbol found) line s p q = symbol_found R found s line (sameb symbol_type.the_type found s) refl p q
symbol_case R other line s p q = q

pub on_symbol : (R : Spot → Bool → Type 0) (t : Spot) (s : Symbol) → R (symbol_at s t.line) true → R t false → R t (is_symbol t.word s)
on_symbol R t s p q = symbol_case R t.word t.line s p q

reserved_found : (R : Spot → Bool → Type 0) (found r : Reserved) (line : ℕ) (test : Bool) → sameb reserved_type.the_type found r ≡ test
    → R (reserved_at r line) true → (test ≡ false → R (reserved_at found line) false) → R (reserved_at found line) test
reserved_found R found r line true e p q = subst (λ u. R (reserved_at u line) true) (sym (same_true reserved_type.the_type (search rules) found r e)) p
reserved_found R found r line false e p q = q refl

reserved_case : (R : Spot → Bool → Type 0) (w : Word) (line : ℕ) (r : Reserved)
    → R (reserved_at r line) true → (is_reserved w r ≡ false → R (word_at w line) false) → R (word_at w line) (is_reserved w r)
reserved_case R (word.Reserved found) line r p q = reserved_found R found r line (sameb reserved_type.the_type found r) refl p q
reserved_case R other line r p q = q refl

pub on_reserved : (R : Spot → Bool → Type 0) (t : Spot) (r : Reserved)
    → R (reserved_at r t.line) true → (is_reserved t.word r ≡ false → R t false) → R t (is_reserved t.word r)
on_reserved R t r p q = reserved_case R t.word t.line r p q

end_case : (R : Spot → Bool → Type 0) (w : Word) (line : ℕ) → R (end_at line) true → R (word_at w line) false → R (word_at w line) (is_end w)
end_case R word.End line p q = p
end_case R other line p q = q

-- ---- What is made in either case

module _ {B : Type 0} (P : B → Type 0) (Q : Spot → (b : B) → P b → Type 0) (t : Spot) where
  pub by_symbol : (s : Symbol) (a b : B) (f : P a) (g : P b) → Q (symbol_at s t.line) a f → Q t b g
      → Q t (if is_symbol t.word s then a else b) (when_test P (is_symbol t.word s) a b f g)
  by_symbol s a b f g p q = on_symbol (λ u test. Q u (if test then a else b) (when_test P test a b f g)) t s p q

  pub by_reserved : (r : Reserved) (a b : B) (f : P a) (g : P b) → Q (reserved_at r t.line) a f → (is_reserved t.word r ≡ false → Q t b g)
      → Q t (if is_reserved t.word r then a else b) (when_test P (is_reserved t.word r) a b f g)
  by_reserved r a b f g p q = on_reserved (λ u test. Q u (if test then a else b) (when_test P test a b f g)) t r p q

  pub by_end : (a b : B) (f : P a) (g : P b) → Q (end_at t.line) a f → Q t b g
      → Q t (if is_end t.word then a else b) (when_test P (is_end t.word) a b f g)
  by_end a b f g p q = end_case (λ u test. Q u (if test then a else b) (when_test P test a b f g)) t.word t.line p q

  pub by_name : (a b : B) (f : NameAt → P a) (g : P b) → ((x : NameAt) → Q (name_at x) a (f x)) → Q t b g
      → Q t (if is_name t.word then a else b) (when_name P t.word t.line a b f g)
  by_name a b f g p q = by t.word t.line q
    where
      by : (w : Word) (line : ℕ) → Q (word_at w line) b g → Q (word_at w line) (if is_name w then a else b) (when_name P w line a b f g)
      by (word.Name letters) line q = p (record { letters = letters; line = line })
      by other line q = q

  pub by_number : (a b : B) (f : NumberAt → P a) (g : P b) → ((x : NumberAt) → Q (number_at x) a (f x)) → Q t b g
      → Q t (if is_number t.word then a else b) (when_number P t.word t.line a b f g)
  by_number a b f g p q = by t.word t.line q
    where
      by : (w : Word) (line : ℕ) → Q (word_at w line) b g → Q (word_at w line) (if is_number w then a else b) (when_number P w line a b f g)
      by (word.Number n) line q = p (record { value = n; line = line })
      by other line q = q

  pub by_character : (a b : B) (f : CharacterAt → P a) (g : P b) → ((x : CharacterAt) → Q (character_at x) a (f x)) → Q t b g
      → Q t (if is_character t.word then a else b) (when_character P t.word t.line a b f g)
  by_character a b f g p q = by t.word t.line q
    where
      by : (w : Word) (line : ℕ) → Q (word_at w line) b g → Q (word_at w line) (if is_character w then a else b) (when_character P w line a b f g)
      by (word.Character c) line q = p (record { code = c; line = line })
      by other line q = q

-- a level more
two_found : {B : Type 0} (P : B → Type 0) (Q : (b : B) → P b → Type 0) (n : ℕ) (a b : B) (f : P a) (g : P b) (test : Bool) → leb 2 n ≡ test
    → (2 ≤ n → Q a f) → Q b g → Q (cond test a b) (when_test P test a b f g)
two_found P Q n a b f g true e p q = let two : 2 ≤ n = grind (arith, leb_tells) in p two
two_found P Q n a b f g false e p q = q

pub by_level : {B : Type 0} (P : B → Type 0) (Q : (b : B) → P b → Type 0) (n : ℕ) (a b : B) (f : P a) (g : P b)
    → (2 ≤ n → Q a f) → Q b g → Q (if nat_le 2 n then a else b) (when_test P (nat_le 2 n) a b f g)
by_level P Q n a b f g p q = two_found P Q n a b f g (leb 2 n) refl p q

-- ---- Operators

module _ {A : Type 0} (P : Spot → A → Type 0) (t : Spot) where
  at_symbol : (s : Symbol) (a b : A) → P (symbol_at s t.line) a → P t b → P t (if is_symbol t.word s then a else b)
  at_symbol s a b p q = on_symbol (λ u test. P u (if test then a else b)) t s p q

  at_reserved : (r : Reserved) (a b : A) → P (reserved_at r t.line) a → P t b → P t (if is_reserved t.word r then a else b)
  at_reserved r a b p q = on_reserved (λ u test. P u (if test then a else b)) t r p (λ other. q)

pub by_relation : (P : Spot → Option Relation → Type 0) (t : Spot) → ((r : Relation) → P (symbol_at (relation_symbol r) t.line) (Some r)) → P t None
    → P t (relation_of t.word)
by_relation P t f g =
    at_symbol P t symbol.Equal _ _ (f relations.Equal)
    (at_symbol P t symbol.NotEqual _ _ (f relations.NotEqual)
    (at_symbol P t symbol.Less _ _ (f relations.Less)
    (at_symbol P t symbol.Greater _ _ (f relations.Greater)
    (at_symbol P t symbol.LessOrEqual _ _ (f relations.LessOrEqual)
    (at_symbol P t symbol.GreaterOrEqual _ _ (f relations.GreaterOrEqual) g)))))

pub by_sign : (P : Spot → Option Sign → Type 0) (t : Spot) → ((s : Sign) → P (symbol_at (sign_symbol s) t.line) (Some s)) → P t None → P t (sign_of t.word)
by_sign P t f g = at_symbol P t symbol.Plus _ _ (f signs.Plus) (at_symbol P t symbol.Minus _ _ (f signs.Minus) g)

pub by_adding : (P : Spot → Option Adding → Type 0) (t : Spot) → ((a : Adding) → P (word_at (adding_word a) t.line) (Some a)) → P t None
    → P t (adding_of t.word)
by_adding P t f g =
    at_symbol P t symbol.Plus _ _ (f addings.Plus)
    (at_symbol P t symbol.Minus _ _ (f addings.Minus)
    (at_reserved P t reserved.Or _ _ (f addings.Or) g))

pub by_multiplying : (P : Spot → Option Multiplying → Type 0) (t : Spot) → ((m : Multiplying) → P (word_at (multiplying_word m) t.line) (Some m)) → P t None
    → P t (multiplying_of t.word)
by_multiplying P t f g =
    at_symbol P t symbol.Times _ _ (f multiplyings.Times)
    (at_reserved P t reserved.Div _ _ (f multiplyings.Div)
    (at_reserved P t reserved.Mod _ _ (f multiplyings.Mod)
    (at_symbol P t symbol.And _ _ (f multiplyings.And) g)))

-- What a test of a word tells of it: a case for the word that is tested, and one for the others.
use Rattle.std.proofs.Common.{◌≡◌, ℕ, ◌≤◌, Bool, true, false, Option, Some, None, refl, sym, subst, leb, nat_le, if◌then◌else◌, cond, arith, rules}
use denote.Enum.Bare.{sameb, same_true}
use Rattle.std.proofs.lemmas.Bool.Decides.{leb_tells}
use Rattle.pascal_tree.specs.Word.{Spot, NameAt, NumberAt, CharacterAt}
use Rattle.pascal_tree.specs.SpellExpression.{reserved_at, symbol_at, name_at, number_at, character_at, relation_symbol, sign_symbol, adding_word, multiplying_word}
use Rattle.pascal_tree.specs.declared.token.Word.{Word}
use Rattle.pascal_tree.specs.declared.token.Word.TheVariants as word
use Rattle.pascal_tree.specs.declared.token.Reserved.{Reserved}
use Rattle.pascal_tree.specs.declared.token.Reserved.TheVariants as reserved
use Rattle.pascal_tree.specs.declared.token.Symbol.{Symbol}
use Rattle.pascal_tree.specs.declared.token.Symbol.TheVariants as symbol
use Rattle.pascal_tree.specs.contracts.token.Reserved as reserved_type
use Rattle.pascal_tree.specs.contracts.token.Symbol as symbol_type
use Rattle.pascal_tree.specs.declared.expression.Relation.{Relation}
use Rattle.pascal_tree.specs.declared.expression.Relation.TheVariants as relations
use Rattle.pascal_tree.specs.declared.expression.Sign.{Sign}
use Rattle.pascal_tree.specs.declared.expression.Sign.TheVariants as signs
use Rattle.pascal_tree.specs.declared.expression.Adding.{Adding}
use Rattle.pascal_tree.specs.declared.expression.Adding.TheVariants as addings
use Rattle.pascal_tree.specs.declared.expression.Multiplying.{Multiplying}
use Rattle.pascal_tree.specs.declared.expression.Multiplying.TheVariants as multiplyings
use Rattle.pascal_read.specs.ParseFirst.{end_at, word_at}
use Rattle.pascal_read.specs.ParseWants.{is_reserved, is_symbol, is_name, is_number, is_character, is_end, relation_of, sign_of, adding_of, multiplying_of}

symbol_found : {A : Type 0} (P : Spot → A → Type 0) (found s : Symbol) (line : ℕ) (a b : A) (test : Bool) → sameb symbol_type.the_type found s ≡ test →
    P (symbol_at s line) a → P (symbol_at found line) b → P (symbol_at found line) (cond test a b)
symbol_found P found s line a b true e f g = subst (λ u. P (symbol_at u line) a) (sym (same_true symbol_type.the_type (search rules) found s e)) f
symbol_found P found s line a b false e f g = g

symbol_case : {A : Type 0} (P : Spot → A → Type 0) (w : Word) (line : ℕ) (s : Symbol) (a b : A) →
    P (symbol_at s line) a → P (word_at w line) b → P (word_at w line) (if is_symbol w s then a else b)
symbol_case P (word.Symbol found) line s a b f g = symbol_found P found s line a b (sameb symbol_type.the_type found s) refl f g
symbol_case P other line s a b f g = g

pub if_symbol : {A : Type 0} (P : Spot → A → Type 0) (t : Spot) (s : Symbol) (a b : A) →
    ((line : ℕ) → P (symbol_at s line) a) → P t b → P t (if is_symbol t.word s then a else b)
if_symbol P t s a b f g = symbol_case P t.word t.line s a b (f t.line) g

reserved_found : {A : Type 0} (P : Spot → A → Type 0) (found r : Reserved) (line : ℕ) (a b : A) (test : Bool) → sameb reserved_type.the_type found r ≡ test →
    P (reserved_at r line) a → (test ≡ false → P (reserved_at found line) b) → P (reserved_at found line) (cond test a b)
reserved_found P found r line a b true e f g = subst (λ u. P (reserved_at u line) a) (sym (same_true reserved_type.the_type (search rules) found r e)) f
reserved_found P found r line a b false e f g = g refl

reserved_case : {A : Type 0} (P : Spot → A → Type 0) (w : Word) (line : ℕ) (r : Reserved) (a b : A) →
    P (reserved_at r line) a → (is_reserved w r ≡ false → P (word_at w line) b) → P (word_at w line) (if is_reserved w r then a else b)
reserved_case P (word.Reserved found) line r a b f g = reserved_found P found r line a b (sameb reserved_type.the_type found r) refl f g
reserved_case P other line r a b f g = g refl

pub if_reserved : {A : Type 0} (P : Spot → A → Type 0) (t : Spot) (r : Reserved) (a b : A) →
    ((line : ℕ) → P (reserved_at r line) a) → (is_reserved t.word r ≡ false → P t b) → P t (if is_reserved t.word r then a else b)
if_reserved P t r a b f g = reserved_case P t.word t.line r a b (f t.line) g

name_case : {A : Type 0} (P : Spot → A → Type 0) (w : Word) (line : ℕ) (a b : A) →
    ((x : NameAt) → P (name_at x) a) → P (word_at w line) b → P (word_at w line) (if is_name w then a else b)
name_case P (word.Name letters) line a b f g = f (record { letters = letters; line = line })
name_case P other line a b f g = g

pub if_name : {A : Type 0} (P : Spot → A → Type 0) (t : Spot) (a b : A) → ((x : NameAt) → P (name_at x) a) → P t b → P t (if is_name t.word then a else b)
if_name P t a b f g = name_case P t.word t.line a b f g

number_case : {A : Type 0} (P : Spot → A → Type 0) (w : Word) (line : ℕ) (a b : A) →
    ((x : NumberAt) → P (number_at x) a) → P (word_at w line) b → P (word_at w line) (if is_number w then a else b)
number_case P (word.Number n) line a b f g = f (record { value = n; line = line })
number_case P other line a b f g = g

pub if_number : {A : Type 0} (P : Spot → A → Type 0) (t : Spot) (a b : A) → ((x : NumberAt) → P (number_at x) a) → P t b → P t (if is_number t.word then a else b)
if_number P t a b f g = number_case P t.word t.line a b f g

character_case : {A : Type 0} (P : Spot → A → Type 0) (w : Word) (line : ℕ) (a b : A) →
    ((x : CharacterAt) → P (character_at x) a) → P (word_at w line) b → P (word_at w line) (if is_character w then a else b)
character_case P (word.Character c) line a b f g = f (record { code = c; line = line })
character_case P other line a b f g = g

pub if_character : {A : Type 0} (P : Spot → A → Type 0) (t : Spot) (a b : A) → ((x : CharacterAt) → P (character_at x) a) → P t b → P t (if is_character t.word then a else b)
if_character P t a b f g = character_case P t.word t.line a b f g

end_case : {A : Type 0} (P : Spot → A → Type 0) (w : Word) (line : ℕ) (a b : A) → P (end_at line) a → P (word_at w line) b → P (word_at w line) (if is_end w then a else b)
end_case P word.End line a b f g = f
end_case P other line a b f g = g

pub if_end : {A : Type 0} (P : Spot → A → Type 0) (t : Spot) (a b : A) → ((line : ℕ) → P (end_at line) a) → P t b → P t (if is_end t.word then a else b)
if_end P t a b f g = end_case P t.word t.line a b (f t.line) g

two_found : {A : Type 0} (P : A → Type 0) (n : ℕ) (a b : A) (test : Bool) → leb 2 n ≡ test → (2 ≤ n → P a) → P b → P (cond test a b)
two_found P n a b true e f g = let two : 2 ≤ n = grind (arith, leb_tells) in f two
two_found P n a b false e f g = g

-- a level more
pub if_two : {A : Type 0} (P : A → Type 0) (n : ℕ) (a b : A) → (2 ≤ n → P a) → P b → P (if nat_le 2 n then a else b)
if_two P n a b f g = two_found P n a b (leb 2 n) refl f g

-- the operators
pub if_relation : (P : Spot → Option Relation → Type 0) (t : Spot) → ((r : Relation) (line : ℕ) → P (symbol_at (relation_symbol r) line) (Some r)) → P t None → P t (relation_of t.word)
if_relation P t f g =
    if_symbol P t symbol.Equal _ _ (f relations.Equal)
    (if_symbol P t symbol.NotEqual _ _ (f relations.NotEqual)
    (if_symbol P t symbol.Less _ _ (f relations.Less)
    (if_symbol P t symbol.Greater _ _ (f relations.Greater)
    (if_symbol P t symbol.LessOrEqual _ _ (f relations.LessOrEqual)
    (if_symbol P t symbol.GreaterOrEqual _ _ (f relations.GreaterOrEqual) g)))))

pub if_sign : (P : Spot → Option Sign → Type 0) (t : Spot) → ((s : Sign) (line : ℕ) → P (symbol_at (sign_symbol s) line) (Some s)) → P t None → P t (sign_of t.word)
if_sign P t f g = if_symbol P t symbol.Plus _ _ (f signs.Plus) (if_symbol P t symbol.Minus _ _ (f signs.Minus) g)

pub if_adding : (P : Spot → Option Adding → Type 0) (t : Spot) → ((a : Adding) (line : ℕ) → P (word_at (adding_word a) line) (Some a)) → P t None → P t (adding_of t.word)
if_adding P t f g =
    if_symbol P t symbol.Plus _ _ (f addings.Plus)
    (if_symbol P t symbol.Minus _ _ (f addings.Minus)
    (if_reserved P t reserved.Or _ _ (f addings.Or) (λ h. g)))

pub if_multiplying : (P : Spot → Option Multiplying → Type 0) (t : Spot) → ((m : Multiplying) (line : ℕ) → P (word_at (multiplying_word m) line) (Some m)) → P t None → P t (multiplying_of t.word)
if_multiplying P t f g =
    if_symbol P t symbol.Times _ _ (f multiplyings.Times)
    (if_reserved P t reserved.Div _ _ (f multiplyings.Div) (λ h.
    if_reserved P t reserved.Mod _ _ (f multiplyings.Mod) (λ i.
    if_symbol P t symbol.And _ _ (f multiplyings.And) g)))

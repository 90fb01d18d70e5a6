-- The words that a program is made of.
use Rattle.std.specs.Prelude.{ℕ, ◌≤◌, ◌<◌, ◌⊎◌, List, [], ◌∷◌, length}
use Rattle.pascal_tree.specs.declared.token.Word.{Word}
use Rattle.pascal_tree.specs.declared.token.Word.TheVariants as word

-- a word, and the line on which it stands
pub record Spot : Type 0 where
  pub word : Word
  pub line : ℕ

-- a name, and the line on which it stands
pub record NameAt : Type 0 where
  pub letters : List ℕ
  pub line : ℕ

-- a number, and the line on which it stands
pub record NumberAt : Type 0 where
  pub value : ℕ
  pub line : ℕ

-- a character's code, and the line on which it stands
pub record CharacterAt : Type 0 where
  pub code : ℕ
  pub line : ℕ

abbrev pub IsCapital : ℕ → Type 0
IsCapital c = (65 ≤ c) × (c ≤ 90)

abbrev pub IsDigit : ℕ → Type 0
IsDigit c = (48 ≤ c) × (c ≤ 57)

-- capitals and digits
abbrev pub AreCapitalsAndDigits : List ℕ → Type 0
AreCapitalsAndDigits [] = Unit {0}
AreCapitalsAndDigits (c ∷ cs) = (IsCapital c ⊎ IsDigit c) × AreCapitalsAndDigits cs

-- a capital, then capitals and digits, that fit a line
abbrev pub IsName : List ℕ → Type 0
IsName [] = ⊥
IsName (c ∷ cs) = IsCapital c × AreCapitalsAndDigits cs × (length cs < 132)

-- what every word keeps
abbrev pub IsWord : Word → Type 0
IsWord (word.Name letters) = IsName letters
IsWord (word.Reserved r) = Unit {0}
IsWord (word.Number n) = n ≤ 32767
IsWord (word.Character c) = c ≤ 127
IsWord (word.Symbol s) = Unit {0}
IsWord word.End = Unit {0}

-- every word of a list keeps it
abbrev pub AreWords : List Spot → Type 0
AreWords [] = Unit {0}
AreWords (s ∷ ss) = IsWord s.word × AreWords ss

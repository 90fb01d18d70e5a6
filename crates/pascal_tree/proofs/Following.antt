-- What may follow a statement.
use Rattle.std.proofs.Common.{◌≡◌, ℕ, List, [], ◌∷◌, ◌++◌, refl, ap, ◌∙◌}
use Rattle.pascal_tree.specs.Word.{Spot, NameAt}
use Rattle.pascal_tree.specs.Expression.{Expr}
use Rattle.pascal_tree.specs.Statement.{Statement, if_then, if_else, while_do, for_do, Statements, no_statement, next_statement, Branches, no_branch, next_branch}
use Rattle.pascal_tree.specs.SpellExpression.{reserved_at}
use Rattle.pascal_tree.specs.SpellStatement.{spelled_statement, spelled_statements, spelled_branch, spelled_branches}
use Rattle.pascal_tree.specs.Limits.{EndsClosed}
use Rattle.pascal_tree.proofs.UniqueExpression.{first_strength}
use Rattle.pascal_tree.specs.declared.token.Word.{Word}
use Rattle.pascal_tree.specs.declared.token.Word.TheVariants as word
use Rattle.pascal_tree.specs.declared.token.Reserved.{Reserved}
use Rattle.pascal_tree.specs.declared.token.Reserved.TheVariants as reserved
use Rattle.pascal_tree.specs.declared.token.Symbol.TheVariants as symbol
use Rattle.pascal_tree.specs.declared.statement.Direction.{Direction}

-- what may follow a statement: a semicolon, END, UNTIL, or ELSE behind one that ends closed
pub data Ender : Type 0 where
  semicolon : Ender
  end : Ender
  until : Ender
  else : Ender

abbrev pub ender_word : Ender → Word
ender_word semicolon = word.Symbol symbol.Semicolon
ender_word end = word.Reserved reserved.End
ender_word until = word.Reserved reserved.Until
ender_word else = word.Reserved reserved.Else

abbrev pub Closes : Ender → Statement → Type 0
Closes semicolon s = Unit {0}
Closes end s = Unit {0}
Closes until s = Unit {0}
Closes else s = EndsClosed s

pub record Follows (s : Statement) (r : List Spot) : Type 0 where
  pub ender : Ender
  pub line : ℕ
  pub more : List Spot
  pub is : r ≡ (let t : Spot = record { word = ender_word ender; line = line } in t) ∷ more
  pub closes : Closes ender s

-- 1 where a word begins a statement
abbrev pub begins : Word → ℕ
begins (word.Name letters) = 1
begins (word.Reserved reserved.Begin) = 1
begins (word.Reserved reserved.If) = 1
begins (word.Reserved reserved.While) = 1
begins (word.Reserved reserved.Repeat) = 1
begins (word.Reserved reserved.For) = 1
begins (word.Reserved reserved.Case) = 1
begins other = 0

abbrev pub first_begins : List Spot → ℕ
first_begins [] = 0
first_begins (t ∷ more) = begins t.word

-- what may stand behind the name that begins a statement
abbrev pub marks : Word → ℕ
marks (word.Symbol symbol.Becomes) = 1
marks (word.Symbol symbol.OpenIndex) = 2
marks (word.Symbol symbol.Open) = 3
marks other = 0

abbrev pub first_marks : List Spot → ℕ
first_marks [] = 0
first_marks (t ∷ more) = marks t.word

ender_strength : (e : Ender) (l : ℕ) (r : List Spot) → first_strength ((let t : Spot = record { word = ender_word e; line = l } in t) ∷ r) ≡ 0
ender_strength semicolon l r = refl
ender_strength end l r = refl
ender_strength until l r = refl
ender_strength else l r = refl

ender_begins : (e : Ender) (l : ℕ) (r : List Spot) → first_begins ((let t : Spot = record { word = ender_word e; line = l } in t) ∷ r) ≡ 0
ender_begins semicolon l r = refl
ender_begins end l r = refl
ender_begins until l r = refl
ender_begins else l r = refl

ender_marks : (e : Ender) (l : ℕ) (r : List Spot) → first_marks ((let t : Spot = record { word = ender_word e; line = l } in t) ∷ r) ≡ 0
ender_marks semicolon l r = refl
ender_marks end l r = refl
ender_marks until l r = refl
ender_marks else l r = refl

pub follows_strength : (x : Statement) (r : List Spot) → Follows x r → first_strength r ≡ 0
follows_strength x r f = ap first_strength f.is ∙ ender_strength f.ender f.line f.more

pub follows_begins : (x : Statement) (r : List Spot) → Follows x r → first_begins r ≡ 0
follows_begins x r f = ap first_begins f.is ∙ ender_begins f.ender f.line f.more

pub follows_marks : (x : Statement) (r : List Spot) → Follows x r → first_marks r ≡ 0
follows_marks x r f = ap first_marks f.is ∙ ender_marks f.ender f.line f.more

-- what follows a statement follows the one that it ends in
handed : (x y : Statement) (r : List Spot) → (f : Follows x r) → Closes f.ender y → Follows y r
handed x y r f c = record { ender = f.ender; line = f.line; more = f.more; is = f.is; closes = c }

close_then : (k : Ender) (l : ℕ) (e : Expr) (t : ℕ) (s : Statement) → Closes k (if_then l e t s) → Closes k s
close_then semicolon l e t s c = tt
close_then end l e t s c = tt
close_then until l e t s c = tt
close_then else l e t s c = absurd c

close_else : (k : Ender) (l : ℕ) (e : Expr) (t : ℕ) (s : Statement) (o : ℕ) (u : Statement) → Closes k (if_else l e t s o u) → Closes k u
close_else semicolon l e t s o u c = tt
close_else end l e t s o u c = tt
close_else until l e t s o u c = tt
close_else else l e t s o u c = c

close_while : (k : Ender) (l : ℕ) (e : Expr) (d : ℕ) (s : Statement) → Closes k (while_do l e d s) → Closes k s
close_while semicolon l e d s c = tt
close_while end l e d s c = tt
close_while until l e d s c = tt
close_while else l e d s c = c

close_for : (k : Ender) (l : ℕ) (x : NameAt) (b : ℕ) (e : Expr) (w : Direction) (t : ℕ) (f : Expr) (d : ℕ) (s : Statement) →
    Closes k (for_do l x b e w t f d s) → Closes k s
close_for semicolon l x b e w t f d s c = tt
close_for end l x b e w t f d s c = tt
close_for until l x b e w t f d s c = tt
close_for else l x b e w t f d s c = c

pub follows_then : (l : ℕ) (e : Expr) (t : ℕ) (s : Statement) (r : List Spot) → Follows (if_then l e t s) r → Follows s r
follows_then l e t s r f = handed _ s r f (close_then f.ender l e t s f.closes)

pub follows_else : (l : ℕ) (e : Expr) (t : ℕ) (s : Statement) (o : ℕ) (u : Statement) (r : List Spot) → Follows (if_else l e t s o u) r → Follows u r
follows_else l e t s o u r f = handed _ u r f (close_else f.ender l e t s o u f.closes)

pub follows_while : (l : ℕ) (e : Expr) (d : ℕ) (s : Statement) (r : List Spot) → Follows (while_do l e d s) r → Follows s r
follows_while l e d s r f = handed _ s r f (close_while f.ender l e d s f.closes)

pub follows_for : (l : ℕ) (x : NameAt) (b : ℕ) (e : Expr) (w : Direction) (t : ℕ) (f : Expr) (d : ℕ) (s : Statement) (r : List Spot) →
    Follows (for_do l x b e w t f d s) r → Follows s r
follows_for l x b e w t f d s r h = handed _ s r h (close_for h.ender l x b e w t f d s h.closes)

-- ELSE follows what ends closed
pub else_follows : (s : Statement) (o : ℕ) (r : List Spot) → EndsClosed s → Follows s (reserved_at reserved.Else o ∷ r)
else_follows s o r c = record { ender = else; line = o; more = r; is = refl; closes = c }

-- ELSE doesn't follow an IF without ELSE
pub no_else : (k : Ender) (l : ℕ) (e : Expr) (t : ℕ) (s : Statement) → Closes k (if_then l e t s) → ender_word k ≡ word.Reserved reserved.Else → ⊥
no_else semicolon l e t s c h = cc
no_else end l e t s c h = cc
no_else until l e t s c h = cc
no_else else l e t s c h = c

-- what closes a list of statements
pub data Closer : Type 0 where
  by_end : Closer
  by_until : Closer

abbrev pub closer_word : Closer → Reserved
closer_word by_end = reserved.End
closer_word by_until = reserved.Until

pub follows_list : (more : Statements) (k : Closer) (c : ℕ) (r : List Spot) (s : Statement) → Follows s (spelled_statements more ++ (reserved_at (closer_word k) c ∷ r))
follows_list no_statement by_end c r s = record { ender = end; line = c; more = r; is = refl; closes = tt }
follows_list no_statement by_until c r s = record { ender = until; line = c; more = r; is = refl; closes = tt }
follows_list (next_statement l t more) k c r s =
    record { ender = semicolon; line = l; more = (spelled_statement t ++ spelled_statements more) ++ (reserved_at (closer_word k) c ∷ r); is = refl; closes = tt }

pub follows_branches : (more : Branches) (c : ℕ) (r : List Spot) (s : Statement) → Follows s (spelled_branches more ++ (reserved_at reserved.End c ∷ r))
follows_branches no_branch c r s = record { ender = end; line = c; more = r; is = refl; closes = tt }
follows_branches (next_branch l b more) c r s =
    record { ender = semicolon; line = l; more = (spelled_branch b ++ spelled_branches more) ++ (reserved_at reserved.End c ∷ r); is = refl; closes = tt }

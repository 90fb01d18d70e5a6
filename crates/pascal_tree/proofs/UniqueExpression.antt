-- No two expressions have one spelling, whatever follows that doesn't continue them.
use Rattle.std.proofs.Common.{◌≡◌, ◌≢◌, ℕ, ◌<◌, List, [], ◌∷◌, ◌++◌, Some, None, refl, sym, ap, ap₂, ◌∙◌, append_assoc, arith}
use Rattle.pascal_tree.specs.Word.{Spot, NameAt, NumberAt, CharacterAt}
use Rattle.pascal_tree.specs.Expression.{Expr, alone, compared, Simple, simple, Addends, no_addend, addend, Term, term, Multipliers, no_multiplier, multiplier, Factor, number, character, named, element, called, group, negated, Index, index, Arguments, arguments, Exprs, no_expr, next_expr}
use Rattle.pascal_tree.specs.SpellExpression.{spelled_expr, spelled_simple, spelled_addends, spelled_term, spelled_multipliers, spelled_factor, spelled_index, spelled_arguments, spelled_exprs, symbol_at, name_at, number_at, character_at, relation_symbol, sign_symbol, adding_word, multiplying_word}
use Rattle.pascal_tree.specs.declared.token.Word.{Word}
use Rattle.pascal_tree.specs.declared.token.Word.TheVariants as word
use Rattle.pascal_tree.specs.declared.token.Reserved.TheVariants as reserved
use Rattle.pascal_tree.specs.declared.token.Symbol.{Symbol}
use Rattle.pascal_tree.specs.declared.token.Symbol.TheVariants as symbol
use Rattle.pascal_tree.specs.declared.expression.Relation.{Relation}
use Rattle.pascal_tree.specs.declared.expression.Relation.TheVariants as relation
use Rattle.pascal_tree.specs.declared.expression.Sign.{Sign}
use Rattle.pascal_tree.specs.declared.expression.Sign.TheVariants as sign
use Rattle.pascal_tree.specs.declared.expression.Adding.{Adding}
use Rattle.pascal_tree.specs.declared.expression.Adding.TheVariants as adding
use Rattle.pascal_tree.specs.declared.expression.Multiplying.{Multiplying}
use Rattle.pascal_tree.specs.declared.expression.Multiplying.TheVariants as multiplying

-- How strongly a symbol ties to what stands before it: a relation 1, an adding operator 2, a
-- multiplying operator 3, a bracket behind a name 4, and any other word not at all.
abbrev pub symbol_strength : Symbol → ℕ
symbol_strength symbol.Equal = 1
symbol_strength symbol.NotEqual = 1
symbol_strength symbol.Less = 1
symbol_strength symbol.Greater = 1
symbol_strength symbol.LessOrEqual = 1
symbol_strength symbol.GreaterOrEqual = 1
symbol_strength symbol.Plus = 2
symbol_strength symbol.Minus = 2
symbol_strength symbol.Times = 3
symbol_strength symbol.And = 3
symbol_strength symbol.Open = 4
symbol_strength symbol.OpenIndex = 4
symbol_strength other = 0

abbrev pub strength : Word → ℕ
strength (word.Symbol s) = symbol_strength s
strength (word.Reserved reserved.Or) = 2
strength (word.Reserved reserved.Div) = 3
strength (word.Reserved reserved.Mod) = 3
strength other = 0

abbrev pub first_strength : List Spot → ℕ
first_strength [] = 0
first_strength (t ∷ more) = strength t.word

pub first_of : {X : Type 0} {a b : X} {r s : List X} → a ∷ r ≡ b ∷ s → a ≡ b
first_of e = cc

pub rest_of : {X : Type 0} {a b : X} {r s : List X} → a ∷ r ≡ b ∷ s → r ≡ s
rest_of e = cc

pub same_name : (m n : NameAt) → name_at m ≡ name_at n → m ≡ n
same_name m n e =
    let w : word.Name m.letters ≡ word.Name n.letters = ap (λ t. t.word) e in
    let x : m.letters ≡ n.letters = cc in
    let l : m.line ≡ n.line = ap (λ t. t.line) e in
    ap₂ (λ a b. let v : NameAt = record { letters = a; line = b } in v) x l

pub differ : (a b : Spot) (r s : List Spot) → a ∷ r ≡ b ∷ s → (a.word ≡ b.word → ⊥) → ⊥
differ a b r s e n = n (ap (λ t. t.word) (first_of e))

pub same_number : (m n : NumberAt) → number_at m ≡ number_at n → m ≡ n
same_number m n e =
    let w : word.Number m.value ≡ word.Number n.value = ap (λ t. t.word) e in
    let x : m.value ≡ n.value = cc in
    let l : m.line ≡ n.line = ap (λ t. t.line) e in
    ap₂ (λ a b. let v : NumberAt = record { value = a; line = b } in v) x l

pub same_character : (m n : CharacterAt) → character_at m ≡ character_at n → m ≡ n
same_character m n e =
    let w : word.Character m.code ≡ word.Character n.code = ap (λ t. t.word) e in
    let x : m.code ≡ n.code = cc in
    let l : m.line ≡ n.line = ap (λ t. t.line) e in
    ap₂ (λ a b. let v : CharacterAt = record { code = a; line = b } in v) x l

pub line_of : (a b : Word) (l m : ℕ) → (let s : Spot = record { word = a; line = l } in s) ≡ (let t : Spot = record { word = b; line = m } in t) → l ≡ m
line_of a b l m e = ap (λ t. t.line) e

pub same_relation : (a b : Relation) → relation_symbol a ≡ relation_symbol b → a ≡ b
same_relation relation.Equal relation.Equal e = refl
same_relation relation.NotEqual relation.NotEqual e = refl
same_relation relation.Less relation.Less e = refl
same_relation relation.Greater relation.Greater e = refl
same_relation relation.LessOrEqual relation.LessOrEqual e = refl
same_relation relation.GreaterOrEqual relation.GreaterOrEqual e = refl
same_relation a b e = cc

pub same_sign : (a b : Sign) → sign_symbol a ≡ sign_symbol b → a ≡ b
same_sign sign.Plus sign.Plus e = refl
same_sign sign.Minus sign.Minus e = refl
same_sign a b e = cc

pub same_adding : (a b : Adding) → adding_word a ≡ adding_word b → a ≡ b
same_adding adding.Plus adding.Plus e = refl
same_adding adding.Minus adding.Minus e = refl
same_adding adding.Or adding.Or e = refl
same_adding a b e = cc

pub same_multiplying : (a b : Multiplying) → multiplying_word a ≡ multiplying_word b → a ≡ b
same_multiplying multiplying.Times multiplying.Times e = refl
same_multiplying multiplying.Div multiplying.Div e = refl
same_multiplying multiplying.Mod multiplying.Mod e = refl
same_multiplying multiplying.And multiplying.And e = refl
same_multiplying a b e = cc

pub below_multipliers : (ms : Multipliers) (r : List Spot) → first_strength r < 3 → first_strength (spelled_multipliers ms ++ r) < 4
below_multipliers no_multiplier r h = omega arith
below_multipliers (multiplier multiplying.Times l f more) r h = omega arith
below_multipliers (multiplier multiplying.Div l f more) r h = omega arith
below_multipliers (multiplier multiplying.Mod l f more) r h = omega arith
below_multipliers (multiplier multiplying.And l f more) r h = omega arith

pub below_addends : (more : Addends) (r : List Spot) → first_strength r < 2 → first_strength (spelled_addends more ++ r) < 3
below_addends no_addend r h = omega arith
below_addends (addend adding.Plus l t more) r h = omega arith
below_addends (addend adding.Minus l t more) r h = omega arith
below_addends (addend adding.Or l t more) r h = omega arith

pub below_relation : (a : Relation) (l : ℕ) (r : List Spot) → first_strength (symbol_at (relation_symbol a) l ∷ r) ≡ 1
below_relation relation.Equal l r = refl
below_relation relation.NotEqual l r = refl
below_relation relation.Less l r = refl
below_relation relation.Greater l r = refl
below_relation relation.LessOrEqual l r = refl
below_relation relation.GreaterOrEqual l r = refl

below_sign : (a : Sign) (l : ℕ) (r : List Spot) → first_strength (symbol_at (sign_symbol a) l ∷ r) ≡ 2
below_sign sign.Plus l r = refl
below_sign sign.Minus l r = refl

strength_multiplying : (a : Multiplying) → strength (multiplying_word a) ≡ 3
strength_multiplying multiplying.Times = refl
strength_multiplying multiplying.Div = refl
strength_multiplying multiplying.Mod = refl
strength_multiplying multiplying.And = refl

strength_adding : (a : Adding) → strength (adding_word a) ≡ 2
strength_adding adding.Plus = refl
strength_adding adding.Minus = refl
strength_adding adding.Or = refl

pub below_exprs : (es : Exprs) (c : ℕ) (r : List Spot) → first_strength (spelled_exprs es ++ (symbol_at symbol.Close c ∷ r)) ≡ 0
below_exprs no_expr c r = refl
below_exprs (next_expr l e more) c r = refl

-- a factor, and so a term, begins with no sign
no_sign_factor : (f : Factor) (r : List Spot) → first_strength (spelled_factor f ++ r) ≢ 2
no_sign_factor (number n) r h = absurd (omega arith)
no_sign_factor (character n) r h = absurd (omega arith)
no_sign_factor (named n) r h = absurd (omega arith)
no_sign_factor (element n i) r h = absurd (omega arith)
no_sign_factor (called n a) r h = absurd (omega arith)
no_sign_factor (group o e c) r h = absurd (omega arith)
no_sign_factor (negated l f) r h = absurd (omega arith)

pub no_sign_term : (t : Term) (r : List Spot) → first_strength (spelled_term t ++ r) ≢ 2
no_sign_term (term f more) r h =
    no_sign_factor f (spelled_multipliers more ++ r) (ap first_strength (sym (append_assoc (spelled_factor f) (spelled_multipliers more) r)) ∙ h)

pub regroup : (a b r c d s : List Spot) → (a ++ b) ++ r ≡ (c ++ d) ++ s → a ++ (b ++ r) ≡ c ++ (d ++ s)
regroup a b r c d s e = sym (append_assoc a b r) ∙ e ∙ append_assoc c d s

pub regroup3 : (a b c r d f g s : List Spot) → (a ++ (b ++ c)) ++ r ≡ (d ++ (f ++ g)) ++ s → a ++ (b ++ (c ++ r)) ≡ d ++ (f ++ (g ++ s))
regroup3 a b c r d f g s e =
    ap (λ v. a ++ v) (sym (append_assoc b c r)) ∙ regroup a (b ++ c) r d (f ++ g) s e ∙ ap (λ v. d ++ v) (append_assoc f g s)

mutual
  pub unique_factor : (x y : Factor) (r s : List Spot) → first_strength r < 4 → first_strength s < 4 →
      spelled_factor x ++ r ≡ spelled_factor y ++ s → (x ≡ y) × (r ≡ s)
  unique_factor (number x) (number y) r s p q e = (ap number (same_number x y (first_of e)), rest_of e)
  unique_factor (character x) (character y) r s p q e = (ap character (same_character x y (first_of e)), rest_of e)
  unique_factor (named x) (named y) r s p q e = (ap named (same_name x y (first_of e)), rest_of e)
  unique_factor (named x) (element y (index o f c)) r s p q e =
      let h : first_strength r ≡ 4 = ap first_strength (rest_of e) in absurd (omega arith)
  unique_factor (named x) (called y (arguments o f more c)) r s p q e =
      let h : first_strength r ≡ 4 = ap first_strength (rest_of e) in absurd (omega arith)
  unique_factor (element x (index o f c)) (named y) r s p q e =
      let h : 4 ≡ first_strength s = ap first_strength (rest_of e) in absurd (omega arith)
  unique_factor (called x (arguments o f more c)) (named y) r s p q e =
      let h : 4 ≡ first_strength s = ap first_strength (rest_of e) in absurd (omega arith)
  unique_factor (element x (index o f c)) (called y (arguments u g more d)) r s p q e = absurd (differ _ _ _ _ (rest_of e) (λ h. cc))
  unique_factor (called x (arguments o f more c)) (element y (index u g d)) r s p q e = absurd (differ _ _ _ _ (rest_of e) (λ h. cc))
  unique_factor (element x i) (element y j) r s p q e =
      let m = same_name x y (first_of e) in
      let b = unique_index i j r s (rest_of e) in
      let w : i ≡ j = b.0 in
      (cc, b.1)
  unique_factor (called x a) (called y c) r s p q e =
      let m = same_name x y (first_of e) in
      let b = unique_arguments a c r s (rest_of e) in
      let w : a ≡ c = b.0 in
      (cc, b.1)
  unique_factor (group o f c) (group u g d) r s p q e =
      let k = line_of _ _ _ _ (first_of e) in
      let t : spelled_expr f ++ (symbol_at symbol.Close c ∷ r) ≡ spelled_expr g ++ (symbol_at symbol.Close d ∷ s) =
      regroup (spelled_expr f) (symbol_at symbol.Close c ∷ []) r (spelled_expr g) (symbol_at symbol.Close d ∷ []) s (rest_of e) in
      let b = unique_expr f g (symbol_at symbol.Close c ∷ r) (symbol_at symbol.Close d ∷ s) (omega arith) (omega arith) t in
      let l : c ≡ d = line_of _ _ _ _ (first_of b.1) in
      let w : f ≡ g = b.0 in
      (cc, rest_of b.1)
  unique_factor (negated l f) (negated m g) r s p q e =
      let k = line_of _ _ _ _ (first_of e) in
      let b = unique_factor f g r s p q (rest_of e) in
      let w : f ≡ g = b.0 in
      (cc, b.1)
  unique_factor x y r s p q e = absurd (differ _ _ _ _ e (λ h. cc))

  pub unique_index : (x y : Index) (r s : List Spot) → spelled_index x ++ r ≡ spelled_index y ++ s → (x ≡ y) × (r ≡ s)
  unique_index (index o f c) (index u g d) r s e =
      let k = line_of _ _ _ _ (first_of e) in
      let t : spelled_expr f ++ (symbol_at symbol.CloseIndex c ∷ r) ≡ spelled_expr g ++ (symbol_at symbol.CloseIndex d ∷ s) =
      regroup (spelled_expr f) (symbol_at symbol.CloseIndex c ∷ []) r (spelled_expr g) (symbol_at symbol.CloseIndex d ∷ []) s (rest_of e) in
      let b = unique_expr f g (symbol_at symbol.CloseIndex c ∷ r) (symbol_at symbol.CloseIndex d ∷ s) (omega arith) (omega arith) t in
      let l : c ≡ d = line_of _ _ _ _ (first_of b.1) in
      let w : f ≡ g = b.0 in
      (cc, rest_of b.1)

  pub unique_arguments : (x y : Arguments) (r s : List Spot) → spelled_arguments x ++ r ≡ spelled_arguments y ++ s → (x ≡ y) × (r ≡ s)
  unique_arguments (arguments o f es c) (arguments u g fs d) r s e =
      let k = line_of _ _ _ _ (first_of e) in
      let t : spelled_expr f ++ (spelled_exprs es ++ (symbol_at symbol.Close c ∷ r)) ≡ spelled_expr g ++ (spelled_exprs fs ++ (symbol_at symbol.Close d ∷ s)) =
      regroup3 (spelled_expr f) (spelled_exprs es) (symbol_at symbol.Close c ∷ []) r (spelled_expr g) (spelled_exprs fs) (symbol_at symbol.Close d ∷ []) s (rest_of e) in
      let b = unique_expr f g _ _ (rw below_exprs (omega arith)) (rw below_exprs (omega arith)) t in
      let w : f ≡ g = b.0 in
      let a = unique_exprs es fs c d r s b.1 in
      let v : es ≡ fs = a.0 in
      let l : c ≡ d = a.1 in
      (cc, a.2)

  pub unique_exprs : (x y : Exprs) (c d : ℕ) (r s : List Spot) →
      spelled_exprs x ++ (symbol_at symbol.Close c ∷ r) ≡ spelled_exprs y ++ (symbol_at symbol.Close d ∷ s) → (x ≡ y) × (c ≡ d) × (r ≡ s)
  unique_exprs no_expr no_expr c d r s e = (refl, line_of _ _ _ _ (first_of e), rest_of e)
  unique_exprs (next_expr l f es) (next_expr m g fs) c d r s e =
      let k = line_of _ _ _ _ (first_of e) in
      let t : spelled_expr f ++ (spelled_exprs es ++ (symbol_at symbol.Close c ∷ r)) ≡ spelled_expr g ++ (spelled_exprs fs ++ (symbol_at symbol.Close d ∷ s)) =
      regroup (spelled_expr f) (spelled_exprs es) (symbol_at symbol.Close c ∷ r) (spelled_expr g) (spelled_exprs fs) (symbol_at symbol.Close d ∷ s) (rest_of e) in
      let b = unique_expr f g _ _ (rw below_exprs (omega arith)) (rw below_exprs (omega arith)) t in
      let w : f ≡ g = b.0 in
      let a = unique_exprs es fs c d r s b.1 in
      let v : es ≡ fs = a.0 in
      (cc, a.1, a.2)
  unique_exprs x y c d r s e = absurd (differ _ _ _ _ e (λ h. cc))

  pub unique_multipliers : (x y : Multipliers) (r s : List Spot) → first_strength r < 3 → first_strength s < 3 →
      spelled_multipliers x ++ r ≡ spelled_multipliers y ++ s → (x ≡ y) × (r ≡ s)
  unique_multipliers no_multiplier no_multiplier r s p q e = (refl, e)
  unique_multipliers no_multiplier (multiplier m l f more) r s p q e =
      let h : first_strength r ≡ strength (multiplying_word m) = ap first_strength e in absurd (omega (arith, strength_multiplying m))
  unique_multipliers (multiplier m l f more) no_multiplier r s p q e =
      let h : strength (multiplying_word m) ≡ first_strength s = ap first_strength e in absurd (omega (arith, strength_multiplying m))
  unique_multipliers (multiplier m l f xs) (multiplier n k g ys) r s p q e =
      let o = same_multiplying m n (ap (λ t. t.word) (first_of e)) in
      let z = line_of _ _ _ _ (first_of e) in
      let t : spelled_factor f ++ (spelled_multipliers xs ++ r) ≡ spelled_factor g ++ (spelled_multipliers ys ++ s) =
      regroup (spelled_factor f) (spelled_multipliers xs) r (spelled_factor g) (spelled_multipliers ys) s (rest_of e) in
      let b = unique_factor f g _ _ (below_multipliers xs r p) (below_multipliers ys s q) t in
      let w : f ≡ g = b.0 in
      let a = unique_multipliers xs ys r s p q b.1 in
      let v : xs ≡ ys = a.0 in
      (cc, a.1)

  pub unique_term : (x y : Term) (r s : List Spot) → first_strength r < 3 → first_strength s < 3 →
      spelled_term x ++ r ≡ spelled_term y ++ s → (x ≡ y) × (r ≡ s)
  unique_term (term f xs) (term g ys) r s p q e =
      let t : spelled_factor f ++ (spelled_multipliers xs ++ r) ≡ spelled_factor g ++ (spelled_multipliers ys ++ s) =
      regroup (spelled_factor f) (spelled_multipliers xs) r (spelled_factor g) (spelled_multipliers ys) s (e) in
      let b = unique_factor f g _ _ (below_multipliers xs r p) (below_multipliers ys s q) t in
      let w : f ≡ g = b.0 in
      let a = unique_multipliers xs ys r s p q b.1 in
      let v : xs ≡ ys = a.0 in
      (cc, a.1)

  pub unique_addends : (x y : Addends) (r s : List Spot) → first_strength r < 2 → first_strength s < 2 →
      spelled_addends x ++ r ≡ spelled_addends y ++ s → (x ≡ y) × (r ≡ s)
  unique_addends no_addend no_addend r s p q e = (refl, e)
  unique_addends no_addend (addend m l f more) r s p q e =
      let h : first_strength r ≡ strength (adding_word m) = ap first_strength e in absurd (omega (arith, strength_adding m))
  unique_addends (addend m l f more) no_addend r s p q e =
      let h : strength (adding_word m) ≡ first_strength s = ap first_strength e in absurd (omega (arith, strength_adding m))
  unique_addends (addend m l f xs) (addend n k g ys) r s p q e =
      let o = same_adding m n (ap (λ t. t.word) (first_of e)) in
      let z = line_of _ _ _ _ (first_of e) in
      let t : spelled_term f ++ (spelled_addends xs ++ r) ≡ spelled_term g ++ (spelled_addends ys ++ s) =
      regroup (spelled_term f) (spelled_addends xs) r (spelled_term g) (spelled_addends ys) s (rest_of e) in
      let b = unique_term f g _ _ (below_addends xs r p) (below_addends ys s q) t in
      let w : f ≡ g = b.0 in
      let a = unique_addends xs ys r s p q b.1 in
      let v : xs ≡ ys = a.0 in
      (cc, a.1)

  pub unique_simple : (x y : Simple) (r s : List Spot) → first_strength r < 2 → first_strength s < 2 →
      spelled_simple x ++ r ≡ spelled_simple y ++ s → (x ≡ y) × (r ≡ s)
  unique_simple (simple None f xs) (simple None g ys) r s p q e =
      let t : spelled_term f ++ (spelled_addends xs ++ r) ≡ spelled_term g ++ (spelled_addends ys ++ s) =
      regroup (spelled_term f) (spelled_addends xs) r (spelled_term g) (spelled_addends ys) s (e) in
      let b = unique_term f g _ _ (below_addends xs r p) (below_addends ys s q) t in
      let w : f ≡ g = b.0 in
      let a = unique_addends xs ys r s p q b.1 in
      let v : xs ≡ ys = a.0 in
      (cc, a.1)
  unique_simple (simple None f xs) (simple (Some a) g ys) r s p q e =
      let h = ap first_strength (sym (append_assoc (spelled_term f) (spelled_addends xs) r) ∙ e) in
      absurd (no_sign_term f (spelled_addends xs ++ r) (h ∙ below_sign a.0 a.1 (spelled_term g ++ spelled_addends ys ++ s)))
  unique_simple (simple (Some a) f xs) (simple None g ys) r s p q e =
      let h = ap first_strength (sym (append_assoc (spelled_term g) (spelled_addends ys) s) ∙ sym e) in
      absurd (no_sign_term g (spelled_addends ys ++ s) (h ∙ below_sign a.0 a.1 ((spelled_term f ++ spelled_addends xs) ++ r)))
  unique_simple (simple (Some u) f xs) (simple (Some v) g ys) r s p q e =
      let h : word.Symbol (sign_symbol u.0) ≡ word.Symbol (sign_symbol v.0) = ap (λ t. t.word) (first_of e) in
      let o = same_sign u.0 v.0 cc in
      let z : u.1 ≡ v.1 = ap (λ t. t.line) (first_of e) in
      let uv : u ≡ v = ap₂ (λ i j. let k : Sign × ℕ = (i, j) in k) o z in
      let t : spelled_term f ++ (spelled_addends xs ++ r) ≡ spelled_term g ++ (spelled_addends ys ++ s) =
      regroup (spelled_term f) (spelled_addends xs) r (spelled_term g) (spelled_addends ys) s (rest_of e) in
      let b = unique_term f g _ _ (below_addends xs r p) (below_addends ys s q) t in
      let w : f ≡ g = b.0 in
      let a = unique_addends xs ys r s p q b.1 in
      let y : xs ≡ ys = a.0 in
      (cc, a.1)

  pub unique_expr : (x y : Expr) (r s : List Spot) → first_strength r < 1 → first_strength s < 1 →
      spelled_expr x ++ r ≡ spelled_expr y ++ s → (x ≡ y) × (r ≡ s)
  unique_expr (alone x) (alone y) r s p q e =
      let b = unique_simple x y r s (omega arith) (omega arith) e in (ap alone b.0, b.1)
  unique_expr (alone x) (compared y m l z) r s p q e =
      let n = below_relation m l (spelled_simple z ++ s) in
      let b = unique_simple x y r (symbol_at (relation_symbol m) l ∷ (spelled_simple z ++ s)) (omega arith) (omega arith) (e ∙ append_assoc (spelled_simple y) (symbol_at (relation_symbol m) l ∷ spelled_simple z) s) in
      let h = ap first_strength b.1 in absurd (omega arith)
  unique_expr (compared y m l z) (alone x) r s p q e =
      let n = below_relation m l (spelled_simple z ++ r) in
      let b = unique_simple y x (symbol_at (relation_symbol m) l ∷ (spelled_simple z ++ r)) s (omega arith) (omega arith) (sym (append_assoc (spelled_simple y) (symbol_at (relation_symbol m) l ∷ spelled_simple z) r) ∙ e) in
      let h = ap first_strength b.1 in absurd (omega arith)
  unique_expr (compared x m l z) (compared y n k w) r s p q e =
      let i = below_relation m l (spelled_simple z ++ r) in
      let j = below_relation n k (spelled_simple w ++ s) in
      let b = unique_simple x y (symbol_at (relation_symbol m) l ∷ (spelled_simple z ++ r)) (symbol_at (relation_symbol n) k ∷ (spelled_simple w ++ s)) (omega arith) (omega arith) (regroup (spelled_simple x) (symbol_at (relation_symbol m) l ∷ spelled_simple z) r (spelled_simple y) (symbol_at (relation_symbol n) k ∷ spelled_simple w) s e) in
      let xy : x ≡ y = b.0 in
      let g : word.Symbol (relation_symbol m) ≡ word.Symbol (relation_symbol n) = ap (λ t. t.word) (first_of b.1) in
      let mn = same_relation m n cc in
      let lk = line_of _ _ _ _ (first_of b.1) in
      let c = unique_simple z w r s (omega arith) (omega arith) (rest_of b.1) in
      let zw : z ≡ w = c.0 in
      (cc, c.1)

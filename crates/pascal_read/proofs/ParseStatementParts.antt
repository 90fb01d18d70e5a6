-- The words and the levels of a statement from those of its parts.
use Rattle.std.proofs.Common.{◌≡◌, ℕ, ◌+◌, ◌-◌, Bool, true, List, [], ◌∷◌, ◌++◌, Option, Some, None, IfSome, sym, ap, ◌∙◌, append_assoc, subst, arith}
use Rattle.pascal_tree.specs.Word.{Spot}
use Rattle.pascal_tree.specs.Expression.{Expr}
use Rattle.pascal_tree.specs.SeenExpression.{seen_expr}
use Rattle.pascal_tree.specs.Statement.{Statement, Sequence, while_do, repeat_until, for_do, case_of, Branch, Branches}
use Rattle.pascal_tree.specs.SeenStatement.{if_of}
use Rattle.pascal_tree.specs.SpellExpression.{symbol_at, reserved_at, name_at, spelled_expr}
use Rattle.pascal_tree.specs.SpellStatement.{direction_word, spelled_statement, spelled_sequence, spelled_branch, spelled_branches}
use Rattle.pascal_tree.specs.Limits.{ExprFits, StatementFits, SequenceFits, EndsClosed, BranchFits, BranchesFit}
use Rattle.pascal_tree.specs.declared.token.Reserved.TheVariants as reserved
use Rattle.pascal_tree.specs.declared.token.Symbol.TheVariants as symbol
use Rattle.pascal_read.specs.declared.parse_range.Range.{Range}
use Rattle.pascal_read.specs.ParseRange.{spelled_range}
use Rattle.pascal_tree.specs.declared.statement.Statement as statements
use Rattle.pascal_read.proofs.ParseJoined.{around}
use Rattle.pascal_read.specs.ParseParts.{seen_otherwise, spelled_otherwise, OtherwiseFits, OtherwiseCloses}

-- a test, the word behind it, and a statement
condition_words : (e : Expr) (w : Spot) (s : Statement) (m0 m1 m2 : List Spot) → m0 ≡ (spelled_expr e ++ w ∷ []) ++ m1 → m1 ≡ spelled_statement s ++ m2 →
    m0 ≡ spelled_expr e ++ (w ∷ (spelled_statement s ++ m2))
condition_words e w s m0 m1 m2 p q =
    p ∙ append_assoc (spelled_expr e) (w ∷ []) m1 ∙ ap (λ u. spelled_expr e ++ (w ∷ u)) q

-- the words of an IF, with ELSE or without
pub if_words : (l t : ℕ) (e : Expr) (s x : Statement) (o : Option (ℕ × Statement)) (m0 m1 m2 m3 : List Spot) → x ≡ if_of l e t s o →
    m0 ≡ (spelled_expr e ++ reserved_at reserved.Then t ∷ []) ++ m1 → m1 ≡ spelled_statement s ++ m2 → m2 ≡ spelled_otherwise o ++ m3 → reserved_at reserved.If l ∷ m0 ≡ spelled_statement x ++ m3
if_words l t e s x None m0 m1 m2 m3 is p q r =
    let then_at : Spot = reserved_at reserved.Then t in
    ap (λ u. reserved_at reserved.If l ∷ u)
    (condition_words e then_at s m0 m1 m2 p q ∙ ap (λ u. spelled_expr e ++ (then_at ∷ (spelled_statement s ++ u))) r ∙ sym (append_assoc (spelled_expr e) (then_at ∷ spelled_statement s) m3))
    ∙ ap (λ y. spelled_statement y ++ m3) (sym is)
if_words l t e s x (Some o) m0 m1 m2 m3 is p q r =
    let then_at : Spot = reserved_at reserved.Then t in
    let tail : List Spot = spelled_otherwise (Some o) in
    ap (λ v. reserved_at reserved.If l ∷ v)
    (condition_words e then_at s m0 m1 m2 p q ∙ ap (λ v. spelled_expr e ++ (then_at ∷ (spelled_statement s ++ v))) r
    ∙ ap (λ v. spelled_expr e ++ (then_at ∷ v)) (sym (append_assoc (spelled_statement s) tail m3))
    ∙ sym (append_assoc (spelled_expr e) (then_at ∷ (spelled_statement s ++ tail)) m3))
    ∙ ap (λ y. spelled_statement y ++ m3) (sym is)

less_one : (n : ℕ) → n ≡ n + 1 - 1
less_one n = omega arith

-- an IF has one level more than its statements, and its THEN statement ends closed where an ELSE follows
pub if_fits : (l t n : ℕ) (e : Expr) (s x : Statement) (o : Option (ℕ × Statement)) → x ≡ if_of l e t s o → ExprFits e 64 → StatementFits s n →
    IfSome o (λ p. EndsClosed s) → OtherwiseFits o n → StatementFits x (n + 1)
if_fits l t n e s x None is f g h k =
    let P : ℕ → Type 0 = λ m. StatementFits s m in
    let Q : Statement → Type 0 = λ y. StatementFits y (n + 1) in
    subst Q (sym is) (omega arith, f, subst P (less_one n) g)
if_fits l t n e s x (Some o) is f g h k =
    let P : Statement → ℕ → Type 0 = λ y m. StatementFits y m in
    let Q : Statement → Type 0 = λ y. StatementFits y (n + 1) in
    subst Q (sym is) (omega arith, f, subst (P s) (less_one n) g, h, subst (P o.1) (less_one n) k)

-- where a statement ends closed before an ELSE, it does so before what stands behind it
pub closed_before : (o : Option (ℕ × statements.Statement)) (s : Statement) (follows : Bool) → IfSome o (λ p. follows ≡ true) →
    (follows ≡ true → EndsClosed s) → IfSome (seen_otherwise o) (λ p. EndsClosed s)
closed_before None s follows h k = tt
closed_before (Some x) s follows h k = k h

-- an IF ends closed where it has an ELSE whose statement does
pub if_closes : (l t : ℕ) (e : Expr) (s x : Statement) (o : Option (ℕ × Statement)) (follows : Bool) → x ≡ if_of l e t s o →
    OtherwiseCloses o follows → follows ≡ true → EndsClosed x
if_closes l t e s x None follows is h k = absurd cc
if_closes l t e s x (Some o) follows is h k = subst (λ y. EndsClosed y) (sym is) (h k)

-- the words of a FOR from those of its range and its statement
pub for_words : (l : ℕ) (r : Range) (s x : Statement) (m0 m1 m2 : List Spot) →
    x ≡ for_do l r.control r.becomes (seen_expr r.from) r.direction r.toward (seen_expr r.to) r.does s → m0 ≡ spelled_range r ++ m1 → m1 ≡ spelled_statement s ++ m2 →
    reserved_at reserved.For l ∷ m0 ≡ spelled_statement x ++ m2
for_words l r s x m0 m1 m2 e p q =
    let f : List Spot = spelled_expr (seen_expr r.from) in
    let g : List Spot = spelled_expr (seen_expr r.to) in
    let tail : List Spot = reserved_at (direction_word r.direction) r.toward ∷ (g ++ reserved_at reserved.Do r.does ∷ []) in
    let whole : List Spot = reserved_at (direction_word r.direction) r.toward ∷ (g ++ (reserved_at reserved.Do r.does ∷ spelled_statement s)) in
    let inner : tail ++ m1 ≡ whole ++ m2 =
    ap (λ u. reserved_at (direction_word r.direction) r.toward ∷ u)
    (append_assoc g (reserved_at reserved.Do r.does ∷ []) m1 ∙ ap (λ u. g ++ (reserved_at reserved.Do r.does ∷ u)) q ∙ sym (append_assoc g (reserved_at reserved.Do r.does ∷ spelled_statement s) m2)) in
    let body : m0 ≡ name_at r.control ∷ (symbol_at symbol.Becomes r.becomes ∷ ((f ++ whole) ++ m2)) =
    p ∙ ap (λ u. name_at r.control ∷ (symbol_at symbol.Becomes r.becomes ∷ u)) (append_assoc f tail m1 ∙ ap (λ u. f ++ u) inner ∙ sym (append_assoc f whole m2)) in
    ap (λ u. reserved_at reserved.For l ∷ u) body ∙ ap (λ y. spelled_statement y ++ m2) (sym e)

-- the words of a CASE from those of its parts
pub case_words : (l o c : ℕ) (e : Expr) (b : Branch) (bs : Branches) (x : Statement) (m0 m1 m2 m3 m4 : List Spot) → x ≡ case_of l e o b bs c →
    m0 ≡ (spelled_expr e ++ reserved_at reserved.Of o ∷ []) ++ m1 → m1 ≡ spelled_branch b ++ m2 → m2 ≡ spelled_branches bs ++ m3 → m3 ≡ reserved_at reserved.End c ∷ m4 →
    reserved_at reserved.Case l ∷ m0 ≡ spelled_statement x ++ m4
case_words l o c e b bs x m0 m1 m2 m3 m4 is p q r s =
    let of_at : Spot = reserved_at reserved.Of o in
    let end_at : Spot = reserved_at reserved.End c in
    let inside : List Spot = spelled_branch b ++ (spelled_branches bs ++ end_at ∷ []) in
    let behind : m1 ≡ inside ++ m4 =
    q ∙ ap (λ u. spelled_branch b ++ u) (r ∙ ap (λ u. spelled_branches bs ++ u) s ∙ sym (append_assoc (spelled_branches bs) (end_at ∷ []) m4))
    ∙ sym (append_assoc (spelled_branch b) (spelled_branches bs ++ end_at ∷ []) m4) in
    ap (λ u. reserved_at reserved.Case l ∷ u)
    (p ∙ append_assoc (spelled_expr e) (of_at ∷ []) m1 ∙ ap (λ u. spelled_expr e ++ (of_at ∷ u)) behind ∙ sym (append_assoc (spelled_expr e) (of_at ∷ inside) m4))
    ∙ ap (λ y. spelled_statement y ++ m4) (sym is)

-- a CASE has one level more than its statements
pub case_fits : (l o c n : ℕ) (e : Expr) (b : Branch) (bs : Branches) (x : Statement) → x ≡ case_of l e o b bs c → ExprFits e 64 → BranchFits b n →
    BranchesFit bs n → StatementFits x (n + 1)
case_fits l o c n e b bs x is f g h =
    let P : ℕ → Type 0 = λ m. BranchFits b m in
    let R : ℕ → Type 0 = λ m. BranchesFit bs m in
    let Q : Statement → Type 0 = λ y. StatementFits y (n + 1) in
    subst Q (sym is) (omega arith, f, subst P (less_one n) g, subst R (less_one n) h)

-- the words and the levels of a WHILE and of a REPEAT from those of their parts
pub while_words : (l d : ℕ) (e : Expr) (s x : Statement) (m0 m1 m2 : List Spot) → x ≡ while_do l e d s →
    m0 ≡ (spelled_expr e ++ reserved_at reserved.Do d ∷ []) ++ m1 → m1 ≡ spelled_statement s ++ m2 →
    reserved_at reserved.While l ∷ m0 ≡ spelled_statement x ++ m2
while_words l d e s x m0 m1 m2 is p q =
    let do_at : Spot = reserved_at reserved.Do d in
    ap (λ u. reserved_at reserved.While l ∷ u)
    (condition_words e do_at s m0 m1 m2 p q ∙ sym (append_assoc (spelled_expr e) (do_at ∷ spelled_statement s) m2))
    ∙ ap (λ y. spelled_statement y ++ m2) (sym is)

pub while_fits : (l d n : ℕ) (e : Expr) (s x : Statement) → x ≡ while_do l e d s → ExprFits e 64 → StatementFits s n → StatementFits x (n + 1)
while_fits l d n e s x is f g =
    let P : ℕ → Type 0 = λ m. StatementFits s m in
    let Q : Statement → Type 0 = λ y. StatementFits y (n + 1) in
    subst Q (sym is) (omega arith, f, subst P (less_one n) g)

pub repeat_words : (l u : ℕ) (b : Sequence) (e : Expr) (x : Statement) (m0 m1 m2 m3 : List Spot) → x ≡ repeat_until l b u e →
    m0 ≡ spelled_sequence b ++ m1 → m1 ≡ reserved_at reserved.Until u ∷ m2 →
    m2 ≡ spelled_expr e ++ m3 → reserved_at reserved.Repeat l ∷ m0 ≡ spelled_statement x ++ m3
repeat_words l u b e x m0 m1 m2 m3 is p q r =
    ap (λ v. reserved_at reserved.Repeat l ∷ v) (around (reserved_at reserved.Until u) (spelled_sequence b) (spelled_expr e) m0 m1 m2 m3 p q r)
    ∙ ap (λ y. spelled_statement y ++ m3) (sym is)

pub repeat_fits : (l u n : ℕ) (b : Sequence) (e : Expr) (x : Statement) → x ≡ repeat_until l b u e → SequenceFits b n → ExprFits e 64 → StatementFits x (n + 1)
repeat_fits l u n b e x is f g =
    let P : ℕ → Type 0 = λ m. SequenceFits b m in
    let Q : Statement → Type 0 = λ y. StatementFits y (n + 1) in
    subst Q (sym is) (omega arith, subst P (less_one n) f, g)

-- a FOR has one level more than its statement
pub for_fits : (l n : ℕ) (r : Range) (s x : Statement) →
    x ≡ for_do l r.control r.becomes (seen_expr r.from) r.direction r.toward (seen_expr r.to) r.does s → ExprFits (seen_expr r.from) 64 →
    ExprFits (seen_expr r.to) 64 → StatementFits s n → StatementFits x (n + 1)
for_fits l n r s x is f g h =
    let P : ℕ → Type 0 = λ m. StatementFits s m in
    let Q : Statement → Type 0 = λ y. StatementFits y (n + 1) in
    subst Q (sym is) (omega arith, f, g, subst P (less_one n) h)

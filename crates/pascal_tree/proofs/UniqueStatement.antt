-- No two statements have one spelling, whatever may follow them.
use Rattle.std.proofs.Common.{◌≡◌, ℕ, ◌≤◌, List, [], ◌∷◌, ◌++◌, Option, Some, None, refl, sym, ap, ◌∙◌, append_assoc, arith}
use Rattle.pascal_tree.specs.Word.{Spot}
use Rattle.pascal_tree.specs.Expression.{Index, index, Arguments, arguments}
use Rattle.pascal_tree.specs.Statement.{Statement, empty, assign, call, compound, if_then, if_else, while_do, repeat_until, for_do, case_of, Body, body, Sequence, sequence, Statements, no_statement, next_statement, Branch, branch, Branches, no_branch, next_branch}
use Rattle.pascal_tree.specs.SpellExpression.{spelled_expr, symbol_at, reserved_at}
use Rattle.pascal_tree.specs.SpellConstant.{spelled_labels}
use Rattle.pascal_tree.specs.SpellStatement.{direction_word, spelled_place, spelled_call, spelled_statement, spelled_body, spelled_sequence, spelled_statements, spelled_branch, spelled_branches}
use Rattle.pascal_tree.specs.Limits.{StatementFits, BodyFits, SequenceFits, StatementsFit, BranchFits, BranchesFit}
use Rattle.pascal_tree.proofs.UniqueExpression.{first_strength, first_of, rest_of, differ, same_name, line_of, regroup, regroup3, unique_expr, unique_index, unique_arguments}
use Rattle.pascal_tree.proofs.UniqueConstant.{unique_labels}
use Rattle.pascal_tree.proofs.Following.{Follows, first_begins, first_marks, follows_strength, follows_begins, follows_marks, follows_then, follows_else, follows_while, follows_for, else_follows, no_else, Closer, by_end, by_until, closer_word, follows_list, follows_branches}
use Rattle.pascal_tree.specs.declared.token.Word.TheVariants as word
use Rattle.pascal_tree.specs.declared.token.Reserved.TheVariants as reserved
use Rattle.pascal_tree.specs.declared.token.Symbol.TheVariants as symbol
use Rattle.pascal_tree.specs.declared.statement.Direction.{Direction}
use Rattle.pascal_tree.specs.declared.statement.Direction.TheVariants as direction

same_direction : (a b : Direction) → direction_word a ≡ direction_word b → a ≡ b
same_direction direction.To direction.To e = refl
same_direction direction.Downto direction.Downto e = refl
same_direction a b e = cc

pub direction_strength : (a : Direction) (l : ℕ) (r : List Spot) → first_strength (reserved_at (direction_word a) l ∷ r) ≡ 0
direction_strength direction.To l r = refl
direction_strength direction.Downto l r = refl

-- an index and `:=`
unique_place : (i j : Option Index) (b c : ℕ) (r s : List Spot) →
    spelled_place i ++ (symbol_at symbol.Becomes b ∷ r) ≡ spelled_place j ++ (symbol_at symbol.Becomes c ∷ s) → (i ≡ j) × (b ≡ c) × (r ≡ s)
unique_place None None b c r s e = (refl, line_of _ _ _ _ (first_of e), rest_of e)
unique_place None (Some (index o f k)) b c r s e = absurd (differ _ _ _ _ e (λ h. cc))
unique_place (Some (index o f k)) None b c r s e = absurd (differ _ _ _ _ e (λ h. cc))
unique_place (Some i) (Some j) b c r s e =
    let x = unique_index i j (symbol_at symbol.Becomes b ∷ r) (symbol_at symbol.Becomes c ∷ s) e in
    (ap Some x.0, line_of _ _ _ _ (first_of x.1), rest_of x.1)

marks_place : (i : Option Index) (b : ℕ) (r : List Spot) → (1 ≤ first_marks (spelled_place i ++ (symbol_at symbol.Becomes b ∷ r))) × (first_marks (spelled_place i ++ (symbol_at symbol.Becomes b ∷ r)) ≤ 2)
marks_place None b r = (omega arith, omega arith)
marks_place (Some (index o f c)) b r = (omega arith, omega arith)

-- arguments, or none
unique_call : (a b : Option Arguments) (r s : List Spot) → first_marks r ≡ 0 → first_marks s ≡ 0 →
    spelled_call a ++ r ≡ spelled_call b ++ s → (a ≡ b) × (r ≡ s)
unique_call None None r s p q e = (refl, e)
unique_call None (Some (arguments o f more c)) r s p q e = let h = ap first_marks e in absurd (omega arith)
unique_call (Some (arguments o f more c)) None r s p q e = let h = ap first_marks e in absurd (omega arith)
unique_call (Some a) (Some b) r s p q e = let x = unique_arguments a b r s e in (ap Some x.0, x.1)

call_marks : (i : Option Index) (b : ℕ) (a : Option Arguments) (r s : List Spot) → first_marks s ≡ 0 →
    spelled_place i ++ (symbol_at symbol.Becomes b ∷ r) ≡ spelled_call a ++ s → ⊥
call_marks i b None r s q e = let h = ap first_marks e in let m = marks_place i b r in absurd (omega arith)
call_marks i b (Some (arguments o f more c)) r s q e = let h = ap first_marks e in let m = marks_place i b r in absurd (omega arith)

mutual
  pub unique_statement : (x y : Statement) (n m : ℕ) (r s : List Spot) → StatementFits x n → StatementFits y m → Follows x r → Follows y s →
      spelled_statement x ++ r ≡ spelled_statement y ++ s → (x ≡ y) × (r ≡ s)
  unique_statement empty empty n m r s f g p q e = (refl, e)
  unique_statement (assign x i b v) (assign y j c w) n m r s f g p q e =
      let xy = same_name x y (first_of e) in
      let t = regroup (spelled_place i) (symbol_at symbol.Becomes b ∷ spelled_expr v) r (spelled_place j) (symbol_at symbol.Becomes c ∷ spelled_expr w) s (rest_of e) in
      let a = unique_place i j b c (spelled_expr v ++ r) (spelled_expr w ++ s) t in
      let ij : i ≡ j = a.0 in
      let bc : b ≡ c = a.1 in
      let sr = follows_strength _ r p in
      let ss = follows_strength _ s q in
      let d = unique_expr v w r s (omega arith) (omega arith) a.2 in
      let vw : v ≡ w = d.0 in
      (cc, d.1)
  unique_statement (assign x i b v) (call y a) n m r s f g p q e =
      let t = append_assoc (spelled_place i) (symbol_at symbol.Becomes b ∷ spelled_expr v) r in
      absurd (call_marks i b a (spelled_expr v ++ r) s (follows_marks _ s q) (sym t ∙ rest_of e))
  unique_statement (call y a) (assign x i b v) n m r s f g p q e =
      let t = append_assoc (spelled_place i) (symbol_at symbol.Becomes b ∷ spelled_expr v) s in
      absurd (call_marks i b a (spelled_expr v ++ s) r (follows_marks _ r p) (sym t ∙ sym (rest_of e)))
  unique_statement (call x a) (call y b) n m r s f g p q e =
      let xy = same_name x y (first_of e) in
      let t = unique_call a b r s (follows_marks _ r p) (follows_marks _ s q) (rest_of e) in
      let ab : a ≡ b = t.0 in
      (cc, t.1)
  unique_statement (compound x) (compound y) n m r s f g p q e =
      let b = unique_body x y _ _ r s f.1 g.1 e in
      let xy : x ≡ y = b.0 in
      (cc, b.1)
  unique_statement (if_then l v t x) (if_then k w o y) n m r s f g p q e =
      let lk = line_of _ _ _ _ (first_of e) in
      let a = regroup (spelled_expr v) (reserved_at reserved.Then t ∷ spelled_statement x) r (spelled_expr w) (reserved_at reserved.Then o ∷ spelled_statement y) s (rest_of e) in
      let b = unique_expr v w (reserved_at reserved.Then t ∷ (spelled_statement x ++ r)) (reserved_at reserved.Then o ∷ (spelled_statement y ++ s)) (omega arith) (omega arith) a in
      let vw : v ≡ w = b.0 in
      let to = line_of _ _ _ _ (first_of b.1) in
      let c = unique_statement x y _ _ r s f.2 g.2 (follows_then l v t x r p) (follows_then k w o y s q) (rest_of b.1) in
      let xy : x ≡ y = c.0 in
      (cc, c.1)
  unique_statement (if_then l v t x) (if_else k w o y h z) n m r s f g p q e =
      let a = regroup (spelled_expr v) (reserved_at reserved.Then t ∷ spelled_statement x) r (spelled_expr w) (reserved_at reserved.Then o ∷ (spelled_statement y ++ (reserved_at reserved.Else h ∷ spelled_statement z))) s (rest_of e) in
      let b = unique_expr v w (reserved_at reserved.Then t ∷ (spelled_statement x ++ r)) (reserved_at reserved.Then o ∷ ((spelled_statement y ++ (reserved_at reserved.Else h ∷ spelled_statement z)) ++ s)) (omega arith) (omega arith) a in
      let d = append_assoc (spelled_statement y) (reserved_at reserved.Else h ∷ spelled_statement z) s in
      let c = unique_statement x y _ _ r (reserved_at reserved.Else h ∷ (spelled_statement z ++ s)) f.2 g.2 (follows_then l v t x r p) (else_follows y h _ g.3) (rest_of b.1 ∙ d) in
      absurd (no_else p.ender l v t x p.closes (ap (λ i. i.word) (first_of (sym p.is ∙ c.1))))
  unique_statement (if_else k w o y h z) (if_then l v t x) n m r s f g p q e =
      let a = regroup (spelled_expr w) (reserved_at reserved.Then o ∷ (spelled_statement y ++ (reserved_at reserved.Else h ∷ spelled_statement z))) r (spelled_expr v) (reserved_at reserved.Then t ∷ spelled_statement x) s (rest_of e) in
      let b = unique_expr w v (reserved_at reserved.Then o ∷ ((spelled_statement y ++ (reserved_at reserved.Else h ∷ spelled_statement z)) ++ r)) (reserved_at reserved.Then t ∷ (spelled_statement x ++ s)) (omega arith) (omega arith) a in
      let d = append_assoc (spelled_statement y) (reserved_at reserved.Else h ∷ spelled_statement z) r in
      let c = unique_statement y x _ _ (reserved_at reserved.Else h ∷ (spelled_statement z ++ r)) s f.2 g.2 (else_follows y h _ f.3) (follows_then l v t x s q) (sym d ∙ rest_of b.1) in
      absurd (no_else q.ender l v t x q.closes (ap (λ i. i.word) (first_of (sym q.is ∙ sym c.1))))
  unique_statement (if_else l v t x i z) (if_else k w o y j u) n m r s f g p q e =
      let lk = line_of _ _ _ _ (first_of e) in
      let a = regroup (spelled_expr v) (reserved_at reserved.Then t ∷ (spelled_statement x ++ (reserved_at reserved.Else i ∷ spelled_statement z))) r (spelled_expr w) (reserved_at reserved.Then o ∷ (spelled_statement y ++ (reserved_at reserved.Else j ∷ spelled_statement u))) s (rest_of e) in
      let b = unique_expr v w (reserved_at reserved.Then t ∷ ((spelled_statement x ++ (reserved_at reserved.Else i ∷ spelled_statement z)) ++ r)) (reserved_at reserved.Then o ∷ ((spelled_statement y ++ (reserved_at reserved.Else j ∷ spelled_statement u)) ++ s)) (omega arith) (omega arith) a in
      let vw : v ≡ w = b.0 in
      let to = line_of _ _ _ _ (first_of b.1) in
      let d = regroup (spelled_statement x) (reserved_at reserved.Else i ∷ spelled_statement z) r (spelled_statement y) (reserved_at reserved.Else j ∷ spelled_statement u) s (rest_of b.1) in
      let c = unique_statement x y _ _ (reserved_at reserved.Else i ∷ (spelled_statement z ++ r)) (reserved_at reserved.Else j ∷ (spelled_statement u ++ s)) f.2 g.2 (else_follows x i _ f.3) (else_follows y j _ g.3) d in
      let xy : x ≡ y = c.0 in
      let ij = line_of _ _ _ _ (first_of c.1) in
      let h = unique_statement z u _ _ r s f.4 g.4 (follows_else l v t x i z r p) (follows_else k w o y j u s q) (rest_of c.1) in
      let zu : z ≡ u = h.0 in
      (cc, h.1)
  unique_statement (while_do l v t x) (while_do k w o y) n m r s f g p q e =
      let lk = line_of _ _ _ _ (first_of e) in
      let a = regroup (spelled_expr v) (reserved_at reserved.Do t ∷ spelled_statement x) r (spelled_expr w) (reserved_at reserved.Do o ∷ spelled_statement y) s (rest_of e) in
      let b = unique_expr v w (reserved_at reserved.Do t ∷ (spelled_statement x ++ r)) (reserved_at reserved.Do o ∷ (spelled_statement y ++ s)) (omega arith) (omega arith) a in
      let vw : v ≡ w = b.0 in
      let to = line_of _ _ _ _ (first_of b.1) in
      let c = unique_statement x y _ _ r s f.2 g.2 (follows_while l v t x r p) (follows_while k w o y s q) (rest_of b.1) in
      let xy : x ≡ y = c.0 in
      (cc, c.1)
  unique_statement (repeat_until l x c v) (repeat_until k y d w) n m r s f g p q e =
      let lk = line_of _ _ _ _ (first_of e) in
      let t = regroup (spelled_sequence x) (reserved_at reserved.Until c ∷ spelled_expr v) r (spelled_sequence y) (reserved_at reserved.Until d ∷ spelled_expr w) s (rest_of e) in
      let u = unique_sequence x y _ _ by_until c d (spelled_expr v ++ r) (spelled_expr w ++ s) f.1 g.1 t in
      let xy : x ≡ y = u.0 in
      let cd : c ≡ d = u.1 in
      let sr = follows_strength _ r p in
      let ss = follows_strength _ s q in
      let h = unique_expr v w r s (omega arith) (omega arith) u.2 in
      let vw : v ≡ w = h.0 in
      (cc, h.1)
  unique_statement (for_do l x b v i t w d z) (for_do k y c u j o a h o') n m r s f g p q e =
      let lk = line_of _ _ _ _ (first_of e) in
      let xy = same_name x y (first_of (rest_of e)) in
      let bc = line_of _ _ _ _ (first_of (rest_of (rest_of e))) in
      let e1 = regroup (spelled_expr v) (reserved_at (direction_word i) t ∷ (spelled_expr w ++ (reserved_at reserved.Do d ∷ spelled_statement z))) r (spelled_expr u) (reserved_at (direction_word j) o ∷ (spelled_expr a ++ (reserved_at reserved.Do h ∷ spelled_statement o'))) s (rest_of (rest_of (rest_of e))) in
      let i1 = direction_strength i t ((spelled_expr w ++ (reserved_at reserved.Do d ∷ spelled_statement z)) ++ r) in
      let j1 = direction_strength j o ((spelled_expr a ++ (reserved_at reserved.Do h ∷ spelled_statement o')) ++ s) in
      let e2 = unique_expr v u (reserved_at (direction_word i) t ∷ ((spelled_expr w ++ (reserved_at reserved.Do d ∷ spelled_statement z)) ++ r)) (reserved_at (direction_word j) o ∷ ((spelled_expr a ++ (reserved_at reserved.Do h ∷ spelled_statement o')) ++ s)) (omega arith) (omega arith) e1 in
      let vu : v ≡ u = e2.0 in
      let to = line_of _ _ _ _ (first_of e2.1) in
      let dw : word.Reserved (direction_word i) ≡ word.Reserved (direction_word j) = ap (λ v. v.word) (first_of e2.1) in
      let ij = same_direction i j cc in
      let e3 = regroup (spelled_expr w) (reserved_at reserved.Do d ∷ spelled_statement z) r (spelled_expr a) (reserved_at reserved.Do h ∷ spelled_statement o') s (rest_of e2.1) in
      let e4 = unique_expr w a (reserved_at reserved.Do d ∷ (spelled_statement z ++ r)) (reserved_at reserved.Do h ∷ (spelled_statement o' ++ s)) (omega arith) (omega arith) e3 in
      let wa : w ≡ a = e4.0 in
      let dh = line_of _ _ _ _ (first_of e4.1) in
      let e5 = unique_statement z o' _ _ r s f.3 g.3 (follows_for l x b v i t w d z r p) (follows_for k y c u j o a h o' s q) (rest_of e4.1) in
      let zo : z ≡ o' = e5.0 in
      (cc, e5.1)
  unique_statement (case_of l v t x xs c) (case_of k w o y ys d) n m r s f g p q e =
      let lk = line_of _ _ _ _ (first_of e) in
      let bx = spelled_branch x ++ (spelled_branches xs ++ reserved_at reserved.End c ∷ []) in
      let by = spelled_branch y ++ (spelled_branches ys ++ reserved_at reserved.End d ∷ []) in
      let a = regroup (spelled_expr v) (reserved_at reserved.Of t ∷ bx) r (spelled_expr w) (reserved_at reserved.Of o ∷ by) s (rest_of e) in
      let b = unique_expr v w (reserved_at reserved.Of t ∷ (bx ++ r)) (reserved_at reserved.Of o ∷ (by ++ s)) (omega arith) (omega arith) a in
      let vw : v ≡ w = b.0 in
      let to = line_of _ _ _ _ (first_of b.1) in
      let h = regroup3 (spelled_branch x) (spelled_branches xs) (reserved_at reserved.End c ∷ []) r (spelled_branch y) (spelled_branches ys) (reserved_at reserved.End d ∷ []) s (rest_of b.1) in
      let i = unique_branch x y _ _ _ _ f.2 g.2 (follows_branches xs c r) (follows_branches ys d s) h in
      let xy : x ≡ y = i.0 in
      let j = unique_branches xs ys _ _ c d r s f.3 g.3 i.1 in
      let u : xs ≡ ys = j.0 in
      let cd : c ≡ d = j.1 in
      (cc, j.2)
  unique_statement empty (compound (body b y c)) n m r s f g p q e =
      let h = follows_begins _ r p in
      let i = ap first_begins e in absurd (omega arith)
  unique_statement (compound (body b x c)) empty n m r s f g p q e =
      let h = follows_begins _ s q in
      let i = ap first_begins e in absurd (omega arith)
  unique_statement empty y n m r s f g p q e =
      let h = follows_begins _ r p in
      let i = ap first_begins e in absurd (omega arith)
  unique_statement x empty n m r s f g p q e =
      let h = follows_begins _ s q in
      let i = ap first_begins e in absurd (omega arith)
  unique_statement (compound (body b x c)) y n m r s f g p q e = absurd (differ _ _ _ _ e (λ h. cc))
  unique_statement x (compound (body b y c)) n m r s f g p q e = absurd (differ _ _ _ _ e (λ h. cc))
  unique_statement x y n m r s f g p q e = absurd (differ _ _ _ _ e (λ h. cc))

  pub unique_body : (x y : Body) (n m : ℕ) (r s : List Spot) → BodyFits x n → BodyFits y m → spelled_body x ++ r ≡ spelled_body y ++ s → (x ≡ y) × (r ≡ s)
  unique_body (body b x c) (body d y k) n m r s f g e =
      let bd = line_of _ _ _ _ (first_of e) in
      let t = regroup (spelled_sequence x) (reserved_at reserved.End c ∷ []) r (spelled_sequence y) (reserved_at reserved.End k ∷ []) s (rest_of e) in
      let u = unique_sequence x y _ _ by_end c k r s f g t in
      let xy : x ≡ y = u.0 in
      let ck : c ≡ k = u.1 in
      (cc, u.2)

  pub unique_sequence : (x y : Sequence) (n m : ℕ) (k : Closer) (c d : ℕ) (r s : List Spot) → SequenceFits x n → SequenceFits y m →
      spelled_sequence x ++ (reserved_at (closer_word k) c ∷ r) ≡ spelled_sequence y ++ (reserved_at (closer_word k) d ∷ s) → (x ≡ y) × (c ≡ d) × (r ≡ s)
  unique_sequence (sequence x xs) (sequence y ys) n m k c d r s f g e =
      let t = regroup (spelled_statement x) (spelled_statements xs) (reserved_at (closer_word k) c ∷ r) (spelled_statement y) (spelled_statements ys) (reserved_at (closer_word k) d ∷ s) e in
      let u = unique_statement x y _ _ _ _ f.0 g.0 (follows_list xs k c r x) (follows_list ys k d s y) t in
      let xy : x ≡ y = u.0 in
      let v = unique_statements xs ys _ _ k c d r s f.1 g.1 u.1 in
      let w : xs ≡ ys = v.0 in
      (cc, v.1, v.2)

  pub unique_statements : (x y : Statements) (n m : ℕ) (k : Closer) (c d : ℕ) (r s : List Spot) → StatementsFit x n → StatementsFit y m →
      spelled_statements x ++ (reserved_at (closer_word k) c ∷ r) ≡ spelled_statements y ++ (reserved_at (closer_word k) d ∷ s) → (x ≡ y) × (c ≡ d) × (r ≡ s)
  unique_statements no_statement no_statement n m k c d r s f g e = (refl, line_of _ _ _ _ (first_of e), rest_of e)
  unique_statements (next_statement l x xs) (next_statement i y ys) n m k c d r s f g e =
      let li = line_of _ _ _ _ (first_of e) in
      let t = regroup (spelled_statement x) (spelled_statements xs) (reserved_at (closer_word k) c ∷ r) (spelled_statement y) (spelled_statements ys) (reserved_at (closer_word k) d ∷ s) (rest_of e) in
      let u = unique_statement x y _ _ _ _ f.0 g.0 (follows_list xs k c r x) (follows_list ys k d s y) t in
      let xy : x ≡ y = u.0 in
      let v = unique_statements xs ys _ _ k c d r s f.1 g.1 u.1 in
      let w : xs ≡ ys = v.0 in
      (cc, v.1, v.2)
  unique_statements x y n m k c d r s f g e = absurd (differ _ _ _ _ e (λ h. cc))

  pub unique_branch : (x y : Branch) (n m : ℕ) (r s : List Spot) → BranchFits x n → BranchFits y m →
      ((z : Statement) → Follows z r) → ((z : Statement) → Follows z s) → spelled_branch x ++ r ≡ spelled_branch y ++ s → (x ≡ y) × (r ≡ s)
  unique_branch (branch k c x) (branch l d y) n m r s f g p q e =
      let t = regroup (spelled_labels k) (symbol_at symbol.Colon c ∷ spelled_statement x) r (spelled_labels l) (symbol_at symbol.Colon d ∷ spelled_statement y) s e in
      let a = unique_labels k l c d (spelled_statement x ++ r) (spelled_statement y ++ s) t in
      let kl : k ≡ l = a.0 in
      let cd : c ≡ d = a.1 in
      let u = unique_statement x y n m r s f g (p x) (q y) a.2 in
      let xy : x ≡ y = u.0 in
      (cc, u.1)

  pub unique_branches : (x y : Branches) (n m : ℕ) (c d : ℕ) (r s : List Spot) → BranchesFit x n → BranchesFit y m →
      spelled_branches x ++ (reserved_at reserved.End c ∷ r) ≡ spelled_branches y ++ (reserved_at reserved.End d ∷ s) → (x ≡ y) × (c ≡ d) × (r ≡ s)
  unique_branches no_branch no_branch n m c d r s f g e = (refl, line_of _ _ _ _ (first_of e), rest_of e)
  unique_branches (next_branch l x xs) (next_branch i y ys) n m c d r s f g e =
      let li = line_of _ _ _ _ (first_of e) in
      let t = regroup (spelled_branch x) (spelled_branches xs) (reserved_at reserved.End c ∷ r) (spelled_branch y) (spelled_branches ys) (reserved_at reserved.End d ∷ s) (rest_of e) in
      let u = unique_branch x y _ _ _ _ f.0 g.0 (follows_branches xs c r) (follows_branches ys d s) t in
      let xy : x ≡ y = u.0 in
      let v = unique_branches xs ys _ _ c d r s f.1 g.1 u.1 in
      let w : xs ≡ ys = v.0 in
      (cc, v.1, v.2)
  unique_branches x y n m c d r s f g e = absurd (differ _ _ _ _ e (λ h. cc))

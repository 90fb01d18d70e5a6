-- Worked programs, and the first rule that each breaks: what the definitions say is computed.
use Rattle.std.proofs.Common.{◌≡◌, ℕ, List, [], ◌∷◌, Option, Some, None, refl}
use Rattle.std.specs.Prelude.{codes}
use Rattle.pascal_tree.specs.Word.{NameAt}
use Rattle.pascal_tree.specs.Expression.{Expr, alone, simple, no_addend, addend, term, no_multiplier, Factor, number, named, arguments, no_expr, next_expr}
use Rattle.pascal_tree.specs.Statement.{Statement, empty, assign, call, case_of, for_do, body, sequence, no_statement, branch, no_branch, next_branch}
use Rattle.pascal_tree.specs.Program.{Consts, Group, Vars, Routine, procedure, Program}
use Rattle.pascal_tree.specs.declared.broken.Broken.{Broken}
use Rattle.pascal_tree.specs.DeclarationRules.{broken}
use Rattle.pascal_tree.specs.declared.constant.Constant.TheVariants as constant
use Rattle.pascal_tree.specs.declared.declaration.Kind.TheVariants as kind
use Rattle.pascal_tree.specs.declared.expression.Adding.TheVariants as adding
use Rattle.pascal_tree.specs.declared.statement.Direction.TheVariants as direction

abbrev at : List ℕ → ℕ → NameAt
at letters line = record { letters = letters; line = line }

abbrev num : ℕ → Factor
num n = number (record { value = n; line = 90 })

abbrev just : Factor → Expr
just f = alone (simple None (term f no_multiplier) no_addend)

abbrev var_group : NameAt → List (ℕ × NameAt) → NameAt → Group
var_group n more t = record { names = record { first = n; rest = more }; colon = 0; kind = kind.Name t; semicolon = 0 }

abbrev prog : Option Consts → Option Vars → List Routine → Statement → Program
prog c v r s = record { heading = None; consts = c; vars = v; routines = r; body = body 0 (sequence s no_statement) 0; period = 0; end = 0 }

abbrev breaks : ℕ → ℕ → Option Broken
breaks r l = Some (record { rule = r; line = l })

abbrev x_int : Option Vars
x_int = Some (record { line = 0; first = var_group (at (codes "X") 1) [] (at (codes "INTEGER") 1); rest = [] })

undeclared : broken (prog None None [] (assign (at (codes "X") 3) None 4 (just (num 1)))) ≡ breaks 2 3
unfolding broken
undeclared = refl

correct : broken (prog None x_int [] (assign (at (codes "X") 3) None 4 (just (num 1)))) ≡ None
unfolding broken
correct = refl

differ : broken (prog None x_int [] (assign (at (codes "X") 3) None 4 (just (named (at (codes "TRUE") 5))))) ≡ breaks 10 4
unfolding broken
differ = refl

inner_first : broken (prog None x_int [] (assign (at (codes "X") 3) None 4 (alone (simple None (term (named (at (codes "TRUE") 5)) no_multiplier)
    (addend adding.Plus 6 (term (num 1) no_multiplier) (addend adding.Plus 7 (term (named (at (codes "Y") 8)) no_multiplier) no_addend)))))) ≡ breaks 2 8
unfolding broken
inner_first = refl

operator : broken (prog None x_int [] (assign (at (codes "X") 3) None 4 (alone (simple None (term (named (at (codes "TRUE") 5)) no_multiplier)
    (addend adding.Plus 6 (term (num 1) no_multiplier) no_addend))))) ≡ breaks 8 6
unfolding broken
operator = refl

bad_type : broken (prog None (Some (record { line = 0; first = var_group (at (codes "X") 1) [] (at (codes "X") 2); rest = [] })) [] empty) ≡ breaks 4 2
unfolding broken
bad_type = refl

twice : broken (prog None (Some (record { line = 0; first = var_group (at (codes "X") 1) ((0, at (codes "X") 2) ∷ []) (at (codes "CHAR") 1); rest = [] })) [] empty) ≡ breaks 1 2
unfolding broken
twice = refl

bounds : broken (prog None (Some (record {
  line = 0;
  first = record {
    names = record { first = at (codes "X") 1; rest = [] };
    colon = 0;
    kind = kind.Array 7 0 (constant.Number (record { value = 2; line = 1 })) 0 (constant.Negative 1 (record { value = 2; line = 1 })) 0 0 (at (codes "CHAR") 1);
    semicolon = 0;
  };
  rest = [];
})) [] empty) ≡ breaks 5 7
unfolding broken
bounds = refl

-- VAR X, X: ARRAY (.1..4097.) OF CHAR;
too_many : broken (prog None (Some (record {
  line = 0;
  first = record {
    names = record { first = at (codes "X") 1; rest = (0, at (codes "X") 2) ∷ [] };
    colon = 0;
    kind = kind.Array 2 0 (constant.Number (record { value = 1; line = 2 })) 0 (constant.Number (record { value = 4097; line = 2 })) 0 0 (at (codes "CHAR") 2);
    semicolon = 0;
  };
  rest = [];
})) [] empty) ≡ breaks 6 1
unfolding broken
too_many = refl

-- PROCEDURE P(A: CHAR; A: FOO); BEGIN END;
type_first : broken (prog None None (procedure 0 (at (codes "P") 1) (Some (record {
  opening = 0;
  first = record { var = None; names = record { first = at (codes "A") 1; rest = [] }; colon = 0; kind = at (codes "CHAR") 1 };
  rest = (0, record { var = None; names = record { first = at (codes "A") 2; rest = [] }; colon = 0; kind = at (codes "FOO") 3 }) ∷ [];
  closing = 0;
})) 0 (record { consts = None; vars = None; body = body 0 (sequence empty no_statement) 0 }) 0 ∷ []) empty) ≡ breaks 4 3
unfolding broken
type_first = refl

-- PROCEDURE P(VAR A, B: INTEGER); BEGIN A := 1 END; BEGIN P(X, X) END.
abbrev adds : Routine
adds = procedure 0 (at (codes "P") 2) (Some (record { opening = 0; first = record { var = Some 2; names = record { first = at (codes "A") 2; rest = (0, at (codes "B") 2) ∷ [] }; colon = 0; kind = at (codes "INTEGER") 2 }; rest = []; closing = 0 })) 0
    (record { consts = None; vars = None; body = body 0 (sequence (assign (at (codes "A") 3) None 3 (just (num 1))) no_statement) 0 }) 0

both : broken (prog None x_int (adds ∷ []) (call (at (codes "P") 9) (Some (arguments 0 (just (named (at (codes "X") 9))) (next_expr 0 (just (named (at (codes "X") 9))) no_expr) 0)))) ≡ None
unfolding broken
both = refl

not_a_name : broken (prog None x_int (adds ∷ []) (call (at (codes "P") 9) (Some (arguments 0 (just (num 1)) (next_expr 0 (just (named (at (codes "X") 9))) no_expr) 0)))) ≡ breaks 13 9
unfolding broken
not_a_name = refl

too_few : broken (prog None x_int (adds ∷ []) (call (at (codes "P") 9) None)) ≡ breaks 12 9
unfolding broken
too_few = refl

-- CASE X OF 1: ; 1: END
same_label : broken (prog None x_int [] (case_of 5 (just (named (at (codes "X") 5))) 5 (branch (record { first = constant.Number (record { value = 1; line = 6 }); rest = [] }) 0 empty)
    (next_branch 0 (branch (record { first = constant.Number (record { value = 1; line = 7 }); rest = [] }) 0 empty) no_branch) 8)) ≡ breaks 15 7
unfolding broken
same_label = refl

control : broken (prog None x_int [] (for_do 5 (at (codes "X") 5) 5 (just (num 1)) direction.To 5 (just (named (at (codes "NL") 5))) 5 empty)) ≡ breaks 14 5
unfolding broken
control = refl

-- What a fault says of nodes that stand one behind the other.
use Rattle.std.proofs.Common.{◌≡◌, ◌++◌, Some, None, Result, ◌∙◌}
use Rattle.std.specs.Result.{IsErrAnd, IfErr}
use Rattle.std.proofs.lemmas.Result.{err_from_is_err_and}
use Rattle.pascal_tree.specs.declared.broken.Broken.{Broken}
use Rattle.pascal_tree.specs.ExpressionRules.{Judged}
use Rattle.pascal_tree.specs.DeclarationRules.{first_broken}
use Rattle.pascal_check.specs.Faults.{IsFault}
use Rattle.pascal_check.specs.declared.fault.CheckFault.{CheckFault}
use Rattle.pascal_check.specs.declared.fault.CheckFault.TheVariants as fault
use Rattle.pascal_check.proofs.Firsts.{first_behind, first_here}

-- what the exit of a `?` returns
pub err_is : {T E : Type 0} (r : Result T E) (P : E → Type 0) (e : E) → IsErrAnd r (λ y. y ≡ e) → P e → IfErr r P
err_is r P e is h = let p = err_from_is_err_and r is in rw (p.1, p.2) h

-- where the first of the nodes break no rule, a fault of those behind is one of all
pub fault_behind : (a b : Judged) (f : CheckFault) → first_broken a ≡ None → IsFault b f → IsFault (a ++ b) f
fault_behind a b (fault.Semantic line rule) none is = first_behind a b none ∙ is
fault_behind a b fault.NoMemory none is = is

pub fault_here : (a b : Judged) (f : CheckFault) → IsFault a f → IsFault (a ++ b) f
fault_here a b (fault.Semantic line rule) is = first_here a b (record { rule = rule; line = line }) is
fault_here a b fault.NoMemory is = is

-- a broken rule as a fault
pub fault_of : (a : Judged) (b : Broken) (f : CheckFault) → first_broken a ≡ Some b → f ≡ fault.Semantic b.line b.rule → IsFault a f
fault_of a b f is made = rw made is

-- nodes with one answer have the same faults
pub fault_same : (a b : Judged) (f : CheckFault) → first_broken a ≡ first_broken b → IsFault b f → IsFault a f
fault_same a b (fault.Semantic line rule) same is = same ∙ is
fault_same a b fault.NoMemory same is = is

pub ruleset faults = (fault_behind, fault_here, fault_of)

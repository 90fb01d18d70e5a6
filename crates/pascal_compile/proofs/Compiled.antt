-- What compiling comes to, step by step.
use Rattle.std.proofs.Common.{◌≡◌, ℕ, ◌+◌, ◌<◌, ◌≤◌, List, ◌∷◌, length, drop, Result, Ok, Err, Some, None, IfOk, refl, sym, ap, subst, ◌∙◌}
use Rattle.std.specs.Prelude.{nat_le, slice_get}
use Rattle.std.proofs.Math.ListN.{drop_of_length-le}
use Rattle.std.proofs.lemmas.List.{drop_more}
use Rattle.std.proofs.lemmas.Option.{slice_get_within, get_or_from_slice_get}
use Rattle.std.proofs.lemmas.Bool.{cond-true, cond-false, le-leb, lt-leb}
use Rattle.solo_base.specs.declared.system_call.SysReply.{SysReply}
use Rattle.solo_base.specs.Line.{IsLine}
use Rattle.solo_base.specs.LineList.{AreLines}
use Rattle.stack_code.specs.CodeLists.{CodeLists}
use Rattle.stack_machine.specs.Run.{Runs}
use Rattle.pascal_tree.specs.Word.{Spot}
use Rattle.pascal_tree.specs.Program.{Program}
use Rattle.pascal_tree.specs.Limits.{IsTree}
use Rattle.pascal_tree.specs.SpellProgram.{spelled}
use Rattle.pascal_tree.specs.DeclarationRules.{broken}
use Rattle.pascal_mean.specs.Meaning.{meaning}
use Rattle.pascal_mean.specs.MoreReplies.{FitTheMeaning}
use Rattle.pascal_read.specs.declared.scan_fault.ScanFault.{ScanFault}
use Rattle.pascal_read.specs.declared.scan_fault.ScanFault.TheVariants as scan_fault
use Rattle.pascal_read.specs.ErrorPlace.{ErrorPlace}
use Rattle.pascal_read.specs.Scan.{words, Explains as words_explain}
use Rattle.pascal_reading.specs.Reading.{reading}
use Rattle.pascal_reading.specs.Reading as reads
use Rattle.pascal_reading.proofs.Readings.{bad_read, tree_read, error_read}
use Rattle.pascal_code.specs.Code.{code_of}
use Rattle.pascal_code.specs.Size.{size}
use Rattle.code_law.specs.Law.{Compiles}
use Rattle.code_law.proofs.Lawful.{does_what_it_means}
use Rattle.code_law.specs.Compiling.{compiled, bad_word, syntax_error, code_limit, by_rule, by_reading, compiling, IsCodeOf, IsCodeFor}

pub compiling_is : (cards : List (List ℕ)) → compiling cards ≡ by_reading (reading cards)
unfolding compiling
compiling_is cards = refl

-- ---- A program that breaks no rule

pub limit_told : (p : Program) → broken p ≡ None → 8192 < size p → by_rule p (broken p) ≡ code_limit
limit_told p unbroken long = ap (by_rule p) unbroken ∙ cond-false (nat_le (size p) 8192) (compiled p) code_limit (lt-leb _ _ long)

pub compiles_told : (p : Program) → Compiles p → by_rule p (broken p) ≡ compiled p
compiles_told p is = ap (by_rule p) is.unbroken ∙ cond-true (nat_le (size p) 8192) (compiled p) code_limit (le-leb _ _ is.fits)

-- ---- The tree of the cards

tree_told : (cards : List (List ℕ)) (p : Program) → reading cards ≡ reads.tree p → compiling cards ≡ by_rule p (broken p)
tree_told cards p is = compiling_is cards ∙ ap by_reading is

if_ok : {A B : Type 0} (P Q : A → Type 0) (r : Result A B) → ((x : A) → P x → Q x) → IfOk r P → IfOk r Q
if_ok P Q (Ok x) f has = f x has
if_ok P Q (Err e) f has = has

code_for : (cards : List (List ℕ)) (p : Program) (code : CodeLists) → reading cards ≡ reads.tree p → IsCodeOf p code → IsCodeFor cards code
code_for cards p code is of = record { program = p; comes_to = tree_told cards p is ∙ compiles_told p of.compiles; is_code = of }

same_program : (p q : Program) → compiled p ≡ compiled q → p ≡ q
same_program p q e = cc

runs_as_meant : (cards : List (List ℕ)) (p q : Program) (code : CodeLists) (limit : ℕ) (replies : List SysReply)
    → reading cards ≡ reads.tree p → IsCodeOf p code → compiling cards ≡ compiled q → FitTheMeaning q limit replies → Runs code limit replies
    (meaning q limit replies)
runs_as_meant cards p q code limit replies is of comes fit =
    let same : p ≡ q = same_program p q (sym (tree_told cards p is ∙ compiles_told p of.compiles) ∙ comes) in
    let code_is : code ≡ code_of q = of.is ∙ ap code_of same in
    subst (λ (c : CodeLists). Runs c limit replies (meaning q limit replies)) (sym code_is)
    (does_what_it_means q limit replies (subst Compiles same of.compiles) fit)

module _ {F : Type 0} (cards : List (List ℕ)) (p : Program) (is : reading cards ≡ reads.tree p) (r : Result CodeLists F)
    (code : IfOk r (λ c. IsCodeOf p c)) where
  pub ok_code : IfOk r (λ c. IsCodeFor cards c)
  ok_code = if_ok (λ c. IsCodeOf p c) (λ c. IsCodeFor cards c) r (λ c of. code_for cards p c is of) code

  pub ok_runs : (q : Program) (limit : ℕ) (replies : List SysReply) → compiling cards ≡ compiled q → FitTheMeaning q limit replies
      → IfOk r (λ c. Runs c limit replies (meaning q limit replies))
  ok_runs q limit replies comes fit =
      if_ok (λ c. IsCodeOf p c) (λ c. Runs c limit replies (meaning q limit replies)) r
      (λ c of. runs_as_meant cards p q c limit replies is of comes fit) code

pub tree_is_told : (cards : List (List ℕ)) (p : Program) → reading cards ≡ reads.tree p → by_rule p (broken p) ≡ compiling cards
tree_is_told cards p is = sym (tree_told cards p is)

-- ---- Cards are lines

pub lines_behind : (cards : List (List ℕ)) (place : ℕ) (line : List ℕ) → slice_get cards place ≡ Some line → IsLine line → AreLines (drop (place + 1) cards)
    → AreLines (drop place cards)
lines_behind cards place line at is more =
    let here : drop place cards ≡ line ∷ drop (place + 1) cards = drop_more cards place line (slice_get_within cards place line at)
    ∙ ap (λ (l : List ℕ). l ∷ drop (place + 1) cards) (get_or_from_slice_get cards place line line at) in
    subst AreLines (sym here) (is, more)

pub lines_past : (cards : List (List ℕ)) (place : ℕ) → length cards ≤ place → AreLines (drop place cards)
lines_past cards place past = subst AreLines (sym (drop_of_length-le cards past)) tt

-- ---- The tree of some cards

pub bad_word_told : (cards : List (List ℕ)) (f : ScanFault) (line : ℕ) → f ≡ scan_fault.BadWord line → words_explain f (words cards)
    → by_reading (reading cards) ≡ bad_word line
bad_word_told cards f line is told =
    ap by_reading (bad_read cards line (subst (λ (g : ScanFault). words_explain g (words cards)) is told))

pub tree_found : (cards : List (List ℕ)) (tokens : List Spot) (p : Program) → AreLines cards → words cards ≡ Ok tokens → tokens ≡ spelled p → IsTree p
    → reading cards ≡ reads.tree p
tree_found cards tokens p lines are is tree = tree_read cards p lines (are ∙ ap Ok is) tree

pub error_told : (cards : List (List ℕ)) (tokens : List Spot) (line : ℕ) → AreLines cards → words cards ≡ Ok tokens → ErrorPlace tokens line
    → by_reading (reading cards) ≡ syntax_error line
error_told cards tokens line lines are place = ap by_reading (error_read cards tokens line lines are place)

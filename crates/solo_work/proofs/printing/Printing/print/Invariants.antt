use Rattle.std.proofs.Common.{◌≡◌, ◌-◌, length, ℕ, List}
use Rattle.solo_work.specs.Paper.{IsHand}
use Rattle.solo_work.proofs.Lines.{SoFar}
use Rattle.solo_work.proofs.printing.Printing.print.Given as goal

abbrev pub invariant-printing : goal.invariant-printing
invariant-printing l = record {
  printed : (pages : ℕ) (hand : List (List ℕ)) → IsHand l.fn.paper pages hand
      → SoFar l.fn.self.lines l.fn.self.next pages hand l.self.next l.paper;
  lines : l.self.lines ≡ l.fn.self.lines;
  answers : l.self.answers ≡ l.fn.self.answers;
}

abbrev pub decreases-printing : goal.decreases-printing
decreases-printing l = length l.self.lines - l.self.next

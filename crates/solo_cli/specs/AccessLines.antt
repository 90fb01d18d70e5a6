-- The line that the paper gains of a description.
use Rattle.std.specs.Prelude.{ℕ, List, [], ◌++◌, codes, Result, Ok, Err}
use Rattle.std.specs.Fmt.{decimal}
use Rattle.solo_base.specs.Blanks.{trimmed}
use Rattle.access_check.specs.declared.fault.Accepted.{Accepted}
use Rattle.access_check.specs.declared.fault.AccessFault.{AccessFault}
use Rattle.access_check.specs.declared.fault.AccessFault.TheVariants.{BadLine, Twice, TooMany, Unknown, Again, Missing, Backward, NoMemory}

-- `ACCEPTED 2 MONITORS, 1 PROCESSES`
abbrev pub accepted_line : Accepted → List ℕ
accepted_line accepted =
    codes "ACCEPTED " ++ decimal accepted.monitors ++ codes " MONITORS, " ++ decimal accepted.processes
    ++ codes " PROCESSES"

-- `CARD 2`, and what is wrong with the card
abbrev pub card_line : ℕ → List ℕ → List ℕ
card_line card words = codes "CARD " ++ decimal card ++ words

-- the name of a fault without the blanks behind it; want of memory has no line
abbrev pub access_fault_line : AccessFault → List ℕ
access_fault_line (BadLine card) = card_line card (codes ": BAD LINE")
access_fault_line (Twice card) = card_line card (codes ": DECLARED TWICE")
access_fault_line (TooMany card) = card_line card (codes ": TOO MANY")
access_fault_line (Unknown card) = card_line card (codes ": UNKNOWN NAME")
access_fault_line (Again card) = card_line card (codes ": ORDERED TWICE")
access_fault_line (Missing monitor) = codes "NOT ORDERED: " ++ trimmed monitor
access_fault_line (Backward holder monitor) =
    codes "RIGHT OF " ++ trimmed holder ++ codes " TO " ++ trimmed monitor ++ codes " IS BACKWARD"
access_fault_line NoMemory = []

abbrev pub judgement_line : Result Accepted AccessFault → List ℕ
judgement_line (Ok accepted) = accepted_line accepted
judgement_line (Err fault) = access_fault_line fault

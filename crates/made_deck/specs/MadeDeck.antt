-- The deck of a number: a hundred jobs and so many more, every third of them a list, the others programs.
use Rattle.std.specs.Prelude.{ℕ, zero, suc, ◌+◌, ◌%◌, ◌==◌, List, [], ◌∷◌, ◌++◌, codes, if◌then◌else◌}
use Rattle.std.specs.Fmt.{decimal}
use Rattle.solo_base.specs.Text.{text}

-- `CARD 1`, `CARD 2`, and so on
abbrev pub numbered_cards : ℕ → List (List ℕ)
numbered_cards zero = []
numbered_cards (suc n) = numbered_cards n ++ (codes "CARD " ++ decimal (n + 1)) ∷ []

-- job k as a list of k mod 7 cards
abbrev pub list_cards : ℕ → List (List ℕ)
list_cards k = (codes "#LIST L" ++ decimal k) ∷ numbered_cards (k % 7) ++ codes "#END" ∷ []

-- a loop that writes the numbers from 1
abbrev pub loop_card : ℕ → List ℕ
loop_card last = codes "FOR I := 1 TO " ++ decimal last ++ codes " DO BEGIN WRITEINT(I); WRITE(NL) END"

-- job k as a program that writes the numbers from 1 to k mod 10
abbrev pub program_cards : ℕ → List (List ℕ)
program_cards k =
    (codes "#JOB P" ++ decimal k) ∷ codes "VAR I: INTEGER;" ∷ codes "BEGIN" ∷ loop_card (k % 10) ∷ codes "END." ∷ codes "#END" ∷ []

abbrev pub job_cards : ℕ → List (List ℕ)
job_cards k = if k % 3 == 0 then list_cards k else program_cards k

-- the cards of jobs 1 to n
abbrev pub jobs_to : ℕ → List (List ℕ)
jobs_to zero = []
jobs_to (suc n) = jobs_to n ++ job_cards (n + 1)

-- `#JOB P1`, .., `#LIST L3`, `CARD 1`, `CARD 2`, `CARD 3`, `#END`, ..; job 100 is the last one of the number 0
abbrev pub made_deck : ℕ → List ℕ
made_deck number = text (jobs_to (100 + number))

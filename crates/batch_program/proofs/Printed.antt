-- What is printed, call by call.
use Rattle.std.proofs.Common.{◌≡◌, ℕ, Bool, true, false, Option, List, [], ◌∷◌, ◌++◌, refl, sym, ◌∙◌, ap, subst, append_assoc}
use Rattle.std.specs.Prelude.{flat_map, nat_lt, ◌==◌, if◌then◌else◌, length}
use Rattle.std.proofs.lemmas.List.{append-nil, flat_map_more}
use Rattle.solo_base.specs.declared.system_call.SysCall.{SysCall}
use Rattle.solo_base.specs.RunOutcome.{RunOutcome, Ends, Waits}
use Rattle.pascal_mean.specs.MoreReplies.{calls_of}
use Rattle.pascal_mean.specs.Batch.{characters_of, shown, Printed, nothing_printed, with_character, with_characters, last_line}
use Rattle.batch_program.specs.Printing.{completed, Prints}
use Rattle.batch_program.specs.Outcome.{printed_by, lines_of}

-- ---- Behind other lines

abbrev pub printed : List (List ℕ) → List ℕ → Printed
printed lines line = record { lines = lines; line = line }

-- the same, behind these lines
abbrev pub behind : List (List ℕ) → Printed → Printed
behind lines p = record { lines = lines ++ p.lines; line = p.line }

choice_behind : (lines : List (List ℕ)) (first second : Bool) (x y z x' y' z' : Printed) → x ≡ behind lines x' → y ≡ behind lines y' → z ≡ behind lines z'
    → (if first then x else if second then y else z) ≡ behind lines (if first then x' else if second then y' else z')
choice_behind lines true second x y z x' y' z' a b c = a
choice_behind lines false true x y z x' y' z' a b c = b
choice_behind lines false false x y z x' y' z' a b c = c

ended_behind : (lines more : List (List ℕ)) (line after : List ℕ)
    → (printed ((lines ++ more) ++ line ∷ []) after) ≡ behind lines (record { lines = more ++ line ∷ []; line = after })
ended_behind lines more line after = ap (λ (l : List (List ℕ)). printed l after) (append_assoc lines more (line ∷ []))

character_behind : (lines : List (List ℕ)) (p : Printed) (code : ℕ) → with_character (behind lines p) code ≡ behind lines (with_character p code)
character_behind lines p code =
    choice_behind lines (code == 10) (nat_lt (length p.line) 132) _ _ _ _ _ _ (ended_behind lines p.lines p.line []) refl
    (ended_behind lines p.lines p.line (shown code ∷ []))

pub characters_behind : (lines : List (List ℕ)) (p : Printed) (codes : List ℕ) → with_characters (behind lines p) codes ≡ behind lines (with_characters p codes)
characters_behind lines p [] = refl
characters_behind lines p (code ∷ more) =
    ap (λ q. with_characters q more) (character_behind lines p code) ∙ characters_behind lines (with_character p code) more

pub characters_append : (p : Printed) (codes more : List ℕ) → with_characters p (codes ++ more) ≡ with_characters (with_characters p codes) more
characters_append p [] more = refl
characters_append p (code ∷ codes) more = characters_append (with_character p code) codes more

-- the complete lines stay
pub lines_stay : (p : Printed) (codes : List ℕ) → (rest : List (List ℕ)) × ((with_characters p codes).lines ≡ p.lines ++ rest)
lines_stay p codes =
    let alone : Printed = record { lines = []; line = p.line } in
    let whole : behind p.lines alone ≡ p = ap (λ (l : List (List ℕ)). printed l p.line) (append-nil p.lines) in (
      (with_characters alone codes).lines,
      ap (λ (q : Printed). (with_characters q codes).lines) (sym whole)
          ∙ ap (λ (q : Printed). q.lines) (characters_behind p.lines alone codes),
    )

-- ---- Call by call

pub printed_more : (made : List SysCall) (call : SysCall) → printed_by (made ++ call ∷ []) ≡ with_characters (printed_by made) (characters_of call)
printed_more made call =
    ap (with_characters nothing_printed) (sym (flat_map_more characters_of [] made call))
    ∙ characters_append nothing_printed (flat_map characters_of made) (characters_of call)

-- a call with these lines before it
pub printed_call : (made : List SysCall) (call : SysCall) (given : List (List ℕ)) (before after : List ℕ) (line : Option (List ℕ))
    → printed_by made ≡ record { lines = given; line = before } → Prints before (characters_of call) line after
    → printed_by (made ++ call ∷ []) ≡ record { lines = given ++ completed line; line = after }
printed_call made call given before after line is prints =
    let alone : Printed = record { lines = []; line = before } in
    let whole : behind given alone ≡ record { lines = given; line = before } = ap (λ (l : List (List ℕ)). printed l before) (append-nil given) in
    printed_more made call
    ∙ ap (λ (q : Printed). with_characters q (characters_of call)) (is ∙ sym whole)
    ∙ characters_behind given alone (characters_of call) ∙ ap (behind given) prints

flat_append : (made rest : List SysCall) → flat_map characters_of (made ++ rest) ≡ flat_map characters_of made ++ flat_map characters_of rest
flat_append [] rest = refl
flat_append (call ∷ made) rest =
    ap (λ l. characters_of call ++ l) (flat_append made rest)
    ∙ sym (append_assoc (characters_of call) (flat_map characters_of made) (flat_map characters_of rest))

-- what these calls completed stands first in what more of them print
pub printed_first : (made rest : List SysCall) → (more : List (List ℕ)) × ((printed_by (made ++ rest)).lines ≡ (printed_by made).lines ++ more)
printed_first made rest =
    let stay = lines_stay (printed_by made) (flat_map characters_of rest) in (
      stay.0,
      ap (λ l. (with_characters nothing_printed l).lines) (flat_append made rest)
          ∙ ap (λ (q : Printed). q.lines) (characters_append nothing_printed (flat_map characters_of made) (flat_map characters_of rest)) ∙ stay.1,
    )

first_of_lines : (made rest all : List SysCall) → all ≡ made ++ rest → (more : List (List ℕ)) × ((printed_by all).lines ≡ (printed_by made).lines ++ more)
first_of_lines made rest all is =
    subst (λ l. (more : List (List ℕ)) × ((printed_by l).lines ≡ (printed_by made).lines ++ more)) (sym is) (printed_first made rest)

pub lines_first : (outcome : RunOutcome) (made rest : List SysCall) → calls_of outcome ≡ made ++ rest
    → (more : List (List ℕ)) × (lines_of outcome ≡ (printed_by made).lines ++ more)
lines_first (Ends r line ticks all) made rest is =
    let first = first_of_lines made rest all is in
    let p = printed_by all in
    (first.0 ++ last_line p.line, ap (λ (l : List (List ℕ)). l ++ last_line p.line) first.1 ∙ append_assoc (printed_by made).lines first.0 (last_line p.line))
lines_first (Waits all) made rest is = first_of_lines made rest all is

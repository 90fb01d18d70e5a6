-- Characters and the line in hand.
use Rattle.std.proofs.Common.{◌≡◌, ◌≢◌, ℕ, ◌+◌, ◌-◌, ◌<◌, ◌≤◌, Bool, true, false, None, Some, List, [], ◌∷◌, ◌++◌, length, take, drop, refl, sym, ◌∙◌, ap, append_assoc, arith}
use Rattle.std.specs.Prelude.{nat_lt, nat_le, ◌==◌, if◌then◌else◌}
use Rattle.std.specs.List.{list_all}
use Rattle.std.proofs.lemmas.Bool.{leb-true, and_parts}
use Rattle.std.proofs.lemmas.Bool.Decides.{nat_tests}
use Rattle.std.proofs.lemmas.List.{append-nil, length-append, length-take-le, length-drop, take-append-drop, take_rest}
use Rattle.std.proofs.lemmas.List.Folds.{list_all-append}
use Rattle.solo_base.specs.Line.{is_printable, IsLine}
use Rattle.pascal_mean.specs.Batch.{shown, Printed, with_character, with_characters}
use Rattle.batch_program.specs.Printing.{Prints}

abbrev printed : List (List ℕ) → List ℕ → Printed
printed lines line = record { lines = lines; line = line }

characters_append : (p : Printed) (codes more : List ℕ) → with_characters p (codes ++ more) ≡ with_characters (with_characters p codes) more
characters_append p [] more = refl
characters_append p (code ∷ codes) more = characters_append (with_character p code) codes more

-- ---- Tests

not_10 : (code : ℕ) → code ≢ 10 → (code == 10) ≡ false
not_10 code other = grind (arith, nat_tests)

is_below : (n : ℕ) → n < 132 → nat_lt n 132 ≡ true
is_below n few = grind (arith, nat_tests)

not_below : (n : ℕ) → 132 ≤ n → nat_lt n 132 ≡ false
not_below n many = grind (arith, nat_tests)

prints_from_32 : (code : ℕ) → is_printable code ≡ true → 32 ≤ code
prints_from_32 code prints = leb-true 32 code (and_parts (nat_le 32 code) (nat_le code 126) prints).0

no_line_end : (code : ℕ) → is_printable code ≡ true → code ≢ 10
no_line_end code prints = λ is. omega (arith, is, prints_from_32 code prints)

shown_itself : (code : ℕ) → is_printable code ≡ true → shown code ≡ code
shown_itself code prints = ap (λ (b : Bool). if b then code else 63) prints

-- ---- One character

second_choice : (first second : Bool) (x y z : Printed) → first ≡ false → second ≡ true → (if first then x else if second then y else z) ≡ y
second_choice first second x y z is and =
    ap (λ (b : Bool). if b then x else if second then y else z) is ∙ ap (λ (b : Bool). if b then y else z) and

third_choice : (first second : Bool) (x y z : Printed) → first ≡ false → second ≡ false → (if first then x else if second then y else z) ≡ z
third_choice first second x y z is and =
    ap (λ (b : Bool). if b then x else if second then y else z) is ∙ ap (λ (b : Bool). if b then y else z) and

goes_behind : (p : Printed) (code : ℕ) → code ≢ 10 → length p.line < 132
    → with_character p code ≡ record { lines = p.lines; line = p.line ++ shown code ∷ [] }
goes_behind p code other few = second_choice (code == 10) (nat_lt (length p.line) 132) _ _ _ (not_10 code other) (is_below (length p.line) few)

begins_line : (p : Printed) (code : ℕ) → code ≢ 10 → 132 ≤ length p.line
    → with_character p code ≡ record { lines = p.lines ++ p.line ∷ []; line = shown code ∷ [] }
begins_line p code other full = third_choice (code == 10) (nat_lt (length p.line) 132) _ _ _ (not_10 code other) (not_below (length p.line) full)

-- ---- Characters that print

all_go_behind : (codes : List ℕ) (lines : List (List ℕ)) (line : List ℕ) → list_all is_printable codes ≡ true → length line + length codes ≤ 132
    → with_characters (record { lines = lines; line = line }) codes ≡ record { lines = lines; line = line ++ codes }
all_go_behind [] lines line print few = ap (λ l. printed lines l) (sym (append-nil line))
all_go_behind (code ∷ more) lines line print few =
    let both = and_parts (is_printable code) (list_all is_printable more) print in
    let before : Printed = record { lines = lines; line = line } in
    let first : with_character before code ≡ record { lines = lines; line = line ++ code ∷ [] } =
    goes_behind before code (no_line_end code both.0) (omega (arith, few))
    ∙ ap (λ d. printed lines (line ++ d ∷ [])) (shown_itself code both.0) in
    ap (λ (p : Printed). with_characters p more) first
    ∙ all_go_behind more lines (line ++ code ∷ []) both.1 (omega (arith, few, length-append line (code ∷ [])))
    ∙ ap (λ l. printed lines l) (append_assoc line (code ∷ []) more)

-- behind a full line they begin the next one
all_begin_line : (codes : List ℕ) (lines : List (List ℕ)) (line : List ℕ) → list_all is_printable codes ≡ true → 132 ≤ length line → 0 < length codes
    → length codes ≤ 132
    → with_characters (record { lines = lines; line = line }) codes ≡ record { lines = lines ++ line ∷ []; line = codes }
all_begin_line [] lines line print full some few = absurd (omega (arith, some))
all_begin_line (code ∷ more) lines line print full some few =
    let both = and_parts (is_printable code) (list_all is_printable more) print in
    let before : Printed = record { lines = lines; line = line } in
    let first : with_character before code ≡ record { lines = lines ++ line ∷ []; line = code ∷ [] } =
    begins_line before code (no_line_end code both.0) full
    ∙ ap (λ d. printed (lines ++ line ∷ []) (d ∷ [])) (shown_itself code both.0) in
    ap (λ (p : Printed). with_characters p more) first ∙ all_go_behind more (lines ++ line ∷ []) (code ∷ []) both.1 (omega (arith, few))

both_print : (codes : List ℕ) (room : ℕ) → list_all is_printable codes ≡ true
    → (list_all is_printable (take room codes) ≡ true) × (list_all is_printable (drop room codes) ≡ true)
both_print codes room print =
    and_parts (list_all is_printable (take room codes)) (list_all is_printable (drop room codes))
    (sym (list_all-append is_printable (take room codes) (drop room codes)) ∙ ap (list_all is_printable) (take-append-drop room codes) ∙ print)

-- more of them than there is room for
go_on_in_next : (before codes : List ℕ) (room : ℕ) → list_all is_printable codes ≡ true → length before + room ≡ 132 → room < length codes
    → length codes ≤ 132
    → Prints before codes (Some (before ++ take room codes)) (drop room codes)
go_on_in_next before codes room print full more few =
    let parts = both_print codes room print in
    let nothing : Printed = record { lines = []; line = before } in
    let fits : length (take room codes) ≡ room = length-take-le room codes (omega (arith, more)) in
    let rest = length-drop room codes in
    ap (with_characters nothing) (sym (take-append-drop room codes))
    ∙ characters_append nothing (take room codes) (drop room codes)
    ∙ ap (λ (p : Printed). with_characters p (drop room codes)) (all_go_behind (take room codes) [] before parts.0 (omega (arith, fits, full)))
    ∙ all_begin_line (drop room codes) [] (before ++ take room codes) parts.1 (omega (arith, fits, full, length-append before (take room codes)))
    (omega (arith, rest, more)) (omega (arith, rest, few))

-- ---- Another line behind the one in hand

pub fits_whole : (line codes line_bytes code_bytes new : List ℕ) → line_bytes ≡ line → code_bytes ≡ codes → IsLine line → IsLine codes
    → length code_bytes ≤ 132 - length line_bytes
    → new ≡ line ++ code_bytes → Prints line codes None new
fits_whole line codes line_bytes code_bytes new line_is codes_is first second few is =
    all_go_behind codes [] line second.printable (omega (arith, few, ap length line_is, ap length codes_is, first.short))
    ∙ ap (λ l. printed [] l) (sym (is ∙ ap (λ l. line ++ l) codes_is))

pub goes_over : (line codes line_bytes code_bytes full dest new : List ℕ) → line_bytes ≡ line → code_bytes ≡ codes → IsLine line → IsLine codes
    → 132 - length line_bytes < length code_bytes → full ≡ line ++ take (132 - length line_bytes) code_bytes → dest ≡ []
    → new ≡ dest ++ take (length code_bytes - (132 - length line_bytes)) (drop (132 - length line_bytes) code_bytes) → Prints line codes (Some full) new
goes_over line codes line_bytes code_bytes full dest new line_is codes_is first second many full_is dest_is new_is =
    let room = 132 - length line_bytes in
    let lengths = ap length line_is in
    let counts = ap length codes_is in
    let whole : length line + room ≡ 132 = omega (arith, lengths, first.short) in
    let over : room < length codes = omega (arith, many, counts) in
    let begun : full ≡ line ++ take room codes = full_is ∙ ap (λ l. line ++ take room l) codes_is in
    let rest : new ≡ drop room codes = new_is ∙ ap (λ l. l ++ take (length code_bytes - room) (drop room code_bytes)) dest_is ∙ take_rest code_bytes room
    ∙ ap (drop room) codes_is in
    go_on_in_next line codes room second.printable whole over second.short
    ∙ ap (λ f. printed (f ∷ []) (drop room codes)) (sym begun)
    ∙ ap (λ l. printed (full ∷ []) l) (sym rest)

pub first_prints : (codes code_bytes : List ℕ) (room : ℕ) → code_bytes ≡ codes → IsLine codes → list_all is_printable (take room code_bytes) ≡ true
first_prints codes code_bytes room is line = (both_print code_bytes room (ap (list_all is_printable) is ∙ line.printable)).0

pub rest_prints : (codes code_bytes : List ℕ) (room count : ℕ) → code_bytes ≡ codes → IsLine codes
    → list_all is_printable (take count (drop room code_bytes)) ≡ true
rest_prints codes code_bytes room count is line =
    (both_print (drop room code_bytes) count (both_print code_bytes room (ap (list_all is_printable) is ∙ line.printable)).1).0

-- Texts, card by card and character by character.
use Rattle.std.proofs.Common.{◌≡◌, ◌≢◌, ℕ, suc, zero, ◌+◌, ◌<◌, ◌≤◌, Bool, true, false, List, [], ◌∷◌, ◌++◌, length, drop, get_or, Some, Result, Ok, Err, ◌&&◌, refl, ap, sym, ◌∙◌, arith, append_assoc}
use Rattle.std.specs.Prelude.{slice_get, nat_le, IfOk}
use Rattle.std.specs.List.{list_all}
use Rattle.std.proofs.lemmas.List.{append-nil}
use Rattle.std.proofs.lemmas.Bool.{leb-true}
use Rattle.solo_base.specs.declared.no_memory.NoMemory.{NoMemory}
use Rattle.solo_base.specs.Line.{IsLine, is_printable}
use Rattle.solo_base.specs.Text.{text, line_text}
use Rattle.disk_contents.specs.Contents.{IsText}
use Rattle.pascal_mean.specs.Batch.{Printed, nothing_printed, with_character, with_characters, lines_in}
use Rattle.file_commands.specs.Texts.{IsAdded, AreAdded}

some_same : {A : Type 0} (a b : A) → Some a ≡ Some b → a ≡ b
some_same a b e = cc

pub drop-next : {A : Type 0} (xs : List A) (n : ℕ) (x : A) → slice_get xs n ≡ Some x → drop n xs ≡ x ∷ drop (suc n) xs
drop-next [] n x is = absurd cc
drop-next (y ∷ xs) zero x is = ap (λ z. z ∷ xs) (some_same y x is)
drop-next (y ∷ xs) (suc n) x is = drop-next xs n x is

pub drop-past : {A : Type 0} (xs : List A) (n : ℕ) → length xs ≤ n → drop n xs ≡ []
drop-past [] zero past = refl
drop-past [] (suc n) past = refl
drop-past (x ∷ xs) zero past = absurd (omega (arith, past))
drop-past (x ∷ xs) (suc n) past = drop-past xs n (omega (arith, past))

-- ---- Cards

one : (n : ℕ) → n + 1 ≡ suc n
one n = omega arith

pub card-added : (cards : List (List ℕ)) (n : ℕ) (card before now : List ℕ) → slice_get cards n ≡ Some card
    → before ++ text (drop n cards) ≡ text cards → now ≡ before ++ line_text card → now ++ text (drop (n + 1) cards) ≡ text cards
card-added cards n card before now is so added =
    ap (λ bytes. bytes ++ text (drop (n + 1) cards)) added ∙ append_assoc before (line_text card) (text (drop (n + 1) cards))
    ∙ ap (λ k. before ++ (line_text card ++ text (drop k cards))) (one n)
    ∙ ap (λ rest. before ++ text rest) (sym (drop-next cards n card is)) ∙ so

pub cards-added : (cards : List (List ℕ)) (n : ℕ) (bytes : List ℕ) → length cards ≤ n → bytes ++ text (drop n cards) ≡ text cards → bytes ≡ text cards
cards-added cards n bytes past so = sym (append-nil bytes) ∙ ap (λ rest. bytes ++ text rest) (sym (drop-past cards n past)) ∙ so

-- ---- Characters

added_on : (p now : Printed) (code : ℕ) (rest : List ℕ) → with_character p code ≡ now → with_characters p (code ∷ rest) ≡ with_characters now rest
added_on p now code rest is = ap (λ q. with_characters q rest) is

element-next : (bytes : List ℕ) (n d : ℕ) → n < length bytes → drop n bytes ≡ get_or bytes n d ∷ drop (suc n) bytes
element-next [] n d below = absurd (omega (arith, below))
element-next (code ∷ bytes) zero d below = refl
element-next (code ∷ bytes) (suc n) d below = element-next bytes n d (omega (arith, below))

pub character-added : (bytes : List ℕ) (n d : ℕ) (lines lines_now : List (List ℕ)) (line line_now : List ℕ) (whole : Printed) → n < length bytes
    → IsAdded lines line (get_or bytes n d) lines_now line_now
    → with_characters (record { lines = lines; line = line }) (drop n bytes) ≡ whole
    → with_characters (record { lines = lines_now; line = line_now }) (drop (n + 1) bytes) ≡ whole
character-added bytes n d lines lines_now line line_now whole below added so =
    ap (λ k. with_characters (record { lines = lines_now; line = line_now }) (drop k bytes)) (one n)
    ∙ sym (added_on (record { lines = lines; line = line }) (record { lines = lines_now; line = line_now }) (get_or bytes n d) (drop (suc n) bytes) added)
    ∙ ap (λ rest. with_characters (record { lines = lines; line = line }) rest) (sym (element-next bytes n d below)) ∙ so

pub characters-added : (bytes : List ℕ) (n : ℕ) (lines : List (List ℕ)) (line : List ℕ) (whole : Printed) → length bytes ≤ n
    → with_characters (record { lines = lines; line = line }) (drop n bytes) ≡ whole → whole ≡ record { lines = lines; line = line }
characters-added bytes n lines line whole past so =
    sym so ∙ ap (λ rest. with_characters (record { lines = lines; line = line }) rest) (drop-past bytes n past)

pub lines-added : (text : List ℕ) (none lines : List (List ℕ)) (blank line : List ℕ) (result : Result (List (List ℕ)) NoMemory) → none ≡ [] → blank ≡ []
    → AreAdded none blank text lines line → IfOk result (λ all. all ≡ lines_in (record { lines = lines; line = line }))
    → IfOk result (λ all. all ≡ lines_in (with_characters nothing_printed text))
lines-added text none lines blank line (Ok all) new empty added is =
    is ∙ ap lines_in
    (sym added ∙ ap (λ (n : List (List ℕ)). with_characters (record { lines = n; line = blank }) text) new
    ∙ ap (λ (b : List ℕ). with_characters (record { lines = []; line = b }) text) empty)
lines-added text none lines blank line (Err lacks) new empty added is = tt

-- ---- Texts of lines have no byte 25

before_others : (code : ℕ) (bytes : List ℕ) → code ≢ 25 → IsText bytes → IsText (code ∷ bytes)
before_others code bytes first rest zero d below = first
before_others code bytes first rest (suc k) d below = rest k d (omega (arith, below))

but_first : (code : ℕ) (bytes : List ℕ) → IsText (code ∷ bytes) → IsText bytes
but_first code bytes is k d below = is (suc k) d (omega (arith, below))

text_append : (a b : List ℕ) → IsText a → IsText b → IsText (a ++ b)
text_append [] b first rest = rest
text_append (code ∷ a) b first rest =
    before_others code (a ++ b) (first 0 0 (omega arith)) (text_append a b (but_first code a first) rest)

prints_no_end : (low high : Bool) (code : ℕ) → nat_le 32 code ≡ low → (low && high) ≡ true → code ≢ 25
prints_no_end true high code is both = λ e. by code (leb-true 32 code is) e
  where
    by : (code : ℕ) → 32 ≤ code → code ≡ 25 → ⊥
    by code least e = omega (arith, least, e)
prints_no_end false high code is both = absurd cc

printed_text : (first rest : Bool) (code : ℕ) (bytes : List ℕ) → is_printable code ≡ first → (first && rest) ≡ true → (rest ≡ true → IsText bytes)
    → IsText (code ∷ bytes)
printed_text true true code bytes is both later =
    before_others code bytes (prints_no_end (nat_le 32 code) (nat_le code 126) code refl is) (later refl)
printed_text true false code bytes is both later = absurd cc
printed_text false rest code bytes is both later = absurd cc

no_text : IsText []
no_text k d below = absurd (omega (arith, below))

line_text_is : (bytes : List ℕ) → list_all is_printable bytes ≡ true → IsText bytes
line_text_is [] is = no_text
line_text_is (code ∷ bytes) is =
    printed_text (is_printable code) (list_all is_printable bytes) code bytes refl is (λ rest. line_text_is bytes rest)

pub text-goes-on : (bytes card : List ℕ) → IsText bytes → IsLine card → IsText (bytes ++ line_text card)
text-goes-on bytes card is line =
    text_append bytes (line_text card) is
    (text_append card (10 ∷ []) (line_text_is card line.printable) (before_others 10 [] (λ e. omega (arith, e)) no_text))

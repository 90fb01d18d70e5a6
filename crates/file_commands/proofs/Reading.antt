-- Texts that are read piece by piece.
use Rattle.std.proofs.Common.{◌≡◌, ℕ, suc, ◌+◌, ◌<◌, ◌≤◌, Bool, true, false, List, [], ◌∷◌, ◌++◌, length, take, refl, ap, sym, subst, ◌∙◌, arith, append_assoc}
use Rattle.std.specs.Prelude.{◌==◌, if◌then◌else◌, cond, not, nat_lt}
use Rattle.std.specs.List.{position_or_len}
use Rattle.std.proofs.lemmas.List.{append-nil, take_all}
use Rattle.std.proofs.lemmas.Bool.{ltb-true, ltb-false}
use Rattle.disk_layout.specs.Files.{File}
use Rattle.disk_contents.specs.Contents.{file_bytes, text_in}
use Rattle.pascal_mean.specs.Batch.{Printed, nothing_printed, with_character, with_characters, lines_in}
use Rattle.file_commands.specs.declared.texts.Reading.{Reading}
use Rattle.file_commands.specs.Texts.{ReadsOn, printed_so_far}

-- ---- Where a text ends

abbrev place : List ℕ → ℕ
place bytes = position_or_len (λ byte. byte == 25) bytes

take_next : (n code : ℕ) (bytes : List ℕ) → take (1 + n) (code ∷ bytes) ≡ code ∷ take n bytes
take_next n code bytes = ap (λ k. take k (code ∷ bytes)) (one n)
  where
    one : (n : ℕ) → 1 + n ≡ suc n
    one n = omega arith

ended_by : (ends : Bool) (code : ℕ) (piece more : List ℕ) → (place piece < length piece → text_in (piece ++ more) ≡ text_in piece)
    → cond (not ends) (1 + place piece) 0 < length (code ∷ piece)
    → take (cond (not ends) (1 + place (piece ++ more)) 0) (code ∷ (piece ++ more)) ≡ take (cond (not ends) (1 + place piece) 0) (code ∷ piece)
ended_by true code piece more later less = refl
ended_by false code piece more later less =
    take_next (place (piece ++ more)) code (piece ++ more) ∙ ap (λ bytes. code ∷ bytes) (later (omega (arith, less)))
    ∙ sym (take_next (place piece) code piece)

text_ended : (piece more : List ℕ) → place piece < length piece → text_in (piece ++ more) ≡ text_in piece
text_ended [] more less = absurd (omega (arith, less))
text_ended (code ∷ piece) more less = ended_by (code == 25) code piece more (text_ended piece more) less

goes_by : (ends : Bool) (code : ℕ) (piece more : List ℕ) → (length piece ≤ place piece → text_in (piece ++ more) ≡ piece ++ text_in more)
    → length (code ∷ piece) ≤ cond (not ends) (1 + place piece) 0
    → take (cond (not ends) (1 + place (piece ++ more)) 0) (code ∷ (piece ++ more)) ≡ code ∷ (piece ++ text_in more)
goes_by true code piece more later past = absurd (omega (arith, past))
goes_by false code piece more later past =
    take_next (place (piece ++ more)) code (piece ++ more) ∙ ap (λ bytes. code ∷ bytes) (later (omega (arith, past)))

text_goes_on : (piece more : List ℕ) → length piece ≤ place piece → text_in (piece ++ more) ≡ piece ++ text_in more
text_goes_on [] more past = refl
text_goes_on (code ∷ piece) more past = goes_by (code == 25) code piece more (text_goes_on piece more) past

characters_append : (p : Printed) (codes more : List ℕ) → with_characters p (codes ++ more) ≡ with_characters (with_characters p codes) more
characters_append p [] more = refl
characters_append p (code ∷ codes) more = characters_append (with_character p code) codes more

-- ---- What was read of a text, whatever comes behind it

pub record HasRead (bytes : List ℕ) (r : Reading) : Type 0 where
  pub read : List ℕ
  pub made : printed_so_far r ≡ with_characters nothing_printed read
  pub rest : (more : List ℕ) → text_in (bytes ++ more) ≡ (if r.ended then read else read ++ text_in more)

pub nothing-read : (r : Reading) → printed_so_far r ≡ nothing_printed → r.ended ≡ false → HasRead [] r
nothing-read r made going =
    record { read = []; made = made; rest = λ more. sym (ap (λ (b : Bool). if b then [] else text_in more) going) }

pub reads-on : (bytes piece : List ℕ) (old now : Reading) → HasRead bytes old → ReadsOn old piece now → HasRead (bytes ++ piece) now
reads-on bytes piece old now is on = by old.ended refl
  where
    behind : (more : List ℕ) → text_in ((bytes ++ piece) ++ more) ≡ (if old.ended then is.read else is.read ++ text_in (piece ++ more))
    behind more = ap text_in (append_assoc bytes piece more) ∙ is.rest (piece ++ more)

    ends : (ended : Bool) → nat_lt (place piece) (length piece) ≡ ended → (more : List ℕ)
        → is.read ++ text_in (piece ++ more) ≡ (if ended then is.read ++ text_in piece else (is.read ++ text_in piece) ++ text_in more)
    ends true test more = ap (λ (t : List ℕ). is.read ++ t) (text_ended piece more (ltb-true (place piece) (length piece) test))
    ends false test more =
        let past = ltb-false (place piece) (length piece) test in
        ap (λ (t : List ℕ). is.read ++ t)
        (text_goes_on piece more past ∙ ap (λ (t : List ℕ). t ++ text_in more) (sym (take_all (place piece) piece past)))
        ∙ sym (append_assoc is.read (text_in piece) (text_in more))

    going : old.ended ≡ false → HasRead (bytes ++ piece) now
    going at = record {
      read = is.read ++ text_in piece;
      made = on.reads at ∙ ap (λ (p : Printed). with_characters p (text_in piece)) is.made
          ∙ sym (characters_append nothing_printed is.read (text_in piece));
      rest = λ more. behind more ∙ ap (λ (b : Bool). if b then is.read else is.read ++ text_in (piece ++ more)) at
          ∙ ends (nat_lt (place piece) (length piece)) refl more
          ∙ sym (ap (λ (b : Bool). if b then is.read ++ text_in piece else (is.read ++ text_in piece) ++ text_in more) (on.ends at));
    }

    over : old.ended ≡ true → HasRead (bytes ++ piece) old
    over at = record {
      read = is.read;
      made = is.made;
      rest = λ more. behind more ∙ ap (λ (b : Bool). if b then is.read else is.read ++ text_in (piece ++ more)) at
          ∙ sym (ap (λ (b : Bool). if b then is.read else is.read ++ text_in more) at);
    }

    by : (ended : Bool) → old.ended ≡ ended → HasRead (bytes ++ piece) now
    by true at = subst (HasRead (bytes ++ piece)) (sym (on.over at)) (over at)
    by false at = going at

-- all of it was read
pub whole-read : (bytes : List ℕ) (r : Reading) → HasRead bytes r → printed_so_far r ≡ with_characters nothing_printed (text_in bytes)
whole-read bytes r is = is.made ∙ ap (with_characters nothing_printed) (sym (ap text_in (sym (append-nil bytes)) ∙ is.rest [] ∙ last r.ended))
  where
    last : (ended : Bool) → (if ended then is.read else is.read ++ []) ≡ is.read
    last true = refl
    last false = append-nil is.read

pub lines-read : (file : File) (bytes : List ℕ) (r : Reading) (all : List (List ℕ)) → HasRead bytes r → bytes ≡ file_bytes file
    → all ≡ lines_in (printed_so_far r) → all ≡ lines_in (with_characters nothing_printed (text_in (file_bytes file)))
lines-read file bytes r all is same made =
    made ∙ ap lines_in (whole-read bytes r is) ∙ ap (λ (b : List ℕ). lines_in (with_characters nothing_printed (text_in b))) same

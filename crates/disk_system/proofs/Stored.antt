-- What is stored is read again.
use Rattle.std.proofs.Common.{◌≡◌, ℕ, suc, zero, ◌+◌, ◌*◌, ◌/◌, ◌%◌, ◌<◌, ◌==◌, true, false, cond, not, Option, Some, None, Ok, List, [], ◌∷◌, ◌++◌, length, take, drop, get_or, replicate, refl, ap, sym, ◌∙◌, inl, inr, arith, length-append}
use Rattle.std.specs.List.{concat, position_or_len}
use Rattle.std.proofs.lemmas.List.{take_all, take_at, take_more, append-nil, length_push, length-replicate, drop-take, take-append-drop, take-take}
use Rattle.std.proofs.lemmas.List.Folds.{concat-append}
use Rattle.std.specs.Option.{unwrap_or}
use Rattle.std.proofs.lemmas.Bool.{cases_Bool, eq-eqb, false≢true, ne_eqb}
use Rattle.std.proofs.lemmas.List.Sums.{fails_before_first, position_or_len_is}
use Rattle.stack_code.specs.CodeLists.{CodeLists}
use Rattle.stack_code.specs.CodeFile.{code_bytes, padding, text_bytes as code_text}
use Rattle.stack_code.proofs.Positions.{code_length}
use Rattle.std.specs.Option.{option_map}
use Rattle.stack_code.specs.Rules.{IsGood, routine_is_good, instr_is_good, routine_record, instr_record, broken_routine, broken_instr, first_of, broken_record}
use Rattle.stack_code.proofs.Least.{none_passes}
use Rattle.disk_contents.specs.Contents.{IsText, cut, in_pages, page_count, text_bytes, text_file, text_in}
use Rattle.disk_system.specs.Calls.{text_answer}

-- ---- Pages

pub length-cut : (bytes : List ℕ) (n : ℕ) → length (cut bytes n) ≡ n
unfolding cut
length-cut bytes zero = refl
length-cut bytes (suc n) = length_push (cut bytes n) (take 512 (drop (512 * n) bytes)) ∙ one_more n (length-cut bytes n)
  where
    one_more : (n : ℕ) {m : ℕ} → m ≡ n → m + 1 ≡ suc n
    one_more n e = omega (arith, e)

pub cut_more : (bytes : List ℕ) (n : ℕ) → cut bytes (n + 1) ≡ cut bytes n ++ take 512 (drop (512 * n) bytes) ∷ []
unfolding cut
cut_more bytes n = ap (cut bytes) (one n)
  where
    one : (n : ℕ) → n + 1 ≡ suc n
    one n = omega arith

pub cut_none : (bytes : List ℕ) → cut bytes 0 ≡ []
unfolding cut
cut_none bytes = refl

-- the first elements, and so many behind them
taken_on : (xs : List ℕ) (n m : ℕ) → take n xs ++ take m (drop n xs) ≡ take (n + m) xs
taken_on xs n m =
    ap (λ ys. ys ++ take m (drop n xs)) (sym (take-take n (n + m) xs (omega arith))) ∙ ap (λ ys. take n (take (n + m) xs) ++ ys) (sym (drop-take n m xs))
    ∙ take-append-drop n (take (n + m) xs)

concat_cut : (bytes : List ℕ) (n : ℕ) → concat (cut bytes n) ≡ take (512 * n) bytes
unfolding cut
concat_cut bytes zero = refl
concat_cut bytes (suc n) =
    concat-append (cut bytes n) (take 512 (drop (512 * n) bytes) ∷ []) ∙ ap (λ xs. xs ++ (take 512 (drop (512 * n) bytes) ++ [])) (concat_cut bytes n)
    ∙ ap (λ xs. take (512 * n) bytes ++ xs) (append-nil (take 512 (drop (512 * n) bytes))) ∙ taken_on bytes (512 * n) 512
    ∙ ap (λ m. take m bytes) (one_more n)
  where
    one_more : (n : ℕ) → 512 * n + 512 ≡ 512 * suc n
    one_more n = omega arith

-- whole pages of bytes are those of their pages
pub pages_read : (bytes : List ℕ) → length bytes % 512 ≡ 0 → concat (in_pages bytes) ≡ bytes
pages_read bytes whole = concat_cut bytes (length bytes / 512) ∙ take_all (512 * (length bytes / 512)) bytes (omega (arith, whole))

-- one page more
pub pages_on : (pages : List (List ℕ)) (n : ℕ) → n < length pages → concat (take (n + 1) pages) ≡ concat (take n pages) ++ get_or pages n []
pages_on pages n below =
    ap concat (take_more pages n [] below) ∙ concat-append (take n pages) (get_or pages n [] ∷ [])
    ∙ ap (λ xs. concat (take n pages) ++ xs) (append-nil (get_or pages n []))

pub pages_all : (pages : List (List ℕ)) (n : ℕ) → n ≡ length pages → concat (take n pages) ≡ concat pages
pages_all pages n all = ap concat (take_all n pages (omega (arith, all)))

-- ---- Texts

pub length-text_bytes : (text : List ℕ) → length (text_bytes text) ≡ 512 * page_count (length text + 1)
length-text_bytes text =
    let behind = length-replicate {A = ℕ} (padding (length text + 1)) 0 in
    length-append text (25 ∷ replicate (padding (length text + 1)) 0) ∙ filled (length text) _ behind
  where
    filled : (n m : ℕ) → m ≡ padding (n + 1) → n + suc m ≡ 512 * page_count (n + 1)
    filled n m is = omega (arith, is)

pub text_pages : (text : List ℕ) → length (text_bytes text) / 512 ≡ page_count (length text + 1)
text_pages text = let is = length-text_bytes text in omega (arith, is)

pub text_whole : (text : List ℕ) → length (text_bytes text) % 512 ≡ 0
text_whole text = let is = length-text_bytes text in omega (arith, is)

text_end : (text rest : List ℕ) → IsText text → position_or_len (λ byte. byte == 25) (text ++ 25 ∷ rest) ≡ length text
text_end [] rest is = refl
text_end (byte ∷ text) rest is =
    ap (λ b. cond (not b) (1 + position_or_len (λ byte. byte == 25) (text ++ 25 ∷ rest)) 0) (ne_eqb byte 25 (is 0 0 (omega arith)))
    ∙ next (text_end text rest (λ k d below. is (suc k) d (omega (arith, below))))
  where
    next : {n m : ℕ} → n ≡ m → 1 + n ≡ suc m
    next e = omega (arith, e)

pub text_read : (text : List ℕ) → IsText text → text_in (text_bytes text) ≡ text
text_read text is =
    ap (λ n. take n (text_bytes text)) (text_end text (replicate (padding (length text + 1)) 0) is)
    ∙ take_at text (25 ∷ replicate (padding (length text + 1)) 0) (length text) refl

pub text_again : (text : List ℕ) → IsText text → text_answer (Some (text_file text)) ≡ Ok text
text_again text is = ap (λ bytes. Ok (text_in bytes)) (pages_read (text_bytes text) (text_whole text)) ∙ ap Ok (text_read text is)

-- ---- Code

pub code_whole : (c : CodeLists) → length (code_bytes c) % 512 ≡ 0
code_whole c = let is = code_length c in filled (length (code_text c)) _ is
  where
    filled : (n m : ℕ) → m ≡ n + padding n → m % 512 ≡ 0
    filled n m e = omega (arith, e)

pub good_unbroken : (c : CodeLists) → IsGood c → broken_record c ≡ None
unfolding broken_record
good_unbroken c good =
    let routines : broken_routine c ≡ None = none_passes (λ k. not (routine_is_good c k)) 0 (length c.routines)
    (λ k _ below. ap not (good.routines k (omega (arith, below)))) in
    let instrs : broken_instr c ≡ None = none_passes (λ place. not (instr_is_good c place)) 0 (length c.instrs)
    (λ place _ below. ap not (good.instrs place (omega (arith, below)))) in
    ap (λ o. first_of (option_map routine_record o) (option_map (instr_record c) (broken_instr c))) routines
    ∙ ap (λ o. option_map (instr_record c) o) instrs

-- a text is what has no byte 25, so it ends where its bytes end
pub ends_nowhere : (text : List ℕ) → IsText text → position_or_len (λ byte. byte == 25) text ≡ length text
ends_nowhere text is = position_or_len_is (λ byte. byte == 25) text (length text) 0 (omega arith)
    (λ k below. ne_eqb (get_or text k 0) 25 (is k 0 below)) (λ past. absurd (omega (arith, past)))

pub ends_late : (text : List ℕ) → position_or_len (λ byte. byte == 25) text ≡ length text → IsText text
ends_late text e = λ k default below is.
    false≢true (sym (fails_before_first (λ byte. byte == 25) text k default (omega (arith, e, below))) ∙ eq-eqb (get_or text k default) 25 is)

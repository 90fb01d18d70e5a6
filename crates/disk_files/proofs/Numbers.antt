-- Numbers that are read from told pages, and what a call answers by them.
use Rattle.std.proofs.Common.{◌≡◌, ◌≢◌, ℕ, ◌<◌, ◌≤◌, Bool, true, false, cond, ◌==◌, ◌||◌, Result, Ok, Err, refl, ap, sym, ◌∙◌, inl, inr}
use Rattle.std.specs.Prelude.{◌⊎◌, nat_lt, nat_le, IfErr, OnOk}
use Rattle.std.proofs.lemmas.Bool.{eq-eqb, ne_eqb, lt-ltb, le-ltb, le-leb, lt-leb, cond-true, cond-false}
use Rattle.disk_files.specs.declared.fault.FileFault.{FileFault}
use Rattle.disk_files.specs.declared.fault.FileFault.TheVariants.{PageRange, DiskFault, FileFull, DiskFull}
use Rattle.disk_files.specs.Answers.{Answers, read_answer_of, append_answer_of, pages_needed}

or_true : (b : Bool) → (b || true) ≡ true
or_true true = refl
or_true false = refl

pub range_refused : (length n : ℕ) → (n ≡ 0) ⊎ (length < n) → read_answer_of length n ≡ Err PageRange
range_refused length n (inl none) = ap (λ b. cond (b || nat_lt length n) (Err PageRange) (Ok tt)) (eq-eqb n 0 none)
range_refused length n (inr past) =
    ap (λ b. cond ((n == 0) || b) (Err PageRange) (Ok tt)) (lt-ltb length n past) ∙ ap (λ b. cond b (Err PageRange) (Ok tt)) (or_true (n == 0))

pub range_given : (length n : ℕ) → n ≢ 0 → n ≤ length → read_answer_of length n ≡ Ok tt
range_given length n some within =
    ap (λ b. cond (b || nat_lt length n) (Err PageRange) (Ok tt)) (ne_eqb n 0 some) ∙ ap (λ b. cond b (Err PageRange) (Ok tt)) (le-ltb length n within)

pub on_ok : {X : Type 0} (r : Result X FileFault) (P Q : Type 0) → (P → Q) → OnOk r P → OnOk r Q
on_ok (Ok x) P Q f p = f p
on_ok (Err e) P Q f p = tt

-- what holds anyway holds of what was done
pub always : {X : Type 0} (r : Result X FileFault) (P : Type 0) → P → OnOk r P
always (Ok x) P p = p
always (Err e) P p = tt

module _ (count free : ℕ) where
  pub append_full : 4000 ≤ count → append_answer_of count free ≡ Err FileFull
  append_full full = cond-true (nat_le 4000 count) _ _ (le-leb 4000 count full)

  pub append_no_room : count < 4000 → free < pages_needed count → append_answer_of count free ≡ Err DiskFull
  append_no_room short none =
      cond-false (nat_le 4000 count) _ _ (lt-leb 4000 count short) ∙ cond-true (nat_lt free (pages_needed count)) _ _ (lt-ltb free (pages_needed count) none)

  pub append_done : count < 4000 → pages_needed count ≤ free → append_answer_of count free ≡ Ok tt
  append_done short room =
      cond-false (nat_le 4000 count) _ _ (lt-leb 4000 count short) ∙ cond-false (nat_lt free (pages_needed count)) _ _ (le-ltb free (pages_needed count) room)

-- a call that only the area can refuse
pub answers_ok : (r expected : Result (Unit {0}) FileFault) → IfErr r (λ fault. fault ≡ DiskFault) → expected ≡ Ok tt → Answers r expected
answers_ok (Ok u) expected fault is = inr (sym is)
answers_ok (Err e) expected fault is = inl (ap Err fault)

pub if_err : {X E : Type 0} (r : Result X E) (P Q : E → Type 0) → ((e : E) → P e → Q e) → IfErr r P → IfErr r Q
if_err (Ok x) P Q f p = p
if_err (Err e) P Q f p = f e p

-- a page that wasn't found
pub range_fails : (fault : FileFault) (expected : Result (Unit {0}) FileFault) → (fault ≡ DiskFault) ⊎ ((fault ≡ PageRange) × (expected ≡ Err PageRange))
    → Answers (Err fault) expected
range_fails fault expected (inl failed) = inl (ap Err failed)
range_fails fault expected (inr past) = inr (ap Err past.0 ∙ sym past.1)

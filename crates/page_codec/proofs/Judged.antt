-- What reading a page from left to right says of its form, and of its least wrong place.
use Rattle.std.proofs.Common.{◌≡◌, ◌≢◌, ℕ, zero, suc, ◌+◌, ◌-◌, ◌≤◌, ◌<◌, ◌⊎◌, Bool, true, false, not, ◌||◌, cond, eqb, leb, List, [], ◌∷◌, length, get_or, drop, replicate, Option, Some, None, refl, sym, ap, ◌∙◌, arith, inl, inr}
use Rattle.std.proofs.lemmas.Bool.{cases_Bool, cases_order, and_parts, and_cases, and_from, eqb-true, eqb-false, eq-eqb, leb-true, leb-false, le-leb, cond-true, cond-false}
use Rattle.std.proofs.lemmas.List.{length-append, length-drop, length-take, get_or-drop, get_or-replicate}
use Rattle.page_codec.specs.Items.{items_bytes}
use Rattle.page_codec.specs.Form.{mark}
use Rattle.solo_base.specs.PageBytes.{number_at}
use Rattle.page_codec.specs.Places.{content_length, content_of, IsBadItem, IsWrong, IsLeastWrong, other_number, other_mark, not_zero, too_long, not_full, bad_item, not_blank}
use Rattle.page_codec.specs.Reading.{bad_item_after, first_other_than_zero, or_else, has_length, bad_body, bad_place}
use Rattle.page_codec.proofs.Scan.{stops_at, bad_item_after-items, bad_item_after-bad}

-- ---- bytes behind the items

pub all_zero : (bytes : List ℕ) (at : ℕ) → first_other_than_zero at bytes ≡ None → bytes ≡ replicate (length bytes) 0
all_zero [] at none = refl
all_zero (byte ∷ rest) at none =
    elim (cases_Bool (eqb byte 0)) [
      | inl zero-byte ↦
          let byte-is : byte ≡ 0 = eqb-true _ _ zero-byte in
          let rest-is = all_zero rest (at + 1) (sym (cond-true _ _ _ zero-byte) ∙ none) in
          let both : byte ∷ rest ≡ 0 ∷ replicate (length rest) 0 = cc in
          both
      | inr other ↦ let e : Some at ≡ None = sym (cond-false _ _ _ other) ∙ none in absurd cc
    ]

pub zeros_are_zero : (n at : ℕ) → first_other_than_zero at (replicate n 0) ≡ None
zeros_are_zero zero at = refl
zeros_are_zero (suc n) at = zeros_are_zero n (at + 1)

-- the first byte that isn't 0
pub record IsFirstOther (at : ℕ) (bytes : List ℕ) (place : ℕ) : Type 0 where
  pub index : ℕ
  pub place-is : place ≡ at + index
  pub within : index < length bytes
  pub other : get_or bytes index 0 ≢ 0
  pub before : (k : ℕ) → k < index → get_or bytes k 0 ≡ 0

before_first : (byte : ℕ) (rest : List ℕ) (index : ℕ) → byte ≡ 0 → ((k : ℕ) → k < index → get_or rest k 0 ≡ 0) → (k : ℕ) → k < suc index → get_or (byte ∷ rest) k 0 ≡ 0
before_first byte rest index byte-is before zero lt = byte-is
before_first byte rest index byte-is before (suc k) lt = before k (omega arith)

pub first_other : (bytes : List ℕ) (at place : ℕ) → first_other_than_zero at bytes ≡ Some place → IsFirstOther at bytes place
first_other [] at place found = absurd cc
first_other (byte ∷ rest) at place found =
    elim (cases_Bool (eqb byte 0)) [
      | inl zero-byte ↦
          let f = first_other rest (at + 1) place (sym (cond-true _ _ _ zero-byte) ∙ found) in
          record {
            index = suc f.index;
            place-is = omega (arith, f.place-is);
            within = omega (arith, f.within);
            other = f.other;
            before = before_first byte rest f.index (eqb-true _ _ zero-byte) f.before;
          }
      | inr other ↦
          let e : Some at ≡ Some place = sym (cond-false _ _ _ other) ∙ found in
          let place-is : at ≡ place = cc in
          record {
            index = 0;
            place-is = omega arith;
            within = omega arith;
            other = eqb-false _ _ other;
            before = λ k lt. absurd (omega arith);
          }
    ]

-- ---- a row of tests

-- a test that must hold, then the others
passed : (test : Bool) (place : ℕ) (others : Option ℕ) → cond (not test) (Some place) others ≡ None → (test ≡ true) × (others ≡ None)
passed true place others none = (refl, none)
passed false place others none = absurd cc

stopped : (test : Bool) (place at : ℕ) (others : Option ℕ) → cond (not test) (Some place) others ≡ Some at → ((test ≡ false) × (at ≡ place)) ⊎ ((test ≡ true) × (others ≡ Some at))
stopped true place at others found = inr (refl, found)
stopped false place at others found = inl (refl, cc)

neither : (first second : Option ℕ) → or_else first second ≡ None → (first ≡ None) × (second ≡ None)
neither None second none = (refl, none)
neither (Some at) second none = absurd cc

either : (first second : Option ℕ) (at : ℕ) → or_else first second ≡ Some at → (first ≡ Some at) ⊎ ((first ≡ None) × (second ≡ Some at))
either None second at found = inr (refl, found)
either (Some place) second at found = inl found

pub some_or_none : (o : Option ℕ) → (o ≡ None) ⊎ ((at : ℕ) × (o ≡ Some at))
some_or_none None = inl refl
some_or_none (Some at) = inr (at, refl)

-- ---- what isn't wrong below a place

record IsFine (expected : ℕ) (last : Bool) (bytes : List ℕ) (limit : ℕ) : Type 0 where
  number : 0 < limit → number_at bytes 0 ≡ expected
  mark-is : 2 < limit → get_or bytes 2 0 ≡ mark last
  zero-is : 3 < limit → get_or bytes 3 0 ≡ 0
  fits : 4 < limit → content_length bytes ≤ 506
  full : 4 < limit → last ≡ false → 374 ≤ content_length bytes
  items : (at : ℕ) → at < limit → IsBadItem (content_of bytes) at → ⊥
  blank : (at : ℕ) → at < limit → 6 + content_length bytes ≤ at → at < length bytes → get_or bytes at 0 ≡ 0

mark_zero : (last : Bool) → mark last ≡ 0 → last ≡ false
mark_zero false e = refl
mark_zero true e = absurd (omega arith)

nothing_wrong : (expected : ℕ) (last : Bool) (bytes : List ℕ) (limit at : ℕ) → IsFine expected last bytes limit → at < limit → IsWrong expected last bytes at → ⊥
nothing_wrong expected last bytes limit at fine lt (other_number place other) = other (fine.number (omega arith))
nothing_wrong expected last bytes limit at fine lt (other_mark place other) = other (fine.mark-is (omega arith))
nothing_wrong expected last bytes limit at fine lt (not_zero place other) = other (fine.zero-is (omega arith))
nothing_wrong expected last bytes limit at fine lt (too_long place long) = absurd (omega (arith, fine.fits (omega arith)))
nothing_wrong expected last bytes limit at fine lt (not_full place first few) =
    absurd (omega (arith, fine.full (omega arith) (mark_zero last (sym (fine.mark-is (omega arith)) ∙ first))))
nothing_wrong expected last bytes limit at fine lt (bad_item bad) = fine.items at lt bad
nothing_wrong expected last bytes limit at fine lt (not_blank behind within other) = other (fine.blank at lt behind within)

-- a bad item is where reading stops
pub bad_item_found : (content : List ℕ) (at : ℕ) → IsBadItem content at → bad_item_after 6 0 content ≡ Some at
bad_item_found content at bad =
    rw (bad.cut, bad.place) (bad_item_after-items bad.before 6 bad.left bad.valid ∙ bad_item_after-bad (6 + length (items_bytes bad.before)) bad.left bad.some bad.none_begins)

pub found_bad_item : (content : List ℕ) (at : ℕ) → bad_item_after 6 0 content ≡ Some at → IsBadItem content at
found_bad_item content at found =
    let s = stops_at content 6 0 at found in
    record {
      before = s.before;
      left = s.left;
      valid = s.valid;
      cut = s.cut;
      place = omega (arith, s.place-is);
      some = s.some;
      none_begins = s.none_begins;
    }

-- ---- a page in which nothing is wrong

-- what each test told
pub record IsGood (expected : ℕ) (last : Bool) (bytes : List ℕ) : Type 0 where
  pub number : number_at bytes 0 ≡ expected
  pub mark-is : get_or bytes 2 0 ≡ mark last
  pub zero-is : get_or bytes 3 0 ≡ 0
  pub fits : content_length bytes ≤ 506
  pub full : last ≡ false → 374 ≤ content_length bytes
  pub items : bad_item_after 6 0 (content_of bytes) ≡ None
  pub blank : first_other_than_zero (6 + content_length bytes) (drop (6 + content_length bytes) bytes) ≡ None

full_from : (last : Bool) (length : ℕ) → (last || leb 374 length) ≡ true → last ≡ false → 374 ≤ length
full_from true length test e = absurd cc
full_from false length test e = leb-true _ _ test

pub good_page : (expected : ℕ) (last : Bool) (bytes : List ℕ) → bad_place expected last bytes ≡ None → IsGood expected last bytes
good_page expected last bytes none =
    let number = passed (eqb (number_at bytes 0) expected) 0 _ none in
    let second = passed (eqb (get_or bytes 2 0) (mark last)) 2 _ number.1 in
    let third = passed (eqb (get_or bytes 3 0) 0) 3 _ second.1 in
    let fourth = passed (has_length last (content_length bytes)) 4 _ third.1 in
    let lengths = and_parts _ _ fourth.0 in
    let body = neither _ _ fourth.1 in
    record {
      number = eqb-true _ _ number.0;
      mark-is = eqb-true _ _ second.0;
      zero-is = eqb-true _ _ third.0;
      fits = leb-true _ _ lengths.0;
      full = full_from last (content_length bytes) lengths.1;
      items = body.0;
      blank = body.1;
    }

pass : (test : Bool) (place : ℕ) (others : Option ℕ) → test ≡ true → others ≡ None → cond (not test) (Some place) others ≡ None
pass true place others e none = none
pass false place others e none = absurd cc

full_to : (last : Bool) (length : ℕ) → (last ≡ false → 374 ≤ length) → (last || leb 374 length) ≡ true
full_to true length full = refl
full_to false length full = le-leb _ _ (full refl)

pub good_is_none : (expected : ℕ) (last : Bool) (bytes : List ℕ) → IsGood expected last bytes → bad_place expected last bytes ≡ None
good_is_none expected last bytes good =
    let items-are = good.items in
    let blank-is = good.blank in
    pass (eqb (number_at bytes 0) expected) 0 _ (eq-eqb _ _ good.number)
    (pass (eqb (get_or bytes 2 0) (mark last)) 2 _ (eq-eqb _ _ good.mark-is)
    (pass (eqb (get_or bytes 3 0) 0) 3 _ (eq-eqb _ _ good.zero-is)
    (pass (has_length last (content_length bytes)) 4 _ (and_from _ _ (le-leb _ _ good.fits) (full_to last (content_length bytes) good.full))
    (rw items-are blank-is))))

no_bad_item : (content : List ℕ) (at : ℕ) → bad_item_after 6 0 content ≡ None → IsBadItem content at → ⊥
no_bad_item content at none bad = let e : Some at ≡ None = sym (bad_item_found content at bad) ∙ none in absurd cc

blank_at : (bytes : List ℕ) (from at : ℕ) → drop from bytes ≡ replicate (length (drop from bytes)) 0 → from ≤ at → at < length bytes → get_or bytes at 0 ≡ 0
blank_at bytes from at blank behind within =
    let read : get_or (drop from bytes) (at - from) 0 ≡ get_or bytes at 0 = get_or-drop from bytes (at - from) 0 ∙ ap (λ (n : ℕ). get_or bytes n 0) (omega arith) in
    sym read ∙ rw blank (get_or-replicate (length (drop from bytes)) (at - from) 0 0 (omega (arith, length-drop from bytes)))

all_fine : (expected : ℕ) (last : Bool) (bytes : List ℕ) (limit : ℕ) → IsGood expected last bytes → IsFine expected last bytes limit
all_fine expected last bytes limit good =
    record {
      number = λ _. good.number;
      mark-is = λ _. good.mark-is;
      zero-is = λ _. good.zero-is;
      fits = λ _. good.fits;
      full = λ _. good.full;
      items = λ at lt. no_bad_item (content_of bytes) at good.items;
      blank = λ at lt. blank_at bytes (6 + content_length bytes) at (all_zero _ _ good.blank);
    }

-- ---- the first place that is wrong is the least

least_at : (expected : ℕ) (last : Bool) (bytes : List ℕ) (at : ℕ) → IsWrong expected last bytes at → IsFine expected last bytes at → IsLeastWrong expected last bytes at
least_at expected last bytes at wrong fine =
    record { wrong = wrong; least = λ before lt. nothing_wrong expected last bytes at before fine lt }

before_items : (content : List ℕ) (at : ℕ) → at < 6 → IsBadItem content at → ⊥
before_items content at lt bad = absurd (omega (arith, bad.place))

wrong_number : (expected : ℕ) (last : Bool) (bytes : List ℕ) → number_at bytes 0 ≢ expected → IsLeastWrong expected last bytes 0
wrong_number expected last bytes other =
    record { wrong = other_number refl other; least = λ before lt. absurd (omega arith) }

wrong_mark : (expected : ℕ) (last : Bool) (bytes : List ℕ) → number_at bytes 0 ≡ expected → get_or bytes 2 0 ≢ mark last → IsLeastWrong expected last bytes 2
wrong_mark expected last bytes number other =
    least_at expected last bytes 2 (other_mark refl other)
    (record {
      number = λ _. number;
      mark-is = λ lt. absurd (omega arith);
      zero-is = λ lt. absurd (omega arith);
      fits = λ lt. absurd (omega arith);
      full = λ lt. absurd (omega arith);
      items = λ at lt. before_items (content_of bytes) at (omega arith);
      blank = λ at lt behind. absurd (omega arith);
    })

wrong_zero : (expected : ℕ) (last : Bool) (bytes : List ℕ) → number_at bytes 0 ≡ expected → get_or bytes 2 0 ≡ mark last → get_or bytes 3 0 ≢ 0 → IsLeastWrong expected last bytes 3
wrong_zero expected last bytes number mark-is other =
    least_at expected last bytes 3 (not_zero refl other)
    (record {
      number = λ _. number;
      mark-is = λ _. mark-is;
      zero-is = λ lt. absurd (omega arith);
      fits = λ lt. absurd (omega arith);
      full = λ lt. absurd (omega arith);
      items = λ at lt. before_items (content_of bytes) at (omega arith);
      blank = λ at lt behind. absurd (omega arith);
    })

bad_length : (expected : ℕ) (last : Bool) (bytes : List ℕ) → get_or bytes 2 0 ≡ mark last → has_length last (content_length bytes) ≡ false → IsWrong expected last bytes 4
bad_length expected true bytes mark-is test =
    elim (and_cases _ _ test) [
      | inl long ↦ too_long refl (leb-false _ _ long)
      | inr e ↦ absurd cc
    ]
bad_length expected false bytes mark-is test =
    elim (and_cases _ _ test) [
      | inl long ↦ too_long refl (leb-false _ _ long)
      | inr few ↦ not_full refl mark-is (leb-false _ _ few)
    ]

wrong_length : (expected : ℕ) (last : Bool) (bytes : List ℕ) → number_at bytes 0 ≡ expected → get_or bytes 2 0 ≡ mark last → get_or bytes 3 0 ≡ 0 → has_length last (content_length bytes) ≡ false → IsLeastWrong expected last bytes 4
wrong_length expected last bytes number mark-is zero-is test =
    least_at expected last bytes 4 (bad_length expected last bytes mark-is test)
    (record {
      number = λ _. number;
      mark-is = λ _. mark-is;
      zero-is = λ _. zero-is;
      fits = λ lt. absurd (omega arith);
      full = λ lt. absurd (omega arith);
      items = λ at lt. before_items (content_of bytes) at (omega arith);
      blank = λ at lt behind. absurd (omega arith);
    })

-- the header is right
record IsHeader (expected : ℕ) (last : Bool) (bytes : List ℕ) : Type 0 where
  number : number_at bytes 0 ≡ expected
  mark-is : get_or bytes 2 0 ≡ mark last
  zero-is : get_or bytes 3 0 ≡ 0
  fits : content_length bytes ≤ 506
  full : last ≡ false → 374 ≤ content_length bytes

one_bad_item : (content : List ℕ) (at place : ℕ) → bad_item_after 6 0 content ≡ Some place → IsBadItem content at → at ≡ place
one_bad_item content at place found bad = let e : Some at ≡ Some place = sym (bad_item_found content at bad) ∙ found in cc

some_bytes : (left : List ℕ) → (left ≡ [] → ⊥) → 1 ≤ length left
some_bytes [] some = absurd (some refl)
some_bytes (byte ∷ rest) some = omega arith

wrong_item : (expected : ℕ) (last : Bool) (bytes : List ℕ) (place : ℕ) → IsHeader expected last bytes → bad_item_after 6 0 (content_of bytes) ≡ Some place → IsLeastWrong expected last bytes place
wrong_item expected last bytes place header found =
    let bad = found_bad_item (content_of bytes) place found in
    let some : 1 ≤ length bad.left = some_bytes bad.left bad.some in
    let inside : place < 6 + content_length bytes = omega (arith, bad.place, some, ap length bad.cut, length-append (items_bytes bad.before) bad.left, length-take (content_length bytes) (drop 6 bytes)) in
    least_at expected last bytes place (bad_item bad)
    (record {
      number = λ _. header.number;
      mark-is = λ _. header.mark-is;
      zero-is = λ _. header.zero-is;
      fits = λ _. header.fits;
      full = λ _. header.full;
      items = λ at lt other. absurd (omega (arith, one_bad_item (content_of bytes) at place found other));
      blank = λ at lt behind. absurd (omega arith);
    })

before_other : (bytes : List ℕ) (from at place : ℕ) (f : IsFirstOther from (drop from bytes) place) → at < place → from ≤ at → get_or bytes at 0 ≡ 0
before_other bytes from at place f lt behind =
    let read : get_or (drop from bytes) (at - from) 0 ≡ get_or bytes at 0 = get_or-drop from bytes (at - from) 0 ∙ ap (λ (n : ℕ). get_or bytes n 0) (omega arith) in
    sym read ∙ f.before (at - from) (omega (arith, f.place-is))

wrong_blank : (expected : ℕ) (last : Bool) (bytes : List ℕ) (place : ℕ) → IsHeader expected last bytes → bad_item_after 6 0 (content_of bytes) ≡ None
    → first_other_than_zero (6 + content_length bytes) (drop (6 + content_length bytes) bytes) ≡ Some place → IsLeastWrong expected last bytes place
wrong_blank expected last bytes place header none found =
    let from = 6 + content_length bytes in
    let f = first_other (drop from bytes) from place found in
    let read : get_or (drop from bytes) f.index 0 ≡ get_or bytes place 0 = get_or-drop from bytes f.index 0 ∙ ap (λ (n : ℕ). get_or bytes n 0) (sym f.place-is) in
    least_at expected last bytes place
    (not_blank (omega (arith, f.place-is)) (omega (arith, f.place-is, f.within, length-drop from bytes)) (λ e. f.other (read ∙ e)))
    (record {
      number = λ _. header.number;
      mark-is = λ _. header.mark-is;
      zero-is = λ _. header.zero-is;
      fits = λ _. header.fits;
      full = λ _. header.full;
      items = λ at lt. no_bad_item (content_of bytes) at none;
      blank = λ at lt behind within. before_other bytes from at place f lt behind;
    })

wrong_body : (expected : ℕ) (last : Bool) (bytes : List ℕ) (at : ℕ) → number_at bytes 0 ≡ expected → get_or bytes 2 0 ≡ mark last → get_or bytes 3 0 ≡ 0 → has_length last (content_length bytes) ≡ true
    → bad_body (content_length bytes) bytes ≡ Some at → IsLeastWrong expected last bytes at
wrong_body expected last bytes at number mark-is zero-is test found =
    let lengths = and_parts _ _ test in
    let header : IsHeader expected last bytes =
    record { number = number; mark-is = mark-is; zero-is = zero-is; fits = leb-true _ _ lengths.0; full = full_from last (content_length bytes) lengths.1 } in
    elim (either _ _ at found) [
      | inl item ↦ wrong_item expected last bytes at header item
      | inr blank ↦ wrong_blank expected last bytes at header blank.0 blank.1
    ]

pub least_wrong : (expected : ℕ) (last : Bool) (bytes : List ℕ) (at : ℕ) → bad_place expected last bytes ≡ Some at → IsLeastWrong expected last bytes at
least_wrong expected last bytes at found =
    elim (stopped (eqb (number_at bytes 0) expected) 0 at _ found) [
      | inl number ↦ rw number.1 (wrong_number expected last bytes (eqb-false _ _ number.0))
      | inr number ↦
          let number-is : number_at bytes 0 ≡ expected = eqb-true _ _ number.0 in
          elim (stopped (eqb (get_or bytes 2 0) (mark last)) 2 at _ number.1) [
            | inl second ↦ rw second.1 (wrong_mark expected last bytes number-is (eqb-false _ _ second.0))
            | inr second ↦
                let mark-is : get_or bytes 2 0 ≡ mark last = eqb-true _ _ second.0 in
                elim (stopped (eqb (get_or bytes 3 0) 0) 3 at _ second.1) [
                  | inl third ↦ rw third.1 (wrong_zero expected last bytes number-is mark-is (eqb-false _ _ third.0))
                  | inr third ↦
                      let zero-is : get_or bytes 3 0 ≡ 0 = eqb-true _ _ third.0 in
                      elim (stopped (has_length last (content_length bytes)) 4 at _ third.1) [
                        | inl fourth ↦ rw fourth.1 (wrong_length expected last bytes number-is mark-is zero-is fourth.0)
                        | inr fourth ↦ wrong_body expected last bytes at number-is mark-is zero-is fourth.0 fourth.1
                      ]
                ]
          ]
    ]

-- two places that are the least are one
one_least : (expected : ℕ) (last : Bool) (bytes : List ℕ) (at place : ℕ) → IsLeastWrong expected last bytes at → IsLeastWrong expected last bytes place → at ≡ place
one_least expected last bytes at place one other =
    elim (cases_order at place) [
      | inl same ↦ same
      | inr differ ↦
          elim differ [
            | inl lt ↦ absurd (other.least at lt one.wrong)
            | inr gt ↦ absurd (one.least place gt other.wrong)
          ]
    ]

pub least_found : (expected : ℕ) (last : Bool) (bytes : List ℕ) (at : ℕ) → IsLeastWrong expected last bytes at → bad_place expected last bytes ≡ Some at
least_found expected last bytes at least =
    elim (some_or_none (bad_place expected last bytes)) [
      | inl none ↦ absurd (nothing_wrong expected last bytes (suc at) at (all_fine expected last bytes (suc at) (good_page expected last bytes none)) (omega arith) least.wrong)
      | inr found ↦ found.1 ∙ ap (λ (n : ℕ). Some n) (one_least expected last bytes found.0 at (least_wrong expected last bytes found.0 found.1) least)
    ]

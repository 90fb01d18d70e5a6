-- Items are read from their bytes, and only from them.
use Rattle.std.proofs.Common.{◌≡◌, ℕ, zero, suc, ◌+◌, ◌-◌, ◌≤◌, true, false, ◌&&◌, eqb, leb, List, [], ◌∷◌, ◌++◌, length, get_or, take, drop, Some, None, refl, sym, ap, ◌∙◌, append_assoc, arith, inl, inr}
use Rattle.std.proofs.lemmas.Bool.{cases_Bool, and_parts, and_from, or_cases, or_right, eqb-true, ne_eqb, leb-true, le-leb, cond-true, cond-false, both_ways}
use Rattle.std.proofs.lemmas.List.{take_at, drop_at, take-append-drop, take_all, take_rest, drop-drop, drop-take, length-append, length-drop, length-take, length-take-le}
use Rattle.std.proofs.Math.Numerals.{one-add}
use Rattle.std.specs.List.{list_all}
use Rattle.solo_base.specs.Line.{is_printable}
use Rattle.solo_base.specs.declared.item.Item.{Item}
use Rattle.solo_base.specs.declared.item.Item.TheVariants.{Line, Spoiled}
use Rattle.page_codec.specs.Items.{item_bytes, items_bytes, IsItem, AreItems}
use Rattle.page_codec.specs.Reading.{begins_item, characters, item_at, items_after, bad_item_after}

-- passing over bytes is dropping them
pub bad_item_after-passed : (at passed : ℕ) (bytes : List ℕ) → bad_item_after at passed bytes ≡ bad_item_after (at + passed) 0 (drop passed bytes)
bad_item_after-passed at zero bytes = ap (λ (n : ℕ). bad_item_after n 0 bytes) (omega arith)
bad_item_after-passed at (suc passed) [] = refl
bad_item_after-passed at (suc passed) (byte ∷ rest) =
    bad_item_after-passed (at + 1) passed rest ∙ ap (λ (n : ℕ). bad_item_after n 0 (drop passed rest)) (omega arith)

pub items_after-passed : (passed : ℕ) (bytes : List ℕ) → items_after passed bytes ≡ items_after 0 (drop passed bytes)
items_after-passed zero bytes = refl
items_after-passed (suc passed) [] = refl
items_after-passed (suc passed) (byte ∷ rest) = items_after-passed passed rest

-- the parts of the test
pub record IsFront (first : ℕ) (rest : List ℕ) : Type 0 where
  pub valid : IsItem (item_at first rest)
  pub bytes : item_bytes (item_at first rest) ≡ first ∷ take (characters first) rest
  pub short : characters first ≤ length rest
  pub few : characters first ≤ 132

line_front : (first : ℕ) (rest : List ℕ) → eqb first 255 ≡ false → (leb first 132 && leb first (length rest) && list_all is_printable (take first rest)) ≡ true → IsFront first rest
line_front first rest other test =
    let both = and_parts _ _ test in
    let lengths = and_parts _ _ both.0 in
    let few : first ≤ 132 = leb-true _ _ lengths.0 in
    let short : first ≤ length rest = leb-true _ _ lengths.1 in
    let len : length (take first rest) ≡ first = length-take-le first rest short in
    let item-is : item_at first rest ≡ Line (take first rest) = cond-false _ _ _ other in
    let count-is : characters first ≡ first = cond-false _ _ _ other in
    record {
      valid = rw item-is (record { short = omega arith; printable = both.1 });
      bytes = rw (item-is, count-is, len) refl;
      short = rw count-is short;
      few = rw count-is few;
    }

spoiled_front : (first : ℕ) (rest : List ℕ) → eqb first 255 ≡ true → IsFront first rest
spoiled_front first rest same =
    let first-is : first ≡ 255 = eqb-true _ _ same in
    let item-is : item_at first rest ≡ Spoiled = cond-true _ _ _ same in
    let count-is : characters first ≡ 0 = cond-true _ _ _ same in
    record {
      valid = rw item-is tt;
      bytes = rw (item-is, count-is, first-is) refl;
      short = rw count-is (omega arith);
      few = rw count-is (omega arith);
    }

pub front_from_test : (first : ℕ) (rest : List ℕ) → begins_item first rest ≡ true → IsFront first rest
front_from_test first rest test =
    elim (cases_Bool (eqb first 255)) [
      | inl same ↦ spoiled_front first rest same
      | inr other ↦
          elim (or_cases _ _ test) [
            | inl same ↦ spoiled_front first rest same
            | inr line ↦ line_front first rest other line
          ]
    ]

-- an item at the front passes the test, and is read
pub record IsRead (item : Item) (more : List ℕ) : Type 0 where
  pub first : ℕ
  pub rest : List ℕ
  pub bytes : item_bytes item ++ more ≡ first ∷ rest
  pub test : begins_item first rest ≡ true
  pub item-is : item_at first rest ≡ item
  pub left : drop (characters first) rest ≡ more
  pub count : 1 + characters first ≡ length (item_bytes item)

pub read_again : (item : Item) (more : List ℕ) → IsItem item → IsRead item more
read_again Spoiled more valid =
    record { first = 255; rest = more; bytes = refl; test = refl; item-is = refl; left = refl; count = refl }
read_again (Line line) more valid =
    let other : eqb (length line) 255 ≡ false = ne_eqb _ _ (λ same. absurd (omega (arith, valid.short))) in
    let front : take (length line) (line ++ more) ≡ line = take_at line more (length line) refl in
    let count-is : characters (length line) ≡ length line = cond-false _ _ _ other in
    record {
      first = length line;
      rest = line ++ more;
      bytes = refl;
      test = or_right _ _ (and_from _ _ (and_from _ _ (le-leb _ _ valid.short) (le-leb _ _ (omega (arith, length-append line more)))) (rw front valid.printable));
      item-is = cond-false _ _ _ other ∙ ap (λ (l : List ℕ). Line l) front;
      left = rw count-is (drop_at line more (length line) refl);
      count = rw count-is (omega arith);
    }

-- an item at the front is passed over
pub bad_item_after-item : (at : ℕ) (item : Item) (more : List ℕ) → IsItem item → bad_item_after at 0 (item_bytes item ++ more) ≡ bad_item_after (at + length (item_bytes item)) 0 more
bad_item_after-item at item more valid =
    let r = read_again item more valid in
    let e : bad_item_after at 0 (r.first ∷ r.rest) ≡ bad_item_after (at + 1) (characters r.first) r.rest = cond-true _ _ _ r.test in
    rw (r.bytes, e, bad_item_after-passed (at + 1) (characters r.first) r.rest, r.left)
    (ap (λ (n : ℕ). bad_item_after n 0 more) (omega (arith, r.count)))

pub items_after-item : (item : Item) (more : List ℕ) → IsItem item → items_after 0 (item_bytes item ++ more) ≡ item ∷ items_after 0 more
items_after-item item more valid =
    let r = read_again item more valid in
    rw (r.bytes, items_after-passed (characters r.first) r.rest, r.left, r.item-is) refl

-- and so are all items
pub bad_item_after-items : (items : List Item) (at : ℕ) (more : List ℕ) → AreItems items → bad_item_after at 0 (items_bytes items ++ more) ≡ bad_item_after (at + length (items_bytes items)) 0 more
bad_item_after-items [] at more valid = ap (λ (n : ℕ). bad_item_after n 0 more) (omega arith)
bad_item_after-items (item ∷ rest) at more valid =
    rw append_assoc
    (bad_item_after-item at item (items_bytes rest ++ more) valid.0
    ∙ bad_item_after-items rest (at + length (item_bytes item)) more valid.1
    ∙ ap (λ (n : ℕ). bad_item_after n 0 more) (omega (arith, length-append (item_bytes item) (items_bytes rest))))

pub items_after-items : (items : List Item) (more : List ℕ) → AreItems items → items_after 0 (items_bytes items ++ more) ≡ items ++ items_after 0 more
items_after-items [] more valid = refl
items_after-items (item ∷ rest) more valid =
    rw append_assoc
    (items_after-item item (items_bytes rest ++ more) valid.0 ∙ ap (λ (l : List Item). item ∷ l) (items_after-items rest more valid.1))

-- Bytes in which no item is wrong are those of the items that they give.
pub record AreRead (passed : ℕ) (bytes : List ℕ) : Type 0 where
  pub bytes-are : drop passed bytes ≡ items_bytes (items_after passed bytes)
  pub valid : AreItems (items_after passed bytes)

pub all_read : (bytes : List ℕ) (at passed : ℕ) → bad_item_after at passed bytes ≡ None → AreRead passed bytes
all_read [] at zero none = record { bytes-are = refl; valid = tt }
all_read [] at (suc passed) none = record { bytes-are = refl; valid = tt }
all_read (byte ∷ rest) at (suc passed) none =
    let r = all_read rest (at + 1) passed none in
    record { bytes-are = r.bytes-are; valid = r.valid }
all_read (byte ∷ rest) at zero none =
    elim (cases_Bool (begins_item byte rest)) [
      | inl good ↦
          let f = front_from_test byte rest good in
          let r = all_read rest (at + 1) (characters byte) (sym (cond-true _ _ _ good) ∙ none) in
          record {
            bytes-are = rw (f.bytes, ← r.bytes-are) (ap (λ (l : List ℕ). byte ∷ l) (sym (take-append-drop (characters byte) rest)));
            valid = (f.valid, r.valid);
          }
      | inr bad ↦ let e : Some at ≡ None = sym (cond-false _ _ _ bad) ∙ none in absurd cc
    ]

-- Where one is wrong, the bytes before it are items, and it begins none.
pub record StopsAt (at passed : ℕ) (bytes : List ℕ) (place : ℕ) : Type 0 where
  pub before : List Item
  pub left : List ℕ
  pub valid : AreItems before
  pub cut : drop passed bytes ≡ items_bytes before ++ left
  pub place-is : place ≡ at + passed + length (items_bytes before)
  pub some : left ≡ [] → ⊥
  pub none_begins : (item : Item) (more : List ℕ) → IsItem item → left ≡ item_bytes item ++ more → ⊥

no_item : (byte : ℕ) (rest : List ℕ) → begins_item byte rest ≡ false → (item : Item) (more : List ℕ) → IsItem item → byte ∷ rest ≡ item_bytes item ++ more → ⊥
no_item byte rest bad item more valid e =
    let r = read_again item more valid in
    let same : byte ∷ rest ≡ r.first ∷ r.rest = e ∙ r.bytes in
    let first-is : byte ≡ r.first = cc in
    let rest-is : rest ≡ r.rest = cc in
    both_ways (begins_item byte rest) bad (rw (first-is, rest-is) r.test)

pub stops_at : (bytes : List ℕ) (at passed place : ℕ) → bad_item_after at passed bytes ≡ Some place → StopsAt at passed bytes place
stops_at [] at zero place found = absurd cc
stops_at [] at (suc passed) place found = absurd cc
stops_at (byte ∷ rest) at (suc passed) place found =
    let s = stops_at rest (at + 1) passed place found in
    record {
      before = s.before;
      left = s.left;
      valid = s.valid;
      cut = s.cut;
      place-is = omega (arith, s.place-is);
      some = s.some;
      none_begins = s.none_begins;
    }
stops_at (byte ∷ rest) at zero place found =
    elim (cases_Bool (begins_item byte rest)) [
      | inl good ↦
          let f = front_from_test byte rest good in
          let s = stops_at rest (at + 1) (characters byte) place (sym (cond-true _ _ _ good) ∙ found) in
          let front = item_at byte rest in
          let len : length (item_bytes front) ≡ 1 + characters byte = ap length f.bytes ∙ omega (arith, length-take-le (characters byte) rest f.short) in
          record {
            before = front ∷ s.before;
            left = s.left;
            valid = (f.valid, s.valid);
            cut = rw (f.bytes, append_assoc, ← s.cut) (ap (λ (l : List ℕ). byte ∷ l) (sym (take-append-drop (characters byte) rest)));
            place-is = omega (arith, s.place-is, len, length-append (item_bytes front) (items_bytes s.before));
            some = s.some;
            none_begins = s.none_begins;
          }
      | inr bad ↦
          let e : Some at ≡ Some place = sym (cond-false _ _ _ bad) ∙ found in
          let place-is : at ≡ place = cc in
          record {
            before = [];
            left = byte ∷ rest;
            valid = tt;
            cut = refl;
            place-is = omega arith;
            some = λ e. absurd cc;
            none_begins = no_item byte rest bad;
          }
    ]

-- and a byte that begins no item is found
pub bad_item_after-bad : (at : ℕ) (left : List ℕ) → (left ≡ [] → ⊥) → ((item : Item) (more : List ℕ) → IsItem item → left ≡ item_bytes item ++ more → ⊥) → bad_item_after at 0 left ≡ Some at
bad_item_after-bad at [] some none_begins = absurd (some refl)
bad_item_after-bad at (byte ∷ rest) some none_begins =
    elim (cases_Bool (begins_item byte rest)) [
      | inl good ↦
          let f = front_from_test byte rest good in
          absurd (none_begins (item_at byte rest) (drop (characters byte) rest) f.valid (rw (f.bytes, take-append-drop) refl))
      | inr bad ↦ cond-false _ _ _ bad
    ]

-- one item on, where the bytes begin with one
pub record IsTurn (at passed : ℕ) (left : List ℕ) (after : List ℕ) : Type 0 where
  pub bad : bad_item_after (at + (1 + passed)) 0 after ≡ bad_item_after at 0 left
  pub items : items_after 0 left ≡ item_at (get_or left 0 0) (take (length left - 1) (drop 1 left)) ∷ items_after 0 after
  pub after-is : after ≡ drop (1 + passed) left
  pub long : length after + (1 + passed) ≡ length left

pub turn : (at passed : ℕ) (left : List ℕ) → 1 ≤ length left → begins_item (get_or left 0 0) (take (length left - 1) (drop 1 left)) ≡ true → passed ≡ characters (get_or left 0 0) → IsTurn at passed left (take (length (take (length left - 1) (drop 1 left)) - passed) (drop passed (take (length left - 1) (drop 1 left))))
turn at passed [] some test passed-is = absurd (omega arith)
turn at passed (byte ∷ rest) some test passed-is =
    let whole : take (length (byte ∷ rest) - 1) rest ≡ rest = take_all _ rest (omega arith) in
    let good : begins_item byte rest ≡ true = rw whole at test in
    let f = front_from_test byte rest good in
    let after : take (length (take (length (byte ∷ rest) - 1) rest) - passed) (drop passed (take (length (byte ∷ rest) - 1) rest)) ≡ drop passed rest =
    rw whole (take_rest rest passed) in
    let step : bad_item_after at 0 (byte ∷ rest) ≡ bad_item_after (at + 1) (characters byte) rest = cond-true _ _ _ good in
    rw after
    (record {
      bad = sym (step ∙ bad_item_after-passed (at + 1) (characters byte) rest ∙ rw (← passed-is) (ap (λ (n : ℕ). bad_item_after n 0 (drop passed rest)) (omega arith)));
      items = rw whole (ap (λ (l : List Item). item_at byte rest ∷ l) (items_after-passed (characters byte) rest ∙ rw (← passed-is) refl));
      after-is = rw one-add refl;
      long = omega (arith, length-drop passed rest, f.short, passed-is);
    })

-- the same, where the bytes are those of a page from one place to another
pub record IsNext (at end passed : ℕ) (page : List ℕ) : Type 0 where
  pub within : at + (1 + passed) ≤ end
  pub good : bad_item_after (at + (1 + passed)) 0 (take (end - (at + (1 + passed))) (drop (at + (1 + passed)) page)) ≡ None
  pub items : items_after 0 (take (end - at) (drop at page))
      ≡ item_at (get_or (take (end - at) (drop at page)) 0 0) (take (length (take (end - at) (drop at page)) - 1) (drop 1 (take (end - at) (drop at page))))
      ∷ items_after 0 (take (end - (at + (1 + passed))) (drop (at + (1 + passed)) page))

good_front : (at : ℕ) (left : List ℕ) → 1 ≤ length left → bad_item_after at 0 left ≡ None → begins_item (get_or left 0 0) (take (length left - 1) (drop 1 left)) ≡ true
good_front at [] some none = absurd (omega arith)
good_front at (byte ∷ rest) some none =
    elim (cases_Bool (begins_item byte rest)) [
      | inl good ↦ rw (take_all (length (byte ∷ rest) - 1) rest (omega arith)) good
      | inr bad ↦ let e : Some at ≡ None = sym (cond-false _ _ _ bad) ∙ none in absurd cc
    ]

pub next_of : (at end passed : ℕ) (page : List ℕ) → at ≤ end → 1 ≤ length (take (end - at) (drop at page)) → bad_item_after at 0 (take (end - at) (drop at page)) ≡ None → passed ≡ characters (get_or (take (end - at) (drop at page)) 0 0) → IsNext at end passed page
next_of at end passed page order some none passed-is =
    let content = take (end - at) (drop at page) in
    let t = turn at passed content some (good_front at content some none) passed-is in
    let within : at + (1 + passed) ≤ end = omega (arith, t.long, length-take (end - at) (drop at page)) in
    let count : end - at ≡ 1 + passed + (end - (at + (1 + passed))) = omega arith in
    let after : drop (1 + passed) content ≡ take (end - (at + (1 + passed))) (drop (at + (1 + passed)) page) =
    rw count (drop-take (1 + passed) (end - (at + (1 + passed))) (drop at page) ∙ ap (λ (l : List ℕ). take (end - (at + (1 + passed))) l) (drop-drop (1 + passed) at page)) in
    record {
      within = within;
      good = rw (← after, ← t.after-is) (t.bad ∙ none);
      items = rw (← after, ← t.after-is) t.items;
    }

-- so the first item is one, and the others are those behind it
pub passed_one : (at end passed : ℕ) (page : List ℕ) → IsNext at end passed page
    → (item : Item) × (items_after 0 (take (end - at) (drop at page)) ≡ item ∷ items_after 0 (take (end - (at + (1 + passed))) (drop (at + (1 + passed)) page)))
passed_one at end passed page next =
    let content = take (end - at) (drop at page) in
    (item_at (get_or content 0 0) (take (length content - 1) (drop 1 content)), next.items)

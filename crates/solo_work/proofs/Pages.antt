-- The page in hand, line by line.
use Rattle.std.proofs.Common.{◌≡◌, ℕ, zero, suc, ◌+◌, ◌%◌, ◌^◌, ◌≤◌, Bool, true, false, if◌then◌else◌, List, [], ◌∷◌, ◌++◌, length, map, Option, None, Some, refl, sym, ◌∙◌, ap, subst, arith}
use Rattle.std.specs.Prelude.{nat_le, not}
use Rattle.std.specs.List.{AllByRecursion}
use Rattle.std.proofs.lemmas.List.{append-nil}
use Rattle.solo_base.specs.Line.{IsLine}
use Rattle.solo_base.specs.declared.item.Item.{Item}
use Rattle.solo_base.specs.declared.item.Item.TheVariants.{Line}
use Rattle.solo_base.specs.declared.page.Page.{Page}
use Rattle.page_codec.specs.Items.{item_bytes, items_bytes}
use Rattle.page_codec.specs.Form.{page_of}
use Rattle.page_codec.specs.Packing.{PageInHand, page_given, hand_after}
use Rattle.page_codec.proofs.Cutting.{items_bytes-push}
use Rattle.exchange_law.specs.Pages.{page_with}
use Rattle.exchange_law.proofs.Lines.{HandFits, one-fits, more-fits, full-page}
use Rattle.solo_task.specs.Needs.{fits_behind}
use Rattle.exchange_law.specs.Pages.{last_page}
use Rattle.solo_work.specs.declared.paper.Paper.{Paper}
use Rattle.solo_work.specs.Paper.{has_printed, IsHand, AddsLine}

map-push : (hand : List (List ℕ)) (line : List ℕ) → map Line (hand ++ line ∷ []) ≡ map Line hand ++ Line line ∷ []
map-push [] line = refl
map-push (first ∷ hand) line = ap (λ l. Line first ∷ l) (map-push hand line)

bytes-push : (hand : List (List ℕ)) (line content : List ℕ) → content ≡ items_bytes (map Line hand)
    → content ++ item_bytes (Line line) ≡ items_bytes (map Line (hand ++ line ∷ []))
bytes-push hand line content is =
    ap (λ c. c ++ item_bytes (Line line)) is ∙ sym (items_bytes-push (map Line hand) (Line line)) ∙ ap items_bytes (sym (map-push hand line))

more-printed : (pages : ℕ) (hand : List (List ℕ)) (line : List ℕ) → has_printed pages (hand ++ line ∷ []) ≡ true
more-printed zero [] line = refl
more-printed zero (first ∷ hand) line = refl
more-printed (suc pages) hand line = refl

hand-fits : (p : Paper) (pages : ℕ) (hand : List (List ℕ)) → IsHand p pages hand → HandFits hand
hand-fits p pages hand is = record { lines = is.lines; room = is.fits }

next-place : (place pages : ℕ) → place ≡ pages % 2 ^ 16 → (place + 1) % 2 ^ 16 ≡ suc pages % 2 ^ 16
next-place place pages is = omega (arith, is)

after : PageInHand → Paper
after hand = record { packer = hand; printed = true }

-- by whether the line has room
by-room : (room : Bool) (p : Paper) (pages : ℕ) (hand : List (List ℕ)) (line : List ℕ) → IsHand p pages hand → IsLine line → fits_behind hand line ≡ room
    → AddsLine pages hand line (if room then None else Some (page_of p.packer.place false p.packer.content))
    (record {
      packer =
          if room then record p.packer { content = p.packer.content ++ item_bytes (Line line) }
          else record { place = (p.packer.place + 1) % 2 ^ 16; content = item_bytes (Line line) };
      printed = true;
    })
by-room true p pages hand line is valid room = (
  room,
  let more = more-fits hand line (hand-fits p pages hand is) valid room in
      record {
        place = is.place;
        content = bytes-push hand line p.packer.content is.content;
        printed = sym (more-printed pages hand line);
        lines = more.lines;
        fits = more.room;
      },
)
by-room false p pages hand line is valid room = (
  room,
  ap (λ place. page_of place false p.packer.content) is.place ∙ ap (λ content. page_of (pages % 2 ^ 16) false content) is.content,
  full-page hand line (hand-fits p pages hand is) valid room,
  let one = one-fits line valid in
      record {
        place = next-place p.packer.place pages is.place;
        content = sym (append-nil (item_bytes (Line line)));
        printed = refl;
        lines = one.lines;
        fits = one.room;
      },
)

pub line-added : (p : Paper) (line : List ℕ) (result : Option Page) (now : PageInHand) (pages : ℕ) (hand : List (List ℕ)) → IsLine line
    → result ≡ page_given p.packer (Line line) → now ≡ hand_after p.packer (Line line) → IsHand p pages hand
    → AddsLine pages hand line result (record { packer = now; printed = true })
line-added p line result now pages hand valid gives leaves is =
    let room : nat_le (length (p.packer.content ++ item_bytes (Line line))) 506 ≡ fits_behind hand line =
    ap (λ bytes. nat_le (length bytes) 506) (bytes-push hand line p.packer.content is.content) in
    subst (λ (r : Option Page). AddsLine pages hand line r (record { packer = now; printed = true })) (sym gives)
    (subst (λ (h : PageInHand). AddsLine pages hand line (page_given p.packer (Line line)) (record { packer = h; printed = true })) (sym leaves)
    (by-room (nat_le (length (p.packer.content ++ item_bytes (Line line))) 506) p pages hand line is valid (sym room)))

-- ---- The last page

pub none-printed : (p : Paper) (pages : ℕ) (hand : List (List ℕ)) → p.printed ≡ false → IsHand p pages hand → None ≡ last_page pages hand
none-printed p zero [] not_printed is = refl
none-printed p zero (line ∷ hand) not_printed is = absurd (let e = sym not_printed ∙ is.printed in cc)
none-printed p (suc pages) hand not_printed is = absurd (let e = sym not_printed ∙ is.printed in cc)

pub last-printed : (p : Paper) (page : Page) (pages : ℕ) (hand : List (List ℕ)) → p.printed ≡ true → page ≡ page_of p.packer.place true p.packer.content
    → IsHand p pages hand → Some page ≡ last_page pages hand
last-printed p page pages hand printed_it made is =
    ap (λ page. Some page) (made ∙ ap (λ place. page_of place true p.packer.content) is.place
    ∙ ap (λ content. page_of (pages % 2 ^ 16) true content) is.content) ∙ by pages hand (sym is.printed ∙ printed_it)
  where
    by : (pages : ℕ) (hand : List (List ℕ)) → has_printed pages hand ≡ true → Some (page_with pages true hand) ≡ last_page pages hand
    by zero [] printed = absurd cc
    by zero (line ∷ hand) printed = refl
    by (suc pages) hand printed = refl

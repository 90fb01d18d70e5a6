-- The steps of the input process.
use Rattle.std.proofs.Common.{◌≡◌, ℕ, suc, ◌+◌, ◌%◌, ◌^◌, Bool, true, false, if◌then◌else◌, List, [], ◌∷◌, ◌++◌, length, map, Option, None, Some, refl, sym, ◌∙◌, ap, subst, arith, append_assoc}
use Rattle.std.specs.Prelude.{nat_le}
use Rattle.std.proofs.lemmas.List.{append-nil}
use Rattle.solo_base.specs.declared.item.Item.TheVariants.{Line}
use Rattle.solo_base.specs.declared.page.Page.{Page}
use Rattle.solo_base.specs.declared.system_call.Arg.{Arg}
use Rattle.solo_base.specs.declared.system_call.Arg.TheVariants as arg
use Rattle.solo_base.specs.declared.outcome.Outcome.TheVariants as outcome
use Rattle.solo_devices.specs.declared.card_read.CardRead.{CardRead}
use Rattle.solo_devices.specs.declared.card_read.CardRead.TheVariants as read
use Rattle.deck_format.specs.Jobs.{is_end}
use Rattle.page_codec.specs.declared.form.TheConstants.{CONTENT_ROOM}
use Rattle.page_codec.specs.Items.{item_bytes, items_bytes}
use Rattle.page_codec.specs.Form.{page_of}
use Rattle.page_codec.specs.Packing.{PageInHand, first_page, fits, page_given, hand_after}
use Rattle.exchange_law.specs.Pages.{has_room_for, page_with}
use Rattle.exchange_law.specs.Parcels.{is_nil}
use Rattle.solo_law.specs.Actions.{Reply}
use Rattle.solo_law.specs.Actions as act
use Rattle.solo_law.specs.Replies.{Fits}
use Rattle.solo_law.specs.InputPlaces.{InputPlace, AwaitsOrder, Reads, PutsFull, PutsLast, Reports, IsOver, input_does, packs, packs_if, closes_file, behind_card, input_behind}
use Rattle.solo_procs.specs.declared.actions.SoloAction.{SoloAction}
use Rattle.solo_procs.specs.declared.actions.SoloAction.TheVariants as say
use Rattle.solo_procs.specs.declared.input_proc.InputAt.{InputAt}
use Rattle.solo_procs.specs.declared.input_proc.InputAt.TheVariants as here
use Rattle.solo_procs.specs.Said.{said, IsHeardDone}
use Rattle.solo_procs.specs.Hands.{Holds}
use Rattle.solo_procs.specs.Input.{InputStands}

-- ---- what it does
abbrev pub input_said : InputAt → Bool → SoloAction
input_said here.AwaitsOrder sound = say.TakeArg 1
input_said here.Reads sound = say.ReadCard
input_said (here.PutsFull page) sound = say.PutPage 2 page
input_said (here.PutsLast page) sound = say.PutPage 2 page
input_said here.Reports sound = say.PutArg 3 (arg.Bool sound)
input_said here.IsOver sound = say.Ended outcome.Done

input-says : (place : InputAt) (packer : PageInHand) (sound : Bool) (at : InputPlace) → InputStands place packer sound at
    → input_said place sound ≡ said (input_does at)
input-says place packer sound AwaitsOrder kept = ap (λ p. input_said p sound) kept
input-says place packer sound (Reads pages hand clean) kept = ap (λ p. input_said p sound) kept.0
input-says place packer sound (PutsFull page pages hand) kept = ap (λ p. input_said p sound) kept.0
input-says place packer sound (PutsLast page clean) kept = ap (λ p. input_said p sound) kept.0
input-says place packer sound (Reports clean) kept = ap (λ p. input_said p sound) kept.0 ∙ ap (λ t. say.PutArg 3 (arg.Bool t)) kept.1
input-says place packer sound IsOver kept = ap (λ p. input_said p sound) kept

pub input-does : (place now : InputAt) (packer : PageInHand) (sound : Bool) (at : InputPlace) → place ≡ now → InputStands place packer sound at
    → input_said now sound ≡ said (input_does at)
input-does place now packer sound at is kept = ap (λ p. input_said p sound) (sym is) ∙ input-says place packer sound at kept

-- ---- what it does is done
abbrev pub input_done : InputAt → InputAt
input_done (here.PutsFull page) = here.Reads
input_done (here.PutsLast page) = here.Reports
input_done here.Reports = here.AwaitsOrder
input_done other = other

pub done-case : (here : Type 0) (Want : Reply → Type 0) (answer : Reply) → IsHeardDone here (λ need. ⊥) answer → (here → Want act.Done) → Want answer
done-case here Want act.Done is want = want is
done-case here Want (act.Found need) is want = absurd is
done-case here Want act.Stopped is want = absurd is
done-case here Want act.Failed is want = absurd is
done-case here Want act.NoMemory is want = absurd is
done-case here Want (act.OfCard answer) is want = absurd is
done-case here Want (act.OfArg a) is want = absurd is
done-case here Want (act.OfPage page) is want = absurd is

input-done-by : (place : InputAt) (packer : PageInHand) (sound : Bool) (at : InputPlace) → InputStands place packer sound at → Fits (input_does at) act.Done
    → InputStands (input_done place) packer sound (input_behind at act.Done)
input-done-by place packer sound AwaitsOrder kept fits = absurd fits
input-done-by place packer sound (Reads pages hand clean) kept fits = absurd fits
input-done-by place packer sound (PutsFull page pages hand) kept fits = (ap input_done kept.0, kept.1, kept.2)
input-done-by place packer sound (PutsLast page clean) kept fits = (ap input_done kept.0, kept.1)
input-done-by place packer sound (Reports clean) kept fits = ap input_done kept.0
input-done-by place packer sound IsOver kept fits = ap input_done kept

pub input-done : (place now : InputAt) (packer : PageInHand) (sound : Bool) → input_done place ≡ now → (at : InputPlace) (answer : Reply)
    → Fits (input_does at) answer → IsHeardDone (InputStands place packer sound at) (λ need. ⊥) answer → InputStands now packer sound (input_behind at answer)
input-done place now packer sound is at answer fits done =
    done-case (InputStands place packer sound at) (λ r. Fits (input_does at) r → InputStands now packer sound (input_behind at r)) answer done
    (λ kept fits. subst (λ p. InputStands p packer sound (input_behind at act.Done)) is (input-done-by place packer sound at kept fits)) fits

pub stays-done : (place : InputAt) → ((page : Page) → place ≡ here.PutsFull page → ⊥) → ((page : Page) → place ≡ here.PutsLast page → ⊥)
    → (place ≡ here.Reports → ⊥) → input_done place ≡ place
stays-done here.AwaitsOrder full last reports = refl
stays-done here.Reads full last reports = refl
stays-done (here.PutsFull page) full last reports = absurd (full page refl)
stays-done (here.PutsLast page) full last reports = absurd (last page refl)
stays-done here.Reports full last reports = absurd (reports refl)
stays-done here.IsOver full last reports = refl

-- ---- an order
pub input-nil : (a : Arg) (place : InputAt) (packer : PageInHand) (sound : Bool) → is_nil a ≡ true → (at : InputPlace) → InputStands place packer sound at
    → Fits (input_does at) (act.OfArg a) → InputStands here.IsOver packer sound (input_behind at (act.OfArg a))
input-nil arg.Nil place packer sound is AwaitsOrder kept fits = refl
input-nil (arg.Bool t) place packer sound is AwaitsOrder kept fits = absurd cc
input-nil (arg.Int n) place packer sound is AwaitsOrder kept fits = absurd cc
input-nil (arg.Id name) place packer sound is AwaitsOrder kept fits = absurd cc
input-nil a place packer sound is (Reads pages hand clean) kept fits = absurd fits
input-nil a place packer sound is (PutsFull page pages hand) kept fits = absurd fits
input-nil a place packer sound is (PutsLast page clean) kept fits = absurd fits
input-nil a place packer sound is (Reports clean) kept fits = absurd fits
input-nil a place packer sound is IsOver kept fits = absurd fits

first-holds : Holds first_page 0 []
first-holds = record { place = refl; content = refl }

pub input-order : (a : Arg) (place : InputAt) (packer : PageInHand) (sound : Bool) → is_nil a ≡ false → (at : InputPlace) → InputStands place packer sound at
    → Fits (input_does at) (act.OfArg a) → InputStands here.Reads first_page true (input_behind at (act.OfArg a))
input-order arg.Nil place packer sound is AwaitsOrder kept fits = absurd cc
input-order (arg.Bool t) place packer sound is AwaitsOrder kept fits = (refl, refl, first-holds)
input-order (arg.Int n) place packer sound is AwaitsOrder kept fits = (refl, refl, first-holds)
input-order (arg.Id name) place packer sound is AwaitsOrder kept fits = (refl, refl, first-holds)
input-order a place packer sound is (Reads pages hand clean) kept fits = absurd fits
input-order a place packer sound is (PutsFull page pages hand) kept fits = absurd fits
input-order a place packer sound is (PutsLast page clean) kept fits = absurd fits
input-order a place packer sound is (Reports clean) kept fits = absurd fits
input-order a place packer sound is IsOver kept fits = absurd fits

pub input-no_page : (at : InputPlace) (page : Page) → Fits (input_does at) (act.OfPage page) → ⊥
input-no_page AwaitsOrder page fits = fits
input-no_page (Reads pages hand clean) page fits = fits
input-no_page (PutsFull put pages hand) page fits = fits
input-no_page (PutsLast put clean) page fits = fits
input-no_page (Reports clean) page fits = fits
input-no_page IsOver page fits = fits

-- ---- a card
-- the process reads
pub input-reads : (card : CardRead) (place : InputAt) (packer : PageInHand) (sound : Bool) (Now : InputPlace → Type 0)
    → ((pages : ℕ) (hand : List (List ℕ)) (clean : Bool) → InputStands place packer sound (Reads pages hand clean) → Now (behind_card pages hand clean card))
    → (at : InputPlace) → InputStands place packer sound at → Fits (input_does at) (act.OfCard card) → Now (input_behind at (act.OfCard card))
input-reads card place packer sound Now reads AwaitsOrder kept fits = absurd fits
input-reads card place packer sound Now reads (Reads pages hand clean) kept fits = reads pages hand clean kept
input-reads card place packer sound Now reads (PutsFull page pages hand) kept fits = absurd fits
input-reads card place packer sound Now reads (PutsLast page clean) kept fits = absurd fits
input-reads card place packer sound Now reads (Reports clean) kept fits = absurd fits
input-reads card place packer sound Now reads IsOver kept fits = absurd fits

pub input-reads-as : (card as_is : CardRead) → card ≡ as_is → (place : InputAt) (packer : PageInHand) (sound : Bool) (Now : InputPlace → Type 0)
    → ((pages : ℕ) (hand : List (List ℕ)) (clean : Bool) → InputStands place packer sound (Reads pages hand clean) → Now (behind_card pages hand clean as_is))
    → (at : InputPlace) → InputStands place packer sound at → Fits (input_does at) (act.OfCard card) → Now (input_behind at (act.OfCard card))
input-reads-as card as_is is place packer sound Now reads =
    input-reads card place packer sound Now (λ pages hand clean kept. subst (λ card. Now (behind_card pages hand clean card)) (sym is)
    (reads pages hand clean kept))

-- no card was read
pub reads-on : (card : CardRead) (place : InputAt) (packer : PageInHand) (sound : Bool) → ((line : List ℕ) → card ≡ read.Card line → ⊥)
    → (card ≡ read.Spoiled → ⊥)
    → (card ≡ read.End → ⊥) → (pages : ℕ) (hand : List (List ℕ)) (clean : Bool) → InputStands place packer sound (Reads pages hand clean)
    → InputStands place packer sound (behind_card pages hand clean card)
reads-on (read.Card line) place packer sound line_not spoiled end pages hand clean kept = absurd (line_not line refl)
reads-on read.Spoiled place packer sound line_not spoiled end pages hand clean kept = absurd (spoiled refl)
reads-on read.End place packer sound line_not spoiled end pages hand clean kept = absurd (end refl)
reads-on read.Failed place packer sound line_not spoiled end pages hand clean kept = kept
reads-on read.Limit place packer sound line_not spoiled end pages hand clean kept = kept

-- ---- the end of a card file
pub file-closed : (place : InputAt) (packer other : PageInHand) (sound : Bool) (page : Page) → page ≡ page_of packer.place true packer.content
    → (pages : ℕ) (hand : List (List ℕ)) (clean : Bool) → InputStands place packer sound (Reads pages hand clean)
    → InputStands (here.PutsLast page) other sound (closes_file pages hand clean)
file-closed place packer other sound page is pages hand clean kept = (
  ap here.PutsLast (is ∙ ap (λ n. page_of n true packer.content) kept.2.place ∙ ap (λ content. page_of (pages % 2 ^ 16) true content) kept.2.content),
  kept.1,
)

-- ---- a card is packed
content-more : (hand : List (List ℕ)) (line : List ℕ) → items_bytes (map Line (hand ++ line ∷ [])) ≡ items_bytes (map Line hand) ++ item_bytes (Line line)
content-more [] line = append-nil (item_bytes (Line line))
content-more (first ∷ hand) line =
    ap (λ content. item_bytes (Line first) ++ content) (content-more hand line)
    ∙ sym (append_assoc (item_bytes (Line first)) (items_bytes (map Line hand)) (item_bytes (Line line)))

next-place : (n place : ℕ) → place ≡ n % 2 ^ 16 → (place + 1) % 2 ^ 16 ≡ suc n % 2 ^ 16
next-place n place e = omega (arith, e)

-- where it stands behind a push that gave a page or none
abbrev pub place_given : Option Page → InputAt → InputAt
place_given None place = place
place_given (Some page) place = here.PutsFull page

pub packed : (place : InputAt) (packer now : PageInHand) (sound : Bool) (pages : ℕ) (hand : List (List ℕ)) (line : List ℕ) (given : Option Page)
    → given ≡ page_given packer (Line line) → now ≡ hand_after packer (Line line) → sound ≡ true → InputStands place packer sound (Reads pages hand true)
    → InputStands (place_given given place) now sound (packs pages hand line)
packed place packer now sound pages hand line given gives after is_sound kept =
    let content = kept.2.content in
    let room : fits packer (Line line) ≡ has_room_for hand line =
    ap (λ c. nat_le (length (c ++ item_bytes (Line line))) CONTENT_ROOM) content ∙ sym (ap (λ c. nat_le (length c) CONTENT_ROOM) (content-more hand line)) in
    let P : Bool → Type 0 = λ t. given ≡ (if t then None else Some (page_of packer.place false packer.content))
    → now ≡ (if t then record packer { content = packer.content ++ item_bytes (Line line) } else record
    { place = (packer.place + 1) % 2 ^ 16; content = item_bytes (Line line) })
    → InputStands (place_given given place) now sound
    (if t then Reads pages (hand ++ line ∷ []) true else PutsFull (page_with pages false hand) (suc pages) (line ∷ [])) in
    let both : (t : Bool) → P t = λ t. elim t as P [
      | true ↦ (λ e f. rw (e, f) (
        kept.0,
        is_sound,
        record { place = kept.2.place; content = ap (λ c. c ++ item_bytes (Line line)) content ∙ sym (content-more hand line) },
      ))
      | false ↦ (λ e f. rw (e, f) (
        ap here.PutsFull (ap (λ n. page_of n false packer.content) kept.2.place ∙ ap (λ c. page_of (pages % 2 ^ 16) false c) content),
        is_sound,
        record { place = next-place pages packer.place kept.2.place; content = sym (append-nil (item_bytes (Line line))) },
      ))
    ] in
    subst (λ t. InputStands (place_given given place) now sound
    (if t then Reads pages (hand ++ line ∷ []) true else PutsFull (page_with pages false hand) (suc pages) (line ∷ []))) room
    (both (fits packer (Line line)) gives after)

-- behind a card that ends the file, one that is dropped, and one that is packed
pub card-ends : (Now : InputPlace → Type 0) (pages : ℕ) (hand : List (List ℕ)) (clean : Bool) (line : List ℕ) → is_end (Line line) ≡ true
    → Now (closes_file pages hand clean) → Now (behind_card pages hand clean (read.Card line))
card-ends Now pages hand clean line is now = subst (λ t. Now (if t then closes_file pages hand clean else packs_if clean pages hand line)) (sym is) now

pub card-goes_on : (Now : InputPlace → Type 0) (pages : ℕ) (hand : List (List ℕ)) (clean : Bool) (line : List ℕ) → is_end (Line line) ≡ false
    → Now (packs_if clean pages hand line) → Now (behind_card pages hand clean (read.Card line))
card-goes_on Now pages hand clean line is now = subst (λ t. Now (if t then closes_file pages hand clean else packs_if clean pages hand line)) (sym is) now

pub card-dropped : (place : InputAt) (packer : PageInHand) (sound : Bool) (line : List ℕ) → sound ≡ false → (pages : ℕ) (hand : List (List ℕ)) (clean : Bool)
    → InputStands place packer sound (Reads pages hand clean) → InputStands place packer sound (packs_if clean pages hand line)
card-dropped place packer sound line is pages hand false kept = kept
card-dropped place packer sound line is pages hand true kept = absurd (let same = kept.1 in cc)

pub card-packed : (place : InputAt) (packer now : PageInHand) (sound : Bool) (line : List ℕ) (given : Option Page)
    → given ≡ page_given packer (Line line) → now ≡ hand_after packer (Line line) → sound ≡ true → (pages : ℕ) (hand : List (List ℕ)) (clean : Bool)
    → InputStands place packer sound (Reads pages hand clean) → InputStands (place_given given place) now sound (packs_if clean pages hand line)
card-packed place packer now sound line given gives after is pages hand true kept = packed place packer now sound pages hand line given gives after is kept
card-packed place packer now sound line given gives after is pages hand false kept = absurd (let same = kept.1 in cc)

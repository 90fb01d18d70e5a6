-- A piece of work takes the first of the needs and of the maps that a session has ahead.
use Rattle.std.proofs.Common.{◌≡◌, ℕ, zero, suc, ◌≤◌, not, Bool, true, false, ◌&&◌, ◌==◌, if◌then◌else◌, List, [], ◌∷◌, ◌++◌, length, Option, None, Some, refl, sym, ◌∙◌, ap, subst, arith, append_assoc}
use Rattle.std.specs.Prelude.{codes}
use Rattle.std.proofs.lemmas.List.{append-nil}
use Rattle.solo_base.specs.Blanks.{before_trimmed, trimmed}
use Rattle.solo_base.specs.declared.item.Item.{Item}
use Rattle.solo_base.specs.declared.item.Item.TheVariants.{Line, Spoiled}
use Rattle.deck_format.specs.Jobs.{is_end}
use Rattle.disk_layout.specs.Files.{Files}
use Rattle.solo_commands.specs.declared.command.Command.{Command}
use Rattle.solo_commands.specs.Words.{is_blank}
use Rattle.solo_commands.specs.Commands.{Blank, or_bad, command_of}
use Rattle.program_task.specs.Task.{CardFile, Gives, ReadsCards, Accepts, Displays, Prints, Changes}
use Rattle.solo_needs.specs.Needs.{Given, OfLine, OfCards, Need, CardsNeeded, LineNeeded, DisplayNeeded, PageNeeded, EndNeeded}
use Rattle.solo_needs.specs.Handing.{file_cards, file_sound, Ahead, Handed, past_cards, is_nothing, says_nothing, line_handed, hands, HandsOn}
use Rattle.solo_task.specs.Answers.{Doing}
use Rattle.solo_task.specs.Doing.{does, done_if, line_does}
use Rattle.solo_task.specs.Session.{SoloWorld, first_file, card_before, next_feed, later_lines, with_files, after_cards, after_line, tells, world_after, one_tells, lines_told}
use Rattle.solo_task.specs.Needs.{Pause, Idle, WantsCards, WantsLine, GoesOn, needs, either, fits_behind, comes_to, or_idle, needs_of, line_needs, lines_need}
use Rattle.solo_task.specs.Laws.{needs_behind, maps_behind}
use Rattle.solo_task.proofs.NeedsMet.{comes-each, changes-each}
use Rattle.solo_law.specs.Told as told
use Rattle.session_law.specs.Plans.{FilesAndPause, piece, behind, behind_pieces, plan_from, maps_passed, all_needs}

-- ---- what is ahead
abbrev pub world : Files → Ahead → SoloWorld
world files ahead = record { files = files; cards = ahead.cards; keys = ahead.keys }

-- the world that a command under way leaves
abbrev world_behind : Pause → SoloWorld → SoloWorld
world_behind Idle w = w
world_behind (WantsCards hand more) w = world_after (more (first_file w.cards)) (after_cards w)
world_behind (WantsLine hand more) w = world_after (more (next_feed w.keys)) (after_line w)
world_behind (GoesOn hand later) w = world_after later w

abbrev pub needs_ahead : ℕ → Pause → SoloWorld → List Need
needs_ahead n pause w = needs_behind pause w ++ all_needs (lines_need n (world_behind pause w))

abbrev pub maps_ahead : ℕ → Pause → SoloWorld → List Files
maps_ahead n pause w = maps_behind pause w ++ (lines_told n (world_behind pause w)).maps

room-world : (room : Bool) (hand : List (List ℕ)) (line : List ℕ) (later : Doing) (w : SoloWorld)
    → world_after later w
    ≡ world_behind (comes_to (hand ++ line ∷ []) w.files later).pause (with_files (comes_to (hand ++ line ∷ []) w.files later).files w)
    → let c = either room (comes_to (hand ++ line ∷ []) w.files later) (needs (PageNeeded hand) w.files (GoesOn (line ∷ []) later)) in
    world_after later w ≡ world_behind c.pause (with_files c.files w)
room-world true hand line later w rest = rest
room-world false hand line later w rest = refl

world-comes : (hand : List (List ℕ)) (doing : Doing) (w : SoloWorld)
    → let c = comes_to hand w.files doing in world_after doing w ≡ world_behind c.pause (with_files c.files w)
world-comes hand (Gives lines) w = refl
world-comes hand (ReadsCards more) w = refl
world-comes hand (Accepts more) w = refl
world-comes hand (Displays line later) w = refl
world-comes hand (Prints line later) w = room-world (fits_behind hand line) hand line later w (world-comes (hand ++ line ∷ []) later w)
world-comes hand (Changes now later) w = world-comes hand later (with_files now w)

command-needs : (hand : List (List ℕ)) (doing : Doing) (w : SoloWorld) (n : ℕ)
    → let c = comes_to hand w.files doing in
    needs_of hand doing w ++ all_needs (lines_need n (world_after doing w)) ≡ c.need ∷ needs_ahead n c.pause (with_files c.files w)
command-needs hand doing w n =
    let c = comes_to hand w.files doing in
    let v = with_files c.files w in
    ap (λ x. x ++ all_needs (lines_need n (world_after doing w))) (comes-each hand doing w)
    ∙ ap (λ u. (c.need ∷ needs_behind c.pause v) ++ all_needs (lines_need n u)) (world-comes hand doing w)

command-maps : (hand : List (List ℕ)) (doing : Doing) (w : SoloWorld) (n : ℕ)
    → let c = comes_to hand w.files doing in
    (tells doing w).maps ++ (lines_told n (world_after doing w)).maps ≡ c.maps ++ maps_ahead n c.pause (with_files c.files w)
command-maps hand doing w n =
    let c = comes_to hand w.files doing in
    let v = with_files c.files w in
    ap (λ x. x ++ (lines_told n (world_after doing w)).maps) (changes-each hand doing w)
    ∙ append_assoc c.maps (maps_behind c.pause v) (lines_told n (world_after doing w)).maps
    ∙ ap (λ u. c.maps ++ (maps_behind c.pause v ++ (lines_told n u).maps)) (world-comes hand doing w)

-- ---- a need and the pause of its command
abbrev pub Suits : Need → Pause → Type 0
Suits CardsNeeded (WantsCards hand more) = Unit {0}
Suits LineNeeded (WantsLine hand more) = Unit {0}
Suits (DisplayNeeded line) (GoesOn hand later) = Unit {0}
Suits (PageNeeded lines) (GoesOn hand later) = Unit {0}
Suits (EndNeeded lines answers) Idle = Unit {0}
Suits need pause = ⊥

room-suits : (room : Bool) (hand : List (List ℕ)) (line : List ℕ) (files : Files) (later : Doing)
    → (let c = comes_to (hand ++ line ∷ []) files later in Suits c.need c.pause)
    → let c = either room (comes_to (hand ++ line ∷ []) files later) (needs (PageNeeded hand) files (GoesOn (line ∷ []) later)) in Suits c.need c.pause
room-suits true hand line files later rest = rest
room-suits false hand line files later rest = tt

comes-suits : (hand : List (List ℕ)) (files : Files) (doing : Doing) → let c = comes_to hand files doing in Suits c.need c.pause
comes-suits hand files (Gives lines) = tt
comes-suits hand files (ReadsCards more) = tt
comes-suits hand files (Accepts more) = tt
comes-suits hand files (Displays line later) = tt
comes-suits hand files (Prints line later) = room-suits (fits_behind hand line) hand line files later (comes-suits (hand ++ line ∷ []) files later)
comes-suits hand files (Changes now later) = comes-suits hand now later

-- ---- a card file
abbrev made : List (List ℕ) → Bool → CardFile
made lines spoiled = record { cards = lines; spoiled = spoiled }

abbrev file_so : Bool → List Item → CardFile
file_so sound cards = record { cards = file_cards sound cards; spoiled = not (file_sound sound cards) }

unsound-none : (cards : List Item) → file_cards false cards ≡ []
unsound-none [] = refl
unsound-none (Line line ∷ rest) =
    elim (is_end (Line line)) as (λ t. (if t then [] else file_cards false rest) ≡ []) [ true ↦ refl | false ↦ unsound-none rest ]
unsound-none (Spoiled ∷ rest) = unsound-none rest

unsound-stays : (cards : List Item) → file_sound false cards ≡ false
unsound-stays [] = refl
unsound-stays (Line line ∷ rest) =
    elim (is_end (Line line)) as (λ t. (if t then false else file_sound false rest) ≡ false) [ true ↦ refl | false ↦ unsound-stays rest ]
unsound-stays (Spoiled ∷ rest) = unsound-stays rest

file-is : (cards : List Item) → first_file cards ≡ file_so true cards
file-is [] = refl
file-is (Line line ∷ rest) =
    let P : Bool → Type 0 = λ t. (if t then made [] false else card_before (Line line) (first_file rest))
    ≡ made (if t then [] else line ∷ file_cards true rest) (not (if t then true else file_sound true rest)) in
    elim (is_end (Line line)) as P [
      | true ↦ refl
      | false ↦ ap (λ (file : CardFile). made (line ∷ file.cards) file.spoiled) (file-is rest)
    ]
file-is (Spoiled ∷ rest) =
    ap (λ lines. made lines true) (sym (unsound-none rest)) ∙ ap (λ t. made (file_cards false rest) (not t)) (sym (unsound-stays rest))

-- ---- blank lines
blank-front : (code : ℕ) (rest : List ℕ) → (code == 32 && is_nothing rest) ≡ is_nothing (before_trimmed code rest)
blank-front code [] = elim (code == 32) as (λ t. (t && true) ≡ is_nothing (if t then [] else code ∷ [])) [ true ↦ refl | false ↦ refl ]
blank-front code (next ∷ rest) = elim (code == 32) as (λ t. (t && false) ≡ false) [ true ↦ refl | false ↦ refl ]

blank-is : (line : List ℕ) → is_blank line ≡ is_nothing (trimmed line)
blank-is [] = refl
blank-is (code ∷ rest) = ap (λ t. code == 32 && t) (blank-is rest) ∙ blank-front code (trimmed rest)

nothing-none : (item : Item) (files : Files) → says_nothing item ≡ true → line_does item files ≡ None
nothing-none (Line line) files e = ap (λ t. done_if (if t then Blank else or_bad (command_of line)) files) (blank-is line ∙ e)
nothing-none Spoiled files e = absurd cc

or-does : (asked : Option Command) (files : Files) → (doing : Doing) × (done_if (or_bad asked) files ≡ Some doing)
or-does None files = (Gives (codes "BAD COMMAND" ∷ []), refl)
or-does (Some asked) files = (does asked files, refl)

some-does : (item : Item) (files : Files) → says_nothing item ≡ false → (doing : Doing) × (line_does item files ≡ Some doing)
some-does (Line line) files e =
    subst (λ t. (doing : Doing) × (done_if (if t then Blank else or_bad (command_of line)) files ≡ Some doing)) (sym (blank-is line ∙ e))
    (or-does (command_of line) files)
some-does Spoiled files e = (Gives (codes "BAD COMMAND" ∷ []), refl)

-- ---- one piece
pub record OneStep (n : ℕ) (s : FilesAndPause) (ahead : Ahead) (h : Handed) : Type 0 where
  pub fuel : ℕ
  pub enough : length h.ahead.keys ≤ fuel
  pub suits : Suits (piece h.given s).need (piece h.given s).pause
  pub needs : needs_ahead n s.pause (world s.files ahead)
      ≡ (piece h.given s).need ∷ needs_ahead fuel (piece h.given s).pause (world (piece h.given s).files h.ahead)
  pub maps : maps_ahead n s.pause (world s.files ahead)
      ≡ (piece h.given s).maps ++ maps_ahead fuel (piece h.given s).pause (world (piece h.given s).files h.ahead)

same-some : (a b : Handed) → Some a ≡ Some b → a ≡ b
same-some a b e = cc

none-some : (h : Handed) → None ≡ Some h → ⊥
none-some h e = cc

-- a command from its beginning, by what its line does
record LineStep (n : ℕ) (files : Files) (cards rest : List Item) (d : Option Doing) : Type 0 where
  suits : Suits (comes_to [] files (or_idle d)).need (comes_to [] files (or_idle d)).pause
  needs : all_needs (line_needs d (record { files = files; cards = cards; keys = rest }) (lines_need n))
      ≡ (comes_to [] files (or_idle d)).need
      ∷ needs_ahead n (comes_to [] files (or_idle d)).pause (record { files = (comes_to [] files (or_idle d)).files; cards = cards; keys = rest })
  maps : (one_tells d (record { files = files; cards = cards; keys = rest }) (lines_told n)).maps
      ≡ (comes_to [] files (or_idle d)).maps
      ++ maps_ahead n (comes_to [] files (or_idle d)).pause (record { files = (comes_to [] files (or_idle d)).files; cards = cards; keys = rest })

some-step : (n : ℕ) (files : Files) (cards rest : List Item) (doing : Doing) → LineStep n files cards rest (Some doing)
some-step n files cards rest doing =
    let w : SoloWorld = record { files = files; cards = cards; keys = rest } in
    record {
      suits = comes-suits [] files doing;
      needs = command-needs [] doing w n;
      maps = ap (λ x. x ++ (lines_told n (world_after doing w)).maps) (append-nil (tells doing w).maps) ∙ command-maps [] doing w n;
    }

too-few : (item : Item) (rest : List Item) → length (item ∷ rest) ≤ 0 → ⊥
too-few item rest few = omega (arith, few)

fewer : (item : Item) (rest : List Item) (n : ℕ) → length (item ∷ rest) ≤ suc n → length rest ≤ n
fewer item rest n few = omega (arith, few)

line-step : (n : ℕ) (keys cards : List Item) (files : Files) (h : Handed) → length keys ≤ n → line_handed cards keys ≡ Some h
    → OneStep n (record { files = files; pause = Idle }) (record { cards = cards; keys = keys }) h
line-step n [] cards files h few e = absurd (none-some h e)
line-step zero (item ∷ rest) cards files h few e = absurd (too-few item rest few)
line-step (suc n) (item ∷ rest) cards files h few e =
    let w : SoloWorld = record { files = files; cards = cards; keys = rest } in
    let Goal : Handed → Type 0 = λ h. OneStep (suc n) (record { files = files; pause = Idle }) (record { cards = cards; keys = item ∷ rest }) h in
    let begun : Handed = record { given = OfLine item; ahead = record { cards = cards; keys = rest } } in
    let P : Bool → Type 0 = λ t. says_nothing item ≡ t → (if t then line_handed cards rest else Some begun) ≡ Some h → Goal h in
    elim (says_nothing item) as P [
      | true ↦ (λ nothing e. let none = nothing-none item files nothing in
          let is = line-step n rest cards files h (fewer item rest n few) e in
          record {
            fuel = is.fuel;
            enough = is.enough;
            suits = is.suits;
            needs = ap (λ d. all_needs (line_needs d w (lines_need n))) none ∙ is.needs;
            maps = ap (λ d. (one_tells d w (lines_told n)).maps) none ∙ is.maps;
          })
      | false ↦ (λ some e. let (doing, same) = some-does item files some in
          let is = subst (LineStep n files cards rest) (sym same) (some-step n files cards rest doing) in
          let step : Goal begun = record {
            fuel = n;
            enough = fewer item rest n few;
            suits = is.suits;
            needs = is.needs;
            maps = is.maps;
          } in
          subst Goal (same-some begun h e) step)
    ] refl e

shorter : (keys : List Item) (n : ℕ) → length keys ≤ n → length (later_lines keys) ≤ n
shorter [] n few = few
shorter (item ∷ rest) n few = omega (arith, few)

pub one-step : (n : ℕ) (before : Need) (files : Files) (pause : Pause) (ahead : Ahead) (h : Handed) → Suits before pause → length ahead.keys ≤ n
    → hands before ahead ≡ Some h → OneStep n (record { files = files; pause = pause }) ahead h
one-step n CardsNeeded files (WantsCards hand more) ahead h suits few e =
    let w = world files ahead in
    let file = file_so true ahead.cards in
    let step : OneStep n (record { files = files; pause = WantsCards hand more }) ahead
    (record { given = OfCards file.cards file.spoiled; ahead = past_cards ahead }) = record {
      fuel = n;
      enough = few;
      suits = comes-suits hand files (more file);
      needs = ap (λ file. needs_of hand (more file) (after_cards w) ++ all_needs (lines_need n (world_after (more file) (after_cards w)))) (file-is ahead.cards)
          ∙ command-needs hand (more file) (after_cards w) n;
      maps = ap (λ file. (tells (more file) (after_cards w)).maps ++ (lines_told n (world_after (more file) (after_cards w))).maps) (file-is ahead.cards)
          ∙ command-maps hand (more file) (after_cards w) n;
    } in
    subst (OneStep n (record { files = files; pause = WantsCards hand more }) ahead) (same-some _ h e) step
one-step n LineNeeded files (WantsLine hand more) ahead h suits few e =
    let w = world files ahead in
    subst (OneStep n (record { files = files; pause = WantsLine hand more }) ahead) (same-some _ h e) record {
      fuel = n;
      enough = shorter ahead.keys n few;
      suits = comes-suits hand files (more (next_feed ahead.keys));
      needs = command-needs hand (more (next_feed ahead.keys)) (after_line w) n;
      maps = command-maps hand (more (next_feed ahead.keys)) (after_line w) n;
    }
one-step n (DisplayNeeded line) files (GoesOn hand later) ahead h suits few e =
    subst (OneStep n (record { files = files; pause = GoesOn hand later }) ahead) (same-some _ h e) record {
      fuel = n;
      enough = few;
      suits = comes-suits hand files later;
      needs = command-needs hand later (world files ahead) n;
      maps = command-maps hand later (world files ahead) n;
    }
one-step n (PageNeeded lines) files (GoesOn hand later) ahead h suits few e =
    subst (OneStep n (record { files = files; pause = GoesOn hand later }) ahead) (same-some _ h e) record {
      fuel = n;
      enough = few;
      suits = comes-suits hand files later;
      needs = command-needs hand later (world files ahead) n;
      maps = command-maps hand later (world files ahead) n;
    }
one-step n (EndNeeded lines answers) files Idle ahead h suits few e = line-step n ahead.keys ahead.cards files h few e
one-step n before files pause ahead h suits few e = absurd suits

-- ---- all pieces
pub record Along (n : ℕ) (s : FilesAndPause) (ahead : Ahead) (givens : List Given) (found : List Need) (last : Need) (left : Ahead) : Type 0 where
  pub fuel : ℕ
  pub enough : length left.keys ≤ fuel
  pub suits : Suits last (behind_pieces givens s).pause
  pub needs : needs_ahead n s.pause (world s.files ahead)
      ≡ found ++ needs_ahead fuel (behind_pieces givens s).pause (world (behind_pieces givens s).files left)
  pub maps : maps_ahead n s.pause (world s.files ahead)
      ≡ maps_passed givens s ++ maps_ahead fuel (behind_pieces givens s).pause (world (behind_pieces givens s).files left)

same-cons : (a b : Need) (xs ys : List Need) → a ∷ xs ≡ b ∷ ys → (a ≡ b) × (xs ≡ ys)
same-cons a b xs ys e = (cc, cc)

pub along : (n : ℕ) (before : Need) (s : FilesAndPause) (ahead : Ahead) (givens : List Given) (found : List Need) (last : Need) (left : Ahead)
    → Suits before s.pause → length ahead.keys ≤ n → HandsOn before ahead givens found last left → found ≡ told.needs_of (plan_from s) givens
    → Along n s ahead givens found last left
along n before s ahead [] [] last left suits few is e =
    subst (λ left. Along n s ahead [] [] last left) is.1 (subst (λ last. Along n s ahead [] [] last ahead) is.0
    record { fuel = n; enough = few; suits = suits; needs = refl; maps = refl })
along n before s ahead (given ∷ givens) (need ∷ found) last left suits few is e =
    let c = piece given s in
    let one = one-step n before s.files s.pause ahead (record { given = given; ahead = is.0 }) suits few is.1 in
    let parts = same-cons need c.need found (told.needs_of (plan_from (behind given s)) givens) e in
    let on = along one.fuel need (behind given s) is.0 givens found last left (subst (λ m. Suits m c.pause) (sym parts.0) one.suits) one.enough is.2 parts.1 in
    let end = behind_pieces givens (behind given s) in
    record {
      fuel = on.fuel;
      enough = on.enough;
      suits = on.suits;
      needs = one.needs ∙ ap (λ rest. c.need ∷ rest) on.needs ∙ ap (λ m. m ∷ (found ++ needs_ahead on.fuel end.pause (world end.files left))) (sym parts.0);
      maps = one.maps ∙ ap (λ rest. c.maps ++ rest) on.maps
          ∙ sym (append_assoc c.maps (maps_passed givens (behind given s)) (maps_ahead on.fuel end.pause (world end.files left)));
    }
along n before s ahead [] (need ∷ found) last left suits few is e = absurd is
along n before s ahead (given ∷ givens) [] last left suits few is e = absurd is

-- ---- at the end
no-given : (h : Handed) → Some h ≡ None → ⊥
no-given h e = cc

line-none : (n : ℕ) (keys cards : List Item) (files : Files) → line_handed cards keys ≡ None
    → (all_needs (lines_need n (record { files = files; cards = cards; keys = keys })) ≡ [])
    × ((lines_told n (record { files = files; cards = cards; keys = keys })).maps ≡ [])
line-none zero keys cards files e = (refl, refl)
line-none (suc n) [] cards files e = (refl, refl)
line-none (suc n) (item ∷ rest) cards files e =
    let w : SoloWorld = record { files = files; cards = cards; keys = rest } in
    let begun : Handed = record { given = OfLine item; ahead = record { cards = cards; keys = rest } } in
    let P : Bool → Type 0 = λ t. says_nothing item ≡ t → (if t then line_handed cards rest else Some begun) ≡ None
    → (all_needs (line_needs (line_does item files) w (lines_need n)) ≡ []) × ((one_tells (line_does item files) w (lines_told n)).maps ≡ []) in
    elim (says_nothing item) as P [
      | true ↦ (λ nothing e. let none = nothing-none item files nothing in
          let is = line-none n rest cards files e in (
            ap (λ d. all_needs (line_needs d w (lines_need n))) none ∙ is.0,
            ap (λ d. (one_tells d w (lines_told n)).maps) none ∙ is.1,
          ))
      | false ↦ (λ some e. absurd (no-given begun e))
    ] refl e

-- where nothing is handed any more nothing is ahead
pub nothing-ahead : (n : ℕ) (last : Need) (files : Files) (pause : Pause) (left : Ahead) → Suits last pause → hands last left ≡ None
    → (needs_ahead n pause (world files left) ≡ []) × (maps_ahead n pause (world files left) ≡ [])
nothing-ahead n CardsNeeded files (WantsCards hand more) left suits e = absurd (no-given _ e)
nothing-ahead n LineNeeded files (WantsLine hand more) left suits e = absurd (no-given _ e)
nothing-ahead n (DisplayNeeded line) files (GoesOn hand later) left suits e = absurd (no-given _ e)
nothing-ahead n (PageNeeded lines) files (GoesOn hand later) left suits e = absurd (no-given _ e)
nothing-ahead n (EndNeeded lines answers) files Idle left suits e = line-none n left.keys left.cards files e
nothing-ahead n last files pause left suits e = absurd suits

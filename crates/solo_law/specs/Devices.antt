-- The devices of Solo: what they allow, and how they stand behind an entry.
use Rattle.std.specs.Prelude.{◌≡◌, ℕ, List, [], ◌∷◌, ◌++◌, length, drop, Option, Some}
use Rattle.std.specs.Option.{option_map}
use Rattle.solo_base.specs.Prefixes.{IsPrefixOf}
use Rattle.solo_base.specs.Text.{line_text}
use Rattle.solo_base.specs.declared.item.Item.{Item}
use Rattle.solo_devices.specs.declared.card_read.CardRead.{CardRead}
use Rattle.solo_devices.specs.declared.card_read.CardRead.TheVariants as read
use Rattle.solo_devices.specs.CardUnit.{item_of}
use Rattle.page_codec.specs.Items.{AreItems}
use Rattle.place_law.specs.Process.{Entry, Does}
use Rattle.solo_law.specs.Work.{Given, Work, Need, Plan, PlanFits}
use Rattle.solo_law.specs.Actions.{Action, Reply}
use Rattle.solo_law.specs.Actions as act

-- Each where it is told: the cards and the typed lines ahead, the bytes that the paper and the console were
-- given, and what the work comes to from now on.
pub record Devices : Type 0 where
  pub cards : Option (List Item)
  pub keys : Option (List Item)
  pub paper : Option (List ℕ)
  pub console : Option (List ℕ)
  pub work : Option Plan

-- What is told is sound: cards and typed lines are items, and what the work comes to fits on pages.
pub record AreSound (devices : Devices) : Type 0 where
  pub cards : (items : List Item) → devices.cards ≡ Some items → AreItems items
  pub keys : (items : List Item) → devices.keys ≡ Some items → AreItems items
  pub work : (plan : Plan) → devices.work ≡ Some plan → PlanFits plan

-- ---- what they allow
-- A told deck gives its first item, and its end only where there is none. It may fail at any time.
pub record Reads (deck : Option (List Item)) (answer : CardRead) : Type 0 where
  pub item : (items : List Item) → deck ≡ Some items → (rest : List Item) × (items ≡ item_of answer ++ rest)
  pub end : (items : List Item) → deck ≡ Some items → answer ≡ read.End → items ≡ []

-- Over told files a piece of work comes to what they make of it. It may fail at any time.
abbrev pub WorkComes : Option Plan → Work → Need → Type 0
WorkComes told work need = (plan : Plan) → told ≡ Some plan → need ≡ plan [] work.given

-- A line that is printed or displayed is given whole, and where that fails a part of it. No other action
-- gives paper or console anything.
abbrev pub Allows : Devices → Entry Action Reply → List ℕ → Type 0
Allows devices (Does act.ReadCard (act.OfCard answer)) gained = Reads devices.cards answer × (gained ≡ [])
Allows devices (Does act.Accept (act.OfCard answer)) gained = Reads devices.keys answer × (gained ≡ [])
Allows devices (Does (act.Works work) (act.Found need)) gained =
    WorkComes devices.work work need × (gained ≡ [])
Allows devices (Does (act.Print line) act.Done) gained = gained ≡ line_text line
Allows devices (Does (act.Print line) reply) gained = IsPrefixOf gained (line_text line)
Allows devices (Does (act.Display line) act.Done) gained = gained ≡ line_text line
Allows devices (Does (act.Display line) reply) gained = IsPrefixOf gained (line_text line)
Allows devices entry gained = gained ≡ []

-- ---- and how they stand then
abbrev pub read_off : CardRead → Option (List Item) → Option (List Item)
read_off answer deck = option_map (drop (length (item_of answer))) deck

abbrev pub gains : List ℕ → Option (List ℕ) → Option (List ℕ)
gains gained sink = option_map (λ before. before ++ gained) sink

-- what the work comes to behind a piece that began so
abbrev pub plan_behind : Given → Plan → Plan
plan_behind given plan = λ before. plan (given ∷ before)

abbrev pub given : Devices → Entry Action Reply → List ℕ → Devices
given devices (Does act.ReadCard (act.OfCard answer)) gained =
    record devices { cards = read_off answer devices.cards }
given devices (Does act.Accept (act.OfCard answer)) gained =
    record devices { keys = read_off answer devices.keys }
given devices (Does (act.Print line) reply) gained = record devices { paper = gains gained devices.paper }
given devices (Does (act.Display line) reply) gained =
    record devices { console = gains gained devices.console }
given devices (Does (act.Works work) (act.Found need)) gained =
    record devices { work = option_map (plan_behind work.given) devices.work }
given devices entry gained = devices

-- The openings of the twin network, its law, and its reached states.
use Rattle.std.specs.Prelude.{◌≡◌, ◌≤◌, ◌==◌, ◌||◌, ℕ, Bool, true, false, List, Option, Some}
use Rattle.solo_base.specs.declared.item.Item.{Item}
use Rattle.page_codec.specs.Items.{AreItems}
use Rattle.batch_procs.specs.Jobs.{Jobs, FilesAs}
use Rattle.place_law.specs.Process.{Does, LacksMemory}
use Rattle.solo_devices.specs.declared.card_read.CardRead.TheVariants as read
use Rattle.batch_procs.specs.declared.actions.Reply.TheVariants as reply
use Rattle.twin_law.specs.Process.{Entry}
use Rattle.twin_law.specs.Twin.{Devices}

-- a spool: how many pages it has room for, and whether its area tells its pages
pub record Spool : Type 0 where
  pub size : ℕ
  pub told : Bool

-- to the two job processes, and from them
pub record Spools : Type 0 where
  pub to_a : Spool
  pub to_b : Spool
  pub from_a : Spool
  pub from_b : Spool

-- it has an area of 1 to 256 pages
pub record IsInBounds (spool : Spool) : Type 0 where
  pub some : 1 ≤ spool.size
  pub most : spool.size ≤ 256

pub record AreInBounds (spools : Spools) : Type 0 where
  pub to_a : IsInBounds spools.to_a
  pub to_b : IsInBounds spools.to_b
  pub from_a : IsInBounds spools.from_a
  pub from_b : IsInBounds spools.from_b

-- all four tell their pages
pub record AreTold (spools : Spools) : Type 0 where
  pub to_a : spools.to_a.told ≡ true
  pub to_b : spools.to_b.told ≡ true
  pub from_a : spools.from_a.told ≡ true
  pub from_b : spools.from_b.told ≡ true

-- The line buffers 1 and 6 have room for one line each, and what is inside them is told.
abbrev pub is_line : ℕ → Bool
is_line b = (b == 1) || (b == 6)

abbrev pub one_line : Spool
one_line = record { size = 1; told = true }

abbrev pub spool_by : Bool → Spool → Spool → Spool
spool_by true first second = first
spool_by false first second = second

-- 2 and 3 lead to the job processes, 4 and 5 from them
abbrev pub spool_at : Spools → ℕ → Spool
spool_at spools b =
    spool_by (is_line b) one_line
    (spool_by (b == 2) spools.to_a
    (spool_by (b == 3) spools.to_b (spool_by (b == 4) spools.from_a spools.from_b)))

abbrev pub size_of : Spools → ℕ → ℕ
size_of spools b = (spool_at spools b).size

abbrev pub told_of : Spools → ℕ → Bool
told_of spools b = (spool_at spools b).told

-- what told files are loaded as is a load of these jobs
abbrev pub AreGoodFiles : {L : Type 0} → Jobs L → Option (FilesAs L) → Type 0
AreGoodFiles {L} J files = (found : FilesAs L) → files ≡ Some found → (file : List ℕ) → J.IsLoad (found file)

-- the cards of a told deck are cards
abbrev pub AreCards : Option (List Item) → Type 0
AreCards deck = (items : List Item) → deck ≡ Some items → AreItems items

-- An opening: the spools, the cards of the deck, what the paper was given and what each file is loaded as,
-- where these are told.
pub record Opening {L : Type 0} (J : Jobs L) : Type 0 where
  pub spools : Spools
  pub deck : Option (List Item)
  pub paper : Option (List ℕ)
  pub files : Option (FilesAs L)
  pub bounds : AreInBounds spools
  pub cards : AreCards deck
  pub good : AreGoodFiles J files

abbrev pub devices_at : {L : Type 0} {J : Jobs L} → Opening J → Devices L
devices_at o = record { deck = o.deck; paper = o.paper; files = o.files }

-- an entry in which no device failed and no memory was refused
abbrev pub IsSmooth : {L : Type 0} → Entry L → Type 0
IsSmooth (Does action reply.Failed) = ⊥
IsSmooth (Does action reply.NoMemory) = ⊥
IsSmooth (Does action (reply.Card read.Failed)) = ⊥
IsSmooth (Does action (reply.Card read.Limit)) = ⊥
IsSmooth (LacksMemory action r) = ⊥
IsSmooth entry = Unit {0}

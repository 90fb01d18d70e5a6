-- What the jobs of a deck are to the five processes: the files that its items name, and the lines that they
-- print. L is the type of what the file of a job is loaded as.
use Rattle.std.specs.Prelude.{◌≡◌, ◌≤◌, ◌<◌, ℕ, ◌+◌, ◌*◌, Bool, true, false, List, [], ◌++◌, length, map}
use Rattle.std.specs.List.{AllByRecursion}
use Rattle.solo_base.specs.declared.item.Item.{Item}
use Rattle.solo_base.specs.Line.{IsLine}
use Rattle.solo_base.specs.Prefixes.{IsPrefixOf}
use Rattle.page_codec.specs.Items.{AreItems}

pub record Jobs (L : Type 0) : Type 1 where
  -- the files that items name, in order
  pub named : List Item → List (List ℕ)
  -- the lines so far of some items, of what the first of these files were loaded as, in order, and by whether
  -- the items have ended; and whether these are all lines
  pub lines : List Item → List L → Bool → List (List ℕ)
  pub whole : List Item → List L → Bool → Bool
  -- what a file may be loaded as, and what it is loaded as where there is none
  pub IsLoad : L → Type 0
  pub missing : L
  -- an item gives no more lines than these
  pub most : ℕ

-- what the file of each name is loaded as
abbrev pub FilesAs : Type 0 → Type 0
FilesAs L = List ℕ → L

-- What one thread prints that takes the jobs of these items one after the other, with these files.
abbrev pub one_thread : {L : Type 0} → Jobs L → List Item → FilesAs L → List (List ℕ)
one_thread J items files = J.lines items (map files (J.named items)) true

-- What holds of the jobs of every deck.
pub record AreJobs {L : Type 0} (J : Jobs L) : Type 0 where
  -- More items name more files, each item one at most.
  pub named_add : (items more : List Item) → J.named (items ++ more) ≡ J.named items ++ J.named more
  pub few_named : (items : List Item) → length (J.named items) ≤ length items
  -- Nothing gives no lines, and more items, more loads and the end add lines behind those so far.
  pub no_lines : J.lines [] [] false ≡ []
  pub items_add : (items more : List Item) (loads later : List L) (ended : Bool)
      → IsPrefixOf (J.lines items loads false) (J.lines (items ++ more) (loads ++ later) ended)
  -- Behind the end more loads add lines, until these are all: then they stay.
  pub loads_add : (items : List Item) (loads later : List L) → J.whole items loads true ≡ false
      → IsPrefixOf (J.lines items loads true) (J.lines items (loads ++ later) true)
  pub lines_stay : (items : List Item) (loads later : List L) → J.whole items loads true ≡ true
      → J.lines items (loads ++ later) true ≡ J.lines items loads true
  pub stays_whole : (items : List Item) (loads later : List L) → J.whole items loads true ≡ true
      → J.whole items (loads ++ later) true ≡ true
  -- They are never all before the end, and are all behind it where as many files are loaded as are named.
  pub not_whole : (items : List Item) (loads : List L) → J.whole items loads false ≡ false
  pub all_loaded : (items : List Item) (loads : List L) (ended : Bool)
      → length (J.named items) ≤ length loads → J.whole items loads ended ≡ ended
  -- They are lines, and few for each item.
  pub are_lines : (items : List Item) (loads : List L) (ended : Bool) → AreItems items
      → AllByRecursion IsLine (J.lines items loads ended)
  pub few_lines : (items : List Item) (loads : List L) (ended : Bool) → AreItems items
      → AllByRecursion J.IsLoad loads
      → length (J.lines items loads ended) ≤ J.most * length items + 1
  -- So few that what they make of a run can be counted.
  pub some_lines : 0 < J.most
  pub countable : J.most ≤ 404000000000000
  -- Where there is no file, what is loaded is a load.
  pub missing_loads : J.IsLoad J.missing

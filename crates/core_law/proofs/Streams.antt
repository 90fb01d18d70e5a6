-- What the deck, the paper and the files tell, as streams of parcels.
use Rattle.std.specs.Prelude.{map, ◌≡◌, ℕ, true, false, List, [], ◌∷◌, ◌++◌, Option, None, Some}
use Rattle.solo_base.specs.declared.item.Item.{Item}
use Rattle.solo_base.specs.declared.item.Feed.TheVariants as feed
use Rattle.solo_base.specs.Text.{line_text}
use Rattle.solo_base.specs.Prefixes.{IsPrefixOf}
use Rattle.batch_procs.specs.Parcels.{Parcel, OfFeed, OfPage, OfLine, OfLoad, is_ended}
use Rattle.batch_procs.specs.History.{Entry, taken, sent}
use Rattle.batch_procs.specs.Causes.{caused}
use Rattle.batch_procs.specs.Process.{Process}
use Rattle.batch_procs.specs.Sends.{card_sends, input_sends, output_sends, printer_sends}
use Rattle.core_law.specs.Core.{CoreState}
use Rattle.core_law.specs.FilesLoaded.{AreLoadedSo}
use Rattle.core_law.specs.Opening.{AreCards}
use Rattle.core_law.proofs.HandedLists.{job_puts}
use Rattle.batch_procs.specs.Jobs.{Jobs, AreJobs, FilesAs}

module _ {L : Type 0} {J : Jobs L} (jobs : AreJobs J) where
  -- what the card process takes of a whole deck: its items, and then the end
  abbrev pub deck_parcels : List Item → List (Parcel L)
  deck_parcels [] = OfFeed feed.End ∷ []
  deck_parcels (item ∷ items) = OfFeed (feed.Item item) ∷ deck_parcels items

  -- what the files that items name are loaded as, where each is loaded so
  abbrev pub loads_of : FilesAs L → List Item → List L
  loads_of found items = map found (J.named items)

  abbrev pub text_of : List (Parcel L) → List ℕ
  text_of [] = []
  text_of (OfFeed f ∷ rest) = text_of rest
  text_of (OfPage page last ∷ rest) = text_of rest
  text_of (OfLine line ∷ rest) = line_text line ++ text_of rest
  text_of (OfLoad load ∷ rest) = text_of rest

  -- what the five put in all, one after the other, where these are the loads of the jobs
  abbrev pub output_of : List L → List (Parcel L) → List (Parcel L)
  output_of found all = printer_sends (output_sends (job_puts jobs found (input_sends (card_sends all))))

  -- what was read of a told deck
  pub record ReadsOf (items : List Item) (deck : Option (List Item)) (read : List (Parcel L)) : Type 0 where
    pub left : List Item
    pub left_is : deck ≡ Some left
    pub parts : is_ended read ≡ false → read ++ deck_parcels left ≡ deck_parcels items
    pub whole : is_ended read ≡ true → (read ≡ deck_parcels items) × (left ≡ [])

  -- what a told paper gained: all lines that were printed, and after a failure perhaps a part of one more
  pub record Gained (given : List ℕ) (paper : Option (List ℕ)) (sends : List (Parcel L) → List (Parcel L)) (h : List (Entry L)) : Type 0 where
    pub gained : List ℕ
    pub paper_is : paper ≡ Some (given ++ gained)
    pub printed : caused h ≡ None → gained ≡ text_of (sent h)
    pub part : IsPrefixOf gained (text_of (sends (taken h)))

  pub record DevicesStand (row : ℕ → Process L) (opening s : CoreState L) : Type 0 where
    pub read : (items : List Item) → opening.devices.deck ≡ Some items → ReadsOf items s.devices.deck (taken (s.histories 1))
    pub gained : (given : List ℕ) → opening.devices.paper ≡ Some given → Gained given s.devices.paper (row 5).sends (s.histories 5)
    pub deck_untold : opening.devices.deck ≡ None → s.devices.deck ≡ None
    pub paper_untold : opening.devices.paper ≡ None → s.devices.paper ≡ None
    -- what is left of a deck of cards are cards
    pub cards : AreCards opening.devices.deck → AreCards s.devices.deck
    -- the files stay as they are, and are loaded as they say
    pub files_same : s.devices.files ≡ opening.devices.files
    pub loaded : (found : FilesAs L) → opening.devices.files ≡ Some found → (p : ℕ) → AreLoadedSo found (s.histories p)

-- What a load finds, where what the deck's files are loaded as is known.
use Rattle.std.proofs.Common.{◌≡◌, inl, inr, ℕ, List, [], ◌∷◌, ◌++◌, Option, None, Some, refl, sym, ◌∙◌, ap, subst}
use Rattle.std.proofs.lemmas.Bool.{false≢true}
use Rattle.solo_base.specs.declared.item.Item.{Item}
use Rattle.page_codec.specs.Items.{AreItems}
use Rattle.solo_base.specs.Prefixes.{IsPrefixOf}
use Rattle.batch_procs.specs.declared.actions.Action.TheVariants as act
use Rattle.batch_procs.specs.declared.actions.Reply.TheVariants as reply
use Rattle.batch_procs.specs.History.{Entry, Does, LacksMemory, Delays, action_of}
use Rattle.batch_procs.specs.Table.{process}
use Rattle.network_law.specs.Network.{IsEnabled, happens}
use Rattle.network_law.proofs.Numbers.{set-same}
use Rattle.core_law.specs.Core.{Allows, core, CoreState, CoreEvent}
use Rattle.core_law.specs.FilesLoaded.{files_loaded}
use Rattle.core_law.specs.Holds.{AreTold, AreFound}
use Rattle.core_law.specs.Opening.{Spools, AreCards, opened}
use Rattle.core_law.proofs.Acting.{follows-of}
use Rattle.core_law.proofs.Passing.{loaded-part}
use Rattle.core_law.proofs.Reached.{Centre, centre-run, told-is, all-told, hands-over}
use Rattle.core_law.proofs.Askers.{loads-files}
use Rattle.core_law.specs.FilesKnown.{AreFilesKnown}
use Rattle.batch_procs.specs.Jobs.{Jobs, AreJobs, FilesAs}

module _ {L : Type 0} {J : Jobs L} (jobs : AreJobs J) where
  -- what the files are loaded as; where that isn't told, no file
  abbrev pub loads_in : Option (FilesAs L) → FilesAs L
  loads_in (Some found) = found
  loads_in None = λ file. J.missing

  pub found-in : (files : Option (FilesAs L)) (items : List Item) → AreFilesKnown J files items → AreFound J files (loads_in files) items
  found-in (Some found) items known = inl refl
  found-in None items (inl told) = absurd (false≢true told)
  found-in None items (inr none) = inr none

  -- an entry that loaded a file found what these say
  abbrev pub FindsSo : FilesAs L → Entry L → Type 0
  FindsSo found (Does (act.Load file) (reply.Loaded load)) = load ≡ found file
  FindsSo found entry = Unit {0}

  finds-each : (found : FilesAs L) (entry : Entry L) → ((file : List ℕ) (load : L) → entry ≡ Does (act.Load file) (reply.Loaded load) → load ≡ found file)
      → FindsSo found entry
  finds-each found (Does (act.Load file) (reply.Loaded load)) each = each file load refl
  finds-each found (Does a r) each = tt
  finds-each found (LacksMemory a r) each = tt
  finds-each found (Delays a) each = tt

  last-some : (before : List (List ℕ)) (file : List ℕ) (rest : List (List ℕ)) → (before ++ file ∷ []) ++ rest ≡ [] → ⊥
  last-some [] file rest e = cc
  last-some (x ∷ before) file rest e = cc

  none-behind : (some : List (List ℕ)) → IsPrefixOf some [] → some ≡ []
  none-behind [] part = refl
  none-behind (x ∷ some) part = absurd (let e = part.1 in cc)

  module _ (spools : Spools) (deck : Option (List Item)) (paper : Option (List ℕ)) (files : Option (FilesAs L)) (items : List Item) (are : AreTold spools)
      (deck_is : deck ≡ Some items) (cards : AreCards deck) (s : CoreState L) (c : Centre jobs (opened spools deck paper files) s) (event : CoreEvent L)
      (is : IsEnabled
      (core J (process J)) s event) where
    abbrev opening : CoreState L
    opening = opened spools deck paper files

    abbrev after : CoreState L
    after = happens (core J (process J)) s event

    behind : Centre jobs opening after
    behind = centre-run jobs opening s (event ∷ []) (is, tt) c

    -- a told file is loaded as it stands
    told-so : (found : FilesAs L) → files ≡ Some found → (file : List ℕ) (load : L) → event.entry ≡ Does (act.Load file) (reply.Loaded load) → load ≡ found file
    told-so found files_are file load made =
        let allowed : Allows s.devices (Does (act.Load file) (reply.Loaded load)) event.gained
        = subst (λ entry. Allows s.devices entry event.gained) made is.allowed in
        allowed.0 found (c.devices.files_same ∙ files_are)

    -- where none is named none is loaded
    loads-part : AreItems items → IsPrefixOf (files_loaded (after.histories 3)) (J.named items)
    loads-part valid =
        loaded-part jobs after.histories (λ p. follows-of jobs (process J) p (after.histories p) (behind.stands.follows p))
        (hands-over jobs opening after behind.stands (λ b at. told-is jobs spools b (all-told jobs spools are b at))) items after.devices.deck
        (behind.devices.read items deck_is) valid

    never-so : AreItems items → J.named items ≡ [] → (file : List ℕ) (load : L) → event.entry ≡ Does (act.Load file) (reply.Loaded load) → ⊥
    never-so valid none file load made =
        let p = event.process in
        let three : p ≡ 3 = loads-files jobs p (s.histories p) file is.one (follows-of jobs (process J) p (s.histories p) (c.stands.follows p))
        (is.next ∙ ap (λ entry. Some (action_of entry)) made) in
        let newest : after.histories 3 ≡ Does (act.Load file) (reply.Loaded load) ∷ s.histories p
        = ap after.histories (sym three) ∙ set-same s.histories p (event.entry ∷ s.histories p) ∙ ap (λ entry. entry ∷ s.histories p) made in
        let part = subst (λ files. IsPrefixOf (files_loaded (after.histories 3)) files) none (loads-part valid) in
        last-some (files_loaded (s.histories p)) file [] (append-none (files_loaded (s.histories p) ++ file ∷ [])
        (sym (ap files_loaded newest) ∙ none-behind (files_loaded (after.histories 3)) part))
      where
        append-none : (some : List (List ℕ)) → some ≡ [] → some ++ [] ≡ []
        append-none some e = rw e refl

    pub finds-so : AreFilesKnown J files items → FindsSo (loads_in files) event.entry
    finds-so known = finds-each (loads_in files) event.entry (by files known refl)
      where
        by : (found : Option (FilesAs L)) → AreFilesKnown J found items → files ≡ found → (file : List ℕ) (load : L)
            → event.entry ≡ Does (act.Load file) (reply.Loaded load) → load ≡ loads_in files file
        by (Some found) known e file load made = told-so found e file load made ∙ sym (ap (λ all. loads_in all file) e)
        by None (inl told) e file load made = absurd (false≢true told)
        by None (inr none) e file load made = absurd (never-so (cards items deck_is) none file load made)

-- Each enabled event keeps what the paper gained and what the files were loaded as, and with it what the devices tell.
use Rattle.std.proofs.Common.{◌≡◌, inl, inr, ℕ, ◌<◌, List, [], ◌∷◌, ◌++◌, length, drop, map, Option, None, Some, refl, sym, ◌∙◌, ap, subst, append_assoc, option_map, arith}
use Rattle.std.proofs.lemmas.Bool.Decides.{eqb_tells}
use Rattle.std.proofs.lemmas.List.{append-nil}
use Rattle.solo_base.specs.declared.item.Item.{Item}
use Rattle.solo_base.specs.Text.{line_text}
use Rattle.solo_base.specs.Prefixes.{IsPrefixOf}
use Rattle.batch_procs.specs.declared.actions.Action.{Action}
use Rattle.batch_procs.specs.declared.actions.Action.TheVariants as act
use Rattle.batch_procs.specs.declared.actions.Reply.{Reply}
use Rattle.batch_procs.specs.declared.actions.Reply.TheVariants as reply
use Rattle.batch_procs.specs.Parcels.{Parcel, OfLine, loads}
use Rattle.batch_procs.specs.History.{Entry, Does, LacksMemory, Delays, action_of, took, taken, taken_by, put, sent}
use Rattle.batch_procs.specs.Fits.{Fits}
use Rattle.batch_procs.specs.Causes.{caused, given_cause}
use Rattle.batch_procs.specs.Process.{Process, IsFitting, Follows, next_action}
use Rattle.batch_procs.specs.Laws.{IsRelay}
use Rattle.batch_procs.proofs.Relay.{open-next, sent-is-part}
use Rattle.batch_procs.proofs.Closing.{or-none}
use Rattle.batch_procs.proofs.Holding.{some-not_none}
use Rattle.network_law.specs.Network.{IsEnabled, happens}
use Rattle.network_law.proofs.Numbers.{set-same, set-other}
use Rattle.core_law.specs.Core.{Devices, Allows, read_off, given, core, CoreState, CoreEvent}
use Rattle.core_law.specs.FilesLoaded.{file_loaded, AreLoadedSo}
use Rattle.core_law.proofs.Streams.{text_of, ReadsOf, Gained, DevicesStand}
use Rattle.core_law.proofs.Loading.{loaded-more, wants-none, card-loads, lack-loads}
use Rattle.core_law.proofs.Row.{IsRow}
use Rattle.core_law.proofs.Taking.{next-take}
use Rattle.core_law.proofs.Passed.{IsNoPrint, no-print, no-read, prints-line}
use Rattle.core_law.proofs.KeepsDevices.{reads-own, reads-still, read_off-none, text-more, text-part, prefix-longer, entry-no_text, gained-none, cards-left}
use Rattle.batch_procs.specs.Jobs.{Jobs, AreJobs, FilesAs}

module _ {L : Type 0} {J : Jobs L} (jobs : AreJobs J) where
  -- ---- the files
  -- an entry loads a file as told files say
  reply-so : (devices : Devices L) (a : Action) (r : Reply L) (found : FilesAs L) (gained : List ℕ) → devices.files ≡ Some found → Fits J a r
      → Allows devices (Does a r) gained → loads (taken_by r) ≡ map found (file_loaded (Does a r))
  reply-so devices (act.Load file) (reply.Loaded load) found gained told fits allows = ap (λ load. load ∷ []) (allows.0 found told)
  reply-so devices act.ReadCard (reply.Card answer) found gained told fits allows = card-loads jobs answer
  reply-so devices act.TakeFeed (reply.Feed f) found gained told fits allows = refl
  reply-so devices act.TakePage (reply.Page page last) found gained told fits allows = refl
  reply-so devices a reply.Done found gained told fits allows = refl
  reply-so devices a reply.Stopped found gained told fits allows = refl
  reply-so devices a reply.Failed found gained told fits allows = refl
  reply-so devices a reply.NoMemory found gained told fits allows = refl
  reply-so devices a r found gained told fits allows = absurd fits

  loads-so : (p : Process L) (devices : Devices L) (entry : Entry L) (found : FilesAs L) (gained : List ℕ) → devices.files ≡ Some found → IsFitting J p entry
      → Allows devices entry gained → loads (took entry) ≡ map found (file_loaded entry)
  loads-so p devices (Does a r) found gained told fits allows = reply-so devices a r found gained told fits allows
  loads-so p devices (LacksMemory a r) found gained told fits allows = lack-loads jobs a r fits.1
  loads-so p devices (Delays a) found gained told fits allows = refl

  -- ---- the histories
  pub sent-more : (entry : Entry L) (h : List (Entry L)) → sent (entry ∷ h) ≡ sent h ++ put entry
  sent-more (Does a r) h = refl
  sent-more (LacksMemory a r) h = sym (append-nil (sent h))
  sent-more (Delays a) h = sym (append-nil (sent h))

  pub taken-more : (entry : Entry L) (h : List (Entry L)) → taken (entry ∷ h) ≡ taken h ++ took entry
  taken-more (Does a r) h = refl
  taken-more (LacksMemory a r) h = refl
  taken-more (Delays a) h = sym (append-nil (taken h))

  caused-before : (entry : Entry L) (h : List (Entry L)) → caused (entry ∷ h) ≡ None → caused h ≡ None
  caused-before (Does a r) h none = or-none (caused h) (given_cause a r h) none
  caused-before (LacksMemory a r) h none = or-none (caused h) _ none
  caused-before (Delays a) h none = none

  -- ---- the paper
  none-gained : (given : List ℕ) (paper : Option (List ℕ)) (gained : List ℕ) → paper ≡ Some (given ++ gained)
      → option_map (λ old. old ++ []) paper ≡ Some (given ++ gained)
  none-gained given paper gained e = ap (option_map (λ old. old ++ [])) e ∙ ap Some (append-nil (given ++ gained))

  gained-same : (p : Process L) (entry : Entry L) (h : List (Entry L)) (given part : List ℕ) (paper : Option (List ℕ)) → IsRelay p → IsNoPrint (action_of entry)
      → part ≡ [] → Gained jobs given paper p.sends h
      → Gained jobs given (option_map (λ old. old ++ part) paper) p.sends (entry ∷ h)
  gained-same p entry h given part paper relay no_print none g =
      record {
        gained = g.gained;
        paper_is = rw none (none-gained given paper g.gained g.paper_is);
        printed = λ free. g.printed (caused-before entry h free)
            ∙ sym (ap (text_of jobs) (sent-more entry h) ∙ text-more jobs (sent h) (put entry) ∙ ap (λ more. text_of jobs (sent h) ++ more)
            (entry-no_text jobs entry no_print)
            ∙ append-nil (text_of jobs (sent h)));
        part = prefix-longer g.gained (text_of jobs (p.sends (taken h))) (text_of jobs (p.sends (taken (entry ∷ h)))) g.part
            (text-part jobs (p.sends (taken h)) (p.sends (taken (entry ∷ h))) (subst (λ all. IsPrefixOf (p.sends (taken h)) (p.sends all))
            (sym (taken-more entry h))
            (relay.monotone (taken h) (took entry))));
      }

  -- a line, or a part of it
  one-line : (line : List ℕ) (st : List (Parcel L)) → text_of jobs (st ++ OfLine line ∷ []) ≡ text_of jobs st ++ line_text line
  one-line line st = text-more jobs st (OfLine line ∷ []) ∙ ap (λ last. text_of jobs st ++ last) (append-nil (line_text line))

  gained-line : (p : Process L) (line : List ℕ) (h : List (Entry L)) (given part : List ℕ) (paper : Option (List ℕ)) → IsRelay p → Follows J p h
      → next_action p h ≡ Some (act.Print line) → part ≡ line_text line → Gained jobs given paper p.sends h
      → Gained jobs given (option_map (λ old. old ++ part) paper) p.sends (Does (act.Print line) reply.Done ∷ h)
  gained-line p line h given part paper relay follows next whole g =
      let before = g.printed (open-next J p h (act.Print line) next tt) in
      let now : g.gained ++ part ≡ text_of jobs (sent h ++ OfLine line ∷ []) = rw (before, whole) (sym (one-line line (sent h))) in
      record {
        gained = g.gained ++ part;
        paper_is = ap (option_map (λ old. old ++ part)) g.paper_is ∙ ap Some (append_assoc given g.gained part);
        printed = λ free. now;
        part = subst (λ xs. IsPrefixOf xs (text_of jobs (p.sends (taken h ++ [])))) (sym now)
            (text-part jobs (sent h ++ OfLine line ∷ []) (p.sends (taken h ++ [])) (sent-is-part J p (Does (act.Print line) reply.Done ∷ h) relay
            (next, tt, follows)));
      }

  gained-part : (p : Process L) (line : List ℕ) (r : Reply L) (h : List (Entry L)) (given part : List ℕ) (paper : Option (List ℕ)) → IsRelay p → Follows J p h
      → next_action p h ≡ Some (act.Print line) → IsPrefixOf part (line_text line) → taken_by r ≡ []
      → (caused (Does (act.Print line) r ∷ h) ≡ None → ⊥) → Gained jobs given paper p.sends h
      → Gained jobs given (option_map (λ old. old ++ part) paper) p.sends (Does (act.Print line) r ∷ h)
  gained-part p line r h given part paper relay follows next (rest, is) plain caught g =
      let before = g.printed (open-next J p h (act.Print line) next tt) in
      let now : (g.gained ++ part) ++ rest ≡ text_of jobs (sent h ++ OfLine line ∷ []) = append_assoc g.gained part rest ∙ ap (λ xs. g.gained ++ xs) is
      ∙ ap (λ xs. xs ++ line_text line) before ∙ sym (one-line line (sent h)) in
      record {
        gained = g.gained ++ part;
        paper_is = ap (option_map (λ old. old ++ part)) g.paper_is ∙ ap Some (append_assoc given g.gained part);
        printed = λ free. absurd (caught free);
        part = prefix-longer (g.gained ++ part) (text_of jobs (sent h ++ OfLine line ∷ [])) (text_of jobs (p.sends (taken h ++ taken_by r))) (rest, now)
            (subst (λ more. IsPrefixOf (text_of jobs (sent h ++ OfLine line ∷ [])) (text_of jobs (p.sends (taken h ++ more)))) (sym plain)
            (text-part jobs (sent h ++ OfLine line ∷ []) (p.sends (taken h ++ []))
            (sent-is-part J p (Does (act.Print line) reply.Done ∷ h) relay (next, tt, follows))));
      }

  gained-print : (p : Process L) (devices : Devices L) (line : List ℕ) (r : Reply L) (h : List (Entry L)) (given part : List ℕ) → IsRelay p → Follows J p h
      → next_action p h ≡ Some (act.Print line) → Fits J (act.Print line) r
      → Allows devices (Does (act.Print line) r) part → Gained jobs given devices.paper p.sends h
      → Gained jobs given (option_map (λ old. old ++ part) devices.paper) p.sends (Does (act.Print line) r ∷ h)
  gained-print p devices line reply.Done h given part relay follows next fits allows g =
      gained-line p line h given part devices.paper relay follows next allows g
  gained-print p devices line reply.Failed h given part relay follows next fits allows g =
      gained-part p line reply.Failed h given part devices.paper relay follows next allows refl (some-not_none (caused h) _) g
  gained-print p devices line reply.NoMemory h given part relay follows next fits allows g =
      gained-part p line reply.NoMemory h given part devices.paper relay follows next allows refl (some-not_none (caused h) _) g
  gained-print p devices line r h given part relay follows next fits allows g = absurd fits

  lacks-print : (p : Process L) (line : List ℕ) (r : Reply L) → IsFitting J p (LacksMemory (act.Print line) r) → ⊥
  lacks-print p line r fits = fits.1

  gained-own : (p : Process L) (devices : Devices L) (entry : Entry L) (h : List (Entry L)) (given part : List ℕ) → IsRelay p → Follows J p h
      → next_action p h ≡ Some (action_of entry) → IsFitting J p entry → Allows devices entry part
      → Gained jobs given devices.paper p.sends h → Gained jobs given (option_map (λ old. old ++ part) devices.paper) p.sends (entry ∷ h)
  gained-own p devices (Does (act.Print line) r) h given part relay follows next fits allows g =
      gained-print p devices line r h given part relay follows next fits allows g
  gained-own p devices (LacksMemory (act.Print line) r) h given part relay follows next fits allows g = absurd (lacks-print p line r fits)
  gained-own p devices (Delays (act.Print line)) h given part relay follows next fits allows g = absurd fits
  gained-own p devices (Does a r) h given part relay follows next fits allows g =
      gained-same p (Does a r) h given part devices.paper relay tt (gained-none jobs p devices (Does a r) part fits tt allows) g
  gained-own p devices (LacksMemory a r) h given part relay follows next fits allows g =
      gained-same p (LacksMemory a r) h given part devices.paper relay tt (gained-none jobs p devices (LacksMemory a r) part fits tt allows) g
  gained-own p devices (Delays a) h given part relay follows next fits allows g =
      gained-same p (Delays a) h given part devices.paper relay tt (gained-none jobs p devices (Delays a) part fits tt allows) g

  -- ---- the whole
  module _ {row : ℕ → Process L} (laws : IsRow jobs row) (opening s : CoreState L) (event : CoreEvent L) (follows : (p : ℕ) → Follows J (row p) (s.histories p))
      (d : DevicesStand jobs row opening s) (enabled : IsEnabled (core J row) s event) where
    abbrev p : ℕ
    p = event.process

    abbrev after : CoreState L
    after = happens (core J row) s event

    abbrev own : List (Entry L)
    own = event.entry ∷ s.histories event.process

    reads-after : (items : List Item) → opening.devices.deck ≡ Some items → ReadsOf jobs items after.devices.deck (taken (after.histories 1))
    reads-after items told =
        elim (eqb_tells p 1) as (λ _. ReadsOf jobs items after.devices.deck (taken (after.histories 1))) [
          | inl is ↦
              let first = subst (λ q. (row q).takes ≡ act.ReadCard) (sym is.1) laws.first in
              subst (λ q. ReadsOf jobs items after.devices.deck (taken (after.histories q))) is.1
              (subst (λ h. ReadsOf jobs items after.devices.deck (taken h)) (sym (set-same s.histories p own))
              (reads-own jobs (row p) s.devices event.entry (s.histories p) event.gained items first
              (λ file. wants-none jobs (row p) (s.histories p) file (laws.relays p) (follows p)
              (laws.loads p (λ three. (let one = is.1 in omega (arith, one, three)))))
              enabled.next enabled.suits enabled.allowed
              (subst (λ q. ReadsOf jobs items s.devices.deck (taken (s.histories q))) (sym is.1) (d.read items told))))
          | inr differ ↦
              let none = read_off-none jobs event.entry (no-read (action_of event.entry)
              (λ e. differ.1 (laws.reads p (next-take jobs (row p) (s.histories p) act.ReadCard (enabled.next ∙ ap Some e) tt).same))) in
              subst (λ off. ReadsOf jobs items (option_map (drop (length off)) s.devices.deck) (taken (after.histories 1))) (sym none)
              (subst (λ h. ReadsOf jobs items (option_map (drop 0) s.devices.deck) (taken h)) (sym (set-other s.histories p own 1 (λ e. differ.1 (sym e))))
              (reads-still jobs items s.devices.deck (taken (s.histories 1)) (d.read items told)))
        ]

    gained-after : (given : List ℕ) → opening.devices.paper ≡ Some given → Gained jobs given after.devices.paper (row 5).sends (after.histories 5)
    gained-after given told =
        elim (eqb_tells p 5) as (λ _. Gained jobs given after.devices.paper (row 5).sends (after.histories 5)) [
          | inl is ↦
              subst (λ q. Gained jobs given after.devices.paper (row q).sends (after.histories q)) is.1
              (subst (λ h. Gained jobs given after.devices.paper (row p).sends h) (sym (set-same s.histories p own))
              (gained-own (row p) s.devices event.entry (s.histories p) given event.gained (laws.relays p)
              (follows p) enabled.next enabled.suits enabled.allowed
              (subst (λ q. Gained jobs given s.devices.paper (row q).sends (s.histories q)) (sym is.1) (d.gained given told))))
          | inr differ ↦
              let below : p < 5 = (let not = differ.1 in let one = enabled.one.1 in omega (arith, one, not)) in
              let no_print = no-print (action_of event.entry) (λ line e. prints-line jobs (row p) (s.histories p) line (laws.relays p) (follows p)
              (enabled.next ∙ ap Some e) (laws.prints p (enabled.one.0, below) (taken (s.histories p)))) in
              let none = gained-none jobs (row p) s.devices event.entry event.gained enabled.suits no_print enabled.allowed in
              let g = d.gained given told in
              subst (λ h. Gained jobs given after.devices.paper (row 5).sends h) (sym (set-other s.histories p own 5 (λ e. differ.1 (sym e))))
              record { gained = g.gained; paper_is = rw none (none-gained given s.devices.paper g.gained g.paper_is); printed = g.printed; part = g.part }
        ]

    loaded-after : (found : FilesAs L) → opening.devices.files ≡ Some found → (q : ℕ) → AreLoadedSo found (after.histories q)
    loaded-after found told q =
        elim (eqb_tells q p) as (λ _. AreLoadedSo found (after.histories q)) [
          | inl is ↦
              subst (λ q. AreLoadedSo found (after.histories q)) (sym is.1)
              (subst (AreLoadedSo found) (sym (set-same s.histories p own))
              (loaded-more jobs found event.entry (s.histories p) (loads-so (row p) s.devices event.entry found event.gained (d.files_same ∙ told) enabled.suits
              enabled.allowed)
              (d.loaded found told p)))
          | inr differ ↦ subst (AreLoadedSo found) (sym (set-other s.histories p own q differ.1)) (d.loaded found told q)
        ]

    pub keeps-devices : DevicesStand jobs row opening after
    keeps-devices = record {
      read = reads-after;
      gained = gained-after;
      deck_untold = λ e. ap (option_map (drop (length (read_off event.entry)))) (d.deck_untold e);
      paper_untold = λ e. ap (option_map (λ before. before ++ event.gained)) (d.paper_untold e);
      cards = λ are. cards-left (length (read_off event.entry)) s.devices.deck (d.cards are);
      files_same = d.files_same;
      loaded = loaded-after;
    }

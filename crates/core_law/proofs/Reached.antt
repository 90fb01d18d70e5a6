-- Every reached state of the core has what it promises.
use Rattle.std.proofs.Common.{◌≡◌, inl, inr, ℕ, suc, ◌≤◌, true, List, [], ◌∷◌, ◌++◌, Option, Some, refl, sym, ◌∙◌, ap, subst, lit≤}
use Rattle.std.proofs.lemmas.List.{append-nil}
use Rattle.solo_base.specs.declared.item.Item.{Item}
use Rattle.solo_base.specs.Prefixes.{IsPrefixOf}
use Rattle.solo_base.specs.Text.{text}
use Rattle.solo_devices.specs.PrinterUnit.{Gains, GainsOf}
use Rattle.page_codec.specs.Items.{AreItems}
use Rattle.batch_procs.specs.declared.actions.Action.TheVariants as act
use Rattle.batch_procs.specs.Parcels.{Parcel}
use Rattle.network_law.specs.Buffer.{fresh}
use Rattle.batch_procs.specs.Process.{Process, Follows}
use Rattle.batch_procs.specs.Table.{process}
use Rattle.batch_procs.proofs.Holding.{holder-next}
use Rattle.network_run.specs.Law.{AreEnabled, run}
use Rattle.network_law.specs.Network.{IsEnabled, happens, inside_at}
use Rattle.network_law.specs.Kept.{IsTold, Stands}
use Rattle.network_law.proofs.Reached.{stands-event, opening-stands}
use Rattle.core_law.specs.Core.{core, CoreState, CoreEvent, IsBuffer, seat}
use Rattle.core_law.specs.Opening.{Spools, AreInBounds, AreGoodFiles, Opening, size_of, told_of, opened, first_state}
use Rattle.core_law.specs.Ends.{IsProcess, HasEnded, AllDone, IsSmooth}
use Rattle.core_law.specs.Holds.{AreTold, AreFound, LoadsInOrder, GoesOn, Holds, IsStuck}
use Rattle.core_law.specs.TheLaw.{the_law, IsReached}
use Rattle.core_law.proofs.Streams.{text_of, DevicesStand}
use Rattle.core_law.proofs.Row.{feeds-at, each-buffer}
use Rattle.core_law.proofs.Ends.{the-five}
use Rattle.core_law.proofs.Acting.{follows-of, holds-are, stops-are}
use Rattle.core_law.proofs.Lawful.{lawful}
use Rattle.core_law.proofs.Undamaged.{have-causes, undamaged}
use Rattle.core_law.proofs.KeepsPaper.{keeps-devices}
use Rattle.core_law.proofs.NeverStuck.{ended-all}
use Rattle.core_law.proofs.Passing.{HandOver, AreFoundBy, loaded-part, loaded-all, gains-of, reads-all}
use Rattle.core_law.proofs.Handed.{stands-between}
use Rattle.core_law.proofs.Queues.{queues-hold}
use Rattle.core_law.proofs.Together.{ends-together}
use Rattle.batch_procs.specs.Jobs.{Jobs, AreJobs, FilesAs, one_thread}

module _ {L : Type 0} {J : Jobs L} (jobs : AreJobs J) where
  -- all that every event keeps
  pub record Centre (opening s : CoreState L) : Type 0 where
    pub stands : Stands (core J (process J)) opening s
    pub devices : DevicesStand jobs (process J) opening s

  pub centre-run : (opening s : CoreState L) (events : List (CoreEvent L)) → AreEnabled (the_law J) s events → Centre opening s
      → Centre opening (run (the_law J) s events)
  centre-run opening s [] are c = c
  centre-run opening s (event ∷ events) are c =
      centre-run opening (happens (core J (process J)) s event) events are.1 record {
        stands = stands-event (lawful jobs (the-five jobs)) opening s event c.stands are.0;
        devices = keeps-devices jobs (the-five jobs) opening s event (λ p. follows-of jobs (process J) p (s.histories p) (c.stands.follows p)) c.devices are.0;
      }

  -- ---- the opening
  text-nothing : (p : Process L) → IsPrefixOf [] (text_of jobs (p.sends []))
  text-nothing p = (text_of jobs (p.sends []), refl)

  paper-nothing : (paper : Option (List ℕ)) (given : List ℕ) → paper ≡ Some given → paper ≡ Some (given ++ [])
  paper-nothing paper given e = rw (append-nil given) e

  pub opening-centre : (spools : Spools) (deck : Option (List Item)) (paper : Option (List ℕ)) (files : Option (FilesAs L))
      → Centre (opened spools deck paper files) (opened spools deck paper files)
  opening-centre spools deck paper files = record {
    stands = opening-stands (core J (process J)) record { deck = deck; paper = paper; files = files } (size_of spools) (told_of spools);
    devices = record {
      read = λ items e. record { left = items; left_is = e; parts = λ _. refl; whole = λ e. absurd cc };
      gained = λ given e. (let (rest, whole) = text-nothing (process J 5) in record {
        gained = [];
        paper_is = paper-nothing paper given e;
        printed = λ _. refl;
        part = (rest, whole);
      });
      deck_untold = λ e. e;
      paper_untold = λ e. e;
      cards = λ are. are;
      files_same = refl;
      loaded = λ found told p. refl;
    };
  }

  pub reached-centre : (o : Opening J) (s : CoreState L) → IsReached o s → Centre (first_state o) s
  reached-centre o s r =
      subst (Centre (first_state o)) r.leads (centre-run (first_state o) (first_state o) r.events r.enabled (opening-centre o.spools o.deck o.paper o.files))

  -- ---- what is told, and the sizes
  pub told-is : (spools : Spools) (b : ℕ) → told_of spools b ≡ true → IsTold {Parcel = Parcel L} (fresh (size_of spools b) (inside_at (told_of spools b)))
  told-is spools b e = ([], ap inside_at e)

  pub all-told : (spools : Spools) → AreTold spools → (b : ℕ) → IsBuffer b → told_of spools b ≡ true
  all-told spools are b is = each-buffer (λ b. told_of spools b ≡ true) b is refl are.input are.output refl

  pub all-sized : (spools : Spools) → AreInBounds spools → (b : ℕ) → IsBuffer b → 1 ≤ size_of spools b
  all-sized spools are b is = each-buffer (λ b. 1 ≤ size_of spools b) b is (lit≤ tt) are.input_some are.output_some (lit≤ tt)

  lines-told : (spools : Spools) (b : ℕ) → (process J (suc b)).takes ≡ act.TakeFeed → told_of spools b ≡ true
  lines-told spools b takes =
      elim (feeds-at jobs b takes) as (λ _. told_of spools b ≡ true) [
        | inl one ↦ subst (λ b. told_of spools b ≡ true) (sym one) refl
        | inr four ↦ subst (λ b. told_of spools b ≡ true) (sym four) refl
      ]

  -- ---- the promise
  follows-in : (opening s : CoreState L) → Stands (core J (process J)) opening s → (p : ℕ) → Follows J (process J p) (s.histories p)
  follows-in opening s st p = follows-of jobs (process J) p (s.histories p) (st.follows p)

  pub hands-over : (opening s : CoreState L) → Stands (core J (process J)) opening s → ((b : ℕ) → IsBuffer b → IsTold (opening.buffers b))
      → HandOver jobs s.histories
  hands-over opening s st told b is = (let (inside, e) = st.told b (told b is) in
      (inside, (stands-between jobs (the-five jobs) opening s st b is).parcels inside e))

  pub found-by : (files : Option (FilesAs L)) (opening s : CoreState L) (found : FilesAs L) (items : List Item) → opening.devices.files ≡ files
      → DevicesStand jobs (process J) opening s → AreFound J files found items → AreFoundBy jobs found items (s.histories 3)
  found-by files opening s found items same d (inl told) = inl (d.loaded found (same ∙ told) 3)
  found-by files opening s found items same d (inr none) = inr none

  gained-whole : (spools : Spools) (deck : Option (List Item)) (paper : Option (List ℕ)) (files : Option (FilesAs L)) (s : CoreState L)
      → Centre (opened spools deck paper files) s → AreTold spools → (items : List Item) (found : FilesAs L) → deck ≡ Some items → AreItems items
      → AreFound J files found items → (given : List ℕ) → paper ≡ Some given → GainsOf given s.devices.paper (text (one_thread J items found)) (AllDone s)
  gained-whole spools deck paper files s c are items found is valid known given paper_is =
      let opening = opened spools deck paper files in
      let told = λ (b : ℕ) (at : IsBuffer b). told-is spools b (all-told spools are b at) in
      gains-of jobs s.histories (follows-in opening s c.stands) (hands-over opening s c.stands told) items s.devices.deck given s.devices.paper valid
      (c.devices.read items is) found (found-by files opening s found items refl c.devices known) (c.devices.gained given paper_is)

  module _ (o : Opening J) (s : CoreState L) (r : IsReached o s) where
    abbrev c : Centre (first_state o) s
    c = reached-centre o s r

    abbrev opening : CoreState L
    opening = first_state o

    abbrev spools : Spools
    spools = o.spools

    gains : AreTold o.spools → (items : List Item) (found : FilesAs L) → o.deck ≡ Some items → AreFound J o.files found items
        → Gains o.paper s.devices.paper (text (one_thread J items found)) (AllDone s)
    gains are items found is known =
        record { told = gained-whole o.spools o.deck o.paper o.files s c are items found is (o.cards items is) known; untold = λ e. c.devices.paper_untold e }

    loads-in_order : AreTold o.spools → (items : List Item) → o.deck ≡ Some items → LoadsInOrder J s items
    loads-in_order are items is =
        let over = hands-over opening s c.stands (λ b at. told-is spools b (all-told spools are b at)) in
        let read = c.devices.read items is in
        record {
          prefix = loaded-part jobs s.histories (follows-in opening s c.stands) over items s.devices.deck read (o.cards items is);
          all = λ done. loaded-all jobs s.histories (follows-in opening s c.stands) over items s.devices.deck read done (o.cards items is);
        }

    goes-on : (p : ℕ) → s.desk.claims.holder ≡ Some p → GoesOn J s p
    goes-on p e =
        let follows = follows-of jobs (process J) p (s.histories p) (c.stands.follows p) in
        elim (c.stands.desk.holder p e) as (λ _. GoesOn J s p) [
          | inl handed ↦ inl handed
          | inr on ↦ inr (holder-next J (process J p) (s.histories p) ((the-five jobs).relays p) follows
              (sym (holds-are jobs (process J) p (s.histories p) follows) ∙ on))
        ]

    pub reached-holds : Holds o s
    reached-holds = record {
      prints = gains;
      loads = loads-in_order;
      loads_so = c.devices.loaded;
      reads = λ items is done. reads-all jobs (the-five jobs) s.histories (follows-in opening s c.stands) items s.devices.deck (c.devices.read items is) done;
      hands_over = λ b is. stands-between jobs (the-five jobs) opening s c.stands b is;
      stops = λ b side. c.stands.buffers.stops b side ∙ stops-are jobs (process J) (seat b side) b side (s.histories (seat b side)) refl
          (follows-of jobs (process J) (seat b side) (s.histories (seat b side)) (c.stands.follows (seat b side)));
      told = c.stands.buffers.told;
      queues = queues-hold jobs opening s c.stands;
      one_holder = c.stands.desk.one_holder;
      holder = goes-on;
      ends = ends-together jobs (the-five jobs) opening s c.stands;
      causes = have-causes jobs opening s c.stands;
      undamaged = λ are.
          undamaged jobs opening s c.stands (hands-over opening s c.stands (λ b at. told-is spools b (all-told spools are b at)));
      follows = λ p. follows-of jobs (process J) p (s.histories p) (c.stands.follows p);
    }

    -- where no event may happen in which no device fails and no memory is refused, all have ended
    pub ended-where : ((event : CoreEvent L) → IsEnabled (core J (process J)) s event → IsSmooth event.entry → ⊥) → (p : ℕ) → IsProcess p → HasEnded s p
    ended-where none = ended-all jobs (the-five jobs) opening s c.stands (λ b is takes. told-is spools b (lines-told spools b takes))
        (all-sized spools o.bounds)
        (c.devices.cards o.cards) (subst (AreGoodFiles J) (sym c.devices.files_same) o.good) none

    pub never-stuck : IsStuck J s → ⊥
    never-stuck stuck = stuck.not_ended (ended-where stuck.none_enabled)

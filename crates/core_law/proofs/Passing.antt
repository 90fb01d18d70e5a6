-- Five histories side by side: what the last has, by what was handed over between them.
use Rattle.std.proofs.Common.{◌≡◌, ◌⊎◌, inl, inr, ℕ, suc, Bool, true, false, List, [], ◌∷◌, ◌++◌, map, length, Option, Some, refl, sym, ◌∙◌, ap, subst, arith, lit≤}
use Rattle.std.proofs.lemmas.List.{append-nil}
use Rattle.solo_base.specs.declared.item.Item.{Item}
use Rattle.solo_base.specs.declared.outcome.Outcome.TheVariants as outcome
use Rattle.solo_base.specs.Text.{text}
use Rattle.solo_devices.specs.PrinterUnit.{GainsOf}
use Rattle.page_codec.specs.Items.{AreItems}
use Rattle.solo_base.specs.Prefixes.{IsPrefixOf}
use Rattle.batch_procs.specs.declared.actions.Action.TheVariants as act
use Rattle.batch_procs.specs.Parcels.{Parcel, is_ended, loads, handed, NothingBehind}
use Rattle.batch_procs.specs.History.{Entry, taken, sent, newest}
use Rattle.batch_procs.specs.Process.{Process, Follows}
use Rattle.batch_procs.specs.Sends.{card_sends, input_sends, job_sends, output_sends}
use Rattle.batch_procs.specs.Table.{job, process}
use Rattle.batch_procs.specs.Laws.{IsRelay}
use Rattle.batch_procs.proofs.Relay.{sent-is-part}
use Rattle.batch_procs.proofs.Ended.{ended-rightly, done-free, nothing-left}
use Rattle.core_law.specs.Core.{IsBuffer}
use Rattle.core_law.specs.Ends.{IsProcess}
use Rattle.core_law.specs.FilesLoaded.{files_loaded, AreLoadedSo}
use Rattle.core_law.proofs.HandedLists.{handed-again, ended-handed, unpacked-same, job_puts, job-goes_on}
use Rattle.core_law.proofs.Loading.{as-many, map-append, takes-handed, names_in, names-monotone, in-order, all-in-order}
use Rattle.core_law.proofs.Row.{IsRow}
use Rattle.core_law.proofs.Ends.{the-five}
use Rattle.core_law.proofs.Streams.{deck_parcels, loads_of, text_of, output_of, ReadsOf, Gained}
use Rattle.core_law.proofs.KeepsDevices.{text-part, prefix-longer}
use Rattle.core_law.proofs.RoundTrip.{items-given, output-text}
use Rattle.batch_procs.specs.Jobs.{Jobs, AreJobs, FilesAs, one_thread}

module _ {L : Type 0} {J : Jobs L} (jobs : AreJobs J) where
  pub part-of : (p : Process L) (part whole : List (Parcel L)) → IsRelay p → IsPrefixOf part whole → IsPrefixOf (p.sends part) (p.sends whole)
  part-of p part whole relay (rest, e) = subst (λ all. IsPrefixOf (p.sends part) (p.sends all)) e (relay.monotone part rest)

  pub read-part : (items : List Item) (deck : Option (List Item)) (read : List (Parcel L)) (ended : Bool) → is_ended read ≡ ended → ReadsOf jobs items deck read
      → IsPrefixOf read (deck_parcels jobs items)
  read-part items deck read true e r = ([], append-nil read ∙ (r.whole e).0)
  read-part items deck read false e r = (deck_parcels jobs r.left, r.parts e)

  -- all five histories ended with the work done
  abbrev pub EndDone : (ℕ → List (Entry L)) → Type 0
  EndDone histories = (p : ℕ) → IsProcess p → newest (histories p) ≡ Some (act.Ended outcome.Done)

  -- what is handed to each is a part of what the one before it puts
  abbrev pub HandOver : (ℕ → List (Entry L)) → Type 0
  HandOver histories = (b : ℕ) → IsBuffer b → IsPrefixOf (handed (taken (histories (suc b)))) (sent (histories b))

  -- The files that these items name are loaded as told files say, or none is named.
  abbrev pub AreFoundBy : FilesAs L → List Item → List (Entry L) → Type 0
  AreFoundBy found items h = AreLoadedSo found h ⊎ (J.named items ≡ [])

  -- ---- lists
  -- nothing comes behind the last
  ended-whole : (tk left st : List (Parcel L)) → tk ++ left ≡ st → NothingBehind st → is_ended tk ≡ true → tk ≡ st
  ended-whole tk left st whole stream ended =
      let none = nothing-left J tk left (subst NothingBehind (sym whole) stream) ended in
      sym (append-nil tk) ∙ ap (λ left. tk ++ left) (sym none) ∙ whole

  map-part : (found : FilesAs L) (part all : List (List ℕ)) → IsPrefixOf part all → IsPrefixOf (map found part) (map found all)
  map-part found part all (rest, e) = (map found rest, sym (map-append jobs found part rest) ∙ ap (map found) e)

  none-part : (part : List (List ℕ)) → IsPrefixOf part [] → part ≡ []
  none-part [] is = refl
  none-part (file ∷ part) (rest, e) = absurd cc

  no-loads : (found : List L) → length found ≡ 0 → found ≡ []
  no-loads [] e = refl
  no-loads (load ∷ found) e = absurd (omega (arith, e))

  pub loads-part : (found : FilesAs L) (items : List Item) (h : List (Entry L)) → Follows J (job J) h → IsPrefixOf (files_loaded h) (J.named items)
      → AreFoundBy found items h
      → IsPrefixOf (loads (taken h)) (loads_of jobs found items)
  loads-part found items h follows part (inl so) =
      subst (λ ls. IsPrefixOf ls (loads_of jobs found items)) (sym so) (map-part found (files_loaded h) (J.named items) part)
  loads-part found items h follows part (inr none) =
      let empty = none-part (files_loaded h) (subst (IsPrefixOf (files_loaded h)) none part) in
      let few = as-many jobs (job J) h follows ∙ ap length empty in
      subst (λ ls. IsPrefixOf ls (loads_of jobs found items)) (sym (no-loads (loads (taken h)) few)) (loads_of jobs found items, refl)

  -- ---- five histories of a row
  module _ {row : ℕ → Process L} (laws : IsRow jobs row) (histories : ℕ → List (Entry L)) (follows : (p : ℕ) → Follows J (row p) (histories p)) where
    done-sent : EndDone histories → (p : ℕ) → IsProcess p → (sent (histories p) ≡ (row p).sends (taken (histories p))) × (is_ended (taken (histories p)) ≡ true)
    done-sent all p is = (ended-rightly J (row p) (histories p) outcome.Done (laws.relays p) (follows p) (all p is)).done refl

    -- but the third, each takes what is handed to it and no more
    pub all-taken : (p : ℕ) → (p ≡ 3 → ⊥) → handed (taken (histories p)) ≡ taken (histories p)
    all-taken p not = takes-handed jobs (row p) (histories p) (laws.relays p) (follows p) (laws.loads p not)

    -- nothing is left of the deck
    pub reads-all : (items : List Item) (deck : Option (List Item)) → ReadsOf jobs items deck (taken (histories 1)) → EndDone histories → deck ≡ Some []
    reads-all items deck r done =
        let ended = done-sent done 1 (lit≤ tt, lit≤ tt) in
        r.left_is ∙ ap Some (r.whole ended.1).1

  -- ---- the five of the table
  module _ (histories : ℕ → List (Entry L)) (follows : (p : ℕ) → Follows J (process J p) (histories p)) (hand_over : HandOver histories) (items : List Item)
      (deck : Option (List Item)) (read : ReadsOf jobs items deck (taken (histories 1))) where
    -- ---- the prefix
    pub sent-part : (p : ℕ) → IsPrefixOf (sent (histories p)) ((process J p).sends (taken (histories p)))
    sent-part p = sent-is-part J (process J p) (histories p) ((the-five jobs).relays p) (follows p)

    -- one process further; the third takes loads too
    next-part : (b : ℕ) (all : List (Parcel L)) → IsBuffer b → (b ≡ 3 → ⊥) → IsPrefixOf (handed (taken (histories b))) all
        → IsPrefixOf (handed (taken (histories (suc b)))) ((process J b).sends all)
    next-part b all is not part =
        prefix-longer _ _ _ (hand_over b is) (prefix-longer _ _ _ (sent-part b) (part-of (process J b) (taken (histories b)) all ((the-five jobs).relays b)
        (subst (λ ps. IsPrefixOf ps all) (all-taken (the-five jobs) histories follows b not) part)))

    pub took-1 : IsPrefixOf (handed (taken (histories 1))) (deck_parcels jobs items)
    took-1 = subst (λ ps. IsPrefixOf ps (deck_parcels jobs items)) (sym (all-taken (the-five jobs) histories follows 1 (λ e. omega (arith, e))))
        (read-part items deck (taken (histories 1)) _ refl read)

    pub took-2 : IsPrefixOf (handed (taken (histories 2))) (card_sends (deck_parcels jobs items))
    took-2 = next-part 1 _ (lit≤ tt, lit≤ tt) (λ e. omega (arith, e)) took-1

    pub took-3 : IsPrefixOf (handed (taken (histories 3))) (input_sends (card_sends (deck_parcels jobs items)))
    took-3 = next-part 2 _ (lit≤ tt, lit≤ tt) (λ e. omega (arith, e)) took-2

    module _ (are : AreItems items) where
      -- The job process loads the files that the deck names, in order.
      pub loaded-part : IsPrefixOf (files_loaded (histories 3)) (J.named items)
      loaded-part =
          let (more, e) = took-3 in
          let all = input_sends (card_sends (deck_parcels jobs items)) in
          let some : IsPrefixOf (names_in jobs (handed (taken (histories 3)))) (names_in jobs all) =
          subst (λ ps. IsPrefixOf (names_in jobs (handed (taken (histories 3)))) (names_in jobs ps)) e
          (names-monotone jobs (handed (taken (histories 3))) more) in
          let same : names_in jobs (handed (taken (histories 3))) ≡ names_in jobs (taken (histories 3)) =
          ap (λ fs. J.named (Rattle.batch_procs.specs.Sends.items fs))
          (unpacked-same jobs (handed (taken (histories 3))) (taken (histories 3)) (handed-again jobs (taken (histories 3)))) in
          prefix-longer _ _ _ (in-order jobs (histories 3) (follows 3))
          (subst (λ fs. IsPrefixOf fs (J.named items)) same
          (subst (IsPrefixOf (names_in jobs (handed (taken (histories 3))))) (ap J.named (items-given jobs items are)) some))

      -- The loads of the job process are the first of these.
      module _ (found : List L) (part : IsPrefixOf (loads (taken (histories 3))) found) where
        goes_on : (more : List (Parcel L)) × (job_sends J (taken (histories 3) ++ more) ≡ job_puts jobs found
            (input_sends (card_sends (deck_parcels jobs items))))
        goes_on = job-goes_on jobs found (taken (histories 3)) (input_sends (card_sends (deck_parcels jobs items))) took-3 part

        job-part : IsPrefixOf (job_sends J (taken (histories 3))) (job_puts jobs found (input_sends (card_sends (deck_parcels jobs items))))
        job-part =
            let (more, e) = goes_on in
            subst (IsPrefixOf (job_sends J (taken (histories 3)))) e (((the-five jobs).relays 3).monotone (taken (histories 3)) more)

        pub put-3 : IsPrefixOf (sent (histories 3)) (job_puts jobs found (input_sends (card_sends (deck_parcels jobs items))))
        put-3 = prefix-longer _ _ _ (sent-part 3) job-part

        pub took-4 : IsPrefixOf (handed (taken (histories 4))) (job_puts jobs found (input_sends (card_sends (deck_parcels jobs items))))
        took-4 = prefix-longer _ _ _ (hand_over 3 (lit≤ tt, lit≤ tt)) put-3

        pub took-5 : IsPrefixOf (handed (taken (histories 5))) (output_sends (job_puts jobs found (input_sends (card_sends (deck_parcels jobs items)))))
        took-5 = next-part 4 _ (lit≤ tt, lit≤ tt) (λ e. omega (arith, e)) took-4

        printer-part : IsPrefixOf ((process J 5).sends (taken (histories 5))) (output_of jobs found (deck_parcels jobs items))
        printer-part =
            part-of (process J 5) _ _ ((the-five jobs).relays 5)
            (subst (λ ps. IsPrefixOf ps (output_sends (job_puts jobs found (input_sends (card_sends (deck_parcels jobs items))))))
            (all-taken (the-five jobs) histories follows 5 (λ e. omega (arith, e))) took-5)

        pub prints-prefix : (given : List ℕ) (paper : Option (List ℕ)) → Gained jobs given paper (process J 5).sends (histories 5)
            → (gained : List ℕ) × (paper ≡ Some (given ++ gained)) × IsPrefixOf gained (text_of jobs (output_of jobs found (deck_parcels jobs items)))
        prints-prefix given paper g =
            (g.gained, g.paper_is, prefix-longer _ _ _ g.part (text-part jobs _ _ printer-part))

    -- ---- the whole
    is-one : (b : ℕ) → IsBuffer b → IsProcess b
    is-one b is = (is.0, (let below = is.1 in omega (arith, below)))

    is-next : (b : ℕ) → IsBuffer b → IsProcess (suc b)
    is-next b is = (omega arith, (let below = is.1 in omega (arith, below)))

    module _ (done : EndDone histories) where
      -- what is handed over is all that was put
      all-over : (b : ℕ) → IsBuffer b → handed (taken (histories (suc b))) ≡ (process J b).sends (taken (histories b))
      all-over b is =
          let sent-is = (done-sent (the-five jobs) histories follows done b (is-one b is)).0 in
          let stream = subst NothingBehind (sym sent-is) (((the-five jobs).relays b).stream (taken (histories b))) in
          let (left, whole) = hand_over b is in
          ended-whole (handed (taken (histories (suc b)))) left (sent (histories b)) whole stream
          (ended-handed jobs (taken (histories (suc b))) ∙ (done-sent (the-five jobs) histories follows done (suc b) (is-next b is)).1) ∙ sent-is

      next-whole : (b : ℕ) (all : List (Parcel L)) → IsBuffer b → (b ≡ 3 → ⊥) → handed (taken (histories b)) ≡ all
          → handed (taken (histories (suc b))) ≡ (process J b).sends all
      next-whole b all is not before =
          all-over b is ∙ ap (process J b).sends (sym (all-taken (the-five jobs) histories follows b not) ∙ before)

      whole-3 : handed (taken (histories 3)) ≡ input_sends (card_sends (deck_parcels jobs items))
      whole-3 =
          let last = (done-sent (the-five jobs) histories follows done 1 (lit≤ tt, lit≤ tt)).1 in
          next-whole 2 _ (lit≤ tt, lit≤ tt) (λ e. omega (arith, e)) (next-whole 1 _ (lit≤ tt, lit≤ tt) (λ e. omega (arith, e))
          (all-taken (the-five jobs) histories follows 1 (λ e. omega (arith, e)) ∙ (read.whole last).0))

      -- and it loads all of the files
      pub loaded-all : AreItems items → files_loaded (histories 3) ≡ J.named items
      loaded-all are =
          all-in-order jobs (histories 3) (follows 3) (done 3 (lit≤ tt, lit≤ tt))
          ∙ ap (λ fs. J.named (Rattle.batch_procs.specs.Sends.items fs))
          (unpacked-same jobs (taken (histories 3)) (input_sends (card_sends (deck_parcels jobs items)))
          (sym (handed-again jobs (taken (histories 3))) ∙ ap handed whole-3)) ∙ ap J.named (items-given jobs items are)

      module _ (are : AreItems items) (found : List L) (part : IsPrefixOf (loads (taken (histories 3))) found) where
        -- the output process took the last page, so all was put
        whole-4 : handed (taken (histories 4)) ≡ job_puts jobs found (input_sends (card_sends (deck_parcels jobs items)))
        whole-4 =
            let over = all-over 3 (lit≤ tt, lit≤ tt) in
            let last = ended-handed jobs (taken (histories 4)) ∙ (done-sent (the-five jobs) histories follows done 4 (lit≤ tt, lit≤ tt)).1 in
            let (more, e) = goes_on are found part in
            let (left, whole) = job-part are found part in
            let stream = subst NothingBehind e (((the-five jobs).relays 3).stream (taken (histories 3) ++ more)) in
            over ∙ ended-whole (job_sends J (taken (histories 3))) left _ whole stream (ap is_ended (sym over) ∙ last)

        pub prints-all : (given : List ℕ) (paper : Option (List ℕ)) → Gained jobs given paper (process J 5).sends (histories 5)
            → paper ≡ Some (given ++ text_of jobs (output_of jobs found (deck_parcels jobs items)))
        prints-all given paper g =
            let printer = sym (all-taken (the-five jobs) histories follows 5 (λ e. omega (arith, e)))
            ∙ next-whole 4 _ (lit≤ tt, lit≤ tt) (λ e. omega (arith, e)) whole-4 in
            let free = done-free J (process J 5) (histories 5) (follows 5) (done 5 (lit≤ tt, lit≤ tt)) in
            g.paper_is ∙ ap (λ (text : List ℕ). Some (given ++ text)) (g.printed free
            ∙ ap (text_of jobs) ((done-sent (the-five jobs) histories follows done 5 (lit≤ tt, lit≤ tt)).0 ∙ ap (process J 5).sends printer))

  -- ---- what the paper gained
  same-rest : (front a b : List ℕ) → front ++ a ≡ front ++ b → a ≡ b
  same-rest [] a b e = e
  same-rest (x ∷ front) a b e = same-rest front a b cc

  some-same : (x y : List ℕ) → Some x ≡ Some y → x ≡ y
  some-same x y e = cc

  -- The paper gained a prefix of what one thread prints, and all of it where all are done.
  pub gains-of : (histories : ℕ → List (Entry L)) → ((p : ℕ) → Follows J (process J p) (histories p)) → HandOver histories → (items : List Item)
      (deck : Option (List Item)) (given : List ℕ) (paper : Option (List ℕ)) → AreItems items → ReadsOf jobs items deck (taken (histories 1))
      → (found : FilesAs L) → AreFoundBy found items (histories 3)
      → Gained jobs given paper (process J 5).sends (histories 5) → GainsOf given paper (text (one_thread J items found)) (EndDone histories)
  gains-of histories follows hand_over items deck given paper valid read found known g =
      let known_part = loads-part found items (histories 3) (follows 3) (loaded-part histories follows hand_over items deck read valid) known in
      let (gained, now, part) = prints-prefix histories follows hand_over items deck read valid (loads_of jobs found items) known_part given paper g in
      let out = output-text jobs items valid found in
      let (rest, whole) = part in
      record {
        part = gained;
        now_is = now;
        prefix = record { rest = rest; whole_is = whole ∙ out };
        all_is = λ done. (let all = prints-all histories follows hand_over items deck read done valid (loads_of jobs found items) known_part given paper g in
            same-rest given gained _ (some-same _ _ (sym now ∙ all)) ∙ out);
      }

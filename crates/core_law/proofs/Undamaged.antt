-- Each cause has its entry; and over told areas each page that is taken is one that was put, so none is damaged.
use Rattle.std.proofs.Common.{◌≡◌, inl, inr, ℕ, suc, ◌+◌, ◌%◌, ◌^◌, ◌≤◌, Bool, true, false, List, [], ◌∷◌, ◌++◌, length, length-append, map, Option, None, Some, refl, sym, ◌∙◌, ap, subst, append_assoc, arith}
use Rattle.std.proofs.lemmas.List.{append-nil, length-map}
use Rattle.solo_base.specs.declared.item.Item.{Item}
use Rattle.solo_base.specs.declared.item.Item.TheVariants.{Line}
use Rattle.solo_base.specs.declared.page.Page.{Page}
use Rattle.solo_base.specs.declared.outcome.Outcome.{Outcome}
use Rattle.solo_base.specs.declared.outcome.Outcome.TheVariants as outcome
use Rattle.solo_base.specs.declared.outcome.Cause.{Cause}
use Rattle.solo_base.specs.declared.outcome.Cause.TheVariants as cause
use Rattle.solo_devices.specs.declared.card_read.CardRead.TheVariants as read
use Rattle.page_codec.specs.Items.{AreItems}
use Rattle.page_codec.specs.Reading.{page_read}
use Rattle.page_codec.specs.Stream.{IsStream}
use Rattle.solo_base.specs.Prefixes.{IsPrefixOf}
use Rattle.batch_procs.specs.declared.actions.Action.{Action}
use Rattle.batch_procs.specs.declared.actions.Action.TheVariants as act
use Rattle.batch_procs.specs.declared.actions.Reply.TheVariants as reply
use Rattle.batch_procs.specs.Parcels.{Parcel, OfPage, pages, loads, handed}
use Rattle.batch_procs.specs.History.{Entry, Does, LacksMemory, Delays, taken, taken_by, newest}
use Rattle.batch_procs.specs.Causes.{fault_at, damage, place, caused}
use Rattle.batch_procs.specs.Faults.{cause_by, FaultsOf, IsDamaged}
use Rattle.batch_procs.specs.Laws.{IsNotDone}
use Rattle.batch_procs.specs.Process.{Follows}
use Rattle.batch_procs.specs.Table.{process}
use Rattle.batch_procs.proofs.Faulty.{each_cause_is_given, faults_of_the_five}
use Rattle.network_law.specs.Kept.{Stands}
use Rattle.core_law.specs.Core.{core, CoreState}
use Rattle.core_law.specs.Ends.{IsProcess, HasEndedSo, HaveCauses, outcome_by}
use Rattle.core_law.proofs.Acting.{follows-of}
use Rattle.core_law.proofs.Ends.{the-five}
use Rattle.core_law.proofs.HandedLists.{handed-append, pages-handed}
use Rattle.core_law.proofs.Passing.{HandOver, took-3, took-4}
use Rattle.core_law.proofs.Row.{each-process}
use Rattle.core_law.proofs.RoundTrip.{Packs, good, as_stream, read-back, packs, line-items, input-gives, are-lines, job-gives}
use Rattle.core_law.proofs.Streams.{ReadsOf}
use Rattle.core_law.proofs.ReadCards.{cards-read, read-so}
use Rattle.core_law.proofs.Outcomes.{ended-as}
use Rattle.batch_procs.specs.Jobs.{Jobs, AreJobs}

module _ {L : Type 0} {J : Jobs L} (jobs : AreJobs J) where
  -- ---- causes
  cause-of : (c : Option Outcome) (how : Outcome) → outcome_by c ≡ how → IsNotDone (Some how) → c ≡ Some how
  cause-of (Some c) how e not = ap Some e
  cause-of None how e not = absurd (subst (λ how. IsNotDone (Some how)) (sym e) not)

  module _ (histories : ℕ → List (Entry L)) (follows : (p : ℕ) → Follows J (process J p) (histories p)) where
    caused-so : (p : ℕ) (how : Outcome) → newest (histories p) ≡ Some (act.Ended how) → IsNotDone (Some how) → caused (histories p) ≡ Some how
    caused-so p how ended not = cause-of (caused (histories p)) how (ended-as jobs (process J p) (histories p) how ((the-five jobs).relays p)
        (follows p) ended) not

    fault-so : (Fault : Cause → Type 0) (p : ℕ) → FaultsOf J (process J p) Fault → (c : Cause) → newest (histories p) ≡ Some (act.Ended (outcome.Fault c))
        → Fault c
    fault-so Fault p faults c ended = faults (histories p) c (follows p) (caused-so p (outcome.Fault c) ended tt)

  module _ (opening s : CoreState L) (st : Stands (core J (process J)) opening s) where
    follows-row : (p : ℕ) → Follows J (process J p) (s.histories p)
    follows-row p = follows-of jobs (process J) p (s.histories p) (st.follows p)

    fault-of : (Fault : Cause → Type 0) (p : ℕ) → FaultsOf J (process J p) Fault → (c : Cause) → HasEndedSo s (outcome.Fault c) p → Fault c
    fault-of = fault-so s.histories follows-row

    pub have-causes : HaveCauses s
    have-causes = record {
      given = λ p how one ended not. each_cause_is_given J (s.histories p) how (caused-so s.histories follows-row p how ended not);
      card = fault-of _ 1 (faults_of_the_five J jobs).card;
      input = fault-of _ 2 (faults_of_the_five J jobs).input;
      job = fault-of _ 3 (faults_of_the_five J jobs).job;
      output = fault-of _ 4 (faults_of_the_five J jobs).output;
      printer = fault-of _ 5 (faults_of_the_five J jobs).printer;
    }

  -- ---- the entry that gives a damaged page
  fault-not : (a : Action) (c : Cause) → fault_at a ≡ c → IsDamaged c → ⊥
  fault-not (act.Print line) c e is = subst IsDamaged (sym e) is
  fault-not other c e is = subst IsDamaged (sym e) is

  same-fault : (a b : Cause) → Some (outcome.Fault a) ≡ Some (outcome.Fault b) → a ≡ b
  same-fault a b e = cc

  record GivesPage (entry : Entry L) (before : List (Entry L)) (c : Cause) : Type 0 where
    page : Page
    last : Bool
    took : taken (entry ∷ before) ≡ taken before ++ OfPage page last ∷ []
    damaged : damage (page_read (place before) last page) ≡ Some (outcome.Fault c)

  gives-page : (entry : Entry L) (before : List (Entry L)) (c : Cause) → cause_by entry before ≡ Some (outcome.Fault c) → IsDamaged c → GivesPage entry before c
  gives-page (Does a (reply.Page page last)) before c e is = record { page = page; last = last; took = refl; damaged = e }
  gives-page (Does a reply.Done) before c e is = absurd cc
  gives-page (Does a reply.Stopped) before c e is = absurd cc
  gives-page (Does a reply.Failed) before c e is = absurd (fault-not a c (same-fault (fault_at a) c e) is)
  gives-page (Does a reply.NoMemory) before c e is = absurd (subst IsDamaged (sym (same-fault cause.NoMemory c e)) is)
  gives-page (Does a (reply.Card (read.Card line))) before c e is = absurd cc
  gives-page (Does a (reply.Card read.Spoiled)) before c e is = absurd cc
  gives-page (Does a (reply.Card read.End)) before c e is = absurd cc
  gives-page (Does a (reply.Card read.Failed)) before c e is = absurd (subst IsDamaged (sym (same-fault cause.ReadFault c e)) is)
  gives-page (Does a (reply.Card read.Limit)) before c e is = absurd (subst IsDamaged (sym (same-fault cause.DeckLimit c e)) is)
  gives-page (Does a (reply.Feed f)) before c e is = absurd cc
  gives-page (Does a (reply.Loaded load)) before c e is = absurd cc
  gives-page (LacksMemory a r) before c e is = absurd (subst IsDamaged (sym (same-fault cause.NoMemory c e)) is)
  gives-page (Delays a) before c e is = absurd cc

  taken-later : (later : List (Entry L)) (entry : Entry L) (before : List (Entry L)) → IsPrefixOf (taken (entry ∷ before)) (taken (later ++ entry ∷ before))
  taken-later [] entry before = ([], append-nil (taken (entry ∷ before)))
  taken-later (Does a r ∷ later) entry before =
      (let (more, e) = taken-later later entry before in
      (more ++ taken_by r, sym (append_assoc (taken (entry ∷ before)) more (taken_by r)) ∙ ap (λ all. all ++ taken_by r) e))
  taken-later (LacksMemory a r ∷ later) entry before =
      (let (more, e) = taken-later later entry before in
      (more ++ taken_by r, sym (append_assoc (taken (entry ∷ before)) more (taken_by r)) ∙ ap (λ all. all ++ taken_by r) e))
  taken-later (Delays a ∷ later) entry before = taken-later later entry before

  -- ---- a page of a stream is read back
  not-none : (front rest : List (Parcel L)) (x : Parcel L) → front ++ x ∷ rest ≡ [] → ⊥
  not-none [] rest x e = cc
  not-none (y ∷ front) rest x e = cc

  abbrev page_parcel : Page → Bool → Parcel L
  page_parcel page last = OfPage page last

  same-page : (page other : Page) (last mark : Bool) → page_parcel page last ≡ OfPage other mark → (page ≡ other) × (last ≡ mark)
  same-page page other last mark e = (cc, cc)

  head-same : (x y : Parcel L) (xs ys : List (Parcel L)) → x ∷ xs ≡ y ∷ ys → x ≡ y
  head-same x y xs ys e = cc

  tail-same : (x y : Parcel L) (xs ys : List (Parcel L)) → x ∷ xs ≡ y ∷ ys → xs ≡ ys
  tail-same x y xs ys e = cc

  undamaged-here : (n : ℕ) (page other : Page) (last mark : Bool) (all : List Item) → page_parcel page last ≡ OfPage other mark
      → page_read (n % 2 ^ 16) mark other ≡ good all mark → damage (page_read ((n + 0) % 2 ^ 16) last page) ≡ None
  undamaged-here n page other last mark all e is =
      let (pages_are, marks_are) = same-page page other last mark e in
      let at : n + 0 ≡ n = omega arith in
      rw (at, pages_are, marks_are) (ap damage is)

  undamaged-at : (ps : List Page) (n : ℕ) (all : List Item) (front : List (Parcel L)) (page : Page) (last : Bool) (rest : List (Parcel L)) → IsStream n ps all
      → front ++ OfPage page last ∷ rest ≡ as_stream jobs ps → damage (page_read ((n + length front) % 2 ^ 16) last page) ≡ None
  undamaged-at [] n all front page last rest stream e = absurd stream
  undamaged-at (p ∷ []) n all [] page last rest form e =
      undamaged-here n page p last true all (head-same (OfPage page last) (OfPage p true) rest [] e) (read-back n true all p form)
  undamaged-at (p ∷ []) n all (x ∷ front) page last rest form e =
      absurd (not-none front rest (OfPage page last) (tail-same x (OfPage p true) (front ++ OfPage page last ∷ rest) [] e))
  undamaged-at (p ∷ next ∷ more) n all [] page last rest (items, left, parts, form, later) e =
      undamaged-here n page p last false items (head-same (OfPage page last) (OfPage p false) rest (as_stream jobs (next ∷ more)) e)
      (read-back n false items p form)
  undamaged-at (p ∷ next ∷ more) n all (x ∷ front) page last rest (items, left, parts, form, later) e =
      let at : n + 1 + length front ≡ n + length (x ∷ front) = omega arith in
      ap (λ m. damage (page_read (m % 2 ^ 16) last page)) (sym at)
      ∙ undamaged-at (next ∷ more) (n + 1) left front page last rest later
      (tail-same x (OfPage p false) (front ++ OfPage page last ∷ rest) (as_stream jobs (next ∷ more)) e)

  all-pages : (ps : List Page) (front rest : List (Parcel L)) → front ++ rest ≡ as_stream jobs ps → length (pages front) ≡ length front
  all-pages ps [] rest e = refl
  all-pages [] (x ∷ front) rest e = absurd cc
  all-pages (p ∷ []) (x ∷ front) rest e =
      subst (λ x. length (pages (x ∷ front)) ≡ length (x ∷ front)) (sym (head-same x (OfPage p true) (front ++ rest) [] e))
      (ap suc (all-pages [] front rest (tail-same x (OfPage p true) (front ++ rest) [] e)))
  all-pages (p ∷ next ∷ more) (x ∷ front) rest e =
      subst (λ x. length (pages (x ∷ front)) ≡ length (x ∷ front)) (sym (head-same x (OfPage p false) (front ++ rest) (as_stream jobs (next ∷ more)) e))
      (ap suc (all-pages (next ∷ more) front rest (tail-same x (OfPage p false) (front ++ rest) (as_stream jobs (next ∷ more)) e)))

  -- a history whose pages are those of a stream, or the first of them, meets none that is damaged
  no-damage : (h : List (Entry L)) (parcels : List (Parcel L)) (all : List Item) (c : Cause) → Packs jobs parcels all → IsPrefixOf (handed (taken h)) parcels
      → caused h ≡ Some (outcome.Fault c) → IsDamaged c → ⊥
  no-damage h parcels all c is (rest, part) fault damaged =
      let given = each_cause_is_given J h (outcome.Fault c) fault in
      let gives = gives-page given.entry given.before c given.gives damaged in
      let (more, later) = taken-later given.later given.entry given.before in
      let front = handed (taken given.before) in
      let behind = handed more ++ rest in
      let took : handed (taken (given.entry ∷ given.before)) ≡ front ++ OfPage gives.page gives.last ∷ [] =
      ap handed gives.took ∙ handed-append jobs (taken given.before) (OfPage gives.page gives.last ∷ []) in
      let all_of_it : handed (taken (given.entry ∷ given.before)) ++ handed more ≡ handed (taken h) =
      sym (handed-append jobs (taken (given.entry ∷ given.before)) more) ∙ ap handed (later ∙ ap taken (sym given.is)) in
      let here : front ++ OfPage gives.page gives.last ∷ behind ≡ as_stream jobs is.pages =
      sym (append_assoc front (OfPage gives.page gives.last ∷ []) behind)
      ∙ ap (λ ps. ps ++ behind) (sym took) ∙ sym (append_assoc (handed (taken (given.entry ∷ given.before))) (handed more) rest)
      ∙ ap (λ ps. ps ++ rest) all_of_it ∙ part ∙ is.same in
      let count = all-pages is.pages front (OfPage gives.page gives.last ∷ behind) here in
      let none = undamaged-at is.pages 0 all front gives.page gives.last behind is.is_stream here in
      let same = ap length (pages-handed jobs (taken given.before)) in
      let from : 0 + length front ≡ length (pages (taken given.before)) = omega (arith, count, same) in
      let at : (0 + length front) % 2 ^ 16 ≡ place given.before = ap (λ n. n % 2 ^ 16) from in
      let no : Some (outcome.Fault c) ≡ None = sym gives.damaged ∙ ap (λ n. damage (page_read n gives.last gives.page)) (sym at) ∙ none in
      cc

  -- ---- five histories side by side
  -- loads of files that aren't there
  abbrev missing : List (List ℕ) → List L
  missing files = map (λ file. J.missing) files

  as-missing : (files : List (List ℕ)) → length (missing files) ≡ length files
  as-missing files = length-map files (λ file. J.missing)

  module _ (histories : ℕ → List (Entry L)) (follows : (p : ℕ) → Follows J (process J p) (histories p)) (hand_over : HandOver jobs histories)
      (items : List Item)
      (deck : Option (List Item)) (read : ReadsOf jobs items deck (taken (histories 1))) (are : AreItems items) where
    job-undamaged : (c : Cause) → caused (histories 3) ≡ Some (outcome.Fault c) → IsDamaged c → ⊥
    job-undamaged c =
        no-damage (histories 3) _ items c (subst (λ ps. Packs jobs ps items) (sym (input-gives jobs items are)) (packs jobs items are))
        (took-3 jobs histories follows hand_over items deck read)

    -- whatever the files are loaded as that it has loaded, and as many more
    output-undamaged : (c : Cause) → caused (histories 4) ≡ Some (outcome.Fault c) → IsDamaged c → ⊥
    output-undamaged c =
        let found = loads (taken (histories 3)) in
        let more = missing (J.named items) in
        let all = found ++ more in
        let enough : length (J.named items) ≤ length all =
        (let sum = length-append found more in let many = as-missing (J.named items) in omega (arith, sum, many)) in
        let lines = J.lines items all true in
        no-damage (histories 4) _ (map Line lines) c
        (subst (λ ps. Packs jobs ps (map Line lines)) (sym (job-gives jobs items are all enough))
        (packs jobs (map Line lines) (line-items jobs lines (are-lines jobs items are all enough))))
        (took-4 jobs histories follows hand_over items deck read are all (more, refl))

    not-disk : (c : Cause) (other : Cause) → (IsDamaged other → ⊥) → c ≡ other → IsDamaged c → ⊥
    not-disk c other not e is = not (subst IsDamaged e is)

    pub none-damaged : (p : ℕ) (c : Cause) → IsProcess p → newest (histories p) ≡ Some (act.Ended (outcome.Fault c)) → IsDamaged c → ⊥
    none-damaged p c one ended damaged =
        each-process (λ p. newest (histories p) ≡ Some (act.Ended (outcome.Fault c)) → ⊥) p one
        (λ e. elim (fault-so histories follows _ 1 (faults_of_the_five J jobs).card c e) as (λ _. ⊥) [
          | inl a ↦ not-disk c cause.ReadFault (λ no. no) a damaged
          | inr a ↦ not-disk c cause.DeckLimit
              (λ no. no) a damaged
        ])
        (λ e. not-disk c cause.DiskFault (λ no. no) (fault-so histories follows _ 2 (faults_of_the_five J jobs).input c e) damaged)
        (λ e. job-undamaged c (caused-so histories follows 3 (outcome.Fault c) e tt) damaged)
        (λ e. output-undamaged c (caused-so histories follows 4 (outcome.Fault c) e tt) damaged)
        (λ e. elim (fault-so histories follows _ 5 (faults_of_the_five J jobs).printer c e) as (λ _. ⊥) [
          | inl a ↦ not-disk c cause.PrintFault (λ no. no) a damaged
          | inr a ↦ not-disk c cause.NoMemory
              (λ no. no) a damaged
        ])
        ended

  -- whatever was read of the deck
  module _ (opening s : CoreState L) (st : Stands (core J (process J)) opening s) (hand_over : HandOver jobs s.histories) where
    pub undamaged : (p : ℕ) (c : Cause) → IsProcess p → HasEndedSo s (outcome.Fault c) p → IsDamaged c → ⊥
    undamaged =
        let seen = cards-read jobs (s.histories 1) (follows-row opening s st 1) in
        none-damaged s.histories (follows-row opening s st) hand_over seen.items (Some []) (read-so jobs (taken (s.histories 1)) seen) seen.are

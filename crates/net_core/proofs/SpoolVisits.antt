-- What a put, a take and a stop at a spool are to the law.
use Rattle.std.proofs.Common.{◌≡◌, ℕ, Bool, List, [], ◌∷◌, ◌++◌, length, drop, map, Option, None, Some, refl, sym, ◌∙◌, ap, append_assoc, option_map, arith}
use Rattle.solo_base.specs.declared.page.Page.{Page}
use Rattle.solo_base.specs.declared.outcome.Side.{Side}
use Rattle.solo_base.specs.declared.outcome.Side.TheVariants.{Sender, Receiver}
use Rattle.solo_devices.specs.declared.area.Moved.{Moved}
use Rattle.solo_devices.specs.Area.{Writes, ReadsFrom}
use Rattle.disk_spool.specs.Ring.{Ring, next_place, with_page, without_first}
use Rattle.disk_spool.specs.Spool as spool
use Rattle.disk_spool.specs.Spool.{Received, received_page, received_mark, mark, pages_inside, sent_with, taken_with, after_put, after_take, AnswersFirst, moved}
use Rattle.disk_spool.specs.declared.answers.Fetched.{Fetched}
use Rattle.batch_procs.specs.declared.actions.Action.TheVariants as act
use Rattle.batch_procs.specs.declared.actions.Reply.TheVariants as reply
use Rattle.batch_procs.specs.Parcels.{Parcel, OfPage, is_last}
use Rattle.network_law.specs.Acts.{Moves, Stops}
use Rattle.network_law.specs.Buffer.{Buffer, after_stop, moved_through}
use Rattle.net_core.specs.Calls.{Visited}
use Rattle.net_core.specs.Spools.{told_inside, spool_buffer, SpoolStands}
use Rattle.batch_procs.specs.Jobs.{Jobs, AreJobs}
use Rattle.batch_ends.specs.Spools.{page_parcel}

-- ---- lists
same-behind : {X : Type 0} (front a b : List X) → front ++ a ≡ front ++ b → a ≡ b
same-behind [] a b e = e
same-behind (x ∷ front) a b e = same-behind front a b cc

-- fronts of the same length
same-rest : {X : Type 0} (one two a b : List X) → length one ≡ length two → one ++ a ≡ two ++ b → a ≡ b
same-rest [] [] a b n e = e
same-rest [] (y ∷ two) a b n e = absurd (omega (arith, n))
same-rest (x ∷ one) [] a b n e = absurd (omega (arith, n))
same-rest (x ∷ one) (y ∷ two) a b n e = same-rest one two a b (omega (arith, n)) cc

map-more : {X Y : Type 0} (f : X → Y) (xs ys : List X) → map f (xs ++ ys) ≡ map f xs ++ map f ys
map-more f [] ys = refl
map-more f (x ∷ xs) ys = ap (λ rest. f x ∷ rest) (map-more f xs ys)

same-lengths : (taken : List Received) → length (map received_mark taken) ≡ length (map mark (map received_page taken))
same-lengths [] = refl
same-lengths (x ∷ taken) = let rest = same-lengths taken in omega (arith, rest)

-- ---- the pages inside
-- by what was taken, before and after a put
put-inside : (taken : List Received) (old new sent : List (List ℕ)) (page : List ℕ) → map received_page taken ++ old ≡ sent
    → map received_page taken ++ new ≡ sent ++ page ∷ [] → new ≡ old ++ page ∷ []
put-inside taken old new sent page before now =
    same-behind (map received_page taken) new (old ++ page ∷ []) (now ∙ ap (λ all. all ++ page ∷ []) (sym before)
    ∙ append_assoc (map received_page taken) old (page ∷ []))

-- and a take
take-inside : (taken : List Received) (old new sent : List (List ℕ)) (got : Received) → map received_page taken ++ old ≡ sent
    → map received_page (taken ++ got ∷ []) ++ new ≡ sent → old ≡ received_page got ∷ new
take-inside taken old new sent got before now =
    same-behind (map received_page taken) old (received_page got ∷ new)
    (before ∙ sym now ∙ ap (λ all. all ++ new) (map-more received_page taken (got ∷ [])) ∙ append_assoc (map received_page taken) (received_page got ∷ []) new)

-- the mark that a take answers is that of the page that it gives
take-mark : (taken : List Received) (marks : List Bool) (old new sent : List (List ℕ)) (got : Received) → map received_mark taken ++ marks ≡ map mark sent
    → marks ≡ received_mark got ∷ drop 1 marks
    → map received_page taken ++ old ≡ sent → old ≡ received_page got ∷ new → mark (received_page got) ≡ received_mark got
take-mark taken marks old new sent got in_order first before is =
    let all : map received_mark taken ++ marks ≡ map mark (map received_page taken) ++ map mark (received_page got ∷ new) =
    in_order ∙ ap (map mark) (sym before ∙ ap (λ inside. map received_page taken ++ inside) is)
    ∙ map-more mark (map received_page taken) (received_page got ∷ new) in
    let same = same-rest (map received_mark taken) (map mark (map received_page taken)) marks (map mark (received_page got ∷ new)) (same-lengths taken) all in
    let heads : received_mark got ∷ drop 1 marks ≡ mark (received_page got) ∷ map mark new = sym first ∙ same in
    cc

module _ {L : Type 0} {J : Jobs L} (jobs : AreJobs J) where
  module _ {A : Type 0} (told_by : A → Option (List (List ℕ))) (s new : spool.Spool A) where
    -- ---- a stop
    pub stop-visited : (p n : ℕ) (side : Side) → new ≡ spool.after_stop s side
        → ((sent : List (List ℕ)) (taken : List Received) (stops : List Side) → spool.StandsFor told_by sent taken stops s
        → spool.StandsFor told_by sent taken (stops ++ side ∷ []) new)
        → Visited J (SpoolStands told_by) s new side Stops p (act.Stop n) (Some reply.Done)
    stop-visited p n side e history = record {
      suits = tt;
      fits = λ b st. refl;
      after = λ b st. record {
        is = rw e (ap (after_stop side) st.is);
        sent = st.sent;
        taken = st.taken;
        stops = st.stops ++ side ∷ [];
        history = history st.sent st.taken st.stops st.history;
      };
    }

    -- ---- a put
    pub put-told : (before now : Option (List (List ℕ))) (n : ℕ) (page : List ℕ) (ring ring' : Ring) (sent : List (List ℕ)) (taken : List Received)
        → Writes before now n Moved.Done page
        → ((all : List (List ℕ)) → before ≡ Some all → map received_page taken ++ pages_inside all ring ≡ sent)
        → ((all : List (List ℕ)) → now ≡ Some all → map received_page taken ++ pages_inside all ring' ≡ sent ++ page ∷ [])
        → option_map (λ inside. inside ++ page_parcel page ∷ []) (told_inside {L = L} before ring) ≡ told_inside now ring'
    put-told None now n page ring ring' sent taken w old after = rw (w.untold refl) refl
    put-told (Some all) now n page ring ring' sent taken w old after =
        let now_is = w.told all refl in
        let inside = put-inside taken (pages_inside all ring) (pages_inside _ ring') sent page (old all refl) (after _ now_is) in
        rw now_is (ap Some (sym (ap (map page_parcel) inside ∙ map-more page_parcel (pages_inside all ring) (page ∷ []))))

    pub put-visited : (p : ℕ) (page : Page) → new ≡ after_put s new.area (mark page.0) Moved.Done
        → Writes (told_by s.area) (told_by new.area) (next_place s.ring) Moved.Done page.0
        → ((sent : List (List ℕ)) (taken : List Received) (stops : List Side) → spool.StandsFor told_by sent taken stops s
        → spool.StandsFor told_by (sent ++ page.0 ∷ []) taken stops new)
        → Visited J (SpoolStands told_by) s new Sender Moves p (act.PutPage page) (Some reply.Done)
    put-visited p page e w history = record {
      suits = tt;
      fits = λ b st. tt;
      after = λ b st.
          (let stands = history st.sent st.taken st.stops st.history in
          let ring_is : new.ring ≡ with_page s.ring (mark page.0) = ap (λ (s : spool.Spool A). s.ring) e in
          let told = put-told (told_by s.area) (told_by new.area) (next_place s.ring) page.0 s.ring new.ring st.sent st.taken w st.history.pages stands.pages in
          record {
            is = ap (moved_through is_last Sender (page_parcel page.0)) st.is
                ∙ ap (λ inside. record (moved_through is_last Sender (page_parcel page.0) (spool_buffer told_by s b.stops)) {
                  inside =
                      inside;
                }) (told ∙ ap (told_inside (told_by new.area)) ring_is)
                ∙ ap (λ new. spool_buffer told_by new b.stops) (sym e);
            sent = st.sent ++ page.0 ∷ [];
            taken = st.taken;
            stops = st.stops;
            history = stands;
          });
    }

    -- a write that failed leaves what is inside
    pub failed-told : (before now : Option (List (List ℕ))) (n : ℕ) (page : List ℕ) (ring : Ring) (sent : List (List ℕ)) (taken : List Received)
        → Writes before now n Moved.Failed page
        → ((all : List (List ℕ)) → before ≡ Some all → map received_page taken ++ pages_inside all ring ≡ sent)
        → ((all : List (List ℕ)) → now ≡ Some all → map received_page taken ++ pages_inside all ring ≡ sent)
        → told_inside {L = L} before ring ≡ told_inside now ring
    failed-told None now n page ring sent taken w old after = rw (w.untold refl) refl
    failed-told (Some all) now n page ring sent taken w old after =
        let wrote = w.told all refl in
        let inside = same-behind (map received_page taken) (pages_inside all ring) (pages_inside wrote.0 ring) (old all refl ∙ sym (after wrote.0 wrote.1)) in
        rw wrote.1 (ap (λ inside. Some (map page_parcel inside)) inside)

    pub put-failed : (p : ℕ) (page : Page) → new ≡ after_put s new.area (mark page.0) Moved.Failed
        → Writes (told_by s.area) (told_by new.area) (next_place s.ring) Moved.Failed page.0
        → ((sent : List (List ℕ)) (taken : List Received) (stops : List Side) → spool.StandsFor told_by sent taken stops s
        → spool.StandsFor told_by sent taken stops new)
        → Visited J (SpoolStands told_by) s new Sender Moves p (act.PutPage page) (Some reply.Failed)
    put-failed p page e w history = record {
      suits = tt;
      fits = λ b st. tt;
      after = λ b st.
          (let stands = history st.sent st.taken st.stops st.history in
          let ring_is : new.ring ≡ s.ring = ap (λ (s : spool.Spool A). s.ring) e in
          let told = failed-told (told_by s.area) (told_by new.area) (next_place s.ring) page.0 s.ring st.sent st.taken w st.history.pages
          (λ all is. ap (λ ring. map received_page st.taken ++ pages_inside all ring) (sym ring_is) ∙ stands.pages all is) in
          record {
            is = st.is ∙ ap (λ inside. record (spool_buffer told_by s b.stops) { inside = inside }) told ∙ ap (λ new. spool_buffer told_by new b.stops) (sym e);
            sent = st.sent;
            taken = st.taken;
            stops = st.stops;
            history = stands;
          });
    }

    -- ---- a take
    pub take-told : (before now : Option (List (List ℕ))) (ring ring' : Ring) (marks : List Bool) (sent : List (List ℕ)) (taken : List Received)
        (got : Received)
        → now ≡ before
        → map received_mark taken ++ marks ≡ map mark sent → marks ≡ received_mark got ∷ drop 1 marks
        → ((all : List (List ℕ)) → before ≡ Some all → map received_page taken ++ pages_inside all ring ≡ sent)
        → ((all : List (List ℕ)) → now ≡ Some all → map received_page (taken ++ got ∷ []) ++ pages_inside all ring' ≡ sent)
        → (option_map (drop 1) (told_inside {L = L} before ring) ≡ told_inside now ring')
        × ((inside : List (Parcel L)) → told_inside before ring ≡ Some inside → inside ≡ OfPage record { 0 = got.page } got.last ∷ drop 1 inside)
    take-told None now ring ring' marks sent taken got left in_order first old after = (rw left refl, λ inside e. absurd cc)
    take-told (Some all) now ring ring' marks sent taken got left in_order first old after =
        let is = take-inside taken (pages_inside all ring) (pages_inside all ring') sent got (old all refl) (after all left) in
        let marked = take-mark taken marks (pages_inside all ring) (pages_inside all ring') sent got in_order first (old all refl) is in (
          rw left (ap (λ pages. Some (drop 1 (map page_parcel pages))) is),
          λ inside e. (let same : map page_parcel (pages_inside all ring) ≡ inside = cc in
              let cut : inside ≡ page_parcel got.page ∷ map page_parcel (pages_inside all ring') = sym same ∙ ap (map page_parcel) is in
              cut ∙ ap (λ rest. page_parcel got.page ∷ rest) (sym (ap (drop 1) cut)) ∙ ap (λ last. OfPage record { 0 = got.page } last ∷ drop 1 inside) marked),
        )

    pub take-visited : (p : ℕ) (page : Page) (last : Bool) → new ≡ after_take s new.area (Fetched.Done last)
        → ReadsFrom (told_by s.area) (told_by new.area) s.ring.first Moved.Done page.0 → AnswersFirst s.ring.marks (Fetched.Done last)
        → ((sent : List (List ℕ)) (taken : List Received) (stops : List Side) → spool.StandsFor told_by sent taken stops s
        → spool.StandsFor told_by sent (taken ++ record { page = page.0; last = last } ∷ []) stops new)
        → Visited J (SpoolStands told_by) s new Receiver Moves p act.TakePage (Some (reply.Page page last))
    take-visited p page last e r first history =
        let got : Received = record { page = page.0; last = last } in
        let ring_is : new.ring ≡ without_first s.ring = ap (λ (s : spool.Spool A). s.ring) e in
        let told = λ (b : Buffer (Parcel L)) (st : SpoolStands told_by s b).
        take-told (told_by s.area) (told_by new.area) s.ring new.ring s.ring.marks st.sent st.taken got r.left st.history.marks.in_order first st.history.pages
        (history st.sent st.taken st.stops st.history).pages in
        record {
          suits = tt;
          fits = λ b st. record {
            marked = ap (λ (b : Buffer (Parcel L)). b.marks) st.is ∙ first ∙ ap (λ (b : Buffer (Parcel L)). last ∷ drop 1 b.marks) (sym st.is);
            told = λ inside is. (told b st).1 inside (ap (λ (b : Buffer (Parcel L)). b.inside) (sym st.is) ∙ is);
          };
          after = λ b st. record {
            is = ap (moved_through is_last Receiver (OfPage page last)) st.is
                ∙ ap (λ inside. record (moved_through is_last Receiver (OfPage page last) (spool_buffer told_by s b.stops)) {
                  inside =
                      inside;
                }) ((told b st).0 ∙ ap (told_inside (told_by new.area)) ring_is)
                ∙ ap (λ new. spool_buffer told_by new b.stops) (sym e);
            sent = st.sent;
            taken = st.taken ++ got ∷ [];
            stops = st.stops;
            history = history st.sent st.taken st.stops st.history;
          };
        }

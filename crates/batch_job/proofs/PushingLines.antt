-- Lines that are pushed one after another.
use Rattle.std.proofs.Common.{◌≡◌, ℕ, ◌+◌, drop, arith, Bool, true, false, not, subst, List, [], ◌∷◌, ◌++◌, Option, Some, None, length, option_to_list, refl, sym, ◌∙◌, ap, append_assoc}
use Rattle.std.proofs.lemmas.List.{append-nil}
use Rattle.solo_base.specs.declared.item.Item.{Item}
use Rattle.solo_base.specs.declared.item.Item.TheVariants.{Line}
use Rattle.solo_base.specs.declared.page.Page.{Page}
use Rattle.page_codec.specs.Packing.{PageInHand, page_given, hand_after}
use Rattle.batch_job.proofs.LinesSoFar.{from-start}
use Rattle.batch_job.proofs.Account.{gives-none}
use Rattle.page_codec.specs.Reading.{PageContent}
use Rattle.disk_contents.specs.declared.loading.Loaded.{Loaded}
use Rattle.batch_job.specs.Loads.{Loading, first_of, files_named}
use Rattle.batch_job.specs.LinesSoFar.{lines_so_far}
use Rattle.batch_job.specs.LinesAhead.{Where, Outside, lines_ahead}
use Rattle.page_codec.specs.Pushes.{pages_given, hand_behind, IsGivenLast}
use Rattle.batch_job.specs.JobStream.{new_stream, stream_of, fed, with_load, AreWanted, end_of, made_of, IsTold, Stream, Account, IsAccount, Passes, StandsBy, StandsFor, Gives, IsSpent, ahead, goes_on, Packs, PacksMade, Pushing, Rests, Resting, StandsStill}
use Rattle.batch_job.specs.declared.lines_ahead.End.{End}
use Rattle.batch_job.specs.declared.lines_ahead.LinesAhead.{LinesAhead}
use Rattle.batch_job.specs.declared.lines_ahead.End.TheVariants as end

-- ---- the packer
pub hand_behind-more : (hand : PageInHand) (lines : List (List ℕ)) (line : List ℕ)
    → hand_behind hand (lines ++ line ∷ []) ≡ hand_after (hand_behind hand lines) (Line line)
hand_behind-more hand [] line = refl
hand_behind-more hand (first ∷ lines) line = hand_behind-more (hand_after hand (Line first)) lines line

pub pages_given-more : (hand : PageInHand) (lines : List (List ℕ)) (line : List ℕ)
    → pages_given hand (lines ++ line ∷ []) ≡ pages_given hand lines ++ option_to_list (page_given (hand_behind hand lines) (Line line))
pages_given-more hand [] line = append-nil (option_to_list (page_given hand (Line line)))
pages_given-more hand (first ∷ lines) line =
    ap (λ ps. option_to_list (page_given hand (Line first)) ++ ps) (pages_given-more (hand_after hand (Line first)) lines line)
    ∙ sym (append_assoc (option_to_list (page_given hand (Line first))) (pages_given (hand_after hand (Line first)) lines)
    (option_to_list (page_given (hand_behind hand (first ∷ lines)) (Line line))))

no-page : (given : Option Page) (rest : List Page) → option_to_list given ++ rest ≡ [] → given ≡ None
no-page None rest e = refl
no-page (Some page) rest e = absurd cc

no-rest : (given : Option Page) (rest : List Page) → option_to_list given ++ rest ≡ [] → rest ≡ []
no-rest None rest e = e
no-rest (Some page) rest e = absurd cc

pub given-last : (hand : PageInHand) (lines : List (List ℕ)) (line : List ℕ) (page : Page) → pages_given hand lines ≡ []
    → page_given (hand_behind hand lines) (Line line) ≡ Some page → IsGivenLast hand (lines ++ line ∷ [])
given-last hand [] line page none is = λ not. (let both = sym is ∙ not in cc)
given-last hand (first ∷ []) line page none is = (no-page _ _ none, λ not. (let both = sym is ∙ not in cc))
given-last hand (first ∷ next ∷ lines) line page none is =
    (no-page _ _ none, given-last (hand_after hand (Line first)) (next ∷ lines) line page (no-rest _ _ none) is)

-- ---- the stream
stands-by : (before now : End) (old new : Account) (lines : List (List ℕ)) → goes_on now ≡ goes_on before
    → ((more : List Item) (later : List Loaded) (ended : Bool) → ahead old more later ended ≡ lines ++ ahead new more later ended) →
    (items : List Item) (loads : List Loaded) (so_far : List (List ℕ)) → StandsBy before old items loads so_far
    → StandsBy now new items loads (so_far ++ lines)
stands-by end.NotYet end.NotYet old new lines same given items loads so_far s =
    λ more later ended. s more later ended ∙ ap (λ ls. so_far ++ ls) (given more later ended) ∙ sym (append_assoc so_far lines (ahead new more later ended))
stands-by end.Due end.Due old new lines same given items loads so_far s =
    λ later. s later ∙ ap (λ ls. so_far ++ ls) (given [] later true) ∙ sym (append_assoc so_far lines (ahead new [] later true))
stands-by end.Due end.Told old new lines same given items loads so_far s =
    λ later. s later ∙ ap (λ ls. so_far ++ ls) (given [] later true) ∙ sym (append_assoc so_far lines (ahead new [] later true))
stands-by end.Told end.Due old new lines same given items loads so_far s =
    λ later. s later ∙ ap (λ ls. so_far ++ ls) (given [] later true) ∙ sym (append_assoc so_far lines (ahead new [] later true))
stands-by end.Told end.Told old new lines same given items loads so_far s =
    λ later. s later ∙ ap (λ ls. so_far ++ ls) (given [] later true) ∙ sym (append_assoc so_far lines (ahead new [] later true))
stands-by end.NotYet end.Due old new lines same given items loads so_far s = absurd cc
stands-by end.NotYet end.Told old new lines same given items loads so_far s = absurd cc
stands-by end.Due end.NotYet old new lines same given items loads so_far s = absurd cc
stands-by end.Told end.NotYet old new lines same given items loads so_far s = absurd cc

pub passes-on : (before old new : Stream) (lines given : List (List ℕ)) → Gives before old lines → goes_on new.end ≡ goes_on old.end
    → ((a : Account) → IsAccount old a → Passes a new given) → Gives before new (lines ++ given)
passes-on before old new lines given gives same passes items loads so_far s =
    let got = gives items loads so_far s in
    let next = passes got.account got.is in
    let kept : goes_on next.then_is.end ≡ goes_on got.account.end = ap goes_on (sym next.is.end) ∙ same ∙ ap goes_on got.is.end in
    record {
      account = next.then_is;
      is = next.is;
      by = subst (λ ls. StandsBy next.then_is.end next.then_is items loads ls) (append_assoc so_far lines given)
          (stands-by got.account.end next.then_is.end got.account next.then_is given kept next.gives items loads (so_far ++ lines) got.by);
    }

-- ---- both
pub pushed-on : (before old new : Stream) (hand middle then_hand : PageInHand) (line : List ℕ) → Pushing before hand old middle
    → goes_on new.end ≡ goes_on old.end → new.wanted ≡ old.wanted → ((a : Account) → IsAccount old a → Passes a new (line ∷ [])) →
    page_given middle (Line line) ≡ None → then_hand ≡ hand_after middle (Line line) → Pushing before hand new then_hand
pushed-on before old new hand middle then_hand line so_far same wanted given none after = record {
  lines = so_far.lines ++ line ∷ [];
  pushed =
      pages_given-more hand so_far.lines line ∙ ap (λ ps. ps ++ option_to_list (page_given (hand_behind hand so_far.lines) (Line line))) so_far.pushed
      ∙ ap (λ h. option_to_list (page_given h (Line line))) (sym so_far.in_hand) ∙ ap option_to_list none;
  in_hand = after ∙ ap (λ h. hand_after h (Line line)) so_far.in_hand ∙ sym (hand_behind-more hand so_far.lines line);
  gives = passes-on before old new so_far.lines (line ∷ []) so_far.gives same given;
  same_end = same ∙ so_far.same_end;
  same_wanted = wanted ∙ so_far.same_wanted;
}

pub pushed-page : (before old new : Stream) (hand middle then_hand : PageInHand) (line : List ℕ) (page : Page) → Pushing before hand old middle
    → goes_on new.end ≡ goes_on old.end → new.wanted ≡ old.wanted → ((a : Account) → IsAccount old a → Passes a new (line ∷ [])) →
    page_given middle (Line line) ≡ Some page → then_hand ≡ hand_after middle (Line line) → Packs before hand (Some page) new then_hand
pushed-page before old new hand middle then_hand line page so_far same wanted given is after = record {
  lines = so_far.lines ++ line ∷ [];
  pushed = (
    pages_given-more hand so_far.lines line ∙ ap (λ ps. ps ++ option_to_list (page_given (hand_behind hand so_far.lines) (Line line))) so_far.pushed
        ∙ ap (λ h. option_to_list (page_given h (Line line))) (sym so_far.in_hand) ∙ ap option_to_list is,
    given-last hand so_far.lines line page so_far.pushed (ap (λ h. page_given h (Line line)) (sym so_far.in_hand) ∙ is),
  );
  in_hand = after ∙ ap (λ h. hand_after h (Line line)) so_far.in_hand ∙ sym (hand_behind-more hand so_far.lines line);
  gives = passes-on before old new so_far.lines (line ∷ []) so_far.gives same given;
  all = λ none. absurd cc;
  told = λ none. absurd cc;
  same_end = same ∙ so_far.same_end;
  same_wanted = wanted ∙ so_far.same_wanted;
}

pub pushed-due : (before old new : Stream) (hand middle then_hand : PageInHand) (line : List ℕ) (due : Option Page)
    → Rattle.std.specs.Option.is_some due ≡ true → Pushing before hand old middle
    → goes_on new.end ≡ goes_on old.end → new.wanted ≡ old.wanted → ((a : Account) → IsAccount old a → Passes a new (line ∷ [])) →
    page_given middle (Line line) ≡ due → then_hand ≡ hand_after middle (Line line) → PacksMade before hand due new then_hand
pushed-due before old new hand middle then_hand line None there so_far same wanted given is after = absurd cc
pushed-due before old new hand middle then_hand line (Some page) there so_far same wanted given is after =
    pushed-page before old new hand middle then_hand line page so_far same wanted given is after

pub packs-due : (before after : Stream) (hand then_hand : PageInHand) (due : Option Page) → Rattle.std.specs.Option.is_some due ≡ true
    → PacksMade before hand due after then_hand → Packs before hand due after then_hand
packs-due before after hand then_hand None there packs = absurd cc
packs-due before after hand then_hand (Some page) there packs = packs

-- nothing is pushed before the first line, nor while an item's lines are made
pub begins : (stream : Stream) (hand : PageInHand) → Pushing stream hand stream hand
begins stream hand = record {
  lines = [];
  pushed = refl;
  in_hand = refl;
  gives = λ items loads so_far s. subst (λ ls. StandsFor stream items loads ls) (sym (append-nil so_far)) s;
  same_end = refl;
  same_wanted = refl;
}

pub makes-on : (before old new : Stream) (hand then_hand : PageInHand) → Pushing before hand old then_hand → goes_on new.end ≡ goes_on old.end
    → new.wanted ≡ old.wanted → ((a : Account) → IsAccount old a → Passes a new []) → Pushing before hand new then_hand
makes-on before old new hand then_hand so_far same wanted passes = record {
  lines = so_far.lines;
  pushed = so_far.pushed;
  in_hand = so_far.in_hand;
  gives = subst (Gives before new) (append-nil so_far.lines) (passes-on before old new so_far.lines [] so_far.gives same passes);
  same_end = same ∙ so_far.same_end;
  same_wanted = wanted ∙ so_far.same_wanted;
}

pub rests-on : (before old new : Stream) (hand then_hand : PageInHand) → Pushing before hand old then_hand → goes_on new.end ≡ goes_on old.end
    → new.wanted ≡ old.wanted → ((a : Account) → IsAccount old a → Rests a new) → Resting before hand new then_hand
rests-on before old new hand then_hand so_far same wanted rests = record {
  pushing = record {
    lines = so_far.lines;
    pushed = so_far.pushed;
    in_hand = so_far.in_hand;
    gives = λ items loads pushed s. (still items loads pushed s).stands;
    same_end = same ∙ so_far.same_end;
    same_wanted = wanted ∙ so_far.same_wanted;
  };
  still = still;
}
  where
    still : (items : List Item) (loads : List Loaded) (pushed : List (List ℕ)) → StandsFor before items loads pushed
        → StandsStill new items loads (pushed ++ so_far.lines)
    still items loads pushed s =
        let got = so_far.gives items loads pushed s in
        let next = rests got.account got.is in
        let kept : goes_on next.passes.then_is.end ≡ goes_on got.account.end = ap goes_on (sym next.passes.is.end) ∙ same ∙ ap goes_on got.is.end in
        record {
          stands = record {
            account = next.passes.then_is;
            is = next.passes.is;
            by = subst (λ ls. StandsBy next.passes.then_is.end next.passes.then_is items loads ls) (append-nil (pushed ++ so_far.lines))
                (stands-by got.account.end next.passes.then_is.end got.account next.passes.then_is [] kept next.passes.gives items loads
                (pushed ++ so_far.lines) got.by);
          };
          waiting = next.waiting;
          place = next.place;
        }

-- ---- from the beginning to the end
pub stands-new : StandsFor new_stream [] [] []
stands-new = record {
  account = record { place = Outside 0; waiting = []; left = []; loads = []; end = end.NotYet };
  is = record {
    part = refl;
    waiting = record { rest = []; ending = gives-none; all_are = refl };
    left = refl;
    loads = refl;
    end = refl;
    wanted = record { found = []; all = refl; as_many = refl };
  };
  by = λ more later ended. from-start more later ended;
}

-- an account whose items are used up, and that goes on, gives the lines of what follows alone
abbrev GivesNext : Account → List Item → List Loaded → List (List ℕ) → Type 0
GivesNext old items loads pushed =
    (more : List Item) (later : List Loaded) (ended : Bool)
    → lines_so_far (items ++ more) (loads ++ later) ended ≡ pushed ++ lines_ahead old.place more later ended

-- where no items are left, no loads are
no-names : (found wanted : List (List ℕ)) → [] ≡ found ++ wanted → found ≡ []
no-names [] wanted is = refl
no-names (file ∷ found) wanted is = absurd cc

no-loads : (loads : List Loaded) → 0 ≡ length loads → loads ≡ []
no-loads [] is = refl
no-loads (load ∷ loads) is = absurd cc

none-left : (left : List Item) (loads : List Loaded) (wanted : List (List ℕ)) → left ≡ [] → AreWanted left loads wanted → loads ≡ []
none-left left loads wanted nothing are =
    let found : are.found ≡ [] = no-names are.found wanted (ap files_named (sym nothing) ∙ are.all) in
    no-loads loads (ap length (sym found) ∙ are.as_many)

spent-gives : (a : Account) (items : List Item) (loads : List Loaded) (pushed : List (List ℕ)) → a.waiting ≡ [] → a.left ≡ [] → a.loads ≡ []
    → a.end ≡ end.NotYet → StandsBy a.end a items loads pushed → GivesNext a items loads pushed
spent-gives a items loads pushed none nothing no_load goes s =
    let going : Account = record { place = a.place; waiting = a.waiting; left = a.left; loads = a.loads; end = end.NotYet } in
    let stands : StandsBy end.NotYet going items loads pushed =
    subst (λ e. StandsBy e (record { place = a.place; waiting = a.waiting; left = a.left; loads = a.loads; end = e }) items loads pushed) goes s in
    λ more later ended. stands more later ended
    ∙ ap (λ ls. pushed ++ (ls ++ lines_ahead a.place (a.left ++ more) (a.loads ++ later) ended)) none
    ∙ ap (λ xs. pushed ++ lines_ahead a.place (xs ++ more) (a.loads ++ later) ended) nothing
    ∙ ap (λ l. pushed ++ lines_ahead a.place more (l ++ later) ended) no_load

fed-by : (last : Bool) (a : Account) (next items : List Item) (loads : List Loaded) (pushed : List (List ℕ)) → a.waiting ≡ []
    → GivesNext a items loads pushed
    → StandsBy (end_of last) (record { place = a.place; waiting = a.waiting; left = next; loads = []; end = end_of last }) (items ++ next) loads pushed
fed-by true a next items loads pushed none given =
    λ later. given next later true ∙ ap (λ ls. pushed ++ (ls ++ lines_ahead a.place next later true)) (sym none)
fed-by false a next items loads pushed none given =
    λ more later ended. ap (λ all. lines_so_far all (loads ++ later) ended) (append_assoc items next more) ∙ given (next ++ more) later ended
    ∙ ap (λ ls. pushed ++ (ls ++ lines_ahead a.place (next ++ more) later ended)) (sym none)

pub stands-fed : (old : Stream) (content : PageContent) (items : List Item) (loads : List Loaded) (pushed : List (List ℕ)) → IsSpent old
    → old.end ≡ end.NotYet
    → StandsFor old items loads pushed → StandsFor (fed old content) (items ++ content.items) loads pushed
stands-fed old content items loads pushed (none, told) goes_on s =
    let a = s.account in
    let left : old.left ≡ [] = subst (λ e. IsTold e old.left) goes_on told in
    let nothing : a.left ≡ [] = sym s.is.left ∙ left in
    let waiting = none.waiting a.waiting s.is.waiting in
    record {
      account = record { place = a.place; waiting = a.waiting; left = content.items; loads = []; end = end_of content.last };
      is = record {
        part = s.is.part;
        waiting = s.is.waiting;
        left = refl;
        loads = refl;
        end = refl;
        wanted = record { found = []; all = refl; as_many = refl };
      };
      by = fed-by content.last a content.items items loads pushed waiting
          (spent-gives a items loads pushed waiting nothing (none-left a.left a.loads old.wanted nothing s.is.wanted) (sym s.is.end ∙ goes_on) s.by);
    }

-- ---- a load that is given
pub none-first : (wanted : List (List ℕ)) → first_of wanted ≡ None → wanted ≡ []
none-first [] e = refl
none-first (file ∷ later) e = absurd cc

load-more : (loads later : List Loaded) (load : Loaded) → (loads ++ load ∷ []) ++ later ≡ loads ++ (load ∷ later)
load-more loads later load = append_assoc loads (load ∷ []) later

loaded-by : (now : End) (place : Where) (waiting : List (List ℕ)) (left items : List Item) (own loads : List Loaded)
    (load : Loaded) (pushed : List (List ℕ))
    → StandsBy now (record { place = place; waiting = waiting; left = left; loads = own; end = now }) items loads pushed
    → StandsBy now (record { place = place; waiting = waiting; left = left; loads = own ++ load ∷ []; end = now }) items (loads ++ load ∷ []) pushed
loaded-by end.NotYet place waiting left items own loads load pushed s =
    λ more later ended. ap (λ l. lines_so_far (items ++ more) l ended) (load-more loads later load)
    ∙ s more (load ∷ later) ended
    ∙ ap (λ l. pushed ++ (waiting ++ lines_ahead place (left ++ more) l ended)) (sym (load-more own later load))
loaded-by end.Due place waiting left items own loads load pushed s =
    λ later. ap (λ l. lines_so_far items l true) (load-more loads later load)
    ∙ s (load ∷ later)
    ∙ ap (λ l. pushed ++ (waiting ++ lines_ahead place left l true)) (sym (load-more own later load))
loaded-by end.Told place waiting left items own loads load pushed s =
    λ later. ap (λ l. lines_so_far items l true) (load-more loads later load) ∙ s (load ∷ later)

length-more : {X : Type 0} (xs : List X) (x : X) → length (xs ++ x ∷ []) ≡ length xs + 1
length-more [] x = refl
length-more (y ∷ xs) x = (let more = length-more xs x in omega (arith, more))

wanted-less : (left : List Item) (own : List Loaded) (load : Loaded) (file : List ℕ) (later : List (List ℕ)) → AreWanted left own (file ∷ later)
    → AreWanted left (own ++ load ∷ []) later
wanted-less left own load file later are = record {
  found = are.found ++ file ∷ [];
  all = are.all ∙ sym (append_assoc are.found (file ∷ []) later);
  as_many = length-more are.found file ∙ ap (λ n. n + 1) are.as_many ∙ sym (length-more own load);
}

pub stands-loaded : (old : Stream) (load : Loaded) (file : List ℕ) (later : List (List ℕ)) → old.wanted ≡ file ∷ later
    → (items : List Item) (loads : List Loaded) (pushed : List (List ℕ)) → StandsFor old items loads pushed
    → StandsFor (with_load old load) items (loads ++ load ∷ []) pushed
stands-loaded old load file later wants items loads pushed s =
    let a = s.account in
    record {
      account = record { place = a.place; waiting = a.waiting; left = a.left; loads = a.loads ++ load ∷ []; end = a.end };
      is = record {
        part = s.is.part;
        waiting = s.is.waiting;
        left = s.is.left;
        loads = ap (λ l. l ++ load ∷ []) s.is.loads;
        end = s.is.end;
        wanted = subst (λ w. AreWanted a.left (a.loads ++ load ∷ []) (drop 1 w)) (sym wants)
            (wanted-less a.left a.loads load file later (subst (λ w. AreWanted a.left a.loads w) wants s.is.wanted));
      };
      by = loaded-by a.end a.place a.waiting a.left items a.loads loads load pushed s.by;
    }

-- as the code gives it
pub stands-given : (lines : LinesAhead) (then : Loading) (load : Loaded) (file : List ℕ) (later : List (List ℕ)) → lines.loads.wanted ≡ file ∷ later
    → (then.given ≡ lines.loads.given ++ load ∷ []) × (then.wanted ≡ later)
    → (items : List Item) (loads : List Loaded) (pushed : List (List ℕ)) → StandsFor (stream_of lines) items loads pushed
    → StandsFor (stream_of (record lines { loads = then })) items (loads ++ load ∷ []) pushed
stands-given lines then load file later wants is items loads pushed s =
    subst (λ stream. StandsFor stream items (loads ++ load ∷ []) pushed) same
    (stands-loaded (stream_of lines) load file later wants items loads pushed s)
  where
    same : with_load (stream_of lines) load ≡ stream_of (record lines { loads = then })
    same = rw (is.0, is.1, wants) refl

-- ---- all is told
nothing-ahead : (now : End) (a : Account) (items : List Item) (loads : List Loaded) (pushed : List (List ℕ)) → a.end ≡ now → a.waiting ≡ []
    → IsTold now a.left → (a.left ≡ [] → a.loads ≡ [])
    → lines_ahead a.place [] [] false ≡ [] → StandsBy now a items loads pushed → lines_so_far items loads (not (goes_on now)) ≡ pushed
nothing-ahead end.NotYet a items loads pushed is none told no_load nothing s =
    ap (λ all. lines_so_far all loads false) (sym (append-nil items))
    ∙ ap (λ l. lines_so_far (items ++ []) l false) (sym (append-nil loads))
    ∙ spent-gives a items loads pushed none told (no_load told) is (subst (λ e. StandsBy e a items loads pushed) (sym is) s) [] [] false
    ∙ ap (λ ls. pushed ++ ls) nothing ∙ append-nil pushed
nothing-ahead end.Due a items loads pushed is none told no_load nothing s = absurd told
nothing-ahead end.Told a items loads pushed is none told no_load nothing s =
    ap (λ l. lines_so_far items l true) (sym (append-nil loads))
    ∙ s []
    ∙ ap (λ ls. pushed ++ (ls ++ made_of a.place a.left a.loads a.end [] [] true)) none
    ∙ ap (λ e. pushed ++ made_of a.place a.left a.loads e [] [] true) is
    ∙ ap (λ ls. pushed ++ ls) nothing ∙ append-nil pushed

pub all-told : (stream : Stream) (items : List Item) (loads : List Loaded) (pushed : List (List ℕ)) → IsTold stream.end stream.left
    → StandsStill stream items loads pushed
    → lines_so_far items loads (not (goes_on stream.end)) ≡ pushed
all-told stream items loads pushed told still =
    let a = still.stands.account in
    let is = still.stands.is in
    ap (λ e. lines_so_far items loads (not (goes_on e))) is.end
    ∙ nothing-ahead a.end a items loads pushed refl still.waiting
    (subst (λ e. IsTold e a.left) is.end (subst (λ xs. IsTold stream.end xs) is.left told))
    (λ nothing. none-left a.left a.loads stream.wanted nothing is.wanted) still.place still.stands.by

-- no push gave a page, and all is told
pub packs-all : (before after : Stream) (hand then_hand : PageInHand) → Resting before hand after then_hand → IsSpent after
    → Packs before hand None after then_hand
packs-all before after hand then_hand resting spent = record {
  lines = resting.pushing.lines;
  pushed = resting.pushing.pushed;
  in_hand = resting.pushing.in_hand;
  gives = resting.pushing.gives;
  all = λ none. spent;
  told = λ none items loads so_far s. all-told after items loads (so_far ++ resting.pushing.lines) spent.1 (resting.still items loads so_far s);
  same_end = resting.pushing.same_end;
  same_wanted = resting.pushing.same_wanted;
}

-- What the work on a deck's jobs keeps at each of its steps.
use Rattle.std.proofs.Common.{◌≡◌, ℕ, ◌+◌, Bool, true, false, not, List, [], ◌∷◌, ◌++◌, length, length-append, drop, Option, None, Some, refl, sym, ◌∙◌, ap, append_assoc}
use Rattle.std.specs.Prelude.{Result, Ok, Err, OnOk}
use Rattle.std.proofs.lemmas.List.{append-nil}
use Rattle.solo_base.specs.declared.no_memory.NoMemory.{NoMemory}
use Rattle.solo_base.specs.declared.item.Item.{Item}
use Rattle.solo_base.specs.declared.page.Page.{Page}
use Rattle.page_codec.specs.Packing.{PageInHand}
use Rattle.page_codec.specs.Reading.{PageContent}
use Rattle.disk_contents.specs.declared.loading.Loaded.{Loaded}
use Rattle.batch_job.specs.Loads.{files_named, first_of as first_named}
use Rattle.batch_job.specs.LinesSoFar.{lines_so_far}
use Rattle.batch_job.specs.declared.lines_ahead.End.{End}
use Rattle.batch_job.specs.declared.lines_ahead.End.TheVariants as end
use Rattle.batch_job.specs.JobStream.{Stream, Account, StandsBy, StandsFor, IsSpent, Packs as StreamPacks, ahead, new_stream, fed, with_load, end_of, goes_on}
use Rattle.batch_job.proofs.NamedFiles.{files_go_on}
use Rattle.batch_procs.specs.Parts.{drop-part}
use Rattle.batch_procs.specs.JobTold.{JobTold, nothing_told, with_page, with_found, rests_behind, wanted, first_of, PushesLines}
use Rattle.deck_work.specs.DeckJobs.{deck_jobs}
use Rattle.deck_work.specs.KeepsDeck.{KeepsDeck}

pub begins : (stream : Stream) → stream ≡ new_stream → StandsFor stream [] [] [] → IsSpent stream → KeepsDeck stream nothing_told
begins stream is stands spent = record {
  stands = stands;
  end_is = ap (λ s. goes_on s.end) is;
  found = [];
  named = ap (λ s. s.wanted) (sym is);
  as_many = refl;
  spent = λ rests. spent;
  none_wanted = λ rests. ap (λ s. s.wanted) is;
}

-- ---- the next page
end-going : (e : End) → goes_on e ≡ true → e ≡ end.NotYet
end-going end.NotYet e = refl
end-going end.Due e = absurd cc
end-going end.Told e = absurd cc

end-not : (t : Bool) → goes_on (end_of t) ≡ not t
end-not true = refl
end-not false = refl

pub feeds : (old new : Stream) (content : PageContent) → new ≡ fed old content
    → ((before : List Item) (loads : List Loaded) (pushed : List (List ℕ)) → IsSpent old → old.end ≡ end.NotYet → StandsFor old before loads pushed
    → StandsFor new (before ++ content.items) loads pushed)
    → (told : JobTold Loaded) → KeepsDeck old told → told.rests ≡ true → told.ended ≡ false → KeepsDeck new (with_page told content)
feeds old new content is stands told keeps rests going = record {
  stands = stands told.items told.loads told.pushed (keeps.spent rests) (end-going old.end (keeps.end_is ∙ ap not going)) keeps.stands;
  end_is = ap (λ s. goes_on s.end) is ∙ end-not content.last;
  found = keeps.found;
  named =
      files_go_on told.items content.items
      ∙ ap (λ fs. fs ++ files_named content.items) (keeps.named ∙ ap (λ w. keeps.found ++ w) (keeps.none_wanted rests) ∙ append-nil keeps.found)
      ∙ ap (λ s. keeps.found ++ s.wanted) (sym is);
  as_many = keeps.as_many;
  spent = λ none. absurd cc;
  none_wanted = λ none. absurd cc;
}

pub feeds-ok : (result : Result (Unit {0}) NoMemory) (old new : Stream) (content : PageContent) → OnOk result (new ≡ fed old content)
    → OnOk result ((before : List Item) (loads : List Loaded) (pushed : List (List ℕ)) → IsSpent old → old.end ≡ end.NotYet
    → StandsFor old before loads pushed → StandsFor new (before ++ content.items) loads pushed)
    → OnOk result ((told : JobTold Loaded) → KeepsDeck old told → told.rests ≡ true → told.ended ≡ false → KeepsDeck new (with_page told content))
feeds-ok (Ok done) old new content is stands = feeds old new content is stands
feeds-ok (Err refused) old new content is stands = tt

-- ---- the files that are wanted
pub wanted-is : (stream : Stream) (told : JobTold Loaded) → KeepsDeck stream told → wanted deck_jobs told ≡ stream.wanted
wanted-is stream told keeps =
    ap (λ n. drop n (files_named told.items)) (sym keeps.as_many) ∙ ap (drop (length keeps.found)) keeps.named ∙ drop-part keeps.found stream.wanted

first-same : (names : List (List ℕ)) → first_named names ≡ first_of names
first-same [] = refl
first-same (name ∷ later) = refl

pub wants : (stream : Stream) (first : Option (List ℕ)) → first ≡ first_named stream.wanted → (told : JobTold Loaded) → KeepsDeck stream told
    → first ≡ first_of (wanted deck_jobs told)
wants stream first is told keeps = is ∙ first-same stream.wanted ∙ ap first_of (sym (wanted-is stream told keeps))

pub none-first : (stream : Stream) (first : Option (List ℕ)) (file : List ℕ) → first ≡ first_named stream.wanted → first ≡ Some file → (told : JobTold Loaded)
    → KeepsDeck stream told → wanted deck_jobs told ≡ [] → ⊥
none-first stream first file is found told keeps none =
    let empty = ap first_named (sym (wanted-is stream told keeps) ∙ none) in
    let both = sym found ∙ is ∙ empty in
    cc

one-more : (xs : List (List ℕ)) (x : List ℕ) (ys : List Loaded) (y : Loaded) → length xs ≡ length ys → length (xs ++ x ∷ []) ≡ length (ys ++ y ∷ [])
one-more xs x ys y e =
    let a = length-append xs (x ∷ []) in
    let b = length-append ys (y ∷ []) in
    a ∙ ap (λ n. n + 1) e ∙ sym b

pub loads : (old new : Stream) (load : Loaded)
    → ((file : List ℕ) (later : List (List ℕ)) → old.wanted ≡ file ∷ later → new ≡ with_load old load)
    → ((file : List ℕ) (later : List (List ℕ)) → old.wanted ≡ file ∷ later → (items : List Item) (found : List Loaded) (pushed : List (List ℕ))
    → StandsFor old items found pushed → StandsFor new items (found ++ load ∷ []) pushed)
    → (told : JobTold Loaded) (file : List ℕ) (later : List (List ℕ)) → KeepsDeck old told → wanted deck_jobs told ≡ file ∷ later
    → KeepsDeck new (with_found told load)
loads old new load is stands told file later keeps wants =
    let first : old.wanted ≡ file ∷ later = sym (wanted-is old told keeps) ∙ wants in
    let new_is = is file later first in
    let left : new.wanted ≡ later = ap (λ s. s.wanted) new_is ∙ ap (λ w. drop 1 w) first in
    record {
      stands = stands file later first told.items told.loads told.pushed keeps.stands;
      end_is = ap (λ s. goes_on s.end) new_is ∙ keeps.end_is;
      found = keeps.found ++ file ∷ [];
      named =
          keeps.named ∙ ap (λ w. keeps.found ++ w) first ∙ sym (append_assoc keeps.found (file ∷ []) later)
          ∙ ap (λ w. (keeps.found ++ file ∷ []) ++ w) (sym left);
      as_many = one-more keeps.found file told.loads load keeps.as_many;
      spent = λ rests. absurd (let none = sym (keeps.none_wanted rests) ∙ first in cc);
      none_wanted = λ rests. absurd (let none = sym (keeps.none_wanted rests) ∙ first in cc);
    }

-- ---- lines are pushed
-- the lines so far begin with those that were pushed
left-by : (e : End) (a : Account) (all : List Item) (found : List Loaded) (pushed : List (List ℕ)) → StandsBy e a all found pushed
    → (rest : List (List ℕ)) × (lines_so_far all found (not (goes_on e)) ≡ pushed ++ rest)
left-by end.NotYet a all found pushed s = (
  ahead a [] [] false,
  ap (λ xs. lines_so_far xs found false) (sym (append-nil all)) ∙ ap (λ l. lines_so_far (all ++ []) l false) (sym (append-nil found)) ∙ s [] [] false,
)
left-by end.Due a all found pushed s = (ahead a [] [] true, ap (λ l. lines_so_far all l true) (sym (append-nil found)) ∙ s [])
left-by end.Told a all found pushed s = (ahead a [] [] true, ap (λ l. lines_so_far all l true) (sym (append-nil found)) ∙ s [])

some-left : (lines : Stream) (all : List Item) (found : List Loaded) (pushed : List (List ℕ)) → StandsFor lines all found pushed
    → (rest : List (List ℕ)) × (lines_so_far all found (not (goes_on lines.end)) ≡ pushed ++ rest)
some-left lines all found pushed s =
    let (rest, is) = left-by s.account.end s.account all found pushed s.by in
    (rest, ap (λ e. lines_so_far all found (not (goes_on e))) s.is.end ∙ is)

not-not : (t u : Bool) → u ≡ not t → not u ≡ t
not-not true u e = ap not e
not-not false u e = ap not e

rests-none : (page : Option Page) → rests_behind page ≡ true → page ≡ None
rests-none None e = refl
rests-none (Some page) e = absurd cc

pub packs : (old new : Stream) (hand hand_then : PageInHand) (page : Option Page) → StreamPacks old hand page new hand_then
    → (told : JobTold Loaded) → KeepsDeck old told → wanted deck_jobs told ≡ [] → PushesLines deck_jobs (KeepsDeck new) told hand page hand_then
packs old new hand hand_then page is told keeps none =
    let stands = is.gives told.items told.loads told.pushed keeps.stands in
    let ends : not (goes_on new.end) ≡ told.ended = not-not told.ended (goes_on new.end) (is.same_end ∙ keeps.end_is) in
    let (left, next) = next-by page refl stands ends in
    record {
      lines = is.lines;
      pushes = is.pushed;
      in_hand = is.in_hand;
      left = left;
      next = next.0;
      all = next.1;
      keeps = record {
        stands = stands;
        end_is = is.same_end ∙ keeps.end_is;
        found = keeps.found;
        named = keeps.named ∙ ap (λ w. keeps.found ++ w) (sym is.same_wanted);
        as_many = keeps.as_many;
        spent = λ rests. is.all (rests-none page rests);
        none_wanted = λ rests. is.same_wanted ∙ sym (wanted-is old told keeps) ∙ none;
      };
    }
  where
    next-by : (found : Option Page) → page ≡ found → StandsFor new told.items told.loads (told.pushed ++ is.lines) → not (goes_on new.end) ≡ told.ended
        → (left : List (List ℕ)) × ((lines_so_far told.items told.loads told.ended ≡ (told.pushed ++ is.lines) ++ left) × (page ≡ None → left ≡ []))
    next-by None no_page stands ends = (
      [],
      (
        ap (lines_so_far told.items told.loads) (sym ends) ∙ is.told no_page told.items told.loads told.pushed keeps.stands
            ∙ sym (append-nil (told.pushed ++ is.lines)),
        λ e. refl,
      ),
    )
    next-by (Some found) is_page stands ends =
        let (rest, all) = some-left new told.items told.loads (told.pushed ++ is.lines) stands in
        (rest, (ap (lines_so_far told.items told.loads) (sym ends) ∙ all, λ no_page. absurd (let both = sym is_page ∙ no_page in cc)))

pub packs-ok : (result : Result (Unit {0}) NoMemory) (old new : Stream) (hand hand_then : PageInHand) (page : Option Page)
    → OnOk result (StreamPacks old hand page new hand_then)
    → OnOk result ((told : JobTold Loaded) → KeepsDeck old told → wanted deck_jobs told ≡ []
    → PushesLines deck_jobs (KeepsDeck new) told hand page hand_then)
packs-ok (Ok done) old new hand hand_then page is = packs old new hand hand_then page is
packs-ok (Err refused) old new hand hand_then page is = tt

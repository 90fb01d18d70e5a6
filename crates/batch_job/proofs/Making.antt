-- What the code does for the next line and the next item, by what it stands for.
use Rattle.std.proofs.Common.{◌≡◌, ℕ, Bool, true, false, List, [], ◌∷◌, ◌++◌, length, drop, Option, Some, None, option_to_list, refl, sym, ◌∙◌, ap, subst, append_assoc, arith}
use Rattle.std.proofs.lemmas.List.{append-nil}
use Rattle.solo_base.specs.declared.item.Item.{Item}
use Rattle.batch_job.specs.LinesAhead.{Where, Outside, lines_ahead, closed_lines}
use Rattle.batch_job.specs.Places.{IsPart, Holds, HasLoad, LeavesLoads, Leads, GivesOn, RestsAt}
use Rattle.deck_format.specs.declared.control.Opener.{Opener}
use Rattle.deck_format.specs.declared.control.Opener.TheVariants as opener
use Rattle.deck_format.specs.Jobs.{opener_of}
use Rattle.disk_contents.specs.declared.loading.Loaded.{Loaded}
use Rattle.disk_contents.specs.declared.loading.Loaded.TheVariants.{NoFile}
use Rattle.batch_job.specs.Loads.{file_named, files_named}
use Rattle.batch_job.specs.JobStream.{Stream, Account, AreWanted, IsAccount, Passes, Rests, made_of}
use Rattle.batch_job.specs.declared.lines_ahead.End.{End}
use Rattle.batch_job.specs.declared.lines_ahead.End.TheVariants as end
use Rattle.batch_job.specs.declared.item_lines.ItemLines.{ItemLines}
use Rattle.batch_job.proofs.Account.{Takes}
use Rattle.batch_job.proofs.LinesSoFar.{closed-lines, same-left}

pub same-stream : (old new : Stream) (a : Account) → new ≡ old → IsAccount old a → Passes a new []
same-stream old new a same is = rw same record { then_is = a; is = is; gives = λ more later ended. refl }

-- the loads and the files that are wanted stay
pub record SameLoads (old new : Stream) : Type 0 where
  pub left : new.left ≡ old.left
  pub loads : new.loads ≡ old.loads
  pub wanted : new.wanted ≡ old.wanted
  pub end : new.end ≡ old.end

pub same-loads : (old new : Stream) → new.left ≡ old.left → new.loads ≡ old.loads → new.wanted ≡ old.wanted → new.end ≡ old.end → SameLoads old new
same-loads old new left loads wanted end = record { left = left; loads = loads; wanted = wanted; end = end }

-- a line that waits
pub waiting-line : (old new : Stream) (a : Account) (lines : List (List ℕ)) → IsAccount old a → new.part ≡ old.part → SameLoads old new
    → ((rest : List (List ℕ)) × (a.waiting ≡ lines ++ rest) × Holds new.waiting rest) → Passes a new lines
waiting-line old new a lines is part same (rest, all, holds) = record {
  then_is = record { place = a.place; waiting = rest; left = a.left; loads = a.loads; end = a.end };
  is = record {
    part = subst (λ p. IsPart p a.place) (sym part) is.part;
    waiting = holds;
    left = same.left ∙ is.left;
    loads = same.loads ∙ is.loads;
    end = same.end ∙ is.end;
    wanted = subst (λ w. AreWanted a.left a.loads w) (sym same.wanted) is.wanted;
  };
  gives = λ more later ended. ap (λ ls. ls ++ made_of a.place a.left a.loads a.end more later ended) all
      ∙ append_assoc lines rest (made_of a.place a.left a.loads a.end more later ended);
}

-- no line waits any more
pub emptied : (all : List (List ℕ)) (result : Option (List ℕ)) (now : ItemLines) → Takes all (option_to_list result) now → result ≡ None
    → ((rest : List (List ℕ)) → Holds now rest → rest ≡ []) → (all ≡ []) × Holds now []
emptied all None now (rest, is, holds) none nothing = (is ∙ nothing rest holds, subst (λ ls. Holds now ls) (nothing rest holds) holds)
emptied all (Some line) now taken none nothing = absurd cc

-- a line of a program that reads its input
made-on : (place to : Where) (lines : List (List ℕ))
    → ((more : List Item) (loads : List Loaded) (ended : Bool) → lines_ahead place more loads ended ≡ lines ++ lines_ahead to more loads ended)
    → (left : List Item) (loads : List Loaded) (now : End) (more : List Item) (later : List Loaded) (ended : Bool)
    → made_of place left loads now more later ended ≡ lines ++ made_of to left loads now more later ended
made-on place to lines gives left loads end.NotYet more later ended = gives (left ++ more) (loads ++ later) ended
made-on place to lines gives left loads end.Due more later ended = gives left (loads ++ later) true
made-on place to lines gives left loads end.Told more later ended = gives [] [] false

pub part-line : (old new : Stream) (a : Account) (lines : List (List ℕ)) → IsAccount old a → a.waiting ≡ [] → SameLoads old new
    → Holds new.waiting [] → GivesOn a.place new.part lines → Passes a new lines
part-line old new a lines is none same holds on = record {
  then_is = record { place = on.to; waiting = []; left = a.left; loads = a.loads; end = a.end };
  is = record {
    part = on.part_is;
    waiting = holds;
    left = same.left ∙ is.left;
    loads = same.loads ∙ is.loads;
    end = same.end ∙ is.end;
    wanted = subst (λ w. AreWanted a.left a.loads w) (sym same.wanted) is.wanted;
  };
  gives = λ more later ended. ap (λ ls. ls ++ made_of a.place a.left a.loads a.end more later ended) none
      ∙ made-on a.place on.to lines on.gives a.left a.loads a.end more later ended;
}

pub rests-so : (old new : Stream) (a : Account) → IsAccount old a → a.waiting ≡ [] → SameLoads old new
    → Holds new.waiting [] → RestsAt a.place new.part → Rests a new
rests-so old new a is none same holds at = record {
  passes = record {
    then_is = record { place = a.place; waiting = []; left = a.left; loads = a.loads; end = a.end };
    is = record {
      part = at.part_is;
      waiting = holds;
      left = same.left ∙ is.left;
      loads = same.loads ∙ is.loads;
      end = same.end ∙ is.end;
      wanted = subst (λ w. AreWanted a.left a.loads w) (sym same.wanted) is.wanted;
    };
    gives = λ more later ended. ap (λ ls. ls ++ made_of a.place a.left a.loads a.end more later ended) none;
  };
  waiting = refl;
  place = at.nothing;
}

-- ---- the loads of the next item, where no file is wanted
load-there : (o : Option Opener) (loads : List Loaded) (found rest : List (List ℕ)) → file_named o ++ rest ≡ found ++ []
    → length found ≡ length loads → HasLoad o loads
load-there None loads found rest is as_many = tt
load-there (Some (opener.List name)) loads found rest is as_many = (NoFile, loads, refl)
load-there (Some (opener.Job name limit)) loads found rest is as_many = (NoFile, loads, refl)
load-there (Some (opener.Run name file)) [] [] rest is as_many = absurd cc
load-there (Some (opener.Run name file)) [] (f ∷ found) rest is as_many = absurd cc
load-there (Some (opener.Run name file)) (load ∷ later) found rest is as_many = (load, later, refl)

pub has-load : (item : Item) (rest : List Item) (loads : List Loaded) → AreWanted (item ∷ rest) loads [] → HasLoad (opener_of item) loads
has-load item rest loads wanted = load-there (opener_of item) loads wanted.found (files_named rest) wanted.all wanted.as_many

left-behind : (o : Option Opener) (loads left : List Loaded) (found rest : List (List ℕ)) → file_named o ++ rest ≡ found ++ []
    → length found ≡ length loads → LeavesLoads o loads left
    → (less : List (List ℕ)) × (rest ≡ less ++ []) × (length less ≡ length left)
left-behind None loads left found rest is as_many same = (found, is, as_many ∙ ap length (sym same))
left-behind (Some (opener.List name)) loads left found rest is as_many (load, e) =
    (found, is, as_many ∙ ap length (same-left NoFile load loads left e))
left-behind (Some (opener.Job name limit)) loads left found rest is as_many (load, e) =
    (found, is, as_many ∙ ap length (same-left NoFile load loads left e))
left-behind (Some (opener.Run name file)) [] left found rest is as_many (load, e) = absurd cc
left-behind (Some (opener.Run name file)) (first ∷ later) left [] rest is as_many (load, e) = absurd cc
left-behind (Some (opener.Run name file)) (first ∷ later) left (f ∷ found) rest is as_many (load, e) =
    let less : rest ≡ found ++ [] = ap (drop 1) is in
    let many : length found ≡ length later = omega (arith, as_many) in
    (found, less, many ∙ ap length (same-left first load later left e))

wanted-next : (item : Item) (rest : List Item) (loads left : List Loaded) → AreWanted (item ∷ rest) loads [] → LeavesLoads (opener_of item) loads left
    → AreWanted rest left []
wanted-next item rest loads left wanted leaves =
    let (less, all, many) = left-behind (opener_of item) loads left wanted.found (files_named rest) wanted.all wanted.as_many leaves in
    record { found = less; all = all; as_many = many }

-- the next item
item-made : (place to : Where) (item : Item) (loads left : List Loaded) (all : List (List ℕ))
    → ((more : List Item) (later : List Loaded) (ended : Bool)
    → lines_ahead place (item ∷ more) (loads ++ later) ended ≡ all ++ lines_ahead to more (left ++ later) ended)
    → (rest : List Item) (now : End) → (now ≡ end.Told → ⊥) → (more : List Item) (later : List Loaded) (ended : Bool)
    → made_of place (item ∷ rest) loads now more later ended ≡ all ++ made_of to rest left now more later ended
item-made place to item loads left all leads rest end.NotYet not more later ended = leads (rest ++ more) later ended
item-made place to item loads left all leads rest end.Due not more later ended = leads rest later true
item-made place to item loads left all leads rest end.Told not more later ended = absurd (not refl)

-- the account of a stream has these items and loads, and no file is wanted
pub wanted-here : (old : Stream) (a : Account) (item : Item) (rest : List Item) → IsAccount old a → old.left ≡ item ∷ rest → old.wanted ≡ []
    → AreWanted (item ∷ rest) old.loads []
wanted-here old a item rest is left none =
    subst (λ w. AreWanted (item ∷ rest) old.loads w) none
    (subst (λ l. AreWanted (item ∷ rest) l old.wanted) (sym is.loads) (subst (λ xs. AreWanted xs a.loads old.wanted) (sym is.left ∙ left) is.wanted))

pub next-item : (old new : Stream) (a : Account) (item : Item) (rest : List Item) → IsAccount old a → a.waiting ≡ [] → old.left ≡ item ∷ rest
    → (old.end ≡ end.Told → ⊥) → new.left ≡ rest → new.end ≡ old.end → old.wanted ≡ [] → new.wanted ≡ []
    → LeavesLoads (opener_of item) old.loads new.loads
    → Leads a.place item old.loads new.loads new.waiting new.part → Passes a new []
next-item old new a item rest is none left not now end no_file no_file_then leaves leads = record {
  then_is = record { place = leads.to; waiting = leads.all; left = rest; loads = new.loads; end = a.end };
  is = record {
    part = leads.part_is;
    waiting = leads.holds;
    left = now;
    loads = refl;
    end = end ∙ is.end;
    wanted = subst (λ w. AreWanted rest new.loads w) (sym no_file_then)
        (wanted-next item rest old.loads new.loads (wanted-here old a item rest is left no_file) leaves);
  };
  gives = λ more later ended.
      ap (λ ls. ls ++ made_of a.place a.left a.loads a.end more later ended) none
      ∙ ap (λ xs. made_of a.place xs a.loads a.end more later ended) (sym is.left ∙ left)
      ∙ ap (λ l. made_of a.place (item ∷ rest) l a.end more later ended) (sym is.loads)
      ∙ item-made a.place leads.to item old.loads new.loads leads.all leads.more rest a.end (λ told. not (is.end ∙ told)) more later ended;
}

-- the end
pub at-end : (old new : Stream) (a : Account) → IsAccount old a → a.waiting ≡ [] → old.left ≡ [] → old.end ≡ end.Due → new.left ≡ [] → new.end ≡ end.Told
    → new.loads ≡ old.loads → new.wanted ≡ old.wanted
    → IsPart new.part (Outside 0) → Holds new.waiting (closed_lines a.place) → Passes a new []
at-end old new a is none left due now told loads wanted part holds = record {
  then_is = record { place = Outside 0; waiting = closed_lines a.place; left = []; loads = a.loads; end = end.Told };
  is = record {
    part = part;
    waiting = holds;
    left = now;
    loads = loads ∙ is.loads;
    end = told;
    wanted = subst (λ w. AreWanted [] a.loads w) (sym wanted) (subst (λ xs. AreWanted xs a.loads old.wanted) (sym is.left ∙ left) is.wanted);
  };
  gives = λ more later ended.
      ap (λ ls. ls ++ made_of a.place a.left a.loads a.end more later ended) none
      ∙ ap (λ e. made_of a.place a.left a.loads e more later ended) (sym is.end ∙ due)
      ∙ ap (λ xs. lines_ahead a.place xs (a.loads ++ later) true) (sym is.left ∙ left)
      ∙ append-nil _
      ∙ closed-lines a.place
      ∙ sym (append-nil (closed_lines a.place));
}

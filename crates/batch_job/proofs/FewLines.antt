-- An item of a deck gives few lines.
use Rattle.std.proofs.Common.{◌≡◌, ◌≤◌, ◌*◌, ◌+◌, ℕ, zero, suc, drop, subst, Bool, true, false, ◌||◌, ◌&&◌, ◌==◌, ◌⊎◌, inl, inr, List, [], ◌∷◌, ◌++◌, length, Option, Some, None, refl, sym, ◌∙◌, ap, length-append, arith}
use Rattle.std.specs.Prelude.{flat_map, cond}
use Rattle.std.proofs.lemmas.List.{append-nil, length-drop}
use Rattle.solo_base.specs.LineList.{AreLines}
use Rattle.solo_base.specs.declared.item.Item.{Item}
use Rattle.solo_base.specs.declared.item.Item.TheVariants.{Line, Spoiled}
use Rattle.page_codec.specs.Items.{IsItem, AreItems}
use Rattle.deck_format.specs.declared.control.Opener.{Opener}
use Rattle.deck_format.specs.declared.control.Opener.TheVariants as opener
use Rattle.deck_format.specs.declared.control.Control.{Control}
use Rattle.deck_format.specs.declared.group.Group.{Group}
use Rattle.deck_format.specs.declared.group.Kept.{Kept}
use Rattle.deck_format.specs.declared.job.Job.TheVariants as job
use Rattle.deck_format.specs.declared.job.CardFault.{CardFault}
use Rattle.deck_format.specs.Jobs.{is_some, opener_in, ends_in, card_count, skipped, followed_by, unless}
use Rattle.deck_format.specs.JobReader.{control_in, parts_at, card_kept, control_kept, item_kept, added_by, opened as opened_group}
use Rattle.program_lines.specs.Task.{Source, source_lines, program_lines}
use Rattle.program_lines.proofs.FewLines.{few-lines as few-of-program, few-of-code}
use Rattle.program_lines.proofs.Going.{all-cards}
use Rattle.disk_contents.specs.declared.loading.Loaded.{Loaded}
use Rattle.disk_contents.specs.declared.loading.Loaded.TheVariants.{Code, NoFile, NotCode, BadCode}
use Rattle.batch_job.specs.Report.{no_files, report, heading, fault_line, run_lines, source_loaded}
use Rattle.batch_job.specs.Loads.{IsLoaded, AreLoaded, load_for}
use Rattle.batch_job.specs.LinesSoFar.{lines_so_far, runs_so_far, lines_of_an_item}
use Rattle.batch_job.specs.LinesAhead.{Where, Outside, InList, InProgram, Dropped, name_of, limit_of, source_in, told_by, told_behind, part_lines, lines_ahead, closed_lines, opened, added_lines, added, is_in_group}
use Rattle.batch_job.proofs.LowLimits.{IsLow, opener-low}
use Rattle.batch_job.proofs.LinesSoFar.{closed-lines, opens, stops, ends, plain, same-load, same-left, from-start}

-- ---- What is kept of a group
pub record Fits (o : Opener) (kept : Kept) : Type 0 where
  pub low : IsLow o
  pub cards : AreLines kept.cards
  pub input : AreLines kept.input

lines-append : (these those : List (List ℕ)) → AreLines these → AreLines those → AreLines (these ++ those)
lines-append [] those a b = b
lines-append (line ∷ these) those a b = (a.0, lines-append these those a.1 b)

unless-lines : (fault : Option CardFault) (lines : List (List ℕ)) → AreLines lines → AreLines (unless fault lines)
unless-lines None lines are = are
unless-lines (Some fault) lines are = tt

followed-fits : (o : Opener) (first next : Kept) → Fits o first → Fits o next → Fits o (followed_by first next)
followed-fits o first next a b = record {
  low = a.low;
  cards = lines-append first.cards (unless first.fault next.cards) a.cards (unless-lines first.fault next.cards b.cards);
  input = lines-append first.input (unless first.fault next.input) a.input (unless-lines first.fault next.input b.input);
}

card-fits : (o : Opener) (in_input : Bool) (card : List ℕ) → IsLow o → IsItem (Line card) → Fits o (card_kept in_input card)
card-fits o true card low is = record { low = low; cards = tt; input = (is, tt) }
card-fits o false card low is = record { low = low; cards = (is, tt); input = tt }

control-fits : (o : Opener) (parts in_input : Bool) (number : ℕ) → IsLow o → Fits o (control_kept parts in_input number)
control-fits o true in_input number low = record { low = low; cards = tt; input = tt }
control-fits o false in_input number low = record { low = low; cards = tt; input = tt }

item-fits : (o : Opener) (in_input : Bool) (number : ℕ) (item : Item) (control : Option Control) → IsLow o → IsItem item
    → Fits o (item_kept o in_input number item control)
item-fits o in_input number Spoiled control low is = record { low = low; cards = tt; input = tt }
item-fits o in_input number (Line card) None low is = card-fits o in_input card low is
item-fits o in_input number (Line card) (Some control) low is = control-fits o (parts_at o in_input (Some control)) in_input number low

abbrev GroupFits : Group → Type 0
GroupFits group = Fits group.opener group.kept

added-fits-by : (fault : Option CardFault) (group : Group) (item : Item) (control : Option Control) → GroupFits group → IsItem item
    → GroupFits (added_by fault group item control)
added-fits-by (Some fault) group item control fits is = fits
added-fits-by None group item control fits is =
    followed-fits group.opener group.kept (item_kept group.opener group.in_input group.number item control) fits
    (item-fits group.opener group.in_input group.number item control fits.low is)

opened-fits : (o : Opener) → IsLow o → GroupFits (opened_group o)
opened-fits o low = record { low = low; cards = tt; input = tt }

-- ---- The lines of a program
abbrev of_program : ℕ
of_program = 403000403000001

loaded-few : (name : List ℕ) (load : Loaded) (input : List (List ℕ)) (closed : Bool) → IsLoaded load → AreLines input
    → length (source_lines name 10000 (source_loaded name load) input closed) ≤ of_program
loaded-few name (Code code) input closed (is, good) lines =
    let few = few-of-code name 10000 code input closed is good lines in
    omega (arith, few)
loaded-few name NoFile input closed is lines = omega arith
loaded-few name NotCode input closed is lines = omega arith
loaded-few name (BadCode at) input closed is lines = omega arith

source-few : (load : Loaded) (o : Opener) (cards input : List (List ℕ)) (closed : Bool) → IsLoaded load → IsLow o → AreLines cards → AreLines input
    → length (source_lines (name_of o) (limit_of o) (source_in load o cards) input closed) ≤ of_program
source-few load (opener.List name) cards input closed is low are lines = omega arith
source-few load (opener.Job name limit) cards input closed is low are lines =
    let few = few-of-program name limit cards input closed are lines in
    omega (arith, few, low)
source-few load (opener.Run name file) cards input closed is low are lines = loaded-few name load input closed is lines

with-fault : (in_input : Bool) (lines : List (List ℕ)) (fault : List ℕ) → length lines ≤ of_program
    → length (cond in_input (lines ++ fault ∷ []) (fault ∷ [])) ≤ of_program + 1
with-fault true lines fault few = let whole = length-append lines (fault ∷ []) in omega (arith, few, whole)
with-fault false lines fault few = omega arith

closed-told : (name : List ℕ) (limit : ℕ) (source : Source) (input : List (List ℕ)) (fault : Option CardFault)
    → length (source_lines name limit source input true) ≤ of_program → length (run_lines name limit source input fault) ≤ of_program + 1
closed-told name limit source input None few = let same = ap length (all-cards name limit source input) in omega (arith, few, same)
closed-told name limit source input (Some fault) few =
    let same = ap length (all-cards name limit source input) in
    with-fault fault.in_input (program_lines name limit source input) (fault_line name fault) (omega (arith, few, same))

begun-few : (begun : Bool) (lines : List (List ℕ)) → length lines ≤ of_program → length (cond begun lines []) ≤ of_program + 1
begun-few true lines few = omega (arith, few)
begun-few false lines few = omega arith

open-told : (name : List ℕ) (limit : ℕ) (source : Source) (begun : Bool) (input : List (List ℕ)) (fault : Option CardFault)
    → ((closed : Bool) → length (source_lines name limit source input closed) ≤ of_program)
    → length (runs_so_far name limit source begun input fault) ≤ of_program + 1
open-told name limit source begun input None few = begun-few begun (source_lines name limit source input false) (few false)
open-told name limit source begun input (Some fault) few =
    with-fault fault.in_input (source_lines name limit source input true) (fault_line name fault) (few true)

told-few : (load : Loaded) (group : Group) (closed : Bool) → IsLoaded load → GroupFits group → length (told_by load group closed) ≤ of_program + 1
told-few load group true is fits =
    closed-told (name_of group.opener) (limit_of group.opener) (source_in load group.opener group.kept.cards) group.kept.input group.kept.fault
    (source-few load group.opener group.kept.cards group.kept.input true is fits.low fits.cards fits.input)
told-few load group false is fits =
    open-told (name_of group.opener) (limit_of group.opener) (source_in load group.opener group.kept.cards) group.in_input group.kept.input group.kept.fault
    (λ closed. source-few load group.opener group.kept.cards group.kept.input closed is fits.low fits.cards fits.input)

behind-few : (given : List (List ℕ)) (load : Loaded) (group : Group) (closed : Bool) → IsLoaded load → GroupFits group
    → length (told_behind given load group closed) ≤ of_program + 1
behind-few given load group closed is fits =
    let few = told-few load group closed is fits in
    let less = length-drop (length given) (told_by load group closed) in
    omega (arith, few, less)

-- ---- Where a stream stands
abbrev IsFit : Where → Type 0
IsFit (Outside count) = Unit {0}
IsFit (InList name count) = Unit {0}
IsFit (InProgram load group given) = IsLoaded load × GroupFits group
IsFit Dropped = Unit {0}

-- what its end may still give
abbrev due : Where → ℕ
due (Outside count) = 1
due (InList name count) = 1
due (InProgram load group given) = of_program + 1
due Dropped = 1

skipped-few : (n : ℕ) → length (flat_map (report no_files) (skipped n)) ≤ 1
skipped-few n = by (n == 0)
  where
    by : (t : Bool) → length (flat_map (report no_files) (cond t [] (job.Skipped n ∷ []))) ≤ 1
    by true = omega arith
    by false = omega arith

closed-few : (part : Where) → IsFit part → length (closed_lines part) ≤ due part
closed-few (Outside count) fits = skipped-few (card_count count)
closed-few (InList name count) fits = omega arith
closed-few (InProgram load group given) (is, fits) = behind-few given load group true is fits
closed-few Dropped fits = omega arith

opened-due : (load : Loaded) (o : Opener) → due (opened load o) ≤ of_program + 1
opened-due load (opener.List name) = omega arith
opened-due load (opener.Job name limit) = omega arith
opened-due load (opener.Run name file) = omega arith

opened-fit : (load : Loaded) (o : Opener) → IsLoaded load → IsLow o → IsFit (opened load o)
opened-fit load (opener.List name) is low = tt
opened-fit load (opener.Job name limit) is low = (is, opened-fits (opener.Job name limit) low)
opened-fit load (opener.Run name file) is low = (is, opened-fits (opener.Run name file) low)

added-few : (part : Where) (item : Item) (control : Bool) → length (added_lines part item control) ≤ 1
added-few (Outside count) item control = omega arith
added-few (InList name count) Spoiled control = omega arith
added-few (InList name count) (Line card) true = omega arith
added-few (InList name count) (Line card) false = omega arith
added-few (InProgram load group given) item control = omega arith
added-few Dropped item control = omega arith

added-due : (part : Where) (item : Item) (control : Bool) → due (added part item control) ≤ due part
added-due (Outside count) item control = omega arith
added-due (InList name count) Spoiled control = omega arith
added-due (InList name count) (Line card) true = omega arith
added-due (InList name count) (Line card) false = omega arith
added-due (InProgram load group given) item control = omega arith
added-due Dropped item control = omega arith

added-fit : (part : Where) (item : Item) (control : Bool) → IsFit part → IsItem item → IsFit (added part item control)
added-fit (Outside count) item control fits is = tt
added-fit (InList name count) Spoiled control fits is = tt
added-fit (InList name count) (Line card) true fits is = tt
added-fit (InList name count) (Line card) false fits is = tt
added-fit (InProgram load group given) item control (loaded, fits) is = (loaded, added-fits-by group.kept.fault group item (control_in item) fits is)
added-fit Dropped item control fits is = tt

-- ---- Item by item
end-few : (part : Where) (ended : Bool) → IsFit part → length (lines_ahead part [] [] ended) ≤ due part
end-few part true fits =
    let same = ap length (append-nil (part_lines part [] true) ∙ closed-lines part) in
    let few = closed-few part fits in
    omega (arith, same, few)
end-few (Outside count) false fits = omega arith
end-few (InList name count) false fits = omega arith
end-few (InProgram load group given) false (is, fits) =
    let same = ap length (append-nil (told_behind given load group false)) in
    let few = behind-few given load group false is fits in
    omega (arith, same, few)
end-few Dropped false fits = omega arith

-- what an opener takes of the loads
load-is : (o : Opener) (loads left : List Loaded) (load : Loaded) → load_for o loads ≡ Some (load, left) → AreLoaded loads → IsLoaded load × AreLoaded left
load-is (opener.List name) loads left load is are =
    (subst IsLoaded (same-load NoFile load loads left is) tt, subst AreLoaded (same-left NoFile load loads left is) are)
load-is (opener.Job name limit) loads left load is are =
    (subst IsLoaded (same-load NoFile load loads left is) tt, subst AreLoaded (same-left NoFile load loads left is) are)
load-is (opener.Run name file) [] left load is are = absurd cc
load-is (opener.Run name file) (first ∷ later) left load is are =
    (subst IsLoaded (same-load first load later left is) are.0, subst AreLoaded (same-left first load later left is) are.1)

-- an item gives some lines and leads to a part, or its file isn't loaded yet
record Led (part : Where) (item : Item) (loads : List Loaded) : Type 0 where
  pub gives : List (List ℕ)
  pub to : Where
  pub left : List Loaded
  pub fits : IsFit to
  pub loaded : AreLoaded left
  pub more : (more : List Item) (ended : Bool) → lines_ahead part (item ∷ more) loads ended ≡ gives ++ lines_ahead to more left ended
  pub few : length gives + due to ≤ due part + lines_of_an_item

abbrev Lacking : (part : Where) (item : Item) (loads : List Loaded) → Type 0
Lacking part item loads = (more : List Item) (ended : Bool) → lines_ahead part (item ∷ more) loads ended ≡ lines_ahead part [] [] false

and-first : (a b : Bool) → (a && b) ≡ true → a ≡ true
and-first true b e = refl
and-first false b e = absurd cc

and-second : (a b : Bool) → (a && b) ≡ true → b ≡ true
and-second true b e = e
and-second false b e = absurd cc

and-not : (a b : Bool) → a ≡ true → (a && b) ≡ false → b ≡ false
and-not true b e on = on
and-not false b e on = absurd cc

leads : (part : Where) (item : Item) (loads : List Loaded) → IsFit part → IsItem item → AreLoaded loads → Led part item loads ⊎ Lacking part item loads
leads part item loads fits is are = by (opener_in (control_in item)) refl (is_in_group part && ends_in (control_in item)) refl
  where
    with-load : (o : Opener) → opener_in (control_in item) ≡ Some o → (found : Option (Loaded × List Loaded)) → load_for o loads ≡ found
        → Led part item loads ⊎ Lacking part item loads
    with-load o e (Some (load, left)) found =
        let own = load-is o loads left load found are in
        inl (record {
          gives = closed_lines part ++ (heading (name_of o) ∷ []);
          to = opened load o;
          left = left;
          fits = opened-fit load o own.0 (opener-low item o e);
          loaded = own.1;
          more = λ more ended. opens part item o load more loads left ended e found
              ∙ sym (Rattle.std.proofs.Common.append_assoc (closed_lines part) (heading (name_of o) ∷ []) (lines_ahead (opened load o) more left ended));
          few =
              (let one = closed-few part fits in
              let whole = length-append (closed_lines part) (heading (name_of o) ∷ []) in
              let last = opened-due load o in
              omega (arith, one, whole, last));
        })
    with-load o e None found = inr (λ more ended. stops part item o more loads ended e found)

    by : (found : Option Opener) → opener_in (control_in item) ≡ found → (t : Bool) → (is_in_group part && ends_in (control_in item)) ≡ t
        → Led part item loads ⊎ Lacking part item loads
    by (Some o) e t ending = with-load o e (load_for o loads) refl
    by None e true ending = inl (record {
      gives =
          closed_lines part;
      to = Outside 0;
      left = loads;
      fits = tt;
      loaded = are;
      more = λ more ended. ends part item more loads ended (and-first _ _ ending) e (and-second _ _ ending);
      few = (let one = closed-few part fits in omega (arith, one));
    })
    by None e false on = inl (record {
      gives = added_lines part item (is_some (control_in item));
      to = added part item (is_some (control_in item));
      left = loads;
      fits = added-fit part item (is_some (control_in item)) fits is;
      loaded = are;
      more = λ more ended. plain part item more loads ended (λ group. and-not _ _ group on) e;
      few =
          (let one = added-few part item (is_some (control_in item)) in
          let last = added-due part item (is_some (control_in item)) in
          omega (arith, one, last));
    })

ahead-few : (part : Where) (items : List Item) (loads : List Loaded) (ended : Bool) → IsFit part → AreItems items → AreLoaded loads
    → length (lines_ahead part items loads ended) ≤ lines_of_an_item * length items + due part
ahead-few part [] loads ended fits are loaded = let few = end-few part ended fits in omega (arith, few)
ahead-few part (item ∷ items) loads ended fits are loaded =
    elim (leads part item loads fits are.0 loaded) [
      | inl led ↦
          (let rest = ahead-few led.to items led.left ended led.fits are.1 led.loaded in
          let few = led.few in
          let all = ap length (led.more items ended) ∙ length-append led.gives (lines_ahead led.to items led.left ended) in
          omega (arith, all, few, rest))
      | inr lacks ↦
          (let all = ap length (lacks items ended) in
          let few = end-few part false fits in
          omega (arith, all, few))
    ]

pub few-lines : (items : List Item) (loads : List Loaded) (ended : Bool) → AreItems items → AreLoaded loads
    → length (lines_so_far items loads ended) ≤ lines_of_an_item * length items + 1
few-lines items loads ended are loaded =
    let same = ap length (from-start items loads ended) in
    let few = ahead-few (Outside 0) items loads ended tt are loaded in
    omega (arith, same, few)

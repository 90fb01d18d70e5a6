-- What follows from what a stage made of what it took.
use Rattle.std.proofs.Common.{◌≡◌, List, [], ◌∷◌, ◌++◌, refl, sym, ap, ◌∙◌, append_assoc, append-nil, subst}
use Rattle.pipeline.specs.declared.parcel.Parcel.{Parcel}
use Rattle.pipeline.specs.declared.parcel.Parcel.TheVariants.{Item, End}
use Rattle.pipeline.specs.Rows.{items, whole, Leads, Goes, Closes, Gave}
use Rattle.pipeline.proofs.Parts.{whole-append, items-append, end_behind, items_first, whole_first}

-- ---- a stage on its way
pub goes_begins : {I O : Type 0} (gives : List I → List O) → Goes gives gives [] []
goes_begins gives = record { took = []; gave = []; taken_is = refl; sent_is = refl; ahead = λ later. refl }

-- it took an item, and has to give this before what is left
pub goes_took : {I O : Type 0} (gives left next : List I → List O) (taken : List (Parcel I)) (sent : List (Parcel O)) (x : I) (outs : List O)
    → Goes gives left taken sent → ((later : List I) → left (x ∷ later) ≡ outs ++ next later)
    → Goes gives (λ later. outs ++ next later) (taken ++ Item x ∷ []) sent
goes_took gives left next taken sent x outs g step = record {
  took = g.took ++ x ∷ [];
  gave = g.gave;
  taken_is = ap (λ t. t ++ Item x ∷ []) g.taken_is ∙ sym (items-append g.took (x ∷ []));
  sent_is = g.sent_is;
  ahead = λ later. ap gives (append_assoc g.took (x ∷ []) later) ∙ g.ahead (x ∷ later) ∙ ap (λ more. g.gave ++ more) (step later);
}

-- it gave the first of what it has to give
pub goes_gave : {I O : Type 0} (gives next : List I → List O) (taken : List (Parcel I)) (sent : List (Parcel O)) (outs part rest : List O)
    → outs ≡ part ++ rest → Goes gives (λ later. outs ++ next later) taken sent → Goes gives (λ later. rest ++ next later) taken (sent ++ items part)
goes_gave gives next taken sent outs part rest are g = record {
  took = g.took;
  gave = g.gave ++ part;
  taken_is = g.taken_is;
  sent_is = ap (λ s. s ++ items part) g.sent_is ∙ sym (items-append g.gave part);
  ahead = λ later. g.ahead later ∙ ap (λ more. g.gave ++ more)
      (ap (λ o. o ++ next later) are ∙ append_assoc part rest (next later)) ∙ sym (append_assoc g.gave part (rest ++ next later));
}

pub goes_leads : {I O : Type 0} (gives left : List I → List O) (taken : List (Parcel I)) (sent : List (Parcel O)) → Goes gives left taken sent
    → Leads gives taken sent
goes_leads gives left taken sent g =
    λ all f. (let of_all = items_first g.took all (record { later = f.later; all_are = f.all_are ∙ ap (λ t. t ++ f.later) g.taken_is }) in
    record {
      later = whole (left of_all.later);
      all_are = ap (λ xs. whole (gives xs)) of_all.all_are ∙ ap whole (g.ahead of_all.later) ∙ whole-append g.gave (left of_all.later)
          ∙ ap (λ s. s ++ whole (left of_all.later)) (sym g.sent_is);
    })

-- ---- a stage that took the end
pub closes_begins : {I O : Type 0} (gives left : List I → List O) (taken : List (Parcel I)) (sent : List (Parcel O)) (outs : List O)
    → Goes gives left taken sent → left [] ≡ outs → Closes gives outs (taken ++ End ∷ []) sent
closes_begins gives left taken sent outs g last = record {
  took = g.took;
  gave = g.gave;
  taken_is = ap (λ t. t ++ End ∷ []) g.taken_is ∙ end_behind g.took;
  sent_is = g.sent_is;
  ahead = ap gives (sym (append-nil g.took)) ∙ g.ahead [] ∙ ap (λ more. g.gave ++ more) last;
}

pub closes_gave : {I O : Type 0} (gives : List I → List O) (taken : List (Parcel I)) (sent : List (Parcel O)) (outs part rest : List O)
    → outs ≡ part ++ rest → Closes gives outs taken sent → Closes gives rest taken (sent ++ items part)
closes_gave gives taken sent outs part rest are c = record {
  took = c.took;
  gave = c.gave ++ part;
  taken_is = c.taken_is;
  sent_is = ap (λ s. s ++ items part) c.sent_is ∙ sym (items-append c.gave part);
  ahead = c.ahead ∙ ap (λ o. c.gave ++ o) are ∙ sym (append_assoc c.gave part rest);
}

pub closes_leads : {I O : Type 0} (gives : List I → List O) (left : List O) (taken : List (Parcel I)) (sent : List (Parcel O))
    → Closes gives left taken sent → Leads gives taken sent
closes_leads gives left taken sent c =
    λ all f. (let same = whole_first c.took all (record { later = f.later; all_are = f.all_are ∙ ap (λ t. t ++ f.later) c.taken_is }) in
    record {
      later = whole left;
      all_are = ap (λ xs. whole (gives xs)) same ∙ ap whole c.ahead ∙ whole-append c.gave left ∙ ap (λ s. s ++ whole left) (sym c.sent_is);
    })

pub closed_leads : {I O : Type 0} (gives : List I → List O) (taken : List (Parcel I)) (sent : List (Parcel O))
    → Closes gives [] taken sent → Leads gives taken (sent ++ End ∷ [])
closed_leads gives taken sent c =
    λ all f. (let same = whole_first c.took all (record { later = f.later; all_are = f.all_are ∙ ap (λ t. t ++ f.later) c.taken_is }) in
    record {
      later = [];
      all_are = ap (λ xs. whole (gives xs)) same ∙ ap whole c.ahead ∙ whole-append c.gave []
          ∙ ap (λ s. s ++ End ∷ []) (sym c.sent_is) ∙ sym (append-nil (sent ++ End ∷ []));
    })

-- ---- what is put
pub gave_none : {T : Type 0} (outs : List T) (before : List (Parcel T)) → Gave outs outs before before
gave_none outs before = record { part = []; are = refl; sent = sym (append-nil before) }

pub gave_more : {T : Type 0} (outs old new : List T) (x : T) (before middle after : List (Parcel T)) → Gave outs old before middle
    → old ≡ x ∷ new → after ≡ middle ++ Item x ∷ [] → Gave outs new before after
gave_more outs old new x before middle after g is put = record {
  part = g.part ++ x ∷ [];
  are = g.are ∙ ap (λ o. g.part ++ o) is ∙ sym (append_assoc g.part (x ∷ []) new);
  sent = put ∙ ap (λ s. s ++ Item x ∷ []) g.sent ∙ append_assoc before (items g.part) (Item x ∷ [])
      ∙ ap (λ s. before ++ s) (sym (items-append g.part (x ∷ [])));
}

pub gave_so : {T : Type 0} (outs old new : List T) (before after now : List (Parcel T)) → Gave outs old before after → old ≡ new → now ≡ after
    → Gave outs new before now
gave_so outs old new before after now g is same = record { part = g.part; are = g.are ∙ ap (λ o. g.part ++ o) is; sent = same ∙ g.sent }

-- ---- a turn: an item was taken, and what the stage gives for it is put
pub turn_goes : {I O : Type 0} (gives left next : List I → List O) (taken : List (Parcel I)) (before after : List (Parcel O)) (x : I) (none outs : List O)
    → none ≡ [] → ((later : List I) → none ++ left (x ∷ later) ≡ outs ++ next later) → Gave outs [] before after
    → Goes gives left taken before → Goes gives next (taken ++ Item x ∷ []) after
turn_goes gives left next taken before after x none outs empty step g goes =
    let at : Goes gives (λ later. outs ++ next later) (taken ++ Item x ∷ []) before
    = goes_took gives left next taken before x outs goes (λ later. ap (λ o. o ++ left (x ∷ later)) (sym empty) ∙ step later) in
    subst (λ s. Goes gives next (taken ++ Item x ∷ []) s) (sym g.sent)
    (goes_gave gives next (taken ++ Item x ∷ []) before outs g.part [] g.are at)

pub turn_broke : {I O : Type 0} (gives left next : List I → List O) (taken : List (Parcel I)) (before after : List (Parcel O)) (x : I) (none outs rest : List O)
    → none ≡ [] → ((later : List I) → none ++ left (x ∷ later) ≡ outs ++ next later) → Gave outs rest before after
    → Goes gives left taken before → Leads gives (taken ++ Item x ∷ []) after
turn_broke gives left next taken before after x none outs rest empty step g goes =
    let at : Goes gives (λ later. outs ++ next later) (taken ++ Item x ∷ []) before
    = goes_took gives left next taken before x outs goes (λ later. ap (λ o. o ++ left (x ∷ later)) (sym empty) ∙ step later) in
    subst (λ s. Leads gives (taken ++ Item x ∷ []) s) (sym g.sent)
    (goes_leads gives (λ later. rest ++ next later) (taken ++ Item x ∷ []) (before ++ items g.part) (goes_gave gives next (taken ++ Item x ∷ []) before outs g.part rest g.are at))

-- it took an item and put nothing for it
pub turn_stayed : {I O : Type 0} (gives left : List I → List O) (taken : List (Parcel I)) (before : List (Parcel O)) (x : I)
    → Goes gives left taken before → Leads gives (taken ++ Item x ∷ []) before
turn_stayed gives left taken before x goes = goes_leads gives (λ later. left (x ∷ later)) (taken ++ Item x ∷ []) before
    (goes_took gives left (λ later. left (x ∷ later)) taken before x [] goes (λ later. refl))

-- ---- the last turn: the end was taken
pub last_closes : {I O : Type 0} (gives left : List I → List O) (taken : List (Parcel I)) (before after : List (Parcel O)) (none outs : List O)
    → none ≡ [] → none ++ left [] ≡ outs → Gave outs [] before after → Goes gives left taken before → Leads gives (taken ++ End ∷ []) (after ++ End ∷ [])
last_closes gives left taken before after none outs empty step g goes =
    let at = closes_begins gives left taken before outs goes (ap (λ o. o ++ left []) (sym empty) ∙ step) in
    subst (λ s. Leads gives (taken ++ End ∷ []) (s ++ End ∷ [])) (sym g.sent)
    (closed_leads gives (taken ++ End ∷ []) (before ++ items g.part) (closes_gave gives (taken ++ End ∷ []) before outs g.part [] g.are at))

pub last_broke : {I O : Type 0} (gives left : List I → List O) (taken : List (Parcel I)) (before after : List (Parcel O)) (none outs rest : List O)
    → none ≡ [] → none ++ left [] ≡ outs → Gave outs rest before after → Goes gives left taken before → Leads gives (taken ++ End ∷ []) after
last_broke gives left taken before after none outs rest empty step g goes =
    let at = closes_begins gives left taken before outs goes (ap (λ o. o ++ left []) (sym empty) ∙ step) in
    subst (λ s. Leads gives (taken ++ End ∷ []) s) (sym g.sent)
    (closes_leads gives rest (taken ++ End ∷ []) (before ++ items g.part) (closes_gave gives (taken ++ End ∷ []) before outs g.part rest g.are at))

pub last_stayed : {I O : Type 0} (gives left : List I → List O) (taken : List (Parcel I)) (before : List (Parcel O))
    → Goes gives left taken before → Leads gives (taken ++ End ∷ []) before
last_stayed gives left taken before goes = closes_leads gives (left []) (taken ++ End ∷ []) before (closes_begins gives left taken before (left []) goes refl)

pub goes_at : {I O : Type 0} (gives left : List I → List O) (taken took : List (Parcel I)) (sent put : List (Parcel O)) → took ≡ taken → put ≡ sent
    → Goes gives left taken sent → Goes gives left took put
goes_at gives left taken took sent put t s goes = rw (t, s) goes

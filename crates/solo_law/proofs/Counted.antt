-- What holds of a place and of four counts, at three buffers, holds along each history without a cause.
use Rattle.std.proofs.Common.{◌≡◌, ℕ, ◌+◌, Bool, List, ◌∷◌, ◌++◌, length, map, None, sym, ◌∙◌, ap, subst}
use Rattle.std.proofs.lemmas.List.{append-nil}
use Rattle.solo_base.specs.declared.outcome.Side.{Side}
use Rattle.network_law.specs.Acts.{Call, Went, Delayed, Act, moved, moved_by}
use Rattle.network_law.specs.Network.{acts}
use Rattle.network_law.specs.Network as law
use Rattle.place_law.specs.Process.{Entry, place, caused, given_cause}
use Rattle.place_law.specs.Table.{Table, network_of}
use Rattle.place_law.proofs.Moved.{moved-so}
use Rattle.exchange_law.specs.Phases.{trues, falses}
use Rattle.exchange_law.proofs.Marks.{trues-append, falses-append, length-append}
use Rattle.exchange_law.proofs.Counted.{map-append, none-delayed, marks_at, marks_by}

module _ {Devices Action Reply Parcel : Type 0} (t : Table Devices Action Reply Parcel) (p a q r : ℕ) (sa sq sr : Side)
    (Is : (t.process p).Place → ℕ → ℕ → ℕ → ℕ → Type 0) (first : Is (t.process p).start 0 0 0 0)
    (step : (at : (t.process p).Place) (reply : Reply) (o d l n : ℕ) → t.view.Fits ((t.process p).does at) reply
    → given_cause t.view (t.process p) at ((t.process p).does at) reply ≡ None → Is at o d l n
    → Is ((t.process p).behind at reply)
    (o + falses (marks_by t.mark a sa ((t.process p).calls ((t.process p).does at)) (t.view.went ((t.process p).does at) reply)))
    (d + trues (marks_by t.mark a sa ((t.process p).calls ((t.process p).does at)) (t.view.went ((t.process p).does at) reply)))
    (l + trues (marks_by t.mark q sq ((t.process p).calls ((t.process p).does at)) (t.view.went ((t.process p).does at) reply)))
    (n + length (marks_by t.mark r sr ((t.process p).calls ((t.process p).does at)) (t.view.went ((t.process p).does at) reply)))) where
  abbrev Stands : (t.process p).Place → List Bool → List Bool → List Bool → Type 0
  Stands at xs ps rs = Is at (falses xs) (trues xs) (trues ps) (length rs)

  grown : (at : (t.process p).Place) (xs ps rs am pm rm : List Bool)
      → Is at (falses xs + falses am) (trues xs + trues am) (trues ps + trues pm) (length rs + length rm) → Stands at (xs ++ am) (ps ++ pm) (rs ++ rm)
  grown at xs ps rs am pm rm is =
      subst (λ x. Is at x (trues (xs ++ am)) (trues (ps ++ pm)) (length (rs ++ rm))) (sym (falses-append xs am))
      (subst (λ x. Is at (falses xs + falses am) x (trues (ps ++ pm)) (length (rs ++ rm))) (sym (trues-append xs am))
      (subst (λ x. Is at (falses xs + falses am) (trues xs + trues am) x (length (rs ++ rm))) (sym (trues-append ps pm))
      (subst (λ x. Is at (falses xs + falses am) (trues xs + trues am) (trues ps + trues pm) x) (sym (length-append rs rm)) is)))

  along : (at : (t.process p).Place) (x x' y y' z z' : List Bool) → x ≡ x' → y ≡ y' → z ≡ z' → Stands at x y z → Stands at x' y' z'
  along at x x' y y' z z' ex ey ez is =
      subst (λ m. Stands at m y' z') ex (subst (λ m. Stands at x m z') ey (subst (λ m. Stands at x y m) ez is))

  abbrev OfActs : (t.process p).Place → List (Act Parcel) → Type 0
  OfActs at acts = Stands at (marks_at t.mark a sa acts) (marks_at t.mark q sq acts) (marks_at t.mark r sr acts)

  abbrev more : ℕ → Side → Call → Went Parcel → List (Act Parcel) → List Bool
  more b side c w acts = marks_at t.mark b side (record { call = c; went = w } ∷ acts)

  joined : (b : ℕ) (side : Side) (c : Call) (w : Went Parcel) (acts : List (Act Parcel))
      → marks_at t.mark b side acts ++ marks_by t.mark b side c w ≡ more b side c w acts
  joined b side c w acts = sym (map-append t.mark (moved b side acts) (moved_by b side c w))

  same : (b : ℕ) (side : Side) (c : Call) (acts : List (Act Parcel)) → marks_at t.mark b side acts ≡ more b side c Delayed acts
  same b side c acts = ap (map t.mark) (sym (append-nil (moved b side acts)) ∙ ap (λ none. moved b side acts ++ none) (sym (none-delayed b side c)))

  pub counted : (h : List (Entry Action Reply)) → law.Follows (network_of t) p h → caused t.view (t.process p) h ≡ None
      → OfActs (place (t.process p) h) (acts (network_of t) p h)
  counted h follows none =
      moved-so t p OfActs first
      (λ at reply before fits free is.
      let c = (t.process p).calls ((t.process p).does at) in
      let w = t.view.went ((t.process p).does at) reply in
      along ((t.process p).behind at reply) _ _ _ _ _ _ (joined a sa c w before) (joined q sq c w before) (joined r sr c w before)
      (grown ((t.process p).behind at reply) (marks_at t.mark a sa before) (marks_at t.mark q sq before) (marks_at t.mark r sr before)
      (marks_by t.mark a sa c w) (marks_by t.mark q sq c w) (marks_by t.mark r sr c w) (step at reply _ _ _ _ fits free is)))
      (λ at c before is. along at _ _ _ _ _ _ (same a sa c before) (same q sq c before) (same r sr c before) is)
      h follows none

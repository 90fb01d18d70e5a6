-- Both ends of a spool meet.
use Rattle.std.proofs.Common.{◌≡◌, ℕ, ◌-◌, Option, List, [], ◌++◌, map, length, take, sym, ap, ◌∙◌, subst, arith}
use Rattle.std.proofs.lemmas.List.{length-append, length-map, take-map}
use Rattle.std.proofs.Math.Seq.{take-append_seam}
use Rattle.std.specs.declared.snapshot.Snapshot.{Snapshot}
use Rattle.solo_base.specs.declared.outcome.Side.{Side}
use Rattle.solo_base.specs.declared.outcome.Side.TheVariants.{Sender, Receiver}
use Rattle.solo_base.specs.declared.page.Page.{Page}
use Rattle.queue_var.specs.Sides.{stopped_by}
use Rattle.queue_var.specs.BetweenTwo.{by_side, calls_of}
use Rattle.queue_var.proofs.BetweenTwo.{calls-met, who-stopped}
use Rattle.monitor_gate.specs.Views.{entries_of}
use Rattle.monitor_gate.specs.Ends.{PassView, joined, lists_of}
use Rattle.monitor_gate.specs.Calls.{calls_in}
use Rattle.monitor_gate.proofs.Pairs.{paired}
use Rattle.disk_spool.specs.declared.call.SpoolCall.{SpoolCall}
use Rattle.disk_spool.specs.Places.{length_at_places}
use Rattle.disk_spool.specs.Spool.{Spool, mark, received_mark, received_page, pages_inside}
use Rattle.disk_spool.specs.Calls.{IsTied, HaveFound, value, sent_of, taken_of}
use Rattle.disk_spool.specs.Ends.{Meets, MeetsRoom, without_last}

-- what comes before the last so many
front : {X : Type 0} (taken inside all : List X) (left : ℕ) → taken ++ inside ≡ all → length inside ≡ left → taken ≡ without_last left all
front taken inside all left is count =
    let long = length-append taken inside in
    let n : length (taken ++ inside) - length inside ≡ length taken = omega (arith, long) in
    rw (sym is, sym count) (sym (ap (λ k. take k (taken ++ inside)) n ∙ take-append_seam taken inside))

module _ {A : Type 0} (told_by : A → Option (List (List ℕ))) (faults : A → ℕ) (room : ℕ) (opening : A) where
  met : (calls : Side → List (SpoolCall (List ℕ))) (state : Spool A) (left : ℕ) (by : Option Side) → IsTied told_by faults room opening calls state → left ≡ length state.ring.marks → by ≡ stopped_by state.sides → Meets told_by faults opening state.area calls left by
  met calls state left by tied count first =
      let sent = sent_of (calls Sender) in
      let marks = tied.stands.marks.in_order in
      let long = length-append (map received_mark (taken_of (calls Receiver))) state.ring.marks in
      let all = ap length marks ∙ length-map sent mark in record {
        marks = front (map received_mark (taken_of (calls Receiver))) state.ring.marks (map mark sent) left marks (sym count) ∙ ap (λ n. take (n - left) (map mark sent)) (length-map sent mark) ∙ take-map mark _ sent;
        pages = λ told is. front (map received_page (taken_of (calls Receiver))) (pages_inside told state.ring) sent left (tied.stands.pages told is) (length_at_places [] told state.ring.capacity state.ring.first (length state.ring.marks) ∙ sym count);
        few = omega arith;
        stopped = who-stopped _ _ state.sides by tied.sides first;
        nothing_left = λ told. count ∙ ap length (tied.nothing_left told);
        of_area = tied.area;
        tells = tied.tells;
      }

  pub meets : (pass other into : PassView (Spool A) (SpoolCall (Snapshot Page))) (state : Spool A) (left : ℕ) (by : Option Side) → into ≡ joined pass other → pass.view.number ≡ 1 → other.view.number ≡ 2 → pass.view.joined ≡ []
      → IsTied told_by faults room opening (calls_of value (entries_of (lists_of into))) state → left ≡ length state.ring.marks → by ≡ stopped_by state.sides → Meets told_by faults opening state.area (by_side (calls_in value pass) (calls_in value other)) left by
  meets pass other into state left by is one two alone tied count first =
      let entries = paired pass other one two alone in
      let calls = ap (λ p. calls_of value (entries_of (lists_of p))) is ∙ calls-met value (entries_of (lists_of (joined pass other))) pass.view.entries other.view.entries entries.0 entries.1 in
      met (by_side (calls_in value pass) (calls_in value other)) state left by (subst (λ c. IsTied told_by faults room opening c state) calls tied) count first

  pub meets-room : (pass other into : PassView (Spool A) (SpoolCall (Snapshot Page))) (state : Spool A) (left : ℕ) → into ≡ joined pass other → pass.view.number ≡ 1 → other.view.number ≡ 2 → pass.view.joined ≡ []
      → IsTied told_by faults room opening (calls_of value (entries_of (lists_of into))) state → left ≡ length state.ring.marks → MeetsRoom room (by_side (calls_in value pass) (calls_in value other)) left
  meets-room pass other into state left is one two alone tied count =
      let entries = paired pass other one two alone in
      let calls = ap (λ p. calls_of value (entries_of (lists_of p))) is ∙ calls-met value (entries_of (lists_of (joined pass other))) pass.view.entries other.view.entries entries.0 entries.1 in
      record {
        within = (let few = tied.stands.marks.within in let same = tied.capacity in omega (arith, few, same, count));
        found = subst (λ c. HaveFound room c) calls tied.found;
      }

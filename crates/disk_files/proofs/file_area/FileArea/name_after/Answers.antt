use Rattle.std.proofs.Common.{◌<◌, ◌∙◌, length, refl, ap, subst, sym, IfOk, arith, Ok}
use Rattle.std.specs.Prelude.{slice_index_or}
use Rattle.std.specs.Option.{option_copied}
use Rattle.solo_base.specs.Ident.{identifier}
use Rattle.disk_layout.specs.Files.{files}
use Rattle.disk_layout.specs.Layout.{blank_entry}
use Rattle.disk_layout.specs.Names.{IsNameAfter, IsNextBelow}
use Rattle.disk_files.proofs.LookupAnswers.{ident_kept, name_found, next_name}
use Rattle.disk_files.proofs.file_area.FileArea.name_after.Goals as goal
use Rattle.disk_files.proofs.file_area.FileArea.name_after.Goals.{in-Some, in-None}

pub returns-clause-answer : goal.returns-clause-answer
returns-clause-answer g c = λ pages told.
    let laid = c.self.invariant.laid (ap (λ v. v.sound) c.self.view_is ∙ c.requires) pages (ap (λ v. g.A.Area.pages v.area) c.self.view_is ∙ told) in
    let kept = c.self.inside.entries in
    let next = subst (λ a. IsNextBelow kept a (length kept) c.place_after.result) c.bytes_of.ensures c.place_after.ensures in
    let found = next_name _ _ pages laid (option_copied c.args.after) (length kept) c.place_after.result refl next in
    elim c.match-place_after.branch [
      | in-Some w ↦
          let p = w.in-Some.place in
          let its = subst (IsNextBelow kept (option_copied c.args.after) (length kept)) w.in-Some.is next in
          let below : p < 240 = omega (arith, its.0, laid.places) in
          let name = w.of.ensures ∙ ap identifier w.trim_end.ensures
          ∙ ident_kept (slice_index_or kept p blank_entry) (c.self.invariant.entries p below) its.1 in
          subst (λ r. IfOk r (IsNameAfter (files pages) (option_copied c.args.after))) (sym (w.result-is ∙ ap Ok name))
          (subst (λ n. IsNameAfter (files pages) (option_copied c.args.after) (name_found kept n)) w.in-Some.is found)
      | in-None w ↦ subst (λ r. IfOk r (IsNameAfter (files pages) (option_copied c.args.after))) (sym w.result-is)
          (subst (λ n. IsNameAfter (files pages) (option_copied c.args.after) (name_found kept n)) w.in-None.is found)
    ]

use Rattle.std.proofs.Common.{◌+◌, ◌∙◌, sym, subst, arith}
use Rattle.std.proofs.lemmas.Bool.{false≢true}
use Rattle.disk_layout.specs.Judging.{EntryStands, JudgedBelow}
use Rattle.disk_layout.proofs.LeastBad.{judged_over}
use Rattle.disk_layout.proofs.JudgedEntries.{read_on, kept_on}
use Rattle.disk_layout.proofs.catalogue_judge.judge_entry.Goals as goal

pub returns-clause-judged : goal.returns-clause-judged
returns-clause-judged c = λ d has read j.
    let is = has.entry ∙ sym c.read-entry.ensures in (
      read_on d c.args.place _ _ (omega (arith, c.requires.place, c.requires.places)) is read,
      subst (JudgedBelow (EntryStands d) (c.args.place + 1)) (sym c.note_bad.ensures)
          (judged_over (EntryStands d) c.args.place c.args.bad.now c.stands-right.result
          (λ all e. (c.stands-right.ensures.judged d is has read all).0 e)
          (λ all e keeps. false≢true (sym e ∙ (c.stands-right.ensures.judged d is has read all).1 keeps)) j),
    )

pub returns-clause-kept : goal.returns-clause-kept
returns-clause-kept c =
    kept_on c.args.place _ _ c.args.bad.now _ c.stands-right.result (omega (arith, c.requires.place, c.requires.places)) c.note_bad.ensures
    c.stands-right.ensures.kept

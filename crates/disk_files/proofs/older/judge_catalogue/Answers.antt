use Rattle.std.proofs.Common.{◌∙◌, refl, sym, subst, inr}
use Rattle.disk_layout.specs.Disk.{disk_of}
use Rattle.disk_layout.specs.Judging.{EntryStands, SearchesAreRight, JudgedBelow}
use Rattle.disk_layout.proofs.LeastBad.{judged_both, earlier_none}
use Rattle.disk_layout.proofs.JudgedDisk.{entry_right}
use Rattle.disk_layout.proofs.JudgedOlder.{catalogue1_bad}
use Rattle.disk_files.proofs.older.judge_catalogue.Goals as goal

pub returns-in-Some-clause-judged : goal.returns-in-Some-clause-judged
returns-in-Some-clause-judged g c = λ pages told first.
    let read = c.in_ok-read_catalogue.ensures.judged pages told in
    let both = judged_both (EntryStands (disk_of pages)) (SearchesAreRight (disk_of pages)) 240 _ _ read.1 (c.judge_searches.ensures (disk_of pages) read.0) in
    let bad = subst (JudgedBelow (λ p. EntryStands (disk_of pages) p × SearchesAreRight (disk_of pages) p) 240) (sym c.earlier.ensures ∙ c.in-Some.is) both in
    inr (inr (_, refl, catalogue1_bad pages first c.in-Some.place bad))

pub returns-in-None-clause-judged : goal.returns-in-None-clause-judged
returns-in-None-clause-judged g c = λ pages told first.
    let read = c.in_ok-read_catalogue.ensures.judged pages told in
    let both = judged_both (EntryStands (disk_of pages)) (SearchesAreRight (disk_of pages)) 240 _ _ read.1 (c.judge_searches.ensures (disk_of pages) read.0) in
    let good = subst (JudgedBelow (λ p. EntryStands (disk_of pages) p × SearchesAreRight (disk_of pages) p) 240) (sym c.earlier.ensures ∙ c.in-None.is) both in
    (read.0, λ p below. entry_right (disk_of pages) p (good p below))

pub returns-in-None-clause-kept : goal.returns-in-None-clause-kept
returns-in-None-clause-kept g c = c.in_ok-read_catalogue.ensures.kept (earlier_none _ _ (sym c.earlier.ensures ∙ c.in-None.is))

use Rattle.std.proofs.Common.{◌∙◌, get_or, sym, ap, subst}
use Rattle.std.specs.Prelude.{MatchOption}
use Rattle.disk_layout.specs.Disk.{disk_of}
use Rattle.disk_layout.specs.Format.{IsSoloDisk, IsBad}
use Rattle.disk_layout.proofs.JudgedDisk.{disk_judged}
use Rattle.disk_files.proofs.Mounted.{laid_by_map, marked_read, refuses}
use Rattle.disk_files.proofs.mount.judge_map.Goals as goal

pub returns-in-Some-clause-judged : goal.returns-in-Some-clause-judged
returns-in-Some-clause-judged g c = λ pages told first read right roles judged.
    let low = c.in_ok-read.ensures.page pages told in
    let high = c.in_ok-read-2.ensures.page pages (c.in_ok-read.ensures.left ∙ told) in
    let found = disk_judged pages first right c.judge_bits.result c.ends_in_zeros.result c.args.bad_page
    (c.judge_bits.ensures.newer (disk_of pages) (λ n _. marked_read pages _ _ n low high) roles)
    (λ e k behind. ap (λ b. get_or b k 0) (sym high) ∙ c.ends_in_zeros.ensures.zeros e k behind)
    (λ e zeros. c.ends_in_zeros.ensures.not e (λ k behind. ap (λ b. get_or b k 0) high ∙ zeros k behind)) judged in
    refuses pages _ c.in-Some.page (IsSoloDisk pages) (sym c.least_page.ensures ∙ c.in-Some.is) found

pub returns-in-None-clause-judged : goal.returns-in-None-clause-judged
returns-in-None-clause-judged g c = λ pages told first read right roles judged.
    let told_2 = c.in_ok-read.ensures.left ∙ told in
    let low = c.in_ok-read.ensures.page pages told in
    let high = c.in_ok-read-2.ensures.page pages told_2 in
    let found = disk_judged pages first right c.judge_bits.result c.ends_in_zeros.result c.args.bad_page
    (c.judge_bits.ensures.newer (disk_of pages) (λ n _. marked_read pages _ _ n low high) roles)
    (λ e k behind. ap (λ b. get_or b k 0) (sym high) ∙ c.ends_in_zeros.ensures.zeros e k behind)
    (λ e zeros. c.ends_in_zeros.ensures.not e (λ k behind. ap (λ b. get_or b k 0) high ∙ zeros k behind)) judged in
    let solo = subst (λ x. MatchOption x (IsSoloDisk pages) (IsBad pages)) (sym c.least_page.ensures ∙ c.in-None.is) found in
    let size = c.requires.told pages told in
    laid_by_map c.args.entries.now c.of_pages.result pages _ _ (size ∙ c.requires.size) c.requires.places low high read c.of_pages.ensures solo

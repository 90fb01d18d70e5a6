use Rattle.std.proofs.Common.{◌≡◌, ◌≢◌, ◌+◌, ◌/◌, ◌%◌, ◌∙◌, refl, ap, sym, subst, true}
use Rattle.std.specs.FinSet as set
use Rattle.disk_layout.specs.Disk.{number_of}
use Rattle.disk_layout.specs.Format.{IsAddress}
use Rattle.disk_layout.specs.Appending.PartFor.{There}
use Rattle.disk_files.proofs.Numbers.{on_ok}
use Rattle.disk_layout.proofs.Written.{number_read}
use Rattle.disk_files.proofs.append.append_in.Goals as goal

pub returns-clause-wrote : goal.returns-clause-wrote
returns-clause-wrote g c = λ pages told grow index_is count_is.
    let free : IsAddress (number_of pages c.args.i (c.args.count / 250 + 1)) = subst (λ n. n % 250 ≢ 0
    → IsAddress (number_of pages c.args.i (n / 250 + 1))) (sym count_is) grow.part c.requires.begun in
    let taken : set.contains c.args.map.now (number_of pages c.args.i (c.args.count / 250 + 1)) ≡ true =
    subst (λ n. n % 250 ≢ 0 → set.contains c.args.map.now (number_of pages c.args.i (n / 250 + 1)) ≡ true) (sym count_is) grow.part_taken c.requires.begun in
    let apart : c.args.i ≢ number_of pages c.args.i (c.args.count / 250 + 1) = subst (λ n. n % 250 ≢ 0
    → c.args.i ≢ number_of pages c.args.i (n / 250 + 1)) (sym count_is) grow.apart c.requires.begun in
    let is : c.number.result ≡ number_of pages c.args.i (c.args.count / 250 + 1) = number_read pages _ _ _ _ _ _ c.number.ensures refl index_is refl in
    let q_is : c.file_page-q.result ≡ number_of pages c.args.i (c.args.count / 250 + 1) = c.file_page-q.ensures.same (subst IsAddress (sym is) free) ∙ is in
    on_ok c.put_page.result _ _
    (λ w. (
      w.0,
      w.2,
      record {
        part_page = c.file_page-q.result;
        file_page = w.1;
        with_part = c.args.map.now;
        part = c.read.new.page.0;
        part_free = c.file_page-q.ensures.file;
        file_free = w.4;
        part_for = There c.requires.begun q_is refl (c.in_ok-read.ensures.page pages told);
        least = w.3;
        taken_is = w.5;
        writes = w.6;
      },
    ))
    (c.put_page.ensures.wrote pages (c.in_ok-read.ensures.left
    ∙ told) grow.as_many (λ e. apart (e ∙ q_is)) grow.index_taken (ap (set.contains c.args.map.now) q_is ∙ taken))

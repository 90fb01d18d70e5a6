use Rattle.std.proofs.Common.{◌∙◌}
use Rattle.disk_layout.specs.Disk.{disk_of}
use Rattle.disk_layout.proofs.JudgedMaps.{maps_begin}
use Rattle.disk_files.proofs.older.judge_rest.Goals as goal

pub returns-clause-judged : goal.returns-clause-judged
returns-clause-judged g c = λ pages told first.
    let catalogue = c.in_ok-judge_catalogue.ensures.judged pages told first in
    let told_2 = c.in_ok-judge_catalogue.ensures.left ∙ told in
    let noted = maps_begin (disk_of pages) _ (c.note_indexes.ensures (disk_of pages) catalogue.0) in
    let maps = c.in_ok-bad_page.ensures.judged pages told_2 noted in
    c.judge_map.ensures.judged pages (c.in_ok-bad_page.ensures.left ∙ told_2) first catalogue.0 catalogue.1 maps.0 maps.1

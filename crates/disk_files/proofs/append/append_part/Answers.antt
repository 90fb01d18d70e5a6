use Rattle.std.proofs.Common.{◌≡◌, ◌≢◌, ◌||◌, ◌==◌, Bool, ◌∙◌, refl, ap, sym, true, false, arith}
use Rattle.std.specs.FinSet as set
use Rattle.std.proofs.lemmas.Bool.{false≢true, eq-eqb}
use Rattle.disk_pages.proofs.MarkedPages.{insert_is, len_one_more}
use Rattle.disk_layout.specs.Appending.PartFor.{Fresh}
use Rattle.disk_files.proofs.Numbers.{on_ok}
use Rattle.disk_files.proofs.append.append_part.Goals as goal

or_true : (b : Bool) → (b || true) ≡ true
or_true true = refl
or_true false = refl

pub put_page-requires-clause-room : goal.put_page-requires-clause-room
put_page-requires-clause-room g c =
    let more = len_one_more c.args.map.now c.take-q.result c.take-q.ensures.least.free in
    let is = ap set.len c.take-q.ensures.taken in omega (arith, more, is, c.requires.room)

pub returns-clause-wrote : goal.returns-clause-wrote
returns-clause-wrote g c = λ pages told size i_taken.
    let least = c.take-q.ensures.least in
    let apart : c.args.i ≢ c.take-q.result = λ e. false≢true (sym least.free ∙ ap (set.contains c.args.map.now) (sym e) ∙ i_taken) in
    let i_then : set.contains c.take-q.new.map c.args.i ≡ true =
    ap (λ s. set.contains s c.args.i) c.take-q.ensures.taken ∙ insert_is c.args.map.now c.take-q.result c.args.i
    ∙ ap (λ b. (c.args.i == c.take-q.result) || b) i_taken ∙ or_true _ in
    let q_then : set.contains c.take-q.new.map c.take-q.result ≡ true =
    ap (λ s. set.contains s c.take-q.result) c.take-q.ensures.taken ∙ insert_is c.args.map.now c.take-q.result c.take-q.result
    ∙ ap (λ b. b || set.contains c.args.map.now c.take-q.result) (eq-eqb c.take-q.result c.take-q.result refl) in
    on_ok c.put_page.result _ _
    (λ w. (
      w.0,
      w.2,
      record {
        part_page = c.take-q.result;
        file_page = w.1;
        with_part = c.take-q.new.map;
        part = c.zeros-part.result.0;
        part_free = c.take-q.ensures.free;
        file_free = w.4;
        part_for = Fresh c.requires.full least c.take-q.ensures.taken c.zeros-part.ensures;
        least = w.3;
        taken_is = w.5;
        writes = w.6;
      },
    ))
    (c.put_page.ensures.wrote pages told size apart i_then q_then)

use Rattle.std.proofs.Common.{◌≡◌, ◌+◌, ◌-◌, ◌<◌, ◌++◌, ◌∙◌, ap, refl, sym, subst, get_or, take, arith, [], List, ℕ}
use Rattle.std.specs.List.{concat}
use Rattle.disk_files.proofs.Kept.{faults_then, no_faults}
use Rattle.disk_system.proofs.Stored.{pages_all, pages_on}
use Rattle.file_commands.proofs.Reading.{HasRead, nothing-read, reads-on, lines-read}
use Rattle.file_commands.proofs.copying.lines_of_file.Goals as goal

pub loop-place-init : goal.loop-place-init
loop-place-init g c = record {
  sound = c.requires;
  left = refl;
  faults = no_faults _ tt;
  read = λ told file is named all. nothing-read c.new-text.result c.new-text.ensures.nothing c.new-text.ensures.going;
}

pub loop-place-preserved : goal.loop-place-preserved
loop-place-preserved g c = record {
  sound = c.in_ok-read_page.ensures.sound;
  left = c.read_page.ensures.left ∙ c.loop-place.invariant.left;
  faults = faults_then _ _ _ _ _ c.loop-place.invariant.faults c.in_ok-read_page.ensures.cause;
  read = λ told file is named all.
      let below : c.loop-place.place < c.args.pages = c.loop-place-test.true in
      let here : c.loop-place.place + 1 - 1 ≡ c.loop-place.place = omega arith in
      let on = c.in_ok-read_page.ensures.read told file (c.loop-place.invariant.left ∙ is) named (omega arith) (omega (arith, below, all)) in
      subst (λ (bytes : List ℕ). HasRead bytes c.read_page.new.text)
      (ap (λ k. concat (take c.loop-place.place file.pages) ++ get_or file.pages k []) here
      ∙ sym (pages_on file.pages c.loop-place.place (omega (arith, below, all))))
      (reads-on (concat (take c.loop-place.place file.pages)) (get_or file.pages (c.loop-place.place + 1 - 1) []) c.loop-place.text c.read_page.new.text
      (c.loop-place.invariant.read told file is named all) on);
}

pub returns-in-Ok-clause-lines : goal.returns-in-Ok-clause-lines
returns-in-Ok-clause-lines g c = λ told file is named all.
    lines-read file (concat (take c.loop-place.place file.pages)) c.loop-place.text c.in-Ok.lines (c.loop-place.invariant.read told file is named all)
    (pages_all file.pages c.loop-place.place (omega (arith, c.loop-place-test.false, c.loop-place.auto.place-end, all))) c.in-Ok.ensures

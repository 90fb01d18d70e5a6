use Rattle.std.proofs.Common.{◌+◌, ◌*◌, ◌∙◌, ap, sym, refl, inl, inr, arith}
use Rattle.std.proofs.lemmas.Bool.{cases_eq}
use Rattle.solo_base.specs.PageBytes.{number_at}
use Rattle.disk_layout.proofs.Written.{number_kept}
use Rattle.disk_system.proofs.PartsAdded.{blank_number}
use Rattle.disk_system.proofs.parts.part_of.Goals as goal

pub loop-j-init : goal.loop-j-init
loop-j-init c = record {
  numbers = λ m below. absurd (omega (arith, below));
  rest = λ m _ _. ap (λ b. number_at b (2 * m)) c.zeros-part.ensures ∙ blank_number (2 * m);
}

pub loop-j-preserved : goal.loop-j-preserved
loop-j-preserved c = record {
  numbers = λ m below. elim (cases_eq m c.loop-j.j) [
    | inl here ↦ ap (λ x. number_at c.set_number.new.page.0 (2 * x)) here ∙ c.set_number.ensures.number ∙ c.number.ensures
        ∙ ap (λ x. number_at c.args.old.now.0 (2 * (250 * c.args.k + x + 1))) (sym here)
    | inr apart ↦ number_kept _ _ c.loop-j.j m _ c.set_number.ensures.others refl apart ∙ c.loop-j.invariant.numbers m (omega (arith, below, apart))
  ];
  rest = λ m late within.
      number_kept _ _ c.loop-j.j m _ c.set_number.ensures.others refl (λ e. omega (arith, e, late)) ∙ c.loop-j.invariant.rest m (omega (arith, late)) within;
}

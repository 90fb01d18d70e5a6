use Rattle.std.proofs.Common.{◌∙◌, sym, refl, arith}
use Rattle.page_codec.proofs.Taking.{form_exact, wrong_exact, read_taken, read_refused, taken_on}
use Rattle.page_codec.proofs.unpacker.Unpacker.take.Goals as goal

pub returns-in-Some-clause-form : goal.returns-in-Some-clause-form
returns-in-Some-clause-form c =
    rw (← c.self.view_is)
    (form_exact c.self.inside.place c.args.last c.args.page.now _ (omega arith) (omega arith) c.bad_place.ensures.bytes
    (rw c.number_at.ensures (sym (read_refused c.self.inside.place c.args.last c.args.page.now c.in-Some.at (sym c.bad_place.ensures.place ∙ c.in-Some.is)))))

pub returns-in-Some-clause-wrong : goal.returns-in-Some-clause-wrong
returns-in-Some-clause-wrong c =
    rw (← c.self.view_is)
    (wrong_exact c.self.inside.place c.args.last c.args.page.now _
    (rw c.number_at.ensures (sym (read_refused c.self.inside.place c.args.last c.args.page.now c.in-Some.at (sym c.bad_place.ensures.place ∙ c.in-Some.is)))))

pub returns-clause-form : goal.returns-clause-form
returns-clause-form c =
    rw (← c.self.view_is)
    (form_exact c.self.inside.place c.args.last c.args.page.now _ (omega arith) (omega arith) c.bad_place.ensures.bytes
    (rw c.of.ensures (sym (read_taken c.self.inside.place c.args.last c.args.page.now (sym c.bad_place.ensures.place ∙ c.in_default.is)))))

pub returns-clause-wrong : goal.returns-clause-wrong
returns-clause-wrong c =
    rw (← c.self.view_is)
    (wrong_exact c.self.inside.place c.args.last c.args.page.now _
    (rw c.of.ensures (sym (read_taken c.self.inside.place c.args.last c.args.page.now (sym c.bad_place.ensures.place ∙ c.in_default.is)))))

pub returns-clause-history : goal.returns-clause-history
returns-clause-history c =
    λ pages items taken.
    taken_on _ pages items c.args.last c.args.page.now _ _ c.requires taken ((returns-clause-form c c.of.result.items).1 (rw c.of.ensures refl)) (rw (← c.self.view_is) refl) refl

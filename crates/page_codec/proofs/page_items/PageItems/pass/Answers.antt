use Rattle.page_codec.proofs.Scan.{next_of, passed_one}
use Rattle.page_codec.proofs.page_items.PageItems.pass.Goals as goal

pub invariant_of-self : goal.invariant_of-self
invariant_of-self c =
    let n = next_of c.self.inside.at c.self.inside.end c.characters.result c.self.inside.page.0 c.self.invariant.0 c.in-len1-up.len_at_least c.self.invariant.2 c.characters.ensures in
    (n.within, c.self.invariant.1, n.good)

pub returns-clause-passed : goal.returns-clause-passed
returns-clause-passed c = λ passed.
    let n = next_of c.self.inside.at c.self.inside.end c.characters.result c.self.inside.page.0 c.self.invariant.0 c.in-len1-up.len_at_least c.self.invariant.2 c.characters.ensures in
    rw (← c.self.view_is) (passed_one c.self.inside.at c.self.inside.end c.characters.result c.self.inside.page.0 n)

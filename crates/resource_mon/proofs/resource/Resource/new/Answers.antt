use Rattle.std.proofs.Common.{rules, None, refl}
use Rattle.resource_mon.proofs.resource.Resource.new.Goals as goal

pub invariant_of-result : goal.invariant_of-result
invariant_of-result g c = rw c.new.ensures.waiting_is record {
  in_use = tt;
  unused = λ k below none not_handed. (let at = c.from_fn.ensures.items.at k None below in search (rules, at.2));
  handed = λ k e. cc;
}

pub returns-clause-history : goal.returns-clause-history
returns-clause-history g c = rw c.new.ensures.waiting_is record {
  in_order = refl;
  one_holder = refl;
  idle = λ e. refl;
  each_once = tt;
  handed_to_holder = λ p e. cc;
}

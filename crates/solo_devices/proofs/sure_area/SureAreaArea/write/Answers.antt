use Rattle.std.proofs.Common.{◌≡◌, ℕ, List, Some, map, length, slice_set, ap, subst, sym, ◌∙◌}
use Rattle.std.proofs.lemmas.List.{map-set}
use Rattle.std.proofs.lemmas.List.Elements.{All-set}
use Rattle.solo_base.specs.declared.page.TheConstants.{PAGE_LENGTH}
use Rattle.solo_devices.specs.Area.{page_bytes, AreWhole}
use Rattle.solo_devices.proofs.sure_area.SureAreaArea.write.Goals as goal

pub returns-clause-page : goal.returns-clause-page
returns-clause-page c = record {
  told = λ pages is.
      let same : map page_bytes c.args.self.now.pages.items ≡ pages = cc in
      rw c.bytes.ensures.bytes
      (ap Some (map-set page_bytes c.args.self.now.pages.items c.args.n c.args.page.now ∙ ap (λ all. slice_set all c.args.n (page_bytes c.args.page.now)) same));
  untold = λ is. cc;
}

pub invariant_of-self-clause-whole : goal.invariant_of-self-clause-whole
invariant_of-self-clause-whole c = rw c.bytes.ensures.bytes
    (subst AreWhole (sym (map-set page_bytes c.args.self.now.pages.items c.args.n c.args.page.now))
    (All-set (λ (page : List ℕ). length page ≡ PAGE_LENGTH) (map page_bytes c.args.self.now.pages.items) c.args.n c.args.page.now.0 c.bytes.ensures.length c.args.self.now.whole))

use Rattle.disk_pages.proofs.BitMaps.{writes_copies}
use Rattle.disk_pages.proofs.page_map.PageMap.to_pages.Goals as goal

pub returns : goal.returns
returns c =
    let map = c.self.inside in
    let written = writes_copies map.low map.high _ _ c.args.self.now map.least map.free c.self.invariant c.self.view_is
    c.page_of.ensures.bytes c.page_of-2.ensures.bytes c.page_of.ensures.page c.page_of-2.ensures.page in
    record {
      bits = written.bits;
      format = written.format;
      pages = written.pages;
      read_again = written.read_again;
      written_again = written.written_again;
    }

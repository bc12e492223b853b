-- The parts hold where what is lent is accepted, and where they all hold it is.
use Rattle.words.proofs.Says.{yes_holds, says_same}
use Rattle.ledger.specs.Ledger.{header, rec}
use Rattle.memory.specs.Memory.{frame}
use Rattle.accept.proofs.Parts.{all_pages, all_rules}
use Rattle.accept.proofs.accepts.Goals as goal

pub returns : goal.returns
returns c =
    let g = c.args in
    says_same c.pages_ok.result
    (λ z.
    record {
      lent = yes_holds c.lent.result c.lent.ensures c.if-not-lent.false;
      rules =
          all_rules g.b (header g.led.now) (rec g.led.now) (frame g.mem.now) z
          (yes_holds c.header_ok.result c.header_ok.ensures c.if-not-header_ok.false)
          (yes_holds c.counts_ok.result c.counts_ok.ensures c.if-not-counts_ok.false);
    })
    (λ x. all_pages g.b (header g.led.now) (rec g.led.now) (frame g.mem.now) x.rules) c.pages_ok.ensures

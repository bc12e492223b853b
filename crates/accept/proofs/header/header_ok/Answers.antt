use Prim.Native.Nat.{◌+◌}
use Rattle.words.proofs.Says.{yes_holds, says_same}
use Rattle.machine.specs.Machine.{map_start, map_words}
use Rattle.accept.proofs.Words.{header_shown, to_zeros, from_zeros}
use Rattle.accept.proofs.header.header_ok.Goals as goal

pub returns : goal.returns
returns c =
    let shown = header_shown c.args.led.now c.requires in
    says_same c.all_zero.result
    (λ z.
    record {
      runs = yes_holds c.running_ok.result c.running_ok.ensures c.if-not-running_ok.false;
      free_map = yes_holds c.map_ok.result c.map_ok.ensures c.if-not-map_ok.false;
      rest = to_zeros shown (map_start + map_words) z;
    })
    (λ x. from_zeros shown (map_start + map_words) x.rest) c.all_zero.ensures

-- `word_in` meets its contract: the law of the four tables.
use Rattle.std.proofs.Common.{◌≡◌, ◌/◌, ◌%◌, bit_xor, refl, arith, rules}
use Rattle.crc32.proofs.Laws.{word_by}
use Rattle.crc32.proofs.word_in.Goals as goal

pub returns : goal.returns
returns c =
    let y = bit_xor c.args.c c.args.w in
    let e : c.from.result ≡ y % 256 = search rules in
    let f : c.from-2.result ≡ y / 256 % 256 = search rules in
    let g : c.from-3.result ≡ y / 65536 % 256 = search rules in
    let h : c.from-4.result ≡ y / 16777216 % 256 = search rules in
    rw (e, f, g, h) (word_by c.args.t.now c.requires c.args.c c.args.w y refl (omega arith) (omega arith))

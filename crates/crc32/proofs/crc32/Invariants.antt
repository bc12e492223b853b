-- `crc32` meets its contract. The loops' invariant: what is in, and then the bytes that are left, make the whole.
use Rattle.std.proofs.Common.{◌≡◌, ◌*◌, drop}
use Rattle.words.specs.Bytes.{word_bytes}
use Rattle.crc32.specs.Crc32.{bytes_in, ones}
use Rattle.crc32.proofs.crc32.Given as goal

abbrev pub invariant-loop-w : goal.invariant-loop-w
invariant-loop-w l = bytes_in l.c (drop (word_bytes * l.w-index) l.bytes) ≡ bytes_in ones l.bytes

abbrev pub invariant-loop-x : goal.invariant-loop-x
invariant-loop-x l = bytes_in l.c (drop l.x-index l.rest) ≡ bytes_in ones l.bytes

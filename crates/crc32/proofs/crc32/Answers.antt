use Rattle.std.proofs.Common.{◌≡◌, ◌+◌, ◌-◌, ◌*◌, ◌/◌, [], length, get_or, take, drop, drop_of_length-le, refl, sym, ap, ◌∙◌, arith}
use Rattle.crc32.specs.Crc32.{bytes_in, ones, crc32}
use Rattle.crc32.proofs.Laws.{chunk_at, next_word, next_byte}
use Rattle.crc32.proofs.crc32.Goals as goal

pub loop-w-init : goal.loop-w-init
loop-w-init c = refl

pub loop-w-preserved : goal.loop-w-preserved
loop-w-preserved c =
    let bytes = c.args.bytes.now in
    let l = c.loop-w in
    let p = get_or c.as_chunks.result.0.now l.w-index [] in
    let e : p ≡ take 4 (drop (4 * l.w-index) bytes)
    = ap (λ ws. get_or ws l.w-index []) c.as_chunks.ensures.front ∙ chunk_at (length bytes / 4) l.w-index bytes (omega arith) in
    ap (λ r. bytes_in r (drop (4 * (l.w-index + 1)) bytes)) c.word_in-c.ensures
    ∙ sym (next_word l.c bytes p l.w-index _ (λ j. omega (arith, c.type_inv.bytes j)) (omega arith) e c.from_le_bytes.ensures)
    ∙ l.invariant

pub loop-x-init : goal.loop-x-init
loop-x-init c =
    let bytes = c.args.bytes.now in
    ap (bytes_in c.loop-w.c) (c.as_chunks.ensures.back ∙ ap (λ i. drop i bytes) (omega arith)) ∙ c.loop-w.invariant

pub loop-x-preserved : goal.loop-x-preserved
loop-x-preserved c =
    let rest = c.as_chunks.result.1.now in
    let l = c.loop-x in
    ap (λ r. bytes_in r (drop (l.x-index + 1) rest)) c.byte_in-c.ensures ∙ sym (next_byte l.c rest l.x-index (omega arith)) ∙ l.invariant

pub returns : goal.returns
unfolding crc32 bytes_in
returns c =
    let rest = c.as_chunks.result.1.now in
    let l = c.loop-x in
    ap (λ r. ones - r) (ap (bytes_in l.c) (sym (drop_of_length-le rest {i = l.x-index} (omega arith))) ∙ l.invariant)

-- `slices` meets its contract: the tables are computed from their rule, and compared.
use mathlib.Core.Path.{refl}
use Rattle.words.specs.Words.{bit, sum_below}
use Rattle.crc32.specs.Crc32.{mirrored, bit_in, bits_in}
use Rattle.crc32.specs.Slices.{slice_at}
use Rattle.crc32.proofs.Table.{with, table, tables, rule}
use Rattle.crc32.proofs.slices.slices.Goals as goal

pub returns : goal.returns
unfolding mirrored bit_in bits_in slice_at bit sum_below with table tables
returns c = rule _ refl

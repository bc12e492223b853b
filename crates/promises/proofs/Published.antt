-- Box A's shift is played as document 01 says it, and the published vectors are met. Assumes nothing.
use lib.ListN.{get_or}
use Rattle.words.proofs.Lists.{listed_all}
use Rattle.sha256.proofs.Vectors.{abc, jefe}
use Rattle.ledger.specs.Names.{key_words}
use Rattle.box_a.proofs.Table.{table}
use Rattle.promises.specs.Published.{ShiftIsPlayed, AbcIsPublished, JefeIsPublished}

-- a key of eight words is the list of them
pub shift_is_played : ShiftIsPlayed
shift_is_played key v e =
    rw (listed_all key_words key e) at
    (table (get_or key 0 0) (get_or key 1 0) (get_or key 2 0) (get_or key 3 0) (get_or key 4 0) (get_or key 5 0) (get_or key 6 0) (get_or key 7 0) v)

pub abc_is_published : AbcIsPublished
abc_is_published = abc

pub jefe_is_published : JefeIsPublished
jefe_is_published = jefe

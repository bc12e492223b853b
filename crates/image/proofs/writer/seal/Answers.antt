use Rattle.image.proofs.Made.{sealed_made}
use Rattle.image.proofs.writer.seal.Goals as goal

pub returns : goal.returns
returns c = sealed_made _ c.told-block c.crc32-check.ensures c.put_word_at.ensures

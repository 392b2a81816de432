use Rattle.image.proofs.Decoding.{decodes}
use Rattle.image.proofs.decoder.decode.Goals as goal

pub returns-clause-exactly : goal.returns-clause-exactly
returns-clause-exactly c = decodes c.args.words.now

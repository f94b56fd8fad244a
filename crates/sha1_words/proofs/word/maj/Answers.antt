-- `sha1_words::word::maj` meets its contract.
use Rattle.sha1_words.proofs.Functions.{maj-short}
use Rattle.sha1_words.proofs.word.maj.Goals as goal

pub returns : goal.returns
returns c = maj-short c.args.x c.args.y c.args.z

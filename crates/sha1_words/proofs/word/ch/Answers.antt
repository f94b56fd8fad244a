-- `sha1_words::word::ch` meets its contract.
use Rattle.sha1_words.proofs.Functions.{ch-short}
use Rattle.sha1_words.proofs.word.ch.Goals as goal

pub returns : goal.returns
returns c = ch-short c.args.x c.args.y c.args.z c.ranges.x.fits c.ranges.z.fits

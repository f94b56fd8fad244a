-- `sha1_compress::compress::kept_words_are_the_schedules`: the law of the words kept.
use Rattle.sha1_compress.proofs.Schedule.{kept}
use Rattle.sha1_compress.proofs.compress.kept_words_are_the_schedules.Goals as goal

pub returns : goal.returns
returns c = record { kept = kept }

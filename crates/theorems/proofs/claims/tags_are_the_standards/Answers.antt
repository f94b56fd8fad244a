use Rattle.theorems.proofs.Tags.{tags-are-the-standards}
use Rattle.theorems.proofs.claims.tags_are_the_standards.Goals as goal

pub returns : goal.returns
returns c = tags-are-the-standards

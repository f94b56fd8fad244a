use Rattle.theorems.proofs.Required.{required-means-required}
use Rattle.theorems.proofs.claims.required_means_required.Goals as goal

pub returns : goal.returns
returns c = required-means-required

-- `gcm::tag::hidden` meets its contract.
use mathlib.Core.Path.{◌≡◌}
use lib.ListN.{length}
use Rattle.gcm.proofs.Counters.{hidden-is}
use borrow.Author.Rules.{rules}
use Rattle.gcm.proofs.tag.hidden.Goals as goal

pub returns : goal.returns
returns c =
    let twelve : length c.args.iv ≡ 12 = search rules in
    let sixteen : length c.args.hash ≡ 16 = search rules in
    let a = c.args in
    hidden-is a.key a.iv twelve a.hash _ sixteen c.crypt_from.ensures

-- `front::open::in_stream` meets its contract.
use Rattle.front.proofs.Placing.{no_stream, no_index, with-index, is-placed}
use borrow.Author.Rules.{rules}
use Rattle.front.proofs.open.in_stream.Goals as goal

pub returns-in_default : goal.returns-in_default
returns-in_default c =
    let a = c.args in record {
      value = no_stream a.way a.session.now a.packet.now a.layout _ c.ssrc.ensures _ c.place_of.ensures.value c.in_default.is;
      in_stream = tt;
    }

pub judge-requires : goal.judge-requires
judge-requires c = rw c.in-Some.is at c.place_of.ensures.inside

pub returns-in_err-index-clause-value : goal.returns-in_err-index-clause-value
returns-in_err-index-clause-value c =
    let a = c.args in
    let o = no_index a.way a.session.now a.packet.now a.layout _ c.ssrc.ensures _ c.place_of.ensures.value _ c.in-Some.is _ _ c.sequence_number.ensures c.judge.ensures _ c.in_err-index.was in
    search (rules, o)

pub returns : goal.returns
returns c =
    let a = c.args in record {
      value = with-index a.way a.session.now a.packet.now a.layout _ c.ssrc.ensures _ c.place_of.ensures.value _ c.in-Some.is _ _ c.sequence_number.ensures c.judge.ensures _ c.in_ok-index.was;
      in_stream = is-placed a.way a.session.now a.packet.now a.layout _ c.ssrc.ensures _ c.place_of.ensures.value _ c.in-Some.is _ _ c.sequence_number.ensures c.judge.ensures _ c.in_ok-index.was
          (rw c.in-Some.is at c.place_of.ensures.inside) (search (rules, c.sequence_number));
    }

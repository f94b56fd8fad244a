-- `sha1_words::word::Stage::k` meets its contract, a stage at a time.
use Rattle.std.proofs.Common.{arith, ◌≡◌, ◌/◌, sym, ap, ◌∙◌}
use Rattle.sha1_words.specs.Stages.{stage_number}
use Rattle.sha1_words.specs.Words.{k_of}
use Rattle.sha1_words.proofs.Stages.{stage0, stage1, stage2, stage3}
use Rattle.sha1_words.proofs.word.Stage.k.Goals as goal

pub returns-in-First : goal.returns-in-First
unfolding k_of
returns-in-First c = λ t e. sym (stage0 t _ _ _ _ (e ∙ ap stage_number c.in-First.is))

pub returns-in-Second : goal.returns-in-Second
unfolding k_of
returns-in-Second c = λ t e. sym (stage1 t _ _ _ _ (e ∙ ap stage_number c.in-Second.is))

pub returns-in-Third : goal.returns-in-Third
unfolding k_of
returns-in-Third c = λ t e. sym (stage2 t _ _ _ _ (e ∙ ap stage_number c.in-Third.is))

pub returns-in-Fourth : goal.returns-in-Fourth
unfolding k_of
returns-in-Fourth c = λ t e. let s : t / 20 ≡ 3 = e ∙ ap stage_number c.in-Fourth.is in sym (stage3 t _ _ _ _ (omega arith))

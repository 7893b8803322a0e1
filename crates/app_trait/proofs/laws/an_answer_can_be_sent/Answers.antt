use Rattle.app_trait.specs.ReplyLaws.{IsResponseFor-reply_after, IsSendable-proper}
use Rattle.app_trait.proofs.laws.an_answer_can_be_sent.Goals as goal

pub returns : goal.returns
returns c = record { stands = IsResponseFor-reply_after; sends = IsSendable-proper }

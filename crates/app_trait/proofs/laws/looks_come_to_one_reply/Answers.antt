use Rattle.app_trait.proofs.KeptLemmas.{kept_next}
use Rattle.app_trait.specs.ReplyLaws.{reply_to-is, reply_after-look, reply_after-answer, SawFound-next}
use Rattle.app_trait.proofs.laws.looks_come_to_one_reply.Goals as goal

pub returns : goal.returns
returns c = record {
  begins = reply_to-is;
  looks = λ moves folder request ends. reply_after-look moves ends folder request;
  answers = reply_after-answer;
  sees = SawFound-next;
  keeps = kept_next;
}

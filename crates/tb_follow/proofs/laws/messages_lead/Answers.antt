use Rattle.tb_follow.proofs.Led.{messages_lead}
use Rattle.tb_follow.proofs.laws.messages_lead.Goals as goal

pub returns : goal.returns
returns c = messages_lead

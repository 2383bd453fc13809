use Rattle.std.proofs.Common.{ap, sym}
use Rattle.tb_io.proofs.Written.{written_as}
use Rattle.tb_session.specs.ReplyTexts.{reply_text}
use Rattle.tb_session.proofs.reply.Reply.write.Goals as goal

pub returns-in-BatchRefused : goal.returns-in-BatchRefused
returns-in-BatchRefused g c = written_as {w = c.write_batch_refusal.result} (ap reply_text (sym c.in-BatchRefused.is)) c.write_batch_refusal.ensures.written

pub returns-in-Stats : goal.returns-in-Stats
returns-in-Stats g c = written_as {w = c.write_stats.result} (ap reply_text (sym c.in-Stats.is)) c.write_stats.ensures.written

pub returns-in-NoSuchRelease : goal.returns-in-NoSuchRelease
returns-in-NoSuchRelease g c = written_as {w = c.write_number.result} (ap reply_text (sym c.in-NoSuchRelease.is)) c.write_number.ensures.written

pub returns-in-Withdrawn : goal.returns-in-Withdrawn
returns-in-Withdrawn g c = written_as {w = c.write_number-in-Withdrawn.result} (ap reply_text (sym c.in-Withdrawn.is)) c.write_number-in-Withdrawn.ensures.written

pub returns-in-EditRefused : goal.returns-in-EditRefused
returns-in-EditRefused g c = written_as {w = c.write_fault.result} (ap reply_text (sym c.in-EditRefused.is)) c.write_fault.ensures.written

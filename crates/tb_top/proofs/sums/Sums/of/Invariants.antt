use Rattle.std.proofs.Common.{◌≡◌, take}
use Rattle.tb_top.specs.Summaries.{byte_sum, line_feeds}
use Rattle.tb_top.proofs.sums.Sums.of.Given as goal

-- the sums of the bytes so far
abbrev pub invariant-loop-byte : goal.invariant-loop-byte
invariant-loop-byte l = record {
  feeds : l.line_feeds ≡ line_feeds (take l.byte-index l.piece);
  bytes : l.byte_sum ≡ byte_sum (take l.byte-index l.piece);
}

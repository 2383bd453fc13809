-- The custodian of a board who writes its batches ahead, as it is seen.
use Rattle.tb_ahead.specs.Keepers.{KeeperValue, keeper}
use Rattle.tb_session.specs.Parties.{seen_by, state_of}
use Rattle.tb_session.specs.declared.party.Party.{Party}

-- release 0 of its chain and where it stands, beside what it writes ahead into
abbrev pub keeper_of : {W : Type 0} → Party → W → KeeperValue W
keeper_of one ahead = keeper (seen_by one).start.base (state_of one) ahead

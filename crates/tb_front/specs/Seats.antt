-- What a holder's seat says of it.
use Rattle.std.specs.Prelude.{◌≡◌, []}
use Rattle.atomic_table.specs.declared.shared.Seat.{Seat}
use Rattle.tb_front.specs.declared.view.Role.{Role}
use Rattle.tb_front.specs.declared.view.View.{View}
use Rattle.tb_front.specs.Chain.{view}
use Rattle.tb_front.specs.Holders.{Holder}

-- the holder that has a seat
abbrev pub holder_of : {T E S : Type 0} → Seat T (View E S) → Holder E S
holder_of s = record { name = s.table_id; start = s.me.0.base; list = s.me.0.list }

-- a seat has a role, and what a join left in it was told: it isn't in it any more
abbrev pub IsAs : {T E S : Type 0} → Role → Seat T (View E S) → Type 0
IsAs role s = s.me ≡ (view role s.me.0.base s.me.0.list, [])

use Rattle.std.proofs.Common.{◌≡◌, map, take, fold}
use Rattle.clap.specs.Words.{app_of, new_app}
use Rattle.tb_words.specs.Positions.{with_position}
use Rattle.tb_words.proofs.positions.command.Given as goal

-- the positions so far are the command's arguments
abbrev pub invariant-loop-place : goal.invariant-loop-place
invariant-loop-place l = app_of l.command ≡ fold with_position (new_app l.name) (map (λ s. s.now) (take l.place-index l.places))

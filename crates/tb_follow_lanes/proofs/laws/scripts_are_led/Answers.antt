use Rattle.tb_follow_lanes.proofs.Led.{scripts_are_led}
use Rattle.tb_follow_lanes.proofs.laws.scripts_are_led.Goals as goal

pub returns : goal.returns
returns c = scripts_are_led

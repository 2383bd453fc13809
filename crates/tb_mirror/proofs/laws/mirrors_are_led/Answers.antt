use Rattle.tb_mirror.proofs.Led.{mirrors_are_led}
use Rattle.tb_mirror.proofs.laws.mirrors_are_led.Goals as goal

pub returns : goal.returns
returns c = mirrors_are_led

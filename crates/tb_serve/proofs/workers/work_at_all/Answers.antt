use Rattle.std.proofs.Common.{◌≡◌, ℕ, slice_index_or, subst}
use Rattle.tb_front.specs.Holders.{Name}
use Rattle.tb_model.specs.Setups.{SetupValue}
use Rattle.tb_serve.specs.Ports.{PortValue}
use Rattle.tb_serve.specs.Workers.{HasWorkedAt}
use Rattle.tb_serve.proofs.workers.work_at_all.Goals as goal

-- what a call was given and left
moved : (name : Name) (setup : SetupValue) (most : ℕ) (x y a b : PortValue) → a ≡ x → b ≡ y → HasWorkedAt name setup most a b
    → HasWorkedAt name setup most x y
moved name setup most x y a b p q w = subst (λ (s : PortValue). HasWorkedAt name setup most x s) q (subst (λ
    (s : PortValue). HasWorkedAt name setup most s b) p w)

pub returns : goal.returns
returns g c = record {
  same_length = c.for_each_mut.auto.s;
  at = λ i d lt.
      let k = (c.for_each_mut.ensures i d lt).1 in
      moved g.B.Named.name c.args.setting.now.setup.now c.args.sessions (slice_index_or c.args.ports.now i d)
      (slice_index_or c.for_each_mut.new.s i d) k.argument.now k.after_call.now k.argument_is k.left k.call;
}

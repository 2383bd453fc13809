use Rattle.tb_top.proofs.load.read_bytes.Goals as goal

pub returns : goal.returns
returns g c = record {
  within = rw c.most_bytes_of-most.ensures at c.read_within.ensures.within;
  loads = rw c.most_bytes_of-most.ensures at c.read_within.ensures.loads;
}

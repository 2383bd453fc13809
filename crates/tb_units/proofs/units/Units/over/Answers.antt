use Rattle.tb_units.specs.declared.fault.UnitsFile.TheVariants.{Dwellings, Links}
use Rattle.tb_units.specs.Dwellings.{dwellings_of}
use Rattle.tb_units.specs.Links.{links_of}
use Rattle.tb_units.proofs.Sound.{good-dwellings, good-links, said, sound, whole-as}
use Rattle.tb_units.proofs.units.Units.over.Goals as goal

pub chains_of-requires-clause-known : goal.chains_of-requires-clause-known
chains_of-requires-clause-known c = (good-links c.args.most c.args.dwellings c.args.file.now c.in-Ok.read c.requires.within (said Links (links_of c.args.most c.args.dwellings c.args.file.now) c.in-Ok.read c.in-Ok.ensures.ok)).known

pub chains_of-requires-clause-own : goal.chains_of-requires-clause-own
chains_of-requires-clause-own c = let (keys, bytes, is) = c.requires.read in (good-dwellings c.args.most keys bytes c.args.dwellings c.requires.within (said Dwellings (dwellings_of c.args.most keys bytes) c.args.dwellings is)).own

pub chains_of-requires-clause-few : goal.chains_of-requires-clause-few
chains_of-requires-clause-few c = (good-links c.args.most c.args.dwellings c.args.file.now c.in-Ok.read c.requires.within (said Links (links_of c.args.most c.args.dwellings c.args.file.now) c.in-Ok.read c.in-Ok.ensures.ok)).few

pub of-requires : goal.of-requires
of-requires c = (good-links c.args.most c.args.dwellings c.args.file.now c.in-Ok.read c.requires.within (said Links (links_of c.args.most c.args.dwellings c.args.file.now) c.in-Ok.read c.in-Ok.ensures.ok)).few

pub invariant_of-result : goal.invariant_of-result
invariant_of-result c =
    let (keys, bytes, is) = c.requires.read in
    let ds = good-dwellings c.args.most keys bytes c.args.dwellings c.requires.within (said Dwellings (dwellings_of c.args.most keys bytes) c.args.dwellings is) in
    let ls = good-links c.args.most c.args.dwellings c.args.file.now c.in-Ok.read c.requires.within (said Links (links_of c.args.most c.args.dwellings c.args.file.now) c.in-Ok.read c.in-Ok.ensures.ok) in
    whole-as c.args.dwellings _ c.in-Ok.read _ _ _ c.in-Ok-to_list.ensures c.of.ensures (record { sound = sound c.args.dwellings c.in-Ok.read ds ls; chains = c.in-Ok-chains_of.ensures })

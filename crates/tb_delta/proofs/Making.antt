-- A change in a cube that holds the records before it.
use Rattle.std.proofs.Common.{◌≡◌, ◌<◌, Bool, true, List, ◌++◌, length, refl, sym, ap, ◌∙◌}
use Rattle.std.specs.Prelude.{All, Option, Some, None}
use Rattle.std.specs.Option.{ForSome, option_to_list}
use Rattle.tb_base.specs.declared.cells.Cell.{Cell}
use Rattle.tb_base.specs.declared.people.TheConstants.{MOST_PERSONS}
use Rattle.tb_base.specs.declared.records.Record.{Record}
use Rattle.tb_base.specs.Records.{Fits}
use Rattle.tb_model.specs.Cubes.{cube_of}
use Rattle.tb_cube.specs.Cubes.{cube_over, put_in, taken_out, CanPutIn, CanTakeOut, CubeValue, Holds}
use Rattle.tb_cube.proofs.Changes.{held-applied}
use Rattle.tb_cube.proofs.Holding.{can-put-after, can-take-out, of-some}
use Rattle.tb_release.specs.declared.edits.Change.{Change}
use Rattle.tb_release.specs.Results.{ChangeFits}
use Rattle.tb_delta.specs.Advancing.{with_change, CanMake}
use Rattle.tb_delta.proofs.Spots.{Spot}

-- a dense cube that holds some records is theirs
pub of-held : (cube : CubeValue) (records : List Record) → cube.dense ≡ true → Holds cube records → cube ≡ cube_over cube.shape cube.vars records
of-held cube records dense held =
    ap (λ (cells : List Cell). record cube { cells = cells }) held
    ∙ ap (λ (d : Bool). record cube { cells = cube_of cube.shape cube.vars records; dense = d }) dense

-- so it is after a change
of-applied : (cube : CubeValue) (before after : Option Record) (records : List Record) → cube.dense ≡ true → Holds (put_in after (taken_out before cube)) records
    → put_in after (taken_out before cube) ≡ cube_over cube.shape cube.vars records
of-applied cube None None records dense held = of-held cube records dense held
of-applied cube None (Some new) records dense held = of-held (put_in (Some new) cube) records dense held
of-applied cube (Some old) None records dense held = of-held (taken_out (Some old) cube) records dense held
of-applied cube (Some old) (Some new) records dense held = of-held (put_in (Some new) (taken_out (Some old) cube)) records dense held

can-take : (cube : CubeValue) (gone : Option Record) (first rest : List Record) → All (λ v. v < length cube.shape) cube.vars → ForSome gone (Fits cube.shape)
    → Holds cube (first ++ (option_to_list gone ++ rest)) → ForSome gone (CanTakeOut cube)
can-take cube None first rest there fits held = λ r is. cc
can-take cube (Some r) first rest there fits held = of-some (CanTakeOut cube) r (can-take-out cube first rest r there (fits r refl) held)

can-put : (cube : CubeValue) (old new : Option Record) (first rest : List Record) → ForSome old (CanTakeOut cube) → ForSome new (Fits cube.shape)
    → Holds cube (first ++ (option_to_list old ++ rest)) → length (first ++ rest) < MOST_PERSONS → ForSome new (CanPutIn (taken_out old cube))
can-put cube old None first rest can fits held few = λ r is. cc
can-put cube old (Some r) first rest can fits held few = of-some (CanPutIn (taken_out old cube)) r (can-put-after cube old r first rest can (fits r refl) held few)

-- a change can be made, and the cube is then that of the records after it
pub record Makes (cube : CubeValue) (change : Change) (new : List Record) : Type 0 where
  pub can : CanMake cube change
  pub leads : with_change cube change ≡ cube_over cube.shape cube.vars new

pub makes : (cube : CubeValue) (change : Change) (old new : List Record) → Spot old new change → All (λ v. v < length cube.shape) cube.vars → ChangeFits cube.shape change
    → cube.dense ≡ true → Holds cube old → Makes cube change new
makes cube change old new spot there fits dense held =
    let old_held : Holds cube (spot.first ++ (option_to_list change.before ++ spot.rest)) = held ∙ ap (cube_of cube.shape cube.vars) spot.before in
    let can_take : ForSome change.before (CanTakeOut cube) = can-take cube change.before spot.first spot.rest there fits.0 old_held in
    let new_held : Holds (with_change cube change) (spot.first ++ (option_to_list change.after ++ spot.rest)) =
    held-applied cube (with_change cube change) change.before change.after spot.first spot.rest refl can_take old_held in
    record {
      can = record {
        dense = dense;
        before = can_take;
        after = can-put cube change.before change.after spot.first spot.rest can_take fits.1 old_held spot.few;
      };
      leads = of-applied cube change.before change.after (spot.first ++ (option_to_list change.after ++ spot.rest)) dense new_held
          ∙ ap (cube_over cube.shape cube.vars) (sym spot.after);
    }

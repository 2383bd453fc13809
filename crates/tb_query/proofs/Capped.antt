-- A product of sizes that is cut off above the most places.
use Rattle.std.proofs.Common.{◌≡◌, ℕ, zero, suc, ◌*◌, ◌<◌, ◌≤◌, ⊎_elim, sym, ap, ◌∙◌, refl, arith}
use Rattle.std.proofs.Math.Nat.{min-eq_left, min-eq_right, mul-le-mul_left}
use Rattle.std.proofs.lemmas.Bool.{lt-ltb}
use Rattle.std.proofs.str.Laws.{order}
use Rattle.std.specs.Prelude.{map, nat_lt, min}
use Rattle.tb_model.specs.Schemas.{SchemaValue}
use Rattle.tb_model.specs.Queries.{QueryValue}
use Rattle.tb_model.specs.RowMajor.{product}
use Rattle.tb_model.proofs.TableLemmas.{size_of, length-places}
use Rattle.tb_query.specs.declared.limits.TheConstants.{MOST_PLACES}
use Rattle.tb_query.specs.Faults.{is_too_large}

above : (x r : ℕ) → 1000001 ≤ x → 1 ≤ r → 1000000 < x * r
above x r big some = let k : x * 1 ≤ x * r = mul-le-mul_left x some in omega (arith, k)

beyond : (x r : ℕ) → 1000001 ≤ x → nat_lt 1000000 (1000001 * r) ≡ nat_lt 1000000 (x * r)
beyond x zero big = let z : x * 0 ≡ 0 = omega arith in rw z refl
beyond x (suc r) big = lt-ltb 1000000 (1000001 * suc r) (above 1000001 (suc r) (omega arith) (omega arith)) ∙ sym (lt-ltb 1000000 (x * suc r) (above x (suc r) big (omega arith)))

pub capped : (x r : ℕ) → nat_lt 1000000 (min x 1000001 * r) ≡ nat_lt 1000000 (x * r)
capped x r =
    ⊎_elim
    (λ small. let e : min x 1000001 ≡ x = min-eq_left (omega arith) in rw e refl)
    (λ big. let e : min x 1000001 ≡ 1000001 = min-eq_right big in rw e (beyond x r big))
    (order x 1000001)

pub once : (n : ℕ) → 1 * n ≡ n
once n = omega arith

-- a table has as many places as the product of its dimensions' sizes
pub places_by_product : (schema : SchemaValue) (query : QueryValue) → nat_lt MOST_PLACES (product (map (size_of schema query) query.dimensions)) ≡ is_too_large schema query
places_by_product schema query = ap (nat_lt MOST_PLACES) (sym (length-places schema query))

use Rattle.std.proofs.Common.{◌≡◌, ℕ, ◌+◌, ◌*◌, ◌%◌, ◌^◌, ◌-◌, ◌≤◌, ◌<◌, Bool, eqb, List, length, take, replicate, ◌++◌, length-append, w32, refl, sym, ap, ap₂, ◌∙◌, arith}
use Rattle.std.specs.List.{sum}
use Rattle.std.specs.Simd.Lanes.{zip2, sel_l, chunk}
use Rattle.std.proofs.lemmas.Simd.{length-chunk, length-sel_l, length-zip2, tops_compared}
use Rattle.std.proofs.lemmas.List.Sums.{sum_by-append}
use Rattle.std.proofs.lemmas.List.{take_all}
use Rattle.std.proofs.Math.Nat.{mod-eq_of_lt}
use Rattle.tb_base.specs.declared.cells.Cell.{Cell}
use Rattle.tb_base.specs.declared.keys.TheConstants.{MOST_KEYS}
use Rattle.tb_base.specs.Tallies.{keys_at}
use Rattle.tb_base.proofs.LaneSums.{all-lanes, vector-added, keys-vector, length-keys, keys-at, ones-at, narrowed, each-narrowed, within-lanes}
use Rattle.tb_base.proofs.tallies.by_lanes.Goals as goal

pub loop-i-preserved : goal.loop-i-preserved
loop-i-preserved c =
    let at : ℕ = c.loop-i.i * 16 in
    let next : (c.loop-i.i + 1) * 16 ≡ at + 16 = omega arith in
    let room : at + 16 ≤ length c.args.places.now = omega (arith, c.requires.whole, c.loop-i-test.true) in
    let xs : List ℕ = chunk at 16 c.args.places.now in
    let ks : List ℕ = chunk at 16 c.args.keys.now in
    let long : length xs ≡ 16 = length-chunk at 16 c.args.places.now room in
    let keys_long : length ks ≡ 16 = length-chunk at 16 c.args.keys.now (omega (arith, room, c.requires.same)) in
    let hits : List Bool = zip2 eqb xs (replicate 16 c.args.place) in
    let hits_long : length hits ≡ 16 = length-zip2 eqb xs (replicate 16 c.args.place) long ∙ long in
    let more : keys_at c.args.place (take ((c.loop-i.i + 1) * 16) c.args.places.now) (take ((c.loop-i.i + 1) * 16) c.args.keys.now)
    ≡ keys_at c.args.place (take at c.args.places.now) (take at c.args.keys.now) ++ keys_at c.args.place xs ks
    = keys-vector c.args.place at 16 ((c.loop-i.i + 1) * 16) c.args.places.now c.args.keys.now c.requires.same next (omega (arith, room, next)) in
    record {
      counts =
          ap (λ ms. sum (zip2 (λ a b. (a + b) % 2 ^ 32) c.loop-i.counts (sel_l ms (replicate 16 1) (replicate 16 0))) % 2 ^ 32) (tops_compared w32 eqb xs (replicate 16 c.args.place))
          ∙ vector-added (2 ^ 32) (λ a b. (a + b) % 2 ^ 32) (λ a b. refl) c.loop-i.counts (sel_l hits (replicate 16 1) (replicate 16 0))
          (length (keys_at c.args.place (take at c.args.places.now) (take at c.args.keys.now))) (length (keys_at c.args.place xs ks))
          (c.loop-i.auto.counts.0 ∙ sym (length-sel_l hits (replicate 16 1) (replicate 16 0) hits_long hits_long ∙ hits_long))
          c.loop-i.invariant.counts (ones-at c.args.place 16 xs ks long keys_long)
          ∙ ap (λ n. n % 2 ^ 32) (sym (ap length more ∙ length-append (keys_at c.args.place (take at c.args.places.now) (take at c.args.keys.now)) (keys_at c.args.place xs ks)));
      sums =
          ap (λ ms. sum (zip2 (λ a b. (a + b) % 2 ^ 16) c.loop-i.sums (sel_l ms ks (replicate 16 0))) % 2 ^ 16) (narrowed _ _ (2 ^ 32 - 1) refl refl eqb 16 xs (replicate 16 c.args.place) long refl)
          ∙ vector-added (2 ^ 16) (λ a b. (a + b) % 2 ^ 16) (λ a b. refl) c.loop-i.sums (sel_l hits ks (replicate 16 0))
          (sum (keys_at c.args.place (take at c.args.places.now) (take at c.args.keys.now))) (sum (keys_at c.args.place xs ks))
          (c.loop-i.auto.sums.0 ∙ sym (length-sel_l hits ks (replicate 16 0) (hits_long ∙ sym keys_long) hits_long ∙ hits_long))
          c.loop-i.invariant.sums (keys-at c.args.place 16 xs ks long keys_long)
          ∙ ap (λ n. n % 2 ^ 16) (sym (ap sum more ∙ sum_by-append (λ (k : ℕ). k) (keys_at c.args.place (take at c.args.places.now) (take at c.args.keys.now)) (keys_at c.args.place xs ks)));
    }

pub overflow_cast-theirs : goal.overflow_cast-theirs
overflow_cast-theirs c = each-narrowed _ _ (2 ^ 32 - 1) (record { sfits = omega arith }) (record { sfits = omega arith }) eqb 16 (chunk (c.loop-i.i * 16) 16 c.args.places.now) (replicate 16 c.args.place)

pub returns : goal.returns
returns c =
    let at : ℕ = c.loop-i.i * 16 in
    let done : length c.args.places.now ≤ at = omega (arith, c.requires.whole, c.loop-i-test.false) in
    let all : keys_at c.args.place (take at c.args.places.now) (take at c.args.keys.now) ≡ keys_at c.args.place c.args.places.now c.args.keys.now
    = ap₂ (keys_at c.args.place) (take_all at c.args.places.now done) (take_all at c.args.keys.now (omega (arith, done, c.requires.same))) in
    let made : ℕ → ℕ → Cell = λ n s. record { count = n; key = s } in
    let few : length (keys_at c.args.place c.args.places.now c.args.keys.now) < 2 ^ 32 = omega (arith, length-keys c.args.place c.args.places.now c.args.keys.now, c.requires.few) in
    ap₂ made
    (all-lanes (2 ^ 32) (λ a b. (a + b) % 2 ^ 32) (λ a b. refl) c.loop-i.counts refl ∙ c.loop-i.invariant.counts ∙ ap (λ l. length l % 2 ^ 32) all ∙ mod-eq_of_lt few)
    (ap (λ n. n % MOST_KEYS) (all-lanes (2 ^ 16) (λ a b. (a + b) % 2 ^ 16) (λ a b. refl) c.loop-i.sums refl ∙ c.loop-i.invariant.sums ∙ ap (λ l. sum l % 2 ^ 16) all)
    ∙ within-lanes (sum (keys_at c.args.place c.args.places.now c.args.keys.now)))

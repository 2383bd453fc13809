-- Worked draws, a worked person and lines, computed from the definitions.
use Rattle.std.specs.Prelude.{◌≡◌, refl, [], ◌∷◌, codes, map}
use Rattle.std.specs.Fmt.{digits}
use Rattle.tb_gen.specs.Draws.{after, seed}
use Rattle.tb_gen.specs.Lines.{each_below}
use Rattle.tb_gen.specs.Generated.{recode_line, pvalue_line, generated_people}

first_states : map (λ n. after n 1) (1 ∷ 2 ∷ 3 ∷ 4 ∷ 5 ∷ []) ≡ 1015568748 ∷ 1586005467 ∷ 2165703038 ∷ 3027450565 ∷ 217083232 ∷ []
unfolding after
first_states = refl

generated_person : generated_people 1 1 ≡ codes "person,record_key,AREA,AGE,SEX,TENURE\n1,136,a0,19,2,3\n"
unfolding after each_below digits
generated_person = refl

greatest_age : recode_line 100 ≡ codes "AGE10,AGE,100,g10\n"
unfolding digits
greatest_age = refl

first_pvalue : pvalue_line 1 0 (seed 1 1) ≡ codes "1,0,-1\n"
unfolding after digits
first_pvalue = refl

start_after_the_last : seed 4294967295 2 ≡ 1
start_after_the_last = refl

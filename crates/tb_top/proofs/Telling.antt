-- What files tell.
use Rattle.std.proofs.Common.{Option, None, Some}
use Rattle.std.specs.Prelude.{IfSome}

-- what is true of any contents is true where the files tell them
pub always_told : {A : Type 0} (P : A → Type 0) (o : Option A) → ((x : A) → P x) → IfSome o P
always_told P None f = tt
always_told P (Some x) f = f x

-- what is true where the files tell what they hold
pub where_told : {A : Type 0} (P Q : A → Type 0) (o : Option A) → ((x : A) → P x → Q x) → IfSome o P → IfSome o Q
where_told P Q None f h = tt
where_told P Q (Some x) f h = f x h

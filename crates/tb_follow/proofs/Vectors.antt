-- Worked deliveries over the small setup's records.
use Rattle.std.proofs.Common.{◌≡◌, ℕ, List, [], ◌∷◌, refl}
use Rattle.std.specs.FinMap.{get-from_entries}
use Rattle.std.specs.Cmp.{nat_cmp_total}
use Rattle.tb_model.specs.Releases.{first_release}
use Rattle.tb_model.proofs.SmallSetup.{records, person}
use Rattle.tb_release.specs.Batches.{BatchValue}
use Rattle.tb_release.specs.declared.edits.Edit.{Edit}
use Rattle.tb_release.specs.declared.edits.Edit.TheVariants.{Add, Drop}
use Rattle.tb_release.specs.declared.fault.EditFaultKind.TheVariants as kind
use Rattle.tb_follow.specs.declared.message.Delivered.TheVariants as delivered
use Rattle.tb_follow.specs.declared.message.Message.{Message}
use Rattle.tb_follow.specs.Chains.{first_chain, release_at}
use Rattle.tb_follow.specs.Deliveries.{given}
use Rattle.tb_follow.specs.Followers.{FollowerValue, at_base, follower, restarted}

abbrev shape : List ℕ
shape = 2 ∷ 3 ∷ 2 ∷ []

-- a follower at release 0 with a threshold
abbrev at_first : ℕ → FollowerValue
at_first t = at_base shape (first_release 1000000 t records)

abbrev message : ℕ → Edit → Message
message number edit = record { number = number; edits = edit ∷ [] }

-- the message of release 1 drops a person, and that of release 2 adds one
abbrev one : Message
one = message 1 (Drop 104)

abbrev two : Message
two = message 2 (Add 105 30 (1 ∷ 0 ∷ 1 ∷ []))

-- that of release 2 comes first, and waits; that of release 1 leads to both
abbrev waiting : ℕ → FollowerValue
waiting t = follower (first_chain shape (first_release 1000000 t records)) (two ∷ [])

two_waits : (t : ℕ) → given 2 (at_first t) two ≡ record { follower = waiting t; answer = delivered.Kept 0 }
two_waits t = refl

abbrev after_both : ℕ → FollowerValue
after_both t = (given 3 (waiting t) one).follower

both_applied : (t : ℕ) → (given 3 (waiting t) one).answer ≡ delivered.Applied 2
both_applied t = simp (get-from_entries {X = ℕ} nat_cmp_total)

both_records : (t : ℕ) → (release_at (after_both t).chain).records
    ≡ person 101 200 (0 ∷ 0 ∷ 0 ∷ []) ∷ person 102 100 (0 ∷ 1 ∷ 0 ∷ []) ∷ person 103 20 (0 ∷ 2 ∷ 1 ∷ []) ∷ person 105 30 (1 ∷ 0 ∷ 1 ∷ []) ∷ []
both_records t = simp (get-from_entries {X = ℕ} nat_cmp_total)

both_window : (t : ℕ) → (after_both t).window ≡ []
both_window t = simp (get-from_entries {X = ℕ} nat_cmp_total)

-- memory for the delivered message alone: the one that waits stays, and is applied at any later
-- delivery; and without any memory nothing changes
stays : (t : ℕ) → (given 1 (waiting t) one).follower.window ≡ two ∷ []
stays t = refl

stays_applied : (t : ℕ) → (given 1 (given 1 (waiting t) one).follower one).answer ≡ delivered.Applied 2
stays_applied t = simp (get-from_entries {X = ℕ} nat_cmp_total)

no_memory : (t : ℕ) → given 0 (waiting t) one ≡ record { follower = waiting t; answer = delivered.Memory }
no_memory t = refl

-- a second message of a number that waits is given up
second_of_a_number : (t : ℕ) → given 2 (waiting t) (message 2 (Drop 101)) ≡ record { follower = waiting t; answer = delivered.Kept 0 }
second_of_a_number t = refl

-- one that drops nobody is refused, and leaves all as it was; one that waits is dropped instead
refused : (t : ℕ) → given 3 (waiting t) (message 1 (Drop 999)) ≡ record { follower = waiting t; answer = delivered.Refused 1 kind.NoSuchPerson }
refused t = refl

dropped_in_the_window : (t : ℕ) → (given 3 (given 1 (at_first t) (message 2 (Drop 104))).follower one).follower.window ≡ []
dropped_in_the_window t = refl

-- ---- numbers at release 2, to which two batches led
abbrev batch : BatchValue
batch = record { changes = []; rule_edits = [] }

abbrev at_two : ℕ → List Message → FollowerValue
at_two t window = follower (record { shape = shape; base = first_release 1000000 t records; batches = batch ∷ batch ∷ [] }) window

one_is_old : (t : ℕ) → given 2 (at_two t []) one ≡ record { follower = at_two t []; answer = delivered.Old 2 }
one_is_old t = refl

two_is_old : (t : ℕ) → given 2 (at_two t []) two ≡ record { follower = at_two t []; answer = delivered.Old 2 }
two_is_old t = refl

three_is_applied : (t : ℕ) → (given 2 (at_two t []) (message 3 (Drop 101))).answer ≡ delivered.Applied 3
three_is_applied t = refl

four_waits : (t : ℕ) → given 2 (at_two t []) (message 4 (Drop 101)) ≡ record { follower = at_two t (message 4 (Drop 101) ∷ []); answer = delivered.Kept 2 }
four_waits t = refl

last_that_waits : (t : ℕ) → given 2 (at_two t []) (message 66 (Drop 101)) ≡ record { follower = at_two t (message 66 (Drop 101) ∷ []); answer = delivered.Kept 2 }
last_that_waits t = refl

first_too_far : (t : ℕ) → given 2 (at_two t []) (message 67 (Drop 101)) ≡ record { follower = at_two t []; answer = delivered.Far 2 }
first_too_far t = refl

back_again : (t : ℕ) (window : List Message) → restarted (at_two t window) ≡ at_first t
back_again t window = refl

-- No reply but one is the line of a batch that is refused.
use Rattle.std.proofs.Common.{◌≡◌, ℕ, List, [], sym, ap, get_or, subst, arith}
use Rattle.tb_ahead.specs.Publishing.{batch_refusal_line}
use Rattle.tb_follow.specs.declared.message.Delivered.{Delivered}
use Rattle.tb_follow.specs.declared.message.Delivered.TheVariants as delivered
use Rattle.tb_follow.specs.Leading.{IsUnrefused}
use Rattle.tb_leader.specs.LeaderReplies.{answer_text}
use Rattle.tb_leader.specs.ReplyLines.{begun_line, edit_refusal_line, held_line, refused_line, restarted_line}
use Rattle.tb_rows.specs.FaultNames.{FaultNameValue}
use Rattle.tb_tables.specs.ReplyLines.{memory_line}

abbrev pub IsNoRefusal : List ℕ → Type 0
IsNoRefusal text = (edit : ℕ) (name : FaultNameValue) → ¬ (text ≡ batch_refusal_line edit name)

pub same_text : (text other : List ℕ) → text ≡ other → IsNoRefusal other → IsNoRefusal text
same_text text other same none = subst IsNoRefusal (sym same) none

pub empty_is_none : IsNoRefusal []
empty_is_none edit name same = let e : 0 ≡ 114 = ap (λ t. get_or t 0 0) same in omega (arith, e)

pub begun_is_none : (n : ℕ) → IsNoRefusal (begun_line n)
begun_is_none n edit name same = let e : 98 ≡ 114 = ap (λ t. get_or t 0 0) same in omega (arith, e)

pub held_is_none : (n : ℕ) → IsNoRefusal (held_line n)
held_is_none n edit name same = let e : 104 ≡ 114 = ap (λ t. get_or t 0 0) same in omega (arith, e)

pub restarted_is_none : IsNoRefusal restarted_line
restarted_is_none edit name same = let e : 115 ≡ 102 = ap (λ t. get_or t 2 0) same in omega (arith, e)

pub refused_is_none : IsNoRefusal refused_line
refused_is_none edit name same = let e : 108 ≡ 98 = ap (λ t. get_or t 8 0) same in omega (arith, e)

pub edit_is_none : (fault : FaultNameValue) → IsNoRefusal (edit_refusal_line fault)
edit_is_none fault edit name same = let e : 101 ≡ 98 = ap (λ t. get_or t 8 0) same in omega (arith, e)

pub memory_is_none : IsNoRefusal memory_line
memory_is_none edit name same = let e : 109 ≡ 114 = ap (λ t. get_or t 0 0) same in omega (arith, e)

pub unrefused_is_none : (answer : Delivered) → IsUnrefused answer → IsNoRefusal (answer_text answer)
unrefused_is_none (delivered.Applied n) is edit name same = let e : 97 ≡ 114 = ap (λ t. get_or t 0 0) same in omega (arith, e)
unrefused_is_none (delivered.Kept n) is edit name same = let e : 107 ≡ 114 = ap (λ t. get_or t 0 0) same in omega (arith, e)
unrefused_is_none (delivered.Old n) is edit name same = let e : 111 ≡ 114 = ap (λ t. get_or t 0 0) same in omega (arith, e)
unrefused_is_none (delivered.Far n) is edit name same = let e : 102 ≡ 114 = ap (λ t. get_or t 0 0) same in omega (arith, e)
unrefused_is_none (delivered.Refused at kind) is edit name same = is
unrefused_is_none delivered.Memory is edit name same = memory_is_none edit name same

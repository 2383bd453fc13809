-- The replies to a query's line.
use Rattle.std.proofs.Common.{◌≡◌, refl, ap, ℕ, ◌+◌, ◌≤◌, List, Option, Some, None, inl, inr, arith}
use Rattle.std.specs.Prelude.{Result, Ok, Err, IfOk}
use Rattle.std.specs.Option.{option_map_or}
use Rattle.std.specs.Result.{result_unwrap_or}
use Rattle.tb_base.specs.declared.memory.Memory.{Memory}
use Rattle.tb_model.specs.Queries.{QueryValue}
use Rattle.tb_model.specs.Setups.{SetupValue}
use Rattle.tb_query.specs.Faults.{Reads, IsRefused}
use Rattle.tb_query.specs.FaultNames.{fault_name, fault_position}
use Rattle.tb_query.specs.declared.fault.QueryFault.{QueryFault}
use Rattle.tb_rows.specs.FaultNames.{FaultNameValue}
use Rattle.tb_lines.specs.Outputs.{ReplyValue}
use Rattle.tb_tables.specs.Answers.{AnswersBy}
use Rattle.tb_tables.specs.ReplyLines.{memory_line, refusal_line}
use Rattle.tb_tables.specs.ReplyTexts.{fault_text}

module _ (setup : SetupValue) (whole : QueryValue → ReplyValue) (line : List ℕ) (p q : ℕ) where
  -- a line that reads as a query, whose whole text was made or wasn't
  pub by-text : (query : QueryValue) (made : Result (List ℕ) Memory) → Reads setup.schema line query → IfOk made (λ text. text ≡ (whole query).text) → q ≤ p + (whole query).price
      → AnswersBy setup whole line (result_unwrap_or made memory_line) p q
  by-text query (Ok text) reads same cost = ((whole query).price, inl (query, reads, inl (ap (λ t. record { text = t; price = (whole query).price }) same)), cost)
  by-text query (Err e) reads same cost = ((whole query).price, inl (query, reads, inr refl), cost)

  by-name : (fault : QueryFault) (named : Option FaultNameValue) → IsRefused setup.schema line fault → fault_name fault ≡ named → q ≡ p
      → AnswersBy setup whole line (option_map_or (λ name. refusal_line name (fault_position fault)) named memory_line) p q
  by-name fault (Some name) refused is free = (0, inr (refl, inl (fault, name, refused, is, refl)), omega (arith, free))
  by-name fault None refused is free = (0, inr (refl, inr refl), omega (arith, free))

  -- a line with a fault
  pub by-fault : (fault : QueryFault) → IsRefused setup.schema line fault → q ≡ p → AnswersBy setup whole line (fault_text fault) p q
  by-fault fault refused free = by-name fault (fault_name fault) refused refl free
